-- What the types of a record's fields don't say: that the lengths of its lists and texts have room in their bytes, that
-- each run has a block, and that only an upload and a part have runs.
use Rattle.std.specs.Prelude.{◌≡◌, ◌<◌, ◌^◌, ℕ, List, [], length}
use Rattle.std.specs.List.{AllByRecursion}
use Rattle.glacier_extents.specs.declared.run.Run.{Run}
use Rattle.glacier_vault.specs.declared.event.Event.{Event}
use Rattle.glacier_vault.specs.declared.event.Event.TheVariants as event
use Rattle.glacier_records.specs.declared.kept.Blob.{Blob}
use Rattle.glacier_records.specs.declared.kept.Kept.{Kept}
use Rattle.glacier_records.specs.declared.kept.Kept.TheVariants as kept
use Rattle.glacier_records.specs.declared.records.Item.{Item}
use Rattle.glacier_records.specs.declared.records.Item.TheVariants as item

-- each run has a block
abbrev pub AreFull : List Run → Type 0
AreFull runs = AllByRecursion (λ run. 0 < run.count) runs

-- leaves and runs that can be counted
abbrev pub HasLists : List (List ℕ) → List Run → Type 0
HasLists leaves runs = (length leaves < 2 ^ 32) × (length runs < 2 ^ 32) × AreFull runs

abbrev pub EventHasRoom : Event → List Run → Type 0
EventHasRoom event.Pass runs = runs ≡ []
EventHasRoom (event.CreateVault name) runs = runs ≡ []
EventHasRoom (event.DeleteVault name) runs = runs ≡ []
EventHasRoom (event.Upload name size description leaves) runs = HasLists leaves runs
EventHasRoom (event.DeleteArchive name archive) runs = runs ≡ []
EventHasRoom (event.BeginUpload name part_size description) runs = runs ≡ []
EventHasRoom (event.Part name upload index size leaves) runs = HasLists leaves runs
EventHasRoom (event.Complete name upload) runs = runs ≡ []
EventHasRoom (event.Abort name upload) runs = runs ≡ []
EventHasRoom (event.BeginRetrieval name archive first end tier ready description) runs = runs ≡ []
EventHasRoom (event.BeginInventory name csv tier ready description) runs = runs ≡ []
EventHasRoom (event.InitiateLock name policy) runs = (length policy < 2 ^ 16) × (runs ≡ [])
EventHasRoom (event.CompleteLock name) runs = runs ≡ []
EventHasRoom (event.AbortLock name) runs = runs ≡ []

abbrev pub BlobHasRoom : Blob → Type 0
BlobHasRoom blob = (length blob.runs < 2 ^ 32) × AreFull blob.runs

abbrev pub KeptHasRoom : Kept → Type 0
KeptHasRoom (kept.Account counter) = Unit {0}
KeptHasRoom (kept.Vault name) = Unit {0}
KeptHasRoom (kept.Archive name number held size description leaves blobs) =
    (length leaves < 2 ^ 32) × (length blobs < 2 ^ 32) × AllByRecursion BlobHasRoom blobs
KeptHasRoom (kept.OpenUpload name number part_size description) = Unit {0}
KeptHasRoom (kept.OpenPart name upload index size blob leaves runs) = HasLists leaves runs
KeptHasRoom (kept.Finished name upload size tree archive) = Unit {0}
KeptHasRoom (kept.Job name number ready tier stage description work) = Unit {0}
KeptHasRoom (kept.Line name job archive size created description tree) = Unit {0}
KeptHasRoom (kept.Lock name number locked policy) = length policy < 2 ^ 16

abbrev pub HasRoom : Item → Type 0
HasRoom (item.Event e runs) = EventHasRoom e runs
HasRoom (item.Kept k) = KeptHasRoom k
