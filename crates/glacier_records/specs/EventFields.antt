-- The fields of each kind of event, and the event that they make.
use Rattle.std.specs.Prelude.{◌≡◌, ℕ, List, [], Bool}
use Rattle.glacier_extents.specs.declared.run.Run.{Run}
use Rattle.glacier_vault.specs.declared.event.Event.{Event}
use Rattle.glacier_vault.specs.declared.event.Event.TheVariants as event
use Rattle.glacier_vault.specs.declared.job.Tier.{Tier}
use Rattle.glacier_records.specs.declared.records.Item.{Item}
use Rattle.glacier_records.specs.declared.records.Item.TheVariants as item
use Rattle.glacier_records.specs.Codec.{Codec, ◌⊗◌}
use Rattle.glacier_records.specs.Fields.{name_field, number_field, index_field, description_field, text_field, leaves_field, runs_field, flag_field, tier_field, moment_field}

-- an event that has no runs
abbrev pub plain : Event → Item
plain e = item.Event e []

-- a vault, and the number of a thing in it
abbrev pub numbered_fields : Codec (List ℕ × ℕ)
numbered_fields = name_field ⊗ number_field

abbrev pub Uploaded : Type 0
Uploaded = List ℕ × (ℕ × (List ℕ × (List (List ℕ) × List Run)))

abbrev pub upload_fields : Codec Uploaded
upload_fields = name_field ⊗ number_field ⊗ description_field ⊗ leaves_field ⊗ runs_field

abbrev pub uploaded : Uploaded → Item
uploaded f = item.Event (event.Upload f.0 f.1.0 f.1.1.0 f.1.1.1.0) f.1.1.1.1

abbrev pub begin_upload_fields : Codec (List ℕ × (ℕ × List ℕ))
begin_upload_fields = name_field ⊗ number_field ⊗ description_field

abbrev pub begun_upload : List ℕ × (ℕ × List ℕ) → Item
begun_upload f = plain (event.BeginUpload f.0 f.1.0 f.1.1)

abbrev pub PartTaken : Type 0
PartTaken = List ℕ × (ℕ × (ℕ × (ℕ × (List (List ℕ) × List Run))))

abbrev pub part_fields : Codec PartTaken
part_fields = name_field ⊗ number_field ⊗ index_field ⊗ number_field ⊗ leaves_field ⊗ runs_field

abbrev pub part_taken : PartTaken → Item
part_taken f = item.Event (event.Part f.0 f.1.0 f.1.1.0 f.1.1.1.0 f.1.1.1.1.0) f.1.1.1.1.1

abbrev pub RetrievalBegun : Type 0
RetrievalBegun = List ℕ × (ℕ × (ℕ × (ℕ × (Tier × (ℕ × List ℕ)))))

abbrev pub retrieval_fields : Codec RetrievalBegun
retrieval_fields =
    name_field ⊗ number_field ⊗ number_field ⊗ number_field ⊗ tier_field ⊗ moment_field ⊗ description_field

abbrev pub retrieval_begun : RetrievalBegun → Item
retrieval_begun f =
    plain (event.BeginRetrieval f.0 f.1.0 f.1.1.0 f.1.1.1.0 f.1.1.1.1.0 f.1.1.1.1.1.0 f.1.1.1.1.1.1)

abbrev pub InventoryBegun : Type 0
InventoryBegun = List ℕ × (Bool × (Tier × (ℕ × List ℕ)))

abbrev pub inventory_fields : Codec InventoryBegun
inventory_fields = name_field ⊗ flag_field ⊗ tier_field ⊗ moment_field ⊗ description_field

abbrev pub inventory_begun : InventoryBegun → Item
inventory_begun f = plain (event.BeginInventory f.0 f.1.0 f.1.1.0 f.1.1.1.0 f.1.1.1.1)

abbrev pub lock_fields : Codec (List ℕ × List ℕ)
lock_fields = name_field ⊗ text_field

-- the first byte of an event's record
abbrev pub event_kind : Event → ℕ
event_kind event.Pass = 1
event_kind (event.CreateVault name) = 2
event_kind (event.DeleteVault name) = 3
event_kind (event.Upload name size description leaves) = 4
event_kind (event.DeleteArchive name archive) = 5
event_kind (event.BeginUpload name part_size description) = 6
event_kind (event.Part name upload index size leaves) = 7
event_kind (event.Complete name upload) = 8
event_kind (event.Abort name upload) = 9
event_kind (event.BeginRetrieval name archive first end tier ready description) = 10
event_kind (event.BeginInventory name csv tier ready description) = 11
event_kind (event.InitiateLock name policy) = 12
event_kind (event.CompleteLock name) = 13
event_kind (event.AbortLock name) = 14

-- the bytes of the fields of an event, with the runs of its blob
abbrev pub event_fields : Event → List Run → List ℕ
event_fields event.Pass runs = []
event_fields (event.CreateVault name) runs = name_field.spell name
event_fields (event.DeleteVault name) runs = name_field.spell name
event_fields (event.Upload name size description leaves) runs = upload_fields.spell (name, (size, (description, (leaves, runs))))
event_fields (event.DeleteArchive name archive) runs = numbered_fields.spell (name, archive)
event_fields (event.BeginUpload name part_size description) runs = begin_upload_fields.spell (name, (part_size, description))
event_fields (event.Part name upload index size leaves) runs = part_fields.spell (name, (upload, (index, (size, (leaves, runs)))))
event_fields (event.Complete name upload) runs = numbered_fields.spell (name, upload)
event_fields (event.Abort name upload) runs = numbered_fields.spell (name, upload)
event_fields (event.BeginRetrieval name archive first end tier ready description) runs =
    retrieval_fields.spell (name, (archive, (first, (end, (tier, (ready, description))))))
event_fields (event.BeginInventory name csv tier ready description) runs =
    inventory_fields.spell (name, (csv, (tier, (ready, description))))
event_fields (event.InitiateLock name policy) runs = lock_fields.spell (name, policy)
event_fields (event.CompleteLock name) runs = name_field.spell name
event_fields (event.AbortLock name) runs = name_field.spell name

-- the fields have a spelling: only an upload and a part have runs
abbrev pub EventFits : Event → List Run → Type 0
EventFits event.Pass runs = runs ≡ []
EventFits (event.CreateVault name) runs = name_field.Fits name × (runs ≡ [])
EventFits (event.DeleteVault name) runs = name_field.Fits name × (runs ≡ [])
EventFits (event.Upload name size description leaves) runs = upload_fields.Fits (name, (size, (description, (leaves, runs))))
EventFits (event.DeleteArchive name archive) runs = numbered_fields.Fits (name, archive) × (runs ≡ [])
EventFits (event.BeginUpload name part_size description) runs = begin_upload_fields.Fits (name, (part_size, description)) × (runs ≡ [])
EventFits (event.Part name upload index size leaves) runs = part_fields.Fits (name, (upload, (index, (size, (leaves, runs)))))
EventFits (event.Complete name upload) runs = numbered_fields.Fits (name, upload) × (runs ≡ [])
EventFits (event.Abort name upload) runs = numbered_fields.Fits (name, upload) × (runs ≡ [])
EventFits (event.BeginRetrieval name archive first end tier ready description) runs =
    retrieval_fields.Fits (name, (archive, (first, (end, (tier, (ready, description)))))) × (runs ≡ [])
EventFits (event.BeginInventory name csv tier ready description) runs =
    inventory_fields.Fits (name, (csv, (tier, (ready, description)))) × (runs ≡ [])
EventFits (event.InitiateLock name policy) runs = lock_fields.Fits (name, policy) × (runs ≡ [])
EventFits (event.CompleteLock name) runs = name_field.Fits name × (runs ≡ [])
EventFits (event.AbortLock name) runs = name_field.Fits name × (runs ≡ [])
