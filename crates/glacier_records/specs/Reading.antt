-- Reading a record from left to right.
use Rattle.std.specs.Prelude.{ℕ, List, length, Option, Some, None, ◌==◌, nat_lt, if◌then◌else◌}
use Rattle.std.specs.Int.{w8}
use Rattle.glacier_vault.specs.declared.event.Event.TheVariants as event
use Rattle.glacier_records.specs.declared.kept.Kept.TheVariants as kept
use Rattle.glacier_records.specs.declared.records.Item.{Item}
use Rattle.glacier_records.specs.declared.records.Item.TheVariants as item
use Rattle.glacier_records.specs.declared.records.Record.{Record}
use Rattle.glacier_records.specs.Codec.{◌>>=◌, number, nothing, with_fields}
use Rattle.glacier_records.specs.EventFields.{plain, numbered_fields, upload_fields, uploaded, begin_upload_fields, begun_upload, part_fields, part_taken, retrieval_fields, retrieval_begun, inventory_fields, inventory_begun, lock_fields}
use Rattle.glacier_records.specs.Fields.{name_field, number_field}
use Rattle.glacier_records.specs.KeptFields.{archive_fields, archive_kept, open_upload_fields, upload_kept, open_part_fields, part_kept, finished_fields, finished_kept, job_fields, job_kept, line_fields, line_kept, kept_lock_fields, lock_kept}
use Rattle.glacier_records.specs.Spells.{head}

-- the event of a kind, with its fields at the front of bytes
unfoldable pub event_at : ℕ → List ℕ → Option (Item × List ℕ)
event_at kind bytes =
    if kind == 1 then with_fields (λ f. plain event.Pass) nothing bytes
    else if kind == 2 then with_fields (λ name. plain (event.CreateVault name)) name_field bytes
    else if kind == 3 then with_fields (λ name. plain (event.DeleteVault name)) name_field bytes
    else if kind == 4 then with_fields uploaded upload_fields bytes
    else if kind == 5 then with_fields (λ f. plain (event.DeleteArchive f.0 f.1)) numbered_fields bytes
    else if kind == 6 then with_fields begun_upload begin_upload_fields bytes
    else if kind == 7 then with_fields part_taken part_fields bytes
    else if kind == 8 then with_fields (λ f. plain (event.Complete f.0 f.1)) numbered_fields bytes
    else if kind == 9 then with_fields (λ f. plain (event.Abort f.0 f.1)) numbered_fields bytes
    else if kind == 10 then with_fields retrieval_begun retrieval_fields bytes
    else if kind == 11 then with_fields inventory_begun inventory_fields bytes
    else if kind == 12 then with_fields (λ f. plain (event.InitiateLock f.0 f.1)) lock_fields bytes
    else if kind == 13 then with_fields (λ name. plain (event.CompleteLock name)) name_field bytes
    else if kind == 14 then with_fields (λ name. plain (event.AbortLock name)) name_field bytes
    else None

-- the item of a snapshot of a kind, with its fields at the front of bytes
unfoldable pub kept_at : ℕ → List ℕ → Option (Item × List ℕ)
kept_at kind bytes =
    if kind == 32 then with_fields (λ counter. item.Kept (kept.Account counter)) number_field bytes
    else if kind == 33 then with_fields (λ name. item.Kept (kept.Vault name)) name_field bytes
    else if kind == 34 then with_fields (λ f. item.Kept (archive_kept f)) archive_fields bytes
    else if kind == 35 then with_fields (λ f. item.Kept (upload_kept f)) open_upload_fields bytes
    else if kind == 36 then with_fields (λ f. item.Kept (part_kept f)) open_part_fields bytes
    else if kind == 37 then with_fields (λ f. item.Kept (finished_kept f)) finished_fields bytes
    else if kind == 38 then with_fields (λ f. item.Kept (job_kept f)) job_fields bytes
    else if kind == 39 then with_fields (λ f. item.Kept (line_kept f)) line_fields bytes
    else if kind == 40 then with_fields (λ f. item.Kept (lock_kept f)) kept_lock_fields bytes
    else None

-- what a record of a kind tells, with its fields at the front of bytes
abbrev pub item_at : ℕ → List ℕ → Option (Item × List ℕ)
item_at kind bytes = if nat_lt kind 32 then event_at kind bytes else kept_at kind bytes

-- a value with nothing behind it
abbrev pub whole : {X : Type 0} → X × List ℕ → Option X
whole p = if length p.1 == 0 then Some p.0 else None

-- the record that bytes spell, if they spell one
unfoldable pub record_in : List ℕ → Option Record
record_in bytes = do
  kind ← (number w8).read bytes
  h ← head.read kind.1
  i ← item_at kind.0 h.1
  whole (record { account = h.0.0; moment = h.0.1; item = i.0 }, i.1)
