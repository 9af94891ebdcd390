-- The description of a job, as its members are shown. Those of the other kind of job are null.
use Rattle.std.specs.Prelude.{ℕ, ◌-◌, Bool, true, false, ◌&&◌, List, [], ◌∷◌, ◌++◌, Option, Some, None, codes, decimal, nat_eq, if◌then◌else◌}
use Rattle.hex.specs.Hex.{encode_lower}
use Rattle.serde_json.specs.Data.{Data, null, boolean, number, unsigned, string}
use Rattle.glacier_base.specs.Dates.{iso_of}
use Rattle.glacier_base.specs.declared.id.IdKind.TheVariants as ids
use Rattle.glacier_vault.specs.declared.job.Job.{Job}
use Rattle.glacier_vault.specs.declared.job.Stage.{Stage}
use Rattle.glacier_vault.specs.declared.job.Stage.TheVariants.{Waiting, Failed, Done}
use Rattle.glacier_vault.specs.declared.job.Tier.{Tier}
use Rattle.glacier_vault.specs.declared.job.Tier.TheVariants.{Expedited, Standard, Bulk}
use Rattle.glacier_vault.specs.declared.job.Work.{Work}
use Rattle.glacier_vault.specs.declared.job.Work.TheVariants.{Archive, Inventory}
use Rattle.glacier_replies.specs.Bodies.{object_of}
use Rattle.glacier_replies.specs.Messages.{name_of}

-- Action
abbrev pub action_name : Work → List ℕ
action_name (Archive archive size tree first end range) = codes "ArchiveRetrieval"
action_name (Inventory csv) = codes "InventoryRetrieval"

-- ArchiveId
abbrev pub archive_id : Work → Data
archive_id (Archive archive size tree first end range) = string (name_of ids.Archive archive)
archive_id (Inventory csv) = null

-- ArchiveSHA256TreeHash
abbrev pub archive_tree : Work → Data
archive_tree (Archive archive size tree first end range) = string (encode_lower tree)
archive_tree (Inventory csv) = null

-- ArchiveSizeInBytes
abbrev pub archive_size : Work → Data
archive_size (Archive archive size tree first end range) = number (unsigned size)
archive_size (Inventory csv) = null

-- RetrievalByteRange, the first byte and the last
abbrev pub retrieval_range : Work → Data
retrieval_range (Archive archive size tree first end range) = string (decimal first ++ codes "-" ++ decimal (end - 1))
retrieval_range (Inventory csv) = null

-- a digest where there is one
abbrev pub digest_or_null : Option (List ℕ) → Data
digest_or_null None = null
digest_or_null (Some digest) = string (encode_lower digest)

-- whether a range is the whole archive
abbrev pub is_whole : ℕ → ℕ → ℕ → Bool
is_whole size first end = nat_eq first 0 && nat_eq end size

-- the tree hash of a range, which isn't shown of the whole archive while the job waits
abbrev pub range_tree_at : Stage → Bool → Option (List ℕ) → Data
range_tree_at Waiting whole range = if whole then null else digest_or_null range
range_tree_at Failed whole range = digest_or_null range
range_tree_at (Done lines) whole range = digest_or_null range

-- SHA256TreeHash
abbrev pub range_tree : Stage → Work → Data
range_tree stage (Archive archive size tree first end range) = range_tree_at stage (is_whole size first end) range
range_tree stage (Inventory csv) = null

-- Completed
abbrev pub is_completed : Stage → Bool
is_completed Waiting = false
is_completed Failed = true
is_completed (Done lines) = true

-- CompletionDate, of a job that is ready at this moment
abbrev pub completion_date : Stage → ℕ → Data
completion_date stage ready = if is_completed stage then string (iso_of ready) else null

-- the bytes of an inventory that is done
abbrev pub size_at : Stage → ℕ → Data
size_at Waiting bytes = null
size_at Failed bytes = null
size_at (Done lines) bytes = number (unsigned bytes)

-- InventorySizeInBytes
abbrev pub inventory_size : Stage → Work → ℕ → Data
inventory_size stage (Archive archive size tree first end range) bytes = null
inventory_size stage (Inventory csv) bytes = size_at stage bytes

-- StatusCode
abbrev pub status_code : Stage → List ℕ
status_code Waiting = codes "InProgress"
status_code Failed = codes "Failed"
status_code (Done lines) = codes "Succeeded"

-- StatusMessage
abbrev pub status_message : Stage → Data
status_message stage = if is_completed stage then string (status_code stage) else null

-- Tier
abbrev pub tier_name : Tier → List ℕ
tier_name Expedited = codes "Expedited"
tier_name Standard = codes "Standard"
tier_name Bulk = codes "Bulk"

-- the description of a job with this number, in the vault with this resource name; an inventory that is done has so
-- many bytes
abbrev pub job_data : List ℕ → ℕ → Job → ℕ → Data
job_data arn count job bytes =
    object_of (
    (codes "Action", string (action_name job.work))
    ∷ (codes "ArchiveId", archive_id job.work)
    ∷ (codes "ArchiveSHA256TreeHash", archive_tree job.work)
    ∷ (codes "ArchiveSizeInBytes", archive_size job.work)
    ∷ (codes "Completed", boolean (is_completed job.stage))
    ∷ (codes "CompletionDate", completion_date job.stage job.ready)
    ∷ (codes "CreationDate", string (iso_of job.created))
    ∷ (codes "InventorySizeInBytes", inventory_size job.stage job.work bytes)
    ∷ (codes "JobDescription", string job.description)
    ∷ (codes "JobId", string (name_of ids.Job count))
    ∷ (codes "RetrievalByteRange", retrieval_range job.work)
    ∷ (codes "SHA256TreeHash", range_tree job.stage job.work)
    ∷ (codes "SNSTopic", null)
    ∷ (codes "StatusCode", string (status_code job.stage))
    ∷ (codes "StatusMessage", status_message job.stage)
    ∷ (codes "Tier", string (tier_name job.tier))
    ∷ (codes "VaultARN", string arn)
    ∷ [])
