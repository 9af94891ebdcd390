-- What a kept event makes of an account: the change of its row, asked for nothing that only a request is asked.
use Rattle.std.specs.Prelude.{◌≡◌, IfSome, ℕ, Bool, true, false, not, ◌&&◌, List, [], ◌∷◌, length, is_none, Option, Some, None, Ok, Err, if◌then◌else◌, nat_eq, nat_lt, nat_le}
use Rattle.std.specs.FinMap as map
use Rattle.glacier_policy.specs.Policies.{policy_of}
use Rattle.glacier_policy.specs.declared.policy.Policy.{Policy}
use Rattle.glacier_treehash.specs.Roots.{root_of_digests}
use Rattle.glacier_vault.specs.Account.{counter_end, new_vault}
use Rattle.glacier_vault.specs.Deletions.{deletion_refusal, without_archive, freed_by_deletion}
use Rattle.glacier_vault.specs.Named.{blobs_of}
use Rattle.glacier_vault.specs.PartSizes.{is_part_size, last_index}
use Rattle.glacier_vault.specs.Rows.{Row, drawn, in_vault, with_vaults}
use Rattle.glacier_vault.specs.Totals.{need}
use Rattle.glacier_vault.specs.declared.archive.Archive.{Archive}
use Rattle.glacier_vault.specs.declared.archive.Part.{Part}
use Rattle.glacier_vault.specs.declared.event.Change.{Change}
use Rattle.glacier_vault.specs.declared.event.Event.{Event}
use Rattle.glacier_vault.specs.declared.event.Event.TheVariants as events
use Rattle.glacier_vault.specs.declared.job.Job.{Job}
use Rattle.glacier_vault.specs.declared.job.Stage.TheVariants.{Waiting}
use Rattle.glacier_vault.specs.declared.job.Tier.{Tier}
use Rattle.glacier_vault.specs.declared.job.Work.{Work}
use Rattle.glacier_vault.specs.declared.job.Work.TheVariants as works
use Rattle.glacier_vault.specs.declared.lock.Lock.{Lock}
use Rattle.glacier_vault.specs.declared.state.AccountState.{AccountState}
use Rattle.glacier_upload.specs.Completion.{covered, has_gap, whole_archive, with_completed}
use Rattle.glacier_upload.specs.Parts.{in_upload, replaced_blob, with_part}
use Rattle.glacier_upload.specs.Single.{with_archive}
use Rattle.glacier_upload.specs.Uploads.{new_upload, part_blobs, with_upload, without_upload}
use Rattle.glacier_job.specs.Beginning.{after_put}
use Rattle.glacier_job.specs.Pass.{freed, pass}
use Rattle.glacier_job.specs.Work.{retrieval}
use Rattle.glacier_replay.specs.declared.replaying.Replayed.{Replayed}
use Rattle.glacier_lock.specs.Locks.{initiate_refusal, locked, new_lock, with_lock}

-- the account after an event and the blobs that it frees, or None where the event doesn't fit
abbrev pub Replay : Type 0
Replay = Option (AccountState × List ℕ)

abbrev pub where_fits : Bool → AccountState × List ℕ → Replay
where_fits true after = Some after
where_fits false after = None

-- what is found, if it is, goes on
abbrev pub with_found : {X : Type 0} → Option X → (X → Replay) → Replay
with_found None next = None
with_found (Some x) next = next x

abbrev pub can_draw : AccountState → Bool
can_draw account = not (nat_eq account.counter counter_end)

-- a body has a byte, and a leaf for each MiB that it begins
abbrev pub is_body : ℕ → List (List ℕ) → Bool
is_body size leaves = nat_le 1 size && nat_eq (length leaves) (need size)

-- the archive of a kept upload
abbrev pub recorded_archive : ℕ → ℕ → ℕ → List ℕ → List (List ℕ) → Archive
recorded_archive number m size description leaves = record {
  size = size;
  leaves = leaves;
  tree = root_of_digests leaves;
  description = description;
  created = m;
  blobs = number ∷ [];
}

-- a lock that isn't locked yet
abbrev pub in_progress : Option Lock → Option Lock
in_progress None = None
in_progress (Some lock) = if lock.locked then None else Some lock

-- such a lock in the vault of a name
abbrev pub progress_of : AccountState → List ℕ → Option Lock
progress_of account name = elim (map.get account.vaults name) [ None ↦ None | Some vault ↦ in_progress vault.lock ]

-- the policy that a text is
abbrev pub policy_or_none : List ℕ → Option Policy
policy_or_none text = elim (policy_of text) [ Ok policy ↦ Some policy | Err fault ↦ None ]

-- the part of a kept body, whose blob has this number
abbrev pub recorded_part : ℕ → ℕ → List (List ℕ) → Part
recorded_part number size leaves = record { size = size; leaves = leaves; tree = root_of_digests leaves; blob = number }

-- a job that was begun at the moment m
abbrev pub recorded_job : ℕ → Tier → ℕ → List ℕ → Work → Job
recorded_job m tier ready description work = record {
  created = m;
  ready = ready;
  tier = tier;
  description = description;
  work = work;
  stage = Waiting;
}

-- what an event at the moment m makes of an account, where the moment isn't before the last
abbrev pub after_event : AccountState → ℕ → Event → Replay
after_event a m events.Pass = Some (pass m a, freed m a)
after_event a m (events.CreateVault name) =
    where_fits (not (map.contains_key a.vaults name)) (with_vaults a m (map.insert a.vaults name (new_vault m)), [])
after_event a m (events.DeleteVault name) = with_found (map.get a.vaults name) (λ vault.
    where_fits (is_none (deletion_refusal vault)) (with_vaults a m (map.remove a.vaults name), blobs_of (map.values vault.held)))
after_event a m (events.Upload name size description leaves) =
    where_fits (map.contains_key a.vaults name && is_body size leaves && can_draw a)
    (in_vault (drawn a) m name (with_archive a.counter (recorded_archive a.counter m size description leaves)), [])
after_event a m (events.DeleteArchive name archive) = with_found (map.get a.vaults name) (λ vault.
    where_fits (map.contains_key vault.archives archive) (in_vault a m name (without_archive archive), freed_by_deletion archive vault))
after_event a m (events.BeginUpload name part_size description) =
    where_fits (map.contains_key a.vaults name && is_part_size part_size && can_draw a)
    (in_vault (drawn a) m name (with_upload a.counter (new_upload m part_size description)), [])
after_event a m (events.Part name upload index size leaves) = with_found (map.get a.vaults name) (λ vault. with_found (map.get vault.uploads upload) (λ there.
    where_fits (nat_le index last_index && nat_le size there.part_size && is_body size leaves && can_draw a)
    (in_vault (drawn a) m name (in_upload upload (with_part index (recorded_part a.counter size leaves))), replaced_blob there index)))
after_event a m (events.Complete name upload) = with_found (map.get a.vaults name) (λ vault. with_found (map.get vault.uploads upload) (λ there.
    where_fits (nat_le 1 (covered there) && not (has_gap there) && can_draw a)
    (in_vault (drawn a) m name (with_completed upload a.counter (whole_archive m there)), [])))
after_event a m (events.Abort name upload) = with_found (map.get a.vaults name) (λ vault. with_found (map.get vault.uploads upload) (λ there.
    Some (in_vault a m name (without_upload upload), part_blobs there)))
after_event a m (events.BeginRetrieval name archive first end tier ready description) = with_found (map.get a.vaults name) (λ vault. with_found (map.get vault.archives archive) (λ there.
    where_fits (nat_lt first end && nat_le end there.size && can_draw a)
    (after_put a m name (recorded_job m tier ready description (retrieval archive there first end)), [])))
after_event a m (events.BeginInventory name csv tier ready description) =
    where_fits (map.contains_key a.vaults name && can_draw a) (after_put a m name (recorded_job m tier ready description (works.Inventory csv)), [])
after_event a m (events.InitiateLock name policy) = with_found (policy_or_none policy) (λ read.
    where_fits (is_none (initiate_refusal a name)) (in_vault (drawn a) m name (with_lock (Some (new_lock a.counter m policy read))), []))
after_event a m (events.CompleteLock name) = with_found (progress_of a name) (λ lock. Some (in_vault a m name (with_lock (Some (locked lock))), []))
after_event a m (events.AbortLock name) = with_found (progress_of a name) (λ lock. Some (in_vault a m name (with_lock None), []))

-- a kept event: its moment isn't before the account's last
abbrev pub replayed : AccountState → ℕ → Event → Replay
replayed a m event = if nat_le a.last m then after_event a m event else None

-- an accepted row's event makes of the account what the row does
abbrev pub replays : AccountState → ℕ → Row Change → Type 0
replays a m (Err refusal) = Unit {0}
replays a m (Ok p) = IfSome p.1.event (λ event. after_event a m event ≡ Some (p.0, p.1.freed))

-- the account that a kept event leaves: one that doesn't fit leaves it as it is
abbrev pub left_by : AccountState → Replay → AccountState
left_by before None = before
left_by before (Some p) = p.0

-- the blobs that it frees, where it fits
abbrev pub freed_by : Replay → Option (List ℕ)
freed_by None = None
freed_by (Some p) = Some p.1

abbrev pub answer_of : Replay → Replayed
answer_of None = record { fits = false; freed = [] }
answer_of (Some p) = record { fits = true; freed = p.1 }
