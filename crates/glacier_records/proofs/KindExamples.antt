-- Records that are written out: a literal of each kind, in which numbers of more than one byte show their order.
use Rattle.std.proofs.Common.{◌≡◌, ℕ, List, [], ◌∷◌, ◌++◌, true, refl, codes}
use Rattle.std.specs.Prelude.{Some}
use Rattle.glacier_extents.specs.declared.run.Run.{Run}
use Rattle.glacier_vault.specs.declared.event.Event.TheVariants.{Upload, DeleteArchive, BeginUpload, Part, Abort, BeginRetrieval, BeginInventory, InitiateLock, CompleteLock, AbortLock}
use Rattle.glacier_vault.specs.declared.job.Tier.TheVariants.{Expedited, Standard, Bulk}
use Rattle.glacier_vault.specs.declared.job.Work.TheVariants as work
use Rattle.glacier_records.specs.declared.kept.Kept.TheVariants.{Vault, Archive, OpenUpload, OpenPart, Finished, Job, Line, Lock}
use Rattle.glacier_records.specs.declared.kept.StageName.TheVariants.{Waiting, Done}
use Rattle.glacier_records.specs.declared.records.Item.{Item}
use Rattle.glacier_records.specs.declared.records.Item.TheVariants as item
use Rattle.glacier_records.specs.EventFields.{plain}
use Rattle.glacier_records.specs.Spells.{spelling}

abbrev run : ℕ → ℕ → Run
run first count = record { first = first; count = count }

abbrev digest : List ℕ
digest = 1 ∷ 2 ∷ 3 ∷ 4 ∷ 5 ∷ 6 ∷ 7 ∷ 8 ∷ 9 ∷ 10 ∷ 11 ∷ 12 ∷ 13 ∷ 14 ∷ 15 ∷ 16 ∷ 17 ∷ 18 ∷ 19 ∷ 20 ∷ 21 ∷ 22 ∷ 23 ∷ 24 ∷ 25 ∷ 26 ∷ 27 ∷ 28 ∷ 29 ∷ 30 ∷ 31 ∷ 32 ∷ []

-- the bytes of a record of the account 123456789012 at the moment 1
abbrev bytes_of : Item → List ℕ
bytes_of what = spelling (record { account = codes "123456789012"; moment = 1; item = what })

-- they are the kind, the account, the moment, and then these
abbrev behind_head : ℕ → List ℕ → List ℕ
behind_head kind fields = kind ∷ codes "123456789012" ++ (0 ∷ 0 ∷ 0 ∷ 0 ∷ 0 ∷ 0 ∷ 0 ∷ 1 ∷ fields)

uploaded_at_once : bytes_of (item.Event (Upload (codes "v") 3 (codes "d") (digest ∷ [])) (run 5 1 ∷ []))
    ≡ behind_head 4 ((1 ∷ 118 ∷ 0 ∷ 0 ∷ 0 ∷ 0 ∷ 0 ∷ 0 ∷ 0 ∷ 3 ∷ 0 ∷ 1 ∷ 100 ∷ 0 ∷ 0 ∷ 0 ∷ 1 ∷ []) ++ digest ++ (0 ∷ 0 ∷ 0 ∷ 1 ∷ 0 ∷ 0 ∷ 0 ∷ 5 ∷ 0 ∷ 0 ∷ 0 ∷ 1 ∷ []))
uploaded_at_once = refl

archive_deleted : bytes_of (plain (DeleteArchive (codes "v") 258))
    ≡ behind_head 5 (1 ∷ 118 ∷ 0 ∷ 0 ∷ 0 ∷ 0 ∷ 0 ∷ 0 ∷ 1 ∷ 2 ∷ [])
archive_deleted = refl

upload_begun : bytes_of (plain (BeginUpload (codes "v") 1_048_576 (codes "d")))
    ≡ behind_head 6 (1 ∷ 118 ∷ 0 ∷ 0 ∷ 0 ∷ 0 ∷ 0 ∷ 16 ∷ 0 ∷ 0 ∷ 0 ∷ 1 ∷ 100 ∷ [])
upload_begun = refl

part_taken : bytes_of (item.Event (Part (codes "v") 7 9_999 3 (digest ∷ [])) (run 5 1 ∷ run 256 2 ∷ []))
    ≡ behind_head 7 ((1 ∷ 118 ∷ 0 ∷ 0 ∷ 0 ∷ 0 ∷ 0 ∷ 0 ∷ 0 ∷ 7 ∷ 0 ∷ 0 ∷ 39 ∷ 15 ∷ 0 ∷ 0 ∷ 0 ∷ 0 ∷ 0 ∷ 0 ∷ 0 ∷ 3 ∷ 0 ∷ 0 ∷ 0 ∷ 1 ∷ []) ++ digest ++ (0 ∷ 0 ∷ 0 ∷ 2 ∷ 0 ∷ 0 ∷ 0 ∷ 5 ∷ 0 ∷ 0 ∷ 0 ∷ 1 ∷ 0 ∷ 0 ∷ 1 ∷ 0 ∷ 0 ∷ 0 ∷ 0 ∷ 2 ∷ []))
part_taken = refl

upload_aborted : bytes_of (plain (Abort (codes "v") 7))
    ≡ behind_head 9 (1 ∷ 118 ∷ 0 ∷ 0 ∷ 0 ∷ 0 ∷ 0 ∷ 0 ∷ 0 ∷ 7 ∷ [])
upload_aborted = refl

retrieval_begun : bytes_of (plain (BeginRetrieval (codes "v") 7 0 258 Expedited 301 (codes "d")))
    ≡ behind_head 10 (1 ∷ 118 ∷ 0 ∷ 0 ∷ 0 ∷ 0 ∷ 0 ∷ 0 ∷ 0 ∷ 7 ∷ 0 ∷ 0 ∷ 0 ∷ 0 ∷ 0 ∷ 0 ∷ 0 ∷ 0 ∷ 0 ∷ 0 ∷ 0 ∷ 0 ∷ 0 ∷ 0 ∷ 1 ∷ 2 ∷ 0 ∷ 0 ∷ 0 ∷ 0 ∷ 0 ∷ 0 ∷ 0 ∷ 1 ∷ 45 ∷ 0 ∷ 1 ∷ 100 ∷ [])
retrieval_begun = refl

inventory_begun : bytes_of (plain (BeginInventory (codes "v") true Bulk 301 []))
    ≡ behind_head 11 (1 ∷ 118 ∷ 1 ∷ 2 ∷ 0 ∷ 0 ∷ 0 ∷ 0 ∷ 0 ∷ 0 ∷ 1 ∷ 45 ∷ 0 ∷ 0 ∷ [])
inventory_begun = refl

lock_begun : bytes_of (plain (InitiateLock (codes "v") (codes "{}")))
    ≡ behind_head 12 (1 ∷ 118 ∷ 0 ∷ 2 ∷ 123 ∷ 125 ∷ [])
lock_begun = refl

lock_completed : bytes_of (plain (CompleteLock (codes "v")))
    ≡ behind_head 13 (1 ∷ 118 ∷ [])
lock_completed = refl

lock_aborted : bytes_of (plain (AbortLock (codes "v")))
    ≡ behind_head 14 (1 ∷ 118 ∷ [])
lock_aborted = refl

vault_kept : bytes_of (item.Kept (Vault (codes "v")))
    ≡ behind_head 33 (1 ∷ 118 ∷ [])
vault_kept = refl

archive_kept : bytes_of (item.Kept (Archive (codes "v") 7 true 3 (codes "d") (digest ∷ []) (record { number = 8; runs = run 5 1 ∷ [] } ∷ [])))
    ≡ behind_head 34 ((1 ∷ 118 ∷ 0 ∷ 0 ∷ 0 ∷ 0 ∷ 0 ∷ 0 ∷ 0 ∷ 7 ∷ 1 ∷ 0 ∷ 0 ∷ 0 ∷ 0 ∷ 0 ∷ 0 ∷ 0 ∷ 3 ∷ 0 ∷ 1 ∷ 100 ∷ 0 ∷ 0 ∷ 0 ∷ 1 ∷ []) ++ digest ++ (0 ∷ 0 ∷ 0 ∷ 1 ∷ 0 ∷ 0 ∷ 0 ∷ 0 ∷ 0 ∷ 0 ∷ 0 ∷ 8 ∷ 0 ∷ 0 ∷ 0 ∷ 1 ∷ 0 ∷ 0 ∷ 0 ∷ 5 ∷ 0 ∷ 0 ∷ 0 ∷ 1 ∷ []))
archive_kept = refl

upload_kept : bytes_of (item.Kept (OpenUpload (codes "v") 7 1_048_576 (codes "d")))
    ≡ behind_head 35 (1 ∷ 118 ∷ 0 ∷ 0 ∷ 0 ∷ 0 ∷ 0 ∷ 0 ∷ 0 ∷ 7 ∷ 0 ∷ 0 ∷ 0 ∷ 0 ∷ 0 ∷ 16 ∷ 0 ∷ 0 ∷ 0 ∷ 1 ∷ 100 ∷ [])
upload_kept = refl

part_kept : bytes_of (item.Kept (OpenPart (codes "v") 7 9_999 3 8 (digest ∷ []) (run 5 1 ∷ [])))
    ≡ behind_head 36 ((1 ∷ 118 ∷ 0 ∷ 0 ∷ 0 ∷ 0 ∷ 0 ∷ 0 ∷ 0 ∷ 7 ∷ 0 ∷ 0 ∷ 39 ∷ 15 ∷ 0 ∷ 0 ∷ 0 ∷ 0 ∷ 0 ∷ 0 ∷ 0 ∷ 3 ∷ 0 ∷ 0 ∷ 0 ∷ 0 ∷ 0 ∷ 0 ∷ 0 ∷ 8 ∷ 0 ∷ 0 ∷ 0 ∷ 1 ∷ []) ++ digest ++ (0 ∷ 0 ∷ 0 ∷ 1 ∷ 0 ∷ 0 ∷ 0 ∷ 5 ∷ 0 ∷ 0 ∷ 0 ∷ 1 ∷ []))
part_kept = refl

finished_kept : bytes_of (item.Kept (Finished (codes "v") 7 3 digest 9))
    ≡ behind_head 37 ((1 ∷ 118 ∷ 0 ∷ 0 ∷ 0 ∷ 0 ∷ 0 ∷ 0 ∷ 0 ∷ 7 ∷ 0 ∷ 0 ∷ 0 ∷ 0 ∷ 0 ∷ 0 ∷ 0 ∷ 3 ∷ []) ++ digest ++ (0 ∷ 0 ∷ 0 ∷ 0 ∷ 0 ∷ 0 ∷ 0 ∷ 9 ∷ []))
finished_kept = refl

retrieval_kept : bytes_of (item.Kept (Job (codes "v") 7 301 Standard Done (codes "d") (work.Archive 9 3 digest 0 3 (Some digest))))
    ≡ behind_head 38 ((1 ∷ 118 ∷ 0 ∷ 0 ∷ 0 ∷ 0 ∷ 0 ∷ 0 ∷ 0 ∷ 7 ∷ 0 ∷ 0 ∷ 0 ∷ 0 ∷ 0 ∷ 0 ∷ 1 ∷ 45 ∷ 1 ∷ 2 ∷ 0 ∷ 1 ∷ 100 ∷ 0 ∷ 0 ∷ 0 ∷ 0 ∷ 0 ∷ 0 ∷ 0 ∷ 0 ∷ 9 ∷ 0 ∷ 0 ∷ 0 ∷ 0 ∷ 0 ∷ 0 ∷ 0 ∷ 3 ∷ []) ++ digest ++ (0 ∷ 0 ∷ 0 ∷ 0 ∷ 0 ∷ 0 ∷ 0 ∷ 0 ∷ 0 ∷ 0 ∷ 0 ∷ 0 ∷ 0 ∷ 0 ∷ 0 ∷ 3 ∷ 1 ∷ []) ++ digest)
retrieval_kept = refl

inventory_kept : bytes_of (item.Kept (Job (codes "v") 7 301 Standard Waiting (codes "d") (work.Inventory true)))
    ≡ behind_head 38 (1 ∷ 118 ∷ 0 ∷ 0 ∷ 0 ∷ 0 ∷ 0 ∷ 0 ∷ 0 ∷ 7 ∷ 0 ∷ 0 ∷ 0 ∷ 0 ∷ 0 ∷ 0 ∷ 1 ∷ 45 ∷ 1 ∷ 0 ∷ 0 ∷ 1 ∷ 100 ∷ 1 ∷ 1 ∷ [])
inventory_kept = refl

line_kept : bytes_of (item.Kept (Line (codes "v") 7 9 3 258 (codes "d") digest))
    ≡ behind_head 39 ((1 ∷ 118 ∷ 0 ∷ 0 ∷ 0 ∷ 0 ∷ 0 ∷ 0 ∷ 0 ∷ 7 ∷ 0 ∷ 0 ∷ 0 ∷ 0 ∷ 0 ∷ 0 ∷ 0 ∷ 9 ∷ 0 ∷ 0 ∷ 0 ∷ 0 ∷ 0 ∷ 0 ∷ 0 ∷ 3 ∷ 0 ∷ 0 ∷ 0 ∷ 0 ∷ 0 ∷ 0 ∷ 1 ∷ 2 ∷ 0 ∷ 1 ∷ 100 ∷ []) ++ digest)
line_kept = refl

lock_kept : bytes_of (item.Kept (Lock (codes "v") 7 true (codes "{}")))
    ≡ behind_head 40 (1 ∷ 118 ∷ 0 ∷ 0 ∷ 0 ∷ 0 ∷ 0 ∷ 0 ∷ 0 ∷ 7 ∷ 1 ∷ 0 ∷ 2 ∷ 123 ∷ 125 ∷ [])
lock_kept = refl
