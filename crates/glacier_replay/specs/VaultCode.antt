-- The code of a vault, by which a proof tells two of them apart.
use Rattle.std.specs.Prelude.{◌≡◌, ◌⊎◌, ℕ, zero, suc, Bool, true, List, Option, Some, None, refl}
use Rattle.std.specs.Coded.{Coded, code_by, coded×, coded⊎, coded_ℕ, coded_bool, coded_list, coded_option}
use Rattle.std.specs.FinMap as map
use Rattle.std.specs.Ordering.{nat_cmp}
use Rattle.std.proofs.Common.{inl, inr}
use Rattle.glacier_policy.specs.declared.policy.Policy.{Policy}
use Rattle.glacier_vault.specs.declared.archive.Archive.{Archive}
use Rattle.glacier_vault.specs.declared.archive.Finished.{Finished}
use Rattle.glacier_vault.specs.declared.archive.Part.{Part}
use Rattle.glacier_vault.specs.declared.archive.Upload.{Upload}
use Rattle.glacier_vault.specs.declared.job.Job.{Job}
use Rattle.glacier_vault.specs.declared.job.Line.{Line}
use Rattle.glacier_vault.specs.declared.job.Stage.{Stage}
use Rattle.glacier_vault.specs.declared.job.Stage.TheVariants as stages
use Rattle.glacier_vault.specs.declared.job.Tier.{Tier}
use Rattle.glacier_vault.specs.declared.job.Tier.TheVariants as tiers
use Rattle.glacier_vault.specs.declared.job.Work.{Work}
use Rattle.glacier_vault.specs.declared.job.Work.TheVariants as works
use Rattle.glacier_vault.specs.declared.lock.Lock.{Lock}
use Rattle.glacier_vault.specs.declared.state.VaultState.{VaultState}
use Rattle.glacier_replay.specs.PolicyCode.{bytes_code, policy_code}

lock_code : Coded Lock
lock_code =
    code_by (ℕ × (List ℕ × (Policy × (ℕ × Bool)))) (coded× coded_ℕ (coded× bytes_code (coded× policy_code (coded× coded_ℕ coded_bool))))
    (λ l. (l.number, (l.text, (l.policy, (l.created, l.locked)))))
    (λ p. record { number = p.0; text = p.1.0; policy = p.1.1.0; created = p.1.1.1.0; locked = p.1.1.1.1 })
    (λ _. refl)

archive_code : Coded Archive
archive_code =
    code_by (ℕ × (List (List ℕ) × (List ℕ × (List ℕ × (ℕ × List ℕ))))) (coded× coded_ℕ (coded× (coded_list bytes_code) (coded× bytes_code (coded× bytes_code (coded× coded_ℕ (coded_list coded_ℕ))))))
    (λ a. (a.size, (a.leaves, (a.tree, (a.description, (a.created, a.blobs))))))
    (λ p. record { size = p.0; leaves = p.1.0; tree = p.1.1.0; description = p.1.1.1.0; created = p.1.1.1.1.0; blobs = p.1.1.1.1.1 })
    (λ _. refl)

part_code : Coded Part
part_code =
    code_by (ℕ × (List (List ℕ) × (List ℕ × ℕ))) (coded× coded_ℕ (coded× (coded_list bytes_code) (coded× bytes_code coded_ℕ)))
    (λ x. (x.size, (x.leaves, (x.tree, x.blob))))
    (λ p. record { size = p.0; leaves = p.1.0; tree = p.1.1.0; blob = p.1.1.1 })
    (λ _. refl)

upload_code : Coded Upload
upload_code =
    code_by (ℕ × (ℕ × (List ℕ × map.FinMap nat_cmp Part))) (coded× coded_ℕ (coded× coded_ℕ (coded× bytes_code (map.code coded_ℕ part_code))))
    (λ u. (u.created, (u.part_size, (u.description, u.parts))))
    (λ p. record { created = p.0; part_size = p.1.0; description = p.1.1.0; parts = p.1.1.1 })
    (λ _. refl)

finished_code : Coded Finished
finished_code =
    code_by (ℕ × (ℕ × (List ℕ × ℕ))) (coded× coded_ℕ (coded× coded_ℕ (coded× bytes_code coded_ℕ)))
    (λ f. (f.at, (f.size, (f.tree, f.archive))))
    (λ p. record { at = p.0; size = p.1.0; tree = p.1.1.0; archive = p.1.1.1 })
    (λ _. refl)

abbrev tier_number : Tier → ℕ
tier_number tiers.Expedited = 0
tier_number tiers.Standard = 1
tier_number tiers.Bulk = 2

abbrev tier_of : ℕ → Tier
tier_of zero = tiers.Expedited
tier_of (suc zero) = tiers.Standard
tier_of _ = tiers.Bulk

tier_back : (t : Tier) → tier_of (tier_number t) ≡ t
tier_back tiers.Expedited = refl
tier_back tiers.Standard = refl
tier_back tiers.Bulk = refl

tier_code : Coded Tier
tier_code = code_by ℕ coded_ℕ tier_number tier_of tier_back

-- what a retrieval asks for, or an inventory
abbrev Asked : Type 0
Asked = (ℕ × (ℕ × (List ℕ × (ℕ × (ℕ × Option (List ℕ)))))) ⊎ Bool

abbrev asked : Work → Asked
asked (works.Archive archive size tree first end range) = inl (archive, (size, (tree, (first, (end, range)))))
asked (works.Inventory csv) = inr csv

abbrev work_of : Asked → Work
work_of (inl p) = works.Archive p.0 p.1.0 p.1.1.0 p.1.1.1.0 p.1.1.1.1.0 p.1.1.1.1.1
work_of (inr csv) = works.Inventory csv

work_back : (work : Work) → work_of (asked work) ≡ work
work_back (works.Archive archive size tree first end range) = refl
work_back (works.Inventory csv) = refl

work_code : Coded Work
work_code = code_by Asked (coded⊎ (coded× coded_ℕ (coded× coded_ℕ (coded× bytes_code (coded× coded_ℕ (coded× coded_ℕ (coded_option bytes_code)))))) coded_bool) asked work_of work_back

line_code : Coded Line
line_code =
    code_by (ℕ × (ℕ × (ℕ × (List ℕ × List ℕ)))) (coded× coded_ℕ (coded× coded_ℕ (coded× coded_ℕ (coded× bytes_code bytes_code))))
    (λ l. (l.archive, (l.size, (l.created, (l.description, l.tree)))))
    (λ p. record { archive = p.0; size = p.1.0; created = p.1.1.0; description = p.1.1.1.0; tree = p.1.1.1.1 })
    (λ _. refl)

abbrev stage_lines : Stage → Option (Option (List Line))
stage_lines stages.Waiting = None
stage_lines stages.Failed = Some None
stage_lines (stages.Done lines) = Some (Some lines)

abbrev stage_of : Option (Option (List Line)) → Stage
stage_of None = stages.Waiting
stage_of (Some None) = stages.Failed
stage_of (Some (Some lines)) = stages.Done lines

stage_back : (stage : Stage) → stage_of (stage_lines stage) ≡ stage
stage_back stages.Waiting = refl
stage_back stages.Failed = refl
stage_back (stages.Done lines) = refl

stage_code : Coded Stage
stage_code = code_by (Option (Option (List Line))) (coded_option (coded_option (coded_list line_code))) stage_lines stage_of stage_back

job_code : Coded Job
job_code =
    code_by (ℕ × (ℕ × (Tier × (List ℕ × (Work × Stage))))) (coded× coded_ℕ (coded× coded_ℕ (coded× tier_code (coded× bytes_code (coded× work_code stage_code)))))
    (λ j. (j.created, (j.ready, (j.tier, (j.description, (j.work, j.stage))))))
    (λ p. record { created = p.0; ready = p.1.0; tier = p.1.1.0; description = p.1.1.1.0; work = p.1.1.1.1.0; stage = p.1.1.1.1.1 })
    (λ _. refl)

nothing_code : Coded (Unit {0})
nothing_code = code_by Bool coded_bool (λ _. true) (λ _. tt) (λ _. refl)

pub vault_code : Coded VaultState
vault_code =
    code_by (ℕ × (map.FinMap nat_cmp Archive × (ℕ × (map.FinMap nat_cmp Archive × (map.FinMap nat_cmp Upload × (map.FinMap nat_cmp Finished × (map.FinMap nat_cmp Job × (map.FinMap nat_cmp (Unit {0}) × (Option Lock × Option ℕ))))))))) (coded× coded_ℕ (coded× (map.code coded_ℕ archive_code) (coded× coded_ℕ (coded× (map.code coded_ℕ archive_code) (coded× (map.code coded_ℕ upload_code) (coded× (map.code coded_ℕ finished_code) (coded× (map.code coded_ℕ job_code) (coded× (map.code coded_ℕ nothing_code) (coded× (coded_option lock_code) (coded_option coded_ℕ))))))))))
    (λ v. (v.created, (v.archives, (v.bytes, (v.held, (v.uploads, (v.finished, (v.jobs, (v.named, (v.lock, v.due))))))))))
    (λ p. record { created = p.0; archives = p.1.0; bytes = p.1.1.0; held = p.1.1.1.0; uploads = p.1.1.1.1.0; finished = p.1.1.1.1.1.0; jobs = p.1.1.1.1.1.1.0; named = p.1.1.1.1.1.1.1.0; lock = p.1.1.1.1.1.1.1.1.0; due = p.1.1.1.1.1.1.1.1.1 })
    (λ _. refl)
