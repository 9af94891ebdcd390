-- What the jobs of a lawful account work on, and what is asked of their outputs.
use Rattle.std.specs.Prelude.{◌≡◌, ◌≤◌, ◌<◌, ◌+◌, ℕ, Bool, true, false, cond, List, Option, Some, None, Result, Ok, Err, IfSome, IsSome, nat_lt}
use Rattle.std.specs.FinMap as map
use Rattle.std.proofs.Common.{◌∙◌, ap, sym, refl, subst, arith}
use Rattle.std.proofs.lemmas.Bool.Decides.{nat_tests}
use Rattle.std.proofs.lemmas.Option.{IfSome_then}
use Rattle.glacier_job.specs.Finding.{found_job, range_within, output_of}
use Rattle.glacier_vault.specs.Lawful.{IsLawful, IsLawfulVault, IsLawfulArchive, IsLawfulBody, IsLawfulJob, IsLawfulRetrieval, IsLawfulWork, IsDrawn}
use Rattle.glacier_vault.specs.Named.{is_done}
use Rattle.glacier_vault.specs.declared.archive.Archive.{Archive}
use Rattle.glacier_vault.specs.declared.job.Job.{Job}
use Rattle.glacier_vault.specs.declared.job.Stage.{Stage}
use Rattle.glacier_vault.specs.declared.job.Stage.TheVariants as stages
use Rattle.glacier_vault.specs.declared.job.Work.{Work}
use Rattle.glacier_vault.specs.declared.job.Work.TheVariants as works
use Rattle.glacier_vault.specs.declared.refusal.Refusal.{Refusal}
use Rattle.glacier_vault.specs.declared.refusal.Refusal.TheVariants.{NoVault, NoJob, NotReady, JobFailed, BadByteRange}
use Rattle.glacier_vault.specs.declared.state.AccountState.{AccountState}
use Rattle.glacier_vault.specs.declared.state.VaultState.{VaultState}
use Rattle.glacier_machine.specs.JobSteps.{live_or_held, stored_in, stored_archive, HasBytes}

-- what is known of a value is known of one that is there
pub of_some : {X : Type 0} (P : X → Type 0) (r : Option X) (x : X) → r ≡ Some x → IfSome r P → P x
of_some P r x e h = let here : IfSome (Some x) P = subst (λ q. IfSome q P) e h in here

module _ (account : AccountState) (lawful : IsLawful account) (name : List ℕ) where
  module _ (vault : VaultState) (there : map.get account.vaults name ≡ Some vault) where
    right : IsLawfulVault account.counter account.last vault
    right = of_some (IsLawfulVault account.counter account.last) (map.get account.vaults name) vault there (lawful.vaults name)

    -- an archive that is live or held is a whole body
    body_in : (number : ℕ) (live : Option Archive) → map.get vault.archives number ≡ live
        → IfSome (live_or_held live (map.get vault.held number)) (λ a. IsLawfulBody a.size a.leaves a.tree)
    body_in number None e =
        IfSome_then (map.get vault.held number) (right.held number) (λ a h. h.right.body)
    body_in number (Some archive) e =
        (of_some (IsDrawn account.counter (IsLawfulArchive account.last) number) (map.get vault.archives number) archive e (right.archives number)).right.body

    stored_body : (number : ℕ) → IfSome (stored_archive account name number) (λ a. IsLawfulBody a.size a.leaves a.tree)
    stored_body number =
        subst (λ r. IfSome (stored_in r number) (λ a. IsLawfulBody a.size a.leaves a.tree)) (sym there)
        (body_in number (map.get vault.archives number) refl)

    module _ (number : ℕ) (job : Job) (has : map.get vault.jobs number ≡ Some job) where
      lawful_work : IsLawfulWork account.counter vault.archives vault.held job.stage job.work
      lawful_work =
          (of_some (IsDrawn account.counter (IsLawfulJob account.counter account.last vault.archives vault.held) number) (map.get vault.jobs number) job has (right.jobs number)).right.work

      bytes_of : (work : Work) → IsLawfulWork account.counter vault.archives vault.held job.stage work
          → HasBytes account name work
      bytes_of (works.Archive archive size tree first end range) h = let some = h.some in (omega arith, stored_body archive)
      bytes_of (works.Inventory csv) h = tt

      -- the archive of a retrieval that is done is there, with the size that the job names
      there_is : (k size first end : ℕ) → IsLawfulRetrieval account.counter vault.archives vault.held job.stage k size first end
          → is_done job.stage ≡ true → (archive : Archive) × (stored_archive account name k ≡ Some archive) × (archive.size ≡ size)
      there_is k size first end h done = by_live (map.get vault.archives k) refl
        where
          stored : (r : Option Archive) → live_or_held (map.get vault.archives k) (map.get vault.held k) ≡ r → stored_archive account name k ≡ r
          stored r e = ap (λ v. stored_in v k) there ∙ e

          by_held : map.get vault.archives k ≡ None → (held : Option Archive) → map.get vault.held k ≡ held
              → (archive : Archive) × (stored_archive account name k ≡ Some archive) × (archive.size ≡ size)
          by_held none None e = let some : false ≡ true = subst IsSome e (h.kept done none) in cc
          by_held none (Some a) e = (
            a,
            stored (Some a) (ap (λ r. live_or_held r (map.get vault.held k)) none ∙ e),
            of_some (λ (x : Archive). x.size ≡ size) (map.get vault.held k) a e h.held_size,
          )

          by_live : (live : Option Archive) → map.get vault.archives k ≡ live
              → (archive : Archive) × (stored_archive account name k ≡ Some archive) × (archive.size ≡ size)
          by_live None e = by_held e (map.get vault.held k) refl
          by_live (Some a) e = (
            a,
            stored (Some a) (ap (λ r. live_or_held r (map.get vault.held k)) e),
            of_some (λ (x : Archive). x.size ≡ size) (map.get vault.archives k) a e h.live_size,
          )

  -- a job that is found is in its vault
  pub in_its_vault : (P : Type 0) (number : ℕ) (job : Job) → found_job account name number ≡ Ok job
      → ((vault : VaultState) → map.get account.vaults name ≡ Some vault → map.get vault.jobs number ≡ Some job → P) → P
  in_its_vault P number job is next = by_vault (map.get account.vaults name) refl is
    where
      by_job : (vault : VaultState) → map.get account.vaults name ≡ Some vault → (r : Option Job) → map.get vault.jobs number ≡ r
          → ◌≡◌ {A = Result Job Refusal} (elim r [ None ↦ Err (NoJob number) | Some j ↦ Ok j ]) (Ok job) → P
      by_job vault there None e s = cc
      by_job vault there (Some j) e s = let same : j ≡ job = cc in next vault there (e ∙ ap (λ x. Some x) same)

      by_vault : (r : Option VaultState) → map.get account.vaults name ≡ r
          → ◌≡◌ {A = Result Job Refusal} (elim r [ None ↦ Err (NoVault name) | Some vault ↦ elim (map.get vault.jobs number) [ None ↦ Err (NoJob number) | Some j ↦ Ok j ] ]) (Ok job) → P
      by_vault None there s = cc
      by_vault (Some vault) there s = by_job vault there (map.get vault.jobs number) refl s

  pub found_bytes : (number : ℕ) (job : Job) → found_job account name number ≡ Ok job → HasBytes account name job.work
  found_bytes number job is =
      in_its_vault (HasBytes account name job.work) number job is
      (λ vault there has. bytes_of vault there number job has job.work (lawful_work vault there number job has))

  pub found_archive : (number : ℕ) (job : Job) → found_job account name number ≡ Ok job → is_done job.stage ≡ true
      → (k size : ℕ) (tree : List ℕ) (first end : ℕ) (range : Option (List ℕ)) → job.work ≡ works.Archive k size tree first end range
      → (archive : Archive) × (stored_archive account name k ≡ Some archive) × (archive.size ≡ size) × (end ≤ size)
  found_archive number job is done k size tree first end range work =
      in_its_vault ((archive : Archive) × (stored_archive account name k ≡ Some archive) × (archive.size ≡ size) × (end ≤ size)) number job is
      (λ vault there has.
      let h : IsLawfulRetrieval account.counter vault.archives vault.held job.stage k size first end =
      subst (IsLawfulWork account.counter vault.archives vault.held job.stage) work (lawful_work vault there number job has) in
      let archive = there_is vault there number job has k size first end h done in
      (archive.0, archive.1, archive.2, h.within))

-- a range that is given lies within the output
within : (length : ℕ) (range : Option (ℕ × ℕ)) (part : ℕ × ℕ) → IfSome range (λ r. r.0 ≤ r.1)
    → range_within length range ≡ Ok part → (part.0 ≤ part.1) × (part.1 ≤ length)
within length None part order is =
    let same : (0, length) ≡ part = cc in
    subst (λ (p : ℕ × ℕ). (p.0 ≤ p.1) × (p.1 ≤ length)) same (omega arith, omega arith)
within length (Some range) part order is = by_test (nat_lt range.1 length) refl is
  where
    lt_of : nat_lt range.1 length ≡ true → range.1 < length
    lt_of t = grind (arith, nat_tests)

    by_test : (b : Bool) → nat_lt range.1 length ≡ b
        → ◌≡◌ {A = Result (ℕ × ℕ) Refusal} (cond b (Ok (range.0, range.1 + 1)) (Err (BadByteRange length))) (Ok part)
        → (part.0 ≤ part.1) × (part.1 ≤ length)
    by_test true t s =
        let same : (range.0, range.1 + 1) ≡ part = cc in
        let less = lt_of t in
        subst (λ (p : ℕ × ℕ). (p.0 ≤ p.1) × (p.1 ≤ length)) same (omega (arith, order), omega (arith, less))
    by_test false t s = cc

module _ (job : Job) (length : ℕ) (range : Option (ℕ × ℕ)) (part : ℕ × ℕ) (is : output_of job length range ≡ Ok part) where
  by_stage : (stage : Stage)
      → ◌≡◌ {A = Result (ℕ × ℕ) Refusal} (elim stage [ stages.Waiting ↦ Err (NotReady job.ready) | stages.Failed ↦ Err JobFailed | stages.Done lines ↦ range_within length range ]) (Ok part)
      → (is_done stage ≡ true) × (range_within length range ≡ Ok part)
  by_stage stages.Waiting s = cc
  by_stage stages.Failed s = cc
  by_stage (stages.Done lines) s = (refl, s)

  -- only a job that is done gives its output
  pub output_is_done : is_done job.stage ≡ true
  output_is_done = (by_stage job.stage is).0

  pub output_order : IfSome range (λ r. r.0 ≤ r.1) → part.0 ≤ part.1
  output_order order = (within length range part order (by_stage job.stage is).1).0

  pub output_end : IfSome range (λ r. r.0 ≤ r.1) → part.1 ≤ length
  output_end order = (within length range part order (by_stage job.stage is).1).1
