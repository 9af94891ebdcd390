-- The counter's own number is not in use, and a new archive may have it.
use Rattle.std.specs.Prelude.{◌≡◌, ℕ, ◌<◌, ◌+◌, Bool, true, false, cond, Option, Some, None, IfSome, IsSome}
use Rattle.std.specs.Cmp.{nat_cmp_total}
use Rattle.std.specs.FinMap as map
use Rattle.std.specs.Ordering.{nat_cmp, eq_by_cmp}
use Rattle.std.proofs.Common.{◌∙◌, ap, sym, refl, subst, arith}
use Rattle.glacier_base.proofs.LookUps.{if_some-insert}
use Rattle.glacier_base.proofs.Sorted.{tied}
use Rattle.glacier_base.proofs.Sums.{weight, sum_by-insert}
use Rattle.glacier_vault.specs.Lawful.{IsLawfulVault, IsLawfulArchive, IsLawfulJob, IsLawfulWork, IsDrawn}
use Rattle.glacier_vault.specs.Rows.{with_archives}
use Rattle.glacier_vault.specs.Totals.{Weight, vault_total, bytes_in}
use Rattle.glacier_vault.specs.declared.archive.Archive.{Archive}
use Rattle.glacier_vault.specs.declared.job.Stage.{Stage}
use Rattle.glacier_vault.specs.declared.job.Work.{Work}
use Rattle.glacier_vault.specs.declared.job.Work.TheVariants as works
use Rattle.glacier_vault.specs.declared.state.VaultState.{VaultState}
use Rattle.glacier_vault.proofs.Later.{weaker, later_vault}

-- a map of drawn numbers doesn't have the next one
pub fresh : {X : Type 0} (P : ℕ → X → Type 0) (counter : ℕ) (m : map.FinMap nat_cmp X) → ((n : ℕ) → IfSome (map.get m n) (IsDrawn counter (P n) n)) → map.get m counter ≡ None
fresh {X = X} P counter m drawn = at (map.get m counter) refl
  where
    at : (r : Option X) → map.get m counter ≡ r → map.get m counter ≡ None
    at None e = e
    at (Some x) e = let h : IsDrawn counter (P counter) counter x = subst (λ r. IfSome r (IsDrawn counter (P counter) counter)) e (drawn counter) in absurd (omega (arith, h.drawn))

-- a number that is drawn isn't the next one
pub other_than_next : {X : Type 0} (P : X → Type 0) (counter n : ℕ) (r : Option X) → IfSome r (IsDrawn counter P n) → IsSome r → eq_by_cmp nat_cmp n counter ≡ false
other_than_next P counter n None h s = cc
other_than_next P counter n (Some x) h s = at (eq_by_cmp nat_cmp n counter) refl
  where
    at : (b : Bool) → eq_by_cmp nat_cmp n counter ≡ b → b ≡ false
    at true t = let same : n ≡ counter = map.nat_cmp-IsAntisymmetric n counter (tied _ t) in absurd (omega (arith, h.drawn, same))
    at false t = refl

below_is_other : (n counter : ℕ) → n < counter → eq_by_cmp nat_cmp n counter ≡ false
below_is_other n counter lt = at (eq_by_cmp nat_cmp n counter) refl
  where
    at : (b : Bool) → eq_by_cmp nat_cmp n counter ≡ b → b ≡ false
    at true t = let same : n ≡ counter = map.nat_cmp-IsAntisymmetric n counter (tied _ t) in absurd (omega (arith, same))
    at false t = refl

module _ (counter last : ℕ) (vault : VaultState) (lawful : IsLawfulVault counter last vault) (archive : Archive) where
  abbrev with_new : VaultState
  with_new = with_archives vault (map.insert vault.archives counter archive)

  pub total-new_archive : (w : Weight) → vault_total w with_new ≡ vault_total w vault + w.archive archive
  total-new_archive w =
      let none = fresh (λ _. IsLawfulArchive last) counter vault.archives lawful.archives in
      omega (arith, sum_by-insert nat_cmp_total w.archive vault.archives counter archive, ap (weight w.archive) none)

  -- what the vault's bytes come to
  pub bytes-new_archive : bytes_in (map.insert vault.archives counter archive) ≡ vault.bytes + archive.size
  bytes-new_archive =
      let none = fresh (λ _. IsLawfulArchive last) counter vault.archives lawful.archives in
      let size = λ (a : Archive). a.size in
      omega (arith, lawful.bytes, sum_by-insert nat_cmp_total size vault.archives counter archive, ap (weight size) none)

  -- what was there before the new archive is there
  as_before : (n : ℕ) → eq_by_cmp nat_cmp n counter ≡ false → map.get (map.insert vault.archives counter archive) n ≡ map.get vault.archives n
  as_before n apart = map.get-insert nat_cmp_total vault.archives counter archive n ∙ ap (λ b. cond b (Some archive) (map.get vault.archives n)) apart

  work_beside : (stage : Stage) (work : Work) → IsLawfulWork counter vault.archives vault.held stage work → IsLawfulWork (counter + 1) (map.insert vault.archives counter archive) vault.held stage work
  work_beside stage (works.Inventory csv) h = tt
  work_beside stage (works.Archive k size tree first end range) h =
      let there = as_before k (below_is_other k counter h.number) in
      record {
        number = omega (arith, h.number);
        some = h.some;
        within = h.within;
        live_size = subst (λ r. IfSome r (λ a. a.size ≡ size)) (sym there) h.live_size;
        held_size = h.held_size;
        kept = λ done gone. h.kept done (sym there ∙ gone);
      }

  pub lawful-new_archive : IsLawfulArchive last archive → IsLawfulVault (counter + 1) last with_new
  lawful-new_archive right =
      let up = later_vault counter (counter + 1) (omega arith) last last (omega arith) vault lawful in
      record {
        created = lawful.created;
        bytes = refl;
        archives = λ n. if_some-insert nat_cmp_total map.nat_cmp-IsAntisymmetric (IsDrawn (counter + 1) (IsLawfulArchive last)) vault.archives counter n archive (record { drawn = omega arith; right = right }) (up.archives n);
        held = up.held;
        live_or_held = λ n some. as_before n (other_than_next (IsLawfulArchive last) counter n (map.get vault.held n) (lawful.held n) some) ∙ lawful.live_or_held n some;
        uploads = up.uploads;
        finished = up.finished;
        open_or_finished = up.open_or_finished;
        jobs = λ n. weaker (IsDrawn counter (IsLawfulJob counter last vault.archives vault.held) n) (IsDrawn (counter + 1) (IsLawfulJob (counter + 1) last (map.insert vault.archives counter archive) vault.held) n) (map.get vault.jobs n)
            (λ job h. record { drawn = omega (arith, h.drawn); right = record { created = h.right.created; work = work_beside job.stage job.work h.right.work } }) (lawful.jobs n);
        lock = up.lock;
        named = up.named;
        due = up.due;
      }
