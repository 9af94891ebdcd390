-- What payloads make, one after another.
use Rattle.std.specs.Prelude.{◌≡◌, ℕ, List, [], ◌∷◌, ◌++◌, Some}
use Rattle.std.proofs.Common.{refl, sym, ◌∙◌, ap, subst}
use Rattle.glacier_journal.specs.Listed.{Payloads}
use Rattle.glacier_records.specs.declared.records.Record.{Record}
use Rattle.glacier_records.specs.Spells.{Spells}
use Rattle.glacier_records.proofs.RecordLaws.{record_again}
use Rattle.glacier_replay.specs.Made.{Holdings, Adds, BadRecord, FitsIn, Leads, after_record, nothing}

some_is : {A : Type 0} (x y : A) → Some x ≡ Some y → x ≡ y
some_is x y e = cc e

pub spells_one : (bytes : List ℕ) (r q : Record) → Spells bytes r → Spells bytes q → r ≡ q
spells_one bytes r q first second = some_is r q (sym (record_again bytes r first) ∙ record_again bytes q second)

-- payloads behind others
pub leads-append : (payloads more : Payloads) (before mid after : Holdings) → Leads before payloads mid → Leads mid more after → Leads before (payloads ++ more) after
leads-append [] more before mid after first second = subst (λ (h : Holdings). Leads h more after) (sym first) second
leads-append (payload ∷ payloads) more before mid after first second = (first.0, first.1, leads-append payloads more first.0 mid after first.2 second)

-- one payload more
pub leads-push : (payloads : Payloads) (payload : List ℕ) (before mid after : Holdings) → Leads before payloads mid → Adds payload mid after → Leads before (payloads ++ payload ∷ []) after
leads-push payloads payload before mid after leads adds = leads-append payloads (payload ∷ []) before mid after leads (after, adds, refl)

-- what a record makes
pub adds_record : (payload : List ℕ) (r : Record) (before : Holdings) → Spells payload r → FitsIn before r → Adds payload before (after_record before r)
adds_record payload r before spells fits = record { this = r; spells = spells; fits = fits; after_is = refl }

pub adds_one : (payload : List ℕ) (before one other : Holdings) → Adds payload before one → Adds payload before other → one ≡ other
adds_one payload before one other first second =
    first.after_is ∙ ap (after_record before) (spells_one payload first.this second.this first.spells second.spells) ∙ sym second.after_is

-- payloads make one thing
pub leads_one : (payloads : Payloads) (before one other : Holdings) → Leads before payloads one → Leads before payloads other → one ≡ other
leads_one [] before one other first second = sym first ∙ second
leads_one (payload ∷ payloads) before one other first second =
    let same : second.0 ≡ first.0 = adds_one payload before second.0 first.0 second.1 first.1 in
    leads_one payloads first.0 one other first.2 (subst (λ (h : Holdings). Leads h payloads other) same second.2)

leads-split : (payloads more : Payloads) (before after : Holdings) → Leads before (payloads ++ more) after → (mid : Holdings) × Leads before payloads mid × Leads mid more after
leads-split [] more before after leads = (before, refl, leads)
leads-split (payload ∷ payloads) more before after leads =
    let rest = leads-split payloads more leads.0 after leads.2 in
    (rest.0, (leads.0, leads.1, rest.1), rest.2)

-- payloads with a bad record make nothing
pub bad_makes_none : (payloads : Payloads) (at : ℕ) (after : Holdings) → BadRecord payloads at → Leads nothing payloads after → ⊥
bad_makes_none payloads at after bad leads =
    let split = leads-split bad.before (bad.bad ∷ bad.more) nothing after (subst (λ (l : Payloads). Leads nothing l after) bad.split leads) in
    let same : split.0 ≡ bad.held = leads_one bad.before nothing split.0 bad.held split.1 bad.made in
    let adds : Adds bad.bad split.0 split.2.0 = split.2.1 in
    bad.refused adds.this adds.spells (subst (λ (h : Holdings). FitsIn h adds.this) same adds.fits)
