-- What Lead picks: one area, and never Lead.
use Rattle.std.proofs.Common.{◌≡◌, ◌≢◌, ℕ, ◌==◌, Bool, true, false, List, [], ◌∷◌, if◌then◌else◌, sym, ◌∙◌}
use Rattle.glacier_disk.specs.declared.area.Area.{Area}
use Rattle.glacier_disk.specs.declared.area.Area.TheVariants.{Lead, Left, Right}
use Rattle.glacier_journal.specs.Listed.{Picks}

pub picks_other : (bytes : List ℕ) (area : Area) → Picks bytes area → Lead ≢ area
picks_other [] area none = absurd none
picks_other (b ∷ rest) area is = λ lead. not_lead (b == 0) (lead ∙ is)
  where
    not_lead : (t : Bool) → Lead ≡ (if t then Left else Right) → ⊥
    not_lead true same = cc same
    not_lead false same = cc same

pub picks_one : (bytes : List ℕ) (one other : Area) → Picks bytes one → Picks bytes other → other ≡ one
picks_one [] one other first second = absurd first
picks_one (b ∷ rest) one other first second = second ∙ sym first
