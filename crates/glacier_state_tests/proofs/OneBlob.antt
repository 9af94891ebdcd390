-- What is read of one blob.
use Rattle.std.specs.Prelude.{◌≡◌, ℕ, List, [], ◌∷◌, ◌++◌, unwrap_or}
use Rattle.std.proofs.Common.{◌∙◌, ap}
use Rattle.std.proofs.lemmas.List.{append-nil}
use Rattle.glacier_bodies.specs.BlobAreas.{runs_of, with_blob}
use Rattle.glacier_bodies.specs.Stands.{Layouts}
use Rattle.glacier_bodies.proofs.NameLemmas.{blob_here}
use Rattle.glacier_extents.specs.declared.run.Run.{Run}

pub one_blob : (m : Layouts) (account : List ℕ) (number : ℕ) (runs : List Run)
    → runs_of (with_blob m account number runs) account (number ∷ []) ≡ runs
one_blob m account number runs = ap (λ r. unwrap_or r [] ++ []) (blob_here m account number runs) ∙ append-nil runs
