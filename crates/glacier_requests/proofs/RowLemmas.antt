-- The rows of the operations on vaults, by what is done where.
use Rattle.std.proofs.Common.{◌≡◌, ◌⊎◌, inl, inr, ◌↔◌, ℕ, List, [], ◌∷◌, Option, Some, None, refl, ap}
use Rattle.std.specs.Prelude.{map}
use Rattle.glacier_requests.specs.Paths.{name as vault_piece, row, text_with, IsBadId}
use Rattle.glacier_requests.specs.Places.{method_of, op_at, id_kind_of, place_behind}
use Rattle.glacier_requests.specs.Routes.{op_on, number_of, named_route, op_route, place_route}
use Rattle.glacier_requests.specs.declared.places.Method.{Method}
use Rattle.glacier_requests.specs.declared.places.Method.TheVariants.{Get, Put, Post, Delete}
use Rattle.glacier_requests.specs.declared.places.Place.{Place}
use Rattle.glacier_requests.specs.declared.places.Place.TheVariants as at
use Rattle.glacier_requests.specs.declared.places.VaultOp.{VaultOp}
use Rattle.glacier_requests.specs.declared.places.VaultOp.TheVariants as act
use Rattle.glacier_requests.specs.declared.routes.Op.{Op}
use Rattle.glacier_requests.specs.declared.routes.Op.TheVariants.{ListVaults, CreateVault, DescribeVault, DeleteVault, Upload, DeleteArchive, BeginUpload, ListUploads, Part, ListParts, CompleteUpload, AbortUpload, BeginJob, ListJobs, DescribeJob, JobOutput, InitiateLock, ShowLock, CompleteLock, AbortLock}
use Rattle.glacier_requests.proofs.PlaceLemmas.{method_text, place_words, place_pieces}

-- an operation on a vault: what is done where, and its row
pub record Row (op : Op) : Type 0 where
  pub method : Method
  pub place : Place
  pub act : VaultOp
  pub vault : List ℕ
  pub number : ℕ
  pub does : op_at method place ≡ Some act
  pub is : op_on act vault number ≡ op
  pub line : row op ≡ (method_text method, vault_piece vault ∷ place_pieces place number)

on : (method : Method) (place : Place) (act : VaultOp) (vault : List ℕ) (number : ℕ) → op_at method place ≡ Some act
    → row (op_on act vault number) ≡ (method_text method, vault_piece vault ∷ place_pieces place number)
    → Row (op_on act vault number)
on method place act vault number does line = record {
  method = method;
  place = place;
  act = act;
  vault = vault;
  number = number;
  does = does;
  is = refl;
  line = line;
}

pub row_is : (op : Op) → (op ≡ ListVaults) ⊎ Row op
row_is ListVaults = inl refl
row_is (CreateVault vault) = inr (on Put at.Vault act.CreateVault vault 0 refl refl)
row_is (DescribeVault vault) = inr (on Get at.Vault act.DescribeVault vault 0 refl refl)
row_is (DeleteVault vault) = inr (on Delete at.Vault act.DeleteVault vault 0 refl refl)
row_is (Upload vault) = inr (on Post at.Archives act.Upload vault 0 refl refl)
row_is (DeleteArchive vault archive) = inr (on Delete at.Archive act.DeleteArchive vault archive refl refl)
row_is (BeginUpload vault) = inr (on Post at.Uploads act.BeginUpload vault 0 refl refl)
row_is (ListUploads vault) = inr (on Get at.Uploads act.ListUploads vault 0 refl refl)
row_is (Part vault upload) = inr (on Put at.Upload act.Part vault upload refl refl)
row_is (ListParts vault upload) = inr (on Get at.Upload act.ListParts vault upload refl refl)
row_is (CompleteUpload vault upload) = inr (on Post at.Upload act.CompleteUpload vault upload refl refl)
row_is (AbortUpload vault upload) = inr (on Delete at.Upload act.AbortUpload vault upload refl refl)
row_is (BeginJob vault) = inr (on Post at.Jobs act.BeginJob vault 0 refl refl)
row_is (ListJobs vault) = inr (on Get at.Jobs act.ListJobs vault 0 refl refl)
row_is (DescribeJob vault job) = inr (on Get at.Job act.DescribeJob vault job refl refl)
row_is (JobOutput vault job) = inr (on Get at.Output act.JobOutput vault job refl refl)
row_is (InitiateLock vault) = inr (on Post at.LockPolicy act.InitiateLock vault 0 refl refl)
row_is (ShowLock vault) = inr (on Get at.LockPolicy act.ShowLock vault 0 refl refl)
row_is (CompleteLock vault lock) = inr (on Post at.Lock act.CompleteLock vault lock refl refl)
row_is (AbortLock vault) = inr (on Delete at.LockPolicy act.AbortLock vault 0 refl refl)

-- the pieces of a place with any text for the id are its words, and name it
pub words_with : (place : Place) (text : List ℕ) (number : ℕ)
    → map (text_with text) (place_pieces place number) ≡ place_words place text
words_with at.Vault text number = refl
words_with at.Archives text number = refl
words_with at.Archive text number = refl
words_with at.Uploads text number = refl
words_with at.Upload text number = refl
words_with at.Jobs text number = refl
words_with at.Job text number = refl
words_with at.Output text number = refl
words_with at.LockPolicy text number = refl
words_with at.Lock text number = refl

-- whether the id of a place is bad is told by its number
pub bad_number : (place : Place) (text : List ℕ) (number : ℕ)
    → (number_of (id_kind_of place) text ≡ None) ↔ IsBadId text (place_pieces place number)
bad_number at.Vault text number = ((λ is. cc), λ bad. absurd bad)
bad_number at.Archives text number = ((λ is. cc), λ bad. absurd bad)
bad_number at.Archive text number = ((λ is. is), λ bad. bad)
bad_number at.Uploads text number = ((λ is. cc), λ bad. absurd bad)
bad_number at.Upload text number = ((λ is. is), λ bad. bad)
bad_number at.Jobs text number = ((λ is. cc), λ bad. absurd bad)
bad_number at.Job text number = ((λ is. is), λ bad. bad)
bad_number at.Output text number = ((λ is. is), λ bad. bad)
bad_number at.LockPolicy text number = ((λ is. cc), λ bad. absurd bad)
bad_number at.Lock text number = ((λ is. is), λ bad. bad)

-- texts with the same number are the same to a route
same_number : (account : Option (List ℕ)) (vault : List ℕ) (act : Option VaultOp) (place : Place) (a b : List ℕ)
    → number_of (id_kind_of place) a ≡ number_of (id_kind_of place) b
    → op_route account vault act (place, a) ≡ op_route account vault act (place, b)
same_number account vault None place a b same = refl
same_number account vault (Some act) place a b same = ap (named_route account act vault) same

-- what a method does at a place, by the words of the place
pub routed_at : (account : Option (List ℕ)) (vault : List ℕ) (method : Method) (place : Place) (text : List ℕ)
    → place_route account vault method (place_behind (place_words place text))
    ≡ op_route account vault (op_at method place) (place, text)
routed_at account vault method at.Vault text = same_number account vault (op_at method at.Vault) at.Vault [] text refl
routed_at account vault method at.Archives text = same_number account vault (op_at method at.Archives) at.Archives [] text refl
routed_at account vault method at.Archive text = refl
routed_at account vault method at.Uploads text = same_number account vault (op_at method at.Uploads) at.Uploads [] text refl
routed_at account vault method at.Upload text = refl
routed_at account vault method at.Jobs text = same_number account vault (op_at method at.Jobs) at.Jobs [] text refl
routed_at account vault method at.Job text = refl
routed_at account vault method at.Output text = refl
routed_at account vault method at.LockPolicy text =
    same_number account vault (op_at method at.LockPolicy) at.LockPolicy [] text refl
routed_at account vault method at.Lock text = refl

pub method_back : (method : Method) → method_of (method_text method) ≡ Some method
method_back Get = refl
method_back Put = refl
method_back Post = refl
method_back Delete = refl
