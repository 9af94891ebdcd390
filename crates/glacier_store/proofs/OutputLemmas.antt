-- The bytes of a stretch of an archive, as far as it reaches.
use Rattle.std.proofs.Common.{◌≡◌, ℕ, ◌+◌, ◌-◌, ◌≤◌, min, List, [], Option, Some, None, ◌++◌, length, take, drop, sym, ◌∙◌, ap, subst, inl, inr, arith}
use Rattle.std.specs.Prelude.{IfSome}
use Rattle.std.specs.Cmp.Lexicographic.{slice_cmp}
use Rattle.std.specs.FinMap as map
use Rattle.std.specs.Ordering.{nat_cmp}
use Rattle.std.proofs.lemmas.Bool.Decides.{leb_tells}
use Rattle.std.proofs.lemmas.List.{drop-drop, drop-take, length-drop, length-take, nil_from_length, take_all, take_at, take_min, take-take}
use Rattle.glacier_bodies.specs.BlobAreas.{bytes_of}
use Rattle.glacier_disk.specs.Image.{Image}
use Rattle.glacier_machine.specs.Outputs.{IsOutputOf}
use Rattle.glacier_machine.specs.declared.action.Stretch.{Stretch}
use Rattle.glacier_machine.specs.JobSteps.{live_or_held, stored_in, stored_archive}
use Rattle.glacier_vault.specs.Account.{empty_account}
use Rattle.glacier_vault.specs.declared.archive.Archive.{Archive}
use Rattle.glacier_vault.specs.declared.state.AccountState.{AccountState}
use Rattle.glacier_vault.specs.declared.state.VaultState.{VaultState}
use Rattle.glacier_replay.specs.Standing.{InAccount, InVault, IsTold, Stands}
use Rattle.glacier_vault.specs.Accounts.{account_in}
use Rattle.glacier_replay.specs.Changes.{State}
use Rattle.glacier_store.specs.Outputs.{archive_bytes, between, stretch_bytes}

-- no archive is stored in an account that was never changed
pub none_stored : (vault : List ℕ) (number : ℕ) → stored_archive empty_account vault number ≡ None
none_stored vault number = ap (λ v. stored_in v number) (map.get-empty (slice_cmp nat_cmp) vault)

-- what holds of the body of an archive
abbrev pub HoldsOf : (ℕ → List (List ℕ) → List ℕ → Type 0) → Archive → Type 0
HoldsOf P archive = P archive.size archive.leaves archive.blobs

-- what holds of each body of an account holds of each archive that is live or held
pub of_stored : (P : ℕ → List (List ℕ) → List ℕ → Type 0) (account : AccountState) (vault : List ℕ) (number : ℕ) (archive : Archive)
    → InAccount P account → stored_archive account vault number ≡ Some archive → HoldsOf P archive
of_stored P account vault number archive all stored = in_vault (map.get account.vaults vault) (all vault) stored
  where
    in_either : (live held : Option Archive) → IfSome live (HoldsOf P) → IfSome held (HoldsOf P) → live_or_held live held ≡ Some archive → HoldsOf P archive
    in_either (Some live) held of_live of_held is = subst (λ (found : Option Archive). IfSome found (HoldsOf P)) is of_live
    in_either None held of_live of_held is = subst (λ (found : Option Archive). IfSome found (HoldsOf P)) is of_held

    in_vault : (found : Option VaultState) → IfSome found (InVault P) → stored_in found number ≡ Some archive → HoldsOf P archive
    in_vault None of is = absurd cc
    in_vault (Some v) of is = in_either (map.get v.archives number) (map.get v.held number) (of.archives number) (of.held number) is

-- the first of the first are the fewer of both
take_both : (len m : ℕ) (xs : List ℕ) → take len (take m xs) ≡ take (min len m) xs
take_both len m xs = elim (leb_tells len m) [
  | inl less ↦ (let same : len ≡ min len m = omega (arith, less.1) in take-take len m xs less.1 ∙ ap (λ j. take j xs) same)
  | inr more ↦ (let same : m ≡ min len m = omega (arith, more.1) in
      take_all len (take m xs) (omega (arith, length-take m xs, more.1)) ∙ ap (λ j. take j xs) same)
]

-- bytes from a place of a stretch on, as far as the stretch and the bytes reach
pub stretch_part : (bytes : List ℕ) (first end at len n : ℕ) → n ≡ min len (min end (length bytes) - (first + at))
    → take n (drop (first + at) bytes) ≡ take len (drop at (take (end - first) (drop first bytes)))
stretch_part bytes first end at len n is =
    let rest : List ℕ = drop first bytes in
    let xs : List ℕ = drop (first + at) bytes in
    let m : ℕ = end - first - at in
    elim (leb_tells at (end - first)) [
      | inl inside ↦ (let sum : at + m ≡ end - first = omega (arith, inside.1) in
          let cut : drop at (take (end - first) rest) ≡ take m xs =
          ap (λ j. drop at (take j rest)) (sym sum) ∙ drop-take at m rest ∙ ap (take m) (drop-drop at first bytes) in
          let few : n ≡ min (min len m) (length xs) = omega (arith, is, length-drop (first + at) bytes, inside.1) in
          ap (λ j. take j xs) few ∙ take_min (min len m) xs ∙ sym (take_both len m xs) ∙ sym (ap (take len) cut))
      | inr past ↦ (let none : n ≡ 0 = omega (arith, is, past.1) in
          let empty : drop at (take (end - first) rest) ≡ [] =
          nil_from_length (drop at (take (end - first) rest)) (omega (arith, length-drop at (take (end - first) rest), length-take (end - first) rest, past.1)) in
          let nothing : take n xs ≡ [] = ap (λ j. take j xs) none in
          nothing ∙ sym (take_all len [] (omega arith)) ∙ sym (ap (take len) empty))
    ]

-- What was read to the front of a buffer of so many bytes: the place is kept from passing the largest number, and the end
-- from passing the last byte.
module _ (bytes : List ℕ) (first end at len n size most place stop : ℕ) (into piece rest : List ℕ) (size_is : size ≡ length bytes)
    (place_is : place ≡ min (first + at) most) (stop_is : stop ≡ min end size) (fits : stop ≤ most)
    (n_is : n ≡ min len (stop - place)) (len_is : len ≡ length into) (piece_is : length piece ≡ length (take n into))
    (read : place + length (take n into) ≤ size → piece ≡ take (length (take n into)) (drop place bytes)) where
  lent : length (take n into) ≡ n
  lent = omega (arith, length-take n into, n_is, len_is)

  count : n ≡ min len (min end (length bytes) - (first + at))
  count = omega (arith, size_is, place_is, stop_is, fits, n_is)

  front : take n (piece ++ rest) ≡ take n (drop (first + at) bytes)
  front = elim (leb_tells 1 n) [
    | inl some ↦ (let here : place ≡ first + at = omega (arith, place_is, fits, n_is, some.1) in
        let inside : place + length (take n into) ≤ size = omega (arith, lent, stop_is, n_is, some.1) in
        take_at piece rest n (piece_is ∙ lent) ∙ read inside ∙ ap (λ j. take j (drop place bytes)) lent ∙ ap (λ p. take n (drop p bytes)) here)
    | inr none ↦ (let zero : n ≡ 0 = omega (arith, none.1) in
        let left : take n (piece ++ rest) ≡ [] = ap (λ j. take j (piece ++ rest)) zero in
        let right : take n (drop (first + at) bytes) ≡ [] = ap (λ j. take j (drop (first + at) bytes)) zero in
        left ∙ sym right)
  ]

  pub stretch_read : take n (piece ++ rest) ≡ take len (drop at (take (end - first) (drop first bytes)))
  stretch_read = front ∙ stretch_part bytes first end at len n count

-- a stretch that answers for the output of a job, in a state that an image stands for
module _ (image : Image) (state : State) (account name : List ℕ) (job : ℕ) (stretch : Stretch) (stands : Stands image state)
    (output : IsOutputOf (account_in state.accounts account) name job stretch) where
  abbrev bytes : List ℕ
  bytes = bytes_of state.bodies account output.archive.blobs

  told : IsTold state.bodies account output.archive.size output.archive.leaves output.archive.blobs
  told = of_stored (IsTold state.bodies account) (account_in state.accounts account) stretch.vault stretch.archive output.archive (stands.state_is.tells.told account) output.stored

  bytes_are : (first end : ℕ) → stretch_bytes state account (between stretch first end) ≡ take (end - first) (drop first bytes)
  bytes_are first end = ap (λ found. take (end - first) (drop first (archive_bytes state account found))) output.stored

  pub whole_length : length (stretch_bytes state account stretch) ≡ stretch.end - stretch.first
  whole_length =
      ap length (bytes_are stretch.first stretch.end)
      ∙ omega (arith, length-take (stretch.end - stretch.first) (drop stretch.first bytes), length-drop stretch.first bytes, output.order, output.within, told.size_is)

  pub whole_part : stretch_bytes state account stretch
      ≡ take (stretch.end - stretch.first) (drop (stretch.first - output.first) (stretch_bytes state account (between stretch output.first output.end)))
  whole_part =
      let n : ℕ = stretch.end - stretch.first in
      let at : ℕ = stretch.first - output.first in
      let here : stretch.first ≡ output.first + at = omega (arith, output.from) in
      let count : n ≡ min n (min output.end (length bytes) - (output.first + at)) = omega (arith, output.from, output.order, output.to, output.within, told.size_is) in
      bytes_are stretch.first stretch.end
      ∙ ap (λ p. take n (drop p bytes)) here
      ∙ stretch_part bytes output.first output.end at n n count
      ∙ ap (λ part. take n (drop at part)) (sym (bytes_are output.first output.end))
