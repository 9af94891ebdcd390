-- No image stands for two states: the runs and the accounts say how long each blob is, and a content holds one list of a length.
use Rattle.std.specs.Prelude.{◌≡◌, ◌⊎◌, ℕ, ◌+◌, ◌%◌, ◌≤◌, Bool, true, false, cond, List, [], ◌∷◌, Option, Some, None, IfSome, is_some, length, nat_eq, unwrap_or, option_and_then}
use Rattle.std.specs.Cmp.{nat_cmp_total}
use Rattle.std.specs.Cmp.Lexicographic.{nat_list_cmp_total}
use Rattle.std.specs.FinMap as map
use Rattle.std.specs.FinMap.{FinMap}
use Rattle.std.specs.Ordering.{nat_cmp}
use Rattle.std.proofs.Common.{sym, ◌∙◌, ap, subst, refl, arith, inl, inr}
use Rattle.std.proofs.lemmas.Bool.{eqb-true}
use Rattle.std.proofs.lemmas.List.{length-append}
use Rattle.std.proofs.lemmas.List.Sums.{sum_by-cons}
use Rattle.glacier_base.proofs.Finite.{bytes_cmp-IsAntisymmetric}
use Rattle.glacier_bodies.specs.BlobAreas.{bytes_of}
use Rattle.glacier_bodies.specs.Stands.{Bodies, Layouts, AllHeld, at_blob}
use Rattle.glacier_bodies.proofs.KeepLemmas.{held_same}
use Rattle.glacier_disk.specs.declared.area.Area.TheVariants.{Blobs}
use Rattle.glacier_disk.specs.Image.{Image}
use Rattle.glacier_journal.specs.Listed.{Payloads}
use Rattle.glacier_journal.proofs.OneList.{one_list}
use Rattle.glacier_treehash.specs.Tree.{mib}
use Rattle.glacier_vault.specs.Freed.{times_in}
use Rattle.glacier_vault.specs.Totals.{need}
use Rattle.glacier_vault.specs.declared.archive.Archive.{Archive}
use Rattle.glacier_vault.specs.declared.archive.Part.{Part}
use Rattle.glacier_vault.specs.declared.archive.Upload.{Upload}
use Rattle.glacier_vault.specs.declared.state.AccountState.{AccountState}
use Rattle.glacier_vault.specs.declared.state.VaultState.{VaultState}
use Rattle.glacier_vault.specs.Accounts.{Accounts, account_in}
use Rattle.glacier_replay.specs.Changes.{State}
use Rattle.glacier_replay.specs.Made.{Holdings, nothing}
use Rattle.glacier_replay.specs.Standing.{AreThere, IsStateOf, IsTold, InAccount, InVault, Matches, Stands, Tells}
use Rattle.glacier_replay.proofs.MadeLemmas.{leads_one}
use Rattle.glacier_replay.proofs.NamedLemmas.{named_gives}
use Rattle.glacier_replay.proofs.Options.{there_is}

-- two things that hold of each body
both_some : {X : Type 0} {P Q R : X → Type 0} (r : Option X) → ((x : X) → P x → Q x → R x) → IfSome r P → IfSome r Q → IfSome r R
both_some None join p q = tt
both_some (Some x) join p q = join x p q

module _ {P Q R : ℕ → List (List ℕ) → List ℕ → Type 0} (join : (size : ℕ) (leaves : List (List ℕ)) (blobs : List ℕ) → P size leaves blobs → Q size leaves blobs → R size leaves blobs) where
  both_vault : (vault : VaultState) → InVault P vault → InVault Q vault → InVault R vault
  both_vault vault p q = record {
    archives = λ n. both_some (map.get vault.archives n) (λ (archive : Archive). join archive.size archive.leaves archive.blobs) (p.archives n) (q.archives n);
    held = λ n. both_some (map.get vault.held n) (λ (archive : Archive). join archive.size archive.leaves archive.blobs) (p.held n) (q.held n);
    parts = λ n. both_some (map.get vault.uploads n) (λ (upload : Upload) k l index. both_some (map.get upload.parts index) (λ (part : Part). join part.size part.leaves (part.blob ∷ [])) (k index) (l index)) (p.parts n) (q.parts n);
  }

  pub both_account : (a : AccountState) → InAccount P a → InAccount Q a → InAccount R a
  both_account a p q name = both_some (map.get a.vaults name) both_vault (p name) (q name)

-- bytes whose numbers of blocks are the same, and that end with a whole MiB, are as many
whole_same : (x y : ℕ) → need x ≡ need y → x % mib ≡ 0 → y % mib ≡ 0 → x ≡ y
whole_same x y same first second = omega arith

module _ (layouts : Layouts) (one other : Bodies) (one_matches : Matches layouts one) (other_matches : Matches layouts other) (account : List ℕ) where
  counts_same : (n : ℕ) (x y : List ℕ) → at_blob one account n ≡ Some x → at_blob other account n ≡ Some y → need (length x) ≡ need (length y)
  counts_same n x y there elsewhere = there_is (at_blob layouts account n) (one_matches.blobs account n ∙ ap is_some there) (λ runs is.
      sym (one_matches.counts account n runs x is there) ∙ other_matches.counts account n runs y is elsewhere)

  heads : (x y : List ℕ) (n : ℕ) (blobs : List ℕ) → at_blob one account n ≡ Some x → at_blob other account n ≡ Some y
      → (blobs ≡ []) ⊎ (length x % mib ≡ 0) → (blobs ≡ []) ⊎ (length y % mib ≡ 0)
      → length x + length (bytes_of one account blobs) ≡ length y + length (bytes_of other account blobs) → length x ≡ length y
  heads x y n blobs there elsewhere (inr whole) (inr also) sum = whole_same (length x) (length y) (counts_same n x y there elsewhere) whole also
  heads x y n blobs there elsewhere (inl last) also sum = omega (arith, sum, ap (λ l. length (bytes_of one account l)) last, ap (λ l. length (bytes_of other account l)) last)
  heads x y n blobs there elsewhere (inr whole) (inl last) sum = omega (arith, sum, ap (λ l. length (bytes_of one account l)) last, ap (λ l. length (bytes_of other account l)) last)

  split : (bodies : Bodies) (n : ℕ) (blobs x : List ℕ) → at_blob bodies account n ≡ Some x → length (bytes_of bodies account (n ∷ blobs)) ≡ length x + length (bytes_of bodies account blobs)
  split bodies n blobs x there = length-append (unwrap_or (at_blob bodies account n) []) (bytes_of bodies account blobs) ∙ ap (λ r. length (unwrap_or r []) + length (bytes_of bodies account blobs)) there

  lengths_same : (blobs : List ℕ) → AreThere one account blobs → AreThere other account blobs → length (bytes_of one account blobs) ≡ length (bytes_of other account blobs)
      → (n : ℕ) (x y : List ℕ) → 1 ≤ times_in n blobs → at_blob one account n ≡ Some x → at_blob other account n ≡ Some y → length x ≡ length y
  lengths_same [] first second sum n x y among there elsewhere = absurd (omega arith)
  lengths_same (k ∷ blobs) first second sum n x y among there elsewhere =
      let own = first.0 in
      let its = second.0 in
      let parted = sym (split one k blobs own.0 own.1) ∙ sum ∙ split other k blobs its.0 its.1 in
      let head : length own.0 ≡ length its.0 = heads own.0 its.0 k blobs own.1 its.1 own.2 its.2 parted in
      at own.0 its.0 own.1 its.1 head (nat_eq k n) refl (λ later. lengths_same blobs first.1 second.1 (omega (arith, parted, head)) n x y later there elsewhere)
    where
      at : (own its : List ℕ) → at_blob one account k ≡ Some own → at_blob other account k ≡ Some its → length own ≡ length its
          → (b : Bool) → nat_eq k n ≡ b → (1 ≤ times_in n blobs → length x ≡ length y) → length x ≡ length y
      at own its own_is its_is head true t later =
          let is : k ≡ n = eqb-true k n t in
          let left : Some own ≡ Some x = sym own_is ∙ ap (at_blob one account) is ∙ there in
          let right : Some its ≡ Some y = sym its_is ∙ ap (at_blob other account) is ∙ elsewhere in
          let own_x : own ≡ x = cc in
          let its_y : its ≡ y = cc in
          sym (ap length own_x) ∙ head ∙ ap length its_y
      at own its own_is its_is head false t later =
          later (omega (arith, among, sum_by-cons (λ (j : ℕ). cond {A = ℕ} (nat_eq j n) 1 0) k blobs, ap (λ b. cond {A = ℕ} b 1 0) t))

module _ (accounts : Accounts) (layouts : Layouts) (one other : Bodies) (content : List ℕ)
    (one_matches : Matches layouts one) (other_matches : Matches layouts other)
    (one_held : AllHeld layouts one content) (other_held : AllHeld layouts other content)
    (one_tells : Tells accounts one) (other_tells : Tells accounts other) (account : List ℕ) where
  -- a blob is as long in both
  long : (n : ℕ) (x y : List ℕ) → at_blob one account n ≡ Some x → at_blob other account n ≡ Some y → length x ≡ length y
  long n x y there elsewhere = named_gives n (length x ≡ length y) (account_in accounts account)
      (both_account {R = λ size leaves blobs. 1 ≤ times_in n blobs → length x ≡ length y} (λ size leaves blobs (first : IsTold one account size leaves blobs) (second : IsTold other account size leaves blobs) among.
      lengths_same layouts one other one_matches other_matches account blobs first.there second.there (sym first.size_is ∙ second.size_is) n x y among there elsewhere)
      (account_in accounts account) (one_tells.told account) (other_tells.told account))
      (one_tells.no_other account n x there)

  same_bytes : (n : ℕ) (r s : Option (List ℕ)) → at_blob one account n ≡ r → at_blob other account n ≡ s → r ≡ s
  same_bytes n None None e f = refl
  same_bytes n None (Some y) e f =
      let no : false ≡ true = ap is_some (sym e) ∙ sym (one_matches.blobs account n) ∙ other_matches.blobs account n ∙ ap is_some f in cc
  same_bytes n (Some x) None e f =
      let no : false ≡ true = ap is_some (sym f) ∙ sym (other_matches.blobs account n) ∙ one_matches.blobs account n ∙ ap is_some e in cc
  same_bytes n (Some x) (Some y) e f = there_is (at_blob layouts account n) (one_matches.blobs account n ∙ ap is_some e) (λ runs is.
      let first = one_held account n runs is in
      let second = other_held account n runs is in
      let left : first.0 ≡ x = the_same (sym first.1 ∙ e) in
      let right : second.0 ≡ y = the_same (sym second.1 ∙ f) in
      let same : first.0 ≡ second.0 = held_same runs first.0 second.0 content first.2 second.2 (ap length left ∙ long n x y e f ∙ ap length (sym right)) in
      ap Some (sym left ∙ same ∙ right))
    where
      the_same : {a b : List ℕ} → Some a ≡ Some b → a ≡ b
      the_same e = cc

  pub same_at : (n : ℕ) → at_blob one account n ≡ at_blob other account n
  same_at n = same_bytes n (at_blob one account n) (at_blob other account n) refl refl

-- two maps by blob in which the same accounts have a map, and each blob has the same
maps_same : (one other : Bodies) → ((account : List ℕ) → map.contains_key one account ≡ map.contains_key other account) → ((account : List ℕ) (n : ℕ) → at_blob one account n ≡ at_blob other account n) → one ≡ other
maps_same one other keys each = map.same_map nat_list_cmp_total bytes_cmp-IsAntisymmetric one other (λ account. at account (map.get one account) (map.get other account) refl refl)
  where
    at : (account : List ℕ) (r s : Option (FinMap nat_cmp (List ℕ))) → map.get one account ≡ r → map.get other account ≡ s → r ≡ s
    at account None None e f = refl
    at account None (Some inner) e f = let no : false ≡ true = ap is_some (sym e) ∙ keys account ∙ ap is_some f in cc
    at account (Some inner) None e f = let no : true ≡ false = ap is_some (sym e) ∙ keys account ∙ ap is_some f in cc
    at account (Some inner) (Some its) e f = ap Some (map.same_map nat_cmp_total map.nat_cmp-IsAntisymmetric inner its (λ n.
        sym (ap (λ r. option_and_then (λ (i : FinMap nat_cmp (List ℕ)). map.get i n) r) e) ∙ each account n ∙ ap (λ r. option_and_then (λ (i : FinMap nat_cmp (List ℕ)). map.get i n) r) f))

pub bodies_one : (accounts : Accounts) (layouts : Layouts) (one other : Bodies) (content : List ℕ) → Matches layouts one → Matches layouts other
    → AllHeld layouts one content → AllHeld layouts other content → Tells accounts one → Tells accounts other → one ≡ other
bodies_one accounts layouts one other content one_matches other_matches one_held other_held one_tells other_tells =
    maps_same one other (λ account. sym (one_matches.accounts account) ∙ other_matches.accounts account)
    (same_at accounts layouts one other content one_matches other_matches one_held other_held one_tells other_tells)

-- payloads and a content are those of one state
pub state_of_one : (payloads : Payloads) (one_layouts other_layouts : Layouts) (content : List ℕ) (one other : State)
    → IsStateOf payloads one_layouts content one → IsStateOf payloads other_layouts content other → one ≡ other
state_of_one payloads one_layouts other_layouts content one other first second =
    let same : ◌≡◌ {A = Holdings} (record { accounts = one.accounts; layouts = one_layouts }) (record { accounts = other.accounts; layouts = other_layouts }) = leads_one payloads nothing _ _ first.made second.made in
    let accounts : one.accounts ≡ other.accounts = ap (λ (h : Holdings). h.accounts) same in
    let layouts : one_layouts ≡ other_layouts = ap (λ (h : Holdings). h.layouts) same in
    let bodies : one.bodies ≡ other.bodies = bodies_one other.accounts other_layouts one.bodies other.bodies content
    (subst (λ (l : Layouts). Matches l one.bodies) layouts first.matches) second.matches
    (subst (λ (l : Layouts). AllHeld l one.bodies content) layouts first.held) second.held
    (subst (λ (a : Accounts). Tells a one.bodies) accounts first.tells) second.tells in
    λ i. record { accounts = accounts i; bodies = bodies i }

-- no image stands for two states
pub stands_one : (image : Image) (one other : State) → Stands image one → Stands image other → one ≡ other
stands_one image one other first second =
    let same = one_list image first.area second.area first.payloads second.payloads first.end second.end first.listed second.listed in
    state_of_one second.payloads first.layouts second.layouts (image Blobs) one other
    (subst (λ (l : Payloads). IsStateOf l first.layouts (image Blobs) one) same.1 first.state_is) second.state_is
