-- Values behind their number: read as they are spelled, and one after the other as a loop does it.
use Rattle.std.proofs.Common.{◌≡◌, ℕ, zero, suc, ◌-◌, ◌+◌, ◌≤◌, ◌<◌, List, [], ◌∷◌, ◌++◌, length, flat_map, Option, Some, None, refl, sym, ap, subst, ◌∙◌, append_assoc, arith}
use Rattle.std.specs.Int.{Width, to_be_bytes}
use Rattle.std.specs.List.{AllByRecursion}
use Rattle.std.proofs.lemmas.List.{append-nil}
use Rattle.std.proofs.lemmas.List.Concat.{flat_map-cons}
use Rattle.glacier_records.specs.declared.unread.Unread.{Unread}
use Rattle.glacier_records.specs.declared.unread.Unread.TheVariants as unread
use Rattle.glacier_records.specs.Codec.{Codec, ◌>>=◌, number, read_many, many}
use Rattle.glacier_records.specs.Taken.{Misses}
use Rattle.glacier_records.proofs.CodecLemmas.{IsBytes, IsSound, IsWide, number_sound}
use Rattle.glacier_records.proofs.OptionLemmas.{bind_some, some_is}

-- so many values were taken from the front of bytes
record TookMany {X : Type 0} (c : Codec X) (n : ℕ) (bytes : List ℕ) (xs : List X) (rest : List ℕ) : Type 0 where
  pub count : length xs ≡ n
  pub fit : AllByRecursion c.Fits xs
  pub spelled : bytes ≡ flat_map c.spell xs ++ rest
  pub left : IsBytes rest

many_found : {X : Type 0} (c : Codec X) → IsSound c → (n : ℕ) (bytes : List ℕ) (xs : List X) (rest : List ℕ)
    → IsBytes bytes → read_many c n bytes ≡ Some (xs, rest) → TookMany c n bytes xs rest
unfolding read_many
many_found {X} c sound zero bytes xs rest are e =
    let none : List X = [] in
    subst (λ (p : List X × List ℕ). TookMany c 0 bytes p.0 p.1) (some_is (none, bytes) (xs, rest) e)
    (record { count = refl; fit = tt; spelled = refl; left = are })
many_found {X} c sound (suc n) bytes xs rest are e =
    let a = bind_some (c.read bytes) (λ x. read_many c n x.1 >>= λ ys. Some (x.0 ∷ ys.0, ys.1)) (xs, rest) e in
    let b = bind_some (read_many c n a.0.1) (λ ys. Some (a.0.0 ∷ ys.0, ys.1)) (xs, rest) a.2 in
    let first = sound.found bytes a.0.0 a.0.1 are a.1 in
    let more = many_found c sound n a.0.1 b.0.0 b.0.1 first.left b.1 in
    let made : List X × List ℕ = (a.0.0 ∷ b.0.0, b.0.1) in
    subst (λ (p : List X × List ℕ). TookMany c (suc n) bytes p.0 p.1) (some_is made (xs, rest) b.2) (record {
      count = ap suc more.count;
      fit = (first.fits, more.fit);
      spelled =
          first.spelled ∙ ap (λ (l : List ℕ). c.spell a.0.0 ++ l) more.spelled
          ∙ sym (append_assoc (c.spell a.0.0) (flat_map c.spell b.0.0) b.0.1)
          ∙ ap (λ (l : List ℕ). l ++ b.0.1) (sym (flat_map-cons c.spell a.0.0 b.0.0));
      left = more.left;
    })

many_again : {X : Type 0} (c : Codec X) → IsSound c → (xs : List X) (rest : List ℕ) → AllByRecursion c.Fits xs
    → read_many c (length xs) (flat_map c.spell xs ++ rest) ≡ Some (xs, rest)
unfolding read_many
many_again c sound [] rest fits = refl
many_again c sound (x ∷ xs) rest fits =
    let regrouped : flat_map c.spell (x ∷ xs) ++ rest ≡ c.spell x ++ (flat_map c.spell xs ++ rest) = ap (λ (l : List ℕ). l ++ rest) (flat_map-cons c.spell x xs) ∙ append_assoc (c.spell x) (flat_map c.spell xs) rest in
    ap (read_many c (suc (length xs))) regrouped
    ∙ rw (sound.again x (flat_map c.spell xs ++ rest) fits.0, many_again c sound xs rest fits.1) refl

pub many_sound : {X : Type 0} (w : Width) (c : Codec X) → IsWide w → IsSound c → IsSound (many w c)
many_sound {X} w c wide sound = record {
  found = λ bytes xs rest are e.
      let a = bind_some ((number w).read bytes) (λ n. read_many c n.0 n.1) (xs, rest) e in
      let first = (number_sound w wide).found bytes a.0.0 a.0.1 are a.1 in
      let more = many_found c sound a.0.0 a.0.1 xs rest first.left a.2 in
      record {
        fits = (subst (λ (n : ℕ). (number w).Fits n) (sym more.count) first.fits, more.fit);
        spelled =
            first.spelled ∙ ap (λ (l : List ℕ). to_be_bytes w a.0.0 ++ l) more.spelled
            ∙ sym (append_assoc (to_be_bytes w a.0.0) (flat_map c.spell xs) rest)
            ∙ ap (λ (n : ℕ). (to_be_bytes w n ++ flat_map c.spell xs) ++ rest) (sym more.count);
        left = more.left;
      };
  again = λ xs rest fits.
      ap (many w c).read (append_assoc (to_be_bytes w (length xs)) (flat_map c.spell xs) rest)
      ∙ rw ((number_sound w wide).again (length xs) (flat_map c.spell xs ++ rest) fits.0) (many_again c sound xs rest fits.1);
}

-- what was read before, and what is still read
abbrev pub with_front : {X : Type 0} → List X → Option (List X × List ℕ) → Option (List X × List ℕ)
with_front {X} front read = read >>= λ x. let both : List X × List ℕ = (front ++ x.0, x.1) in Some both

regroup : {X : Type 0} (front : List X) (n : X) (read : Option (List X × List ℕ))
    → with_front front (read >>= λ x. let both : List X × List ℕ = (n ∷ x.0, x.1) in Some both) ≡ with_front (front ++ n ∷ []) read
regroup {X} front n (Some x) = ap (λ (ns : List X). let both : List X × List ℕ = (ns, x.1) in Some both) (sym (append_assoc front (n ∷ []) x.0))
regroup front n None = refl

module _ {X : Type 0} (c : Codec X) (front : List X) (count i : ℕ) (bytes : List ℕ) (total : Option (List X × List ℕ)) where
  pub goes_on : (n : X) (after : List ℕ) → i < count → c.read bytes ≡ Some (n, after)
      → with_front front (read_many c (count - i) bytes) ≡ total
      → with_front (front ++ n ∷ []) (read_many c (count - (i + 1)) after) ≡ total
  unfolding read_many
  goes_on n after lt h so_far =
      let k : count - i ≡ suc (count - (i + 1)) = omega arith in
      let one : with_front front (read_many c (count - i) bytes) ≡ with_front (front ++ n ∷ []) (read_many c (count - (i + 1)) after) = rw (k, h) (regroup front n (read_many c (count - (i + 1)) after)) in
      sym one ∙ so_far

  pub ends : (e : Unread) → i < count → Misses e (c.read bytes)
      → with_front front (read_many c (count - i) bytes) ≡ total → Misses e total
  unfolding read_many
  ends unread.Memory lt h so_far = tt
  ends unread.NoValue lt h so_far =
      let k : count - i ≡ suc (count - (i + 1)) = omega arith in
      let one : with_front front (read_many c (count - i) bytes) ≡ None = rw (k, h) refl in
      sym so_far ∙ one

  pub is_done : count ≤ i → with_front front (read_many c (count - i) bytes) ≡ total → total ≡ Some (front, bytes)
  unfolding read_many
  is_done le so_far =
      let k : count - i ≡ 0 = omega arith in
      let one : with_front front (read_many c (count - i) bytes) ≡ Some (front, bytes) = rw k (ap (λ (ns : List X). let both : List X × List ℕ = (ns, bytes) in Some both) (append-nil front)) in
      sym so_far ∙ one
