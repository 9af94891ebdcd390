-- What the bytes at a place say, by their first five.
use Rattle.std.proofs.Common.{◌≡◌, ◌≢◌, ◌⊎◌, ⊎_elim, ℕ, zero, suc, ◌+◌, ◌-◌, ◌≤◌, ◌<◌, ◌^◌, List, [], ◌∷◌, ◌++◌, length, take, drop, get_or, replicate, refl, sym, ◌∙◌, ap, arith, length-append, length-drop, append_assoc, take-append-drop}
use Rattle.std.proofs.lemmas.List.{append-nil, length-take}
use Rattle.std.proofs.lemmas.Nat.{be_bytes_4, from_be_bytes-to_be_bytes_4}
use Rattle.std.specs.Int.{w32, to_be_bytes, from_be_bytes}
use Rattle.glacier_disk.specs.Image.{padded}
use Rattle.glacier_journal.specs.Breaks.{IsBroken}
use Rattle.glacier_journal.specs.Listed.{sized}
use Rattle.glacier_journal.specs.Steps.{BeginsWith}
use Rattle.glacier_journal.proofs.ListLemmas.{length-sized}

-- the length that five bytes give
abbrev pub told_length : List ℕ → ℕ
told_length h = from_be_bytes w32 (get_or h 1 0 ∷ get_or h 2 0 ∷ get_or h 3 0 ∷ get_or h 4 0 ∷ [])

pub full : (n : ℕ) (xs : List ℕ) → n ≤ length xs → padded n xs ≡ take n xs
full n xs le = let none : n - length xs ≡ 0 = omega arith in ap (λ (m : ℕ). take n xs ++ replicate m 0) none ∙ append-nil (take n xs)

-- five bytes of a record
pub padded_record : (gate : ℕ) (payload tail : List ℕ) → padded 5 (gate ∷ sized payload ++ tail) ≡ gate ∷ to_be_bytes w32 (length payload)
padded_record gate payload tail = full 5 (gate ∷ sized payload ++ tail) (omega (arith, length-append (sized payload) tail, length-sized payload))

pub spelled_length : (gate : ℕ) (payload tail : List ℕ) → length payload < 2 ^ 32 → told_length (gate ∷ to_be_bytes w32 (length payload)) ≡ length payload
spelled_length gate payload tail short = from_be_bytes-to_be_bytes_4 (length payload) short

-- neither a closed gate nor a whole record with a gate behind it
pub broken : (b h : List ℕ) → h ≡ padded 5 b → get_or h 0 0 ≢ 0 → (2 ^ 26 < told_length h) ⊎ (length b ≤ told_length h + 5) → IsBroken b
broken b h is gate bad = record {
  no_end = λ rest spelled. gate (ap (λ (l : List ℕ). get_or l 0 0) (is ∙ ap (padded 5) spelled));
  no_record = λ g next payload rest is_open short spelled.
      let head : h ≡ g ∷ to_be_bytes w32 (length payload) = is ∙ ap (padded 5) spelled ∙ padded_record g payload (next ∷ rest) in
      let count : told_length h ≡ length payload = ap told_length head ∙ spelled_length g payload [] (omega (arith, short)) in
      let long : length b ≡ length payload + 6 + length rest = omega (arith, ap (λ (l : List ℕ). length l) spelled, length-append (sized payload) (next ∷ rest), length-sized payload) in
      ⊎_elim (λ much. omega (arith, much, count, short)) (λ few. omega (arith, few, count, long)) bad;
}

five : (h : List ℕ) → length h ≡ 5 → h ≡ get_or h 0 0 ∷ get_or h 1 0 ∷ get_or h 2 0 ∷ get_or h 3 0 ∷ get_or h 4 0 ∷ []
five [] is = absurd (omega arith)
five (a ∷ []) is = absurd (omega arith)
five (a ∷ b ∷ []) is = absurd (omega arith)
five (a ∷ b ∷ c ∷ []) is = absurd (omega arith)
five (a ∷ b ∷ c ∷ d ∷ []) is = absurd (omega arith)
five (a ∷ b ∷ c ∷ d ∷ e ∷ []) is = refl
five (a ∷ b ∷ c ∷ d ∷ e ∷ f ∷ h) is = absurd (omega arith)

four_fit : (a b c d : ℕ) → a < 256 → b < 256 → c < 256 → d < 256 → (i : ℕ) → get_or (a ∷ b ∷ c ∷ d ∷ []) i 0 < 256
four_fit a b c d af bf cf df zero = af
four_fit a b c d af bf cf df (suc zero) = bf
four_fit a b c d af bf cf df (suc (suc zero)) = cf
four_fit a b c d af bf cf df (suc (suc (suc zero))) = df
four_fit a b c d af bf cf df (suc (suc (suc (suc i)))) = omega arith

pub begins : (b h payload : List ℕ) → h ≡ padded 5 b → get_or h 0 0 ≢ 0 → ((k : ℕ) → get_or h k 0 < 256) → told_length h ≤ 2 ^ 26 → told_length h + 5 < length b → payload ≡ padded (told_length h) (drop 5 b) → BeginsWith b payload
begins b h payload is gate fits short inside read =
    let n = told_length h in
    let bytes = get_or h 1 0 ∷ get_or h 2 0 ∷ get_or h 3 0 ∷ get_or h 4 0 ∷ [] in
    let head : h ≡ take 5 b = is ∙ full 5 b (omega (arith, inside)) in
    let parts : h ≡ get_or h 0 0 ∷ bytes = five h (ap (λ (l : List ℕ). length l) head ∙ length-take 5 b ∙ omega (arith, inside)) in
    let tail : payload ≡ take n (drop 5 b) = read ∙ full n (drop 5 b) (omega (arith, inside, length-drop 5 b)) in
    let size : length payload ≡ n = ap (λ (l : List ℕ). length l) tail ∙ length-take n (drop 5 b) ∙ omega (arith, inside, length-drop 5 b) in
    let spelled : to_be_bytes w32 n ≡ bytes = be_bytes_4 bytes n refl (four_fit _ _ _ _ (fits 1) (fits 2) (fits 3) (fits 4)) refl in
    let sized_is : sized payload ≡ bytes ++ payload = ap (λ (k : ℕ). to_be_bytes w32 k ++ payload) size ∙ ap (λ (l : List ℕ). l ++ payload) spelled in
    let whole : b ≡ (get_or h 0 0 ∷ bytes) ++ payload ++ drop n (drop 5 b) =
    sym (take-append-drop 5 b)
    ∙ ap (λ (l : List ℕ). l ++ drop 5 b) (sym head ∙ parts)
    ∙ ap (λ (l : List ℕ). (get_or h 0 0 ∷ bytes) ++ l) (sym (take-append-drop n (drop 5 b)) ∙ ap (λ (l : List ℕ). l ++ drop n (drop 5 b)) (sym tail))
    ∙ sym (append_assoc (get_or h 0 0 ∷ bytes) payload (drop n (drop 5 b))) in (
      get_or h 0 0,
      drop n (drop 5 b),
      gate,
      omega (arith, short, size),
      whole ∙ ap (λ (l : List ℕ). get_or h 0 0 ∷ l ++ drop n (drop 5 b)) (sym sized_is),
    )
