-- A text that is longer than a good key file has its first bad line within the bytes that one may have.
use Rattle.std.proofs.Common.{◌≡◌, ℕ, zero, suc, ◌+◌, ◌-◌, ◌*◌, ◌<◌, ◌≤◌, Bool, true, false, cond, eqb, List, [], ◌∷◌, ◌++◌, length, take, Option, Some, None, Err, refl, sym, ap, subst, ◌∙◌, inl, inr, arith, append-nil, length-append, length-take-le, take_all}
use Rattle.std.specs.Prelude.{◌&&◌, nat_le, nat_lt, option_map}
use Rattle.std.specs.List.{list_all}
use Rattle.std.specs.Char.{is_ascii_digit}
use Rattle.std.proofs.Math.Seq.{take-nil}
use Rattle.std.proofs.lemmas.Bool.{and_parts, leb-true, ltb-true, eqb-true}
use Rattle.std.proofs.lemmas.Bool.Decides.{leb_tells}
use Rattle.std.proofs.lemmas.List.{take_at}
use Rattle.std.proofs.lemmas.Option.{option_and_then_some}
use Rattle.glacier_base.specs.Cuts.{cut_at, begun}
use Rattle.glacier_base.specs.Names.{is_account}
use Rattle.glacier_http.specs.Fields.{number_of}
use Rattle.glacier_sigv4.specs.declared.ring.Entry.{Entry}
use Rattle.glacier_sigv4.specs.KeyFile.{where_quota, quota_in, parts_of, entry_from, entry_of, fits, where_fits, next_entry, after_entry, entries_from, entries_of, entries_of_lines, lines_of}
use Rattle.glacier_sigv4.specs.Rings.{is_access, is_secret}
use Rattle.glacier_sigv4.proofs.GrammarLemmas.{cut_was}
use Rattle.glacier_sigv4.proofs.KeyFileLemmas.{lines_cut, lines_uncut}
use Rattle.glacier_sigv4.proofs.TestLemmas.{where_true}

-- the length of what was cut
cut_length : (separator : ℕ) (text : List ℕ) (parts : List ℕ × List ℕ) → cut_at separator text ≡ Some parts
    → length text ≡ length parts.0 + suc (length parts.1)
cut_length separator text parts is =
    let was = cut_was separator text parts is in
    ap length was.0 ∙ length-append parts.0 (separator ∷ parts.1)

option_map_some : {A B P : Type 0} (f : A → B) (o : Option A) (y : B) → option_map f o ≡ Some y → ((x : A) → o ≡ Some x → f x ≡ y → P) → P
option_map_some f None y is k = let none : None ≡ Some y = is in absurd (cc)
option_map_some f (Some x) y is k = k x refl (let same : f x ≡ y = cc in same)

-- a quota has at most 7 digits
quota_length : (text : List ℕ) (quota : ℕ) → quota_in text ≡ Some quota → length text ≤ 7
quota_length text quota is =
    option_and_then_some where_quota (number_of 7 text) quota is (λ n found made.
    let test = where_true _ _ n found in
    let parts = and_parts (nat_lt 0 (length text)) (nat_le (length text) 7 && list_all is_ascii_digit text) test.0 in
    let long = and_parts (nat_le (length text) 7) (list_all is_ascii_digit text) parts.1 in
    leb-true (length text) 7 long.0)

-- the parts of an entry have at most so many bytes
record AreShort (account access secret : List ℕ) : Type 0 where
  account_length : length account ≤ 12
  access_length : length access ≤ 128
  secret_length : length secret ≤ 128

parts_short : (account access secret : List ℕ) (quota : ℕ) (entry : Entry) → entry_from account access secret quota ≡ Some entry
    → AreShort account access secret
parts_short account access secret quota entry is =
    let test = where_true _ _ entry is in
    let all = and_parts (is_account account) (is_access access && is_secret secret) test.0 in
    let keys = and_parts (is_access access) (is_secret secret) all.1 in
    let twelve = and_parts _ _ all.0 in
    let first = and_parts (nat_le 1 (length access)) _ keys.0 in
    let second = and_parts (nat_le 1 (length secret)) _ keys.1 in
    let exact : length account ≡ 12 = eqb-true (length account) 12 twelve.0 in
    record {
      account_length = omega (arith, exact);
      access_length = leb-true (length access) 128 (and_parts (nat_le (length access) 128) _ first.1).0;
      secret_length = leb-true (length secret) 128 (and_parts (nat_le (length secret) 128) _ second.1).0;
    }

-- a line that makes an entry has at most 278 bytes
good_line : (line : List ℕ) (entry : Entry) → entry_of line ≡ Some entry → length line ≤ 278
good_line line entry is =
    option_and_then_some (λ (p : List ℕ × List ℕ × List ℕ × ℕ). entry_from p.0 p.1 p.2 p.3) (parts_of line) entry is (λ parts found made.
    option_and_then_some _ (cut_at 32 line) parts found (λ account cut_account more.
    option_and_then_some _ (cut_at 32 account.1) parts more (λ access cut_access rest.
    option_and_then_some _ (cut_at 32 access.1) parts rest (λ secret cut_secret last.
    option_map_some (λ quota. (account.0, access.0, secret.0, quota)) (quota_in secret.1) parts last (λ quota is_quota same.
    let short = parts_short account.0 access.0 secret.0 quota entry
    (subst (λ (p : List ℕ × List ℕ × List ℕ × ℕ). entry_from p.0 p.1 p.2 p.3 ≡ Some entry) (sym same) made) in
    omega (
      arith,
      cut_length 32 line account cut_account,
      cut_length 32 account.1 access cut_access,
      cut_length 32 access.1 secret cut_secret,
      quota_length secret.1 quota is_quota,
      short.account_length,
      short.access_length,
      short.secret_length,
    ))))))

-- a longer line is bad, wherever it stands
long_line : (entries : List Entry) (line : List ℕ) → (64 - length entries) * 279 < length line → next_entry entries line ≡ None
long_line entries line long = go (next_entry entries line) refl
  where
    go : (next : Option Entry) → next_entry entries line ≡ next → next_entry entries line ≡ None
    go None e = e
    go (Some entry) e =
        absurd (option_and_then_some (where_fits entries) (entry_of line) entry e (λ found made kept.
        let test = where_true (fits entries found) found entry kept in
        let few = and_parts (nat_lt (length entries) 64) _ test.0 in
        omega (arith, good_line line found made, ltb-true (length entries) 64 few.0)))

-- a cut within the first bytes stays
take_cut : (text : List ℕ) (parts : List ℕ × List ℕ) (n k : ℕ) → cut_at 10 text ≡ Some parts → k + suc (length parts.0) ≡ n
    → cut_at 10 (take n text) ≡ Some (parts.0, take k parts.1)
take_cut [] parts n k is sum = cc
take_cut (b ∷ text) parts zero k is sum = absurd (omega arith)
take_cut (b ∷ text) parts (suc n) k is sum = go (eqb b 10) is (cut_at 10 text) refl (λ found e more. take_cut text found n k e more)
  where
    go : (t : Bool) → cond t (Some ([], text)) (option_map (begun b) (cut_at 10 text)) ≡ Some parts
        → (c : Option (List ℕ × List ℕ)) → cut_at 10 text ≡ c
        → ((found : List ℕ × List ℕ) → cut_at 10 text ≡ Some found → k + suc (length found.0) ≡ n → cut_at 10 (take n text) ≡ Some (found.0, take k found.1))
        → cond t (Some ([], take n text)) (option_map (begun b) (cut_at 10 (take n text))) ≡ Some (parts.0, take k parts.1)
    go true is c e rec =
        let same : ([], text) ≡ parts = cc in
        let first : length parts.0 ≡ 0 = ap (λ (p : List ℕ × List ℕ). length p.0) (sym same) in
        let all : n ≡ k = omega (arith, first, sum) in
        ap (λ i. Some ([], take i text)) all ∙ ap (λ (p : List ℕ × List ℕ). Some (p.0, take k p.1)) same
    go false is None e rec = let other : None ≡ Some parts = sym (ap (option_map (begun b)) e) ∙ is in cc
    go false is (Some found) e rec =
        let inner : Some (begun b found) ≡ Some parts = sym (ap (option_map (begun b)) e) ∙ is in
        let same : begun b found ≡ parts = cc in
        let first : length parts.0 ≡ suc (length found.0) = ap (λ (p : List ℕ × List ℕ). length p.0) (sym same) in
        ap (option_map (begun b)) (rec found e (omega (arith, first, sum))) ∙ ap (λ (p : List ℕ × List ℕ). Some (p.0, take k p.1)) same

-- bytes before the first cut have none
take_uncut : (text : List ℕ) (n : ℕ) → ((parts : List ℕ × List ℕ) → cut_at 10 text ≡ Some parts → n ≤ length parts.0)
    → cut_at 10 (take n text) ≡ None
take_uncut [] n far = ap (cut_at 10) (take-nil n)
take_uncut (b ∷ text) zero far = refl
take_uncut (b ∷ text) (suc n) far = go (eqb b 10) refl (take_uncut text n)
  where
    go : (t : Bool) → eqb b 10 ≡ t → (((parts : List ℕ × List ℕ) → cut_at 10 text ≡ Some parts → n ≤ length parts.0) → cut_at 10 (take n text) ≡ None)
        → cond t (Some ([], take n text)) (option_map (begun b) (cut_at 10 (take n text))) ≡ None
    go true e rec =
        let cut : cut_at 10 (b ∷ text) ≡ Some ([], text) = ap (λ t. cond t (Some ([], text)) (option_map (begun b) (cut_at 10 text))) e in
        let none = far ([], text) cut in
        absurd (omega (arith, none))
    go false e rec =
        ap (option_map (begun b)) (rec (λ parts is.
        let here : cut_at 10 (b ∷ text) ≡ option_map (begun b) (cut_at 10 text) = ap (λ t. cond t (Some ([], text)) (option_map (begun b) (cut_at 10 text))) e in
        let more = far (begun b parts) (here ∙ ap (option_map (begun b)) is) in
        omega (arith, more)))

-- a bad line ends the reading
bad_line : (entries : List Entry) (line : List ℕ) (lines all : List (List ℕ)) → all ≡ line ∷ lines → next_entry entries line ≡ None
    → entries_from all entries ≡ Err (length entries + 1)
bad_line entries line lines all are none =
    ap (λ (ls : List (List ℕ)). entries_from ls entries) are ∙ ap (λ (next : Option Entry). after_entry entries next (entries_from lines)) none

-- and a good one goes on
good_next : (entries : List Entry) (line : List ℕ) (lines all : List (List ℕ)) (entry : Entry) → all ≡ line ∷ lines → next_entry entries line ≡ Some entry
    → entries_from all entries ≡ entries_from lines (entries ++ entry ∷ [])
good_next entries line lines all entry are some =
    ap (λ (ls : List (List ℕ)). entries_from ls entries) are ∙ ap (λ (next : Option Entry). after_entry entries next (entries_from lines)) some

-- what fits behind other entries is a line that is short enough, and they are fewer than 64
next_short : (entries : List Entry) (line : List ℕ) (entry : Entry) → next_entry entries line ≡ Some entry → (length line ≤ 278) × (length entries < 64)
next_short entries line entry is =
    option_and_then_some (where_fits entries) (entry_of line) entry is (λ found made kept.
    let test = where_true (fits entries found) found entry kept in
    (good_line line found made, ltb-true (length entries) 64 (and_parts (nat_lt (length entries) 64) _ test.0).0))

-- the front of a text is read as the text is
abbrev ReadsAlike : List ℕ → List Entry → ℕ → Type 0
ReadsAlike text entries n = entries_from (lines_of (take n text)) entries ≡ entries_from (lines_of text) entries

module _ (text : List ℕ) (entries : List Entry) (n : ℕ) (some : 0 < length text) (room : (64 - length entries) * 279 < n)
    (rest : (behind : List ℕ) (more : List Entry) (k : ℕ) → length behind < length text → (64 - length more) * 279 < k → ReadsAlike behind more k) where
  -- the front is one line, which is too long
  one_line : n ≤ length text → ((parts : List ℕ × List ℕ) → cut_at 10 text ≡ Some parts → n ≤ length parts.0)
      → entries_from (lines_of (take n text)) entries ≡ Err (length entries + 1)
  one_line long far =
      let exact : length (take n text) ≡ n = length-take-le n text long in
      bad_line entries (take n text) [] (lines_of (take n text)) (lines_uncut (take n text) (omega (arith, exact)) (take_uncut text n far))
      (long_line entries (take n text) (omega (arith, exact)))

  -- the first line ends within the front
  whole_line : (parts : List ℕ × List ℕ) → cut_at 10 text ≡ Some parts → (found : Option Entry) → next_entry entries parts.0 ≡ found
      → (k : ℕ) → k + suc (length parts.0) ≡ n → ReadsAlike text entries n
  whole_line parts cut None none k sum =
      bad_line entries parts.0 (lines_of (take k parts.1)) (lines_of (take n text)) (lines_cut (take n text) (parts.0, take k parts.1) (take_cut text parts n k cut sum)) none
      ∙ sym (bad_line entries parts.0 (lines_of parts.1) (lines_of text) (lines_cut text parts cut) none)
  whole_line parts cut (Some entry) is k sum =
      let short = next_short entries parts.0 entry is in
      let more = length-append entries (entry ∷ []) in
      let long = cut_length 10 text parts cut in
      good_next entries parts.0 (lines_of (take k parts.1)) (lines_of (take n text)) entry (lines_cut (take n text) (parts.0, take k parts.1) (take_cut text parts n k cut sum)) is
      ∙ rest parts.1 (entries ++ entry ∷ []) k (omega (arith, long)) (omega (arith, short.0, short.1, more, sum))
      ∙ sym (good_next entries parts.0 (lines_of parts.1) (lines_of text) entry (lines_cut text parts cut) is)

  front_step : (found : Option (List ℕ × List ℕ)) → cut_at 10 text ≡ found → ReadsAlike text entries n
  front_step None uncut =
      elim (leb_tells (length text) n) as (λ _. ReadsAlike text entries n) [
        | inl le ↦ ap (λ t. entries_from (lines_of t) entries) (take_all n text le.1)
        | inr lt ↦ one_line (omega (arith, lt.1)) (λ parts is. let none : None ≡ Some parts = sym uncut ∙ is in absurd (cc))
            ∙ sym (bad_line entries text [] (lines_of text) (lines_uncut text some uncut) (long_line entries text (omega (arith, lt.1))))
      ]
  front_step (Some parts) cut =
      let long = cut_length 10 text parts cut in
      elim (leb_tells (suc (length parts.0)) n) as (λ _. ReadsAlike text entries n) [
        | inl le ↦ whole_line parts cut (next_entry entries parts.0) refl (n - suc (length parts.0)) (omega (arith, le.1))
        | inr lt ↦ one_line (omega (arith, lt.1, long)) (λ other is.
            let both : Some parts ≡ Some other = sym cut ∙ is in
            let same : parts ≡ other = cc in
            subst (λ (p : List ℕ × List ℕ). n ≤ length p.0) same (omega (arith, lt.1)))
            ∙ sym (bad_line entries parts.0 (lines_of parts.1) (lines_of text) (lines_cut text parts cut) (long_line entries parts.0 (omega (arith, lt.1))))
      ]

entries_of_front : (fuel : ℕ) (text : List ℕ) (entries : List Entry) (n : ℕ) → length text ≤ fuel → (64 - length entries) * 279 < n
    → ReadsAlike text entries n
entries_of_front fuel [] entries n within room = ap (λ t. entries_from (lines_of t) entries) (take-nil n)
entries_of_front zero (b ∷ rest) entries n within room = absurd (omega arith)
entries_of_front (suc fuel) (b ∷ rest) entries n within room =
    front_step (b ∷ rest) entries n (omega arith) room
    (λ behind more k shorter left. entries_of_front fuel behind more k (omega (arith, shorter, within)) left)
    (cut_at 10 (b ∷ rest)) refl

-- a text that isn't empty has a first line
first_line : (text : List ℕ) → 0 < length text → (line : List ℕ) × (lines : List (List ℕ)) × (lines_of text ≡ line ∷ lines)
first_line text some = go (cut_at 10 text) refl
  where
    go : (found : Option (List ℕ × List ℕ)) → cut_at 10 text ≡ found → (line : List ℕ) × (lines : List (List ℕ)) × (lines_of text ≡ line ∷ lines)
    go None uncut = (text, [], lines_uncut text some uncut)
    go (Some parts) cut = (parts.0, lines_of parts.1, lines_cut text parts cut)

entries_of_some : (text : List ℕ) → 0 < length text → entries_of text ≡ entries_from (lines_of text) []
entries_of_some text some =
    let first = first_line text some in
    ap entries_of_lines first.2 ∙ sym (ap (λ (ls : List (List ℕ)). entries_from ls []) first.2)

-- the entries of a key file, or its first bad line, are those of its first bytes
pub entries_of_take : (text : List ℕ) (n : ℕ) → 64 * 279 < n → entries_of (take n text) ≡ entries_of text
entries_of_take [] n room = ap entries_of (take-nil n)
entries_of_take (b ∷ rest) (suc n) room =
    entries_of_some (b ∷ take n rest) (omega arith)
    ∙ entries_of_front (length (b ∷ rest)) (b ∷ rest) [] (suc n) (omega arith) room
    ∙ sym (entries_of_some (b ∷ rest) (omega arith))
entries_of_take (b ∷ rest) zero room = absurd (omega arith)

-- what stands in a buffer of so many bytes that was filled from the front is that front
front_read : (n count : ℕ) (bytes buffer rest : List ℕ) → length buffer ≡ n → count ≤ length buffer → bytes ≡ take count buffer ++ rest
    → (count < length buffer → rest ≡ []) → take count buffer ≡ take n bytes
front_read n count bytes buffer rest size within taken end =
    let exact : length (take count buffer) ≡ count = length-take-le count buffer within in
    elim (leb_tells (length buffer) count) as (λ _. take count buffer ≡ take n bytes) [
      | inl le ↦ (let full : length (take count buffer) ≡ n = omega (arith, le.1, within, size, exact) in
          sym (ap (take n) taken ∙ take_at (take count buffer) rest n full))
      | inr lt ↦ (let all : bytes ≡ take count buffer = taken ∙ ap (λ (l : List ℕ). take count buffer ++ l) (end lt.1) ∙ append-nil (take count buffer) in
          let short : length bytes ≤ n = omega (arith, ap length all, exact, within, size) in
          sym (take_all n bytes short ∙ all))
    ]

-- a key file of which one byte more was read than a good one may have is read as all of it is
pub filled_spells : (count : ℕ) (bytes buffer rest : List ℕ) → length buffer ≡ 17857 → count ≤ length buffer → bytes ≡ take count buffer ++ rest
    → (count < length buffer → rest ≡ []) → entries_of (take count buffer) ≡ entries_of bytes
filled_spells count bytes buffer rest size within taken end =
    ap entries_of (front_read 17857 count bytes buffer rest size within taken end) ∙ entries_of_take bytes 17857 (omega arith)
