-- The records at the front of a list are its own.
use Rattle.std.proofs.Common.{◌≡◌, ◌≢◌, inr, ℕ, ◌+◌, ◌≤◌, ◌<◌, List, [], ◌∷◌, ◌++◌, length, drop, get_or, map, refl, sym, ◌∙◌, ap, subst, arith, length-append, length-drop, append_assoc, take-append-drop}
use Rattle.std.proofs.lemmas.List.{append-nil, take_at, drop_at, drop-drop, map-append}
use Rattle.std.specs.Int.{w32, to_be_bytes}
use Rattle.glacier_disk.specs.declared.area.Area.{Area}
use Rattle.glacier_disk.specs.Image.{padded, window}
use Rattle.glacier_journal.specs.declared.fault.JournalFault.TheVariants.{NotAJournal}
use Rattle.glacier_journal.specs.declared.payload.Payload.{Payload}
use Rattle.glacier_journal.specs.Breaks.{IsBroken, BreaksAt, BreaksBehind}
use Rattle.glacier_journal.specs.Listed.{header, most, sized, records, AreOpen, Lists, bytes_of, placed, behind}
use Rattle.glacier_journal.specs.Steps.{IsClosed, BeginsWith}
use Rattle.glacier_journal.proofs.HeadLemmas.{told_length, padded_record, spelled_length, full}
use Rattle.glacier_journal.proofs.ListLemmas.{length-sized, records-push, are_open-push, payloads-push}

-- two spellings begin with records of one length, and go on the same
pub first_records : (r q : ℕ × List ℕ) (rs qs : List (ℕ × List ℕ)) (tail rest : List ℕ) → length r.1 ≤ most → length q.1 ≤ most
    → records (r ∷ rs) ++ tail ≡ records (q ∷ qs) ++ rest
    → (r.0 ≡ q.0) × (length r.1 ≡ length q.1) × (records rs ++ tail ≡ records qs ++ rest)
first_records r q rs qs tail rest short shorter same =
    let whole : r.0 ∷ sized r.1 ++ (records rs ++ tail) ≡ q.0 ∷ sized q.1 ++ (records qs ++ rest) =
    sym (ap (λ (l : List ℕ). r.0 ∷ l) (append_assoc (sized r.1) (records rs) tail)) ∙ same ∙ ap (λ (l : List ℕ). q.0 ∷ l) (append_assoc (sized q.1) (records qs) rest) in
    let heads : r.0 ∷ to_be_bytes w32 (length r.1) ≡ q.0 ∷ to_be_bytes w32 (length q.1) =
    sym (padded_record r.0 r.1 (records rs ++ tail)) ∙ ap (padded 5) whole ∙ padded_record q.0 q.1 (records qs ++ rest) in
    let size : length r.1 ≡ length q.1 =
    sym (spelled_length r.0 r.1 [] (omega (arith, short))) ∙ ap told_length heads ∙ spelled_length q.0 q.1 [] (omega (arith, shorter)) in
    let n = length r.1 + 5 in
    let rests : records rs ++ tail ≡ records qs ++ rest =
    sym (drop_at (r.0 ∷ sized r.1) (records rs ++ tail) n (omega (arith, length-sized r.1)))
    ∙ ap (drop n) whole
    ∙ drop_at (q.0 ∷ sized q.1) (records qs ++ rest) n (omega (arith, length-sized q.1, size)) in
    (ap (λ (l : List ℕ). get_or l 0 0) heads, size, rests)

-- two spellings that begin with the same records
pub prefix : (all other : List (ℕ × List ℕ)) (tail rest : List ℕ) → AreOpen all → AreOpen other → records all ++ tail ≡ records other ++ 0 ∷ rest → (more : List (ℕ × List ℕ)) × AreOpen more × (tail ≡ records more ++ 0 ∷ rest)
prefix [] other tail rest ok okk same = (other, okk, same)
prefix (r ∷ rs) [] tail rest ok okk same = absurd (ok.0 (ap (λ (l : List ℕ). get_or l 0 0) same))
prefix (r ∷ rs) (q ∷ qs) tail rest ok okk same =
    let first = first_records r q rs qs tail (0 ∷ rest) ok.1 okk.1 same in
    prefix rs qs tail rest ok.2 okk.2 first.2

-- what is broken spells no records with a closed gate behind them
pub spells_none : (tail : List ℕ) → IsBroken tail → (all : List (ℕ × List ℕ)) (rest : List ℕ) → AreOpen all → tail ≡ records all ++ 0 ∷ rest → ⊥
spells_none tail broken [] rest ok is = broken.no_end rest is
spells_none tail broken (r ∷ []) rest ok is = broken.no_record r.0 0 r.1 rest ok.0 ok.1 (is ∙ ap (λ (l : List ℕ). r.0 ∷ l ++ 0 ∷ rest) (append-nil (sized r.1)))
spells_none tail broken (r ∷ q ∷ qs) rest ok is =
    broken.no_record r.0 q.0 r.1 (sized q.1 ++ records qs ++ 0 ∷ rest) ok.0 ok.1 (
    is ∙ ap (λ (l : List ℕ). r.0 ∷ l) (append_assoc (sized r.1) (records (q ∷ qs)) (0 ∷ rest))
    )

pub no_list : (bytes : List ℕ) (at : ℕ) → BreaksBehind bytes at → (payloads : List (List ℕ)) (n : ℕ) → Lists bytes payloads n → ⊥
no_list bytes at breaks payloads n lists =
    let behind : records breaks.all ++ breaks.tail ≡ records lists.all ++ 0 ∷ lists.rest =
    ap (drop 16) (sym (breaks.spelled ∙ append_assoc header (records breaks.all) breaks.tail) ∙ lists.spelled ∙ append_assoc header (records lists.all) (0 ∷ lists.rest)) in
    let more = prefix breaks.all lists.all breaks.tail lists.rest breaks.are_open lists.are_open behind in
    spells_none breaks.tail breaks.broken more.0 lists.rest more.1 more.2

pub empty_broken : (tail : List ℕ) → length tail ≡ 0 → IsBroken tail
empty_broken tail none = record {
  no_end = λ rest is. omega (arith, none, ap (λ (l : List ℕ). length l) is);
  no_record = λ gate next payload rest is_open short is. omega (arith, none, ap (λ (l : List ℕ). length l) is);
}

-- one record more
pub record Further (bytes : List ℕ) (at : ℕ) (payloads : List (List ℕ)) : Type 0 where
  pub all : List (ℕ × List ℕ)
  pub spelled : bytes ≡ header ++ records all ++ drop at bytes
  pub are_open : AreOpen all
  pub payloads_are : payloads ≡ map (λ (r : ℕ × List ℕ). r.1) all
  pub at_is : at ≡ 16 + length (records all)

pub further : (bytes payload : List ℕ) (at : ℕ) (payloads : List (List ℕ)) → Further bytes at payloads → BeginsWith (drop at bytes) payload → Further bytes (at + 5 + length payload) (payloads ++ payload ∷ [])
further bytes payload at payloads so_far (gate, rest, is_open, short, is) =
    let r : ℕ × List ℕ = (gate, payload) in
    let n = length payload + 5 in
    let behind : drop (at + 5 + length payload) bytes ≡ rest =
    let sum : at + 5 + length payload ≡ at + n = omega arith in
    ap (λ (k : ℕ). drop k bytes) sum ∙ sym (drop-drop n at bytes) ∙ ap (drop n) is ∙ drop_at (gate ∷ sized payload) rest n (omega (arith, length-sized payload)) in
    record {
      all = so_far.all ++ r ∷ [];
      spelled =
          so_far.spelled
          ∙ ap (λ (l : List ℕ). header ++ records so_far.all ++ l) is
          ∙ sym (append_assoc (header ++ records so_far.all) (gate ∷ sized payload) rest)
          ∙ ap (λ (l : List ℕ). l ++ rest) (append_assoc header (records so_far.all) (gate ∷ sized payload) ∙ ap (λ (l : List ℕ). header ++ l) (sym (records-push so_far.all r)))
          ∙ ap (λ (l : List ℕ). header ++ records (so_far.all ++ r ∷ []) ++ l) (sym behind);
      are_open = are_open-push so_far.all r so_far.are_open is_open short;
      payloads_are = ap (λ (l : List (List ℕ)). l ++ payload ∷ []) so_far.payloads_are ∙ payloads-push so_far.all r;
      at_is = omega (arith, so_far.at_is, ap (λ (l : List ℕ). length l) (records-push so_far.all r), length-append (records so_far.all) (gate ∷ sized payload), length-sized payload);
    }

pub none_yet : (bytes head : List ℕ) → head ≡ window bytes 0 16 → head ≡ header → 16 ≤ length bytes → Further bytes 16 []
none_yet bytes head read is long = record {
  all = [];
  spelled = sym (take-append-drop 16 bytes) ∙ ap (λ (l : List ℕ). l ++ drop 16 bytes) (sym (full 16 bytes long) ∙ sym read ∙ is);
  are_open = tt;
  payloads_are = refl;
  at_is = refl;
}

pub closed : (bytes : List ℕ) (at : ℕ) (payloads : List (List ℕ)) → Further bytes at payloads → IsClosed (drop at bytes) → Lists bytes payloads (at + 1)
closed bytes at payloads so_far (rest, is) = record {
  all = so_far.all;
  rest = rest;
  spelled = so_far.spelled ∙ ap (λ (l : List ℕ). header ++ records so_far.all ++ l) is;
  are_open = so_far.are_open;
  payloads_are = so_far.payloads_are;
  end_is = omega (arith, so_far.at_is);
}

none_of : (all : List (ℕ × List ℕ)) → map (λ (r : ℕ × List ℕ). r.1) all ≡ [] → all ≡ []
none_of [] is = refl
none_of (r ∷ rs) is = absurd (omega (arith, ap (λ (l : List (List ℕ)). length l) is))

-- the first place that breaks it: behind each record before it there is a gate
breaks : {bytes : List ℕ} {at size : ℕ} {payloads : List (List ℕ)} → Further bytes at payloads → size ≡ length bytes → at ≤ size
    → (at ≡ size → payloads ≡ []) → IsBroken (drop at bytes) → BreaksAt bytes at
breaks {bytes = bytes} {at = at} {size = size} so_far size_is within gated broken = inr (record {
  all = so_far.all;
  tail = drop at bytes;
  spelled = so_far.spelled;
  are_open = so_far.are_open;
  at_is = so_far.at_is;
  gated = λ none.
      let end : at ≡ size = omega (arith, size_is, within, ap (λ (l : List ℕ). length l) none, length-drop at bytes) in
      none_of so_far.all (sym so_far.payloads_are ∙ gated end);
  broken = broken;
})

-- the fault names it
pub breaks_there : {bytes : List ℕ} {place size : ℕ} {payloads : List (List ℕ)} → Further bytes place payloads → size ≡ length bytes
    → place ≤ size → (place ≡ size → payloads ≡ []) → IsBroken (drop place bytes) → (area other : Area) (at : ℕ)
    → NotAJournal area place ≡ NotAJournal other at → (other ≡ area) × BreaksAt bytes at
breaks_there {bytes = bytes} {place = place} so_far size_is within gated broken area other at same =
    let there : place ≡ at = cc same in
    (cc same, subst (λ (n : ℕ). BreaksAt bytes n) there (breaks so_far size_is within gated broken))

bytes_of-push : (payloads : List Payload) (p : Payload) → bytes_of (payloads ++ p ∷ []) ≡ bytes_of payloads ++ p.bytes ∷ []
bytes_of-push payloads p = map-append (λ (q : Payload). q.bytes) payloads (p ∷ [])

placed-push : (at : ℕ) (payloads : List (List ℕ)) (payload : List ℕ) → placed at (payloads ++ payload ∷ []) ≡ placed at payloads ++ record { at = behind at payloads; bytes = payload } ∷ []
placed-push at [] payload = refl
placed-push at (p ∷ ps) payload = ap (λ (l : List Payload). record { at = at; bytes = p } ∷ l) (placed-push (at + 5 + length p) ps payload)

behind-push : (at : ℕ) (payloads : List (List ℕ)) (payload : List ℕ) → behind at (payloads ++ payload ∷ []) ≡ behind at payloads + 5 + length payload
behind-push at [] payload = refl
behind-push at (p ∷ ps) payload = behind-push (at + 5 + length p) ps payload

-- a payload more
pub pushed : (was now : List Payload) (at : ℕ) (payload : List ℕ) → now ≡ was ++ record { at = at; bytes = payload } ∷ []
    → was ≡ placed 16 (bytes_of was) → at ≡ behind 16 (bytes_of was)
    → (bytes_of now ≡ bytes_of was ++ payload ∷ []) × (now ≡ placed 16 (bytes_of now)) × (at + 5 + length payload ≡ behind 16 (bytes_of now))
pushed was now at payload is places here =
    let list : bytes_of now ≡ bytes_of was ++ payload ∷ [] = ap bytes_of is ∙ bytes_of-push was _ in (
      list,
      is
          ∙ ap (λ (l : List Payload). l ++ record { at = at; bytes = payload } ∷ []) places
          ∙ ap (λ (n : ℕ). placed 16 (bytes_of was) ++ record { at = n; bytes = payload } ∷ []) here
          ∙ sym (placed-push 16 (bytes_of was) payload)
          ∙ sym (ap (placed 16) list),
      ap (λ (n : ℕ). n + 5 + length payload) here ∙ sym (ap (behind 16) list ∙ behind-push 16 (bytes_of was) payload),
    )

pub opens_not : (bytes head : List ℕ) → head ≡ window bytes 0 16 → head ≢ header → (rest : List ℕ) → bytes ≡ header ++ rest → ⊥
opens_not bytes head read differs rest is = differs (read ∙ ap (λ (l : List ℕ). window l 0 16) is ∙ full 16 (header ++ rest) (omega (arith, length-append header rest)) ∙ take_at header rest 16 refl)

pub short_opens_not : (bytes : List ℕ) → length bytes < 16 → (rest : List ℕ) → bytes ≡ header ++ rest → ⊥
short_opens_not bytes short rest is = omega (arith, short, ap (λ (l : List ℕ). length l) is, length-append header rest)
