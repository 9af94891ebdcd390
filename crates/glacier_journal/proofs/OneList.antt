-- An image lists one list, and none where it breaks.
use Rattle.std.proofs.Common.{◌≡◌, inl, inr, ⊎_elim, ℕ, ◌+◌, List, [], ◌∷◌, ◌++◌, length, take, drop, get_or, map, refl, sym, ◌∙◌, ap, subst, arith, length-append, append_assoc}
use Rattle.std.proofs.lemmas.List.{append-nil, take_at, drop_at}
use Rattle.std.specs.Int.{w32, to_be_bytes}
use Rattle.glacier_disk.specs.declared.area.Area.{Area}
use Rattle.glacier_disk.specs.declared.area.Area.TheVariants.{Lead}
use Rattle.glacier_disk.specs.Image.{Image}
use Rattle.glacier_journal.specs.Breaks.{Breaks, BreaksAt, IsBroken, NoHeader}
use Rattle.glacier_journal.specs.Listed.{header, sized, records, AreOpen, Picks, Lists, Listed, Payloads}
use Rattle.glacier_journal.proofs.PickLemmas.{picks_one}
use Rattle.glacier_journal.proofs.ListLemmas.{length-sized}
use Rattle.glacier_journal.proofs.ReadLemmas.{first_records, no_list}

payload_of : (gate : ℕ) (payload tail : List ℕ) → take (length payload) (drop 5 (gate ∷ sized payload ++ tail)) ≡ payload
payload_of gate payload tail =
    ap (λ (l : List ℕ). take (length payload) l) (
    ap (drop 5) (ap (λ (l : List ℕ). gate ∷ l) (append_assoc (to_be_bytes w32 (length payload)) payload tail))
    ∙ drop_at (gate ∷ to_be_bytes w32 (length payload)) (payload ++ tail) 5 refl
    )
    ∙ take_at payload tail (length payload) refl

-- two spellings of records are one
pub same_records : (all other : List (ℕ × List ℕ)) (tail rest : List ℕ) → AreOpen all → AreOpen other → records all ++ 0 ∷ tail ≡ records other ++ 0 ∷ rest → all ≡ other
same_records [] [] tail rest ok okk same = refl
same_records [] (q ∷ qs) tail rest ok okk same = absurd (okk.0 (sym (ap (λ (l : List ℕ). get_or l 0 0) same)))
same_records (r ∷ rs) [] tail rest ok okk same = absurd (ok.0 (ap (λ (l : List ℕ). get_or l 0 0) same))
same_records (r ∷ rs) (q ∷ qs) tail rest ok okk same =
    let first = first_records r q rs qs (0 ∷ tail) (0 ∷ rest) ok.1 okk.1 same in
    let size = first.1 in
    let payloads : r.1 ≡ q.1 =
    sym (payload_of r.0 r.1 (records rs ++ 0 ∷ tail))
    ∙ ap (λ (l : List ℕ). take (length r.1) (drop 5 l)) (sym (ap (λ (l : List ℕ). r.0 ∷ l) (append_assoc (sized r.1) (records rs) (0 ∷ tail))) ∙ same ∙ ap (λ (l : List ℕ). q.0 ∷ l) (append_assoc (sized q.1) (records qs) (0 ∷ rest)))
    ∙ ap (λ (n : ℕ). take n (drop 5 (q.0 ∷ sized q.1 ++ (records qs ++ 0 ∷ rest)))) size
    ∙ payload_of q.0 q.1 (records qs ++ 0 ∷ rest) in
    let more = same_records rs qs tail rest ok.2 okk.2 first.2 in
    ap (λ (g : ℕ). (g, r.1) ∷ rs) first.0 ∙ ap (λ (p : List ℕ). (q.0, p) ∷ rs) payloads ∙ ap (λ (l : List (ℕ × List ℕ)). (q.0, q.1) ∷ l) more

one_spelling : (bytes : List ℕ) (payloads others : Payloads) (end far : ℕ) → Lists bytes payloads end → Lists bytes others far → (payloads ≡ others) × (end ≡ far)
one_spelling bytes payloads others end far first second =
    let behind : records first.all ++ 0 ∷ first.rest ≡ records second.all ++ 0 ∷ second.rest =
    ap (drop 16) (sym (first.spelled ∙ append_assoc header (records first.all) (0 ∷ first.rest)) ∙ second.spelled ∙ append_assoc header (records second.all) (0 ∷ second.rest)) in
    let same = same_records first.all second.all first.rest second.rest first.are_open second.are_open behind in (
      first.payloads_are ∙ ap (λ (l : List (ℕ × List ℕ)). map (λ (r : ℕ × List ℕ). r.1) l) same ∙ sym second.payloads_are,
      first.end_is ∙ ap (λ (l : List (ℕ × List ℕ)). 17 + length (records l)) same ∙ sym second.end_is,
    )

pub one_list : (image : Image) (area other : Area) (payloads others : Payloads) (end far : ℕ) → Listed image area payloads end → Listed image other others far → (area ≡ other) × (payloads ≡ others) × (end ≡ far)
one_list image area other payloads others end far first second =
    let same = picks_one (image Lead) other area second.picks first.picks in
    let lists = subst (λ (a : Area). Lists (image a) payloads end) same first.lists in
    let both = one_spelling (image other) payloads others end far lists second.lists in (
      same,
      both.0,
      both.1,
    )

breaks_here : (bytes : List ℕ) (at : ℕ) → BreaksAt bytes at → (payloads : Payloads) (end : ℕ) → Lists bytes payloads end → ⊥
breaks_here bytes at broken payloads end lists =
    ⊎_elim
    (λ (none : NoHeader bytes × (at ≡ 0)). none.0 (records lists.all ++ 0 ∷ lists.rest) (lists.spelled ∙ append_assoc header (records lists.all) (0 ∷ lists.rest)))
    (λ behind. no_list bytes at behind payloads end lists)
    broken

pub breaks_none : (image : Image) (area other : Area) (at end : ℕ) (payloads : Payloads) → Breaks image area at → Listed image other payloads end → ⊥
breaks_none image area other at end payloads broken listed =
    ⊎_elim
    (λ (no_lead : (image Lead ≡ []) × (area ≡ Lead) × (at ≡ 0)). let none : Picks [] other = subst (λ (l : List ℕ). Picks l other) no_lead.0 listed.picks in none)
    (λ (here : Picks (image Lead) area × BreaksAt (image area) at).
    let same = picks_one (image Lead) area other here.0 listed.picks in
    breaks_here (image area) at here.1 payloads end (subst (λ (a : Area). Lists (image a) payloads end) same listed.lists))
    broken

-- broken bytes don't begin with a record that has a gate behind it
begins_none : (q : ℕ × List ℕ) (qs : List (ℕ × List ℕ)) (tail rest : List ℕ) → AreOpen (q ∷ qs) → IsBroken tail
    → (rest ≡ [] → q ∷ qs ≡ []) → tail ≡ records (q ∷ qs) ++ rest → ⊥
begins_none q [] tail [] ok broken gated is = cc (gated refl)
begins_none q [] tail (x ∷ rest) ok broken gated is =
    broken.no_record q.0 x q.1 rest ok.0 ok.1 (is ∙ ap (λ (l : List ℕ). q.0 ∷ l ++ x ∷ rest) (append-nil (sized q.1)))
begins_none q (p ∷ ps) tail rest ok broken gated is =
    broken.no_record q.0 p.0 q.1 (sized p.1 ++ records ps ++ rest) ok.0 ok.1 (
    is ∙ ap (λ (l : List ℕ). q.0 ∷ l) (append_assoc (sized q.1) (records (p ∷ ps)) rest)
    )

-- two spellings up to what is broken are equally long
equally_long : (all other : List (ℕ × List ℕ)) (tail rest : List ℕ) → AreOpen all → AreOpen other → IsBroken tail → IsBroken rest
    → (tail ≡ [] → all ≡ []) → (rest ≡ [] → other ≡ []) → records all ++ tail ≡ records other ++ rest → length (records all) ≡ length (records other)
equally_long [] [] tail rest ok okk broken breaks gated gate same = refl
equally_long [] (q ∷ qs) tail rest ok okk broken breaks gated gate same = absurd (begins_none q qs tail rest okk broken gate same)
equally_long (r ∷ rs) [] tail rest ok okk broken breaks gated gate same = absurd (begins_none r rs rest tail ok breaks gated (sym same))
equally_long (r ∷ rs) (q ∷ qs) tail rest ok okk broken breaks gated gate same =
    let first = first_records r q rs qs tail rest ok.1 okk.1 same in
    let more = equally_long rs qs tail rest ok.2 okk.2 broken breaks (λ none. cc (gated none)) (λ none. cc (gate none)) first.2 in
    omega (arith, more, first.1, length-append (sized r.1) (records rs), length-append (sized q.1) (records qs), length-sized r.1, length-sized q.1)

one_place : (bytes : List ℕ) (at place : ℕ) → BreaksAt bytes at → BreaksAt bytes place → at ≡ place
one_place bytes at place (inl first) (inl second) = first.1 ∙ sym second.1
one_place bytes at place (inl first) (inr second) = absurd (first.0 (records second.all ++ second.tail) second.spelled)
one_place bytes at place (inr first) (inl second) = absurd (second.0 (records first.all ++ first.tail) first.spelled)
one_place bytes at place (inr first) (inr second) =
    let same : records first.all ++ first.tail ≡ records second.all ++ second.tail = ap (drop 16) (sym first.spelled ∙ second.spelled) in
    omega (arith, first.at_is, second.at_is, equally_long first.all second.all first.tail second.tail first.are_open second.are_open first.broken second.broken first.gated second.gated same)

pub one_break : (image : Image) (area other : Area) (at place : ℕ) → Breaks image area at → Breaks image other place → (area ≡ other) × (at ≡ place)
one_break image area other at place (inl first) (inl second) = (first.1 ∙ sym second.1, first.2 ∙ sym second.2)
one_break image area other at place (inl first) (inr second) = absurd (subst (λ (l : List ℕ). Picks l other) first.0 second.0)
one_break image area other at place (inr first) (inl second) = absurd (subst (λ (l : List ℕ). Picks l area) second.0 first.0)
one_break image area other at place (inr first) (inr second) =
    let same = picks_one (image Lead) other area second.0 first.0 in
    (same, one_place (image other) at place (subst (λ (a : Area). BreaksAt (image a) at) same first.1) second.1)
