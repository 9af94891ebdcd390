-- What is read of a record is spelled so, and what is spelled so is read.
use Rattle.std.proofs.Common.{◌≡◌, ℕ, ◌==◌, ◌<◌, ◌^◌, ◌%◌, nat_lt, List, [], ◌∷◌, ◌++◌, length, Some, None, refl, sym, ap, subst, ◌∙◌, arith}
use Rattle.std.proofs.lemmas.Bool.{eqb-true, ltb-true}
use Rattle.std.proofs.lemmas.List.{append-nil, nil_from_length}
use Rattle.std.specs.Int.{w8}
use Rattle.glacier_records.specs.declared.records.Item.{Item}
use Rattle.glacier_records.specs.declared.records.Item.TheVariants as item
use Rattle.glacier_records.specs.declared.records.Record.{Record}
use Rattle.glacier_records.specs.Codec.{number}
use Rattle.glacier_records.specs.Reading.{item_at, record_in}
use Rattle.glacier_records.specs.Spells.{kind_of, fields_of, FieldsFit, head, Spells}
use Rattle.glacier_records.proofs.CodecLemmas.{IsBytes, IsSound, number_sound, wide8, pair_sound}
use Rattle.glacier_records.proofs.EventLaws.{event_found, event_again, event_small}
use Rattle.glacier_records.proofs.FieldLemmas.{account_sound, moment_sound}
use Rattle.glacier_records.proofs.KeptLaws.{kept_found, kept_again, kept_large, kept_fits_byte}
use Rattle.glacier_records.proofs.KindLemmas.{TookItem}
use Rattle.glacier_records.proofs.OptionLemmas.{bind_some, passed, either_way}

head_sound : IsSound head
head_sound = pair_sound _ _ account_sound moment_sound

item_found : (kind : ℕ) (bytes : List ℕ) (i : Item) (rest : List ℕ) → IsBytes bytes → item_at kind bytes ≡ Some (i, rest)
    → TookItem kind bytes i rest
item_found kind bytes i rest are =
    either_way (nat_lt kind 32) _ _ (i, rest) (λ small. event_found kind bytes i rest are) (kept_found kind bytes i rest are)

item_again : (i : Item) (rest : List ℕ) → FieldsFit i → item_at (kind_of i) (fields_of i ++ rest) ≡ Some (i, rest)
item_again (item.Event e runs) rest fits = rw (event_small e) (event_again e runs rest fits)
item_again (item.Kept k) rest fits = rw (kept_large k) (kept_again k rest fits)

kind_fits : (i : Item) → kind_of i < 2 ^ 8
kind_fits (item.Event e runs) = omega (arith, ltb-true _ _ (event_small e))
kind_fits (item.Kept k) = kept_fits_byte k

pub record_found : (bytes : List ℕ) (r : Record) → IsBytes bytes → record_in bytes ≡ Some r → Spells bytes r
unfolding record_in
record_found bytes r fits read =
    let a = bind_some ((number w8).read bytes) _ r read in
    let b = bind_some (head.read a.0.1) _ r a.2 in
    let c = bind_some (item_at a.0.0 b.0.1) _ r b.2 in
    let made : Record = record { account = b.0.0.0; moment = b.0.0.1; item = c.0.0 } in
    let g = passed (length c.0.1 == 0) made r c.2 in
    let k = (number_sound w8 wide8).found bytes a.0.0 a.0.1 fits a.1 in
    let h = head_sound.found a.0.1 b.0.0 b.0.1 k.left b.1 in
    let e = item_found a.0.0 b.0.1 c.0.0 c.0.1 h.left c.1 in
    let nothing : c.0.1 ≡ [] = nil_from_length c.0.1 (eqb-true _ _ g.0) in
    let kind : bytes ≡ a.0.0 ∷ a.0.1 = k.spelled ∙ ap (λ (n : ℕ). n ∷ a.0.1) (omega (arith, k.fits)) in
    subst (λ (s : Record). Spells bytes s) g.1 (record {
      head_fits = h.fits;
      fields_fit = e.fits;
      spelled =
          kind ∙ ap (λ (n : ℕ). n ∷ a.0.1) e.kind_is
          ∙ ap (λ (l : List ℕ). kind_of c.0.0 ∷ l) (h.spelled ∙ ap (λ (l : List ℕ). head.spell b.0.0 ++ l) (e.spelled ∙ ap (λ (l : List ℕ). fields_of c.0.0 ++ l) nothing ∙ append-nil (fields_of c.0.0)));
    })

pub record_again : (bytes : List ℕ) (r : Record) → Spells bytes r → record_in bytes ≡ Some r
unfolding record_in
record_again bytes r spells =
    let h : List ℕ × ℕ = (r.account, r.moment) in
    let kind : kind_of r.item % 256 ≡ kind_of r.item = omega (arith, kind_fits r.item) in
    let spelled : bytes ≡ (number w8).spell (kind_of r.item) ++ (head.spell h ++ fields_of r.item) =
    spells.spelled ∙ ap (λ (n : ℕ). n ∷ head.spell h ++ fields_of r.item) (sym kind) in
    let item_read : item_at (kind_of r.item) (fields_of r.item) ≡ Some (r.item, []) = ap (item_at (kind_of r.item)) (sym (append-nil (fields_of r.item))) ∙ item_again r.item [] spells.fields_fit in
    ap record_in spelled
    ∙ rw ((number_sound w8 wide8).again (kind_of r.item) (head.spell h ++ fields_of r.item) (kind_fits r.item), head_sound.again h (fields_of r.item) spells.head_fits, item_read) refl

-- where nothing is read, nothing is spelled
pub unread_is_unspelled : (bytes : List ℕ) → record_in bytes ≡ None → (r : Record) → Spells bytes r → ⊥
unread_is_unspelled bytes none r spells = let some = record_again bytes r spells in cc (none, some)
