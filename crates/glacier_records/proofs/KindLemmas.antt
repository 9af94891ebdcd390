-- A kind of record whose fields have a codec.
use Rattle.std.proofs.Common.{◌≡◌, ℕ, ◌==◌, true, List, [], ◌++◌, Some, refl, sym, ap, subst, ◌∙◌}
use Rattle.std.proofs.lemmas.Bool.{eqb-true}
use Rattle.glacier_extents.specs.declared.run.Run.{Run}
use Rattle.glacier_vault.specs.declared.event.Event.{Event}
use Rattle.glacier_records.specs.declared.records.Item.{Item}
use Rattle.glacier_records.specs.declared.records.Item.TheVariants as item
use Rattle.glacier_records.specs.Codec.{Codec, with_fields}
use Rattle.glacier_records.specs.EventFields.{plain}
use Rattle.glacier_records.specs.Spells.{kind_of, fields_of, FieldsFit}
use Rattle.glacier_records.proofs.CodecLemmas.{IsBytes, IsSound}
use Rattle.glacier_records.proofs.OptionLemmas.{bind_some, some_is}

-- an item was taken from the front of bytes
pub record TookItem (kind : ℕ) (bytes : List ℕ) (i : Item) (rest : List ℕ) : Type 0 where
  pub kind_is : kind ≡ kind_of i
  pub fits : FieldsFit i
  pub spelled : bytes ≡ fields_of i ++ rest
  pub left : IsBytes rest

-- what these fields make is an item of this kind
pub record IsKind {F : Type 0} (k : ℕ) (fields : Codec F) (make : F → Item) : Type 0 where
  pub sound : IsSound fields
  pub kind_is : (f : F) → kind_of (make f) ≡ k
  pub fits : (f : F) → fields.Fits f → FieldsFit (make f)
  pub spelled : (f : F) → fields_of (make f) ≡ fields.spell f

module _ (kind : ℕ) (bytes : List ℕ) (i : Item) (rest : List ℕ) (are_bytes : IsBytes bytes) where
  pub fields_found : {F : Type 0} (k : ℕ) (fields : Codec F) (make : F → Item) → IsKind k fields make
      → (kind == k) ≡ true → with_fields make fields bytes ≡ Some (i, rest) → TookItem kind bytes i rest
  fields_found {F} k fields make is here read =
      let a = bind_some (fields.read bytes) (λ f. let value : Item × List ℕ = (make f.0, f.1) in Some value) (i, rest) read in
      let took = is.sound.found bytes a.0.0 a.0.1 are_bytes a.1 in
      let made : Item × List ℕ = (make a.0.0, a.0.1) in
      subst (λ (p : Item × List ℕ). TookItem kind bytes p.0 p.1) (some_is made (i, rest) a.2) (record {
        kind_is = eqb-true _ _ here ∙ sym (is.kind_is a.0.0);
        fits = is.fits a.0.0 took.fits;
        spelled = took.spelled ∙ ap (λ (l : List ℕ). l ++ a.0.1) (sym (is.spelled a.0.0));
        left = took.left;
      })

-- fields that are spelled are read, and make their item
pub fields_again : {F : Type 0} (fields : Codec F) → IsSound fields → (make : F → Item) (f : F) (rest : List ℕ) → fields.Fits f
    → with_fields make fields (fields.spell f ++ rest) ≡ Some (make f, rest)
fields_again fields sound make f rest fits = rw (sound.again f rest fits) refl

-- an event whose list of runs is empty
pub plain_again : (e : Event) (runs : List Run) (rest : List ℕ) → runs ≡ []
    → let one : Item × List ℕ = (plain e, rest) in let other : Item × List ℕ = (item.Event e runs, rest) in Some one ≡ Some other
plain_again e runs rest none = ap (λ (l : List Run). let value : Item × List ℕ = (item.Event e l, rest) in Some value) (sym none)
