-- Which bytes spell which record (docs/rules/records.md).
use Rattle.std.specs.Prelude.{◌≡◌, ℕ, List, ◌∷◌, ◌++◌}
use Rattle.glacier_records.specs.declared.records.Item.{Item}
use Rattle.glacier_records.specs.declared.records.Item.TheVariants as item
use Rattle.glacier_records.specs.declared.records.Record.{Record}
use Rattle.glacier_records.specs.Codec.{Codec, ◌⊗◌}
use Rattle.glacier_records.specs.EventFields.{event_kind, event_fields, EventFits}
use Rattle.glacier_records.specs.Fields.{account_field, moment_field}
use Rattle.glacier_records.specs.KeptFields.{kept_kind, kept_fields, KeptFits}

-- the first byte of a record
abbrev pub kind_of : Item → ℕ
kind_of (item.Event event runs) = event_kind event
kind_of (item.Kept kept) = kept_kind kept

-- the bytes of its fields
abbrev pub fields_of : Item → List ℕ
fields_of (item.Event event runs) = event_fields event runs
fields_of (item.Kept kept) = kept_fields kept

-- its fields have a spelling
abbrev pub FieldsFit : Item → Type 0
FieldsFit (item.Event event runs) = EventFits event runs
FieldsFit (item.Kept kept) = KeptFits kept

-- whose record it is, and when: what stands behind the kind in each record
abbrev pub head : Codec (List ℕ × ℕ)
head = account_field ⊗ moment_field

-- the bytes of a record
abbrev pub spelling : Record → List ℕ
spelling r = kind_of r.item ∷ head.spell (r.account, r.moment) ++ fields_of r.item

-- the bytes spell the record
pub record Spells (bytes : List ℕ) (r : Record) : Type 0 where
  pub head_fits : head.Fits (r.account, r.moment)
  pub fields_fit : FieldsFit r.item
  pub spelled : bytes ≡ spelling r
