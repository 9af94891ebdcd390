-- Ids of one kind.
use Rattle.std.specs.Prelude.{ℕ, Bool, List, Option, Some, None, option_and_then, ◌==◌, if◌then◌else◌}
use Rattle.glacier_base.specs.Ids.{id_of, letter_of}
use Rattle.glacier_base.specs.declared.id.Id.{Id}
use Rattle.glacier_base.specs.declared.id.IdKind.{IdKind}

abbrev pub is_of_kind : IdKind → Id → Bool
is_of_kind kind id = letter_of id.kind == letter_of kind

-- the number of the id of this kind that a text is, if it is one
abbrev pub id_number : IdKind → List ℕ → Option ℕ
id_number kind text = option_and_then (λ id. if is_of_kind kind id then Some id.number else None) (id_of text)
