-- What is left of bytes that are read from the front.
use Rattle.std.specs.Prelude.{ℕ, List, drop}
use Rattle.glacier_base.specs.declared.cursor.Cursor.{Cursor}

-- the bytes that aren't taken yet
abbrev pub left_of : Cursor → List ℕ
left_of cursor = drop cursor.place cursor.bytes
