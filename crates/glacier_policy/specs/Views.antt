-- JSON values as contracts see them.
use Rattle.std.specs.Prelude.{Option, option_map}
use Rattle.std.specs.Borrow.{Bor}
use Rattle.serde_json.specs.Data.{Data}
use Rattle.serde_json.specs.View.{view}
use Rattle.serde_json.specs.declared.value.Value.{Value}

-- the value of a member that may be there
abbrev pub member_view : Option (Bor Value) → Option Data
member_view member = option_map (λ value. view value.now) member
