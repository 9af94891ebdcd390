-- How long the log is after a call more, or after one that failed.
use Rattle.std.proofs.Common.{◌≡◌, ◌+◌, List, [], ◌∷◌, ◌++◌, length, length-append}
use Rattle.glacier_disk.specs.declared.call.Call.{Call}

pub pushed_length : (old : List Call) (call : Call) → length (old ++ call ∷ []) ≡ length old + 1
pushed_length old call = length-append old (call ∷ [])

pub ruleset noting = (pushed_length)
