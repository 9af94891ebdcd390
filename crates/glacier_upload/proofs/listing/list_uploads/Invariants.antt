use Rattle.std.proofs.Common.{◌≡◌, ◌++◌, ◌≤◌, length}
use Rattle.std.specs.Prelude.{map as each}
use Rattle.glacier_vault.specs.Lists.{numbers_from}
use Rattle.glacier_upload.proofs.listing.list_uploads.Given as goal

abbrev pub invariant-loop-number : goal.invariant-loop-number
invariant-loop-number l = (l.numbers ++ each (λ e. e.0) l.number-iterator ≡ numbers_from l.fn.from l.vault.uploads) × (length l.numbers ≤ l.limit)
