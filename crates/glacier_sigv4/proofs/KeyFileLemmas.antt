-- Lines of the key file, and the entries that they make.
use Rattle.std.proofs.Common.{◌≡◌, ℕ, ◌<◌, List, [], ◌∷◌, length, Some, None, refl, ap, ◌∙◌, arith}
use Rattle.std.specs.List.{slice_split}
use Rattle.std.proofs.lemmas.List.Splits.{length-slice_split}
use Rattle.glacier_base.specs.Cuts.{cut_at, is_byte}
use Rattle.glacier_base.proofs.CutLemmas.{split_cut, split_uncut}
use Rattle.glacier_sigv4.specs.KeyFile.{lines_of, without_last_empty}

more_lines : (line : List ℕ) (pieces : List (List ℕ)) → 0 < length pieces → without_last_empty (line ∷ pieces) ≡ line ∷ without_last_empty pieces
more_lines line [] some = absurd (omega arith)
more_lines line (piece ∷ pieces) some = refl

-- a line that LF ends, and those behind it
pub lines_cut : (text : List ℕ) (parts : List ℕ × List ℕ) → cut_at 10 text ≡ Some parts → lines_of text ≡ parts.0 ∷ lines_of parts.1
lines_cut text parts is =
    ap without_last_empty (split_cut 10 text parts is)
    ∙ more_lines parts.0 (slice_split (is_byte 10) parts.1) (omega (arith, length-slice_split (is_byte 10) parts.1))

-- the last line
pub lines_uncut : (text : List ℕ) → 0 < length text → cut_at 10 text ≡ None → lines_of text ≡ text ∷ []
lines_uncut [] some is = absurd (omega arith)
lines_uncut (b ∷ text) some is = ap without_last_empty (split_uncut 10 (b ∷ text) is)
