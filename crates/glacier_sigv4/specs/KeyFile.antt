-- The key file: a line for each account.
use Rattle.std.specs.Prelude.{ℕ, ◌+◌, Bool, ◌&&◌, not, ◌≡◌, List, [], ◌∷◌, ◌++◌, length, Option, Some, None, Result, Ok, Err, if◌then◌else◌, nat_le, nat_lt, option_and_then, option_map, ⊤}
use Rattle.std.specs.Borrow.{Bor}
use Rattle.std.specs.List.{list_any, slice_split}
use Rattle.glacier_base.specs.Names.{is_account}
use Rattle.glacier_base.specs.Cuts.{cut_at, is_byte}
use Rattle.glacier_http.specs.Fields.{number_of}
use Rattle.glacier_http.specs.Judged.{is_empty}
use Rattle.glacier_sigv4.specs.declared.ring.Entry.{Entry}
use Rattle.glacier_sigv4.specs.declared.ring.TheConstants.{MOST_BLOCKS, MOST_ACCOUNTS}
use Rattle.glacier_sigv4.specs.declared.key_fault.KeyFault.{KeyFault}
use Rattle.glacier_sigv4.specs.declared.key_fault.KeyFault.TheVariants.{BadLine, Memory}
use Rattle.glacier_sigv4.specs.Rings.{is_access, is_secret, total_of, clashes}

-- the number, where it is from 1 to the greatest quota
abbrev pub where_quota : ℕ → Option ℕ
where_quota n = if nat_le 1 n && nat_le n MOST_BLOCKS then Some n else None

-- 1 to 7 digits of such a number
abbrev pub quota_in : List ℕ → Option ℕ
quota_in text = option_and_then where_quota (number_of 7 text)

-- the entry of four parts, where each keeps its rule
abbrev pub entry_from : List ℕ → List ℕ → List ℕ → ℕ → Option Entry
entry_from account access secret quota =
    if is_account account && (is_access access && is_secret secret)
    then Some (record { keys = record { account = account; access = access; secret = secret }; quota = quota }) else None

-- the parts of a line, with a space between each two: account, access key, secret and quota
abbrev pub parts_of : List ℕ → Option (List ℕ × List ℕ × List ℕ × ℕ)
parts_of line =
    option_and_then (λ account. option_and_then (λ access. option_and_then (λ secret.
    option_map (λ quota. (account.0, access.0, secret.0, quota)) (quota_in secret.1))
    (cut_at 32 access.1)) (cut_at 32 account.1)) (cut_at 32 line)

-- the parts without where they lie in memory
abbrev pub parts_shown : Bor (List ℕ) × Bor (List ℕ) × Bor (List ℕ) × ℕ → List ℕ × List ℕ × List ℕ × ℕ
parts_shown parts = (parts.0.now, parts.1.now, parts.2.now, parts.3)

-- the entry of a line
abbrev pub entry_of : List ℕ → Option Entry
entry_of line = option_and_then (λ parts. entry_from parts.0 parts.1 parts.2 parts.3) (parts_of line)

-- the entry clashes with none, isn't one too many, and leaves the sum of quotas within its bound
abbrev pub fits : List Entry → Entry → Bool
fits entries entry =
    nat_lt (length entries) MOST_ACCOUNTS && (not (list_any (clashes entry) entries) && nat_le (total_of entries + entry.quota) MOST_BLOCKS)

abbrev pub where_fits : List Entry → Entry → Option Entry
where_fits entries entry = if fits entries entry then Some entry else None

-- the entry of a line behind these entries, unless the line is bad
abbrev pub next_entry : List Entry → List ℕ → Option Entry
next_entry entries line = option_and_then (where_fits entries) (entry_of line)

-- the pieces without a last one that is empty
abbrev pub without_last_empty : List (List ℕ) → List (List ℕ)
without_last_empty [] = []
without_last_empty (piece ∷ []) = if is_empty piece then [] else piece ∷ []
without_last_empty (piece ∷ next ∷ pieces) = piece ∷ without_last_empty (next ∷ pieces)

-- the lines of a text, which end with LF or with the text
abbrev pub lines_of : List ℕ → List (List ℕ)
lines_of text = without_last_empty (slice_split (is_byte 10) text)

-- what follows a line, whose entry this is unless it is bad
abbrev pub after_entry : List Entry → Option Entry → (List Entry → Result (List Entry) ℕ) → Result (List Entry) ℕ
after_entry entries None rest = Err (length entries + 1)
after_entry entries (Some entry) rest = rest (entries ++ entry ∷ [])

-- the entries with those of all lines behind them, or the number of the first bad line
abbrev pub entries_from : List (List ℕ) → List Entry → Result (List Entry) ℕ
entries_from [] entries = Ok entries
entries_from (line ∷ lines) entries = after_entry entries (next_entry entries line) (entries_from lines)

-- the entries of the lines: at least one
abbrev pub entries_of_lines : List (List ℕ) → Result (List Entry) ℕ
entries_of_lines [] = Err 1
entries_of_lines (line ∷ lines) = entries_from (line ∷ lines) []

-- the entries of a key file, or the number of its first bad line
abbrev pub entries_of : List ℕ → Result (List Entry) ℕ
entries_of text = entries_of_lines (lines_of text)

-- the fault blames the first bad line, or memory was wanting
abbrev pub Blames : KeyFault → Result (List Entry) ℕ → Type 0
Blames (BadLine line) entries = entries ≡ Err line
Blames Memory entries = ⊤
