-- The pairs of a query.
use Rattle.std.specs.Prelude.{ℕ, not, List, [], map, filter, unwrap_or}
use Rattle.std.specs.List.{slice_split}
use Rattle.percent_encoding.specs.Percent.{percent_decode}
use Rattle.glacier_base.specs.Cuts.{cut_at, is_byte}
use Rattle.glacier_http.specs.Judged.{is_empty}
use Rattle.glacier_http.specs.declared.query.Pair.{Pair}

-- the name before the first equals sign and the value behind it; without one the piece is a name with an empty value
abbrev pub halves : List ℕ → List ℕ × List ℕ
halves piece = unwrap_or (cut_at 61 piece) (piece, [])

-- the pair of a piece: both halves, decoded
abbrev pub pair_of : List ℕ → Pair
pair_of piece = record { name = percent_decode (halves piece).0; value = percent_decode (halves piece).1 }

-- the pieces between the ampersands, without the empty ones
abbrev pub query_pieces : List ℕ → List (List ℕ)
query_pieces query = filter (λ piece. not (is_empty piece)) (slice_split (is_byte 38) query)

-- the pairs of a query
abbrev pub pairs_of : List ℕ → List Pair
pairs_of query = map pair_of (query_pieces query)
