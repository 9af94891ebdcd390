-- Names that must be signed and aren't are ASCII.
use Rattle.std.proofs.Common.{ℕ, suc, ◌<◌, Bool, true, false, cond, List, [], ◌∷◌, ◌++◌, Option, Some, None, refl, arith}
use Rattle.std.specs.Prelude.{All, IfSome, IsAscii, IsTrue, codes, nat_lt}
use Rattle.std.specs.Cmp.Lexicographic.{slice_cmp}
use Rattle.std.specs.Ordering.{nat_cmp, is_lt}
use Rattle.std.proofs.lemmas.Bool.{ltb-true}
use Rattle.std.proofs.lemmas.Grind.{common_steps}
use Rattle.std.proofs.lemmas.List.Elements.{All-nil, All-cons, All-head, All-tail}
use Rattle.std.proofs.lemmas.List.Sums.{list_all-from_AllPass}
use Rattle.std.proofs.lemmas.Str.Ascii.{IsAscii-nil, IsAscii-cons, lowercase_ascii}
use Rattle.httparse.specs.Grammar.{IsToken, is_token_byte}
use Rattle.glacier_http.specs.Fields.{lower}
use Rattle.glacier_http.specs.View.{HasNames}
use Rattle.glacier_sigv4.specs.Coverage.{is_unsigned, unsigned_in, is_signed, unsigned_host, lesser, least_of, first_unsigned}
use Rattle.glacier_replies.proofs.NameLemmas.{ascii_by}

small_token : (b : ℕ) → IsTrue (is_token_byte b) → b < 128
unfolding is_token_byte
small_token b h = grind (arith, common_steps)

-- a token in lower case is ASCII
lower_is_ascii : (name : List ℕ) → IsAscii name → IsAscii (lower name)
lower_is_ascii [] ascii = IsAscii-nil
lower_is_ascii (b ∷ name) ascii = IsAscii-cons _ (lower name) (lowercase_ascii b (ascii 0))
    (lower_is_ascii name (λ i. ascii (suc i)))

token_is_ascii : (name : List ℕ) → IsToken name → IsAscii name
token_is_ascii name is = ascii_by is_token_byte small_token name (list_all-from_AllPass is_token_byte name is.1)

host_is_ascii : IsAscii (codes "host")
host_is_ascii = ascii_by (λ b. nat_lt b 128) (λ b h. ltb-true b 128 h) (codes "host") refl

unsigned_are_ascii : (names : List (List ℕ)) (fields : List (List ℕ × List ℕ)) → HasNames fields
    → All IsAscii (unsigned_in names fields)
unsigned_are_ascii names [] all = All-nil IsAscii
unsigned_are_ascii names (field ∷ fields) all =
    go (is_unsigned names field.0) (unsigned_are_ascii names fields (All-tail (λ f. IsToken f.0) field fields all))
  where
    go : (t : Bool) → All IsAscii (unsigned_in names fields)
        → All IsAscii (cond t (lower field.0 ∷ unsigned_in names fields) (unsigned_in names fields))
    go true rest =
        All-cons IsAscii (lower field.0) (unsigned_in names fields)
        (lower_is_ascii field.0 (token_is_ascii field.0 (All-head (λ f. IsToken f.0) field fields all))) rest
    go false rest = rest

lesser_is_ascii : (a b : List ℕ) → IsAscii a → IsAscii b → IsAscii (lesser a b)
lesser_is_ascii a b x y = go (is_lt (slice_cmp nat_cmp b a))
  where
    go : (t : Bool) → IsAscii (cond t b a)
    go true = y
    go false = x

least_is_ascii : (first : Option (List ℕ)) (names : List (List ℕ)) → IfSome first IsAscii → All IsAscii names
    → IfSome (least_of first names) IsAscii
least_is_ascii first [] some all = some
least_is_ascii None (b ∷ names) some all = least_is_ascii (Some b) names (All-head IsAscii b names all)
    (All-tail IsAscii b names all)
least_is_ascii (Some a) (b ∷ names) some all =
    least_is_ascii (Some (lesser a b)) names (lesser_is_ascii a b some (All-head IsAscii b names all))
    (All-tail IsAscii b names all)

pub first_is_ascii : (names : List (List ℕ)) (fields : List (List ℕ × List ℕ)) → HasNames fields
    → IfSome (first_unsigned names fields) IsAscii
first_is_ascii names fields all = least_is_ascii None (unsigned_host names ++ unsigned_in names fields) tt
    (go (is_signed names (codes "host")))
  where
    rest : All IsAscii (unsigned_in names fields)
    rest = unsigned_are_ascii names fields all

    go : (t : Bool) → All IsAscii (cond t [] (codes "host" ∷ []) ++ unsigned_in names fields)
    go true = rest
    go false = All-cons IsAscii (codes "host") (unsigned_in names fields) host_is_ascii rest
