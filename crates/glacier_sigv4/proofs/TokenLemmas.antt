-- Signed names: tokens, none of which has a separator.
use Rattle.std.proofs.Common.{◌≡◌, ℕ, ◌<◌, true, false, not, List, [], ◌∷◌, length, refl, arith}
use Rattle.std.specs.Prelude.{nat_lt}
use Rattle.std.specs.Char.{is_ascii_uppercase}
use Rattle.std.specs.List.{list_all, list_any, join_with_byte}
use Rattle.std.proofs.lemmas.Bool.{and_parts, and_from}
use Rattle.httparse.specs.Grammar.{is_token, is_token_byte}
use Rattle.glacier_sigv4.specs.Authorization.{is_lower_token, follows, rises_from, names_in}
use Rattle.glacier_base.proofs.LackLemmas.{lacks, lacks_from, lacks_append, split_join}

-- a token has no byte that isn't one of tokens
pub token_lacks : (separator : ℕ) → is_token_byte separator ≡ false → (name : List ℕ) → is_lower_token name ≡ true → lacks separator name ≡ true
token_lacks separator fails name token =
    let parts = and_parts (is_token name) (not (list_any is_ascii_uppercase name)) token in
    let bytes = and_parts (nat_lt 0 (length name)) (list_all is_token_byte name) parts.0 in
    lacks_from is_token_byte separator fails name bytes.1

pub names_lack : (separator : ℕ) → is_token_byte separator ≡ false → (before : List ℕ) (names : List (List ℕ)) → rises_from before names ≡ true
    → list_all (lacks separator) names ≡ true
names_lack separator fails before [] rises = refl
names_lack separator fails before (name ∷ names) rises =
    let parts = and_parts (follows before name) (rises_from name names) rises in
    let token = and_parts (is_lower_token name) _ parts.0 in
    and_from (lacks separator name) _ (token_lacks separator fails name token.0) (names_lack separator fails name names parts.1)

semicolon_fails : is_token_byte 59 ≡ false
unfolding is_token_byte
semicolon_fails = refl

pub comma_fails : is_token_byte 44 ≡ false
unfolding is_token_byte
comma_fails = refl

-- names in rising order, joined by semicolons and read again
pub names_again : (names : List (List ℕ)) → 0 < length names → rises_from [] names ≡ true → names_in (join_with_byte 59 names) ≡ names
names_again [] some rises = absurd (omega arith)
names_again (name ∷ names) some rises = split_join 59 name names (names_lack 59 semicolon_fails [] (name ∷ names) rises)

-- joined names have no comma
pub joined_lacks : (before : List ℕ) (names : List (List ℕ)) → rises_from before names ≡ true → lacks 44 (join_with_byte 59 names) ≡ true
joined_lacks before [] rises = refl
joined_lacks before (name ∷ []) rises =
    (and_parts (lacks 44 name) _ (names_lack 44 comma_fails before (name ∷ []) rises)).0
joined_lacks before (name ∷ next ∷ names) rises =
    let all = and_parts (lacks 44 name) _ (names_lack 44 comma_fails before (name ∷ next ∷ names) rises) in
    let rest = and_parts (follows before name) (rises_from name (next ∷ names)) rises in
    lacks_append 44 name _ all.0 (joined_lacks name (next ∷ names) rest.1)
