-- What an Authorization field claims.
use Rattle.std.specs.Prelude.{ℕ, Bool, true, ◌&&◌, ◌||◌, not, List, [], ◌∷◌, length, take, drop, codes, bytes_eq, Option, Some, None, is_some, if◌then◌else◌, ◌==◌, nat_le, option_and_then}
use Rattle.std.specs.Char.{is_ascii_digit, is_ascii_uppercase}
use Rattle.std.specs.Cmp.Lexicographic.{slice_cmp}
use Rattle.std.specs.List.{list_all, list_any, slice_split}
use Rattle.std.specs.Ordering.{nat_cmp, is_lt}
use Rattle.httparse.specs.Grammar.{is_token}
use Rattle.glacier_base.specs.Cuts.{cut_at, is_byte}
use Rattle.glacier_http.specs.Judged.{is_empty}

-- the access key, and the scope that it is used for
pub record CredentialText : Type 0 where
  pub key : List ℕ
  pub date : List ℕ
  pub region : List ℕ
  pub service : List ℕ
  pub last : List ℕ

pub record AuthorizationText : Type 0 where
  pub credential : CredentialText
  pub names : List ℕ
  pub signature : List ℕ

-- what stands behind a word at the front
abbrev pub behind_word : List ℕ → List ℕ → Option (List ℕ)
behind_word word text = if bytes_eq (take (length word) text) word then Some (drop (length word) text) else None

-- what stands behind the spaces at the front
abbrev pub behind_spaces : List ℕ → List ℕ
behind_spaces [] = []
behind_spaces (b ∷ text) = if b == 32 then behind_spaces text else b ∷ text

-- the part behind a label, up to a comma, and what follows that
abbrev pub labelled : List ℕ → List ℕ → Option (List ℕ × List ℕ)
labelled label text = option_and_then (cut_at 44) (behind_word label (behind_spaces text))

-- eight digits
abbrev pub is_day : List ℕ → Bool
is_day text = (length text == 8) && list_all is_ascii_digit text

-- the date is a day, no part is empty, and the last has no slash
abbrev pub is_credential : CredentialText → Bool
is_credential c =
    not (is_empty c.key) && (is_day c.date && (not (is_empty c.region) && (not (is_empty c.service)
    && (not (is_empty c.last) && not (is_some (cut_at 47 c.last))))))

abbrev pub where_credential : CredentialText → Option CredentialText
where_credential c = if is_credential c then Some c else None

-- the five parts between slashes
abbrev pub credential_of : List ℕ → Option CredentialText
credential_of text =
    option_and_then (λ key. option_and_then (λ date. option_and_then (λ region. option_and_then (λ service.
    where_credential (record { key = key.0; date = date.0; region = region.0; service = service.0; last = service.1 }))
    (cut_at 47 region.1)) (cut_at 47 date.1)) (cut_at 47 key.1)) (cut_at 47 text)

-- a token without an upper-case letter
abbrev pub is_lower_token : List ℕ → Bool
is_lower_token text = is_token text && not (list_any is_ascii_uppercase text)

-- the name is a lower-case token, and behind another in byte order
abbrev pub follows : List ℕ → List ℕ → Bool
follows before name = is_lower_token name && is_lt (slice_cmp nat_cmp before name)

-- each name follows the one before it
abbrev pub rises_from : List ℕ → List (List ℕ) → Bool
rises_from before [] = true
rises_from before (name ∷ names) = follows before name && rises_from name names

-- the signed names, between semicolons
abbrev pub names_in : List ℕ → List (List ℕ)
names_in text = slice_split (is_byte 59) text

abbrev pub are_names : List ℕ → Bool
are_names text = rises_from [] (names_in text)

-- a digit, or a letter from a to f
abbrev pub is_lower_hex : ℕ → Bool
is_lower_hex b = is_ascii_digit b || (nat_le 97 b && nat_le b 102)

-- 64 such digits
abbrev pub is_signature : List ℕ → Bool
is_signature text = (length text == 64) && list_all is_lower_hex text

-- the parts, where each keeps its rule
abbrev pub authorization_from : List ℕ → List ℕ → CredentialText → Option AuthorizationText
authorization_from names signature credential =
    if are_names names && is_signature signature
    then Some (record { credential = credential; names = names; signature = signature }) else None

-- what an Authorization field claims, where it is one of Signature Version 4
abbrev pub authorization_of : List ℕ → Option AuthorizationText
authorization_of text =
    option_and_then (λ parts. option_and_then (λ credential. option_and_then (λ names. option_and_then (λ signature.
    option_and_then (authorization_from names.0 signature) (credential_of credential.0))
    (behind_word (codes "Signature=") (behind_spaces names.1)))
    (labelled (codes "SignedHeaders=") credential.1))
    (labelled (codes "Credential=") parts))
    (behind_word (codes "AWS4-HMAC-SHA256 ") text)
