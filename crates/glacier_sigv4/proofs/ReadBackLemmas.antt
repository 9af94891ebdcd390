-- An Authorization that was written is read again.
use Rattle.std.proofs.Common.{◌≡◌, ℕ, ◌≤◌, true, false, cond, not, List, [], ◌∷◌, ◌++◌, length, Some, None, refl, ap, ◌∙◌, arith, append_assoc}
use Rattle.std.specs.Prelude.{codes, nat_le}
use Rattle.std.specs.Char.{is_ascii_alphanumeric, is_ascii_digit}
use Rattle.std.specs.List.{list_all}
use Rattle.std.proofs.lemmas.Bool.{and_parts, and_from, leb-true}
use Rattle.glacier_base.specs.Names.{is_region, is_region_byte}
use Rattle.glacier_http.specs.Judged.{is_empty}
use Rattle.glacier_sigv4.specs.Authorization.{CredentialText, authorization_of, credential_of, is_credential, is_day, is_signature, are_names}
use Rattle.glacier_sigv4.specs.Rings.{is_access}
use Rattle.glacier_sigv4.specs.Signing.{authorization_text, credential_text}
use Rattle.glacier_sigv4.specs.ToSign.{day_of}
use Rattle.glacier_base.proofs.LackLemmas.{lacks, lacks_from, lacks_append, cut_behind}

-- the credential of these parts
abbrev pub credential_with : List ℕ → List ℕ → List ℕ → CredentialText
credential_with access day region =
    record { key = access; date = day; region = region; service = codes "glacier"; last = codes "aws4_request" }

not_empty : (text : List ℕ) → 1 ≤ length text → not (is_empty text) ≡ true
not_empty [] some = absurd (omega arith)
not_empty (b ∷ text) some = refl

-- a credential: its parts between slashes
abbrev pub written : List ℕ → List ℕ → List ℕ → List ℕ
written access day region = access ++ 47 ∷ (day ++ 47 ∷ (region ++ 47 ∷ codes "glacier/aws4_request"))

module _ (access day region : List ℕ) (key : is_access access ≡ true) (eight : is_day day ≡ true) (place : is_region region ≡ true) where
  key_lacks : (separator : ℕ) → is_ascii_alphanumeric separator ≡ false → lacks separator access ≡ true
  key_lacks separator fails =
      let p = and_parts (nat_le 1 (length access)) _ key in
      let q = and_parts (nat_le (length access) 128) _ p.1 in
      lacks_from is_ascii_alphanumeric separator fails access q.1

  day_lacks : (separator : ℕ) → is_ascii_digit separator ≡ false → lacks separator day ≡ true
  day_lacks separator fails = let p = and_parts _ (list_all is_ascii_digit day) eight in lacks_from is_ascii_digit separator fails day p.1

  place_lacks : (separator : ℕ) → is_region_byte separator ≡ false → lacks separator region ≡ true
  place_lacks separator fails =
      let p = and_parts _ (list_all is_region_byte region) place in
      lacks_from is_region_byte separator fails region p.1

  -- a credential has no comma
  pub credential_lacks : lacks 44 (written access day region) ≡ true
  credential_lacks =
      lacks_append 44 access _ (key_lacks 44 refl)
      (lacks_append 44 day _ (day_lacks 44 refl) (lacks_append 44 region _ (place_lacks 44 refl) refl))

  some_key : not (is_empty access) ≡ true
  some_key = let p = and_parts (nat_le 1 (length access)) _ key in not_empty access (leb-true 1 (length access) p.0)

  some_region : not (is_empty region) ≡ true
  some_region =
      let p = and_parts _ (list_all is_region_byte region) place in
      let q = and_parts (nat_le 1 (length region)) _ p.0 in
      not_empty region (leb-true 1 (length region) q.0)

  pub credential_again : credential_of (written access day region) ≡ Some (credential_with access day region)
  credential_again =
      rw (
        cut_behind 47 access (day ++ 47 ∷ (region ++ 47 ∷ codes "glacier/aws4_request")) (key_lacks 47 refl),
        cut_behind 47 day (region ++ 47 ∷ codes "glacier/aws4_request") (day_lacks 47 refl),
        cut_behind 47 region (codes "glacier/aws4_request") (place_lacks 47 refl),
      )
      (ap (λ t. cond t (Some credential) None) test)
    where
      credential : CredentialText
      credential = credential_with access day region

      test : is_credential (credential_with access day region) ≡ true
      test = and_from _ _ some_key (and_from _ _ eight (and_from _ _ some_region refl))

-- what is read of an Authorization: its parts are cut at commas
module _ (credential names signature : List ℕ) (parts : CredentialText) (one : lacks 44 credential ≡ true) (two : lacks 44 names ≡ true)
    (read : credential_of credential ≡ Some parts) (rising : are_names names ≡ true) (digits : is_signature signature ≡ true) where
  abbrev last_part : List ℕ
  last_part = codes " Signature=" ++ signature

  abbrev later_parts : List ℕ
  later_parts = codes " SignedHeaders=" ++ (names ++ 44 ∷ last_part)

  in_order : authorization_text credential names signature ≡ codes "AWS4-HMAC-SHA256 Credential=" ++ (credential ++ 44 ∷ later_parts)
  in_order = simp append_assoc

  read_in_order : authorization_of (codes "AWS4-HMAC-SHA256 Credential=" ++ (credential ++ 44 ∷ later_parts))
      ≡ Some (record { credential = parts; names = names; signature = signature })
  read_in_order = rw (cut_behind 44 credential later_parts one, cut_behind 44 names last_part two, read, rising, digits)

  pub authorization_again : authorization_of (authorization_text credential names signature)
      ≡ Some (record { credential = parts; names = names; signature = signature })
  authorization_again = ap authorization_of in_order ∙ read_in_order

-- a credential as it is written
pub credential_written : (access date region : List ℕ) → credential_text access date region ≡ written access (day_of date) region
credential_written access date region = simp append_assoc
