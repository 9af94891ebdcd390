-- The Authorization that a request is signed with, and what it is good for.
use Rattle.std.specs.Prelude.{◌≡◌, ℕ, ◌⊎◌, true, false, List, [], ◌∷◌, ◌++◌, All, codes, unwrap_or, Ok}
use Rattle.std.specs.List.{Any, Contains, join_with_byte}
use Rattle.glacier_base.specs.Dates.{basic_of}
use Rattle.glacier_http.specs.Fields.{values_of}
use Rattle.glacier_http.specs.View.{HeadText}
use Rattle.glacier_sigv4.specs.Authorization.{rises_from}
use Rattle.glacier_sigv4.specs.Canonical.{RequestText, canonical_of}
use Rattle.glacier_sigv4.specs.CanonicalFields.{names_of}
use Rattle.glacier_sigv4.specs.Coverage.{is_signed, is_of_amazon}
use Rattle.glacier_sigv4.specs.Rings.{IsRing}
use Rattle.glacier_sigv4.specs.ToSign.{scope_text, signature_of}
use Rattle.glacier_sigv4.specs.Verdict.{is_skewed, verdict}
use Rattle.glacier_sigv4.specs.declared.ring.Entry.{Entry}
use Rattle.glacier_sigv4.specs.declared.ring.Keys.{Keys}

-- the names are lower-case tokens in strictly rising order, with `host` and the date among them
pub record CanSign (fields : List (List ℕ × List ℕ)) (moment : ℕ) : Type 0 where
  pub names : rises_from [] (names_of fields) ≡ true
  pub host : Contains (names_of fields) (codes "host")
  pub date : Contains fields (codes "x-amz-date", basic_of moment)

-- an access key and the scope that it is used for
abbrev pub credential_text : List ℕ → List ℕ → List ℕ → List ℕ
credential_text access date region = access ++ codes "/" ++ scope_text date region

-- an Authorization of Signature Version 4
abbrev pub authorization_text : List ℕ → List ℕ → List ℕ → List ℕ
authorization_text credential names signature =
    codes "AWS4-HMAC-SHA256 Credential=" ++ credential ++ codes ", SignedHeaders=" ++ names ++ codes ", Signature=" ++ signature

-- the Authorization of a request at a date, all of whose fields are signed
abbrev pub authorization_at : Keys → List ℕ → List ℕ → RequestText → List ℕ
authorization_at keys region date request =
    let names = names_of request.fields in
    authorization_text (credential_text keys.access date region) (join_with_byte 59 names)
    (signature_of keys.secret date region (canonical_of request names))

-- the same at a moment
abbrev pub signed_authorization : Keys → List ℕ → ℕ → RequestText → List ℕ
signed_authorization keys region moment request = authorization_at keys region (basic_of moment) request

-- an entry has these keys
abbrev pub HasKeys : List Entry → Keys → Type 0
HasKeys ring keys = Any (λ entry. entry.keys ≡ keys) ring

-- the head of the request, which has each of its fields once and this one Authorization, and whose other fields need no
-- signature
pub record IsSignedHead (head : HeadText) (request : RequestText) (authorization : List ℕ) : Type 0 where
  pub method_is : head.method ≡ request.method
  pub path_is : head.path ≡ request.path
  pub query_is : unwrap_or head.query [] ≡ request.query
  pub authorization_is : values_of (codes "authorization") head.fields ≡ authorization ∷ []
  pub fields : All (λ field. values_of field.0 head.fields ≡ field.1 ∷ []) request.fields
  pub others : All (λ field. (is_signed (names_of request.fields) field.0 ≡ true) ⊎ (is_of_amazon field.0 ≡ false)) head.fields

-- such a head is verified for the keys' account: by each ring that has them, for this region and payload text, and at
-- each reading of the clock that isn't too far from the moment
abbrev pub SignsFor : Keys → List ℕ → ℕ → RequestText → List ℕ → Type 0
SignsFor keys region moment request authorization =
    (ring : List Entry) (head : HeadText) (reading : ℕ) → IsRing ring → HasKeys ring keys
    → IsSignedHead head request authorization → is_skewed moment reading ≡ false
    → verdict ring region head request.payload reading ≡ Ok keys.account
