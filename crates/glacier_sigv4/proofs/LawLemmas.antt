-- A head that was signed is verified.
use Rattle.std.proofs.Common.{◌≡◌, ℕ, ◌≤◌, ◌⊎◌, inl, inr, Bool, true, false, cond, not, List, [], ◌∷◌, ◌++◌, map, Some, None, Ok, Err, refl, ap, ap₂, sym, subst, ◌∙◌, arith}
use Rattle.std.specs.Prelude.{◌&&◌, bytes_eq, codes, unwrap_or}
use Rattle.std.specs.Cmp.Lexicographic.{nat_list_eq_equiv}
use Rattle.std.specs.List.{AllByRecursion, Contains, join_with_byte}
use Rattle.std.proofs.lemmas.Bool.{and_parts, and_from}
use Rattle.std.proofs.lemmas.List.Elements.{recursion_from_All}
use Rattle.std.proofs.lemmas.List.Folds.{list_any_at}
use Rattle.glacier_base.specs.Dates.{basic_of}
use Rattle.glacier_base.specs.Names.{is_region}
use Rattle.glacier_base.specs.declared.moment.TheConstants.{LAST_MOMENT}
use Rattle.glacier_base.proofs.BasicMoment.{shown_is_read}
use Rattle.glacier_base.proofs.LackLemmas.{lacks}
use Rattle.glacier_http.specs.Fields.{lower, same_text, values_of}
use Rattle.glacier_http.specs.Judged.{is_empty}
use Rattle.glacier_http.specs.View.{HeadText}
use Rattle.glacier_sigv4.specs.Authorization.{AuthorizationText, names_in, rises_from, authorization_of, credential_of}
use Rattle.glacier_sigv4.specs.Canonical.{RequestText, canonical_of, front_text, signed_text}
use Rattle.glacier_sigv4.specs.Rings.{is_access}
use Rattle.glacier_sigv4.specs.CanonicalFields.{names_of}
use Rattle.glacier_sigv4.specs.Signing.{CanSign, credential_text, signed_authorization, IsSignedHead, SignsFor}
use Rattle.glacier_sigv4.specs.Coverage.{is_present, are_present, is_signed, is_of_amazon, is_unsigned, unsigned_in, unsigned_host, first_unsigned, least_of}
use Rattle.glacier_sigv4.specs.ToSign.{day_of, signature_of}
use Rattle.glacier_sigv4.specs.CanonicalFields.{field_texts, canonical_value}
use Rattle.glacier_sigv4.specs.Verdict.{Verdict, ClaimText, claim_in, claim_of, claim_from, is_in_scope, is_skewed, request_in, is_signed_by, unless_unsigned, judged, judged_key, verdict}
use Rattle.glacier_sigv4.specs.declared.auth_fault.AuthFault.TheVariants.{Malformed, WrongScope, Skewed, BadSignature}
use Rattle.glacier_sigv4.specs.declared.ring.Entry.{Entry}
use Rattle.glacier_sigv4.specs.declared.ring.Keys.{Keys}
use Rattle.glacier_sigv4.proofs.DayLemmas.{day_is_day}
use Rattle.glacier_sigv4.proofs.DigestLemmas.{code_is_signature}
use Rattle.glacier_sigv4.proofs.FoundLemmas.{FindsKeys, finds_keys}
use Rattle.glacier_sigv4.proofs.OnceLemmas.{IsOnce, each_once}
use Rattle.glacier_sigv4.proofs.ReadBackLemmas.{credential_with, credential_written, credential_lacks, credential_again, authorization_again}
use Rattle.glacier_sigv4.proofs.TokenLemmas.{names_again, joined_lacks}

-- the signed names are those of fields
all_present : (fields pairs : List (List ℕ × List ℕ)) → AllByRecursion (IsOnce fields) pairs → are_present fields (names_of pairs) ≡ true
all_present fields [] once = refl
all_present fields (pair ∷ pairs) once =
    and_from (is_present fields pair.0) _ (ap (λ vs. not (is_empty vs)) once.0) (all_present fields pairs once.1)

-- no other field must be signed
none_unsigned : (names : List (List ℕ)) (fields : List (List ℕ × List ℕ))
    → AllByRecursion (λ field. (is_signed names field.0 ≡ true) ⊎ (is_of_amazon field.0 ≡ false)) fields → unsigned_in names fields ≡ []
none_unsigned names [] all = refl
none_unsigned names (field ∷ fields) all =
    ap (λ t. cond t (lower field.0 ∷ unsigned_in names fields) (unsigned_in names fields)) (test all.0) ∙ none_unsigned names fields all.1
  where
    test : (is_signed names field.0 ≡ true) ⊎ (is_of_amazon field.0 ≡ false) → is_unsigned names field.0 ≡ false
    test (inl signed) = ap (λ t. is_of_amazon field.0 && not t) signed ∙ and_false (is_of_amazon field.0)
      where
        and_false : (b : Bool) → (b && false) ≡ false
        and_false true = refl
        and_false false = refl
    test (inr other) = ap (λ t. t && not (is_signed names field.0)) other

host_signed : (names : List (List ℕ)) → Contains names (codes "host") → unsigned_host names ≡ []
host_signed names has =
    let signed : is_signed names (codes "host") ≡ true =
    list_any_at (λ name. same_text name (codes "host")) names has.0 (codes "host") has.1 (ap (λ name. same_text name (codes "host")) has.2) in
    ap (λ t. cond t [] (codes "host" ∷ [])) signed

-- fields that give the same values give the same lines
same_texts : (fields others pairs : List (List ℕ × List ℕ)) → AllByRecursion (IsOnce fields) pairs → AllByRecursion (IsOnce others) pairs
    → field_texts fields (names_of pairs) ≡ field_texts others (names_of pairs)
same_texts fields others [] a b = refl
same_texts fields others (pair ∷ pairs) a b =
    ap₂ (λ (vs : List (List ℕ)) (rest : List ℕ). pair.0 ++ codes ":" ++ join_with_byte 44 (map canonical_value vs) ++ codes "\n" ++ rest) (a.0 ∙ sym b.0) (same_texts fields others pairs a.1 b.1)

module _ (keys : Keys) (region : List ℕ) (moment : ℕ) (request : RequestText)
    (can : CanSign request.fields moment) (within : moment ≤ LAST_MOMENT) (place : is_region region ≡ true) where
  abbrev names : List (List ℕ)
  names = names_of request.fields

  abbrev joined : List ℕ
  joined = join_with_byte 59 names

  abbrev date : List ℕ
  date = basic_of moment

  abbrev canonical : List ℕ
  canonical = canonical_of request names

  abbrev signature : List ℕ
  signature = signature_of keys.secret date region canonical

  abbrev authorization : List ℕ
  authorization = signed_authorization keys region moment request

  -- what the Authorization says
  abbrev said : AuthorizationText
  said = record { credential = credential_with keys.access (day_of date) region; names = joined; signature = signature }

  abbrev claim : ClaimText
  claim = record { authorization = said; moment = moment }

  again : names_in joined ≡ names
  again = names_again names (omega (arith, can.host.1)) can.names

  says : is_access keys.access ≡ true → authorization_of authorization ≡ Some said
  says key =
      let day = day_is_day moment within in
      let is = credential_written keys.access date region in
      authorization_again (credential_text keys.access date region) joined signature
      (credential_with keys.access (day_of date) region)
      (ap (lacks 44) is ∙ credential_lacks keys.access (day_of date) region key day place)
      (joined_lacks [] names can.names)
      (ap credential_of is ∙ credential_again keys.access (day_of date) region key day place)
      (ap (rises_from []) again ∙ can.names)
      (code_is_signature _ _)

  module _ (ring : List Entry) (head : HeadText) (reading : ℕ) (finds : FindsKeys ring keys)
      (shows : IsSignedHead head request authorization) (near : is_skewed moment reading ≡ false) where
    once_in_head : AllByRecursion (IsOnce head.fields) request.fields
    once_in_head = recursion_from_All (IsOnce head.fields) request.fields shows.fields

    dates : values_of (codes "x-amz-date") head.fields ≡ date ∷ []
    dates =
        subst (λ (p : List ℕ × List ℕ). values_of p.0 head.fields ≡ p.1 ∷ []) can.date.2
        (shows.fields can.date.0 (codes "x-amz-date", date) can.date.1)

    key : is_access keys.access ≡ true
    key = subst (λ (ks : Keys). is_access ks.access ≡ true) finds.keys_are (and_parts (is_access finds.entry.keys.access) _ finds.rules).0

    claims : claim_in head ≡ Ok claim
    claims =
        ap₂ (claim_of head.fields) shows.authorization_is dates
        ∙ ap₂ (claim_from head.fields) (says key) (shown_is_read moment date within refl)
        ∙ ap (λ t. cond t (Ok claim) (Err Malformed)) (ap (are_present head.fields) again ∙ all_present head.fields request.fields once_in_head)

    in_scope : is_in_scope date region said.credential ≡ true
    in_scope =
        and_from _ _ (nat_list_eq_equiv.refl (day_of date)) (and_from _ _ (nat_list_eq_equiv.refl region) refl)

    all_signed : first_unsigned (names_in joined) head.fields ≡ None
    all_signed =
        ap (λ ns. first_unsigned ns head.fields) again
        ∙ ap₂ (λ a b. least_of None (a ++ b)) (host_signed names can.host)
        (none_unsigned names head.fields (recursion_from_All _ head.fields shows.others))

    same_canonical : canonical_of (request_in head request.payload) (names_in joined) ≡ canonical
    same_canonical =
        let front : front_text head.method head.path (unwrap_or head.query []) ≡ front_text request.method request.path request.query =
        λ i. front_text (shows.method_is i) (shows.path_is i) (shows.query_is i) in
        let lines : signed_text head.fields names request.payload ≡ signed_text request.fields names request.payload =
        ap (λ l. l ++ codes "\n" ++ joined ++ codes "\n" ++ request.payload)
        (same_texts head.fields request.fields request.fields once_in_head (each_once [] request.fields can.names)) in
        ap (canonical_of (request_in head request.payload)) again ∙ ap₂ (λ a b. a ++ b) front lines

    signs : is_signed_by finds.entry.keys.secret region head request.payload claim ≡ true
    signs =
        ap₂ (λ secret text. bytes_eq (signature_of secret date region text) signature) (ap (λ (ks : Keys). ks.secret) finds.keys_are) same_canonical
        ∙ nat_list_eq_equiv.refl signature

    verified : verdict ring region head request.payload reading ≡ Ok keys.account
    verified =
        let entry = finds.entry in
        let signed = is_signed_by entry.keys.secret region head request.payload claim in
        let late : Bool → Verdict = λ t. cond t (Err (Skewed moment reading)) (cond (not signed) (Err BadSignature) (Ok entry.keys.account)) in
        ap (judged ring region head request.payload reading) claims
        ∙ ap (judged_key region head request.payload reading claim) finds.found
        ∙ ap (λ t. cond (not t) (Err WrongScope) (unless_unsigned (first_unsigned (names_in joined) head.fields) (late (is_skewed moment reading)))) in_scope
        ∙ ap (λ first. unless_unsigned first (late (is_skewed moment reading))) all_signed
        ∙ ap late near
        ∙ ap (λ t. cond (not t) (Err BadSignature) (Ok entry.keys.account)) signs
        ∙ ap (λ (ks : Keys). Ok ks.account) finds.keys_are

  -- the law of signing
  pub signs_for : SignsFor keys region moment request authorization
  signs_for ring head reading is has shows near = verified ring head reading (finds_keys ring keys is has) shows near
