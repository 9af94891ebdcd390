-- An Authorization is read exactly where it is spelled.
use Rattle.std.proofs.Common.{◌≡◌, ℕ, zero, suc, ◌+◌, ◌<◌, true, false, cond, not, eqb, List, [], ◌∷◌, ◌++◌, length, Option, Some, None, refl, ap, ap₂, sym, subst, ◌∙◌, arith, append_assoc, add-one, true≢false}
use Rattle.std.specs.Prelude.{◌&&◌, codes, is_some}
use Rattle.std.specs.Char.{is_ascii_digit}
use Rattle.std.specs.List.{list_all}
use Rattle.std.proofs.lemmas.Bool.{and_parts, and_from}
use Rattle.std.proofs.lemmas.Option.{option_and_then_some}
use Rattle.glacier_base.specs.Cuts.{cut_at}
use Rattle.glacier_http.specs.Judged.{is_empty}
use Rattle.glacier_sigv4.specs.Authorization.{CredentialText, AuthorizationText, authorization_of, credential_of, is_credential, labelled, behind_word, behind_spaces, is_day, is_signature, are_names, names_in}
use Rattle.glacier_sigv4.specs.Grammar.{spaces, IsPart, AreParts, IsAuthorization, print_credential, print_authorization}
use Rattle.glacier_sigv4.proofs.GrammarLemmas.{word_was, spaces_were, cut_was}
use Rattle.glacier_base.proofs.LackLemmas.{lacks, lacks_from, lacks_append, lacks_parts, lacks_not, lacks_from_not, uncut_lacks, cut_behind, cut_lacking}
use Rattle.glacier_sigv4.proofs.NameLemmas.{join_split}
use Rattle.glacier_sigv4.proofs.TestLemmas.{where_true}
use Rattle.glacier_sigv4.proofs.TokenLemmas.{joined_lacks}

some_bytes : (text : List ℕ) → not (is_empty text) ≡ true → 0 < length text
some_bytes [] some = absurd (true≢false (sym some))
some_bytes (b ∷ text) some = omega arith

-- the parts between slashes, regrouped
abbrev nested : CredentialText → List ℕ
nested c = c.key ++ 47 ∷ (c.date ++ 47 ∷ (c.region ++ 47 ∷ (c.service ++ 47 ∷ c.last)))

-- the field behind its word, regrouped
abbrev behind_first : ℕ → ℕ → ℕ → AuthorizationText → List ℕ
behind_first i j k a =
    spaces i ++ (codes "Credential=" ++ (nested a.credential ++ 44 ∷ (spaces j ++ (codes "SignedHeaders=" ++ (a.names ++ 44
    ∷ (spaces k ++ (codes "Signature=" ++ a.signature)))))))

one_more : (i : ℕ) → spaces (i + 1) ≡ 32 ∷ spaces i
one_more i = rw add-one

joined_by_slashes : (a b c d e slash : List ℕ) → a ++ slash ++ b ++ slash ++ c ++ slash ++ d ++ slash ++ e ≡ a ++ (slash ++ (b ++ (slash ++ (c ++ (slash ++ (d ++ (slash ++ e)))))))
joined_by_slashes a b c d e slash = simp append_assoc

joined_by_commas : (a b c d e f g h i j comma : List ℕ) → a ++ b ++ c ++ d ++ comma ++ e ++ f ++ g ++ comma ++ h ++ i ++ j
    ≡ a ++ (b ++ (c ++ (d ++ (comma ++ (e ++ (f ++ (g ++ (comma ++ (h ++ (i ++ j))))))))))
joined_by_commas a b c d e f g h i j comma = simp append_assoc

regrouped : (i j k : ℕ) (a : AuthorizationText) → print_authorization i j k a ≡ codes "AWS4-HMAC-SHA256 " ++ behind_first i j k a
regrouped i j k a =
    let c = a.credential in
    joined_by_commas (codes "AWS4-HMAC-SHA256") (spaces (i + 1)) (codes "Credential=") (print_credential c) (spaces j) (codes "SignedHeaders=") a.names
    (spaces k) (codes "Signature=") a.signature (codes ",")
    ∙ ap₂ (λ s d. codes "AWS4-HMAC-SHA256" ++ (s ++ (codes "Credential=" ++ (d ++ 44 ∷ (spaces j ++ (codes "SignedHeaders=" ++ (a.names ++ 44
    ∷ (spaces k ++ (codes "Signature=" ++ a.signature)))))))))
    (one_more i) (joined_by_slashes c.key c.date c.region c.service c.last (codes "/"))

-- a credential that was read from a text
record IsRead (c : CredentialText) (text : List ℕ) : Type 0 where
  is : text ≡ nested c
  key : lacks 47 c.key ≡ true
  region : lacks 47 c.region ≡ true
  service : lacks 47 c.service ≡ true
  rule : is_credential c ≡ true

credential_read : (text : List ℕ) (c : CredentialText) → credential_of text ≡ Some c → IsRead c text
credential_read text c is =
    option_and_then_some _ (cut_at 47 text) c is (λ key one left.
    option_and_then_some _ (cut_at 47 key.1) c left (λ date two left.
    option_and_then_some _ (cut_at 47 date.1) c left (λ region three left.
    option_and_then_some _ (cut_at 47 region.1) c left (λ service four left.
    let r : CredentialText = record { key = key.0; date = date.0; region = region.0; service = service.0; last = service.1 } in
    let w = where_true (is_credential r) r c left in
    let k = cut_was 47 text key one in
    let d = cut_was 47 key.1 date two in
    let g = cut_was 47 date.1 region three in
    let s = cut_was 47 region.1 service four in
    let read : IsRead r text = record {
      is = k.0 ∙ ap (λ l. key.0 ++ 47 ∷ l) (d.0 ∙ ap (λ l. date.0 ++ 47 ∷ l) (g.0 ∙ ap (λ l. region.0 ++ 47 ∷ l) s.0));
      key = k.1;
      region = g.1;
      service = s.1;
      rule = w.0;
    } in
    subst (λ (x : CredentialText). IsRead x text) w.1 read))))

nothing_cut : (o : Option (List ℕ × List ℕ)) → not (is_some o) ≡ true → o ≡ None
nothing_cut None is = refl
nothing_cut (Some parts) is = absurd (true≢false (sym is))

part_from : (text : List ℕ) → not (is_empty text) ≡ true → lacks 47 text ≡ true → lacks 44 text ≡ true → IsPart text
part_from text some slash comma = record { some = some_bytes text some; no_slash = lacks_not 47 text slash; no_comma = lacks_not 44 text comma }

-- its parts keep their rules, where the text has no comma
record KeepsRules (c : CredentialText) : Type 0 where
  key : IsPart c.key
  date : is_day c.date ≡ true
  region : IsPart c.region
  service : IsPart c.service
  last : IsPart c.last

keeps_rules : (c : CredentialText) (text : List ℕ) → IsRead c text → lacks 44 text ≡ true → KeepsRules c
keeps_rules c text read comma =
    let one = lacks_parts 44 c.key _ (ap (lacks 44) (sym read.is) ∙ comma) in
    let two = lacks_parts 44 c.date _ one.1 in
    let three = lacks_parts 44 c.region _ two.1 in
    let four = lacks_parts 44 c.service _ three.1 in
    let key = and_parts (not (is_empty c.key)) _ read.rule in
    let date = and_parts (is_day c.date) _ key.1 in
    let region = and_parts (not (is_empty c.region)) _ date.1 in
    let service = and_parts (not (is_empty c.service)) _ region.1 in
    let last = and_parts (not (is_empty c.last)) _ service.1 in
    record {
      key = part_from c.key key.0 read.key one.0;
      date = date.0;
      region = part_from c.region region.0 read.region three.0;
      service = part_from c.service service.0 read.service four.0;
      last = part_from c.last last.0 (uncut_lacks 47 c.last (nothing_cut (cut_at 47 c.last) last.1)) four.1;
    }

-- a labelled part that was read
record WasLabelled (label text : List ℕ) (parts : List ℕ × List ℕ) : Type 0 where
  count : ℕ
  is : text ≡ spaces count ++ (label ++ (parts.0 ++ 44 ∷ parts.1))
  comma : lacks 44 parts.0 ≡ true

labelled_was : (label text : List ℕ) (parts : List ℕ × List ℕ) → labelled label text ≡ Some parts → WasLabelled label text parts
labelled_was label text parts is =
    option_and_then_some (cut_at 44) (behind_word label (behind_spaces text)) parts is (λ rest word cut.
    let blank = spaces_were text in
    let found = cut_was 44 rest parts cut in
    record {
      count = blank.0;
      is = blank.1 ∙ ap (λ l. spaces blank.0 ++ l) (word_was label (behind_spaces text) rest word ∙ ap (λ l. label ++ l) found.0);
      comma = found.1;
    })

pub spelled_from : (text : List ℕ) (a : AuthorizationText) → authorization_of text ≡ Some a → IsAuthorization text a
spelled_from text a is =
    option_and_then_some _ (behind_word (codes "AWS4-HMAC-SHA256 ") text) a is (λ start one left.
    option_and_then_some _ (labelled (codes "Credential=") start) a left (λ credential two left.
    option_and_then_some _ (labelled (codes "SignedHeaders=") credential.1) a left (λ names three left.
    option_and_then_some _ (behind_word (codes "Signature=") (behind_spaces names.1)) a left (λ signature four left.
    option_and_then_some _ (credential_of credential.0) a left (λ parts five left.
    let r : AuthorizationText = record { credential = parts; names = names.0; signature = signature } in
    let w = where_true (are_names names.0 && is_signature signature) r a left in
    let tests = and_parts (are_names names.0) (is_signature signature) w.0 in
    let c = labelled_was (codes "Credential=") start credential two in
    let n = labelled_was (codes "SignedHeaders=") credential.1 names three in
    let blank = spaces_were names.1 in
    let read = credential_read credential.0 parts five in
    let rules = keeps_rules parts credential.0 read c.comma in
    let are : AreParts r = record {
      key = rules.key;
      date = rules.date;
      region = rules.region;
      service = rules.service;
      last = rules.last;
      names = tests.0;
      signature = tests.1;
    } in
    let last : names.1 ≡ spaces blank.0 ++ (codes "Signature=" ++ signature) =
    blank.1 ∙ ap (λ l. spaces blank.0 ++ l) (word_was (codes "Signature=") (behind_spaces names.1) signature four) in
    let middle : credential.1 ≡ spaces n.count ++ (codes "SignedHeaders=" ++ (names.0 ++ 44 ∷ (spaces blank.0 ++ (codes "Signature=" ++ signature)))) =
    n.is ∙ ap (λ l. spaces n.count ++ (codes "SignedHeaders=" ++ (names.0 ++ 44 ∷ l))) last in
    let whole : text ≡ print_authorization c.count n.count blank.0 r =
    word_was (codes "AWS4-HMAC-SHA256 ") text start one
    ∙ ap (λ l. codes "AWS4-HMAC-SHA256 " ++ l)
    (c.is ∙ ap₂ (λ x y. spaces c.count ++ (codes "Credential=" ++ (x ++ 44 ∷ y))) read.is middle)
    ∙ sym (regrouped c.count n.count blank.0 r) in
    subst (λ (x : AuthorizationText). IsAuthorization text x) w.1 (are, c.count, n.count, blank.0, whole))))))

-- ---- the other way

blanks_again : (n b : ℕ) (text : List ℕ) → eqb b 32 ≡ false → behind_spaces (spaces n ++ b ∷ text) ≡ b ∷ text
blanks_again zero b text other = ap (λ t. cond t (behind_spaces text) (b ∷ text)) other
blanks_again (suc n) b text other = blanks_again n b text other

full : (text : List ℕ) → 0 < length text → not (is_empty text) ≡ true
full [] some = absurd (omega arith)
full (b ∷ text) some = refl

slash_free : (text : List ℕ) → IsPart text → lacks 47 text ≡ true
slash_free text part = lacks_from_not 47 text part.no_slash

comma_free : (text : List ℕ) → IsPart text → lacks 44 text ≡ true
comma_free text part = lacks_from_not 44 text part.no_comma

module _ (a : AuthorizationText) (are : AreParts a) where
  abbrev c : CredentialText
  c = a.credential

  day_lacks : (separator : ℕ) → is_ascii_digit separator ≡ false → lacks separator c.date ≡ true
  day_lacks separator fails =
      let p = and_parts _ (list_all is_ascii_digit c.date) are.date in lacks_from is_ascii_digit separator fails c.date p.1

  rule : is_credential c ≡ true
  rule =
      and_from _ _ (full c.key are.key.some)
      (and_from _ _ are.date
      (and_from _ _ (full c.region are.region.some)
      (and_from _ _ (full c.service are.service.some)
      (and_from _ _ (full c.last are.last.some) (ap (λ o. not (is_some o)) (cut_lacking 47 c.last (slash_free c.last are.last)))))))

  credential_of_nested : credential_of (nested c) ≡ Some c
  credential_of_nested =
      rw (
        cut_behind 47 c.key (c.date ++ 47 ∷ (c.region ++ 47 ∷ (c.service ++ 47 ∷ c.last))) (slash_free c.key are.key),
        cut_behind 47 c.date (c.region ++ 47 ∷ (c.service ++ 47 ∷ c.last)) (day_lacks 47 refl),
        cut_behind 47 c.region (c.service ++ 47 ∷ c.last) (slash_free c.region are.region),
        cut_behind 47 c.service c.last (slash_free c.service are.service),
      )
      (ap (λ t. cond t (Some c) None) rule)

  nested_lacks : lacks 44 (nested c) ≡ true
  nested_lacks =
      lacks_append 44 c.key _ (comma_free c.key are.key)
      (lacks_append 44 c.date _ (day_lacks 44 refl)
      (lacks_append 44 c.region _ (comma_free c.region are.region)
      (lacks_append 44 c.service _ (comma_free c.service are.service) (comma_free c.last are.last))))

  names_lack_commas : lacks 44 a.names ≡ true
  names_lack_commas = ap (lacks 44) (sym (join_split a.names)) ∙ joined_lacks [] (names_in a.names) are.names

  module _ (i j k : ℕ) where
    abbrev last_part : List ℕ
    last_part = spaces k ++ (codes "Signature=" ++ a.signature)

    abbrev names_part : List ℕ
    names_part = spaces j ++ (codes "SignedHeaders=" ++ (a.names ++ 44 ∷ last_part))

    read_first : authorization_of (codes "AWS4-HMAC-SHA256 " ++ behind_first i j k a) ≡ Some a
    read_first =
        rw (
          blanks_again i 67 (codes "redential=" ++ (nested c ++ 44 ∷ names_part)) refl,
          cut_behind 44 (nested c) names_part nested_lacks,
          blanks_again j 83 (codes "ignedHeaders=" ++ (a.names ++ 44 ∷ last_part)) refl,
          cut_behind 44 a.names last_part names_lack_commas,
          blanks_again k 83 (codes "ignature=" ++ a.signature) refl,
          credential_of_nested,
          are.names,
          are.signature,
        )

    read_printed : authorization_of (print_authorization i j k a) ≡ Some a
    read_printed = ap authorization_of (regrouped i j k a) ∙ read_first

pub read_from_spelled : (text : List ℕ) (a : AuthorizationText) → IsAuthorization text a → authorization_of text ≡ Some a
read_from_spelled text a is = ap authorization_of is.4 ∙ read_printed a is.0 is.1 is.2 is.3
