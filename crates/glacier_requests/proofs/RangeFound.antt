-- The ranges that are read are those that the texts say.
use Rattle.std.proofs.Common.{◌≡◌, ◌∙◌, ℕ, Bool, true, false, cond, eqb, List, [], ◌∷◌, ◌++◌, Option, Some, None, refl, sym, ap, subst, arith}
use Rattle.std.specs.Prelude.{codes, option_and_then, bytes_eq, nat_le}
use Rattle.std.specs.List.{list_all}
use Rattle.std.proofs.lemmas.Bool.{eqb-true}
use Rattle.std.proofs.lemmas.Bool.Decides.{nat_tests}
use Rattle.std.proofs.lemmas.Slice.Eq.{bytes_eq-Decides}
use Rattle.glacier_base.specs.Cuts.{cut_at}
use Rattle.glacier_base.specs.Names.{is_digit}
use Rattle.glacier_base.proofs.DigitLemmas.{list_all-decimals}
use Rattle.glacier_base.proofs.LackLemmas.{lacks, lacks_from, lacks_append, cut_behind}
use Rattle.glacier_http.specs.Ranges.{Finds, IsNumber, IsRange, IsByteRange, IsContentRange}
use Rattle.glacier_http.proofs.RangeLemmas.{cut_joins, no_dash, no_first, no_last, disordered, finds_range, finds_none, finds_same, byte_range_of as same_byte_range, content_range_of as same_content_range}
use Rattle.glacier_requests.specs.Ranges.{place_of, between, range_of, behind, byte_range_of, before_star, content_range_of}

-- one answer is found
pub one_answer : (Says : ℕ × ℕ → Type 0) (a b : Option (ℕ × ℕ)) → Finds Says a → Finds Says b → a ≡ b
one_answer Says (Some x) b first second = sym ((second.said x).1 ((first.said x).0 refl))
one_answer Says None (Some y) first second = (first.said y).1 ((second.said y).0 refl)
one_answer Says None None first second = refl

pub finds_range_of : (text : List ℕ) → Finds (IsRange text) (range_of text)
finds_range_of text = by_cut (cut_at 45 text) refl
  where
    in_turn : (parts : List ℕ × List ℕ) → cut_at 45 text ≡ Some parts → (first last : ℕ)
        → place_of parts.0 ≡ Some first → place_of parts.1 ≡ Some last
        → (t : Bool) → nat_le first last ≡ t → Finds (IsRange text) (cond t (Some (first, last)) None)
    in_turn parts cut first last f l true e = finds_range text parts cut (first, last) f l (grind (arith, nat_tests))
    in_turn parts cut first last f l false e =
        finds_none _ (disordered text parts cut (first, last) f l (grind (arith, nat_tests)))

    by_last : (parts : List ℕ × List ℕ) → cut_at 45 text ≡ Some parts → (first : ℕ) → place_of parts.0 ≡ Some first
        → (last : Option ℕ) → place_of parts.1 ≡ last → Finds (IsRange text) (between (Some first) last)
    by_last parts cut first f None l = finds_none _ (no_last text parts cut l)
    by_last parts cut first f (Some last) l = in_turn parts cut first last f l (nat_le first last) refl

    by_first : (parts : List ℕ × List ℕ) → cut_at 45 text ≡ Some parts
        → (first : Option ℕ) → place_of parts.0 ≡ first → Finds (IsRange text) (between first (place_of parts.1))
    by_first parts cut None f = finds_none _ (no_first text parts cut f)
    by_first parts cut (Some first) f = by_last parts cut first f (place_of parts.1) refl

    by_cut : (parts : Option (List ℕ × List ℕ)) → cut_at 45 text ≡ parts
        → Finds (IsRange text) (option_and_then (λ halves. between (place_of halves.0) (place_of halves.1)) parts)
    by_cut None cut = finds_none _ (no_dash text cut)
    by_cut (Some parts) cut = by_first parts cut (place_of parts.0) refl

-- what stands behind a front is what follows it
behind_is : (front text rest : List ℕ) → behind front text ≡ Some rest → text ≡ front ++ rest
behind_is [] text rest is = cc
behind_is (f ∷ front) [] rest is = cc
behind_is (f ∷ front) (b ∷ text) rest is = go (eqb f b) refl is (behind_is front text rest)
  where
    go : (t : Bool) → eqb f b ≡ t → cond t (behind front text) None ≡ Some rest
        → (behind front text ≡ Some rest → text ≡ front ++ rest) → b ∷ text ≡ f ∷ (front ++ rest)
    go false e is rec = cc
    go true e is rec = ap (λ x. x ∷ text) (sym (eqb-true f b e)) ∙ ap (λ xs. f ∷ xs) (rec is)

behind_front : (front rest : List ℕ) → behind front (front ++ rest) ≡ Some rest
behind_front [] rest = refl
behind_front (f ∷ front) rest = ap (λ t. cond t (behind front (front ++ rest)) None) (same f) ∙ behind_front front rest
  where
    same : (n : ℕ) → eqb n n ≡ true
    same n = grind (arith, nat_tests)

pub finds_byte_range_of : (text : List ℕ) → Finds (IsByteRange text) (byte_range_of text)
finds_byte_range_of text = go (behind (codes "bytes=") text) refl
  where
    go : (rest : Option (List ℕ)) → behind (codes "bytes=") text ≡ rest
        → Finds (IsByteRange text) (option_and_then range_of rest)
    go None is = finds_none _ none
      where
        none : (range : ℕ × ℕ) → ¬ (IsByteRange text range)
        none range (places, parts, said) =
            let clash : None ≡ Some places = sym is ∙ ap (behind (codes "bytes=")) parts ∙ behind_front (codes "bytes=") places in cc
    go (Some rest) is =
        let whole = behind_is (codes "bytes=") text rest is in
        finds_same (IsRange rest) (IsByteRange text) (range_of rest) (λ range said. (rest, whole, said))
        (same_byte_range text rest whole) (finds_range_of rest)

-- a range has no slash
number_lacks : (text : List ℕ) (n : ℕ) → IsNumber text n → lacks 47 text ≡ true
number_lacks text n is =
    lacks_from is_digit 47 refl text (subst (λ l. list_all is_digit l ≡ true) (sym is.digits) (list_all-decimals _ n))

range_lacks : (text : List ℕ) (range : ℕ × ℕ) → IsRange text range → lacks 47 text ≡ true
range_lacks text range is =
    ap (lacks 47) is.parts
    ∙ lacks_append 47 is.first (codes "-" ++ is.last) (number_lacks is.first range.0 is.first_is) (number_lacks is.last range.1 is.last_is)

pub finds_content_range_of : (text : List ℕ) → Finds (IsContentRange text) (content_range_of text)
finds_content_range_of text = by_front (behind (codes "bytes ") text) refl
  where
    -- where a range is said, its places stand behind the front and before the slash
    rest_of : (range : ℕ × ℕ) (said : IsContentRange text range) → behind (codes "bytes ") text ≡ Some (said.0 ++ codes "/*")
    rest_of range said = ap (behind (codes "bytes ")) said.1 ∙ behind_front (codes "bytes ") (said.0 ++ codes "/*")

    cut_of : (rest : List ℕ) → behind (codes "bytes ") text ≡ Some rest → (range : ℕ × ℕ) (said : IsContentRange text range)
        → cut_at 47 rest ≡ Some (said.0, codes "*")
    cut_of rest front range said =
        let same : said.0 ++ codes "/*" ≡ rest = (let both : Some (said.0 ++ codes "/*") ≡ Some rest = sym (rest_of range said) ∙ front in cc) in
        ap (cut_at 47) (sym same) ∙ cut_behind 47 said.0 (codes "*") (range_lacks said.0 range said.2)

    by_star : (rest : List ℕ) → behind (codes "bytes ") text ≡ Some rest → (halves : List ℕ × List ℕ)
        → cut_at 47 rest ≡ Some halves → (t : Bool) → bytes_eq halves.1 (codes "*") ≡ t
        → Finds (IsContentRange text) (option_and_then range_of (cond t (Some halves.0) None))
    by_star rest front halves cut false e = finds_none _ none
      where
        none : (range : ℕ × ℕ) → ¬ (IsContentRange text range)
        none range said =
            let both : Some halves ≡ Some (said.0, codes "*") = sym cut ∙ cut_of rest front range said in
            let same : halves ≡ (said.0, codes "*") = cc in
            let clash : true ≡ false = ap (λ (h : List ℕ × List ℕ). bytes_eq h.1 (codes "*")) (sym same) ∙ e in cc
    by_star rest front halves cut true e =
        let whole = behind_is (codes "bytes ") text rest front ∙ ap (λ l. codes "bytes " ++ l) (cut_joins 47 rest halves cut
        ∙ ap (λ l. halves.0 ++ 47 ∷ l) ((bytes_eq-Decides halves.1 (codes "*")).0 e)) in
        finds_same (IsRange halves.0) (IsContentRange text) (range_of halves.0) (λ range said. (halves.0, whole, said))
        (same_content_range text halves.0 whole) (finds_range_of halves.0)

    by_cut : (rest : List ℕ) → behind (codes "bytes ") text ≡ Some rest → (halves : Option (List ℕ × List ℕ))
        → cut_at 47 rest ≡ halves
        → Finds (IsContentRange text) (option_and_then (λ halves. option_and_then range_of (before_star halves)) halves)
    by_cut rest front None cut = finds_none _ none
      where
        none : (range : ℕ × ℕ) → ¬ (IsContentRange text range)
        none range said =
            let found : List ℕ × List ℕ = (said.0, codes "*") in
            let clash : None ≡ Some found = sym cut ∙ cut_of rest front range said in cc
    by_cut rest front (Some halves) cut = by_star rest front halves cut (bytes_eq halves.1 (codes "*")) refl

    by_front : (rest : Option (List ℕ)) → behind (codes "bytes ") text ≡ rest
        → Finds (IsContentRange text)
        (option_and_then (λ rest. option_and_then (λ halves. option_and_then range_of (before_star halves)) (cut_at 47 rest)) rest)
    by_front None front = finds_none _ none
      where
        none : (range : ℕ × ℕ) → ¬ (IsContentRange text range)
        none range said = let clash : None ≡ Some (said.0 ++ codes "/*") = sym front ∙ rest_of range said in cc
    by_front (Some rest) front = by_cut rest front (cut_at 47 rest) refl
