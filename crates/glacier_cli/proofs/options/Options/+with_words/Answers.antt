use Rattle.std.proofs.Common.{◌≡◌, ◌∙◌, sym, subst, map, List, ℕ, true, false, String, Global}
use Rattle.std.specs.Prelude.{string_bytes, option_map, bytes_eq, codes}
use Rattle.glacier_cli.specs.Options.{options_of, said_by}
use Rattle.glacier_cli.proofs.OptionLemmas.{behind_new, behind_value, whole_rest}
use Rattle.glacier_cli.proofs.options.Options.+with_words.Goals as goal

pub returns-in_ok-with_new-in-len1-up : goal.returns-in_ok-with_new-in-len1-up
returns-in_ok-with_new-in-len1-up t c =
    let words = c.args.words.now in
    let said = said_by c.args.self.now in
    let next = said_by c.in_ok-with_new-in-len1-up.field-0 in
    let rest = subst (λ (l : List (String Global)). option_map said_by c.with_words.result ≡ options_of (map string_bytes l) next) (whole_rest 1 words) c.with_words.ensures in
    let test : bytes_eq (string_bytes c.name-item.result) (codes "--new") ≡ true =
    subst (λ (l : List ℕ). bytes_eq l (codes "--new") ≡ true) c.as_str.ensures.value (sym c.if-eq.ensures) in
    rest ∙ behind_new string_bytes said next words c.name-item.result c.in-len1-up.len_at_least c.name-item.is test c.in_ok-with_new-in-len1-up.ensures

pub returns-in_ok-with_value-in-len2-up : goal.returns-in_ok-with_value-in-len2-up
returns-in_ok-with_value-in-len2-up t c =
    let words = c.args.words.now in
    let said = said_by c.args.self.now in
    let next = said_by c.in_ok-with_value-in-len2-up.field-0 in
    let rest = subst (λ (l : List (String Global)). option_map said_by c.with_words-in-len2-up.result ≡ options_of (map string_bytes l) next) (whole_rest 2 words) c.with_words-in-len2-up.ensures in
    let test : bytes_eq (string_bytes c.name-item.result) (codes "--new") ≡ false =
    subst (λ (l : List ℕ). bytes_eq l (codes "--new") ≡ false) c.as_str.ensures.value (sym c.if-eq.ensures) in
    let is = rw (c.deref.ensures, c.deref-in-len2-up.ensures) at c.in_ok-with_value-in-len2-up.ensures in
    rest ∙ behind_value string_bytes said next words c.name-item.result c.name-item-2.result c.value-item.result c.in-len2-up.len_at_least c.name-item.is test
    c.name-item-2.is c.value-item.is is
