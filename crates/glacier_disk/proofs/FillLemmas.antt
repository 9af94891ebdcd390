-- A place that is filled piece by piece.
use Rattle.std.proofs.Common.{◌≡◌, ℕ, ◌+◌, ◌≤◌, List, ◌++◌, length, take, drop, sym, ◌∙◌, ap, subst, arith}
use Rattle.std.proofs.lemmas.List.{drop-drop, length-take, take-append-drop, take-append-le}
use Rattle.std.proofs.Math.Seq.{take-append-add}

-- the first part of a list, and what follows it
take_joined : (front back : List ℕ) (n count : ℕ) → length front ≡ n
    → take (n + count) (front ++ back) ≡ front ++ take count back
take_joined front back n count is = subst (λ (k : ℕ). take (k + count) (front ++ back) ≡ front ++ take count back) is (take-append-add front back count)

-- the first bytes of a content from a place on, and a piece more
pub piece_more : (content into piece post : List ℕ) (at done count : ℕ) → done ≤ length into
    → done ≤ length (drop at content) → take done into ≡ take done (drop at content) → count ≤ length piece
    → take count piece ≡ take count (drop (at + done) content)
    → take (done + count) (take done into ++ (piece ++ post)) ≡ take (done + count) (drop at content)
piece_more content into piece post at done count within inside bytes fits next =
    let rest = drop at content in
    let long : length (take done into) ≡ done = omega (arith, length-take done into) in
    let long_rest : length (take done rest) ≡ done = omega (arith, length-take done rest) in
    take_joined (take done into) (piece ++ post) done count long
    ∙ ap (λ (l : List ℕ). take done into ++ l) (take-append-le count piece post fits ∙ next ∙ ap (take count) (sym (drop-drop done at content)))
    ∙ ap (λ (l : List ℕ). l ++ take count (drop done rest)) bytes
    ∙ sym (take_joined (take done rest) (drop done rest) done count long_rest)
    ∙ ap (take (done + count)) (take-append-drop done rest)
