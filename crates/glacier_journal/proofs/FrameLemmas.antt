-- A frame holds its payload.
use Rattle.std.specs.Prelude.{◌≡◌, ℕ, ◌+◌, ◌-◌, ◌≤◌, List, [], ◌∷◌, ◌++◌, length, take, drop, refl}
use Rattle.std.proofs.Common.{◌∙◌, ap, subst, sym, arith, length-append, append_assoc}
use Rattle.std.proofs.lemmas.List.{take_at, drop_at}
use Rattle.std.specs.Int.{w32, to_be_bytes}
use Rattle.glacier_journal.specs.Frames.{payload_in}
use Rattle.glacier_journal.specs.Listed.{sized, framed, most}

pub payload_in-framed : (payload : List ℕ) → payload_in (framed payload) ≡ payload
unfolding payload_in
payload_in-framed payload =
    let four : length (to_be_bytes w32 (length payload)) ≡ 4 = refl in
    let all : framed payload ≡ to_be_bytes w32 (length payload) ++ payload ++ 0 ∷ [] = refl in
    let size : length (framed payload) ≡ length payload + 5 =
    omega (arith, length-append (sized payload) (0 ∷ []), length-append (to_be_bytes w32 (length payload)) payload, four) in
    let count : length payload ≡ length (framed payload) - 5 = omega (arith, size) in
    let behind : drop 4 (framed payload) ≡ payload ++ 0 ∷ [] =
    ap (drop 4) (append_assoc (to_be_bytes w32 (length payload)) payload (0 ∷ []))
    ∙ drop_at (to_be_bytes w32 (length payload)) (payload ++ 0 ∷ []) 4 four in
    ap (λ (l : List ℕ). take (length (framed payload) - 5) l) behind
    ∙ take_at payload (0 ∷ []) (length (framed payload) - 5) count

-- bytes that frame a payload, and no other
pub frames : (bytes payload : List ℕ) → bytes ≡ framed payload → length payload ≤ most
    → (bytes ≡ framed (payload_in bytes)) × (length (payload_in bytes) ≤ most)
frames bytes payload is short =
    let held : payload_in bytes ≡ payload = ap payload_in is ∙ payload_in-framed payload in
    (is ∙ ap framed (sym held), subst (λ (l : List ℕ). length l ≤ most) (sym held) short)

pub framed_is : (bytes payload : List ℕ) → bytes ≡ framed payload → payload_in bytes ≡ payload
framed_is bytes payload is = ap payload_in is ∙ payload_in-framed payload
