-- Bytes of a blob, read from the block at their place.
use Rattle.std.proofs.Common.{◌≡◌, ℕ, suc, ◌+◌, ◌-◌, ◌*◌, ◌/◌, ◌%◌, ◌<◌, ◌≤◌, min, get_or, List, [], ◌∷◌, ◌++◌, length, take, drop, replicate, refl, sym, ◌∙◌, ap, ap₂, subst, inl, inr, arith}
use Rattle.std.proofs.lemmas.Bool.Decides.{leb_tells}
use Rattle.std.proofs.lemmas.List.{take_at, drop_at, take-append-le, length-take-le, take-take, drop-take, drop-drop, length-take, length-drop, length-append, append-nil, drop_more}
use Rattle.std.proofs.Math.Seq.{take-length}
use Rattle.std.proofs.Math.ListN.{drop_of_length-le}
use borrow.Rule.Slice.PartMut.{put_mid}
use Rattle.std.proofs.lemmas.Slice.{take-put_mid}
use Rattle.glacier_treehash.proofs.LeavesLemmas.{take_further}
use Rattle.glacier_disk.specs.Image.{window}
use Rattle.glacier_disk.specs.Told.{Told}
use Rattle.glacier_disk.specs.Calls.{Rests}
use Rattle.glacier_extents.specs.declared.run.Run.{Run}
use Rattle.glacier_extents.specs.Places.{block_size, HasAt}
use Rattle.glacier_extents.specs.Runs.{block_count, block_at}
use Rattle.std.specs.Prelude.{Some, unwrap_or}
use Rattle.glacier_bodies.specs.BlobAreas.{runs_of}
use Rattle.glacier_bodies.specs.Blobs.{Holds}
use Rattle.glacier_bodies.specs.Stands.{Layouts, at_blob}

-- one call that only looks after another
pub rests_start : (old : Told) → Rests old old
rests_start old = record { same = refl; crash = λ i now. now; later = omega arith; nothing_else = λ t i le left. left; keeps = λ t i le left. left }

pub rests_on : (old mid new : Told) → Rests old mid → Rests mid new → Rests old new
rests_on old mid new first second = record {
  same = second.same ∙ first.same;
  crash = λ i now. first.crash i (second.crash i now);
  later = omega (arith, first.later, second.later);
  nothing_else = λ t i le left. first.nothing_else t i le (second.nothing_else t i (omega (arith, le, first.later)) left);
  keeps = λ t i le left. second.keeps t i (omega (arith, le, first.later)) (first.keeps t i le left);
}

-- a part of bytes that stand at a place
pub window_at : (place skip n : ℕ) (bytes content : List ℕ) → HasAt place bytes content → skip + n ≤ length bytes
    → window content (place + skip) n ≡ take n (drop skip bytes)
window_at place skip n bytes content has within =
    let m : ℕ = length bytes in
    let rest : List ℕ = drop place content in
    let further : drop (place + skip) content ≡ drop skip rest = sym (drop-drop skip place content) in
    let sum : skip + (m - skip) ≡ m = omega (arith, within) in
    let part : drop skip bytes ≡ take (m - skip) (drop skip rest) = ap (drop skip) (sym has) ∙ ap (λ k. drop skip (take k rest)) (sym sum) ∙ drop-take skip (m - skip) rest in
    let same : take n (drop skip bytes) ≡ take n (drop skip rest) = ap (take n) part ∙ take-take n (m - skip) (drop skip rest) (omega (arith, within)) in
    let long : length (drop skip bytes) ≡ m - skip = length-drop skip bytes in
    let enough : n - length (drop skip rest) ≡ 0 = omega (arith, long, ap length part, length-take (m - skip) (drop skip rest), within) in
    ap (λ xs. window_of xs n) further ∙ ap (λ k. take n (drop skip rest) ++ replicate k 0) enough
    ∙ append-nil (take n (drop skip rest)) ∙ sym same
  where
    window_of : List ℕ → ℕ → List ℕ
    window_of xs n = take n xs ++ replicate (n - length xs) 0

-- a part of a block
pub read_part : (runs : List Run) (place n : ℕ) (bytes content : List ℕ) → Holds runs bytes content
    → place / block_size < block_count runs → place % block_size + n ≤ block_size
    → place + n ≤ length bytes
    → window content (block_at runs (place / block_size) * block_size + place % block_size) n ≡ take n (drop place bytes)
read_part [] place n bytes content held inside small within = absurd (omega arith)
read_part (run ∷ runs) place n bytes content held inside small within =
    let size : ℕ = run.count * block_size in
    let k : ℕ = place / block_size in
    elim (leb_tells (suc k) run.count) [
      | inl low ↦ (let here : block_at (run ∷ runs) k ≡ run.first + k = grind (arith, low.0) in
          let there : block_at (run ∷ runs) k * block_size + place % block_size ≡ run.first * block_size + place = omega (arith, here) in
          let fits : place + n ≤ size = omega (arith, low.1, small) in
          let long : place + n ≤ length (take size bytes) = omega (arith, length-take size bytes, fits, within) in
          let sum : place + (size - place) ≡ size = omega (arith, fits) in
          let part : take n (drop place (take size bytes)) ≡ take n (drop place bytes) =
          ap (λ m. take n (drop place (take m bytes))) (sym sum) ∙ ap (take n) (drop-take place (size - place) bytes) ∙ take-take n (size - place) (drop place bytes) (omega (arith, fits)) in
          ap (λ p. window content p n) there
          ∙ window_at (run.first * block_size) place n (take size bytes) content held.0 long ∙ part)
      | inr high ↦ (let here : block_at (run ∷ runs) k ≡ block_at runs (k - run.count) = grind (arith, high.0) in
          let next : (place - size) / block_size ≡ k - run.count = omega (arith, high.1) in
          let same : (place - size) % block_size ≡ place % block_size = omega (arith, high.1) in
          let sum : size + (place - size) ≡ place = omega (arith, high.1) in
          let there : block_at (run ∷ runs) k * block_size + place % block_size ≡ block_at runs ((place - size) / block_size) * block_size + (place - size) % block_size =
          omega (arith, here, ap (block_at runs) next, same) in
          let rest = read_part runs (place - size) n (drop size bytes) content held.1 (omega (arith, next, high.1)) (omega (arith, same, small)) (omega (arith, length-drop size bytes, sum, within)) in
          ap (λ p. window content p n) there ∙ rest
          ∙ ap (take n) (drop-drop (place - size) size bytes ∙ ap (λ p. drop p bytes) sum))
    ]

-- a list after a write to a part of it
pub length-put_mid : (a k : ℕ) (xs ys : List ℕ) → length ys ≡ k → a + k ≤ length xs
    → length (put_mid a k xs ys) ≡ length xs
length-put_mid a k xs ys size within =
    omega (arith, length-append (take a xs) (ys ++ drop k (drop a xs)), length-append ys (drop k (drop a xs)), length-take a xs, length-drop k (drop a xs), length-drop a xs, size, within)

-- the next part of a blob, behind those that were read
pub read_more : (runs : List Run) (at done n m k block place skip : ℕ) (bytes content before piece after : List ℕ)
    → Holds runs bytes content → place ≡ at + done → skip ≡ place % block_size
    → block ≡ block_at runs (place / block_size) → place / block_size < block_count runs → skip + n ≤ block_size
    → place + n ≤ length bytes
    → piece ≡ window content (block * block_size + skip) m → m ≡ n → done ≤ length before
    → after ≡ put_mid done k before piece
    → take done before ≡ take done (drop at bytes) → take (done + n) after ≡ take (done + n) (drop at bytes)
read_more runs at done n m k block place skip bytes content before piece after held is skips found inside small within read size room put front =
    let there : block * block_size + skip ≡ block_at runs (place / block_size) * block_size + place % block_size = omega (arith, found, skips) in
    let part : piece ≡ take n (drop place bytes) =
    read ∙ ap (λ p. window content p m) there
    ∙ ap (window content (block_at runs (place / block_size) * block_size + place % block_size)) size
    ∙ read_part runs place n bytes content held inside (omega (arith, small, skips)) within in
    let long : length piece ≡ n = omega (arith, ap length part, length-take n (drop place bytes), length-drop place bytes, within) in
    let next : drop done (drop at bytes) ≡ drop place bytes = drop-drop done at bytes ∙ ap (λ p. drop p bytes) (sym is) in
    let cut : take (done + n) (drop at bytes) ≡ take done (drop at bytes) ++ take n (drop done (drop at bytes)) = sym (take_further done n (drop at bytes)) in
    ap (take (done + n)) put ∙ take-put_mid done k before piece (done + n) (omega (arith, long)) room
    ∙ ap₂ (λ (xs ys : List ℕ). xs ++ ys) front (part ∙ ap (take n) (sym next)) ∙ sym cut

-- so much was read, and the rest of the blobs has what comes next, from a place on
pub record IsAt (at skip done : ℕ) (into : List ℕ) (rest : List Run) (bytes content : List ℕ) : Type 0 where
  pub front : take done into ≡ take done (drop at bytes)
  pub next : done < length into
      → (consumed : ℕ) × (at + done ≡ consumed + skip) × Holds rest (drop consumed bytes) content

-- what some runs have of what is held, and what the others have
pub holds_split : (xs ys : List Run) (bytes content : List ℕ) → Holds (xs ++ ys) bytes content
    → Holds xs (take (block_count xs * block_size) bytes) content × Holds ys (drop (block_count xs * block_size) bytes) content
holds_split [] ys bytes content held = (refl, held)
holds_split (run ∷ xs) ys bytes content held =
    let n : ℕ = run.count * block_size in
    let m : ℕ = block_count xs * block_size in
    let sum : (run.count + block_count xs) * block_size ≡ n + m = omega arith in
    let rest = holds_split xs ys (drop n bytes) content held.1 in
    let front : take n (take (n + m) bytes) ≡ take n bytes = take-take n (n + m) bytes (omega arith) in
    let back : drop n (take (n + m) bytes) ≡ take m (drop n bytes) = drop-take n m bytes in
    let behind : drop m (drop n bytes) ≡ drop (n + m) bytes = drop-drop m n bytes in
    ((rw (sum, front) held.0, rw (sum, back) rest.0), rw (sum, ← behind) rest.1)

-- a list with a part of it written over, up to a place within that part
put_front : (done n k : ℕ) (into piece : List ℕ) → done ≤ length into → n ≤ length piece
    → take (done + n) (put_mid done k into piece) ≡ take done into ++ take n piece
put_front done n k into piece room within =
    let front : List ℕ = take done into in
    let rest : List ℕ = drop k (drop done into) in
    let size : length front ≡ done = length-take-le done into room in
    sym (take_further done n (put_mid done k into piece))
    ∙ ap₂ (λ (xs ys : List ℕ). xs ++ ys) (take_at front (piece ++ rest) done size)
    (ap (take n) (drop_at front (piece ++ rest) done size) ∙ take-append-le n piece rest within)

-- The front of a blob, read behind what was read before; what lies behind its blocks is the next blobs'.
module _ (at skip done n k : ℕ) (into piece after : List ℕ) (runs rest : List Run) (bytes content : List ℕ)
    (is : IsAt at skip done into (runs ++ rest) bytes content) (less : done < length into)
    (small : n ≡ min (length into - done) (block_count runs * block_size - skip)) (within : at + length into ≤ length bytes)
    (read : (bs : List ℕ) → Holds runs bs content → skip + n ≤ length bs → take n piece ≡ take n (drop skip bs)) where
  abbrev size : ℕ
  size = block_count runs * block_size

  abbrev here : (consumed : ℕ) × (at + done ≡ consumed + skip) × Holds (runs ++ rest) (drop consumed bytes) content
  here = is.next less

  both : Holds runs (take size (drop here.0 bytes)) content × Holds rest (drop size (drop here.0 bytes)) content
  both = holds_split runs rest (drop here.0 bytes) content here.2

  part : take n piece ≡ take n (drop done (drop at bytes))
  part = elim (leb_tells (suc skip) size) [
    | inl inside ↦ (let behind : List ℕ = drop here.0 bytes in
        let mine : List ℕ = take size behind in
        let long : skip + n ≤ length mine = omega (arith, length-take size behind, length-drop here.0 bytes, here.1, small, inside.1, within) in
        let sum : skip + (size - skip) ≡ size = omega (arith, inside.1) in
        let cut : drop skip mine ≡ take (size - skip) (drop skip behind) = ap (λ j. drop skip (take j behind)) (sym sum) ∙ drop-take skip (size - skip) behind in
        let place : drop skip behind ≡ drop done (drop at bytes) =
        drop-drop skip here.0 bytes ∙ ap (λ p. drop p bytes) (sym here.1) ∙ sym (drop-drop done at bytes) in
        read mine both.0 long ∙ ap (take n) cut ∙ take-take n (size - skip) (drop skip behind) (omega (arith, small)) ∙ ap (take n) place)
    | inr past ↦ (let none : n ≡ 0 = omega (arith, small, past.1) in
        ap (λ m. take m piece) none ∙ sym (ap (λ m. take m (drop done (drop at bytes))) none))
  ]

  pub front_on : length piece ≡ length into - done → length after ≡ length into → after ≡ put_mid done k into piece
      → IsAt at (skip - size) (done + n) after rest bytes content
  front_on long same put = record {
    front = ap (take (done + n)) put ∙ put_front done n k into piece (omega (arith, less)) (omega (arith, long, small))
        ∙ ap₂ (λ (xs ys : List ℕ). xs ++ ys) is.front part ∙ take_further done n (drop at bytes);
    next = λ more. (here.0 + size, omega (arith, here.1, small, same, more), subst (λ (bs : List ℕ). Holds rest bs content) (drop-drop size here.0 bytes) both.1);
  }

-- the runs of the blobs from one on
pub runs_step : (blobs : Layouts) (account numbers : List ℕ) (i number : ℕ) → i < length numbers
    → number ≡ get_or numbers i 0
    → runs_of blobs account (drop i numbers) ≡ unwrap_or (at_blob blobs account number) [] ++ runs_of blobs account (drop (i + 1) numbers)
runs_step blobs account numbers i number inside is =
    ap (runs_of blobs account) (drop_more numbers i 0 inside)
    ∙ ap (λ n. unwrap_or (at_blob blobs account n) [] ++ runs_of blobs account (drop (i + 1) numbers)) (sym is)

-- those of a blob that is there, and of the blobs behind it
pub blob_runs : (blobs : Layouts) (account numbers : List ℕ) (i : ℕ) (runs : List Run) → i < length numbers
    → Some runs ≡ at_blob blobs account (get_or numbers i 0)
    → runs_of blobs account (drop i numbers) ≡ runs ++ runs_of blobs account (drop (i + 1) numbers)
blob_runs blobs account numbers i runs inside there =
    runs_step blobs account numbers i (get_or numbers i 0) inside refl
    ∙ ap (λ r. unwrap_or r [] ++ runs_of blobs account (drop (i + 1) numbers)) (sym there)

-- no blobs are left: all that was asked for was read
pub read_all : (blobs : Layouts) (account numbers : List ℕ) (at skip done : ℕ) (into bytes content : List ℕ) (i : ℕ)
    → length numbers ≤ i → done ≤ length into → at + length into ≤ length bytes
    → IsAt at skip done into (runs_of blobs account (drop i numbers)) bytes content
    → into ≡ take (length into) (drop at bytes)
read_all blobs account numbers at skip done into bytes content i past room within is =
    let none : drop i numbers ≡ [] = drop_of_length-le numbers past in
    let all : done ≡ length into = elim (leb_tells (suc done) (length into)) [
      | inl less ↦ (let next = is.next less.1 in
          let left : drop next.0 bytes ≡ [] = subst (λ (ns : List ℕ). Holds (runs_of blobs account ns) (drop next.0 bytes) content) none next.2 in
          absurd (omega (arith, less.1, next.1, within, ap length left, length-drop next.0 bytes)))
      | inr same ↦ omega (arith, same.1, room)
    ] in
    sym (take-length into) ∙ ap (λ n. take n into) (sym all) ∙ is.front ∙ ap (λ n. take n (drop at bytes)) all
