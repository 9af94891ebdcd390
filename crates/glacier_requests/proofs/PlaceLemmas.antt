-- The places that paths name, back from what was found.
use Rattle.std.proofs.Common.{◌≡◌, ◌<◌, ◌^◌, ℕ, Bool, true, false, cond, ◌&&◌, eqb, List, [], ◌∷◌, Option, Some, None, refl, ap, sym, ◌∙◌, subst, arith}
use Rattle.std.specs.Prelude.{codes, bytes_eq, map, IfSome, option_map, option_and_then}
use Rattle.std.proofs.lemmas.Bool.Decides.{nat_tests}
use Rattle.std.proofs.lemmas.Slice.Eq.{bytes_eq-Decides}
use Rattle.glacier_base.specs.Digits.{decimals, number_of as twenty_digits}
use Rattle.glacier_base.specs.Ids.{id_text, letter_of, kind_of}
use Rattle.glacier_base.specs.declared.id.IdKind.{IdKind}
use Rattle.glacier_base.specs.declared.id.IdKind.TheVariants.{Archive, Upload as Uploading, Job, Lock}
use Rattle.glacier_base.proofs.DigitLemmas.{decimals-number_of}
use Rattle.glacier_base.proofs.IdLemmas.{letter_of-kind_of}
use Rattle.glacier_requests.specs.Ids.{is_of_kind, id_number}
use Rattle.glacier_requests.specs.Paths.{Piece, name, word, id, archives, uploads, jobs, lock_policy, row, piece_text, ArePieces}
use Rattle.glacier_requests.specs.Places.{method_of, op_at, id_kind_of, places_of, output_of, place_behind}
use Rattle.glacier_requests.specs.Routes.{op_on, number_of}
use Rattle.glacier_requests.specs.declared.places.Method.{Method}
use Rattle.glacier_requests.specs.declared.places.Method.TheVariants.{Get, Put, Post, Delete}
use Rattle.glacier_requests.specs.declared.places.Place.{Place}
use Rattle.glacier_requests.specs.declared.places.Place.TheVariants as at

-- what holds of the one that is chosen by its text
module _ {X : Type 0} (Holds : X → Type 0) (text : List ℕ) where
  first_or : (wanted : List ℕ) (x : X) (rest : Option X) → (text ≡ wanted → Holds x)
      → ((chosen : X) → rest ≡ Some chosen → Holds chosen)
      → (chosen : X) → cond (bytes_eq text wanted) (Some x) rest ≡ Some chosen → Holds chosen
  first_or wanted x rest here there chosen is = go (bytes_eq text wanted) refl is
    where
      go : (t : Bool) → bytes_eq text wanted ≡ t → cond t (Some x) rest ≡ Some chosen → Holds chosen
      go true e is = let same : x ≡ chosen = cc in subst Holds same (here ((bytes_eq-Decides text wanted).0 e))
      go false e is = there chosen is

  nothing : (chosen : X) → None ≡ Some chosen → Holds chosen
  nothing chosen is = cc

abbrev pub method_text : Method → List ℕ
method_text Get = codes "GET"
method_text Put = codes "PUT"
method_text Post = codes "POST"
method_text Delete = codes "DELETE"

pub text_of_method : (text : List ℕ) (method : Method) → method_of text ≡ Some method → text ≡ method_text method
text_of_method text =
    let Holds : Method → Type 0 = λ method. text ≡ method_text method in
    first_or Holds text (codes "GET") Get _ (λ e. e)
    (first_or Holds text (codes "PUT") Put _ (λ e. e)
    (first_or Holds text (codes "POST") Post _ (λ e. e)
    (first_or Holds text (codes "DELETE") Delete _ (λ e. e)
    (nothing Holds text))))

-- the pieces behind a vault's name, by the place and the text of an id
abbrev pub place_words : Place → List ℕ → List (List ℕ)
place_words at.Vault text = []
place_words at.Archives text = codes "archives" ∷ []
place_words at.Archive text = codes "archives" ∷ text ∷ []
place_words at.Uploads text = codes "multipart-uploads" ∷ []
place_words at.Upload text = codes "multipart-uploads" ∷ text ∷ []
place_words at.Jobs text = codes "jobs" ∷ []
place_words at.Job text = codes "jobs" ∷ text ∷ []
place_words at.Output text = codes "jobs" ∷ text ∷ codes "output" ∷ []
place_words at.LockPolicy text = codes "lock-policy" ∷ []
place_words at.Lock text = codes "lock-policy" ∷ text ∷ []

word_places : (one : List ℕ) (places : Place × Place) → places_of one ≡ Some places
    → (one ∷ [] ≡ place_words places.0 []) × ((text : List ℕ) → one ∷ text ∷ [] ≡ place_words places.1 text)
word_places one =
    let Holds : Place × Place → Type 0 =
    λ places. (one ∷ [] ≡ place_words places.0 []) × ((text : List ℕ) → one ∷ text ∷ [] ≡ place_words places.1 text) in
    first_or Holds one (codes "archives") (at.Archives, at.Archive) _
    (λ e. (ap (λ w. w ∷ []) e, λ text. ap (λ w. w ∷ text ∷ []) e))
    (first_or Holds one (codes "multipart-uploads") (at.Uploads, at.Upload) _
    (λ e. (ap (λ w. w ∷ []) e, λ text. ap (λ w. w ∷ text ∷ []) e))
    (first_or Holds one (codes "jobs") (at.Jobs, at.Job) _ (λ e. (ap (λ w. w ∷ []) e, λ text. ap (λ w. w ∷ text ∷ []) e))
    (first_or Holds one (codes "lock-policy") (at.LockPolicy, at.Lock) _
    (λ e. (ap (λ w. w ∷ []) e, λ text. ap (λ w. w ∷ text ∷ []) e))
    (nothing Holds one))))

output_words : (one text last : List ℕ) (place : Place) → output_of one last ≡ Some place
    → one ∷ text ∷ last ∷ [] ≡ place_words place text
output_words one text last place is = go (bytes_eq one (codes "jobs")) refl (bytes_eq last (codes "output")) refl is
  where
    go : (t : Bool) → bytes_eq one (codes "jobs") ≡ t → (u : Bool) → bytes_eq last (codes "output") ≡ u
        → cond (t && u) (Some at.Output) None ≡ Some place → one ∷ text ∷ last ∷ [] ≡ place_words place text
    go false e u f is = cc
    go true e false f is = cc
    go true e true f is =
        let same : at.Output ≡ place = cc in
        ap (λ w. w ∷ text ∷ last ∷ []) ((bytes_eq-Decides one (codes "jobs")).0 e)
        ∙ ap (λ l. codes "jobs" ∷ text ∷ l ∷ []) ((bytes_eq-Decides last (codes "output")).0 f)
        ∙ ap (λ p. place_words p text) same

-- the pieces that a place was found behind a name are its words
pub words_of_place : (behind : List (List ℕ)) (spot : Place × List ℕ) → place_behind behind ≡ Some spot
    → behind ≡ place_words spot.0 spot.1
words_of_place behind spot is = go behind is
  where
    here : (ws : List (List ℕ)) (found : Place × List ℕ) → ws ≡ place_words found.0 found.1 → Some found ≡ Some spot
        → ws ≡ place_words spot.0 spot.1
    here ws found words is =
        let same : found ≡ spot = cc in
        words ∙ ap (λ (s : Place × List ℕ). place_words s.0 s.1) same

    alone : (one : List ℕ) (places : Option (Place × Place)) → places_of one ≡ places
        → option_map (λ places. (places.0, [])) places ≡ Some spot → one ∷ [] ≡ place_words spot.0 spot.1
    alone one None p is = cc
    alone one (Some places) p is = here (one ∷ []) (places.0, []) (word_places one places p).0 is

    with_id : (one text : List ℕ) (places : Option (Place × Place)) → places_of one ≡ places
        → option_map (λ places. (places.1, text)) places ≡ Some spot → one ∷ text ∷ [] ≡ place_words spot.0 spot.1
    with_id one text None p is = cc
    with_id one text (Some places) p is = here (one ∷ text ∷ []) (places.1, text) ((word_places one places p).1 text) is

    with_last : (one text last : List ℕ) (place : Option Place) → output_of one last ≡ place
        → option_map (λ place. (place, text)) place ≡ Some spot → one ∷ text ∷ last ∷ [] ≡ place_words spot.0 spot.1
    with_last one text last None p is = cc
    with_last one text last (Some place) p is =
        here (one ∷ text ∷ last ∷ []) (place, text) (output_words one text last place p) is

    go : (ws : List (List ℕ)) → place_behind ws ≡ Some spot → ws ≡ place_words spot.0 spot.1
    go [] is = here [] (at.Vault, []) refl is
    go (one ∷ []) is = alone one (places_of one) refl is
    go (one ∷ text ∷ []) is = with_id one text (places_of one) refl is
    go (one ∷ text ∷ last ∷ []) is = with_last one text last (output_of one last) refl is
    go (one ∷ text ∷ last ∷ more ∷ rest) is = cc

number_fits : (digits : List ℕ) (n : ℕ) → twenty_digits 20 digits ≡ Some n → n < 2 ^ 64
number_fits digits n h = grind (arith, nat_tests)

-- the text that gives the number of an id is the id's
text_of_number : (kind : IdKind) (text : List ℕ) (number : ℕ) → id_number kind text ≡ Some number
    → (text ≡ id_text (record { kind = kind; number = number })) × (number < 2 ^ 64)
text_of_number kind [] number is = cc
text_of_number kind (letter ∷ digits) number is = by_kind (kind_of letter) refl is
  where
    Told : Type 0
    Told = (letter ∷ digits ≡ id_text (record { kind = kind; number = number })) × (number < 2 ^ 64)

    by_test : (k : IdKind) → kind_of letter ≡ Some k → (n : ℕ) → twenty_digits 20 digits ≡ Some n
        → (t : Bool) → eqb (letter_of k) (letter_of kind) ≡ t → cond t (Some n) None ≡ Some number → Told
    by_test k l n d false e is = cc
    by_test k l n d true e is =
        let same : n ≡ number = cc in
        let one : letter_of k ≡ letter_of kind = grind (arith, nat_tests) in
        subst (λ m. (letter ∷ digits ≡ letter_of kind ∷ decimals 20 m) × (m < 2 ^ 64)) same (
          ap (λ b. b ∷ digits) (sym (letter_of-kind_of letter k l) ∙ one)
              ∙ ap (λ ds. letter_of kind ∷ ds) (sym (decimals-number_of 20 digits n d)),
          number_fits digits n d,
        )

    by_digits : (k : IdKind) → kind_of letter ≡ Some k → (n : Option ℕ) → twenty_digits 20 digits ≡ n
        → option_and_then (λ id. cond (is_of_kind kind id) (Some id.number) None)
        (option_map (λ number. record { kind = k; number = number }) n) ≡ Some number → Told
    by_digits k l None d is = cc
    by_digits k l (Some n) d is = by_test k l n d (eqb (letter_of k) (letter_of kind)) refl is

    by_kind : (k : Option IdKind) → kind_of letter ≡ k
        → option_and_then (λ id. cond (is_of_kind kind id) (Some id.number) None)
        (option_and_then (λ k. option_map (λ number. record { kind = k; number = number }) (twenty_digits 20 digits)) k)
        ≡ Some number → Told
    by_kind None l is = cc
    by_kind (Some k) l is = by_digits k l (twenty_digits 20 digits) refl is

-- the pieces behind a vault's name, by the place and the number of an id
abbrev pub place_pieces : Place → ℕ → List Piece
place_pieces at.Vault number = []
place_pieces at.Archives number = archives ∷ []
place_pieces at.Archive number = archives ∷ id Archive number ∷ []
place_pieces at.Uploads number = uploads ∷ []
place_pieces at.Upload number = uploads ∷ id Uploading number ∷ []
place_pieces at.Jobs number = jobs ∷ []
place_pieces at.Job number = jobs ∷ id Job number ∷ []
place_pieces at.Output number = jobs ∷ id Job number ∷ word (codes "output") ∷ []
place_pieces at.LockPolicy number = lock_policy ∷ []
place_pieces at.Lock number = lock_policy ∷ id Lock number ∷ []

-- the words of a place are its pieces, where the id has this number
pub pieces_of_words : (place : Place) (text : List ℕ) (number : ℕ) → number_of (id_kind_of place) text ≡ Some number
    → (place_words place text ≡ map piece_text (place_pieces place number)) × ArePieces (place_pieces place number)
pieces_of_words at.Vault text number is = (refl, tt)
pieces_of_words at.Archives text number is = (refl, (tt, tt))
pieces_of_words at.Archive text number is =
    let told = text_of_number Archive text number is in
    (ap (λ t. codes "archives" ∷ t ∷ []) told.0, (tt, (told.1, tt)))
pieces_of_words at.Uploads text number is = (refl, (tt, tt))
pieces_of_words at.Upload text number is =
    let told = text_of_number Uploading text number is in
    (ap (λ t. codes "multipart-uploads" ∷ t ∷ []) told.0, (tt, (told.1, tt)))
pieces_of_words at.Jobs text number is = (refl, (tt, tt))
pieces_of_words at.Job text number is =
    let told = text_of_number Job text number is in
    (ap (λ t. codes "jobs" ∷ t ∷ []) told.0, (tt, (told.1, tt)))
pieces_of_words at.Output text number is =
    let told = text_of_number Job text number is in
    (ap (λ t. codes "jobs" ∷ t ∷ codes "output" ∷ []) told.0, (tt, (told.1, (tt, tt))))
pieces_of_words at.LockPolicy text number is = (refl, (tt, tt))
pieces_of_words at.Lock text number is =
    let told = text_of_number Lock text number is in
    (ap (λ t. codes "lock-policy" ∷ t ∷ []) told.0, (tt, (told.1, tt)))

-- the row of what a method does at a place
pub row_at : (method : Method) (place : Place)
    → IfSome (op_at method place) (λ op. (vault : List ℕ) (number : ℕ)
    → row (op_on op vault number) ≡ (method_text method, name vault ∷ place_pieces place number))
row_at Put at.Vault = λ vault number. refl
row_at Get at.Vault = λ vault number. refl
row_at Delete at.Vault = λ vault number. refl
row_at Post at.Archives = λ vault number. refl
row_at Delete at.Archive = λ vault number. refl
row_at Post at.Uploads = λ vault number. refl
row_at Get at.Uploads = λ vault number. refl
row_at Put at.Upload = λ vault number. refl
row_at Get at.Upload = λ vault number. refl
row_at Post at.Upload = λ vault number. refl
row_at Delete at.Upload = λ vault number. refl
row_at Post at.Jobs = λ vault number. refl
row_at Get at.Jobs = λ vault number. refl
row_at Get at.Job = λ vault number. refl
row_at Get at.Output = λ vault number. refl
row_at Post at.LockPolicy = λ vault number. refl
row_at Get at.LockPolicy = λ vault number. refl
row_at Post at.Lock = λ vault number. refl
row_at Delete at.LockPolicy = λ vault number. refl
row_at _ _ = tt
