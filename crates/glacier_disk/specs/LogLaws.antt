-- Laws of the log of calls.
use Rattle.std.specs.Prelude.{◌≡◌, ℕ, ◌+◌, ◌-◌, ◌≤◌, min, max, List, [], ◌∷◌, ◌++◌, length, take, drop, replicate, refl}
use Rattle.std.proofs.Common.{sym, ◌∙◌, ap, subst, arith, length-append, append_assoc, length-drop}
use Rattle.std.proofs.lemmas.List.{append-nil, take_all, take_min, take-append-le, drop_at, length-take, length-replicate}
use Rattle.glacier_disk.specs.declared.area.Area.{Area}
use Rattle.glacier_disk.specs.declared.area.Area.TheVariants.{Lead, Left, Right, Blobs}
use Rattle.glacier_disk.specs.declared.call.Call.{Call}
use Rattle.glacier_disk.specs.declared.call.Call.TheVariants.{Write, Cut, Sync}
use Rattle.glacier_disk.specs.Image.{Image, put, padded, TornWrite, TornCut, SameBut}
use Rattle.glacier_disk.specs.Log.{after_call, after_calls, left_by_call, left_by_calls, left_after, LeftSince, AreDiskCalls, Grows, with_area}

pub counts : (first : Image) (calls : List Call) (t : ℕ) (i : Image) → t ≤ length calls
    → left_after first calls i → LeftSince first calls t i
counts first calls t i le now = record {
  moment = length calls;
  late = le;
  passed = omega arith;
  left = subst (λ (cs : List Call). left_after first cs i) (sym (take_all (length calls) calls (omega arith))) now;
}

pub only : (first : Image) (calls : List Call) (i : Image) → LeftSince first calls (length calls) i
    → left_after first calls i
only first calls i since =
    subst (λ (cs : List Call). left_after first cs i) (take_all since.moment calls since.late) since.left

pub grows_self : (first : Image) (calls : List Call) → Grows first first calls calls
grows_self first calls = record { first = refl; more = []; calls = sym (append-nil calls); disk = tt }

disk_joined : (front back : List Call) → AreDiskCalls front → AreDiskCalls back → AreDiskCalls (front ++ back)
disk_joined [] back are also = also
disk_joined (call ∷ front) back are also = (are.0, disk_joined front back are.1 also)

pub grows_joins : {a b c : Image} {x y z : List Call} → Grows a b x y → Grows b c y z → Grows a c x z
grows_joins {x = x} first second = record {
  first = second.first ∙ first.first;
  more = first.more ++ second.more;
  calls = second.calls ∙ ap (λ (l : List Call). l ++ second.more) first.calls ∙ append_assoc x first.more second.more;
  disk = disk_joined first.more second.more first.disk second.disk;
}

pub grows_length : {a b : Image} {x y : List Call} → Grows a b x y → length x ≤ length y
grows_length {x = x} grows = omega (arith, ap length grows.calls, length-append x grows.more)

pub others_stay : (area : Area) (bytes : List ℕ) (image : Image) → SameBut area image (with_area area bytes image)
others_stay Lead bytes image Lead differs = absurd (differs refl)
others_stay Left bytes image Left differs = absurd (differs refl)
others_stay Right bytes image Right differs = absurd (differs refl)
others_stay Blobs bytes image Blobs differs = absurd (differs refl)
others_stay area bytes image other differs = refl

pub becomes : (area : Area) (bytes : List ℕ) (image : Image) → with_area area bytes image area ≡ bytes
becomes Lead bytes image = refl
becomes Left bytes image = refl
becomes Right bytes image = refl
becomes Blobs bytes image = refl

length-padded : (n : ℕ) (xs : List ℕ) → length (padded n xs) ≡ n
length-padded n xs = omega (arith, length-append (take n xs) (replicate (n - length xs) 0), length-take n xs, length-replicate {A = ℕ} (n - length xs) 0)

module _ (place : ℕ) (bytes xs : List ℕ) where
  front_length : length (padded place xs ++ bytes) ≡ place + length bytes
  front_length = omega (arith, length-append (padded place xs) bytes, length-padded place xs)

  pub length-put : length (put place bytes xs) ≡ max (length xs) (place + length bytes)
  length-put = omega (arith, length-append (padded place xs ++ bytes) (drop (place + length bytes) xs), front_length, length-drop (place + length bytes) xs)

  put_before : take (min place (length xs)) (put place bytes xs) ≡ take (min place (length xs)) xs
  put_before =
      let m = min place (length xs) in
      let len = length-take place xs in
      take-append-le m (padded place xs ++ bytes) (drop (place + length bytes) xs) (omega (arith, front_length))
      ∙ take-append-le m (padded place xs) bytes (omega (arith, length-padded place xs))
      ∙ take-append-le m (take place xs) (replicate (place - length xs) 0) (omega (arith, len))
      ∙ take_all m (take place xs) (omega (arith, len))
      ∙ sym (take_min place xs)

  put_after : drop (place + length bytes) (put place bytes xs) ≡ drop (place + length bytes) xs
  put_after = drop_at (padded place xs ++ bytes) (drop (place + length bytes) xs) (place + length bytes) front_length

pub put_torn : (area : Area) (place : ℕ) (bytes : List ℕ) (image : Image)
    → TornWrite area (min place (length (image area))) (place + length bytes) image (with_area area (put place bytes (image area)) image)
put_torn area place bytes image =
    let is = becomes area (put place bytes (image area)) image in
    let long = ap length is ∙ length-put place bytes (image area) in
    record {
      before = ap (λ (l : List ℕ). take (min place (length (image area))) l) is ∙ put_before place bytes (image area);
      after = ap (λ (l : List ℕ). drop (place + length bytes) l) is ∙ put_after place bytes (image area);
      no_shorter = omega (arith, long);
      no_longer = omega (arith, long);
      others = others_stay area _ image;
    }

pub cut_torn : (area : Area) (n : ℕ) (image : Image) → TornCut area n image (with_area area (take n (image area)) image)
cut_torn area n image =
    let is = becomes area (take n (image area)) image in
    let long = ap length is ∙ length-take n (image area) in
    record {
      front = ap (λ (l : List ℕ). take n l) is ∙ take_all n (take n (image area)) (omega (arith, length-take n (image area)));
      no_shorter = omega (arith, long);
      no_longer = omega (arith, long);
      others = others_stay area _ image;
    }

step_reads : (call : Call) (image : Image) (before : Image → Type 0) → before image
    → left_by_call call image before (after_call call image)
step_reads (Write area place bytes) image before is = (image, is, put_torn area place bytes image)
step_reads (Cut area n) image before is = (image, is, cut_torn area n image)
step_reads Sync image before is = refl
step_reads call image before is = is

reads_among : (calls : List Call) (image : Image) (before : Image → Type 0) → before image
    → left_by_calls calls image before (after_calls calls image)
reads_among [] image before is = is
reads_among (call ∷ calls) image before is = reads_among calls (after_call call image) (left_by_call call image before) (step_reads call image before is)

pub reads : (first : Image) (calls : List Call) → left_after first calls (after_calls calls first)
reads first calls = reads_among calls first (λ d. d ≡ first) refl

pub reads_at : (first now : Image) (calls : List Call) → now ≡ after_calls calls first → left_after first calls now
reads_at first now calls is = subst (λ (i : Image). left_after first calls i) (sym is) (reads first calls)
