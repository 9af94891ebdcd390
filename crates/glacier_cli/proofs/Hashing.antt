-- How a content is hashed, of which one buffer is read at a time.
use Rattle.std.proofs.Common.{◌≡◌, ◌≤◌, ◌<◌, ◌+◌, ◌%◌, ◌++◌, ◌∙◌, ℕ, zero, suc, Bool, IsTrue, true, List, [], length, take, Option, Ok, ap, sym, arith, append_assoc, append-nil, take_all}
use Rattle.glacier_base.specs.ToldFiles.{ToldFiles}
use Rattle.glacier_base.specs.declared.files.TheConstants.{MOST_READ}
use Rattle.glacier_treehash.specs.Hasher.{HasTaken, Takes, fed_length}
use Rattle.glacier_treehash.specs.Tree.{mib, tree_hash_of}
use Rattle.glacier_treehash.specs.declared.hasher.TreeHasher.{TreeHasher}
use Rattle.glacier_cli.specs.Filling.{Fills, FillCall}
use Rattle.glacier_cli.proofs.Filled.{whole_more}

-- whole leaves of a content were fed, and the next so many bytes of it stand in a buffer: all the rest, where they don't fill it
pub record IsHashing (tells : Bool) (start now : ToldFiles) (hasher : TreeHasher) (buffer : List ℕ) (count : ℕ) : Type 0 where
  pub opened : now.is_open ≡ true
  pub bound : count ≤ length buffer
  pub whole : fed_length hasher % mib ≡ 0
  pub total : fed_length hasher + count ≡ now.given
  pub room : fed_length hasher + count ≤ MOST_READ
  pub fed : IsTrue tells → (fed : List ℕ) × HasTaken hasher fed × (start.rest ≡ fed ++ (take count buffer ++ now.rest))
  pub end : IsTrue tells → count < length buffer → now.rest ≡ []
  pub content : IsTrue tells → (key : Option (List ℕ)) → now.content key ≡ start.content key
  pub names : IsTrue tells → now.names ≡ start.names
  pub faults : now.faults ≡ start.faults

-- what was given so far is bounded, where it is more than what was given before or that was
bounded : (fed count given most : ℕ) → fed ≤ most → fed + count ≡ given → (0 < count → given ≤ most) → fed + count ≤ most
bounded fed zero given most few total more = omega arith
bounded fed (suc count) given most few total more = let le = more (omega arith) in omega (arith, le, total)

-- the first buffer is filled
pub hashing_begins : {E : Type 0} {tells : Bool} {start now : ToldFiles} {hasher : TreeHasher} {buffer : List ℕ} {count : ℕ}
    → start.given ≡ 0 → fed_length hasher ≡ 0 → HasTaken hasher [] → count ≤ length buffer
    → (IsTrue tells → Fills {E = E} buffer start now (Ok count)) → FillCall {E = E} start now (Ok count)
    → IsHashing tells start now hasher buffer count
hashing_begins {now = now} {hasher = hasher} {count = count} none new taken bound fills call =
    let total : fed_length hasher + count ≡ now.given = rw (new, call.given, none) (omega arith) in
    record {
      opened = call.opened;
      bound = bound;
      whole = rw new (omega arith);
      total = total;
      room = bounded (fed_length hasher) count now.given MOST_READ (rw new (omega arith)) total call.most;
      fed = λ t. ([], taken, (fills t).taken);
      end = λ t. (fills t).end;
      content = λ t. (fills t).content;
      names = λ t. (fills t).names;
      faults = call.cause.ok;
    }

-- a full buffer is fed, and the other one filled
pub hashing_goes_on : {E : Type 0} {tells : Bool} {start old now : ToldFiles} {before after : TreeHasher} {full next : List ℕ} {filled count : ℕ}
    → IsHashing tells start old before full filled → length full ≤ filled → length full % mib ≡ 0
    → fed_length after ≡ fed_length before + length full → Takes before after full → count ≤ length next
    → (IsTrue tells → Fills {E = E} next old now (Ok count)) → FillCall {E = E} old now (Ok count)
    → IsHashing tells start now after next count
hashing_goes_on {start = start} {old = old} {now = now} {before = before} {after = after} {full = full} {next = next} {filled = filled} {count = count}
    h is_full pieces long takes bound fills call =
    let same : filled ≡ length full = omega (arith, h.bound) in
    let total : fed_length after + count ≡ now.given = omega (arith, long, same, h.total, call.given) in
    record {
      opened = call.opened;
      bound = bound;
      whole = rw long (whole_more mib (fed_length before) (length full) h.whole pieces);
      total = total;
      room = bounded (fed_length after) count now.given MOST_READ (omega (arith, long, same, h.room)) total call.most;
      fed = λ t.
          let fed = h.fed t in
          let all : take filled full ≡ full = take_all filled full is_full in
          let rest : start.rest ≡ fed.0 ++ (full ++ old.rest) = rw all at fed.2 in (
            fed.0 ++ full,
            takes fed.0 fed.1,
            rest ∙ ap (λ (l : List ℕ). fed.0 ++ (full ++ l)) (fills t).taken ∙ sym (append_assoc fed.0 full (take count next ++ now.rest)),
          );
      end = λ t. (fills t).end;
      content = λ t key. (fills t).content key ∙ h.content t key;
      names = λ t. (fills t).names ∙ h.names t;
      faults = call.cause.ok ∙ h.faults;
    }

-- the last bytes are fed
pub hashing_ends : {tells : Bool} {start now : ToldFiles} {hasher : TreeHasher} (buffer : List ℕ) (count : ℕ) (digest : List ℕ)
    → IsHashing tells start now hasher buffer count → count < length buffer
    → ((message : List ℕ) → HasTaken hasher message → digest ≡ tree_hash_of (message ++ take count buffer))
    → IsTrue tells → (digest ≡ tree_hash_of start.rest) × (now.rest ≡ [])
hashing_ends {start = start} buffer count digest h less finish t =
    let fed = h.fed t in
    let none = h.end t less in
    let last : start.rest ≡ fed.0 ++ (take count buffer ++ []) = rw none at fed.2 in
    let all : start.rest ≡ fed.0 ++ take count buffer = last ∙ ap (λ (l : List ℕ). fed.0 ++ l) (append-nil (take count buffer)) in
    (finish fed.0 fed.1 ∙ ap tree_hash_of (sym all), none)
