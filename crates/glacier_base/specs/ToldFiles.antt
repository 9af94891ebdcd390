-- What the files of a program tell, and what each call makes of it.
use Rattle.std.specs.Prelude.{◌≡◌, ◌↔◌, ◌≤◌, ◌<◌, ◌+◌, ℕ, Bool, true, false, List, [], ◌++◌, length, take}
use Rattle.std.specs.Prelude.{Option, Some, Result, IfOk, OnOk, OnErr, IsErr}
use Rattle.std.specs.List.{Contains}
use Rattle.glacier_base.specs.Outside.{HasCause, IsCounted, Names}
use Rattle.glacier_base.specs.declared.files.TheConstants.{MOST_READ}

pub record ToldFiles : Type 0 where
  -- the content of each name, and of standard input at no name, where there is one
  pub content : Option (List ℕ) → Option (List ℕ)
  -- what is left of the content that is open
  pub rest : List ℕ
  -- the names given to `open_read`, in order
  pub names : List (Option (List ℕ))
  -- whether `open_read` has answered Ok, and how many bytes were read since it last did
  pub is_open : Bool
  pub given : ℕ
  -- how often a call has failed, up to the count's end
  pub faults : ℕ
  -- the numbers, from 0, of the calls that are to fail, and how many calls there were, up to the count's end
  pub plan : List ℕ
  pub calls : ℕ

-- no call was made
pub record IsUnused (told : ToldFiles) : Type 0 where
  pub names : told.names ≡ []
  pub closed : told.is_open ≡ false
  pub given : told.given ≡ 0
  pub faults : told.faults ≡ 0
  pub calls : told.calls ≡ 0

-- the content of a name is open at its first byte, or the call failed and what was open stays so
pub record Opens {T E : Type 0} (name : Option (List ℕ)) (old new : ToldFiles) (result : Result T E) : Type 0 where
  pub rest : OnOk result (old.content name ≡ Some new.rest)
  pub kept_rest : OnErr result (new.rest ≡ old.rest)
  pub content : (key : Option (List ℕ)) → new.content key ≡ old.content key
  pub named : Names name old.names new.names result
  pub counted : IsCounted old.plan old.calls new.plan new.calls result

-- what `open_read` does on every form
pub record OpenCall {T E : Type 0} (old new : ToldFiles) (result : Result T E) : Type 0 where
  pub opened : OnOk result (new.is_open ≡ true)
  pub begins : OnOk result (new.given ≡ 0)
  pub kept_open : OnErr result (new.is_open ≡ old.is_open)
  pub kept_given : OnErr result (new.given ≡ old.given)
  pub cause : HasCause old.faults new.faults result

-- the next bytes are taken into a slice, none only at the end or where it has no room,
-- or the call was planned to fail and takes none
pub record Reads {E : Type 0} (before after : List ℕ) (old new : ToldFiles) (result : Result ℕ E) : Type 0 where
  pub taken : IfOk result (λ count. old.rest ≡ take count after ++ new.rest)
  pub end : IfOk result (λ count. 0 < length before → (count ≡ 0) ↔ (old.rest ≡ []))
  pub kept_rest : OnErr result (new.rest ≡ old.rest)
  pub planned : IsErr result → Contains old.plan old.calls
  pub content : (key : Option (List ℕ)) → new.content key ≡ old.content key
  pub names : new.names ≡ old.names
  pub counted : IsCounted old.plan old.calls new.plan new.calls result

-- what `read` does on every form
pub record ReadCall {E : Type 0} (old new : ToldFiles) (result : Result ℕ E) : Type 0 where
  pub given : IfOk result (λ count. new.given ≡ old.given + count)
  pub most : IfOk result (λ count. new.given ≤ MOST_READ)
  pub kept_given : OnErr result (new.given ≡ old.given)
  pub opened : new.is_open ≡ true
  pub cause : HasCause old.faults new.faults result
