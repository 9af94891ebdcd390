-- What filling a buffer from the content that is open makes of what the files tell.
use Rattle.std.specs.Prelude.{◌≡◌, ◌≤◌, ◌<◌, ◌+◌, ℕ, true, List, [], ◌++◌, length, take, Option, Result, IfOk}
use Rattle.glacier_base.specs.Outside.{HasCause}
use Rattle.glacier_base.specs.ToldFiles.{ToldFiles}
use Rattle.glacier_base.specs.declared.files.TheConstants.{MOST_READ}

-- the next bytes stand at the front of the buffer, which is filled as far as there are any
pub record Fills {E : Type 0} (buffer : List ℕ) (old new : ToldFiles) (result : Result ℕ E) : Type 0 where
  pub taken : IfOk result (λ count. old.rest ≡ take count buffer ++ new.rest)
  pub end : IfOk result (λ count. count < length buffer → new.rest ≡ [])
  pub content : (key : Option (List ℕ)) → new.content key ≡ old.content key
  pub names : new.names ≡ old.names

-- what filling does on every form
pub record FillCall {E : Type 0} (old new : ToldFiles) (result : Result ℕ E) : Type 0 where
  pub given : IfOk result (λ count. new.given ≡ old.given + count)
  pub most : IfOk result (λ count. 0 < count → new.given ≤ MOST_READ)
  pub opened : new.is_open ≡ true
  pub cause : HasCause old.faults new.faults result
