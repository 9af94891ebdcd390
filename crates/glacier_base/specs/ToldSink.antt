-- What a sink tells, and what a write makes of it.
use Rattle.std.specs.Prelude.{◌≡◌, ◌≤◌, ℕ, List, ◌++◌, length, take, Result, OnOk, OnErr}
use Rattle.glacier_base.specs.Outside.{IsCounted}

pub record ToldSink : Type 0 where
  -- the bytes written
  pub written : List ℕ
  -- how often a write has failed, up to the count's end
  pub faults : ℕ
  -- the numbers, from 0, of the calls that are to fail, and how many calls there were, up to the count's end
  pub plan : List ℕ
  pub calls : ℕ

-- no call was made
pub record IsUntouched (told : ToldSink) : Type 0 where
  pub faults : told.faults ≡ 0
  pub calls : told.calls ≡ 0

-- the bytes are written, or first ones of them and then the call failed
pub record Prints {T E : Type 0} (bytes : List ℕ) (old new : ToldSink) (result : Result T E) : Type 0 where
  pub whole : OnOk result (new.written ≡ old.written ++ bytes)
  pub part : OnErr result ((k : ℕ) × (k ≤ length bytes) × (new.written ≡ old.written ++ take k bytes))
  pub counted : IsCounted old.plan old.calls new.plan new.calls result
