-- What a body has taken.
use Rattle.std.specs.Prelude.{◌≡◌, ℕ, ◌+◌, ◌*◌, List, ◌++◌, length, take}
use Rattle.std.specs.Int.{div_ceil}
use Rattle.glacier_treehash.specs.Leaves.{leaves_from}
use Rattle.glacier_treehash.specs.Linear.{HasFed}
use Rattle.glacier_extents.specs.declared.run.Run.{Run}
use Rattle.glacier_extents.specs.Places.{block_size}
use Rattle.glacier_extents.specs.Runs.{block_count}
use Rattle.glacier_bodies.specs.declared.body.Body.{Body}

-- the runs of its blocks
abbrev pub body_runs : Body → List Run
body_runs body = body.layout

-- how many bytes it has taken
abbrev pub body_taken : Body → ℕ
body_taken body = body.taken

-- how many bytes its blocks have
abbrev pub body_room : Body → ℕ
body_room body = block_count body.layout * block_size

-- these bytes were taken
pub record HasTaken (body : Body) (message : List ℕ) : Type 0 where
  pub taken : body.taken ≡ length message
  pub linear : HasFed body.linear message
  pub leaves : take (div_ceil (length message) block_size) body.leaves.items ≡ leaves_from (div_ceil (length message) block_size) message

-- these bytes were taken behind whatever was taken before
pub record Takes (old new : Body) (bytes : List ℕ) : Type 0 where
  pub taken : (message : List ℕ) → HasTaken old message → HasTaken new (message ++ bytes)
  pub count : body_taken new ≡ body_taken old + length bytes
