-- The paths that replies name.
use Rattle.std.specs.Prelude.{ℕ, List, ◌++◌, codes}
use Rattle.glacier_base.specs.Ids.{id_text}
use Rattle.glacier_base.specs.declared.id.Id.{Id}
use Rattle.glacier_base.specs.declared.id.IdKind.TheVariants as ids

-- the id of the archive with a number
abbrev pub archive_id : ℕ → Id
archive_id number = record { kind = ids.Archive; number = number }

-- the id of the job with a number
abbrev pub job_id : ℕ → Id
job_id number = record { kind = ids.Job; number = number }

-- the path of a vault
abbrev pub location : List ℕ → List ℕ → List ℕ
location account name = codes "/" ++ account ++ codes "/vaults/" ++ name

-- the path of an item in a vault, behind this word
abbrev pub item_location : List ℕ → List ℕ → List ℕ → Id → List ℕ
item_location account name word id = location account name ++ word ++ id_text id

-- the path of an archive
abbrev pub archive_location : List ℕ → List ℕ → Id → List ℕ
archive_location account name id = item_location account name (codes "/archives/") id

-- the path of a job
abbrev pub job_location : List ℕ → List ℕ → Id → List ℕ
job_location account name id = item_location account name (codes "/jobs/") id
