-- The archive that parts make up, where they do.
use Rattle.std.specs.Prelude.{ℕ, not, ◌&&◌, Option, Some, None, if◌then◌else◌, nat_le}
use Rattle.glacier_vault.specs.declared.archive.Archive.{Archive}
use Rattle.glacier_vault.specs.declared.archive.Upload.{Upload}
use Rattle.glacier_upload.specs.Completion.{covered, has_gap, whole_archive}

-- the archive that an upload's parts make up, where there is a part and no gap
abbrev pub whole_of : ℕ → Upload → Option Archive
whole_of m upload = if nat_le 1 (covered upload) && not (has_gap upload) then Some (whole_archive m upload) else None
