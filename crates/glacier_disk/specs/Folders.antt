-- The contents of the files of a folder.
use Rattle.std.specs.Prelude.{List, [], ℕ, Option}
use Rattle.std.specs.declared.option.Option.TheVariants.{Some, None}
use Rattle.glacier_disk.specs.declared.area.Area.TheVariants.{Lead, Left, Right, Blobs}
use Rattle.glacier_disk.specs.declared.folder.Folder.{Folder}
use Rattle.glacier_disk.specs.declared.raw_file.RawFile.{Ghosts}
use Rattle.glacier_disk.specs.Image.{Image}

-- the contents of its four files, by what tells that of one
abbrev pub image_in : {F : Type 0} {tells : Ghosts F} → (F → List ℕ) → Folder F tells → Image
image_in content folder Lead = content folder.lead.file
image_in content folder Left = content folder.left.file
image_in content folder Right = content folder.right.file
image_in content folder Blobs = content folder.blobs.file

-- the same of a folder that may be open, with no byte where none is
abbrev pub image_on : {F : Type 0} {tells : Ghosts F} → (F → List ℕ) → Option (Folder F tells) → Image
image_on content None = λ area. []
image_on content (Some folder) = image_in content folder

-- the entries of such a folder
abbrev pub entries_on : {F : Type 0} {tells : Ghosts F} → (F → List ℕ) → Option (Folder F tells) → List ℕ
entries_on content None = []
entries_on content (Some folder) = content folder.entries.file
