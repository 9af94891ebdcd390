-- Lists of an upload's parts, page by page.
use Rattle.std.specs.Prelude.{ℕ, ◌*◌, List, Option, filter, nat_le, unwrap_or}
use Rattle.std.specs.FinMap as map
use Rattle.std.specs.Option.{option_map}
use Rattle.glacier_vault.specs.Lists.{page}
use Rattle.glacier_vault.specs.declared.archive.Upload.{Upload}

-- the indices of an upload's parts, from the first whose first byte isn't below the marker
abbrev pub indices_from : Option ℕ → Upload → List ℕ
indices_from from upload = filter (λ index. nat_le (unwrap_or from 0) (index * upload.part_size)) (map.keys upload.parts)

-- a page of at most so many parts, and the first byte of the part that the next page begins with
abbrev pub part_page : ℕ → Option ℕ → Upload → List ℕ × Option ℕ
part_page limit from upload = (
  (page limit (indices_from from upload)).0,
  option_map (λ index. index * upload.part_size) (page limit (indices_from from upload)).1,
)
