-- What the operations on archives and jobs are asked, by what a head and a body say.
use Rattle.std.specs.Prelude.{ℕ, Bool, true, false, ◌&&◌, List, [], ◌∷◌, codes}
use Rattle.glacier_http.specs.Fields.{values_of}
use Rattle.glacier_http.specs.View.{HeadText}
use Rattle.glacier_job.specs.declared.asks.AskKind.{AskKind}
use Rattle.glacier_job.specs.declared.asks.AskKind.TheVariants as kinds
use Rattle.glacier_job.specs.declared.asks.JobAsk.{JobAsk}
use Rattle.glacier_requests.specs.Routes.{route_of}
use Rattle.glacier_requests.specs.declared.jobs.JobBody.{JobBody}
use Rattle.glacier_requests.specs.declared.jobs.JobKind.{JobKind}
use Rattle.glacier_requests.specs.declared.jobs.JobKind.TheVariants.{Archive, Inventory}
use Rattle.glacier_requests.specs.declared.routes.Op.{Op}
use Rattle.glacier_requests.specs.declared.routes.Op.TheVariants as op
use Rattle.glacier_requests.specs.declared.routes.RouteStep.{RouteStep}
use Rattle.glacier_requests.specs.declared.routes.RouteStep.TheVariants as found
use Rattle.glacier_requests.specs.declared.uploads.UploadHead.{UploadHead}
use Rattle.glacier_upload.specs.declared.asks.UploadAsk.{UploadAsk}

-- what an upload to the vault of a name asks for, whose head says this of a body of so many bytes
abbrev pub upload_asked : List ℕ → UploadHead → ℕ → UploadAsk
upload_asked vault head size = record {
  vault = vault;
  description = head.description;
  size = size;
  linear = head.linear;
  tree = head.tree;
}

abbrev pub kind_asked : JobKind → AskKind
kind_asked (Archive archive range) = kinds.Archive archive range
kind_asked (Inventory csv) = kinds.Inventory csv

-- what a new job of the vault of a name asks for, whose body says this
abbrev pub job_asked : List ℕ → JobBody → JobAsk
job_asked vault body = record {
  vault = vault;
  tier = body.tier;
  description = body.description;
  kind = kind_asked body.kind;
}

-- whether the body of an operation is kept in the store
abbrev pub takes_body : Op → Bool
takes_body (op.Upload vault) = true
takes_body _ = false

abbrev pub routes_body : RouteStep → Bool
routes_body (found.Route route) = takes_body route.op
routes_body _ = false

abbrev pub some_value : List (List ℕ) → Bool
some_value [] = false
some_value (value ∷ more) = true

-- whether a message is decided up to its body when its head is whole: an archive's upload, with a hash named
abbrev pub is_bulk_head : HeadText → Bool
is_bulk_head head = routes_body (route_of head) && some_value (values_of (codes "x-amz-content-sha256") head.fields)
