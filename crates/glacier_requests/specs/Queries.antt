-- What the query of a list says.
use Rattle.std.specs.Prelude.{ℕ, Bool, true, false, ◌&&◌, List, [], ◌∷◌, Option, Some, None, option_map, Result, Ok, Err, codes, bytes_eq, is_some, nat_le, if◌then◌else◌}
use Rattle.glacier_base.specs.Names.{is_vault_name, where_rule}
use Rattle.glacier_base.specs.declared.id.IdKind.TheVariants.{Upload as upload_id, Job as job_id}
use Rattle.glacier_http.specs.Fields.{number_of}
use Rattle.glacier_http.specs.Query.{pairs_of}
use Rattle.glacier_http.specs.View.{HeadText}
use Rattle.glacier_http.specs.declared.query.Pair.{Pair}
use Rattle.glacier_requests.specs.Ids.{id_number}
use Rattle.glacier_requests.specs.Parts.{size_of}
use Rattle.glacier_requests.specs.Reads.{and_then, or_else}
use Rattle.glacier_requests.specs.declared.lists.JobsQuery.{JobsQuery}
use Rattle.glacier_requests.specs.declared.lists.ListQuery.{ListQuery}
use Rattle.glacier_requests.specs.declared.lists.StatusCode.{StatusCode}
use Rattle.glacier_requests.specs.declared.lists.StatusCode.TheVariants.{InProgress, Succeeded, Failed}
use Rattle.glacier_requests.specs.declared.lists.VaultsQuery.{VaultsQuery}
use Rattle.glacier_requests.specs.declared.lists.TheConstants.{DEFAULT_LIMIT, MOST_LIMIT}
use Rattle.glacier_vault.specs.declared.refusal.Refusal.{Refusal}
use Rattle.glacier_vault.specs.declared.refusal.Refusal.TheVariants.{BadQuery}

-- the pairs of a query that may be missing
abbrev pub pairs_in : Option (List ℕ) → List Pair
pairs_in None = []
pairs_in (Some query) = pairs_of query

-- the value of the first pair with this name, and the pairs behind it
abbrev pub first_under : List ℕ → List Pair → Option (List ℕ × List Pair)
first_under name [] = None
first_under name (pair ∷ pairs) = if bytes_eq pair.name name then Some (pair.value, pairs) else first_under name pairs

-- the value of the only pair with a name, if there is one
abbrev pub unless_repeated : List ℕ → Option (List ℕ × List Pair) → Result (Option (List ℕ)) Refusal
unless_repeated name None = Ok None
unless_repeated name (Some found) = if is_some (first_under name found.1) then Err (BadQuery name) else Ok (Some found.0)

abbrev pub value_under : List ℕ → List Pair → Result (Option (List ℕ)) Refusal
value_under name pairs = unless_repeated name (first_under name pairs)

-- what a value is read as: this without one
abbrev pub read_or : {A : Type 0} → List ℕ → A → (List ℕ → Option A) → Option (List ℕ) → Result A Refusal
read_or name default reading None = Ok default
read_or name default reading (Some value) = or_else (BadQuery name) (reading value)

-- what the parameter of a name is read as
abbrev pub parameter : {A : Type 0} → List ℕ → A → (List ℕ → Option A) → List Pair → Result A Refusal
parameter name default reading pairs = and_then (value_under name pairs) (read_or name default reading)

-- a limit is at least 1 and at most 1,000
abbrev pub where_limit : Option ℕ → Option ℕ
where_limit None = None
where_limit (Some limit) = if nat_le 1 limit && nat_le limit MOST_LIMIT then Some limit else None

abbrev pub limit_of : List ℕ → Option ℕ
limit_of text = where_limit (number_of 4 text)

abbrev pub limit_in : List Pair → Result ℕ Refusal
limit_in pairs = parameter (codes "limit") DEFAULT_LIMIT limit_of pairs

-- a list begins at what is marked, where something is
abbrev pub marker_in : {A : Type 0} → (List ℕ → Option A) → List Pair → Result (Option A) Refusal
marker_in reading pairs = parameter (codes "marker") None (λ text. option_map (λ marked. Some marked) (reading text)) pairs

abbrev pub vaults_query_in : List Pair → Result VaultsQuery Refusal
vaults_query_in pairs =
    and_then (limit_in pairs) (λ limit.
    and_then (marker_in (where_rule is_vault_name) pairs) (λ from.
    Ok (record { from = from; limit = limit })))

-- a list that is marked by a number
abbrev pub list_query_in : (List ℕ → Option ℕ) → List Pair → Result ListQuery Refusal
list_query_in reading pairs =
    and_then (limit_in pairs) (λ limit.
    and_then (marker_in reading pairs) (λ from.
    Ok (record { from = from; limit = limit })))

abbrev pub truth_of : List ℕ → Option (Option Bool)
truth_of text =
    if bytes_eq text (codes "true") then Some (Some true)
    else if bytes_eq text (codes "false") then Some (Some false)
    else None

abbrev pub status_of : List ℕ → Option (Option StatusCode)
status_of text =
    if bytes_eq text (codes "InProgress") then Some (Some InProgress)
    else if bytes_eq text (codes "Succeeded") then Some (Some Succeeded)
    else if bytes_eq text (codes "Failed") then Some (Some Failed)
    else None

abbrev pub completed_in : List Pair → Result (Option Bool) Refusal
completed_in pairs = parameter (codes "completed") None truth_of pairs

abbrev pub status_in : List Pair → Result (Option StatusCode) Refusal
status_in pairs = parameter (codes "statuscode") None status_of pairs

abbrev pub jobs_query_in : List Pair → Result JobsQuery Refusal
jobs_query_in pairs =
    and_then (list_query_in (id_number job_id) pairs) (λ list.
    and_then (completed_in pairs) (λ completed.
    and_then (status_in pairs) (λ status.
    Ok (record { list = list; completed = completed; status = status }))))

-- what a head says by the query of each list
abbrev pub vaults_query_of : HeadText → Result VaultsQuery Refusal
vaults_query_of head = vaults_query_in (pairs_in head.query)

abbrev pub uploads_query_of : HeadText → Result ListQuery Refusal
uploads_query_of head = list_query_in (id_number upload_id) (pairs_in head.query)

abbrev pub parts_query_of : HeadText → Result ListQuery Refusal
parts_query_of head = list_query_in size_of (pairs_in head.query)

abbrev pub jobs_query_of : HeadText → Result JobsQuery Refusal
jobs_query_of head = jobs_query_in (pairs_in head.query)
