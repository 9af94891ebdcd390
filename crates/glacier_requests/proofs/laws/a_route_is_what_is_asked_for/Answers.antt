use Rattle.glacier_requests.proofs.FoundLemmas.{route_is_asked}
use Rattle.glacier_requests.proofs.LookLemmas.{bad_name_is_asked, bad_id_is_asked, no_route_is_asked}
use Rattle.glacier_requests.proofs.laws.a_route_is_what_is_asked_for.Goals as goal

pub returns : goal.returns
returns c = record {
  route = route_is_asked;
  bad_name = bad_name_is_asked;
  bad_id = bad_id_is_asked;
  no_route = no_route_is_asked;
}
