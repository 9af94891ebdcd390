use Rattle.std.proofs.Common.{◌≡◌, ◌∙◌, ℕ, Bool, true, false, cond, List, Option, Some, None, ap, refl, sym}
use Rattle.glacier_base.specs.Names.{is_vault_name, where_rule}
use Rattle.glacier_requests.specs.Places.{id_kind_of}
use Rattle.glacier_requests.specs.Routes.{op_on, number_of, numbered_route, named_route, op_route}
use Rattle.glacier_requests.specs.declared.places.Place.{Place}
use Rattle.glacier_requests.specs.declared.places.VaultOp.{VaultOp}
use Rattle.glacier_requests.specs.declared.routes.RouteStep.TheVariants as found
use Rattle.glacier_requests.proofs.routing.place_route.Goals as goal

-- a good name and a good number lead to the operation
led : (account : Option (List ℕ)) (name text : List ℕ) (place : Place) (act : Option VaultOp) (op : VaultOp)
    (vault : List ℕ) (number : ℕ) → act ≡ Some op → where_rule is_vault_name name ≡ Some vault
    → number_of (id_kind_of place) text ≡ Some number
    → op_route account name act (place, text) ≡ found.Route (record { account = account; op = op_on op vault number })
led account name text place act op vault number does good is =
    ap (λ o. op_route account name o (place, text)) does ∙ go (is_vault_name name) refl good
  where
    go : (t : Bool) → is_vault_name name ≡ t → cond t (Some name) None ≡ Some vault
        → named_route account op name (number_of (id_kind_of place) text)
        ≡ found.Route (record { account = account; op = op_on op vault number })
    go false e same = cc
    go true e same =
        let one : name ≡ vault = cc in
        ap (λ t. cond t (numbered_route account op name (number_of (id_kind_of place) text)) found.BadName) e
        ∙ ap (numbered_route account op name) is
        ∙ ap (λ v. found.Route (record { account = account; op = op_on op v number })) one

pub returns : goal.returns
returns c =
    ap (λ o. found.Route (record { account = c.args.account; op = o })) c.op_on-op.ensures
    ∙ sym (led c.args.account c.args.name.now c.args.spot.id.now c.args.spot.place _ c.in-Some.op c.in-Some-parse.vault
    c.in-Some-number_of.number (sym c.op_at.ensures ∙ c.in-Some.is) (sym c.parse.ensures ∙ c.in-Some-parse.is)
    (sym (ap (λ k. number_of k c.args.spot.id.now) c.id_kind_of.ensures) ∙ sym c.number_of.ensures ∙ c.in-Some-number_of.is))
