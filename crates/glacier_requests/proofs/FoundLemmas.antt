-- The route of a head is asked for.
use Rattle.std.proofs.Common.{◌≡◌, ◌↔◌, ℕ, Bool, true, false, cond, List, [], ◌∷◌, Option, Some, None, refl, ap, sym, ◌∙◌, subst}
use Rattle.std.specs.Prelude.{codes, bytes_eq, map, option_map, IfSome, IsTrue}
use Rattle.std.proofs.lemmas.Slice.Eq.{bytes_eq-Decides}
use Rattle.glacier_base.specs.Names.{is_account, is_vault_name}
use Rattle.glacier_http.specs.View.{HeadText}
use Rattle.glacier_requests.specs.Paths.{Piece, name as vault_piece, row, piece_text, IsAccount, account_word, ArePieces, AsksFor}
use Rattle.glacier_requests.specs.Places.{method_of, op_at, id_kind_of, place_behind}
use Rattle.glacier_requests.specs.Routes.{pieces, account_of, op_on, number_of, numbered_route, op_route, place_route, list_route, account_route, vaults_path, path_route, route_of}
use Rattle.glacier_requests.specs.declared.places.Method.{Method}
use Rattle.glacier_requests.specs.declared.places.Method.TheVariants.{Get, Put, Post, Delete}
use Rattle.glacier_requests.specs.declared.places.Place.{Place}
use Rattle.glacier_requests.specs.declared.places.VaultOp.{VaultOp}
use Rattle.glacier_requests.specs.declared.routes.Op.{Op}
use Rattle.glacier_requests.specs.declared.routes.Op.TheVariants.{ListVaults}
use Rattle.glacier_requests.specs.declared.routes.Route.{Route}
use Rattle.glacier_requests.specs.declared.routes.RouteStep.TheVariants as found
use Rattle.glacier_requests.proofs.PlaceLemmas.{method_text, place_pieces, text_of_method, words_of_place, pieces_of_words, row_at}
use Rattle.glacier_requests.proofs.RouteLemmas.{asked_is_routed}

account_is : (word : List ℕ) (account : Option (List ℕ)) → account_of word ≡ Some account
    → (word ≡ account_word account) × IsAccount account
account_is word account is = go (bytes_eq word (codes "-")) refl (is_account word) refl is
  where
    go : (t : Bool) → bytes_eq word (codes "-") ≡ t → (rule : Bool) → is_account word ≡ rule
        → cond t (Some None) (option_map (λ digits. Some digits) (cond rule (Some word) None)) ≡ Some account
        → (word ≡ account_word account) × IsAccount account
    go true e rule r is =
        let same : None ≡ account = cc in
        subst (λ a. (word ≡ account_word a) × IsAccount a) same ((bytes_eq-Decides word (codes "-")).0 e, tt)
    go false e false r is = cc
    go false e true r is =
        let same : Some word ≡ account = cc in
        subst (λ a. (word ≡ account_word a) × IsAccount a) same (refl, r)

-- the pieces of a path that begins with `/ACCOUNT/vaults`
pub vaults_is : (ps : List (List ℕ)) (path : Option (List ℕ) × List (List ℕ)) → vaults_path ps ≡ Some path
    → (ps ≡ [] ∷ account_word path.0 ∷ codes "vaults" ∷ path.1) × IsAccount path.0
vaults_is [] path is = cc
vaults_is ((b ∷ first) ∷ ps) path is = cc
vaults_is ([] ∷ []) path is = cc
vaults_is ([] ∷ account ∷ []) path is = cc
vaults_is ([] ∷ account ∷ word ∷ behind) path is = go (bytes_eq word (codes "vaults")) refl (account_of account) refl is
  where
    go : (t : Bool) → bytes_eq word (codes "vaults") ≡ t → (a : Option (Option (List ℕ))) → account_of account ≡ a
        → cond t (option_map (λ a. (a, behind)) a) None ≡ Some path
        → ([] ∷ account ∷ word ∷ behind ≡ [] ∷ account_word path.0 ∷ codes "vaults" ∷ path.1) × IsAccount path.0
    go false e a f is = cc
    go true e None f is = cc
    go true e (Some named) f is =
        let same : (named, behind) ≡ path = cc in
        let told = account_is account named f in
        subst (λ (p : Option (List ℕ) × List (List ℕ)).
        ([] ∷ account ∷ word ∷ behind ≡ [] ∷ account_word p.0 ∷ codes "vaults" ∷ p.1) × IsAccount p.0) same (
          ap (λ a. [] ∷ a ∷ word ∷ behind) told.0
              ∙ ap (λ w. [] ∷ account_word named ∷ w ∷ behind) ((bytes_eq-Decides word (codes "vaults")).0 e),
          told.1,
        )

-- a method and what stands behind `vaults` ask for the operation of the route
record Led (account : Option (List ℕ)) (method : Method) (behind : List (List ℕ)) (route : Route) : Type 0 where
  op : Op
  is : record { account = account; op = op } ≡ route
  line : method_text method ≡ (row op).0
  path : behind ≡ map piece_text (row op).1
  names : ArePieces (row op).1

module _ (account : Option (List ℕ)) (method : Method) (route : Route) where
  led_list : list_route account method ≡ found.Route route → Led account method [] route
  led_list is = go method is
    where
      go : (m : Method) → list_route account m ≡ found.Route route → Led account m [] route
      go Get is =
          let same : record { account = account; op = ListVaults } ≡ route = cc in
          record { op = ListVaults; is = same; line = refl; path = refl; names = tt }
      go Put is = cc
      go Post is = cc
      go Delete is = cc

  led_place : (name : List ℕ) (behind : List (List ℕ))
      → place_route account name method (place_behind behind) ≡ found.Route route
      → Led account method (name ∷ behind) route
  led_place name behind is = by_spot (place_behind behind) refl is
    where
      by_number : (spot : Place × List ℕ) → place_behind behind ≡ Some spot → (op : VaultOp) → op_at method spot.0 ≡ Some op
          → IsTrue (is_vault_name name) → (number : Option ℕ) → number_of (id_kind_of spot.0) spot.1 ≡ number
          → numbered_route account op name number ≡ found.Route route → Led account method (name ∷ behind) route
      by_number spot s op o good None n is = cc
      by_number spot s op o good (Some number) n is =
          let same : record { account = account; op = op_on op name number } ≡ route = cc in
          let told = pieces_of_words spot.0 spot.1 number n in
          let is_line = subst (λ o. IfSome o (λ op. (vault : List ℕ) (number : ℕ)
          → row (op_on op vault number) ≡ (method_text method, vault_piece vault ∷ place_pieces spot.0 number))) o (row_at method spot.0) name number in
          record {
            op = op_on op name number;
            is = same;
            line = ap (λ (l : List ℕ × List Piece). l.0) (sym is_line);
            path = ap (λ ps. name ∷ ps) (words_of_place behind spot s ∙ told.0) ∙ ap (λ (l : List ℕ × List Piece). map piece_text l.1) (sym is_line);
            names = subst (λ (l : List ℕ × List Piece). ArePieces l.1) (sym is_line) (good, told.1);
          }

      by_name : (spot : Place × List ℕ) → place_behind behind ≡ Some spot → (op : VaultOp) → op_at method spot.0 ≡ Some op
          → (t : Bool) → is_vault_name name ≡ t
          → cond t (numbered_route account op name (number_of (id_kind_of spot.0) spot.1)) found.BadName ≡ found.Route route
          → Led account method (name ∷ behind) route
      by_name spot s op o false t is = cc
      by_name spot s op o true t is = by_number spot s op o t (number_of (id_kind_of spot.0) spot.1) refl is

      by_op : (spot : Place × List ℕ) → place_behind behind ≡ Some spot → (op : Option VaultOp) → op_at method spot.0 ≡ op
          → op_route account name op spot ≡ found.Route route → Led account method (name ∷ behind) route
      by_op spot s None o is = cc
      by_op spot s (Some op) o is = by_name spot s op o (is_vault_name name) refl is

      by_spot : (spot : Option (Place × List ℕ)) → place_behind behind ≡ spot
          → place_route account name method spot ≡ found.Route route → Led account method (name ∷ behind) route
      by_spot None s is = cc
      by_spot (Some spot) s is = by_op spot s (op_at method spot.0) refl is

  led_by : (behind : List (List ℕ)) → account_route method account behind ≡ found.Route route
      → Led account method behind route
  led_by [] is = led_list is
  led_by (name ∷ behind) is = led_place name behind is

-- the route of a head is asked for
routed_is_asked : (head : HeadText) (route : Route) → route_of head ≡ found.Route route → AsksFor head route
routed_is_asked head route is = by_method (method_of head.method) refl is
  where
    asks : (method : Method) → method_of head.method ≡ Some method → (path : Option (List ℕ) × List (List ℕ))
        → vaults_path (pieces head.path) ≡ Some path → Led path.0 method path.1 route → AsksFor head route
    asks method m path p led =
        let start = vaults_is (pieces head.path) path p in
        subst (AsksFor head) led.is (record {
          method = text_of_method head.method method m ∙ led.line;
          path = start.0 ∙ ap (λ ps. [] ∷ account_word path.0 ∷ codes "vaults" ∷ ps) led.path;
          account = start.1;
          names = led.names;
        })

    by_path : (method : Method) → method_of head.method ≡ Some method → (path : Option (Option (List ℕ) × List (List ℕ)))
        → vaults_path (pieces head.path) ≡ path → path_route (Some method) path ≡ found.Route route → AsksFor head route
    by_path method m None p is = cc
    by_path method m (Some path) p is = asks method m path p (led_by path.0 method route path.1 is)

    by_method : (method : Option Method) → method_of head.method ≡ method
        → path_route method (vaults_path (pieces head.path)) ≡ found.Route route → AsksFor head route
    by_method None m is = cc
    by_method (Some method) m is = by_path method m (vaults_path (pieces head.path)) refl is

pub route_is_asked : (head : HeadText) (route : Route) → (route_of head ≡ found.Route route) ↔ AsksFor head route
route_is_asked head route = (routed_is_asked head route, asked_is_routed head route)
