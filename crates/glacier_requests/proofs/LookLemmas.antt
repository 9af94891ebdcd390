-- What a head is answered that has the method and the path of an operation, with any name and any id.
use Rattle.std.proofs.Common.{◌≡◌, ◌⊎◌, inl, inr, ◌↔◌, ℕ, Bool, true, false, cond, List, [], ◌∷◌, Option, Some, None, refl, ap, sym, ◌∙◌, subst}
use Rattle.std.specs.Prelude.{codes, map, IfSome, IsTrue}
use Rattle.glacier_base.specs.Names.{is_vault_name}
use Rattle.glacier_http.specs.View.{HeadText}
use Rattle.glacier_requests.specs.Paths.{Piece, name as vault_piece, row, text_with, account_word, IsBadName, IsGoodName, IsBadId, LooksFor}
use Rattle.glacier_requests.specs.Places.{method_of, op_at, id_kind_of, place_behind}
use Rattle.glacier_requests.specs.Routes.{pieces, op_on, number_of, numbered_route, named_route, op_route, place_route, list_route, account_route, vaults_path, path_route, route_of}
use Rattle.glacier_requests.specs.declared.places.Method.{Method}
use Rattle.glacier_requests.specs.declared.places.Method.TheVariants.{Get, Put, Post, Delete}
use Rattle.glacier_requests.specs.declared.places.Place.{Place}
use Rattle.glacier_requests.specs.declared.places.VaultOp.{VaultOp}
use Rattle.glacier_requests.specs.declared.routes.Op.TheVariants.{ListVaults}
use Rattle.glacier_requests.specs.declared.routes.Route.{Route}
use Rattle.glacier_requests.specs.declared.routes.RouteStep.TheVariants as found
use Rattle.glacier_requests.proofs.FoundLemmas.{vaults_is}
use Rattle.glacier_requests.proofs.PlaceLemmas.{method_text, text_of_method, place_words, place_pieces, words_of_place, row_at}
use Rattle.glacier_requests.proofs.RouteLemmas.{behind_vaults}
use Rattle.glacier_requests.proofs.RowLemmas.{Row, row_is, words_with, bad_number, routed_at, method_back}

module _ (head : HeadText) where
  module _ (route : Route) (text : List ℕ) (looks : LooksFor head route text) where
    -- the step by the pieces behind the account, which are these
    through : (method : Method) (behind : List (List ℕ)) → (row route.op).0 ≡ method_text method
        → map (text_with text) (row route.op).1 ≡ behind
        → route_of head ≡ account_route method route.account behind
    through method behind line path =
        ap (λ m. path_route (method_of m) (vaults_path (pieces head.path))) (looks.method ∙ line)
        ∙ ap (λ m. path_route m (vaults_path (pieces head.path))) (method_back method)
        ∙ ap (λ ps. path_route (Some method) (vaults_path ps))
        (looks.path ∙ ap (λ ws. [] ∷ account_word route.account ∷ codes "vaults" ∷ ws) path)
        ∙ behind_vaults route.account method behind looks.account

    listed : route.op ≡ ListVaults → route_of head ≡ found.Route (record { account = route.account; op = ListVaults })
    listed is = through Get [] (ap (λ o. (row o).0) is) (ap (λ o. map (text_with text) (row o).1) is)

    stepped : (r : Row route.op)
        → route_of head ≡ named_route route.account r.act r.vault (number_of (id_kind_of r.place) text)
    stepped r =
        through r.method (r.vault ∷ place_words r.place text) (ap (λ (l : List ℕ × List Piece). l.0) r.line)
        (ap (λ (l : List ℕ × List Piece). map (text_with text) l.1) r.line
        ∙ ap (λ ws. r.vault ∷ ws) (words_with r.place text r.number))
        ∙ routed_at route.account r.vault r.method r.place text
        ∙ ap (λ o. op_route route.account r.vault o (r.place, text)) r.does

  -- each head looks for something, or has no route
  looked : (route_of head ≡ found.NoRoute) ⊎ ((route : Route) × (text : List ℕ) × LooksFor head route text)
  looked = by_method (method_of head.method) refl
    where
      by_op : (method : Method) → method_of head.method ≡ Some method → (account : Option (List ℕ)) (name : List ℕ)
          (behind : List (List ℕ)) → vaults_path (pieces head.path) ≡ Some (account, name ∷ behind)
          → (spot : Place × List ℕ) → place_behind behind ≡ Some spot
          → (act : Option VaultOp) → op_at method spot.0 ≡ act
          → (op_route account name act spot ≡ found.NoRoute) ⊎
          ((route : Route) × (text : List ℕ) × LooksFor head route text)
      by_op method m account name behind p spot s None a = inl refl
      by_op method m account name behind p spot s (Some act) a =
          let start = vaults_is (pieces head.path) (account, name ∷ behind) p in
          let is_line = subst (λ o. IfSome o (λ act. (vault : List ℕ) (number : ℕ)
          → row (op_on act vault number) ≡ (method_text method, vault_piece vault ∷ place_pieces spot.0 number)))
          a (row_at method spot.0) name 0 in
          inr (
            record { account = account; op = op_on act name 0 },
            spot.1,
            record {
              method = text_of_method head.method method m ∙ ap (λ (l : List ℕ × List Piece). l.0) (sym is_line);
              path = start.0
                  ∙ ap (λ ws. [] ∷ account_word account ∷ codes "vaults" ∷ name ∷ ws)
                  (words_of_place behind spot s ∙ sym (words_with spot.0 spot.1 0))
                  ∙ ap (λ (l : List ℕ × List Piece). [] ∷ account_word account ∷ codes "vaults" ∷ map (text_with spot.1) l.1)
                  (sym is_line);
              account = start.1;
            },
          )

      by_spot : (method : Method) → method_of head.method ≡ Some method → (account : Option (List ℕ)) (name : List ℕ)
          (behind : List (List ℕ)) → vaults_path (pieces head.path) ≡ Some (account, name ∷ behind)
          → (spot : Option (Place × List ℕ)) → place_behind behind ≡ spot
          → (place_route account name method spot ≡ found.NoRoute) ⊎
          ((route : Route) × (text : List ℕ) × LooksFor head route text)
      by_spot method m account name behind p None s = inl refl
      by_spot method m account name behind p (Some spot) s =
          by_op method m account name behind p spot s (op_at method spot.0) refl

      list_by : (method : Method) → method_of head.method ≡ Some method → (account : Option (List ℕ))
          → vaults_path (pieces head.path) ≡ Some (account, []) → (list_route account method ≡ found.NoRoute) ⊎
          ((route : Route) × (text : List ℕ) × LooksFor head route text)
      list_by Get m account p =
          let start = vaults_is (pieces head.path) (account, []) p in
          inr (
            record { account = account; op = ListVaults },
            [],
            record { method = text_of_method head.method Get m; path = start.0; account = start.1 },
          )
      list_by Put m account p = inl refl
      list_by Post m account p = inl refl
      list_by Delete m account p = inl refl

      by_behind : (method : Method) → method_of head.method ≡ Some method → (account : Option (List ℕ))
          (behind : List (List ℕ)) → vaults_path (pieces head.path) ≡ Some (account, behind)
          → (account_route method account behind ≡ found.NoRoute) ⊎
          ((route : Route) × (text : List ℕ) × LooksFor head route text)
      by_behind method m account [] p = list_by method m account p
      by_behind method m account (name ∷ behind) p = by_spot method m account name behind p (place_behind behind) refl

      by_path : (method : Method) → method_of head.method ≡ Some method
          → (path : Option (Option (List ℕ) × List (List ℕ))) → vaults_path (pieces head.path) ≡ path
          → (path_route (Some method) path ≡ found.NoRoute) ⊎
          ((route : Route) × (text : List ℕ) × LooksFor head route text)
      by_path method m None p = inl refl
      by_path method m (Some path) p = by_behind method m path.0 path.1 p

      by_method : (method : Option Method) → method_of head.method ≡ method
          → (path_route method (vaults_path (pieces head.path)) ≡ found.NoRoute) ⊎
          ((route : Route) × (text : List ℕ) × LooksFor head route text)
      by_method None m = inl refl
      by_method (Some method) m = by_path method m (vaults_path (pieces head.path)) refl

  pub no_route_is_asked : (route_of head ≡ found.NoRoute) ↔ ((route : Route) (text : List ℕ) → ¬ (LooksFor head route text))
  no_route_is_asked = (there, back looked)
    where
      never : (account : Option (List ℕ)) (act : VaultOp) (vault : List ℕ) (number : Option ℕ)
          → named_route account act vault number ≡ found.NoRoute → ⊥
      never account act vault number is = go (is_vault_name vault) number is
        where
          go : (t : Bool) (n : Option ℕ) → cond t (numbered_route account act vault n) found.BadName ≡ found.NoRoute → ⊥
          go false n is = cc
          go true None is = cc
          go true (Some n) is = cc

      there : route_of head ≡ found.NoRoute → (route : Route) (text : List ℕ) → LooksFor head route text → ⊥
      there is route text looks = by_row (row_is route.op)
        where
          by_row : (route.op ≡ ListVaults) ⊎ Row route.op → ⊥
          by_row (inl list) =
              let clash : found.Route (record { account = route.account; op = ListVaults }) ≡ found.NoRoute =
              sym (listed route text looks list) ∙ is in cc
          by_row (inr r) =
              never route.account r.act r.vault (number_of (id_kind_of r.place) text) (sym (stepped route text looks r) ∙ is)

      back : (route_of head ≡ found.NoRoute) ⊎ ((route : Route) × (text : List ℕ) × LooksFor head route text)
          → ((route : Route) (text : List ℕ) → ¬ (LooksFor head route text)) → route_of head ≡ found.NoRoute
      back (inl is) none = is
      back (inr looks) none = absurd (none looks.0 looks.1 looks.2)

  pub bad_name_is_asked : (route_of head ≡ found.BadName) ↔
      ((route : Route) × (text : List ℕ) × LooksFor head route text × IsBadName (row route.op).1)
  bad_name_is_asked = (there looked, back)
    where
      bad_by : (account : Option (List ℕ)) (act : VaultOp) (vault : List ℕ) (number : Option ℕ)
          → named_route account act vault number ≡ found.BadName → ¬ IsTrue (is_vault_name vault)
      bad_by account act vault number is good = go number (sym (ap (λ t. cond t (numbered_route account act vault number) found.BadName) good) ∙ is)
        where
          go : (n : Option ℕ) → numbered_route account act vault n ≡ found.BadName → ⊥
          go None is = cc
          go (Some n) is = cc

      there : (route_of head ≡ found.NoRoute) ⊎ ((route : Route) × (text : List ℕ) × LooksFor head route text)
          → route_of head ≡ found.BadName
          → (route : Route) × (text : List ℕ) × LooksFor head route text × IsBadName (row route.op).1
      there (inl none) is = let clash : found.NoRoute ≡ found.BadName = sym none ∙ is in cc
      there (inr (route, text, looks)) is = by_row (row_is route.op)
        where
          by_row : (route.op ≡ ListVaults) ⊎ Row route.op
              → (route : Route) × (text : List ℕ) × LooksFor head route text × IsBadName (row route.op).1
          by_row (inl list) =
              let clash : found.Route (record { account = route.account; op = ListVaults }) ≡ found.BadName =
              sym (listed route text looks list) ∙ is in cc
          by_row (inr r) = (
            route,
            text,
            looks,
            subst (λ (l : List ℕ × List Piece). IsBadName l.1) (sym r.line)
                (bad_by route.account r.act r.vault (number_of (id_kind_of r.place) text) (sym (stepped route text looks r) ∙ is)),
          )

      back : (route : Route) × (text : List ℕ) × LooksFor head route text × IsBadName (row route.op).1
          → route_of head ≡ found.BadName
      back (route, text, looks, bad) = by_row (row_is route.op)
        where
          by_row : (route.op ≡ ListVaults) ⊎ Row route.op → route_of head ≡ found.BadName
          by_row (inl list) = absurd (subst (λ o. IsBadName (row o).1) list bad)
          by_row (inr r) =
              stepped route text looks r
              ∙ go (is_vault_name r.vault) (subst (λ (l : List ℕ × List Piece). IsBadName l.1) r.line bad)
            where
              go : (t : Bool) → (¬ IsTrue t)
                  → cond t (numbered_route route.account r.act r.vault (number_of (id_kind_of r.place) text)) found.BadName
                  ≡ found.BadName
              go true not_true = absurd (not_true refl)
              go false not_true = refl

  pub bad_id_is_asked : (route_of head ≡ found.BadId) ↔
      ((route : Route) × (text : List ℕ) × LooksFor head route text × IsGoodName (row route.op).1 × IsBadId text (row route.op).1)
  bad_id_is_asked = (there looked, back)
    where
      bad_by : (account : Option (List ℕ)) (act : VaultOp) (vault : List ℕ) (number : Option ℕ)
          → named_route account act vault number ≡ found.BadId → IsTrue (is_vault_name vault) × (number ≡ None)
      bad_by account act vault number is = go (is_vault_name vault) number is
        where
          go : (t : Bool) (n : Option ℕ) → cond t (numbered_route account act vault n) found.BadName ≡ found.BadId
              → (t ≡ true) × (n ≡ None)
          go false n is = cc
          go true None is = (refl, refl)
          go true (Some n) is = cc

      there : (route_of head ≡ found.NoRoute) ⊎ ((route : Route) × (text : List ℕ) × LooksFor head route text)
          → route_of head ≡ found.BadId → (route : Route) × (text : List ℕ) × LooksFor head route text
          × IsGoodName (row route.op).1 × IsBadId text (row route.op).1
      there (inl none) is = let clash : found.NoRoute ≡ found.BadId = sym none ∙ is in cc
      there (inr (route, text, looks)) is = by_row (row_is route.op)
        where
          by_row : (route.op ≡ ListVaults) ⊎ Row route.op → (route : Route) × (text : List ℕ) × LooksFor head route text
              × IsGoodName (row route.op).1 × IsBadId text (row route.op).1
          by_row (inl list) =
              let clash : found.Route (record { account = route.account; op = ListVaults }) ≡ found.BadId =
              sym (listed route text looks list) ∙ is in cc
          by_row (inr r) =
              let both = bad_by route.account r.act r.vault (number_of (id_kind_of r.place) text)
              (sym (stepped route text looks r) ∙ is) in (
                route,
                text,
                looks,
                subst (λ (l : List ℕ × List Piece). IsGoodName l.1) (sym r.line) both.0,
                subst (λ (l : List ℕ × List Piece). IsBadId text l.1) (sym r.line)
                    ((bad_number r.place text r.number).0 both.1),
              )

      back : (route : Route) × (text : List ℕ) × LooksFor head route text × IsGoodName (row route.op).1
          × IsBadId text (row route.op).1 → route_of head ≡ found.BadId
      back (route, text, looks, good, bad) = by_row (row_is route.op)
        where
          by_row : (route.op ≡ ListVaults) ⊎ Row route.op → route_of head ≡ found.BadId
          by_row (inl list) = absurd (subst (λ o. IsGoodName (row o).1) list good)
          by_row (inr r) =
              stepped route text looks r
              ∙ ap (λ t. cond t (numbered_route route.account r.act r.vault (number_of (id_kind_of r.place) text)) found.BadName)
              (subst (λ (l : List ℕ × List Piece). IsGoodName l.1) r.line good)
              ∙ ap (numbered_route route.account r.act r.vault)
              ((bad_number r.place text r.number).1 (subst (λ (l : List ℕ × List Piece). IsBadId text l.1) r.line bad))
