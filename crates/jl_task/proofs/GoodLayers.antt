-- What a good part of the tree says of its own parts, form by form.
use Rattle.std.proofs.Common.{◌≡◌, ◌∙◌, refl, sym, ap, subst, ℕ, ◌<◌, ◌≤◌, arith, Bool, true, false, ◌&&◌, cond, nat_eq, nat_le, nat_lt, List, [], ◌∷◌, ◌++◌, map, length, get_or}
use Rattle.std.specs.List.{flat_map, list_all}
use Rattle.std.proofs.lemmas.List.{length-map}
use Rattle.jl_model.specs.declared.limits.TheConstants.{MOST_ARGUMENTS}
use Rattle.jl_model.specs.declared.ty.Written.{Written}
use Rattle.jl_program.specs.declared.tree.Expr.{Expr, out-Expr, roll-out-Expr}
use Rattle.jl_program.specs.declared.tree.Item.{Item, out-Item, roll-out-Item}
use Rattle.jl_program.specs.declared.tree.Piece.{Piece, out-Piece, roll-out-Piece}
use Rattle.jl_program.specs.declared.tree.Stmt.{Stmt, out-Stmt, roll-out-Stmt}
use Rattle.jl_program.specs.declared.tree.Expr.TheOpen.{Expr-F, Stmt-F, Item-F, Piece-F}
use Rattle.jl_program.specs.declared.tree.Expr.TheOpen as F
use Rattle.jl_program.specs.declared.tree.Expr.TheFolds.{map-Expr, map-Item, map-Piece, map-Stmt, fold-roll-Expr, fold-roll-Item, fold-roll-Piece, fold-roll-Stmt}
use Rattle.jl_program.specs.declared.tree.Program.{Program}
use Rattle.jl_program.specs.BodyTypes.{is_seen, is_made, is_inferable, IsAllowedType}
use Rattle.jl_program.specs.Gathered.{Layer, in_stmt, in_item, in_piece, gathers, of_expr, of_stmt, of_item, of_piece, own_types, own_struct}
use Rattle.jl_program.specs.Prelude.{prelude_count}
use Rattle.jl_program.specs.Scope.{View, Scope, Statement, nothing_seen, bound, evaluated, same_flags, same_view, all_in, in_turn, all_types, expr_step, stmt_step, item_step, piece_step, is_valid_expr, item_of, is_valid_piece}
use Rattle.jl_task.specs.ValidPoint.{Every, IsInferred, IsClean, IsGood, stmt_of, IsGoodItem, IsGoodPiece, AreGood, AreGoodPieces, AreGoodStmts, AreGoodInTurn, AreGoodItems, Says, IsGoodAfterStmt}
use Rattle.jl_task.specs.Turns.{expr_in}

-- ---- truth values

pub both_true : (a b : Bool) → (a && b) ≡ true → (a ≡ true) × (b ≡ true)
both_true true b h = (refl, h)
both_true false b h = cc

flags_same : (as_ bs : List Bool) → same_flags as_ bs ≡ true → as_ ≡ bs
flags_same [] [] h = refl
flags_same [] (b ∷ bs) h = cc
flags_same (true ∷ as_) [] h = cc
flags_same (false ∷ as_) [] h = cc
flags_same (true ∷ as_) (true ∷ bs) h = ap (λ xs. true ∷ xs) (flags_same as_ bs h)
flags_same (true ∷ as_) (false ∷ bs) h = cc
flags_same (false ∷ as_) (true ∷ bs) h = cc
flags_same (false ∷ as_) (false ∷ bs) h = ap (λ xs. false ∷ xs) (flags_same as_ bs h)

view_same : (a b : View) → same_view a b ≡ true → a ≡ b
view_same a b h =
    let parts = both_true (nat_eq a.slots b.slots) (same_flags a.statics b.statics) h in
    let slots : a.slots ≡ b.slots = grind (arith, parts.0) in
    let flags : a.statics ≡ b.statics = flags_same a.statics b.statics parts.1 in
    λ i. record { slots = slots i; statics = flags i }

-- ---- each of a list

module _ {X : Type 0} (A : X → Type 0) where
  pub every_split : (xs ys : List X) → Every A (xs ++ ys) → Every A xs × Every A ys
  every_split [] ys h = (tt, h)
  every_split (x ∷ xs) ys h = let r = every_split xs ys h.1 in ((h.0, r.0), r.1)

  pub every_append : (xs ys : List X) → Every A xs → Every A ys → Every A (xs ++ ys)
  every_append [] ys h k = k
  every_append (x ∷ xs) ys h k = (h.0, every_append xs ys h.1 k)

module _ (P : Program) (views : List View) where
  abbrev Test : Type 0
  Test = Scope → Bool

  abbrev valid : Expr → Test
  valid = is_valid_expr P views

  abbrev piece_valid : Piece → Test
  piece_valid = is_valid_piece P views

  abbrev item_is : Item → Statement
  item_is = item_of P views

  abbrev stmt_is : Stmt → Statement
  stmt_is = stmt_of P views

  abbrev Allowed : List Written → Type 0
  Allowed = Every (IsAllowedType (all_types P))

  abbrev Small : List ℕ → Type 0
  Small = Every (IsInferred P)

  -- ---- by layers

  abbrev tested : Expr-F Expr Item Piece Stmt → Expr-F Test Statement Test Statement
  tested = map-Expr Expr Item Piece Stmt Test Statement Test Statement valid item_is piece_valid stmt_is

  module _ {X : Type 0} (own : Layer X → List X) where
    abbrev gathered : Expr-F Expr Item Piece Stmt → Layer X
    gathered = map-Expr Expr Item Piece Stmt (List X) (List X) (List X) (List X) (of_expr own) (of_item own) (of_piece own) (of_stmt own)

    gathered_is : (e : Expr) → of_expr own e ≡ gathers own (gathered (out-Expr e))
    gathered_is e = ap (of_expr own) (sym (roll-out-Expr e)) ∙ fold-roll-Expr (List X) (List X) (List X) (List X) (gathers own) in_item in_piece in_stmt (out-Expr e)

    stmt_gathered : (e : Stmt) → of_stmt own e ≡ in_stmt (map-Stmt Expr Item Piece Stmt (List X) (List X) (List X) (List X) (of_expr own) (of_item own) (of_piece own) (of_stmt own) (out-Stmt e))
    stmt_gathered e = ap (of_stmt own) (sym (roll-out-Stmt e)) ∙ fold-roll-Stmt (List X) (List X) (List X) (List X) (gathers own) in_item in_piece in_stmt (out-Stmt e)

    item_gathered : (e : Item) → of_item own e ≡ in_item (map-Item Expr Item Piece Stmt (List X) (List X) (List X) (List X) (of_expr own) (of_item own) (of_piece own) (of_stmt own) (out-Item e))
    item_gathered e = ap (of_item own) (sym (roll-out-Item e)) ∙ fold-roll-Item (List X) (List X) (List X) (List X) (gathers own) in_item in_piece in_stmt (out-Item e)

    piece_gathered : (e : Piece) → of_piece own e ≡ in_piece (map-Piece Expr Item Piece Stmt (List X) (List X) (List X) (List X) (of_expr own) (of_item own) (of_piece own) (of_stmt own) (out-Piece e))
    piece_gathered e = ap (of_piece own) (sym (roll-out-Piece e)) ∙ fold-roll-Piece (List X) (List X) (List X) (List X) (gathers own) in_item in_piece in_stmt (out-Piece e)

  valid_is : (e : Expr) → valid e ≡ expr_step P views (tested (out-Expr e))
  valid_is e = ap valid (sym (roll-out-Expr e)) ∙ fold-roll-Expr Test Statement Test Statement (expr_step P views) (item_step P views) (piece_step P views) (stmt_step P views) (out-Expr e)

  pub stmt_layer : (e : Stmt) → stmt_is e ≡ stmt_step P views (map-Stmt Expr Item Piece Stmt Test Statement Test Statement valid item_is piece_valid stmt_is (out-Stmt e))
  stmt_layer e = ap stmt_is (sym (roll-out-Stmt e)) ∙ fold-roll-Stmt Test Statement Test Statement (expr_step P views) (item_step P views) (piece_step P views) (stmt_step P views) (out-Stmt e)

  pub item_layer : (e : Item) → item_is e ≡ item_step P views (map-Item Expr Item Piece Stmt Test Statement Test Statement valid item_is piece_valid stmt_is (out-Item e))
  item_layer e = ap item_is (sym (roll-out-Item e)) ∙ fold-roll-Item Test Statement Test Statement (expr_step P views) (item_step P views) (piece_step P views) (stmt_step P views) (out-Item e)

  pub piece_layer : (e : Piece) → piece_valid e ≡ piece_step P views (map-Piece Expr Item Piece Stmt Test Statement Test Statement valid item_is piece_valid stmt_is (out-Piece e))
  piece_layer e = ap piece_valid (sym (roll-out-Piece e)) ∙ fold-roll-Piece Test Statement Test Statement (expr_step P views) (item_step P views) (piece_step P views) (stmt_step P views) (out-Piece e)

  -- ---- lists of parts

  abbrev Clean : List Written → List ℕ → Type 0
  Clean ts ns = IsClean P ts ns

  pub clean_split : (ts us : List Written) (ns ms : List ℕ) → Clean (ts ++ us) (ns ++ ms) → Clean ts ns × Clean us ms
  clean_split ts us ns ms c =
      let a = every_split (IsAllowedType (all_types P)) ts us c.written in
      let b = every_split (IsInferred P) ns ms c.inferred in
      (record { written = a.0; inferred = b.0 }, record { written = a.1; inferred = b.1 })

  abbrev in_all : {A X : Type 0} → (A → List X) → List A → List X
  in_all f xs = flat_map (λ x. x) (map f xs)

  pub exprs_good : (xs : List Expr) (s : Scope) → all_in (map valid xs) s ≡ true → Clean (in_all (of_expr own_types) xs) (in_all (of_expr own_struct) xs) → AreGood P views xs s
  exprs_good [] s h c = tt
  exprs_good (x ∷ xs) s h c =
      let v = both_true (valid x s) (all_in (map valid xs) s) h in
      let p = clean_split (of_expr own_types x) (in_all (of_expr own_types) xs) (of_expr own_struct x) (in_all (of_expr own_struct) xs) c in
      (record { valid = v.0; clean = p.0 }, exprs_good xs s v.1 p.1)

  pub pieces_are_good : (xs : List Piece) (s : Scope) → all_in (map piece_valid xs) s ≡ true → Clean (in_all (of_piece own_types) xs) (in_all (of_piece own_struct) xs) → AreGoodPieces P views xs s
  pieces_are_good [] s h c = tt
  pieces_are_good (x ∷ xs) s h c =
      let v = both_true (piece_valid x s) (all_in (map piece_valid xs) s) h in
      let p = clean_split (of_piece own_types x) (in_all (of_piece own_types) xs) (of_piece own_struct x) (in_all (of_piece own_struct) xs) c in
      (record { valid = v.0; clean = p.0 }, pieces_are_good xs s v.1 p.1)

  pub stmts_are_good : (xs : List Stmt) (s : Scope) → in_turn (map stmt_is xs) s ≡ true → Clean (in_all (of_stmt own_types) xs) (in_all (of_stmt own_struct) xs) → AreGoodStmts P views xs s
  stmts_are_good [] s h c = tt
  stmts_are_good (x ∷ xs) s h c =
      let next : Scope = cond (stmt_is x).binds (bound s) s in
      let v = both_true ((stmt_is x).valid s) (in_turn (map stmt_is xs) next) h in
      let p = clean_split (of_stmt own_types x) (in_all (of_stmt own_types) xs) (of_stmt own_struct x) (in_all (of_stmt own_struct) xs) c in
      (record { valid = v.0; clean = p.0 }, stmts_are_good xs next v.1 p.1)

  pub turns_are_good : (xs : List Item) (s : Scope) → in_turn (map item_is xs) s ≡ true → Clean (flat_map (of_item own_types) xs) (flat_map (of_item own_struct) xs) → AreGoodInTurn P views xs s
  turns_are_good [] s h c = tt
  turns_are_good (x ∷ xs) s h c =
      let next : Scope = cond (item_is x).binds (bound s) s in
      let v = both_true ((item_is x).valid s) (in_turn (map item_is xs) next) h in
      let p = clean_split (of_item own_types x) (flat_map (of_item own_types) xs) (of_item own_struct x) (flat_map (of_item own_struct) xs) c in
      (record { valid = v.0; clean = p.0 }, turns_are_good xs next v.1 p.1)

  fresh_are_good : (xs : List Item) (s : Scope) → list_all (λ (x : Statement). x.valid (evaluated s)) (map item_is xs) ≡ true → Clean (in_all (of_item own_types) xs) (in_all (of_item own_struct) xs) → AreGoodItems P views true xs s
  fresh_are_good [] s h c = tt
  fresh_are_good (x ∷ xs) s h c =
      let v = both_true ((item_is x).valid (evaluated s)) (list_all (λ (y : Statement). y.valid (evaluated s)) (map item_is xs)) h in
      let p = clean_split (of_item own_types x) (in_all (of_item own_types) xs) (of_item own_struct x) (in_all (of_item own_struct) xs) c in
      (record { valid = v.0; clean = p.0 }, fresh_are_good xs s v.1 p.1)

  -- ---- the forms

  abbrev LayerClean : Expr-F Expr Item Piece Stmt → Type 0
  LayerClean x = Clean (gathers own_types (gathered own_types x)) (gathers own_struct (gathered own_struct x))

  two_good : (a b : Expr) (s : Scope) → (valid a s && valid b s) ≡ true → Clean (of_expr own_types a ++ of_expr own_types b) (of_expr own_struct a ++ of_expr own_struct b) → IsGood P views a s × IsGood P views b s
  two_good a b s h c =
      let v = both_true (valid a s) (valid b s) h in
      let p = clean_split (of_expr own_types a) (of_expr own_types b) (of_expr own_struct a) (of_expr own_struct b) c in
      (record { valid = v.0; clean = p.0 }, record { valid = v.1; clean = p.1 })

  call_says : (f : ℕ) (xs : List Expr) (s : Scope) → (nat_lt f (length P.functions) && (nat_le (length (map valid xs)) MOST_ARGUMENTS && all_in (map valid xs) s)) ≡ true
      → Clean (in_all (of_expr own_types) xs) (in_all (of_expr own_struct) xs) → (f < length P.functions) × (length xs ≤ MOST_ARGUMENTS) × AreGood P views xs s
  call_says f xs s h c =
      let v = both_true (nat_lt f (length P.functions)) (nat_le (length (map valid xs)) MOST_ARGUMENTS && all_in (map valid xs) s) h in
      let w = both_true (nat_le (length (map valid xs)) 8) (all_in (map valid xs) s) v.1 in
      let few : length (map valid xs) ≤ MOST_ARGUMENTS = grind (arith, w.0) in
      let near : f < length P.functions = grind (arith, v.0) in
      (near, subst (λ n. n ≤ MOST_ARGUMENTS) (length-map xs valid) few, exprs_good xs s w.1 c)

  layer_says : (x : Expr-F Expr Item Piece Stmt) (s : Scope) → expr_step P views (tested x) s ≡ true → LayerClean x → Says P views x s
  layer_says (F.Int n) s h c = tt
  layer_says (F.Bool b) s h c = tt
  layer_says F.Nothing s h c = tt
  layer_says (F.Local x) s h c = grind (arith, h)
  layer_says (F.Call f xs) s h c = call_says f xs s h c
  layer_says (F.Latest f xs) s h c = call_says f xs s h c
  layer_says (F.Make t xs) s h c =
      let v = both_true (is_seen (all_types P) s.view.statics t) (is_made (all_types P) t && all_in (map valid xs) s) h in
      let w = both_true (is_made (all_types P) t) (all_in (map valid xs) s) v.1 in
      (v.0, w.0, c.written.0, exprs_good xs s w.1 (record { written = c.written.1; inferred = c.inferred }))
  layer_says (F.Infer name xs) s h c =
      let v = both_true (is_inferable (all_types P) name) (all_in (map valid xs) s) h in
      (v.0, c.inferred.0, exprs_good xs s v.1 (record { written = c.written; inferred = c.inferred.1 }))
  layer_says (F.Parts xs) s h c = exprs_good xs s h c
  layer_says (F.Field x name) s h c = record { valid = (both_true _ _ h).0; clean = c }
  layer_says (F.Part x number) s h c =
      let v = both_true (valid x s) (nat_le 1 number) h in
      let low : 1 ≤ number = grind (arith, v.1) in
      (record { valid = v.0; clean = c }, low)
  layer_says (F.Egal a b negated) s h c = two_good a b s h c
  layer_says (F.Isa x t) s h c =
      let v = both_true (valid x s) (is_seen (all_types P) s.view.statics t) h in
      (v.1, c.written.0, record { valid = v.0; clean = record { written = c.written.1; inferred = c.inferred } })
  layer_says (F.Sub t u) s h c =
      let v = both_true (is_seen (all_types P) s.view.statics t) (is_seen (all_types P) s.view.statics u) h in
      (v.0, c.written.0, v.1, c.written.1.0)
  layer_says (F.If test then_ else_) s h c =
      let v = both_true (valid test s) (valid then_ s && valid else_ s) h in
      let w = both_true (valid then_ s) (valid else_ s) v.1 in
      let p = clean_split (of_expr own_types test ++ of_expr own_types then_) (of_expr own_types else_) (of_expr own_struct test ++ of_expr own_struct then_) (of_expr own_struct else_) c in
      let q = clean_split (of_expr own_types test) (of_expr own_types then_) (of_expr own_struct test) (of_expr own_struct then_) p.0 in
      (record { valid = v.0; clean = q.0 }, record { valid = w.0; clean = q.1 }, record { valid = w.1; clean = p.1 })
  layer_says (F.And a b) s h c = two_good a b s h c
  layer_says (F.Or a b) s h c = two_good a b s h c
  layer_says (F.Block xs) s h c = stmts_are_good xs s h c
  layer_says (F.Eval xs) s h c = fresh_are_good xs s h c
  layer_says (F.Spawn place) s h c =
      let v = both_true (nat_lt place (length views)) (nat_le s.least place && same_view (get_or views place nothing_seen) s.view) h in
      let w = both_true (nat_le s.least place) (same_view (get_or views place nothing_seen) s.view) v.1 in
      let near : place < length views = grind (arith, v.0) in
      (near, view_same (get_or views place nothing_seen) s.view w.1)
  layer_says (F.Delete place) s h c = grind (arith, h)
  layer_says (F.Fetch x) s h c = record { valid = h; clean = c }
  layer_says (F.Print ps line) s h c = pieces_are_good ps s h c

  clean_moved : (ts us : List Written) (ns ms : List ℕ) → ts ≡ us → ns ≡ ms → Clean ts ns → Clean us ms
  clean_moved ts us ns ms e f c = record { written = subst Allowed e c.written; inferred = subst Small f c.inferred }

  -- what a good expression says
  pub says : (e : Expr) (s : Scope) → IsGood P views e s → Says P views (out-Expr e) s
  says e s g =
      layer_says (out-Expr e) s (subst (λ (t : Test). t s ≡ true) (valid_is e) g.valid)
      (clean_moved (of_expr own_types e) (gathers own_types (gathered own_types (out-Expr e))) (of_expr own_struct e) (gathers own_struct (gathered own_struct (out-Expr e)))
      (gathered_is own_types e) (gathered_is own_struct e) g.clean)

  -- the same, for a form that is known
  pub says_of : (e : Expr) (x : Expr-F Expr Item Piece Stmt) (s : Scope) → out-Expr e ≡ x → IsGood P views e s → Says P views x s
  says_of e x s h g = subst (λ y. Says P views y s) h (says e s g)

  -- ---- statements and pieces

  abbrev stmt_tested : Stmt-F Expr Item Piece Stmt → Statement
  stmt_tested x = stmt_step P views (map-Stmt Expr Item Piece Stmt Test Statement Test Statement valid item_is piece_valid stmt_is x)

  abbrev item_tested : Item-F Expr Item Piece Stmt → Statement
  item_tested x = item_step P views (map-Item Expr Item Piece Stmt Test Statement Test Statement valid item_is piece_valid stmt_is x)

  abbrev piece_tested : Piece-F Expr Item Piece Stmt → Test
  piece_tested x = piece_step P views (map-Piece Expr Item Piece Stmt Test Statement Test Statement valid item_is piece_valid stmt_is x)

  module _ {X : Type 0} (own : Layer X → List X) where
    abbrev in_stmt_layer : Stmt-F Expr Item Piece Stmt → List X
    in_stmt_layer x = in_stmt (map-Stmt Expr Item Piece Stmt (List X) (List X) (List X) (List X) (of_expr own) (of_item own) (of_piece own) (of_stmt own) x)

    abbrev in_item_layer : Item-F Expr Item Piece Stmt → List X
    in_item_layer x = in_item (map-Item Expr Item Piece Stmt (List X) (List X) (List X) (List X) (of_expr own) (of_item own) (of_piece own) (of_stmt own) x)

    abbrev in_piece_layer : Piece-F Expr Item Piece Stmt → List X
    in_piece_layer x = in_piece (map-Piece Expr Item Piece Stmt (List X) (List X) (List X) (List X) (of_expr own) (of_item own) (of_piece own) (of_stmt own) x)

  -- a statement of a block: its expression, and what follows it
  stmt_says : (y : Stmt-F Expr Item Piece Stmt) (xs : List Stmt) (s : Scope) → (stmt_tested y).valid s ≡ true → Clean (in_stmt_layer own_types y) (in_stmt_layer own_struct y)
      → AreGoodStmts P views xs (cond (stmt_tested y).binds (bound s) s) → IsGood P views (expr_in y) s × IsGoodAfterStmt P views y xs s
  stmt_says (F.Stmt::Bind slot e) xs s h c k =
      let v = both_true (nat_eq slot s.view.slots) (valid e s) h in
      let at : slot ≡ s.view.slots = grind (arith, v.0) in
      (record { valid = v.1; clean = c }, (at, k))
  stmt_says (F.Stmt::Do e) xs s h c k = (record { valid = h; clean = c }, k)
  stmt_says (F.Return e) xs s h c k = (record { valid = (both_true s.returns (valid e s) h).1; clean = c }, k)

  pub stmt_parts : (x : Stmt) (xs : List Stmt) (s : Scope) → AreGoodStmts P views (x ∷ xs) s → IsGood P views (expr_in (out-Stmt x)) s × IsGoodAfterStmt P views (out-Stmt x) xs s
  stmt_parts x xs s h =
      stmt_says (out-Stmt x) xs s (subst (λ (z : Statement). z.valid s ≡ true) (stmt_layer x) h.0.valid)
      (clean_moved (of_stmt own_types x) (in_stmt_layer own_types (out-Stmt x)) (of_stmt own_struct x) (in_stmt_layer own_struct (out-Stmt x))
      (stmt_gathered own_types x) (stmt_gathered own_struct x) h.0.clean)
      (subst (λ (z : Statement). AreGoodStmts P views xs (cond z.binds (bound s) s)) (stmt_layer x) h.1)

  -- a statement at the top or of an evaluated block, which begins where this is visible: what it is, and what follows it
  abbrev pub SaysItem : Item-F Expr Item Piece Stmt → Bool → List Item → Scope → Type 0
  SaysItem (F.Define site) fresh xs s = (prelude_count ≤ site) × (site < length P.sites) × AreGoodItems P views fresh xs s
  SaysItem (F.Item::Bind slot e) fresh xs s = IsGood P views e s × (slot ≡ s.view.slots) × AreGoodItems P views fresh xs (bound s)
  SaysItem (F.Item::Do e) fresh xs s = IsGood P views e s × AreGoodItems P views fresh xs s

  -- where such a statement begins
  abbrev pub begins_in : Bool → Scope → Scope
  begins_in true s = evaluated s
  begins_in false s = s

  item_says : (y : Item-F Expr Item Piece Stmt) (fresh : Bool) (xs : List Item) (s : Scope) → (item_tested y).valid s ≡ true → Clean (in_item_layer own_types y) (in_item_layer own_struct y)
      → AreGoodItems P views fresh xs (cond (item_tested y).binds (bound s) s) → SaysItem y fresh xs s
  item_says (F.Define site) fresh xs s h c k =
      let v = both_true (nat_le prelude_count site) (nat_lt site (length P.sites)) h in
      let low : prelude_count ≤ site = grind (arith, v.0) in
      let near : site < length P.sites = grind (arith, v.1) in
      (low, near, k)
  item_says (F.Item::Bind slot e) fresh xs s h c k =
      let v = both_true (nat_eq slot s.view.slots) (valid e s) h in
      let at : slot ≡ s.view.slots = grind (arith, v.0) in
      (record { valid = v.1; clean = c }, at, k)
  item_says (F.Item::Do e) fresh xs s h c k = (record { valid = h; clean = c }, k)

  item_of_parts : (x : Item) (fresh : Bool) (xs : List Item) (s : Scope) → IsGoodItem P views x s → AreGoodItems P views fresh xs (cond (item_is x).binds (bound s) s) → SaysItem (out-Item x) fresh xs s
  item_of_parts x fresh xs s g k =
      item_says (out-Item x) fresh xs s (subst (λ (z : Statement). z.valid s ≡ true) (item_layer x) g.valid)
      (clean_moved (of_item own_types x) (in_item_layer own_types (out-Item x)) (of_item own_struct x) (in_item_layer own_struct (out-Item x))
      (item_gathered own_types x) (item_gathered own_struct x) g.clean)
      (subst (λ (z : Statement). AreGoodItems P views fresh xs (cond z.binds (bound s) s)) (item_layer x) k)

  -- an evaluated statement sees nothing, whatever was bound before it
  still_fresh : (b : Bool) (xs : List Item) (s : Scope) → AreGoodItems P views true xs s → AreGoodItems P views true xs (cond b (bound (evaluated s)) (evaluated s))
  still_fresh true xs s h = h
  still_fresh false xs s h = h

  pub item_parts : (fresh : Bool) (x : Item) (xs : List Item) (s : Scope) → AreGoodItems P views fresh (x ∷ xs) s → SaysItem (out-Item x) fresh xs (begins_in fresh s)
  item_parts true x xs s h = item_of_parts x true xs (evaluated s) h.0 (still_fresh (item_is x).binds xs s h.1)
  item_parts false x xs s h = item_of_parts x false xs s h.0 h.1

  -- what a good piece says
  abbrev pub SaysPiece : Piece-F Expr Item Piece Stmt → Scope → Type 0
  SaysPiece (F.Text bytes) s = Unit {0}
  SaysPiece (F.Show e) s = IsGood P views e s

  piece_says : (y : Piece-F Expr Item Piece Stmt) (s : Scope) → piece_tested y s ≡ true → Clean (in_piece_layer own_types y) (in_piece_layer own_struct y) → SaysPiece y s
  piece_says (F.Text bytes) s h c = tt
  piece_says (F.Show e) s h c = record { valid = h; clean = c }

  pub piece_part : (x : Piece) (s : Scope) → IsGoodPiece P views x s → SaysPiece (out-Piece x) s
  piece_part x s g =
      piece_says (out-Piece x) s (subst (λ (t : Test). t s ≡ true) (piece_layer x) g.valid)
      (clean_moved (of_piece own_types x) (in_piece_layer own_types (out-Piece x)) (of_piece own_struct x) (in_piece_layer own_struct (out-Piece x))
      (piece_gathered own_types x) (piece_gathered own_struct x) g.clean)
