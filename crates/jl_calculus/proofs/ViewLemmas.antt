-- For a valid program, what is visible at its spawn places is what its validity was shown with.
use Rattle.std.proofs.Common.{◌≡◌, ◌∙◌, refl, sym, ap, subst, ℕ, suc, ◌+◌, ◌<◌, ◌≤◌, arith, Bool, true, false, ◌&&◌, cond, nat_eq, nat_le, nat_lt, All, List, [], ◌∷◌, ◌++◌, map, length, take, drop, get_or, take-append-drop}
use Rattle.std.specs.List.{flat_map, list_all}
use Rattle.std.proofs.lemmas.List.Elements.{All-head, All-tail}
use Rattle.jl_program.specs.declared.tree.Expr.{Expr, roll-Expr}
use Rattle.jl_program.specs.declared.tree.Item.{Item, roll-Item}
use Rattle.jl_program.specs.declared.tree.Piece.{Piece, roll-Piece}
use Rattle.jl_program.specs.declared.tree.Stmt.{Stmt, roll-Stmt}
use Rattle.jl_program.specs.declared.tree.Site.{Site}
use Rattle.jl_program.specs.declared.tree.Program.{Program}
use Rattle.jl_program.specs.declared.tree.Expr.TheOpen.{Expr-F, Stmt-F, Item-F, Piece-F}
use Rattle.jl_program.specs.declared.tree.Expr.TheOpen as F
use Rattle.jl_program.specs.declared.tree.Expr.TheVariants as E
use Rattle.jl_program.specs.declared.tree.Expr.TheFolds.{ind-Expr, ind-Item, map-Expr, map-Item, map-Piece, map-Stmt, fold-Piece, fold-Stmt, fold-roll-Expr, fold-roll-Item, fold-roll-Piece, fold-roll-Stmt}
use Rattle.jl_program.specs.Gathered.{in_stmt, in_item, in_piece, gathers, of_expr, of_stmt, of_item, of_piece, own_place, spawned_places, times}
use Rattle.jl_program.specs.Prelude.{prelude_sites}
use Rattle.jl_program.specs.Scope.{View, Scope, Statement, nothing_seen, bound, evaluated, in_body, in_task, at_top, same_flags, same_view, all_in, expr_step, stmt_step, item_step, piece_step, is_valid_expr, item_of, is_valid_piece, are_valid_items, are_valid_tasks}
use Rattle.jl_program.specs.Scope as Sc
use Rattle.jl_program.specs.Valid.{IsValid, IsValidSite}
use Rattle.jl_program.proofs.ValidLayers.{stmt_of, valid-nothing}
use Rattle.jl_calculus.specs.Views.{Spawned, Finds, Walk, wider, find_all, find_in_turn, find_step, find_stmt_step, find_item_step, find_piece_step, find_spawns, walk_item, outer_spawns, view_among, with_inner, view_at, views_from, views_of}

-- ---- truth values

both_true : (a b : Bool) → (a && b) ≡ true → (a ≡ true) × (b ≡ true)
both_true true b h = (refl, h)
both_true false b h = cc

flags_same : (as_ bs : List Bool) → same_flags as_ bs ≡ true → as_ ≡ bs
flags_same [] [] h = refl
flags_same [] (b ∷ bs) h = cc
flags_same (true ∷ as_) [] h = cc
flags_same (false ∷ as_) [] h = cc
flags_same (true ∷ as_) (true ∷ bs) h = ap (λ xs. true ∷ xs) (flags_same as_ bs h)
flags_same (true ∷ as_) (false ∷ bs) h = cc
flags_same (false ∷ as_) (true ∷ bs) h = cc
flags_same (false ∷ as_) (false ∷ bs) h = ap (λ xs. false ∷ xs) (flags_same as_ bs h)

view_same : (a b : View) → same_view a b ≡ true → a ≡ b
view_same a b h =
    let parts = both_true (nat_eq a.slots b.slots) (same_flags a.statics b.statics) h in
    let slots : a.slots ≡ b.slots = grind (arith, parts.0) in
    let flags : a.statics ≡ b.statics = flags_same a.statics b.statics parts.1 in
    λ i. record { slots = slots i; statics = flags i }

module _ (P : Program) (views : List View) where
  -- a `Spawn` for each number, in order: its place is this number, which is no less than the least, and it sees what that place sees
  abbrev Fine : ℕ → List ℕ → List Spawned → Type 0
  Fine least [] [] = Unit {0}
  Fine least [] (p ∷ ps) = ⊥
  Fine least (n ∷ ns) [] = ⊥
  Fine least (n ∷ ns) (p ∷ ps) = (p.place ≡ n) × (least ≤ n) × (get_or views n nothing_seen ≡ p.view) × Fine least ns ps

  fine_append : (least : ℕ) (ns ms : List ℕ) (ps qs : List Spawned) → Fine least ns ps → Fine least ms qs → Fine least (ns ++ ms) (ps ++ qs)
  fine_append least [] ms [] qs h k = k
  fine_append least [] ms (p ∷ ps) qs h k = absurd h
  fine_append least (n ∷ ns) ms [] qs h k = absurd h
  fine_append least (n ∷ ns) ms (p ∷ ps) qs (a, b, c, h) k = (a, b, c, fine_append least ns ms ps qs h k)

  fine_less : (low least : ℕ) (ns : List ℕ) (ps : List Spawned) → low ≤ least → Fine least ns ps → Fine low ns ps
  fine_less low least [] [] l h = tt
  fine_less low least [] (p ∷ ps) l h = absurd h
  fine_less low least (n ∷ ns) [] l h = absurd h
  fine_less low least (n ∷ ns) (p ∷ ps) l (a, b, c, h) = (a, omega (arith, b, l), c, fine_less low least ns ps l h)

  -- ---- the statements, by induction on the tree

  abbrev Test : Type 0
  Test = Scope → Bool

  abbrev valid : Expr → Test
  valid = is_valid_expr P views

  abbrev piece_spawns : Piece → Finds
  piece_spawns = fold-Piece Finds Walk Finds Walk find_step find_item_step find_piece_step find_stmt_step

  abbrev stmt_placing : Stmt → Walk
  stmt_placing = fold-Stmt Finds Walk Finds Walk find_step find_item_step find_piece_step find_stmt_step

  abbrev FineIn : Test → List ℕ → Finds → Type 0
  FineIn test ns has = (s : Scope) → test s ≡ true → Fine s.least ns (has s.view)

  abbrev Stated : Statement → List ℕ → Walk → Type 0
  Stated a ns p = (p.binds ≡ a.binds) × FineIn a.valid ns p.finds

  abbrev ExprFine : Expr → Type 0
  ExprFine e = FineIn (valid e) (of_expr own_place e) (find_spawns e)

  abbrev ItemFine : Item → Type 0
  ItemFine e = Stated (item_of P views e) (of_item own_place e) (walk_item e)

  abbrev PieceFine : Piece → Type 0
  PieceFine e = FineIn (is_valid_piece P views e) (of_piece own_place e) (piece_spawns e)

  abbrev StmtFine : Stmt → Type 0
  StmtFine e = Stated (stmt_of P views e) (of_stmt own_place e) (stmt_placing e)

  abbrev ExprOf : Type 0
  ExprOf = (x : Expr) × ExprFine x

  abbrev ItemOf : Type 0
  ItemOf = (x : Item) × ItemFine x

  abbrev PieceOf : Type 0
  PieceOf = (x : Piece) × PieceFine x

  abbrev StmtOf : Type 0
  StmtOf = (x : Stmt) × StmtFine x

  -- ---- lists of parts

  each_fine : {X : Type 0} (test : X → Test) (ns : X → List ℕ) (has : X → Finds) (xs : List ((x : X) × FineIn (test x) (ns x) (has x)))
      → FineIn (λ s. all_in (map test (map (λ e. e.0) xs)) s) (flat_map (λ x. x) (map ns (map (λ e. e.0) xs))) (find_all (map has (map (λ e. e.0) xs)))
  each_fine test ns has [] s h = tt
  each_fine test ns has (x ∷ xs) s h =
      let parts = both_true (test x.0 s) (all_in (map test (map (λ e. e.0) xs)) s) h in
      fine_append s.least (ns x.0) (flat_map (λ x. x) (map ns (map (λ e. e.0) xs))) (has x.0 s.view) (find_all (map has (map (λ e. e.0) xs)) s.view)
      (x.1 s parts.0)
      (each_fine test ns has xs s parts.1)

  -- the scope after a statement, and what is visible there
  after_view : (b c : Bool) (s : Scope) → c ≡ b → (cond b (bound s) s).view ≡ cond c (wider s.view) s.view
  after_view true true s e = refl
  after_view false false s e = refl
  after_view true false s e = cc
  after_view false true s e = cc

  after_least : (b : Bool) (s : Scope) → (cond b (bound s) s).least ≡ s.least
  after_least true s = refl
  after_least false s = refl

  turn_fine : {X : Type 0} (stated : X → Statement) (ns : X → List ℕ) (has : X → Walk) (xs : List ((x : X) × Stated (stated x) (ns x) (has x)))
      → FineIn (Sc.in_turn (map stated (map (λ e. e.0) xs))) (flat_map (λ x. x) (map ns (map (λ e. e.0) xs))) (find_in_turn (map has (map (λ e. e.0) xs)))
  turn_fine stated ns has [] s h = tt
  turn_fine stated ns has (x ∷ xs) s h =
      let next : Scope = cond (stated x.0).binds (bound s) s in
      let parts = both_true ((stated x.0).valid s) (Sc.in_turn (map stated (map (λ e. e.0) xs)) next) h in
      let rest : Fine next.least (flat_map (λ x. x) (map ns (map (λ e. e.0) xs))) (find_in_turn (map has (map (λ e. e.0) xs)) next.view) = turn_fine stated ns has xs next parts.1 in
      let seen = subst (λ (v : View). Fine next.least (flat_map (λ x. x) (map ns (map (λ e. e.0) xs))) (find_in_turn (map has (map (λ e. e.0) xs)) v))
      (after_view (stated x.0).binds (has x.0).binds s x.1.0) rest in
      fine_append s.least (ns x.0) (flat_map (λ x. x) (map ns (map (λ e. e.0) xs))) ((has x.0).finds s.view)
      (find_in_turn (map has (map (λ e. e.0) xs)) (cond (has x.0).binds (wider s.view) s.view))
      (x.1.1 s parts.0)
      (subst (λ (n : ℕ). Fine n (flat_map (λ x. x) (map ns (map (λ e. e.0) xs))) (find_in_turn (map has (map (λ e. e.0) xs)) (cond (has x.0).binds (wider s.view) s.view))) (after_least (stated x.0).binds s) seen)

  eval_fine : (xs : List ItemOf) (s : Scope) → list_all (λ (x : Statement). x.valid (evaluated s)) (map (item_of P views) (map (λ e. e.0) xs)) ≡ true
      → Fine s.least (flat_map (λ x. x) (map (of_item own_place) (map (λ e. e.0) xs))) (flat_map (λ (x : Walk). x.finds nothing_seen) (map walk_item (map (λ e. e.0) xs)))
  eval_fine [] s h = tt
  eval_fine (x ∷ xs) s h =
      let parts = both_true ((item_of P views x.0).valid (evaluated s)) (list_all (λ (y : Statement). y.valid (evaluated s)) (map (item_of P views) (map (λ e. e.0) xs))) h in
      fine_append s.least (of_item own_place x.0) (flat_map (λ x. x) (map (of_item own_place) (map (λ e. e.0) xs))) ((walk_item x.0).finds nothing_seen)
      (flat_map (λ (y : Walk). y.finds nothing_seen) (map walk_item (map (λ e. e.0) xs)))
      (x.1.1 (evaluated s) parts.0)
      (eval_fine xs s parts.1)

  -- ---- one layer

  abbrev expr_of : Expr-F ExprOf ItemOf PieceOf StmtOf → Expr-F Expr Item Piece Stmt
  expr_of = map-Expr ExprOf ItemOf PieceOf StmtOf Expr Item Piece Stmt (λ e. e.0) (λ e. e.0) (λ e. e.0) (λ e. e.0)

  abbrev tested : Expr-F Expr Item Piece Stmt → Expr-F Test Statement Test Statement
  tested = map-Expr Expr Item Piece Stmt Test Statement Test Statement valid (item_of P views) (is_valid_piece P views) (stmt_of P views)

  abbrev gathered : Expr-F Expr Item Piece Stmt → Expr-F (List ℕ) (List ℕ) (List ℕ) (List ℕ)
  gathered = map-Expr Expr Item Piece Stmt (List ℕ) (List ℕ) (List ℕ) (List ℕ) (of_expr own_place) (of_item own_place) (of_piece own_place) (of_stmt own_place)

  abbrev placed : Expr-F Expr Item Piece Stmt → Expr-F Finds Walk Finds Walk
  placed = map-Expr Expr Item Piece Stmt Finds Walk Finds Walk find_spawns walk_item piece_spawns stmt_placing

  abbrev exprs : (xs : List ExprOf) → FineIn (λ s. all_in (map valid (map (λ e. e.0) xs)) s) (flat_map (λ x. x) (map (of_expr own_place) (map (λ e. e.0) xs))) (find_all (map find_spawns (map (λ e. e.0) xs)))
  exprs xs = each_fine valid (of_expr own_place) find_spawns xs

  two_fine : (a b : ExprOf) (s : Scope) → (valid a.0 s && valid b.0 s) ≡ true → Fine s.least (of_expr own_place a.0 ++ of_expr own_place b.0) (find_spawns a.0 s.view ++ find_spawns b.0 s.view)
  two_fine a b s h =
      let parts = both_true (valid a.0 s) (valid b.0 s) h in
      fine_append s.least (of_expr own_place a.0) (of_expr own_place b.0) (find_spawns a.0 s.view) (find_spawns b.0 s.view) (a.1 s parts.0) (b.1 s parts.1)

  layer_fine : (y : Expr-F ExprOf ItemOf PieceOf StmtOf) → FineIn (expr_step P views (tested (expr_of y))) (gathers own_place (gathered (expr_of y))) (find_step (placed (expr_of y)))
  layer_fine (F.Int n) s h = tt
  layer_fine (F.Bool b) s h = tt
  layer_fine F.Nothing s h = tt
  layer_fine (F.Local x) s h = tt
  layer_fine (F.Call f xs) s h = exprs xs s (both_true _ _ (both_true _ _ h).1).1
  layer_fine (F.Latest f xs) s h = exprs xs s (both_true _ _ (both_true _ _ h).1).1
  layer_fine (F.Make t xs) s h = exprs xs s (both_true _ _ (both_true _ _ h).1).1
  layer_fine (F.Infer name xs) s h = exprs xs s (both_true _ _ h).1
  layer_fine (F.Parts xs) s h = exprs xs s h
  layer_fine (F.Field x name) s h = x.1 s (both_true _ _ h).0
  layer_fine (F.Part x number) s h = x.1 s (both_true _ _ h).0
  layer_fine (F.Egal a b negated) s h = two_fine a b s h
  layer_fine (F.Isa x t) s h = x.1 s (both_true _ _ h).0
  layer_fine (F.Sub t u) s h = tt
  layer_fine (F.If test then_ else_) s h =
      let rest = both_true (valid then_.0 s) (valid else_.0 s) (both_true _ _ h).1 in
      fine_append s.least (of_expr own_place test.0 ++ of_expr own_place then_.0) (of_expr own_place else_.0) (find_spawns test.0 s.view ++ find_spawns then_.0 s.view) (find_spawns else_.0 s.view)
      (fine_append s.least (of_expr own_place test.0) (of_expr own_place then_.0) (find_spawns test.0 s.view) (find_spawns then_.0 s.view) (test.1 s (both_true _ _ h).0) (then_.1 s rest.0))
      (else_.1 s rest.1)
  layer_fine (F.And a b) s h = two_fine a b s h
  layer_fine (F.Or a b) s h = two_fine a b s h
  layer_fine (F.Block xs) s h = turn_fine (stmt_of P views) (of_stmt own_place) stmt_placing xs s h
  layer_fine (F.Eval xs) s h = eval_fine xs s h
  layer_fine (F.Spawn place) s h =
      let parts = both_true (nat_lt place (length views)) (nat_le s.least place && same_view (get_or views place nothing_seen) s.view) h in
      let rest = both_true (nat_le s.least place) (same_view (get_or views place nothing_seen) s.view) parts.1 in
      (refl, grind (arith, rest.0), view_same (get_or views place nothing_seen) s.view rest.1, tt)
  layer_fine (F.Delete place) s h = tt
  layer_fine (F.Fetch x) s h = x.1 s h
  layer_fine (F.Print ps line) s h = each_fine (is_valid_piece P views) (of_piece own_place) piece_spawns ps s h

  -- ---- whole trees

  moved : (a b : Test) (ns ms : List ℕ) (f g : Finds) → a ≡ b → ns ≡ ms → f ≡ g → FineIn b ms g → FineIn a ns f
  moved a b ns ms f g e q r h s v =
      subst (λ (xs : List ℕ). Fine s.least xs (f s.view)) (sym q)
      (subst (λ (k : Finds). Fine s.least ms (k s.view)) (sym r) (h s (subst (λ (t : Test). t s ≡ true) e v)))

  expr_at : (y : Expr-F ExprOf ItemOf PieceOf StmtOf) → ExprFine (roll-Expr (expr_of y))
  expr_at y =
      let x : Expr-F Expr Item Piece Stmt = expr_of y in
      moved (valid (roll-Expr x)) (expr_step P views (tested x)) (of_expr own_place (roll-Expr x)) (gathers own_place (gathered x)) (find_spawns (roll-Expr x)) (find_step (placed x))
      (fold-roll-Expr Test Statement Test Statement (expr_step P views) (item_step P views) (piece_step P views) (stmt_step P views) x)
      (fold-roll-Expr (List ℕ) (List ℕ) (List ℕ) (List ℕ) (gathers own_place) in_item in_piece in_stmt x)
      (fold-roll-Expr Finds Walk Finds Walk find_step find_item_step find_piece_step find_stmt_step x)
      (layer_fine y)

  stated_moved : (a b : Statement) (ns ms : List ℕ) (f g : Walk) → a ≡ b → ns ≡ ms → f ≡ g → Stated b ms g → Stated a ns f
  stated_moved a b ns ms f g e q r h =
      subst (λ (t : Statement). Stated t ns f) (sym e) (subst (λ (xs : List ℕ). Stated b xs f) (sym q) (subst (λ (k : Walk). Stated b ms k) (sym r) h))

  abbrev item_at_layer : Item-F ExprOf ItemOf PieceOf StmtOf → Item-F Expr Item Piece Stmt
  item_at_layer = map-Item ExprOf ItemOf PieceOf StmtOf Expr Item Piece Stmt (λ e. e.0) (λ e. e.0) (λ e. e.0) (λ e. e.0)

  item_rolled : (x : Item-F Expr Item Piece Stmt)
      → Stated (item_step P views (map-Item Expr Item Piece Stmt Test Statement Test Statement valid (item_of P views) (is_valid_piece P views) (stmt_of P views) x))
      (in_item (map-Item Expr Item Piece Stmt (List ℕ) (List ℕ) (List ℕ) (List ℕ) (of_expr own_place) (of_item own_place) (of_piece own_place) (of_stmt own_place) x))
      (find_item_step (map-Item Expr Item Piece Stmt Finds Walk Finds Walk find_spawns walk_item piece_spawns stmt_placing x))
      → ItemFine (roll-Item x)
  item_rolled x h =
      stated_moved _ _ _ _ _ _ (fold-roll-Item Test Statement Test Statement (expr_step P views) (item_step P views) (piece_step P views) (stmt_step P views) x)
      (fold-roll-Item (List ℕ) (List ℕ) (List ℕ) (List ℕ) (gathers own_place) in_item in_piece in_stmt x)
      (fold-roll-Item Finds Walk Finds Walk find_step find_item_step find_piece_step find_stmt_step x)
      h

  item_at : (y : Item-F ExprOf ItemOf PieceOf StmtOf) → ItemFine (roll-Item (item_at_layer y))
  item_at (F.Define site) = item_rolled (F.Define site) (refl, λ s h. tt)
  item_at (F.Item::Bind slot x) = item_rolled (F.Item::Bind slot x.0) (refl, λ s h. x.1 s (both_true _ _ h).1)
  item_at (F.Item::Do x) = item_rolled (F.Item::Do x.0) (refl, x.1)

  stmt_rolled : (x : Stmt-F Expr Item Piece Stmt)
      → Stated (stmt_step P views (map-Stmt Expr Item Piece Stmt Test Statement Test Statement valid (item_of P views) (is_valid_piece P views) (stmt_of P views) x))
      (in_stmt (map-Stmt Expr Item Piece Stmt (List ℕ) (List ℕ) (List ℕ) (List ℕ) (of_expr own_place) (of_item own_place) (of_piece own_place) (of_stmt own_place) x))
      (find_stmt_step (map-Stmt Expr Item Piece Stmt Finds Walk Finds Walk find_spawns walk_item piece_spawns stmt_placing x))
      → StmtFine (roll-Stmt x)
  stmt_rolled x h =
      stated_moved _ _ _ _ _ _ (fold-roll-Stmt Test Statement Test Statement (expr_step P views) (item_step P views) (piece_step P views) (stmt_step P views) x)
      (fold-roll-Stmt (List ℕ) (List ℕ) (List ℕ) (List ℕ) (gathers own_place) in_item in_piece in_stmt x)
      (fold-roll-Stmt Finds Walk Finds Walk find_step find_item_step find_piece_step find_stmt_step x)
      h

  stmt_at : (y : Stmt-F ExprOf ItemOf PieceOf StmtOf) → StmtFine (roll-Stmt (map-Stmt ExprOf ItemOf PieceOf StmtOf Expr Item Piece Stmt (λ e. e.0) (λ e. e.0) (λ e. e.0) (λ e. e.0) y))
  stmt_at (F.Stmt::Bind slot x) = stmt_rolled (F.Stmt::Bind slot x.0) (refl, λ s h. x.1 s (both_true _ _ h).1)
  stmt_at (F.Stmt::Do x) = stmt_rolled (F.Stmt::Do x.0) (refl, x.1)
  stmt_at (F.Return x) = stmt_rolled (F.Return x.0) (refl, λ s h. x.1 s (both_true _ _ h).1)

  piece_rolled : (x : Piece-F Expr Item Piece Stmt)
      → FineIn (piece_step P views (map-Piece Expr Item Piece Stmt Test Statement Test Statement valid (item_of P views) (is_valid_piece P views) (stmt_of P views) x))
      (in_piece (map-Piece Expr Item Piece Stmt (List ℕ) (List ℕ) (List ℕ) (List ℕ) (of_expr own_place) (of_item own_place) (of_piece own_place) (of_stmt own_place) x))
      (find_piece_step (map-Piece Expr Item Piece Stmt Finds Walk Finds Walk find_spawns walk_item piece_spawns stmt_placing x))
      → PieceFine (roll-Piece x)
  piece_rolled x h =
      moved _ _ _ _ _ _ (fold-roll-Piece Test Statement Test Statement (expr_step P views) (item_step P views) (piece_step P views) (stmt_step P views) x)
      (fold-roll-Piece (List ℕ) (List ℕ) (List ℕ) (List ℕ) (gathers own_place) in_item in_piece in_stmt x)
      (fold-roll-Piece Finds Walk Finds Walk find_step find_item_step find_piece_step find_stmt_step x)
      h

  piece_at : (y : Piece-F ExprOf ItemOf PieceOf StmtOf) → PieceFine (roll-Piece (map-Piece ExprOf ItemOf PieceOf StmtOf Expr Item Piece Stmt (λ e. e.0) (λ e. e.0) (λ e. e.0) (λ e. e.0) y))
  piece_at (F.Text bytes) = piece_rolled (F.Text bytes) (λ s h. tt)
  piece_at (F.Show x) = piece_rolled (F.Show x.0) x.1

  expr_fine : (e : Expr) → ExprFine e
  expr_fine = ind-Expr ExprFine ItemFine PieceFine StmtFine
      (λ x y is. subst (λ z. ExprFine (roll-Expr z)) is (expr_at y))
      (λ x y is. subst (λ z. ItemFine (roll-Item z)) is (item_at y))
      (λ x y is. subst (λ z. PieceFine (roll-Piece z)) is (piece_at y))
      (λ x y is. subst (λ z. StmtFine (roll-Stmt z)) is (stmt_at y))

  item_fine : (e : Item) → ItemFine e
  item_fine = ind-Item ExprFine ItemFine PieceFine StmtFine
      (λ x y is. subst (λ z. ExprFine (roll-Expr z)) is (expr_at y))
      (λ x y is. subst (λ z. ItemFine (roll-Item z)) is (item_at y))
      (λ x y is. subst (λ z. PieceFine (roll-Piece z)) is (piece_at y))
      (λ x y is. subst (λ z. StmtFine (roll-Stmt z)) is (stmt_at y))

  -- ---- the code of a program

  items_fine : (xs : List Item) (s : Scope) → are_valid_items P views xs s ≡ true → Fine s.least (flat_map (of_item own_place) xs) (find_in_turn (map walk_item xs) s.view)
  items_fine [] s h = tt
  items_fine (x ∷ xs) s h =
      let a : Statement = item_of P views x in
      let next : Scope = cond a.binds (bound s) s in
      let parts = both_true (a.valid s) (are_valid_items P views xs next) h in
      let f = item_fine x in
      let seen = subst (λ (v : View). Fine next.least (flat_map (of_item own_place) xs) (find_in_turn (map walk_item xs) v)) (after_view a.binds (walk_item x).binds s f.0) (items_fine xs next parts.1) in
      fine_append s.least (of_item own_place x) (flat_map (of_item own_place) xs) ((walk_item x).finds s.view) (find_in_turn (map walk_item xs) (cond (walk_item x).binds (wider s.view) s.view))
      (f.1 s parts.0)
      (subst (λ (n : ℕ). Fine n (flat_map (of_item own_place) xs) (find_in_turn (map walk_item xs) (cond (walk_item x).binds (wider s.view) s.view))) (after_least a.binds s) seen)

  -- each body is valid where its parameters are visible
  abbrev Bodies : List Site → Type 0
  Bodies [] = Unit {0}
  Bodies (site ∷ sites) = (valid site.body (in_body site.sig) ≡ true) × Bodies sites

  abbrev bodies_in : List Site → List Spawned
  bodies_in sites = flat_map (λ (site : Site). find_spawns site.body (in_body site.sig).view) sites

  sites_fine : (sites : List Site) → Bodies sites → Fine 0 (flat_map (λ (site : Site). of_expr own_place site.body) sites) (bodies_in sites)
  sites_fine [] h = tt
  sites_fine (site ∷ sites) h =
      fine_append 0 (of_expr own_place site.body) (flat_map (λ (site : Site). of_expr own_place site.body) sites) (find_spawns site.body (in_body site.sig).view) (bodies_in sites)
      (expr_fine site.body (in_body site.sig) h.0)
      (sites_fine sites h.1)

  bodies_append : (as_ bs : List Site) → Bodies as_ → Bodies bs → Bodies (as_ ++ bs)
  bodies_append [] bs h k = k
  bodies_append (site ∷ as_) bs h k = (h.0, bodies_append as_ bs h.1 k)

  bodies_of : (sites : List Site) → All (IsValidSite P views) sites → Bodies sites
  bodies_of [] h = tt
  bodies_of (site ∷ sites) h = ((All-head (IsValidSite P views) site sites h).body, bodies_of sites (All-tail (IsValidSite P views) site sites h))

  -- a site of the prelude has no body
  builtin : (s : Scope) → valid E.Nothing s ≡ true
  builtin s = ap (λ (t : Test). t s) (valid-nothing P views)

  prelude_bodies : Bodies prelude_sites
  prelude_bodies = (builtin _, (builtin _, (builtin _, (builtin _, (builtin _, (builtin _, (builtin _, (builtin _, (builtin _, (builtin _, (builtin _, (builtin _, (builtin _, (builtin _, tt))))))))))))))

  -- ---- how often a place stands

  times_append : (t : ℕ) (xs ys : List ℕ) → times t (xs ++ ys) ≡ times t xs + times t ys
  times_append t [] ys = omega arith
  times_append t (x ∷ xs) ys = by (nat_eq t x) (times_append t xs ys)
    where
      by : (b : Bool) → times t (xs ++ ys) ≡ times t xs + times t ys → cond b (1 + times t (xs ++ ys)) (times t (xs ++ ys)) ≡ cond b (1 + times t xs) (times t xs) + times t ys
      by true h = omega (arith, h)
      by false h = h

  -- a lesser place does not stand there
  none_less : (t least : ℕ) (ns : List ℕ) (ps : List Spawned) → t < least → Fine least ns ps → times t ns ≡ 0
  none_less t least [] ps l h = refl
  none_less t least (n ∷ ns) [] l h = absurd h
  none_less t least (n ∷ ns) (p ∷ ps) l (a, b, c, h) = let q : nat_eq t n ≡ false = grind (arith, l, b) in ap (λ d. cond d (1 + times t ns) (times t ns)) q ∙ none_less t least ns ps l h

  -- a place that stands there is found, with what it sees
  view_found : (t : ℕ) (ns : List ℕ) (ps : List Spawned) → Fine 0 ns ps → times t ns ≡ 1 → view_among ps t ≡ get_or views t nothing_seen
  view_found t [] [] h o = absurd (omega (arith, o))
  view_found t [] (p ∷ ps) h o = absurd h
  view_found t (n ∷ ns) [] h o = absurd h
  view_found t (n ∷ ns) (p ∷ ps) (a, b, c, h) o = by (nat_eq t n) refl (view_found t ns ps h)
    where
      by : (d : Bool) → nat_eq t n ≡ d → (times t ns ≡ 1 → view_among ps t ≡ get_or views t nothing_seen) → cond (nat_eq p.place t) p.view (view_among ps t) ≡ get_or views t nothing_seen
      by true q f =
          let e : t ≡ n = grind (arith, q) in
          let here : nat_eq p.place t ≡ true = grind (arith, a, e) in
          ap (λ z. cond z p.view (view_among ps t)) here ∙ sym c ∙ ap (λ k. get_or views k nothing_seen) (sym e)
      by false q f =
          let there : nat_eq p.place t ≡ false = grind (arith, a, q) in
          let rest : times t ns ≡ 1 = ap (λ z. cond z (1 + times t ns) (times t ns)) (sym q) ∙ o in
          ap (λ z. cond z p.view (view_among ps t)) there ∙ f rest

  -- ---- the spawn places, one after another

  -- the expressions from a place on have no `Spawn` of it or of a lesser one
  later_have_none : (t place : ℕ) (vs : List View) (es : List Expr) → t ≤ place → are_valid_tasks P views place vs es ≡ true → times t (flat_map (of_expr own_place) es) ≡ 0
  later_have_none t place [] [] l h = refl
  later_have_none t place [] (e ∷ es) l h = cc
  later_have_none t place (v ∷ vs) [] l h = refl
  later_have_none t place (v ∷ vs) (e ∷ es) l h =
      let parts = both_true (valid e (in_task place v)) (are_valid_tasks P views (place + 1) vs es) h in
      let first : times t (of_expr own_place e) ≡ 0 = none_less t (place + 1) (of_expr own_place e) (find_spawns e v) (omega (arith, l)) (expr_fine e (in_task place v) parts.0) in
      omega (arith, times_append t (of_expr own_place e) (flat_map (of_expr own_place) es), first, later_have_none t (place + 1) vs es (omega (arith, l)) parts.1)

  -- the views from a place on
  abbrev StandsFrom : ℕ → List View → Type 0
  StandsFrom place vs = (k : ℕ) → k < length vs → get_or views (place + k) nothing_seen ≡ get_or vs k nothing_seen

  record Known (es : List Expr) (ns : List ℕ) (ps : List Spawned) : Type 0 where
    fine : Fine 0 ns ps
    once : (t : ℕ) → t < length views → times t ns + times t (flat_map (of_expr own_place) es) ≡ 1

  all_known : (place : ℕ) (vs : List View) (es : List Expr) (ns : List ℕ) (ps : List Spawned) → StandsFrom place vs → place + length vs ≤ length views → are_valid_tasks P views place vs es ≡ true
      → Known es ns ps → (ms : List ℕ) × Known [] ms (with_inner ps place es)
  all_known place [] [] ns ps st l h k = (ns, k)
  all_known place [] (e ∷ es) ns ps st l h k = cc
  all_known place (v ∷ vs) [] ns ps st l h k = cc
  all_known place (v ∷ vs) (e ∷ es) ns ps st l h k =
      let parts = both_true (valid e (in_task place v)) (are_valid_tasks P views (place + 1) vs es) h in
      let none : times place (flat_map (of_expr own_place) (e ∷ es)) ≡ 0 = later_have_none place place (v ∷ vs) (e ∷ es) (omega arith) h in
      let stands : times place ns ≡ 1 = omega (arith, none, k.once place (omega (arith, l))) in
      let same : view_among ps place ≡ v = view_found place ns ps k.fine stands ∙ ap (λ z. get_or views z nothing_seen) (let z : place ≡ place + 0 = omega arith in z) ∙ st 0 (omega arith) in
      let more : Fine (place + 1) (of_expr own_place e) (find_spawns e (view_among ps place)) =
      subst (λ (w : View). Fine (place + 1) (of_expr own_place e) (find_spawns e w)) (sym same) (expr_fine e (in_task place v) parts.0) in
      all_known (place + 1) vs es (ns ++ of_expr own_place e) (ps ++ find_spawns e (view_among ps place))
      (λ j lt. ap (λ z. get_or views z nothing_seen) (let z : place + 1 + j ≡ place + suc j = omega arith in z) ∙ st (suc j) (omega (arith, lt)))
      (omega (arith, l))
      parts.1
      (record {
        fine = fine_append 0 ns (of_expr own_place e) ps (find_spawns e (view_among ps place)) k.fine (fine_less 0 (place + 1) (of_expr own_place e) (find_spawns e (view_among ps place)) (omega arith) more);
        once = λ t lt. omega (arith, k.once t lt, times_append t ns (of_expr own_place e), times_append t (of_expr own_place e) (flat_map (of_expr own_place) es));
      })

  tasks_length : (place : ℕ) (vs : List View) (es : List Expr) → are_valid_tasks P views place vs es ≡ true → length vs ≡ length es
  tasks_length place [] [] h = refl
  tasks_length place [] (e ∷ es) h = cc
  tasks_length place (v ∷ vs) [] h = cc
  tasks_length place (v ∷ vs) (e ∷ es) h = ap suc (tasks_length (place + 1) vs es (both_true (valid e (in_task place v)) (are_valid_tasks P views (place + 1) vs es) h).1)

  listed : (place : ℕ) (vs : List View) (es : List Expr) → length vs ≡ length es → ((k : ℕ) → k < length vs → view_at P (place + k) ≡ get_or vs k nothing_seen) → views_from P place es ≡ vs
  listed place [] [] n h = refl
  listed place [] (e ∷ es) n h = absurd (omega (arith, n))
  listed place (v ∷ vs) [] n h = absurd (omega (arith, n))
  listed place (v ∷ vs) (e ∷ es) n h =
      ap (λ (w : View). w ∷ views_from P (place + 1) es) (ap (view_at P) (let z : place ≡ place + 0 = omega arith in z) ∙ h 0 (omega arith))
      ∙ ap (λ (ws : List View). v ∷ ws) (listed (place + 1) vs es (omega (arith, n)) (λ k l. ap (view_at P) (let z : place + 1 + k ≡ place + suc k = omega arith in z) ∙ h (suc k) (omega (arith, l))))

module _ (P : Program) (h : IsValid P) where
  abbrev in_sites : List ℕ
  in_sites = flat_map (λ (site : Site). of_expr own_place site.body) P.sites

  abbrev in_top : List ℕ
  in_top = flat_map (of_item own_place) P.top

  -- the first list of the program's `Spawn`s
  code_known : Known P h.views P.spawns (in_sites ++ in_top) (outer_spawns P)
  code_known = record {
    fine = fine_append P h.views 0 in_sites in_top (bodies_in P h.views P.sites) (find_in_turn (map walk_item P.top) nothing_seen)
        (sites_fine P h.views P.sites bodies)
        (items_fine P h.views P.top at_top h.top);
    once = λ t l.
        let spawned : times t (spawned_places P) ≡ 1 = h.once t (omega (arith, l, tasks_length P h.views 0 h.views P.spawns h.tasks)) in
        omega (
          arith,
          spawned,
          times_append P h.views t in_sites in_top,
          times_append P h.views t (in_sites ++ flat_map (of_expr own_place) P.spawns) in_top,
          times_append P h.views t in_sites (flat_map (of_expr own_place) P.spawns),
        );
  }
    where
      bodies : Bodies P h.views P.sites
      bodies = subst (Bodies P h.views) (take-append-drop 14 P.sites)
          (bodies_append P h.views (take 14 P.sites) (drop 14 P.sites) (subst (Bodies P h.views) (sym h.prelude) (prelude_bodies P h.views)) (bodies_of P h.views (drop 14 P.sites) h.sites))

  pub views_are : views_of P ≡ h.views
  views_are =
      let (ms, k) = all_known P h.views 0 h.views P.spawns (in_sites ++ in_top) (outer_spawns P)
      (λ j l. ap (λ z. get_or h.views z nothing_seen) (let z : 0 + j ≡ j = omega arith in z)) (omega arith) h.tasks code_known in
      listed P h.views 0 h.views P.spawns (tasks_length P h.views 0 h.views P.spawns h.tasks)
      (λ j l. ap (view_at P) (let z : 0 + j ≡ j = omega arith in z) ∙ view_found P h.views j ms (with_inner (outer_spawns P) 0 P.spawns) k.fine (omega (arith, k.once j l)))
