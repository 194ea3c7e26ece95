-- A weight is at most four times a size, so a machine begins with few turns.
use Rattle.std.proofs.Common.{◌≡◌, ℕ, zero, suc, ◌+◌, ◌-◌, ◌*◌, ◌≤◌, max, List, [], ◌∷◌, map, false, Some, slice_get, ap, ◌∙◌, subst, arith, suc-mul, mul_comm, mul_assoc}
use Rattle.jl_program.specs.declared.tree.Expr.{Expr, roll-Expr}
use Rattle.jl_program.specs.declared.tree.Item.{Item, roll-Item}
use Rattle.jl_program.specs.declared.tree.Piece.{Piece, roll-Piece}
use Rattle.jl_program.specs.declared.tree.Stmt.{Stmt, roll-Stmt}
use Rattle.jl_program.specs.declared.tree.Site.{Site}
use Rattle.jl_program.specs.declared.tree.Program.{Program}
use Rattle.jl_program.specs.declared.tree.Expr.TheOpen.{Expr-F, Stmt-F, Item-F, Piece-F}
use Rattle.jl_program.specs.declared.tree.Expr.TheOpen as F
use Rattle.jl_program.specs.declared.tree.Expr.TheFolds.{ind-Expr, ind-Item, map-Expr, map-Stmt, map-Item, map-Piece, fold-Piece, fold-Stmt, fold-roll-Expr, fold-roll-Item, fold-roll-Piece, fold-roll-Stmt}
use Rattle.jl_program.specs.declared.value.Value.{Value}
use Rattle.jl_task.specs.declared.point.Work.{Work}
use Rattle.jl_task.specs.declared.point.Work.TheVariants.{Eval, Items}
use Rattle.jl_task.specs.declared.point.Now.{Now}
use Rattle.jl_program.specs.Measures.{total}
use Rattle.jl_task.specs.Weight.{expr_weight_step, item_weight_step, piece_weight_step, stmt_weight_step, expr_weight, stmt_weight, item_weight, piece_weight, load, heaviest, turns_left}
use Rattle.jl_task.specs.Size.{expr_size_step, item_size_step, piece_size_step, stmt_size_step, expr_size, item_size, bodies_size, program_size}

abbrev piece_size : Piece → ℕ
piece_size = fold-Piece ℕ ℕ ℕ ℕ expr_size_step item_size_step piece_size_step stmt_size_step

abbrev stmt_size : Stmt → ℕ
stmt_size = fold-Stmt ℕ ℕ ℕ ℕ expr_size_step item_size_step piece_size_step stmt_size_step

-- at most four times as much
abbrev Few : ℕ → ℕ → Type 0
Few w s = w ≤ 4 * s

abbrev ExprFew : Expr → Type 0
ExprFew e = Few (expr_weight e) (expr_size e)

abbrev ItemFew : Item → Type 0
ItemFew e = Few (item_weight e) (item_size e)

abbrev PieceFew : Piece → Type 0
PieceFew e = Few (piece_weight e) (piece_size e)

abbrev StmtFew : Stmt → Type 0
StmtFew e = Few (stmt_weight e) (stmt_size e)

-- a part with what is said of it
abbrev ExprOf : Type 0
ExprOf = (x : Expr) × ExprFew x

abbrev ItemOf : Type 0
ItemOf = (x : Item) × ItemFew x

abbrev PieceOf : Type 0
PieceOf = (x : Piece) × PieceFew x

abbrev StmtOf : Type 0
StmtOf = (x : Stmt) × StmtFew x

-- ---- by layers

expr_rolled : (x : Expr-F Expr Item Piece Stmt)
    → Few (expr_weight_step (map-Expr Expr Item Piece Stmt ℕ ℕ ℕ ℕ expr_weight item_weight piece_weight stmt_weight x)) (expr_size_step (map-Expr Expr Item Piece Stmt ℕ ℕ ℕ ℕ expr_size item_size piece_size stmt_size x))
    → ExprFew (roll-Expr x)
expr_rolled x h =
    let w = fold-roll-Expr ℕ ℕ ℕ ℕ expr_weight_step item_weight_step piece_weight_step stmt_weight_step x in
    let s = fold-roll-Expr ℕ ℕ ℕ ℕ expr_size_step item_size_step piece_size_step stmt_size_step x in
    omega (arith, w, s, h)

item_rolled : (x : Item-F Expr Item Piece Stmt)
    → Few (item_weight_step (map-Item Expr Item Piece Stmt ℕ ℕ ℕ ℕ expr_weight item_weight piece_weight stmt_weight x)) (item_size_step (map-Item Expr Item Piece Stmt ℕ ℕ ℕ ℕ expr_size item_size piece_size stmt_size x))
    → ItemFew (roll-Item x)
item_rolled x h =
    let w = fold-roll-Item ℕ ℕ ℕ ℕ expr_weight_step item_weight_step piece_weight_step stmt_weight_step x in
    let s = fold-roll-Item ℕ ℕ ℕ ℕ expr_size_step item_size_step piece_size_step stmt_size_step x in
    omega (arith, w, s, h)

piece_rolled : (x : Piece-F Expr Item Piece Stmt)
    → Few (piece_weight_step (map-Piece Expr Item Piece Stmt ℕ ℕ ℕ ℕ expr_weight item_weight piece_weight stmt_weight x)) (piece_size_step (map-Piece Expr Item Piece Stmt ℕ ℕ ℕ ℕ expr_size item_size piece_size stmt_size x))
    → PieceFew (roll-Piece x)
piece_rolled x h =
    let w = fold-roll-Piece ℕ ℕ ℕ ℕ expr_weight_step item_weight_step piece_weight_step stmt_weight_step x in
    let s = fold-roll-Piece ℕ ℕ ℕ ℕ expr_size_step item_size_step piece_size_step stmt_size_step x in
    omega (arith, w, s, h)

stmt_rolled : (x : Stmt-F Expr Item Piece Stmt)
    → Few (stmt_weight_step (map-Stmt Expr Item Piece Stmt ℕ ℕ ℕ ℕ expr_weight item_weight piece_weight stmt_weight x)) (stmt_size_step (map-Stmt Expr Item Piece Stmt ℕ ℕ ℕ ℕ expr_size item_size piece_size stmt_size x))
    → StmtFew (roll-Stmt x)
stmt_rolled x h =
    let w = fold-roll-Stmt ℕ ℕ ℕ ℕ expr_weight_step item_weight_step piece_weight_step stmt_weight_step x in
    let s = fold-roll-Stmt ℕ ℕ ℕ ℕ expr_size_step item_size_step piece_size_step stmt_size_step x in
    omega (arith, w, s, h)

each_few : {X : Type 0} (w s : X → ℕ) (xs : List ((x : X) × Few (w x) (s x))) → Few (total (map w (map (λ e. e.0) xs))) (total (map s (map (λ e. e.0) xs)))
each_few w s [] = omega arith
each_few w s (x ∷ xs) = let h = each_few w s xs in let k = x.1 in omega (arith, h, k)

two : (n : ℕ) → Few 2 (1 + n)
two n = omega arith

three : (w s : ℕ) → Few w s → Few (3 + w) (1 + s)
three w s h = omega (arith, h)

four : (w s : ℕ) → Few w s → Few (4 + w) (1 + s)
four w s h = omega (arith, h)

both : (w s v t : ℕ) → Few w s → Few v t → Few (w + v) (s + t)
both w s v t h k = omega (arith, h, k)

two_parts : (w s v t : ℕ) → Few w s → Few v t → Few (2 + (w + v)) (1 + (s + t))
two_parts w s v t h k = omega (arith, h, k)

three_parts : (w s v t x y : ℕ) → Few w s → Few v t → Few x y → Few (2 + (w + (v + x))) (1 + (s + t + y))
three_parts w s v t x y h k l = omega (arith, h, k, l)

one : (w s : ℕ) → Few w s → Few (1 + w) (1 + s)
one w s h = omega (arith, h)

abbrev expr_of : Expr-F ExprOf ItemOf PieceOf StmtOf → Expr-F Expr Item Piece Stmt
expr_of = map-Expr ExprOf ItemOf PieceOf StmtOf Expr Item Piece Stmt (λ e. e.0) (λ e. e.0) (λ e. e.0) (λ e. e.0)

expr_layer_few : (y : Expr-F ExprOf ItemOf PieceOf StmtOf)
    → Few (expr_weight_step (map-Expr Expr Item Piece Stmt ℕ ℕ ℕ ℕ expr_weight item_weight piece_weight stmt_weight (expr_of y))) (expr_size_step (map-Expr Expr Item Piece Stmt ℕ ℕ ℕ ℕ expr_size item_size piece_size stmt_size (expr_of y)))
expr_layer_few (F.Int n) = two 0
expr_layer_few (F.Bool b) = two 0
expr_layer_few F.Nothing = two 0
expr_layer_few (F.Local x) = two 0
expr_layer_few (F.Call f xs) = four _ _ (each_few expr_weight expr_size xs)
expr_layer_few (F.Latest f xs) = four _ _ (each_few expr_weight expr_size xs)
expr_layer_few (F.Make t xs) = four _ _ (each_few expr_weight expr_size xs)
expr_layer_few (F.Infer name xs) = four _ _ (each_few expr_weight expr_size xs)
expr_layer_few (F.Parts xs) = four _ _ (each_few expr_weight expr_size xs)
expr_layer_few (F.Field x name) = four _ _ x.1
expr_layer_few (F.Part x number) = four _ _ x.1
expr_layer_few (F.Egal a b negated) = four _ _ (both _ _ _ _ a.1 b.1)
expr_layer_few (F.Isa x t) = four _ _ x.1
expr_layer_few (F.Sub t u) = omega arith
expr_layer_few (F.If test then_ else_) = three_parts _ _ _ _ _ _ test.1 then_.1 else_.1
expr_layer_few (F.And a b) = two_parts _ _ _ _ a.1 b.1
expr_layer_few (F.Or a b) = two_parts _ _ _ _ a.1 b.1
expr_layer_few (F.Block xs) = four _ _ (each_few stmt_weight stmt_size xs)
expr_layer_few (F.Eval xs) = four _ _ (each_few item_weight item_size xs)
expr_layer_few (F.Spawn place) = omega arith
expr_layer_few (F.Delete place) = omega arith
expr_layer_few (F.Fetch x) = four _ _ x.1
expr_layer_few (F.Print ps line) = three _ _ (each_few piece_weight piece_size ps)

expr_few_at : (y : Expr-F ExprOf ItemOf PieceOf StmtOf) → ExprFew (roll-Expr (expr_of y))
expr_few_at y = expr_rolled (expr_of y) (expr_layer_few y)

item_few_at : (y : Item-F ExprOf ItemOf PieceOf StmtOf) → ItemFew (roll-Item (map-Item ExprOf ItemOf PieceOf StmtOf Expr Item Piece Stmt (λ e. e.0) (λ e. e.0) (λ e. e.0) (λ e. e.0) y))
item_few_at (F.Define site) = item_rolled (F.Define site) (two 0)
item_few_at (F.Item::Bind slot x) = item_rolled (F.Item::Bind slot x.0) (one _ _ x.1)
item_few_at (F.Item::Do x) = item_rolled (F.Item::Do x.0) (one _ _ x.1)

piece_few_at : (y : Piece-F ExprOf ItemOf PieceOf StmtOf) → PieceFew (roll-Piece (map-Piece ExprOf ItemOf PieceOf StmtOf Expr Item Piece Stmt (λ e. e.0) (λ e. e.0) (λ e. e.0) (λ e. e.0) y))
piece_few_at (F.Text bytes) = piece_rolled (F.Text bytes) (omega arith)
piece_few_at (F.Show x) = piece_rolled (F.Show x.0) (one _ _ x.1)

stmt_few_at : (y : Stmt-F ExprOf ItemOf PieceOf StmtOf) → StmtFew (roll-Stmt (map-Stmt ExprOf ItemOf PieceOf StmtOf Expr Item Piece Stmt (λ e. e.0) (λ e. e.0) (λ e. e.0) (λ e. e.0) y))
stmt_few_at (F.Stmt::Bind slot x) = stmt_rolled (F.Stmt::Bind slot x.0) (one _ _ x.1)
stmt_few_at (F.Stmt::Do x) = stmt_rolled (F.Stmt::Do x.0) (one _ _ x.1)
stmt_few_at (F.Return x) = stmt_rolled (F.Return x.0) (one _ _ x.1)

expr_few : (e : Expr) → ExprFew e
expr_few = ind-Expr ExprFew ItemFew PieceFew StmtFew
    (λ x y is. subst (λ z. ExprFew (roll-Expr z)) is (expr_few_at y))
    (λ x y is. subst (λ z. ItemFew (roll-Item z)) is (item_few_at y))
    (λ x y is. subst (λ z. PieceFew (roll-Piece z)) is (piece_few_at y))
    (λ x y is. subst (λ z. StmtFew (roll-Stmt z)) is (stmt_few_at y))

item_few : (e : Item) → ItemFew e
item_few = ind-Item ExprFew ItemFew PieceFew StmtFew
    (λ x y is. subst (λ z. ExprFew (roll-Expr z)) is (expr_few_at y))
    (λ x y is. subst (λ z. ItemFew (roll-Item z)) is (item_few_at y))
    (λ x y is. subst (λ z. PieceFew (roll-Piece z)) is (piece_few_at y))
    (λ x y is. subst (λ z. StmtFew (roll-Stmt z)) is (stmt_few_at y))

-- ---- whole programs

items_few : (xs : List Item) → Few (total (map item_weight xs)) (total (map item_size xs))
items_few [] = omega arith
items_few (x ∷ xs) = let h = items_few xs in let k = item_few x in omega (arith, h, k)

most : (a b n : ℕ) → a ≤ n → b ≤ n → max a b ≤ n
most a b n h k = grind (arith, h, k)

heaviest_few : (sites : List Site) → heaviest sites ≤ 2 + 4 * bodies_size sites
heaviest_few [] = omega arith
heaviest_few (site ∷ sites) =
    let h = heaviest_few sites in
    let k = expr_few site.body in
    most (expr_weight site.body) (heaviest sites) (2 + 4 * (expr_size site.body + bodies_size sites)) (omega (arith, k)) (omega (arith, h))

scaled : (fuel n m : ℕ) → n ≤ m → fuel * n ≤ fuel * m
scaled zero n m h = omega arith
scaled (suc fuel) n m h = let k = scaled fuel n m h in rw (suc-mul fuel n, suc-mul fuel m) (omega (arith, k, h))

regrouped : (fuel n : ℕ) → 4 * (fuel + 1) * (n + 1) ≡ fuel * (4 * (n + 1)) + 4 * (n + 1)
regrouped fuel n =
    let e : fuel + 1 ≡ suc fuel = omega arith in
    ap (λ k. k * (n + 1)) (mul_comm 4 (fuel + 1)) ∙ mul_assoc (fuel + 1) 4 (n + 1) ∙ ap (λ k. k * (4 * (n + 1))) e ∙ suc-mul fuel (4 * (n + 1))

-- the expressions of the spawn places
spawn_few : (xs : List Expr) (i : ℕ) (e : Expr) → slice_get xs i ≡ Some e → expr_weight e ≤ 4 * total (map expr_size xs)
spawn_few [] i e h = absurd (cc)
spawn_few (x ∷ xs) zero e h =
    let is : x ≡ e = cc in
    let k = expr_few x in
    subst (λ y. expr_weight y ≤ 4 * total (map expr_size (x ∷ xs))) is (omega (arith, k))
spawn_few (x ∷ xs) (suc i) e h = let k = spawn_few xs i e h in omega (arith, k)

-- the turns that are left before the first call
few_left : (P : Program) (fuel : ℕ) (w : Work) (n : Now) → load w n ≤ 4 * (program_size P + 1) → turns_left P fuel 0 w n ≤ 4 * (fuel + 1) * (program_size P + 1)
few_left P fuel w n light =
    let size = program_size P in
    let bodies = heaviest_few P.sites in
    let each : heaviest P.sites ≤ 4 * (size + 1) = omega (arith, bodies) in
    let calls = scaled fuel (heaviest P.sites) (4 * (size + 1)) each in
    let whole = regrouped fuel size in
    let none : fuel - 0 ≡ fuel = omega arith in
    rw none (omega (arith, calls, light, whole))

-- the root begins with few turns
pub root_few : (P : Program) (fuel : ℕ) (v : Value) (n : Now) → n.stack ≡ [] → turns_left P fuel 0 (Items false P.top v) n ≤ 4 * (fuel + 1) * (program_size P + 1)
root_few P fuel v n e =
    let items = items_few P.top in
    few_left P fuel (Items false P.top v) n (rw e (omega (arith, items)))

-- and so does another task
pub task_few : (P : Program) (fuel : ℕ) (place : ℕ) (e : Expr) (n : Now) → slice_get P.spawns place ≡ Some e → n.stack ≡ [] → turns_left P fuel 0 (Eval e) n ≤ 4 * (fuel + 1) * (program_size P + 1)
task_few P fuel place e n there none =
    let spawn = spawn_few P.spawns place e there in
    few_left P fuel (Eval e) n (rw none (omega (arith, spawn)))
