-- The definition sites, spawns and deletions of a script, in the order of its text: each before those inside it.
use Rattle.std.specs.Prelude.{ℕ, codes, List, [], ◌∷◌, ◌++◌, map}
use Rattle.jl_token.specs.declared.token.Operator.{Operator}
use Rattle.jl_token.specs.declared.token.Operator.TheVariants as o
use Rattle.jl_grammar.specs.declared.tree.Branch.{Branch}
use Rattle.jl_grammar.specs.declared.tree.Callee.{Callee}
use Rattle.jl_grammar.specs.declared.tree.Callee.TheVariants as C
use Rattle.jl_grammar.specs.declared.tree.Eval.{Eval}
use Rattle.jl_grammar.specs.declared.tree.Expr.{Expr}
use Rattle.jl_grammar.specs.declared.tree.Head.{Head}
use Rattle.jl_grammar.specs.declared.tree.Item.{Item}
use Rattle.jl_grammar.specs.declared.tree.Item.TheVariants as N
use Rattle.jl_grammar.specs.declared.tree.Method.{Method}
use Rattle.jl_grammar.specs.declared.tree.Name.{Name}
use Rattle.jl_grammar.specs.declared.tree.Piece.{Piece}
use Rattle.jl_grammar.specs.declared.tree.Script.{Script}
use Rattle.jl_grammar.specs.declared.tree.Stmt.{Stmt}
use Rattle.jl_grammar.specs.declared.tree.Eval.TheOpen as F
use Rattle.jl_grammar.specs.declared.tree.Eval.TheOpen.{Branch-F, Eval-F, Expr-F, Method-F, Piece-F, Stmt-F}
use Rattle.jl_grammar.specs.declared.tree.Eval.TheFolds.{fold-Branch, fold-Eval, fold-Expr, fold-Method, fold-Piece, fold-Stmt}
use Rattle.jl_sites.specs.declared.place.Function.{Function}
use Rattle.jl_sites.specs.declared.place.Function.TheVariants as W
use Rattle.jl_sites.specs.declared.place.Place.{Place}
use Rattle.jl_sites.specs.declared.place.Place.TheVariants as P

-- ---- the site of a method

-- where the function's name stands: of `Base.f` and `Base.:+` the `Base`
abbrev pub place_of : Callee → ℕ
place_of (C.Plain n) = n.at
place_of (C.Base at n) = at
place_of (C.Operator at x) = at

abbrev pub function_of : Callee → Function
function_of (C.Plain n) = W.Named n.bytes
function_of (C.Base at n) = W.Named n.bytes
function_of (C.Operator at x) = W.Operator x

abbrev pub site : Head → Place
site h = P.Site (place_of h.callee) (function_of h.callee)

-- the deletion place of this function's methods
abbrev pub deletion : ℕ → Name → Place
deletion at n = P.Delete at (W.Named n.bytes)

-- the name of a function that is written as an operator, as histories have it
abbrev pub operator_name : Operator → List ℕ
operator_name o.Plus = codes "+"
operator_name o.Minus = codes "-"
operator_name o.Times = codes "*"
operator_name o.Divide = codes "div"
operator_name o.Remainder = codes "rem"
operator_name o.Equal = codes "=="
operator_name o.NotEqual = codes "!="
operator_name o.Less = codes "<"
operator_name o.LessEqual = codes "<="
operator_name o.Greater = codes ">"
operator_name o.GreaterEqual = codes ">="
operator_name o.Not = codes "!"
operator_name x = []

abbrev pub function_name : Function → List ℕ
function_name (W.Named n) = n
function_name (W.Operator x) = operator_name x

-- ---- those of a tree: of its parts from left to right

abbrev pub joined : List (List Place) → List Place
joined [] = []
joined (x ∷ xs) = x ++ joined xs

abbrev pub Made : Type 0
Made = List Place

abbrev pub expr_step : Expr-F Made Made Made Made Made Made → List Place
expr_step (F.Number at n) = []
expr_step (F.Bool at b) = []
expr_step (F.Nothing at) = []
expr_step (F.Name at n) = []
expr_step (F.Paren at e) = e
expr_step (F.Tuple at es) = joined es
expr_step (F.Call at f es) = joined es
expr_step (F.Make at t es) = joined es
expr_step (F.Field at e n) = e
expr_step (F.Part at e n) = e
expr_step (F.Prefix at x e) = e
expr_step (F.Infix at x l r) = l ++ r
expr_step (F.Isa at e t) = e
expr_step (F.Sub at s t) = []
expr_step (F.Choose at c a b) = c ++ (a ++ b)
expr_step (F.If at bs) = joined bs
expr_step (F.IfElse at bs ss) = joined bs ++ joined ss
expr_step (F.Begin at ss) = joined ss
expr_step (F.Latest at f es) = joined es
expr_step (F.Delete at n t) = deletion at n ∷ []
expr_step (F.Spawn at e) = P.Spawn at ∷ e
expr_step (F.EvalMethod at m) = m
expr_step (F.EvalBlock at xs) = joined xs
expr_step (F.EvalExpr at e) = e
expr_step (F.EvalQuote at xs) = joined xs
expr_step (F.Fetch at e) = e
expr_step (F.Print at line ps) = joined ps

abbrev pub method_step : Method-F Made Made Made Made Made Made → List Place
method_step (F.Long at h ss) = site h ∷ joined ss
method_step (F.Short at h e) = site h ∷ e

abbrev pub stmt_step : Stmt-F Made Made Made Made Made Made → List Place
stmt_step (F.Bind n e) = e
stmt_step (F.Return at e) = e
stmt_step (F.ReturnNothing at) = []
stmt_step (F.Stmt::Do e) = e

abbrev pub eval_step : Eval-F Made Made Made Made Made Made → List Place
eval_step (F.Method m) = m
eval_step (F.Eval::Do e) = e

abbrev pub branch_step : Branch-F Made Made Made Made Made Made → List Place
branch_step b = b.test ++ joined b.block

abbrev pub piece_step : Piece-F Made Made Made Made Made Made → List Place
piece_step (F.Text at t) = []
piece_step (F.Show e) = e

abbrev pub expr_places : Expr → List Place
expr_places = fold-Expr Made Made Made Made Made Made eval_step expr_step method_step piece_step stmt_step branch_step

abbrev pub method_places : Method → List Place
method_places = fold-Method Made Made Made Made Made Made eval_step expr_step method_step piece_step stmt_step branch_step

abbrev pub stmt_places : Stmt → List Place
stmt_places = fold-Stmt Made Made Made Made Made Made eval_step expr_step method_step piece_step stmt_step branch_step

abbrev pub eval_places : Eval → List Place
eval_places = fold-Eval Made Made Made Made Made Made eval_step expr_step method_step piece_step stmt_step branch_step

abbrev pub branch_places : Branch → List Place
branch_places = fold-Branch Made Made Made Made Made Made eval_step expr_step method_step piece_step stmt_step branch_step

abbrev pub piece_places : Piece → List Place
piece_places = fold-Piece Made Made Made Made Made Made eval_step expr_step method_step piece_step stmt_step branch_step

-- ---- items

abbrev pub item_places : Item → List Place
item_places (N.Abstract a) = []
item_places (N.Struct s) = []
item_places (N.Method m) = method_places m
item_places (N.Bind n e) = expr_places e
item_places (N.Do e) = expr_places e

abbrev pub script_places : Script → List Place
script_places s = joined (map item_places s.items)
