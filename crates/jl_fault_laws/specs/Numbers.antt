-- What is numbered in a script, in the order of its text: methods, spawns and deletions, each before those inside it. Nothing is counted
-- here, and no state goes along.
use Rattle.std.specs.Prelude.{ℕ, ◌+◌, ◌≡◌, cond, List, [], ◌∷◌, ◌++◌, map, length}
use Rattle.jl_model.specs.declared.builtin.TheConstants.{BUILTIN_TYPES}
use Rattle.jl_model.specs.declared.ty.Written.{Written}
use Rattle.jl_program.specs.declared.tree.Program.{Program}
use Rattle.jl_program.specs.declared.tree.Site.{Site}
use Rattle.jl_program.specs.Prelude.{prelude_sites}
use Rattle.jl_typeread.specs.declared.tree.ArgText.TheViews.{out-TypeText}
use Rattle.jl_grammar.specs.declared.tree.Branch.{Branch}
use Rattle.jl_grammar.specs.declared.tree.Eval.{Eval}
use Rattle.jl_grammar.specs.declared.tree.Eval.TheFolds.{fold-Branch, fold-Eval, fold-Expr, fold-Method, fold-Piece, fold-Stmt}
use Rattle.jl_grammar.specs.declared.tree.Eval.TheOpen as F
use Rattle.jl_grammar.specs.declared.tree.Eval.TheOpen.{Branch-F, Eval-F, Expr-F, Method-F, Piece-F, Stmt-F}
use Rattle.jl_grammar.specs.declared.tree.Expr.{Expr}
use Rattle.jl_grammar.specs.declared.tree.Head.{Head}
use Rattle.jl_grammar.specs.declared.tree.Item.{Item}
use Rattle.jl_grammar.specs.declared.tree.Item.TheVariants as N
use Rattle.jl_grammar.specs.declared.tree.Method.{Method}
use Rattle.jl_grammar.specs.declared.tree.Piece.{Piece}
use Rattle.jl_grammar.specs.declared.tree.Stmt.{Stmt}
use Rattle.jl_resolve_forms.specs.declared.known.Known.{Known}
use Rattle.jl_resolve_forms.specs.Functions.{function_of}
use Rattle.jl_resolve_forms.specs.TypesIn.{Tests}
use Rattle.jl_resolve_forms.specs.Expressions.{bare_scope, defined_function, is_signature, method_signature}

-- what gets a number: a method with this head a site, a spawn a spawn place, a deletion a deletion place
pub data Mark : Type 0 where
  of_method : Head → Mark
  of_spawn : Mark
  of_deletion : Mark

abbrev pub Marks : Type 0
Marks = List Mark

abbrev pub joined : List Marks → Marks
joined [] = []
joined (x ∷ xs) = x ++ joined xs

abbrev pub expr_step : Expr-F Marks Marks Marks Marks Marks Marks → Marks
expr_step (F.Number at n) = []
expr_step (F.Bool at b) = []
expr_step (F.Nothing at) = []
expr_step (F.Name at n) = []
expr_step (F.Paren at x) = x
expr_step (F.Tuple at xs) = joined xs
expr_step (F.Call at f xs) = joined xs
expr_step (F.Make at ty xs) = joined xs
expr_step (F.Field at x n) = x
expr_step (F.Part at x n) = x
expr_step (F.Prefix at o x) = x
expr_step (F.Infix at o a b) = a ++ b
expr_step (F.Isa at x ty) = x
expr_step (F.Sub at a b) = []
expr_step (F.Choose at q a b) = q ++ (a ++ b)
expr_step (F.If at bs) = joined bs
expr_step (F.IfElse at bs ss) = joined bs ++ joined ss
expr_step (F.Begin at ss) = joined ss
expr_step (F.Latest at f xs) = joined xs
-- one whose type is no signature has a fault, and no place
expr_step (F.Delete at n ty) = cond (is_signature (out-TypeText ty)) (of_deletion ∷ []) []
expr_step (F.Spawn at x) = of_spawn ∷ x
expr_step (F.EvalMethod at m) = m
expr_step (F.EvalBlock at xs) = joined xs
expr_step (F.EvalExpr at x) = x
expr_step (F.EvalQuote at xs) = joined xs
expr_step (F.Fetch at x) = x
expr_step (F.Print at line ps) = joined ps

abbrev pub method_step : Method-F Marks Marks Marks Marks Marks Marks → Marks
method_step (F.Long at h ss) = of_method h ∷ joined ss
method_step (F.Short at h x) = of_method h ∷ x

abbrev pub stmt_step : Stmt-F Marks Marks Marks Marks Marks Marks → Marks
stmt_step (F.Bind n x) = x
stmt_step (F.Return at x) = x
stmt_step (F.ReturnNothing at) = []
stmt_step (F.Stmt::Do x) = x

abbrev pub eval_step : Eval-F Marks Marks Marks Marks Marks Marks → Marks
eval_step (F.Method m) = m
eval_step (F.Eval::Do x) = x

abbrev pub piece_step : Piece-F Marks Marks Marks Marks Marks Marks → Marks
piece_step (F.Text at bytes) = []
piece_step (F.Show x) = x

abbrev pub branch_step : Branch-F Marks Marks Marks Marks Marks Marks → Marks
branch_step b = b.test ++ joined b.block

abbrev pub expr_marks : Expr → Marks
expr_marks = fold-Expr Marks Marks Marks Marks Marks Marks eval_step expr_step method_step piece_step stmt_step branch_step

abbrev pub method_marks : Method → Marks
method_marks = fold-Method Marks Marks Marks Marks Marks Marks eval_step expr_step method_step piece_step stmt_step branch_step

abbrev pub stmt_marks : Stmt → Marks
stmt_marks = fold-Stmt Marks Marks Marks Marks Marks Marks eval_step expr_step method_step piece_step stmt_step branch_step

abbrev pub eval_marks : Eval → Marks
eval_marks = fold-Eval Marks Marks Marks Marks Marks Marks eval_step expr_step method_step piece_step stmt_step branch_step

abbrev pub piece_marks : Piece → Marks
piece_marks = fold-Piece Marks Marks Marks Marks Marks Marks eval_step expr_step method_step piece_step stmt_step branch_step

abbrev pub branch_marks : Branch → Marks
branch_marks = fold-Branch Marks Marks Marks Marks Marks Marks eval_step expr_step method_step piece_step stmt_step branch_step

abbrev pub item_marks : Item → Marks
item_marks (N.Abstract a) = []
item_marks (N.Struct x) = []
item_marks (N.Method m) = method_marks m
item_marks (N.Bind n x) = expr_marks x
item_marks (N.Do x) = expr_marks x

-- how many spawns, and how many deletions
abbrev pub spawns_in : Marks → ℕ
spawns_in [] = 0
spawns_in (of_method h ∷ ms) = spawns_in ms
spawns_in (of_spawn ∷ ms) = 1 + spawns_in ms
spawns_in (of_deletion ∷ ms) = spawns_in ms

abbrev pub deletions_in : Marks → ℕ
deletions_in [] = 0
deletions_in (of_method h ∷ ms) = deletions_in ms
deletions_in (of_spawn ∷ ms) = deletions_in ms
deletions_in (of_deletion ∷ ms) = 1 + deletions_in ms

-- a site without its body
pub record Opened : Type 0 where
  pub function : ℕ
  pub sig : Written

abbrev pub opened : Site → Opened
opened x = record { function = x.function; sig = x.sig }

module _ (t : Tests) (k : Known) where
  -- the site of a method, where so many types are declared before it: its function, and the signature of its head
  abbrev pub opened_by : ℕ → Head → Opened
  opened_by types h = record { function = defined_function (function_of k h.callee (bare_scope types)); sig = (method_signature t k types h).sig }

  abbrev pub sites_in : ℕ → Marks → List Opened
  sites_in types [] = []
  sites_in types (of_method h ∷ ms) = opened_by types h ∷ sites_in types ms
  sites_in types (of_spawn ∷ ms) = sites_in types ms
  sites_in types (of_deletion ∷ ms) = sites_in types ms

  -- of items one after another, where so many types are declared before the first
  abbrev pub items_sites : ℕ → List Item → List Opened
  items_sites types [] = []
  items_sites types (N.Abstract a ∷ xs) = items_sites (types + 1) xs
  items_sites types (N.Struct x ∷ xs) = items_sites (types + 1) xs
  items_sites types (N.Method m ∷ xs) = sites_in types (method_marks m) ++ items_sites types xs
  items_sites types (N.Bind n x ∷ xs) = sites_in types (expr_marks x) ++ items_sites types xs
  items_sites types (N.Do x ∷ xs) = sites_in types (expr_marks x) ++ items_sites types xs

  -- The numbers of a program's places are in text order: after the prelude's sites those of the methods, each with the function and the
  -- signature of its head; and as many spawn and deletion places as there are spawns and deletions.
  pub record HasNumbersOf (items : List Item) (P : Program) : Type 0 where
    pub sites : map opened P.sites ≡ map opened prelude_sites ++ items_sites BUILTIN_TYPES items
    pub spawns : length P.spawns ≡ spawns_in (joined (map item_marks items))
    pub deletes : length P.deletes ≡ deletions_in (joined (map item_marks items))
