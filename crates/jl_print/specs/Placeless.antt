-- A tree with each place at 0: two scripts are the same, places aside, where these are.
use Rattle.std.specs.Prelude.{map, Option, Some, None}
use Rattle.jl_typeread.specs.declared.tree.TypeText.{TypeText}
use Rattle.jl_typeread.specs.declared.tree.ArgText.{ArgText}
use Rattle.jl_typeread.specs.declared.tree.VarText.{VarText}
use Rattle.jl_typeread.specs.declared.tree.ArgText.TheOpen as T
use Rattle.jl_typeread.specs.declared.tree.ArgText.TheOpen.{TypeText-F, ArgText-F, VarText-F}
use Rattle.jl_typeread.specs.declared.tree.ArgText.TheFolds.{fold-TypeText, fold-ArgText, fold-VarText}
use Rattle.jl_typeread.specs.declared.tree.TypeText.TheVariants as TV
use Rattle.jl_typeread.specs.declared.tree.ArgText.TheVariants as AV
use Rattle.jl_typeread.specs.declared.tree.VarText.TheVariants as VV
use Rattle.jl_typeread.specs.declared.tree.ArgText.TheViews as A
use Rattle.jl_grammar.specs.declared.tree.Branch.{Branch}
use Rattle.jl_grammar.specs.declared.tree.Callee.{Callee}
use Rattle.jl_grammar.specs.declared.tree.Callee.TheVariants as C
use Rattle.jl_grammar.specs.declared.tree.Eval.{Eval}
use Rattle.jl_grammar.specs.declared.tree.Expr.{Expr}
use Rattle.jl_grammar.specs.declared.tree.Field.{Field}
use Rattle.jl_grammar.specs.declared.tree.Head.{Head}
use Rattle.jl_grammar.specs.declared.tree.Header.{Header}
use Rattle.jl_grammar.specs.declared.tree.Item.{Item}
use Rattle.jl_grammar.specs.declared.tree.Item.TheVariants as N
use Rattle.jl_grammar.specs.declared.tree.Method.{Method}
use Rattle.jl_grammar.specs.declared.tree.Name.{Name}
use Rattle.jl_grammar.specs.declared.tree.Param.{Param}
use Rattle.jl_grammar.specs.declared.tree.Param.TheVariants as P
use Rattle.jl_grammar.specs.declared.tree.Piece.{Piece}
use Rattle.jl_grammar.specs.declared.tree.Stmt.{Stmt}
use Rattle.jl_grammar.specs.declared.tree.Script.{Script}
use Rattle.jl_grammar.specs.declared.tree.Eval.TheOpen as F
use Rattle.jl_grammar.specs.declared.tree.Eval.TheOpen.{Branch-F, Eval-F, Expr-F, Method-F, Piece-F, Stmt-F}
use Rattle.jl_grammar.specs.declared.tree.Eval.TheFolds.{fold-Branch, fold-Eval, fold-Expr, fold-Method, fold-Piece, fold-Stmt}
use Rattle.jl_grammar.specs.declared.tree.Expr.TheVariants as XV
use Rattle.jl_grammar.specs.declared.tree.Stmt.TheVariants as SV
use Rattle.jl_grammar.specs.declared.tree.Eval.TheVariants as EV
use Rattle.jl_grammar.specs.declared.tree.Piece.TheVariants as PV
use Rattle.jl_grammar.specs.declared.tree.Eval.TheViews as E

-- ---- types

abbrev pub argument_step : ArgText-F ArgText TypeText VarText → ArgText
argument_step (T.Exact t) = AV.Exact t
argument_step (T.ArgText::Below at t) = AV.Below 0 t
argument_step (T.ArgText::Above at t) = AV.Above 0 t

abbrev pub type_step : TypeText-F ArgText TypeText VarText → TypeText
type_step (T.Name at n) = TV.Name 0 n
type_step (T.Applied at n xs) = A.Applied 0 n xs
type_step (T.Paren at t vs) = A.Paren 0 t vs

abbrev pub variable_step : VarText-F ArgText TypeText VarText → VarText
variable_step (T.Free at n) = VV.Free 0 n
variable_step (T.VarText::Below at n t) = VV.Below 0 n t
variable_step (T.VarText::Above at n t) = VV.Above 0 n t
variable_step (T.Between low at n high) = VV.Between low 0 n high

abbrev pub same_type : TypeText → TypeText
same_type = fold-TypeText ArgText TypeText VarText argument_step type_step variable_step

abbrev pub same_argument : ArgText → ArgText
same_argument = fold-ArgText ArgText TypeText VarText argument_step type_step variable_step

abbrev pub same_variable : VarText → VarText
same_variable = fold-VarText ArgText TypeText VarText argument_step type_step variable_step

abbrev pub same_option : Option TypeText → Option TypeText
same_option None = None
same_option (Some t) = Some (same_type t)

-- ---- heads

abbrev pub same_name : Name → Name
same_name n = record { at = 0; bytes = n.bytes }

abbrev pub same_callee : Callee → Callee
same_callee (C.Plain n) = C.Plain (same_name n)
same_callee (C.Base at n) = C.Base 0 (same_name n)
same_callee (C.Operator at x) = C.Operator 0 x

abbrev pub same_param : Param → Param
same_param (P.Name n) = P.Name (same_name n)
same_param (P.Typed n t) = P.Typed (same_name n) (same_type t)
same_param (P.Unnamed at t) = P.Unnamed 0 (same_type t)

abbrev pub same_head : Head → Head
same_head h = record { callee = same_callee h.callee; params = map same_param h.params; vars = map same_variable h.vars }

-- ---- expressions, statements and methods

abbrev pub expr_step : Expr-F Eval Expr Method Piece Stmt Branch → Expr
expr_step (F.Number at n) = XV.Number 0 n
expr_step (F.Bool at b) = XV.Bool 0 b
expr_step (F.Nothing at) = XV.Nothing 0
expr_step (F.Name at n) = XV.Name 0 n
expr_step (F.Paren at e) = E.Paren 0 e
expr_step (F.Tuple at es) = E.Tuple 0 es
expr_step (F.Call at f es) = E.Call 0 (same_callee f) es
expr_step (F.Make at t es) = E.Make 0 (same_type t) es
expr_step (F.Field at e n) = E.Field 0 e (same_name n)
expr_step (F.Part at e n) = E.Part 0 e n
expr_step (F.Prefix at x e) = E.Prefix 0 x e
expr_step (F.Infix at x l r) = E.Infix 0 x l r
expr_step (F.Isa at e t) = E.Isa 0 e (same_type t)
expr_step (F.Sub at s t) = XV.Sub 0 (same_type s) (same_type t)
expr_step (F.Choose at c a b) = E.Choose 0 c a b
expr_step (F.If at bs) = E.If 0 bs
expr_step (F.IfElse at bs ss) = E.IfElse 0 bs ss
expr_step (F.Begin at ss) = E.Begin 0 ss
expr_step (F.Latest at f es) = E.Latest 0 (same_callee f) es
expr_step (F.Delete at n t) = XV.Delete 0 (same_name n) (same_type t)
expr_step (F.Spawn at e) = E.Spawn 0 e
expr_step (F.EvalMethod at m) = E.EvalMethod 0 m
expr_step (F.EvalBlock at xs) = E.EvalBlock 0 xs
expr_step (F.EvalExpr at e) = E.EvalExpr 0 e
expr_step (F.EvalQuote at xs) = E.EvalQuote 0 xs
expr_step (F.Fetch at e) = E.Fetch 0 e
expr_step (F.Print at line ps) = E.Print 0 line ps

abbrev pub method_step : Method-F Eval Expr Method Piece Stmt Branch → Method
method_step (F.Long at h ss) = E.Long 0 (same_head h) ss
method_step (F.Short at h e) = E.Short 0 (same_head h) e

abbrev pub stmt_step : Stmt-F Eval Expr Method Piece Stmt Branch → Stmt
stmt_step (F.Bind n e) = SV.Bind (same_name n) e
stmt_step (F.Return at e) = SV.Return 0 e
stmt_step (F.ReturnNothing at) = SV.ReturnNothing 0
stmt_step (F.Stmt::Do e) = SV.Do e

abbrev pub eval_step : Eval-F Eval Expr Method Piece Stmt Branch → Eval
eval_step (F.Method m) = EV.Method m
eval_step (F.Eval::Do e) = EV.Do e

abbrev pub piece_step : Piece-F Eval Expr Method Piece Stmt Branch → Piece
piece_step (F.Text at t) = PV.Text 0 t
piece_step (F.Show e) = PV.Show e

abbrev pub branch_step : Branch-F Eval Expr Method Piece Stmt Branch → Branch
branch_step b = record { at = 0; test = b.test; block = b.block }

abbrev pub same_expr : Expr → Expr
same_expr = fold-Expr Eval Expr Method Piece Stmt Branch eval_step expr_step method_step piece_step stmt_step branch_step

abbrev pub same_method : Method → Method
same_method = fold-Method Eval Expr Method Piece Stmt Branch eval_step expr_step method_step piece_step stmt_step branch_step

abbrev pub same_stmt : Stmt → Stmt
same_stmt = fold-Stmt Eval Expr Method Piece Stmt Branch eval_step expr_step method_step piece_step stmt_step branch_step

abbrev pub same_eval : Eval → Eval
same_eval = fold-Eval Eval Expr Method Piece Stmt Branch eval_step expr_step method_step piece_step stmt_step branch_step

abbrev pub same_branch : Branch → Branch
same_branch = fold-Branch Eval Expr Method Piece Stmt Branch eval_step expr_step method_step piece_step stmt_step branch_step

abbrev pub same_piece : Piece → Piece
same_piece = fold-Piece Eval Expr Method Piece Stmt Branch eval_step expr_step method_step piece_step stmt_step branch_step

-- ---- items

abbrev pub same_header : Header → Header
same_header h = record { at = 0; name = same_name h.name; params = map same_variable h.params; parent = same_option h.parent }

abbrev pub same_field : Field → Field
same_field f = record { name = same_name f.name; ty = same_option f.ty }

abbrev pub same_item : Item → Item
same_item (N.Abstract a) = N.Abstract (record { header = same_header a.header })
same_item (N.Struct s) = N.Struct (record { header = same_header s.header; fields = map same_field s.fields })
same_item (N.Method m) = N.Method (same_method m)
same_item (N.Bind n e) = N.Bind (same_name n) (same_expr e)
same_item (N.Do e) = N.Do (same_expr e)

-- the script with each place at 0
abbrev pub placeless : Script → Script
placeless s = record { items = map same_item s.items }
