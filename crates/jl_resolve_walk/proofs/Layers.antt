-- What each form of the tree is read as: one layer of the definition.
use Rattle.std.proofs.Common.{◌≡◌, ◌∙◌, ap, sym, ℕ, ℤ, Bool, List, map}
use Rattle.jl_typeread.specs.declared.tree.TypeText.{TypeText}
use Rattle.jl_grammar.specs.declared.tree.Branch.{Branch}
use Rattle.jl_grammar.specs.declared.tree.Callee.{Callee}
use Rattle.jl_grammar.specs.declared.tree.Eval.{Eval}
use Rattle.jl_grammar.specs.declared.tree.Expr.{Expr}
use Rattle.jl_grammar.specs.declared.tree.Head.{Head}
use Rattle.jl_grammar.specs.declared.tree.Infix.{Infix}
use Rattle.jl_grammar.specs.declared.tree.Method.{Method}
use Rattle.jl_grammar.specs.declared.tree.Name.{Name}
use Rattle.jl_grammar.specs.declared.tree.Piece.{Piece}
use Rattle.jl_grammar.specs.declared.tree.Prefix.{Prefix}
use Rattle.jl_grammar.specs.declared.tree.Stmt.{Stmt}
use Rattle.jl_grammar.specs.declared.tree.Eval.TheOpen as F
use Rattle.jl_grammar.specs.declared.tree.Eval.TheFolds.{fold-roll-Branch, fold-roll-Eval, fold-roll-Expr, fold-roll-Method, fold-roll-Piece, fold-roll-Stmt}
use Rattle.jl_grammar.specs.declared.tree.Expr.TheVariants as XV
use Rattle.jl_grammar.specs.declared.tree.Stmt.TheVariants as SV
use Rattle.jl_grammar.specs.declared.tree.Eval.TheVariants as EV
use Rattle.jl_grammar.specs.declared.tree.Piece.TheVariants as PV
use Rattle.jl_grammar.specs.declared.tree.Eval.TheViews as E
use Rattle.jl_resolve_forms.specs.declared.known.Known.{Known}
use Rattle.jl_resolve_forms.specs.TypesIn.{Tests}
use Rattle.jl_resolve_forms.specs.Expressions as M
use Rattle.jl_resolve_forms.specs.Expressions.{Reads, Defines, Says, Evaluates, Shows, Tries, expr_reads, method_reads, stmt_reads, eval_reads, piece_reads, branch_reads}

module _ (t : Tests) (k : Known) where
  pub expr-Number : (at : ℕ) (n : ℤ) → expr_reads t k (XV.Number at n) ≡ M.expr_step t k (F.Number at n)
  expr-Number at n = ap (expr_reads t k) (sym (E.rolls-Number at n)) ∙ fold-roll-Expr Evaluates Reads Defines Shows Says Tries (M.eval_step t k) (M.expr_step t k) (M.method_step t k) (M.piece_step t k) (M.stmt_step t k) (M.branch_step t k) (F.Number at n)

  pub expr-Bool : (at : ℕ) (b : Bool) → expr_reads t k (XV.Bool at b) ≡ M.expr_step t k (F.Bool at b)
  expr-Bool at b = ap (expr_reads t k) (sym (E.rolls-Bool at b)) ∙ fold-roll-Expr Evaluates Reads Defines Shows Says Tries (M.eval_step t k) (M.expr_step t k) (M.method_step t k) (M.piece_step t k) (M.stmt_step t k) (M.branch_step t k) (F.Bool at b)

  pub expr-Nothing : (at : ℕ) → expr_reads t k (XV.Nothing at) ≡ M.expr_step t k (F.Nothing at)
  expr-Nothing at = ap (expr_reads t k) (sym (E.rolls-Nothing at)) ∙ fold-roll-Expr Evaluates Reads Defines Shows Says Tries (M.eval_step t k) (M.expr_step t k) (M.method_step t k) (M.piece_step t k) (M.stmt_step t k) (M.branch_step t k) (F.Nothing at)

  pub expr-Name : (at : ℕ) (n : List ℕ) → expr_reads t k (XV.Name at n) ≡ M.expr_step t k (F.Name at n)
  expr-Name at n = ap (expr_reads t k) (sym (E.rolls-Name at n)) ∙ fold-roll-Expr Evaluates Reads Defines Shows Says Tries (M.eval_step t k) (M.expr_step t k) (M.method_step t k) (M.piece_step t k) (M.stmt_step t k) (M.branch_step t k) (F.Name at n)

  pub expr-Paren : (at : ℕ) (x : Expr) → expr_reads t k (E.Paren at x) ≡ M.expr_step t k (F.Paren at (expr_reads t k x))
  expr-Paren at x = ap (expr_reads t k) (sym (E.rolls-Paren at x)) ∙ fold-roll-Expr Evaluates Reads Defines Shows Says Tries (M.eval_step t k) (M.expr_step t k) (M.method_step t k) (M.piece_step t k) (M.stmt_step t k) (M.branch_step t k) (F.Paren at x)

  pub expr-Tuple : (at : ℕ) (xs : List Expr) → expr_reads t k (E.Tuple at xs) ≡ M.expr_step t k (F.Tuple at (map (expr_reads t k) xs))
  expr-Tuple at xs = ap (expr_reads t k) (sym (E.rolls-Tuple at xs)) ∙ fold-roll-Expr Evaluates Reads Defines Shows Says Tries (M.eval_step t k) (M.expr_step t k) (M.method_step t k) (M.piece_step t k) (M.stmt_step t k) (M.branch_step t k) (F.Tuple at xs)

  pub expr-Call : (at : ℕ) (f : Callee) (xs : List Expr) → expr_reads t k (E.Call at f xs) ≡ M.expr_step t k (F.Call at f (map (expr_reads t k) xs))
  expr-Call at f xs = ap (expr_reads t k) (sym (E.rolls-Call at f xs)) ∙ fold-roll-Expr Evaluates Reads Defines Shows Says Tries (M.eval_step t k) (M.expr_step t k) (M.method_step t k) (M.piece_step t k) (M.stmt_step t k) (M.branch_step t k) (F.Call at f xs)

  pub expr-Make : (at : ℕ) (ty : TypeText) (xs : List Expr) → expr_reads t k (E.Make at ty xs) ≡ M.expr_step t k (F.Make at ty (map (expr_reads t k) xs))
  expr-Make at ty xs = ap (expr_reads t k) (sym (E.rolls-Make at ty xs)) ∙ fold-roll-Expr Evaluates Reads Defines Shows Says Tries (M.eval_step t k) (M.expr_step t k) (M.method_step t k) (M.piece_step t k) (M.stmt_step t k) (M.branch_step t k) (F.Make at ty xs)

  pub expr-Field : (at : ℕ) (x : Expr) (n : Name) → expr_reads t k (E.Field at x n) ≡ M.expr_step t k (F.Field at (expr_reads t k x) n)
  expr-Field at x n = ap (expr_reads t k) (sym (E.rolls-Field at x n)) ∙ fold-roll-Expr Evaluates Reads Defines Shows Says Tries (M.eval_step t k) (M.expr_step t k) (M.method_step t k) (M.piece_step t k) (M.stmt_step t k) (M.branch_step t k) (F.Field at x n)

  pub expr-Part : (at : ℕ) (x : Expr) (n : ℤ) → expr_reads t k (E.Part at x n) ≡ M.expr_step t k (F.Part at (expr_reads t k x) n)
  expr-Part at x n = ap (expr_reads t k) (sym (E.rolls-Part at x n)) ∙ fold-roll-Expr Evaluates Reads Defines Shows Says Tries (M.eval_step t k) (M.expr_step t k) (M.method_step t k) (M.piece_step t k) (M.stmt_step t k) (M.branch_step t k) (F.Part at x n)

  pub expr-Prefix : (at : ℕ) (o : Prefix) (x : Expr) → expr_reads t k (E.Prefix at o x) ≡ M.expr_step t k (F.Prefix at o (expr_reads t k x))
  expr-Prefix at o x = ap (expr_reads t k) (sym (E.rolls-Prefix at o x)) ∙ fold-roll-Expr Evaluates Reads Defines Shows Says Tries (M.eval_step t k) (M.expr_step t k) (M.method_step t k) (M.piece_step t k) (M.stmt_step t k) (M.branch_step t k) (F.Prefix at o x)

  pub expr-Infix : (at : ℕ) (o : Infix) (a b : Expr) → expr_reads t k (E.Infix at o a b) ≡ M.expr_step t k (F.Infix at o (expr_reads t k a) (expr_reads t k b))
  expr-Infix at o a b = ap (expr_reads t k) (sym (E.rolls-Infix at o a b)) ∙ fold-roll-Expr Evaluates Reads Defines Shows Says Tries (M.eval_step t k) (M.expr_step t k) (M.method_step t k) (M.piece_step t k) (M.stmt_step t k) (M.branch_step t k) (F.Infix at o a b)

  pub expr-Isa : (at : ℕ) (x : Expr) (ty : TypeText) → expr_reads t k (E.Isa at x ty) ≡ M.expr_step t k (F.Isa at (expr_reads t k x) ty)
  expr-Isa at x ty = ap (expr_reads t k) (sym (E.rolls-Isa at x ty)) ∙ fold-roll-Expr Evaluates Reads Defines Shows Says Tries (M.eval_step t k) (M.expr_step t k) (M.method_step t k) (M.piece_step t k) (M.stmt_step t k) (M.branch_step t k) (F.Isa at x ty)

  pub expr-Sub : (at : ℕ) (a b : TypeText) → expr_reads t k (XV.Sub at a b) ≡ M.expr_step t k (F.Sub at a b)
  expr-Sub at a b = ap (expr_reads t k) (sym (E.rolls-Sub at a b)) ∙ fold-roll-Expr Evaluates Reads Defines Shows Says Tries (M.eval_step t k) (M.expr_step t k) (M.method_step t k) (M.piece_step t k) (M.stmt_step t k) (M.branch_step t k) (F.Sub at a b)

  pub expr-Choose : (at : ℕ) (q a b : Expr) → expr_reads t k (E.Choose at q a b) ≡ M.expr_step t k (F.Choose at (expr_reads t k q) (expr_reads t k a) (expr_reads t k b))
  expr-Choose at q a b = ap (expr_reads t k) (sym (E.rolls-Choose at q a b)) ∙ fold-roll-Expr Evaluates Reads Defines Shows Says Tries (M.eval_step t k) (M.expr_step t k) (M.method_step t k) (M.piece_step t k) (M.stmt_step t k) (M.branch_step t k) (F.Choose at q a b)

  pub expr-If : (at : ℕ) (bs : List Branch) → expr_reads t k (E.If at bs) ≡ M.expr_step t k (F.If at (map (branch_reads t k) bs))
  expr-If at bs = ap (expr_reads t k) (sym (E.rolls-If at bs)) ∙ fold-roll-Expr Evaluates Reads Defines Shows Says Tries (M.eval_step t k) (M.expr_step t k) (M.method_step t k) (M.piece_step t k) (M.stmt_step t k) (M.branch_step t k) (F.If at bs)

  pub expr-IfElse : (at : ℕ) (bs : List Branch) (ss : List Stmt) → expr_reads t k (E.IfElse at bs ss) ≡ M.expr_step t k (F.IfElse at (map (branch_reads t k) bs) (map (stmt_reads t k) ss))
  expr-IfElse at bs ss = ap (expr_reads t k) (sym (E.rolls-IfElse at bs ss)) ∙ fold-roll-Expr Evaluates Reads Defines Shows Says Tries (M.eval_step t k) (M.expr_step t k) (M.method_step t k) (M.piece_step t k) (M.stmt_step t k) (M.branch_step t k) (F.IfElse at bs ss)

  pub expr-Begin : (at : ℕ) (ss : List Stmt) → expr_reads t k (E.Begin at ss) ≡ M.expr_step t k (F.Begin at (map (stmt_reads t k) ss))
  expr-Begin at ss = ap (expr_reads t k) (sym (E.rolls-Begin at ss)) ∙ fold-roll-Expr Evaluates Reads Defines Shows Says Tries (M.eval_step t k) (M.expr_step t k) (M.method_step t k) (M.piece_step t k) (M.stmt_step t k) (M.branch_step t k) (F.Begin at ss)

  pub expr-Latest : (at : ℕ) (f : Callee) (xs : List Expr) → expr_reads t k (E.Latest at f xs) ≡ M.expr_step t k (F.Latest at f (map (expr_reads t k) xs))
  expr-Latest at f xs = ap (expr_reads t k) (sym (E.rolls-Latest at f xs)) ∙ fold-roll-Expr Evaluates Reads Defines Shows Says Tries (M.eval_step t k) (M.expr_step t k) (M.method_step t k) (M.piece_step t k) (M.stmt_step t k) (M.branch_step t k) (F.Latest at f xs)

  pub expr-Delete : (at : ℕ) (n : Name) (ty : TypeText) → expr_reads t k (XV.Delete at n ty) ≡ M.expr_step t k (F.Delete at n ty)
  expr-Delete at n ty = ap (expr_reads t k) (sym (E.rolls-Delete at n ty)) ∙ fold-roll-Expr Evaluates Reads Defines Shows Says Tries (M.eval_step t k) (M.expr_step t k) (M.method_step t k) (M.piece_step t k) (M.stmt_step t k) (M.branch_step t k) (F.Delete at n ty)

  pub expr-Spawn : (at : ℕ) (x : Expr) → expr_reads t k (E.Spawn at x) ≡ M.expr_step t k (F.Spawn at (expr_reads t k x))
  expr-Spawn at x = ap (expr_reads t k) (sym (E.rolls-Spawn at x)) ∙ fold-roll-Expr Evaluates Reads Defines Shows Says Tries (M.eval_step t k) (M.expr_step t k) (M.method_step t k) (M.piece_step t k) (M.stmt_step t k) (M.branch_step t k) (F.Spawn at x)

  pub expr-EvalMethod : (at : ℕ) (m : Method) → expr_reads t k (E.EvalMethod at m) ≡ M.expr_step t k (F.EvalMethod at (method_reads t k m))
  expr-EvalMethod at m = ap (expr_reads t k) (sym (E.rolls-EvalMethod at m)) ∙ fold-roll-Expr Evaluates Reads Defines Shows Says Tries (M.eval_step t k) (M.expr_step t k) (M.method_step t k) (M.piece_step t k) (M.stmt_step t k) (M.branch_step t k) (F.EvalMethod at m)

  pub expr-EvalBlock : (at : ℕ) (xs : List Eval) → expr_reads t k (E.EvalBlock at xs) ≡ M.expr_step t k (F.EvalBlock at (map (eval_reads t k) xs))
  expr-EvalBlock at xs = ap (expr_reads t k) (sym (E.rolls-EvalBlock at xs)) ∙ fold-roll-Expr Evaluates Reads Defines Shows Says Tries (M.eval_step t k) (M.expr_step t k) (M.method_step t k) (M.piece_step t k) (M.stmt_step t k) (M.branch_step t k) (F.EvalBlock at xs)

  pub expr-EvalExpr : (at : ℕ) (x : Expr) → expr_reads t k (E.EvalExpr at x) ≡ M.expr_step t k (F.EvalExpr at (expr_reads t k x))
  expr-EvalExpr at x = ap (expr_reads t k) (sym (E.rolls-EvalExpr at x)) ∙ fold-roll-Expr Evaluates Reads Defines Shows Says Tries (M.eval_step t k) (M.expr_step t k) (M.method_step t k) (M.piece_step t k) (M.stmt_step t k) (M.branch_step t k) (F.EvalExpr at x)

  pub expr-EvalQuote : (at : ℕ) (xs : List Eval) → expr_reads t k (E.EvalQuote at xs) ≡ M.expr_step t k (F.EvalQuote at (map (eval_reads t k) xs))
  expr-EvalQuote at xs = ap (expr_reads t k) (sym (E.rolls-EvalQuote at xs)) ∙ fold-roll-Expr Evaluates Reads Defines Shows Says Tries (M.eval_step t k) (M.expr_step t k) (M.method_step t k) (M.piece_step t k) (M.stmt_step t k) (M.branch_step t k) (F.EvalQuote at xs)

  pub expr-Fetch : (at : ℕ) (x : Expr) → expr_reads t k (E.Fetch at x) ≡ M.expr_step t k (F.Fetch at (expr_reads t k x))
  expr-Fetch at x = ap (expr_reads t k) (sym (E.rolls-Fetch at x)) ∙ fold-roll-Expr Evaluates Reads Defines Shows Says Tries (M.eval_step t k) (M.expr_step t k) (M.method_step t k) (M.piece_step t k) (M.stmt_step t k) (M.branch_step t k) (F.Fetch at x)

  pub expr-Print : (at : ℕ) (line : Bool) (ps : List Piece) → expr_reads t k (E.Print at line ps) ≡ M.expr_step t k (F.Print at line (map (piece_reads t k) ps))
  expr-Print at line ps = ap (expr_reads t k) (sym (E.rolls-Print at line ps)) ∙ fold-roll-Expr Evaluates Reads Defines Shows Says Tries (M.eval_step t k) (M.expr_step t k) (M.method_step t k) (M.piece_step t k) (M.stmt_step t k) (M.branch_step t k) (F.Print at line ps)

  pub method-Long : (at : ℕ) (h : Head) (ss : List Stmt) → method_reads t k (E.Long at h ss) ≡ M.method_step t k (F.Long at h (map (stmt_reads t k) ss))
  method-Long at h ss = ap (method_reads t k) (sym (E.rolls-Long at h ss)) ∙ fold-roll-Method Evaluates Reads Defines Shows Says Tries (M.eval_step t k) (M.expr_step t k) (M.method_step t k) (M.piece_step t k) (M.stmt_step t k) (M.branch_step t k) (F.Long at h ss)

  pub method-Short : (at : ℕ) (h : Head) (x : Expr) → method_reads t k (E.Short at h x) ≡ M.method_step t k (F.Short at h (expr_reads t k x))
  method-Short at h x = ap (method_reads t k) (sym (E.rolls-Short at h x)) ∙ fold-roll-Method Evaluates Reads Defines Shows Says Tries (M.eval_step t k) (M.expr_step t k) (M.method_step t k) (M.piece_step t k) (M.stmt_step t k) (M.branch_step t k) (F.Short at h x)

  pub stmt-Bind : (n : Name) (x : Expr) → stmt_reads t k (SV.Bind n x) ≡ M.stmt_step t k (F.Bind n (expr_reads t k x))
  stmt-Bind n x = ap (stmt_reads t k) (sym (E.rolls-Bind n x)) ∙ fold-roll-Stmt Evaluates Reads Defines Shows Says Tries (M.eval_step t k) (M.expr_step t k) (M.method_step t k) (M.piece_step t k) (M.stmt_step t k) (M.branch_step t k) (F.Bind n x)

  pub stmt-Return : (at : ℕ) (x : Expr) → stmt_reads t k (SV.Return at x) ≡ M.stmt_step t k (F.Return at (expr_reads t k x))
  stmt-Return at x = ap (stmt_reads t k) (sym (E.rolls-Return at x)) ∙ fold-roll-Stmt Evaluates Reads Defines Shows Says Tries (M.eval_step t k) (M.expr_step t k) (M.method_step t k) (M.piece_step t k) (M.stmt_step t k) (M.branch_step t k) (F.Return at x)

  pub stmt-ReturnNothing : (at : ℕ) → stmt_reads t k (SV.ReturnNothing at) ≡ M.stmt_step t k (F.ReturnNothing at)
  stmt-ReturnNothing at = ap (stmt_reads t k) (sym (E.rolls-ReturnNothing at)) ∙ fold-roll-Stmt Evaluates Reads Defines Shows Says Tries (M.eval_step t k) (M.expr_step t k) (M.method_step t k) (M.piece_step t k) (M.stmt_step t k) (M.branch_step t k) (F.ReturnNothing at)

  pub stmt-Do : (x : Expr) → stmt_reads t k (SV.Do x) ≡ M.stmt_step t k (F.Stmt::Do (expr_reads t k x))
  stmt-Do x = ap (stmt_reads t k) (sym (E.rolls-Stmt::Do x)) ∙ fold-roll-Stmt Evaluates Reads Defines Shows Says Tries (M.eval_step t k) (M.expr_step t k) (M.method_step t k) (M.piece_step t k) (M.stmt_step t k) (M.branch_step t k) (F.Stmt::Do x)

  pub eval-Method : (m : Method) → eval_reads t k (EV.Method m) ≡ M.eval_step t k (F.Method (method_reads t k m))
  eval-Method m = ap (eval_reads t k) (sym (E.rolls-Method m)) ∙ fold-roll-Eval Evaluates Reads Defines Shows Says Tries (M.eval_step t k) (M.expr_step t k) (M.method_step t k) (M.piece_step t k) (M.stmt_step t k) (M.branch_step t k) (F.Method m)

  pub eval-Do : (x : Expr) → eval_reads t k (EV.Do x) ≡ M.eval_step t k (F.Eval::Do (expr_reads t k x))
  eval-Do x = ap (eval_reads t k) (sym (E.rolls-Eval::Do x)) ∙ fold-roll-Eval Evaluates Reads Defines Shows Says Tries (M.eval_step t k) (M.expr_step t k) (M.method_step t k) (M.piece_step t k) (M.stmt_step t k) (M.branch_step t k) (F.Eval::Do x)

  pub piece-Text : (at : ℕ) (b : List ℕ) → piece_reads t k (PV.Text at b) ≡ M.piece_step t k (F.Text at b)
  piece-Text at b = ap (piece_reads t k) (sym (E.rolls-Text at b)) ∙ fold-roll-Piece Evaluates Reads Defines Shows Says Tries (M.eval_step t k) (M.expr_step t k) (M.method_step t k) (M.piece_step t k) (M.stmt_step t k) (M.branch_step t k) (F.Text at b)

  pub piece-Show : (x : Expr) → piece_reads t k (PV.Show x) ≡ M.piece_step t k (F.Show (expr_reads t k x))
  piece-Show x = ap (piece_reads t k) (sym (E.rolls-Show x)) ∙ fold-roll-Piece Evaluates Reads Defines Shows Says Tries (M.eval_step t k) (M.expr_step t k) (M.method_step t k) (M.piece_step t k) (M.stmt_step t k) (M.branch_step t k) (F.Show x)

  pub branch-is : (b : Branch) → branch_reads t k b ≡ record { test = expr_reads t k b.test; block = map (stmt_reads t k) b.block }
  branch-is b = fold-roll-Branch Evaluates Reads Defines Shows Says Tries (M.eval_step t k) (M.expr_step t k) (M.method_step t k) (M.piece_step t k) (M.stmt_step t k) (M.branch_step t k) (record { at = b.at; test = b.test; block = b.block })
