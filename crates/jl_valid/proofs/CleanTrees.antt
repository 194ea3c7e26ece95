-- Faults stay, in each tree: one line a form.
use Rattle.std.proofs.Common.{◌∷◌, None, Option, ◌≡◌, sym, subst, ℕ, Bool, true, false, List, [], map}
use Rattle.jl_typeread.specs.declared.tree.ArgText.TheViews.{out-TypeText}
use Rattle.jl_grammar.specs.declared.tree.Branch.{Branch}
use Rattle.jl_grammar.specs.declared.tree.Eval.{Eval}
use Rattle.jl_grammar.specs.declared.tree.Eval.TheFolds.{map-Eval, map-Expr, map-Method, map-Piece, map-Stmt, fold-roll-Branch, fold-roll-Eval, fold-roll-Expr, fold-roll-Method, fold-roll-Piece, fold-roll-Stmt}
use Rattle.jl_grammar.specs.declared.tree.Eval.TheOpen as F
use Rattle.jl_grammar.specs.declared.tree.Eval.TheOpen.{Branch-F, Eval-F, Expr-F, Method-F, Piece-F, Stmt-F}
use Rattle.jl_grammar.specs.declared.tree.Eval.TheVariants as EV
use Rattle.jl_grammar.specs.declared.tree.Eval.TheViews as E
use Rattle.jl_grammar.specs.declared.tree.Eval.TheViews.{roll-Eval, roll-Expr, roll-Method, roll-Piece, roll-Stmt}
use Rattle.jl_grammar.specs.declared.tree.Expr.{Expr}
use Rattle.jl_grammar.specs.declared.tree.Expr.TheVariants as XV
use Rattle.jl_grammar.specs.declared.tree.Method.{Method}
use Rattle.jl_grammar.specs.declared.tree.Piece.{Piece}
use Rattle.jl_grammar.specs.declared.tree.Piece.TheVariants as PV
use Rattle.jl_grammar.specs.declared.tree.Stmt.{Stmt}
use Rattle.jl_grammar.specs.declared.tree.Stmt.TheVariants as SV
use Rattle.jl_formed.specs.Formed as G
use Rattle.jl_formed.specs.Formed.{FormedType, FormedArgs, FormedCallee, FormedHead, FormedExpr, FormedExprs, FormedBranch, FormedBranches, FormedPiece, FormedPieces, FormedStmt, FormedStmts, FormedEval, FormedEvals, FormedMethod}
use Rattle.jl_resolve_forms.specs.declared.known.Known.{Known}
use Rattle.jl_resolve_forms.specs.TypesIn.{Tests}
use Rattle.jl_resolve_forms.specs.Expressions as R
use Rattle.jl_resolve_forms.specs.Expressions.{Reads, Defines, Says, Evaluates, Shows, Tries, make_args, part_number, expr_reads, method_reads, stmt_reads, eval_reads, piece_reads, branch_reads}
use Rattle.jl_grammar.specs.declared.tree.Item.{Item}
use Rattle.jl_formed.specs.Formed.{FormedItem, FormedItems}
use Rattle.jl_written.specs.declared.fault.Fault.{Fault}
use Rattle.jl_resolve_forms.specs.declared.state.Scope.{Scope}
use Rattle.jl_resolve_forms.specs.declared.state.State.{State}
use Rattle.jl_resolve_forms.specs.Functions.{place_of_callee, function_of, callee_of}
use Rattle.jl_resolve_forms.specs.Scopes.{slot_of}
use Rattle.jl_resolve_forms.specs.Top.{top_bind, one_top, all_top, beginning, resolve}
use Rattle.jl_resolve_forms.specs.TypesIn.{start_of}
use Rattle.jl_resolve_forms.specs.Expressions.{defines, evaluates, all_coded, all_tried, block_of, bare_scope, make_struct}
use Rattle.jl_valid.specs.Adds.{Every}
use Rattle.jl_valid.proofs.CleanForms as C
use Rattle.jl_valid.proofs.DeleteForms.{delete_clean}
use Rattle.jl_valid.proofs.FaultLemmas.{clean}
use Rattle.jl_valid.proofs.TopLemmas.{top_bind_same}

module _ (t : Tests) (k : Known) where
  expr_at :
      (l : Expr-F Eval Expr Method Piece Stmt Branch) (e : Expr) → roll-Expr l ≡ e
      → C.IsClean (R.expr_step t k (map-Expr Eval Expr Method Piece Stmt Branch Evaluates Reads Defines Shows Says Tries (eval_reads t k) (expr_reads t k) (method_reads t k) (piece_reads t k) (stmt_reads t k) (branch_reads t k) l))
      → C.IsClean (expr_reads t k e)
  expr_at l e is h =
      let reads = fold-roll-Expr Evaluates Reads Defines Shows Says Tries (R.eval_step t k) (R.expr_step t k) (R.method_step t k) (R.piece_step t k) (R.stmt_step t k) (R.branch_step t k) l in
      subst (λ x. C.IsClean (expr_reads t k x)) is (subst (λ x. C.IsClean x) (sym reads) h)

  stmt_at :
      (l : Stmt-F Eval Expr Method Piece Stmt Branch) (e : Stmt) → roll-Stmt l ≡ e
      → C.IsCleanStmt (R.stmt_step t k (map-Stmt Eval Expr Method Piece Stmt Branch Evaluates Reads Defines Shows Says Tries (eval_reads t k) (expr_reads t k) (method_reads t k) (piece_reads t k) (stmt_reads t k) (branch_reads t k) l))
      → C.IsCleanStmt (stmt_reads t k e)
  stmt_at l e is h =
      let reads = fold-roll-Stmt Evaluates Reads Defines Shows Says Tries (R.eval_step t k) (R.expr_step t k) (R.method_step t k) (R.piece_step t k) (R.stmt_step t k) (R.branch_step t k) l in
      subst (λ x. C.IsCleanStmt (stmt_reads t k x)) is (subst (λ x. C.IsCleanStmt x) (sym reads) h)

  method_at :
      (l : Method-F Eval Expr Method Piece Stmt Branch) (e : Method) → roll-Method l ≡ e
      → C.IsCleanMethod (R.method_step t k (map-Method Eval Expr Method Piece Stmt Branch Evaluates Reads Defines Shows Says Tries (eval_reads t k) (expr_reads t k) (method_reads t k) (piece_reads t k) (stmt_reads t k) (branch_reads t k) l))
      → C.IsCleanMethod (method_reads t k e)
  method_at l e is h =
      let reads = fold-roll-Method Evaluates Reads Defines Shows Says Tries (R.eval_step t k) (R.expr_step t k) (R.method_step t k) (R.piece_step t k) (R.stmt_step t k) (R.branch_step t k) l in
      subst (λ x. C.IsCleanMethod (method_reads t k x)) is (subst (λ x. C.IsCleanMethod x) (sym reads) h)

  eval_at :
      (l : Eval-F Eval Expr Method Piece Stmt Branch) (e : Eval) → roll-Eval l ≡ e
      → C.IsCleanEval (R.eval_step t k (map-Eval Eval Expr Method Piece Stmt Branch Evaluates Reads Defines Shows Says Tries (eval_reads t k) (expr_reads t k) (method_reads t k) (piece_reads t k) (stmt_reads t k) (branch_reads t k) l))
      → C.IsCleanEval (eval_reads t k e)
  eval_at l e is h =
      let reads = fold-roll-Eval Evaluates Reads Defines Shows Says Tries (R.eval_step t k) (R.expr_step t k) (R.method_step t k) (R.piece_step t k) (R.stmt_step t k) (R.branch_step t k) l in
      subst (λ x. C.IsCleanEval (eval_reads t k x)) is (subst (λ x. C.IsCleanEval x) (sym reads) h)

  piece_at :
      (l : Piece-F Eval Expr Method Piece Stmt Branch) (e : Piece) → roll-Piece l ≡ e
      → C.IsCleanPiece (R.piece_step t k (map-Piece Eval Expr Method Piece Stmt Branch Evaluates Reads Defines Shows Says Tries (eval_reads t k) (expr_reads t k) (method_reads t k) (piece_reads t k) (stmt_reads t k) (branch_reads t k) l))
      → C.IsCleanPiece (piece_reads t k e)
  piece_at l e is h =
      let reads = fold-roll-Piece Evaluates Reads Defines Shows Says Tries (R.eval_step t k) (R.expr_step t k) (R.method_step t k) (R.piece_step t k) (R.stmt_step t k) (R.branch_step t k) l in
      subst (λ x. C.IsCleanPiece (piece_reads t k x)) is (subst (λ x. C.IsCleanPiece x) (sym reads) h)

  branch_at : (a : ℕ) (e : Expr) (ss : List Stmt) → C.IsClean (expr_reads t k e) → Every C.IsCleanStmt (map (stmt_reads t k) ss) → C.IsCleanBranch (branch_reads t k (record { at = a; test = e; block = ss }))
  branch_at a e ss h g =
      let reads = fold-roll-Branch Evaluates Reads Defines Shows Says Tries (R.eval_step t k) (R.expr_step t k) (R.method_step t k) (R.piece_step t k) (R.stmt_step t k) (R.branch_step t k) (record { at = a; test = e; block = ss }) in
      let b : Tries = record { test = expr_reads t k e; block = map (stmt_reads t k) ss } in
      let it : C.IsCleanBranch b = record { test = h; block = g } in
      subst (λ (x : Tries). C.IsCleanBranch x) (sym reads) it

  mutual
    pub expr_clean : (r : Bool) (e : Expr) → FormedExpr r e → C.IsClean (expr_reads t k e)
    expr_clean _ _ (G.number r a n) = expr_at (F.Number a n) (XV.Number a n) (E.rolls-Number a n) (λ c s e. e)
    expr_clean _ _ (G.truth r a b) = expr_at (F.Bool a b) (XV.Bool a b) (E.rolls-Bool a b) (λ c s e. e)
    expr_clean _ _ (G.nothing r a) = expr_at (F.Nothing a) (XV.Nothing a) (E.rolls-Nothing a) (λ c s e. e)
    expr_clean _ _ (G.name r a n is) = expr_at (F.Name a n) (XV.Name a n) (E.rolls-Name a n) (λ c s e. C.local_clean a (slot_of c.slots n) s e)
    expr_clean _ _ (G.paren r a e f) = expr_at (F.Paren a e) (E.Paren a e) (E.rolls-Paren a e) (expr_clean r e f)
    expr_clean _ _ (G.tuple r a es fs) = expr_at (F.Tuple a es) (E.Tuple a es) (E.rolls-Tuple a es) (C.coded_clean (map (expr_reads t k) es) (exprs_clean r es fs))
    expr_clean _ _ (G.call r a g es is fs) =
        expr_at (F.Call a g es) (E.Call a g es) (E.rolls-Call a g es)
        (λ c s e. C.coded_clean (map (expr_reads t k) es) (exprs_clean r es fs) c s (C.call_clean t k (place_of_callee g) (callee_of k g c) (all_coded (map (expr_reads t k) es) c s) e))
    expr_clean _ _ (G.make r a ty es is fs) =
        expr_at (F.Make a ty es) (E.Make a ty es) (E.rolls-Make a ty es)
        (λ c s e. C.made_clean t k (start_of ty) (make_struct k (out-TypeText ty) c) (make_args (out-TypeText ty)) (map (expr_reads t k) es) (exprs_clean r es fs) c s e)
    expr_clean _ _ (G.field r a e x f is) = expr_at (F.Field a e x) (E.Field a e x) (E.rolls-Field a e x) (expr_clean r e f)
    expr_clean _ _ (G.part r a e n f is) = expr_at (F.Part a e n) (E.Part a e n) (E.rolls-Part a e n) (expr_clean r e f)
    expr_clean _ _ (G.prefixed r a o e f) = expr_at (F.Prefix a o e) (E.Prefix a o e) (E.rolls-Prefix a o e) (expr_clean r e f)
    expr_clean _ _ (G.infixed r a o e d f g) =
        expr_at (F.Infix a o e d) (E.Infix a o e d) (E.rolls-Infix a o e d) (λ c s h. expr_clean r e f c s (expr_clean r d g c (expr_reads t k e c s).after h))
    expr_clean _ _ (G.isa r a e ty f is) = expr_at (F.Isa a e ty) (E.Isa a e ty) (E.rolls-Isa a e ty) (C.isa_clean t k (expr_reads t k e) ty (expr_clean r e f))
    expr_clean _ _ (G.sub r a x y f g) = expr_at (F.Sub a x y) (XV.Sub a x y) (E.rolls-Sub a x y) (C.sub_clean t k x y)
    expr_clean _ _ (G.choose r a q e d f g i) =
        expr_at (F.Choose a q e d) (E.Choose a q e d) (E.rolls-Choose a q e d)
        (λ c s h.
        let m = (expr_reads t k q c s).after in
        expr_clean r q f c s (expr_clean r e g c m (expr_clean r d i c (expr_reads t k e c m).after h)))
    expr_clean _ _ (G.if_end r a bs fs) = expr_at (F.If a bs) (E.If a bs) (E.rolls-If a bs) (C.tried_clean (map (branch_reads t k) bs) (branches_clean r bs fs))
    expr_clean _ _ (G.if_else r a bs ss fs gs) =
        expr_at (F.IfElse a bs ss) (E.IfElse a bs ss) (E.rolls-IfElse a bs ss)
        (λ c s h. C.tried_clean (map (branch_reads t k) bs) (branches_clean r bs fs) c s (C.block_clean (map (stmt_reads t k) ss) (stmts_clean r ss gs) c (all_tried (map (branch_reads t k) bs) c s).after h))
    expr_clean _ _ (G.begin_end r a ss fs) = expr_at (F.Begin a ss) (E.Begin a ss) (E.rolls-Begin a ss) (C.block_clean (map (stmt_reads t k) ss) (stmts_clean r ss fs))
    expr_clean _ _ (G.latest r a g es is fs) =
        expr_at (F.Latest a g es) (E.Latest a g es) (E.rolls-Latest a g es)
        (λ c s e. C.coded_clean (map (expr_reads t k) es) (exprs_clean r es fs) c s (C.latest_clean (place_of_callee g) (function_of k g c) (all_coded (map (expr_reads t k) es) c s) e))
    expr_clean _ _ (G.delete r a x ty is f) = expr_at (F.Delete a x ty) (XV.Delete a x ty) (E.rolls-Delete a x ty) (delete_clean t k x ty)
    expr_clean _ _ (G.spawn r a e f) = expr_at (F.Spawn a e) (E.Spawn a e) (E.rolls-Spawn a e) (C.spawned_clean (expr_reads t k e) (expr_clean false e f))
    expr_clean _ _ (G.eval_method r a m f) =
        expr_at (F.EvalMethod a m) (E.EvalMethod a m) (E.rolls-EvalMethod a m) (λ c s e. C.evaluated_clean (defines (method_reads t k m) ∷ []) (method_clean m f, tt) c.types s e)
    expr_clean _ _ (G.eval_block r a xs fs) = expr_at (F.EvalBlock a xs) (E.EvalBlock a xs) (E.rolls-EvalBlock a xs) (λ c s e. C.evaluated_clean (map (eval_reads t k) xs) (evals_clean xs fs) c.types s e)
    expr_clean _ _ (G.eval_expr r a e f) =
        expr_at (F.EvalExpr a e) (E.EvalExpr a e) (E.rolls-EvalExpr a e) (λ c s h. C.evaluated_clean (evaluates (expr_reads t k e) ∷ []) (expr_clean false e f, tt) c.types s h)
    expr_clean _ _ (G.eval_quote r a xs fs) = expr_at (F.EvalQuote a xs) (E.EvalQuote a xs) (E.rolls-EvalQuote a xs) (λ c s e. C.evaluated_clean (map (eval_reads t k) xs) (evals_clean xs fs) c.types s e)
    expr_clean _ _ (G.fetch r a e f) = expr_at (F.Fetch a e) (E.Fetch a e) (E.rolls-Fetch a e) (expr_clean r e f)
    expr_clean _ _ (G.print r a line ps fs) = expr_at (F.Print a line ps) (E.Print a line ps) (E.rolls-Print a line ps) (C.shown_clean (map (piece_reads t k) ps) (pieces_clean r ps fs))

    exprs_clean : (r : Bool) (es : List Expr) → FormedExprs r es → Every C.IsClean (map (expr_reads t k) es)
    exprs_clean _ _ (G.no_exprs r) = tt
    exprs_clean _ _ (G.more_exprs r e es f fs) = (expr_clean r e f, exprs_clean r es fs)

    branch_clean : (r : Bool) (b : Branch) → FormedBranch r b → C.IsCleanBranch (branch_reads t k b)
    branch_clean _ _ (G.branch r a c ss f fs) = branch_at a c ss (expr_clean r c f) (stmts_clean r ss fs)

    branches_clean : (r : Bool) (bs : List Branch) → FormedBranches r bs → Every C.IsCleanBranch (map (branch_reads t k) bs)
    branches_clean _ _ (G.no_branches r) = tt
    branches_clean _ _ (G.more_branches r b bs f fs) = (branch_clean r b f, branches_clean r bs fs)

    piece_clean : (r : Bool) (p : Piece) → FormedPiece r p → C.IsCleanPiece (piece_reads t k p)
    piece_clean _ _ (G.text r a x is) = piece_at (F.Text a x) (PV.Text a x) (E.rolls-Text a x) tt
    piece_clean _ _ (G.show r e f) = piece_at (F.Show e) (PV.Show e) (E.rolls-Show e) (expr_clean r e f)

    pieces_clean : (r : Bool) (ps : List Piece) → FormedPieces r ps → Every C.IsCleanPiece (map (piece_reads t k) ps)
    pieces_clean _ _ (G.no_pieces r) = tt
    pieces_clean _ _ (G.more_pieces r p ps f fs) = (piece_clean r p f, pieces_clean r ps fs)

    stmt_clean : (r : Bool) (s : Stmt) → FormedStmt r s → C.IsCleanStmt (stmt_reads t k s)
    stmt_clean _ _ (G.bind_stmt r x e is f) = stmt_at (F.Bind x e) (SV.Bind x e) (E.rolls-Bind x e) (expr_clean r e f)
    stmt_clean _ _ (G.return_stmt a e f) = stmt_at (F.Return a e) (SV.Return a e) (E.rolls-Return a e) (expr_clean true e f)
    stmt_clean _ _ (G.return_nothing a) = stmt_at (F.ReturnNothing a) (SV.ReturnNothing a) (E.rolls-ReturnNothing a) (λ c s e. e)
    stmt_clean _ _ (G.do_stmt r e f) = stmt_at (F.Stmt::Do e) (SV.Do e) (E.rolls-Stmt::Do e) (expr_clean r e f)

    stmts_clean : (r : Bool) (ss : List Stmt) → FormedStmts r ss → Every C.IsCleanStmt (map (stmt_reads t k) ss)
    stmts_clean _ _ (G.no_stmts r) = tt
    stmts_clean _ _ (G.more_stmts r s ss f fs) = (stmt_clean r s f, stmts_clean r ss fs)

    eval_clean : (x : Eval) → FormedEval x → C.IsCleanEval (eval_reads t k x)
    eval_clean _ (G.method_eval m f) = eval_at (F.Method m) (EV.Method m) (E.rolls-Method m) (method_clean m f)
    eval_clean _ (G.do_eval e f) = eval_at (F.Eval::Do e) (EV.Do e) (E.rolls-Eval::Do e) (expr_clean false e f)

    evals_clean : (xs : List Eval) → FormedEvals xs → Every C.IsCleanEval (map (eval_reads t k) xs)
    evals_clean _ G.no_evals = tt
    evals_clean _ (G.more_evals x xs f fs) = (eval_clean x f, evals_clean xs fs)

    pub method_clean : (m : Method) → FormedMethod m → C.IsCleanMethod (method_reads t k m)
    method_clean _ (G.long_method a h ss f fs) = method_at (F.Long a h ss) (E.Long a h ss) (E.rolls-Long a h ss) (C.method_clean t k h (block_of (map (stmt_reads t k) ss)) (C.block_clean (map (stmt_reads t k) ss) (stmts_clean true ss fs)))
    method_clean _ (G.short_method a h e f g) = method_at (F.Short a h e) (E.Short a h e) (E.rolls-Short a h e) (C.method_clean t k h (expr_reads t k e) (expr_clean true e g))

  -- items
  top_clean : (x : Item) → FormedItem x → (c : Scope) (s : State) → (one_top t k x c s).after.fault ≡ None → s.fault ≡ None
  top_clean _ (G.abstract_item h f) c s e = e
  top_clean _ (G.struct_item h fs f g) c s e = e
  top_clean _ (G.method_item m f) c s e = method_clean m f c.types s e
  top_clean _ (G.bind_item n x is f) c s e =
      let y = expr_reads t k x c s in
      expr_clean false x f c s (clean y.after (top_bind k n c y.after).after e (top_bind_same k n c y.after e))
  top_clean _ (G.do_item x f) c s e = expr_clean false x f c s e

  tops_clean : (xs : List Item) → FormedItems xs → (c : Scope) (s : State) → (all_top t k xs c s).after.fault ≡ None → s.fault ≡ None
  tops_clean _ G.no_items c s e = e
  tops_clean _ (G.more_items x xs f fs) c s e =
      let y = one_top t k x c s in
      top_clean x f c s (tops_clean xs fs y.value.1 y.after e)

  -- a program without a fault begins without one
  pub begins_clean : (items : List Item) (f : Option Fault) → FormedItems items → (resolve t k items f).fault ≡ None → f ≡ None
  begins_clean items f formed e = tops_clean items formed (bare_scope 8) (beginning f) e
