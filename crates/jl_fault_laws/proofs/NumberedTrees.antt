-- What a well-formed tree adds is what its marks say: one line a form; and so the numbers of a program are in text order.
use Rattle.std.proofs.Common.{◌≡◌, ◌∙◌, sym, refl, subst, ap, arith, ℕ, ◌+◌, Bool, true, false, List, [], ◌∷◌, ◌++◌, map, length, append_assoc, append-nil, Option, None, Some}
use Rattle.jl_model.specs.declared.builtin.TheConstants.{BUILTIN_TYPES}
use Rattle.jl_typeread.specs.declared.tree.ArgText.TheViews.{out-TypeText}
use Rattle.jl_grammar.specs.declared.tree.Branch.{Branch}
use Rattle.jl_grammar.specs.declared.tree.Eval.{Eval}
use Rattle.jl_grammar.specs.declared.tree.Eval.TheFolds.{map-Eval, map-Expr, map-Method, map-Piece, map-Stmt, fold-roll-Branch, fold-roll-Eval, fold-roll-Expr, fold-roll-Method, fold-roll-Piece, fold-roll-Stmt}
use Rattle.jl_grammar.specs.declared.tree.Eval.TheOpen as F
use Rattle.jl_grammar.specs.declared.tree.Eval.TheOpen.{Branch-F, Eval-F, Expr-F, Method-F, Piece-F, Stmt-F}
use Rattle.jl_grammar.specs.declared.tree.Eval.TheVariants as EV
use Rattle.jl_grammar.specs.declared.tree.Eval.TheViews as E
use Rattle.jl_grammar.specs.declared.tree.Eval.TheViews.{roll-Eval, roll-Expr, roll-Method, roll-Piece, roll-Stmt}
use Rattle.jl_grammar.specs.declared.tree.Expr.{Expr}
use Rattle.jl_grammar.specs.declared.tree.Expr.TheVariants as XV
use Rattle.jl_grammar.specs.declared.tree.Item.{Item}
use Rattle.jl_grammar.specs.declared.tree.Method.{Method}
use Rattle.jl_grammar.specs.declared.tree.Name.{Name}
use Rattle.jl_grammar.specs.declared.tree.Piece.{Piece}
use Rattle.jl_grammar.specs.declared.tree.Piece.TheVariants as PV
use Rattle.jl_grammar.specs.declared.tree.Stmt.{Stmt}
use Rattle.jl_grammar.specs.declared.tree.Stmt.TheVariants as SV
use Rattle.jl_formed.specs.Formed as G
use Rattle.jl_formed.specs.Formed.{FormedExpr, FormedExprs, FormedBranch, FormedBranches, FormedPiece, FormedPieces, FormedStmt, FormedStmts, FormedEval, FormedEvals, FormedMethod, FormedItems}
use Rattle.jl_program.specs.Prelude.{prelude_sites}
use Rattle.jl_written.specs.declared.fault.Fault.{Fault}
use Rattle.jl_written.specs.declared.fault.StaticKind.TheVariants as kind
use Rattle.jl_resolve_forms.specs.declared.known.Known.{Known}
use Rattle.jl_resolve_forms.specs.declared.state.Scope.{Scope}
use Rattle.jl_resolve_forms.specs.declared.state.State.{State}
use Rattle.jl_resolve_forms.specs.Scopes.{slot_of, bind}
use Rattle.jl_resolve_forms.specs.Functions.{place_of_callee, function_of, callee_of}
use Rattle.jl_resolve_forms.specs.Top.{first_at, clash, top_bind, all_top, beginning, resolve}
use Rattle.jl_resolve_forms.specs.TypesIn.{Tests, start_of}
use Rattle.jl_resolve_forms.specs.Expressions as R
use Rattle.jl_resolve_forms.specs.Expressions.{Reads, Defines, Says, Evaluates, Shows, Tries, bare_scope, expr_reads, method_reads, stmt_reads, eval_reads, piece_reads, branch_reads, make_struct, make_args}
use Rattle.jl_fault_laws.specs.Numbers as U
use Rattle.jl_fault_laws.specs.Numbers.{Marks, joined, expr_marks, method_marks, stmt_marks, eval_marks, piece_marks, branch_marks, item_marks, spawns_in, deletions_in, opened, sites_in, items_sites, HasNumbersOf}
use Rattle.jl_fault_laws.proofs.Faults.{Pairs}
use Rattle.jl_fault_laws.proofs.Names.{bind_types}
use Rattle.jl_fault_laws.proofs.Numbered as D
use Rattle.jl_fault_laws.proofs.Numbered.{Kept, same_kept, kept_kept, note_kept, bind_kept, spawns_append, deletions_append, Gives, gives_nothing, gives_both, IsGiving, IsGivingMethod, IsGivingStmt, IsGivingEval, IsGivingPiece, IsGivingBranch}

module _ (t : Tests) (k : Known) where
  -- ---- a tree gives what its layer does

  expr_at :
      (l : Expr-F Eval Expr Method Piece Stmt Branch) (e : Expr) → roll-Expr l ≡ e
      → IsGiving t k (U.expr_step (map-Expr Eval Expr Method Piece Stmt Branch Marks Marks Marks Marks Marks Marks eval_marks expr_marks method_marks piece_marks stmt_marks branch_marks l))
      (R.expr_step t k (map-Expr Eval Expr Method Piece Stmt Branch Evaluates Reads Defines Shows Says Tries (eval_reads t k) (expr_reads t k) (method_reads t k) (piece_reads t k) (stmt_reads t k) (branch_reads t k) l))
      → IsGiving t k (expr_marks e) (expr_reads t k e)
  expr_at l e is h =
      let ms = fold-roll-Expr Marks Marks Marks Marks Marks Marks U.eval_step U.expr_step U.method_step U.piece_step U.stmt_step U.branch_step l in
      let rs = fold-roll-Expr Evaluates Reads Defines Shows Says Tries (R.eval_step t k) (R.expr_step t k) (R.method_step t k) (R.piece_step t k) (R.stmt_step t k) (R.branch_step t k) l in
      subst (λ x. IsGiving t k (expr_marks x) (expr_reads t k x)) is
      (subst (λ m. IsGiving t k m (expr_reads t k (roll-Expr l))) (sym ms) (subst (λ x. IsGiving t k (U.expr_step (map-Expr Eval Expr Method Piece Stmt Branch Marks Marks Marks Marks Marks Marks eval_marks expr_marks method_marks piece_marks stmt_marks branch_marks l)) x) (sym rs) h))

  stmt_at :
      (l : Stmt-F Eval Expr Method Piece Stmt Branch) (e : Stmt) → roll-Stmt l ≡ e
      → IsGivingStmt t k (U.stmt_step (map-Stmt Eval Expr Method Piece Stmt Branch Marks Marks Marks Marks Marks Marks eval_marks expr_marks method_marks piece_marks stmt_marks branch_marks l))
      (R.stmt_step t k (map-Stmt Eval Expr Method Piece Stmt Branch Evaluates Reads Defines Shows Says Tries (eval_reads t k) (expr_reads t k) (method_reads t k) (piece_reads t k) (stmt_reads t k) (branch_reads t k) l))
      → IsGivingStmt t k (stmt_marks e) (stmt_reads t k e)
  stmt_at l e is h =
      let ms = fold-roll-Stmt Marks Marks Marks Marks Marks Marks U.eval_step U.expr_step U.method_step U.piece_step U.stmt_step U.branch_step l in
      let rs = fold-roll-Stmt Evaluates Reads Defines Shows Says Tries (R.eval_step t k) (R.expr_step t k) (R.method_step t k) (R.piece_step t k) (R.stmt_step t k) (R.branch_step t k) l in
      subst (λ x. IsGivingStmt t k (stmt_marks x) (stmt_reads t k x)) is
      (subst (λ m. IsGivingStmt t k m (stmt_reads t k (roll-Stmt l))) (sym ms) (subst (λ x. IsGivingStmt t k (U.stmt_step (map-Stmt Eval Expr Method Piece Stmt Branch Marks Marks Marks Marks Marks Marks eval_marks expr_marks method_marks piece_marks stmt_marks branch_marks l)) x) (sym rs) h))

  method_at :
      (l : Method-F Eval Expr Method Piece Stmt Branch) (e : Method) → roll-Method l ≡ e
      → IsGivingMethod t k (U.method_step (map-Method Eval Expr Method Piece Stmt Branch Marks Marks Marks Marks Marks Marks eval_marks expr_marks method_marks piece_marks stmt_marks branch_marks l))
      (R.method_step t k (map-Method Eval Expr Method Piece Stmt Branch Evaluates Reads Defines Shows Says Tries (eval_reads t k) (expr_reads t k) (method_reads t k) (piece_reads t k) (stmt_reads t k) (branch_reads t k) l))
      → IsGivingMethod t k (method_marks e) (method_reads t k e)
  method_at l e is h =
      let ms = fold-roll-Method Marks Marks Marks Marks Marks Marks U.eval_step U.expr_step U.method_step U.piece_step U.stmt_step U.branch_step l in
      let rs = fold-roll-Method Evaluates Reads Defines Shows Says Tries (R.eval_step t k) (R.expr_step t k) (R.method_step t k) (R.piece_step t k) (R.stmt_step t k) (R.branch_step t k) l in
      subst (λ x. IsGivingMethod t k (method_marks x) (method_reads t k x)) is
      (subst (λ m. IsGivingMethod t k m (method_reads t k (roll-Method l))) (sym ms) (subst (λ x. IsGivingMethod t k (U.method_step (map-Method Eval Expr Method Piece Stmt Branch Marks Marks Marks Marks Marks Marks eval_marks expr_marks method_marks piece_marks stmt_marks branch_marks l)) x) (sym rs) h))

  eval_at :
      (l : Eval-F Eval Expr Method Piece Stmt Branch) (e : Eval) → roll-Eval l ≡ e
      → IsGivingEval t k (U.eval_step (map-Eval Eval Expr Method Piece Stmt Branch Marks Marks Marks Marks Marks Marks eval_marks expr_marks method_marks piece_marks stmt_marks branch_marks l))
      (R.eval_step t k (map-Eval Eval Expr Method Piece Stmt Branch Evaluates Reads Defines Shows Says Tries (eval_reads t k) (expr_reads t k) (method_reads t k) (piece_reads t k) (stmt_reads t k) (branch_reads t k) l))
      → IsGivingEval t k (eval_marks e) (eval_reads t k e)
  eval_at l e is h =
      let ms = fold-roll-Eval Marks Marks Marks Marks Marks Marks U.eval_step U.expr_step U.method_step U.piece_step U.stmt_step U.branch_step l in
      let rs = fold-roll-Eval Evaluates Reads Defines Shows Says Tries (R.eval_step t k) (R.expr_step t k) (R.method_step t k) (R.piece_step t k) (R.stmt_step t k) (R.branch_step t k) l in
      subst (λ x. IsGivingEval t k (eval_marks x) (eval_reads t k x)) is
      (subst (λ m. IsGivingEval t k m (eval_reads t k (roll-Eval l))) (sym ms) (subst (λ x. IsGivingEval t k (U.eval_step (map-Eval Eval Expr Method Piece Stmt Branch Marks Marks Marks Marks Marks Marks eval_marks expr_marks method_marks piece_marks stmt_marks branch_marks l)) x) (sym rs) h))

  piece_at :
      (l : Piece-F Eval Expr Method Piece Stmt Branch) (e : Piece) → roll-Piece l ≡ e
      → IsGivingPiece t k (U.piece_step (map-Piece Eval Expr Method Piece Stmt Branch Marks Marks Marks Marks Marks Marks eval_marks expr_marks method_marks piece_marks stmt_marks branch_marks l))
      (R.piece_step t k (map-Piece Eval Expr Method Piece Stmt Branch Evaluates Reads Defines Shows Says Tries (eval_reads t k) (expr_reads t k) (method_reads t k) (piece_reads t k) (stmt_reads t k) (branch_reads t k) l))
      → IsGivingPiece t k (piece_marks e) (piece_reads t k e)
  piece_at l e is h =
      let ms = fold-roll-Piece Marks Marks Marks Marks Marks Marks U.eval_step U.expr_step U.method_step U.piece_step U.stmt_step U.branch_step l in
      let rs = fold-roll-Piece Evaluates Reads Defines Shows Says Tries (R.eval_step t k) (R.expr_step t k) (R.method_step t k) (R.piece_step t k) (R.stmt_step t k) (R.branch_step t k) l in
      subst (λ x. IsGivingPiece t k (piece_marks x) (piece_reads t k x)) is
      (subst (λ m. IsGivingPiece t k m (piece_reads t k (roll-Piece l))) (sym ms) (subst (λ x. IsGivingPiece t k (U.piece_step (map-Piece Eval Expr Method Piece Stmt Branch Marks Marks Marks Marks Marks Marks eval_marks expr_marks method_marks piece_marks stmt_marks branch_marks l)) x) (sym rs) h))

  branch_at : (a : ℕ) (e : Expr) (ss : List Stmt) → IsGiving t k (expr_marks e) (expr_reads t k e) → Pairs (IsGivingStmt t k) (map stmt_marks ss) (map (stmt_reads t k) ss)
      → IsGivingBranch t k (branch_marks (record { at = a; test = e; block = ss })) (branch_reads t k (record { at = a; test = e; block = ss }))
  branch_at a e ss h g =
      let ms = fold-roll-Branch Marks Marks Marks Marks Marks Marks U.eval_step U.expr_step U.method_step U.piece_step U.stmt_step U.branch_step (record { at = a; test = e; block = ss }) in
      let rs = fold-roll-Branch Evaluates Reads Defines Shows Says Tries (R.eval_step t k) (R.expr_step t k) (R.method_step t k) (R.piece_step t k) (R.stmt_step t k) (R.branch_step t k) (record { at = a; test = e; block = ss }) in
      let b : Tries = record { test = expr_reads t k e; block = map (stmt_reads t k) ss } in
      subst (λ (x : Tries). IsGivingBranch t k (branch_marks (record { at = a; test = e; block = ss })) x) (sym rs)
      (let it : IsGivingBranch t k (branch_marks (record { at = a; test = e; block = ss })) b = record { of_test = expr_marks e; of_block = map stmt_marks ss; is = sym ms; test = h; in_block = g } in it)

  pair_gives : (m n : Marks) (x y : Reads) → IsGiving t k m x → IsGiving t k n y → (c : Scope) (s : State) → Gives t k c.types (m ++ n) s (y c (x c s).after).after
  pair_gives m n x y f g c s = gives_both t k c.types m n s (x c s).after (y c (x c s).after).after (f c s) (g c (x c s).after)

  -- ---- trees

  mutual
    expr_gives : (r : Bool) (e : Expr) → FormedExpr r e → IsGiving t k (expr_marks e) (expr_reads t k e)
    expr_gives _ _ (G.number r a n) = expr_at (F.Number a n) (XV.Number a n) (E.rolls-Number a n) (λ c s. gives_nothing t k c.types s s (same_kept s))
    expr_gives _ _ (G.truth r a b) = expr_at (F.Bool a b) (XV.Bool a b) (E.rolls-Bool a b) (λ c s. gives_nothing t k c.types s s (same_kept s))
    expr_gives _ _ (G.nothing r a) = expr_at (F.Nothing a) (XV.Nothing a) (E.rolls-Nothing a) (λ c s. gives_nothing t k c.types s s (same_kept s))
    expr_gives _ _ (G.name r a n is) = expr_at (F.Name a n) (XV.Name a n) (E.rolls-Name a n) (D.name_gives t k a (λ c. slot_of c.slots n))
    expr_gives _ _ (G.paren r a e f) = expr_at (F.Paren a e) (E.Paren a e) (E.rolls-Paren a e) (expr_gives r e f)
    expr_gives _ _ (G.tuple r a es fs) = expr_at (F.Tuple a es) (E.Tuple a es) (E.rolls-Tuple a es) (D.coded_gives t k (map expr_marks es) (map (expr_reads t k) es) (exprs_give r es fs))
    expr_gives _ _ (G.call r a g es is fs) =
        expr_at (F.Call a g es) (E.Call a g es) (E.rolls-Call a g es) (D.call_gives t k (place_of_callee g) (callee_of k g) (map expr_marks es) (map (expr_reads t k) es) (exprs_give r es fs))
    expr_gives _ _ (G.make r a ty es is fs) =
        expr_at (F.Make a ty es) (E.Make a ty es) (E.rolls-Make a ty es)
        (λ c s. D.made_gives t k (start_of ty) (make_struct k (out-TypeText ty) c) (make_args (out-TypeText ty)) (map expr_marks es) (map (expr_reads t k) es) (exprs_give r es fs) c s)
    expr_gives _ _ (G.field r a e x f is) = expr_at (F.Field a e x) (E.Field a e x) (E.rolls-Field a e x) (expr_gives r e f)
    expr_gives _ _ (G.part r a e n f is) = expr_at (F.Part a e n) (E.Part a e n) (E.rolls-Part a e n) (expr_gives r e f)
    expr_gives _ _ (G.prefixed r a o e f) = expr_at (F.Prefix a o e) (E.Prefix a o e) (E.rolls-Prefix a o e) (expr_gives r e f)
    expr_gives _ _ (G.infixed r a o e d f g) =
        expr_at (F.Infix a o e d) (E.Infix a o e d) (E.rolls-Infix a o e d) (pair_gives (expr_marks e) (expr_marks d) (expr_reads t k e) (expr_reads t k d) (expr_gives r e f) (expr_gives r d g))
    expr_gives _ _ (G.isa r a e ty f is) = expr_at (F.Isa a e ty) (E.Isa a e ty) (E.rolls-Isa a e ty) (D.isa_gives t k (expr_marks e) (expr_reads t k e) ty (expr_gives r e f))
    expr_gives _ _ (G.sub r a x y f g) = expr_at (F.Sub a x y) (XV.Sub a x y) (E.rolls-Sub a x y) (D.below_gives t k x y)
    expr_gives _ _ (G.choose r a q e d f g i) =
        expr_at (F.Choose a q e d) (E.Choose a q e d) (E.rolls-Choose a q e d)
        (λ c s.
        let x = expr_reads t k q c s in
        let y = expr_reads t k e c x.after in
        let w = expr_reads t k d c y.after in
        gives_both t k c.types (expr_marks q) (expr_marks e ++ expr_marks d) s x.after w.after (expr_gives r q f c s)
        (gives_both t k c.types (expr_marks e) (expr_marks d) x.after y.after w.after (expr_gives r e g c x.after) (expr_gives r d i c y.after)))
    expr_gives _ _ (G.if_end r a bs fs) = expr_at (F.If a bs) (E.If a bs) (E.rolls-If a bs) (D.tried_gives t k (map branch_marks bs) (map (branch_reads t k) bs) (branches_give r bs fs))
    expr_gives _ _ (G.if_else r a bs ss fs gs) =
        expr_at (F.IfElse a bs ss) (E.IfElse a bs ss) (E.rolls-IfElse a bs ss)
        (λ c s.
        let y = R.all_tried (map (branch_reads t k) bs) c s in
        gives_both t k c.types (joined (map branch_marks bs)) (joined (map stmt_marks ss)) s y.after (R.block_of (map (stmt_reads t k) ss) c y.after).after
        (D.tried_gives t k (map branch_marks bs) (map (branch_reads t k) bs) (branches_give r bs fs) c s)
        (D.block_gives t k (map stmt_marks ss) (map (stmt_reads t k) ss) (stmts_give r ss gs) c y.after))
    expr_gives _ _ (G.begin_end r a ss fs) = expr_at (F.Begin a ss) (E.Begin a ss) (E.rolls-Begin a ss) (D.block_gives t k (map stmt_marks ss) (map (stmt_reads t k) ss) (stmts_give r ss fs))
    expr_gives _ _ (G.latest r a g es is fs) =
        expr_at (F.Latest a g es) (E.Latest a g es) (E.rolls-Latest a g es) (D.latest_gives t k (place_of_callee g) (function_of k g) (map expr_marks es) (map (expr_reads t k) es) (exprs_give r es fs))
    expr_gives _ _ (G.delete r a x ty is f) = expr_at (F.Delete a x ty) (XV.Delete a x ty) (E.rolls-Delete a x ty) (D.delete_gives t k x ty)
    expr_gives _ _ (G.spawn r a e f) = expr_at (F.Spawn a e) (E.Spawn a e) (E.rolls-Spawn a e) (D.spawned_gives t k (expr_marks e) (expr_reads t k e) (expr_gives false e f))
    expr_gives _ _ (G.eval_method r a m f) =
        expr_at (F.EvalMethod a m) (E.EvalMethod a m) (E.rolls-EvalMethod a m) (λ c s. method_gives m f c.types s)
    expr_gives _ _ (G.eval_block r a xs fs) =
        expr_at (F.EvalBlock a xs) (E.EvalBlock a xs) (E.rolls-EvalBlock a xs) (λ c s. D.evaluated_gives t k (map eval_marks xs) (map (eval_reads t k) xs) (evals_give xs fs) c.types s)
    expr_gives _ _ (G.eval_expr r a e f) = expr_at (F.EvalExpr a e) (E.EvalExpr a e) (E.rolls-EvalExpr a e) (λ c s. expr_gives false e f (bare_scope c.types) s)
    expr_gives _ _ (G.eval_quote r a xs fs) =
        expr_at (F.EvalQuote a xs) (E.EvalQuote a xs) (E.rolls-EvalQuote a xs) (λ c s. D.evaluated_gives t k (map eval_marks xs) (map (eval_reads t k) xs) (evals_give xs fs) c.types s)
    expr_gives _ _ (G.fetch r a e f) = expr_at (F.Fetch a e) (E.Fetch a e) (E.rolls-Fetch a e) (expr_gives r e f)
    expr_gives _ _ (G.print r a line ps fs) = expr_at (F.Print a line ps) (E.Print a line ps) (E.rolls-Print a line ps) (D.shown_gives t k (map piece_marks ps) (map (piece_reads t k) ps) (pieces_give r ps fs))

    exprs_give : (r : Bool) (es : List Expr) → FormedExprs r es → Pairs (IsGiving t k) (map expr_marks es) (map (expr_reads t k) es)
    exprs_give _ _ (G.no_exprs r) = tt
    exprs_give _ _ (G.more_exprs r e es f fs) = (expr_gives r e f, exprs_give r es fs)

    branch_gives : (r : Bool) (b : Branch) → FormedBranch r b → IsGivingBranch t k (branch_marks b) (branch_reads t k b)
    branch_gives _ _ (G.branch r a c ss f fs) = branch_at a c ss (expr_gives r c f) (stmts_give r ss fs)

    branches_give : (r : Bool) (bs : List Branch) → FormedBranches r bs → Pairs (IsGivingBranch t k) (map branch_marks bs) (map (branch_reads t k) bs)
    branches_give _ _ (G.no_branches r) = tt
    branches_give _ _ (G.more_branches r b bs f fs) = (branch_gives r b f, branches_give r bs fs)

    piece_gives : (r : Bool) (p : Piece) → FormedPiece r p → IsGivingPiece t k (piece_marks p) (piece_reads t k p)
    piece_gives _ _ (G.text r a x is) = piece_at (F.Text a x) (PV.Text a x) (E.rolls-Text a x) refl
    piece_gives _ _ (G.show r e f) = piece_at (F.Show e) (PV.Show e) (E.rolls-Show e) (expr_gives r e f)

    pieces_give : (r : Bool) (ps : List Piece) → FormedPieces r ps → Pairs (IsGivingPiece t k) (map piece_marks ps) (map (piece_reads t k) ps)
    pieces_give _ _ (G.no_pieces r) = tt
    pieces_give _ _ (G.more_pieces r p ps f fs) = (piece_gives r p f, pieces_give r ps fs)

    stmt_gives : (r : Bool) (s : Stmt) → FormedStmt r s → IsGivingStmt t k (stmt_marks s) (stmt_reads t k s)
    stmt_gives _ _ (G.bind_stmt r x e is f) = stmt_at (F.Bind x e) (SV.Bind x e) (E.rolls-Bind x e) (expr_gives r e f)
    stmt_gives _ _ (G.return_stmt a e f) = stmt_at (F.Return a e) (SV.Return a e) (E.rolls-Return a e) (expr_gives true e f)
    stmt_gives _ _ (G.return_nothing a) = stmt_at (F.ReturnNothing a) (SV.ReturnNothing a) (E.rolls-ReturnNothing a) (λ c s. gives_nothing t k c.types s s (same_kept s))
    stmt_gives _ _ (G.do_stmt r e f) = stmt_at (F.Stmt::Do e) (SV.Do e) (E.rolls-Stmt::Do e) (expr_gives r e f)

    stmts_give : (r : Bool) (ss : List Stmt) → FormedStmts r ss → Pairs (IsGivingStmt t k) (map stmt_marks ss) (map (stmt_reads t k) ss)
    stmts_give _ _ (G.no_stmts r) = tt
    stmts_give _ _ (G.more_stmts r s ss f fs) = (stmt_gives r s f, stmts_give r ss fs)

    eval_gives : (x : Eval) → FormedEval x → IsGivingEval t k (eval_marks x) (eval_reads t k x)
    eval_gives _ (G.method_eval m f) = eval_at (F.Method m) (EV.Method m) (E.rolls-Method m) (method_gives m f)
    eval_gives _ (G.do_eval e f) = eval_at (F.Eval::Do e) (EV.Do e) (E.rolls-Eval::Do e) (expr_gives false e f)

    evals_give : (xs : List Eval) → FormedEvals xs → Pairs (IsGivingEval t k) (map eval_marks xs) (map (eval_reads t k) xs)
    evals_give _ G.no_evals = tt
    evals_give _ (G.more_evals x xs f fs) = (eval_gives x f, evals_give xs fs)

    method_gives : (m : Method) → FormedMethod m → IsGivingMethod t k (method_marks m) (method_reads t k m)
    method_gives _ (G.long_method a h ss f fs) =
        method_at (F.Long a h ss) (E.Long a h ss) (E.rolls-Long a h ss) (D.method_gives t k h (joined (map stmt_marks ss)) (R.block_of (map (stmt_reads t k) ss)) (D.block_gives t k (map stmt_marks ss) (map (stmt_reads t k) ss) (stmts_give true ss fs)))
    method_gives _ (G.short_method a h e f g) =
        method_at (F.Short a h e) (E.Short a h e) (E.rolls-Short a h e) (D.method_gives t k h (expr_marks e) (expr_reads t k e) (expr_gives true e g))

  -- ---- items

  clash_kept : (at : ℕ) (o : Option ℕ) (s : State) → Kept s (clash at o s)
  clash_kept at None s = same_kept s
  clash_kept at (Some i) s = note_kept _ kind.Rebound s

  top_bind_kept : (n : Name) (c : Scope) (s : State) → Kept s (top_bind k n c s).after
  top_bind_kept n c s =
      let b = bind n c s in
      let f = first_at k.methods n.bytes in
      let o = first_at k.types n.bytes in
      let z = clash n.at f b.after in
      kept_kept s b.after (clash n.at o z) (bind_kept n c s) (kept_kept b.after z (clash n.at o z) (clash_kept n.at f b.after) (clash_kept n.at o z))

  -- what items add, where so many types are declared before the first
  record ItemsGive (types : ℕ) (items : List Item) (s z : State) : Type 0 where
    pub sites : map opened z.sites ≡ map opened s.sites ++ items_sites t k types items
    pub spawns : length z.spawns ≡ length s.spawns + spawns_in (joined (map item_marks items))
    pub deletes : length z.deletes ≡ length s.deletes + deletions_in (joined (map item_marks items))

  -- one item, and the others
  then_items : (types : ℕ) (ms : Marks) (xs : List Item) (s y z : State) → Gives t k types ms s y → ItemsGive types xs y z
      → (map opened z.sites ≡ map opened s.sites ++ (sites_in t k types ms ++ items_sites t k types xs))
      × (length z.spawns ≡ length s.spawns + spawns_in (ms ++ joined (map item_marks xs)))
      × (length z.deletes ≡ length s.deletes + deletions_in (ms ++ joined (map item_marks xs)))
  then_items types ms xs s y z a b =
      let p = a.spawns in
      let q = b.spawns in
      let c = spawns_append ms (joined (map item_marks xs)) in
      let u = a.deletes in
      let v = b.deletes in
      let d = deletions_append ms (joined (map item_marks xs)) in (
        b.sites ∙ ap (λ ys. ys ++ items_sites t k types xs) a.sites ∙ append_assoc (map opened s.sites) (sites_in t k types ms) (items_sites t k types xs),
        omega (arith, p, q, c),
        omega (arith, u, v, d),
      )

  items_give : (xs : List Item) → FormedItems xs → (c : Scope) (s : State) → ItemsGive c.types xs s (all_top t k xs c s).after
  items_give _ G.no_items c s = record { sites = sym (append-nil (map opened s.sites)); spawns = omega arith; deletes = omega arith }
  items_give _ (G.more_items _ xs (G.abstract_item h f) fs) c s = let g = items_give xs fs (record c { types = c.types + 1 }) s in record { sites = g.sites; spawns = g.spawns; deletes = g.deletes }
  items_give _ (G.more_items _ xs (G.struct_item h ys f g) fs) c s = let i = items_give xs fs (record c { types = c.types + 1 }) s in record { sites = i.sites; spawns = i.spawns; deletes = i.deletes }
  items_give _ (G.more_items _ xs (G.method_item m f) fs) c s =
      let y = method_reads t k m c.types s in
      let r = then_items c.types (method_marks m) xs s y.after (all_top t k xs c y.after).after (method_gives m f c.types s) (items_give xs fs c y.after) in
      record { sites = r.0; spawns = r.1; deletes = r.2 }
  items_give _ (G.more_items _ xs (G.bind_item x d is f) fs) c s =
      let y = expr_reads t k d c s in
      let b = top_bind k x c y.after in
      let z = all_top t k xs b.value b.after in
      let g = D.gives_kept t k c.types (expr_marks d) s y.after b.after (expr_gives false d f c s) (top_bind_kept x c y.after) in
      let rest = subst (λ i. ItemsGive i xs b.after z.after) (bind_types x c y.after) (items_give xs fs b.value b.after) in
      let r = then_items c.types (expr_marks d) xs s b.after z.after g rest in
      record { sites = r.0; spawns = r.1; deletes = r.2 }
  items_give _ (G.more_items _ xs (G.do_item d f) fs) c s =
      let y = expr_reads t k d c s in
      let r = then_items c.types (expr_marks d) xs s y.after (all_top t k xs c y.after).after (expr_gives false d f c s) (items_give xs fs c y.after) in
      record { sites = r.0; spawns = r.1; deletes = r.2 }

pub numbers_are : (t : Tests) (k : Known) (items : List Item) (f : Option Fault) → FormedItems items → HasNumbersOf t k items (resolve t k items f).program
numbers_are t k items f formed =
    let g = items_give t k items formed (bare_scope BUILTIN_TYPES) (beginning f) in
    let P = (resolve t k items f).program in
    let p : length P.spawns ≡ 0 + spawns_in (joined (map item_marks items)) = g.spawns in
    let d : length P.deletes ≡ 0 + deletions_in (joined (map item_marks items)) = g.deletes in
    record { sites = g.sites; spawns = omega (arith, p); deletes = omega (arith, d) }
