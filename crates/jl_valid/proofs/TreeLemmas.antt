-- What a well-formed tree becomes is good: one line a form.
use Rattle.std.proofs.Common.{◌≡◌, sym, refl, subst, ℕ, ℤ, pos, negsuc, ◌≤◌, Bool, true, false, int_le, leb-true, true≢false, List, [], map}
use Rattle.jl_typeread.specs.declared.tree.TypeText.{TypeText}
use Rattle.jl_typeread.specs.declared.tree.ArgText.TheViews as O
use Rattle.jl_typeread.specs.declared.tree.ArgText.TheViews.{out-TypeText}
use Rattle.jl_grammar.specs.declared.tree.Branch.{Branch}
use Rattle.jl_grammar.specs.declared.tree.Callee.{Callee}
use Rattle.jl_grammar.specs.declared.tree.Eval.{Eval}
use Rattle.jl_grammar.specs.declared.tree.Eval.TheFolds.{map-Eval, map-Expr, map-Method, map-Piece, map-Stmt, fold-roll-Branch, fold-roll-Eval, fold-roll-Expr, fold-roll-Method, fold-roll-Piece, fold-roll-Stmt}
use Rattle.jl_grammar.specs.declared.tree.Eval.TheOpen as F
use Rattle.jl_grammar.specs.declared.tree.Eval.TheOpen.{Branch-F, Eval-F, Expr-F, Method-F, Piece-F, Stmt-F}
use Rattle.jl_grammar.specs.declared.tree.Eval.TheVariants as EV
use Rattle.jl_grammar.specs.declared.tree.Eval.TheViews as E
use Rattle.jl_grammar.specs.declared.tree.Eval.TheViews.{roll-Eval, roll-Expr, roll-Method, roll-Piece, roll-Stmt}
use Rattle.jl_grammar.specs.declared.tree.Expr.{Expr}
use Rattle.jl_grammar.specs.declared.tree.Expr.TheVariants as XV
use Rattle.jl_grammar.specs.declared.tree.Head.{Head}
use Rattle.jl_grammar.specs.declared.tree.Method.{Method}
use Rattle.jl_grammar.specs.declared.tree.Piece.{Piece}
use Rattle.jl_grammar.specs.declared.tree.Piece.TheVariants as PV
use Rattle.jl_grammar.specs.declared.tree.Stmt.{Stmt}
use Rattle.jl_grammar.specs.declared.tree.Stmt.TheVariants as SV
use Rattle.jl_formed.specs.Formed as G
use Rattle.jl_formed.specs.Formed.{FormedType, FormedArgs, FormedCallee, FormedHead, FormedExpr, FormedExprs, FormedBranch, FormedBranches, FormedPiece, FormedPieces, FormedStmt, FormedStmts, FormedEval, FormedEvals, FormedMethod}
use Rattle.jl_resolve_forms.specs.declared.known.Known.{Known}
use Rattle.jl_resolve_forms.specs.Defined as D
use Rattle.jl_resolve_forms.specs.Defined.{Step, own_name, in_expr, in_method, in_stmt, in_eval, in_piece, in_branch}
use Rattle.jl_resolve_forms.specs.TypesIn.{Tests}
use Rattle.jl_resolve_forms.specs.Expressions as R
use Rattle.jl_resolve_forms.specs.Expressions.{Reads, Defines, Says, Evaluates, Shows, Tries, make_args, part_number, expr_reads, method_reads, stmt_reads, eval_reads, piece_reads, branch_reads}
use Rattle.jl_valid.specs.Adds.{Every}
use Rattle.jl_valid.specs.Parts.{IsGood, IsGoodMethod, IsGoodStmt, IsGoodEval, IsGoodPiece, IsGoodBranch, Each, IsKnown, IsGoodName, AreGoodArgs, IsGoodHead}
use Rattle.jl_valid.specs.TypeLaws.{TypeLaws}
use Rattle.jl_valid.proofs.DeleteForms.{delete_good}
use Rattle.jl_valid.proofs.FormLemmas as P
use Rattle.jl_valid.proofs.TypeUses as U
use Rattle.jl_valid.proofs.BlockForms as B
use Rattle.jl_valid.proofs.PlaceForms as M

part_least : (n : ℤ) → int_le (pos 1) n ≡ true → 1 ≤ part_number n
unfolding part_number
part_least (pos n) e = leb-true 1 n e
part_least (negsuc n) e = absurd (true≢false (sym e))

module _ (t : Tests) (k : Known) (known : IsKnown k) (laws : TypeLaws t k) where
  -- ---- a tree becomes what its layer does

  expr_at :
      (r : Bool) (l : Expr-F Eval Expr Method Piece Stmt Branch) (e : Expr) → roll-Expr l ≡ e
      → IsGood k r (D.expr_step (map-Expr Eval Expr Method Piece Stmt Branch Step Step Step Step Step Step in_eval in_expr in_method in_piece in_stmt in_branch l))
      (R.expr_step t k (map-Expr Eval Expr Method Piece Stmt Branch Evaluates Reads Defines Shows Says Tries (eval_reads t k) (expr_reads t k) (method_reads t k) (piece_reads t k) (stmt_reads t k) (branch_reads t k) l))
      → IsGood k r (in_expr e) (expr_reads t k e)
  expr_at r l e is h =
      let names = fold-roll-Expr Step Step Step Step Step Step D.eval_step D.expr_step D.method_step D.piece_step D.stmt_step D.branch_step l in
      let reads = fold-roll-Expr Evaluates Reads Defines Shows Says Tries (R.eval_step t k) (R.expr_step t k) (R.method_step t k) (R.piece_step t k) (R.stmt_step t k) (R.branch_step t k) l in
      let at_names = subst (λ ns. IsGood k r ns (expr_reads t k (roll-Expr l))) (sym names) (subst (λ x. IsGood k r (D.expr_step (map-Expr Eval Expr Method Piece Stmt Branch Step Step Step Step Step Step in_eval in_expr in_method in_piece in_stmt in_branch l)) x) (sym reads) h) in
      subst (λ x. IsGood k r (in_expr x) (expr_reads t k x)) is at_names

  stmt_at :
      (r : Bool) (l : Stmt-F Eval Expr Method Piece Stmt Branch) (e : Stmt) → roll-Stmt l ≡ e
      → IsGoodStmt k r (D.stmt_step (map-Stmt Eval Expr Method Piece Stmt Branch Step Step Step Step Step Step in_eval in_expr in_method in_piece in_stmt in_branch l))
      (R.stmt_step t k (map-Stmt Eval Expr Method Piece Stmt Branch Evaluates Reads Defines Shows Says Tries (eval_reads t k) (expr_reads t k) (method_reads t k) (piece_reads t k) (stmt_reads t k) (branch_reads t k) l))
      → IsGoodStmt k r (in_stmt e) (stmt_reads t k e)
  stmt_at r l e is h =
      let names = fold-roll-Stmt Step Step Step Step Step Step D.eval_step D.expr_step D.method_step D.piece_step D.stmt_step D.branch_step l in
      let reads = fold-roll-Stmt Evaluates Reads Defines Shows Says Tries (R.eval_step t k) (R.expr_step t k) (R.method_step t k) (R.piece_step t k) (R.stmt_step t k) (R.branch_step t k) l in
      let at_names = subst (λ ns. IsGoodStmt k r ns (stmt_reads t k (roll-Stmt l))) (sym names) (subst (λ x. IsGoodStmt k r (D.stmt_step (map-Stmt Eval Expr Method Piece Stmt Branch Step Step Step Step Step Step in_eval in_expr in_method in_piece in_stmt in_branch l)) x) (sym reads) h) in
      subst (λ x. IsGoodStmt k r (in_stmt x) (stmt_reads t k x)) is at_names

  method_at :
      (l : Method-F Eval Expr Method Piece Stmt Branch) (e : Method) → roll-Method l ≡ e
      → IsGoodMethod k (D.method_step (map-Method Eval Expr Method Piece Stmt Branch Step Step Step Step Step Step in_eval in_expr in_method in_piece in_stmt in_branch l))
      (R.method_step t k (map-Method Eval Expr Method Piece Stmt Branch Evaluates Reads Defines Shows Says Tries (eval_reads t k) (expr_reads t k) (method_reads t k) (piece_reads t k) (stmt_reads t k) (branch_reads t k) l))
      → IsGoodMethod k (in_method e) (method_reads t k e)
  method_at l e is h =
      let names = fold-roll-Method Step Step Step Step Step Step D.eval_step D.expr_step D.method_step D.piece_step D.stmt_step D.branch_step l in
      let reads = fold-roll-Method Evaluates Reads Defines Shows Says Tries (R.eval_step t k) (R.expr_step t k) (R.method_step t k) (R.piece_step t k) (R.stmt_step t k) (R.branch_step t k) l in
      let at_names = subst (λ ns. IsGoodMethod k ns (method_reads t k (roll-Method l))) (sym names) (subst (λ x. IsGoodMethod k (D.method_step (map-Method Eval Expr Method Piece Stmt Branch Step Step Step Step Step Step in_eval in_expr in_method in_piece in_stmt in_branch l)) x) (sym reads) h) in
      subst (λ x. IsGoodMethod k (in_method x) (method_reads t k x)) is at_names

  eval_at :
      (l : Eval-F Eval Expr Method Piece Stmt Branch) (e : Eval) → roll-Eval l ≡ e
      → IsGoodEval k (D.eval_step (map-Eval Eval Expr Method Piece Stmt Branch Step Step Step Step Step Step in_eval in_expr in_method in_piece in_stmt in_branch l))
      (R.eval_step t k (map-Eval Eval Expr Method Piece Stmt Branch Evaluates Reads Defines Shows Says Tries (eval_reads t k) (expr_reads t k) (method_reads t k) (piece_reads t k) (stmt_reads t k) (branch_reads t k) l))
      → IsGoodEval k (in_eval e) (eval_reads t k e)
  eval_at l e is h =
      let names = fold-roll-Eval Step Step Step Step Step Step D.eval_step D.expr_step D.method_step D.piece_step D.stmt_step D.branch_step l in
      let reads = fold-roll-Eval Evaluates Reads Defines Shows Says Tries (R.eval_step t k) (R.expr_step t k) (R.method_step t k) (R.piece_step t k) (R.stmt_step t k) (R.branch_step t k) l in
      let at_names = subst (λ ns. IsGoodEval k ns (eval_reads t k (roll-Eval l))) (sym names) (subst (λ x. IsGoodEval k (D.eval_step (map-Eval Eval Expr Method Piece Stmt Branch Step Step Step Step Step Step in_eval in_expr in_method in_piece in_stmt in_branch l)) x) (sym reads) h) in
      subst (λ x. IsGoodEval k (in_eval x) (eval_reads t k x)) is at_names

  piece_at :
      (r : Bool) (l : Piece-F Eval Expr Method Piece Stmt Branch) (e : Piece) → roll-Piece l ≡ e
      → IsGoodPiece k r (D.piece_step (map-Piece Eval Expr Method Piece Stmt Branch Step Step Step Step Step Step in_eval in_expr in_method in_piece in_stmt in_branch l))
      (R.piece_step t k (map-Piece Eval Expr Method Piece Stmt Branch Evaluates Reads Defines Shows Says Tries (eval_reads t k) (expr_reads t k) (method_reads t k) (piece_reads t k) (stmt_reads t k) (branch_reads t k) l))
      → IsGoodPiece k r (in_piece e) (piece_reads t k e)
  piece_at r l e is h =
      let names = fold-roll-Piece Step Step Step Step Step Step D.eval_step D.expr_step D.method_step D.piece_step D.stmt_step D.branch_step l in
      let reads = fold-roll-Piece Evaluates Reads Defines Shows Says Tries (R.eval_step t k) (R.expr_step t k) (R.method_step t k) (R.piece_step t k) (R.stmt_step t k) (R.branch_step t k) l in
      let at_names = subst (λ ns. IsGoodPiece k r ns (piece_reads t k (roll-Piece l))) (sym names) (subst (λ x. IsGoodPiece k r (D.piece_step (map-Piece Eval Expr Method Piece Stmt Branch Step Step Step Step Step Step in_eval in_expr in_method in_piece in_stmt in_branch l)) x) (sym reads) h) in
      subst (λ x. IsGoodPiece k r (in_piece x) (piece_reads t k x)) is at_names

  branch_at : (r : Bool) (a : ℕ) (e : Expr) (ss : List Stmt) → IsGood k r (in_expr e) (expr_reads t k e) → Each (IsGoodStmt k r) (map in_stmt ss) (map (stmt_reads t k) ss)
      → IsGoodBranch k r (in_branch (record { at = a; test = e; block = ss })) (branch_reads t k (record { at = a; test = e; block = ss }))
  branch_at r a e ss h g =
      let names = fold-roll-Branch Step Step Step Step Step Step D.eval_step D.expr_step D.method_step D.piece_step D.stmt_step D.branch_step (record { at = a; test = e; block = ss }) in
      let reads = fold-roll-Branch Evaluates Reads Defines Shows Says Tries (R.eval_step t k) (R.expr_step t k) (R.method_step t k) (R.piece_step t k) (R.stmt_step t k) (R.branch_step t k) (record { at = a; test = e; block = ss }) in
      let b : Tries = record { test = expr_reads t k e; block = map (stmt_reads t k) ss } in
      subst (λ (x : Tries). IsGoodBranch k r (in_branch (record { at = a; test = e; block = ss })) x) (sym reads)
      (let it : IsGoodBranch k r (in_branch (record { at = a; test = e; block = ss })) b = record { of_test = in_expr e; of_block = map in_stmt ss; is = names; test = h; block = g } in it)

  -- ---- types and heads

  args_in : (ty : TypeText) → FormedType ty → AreGoodArgs k t (make_args (out-TypeText ty))
  args_in _ (G.plain_type a n is) = subst (λ l. AreGoodArgs k t (make_args l)) (sym (O.outs-Name a n)) (laws.args [])
  args_in _ (G.applied_type a n xs is h) = subst (λ l. AreGoodArgs k t (make_args l)) (sym (O.outs-Applied a n xs)) (laws.args xs)
  args_in _ (G.paren_type a ty vs h g) = subst (λ l. AreGoodArgs k t (make_args l)) (sym (O.outs-Paren a ty vs)) (laws.args [])

  callee_name : (f : Callee) → FormedCallee f → Every IsGoodName (own_name f)
  callee_name _ (G.plain_name x is) = (is, tt)
  callee_name _ (G.base_name a x is) = tt
  callee_name _ (G.base_operator a o is) = tt

  head_good : (h : Head) → FormedHead h → IsGoodHead k t h
  head_good h f = record { name = callee_name h.callee f.callee; signed_by = laws.heads h }

  -- ---- trees

  mutual
    pub expr_good : (r : Bool) (e : Expr) → FormedExpr r e → IsGood k r (in_expr e) (expr_reads t k e)
    expr_good _ _ (G.number r a n) = expr_at r (F.Number a n) (XV.Number a n) (E.rolls-Number a n) (P.number t k r a n)
    expr_good _ _ (G.truth r a b) = expr_at r (F.Bool a b) (XV.Bool a b) (E.rolls-Bool a b) (P.truth t k r a b)
    expr_good _ _ (G.nothing r a) = expr_at r (F.Nothing a) (XV.Nothing a) (E.rolls-Nothing a) (P.nothing_at t k r a)
    expr_good _ _ (G.name r a n is) = expr_at r (F.Name a n) (XV.Name a n) (E.rolls-Name a n) (P.named t k r a n)
    expr_good _ _ (G.paren r a e f) = expr_at r (F.Paren a e) (E.Paren a e) (E.rolls-Paren a e) (expr_good r e f)
    expr_good _ _ (G.tuple r a es fs) = expr_at r (F.Tuple a es) (E.Tuple a es) (E.rolls-Tuple a es) (P.tuple t k r a (map in_expr es) (map (expr_reads t k) es) (exprs_good r es fs))
    expr_good _ _ (G.call r a c es is fs) = expr_at r (F.Call a c es) (E.Call a c es) (E.rolls-Call a c es) (U.call_good t k known laws.small r a c (map in_expr es) (map (expr_reads t k) es) (exprs_good r es fs))
    expr_good _ _ (G.make r a ty es is fs) = expr_at r (F.Make a ty es) (E.Make a ty es) (E.rolls-Make a ty es) (U.make_good t k r a ty (map in_expr es) (map (expr_reads t k) es) (args_in ty is) (exprs_good r es fs))
    expr_good _ _ (G.field r a e x f is) = expr_at r (F.Field a e x) (E.Field a e x) (E.rolls-Field a e x) (P.field t k r a (in_expr e) (expr_reads t k e) x is (expr_good r e f))
    expr_good _ _ (G.part r a e n f is) = expr_at r (F.Part a e n) (E.Part a e n) (E.rolls-Part a e n) (P.part t k r a (in_expr e) (expr_reads t k e) n (part_least n is) (expr_good r e f))
    expr_good _ _ (G.prefixed r a o e f) = expr_at r (F.Prefix a o e) (E.Prefix a o e) (E.rolls-Prefix a o e) (P.prefixed t k known r a (in_expr e) o (expr_reads t k e) (expr_good r e f))
    expr_good _ _ (G.infixed r a o e d f g) = expr_at r (F.Infix a o e d) (E.Infix a o e d) (E.rolls-Infix a o e d) (P.infixed t k known r a (in_expr e) (in_expr d) o (expr_reads t k e) (expr_reads t k d) (expr_good r e f) (expr_good r d g))
    expr_good _ _ (G.isa r a e ty f is) = expr_at r (F.Isa a e ty) (E.Isa a e ty) (E.rolls-Isa a e ty) (U.isa t k r a (in_expr e) (expr_reads t k e) ty (expr_good r e f) (laws.types ty))
    expr_good _ _ (G.sub r a x y f g) = expr_at r (F.Sub a x y) (XV.Sub a x y) (E.rolls-Sub a x y) (U.sub t k r a x y (laws.types x) (laws.types y))
    expr_good _ _ (G.choose r a c e d f g i) =
        expr_at r (F.Choose a c e d) (E.Choose a c e d) (E.rolls-Choose a c e d)
        (P.choose t k r a (in_expr c) (in_expr e) (in_expr d) (expr_reads t k c) (expr_reads t k e) (expr_reads t k d) (expr_good r c f) (expr_good r e g) (expr_good r d i))
    expr_good _ _ (G.if_end r a bs fs) = expr_at r (F.If a bs) (E.If a bs) (E.rolls-If a bs) (B.if_end t k r a (map in_branch bs) (map (branch_reads t k) bs) (branches_good r bs fs))
    expr_good _ _ (G.if_else r a bs ss fs gs) =
        expr_at r (F.IfElse a bs ss) (E.IfElse a bs ss) (E.rolls-IfElse a bs ss)
        (B.if_else t k r a (map in_branch bs) (map in_stmt ss) (map (branch_reads t k) bs) (map (stmt_reads t k) ss) (branches_good r bs fs) (stmts_good r ss gs))
    expr_good _ _ (G.begin_end r a ss fs) = expr_at r (F.Begin a ss) (E.Begin a ss) (E.rolls-Begin a ss) (B.block_good t k r (map in_stmt ss) (map (stmt_reads t k) ss) (stmts_good r ss fs))
    expr_good _ _ (G.latest r a c es is fs) = expr_at r (F.Latest a c es) (E.Latest a c es) (E.rolls-Latest a c es) (U.latest_good t k known r a c (map in_expr es) (map (expr_reads t k) es) (exprs_good r es fs))
    expr_good _ _ (G.delete r a x ty is f) = expr_at r (F.Delete a x ty) (XV.Delete a x ty) (E.rolls-Delete a x ty) (delete_good t k known r a x ty (laws.deletions ty))
    expr_good _ _ (G.spawn r a e f) = expr_at r (F.Spawn a e) (E.Spawn a e) (E.rolls-Spawn a e) (M.spawn t k r a (in_expr e) (expr_reads t k e) (expr_good false e f))
    expr_good _ _ (G.eval_method r a m f) = expr_at r (F.EvalMethod a m) (E.EvalMethod a m) (E.rolls-EvalMethod a m) (B.eval_method t k r a (in_method m) (method_reads t k m) (method_good m f))
    expr_good _ _ (G.eval_block r a xs fs) = expr_at r (F.EvalBlock a xs) (E.EvalBlock a xs) (E.rolls-EvalBlock a xs) (B.eval_block t k r a (map in_eval xs) (map (eval_reads t k) xs) (evals_good xs fs))
    expr_good _ _ (G.eval_expr r a e f) = expr_at r (F.EvalExpr a e) (E.EvalExpr a e) (E.rolls-EvalExpr a e) (B.eval_expr t k r a (in_expr e) (expr_reads t k e) (expr_good false e f))
    expr_good _ _ (G.eval_quote r a xs fs) = expr_at r (F.EvalQuote a xs) (E.EvalQuote a xs) (E.rolls-EvalQuote a xs) (B.eval_quote t k r a (map in_eval xs) (map (eval_reads t k) xs) (evals_good xs fs))
    expr_good _ _ (G.fetch r a e f) = expr_at r (F.Fetch a e) (E.Fetch a e) (E.rolls-Fetch a e) (P.fetch t k r a (in_expr e) (expr_reads t k e) (expr_good r e f))
    expr_good _ _ (G.print r a line ps fs) = expr_at r (F.Print a line ps) (E.Print a line ps) (E.rolls-Print a line ps) (B.print t k r a line (map in_piece ps) (map (piece_reads t k) ps) (pieces_good r ps fs))

    exprs_good : (r : Bool) (es : List Expr) → FormedExprs r es → Each (IsGood k r) (map in_expr es) (map (expr_reads t k) es)
    exprs_good _ _ (G.no_exprs r) = tt
    exprs_good _ _ (G.more_exprs r e es f fs) = (expr_good r e f, exprs_good r es fs)

    branch_good : (r : Bool) (b : Branch) → FormedBranch r b → IsGoodBranch k r (in_branch b) (branch_reads t k b)
    branch_good _ _ (G.branch r a c ss f fs) = branch_at r a c ss (expr_good r c f) (stmts_good r ss fs)

    branches_good : (r : Bool) (bs : List Branch) → FormedBranches r bs → Each (IsGoodBranch k r) (map in_branch bs) (map (branch_reads t k) bs)
    branches_good _ _ (G.no_branches r) = tt
    branches_good _ _ (G.more_branches r b bs f fs) = (branch_good r b f, branches_good r bs fs)

    piece_good : (r : Bool) (p : Piece) → FormedPiece r p → IsGoodPiece k r (in_piece p) (piece_reads t k p)
    piece_good _ _ (G.text r a x is) = piece_at r (F.Text a x) (PV.Text a x) (E.rolls-Text a x) (refl, is)
    piece_good _ _ (G.show r e f) = piece_at r (F.Show e) (PV.Show e) (E.rolls-Show e) (expr_good r e f)

    pieces_good : (r : Bool) (ps : List Piece) → FormedPieces r ps → Each (IsGoodPiece k r) (map in_piece ps) (map (piece_reads t k) ps)
    pieces_good _ _ (G.no_pieces r) = tt
    pieces_good _ _ (G.more_pieces r p ps f fs) = (piece_good r p f, pieces_good r ps fs)

    stmt_good : (r : Bool) (s : Stmt) → FormedStmt r s → IsGoodStmt k r (in_stmt s) (stmt_reads t k s)
    stmt_good _ _ (G.bind_stmt r x e is f) = stmt_at r (F.Bind x e) (SV.Bind x e) (E.rolls-Bind x e) (expr_good r e f)
    stmt_good _ _ (G.return_stmt a e f) = stmt_at true (F.Return a e) (SV.Return a e) (E.rolls-Return a e) (refl, expr_good true e f)
    stmt_good _ _ (G.return_nothing a) = stmt_at true (F.ReturnNothing a) (SV.ReturnNothing a) (E.rolls-ReturnNothing a) (refl, P.nothing_at t k true a)
    stmt_good _ _ (G.do_stmt r e f) = stmt_at r (F.Stmt::Do e) (SV.Do e) (E.rolls-Stmt::Do e) (expr_good r e f)

    stmts_good : (r : Bool) (ss : List Stmt) → FormedStmts r ss → Each (IsGoodStmt k r) (map in_stmt ss) (map (stmt_reads t k) ss)
    stmts_good _ _ (G.no_stmts r) = tt
    stmts_good _ _ (G.more_stmts r s ss f fs) = (stmt_good r s f, stmts_good r ss fs)

    eval_good : (x : Eval) → FormedEval x → IsGoodEval k (in_eval x) (eval_reads t k x)
    eval_good _ (G.method_eval m f) = eval_at (F.Method m) (EV.Method m) (E.rolls-Method m) (method_good m f)
    eval_good _ (G.do_eval e f) = eval_at (F.Eval::Do e) (EV.Do e) (E.rolls-Eval::Do e) (expr_good false e f)

    evals_good : (xs : List Eval) → FormedEvals xs → Each (IsGoodEval k) (map in_eval xs) (map (eval_reads t k) xs)
    evals_good _ G.no_evals = tt
    evals_good _ (G.more_evals x xs f fs) = (eval_good x f, evals_good xs fs)

    pub method_good : (m : Method) → FormedMethod m → IsGoodMethod k (in_method m) (method_reads t k m)
    method_good _ (G.long_method a h ss f fs) =
        method_at (F.Long a h ss) (E.Long a h ss) (E.rolls-Long a h ss) (M.long t k known a h (head_good h f) (map in_stmt ss) (map (stmt_reads t k) ss) (stmts_good true ss fs))
    method_good _ (G.short_method a h e f g) =
        method_at (F.Short a h e) (E.Short a h e) (E.rolls-Short a h e) (M.short t k known a h (head_good h f) (in_expr e) (expr_reads t k e) (expr_good true e g))
