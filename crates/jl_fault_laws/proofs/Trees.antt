-- What is told of a well-formed tree are the faults of the uses of names in it: one line a form.
use Rattle.std.proofs.Common.{◌≡◌, ◌∙◌, sym, refl, subst, ap, ℕ, ◌+◌, max, Bool, true, false, List, [], ◌∷◌, ◌++◌, map, Option, Some, None}
use Rattle.std.proofs.lemmas.List.{take-map}
use Rattle.jl_model.specs.declared.ty.Decl.{Decl}
use Rattle.jl_grammar.specs.declared.tree.Branch.{Branch}
use Rattle.jl_grammar.specs.declared.tree.Eval.{Eval}
use Rattle.jl_grammar.specs.declared.tree.Eval.TheFolds.{map-Eval, map-Expr, map-Method, map-Piece, map-Stmt, fold-roll-Branch, fold-roll-Eval, fold-roll-Expr, fold-roll-Method, fold-roll-Piece, fold-roll-Stmt}
use Rattle.jl_grammar.specs.declared.tree.Eval.TheOpen as F
use Rattle.jl_grammar.specs.declared.tree.Eval.TheOpen.{Branch-F, Eval-F, Expr-F, Method-F, Piece-F, Stmt-F}
use Rattle.jl_grammar.specs.declared.tree.Eval.TheVariants as EV
use Rattle.jl_grammar.specs.declared.tree.Eval.TheViews as E
use Rattle.jl_grammar.specs.declared.tree.Eval.TheViews.{roll-Eval, roll-Expr, roll-Method, roll-Piece, roll-Stmt}
use Rattle.jl_grammar.specs.declared.tree.Expr.{Expr}
use Rattle.jl_grammar.specs.declared.tree.Expr.TheVariants as XV
use Rattle.jl_grammar.specs.declared.tree.Item.{Item}
use Rattle.jl_grammar.specs.declared.tree.Method.{Method}
use Rattle.jl_grammar.specs.declared.tree.Name.{Name}
use Rattle.jl_grammar.specs.declared.tree.Piece.{Piece}
use Rattle.jl_grammar.specs.declared.tree.Piece.TheVariants as PV
use Rattle.jl_grammar.specs.declared.tree.Stmt.{Stmt}
use Rattle.jl_grammar.specs.declared.tree.Stmt.TheVariants as SV
use Rattle.jl_model.specs.declared.builtin.TheConstants.{BUILTIN_TYPES}
use Rattle.jl_formed.specs.Formed as G
use Rattle.jl_formed.specs.Formed.{FormedExpr, FormedExprs, FormedBranch, FormedBranches, FormedPiece, FormedPieces, FormedStmt, FormedStmts, FormedEval, FormedEvals, FormedMethod, FormedItems}
use Rattle.jl_written.specs.declared.fault.Fault.{Fault}
use Rattle.jl_written.specs.declared.fault.StaticKind.TheVariants as kind
use Rattle.jl_resolve_forms.specs.declared.known.Known.{Known}
use Rattle.jl_resolve_forms.specs.declared.state.Scope.{Scope}
use Rattle.jl_resolve_forms.specs.declared.state.State.{State}
use Rattle.jl_resolve_forms.specs.Scopes.{bind}
use Rattle.jl_resolve_forms.specs.Top.{first_at, clash, top_bind, all_top, beginning, resolve}
use Rattle.jl_resolve_forms.specs.TypesIn.{Tests, declared_at}
use Rattle.jl_resolve_forms.specs.Expressions as R
use Rattle.jl_resolve_forms.specs.Expressions.{Reads, Defines, Says, Evaluates, Shows, Tries, bare_scope, expr_reads, method_reads, stmt_reads, eval_reads, piece_reads, branch_reads, all_coded}
use Rattle.jl_fault_laws.specs.Uses as U
use Rattle.jl_fault_laws.specs.Uses.{Names, Visible, ScriptNames, Uses, Stated, used, each, block, bare, names_told, type_names, at_top, shared_uses, top_uses, items_uses, uses_of}
use Rattle.jl_fault_laws.proofs.Firsts.{Tells, one_fault}
use Rattle.jl_fault_laws.proofs.Faults.{all_faults, Pairs}
use Rattle.jl_fault_laws.proofs.Adds.{Adds, adds_nothing, adds_joined, adds_alike}
use Rattle.jl_fault_laws.proofs.Names.{Agrees, Knows, Sees, bind_sees, bind_types, bind_adds}
use Rattle.jl_fault_laws.proofs.Told as D
use Rattle.jl_fault_laws.proofs.Told.{AreTold, IsTold, IsToldMethod, IsToldStmt, IsToldEval, IsToldPiece, IsToldBranch}

module _ (t : Tests) (k : Known) (types_told : AreTold t k) where
  -- ---- the uses in its parts

  abbrev told : ScriptNames
  told = names_told k

  abbrev expr_uses : Expr → Uses
  expr_uses = U.expr_uses told

  abbrev method_uses : Method → Uses
  method_uses = U.method_uses told

  abbrev stmt_uses : Stmt → Stated
  stmt_uses = U.stmt_uses told

  abbrev eval_uses : Eval → Uses
  eval_uses = U.eval_uses told

  abbrev piece_uses : Piece → Uses
  piece_uses = U.piece_uses told

  abbrev branch_uses : Branch → Uses
  branch_uses = U.branch_uses told

  -- ---- a tree tells what its layer does

  expr_at :
      (l : Expr-F Eval Expr Method Piece Stmt Branch) (e : Expr) → roll-Expr l ≡ e
      → IsTold t k (U.expr_step told (map-Expr Eval Expr Method Piece Stmt Branch Uses Uses Uses Uses Stated Uses eval_uses expr_uses method_uses piece_uses stmt_uses branch_uses l))
      (R.expr_step t k (map-Expr Eval Expr Method Piece Stmt Branch Evaluates Reads Defines Shows Says Tries (eval_reads t k) (expr_reads t k) (method_reads t k) (piece_reads t k) (stmt_reads t k) (branch_reads t k) l))
      → IsTold t k (expr_uses e) (expr_reads t k e)
  expr_at l e is h =
      let us = fold-roll-Expr Uses Uses Uses Uses Stated Uses (U.eval_step told) (U.expr_step told) (U.method_step told) (U.piece_step told) (U.stmt_step told) (U.branch_step told) l in
      let rs = fold-roll-Expr Evaluates Reads Defines Shows Says Tries (R.eval_step t k) (R.expr_step t k) (R.method_step t k) (R.piece_step t k) (R.stmt_step t k) (R.branch_step t k) l in
      subst (λ x. IsTold t k (expr_uses x) (expr_reads t k x)) is
      (subst (λ u. IsTold t k u (expr_reads t k (roll-Expr l))) (sym us) (subst (λ x. IsTold t k (U.expr_step told (map-Expr Eval Expr Method Piece Stmt Branch Uses Uses Uses Uses Stated Uses eval_uses expr_uses method_uses piece_uses stmt_uses branch_uses l)) x) (sym rs) h))

  stmt_at :
      (l : Stmt-F Eval Expr Method Piece Stmt Branch) (e : Stmt) → roll-Stmt l ≡ e
      → IsToldStmt t k (U.stmt_step told (map-Stmt Eval Expr Method Piece Stmt Branch Uses Uses Uses Uses Stated Uses eval_uses expr_uses method_uses piece_uses stmt_uses branch_uses l))
      (R.stmt_step t k (map-Stmt Eval Expr Method Piece Stmt Branch Evaluates Reads Defines Shows Says Tries (eval_reads t k) (expr_reads t k) (method_reads t k) (piece_reads t k) (stmt_reads t k) (branch_reads t k) l))
      → IsToldStmt t k (stmt_uses e) (stmt_reads t k e)
  stmt_at l e is h =
      let us = fold-roll-Stmt Uses Uses Uses Uses Stated Uses (U.eval_step told) (U.expr_step told) (U.method_step told) (U.piece_step told) (U.stmt_step told) (U.branch_step told) l in
      let rs = fold-roll-Stmt Evaluates Reads Defines Shows Says Tries (R.eval_step t k) (R.expr_step t k) (R.method_step t k) (R.piece_step t k) (R.stmt_step t k) (R.branch_step t k) l in
      subst (λ x. IsToldStmt t k (stmt_uses x) (stmt_reads t k x)) is
      (subst (λ u. IsToldStmt t k u (stmt_reads t k (roll-Stmt l))) (sym us) (subst (λ x. IsToldStmt t k (U.stmt_step told (map-Stmt Eval Expr Method Piece Stmt Branch Uses Uses Uses Uses Stated Uses eval_uses expr_uses method_uses piece_uses stmt_uses branch_uses l)) x) (sym rs) h))

  method_at :
      (l : Method-F Eval Expr Method Piece Stmt Branch) (e : Method) → roll-Method l ≡ e
      → IsToldMethod t k (U.method_step told (map-Method Eval Expr Method Piece Stmt Branch Uses Uses Uses Uses Stated Uses eval_uses expr_uses method_uses piece_uses stmt_uses branch_uses l))
      (R.method_step t k (map-Method Eval Expr Method Piece Stmt Branch Evaluates Reads Defines Shows Says Tries (eval_reads t k) (expr_reads t k) (method_reads t k) (piece_reads t k) (stmt_reads t k) (branch_reads t k) l))
      → IsToldMethod t k (method_uses e) (method_reads t k e)
  method_at l e is h =
      let us = fold-roll-Method Uses Uses Uses Uses Stated Uses (U.eval_step told) (U.expr_step told) (U.method_step told) (U.piece_step told) (U.stmt_step told) (U.branch_step told) l in
      let rs = fold-roll-Method Evaluates Reads Defines Shows Says Tries (R.eval_step t k) (R.expr_step t k) (R.method_step t k) (R.piece_step t k) (R.stmt_step t k) (R.branch_step t k) l in
      subst (λ x. IsToldMethod t k (method_uses x) (method_reads t k x)) is
      (subst (λ u. IsToldMethod t k u (method_reads t k (roll-Method l))) (sym us) (subst (λ x. IsToldMethod t k (U.method_step told (map-Method Eval Expr Method Piece Stmt Branch Uses Uses Uses Uses Stated Uses eval_uses expr_uses method_uses piece_uses stmt_uses branch_uses l)) x) (sym rs) h))

  eval_at :
      (l : Eval-F Eval Expr Method Piece Stmt Branch) (e : Eval) → roll-Eval l ≡ e
      → IsToldEval t k (U.eval_step told (map-Eval Eval Expr Method Piece Stmt Branch Uses Uses Uses Uses Stated Uses eval_uses expr_uses method_uses piece_uses stmt_uses branch_uses l))
      (R.eval_step t k (map-Eval Eval Expr Method Piece Stmt Branch Evaluates Reads Defines Shows Says Tries (eval_reads t k) (expr_reads t k) (method_reads t k) (piece_reads t k) (stmt_reads t k) (branch_reads t k) l))
      → IsToldEval t k (eval_uses e) (eval_reads t k e)
  eval_at l e is h =
      let us = fold-roll-Eval Uses Uses Uses Uses Stated Uses (U.eval_step told) (U.expr_step told) (U.method_step told) (U.piece_step told) (U.stmt_step told) (U.branch_step told) l in
      let rs = fold-roll-Eval Evaluates Reads Defines Shows Says Tries (R.eval_step t k) (R.expr_step t k) (R.method_step t k) (R.piece_step t k) (R.stmt_step t k) (R.branch_step t k) l in
      subst (λ x. IsToldEval t k (eval_uses x) (eval_reads t k x)) is
      (subst (λ u. IsToldEval t k u (eval_reads t k (roll-Eval l))) (sym us) (subst (λ x. IsToldEval t k (U.eval_step told (map-Eval Eval Expr Method Piece Stmt Branch Uses Uses Uses Uses Stated Uses eval_uses expr_uses method_uses piece_uses stmt_uses branch_uses l)) x) (sym rs) h))

  piece_at :
      (l : Piece-F Eval Expr Method Piece Stmt Branch) (e : Piece) → roll-Piece l ≡ e
      → IsToldPiece t k (U.piece_step told (map-Piece Eval Expr Method Piece Stmt Branch Uses Uses Uses Uses Stated Uses eval_uses expr_uses method_uses piece_uses stmt_uses branch_uses l))
      (R.piece_step t k (map-Piece Eval Expr Method Piece Stmt Branch Evaluates Reads Defines Shows Says Tries (eval_reads t k) (expr_reads t k) (method_reads t k) (piece_reads t k) (stmt_reads t k) (branch_reads t k) l))
      → IsToldPiece t k (piece_uses e) (piece_reads t k e)
  piece_at l e is h =
      let us = fold-roll-Piece Uses Uses Uses Uses Stated Uses (U.eval_step told) (U.expr_step told) (U.method_step told) (U.piece_step told) (U.stmt_step told) (U.branch_step told) l in
      let rs = fold-roll-Piece Evaluates Reads Defines Shows Says Tries (R.eval_step t k) (R.expr_step t k) (R.method_step t k) (R.piece_step t k) (R.stmt_step t k) (R.branch_step t k) l in
      subst (λ x. IsToldPiece t k (piece_uses x) (piece_reads t k x)) is
      (subst (λ u. IsToldPiece t k u (piece_reads t k (roll-Piece l))) (sym us) (subst (λ x. IsToldPiece t k (U.piece_step told (map-Piece Eval Expr Method Piece Stmt Branch Uses Uses Uses Uses Stated Uses eval_uses expr_uses method_uses piece_uses stmt_uses branch_uses l)) x) (sym rs) h))

  branch_at : (a : ℕ) (e : Expr) (ss : List Stmt) → IsTold t k (expr_uses e) (expr_reads t k e) → Pairs (IsToldStmt t k) (map stmt_uses ss) (map (stmt_reads t k) ss)
      → IsToldBranch t k (branch_uses (record { at = a; test = e; block = ss })) (branch_reads t k (record { at = a; test = e; block = ss }))
  branch_at a e ss h g =
      let us = fold-roll-Branch Uses Uses Uses Uses Stated Uses (U.eval_step told) (U.expr_step told) (U.method_step told) (U.piece_step told) (U.stmt_step told) (U.branch_step told) (record { at = a; test = e; block = ss }) in
      let rs = fold-roll-Branch Evaluates Reads Defines Shows Says Tries (R.eval_step t k) (R.expr_step t k) (R.method_step t k) (R.piece_step t k) (R.stmt_step t k) (R.branch_step t k) (record { at = a; test = e; block = ss }) in
      let b : Tries = record { test = expr_reads t k e; block = map (stmt_reads t k) ss } in
      subst (λ (x : Tries). IsToldBranch t k (branch_uses (record { at = a; test = e; block = ss })) x) (sym rs)
      (let it : IsToldBranch t k (branch_uses (record { at = a; test = e; block = ss })) b = record { of_test = expr_uses e; of_block = map stmt_uses ss; is = λ v. ap (λ (f : Uses). f v) (sym us); test = h; in_block = g } in it)

  pair_told : (u w : Uses) (x y : Reads) → IsTold t k u x → IsTold t k w y → (c : Scope) (v : Visible) (s : State) → Sees t k c v → Adds t k (u v ++ w v) s (y c (x c s).after).after
  pair_told u w x y f g c v s h = adds_joined t k (u v) (w v) s (x c s).after (y c (x c s).after).after (f c v s h) (g c v (x c s).after h)

  bare_sees : (types : ℕ) (v : Visible) → type_names (declared_at k types) ≡ v.types → Sees t k (bare_scope types) (bare v)
  bare_sees types v e = record { slots = λ name. refl; vars = record { names = λ name. refl; idle = λ name. refl }; statics = refl; types = e }

  -- ---- trees

  mutual
    pub expr_told : (r : Bool) (e : Expr) → FormedExpr r e → IsTold t k (expr_uses e) (expr_reads t k e)
    expr_told _ _ (G.number r a n) = expr_at (F.Number a n) (XV.Number a n) (E.rolls-Number a n) (λ c v s g. adds_nothing t k s)
    expr_told _ _ (G.truth r a b) = expr_at (F.Bool a b) (XV.Bool a b) (E.rolls-Bool a b) (λ c v s g. adds_nothing t k s)
    expr_told _ _ (G.nothing r a) = expr_at (F.Nothing a) (XV.Nothing a) (E.rolls-Nothing a) (λ c v s g. adds_nothing t k s)
    expr_told _ _ (G.name r a n is) = expr_at (F.Name a n) (XV.Name a n) (E.rolls-Name a n) (D.name_told t k a n)
    expr_told _ _ (G.paren r a e f) = expr_at (F.Paren a e) (E.Paren a e) (E.rolls-Paren a e) (expr_told r e f)
    expr_told _ _ (G.tuple r a es fs) = expr_at (F.Tuple a es) (E.Tuple a es) (E.rolls-Tuple a es) (D.all_coded_told t k (map expr_uses es) (map (expr_reads t k) es) (exprs_told r es fs))
    expr_told _ _ (G.call r a c es is fs) = expr_at (F.Call a c es) (E.Call a c es) (E.rolls-Call a c es) (D.call_told t k c (map expr_uses es) (map (expr_reads t k) es) (exprs_told r es fs))
    expr_told _ _ (G.make r a ty es is fs) = expr_at (F.Make a ty es) (E.Make a ty es) (E.rolls-Make a ty es) (D.made_told t k types_told ty (map expr_uses es) (map (expr_reads t k) es) (exprs_told r es fs))
    expr_told _ _ (G.field r a e x f is) = expr_at (F.Field a e x) (E.Field a e x) (E.rolls-Field a e x) (expr_told r e f)
    expr_told _ _ (G.part r a e n f is) = expr_at (F.Part a e n) (E.Part a e n) (E.rolls-Part a e n) (expr_told r e f)
    expr_told _ _ (G.prefixed r a o e f) = expr_at (F.Prefix a o e) (E.Prefix a o e) (E.rolls-Prefix a o e) (expr_told r e f)
    expr_told _ _ (G.infixed r a o e d f g) = expr_at (F.Infix a o e d) (E.Infix a o e d) (E.rolls-Infix a o e d) (pair_told (expr_uses e) (expr_uses d) (expr_reads t k e) (expr_reads t k d) (expr_told r e f) (expr_told r d g))
    expr_told _ _ (G.isa r a e ty f is) = expr_at (F.Isa a e ty) (E.Isa a e ty) (E.rolls-Isa a e ty) (D.isa_told t k types_told (expr_uses e) (expr_reads t k e) ty (expr_told r e f))
    expr_told _ _ (G.sub r a x y f g) = expr_at (F.Sub a x y) (XV.Sub a x y) (E.rolls-Sub a x y) (D.below_told t k types_told x y)
    expr_told _ _ (G.choose r a c e d f g i) = expr_at (F.Choose a c e d) (E.Choose a c e d) (E.rolls-Choose a c e d)
        (λ z v s h.
        let x = expr_reads t k c z s in
        let y = expr_reads t k e z x.after in
        let w = expr_reads t k d z y.after in
        adds_joined t k (expr_uses c v) (expr_uses e v ++ expr_uses d v) s x.after w.after (expr_told r c f z v s h)
        (adds_joined t k (expr_uses e v) (expr_uses d v) x.after y.after w.after (expr_told r e g z v x.after h) (expr_told r d i z v y.after h)))
    expr_told _ _ (G.if_end r a bs fs) = expr_at (F.If a bs) (E.If a bs) (E.rolls-If a bs) (D.all_tried_told t k (map branch_uses bs) (map (branch_reads t k) bs) (branches_told r bs fs))
    expr_told _ _ (G.if_else r a bs ss fs gs) = expr_at (F.IfElse a bs ss) (E.IfElse a bs ss) (E.rolls-IfElse a bs ss)
        (λ c v s h.
        let y = R.all_tried (map (branch_reads t k) bs) c s in
        adds_joined t k (each (map branch_uses bs) v) (block (map stmt_uses ss) v) s y.after (R.block_of (map (stmt_reads t k) ss) c y.after).after
        (D.all_tried_told t k (map branch_uses bs) (map (branch_reads t k) bs) (branches_told r bs fs) c v s h)
        (D.block_told t k (map stmt_uses ss) (map (stmt_reads t k) ss) (stmts_told r ss gs) c v y.after h))
    expr_told _ _ (G.begin_end r a ss fs) = expr_at (F.Begin a ss) (E.Begin a ss) (E.rolls-Begin a ss) (D.block_told t k (map stmt_uses ss) (map (stmt_reads t k) ss) (stmts_told r ss fs))
    expr_told _ _ (G.latest r a c es is fs) = expr_at (F.Latest a c es) (E.Latest a c es) (E.rolls-Latest a c es) (D.latest_told t k c (map expr_uses es) (map (expr_reads t k) es) (exprs_told r es fs))
    expr_told _ _ (G.delete r a x ty is f) = expr_at (F.Delete a x ty) (XV.Delete a x ty) (E.rolls-Delete a x ty) (D.delete_told t k types_told x ty)
    expr_told _ _ (G.spawn r a e f) = expr_at (F.Spawn a e) (E.Spawn a e) (E.rolls-Spawn a e) (D.spawned_told t k (expr_uses e) (expr_reads t k e) (expr_told false e f))
    expr_told _ _ (G.eval_method r a m f) = expr_at (F.EvalMethod a m) (E.EvalMethod a m) (E.rolls-EvalMethod a m) (λ c v s h. method_told m f c.types v s h.types)
    expr_told _ _ (G.eval_block r a xs fs) = expr_at (F.EvalBlock a xs) (E.EvalBlock a xs) (E.rolls-EvalBlock a xs) (λ c v s h. D.all_evaluated_told t k (map eval_uses xs) (map (eval_reads t k) xs) (evals_told xs fs) c.types v s h.types)
    expr_told _ _ (G.eval_expr r a e f) = expr_at (F.EvalExpr a e) (E.EvalExpr a e) (E.rolls-EvalExpr a e) (λ c v s h. expr_told false e f (bare_scope c.types) (bare v) s (bare_sees c.types v h.types))
    expr_told _ _ (G.eval_quote r a xs fs) = expr_at (F.EvalQuote a xs) (E.EvalQuote a xs) (E.rolls-EvalQuote a xs) (λ c v s h. D.all_evaluated_told t k (map eval_uses xs) (map (eval_reads t k) xs) (evals_told xs fs) c.types v s h.types)
    expr_told _ _ (G.fetch r a e f) = expr_at (F.Fetch a e) (E.Fetch a e) (E.rolls-Fetch a e) (expr_told r e f)
    expr_told _ _ (G.print r a line ps fs) = expr_at (F.Print a line ps) (E.Print a line ps) (E.rolls-Print a line ps) (D.all_shown_told t k (map piece_uses ps) (map (piece_reads t k) ps) (pieces_told r ps fs))

    exprs_told : (r : Bool) (es : List Expr) → FormedExprs r es → Pairs (IsTold t k) (map expr_uses es) (map (expr_reads t k) es)
    exprs_told _ _ (G.no_exprs r) = tt
    exprs_told _ _ (G.more_exprs r e es f fs) = (expr_told r e f, exprs_told r es fs)

    branch_told : (r : Bool) (b : Branch) → FormedBranch r b → IsToldBranch t k (branch_uses b) (branch_reads t k b)
    branch_told _ _ (G.branch r a c ss f fs) = branch_at a c ss (expr_told r c f) (stmts_told r ss fs)

    branches_told : (r : Bool) (bs : List Branch) → FormedBranches r bs → Pairs (IsToldBranch t k) (map branch_uses bs) (map (branch_reads t k) bs)
    branches_told _ _ (G.no_branches r) = tt
    branches_told _ _ (G.more_branches r b bs f fs) = (branch_told r b f, branches_told r bs fs)

    piece_told : (r : Bool) (p : Piece) → FormedPiece r p → IsToldPiece t k (piece_uses p) (piece_reads t k p)
    piece_told _ _ (G.text r a x is) = piece_at (F.Text a x) (PV.Text a x) (E.rolls-Text a x) (λ v. refl)
    piece_told _ _ (G.show r e f) = piece_at (F.Show e) (PV.Show e) (E.rolls-Show e) (expr_told r e f)

    pieces_told : (r : Bool) (ps : List Piece) → FormedPieces r ps → Pairs (IsToldPiece t k) (map piece_uses ps) (map (piece_reads t k) ps)
    pieces_told _ _ (G.no_pieces r) = tt
    pieces_told _ _ (G.more_pieces r p ps f fs) = (piece_told r p f, pieces_told r ps fs)

    stmt_told : (r : Bool) (s : Stmt) → FormedStmt r s → IsToldStmt t k (stmt_uses s) (stmt_reads t k s)
    stmt_told _ _ (G.bind_stmt r x e is f) = stmt_at (F.Bind x e) (SV.Bind x e) (E.rolls-Bind x e) (refl, expr_uses e, λ v. refl, expr_told r e f)
    stmt_told _ _ (G.return_stmt a e f) = stmt_at (F.Return a e) (SV.Return a e) (E.rolls-Return a e) (refl, expr_told true e f)
    stmt_told _ _ (G.return_nothing a) = stmt_at (F.ReturnNothing a) (SV.ReturnNothing a) (E.rolls-ReturnNothing a) (refl, λ c v s g. adds_nothing t k s)
    stmt_told _ _ (G.do_stmt r e f) = stmt_at (F.Stmt::Do e) (SV.Do e) (E.rolls-Stmt::Do e) (refl, expr_told r e f)

    stmts_told : (r : Bool) (ss : List Stmt) → FormedStmts r ss → Pairs (IsToldStmt t k) (map stmt_uses ss) (map (stmt_reads t k) ss)
    stmts_told _ _ (G.no_stmts r) = tt
    stmts_told _ _ (G.more_stmts r s ss f fs) = (stmt_told r s f, stmts_told r ss fs)

    eval_told : (x : Eval) → FormedEval x → IsToldEval t k (eval_uses x) (eval_reads t k x)
    eval_told _ (G.method_eval m f) = eval_at (F.Method m) (EV.Method m) (E.rolls-Method m) (method_told m f)
    eval_told _ (G.do_eval e f) = eval_at (F.Eval::Do e) (EV.Do e) (E.rolls-Eval::Do e) (λ types v s h. expr_told false e f (bare_scope types) (bare v) s (bare_sees types v h))

    evals_told : (xs : List Eval) → FormedEvals xs → Pairs (IsToldEval t k) (map eval_uses xs) (map (eval_reads t k) xs)
    evals_told _ G.no_evals = tt
    evals_told _ (G.more_evals x xs f fs) = (eval_told x f, evals_told xs fs)

    pub method_told : (m : Method) → FormedMethod m → IsToldMethod t k (method_uses m) (method_reads t k m)
    method_told _ (G.long_method a h ss f fs) =
        method_at (F.Long a h ss) (E.Long a h ss) (E.rolls-Long a h ss) (D.method_told t k types_told h (block (map stmt_uses ss)) (R.block_of (map (stmt_reads t k) ss)) (D.block_told t k (map stmt_uses ss) (map (stmt_reads t k) ss) (stmts_told true ss fs)))
    method_told _ (G.short_method a h e f g) =
        method_at (F.Short a h e) (E.Short a h e) (E.rolls-Short a h e) (D.method_told t k types_told h (expr_uses e) (expr_reads t k e) (expr_told true e g))

  -- ---- items

  -- what is visible at the top, where so many types are declared before
  top_sees : (c : Scope) (n : ℕ) (vs : Names) → Agrees c vs → c.types ≡ n → c.statics ≡ [] → Sees t k c (at_top told n vs)
  top_sees c n vs a e h = record { slots = a; vars = subst (λ xs. Knows t k xs (at_top told n vs)) (sym h) (record { names = λ name. refl; idle = λ name. refl }); statics = h; types = ap (λ m. type_names (declared_at k m)) e ∙ sym (take-map (λ (d : Decl). d.name) n k.decls) }

  shared_told : (n : Name) (o : Option ℕ) (v : Visible) (s : State) → Adds t k (shared_uses told n o v) s (clash n.at o s)
  shared_told n None v s = adds_nothing t k s
  shared_told n (Some i) v s = adds_alike t k (shared_uses told n (Some i) v) s (clash n.at (Some i) s) refl refl (λ m. one_fault (record { at = max n.at i; kind = kind.Rebound }) s.fault)

  top_told : (n : Name) (c : Scope) (v : Visible) (s : State) → Agrees c v.names → Adds t k (top_uses told n v) s (top_bind k n c s).after
  top_told n c v s a =
      let b = bind n c s in
      let f = first_at k.methods n.bytes in
      let o = first_at k.types n.bytes in
      let z = clash n.at f b.after in
      let own = used n.at (U.bound n.bytes) v ∷ [] in
      adds_joined t k own (shared_uses told n f v ++ shared_uses told n o v) s b.after (clash n.at o z) (bind_adds t k n c s v a)
      (adds_joined t k (shared_uses told n f v) (shared_uses told n o v) b.after z (clash n.at o z) (shared_told n f v b.after) (shared_told n o v z))

  pub items_told : (xs : List Item) → FormedItems xs → (c : Scope) (n : ℕ) (vs : Names) (s : State) → Sees t k c (at_top told n vs) → c.types ≡ n → Adds t k (items_uses told xs n vs) s (all_top t k xs c s).after
  items_told _ G.no_items c n vs s a e = adds_nothing t k s
  items_told _ (G.more_items _ xs (G.abstract_item h f) fs) c n vs s a e =
      let d = record c { types = c.types + 1 } in
      items_told xs fs d (n + 1) vs s (top_sees d (n + 1) vs a.slots (ap (λ m. m + 1) e) a.statics) (ap (λ m. m + 1) e)
  items_told _ (G.more_items _ xs (G.struct_item h ys f g) fs) c n vs s a e =
      let d = record c { types = c.types + 1 } in
      items_told xs fs d (n + 1) vs s (top_sees d (n + 1) vs a.slots (ap (λ m. m + 1) e) a.statics) (ap (λ m. m + 1) e)
  items_told _ (G.more_items _ xs (G.method_item m f) fs) c n vs s a e =
      let y = method_reads t k m c.types s in
      adds_joined t k (method_uses m (at_top told n vs)) (items_uses told xs n vs) s y.after (all_top t k xs c y.after).after (method_told m f c.types (at_top told n vs) s a.types) (items_told xs fs c n vs y.after a e)
  items_told _ (G.more_items _ xs (G.bind_item x d is f) fs) c n vs s a e =
      let v = at_top told n vs in
      let y = expr_reads t k d c s in
      let b = top_bind k x c y.after in
      let us = items_uses told xs n (x.bytes ∷ vs) in
      let z = all_top t k xs b.value b.after in
      adds_joined t k (expr_uses d v) (top_uses told x v ++ us) s y.after z.after (expr_told false d f c v s a)
      (adds_joined t k (top_uses told x v) us y.after b.after z.after (top_told x c v y.after a.slots)
      (items_told xs fs b.value n (x.bytes ∷ vs) b.after (bind_sees t k x c y.after v a) (bind_types x c y.after ∙ e)))
  items_told _ (G.more_items _ xs (G.do_item d f) fs) c n vs s a e =
      let y = expr_reads t k d c s in
      adds_joined t k (expr_uses d (at_top told n vs)) (items_uses told xs n vs) s y.after (all_top t k xs c y.after).after (expr_told false d f c (at_top told n vs) s a) (items_told xs fs c n vs y.after a e)

  pub script_told : (xs : List Item) → FormedItems xs → (f : Option Fault) → Tells (all_faults t k 0 (uses_of told xs)) f (resolve t k xs f).fault
  script_told xs fs f =
      (items_told xs fs (bare_scope BUILTIN_TYPES) BUILTIN_TYPES [] (beginning f) (top_sees (bare_scope BUILTIN_TYPES) BUILTIN_TYPES [] (λ name. refl) refl refl) refl).tells 0 refl
