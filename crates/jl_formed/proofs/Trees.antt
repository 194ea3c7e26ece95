-- An expression, a block and a method that are read are well formed: one line a rule of the grammar. An expression that is too
-- deep is not kept, and a method or an evaluated statement is well formed where it is not too deep.
use Rattle.std.proofs.Common.{◌≡◌, ℕ, ◌≤◌, ◌-◌, max, Bool, true, false, nat_lt, cond, [], ◌∷◌, ◌++◌, refl, arith, ltb-false}
use Rattle.jl_token.specs.declared.token.Operator.TheVariants as o
use Rattle.jl_typeread.specs.declared.terminal.Terminal.TheVariants as S
use Rattle.jl_typeread.specs.declared.terminal.Word.TheVariants as w
use Rattle.jl_grammar.specs.declared.state.Branched.{Branched}
use Rattle.jl_grammar.specs.declared.state.Form.{Form}
use Rattle.jl_grammar.specs.declared.state.Forms.{Forms}
use Rattle.jl_grammar.specs.declared.tree.Eval.{Eval}
use Rattle.jl_grammar.specs.declared.tree.Expr.{Expr}
use Rattle.jl_grammar.specs.declared.tree.Method.{Method}
use Rattle.jl_grammar.specs.declared.tree.Piece.{Piece}
use Rattle.jl_grammar.specs.declared.tree.Stmt.{Stmt}
use Rattle.jl_grammar.specs.Forms as M
use Rattle.jl_grammar.specs.Grammar as GR
use Rattle.jl_grammar.specs.Grammar.{place}
use Rattle.jl_grammar.specs.Texts.{Text, Spot, tok, opr, wrd, nam, name_in, lexemes}
use Rattle.jl_grammar.specs.Types.{type_as_read}
use Rattle.jl_formed.specs.Formed as F
use Rattle.jl_formed.specs.Formed.{FormedExpr, FormedExprs, FormedBranches, FormedPieces, FormedStmt, FormedStmts, FormedEval, FormedEvals, FormedMethod}
use Rattle.jl_formed.proofs.Heads.{both_fit, formed_callee, formed_head}
use Rattle.jl_formed.proofs.Rows.{exprs_behind, branches_behind, pieces_behind, stmts_behind, evals_behind}
use Rattle.jl_formed.proofs.Sound.{Sound, text_split}
use Rattle.jl_formed.proofs.Types.{formed_type, formed_type_as_read}

-- ---- depths

depth_around-fits : (d : ℕ) → M.depth_around d ≤ 500 → d ≤ 500
depth_around-fits d l = omega (arith, l)

block-fits : (d : ℕ) → M.depth_around (M.depth_around d) ≤ 500 → d ≤ 500
block-fits d l = omega (arith, l)

make-fits : (a d : ℕ) → M.depth_around (max (a - 1) d) ≤ 500 → a ≤ 500
make-fits a d l = omega (arith, l)

left-fits : (a d : ℕ) → M.depth_around (max a d) ≤ 500 → a ≤ 500
left-fits a d l = omega (arith, l)

right-fits : (a d : ℕ) → M.depth_around (max a d) ≤ 500 → d ≤ 500
right-fits a d l = omega (arith, l)

-- an expression that is too deep is not kept
expr_form : (r : Bool) (at d : ℕ) (e : Expr) → (d ≤ 500 → FormedExpr r e) → FormedExpr r (M.expr_form at d e).tree
expr_form r at d e f = by (nat_lt 500 d) refl
  where
    by : (b : Bool) → nat_lt 500 d ≡ b → FormedExpr r (cond b (M.expr_form at 501 e).tree e)
    by true h = F.nothing r at
    by false h = f (ltb-false 500 d h)

mutual
  formed-atom : (r k b : Bool) (e : Form Expr) (ts : Text) → GR.Atom r k b e ts → Sound ts → FormedExpr r e.tree
  formed-atom _ _ _ _ _ (GR.number r b n p) s = F.number r p.at n
  formed-atom _ _ _ _ _ (GR.truth_true r b p) s = F.truth r p.at true
  formed-atom _ _ _ _ _ (GR.truth_false r b p) s = F.truth r p.at false
  formed-atom _ _ _ _ _ (GR.nothing r b p) s = F.nothing r p.at
  formed-atom _ _ _ _ _ (GR.name r b n p is nt) s = F.name r p.at n s.0
  formed-atom _ _ _ _ _ (GR.paren r b e p q ts nt d) s =
      expr_form r p.at (M.depth_around e.depth) _ (λ l. F.paren r p.at e.tree (formed_expression r e ts d (text_split ts (opr o.CloseParen q ∷ []) s.1).0))
  formed-atom _ _ _ _ _ (GR.tuple_none r b p q nt) s = F.tuple r p.at [] (F.no_exprs r)
  formed-atom _ _ _ _ _ (GR.tuple_one r b e p q v ts nt d) s =
      expr_form r p.at (M.depth_around (max 0 e.depth)) _ (λ l. F.tuple r p.at (e.tree ∷ []) (F.more_exprs r e.tree [] (formed_expression r e ts d (text_split ts (opr o.Comma q ∷ opr o.CloseParen v ∷ []) s.1).0) (F.no_exprs r)))
  formed-atom _ _ _ _ _ (GR.tuple r b e d es p q v ts us nt a c) s =
      let x = text_split (ts ++ opr o.Comma q ∷ us) (opr o.CloseParen v ∷ []) s.1 in
      let y = text_split ts (opr o.Comma q ∷ us) x.0 in
      expr_form r p.at (M.depth_around (max es.depth d.depth)) _ (λ l. F.tuple r p.at (es.trees ++ d.tree ∷ []) (exprs_behind r es.trees d.tree (formed-arguments r es ts a y.0) (formed_expression r d us c y.1.1)))
  formed-atom _ _ _ _ _ (GR.call r b f es ts us is nt c d) s =
      let x = text_split ts us s in
      expr_form r (place ts) (M.depth_around es.depth) _ (λ l. F.call r (place ts) f es.trees (formed_callee f ts c x.0) (formed-brackets r es us d x.1))
  formed-atom _ _ _ _ _ (GR.make r b n p t es ts us is nt c d) s =
      let x = text_split (nam n p ∷ ts) us s in
      expr_form r p.at (M.depth_around (max ((type_as_read t).depth - 1) es.depth)) _ (λ l. F.make r p.at (type_as_read t).tree es.trees (formed_type_as_read t (formed_type t (lexemes (nam n p ∷ ts)) c x.0) (make-fits (type_as_read t).depth es.depth l)) (formed-brackets r es us d x.1))
  formed-atom _ _ _ _ _ (GR.if_end r b p q x ts d) s =
      expr_form r p.at x.depth _ (λ l. F.if_end r p.at x.branches (formed-branches r p x ts d (text_split ts (wrd w.End q ∷ []) s).0))
  formed-atom _ _ _ _ _ (GR.if_else r b p q v x ss ts us c d) s =
      let y = text_split (ts ++ wrd w.Else q ∷ us) (wrd w.End v ∷ []) s in
      let z = text_split ts (wrd w.Else q ∷ us) y.0 in
      expr_form r p.at (max x.depth (M.depth_below (x.lowered - 2) (M.depth_around ss.depth))) _ (λ l. F.if_else r p.at x.branches ss.trees (formed-branches r p x ts c z.0) (formed-block r ss us d z.1.1))
  formed-atom _ _ _ _ _ (GR.begin_end r b p q ss ts d) s =
      expr_form r p.at (M.depth_around (M.depth_around ss.depth)) _ (λ l. F.begin_end r p.at ss.trees (formed-block r ss ts d (text_split ts (wrd w.End q ∷ []) s.1).0))
  formed-atom _ _ _ _ _ (GR.latest_none r b n k f p q v j z ts is nt c) s =
      expr_form r p.at (M.depth_around 0) _ (λ l. F.latest r p.at f [] (formed_callee f ts c (text_split ts (opr o.CloseParen z ∷ []) s.1.1.1.1).0) (F.no_exprs r))
  formed-atom _ _ _ _ _ (GR.latest r b n k f es p q v j y z ts us is nt c d) s =
      let x = text_split (ts ++ opr o.Comma y ∷ us) (opr o.CloseParen z ∷ []) s.1.1.1.1 in
      let a = text_split ts (opr o.Comma y ∷ us) x.0 in
      expr_form r p.at (M.depth_around es.depth) _ (λ l. F.latest r p.at f es.trees (formed_callee f ts c a.0) (formed-arguments r es us d a.1.1))
  formed-atom _ _ _ _ _ (GR.spawn r b n k e p q v ts is nt d) s = expr_form r p.at (M.depth_around e.depth) _ (λ l. F.spawn r p.at e.tree (formed_expression false e ts d s.1.1.1))
  formed-atom _ _ _ _ _ (GR.eval_long r b m p ts d) s = expr_form r p.at (M.depth_around m.depth) _ (λ l. F.eval_method r p.at m.tree (formed_long m ts d s.1 (depth_around-fits m.depth l)))
  formed-atom _ _ _ _ _ (GR.eval_short r b m p ts d) s = expr_form r p.at (M.depth_around m.depth) _ (λ l. F.eval_method r p.at m.tree (formed_short m ts d s.1 (depth_around-fits m.depth l)))
  formed-atom _ _ _ _ _ (GR.eval_block r b xs p q v ts d) s =
      expr_form r p.at (M.depth_around (M.depth_around xs.depth)) _ (λ l. F.eval_block r p.at xs.trees (formed-eval-block xs ts d (text_split ts (wrd w.End v ∷ []) s.1.1).0 (block-fits xs.depth l)))
  formed-atom _ _ _ _ _ (GR.eval_expr r b e p ts is d) s = expr_form r p.at (M.depth_around e.depth) _ (λ l. F.eval_expr r p.at e.tree (formed_expression false e ts d s.1))
  formed-atom _ _ _ _ _ (GR.eval_quote r b n xs p q v j z ts is nt d) s =
      expr_form r p.at (M.depth_around (M.depth_around xs.depth)) _ (λ l. F.eval_quote r p.at xs.trees (formed-eval-block xs ts d (text_split ts (wrd w.End j ∷ opr o.CloseParen z ∷ []) s.1.1.1).0 (block-fits xs.depth l)))
  formed-atom _ _ _ _ _ (GR.delete r b n m f t p q j v x y z w k l ts is nt d) s =
      let a = text_split ts (opr o.CloseParen k ∷ opr o.CloseParen l ∷ []) s.1.1.1.1.1.1.1.1 in
      expr_form r p.at (M.depth_around (type_as_read t).depth) _ (λ h. F.delete r p.at (name_in f z) (type_as_read t).tree s.1.1.1.1.1.1.0
      (formed_type_as_read t (formed_type t (lexemes ts) d a.0) (depth_around-fits (type_as_read t).depth h)))
  formed-atom _ _ _ _ _ (GR.fetch r b n e p q v ts is nt d) s =
      expr_form r p.at (M.depth_around e.depth) _ (λ l. F.fetch r p.at e.tree (formed_expression r e ts d (text_split ts (opr o.CloseParen v ∷ []) s.1.1).0))
  formed-atom _ _ _ _ _ (GR.print_none r b y n p q v is nt) s = F.print r p.at y [] (F.no_pieces r)
  formed-atom _ _ _ _ _ (GR.print r b y n xs p q v ts is nt d) s =
      expr_form r p.at (M.depth_around xs.depth) _ (λ l. F.print r p.at y xs.trees (formed-pieces r xs ts d (text_split ts (opr o.CloseParen v ∷ []) s.1.1).0))

  formed-brackets : (r : Bool) (es : Forms Expr) (ts : Text) → GR.Brackets r es ts → Sound ts → FormedExprs r es.trees
  formed-brackets _ _ _ (GR.no_arguments r p q) s = F.no_exprs r
  formed-brackets _ _ _ (GR.some_arguments r es p q ts d) s = formed-arguments r es ts d (text_split ts (opr o.CloseParen q ∷ []) s.1).0

  formed-arguments : (r : Bool) (es : Forms Expr) (ts : Text) → GR.Arguments r es ts → Sound ts → FormedExprs r es.trees
  formed-arguments _ _ _ (GR.one_argument r e ts d) s = F.more_exprs r e.tree [] (formed_expression r e ts d s) (F.no_exprs r)
  formed-arguments _ _ _ (GR.more_arguments r es e p ts us c d) s =
      let x = text_split ts (opr o.Comma p ∷ us) s in
      exprs_behind r es.trees e.tree (formed-arguments r es ts c x.0) (formed_expression r e us d x.1.1)

  formed-piece : (r : Bool) (xs ys : Forms Piece) (ts : Text) → GR.PieceText r xs ys ts → Sound ts → FormedPieces r xs.trees → FormedPieces r ys.trees
  formed-piece _ _ _ _ (GR.string r xs n p) s f = pieces_behind r xs.trees _ f (F.text r p.at n s.0)
  formed-piece _ _ _ _ (GR.show r xs e ts d) s f = pieces_behind r xs.trees _ f (F.show r e.tree (formed_expression r e ts d s))

  formed-pieces : (r : Bool) (xs : Forms Piece) (ts : Text) → GR.Pieces r xs ts → Sound ts → FormedPieces r xs.trees
  formed-pieces _ _ _ (GR.one_piece r xs ts d) s = formed-piece r M.no_forms xs ts d s (F.no_pieces r)
  formed-pieces _ _ _ (GR.more_pieces r xs ys p ts us c d) s =
      let x = text_split ts (opr o.Comma p ∷ us) s in
      formed-piece r xs ys us d x.1.1 (formed-pieces r xs ts c x.0)

  formed-post : (r k b : Bool) (e : Form Expr) (ts : Text) → GR.Post r k b e ts → Sound ts → FormedExpr r e.tree
  formed-post _ _ _ _ _ (GR.atom r k b e ts d) s = formed-atom r k b e ts d s
  formed-post _ _ _ _ _ (GR.field r b e n p q ts d) s =
      let x = text_split ts (opr o.Dot p ∷ nam n q ∷ []) s in
      expr_form r e.at (M.depth_around e.depth) _ (λ l. F.field r e.at e.tree (name_in n q) (formed-post r false b e ts d x.0) x.1.1.0)
  formed-post _ _ _ _ _ (GR.part r b e n p q v ts is d) s =
      expr_form r e.at (M.depth_around e.depth) _ (λ l. F.part r e.at e.tree n (formed-post r false b e ts d (text_split ts (opr o.OpenBracket p ∷ tok (S.Number n) q ∷ opr o.CloseBracket v ∷ []) s).0) is)

  formed-unary : (r k b : Bool) (e : Form Expr) (ts : Text) → GR.Unary r k b e ts → Sound ts → FormedExpr r e.tree
  formed-unary _ _ _ _ _ (GR.post r k b e ts d) s = formed-post r k b e ts d s
  formed-unary _ _ _ _ _ (GR.prefix r k b x u e p ts is d) s = expr_form r p.at (M.depth_around e.depth) _ (λ l. F.prefixed r p.at u e.tree (formed-unary r k false e ts d s.1))

  formed-term : (r k b : Bool) (e : Form Expr) (ts : Text) → GR.Term r k b e ts → Sound ts → FormedExpr r e.tree
  formed-term _ _ _ _ _ (GR.unary r k b e ts d) s = formed-unary r k b e ts d s
  formed-term _ _ _ _ _ (GR.term r k b x i e d p ts us is a c) s =
      let y = text_split ts (opr x p ∷ us) s in
      expr_form r e.at (M.depth_around (max e.depth d.depth)) _ (λ l. F.infixed r e.at i e.tree d.tree (formed-term r false b e ts a y.0) (formed-unary r k false d us c y.1.1))

  formed-sum : (r k b : Bool) (e : Form Expr) (ts : Text) → GR.Sum r k b e ts → Sound ts → FormedExpr r e.tree
  formed-sum _ _ _ _ _ (GR.one_term r k b e ts d) s = formed-term r k b e ts d s
  formed-sum _ _ _ _ _ (GR.sum r k b x i e d p ts us is a c) s =
      let y = text_split ts (opr x p ∷ us) s in
      expr_form r e.at (M.depth_around (max e.depth d.depth)) _ (λ l. F.infixed r e.at i e.tree d.tree (formed-sum r false b e ts a y.0) (formed-term r k false d us c y.1.1))

  formed-comparison : (r k : Bool) (e : Form Expr) (ts : Text) → GR.Comparison r k e ts → Sound ts → FormedExpr r e.tree
  formed-comparison _ _ _ _ (GR.sub r u t p ts us is a c) s =
      let y = text_split ts (opr o.Subtype p ∷ us) s in
      expr_form r (place ts) (M.depth_around (max (type_as_read u).depth (type_as_read t).depth)) _ (λ l. F.sub r (place ts) (type_as_read u).tree (type_as_read t).tree
      (formed_type_as_read u (formed_type u (lexemes ts) a y.0) (left-fits (type_as_read u).depth (type_as_read t).depth l))
      (formed_type_as_read t (formed_type t (lexemes us) c y.1.1) (right-fits (type_as_read u).depth (type_as_read t).depth l)))
  formed-comparison _ _ _ _ (GR.isa r e t p ts us a c) s =
      let y = text_split ts (wrd w.Isa p ∷ us) s in
      expr_form r e.at (M.depth_around (max e.depth (type_as_read t).depth)) _ (λ l. F.isa r e.at e.tree (type_as_read t).tree (formed-sum r false true e ts a y.0) (formed_type_as_read t (formed_type t (lexemes us) c y.1.1) (right-fits e.depth (type_as_read t).depth l)))
  formed-comparison _ _ _ _ (GR.one_sum r k e ts d) s = formed-sum r k true e ts d s
  formed-comparison _ _ _ _ (GR.compare r k x i e d p ts us is a c) s =
      let y = text_split ts (opr x p ∷ us) s in
      expr_form r e.at (M.depth_around (max e.depth d.depth)) _ (λ l. F.infixed r e.at i e.tree d.tree (formed-sum r false true e ts a y.0) (formed-sum r k false d us c y.1.1))

  formed-conjunction : (r k : Bool) (e : Form Expr) (ts : Text) → GR.Conjunction r k e ts → Sound ts → FormedExpr r e.tree
  formed-conjunction _ _ _ _ (GR.one_comparison r k e ts d) s = formed-comparison r k e ts d s
  formed-conjunction _ _ _ _ (GR.both r k e d p ts us a c) s =
      let y = text_split ts (opr o.And p ∷ us) s in
      expr_form r e.at (M.depth_around (max e.depth d.depth)) _ (λ l. F.infixed r e.at _ e.tree d.tree (formed-conjunction r false e ts a y.0) (formed-comparison r k d us c y.1.1))

  formed-disjunction : (r k : Bool) (e : Form Expr) (ts : Text) → GR.Disjunction r k e ts → Sound ts → FormedExpr r e.tree
  formed-disjunction _ _ _ _ (GR.one_conjunction r k e ts d) s = formed-conjunction r k e ts d s
  formed-disjunction _ _ _ _ (GR.either r k e d p ts us a c) s =
      let y = text_split ts (opr o.Or p ∷ us) s in
      expr_form r e.at (M.depth_around (max e.depth d.depth)) _ (λ l. F.infixed r e.at _ e.tree d.tree (formed-disjunction r false e ts a y.0) (formed-conjunction r k d us c y.1.1))

  pub formed_expression : (r : Bool) (e : Form Expr) (ts : Text) → GR.Expression r e ts → Sound ts → FormedExpr r e.tree
  formed_expression _ _ _ (GR.one_disjunction r k e ts d) s = formed-disjunction r k e ts d s
  formed_expression _ _ _ (GR.choice r c a b p q ts us vs d f g) s =
      let y = text_split (ts ++ opr o.Question p ∷ us) (opr o.Colon q ∷ vs) s in
      let z = text_split ts (opr o.Question p ∷ us) y.0 in
      expr_form r c.at (M.depth_around (max c.depth (max a.depth b.depth))) _ (λ l. F.choose r c.at c.tree a.tree b.tree (formed-disjunction r false c ts d z.0) (formed_expression r a us f z.1.1) (formed_expression r b vs g y.1.1))

  formed-branches : (r : Bool) (p : Spot) (x : Branched) (ts : Text) → GR.Branches r p x ts → Sound ts → FormedBranches r x.branches
  formed-branches _ _ _ _ (GR.first_branch r c ss p t ts us d is f) s =
      let y = text_split ts (t ∷ us) s.1 in
      F.more_branches r _ [] (F.branch r p.at c.tree ss.trees (formed_expression r c ts d y.0) (formed-block r ss us f y.1.1)) (F.no_branches r)
  formed-branches _ _ _ _ (GR.next_branch r x c ss p q t ts us vs a d is f) s =
      let y = text_split (ts ++ wrd w.Elseif q ∷ us) (t ∷ vs) s in
      let z = text_split ts (wrd w.Elseif q ∷ us) y.0 in
      branches_behind r x.branches _ (formed-branches r p x ts a z.0) (F.branch r q.at c.tree ss.trees (formed_expression r c us d z.1.1) (formed-block r ss vs f y.1.1))

  formed-statement : (r : Bool) (x : Stmt) (d : ℕ) (ts : Text) → GR.Statement r x d ts → Sound ts → FormedStmt r x
  formed-statement _ _ _ _ (GR.bind r n e p q ts is d) s = F.bind_stmt r (name_in n p) e.tree s.0 (formed_expression r e ts d s.1.1)
  formed-statement _ _ _ _ (GR.return e p ts d) s = F.return_stmt p.at e.tree (formed_expression true e ts d s.1)
  formed-statement _ _ _ _ (GR.return_nothing p) s = F.return_nothing p.at
  formed-statement _ _ _ _ (GR.do_expr r e ts is d) s = F.do_stmt r e.tree (formed_expression r e ts d s)

  formed-block : (r : Bool) (ss : Forms Stmt) (ts : Text) → GR.Block r ss ts → Sound ts → FormedStmts r ss.trees
  formed-block _ _ _ (GR.block_before r ss ts d) s = formed-stmts-before r ss ts d s
  formed-block _ _ _ (GR.block_after r ss ts d) s = formed-stmts-after r ss ts d s

  formed-stmts-before : (r : Bool) (ss : Forms Stmt) (ts : Text) → GR.StmtsBefore r ss ts → Sound ts → FormedStmts r ss.trees
  formed-stmts-before _ _ _ (GR.no_stmts r) s = F.no_stmts r
  formed-stmts-before _ _ _ (GR.stmts_again r ss t ts d is) s = formed-stmts-before r ss ts d (text_split ts (t ∷ []) s).0
  formed-stmts-before _ _ _ (GR.stmts_apart r ss t ts d is) s = formed-stmts-after r ss ts d (text_split ts (t ∷ []) s).0

  formed-stmts-after : (r : Bool) (ss : Forms Stmt) (ts : Text) → GR.StmtsAfter r ss ts → Sound ts → FormedStmts r ss.trees
  formed-stmts-after _ _ _ (GR.stmts_one r ss x d ts us a c) s =
      let y = text_split ts us s in
      stmts_behind r ss.trees x (formed-stmts-before r ss ts a y.0) (formed-statement r x d us c y.1)

  pub formed_long : (m : Form Method) (ts : Text) → GR.LongMethod m ts → Sound ts → m.depth ≤ 500 → FormedMethod m.tree
  formed_long _ _ (GR.long h ss p q ts us a c) s l =
      let x = text_split (ts ++ us) (wrd w.End q ∷ []) s.1 in
      let y = text_split ts us x.0 in
      F.long_method h.at h.tree ss.trees (formed_head p.at h ts a y.0 (left-fits h.depth (M.depth_around ss.depth) l)) (formed-block true ss us c y.1)

  pub formed_short : (m : Form Method) (ts : Text) → GR.ShortMethod m ts → Sound ts → m.depth ≤ 500 → FormedMethod m.tree
  formed_short _ _ (GR.short h e p ts us is a c) s l =
      let y = text_split ts (opr o.Assign p ∷ us) s in
      F.short_method h.at h.tree e.tree (formed_head (place ts) h ts a y.0 (left-fits h.depth e.depth l)) (formed_expression true e us c y.1.1)

  formed-evaluated : (x : Eval) (d : ℕ) (ts : Text) → GR.Evaluated x d ts → Sound ts → d ≤ 500 → FormedEval x
  formed-evaluated _ _ _ (GR.evaluated_long m ts d) s l = F.method_eval m.tree (formed_long m ts d s l)
  formed-evaluated _ _ _ (GR.evaluated_short m ts d) s l = F.method_eval m.tree (formed_short m ts d s l)
  formed-evaluated _ _ _ (GR.evaluated_expr e ts is d) s l = F.do_eval e.tree (formed_expression false e ts d s)

  formed-eval-block : (xs : Forms Eval) (ts : Text) → GR.EvalBlock xs ts → Sound ts → xs.depth ≤ 500 → FormedEvals xs.trees
  formed-eval-block _ _ (GR.evals_before xs ts d) s l = formed-evals-before xs ts d s l
  formed-eval-block _ _ (GR.evals_after xs ts d) s l = formed-evals-after xs ts d s l

  formed-evals-before : (xs : Forms Eval) (ts : Text) → GR.EvalsBefore xs ts → Sound ts → xs.depth ≤ 500 → FormedEvals xs.trees
  formed-evals-before _ _ GR.no_evals s l = F.no_evals
  formed-evals-before _ _ (GR.evals_again xs t ts d is) s l = formed-evals-before xs ts d (text_split ts (t ∷ []) s).0 l
  formed-evals-before _ _ (GR.evals_apart xs t ts d is) s l = formed-evals-after xs ts d (text_split ts (t ∷ []) s).0 l

  formed-evals-after : (xs : Forms Eval) (ts : Text) → GR.EvalsAfter xs ts → Sound ts → xs.depth ≤ 500 → FormedEvals xs.trees
  formed-evals-after _ _ (GR.evals_one xs x d ts us a c) s l =
      let y = text_split ts us s in
      let f = both_fit xs.depth d l in
      evals_behind xs.trees x (formed-evals-before xs ts a y.0 f.0) (formed-evaluated x d us c y.1 f.1)
