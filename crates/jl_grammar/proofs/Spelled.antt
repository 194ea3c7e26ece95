-- What the grammar spells is read: expressions, blocks and methods.
use Rattle.std.proofs.Common.{ℕ, Bool, true, false}
use Rattle.jl_grammar.specs.declared.state.Branched.{Branched}
use Rattle.jl_grammar.specs.declared.state.Form.{Form}
use Rattle.jl_grammar.specs.declared.state.Forms.{Forms}
use Rattle.jl_grammar.specs.declared.tree.Eval.{Eval}
use Rattle.jl_grammar.specs.declared.tree.Expr.{Expr}
use Rattle.jl_grammar.specs.declared.tree.Method.{Method}
use Rattle.jl_grammar.specs.declared.tree.Piece.{Piece}
use Rattle.jl_grammar.specs.declared.tree.Stmt.{Stmt}
use Rattle.jl_grammar.specs.Forms as M
use Rattle.jl_grammar.specs.Grammar as GR
use Rattle.jl_grammar.specs.Texts.{Text, Spot}
use Rattle.jl_grammar.proofs.AreRead.{AtomRead, UnaryRead, TermRead, SumRead, ComparisonRead, ConjunctionRead, DisjunctionRead, ExpressionRead, ArgumentsRead, BracketsRead, PieceRead, PiecesRead, StatementRead, StmtsBeforeRead, BlockRead, BranchesRead, LongRead, ShortRead, EvaluatedRead, EvalsBeforeRead, EvalBlockRead}
use Rattle.jl_grammar.proofs.Operands as A1
use Rattle.jl_grammar.proofs.Operators as A2
use Rattle.jl_grammar.proofs.Blocks as A3
use Rattle.jl_grammar.proofs.Evaluated as A4

mutual
  pub read_atom : (r k b : Bool) (e : Form Expr) (ts : Text) → GR.Atom r k b e ts → AtomRead r k b e ts
  read_atom _ _ _ _ _ (GR.number r b n p) = A1.number_read r b n p
  read_atom _ _ _ _ _ (GR.truth_true r b p) = A1.true_read r b p
  read_atom _ _ _ _ _ (GR.truth_false r b p) = A1.false_read r b p
  read_atom _ _ _ _ _ (GR.nothing r b p) = A1.nothing_read r b p
  read_atom _ _ _ _ _ (GR.name r b n p is nt) = A1.name_read r b n p is nt
  read_atom _ _ _ _ _ (GR.paren r b e p q ts nt d) = A1.paren_read r b e p q ts nt (read_expression r e ts d)
  read_atom _ _ _ _ _ (GR.tuple_none r b p q nt) = A1.tuple_none_read r b p q nt
  read_atom _ _ _ _ _ (GR.tuple_one r b e p q s ts nt d) = A1.tuple_one_read r b e p q s ts nt (read_expression r e ts d)
  read_atom _ _ _ _ _ (GR.tuple r b e d es p q s ts us nt a c) = A1.tuple_read r b e d es p q s ts us nt (read_arguments r es ts a) (read_expression r d us c)
  read_atom _ _ _ _ _ (GR.call r b f es ts us is nt c d) = A1.call_read r b f es ts us is nt c (read_brackets r es us d)
  read_atom _ _ _ _ _ (GR.make r b n p t es ts us is nt c d) = A1.make_read r b n p t es ts us is nt c (read_brackets r es us d)
  read_atom _ _ _ _ _ (GR.if_end r b p q x ts d) = A1.if_end_read r b p q x ts (read_branches r p x ts d)
  read_atom _ _ _ _ _ (GR.if_else r b p q s x ss ts us c d) = A1.if_else_read r b p q s x ss ts us (read_branches r p x ts c) (read_block r ss us d)
  read_atom _ _ _ _ _ (GR.begin_end r b p q ss ts d) = A1.begin_read r b p q ss ts (read_block r ss ts d)
  read_atom _ _ _ _ _ (GR.latest_none r b n m f p q s v z ts is nt c) = A1.latest_none_read r b n m f p q s v z ts is nt c
  read_atom _ _ _ _ _ (GR.latest r b n m f es p q s v y z ts us is nt c d) = A1.latest_read r b n m f es p q s v y z ts us is nt c (read_arguments r es us d)
  read_atom _ _ _ _ _ (GR.delete r b n m f t p q s v x y z w k l ts is nt d) = A1.delete_read r b n m f t p q s v x y z w k l ts is nt d
  read_atom _ _ _ _ _ (GR.spawn r b n m e p q s ts is nt d) = A1.spawn_read r b n m e p q s ts is nt (read_expression false e ts d)
  read_atom _ _ _ _ _ (GR.eval_long r b m p ts d) = A1.eval_long_read r b m p ts (read_long m ts d)
  read_atom _ _ _ _ _ (GR.eval_short r b m p ts d) = A1.eval_short_read r b m p ts (read_short m ts d)
  read_atom _ _ _ _ _ (GR.eval_block r b xs p q s ts d) = A1.eval_block_read r b xs p q s ts (read_eval_block xs ts d)
  read_atom _ _ _ _ _ (GR.eval_expr r b e p ts is d) = A1.eval_expr_read r b e p ts is (read_expression false e ts d)
  read_atom _ _ _ _ _ (GR.eval_quote r b n xs p q s v z ts is nt d) = A1.eval_quote_read r b n xs p q s v z ts is nt (read_eval_block xs ts d)
  read_atom _ _ _ _ _ (GR.fetch r b n e p q s ts is nt d) = A1.fetch_read r b n e p q s ts is nt (read_expression r e ts d)
  read_atom _ _ _ _ _ (GR.print_none r b l n p q s is nt) = A1.print_none_read r b l n p q s is nt
  read_atom _ _ _ _ _ (GR.print r b l n xs p q s ts is nt d) = A1.print_read r b l n xs p q s ts is nt (read_pieces r xs ts d)

  pub read_brackets : (r : Bool) (es : Forms Expr) (ts : Text) → GR.Brackets r es ts → BracketsRead r es ts
  read_brackets _ _ _ (GR.no_arguments r p q) = A1.no_arguments_read r p q
  read_brackets _ _ _ (GR.some_arguments r es p q ts d) = A1.some_arguments_read r es p q ts (read_arguments r es ts d)

  pub read_arguments : (r : Bool) (es : Forms Expr) (ts : Text) → GR.Arguments r es ts → ArgumentsRead r es ts
  read_arguments _ _ _ (GR.one_argument r e ts d) = A1.one_argument_read r e ts (read_expression r e ts d)
  read_arguments _ _ _ (GR.more_arguments r es e p ts us c d) = A1.more_arguments_read r es e p ts us (read_arguments r es ts c) (read_expression r e us d)

  pub read_piece : (r : Bool) (xs ys : Forms Piece) (ts : Text) → GR.PieceText r xs ys ts → PieceRead r xs ys ts
  read_piece _ _ _ _ (GR.string r xs n p) = A1.string_read r xs n p
  read_piece _ _ _ _ (GR.show r xs e ts d) = A1.show_read r xs e ts (read_expression r e ts d)

  pub read_pieces : (r : Bool) (xs : Forms Piece) (ts : Text) → GR.Pieces r xs ts → PiecesRead r xs ts
  read_pieces _ _ _ (GR.one_piece r xs ts d) = read_piece r M.no_forms xs ts d
  read_pieces _ _ _ (GR.more_pieces r xs ys p ts us c d) = A1.more_pieces_read r xs ys p ts us (read_pieces r xs ts c) (read_piece r xs ys us d)

  pub read_post : (r k b : Bool) (e : Form Expr) (ts : Text) → GR.Post r k b e ts → AtomRead r k b e ts
  read_post _ _ _ _ _ (GR.atom r k b e ts d) = read_atom r k b e ts d
  read_post _ _ _ _ _ (GR.field r b e n p q ts d) = A2.field_read r b e n p q ts (read_post r false b e ts d)
  read_post _ _ _ _ _ (GR.part r b e n p q s ts is d) = A2.part_read r b e n p q s ts is (read_post r false b e ts d)

  pub read_unary : (r k b : Bool) (e : Form Expr) (ts : Text) → GR.Unary r k b e ts → UnaryRead r k b e ts
  read_unary _ _ _ _ _ (GR.post r k b e ts d) = A2.post_read r k b e ts (read_post r k b e ts d)
  read_unary _ _ _ _ _ (GR.prefix r k b x u e p ts is d) = A2.prefix_read r k b x u e p ts is (read_unary r k false e ts d)

  pub read_term : (r k b : Bool) (e : Form Expr) (ts : Text) → GR.Term r k b e ts → TermRead r k b e ts
  read_term _ _ _ _ _ (GR.unary r k b e ts d) = A2.unary_read r k b e ts (read_unary r k b e ts d)
  read_term _ _ _ _ _ (GR.term r k b x i e d p ts us is c a) = A2.term_read r k b x i e d p ts us is (read_term r false b e ts c) (read_unary r k false d us a)

  pub read_sum : (r k b : Bool) (e : Form Expr) (ts : Text) → GR.Sum r k b e ts → SumRead r k b e ts
  read_sum _ _ _ _ _ (GR.one_term r k b e ts d) = A2.one_term_read r k b e ts (read_term r k b e ts d)
  read_sum _ _ _ _ _ (GR.sum r k b x i e d p ts us is c a) = A2.sum_read r k b x i e d p ts us is (read_sum r false b e ts c) (read_term r k false d us a)

  pub read_comparison : (r k : Bool) (e : Form Expr) (ts : Text) → GR.Comparison r k e ts → ComparisonRead r k e ts
  read_comparison _ _ _ _ (GR.sub r s t p ts us is c d) = A2.sub_expr_read r s t p ts us is c d
  read_comparison _ _ _ _ (GR.isa r e t p ts us c d) = A2.isa_expr_read r e t p ts us (read_sum r false true e ts c) d
  read_comparison _ _ _ _ (GR.one_sum r k e ts d) = A2.one_sum_read r k e ts (read_sum r k true e ts d)
  read_comparison _ _ _ _ (GR.compare r k x i e d p ts us is c a) = A2.compare_read r k x i e d p ts us is (read_sum r false true e ts c) (read_sum r k false d us a)

  pub read_conjunction : (r k : Bool) (e : Form Expr) (ts : Text) → GR.Conjunction r k e ts → ConjunctionRead r k e ts
  read_conjunction _ _ _ _ (GR.one_comparison r k e ts d) = A2.one_comparison_read r k e ts (read_comparison r k e ts d)
  read_conjunction _ _ _ _ (GR.both r k e d p ts us c a) = A2.both_read r k e d p ts us (read_conjunction r false e ts c) (read_comparison r k d us a)

  pub read_disjunction : (r k : Bool) (e : Form Expr) (ts : Text) → GR.Disjunction r k e ts → DisjunctionRead r k e ts
  read_disjunction _ _ _ _ (GR.one_conjunction r k e ts d) = A2.one_conjunction_read r k e ts (read_conjunction r k e ts d)
  read_disjunction _ _ _ _ (GR.either r k e d p ts us c a) = A2.either_read r k e d p ts us (read_disjunction r false e ts c) (read_conjunction r k d us a)

  pub read_expression : (r : Bool) (e : Form Expr) (ts : Text) → GR.Expression r e ts → ExpressionRead r e ts
  read_expression _ _ _ (GR.one_disjunction r k e ts d) = A2.one_disjunction_read r k e ts (read_disjunction r k e ts d)
  read_expression _ _ _ (GR.choice r c a b p q ts us vs d f g) = A2.choice_read r c a b p q ts us vs (read_disjunction r false c ts d) (read_expression r a us f) (read_expression r b vs g)

  pub read_branches : (r : Bool) (p : Spot) (x : Branched) (ts : Text) → GR.Branches r p x ts → BranchesRead r p x ts
  read_branches _ _ _ _ (GR.first_branch r c ss p t ts us d s f) = A3.first_branch_read r c ss p t ts us (read_expression r c ts d) s (read_block r ss us f)
  read_branches _ _ _ _ (GR.next_branch r x c ss p q t ts us vs a d s f) =
      A3.next_branch_read r x c ss p q t ts us vs (read_branches r p x ts a) (read_expression r c us d) s (read_block r ss vs f)

  pub read_statement : (r : Bool) (s : Stmt) (d : ℕ) (ts : Text) → GR.Statement r s d ts → StatementRead r s d ts
  read_statement _ _ _ _ (GR.bind r n e p q ts is d) = A3.bind_read r n e p q ts is (read_expression r e ts d)
  read_statement _ _ _ _ (GR.return e p ts d) = A3.return_read e p ts (read_expression true e ts d)
  read_statement _ _ _ _ (GR.return_nothing p) = A3.return_nothing_read p
  read_statement _ _ _ _ (GR.do_expr r e ts is d) = A3.do_read r e ts is (read_expression r e ts d)

  pub read_block : (r : Bool) (ss : Forms Stmt) (ts : Text) → GR.Block r ss ts → BlockRead r ss ts
  read_block _ _ _ (GR.block_before r ss ts d) = A3.block_before_read r ss ts (read_stmts_before r ss ts d)
  read_block _ _ _ (GR.block_after r ss ts d) = read_stmts_after r ss ts d

  pub read_stmts_before : (r : Bool) (ss : Forms Stmt) (ts : Text) → GR.StmtsBefore r ss ts → StmtsBeforeRead r ss ts
  read_stmts_before _ _ _ (GR.no_stmts r) = A3.no_stmts_read r
  read_stmts_before _ _ _ (GR.stmts_again r ss t ts d s) = A3.stmts_again_read r ss t ts (read_stmts_before r ss ts d) s
  read_stmts_before _ _ _ (GR.stmts_apart r ss t ts d s) = A3.stmts_apart_read r ss t ts (read_stmts_after r ss ts d) s

  pub read_stmts_after : (r : Bool) (ss : Forms Stmt) (ts : Text) → GR.StmtsAfter r ss ts → BlockRead r ss ts
  read_stmts_after _ _ _ (GR.stmts_one r ss s d ts us a c) = A3.stmts_one_read r ss s d ts us (read_stmts_before r ss ts a) (read_statement r s d us c)

  pub read_long : (m : Form Method) (ts : Text) → GR.LongMethod m ts → LongRead m ts
  read_long _ _ (GR.long h ss p q ts us c d) = A3.long_method_read h ss p q ts us c (read_block true ss us d)

  pub read_short : (m : Form Method) (ts : Text) → GR.ShortMethod m ts → ShortRead m ts
  read_short _ _ (GR.short h e p ts us is c d) = A3.short_method_read h e p ts us is c (read_expression true e us d)

  pub read_evaluated : (x : Eval) (d : ℕ) (ts : Text) → GR.Evaluated x d ts → EvaluatedRead x d ts
  read_evaluated _ _ _ (GR.evaluated_long m ts d) = A4.evaluated_long_read m ts (read_long m ts d)
  read_evaluated _ _ _ (GR.evaluated_short m ts d) = A4.evaluated_short_read m ts (read_short m ts d)
  read_evaluated _ _ _ (GR.evaluated_expr e ts is d) = A4.evaluated_expr_read e ts is (read_expression false e ts d)

  pub read_eval_block : (xs : Forms Eval) (ts : Text) → GR.EvalBlock xs ts → EvalBlockRead xs ts
  read_eval_block _ _ (GR.evals_before xs ts d) = A4.evals_before_read xs ts (read_evals_before xs ts d)
  read_eval_block _ _ (GR.evals_after xs ts d) = read_evals_after xs ts d

  pub read_evals_before : (xs : Forms Eval) (ts : Text) → GR.EvalsBefore xs ts → EvalsBeforeRead xs ts
  read_evals_before _ _ GR.no_evals = A4.no_evals_read
  read_evals_before _ _ (GR.evals_again xs t ts d s) = A4.evals_again_read xs t ts (read_evals_before xs ts d) s
  read_evals_before _ _ (GR.evals_apart xs t ts d s) = A4.evals_apart_read xs t ts (read_evals_after xs ts d) s

  pub read_evals_after : (xs : Forms Eval) (ts : Text) → GR.EvalsAfter xs ts → EvalBlockRead xs ts
  read_evals_after _ _ (GR.evals_one xs x d ts us a c) = A4.evals_one_read xs x d ts us (read_evals_before xs ts a) (read_evaluated x d us c)
