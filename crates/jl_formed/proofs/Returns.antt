-- What is well formed where no `return` may stand is so where one may: one line a form.
use Rattle.std.proofs.Common.{◌≡◌, Bool, true, false, List, refl, sym, subst}
use Rattle.jl_grammar.specs.declared.tree.Branch.{Branch}
use Rattle.jl_grammar.specs.declared.tree.Expr.{Expr}
use Rattle.jl_grammar.specs.declared.tree.Piece.{Piece}
use Rattle.jl_grammar.specs.declared.tree.Stmt.{Stmt}
use Rattle.jl_grammar.specs.declared.tree.Stmt.TheVariants as S
use Rattle.jl_formed.specs.Formed as F
use Rattle.jl_formed.specs.Formed.{FormedExpr, FormedExprs, FormedBranch, FormedBranches, FormedPiece, FormedPieces, FormedStmt, FormedStmts}

module _ (q : Bool) where
  mutual
    freed-expr : (r : Bool) (x : Expr) → FormedExpr r x → (r ≡ true → q ≡ true) → FormedExpr q x
    freed-expr _ _ (F.number r a n) h = F.number q a n
    freed-expr _ _ (F.truth r a b) h = F.truth q a b
    freed-expr _ _ (F.nothing r a) h = F.nothing q a
    freed-expr _ _ (F.name r a n is) h = F.name q a n is
    freed-expr _ _ (F.paren r a e f) h = F.paren q a e (freed-expr r e f h)
    freed-expr _ _ (F.tuple r a es fs) h = F.tuple q a es (freed-exprs r es fs h)
    freed-expr _ _ (F.call r a c es is fs) h = F.call q a c es is (freed-exprs r es fs h)
    freed-expr _ _ (F.make r a t es is fs) h = F.make q a t es is (freed-exprs r es fs h)
    freed-expr _ _ (F.field r a e x f is) h = F.field q a e x (freed-expr r e f h) is
    freed-expr _ _ (F.part r a e n f is) h = F.part q a e n (freed-expr r e f h) is
    freed-expr _ _ (F.prefixed r a o e f) h = F.prefixed q a o e (freed-expr r e f h)
    freed-expr _ _ (F.infixed r a o e d f g) h = F.infixed q a o e d (freed-expr r e f h) (freed-expr r d g h)
    freed-expr _ _ (F.isa r a e t f is) h = F.isa q a e t (freed-expr r e f h) is
    freed-expr _ _ (F.sub r a s t is are) h = F.sub q a s t is are
    freed-expr _ _ (F.choose r a c e d f g i) h = F.choose q a c e d (freed-expr r c f h) (freed-expr r e g h) (freed-expr r d i h)
    freed-expr _ _ (F.if_end r a bs fs) h = F.if_end q a bs (freed-branches r bs fs h)
    freed-expr _ _ (F.if_else r a bs ss fs gs) h = F.if_else q a bs ss (freed-branches r bs fs h) (freed-stmts r ss gs h)
    freed-expr _ _ (F.begin_end r a ss fs) h = F.begin_end q a ss (freed-stmts r ss fs h)
    freed-expr _ _ (F.latest r a c es is fs) h = F.latest q a c es is (freed-exprs r es fs h)
    freed-expr _ _ (F.delete r a x t is f) h = F.delete q a x t is f
    freed-expr _ _ (F.spawn r a e f) h = F.spawn q a e f
    freed-expr _ _ (F.eval_method r a m f) h = F.eval_method q a m f
    freed-expr _ _ (F.eval_block r a xs fs) h = F.eval_block q a xs fs
    freed-expr _ _ (F.eval_expr r a e f) h = F.eval_expr q a e f
    freed-expr _ _ (F.eval_quote r a xs fs) h = F.eval_quote q a xs fs
    freed-expr _ _ (F.fetch r a e f) h = F.fetch q a e (freed-expr r e f h)
    freed-expr _ _ (F.print r a line ps fs) h = F.print q a line ps (freed-pieces r ps fs h)

    freed-exprs : (r : Bool) (es : List Expr) → FormedExprs r es → (r ≡ true → q ≡ true) → FormedExprs q es
    freed-exprs _ _ (F.no_exprs r) h = F.no_exprs q
    freed-exprs _ _ (F.more_exprs r e es f fs) h = F.more_exprs q e es (freed-expr r e f h) (freed-exprs r es fs h)

    freed-branch : (r : Bool) (b : Branch) → FormedBranch r b → (r ≡ true → q ≡ true) → FormedBranch q b
    freed-branch _ _ (F.branch r a c ss f fs) h = F.branch q a c ss (freed-expr r c f h) (freed-stmts r ss fs h)

    freed-branches : (r : Bool) (bs : List Branch) → FormedBranches r bs → (r ≡ true → q ≡ true) → FormedBranches q bs
    freed-branches _ _ (F.no_branches r) h = F.no_branches q
    freed-branches _ _ (F.more_branches r b bs f fs) h = F.more_branches q b bs (freed-branch r b f h) (freed-branches r bs fs h)

    freed-piece : (r : Bool) (p : Piece) → FormedPiece r p → (r ≡ true → q ≡ true) → FormedPiece q p
    freed-piece _ _ (F.text r a t is) h = F.text q a t is
    freed-piece _ _ (F.show r e f) h = F.show q e (freed-expr r e f h)

    freed-pieces : (r : Bool) (ps : List Piece) → FormedPieces r ps → (r ≡ true → q ≡ true) → FormedPieces q ps
    freed-pieces _ _ (F.no_pieces r) h = F.no_pieces q
    freed-pieces _ _ (F.more_pieces r p ps f fs) h = F.more_pieces q p ps (freed-piece r p f h) (freed-pieces r ps fs h)

    freed-stmt : (r : Bool) (s : Stmt) → FormedStmt r s → (r ≡ true → q ≡ true) → FormedStmt q s
    freed-stmt _ _ (F.bind_stmt r x e is f) h = F.bind_stmt q x e is (freed-expr r e f h)
    freed-stmt _ _ (F.return_stmt a e f) h = subst (λ b. FormedStmt b (S.Return a e)) (sym (h refl)) (F.return_stmt a e f)
    freed-stmt _ _ (F.return_nothing a) h = subst (λ b. FormedStmt b (S.ReturnNothing a)) (sym (h refl)) (F.return_nothing a)
    freed-stmt _ _ (F.do_stmt r e f) h = F.do_stmt q e (freed-expr r e f h)

    freed-stmts : (r : Bool) (ss : List Stmt) → FormedStmts r ss → (r ≡ true → q ≡ true) → FormedStmts q ss
    freed-stmts _ _ (F.no_stmts r) h = F.no_stmts q
    freed-stmts _ _ (F.more_stmts r s ss f fs) h = F.more_stmts q s ss (freed-stmt r s f h) (freed-stmts r ss fs h)

never : false ≡ true → (q : Bool) → q ≡ true
never e q = absurd cc

pub anywhere_expr : (r : Bool) (x : Expr) → FormedExpr false x → FormedExpr r x
anywhere_expr r x f = freed-expr r false x f (λ e. never e r)

pub anywhere_stmts : (r : Bool) (ss : List Stmt) → FormedStmts false ss → FormedStmts r ss
anywhere_stmts r ss f = freed-stmts r false ss f (λ e. never e r)
