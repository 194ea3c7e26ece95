-- In the text of each form of a script, each bracket and each block that begins also ends; and its last token is no
-- operator, so that a newline behind it is not passed over for it.
use Rattle.std.proofs.Common.{◌≡◌, ℕ, ◌⊎◌, inl, inr, Bool, true, false, codes, List, [], ◌∷◌, ◌++◌, Option, refl, sym, ap, append_assoc}
use Rattle.jl_token.specs.declared.token.Operator.{Operator}
use Rattle.jl_token.specs.declared.token.Operator.TheVariants as o
use Rattle.jl_typeread.specs.declared.terminal.Lexeme.{Lexeme}
use Rattle.jl_typeread.specs.declared.terminal.Terminal.TheVariants as S
use Rattle.jl_typeread.specs.declared.terminal.Word.TheVariants as w
use Rattle.jl_grammar.specs.declared.mark.Marked.{Marked}
use Rattle.jl_grammar.specs.declared.state.Branched.{Branched}
use Rattle.jl_grammar.specs.declared.state.Form.{Form}
use Rattle.jl_grammar.specs.declared.state.Forms.{Forms}
use Rattle.jl_grammar.specs.declared.state.TypeForm.{TypeForm}
use Rattle.jl_grammar.specs.declared.state.VarsForm.{VarsForm}
use Rattle.jl_grammar.specs.declared.tree.Callee.{Callee}
use Rattle.jl_grammar.specs.declared.tree.Eval.{Eval}
use Rattle.jl_grammar.specs.declared.tree.Expr.{Expr}
use Rattle.jl_grammar.specs.declared.tree.Field.{Field}
use Rattle.jl_grammar.specs.declared.tree.Head.{Head}
use Rattle.jl_grammar.specs.declared.tree.Header.{Header}
use Rattle.jl_grammar.specs.declared.tree.Infix.{Infix}
use Rattle.jl_grammar.specs.declared.tree.Method.{Method}
use Rattle.jl_grammar.specs.declared.tree.Param.{Param}
use Rattle.jl_grammar.specs.declared.tree.Piece.{Piece}
use Rattle.jl_grammar.specs.declared.tree.Prefix.{Prefix}
use Rattle.jl_grammar.specs.declared.tree.Stmt.{Stmt}
use Rattle.jl_grammar.specs.Forms as M
use Rattle.jl_grammar.specs.Grammar as GR
use Rattle.jl_grammar.specs.Marks.{is_function}
use Rattle.jl_grammar.specs.Texts.{Text, Spot, tok, opr, wrd, nam, Sep, semicolon, newline, lexemes}
use Rattle.jl_print.proofs.Wholes as W
use Rattle.jl_print.proofs.Wholes.{is_neutral, IsApart, RowsText, text-block, text-rows, text-apart, text-form, IsWhole, Closed, none, one, round, square, function, test, begin, quote, WholeText, ClosedText, closed-one, closed-cons, whole-cons, text-two, text-closed, text-within, text-maybe, text-moved}
use Rattle.jl_print.proofs.WholeTypes.{whole_type, whole_where, whole_header}

-- ---- tokens

one-text : (t : Marked) → is_neutral t.lexeme.terminal ≡ true → WholeText (t ∷ [])
one-text t n = one t.lexeme n

cons : (t : Marked) (ls : List Lexeme) → is_neutral t.lexeme.terminal ≡ true → Closed ls → Closed (t.lexeme ∷ ls)
cons t ls n d = closed-cons t.lexeme ls n d

whole : (t : Marked) (ls : List Lexeme) → is_neutral t.lexeme.terminal ≡ true → IsWhole ls → IsWhole (t.lexeme ∷ ls)
whole t ls n d = whole-cons t.lexeme ls n d

pub sep_apart : (t : Marked) → Sep t → IsApart t.lexeme.terminal
sep_apart _ (semicolon p) = W.semicolon
sep_apart _ (newline p) = W.newline

sep : (t : Marked) → Sep t → RowsText (t ∷ [])
sep t s = text-apart t (sep_apart t s)

prefix-neutral : (x : Operator) (u : Prefix) → GR.PrefixOperator x u → is_neutral (S.Operator x) ≡ true
prefix-neutral _ _ GR.minus_prefix = refl
prefix-neutral _ _ GR.not_prefix = refl

term-neutral : (x : Operator) (i : Infix) → GR.TermOperator x i → is_neutral (S.Operator x) ≡ true
term-neutral _ _ GR.times = refl
term-neutral _ _ GR.divide = refl
term-neutral _ _ GR.remainder = refl

sum-neutral : (x : Operator) (i : Infix) → GR.SumOperator x i → is_neutral (S.Operator x) ≡ true
sum-neutral _ _ GR.plus = refl
sum-neutral _ _ GR.minus = refl

comparison-neutral : (x : Operator) (i : Infix) → GR.ComparisonOperator x i → is_neutral (S.Operator x) ≡ true
comparison-neutral _ _ GR.equal = refl
comparison-neutral _ _ GR.not_equal = refl
comparison-neutral _ _ GR.less = refl
comparison-neutral _ _ GR.less_equal = refl
comparison-neutral _ _ GR.greater = refl
comparison-neutral _ _ GR.greater_equal = refl
comparison-neutral _ _ GR.identical = refl
comparison-neutral _ _ GR.not_identical = refl

function-neutral : (x : Operator) → is_function x ≡ true → is_neutral (S.Operator x) ≡ true
function-neutral o.OpenParen e = absurd cc
function-neutral o.OpenBracket e = absurd cc
function-neutral o.OpenBrace e = absurd cc
function-neutral o.CloseParen e = absurd cc
function-neutral o.CloseBracket e = absurd cc
function-neutral o.CloseBrace e = absurd cc
function-neutral x e = refl

-- a form, an operator and a form
infixed : (t : Marked) (ts us : Text) → is_neutral t.lexeme.terminal ≡ true → ClosedText ts → ClosedText us → ClosedText (ts ++ t ∷ us)
infixed t ts us n d e = text-closed ts (t ∷ us) d.0 (cons t (lexemes us) n e)

-- ---- heads

pub whole_callee : (f : Callee) (ts : Text) → GR.CalleeText f ts → WholeText ts
whole_callee _ _ (GR.plain_name n p) = one-text (nam n p) refl
whole_callee _ _ (GR.base_name n p q r) = whole (nam (codes "Base") p) _ refl (whole (opr o.Dot q) _ refl (one-text (nam n r) refl))
whole_callee _ _ (GR.base_operator x p q r s is) =
    whole (nam (codes "Base") p) _ refl (whole (opr o.Dot q) _ refl (whole (opr o.Colon r) _ refl (one-text (opr x s) (function-neutral x is))))

whole_param : (x : Param) (d : ℕ) (ts : Text) → GR.ParamText x d ts → ClosedText ts
whole_param _ _ _ (GR.param_name n p) = closed-one (nam n p).lexeme refl refl
whole_param _ _ _ (GR.param_typed n p q t ts d) = cons (nam n p) _ refl (cons (opr o.HasType q) _ refl (whole_type t _ d))
whole_param _ _ _ (GR.param_unnamed p t ts d) = cons (opr o.HasType p) _ refl (whole_type t _ d)

pub whole_params : (xs : Forms Param) (ts : Text) → GR.ParamsText xs ts → ClosedText ts
whole_params _ _ (GR.one_param x d ts e) = whole_param x d ts e
whole_params _ _ (GR.more_params xs x d p ts us e f) = infixed (opr o.Comma p) ts us refl (whole_params xs ts e) (whole_param x d us f)

pub whole_parens : (xs : Forms Param) (ts : Text) → GR.ParensText xs ts → ClosedText ts
whole_parens _ _ (GR.no_params p q) = text-within (opr o.OpenParen p) (opr o.CloseParen q) [] round none
whole_parens _ _ (GR.some_params xs p q ts d) = text-within (opr o.OpenParen p) (opr o.CloseParen q) ts round (whole_params xs ts d).0

maybe_where : (vs : VarsForm) (ts : Text) → GR.WhereText vs ts → (ts ≡ []) ⊎ ClosedText ts
maybe_where _ _ GR.no_where = inl refl
maybe_where _ _ (GR.some_where vs ts d) = inr (whole_where vs _ d)

pub whole_head : (a : ℕ) (h : Form Head) (ts : Text) → GR.HeadText a h ts → ClosedText ts
whole_head _ _ _ (GR.head_text a f xs vs ts us ws c d e) =
    text-maybe (ts ++ us) ws (text-closed ts us (whole_callee f ts c) (whole_parens xs us d)) (maybe_where vs ws e)

-- ---- expressions, blocks and methods

-- the text of an `if` up to its `end`
pub record Opened (p : Spot) (ts : Text) : Type 0 where
  pub body : Text
  pub is : ts ≡ wrd w.If p ∷ body
  pub inner : RowsText body

pub opened_more : (p : Spot) (ts us : Text) → Opened p ts → RowsText us → Opened p (ts ++ us)
opened_more p ts us d e = record { body = d.body ++ us; is = ap (λ l. l ++ us) d.is; inner = text-rows d.body us d.inner e }

opened-ends : (p q : Spot) (ts : Text) → Opened p ts → ClosedText (ts ++ wrd w.End q ∷ [])
opened-ends p q ts d = text-moved _ _ (ap (λ l. l ++ wrd w.End q ∷ []) (sym d.is)) (text-block (wrd w.If p) (wrd w.End q) d.body test refl d.inner)

mutual
  pub whole_atom : (r k b : Bool) (e : Form Expr) (ts : Text) → GR.Atom r k b e ts → ClosedText ts
  whole_atom _ _ _ _ _ (GR.number r b n p) = closed-one (tok (S.Number n) p).lexeme refl refl
  whole_atom _ _ _ _ _ (GR.truth_true r b p) = closed-one (wrd w.True p).lexeme refl refl
  whole_atom _ _ _ _ _ (GR.truth_false r b p) = closed-one (wrd w.False p).lexeme refl refl
  whole_atom _ _ _ _ _ (GR.nothing r b p) = closed-one (wrd w.Nothing p).lexeme refl refl
  whole_atom _ _ _ _ _ (GR.name r b n p is nt) = closed-one (nam n p).lexeme refl refl
  whole_atom _ _ _ _ _ (GR.paren r b e p q ts nt d) = text-within (opr o.OpenParen p) (opr o.CloseParen q) ts round (whole_expression r e ts d).0
  whole_atom _ _ _ _ _ (GR.tuple_none r b p q nt) = text-within (opr o.OpenParen p) (opr o.CloseParen q) [] round none
  whole_atom _ _ _ _ _ (GR.tuple_one r b e p q s ts nt d) =
      text-moved _ _ (ap (λ l. opr o.OpenParen p ∷ l) (append_assoc ts (opr o.Comma q ∷ []) (opr o.CloseParen s ∷ [])))
      (text-within (opr o.OpenParen p) (opr o.CloseParen s) (ts ++ opr o.Comma q ∷ []) round (text-two ts (opr o.Comma q ∷ []) (whole_expression r e ts d).0 (one-text (opr o.Comma q) refl)))
  whole_atom _ _ _ _ _ (GR.tuple r b e d es p q s ts us nt a c) =
      text-within (opr o.OpenParen p) (opr o.CloseParen s) (ts ++ opr o.Comma q ∷ us) round (infixed (opr o.Comma q) ts us refl (whole_arguments r es ts a) (whole_expression r d us c)).0
  whole_atom _ _ _ _ _ (GR.call r b f es ts us is nt c d) = text-closed ts us (whole_callee f ts c) (whole_brackets r es us d)
  whole_atom _ _ _ _ _ (GR.make r b n p t es ts us is nt c d) = text-closed (nam n p ∷ ts) us (whole_type t _ c).0 (whole_brackets r es us d)
  whole_atom _ _ _ _ _ (GR.if_end r b p q x ts d) = opened-ends p q ts (whole_branches r p x ts d)
  whole_atom _ _ _ _ _ (GR.if_else r b p q s x ss ts us c d) =
      opened-ends p s (ts ++ wrd w.Else q ∷ us) (opened_more p ts (wrd w.Else q ∷ us) (whole_branches r p x ts c) (text-rows (wrd w.Else q ∷ []) us (text-apart (wrd w.Else q) W.no_test) (whole_block r ss us d)))
  whole_atom _ _ _ _ _ (GR.begin_end r b p q ss ts d) = text-block (wrd w.Begin p) (wrd w.End q) ts begin refl (whole_block r ss ts d)
  whole_atom _ _ _ _ _ (GR.latest_none r b n m f p q s v z ts is nt c) =
      cons (nam n p) _ refl (cons (opr o.Dot q) _ refl (cons (nam m s) _ refl (text-within (opr o.OpenParen v) (opr o.CloseParen z) ts round (whole_callee f ts c))))
  whole_atom _ _ _ _ _ (GR.latest r b n m f es p q s v y z ts us is nt c d) =
      cons (nam n p) _ refl (cons (opr o.Dot q) _ refl (cons (nam m s) _ refl (text-within (opr o.OpenParen v) (opr o.CloseParen z) (ts ++ opr o.Comma y ∷ us) round
      (text-two ts (opr o.Comma y ∷ us) (whole_callee f ts c) (whole (opr o.Comma y) _ refl (whole_arguments r es us d).0)))))
  whole_atom _ _ _ _ _ (GR.delete r b n m f t p q s v x y z w k l ts is nt d) =
      cons (nam n p) _ refl (cons (opr o.Dot q) _ refl (cons (nam m s) _ refl
      (text-moved _ _ (ap (λ u. opr o.OpenParen v ∷ nam (codes "which") x ∷ opr o.OpenParen y ∷ nam f z ∷ opr o.Comma w ∷ u) (append_assoc ts (opr o.CloseParen k ∷ []) (opr o.CloseParen l ∷ [])))
      (text-within (opr o.OpenParen v) (opr o.CloseParen l) (nam (codes "which") x ∷ opr o.OpenParen y ∷ (nam f z ∷ opr o.Comma w ∷ ts) ++ opr o.CloseParen k ∷ []) round
      (whole (nam (codes "which") x) _ refl (text-within (opr o.OpenParen y) (opr o.CloseParen k) (nam f z ∷ opr o.Comma w ∷ ts) round (whole (nam f z) _ refl (whole (opr o.Comma w) _ refl (whole_type t _ d).0))).0)))))
  whole_atom _ _ _ _ _ (GR.spawn r b n m e p q s ts is nt d) =
      cons (nam n p) _ refl (cons (opr o.Dot q) _ refl (cons (tok (S.Macro m) s) _ refl (whole_expression false e ts d)))
  whole_atom _ _ _ _ _ (GR.eval_long r b m p ts d) = cons (tok (S.Macro (codes "eval")) p) _ refl (whole_long m ts d)
  whole_atom _ _ _ _ _ (GR.eval_short r b m p ts d) = cons (tok (S.Macro (codes "eval")) p) _ refl (whole_short m ts d)
  whole_atom _ _ _ _ _ (GR.eval_block r b xs p q s ts d) = cons (tok (S.Macro (codes "eval")) p) _ refl (text-block (wrd w.Begin q) (wrd w.End s) ts begin refl (whole_eval_block xs ts d))
  whole_atom _ _ _ _ _ (GR.eval_expr r b e p ts is d) = cons (tok (S.Macro (codes "eval")) p) _ refl (whole_expression false e ts d)
  whole_atom _ _ _ _ _ (GR.eval_quote r b n xs p q s v z ts is nt d) =
      cons (nam n p) _ refl (text-moved _ _ (ap (λ l. opr o.OpenParen q ∷ wrd w.Quote s ∷ l) (append_assoc ts (wrd w.End v ∷ []) (opr o.CloseParen z ∷ [])))
      (text-within (opr o.OpenParen q) (opr o.CloseParen z) (wrd w.Quote s ∷ ts ++ wrd w.End v ∷ []) round (text-block (wrd w.Quote s) (wrd w.End v) ts quote refl (whole_eval_block xs ts d)).0))
  whole_atom _ _ _ _ _ (GR.fetch r b n e p q s ts is nt d) = cons (nam n p) _ refl (text-within (opr o.OpenParen q) (opr o.CloseParen s) ts round (whole_expression r e ts d).0)
  whole_atom _ _ _ _ _ (GR.print_none r b l n p q s is nt) = cons (nam n p) _ refl (text-within (opr o.OpenParen q) (opr o.CloseParen s) [] round none)
  whole_atom _ _ _ _ _ (GR.print r b l n xs p q s ts is nt d) = cons (nam n p) _ refl (text-within (opr o.OpenParen q) (opr o.CloseParen s) ts round (whole_pieces r xs ts d).0)

  pub whole_brackets : (r : Bool) (es : Forms Expr) (ts : Text) → GR.Brackets r es ts → ClosedText ts
  whole_brackets _ _ _ (GR.no_arguments r p q) = text-within (opr o.OpenParen p) (opr o.CloseParen q) [] round none
  whole_brackets _ _ _ (GR.some_arguments r es p q ts d) = text-within (opr o.OpenParen p) (opr o.CloseParen q) ts round (whole_arguments r es ts d).0

  pub whole_arguments : (r : Bool) (es : Forms Expr) (ts : Text) → GR.Arguments r es ts → ClosedText ts
  whole_arguments _ _ _ (GR.one_argument r e ts d) = whole_expression r e ts d
  whole_arguments _ _ _ (GR.more_arguments r es e p ts us c d) = infixed (opr o.Comma p) ts us refl (whole_arguments r es ts c) (whole_expression r e us d)

  pub whole_piece : (r : Bool) (xs ys : Forms Piece) (ts : Text) → GR.PieceText r xs ys ts → ClosedText ts
  whole_piece _ _ _ _ (GR.string r xs n p) = closed-one (tok (S.Text n) p).lexeme refl refl
  whole_piece _ _ _ _ (GR.show r xs e ts d) = whole_expression r e ts d

  pub whole_pieces : (r : Bool) (xs : Forms Piece) (ts : Text) → GR.Pieces r xs ts → ClosedText ts
  whole_pieces _ _ _ (GR.one_piece r xs ts d) = whole_piece r M.no_forms xs ts d
  whole_pieces _ _ _ (GR.more_pieces r xs ys p ts us c d) = infixed (opr o.Comma p) ts us refl (whole_pieces r xs ts c) (whole_piece r xs ys us d)

  pub whole_post : (r k b : Bool) (e : Form Expr) (ts : Text) → GR.Post r k b e ts → ClosedText ts
  whole_post _ _ _ _ _ (GR.atom r k b e ts d) = whole_atom r k b e ts d
  whole_post _ _ _ _ _ (GR.field r b e n p q ts d) = text-closed ts (opr o.Dot p ∷ nam n q ∷ []) (whole_post r false b e ts d).0 (cons (opr o.Dot p) _ refl (closed-one (nam n q).lexeme refl refl))
  whole_post _ _ _ _ _ (GR.part r b e n p q s ts is d) =
      text-closed ts (opr o.OpenBracket p ∷ tok (S.Number n) q ∷ opr o.CloseBracket s ∷ []) (whole_post r false b e ts d).0 (text-within (opr o.OpenBracket p) (opr o.CloseBracket s) (tok (S.Number n) q ∷ []) square (one-text (tok (S.Number n) q) refl))

  pub whole_unary : (r k b : Bool) (e : Form Expr) (ts : Text) → GR.Unary r k b e ts → ClosedText ts
  whole_unary _ _ _ _ _ (GR.post r k b e ts d) = whole_post r k b e ts d
  whole_unary _ _ _ _ _ (GR.prefix r k b x u e p ts is d) = cons (opr x p) _ (prefix-neutral x u is) (whole_unary r k false e ts d)

  pub whole_term : (r k b : Bool) (e : Form Expr) (ts : Text) → GR.Term r k b e ts → ClosedText ts
  whole_term _ _ _ _ _ (GR.unary r k b e ts d) = whole_unary r k b e ts d
  whole_term _ _ _ _ _ (GR.term r k b x i e d p ts us is c a) = infixed (opr x p) ts us (term-neutral x i is) (whole_term r false b e ts c) (whole_unary r k false d us a)

  pub whole_sum : (r k b : Bool) (e : Form Expr) (ts : Text) → GR.Sum r k b e ts → ClosedText ts
  whole_sum _ _ _ _ _ (GR.one_term r k b e ts d) = whole_term r k b e ts d
  whole_sum _ _ _ _ _ (GR.sum r k b x i e d p ts us is c a) = infixed (opr x p) ts us (sum-neutral x i is) (whole_sum r false b e ts c) (whole_term r k false d us a)

  pub whole_comparison : (r k : Bool) (e : Form Expr) (ts : Text) → GR.Comparison r k e ts → ClosedText ts
  whole_comparison _ _ _ _ (GR.sub r s t p ts us is c d) = infixed (opr o.Subtype p) ts us refl (whole_type s _ c) (whole_type t _ d)
  whole_comparison _ _ _ _ (GR.isa r e t p ts us c d) = infixed (wrd w.Isa p) ts us refl (whole_sum r false true e ts c) (whole_type t _ d)
  whole_comparison _ _ _ _ (GR.one_sum r k e ts d) = whole_sum r k true e ts d
  whole_comparison _ _ _ _ (GR.compare r k x i e d p ts us is c a) = infixed (opr x p) ts us (comparison-neutral x i is) (whole_sum r false true e ts c) (whole_sum r k false d us a)

  pub whole_conjunction : (r k : Bool) (e : Form Expr) (ts : Text) → GR.Conjunction r k e ts → ClosedText ts
  whole_conjunction _ _ _ _ (GR.one_comparison r k e ts d) = whole_comparison r k e ts d
  whole_conjunction _ _ _ _ (GR.both r k e d p ts us c a) = infixed (opr o.And p) ts us refl (whole_conjunction r false e ts c) (whole_comparison r k d us a)

  pub whole_disjunction : (r k : Bool) (e : Form Expr) (ts : Text) → GR.Disjunction r k e ts → ClosedText ts
  whole_disjunction _ _ _ _ (GR.one_conjunction r k e ts d) = whole_conjunction r k e ts d
  whole_disjunction _ _ _ _ (GR.either r k e d p ts us c a) = infixed (opr o.Or p) ts us refl (whole_disjunction r false e ts c) (whole_conjunction r k d us a)

  pub whole_expression : (r : Bool) (e : Form Expr) (ts : Text) → GR.Expression r e ts → ClosedText ts
  whole_expression _ _ _ (GR.one_disjunction r k e ts d) = whole_disjunction r k e ts d
  whole_expression _ _ _ (GR.choice r c a b p q ts us vs d f g) =
      infixed (opr o.Colon q) (ts ++ opr o.Question p ∷ us) vs refl (infixed (opr o.Question p) ts us refl (whole_disjunction r false c ts d) (whole_expression r a us f)) (whole_expression r b vs g)

  pub whole_branches : (r : Bool) (p : Spot) (x : Branched) (ts : Text) → GR.Branches r p x ts → Opened p ts
  whole_branches _ _ _ _ (GR.first_branch r c ss p t ts us d s f) = record {
    body = ts ++ t ∷ us;
    is = refl;
    inner = text-rows ts (t ∷ us) (text-form ts (whole_expression r c ts d)) (text-rows (t ∷ []) us (sep t s) (whole_block r ss us f));
  }
  whole_branches _ _ _ _ (GR.next_branch r x c ss p q t ts us vs a d s f) =
      opened_more p (ts ++ wrd w.Elseif q ∷ us) (t ∷ vs)
      (opened_more p ts (wrd w.Elseif q ∷ us) (whole_branches r p x ts a) (text-rows (wrd w.Elseif q ∷ []) us (text-apart (wrd w.Elseif q) W.next_test) (text-form us (whole_expression r c us d))))
      (text-rows (t ∷ []) vs (sep t s) (whole_block r ss vs f))

  pub whole_statement : (r : Bool) (s : Stmt) (d : ℕ) (ts : Text) → GR.Statement r s d ts → ClosedText ts
  whole_statement _ _ _ _ (GR.bind r n e p q ts is d) = cons (nam n p) _ refl (cons (opr o.Assign q) _ refl (whole_expression r e ts d))
  whole_statement _ _ _ _ (GR.return e p ts d) = cons (wrd w.Return p) _ refl (whole_expression true e ts d)
  whole_statement _ _ _ _ (GR.return_nothing p) = closed-one (wrd w.Return p).lexeme refl refl
  whole_statement _ _ _ _ (GR.do_expr r e ts is d) = whole_expression r e ts d

  pub whole_block : (r : Bool) (ss : Forms Stmt) (ts : Text) → GR.Block r ss ts → RowsText ts
  whole_block _ _ _ (GR.block_before r ss ts d) = whole_stmts_before r ss ts d
  whole_block _ _ _ (GR.block_after r ss ts d) = whole_stmts_after r ss ts d

  pub whole_stmts_before : (r : Bool) (ss : Forms Stmt) (ts : Text) → GR.StmtsBefore r ss ts → RowsText ts
  whole_stmts_before _ _ _ (GR.no_stmts r) = W.empty
  whole_stmts_before _ _ _ (GR.stmts_again r ss t ts d s) = text-rows ts (t ∷ []) (whole_stmts_before r ss ts d) (sep t s)
  whole_stmts_before _ _ _ (GR.stmts_apart r ss t ts d s) = text-rows ts (t ∷ []) (whole_stmts_after r ss ts d) (sep t s)

  pub whole_stmts_after : (r : Bool) (ss : Forms Stmt) (ts : Text) → GR.StmtsAfter r ss ts → RowsText ts
  whole_stmts_after _ _ _ (GR.stmts_one r ss s d ts us a c) = text-rows ts us (whole_stmts_before r ss ts a) (text-form us (whole_statement r s d us c))

  pub whole_long : (m : Form Method) (ts : Text) → GR.LongMethod m ts → ClosedText ts
  whole_long _ _ (GR.long h ss p q ts us c d) = text-block (wrd w.Function p) (wrd w.End q) (ts ++ us) function refl (text-rows ts us (text-form ts (whole_head p.at h ts c)) (whole_block true ss us d))

  pub whole_short : (m : Form Method) (ts : Text) → GR.ShortMethod m ts → ClosedText ts
  whole_short _ _ (GR.short h e p ts us is c d) = infixed (opr o.Assign p) ts us refl (whole_head _ h ts c) (whole_expression true e us d)

  pub whole_evaluated : (x : Eval) (d : ℕ) (ts : Text) → GR.Evaluated x d ts → ClosedText ts
  whole_evaluated _ _ _ (GR.evaluated_long m ts d) = whole_long m ts d
  whole_evaluated _ _ _ (GR.evaluated_short m ts d) = whole_short m ts d
  whole_evaluated _ _ _ (GR.evaluated_expr e ts is d) = whole_expression false e ts d

  pub whole_eval_block : (xs : Forms Eval) (ts : Text) → GR.EvalBlock xs ts → RowsText ts
  whole_eval_block _ _ (GR.evals_before xs ts d) = whole_evals_before xs ts d
  whole_eval_block _ _ (GR.evals_after xs ts d) = whole_evals_after xs ts d

  pub whole_evals_before : (xs : Forms Eval) (ts : Text) → GR.EvalsBefore xs ts → RowsText ts
  whole_evals_before _ _ GR.no_evals = W.empty
  whole_evals_before _ _ (GR.evals_again xs t ts d s) = text-rows ts (t ∷ []) (whole_evals_before xs ts d) (sep t s)
  whole_evals_before _ _ (GR.evals_apart xs t ts d s) = text-rows ts (t ∷ []) (whole_evals_after xs ts d) (sep t s)

  pub whole_evals_after : (xs : Forms Eval) (ts : Text) → GR.EvalsAfter xs ts → RowsText ts
  whole_evals_after _ _ (GR.evals_one xs x d ts us a c) = text-rows ts us (whole_evals_before xs ts a) (text-form us (whole_evaluated x d us c))

-- ---- items

maybe_parent : (t : Option TypeForm) (ts : Text) → GR.ParentText t ts → (ts ≡ []) ⊎ ClosedText ts
maybe_parent _ _ GR.no_parent = inl refl
maybe_parent _ _ (GR.some_parent t p ts d) = inr (cons (opr o.Subtype p) _ refl (whole_type t _ d))

maybe_params : (vs : VarsForm) (ts : Text) → GR.TypeParamsText vs ts → (ts ≡ []) ⊎ ClosedText ts
maybe_params _ _ GR.no_type_params = inl refl
maybe_params _ _ (GR.some_type_params vs ts d) = inr (whole_header vs _ d)

pub whole_header_text : (a : ℕ) (h : Form Header) (ts : Text) → GR.HeaderText a h ts → ClosedText ts
whole_header_text _ _ _ (GR.header_text a n p vs t ts us c d) =
    text-maybe (nam n p ∷ ts) us (text-maybe (nam n p ∷ []) ts (closed-one (nam n p).lexeme refl refl) (maybe_params vs ts c)) (maybe_parent t us d)

pub whole_field : (x : Field) (d : ℕ) (ts : Text) → GR.FieldText x d ts → ClosedText ts
whole_field _ _ _ (GR.field_name n p) = closed-one (nam n p).lexeme refl refl
whole_field _ _ _ (GR.field_typed n p q t ts d) = cons (nam n p) _ refl (cons (opr o.HasType q) _ refl (whole_type t _ d))

mutual
  whole_fields_before : (xs : Forms Field) (ts : Text) → GR.FieldsBefore xs ts → RowsText ts
  whole_fields_before _ _ (GR.first_sep t s) = sep t s
  whole_fields_before _ _ (GR.fields_again xs t ts d s) = text-rows ts (t ∷ []) (whole_fields_before xs ts d) (sep t s)
  whole_fields_before _ _ (GR.fields_apart xs t ts d s) = text-rows ts (t ∷ []) (whole_fields_after xs ts d) (sep t s)

  whole_fields_after : (xs : Forms Field) (ts : Text) → GR.FieldsAfter xs ts → RowsText ts
  whole_fields_after _ _ (GR.fields_one xs x d ts us a c) = text-rows ts us (whole_fields_before xs ts a) (text-form us (whole_field x d us c))

pub whole_fields : (xs : Forms Field) (ts : Text) → GR.FieldsText xs ts → RowsText ts
whole_fields _ _ GR.no_fields = W.empty
whole_fields _ _ (GR.fields_before xs ts d) = whole_fields_before xs ts d
whole_fields _ _ (GR.fields_after xs ts d) = whole_fields_after xs ts d
