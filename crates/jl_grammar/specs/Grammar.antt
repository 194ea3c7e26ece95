-- The grammar of scripts. Each rule says which tree, with its depth, stands for which tokens with their marks. `returns` says
-- whether a `return` may stand there, `ends` whether the form ends with an expression of its own and so takes all that could
-- follow, `IsNoTypeStart` whether it stands where a comparison begins.
use Rattle.std.specs.Prelude.{ℕ, ℤ, pos, int_le, Bool, true, false, List, [], ◌∷◌, ◌++◌, ◌≡◌, codes, Option, Some, None}
use Rattle.jl_token.specs.declared.token.Operator.{Operator}
use Rattle.jl_token.specs.declared.token.Operator.TheVariants as o
use Rattle.jl_typeread.specs.declared.terminal.Terminal.TheVariants as S
use Rattle.jl_typeread.specs.declared.terminal.Word.TheVariants as w
use Rattle.jl_typeread.specs.declared.tree.TypeText.{TypeText}
use Rattle.jl_typeread.specs.declared.tree.VarText.{VarText}
use Rattle.jl_grammar.specs.declared.mark.Marked.{Marked}
use Rattle.jl_grammar.specs.declared.mark.Opening.TheVariants as O
use Rattle.jl_grammar.specs.declared.state.Branched.{Branched}
use Rattle.jl_grammar.specs.declared.state.Called.TheVariants as C
use Rattle.jl_grammar.specs.declared.state.Form.{Form}
use Rattle.jl_grammar.specs.declared.state.Forms.{Forms}
use Rattle.jl_grammar.specs.declared.state.ItemsRead.{ItemsRead}
use Rattle.jl_grammar.specs.declared.state.PrefixAt.{PrefixAt}
use Rattle.jl_grammar.specs.declared.state.VarsForm.{VarsForm}
use Rattle.jl_grammar.specs.declared.state.TypeForm.{TypeForm}
use Rattle.jl_grammar.specs.declared.tree.Callee.{Callee}
use Rattle.jl_grammar.specs.declared.tree.Callee.TheVariants as F
use Rattle.jl_grammar.specs.declared.tree.Eval.{Eval}
use Rattle.jl_grammar.specs.declared.tree.Eval.TheVariants as V
use Rattle.jl_grammar.specs.declared.tree.Expr.{Expr}
use Rattle.jl_grammar.specs.declared.tree.Field.{Field}
use Rattle.jl_grammar.specs.declared.tree.Head.{Head}
use Rattle.jl_grammar.specs.declared.tree.Header.{Header}
use Rattle.jl_grammar.specs.declared.tree.Infix.{Infix}
use Rattle.jl_grammar.specs.declared.tree.Infix.TheVariants as I
use Rattle.jl_grammar.specs.declared.tree.Item.{Item}
use Rattle.jl_grammar.specs.declared.tree.Method.{Method}
use Rattle.jl_grammar.specs.declared.tree.Name.{Name}
use Rattle.jl_grammar.specs.declared.tree.Param.{Param}
use Rattle.jl_grammar.specs.declared.tree.Param.TheVariants as P
use Rattle.jl_grammar.specs.declared.tree.Piece.{Piece}
use Rattle.jl_grammar.specs.declared.tree.Prefix.{Prefix}
use Rattle.jl_grammar.specs.declared.tree.Prefix.TheVariants as U
use Rattle.jl_grammar.specs.declared.tree.Stmt.{Stmt}
use Rattle.jl_grammar.specs.declared.tree.Stmt.TheVariants as T
use Rattle.jl_grammar.specs.Forms as M
use Rattle.jl_grammar.specs.Forms.{no_vars}
use Rattle.jl_grammar.specs.Marks.{is_function}
use Rattle.jl_grammar.specs.Types.{type_as_read, vars_as_read, IsType, IsWhere, IsParams}
use Rattle.jl_grammar.specs.Texts.{Text, Spot, tok, opr, wrd, nam, name_in, Sep, lexemes, is_plain, is_left_type, is_item_start, is_stmt_start, is_eval_start, is_evaluated_start, OpensAs, IsMethodStart, IsNoTypeStart, IsSubStart, IsPrint, IsBindingName}

-- ---- operators

-- "-" | "!"
pub data PrefixOperator : Operator → Prefix → Type 0 where
  minus_prefix : PrefixOperator o.Minus U.Minus
  not_prefix : PrefixOperator o.Not U.Not

-- cop
pub data ComparisonOperator : Operator → Infix → Type 0 where
  equal : ComparisonOperator o.Equal I.Equal
  not_equal : ComparisonOperator o.NotEqual I.NotEqual
  less : ComparisonOperator o.Less I.Less
  less_equal : ComparisonOperator o.LessEqual I.LessEqual
  greater : ComparisonOperator o.Greater I.Greater
  greater_equal : ComparisonOperator o.GreaterEqual I.GreaterEqual
  identical : ComparisonOperator o.Identical I.Identical
  not_identical : ComparisonOperator o.NotIdentical I.NotIdentical

-- "+" | "-"
pub data SumOperator : Operator → Infix → Type 0 where
  plus : SumOperator o.Plus I.Plus
  minus : SumOperator o.Minus I.Minus

-- "*" | "÷" | "%"
pub data TermOperator : Operator → Infix → Type 0 where
  times : TermOperator o.Times I.Times
  divide : TermOperator o.Divide I.Divide
  remainder : TermOperator o.Remainder I.Remainder

-- ---- heads of methods

-- fname = name | "Base" "." name | "Base" "." ":" op
pub data CalleeText : Callee → Text → Type 0 where
  plain_name : (n : List ℕ) (p : Spot) → CalleeText (F.Plain (name_in n p)) (nam n p ∷ [])
  base_name : (n : List ℕ) (p q r : Spot) → CalleeText (F.Base p.at (name_in n r)) (nam (codes "Base") p ∷ opr o.Dot q ∷ nam n r ∷ [])
  base_operator : (x : Operator) (p q r s : Spot) → is_function x ≡ true →
      CalleeText (F.Operator p.at x) (nam (codes "Base") p ∷ opr o.Dot q ∷ opr o.Colon r ∷ opr x s ∷ [])

-- param = name | name "::" type | "::" type
pub data ParamText : Param → ℕ → Text → Type 0 where
  param_name : (n : List ℕ) (p : Spot) → ParamText (P.Name (name_in n p)) 0 (nam n p ∷ [])
  param_typed : (n : List ℕ) (p q : Spot) (t : TypeText) (ts : Text) → IsType t ts →
      ParamText (P.Typed (name_in n p) (type_as_read t).tree) (type_as_read t).depth (nam n p ∷ opr o.HasType q ∷ ts)
  param_unnamed : (p : Spot) (t : TypeText) (ts : Text) → IsType t ts →
      ParamText (P.Unnamed p.at (type_as_read t).tree) (type_as_read t).depth (opr o.HasType p ∷ ts)

-- param {"," param}
pub data ParamsText : Forms Param → Text → Type 0 where
  one_param : (x : Param) (d : ℕ) (ts : Text) → ParamText x d ts → ParamsText (M.with_form M.no_forms x d) ts
  more_params : (xs : Forms Param) (x : Param) (d : ℕ) (p : Spot) (ts us : Text) → ParamsText xs ts → ParamText x d us →
      ParamsText (M.with_form xs x d) (ts ++ opr o.Comma p ∷ us)

-- "(" [param {"," param}] ")"
pub data ParensText : Forms Param → Text → Type 0 where
  no_params : (p q : Spot) → ParensText M.no_forms (opr o.OpenParen p ∷ opr o.CloseParen q ∷ [])
  some_params : (xs : Forms Param) (p q : Spot) (ts : Text) → ParamsText xs ts → ParensText xs (opr o.OpenParen p ∷ ts ++ opr o.CloseParen q ∷ [])

-- [where]
pub data WhereText : VarsForm → Text → Type 0 where
  no_where : WhereText no_vars []
  some_where : (vs : List VarText) (ts : Text) → IsWhere vs ts → WhereText (vars_as_read vs) ts

-- head [where]
pub data HeadText : ℕ → Form Head → Text → Type 0 where
  head_text : (at : ℕ) (f : Callee) (xs : Forms Param) (vs : VarsForm) (ts us ws : Text) →
      CalleeText f ts → ParensText xs us → WhereText vs ws → HeadText at (M.head at f xs vs) (ts ++ us ++ ws)

-- where the first token stands
abbrev pub place : Text → ℕ
place [] = 0
place (t ∷ ts) = t.lexeme.at

-- ---- expressions, blocks and methods

mutual
  -- atom
  pub data Atom : Bool → Bool → Bool → Form Expr → Text → Type 0 where
    number : (r b : Bool) (n : ℤ) (p : Spot) → Atom r false b (M.number p.at n) (tok (S.Number n) p ∷ [])
    truth_true : (r b : Bool) (p : Spot) → Atom r false b (M.truth p.at true) (wrd w.True p ∷ [])
    truth_false : (r b : Bool) (p : Spot) → Atom r false b (M.truth p.at false) (wrd w.False p ∷ [])
    nothing : (r b : Bool) (p : Spot) → Atom r false b (M.nothing p.at) (wrd w.Nothing p ∷ [])
    name : (r b : Bool) (n : List ℕ) (p : Spot) → is_plain p.marks.opening ≡ true → is_left_type b p.marks.ahead ≡ false →
        Atom r false b (M.name p.at n) (nam n p ∷ [])
    -- "(" expr ")"
    paren : (r b : Bool) (e : Form Expr) (p q : Spot) (ts : Text) → is_left_type b p.marks.ahead ≡ false → Expression r e ts →
        Atom r false b (M.paren p.at e) (opr o.OpenParen p ∷ ts ++ opr o.CloseParen q ∷ [])
    -- tuple
    tuple_none : (r b : Bool) (p q : Spot) → is_left_type b p.marks.ahead ≡ false →
        Atom r false b (M.tuple p.at M.no_forms) (opr o.OpenParen p ∷ opr o.CloseParen q ∷ [])
    tuple_one : (r b : Bool) (e : Form Expr) (p q s : Spot) (ts : Text) → is_left_type b p.marks.ahead ≡ false → Expression r e ts →
        Atom r false b (M.tuple p.at (M.with_expr M.no_forms e)) (opr o.OpenParen p ∷ ts ++ opr o.Comma q ∷ opr o.CloseParen s ∷ [])
    tuple : (r b : Bool) (e d : Form Expr) (es : Forms Expr) (p q s : Spot) (ts us : Text) → is_left_type b p.marks.ahead ≡ false →
        Arguments r es ts → Expression r d us →
        Atom r false b (M.tuple p.at (M.with_expr es d)) (opr o.OpenParen p ∷ (ts ++ opr o.Comma q ∷ us) ++ opr o.CloseParen s ∷ [])
    -- call
    call : (r b : Bool) (f : Callee) (es : Forms Expr) (ts us : Text) → OpensAs O.Call ts → IsNoTypeStart b ts → CalleeText f ts → Brackets r es us →
        Atom r false b (M.call_expr (place ts) (C.Function f) es) (ts ++ us)
    make : (r b : Bool) (n : List ℕ) (p : Spot) (t : TypeText) (es : Forms Expr) (ts us : Text) →
        p.marks.opening ≡ O.Make → is_left_type b p.marks.ahead ≡ false → IsType t (nam n p ∷ ts) → Brackets r es us →
        Atom r false b (M.call_expr p.at (C.Type (type_as_read t)) es) ((nam n p ∷ ts) ++ us)
    -- if
    if_end : (r b : Bool) (p q : Spot) (x : Branched) (ts : Text) → Branches r p x ts → Atom r false b (M.if_expr p.at x) (ts ++ wrd w.End q ∷ [])
    if_else : (r b : Bool) (p q s : Spot) (x : Branched) (ss : Forms Stmt) (ts us : Text) → Branches r p x ts → Block r ss us →
        Atom r false b (M.if_else_expr p.at x ss) ((ts ++ wrd w.Else q ∷ us) ++ wrd w.End s ∷ [])
    -- "begin" block "end"
    begin_end : (r b : Bool) (p q : Spot) (ss : Forms Stmt) (ts : Text) → Block r ss ts →
        Atom r false b (M.begin_expr p.at ss) ((wrd w.Begin p ∷ ts) ++ wrd w.End q ∷ [])
    -- "Base" "." "invokelatest" "(" fname {"," expr} ")"
    latest_none : (r b : Bool) (n m : List ℕ) (f : Callee) (p q s v z : Spot) (ts : Text) → p.marks.opening ≡ O.Latest → is_left_type b p.marks.ahead ≡ false →
        CalleeText f ts → Atom r false b (M.call_expr p.at (C.Latest f) M.no_forms) ((nam n p ∷ opr o.Dot q ∷ nam m s ∷ opr o.OpenParen v ∷ ts) ++ opr o.CloseParen z ∷ [])
    latest : (r b : Bool) (n m : List ℕ) (f : Callee) (es : Forms Expr) (p q s v y z : Spot) (ts us : Text) →
        p.marks.opening ≡ O.Latest → is_left_type b p.marks.ahead ≡ false → CalleeText f ts → Arguments r es us →
        Atom r false b (M.call_expr p.at (C.Latest f) es) (((nam n p ∷ opr o.Dot q ∷ nam m s ∷ opr o.OpenParen v ∷ ts) ++ opr o.Comma y ∷ us) ++ opr o.CloseParen z ∷ [])
    -- "Base" "." "delete_method" "(" "which" "(" name "," type ")" ")"
    delete : (r b : Bool) (n m f : List ℕ) (t : TypeText) (p q s v x y z w k l : Spot) (ts : Text) → p.marks.opening ≡ O.Delete → is_left_type b p.marks.ahead ≡ false →
        IsType t ts → Atom r false b (M.delete_expr p.at (name_in f z) (type_as_read t))
        ((nam n p ∷ opr o.Dot q ∷ nam m s ∷ opr o.OpenParen v ∷ nam (codes "which") x ∷ opr o.OpenParen y ∷ nam f z ∷ opr o.Comma w ∷ ts) ++ opr o.CloseParen k ∷ opr o.CloseParen l ∷ [])
    -- "Threads" "." "@spawn" expr
    spawn : (r b : Bool) (n m : List ℕ) (e : Form Expr) (p q s : Spot) (ts : Text) → p.marks.opening ≡ O.Spawn → is_left_type b p.marks.ahead ≡ false →
        Expression false e ts → Atom r true b (M.spawn_expr p.at e) (nam n p ∷ opr o.Dot q ∷ tok (S.Macro m) s ∷ ts)
    -- "@eval" (method | "begin" eblock "end" | expr)
    eval_long : (r b : Bool) (m : Form Method) (p : Spot) (ts : Text) → LongMethod m ts → Atom r false b (M.eval_method p.at m) (tok (S.Macro (codes "eval")) p ∷ ts)
    eval_short : (r b : Bool) (m : Form Method) (p : Spot) (ts : Text) → ShortMethod m ts → Atom r true b (M.eval_method p.at m) (tok (S.Macro (codes "eval")) p ∷ ts)
    eval_block : (r b : Bool) (xs : Forms Eval) (p q s : Spot) (ts : Text) → EvalBlock xs ts →
        Atom r false b (M.eval_block p.at xs) ((tok (S.Macro (codes "eval")) p ∷ wrd w.Begin q ∷ ts) ++ wrd w.End s ∷ [])
    eval_expr : (r b : Bool) (e : Form Expr) (p : Spot) (ts : Text) → is_evaluated_start ts ≡ true → Expression false e ts →
        Atom r true b (M.eval_expr p.at e) (tok (S.Macro (codes "eval")) p ∷ ts)
    -- "eval" "(" "quote" eblock "end" ")"
    eval_quote : (r b : Bool) (n : List ℕ) (xs : Forms Eval) (p q s v z : Spot) (ts : Text) → p.marks.opening ≡ O.Quote → is_left_type b p.marks.ahead ≡ false →
        EvalBlock xs ts → Atom r false b (M.eval_quote p.at xs) ((nam n p ∷ opr o.OpenParen q ∷ wrd w.Quote s ∷ ts) ++ wrd w.End v ∷ opr o.CloseParen z ∷ [])
    -- "fetch" "(" expr ")"
    fetch : (r b : Bool) (n : List ℕ) (e : Form Expr) (p q s : Spot) (ts : Text) → p.marks.opening ≡ O.Fetch → is_left_type b p.marks.ahead ≡ false →
        Expression r e ts → Atom r false b (M.fetch_expr p.at e) ((nam n p ∷ opr o.OpenParen q ∷ ts) ++ opr o.CloseParen s ∷ [])
    -- ("println" | "print") "(" [piece {"," piece}] ")"
    print_none : (r b l : Bool) (n : List ℕ) (p q s : Spot) → IsPrint p.marks.opening l → is_left_type b p.marks.ahead ≡ false →
        Atom r false b (M.print_expr p.at l M.no_forms) (nam n p ∷ opr o.OpenParen q ∷ opr o.CloseParen s ∷ [])
    print : (r b l : Bool) (n : List ℕ) (xs : Forms Piece) (p q s : Spot) (ts : Text) → IsPrint p.marks.opening l → is_left_type b p.marks.ahead ≡ false →
        Pieces r xs ts → Atom r false b (M.print_expr p.at l xs) ((nam n p ∷ opr o.OpenParen q ∷ ts) ++ opr o.CloseParen s ∷ [])

  -- "(" [expr {"," expr}] ")"
  pub data Brackets : Bool → Forms Expr → Text → Type 0 where
    no_arguments : (r : Bool) (p q : Spot) → Brackets r M.no_forms (opr o.OpenParen p ∷ opr o.CloseParen q ∷ [])
    some_arguments : (r : Bool) (es : Forms Expr) (p q : Spot) (ts : Text) → Arguments r es ts →
        Brackets r es (opr o.OpenParen p ∷ ts ++ opr o.CloseParen q ∷ [])

  -- expr {"," expr}
  pub data Arguments : Bool → Forms Expr → Text → Type 0 where
    one_argument : (r : Bool) (e : Form Expr) (ts : Text) → Expression r e ts → Arguments r (M.with_expr M.no_forms e) ts
    more_arguments : (r : Bool) (es : Forms Expr) (e : Form Expr) (p : Spot) (ts us : Text) → Arguments r es ts → Expression r e us →
        Arguments r (M.with_expr es e) (ts ++ opr o.Comma p ∷ us)

  -- piece = string | expr
  pub data PieceText : Bool → Forms Piece → Forms Piece → Text → Type 0 where
    string : (r : Bool) (xs : Forms Piece) (n : List ℕ) (p : Spot) → PieceText r xs (M.with_text xs p.at n) (tok (S.Text n) p ∷ [])
    show : (r : Bool) (xs : Forms Piece) (e : Form Expr) (ts : Text) → Expression r e ts → PieceText r xs (M.with_show xs e) ts

  -- piece {"," piece}
  pub data Pieces : Bool → Forms Piece → Text → Type 0 where
    one_piece : (r : Bool) (xs : Forms Piece) (ts : Text) → PieceText r M.no_forms xs ts → Pieces r xs ts
    more_pieces : (r : Bool) (xs ys : Forms Piece) (p : Spot) (ts us : Text) → Pieces r xs ts → PieceText r xs ys us → Pieces r ys (ts ++ opr o.Comma p ∷ us)

  -- post = atom {"." name | "[" number "]"}
  pub data Post : Bool → Bool → Bool → Form Expr → Text → Type 0 where
    atom : (r k b : Bool) (e : Form Expr) (ts : Text) → Atom r k b e ts → Post r k b e ts
    field : (r b : Bool) (e : Form Expr) (n : List ℕ) (p q : Spot) (ts : Text) → Post r false b e ts →
        Post r false b (M.field e (name_in n q)) (ts ++ opr o.Dot p ∷ nam n q ∷ [])
    part : (r b : Bool) (e : Form Expr) (n : ℤ) (p q s : Spot) (ts : Text) → int_le (pos 1) n ≡ true → Post r false b e ts →
        Post r false b (M.part e n) (ts ++ opr o.OpenBracket p ∷ tok (S.Number n) q ∷ opr o.CloseBracket s ∷ [])

  -- unary = ("-" | "!") unary | post
  pub data Unary : Bool → Bool → Bool → Form Expr → Text → Type 0 where
    post : (r k b : Bool) (e : Form Expr) (ts : Text) → Post r k b e ts → Unary r k b e ts
    prefix : (r k b : Bool) (x : Operator) (u : Prefix) (e : Form Expr) (p : Spot) (ts : Text) → PrefixOperator x u → Unary r k false e ts →
        Unary r k b (M.prefix_expr (record { at = p.at; prefix = u }) e) (opr x p ∷ ts)

  -- term = unary {("*" | "÷" | "%") unary}
  pub data Term : Bool → Bool → Bool → Form Expr → Text → Type 0 where
    unary : (r k b : Bool) (e : Form Expr) (ts : Text) → Unary r k b e ts → Term r k b e ts
    term : (r k b : Bool) (x : Operator) (i : Infix) (e d : Form Expr) (p : Spot) (ts us : Text) → TermOperator x i → Term r false b e ts → Unary r k false d us →
        Term r k b (M.infix_expr e i d) (ts ++ opr x p ∷ us)

  -- sum = term {("+" | "-") term}
  pub data Sum : Bool → Bool → Bool → Form Expr → Text → Type 0 where
    one_term : (r k b : Bool) (e : Form Expr) (ts : Text) → Term r k b e ts → Sum r k b e ts
    sum : (r k b : Bool) (x : Operator) (i : Infix) (e d : Form Expr) (p : Spot) (ts us : Text) → SumOperator x i → Sum r false b e ts → Term r k false d us →
        Sum r k b (M.infix_expr e i d) (ts ++ opr x p ∷ us)

  -- cmp = type "<:" type | sum "isa" type | sum [cop sum]
  pub data Comparison : Bool → Bool → Form Expr → Text → Type 0 where
    sub : (r : Bool) (s t : TypeText) (p : Spot) (ts us : Text) → IsSubStart ts → IsType s ts → IsType t us →
        Comparison r false (M.sub_expr (place ts) (type_as_read s) (type_as_read t)) (ts ++ opr o.Subtype p ∷ us)
    isa : (r : Bool) (e : Form Expr) (t : TypeText) (p : Spot) (ts us : Text) → Sum r false true e ts → IsType t us →
        Comparison r false (M.isa_expr e (type_as_read t)) (ts ++ wrd w.Isa p ∷ us)
    one_sum : (r k : Bool) (e : Form Expr) (ts : Text) → Sum r k true e ts → Comparison r k e ts
    compare : (r k : Bool) (x : Operator) (i : Infix) (e d : Form Expr) (p : Spot) (ts us : Text) → ComparisonOperator x i → Sum r false true e ts → Sum r k false d us →
        Comparison r k (M.infix_expr e i d) (ts ++ opr x p ∷ us)

  -- and = cmp {"&&" cmp}
  pub data Conjunction : Bool → Bool → Form Expr → Text → Type 0 where
    one_comparison : (r k : Bool) (e : Form Expr) (ts : Text) → Comparison r k e ts → Conjunction r k e ts
    both : (r k : Bool) (e d : Form Expr) (p : Spot) (ts us : Text) → Conjunction r false e ts → Comparison r k d us →
        Conjunction r k (M.infix_expr e I.And d) (ts ++ opr o.And p ∷ us)

  -- or = and {"||" and}
  pub data Disjunction : Bool → Bool → Form Expr → Text → Type 0 where
    one_conjunction : (r k : Bool) (e : Form Expr) (ts : Text) → Conjunction r k e ts → Disjunction r k e ts
    either : (r k : Bool) (e d : Form Expr) (p : Spot) (ts us : Text) → Disjunction r false e ts → Conjunction r k d us →
        Disjunction r k (M.infix_expr e I.Or d) (ts ++ opr o.Or p ∷ us)

  -- expr = or ["?" expr ":" expr]
  pub data Expression : Bool → Form Expr → Text → Type 0 where
    one_disjunction : (r k : Bool) (e : Form Expr) (ts : Text) → Disjunction r k e ts → Expression r e ts
    choice : (r : Bool) (c a b : Form Expr) (p q : Spot) (ts us vs : Text) → Disjunction r false c ts → Expression r a us → Expression r b vs →
        Expression r (M.choose_expr c a b) ((ts ++ opr o.Question p ∷ us) ++ opr o.Colon q ∷ vs)

  -- "if" expr sep block {"elseif" expr sep block}
  pub data Branches : Bool → Spot → Branched → Text → Type 0 where
    first_branch : (r : Bool) (c : Form Expr) (ss : Forms Stmt) (p : Spot) (t : Marked) (ts us : Text) → Expression r c ts → Sep t → Block r ss us →
        Branches r p (M.with_branch M.no_branches p.at c ss) ((wrd w.If p ∷ ts) ++ t ∷ us)
    next_branch : (r : Bool) (x : Branched) (c : Form Expr) (ss : Forms Stmt) (p q : Spot) (t : Marked) (ts us vs : Text) →
        Branches r p x ts → Expression r c us → Sep t → Block r ss vs → Branches r p (M.with_branch x q.at c ss) ((ts ++ wrd w.Elseif q ∷ us) ++ t ∷ vs)

  -- stmt = name "=" expr | "return" [expr] | expr
  pub data Statement : Bool → Stmt → ℕ → Text → Type 0 where
    bind : (r : Bool) (n : List ℕ) (e : Form Expr) (p q : Spot) (ts : Text) → p.marks.opening ≡ O.Binding → Expression r e ts →
        Statement r (T.Bind (name_in n p) e.tree) e.depth (nam n p ∷ opr o.Assign q ∷ ts)
    return : (e : Form Expr) (p : Spot) (ts : Text) → Expression true e ts → Statement true (T.Return p.at e.tree) e.depth (wrd w.Return p ∷ ts)
    return_nothing : (p : Spot) → Statement true (T.ReturnNothing p.at) 0 (wrd w.Return p ∷ [])
    do_expr : (r : Bool) (e : Form Expr) (ts : Text) → is_stmt_start ts ≡ true → Expression r e ts → Statement r (T.Do e.tree) e.depth ts

  -- block = [sep] [stmt {sep stmt}] [sep]
  pub data Block : Bool → Forms Stmt → Text → Type 0 where
    block_before : (r : Bool) (ss : Forms Stmt) (ts : Text) → StmtsBefore r ss ts → Block r ss ts
    block_after : (r : Bool) (ss : Forms Stmt) (ts : Text) → StmtsAfter r ss ts → Block r ss ts

  -- with its separators, so that a statement may follow
  pub data StmtsBefore : Bool → Forms Stmt → Text → Type 0 where
    no_stmts : (r : Bool) → StmtsBefore r M.no_forms []
    stmts_again : (r : Bool) (ss : Forms Stmt) (t : Marked) (ts : Text) → StmtsBefore r ss ts → Sep t → StmtsBefore r ss (ts ++ t ∷ [])
    stmts_apart : (r : Bool) (ss : Forms Stmt) (t : Marked) (ts : Text) → StmtsAfter r ss ts → Sep t → StmtsBefore r ss (ts ++ t ∷ [])

  -- its last statement without a separator
  pub data StmtsAfter : Bool → Forms Stmt → Text → Type 0 where
    stmts_one : (r : Bool) (ss : Forms Stmt) (s : Stmt) (d : ℕ) (ts us : Text) → StmtsBefore r ss ts → Statement r s d us → StmtsAfter r (M.with_form ss s d) (ts ++ us)

  -- "function" head [where] block "end"
  pub data LongMethod : Form Method → Text → Type 0 where
    long : (h : Form Head) (ss : Forms Stmt) (p q : Spot) (ts us : Text) → HeadText p.at h ts → Block true ss us →
        LongMethod (M.long_method h ss) ((wrd w.Function p ∷ ts ++ us) ++ wrd w.End q ∷ [])

  -- head [where] "=" expr
  pub data ShortMethod : Form Method → Text → Type 0 where
    short : (h : Form Head) (e : Form Expr) (p : Spot) (ts us : Text) → IsMethodStart ts → HeadText (place ts) h ts → Expression true e us →
        ShortMethod (M.short_method h e) (ts ++ opr o.Assign p ∷ us)

  -- method | expr
  pub data Evaluated : Eval → ℕ → Text → Type 0 where
    evaluated_long : (m : Form Method) (ts : Text) → LongMethod m ts → Evaluated (V.Method m.tree) m.depth ts
    evaluated_short : (m : Form Method) (ts : Text) → ShortMethod m ts → Evaluated (V.Method m.tree) m.depth ts
    evaluated_expr : (e : Form Expr) (ts : Text) → is_eval_start ts ≡ true → Expression false e ts → Evaluated (V.Do e.tree) e.depth ts

  -- eblock = [sep] [(method | expr) {sep (method | expr)}] [sep]
  pub data EvalBlock : Forms Eval → Text → Type 0 where
    evals_before : (xs : Forms Eval) (ts : Text) → EvalsBefore xs ts → EvalBlock xs ts
    evals_after : (xs : Forms Eval) (ts : Text) → EvalsAfter xs ts → EvalBlock xs ts

  pub data EvalsBefore : Forms Eval → Text → Type 0 where
    no_evals : EvalsBefore M.no_forms []
    evals_again : (xs : Forms Eval) (t : Marked) (ts : Text) → EvalsBefore xs ts → Sep t → EvalsBefore xs (ts ++ t ∷ [])
    evals_apart : (xs : Forms Eval) (t : Marked) (ts : Text) → EvalsAfter xs ts → Sep t → EvalsBefore xs (ts ++ t ∷ [])

  pub data EvalsAfter : Forms Eval → Text → Type 0 where
    evals_one : (xs : Forms Eval) (x : Eval) (d : ℕ) (ts us : Text) → EvalsBefore xs ts → Evaluated x d us → EvalsAfter (M.with_form xs x d) (ts ++ us)

-- ---- items

-- ["<:" type]
pub data ParentText : Option TypeForm → Text → Type 0 where
  no_parent : ParentText None []
  some_parent : (t : TypeText) (p : Spot) (ts : Text) → IsType t ts → ParentText (Some (type_as_read t)) (opr o.Subtype p ∷ ts)

-- [tparams]
pub data TypeParamsText : VarsForm → Text → Type 0 where
  no_type_params : TypeParamsText no_vars []
  some_type_params : (vs : List VarText) (ts : Text) → IsParams vs ts → TypeParamsText (vars_as_read vs) ts

-- name [tparams] ["<:" type]
pub data HeaderText : ℕ → Form Header → Text → Type 0 where
  header_text : (at : ℕ) (n : List ℕ) (p : Spot) (vs : VarsForm) (t : Option TypeForm) (ts us : Text) → TypeParamsText vs ts → ParentText t us →
      HeaderText at (M.header at (name_in n p) vs t) ((nam n p ∷ ts) ++ us)

-- field = name ["::" type]
pub data FieldText : Field → ℕ → Text → Type 0 where
  field_name : (n : List ℕ) (p : Spot) → FieldText (record { name = name_in n p; ty = None }) 0 (nam n p ∷ [])
  field_typed : (n : List ℕ) (p q : Spot) (t : TypeText) (ts : Text) → IsType t ts →
      FieldText (record { name = name_in n p; ty = Some (type_as_read t).tree }) (type_as_read t).depth (nam n p ∷ opr o.HasType q ∷ ts)

-- sep [field {sep field} [sep]]
mutual
  -- with its separators, so that a field may follow
  pub data FieldsBefore : Forms Field → Text → Type 0 where
    first_sep : (t : Marked) → Sep t → FieldsBefore M.no_forms (t ∷ [])
    fields_again : (xs : Forms Field) (t : Marked) (ts : Text) → FieldsBefore xs ts → Sep t → FieldsBefore xs (ts ++ t ∷ [])
    fields_apart : (xs : Forms Field) (t : Marked) (ts : Text) → FieldsAfter xs ts → Sep t → FieldsBefore xs (ts ++ t ∷ [])

  -- its last field without a separator
  pub data FieldsAfter : Forms Field → Text → Type 0 where
    fields_one : (xs : Forms Field) (x : Field) (d : ℕ) (ts us : Text) → FieldsBefore xs ts → FieldText x d us → FieldsAfter (M.with_form xs x d) (ts ++ us)

-- [sep [field {sep field} [sep]]]
pub data FieldsText : Forms Field → Text → Type 0 where
  no_fields : FieldsText M.no_forms []
  fields_before : (xs : Forms Field) (ts : Text) → FieldsBefore xs ts → FieldsText xs ts
  fields_after : (xs : Forms Field) (ts : Text) → FieldsAfter xs ts → FieldsText xs ts

-- item = abstract | struct | method | name "=" expr | expr
pub data ItemText : Form Item → Text → Type 0 where
  -- "abstract" "type" name [tparams] ["<:" type] "end"
  abstract_item : (h : Form Header) (p q s : Spot) (ts : Text) → HeaderText p.at h ts →
      ItemText (M.abstract_item h) ((wrd w.Abstract p ∷ nam (codes "type") q ∷ ts) ++ wrd w.End s ∷ [])
  -- "struct" name [tparams] ["<:" type] [sep [field {sep field} [sep]]] "end"
  struct_item : (h : Form Header) (xs : Forms Field) (p q : Spot) (ts us : Text) → HeaderText p.at h ts → FieldsText xs us →
      ItemText (M.struct_item h xs) ((wrd w.Struct p ∷ ts ++ us) ++ wrd w.End q ∷ [])
  long_item : (m : Form Method) (ts : Text) → LongMethod m ts → ItemText (M.method_item m) ts
  short_item : (m : Form Method) (ts : Text) → ShortMethod m ts → ItemText (M.method_item m) ts
  bind_item : (n : List ℕ) (e : Form Expr) (p q : Spot) (ts : Text) → IsBindingName p → Expression false e ts →
      ItemText (M.binding_item (name_in n p) e) (nam n p ∷ opr o.Assign q ∷ ts)
  expr_item : (e : Form Expr) (ts : Text) → is_item_start ts ≡ true → Expression false e ts → ItemText (M.expr_item e) ts

-- script = [sep] [item {sep item}] [sep]
mutual
  -- with its separators, so that an item may follow
  pub data ItemsBefore : ItemsRead → Text → Type 0 where
    no_items : ItemsBefore M.no_items []
    items_again : (xs : ItemsRead) (t : Marked) (ts : Text) → ItemsBefore xs ts → Sep t → ItemsBefore xs (ts ++ t ∷ [])
    items_apart : (xs : ItemsRead) (t : Marked) (ts : Text) → ItemsAfter xs ts → Sep t → ItemsBefore xs (ts ++ t ∷ [])

  -- its last item without a separator
  pub data ItemsAfter : ItemsRead → Text → Type 0 where
    items_one : (xs : ItemsRead) (x : Form Item) (ts us : Text) → ItemsBefore xs ts → ItemText x us → ItemsAfter (M.with_item xs x) (ts ++ us)

pub data ScriptText : ItemsRead → Text → Type 0 where
  script_before : (xs : ItemsRead) (ts : Text) → ItemsBefore xs ts → ScriptText xs ts
  script_after : (xs : ItemsRead) (ts : Text) → ItemsAfter xs ts → ScriptText xs ts
