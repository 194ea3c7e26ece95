-- The text that a state stands for: what is read so far, form by form.
use Rattle.std.proofs.Common.{ℕ, Bool, true, false, ◌&&◌, codes, List, [], ◌∷◌, ◌++◌, ◌≡◌, Option, Some, None}
use Rattle.jl_token.specs.declared.token.Operator.{Operator}
use Rattle.jl_token.specs.declared.token.Operator.TheVariants as op
use Rattle.jl_typeread.specs.declared.terminal.Terminal.TheVariants as sg
use Rattle.jl_typeread.specs.declared.terminal.Word.TheVariants as wd
use Rattle.jl_typeread.specs.declared.tree.TypeText.{TypeText}
use Rattle.jl_grammar.specs.declared.mark.Marked.{Marked}
use Rattle.jl_grammar.specs.declared.mark.Opening.TheVariants as Op
use Rattle.jl_grammar.specs.declared.state.BlockKind.{BlockKind}
use Rattle.jl_grammar.specs.declared.state.BlockKind.TheVariants as Bl
use Rattle.jl_grammar.specs.declared.state.Branched.{Branched}
use Rattle.jl_grammar.specs.declared.state.Called.{Called}
use Rattle.jl_grammar.specs.declared.state.Called.TheVariants as Ca
use Rattle.jl_grammar.specs.declared.state.EvalKind.{EvalKind}
use Rattle.jl_grammar.specs.declared.state.EvalKind.TheVariants as Ev
use Rattle.jl_grammar.specs.declared.state.Form.{Form}
use Rattle.jl_grammar.specs.declared.state.Forms.{Forms}
use Rattle.jl_grammar.specs.declared.state.Frame.{Frame}
use Rattle.jl_grammar.specs.declared.state.Frame.TheVariants as Fr
use Rattle.jl_grammar.specs.declared.state.ItemsRead.{ItemsRead}
use Rattle.jl_grammar.specs.declared.state.Lead.{Lead}
use Rattle.jl_grammar.specs.declared.state.Lead.TheVariants as Le
use Rattle.jl_grammar.specs.declared.state.Left.{Left}
use Rattle.jl_grammar.specs.declared.state.Levels.{Levels}
use Rattle.jl_grammar.specs.declared.state.Outer.{Outer}
use Rattle.jl_grammar.specs.declared.state.Outer.TheVariants as Ou
use Rattle.jl_grammar.specs.declared.state.Pending.{Pending}
use Rattle.jl_grammar.specs.declared.state.Place.TheVariants as Pl
use Rattle.jl_grammar.specs.declared.state.PrefixAt.{PrefixAt}
use Rattle.jl_grammar.specs.declared.tree.Callee.{Callee}
use Rattle.jl_grammar.specs.declared.tree.Eval.{Eval}
use Rattle.jl_grammar.specs.declared.tree.Expr.{Expr}
use Rattle.jl_grammar.specs.declared.tree.Head.{Head}
use Rattle.jl_grammar.specs.declared.tree.Infix.{Infix}
use Rattle.jl_grammar.specs.declared.tree.Piece.{Piece}
use Rattle.jl_grammar.specs.declared.tree.Prefix.{Prefix}
use Rattle.jl_grammar.specs.declared.tree.Stmt.{Stmt}
use Rattle.jl_grammar.specs.Forms as M
use Rattle.jl_grammar.specs.Grammar.{PrefixOperator, ComparisonOperator, SumOperator, TermOperator, CalleeText, HeadText, place, Arguments, Pieces, Term, Sum, Conjunction, Disjunction, Expression, Branches, StmtsBefore, EvalsBefore, ItemsBefore}
use Rattle.jl_grammar.specs.Levels.{no_levels, no_left, is_comparison_start}
use Rattle.jl_grammar.specs.Turns.{is_return_allowed}
use Rattle.jl_grammar.specs.Texts as Tx
use Rattle.jl_grammar.specs.Texts.{Text, Spot, tok, opr, wrd, nam, name_in, Sep, lexemes, is_method, is_sub, is_binding, is_plain, is_left_type, is_item_name, is_item_terminal, is_item_start, is_stmt_name, is_stmt_terminal, is_stmt_start, is_eval_name, is_eval_terminal, is_eval_start, is_evaluated_terminal, is_evaluated_start, OpensAs, IsMethodStart, IsSubStart, IsPrint, IsBindingName}
use Rattle.jl_grammar.specs.Types.{type_as_read, IsType}

-- ---- what a form may begin with

-- which rule is chosen where a form begins
pub data Choice : Type 0 where
  any_form : Choice
  item_form : Choice
  stmt_form : Choice
  eval_form : Choice
  evaluated_form : Choice

-- the first token is one that the rule wants
abbrev pub Starts : Choice → Text → Type 0
Starts any_form ts = Unit {0}
Starts item_form ts = is_item_start ts ≡ true
Starts stmt_form ts = is_stmt_start ts ≡ true
Starts eval_form ts = is_eval_start ts ≡ true
Starts evaluated_form ts = is_evaluated_start ts ≡ true

-- ---- the operators before an operand

pub data PrefixesText : List PrefixAt → Text → Type 0 where
  no_prefixes : PrefixesText [] []
  one_prefix : (x : Operator) (u : Prefix) (p : Spot) (ps : List PrefixAt) (ts : Text) → PrefixOperator x u → PrefixesText ps ts →
      PrefixesText (record { at = p.at; prefix = u } ∷ ps) (ts ++ opr x p ∷ [])

pub data TermPart : Bool → Bool → Option Left → Text → Type 0 where
  no_term : (r b : Bool) → TermPart r b None []
  a_term : (r b : Bool) (x : Operator) (i : Infix) (e : Form Expr) (p : Spot) (ts : Text) → TermOperator x i → Term r false b e ts →
      TermPart r b (Some (record { left = e; operator = i })) (ts ++ opr x p ∷ [])

pub data SumPart : Bool → Bool → Option Left → Text → Type 0 where
  no_sum : (r b : Bool) → SumPart r b None []
  a_sum : (r b : Bool) (x : Operator) (i : Infix) (e : Form Expr) (p : Spot) (ts : Text) → SumOperator x i → Sum r false b e ts →
      SumPart r b (Some (record { left = e; operator = i })) (ts ++ opr x p ∷ [])

pub data ComparisonPart : Bool → Option Left → Text → Type 0 where
  no_comparison : (r : Bool) → ComparisonPart r None []
  a_comparison : (r : Bool) (x : Operator) (i : Infix) (e : Form Expr) (p : Spot) (ts : Text) → ComparisonOperator x i → Sum r false true e ts →
      ComparisonPart r (Some (record { left = e; operator = i })) (ts ++ opr x p ∷ [])

pub data AndPart : Bool → Option (Form Expr) → Text → Type 0 where
  no_and : (r : Bool) → AndPart r None []
  an_and : (r : Bool) (e : Form Expr) (p : Spot) (ts : Text) → Conjunction r false e ts → AndPart r (Some e) (ts ++ opr op.And p ∷ [])

pub data OrPart : Bool → Option (Form Expr) → Text → Type 0 where
  no_or : (r : Bool) → OrPart r None []
  an_or : (r : Bool) (e : Form Expr) (p : Spot) (ts : Text) → Disjunction r false e ts → OrPart r (Some e) (ts ++ opr op.Or p ∷ [])

-- those of `||` and `&&`
pub data TopText : Bool → Levels → Text → Type 0 where
  top_text : (r : Bool) (ls : Levels) (os ns : Text) → OrPart r ls.or os → AndPart r ls.and ns → TopText r ls (os ++ ns)

-- all of them
pub data LevelsText : Bool → Levels → Text → Type 0 where
  levels_text : (r : Bool) (ls : Levels) (ts cs ss ms ps : Text) → TopText r ls ts → ComparisonPart r ls.comparison cs → SumPart r (no_left ls.comparison) ls.sum ss →
      TermPart r (no_left ls.comparison && no_left ls.sum) ls.term ms → PrefixesText ls.prefixes ps → LevelsText r ls (ts ++ (cs ++ (ss ++ (ms ++ ps))))

-- ---- forms that end where the expression in them ends; what their expression must begin with

pub data OutersText : Choice → Bool → List Outer → Choice → Bool → Text → Type 0 where
  no_outer : (c : Choice) (y : Bool) → OutersText c y [] c y []
  in_spawn : (c d : Choice) (y r : Bool) (os : List Outer) (ls : Levels) (n m : List ℕ) (p q s : Spot) (ts us : Text) → OutersText c y os d r ts → LevelsText r ls us →
      Starts d (us ++ nam n p ∷ []) → p.marks.opening ≡ Op.Spawn → is_left_type (is_comparison_start ls) p.marks.ahead ≡ false →
      OutersText c y (Ou.Spawn ls p.at ∷ os) any_form false (ts ++ (us ++ nam n p ∷ opr op.Dot q ∷ tok (sg.Macro m) s ∷ []))
  in_eval : (c d : Choice) (y r : Bool) (os : List Outer) (ls : Levels) (p : Spot) (ts us : Text) → OutersText c y os d r ts → LevelsText r ls us →
      Starts d (us ++ tok (sg.Macro (codes "eval")) p ∷ []) → OutersText c y (Ou.Eval ls p.at ∷ os) evaluated_form false (ts ++ (us ++ tok (sg.Macro (codes "eval")) p ∷ []))
  in_short : (c d : Choice) (y r : Bool) (os : List Outer) (ls : Levels) (h : Form Head) (p q : Spot) (ts us vs : Text) → OutersText c y os d r ts → LevelsText r ls us →
      Starts d (us ++ tok (sg.Macro (codes "eval")) p ∷ []) → IsMethodStart vs → HeadText (place vs) h vs →
      OutersText c y (Ou.Short ls p.at h ∷ os) any_form true (ts ++ (us ++ (tok (sg.Macro (codes "eval")) p ∷ (vs ++ opr op.Assign q ∷ []))))
  in_otherwise : (c d : Choice) (y r : Bool) (os : List Outer) (e a : Form Expr) (p q : Spot) (ts us vs : Text) → OutersText c y os d r ts → Disjunction r false e us →
      Starts d us → Expression r a vs → OutersText c y (Ou.Otherwise e a ∷ os) any_form r (ts ++ ((us ++ (opr op.Question p ∷ vs)) ++ opr op.Colon q ∷ []))

-- ---- how a statement begins

-- what the name of a binding must be marked as
abbrev pub Binds : Choice → Spot → Type 0
Binds item_form p = IsBindingName p
Binds stmt_form p = p.marks.opening ≡ Op.Binding
Binds c p = ⊥

-- an item or an evaluated statement may be a method
abbrev pub Defines : Choice → Type 0
Defines item_form = Unit {0}
Defines eval_form = Unit {0}
Defines c = ⊥

pub data LeadText : Choice → Bool → Lead → Choice → Bool → Text → Type 0 where
  lead_plain : (c : Choice) (r : Bool) → LeadText c r Le.Plain c r []
  lead_bind : (c : Choice) (r : Bool) (n : List ℕ) (p q : Spot) → Binds c p → LeadText c r (Le.Bind (name_in n p)) any_form r (nam n p ∷ opr op.Assign q ∷ [])
  lead_return : (p : Spot) → LeadText stmt_form true (Le.Return p.at) any_form true (wrd wd.Return p ∷ [])
  lead_short : (c : Choice) (r : Bool) (h : Form Head) (p : Spot) (ts : Text) → Defines c → IsMethodStart ts → HeadText (place ts) h ts →
      LeadText c r (Le.Short h) any_form true (ts ++ opr op.Assign p ∷ [])

-- ---- open brackets and blocks

-- up to where the next argument may begin; whether the arguments may end before one
pub data CalledText : Bool → Bool → ℕ → Called → Text → Type 0 where
  called_function : (b : Bool) (f : Callee) (q : Spot) (ts : Text) → OpensAs Op.Call ts → Tx.IsNoTypeStart b ts → CalleeText f ts →
      CalledText true b (place ts) (Ca.Function f) (ts ++ opr op.OpenParen q ∷ [])
  called_type : (b : Bool) (n : List ℕ) (t : TypeText) (p q : Spot) (ts : Text) → p.marks.opening ≡ Op.Make → is_left_type b p.marks.ahead ≡ false → IsType t (nam n p ∷ ts) →
      CalledText true b p.at (Ca.Type (type_as_read t)) ((nam n p ∷ ts) ++ opr op.OpenParen q ∷ [])
  called_latest : (b : Bool) (n m : List ℕ) (f : Callee) (p q s v y : Spot) (ts : Text) → p.marks.opening ≡ Op.Latest → is_left_type b p.marks.ahead ≡ false → CalleeText f ts →
      CalledText false b p.at (Ca.Latest f) ((nam n p ∷ opr op.Dot q ∷ nam m s ∷ opr op.OpenParen v ∷ ts) ++ opr op.Comma y ∷ [])

pub data ArgumentsPart : Bool → Forms Expr → Text → Type 0 where
  no_arguments_yet : (r : Bool) → ArgumentsPart r M.no_forms []
  some_arguments_yet : (r : Bool) (es : Forms Expr) (p : Spot) (ts : Text) → Arguments r es ts → ArgumentsPart r es (ts ++ opr op.Comma p ∷ [])

pub data PiecesPart : Bool → Forms Piece → Text → Type 0 where
  no_pieces_yet : (r : Bool) → PiecesPart r M.no_forms []
  some_pieces_yet : (r : Bool) (ps : Forms Piece) (p : Spot) (ts : Text) → Pieces r ps ts → PiecesPart r ps (ts ++ opr op.Comma p ∷ [])

-- `print(` and `println(`
pub data PrintText : Bool → ℕ → Bool → Text → Type 0 where
  print_text : (b l : Bool) (n : List ℕ) (p q : Spot) → IsPrint p.marks.opening l → is_left_type b p.marks.ahead ≡ false → PrintText b p.at l (nam n p ∷ opr op.OpenParen q ∷ [])

-- `if` and `elseif`
pub data TestText : Bool → ℕ → Branched → ℕ → Text → Type 0 where
  first_test : (r : Bool) (p : Spot) → TestText r p.at M.no_branches p.at (wrd wd.If p ∷ [])
  next_test : (r : Bool) (p q : Spot) (x : Branched) (ts : Text) → Branches r p x ts → TestText r p.at x q.at (ts ++ wrd wd.Elseif q ∷ [])

-- what stands before a form in a frame must begin with, and whether a `return` may stand there
abbrev pub choice_in : List Frame → Choice
choice_in [] = item_form
choice_in (Fr.Block k ss ∷ K) = stmt_form
choice_in (Fr.Evals k vs ∷ K) = eval_form
choice_in K = any_form

abbrev pub return_in : List Frame → Bool
return_in [] = false
return_in (Fr.Paren p a ∷ K) = p.returns
return_in (Fr.Tuple p a es ∷ K) = p.returns
return_in (Fr.Args p a f es ∷ K) = p.returns
return_in (Fr.Fetch p a ∷ K) = p.returns
return_in (Fr.Print p a l ps ∷ K) = p.returns
return_in (Fr.Then p c ∷ K) = p.returns
return_in (Fr.Test p a x b ∷ K) = p.returns
return_in (Fr.Block k ss ∷ K) = is_return_allowed k
return_in (Fr.Evals k vs ∷ K) = false

-- an entry, and a method, may stand there
abbrev pub Enters : List Frame → Type 0
Enters [] = Unit {0}
Enters (Fr.Block k ss ∷ K) = Unit {0}
Enters (Fr.Evals k vs ∷ K) = Unit {0}
Enters K = ⊥

abbrev pub Methods : List Frame → Type 0
Methods K = Defines (choice_in K)

mutual
  -- the text before a form in the innermost frame
  pub data Opened : List Frame → ItemsRead → Text → Type 0 where
    bottom : (xs : ItemsRead) (ts : Text) → ItemsBefore xs ts → Opened [] xs ts
    in_paren : (p : Pending) (q : Spot) (K : List Frame) (xs : ItemsRead) (d : Choice) (ts us : Text) → Led K xs p.lead p.outer p.returns d ts → LevelsText p.returns p.levels us →
        Starts d (us ++ opr op.OpenParen q ∷ []) → is_left_type (is_comparison_start p.levels) q.marks.ahead ≡ false → Opened (Fr.Paren p q.at ∷ K) xs ((ts ++ us) ++ opr op.OpenParen q ∷ [])
    in_tuple : (p : Pending) (q s : Spot) (es : Forms Expr) (K : List Frame) (xs : ItemsRead) (d : Choice) (ts us vs : Text) →
        Led K xs p.lead p.outer p.returns d ts → LevelsText p.returns p.levels us → Starts d (us ++ opr op.OpenParen q ∷ []) → is_left_type (is_comparison_start p.levels) q.marks.ahead ≡ false →
        Arguments p.returns es vs → Opened (Fr.Tuple p q.at es ∷ K) xs ((ts ++ us) ++ ((opr op.OpenParen q ∷ vs) ++ opr op.Comma s ∷ []))
    in_args : (p : Pending) (k : Bool) (a : ℕ) (f : Called) (es : Forms Expr) (K : List Frame) (xs : ItemsRead) (d : Choice) (ts us vs ws : Text) →
        Led K xs p.lead p.outer p.returns d ts → LevelsText p.returns p.levels us → Starts d (us ++ vs) → CalledText k (is_comparison_start p.levels) a f vs → ArgumentsPart p.returns es ws →
        Opened (Fr.Args p a f es ∷ K) xs ((ts ++ us) ++ (vs ++ ws))
    in_fetch : (p : Pending) (n : List ℕ) (q s : Spot) (K : List Frame) (xs : ItemsRead) (d : Choice) (ts us : Text) → Led K xs p.lead p.outer p.returns d ts → LevelsText p.returns p.levels us →
        Starts d (us ++ nam n q ∷ []) → q.marks.opening ≡ Op.Fetch → is_left_type (is_comparison_start p.levels) q.marks.ahead ≡ false →
        Opened (Fr.Fetch p q.at ∷ K) xs ((ts ++ us) ++ (nam n q ∷ opr op.OpenParen s ∷ []))
    in_print : (p : Pending) (a : ℕ) (l : Bool) (ps : Forms Piece) (K : List Frame) (xs : ItemsRead) (d : Choice) (ts us vs ws : Text) →
        Led K xs p.lead p.outer p.returns d ts → LevelsText p.returns p.levels us → Starts d (us ++ vs) → PrintText (is_comparison_start p.levels) a l vs → PiecesPart p.returns ps ws →
        Opened (Fr.Print p a l ps ∷ K) xs ((ts ++ us) ++ (vs ++ ws))
    in_then : (p : Pending) (c : Form Expr) (q : Spot) (K : List Frame) (xs : ItemsRead) (d : Choice) (ts us : Text) → Led K xs p.lead p.outer p.returns d ts →
        p.levels ≡ no_levels → Starts d us → Disjunction p.returns false c us → Opened (Fr.Then p c ∷ K) xs ((ts ++ us) ++ opr op.Question q ∷ [])
    in_test : (p : Pending) (a : ℕ) (x : Branched) (b : ℕ) (K : List Frame) (xs : ItemsRead) (d : Choice) (ts us vs : Text) → Led K xs p.lead p.outer p.returns d ts →
        LevelsText p.returns p.levels us → Starts d (us ++ vs) → TestText p.returns a x b vs → Opened (Fr.Test p a x b ∷ K) xs ((ts ++ us) ++ vs)
    in_block : (k : BlockKind) (ss : Forms Stmt) (K : List Frame) (xs : ItemsRead) (ts us : Text) → KindText K xs k ts → StmtsBefore (is_return_allowed k) ss us → Opened (Fr.Block k ss ∷ K) xs (ts ++ us)
    in_evals : (k : EvalKind) (vs : Forms Eval) (K : List Frame) (xs : ItemsRead) (ts us : Text) → EvalText K xs k ts → EvalsBefore vs us → Opened (Fr.Evals k vs ∷ K) xs (ts ++ us)

  -- the text before the operators of an operand
  pub data Led : List Frame → ItemsRead → Lead → List Outer → Bool → Choice → Text → Type 0 where
    led_text : (K : List Frame) (xs : ItemsRead) (l : Lead) (os : List Outer) (y r : Bool) (c d : Choice) (ts us vs : Text) → Opened K xs ts →
        LeadText (choice_in K) (return_in K) l c y us → OutersText c y os d r vs → Led K xs l os r d (ts ++ (us ++ vs))

  -- the text before the statements of a block
  pub data KindText : List Frame → ItemsRead → BlockKind → Text → Type 0 where
    begin_kind : (p : Pending) (q : Spot) (K : List Frame) (xs : ItemsRead) (d : Choice) (ts us : Text) → Led K xs p.lead p.outer p.returns d ts → LevelsText p.returns p.levels us →
        Starts d (us ++ wrd wd.Begin q ∷ []) → KindText K xs (Bl.Begin p q.at) ((ts ++ us) ++ wrd wd.Begin q ∷ [])
    branch_kind : (p : Pending) (a : ℕ) (x : Branched) (b : ℕ) (e : Form Expr) (t : Marked) (K : List Frame) (xs : ItemsRead) (d : Choice) (ts us vs ws : Text) →
        Led K xs p.lead p.outer p.returns d ts → LevelsText p.returns p.levels us → Starts d (us ++ vs) → TestText p.returns a x b vs → Expression p.returns e ws → Sep t →
        KindText K xs (Bl.Branch p a x b e) ((ts ++ us) ++ ((vs ++ ws) ++ t ∷ []))
    else_kind : (p : Pending) (q s : Spot) (x : Branched) (K : List Frame) (xs : ItemsRead) (d : Choice) (ts us vs : Text) → Led K xs p.lead p.outer p.returns d ts →
        LevelsText p.returns p.levels us → Starts d (us ++ vs) → Branches p.returns q x vs → KindText K xs (Bl.Else p q.at x) ((ts ++ us) ++ (vs ++ wrd wd.Else s ∷ []))
    body_kind : (h : Form Head) (q : Spot) (K : List Frame) (xs : ItemsRead) (ts us : Text) → Methods K → Opened K xs ts → HeadText q.at h us →
        KindText K xs (Bl.Body Pl.Entry h) (ts ++ (wrd wd.Function q ∷ us))
    evaluated_kind : (p : Pending) (h : Form Head) (q s : Spot) (K : List Frame) (xs : ItemsRead) (d : Choice) (ts us vs : Text) → Led K xs p.lead p.outer p.returns d ts →
        LevelsText p.returns p.levels us → Starts d (us ++ tok (sg.Macro (codes "eval")) q ∷ []) → HeadText s.at h vs →
        KindText K xs (Bl.Body (Pl.Evaluated p q.at) h) ((ts ++ us) ++ (tok (sg.Macro (codes "eval")) q ∷ wrd wd.Function s ∷ vs))

  -- the text before the statements of an evaluated block
  pub data EvalText : List Frame → ItemsRead → EvalKind → Text → Type 0 where
    begin_evaluated : (p : Pending) (q s : Spot) (K : List Frame) (xs : ItemsRead) (d : Choice) (ts us : Text) → Led K xs p.lead p.outer p.returns d ts → LevelsText p.returns p.levels us →
        Starts d (us ++ tok (sg.Macro (codes "eval")) q ∷ []) → EvalText K xs (Ev.Begin p q.at) ((ts ++ us) ++ (tok (sg.Macro (codes "eval")) q ∷ wrd wd.Begin s ∷ []))
    quote_begin : (p : Pending) (n : List ℕ) (q s v : Spot) (K : List Frame) (xs : ItemsRead) (d : Choice) (ts us : Text) → Led K xs p.lead p.outer p.returns d ts →
        LevelsText p.returns p.levels us → Starts d (us ++ nam n q ∷ []) → q.marks.opening ≡ Op.Quote → is_left_type (is_comparison_start p.levels) q.marks.ahead ≡ false →
        EvalText K xs (Ev.Quote p q.at) ((ts ++ us) ++ (nam n q ∷ opr op.OpenParen s ∷ wrd wd.Quote v ∷ []))
