-- The text of each point of a reading.
use Rattle.std.proofs.Common.{ℕ, ℤ, pos, int_le, Bool, true, false, codes, List, [], ◌∷◌, ◌++◌, ◌≡◌, Option, Some, None}
use Rattle.jl_token.specs.declared.token.Operator.TheVariants as op
use Rattle.jl_typeread.proofs.Kept.{Goal as TypeGoal, a_type, a_where, a_header}
use Rattle.jl_typeread.proofs.Kept as Y
use Rattle.jl_typeread.specs.declared.terminal.Terminal.TheVariants as sg
use Rattle.jl_typeread.specs.declared.terminal.Word.TheVariants as wd
use Rattle.jl_typeread.specs.declared.state.State.{State as TypeState}
use Rattle.jl_typeread.specs.declared.tree.TypeText.{TypeText}
use Rattle.jl_grammar.specs.declared.mark.Opening.TheVariants as Op
use Rattle.jl_grammar.specs.declared.state.BlockKind.{BlockKind}
use Rattle.jl_grammar.specs.declared.state.Called.{Called}
use Rattle.jl_grammar.specs.declared.state.Declaring.{Declaring}
use Rattle.jl_grammar.specs.declared.state.Due.{Due}
use Rattle.jl_grammar.specs.declared.state.Due.TheVariants as Du
use Rattle.jl_grammar.specs.declared.state.EvalKind.TheVariants as Ev
use Rattle.jl_grammar.specs.declared.state.Fielding.{Fielding}
use Rattle.jl_grammar.specs.declared.state.Form.{Form}
use Rattle.jl_grammar.specs.declared.state.Forms.{Forms}
use Rattle.jl_grammar.specs.declared.state.Frame.{Frame}
use Rattle.jl_grammar.specs.declared.state.Frame.TheVariants as Fr
use Rattle.jl_grammar.specs.declared.state.Goal.{Goal}
use Rattle.jl_grammar.specs.declared.state.Goal.TheVariants as Go
use Rattle.jl_grammar.specs.declared.state.Heading.{Heading}
use Rattle.jl_grammar.specs.declared.state.ItemsRead.{ItemsRead}
use Rattle.jl_grammar.specs.declared.state.Pending.{Pending}
use Rattle.jl_grammar.specs.declared.state.Place.TheVariants as Pl
use Rattle.jl_grammar.specs.declared.state.Point.{Point}
use Rattle.jl_grammar.specs.declared.state.Point.TheVariants as Po
use Rattle.jl_grammar.specs.declared.state.Purpose.{Purpose}
use Rattle.jl_grammar.specs.declared.state.Purpose.TheVariants as Pu
use Rattle.jl_grammar.specs.declared.state.Start.{Start}
use Rattle.jl_grammar.specs.declared.state.State.{State}
use Rattle.jl_grammar.specs.declared.state.VarsForm.{VarsForm}
use Rattle.jl_grammar.specs.declared.tree.Callee.{Callee}
use Rattle.jl_grammar.specs.declared.tree.Eval.{Eval}
use Rattle.jl_grammar.specs.declared.tree.Expr.{Expr}
use Rattle.jl_grammar.specs.declared.tree.Field.{Field}
use Rattle.jl_grammar.specs.declared.tree.Header.{Header}
use Rattle.jl_grammar.specs.declared.tree.Item.{Item}
use Rattle.jl_grammar.specs.declared.tree.Method.{Method}
use Rattle.jl_grammar.specs.declared.tree.Name.{Name}
use Rattle.jl_grammar.specs.declared.tree.Param.{Param}
use Rattle.jl_grammar.specs.declared.tree.Piece.{Piece}
use Rattle.jl_grammar.specs.declared.tree.Stmt.{Stmt}
use Rattle.jl_grammar.specs.Forms as M
use Rattle.jl_grammar.specs.Grammar.{CalleeText, ParamsText, ParensText, place, Pieces, Post, Sum, Expression, LongMethod, EvalBlock, TypeParamsText, HeaderText, FieldsBefore, FieldsAfter, ItemText, ItemsBefore}
use Rattle.jl_grammar.specs.Levels.{is_comparison_start}
use Rattle.jl_grammar.specs.Turns.{is_return_allowed}
use Rattle.jl_grammar.specs.Texts as Tx
use Rattle.jl_grammar.specs.Texts.{Text, Spot, tok, opr, wrd, nam, name_in, Sep, lexemes, is_method, is_sub, is_binding, is_plain, is_left_type, is_item_name, is_item_terminal, is_item_start, is_stmt_name, is_stmt_terminal, is_stmt_start, is_eval_name, is_eval_terminal, is_eval_start, is_evaluated_terminal, is_evaluated_start, OpensAs, IsMethodStart, IsSubStart, IsPrint, IsBindingName}
use Rattle.jl_grammar.specs.Types.{type_as_read, IsType}
use Rattle.jl_grammar.proofs.Standing.{Choice, Starts, TopText, LevelsText, Binds, CalledText, PrintText, choice_in, Enters, Methods, Opened, Led, EvalText}

-- ---- names of functions

-- what the name of a function must be
pub data Naming : Type 0 where
  free_name : Naming
  called_name : Bool → ℕ → Choice → Text → Naming
  method_name : ℕ → Naming

abbrev pub Names : Naming → Text → Type 0
Names free_name ts = Unit {0}
Names (called_name b a d us) ts = OpensAs Op.Call ts × Tx.IsNoTypeStart b ts × (place ts ≡ a) × Starts d (us ++ ts)
Names (method_name a) ts = IsMethodStart ts × (place ts ≡ a)

-- the text before the name of a method
pub data StartText : List Frame → ItemsRead → Start → Naming → Text → Type 0 where
  entry_long : (q : Spot) (K : List Frame) (xs : ItemsRead) (ts : Text) → Methods K → Opened K xs ts →
      StartText K xs (record { place = Pl.Entry; long = true; at = q.at }) free_name (ts ++ wrd wd.Function q ∷ [])
  entry_short : (a : ℕ) (K : List Frame) (xs : ItemsRead) (ts : Text) → Methods K → Opened K xs ts →
      StartText K xs (record { place = Pl.Entry; long = false; at = a }) (method_name a) ts
  evaluated_long : (p : Pending) (q s : Spot) (K : List Frame) (xs : ItemsRead) (d : Choice) (ts us : Text) → Led K xs p.lead p.outer p.returns d ts → LevelsText p.returns p.levels us →
      Starts d (us ++ tok (sg.Macro (codes "eval")) q ∷ []) →
      StartText K xs (record { place = Pl.Evaluated p q.at; long = true; at = s.at }) free_name ((ts ++ us) ++ (tok (sg.Macro (codes "eval")) q ∷ wrd wd.Function s ∷ []))
  evaluated_short : (p : Pending) (q : Spot) (a : ℕ) (K : List Frame) (xs : ItemsRead) (d : Choice) (ts us : Text) → Led K xs p.lead p.outer p.returns d ts → LevelsText p.returns p.levels us →
      Starts d (us ++ tok (sg.Macro (codes "eval")) q ∷ []) →
      StartText K xs (record { place = Pl.Evaluated p q.at; long = false; at = a }) (method_name a) ((ts ++ us) ++ tok (sg.Macro (codes "eval")) q ∷ [])

-- the text before the name of a function
pub data PurposeText : List Frame → ItemsRead → Purpose → Naming → Text → Type 0 where
  for_call : (p : Pending) (a : ℕ) (K : List Frame) (xs : ItemsRead) (d : Choice) (ts us : Text) → Led K xs p.lead p.outer p.returns d ts → LevelsText p.returns p.levels us →
      PurposeText K xs (Pu.Call p a) (called_name (is_comparison_start p.levels) a d us) (ts ++ us)
  for_latest : (p : Pending) (n m : List ℕ) (q s v y : Spot) (K : List Frame) (xs : ItemsRead) (d : Choice) (ts us : Text) → Led K xs p.lead p.outer p.returns d ts →
      LevelsText p.returns p.levels us → Starts d (us ++ nam n q ∷ []) → q.marks.opening ≡ Op.Latest → is_left_type (is_comparison_start p.levels) q.marks.ahead ≡ false →
      PurposeText K xs (Pu.Latest p q.at) free_name ((ts ++ us) ++ (nam n q ∷ opr op.Dot s ∷ nam m v ∷ opr op.OpenParen y ∷ []))
  for_head : (s : Start) (c : Naming) (K : List Frame) (xs : ItemsRead) (ts : Text) → StartText K xs s c ts → PurposeText K xs (Pu.Head s) c ts

-- ---- heads

pub data ParamsPart : Forms Param → Text → Type 0 where
  no_params_yet : ParamsPart M.no_forms []
  some_params_yet : (ps : Forms Param) (q : Spot) (ts : Text) → ParamsText ps ts → ParamsPart ps (ts ++ opr op.Comma q ∷ [])

-- the text before the next parameter
pub data HeadingText : List Frame → ItemsRead → Heading → Text → Type 0 where
  heading_text : (s : Start) (f : Callee) (ps : Forms Param) (c : Naming) (q : Spot) (K : List Frame) (xs : ItemsRead) (ts us vs : Text) → StartText K xs s c ts → CalleeText f us →
      Names c us → ParamsPart ps vs → HeadingText K xs (record { start = s; callee = f; params = ps }) (ts ++ (us ++ (opr op.OpenParen q ∷ vs)))

-- the text up to the last parameter, with it
pub data ListedText : List Frame → ItemsRead → Heading → Text → Type 0 where
  listed_text : (s : Start) (f : Callee) (ps : Forms Param) (c : Naming) (q : Spot) (K : List Frame) (xs : ItemsRead) (ts us vs : Text) → StartText K xs s c ts → CalleeText f us →
      Names c us → ParamsText ps vs → ListedText K xs (record { start = s; callee = f; params = ps }) (ts ++ (us ++ (opr op.OpenParen q ∷ vs)))

-- the text up to the bracket that ends the parameters
pub data HeadedText : List Frame → ItemsRead → Heading → Text → Type 0 where
  headed_text : (s : Start) (f : Callee) (ps : Forms Param) (c : Naming) (K : List Frame) (xs : ItemsRead) (ts us vs : Text) → StartText K xs s c ts → CalleeText f us →
      Names c us → ParensText ps vs → HeadedText K xs (record { start = s; callee = f; params = ps }) (ts ++ (us ++ vs))

-- ---- declarations

-- `abstract type` and `struct`
pub data DeclText : Bool → ℕ → Text → Type 0 where
  abstract_decl : (p q : Spot) → DeclText false p.at (wrd wd.Abstract p ∷ nam (codes "type") q ∷ [])
  struct_decl : (p : Spot) → DeclText true p.at (wrd wd.Struct p ∷ [])

-- the text up to the supertype, or the end, of a declaration
pub data DeclaredText : ItemsRead → Declaring → Text → Type 0 where
  declared_text : (k : Bool) (a : ℕ) (n : List ℕ) (q : Spot) (vs : VarsForm) (xs : ItemsRead) (ts us ws : Text) → ItemsBefore xs ts → DeclText k a us → TypeParamsText vs ws →
      DeclaredText xs (record { at = a; is_struct = k; name = name_in n q; params = vs }) (ts ++ (us ++ (nam n q ∷ ws)))

-- the text before the next field
pub data FieldingText : ItemsRead → Fielding → Text → Type 0 where
  fielding_text : (h : Form Header) (fs : Forms Field) (q : Spot) (xs : ItemsRead) (ts us vs : Text) → ItemsBefore xs ts → HeaderText q.at h us → FieldsBefore fs vs →
      FieldingText xs (record { header = h; fields = fs }) (ts ++ (wrd wd.Struct q ∷ (us ++ vs)))

-- the text up to the last field, with it
pub data FieldedText : ItemsRead → Fielding → Text → Type 0 where
  fielded_text : (h : Form Header) (fs : Forms Field) (q : Spot) (xs : ItemsRead) (ts us vs : Text) → ItemsBefore xs ts → HeaderText q.at h us → FieldsAfter fs vs →
      FieldedText xs (record { header = h; fields = fs }) (ts ++ (wrd wd.Struct q ∷ (us ++ vs)))

-- ---- types

-- what a type must be
pub data Typing : Type 0 where
  free_type : Typing
  left_type : ℕ → Choice → Text → Typing
  made_type : Bool → ℕ → Choice → Text → Typing

-- a name with its braces before `(`
pub data Makes : Bool → ℕ → Text → Type 0 where
  makes : (b : Bool) (n : List ℕ) (p : Spot) (ts : Text) → p.marks.opening ≡ Op.Make → is_left_type b p.marks.ahead ≡ false → Makes b p.at (nam n p ∷ ts)

abbrev pub Fits : Typing → Text → Type 0
Fits free_type ts = Unit {0}
Fits (left_type a d us) ts = IsSubStart ts × (place ts ≡ a) × Starts d (us ++ ts)
Fits (made_type b a d us) ts = Makes b a ts × Starts d (us ++ ts)

-- `Base.delete_method(which(` and the name
pub data DeletingText : Bool → ℕ → Name → Text → Type 0 where
  deleting_text : (b : Bool) (n m f : List ℕ) (p q s v x y z : Spot) → p.marks.opening ≡ Op.Delete → is_left_type b p.marks.ahead ≡ false →
      DeletingText b p.at (name_in f z) (nam n p ∷ opr op.Dot q ∷ nam m s ∷ opr op.OpenParen v ∷ nam (codes "which") x ∷ opr op.OpenParen y ∷ nam f z ∷ [])

-- the text before a type
pub data GoalText : List Frame → ItemsRead → Goal → Typing → Text → Type 0 where
  goal_isa : (p : Pending) (e : Form Expr) (q : Spot) (K : List Frame) (xs : ItemsRead) (d : Choice) (ts us vs : Text) → Led K xs p.lead p.outer p.returns d ts → TopText p.returns p.levels us →
      Starts d (us ++ vs) → Sum p.returns false true e vs → GoalText K xs (Go.Isa p e) free_type ((ts ++ us) ++ (vs ++ wrd wd.Isa q ∷ []))
  goal_left : (p : Pending) (a : ℕ) (K : List Frame) (xs : ItemsRead) (d : Choice) (ts us : Text) → Led K xs p.lead p.outer p.returns d ts → TopText p.returns p.levels us →
      GoalText K xs (Go.Left p a) (left_type a d us) (ts ++ us)
  goal_right : (p : Pending) (s : TypeText) (q : Spot) (K : List Frame) (xs : ItemsRead) (d : Choice) (ts us vs : Text) → Led K xs p.lead p.outer p.returns d ts → TopText p.returns p.levels us →
      Starts d (us ++ vs) → IsSubStart vs → IsType s vs → GoalText K xs (Go.Right p (place vs) (type_as_read s)) free_type ((ts ++ us) ++ (vs ++ opr op.Subtype q ∷ []))
  goal_make : (p : Pending) (a : ℕ) (K : List Frame) (xs : ItemsRead) (d : Choice) (ts us : Text) → Led K xs p.lead p.outer p.returns d ts → LevelsText p.returns p.levels us →
      GoalText K xs (Go.Make p a) (made_type (is_comparison_start p.levels) a d us) (ts ++ us)
  goal_delete : (p : Pending) (a : ℕ) (f : Name) (q : Spot) (K : List Frame) (xs : ItemsRead) (d : Choice) (ts us vs : Text) → Led K xs p.lead p.outer p.returns d ts → LevelsText p.returns p.levels us →
      Starts d (us ++ vs) → DeletingText (is_comparison_start p.levels) a f vs → GoalText K xs (Go.Delete p a f) free_type ((ts ++ us) ++ (vs ++ opr op.Comma q ∷ []))
  goal_param : (h : Heading) (n : List ℕ) (q s : Spot) (K : List Frame) (xs : ItemsRead) (ts : Text) → HeadingText K xs h ts →
      GoalText K xs (Go.Param h (Some (name_in n q)) s.at) free_type (ts ++ (nam n q ∷ opr op.HasType s ∷ []))
  goal_unnamed : (h : Heading) (q : Spot) (K : List Frame) (xs : ItemsRead) (ts : Text) → HeadingText K xs h ts →
      GoalText K xs (Go.Param h None q.at) free_type (ts ++ opr op.HasType q ∷ [])
  goal_parent : (x : Declaring) (q : Spot) (xs : ItemsRead) (ts : Text) → DeclaredText xs x ts → GoalText [] xs (Go.Parent x) free_type (ts ++ opr op.Subtype q ∷ [])
  goal_field : (f : Fielding) (n : List ℕ) (q s : Spot) (xs : ItemsRead) (ts : Text) → FieldingText xs f ts →
      GoalText [] xs (Go.Field f (name_in n q)) free_type (ts ++ (nam n q ∷ opr op.HasType s ∷ []))

-- ---- the fixed tokens of special forms

pub data DueText : Bool → ℕ → Due → Text → Type 0 where
  spawn_dot : (b : Bool) (n : List ℕ) (p : Spot) → p.marks.opening ≡ Op.Spawn → is_left_type b p.marks.ahead ≡ false → DueText b p.at Du.SpawnDot (nam n p ∷ [])
  spawn_macro : (b : Bool) (n : List ℕ) (p q : Spot) → p.marks.opening ≡ Op.Spawn → is_left_type b p.marks.ahead ≡ false → DueText b p.at Du.SpawnMacro (nam n p ∷ opr op.Dot q ∷ [])
  latest_dot : (b : Bool) (n : List ℕ) (p : Spot) → p.marks.opening ≡ Op.Latest → is_left_type b p.marks.ahead ≡ false → DueText b p.at Du.LatestDot (nam n p ∷ [])
  latest_name : (b : Bool) (n : List ℕ) (p q : Spot) → p.marks.opening ≡ Op.Latest → is_left_type b p.marks.ahead ≡ false → DueText b p.at Du.LatestName (nam n p ∷ opr op.Dot q ∷ [])
  latest_open : (b : Bool) (n m : List ℕ) (p q s : Spot) → p.marks.opening ≡ Op.Latest → is_left_type b p.marks.ahead ≡ false →
      DueText b p.at Du.LatestOpen (nam n p ∷ opr op.Dot q ∷ nam m s ∷ [])
  delete_dot : (b : Bool) (n : List ℕ) (p : Spot) → p.marks.opening ≡ Op.Delete → is_left_type b p.marks.ahead ≡ false → DueText b p.at Du.DeleteDot (nam n p ∷ [])
  delete_name : (b : Bool) (n : List ℕ) (p q : Spot) → p.marks.opening ≡ Op.Delete → is_left_type b p.marks.ahead ≡ false → DueText b p.at Du.DeleteName (nam n p ∷ opr op.Dot q ∷ [])
  delete_open : (b : Bool) (n m : List ℕ) (p q s : Spot) → p.marks.opening ≡ Op.Delete → is_left_type b p.marks.ahead ≡ false →
      DueText b p.at Du.DeleteOpen (nam n p ∷ opr op.Dot q ∷ nam m s ∷ [])
  which_word : (b : Bool) (n m : List ℕ) (p q s v : Spot) → p.marks.opening ≡ Op.Delete → is_left_type b p.marks.ahead ≡ false →
      DueText b p.at Du.WhichWord (nam n p ∷ opr op.Dot q ∷ nam m s ∷ opr op.OpenParen v ∷ [])
  which_open : (b : Bool) (n m : List ℕ) (p q s v x : Spot) → p.marks.opening ≡ Op.Delete → is_left_type b p.marks.ahead ≡ false →
      DueText b p.at Du.WhichOpen (nam n p ∷ opr op.Dot q ∷ nam m s ∷ opr op.OpenParen v ∷ nam (codes "which") x ∷ [])
  which_name : (b : Bool) (n m : List ℕ) (p q s v x y : Spot) → p.marks.opening ≡ Op.Delete → is_left_type b p.marks.ahead ≡ false →
      DueText b p.at Du.WhichName (nam n p ∷ opr op.Dot q ∷ nam m s ∷ opr op.OpenParen v ∷ nam (codes "which") x ∷ opr op.OpenParen y ∷ [])
  fetch_open : (b : Bool) (n : List ℕ) (p : Spot) → p.marks.opening ≡ Op.Fetch → is_left_type b p.marks.ahead ≡ false → DueText b p.at Du.FetchOpen (nam n p ∷ [])
  print_open : (b l : Bool) (n : List ℕ) (p : Spot) → IsPrint p.marks.opening l → is_left_type b p.marks.ahead ≡ false → DueText b p.at (Du.PrintOpen l) (nam n p ∷ [])
  quote_open : (b : Bool) (n : List ℕ) (p : Spot) → p.marks.opening ≡ Op.Quote → is_left_type b p.marks.ahead ≡ false → DueText b p.at Du.QuoteOpen (nam n p ∷ [])
  quote_word : (b : Bool) (n : List ℕ) (p q : Spot) → p.marks.opening ≡ Op.Quote → is_left_type b p.marks.ahead ≡ false →
      DueText b p.at Du.QuoteWord (nam n p ∷ opr op.OpenParen q ∷ [])

-- ---- the text of a state

pub data Has : Point → List Frame → ItemsRead → Text → Type 0 where
  has_entry : (K : List Frame) (xs : ItemsRead) (ts : Text) → Enters K → Opened K xs ts → Has Po.Entry K xs ts
  has_bound : (n : List ℕ) (q : Spot) (K : List Frame) (xs : ItemsRead) (ts : Text) → Opened K xs ts → Binds (choice_in K) q → Has (Po.Bound (name_in n q)) K xs (ts ++ nam n q ∷ [])
  has_returned : (q : Spot) (k : BlockKind) (ss : Forms Stmt) (K : List Frame) (xs : ItemsRead) (ts : Text) → Opened (Fr.Block k ss ∷ K) xs ts → is_return_allowed k ≡ true →
      Has (Po.Returned q.at) (Fr.Block k ss ∷ K) xs (ts ++ wrd wd.Return q ∷ [])
  has_want : (p : Pending) (K : List Frame) (xs : ItemsRead) (d : Choice) (ts us : Text) → Led K xs p.lead p.outer p.returns d ts → LevelsText p.returns p.levels us → Starts d us →
      Has (Po.Want p) K xs (ts ++ us)
  has_first_paren : (p : Pending) (a : ℕ) (K : List Frame) (xs : ItemsRead) (ts : Text) → Opened (Fr.Paren p a ∷ K) xs ts → Has (Po.First p.returns) (Fr.Paren p a ∷ K) xs ts
  has_first_args : (p : Pending) (a : ℕ) (f : Called) (K : List Frame) (xs : ItemsRead) (d : Choice) (ts us vs : Text) → Led K xs p.lead p.outer p.returns d ts → LevelsText p.returns p.levels us →
      Starts d (us ++ vs) → CalledText true (is_comparison_start p.levels) a f vs → Has (Po.First p.returns) (Fr.Args p a f M.no_forms ∷ K) xs ((ts ++ us) ++ vs)
  has_first_print : (p : Pending) (a : ℕ) (l : Bool) (K : List Frame) (xs : ItemsRead) (d : Choice) (ts us vs : Text) → Led K xs p.lead p.outer p.returns d ts → LevelsText p.returns p.levels us →
      Starts d (us ++ vs) → PrintText (is_comparison_start p.levels) a l vs → Has (Po.First p.returns) (Fr.Print p a l M.no_forms ∷ K) xs ((ts ++ us) ++ vs)
  has_again : (p : Pending) (q s : Spot) (e : Form Expr) (K : List Frame) (xs : ItemsRead) (d : Choice) (ts us vs : Text) → Led K xs p.lead p.outer p.returns d ts →
      LevelsText p.returns p.levels us → Starts d (us ++ opr op.OpenParen q ∷ []) → is_left_type (is_comparison_start p.levels) q.marks.ahead ≡ false → Expression p.returns e vs →
      Has (Po.Again p.returns) (Fr.Tuple p q.at (M.with_expr M.no_forms e) ∷ K) xs ((ts ++ us) ++ ((opr op.OpenParen q ∷ vs) ++ opr op.Comma s ∷ []))
  has_piece : (p : Pending) (a : ℕ) (l : Bool) (ps : Forms Piece) (K : List Frame) (xs : ItemsRead) (ts : Text) → Opened (Fr.Print p a l ps ∷ K) xs ts →
      Has (Po.Piece p.returns) (Fr.Print p a l ps ∷ K) xs ts
  has_texted : (p : Pending) (a : ℕ) (l : Bool) (ps : Forms Piece) (K : List Frame) (xs : ItemsRead) (d : Choice) (ts us vs ws : Text) → Led K xs p.lead p.outer p.returns d ts →
      LevelsText p.returns p.levels us → Starts d (us ++ vs) → PrintText (is_comparison_start p.levels) a l vs → Pieces p.returns ps ws →
      Has Po.Texted (Fr.Print p a l ps ∷ K) xs ((ts ++ us) ++ (vs ++ ws))
  has_have : (p : Pending) (e : Form Expr) (K : List Frame) (xs : ItemsRead) (d : Choice) (ts us vs : Text) → Led K xs p.lead p.outer p.returns d ts → LevelsText p.returns p.levels us →
      Starts d (us ++ vs) → Post p.returns false (is_comparison_start p.levels) e vs → Has (Po.Have p e) K xs ((ts ++ us) ++ vs)
  has_dot : (p : Pending) (e : Form Expr) (q : Spot) (K : List Frame) (xs : ItemsRead) (d : Choice) (ts us vs : Text) → Led K xs p.lead p.outer p.returns d ts → LevelsText p.returns p.levels us →
      Starts d (us ++ vs) → Post p.returns false (is_comparison_start p.levels) e vs → Has (Po.Dot p e) K xs ((ts ++ us) ++ (vs ++ opr op.Dot q ∷ []))
  has_index : (p : Pending) (e : Form Expr) (q : Spot) (K : List Frame) (xs : ItemsRead) (d : Choice) (ts us vs : Text) → Led K xs p.lead p.outer p.returns d ts → LevelsText p.returns p.levels us →
      Starts d (us ++ vs) → Post p.returns false (is_comparison_start p.levels) e vs → Has (Po.Index p e) K xs ((ts ++ us) ++ (vs ++ opr op.OpenBracket q ∷ []))
  has_indexed : (p : Pending) (e : Form Expr) (n : ℤ) (q s : Spot) (K : List Frame) (xs : ItemsRead) (d : Choice) (ts us vs : Text) → Led K xs p.lead p.outer p.returns d ts →
      LevelsText p.returns p.levels us → Starts d (us ++ vs) → Post p.returns false (is_comparison_start p.levels) e vs → int_le (pos 1) n ≡ true →
      Has (Po.Indexed p e n) K xs ((ts ++ us) ++ (vs ++ (opr op.OpenBracket q ∷ tok (sg.Number n) s ∷ [])))
  has_due : (p : Pending) (a : ℕ) (x : Due) (K : List Frame) (xs : ItemsRead) (d : Choice) (ts us vs : Text) → Led K xs p.lead p.outer p.returns d ts → LevelsText p.returns p.levels us →
      Starts d (us ++ vs) → DueText (is_comparison_start p.levels) a x vs → Has (Po.Due p a x) K xs ((ts ++ us) ++ vs)
  has_quoted : (p : Pending) (ys : Forms Eval) (v : Spot) (K : List Frame) (xs : ItemsRead) (ts us : Text) (q : ℕ) → EvalText K xs (Ev.Quote p q) ts → EvalBlock ys us →
      Has (Po.Ending p (M.eval_quote q ys)) K xs (ts ++ (us ++ wrd wd.End v ∷ []))
  has_deleting : (p : Pending) (a : ℕ) (f : Name) (K : List Frame) (xs : ItemsRead) (d : Choice) (ts us vs : Text) → Led K xs p.lead p.outer p.returns d ts → LevelsText p.returns p.levels us →
      Starts d (us ++ vs) → DeletingText (is_comparison_start p.levels) a f vs → Has (Po.Deleting p a f) K xs ((ts ++ us) ++ vs)
  has_deleted : (p : Pending) (a : ℕ) (f : Name) (t : TypeText) (q s : Spot) (K : List Frame) (xs : ItemsRead) (d : Choice) (ts us vs ws : Text) → Led K xs p.lead p.outer p.returns d ts →
      LevelsText p.returns p.levels us → Starts d (us ++ vs) → DeletingText (is_comparison_start p.levels) a f vs → IsType t ws →
      Has (Po.Ending p (M.delete_expr a f (type_as_read t))) K xs ((ts ++ us) ++ ((vs ++ opr op.Comma q ∷ ws) ++ opr op.CloseParen s ∷ []))
  has_after_eval : (p : Pending) (q : Spot) (K : List Frame) (xs : ItemsRead) (d : Choice) (ts us : Text) → Led K xs p.lead p.outer p.returns d ts → LevelsText p.returns p.levels us →
      Starts d (us ++ tok (sg.Macro (codes "eval")) q ∷ []) → Has (Po.AfterEval p q.at) K xs ((ts ++ us) ++ tok (sg.Macro (codes "eval")) q ∷ [])
  has_function : (g : Purpose) (K : List Frame) (xs : ItemsRead) (ts : Text) → PurposeText K xs g free_name ts → Has (Po.Function g) K xs ts
  has_named : (g : Purpose) (c : Naming) (n : List ℕ) (q : Spot) (K : List Frame) (xs : ItemsRead) (ts : Text) → PurposeText K xs g c ts → Names c (nam n q ∷ []) →
      Has (Po.Named g (name_in n q)) K xs (ts ++ nam n q ∷ [])
  has_dotted : (g : Purpose) (c : Naming) (q s : Spot) (K : List Frame) (xs : ItemsRead) (ts : Text) → PurposeText K xs g c ts → Names c (nam (codes "Base") q ∷ opr op.Dot s ∷ []) →
      Has (Po.Dotted g q.at) K xs (ts ++ (nam (codes "Base") q ∷ opr op.Dot s ∷ []))
  has_colon : (g : Purpose) (c : Naming) (q s v : Spot) (K : List Frame) (xs : ItemsRead) (ts : Text) → PurposeText K xs g c ts →
      Names c (nam (codes "Base") q ∷ opr op.Dot s ∷ opr op.Colon v ∷ []) → Has (Po.Colon g q.at) K xs (ts ++ (nam (codes "Base") q ∷ opr op.Dot s ∷ opr op.Colon v ∷ []))
  has_known : (g : Purpose) (c : Naming) (f : Callee) (K : List Frame) (xs : ItemsRead) (ts us : Text) → PurposeText K xs g c ts → Names c us → CalleeText f us →
      Has (Po.Known g f) K xs (ts ++ us)
  has_first_param : (s : Start) (f : Callee) (c : Naming) (q : Spot) (K : List Frame) (xs : ItemsRead) (ts us : Text) → StartText K xs s c ts → CalleeText f us → Names c us →
      Has (Po.FirstParam (record { start = s; callee = f; params = M.no_forms })) K xs (ts ++ (us ++ opr op.OpenParen q ∷ []))
  has_next_param : (h : Heading) (K : List Frame) (xs : ItemsRead) (ts : Text) → HeadingText K xs h ts → Has (Po.NextParam h) K xs ts
  has_param : (h : Heading) (n : List ℕ) (q : Spot) (K : List Frame) (xs : ItemsRead) (ts : Text) → HeadingText K xs h ts → Has (Po.Param h (name_in n q)) K xs (ts ++ nam n q ∷ [])
  has_headed : (h : Heading) (K : List Frame) (xs : ItemsRead) (ts : Text) → HeadedText K xs h ts → Has (Po.Headed h) K xs ts
  has_where : (h : Heading) (y : TypeState) (K : List Frame) (xs : ItemsRead) (ts us : Text) → HeadedText K xs h ts → Y.Has a_where y.point y.stack (lexemes us) →
      Has (Po.Where h y) K xs (ts ++ us)
  has_type : (g : Goal) (c : Typing) (y : TypeState) (K : List Frame) (xs : ItemsRead) (ts us : Text) → GoalText K xs g c ts → Fits c us → Y.Has a_type y.point y.stack (lexemes us) →
      Has (Po.Type g y) K xs (ts ++ us)
  has_abstract : (q : Spot) (xs : ItemsRead) (ts : Text) → ItemsBefore xs ts → Has (Po.AbstractWord q.at) [] xs (ts ++ wrd wd.Abstract q ∷ [])
  has_decl_name : (k : Bool) (a : ℕ) (xs : ItemsRead) (ts us : Text) → ItemsBefore xs ts → DeclText k a us → Has (Po.DeclName a k) [] xs (ts ++ us)
  has_declared : (k : Bool) (a : ℕ) (n : List ℕ) (q : Spot) (xs : ItemsRead) (ts us : Text) → ItemsBefore xs ts → DeclText k a us →
      Has (Po.Declared (record { at = a; is_struct = k; name = name_in n q; params = M.no_vars })) [] xs (ts ++ (us ++ nam n q ∷ []))
  has_params : (k : Bool) (a : ℕ) (n : List ℕ) (q : Spot) (y : TypeState) (xs : ItemsRead) (ts us vs : Text) → ItemsBefore xs ts → DeclText k a us → Y.Has a_header y.point y.stack (lexemes vs) →
      Has (Po.Params (record { at = a; is_struct = k; name = name_in n q; params = M.no_vars }) y) [] xs (ts ++ (us ++ (nam n q ∷ vs)))
  has_fields : (f : Fielding) (xs : ItemsRead) (ts : Text) → FieldingText xs f ts → Has (Po.Fields f) [] xs ts
  has_field : (f : Fielding) (n : List ℕ) (q : Spot) (xs : ItemsRead) (ts : Text) → FieldingText xs f ts → Has (Po.Field f (name_in n q)) [] xs (ts ++ nam n q ∷ [])
  has_made : (x : Form Item) (xs : ItemsRead) (ts us : Text) → ItemsBefore xs ts → ItemText x us → Has (Po.Made x) [] xs (ts ++ us)
  has_made_method : (m : Form Method) (K : List Frame) (xs : ItemsRead) (ts us : Text) → Methods K → Opened K xs ts → LongMethod m us → Has (Po.MadeMethod m) K xs (ts ++ us)

-- the text of a state, if there is one
abbrev pub HasSome : Option State → Text → Type 0
HasSome None ts = Unit {0}
HasSome (Some s) ts = Has s.point s.stack s.script ts
