-- Well-formed trees: what the grammar says of a script beyond its tree. Each name is an identifier that is not reserved, each
-- text is UTF-8, a `return` stands only in the body of a method, and the number of a part is at least 1 (Julia manual,
-- Variables, Functions, Scope of Variables). Each family has one line a form, with the facts of its parts, so it is also the
-- principle of induction for its trees.
use Rattle.std.specs.Prelude.{ℕ, ℤ, pos, int_le, Bool, true, false, IsTrue, List, [], ◌∷◌, ◌≡◌, Option, Some, None}
use Rattle.std.specs.Str.{is_utf8}
use Rattle.jl_token.specs.declared.token.Operator.{Operator}
use Rattle.jl_typeread.specs.declared.tree.TypeText.{TypeText}
use Rattle.jl_typeread.specs.declared.tree.ArgText.{ArgText}
use Rattle.jl_typeread.specs.declared.tree.VarText.{VarText}
use Rattle.jl_typeread.specs.declared.tree.TypeText.TheVariants as T
use Rattle.jl_typeread.specs.declared.tree.ArgText.TheVariants as A
use Rattle.jl_typeread.specs.declared.tree.VarText.TheVariants as V
use Rattle.jl_typeread.specs.declared.tree.ArgText.TheViews as W
use Rattle.jl_grammar.specs.declared.tree.Branch.{Branch}
use Rattle.jl_grammar.specs.declared.tree.Callee.{Callee}
use Rattle.jl_grammar.specs.declared.tree.Callee.TheVariants as F
use Rattle.jl_grammar.specs.declared.tree.Eval.{Eval}
use Rattle.jl_grammar.specs.declared.tree.Eval.TheVariants as D
use Rattle.jl_grammar.specs.declared.tree.Eval.TheViews as E
use Rattle.jl_grammar.specs.declared.tree.Expr.{Expr}
use Rattle.jl_grammar.specs.declared.tree.Expr.TheVariants as X
use Rattle.jl_grammar.specs.declared.tree.Field.{Field}
use Rattle.jl_grammar.specs.declared.tree.Head.{Head}
use Rattle.jl_grammar.specs.declared.tree.Header.{Header}
use Rattle.jl_grammar.specs.declared.tree.Infix.{Infix}
use Rattle.jl_grammar.specs.declared.tree.Item.{Item}
use Rattle.jl_grammar.specs.declared.tree.Item.TheVariants as N
use Rattle.jl_grammar.specs.declared.tree.Method.{Method}
use Rattle.jl_grammar.specs.declared.tree.Name.{Name}
use Rattle.jl_grammar.specs.declared.tree.Param.{Param}
use Rattle.jl_grammar.specs.declared.tree.Param.TheVariants as P
use Rattle.jl_grammar.specs.declared.tree.Piece.{Piece}
use Rattle.jl_grammar.specs.declared.tree.Piece.TheVariants as Q
use Rattle.jl_grammar.specs.declared.tree.Prefix.{Prefix}
use Rattle.jl_grammar.specs.declared.tree.Script.{Script}
use Rattle.jl_grammar.specs.declared.tree.Stmt.{Stmt}
use Rattle.jl_grammar.specs.declared.tree.Stmt.TheVariants as S
use Rattle.jl_grammar.specs.Marks.{is_function}
use Rattle.jl_program.specs.Names.{is_field_name}

-- a name: an identifier that is not reserved
abbrev pub IsName : List ℕ → Type 0
IsName n = IsTrue (is_field_name n)

-- ---- types as written

mutual
  pub data FormedType : TypeText → Type 0 where
    -- `P`
    plain_type : (a : ℕ) (n : List ℕ) → IsName n → FormedType (T.Name a n)
    -- `P{..}`
    applied_type : (a : ℕ) (n : List ℕ) (xs : List ArgText) → IsName n → FormedArgs xs → FormedType (W.Applied a n xs)
    -- `(T where ..)`
    paren_type : (a : ℕ) (t : TypeText) (vs : List VarText) → FormedType t → FormedVars vs → FormedType (W.Paren a t vs)

  -- an argument in braces
  pub data FormedArg : ArgText → Type 0 where
    exact_arg : (t : TypeText) → FormedType t → FormedArg (A.Exact t)
    below_arg : (a : ℕ) (t : TypeText) → FormedType t → FormedArg (A.Below a t)
    above_arg : (a : ℕ) (t : TypeText) → FormedType t → FormedArg (A.Above a t)

  pub data FormedArgs : List ArgText → Type 0 where
    no_args : FormedArgs []
    more_args : (x : ArgText) (xs : List ArgText) → FormedArg x → FormedArgs xs → FormedArgs (x ∷ xs)

  -- a variable with its bounds
  pub data FormedVar : VarText → Type 0 where
    free_var : (a : ℕ) (n : List ℕ) → IsName n → FormedVar (V.Free a n)
    below_var : (a : ℕ) (n : List ℕ) (t : TypeText) → IsName n → FormedType t → FormedVar (V.Below a n t)
    above_var : (a : ℕ) (n : List ℕ) (t : TypeText) → IsName n → FormedType t → FormedVar (V.Above a n t)
    between_var : (low : TypeText) (a : ℕ) (n : List ℕ) (high : TypeText) → FormedType low → IsName n → FormedType high → FormedVar (V.Between low a n high)

  pub data FormedVars : List VarText → Type 0 where
    no_vars : FormedVars []
    more_vars : (v : VarText) (vs : List VarText) → FormedVar v → FormedVars vs → FormedVars (v ∷ vs)

-- a type where one is written
pub data FormedOption : Option TypeText → Type 0 where
  no_type : FormedOption None
  some_type : (t : TypeText) → FormedType t → FormedOption (Some t)

-- ---- heads of methods

-- `f`, `Base.f`, and `Base.:+` of an operator that methods can be added to
pub data FormedCallee : Callee → Type 0 where
  plain_name : (x : Name) → IsName x.bytes → FormedCallee (F.Plain x)
  base_name : (a : ℕ) (x : Name) → IsName x.bytes → FormedCallee (F.Base a x)
  base_operator : (a : ℕ) (o : Operator) → is_function o ≡ true → FormedCallee (F.Operator a o)

-- `x`, `x::T` and `::T`
pub data FormedParam : Param → Type 0 where
  named_param : (x : Name) → IsName x.bytes → FormedParam (P.Name x)
  typed_param : (x : Name) (t : TypeText) → IsName x.bytes → FormedType t → FormedParam (P.Typed x t)
  unnamed_param : (a : ℕ) (t : TypeText) → FormedType t → FormedParam (P.Unnamed a t)

pub data FormedParams : List Param → Type 0 where
  no_params : FormedParams []
  more_params : (x : Param) (xs : List Param) → FormedParam x → FormedParams xs → FormedParams (x ∷ xs)

pub record FormedHead (h : Head) : Type 0 where
  pub callee : FormedCallee h.callee
  pub params : FormedParams h.params
  pub vars : FormedVars h.vars

-- ---- expressions, statements and methods. `r` says whether a `return` may stand there

mutual
  pub data FormedExpr : Bool → Expr → Type 0 where
    number : (r : Bool) (a : ℕ) (n : ℤ) → FormedExpr r (X.Number a n)
    truth : (r : Bool) (a : ℕ) (b : Bool) → FormedExpr r (X.Bool a b)
    nothing : (r : Bool) (a : ℕ) → FormedExpr r (X.Nothing a)
    name : (r : Bool) (a : ℕ) (n : List ℕ) → IsName n → FormedExpr r (X.Name a n)
    paren : (r : Bool) (a : ℕ) (e : Expr) → FormedExpr r e → FormedExpr r (E.Paren a e)
    tuple : (r : Bool) (a : ℕ) (es : List Expr) → FormedExprs r es → FormedExpr r (E.Tuple a es)
    call : (r : Bool) (a : ℕ) (f : Callee) (es : List Expr) → FormedCallee f → FormedExprs r es → FormedExpr r (E.Call a f es)
    make : (r : Bool) (a : ℕ) (t : TypeText) (es : List Expr) → FormedType t → FormedExprs r es → FormedExpr r (E.Make a t es)
    field : (r : Bool) (a : ℕ) (e : Expr) (x : Name) → FormedExpr r e → IsName x.bytes → FormedExpr r (E.Field a e x)
    -- the parts are counted from 1
    part : (r : Bool) (a : ℕ) (e : Expr) (n : ℤ) → FormedExpr r e → int_le (pos 1) n ≡ true → FormedExpr r (E.Part a e n)
    prefixed : (r : Bool) (a : ℕ) (o : Prefix) (e : Expr) → FormedExpr r e → FormedExpr r (E.Prefix a o e)
    infixed : (r : Bool) (a : ℕ) (o : Infix) (e d : Expr) → FormedExpr r e → FormedExpr r d → FormedExpr r (E.Infix a o e d)
    isa : (r : Bool) (a : ℕ) (e : Expr) (t : TypeText) → FormedExpr r e → FormedType t → FormedExpr r (E.Isa a e t)
    sub : (r : Bool) (a : ℕ) (s t : TypeText) → FormedType s → FormedType t → FormedExpr r (X.Sub a s t)
    choose : (r : Bool) (a : ℕ) (c e d : Expr) → FormedExpr r c → FormedExpr r e → FormedExpr r d → FormedExpr r (E.Choose a c e d)
    if_end : (r : Bool) (a : ℕ) (bs : List Branch) → FormedBranches r bs → FormedExpr r (E.If a bs)
    if_else : (r : Bool) (a : ℕ) (bs : List Branch) (ss : List Stmt) → FormedBranches r bs → FormedStmts r ss → FormedExpr r (E.IfElse a bs ss)
    begin_end : (r : Bool) (a : ℕ) (ss : List Stmt) → FormedStmts r ss → FormedExpr r (E.Begin a ss)
    latest : (r : Bool) (a : ℕ) (f : Callee) (es : List Expr) → FormedCallee f → FormedExprs r es → FormedExpr r (E.Latest a f es)
    delete : (r : Bool) (a : ℕ) (x : Name) (t : TypeText) → IsName x.bytes → FormedType t → FormedExpr r (X.Delete a x t)
    -- a task has no method to return from
    spawn : (r : Bool) (a : ℕ) (e : Expr) → FormedExpr false e → FormedExpr r (E.Spawn a e)
    eval_method : (r : Bool) (a : ℕ) (m : Method) → FormedMethod m → FormedExpr r (E.EvalMethod a m)
    -- nor has an evaluated statement, which is one of the top
    eval_block : (r : Bool) (a : ℕ) (xs : List Eval) → FormedEvals xs → FormedExpr r (E.EvalBlock a xs)
    eval_expr : (r : Bool) (a : ℕ) (e : Expr) → FormedExpr false e → FormedExpr r (E.EvalExpr a e)
    eval_quote : (r : Bool) (a : ℕ) (xs : List Eval) → FormedEvals xs → FormedExpr r (E.EvalQuote a xs)
    fetch : (r : Bool) (a : ℕ) (e : Expr) → FormedExpr r e → FormedExpr r (E.Fetch a e)
    print : (r : Bool) (a : ℕ) (line : Bool) (ps : List Piece) → FormedPieces r ps → FormedExpr r (E.Print a line ps)

  pub data FormedExprs : Bool → List Expr → Type 0 where
    no_exprs : (r : Bool) → FormedExprs r []
    more_exprs : (r : Bool) (e : Expr) (es : List Expr) → FormedExpr r e → FormedExprs r es → FormedExprs r (e ∷ es)

  -- a test with its block
  pub data FormedBranch : Bool → Branch → Type 0 where
    branch : (r : Bool) (a : ℕ) (c : Expr) (ss : List Stmt) → FormedExpr r c → FormedStmts r ss → FormedBranch r (record { at = a; test = c; block = ss })

  pub data FormedBranches : Bool → List Branch → Type 0 where
    no_branches : (r : Bool) → FormedBranches r []
    more_branches : (r : Bool) (b : Branch) (bs : List Branch) → FormedBranch r b → FormedBranches r bs → FormedBranches r (b ∷ bs)

  -- what a `print` writes
  pub data FormedPiece : Bool → Piece → Type 0 where
    text : (r : Bool) (a : ℕ) (t : List ℕ) → IsTrue (is_utf8 t) → FormedPiece r (Q.Text a t)
    show : (r : Bool) (e : Expr) → FormedExpr r e → FormedPiece r (Q.Show e)

  pub data FormedPieces : Bool → List Piece → Type 0 where
    no_pieces : (r : Bool) → FormedPieces r []
    more_pieces : (r : Bool) (p : Piece) (ps : List Piece) → FormedPiece r p → FormedPieces r ps → FormedPieces r (p ∷ ps)

  -- a statement of a block; a `return` where one may stand
  pub data FormedStmt : Bool → Stmt → Type 0 where
    bind_stmt : (r : Bool) (x : Name) (e : Expr) → IsName x.bytes → FormedExpr r e → FormedStmt r (S.Bind x e)
    return_stmt : (a : ℕ) (e : Expr) → FormedExpr true e → FormedStmt true (S.Return a e)
    return_nothing : (a : ℕ) → FormedStmt true (S.ReturnNothing a)
    do_stmt : (r : Bool) (e : Expr) → FormedExpr r e → FormedStmt r (S.Do e)

  pub data FormedStmts : Bool → List Stmt → Type 0 where
    no_stmts : (r : Bool) → FormedStmts r []
    more_stmts : (r : Bool) (s : Stmt) (ss : List Stmt) → FormedStmt r s → FormedStmts r ss → FormedStmts r (s ∷ ss)

  -- a statement of an evaluated block
  pub data FormedEval : Eval → Type 0 where
    method_eval : (m : Method) → FormedMethod m → FormedEval (D.Method m)
    do_eval : (e : Expr) → FormedExpr false e → FormedEval (D.Do e)

  pub data FormedEvals : List Eval → Type 0 where
    no_evals : FormedEvals []
    more_evals : (x : Eval) (xs : List Eval) → FormedEval x → FormedEvals xs → FormedEvals (x ∷ xs)

  -- a method, in whose body a `return` may stand
  pub data FormedMethod : Method → Type 0 where
    long_method : (a : ℕ) (h : Head) (ss : List Stmt) → FormedHead h → FormedStmts true ss → FormedMethod (E.Long a h ss)
    short_method : (a : ℕ) (h : Head) (e : Expr) → FormedHead h → FormedExpr true e → FormedMethod (E.Short a h e)

-- ---- items

-- the head of a declaration
pub record FormedHeader (h : Header) : Type 0 where
  pub name : IsName h.name.bytes
  pub params : FormedVars h.params
  pub parent : FormedOption h.parent

pub record FormedField (f : Field) : Type 0 where
  pub name : IsName f.name.bytes
  pub ty : FormedOption f.ty

pub data FormedFields : List Field → Type 0 where
  no_fields : FormedFields []
  more_fields : (f : Field) (fs : List Field) → FormedField f → FormedFields fs → FormedFields (f ∷ fs)

-- an item; at the top no `return` may stand
pub data FormedItem : Item → Type 0 where
  abstract_item : (h : Header) → FormedHeader h → FormedItem (N.Abstract (record { header = h }))
  struct_item : (h : Header) (fs : List Field) → FormedHeader h → FormedFields fs → FormedItem (N.Struct (record { header = h; fields = fs }))
  method_item : (m : Method) → FormedMethod m → FormedItem (N.Method m)
  bind_item : (x : Name) (e : Expr) → IsName x.bytes → FormedExpr false e → FormedItem (N.Bind x e)
  do_item : (e : Expr) → FormedExpr false e → FormedItem (N.Do e)

pub data FormedItems : List Item → Type 0 where
  no_items : FormedItems []
  more_items : (x : Item) (xs : List Item) → FormedItem x → FormedItems xs → FormedItems (x ∷ xs)

-- a script, of which each item is well formed
abbrev pub FormedScript : Script → Type 0
FormedScript s = FormedItems s.items
