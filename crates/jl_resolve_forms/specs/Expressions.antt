-- What an expression, a statement, a method and an evaluated block become, and what they add (Julia manual, Functions, Control
-- Flow, Metaprogramming, Tasks). A part is read where some slots, static parameters and types are visible; sites, spawn
-- places and deletion places have their numbers in text order, a site and a spawn place before those in its body.
use Rattle.std.specs.Prelude.{ℕ, Bool, true, false, if◌then◌else◌, nat_lt, nat_le, codes, List, [], ◌∷◌, ◌++◌, ◌+◌, map, length, Option, Some, None, slice_get, slice_set, ℤ, pos, negsuc}
use Rattle.jl_model.specs.declared.limits.TheConstants.{MOST_ARGUMENTS, MOST_SITES}
use Rattle.jl_program.specs.declared.prelude.TheConstants.{PLUS, MINUS, TIMES, DIV, REM, EQUAL, NOT_EQUAL, LESS, LESS_EQUAL, GREATER, GREATER_EQUAL, NOT, PRELUDE_SITES}
use Rattle.jl_model.specs.declared.ty.Written.{Written}
use Rattle.jl_model.specs.Ancestors.{named as nominal}
use Rattle.jl_model.specs.Usable.{is_usable}
use Rattle.jl_program.specs.declared.tree.Expr.{Expr as Code}
use Rattle.jl_program.specs.declared.tree.Expr.TheVariants as W
use Rattle.jl_program.specs.declared.tree.Expr.TheViews as X
use Rattle.jl_program.specs.declared.tree.Item.{Item}
use Rattle.jl_program.specs.declared.tree.Item.TheVariants as I
use Rattle.jl_program.specs.declared.tree.Piece.{Piece}
use Rattle.jl_program.specs.declared.tree.Piece.TheVariants as P
use Rattle.jl_program.specs.declared.tree.Site.{Site}
use Rattle.jl_program.specs.declared.tree.Stmt.{Stmt}
use Rattle.jl_program.specs.declared.tree.Stmt.TheVariants as S
use Rattle.jl_program.specs.Names.{same_text, is_among, builtin_names}
use Rattle.jl_typeread.specs.declared.tree.ArgText.{ArgText}
use Rattle.jl_typeread.specs.declared.tree.TypeText.{TypeText}
use Rattle.jl_typeread.specs.declared.tree.VarText.{VarText}
use Rattle.jl_typeread.specs.declared.tree.ArgText.TheOpen as T
use Rattle.jl_typeread.specs.declared.tree.ArgText.TheOpen.{TypeText-F}
use Rattle.jl_typeread.specs.declared.tree.ArgText.TheViews.{out-TypeText}
use Rattle.jl_grammar.specs.declared.tree.Callee.{Callee}
use Rattle.jl_grammar.specs.declared.tree.Callee.TheVariants as C
use Rattle.jl_grammar.specs.declared.tree.Eval.TheFolds.{fold-Branch, fold-Eval, fold-Expr, fold-Method, fold-Piece, fold-Stmt}
use Rattle.jl_grammar.specs.declared.tree.Eval.TheOpen as F
use Rattle.jl_grammar.specs.declared.tree.Eval.TheOpen.{Branch-F, Eval-F, Expr-F, Method-F, Piece-F, Stmt-F}
use Rattle.jl_grammar.specs.declared.tree.Branch.{Branch as BranchText}
use Rattle.jl_grammar.specs.declared.tree.Eval.{Eval as EvalText}
use Rattle.jl_grammar.specs.declared.tree.Expr.{Expr as ExprText}
use Rattle.jl_grammar.specs.declared.tree.Method.{Method as MethodText}
use Rattle.jl_grammar.specs.declared.tree.Piece.{Piece as PieceText}
use Rattle.jl_grammar.specs.declared.tree.Stmt.{Stmt as StmtText}
use Rattle.jl_grammar.specs.declared.tree.Head.{Head}
use Rattle.jl_grammar.specs.declared.tree.Infix.{Infix}
use Rattle.jl_grammar.specs.declared.tree.Infix.TheVariants as N
use Rattle.jl_grammar.specs.declared.tree.Name.{Name}
use Rattle.jl_grammar.specs.declared.tree.Param.{Param}
use Rattle.jl_grammar.specs.declared.tree.Param.TheVariants as A
use Rattle.jl_grammar.specs.declared.tree.Prefix.{Prefix}
use Rattle.jl_grammar.specs.declared.tree.Prefix.TheVariants as R
use Rattle.jl_written.specs.declared.fault.StaticKind.{StaticKind}
use Rattle.jl_written.specs.declared.fault.StaticKind.TheVariants as kind
use Rattle.jl_written.specs.declared.reading.TypeVar.{TypeVar}
use Rattle.jl_written.specs.Signatures.{Signature, signature, tuple_signature, written_of}
use Rattle.jl_resolve_forms.specs.declared.known.Arm.{Arm}
use Rattle.jl_resolve_forms.specs.declared.known.Known.{Known}
use Rattle.jl_resolve_forms.specs.declared.known.Called.{Called}
use Rattle.jl_resolve_forms.specs.declared.known.Called.TheVariants as D
use Rattle.jl_resolve_forms.specs.declared.state.Opening.{Opening}
use Rattle.jl_resolve_forms.specs.declared.state.Scope.{Scope}
use Rattle.jl_resolve_forms.specs.declared.state.SignatureRead.{SignatureRead}
use Rattle.jl_resolve_forms.specs.declared.state.Signed.{Signed}
use Rattle.jl_resolve_forms.specs.declared.state.State.{State}
use Rattle.jl_resolve_forms.specs.Resolver.{Resolver, resolution, pure, modify, traverse, ◌>>=◌, ◌>>◌}
use Rattle.jl_resolve_forms.specs.Scopes.{slot_of, note, note_if, merge_fault, with_slot, bind}
use Rattle.jl_resolve_forms.specs.Functions.{place_of_callee, function_of, own_function, struct_named, callee_of}
use Rattle.jl_resolve_forms.specs.Parameters.{has_usable_parameters_at}
use Rattle.jl_resolve_forms.specs.TypesIn.{Tests, declared_at, refusal, start_of, one_type, type_in_body, make_at}

-- ---- the parts of a form by what they mean

-- an expression
abbrev pub Reads : Type 0
Reads = Scope → Resolver Code

-- a method, where so many types are declared before it: the number of its site
abbrev pub Defines : Type 0
Defines = ℕ → Resolver ℕ

-- a statement
pub data Says : Type 0 where
  binds : Name → Reads → Says
  returns : Reads → Says
  does : Reads → Says

-- a statement of an evaluated block
pub data Evaluates : Type 0 where
  defines : Defines → Evaluates
  evaluates : Reads → Evaluates

-- what a print writes
pub data Shows : Type 0 where
  writes : List ℕ → Shows
  shows : Reads → Shows

-- a test with its block
pub record Tries : Type 0 where
  pub test : Reads
  pub block : List Says

-- ---- lists of parts

-- expressions from left to right
abbrev pub all_coded : List Reads → Scope → Resolver (List Code)
all_coded xs c = traverse (λ x. x c) xs

-- a binding takes the next slot
abbrev pub bound : Name → Scope → Code → Resolver (Stmt × Scope)
bound n c y = do
  d ← bind n c
  pure (S.Bind (length c.slots) y, d)

-- a statement, and what is visible after it
abbrev pub one_said : Says → Scope → Resolver (Stmt × Scope)
one_said (binds n x) c = do
  y ← x c
  bound n c y
one_said (returns x) c = do
  y ← x c
  pure (S.Return y, c)
one_said (does x) c = do
  y ← x c
  pure (S.Do y, c)

-- statements one after another, where each sees the bindings before it
abbrev pub all_said : List Says → Scope → Resolver (List Stmt × Scope)
all_said [] c = pure ([], c)
all_said (x ∷ xs) c = do
  (y, d) ← one_said x c
  (ys, e) ← all_said xs d
  pure (y ∷ ys, e)

-- a block, whose bindings end with it
abbrev pub block_of : List Says → Reads
block_of xs c = do
  (ys, _) ← all_said xs c
  pure (X.Block ys)

abbrev pub one_shown : Shows → Scope → Resolver Piece
one_shown (writes bytes) c = pure (P.Text bytes)
one_shown (shows x) c = do
  y ← x c
  pure (P.Show y)

abbrev pub all_shown : List Shows → Scope → Resolver (List Piece)
all_shown xs c = traverse (λ x. one_shown x c) xs

-- an evaluated statement sees neither slots nor static parameters
abbrev pub bare_scope : ℕ → Scope
bare_scope types = record { slots = []; statics = []; types = types }

abbrev pub one_evaluated : Evaluates → ℕ → Resolver Item
one_evaluated (defines m) types = do
  n ← m types
  pure (I.Define n)
one_evaluated (evaluates x) types = do
  y ← x (bare_scope types)
  pure (I.Do y)

abbrev pub all_evaluated : List Evaluates → ℕ → Resolver (List Item)
all_evaluated xs types = traverse (λ x. one_evaluated x types) xs

-- a test of an `if` with its block
abbrev pub arm : Code → Code → Arm
arm x y = record { test = x; then = y }

abbrev pub one_tried : Tries → Scope → Resolver Arm
one_tried b c = do
  x ← b.test c
  y ← block_of b.block c
  pure (arm x y)

abbrev pub all_tried : List Tries → Scope → Resolver (List Arm)
all_tried bs c = traverse (λ b. one_tried b c) bs

-- an `elseif` is an `if` in the branch where it stands
abbrev pub chain_arms : List Arm → Code → Code
chain_arms [] e = e
chain_arms (a ∷ as_) e = X.If a.test a.then (chain_arms as_ e)

-- ---- forms

abbrev pub evaluated : List Evaluates → Reads
evaluated xs c = do
  ys ← all_evaluated xs c.types
  pure (X.Eval ys)

-- a name that is used as a value
unfoldable pub local : ℕ → Option ℕ → Resolver Code
local at None = do
  modify (note at kind.UnknownName)
  pure W.Nothing
local at (Some slot) = pure (W.Local slot)

unfoldable pub prefix_code : Prefix → Code → Code
prefix_code R.Minus x = X.Call MINUS (x ∷ [])
prefix_code R.Not x = X.Call NOT (x ∷ [])

unfoldable pub infix_code : Infix → Code → Code → Code
infix_code N.Or x y = X.Or x y
infix_code N.And x y = X.And x y
infix_code N.Equal x y = X.Call EQUAL (x ∷ y ∷ [])
infix_code N.NotEqual x y = X.Call NOT_EQUAL (x ∷ y ∷ [])
infix_code N.Less x y = X.Call LESS (x ∷ y ∷ [])
infix_code N.LessEqual x y = X.Call LESS_EQUAL (x ∷ y ∷ [])
infix_code N.Greater x y = X.Call GREATER (x ∷ y ∷ [])
infix_code N.GreaterEqual x y = X.Call GREATER_EQUAL (x ∷ y ∷ [])
infix_code N.Identical x y = X.Egal x y false
infix_code N.NotIdentical x y = X.Egal x y true
infix_code N.Plus x y = X.Call PLUS (x ∷ y ∷ [])
infix_code N.Minus x y = X.Call MINUS (x ∷ y ∷ [])
infix_code N.Times x y = X.Call TIMES (x ∷ y ∷ [])
infix_code N.Divide x y = X.Call DIV (x ∷ y ∷ [])
infix_code N.Remainder x y = X.Call REM (x ∷ y ∷ [])

-- a counted call has at most 8 arguments
abbrev pub count_call : ℕ → List Code → State → State
count_call at xs s = if nat_lt MOST_ARGUMENTS (length xs) then note at kind.TooManyArguments s else s

-- the call of `invokelatest`
unfoldable pub latest : ℕ → Option ℕ → List Code → Resolver Code
latest at (Some f) xs = do
  modify (count_call at xs)
  pure (X.Latest f xs)
latest at None xs = do
  modify (note at kind.UnknownFunction)
  pure W.Nothing

-- the next spawn place: its number, and the state in which its expression is read
abbrev pub awaited : Resolver ℕ
awaited s = resolution (length s.spawns) (record s { spawns = s.spawns ++ W.Nothing ∷ [] })

-- the expression of a spawn place
abbrev pub spawned_at : ℕ → Code → Resolver Code
spawned_at n y s = resolution (W.Spawn n) (record s { spawns = slice_set s.spawns n y })

-- the spawn place of a task has its number before those in its expression
unfoldable pub spawned : Reads → Reads
spawned x c = do
  n ← awaited
  y ← x c
  spawned_at n y

-- the number of a part, which is at least 1
unfoldable pub part_number : ℤ → ℕ
part_number (pos n) = n
part_number (negsuc n) = 0

-- the struct of an explicit constructor, and the arguments in its braces
abbrev pub make_struct : Known → TypeText-F ArgText TypeText VarText → Scope → Option ℕ
make_struct k (T.Name at name) c = struct_named k name c
make_struct k (T.Applied at name args) c = struct_named k name c
make_struct k (T.Paren at ty vs) c = None

abbrev pub make_args : TypeText-F ArgText TypeText VarText → List ArgText
make_args (T.Name at name) = []
make_args (T.Applied at name args) = args
make_args (T.Paren at ty vs) = []

-- the name `Tuple` with its arguments in braces
abbrev pub is_tuple : TypeText-F ArgText TypeText VarText → Bool
is_tuple (T.Name at name) = false
is_tuple (T.Applied at name args) = same_text name (codes "Tuple")
is_tuple (T.Paren at ty vs) = false

-- a type that is read as a signature: a tuple, or one with a `where` in parentheses
abbrev pub is_signature : TypeText-F ArgText TypeText VarText → Bool
is_signature (T.Name at name) = false
is_signature (T.Applied at name args) = same_text name (codes "Tuple")
is_signature (T.Paren at ty []) = false
is_signature (T.Paren at ty (v ∷ vs)) = is_tuple (out-TypeText ty)

-- the arguments of its tuple, and the variables of its `where`
abbrev pub signature_args : TypeText-F ArgText TypeText VarText → List ArgText
signature_args (T.Name at name) = []
signature_args (T.Applied at name args) = args
signature_args (T.Paren at ty vs) = make_args (out-TypeText ty)

abbrev pub signature_vars : TypeText-F ArgText TypeText VarText → List VarText
signature_vars (T.Name at name) = []
signature_vars (T.Applied at name args) = []
signature_vars (T.Paren at ty vs) = vs

-- ---- methods

abbrev pub type_of : Param → Option TypeText
type_of (A.Name n) = None
type_of (A.Typed n t) = Some t
type_of (A.Unnamed at t) = Some t

-- parameters have the slots from 0 on; an unnamed one binds nothing
abbrev pub parameters : List Param → Scope → Resolver Scope
parameters [] c = pure c
parameters (A.Name n ∷ ps) c = do
  d ← bind n c
  parameters ps d
parameters (A.Typed n t ∷ ps) c = do
  d ← bind n c
  parameters ps d
parameters (A.Unnamed at t ∷ ps) c = parameters ps (with_slot None c)

-- a static parameter, with whether it is usable in the body (Julia manual, Methods)
abbrev pub static_parameter : Written → TypeVar → TypeVar
static_parameter w v = record { name = v.name; number = v.number; usable = is_usable w v.number }

abbrev pub static_parameters : Written → List TypeVar → List TypeVar
static_parameters w vs = map (static_parameter w) vs

abbrev pub names_in : List Name → List (List ℕ)
names_in ns = map (λ (n : Name). n.bytes) ns

-- a function has no built-in name, unless `Base.` stands before it, and not that of a type of the script
abbrev pub may_define : Known → Callee → Option StaticKind
may_define k (C.Plain n) = if is_among n.bytes builtin_names then Some kind.NameClash else (if is_among n.bytes (names_in k.types) then Some kind.NameClash else None)
may_define k (C.Base at n) = None
may_define k (C.Operator at o) = None

abbrev pub defined_function : Option ℕ → ℕ
defined_function None = 0
defined_function (Some f) = f

-- a function behind `Base.` is one of the prelude
abbrev pub if_unknown : Option ℕ → Option StaticKind
if_unknown None = Some kind.UnknownFunction
if_unknown (Some f) = None

-- a script has at most 4,096 sites beside those of the prelude
abbrev pub site_limit : ℕ
site_limit = MOST_SITES + PRELUDE_SITES

abbrev pub too_many : State → Option StaticKind
too_many s = if nat_le site_limit (length s.sites) then Some kind.TooManySites else None

abbrev pub signature_as : SignatureRead → Signature
signature_as r = record { vars = r.vars; types = record { tys = r.types; after = r.reading } }

abbrev pub site_of : Opening → Code → Site
site_of o x = record { function = o.function; sig = o.sig; body = x }

-- the next site, whose body is read after this
unfoldable pub reserve_site : Opening → State → State
reserve_site o s = record s { sites = s.sites ++ site_of o W.Nothing ∷ [] }

-- its number
abbrev pub next_site : Opening → Resolver ℕ
next_site o s = resolution (length s.sites) (reserve_site o s)

-- the body of a site
unfoldable pub close_site : ℕ → Opening → Code → State → State
close_site n o x s = record s { sites = slice_set s.sites n (site_of o x) }

-- the signature of a method
abbrev pub judge_signature : Tests → Signature → Signed
judge_signature t sg =
    let w = written_of t.below sg.types in
    record { vars = sg.vars; sig = w; fault = sg.types.after.fault; refusal = refusal t.signature sg.types.after w }

-- what a body sees: the slots of its parameters, and the static parameters
abbrev pub opening : ℕ → Signed → Scope → Opening
opening f g c = record { function = f; sig = g.sig; scope = c }

abbrev pub open_body : ℕ → ℕ → Signed → List Param → Resolver Opening
open_body f types g ps = do
  c ← parameters ps (record { slots = []; statics = static_parameters g.sig g.vars; types = types })
  pure (opening f g c)

-- the faults at the name of a method: its function, its signature, and its number
abbrev pub check_name : Known → ℕ → Callee → Option ℕ → Signed → State → State
check_name k at callee f g s =
    let s1 = note_if at (may_define k callee) (note_if at (if_unknown f) s) in
    let s2 = note_if at g.refusal (merge_fault g.fault s1) in
    note_if at (too_many s2) s2

-- the next deletion place
abbrev pub next_delete : ℕ → Written → Resolver Code
next_delete f w s = resolution (W.Delete (length s.deletes)) (record s { deletes = s.deletes ++ record { function = f; sig = w } ∷ [] })

-- a deletion of the methods of a function with this signature, which begins here
abbrev pub delete_signed : ℕ → ℕ → Signed → Resolver Code
delete_signed f at g = do
  modify (merge_fault g.fault)
  modify (note_if at g.refusal)
  next_delete f g.sig

module _ (t : Tests) (k : Known) where
  -- a call of a function or a constructor
  abbrev pub inferred_refusal : ℕ → Option StaticKind
  inferred_refusal p = if has_usable_parameters_at (slice_get k.decls p) then (if t.wide p then Some kind.TypeLimit else None) else Some kind.StaticParameterUse

  unfoldable pub call : ℕ → Called → List Code → Resolver Code
  call at (D.Function f) xs = do
    modify (count_call at xs)
    pure (X.Call f xs)
  call at (D.Bare p) xs = pure (X.Make (one_type (nominal p) []) xs)
  call at (D.Inferred p) xs = do
    modify (note_if at (inferred_refusal p))
    pure (X.Infer p xs)
  call at D.Unknown xs = do
    modify (note at kind.UnknownFunction)
    pure W.Nothing

  -- an explicit constructor: its struct is one of the script
  unfoldable pub made : ℕ → Option ℕ → List ArgText → List Reads → Reads
  made at None args xs c = do
    _ ← all_coded xs c
    modify (note at kind.UnknownFunction)
    pure W.Nothing
  made at (Some p) args xs c = do
    w ← make_at t k at p args c
    ys ← all_coded xs c
    pure (X.Make w ys)

  abbrev pub is_a : Reads → TypeText → Reads
  is_a x ty c = do
    y ← x c
    w ← type_in_body t k ty c
    pure (X.Isa y w)

  abbrev pub is_below : TypeText → TypeText → Reads
  is_below a b c = do
    v ← type_in_body t k a c
    w ← type_in_body t k b c
    pure (W.Sub v w)

  abbrev pub method_signature : ℕ → Head → Signed
  method_signature types h = judge_signature t (signature (declared_at k types) (map type_of h.params) h.vars)

  -- a method up to its body
  unfoldable pub open_method : Head → ℕ → Resolver Opening
  open_method h types = do
    let f = function_of k h.callee (bare_scope types)
    let g = method_signature types h
    modify (check_name k (place_of_callee h.callee) h.callee f g)
    open_body (defined_function f) types g h.params

  -- a method up to its body, with the number of its site
  abbrev pub started : Head → ℕ → Resolver (ℕ × Opening)
  started h types = do
    o ← open_method h types
    n ← next_site o
    pure (n, o)

  -- the site of a method has its number before those in its body
  abbrev pub method : Head → Reads → Defines
  method h body types = do
    (n, o) ← started h types
    y ← body o.scope
    modify (close_site n o y)
    pure n

  -- the signature of a deletion: no type variable is visible in it but its own
  abbrev pub deleted_signature : ℕ → TypeText → Signed
  deleted_signature types ty = judge_signature t (tuple_signature (declared_at k types) (signature_args (out-TypeText ty)) (signature_vars (out-TypeText ty)))

  -- a deletion of methods of this function, by a type that is read as a signature or not
  abbrev pub delete_of : Bool → ℕ → TypeText → ℕ → Resolver Code
  delete_of false f ty types = do
    modify (note (start_of ty) kind.BadType)
    pure W.Nothing
  delete_of true f ty types = delete_signed f (start_of ty) (deleted_signature types ty)

  -- a deletion: its function is one of the script
  unfoldable pub delete : Name → TypeText → Reads
  delete n ty c = do
    let f = own_function k n c
    modify (note_if n.at (if_unknown f))
    delete_of (is_signature (out-TypeText ty)) (defined_function f) ty c.types

  abbrev pub expr_step : Expr-F Evaluates Reads Defines Shows Says Tries → Reads
  expr_step (F.Number at n) c = pure (W.Int n)
  expr_step (F.Bool at b) c = pure (W.Bool b)
  expr_step (F.Nothing at) c = pure W.Nothing
  expr_step (F.Name at n) c = local at (slot_of c.slots n)
  expr_step (F.Paren at x) c = x c
  expr_step (F.Tuple at xs) c = do
    ys ← all_coded xs c
    pure (X.Parts ys)
  expr_step (F.Call at f xs) c = do
    ys ← all_coded xs c
    call (place_of_callee f) (callee_of k f c) ys
  expr_step (F.Make at ty xs) c = made (start_of ty) (make_struct k (out-TypeText ty) c) (make_args (out-TypeText ty)) xs c
  expr_step (F.Field at x n) c = do
    y ← x c
    pure (X.Field y n.bytes)
  expr_step (F.Part at x n) c = do
    y ← x c
    pure (X.Part y (part_number n))
  expr_step (F.Prefix at o x) c = do
    y ← x c
    pure (prefix_code o y)
  expr_step (F.Infix at o a b) c = do
    x ← a c
    y ← b c
    pure (infix_code o x y)
  expr_step (F.Isa at x ty) c = is_a x ty c
  expr_step (F.Sub at a b) c = is_below a b c
  expr_step (F.Choose at q a b) c = do
    z ← q c
    x ← a c
    y ← b c
    pure (X.If z x y)
  expr_step (F.If at bs) c = do
    ys ← all_tried bs c
    pure (chain_arms ys W.Nothing)
  expr_step (F.IfElse at bs ss) c = do
    ys ← all_tried bs c
    z ← block_of ss c
    pure (chain_arms ys z)
  expr_step (F.Begin at ss) c = block_of ss c
  expr_step (F.Latest at f xs) c = do
    ys ← all_coded xs c
    latest (place_of_callee f) (function_of k f c) ys
  expr_step (F.Delete at n ty) c = delete n ty c
  expr_step (F.Spawn at x) c = spawned x c
  expr_step (F.EvalMethod at m) c = evaluated (defines m ∷ []) c
  expr_step (F.EvalBlock at xs) c = evaluated xs c
  expr_step (F.EvalExpr at x) c = evaluated (evaluates x ∷ []) c
  expr_step (F.EvalQuote at xs) c = evaluated xs c
  expr_step (F.Fetch at x) c = do
    y ← x c
    pure (X.Fetch y)
  expr_step (F.Print at line ps) c = do
    ys ← all_shown ps c
    pure (X.Print ys line)

  abbrev pub method_step : Method-F Evaluates Reads Defines Shows Says Tries → Defines
  method_step (F.Long at h ss) types = method h (block_of ss) types
  method_step (F.Short at h x) types = method h x types

  abbrev pub stmt_step : Stmt-F Evaluates Reads Defines Shows Says Tries → Says
  stmt_step (F.Bind n x) = binds n x
  stmt_step (F.Return at x) = returns x
  stmt_step (F.ReturnNothing at) = returns (λ c. pure W.Nothing)
  stmt_step (F.Stmt::Do x) = does x

  abbrev pub eval_step : Eval-F Evaluates Reads Defines Shows Says Tries → Evaluates
  eval_step (F.Method m) = defines m
  eval_step (F.Eval::Do x) = evaluates x

  abbrev pub piece_step : Piece-F Evaluates Reads Defines Shows Says Tries → Shows
  piece_step (F.Text at bytes) = writes bytes
  piece_step (F.Show x) = shows x

  abbrev pub branch_step : Branch-F Evaluates Reads Defines Shows Says Tries → Tries
  branch_step b = record { test = b.test; block = b.block }

  -- what an expression becomes
  abbrev pub expr_reads : ExprText → Reads
  expr_reads = fold-Expr Evaluates Reads Defines Shows Says Tries eval_step expr_step method_step piece_step stmt_step branch_step

  abbrev pub method_reads : MethodText → Defines
  method_reads = fold-Method Evaluates Reads Defines Shows Says Tries eval_step expr_step method_step piece_step stmt_step branch_step

  abbrev pub stmt_reads : StmtText → Says
  stmt_reads = fold-Stmt Evaluates Reads Defines Shows Says Tries eval_step expr_step method_step piece_step stmt_step branch_step

  abbrev pub eval_reads : EvalText → Evaluates
  eval_reads = fold-Eval Evaluates Reads Defines Shows Says Tries eval_step expr_step method_step piece_step stmt_step branch_step

  abbrev pub piece_reads : PieceText → Shows
  piece_reads = fold-Piece Evaluates Reads Defines Shows Says Tries eval_step expr_step method_step piece_step stmt_step branch_step

  abbrev pub branch_reads : BranchText → Tries
  branch_reads = fold-Branch Evaluates Reads Defines Shows Says Tries eval_step expr_step method_step piece_step stmt_step branch_step
