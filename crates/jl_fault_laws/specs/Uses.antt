-- The uses of names in a script, each with what is visible there (Julia manual, Scope of Variables; Types): where a name is a
-- value, where a function or a constructor is called, where a method is added to a function or deleted, where a name stands for a
-- type, and where a variable, a type variable or a type gets its name. Neither faults nor slots nor code are named here.
use Rattle.std.specs.Prelude.{ℕ, ◌+◌, max, Bool, true, false, ◌&&◌, ◌||◌, not, if◌then◌else◌, codes, List, [], ◌∷◌, ◌++◌, map, take, length, Option, Some, None, is_some}
use Rattle.jl_model.specs.declared.ty.Decl.{Decl}
use Rattle.jl_program.specs.Names.{same_text, is_among}
use Rattle.jl_typeread.specs.declared.tree.ArgText.{ArgText}
use Rattle.jl_typeread.specs.declared.tree.TypeText.{TypeText}
use Rattle.jl_typeread.specs.declared.tree.VarText.{VarText}
use Rattle.jl_typeread.specs.declared.tree.ArgText.TheFolds.{fold-ArgText, fold-TypeText, fold-VarText}
use Rattle.jl_typeread.specs.declared.tree.ArgText.TheOpen as T
use Rattle.jl_typeread.specs.declared.tree.ArgText.TheOpen.{ArgText-F, TypeText-F, VarText-F}
use Rattle.jl_typeread.specs.declared.tree.ArgText.TheViews.{out-TypeText}
use Rattle.jl_grammar.specs.declared.tree.Branch.{Branch}
use Rattle.jl_grammar.specs.declared.tree.Callee.{Callee}
use Rattle.jl_grammar.specs.declared.tree.Eval.{Eval}
use Rattle.jl_grammar.specs.declared.tree.Eval.TheFolds.{fold-Branch, fold-Eval, fold-Expr, fold-Method, fold-Piece, fold-Stmt}
use Rattle.jl_grammar.specs.declared.tree.Eval.TheOpen as F
use Rattle.jl_grammar.specs.declared.tree.Eval.TheOpen.{Branch-F, Eval-F, Expr-F, Method-F, Piece-F, Stmt-F}
use Rattle.jl_grammar.specs.declared.tree.Expr.{Expr}
use Rattle.jl_grammar.specs.declared.tree.Head.{Head}
use Rattle.jl_grammar.specs.declared.tree.Item.{Item}
use Rattle.jl_grammar.specs.declared.tree.Item.TheVariants as N
use Rattle.jl_grammar.specs.declared.tree.Method.{Method}
use Rattle.jl_grammar.specs.declared.tree.Name.{Name}
use Rattle.jl_grammar.specs.declared.tree.Param.{Param}
use Rattle.jl_grammar.specs.declared.tree.Param.TheVariants as P
use Rattle.jl_grammar.specs.declared.tree.Piece.{Piece}
use Rattle.jl_grammar.specs.declared.tree.Stmt.{Stmt}
use Rattle.jl_model.specs.declared.builtin.TheConstants.{BUILTIN_TYPES}
use Rattle.jl_written.specs.Meaning.{place_of}
use Rattle.jl_resolve_forms.specs.declared.known.Known.{Known}
use Rattle.jl_resolve_forms.specs.Expressions.{make_args, is_signature, signature_args, signature_vars, type_of}
use Rattle.jl_resolve_forms.specs.Functions.{if_struct, place_of_callee}
use Rattle.jl_resolve_forms.specs.Top.{first_at}
use Rattle.jl_resolve_forms.specs.TypesIn.{start_of}

abbrev pub Names : Type 0
Names = List (List ℕ)

-- What is visible at a place: the variables; the type variables, and those of them that the type itself brings; in a type the same
-- two as they were at its beginning, and whether the place is in a bound; the types that are declared before it; and the method in
-- whose body it is.
pub record Visible : Type 0 where
  pub names : Names
  pub vars : Names
  pub inner : Names
  pub first : Names
  pub first_inner : Names
  pub bounded : Bool
  pub types : Names
  pub method : Option Head

abbrev pub with_name : List ℕ → Visible → Visible
with_name n v = record v { names = n ∷ v.names }

abbrev pub with_var : List ℕ → Visible → Visible
with_var n v = record v { vars = n ∷ v.vars; inner = n ∷ v.inner }

-- a type begins, which is no part of another one
abbrev pub in_type : Visible → Visible
in_type v = record v { first = v.vars; first_inner = v.inner; bounded = false }

-- A bound sees the type variables that are declared before it. Those of a `where` come after the type in front of it, so a bound in
-- that type sees only what is visible at the beginning of the whole type.
abbrev pub in_bound : Visible → Visible
in_bound v = record v { vars = if v.bounded then v.vars else v.first; inner = if v.bounded then v.inner else v.first_inner; bounded = true }

-- a method and an evaluated statement see no variable around them, and the variables of a `where` at the end come before all others
abbrev pub bare : Visible → Visible
bare v = record { names = []; vars = []; inner = []; first = []; first_inner = []; bounded = true; types = v.types; method = None }

-- What the whole script tells of names: its types, the built-in ones first, in text order; which names are structs of it; and
-- where it names its functions and its types.
pub record ScriptNames : Type 0 where
  pub types : Names
  pub structs : List ℕ → Bool
  pub functions : List Name
  pub own_types : List Name

abbrev pub type_names : List Decl → Names
type_names ds = map (λ (d : Decl). d.name) ds

-- the script declares a struct of this name
abbrev pub declares : Known → List ℕ → Bool
declares k name = is_some (if_struct k.decls (place_of (type_names k.decls) name))

abbrev pub names_told : Known → ScriptNames
names_told k = record { types = type_names k.decls; structs = declares k; functions = k.methods; own_types = k.types }

-- how a name is used
pub data How : Type 0 where
  -- as a value
  value : List ℕ → How
  -- called with so many arguments
  called : Callee → ℕ → How
  -- called with braces behind it
  made : TypeText → How
  -- a struct, called with these type arguments in braces
  built : TypeText → How
  -- called by `Base.invokelatest` with so many arguments
  latest : Callee → ℕ → How
  -- methods of it are deleted
  deleted : Name → How
  -- a method with this head is added to it
  defined : Head → How
  -- a variable gets it
  bound : List ℕ → How
  -- a variable at the top has it, and a function or a type of the script has it too: at the later of the two places
  shared : List ℕ → How
  -- a type variable gets it
  type_variable : List ℕ → How
  -- a type of the script gets it
  declared_type : List ℕ → How
  -- as a type, without braces
  plain_type : List ℕ → How
  -- as a type, with braces behind it
  braced_type : List ℕ → How
  -- as the first of a type that is written in a body
  written : TypeText → How
  -- as the first of a type that tells which methods are deleted
  deleted_by : TypeText → How

-- a use of a name: where it stands, and what is visible there
pub record Use : Type 0 where
  pub at : ℕ
  pub how : How
  pub visible : Visible

abbrev pub used : ℕ → How → Visible → Use
used at h v = record { at = at; how = h; visible = v }

-- ---- the uses in a part, by what is visible there

abbrev pub Uses : Type 0
Uses = Visible → List Use

-- of a statement, with the name that it binds, if it binds one
pub record Stated : Type 0 where
  pub uses : Uses
  pub names : List Name

-- parts from left to right, which all see the same
abbrev pub each : List Uses → Uses
each [] v = []
each (x ∷ xs) v = x v ++ each xs v

-- names that become visible
abbrev pub then_names : List Name → Names → Names
then_names [] vs = vs
then_names (n ∷ ns) vs = then_names ns (n.bytes ∷ vs)

abbrev pub with_names : List Name → Visible → Visible
with_names ns v = record v { names = then_names ns v.names }

-- statements one after another, of which each sees what those before it bind
abbrev pub block : List Stated → Uses
block [] v = []
block (s ∷ ss) v = s.uses v ++ block ss (with_names s.names v)

-- the parameters that have a name
abbrev pub params_of : List Param → List Name
params_of [] = []
params_of (P.Name n ∷ ps) = n ∷ params_of ps
params_of (P.Typed n t ∷ ps) = n ∷ params_of ps
params_of (P.Unnamed at t ∷ ps) = params_of ps

-- parameters are bound one after another
abbrev pub params_uses : List Param → Uses
params_uses [] v = []
params_uses (P.Name n ∷ ps) v = used n.at (bound n.bytes) v ∷ params_uses ps (with_name n.bytes v)
params_uses (P.Typed n t ∷ ps) v = used n.at (bound n.bytes) v ∷ params_uses ps (with_name n.bytes v)
params_uses (P.Unnamed at t ∷ ps) v = params_uses ps v

-- ---- in types

-- a name is a type by itself: a type variable there, `Any`, `Int`, or a type that is declared before
abbrev pub is_type : List ℕ → Visible → Bool
is_type n v = is_among n v.vars || (same_text n (codes "Any") || (not (same_text n (codes "Union") || same_text n (codes "Tuple")) && (same_text n (codes "Int") || is_among n v.types)))

-- a name is a type with braces behind it: `Union`, `Tuple`, `Int`, or a type that is declared before, and no type variable there
abbrev pub takes_braces : List ℕ → Visible → Bool
takes_braces n v = not (is_among n v.vars) && (not (same_text n (codes "Any")) && (same_text n (codes "Union") || (same_text n (codes "Tuple") || (same_text n (codes "Int") || is_among n v.types))))

-- where the name is no type, what stands in its braces is not read
abbrev pub if_read : Bool → List Use → List Use
if_read b us = if b then us else []

-- a type variable: where it stands, its name, and the uses in its bounds
pub record Brings : Type 0 where
  pub at : ℕ
  pub name : List ℕ
  pub uses : Uses

-- type variables one after another, each visible in what follows it
abbrev pub then_vars : List Brings → Names → Names
then_vars [] vs = vs
then_vars (x ∷ xs) vs = then_vars xs (x.name ∷ vs)

abbrev pub with_vars : List Brings → Visible → Visible
with_vars xs v = record v { vars = then_vars xs v.vars; inner = then_vars xs v.inner }

-- where their bounds see b
abbrev pub brought_by : List Brings → Visible → Uses
brought_by [] b v = []
brought_by (x ∷ xs) b v = (x.uses b ++ used x.at (type_variable x.name) v ∷ []) ++ brought_by xs (with_var x.name b) (with_var x.name v)

abbrev pub brought : List Brings → Uses
brought xs v = brought_by xs (in_bound v) v

abbrev pub type_step : TypeText-F Uses Uses Brings → Uses
type_step (T.Name at n) v = used at (plain_type n) v ∷ []
type_step (T.Applied at n xs) v = used at (braced_type n) v ∷ if_read (takes_braces n v) (each xs v)
type_step (T.Paren at t ws) v = brought ws v ++ t (with_vars ws v)

abbrev pub arg_step : ArgText-F Uses Uses Brings → Uses
arg_step (T.Exact t) = t
arg_step (T.ArgText::Below at t) = λ v. t (in_bound v)
arg_step (T.ArgText::Above at t) = λ v. t (in_bound v)

abbrev pub var_step : VarText-F Uses Uses Brings → Brings
var_step (T.Free at n) = record { at = at; name = n; uses = λ v. [] }
var_step (T.VarText::Below at n t) = record { at = at; name = n; uses = t }
var_step (T.VarText::Above at n t) = record { at = at; name = n; uses = t }
var_step (T.Between l at n h) = record { at = at; name = n; uses = λ v. l v ++ h v }

abbrev pub type_uses : TypeText → Uses
type_uses = fold-TypeText Uses Uses Brings arg_step type_step var_step

abbrev pub arg_uses : ArgText → Uses
arg_uses = fold-ArgText Uses Uses Brings arg_step type_step var_step

abbrev pub var_uses : VarText → Brings
var_uses = fold-VarText Uses Uses Brings arg_step type_step var_step

-- a type that is no part of another one, and arguments that are in none
abbrev pub alone_uses : TypeText → Uses
alone_uses t v = type_uses t (in_type v)

abbrev pub args_uses : List ArgText → Uses
args_uses xs v = each (map arg_uses xs) (in_type v)

-- a parameter or a field may have no type
abbrev pub option_uses : Option TypeText → Uses
option_uses None v = []
option_uses (Some t) v = alone_uses t v

abbrev pub options_uses : List (Option TypeText) → Uses
options_uses [] v = []
options_uses (t ∷ ts) v = option_uses t v ++ options_uses ts v

-- a type in a body
abbrev pub body_uses : TypeText → Uses
body_uses t v = used (start_of t) (written t) v ∷ alone_uses t v

-- the type arguments of a struct that is called
abbrev pub built_uses : TypeText → Uses
built_uses t v = used (start_of t) (built t) v ∷ args_uses (make_args (out-TypeText t)) v

-- the type of a deletion sees no type variable but its own
abbrev pub tuple_uses : List ArgText → List VarText → Uses
tuple_uses xs ws v = brought (map var_uses ws) (bare v) ++ args_uses xs (with_vars (map var_uses ws) (bare v))

abbrev pub deleted_uses : TypeText → Uses
deleted_uses t v = used (start_of t) (deleted_by t) (bare v) ∷ if_read (is_signature (out-TypeText t)) (tuple_uses (signature_args (out-TypeText t)) (signature_vars (out-TypeText t)) v)

-- ---- of a method up to its body

-- its types see the variables of its `where`
abbrev pub in_head : Head → Visible → Visible
in_head h v = with_vars (map var_uses h.vars) (bare v)

abbrev pub signature_uses : Head → Uses
signature_uses h v = brought (map var_uses h.vars) (bare v) ++ options_uses (map type_of h.params) (in_head h v)

-- after its signature the variables of its `where` are those of the method
abbrev pub after_head : Head → Visible → Visible
after_head h v = record (in_head h v) { inner = []; method = Some h }

abbrev pub head_uses : Head → Uses
head_uses h v = used (place_of_callee h.callee) (defined h) (bare v) ∷ (signature_uses h v ++ params_uses h.params (after_head h v))

-- its body sees its parameters too, and no variable of the script
abbrev pub in_body : Head → Visible → Visible
in_body h v = with_names (params_of h.params) (after_head h v)

module _ (g : ScriptNames) where
  -- a struct of the script before braces, which no variable hides
  abbrev pub makes_layer : TypeText-F ArgText TypeText VarText → Visible → Bool
  makes_layer (T.Name at n) v = not (is_among n v.names) && g.structs n
  makes_layer (T.Applied at n xs) v = not (is_among n v.names) && g.structs n
  makes_layer (T.Paren at t ws) v = false

  abbrev pub makes : TypeText → Visible → Bool
  makes t v = makes_layer (out-TypeText t) v

  -- ---- one line a form

  abbrev pub expr_step : Expr-F Uses Uses Uses Uses Stated Uses → Uses
  expr_step (F.Number at n) v = []
  expr_step (F.Bool at b) v = []
  expr_step (F.Nothing at) v = []
  expr_step (F.Name at n) v = used at (value n) v ∷ []
  expr_step (F.Paren at x) v = x v
  expr_step (F.Tuple at xs) v = each xs v
  expr_step (F.Call at f xs) v = each xs v ++ used (place_of_callee f) (called f (length xs)) v ∷ []
  expr_step (F.Make at ty xs) v = if_read (makes ty v) (built_uses ty v) ++ (each xs v ++ used (start_of ty) (made ty) v ∷ [])
  expr_step (F.Field at x n) v = x v
  expr_step (F.Part at x n) v = x v
  expr_step (F.Prefix at o x) v = x v
  expr_step (F.Infix at o a b) v = a v ++ b v
  expr_step (F.Isa at x ty) v = x v ++ body_uses ty v
  expr_step (F.Sub at a b) v = body_uses a v ++ body_uses b v
  expr_step (F.Choose at q a b) v = q v ++ (a v ++ b v)
  expr_step (F.If at bs) v = each bs v
  expr_step (F.IfElse at bs ss) v = each bs v ++ block ss v
  expr_step (F.Begin at ss) v = block ss v
  expr_step (F.Latest at f xs) v = each xs v ++ used (place_of_callee f) (latest f (length xs)) v ∷ []
  expr_step (F.Delete at n ty) v = used n.at (deleted n) v ∷ deleted_uses ty v
  expr_step (F.Spawn at x) v = x v
  expr_step (F.EvalMethod at m) v = m v
  expr_step (F.EvalBlock at xs) v = each xs v
  expr_step (F.EvalExpr at x) v = x (bare v)
  expr_step (F.EvalQuote at xs) v = each xs v
  expr_step (F.Fetch at x) v = x v
  expr_step (F.Print at line ps) v = each ps v

  abbrev pub method_step : Method-F Uses Uses Uses Uses Stated Uses → Uses
  method_step (F.Long at h ss) v = head_uses h v ++ block ss (in_body h v)
  method_step (F.Short at h x) v = head_uses h v ++ x (in_body h v)

  abbrev pub stmt_step : Stmt-F Uses Uses Uses Uses Stated Uses → Stated
  stmt_step (F.Bind n x) = record { uses = λ v. x v ++ used n.at (bound n.bytes) v ∷ []; names = n ∷ [] }
  stmt_step (F.Return at x) = record { uses = x; names = [] }
  stmt_step (F.ReturnNothing at) = record { uses = λ v. []; names = [] }
  stmt_step (F.Stmt::Do x) = record { uses = x; names = [] }

  abbrev pub eval_step : Eval-F Uses Uses Uses Uses Stated Uses → Uses
  eval_step (F.Method m) v = m v
  eval_step (F.Eval::Do x) v = x (bare v)

  abbrev pub piece_step : Piece-F Uses Uses Uses Uses Stated Uses → Uses
  piece_step (F.Text at bytes) v = []
  piece_step (F.Show x) v = x v

  abbrev pub branch_step : Branch-F Uses Uses Uses Uses Stated Uses → Uses
  branch_step b v = b.test v ++ block b.block v

  -- ---- of a whole part

  abbrev pub expr_uses : Expr → Uses
  expr_uses = fold-Expr Uses Uses Uses Uses Stated Uses eval_step expr_step method_step piece_step stmt_step branch_step

  abbrev pub method_uses : Method → Uses
  method_uses = fold-Method Uses Uses Uses Uses Stated Uses eval_step expr_step method_step piece_step stmt_step branch_step

  abbrev pub stmt_uses : Stmt → Stated
  stmt_uses = fold-Stmt Uses Uses Uses Uses Stated Uses eval_step expr_step method_step piece_step stmt_step branch_step

  abbrev pub eval_uses : Eval → Uses
  eval_uses = fold-Eval Uses Uses Uses Uses Stated Uses eval_step expr_step method_step piece_step stmt_step branch_step

  abbrev pub piece_uses : Piece → Uses
  piece_uses = fold-Piece Uses Uses Uses Uses Stated Uses eval_step expr_step method_step piece_step stmt_step branch_step

  abbrev pub branch_uses : Branch → Uses
  branch_uses = fold-Branch Uses Uses Uses Uses Stated Uses eval_step expr_step method_step piece_step stmt_step branch_step

  -- ---- items

  -- what is visible at the top, where so many types are declared before
  abbrev pub at_top : ℕ → Names → Visible
  at_top n vs = record { names = vs; vars = []; inner = []; first = []; first_inner = []; bounded = true; types = take n g.types; method = None }

  -- a variable at the top has the name of a function or a type, which stands there
  abbrev pub shared_uses : Name → Option ℕ → Uses
  shared_uses n None v = []
  shared_uses n (Some other) v = used (max n.at other) (shared n.bytes) v ∷ []

  abbrev pub top_uses : Name → Uses
  top_uses n v = used n.at (bound n.bytes) v ∷ (shared_uses n (first_at g.functions n.bytes) v ++ shared_uses n (first_at g.own_types n.bytes) v)

  -- items one after another: a variable at the top is visible in the expressions behind it
  abbrev pub items_uses : List Item → ℕ → Names → List Use
  items_uses [] n vs = []
  items_uses (N.Abstract a ∷ xs) n vs = items_uses xs (n + 1) vs
  items_uses (N.Struct s ∷ xs) n vs = items_uses xs (n + 1) vs
  items_uses (N.Method m ∷ xs) n vs = method_uses m (at_top n vs) ++ items_uses xs n vs
  items_uses (N.Bind x e ∷ xs) n vs = expr_uses e (at_top n vs) ++ (top_uses x (at_top n vs) ++ items_uses xs n (x.bytes ∷ vs))
  items_uses (N.Do e ∷ xs) n vs = expr_uses e (at_top n vs) ++ items_uses xs n vs

  -- those of a script, where the built-in types are declared before all
  abbrev pub uses_of : List Item → List Use
  uses_of items = items_uses items BUILTIN_TYPES []
