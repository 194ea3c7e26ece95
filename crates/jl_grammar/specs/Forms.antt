-- The forms of a script with their depth. A form without forms in it has depth 1, any other 1 more than the greatest
-- depth of the forms directly in it. Above the limit the depth is one more than the limit, and the tree of an expression is not kept.
use Rattle.std.specs.Prelude.{ℕ, ℤ, Bool, true, false, min, max, ◌+◌, ◌-◌, if◌then◌else◌, nat_lt, List, [], ◌∷◌, ◌++◌, Option, Some, None}
use Rattle.jl_model.specs.declared.limits.TheConstants.{MOST_ITEM_DEPTH}
use Rattle.jl_token.specs.declared.token.Operator.{Operator}
use Rattle.jl_typeread.specs.declared.tree.TypeText.{TypeText}
use Rattle.jl_typeread.specs.declared.tree.TypeText.TheVariants as T
use Rattle.jl_typeread.specs.declared.tree.VarText.{VarText}
use Rattle.jl_typeread.specs.declared.deep.Deep.{Deep}
use Rattle.jl_typeread.specs.declared.deep.Deep.TheVariants.{Built, TooDeep}
use Rattle.jl_grammar.specs.declared.tree.Abstract.{Abstract}
use Rattle.jl_grammar.specs.declared.tree.Branch.{Branch}
use Rattle.jl_grammar.specs.declared.tree.Callee.{Callee}
use Rattle.jl_grammar.specs.declared.tree.Eval.{Eval}
use Rattle.jl_grammar.specs.declared.tree.Eval.TheVariants as V
use Rattle.jl_grammar.specs.declared.tree.Eval.TheViews as E
use Rattle.jl_grammar.specs.declared.tree.Expr.{Expr}
use Rattle.jl_grammar.specs.declared.tree.Expr.TheVariants as W
use Rattle.jl_grammar.specs.declared.tree.Field.{Field}
use Rattle.jl_grammar.specs.declared.tree.Head.{Head}
use Rattle.jl_grammar.specs.declared.tree.Header.{Header}
use Rattle.jl_grammar.specs.declared.tree.Infix.{Infix}
use Rattle.jl_grammar.specs.declared.tree.Infix.TheVariants as I
use Rattle.jl_grammar.specs.declared.tree.Item.{Item}
use Rattle.jl_grammar.specs.declared.tree.Item.TheVariants as N
use Rattle.jl_grammar.specs.declared.tree.Method.{Method}
use Rattle.jl_grammar.specs.declared.tree.Name.{Name}
use Rattle.jl_grammar.specs.declared.tree.Param.{Param}
use Rattle.jl_grammar.specs.declared.tree.Param.TheVariants as P
use Rattle.jl_grammar.specs.declared.tree.Piece.{Piece}
use Rattle.jl_grammar.specs.declared.tree.Piece.TheVariants as Q
use Rattle.jl_grammar.specs.declared.tree.Stmt.{Stmt}
use Rattle.jl_grammar.specs.declared.tree.Stmt.TheVariants as S
use Rattle.jl_grammar.specs.declared.tree.Struct.{Struct}
use Rattle.jl_grammar.specs.declared.state.Form.{Form}
use Rattle.jl_grammar.specs.declared.state.Forms.{Forms}
use Rattle.jl_grammar.specs.declared.state.TypeForm.{TypeForm}
use Rattle.jl_grammar.specs.declared.state.VarsForm.{VarsForm}
use Rattle.jl_grammar.specs.declared.state.PrefixAt.{PrefixAt}
use Rattle.jl_grammar.specs.declared.state.Branched.{Branched}
use Rattle.jl_grammar.specs.declared.state.Called.{Called}
use Rattle.jl_grammar.specs.declared.state.Called.TheVariants as C
use Rattle.jl_grammar.specs.declared.state.ItemsRead.{ItemsRead}

-- the depth of a form around forms of this depth
abbrev pub depth_around : ℕ → ℕ
depth_around d = min d MOST_ITEM_DEPTH + 1

-- an expression of this depth
abbrev pub expr_form : ℕ → ℕ → Expr → Form Expr
expr_form at d e = record { tree = (if nat_lt MOST_ITEM_DEPTH d then W.Nothing at else e); at = at; depth = d }

-- no trees, and one more
abbrev pub no_forms : {A : Type 0} → Forms A
no_forms = record { trees = []; depth = 0 }

abbrev pub with_form : {A : Type 0} → Forms A → A → ℕ → Forms A
with_form xs x d = record { trees = xs.trees ++ x ∷ []; depth = max xs.depth d }

-- a written type, and variables, as they were read
abbrev pub type_form : Deep TypeText → TypeForm
type_form (Built t d) = record { tree = t; depth = d }
type_form TooDeep = record { tree = T.Name 0 []; depth = MOST_ITEM_DEPTH + 1 }

abbrev pub vars_form : Deep (List VarText) → VarsForm
vars_form (Built vs d) = record { vars = vs; depth = d }
vars_form TooDeep = record { vars = []; depth = MOST_ITEM_DEPTH + 1 }

abbrev pub no_vars : VarsForm
no_vars = record { vars = []; depth = 0 }

-- ---- expressions

abbrev pub number : ℕ → ℤ → Form Expr
number at n = expr_form at 1 (W.Number at n)

abbrev pub truth : ℕ → Bool → Form Expr
truth at b = expr_form at 1 (W.Bool at b)

abbrev pub nothing : ℕ → Form Expr
nothing at = expr_form at 1 (W.Nothing at)

abbrev pub name : ℕ → List ℕ → Form Expr
name at n = expr_form at 1 (W.Name at n)

abbrev pub paren : ℕ → Form Expr → Form Expr
paren at e = expr_form at (depth_around e.depth) (E.Paren at e.tree)

abbrev pub tuple : ℕ → Forms Expr → Form Expr
tuple at es = expr_form at (depth_around es.depth) (E.Tuple at es.trees)

abbrev pub call_expr : ℕ → Called → Forms Expr → Form Expr
call_expr at (C.Function f) es = expr_form at (depth_around es.depth) (E.Call at f es.trees)
call_expr at (C.Type t) es = expr_form at (depth_around (max (t.depth - 1) es.depth)) (E.Make at t.tree es.trees)
call_expr at (C.Latest f) es = expr_form at (depth_around es.depth) (E.Latest at f es.trees)

abbrev pub field : Form Expr → Name → Form Expr
field e n = expr_form e.at (depth_around e.depth) (E.Field e.at e.tree n)

abbrev pub part : Form Expr → ℤ → Form Expr
part e n = expr_form e.at (depth_around e.depth) (E.Part e.at e.tree n)

abbrev pub prefix_expr : PrefixAt → Form Expr → Form Expr
prefix_expr p e = expr_form p.at (depth_around e.depth) (E.Prefix p.at p.prefix e.tree)

abbrev pub infix_expr : Form Expr → Infix → Form Expr → Form Expr
infix_expr l op r = expr_form l.at (depth_around (max l.depth r.depth)) (E.Infix l.at op l.tree r.tree)

abbrev pub isa_expr : Form Expr → TypeForm → Form Expr
isa_expr e t = expr_form e.at (depth_around (max e.depth t.depth)) (E.Isa e.at e.tree t.tree)

abbrev pub sub_expr : ℕ → TypeForm → TypeForm → Form Expr
sub_expr at s t = expr_form at (depth_around (max s.depth t.depth)) (W.Sub at s.tree t.tree)

abbrev pub choose_expr : Form Expr → Form Expr → Form Expr → Form Expr
choose_expr c a b = expr_form c.at (depth_around (max c.depth (max a.depth b.depth))) (E.Choose c.at c.tree a.tree b.tree)

abbrev pub begin_expr : ℕ → Forms Stmt → Form Expr
begin_expr at ss = expr_form at (depth_around (depth_around ss.depth)) (E.Begin at ss.trees)

abbrev pub spawn_expr : ℕ → Form Expr → Form Expr
spawn_expr at e = expr_form at (depth_around e.depth) (E.Spawn at e.tree)

abbrev pub eval_method : ℕ → Form Method → Form Expr
eval_method at m = expr_form at (depth_around m.depth) (E.EvalMethod at m.tree)

abbrev pub eval_block : ℕ → Forms Eval → Form Expr
eval_block at xs = expr_form at (depth_around (depth_around xs.depth)) (E.EvalBlock at xs.trees)

abbrev pub eval_expr : ℕ → Form Expr → Form Expr
eval_expr at e = expr_form at (depth_around e.depth) (E.EvalExpr at e.tree)

abbrev pub eval_quote : ℕ → Forms Eval → Form Expr
eval_quote at xs = expr_form at (depth_around (depth_around xs.depth)) (E.EvalQuote at xs.trees)

abbrev pub fetch_expr : ℕ → Form Expr → Form Expr
fetch_expr at e = expr_form at (depth_around e.depth) (E.Fetch at e.tree)

abbrev pub delete_expr : ℕ → Name → TypeForm → Form Expr
delete_expr at n t = expr_form at (depth_around t.depth) (W.Delete at n t.tree)

abbrev pub print_expr : ℕ → Bool → Forms Piece → Form Expr
print_expr at line ps = expr_form at (depth_around ps.depth) (E.Print at line ps.trees)

-- ---- an `if`: each `elseif` is an `if` in the block of the branch before it

-- the depth of something of depth d that stands k levels below
abbrev pub depth_below : ℕ → ℕ → ℕ
depth_below k d = min (min k (MOST_ITEM_DEPTH + 1) + min d (MOST_ITEM_DEPTH + 1)) (MOST_ITEM_DEPTH + 1)

abbrev pub no_branches : Branched
no_branches = record { branches = []; lowered = 1; depth = 0 }

abbrev pub with_branch : Branched → ℕ → Form Expr → Forms Stmt → Branched
with_branch b at c ss = record {
  branches = b.branches ++ record { at = at; test = c.tree; block = ss.trees } ∷ [];
  lowered = min b.lowered 499 + 2;
  depth = max b.depth (depth_below b.lowered (max c.depth (depth_around ss.depth)));
}

abbrev pub if_expr : ℕ → Branched → Form Expr
if_expr at b = expr_form at b.depth (E.If at b.branches)

abbrev pub if_else_expr : ℕ → Branched → Forms Stmt → Form Expr
if_else_expr at b ss = expr_form at (max b.depth (depth_below (b.lowered - 2) (depth_around ss.depth))) (E.IfElse at b.branches ss.trees)

-- ---- statements and pieces

abbrev pub with_stmt : Forms Stmt → Stmt → ℕ → Forms Stmt
with_stmt = with_form

abbrev pub with_show : Forms Piece → Form Expr → Forms Piece
with_show ps e = with_form ps (Q.Show e.tree) e.depth

abbrev pub with_text : Forms Piece → ℕ → List ℕ → Forms Piece
with_text ps at t = with_form ps (Q.Text at t) 0

abbrev pub with_expr : Forms Expr → Form Expr → Forms Expr
with_expr es e = with_form es e.tree e.depth

-- ---- methods

abbrev pub head : ℕ → Callee → Forms Param → VarsForm → Form Head
head at f ps vs = record { tree = record { callee = f; params = ps.trees; vars = vs.vars }; at = at; depth = max ps.depth vs.depth }

abbrev pub long_method : Form Head → Forms Stmt → Form Method
long_method h ss = record { tree = E.Long h.at h.tree ss.trees; at = h.at; depth = depth_around (max h.depth (depth_around ss.depth)) }

abbrev pub short_method : Form Head → Form Expr → Form Method
short_method h e = record { tree = E.Short h.at h.tree e.tree; at = h.at; depth = depth_around (max h.depth e.depth) }

abbrev pub typed_param : Option Name → ℕ → TypeForm → Param
typed_param (Some x) at t = P.Typed x t.tree
typed_param None at t = P.Unnamed at t.tree

-- ---- items

abbrev pub parent_tree : Option TypeForm → Option TypeText
parent_tree None = None
parent_tree (Some t) = Some t.tree

abbrev pub parent_depth : Option TypeForm → ℕ
parent_depth None = 0
parent_depth (Some t) = t.depth

abbrev pub header : ℕ → Name → VarsForm → Option TypeForm → Form Header
header at n vs t = record { tree = record { at = at; name = n; params = vs.vars; parent = parent_tree t }; at = at; depth = max vs.depth (parent_depth t) }

abbrev pub abstract_item : Form Header → Form Item
abstract_item h = record { tree = N.Abstract (record { header = h.tree }); at = h.at; depth = depth_around h.depth }

abbrev pub struct_item : Form Header → Forms Field → Form Item
struct_item h fs = record { tree = N.Struct (record { header = h.tree; fields = fs.trees }); at = h.at; depth = depth_around (max h.depth fs.depth) }

abbrev pub method_item : Form Method → Form Item
method_item m = record { tree = N.Method m.tree; at = m.at; depth = m.depth }

abbrev pub binding_item : Name → Form Expr → Form Item
binding_item n e = record { tree = N.Bind n e.tree; at = n.at; depth = e.depth }

abbrev pub expr_item : Form Expr → Form Item
expr_item e = record { tree = N.Do e.tree; at = e.at; depth = e.depth }

-- the first place of two, where there is one
abbrev pub first_place : Option ℕ → Option ℕ → Option ℕ
first_place (Some a) b = Some a
first_place None b = b

abbrev pub no_items : ItemsRead
no_items = record { items = []; too_deep = None }

abbrev pub with_item : ItemsRead → Form Item → ItemsRead
with_item xs x = record { items = xs.items ++ x.tree ∷ []; too_deep = first_place xs.too_deep (if nat_lt MOST_ITEM_DEPTH x.depth then Some x.at else None) }
