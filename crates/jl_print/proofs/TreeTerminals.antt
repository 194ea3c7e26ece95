-- The tokens of a tree, and the tree without its places, form by form.
use Rattle.std.proofs.Common.{◌≡◌, ℕ, ℤ, Bool, codes, List, [], ◌∷◌, ◌++◌, map, sym, ap, ◌∙◌}
use Rattle.jl_token.specs.declared.token.Operator.TheVariants as o
use Rattle.jl_typeread.specs.declared.terminal.Terminal.{Terminal}
use Rattle.jl_typeread.specs.declared.terminal.Terminal.TheVariants as S
use Rattle.jl_typeread.specs.declared.terminal.Word.TheVariants as w
use Rattle.jl_typeread.specs.declared.tree.TypeText.{TypeText}
use Rattle.jl_typeread.specs.declared.tree.ArgText.{ArgText}
use Rattle.jl_typeread.specs.declared.tree.VarText.{VarText}
use Rattle.jl_typeread.specs.declared.tree.ArgText.TheOpen as T
use Rattle.jl_typeread.specs.declared.tree.ArgText.TheFolds.{fold-roll-TypeText, fold-roll-ArgText, fold-roll-VarText}
use Rattle.jl_typeread.specs.declared.tree.TypeText.TheVariants as TV
use Rattle.jl_typeread.specs.declared.tree.ArgText.TheVariants as AV
use Rattle.jl_typeread.specs.declared.tree.VarText.TheVariants as VV
use Rattle.jl_typeread.specs.declared.tree.ArgText.TheViews as V
use Rattle.jl_grammar.specs.declared.tree.Branch.{Branch}
use Rattle.jl_grammar.specs.declared.tree.Callee.{Callee}
use Rattle.jl_grammar.specs.declared.tree.Eval.{Eval}
use Rattle.jl_grammar.specs.declared.tree.Expr.{Expr}
use Rattle.jl_grammar.specs.declared.tree.Head.{Head}
use Rattle.jl_grammar.specs.declared.tree.Infix.{Infix}
use Rattle.jl_grammar.specs.declared.tree.Method.{Method}
use Rattle.jl_grammar.specs.declared.tree.Name.{Name}
use Rattle.jl_grammar.specs.declared.tree.Piece.{Piece}
use Rattle.jl_grammar.specs.declared.tree.Prefix.{Prefix}
use Rattle.jl_grammar.specs.declared.tree.Stmt.{Stmt}
use Rattle.jl_grammar.specs.declared.tree.Eval.TheOpen as F
use Rattle.jl_grammar.specs.declared.tree.Eval.TheFolds.{fold-roll-Branch, fold-roll-Eval, fold-roll-Expr, fold-roll-Method, fold-roll-Piece, fold-roll-Stmt}
use Rattle.jl_grammar.specs.declared.tree.Expr.TheVariants as XV
use Rattle.jl_grammar.specs.declared.tree.Stmt.TheVariants as SV
use Rattle.jl_grammar.specs.declared.tree.Eval.TheVariants as EV
use Rattle.jl_grammar.specs.declared.tree.Piece.TheVariants as PV
use Rattle.jl_grammar.specs.declared.tree.Eval.TheViews as E
use Rattle.jl_print.specs.Printed as R
use Rattle.jl_print.specs.Printed.{in_parens, in_braces, lines, join, where_step, tuple_step, block_step, branches_step, print_name, which_terminals, prefix_terminal, infix_terminal, truth_terminal, callee_terminals, head_terminals, type_terminals, argument_terminals, variable_terminals, where_terminals, expr_terminals, method_terminals, stmt_terminals, eval_terminals, branch_terminals, piece_terminals}
use Rattle.jl_print.specs.Placeless as L
use Rattle.jl_print.specs.Placeless.{same_type, same_argument, same_variable, same_name, same_callee, same_head, same_expr, same_method, same_stmt, same_eval, same_branch, same_piece}

-- ---- types

pub type_name_terminals : (a : ℕ) (n : List ℕ) → type_terminals (TV.Name a n) ≡ S.Name n ∷ []
type_name_terminals a n = ap type_terminals (sym (V.rolls-Name a n)) ∙ fold-roll-TypeText (List Terminal) (List Terminal) (List Terminal) R.argument_step R.type_step R.variable_step (T.Name a n)

pub type_name_same : (a : ℕ) (n : List ℕ) → same_type (TV.Name a n) ≡ TV.Name 0 n
type_name_same a n = ap same_type (sym (V.rolls-Name a n)) ∙ fold-roll-TypeText ArgText TypeText VarText L.argument_step L.type_step L.variable_step (T.Name a n)

pub type_applied_terminals : (a : ℕ) (n : List ℕ) (xs : List ArgText) → type_terminals (V.Applied a n xs) ≡ S.Name n ∷ in_braces (map argument_terminals xs)
type_applied_terminals a n xs = ap type_terminals (sym (V.rolls-Applied a n xs)) ∙ fold-roll-TypeText (List Terminal) (List Terminal) (List Terminal) R.argument_step R.type_step R.variable_step (T.Applied a n xs)

pub type_applied_same : (a : ℕ) (n : List ℕ) (xs : List ArgText) → same_type (V.Applied a n xs) ≡ V.Applied 0 n (map same_argument xs)
type_applied_same a n xs = ap same_type (sym (V.rolls-Applied a n xs)) ∙ fold-roll-TypeText ArgText TypeText VarText L.argument_step L.type_step L.variable_step (T.Applied a n xs)

pub type_paren_terminals : (a : ℕ) (t : TypeText) (vs : List VarText) → type_terminals (V.Paren a t vs) ≡ S.Operator o.OpenParen ∷ (type_terminals t ++ (where_terminals vs ++ S.Operator o.CloseParen ∷ []))
type_paren_terminals a t vs = ap type_terminals (sym (V.rolls-Paren a t vs)) ∙ fold-roll-TypeText (List Terminal) (List Terminal) (List Terminal) R.argument_step R.type_step R.variable_step (T.Paren a t vs)

pub type_paren_same : (a : ℕ) (t : TypeText) (vs : List VarText) → same_type (V.Paren a t vs) ≡ V.Paren 0 (same_type t) (map same_variable vs)
type_paren_same a t vs = ap same_type (sym (V.rolls-Paren a t vs)) ∙ fold-roll-TypeText ArgText TypeText VarText L.argument_step L.type_step L.variable_step (T.Paren a t vs)

pub argument_exact_terminals : (t : TypeText) → argument_terminals (AV.Exact t) ≡ type_terminals t
argument_exact_terminals t = ap argument_terminals (sym (V.rolls-Exact t)) ∙ fold-roll-ArgText (List Terminal) (List Terminal) (List Terminal) R.argument_step R.type_step R.variable_step (T.Exact t)

pub argument_exact_same : (t : TypeText) → same_argument (AV.Exact t) ≡ AV.Exact (same_type t)
argument_exact_same t = ap same_argument (sym (V.rolls-Exact t)) ∙ fold-roll-ArgText ArgText TypeText VarText L.argument_step L.type_step L.variable_step (T.Exact t)

pub argument_below_terminals : (a : ℕ) (t : TypeText) → argument_terminals (AV.Below a t) ≡ S.Operator o.Subtype ∷ type_terminals t
argument_below_terminals a t = ap argument_terminals (sym (V.rolls-ArgText::Below a t)) ∙ fold-roll-ArgText (List Terminal) (List Terminal) (List Terminal) R.argument_step R.type_step R.variable_step (T.ArgText::Below a t)

pub argument_below_same : (a : ℕ) (t : TypeText) → same_argument (AV.Below a t) ≡ AV.Below 0 (same_type t)
argument_below_same a t = ap same_argument (sym (V.rolls-ArgText::Below a t)) ∙ fold-roll-ArgText ArgText TypeText VarText L.argument_step L.type_step L.variable_step (T.ArgText::Below a t)

pub argument_above_terminals : (a : ℕ) (t : TypeText) → argument_terminals (AV.Above a t) ≡ S.Operator o.Supertype ∷ type_terminals t
argument_above_terminals a t = ap argument_terminals (sym (V.rolls-ArgText::Above a t)) ∙ fold-roll-ArgText (List Terminal) (List Terminal) (List Terminal) R.argument_step R.type_step R.variable_step (T.ArgText::Above a t)

pub argument_above_same : (a : ℕ) (t : TypeText) → same_argument (AV.Above a t) ≡ AV.Above 0 (same_type t)
argument_above_same a t = ap same_argument (sym (V.rolls-ArgText::Above a t)) ∙ fold-roll-ArgText ArgText TypeText VarText L.argument_step L.type_step L.variable_step (T.ArgText::Above a t)

pub variable_free_terminals : (a : ℕ) (n : List ℕ) → variable_terminals (VV.Free a n) ≡ S.Name n ∷ []
variable_free_terminals a n = ap variable_terminals (sym (V.rolls-Free a n)) ∙ fold-roll-VarText (List Terminal) (List Terminal) (List Terminal) R.argument_step R.type_step R.variable_step (T.Free a n)

pub variable_free_same : (a : ℕ) (n : List ℕ) → same_variable (VV.Free a n) ≡ VV.Free 0 n
variable_free_same a n = ap same_variable (sym (V.rolls-Free a n)) ∙ fold-roll-VarText ArgText TypeText VarText L.argument_step L.type_step L.variable_step (T.Free a n)

pub variable_below_terminals : (a : ℕ) (n : List ℕ) (t : TypeText) → variable_terminals (VV.Below a n t) ≡ S.Name n ∷ S.Operator o.Subtype ∷ type_terminals t
variable_below_terminals a n t = ap variable_terminals (sym (V.rolls-VarText::Below a n t)) ∙ fold-roll-VarText (List Terminal) (List Terminal) (List Terminal) R.argument_step R.type_step R.variable_step (T.VarText::Below a n t)

pub variable_below_same : (a : ℕ) (n : List ℕ) (t : TypeText) → same_variable (VV.Below a n t) ≡ VV.Below 0 n (same_type t)
variable_below_same a n t = ap same_variable (sym (V.rolls-VarText::Below a n t)) ∙ fold-roll-VarText ArgText TypeText VarText L.argument_step L.type_step L.variable_step (T.VarText::Below a n t)

pub variable_above_terminals : (a : ℕ) (n : List ℕ) (t : TypeText) → variable_terminals (VV.Above a n t) ≡ S.Name n ∷ S.Operator o.Supertype ∷ type_terminals t
variable_above_terminals a n t = ap variable_terminals (sym (V.rolls-VarText::Above a n t)) ∙ fold-roll-VarText (List Terminal) (List Terminal) (List Terminal) R.argument_step R.type_step R.variable_step (T.VarText::Above a n t)

pub variable_above_same : (a : ℕ) (n : List ℕ) (t : TypeText) → same_variable (VV.Above a n t) ≡ VV.Above 0 n (same_type t)
variable_above_same a n t = ap same_variable (sym (V.rolls-VarText::Above a n t)) ∙ fold-roll-VarText ArgText TypeText VarText L.argument_step L.type_step L.variable_step (T.VarText::Above a n t)

pub variable_between_terminals : (l : TypeText) (a : ℕ) (n : List ℕ) (t : TypeText) → variable_terminals (VV.Between l a n t) ≡ type_terminals l ++ S.Operator o.Subtype ∷ S.Name n ∷ S.Operator o.Subtype ∷ type_terminals t
variable_between_terminals l a n t = ap variable_terminals (sym (V.rolls-Between l a n t)) ∙ fold-roll-VarText (List Terminal) (List Terminal) (List Terminal) R.argument_step R.type_step R.variable_step (T.Between l a n t)

pub variable_between_same : (l : TypeText) (a : ℕ) (n : List ℕ) (t : TypeText) → same_variable (VV.Between l a n t) ≡ VV.Between (same_type l) 0 n (same_type t)
variable_between_same l a n t = ap same_variable (sym (V.rolls-Between l a n t)) ∙ fold-roll-VarText ArgText TypeText VarText L.argument_step L.type_step L.variable_step (T.Between l a n t)

-- ---- expressions, statements and methods

pub expr_number_terminals : (a : ℕ) (n : ℤ) → expr_terminals (XV.Number a n) ≡ S.Number n ∷ []
expr_number_terminals a n = ap expr_terminals (sym (E.rolls-Number a n)) ∙ fold-roll-Expr (List Terminal) (List Terminal) (List Terminal) (List Terminal) (List Terminal) (List Terminal) R.eval_step R.expr_step R.method_step R.piece_step R.stmt_step R.branch_step (F.Number a n)

pub expr_number_same : (a : ℕ) (n : ℤ) → same_expr (XV.Number a n) ≡ XV.Number 0 n
expr_number_same a n = ap same_expr (sym (E.rolls-Number a n)) ∙ fold-roll-Expr Eval Expr Method Piece Stmt Branch L.eval_step L.expr_step L.method_step L.piece_step L.stmt_step L.branch_step (F.Number a n)

pub expr_bool_terminals : (a : ℕ) (b : Bool) → expr_terminals (XV.Bool a b) ≡ truth_terminal b ∷ []
expr_bool_terminals a b = ap expr_terminals (sym (E.rolls-Bool a b)) ∙ fold-roll-Expr (List Terminal) (List Terminal) (List Terminal) (List Terminal) (List Terminal) (List Terminal) R.eval_step R.expr_step R.method_step R.piece_step R.stmt_step R.branch_step (F.Bool a b)

pub expr_bool_same : (a : ℕ) (b : Bool) → same_expr (XV.Bool a b) ≡ XV.Bool 0 b
expr_bool_same a b = ap same_expr (sym (E.rolls-Bool a b)) ∙ fold-roll-Expr Eval Expr Method Piece Stmt Branch L.eval_step L.expr_step L.method_step L.piece_step L.stmt_step L.branch_step (F.Bool a b)

pub expr_nothing_terminals : (a : ℕ) → expr_terminals (XV.Nothing a) ≡ S.Word w.Nothing ∷ []
expr_nothing_terminals a = ap expr_terminals (sym (E.rolls-Nothing a)) ∙ fold-roll-Expr (List Terminal) (List Terminal) (List Terminal) (List Terminal) (List Terminal) (List Terminal) R.eval_step R.expr_step R.method_step R.piece_step R.stmt_step R.branch_step (F.Nothing a)

pub expr_nothing_same : (a : ℕ) → same_expr (XV.Nothing a) ≡ XV.Nothing 0
expr_nothing_same a = ap same_expr (sym (E.rolls-Nothing a)) ∙ fold-roll-Expr Eval Expr Method Piece Stmt Branch L.eval_step L.expr_step L.method_step L.piece_step L.stmt_step L.branch_step (F.Nothing a)

pub expr_name_terminals : (a : ℕ) (n : List ℕ) → expr_terminals (XV.Name a n) ≡ S.Name n ∷ []
expr_name_terminals a n = ap expr_terminals (sym (E.rolls-Name a n)) ∙ fold-roll-Expr (List Terminal) (List Terminal) (List Terminal) (List Terminal) (List Terminal) (List Terminal) R.eval_step R.expr_step R.method_step R.piece_step R.stmt_step R.branch_step (F.Name a n)

pub expr_name_same : (a : ℕ) (n : List ℕ) → same_expr (XV.Name a n) ≡ XV.Name 0 n
expr_name_same a n = ap same_expr (sym (E.rolls-Name a n)) ∙ fold-roll-Expr Eval Expr Method Piece Stmt Branch L.eval_step L.expr_step L.method_step L.piece_step L.stmt_step L.branch_step (F.Name a n)

pub expr_paren_terminals : (a : ℕ) (e : Expr) → expr_terminals (E.Paren a e) ≡ S.Operator o.OpenParen ∷ (expr_terminals e ++ S.Operator o.CloseParen ∷ [])
expr_paren_terminals a e = ap expr_terminals (sym (E.rolls-Paren a e)) ∙ fold-roll-Expr (List Terminal) (List Terminal) (List Terminal) (List Terminal) (List Terminal) (List Terminal) R.eval_step R.expr_step R.method_step R.piece_step R.stmt_step R.branch_step (F.Paren a e)

pub expr_paren_same : (a : ℕ) (e : Expr) → same_expr (E.Paren a e) ≡ E.Paren 0 (same_expr e)
expr_paren_same a e = ap same_expr (sym (E.rolls-Paren a e)) ∙ fold-roll-Expr Eval Expr Method Piece Stmt Branch L.eval_step L.expr_step L.method_step L.piece_step L.stmt_step L.branch_step (F.Paren a e)

pub expr_tuple_terminals : (a : ℕ) (es : List Expr) → expr_terminals (E.Tuple a es) ≡ tuple_step (map expr_terminals es)
expr_tuple_terminals a es = ap expr_terminals (sym (E.rolls-Tuple a es)) ∙ fold-roll-Expr (List Terminal) (List Terminal) (List Terminal) (List Terminal) (List Terminal) (List Terminal) R.eval_step R.expr_step R.method_step R.piece_step R.stmt_step R.branch_step (F.Tuple a es)

pub expr_tuple_same : (a : ℕ) (es : List Expr) → same_expr (E.Tuple a es) ≡ E.Tuple 0 (map same_expr es)
expr_tuple_same a es = ap same_expr (sym (E.rolls-Tuple a es)) ∙ fold-roll-Expr Eval Expr Method Piece Stmt Branch L.eval_step L.expr_step L.method_step L.piece_step L.stmt_step L.branch_step (F.Tuple a es)

pub expr_call_terminals : (a : ℕ) (f : Callee) (es : List Expr) → expr_terminals (E.Call a f es) ≡ callee_terminals f ++ in_parens (map expr_terminals es)
expr_call_terminals a f es = ap expr_terminals (sym (E.rolls-Call a f es)) ∙ fold-roll-Expr (List Terminal) (List Terminal) (List Terminal) (List Terminal) (List Terminal) (List Terminal) R.eval_step R.expr_step R.method_step R.piece_step R.stmt_step R.branch_step (F.Call a f es)

pub expr_call_same : (a : ℕ) (f : Callee) (es : List Expr) → same_expr (E.Call a f es) ≡ E.Call 0 (same_callee f) (map same_expr es)
expr_call_same a f es = ap same_expr (sym (E.rolls-Call a f es)) ∙ fold-roll-Expr Eval Expr Method Piece Stmt Branch L.eval_step L.expr_step L.method_step L.piece_step L.stmt_step L.branch_step (F.Call a f es)

pub expr_make_terminals : (a : ℕ) (t : TypeText) (es : List Expr) → expr_terminals (E.Make a t es) ≡ type_terminals t ++ in_parens (map expr_terminals es)
expr_make_terminals a t es = ap expr_terminals (sym (E.rolls-Make a t es)) ∙ fold-roll-Expr (List Terminal) (List Terminal) (List Terminal) (List Terminal) (List Terminal) (List Terminal) R.eval_step R.expr_step R.method_step R.piece_step R.stmt_step R.branch_step (F.Make a t es)

pub expr_make_same : (a : ℕ) (t : TypeText) (es : List Expr) → same_expr (E.Make a t es) ≡ E.Make 0 (same_type t) (map same_expr es)
expr_make_same a t es = ap same_expr (sym (E.rolls-Make a t es)) ∙ fold-roll-Expr Eval Expr Method Piece Stmt Branch L.eval_step L.expr_step L.method_step L.piece_step L.stmt_step L.branch_step (F.Make a t es)

pub expr_field_terminals : (a : ℕ) (e : Expr) (x : Name) → expr_terminals (E.Field a e x) ≡ expr_terminals e ++ S.Operator o.Dot ∷ S.Name x.bytes ∷ []
expr_field_terminals a e x = ap expr_terminals (sym (E.rolls-Field a e x)) ∙ fold-roll-Expr (List Terminal) (List Terminal) (List Terminal) (List Terminal) (List Terminal) (List Terminal) R.eval_step R.expr_step R.method_step R.piece_step R.stmt_step R.branch_step (F.Field a e x)

pub expr_field_same : (a : ℕ) (e : Expr) (x : Name) → same_expr (E.Field a e x) ≡ E.Field 0 (same_expr e) (same_name x)
expr_field_same a e x = ap same_expr (sym (E.rolls-Field a e x)) ∙ fold-roll-Expr Eval Expr Method Piece Stmt Branch L.eval_step L.expr_step L.method_step L.piece_step L.stmt_step L.branch_step (F.Field a e x)

pub expr_part_terminals : (a : ℕ) (e : Expr) (n : ℤ) → expr_terminals (E.Part a e n) ≡ expr_terminals e ++ S.Operator o.OpenBracket ∷ S.Number n ∷ S.Operator o.CloseBracket ∷ []
expr_part_terminals a e n = ap expr_terminals (sym (E.rolls-Part a e n)) ∙ fold-roll-Expr (List Terminal) (List Terminal) (List Terminal) (List Terminal) (List Terminal) (List Terminal) R.eval_step R.expr_step R.method_step R.piece_step R.stmt_step R.branch_step (F.Part a e n)

pub expr_part_same : (a : ℕ) (e : Expr) (n : ℤ) → same_expr (E.Part a e n) ≡ E.Part 0 (same_expr e) n
expr_part_same a e n = ap same_expr (sym (E.rolls-Part a e n)) ∙ fold-roll-Expr Eval Expr Method Piece Stmt Branch L.eval_step L.expr_step L.method_step L.piece_step L.stmt_step L.branch_step (F.Part a e n)

pub expr_prefix_terminals : (a : ℕ) (x : Prefix) (e : Expr) → expr_terminals (E.Prefix a x e) ≡ prefix_terminal x ∷ expr_terminals e
expr_prefix_terminals a x e = ap expr_terminals (sym (E.rolls-Prefix a x e)) ∙ fold-roll-Expr (List Terminal) (List Terminal) (List Terminal) (List Terminal) (List Terminal) (List Terminal) R.eval_step R.expr_step R.method_step R.piece_step R.stmt_step R.branch_step (F.Prefix a x e)

pub expr_prefix_same : (a : ℕ) (x : Prefix) (e : Expr) → same_expr (E.Prefix a x e) ≡ E.Prefix 0 x (same_expr e)
expr_prefix_same a x e = ap same_expr (sym (E.rolls-Prefix a x e)) ∙ fold-roll-Expr Eval Expr Method Piece Stmt Branch L.eval_step L.expr_step L.method_step L.piece_step L.stmt_step L.branch_step (F.Prefix a x e)

pub expr_infix_terminals : (a : ℕ) (x : Infix) (l r : Expr) → expr_terminals (E.Infix a x l r) ≡ expr_terminals l ++ infix_terminal x ∷ expr_terminals r
expr_infix_terminals a x l r = ap expr_terminals (sym (E.rolls-Infix a x l r)) ∙ fold-roll-Expr (List Terminal) (List Terminal) (List Terminal) (List Terminal) (List Terminal) (List Terminal) R.eval_step R.expr_step R.method_step R.piece_step R.stmt_step R.branch_step (F.Infix a x l r)

pub expr_infix_same : (a : ℕ) (x : Infix) (l r : Expr) → same_expr (E.Infix a x l r) ≡ E.Infix 0 x (same_expr l) (same_expr r)
expr_infix_same a x l r = ap same_expr (sym (E.rolls-Infix a x l r)) ∙ fold-roll-Expr Eval Expr Method Piece Stmt Branch L.eval_step L.expr_step L.method_step L.piece_step L.stmt_step L.branch_step (F.Infix a x l r)

pub expr_isa_terminals : (a : ℕ) (e : Expr) (t : TypeText) → expr_terminals (E.Isa a e t) ≡ expr_terminals e ++ S.Word w.Isa ∷ type_terminals t
expr_isa_terminals a e t = ap expr_terminals (sym (E.rolls-Isa a e t)) ∙ fold-roll-Expr (List Terminal) (List Terminal) (List Terminal) (List Terminal) (List Terminal) (List Terminal) R.eval_step R.expr_step R.method_step R.piece_step R.stmt_step R.branch_step (F.Isa a e t)

pub expr_isa_same : (a : ℕ) (e : Expr) (t : TypeText) → same_expr (E.Isa a e t) ≡ E.Isa 0 (same_expr e) (same_type t)
expr_isa_same a e t = ap same_expr (sym (E.rolls-Isa a e t)) ∙ fold-roll-Expr Eval Expr Method Piece Stmt Branch L.eval_step L.expr_step L.method_step L.piece_step L.stmt_step L.branch_step (F.Isa a e t)

pub expr_sub_terminals : (a : ℕ) (s t : TypeText) → expr_terminals (XV.Sub a s t) ≡ type_terminals s ++ S.Operator o.Subtype ∷ type_terminals t
expr_sub_terminals a s t = ap expr_terminals (sym (E.rolls-Sub a s t)) ∙ fold-roll-Expr (List Terminal) (List Terminal) (List Terminal) (List Terminal) (List Terminal) (List Terminal) R.eval_step R.expr_step R.method_step R.piece_step R.stmt_step R.branch_step (F.Sub a s t)

pub expr_sub_same : (a : ℕ) (s t : TypeText) → same_expr (XV.Sub a s t) ≡ XV.Sub 0 (same_type s) (same_type t)
expr_sub_same a s t = ap same_expr (sym (E.rolls-Sub a s t)) ∙ fold-roll-Expr Eval Expr Method Piece Stmt Branch L.eval_step L.expr_step L.method_step L.piece_step L.stmt_step L.branch_step (F.Sub a s t)

pub expr_choose_terminals : (a : ℕ) (c x y : Expr) → expr_terminals (E.Choose a c x y) ≡ expr_terminals c ++ S.Operator o.Question ∷ (expr_terminals x ++ S.Operator o.Colon ∷ expr_terminals y)
expr_choose_terminals a c x y = ap expr_terminals (sym (E.rolls-Choose a c x y)) ∙ fold-roll-Expr (List Terminal) (List Terminal) (List Terminal) (List Terminal) (List Terminal) (List Terminal) R.eval_step R.expr_step R.method_step R.piece_step R.stmt_step R.branch_step (F.Choose a c x y)

pub expr_choose_same : (a : ℕ) (c x y : Expr) → same_expr (E.Choose a c x y) ≡ E.Choose 0 (same_expr c) (same_expr x) (same_expr y)
expr_choose_same a c x y = ap same_expr (sym (E.rolls-Choose a c x y)) ∙ fold-roll-Expr Eval Expr Method Piece Stmt Branch L.eval_step L.expr_step L.method_step L.piece_step L.stmt_step L.branch_step (F.Choose a c x y)

pub expr_if_terminals : (a : ℕ) (bs : List Branch) → expr_terminals (E.If a bs) ≡ branches_step (map branch_terminals bs) ++ S.Word w.End ∷ []
expr_if_terminals a bs = ap expr_terminals (sym (E.rolls-If a bs)) ∙ fold-roll-Expr (List Terminal) (List Terminal) (List Terminal) (List Terminal) (List Terminal) (List Terminal) R.eval_step R.expr_step R.method_step R.piece_step R.stmt_step R.branch_step (F.If a bs)

pub expr_if_same : (a : ℕ) (bs : List Branch) → same_expr (E.If a bs) ≡ E.If 0 (map same_branch bs)
expr_if_same a bs = ap same_expr (sym (E.rolls-If a bs)) ∙ fold-roll-Expr Eval Expr Method Piece Stmt Branch L.eval_step L.expr_step L.method_step L.piece_step L.stmt_step L.branch_step (F.If a bs)

pub expr_ifelse_terminals : (a : ℕ) (bs : List Branch) (ss : List Stmt) → expr_terminals (E.IfElse a bs ss) ≡ branches_step (map branch_terminals bs) ++ S.Word w.Else ∷ block_step (map stmt_terminals ss)
expr_ifelse_terminals a bs ss = ap expr_terminals (sym (E.rolls-IfElse a bs ss)) ∙ fold-roll-Expr (List Terminal) (List Terminal) (List Terminal) (List Terminal) (List Terminal) (List Terminal) R.eval_step R.expr_step R.method_step R.piece_step R.stmt_step R.branch_step (F.IfElse a bs ss)

pub expr_ifelse_same : (a : ℕ) (bs : List Branch) (ss : List Stmt) → same_expr (E.IfElse a bs ss) ≡ E.IfElse 0 (map same_branch bs) (map same_stmt ss)
expr_ifelse_same a bs ss = ap same_expr (sym (E.rolls-IfElse a bs ss)) ∙ fold-roll-Expr Eval Expr Method Piece Stmt Branch L.eval_step L.expr_step L.method_step L.piece_step L.stmt_step L.branch_step (F.IfElse a bs ss)

pub expr_begin_terminals : (a : ℕ) (ss : List Stmt) → expr_terminals (E.Begin a ss) ≡ S.Word w.Begin ∷ block_step (map stmt_terminals ss)
expr_begin_terminals a ss = ap expr_terminals (sym (E.rolls-Begin a ss)) ∙ fold-roll-Expr (List Terminal) (List Terminal) (List Terminal) (List Terminal) (List Terminal) (List Terminal) R.eval_step R.expr_step R.method_step R.piece_step R.stmt_step R.branch_step (F.Begin a ss)

pub expr_begin_same : (a : ℕ) (ss : List Stmt) → same_expr (E.Begin a ss) ≡ E.Begin 0 (map same_stmt ss)
expr_begin_same a ss = ap same_expr (sym (E.rolls-Begin a ss)) ∙ fold-roll-Expr Eval Expr Method Piece Stmt Branch L.eval_step L.expr_step L.method_step L.piece_step L.stmt_step L.branch_step (F.Begin a ss)

pub expr_latest_terminals : (a : ℕ) (f : Callee) (es : List Expr) → expr_terminals (E.Latest a f es) ≡ S.Name (codes "Base") ∷ S.Operator o.Dot ∷ S.Name (codes "invokelatest") ∷ in_parens (callee_terminals f ∷ map expr_terminals es)
expr_latest_terminals a f es = ap expr_terminals (sym (E.rolls-Latest a f es)) ∙ fold-roll-Expr (List Terminal) (List Terminal) (List Terminal) (List Terminal) (List Terminal) (List Terminal) R.eval_step R.expr_step R.method_step R.piece_step R.stmt_step R.branch_step (F.Latest a f es)

pub expr_latest_same : (a : ℕ) (f : Callee) (es : List Expr) → same_expr (E.Latest a f es) ≡ E.Latest 0 (same_callee f) (map same_expr es)
expr_latest_same a f es = ap same_expr (sym (E.rolls-Latest a f es)) ∙ fold-roll-Expr Eval Expr Method Piece Stmt Branch L.eval_step L.expr_step L.method_step L.piece_step L.stmt_step L.branch_step (F.Latest a f es)

pub expr_delete_terminals : (a : ℕ) (n : Name) (t : TypeText) → expr_terminals (XV.Delete a n t)
    ≡ S.Name (codes "Base") ∷ S.Operator o.Dot ∷ S.Name (codes "delete_method") ∷ S.Operator o.OpenParen ∷ (which_terminals n.bytes (type_terminals t) ++ S.Operator o.CloseParen ∷ [])
expr_delete_terminals a n t = ap expr_terminals (sym (E.rolls-Delete a n t)) ∙ fold-roll-Expr (List Terminal) (List Terminal) (List Terminal) (List Terminal) (List Terminal) (List Terminal) R.eval_step R.expr_step R.method_step R.piece_step R.stmt_step R.branch_step (F.Delete a n t)

pub expr_delete_same : (a : ℕ) (n : Name) (t : TypeText) → same_expr (XV.Delete a n t) ≡ XV.Delete 0 (same_name n) (same_type t)
expr_delete_same a n t = ap same_expr (sym (E.rolls-Delete a n t)) ∙ fold-roll-Expr Eval Expr Method Piece Stmt Branch L.eval_step L.expr_step L.method_step L.piece_step L.stmt_step L.branch_step (F.Delete a n t)

pub expr_spawn_terminals : (a : ℕ) (e : Expr) → expr_terminals (E.Spawn a e) ≡ S.Name (codes "Threads") ∷ S.Operator o.Dot ∷ S.Macro (codes "spawn") ∷ expr_terminals e
expr_spawn_terminals a e = ap expr_terminals (sym (E.rolls-Spawn a e)) ∙ fold-roll-Expr (List Terminal) (List Terminal) (List Terminal) (List Terminal) (List Terminal) (List Terminal) R.eval_step R.expr_step R.method_step R.piece_step R.stmt_step R.branch_step (F.Spawn a e)

pub expr_spawn_same : (a : ℕ) (e : Expr) → same_expr (E.Spawn a e) ≡ E.Spawn 0 (same_expr e)
expr_spawn_same a e = ap same_expr (sym (E.rolls-Spawn a e)) ∙ fold-roll-Expr Eval Expr Method Piece Stmt Branch L.eval_step L.expr_step L.method_step L.piece_step L.stmt_step L.branch_step (F.Spawn a e)

pub expr_evalmethod_terminals : (a : ℕ) (m : Method) → expr_terminals (E.EvalMethod a m) ≡ S.Macro (codes "eval") ∷ method_terminals m
expr_evalmethod_terminals a m = ap expr_terminals (sym (E.rolls-EvalMethod a m)) ∙ fold-roll-Expr (List Terminal) (List Terminal) (List Terminal) (List Terminal) (List Terminal) (List Terminal) R.eval_step R.expr_step R.method_step R.piece_step R.stmt_step R.branch_step (F.EvalMethod a m)

pub expr_evalmethod_same : (a : ℕ) (m : Method) → same_expr (E.EvalMethod a m) ≡ E.EvalMethod 0 (same_method m)
expr_evalmethod_same a m = ap same_expr (sym (E.rolls-EvalMethod a m)) ∙ fold-roll-Expr Eval Expr Method Piece Stmt Branch L.eval_step L.expr_step L.method_step L.piece_step L.stmt_step L.branch_step (F.EvalMethod a m)

pub expr_evalblock_terminals : (a : ℕ) (xs : List Eval) → expr_terminals (E.EvalBlock a xs) ≡ S.Macro (codes "eval") ∷ S.Word w.Begin ∷ block_step (map eval_terminals xs)
expr_evalblock_terminals a xs = ap expr_terminals (sym (E.rolls-EvalBlock a xs)) ∙ fold-roll-Expr (List Terminal) (List Terminal) (List Terminal) (List Terminal) (List Terminal) (List Terminal) R.eval_step R.expr_step R.method_step R.piece_step R.stmt_step R.branch_step (F.EvalBlock a xs)

pub expr_evalblock_same : (a : ℕ) (xs : List Eval) → same_expr (E.EvalBlock a xs) ≡ E.EvalBlock 0 (map same_eval xs)
expr_evalblock_same a xs = ap same_expr (sym (E.rolls-EvalBlock a xs)) ∙ fold-roll-Expr Eval Expr Method Piece Stmt Branch L.eval_step L.expr_step L.method_step L.piece_step L.stmt_step L.branch_step (F.EvalBlock a xs)

pub expr_evalexpr_terminals : (a : ℕ) (e : Expr) → expr_terminals (E.EvalExpr a e) ≡ S.Macro (codes "eval") ∷ expr_terminals e
expr_evalexpr_terminals a e = ap expr_terminals (sym (E.rolls-EvalExpr a e)) ∙ fold-roll-Expr (List Terminal) (List Terminal) (List Terminal) (List Terminal) (List Terminal) (List Terminal) R.eval_step R.expr_step R.method_step R.piece_step R.stmt_step R.branch_step (F.EvalExpr a e)

pub expr_evalexpr_same : (a : ℕ) (e : Expr) → same_expr (E.EvalExpr a e) ≡ E.EvalExpr 0 (same_expr e)
expr_evalexpr_same a e = ap same_expr (sym (E.rolls-EvalExpr a e)) ∙ fold-roll-Expr Eval Expr Method Piece Stmt Branch L.eval_step L.expr_step L.method_step L.piece_step L.stmt_step L.branch_step (F.EvalExpr a e)

pub expr_evalquote_terminals : (a : ℕ) (xs : List Eval) → expr_terminals (E.EvalQuote a xs) ≡ S.Name (codes "eval") ∷ S.Operator o.OpenParen ∷ S.Word w.Quote ∷ (block_step (map eval_terminals xs) ++ S.Operator o.CloseParen ∷ [])
expr_evalquote_terminals a xs = ap expr_terminals (sym (E.rolls-EvalQuote a xs)) ∙ fold-roll-Expr (List Terminal) (List Terminal) (List Terminal) (List Terminal) (List Terminal) (List Terminal) R.eval_step R.expr_step R.method_step R.piece_step R.stmt_step R.branch_step (F.EvalQuote a xs)

pub expr_evalquote_same : (a : ℕ) (xs : List Eval) → same_expr (E.EvalQuote a xs) ≡ E.EvalQuote 0 (map same_eval xs)
expr_evalquote_same a xs = ap same_expr (sym (E.rolls-EvalQuote a xs)) ∙ fold-roll-Expr Eval Expr Method Piece Stmt Branch L.eval_step L.expr_step L.method_step L.piece_step L.stmt_step L.branch_step (F.EvalQuote a xs)

pub expr_fetch_terminals : (a : ℕ) (e : Expr) → expr_terminals (E.Fetch a e) ≡ S.Name (codes "fetch") ∷ S.Operator o.OpenParen ∷ (expr_terminals e ++ S.Operator o.CloseParen ∷ [])
expr_fetch_terminals a e = ap expr_terminals (sym (E.rolls-Fetch a e)) ∙ fold-roll-Expr (List Terminal) (List Terminal) (List Terminal) (List Terminal) (List Terminal) (List Terminal) R.eval_step R.expr_step R.method_step R.piece_step R.stmt_step R.branch_step (F.Fetch a e)

pub expr_fetch_same : (a : ℕ) (e : Expr) → same_expr (E.Fetch a e) ≡ E.Fetch 0 (same_expr e)
expr_fetch_same a e = ap same_expr (sym (E.rolls-Fetch a e)) ∙ fold-roll-Expr Eval Expr Method Piece Stmt Branch L.eval_step L.expr_step L.method_step L.piece_step L.stmt_step L.branch_step (F.Fetch a e)

pub expr_print_terminals : (a : ℕ) (b : Bool) (ps : List Piece) → expr_terminals (E.Print a b ps) ≡ S.Name (print_name b) ∷ in_parens (map piece_terminals ps)
expr_print_terminals a b ps = ap expr_terminals (sym (E.rolls-Print a b ps)) ∙ fold-roll-Expr (List Terminal) (List Terminal) (List Terminal) (List Terminal) (List Terminal) (List Terminal) R.eval_step R.expr_step R.method_step R.piece_step R.stmt_step R.branch_step (F.Print a b ps)

pub expr_print_same : (a : ℕ) (b : Bool) (ps : List Piece) → same_expr (E.Print a b ps) ≡ E.Print 0 b (map same_piece ps)
expr_print_same a b ps = ap same_expr (sym (E.rolls-Print a b ps)) ∙ fold-roll-Expr Eval Expr Method Piece Stmt Branch L.eval_step L.expr_step L.method_step L.piece_step L.stmt_step L.branch_step (F.Print a b ps)

pub method_long_terminals : (a : ℕ) (h : Head) (ss : List Stmt) → method_terminals (E.Long a h ss) ≡ S.Word w.Function ∷ (head_terminals h ++ block_step (map stmt_terminals ss))
method_long_terminals a h ss = ap method_terminals (sym (E.rolls-Long a h ss)) ∙ fold-roll-Method (List Terminal) (List Terminal) (List Terminal) (List Terminal) (List Terminal) (List Terminal) R.eval_step R.expr_step R.method_step R.piece_step R.stmt_step R.branch_step (F.Long a h ss)

pub method_long_same : (a : ℕ) (h : Head) (ss : List Stmt) → same_method (E.Long a h ss) ≡ E.Long 0 (same_head h) (map same_stmt ss)
method_long_same a h ss = ap same_method (sym (E.rolls-Long a h ss)) ∙ fold-roll-Method Eval Expr Method Piece Stmt Branch L.eval_step L.expr_step L.method_step L.piece_step L.stmt_step L.branch_step (F.Long a h ss)

pub method_short_terminals : (a : ℕ) (h : Head) (e : Expr) → method_terminals (E.Short a h e) ≡ head_terminals h ++ S.Operator o.Assign ∷ expr_terminals e
method_short_terminals a h e = ap method_terminals (sym (E.rolls-Short a h e)) ∙ fold-roll-Method (List Terminal) (List Terminal) (List Terminal) (List Terminal) (List Terminal) (List Terminal) R.eval_step R.expr_step R.method_step R.piece_step R.stmt_step R.branch_step (F.Short a h e)

pub method_short_same : (a : ℕ) (h : Head) (e : Expr) → same_method (E.Short a h e) ≡ E.Short 0 (same_head h) (same_expr e)
method_short_same a h e = ap same_method (sym (E.rolls-Short a h e)) ∙ fold-roll-Method Eval Expr Method Piece Stmt Branch L.eval_step L.expr_step L.method_step L.piece_step L.stmt_step L.branch_step (F.Short a h e)

pub stmt_bind_terminals : (x : Name) (e : Expr) → stmt_terminals (SV.Bind x e) ≡ S.Name x.bytes ∷ S.Operator o.Assign ∷ expr_terminals e
stmt_bind_terminals x e = ap stmt_terminals (sym (E.rolls-Bind x e)) ∙ fold-roll-Stmt (List Terminal) (List Terminal) (List Terminal) (List Terminal) (List Terminal) (List Terminal) R.eval_step R.expr_step R.method_step R.piece_step R.stmt_step R.branch_step (F.Bind x e)

pub stmt_bind_same : (x : Name) (e : Expr) → same_stmt (SV.Bind x e) ≡ SV.Bind (same_name x) (same_expr e)
stmt_bind_same x e = ap same_stmt (sym (E.rolls-Bind x e)) ∙ fold-roll-Stmt Eval Expr Method Piece Stmt Branch L.eval_step L.expr_step L.method_step L.piece_step L.stmt_step L.branch_step (F.Bind x e)

pub stmt_return_terminals : (a : ℕ) (e : Expr) → stmt_terminals (SV.Return a e) ≡ S.Word w.Return ∷ expr_terminals e
stmt_return_terminals a e = ap stmt_terminals (sym (E.rolls-Return a e)) ∙ fold-roll-Stmt (List Terminal) (List Terminal) (List Terminal) (List Terminal) (List Terminal) (List Terminal) R.eval_step R.expr_step R.method_step R.piece_step R.stmt_step R.branch_step (F.Return a e)

pub stmt_return_same : (a : ℕ) (e : Expr) → same_stmt (SV.Return a e) ≡ SV.Return 0 (same_expr e)
stmt_return_same a e = ap same_stmt (sym (E.rolls-Return a e)) ∙ fold-roll-Stmt Eval Expr Method Piece Stmt Branch L.eval_step L.expr_step L.method_step L.piece_step L.stmt_step L.branch_step (F.Return a e)

pub stmt_returnnothing_terminals : (a : ℕ) → stmt_terminals (SV.ReturnNothing a) ≡ S.Word w.Return ∷ []
stmt_returnnothing_terminals a = ap stmt_terminals (sym (E.rolls-ReturnNothing a)) ∙ fold-roll-Stmt (List Terminal) (List Terminal) (List Terminal) (List Terminal) (List Terminal) (List Terminal) R.eval_step R.expr_step R.method_step R.piece_step R.stmt_step R.branch_step (F.ReturnNothing a)

pub stmt_returnnothing_same : (a : ℕ) → same_stmt (SV.ReturnNothing a) ≡ SV.ReturnNothing 0
stmt_returnnothing_same a = ap same_stmt (sym (E.rolls-ReturnNothing a)) ∙ fold-roll-Stmt Eval Expr Method Piece Stmt Branch L.eval_step L.expr_step L.method_step L.piece_step L.stmt_step L.branch_step (F.ReturnNothing a)

pub stmt_do_terminals : (e : Expr) → stmt_terminals (SV.Do e) ≡ expr_terminals e
stmt_do_terminals e = ap stmt_terminals (sym (E.rolls-Stmt::Do e)) ∙ fold-roll-Stmt (List Terminal) (List Terminal) (List Terminal) (List Terminal) (List Terminal) (List Terminal) R.eval_step R.expr_step R.method_step R.piece_step R.stmt_step R.branch_step (F.Stmt::Do e)

pub stmt_do_same : (e : Expr) → same_stmt (SV.Do e) ≡ SV.Do (same_expr e)
stmt_do_same e = ap same_stmt (sym (E.rolls-Stmt::Do e)) ∙ fold-roll-Stmt Eval Expr Method Piece Stmt Branch L.eval_step L.expr_step L.method_step L.piece_step L.stmt_step L.branch_step (F.Stmt::Do e)

pub eval_method_terminals : (m : Method) → eval_terminals (EV.Method m) ≡ method_terminals m
eval_method_terminals m = ap eval_terminals (sym (E.rolls-Method m)) ∙ fold-roll-Eval (List Terminal) (List Terminal) (List Terminal) (List Terminal) (List Terminal) (List Terminal) R.eval_step R.expr_step R.method_step R.piece_step R.stmt_step R.branch_step (F.Method m)

pub eval_method_same : (m : Method) → same_eval (EV.Method m) ≡ EV.Method (same_method m)
eval_method_same m = ap same_eval (sym (E.rolls-Method m)) ∙ fold-roll-Eval Eval Expr Method Piece Stmt Branch L.eval_step L.expr_step L.method_step L.piece_step L.stmt_step L.branch_step (F.Method m)

pub eval_do_terminals : (e : Expr) → eval_terminals (EV.Do e) ≡ expr_terminals e
eval_do_terminals e = ap eval_terminals (sym (E.rolls-Eval::Do e)) ∙ fold-roll-Eval (List Terminal) (List Terminal) (List Terminal) (List Terminal) (List Terminal) (List Terminal) R.eval_step R.expr_step R.method_step R.piece_step R.stmt_step R.branch_step (F.Eval::Do e)

pub eval_do_same : (e : Expr) → same_eval (EV.Do e) ≡ EV.Do (same_expr e)
eval_do_same e = ap same_eval (sym (E.rolls-Eval::Do e)) ∙ fold-roll-Eval Eval Expr Method Piece Stmt Branch L.eval_step L.expr_step L.method_step L.piece_step L.stmt_step L.branch_step (F.Eval::Do e)

pub piece_text_terminals : (a : ℕ) (n : List ℕ) → piece_terminals (PV.Text a n) ≡ S.Text n ∷ []
piece_text_terminals a n = ap piece_terminals (sym (E.rolls-Text a n)) ∙ fold-roll-Piece (List Terminal) (List Terminal) (List Terminal) (List Terminal) (List Terminal) (List Terminal) R.eval_step R.expr_step R.method_step R.piece_step R.stmt_step R.branch_step (F.Text a n)

pub piece_text_same : (a : ℕ) (n : List ℕ) → same_piece (PV.Text a n) ≡ PV.Text 0 n
piece_text_same a n = ap same_piece (sym (E.rolls-Text a n)) ∙ fold-roll-Piece Eval Expr Method Piece Stmt Branch L.eval_step L.expr_step L.method_step L.piece_step L.stmt_step L.branch_step (F.Text a n)

pub piece_show_terminals : (e : Expr) → piece_terminals (PV.Show e) ≡ expr_terminals e
piece_show_terminals e = ap piece_terminals (sym (E.rolls-Show e)) ∙ fold-roll-Piece (List Terminal) (List Terminal) (List Terminal) (List Terminal) (List Terminal) (List Terminal) R.eval_step R.expr_step R.method_step R.piece_step R.stmt_step R.branch_step (F.Show e)

pub piece_show_same : (e : Expr) → same_piece (PV.Show e) ≡ PV.Show (same_expr e)
piece_show_same e = ap same_piece (sym (E.rolls-Show e)) ∙ fold-roll-Piece Eval Expr Method Piece Stmt Branch L.eval_step L.expr_step L.method_step L.piece_step L.stmt_step L.branch_step (F.Show e)

pub branch_is_terminals : (a : ℕ) (e : Expr) (ss : List Stmt) → branch_terminals (record { at = a; test = e; block = ss }) ≡ expr_terminals e ++ S.Newline ∷ lines (map stmt_terminals ss)
branch_is_terminals a e ss = fold-roll-Branch (List Terminal) (List Terminal) (List Terminal) (List Terminal) (List Terminal) (List Terminal) R.eval_step R.expr_step R.method_step R.piece_step R.stmt_step R.branch_step (record { at = a; test = e; block = ss })

pub branch_is_same : (a : ℕ) (e : Expr) (ss : List Stmt) → same_branch (record { at = a; test = e; block = ss }) ≡ record { at = 0; test = same_expr e; block = map same_stmt ss }
branch_is_same a e ss = fold-roll-Branch Eval Expr Method Piece Stmt Branch L.eval_step L.expr_step L.method_step L.piece_step L.stmt_step L.branch_step (record { at = a; test = e; block = ss })
