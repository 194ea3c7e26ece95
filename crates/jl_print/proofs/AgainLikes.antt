-- Forms that are the same, places aside.
use Rattle.std.proofs.Common.{◌≡◌, ℕ, ◌+◌, ◌≤◌, max, Bool, true, false, cond, nat_le, List, [], ◌∷◌, ◌++◌, map, refl, sym, ap, ◌∙◌, arith}
use Rattle.std.proofs.lemmas.Bool.{le-ltb}
use Rattle.std.proofs.lemmas.List.{map-append}
use Rattle.jl_typeread.specs.declared.terminal.Lexeme.{Lexeme}
use Rattle.jl_typeread.specs.declared.terminal.Terminal.{Terminal}
use Rattle.jl_typeread.specs.declared.deep.Deep.TheVariants.{Built, TooDeep}
use Rattle.jl_typeread.specs.declared.tree.TypeText.{TypeText}
use Rattle.jl_typeread.specs.declared.tree.ArgText.{ArgText}
use Rattle.jl_typeread.specs.declared.tree.VarText.{VarText}
use Rattle.jl_typeread.specs.declared.tree.TypeText.TheVariants as TV
use Rattle.jl_typeread.specs.declared.tree.ArgText.TheVariants as AV
use Rattle.jl_typeread.specs.declared.tree.VarText.TheVariants as VV
use Rattle.jl_typeread.specs.declared.tree.ArgText.TheViews as V
use Rattle.jl_typeread.specs.declared.tree.ArgText.TheOpen as F
use Rattle.jl_typeread.specs.declared.tree.ArgText.TheFolds.{fold-roll-TypeText, fold-roll-ArgText, fold-roll-VarText}
use Rattle.jl_typeread.specs.Depth.{greatest, type_depth_step, argument_depth_step, variable_depth_step, type_depth, argument_depth, variable_depth, arguments_depth, variables_depth, depth_limit}
use Rattle.jl_typeread.specs.Grammar as G
use Rattle.jl_grammar.specs.declared.state.Form.{Form}
use Rattle.jl_grammar.specs.declared.state.Forms.{Forms}
use Rattle.jl_grammar.specs.declared.tree.Expr.{Expr}
use Rattle.jl_grammar.specs.declared.tree.Expr.TheVariants as XV
use Rattle.jl_grammar.specs.Forms as M
use Rattle.jl_grammar.specs.Types.{type_as_read}
use Rattle.jl_print.specs.Printed.{expr_terminals}
use Rattle.jl_print.specs.Placeless.{same_type, same_argument, same_variable, same_expr}
use Rattle.jl_print.proofs.TreeTerminals as T

-- ---- expressions

abbrev pub LikeExpr : Form Expr → Form Expr → Type 0
LikeExpr f e = (same_expr f.tree ≡ same_expr e.tree) × (f.depth ≡ e.depth)

-- forms in a row, by what is the same of each
abbrev pub LikeForms : {A B : Type 0} → (A → B) → Forms A → Forms A → Type 0
LikeForms same f e = (map same f.trees ≡ map same e.trees) × (f.depth ≡ e.depth)

pub expr_form_tree : (a d : ℕ) (t : Expr) → d ≤ 500 → (M.expr_form a d t).tree ≡ t
expr_form_tree a d t l = ap (λ b. cond b (XV.Nothing a) t) (le-ltb 500 d l)

pub expr_form_like : (a b c d : ℕ) (t u : Expr) → d ≤ 500 → c ≡ d → same_expr t ≡ same_expr u → LikeExpr (M.expr_form a c t) (M.expr_form b d u)
expr_form_like a b c d t u l e s =
    let k : c ≤ 500 = omega (arith, e, l) in
    (ap same_expr (expr_form_tree a c t k) ∙ s ∙ sym (ap same_expr (expr_form_tree b d u l)), e)

pub made_terminals : (a d : ℕ) (t : Expr) (ss : List Terminal) → d ≤ 500 → expr_terminals t ≡ ss → expr_terminals (M.expr_form a d t).tree ≡ ss
made_terminals a d t ss l e = ap expr_terminals (expr_form_tree a d t l) ∙ e

pub depth_around_fits : (d : ℕ) → M.depth_around d ≤ 500 → d ≤ 500
depth_around_fits d l = omega (arith, l)

pub left_fits : (a b : ℕ) → M.depth_around (max a b) ≤ 500 → a ≤ 500
left_fits a b l = omega (arith, l)

pub right_fits : (a b : ℕ) → M.depth_around (max a b) ≤ 500 → b ≤ 500
right_fits a b l = omega (arith, l)

-- ---- types

depth-name : (a : ℕ) (n : List ℕ) → type_depth (TV.Name a n) ≡ 1
depth-name a n = ap type_depth (sym (V.rolls-Name a n)) ∙ fold-roll-TypeText ℕ ℕ ℕ argument_depth_step type_depth_step variable_depth_step (F.Name a n)

depth-applied : (a : ℕ) (n : List ℕ) (xs : List ArgText) → type_depth (V.Applied a n xs) ≡ arguments_depth xs + 1
depth-applied a n xs = ap type_depth (sym (V.rolls-Applied a n xs)) ∙ fold-roll-TypeText ℕ ℕ ℕ argument_depth_step type_depth_step variable_depth_step (F.Applied a n xs)

depth-paren : (a : ℕ) (t : TypeText) (vs : List VarText) → type_depth (V.Paren a t vs) ≡ max (type_depth t) (variables_depth vs) + 1
depth-paren a t vs = ap type_depth (sym (V.rolls-Paren a t vs)) ∙ fold-roll-TypeText ℕ ℕ ℕ argument_depth_step type_depth_step variable_depth_step (F.Paren a t vs)

depth-exact : (t : TypeText) → argument_depth (AV.Exact t) ≡ type_depth t
depth-exact t = ap argument_depth (sym (V.rolls-Exact t)) ∙ fold-roll-ArgText ℕ ℕ ℕ argument_depth_step type_depth_step variable_depth_step (F.Exact t)

depth-argument-below : (a : ℕ) (t : TypeText) → argument_depth (AV.Below a t) ≡ type_depth t
depth-argument-below a t = ap argument_depth (sym (V.rolls-ArgText::Below a t)) ∙ fold-roll-ArgText ℕ ℕ ℕ argument_depth_step type_depth_step variable_depth_step (F.ArgText::Below a t)

depth-argument-above : (a : ℕ) (t : TypeText) → argument_depth (AV.Above a t) ≡ type_depth t
depth-argument-above a t = ap argument_depth (sym (V.rolls-ArgText::Above a t)) ∙ fold-roll-ArgText ℕ ℕ ℕ argument_depth_step type_depth_step variable_depth_step (F.ArgText::Above a t)

depth-free : (a : ℕ) (n : List ℕ) → variable_depth (VV.Free a n) ≡ 0
depth-free a n = ap variable_depth (sym (V.rolls-Free a n)) ∙ fold-roll-VarText ℕ ℕ ℕ argument_depth_step type_depth_step variable_depth_step (F.Free a n)

depth-below : (a : ℕ) (n : List ℕ) (t : TypeText) → variable_depth (VV.Below a n t) ≡ type_depth t
depth-below a n t = ap variable_depth (sym (V.rolls-VarText::Below a n t)) ∙ fold-roll-VarText ℕ ℕ ℕ argument_depth_step type_depth_step variable_depth_step (F.VarText::Below a n t)

depth-above : (a : ℕ) (n : List ℕ) (t : TypeText) → variable_depth (VV.Above a n t) ≡ type_depth t
depth-above a n t = ap variable_depth (sym (V.rolls-VarText::Above a n t)) ∙ fold-roll-VarText ℕ ℕ ℕ argument_depth_step type_depth_step variable_depth_step (F.VarText::Above a n t)

depth-between : (low : TypeText) (a : ℕ) (n : List ℕ) (high : TypeText) → variable_depth (VV.Between low a n high) ≡ max (type_depth low) (type_depth high)
depth-between low a n high = ap variable_depth (sym (V.rolls-Between low a n high)) ∙ fold-roll-VarText ℕ ℕ ℕ argument_depth_step type_depth_step variable_depth_step (F.Between low a n high)

map-more : {A B C : Type 0} (f : A → B) (g : B → C) (k : A → C) (xs : List A) (x : A) → map g (map f xs) ≡ map k xs → g (f x) ≡ k x → map g (map f (xs ++ x ∷ [])) ≡ map k (xs ++ x ∷ [])
map-more f g k xs x e d =
    ap (map g) (map-append f xs (x ∷ [])) ∙ map-append g (map f xs) (f x ∷ []) ∙ ap (λ l. l ++ g (f x) ∷ []) e ∙ ap (λ y. map k xs ++ y ∷ []) d ∙ sym (map-append k xs (x ∷ []))

-- without its places a tree is as deep as with them
mutual
  pub type_same_depth : (t : TypeText) (ls : List Lexeme) → G.IsType t ls → type_depth (same_type t) ≡ type_depth t
  type_same_depth _ _ (G.plain a n) = ap type_depth (T.type_name_same a n) ∙ depth-name 0 n ∙ sym (depth-name a n)
  type_same_depth _ _ (G.empty a n b c) = ap type_depth (T.type_applied_same a n []) ∙ depth-applied 0 n [] ∙ sym (depth-applied a n [])
  type_same_depth _ _ (G.applied a n b c xs ts d) =
      ap type_depth (T.type_applied_same a n xs) ∙ depth-applied 0 n (map same_argument xs) ∙ ap (λ l. greatest l + 1) (arguments_same_depth xs ts d) ∙ sym (depth-applied a n xs)
  type_same_depth _ _ (G.paren a c t ts d) =
      ap type_depth (T.type_paren_same a t []) ∙ depth-paren 0 (same_type t) [] ∙ ap (λ x. max x 0 + 1) (type_same_depth t ts d) ∙ sym (depth-paren a t [])
  type_same_depth _ _ (G.limited a c t vs ts us d e) =
      ap type_depth (T.type_paren_same a t vs) ∙ depth-paren 0 (same_type t) (map same_variable vs) ∙ ap (λ x. max x (variables_depth (map same_variable vs)) + 1) (type_same_depth t ts d)
      ∙ ap (λ l. max (type_depth t) (greatest l) + 1) (where_same_depth vs us e) ∙ sym (depth-paren a t vs)

  pub arguments_same_depth : (xs : List ArgText) (ls : List Lexeme) → G.IsArguments xs ls → map argument_depth (map same_argument xs) ≡ map argument_depth xs
  arguments_same_depth _ _ (G.one x ts d) = ap (λ y. y ∷ []) (argument_same_depth x ts d)
  arguments_same_depth _ _ (G.more xs x c ts us d e) = map-more same_argument argument_depth argument_depth xs x (arguments_same_depth xs ts d) (argument_same_depth x us e)

  pub argument_same_depth : (x : ArgText) (ls : List Lexeme) → G.IsArgument x ls → argument_depth (same_argument x) ≡ argument_depth x
  argument_same_depth _ _ (G.exact t ts d) = ap argument_depth (T.argument_exact_same t) ∙ depth-exact (same_type t) ∙ type_same_depth t ts d ∙ sym (depth-exact t)
  argument_same_depth _ _ (G.below a t ts d) = ap argument_depth (T.argument_below_same a t) ∙ depth-argument-below 0 (same_type t) ∙ type_same_depth t ts d ∙ sym (depth-argument-below a t)
  argument_same_depth _ _ (G.above a t ts d) = ap argument_depth (T.argument_above_same a t) ∙ depth-argument-above 0 (same_type t) ∙ type_same_depth t ts d ∙ sym (depth-argument-above a t)

  pub where_same_depth : (vs : List VarText) (ls : List Lexeme) → G.IsWhere vs ls → map variable_depth (map same_variable vs) ≡ map variable_depth vs
  where_same_depth _ _ (G.alone a v ts d) = ap (λ y. y ∷ []) (variable_same_depth v ts d)
  where_same_depth _ _ (G.braces a b c vs ts d) = variables_same_depth vs ts d

  pub variables_same_depth : (vs : List VarText) (ls : List Lexeme) → G.IsVariables vs ls → map variable_depth (map same_variable vs) ≡ map variable_depth vs
  variables_same_depth _ _ (G.first v ts d) = ap (λ y. y ∷ []) (variable_same_depth v ts d)
  variables_same_depth _ _ (G.next vs v c ts us d e) = map-more same_variable variable_depth variable_depth vs v (variables_same_depth vs ts d) (variable_same_depth v us e)

  pub variable_same_depth : (v : VarText) (ls : List Lexeme) → G.IsVariable v ls → variable_depth (same_variable v) ≡ variable_depth v
  variable_same_depth _ _ (G.free a n) = ap variable_depth (T.variable_free_same a n) ∙ depth-free 0 n ∙ sym (depth-free a n)
  variable_same_depth _ _ (G.upper a n b t ts d) = ap variable_depth (T.variable_below_same a n t) ∙ depth-below 0 n (same_type t) ∙ type_same_depth t ts d ∙ sym (depth-below a n t)
  variable_same_depth _ _ (G.lower a n b t ts d) = ap variable_depth (T.variable_above_same a n t) ∙ depth-above 0 n (same_type t) ∙ type_same_depth t ts d ∙ sym (depth-above a n t)
  variable_same_depth _ _ (G.between low b a n c high ts us d e) =
      ap variable_depth (T.variable_between_same low a n high) ∙ depth-between (same_type low) 0 n (same_type high) ∙ ap (λ x. max x (type_depth (same_type high))) (type_same_depth low ts d)
      ∙ ap (λ x. max (type_depth low) x) (type_same_depth high us e) ∙ sym (depth-between low a n high)

-- a written type: the same without its places, and as deep
pub record LikeType (u t : TypeText) : Type 0 where
  pub same : same_type u ≡ same_type t
  pub depth : type_depth u ≡ type_depth t

written-depth : (t : TypeText) (b : Bool) → (M.type_form (cond b (Built t (type_depth t)) TooDeep)).depth ≡ cond b (type_depth t) 501
written-depth t true = refl
written-depth t false = refl

pub type_as_read_depth : (u t : TypeText) → type_depth u ≡ type_depth t → (type_as_read u).depth ≡ (type_as_read t).depth
type_as_read_depth u t e = written-depth u (nat_le (type_depth u) depth_limit) ∙ ap (λ d. cond (nat_le d depth_limit) d 501) e ∙ sym (written-depth t (nat_le (type_depth t) depth_limit))

written-tree : (t : TypeText) (b : Bool) → (M.type_form (cond b (Built t (type_depth t)) TooDeep)).depth ≤ 500 → (M.type_form (cond b (Built t (type_depth t)) TooDeep)).tree ≡ t
written-tree t true l = refl
written-tree t false l = absurd (omega (arith, l))

pub type_as_read_tree : (t : TypeText) → (type_as_read t).depth ≤ 500 → (type_as_read t).tree ≡ t
type_as_read_tree t l = written-tree t (nat_le (type_depth t) depth_limit) l

pub type_as_read_same : (u t : TypeText) → LikeType u t → (type_as_read t).depth ≤ 500 → same_type (type_as_read u).tree ≡ same_type (type_as_read t).tree
type_as_read_same u t e l =
    let k : (type_as_read u).depth ≤ 500 = omega (arith, l, type_as_read_depth u t e.depth) in
    ap same_type (type_as_read_tree u k) ∙ e.same ∙ sym (ap same_type (type_as_read_tree t l))
