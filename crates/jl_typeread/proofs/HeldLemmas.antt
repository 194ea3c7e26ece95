-- Trees beside their depth: what is built of held trees is the tree that is built of them, held.
use Rattle.std.proofs.Common.{ℕ, ◌+◌, max, ◌≤◌, ◌<◌, cond, true, false, nat_lt, nat_le, List, [], ◌∷◌, ◌++◌, map, ◌≡◌, refl, sym, ap, ◌∙◌, arith}
use Rattle.std.proofs.lemmas.List.{map-append}
use Rattle.std.proofs.lemmas.Bool.{le-leb, lt-leb, leb-true, leb-false, ltb-true, ltb-false}
use Rattle.jl_typeread.specs.declared.tree.TypeText.{TypeText}
use Rattle.jl_typeread.specs.declared.tree.ArgText.{ArgText}
use Rattle.jl_typeread.specs.declared.tree.VarText.{VarText}
use Rattle.jl_typeread.specs.declared.tree.ArgText.TheOpen as F
use Rattle.jl_typeread.specs.declared.tree.ArgText.TheFolds.{fold-roll-TypeText, fold-roll-ArgText, fold-roll-VarText}
use Rattle.jl_typeread.specs.declared.tree.TypeText.TheVariants as T
use Rattle.jl_typeread.specs.declared.tree.ArgText.TheVariants as A
use Rattle.jl_typeread.specs.declared.tree.VarText.TheVariants as V
use Rattle.jl_typeread.specs.declared.tree.ArgText.TheViews as W
use Rattle.jl_typeread.specs.declared.deep.Deep.TheVariants.{Built, TooDeep}
use Rattle.jl_typeread.specs.declared.deep.Mark.{Mark}
use Rattle.jl_typeread.specs.declared.deep.Mark.TheVariants as mark
use Rattle.jl_typeread.specs.Depth.{greatest, type_depth_step, argument_depth_step, variable_depth_step, type_depth, argument_depth, variable_depth, arguments_depth, variables_depth, depth_limit, held, held_type, held_arguments, held_variable, held_variables, around, around_both, map_deep, join_deep, plain_type, argument, with_argument, with_variable, applied_type, paren, below_bound, above_bound, between_bound}

-- ---- held trees

held_yes : {X : Type 0} (d : ℕ) (x : X) → d ≤ depth_limit → held d x ≡ Built x d
held_yes d x l = ap (λ b. cond b (Built x d) TooDeep) (le-leb d depth_limit l)

held_no : {X : Type 0} (d : ℕ) (x : X) → depth_limit < d → held d x ≡ TooDeep
held_no d x l = ap (λ b. cond b (Built x d) TooDeep) (lt-leb d depth_limit l)

more_around : {X : Type 0} (d : ℕ) (x : X) → cond (nat_lt d depth_limit) (Built x (d + 1)) TooDeep ≡ held (d + 1) x
more_around d x = elim (nat_lt d depth_limit) as (λ b. nat_lt d depth_limit ≡ b → cond b (Built x (d + 1)) TooDeep ≡ held (d + 1) x) [
  | true ↦ λ h. let l : d < depth_limit = ltb-true d depth_limit h in sym (held_yes (d + 1) x (omega arith))
  | false ↦ λ h. let l : depth_limit ≤ d = ltb-false d depth_limit h in sym (held_no (d + 1) x (omega arith))
] refl

pub around_held : {X Y : Type 0} (f : X → Y) (d : ℕ) (x : X) → around f (held d x) ≡ held (d + 1) (f x)
around_held f d x = elim (nat_le d depth_limit) as (λ b. nat_le d depth_limit ≡ b → around f (cond b (Built x d) TooDeep) ≡ held (d + 1) (f x)) [
  | true ↦ λ h. more_around d (f x)
  | false ↦ λ h. let l : depth_limit < d = leb-false d depth_limit h in sym (held_no (d + 1) (f x) (omega arith))
] refl

pub map_deep_held : {X Y : Type 0} (f : X → Y) (d : ℕ) (x : X) → map_deep f (held d x) ≡ held d (f x)
map_deep_held f d x = elim (nat_le d depth_limit) as (λ b. map_deep f (cond b (Built x d) TooDeep) ≡ cond b (Built (f x) d) TooDeep) [ true ↦ refl | false ↦ refl ]

pub join_deep_held : {X Y Z : Type 0} (f : X → Y → Z) (d : ℕ) (x : X) (e : ℕ) (y : Y) → join_deep f (held d x) (held e y) ≡ held (max d e) (f x y)
join_deep_held f d x e y = elim (nat_le d depth_limit) as (λ b. nat_le d depth_limit ≡ b → join_deep f (cond b (Built x d) TooDeep) (held e y) ≡ held (max d e) (f x y)) [
  | true ↦ λ h. elim (nat_le e depth_limit) as (λ c. nat_le e depth_limit ≡ c → join_deep f (Built x d) (cond c (Built y e) TooDeep) ≡ held (max d e) (f x y)) [
    | true ↦ λ k. let l : d ≤ depth_limit = leb-true d depth_limit h in let m : e ≤ depth_limit = leb-true e depth_limit k in sym (held_yes (max d e) (f x y) (omega arith))
    | false ↦ λ k. let m : depth_limit < e = leb-false e depth_limit k in sym (held_no (max d e) (f x y) (omega arith))
  ] refl
  | false ↦ λ h. let l : depth_limit < d = leb-false d depth_limit h in sym (held_no (max d e) (f x y) (omega arith))
] refl

pub around_both_held : {X Y Z : Type 0} (f : X → Y → Z) (d : ℕ) (x : X) (e : ℕ) (y : Y) → around_both f (held d x) (held e y) ≡ held (max d e + 1) (f x y)
around_both_held f d x e y = elim (nat_le d depth_limit) as (λ b. nat_le d depth_limit ≡ b → around_both f (cond b (Built x d) TooDeep) (held e y) ≡ held (max d e + 1) (f x y)) [
  | true ↦ λ h. elim (nat_le e depth_limit) as (λ c. nat_le e depth_limit ≡ c → around_both f (Built x d) (cond c (Built y e) TooDeep) ≡ held (max d e + 1) (f x y)) [
    | true ↦ λ k. more_around (max d e) (f x y)
    | false ↦ λ k. let m : depth_limit < e = leb-false e depth_limit k in sym (held_no (max d e + 1) (f x y) (omega arith))
  ] refl
  | false ↦ λ h. let l : depth_limit < d = leb-false d depth_limit h in sym (held_no (max d e + 1) (f x y) (omega arith))
] refl

-- ---- the depth of each form

plain_depth : (a : ℕ) (n : List ℕ) → type_depth (T.Name a n) ≡ 1
plain_depth a n = ap type_depth (sym (W.rolls-Name a n)) ∙ fold-roll-TypeText ℕ ℕ ℕ argument_depth_step type_depth_step variable_depth_step (F.Name a n)

applied_depth : (a : ℕ) (n : List ℕ) (xs : List ArgText) → type_depth (W.Applied a n xs) ≡ arguments_depth xs + 1
applied_depth a n xs = ap type_depth (sym (W.rolls-Applied a n xs)) ∙ fold-roll-TypeText ℕ ℕ ℕ argument_depth_step type_depth_step variable_depth_step (F.Applied a n xs)

paren_depth : (a : ℕ) (t : TypeText) (vs : List VarText) → type_depth (W.Paren a t vs) ≡ max (type_depth t) (variables_depth vs) + 1
paren_depth a t vs = ap type_depth (sym (W.rolls-Paren a t vs)) ∙ fold-roll-TypeText ℕ ℕ ℕ argument_depth_step type_depth_step variable_depth_step (F.Paren a t vs)

exact_depth : (t : TypeText) → argument_depth (A.Exact t) ≡ type_depth t
exact_depth t = ap argument_depth (sym (W.rolls-Exact t)) ∙ fold-roll-ArgText ℕ ℕ ℕ argument_depth_step type_depth_step variable_depth_step (F.Exact t)

argument_below_depth : (a : ℕ) (t : TypeText) → argument_depth (A.Below a t) ≡ type_depth t
argument_below_depth a t = ap argument_depth (sym (W.rolls-ArgText::Below a t)) ∙ fold-roll-ArgText ℕ ℕ ℕ argument_depth_step type_depth_step variable_depth_step (F.ArgText::Below a t)

argument_above_depth : (a : ℕ) (t : TypeText) → argument_depth (A.Above a t) ≡ type_depth t
argument_above_depth a t = ap argument_depth (sym (W.rolls-ArgText::Above a t)) ∙ fold-roll-ArgText ℕ ℕ ℕ argument_depth_step type_depth_step variable_depth_step (F.ArgText::Above a t)

free_depth : (a : ℕ) (n : List ℕ) → variable_depth (V.Free a n) ≡ 0
free_depth a n = ap variable_depth (sym (W.rolls-Free a n)) ∙ fold-roll-VarText ℕ ℕ ℕ argument_depth_step type_depth_step variable_depth_step (F.Free a n)

below_depth : (a : ℕ) (n : List ℕ) (t : TypeText) → variable_depth (V.Below a n t) ≡ type_depth t
below_depth a n t = ap variable_depth (sym (W.rolls-VarText::Below a n t)) ∙ fold-roll-VarText ℕ ℕ ℕ argument_depth_step type_depth_step variable_depth_step (F.VarText::Below a n t)

above_depth : (a : ℕ) (n : List ℕ) (t : TypeText) → variable_depth (V.Above a n t) ≡ type_depth t
above_depth a n t = ap variable_depth (sym (W.rolls-VarText::Above a n t)) ∙ fold-roll-VarText ℕ ℕ ℕ argument_depth_step type_depth_step variable_depth_step (F.VarText::Above a n t)

between_depth : (low : TypeText) (a : ℕ) (n : List ℕ) (high : TypeText) → variable_depth (V.Between low a n high) ≡ max (type_depth low) (type_depth high)
between_depth low a n high = ap variable_depth (sym (W.rolls-Between low a n high)) ∙ fold-roll-VarText ℕ ℕ ℕ argument_depth_step type_depth_step variable_depth_step (F.Between low a n high)

max_nothing : (n : ℕ) → max n 0 ≡ n
max_nothing n = omega arith

greatest_more : (ns : List ℕ) (n : ℕ) → greatest (ns ++ n ∷ []) ≡ max (greatest ns) n
greatest_more [] n = omega arith
greatest_more (m ∷ ns) n = let h = greatest_more ns n in ap (max m) h ∙ (omega arith)

more_arguments_depth : (xs : List ArgText) (x : ArgText) → arguments_depth (xs ++ x ∷ []) ≡ max (arguments_depth xs) (argument_depth x)
more_arguments_depth xs x = ap greatest (map-append argument_depth xs (x ∷ [])) ∙ greatest_more (map argument_depth xs) (argument_depth x)

more_variables_depth : (vs : List VarText) (v : VarText) → variables_depth (vs ++ v ∷ []) ≡ max (variables_depth vs) (variable_depth v)
more_variables_depth vs v = ap greatest (map-append variable_depth vs (v ∷ [])) ∙ greatest_more (map variable_depth vs) (variable_depth v)

-- ---- each form, held

pub held_plain_type : (a : ℕ) (n : List ℕ) → held_type (T.Name a n) ≡ plain_type a n
held_plain_type a n = ap (λ d. held d (T.Name a n)) (plain_depth a n)

pub held_applied_type : (a : ℕ) (n : List ℕ) (xs : List ArgText) → held_type (W.Applied a n xs) ≡ applied_type a n (held_arguments xs)
held_applied_type a n xs = ap (λ d. held d (W.Applied a n xs)) (applied_depth a n xs) ∙ sym (around_held (W.Applied a n) (arguments_depth xs) xs)

pub held_paren : (a : ℕ) (t : TypeText) (vs : List VarText) → held_type (W.Paren a t vs) ≡ paren a (held_type t) (held_variables vs)
held_paren a t vs = ap (λ d. held d (W.Paren a t vs)) (paren_depth a t vs) ∙ sym (around_both_held (W.Paren a) (type_depth t) t (variables_depth vs) vs)

pub held_argument : (xs : List ArgText) (m : Mark) (t : TypeText) → with_argument (held_arguments xs) m (held_type t) ≡ held_arguments (xs ++ argument m t ∷ [])
held_argument xs m t =
    join_deep_held (λ ys y. ys ++ argument m y ∷ []) (arguments_depth xs) xs (type_depth t) t
    ∙ ap (λ d. held d (xs ++ argument m t ∷ [])) (ap (max (arguments_depth xs)) (sym (as_argument m t)) ∙ sym (more_arguments_depth xs (argument m t)))
  where
    as_argument : (m : Mark) (t : TypeText) → argument_depth (argument m t) ≡ type_depth t
    as_argument mark.Exact t = exact_depth t
    as_argument (mark.Below a) t = argument_below_depth a t
    as_argument (mark.Above a) t = argument_above_depth a t

pub held_one_more : (vs : List VarText) (v : VarText) → with_variable (held_variables vs) (held_variable v) ≡ held_variables (vs ++ v ∷ [])
held_one_more vs v =
    join_deep_held (λ ys y. ys ++ y ∷ []) (variables_depth vs) vs (variable_depth v) v
    ∙ ap (λ d. held d (vs ++ v ∷ [])) (sym (more_variables_depth vs v))

pub held_free : (a : ℕ) (n : List ℕ) → held_variable (V.Free a n) ≡ Built (V.Free a n) 0
held_free a n = ap (λ d. held d (V.Free a n)) (free_depth a n)

pub held_below : (a : ℕ) (n : List ℕ) (t : TypeText) → held_variable (V.Below a n t) ≡ below_bound a n (held_type t)
held_below a n t = ap (λ d. held d (V.Below a n t)) (below_depth a n t) ∙ sym (map_deep_held (V.Below a n) (type_depth t) t)

pub held_above : (a : ℕ) (n : List ℕ) (t : TypeText) → held_variable (V.Above a n t) ≡ above_bound a n (held_type t)
held_above a n t = ap (λ d. held d (V.Above a n t)) (above_depth a n t) ∙ sym (map_deep_held (V.Above a n) (type_depth t) t)

pub held_between : (low : TypeText) (a : ℕ) (n : List ℕ) (high : TypeText) → held_variable (V.Between low a n high) ≡ between_bound (held_type low) a n (held_type high)
held_between low a n high =
    ap (λ d. held d (V.Between low a n high)) (between_depth low a n high)
    ∙ sym (join_deep_held (λ l h. V.Between l a n h) (type_depth low) low (type_depth high) high)
