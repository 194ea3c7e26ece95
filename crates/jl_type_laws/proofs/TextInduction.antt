-- Induction over written types, arguments and variables.
use Rattle.std.proofs.Common.{subst, ℕ, List, [], ◌∷◌, map}
use Rattle.jl_typeread.specs.declared.tree.TypeText.{TypeText}
use Rattle.jl_typeread.specs.declared.tree.ArgText.{ArgText}
use Rattle.jl_typeread.specs.declared.tree.VarText.{VarText}
use Rattle.jl_typeread.specs.declared.tree.ArgText.TheOpen as F
use Rattle.jl_typeread.specs.declared.tree.ArgText.TheOpen.{TypeText-F, ArgText-F, VarText-F}
use Rattle.jl_typeread.specs.declared.tree.ArgText.TheFolds.{ind-TypeText, ind-ArgText, ind-VarText, map-TypeText, map-ArgText, map-VarText}
use Rattle.jl_typeread.specs.declared.tree.ArgText.TheViews.{roll-TypeText, roll-ArgText, roll-VarText}

module _ {A : Type 0} (P : A → Type 0) where
  -- each member of a list
  abbrev pub EachText : List A → Type 0
  EachText [] = Unit {0}
  EachText (x ∷ xs) = P x × EachText xs

  pub each_text : (es : List ((x : A) × P x)) → EachText (map (λ e. e.0) es)
  each_text [] = tt
  each_text (e ∷ es) = (e.1, each_text es)

module _ (A : ArgText → Type 0) (T : TypeText → Type 0) (V : VarText → Type 0) where
  -- the ten cases, each over one layer
  pub record TextCases : Type 0 where
    pub name : (at : ℕ) (n : List ℕ) → T (roll-TypeText (F.Name at n))
    pub applied : (at : ℕ) (n : List ℕ) (xs : List ArgText) → EachText A xs → T (roll-TypeText (F.Applied at n xs))
    pub paren : (at : ℕ) (t : TypeText) (vs : List VarText) → T t → EachText V vs → T (roll-TypeText (F.Paren at t vs))
    pub exact : (t : TypeText) → T t → A (roll-ArgText (F.Exact t))
    pub below_ : (at : ℕ) (t : TypeText) → T t → A (roll-ArgText (F.ArgText::Below at t))
    pub above : (at : ℕ) (t : TypeText) → T t → A (roll-ArgText (F.ArgText::Above at t))
    pub free : (at : ℕ) (n : List ℕ) → V (roll-VarText (F.Free at n))
    pub upper : (at : ℕ) (n : List ℕ) (t : TypeText) → T t → V (roll-VarText (F.VarText::Below at n t))
    pub lower : (at : ℕ) (n : List ℕ) (t : TypeText) → T t → V (roll-VarText (F.VarText::Above at n t))
    pub between : (l : TypeText) (at : ℕ) (n : List ℕ) (h : TypeText) → T l → T h → V (roll-VarText (F.Between l at n h))

  abbrev ArgOf : Type 0
  ArgOf = (x : ArgText) × A x

  abbrev TypeOf : Type 0
  TypeOf = (x : TypeText) × T x

  abbrev VarOf : Type 0
  VarOf = (x : VarText) × V x

  type_layer : TextCases → (y : TypeText-F ArgOf TypeOf VarOf) → T (roll-TypeText (map-TypeText ArgOf TypeOf VarOf ArgText TypeText VarText (λ e. e.0) (λ e. e.0) (λ e. e.0) y))
  type_layer c (F.Name at n) = c.name at n
  type_layer c (F.Applied at n es) = c.applied at n (map (λ e. e.0) es) (each_text A es)
  type_layer c (F.Paren at t vs) = c.paren at t.0 (map (λ e. e.0) vs) t.1 (each_text V vs)

  arg_layer : TextCases → (y : ArgText-F ArgOf TypeOf VarOf) → A (roll-ArgText (map-ArgText ArgOf TypeOf VarOf ArgText TypeText VarText (λ e. e.0) (λ e. e.0) (λ e. e.0) y))
  arg_layer c (F.Exact t) = c.exact t.0 t.1
  arg_layer c (F.ArgText::Below at t) = c.below_ at t.0 t.1
  arg_layer c (F.ArgText::Above at t) = c.above at t.0 t.1

  var_layer : TextCases → (y : VarText-F ArgOf TypeOf VarOf) → V (roll-VarText (map-VarText ArgOf TypeOf VarOf ArgText TypeText VarText (λ e. e.0) (λ e. e.0) (λ e. e.0) y))
  var_layer c (F.Free at n) = c.free at n
  var_layer c (F.VarText::Below at n t) = c.upper at n t.0 t.1
  var_layer c (F.VarText::Above at n t) = c.lower at n t.0 t.1
  var_layer c (F.Between l at n h) = c.between l.0 at n h.0 l.1 h.1

  pub by_type : TextCases → (t : TypeText) → T t
  by_type c = ind-TypeText A T V
      (λ x y is. subst (λ z. A (roll-ArgText z)) is (arg_layer c y))
      (λ x y is. subst (λ z. T (roll-TypeText z)) is (type_layer c y))
      (λ x y is. subst (λ z. V (roll-VarText z)) is (var_layer c y))

  pub by_arg : TextCases → (t : ArgText) → A t
  by_arg c = ind-ArgText A T V
      (λ x y is. subst (λ z. A (roll-ArgText z)) is (arg_layer c y))
      (λ x y is. subst (λ z. T (roll-TypeText z)) is (type_layer c y))
      (λ x y is. subst (λ z. V (roll-VarText z)) is (var_layer c y))

  pub by_var : TextCases → (t : VarText) → V t
  by_var c = ind-VarText A T V
      (λ x y is. subst (λ z. A (roll-ArgText z)) is (arg_layer c y))
      (λ x y is. subst (λ z. T (roll-TypeText z)) is (type_layer c y))
      (λ x y is. subst (λ z. V (roll-VarText z)) is (var_layer c y))
