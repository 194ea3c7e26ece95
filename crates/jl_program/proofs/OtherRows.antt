-- Rows and applicability, computed on `same(x::T, y::T) where T`.
use Rattle.std.proofs.Common.{◌≡◌, ◌∙◌, refl, sym, ap, subst, ℕ, zero, suc, Bool, true, false, true≢false, IsTrue, arith, List, [], ◌∷◌, ◌++◌, map, Option, Some, None}
use Rattle.std.specs.List.{Contains}
use Rattle.jl_model.specs.declared.ty.Ty.{Ty}
use Rattle.jl_model.specs.declared.ty.Ty.TheOpen.{Ty-F}
use Rattle.jl_model.specs.declared.ty.Ty.TheOpen as L
use Rattle.jl_model.specs.declared.ty.Ty.TheVariants as T
use Rattle.jl_model.specs.declared.ty.Ty.TheViews as W
use Rattle.jl_model.specs.declared.ty.Ty.TheViews.{out-Ty, roll-Ty, roll-out-Ty, rolls-Any, rolls-Union, rolls-Tuple, rolls-Nominal, rolls-Var, outs-Any, outs-Union, outs-Tuple, outs-Nominal, outs-Var}
use Rattle.jl_model.specs.declared.ty.Ty.TheFolds.{fold-roll-Ty, para-roll-Ty}
use Rattle.jl_model.specs.declared.ty.Written.{Written}
use Rattle.jl_model.specs.Kinds.{Kind, diagonal, Places, places, places_step, nowhere, plus, below_nominal, kind_of}
use Rattle.jl_model.specs.Ancestors.{builtin_types, table_of, up_in}
use Rattle.jl_model.specs.Rows.{choices, forms, forms_step, alts, components, place_of, vars_in, vars_step, kind, root, high, low, free, bound_places, Occurs, standing}
use Rattle.jl_model.specs.Subtype.{Table, Fixed, opaque, lifted, put_in, put, put_step, Below, Covered, Found, Part, below, none, more, here, there, raise, any, tuple, nominal, self, own, under, is_concrete, concrete_step}
use Rattle.jl_model.specs.Signature.{Row, IsRow, by_kind, top, Both, both_end, both_more, Applicable}
use Rattle.jl_program.specs.Prelude.{int64, bool}
use Rattle.jl_program.proofs.FirstChoices.{free_places, any_forms, int_forms, any_put, int_vars, int_below_any, int_below_int}

-- the signature
abbrev pub same : Written
same = record { vars = free ∷ []; parts = T.Var 0 ∷ T.Var 0 ∷ [] }

abbrev vars : List Ty
vars = T.Var 0 ∷ T.Var 0 ∷ []

var_places : places 0 (T.Var 0) ≡ record { covariant = 1; invariant = 0 }
var_places = ap (places 0) (sym (rolls-Var 0)) ∙ fold-roll-Ty Places (places_step 0) (L.Var 0)

-- its variable is diagonal
kind_is : kind same 0 ≡ diagonal
kind_is =
    let bounds = below_nominal (bound_places 0 same.vars) in
    ap (λ p. kind_of (plus (plus p (plus p nowhere)) bounds)) var_places
    ∙ ap (λ b. kind_of (plus (record { covariant = 2; invariant = 0 }) (below_nominal (plus b nowhere)))) (free_places 0)

abbrev at_places : ℕ → List Ty
at_places v = place_of same v (kind same v)

var_forms : forms at_places (T.Var 0) ≡ T.Var 0 ∷ []
var_forms = ap (forms at_places) (sym (rolls-Var 0)) ∙ para-roll-Ty (List Ty) (forms_step at_places) (L.Var 0) ∙ ap (place_of same 0) kind_is

-- it has one row
rows_are : components same ≡ vars ∷ []
rows_are = ap (λ fs. choices (fs ∷ fs ∷ [])) var_forms

var_vars : vars_in (T.Var 0) ≡ 0 ∷ []
var_vars = ap vars_in (sym (rolls-Var 0)) ∙ fold-roll-Ty (List ℕ) vars_step (L.Var 0)

occurs : Occurs same 0 vars
occurs = standing 0 vars (subst (λ (vs : List ℕ). Contains (map (root same) (vs ++ (vs ++ []))) 0) (sym var_vars) (0, omega arith, refl))

none_alts : alts (W.Union []) ≡ []
none_alts = ap alts (sym (rolls-Union [])) ∙ para-roll-Ty (List Ty) (forms_step (λ v. T.Var v ∷ [])) (L.Union [])

none_put : (f : ℕ → Ty) → put f (W.Union []) ≡ W.Union []
none_put f = ap (put f) (sym (rolls-Union [])) ∙ fold-roll-Ty Ty (put_step f) (L.Union [])

var_put : (f : ℕ → Ty) → put f (T.Var 0) ≡ f 0
var_put f = ap (put f) (sym (rolls-Var 0)) ∙ fold-roll-Ty Ty (put_step f) (L.Var 0)

lows : (v : ℕ) → low same v ≡ W.Union []
lows zero = refl
lows (suc v) = refl

highs : (v : ℕ) → high same v ≡ T.Any
highs zero = refl
highs (suc v) = refl

any_of_kind : (k : Kind) → by_kind k T.Any T.Any ≡ T.Any
any_of_kind Kind.unused = refl
any_of_kind Kind.once = refl
any_of_kind Kind.diagonal = refl
any_of_kind Kind.bound = refl

module _ (n : Table) where
  none_below : (t : Ty) → Below n opaque (W.Union []) t
  none_below t = below opaque (W.Union []) t (subst (λ (ts : List Ty). Covered n opaque ts (alts t)) (sym none_alts) (none opaque (alts t)))

  int_concrete : is_concrete n opaque int64 ≡ n.is_struct 4
  int_concrete = ap (is_concrete n opaque) (sym (rolls-Nominal 4 [])) ∙ fold-roll-Ty Bool (concrete_step n opaque) (L.Nominal 4 [])

  abbrev row : Row
  row = record { parts = vars; chosen = λ v. T.Any }

  abbrev ints : ℕ → Ty
  ints v = int64

  is_row : IsRow n same row
  is_row = record {
    parts = subst (λ (cs : List (List Ty)). Contains cs vars) (sym rows_are) (0, omega arith, refl);
    chosen = λ v k o. (
      subst (λ (t : Ty). Contains (alts t) T.Any) (sym (highs v)) (subst (λ (ts : List Ty). Contains ts T.Any) (sym (any_forms (λ w. T.Var w ∷ []))) (0, omega arith, refl)),
      subst (λ (t : Ty). Below n opaque t T.Any) (sym (lows v)) (none_below T.Any),
    );
    other = λ v o. refl;
  }

  tops : (v : ℕ) → top same row v ≡ T.Any
  tops v = ap (by_kind (kind same v) T.Any) (highs v) ∙ any_of_kind (kind same v)

  -- it applies to two integers
  same_applies : n.is_struct 4 ≡ true → Applicable n same (int64 ∷ int64 ∷ [])
  same_applies s =
      let b : Below n opaque int64 (put ints (T.Var 0)) = subst (λ (t : Ty). Below n opaque int64 t) (sym (var_put ints)) (int_below_int n) in (
        row,
        ints,
        is_row,
        record {
          least = λ v o. subst (λ (t : Ty). Below n opaque t int64) (sym (ap (put ints) (lows v) ∙ none_put ints)) (none_below int64);
          most = λ v o. subst (λ (t : Ty). Below n opaque int64 t) (sym (ap (put ints) (tops v) ∙ any_put ints)) (int_below_any n);
          sure = λ v o k. int_concrete ∙ s;
        },
        (λ v. int_vars),
        both_more int64 (T.Var 0) (int64 ∷ []) (T.Var 0 ∷ []) b (both_more int64 (T.Var 0) [] [] b both_end),
      )

  -- ---- and not to an integer and a truth value

  module _ (t : Ty) (k : ℕ) (o : out-Ty t ≡ L.Nominal k []) where
    part_of_nominal : (g : Fixed) (a v : Ty) (m : ℕ) (ys : List Ty) → a ≡ t → out-Ty v ≡ L.Nominal m ys → Part n g a v → (zs : List Ty) × (lifted n k [] m ≡ Some zs)
    part_of_nominal g a v m ys e q (any o1 a1 v1 i) = let z : L.Nominal m ys ≡ L.Any = sym q ∙ i in cc
    part_of_nominal g a v m ys e q (tuple o1 a1 v1 xs ws i j r) = let z : L.Nominal m ys ≡ L.Tuple ws = sym q ∙ j in cc
    part_of_nominal g a v m ys e q (nominal o1 a1 v1 k1 m1 xs zs ws i j l s) =
        let x : L.Nominal k [] ≡ L.Nominal k1 xs = sym o ∙ ap out-Ty (sym e) ∙ i in
        let y : L.Nominal m ys ≡ L.Nominal m1 ws = sym q ∙ j in
        let kk : k ≡ k1 = cc in
        let mm : m ≡ m1 = cc in
        let nil : [] ≡ xs = cc in
        (zs, rw (kk, mm, nil) l)
    part_of_nominal g a v m ys e q (self o1 a1 v1 w i j) = let z : L.Nominal m ys ≡ L.Var w = sym q ∙ j in cc
    part_of_nominal g a v m ys e q (own o1 a1 v1 w i j) = let z : L.Nominal k [] ≡ L.Var w = sym o ∙ ap out-Ty (sym e) ∙ i in cc
    part_of_nominal g a v m ys e q (under o1 a1 v1 w i b) = let z : L.Nominal m ys ≡ L.Var w = sym q ∙ i in cc

    part_of_tuple : (g : Fixed) (a v : Ty) (ys : List Ty) → a ≡ t → out-Ty v ≡ L.Tuple ys → Part n g a v → ⊥
    part_of_tuple g a v ys e q (any o1 a1 v1 i) = let z : L.Tuple ys ≡ L.Any = sym q ∙ i in cc
    part_of_tuple g a v ys e q (tuple o1 a1 v1 xs ws i j r) = let z : L.Nominal k [] ≡ L.Tuple xs = sym o ∙ ap out-Ty (sym e) ∙ i in cc
    part_of_tuple g a v ys e q (nominal o1 a1 v1 k1 m1 xs zs ws i j l s) = let z : L.Tuple ys ≡ L.Nominal m1 ws = sym q ∙ j in cc
    part_of_tuple g a v ys e q (self o1 a1 v1 w i j) = let z : L.Tuple ys ≡ L.Var w = sym q ∙ j in cc
    part_of_tuple g a v ys e q (own o1 a1 v1 w i j) = let z : L.Nominal k [] ≡ L.Var w = sym o ∙ ap out-Ty (sym e) ∙ i in cc
    part_of_tuple g a v ys e q (under o1 a1 v1 w i b) = let z : L.Tuple ys ≡ L.Var w = sym q ∙ i in cc

    found_in_none : (g : Fixed) (a : Ty) (us : List Ty) → a ≡ t → us ≡ [] → Found n g a us → ⊥
    found_in_none g a us e q (here o1 a1 u vs p) = let z : u ∷ vs ≡ [] = q in cc
    found_in_none g a us e q (there o1 a1 u vs f) = let z : u ∷ vs ≡ [] = q in cc
    found_in_none g a us e q (raise o1 a1 v vs i c) = let z : L.Nominal k [] ≡ L.Var v = sym o ∙ ap out-Ty (sym e) ∙ i in cc

    found_in_one : (g : Fixed) (a v : Ty) (us : List Ty) → a ≡ t → us ≡ v ∷ [] → Found n g a us → Part n g a v
    found_in_one g a v us e q (here o1 a1 u vs p) = let z : u ≡ v = cc in subst (λ (x : Ty). Part n o1 a1 x) z p
    found_in_one g a v us e q (there o1 a1 u vs f) = let z : vs ≡ [] = cc in absurd (found_in_none o1 a1 vs e z f)
    found_in_one g a v us e q (raise o1 a1 w vs i c) = let z : L.Nominal k [] ≡ L.Var w = sym o ∙ ap out-Ty (sym e) ∙ i in cc

    found_in_tuples : (g : Fixed) (a : Ty) (cs : List (List Ty)) (us : List Ty) → a ≡ t → us ≡ map (λ c. W.Tuple c) cs → Found n g a us → ⊥
    found_in_tuples g a [] us e q f = found_in_none g a us e q f
    found_in_tuples g a (c ∷ cs) us e q (here o1 a1 u vs p) = let z : u ≡ W.Tuple c = cc in part_of_tuple o1 a1 u c e (ap out-Ty z ∙ outs-Tuple c) p
    found_in_tuples g a (c ∷ cs) us e q (there o1 a1 u vs f) = let z : vs ≡ map (λ x. W.Tuple x) cs = cc in found_in_tuples o1 a1 cs vs e z f
    found_in_tuples g a (c ∷ cs) us e q (raise o1 a1 w vs i b) = let z : L.Nominal k [] ≡ L.Var w = sym o ∙ ap out-Ty (sym e) ∙ i in cc

    covered_first : (g : Fixed) (ts us : List Ty) → ts ≡ t ∷ [] → Covered n g ts us → Found n g t us
    covered_first g ts us e (none o1 vs) = let z : [] ≡ t ∷ [] = e in cc
    covered_first g ts us e (more o1 a as_ vs f c) = let z : a ≡ t = cc in subst (λ (x : Ty). Found n o1 x vs) z f

    found_below : (g : Fixed) (a u : Ty) → a ≡ t → alts t ≡ t ∷ [] → Below n g a u → Found n g t (alts u)
    found_below g a u e q (below o1 a1 u1 c) = covered_first o1 (alts a1) (alts u1) (ap alts e ∙ q) c

    -- a concrete type above it is a nominal type that it lifts to
    above : (u : Ty) (y : Ty-F Ty) → out-Ty u ≡ y → alts t ≡ t ∷ [] → IsTrue (is_concrete n opaque u) → Below n opaque t u
        → (m : ℕ) × (xs : List Ty) × (zs : List Ty) × (y ≡ L.Nominal m xs) × (n.is_struct m ≡ true) × (lifted n k [] m ≡ Some zs)
    above u L.Any e q s b =
        let z : is_concrete n opaque u ≡ false = ap (is_concrete n opaque) (sym (roll-out-Ty u) ∙ ap roll-Ty e) ∙ fold-roll-Ty Bool (concrete_step n opaque) L.Any in
        absurd (true≢false (sym s ∙ z))
    above u (L.Union xs) e q s b =
        let z : is_concrete n opaque u ≡ false = ap (is_concrete n opaque) (sym (roll-out-Ty u) ∙ ap roll-Ty e) ∙ fold-roll-Ty Bool (concrete_step n opaque) (L.Union xs) in
        absurd (true≢false (sym s ∙ z))
    above u (L.Var v) e q s b =
        let z : is_concrete n opaque u ≡ false = ap (is_concrete n opaque) (sym (roll-out-Ty u) ∙ ap roll-Ty e) ∙ fold-roll-Ty Bool (concrete_step n opaque) (L.Var v) in
        absurd (true≢false (sym s ∙ z))
    above u (L.Tuple xs) e q s b =
        let z = ap alts (sym (roll-out-Ty u) ∙ ap roll-Ty e) ∙ para-roll-Ty (List Ty) (forms_step (λ v. T.Var v ∷ [])) (L.Tuple xs) in
        absurd (found_in_tuples opaque t _ (alts u) refl z (found_below opaque t u refl q b))
    above u (L.Nominal m xs) e q s b =
        let z : is_concrete n opaque u ≡ n.is_struct m = ap (is_concrete n opaque) (sym (roll-out-Ty u) ∙ ap roll-Ty e) ∙ fold-roll-Ty Bool (concrete_step n opaque) (L.Nominal m xs) in
        let w = ap alts (sym (roll-out-Ty u) ∙ ap roll-Ty e) ∙ para-roll-Ty (List Ty) (forms_step (λ v. T.Var v ∷ [])) (L.Nominal m xs) in
        let p = found_in_one opaque t _ (alts u) refl w (found_below opaque t u refl q b) in
        let l = part_of_nominal opaque t _ m _ refl (outs-Nominal m _) p in
        (m, xs, l.0, refl, sym z ∙ s, l.1)

  both_two : (P : Ty → Ty → Type 0) (ts us : List Ty) (a b c d : Ty) → ts ≡ a ∷ b ∷ [] → us ≡ c ∷ d ∷ [] → Both P ts us → P a c × P b d
  both_two P ts us a b c d e f both_end = let z : [] ≡ a ∷ b ∷ [] = e in cc
  both_two P ts us a b c d e f (both_more x y xs ys p (both_end)) = let z : [] ≡ b ∷ [] = cc in cc
  both_two P ts us a b c d e f (both_more x y xs ys p (both_more v w vs ws q r)) =
      let xa : x ≡ a = cc in
      let yc : y ≡ c = cc in
      let vb : v ≡ b = cc in
      let wd : w ≡ d = cc in
      (subst (λ (z : Ty). P z c) xa (subst (P x) yc p), subst (λ (z : Ty). P z d) vb (subst (P v) wd q))

  bool_alts : alts bool ≡ bool ∷ []
  bool_alts = ap alts (sym (rolls-Nominal 5 [])) ∙ para-roll-Ty (List Ty) (forms_step (λ v. T.Var v ∷ [])) (L.Nominal 5 [])

  -- no struct type is above both
  abbrev pub NoneAbove : Type 0
  NoneAbove = (m : ℕ) (zs ws : List Ty) → n.is_struct m ≡ true → lifted n 4 [] m ≡ Some zs → lifted n 5 [] m ≡ Some ws → ⊥

  abbrev args_of : Ty-F Ty → ℕ
  args_of (L.Nominal m xs) = m
  args_of _ = 0

  pub same_applies_not : NoneAbove → Applicable n same (int64 ∷ bool ∷ []) → ⊥
  same_applies_not lone (r, f, h, s, g, b) =
      let parts : vars ≡ r.parts = one vars r.parts (subst (λ (cs : List (List Ty)). Contains cs r.parts) rows_are h.parts) in
      let o : Occurs same 0 r.parts = subst (λ (ps : List Ty). Occurs same 0 ps) parts occurs in
      let c : IsTrue (is_concrete n opaque (f 0)) = s.sure 0 o kind_is in
      let two = both_two (λ t u. Below n opaque t (put (λ v. f (root same v)) u)) (int64 ∷ bool ∷ []) r.parts int64 bool (T.Var 0) (T.Var 0) refl (sym parts) b in
      let i : Below n opaque int64 (f 0) = subst (λ (u : Ty). Below n opaque int64 u) (var_put (λ v. f (root same v))) two.0 in
      let j : Below n opaque bool (f 0) = subst (λ (u : Ty). Below n opaque bool u) (var_put (λ v. f (root same v))) two.1 in
      let x = above int64 4 (outs-Nominal 4 []) (f 0) (out-Ty (f 0)) refl (int_forms _) c i in
      let y = above bool 5 (outs-Nominal 5 []) (f 0) (out-Ty (f 0)) refl bool_alts c j in
      let e : x.0 ≡ y.0 = ap args_of (sym x.3 ∙ y.3) in
      lone x.0 x.2 y.2 x.4 x.5 (subst (λ (m : ℕ). lifted n 5 [] m ≡ Some y.2) (sym e) y.5)
    where
      one : (us vs : List Ty) → Contains (us ∷ []) vs → us ≡ vs
      one us vs (zero, p, q) = q
      one us vs (suc k, p, q) = absurd (omega (arith, p))

-- so it is for the built-in types
abbrev builtins : Table
builtins = table_of builtin_types

abbrev pub is_there : Option (List Ty) → Bool
is_there (Some zs) = true
is_there None = false

pub bool_no_int : up_in builtin_types 5 4 ≡ None
bool_no_int = rw (outs-Nominal 2 [], outs-Nominal 1 [], outs-Nominal 0 [], outs-Any) refl

pub int_no_bool : up_in builtin_types 4 5 ≡ None
int_no_bool = rw (outs-Nominal 3 [], outs-Nominal 2 [], outs-Nominal 1 [], outs-Nominal 0 [], outs-Any) refl

pub int_no_nothing : up_in builtin_types 4 6 ≡ None
int_no_nothing = rw (outs-Nominal 3 [], outs-Nominal 2 [], outs-Nominal 1 [], outs-Nominal 0 [], outs-Any) refl

pub int_no_task : up_in builtin_types 4 7 ≡ None
int_no_task = rw (outs-Nominal 3 [], outs-Nominal 2 [], outs-Nominal 1 [], outs-Nominal 0 [], outs-Any) refl

none_above : NoneAbove builtins
unfolding table_of
none_above zero zs ws s i j = absurd (true≢false (sym s))
none_above (suc zero) zs ws s i j = absurd (true≢false (sym s))
none_above (suc (suc zero)) zs ws s i j = absurd (true≢false (sym s))
none_above (suc (suc (suc zero))) zs ws s i j = absurd (true≢false (sym s))
none_above (suc (suc (suc (suc zero)))) zs ws s i j = absurd (true≢false (ap is_there (sym j ∙ ap (put_in []) bool_no_int)))
none_above (suc (suc (suc (suc (suc zero))))) zs ws s i j = absurd (true≢false (ap is_there (sym i ∙ ap (put_in []) int_no_bool)))
none_above (suc (suc (suc (suc (suc (suc zero)))))) zs ws s i j = absurd (true≢false (ap is_there (sym i ∙ ap (put_in []) int_no_nothing)))
none_above (suc (suc (suc (suc (suc (suc (suc zero))))))) zs ws s i j = absurd (true≢false (ap is_there (sym i ∙ ap (put_in []) int_no_task)))
none_above (suc (suc (suc (suc (suc (suc (suc (suc m)))))))) zs ws s i j = absurd (true≢false (sym s))

int_is_struct : builtins.is_struct 4 ≡ true
unfolding table_of
int_is_struct = refl

applies_to_integers : Applicable builtins same (int64 ∷ int64 ∷ [])
applies_to_integers = same_applies builtins int_is_struct

applies_not_to_both : Applicable builtins same (int64 ∷ bool ∷ []) → ⊥
applies_not_to_both = same_applies_not builtins none_above
