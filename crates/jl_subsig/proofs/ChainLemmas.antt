-- Below is not transitive: a fixed variable equals itself alone, also where its upper bound is concrete.
use Rattle.std.proofs.Common.{◌≡◌, ◌∙◌, sym, ap, subst, refl, ℕ, zero, suc, ◌+◌, ◌<◌, arith, Bool, true, false, cond, nat_eq, nat_lt, List, [], ◌∷◌, ◌++◌, map, inl, inr}
use Rattle.std.specs.List.{flat_map, list_all, Contains}
use Rattle.jl_model.specs.declared.ty.Ty.{Ty}
use Rattle.jl_model.specs.declared.ty.Ty.TheOpen.{Any, Tuple, Nominal, Var}
use Rattle.jl_model.specs.declared.ty.Ty.TheViews.{out-Ty, outs-Nominal, outs-Var}
use Rattle.jl_model.specs.declared.ty.Ty.TheViews as V
use Rattle.jl_model.specs.declared.ty.Ty.TheVariants as W
use Rattle.jl_model.specs.declared.ty.Written.{Written}
use Rattle.jl_model.specs.Kinds.{Places, diagonal, bound, nowhere, plus, plus_all, below_nominal, places, kind_of}
use Rattle.jl_model.specs.Rows.{forms, alts, low, high, kind, root, place_of, components, vars_in, Stands, Occurs, standing, bounding}
use Rattle.jl_model.specs.Subtype.{Fixed, opaque, put, Below, Equal, equals_end}
use Rattle.jl_model.specs.Signature.{Row, IsRow, by_kind, top, fixed, Meets, Meet, any, tuple, nominal, same, atom, raise_tuple, raise_nominal, meet_end, meet_more, RowBelow, SigBelow, SameSignature}
use Rattle.jl_model.specs.Ancestors.{table_of, builtin_types}
use Rattle.jl_model.proofs.FormLemmas.{alts-nominal, alts-var, put-union, put-nominal, vars-any, vars-union, vars-nominal, vars-var}
use Rattle.jl_model.proofs.SelfLemmas.{own_arguments, equal_self}
use Rattle.jl_model.proofs.HeightLemmas.{PartBy, by_any, by_tuple, by_nominal, by_self}
use Rattle.jl_model.proofs.BelowLemmas.{below_part}
use Rattle.jl_model.proofs.TransLemmas.{below_trans}
use Rattle.jl_model.proofs.DeclaredLemmas.{declared_lawful}
use Rattle.jl_model.specs.Refusals.{builtin}
use Rattle.jl_model.specs.SigRefusals.{are_bounds}
use Rattle.jl_subsume.specs.Scoped.{IsScoped}
use Rattle.jl_subsig.specs.Chain.{builtins, int, below_int, first_of_chain, middle_of_chain, last_of_chain}
use Rattle.jl_search.proofs.HasLemmas.{Has, Picks, has_of, of_has, has_none}
use Rattle.jl_types.proofs.FormEquations.{forms-var, forms-nominal}
use Rattle.jl_search.proofs.PickLemmas.{has_choices, choices_has}
use Rattle.jl_search.proofs.LiftLemmas.{lift, refl_below}
use Rattle.jl_subsume.proofs.ScopeLemmas.{places-union, places-nominal, places-var, diagonal_small, occurs_small}
use Rattle.jl_subsume.proofs.PutBelowLemmas.{none_below}
use Rattle.jl_subsume.proofs.SureLemmas.{concrete-nominal}

-- a type at the last place: the variable, or `Int64`
abbrev last : Bool → Ty
last true = W.Var 0
last false = int

abbrev of_last : Bool → Written
of_last q = record { vars = below_int ∷ []; parts = W.Var 0 ∷ W.Var 0 ∷ last q ∷ [] }

int_vars : vars_in int ≡ []
int_vars = vars-nominal 4 []

none_vars : vars_in (V.Union []) ≡ []
none_vars = vars-union []

-- kinds
three : (p q r u w : Places) (x y z t h : Ty) → places 0 x ≡ p → places 0 y ≡ q → places 0 z ≡ r → places 0 t ≡ u → places 0 h ≡ w
    → kind_of (plus (plus_all (map (places 0) (x ∷ y ∷ z ∷ []))) (below_nominal (plus (plus (places 0 t) (places 0 h)) nowhere))) ≡ kind_of (plus (plus_all (p ∷ q ∷ r ∷ [])) (below_nominal (plus (plus u w) nowhere)))
three p q r u w x y z t h e f g i j = rw (e, f, g, i, j) refl

abbrev one : Places
one = record { covariant = 1; invariant = 0 }

abbrev none_inside : Places
none_inside = record { covariant = 0; invariant = 0 + 0 }

kind_is : (q : Bool) → kind (of_last q) 0 ≡ diagonal
kind_is true = three one one one nowhere none_inside (W.Var 0) (W.Var 0) (W.Var 0) (V.Union []) int (places-var 0 0) (places-var 0 0) (places-var 0 0) (places-union 0 []) (places-nominal 0 4 [])
kind_is false = three one one none_inside nowhere none_inside (W.Var 0) (W.Var 0) int (V.Union []) int (places-var 0 0) (places-var 0 0) (places-nominal 0 4 []) (places-union 0 []) (places-nominal 0 4 [])

-- the forms
place_is : (q : Bool) → forms (λ v. place_of (of_last q) v (kind (of_last q) v)) (W.Var 0) ≡ W.Var 0 ∷ []
place_is q = forms-var (λ v. place_of (of_last q) v (kind (of_last q) v)) 0 ∙ ap (place_of (of_last q) 0) (kind_is q)

last_is : (q : Bool) → forms (λ v. place_of (of_last q) v (kind (of_last q) v)) (last q) ≡ last q ∷ []
last_is true = place_is true
last_is false = forms-nominal (λ v. place_of (of_last false) v (kind (of_last false) v)) 4 []

-- rows
three_of : (us as_ bs cs : List Ty) → Picks us (as_ ∷ bs ∷ cs ∷ []) → (x : Ty) × (y : Ty) × (z : Ty) × (x ∷ y ∷ z ∷ [] ≡ us) × Has as_ x × Has bs y × Has cs z
three_of [] as_ bs cs p = absurd p
three_of (x ∷ []) as_ bs cs p = absurd p.1
three_of (x ∷ y ∷ []) as_ bs cs p = absurd p.1.1
three_of (x ∷ y ∷ z ∷ []) as_ bs cs p = (x, y, z, refl, p.0, p.1.0, p.1.1.0)
three_of (x ∷ y ∷ z ∷ w ∷ us) as_ bs cs p = absurd p.1.1.1

only : (a x : Ty) (ts : List Ty) → ts ≡ a ∷ [] → Has ts x → a ≡ x
only a x ts e h = elim (subst (λ z. Has z x) e h) [ inl i ↦ i | inr b ↦ absurd b ]

listed : (a x b y c z : Ty) → a ≡ x → b ≡ y → c ≡ z → (a ∷ b ∷ c ∷ []) ≡ (x ∷ y ∷ z ∷ [])
listed a x b y c z e f g = rw (e, f, g) refl

abbrev row_parts : Bool → List Ty
row_parts q = W.Var 0 ∷ W.Var 0 ∷ last q ∷ []

parts_are : (q : Bool) (l : Row) → IsRow builtins (of_last q) l → row_parts q ≡ l.parts
parts_are q l row =
    let at : ℕ → List Ty = λ v. place_of (of_last q) v (kind (of_last q) v) in
    let r = three_of l.parts (forms at (W.Var 0)) (forms at (W.Var 0)) (forms at (last q)) (choices_has (map (forms at) (row_parts q)) l.parts (has_of (components (of_last q)) l.parts row.parts)) in
    listed (W.Var 0) r.0 (W.Var 0) r.1 (last q) r.2 (only (W.Var 0) r.0 (forms at (W.Var 0)) (place_is q) r.4) (only (W.Var 0) r.1 (forms at (W.Var 0)) (place_is q) r.5) (only (last q) r.2 (forms at (last q)) (last_is q) r.6) ∙ r.3

abbrev ints : List Ty
ints = int ∷ int ∷ int ∷ []

middle_are : (l : Row) → IsRow builtins middle_of_chain l → ints ≡ l.parts
middle_are l row =
    let at : ℕ → List Ty = λ v. place_of middle_of_chain v (kind middle_of_chain v) in
    let e = forms-nominal at 4 [] in
    let r = three_of l.parts (forms at int) (forms at int) (forms at int) (choices_has (map (forms at) ints) l.parts (has_of (components middle_of_chain) l.parts row.parts)) in
    listed int r.0 int r.1 int r.2 (only int r.0 (forms at int) e r.4) (only int r.1 (forms at int) e r.5) (only int r.2 (forms at int) e r.6) ∙ r.3

first_has : (x : Ty) (ts : List Ty) → ts ≡ x ∷ [] → Has ts x
first_has x ts e = subst (λ z. Has z x) (sym e) (inl refl)

stands_first : (q : Bool) (us : List Ty) → Stands (of_last q) 0 (W.Var 0 ∷ us)
stands_first q us = of_has (map (root (of_last q)) (flat_map vars_in (W.Var 0 ∷ us))) 0 (subst (λ z. Has (map (root (of_last q)) (z ++ flat_map vars_in us)) 0) (sym (vars-var 0)) (inl refl))

-- scopes
three_own : (m : ℕ) (x y z : Ty) (as_ bs cs : List ℕ) → vars_in x ≡ as_ → vars_in y ≡ bs → vars_in z ≡ cs → list_all (λ v. nat_lt v m) (flat_map vars_in (x ∷ y ∷ z ∷ [])) ≡ list_all (λ v. nat_lt v m) (as_ ++ (bs ++ (cs ++ [])))
three_own m x y z as_ bs cs e f g = rw (e, f, g) refl

bounds_own : list_all (λ v. nat_lt v 1) (flat_map vars_in (V.Union [] ∷ int ∷ [])) ≡ true
bounds_own = let e = none_vars in let f = int_vars in rw (e, f) refl

bounds_are : are_bounds 1 0 (below_int ∷ []) ≡ true
bounds_are = let e = none_vars in let f = int_vars in rw (e, f) refl

pub scope_is : (q : Bool) → IsScoped (of_last q)
scope_is true = record { own = three_own 1 (W.Var 0) (W.Var 0) (W.Var 0) (0 ∷ []) (0 ∷ []) (0 ∷ []) (vars-var 0) (vars-var 0) (vars-var 0); own_bounds = bounds_own; bounds = bounds_are }
scope_is false = record { own = three_own 1 (W.Var 0) (W.Var 0) int (0 ∷ []) (0 ∷ []) [] (vars-var 0) (vars-var 0) int_vars; own_bounds = bounds_own; bounds = bounds_are }

pub middle_scope : IsScoped middle_of_chain
middle_scope = record { own = three_own 0 int int int [] [] [] int_vars int_vars int_vars; own_bounds = refl; bounds = refl }

-- the row of each
abbrev row_is : Bool → Row
row_is q = record { parts = row_parts q; chosen = λ v. cond (nat_eq v 0) int W.Any }

row_of : (q : Bool) → IsRow builtins (of_last q) (row_is q)
row_of q = record { parts = there; chosen = chosen; other = other }
  where
    there : Contains (components (of_last q)) (row_parts q)
    there =
        let at : ℕ → List Ty = λ v. place_of (of_last q) v (kind (of_last q) v) in
        of_has (components (of_last q)) (row_parts q) (has_choices (map (forms at) (row_parts q)) (row_parts q)
        (first_has (W.Var 0) (forms at (W.Var 0)) (place_is q), (first_has (W.Var 0) (forms at (W.Var 0)) (place_is q), (first_has (last q) (forms at (last q)) (last_is q), tt))))

    chosen : (v : ℕ) → kind (of_last q) v ≡ diagonal → Stands (of_last q) v (row_parts q) → Contains (alts (high (of_last q) v)) (cond (nat_eq v 0) int W.Any) × Below builtins opaque (low (of_last q) v) (cond (nat_eq v 0) int W.Any)
    chosen zero d o = (of_has (alts int) int (first_has int (alts int) (alts-nominal 4 [])), none_below builtins int)
    chosen (suc v) d o = let l = diagonal_small (of_last q) (scope_is q) (suc v) d in absurd (omega (arith, l))

    other : (v : ℕ) → (Stands (of_last q) v (row_parts q) → ⊥) → cond (nat_eq v 0) int W.Any ≡ W.Any
    other zero g = absurd (g (stands_first q (W.Var 0 ∷ last q ∷ [])))
    other (suc v) g = let e : nat_eq (suc v) 0 ≡ false = grind arith in rw e refl

abbrev middle_row : Row
middle_row = record { parts = ints; chosen = λ v. W.Any }

nothing_stands : (v : ℕ) → Stands middle_of_chain v ints → ⊥
nothing_stands v o =
    let e : flat_map vars_in ints ≡ [] = (let i = int_vars in rw i refl) in
    has_none (map (root middle_of_chain) (flat_map vars_in ints)) v (ap (map (root middle_of_chain)) e) (has_of (map (root middle_of_chain) (flat_map vars_in ints)) v o)

nothing_there : (v : ℕ) → Occurs middle_of_chain v ints → ⊥
nothing_there v (standing x row o) = nothing_stands v o
nothing_there v (bounding x w row o c) = nothing_there w o

middle_of : IsRow builtins middle_of_chain middle_row
middle_of = record {
  parts =
      let at : ℕ → List Ty = λ v. place_of middle_of_chain v (kind middle_of_chain v) in
      let h = first_has int (forms at int) (forms-nominal at 4 []) in
      of_has (components middle_of_chain) ints (has_choices (map (forms at) ints) ints (h, (h, (h, tt))));
  chosen = λ v d o. absurd (nothing_stands v o);
  other = λ v g. refl;
}

-- what a diagonal variable of a row takes
high_is : (q : Bool) (l : Row) → IsRow builtins (of_last q) l → (fixed (of_last q) l).high 0 ≡ int
high_is q l row =
    let o : Stands (of_last q) 0 l.parts = subst (λ z. Stands (of_last q) 0 z) (parts_are q l row) (stands_first q (W.Var 0 ∷ last q ∷ [])) in
    let c = row.chosen 0 (kind_is q) o in
    let e : int ≡ l.chosen 0 = only int (l.chosen 0) (alts int) (alts-nominal 4 []) (has_of (alts int) (l.chosen 0) c.0) in
    ap (λ k. by_kind k (l.chosen 0) int) (kind_is q) ∙ sym e

int_meets : (g : Fixed) (s : Written) (f : ℕ → Ty) → Meets builtins g s f int int
int_meets g s f = nominal int int 4 4 [] [] [] (outs-Nominal 4 []) (outs-Nominal 4 []) (own_arguments builtins 4 []) equals_end

-- each is below the middle one
up : (q : Bool) → SigBelow builtins (of_last q) middle_of_chain
up q l row = (
  middle_row,
  middle_of,
  (
    λ v. W.Any,
    record { least = λ v o. absurd (nothing_there v o); most = λ v o. absurd (nothing_there v o); sure = λ v o d. absurd (nothing_there v o) },
    λ v w c. absurd (has_none (vars_in W.Any) w vars-any (has_of (vars_in W.Any) w c)),
    subst (λ z. Meet builtins (fixed (of_last q) l) middle_of_chain (λ v. W.Any) z ints) (parts_are q l row)
        (meet_more (W.Var 0) int (W.Var 0 ∷ last q ∷ []) (int ∷ int ∷ []) var_meets
        (meet_more (W.Var 0) int (last q ∷ []) (int ∷ []) var_meets (meet_more (last q) int [] [] (last_meets q refl) meet_end))),
  ),
)
  where
    var_meets : Meets builtins (fixed (of_last q) l) middle_of_chain (λ v. W.Any) (W.Var 0) int
    var_meets = raise_nominal (W.Var 0) int 0 4 [] (outs-Var 0) (outs-Nominal 4 [])
        (subst (λ z. Meets builtins (fixed (of_last q) l) middle_of_chain (λ v. W.Any) z int) (sym (high_is q l row)) (int_meets (fixed (of_last q) l) middle_of_chain (λ v. W.Any)))

    last_meets : (p : Bool) → p ≡ q → Meets builtins (fixed (of_last q) l) middle_of_chain (λ v. W.Any) (last p) int
    last_meets true e = var_meets
    last_meets false e = int_meets (fixed (of_last q) l) middle_of_chain (λ v. W.Any)

is_struct : builtins.is_struct 4 ≡ true
unfolding table_of
is_struct = refl

-- and it is below each
down : (q : Bool) → SigBelow builtins middle_of_chain (of_last q)
down q l row = (
  row_is q,
  row_of q,
  (
    λ v. int,
    record { least = least; most = most; sure = λ v o d. concrete-nominal builtins (fixed middle_of_chain l) 4 [] ∙ is_struct },
    λ v w c. absurd (has_none (vars_in int) w int_vars (has_of (vars_in int) w c)),
    subst (λ z. Meet builtins (fixed middle_of_chain l) (of_last q) (λ v. int) z (row_parts q)) (middle_are l row)
        (meet_more int (W.Var 0) (int ∷ int ∷ []) (W.Var 0 ∷ last q ∷ []) var_meets (meet_more int (W.Var 0) (int ∷ []) (last q ∷ []) var_meets (meet_more int (last q) [] [] (last_meets q refl) meet_end))),
  ),
)
  where
    small : (v : ℕ) → Occurs (of_last q) v (row_parts q) → v < 1
    small v o = occurs_small (of_last q) (scope_is q) builtins (row_is q) (row_of q) v o

    least : (v : ℕ) → Occurs (of_last q) v (row_parts q) → Below builtins (fixed middle_of_chain l) (put (λ v. int) (low (of_last q) v)) int
    least zero o = subst (λ z. Below builtins (fixed middle_of_chain l) z int) (sym (put-union (λ v. int) [])) (lift builtins (fixed middle_of_chain l) (V.Union []) int (none_below builtins int))
    least (suc v) o = let i = small (suc v) o in absurd (omega (arith, i))

    most : (v : ℕ) → Occurs (of_last q) v (row_parts q) → Below builtins (fixed middle_of_chain l) int (put (λ v. int) (top (of_last q) (row_is q) v))
    most zero o =
        let e : top (of_last q) (row_is q) 0 ≡ int = ap (λ k. by_kind k int int) (kind_is q) in
        subst (λ z. Below builtins (fixed middle_of_chain l) int z) (sym (ap (put (λ v. int)) e ∙ put-nominal (λ v. int) 4 [])) (refl_below builtins (fixed middle_of_chain l) int)
    most (suc v) o = let i = small (suc v) o in absurd (omega (arith, i))

    var_meets : Meets builtins (fixed middle_of_chain l) (of_last q) (λ v. int) int (W.Var 0)
    var_meets = same int (W.Var 0) 0 (outs-Var 0) (kind_is q) (equal_self builtins int)

    last_meets : (p : Bool) → p ≡ q → Meets builtins (fixed middle_of_chain l) (of_last q) (λ v. int) int (last p)
    last_meets true e = var_meets
    last_meets false e = int_meets (fixed middle_of_chain l) (of_last q) (λ v. int)

-- but the first is not below the last
ends : (g : Fixed) (s : Written) (f : ℕ → Ty) (x y z u v w : Ty) → Meet builtins g s f (x ∷ y ∷ z ∷ []) (u ∷ v ∷ w ∷ []) → Meets builtins g s f x u × Meets builtins g s f z w
ends g s f x y z u v w (meet_more a b as_ bs p (meet_more c d cs ds q (meet_more i j is js r k))) = (p, r)

at_variable : (g : Fixed) (f : ℕ → Ty) (x y : Ty) → out-Ty y ≡ Var 0 → Meets builtins g last_of_chain f x y → Equal builtins x (f 0)
at_variable g f x y e (any a b d) = let i : Var 0 ≡ Any = sym e ∙ d in cc
at_variable g f x y e (tuple a b xs ys d o m) = let i : Var 0 ≡ Tuple ys = sym e ∙ o in cc
at_variable g f x y e (nominal a b k m xs zs ys d o l q) = let i : Var 0 ≡ Nominal m ys = sym e ∙ o in cc
at_variable g f x y e (same a b v d o q) = let i : Var v ≡ Var 0 = sym d ∙ e in let j : v ≡ 0 = cc in subst (λ z. Equal builtins x (f z)) j q
at_variable g f x y e (atom a b v d o q) =
    let i : Var v ≡ Var 0 = sym d ∙ e in
    let j : v ≡ 0 = cc in
    let k : kind last_of_chain 0 ≡ bound = subst (λ z. kind last_of_chain (root last_of_chain z) ≡ bound) j o in
    let c : diagonal ≡ bound = sym (kind_is true) ∙ k in cc
at_variable g f x y e (raise_tuple a b v ys d o m) = let i : Var 0 ≡ Tuple ys = sym e ∙ o in cc
at_variable g f x y e (raise_nominal a b v m ys d o q) = let i : Var 0 ≡ Nominal m ys = sym e ∙ o in cc

not_int : PartBy builtins (Below builtins opaque) (W.Var 0) int → ⊥
not_int (by_any a b e) = let i : Any ≡ Nominal 4 [] = sym e ∙ outs-Nominal 4 [] in cc
not_int (by_tuple a b xs ys d e p) = let i : Var 0 ≡ Tuple xs = sym (outs-Var 0) ∙ d in cc
not_int (by_nominal a b k m xs zs ys d e l p) = let i : Var 0 ≡ Nominal k xs = sym (outs-Var 0) ∙ d in cc
not_int (by_self a b v d e) = let i : Var v ≡ Nominal 4 [] = sym e ∙ outs-Nominal 4 [] in cc

not_below : SigBelow builtins first_of_chain last_of_chain → ⊥
not_below order = refuted (order (row_is false) (row_of false))
  where
    refuted : (r : Row) × IsRow builtins last_of_chain r × RowBelow builtins first_of_chain (row_is false) last_of_chain r → ⊥
    refuted (r, row, (f, serves, over, meet)) =
        let g = fixed first_of_chain (row_is false) in
        let m = ends g last_of_chain f (W.Var 0) (W.Var 0) int (W.Var 0) (W.Var 0) (W.Var 0) (subst (λ z. Meet builtins g last_of_chain f (row_parts false) z) (sym (parts_are true r row)) meet) in
        let a = at_variable g f (W.Var 0) (W.Var 0) (outs-Var 0) m.0 in
        let b = at_variable g f int (W.Var 0) (outs-Var 0) m.1 in
        let c = below_trans builtins (declared_lawful builtin_types builtin) (W.Var 0) (f 0) int a.0 b.1 in
        not_int (below_part builtins (W.Var 0) int (alts-var 0) (alts-nominal 4 []) c)

pub first_is_middle : SameSignature builtins first_of_chain middle_of_chain
first_is_middle = (up false, down false)

pub middle_is_last : SameSignature builtins middle_of_chain last_of_chain
middle_is_last = (down true, up true)

pub first_is_not_last : SigBelow builtins first_of_chain last_of_chain → ⊥
first_is_not_last = not_below
