-- The order of signatures and the choice, computed on two scripts with two methods of one name.
use Rattle.std.proofs.Common.{◌≡◌, ◌∙◌, refl, sym, ap, subst, ℕ, zero, suc, ◌<◌, ◌≤◌, ◌⊎◌, inl, inr, arith, List, [], ◌∷◌, ◌++◌}
use Rattle.std.specs.List.{Contains, flat_map}
use Rattle.jl_model.specs.declared.ty.Ty.{Ty}
use Rattle.jl_model.specs.declared.ty.Ty.TheOpen.{Any, Tuple, Nominal, Var}
use Rattle.jl_model.specs.declared.ty.Ty.TheVariants as T
use Rattle.jl_model.specs.declared.ty.Ty.TheViews.{out-Ty, outs-Any, outs-Nominal}
use Rattle.jl_model.specs.Rows.{choices, forms, components, vars_in, Occurs, standing}
use Rattle.jl_model.specs.Subtype.{Table, Fixed, opaque, put, Below}
use Rattle.jl_model.specs.Signature.{Row, IsRow, fixed, Both, both_end, both_more, Meets, Meet, any, tuple, nominal, same, atom, raise_tuple, raise_nominal, meet_end, meet_more, Applicable, SigBelow, StrictlyBelow, SameSignature}
use Rattle.jl_model.specs.Choice.{Method, Applies, IsCandidate, IsBest, IsUnordered, IsFirstUnordered, IsFirstTwo, ChoosesMethod, ChoosesAmbiguous}
use Rattle.jl_program.specs.Prelude.{plain, int64, two}
use Rattle.jl_program.proofs.FirstChoices.{any_forms, int_forms, any_vars, int_vars, any_put, int_put, places_in, none_occurs, applies_by, int_below_any, int_below_int}

-- a list that is the only row of its signature, without variables
record IsAlone (us : List Ty) : Type 0 where
  only : components (plain us) ≡ us ∷ []
  free : flat_map vars_in us ≡ []

one : {X : Type 0} (x y : X) → Contains (x ∷ []) y → x ≡ y
one x y (zero, p, e) = e
one x y (suc k, p, e) = absurd (omega (arith, p))

nowhere : (v : ℕ) → Contains [] v → ⊥
nowhere v (k, p, e) = absurd (omega (arith, p))

never : (us : List Ty) → IsAlone us → (v : ℕ) → Occurs (plain us) v us → ⊥
never us a = none_occurs us a.free

abbrev row_of : List Ty → Row
row_of us = record { parts = us; chosen = λ v. T.Any }

module _ (n : Table) where
  is_row : (us : List Ty) → IsAlone us → IsRow n (plain us) (row_of us)
  is_row us a = record {
    parts = subst (λ (cs : List (List Ty)). Contains cs us) (sym a.only) (0, omega arith, refl);
    chosen = λ v k o. absurd (never us a v (standing v us o));
    other = λ v o. refl;
  }

  row_is : (us : List Ty) → IsAlone us → (r : Row) → IsRow n (plain us) r → us ≡ r.parts
  row_is us a r h = one us r.parts (subst (λ (cs : List (List Ty)). Contains cs r.parts) a.only h.parts)

  -- below, where the parts are: a row of the left is met by the row of the right
  below_by : (us vs : List Ty) → IsAlone us → IsAlone vs → ((g : Fixed) → Meet n g (plain vs) (λ v. T.Any) us vs) → SigBelow n (plain us) (plain vs)
  below_by us vs a b m l h = (
    row_of vs,
    is_row vs b,
    (
      (λ v. T.Any),
      record { least = λ v o. absurd (never vs b v o); most = λ v o. absurd (never vs b v o); sure = λ v o. absurd (never vs b v o) },
      (λ v w c. absurd (nowhere w (subst (λ (ws : List ℕ). Contains ws w) any_vars c))),
      subst (λ (ps : List Ty). Meet n (fixed (plain us) l) (plain vs) (λ v. T.Any) ps vs) (row_is us a l h) (m (fixed (plain us) l)),
    ),
  )

  -- and only there
  met : (us vs : List Ty) → IsAlone us → IsAlone vs → SigBelow n (plain us) (plain vs) → (g : Fixed) × (f : ℕ → Ty) × Meet n g (plain vs) f us vs
  met us vs a b h =
      let k = h (row_of us) (is_row us a) in
      let m = k.2 in
      (fixed (plain us) (row_of us), m.0, subst (λ (ps : List Ty). Meet n (fixed (plain us) (row_of us)) (plain vs) m.0 us ps) (sym (row_is vs b k.0 k.1)) m.3)

  module _ (g : Fixed) (vs : List Ty) (f : ℕ → Ty) where
    int_meets_any : Meets n g (plain vs) f int64 T.Any
    int_meets_any = any int64 T.Any outs-Any

    not_any_int : (t u : Ty) → t ≡ T.Any → u ≡ int64 → Meets n g (plain vs) f t u → ⊥
    not_any_int t u p q (any t1 u1 e) = let z : Nominal 4 [] ≡ Any = sym (outs-Nominal 4 []) ∙ ap out-Ty (sym q) ∙ e in cc
    not_any_int t u p q (tuple t1 u1 xs ys d e m) = let z : Any ≡ Tuple xs = sym outs-Any ∙ ap out-Ty (sym p) ∙ d in cc
    not_any_int t u p q (nominal t1 u1 k m xs zs ys d e l s) = let z : Any ≡ Nominal k xs = sym outs-Any ∙ ap out-Ty (sym p) ∙ d in cc
    not_any_int t u p q (same t1 u1 v e k s) = let z : Nominal 4 [] ≡ Var v = sym (outs-Nominal 4 []) ∙ ap out-Ty (sym q) ∙ e in cc
    not_any_int t u p q (atom t1 u1 v e k s) = let z : Nominal 4 [] ≡ Var v = sym (outs-Nominal 4 []) ∙ ap out-Ty (sym q) ∙ e in cc
    not_any_int t u p q (raise_tuple t1 u1 v ys d e m) = let z : Any ≡ Var v = sym outs-Any ∙ ap out-Ty (sym p) ∙ d in cc
    not_any_int t u p q (raise_nominal t1 u1 v k ys d e m) = let z : Any ≡ Var v = sym outs-Any ∙ ap out-Ty (sym p) ∙ d in cc

    first_meets : (us ws : List Ty) (x y : Ty) (xs ys : List Ty) → us ≡ x ∷ xs → ws ≡ y ∷ ys → Meet n g (plain vs) f us ws → Meets n g (plain vs) f x y × Meet n g (plain vs) f xs ys
    first_meets us ws x y xs ys p q meet_end = let z : [] ≡ x ∷ xs = p in cc
    first_meets us ws x y xs ys p q (meet_more a b as_ bs m r) =
        let ax : a ≡ x = cc in
        let by : b ≡ y = cc in
        let ass : as_ ≡ xs = cc in
        let bss : bs ≡ ys = cc in
        rw (sym ax, sym by, sym ass, sym bss) (m, r)

alone_int : IsAlone (int64 ∷ [])
alone_int = record { only = ap (λ fs. choices (fs ∷ [])) (int_forms (places_in (int64 ∷ []))); free = ap (λ vs. vs ++ []) int_vars }

alone_any : IsAlone (T.Any ∷ [])
alone_any = record { only = ap (λ fs. choices (fs ∷ [])) (any_forms (places_in (T.Any ∷ []))); free = ap (λ vs. vs ++ []) any_vars }

abbrev pub left : List Ty
left = int64 ∷ T.Any ∷ []

abbrev pub right : List Ty
right = T.Any ∷ int64 ∷ []

alone_left : IsAlone left
alone_left = record {
  only = ap (λ fs. choices (fs ∷ forms (places_in left) T.Any ∷ [])) (int_forms (places_in left)) ∙ ap (λ fs. choices ((int64 ∷ []) ∷ fs ∷ [])) (any_forms (places_in left));
  free = ap (λ vs. vs ++ (vars_in T.Any ++ [])) int_vars ∙ ap (λ vs. vs ++ []) any_vars;
}

alone_right : IsAlone right
alone_right = record {
  only = ap (λ fs. choices (fs ∷ forms (places_in right) int64 ∷ [])) (any_forms (places_in right)) ∙ ap (λ fs. choices ((T.Any ∷ []) ∷ fs ∷ [])) (int_forms (places_in right));
  free = ap (λ vs. vs ++ (vars_in int64 ++ [])) any_vars ∙ ap (λ vs. vs ++ []) int_vars;
}

module _ (n : Table) where
  applies_alone : (us ts : List Ty) → IsAlone us → Both (λ t u. Below n opaque t (put (λ v. T.Any) u)) ts us → Applicable n (plain us) ts
  applies_alone us ts a b = applies_by n us ts (subst (λ (cs : List (List Ty)). Contains cs us) (sym a.only) (0, omega arith, refl)) a.free b

  to_any : Below n opaque int64 (put (λ v. T.Any) T.Any)
  to_any = subst (λ (u : Ty). Below n opaque int64 u) (sym (any_put (λ v. T.Any))) (int_below_any n)

  to_int : Below n opaque int64 (put (λ v. T.Any) int64)
  to_int = subst (λ (u : Ty). Below n opaque int64 u) (sym (int_put (λ v. T.Any))) (int_below_int n)

  -- ---- `g(x::Int64) = 1`, `g(x) = 2`, `g(0)`: the first

  abbrev special : Method
  special = record { number = 15; sig = plain (int64 ∷ []) }

  abbrev general : Method
  general = record { number = 16; sig = plain (T.Any ∷ []) }

  special_below : SigBelow n (plain (int64 ∷ [])) (plain (T.Any ∷ []))
  special_below = below_by n (int64 ∷ []) (T.Any ∷ []) alone_int alone_any (λ g. meet_more int64 T.Any [] [] (int_meets_any n g (T.Any ∷ []) (λ v. T.Any)) meet_end)

  general_not_below : SigBelow n (plain (T.Any ∷ [])) (plain (int64 ∷ [])) → ⊥
  general_not_below h =
      let m = met n (T.Any ∷ []) (int64 ∷ []) alone_any alone_int h in
      not_any_int n m.0 (int64 ∷ []) m.1 T.Any int64 refl refl (first_meets n m.0 (int64 ∷ []) m.1 (T.Any ∷ []) (int64 ∷ []) T.Any int64 [] [] refl refl m.2).0

  abbrev both_g : List Method
  both_g = special ∷ general ∷ []

  special_applies : Applies n both_g (int64 ∷ []) special
  special_applies = record { stands = (0, omega arith, refl); below = applies_alone (int64 ∷ []) (int64 ∷ []) alone_int (both_more int64 int64 [] [] to_int both_end) }

  -- each method of a list of two is one of them
  data Either (a b l : Method) : Type 0 where
    is_first : a ≡ l → Either a b l
    is_second : b ≡ l → Either a b l

  either_of : (a b l : Method) → Contains (a ∷ b ∷ []) l → Either a b l
  either_of a b l (zero, p, e) = is_first e
  either_of a b l (suc zero, p, e) = is_second e
  either_of a b l (suc (suc k), p, e) = absurd (omega (arith, p))

  special_candidate : IsCandidate n both_g (int64 ∷ []) special
  special_candidate = record { applies = special_applies; last = λ l h later s. by l (either_of special general l h.stands) later s }
    where
      by : (l : Method) → Either special general l → 15 < l.number → SameSignature n (plain (int64 ∷ [])) l.sig → ⊥
      by l (is_first e) later s = absurd (omega (arith, later, ap (λ (m : Method). m.number) e))
      by l (is_second e) later s = general_not_below (subst (λ (m : Method). SigBelow n m.sig (plain (int64 ∷ []))) (sym e) s.1)

  pub chooses_special : ChoosesMethod n both_g (int64 ∷ []) 15
  chooses_special = (special, record { candidate = special_candidate; below = λ c h other. by c (either_of special general c h.applies.stands) other }, refl)
    where
      by : (c : Method) → Either special general c → (c.number ≡ 15 → ⊥) → StrictlyBelow n (plain (int64 ∷ [])) c.sig
      by c (is_first e) other = absurd (other (ap (λ (m : Method). m.number) (sym e)))
      by c (is_second e) other = subst (λ (m : Method). StrictlyBelow n (plain (int64 ∷ [])) m.sig) e (special_below, general_not_below)

  -- ---- `f(x::Int64, y) = 1`, `f(x, y::Int64) = 2`, `f(1, 2)`: ambiguous between the two

  abbrev a_method : Method
  a_method = record { number = 15; sig = plain left }

  abbrev b_method : Method
  b_method = record { number = 16; sig = plain right }

  abbrev both_f : List Method
  both_f = a_method ∷ b_method ∷ []

  left_not_below : SigBelow n (plain left) (plain right) → ⊥
  left_not_below h =
      let m = met n left right alone_left alone_right h in
      let rest = (first_meets n m.0 right m.1 left right int64 T.Any (T.Any ∷ []) (int64 ∷ []) refl refl m.2).1 in
      not_any_int n m.0 right m.1 T.Any int64 refl refl (first_meets n m.0 right m.1 (T.Any ∷ []) (int64 ∷ []) T.Any int64 [] [] refl refl rest).0

  right_not_below : SigBelow n (plain right) (plain left) → ⊥
  right_not_below h =
      let m = met n right left alone_right alone_left h in
      not_any_int n m.0 left m.1 T.Any int64 refl refl (first_meets n m.0 left m.1 right left T.Any int64 (int64 ∷ []) (T.Any ∷ []) refl refl m.2).0

  a_candidate : IsCandidate n both_f two a_method
  a_candidate = record {
    applies = record { stands = (0, omega arith, refl); below = applies_alone left two alone_left (both_more int64 int64 (int64 ∷ []) (T.Any ∷ []) to_int (both_more int64 T.Any [] [] to_any both_end)) };
    last = λ l h later s. by l (either_of a_method b_method l h.stands) later s;
  }
    where
      by : (l : Method) → Either a_method b_method l → 15 < l.number → SameSignature n (plain left) l.sig → ⊥
      by l (is_first e) later s = absurd (omega (arith, later, ap (λ (m : Method). m.number) e))
      by l (is_second e) later s = left_not_below (subst (λ (m : Method). SigBelow n (plain left) m.sig) (sym e) s.0)

  b_candidate : IsCandidate n both_f two b_method
  b_candidate = record {
    applies = record { stands = (1, omega arith, refl); below = applies_alone right two alone_right (both_more int64 T.Any (int64 ∷ []) (int64 ∷ []) to_any (both_more int64 int64 [] [] to_int both_end)) };
    last = λ l h later s. by l (either_of a_method b_method l h.stands) later;
  }
    where
      by : (l : Method) → Either a_method b_method l → 16 < l.number → ⊥
      by l (is_first e) later = absurd (omega (arith, later, ap (λ (m : Method). m.number) e))
      by l (is_second e) later = absurd (omega (arith, later, ap (λ (m : Method). m.number) e))

  none_is_best : (m : Method) → IsBest n both_f two m → ⊥
  none_is_best m h = by (either_of a_method b_method m h.candidate.applies.stands)
    where
      by : Either a_method b_method m → ⊥
      by (is_first e) =
          let s = h.below b_method b_candidate (λ z. absurd (omega (arith, z, ap (λ (x : Method). x.number) e))) in
          left_not_below (subst (λ (x : Method). SigBelow n x.sig (plain right)) (sym e) s.0)
      by (is_second e) =
          let s = h.below a_method a_candidate (λ z. absurd (omega (arith, z, ap (λ (x : Method). x.number) e))) in
          right_not_below (subst (λ (x : Method). SigBelow n x.sig (plain left)) (sym e) s.0)

  pub chooses_ambiguous : ChoosesAmbiguous n both_f two 15 16
  chooses_ambiguous = record {
    none_best = none_is_best;
    pair = (
      a_method,
      b_method,
      refl,
      refl,
      inl (record {
        unordered = record { first = a_candidate; second = b_candidate; earlier = omega arith; not_below = λ s. left_not_below s.0; not_above = λ s. right_not_below s.0 };
        least = λ c d u. by c d (either_of a_method b_method c u.first.applies.stands) (either_of a_method b_method d u.second.applies.stands) u.earlier;
      }),
    );
  }
    where
      by : (c d : Method) → Either a_method b_method c → Either a_method b_method d → c.number < d.number → (15 < c.number) ⊎ ((15 ≡ c.number) × (16 ≤ d.number))
      by c d (is_first e) (is_first f) l = absurd (omega (arith, l, ap (λ (x : Method). x.number) e, ap (λ (x : Method). x.number) f))
      by c d (is_first e) (is_second f) l = inr (ap (λ (x : Method). x.number) e, omega (arith, ap (λ (x : Method). x.number) f))
      by c d (is_second e) k l = inl (omega (arith, ap (λ (x : Method). x.number) e))

  -- the pair is not named the other way round
  not_the_other_way : ChoosesAmbiguous n both_f two 16 15 → ⊥
  not_the_other_way h = by h.pair.4
    where
      by : IsFirstUnordered n both_f two h.pair.0 h.pair.1 ⊎ (((e f : Method) → IsUnordered n both_f two e f → ⊥) × IsFirstTwo n both_f two h.pair.0 h.pair.1) → ⊥
      by (inl u) = absurd (omega (arith, u.unordered.earlier, h.pair.2, h.pair.3))
      by (inr u) = absurd (omega (arith, u.1.earlier, h.pair.2, h.pair.3))
