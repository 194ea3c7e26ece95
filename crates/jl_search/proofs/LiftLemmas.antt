-- Below with nothing known of the variables is below, whatever is known of them; and what is covered alternative by alternative.
use Rattle.std.proofs.Common.{◌≡◌, ◌∙◌, sym, subst, refl, List, [], ◌∷◌, inl, inr}
use Rattle.jl_model.specs.declared.ty.Ty.{Ty}
use Rattle.jl_model.specs.declared.ty.Ty.TheOpen.{Any, Var}
use Rattle.jl_model.specs.declared.ty.Ty.TheViews.{outs-Any}
use Rattle.jl_model.specs.declared.ty.Ty.TheViews as V
use Rattle.jl_model.specs.declared.ty.Ty.TheVariants as W
use Rattle.jl_model.specs.Rows.{alts}
use Rattle.jl_model.specs.Subtype.{Table, Fixed, opaque, Below, Covered, Found, Part, Parts, Equals, below, none, more, here, there, raise, any, tuple, nominal, self, own, under, parts_end, parts_more, equals_end, equals_more}
use Rattle.jl_model.proofs.TypeInduction.{Each}
use Rattle.jl_model.proofs.FormLemmas.{alts-union}
use Rattle.jl_model.proofs.SelfLemmas.{Fine, alts_fine, below_self}
use Rattle.jl_model.proofs.HeightLemmas.{found_any, part_any}
use Rattle.jl_search.proofs.HasLemmas.{Has}

pub each_has : (P : Ty → Type 0) (ts : List Ty) → Each P ts → (t : Ty) → Has ts t → P t
each_has P [] e t h = absurd h
each_has P (u ∷ us) e t (inl i) = subst P i e.0
each_has P (u ∷ us) e t (inr i) = each_has P us e.1 t i

module _ (n : Table) where
  any_nothing : (us : List Ty) → us ≡ [] → Found n opaque W.Any us → ⊥
  any_nothing us e (here g t u vs p) = let k : (u ∷ vs) ≡ [] = e in cc
  any_nothing us e (there g t u vs f) = let k : (u ∷ vs) ≡ [] = e in cc
  any_nothing us e (raise g t v vs i c) = let k : Any ≡ Var v = sym outs-Any ∙ i in cc

  nothing : (a : Ty) (us : List Ty) → us ≡ [] → Found n opaque a us → ⊥
  nothing a us e (here g t u vs p) = let k : (u ∷ vs) ≡ [] = e in cc
  nothing a us e (there g t u vs f) = let k : (u ∷ vs) ≡ [] = e in cc
  nothing a us e (raise g t v vs i c) = any_nothing us e (found_any n us c)

  all_found : (g : Fixed) (t : Ty) (us : List Ty) → Found n opaque W.Any us → Found n g t us
  all_found g t us (here o a u vs p) = here g t u vs (any g t u (part_any n u p))
  all_found g t us (there o a u vs f) = there g t u vs (all_found g t vs f)
  all_found g t us (raise o a v vs i c) = let k : Any ≡ Var v = sym outs-Any ∙ i in cc

  empty_covered : (g : Fixed) (ts us vs : List Ty) → us ≡ [] → Covered n opaque ts us → Covered n g ts vs
  empty_covered g ts us vs e (none o ws) = none g vs
  empty_covered g ts us vs e (more o t ss ws f c) = absurd (nothing t us e f)

  empty_below : (g : Fixed) (t u : Ty) → Below n opaque t (V.Union []) → Below n g t u
  empty_below g t u (below o a b c) = below g t u (empty_covered g (alts t) (alts (V.Union [])) (alts u) (alts-union []) c)

  module _ (g : Fixed) where
    mutual
      pub lift : (t u : Ty) → Below n opaque t u → Below n g t u
      lift t u (below o a b c) = below g t u (lift_covered (alts t) (alts u) c)

      lift_covered : (ts us : List Ty) → Covered n opaque ts us → Covered n g ts us
      lift_covered ts us (none o vs) = none g us
      lift_covered ts us (more o t ss vs f c) = more g t ss us (lift_found t us f) (lift_covered ss us c)

      lift_found : (t : Ty) (us : List Ty) → Found n opaque t us → Found n g t us
      lift_found t us (here o a u vs p) = here g t u vs (lift_part t u p)
      lift_found t us (there o a u vs f) = there g t u vs (lift_found t vs f)
      lift_found t us (raise o a v vs i c) = all_found g t us (found_any n us c)

      pub lift_part : (t u : Ty) → Part n opaque t u → Part n g t u
      lift_part t u (any o a b i) = any g t u i
      lift_part t u (tuple o a b xs ys i j q) = tuple g t u xs ys i j (lift_parts xs ys q)
      lift_part t u (nominal o a b k m xs zs ys i j e q) = nominal g t u k m xs zs ys i j e q
      lift_part t u (self o a b v i j) = self g t u v i j
      lift_part t u (own o a b v i j) = self g t u v i j
      lift_part t u (under o a b w i c) = under g t u w i (empty_below g t (g.low w) c)

      lift_parts : (xs ys : List Ty) → Parts n opaque xs ys → Parts n g xs ys
      lift_parts xs ys (parts_end o) = parts_end g
      lift_parts xs ys (parts_more o x y vs ws b q) = parts_more g x y vs ws (lift x y b) (lift_parts vs ws q)

    pub refl_below : (t : Ty) → Below n g t t
    refl_below t = lift t t (below_self n t)

    -- alternatives, one by one
    pub covered_from : (ts us : List Ty) → ((c : Ty) → Has ts c → Found n g c us) → Covered n g ts us
    covered_from [] us f = none g us
    covered_from (t ∷ ts) us f = more g t ts us (f t (inl refl)) (covered_from ts us (λ c h. f c (inr h)))

    pub covered_at : (ts us : List Ty) (c : Ty) → Covered n g ts us → Has ts c → Found n g c us
    covered_at ts us c (none h vs) i = absurd i
    covered_at ts us c (more h t ss vs f r) (inl e) = subst (λ z. Found n g z us) e f
    covered_at ts us c (more h t ss vs f r) (inr i) = covered_at ss us c r i

    pub found_in : (us : List Ty) (c b : Ty) → Has us b → Part n g c b → Found n g c us
    found_in [] c b h p = absurd h
    found_in (u ∷ us) c b (inl e) p = here g c u us (subst (λ z. Part n g c z) (sym e) p)
    found_in (u ∷ us) c b (inr h) p = there g c u us (found_in us c b h p)

    pub below_found : (t u c : Ty) → Below n g t u → Has (alts t) c → Found n g c (alts u)
    below_found t u c (below h a b r) i = covered_at (alts t) (alts u) c r i

    pub found_below : (t u : Ty) → ((c : Ty) → Has (alts t) c → Found n g c (alts u)) → Below n g t u
    found_below t u f = below g t u (covered_from (alts t) (alts u) f)

    pub single_found : (c u : Ty) → alts c ≡ c ∷ [] → Below n g c u → Found n g c (alts u)
    single_found c u e b = below_found c u c b (subst (λ z. Has z c) (sym e) (inl refl))

    pub found_single : (c u : Ty) → alts c ≡ c ∷ [] → Found n g c (alts u) → Below n g c u
    found_single c u e f = found_below c u (λ d h. elim (subst (λ z. Has z d) e h) [ inl i ↦ subst (λ z. Found n g z (alts u)) i f | inr i ↦ absurd i ])

    pub alt_fine : (t c : Ty) → Has (alts t) c → (alts c ≡ c ∷ []) × Part n g c c
    alt_fine t c h = let f = each_has (Fine n) (alts t) (alts_fine n t) c h in (f.0, lift_part c c f.1)

    -- an alternative is below its type
    pub alt_below : (t c : Ty) → Has (alts t) c → Below n g c t
    alt_below t c h = let f = alt_fine t c h in found_single c t f.0 (found_in (alts t) c c h f.1)

    -- a type is below another where each alternative is
    pub by_alts : (t u : Ty) → ((c : Ty) → Has (alts t) c → Below n g c u) → Below n g t u
    by_alts t u f = found_below t u (λ c h. single_found c u (alt_fine t c h).0 (f c h))

    -- a part below a part
    pub part_single : (t u : Ty) → alts t ≡ t ∷ [] → alts u ≡ u ∷ [] → Part n g t u → Below n g t u
    part_single t u e f p = found_single t u e (found_in (alts u) t u (subst (λ z. Has z u) (sym f) (inl refl)) p)

  pub equals_self : (xs : List Ty) → Equals n xs xs
  equals_self [] = equals_end
  equals_self (x ∷ xs) = let b = below_self n x in equals_more x x xs xs b b (equals_self xs)
