-- A type over fixed variables below a nominal type: each of its alternatives has this ancestor, with the same arguments.
use Rattle.std.proofs.Common.{◌≡◌, ◌∙◌, sym, ap, subst, refl, ℕ, Bool, true, false, List, [], ◌∷◌, map, None, Some, inl, inr, Result, Ok, Err, IfOk}
use Rattle.jl_model.specs.declared.ty.Ty.{Ty}
use Rattle.jl_model.specs.declared.ty.Ty.TheOpen.{Ty-F, Any, Union, Tuple, Nominal, Var}
use Rattle.jl_model.specs.declared.ty.Ty.TheViews.{out-Ty, outs-Any, outs-Nominal}
use Rattle.jl_model.specs.declared.ty.Ty.TheViews as V
use Rattle.jl_model.specs.declared.ty.Ty.TheVariants as W
use Rattle.jl_model.specs.declared.ty.Decl.{Decl}
use Rattle.jl_model.specs.Ancestors.{table_of}
use Rattle.jl_model.specs.Rows.{alts}
use Rattle.jl_model.specs.Subtype.{Table, Fixed, put, at, lifted, Below, Found, Part, Equals, any, tuple, nominal, self, own, under, raise}
use Rattle.jl_model.specs.Normal.{IsNormal, AllNormal}
use Rattle.jl_model.specs.Refusals.{Declared}
use Rattle.jl_model.specs.Found.{risen, risen_form, rising}
use Rattle.jl_model.proofs.FormLemmas.{put-nominal}
use Rattle.jl_model.proofs.NormalLemmas.{equals_same, kids_nominal}
use Rattle.jl_model.proofs.AncestorLemmas.{Lawful}
use Rattle.jl_model.proofs.DeclaredLemmas.{declared_lawful}
use Rattle.jl_types.proofs.GroundLemmas.{Tells}
use Rattle.jl_sig.specs.declared.row.SigRow.{SigRow}
use Rattle.jl_sig.specs.declared.sig.Sig.{Sig}
use Rattle.jl_search.specs.Open.{AreOpen}
use Rattle.jl_search.proofs.HasLemmas.{Has, has_flat, flat_has}
use Rattle.jl_search.proofs.LiftLemmas.{covered_at, covered_from, found_in, below_found, found_below, alt_fine, equals_self}
use Rattle.jl_subsig.specs.Side.{held, lift_to, Every, IsItem, IsNamed, AreHeld}
use Rattle.jl_subsig.proofs.FixedLemmas.{Fast, some_part, ways, nominal_single}
use Rattle.jl_subsig.proofs.MeetSteps.{lifts_normal, put_normals}
use Rattle.jl_subsig.proofs.RiseLemmas.{Risen, still, rising_risen}

module _ (ds : List Decl) (declared : Declared ds) (s : Sig) (r : SigRow) (h : AreHeld ds s r) (m : ℕ) (us : List Ty) (normal : AllNormal (table_of ds) us) where
  abbrev n : Table
  n = table_of ds

  abbrev G : Fixed
  G = held s r

  abbrev law : Lawful (table_of ds)
  law = declared_lawful ds declared

  abbrev N : Ty
  N = V.Nominal m us

  abbrev pub Lifts : Ty → Type 0
  Lifts c = lift_to (table_of ds) m (out-Ty c) ≡ Some us

  one : alts (V.Nominal m us) ≡ V.Nominal m us ∷ []
  one = nominal_single (V.Nominal m us) m us (outs-Nominal m us)

  -- an alternative that is no variable
  part_lifts : (c : Ty) → IsNormal (table_of ds) c → Fast c → Part n G c N → Lifts c
  part_lifts c k f (any g t w e) = let i : Any ≡ Nominal m us = sym e ∙ outs-Nominal m us in cc
  part_lifts c k f (tuple g t w xs ys d e p) = let i : Tuple ys ≡ Nominal m us = sym e ∙ outs-Nominal m us in cc
  part_lifts c k f (self g t w v d e) = absurd (f v d)
  part_lifts c k f (own g t w v d e) = absurd (f v d)
  part_lifts c k f (under g t w v e b) = let i : Var v ≡ Nominal m us = sym e ∙ outs-Nominal m us in cc
  part_lifts c k f (nominal g t w j p xs zs ys d e l q) =
      let i : Nominal p ys ≡ Nominal m us = sym e ∙ outs-Nominal m us in
      let a : p ≡ m = cc in
      let b : ys ≡ us = cc in
      let x : lift_to n m (out-Ty c) ≡ Some zs = ap (lift_to n m) d ∙ subst (λ z. lifted n j xs z ≡ Some zs) a l in
      let y : AllNormal n zs = lifts_normal ds declared m (out-Ty c) zs (λ o vs t. kids_nominal n law c o vs k t) (sym x) in
      let z : zs ≡ us = equals_same n law zs us y normal (subst (Equals n zs) b q) in
      x ∙ ap (λ w. Some w) z

  lifts_by : (c : Ty) (x : Ty-F Ty) → out-Ty c ≡ x → lift_to n m x ≡ Some us → Part n G c N
  lifts_by c Any d l = let i : None ≡ Some us = l in cc
  lifts_by c (Union ts) d l = let i : None ≡ Some us = l in cc
  lifts_by c (Tuple ts) d l = let i : None ≡ Some us = l in cc
  lifts_by c (Var v) d l = let i : None ≡ Some us = l in cc
  lifts_by c (Nominal k xs) d l = nominal G c N k m xs us us d (outs-Nominal m us) l (equals_self n us)

  only : (u : Ty) → Has (alts N) u → N ≡ u
  only u i = elim (subst (λ z. Has z u) one i) [ inl e ↦ e | inr b ↦ absurd b ]

  found_lifts : (c : Ty) → IsNormal n c → Fast c → Found n G c (alts N) → Lifts c
  found_lifts c k f p =
      let q = some_part n G c (alts N) f p in
      let e : N ≡ q.0 = only q.0 q.1 in
      part_lifts c k f (subst (λ z. Part n G c z) (sym e) q.2)

  -- a variable is no part below it
  no_part : (a : Ty) (v : ℕ) → out-Ty a ≡ Var v → Part n G a N → ⊥
  no_part a v o (any g t w e) = let i : Any ≡ Nominal m us = sym e ∙ outs-Nominal m us in cc
  no_part a v o (tuple g t w xs ys d e p) = let i : Tuple xs ≡ Var v = sym d ∙ o in cc
  no_part a v o (nominal g t w j p xs zs ys d e l q) = let i : Nominal j xs ≡ Var v = sym d ∙ o in cc
  no_part a v o (self g t w k d e) = let i : Var k ≡ Nominal m us = sym e ∙ outs-Nominal m us in cc
  no_part a v o (own g t w k d e) = let i : Var (G.root k) ≡ Nominal m us = sym e ∙ outs-Nominal m us in cc
  no_part a v o (under g t w k e b) = let i : Var k ≡ Nominal m us = sym e ∙ outs-Nominal m us in cc

  pub below_lifts : (t : Ty) → IsItem ds t → Below n G t N → (c : Ty) → Has (rising G t) c → Lifts c
  below_lifts t item b c i =
      let q = flat_has (λ a. alts (risen G a)) (alts t) c i in
      let f = below_found n G t N q.0 b q.1 in
      let k = rising_risen ds s r h t item c i in
      by_form q.0 (alt_fine n G t q.0 q.1).0 f k (out-Ty q.0) refl q.2
    where
      itself : (a : Ty) → alts a ≡ a ∷ [] → Found n G a (alts N) → Risen ds c → Fast a → Has (alts (risen G a)) c → Lifts c
      itself a e f k q j =
          let w : a ≡ c = elim (subst (λ z. Has z c) (ap alts (still ds s r h a q) ∙ e) j) [ inl x ↦ x | inr y ↦ absurd y ] in
          found_lifts c k.item.normal k.fast (subst (λ z. Found n G z (alts N)) w f)

      by_form : (a : Ty) → alts a ≡ a ∷ [] → Found n G a (alts N) → Risen ds c → (x : Ty-F Ty) → out-Ty a ≡ x → Has (alts (risen G a)) c → Lifts c
      by_form a e f k Any o j = itself a e f k (λ v i. (let y : Any ≡ Var v = sym o ∙ i in cc)) j
      by_form a e f k (Union ts) o j = itself a e f k (λ v i. (let y : Union ts ≡ Var v = sym o ∙ i in cc)) j
      by_form a e f k (Tuple ts) o j = itself a e f k (λ v i. (let y : Tuple ts ≡ Var v = sym o ∙ i in cc)) j
      by_form a e f k (Nominal p ts) o j = itself a e f k (λ v i. (let y : Nominal p ts ≡ Var v = sym o ∙ i in cc)) j
      by_form a e f k (Var v) o j =
          let w : Has (alts (G.high v)) c = subst (λ z. Has (alts (risen_form G a z)) c) o j in
          elim (ways n G a (alts N) f) [
            | inl y ↦ absurd (no_part a v o (subst (λ z. Part n G a z) (sym (only y.0 y.1)) y.2))
            | inr y ↦
                let g : Var v ≡ Var y.0 = sym o ∙ y.1 in
                let p : v ≡ y.0 = cc in
                found_lifts c k.item.normal k.fast (covered_at n G (alts (G.high y.0)) (alts N) c y.2 (subst (λ z. Has (alts (G.high z)) c) p w))
          ]

  pub lifts_below : (t : Ty) → ((c : Ty) → Has (rising G t) c → Lifts c) → Below n G t N
  lifts_below t f = found_below n G t N (λ a i. by_form a i (alt_fine n G t a i).0 (out-Ty a) refl)
    where
      lifted_found : (c : Ty) → Lifts c → Found n G c (alts N)
      lifted_found c l = found_in n G (alts N) c N (subst (λ z. Has z N) (sym one) (inl refl)) (lifts_by c (out-Ty c) refl l)

      itself : (a : Ty) → Has (alts t) a → alts a ≡ a ∷ [] → Fast a → Found n G a (alts N)
      itself a i e q = lifted_found a (f a (has_flat (λ a. alts (risen G a)) (alts t) a a i (subst (λ z. Has z a) (sym (ap alts (still ds s r h a q) ∙ e)) (inl refl))))

      by_form : (a : Ty) → Has (alts t) a → alts a ≡ a ∷ [] → (x : Ty-F Ty) → out-Ty a ≡ x → Found n G a (alts N)
      by_form a i e Any o = itself a i e (λ v j. (let y : Any ≡ Var v = sym o ∙ j in cc))
      by_form a i e (Union ts) o = itself a i e (λ v j. (let y : Union ts ≡ Var v = sym o ∙ j in cc))
      by_form a i e (Tuple ts) o = itself a i e (λ v j. (let y : Tuple ts ≡ Var v = sym o ∙ j in cc))
      by_form a i e (Nominal p ts) o = itself a i e (λ v j. (let y : Nominal p ts ≡ Var v = sym o ∙ j in cc))
      by_form a i e (Var v) o =
          raise G a v (alts N) o (covered_from n G (alts (G.high v)) (alts N) (λ c j. lifted_found c (f c (has_flat (λ a. alts (risen G a)) (alts t) a c i (subst (λ z. Has (alts (risen_form G a z)) c) (sym o) j)))))

every_of : (P : Ty → Type 0) (ts : List Ty) → ((t : Ty) → Has ts t → P t) → Every P ts
every_of P [] f = tt
every_of P (t ∷ ts) f = (f t (inl refl), every_of P ts (λ x i. f x (inr i)))

of_every : (P : Ty → Type 0) (ts : List Ty) → Every P ts → (t : Ty) → Has ts t → P t
of_every P [] e t i = absurd i
of_every P (u ∷ ts) e t (inl i) = subst P i e.0
of_every P (u ∷ ts) e t (inr i) = of_every P ts e.1 t i

-- with the values put in
module _ (ds : List Decl) (declared : Declared ds) (s : Sig) (r : SigRow) (h : AreHeld ds s r) (vs : List Ty) (values : (v : ℕ) → IsNormal (table_of ds) (at vs v)) (m : ℕ) (ys ws : List Ty) (named : IsNamed ds (V.Nominal m ys)) (same : ws ≡ ys) where
  abbrev upper : Ty
  upper = put (at vs) (V.Nominal m ws)

  abbrev args : List Ty
  args = map (put (at vs)) ws

  args_normal : AllNormal (table_of ds) args
  args_normal =
      let o : Nominal named.number named.args ≡ Nominal m ys = sym (ap out-Ty named.is ∙ outs-Nominal named.number named.args) ∙ outs-Nominal m ys in
      let i : named.args ≡ ws = (let j : named.args ≡ ys = cc in j ∙ sym same) in
      put_normals (table_of ds) (declared_lawful ds declared) vs values ws (subst AreOpen i named.opened) (subst (AllNormal (table_of ds)) i named.normal)

  pub applied_step : {E : Type 0} (x : Result Bool E) (t : Ty) (cs : List Ty) → IsItem ds t → rising (held s r) t ≡ cs
      → IfOk x (λ yes. Tells yes (Every (λ c. lift_to (table_of ds) m (out-Ty c) ≡ Some args) cs)) → IfOk x (λ yes. Tells yes (Below (table_of ds) (held s r) t (put (at vs) (V.Nominal m ws))))
  applied_step (Err e) t cs i f k = tt
  applied_step (Ok b) t cs i f k =
      let e : put (at vs) (V.Nominal m ws) ≡ V.Nominal m args = put-nominal (at vs) m ws in (
        (λ y. subst (Below (table_of ds) (held s r) t) (sym e) (lifts_below ds declared s r h m args args_normal t (λ c j. of_every (λ c. lift_to (table_of ds) m (out-Ty c) ≡ Some args) cs (k.0 y) c (subst (λ z. Has z c) f j)))),
        (λ q. k.1 (every_of (λ c. lift_to (table_of ds) m (out-Ty c) ≡ Some args) cs (λ c j. below_lifts ds declared s r h m args args_normal t i (subst (Below (table_of ds) (held s r) t) e q) c (subst (λ z. Has z c) (sym f) j)))),
      )

  pub any_step : (t : Ty) → IsItem ds t → rising (held s r) t ≡ W.Any ∷ [] → Tells false (Below (table_of ds) (held s r) t (put (at vs) (V.Nominal m ws)))
  any_step t i f = (
    (λ y. let c : false ≡ true = y in cc),
    (λ q.
        let l = below_lifts ds declared s r h m args args_normal t i (subst (Below (table_of ds) (held s r) t) (put-nominal (at vs) m ws) q) W.Any (subst (λ z. Has z W.Any) (sym f) (inl refl)) in
        let c : None ≡ Some args = sym (ap (lift_to (table_of ds) m) outs-Any) ∙ l in cc),
  )
