-- The declared bounds are normal forms over declared types, and what is below them or above them.
use Rattle.std.proofs.Common.{◌≡◌, ◌∙◌, sym, ap, subst, refl, ℕ, zero, suc, ◌+◌, ◌<◌, ◌≤◌, arith, Bool, true, false, ◌&&◌, nat_eq, nat_lt, List, [], ◌∷◌, ◌++◌, length, get_or, slice_get, Some, inl, inr}
use Rattle.std.specs.List.{list_all}
use Rattle.jl_model.specs.declared.ty.Ty.{Ty, out-Ty}
use Rattle.jl_model.specs.declared.ty.Ty.TheOpen.{Ty-F, Any, Union, Tuple, Nominal, Var}
use Rattle.jl_model.specs.declared.ty.Ty.TheViews.{outs-Any, outs-Union, outs-Tuple, outs-Nominal, outs-Var}
use Rattle.jl_model.specs.declared.ty.Ty.TheViews as V
use Rattle.jl_model.specs.declared.ty.Ty.TheVariants as W
use Rattle.jl_model.specs.declared.ty.Bound.{Bound}
use Rattle.jl_model.specs.declared.ty.Decl.{Decl}
use Rattle.jl_model.specs.Rows.{free}
use Rattle.jl_model.specs.Signature.{Both, both_end, both_more}
use Rattle.jl_model.specs.Subtype.{Table, opaque, lifted, Below}
use Rattle.jl_model.specs.Ancestors.{table_of, builtin_types}
use Rattle.jl_model.specs.Members.{EachBelow}
use Rattle.jl_model.specs.Normal.{IsNormal, AllNormal, is_single, no_union, any, var, nominal, tuple, union, none, more, IsNormalForm}
use Rattle.jl_model.specs.Valid.{is_known, params_of}
use Rattle.jl_model.specs.Kept.{field_types, Bounds, bounds_end, bounds_more, IsKept}
use Rattle.jl_model.specs.Refusals.{Declared, builtin, added, table_with, bound_types, own, is_known_decl, Between}
use Rattle.jl_model.proofs.TypeInduction.{Each}
use Rattle.jl_model.proofs.FormLemmas.{is_union, is_nominal, alts-nominal}
use Rattle.jl_model.proofs.PutLemmas.{and_l, and_r}
use Rattle.jl_model.proofs.AncestorLemmas.{Lawful, slice_before, slice_last, slice_past, long-snoc}
use Rattle.jl_model.proofs.HeightLemmas.{Ways, PartBy}
use Rattle.jl_model.proofs.BelowLemmas.{below_part, below_union}
use Rattle.jl_model.proofs.TransLemmas.{far, near, below_trans}
use Rattle.jl_model.proofs.NormalLemmas.{single_alts}
use Rattle.jl_model.proofs.KnownLemmas.{Known, known-any, known-union, union_known, nominal_known, known_nominal, put_all_known, normal_move, below_move, agree_back}
use Rattle.jl_model.proofs.DeclaredLemmas.{not_false}
use Rattle.jl_model.proofs.FillLemmas.{declared_agree}
use Rattle.jl_types.specs.Ground.{IsGround}
use Rattle.jl_types.proofs.PlaceLemmas.{known_up}
use Rattle.jl_types.proofs.GroundLemmas.{nominal_of, nominal_only}
use Rattle.jl_norm.specs.Refused.{IsWellWritten}
use Rattle.jl_norm.specs.Judged.{IsGroundBound}
use Rattle.jl_norm.proofs.NextLemmas.{order_of}
use Rattle.jl_norm.proofs.KeepLemmas.{with_lawful}
use Rattle.jl_norm.proofs.PartLemmas.{form_known, form_up}
use Rattle.jl_norm.proofs.CrossLemmas.{bounds_ground}

-- DECLARED BOUNDS ARE GROUND
pub free_ground : (ds : List Decl) → IsGroundBound ds free
free_ground ds = record {
  low = record { normal = union (V.Union []) [] (outs-Union []) none refl tt (λ e. absurd (omega (arith, e))); known = known-union (length ds) [] };
  high = record { normal = any W.Any outs-Any; known = known-any (length ds) };
}

abbrev NoParams : List Decl → Type 0
NoParams [] = Unit {0}
NoParams (d ∷ ds) = (d.params ≡ []) × NoParams ds

none_of : (ds : List Decl) (k : ℕ) → NoParams ds → params_of (slice_get ds k) ≡ []
none_of [] k h = refl
none_of (d ∷ ds) zero h = h.0
none_of (d ∷ ds) (suc k) h = none_of ds k h.1

builtin_none : NoParams builtin_types
builtin_none = (refl, (refl, (refl, (refl, (refl, (refl, (refl, (refl, tt))))))))

ground_later : (ds : List Decl) (d : Decl) → Declared ds → (t : Ty) → IsGround ds t → IsGround (ds ++ d ∷ []) t
ground_later ds d h t g = record {
  normal = normal_move (table_of ds) (table_of (ds ++ d ∷ [])) (length ds) (declared_agree ds d h) t g.known g.normal;
  known = subst (λ z. is_known z t ≡ true) (sym (long-snoc ds d)) (known_up (length ds) t g.known);
}

bound_later : (ds : List Decl) (d : Decl) → Declared ds → (b : Bound) → IsGroundBound ds b → IsGroundBound (ds ++ d ∷ []) b
bound_later ds d h b g = record { low = ground_later ds d h b.low g.low; high = ground_later ds d h b.high g.high }

-- those that are kept as they stand
own_ground : (ds : List Decl) (m : ℕ) (bs cs : List Bound) → length ds ≡ m + 1 → Bounds (table_of ds) bs cs → bs ≡ cs → list_all (is_known m) (bound_types bs) ≡ true → (i : ℕ) → IsGroundBound ds (get_or bs i free)
own_ground ds m bs cs l bounds_end q k i = free_ground ds
own_ground ds m bs cs l (bounds_more b c as_ es p u r) q k zero =
    let e : b ≡ c = cc in
    let f = and_l (is_known m b.low) (is_known m b.high && list_all (is_known m) (bound_types as_)) k in
    let g = and_l (is_known m b.high) (list_all (is_known m) (bound_types as_)) (and_r (is_known m b.low) (is_known m b.high && list_all (is_known m) (bound_types as_)) k) in
    record {
      low = record { normal = subst (λ (z : Bound). IsNormal (table_of ds) z.low) (sym e) p.normal; known = subst (λ z. is_known z b.low ≡ true) (sym l) (known_up m b.low f) };
      high = record { normal = subst (λ (z : Bound). IsNormal (table_of ds) z.high) (sym e) u.normal; known = subst (λ z. is_known z b.high ≡ true) (sym l) (known_up m b.high g) };
    }
own_ground ds m bs cs l (bounds_more b c as_ es p u r) q k (suc i) =
    let e : as_ ≡ es = cc in
    own_ground ds m as_ es l r e (and_r (is_known m b.high) (list_all (is_known m) (bound_types as_)) (and_r (is_known m b.low) (is_known m b.high && list_all (is_known m) (bound_types as_)) k)) i

past_ground : (ds : List Decl) (k i : ℕ) → length ds ≤ k → IsGroundBound ds (get_or (params_of (slice_get ds k)) i free)
past_ground ds k i l = subst (λ o. IsGroundBound ds (get_or (params_of o) i free)) (sym (slice_past ds k l)) (free_ground ds)

pub declared_ground : (ds : List Decl) → Declared ds → (k i : ℕ) → IsGroundBound ds (get_or (params_of (slice_get ds k)) i free)
declared_ground ds builtin k i = subst (λ z. IsGroundBound builtin_types (get_or z i free)) (sym (none_of builtin_types k builtin_none)) (free_ground builtin_types)
declared_ground ds (added es d h r) k i = elim (order_of k (length es)) [
  | inl lt ↦ subst (λ o. IsGroundBound (es ++ d ∷ []) (get_or (params_of o) i free)) (sym (slice_before es d k lt)) (bound_later es d h (get_or (params_of (slice_get es k)) i free) (declared_ground es h k i))
  | inr g ↦ elim g [
    | inl e ↦
        let all = not_false (is_known_decl es d) r.allowed.known in
        let q = list_all (is_known (length es)) (bound_types d.params) in
        let bounds = and_l q (is_known (length es) d.parent) (and_l (q && is_known (length es) d.parent) (list_all (is_known (length es + own d.kind)) (field_types d.fields)) all) in
        subst (λ o. IsGroundBound (es ++ d ∷ []) (get_or (params_of o) i free)) (sym (slice_last es d k e)) (own_ground (es ++ d ∷ []) (length es) d.params d.params (long-snoc es d) r.normal.params refl bounds i)
    | inr gt ↦ past_ground (es ++ d ∷ []) k i (omega (arith, long-snoc es d))
  ]
]

-- with a declaration that is checked, as it is kept
module _ (ds : List Decl) (d e : Decl) (h : Declared ds) (w : IsWellWritten ds d) (k : IsKept (table_with ds d) d e) where
  kept_ground : (cs : List Bound) → ((i : ℕ) (c : Bound) → i < length cs → c ≡ get_or cs i c → IsGround ds c.low × IsGround ds c.high) → (i : ℕ) → IsGroundBound ds (get_or cs i free)
  kept_ground [] f i = free_ground ds
  kept_ground (c ∷ cs) f zero = let p = f zero c (omega arith) refl in record { low = p.0; high = p.1 }
  kept_ground (c ∷ cs) f (suc i) = kept_ground cs (λ j b l q. f (suc j) b (omega arith) q) i

  pub place_ground : (j i : ℕ) → IsGroundBound ds (get_or (params_of (slice_get (ds ++ e ∷ []) j)) i free)
  place_ground j i = elim (order_of j (length ds)) [
    | inl lt ↦ subst (λ o. IsGroundBound ds (get_or (params_of o) i free)) (sym (slice_before ds e j lt)) (declared_ground ds h j i)
    | inr g ↦ elim g [
      | inl q ↦ subst (λ o. IsGroundBound ds (get_or (params_of o) i free)) (sym (slice_last ds e j q)) (kept_ground e.params (bounds_ground ds d h w e.params k.params) i)
      | inr gt ↦ subst (λ o. IsGroundBound ds (get_or (params_of o) i free)) (sym (slice_past (ds ++ e ∷ []) j (omega (arith, long-snoc ds e)))) (free_ground ds)
    ]
  ]

module _ (ds : List Decl) (d : Decl) (h : Declared ds) (w : IsWellWritten ds d) where
  abbrev m : ℕ
  m = length ds

  abbrev n : Table
  n = table_with ds d

  law : Lawful n
  law = with_lawful ds d w h

  -- A TYPE WITHOUT THE NEW ONE
  up : (t u : Ty) → Known m t → Known m u → Below (table_of ds) opaque t u → Below n opaque t u
  up t u p q b = below_move (table_of ds) n m (declared_agree ds d h) t u p q b

  down : (t u : Ty) → Known m t → Known m u → Below n opaque t u → Below (table_of ds) opaque t u
  down t u p q b = below_move n (table_of ds) m (agree_back (table_of ds) n m (declared_agree ds d h)) t u p q b

  -- t is a type without it, and u its normal form
  module _ (t u : Ty) (p : Known m t) (f : IsNormalForm (table_of ds) t u) (q : Known m u) where
    g : IsNormalForm n t u
    g = form_up ds d h t u p q f

    pub form_low : (b : Ty) → Known m b → Below n opaque b t → Below (table_of ds) opaque b u
    form_low b r s = down b u r q (below_trans n law b t u s g.equal.0)

    pub form_between : (b : Bound) → IsGroundBound ds b → Below (table_of ds) opaque b.low u → Below (table_of ds) opaque u b.high → Between n b t
    form_between b r x y = (below_trans n law b.low u t (up b.low u r.low.known q x) g.equal.1, below_trans n law t u b.high g.equal.0 (up u b.high q r.high.known y))

    pub form_high : (b : Ty) → Known m b → Below n opaque t b → Below (table_of ds) opaque u b
    form_high b r s = down u b q r (below_trans n law u t b g.equal.1 s)

  -- A TYPE WITH IT
  -- nothing without it is below it, but for the empty union
  own_low : (a : Ty) (j : ℕ) (us : List Ty) → IsNormal (table_of ds) a → is_single a ≡ true → Known m a → AllNormal n us → is_known m (V.Nominal j us) ≡ false → Below n opaque a (V.Nominal j us) → ⊥
  own_low a j us g s c q o b = go (out-Ty a) refl
    where
      f : Ty
      f = V.Nominal j us

      part : PartBy n (Below n opaque) a f
      part = below_part n a f (single_alts (table_of ds) a g s) (alts-nominal j us) b

      no : ((i : ℕ) (xs : List Ty) → a ≡ V.Nominal i xs → ⊥) → ⊥
      no z = nominal_only n a f j us (outs-Nominal j us) z part

      forms : (zs us : List Ty) → Each (Known m) zs → Both (Ways (Below n opaque)) zs us → AllNormal n us → Each (Known m) us
      forms zs us i both_end none = tt
      forms zs us i (both_more z u vs ws p r) (more x xs y v) = (form_known n law m z u i.0 (record { normal = y; equal = p }), forms vs ws i.1 r v)

      lifts : (i : ℕ) (xs zs : List Ty) → Each (Known m) xs → i < m → lifted n i xs j ≡ Some zs → (r : Bool) → nat_eq i j ≡ r → (nat_lt j m ≡ true) × Each (Known m) zs
      lifts i xs zs k' l y true r = let x = near n law i j xs zs r y in (grind (arith, l, r), subst (Each (Known m)) x k')
      lifts i xs zs k' l y false r =
          let x = far n law i j xs zs r y in
          let below = law.falls i j x.0 r x.1 in
          let known = (agree_back (table_of ds) n m (declared_agree ds d h)).known i j x.0 l x.1 in
          (grind (arith, below, l), subst (Each (Known m)) x.2 (put_all_known m xs k' x.0 known))

      go : (x : Ty-F Ty) → out-Ty a ≡ x → ⊥
      go Any e = no (λ i xs y. let z : Any ≡ Nominal i xs = sym e ∙ ap out-Ty y ∙ outs-Nominal i xs in cc)
      go (Union ts) e = let z : false ≡ true = sym (ap no_union e) ∙ s in cc
      go (Tuple ts) e = no (λ i xs y. let z : Tuple ts ≡ Nominal i xs = sym e ∙ ap out-Ty y ∙ outs-Nominal i xs in cc)
      go (Var v) e = no (λ i xs y. let z : Var v ≡ Nominal i xs = sym e ∙ ap out-Ty y ∙ outs-Nominal i xs in cc)
      go (Nominal i xs) e =
          let y = is_nominal a i xs e in
          let z = nominal_of n i j xs us (subst (λ t. Below n opaque t f) y b) in
          let r = nominal_known m i xs (sym (ap (is_known m) y) ∙ c) in
          let v = lifts i xs z.0 r.1 r.0 z.1 (nat_eq i j) refl in
          let x : true ≡ false = sym (known_nominal m j us v.0 (forms z.0 us v.1 z.2 q)) ∙ o in cc

  pub low_is_bottom : (a : Ty) (j : ℕ) (us : List Ty) → IsGround ds a → AllNormal n us → is_known m (V.Nominal j us) ≡ false → Below n opaque a (V.Nominal j us) → a ≡ V.Union []
  low_is_bottom a j us g q o b = go g.normal
    where
      f : Ty
      f = V.Nominal j us

      go : IsNormal (table_of ds) a → a ≡ V.Union []
      go (any t x) = absurd (own_low a j us g.normal (ap no_union x) g.known q o b)
      go (var t v x) = absurd (own_low a j us g.normal (ap no_union x) g.known q o b)
      go (nominal t i xs x r) = absurd (own_low a j us g.normal (ap no_union x) g.known q o b)
      go (tuple t xs x r s) = absurd (own_low a j us g.normal (ap no_union x) g.known q o b)
      go (union t ts x r s y z) = is_union a ts x ∙ ap (λ ts. V.Union ts) (members ts r s (union_known m ts (sym (ap (is_known m) (is_union a ts x)) ∙ g.known)) (below_union n ts f (subst (λ t. Below n opaque t f) (is_union a ts x) b)))
        where
          members : (ts : List Ty) → AllNormal (table_of ds) ts → list_all is_single ts ≡ true → Each (Known m) ts → EachBelow n ts f → ts ≡ []
          members [] r s i y = refl
          members (t ∷ ts) (more x xs p v) s i y = absurd (own_low t j us p (and_l (is_single t) (list_all is_single ts) s) i.0 q o y.0)
