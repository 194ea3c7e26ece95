-- An argument without variables: its normal form, and its bounds.
use Rattle.std.proofs.Common.{◌≡◌, ◌∙◌, sym, ap, subst, refl, ℕ, zero, suc, ◌+◌, ◌<◌, ◌≤◌, arith, Bool, true, false, not, List, [], ◌∷◌, ◌++◌, length, get_or, slice_get, slice_index_or, inl, inr}
use Rattle.std.specs.List.{list_all}
use Rattle.jl_model.specs.declared.ty.Ty.{Ty, out-Ty}
use Rattle.jl_model.specs.declared.ty.Ty.TheViews.{outs-Nominal}
use Rattle.jl_model.specs.declared.ty.Ty.TheViews as V
use Rattle.jl_model.specs.declared.ty.Bound.{Bound}
use Rattle.jl_model.specs.declared.ty.Decl.{Decl}
use Rattle.jl_model.specs.Rows.{free}
use Rattle.jl_model.specs.Subtype.{Table, opaque, Below}
use Rattle.jl_model.specs.Ancestors.{table_of}
use Rattle.jl_model.specs.Counts.{nodes, IsWithinLimits}
use Rattle.jl_model.specs.Normal.{AllNormal, IsNormalForm}
use Rattle.jl_model.specs.Valid.{is_known, is_closed, params_of}
use Rattle.jl_model.specs.Kept.{Settled, IsKept}
use Rattle.jl_model.specs.Refusals.{Declared, table_with, is_free_of, Between, HasLargeForm, Given}
use Rattle.jl_model.proofs.AncestorLemmas.{Lawful}
use Rattle.jl_model.proofs.TransLemmas.{below_trans}
use Rattle.jl_model.proofs.BelowLemmas.{union_below}
use Rattle.jl_model.proofs.NormalLemmas.{kids_nominal}
use Rattle.jl_model.proofs.KnownLemmas.{Known, nominal_known}
use Rattle.jl_types.specs.Form.{IsTooLarge, IsKeptTooLarge}
use Rattle.jl_types.proofs.KeptOnceLemmas.{settled_same, settled_nominal}
use Rattle.jl_types.proofs.PlaceLemmas.{free_is_known}
use Rattle.jl_norm.specs.Refused.{IsWellWritten}
use Rattle.jl_norm.specs.Judged.{IsArgument, IsJudged, IsGroundBound, bound_at}
use Rattle.jl_types.proofs.PartsLemmas.{closed-nominal}
use Rattle.jl_norm.proofs.KeepLemmas.{with_lawful, arguments_form, nominal_form}
use Rattle.jl_norm.proofs.KeptLemmas.{closed_free}
use Rattle.jl_norm.proofs.PartLemmas.{form_known, form_up, form_down}
use Rattle.jl_norm.proofs.NextLemmas.{form_closed}
use Rattle.jl_norm.proofs.ReadyLemmas.{written_kept}
use Rattle.jl_norm.proofs.BoundLemmas.{between_before, between_next}
use Rattle.jl_norm.proofs.PlaceBounds.{form_low, form_between, form_high, low_is_bottom}

not_true : (b : Bool) → (b ≡ true → ⊥) → b ≡ false
not_true true h = absurd (h refl)
not_true false h = refl

not_is : (b : Bool) → not b ≡ true → b ≡ false
not_is true h = let f : false ≡ true = h in cc
not_is false h = refl

is_not : (b : Bool) → not b ≡ false → b ≡ true
is_not true h = refl
is_not false h = let f : true ≡ false = h in cc

-- places
pub slice_free : (bs : List Bound) (i : ℕ) (b : Bound) → i < length bs → b ≡ slice_index_or bs i b → b ≡ get_or bs i free
slice_free [] i b l e = absurd (omega arith)
slice_free (x ∷ xs) zero b l e = e
slice_free (x ∷ xs) (suc i) b l e = slice_free xs i b (omega arith) e

pub past_free : (bs : List Bound) (i : ℕ) → length bs ≤ i → get_or bs i free ≡ free
past_free [] i l = refl
past_free (x ∷ xs) zero l = absurd (omega arith)
past_free (x ∷ xs) (suc i) l = past_free xs i (omega arith)

pub judged_bound : (ds : List Decl) (d : Decl) (b c : Bound) (t : Ty) (r : Bool) → (Between (table_with ds d) b t → Between (table_with ds d) c t) → (Between (table_with ds d) c t → Between (table_with ds d) b t)
    → IsJudged ds d b t r → IsJudged ds d c t r
judged_bound ds d b c t r f g j = record { small = j.small; outside = λ e x. j.outside e (g x); inside = λ e. f (j.inside e) }

module _ (ds : List Decl) (d : Decl) (h : Declared ds) (w : IsWellWritten ds d) (t : Ty) (a : IsArgument ds d t) where
  abbrev m : ℕ
  m = length ds

  abbrev n : Table
  n = table_with ds d

  law : Lawful n
  law = with_lawful ds d w h

  -- WITHOUT THE NEW TYPE
  module _ (o : is_free_of m t ≡ true) where
    pub free_here : Known m t
    free_here = free_is_known m t o a.known

    pub free_large : IsTooLarge ds t → HasLargeForm n t
    free_large (inl x) u f = absurd (x a.within)
    free_large (inr x) u f = x u (form_down ds d h law t u free_here f)

    module _ (f : Ty) (g : IsNormalForm (table_of ds) t f) (q : Known m f) (s : nodes f ≤ 1024) (b : Bound) (bg : IsGroundBound ds b) where
      small : (u : Ty) × IsNormalForm n t u × (nodes u ≤ 1024)
      small = (f, form_up ds d h t f free_here q g, s)

      pub free_low : (r : Bool) → r ≡ false → (Below (table_of ds) opaque b.low f → r ≡ true) → IsJudged ds d b t true
      free_low r e x = record {
        small = small;
        outside = λ i y. let z : true ≡ false = sym (x (form_low ds d h w t f free_here g q b.low bg.low.known y.0)) ∙ e in cc;
        inside = λ i. let z : true ≡ false = i in cc;
      }

      pub free_judged : (r : Bool) → Below (table_of ds) opaque b.low f → (r ≡ true → Below (table_of ds) opaque f b.high) → (Below (table_of ds) opaque f b.high → r ≡ true) → IsJudged ds d b t (not r)
      free_judged r l x y = record {
        small = small;
        outside = λ i z. let v : true ≡ false = sym (y (form_high ds d h w t f free_here g q b.high bg.high.known z.1)) ∙ not_is r i in cc;
        inside = λ i. form_between ds d h w t f free_here g q b bg l (x (is_not r i));
      }

  -- WITH IT
  module _ (c : is_closed t ≡ true) (o : is_free_of m t ≡ false) where
    pub own_large : IsKeptTooLarge ds t → ⊥
    own_large (inl x) = x a.within
    own_large (inr x) =
        let y = a.kept o in
        let z = x d in
        z.2 (subst IsWithinLimits (settled_same n law t y.0 z.0 y.1 z.1) y.2)

    module _ (f : Ty) (s : Settled n t f) where
      pub own_form : IsNormalForm n t f
      own_form =
          let sh = a.shape c o in
          let k = sh.0 in
          let ts = sh.1 in
          let e : t ≡ V.Nominal k ts = sh.2 in
          let v = settled_nominal n law t f k ts (ap out-Ty e ∙ outs-Nominal k ts) s in
          let g : list_all is_closed ts ≡ true = sym (ap is_closed e ∙ closed-nominal k ts) ∙ c in
          let z = nominal_form n k ts v.0 (arguments_form n ts v.0 v.2 g) in
          subst (λ y. IsNormalForm n y f) (sym e) (subst (λ y. IsNormalForm n (V.Nominal k ts) y) (sym v.1) z)

      pub own_shape : ((k : ℕ) (us : List Ty) → f ≡ V.Nominal k us → ⊥) → ⊥
      own_shape never =
          let sh = a.shape c o in
          let v = settled_nominal n law t f sh.0 sh.1 (ap out-Ty sh.2 ∙ outs-Nominal sh.0 sh.1) s in
          never sh.0 v.0 v.1

      own_unknown : is_known m f ≡ false
      own_unknown = not_true (is_known m f) (λ i.
          let y = a.kept o in
          let e : y.0 ≡ f = settled_same n law t y.0 f y.1 s in
          let p : is_free_of m f ≡ true = closed_free m f (form_closed n law t f c own_form) i in
          let q : is_free_of m f ≡ false = ap (is_free_of m) (sym e) ∙ y.3 in
          let z : true ≡ false = sym p ∙ q in cc)

      module _ (j : ℕ) (us : List Ty) (e : f ≡ V.Nominal j us) where
        pub own_name : j ≤ m
        own_name = let p = nominal_known (m + 1) j us (sym (ap (is_known (m + 1)) e) ∙ form_known n law (m + 1) t f a.known own_form) in let q = p.0 in omega arith

        pub own_normal : AllNormal n us
        own_normal = kids_nominal n law f j us own_form.normal (ap out-Ty e ∙ outs-Nominal j us)

        module _ (l : IsWithinLimits f) (b : Bound) (bg : IsGroundBound ds b) where
          small_own : (u : Ty) × IsNormalForm n t u × (nodes u ≤ 1024)
          small_own = (f, own_form, l.nodes)

          pub own_low : (r : Bool) → r ≡ false → (b.low ≡ V.Union [] → r ≡ true) → IsJudged ds d b t true
          own_low r i x = record {
            small = small_own;
            outside = λ p y.
                let z : Below n opaque b.low f = below_trans n law b.low t f y.0 own_form.equal.0 in
                let v = low_is_bottom ds d h w b.low j us bg.low own_normal (sym (ap (is_known m) e) ∙ own_unknown) (subst (λ u. Below n opaque b.low u) e z) in
                let q : true ≡ false = sym (x v) ∙ i in cc;
            inside = λ p. let z : true ≡ false = p in cc;
          }

          pub own_judged : (r : Bool) → b.low ≡ V.Union [] → (r ≡ true → Below n opaque (V.Nominal j us) b.high) → (Below n opaque (V.Nominal j us) b.high → r ≡ true) → IsJudged ds d b t (not r)
          own_judged r i x y = record {
            small = small_own;
            outside = λ p z.
                let v : Below n opaque f b.high = below_trans n law f t b.high own_form.equal.1 z.1 in
                let q : true ≡ false = sym (y (subst (λ u. Below n opaque u b.high) e v)) ∙ not_is r p in cc;
            inside = λ p.
                let v : Below n opaque f b.high = subst (λ u. Below n opaque u b.high) (sym e) (x (is_not r p)) in
                (subst (λ u. Below n opaque u t) (sym i) (union_below n [] t tt), below_trans n law t f b.high own_form.equal.0 v);
          }

-- by the bounds as the declaration keeps them
pub judged_place : (ds : List Decl) (d e : Decl) → Declared ds → IsWellWritten ds d → IsKept (table_with ds d) d e → (a : Given) (r : Bool) → IsJudged ds d (get_or (params_of (slice_get (ds ++ e ∷ []) a.of)) a.place free) a.ty r
    → IsJudged ds d (bound_at ds d a) a.ty r
judged_place ds d e h w k a r j =
    let law_e = with_lawful ds e (written_kept ds d e h w k) h in
    judged_bound ds d (get_or (params_of (slice_get (ds ++ e ∷ []) a.of)) a.place free) (bound_at ds d a) a.ty r (between_before ds d e h w law_e k a.of a.place a.ty) (between_next ds d e h w law_e k a.of a.place a.ty) j
