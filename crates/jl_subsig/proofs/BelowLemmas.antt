-- The steps of the comparison over fixed variables.
use Rattle.std.proofs.Common.{◌≡◌, ◌∙◌, sym, ap, subst, refl, ℕ, zero, suc, ◌<◌, ◌≤◌, arith, Bool, true, false, nat_lt, List, [], ◌∷◌, length, get_or, ◌⊎◌, inl, inr}
use Rattle.std.specs.List.{flat_map, list_all}
use Rattle.jl_model.specs.declared.ty.Ty.{Ty}
use Rattle.jl_model.specs.declared.ty.Ty.TheOpen.{Ty-F, Any, Union, Tuple, Nominal, Var}
use Rattle.jl_model.specs.declared.ty.Ty.TheViews.{out-Ty, outs-Any, outs-Union, outs-Tuple, outs-Nominal, outs-Var}
use Rattle.jl_model.specs.declared.ty.Ty.TheViews as V
use Rattle.jl_model.specs.declared.ty.Ty.TheVariants as W
use Rattle.jl_model.specs.declared.ty.Decl.{Decl}
use Rattle.jl_model.specs.Ancestors.{table_of}
use Rattle.jl_model.specs.Rows.{alts, width, low, root, vars_in}
use Rattle.jl_model.specs.Signature.{Both}
use Rattle.jl_model.specs.Subtype.{Table, Fixed, opaque, Below}
use Rattle.jl_model.specs.Normal.{no_union, is_single, tuple as normal_tuple}
use Rattle.jl_model.specs.Refusals.{Declared}
use Rattle.jl_model.proofs.FormLemmas.{is_any, is_union, is_tuple, is_var, vars-any, vars-union, vars-tuple}
use Rattle.jl_model.proofs.AncestorLemmas.{Lawful}
use Rattle.jl_model.proofs.BelowLemmas.{below_any}
use Rattle.jl_model.proofs.NormalLemmas.{single_alts}
use Rattle.jl_model.proofs.DeclaredLemmas.{declared_lawful}
use Rattle.jl_types.specs.Ground.{IsGround, AreSingles}
use Rattle.jl_types.proofs.GroundLemmas.{Tells, all-at, ground-at, union_singles, tuple_singles}
use Rattle.jl_sig.specs.declared.row.SigRow.{SigRow}
use Rattle.jl_sig.specs.declared.sig.Sig.{Sig}
use Rattle.jl_sig.specs.SigParts.{kept_of, bounded_of}
use Rattle.jl_subsig.specs.Side.{held, tops, IsItem, ArePlain, IsRigid, closed, applied, IsHigh, AreHeld, Every, AnyOf}
use Rattle.jl_search.specs.Serving.{IsPlain}
use Rattle.jl_search.proofs.HasLemmas.{Has, has_left, has_right, none_has, has_none}
use Rattle.jl_search.proofs.LiftLemmas.{lift}
use Rattle.jl_subsig.proofs.OrderLemmas.{before, after}
use Rattle.jl_subsig.proofs.HighLemmas.{form_high, form_equal}
use Rattle.jl_subsig.proofs.HeldLemmas as H
use Rattle.jl_subsig.proofs.FixedLemmas as F

-- what is compared
pub item_ground : (ds : List Decl) (t : Ty) → IsItem ds t → IsGround ds t
item_ground ds t h = record { normal = h.normal; known = h.known }

pub plain_ground : (ds : List Decl) (t : Ty) → IsPlain ds t → IsGround ds t
plain_ground ds t h = record { normal = h.normal; known = h.known }

pub plain_item : (ds : List Decl) (t : Ty) → IsPlain ds t → IsItem ds t
plain_item ds t h = record { normal = h.normal; known = h.known; whole = λ e. h.closed }

pub plain_rigid : (ds : List Decl) (t : Ty) → IsPlain ds t → IsRigid t
plain_rigid ds t h = closed t h.closed

-- one of a list
closed-at : (ts : List Ty) (i : ℕ) (t : Ty) → flat_map vars_in ts ≡ [] → i < length ts → t ≡ get_or ts i t → vars_in t ≡ []
closed-at [] i t h l e = absurd (omega arith)
closed-at (x ∷ xs) zero t h l e = none_has (vars_in t) (λ v j. has_none (flat_map vars_in (x ∷ xs)) v h (has_left (vars_in x) (flat_map vars_in xs) v (subst (λ z. Has (vars_in z) v) e j)))
closed-at (x ∷ xs) (suc i) t h l e = closed-at xs i t (none_has (flat_map vars_in xs) (λ v j. has_none (flat_map vars_in (x ∷ xs)) v h (has_right (vars_in x) (flat_map vars_in xs) v j))) (omega arith) e

pub single-at : (ts : List Ty) (i : ℕ) (t : Ty) → list_all is_single ts ≡ true → i < length ts → t ≡ get_or ts i t → is_single t ≡ true
single-at ts i t h l e = all-at is_single ts i t h l e

pub plain-at : (ds : List Decl) (ts : List Ty) (i : ℕ) (t : Ty) → ArePlain ds ts → i < length ts → t ≡ get_or ts i t → IsPlain ds t
plain-at ds ts i t h l e = let g = ground-at ds ts i t h.singles l e in record { normal = g.normal; known = g.known; closed = closed-at ts i t h.closed l e }

pub item-at : (ds : List Decl) (ts : List Ty) (i : ℕ) (t : Ty) → AreSingles ds ts → i < length ts → t ≡ get_or ts i t → IsItem ds t
item-at ds ts i t h l e =
    let g = ground-at ds ts i t h l e in
    let s = single-at ts i t h.single l e in
    record { normal = g.normal; known = g.known; whole = λ f. (let c : true ≡ false = sym s ∙ f in cc) }

-- the members of a union and the parts of a tuple
pub union_plain : (ds : List Decl) (u : Ty) (us vs : List Ty) → u ≡ V.Union us → vs ≡ us → IsItem ds u → ArePlain ds vs
union_plain ds u us vs e f h =
    let c : vars_in u ≡ [] = h.whole (ap no_union (ap out-Ty e ∙ outs-Union us)) in
    record { singles = union_singles ds u us vs e f (item_ground ds u h); closed = ap (flat_map vars_in) f ∙ sym (ap vars_in e ∙ vars-union us) ∙ c }

rigid_tuple : (t : Ty) (xs : List Ty) → t ≡ V.Tuple xs → IsRigid t → vars_in t ≡ []
rigid_tuple t xs e (closed s c) = c
rigid_tuple t xs e (applied s k ts o) = let i : Nominal k ts ≡ Tuple xs = sym o ∙ ap out-Ty e ∙ outs-Tuple xs in cc

pub tuple_plain : (ds : List Decl) (u : Ty) (us vs : List Ty) → u ≡ V.Tuple us → vs ≡ us → IsItem ds u → IsRigid u → ArePlain ds vs
tuple_plain ds u us vs e f h g =
    record { singles = tuple_singles ds u us vs e f (item_ground ds u h); closed = ap (flat_map vars_in) f ∙ sym (ap vars_in e ∙ vars-tuple us) ∙ rigid_tuple u us e g }

pub tuple_items : (ds : List Decl) (u : Ty) (us vs : List Ty) → u ≡ V.Tuple us → vs ≡ us → IsItem ds u → AreSingles ds vs
tuple_items ds u us vs e f h = tuple_singles ds u us vs e f (item_ground ds u h)

no_union_of : (t : Ty) (x : Ty-F Ty) → out-Ty t ≡ x → ((ts : List Ty) → t ≡ V.Union ts → ⊥) → is_single t ≡ true
no_union_of t Any e f = ap no_union e
no_union_of t (Union ts) e f = absurd (f ts (is_union t ts e))
no_union_of t (Tuple ts) e f = ap no_union e
no_union_of t (Nominal k ts) e f = ap no_union e
no_union_of t (Var v) e f = ap no_union e

pub tuple_single : (ds : List Decl) (xs : List Ty) → AreSingles ds xs → F.Single (V.Tuple xs)
tuple_single ds xs h = single_alts (table_of ds) (V.Tuple xs) (normal_tuple (V.Tuple xs) xs (outs-Tuple xs) h.normal h.single) (ap no_union (outs-Tuple xs))

pub other_rigid : (ds : List Decl) (t : Ty) → IsItem ds t → ((v : ℕ) → t ≡ W.Var v → ⊥) → ((ts : List Ty) → t ≡ V.Tuple ts → ⊥) → IsRigid t
other_rigid ds t h f g = by_form (out-Ty t) refl
  where
    by_form : (x : Ty-F Ty) → out-Ty t ≡ x → IsRigid t
    by_form Any e = closed t (ap vars_in (is_any t e) ∙ vars-any)
    by_form (Union ts) e = closed t (h.whole (ap no_union e))
    by_form (Tuple ts) e = absurd (g ts (is_tuple t ts e))
    by_form (Nominal k ts) e = applied t k ts e
    by_form (Var v) e = absurd (f v (is_var t v e))

rigid_fast : (t : Ty) → IsRigid t → F.Fast t
rigid_fast t (closed s e) = F.fast_closed t e
rigid_fast t (applied s k ts e) = λ v o. (let i : Nominal k ts ≡ Var v = sym e ∙ o in cc)

single_or_closed : (ds : List Decl) (u : Ty) → IsItem ds u → F.Single u ⊎ (vars_in u ≡ [])
single_or_closed ds u h = by_test (is_single u) refl
  where
    by_test : (b : Bool) → is_single u ≡ b → F.Single u ⊎ (vars_in u ≡ [])
    by_test true e = inl (single_alts (table_of ds) u h.normal e)
    by_test false e = inr (h.whole e)

module _ (ds : List Decl) (declared : Declared ds) (s : Sig) (r : SigRow) (h : AreHeld ds s r) where
  abbrev n : Table
  n = table_of ds

  abbrev G : Fixed
  G = held s r

  abbrev law : Lawful (table_of ds)
  law = declared_lawful ds declared

  abbrev B : Ty → Ty → Type 0
  B = Below (table_of ds) (held s r)

  past : (k : ℕ) → length (bounded_of s).vars ≤ k → nat_lt k (width (kept_of s)) ≡ false
  past k l = let w = h.wide in let j : width (kept_of s) ≤ k = omega (arith, l, w) in grind (arith, j)

  before_end : (k : ℕ) → k < length (bounded_of s).vars → k < width (kept_of s)
  before_end k l = let w = h.wide in omega (arith, l, w)

  -- the lower bound of a variable
  low_there : (t : Ty) (k : ℕ) → k < length (bounded_of s).vars → B t (low (bounded_of s) k) → B t (W.Var k)
  low_there t k l b =
      let i = before_end k l in
      let f = h.lows k i in
      F.low_to n G t (W.Var k) k (outs-Var k) (subst (λ z. B t z) (sym (H.low_at ds s r h k i)) (after n law G t (low (bounded_of s) k) (low (kept_of s) k) b f.equal.1))

  low_back : (t : Ty) (k : ℕ) → k < length (bounded_of s).vars → ((c : Ty) → Has (alts t) c → F.Fast c) → B t (W.Var k) → B t (low (bounded_of s) k)
  low_back t k l q b =
      let i = before_end k l in
      let f = h.lows k i in
      after n law G t (low (kept_of s) k) (low (bounded_of s) k) (subst (λ z. B t z) (H.low_at ds s r h k i) (F.to_low n G t (W.Var k) k q (outs-Var k) b)) f.equal.0

  pub low_plain : (u : Ty) (k : ℕ) → k < length (bounded_of s).vars → u ≡ low (bounded_of s) k → IsPlain ds u
  low_plain u k l e = subst (IsPlain ds) (sym e) (h.lows k (before_end k l)).plain

  pub low_step : (t u : Ty) (k : ℕ) (x : Bool) → IsRigid t → k < length (bounded_of s).vars → u ≡ low (bounded_of s) k → Tells x (Below n opaque t u) → Tells x (B t (W.Var k))
  low_step t u k x g l e a =
      let c = low_plain u k l e in (
        (λ y. low_there t k l (subst (λ z. B t z) e (lift n G t u (a.0 y)))),
        (λ b. a.1 (F.rigid_opaque n G law t u g c.closed (subst (λ z. B t z) (sym e) (low_back t k l (F.rigid_alts t g) b)))),
      )

  pub no_low_step : (t : Ty) (us : List Ty) (k : ℕ) (x : Bool) → IsRigid t → length (bounded_of s).vars ≤ k → us ≡ [] → Tells x (Below n opaque t (V.Union us)) → Tells x (B t (W.Var k))
  no_low_step t us k x g l e a =
      let p : G.low k ≡ V.Union us = H.low_past ds s r h k (past k l) ∙ ap (λ z. V.Union z) (sym e) in
      let c : vars_in (V.Union us) ≡ [] = vars-union us ∙ ap (flat_map vars_in) e in (
        (λ y. F.low_to n G t (W.Var k) k (outs-Var k) (subst (λ z. B t z) (sym p) (lift n G t (V.Union us) (a.0 y)))),
        (λ b. a.1 (F.rigid_opaque n G law t (V.Union us) g c (subst (λ z. B t z) p (F.to_low n G t (W.Var k) k (F.rigid_alts t g) (outs-Var k) b)))),
      )

  -- without variables at covariant places
  pub var_step : (t u : Ty) (k : ℕ) (x : Bool) → u ≡ W.Var k → Tells x (B t (W.Var k)) → Tells x (B t u)
  var_step t u k x e a = subst (λ z. Tells x (B t z)) (sym e) a

  pub union_step : (t u : Ty) (ts vs : List Ty) (x : Bool) → t ≡ V.Union ts → vs ≡ ts → Tells x (Every (λ z. B z u) vs) → Tells x (B t u)
  union_step t u ts vs x e f a = subst (λ z. Tells x (B z u)) (sym e) (F.unions n G ts u x (subst (λ y. Tells x (Every (λ z. B z u) y)) f a))

  pub tuple_step : (t u : Ty) (xs ys vs ws : List Ty) (x : Bool) → t ≡ V.Tuple xs → u ≡ V.Tuple ys → vs ≡ xs → ws ≡ ys → AreSingles ds vs → AreSingles ds ws → Tells x (Both B vs ws) → Tells x (B t u)
  tuple_step t u xs ys vs ws x d e p q a b c =
      let k = F.tuples n G vs ws x (tuple_single ds vs a) (tuple_single ds ws b) c in
      let y : V.Tuple vs ≡ t = ap (λ z. V.Tuple z) p ∙ sym d in
      let z : V.Tuple ws ≡ u = ap (λ z. V.Tuple z) q ∙ sym e in
      subst (λ m. Tells x (B t m)) z (subst (λ m. Tells x (B m (V.Tuple ws))) y k)

  pub no_tuple_step : (t u : Ty) (ys : List Ty) → IsItem ds t → IsRigid t → u ≡ V.Tuple ys → IsItem ds u → ((ts : List Ty) → t ≡ V.Union ts → ⊥) → ((ts : List Ty) → t ≡ V.Tuple ts → ⊥) → Tells false (B t u)
  no_tuple_step t u ys g k e i f q =
      let o : out-Ty u ≡ Tuple ys = ap out-Ty e ∙ outs-Tuple ys in (
        (λ y. let c : false ≡ true = y in cc),
        (λ b. absurd (F.no_tuple n G t u ys (single_alts n t g.normal (no_union_of t (out-Ty t) refl f)) (rigid_fast t k) (λ xs d. q xs (is_tuple t xs d)) o (single_alts n u i.normal (ap no_union o)) b)),
      )

  pub default_step : (t u : Ty) (x : Bool) → IsRigid t → IsItem ds u → ((v : ℕ) → u ≡ W.Var v → ⊥) → ((ys : List Ty) → u ≡ V.Tuple ys → ⊥) → Tells x (Below n opaque t u) → Tells x (B t u)
  default_step t u x g i f q a = F.rigid_same n G law t u x g i.whole f q a

  -- a variable on the left
  pub own_step : (k : ℕ) (u : Ty) (x : Bool) → x ≡ true → Tells x ((u ≡ W.Var k) ⊎ (u ≡ W.Var (root (kept_of s) k))) → Tells true (B (W.Var k) u)
  own_step k u x e a = ((λ y. F.to_variable n G k u (inl (a.0 e))), (λ b. refl))

  pub high_step : (k : ℕ) (u t : Ty) (x y : Bool) → x ≡ false → IsItem ds u → Tells x ((u ≡ W.Var k) ⊎ (u ≡ W.Var (root (kept_of s) k))) → tops (bounded_of s).vars s r k ≡ t → Tells y (B t u) → Tells y (B (W.Var k) u)
  high_step k u t x y e i o f a =
      let q = subst (λ z. Below n opaque (G.high k) z × Below n opaque z (G.high k)) f (form_equal ds (G.high k) (tops (bounded_of s).vars s r k) (H.top_form ds s r h k)) in (
        (λ w. F.to_variable n G k u (inr (before n law G (G.high k) t u q.0 (a.0 w)))),
        (λ b. elim (F.variables n G (H.low_none ds s r h) k u (single_or_closed ds u i) b) [
          | inl w ↦ let c : true ≡ false = sym (o.1 w) ∙ e in cc
          | inr w ↦ a.1 (before n law G t (G.high k) u q.1 w)
        ]),
      )

  pub high_at : (k : ℕ) (t : Ty) → tops (bounded_of s).vars s r k ≡ t → IsHigh ds t
  high_at k t e = subst (IsHigh ds) e (form_high ds (G.high k) (tops (bounded_of s).vars s r k) (H.top_form ds s r h k))

  -- tuples
  module _ (xs : List Ty) (singles : AreSingles ds xs) where
    abbrev T : Ty
    T = V.Tuple xs

    pub tuple_any : (u : Ty) → u ≡ W.Any → Tells true (B (V.Tuple xs) u)
    tuple_any u e = ((λ y. subst (λ z. B (V.Tuple xs) z) (sym e) (lift n G (V.Tuple xs) W.Any (below_any n (V.Tuple xs)))), (λ b. refl))

    pub tuple_union : (u : Ty) (us vs : List Ty) (x : Bool) → u ≡ V.Union us → vs ≡ us → Tells x (AnyOf (λ z. B (V.Tuple xs) z) vs) → Tells x (B (V.Tuple xs) u)
    tuple_union u us vs x e f a =
        subst (λ z. Tells x (B (V.Tuple xs) z)) (sym e) (F.members n G (V.Tuple xs) us x (tuple_single ds xs singles) (F.tuple_fast xs) (subst (λ y. Tells x (AnyOf (λ z. B (V.Tuple xs) z) y)) f a))

    pub tuple_tuple : (u : Ty) (us vs : List Ty) (x : Bool) → u ≡ V.Tuple us → vs ≡ us → AreSingles ds vs → Tells x (Both B xs vs) → Tells x (B (V.Tuple xs) u)
    tuple_tuple u us vs x e f g a =
        let y : V.Tuple vs ≡ u = ap (λ z. V.Tuple z) f ∙ sym e in
        subst (λ z. Tells x (B (V.Tuple xs) z)) y (F.tuples n G xs vs x (tuple_single ds xs singles) (tuple_single ds vs g) a)

    pub tuple_nominal : (u : Ty) (k : ℕ) (us : List Ty) → u ≡ V.Nominal k us → Tells false (B (V.Tuple xs) u)
    tuple_nominal u k us e = ((λ y. let c : false ≡ true = y in cc), (λ b. absurd (F.no_nominal n G xs u k us (tuple_single ds xs singles) e b)))

    tuple_alts : (c : Ty) → Has (alts (V.Tuple xs)) c → F.Fast c
    tuple_alts c i = elim (subst (λ z. Has z c) (tuple_single ds xs singles) i) [ inl e ↦ subst F.Fast e (F.tuple_fast xs) | inr b ↦ absurd b ]

    pub tuple_low : (u l : Ty) (k : ℕ) (x : Bool) → u ≡ W.Var k → k < length (bounded_of s).vars → l ≡ low (bounded_of s) k → Tells x (B (V.Tuple xs) l) → Tells x (B (V.Tuple xs) u)
    tuple_low u l k x e i f a =
        subst (λ z. Tells x (B (V.Tuple xs) z)) (sym e)
        ((λ y. low_there (V.Tuple xs) k i (subst (λ z. B (V.Tuple xs) z) f (a.0 y))), (λ b. a.1 (subst (λ z. B (V.Tuple xs) z) (sym f) (low_back (V.Tuple xs) k i tuple_alts b))))

    pub tuple_no_low : (u : Ty) (k : ℕ) → u ≡ W.Var k → length (bounded_of s).vars ≤ k → Tells false (B (V.Tuple xs) u)
    tuple_no_low u k e l = (
      (λ y. let c : false ≡ true = y in cc),
      (λ b.
          let d : B (V.Tuple xs) (V.Union []) = subst (λ z. B (V.Tuple xs) z) (H.low_past ds s r h k (past k l)) (F.to_low n G (V.Tuple xs) (W.Var k) k tuple_alts (outs-Var k) (subst (λ z. B (V.Tuple xs) z) e b)) in
          (F.members n G (V.Tuple xs) [] false (tuple_single ds xs singles) (F.tuple_fast xs) ((λ y. let c : false ≡ true = y in cc), (λ a. absurd a))).1 d),
    )

-- a variable or a tuple on the left
pub variable_case : (ds : List Decl) (s : Sig) (r : SigRow) (t u : Ty) (k : ℕ) (x : Bool) → t ≡ W.Var k → Tells x (Below (table_of ds) (held s r) (W.Var k) u) → Tells x (Below (table_of ds) (held s r) t u)
variable_case ds s r t u k x e a = subst (λ z. Tells x (Below (table_of ds) (held s r) z u)) (sym e) a

pub tuple_case : (ds : List Decl) (s : Sig) (r : SigRow) (t u : Ty) (xs vs : List Ty) (x : Bool) → t ≡ V.Tuple xs → vs ≡ xs → Tells x (Below (table_of ds) (held s r) (V.Tuple vs) u) → Tells x (Below (table_of ds) (held s r) t u)
tuple_case ds s r t u xs vs x e f a = subst (λ z. Tells x (Below (table_of ds) (held s r) z u)) (ap (λ z. V.Tuple z) f ∙ sym e) a
