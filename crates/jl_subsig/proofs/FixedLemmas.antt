-- Below over fixed variables whose bounds have no variables, form by form.
use Rattle.std.proofs.Common.{◌≡◌, ◌∙◌, sym, ap, subst, refl, ℕ, Bool, false, List, [], ◌∷◌, ◌⊎◌, inl, inr}
use Rattle.jl_model.specs.declared.ty.Ty.{Ty}
use Rattle.jl_model.specs.declared.ty.Ty.TheOpen.{Ty-F, Any, Union, Tuple, Nominal, Var}
use Rattle.jl_model.specs.declared.ty.Ty.TheViews.{out-Ty, outs-Any, outs-Tuple, outs-Nominal, outs-Var}
use Rattle.jl_model.specs.declared.ty.Ty.TheViews as V
use Rattle.jl_model.specs.declared.ty.Ty.TheVariants as W
use Rattle.jl_model.specs.Rows.{alts, vars_in}
use Rattle.jl_model.specs.Signature.{Both, both_end, both_more}
use Rattle.jl_model.specs.Subtype.{Table, Fixed, opaque, put, Below, Covered, Found, Part, Parts, below, none, more, here, there, raise, any, tuple, nominal, self, own, under, parts_end, parts_more}
use Rattle.jl_model.specs.Normal.{no_union, is_single}
use Rattle.jl_model.proofs.FormLemmas.{is_any, is_tuple, is_nominal, is_var, alts-any, alts-union, alts-nominal, alts-var, vars-var}
use Rattle.jl_model.proofs.PutLemmas.{put-closed}
use Rattle.jl_model.proofs.AncestorLemmas.{Lawful}
use Rattle.jl_model.proofs.BelowLemmas.{below_any}
use Rattle.jl_types.proofs.GroundLemmas.{Tells}
use Rattle.jl_subsig.specs.Side.{IsRigid, closed, applied, Every, AnyOf}
use Rattle.jl_search.proofs.HasLemmas.{Has, has_none, has_flat, flat_has}
use Rattle.jl_subsume.proofs.ScopeLemmas.{Never, alts_closed}
use Rattle.jl_search.proofs.LiftLemmas.{lift, covered_at, found_in, below_found, found_below, single_found, found_single, alt_fine, by_alts, part_single}
use Rattle.jl_subsume.proofs.PutBelowLemmas.{Env, put_below}

-- no variable
abbrev pub Fast : Ty → Type 0
Fast t = (v : ℕ) → out-Ty t ≡ Var v → ⊥

abbrev pub Single : Ty → Type 0
Single t = alts t ≡ t ∷ []

pub tuple_fast : (xs : List Ty) → Fast (V.Tuple xs)
tuple_fast xs v e = let i : Tuple xs ≡ Var v = sym (outs-Tuple xs) ∙ e in cc

pub any_fast : Fast W.Any
any_fast v e = let i : Any ≡ Var v = sym outs-Any ∙ e in cc

fast_nominal : (t : Ty) (k : ℕ) (xs : List Ty) → out-Ty t ≡ Nominal k xs → Fast t
fast_nominal t k xs e v o = let i : Nominal k xs ≡ Var v = sym e ∙ o in cc

pub nominal_single : (t : Ty) (k : ℕ) (xs : List Ty) → out-Ty t ≡ Nominal k xs → Single t
nominal_single t k xs e = let i = is_nominal t k xs e in ap alts i ∙ alts-nominal k xs ∙ ap (λ z. z ∷ []) (sym i)

pub var_single : (t : Ty) (v : ℕ) → out-Ty t ≡ Var v → Single t
var_single t v e = let i = is_var t v e in ap alts i ∙ alts-var v ∙ ap (λ z. z ∷ []) (sym i)

pub any_single : (t : Ty) → out-Ty t ≡ Any → Single t
any_single t e = let i = is_any t e in ap alts i ∙ alts-any ∙ ap (λ z. z ∷ []) (sym i)

pub fast_closed : (t : Ty) → vars_in t ≡ [] → Fast t
fast_closed t e v o = has_none (vars_in t) v e (subst (λ z. Has z v) (sym (ap vars_in (is_var t v o) ∙ vars-var v)) (inl refl))

fast_alts : (t : Ty) → vars_in t ≡ [] → (c : Ty) → Has (alts t) c → Fast c
fast_alts t e c h = fast_closed c (alts_closed t c e h)

only_one : (us : List Ty) (u a : Ty) → us ≡ u ∷ [] → Has us a → u ≡ a
only_one us u a e h = elim (subst (λ z. Has z a) e h) [ inl i ↦ i | inr i ↦ absurd i ]

pub rigid_alts : (t : Ty) → IsRigid t → (c : Ty) → Has (alts t) c → Fast c
rigid_alts t (closed s e) c h = fast_alts t e c h
rigid_alts t (applied s k ts e) c h = subst Fast (only_one (alts t) t c (nominal_single t k ts e) h) (fast_nominal t k ts e)

module _ (n : Table) (g : Fixed) where
  abbrev pub B : Ty → Ty → Type 0
  B = Below n g

  -- what is no variable is below as a part
  pub some_part : (x : Ty) (us : List Ty) → Fast x → Found n g x us → (u : Ty) × Has us u × Part n g x u
  some_part x us f (here h t u vs p) = (u, inl refl, p)
  some_part x us f (there h t u vs q) = let r = some_part x vs f q in (r.0, inr r.1, r.2)
  some_part x us f (raise h t v vs e c) = absurd (f v e)

  pub part_of_below : (x u : Ty) → Single x → Fast x → Single u → B x u → Part n g x u
  part_of_below x u s f e b =
      let r = some_part x (alts u) f (single_found n g x u s b) in
      subst (λ z. Part n g x z) (sym (only_one (alts u) u r.0 e r.1)) r.2

  both_of_parts : (xs us : List Ty) → Parts n g xs us → Both B xs us
  both_of_parts xs us (parts_end h) = both_end
  both_of_parts xs us (parts_more h x y vs ws p r) = both_more x y vs ws p (both_of_parts vs ws r)

  parts_of_both : (xs us : List Ty) → Both B xs us → Parts n g xs us
  parts_of_both xs us both_end = parts_end g
  parts_of_both xs us (both_more x y vs ws p r) = parts_more g x y vs ws p (parts_of_both vs ws r)

  tuple_parts : (xs ys : List Ty) → Part n g (V.Tuple xs) (V.Tuple ys) → Both B xs ys
  tuple_parts xs ys (any h t u e) = let i : Tuple ys ≡ Any = sym (outs-Tuple ys) ∙ e in cc
  tuple_parts xs ys (tuple h t u vs ws d e p) =
      let i : Tuple vs ≡ Tuple xs = sym d ∙ outs-Tuple xs in
      let j : Tuple ws ≡ Tuple ys = sym e ∙ outs-Tuple ys in
      let a : vs ≡ xs = cc in
      let b : ws ≡ ys = cc in
      subst (λ z. Both B z ys) a (subst (λ z. Both B vs z) b (both_of_parts vs ws p))
  tuple_parts xs ys (nominal h t u k m vs zs ws d e l p) = let i : Tuple xs ≡ Nominal k vs = sym (outs-Tuple xs) ∙ d in cc
  tuple_parts xs ys (self h t u v d e) = let i : Tuple xs ≡ Var v = sym (outs-Tuple xs) ∙ d in cc
  tuple_parts xs ys (own h t u v d e) = let i : Tuple xs ≡ Var v = sym (outs-Tuple xs) ∙ d in cc
  tuple_parts xs ys (under h t u v e p) = let i : Tuple ys ≡ Var v = sym (outs-Tuple ys) ∙ e in cc

  -- a tuple below a tuple
  pub tuples : (xs ys : List Ty) (r : Bool) → Single (V.Tuple xs) → Single (V.Tuple ys) → Tells r (Both B xs ys) → Tells r (B (V.Tuple xs) (V.Tuple ys))
  tuples xs ys r s e t = (
    (λ h. part_single n g (V.Tuple xs) (V.Tuple ys) s e (tuple g (V.Tuple xs) (V.Tuple ys) xs ys (outs-Tuple xs) (outs-Tuple ys) (parts_of_both xs ys (t.0 h)))),
    (λ b. t.1 (tuple_parts xs ys (part_of_below (V.Tuple xs) (V.Tuple ys) s (tuple_fast xs) e b))),
  )

  part_under_tuple : (x u : Ty) (ys : List Ty) → Fast x → ((xs : List Ty) → out-Ty x ≡ Tuple xs → ⊥) → out-Ty u ≡ Tuple ys → Part n g x u → ⊥
  part_under_tuple x u ys f k o (any h t w e) = let i : Tuple ys ≡ Any = sym o ∙ e in cc
  part_under_tuple x u ys f k o (tuple h t w vs ws d e p) = k vs d
  part_under_tuple x u ys f k o (nominal h t w j m vs zs ws d e l p) = let i : Tuple ys ≡ Nominal m ws = sym o ∙ e in cc
  part_under_tuple x u ys f k o (self h t w v d e) = f v d
  part_under_tuple x u ys f k o (own h t w v d e) = f v d
  part_under_tuple x u ys f k o (under h t w v e p) = let i : Tuple ys ≡ Var v = sym o ∙ e in cc

  -- nothing else is below a tuple
  pub no_tuple : (x u : Ty) (ys : List Ty) → Single x → Fast x → ((xs : List Ty) → out-Ty x ≡ Tuple xs → ⊥) → out-Ty u ≡ Tuple ys → Single u → B x u → ⊥
  no_tuple x u ys s f k o e b = part_under_tuple x u ys f k o (part_of_below x u s f e b)

  part_tuple_nominal : (x u : Ty) (xs : List Ty) (m : ℕ) (ys : List Ty) → out-Ty x ≡ Tuple xs → out-Ty u ≡ Nominal m ys → Part n g x u → ⊥
  part_tuple_nominal x u xs m ys a o (any h t w e) = let i : Nominal m ys ≡ Any = sym o ∙ e in cc
  part_tuple_nominal x u xs m ys a o (tuple h t w vs ws d e p) = let i : Nominal m ys ≡ Tuple ws = sym o ∙ e in cc
  part_tuple_nominal x u xs m ys a o (nominal h t w j k vs zs ws d e l p) = let i : Tuple xs ≡ Nominal j vs = sym a ∙ d in cc
  part_tuple_nominal x u xs m ys a o (self h t w v d e) = let i : Tuple xs ≡ Var v = sym a ∙ d in cc
  part_tuple_nominal x u xs m ys a o (own h t w v d e) = let i : Tuple xs ≡ Var v = sym a ∙ d in cc
  part_tuple_nominal x u xs m ys a o (under h t w v e p) = let i : Nominal m ys ≡ Var v = sym o ∙ e in cc

  pub no_nominal : (xs : List Ty) (u : Ty) (m : ℕ) (ys : List Ty) → Single (V.Tuple xs) → u ≡ V.Nominal m ys → B (V.Tuple xs) u → ⊥
  no_nominal xs u m ys s e b =
      let o : out-Ty u ≡ Nominal m ys = ap out-Ty e ∙ outs-Nominal m ys in
      part_tuple_nominal (V.Tuple xs) u xs m ys (outs-Tuple xs) o (part_of_below (V.Tuple xs) u s (tuple_fast xs) (nominal_single u m ys o) b)

  -- a union on the left
  every_has : (P : Ty → Type 0) (ts : List Ty) → ((t : Ty) → Has ts t → P t) → Every P ts
  every_has P [] k = tt
  every_has P (t ∷ ts) k = (k t (inl refl), every_has P ts (λ x h. k x (inr h)))

  has_every : (P : Ty → Type 0) (ts : List Ty) → Every P ts → (t : Ty) → Has ts t → P t
  has_every P [] e t h = absurd h
  has_every P (u ∷ ts) e t (inl i) = subst P i e.0
  has_every P (u ∷ ts) e t (inr h) = has_every P ts e.1 t h

  pub unions : (ts : List Ty) (u : Ty) (r : Bool) → Tells r (Every (λ t. B t u) ts) → Tells r (B (V.Union ts) u)
  unions ts u r k = (
    (λ h. found_below n g (V.Union ts) u (λ c i.
        let q = flat_has alts ts c (subst (λ z. Has z c) (alts-union ts) i) in
        below_found n g q.0 u c (has_every (λ t. B t u) ts (k.0 h) q.0 q.1) q.2)),
    (λ b. k.1 (every_has (λ t. B t u) ts (λ t i. found_below n g t u (λ c j. below_found n g (V.Union ts) u c b (subst (λ z. Has z c) (sym (alts-union ts)) (has_flat alts ts t c i j)))))),
  )

  -- a union on the right
  any_has : (P : Ty → Type 0) (ts : List Ty) (t : Ty) → Has ts t → P t → AnyOf P ts
  any_has P [] t h p = absurd h
  any_has P (u ∷ ts) t (inl i) p = inl (subst P (sym i) p)
  any_has P (u ∷ ts) t (inr h) p = inr (any_has P ts t h p)

  has_any : (P : Ty → Type 0) (ts : List Ty) → AnyOf P ts → (t : Ty) × Has ts t × P t
  has_any P [] h = absurd h
  has_any P (u ∷ ts) (inl p) = (u, inl refl, p)
  has_any P (u ∷ ts) (inr h) = let r = has_any P ts h in (r.0, inr r.1, r.2)

  pub members : (x : Ty) (us : List Ty) (r : Bool) → Single x → Fast x → Tells r (AnyOf (λ u. B x u) us) → Tells r (B x (V.Union us))
  members x us r s f k = (
    (λ h.
        let q = has_any (λ u. B x u) us (k.0 h) in
        let p = some_part x (alts q.0) f (single_found n g x q.0 s q.2) in
        found_single n g x (V.Union us) s (found_in n g (alts (V.Union us)) x p.0 (subst (λ z. Has z p.0) (sym (alts-union us)) (has_flat alts us q.0 p.0 q.1 p.1)) p.2)),
    (λ b.
        let p = some_part x (alts (V.Union us)) f (single_found n g x (V.Union us) s b) in
        let q = flat_has alts us p.0 (subst (λ z. Has z p.0) (alts-union us) p.1) in
        k.1 (any_has (λ u. B x u) us q.0 q.1 (found_single n g x q.0 s (found_in n g (alts q.0) x p.0 q.2 p.2)))),
  )

  -- a variable on the right: what is below its lower bound
  pub low_to : (t u : Ty) (w : ℕ) → out-Ty u ≡ Var w → B t (g.low w) → B t u
  low_to t u w e b = by_alts n g t u (λ c h.
      let s = (alt_fine n g t c h).0 in
      part_single n g c u s (var_single u w e) (under g c u w e (found_single n g c (g.low w) s (below_found n g t (g.low w) c b h))))

  under_var : (c u : Ty) (w : ℕ) → Fast c → out-Ty u ≡ Var w → Part n g c u → B c (g.low w)
  under_var c u w f o (any h t x e) = let i : Var w ≡ Any = sym o ∙ e in cc
  under_var c u w f o (tuple h t x vs ws d e p) = let i : Var w ≡ Tuple ws = sym o ∙ e in cc
  under_var c u w f o (nominal h t x j m vs zs ws d e l p) = let i : Var w ≡ Nominal m ws = sym o ∙ e in cc
  under_var c u w f o (self h t x v d e) = absurd (f v d)
  under_var c u w f o (own h t x v d e) = absurd (f v d)
  under_var c u w f o (under h t x v e p) = let i : Var v ≡ Var w = sym e ∙ o in let j : v ≡ w = cc in subst (λ z. B c (g.low z)) j p

  pub to_low : (t u : Ty) (w : ℕ) → ((c : Ty) → Has (alts t) c → Fast c) → out-Ty u ≡ Var w → B t u → B t (g.low w)
  to_low t u w f e b = by_alts n g t (g.low w) (λ c h.
      let q = some_part c (alts u) (f c h) (below_found n g t u c b h) in
      under_var c u w (f c h) e (subst (λ z. Part n g c z) (sym (only_one (alts u) u q.0 (var_single u w e) q.1)) q.2))

  -- without variables the order is the plain one
  empty_env : (law : Lawful n) (f : ℕ → Ty) → Env n law f g Never
  empty_env law f = record { lows = λ w d. absurd d; highs = λ w d. absurd d; roots = λ w d. absurd d; low_dom = λ w d v h. absurd d; high_dom = λ w d v h. absurd d }

  pub closed_opaque : Lawful n → (t u : Ty) → vars_in t ≡ [] → vars_in u ≡ [] → B t u → Below n opaque t u
  closed_opaque law t u a b h =
      let f : ℕ → Ty = λ v. W.Var v in
      let p : Below n opaque (put f t) (put f u) = put_below n law f g Never (empty_env law f) t u (λ v i. has_none (vars_in t) v a i) (λ v i. has_none (vars_in u) v b i) h in
      subst (λ z. Below n opaque z u) (put-closed f t a) (subst (λ z. Below n opaque (put f t) z) (put-closed f u b) p)

  part_nominal : (x u : Ty) → Single x → Single u → Fast x → Fast u → ((xs : List Ty) → out-Ty x ≡ Tuple xs → ⊥) → Part n g x u → Below n opaque x u
  part_nominal x u s r f k q (any h t w e) = subst (λ z. Below n opaque x z) (sym (is_any u e)) (below_any n x)
  part_nominal x u s r f k q (tuple h t w vs ws d e p) = absurd (q vs d)
  part_nominal x u s r f k q (nominal h t w j m vs zs ws d e l p) = part_single n opaque x u s r (nominal opaque x u j m vs zs ws d e l p)
  part_nominal x u s r f k q (self h t w v d e) = absurd (f v d)
  part_nominal x u s r f k q (own h t w v d e) = absurd (f v d)
  part_nominal x u s r f k q (under h t w v e p) = absurd (k v e)

  nominal_opaque : (x u : Ty) (k : ℕ) (xs : List Ty) → out-Ty x ≡ Nominal k xs → vars_in u ≡ [] → B x u → Below n opaque x u
  nominal_opaque x u k xs e c b =
      let s = nominal_single x k xs e in
      let f = fast_nominal x k xs e in
      let q = some_part x (alts u) f (single_found n g x u s b) in
      let a = alt_fine n opaque u q.0 q.1 in
      let p : Below n opaque x q.0 = part_nominal x q.0 s a.0 f (fast_alts u c q.0 q.1) (λ vs d. (let i : Nominal k xs ≡ Tuple vs = sym e ∙ d in cc)) q.2 in
      let r = some_plain x (alts q.0) f (single_found n opaque x q.0 s p) in
      found_single n opaque x u s (found_in n opaque (alts u) x q.0 q.1 (subst (λ z. Part n opaque x z) (sym (only_one (alts q.0) q.0 r.0 a.0 r.1)) r.2))
    where
      some_plain : (x : Ty) (us : List Ty) → Fast x → Found n opaque x us → (u : Ty) × Has us u × Part n opaque x u
      some_plain x us f (here h t u vs p) = (u, inl refl, p)
      some_plain x us f (there h t u vs q) = let r = some_plain x vs f q in (r.0, inr r.1, r.2)
      some_plain x us f (raise h t v vs e c) = absurd (f v e)

  pub rigid_opaque : Lawful n → (t u : Ty) → IsRigid t → vars_in u ≡ [] → B t u → Below n opaque t u
  rigid_opaque law t u (closed s e) c b = closed_opaque law t u e c b
  rigid_opaque law t u (applied s k ts e) c b = nominal_opaque t u k ts e c b

  -- below a nominal type
  under_nominal : (c u : Ty) (m : ℕ) (ys : List Ty) → Single c → Fast c → out-Ty u ≡ Nominal m ys → Part n g c u → Below n opaque c u
  under_nominal c u m ys s f o (any h t w e) = let i : Nominal m ys ≡ Any = sym o ∙ e in cc
  under_nominal c u m ys s f o (tuple h t w vs ws d e p) = let i : Nominal m ys ≡ Tuple ws = sym o ∙ e in cc
  under_nominal c u m ys s f o (nominal h t w j i vs zs ws d e l p) = part_single n opaque c u s (nominal_single u m ys o) (nominal opaque c u j i vs zs ws d e l p)
  under_nominal c u m ys s f o (self h t w v d e) = absurd (f v d)
  under_nominal c u m ys s f o (own h t w v d e) = absurd (f v d)
  under_nominal c u m ys s f o (under h t w v e p) = let i : Nominal m ys ≡ Var v = sym o ∙ e in cc

  rigid_nominal : (t u : Ty) (m : ℕ) (ys : List Ty) → IsRigid t → out-Ty u ≡ Nominal m ys → B t u → Below n opaque t u
  rigid_nominal t u m ys r o b = by_alts n opaque t u (λ c h.
      let f = rigid_alts t r c h in
      let q = some_part c (alts u) f (below_found n g t u c b h) in
      under_nominal c u m ys (alt_fine n opaque t c h).0 f o (subst (λ z. Part n g c z) (sym (only_one (alts u) u q.0 (nominal_single u m ys o) q.1)) q.2))

  -- neither a variable nor a tuple on the right
  pub rigid_same : Lawful n → (t u : Ty) (r : Bool) → IsRigid t → (is_single u ≡ false → vars_in u ≡ []) → ((v : ℕ) → u ≡ W.Var v → ⊥) → ((ys : List Ty) → u ≡ V.Tuple ys → ⊥)
      → Tells r (Below n opaque t u) → Tells r (B t u)
  rigid_same law t u r rigid whole no_var no_tup k = ((λ h. lift n g t u (k.0 h)), (λ b. k.1 (by_form (out-Ty u) refl b)))
    where
      by_form : (x : Ty-F Ty) → out-Ty u ≡ x → B t u → Below n opaque t u
      by_form Any e b = subst (λ z. Below n opaque t z) (sym (is_any u e)) (below_any n t)
      by_form (Union us) e b = rigid_opaque law t u rigid (whole (ap no_union e)) b
      by_form (Tuple us) e b = absurd (no_tup us (is_tuple u us e))
      by_form (Nominal m ys) e b = rigid_nominal t u m ys rigid e b
      by_form (Var v) e b = absurd (no_var v (is_var u v e))

  -- a variable on the left
  covered_of : (t u : Ty) → B t u → Covered n g (alts t) (alts u)
  covered_of t u (below h x y c) = c

  raise_to : (v : ℕ) (u : Ty) → B (g.high v) u → B (W.Var v) u
  raise_to v u b = found_single n g (W.Var v) u (alts-var v) (raise g (W.Var v) v (alts u) (outs-Var v) (covered_of (g.high v) u b))

  abbrev pub Own : ℕ → Ty → Type 0
  Own v u = (u ≡ W.Var v) ⊎ (u ≡ W.Var (g.root v))

  own_below : (v : ℕ) (u : Ty) → Own v u → B (W.Var v) u
  own_below v u (inl e) = part_single n g (W.Var v) u (alts-var v) (var_single u v (ap out-Ty e ∙ outs-Var v)) (self g (W.Var v) u v (outs-Var v) (ap out-Ty e ∙ outs-Var v))
  own_below v u (inr e) =
      let o : out-Ty u ≡ Var (g.root v) = ap out-Ty e ∙ outs-Var (g.root v) in
      part_single n g (W.Var v) u (alts-var v) (var_single u (g.root v) o) (own g (W.Var v) u v (outs-Var v) o)

  -- below as a part, or through the upper bound
  weaker : (ts us : List Ty) (u : Ty) → Covered n g ts us → Covered n g ts (u ∷ us)
  weaker ts us u c = covers ts (λ x i. there g x u us (covered_at n g ts us x c i))
    where
      covers : (ts : List Ty) → ((x : Ty) → Has ts x → Found n g x (u ∷ us)) → Covered n g ts (u ∷ us)
      covers [] f = none g (u ∷ us)
      covers (t ∷ ts) f = more g t ts (u ∷ us) (f t (inl refl)) (covers ts (λ x h. f x (inr h)))

  pub ways : (x : Ty) (us : List Ty) → Found n g x us → ((u : Ty) × Has us u × Part n g x u) ⊎ ((k : ℕ) × (out-Ty x ≡ Var k) × Covered n g (alts (g.high k)) us)
  ways x us (here h t u vs p) = inl (u, inl refl, p)
  ways x us (there h t u vs f) = elim (ways x vs f) [
    | inl r ↦ inl (r.0, inr r.1, r.2)
    | inr r ↦ inr (r.0, r.1, weaker (alts (g.high r.0)) vs u r.2)
  ]
  ways x us (raise h t v vs e c) = inr (v, e, c)

  raised : (v : ℕ) (u : Ty) (us : List Ty) → alts u ≡ us → (k : ℕ) → out-Ty (W.Var v) ≡ Var k → Covered n g (alts (g.high k)) us → B (g.high v) u
  raised v u us e k o c =
      let i : Var v ≡ Var k = sym (outs-Var v) ∙ o in
      let j : k ≡ v = cc in
      below g (g.high v) u (subst (λ z. Covered n g (alts (g.high z)) (alts u)) j (subst (λ z. Covered n g (alts (g.high k)) z) (sym e) c))

  -- below a type without variables: through the upper bound
  part_closed : (v : ℕ) (a u : Ty) → Fast a → Part n g (W.Var v) a → out-Ty a ≡ Any
  part_closed v a u f (any h t w e) = e
  part_closed v a u f (tuple h t w vs ws d e p) = let i : Var v ≡ Tuple vs = sym (outs-Var v) ∙ d in cc
  part_closed v a u f (nominal h t w j m vs zs ws d e l p) = let i : Var v ≡ Nominal j vs = sym (outs-Var v) ∙ d in cc
  part_closed v a u f (self h t w x d e) = absurd (f x e)
  part_closed v a u f (own h t w x d e) = absurd (f (g.root x) e)
  part_closed v a u f (under h t w x e p) = absurd (f x e)

  any_in : (t u a : Ty) → Has (alts u) a → out-Ty a ≡ Any → B t u
  any_in t u a h e = found_below n g t u (λ c i. found_in n g (alts u) c a h (any g c a e))

  pub high_closed : (v : ℕ) (u : Ty) → vars_in u ≡ [] → B (W.Var v) u → B (g.high v) u
  high_closed v u e b = elim (ways (W.Var v) (alts u) (single_found n g (W.Var v) u (alts-var v) b)) [
    | inl r ↦ any_in (g.high v) u r.0 r.1 (part_closed v r.0 u (fast_alts u e r.0 r.1) r.2)
    | inr r ↦ raised v u (alts u) refl r.0 r.1 r.2
  ]

  part_single_var : (low_none : (k : ℕ) → vars_in (g.low k) ≡ []) → (v : ℕ) (u : Ty) → Single u → Part n g (W.Var v) u → Own v u ⊎ B (g.high v) u
  part_single_var low_none v u s (any h t w e) = inr (any_in (g.high v) u u (subst (λ z. Has z u) (sym s) (inl refl)) e)
  part_single_var low_none v u s (tuple h t w vs ws d e p) = let i : Var v ≡ Tuple vs = sym (outs-Var v) ∙ d in cc
  part_single_var low_none v u s (nominal h t w j m vs zs ws d e l p) = let i : Var v ≡ Nominal j vs = sym (outs-Var v) ∙ d in cc
  part_single_var low_none v u s (self h t w x d e) =
      let i : Var v ≡ Var x = sym (outs-Var v) ∙ d in
      let j : x ≡ v = cc in
      inl (inl (is_var u x e ∙ ap (λ (z : ℕ). W.Var z) j))
  part_single_var low_none v u s (own h t w x d e) =
      let i : Var v ≡ Var x = sym (outs-Var v) ∙ d in
      let j : x ≡ v = cc in
      inl (inr (is_var u (g.root x) e ∙ ap (λ (z : ℕ). W.Var (g.root z)) j))
  part_single_var low_none v u s (under h t w x e p) = inr (low_to (g.high v) u x e (high_closed v (g.low x) (low_none x) p))

  pub variables : (low_none : (k : ℕ) → vars_in (g.low k) ≡ []) → (v : ℕ) (u : Ty) → (Single u ⊎ (vars_in u ≡ [])) → B (W.Var v) u → Own v u ⊎ B (g.high v) u
  variables low_none v u (inr e) b = inr (high_closed v u e b)
  variables low_none v u (inl s) b = elim (ways (W.Var v) (alts u) (single_found n g (W.Var v) u (alts-var v) b)) [
    | inl r ↦ part_single_var low_none v u s (subst (λ z. Part n g (W.Var v) z) (sym (only_one (alts u) u r.0 s r.1)) r.2)
    | inr r ↦ inr (raised v u (alts u) refl r.0 r.1 r.2)
  ]

  pub to_variable : (v : ℕ) (u : Ty) → Own v u ⊎ B (g.high v) u → B (W.Var v) u
  to_variable v u (inl o) = own_below v u o
  to_variable v u (inr b) = raise_to v u b
