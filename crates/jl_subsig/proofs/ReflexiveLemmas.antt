-- Every signature is below itself: each variable that stands in a row stands for itself.
use Rattle.std.proofs.Common.{◌≡◌, ◌∙◌, sym, ap, subst, refl, ℕ, zero, suc, ◌+◌, ◌<◌, ◌≤◌, arith, Bool, true, false, nat_lt, List, [], ◌∷◌, map, IsTrue, ◌⊎◌, inl, inr}
use Rattle.std.specs.List.{flat_map}
use Rattle.jl_model.specs.declared.ty.Ty.{Ty}
use Rattle.jl_model.specs.declared.ty.Ty.TheOpen.{Var}
use Rattle.jl_model.specs.declared.ty.Ty.TheViews.{out-Ty, outs-Var, rolls-Var}
use Rattle.jl_model.specs.declared.ty.Ty.TheViews as V
use Rattle.jl_model.specs.declared.ty.Ty.TheVariants as W
use Rattle.jl_model.specs.declared.ty.Ty.TheFolds.{fold-roll-Ty}
use Rattle.jl_model.specs.declared.ty.Written.{Written}
use Rattle.jl_model.specs.Kinds.{diagonal}
use Rattle.jl_model.specs.Rows.{alts, width, low, high, kind, root, atom, vars_in, Stands, Occurs, standing, bounding}
use Rattle.jl_model.specs.Subtype.{Table, Fixed, put, Below, Covered, Found, Equals, below, raise, own, under, Equal, is_concrete, concrete_step}
use Rattle.jl_model.specs.Signature.{Row, IsRow, top, fixed, is_diagonal, Meets, Meet, any, tuple, nominal, same, atom as at_atom, meet_end, meet_more, RowBelow, SigBelow}
use Rattle.jl_model.proofs.TypeInduction.{Each, by_cases}
use Rattle.jl_model.proofs.FormLemmas.{is_var, is_tuple, is_nominal, alts-var, put-any, put-union, put-tuple, put-nominal, put-var, vars-any, vars-union, vars-tuple, vars-nominal, vars-var}
use Rattle.jl_model.proofs.PutLemmas.{put-closed}
use Rattle.jl_model.proofs.SelfLemmas.{own_arguments, equal_self}
use Rattle.jl_subsume.specs.Scoped.{IsScoped}
use Rattle.jl_search.proofs.HasLemmas.{Has, has_left, has_right, has_map, has_of, of_has, has_none}
use Rattle.jl_search.proofs.PartLemmas.{Plain, plain_any, plain_tuple, plain_nominal, plain_var, AllPlain, all_end, all_more}
use Rattle.jl_search.proofs.LiftLemmas.{refl_below, found_below, alt_below, found_in, part_single, equals_self}
use Rattle.jl_subsume.proofs.ScopeLemmas.{IsSlot, slot_diagonal, slot_atom, Small, root_own, root_atom, row_plain, occurs_small, low_none, low_at, high_at, high_before, top_within, has_or}

-- whether a variable occurs in a row can be told, from the last variable to the first
module _ (s : Written) (scope : IsScoped s) (row : List Ty) (range : (v : ℕ) → Occurs s v row → v < width s) where
  abbrev Told : ℕ → Type 0
  Told v = Occurs s v row ⊎ (Occurs s v row → ⊥)

  abbrev Above : ℕ → ℕ → Type 0
  Above v m = (w : ℕ) × (w < m) × Occurs s w row × Has (vars_in (high s w)) v

  stands_or : (v : ℕ) → Stands s v row ⊎ (Stands s v row → ⊥)
  stands_or v = elim (has_or (map (root s) (flat_map vars_in row)) v) [
    | inl h ↦ inl (of_has (map (root s) (flat_map vars_in row)) v h)
    | inr f ↦ inr (λ o. f (has_of (map (root s) (flat_map vars_in row)) v o))
  ]

  next_above : (v m : ℕ) → Told m → (Has (vars_in (high s m)) v ⊎ (Has (vars_in (high s m)) v → ⊥)) → (Above v m ⊎ (Above v m → ⊥)) → Above v (suc m) ⊎ (Above v (suc m) → ⊥)
  next_above v m t h (inl a) = inl (a.0, omega (arith, a.1), a.2, a.3)
  next_above v m (inl o) (inl i) (inr f) = inl (m, omega arith, o, i)
  next_above v m (inr g) h (inr f) = inr (λ a. pick a (last m a.0 a.1))
    where
      last : (m w : ℕ) → w < suc m → (w < m) ⊎ (w ≡ m)
      last zero zero l = inr refl
      last zero (suc w) l = absurd (omega (arith, l))
      last (suc m) zero l = inl (omega arith)
      last (suc m) (suc w) l = elim (last m w (omega (arith, l))) [ inl k ↦ inl (omega (arith, k)) | inr e ↦ inr (ap suc e) ]

      pick : (a : Above v (suc m)) → (a.0 < m) ⊎ (a.0 ≡ m) → ⊥
      pick a (inl l) = f (a.0, l, a.2, a.3)
      pick a (inr e) = g (subst (λ z. Occurs s z row) e a.2)
  next_above v m (inl o) (inr h) (inr f) = inr (λ a. pick a (last m a.0 a.1))
    where
      last : (m w : ℕ) → w < suc m → (w < m) ⊎ (w ≡ m)
      last zero zero l = inr refl
      last zero (suc w) l = absurd (omega (arith, l))
      last (suc m) zero l = inl (omega arith)
      last (suc m) (suc w) l = elim (last m w (omega (arith, l))) [ inl k ↦ inl (omega (arith, k)) | inr e ↦ inr (ap suc e) ]

      pick : (a : Above v (suc m)) → (a.0 < m) ⊎ (a.0 ≡ m) → ⊥
      pick a (inl l) = f (a.0, l, a.2, a.3)
      pick a (inr e) = h (subst (λ z. Has (vars_in (high s z)) v) e a.3)

  -- those up to v do not count
  no_above : (v m : ℕ) → m ≤ v + 1 → Above v m → ⊥
  no_above v m l a = let k = high_before s scope a.0 v a.3 in let i = a.1 in absurd (omega (arith, l, k, i))

  less_or : (a b : ℕ) → (a < b) ⊎ (b ≤ a)
  less_or a b = by_test (nat_lt a b) refl
    where
      by_test : (c : Bool) → nat_lt a b ≡ c → (a < b) ⊎ (b ≤ a)
      by_test true e = inl (grind (arith, e))
      by_test false e = inr (grind (arith, e))

  -- by what is told of all later ones
  above : (v : ℕ) → ((w : ℕ) → v < w → Told w) → (m : ℕ) → Above v m ⊎ (Above v m → ⊥)
  above v k zero = inr (λ a. (let i = a.1 in absurd (omega (arith, i))))
  above v k (suc m) = elim (less_or v m) [
    | inl l ↦ next_above v m (k m l) (has_or (vars_in (high s m)) v) (above v k m)
    | inr l ↦ inr (no_above v (suc m) (omega (arith, l)))
  ]

  tell_one : (v : ℕ) → Stands s v row ⊎ (Stands s v row → ⊥) → Above v (width s) ⊎ (Above v (width s) → ⊥) → Told v
  tell_one v (inl o) a = inl (standing v row o)
  tell_one v (inr f) (inl a) = inl (bounding v a.0 row a.2 (of_has (vars_in (high s a.0)) v a.3))
  tell_one v (inr f) (inr g) = inr (λ o. none v row refl f g o)
    where
      none : (v : ℕ) (r : List Ty) → r ≡ row → (Stands s v row → ⊥) → (Above v (width s) → ⊥) → Occurs s v r → ⊥
      none v r e f g (standing x y o) = f (subst (λ z. Stands s v z) e o)
      none v r e f g (bounding x w y o c) = let i = subst (λ z. Occurs s w z) e o in g (w, range w i, i, has_of (vars_in (high s w)) v c)

  tell_from : (k v : ℕ) → width s ≤ v + k → Told v
  tell_from zero v l = inr (λ o. (let i = range v o in absurd (omega (arith, i, l))))
  tell_from (suc k) v l = tell_one v (stands_or v) (above v (λ w i. tell_from k w (omega (arith, i, l))) (width s))

  pub told : (v : ℕ) → Told v
  told v = tell_from (width s) v (omega arith)

  abbrev either : (v : ℕ) → Told v → Ty
  either v (inl o) = W.Var v
  either v (inr f) = W.Any

  -- a variable that occurs stands for itself
  pub itself : ℕ → Ty
  itself v = either v (told v)

  either_has : (v : ℕ) (t : Told v) → Occurs s v row → either v t ≡ W.Var v
  either_has v (inl o) h = refl
  either_has v (inr f) h = absurd (f h)

  pub itself_has : (v : ℕ) → Occurs s v row → itself v ≡ W.Var v
  unfolding itself
  itself_has v o = either_has v (told v) o

  either_vars : (v w : ℕ) (t : Told v) → Has (vars_in (either v t)) w → Occurs s w row
  either_vars v w (inl o) h = elim (subst (λ z. Has z w) (vars-var v) h) [ inl e ↦ subst (λ z. Occurs s z row) e o | inr b ↦ absurd b ]
  either_vars v w (inr f) h = absurd (has_none (vars_in W.Any) w vars-any h)

  pub itself_vars : (v w : ℕ) → Has (vars_in (itself v)) w → Occurs s w row
  unfolding itself
  itself_vars v w h = either_vars v w (told v) h

-- types whose variables stand for themselves stay
module _ (f : ℕ → Ty) where
  abbrev Keeps : Ty → Type 0
  Keeps t = ((v : ℕ) → Has (vars_in t) v → f v ≡ W.Var v) → put f t ≡ t

  keep_each : (ts : List Ty) → Each Keeps ts → ((v : ℕ) → Has (flat_map vars_in ts) v → f v ≡ W.Var v) → map (put f) ts ≡ ts
  keep_each [] e h = refl
  keep_each (t ∷ ts) e h =
      let p = e.0 (λ v i. h v (has_left (vars_in t) (flat_map vars_in ts) v i)) in
      let q = keep_each ts e.1 (λ v i. h v (has_right (vars_in t) (flat_map vars_in ts) v i)) in rw (p, q) refl

  pub keeps : (t : Ty) → Keeps t
  keeps = by_cases Keeps (record {
    any = λ h. put-any f;
    union = λ ts e h. put-union f ts ∙ ap (λ z. V.Union z) (keep_each ts e (λ v i. h v (subst (λ z. Has z v) (sym (vars-union ts)) i)));
    tuple = λ ts e h. put-tuple f ts ∙ ap (λ z. V.Tuple z) (keep_each ts e (λ v i. h v (subst (λ z. Has z v) (sym (vars-tuple ts)) i)));
    nominal = λ k ts e h. put-nominal f k ts ∙ ap (λ z. V.Nominal k z) (keep_each ts e (λ v i. h v (subst (λ z. Has z v) (sym (vars-nominal k ts)) i)));
    var = λ v h. put-var f v ∙ h v (subst (λ z. Has z v) (sym (vars-var v)) (inl refl));
  })

  each_keeps : (ts : List Ty) → Each Keeps ts
  each_keeps [] = tt
  each_keeps (t ∷ ts) = (keeps t, each_keeps ts)

  pub all_keep : (ts : List Ty) → ((v : ℕ) → Has (flat_map vars_in ts) v → f v ≡ W.Var v) → map (put f) ts ≡ ts
  all_keep ts h = keep_each ts (each_keeps ts) h

concrete-var : (n : Table) (g : Fixed) (v : ℕ) → is_concrete n g (W.Var v) ≡ g.sure v
concrete-var n g v = ap (is_concrete n g) (sym (rolls-Var v)) ∙ fold-roll-Ty Bool (concrete_step n g) (Var v)

module _ (n : Table) (s : Written) (scope : IsScoped s) (l : Row) (row : IsRow n s l) where
  abbrev G : Fixed
  G = fixed s l

  small : (v : ℕ) → Occurs s v l.parts → v < width s
  small v o = occurs_small s scope n l row v o

  abbrev F : ℕ → Ty
  F = itself s scope l.parts small

  abbrev Stays : ℕ → Type 0
  Stays k = F (root s k) ≡ W.Var (root s k)

  var_meets : (x : Ty) (k : ℕ) → out-Ty x ≡ Var k → IsSlot s k → Stays k → Meets n G s F x x
  var_meets x k e (slot_diagonal v i d) h =
      let a : F v ≡ W.Var v = subst (λ z. F z ≡ W.Var z) (root_own s v i) h in
      let b : F v ≡ x = a ∙ sym (is_var x v e) in
      same x x v e d (subst (λ z. Equal n x z) (sym b) (equal_self n x))
  var_meets x k e (slot_atom v i j b m) h =
      let c = root_atom s v i j in
      let w : ℕ = root s (atom s v i) in
      at_atom x x (atom s v i) e (ap (kind s) c ∙ b)
      (subst (λ z. Below n G x z) (sym h)
      (part_single n G x (W.Var w) (ap alts (is_var x (atom s v i) e) ∙ alts-var (atom s v i) ∙ ap (λ z. z ∷ []) (sym (is_var x (atom s v i) e))) (alts-var w)
      (own G x (W.Var w) (atom s v i) e (outs-Var w))))

  mutual
    meets_self : (x : Ty) → Plain (IsSlot s) (Small s scope) x → ((k : ℕ) → Has (vars_in x) k → Stays k) → Meets n G s F x x
    meets_self x (plain_any y e) h = any x x e
    meets_self x (plain_tuple y us e p) h =
        tuple x x us us e e (meet_self us p (λ k i. h k (subst (λ z. Has z k) (sym (ap vars_in (is_tuple x us e) ∙ vars-tuple us)) i)))
    meets_self x (plain_nominal y k xs e q) h =
        let c : (v : ℕ) → Has (flat_map vars_in xs) v → F v ≡ W.Var v = λ v i.
        subst (λ z. F z ≡ W.Var z) (root_own s v (q v i)) (h v (subst (λ z. Has z v) (sym (ap vars_in (is_nominal x k xs e) ∙ vars-nominal k xs)) i)) in
        nominal x x k k xs xs xs e e (own_arguments n k xs) (subst (λ z. Equals n xs z) (sym (all_keep F xs c)) (equals_self n xs))
    meets_self x (plain_var y k e d) h = var_meets x k e d (h k (subst (λ z. Has z k) (sym (ap vars_in (is_var x k e) ∙ vars-var k)) (inl refl)))

    meet_self : (us : List Ty) → AllPlain (IsSlot s) (Small s scope) us → ((k : ℕ) → Has (flat_map vars_in us) k → Stays k) → Meet n G s F us us
    meet_self us all_end h = meet_end
    meet_self us (all_more x xs p r) h =
        meet_more x x xs xs (meets_self x p (λ k i. h k (has_left (vars_in x) (flat_map vars_in xs) k i))) (meet_self xs r (λ k i. h k (has_right (vars_in x) (flat_map vars_in xs) k i)))

  occurs_itself : (v : ℕ) → Occurs s v l.parts → F v ≡ W.Var v
  occurs_itself v o = itself_has s scope l.parts small v o

  least_self : (v : ℕ) → Occurs s v l.parts → Below n G (put F (low s v)) (F v)
  least_self v o =
      let t = low s v in
      let b : Below n G t (W.Var v) = found_below n G t (W.Var v) (λ c h.
      let p : Below n G c (G.low v) = subst (λ z. Below n G c z) (sym (low_at n s l v (small v o))) (alt_below n G t c h) in
      found_in n G (alts (W.Var v)) c (W.Var v) (subst (λ z. Has z (W.Var v)) (sym (alts-var v)) (inl refl)) (under G c (W.Var v) v (outs-Var v) p)) in
      subst (λ z. Below n G z (F v)) (sym (put-closed F t (low_none s scope v))) (subst (λ z. Below n G t z) (sym (occurs_itself v o)) b)

  most_self : (v : ℕ) → Occurs s v l.parts → Below n G (F v) (put F (top s l v))
  most_self v o =
      let t = top s l v in
      let c : Below n G (G.high v) t = subst (λ z. Below n G z t) (sym (high_at n s l v (small v o))) (refl_below n G t) in
      let b : Below n G (W.Var v) t = raised t c in
      subst (λ z. Below n G (F v) z) (sym (keeps F t (λ w i. occurs_itself w (bounding w v l.parts o (of_has (vars_in (high s v)) w (top_within n s l scope row v w i)))))) (subst (λ z. Below n G z t) (sym (occurs_itself v o)) b)
    where
      covered : (a b : Ty) → Below n G a b → Covered n G (alts a) (alts b)
      covered a b (below h x y c) = c

      raised : (t : Ty) → Below n G (G.high v) t → Below n G (W.Var v) t
      raised t b = found_below n G (W.Var v) t (λ c h. elim (subst (λ z. Has z c) (alts-var v) h) [
        | inl i ↦ subst (λ z. Found n G z (alts t)) i (raise G (W.Var v) v (alts t) (outs-Var v) (covered (G.high v) t b))
        | inr i ↦ absurd i
      ])

  sure_self : (v : ℕ) → Occurs s v l.parts → kind s v ≡ diagonal → IsTrue (is_concrete n G (F v))
  sure_self v o d = ap (is_concrete n G) (occurs_itself v o) ∙ concrete-var n G v ∙ ap is_diagonal d

  row_below_self : RowBelow n s l s l
  row_below_self = (
    F,
    record { least = least_self; most = most_self; sure = sure_self },
    λ v w c. itself_vars s scope l.parts small v w (has_of (vars_in (F v)) w c),
    meet_self l.parts (row_plain s scope n l row) (λ k h. occurs_itself (root s k) (standing (root s k) l.parts (of_has (map (root s) (flat_map vars_in l.parts)) (root s k) (has_map (root s) (flat_map vars_in l.parts) k h)))),
  )

pub reflexive : (n : Table) (a : Written) → IsScoped a → SigBelow n a a
reflexive n a scope l row = (l, row, row_below_self n a scope l row)
