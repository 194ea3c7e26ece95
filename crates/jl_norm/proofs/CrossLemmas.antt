-- Bounds that are crossed, as written and as kept.
use Rattle.std.proofs.Common.{◌≡◌, sym, subst, refl, ℕ, zero, suc, ◌+◌, ◌<◌, arith, add-one, true, ◌&&◌, List, [], ◌∷◌, length, drop, get_or}
use Rattle.std.specs.List.{list_all, Contains}
use Rattle.jl_model.specs.declared.ty.Ty.{Ty}
use Rattle.jl_model.specs.declared.ty.Bound.{Bound}
use Rattle.jl_model.specs.declared.ty.Decl.{Decl}
use Rattle.jl_model.specs.Ancestors.{table_of}
use Rattle.jl_model.specs.Subtype.{Table, opaque, Below}
use Rattle.jl_model.specs.Valid.{is_known}
use Rattle.jl_model.specs.Kept.{Bounds, bounds_end, bounds_more}
use Rattle.jl_model.specs.Refusals.{Declared, table_with, bound_types, BoundsCrossed}
use Rattle.jl_model.proofs.PutLemmas.{and_l, and_r}
use Rattle.jl_model.proofs.AncestorLemmas.{Lawful}
use Rattle.jl_model.proofs.TransLemmas.{below_trans}
use Rattle.jl_model.proofs.KnownLemmas.{agree_back, below_move}
use Rattle.jl_model.proofs.FillLemmas.{declared_agree}
use Rattle.jl_types.specs.Ground.{IsGround}
use Rattle.jl_norm.specs.Refused.{IsWellWritten}
use Rattle.jl_norm.proofs.PartLemmas.{form_known, form_down}
use Rattle.jl_norm.proofs.KeepLemmas.{with_lawful, bounds_are_known}

-- the low bound of one is not below its high bound
abbrev pub Crossed : Table → List Bound → Type 0
Crossed n bs = (b : Bound) × Contains bs b × (Below n opaque b.low b.high → ⊥)

pub crossed_none : (n : Table) → Crossed n [] → ⊥
crossed_none n c = omega (arith, c.1.1)

crossed_cons : (n : Table) (b : Bound) (bs : List Bound) → Crossed n bs → Crossed n (b ∷ bs)
crossed_cons n b bs c = (c.0, (suc c.1.0, omega (arith, c.1.1), c.1.2), c.2)

crossed_first : (n : Table) (b : Bound) (bs : List Bound) → (Below n opaque b.low b.high → ⊥) → Crossed n (b ∷ bs)
crossed_first n b bs c = (b, (zero, omega arith, refl), c)

crossed_rest : (n : Table) (b : Bound) (bs : List Bound) → Below n opaque b.low b.high → Crossed n (b ∷ bs) → Crossed n bs
crossed_rest n b bs h (a, (zero, l, e), c) = absurd (c (subst (λ (z : Bound). Below n opaque z.low z.high) e h))
crossed_rest n b bs h (a, (suc k, l, e), c) = (a, (k, omega arith, e), c)

pub crossed_at : (n : Table) (bs : List Bound) (i : ℕ) (b : Bound) → i < length bs → b ≡ get_or bs i b → (Below n opaque b.low b.high → ⊥) → Crossed n bs
crossed_at n [] i b lt e c = absurd (omega arith)
crossed_at n (x ∷ xs) zero b lt e c = crossed_first n x xs (subst (λ (z : Bound). Below n opaque z.low z.high → ⊥) e c)
crossed_at n (x ∷ xs) (suc i) b lt e c = crossed_cons n x xs (crossed_at n xs i b (omega arith) e c)

pub crossed_later : (n : Table) (bs : List Bound) (i : ℕ) (b : Bound) → i < length bs → b ≡ get_or bs i b → Below n opaque b.low b.high → Crossed n (drop i bs) → Crossed n (drop (i + 1) bs)
crossed_later n [] i b lt e h c = absurd (omega arith)
crossed_later n (x ∷ xs) zero b lt e h c = crossed_rest n x xs (subst (λ (z : Bound). Below n opaque z.low z.high) e h) c
crossed_later n (x ∷ xs) (suc i) b lt e h c = rw add-one (rw add-one at (crossed_later n xs i b (omega arith) e h c))

module _ (ds : List Decl) (d : Decl) (h : Declared ds) (w : IsWellWritten ds d) where
  abbrev n : Table
  n = table_with ds d

  law : Lawful n
  law = with_lawful ds d w h

  low_is : (bs : List Bound) (b : Bound) → list_all (is_known (length ds)) (bound_types (b ∷ bs)) ≡ true → is_known (length ds) b.low ≡ true
  low_is bs b k = and_l (is_known (length ds) b.low) (is_known (length ds) b.high && list_all (is_known (length ds)) (bound_types bs)) k

  high_is : (bs : List Bound) (b : Bound) → list_all (is_known (length ds)) (bound_types (b ∷ bs)) ≡ true → is_known (length ds) b.high ≡ true
  high_is bs b k = and_l (is_known (length ds) b.high) (list_all (is_known (length ds)) (bound_types bs)) (and_r (is_known (length ds) b.low) (is_known (length ds) b.high && list_all (is_known (length ds)) (bound_types bs)) k)

  rest_are : (bs : List Bound) (b : Bound) → list_all (is_known (length ds)) (bound_types (b ∷ bs)) ≡ true → list_all (is_known (length ds)) (bound_types bs) ≡ true
  rest_are bs b k = and_r (is_known (length ds) b.high) (list_all (is_known (length ds)) (bound_types bs)) (and_r (is_known (length ds) b.low) (is_known (length ds) b.high && list_all (is_known (length ds)) (bound_types bs)) k)

  ground_at : (bs cs : List Bound) → list_all (is_known (length ds)) (bound_types bs) ≡ true → Bounds n bs cs → (i : ℕ) (c : Bound) → i < length cs → c ≡ get_or cs i c → IsGround ds c.low × IsGround ds c.high
  ground_at bs cs k bounds_end i c lt e = absurd (omega arith)
  ground_at bs cs k (bounds_more b x as_ es l u r) zero c lt e =
      let a = form_down ds d h law b.low x.low (low_is as_ b k) l in
      let z = form_down ds d h law b.high x.high (high_is as_ b k) u in
      let g : IsGround ds x.low × IsGround ds x.high = (
        record { normal = a.normal; known = form_known n law (length ds) b.low x.low (low_is as_ b k) l },
        record { normal = z.normal; known = form_known n law (length ds) b.high x.high (high_is as_ b k) u },
      ) in
      subst (λ (y : Bound). IsGround ds y.low × IsGround ds y.high) (sym e) g
  ground_at bs cs k (bounds_more b x as_ es l u r) (suc i) c lt e = ground_at as_ es (rest_are as_ b k) r i c (omega arith) e

  pub bounds_ground : (cs : List Bound) → Bounds n d.params cs → (i : ℕ) (c : Bound) → i < length cs → c ≡ get_or cs i c → IsGround ds c.low × IsGround ds c.high
  bounds_ground cs r i c lt e = ground_at d.params cs (bounds_are_known ds d w) r i c lt e

  up : (t u : Ty) → is_known (length ds) t ≡ true → is_known (length ds) u ≡ true → Below (table_of ds) opaque t u → Below n opaque t u
  up t u p q b = below_move (table_of ds) n (length ds) (declared_agree ds d h) t u p q b

  down : (t u : Ty) → is_known (length ds) t ≡ true → is_known (length ds) u ≡ true → Below n opaque t u → Below (table_of ds) opaque t u
  down t u p q b = below_move n (table_of ds) (length ds) (agree_back (table_of ds) n (length ds) (declared_agree ds d h)) t u p q b

  crossed_there : (bs cs : List Bound) → list_all (is_known (length ds)) (bound_types bs) ≡ true → Bounds n bs cs → Crossed n bs → Crossed (table_of ds) cs
  crossed_there bs cs k bounds_end c = absurd (crossed_none n c)
  crossed_there bs cs k (bounds_more b x as_ es l u r) (a, (zero, lt, e), c) =
      crossed_first (table_of ds) x es (λ s.
      let t = up x.low x.high (form_known n law (length ds) b.low x.low (low_is as_ b k) l) (form_known n law (length ds) b.high x.high (high_is as_ b k) u) s in
      let v = below_trans n law b.low x.low b.high l.equal.0 (below_trans n law x.low x.high b.high t u.equal.1) in
      c (subst (λ (z : Bound). Below n opaque z.low z.high) e v))
  crossed_there bs cs k (bounds_more b x as_ es l u r) (a, (suc i, lt, e), c) = crossed_cons (table_of ds) x es (crossed_there as_ es (rest_are as_ b k) r (a, (i, omega arith, e), c))

  crossed_back : (bs cs : List Bound) → list_all (is_known (length ds)) (bound_types bs) ≡ true → Bounds n bs cs → Crossed (table_of ds) cs → Crossed n bs
  crossed_back bs cs k bounds_end c = absurd (crossed_none (table_of ds) c)
  crossed_back bs cs k (bounds_more b x as_ es l u r) (a, (zero, lt, e), c) =
      crossed_first n b as_ (λ s.
      let v = below_trans n law x.low b.low x.high l.equal.1 (below_trans n law b.low b.high x.high s u.equal.0) in
      let t = down x.low x.high (form_known n law (length ds) b.low x.low (low_is as_ b k) l) (form_known n law (length ds) b.high x.high (high_is as_ b k) u) v in
      c (subst (λ (z : Bound). Below (table_of ds) opaque z.low z.high) e t))
  crossed_back bs cs k (bounds_more b x as_ es l u r) (a, (suc i, lt, e), c) = crossed_cons n b as_ (crossed_back as_ es (rest_are as_ b k) r (a, (i, omega arith, e), c))

  pub crossed_kept : (cs : List Bound) → Bounds n d.params cs → BoundsCrossed ds d → Crossed (table_of ds) cs
  crossed_kept cs r c = crossed_there d.params cs (bounds_are_known ds d w) r c

  pub crossed_written : (cs : List Bound) → Bounds n d.params cs → Crossed (table_of ds) cs → BoundsCrossed ds d
  crossed_written cs r c = crossed_back d.params cs (bounds_are_known ds d w) r c
