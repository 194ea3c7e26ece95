-- The step for the declared bounds keeps the number of variables, and what all bounds have.
use Rattle.std.proofs.Common.{◌≡◌, ◌∙◌, refl, ℕ, zero, suc, Bool, true, false, cond, nat_lt, List, [], ◌∷◌, length, get_or, slice_set}
use Rattle.std.proofs.lemmas.List.{length-set}
use Rattle.jl_model.specs.declared.ty.Ty.{Ty}
use Rattle.jl_model.specs.declared.ty.Bound.{Bound}
use Rattle.jl_model.specs.Rows.{free}
use Rattle.jl_written.specs.declared.reading.Place.{Place}
use Rattle.jl_written.specs.Signatures.{with_high, adopt_bound, adopt_bounds}
use Rattle.jl_type_laws.specs.Carried.{BoundHas, BoundsHave, PlacesHave}

one_length : (a b : Bool) (bs : List Bound) (v : ℕ) (t : Ty) → length (cond a (cond b (with_high bs v t) bs) bs) ≡ length bs
one_length true true bs v t = length-set bs v (record { low = (get_or bs v free).low; high = t })
one_length true false bs v t = refl
one_length false b bs v t = refl

pub adopt_bounds_length : (below : Ty → Ty → Bool) (ps : List Place) (bs : List Bound) → length (adopt_bounds below ps bs) ≡ length bs
adopt_bounds_length below [] bs = refl
adopt_bounds_length below (p ∷ ps) bs =
    adopt_bounds_length below ps (adopt_bound below p bs)
    ∙ one_length (nat_lt p.var (length bs)) (below p.high (get_or bs p.var free).high) bs p.var p.high

module _ (P : Ty → Type 0) where
  pub set_has : (bs : List Bound) (v : ℕ) (b : Bound) → BoundsHave P bs → BoundHas P b → BoundsHave P (slice_set bs v b)
  set_has [] v b h g = tt
  set_has (a ∷ bs) zero b h g = (g, h.1)
  set_has (a ∷ bs) (suc v) b h g = (h.0, set_has bs v b h.1 g)

  get_has : (bs : List Bound) (v : ℕ) → P free.low → P free.high → BoundsHave P bs → BoundHas P (get_or bs v free)
  get_has [] v l u h = (l, u)
  get_has (a ∷ bs) zero l u h = h.0
  get_has (a ∷ bs) (suc v) l u h = get_has bs v l u h.1

  one_has : (a b : Bool) (bs : List Bound) (v : ℕ) (t : Ty) → P free.low → P free.high → BoundsHave P bs → P t → BoundsHave P (cond a (cond b (with_high bs v t) bs) bs)
  one_has true true bs v t l u h g =
      let e = get_has bs v l u h in
      set_has bs v (record { low = (get_or bs v free).low; high = t }) h (e.0, g)
  one_has true false bs v t l u h g = h
  one_has false b bs v t l u h g = h

  pub adopt_bounds_has : (below : Ty → Ty → Bool) (ps : List Place) (bs : List Bound) → P free.low → P free.high → BoundsHave P bs → PlacesHave P ps → BoundsHave P (adopt_bounds below ps bs)
  adopt_bounds_has below [] bs l u h g = h
  adopt_bounds_has below (p ∷ ps) bs l u h g =
      adopt_bounds_has below ps (adopt_bound below p bs) l u (one_has (nat_lt p.var (length bs)) (below p.high (get_or bs p.var free).high) bs p.var p.high l u h g.0) g.1
