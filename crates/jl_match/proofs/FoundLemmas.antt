-- Values are found: where some types serve for a row and concrete types, those that are found serve.
use Rattle.std.proofs.Common.{◌≡◌, ◌∙◌, sym, ap, subst, refl, ℕ, ◌+◌, ◌<◌, ◌≤◌, arith, true, false, nat_eq, List, [], ◌∷◌, Some, ◌⊎◌, inl, inr}
use Rattle.std.proofs.Math.Nat.{mod-eq_of_lt, add-mul-mod_self_left}
use Rattle.std.specs.List.{flat_map, Contains}
use Rattle.jl_model.specs.declared.ty.Ty.{Ty}
use Rattle.jl_model.specs.declared.ty.Ty.TheViews.{out-Ty, outs-Tuple, outs-Nominal, outs-Var}
use Rattle.jl_model.specs.declared.ty.Ty.TheViews as V
use Rattle.jl_model.specs.declared.ty.Ty.TheVariants as W
use Rattle.jl_model.specs.declared.ty.Decl.{Decl}
use Rattle.jl_model.specs.declared.ty.Written.{Written}
use Rattle.jl_model.specs.Ancestors.{table_of}
use Rattle.jl_model.specs.Kinds.{unused, diagonal, bound}
use Rattle.jl_model.specs.Rows.{alts, width, high, kind, root, atom, vars_in, Stands, Occurs, standing, bounding}
use Rattle.jl_model.specs.Subtype.{Table, opaque, lifted, Covered, is_concrete, below, none as nothing}
use Rattle.jl_model.specs.Signature.{Row, Serves, Meet}
use Rattle.jl_model.specs.Normal.{AllNormal}
use Rattle.jl_model.specs.Refusals.{Declared}
use Rattle.jl_model.specs.Found.{outer, rising, found}
use Rattle.jl_model.proofs.TypeInduction.{Each}
use Rattle.jl_model.proofs.FormLemmas.{is_nominal, alts-union, vars-nominal}
use Rattle.jl_model.proofs.SelfLemmas.{below_self}
use Rattle.jl_model.proofs.AncestorLemmas.{true_each}
use Rattle.jl_model.proofs.TransLemmas.{below_trans}
use Rattle.jl_model.proofs.DeclaredLemmas.{declared_lawful}
use Rattle.jl_search.specs.Serving.{IsPlain}
use Rattle.jl_search.specs.Open.{AreOpen, open_end, open_more, closed as open_closed, variable as open_variable, applied as open_applied, IsOpen}
use Rattle.jl_search.proofs.HasLemmas.{has_of, of_has, has_none}
use Rattle.jl_search.proofs.LiftLemmas.{each_has}
use Rattle.jl_search.proofs.MeetLemmas.{LeftForms, Laws}
use Rattle.jl_search.proofs.ValueLaw.{IsNamed, IsBare, IsOut, BoundForms, values}
use Rattle.jl_search.proofs.BoundLeads.{IsGood, bound_forms}
use Rattle.jl_match.specs.KeptRow.{IsArgument, AreArguments, closed, variable, applied, arguments_end, arguments_more, IsNamedTop, IsKeptTop, top_plain, top_named, top_idle, IsKeptRow, AreConcrete, Fits}
use Rattle.jl_match.proofs.ConcreteLemmas.{Concrete, concrete-var, parts_concrete, concrete_lone}
use Rattle.jl_match.proofs.FitLemmas.{below_meet}
use Rattle.jl_match.proofs.PlainLemmas.{plain_parts, plain_args, lifted_plain, types_plain, each_ground, each_rising, no_variable}
use Rattle.jl_match.proofs.RowLemmas.{own_places, placed, low_of, right_row}

-- an argument of a bound may stand in a row
mutual
  open_of : (n : Table) (t : Ty) → IsArgument n t → IsOpen t
  open_of n t (closed u e h) = open_closed t e
  open_of n t (variable u v o) = open_variable t v o
  open_of n t (applied u k ts o h) = open_applied t k ts o (opens_of n ts h)

  opens_of : (n : Table) (ts : List Ty) → AreArguments n ts → AreOpen ts
  opens_of n ts arguments_end = open_end
  opens_of n ts (arguments_more t us p q) = open_more t us (open_of n t p) (opens_of n us q)

module _ (ds : List Decl) (declared : Declared ds) where
  abbrev n : Table
  n = table_of ds

  -- a concrete normal type of declared names
  pub record IsLeftPart (t : Ty) : Type 0 where
    pub concrete : Concrete n t
    pub plain : IsPlain ds t

  left_each : (ts : List Ty) → Each (Concrete n) ts → Each (IsPlain ds) ts → Each IsLeftPart ts
  left_each [] c p = tt
  left_each (t ∷ ts) c p = (record { concrete = c.0; plain = p.0 }, left_each ts c.1 p.1)

  no_left : (v : ℕ) (P : Type 0) → IsLeftPart (W.Var v) → P
  no_left v P h = let e : true ≡ false = sym h.concrete ∙ concrete-var n v in cc

  lifts : (k m : ℕ) (xs zs : List Ty) → IsPlain ds (V.Nominal k xs) → lifted n k xs m ≡ Some zs → AllNormal n zs × Each (IsPlain ds) zs
  lifts k m xs zs h l =
      let e = lifted_plain ds declared (V.Nominal k xs) k m xs zs (nat_eq k m) refl (outs-Nominal k xs) h l in
      ((each_ground ds declared zs e).normal, e)

  left_forms : LeftForms n opaque IsLeftPart (IsPlain ds)
  left_forms = record {
    part = λ xs h. left_each xs (parts_concrete n xs h.concrete) (plain_parts ds declared (V.Tuple xs) xs (outs-Tuple xs) h.plain);
    raise = λ v h. no_left v _ h;
    argument = λ k m xs zs h l. lifts k m xs zs h.plain l;
    inside = λ m xs h. plain_args ds declared (V.Nominal m xs) m xs (outs-Nominal m xs) h;
    sure = λ t u h e c. (h.concrete, h.plain);
  }

  -- what is found, below an upper bound: its alternatives are plain
  good_plain : (c : Ty) → IsPlain ds c → IsGood n (IsPlain ds) c
  good_plain c h = (no_variable ds declared c h.closed, λ k m xs zs e l. lifts k m xs zs (subst (IsPlain ds) (is_nominal c k xs e) h) l)

  left_bounds : BoundForms n opaque IsLeftPart (IsPlain ds)
  left_bounds =
      bound_forms n opaque IsLeftPart (IsPlain ds) left_forms (λ t h. concrete_lone n t h.concrete)
      (λ t h c i. good_plain c (each_has (IsPlain ds) (rising opaque t) (each_rising ds declared t h) c i))

  laws : Laws n opaque IsLeftPart
  laws = record {
    lift = λ t u b. b;
    before = below_trans n (declared_lawful ds declared);
    trans = λ t u v h. below_trans n (declared_lawful ds declared) t u v;
    trans_closed = λ t u v h. below_trans n (declared_lawful ds declared) t u v;
    after = below_trans n (declared_lawful ds declared);
    none = λ t. below opaque (V.Union []) t (subst (λ z. Covered n opaque z (alts t)) (sym (alts-union [])) (nothing opaque (alts t)));
    self = below_self n;
  }

  -- the bounds of a kept row
  module _ (s : Written) (r : Row) (kept : IsKeptRow ds s r) where
    atom_root : (v : ℕ) → v < width s → root s (atom s v 0) ≡ v
    atom_root v l = add-mul-mod_self_left v (width s) (0 + 1) ∙ mod-eq_of_lt l

    bare_high : (v w : ℕ) → Contains (vars_in (high s w)) v → vars_in (high s w) ≡ [] → ⊥
    bare_high v w c e = has_none (vars_in (high s w)) v e (has_of (vars_in (high s w)) v c)

    named_vars : (w : ℕ) (i : IsNamedTop ds s r w) → vars_in (high s w) ≡ flat_map vars_in i.args
    named_vars w i = ap vars_in i.high_is ∙ vars-nominal i.number i.args

    -- a diagonal variable stands in no bound
    in_bound : (v w : ℕ) → Occurs s w r.parts → Contains (vars_in (high s w)) v → kind s v ≡ diagonal → IsKeptTop ds s r w → (kind s w ≡ diagonal → (Stands s w r.parts → ⊥) → ⊥) → ⊥
    in_bound v w o c d (top_plain x p q) k = bare_high v w c p.closed
    in_bound v w o c d (top_named x i) k = let b = i.kinds v (subst (λ ns. Contains ns v) (named_vars w i) c) in let e : diagonal ≡ bound = sym d ∙ b in cc
    in_bound v w o c d (top_idle x e j p l) k = k e j

    -- and where it does not stand in the row it is none of it
    idle_absent : (v : ℕ) (row : List Ty) → row ≡ r.parts → Occurs s v row → kind s v ≡ diagonal → (Stands s v r.parts → ⊥) → ⊥
    idle_absent v row e (standing x y c) d k = k (subst (λ z. Stands s v z) e c)
    idle_absent v row e (bounding x w y o c) d k =
        let o2 : Occurs s w r.parts = subst (λ z. Occurs s w z) e o in
        in_bound v w o2 c d (kept.top w (low_of ds s r kept w o2)) (idle_absent w row e o)

    bound_at : (v : ℕ) → v < width s → IsKeptTop ds s r v → (IsNamed s r v ⊎ IsBare s r v) ⊎ IsOut s r v
    bound_at v l (top_plain x p q) = inl (inr (record { high_none = p.closed; top_none = q.closed; low_none = (kept.low v l).closed }))
    bound_at v l (top_idle x d k q h) =
        inr (record { absent = λ o. idle_absent v r.parts refl o d k; top_none = q.closed; low_none = (kept.low v l).closed; atom_root = atom_root v l })
    bound_at v l (top_named x i) = inl (inl (record {
      number = i.number;
      args = i.args;
      is_high = i.high_is;
      is_top = i.top_is;
      is_low = i.low_is;
      opened = opens_of n i.args i.arguments;
      before = λ w h. i.before w (of_has (flat_map vars_in i.args) w h);
      kinds = λ w h. i.kinds w (of_has (flat_map vars_in i.args) w h);
      atom_root = atom_root v l;
      atom_kind = λ d. (let c : width s ≤ atom s v 0 = omega arith in let e : unused ≡ diagonal = sym (kept.own (atom s v 0) c) ∙ d in cc);
      one_atom = λ w h e d. i.atom_is w (of_has (flat_map outer r.parts) w h) e d;
    }))

    bounds_of : (v : ℕ) → v < width s → (IsNamed s r v ⊎ IsBare s r v) ⊎ IsOut s r v
    bounds_of v l = bound_at v l (kept.top v l)

  pub found_fits : (s : Written) (r : Row) (ts : List Ty) → IsKeptRow ds s r → AreConcrete ds ts → (f : ℕ → Ty) → Fits n s r ts f
      → Serves n opaque s r (found n opaque s r ts) × Meet n opaque s (found n opaque s r ts) ts r.parts
  found_fits s r ts kept types f fits =
      let concrete = true_each (is_concrete n opaque) ts types.concrete in
      values ds declared opaque IsLeftPart (IsPlain ds) s r ts f laws left_forms left_bounds (right_row ds s r kept) (left_each ts concrete (types_plain ds declared ts types))
      (bounds_of s r kept) (low_of ds s r kept) fits.serves
      (below_meet ds declared s f r.parts kept.parts ts (own_places ds s r kept f) (placed ds s r kept f fits.serves) concrete fits.below)
