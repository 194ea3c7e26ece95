-- The types that serve for the variables of several places are the bindings. Those of the others keep their upper bounds, are
-- concrete, and are what stands at the one place.
use Rattle.std.proofs.Common.{◌≡◌, ◌∙◌, sym, ap, subst, refl, ℕ, ◌<◌, arith, true, cond, nat_lt, List, map, Option, None, Some, ◌⊎◌, inl, inr}
use Rattle.std.proofs.Math.Nat.{mod-eq_of_lt}
use Rattle.std.specs.List.{flat_map}
use Rattle.jl_model.specs.declared.ty.Ty.{Ty}
use Rattle.jl_model.specs.declared.ty.Ty.TheVariants as W
use Rattle.jl_model.specs.declared.ty.Decl.{Decl}
use Rattle.jl_model.specs.declared.ty.Written.{Written}
use Rattle.jl_model.specs.Ancestors.{table_of}
use Rattle.jl_model.specs.Kinds.{unused, once, diagonal, bound, plus, below_nominal}
use Rattle.jl_model.specs.Rows.{forms, width, high, kind, part_places, bound_places, root, place_of, components, vars_in, Stands, Occurs, standing}
use Rattle.jl_model.specs.Subtype.{Table, opaque, put, Below, Equal, is_concrete}
use Rattle.jl_model.specs.Signature.{Row, IsRow, Both}
use Rattle.jl_model.specs.Usable.{is_usable}
use Rattle.jl_model.specs.Found.{inner, outer, or_else, or_type}
use Rattle.jl_model.specs.Bindings.{inner_found, outer_found, binding}
use Rattle.jl_model.specs.Refusals.{Declared}
use Rattle.jl_model.specs.SigRefusals.{VariablePlace}
use Rattle.jl_model.proofs.TypeInduction.{Each}
use Rattle.jl_model.proofs.NormalLemmas.{In as Among}
use Rattle.jl_model.proofs.AncestorLemmas.{true_each}
use Rattle.jl_sig.specs.Prepared.{HasOwnVariables}
use Rattle.jl_sig.proofs.BoundLemmas.{placed_parts}
use Rattle.jl_sig.proofs.OwnLemmas.{own_parts, own_high}
use Rattle.jl_match.specs.KeptRow.{AreConcrete, Fits}
use Rattle.jl_match.specs.Stands.{StandsIn}
use Rattle.jl_match.proofs.ListLemmas.{In, of_in, in_map, has_in}
use Rattle.jl_search.proofs.GoodLemmas.{Good, absent, sought}
use Rattle.jl_search.proofs.HasLemmas.{all_has}
use Rattle.jl_search.proofs.SeekLemmas.{agrees}
use Rattle.jl_match.proofs.KindLemmas.{Comps, comps, own_only}
use Rattle.jl_match.proofs.ComponentLemmas.{components_of}
use Rattle.jl_match.proofs.RowForms.{choices_by, rows_at}
use Rattle.jl_match.proofs.RowLemmas.{IsLeft, each_normal, below_or}
use Rattle.jl_match.proofs.WrittenLemmas.{inners_good, outers_good, diagonals_good, onces_good}
use Rattle.jl_match.proofs.UsableLemmas.{bound_stands, diagonal_stands, once_stands}
use Rattle.jl_match.proofs.OnceLemmas.{inners_none}
use Rattle.jl_match.proofs.StandsLemmas.{found_stands, all_found, once_few}

-- nothing stands at an invariant place of a variable with one place outside nominal types
module _ (n : Table) (s : Written) (own : HasOwnVariables s) (placed : VariablePlace s → ⊥) (ts : List Ty) (v : ℕ) (usable : is_usable s v ≡ true) (single : kind s v ≡ once) where
  comps_of : Comps s s.parts
  comps_of = comps s (own_parts s own) (components_of s.parts (placed_parts s placed))

  outer_is : binding n s ts v ≡ or_type (outer_found s ts v) W.Any
  outer_is =
      let e : binding n s ts v ≡ or_type (or_else (inner_found n s ts v) (outer_found s ts v)) W.Any = ap (λ b. cond b (or_type (or_else (inner_found n s ts v) (outer_found s ts v)) W.Any) W.Any) usable in
      let i : inner_found n s ts v ≡ None = inners_none n s v (λ b. let g : once ≡ bound = sym single ∙ b in cc) s.parts comps_of ts in
      e ∙ ap (λ z. or_type (or_else z (outer_found s ts v)) W.Any) i

  pub only_standing : (y : Ty) → StandsIn v y s.parts ts → y ≡ binding n s ts v
  only_standing y h = sym (outer_is ∙ ap (λ z. or_type z W.Any) (all_found v y s.parts ts h (let l = once_few (plus (part_places s v) (below_nominal (bound_places v s.vars))) single in omega (arith, l))))

below_of : (k m : ℕ) → nat_lt k m ≡ true → k < m
below_of k m h = grind (arith, h)

module _ (ds : List Decl) (declared : Declared ds) (s : Written) (own : HasOwnVariables s) (placed : VariablePlace s → ⊥) (ts : List Ty) (types : AreConcrete ds ts)
    (r : Row) (f : ℕ → Ty) (row : IsRow (table_of ds) s r) (fits : Fits (table_of ds) s r ts f) (v : ℕ) (usable : is_usable s v ≡ true) where
  abbrev n : Table
  n = table_of ds

  abbrev G : Ty → List Ty
  G = forms (λ w. place_of s w (kind s w))

  parts : Comps s s.parts
  parts = comps s (own_parts s own) (components_of s.parts (placed_parts s placed))

  among : Both (λ a w. Among a (G w)) r.parts s.parts
  among = choices_by G r.parts s.parts (rows_at (components s) r.parts row.parts.0 row.parts.1 row.parts.2)

  lefts : Each (IsLeft n) ts
  lefts = each_normal n ts (true_each (is_concrete n opaque) ts types.concrete) types.normal

  abbrev Same : Ty → Type 0
  Same y = Equal n y (f (root s v))

  at_inner : Good Same v (inner_found n s ts v) (flat_map inner s.parts)
  at_inner = inners_good ds declared s f v s.parts parts r.parts among ts lefts fits.below

  low : (kind s v ≡ unused → ⊥) → v < width s
  low h = elim (below_or v (width s)) [ inl l ↦ l | inr g ↦ absurd (h (own_only s own v g)) ]

  occurs : v < width s → In v (flat_map vars_in r.parts) → Occurs s v r.parts
  occurs l i = standing v r.parts (subst (λ w. Stands s w r.parts) (mod-eq_of_lt l) (of_in (map (root s) (flat_map vars_in r.parts)) (root s v) (in_map (root s) v (flat_map vars_in r.parts) i)))

  is_low : kind s v ≡ diagonal → v < width s
  is_low d = low (λ e. let g : unused ≡ diagonal = sym e ∙ d in cc)

  at_outer : kind s v ≡ diagonal → Good Same v (outer_found s ts v) (flat_map outer s.parts)
  at_outer d =
      let l = is_low d in
      diagonals_good ds declared s f v d s.parts parts r.parts among
      (λ i. subst (λ w. is_concrete n opaque (f w) ≡ true) (sym (mod-eq_of_lt l)) (fits.serves.sure v (occurs l i) d))
      ts lefts fits.below

  found_inner : (i o : Option Ty) → Good Same v i (flat_map inner s.parts) → In v (flat_map inner s.parts) → Same (or_type (or_else i o) W.Any)
  found_inner (Some y) o g h = g
  found_inner None o g h = absurd (absent v (flat_map inner s.parts) g (has_in v (flat_map inner s.parts) h))

  found_outer : (i o : Option Ty) → Good Same v i (flat_map inner s.parts) → Good Same v o (flat_map outer s.parts) → In v (flat_map outer s.parts) → Same (or_type (or_else i o) W.Any)
  found_outer (Some y) o g k h = g
  found_outer None (Some y) g k h = k
  found_outer None None g k h = absurd (absent v (flat_map outer s.parts) k (has_in v (flat_map outer s.parts) h))

  found : (kind s v ≡ diagonal) ⊎ (kind s v ≡ bound) → Same (or_type (or_else (inner_found n s ts v) (outer_found s ts v)) W.Any)
  found (inl d) = found_outer (inner_found n s ts v) (outer_found s ts v) at_inner (at_outer d) (diagonal_stands s v usable d)
  found (inr b) = found_inner (inner_found n s ts v) (outer_found s ts v) at_inner (bound_stands s v usable b)

  kinds_low : (kind s v ≡ diagonal) ⊎ (kind s v ≡ bound) → v < width s
  kinds_low (inl d) = is_low d
  kinds_low (inr b) = low (λ e. let g : unused ≡ bound = sym e ∙ b in cc)

  pub binding_serves : (kind s v ≡ diagonal) ⊎ (kind s v ≡ bound) → Equal n (binding n s ts v) (f v)
  binding_serves k =
      let e : binding n s ts v ≡ or_type (or_else (inner_found n s ts v) (outer_found s ts v)) W.Any = ap (λ b. cond b (or_type (or_else (inner_found n s ts v) (outer_found s ts v)) W.Any) W.Any) usable in
      let q : root s v ≡ v = mod-eq_of_lt (kinds_low k) in
      subst (λ w. Equal n (binding n s ts v) (f w)) q (subst (λ z. Equal n z (f (root s v))) (sym e) (found k))

  -- the variables in a bound are of the signature
  own_root : put (λ w. f (root s w)) (high s v) ≡ put f (high s v)
  own_root = agrees (λ w. f (root s w)) f (high s v) (λ w h. (let l = all_has (λ w. nat_lt w (width s)) (vars_in (high s v)) w (own_high s own v) h in ap f (mod-eq_of_lt (below_of w (width s) l))))

  pub binding_below : kind s v ≡ once → Below n opaque (binding n s ts v) (put f (high s v))
  binding_below o =
      let g = onces_good ds declared s f v o s.parts parts r.parts among ts lefts fits.below in
      subst (λ z. Below n opaque z (put f (high s v))) (sym (outer_is n s own placed ts v usable o))
      (subst (Below n opaque (or_type (outer_found s ts v) W.Any)) own_root
      (sought (λ y. Below n opaque y (put (λ w. f (root s w)) (high s v))) v (outer_found s ts v) (flat_map outer s.parts) W.Any g (has_in v (flat_map outer s.parts) (once_stands s v usable o))))

  abbrev Sure : Ty → Type 0
  Sure y = is_concrete n opaque y ≡ true

  at_single : Good Sure v (outer_found s ts v) (flat_map outer s.parts)
  at_single = outers_good ds declared s f v Sure (Unit {0}) (λ w l e a i c x h b. h.concrete) s.parts parts r.parts among (λ i. tt) ts lefts fits.below

  pub binding_concrete : kind s v ≡ once → Sure (binding n s ts v)
  binding_concrete o =
      subst Sure (sym (outer_is n s own placed ts v usable o))
      (sought Sure v (outer_found s ts v) (flat_map outer s.parts) W.Any at_single (has_in v (flat_map outer s.parts) (once_stands s v usable o)))

  single_stands : (x : Option Ty) → outer_found s ts v ≡ x → Good Sure v x (flat_map outer s.parts) → In v (flat_map outer s.parts) → StandsIn v (or_type x W.Any) s.parts ts
  single_stands (Some y) e g h = found_stands v s.parts ts y e
  single_stands None e g h = absurd (absent v (flat_map outer s.parts) g (has_in v (flat_map outer s.parts) h))

  pub binding_stands : kind s v ≡ once → StandsIn v (binding n s ts v) s.parts ts
  binding_stands o = subst (λ z. StandsIn v z s.parts ts) (sym (outer_is n s own placed ts v usable o)) (single_stands (outer_found s ts v) refl at_single (once_stands s v usable o))
