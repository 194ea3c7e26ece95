-- The rows of signatures that differ in arguments alone match one by one.
use Rattle.std.proofs.Common.{◌≡◌, ap, subst, ℕ, ◌+◌, ◌*◌, List, [], map}
use Rattle.jl_model.specs.declared.ty.Ty.{Ty}
use Rattle.jl_model.specs.declared.ty.Ty.TheViews.{outs-Var}
use Rattle.jl_model.specs.declared.ty.Ty.TheVariants as W
use Rattle.jl_model.specs.declared.ty.Written.{Written}
use Rattle.jl_model.specs.Kinds.{Kind, unused, once, diagonal, bound}
use Rattle.jl_model.specs.Rows.{forms, alts, width, high, kind, atom, atoms, place_of, components}
use Rattle.jl_model.specs.Signature.{Both}
use Rattle.jl_types.specs.Form.{Settles, var}
use Rattle.jl_subsig.proofs.PairLemmas.{pairs_end, pairs_more, TyPairs, RowPairs, choices_pairs, both_row_pairs, alts_pairs}

module _ (F : Ty → Ty → Type 0) (a b : Written) (widths : width a ≡ width b) (highs : (v : ℕ) → Settles F (high a v) (high b v)) (kinds : (v : ℕ) → kind a v ≡ kind b v)
    (parts : Both (Settles F) a.parts b.parts) where
  -- atoms have the same numbers
  atom_pairs : (v i : ℕ) (ts us : List Ty) → TyPairs (Settles F) ts us → TyPairs (Settles F) (atoms a v i ts) (atoms b v i us)
  atom_pairs v i ts us pairs_end = pairs_end
  atom_pairs v i ts us (pairs_more t u vs ws p r) =
      let e : atom a v i ≡ atom b v i = ap (λ z. v + z * (i + 1)) widths in
      let x = W.Var (atom a v i) in
      let q : Settles F x (W.Var (atom b v i)) = subst (λ z. Settles F x (W.Var z)) e (var x (atom a v i) (outs-Var (atom a v i))) in
      pairs_more x (W.Var (atom b v i)) (atoms a v (i + 1) vs) (atoms b v (i + 1) ws) q (atom_pairs v (i + 1) vs ws r)

  place_pairs : (v : ℕ) (k : Kind) → TyPairs (Settles F) (place_of a v k) (place_of b v k)
  place_pairs v unused = pairs_end
  place_pairs v once = alts_pairs F (high a v) (high b v) (highs v)
  place_pairs v diagonal = pairs_more (W.Var v) (W.Var v) [] [] (var (W.Var v) v (outs-Var v)) pairs_end
  place_pairs v bound = atom_pairs v 0 (alts (high a v)) (alts (high b v)) (alts_pairs F (high a v) (high b v) (highs v))

  pub row_component_pairs : RowPairs (Settles F) (components a) (components b)
  row_component_pairs =
      choices_pairs (Settles F) (map (forms (λ v. place_of a v (kind a v))) a.parts) (map (forms (λ v. place_of b v (kind b v))) b.parts)
      (both_row_pairs F (λ v. place_of a v (kind a v)) (λ v. place_of b v (kind b v))
      (λ v. subst (λ k. TyPairs (Settles F) (place_of a v (kind a v)) (place_of b v k)) (kinds v) (place_pairs v (kind a v))) a.parts b.parts parts)
