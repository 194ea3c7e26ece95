-- All rows of a signature can be kept where its bounds and components can.
use Rattle.std.proofs.Common.{◌≡◌, ◌∙◌, sym, subst, refl, ℕ, zero, suc, Bool, true, false, ◌&&◌, cond, List, [], ◌∷◌, ◌++◌, map, length, get_or, ◌+◌}
use Rattle.std.specs.List.{flat_map}
use Rattle.jl_model.specs.declared.ty.Ty.{Ty}
use Rattle.jl_model.specs.declared.ty.Ty.TheViews as V
use Rattle.jl_model.specs.declared.ty.Ty.TheVariants as W
use Rattle.jl_model.specs.declared.ty.Bound.{Bound}
use Rattle.jl_model.specs.declared.ty.Decl.{Decl}
use Rattle.jl_model.specs.declared.ty.Written.{Written}
use Rattle.jl_model.specs.Ancestors.{table_of}
use Rattle.jl_model.specs.Kinds as model
use Rattle.jl_model.specs.Kinds.{unused, once, diagonal, bound}
use Rattle.jl_model.specs.Rows.{alts, atom, atoms, choices, components, forms, free, high, kind, low, place_of}
use Rattle.jl_model.specs.Signature.{is_diagonal}
use Rattle.jl_model.specs.Refusals.{bound_types, given_in}
use Rattle.jl_model.specs.SigRefusals.{is_component}
use Rattle.jl_model.specs.AllRows.{Above, above_end, taken, passed, ArePicks, Listed, all_rows, each_var, occurs, rows_with, slot}
use Rattle.jl_model.proofs.TypeInduction.{Each}
use Rattle.jl_model.proofs.AncestorLemmas.{each_true}
use Rattle.jl_model.proofs.KnownLemmas.{Known, known-any, known-var, known_tuple}
use Rattle.jl_sig.specs.Fit.{IsFit, AllFit, AllRowsFit}
use Rattle.jl_sig.specs.Prepared.{AreAllRows}
use Rattle.jl_types.proofs.GivenLemmas.{AllGiven, given-any, given-var, given-tuple, given_none, each_given}
use Rattle.jl_sig.proofs.FitLemmas.{S, union_fit, tuple_fit, component-any, component-var, component-tuple}
use Rattle.jl_sig.proofs.WholeLemmas.{Carries, Rows, chosen_have, forms_have}
use Rattle.jl_sig.proofs.BuildLemmas.{is_diagonal_kind}

module _ (ds : List Decl) where
  abbrev m : ℕ
  m = length ds

  each_fit : (ts : List Ty) → AllFit ds ts → Each (IsFit ds) ts
  each_fit [] f = tt
  each_fit (t ∷ ts) f = (f.0, each_fit ts f.1)

  pub fit_each : (ts : List Ty) → Each (IsFit ds) ts → AllFit ds ts
  fit_each [] f = tt
  fit_each (t ∷ ts) f = (f.0, fit_each ts f.1)

  fit_any : IsFit ds W.Any
  fit_any = record { known = known-any m; placed = component-any; small = subst (AllGiven (S ds)) (sym given-any) (given_none (S ds)) }

  fit_var : (v : ℕ) → IsFit ds (W.Var v)
  fit_var v = record { known = known-var m v; placed = component-var v; small = subst (AllGiven (S ds)) (sym (given-var v)) (given_none (S ds)) }

  all_known : (ts : List Ty) → Each (IsFit ds) ts → Each (Known m) ts
  all_known [] e = tt
  all_known (t ∷ ts) e = (e.0.known, all_known ts e.1)

  all_placed : (ts : List Ty) → Each (IsFit ds) ts → Each (λ t. is_component t ≡ true) ts
  all_placed [] e = tt
  all_placed (t ∷ ts) e = (e.0.placed, all_placed ts e.1)

  all_small : (ts : List Ty) → Each (IsFit ds) ts → Each (λ t. AllGiven (S ds) (given_in t)) ts
  all_small [] e = tt
  all_small (t ∷ ts) e = (e.0.small, all_small ts e.1)

  fit_tuple : (ts : List Ty) → Each (IsFit ds) ts → IsFit ds (V.Tuple ts)
  fit_tuple ts e = record {
    known = known_tuple m ts (all_known ts e);
    placed = component-tuple ts ∙ each_true is_component ts (all_placed ts e);
    small = subst (AllGiven (S ds)) (sym (given-tuple ts)) (each_given (S ds) ts (all_small ts e));
  }

  carries : (at : ℕ → List Ty) → ((v : ℕ) → Each (IsFit ds) (at v)) → Carries (IsFit ds) at
  carries at h = record {
    union = λ ts f. each_fit ts (union_fit ds ts f);
    tuple = λ ts f. each_fit ts (tuple_fit ds ts f);
    join = fit_tuple;
    var = λ v f. h v;
  }

  fit_alternatives : (t : Ty) → IsFit ds t → Each (IsFit ds) (alts t)
  fit_alternatives t f = forms_have (IsFit ds) (λ v. W.Var v ∷ []) (carries (λ v. W.Var v ∷ []) (λ v. (fit_var v, tt))) t f

  fit_high : (bs : List Bound) (v : ℕ) → AllFit ds (bound_types bs) → IsFit ds (get_or bs v free).high
  fit_high [] zero f = fit_any
  fit_high [] (suc v) f = fit_any
  fit_high (b ∷ bs) zero f = f.1.0
  fit_high (b ∷ bs) (suc v) f = fit_high bs v f.1.1

  fit_atoms : (s : Written) (v i : ℕ) (us : List Ty) → Each (IsFit ds) (atoms s v i us)
  fit_atoms s v i [] = tt
  fit_atoms s v i (u ∷ us) = (fit_var (atom s v i), fit_atoms s v (i + 1) us)

  fit_place : (s : Written) (v : ℕ) (k : model.Kind) → AllFit ds (bound_types s.vars) → Each (IsFit ds) (place_of s v k)
  fit_place s v unused f = tt
  fit_place s v once f = fit_alternatives (high s v) (fit_high s.vars v f)
  fit_place s v diagonal f = (fit_var v, tt)
  fit_place s v bound f = fit_atoms s v 0 (alts (high s v))

  fit_picks : (t : Ty) (us ps : List Ty) → Above (table_of ds) t us ps → Each (IsFit ds) us → Each (IsFit ds) ps
  fit_picks t us ps above_end e = tt
  fit_picks t us ps (taken u as_ bs b p) e = (e.0, fit_picks t as_ bs p e.1)
  fit_picks t us ps (passed u as_ bs b p) e = fit_picks t as_ ps p e.1

  all_forms : (at : ℕ → List Ty) → Carries (IsFit ds) at → (ts : List Ty) → AllFit ds ts → Rows (IsFit ds) (map (forms at) ts)
  all_forms at h [] f = tt
  all_forms at h (t ∷ ts) f = (forms_have (IsFit ds) at h t f.0, all_forms at h ts f.1)

  with_parts : (r : List Ty) (cs : List (List Ty)) → Each (IsFit ds) r → Rows (IsFit ds) cs → AllRowsFit ds (map (λ us. let x : Listed = record { parts = r; chosen = us } in x) cs)
  with_parts r [] e f = tt
  with_parts r (c ∷ cs) e f = ((fit_each r e, fit_each c f.0), with_parts r cs e f.1)

  append_fit : (rs qs : List Listed) → AllRowsFit ds rs → AllRowsFit ds qs → AllRowsFit ds (rs ++ qs)
  append_fit [] qs e f = f
  append_fit (r ∷ rs) qs e f = (e.0, append_fit rs qs e.1 f)

  module _ (s : Written) (picks : ℕ → List Ty) (held : ArePicks (table_of ds) s picks) (fit : AllFit ds (bound_types s.vars)) where
    fit_slot : (r : List Ty) (v : ℕ) (d o : Bool) → is_diagonal (kind s v) ≡ d → Each (IsFit ds) (cond (d && o) (picks v) (W.Any ∷ []))
    fit_slot r v true true e = fit_picks (low s v) (alts (high s v)) (picks v) (held v (is_diagonal_kind (kind s v) e)) (fit_alternatives (high s v) (fit_high s.vars v fit))
    fit_slot r v true false e = (fit_any, tt)
    fit_slot r v false o e = (fit_any, tt)

    fit_slots : (r : List Ty) (j : ℕ) (bs : List Bound) → Rows (IsFit ds) (each_var (slot s picks r) j bs)
    fit_slots r j [] = tt
    fit_slots r j (b ∷ bs) = (fit_slot r j (is_diagonal (kind s j)) (occurs s j r) refl, fit_slots r (j + 1) bs)

    fit_flat : (rs : List (List Ty)) → Rows (IsFit ds) rs → AllRowsFit ds (flat_map (rows_with s picks) rs)
    fit_flat [] e = tt
    fit_flat (r ∷ rs) e =
        append_fit (rows_with s picks r) (flat_map (rows_with s picks) rs)
        (with_parts r (choices (each_var (slot s picks r) 0 s.vars)) e.0 (chosen_have (IsFit ds) (each_var (slot s picks r) 0 s.vars) (fit_slots r 0 s.vars)))
        (fit_flat rs e.1)

    fit_all_rows : AllFit ds s.parts → AllRowsFit ds (all_rows s picks)
    fit_all_rows f =
        let at : ℕ → List Ty = λ v. place_of s v (kind s v) in
        fit_flat (components s) (chosen_have (IsFit ds) (map (forms at) s.parts) (all_forms at (carries at (λ v. fit_place s v (kind s v) fit)) s.parts f))

  pub rows_fit : (s : Written) (rs : List Listed) → AreAllRows (table_of ds) s rs → AllFit ds (bound_types s.vars) → AllFit ds s.parts → AllRowsFit ds rs
  rows_fit s rs a f p = subst (AllRowsFit ds) (sym a.are) (fit_all_rows s a.picks a.hold f p)
