-- The alternatives of a type whose arguments are forms are candidates.
use Rattle.std.proofs.Common.{◌≡◌, ap, refl, ℕ, ◌≤◌, arith, true, List, [], ◌∷◌, length, inl, inr}
use Rattle.std.specs.List.{list_all}
use Rattle.jl_model.specs.declared.ty.Ty.{Ty}
use Rattle.jl_model.specs.declared.ty.Ty.TheViews.{outs-Any, outs-Tuple, outs-Nominal, outs-Var}
use Rattle.jl_model.specs.declared.ty.Ty.TheViews as V
use Rattle.jl_model.specs.declared.ty.Ty.TheVariants as W
use Rattle.jl_model.specs.declared.ty.Decl.{Decl}
use Rattle.jl_model.specs.Ancestors.{table_of}
use Rattle.jl_model.specs.Rows.{alts}
use Rattle.jl_model.specs.Signature.{Both, both_end, both_more}
use Rattle.jl_model.specs.Subtype.{Table, Equal}
use Rattle.jl_model.specs.Counts.{nodes}
use Rattle.jl_model.specs.Normal.{IsNormal, AllNormal, is_single, no_union, none as no_normal, more as more_normal, any as normal_any, var as normal_var, nominal as normal_nominal, tuple as normal_tuple}
use Rattle.jl_model.specs.Valid.{is_known}
use Rattle.jl_model.specs.Refusals.{Declared}
use Rattle.jl_model.proofs.TypeInduction.{Each}
use Rattle.jl_model.proofs.PutLemmas.{both_true}
use Rattle.jl_model.proofs.TransLemmas.{equal_trans}
use Rattle.jl_model.proofs.CountLemmas.{nodes_all, nodes-nominal, nodes-tuple}
use Rattle.jl_model.proofs.DeclaredLemmas.{declared_lawful}
use Rattle.jl_types.specs.Ground.{Exact, AllExact, IsLower, AllLower, any as low_any, var as low_var, nominal as low_nominal, tuple as low_tuple, none as no_lower, more as more_lower}
use Rattle.jl_types.specs.Reduce.{Candidates}
use Rattle.jl_types.specs.Form.{IsOfParts, Formed, Settles}
use Rattle.jl_types.proofs.ExactLemmas.{normal_exact}
use Rattle.jl_types.proofs.ReduceLemmas.{le_or}
use Rattle.jl_types.proofs.KeptLemmas.{alts_pass}
use Rattle.jl_types.proofs.SettleLemmas.{Grows, settles_good}

-- it may stand in a union
pub record IsFit (ds : List Decl) (c : Ty) : Type 0 where
  pub lower : IsLower (table_of ds) 1024 c
  pub normal : nodes c ≤ 1024 → IsNormal (table_of ds) c

pub lower_single : (n : Table) (m : ℕ) (t : Ty) → IsLower n m t → is_single t ≡ true
lower_single n m t (low_any a e) = ap no_union e
lower_single n m t (low_var a v e) = ap no_union e
lower_single n m t (low_nominal a k xs e q) = ap no_union e
lower_single n m t (low_tuple a xs e q) = ap no_union e

module _ (ds : List Decl) (declared : Declared ds) where
  abbrev n : Table
  n = table_of ds

  formed_exact : (t x : Ty) → Formed ds t x → Exact n 1024 x
  formed_exact t x f v g s q = elim (le_or (nodes x) 1024) [
    | inl l ↦ normal_exact n (declared_lawful ds declared) 1024 x (f.normal l) v g s q
    | inr k ↦ (let w = f.large k v g (equal_trans n (declared_lawful ds declared) t x v f.equal q) in absurd (omega arith))
  ]

  all_exact : (ts xs : List Ty) → Both (Formed ds) ts xs → AllExact n 1024 xs
  all_exact ts xs both_end = tt
  all_exact ts xs (both_more t x us ys f b) = (formed_exact t x f, all_exact us ys b)

  all_normal : (ts xs : List Ty) → Both (Formed ds) ts xs → nodes_all xs ≤ 1024 → AllNormal n xs
  all_normal ts xs both_end l = no_normal
  all_normal ts xs (both_more t x us ys f b) l = more_normal x ys (f.normal (omega arith)) (all_normal us ys b (omega arith))

  fit_lower : (us : List Ty) → Each (IsFit ds) us → AllLower n 1024 us
  fit_lower [] h = no_lower
  fit_lower (u ∷ us) h = more_lower u us h.0.lower (fit_lower us h.1)

  fit_normal : (us : List Ty) → Each (IsFit ds) us → nodes_all us ≤ 1024 → AllNormal n us
  fit_normal [] h l = no_normal
  fit_normal (u ∷ us) h l = more_normal u us (h.0.normal (omega arith)) (fit_normal us h.1 (omega arith))

  fit_single : (us : List Ty) → Each (IsFit ds) us → list_all is_single us ≡ true
  fit_single [] h = refl
  fit_single (u ∷ us) h = both_true (is_single u) (list_all is_single us) (lower_single n 1024 u h.0.lower) (fit_single us h.1)

  pub fits_grow : Grows (Formed ds) (IsFit ds)
  fits_grow = record {
    any = record { lower = low_any W.Any outs-Any; normal = λ s. normal_any W.Any outs-Any };
    var = λ v. record { lower = low_var (W.Var v) v (outs-Var v); normal = λ s. normal_var (W.Var v) v (outs-Var v) };
    nominal = λ k ts us b. record {
      lower = low_nominal (V.Nominal k us) k us (outs-Nominal k us) (all_exact ts us b);
      normal = λ s. normal_nominal (V.Nominal k us) k us (outs-Nominal k us) (all_normal ts us b (omega (arith, nodes-nominal k us)));
    };
    tuple = λ us h. record {
      lower = low_tuple (V.Tuple us) us (outs-Tuple us) (fit_lower us h);
      normal = λ s. normal_tuple (V.Tuple us) us (outs-Tuple us) (fit_normal us h (omega (arith, nodes-tuple us))) (fit_single us h);
    };
  }

  pub formed_equal : (t u : Ty) → Formed ds t u → Equal n t u
  formed_equal t u f = f.equal

  candidates_of : (us : List Ty) → Each (IsFit ds) us → Each (λ u. is_known (length ds) u ≡ true) us → Candidates ds us
  candidates_of [] h k = tt
  candidates_of (u ∷ us) h k = (record { lower = record { form = h.0.lower; known = k.0 }; normal = h.0.normal }, candidates_of us h.1 k.1)

  pub settles_candidates : (t s : Ty) → Settles (Formed ds) t s → IsOfParts (is_known (length ds)) → is_known (length ds) s ≡ true → Candidates ds (alts s)
  settles_candidates t s h parts k = candidates_of (alts s) (settles_good n (Formed ds) formed_equal (IsFit ds) fits_grow t s h) (alts_pass (is_known (length ds)) parts s k)
