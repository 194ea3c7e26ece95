-- The type of an explicit constructor, with its static parameters put in, is one struct type without variables.
use Rattle.std.proofs.Common.{◌≡◌, ◌∙◌, ap, subst, refl, ℕ, suc, ◌<◌, arith, true, ◌&&◌, nat_eq, nat_lt, List, [], ◌∷◌, ◌++◌, map, length}
use Rattle.std.specs.List.{flat_map, list_all}
use Rattle.jl_model.specs.declared.ty.Ty.{Ty, out-Ty}
use Rattle.jl_model.specs.declared.ty.Ty.TheViews.{outs-Nominal}
use Rattle.jl_model.specs.declared.ty.Bound.{Bound}
use Rattle.jl_model.specs.declared.ty.Decl.{Decl}
use Rattle.jl_model.specs.declared.ty.Written.{Written}
use Rattle.jl_model.specs.Refusals.{bound_types}
use Rattle.jl_model.specs.Rows.{vars_in}
use Rattle.jl_model.specs.SigRefusals.{types_in}
use Rattle.jl_model.specs.Subtype.{put}
use Rattle.jl_model.specs.Valid.{is_known, is_counted}
use Rattle.jl_model.proofs.DeclaredLemmas.{not_false}
use Rattle.jl_model.proofs.FormLemmas.{put-nominal}
use Rattle.jl_model.proofs.PutLemmas.{and_l, and_r}
use Rattle.jl_program.specs.declared.tree.Program.{Program}
use Rattle.jl_program.specs.BodyTypes.{may_stand, is_struct_type}
use Rattle.jl_program.specs.Scope.{all_types}
use Rattle.jl_calculus.specs.Statics.{own_or_bound, put_bound, with_statics}
use Rattle.jl_sig.proofs.OwnLemmas.{own_parts}
use Rattle.jl_operations.specs.Bodies.{IsBodySig}
use Rattle.jl_operations.specs.Conditions.{IsMadeIn}
use Rattle.jl_operations.specs.Constructed.{IsConstructed, IsOneConstructed}
use Rattle.jl_operations.proofs.BodyLemmas.{all_right_of, written_sig}
use Rattle.jl_operations.proofs.FormLemmas.{struct_name}

one_of : (ts : List Ty) → nat_eq (length ts) 1 ≡ true → (t : Ty) × (ts ≡ t ∷ [])
one_of [] h = cc
one_of (t ∷ []) h = (t, refl)
one_of (t ∷ u ∷ ts) h = let e : length (t ∷ u ∷ ts) ≡ 1 = grind (arith, h) in absurd (omega (arith, e))

none_below : (ns : List ℕ) → list_all (λ v. nat_lt v 0) ns ≡ true → ns ≡ []
none_below [] h = refl
none_below (n ∷ ns) h = let e : nat_lt n 0 ≡ true = and_l (nat_lt n 0) (list_all (λ v. nat_lt v 0) ns) h in let f : n < 0 = grind (arith, e) in absurd (omega (arith, f))

no_append : (xs ys : List ℕ) → xs ++ ys ≡ [] → xs ≡ []
no_append [] ys h = refl
no_append (x ∷ xs) ys h = cc

module _ (ds : List Decl) where
  -- a struct type is one with whatever types put in
  struct_put : (f : ℕ → Ty) (t : Ty) → is_struct_type ds (out-Ty t) ≡ true → is_struct_type ds (out-Ty (put f t)) ≡ true
  struct_put f t h =
      let r = struct_name ds t h in
      ap (λ z. is_struct_type ds (out-Ty z)) (ap (put f) r.2 ∙ put-nominal f r.0 r.1) ∙ ap (is_struct_type ds) (outs-Nominal r.0 (map (put f) r.1)) ∙ r.3

  one_constructed : (s : Written) (t : Ty) → IsBodySig ds s → length s.vars ≡ 0 → s.parts ≡ t ∷ [] → is_struct_type ds (out-Ty t) ≡ true → IsConstructed ds t
  one_constructed s t b n e h =
      let known = and_l (is_known (length ds) t) true (subst (λ z. list_all (is_known (length ds)) z ≡ true) e (all_right_of (is_known (length ds)) (bound_types s.vars) s.parts b.known)) in
      let all = not_false (list_all (is_counted ds) (types_in s)) b.written.counted in
      let counted = and_l (is_counted ds t) true (subst (λ z. list_all (is_counted ds) z ≡ true) e (all_right_of (is_counted ds) (bound_types s.vars) s.parts all)) in
      let own : list_all (λ v. nat_lt v 0) (flat_map vars_in (t ∷ [])) ≡ true = subst (λ z. list_all (λ v. nat_lt v 0) (flat_map vars_in z) ≡ true) e (subst (λ (m : ℕ). list_all (λ v. nat_lt v m) (flat_map vars_in s.parts) ≡ true) n (own_parts s b.own)) in
      let none = no_append (vars_in t) [] (none_below (flat_map vars_in (t ∷ [])) own) in
      record { known = known; counted = counted; closed = ap (λ ns. nat_eq (length ns) 0) none; struct = h }

pub made_constructed : (P : Program) (statics : List Ty) (t : Written) → IsMadeIn P statics t → IsOneConstructed (all_types P) (with_statics statics t).parts
made_constructed P statics t h =
    let ds = all_types P in
    let one = and_l (nat_eq (length t.parts) 1) (list_all (is_known (length ds)) (types_in t) && list_all (may_stand (length t.vars) h.written.usable) (flat_map vars_in (types_in t))) h.written.seen in
    let p = one_of t.parts one in
    let f = own_or_bound statics (length t.vars) in
    let made = and_r (nat_eq (length t.vars) 0) (list_all (λ q. is_struct_type ds (out-Ty q)) t.parts) h.made in
    let none : length t.vars ≡ 0 = (let e = and_l (nat_eq (length t.vars) 0) (list_all (λ q. is_struct_type ds (out-Ty q)) t.parts) h.made in grind (arith, e)) in
    let struct = and_l (is_struct_type ds (out-Ty p.0)) true (subst (λ z. list_all (λ q. is_struct_type ds (out-Ty q)) z ≡ true) p.1 made) in
    let e : map (put f) t.parts ≡ put f p.0 ∷ [] = ap (map (put f)) p.1 in
    (put f p.0, e, one_constructed ds (with_statics statics t) (put f p.0) (written_sig P statics t h.written) (long t.vars (put_bound f) ∙ none) e (struct_put ds f p.0 struct))
  where
    long : (bs : List Bound) (g : Bound → Bound) → length (map g bs) ≡ length bs
    long [] g = refl
    long (b ∷ bs) g = ap suc (long bs g)
