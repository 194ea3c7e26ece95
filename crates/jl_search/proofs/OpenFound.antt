-- What stands at the places of a variable in arguments equals what was put for it.
use Rattle.std.proofs.Common.{◌≡◌, ◌∙◌, sym, ap, subst, refl, ℕ, cond, nat_eq, List, [], ◌∷◌, map, None, Some}
use Rattle.std.specs.List.{flat_map}
use Rattle.jl_model.specs.declared.ty.Ty.{Ty}
use Rattle.jl_model.specs.declared.ty.Ty.TheViews.{out-Ty, outs-Nominal}
use Rattle.jl_model.specs.declared.ty.Ty.TheViews as V
use Rattle.jl_model.specs.declared.ty.Decl.{Decl}
use Rattle.jl_model.specs.Ancestors.{table_of}
use Rattle.jl_model.specs.Rows.{vars_in}
use Rattle.jl_model.specs.Subtype.{Table, put, Equals, Equal, equals_more}
use Rattle.jl_model.specs.Normal.{IsNormal, AllNormal, more}
use Rattle.jl_model.specs.Refusals.{Declared}
use Rattle.jl_model.specs.Found.{first, arguments_of, find_arg}
use Rattle.jl_model.proofs.TypeInduction.{Each}
use Rattle.jl_model.proofs.FormLemmas.{is_nominal, is_var, put-nominal, put-var, vars-nominal, vars-var}
use Rattle.jl_search.specs.Open.{IsOpen, AreOpen, closed, variable, applied, open_end, open_more}
use Rattle.jl_search.proofs.GoodLemmas.{Good, good_both, good_same, bare_good, at_var}
use Rattle.jl_search.proofs.FindLemmas as L
use Rattle.jl_search.proofs.EqualLemmas.{nominal_form}

normal_head : (n : Table) (x : Ty) (xs : List Ty) → AllNormal n (x ∷ xs) → IsNormal n x
normal_head n x xs (more t ts p q) = p

normal_tail : (n : Table) (x : Ty) (xs : List Ty) → AllNormal n (x ∷ xs) → AllNormal n xs
normal_tail n x xs (more t ts p q) = q

-- where o holds of an argument, it holds of the arguments inside
module _ (ds : List Decl) (declared : Declared ds) (f : ℕ → Ty) (v : ℕ) (o : Ty → Type 0) (inside : (m : ℕ) (xs : List Ty) → o (V.Nominal m xs) → Each o xs) where
  abbrev n : Table
  n = table_of ds

  abbrev Same : Ty → Type 0
  Same y = Equal n y (f v) × o y

  mutual
    arg_good : (u : Ty) → IsOpen u → (x : Ty) → IsNormal n x → o x → Equal n x (put f u) → Good Same v (find_arg v u x) (vars_in u)
    arg_good u (closed t e) x q w z = bare_good Same v (find_arg v u x) (vars_in u) (L.arg-none v u x e) e
    arg_good u (variable t w j) x q k z =
        let m = is_var u w j in
        let z2 : Equal n x (f w) = let i = ap (put f) m ∙ put-var f w in rw i at z in
        let Q : ℕ → Type 0 = λ y. Equal n x (f y) in
        good_same Same v (find_arg v u x) (cond (nat_eq v w) (Some x) None) (vars_in u) (w ∷ []) (ap (λ y. find_arg v y x) m ∙ L.arg-var v x w) (ap vars_in m ∙ vars-var w)
        (at_var Same v w x (nat_eq v w) refl (λ e. (subst Q (sym e) z2, k)))
    arg_good u (applied t m us j k) x q w z =
        let i = is_nominal u m us j in
        let r = nominal_form ds declared x m (map (put f) us) q (let e = ap (put f) i ∙ put-nominal f m us in rw e at z) in
        let a : arguments_of (out-Ty x) ≡ r.0 = ap (λ y. arguments_of (out-Ty y)) r.1 ∙ ap arguments_of (outs-Nominal m r.0) in
        good_same Same v (find_arg v u x) (first (map (find_arg v) us) r.0) (vars_in u) (flat_map vars_in us)
        (ap (λ y. find_arg v y x) i ∙ L.arg-nominal v x m us ∙ ap (first (map (find_arg v) us)) a) (ap vars_in i ∙ vars-nominal m us)
        (args_good us k r.0 r.3 (inside m r.0 (subst o r.1 w)) r.2)

    pub args_good : (us : List Ty) → AreOpen us → (xs : List Ty) → AllNormal n xs → Each o xs → Equals n xs (map (put f) us)
        → Good Same v (first (map (find_arg v) us) xs) (flat_map vars_in us)
    args_good us open_end xs q w z = tt
    args_good us (open_more u vs j k) [] q w z = elim z [ ]
    args_good us (open_more u vs j k) (x ∷ xs) q w (equals_more a b as_ bs c d z) =
        good_both Same v (find_arg v u x) (first (map (find_arg v) vs) xs) (vars_in u) (flat_map vars_in vs)
        (arg_good u j x (normal_head n x xs q) w.0 (c, d)) (args_good vs k xs (normal_tail n x xs q) w.1 z)
