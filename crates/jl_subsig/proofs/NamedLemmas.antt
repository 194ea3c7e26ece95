-- Where no upper bound mentions a variable.
use Rattle.std.proofs.Common.{◌≡◌, ◌∙◌, sym, ap, refl, ℕ, zero, suc, arith, Bool, true, false, not, ◌||◌, nat_eq, List, [], ◌∷◌, length, get_or}
use Rattle.std.specs.List.{flat_map, list_all, list_any}
use Rattle.jl_model.specs.declared.ty.Ty.{Ty}
use Rattle.jl_model.specs.declared.ty.Ty.TheViews as V
use Rattle.jl_model.specs.declared.ty.Bound.{Bound}
use Rattle.jl_model.specs.declared.ty.Written.{Written}
use Rattle.jl_model.specs.Rows.{free, high, vars_in, Stands, Occurs, standing, bounding}
use Rattle.jl_model.specs.Valid.{is_closed}
use Rattle.jl_model.proofs.FormLemmas.{vars-any, vars-nominal}
use Rattle.jl_model.proofs.PutLemmas.{and_l, and_r}
use Rattle.jl_search.proofs.HasLemmas.{has_of, has_none}

empty_of : (ns : List ℕ) → nat_eq (length ns) 0 ≡ true → ns ≡ []
empty_of [] e = refl
empty_of (n ∷ ns) e = let c : nat_eq (length (n ∷ ns)) 0 ≡ false = grind arith in let d : true ≡ false = sym e ∙ c in cc

pub closed_none : (t : Ty) → is_closed t ≡ true → vars_in t ≡ []
closed_none t e = empty_of (vars_in t) e

pub all_closed_none : (ts : List Ty) → list_all is_closed ts ≡ true → flat_map vars_in ts ≡ []
all_closed_none [] e = refl
all_closed_none (t ∷ ts) e =
    let a = closed_none t (and_l (is_closed t) (list_all is_closed ts) e) in
    let b = all_closed_none ts (and_r (is_closed t) (list_all is_closed ts) e) in rw (a, b) refl

pub closed_nominal : (t : Ty) (k : ℕ) (us vs : List Ty) → t ≡ V.Nominal k us → vs ≡ us → list_all is_closed vs ≡ true → vars_in t ≡ []
closed_nominal t k us vs e f h = ap vars_in e ∙ vars-nominal k us ∙ sym (ap (flat_map vars_in) f) ∙ all_closed_none vs h

or_left : (a b : Bool) → (not a || b) ≡ false → a ≡ true
or_left true b e = refl
or_left false b e = let c : true ≡ false = e in cc

or_right : (a b : Bool) → (not a || b) ≡ false → b ≡ false
or_right true b e = e
or_right false b e = let c : true ≡ false = e in cc

pub none_named : (bs : List Bound) → list_any (λ b. not (is_closed b.high)) bs ≡ false → (v : ℕ) → vars_in (get_or bs v free).high ≡ []
none_named [] e v = vars-any
none_named (b ∷ bs) e zero = closed_none b.high (or_left (is_closed b.high) (list_any (λ b. not (is_closed b.high)) bs) e)
none_named (b ∷ bs) e (suc v) = none_named bs (or_right (is_closed b.high) (list_any (λ b. not (is_closed b.high)) bs) e) v

-- there the variables of a row are those that stand in it
pub stands_there : (s : Written) (row : List Ty) → ((v : ℕ) → vars_in (high s v) ≡ []) → (v : ℕ) → Occurs s v row → Stands s v row
stands_there s row h v (standing w ts i) = i
stands_there s row h v (bounding w x ts o c) = absurd (has_none (vars_in (high s x)) v (h x) (has_of (vars_in (high s x)) v c))
