-- The equations of a variable's absence, one for each form.
use Rattle.std.proofs.Common.{◌≡◌, ◌∙◌, sym, ap, refl, ℕ, zero, suc, ◌+◌, ◌<◌, ◌%◌, arith, add-one, Bool, true, false, ◌&&◌, ◌||◌, not, nat_eq, List, [], ◌∷◌, drop, length, get_or}
use Rattle.std.specs.List.{list_all}
use Rattle.jl_model.specs.declared.ty.Ty.{Ty}
use Rattle.jl_model.specs.declared.ty.Ty.TheOpen.{Any, Union, Tuple, Nominal, Var}
use Rattle.jl_model.specs.declared.ty.Ty.TheViews.{rolls-Any, rolls-Union, rolls-Tuple, rolls-Nominal, rolls-Var}
use Rattle.jl_model.specs.declared.ty.Ty.TheViews as V
use Rattle.jl_model.specs.declared.ty.Ty.TheVariants as W
use Rattle.jl_model.specs.declared.ty.Ty.TheFolds.{fold-roll-Ty}
use Rattle.jl_model.proofs.FormLemmas.{all_of}
use Rattle.jl_types.proofs.ReduceLemmas.{drop_is}
use Rattle.jl_model.specs.declared.ty.Bound.{Bound}
use Rattle.jl_search.specs.Absent.{lacks, lacks_step}
use Rattle.jl_search.specs.Occurring.{in_flagged}

pub lack-any : (m v : ℕ) → lacks m v W.Any ≡ true
lack-any m v = ap (lacks m v) (sym rolls-Any) ∙ fold-roll-Ty Bool (lacks_step m v) Any

pub lack-union : (m v : ℕ) (ts : List Ty) → lacks m v (V.Union ts) ≡ list_all (lacks m v) ts
lack-union m v ts = ap (lacks m v) (sym (rolls-Union ts)) ∙ fold-roll-Ty Bool (lacks_step m v) (Union ts) ∙ all_of (lacks m v) ts

pub lack-tuple : (m v : ℕ) (ts : List Ty) → lacks m v (V.Tuple ts) ≡ list_all (lacks m v) ts
lack-tuple m v ts = ap (lacks m v) (sym (rolls-Tuple ts)) ∙ fold-roll-Ty Bool (lacks_step m v) (Tuple ts) ∙ all_of (lacks m v) ts

pub lack-nominal : (m v k : ℕ) (ts : List Ty) → lacks m v (V.Nominal k ts) ≡ list_all (lacks m v) ts
lack-nominal m v k ts = ap (lacks m v) (sym (rolls-Nominal k ts)) ∙ fold-roll-Ty Bool (lacks_step m v) (Nominal k ts) ∙ all_of (lacks m v) ts

pub lack-var : (m v w : ℕ) → lacks m v (W.Var w) ≡ not (nat_eq (w % m) v)
lack-var m v w = ap (lacks m v) (sym (rolls-Var w)) ∙ fold-roll-Ty Bool (lacks_step m v) (Var w)

pub lack-step : (m v : ℕ) (ts : List Ty) (i : ℕ) (t : Ty) → i < length ts → t ≡ get_or ts i t → list_all (lacks m v) (drop i ts) ≡ (lacks m v t && list_all (lacks m v) (drop (i + 1) ts))
lack-step m v ts i t l e = ap (list_all (lacks m v)) (drop_is ts i t l e)

pub ruleset lacking = (lack-step, lack-any, lack-union, lack-tuple, lack-nominal, lack-var)

-- the bounds and flags from a variable on
pub flag-step : (m v : ℕ) (bs : List Bound) (fs : List Bool) (i : ℕ) (b : Bound) (f : Bool) → i < length bs → i < length fs → b ≡ get_or bs i b → f ≡ get_or fs i f
    → in_flagged m v (drop i bs) (drop i fs) ≡ ((f && not (lacks m v b.high)) || in_flagged m v (drop (i + 1) bs) (drop (i + 1) fs))
flag-step m v [] fs i b f l k e h = absurd (omega arith)
flag-step m v (c ∷ bs) [] i b f l k e h = absurd (omega arith)
flag-step m v (c ∷ bs) (g ∷ fs) zero b f l k e h = rw (e, h) refl
flag-step m v (c ∷ bs) (g ∷ fs) (suc i) b f l k e h = rw add-one (rw add-one at (flag-step m v bs fs i b f (omega arith) (omega arith) e h))

pub flag-off : (m v : ℕ) (bs : List Bound) (fs : List Bool) (i : ℕ) (f : Bool) → i < length bs → i < length fs → f ≡ get_or fs i f → f ≡ false
    → in_flagged m v (drop i bs) (drop i fs) ≡ in_flagged m v (drop (i + 1) bs) (drop (i + 1) fs)
flag-off m v [] fs i f l k e h = absurd (omega arith)
flag-off m v (c ∷ bs) [] i f l k e h = absurd (omega arith)
flag-off m v (c ∷ bs) (g ∷ fs) zero f l k e h = let i : g ≡ false = sym e ∙ h in rw i refl
flag-off m v (c ∷ bs) (g ∷ fs) (suc i) f l k e h = rw add-one (rw add-one at (flag-off m v bs fs i f (omega arith) (omega arith) e h))

pub flag-none : (m v : ℕ) (fs : List Bool) → in_flagged m v [] fs ≡ false
flag-none m v fs = refl

pub ruleset flagging = (flag-step, flag-off, flag-none)
