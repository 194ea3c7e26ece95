-- The first fault of a part that was read by itself, among those of the whole.
use Rattle.std.proofs.Common.{Bool, true, false, true≢false, cond, List, [], ◌∷◌, ◌≡◌, Option, Some, None, refl, sym, ap, ◌∙◌}
use Rattle.jl_written.specs.declared.fault.Fault.{Fault}
use Rattle.jl_written.specs.Answered.{comes_before, first_of}
use Rattle.jl_resolve_forms.specs.declared.state.State.{State}
use Rattle.jl_resolve_forms.specs.Scopes.{merge_fault}
use Rattle.jl_fault_laws.proofs.Firsts.{firsts, Tells}
use Rattle.jl_fault_laws.proofs.Order.{passes, neither}

-- the first of two faults, where there is a second one
abbrev pub merge : Option Fault → Option Fault → Option Fault
merge o None = o
merge o (Some g) = first_of o g

-- the first of three does not depend on which two are compared first
moved : (h g f : Fault) → first_of (first_of (Some h) g) f ≡ merge (Some h) (first_of (Some g) f)
moved h g f = by (comes_before g h) (comes_before f g) refl refl
  where
    earlier : (c : Bool) → comes_before f h ≡ c → comes_before g h ≡ true → comes_before f g ≡ true → Some f ≡ cond c (Some f) (Some h)
    earlier true z x y = refl
    earlier false z x y = absurd (true≢false (sym y ∙ passes f h g z x))

    by : (a b : Bool) → comes_before g h ≡ a → comes_before f g ≡ b → first_of (cond a (Some g) (Some h)) f ≡ merge (Some h) (cond b (Some f) (Some g))
    by true true x y = ap (λ c. cond c (Some f) (Some g)) y ∙ earlier (comes_before f h) refl x y
    by true false x y = ap (λ c. cond c (Some f) (Some g)) y ∙ ap (λ c. cond c (Some g) (Some h)) (sym x)
    by false true x y = refl
    by false false x y = ap (λ c. cond c (Some f) (Some h)) (neither f g h y x) ∙ ap (λ c. cond c (Some g) (Some h)) (sym x)

only_there : (b : Bool) (f g : Fault) → cond b (Some f) (Some g) ≡ merge None (cond b (Some f) (Some g))
only_there true f g = refl
only_there false f g = refl

step : (o p : Option Fault) (f : Fault) → first_of (merge o p) f ≡ merge o (first_of p f)
step o None f = refl
step None (Some g) f = only_there (comes_before f g) f g
step (Some h) (Some g) f = moved h g f

merges : (o p : Option Fault) (fs : List Fault) → firsts (merge o p) fs ≡ merge o (firsts p fs)
merges o p [] = refl
merges o p (f ∷ fs) = ap (λ x. firsts x fs) (step o p f) ∙ merges o (first_of p f) fs

pub merge_told : (fs : List Fault) (o p : Option Fault) → Tells fs None p → Tells fs o (merge o p)
merge_told fs o p h = record { found = h.found; is = ap (λ x. merge o x) h.is ∙ sym (merges o None h.found); only = λ g i. h.only g i; all = λ g i. h.all g i }

merge_fault_is : (o : Option Fault) (s : State) → merge s.fault o ≡ (merge_fault o s).fault
merge_fault_is None s = refl
merge_fault_is (Some f) s = refl

pub merge_fault_told : (fs : List Fault) (o : Option Fault) (s : State) → Tells fs None o → Tells fs s.fault (merge_fault o s).fault
merge_fault_told fs o s h = let q = merge_told fs s.fault o h in record { found = q.found; is = sym (merge_fault_is o s) ∙ q.is; only = λ g i. q.only g i; all = λ g i. q.all g i }
