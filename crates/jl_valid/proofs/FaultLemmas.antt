-- Where no fault stands behind a part, none stood before it, and a part that may note one has changed nothing.
use Rattle.std.proofs.Common.{◌≡◌, ◌∙◌, ap, sym, refl, ℕ, Bool, true, false, cond, Option, Some, None, true≢false}
use Rattle.jl_written.specs.declared.fault.Fault.{Fault}
use Rattle.jl_written.specs.declared.fault.StaticKind.{StaticKind}
use Rattle.jl_written.specs.Answered.{first_of, comes_before}
use Rattle.jl_resolve_forms.specs.declared.state.State.{State}
use Rattle.jl_resolve_forms.specs.Scopes.{note, note_if, merge_fault}

abbrev some : Option Fault → Bool
some None = false
some (Some f) = true

pub some_none : (f : Fault) → Some f ≡ None → ⊥
some_none f e = true≢false (ap some e)

pub first_some : (o : Option Fault) (f : Fault) → first_of o f ≡ None → ⊥
first_some None f e = some_none f e
first_some (Some g) f e = by (comes_before f g) e
  where
    by : (b : Bool) → cond b (Some f) (Some g) ≡ None → ⊥
    by true e = some_none f e
    by false e = some_none g e

pub no_note : (at : ℕ) (k : StaticKind) (s : State) → (note at k s).fault ≡ None → ⊥
no_note at k s e = first_some s.fault (record { at = at; kind = k }) e

pub note_if_none : (at : ℕ) (o : Option StaticKind) (s : State) → (note_if at o s).fault ≡ None → o ≡ None
note_if_none at None s e = refl
note_if_none at (Some k) s e = absurd (no_note at k s e)

pub note_if_same : (at : ℕ) (o : Option StaticKind) (s : State) → (note_if at o s).fault ≡ None → note_if at o s ≡ s
note_if_same at None s e = refl
note_if_same at (Some k) s e = absurd (no_note at k s e)

pub merge_fault_none : (o : Option Fault) (s : State) → (merge_fault o s).fault ≡ None → o ≡ None
merge_fault_none None s e = refl
merge_fault_none (Some f) s e = absurd (no_note f.at f.kind s e)

pub merge_fault_same : (o : Option Fault) (s : State) → (merge_fault o s).fault ≡ None → merge_fault o s ≡ s
merge_fault_same None s e = refl
merge_fault_same (Some f) s e = absurd (no_note f.at f.kind s e)

-- a note under a test
pub test_false : (b : Bool) (at : ℕ) (k : StaticKind) (s : State) → (cond b (note at k s) s).fault ≡ None → b ≡ false
test_false true at k s e = absurd (no_note at k s e)
test_false false at k s e = refl

pub test_same : (b : Bool) (at : ℕ) (k : StaticKind) (s : State) → (cond b (note at k s) s).fault ≡ None → cond b (note at k s) s ≡ s
test_same true at k s e = absurd (no_note at k s e)
test_same false at k s e = refl

pub clean : (s z : State) → z.fault ≡ None → z ≡ s → s.fault ≡ None
clean s z e same = ap (λ (y : State). y.fault) (sym same) ∙ e
