-- The bindings of a block stand behind the slots that were visible before it.
use Rattle.std.proofs.Common.{◌≡◌, ◌∙◌, ◌++◌, ◌∷◌, [], ap, sym, refl, ℕ, List, Option, Some, None, length, take, append_assoc}
use Rattle.std.proofs.lemmas.List.{append-nil}
use Rattle.std.proofs.Math.Seq.{take-append_seam}
use Rattle.jl_grammar.specs.declared.tree.Name.{Name}
use Rattle.jl_resolve_forms.specs.declared.state.Scope.{Scope}
use Rattle.jl_resolve_forms.specs.declared.state.State.{State}
use Rattle.jl_resolve_forms.specs.Scopes.{with_slot, take_slot, slot_of, clashing, bind}
use Rattle.jl_resolve_forms.specs.Expressions.{Says, binds, returns, does, all_said}

abbrev with_slots : Scope → List (Option (List ℕ)) → Scope
with_slots c more = record c { slots = c.slots ++ more }

take_slot_one : (n : Name) (c : Scope) (s : State) (o : Option ℕ) → (name : Option (List ℕ)) × ((take_slot n c o s).value ≡ with_slot name c)
take_slot_one n c s None = (Some n.bytes, refl)
take_slot_one n c s (Some slot) = (None, refl)

more_of : (xs : List Says) (c : Scope) (s : State) → (more : List (Option (List ℕ))) × ((all_said xs c s).value.1 ≡ with_slots c more)
unfolding bind
more_of [] c s = ([], ap (λ z. record c { slots = z }) (sym (append-nil c.slots)))
more_of (binds n x ∷ xs) c s =
    let y = x c s in
    let one = take_slot_one n c (clashing n.at n.bytes y.after) (slot_of c.slots n.bytes) in
    let b = bind n c y.after in
    let rest = more_of xs b.value b.after in
    (one.0 ∷ rest.0, rest.1 ∙ ap (λ z. with_slots z rest.0) one.1 ∙ ap (λ z. record c { slots = z }) (append_assoc c.slots (one.0 ∷ []) rest.0))
more_of (returns x ∷ xs) c s = more_of xs c (x c s).after
more_of (does x ∷ xs) c s = more_of xs c (x c s).after

-- cut to their number, the slots are those of before
pub cut_to : (xs : List Says) (c : Scope) (s : State) → record (all_said xs c s).value.1 { slots = take (length c.slots) (all_said xs c s).value.1.slots } ≡ c
cut_to xs c s =
    let m = more_of xs c s in
    ap (λ (z : Scope). record z { slots = take (length c.slots) z.slots }) m.1
    ∙ ap (λ z. record c { slots = z }) (take-append_seam c.slots m.0)
