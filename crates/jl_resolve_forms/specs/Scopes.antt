-- What is visible at a place, and what a part of the text adds to it (Julia manual, Scope of Variables).
use Rattle.std.specs.Prelude.{ℕ, ◌+◌, if◌then◌else◌, List, [], ◌∷◌, ◌++◌, Option, Some, None}
use Rattle.jl_program.specs.Names.{same_text, is_among, builtin_names}
use Rattle.jl_grammar.specs.declared.tree.Name.{Name}
use Rattle.jl_written.specs.declared.fault.Fault.{Fault}
use Rattle.jl_written.specs.declared.fault.StaticKind.{StaticKind}
use Rattle.jl_written.specs.declared.fault.StaticKind.TheVariants as kind
use Rattle.jl_written.specs.Answered.{first_of}
use Rattle.jl_resolve_forms.specs.declared.state.Scope.{Scope}
use Rattle.jl_resolve_forms.specs.declared.state.State.{State}
use Rattle.jl_resolve_forms.specs.Resolver.{Resolver, pure, modify, ◌>>◌}

-- the slot of a name, where the slots are numbered from i on
abbrev pub slot_from : ℕ → List (Option (List ℕ)) → List ℕ → Option ℕ
slot_from i [] name = None
slot_from i (None ∷ ss) name = slot_from (i + 1) ss name
slot_from i (Some n ∷ ss) name = if same_text name n then Some i else slot_from (i + 1) ss name

abbrev pub slot_of : List (Option (List ℕ)) → List ℕ → Option ℕ
slot_of ss name = slot_from 0 ss name

-- a fault stands at this place
abbrev pub note : ℕ → StaticKind → State → State
note at k s = record s { fault = first_of s.fault (record { at = at; kind = k }) }

-- a fault, where there is one
abbrev pub note_if : ℕ → Option StaticKind → State → State
note_if at None s = s
note_if at (Some k) s = note at k s

-- the first fault of a part that was read by itself
abbrev pub merge_fault : Option Fault → State → State
merge_fault None s = s
merge_fault (Some f) s = note f.at f.kind s

-- no script binds a built-in name
abbrev pub clashing : ℕ → List ℕ → State → State
clashing at name s = if is_among name builtin_names then note at kind.NameClash s else s

-- the next slot, with or without a name
abbrev pub with_slot : Option (List ℕ) → Scope → Scope
with_slot o c = record c { slots = c.slots ++ o ∷ [] }

-- a name takes the next slot; where it is visible already the slot has no name
abbrev pub take_slot : Name → Scope → Option ℕ → Resolver Scope
take_slot n c None = pure (with_slot (Some n.bytes) c)
take_slot n c (Some _) = do
  modify (note n.at kind.Rebound)
  pure (with_slot None c)

-- what is visible after a binding
unfoldable pub bind : Name → Scope → Resolver Scope
bind n c = do
  modify (clashing n.at n.bytes)
  take_slot n c (slot_of c.slots n.bytes)
