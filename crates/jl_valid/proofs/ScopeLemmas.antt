-- What is visible in the text is visible in the program.
use Rattle.std.proofs.Common.{◌≡◌, ◌∙◌, ap, sym, refl, ℕ, ◌+◌, ◌<◌, ◌≤◌, arith, Bool, true, false, cond, List, [], ◌∷◌, ◌++◌, length, replicate, Option, Some, None, length-append}
use Rattle.std.proofs.lemmas.List.{get_or-replicate}
use Rattle.jl_program.specs.Names.{same_text, is_among, builtin_names}
use Rattle.jl_program.specs.Scope.{View}
use Rattle.jl_grammar.specs.declared.tree.Name.{Name}
use Rattle.jl_written.specs.declared.fault.StaticKind.TheVariants as kind
use Rattle.jl_written.specs.declared.reading.TypeVar.{TypeVar}
use Rattle.jl_written.specs.Meaning.{place_from}
use Rattle.jl_resolve_forms.specs.declared.state.Scope.{Scope}
use Rattle.jl_resolve_forms.specs.declared.state.State.{State}
use Rattle.jl_resolve_forms.specs.Scopes.{slot_from, slot_of, clashing, with_slot, take_slot, bind}
use Rattle.jl_valid.specs.Adds.{Every}
use Rattle.jl_valid.specs.Parts.{IsFlagged, Sees}
use Rattle.jl_valid.proofs.FaultLemmas.{no_note, test_same}

abbrev number : Option ℕ → ℕ
number None = 0
number (Some n) = n

abbrev is_some : Option ℕ → Bool
is_some None = false
is_some (Some n) = true

pub same_number : (i j : ℕ) → Some i ≡ Some j → i ≡ j
same_number i j e = ap number e

pub no_number : (j : ℕ) → None ≡ Some j → ⊥
no_number j e = let b : false ≡ true = ap is_some e in cc

-- a slot that is found is visible
slot_within : (i : ℕ) (ss : List (Option (List ℕ))) (name : List ℕ) (j : ℕ) → slot_from i ss name ≡ Some j → j < i + length ss
slot_within i [] name j e = absurd (no_number j e)
slot_within i (None ∷ ss) name j e = omega (arith, slot_within (i + 1) ss name j e)
slot_within i (Some n ∷ ss) name j e = by (same_text name n) (slot_within (i + 1) ss name j) e
  where
    by : (b : Bool) → (slot_from (i + 1) ss name ≡ Some j → j < i + 1 + length ss) → cond b (Some i) (slot_from (i + 1) ss name) ≡ Some j → j < i + length (Some n ∷ ss)
    by true later h = omega (arith, same_number i j h)
    by false later h = omega (arith, later h)

pub slot_seen : (ss : List (Option (List ℕ))) (name : List ℕ) (j : ℕ) → slot_of ss name ≡ Some j → j < length ss
slot_seen ss name j e = omega (arith, slot_within 0 ss name j e)

-- a name that is found stands in the list
place_within : (i : ℕ) (ns : List (List ℕ)) (name : List ℕ) (j : ℕ) → place_from i ns name ≡ Some j → j < i + length ns
place_within i [] name j e = absurd (no_number j e)
place_within i (n ∷ ns) name j e = by (same_text name n) (place_within (i + 1) ns name j) e
  where
    by : (b : Bool) → (place_from (i + 1) ns name ≡ Some j → j < i + 1 + length ns) → cond b (Some i) (place_from (i + 1) ns name) ≡ Some j → j < i + length (n ∷ ns)
    by true later h = omega (arith, same_number i j h)
    by false later h = omega (arith, later h)

pub place_there : (ns : List (List ℕ)) (name : List ℕ) (j : ℕ) → place_from 0 ns name ≡ Some j → j < length ns
place_there ns name j e = omega (arith, place_within 0 ns name j e)

-- a name that is not among the first ones comes after them
place_from_on : (ns : List (List ℕ)) (i : ℕ) (name : List ℕ) (j : ℕ) → place_from i ns name ≡ Some j → i ≤ j
place_from_on [] i name j e = absurd (no_number j e)
place_from_on (n ∷ ns) i name j e = by (same_text name n) (place_from_on ns (i + 1) name j) e
  where
    by : (b : Bool) → (place_from (i + 1) ns name ≡ Some j → i + 1 ≤ j) → cond b (Some i) (place_from (i + 1) ns name) ≡ Some j → i ≤ j
    by true later h = omega (arith, same_number i j h)
    by false later h = omega (arith, later h)

pub place_past : (ms ns : List (List ℕ)) (i : ℕ) (name : List ℕ) (j : ℕ) → place_from i ms name ≡ None → place_from i (ms ++ ns) name ≡ Some j → i + length ms ≤ j
place_past [] ns i name j n e = omega (arith, place_from_on ns i name j e)
place_past (m ∷ ms) ns i name j n e = by (same_text name m) (place_past ms ns (i + 1) name j) n e
  where
    by :
        (b : Bool) → (place_from (i + 1) ms name ≡ None → place_from (i + 1) (ms ++ ns) name ≡ Some j → i + 1 + length ms ≤ j)
        → cond b (Some i) (place_from (i + 1) ms name) ≡ None → cond b (Some i) (place_from (i + 1) (ms ++ ns) name) ≡ Some j → i + length (m ∷ ms) ≤ j
    by true later h g = absurd (no_number i (sym h))
    by false later h g = omega (arith, later h g)

-- one more slot
abbrev pub one_more : View → View
one_more v = record { slots = v.slots + 1; statics = v.statics }

pub sees_slot : (o : Option (List ℕ)) (c : Scope) (v : View) → Sees c v → Sees (with_slot o c) (one_more v)
sees_slot o c v h = record { slots = omega (arith, length-append c.slots (o ∷ []), h.slots); statics = h.statics }

take_slot_sees : (n : Name) (c : Scope) (s : State) (o : Option ℕ) (v : View) → Sees c v → Sees (take_slot n c o s).value (one_more v)
take_slot_sees n c s None v h = sees_slot (Some n.bytes) c v h
take_slot_sees n c s (Some i) v h = sees_slot None c v h

pub bind_sees : (n : Name) (c : Scope) (s : State) (v : View) → Sees c v → Sees (bind n c s).value (one_more v)
unfolding bind
bind_sees n c s v h = take_slot_sees n c (clashing n.at n.bytes s) (slot_of c.slots n.bytes) v h

take_slot_same : (n : Name) (c : Scope) (s : State) (o : Option ℕ) → (take_slot n c o s).after.fault ≡ None → (take_slot n c o s).after ≡ s
take_slot_same n c s None e = refl
take_slot_same n c s (Some i) e = absurd (no_note n.at kind.Rebound s e)

-- a binding adds nothing to the state
pub bind_same : (n : Name) (c : Scope) (s : State) → (bind n c s).after.fault ≡ None → (bind n c s).after ≡ s
unfolding bind
bind_same n c s e =
    let z = clashing n.at n.bytes s in
    let first = take_slot_same n c z (slot_of c.slots n.bytes) e in
    first ∙ test_same (is_among n.bytes builtin_names) n.at kind.NameClash s (ap (λ (y : State). y.fault) (sym first) ∙ e)

-- of every scope something is seen
abbrev total : List TypeVar → ℕ
total [] = 0
total (x ∷ xs) = x.number + 1 + total xs

flagged : (n : ℕ) (xs : List TypeVar) → total xs ≤ n → Every (IsFlagged (replicate n true)) xs
flagged n [] l = tt
flagged n (x ∷ xs) l = ((λ u. get_or-replicate n x.number true false (omega (arith, l))), flagged n xs (omega (arith, l)))

abbrev pub some_view : Scope → View
some_view c = record { slots = length c.slots; statics = replicate (total c.statics) true }

pub some_sees : (c : Scope) → Sees c (some_view c)
some_sees c = record { slots = refl; statics = flagged (total c.statics) c.statics (omega arith) }
