-- What the tables of names find, by the lists.
use Rattle.std.proofs.Common.{◌≡◌, ◌∙◌, refl, ap, ℕ, ◌+◌, Bool, true, false, cond, List, [], ◌∷◌, Option, Some, None, is_some, ◌||◌}
use Rattle.jl_program.specs.Names.{same_text, is_among}
use Rattle.jl_grammar.specs.declared.tree.Name.{Name}
use Rattle.jl_names.specs.Numbers.{number_in, with_places, with_marks_of, named_slots}
use Rattle.jl_resolve_forms.specs.Scopes.{slot_from, slot_of}
use Rattle.jl_resolve_forms.specs.Expressions.{names_in}
use Rattle.jl_resolve_forms.specs.Top.{first_at}

slot_in : (i : ℕ) (ss : List (Option (List ℕ))) (name : List ℕ) → number_in (named_slots i ss) name ≡ slot_from i ss name
slot_in i [] name = refl
slot_in i (None ∷ ss) name = slot_in (i + 1) ss name
slot_in i (Some n ∷ ss) name = ap (cond (same_text name n) (Some i)) (slot_in (i + 1) ss name)

pub slot_is : (ss : List (Option (List ℕ))) (name : List ℕ) → number_in (named_slots 0 ss) name ≡ slot_of ss name
slot_is ss name = slot_in 0 ss name

pub slot_back : (ss : List (Option (List ℕ))) (name : List ℕ) → slot_of ss name ≡ None → number_in (named_slots 0 ss) name ≡ None
slot_back ss name h = slot_in 0 ss name ∙ h

pub first_is : (ns : List Name) (name : List ℕ) → number_in (with_marks_of ns) name ≡ first_at ns name
first_is [] name = refl
first_is (n ∷ ns) name = ap (cond (same_text name n.bytes) (Some n.at)) (first_is ns name)

some_or : (b : Bool) (n : ℕ) (o : Option ℕ) → is_some (cond b (Some n) o) ≡ (b || is_some o)
some_or true n o = refl
some_or false n o = refl

among_in : (i : ℕ) (ns : List (List ℕ)) (name : List ℕ) → is_some (number_in (with_places i ns) name) ≡ is_among name ns
among_in i [] name = refl
among_in i (n ∷ ns) name = some_or (same_text name n) i (number_in (with_places (i + 1) ns) name) ∙ ap (λ b. same_text name n || b) (among_in (i + 1) ns name)

pub among_is : (ns : List (List ℕ)) (name : List ℕ) → is_some (number_in (with_places 0 ns) name) ≡ is_among name ns
among_is ns name = among_in 0 ns name

pub named_is : (ns : List Name) (name : List ℕ) → is_some (number_in (with_marks_of ns) name) ≡ is_among name (names_in ns)
named_is [] name = refl
named_is (n ∷ ns) name = some_or (same_text name n.bytes) n.at (number_in (with_marks_of ns) name) ∙ ap (λ b. same_text name n.bytes || b) (named_is ns name)
