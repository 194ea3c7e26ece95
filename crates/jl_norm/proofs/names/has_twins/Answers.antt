use Rattle.std.proofs.Common.{◌≡◌, ◌∙◌, sym, ap, subst, subst₂, refl, arith, ℕ, ◌+◌, ◌<◌, List, [], map, length, length-set, get_or, set, true, false}
use Rattle.std.specs.List.{Contains}
use Rattle.std.proofs.lemmas.List.{get_or-map, length-map, take-map}
use Rattle.jl_model.specs.declared.ty.Field.{Field}
use Rattle.jl_norm.specs.Slots.{slot_of}
use Rattle.jl_norm.proofs.NameLemmas.{TwoPlaces, SlotsTaken, IsNewAt, twin_before, new_by_names, new_by_slot, distinct_more, slots_more}
use Rattle.jl_norm.proofs.names.has_twins.Goals as goal
use Rattle.jl_norm.proofs.names.has_twins.Goals.{else-taken-slot-via-then-taken-slot+else-is_named, else-taken-slot-via-else-taken-slot}

abbrev names : List Field → List (List ℕ)
names fs = map (λ f. f.name) fs

named : (fs : List Field) (i : ℕ) (f : Field) (n : List ℕ) → i < length fs → f ≡ get_or fs i f → n ≡ f.name
    → get_or (names fs) i [] ≡ n
named fs i f n h e k = get_or-map (λ (f : Field). f.name) fs i f [] h ∙ ap (λ (f : Field). f.name) (sym e) ∙ sym k

pub returns-then-is_named : goal.returns-then-is_named
returns-then-is_named c =
    let fs = c.as_slice-fields.result.now in
    let i = c.loop-i.i in
    let name = named fs i c.index-fields-i.result c.as_slice-name.result.now c.loop-i-test.true c.index-fields-i.is c.as_slice-name.ensures in
    let found = subst₂ Contains (sym (take-map (λ (f : Field). f.name) i fs)) (sym name) (c.is_named.ensures.0 c.if-is_named.true) in
    let twins = twin_before (names fs) i (omega (arith, length-map fs (λ (f : Field). f.name))) found in (
      (λ e. subst (λ z. TwoPlaces (names z)) c.as_slice-fields.ensures twins),
      (λ d. refl),
    )

pub loop-i-preserved : goal.loop-i-preserved
loop-i-preserved c =
    let fs = c.as_slice-fields.result.now in
    let ns = names fs in
    let l = c.loop-i in
    let name = named fs l.i c.index-fields-i.result c.as_slice-name.result.now c.loop-i-test.true c.index-fields-i.is c.as_slice-name.ensures in
    let slot : slot_of (get_or ns l.i []) ≡ c.slot_of-slot.result = ap slot_of name ∙ sym c.slot_of-slot.ensures.value in
    let new : IsNewAt ns l.i = elim c.else-taken-slot.branch [
      | else-taken-slot-via-then-taken-slot+else-is_named w ↦ new_by_names ns l.i
          (omega (arith, length-map fs (λ (f : Field). f.name)))
          (λ h.
          let e : w.is_named.result ≡ true = w.is_named.ensures.1 (subst₂ Contains (take-map (λ (f : Field). f.name) l.i fs) name h) in
          cc)
      | else-taken-slot-via-else-taken-slot w ↦ new_by_slot ns l.i l.taken l.invariant.1
          (ap (λ s. get_or l.taken s false) slot ∙ w.if-taken-slot.false)
    ] in (
      distinct_more ns l.i l.invariant.0 new,
      subst (λ s. SlotsTaken (set l.taken s true) ns (l.i + 1)) slot
          (slots_more ns l.i l.taken l.invariant.1 (omega (arith, slot, l.invariant.2))),
      omega (arith, length-set l.taken c.slot_of-slot.result true, l.invariant.2),
    )
