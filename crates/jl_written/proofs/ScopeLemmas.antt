-- A type in parentheses, step by step: the variables of its `where`, then the type, and how they stand in the text.
use Rattle.std.proofs.Common.{◌≡◌, ◌∙◌, ◌≤◌, [], ◌∷◌, ap, sym, refl, ℕ, zero, suc, arith, Bool, List, length, take, drop, map}
use Rattle.jl_model.specs.declared.ty.Ty.{Ty}
use Rattle.jl_model.specs.declared.ty.Decl.{Decl}
use Rattle.jl_typeread.specs.declared.tree.TypeText.{TypeText}
use Rattle.jl_typeread.specs.declared.tree.VarText.{VarText}
use Rattle.jl_typeread.specs.declared.tree.ArgText.TheViews as A
use Rattle.jl_typeread.specs.declared.tree.ArgText.TheOpen as F
use Rattle.jl_typeread.specs.declared.tree.ArgText.TheFolds.{fold-roll-TypeText}
use Rattle.jl_written.specs.declared.reading.Place.{Place}
use Rattle.jl_written.specs.declared.reading.Reading.{Reading}
use Rattle.jl_written.specs.declared.reading.Sight.{Sight}
use Rattle.jl_written.specs.declared.reading.TypeVar.{TypeVar}
use Rattle.jl_written.specs.Reads.{arg_step, type_step, var_step, ArgReads, type_reads, var_reads, TypeReads, VarReads, Seen, Typed, typed, scoped, seen_from, with_own, bind_all, bind_where, swap, without_places, places_behind, after_where, within}

where_places : (vs : List VarReads) (inside : Bool) (r : Reading) → (bind_where vs inside r).places ≡ r.places
where_places [] inside r = refl
where_places (v ∷ vs) inside r = refl

take_short : (k : ℕ) (vs : List TypeVar) → length (take k vs) ≤ length vs
take_short zero vs = omega arith
take_short (suc k) [] = omega arith
take_short (suc k) (v ∷ vs) = let h = take_short k vs in omega (arith, h)

paren_is :
    (ds : List Decl) (at : ℕ) (t : TypeText) (vs : List VarText) (s : Seen) (inside : Bool) (r : Reading)
    → type_reads ds (A.Paren at t vs) s inside r ≡ within (type_reads ds t) (map (var_reads ds) vs) s inside r
paren_is ds at t vs s inside r =
    ap (λ (z : TypeText). type_reads ds z s inside r) (sym (A.rolls-Paren at t vs))
    ∙ ap (λ (f : TypeReads). f s inside r) (fold-roll-TypeText ArgReads TypeReads VarReads (arg_step ds) (type_step ds) (var_step ds) (F.Paren at t vs))

-- what the type in front of the variables sees
abbrev Widens : ℕ → Sight → Sight → Type 0
Widens n s z = (first us : List TypeVar) → n ≤ length us → seen_from first us z ≡ with_own (drop n us) (seen_from first (take n us) s)

front_sees : (first vars vars1 : List TypeVar) (sight sight1 : Sight) (n : ℕ) → n ≡ length vars → take (length vars) vars1 ≡ vars → Widens n sight sight1
    → seen_from first vars1 sight1 ≡ with_own (drop (length vars) vars1) (seen_from first vars sight)
front_sees first vars vars1 sight sight1 n e k w =
    let a = take_short (length vars) vars1 in
    let b : length (take (length vars) vars1) ≡ length vars = ap (λ z. length z) k in
    w first vars1 (omega (arith, a, b, e))
    ∙ ap (λ m. with_own (drop m vars1) (seen_from first (take m vars1) sight)) e
    ∙ ap (λ z. with_own (drop (length vars) vars1) (seen_from first z sight)) k

pub paren_read :
    (ds : List Decl) (text t t1 : TypeText) (at : ℕ) (vs vs1 vs2 : List VarText) (first vars vars1 : List TypeVar) (sight sight1 : Sight) (inside : Bool) (r r1 r2 r3 r4 r5 : Reading) (ty : Ty)
    (n start middle : ℕ) (none before back behind slice : List Place)
    → text ≡ A.Paren at t vs → t1 ≡ t → vs1 ≡ vs → vs2 ≡ vs → n ≡ length vars → start ≡ length r.vars → middle ≡ length r2.vars
    → r1 ≡ bind_where (map (var_reads ds) vs1) inside r → before ≡ r1.places → none ≡ []
    → scoped (drop (length vars) vars1) r2 ≡ bind_all (map (var_reads ds) vs2) (seen_from first vars sight) [] (record r1 { places = none }) → take (length vars) vars1 ≡ vars
    → behind ≡ r2.places → back ≡ before → Widens n sight sight1
    → typed ty r3 ≡ type_reads ds t1 (seen_from first vars1 sight1) inside (record r2 { places = back })
    → slice ≡ behind → r4 ≡ places_behind slice r3 → r5 ≡ swap start middle r4 → typed ty r5 ≡ type_reads ds text (seen_from first vars sight) inside r
paren_read ds text t t1 at vs vs1 vs2 first vars vars1 sight sight1 inside r r1 r2 r3 r4 r5 ty n start middle none before back behind slice i g e1 e2 l f m w b o d k h p v u c q x =
    let xs = map (var_reads ds) vs in
    let s = seen_from first vars sight in
    let own = drop (length vars) vars1 in
    let r1_is : r1 ≡ bind_where xs inside r = w ∙ ap (λ (z : List VarText). bind_where (map (var_reads ds) z) inside r) e1 in
    let bound : scoped own r2 ≡ bind_all xs s [] (without_places (bind_where xs inside r)) =
    d ∙ ap (λ (z : List VarText). bind_all (map (var_reads ds) z) s [] (record r1 { places = none })) e2
    ∙ ap (λ (z : List Place). bind_all xs s [] (record r1 { places = z })) o
    ∙ ap (λ (z : Reading). bind_all xs s [] (without_places z)) r1_is in
    let back_is : back ≡ r.places = p ∙ b ∙ ap (λ (z : Reading). z.places) r1_is ∙ where_places xs inside r in
    let read : typed ty r3 ≡ type_reads ds t (with_own own s) inside (record r2 { places = r.places }) =
    u ∙ ap (λ (z : TypeText). type_reads ds z (seen_from first vars1 sight1) inside (record r2 { places = back })) g
    ∙ ap (λ (z : Seen). type_reads ds t z inside (record r2 { places = back })) (front_sees first vars vars1 sight sight1 n l k v)
    ∙ ap (λ (z : List Place). type_reads ds t (with_own own s) inside (record r2 { places = z })) back_is in
    let last : r5 ≡ swap (length r.vars) (length r2.vars) (places_behind r2.places r3) =
    x ∙ ap (λ (z : Reading). swap start middle z) (q ∙ ap (λ (z : List Place). places_behind z r3) (c ∙ h))
    ∙ ap (λ (z : ℕ). swap z middle (places_behind r2.places r3)) f ∙ ap (λ (z : ℕ). swap (length r.vars) z (places_behind r2.places r3)) m in
    ap (typed ty) last
    ∙ ap (λ (z : Typed). typed z.ty (swap (length r.vars) (length r2.vars) (places_behind r2.places z.after))) read
    ∙ ap (after_where (type_reads ds t) s inside (length r.vars) r.places) bound
    ∙ sym (paren_is ds at t vs s inside r)
    ∙ sym (ap (λ (z : TypeText). type_reads ds z s inside r) i)
