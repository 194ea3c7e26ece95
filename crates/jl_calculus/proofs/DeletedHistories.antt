-- A deletion, computed: `f() = 1`, `late() = f()`, `f() = 2`, and then the methods of `f` without parameters are deleted.
use Rattle.std.proofs.Common.{◌≡◌, refl, ap, sym, subst, inr, ℕ, zero, suc, ◌<◌, ◌≤◌, arith, Bool, true, false, nat_eq, List, [], ◌∷◌, ◌++◌, length, Option, None, Some}
use Rattle.std.specs.Prelude.{◌↔◌}
use Rattle.std.specs.List.{Contains}
use Rattle.jl_model.specs.declared.limits.TheConstants.{MOST_WORLDS}
use Rattle.jl_model.specs.Choice.{Method}
use Rattle.jl_model.specs.Signature.{Applicable, SameSignature}
use Rattle.jl_program.specs.declared.choice.Choice.TheVariants as C
use Rattle.jl_program.specs.declared.tree.Delete.{Delete}
use Rattle.jl_program.specs.declared.tree.Program.{Program}
use Rattle.jl_program.specs.Prelude.{plain}
use Rattle.jl_program.specs.Scope.{types_of}
use Rattle.jl_calculus.specs.declared.history.Change.{Change}
use Rattle.jl_calculus.specs.declared.history.Change.TheVariants as Ch
use Rattle.jl_calculus.specs.declared.history.Event.{Event}
use Rattle.jl_calculus.specs.declared.history.Event.TheVariants as Ev
use Rattle.jl_calculus.specs.declared.history.TraceItem.TheVariants.{Look, Def, Del, Absent}
use Rattle.jl_calculus.specs.Legal.{MayCome}
use Rattle.jl_calculus.specs.Past.{IsTrueOf, IsInOrder}
use Rattle.jl_calculus.specs.Ranges.{HasNoEnd, EndsWith, MayBegin, IsRightFill}
use Rattle.jl_calculus.specs.Words.{IsToCut}
use Rattle.jl_calculus.specs.World.{change_at, world_of, methods_made, Deletes, Stands, FindsMethod, Selects}
use Rattle.jl_program.proofs.FirstChoices.{only_choice}
use Rattle.jl_calculus.proofs.GrowthLemmas.{touches_known}
use Rattle.jl_calculus.proofs.SelectLemmas.{selects_one}
use Rattle.jl_calculus.proofs.TaskHistories.{Late, key, no_types, no_arguments}
use Rattle.jl_calculus.proofs.TaskRuns.{empty_below, method, both, latest_chosen}

-- the program with one deletion place
abbrev pub Gone : Program
Gone = record Late { deletes = record { function = 12; sig = plain no_types } ∷ [] }

-- three definitions, a key and its row
abbrev made : List Event
made = Ev.Begin 9 ∷ Ev.Def 0 14 ∷ Ev.Def 0 15 ∷ Ev.Def 0 16 ∷ Ev.Key (key 12) ∷ Ev.Fill 0 16 17 ∷ []

abbrev deleted : List Event
deleted = made ++ Ev.Del 0 0 ∷ []

-- a deletion makes a world
three_worlds : world_of made ≡ 17
three_worlds = refl

next_world : world_of deleted ≡ 18
next_world = refl

same_signature : SameSignature (types_of Gone) (plain no_types) (plain no_types)
same_signature = (empty_below (types_of Gone), empty_below (types_of Gone))

-- ---- in the world before it both definitions stand

nothing_deleted : (e : ℕ) → 15 ≤ e → e ≤ 17 → Deletes Gone (change_at deleted e) 12 (plain no_types) → ⊥
nothing_deleted e low high d = by e refl (nat_eq e 15) (nat_eq e 16) refl refl d
  where
    by : (n : ℕ) → n ≡ e → (a b : Bool) → nat_eq e 15 ≡ a → nat_eq e 16 ≡ b → Deletes Gone (change_at deleted n) 12 (plain no_types) → ⊥
    by n q true b p r k = subst (λ (x : ℕ). Deletes Gone (change_at deleted x) 12 (plain no_types)) (let z : n ≡ 15 = grind (arith, q, p) in z) k
    by n q false true p r k = subst (λ (x : ℕ). Deletes Gone (change_at deleted x) 12 (plain no_types)) (let z : n ≡ 16 = grind (arith, q, r) in z) k
    by n q false false p r k = subst (λ (x : ℕ). Deletes Gone (change_at deleted x) 12 (plain no_types)) (let z : n ≡ 17 = grind (arith, q, p, r, low, high) in z) k

stands_there : (m : Method) → Contains (both (types_of Gone)) m → Stands Gone deleted 12 17 m
stands_there m (zero, l, e) = subst (Stands Gone deleted 12 17) e (record { made = (0, omega arith, refl); kept = λ d low high k. nothing_deleted d (omega (arith, low)) high k })
stands_there m (suc zero, l, e) = subst (Stands Gone deleted 12 17) e (record { made = (1, omega arith, refl); kept = λ d low high k. absurd (omega (arith, low, high)) })
stands_there m (suc (suc k), l, e) = absurd (omega (arith, l))

-- and the later one is chosen, also after the deletion
pub old_world : Selects Gone deleted 12 no_types 17 (C.Method 17)
old_world = (both (types_of Gone), (λ m a. (stands_there m, λ s. s.made)), latest_chosen (types_of Gone))

-- ---- in the new world none stands

nothing_stands : (m : Method) → Stands Gone deleted 12 18 m → ⊥
nothing_stands m s = by m s.made s.kept
  where
    deletes : Deletes Gone (change_at deleted 18) 12 (plain no_types)
    deletes = (refl, same_signature)

    by : (m : Method) → Contains (both (types_of Gone)) m → ((e : ℕ) → m.number < e → e ≤ 18 → Deletes Gone (change_at deleted e) 12 m.sig → ⊥) → ⊥
    by m (zero, l, q) k = (subst (λ (x : Method). (e : ℕ) → x.number < e → e ≤ 18 → Deletes Gone (change_at deleted e) 12 x.sig → ⊥) (sym q) k) 18 (omega arith) (omega arith) deletes
    by m (suc zero, l, q) k = (subst (λ (x : Method). (e : ℕ) → x.number < e → e ≤ 18 → Deletes Gone (change_at deleted e) 12 x.sig → ⊥) (sym q) k) 18 (omega arith) (omega arith) deletes
    by m (suc (suc n), l, q) k = absurd (omega (arith, l))

pub new_world : Selects Gone deleted 12 no_types 18 C.None
new_world = ([], (λ m a. ((λ i. nowhere m i), (λ s. absurd (nothing_stands m s)))), λ m h. nowhere_else m h.applies.stands)
  where
    nowhere : (m : Method) → Contains [] m → Stands Gone deleted 12 18 m
    nowhere m (k, l, e) = absurd (omega (arith, l))

    nowhere_else : (m : Method) → Contains [] m → ⊥
    nowhere_else m (k, l, e) = absurd (omega (arith, l))

-- ---- it may come once

pub may_delete : MayCome Gone made (Ev.Del 0 0)
may_delete = record {
  running = record { begun = refl; started = omega arith; going = refl };
  may = (method (types_of Gone) 17, record { made = (1, omega arith, refl); kept = λ e low high d. absurd (omega (arith, low, high)) }, same_signature);
  room = omega arith;
}

pub not_twice : MayCome Gone deleted (Ev.Del 0 0) → ⊥
not_twice h = nothing_stands h.may.0 h.may.1

no_other_place : MayCome Gone made (Ev.Del 0 1) → ⊥
no_other_place h = h.may

-- then there is nothing to delete
pub is_absent : IsTrueOf Gone deleted 0 (Absent 0 7)
is_absent = (omega arith, record { known = omega arith; room = omega arith; absent = λ h. nothing_stands h.0 h.1 })

-- and there was something before
not_absent : IsTrueOf Gone deleted 0 (Absent 0 6) → ⊥
not_absent h = h.1.absent may_delete.may

-- an item after a deletion has seen it, and one after an absence need not have seen more
order : IsInOrder 1 (Look 17 6 ∷ Del 0 6 ∷ Look 18 7 ∷ Absent 0 7 ∷ []) 7
order = (omega arith, (omega arith, (omega arith, (omega arith, omega arith))))

no_order : IsInOrder 1 (Look 17 6 ∷ Del 0 6 ∷ Look 17 6 ∷ []) 7 → ⊥
no_order h = absurd (omega (arith, h.1.1.0))

-- ---- the row of `f` is cut for it, and ends in the world before

no_end : HasNoEnd Gone made (key 12) 17
no_end d low t = absurd (omega (arith, low, touches_known Gone made d (key 12) t))

to_cut : IsToCut Gone made (Ch.Del 0) 0
to_cut = record {
  row = record { key = 0; site = 16; first = 17 };
  stands = refl;
  key = key 12;
  named = refl;
  no_end = no_end;
  touched = (refl, no_arguments (types_of Gone));
}

ends : EndsWith Gone deleted (key 12) 17 17
ends = record { covers = record { begun = omega arith; going = λ d low high t. absurd (omega (arith, low, high)) }; touched = (refl, no_arguments (types_of Gone)) }

-- ---- `f` is defined once more: the new definition stands, and those that were deleted stay so

abbrev again : List Event
again = deleted ++ Ev.Def 0 16 ∷ []

abbrev three : List Method
three = method (types_of Gone) 15 ∷ method (types_of Gone) 17 ∷ method (types_of Gone) 19 ∷ []

latest_stands : Stands Gone again 12 19 (method (types_of Gone) 19)
latest_stands = record { made = (2, omega arith, refl); kept = λ e low high d. absurd (omega (arith, low, high)) }

only_latest : (m : Method) → Contains three m → ((e : ℕ) → m.number < e → e ≤ 19 → Deletes Gone (change_at again e) 12 m.sig → ⊥) → Contains (method (types_of Gone) 19 ∷ []) m
only_latest m (zero, l, q) k =
    absurd ((subst (λ (x : Method). (e : ℕ) → x.number < e → e ≤ 19 → Deletes Gone (change_at again e) 12 x.sig → ⊥) (sym q) k) 18 (omega arith) (omega arith) (refl, same_signature))
only_latest m (suc zero, l, q) k =
    absurd ((subst (λ (x : Method). (e : ℕ) → x.number < e → e ≤ 19 → Deletes Gone (change_at again e) 12 x.sig → ⊥) (sym q) k) 18 (omega arith) (omega arith) (refl, same_signature))
only_latest m (suc (suc zero), l, q) k = (0, omega arith, q)
only_latest m (suc (suc (suc n)), l, q) k = absurd (omega (arith, l))

pub newest_world : Selects Gone again 12 no_types 19 (C.Method 19)
newest_world = (method (types_of Gone) 19 ∷ [], (λ m a. (to m, λ s. only_latest m s.made s.kept)), only_choice (types_of Gone) (method (types_of Gone) 19) no_types (no_arguments (types_of Gone)))
  where
    to : (m : Method) → Contains (method (types_of Gone) 19 ∷ []) m → Stands Gone again 12 19 m
    to m (zero, l, e) = subst (Stands Gone again 12 19) e latest_stands
    to m (suc k, l, e) = absurd (omega (arith, l))

-- a row begins in its world, and none in that of the deletion, where no method is chosen
right_again : IsRightFill Gone again (key 12) 16 19
right_again = record { begun = inr (omega arith, (refl, no_arguments (types_of Gone))); choice = (19, newest_world, refl) }

may_begin : MayBegin Gone deleted (key 12) 18
may_begin = inr (omega arith, (refl, no_arguments (types_of Gone)))

no_row : (site : ℕ) → IsRightFill Gone deleted (key 12) site 18 → ⊥
no_row site h = by (selects_one Gone deleted 12 no_types 18 (C.Method h.choice.0) C.None h.choice.1 new_world)
  where
    by : C.Method h.choice.0 ≡ C.None → ⊥
    by e = cc
