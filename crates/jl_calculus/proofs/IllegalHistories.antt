-- Changed histories that are not legal, each by the part that it breaks.
use Rattle.std.proofs.Common.{◌≡◌, refl, ap, sym, ◌∙◌, ℕ, inl, inr, pos, Bool, true, false, true≢false, codes, List, [], ◌∷◌, ◌++◌, length, arith, Option, Some, None}
use Rattle.std.specs.List.{Contains}
use Rattle.std.proofs.lemmas.List.Elements.{All-head}
use Rattle.jl_model.specs.declared.ty.Key.{Key}
use Rattle.jl_model.specs.declared.ty.Ty.{Ty}
use Rattle.jl_model.specs.declared.ty.Ty.TheOpen as L
use Rattle.jl_model.specs.declared.ty.Ty.TheVariants as T
use Rattle.jl_model.specs.declared.ty.Ty.TheViews.{rolls-Any}
use Rattle.jl_model.specs.declared.ty.Ty.TheFolds.{fold-roll-Ty}
use Rattle.jl_model.specs.Ancestors.{builtin_types, table_of}
use Rattle.jl_model.specs.Subtype.{opaque, is_concrete, concrete_step}
use Rattle.jl_program.specs.Prelude.{int64}
use Rattle.jl_program.specs.ValidValue.{IsValueType}
use Rattle.jl_program.specs.declared.value.Value.TheVariants as V
use Rattle.jl_program.proofs.FirstProgram.{P}
use Rattle.jl_calculus.specs.declared.history.Event.{Event}
use Rattle.jl_calculus.specs.declared.history.Event.TheVariants as Ev
use Rattle.jl_calculus.specs.declared.history.Outcome.{Outcome}
use Rattle.jl_calculus.specs.declared.history.Outcome.TheVariants as O
use Rattle.jl_calculus.specs.declared.history.TraceItem.{TraceItem}
use Rattle.jl_calculus.specs.declared.history.TraceItem.TheVariants.{Look, Def, Fetch, WorldFull, TaskFull}
use Rattle.jl_calculus.specs.declared.history.Record.{Record}
use Rattle.jl_calculus.specs.Legal.{MayCome, HasTrueTrace, HasOwnEvents, HasRun, AreFinished}
use Rattle.jl_calculus.specs.Past.{tasks_of, IsTrueOf}
use Rattle.jl_calculus.specs.Ranges.{keys_of, rows_of, MayBegin, SelectsSite}
use Rattle.jl_calculus.specs.World.{world_of, methods_made}
use Rattle.jl_calculus.proofs.FirstScript as First
use Rattle.jl_calculus.proofs.SelectLemmas.{plain_selects}
use Rattle.jl_calculus.proofs.KeyHistories.{key_f, key_add, row_f, ended, begun, made, keyed, filled, keyed_twice, before, H, right_f}
use Rattle.jl_calculus.proofs.RowLemmas.{one_site}
use Rattle.jl_calculus.proofs.TaskHistories.{Make, start, int, make_history}
use Rattle.jl_program.specs.declared.choice.Choice.TheVariants as C
use Rattle.jl_model.specs.Choice.{Method}

-- ---- the beginning

no_second_begin : MayCome P made (Ev.Begin 10000000) → ⊥
no_second_begin h = absurd (omega (arith, ap length h.nothing_before))

too_much_fuel : MayCome P [] (Ev.Begin 1000000001) → ⊥
too_much_fuel h = absurd (omega (arith, h.allowed))

-- ---- the order of keys

-- the key stood before
no_key_twice : MayCome P keyed (Ev.Key key_f) → ⊥
no_key_twice h = h.new (0, omega arith, refl)

-- there is no room for one more
no_key_too_many : (es : List Event) → length (keys_of es) ≡ 8192 → MayCome P es (Ev.Key key_f) → ⊥
no_key_too_many es n h = absurd (omega (arith, n, h.room))

-- ---- what a key names

-- a function that is not there
no_key_of_other : MayCome P made (Ev.Key (record { function = 13; types = [] })) → ⊥
no_key_of_other h = absurd (omega (arith, h.proper.function))

-- nine types
abbrev nine : List Ty
nine = int64 ∷ int64 ∷ int64 ∷ int64 ∷ int64 ∷ int64 ∷ int64 ∷ int64 ∷ int64 ∷ []

no_key_of_nine : MayCome P made (Ev.Key (record { function = 12; types = nine })) → ⊥
no_key_of_nine h = absurd (omega (arith, h.proper.few))

-- a type that is not concrete
any_not_concrete : is_concrete (table_of (builtin_types ++ [])) opaque T.Any ≡ false
any_not_concrete = ap (is_concrete (table_of (builtin_types ++ [])) opaque) (sym rolls-Any) ∙ fold-roll-Ty Bool (concrete_step (table_of (builtin_types ++ [])) opaque) L.Any

no_key_of_any : MayCome P made (Ev.Key (record { function = 12; types = T.Any ∷ [] })) → ⊥
no_key_of_any h = true≢false (sym (All-head (IsValueType (builtin_types ++ [])) T.Any [] h.proper.types).concrete ∙ any_not_concrete)

-- ---- the key of a fill

-- it is not there
abbrev is_there : Option Key → Bool
is_there None = false
is_there (Some key) = true

no_fill_without_key : MayCome P keyed (Ev.Fill 1 14 15) → ⊥
no_fill_without_key h = true≢false (sym (ap is_there h.named))

-- it has a fill with this first world already
no_fill_twice : MayCome P filled (Ev.Fill 0 14 15) → ⊥
no_fill_twice h = h.new row_f (0, omega arith, refl) refl refl

-- there is no room for one more
no_fill_too_many : (es : List Event) → length (rows_of es) ≡ 16384 → MayCome P es (Ev.Fill 0 14 15) → ⊥
no_fill_too_many es n h = absurd (omega (arith, n, h.room))

-- ---- the first world of a fill

-- the world of a prelude's definition
no_fill_in_prelude : MayBegin P keyed key_f 13 → ⊥
no_fill_in_prelude (inl e) = absurd (omega (arith, e))
no_fill_in_prelude (inr (low, t)) = absurd (omega (arith, low))

-- a world that is not there
no_fill_to_come : MayBegin P keyed key_f 16 → ⊥
no_fill_to_come (inl e) = absurd (omega (arith, e))
no_fill_to_come (inr (low, t)) = absurd t

-- a definition of another function
no_fill_of_other : MayBegin P keyed_twice key_add 15 → ⊥
no_fill_of_other (inl e) = absurd (omega (arith, e))
no_fill_of_other (inr (low, t)) = absurd (omega (arith, t.0))

-- ---- the choice of a fill

-- in the world before its definition `f` has no method
no_fill_too_early : (site : ℕ) → SelectsSite P keyed key_f 14 site → ⊥
no_fill_too_early site (d, h, s) = let (m, b, e) = plain_selects P refl keyed 12 key_f.types 14 (C.Method d) h in nowhere m b.candidate.applies.stands
  where
    nowhere : (m : Method) → Contains (methods_made P keyed 12 14) m → ⊥
    nowhere m (k, l, q) = absurd (omega (arith, l))

-- the site is another one
no_fill_of_other_site : SelectsSite P keyed key_f 15 13 → ⊥
no_fill_of_other_site h = absurd (omega (arith, one_site P keyed key_f 15 14 13 right_f.choice h))

-- ---- who is not running

abbrev has : Option Record → Bool
has None = false
has (Some r) = true

-- a task that was not started
no_def_of_other : MayCome P made (Ev.Def 1 14) → ⊥
no_def_of_other h = absurd (omega (arith, h.running.started))

-- a task that has ended
no_def_after_end : MayCome P H (Ev.Def 0 14) → ⊥
no_def_after_end h = true≢false (ap has h.running.going)

no_spawn_after_end : MayCome Make make_history (Ev.Spawn 1 2 (start 15)) → ⊥
no_spawn_after_end h = true≢false (ap has h.running.going)

no_end_twice : MayCome P H (Ev.Done 0 ended) → ⊥
no_end_twice h = true≢false (ap has h.going)

-- ---- sites and places that are not there

no_prelude_site : MayCome P begun (Ev.Def 0 13) → ⊥
no_prelude_site h = absurd (omega (arith, h.may.0))

no_other_site : MayCome P begun (Ev.Def 0 15) → ⊥
no_other_site h = absurd (omega (arith, h.may.1))

no_place : MayCome P made (Ev.Spawn 0 1 (start 15)) → ⊥
no_place h = absurd (omega (arith, h.of_program))

-- ---- the number of a child

no_later_child : MayCome Make made (Ev.Spawn 0 2 (start 15)) → ⊥
no_later_child h = absurd (omega (arith, h.next))

-- ---- limits

no_world_left : (es : List Event) → world_of es ≡ 65535 → MayCome P es (Ev.Def 0 14) → ⊥
no_world_left es n h = absurd (omega (arith, n, h.room))

no_task_left : (es : List Event) → tasks_of es ≡ 4096 → MayCome Make es (Ev.Spawn 0 4096 (start 15)) → ⊥
no_task_left es n h = absurd (omega (arith, n, h.room))

-- ---- tasks that did not end

no_end_of_root : AreFinished before → ⊥
no_end_of_root h = true≢false (sym (h 0 (omega arith)))

no_end_of_child : AreFinished (made ++ Ev.Spawn 0 1 (start 15) ∷ Ev.Done 0 ended ∷ []) → ⊥
no_end_of_child h = true≢false (sym (h 1 (omega arith)))

-- ---- items that are false, or out of order

abbrev with_trace : List TraceItem → Record
with_trace trace = record { trace = trace; outcome = O.Value V.Nothing; output = codes "3\n"; calls = 2 }

-- the world is not there yet
no_early_look : HasTrueTrace P before 0 (with_trace (Look 15 1 ∷ Def 14 1 ∷ Look 15 2 ∷ [])) → ⊥
no_early_look h = absurd (omega (arith, h.true_items.0.1))

-- the event is another one
abbrev is_def : Option Event → Bool
is_def (Some (Ev.Def task site)) = true
is_def (Some (Ev.Begin fuel)) = false
is_def (Some (Ev.Key key)) = false
is_def (Some (Ev.Fill key site first)) = false
is_def (Some (Ev.Spawn task child start)) = false
is_def (Some (Ev.Done task r)) = false
is_def (Some (Ev.Del task place)) = false
is_def None = false

no_def_there : HasTrueTrace P before 0 (with_trace (Look 14 1 ∷ Def 14 2 ∷ Look 15 3 ∷ [])) → ⊥
no_def_there h = true≢false (sym (ap is_def h.true_items.1.0))

-- the task that was fetched has not ended
no_early_fetch : IsTrueOf Make make_history 0 (Fetch 1 (int 0) 4) → ⊥
no_early_fetch h = h.1

-- it ended with another outcome
abbrev number_of : Outcome → ℕ
number_of (O.Value (V.Int (pos n))) = n
number_of _ = 9

no_other_outcome : IsTrueOf Make make_history 0 (Fetch 1 (int 5) 5) → ⊥
no_other_outcome h = absurd (omega (arith, ap number_of h.1))

-- worlds and tasks are not at their limits
no_full_world : IsTrueOf Make make_history 0 (WorldFull 5) → ⊥
no_full_world h = absurd (omega (arith, h.1))

no_full_tasks : IsTrueOf Make make_history 0 (TaskFull 5) → ⊥
no_full_tasks h = absurd (omega (arith, h.1))

-- an item has seen less than the one before it
no_way_back : HasTrueTrace P before 0 (with_trace (Look 14 1 ∷ Def 14 1 ∷ Look 14 1 ∷ [])) → ⊥
no_way_back h = absurd (omega (arith, h.in_order.1.1.0))

-- a spawned task has seen its Spawn
no_look_before_spawn : HasTrueTrace P (made ++ Ev.Spawn 0 1 (start 15) ∷ []) 1 (with_trace (Look 15 2 ∷ [])) → ⊥
no_look_before_spawn h = absurd (omega (arith, h.in_order.0))

-- nothing is seen past the end
no_look_past_end : HasTrueTrace P before 0 (with_trace (Look 14 1 ∷ Def 14 1 ∷ Look 15 7 ∷ [])) → ⊥
no_look_past_end h = absurd (omega (arith, h.in_order.1.1.1))

-- ---- a task's own events

-- the definition is missing in the trace
no_def_left_out : HasOwnEvents before 0 (with_trace (Look 14 1 ∷ Look 15 2 ∷ [])) → ⊥
no_def_left_out h = absurd (omega (arith, ap length h))

-- it stands there twice
no_def_twice : HasOwnEvents before 0 (with_trace (Look 14 1 ∷ Def 14 1 ∷ Def 14 1 ∷ [])) → ⊥
no_def_twice h = absurd (omega (arith, ap length h))

-- the definition of a task is missing among the events
no_def_missing : HasOwnEvents begun 0 ended → ⊥
no_def_missing h = absurd (omega (arith, ap length h))

-- ---- a record that is no run

no_other_output : HasRun P None First.before 0 (record { trace = First.trace; outcome = O.Value V.Nothing; output = codes "4\n"; calls = 2 }) → ⊥
no_other_output h = First.not_four (O.Value V.Nothing) 2 [] (h 10000000 refl)

no_other_calls : HasRun P None First.before 0 (record { trace = First.trace; outcome = O.Value V.Nothing; output = codes "3\n"; calls = 1 }) → ⊥
no_other_calls h = First.not_one_call (O.Value V.Nothing) (codes "3\n") [] (h 10000000 refl)

no_other_trace : HasRun P None First.before 0 (record { trace = Look 14 1 ∷ Def 14 1 ∷ []; outcome = O.Value V.Nothing; output = codes "3\n"; calls = 2 }) → ⊥
no_other_trace h = First.no_short_trace (O.Value V.Nothing) (codes "3\n") 2 [] (h 10000000 refl)
