-- Steps of the model, enabled and not, and what they leave: `f` is defined, named and filled, searched, and defined once more.
use Rattle.std.proofs.Common.{◌≡◌, ◌∙◌, refl, ap, sym, subst, ℕ, ◌<◌, inl, inr, Bool, true, false, true≢false, [], ◌∷◌, length, take, arith, Option, Some, None}
use Rattle.std.specs.List.{Contains}
use Rattle.jl_program.specs.Prelude.{plain}
use Rattle.jl_program.specs.Scope.{types_of}
use Rattle.jl_program.specs.declared.fault.Fault.TheVariants as F
use Rattle.jl_program.proofs.FirstChoices.{only_choice}
use Rattle.jl_calculus.specs.declared.history.Change.TheVariants as Ch
use Rattle.jl_calculus.specs.declared.history.Event.TheVariants as Ev
use Rattle.jl_calculus.specs.declared.history.Outcome.TheVariants as O
use Rattle.jl_calculus.specs.declared.history.Record.{Record}
use Rattle.jl_calculus.specs.declared.step.Step.{Step}
use Rattle.jl_calculus.specs.declared.step.Step.TheVariants as St
use Rattle.jl_calculus.specs.Kept.{Places}
use Rattle.jl_calculus.specs.Core.{Stand, Search, at_row, found, missed, TaskState, Opened, Core, first_core, IsLeft, IsEnabled, Leaves, Reaches, stays, goes, with_opened, with_event, change_task, with_seen, with_search, new_search, with_child, with_known, child_of}
use Rattle.jl_calculus.specs.Ranges.{CacheRow, keys_of, IsCovered, HasNoEnd, Touches}
use Rattle.jl_calculus.specs.Words.{IsToCut}
use Rattle.jl_calculus.proofs.GrowthLemmas.{touches_known}
use Rattle.jl_calculus.proofs.KeyHistories.{running}
use Rattle.jl_calculus.proofs.TaskHistories.{Late, key, key_of, start, no_types, no_arguments}
use Rattle.jl_calculus.proofs.SelectLemmas.{selects_plain}
use Rattle.jl_program.specs.declared.choice.Choice.TheVariants as C

-- whether a search is at a row
abbrev at_a_row : Stand → Bool
at_a_row (at_row n) = true
at_a_row (found n) = false
at_a_row missed = false

abbrev room : Places
room = record { keys = 2; rows = 2 }

abbrev Can : Core → Step → Type 0
Can s step = IsEnabled Late room s step

-- ---- at the start

abbrev s0 : Core
s0 = first_core 10000000

look : Can s0 (St.Look 0)
look = running s0.events refl (omega arith) refl

no_look_of_other : Can s0 (St.Look 1) → ⊥
no_look_of_other h = absurd (omega (arith, h.started))

open_f : Can s0 (St.Open 0 (Ch.Def 14))
open_f = record {
  free = record { running = running s0.events refl (omega arith) refl; closed = refl };
  may = (omega arith, omega arith);
  place = omega arith;
}

no_open_of_prelude : Can s0 (St.Open 0 (Ch.Def 13)) → ⊥
no_open_of_prelude h = absurd (omega (arith, h.may.0))

abbrev is_open : Option Opened → Bool
is_open None = false
is_open (Some o) = true

nothing_to_publish : Can s0 St.Publish → ⊥
nothing_to_publish h = true≢false (sym (ap is_open h.1))

nothing_to_cut : Can s0 (St.Cut 0) → ⊥
nothing_to_cut h = true≢false (sym (ap is_open h.1))

abbrev first_task : TaskState
first_task = record { seen = 1; known = []; search = None }

abbrev task_of : Option TaskState → TaskState
task_of None = first_task
task_of (Some t) = t

-- no key is there to search
no_search : Can s0 (St.Head 0 0 14) → ⊥
no_search h = absurd (omega (arith, subst (λ (t : TaskState). 0 < length (keys_of (take t.seen s0.events))) (sym (ap task_of h.seen.at)) h.seen.key))

-- ---- the definition is open

abbrev s1 : Core
s1 = with_opened s0 (Some (record { task = 0; change = Ch.Def 14; cut = [] }))

opened_f : Leaves Late s0 s1 (St.Open 0 (Ch.Def 14))
opened_f = refl

-- tasks may look, and nothing else may be made
look_while_open : Can s1 (St.Look 0)
look_while_open = running s1.events refl (omega arith) refl

no_key_while_open : Can s1 (St.Key 0 (key 12)) → ⊥
no_key_while_open h = true≢false (ap is_open h.free.closed)

no_end_while_open : (r : Record) → Can s1 (St.Done 0 r) → ⊥
no_end_while_open r h = true≢false (ap is_open h.free.closed)

no_rows : (r : ℕ) → IsToCut Late s1.events (Ch.Def 14) r → ⊥
no_rows r h = true≢false (sym (ap is_row h.stands))
  where
    is_row : Option CacheRow → Bool
    is_row None = false
    is_row (Some x) = true

-- there is nothing to cut
publish_f : Can s1 St.Publish
publish_f = (record { task = 0; change = Ch.Def 14; cut = [] }, refl, λ r h. no_rows r h.ends)

-- ---- it is published, and its task has seen it

abbrev s2 : Core
s2 = with_event s1 0 (Ev.Def 0 14)

published_f : Leaves Late s1 s2 St.Publish
published_f = (record { task = 0; change = Ch.Def 14; cut = [] }, refl, refl)

seen_then : s2.tasks ≡ record { seen = 2; known = []; search = None } ∷ []
seen_then = refl

name_f : Can s2 (St.Key 0 (key 12))
name_f = record {
  free = record { running = running s2.events refl (omega arith) refl; closed = refl };
  proper = key_of Late 12 refl (omega arith);
  new = none;
  place = omega arith;
}
  where
    none : Contains (keys_of s2.events) (key 12) → ⊥
    none (k, l, e) = absurd (omega (arith, l))

-- ---- it is named, and filled

abbrev s3 : Core
s3 = with_event s2 0 (Ev.Key (key 12))

named_f : Leaves Late s2 s3 (St.Key 0 (key 12))
named_f = refl

no_key_twice : Can s3 (St.Key 0 (key 12)) → ⊥
no_key_twice h = h.new (0, omega arith, refl)

fill_f : Can s3 (St.Fill 0 0 15)
fill_f = record {
  free = record { running = running s3.events refl (omega arith) refl; closed = refl };
  seen = record { state = record { seen = 3; known = []; search = None }; at = refl; key = omega arith; low = omega arith; high = omega arith };
  key = key 12;
  named = refl;
  choice = (15, selects_plain Late refl s3.events 12 no_types 15 (C.Method 15) (only_choice (types_of Late) (record { number = 15; sig = plain no_types }) no_types (no_arguments (types_of Late))));
  uncovered = none;
  place = omega arith;
}
  where
    none : IsCovered Late s3.events 0 (key 12) 15 → ⊥
    none (row, c) = nowhere c.stands
      where
        nowhere : Contains {X = CacheRow} [] row → ⊥
        nowhere (k, l, e) = absurd (omega (arith, l))

abbrev s4 : Core
s4 = with_event s3 0 (Ev.Fill 0 14 15)

-- nothing is above world 15
above : (d : ℕ) → 15 < d → Touches Late s3.events d (key 12) → ⊥
above d low t = absurd (omega (arith, low, touches_known Late s3.events d (key 12) t))

filled_f : Leaves Late s3 s4 (St.Fill 0 0 15)
filled_f = record {
  key = key 12;
  named = refl;
  site = 14;
  first = 15;
  right = record {
    begun = inr (omega arith, (refl, no_arguments (types_of Late)));
    choice = (15, selects_plain Late refl s3.events 12 no_types 15 (C.Method 15) (only_choice (types_of Late) (record { number = 15; sig = plain no_types }) no_types (no_arguments (types_of Late))), refl);
  };
  covers = record { begun = omega arith; going = λ d low high t. above d low t };
  is = refl;
}

-- ---- a search finds the row

abbrev s5 : Core
s5 = change_task s4 0 (λ t. with_search (new_search s4 0 15) (with_seen 4 t))

search_f : Can s4 (St.Head 0 0 15)
search_f = record {
  running = running s4.events refl (omega arith) refl;
  seen = record { state = record { seen = 4; known = []; search = None }; at = refl; key = omega arith; low = omega arith; high = omega arith };
}

searched_f : Leaves Late s4 s5 (St.Head 0 0 15)
searched_f = refl

abbrev at_first : Search
at_first = record { key = 0; world = 15; stand = at_row 0 }

at_row_0 : s5.tasks ≡ record { seen = 4; known = []; search = Some at_first } ∷ []
at_row_0 = refl

read_row : Can s5 (St.Row 0)
read_row = (record { seen = 4; known = []; search = Some at_first }, at_first, 0, record { at = refl; searching = refl; stands = refl })

no_end_yet : HasNoEnd Late s5.events (key 12) 15
no_end_yet d low t = absurd (omega (arith, low, touches_known Late s5.events d (key 12) t))

nothing_cut : Contains {X = ℕ} [] 0 → ⊥
nothing_cut (k, l, e) = absurd (omega (arith, l))

abbrev s6 : Core
s6 = change_task s5 0 (with_search (record { key = 0; world = 15; stand = found 14 }))

has_read : Leaves Late s5 s6 (St.Row 0)
has_read = record {
  t = record { seen = 4; known = []; search = Some at_first };
  search = at_first;
  r = 0;
  at = refl;
  searched = refl;
  stood = refl;
  site = 14;
  first = 15;
  last = 0;
  next = 0;
  words = record {
    row = record { key = 0; site = 14; first = 15 };
    stands = refl;
    key = key 12;
    named = refl;
    site_word = refl;
    first_word = refl;
    last_word = inr (nothing_cut, inl (refl, no_end_yet));
    next_word = refl;
  };
  is = refl;
}

-- the search has ended, so nothing is left to read
abbrev is_at_row : Option Search → Bool
is_at_row None = false
is_at_row (Some search) = at_a_row search.stand

no_more_rows : Can s6 (St.Row 0) → ⊥
no_more_rows (t, search, r, h) =
    let one : is_at_row t.search ≡ true = ap is_at_row h.searching ∙ ap at_a_row h.stands in
    let two : false ≡ is_at_row t.search = ap (λ (x : TaskState). is_at_row x.search) (ap task_of h.at) in
    true≢false (sym (two ∙ one))

-- ---- `f` is defined once more: its row is cut first

abbrev again : Opened
again = record { task = 0; change = Ch.Def 16; cut = [] }

abbrev s7 : Core
s7 = with_opened s6 (Some again)

to_cut : IsToCut Late s7.events (Ch.Def 16) 0
to_cut = record {
  row = record { key = 0; site = 14; first = 15 };
  stands = refl;
  key = key 12;
  named = refl;
  no_end = no_end_yet;
  touched = (refl, no_arguments (types_of Late));
}

not_in_none : Contains {X = ℕ} [] 0 → ⊥
not_in_none (k, l, e) = absurd (omega (arith, l))

cut_row : Can s7 (St.Cut 0)
cut_row = (again, refl, record { ends = to_cut; not_cut = not_in_none })

abbrev opened_of : Option Opened → Opened
opened_of None = again
opened_of (Some o) = o

-- before that nothing may be published
no_publish_before_cut : Can s7 St.Publish → ⊥
no_publish_before_cut (o, e, none) =
    let q : again ≡ o = ap opened_of e in
    subst (λ (x : Opened). ((r : ℕ) → IsLeft Late room s7 x r → ⊥) → ⊥) q (λ f. f 0 (record { ends = to_cut; not_cut = not_in_none })) none

abbrev s8 : Core
s8 = with_opened s7 (Some (record { task = 0; change = Ch.Def 16; cut = 0 ∷ [] }))

was_cut : Leaves Late s7 s8 (St.Cut 0)
was_cut = (again, refl, refl)

-- the row is not cut twice
no_second_cut : Can s8 (St.Cut 0) → ⊥
no_second_cut (o, e, h) = subst (λ (x : Opened). (Contains x.cut 0 → ⊥) → ⊥) (ap opened_of e) (λ f. f (0, omega arith, refl)) h.not_cut

-- ---- tasks

-- a start in the world that the root has seen
spawn : Can s6 (St.Spawn 0 (start 15))
spawn = record {
  free = record { running = running s6.events refl (omega arith) refl; closed = refl };
  place = omega arith;
  of_program = omega arith;
  world = record { state = record { seen = 4; known = []; search = Some (record { key = 0; world = 15; stand = found 14 }) }; at = refl; high = omega arith };
  known = record { state = record { seen = 4; known = []; search = Some (record { key = 0; world = 15; stand = found 14 }) }; at = refl; each = λ other h. nowhere other h };
}
  where
    nowhere : (other : ℕ) → Contains {X = ℕ} [] other → Contains {X = ℕ} [] other
    nowhere other h = h

abbrev s9 : Core
s9 = with_child (change_task (with_event s6 0 (Ev.Spawn 0 1 (start 15))) 0 (with_known (1 ∷ []))) (child_of s6 (start 15))

spawned : Leaves Late s6 s9 (St.Spawn 0 (start 15))
spawned = refl

-- the child has seen its Spawn, and the root knows the child
both_tasks : s9.tasks ≡ record { seen = 5; known = 1 ∷ []; search = Some (record { key = 0; world = 15; stand = found 14 }) } ∷ record { seen = 5; known = []; search = None } ∷ []
both_tasks = refl

-- it has not ended, so it can't be fetched
abbrev has : Option Record → Bool
has None = false
has (Some r) = true

no_early_fetch : Can s9 (St.Fetch 0 1) → ⊥
no_early_fetch h = true≢false (sym (ap has h.ended.1))

-- it does nothing and ends, and then it can
abbrev child_end : Record
child_end = record { trace = []; outcome = O.Error F.StackLimit; output = []; calls = 0 }

end_child : Can s9 (St.Done 1 child_end)
end_child = record {
  free = record { running = record { begun = refl; started = omega arith; going = refl }; closed = refl };
  traced = record { true_items = tt; in_order = omega arith };
  own = refl;
  known = record { state = record { seen = 5; known = []; search = None }; at = refl; each = λ other h. h };
}

abbrev s10 : Core
s10 = with_event s9 1 (Ev.Done 1 child_end)

ended_child : Leaves Late s9 s10 (St.Done 1 child_end)
ended_child = refl

fetch_child : Can s10 (St.Fetch 0 1)
fetch_child = record {
  free = record { running = running s10.events refl (omega arith) refl; closed = refl };
  known = record {
    state = record { seen = 5; known = 1 ∷ []; search = Some (record { key = 0; world = 15; stand = found 14 }) };
    at = refl;
    each = λ other h. h;
  };
  ended = (child_end, refl);
}

-- the child may not fetch the root, which it does not know
no_fetch_of_unknown : Can s9 (St.Fetch 1 0) → ⊥
no_fetch_of_unknown h = true≢false (sym (ap has h.ended.1))

-- ---- from the start to the row

reaches_row : Reaches Late room s0 s4
reaches_row =
    goes s0 s3 s4 (St.Fill 0 0 15)
    (goes s0 s2 s3 (St.Key 0 (key 12)) (goes s0 s1 s2 St.Publish (goes s0 s0 s1 (St.Open 0 (Ch.Def 14)) (stays s0) open_f opened_f) publish_f published_f) name_f named_f)
    fill_f
    filled_f
