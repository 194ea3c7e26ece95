-- Histories with tasks: all but their runs. A task that was spawned before a later definition runs in the world of its spawn; a
-- definition that a task made is seen by who fetched it.
use Rattle.std.proofs.Common.{◌≡◌, refl, ap, ℕ, zero, suc, ◌<◌, inr, pos, true, codes, List, [], ◌∷◌, ◌++◌, length, arith, IsSome}
use Rattle.std.specs.List.{Contains}
use Rattle.std.proofs.lemmas.List.Elements.{All-nil}
use Rattle.jl_model.specs.declared.ty.Key.{Key}
use Rattle.jl_model.specs.declared.ty.Ty.{Ty}
use Rattle.jl_model.specs.Ancestors.{builtin_types}
use Rattle.jl_model.specs.Signature.{Applicable, both_end}
use Rattle.jl_model.specs.Subtype.{Table}
use Rattle.jl_program.specs.Prelude.{prelude_functions, prelude_sites, plain}
use Rattle.jl_program.specs.ValidValue.{IsValueType}
use Rattle.jl_program.specs.Scope.{types_of}
use Rattle.jl_program.specs.declared.tree.Expr.{Expr}
use Rattle.jl_program.specs.declared.tree.Expr.TheVariants as E
use Rattle.jl_program.specs.declared.tree.Expr.TheViews as X
use Rattle.jl_program.specs.declared.tree.Item.TheVariants as I
use Rattle.jl_program.specs.declared.tree.Stmt.TheVariants as S
use Rattle.jl_program.specs.declared.tree.Piece.TheVariants as Pi
use Rattle.jl_program.specs.declared.tree.Program.{Program}
use Rattle.jl_program.specs.declared.tree.Site.{Site}
use Rattle.jl_program.specs.declared.tree.Start.{Start}
use Rattle.jl_program.specs.declared.value.Value.TheVariants as V
use Rattle.jl_program.proofs.FirstChoices.{applies_by, only_choice}
use Rattle.jl_calculus.specs.declared.history.Event.{Event}
use Rattle.jl_calculus.specs.declared.history.Event.TheVariants as Ev
use Rattle.jl_calculus.specs.declared.history.Outcome.{Outcome}
use Rattle.jl_calculus.specs.declared.history.Outcome.TheVariants as O
use Rattle.jl_calculus.specs.declared.history.TraceItem.{TraceItem}
use Rattle.jl_calculus.specs.declared.history.TraceItem.TheVariants.{Look, Def, Spawn, Fetch}
use Rattle.jl_calculus.specs.declared.history.Record.{Record}
use Rattle.jl_calculus.specs.Legal.{IsKeyOf, MayStand, HasTrueTrace, IsTraced, AreFinished, text_of}
use Rattle.jl_calculus.specs.Past.{done_of, tasks_of}
use Rattle.jl_calculus.specs.Ranges.{CacheRow, keys_of, rows_of, IsRightFill}
use Rattle.jl_calculus.proofs.KeyHistories.{running}
use Rattle.jl_calculus.proofs.SelectLemmas.{selects_plain}
use Rattle.jl_program.specs.declared.choice.Choice.TheVariants as C

abbrev pub no_types : List Ty
no_types = []

-- a signature without parameters applies to no arguments
pub no_arguments : (n : Table) → Applicable n (plain no_types) no_types
no_arguments n = applies_by n [] [] (0, omega arith, refl) refl both_end

abbrev pub key : ℕ → Key
key f = record { function = f; types = no_types }

pub key_of : (P : Program) (f : ℕ) → P.decls ≡ [] → f < length P.functions → IsKeyOf P (key f)
key_of P f e l = record { function = l; few = omega arith; types = All-nil (IsValueType (builtin_types ++ P.decls)) }

abbrev pub site : ℕ → Expr → Site
site f body = record { function = f; sig = plain no_types; body = body }

abbrev pub start : ℕ → Start
start w = record { spawn = 0; env = []; bindings = []; world = w }

abbrev pub int : ℕ → Outcome
int n = O.Value (V.Int (pos n))

abbrev pub ended : List TraceItem → Outcome → List ℕ → ℕ → Record
ended trace o text calls = record { trace = trace; outcome = o; output = text; calls = calls }

-- ---- `f() = 1`, `late() = f()`, `t = Threads.@spawn late()`, `f() = 2`, `println(fetch(t))`, `println(f())`

abbrev pub call : ℕ → Expr
call f = X.Call f []

abbrev pub Late : Program
Late = record {
  decls = [];
  functions = prelude_functions ++ codes "f" ∷ codes "late" ∷ [];
  sites = prelude_sites ++ site 12 (E.Int (pos 1)) ∷ site 13 (call 12) ∷ site 12 (E.Int (pos 2)) ∷ [];
  spawns = call 13 ∷ [];
  deletes = [];
  top =
      I.Define 14 ∷ I.Define 15 ∷ I.Bind 0 (E.Spawn 0) ∷ I.Define 16 ∷ I.Do (X.Print (Pi.Show (X.Fetch (E.Local 0)) ∷ []) true)
      ∷ I.Do (X.Print (Pi.Show (call 12) ∷ []) true) ∷ [];
}

abbrev pub late_0 : List Event
late_0 = Ev.Begin 10000000 ∷ []

abbrev pub late_1 : List Event
late_1 = late_0 ++ Ev.Def 0 14 ∷ []

abbrev pub late_2 : List Event
late_2 = late_1 ++ Ev.Def 0 15 ∷ []

abbrev pub late_3 : List Event
late_3 = late_2 ++ Ev.Spawn 0 1 (start 16) ∷ []

abbrev pub late_4 : List Event
late_4 = late_3 ++ Ev.Def 0 16 ∷ []

abbrev pub late_5 : List Event
late_5 = late_4 ++ Ev.Key (key 13) ∷ []

abbrev pub late_6 : List Event
late_6 = late_5 ++ Ev.Fill 0 15 16 ∷ []

abbrev pub late_7 : List Event
late_7 = late_6 ++ Ev.Key (key 12) ∷ []

abbrev pub late_8 : List Event
late_8 = late_7 ++ Ev.Fill 1 14 15 ∷ []

-- the task looks at nothing: all its calls run in the world of its spawn
abbrev pub late_task : Record
late_task = ended [] (int 1) [] 2

abbrev pub late_9 : List Event
late_9 = late_8 ++ Ev.Done 1 late_task ∷ []

abbrev pub late_trace : List TraceItem
late_trace =
    Look 14 1 ∷ Def 14 1 ∷ Look 15 2 ∷ Def 15 2 ∷ Look 16 3 ∷ Spawn 1 3 ∷ Look 16 4 ∷ Def 16 4 ∷ Look 17 5 ∷ Fetch 1 (int 1) 10 ∷ Look 17 10 ∷ []

abbrev pub late_root : Record
late_root = ended late_trace (O.Value V.Nothing) (codes "1\n2\n") 1

abbrev pub late_history : List Event
late_history = late_9 ++ Ev.Done 0 late_root ∷ []

-- the row of `late` begins in the world of its definition, and that of `f` in the world of its first
right_late : IsRightFill Late late_5 (key 13) 15 16
right_late = record {
  begun = inr (omega arith, (refl, no_arguments (types_of Late)));
  choice = (16, selects_plain Late refl late_5 13 no_types 16 (C.Method 16) (only_choice (types_of Late) (record { number = 16; sig = plain no_types }) no_types (no_arguments (types_of Late))), refl);
}

right_early : IsRightFill Late late_7 (key 12) 14 15
right_early = record {
  begun = inr (omega arith, (refl, no_arguments (types_of Late)));
  choice = (15, selects_plain Late refl late_7 12 no_types 15 (C.Method 15) (only_choice (types_of Late) (record { number = 15; sig = plain no_types }) no_types (no_arguments (types_of Late))), refl);
}

first_key : Contains (keys_of late_4) (key 13) → ⊥
first_key (k, l, e) = absurd (omega (arith, l))

second_key : Contains (keys_of late_6) (key 12) → ⊥
second_key (zero, l, e) = absurd (omega (arith, ap (λ (k : Key). k.function) e))
second_key (suc k, l, e) = absurd (omega (arith, l))

first_row : (row : CacheRow) → Contains (rows_of late_5) row → row.key ≡ 0 → row.first ≡ 16 → ⊥
first_row row (k, l, e) a b = absurd (omega (arith, l))

second_row : (row : CacheRow) → Contains (rows_of late_7) row → row.key ≡ 1 → row.first ≡ 15 → ⊥
second_row row (zero, l, e) a b = absurd (omega (arith, a, ap (λ (r : CacheRow). r.key) e))
second_row row (suc k, l, e) a b = absurd (omega (arith, l))

pub late_stands : MayStand Late late_history
late_stands = record {
  begun = refl;
  come = (
    record { nothing_before = refl; allowed = omega arith },
    (
      record { running = running late_0 refl (omega arith) refl; may = (omega arith, omega arith); room = omega arith },
      (
        record { running = running late_1 refl (omega arith) refl; may = (omega arith, omega arith); room = omega arith },
        (
          record { running = running late_2 refl (omega arith) refl; of_program = omega arith; next = refl; room = omega arith },
          (
            record { running = running late_3 refl (omega arith) refl; may = (omega arith, omega arith); room = omega arith },
            (
              record { proper = key_of Late 13 refl (omega arith); new = first_key; room = omega arith },
              (
                record { key = key 13; named = refl; right = right_late; new = first_row; room = omega arith },
                (
                  record { proper = key_of Late 12 refl (omega arith); new = second_key; room = omega arith },
                  (
                    record { key = key 12; named = refl; right = right_early; new = second_row; room = omega arith },
                    (record { begun = refl; started = omega arith; going = refl }, (running late_9 refl (omega arith) refl, tt)),
                  ),
                ),
              ),
            ),
          ),
        ),
      ),
    ),
  );
}

late_task_true : HasTrueTrace Late late_8 1 late_task
late_task_true = record { true_items = tt; in_order = omega arith }

late_root_true : HasTrueTrace Late late_9 0 late_root
late_root_true = record {
  true_items = (
    (omega arith, refl),
    (
      refl,
      (
        (omega arith, refl),
        (refl, ((omega arith, refl), ((start 16, refl), ((omega arith, refl), (refl, ((omega arith, refl), ((omega arith, refl), ((omega arith, refl), tt)))))))),
      ),
    ),
  );
  in_order = (
    omega arith,
    (omega arith, (omega arith, (omega arith, (omega arith, (omega arith, (omega arith, (omega arith, (omega arith, (omega arith, (omega arith, omega arith)))))))))),
  );
}

pub late_traced : IsTraced Late late_history
late_traced = record {
  traces = (tt, (tt, (tt, (tt, (tt, (tt, (tt, (tt, (tt, (late_task_true, (late_root_true, tt)))))))))));
  own = (tt, (tt, (tt, (tt, (tt, (tt, (tt, (tt, (tt, (refl, (refl, tt)))))))))));
}

both_finished : (es : List Event) → tasks_of es ≡ 2 → IsSome (done_of 0 es) → IsSome (done_of 1 es) → AreFinished es
both_finished es n a b zero l = a
both_finished es n a b (suc zero) l = b
both_finished es n a b (suc (suc task)) l = absurd (omega (arith, l, n))

pub late_finished : AreFinished late_history
late_finished = both_finished late_history refl refl refl

late_text : text_of Late late_history ≡ codes "1\n2\n"
late_text = refl

-- ---- `make` evaluates `g() = 7` and gives 0; `t = Threads.@spawn make()`, `fetch(t)`, `println(g())`

abbrev pub Make : Program
Make = record {
  decls = [];
  functions = prelude_functions ++ codes "make" ∷ codes "g" ∷ [];
  sites = prelude_sites ++ site 12 (X.Block (S.Do (X.Eval (I.Define 15 ∷ [])) ∷ S.Do (E.Int (pos 0)) ∷ [])) ∷ site 13 (E.Int (pos 7)) ∷ [];
  spawns = call 12 ∷ [];
  deletes = [];
  top = I.Define 14 ∷ I.Bind 0 (E.Spawn 0) ∷ I.Do (X.Fetch (E.Local 0)) ∷ I.Do (X.Print (Pi.Show (call 13) ∷ []) true) ∷ [];
}

abbrev pub make_1 : List Event
make_1 = late_0 ++ Ev.Def 0 14 ∷ []

abbrev pub make_2 : List Event
make_2 = make_1 ++ Ev.Spawn 0 1 (start 15) ∷ []

abbrev pub make_3 : List Event
make_3 = make_2 ++ Ev.Def 1 15 ∷ []

-- the task looks, and then defines
abbrev pub make_task : Record
make_task = ended (Look 15 3 ∷ Def 15 3 ∷ []) (int 0) [] 1

abbrev pub make_4 : List Event
make_4 = make_3 ++ Ev.Done 1 make_task ∷ []

abbrev pub make_trace : List TraceItem
make_trace = Look 14 1 ∷ Def 14 1 ∷ Look 15 2 ∷ Spawn 1 2 ∷ Look 15 3 ∷ Fetch 1 (int 0) 5 ∷ Look 16 5 ∷ []

abbrev pub make_root : Record
make_root = ended make_trace (O.Value V.Nothing) (codes "7\n") 1

abbrev pub make_history : List Event
make_history = make_4 ++ Ev.Done 0 make_root ∷ []

pub make_stands : MayStand Make make_history
make_stands = record {
  begun = refl;
  come = (
    record { nothing_before = refl; allowed = omega arith },
    (
      record { running = running late_0 refl (omega arith) refl; may = (omega arith, omega arith); room = omega arith },
      (
        record { running = running make_1 refl (omega arith) refl; of_program = omega arith; next = refl; room = omega arith },
        (
          record { running = record { begun = refl; started = omega arith; going = refl }; may = (omega arith, omega arith); room = omega arith },
          (record { begun = refl; started = omega arith; going = refl }, (running make_4 refl (omega arith) refl, tt)),
        ),
      ),
    ),
  );
}

make_task_true : HasTrueTrace Make make_3 1 make_task
make_task_true = record { true_items = ((omega arith, refl), (refl, tt)); in_order = (omega arith, (omega arith, omega arith)) }

make_root_true : HasTrueTrace Make make_4 0 make_root
make_root_true = record {
  true_items = ((omega arith, refl), (refl, ((omega arith, refl), ((start 15, refl), ((omega arith, refl), ((omega arith, refl), ((omega arith, refl), tt)))))));
  in_order = (omega arith, (omega arith, (omega arith, (omega arith, (omega arith, (omega arith, (omega arith, omega arith)))))));
}

pub make_traced : IsTraced Make make_history
make_traced = record { traces = (tt, (tt, (tt, (tt, (make_task_true, (make_root_true, tt)))))); own = (tt, (tt, (tt, (tt, (refl, (refl, tt)))))) }

pub make_finished : AreFinished make_history
make_finished = both_finished make_history refl refl refl

make_text : text_of Make make_history ≡ codes "7\n"
make_text = refl

-- who fetched has seen the definition: a look after the fetch can't be older
no_old_look : HasTrueTrace Make make_4 0 (ended (Look 14 1 ∷ Def 14 1 ∷ Look 15 2 ∷ Spawn 1 2 ∷ Look 15 3 ∷ Fetch 1 (int 0) 5 ∷ Look 15 3 ∷ []) (O.Value V.Nothing) [] 1) → ⊥
no_old_look h = absurd (omega (arith, h.in_order.1.1.1.1.1.1.0))
