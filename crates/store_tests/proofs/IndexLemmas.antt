-- Each event that the index notes may come.
use Rattle.std.proofs.Common.{refl, ◌<◌, arith, [], length, Result, Ok, Err, OnOk}
use Rattle.std.specs.List.{Contains}
use Rattle.jl_model.specs.declared.ty.Key.{Key}
use Rattle.jl_program.specs.declared.tree.Program.{Program}
use Rattle.jl_calculus.specs.declared.history.Event.TheVariants as Ev
use Rattle.jl_calculus.specs.Legal.{IsKeyOf, IsRunning, MayCome}
use Rattle.jl_calculus.specs.Ranges.{keys_of}
use Rattle.store_tests.specs.Crossed.{begun, one_made, keyed, two_made, three_made, four_made}

-- what follows where there is no error
pub on_ok : {X E : Type 0} (r : Result X E) (P Q : Type 0) → (P → Q) → OnOk r P → OnOk r Q
on_ok (Ok x) P Q f h = f h
on_ok (Err e) P Q f h = tt

module _ (P : Program) where
  pub may_begin : MayCome P [] (Ev.Begin 0)
  may_begin = record { nothing_before = refl; allowed = omega arith }

  pub may_define_first : 14 < length P.sites → MayCome P begun (Ev.Def 0 14)
  may_define_first l = record { running = record { begun = refl; started = omega arith; going = refl }; may = (omega arith, l); room = omega arith }

  no_key : (key : Key) → Contains (keys_of one_made) key → ⊥
  no_key key (k, l, e) = absurd (omega (arith, l))

  pub may_name : (key : Key) → IsKeyOf P key → MayCome P one_made (Ev.Key key)
  may_name key h = record { proper = h; new = no_key key; room = omega arith }

  pub may_define_second : (key : Key) → 15 < length P.sites → MayCome P (keyed key) (Ev.Def 0 15)
  may_define_second key l = record { running = record { begun = refl; started = omega arith; going = refl }; may = (omega arith, l); room = omega arith }

  pub may_define_third : (key : Key) → 16 < length P.sites → MayCome P (two_made key) (Ev.Def 0 16)
  may_define_third key l = record { running = record { begun = refl; started = omega arith; going = refl }; may = (omega arith, l); room = omega arith }

  pub may_define_again : (key : Key) → 14 < length P.sites → MayCome P (three_made key) (Ev.Def 0 14)
  may_define_again key l = record { running = record { begun = refl; started = omega arith; going = refl }; may = (omega arith, l); room = omega arith }

pub is_running : (key : Key) → IsRunning (four_made key) 0
is_running key = record { begun = refl; started = omega arith; going = refl }
