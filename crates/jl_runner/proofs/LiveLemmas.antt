-- One question after another.
use Rattle.std.proofs.Common.{◌≡◌, sym, subst, refl, arith, ℕ, List, Result, IfOk}
use Rattle.jl_model.specs.declared.ty.Key.{Key}
use Rattle.jl_model.specs.declared.ty.Ty.{Ty}
use Rattle.jl_program.specs.declared.choice.Choice.{Choice}
use Rattle.jl_calculus.specs.Learnt.{IsNamed}
use Rattle.jl_calculus.specs.World.{world_of}
use Rattle.jl_world.specs.declared.about.About.{About}
use Rattle.jl_world.specs.Views.{Begins}
use Rattle.jl_world.proofs.Growth.{begins_self}
use Rattle.jl_task.specs.Knows.{Knows, Asked, IsRight}
use Rattle.jl_task.specs.Worlds.{IsWorld}
use Rattle.jl_runner.specs.declared.known.Knowing.{Knowing}
use Rattle.jl_runner.specs.Knowing.{knows_of}
use Rattle.jl_runner.proofs.KnowingLemmas.{named_so, asked_trans}

module _ (about : About) (k k' : Knowing) (a : Asked (knows_of about k) (knows_of about k')) where
  begins_asked : Begins k.view.seen k'.view.seen
  begins_asked = let g = a.grew in g.agrees k'.view.seen (begins_self k'.view.seen)

  pub world_asked : (w u : ℕ) → u ≡ w → IsWorld w (world_of k.view.seen) → IsWorld u (world_of k'.view.seen)
  world_asked w u e h = let g = a.grew in subst (λ n. IsWorld n (world_of k'.view.seen)) (sym e) (h.0, omega (arith, h.1, g.world))

  pub named_asked : (number n : ℕ) (key : Key) → n ≡ number → IsNamed k.view.seen number key → IsNamed k'.view.seen n key
  named_asked number n key e h = subst (λ m. IsNamed k'.view.seen m key) (sym e) (named_so k.view.seen k'.view.seen number key begins_asked h)

  pub asked_more : (k'' : Knowing) → Asked (knows_of about k') (knows_of about k'') → Asked (knows_of about k) (knows_of about k'')
  asked_more k'' b = asked_trans (knows_of about k) (knows_of about k') (knows_of about k'') a b

-- the world that was asked
pub right_asked : {E : Type 0} (r : Result Choice E) (k : Knows) (f : ℕ) (ts : List Ty) (u w : ℕ) → u ≡ w → IfOk r (λ c. IsRight k f ts u c) → IfOk r (λ c. IsRight k f ts w c)
right_asked r k f ts u w e h = subst (λ n. IfOk r (λ c. IsRight k f ts n c)) e h

-- nothing was asked
pub asked_same : (k : Knows) → Asked k k
asked_same k = record {
  grew = record { program = refl; places = refl; task = refl; start = refl; first = refl; world = omega arith; seen = omega arith; agrees = λ es a. a; learnt = λ i h. h };
  looks = refl;
  own = refl;
  starts = refl;
  follows = λ c is h. h;
}
