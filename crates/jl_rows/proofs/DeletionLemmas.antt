-- The deletions of a function, and those up to a world.
use Rattle.std.proofs.Common.{◌≡◌, sym, subst, ℕ, zero, suc, ◌+◌, ◌<◌, ◌≤◌, arith, List, take, slice_get, Some}
use Rattle.std.specs.List.{Contains}
use Rattle.jl_program.specs.declared.tree.Delete.{Delete}
use Rattle.jl_program.specs.declared.tree.Program.{Program}
use Rattle.jl_calculus.specs.declared.history.Change.TheVariants as Ch
use Rattle.jl_calculus.specs.declared.history.Del.{Del}
use Rattle.jl_calculus.specs.declared.history.Event.{Event}
use Rattle.jl_calculus.specs.World.{changes, change_at}
use Rattle.jl_methods.specs.Filters.{dels_of, dels_in}
use Rattle.jl_methods.proofs.ChangeLemmas.{del, del_of, del_there}
use Rattle.jl_methods.proofs.PutLemmas.{get_known}
use Rattle.jl_subsig.proofs.StandingChoice.{IsDeletionOf}
use Rattle.jl_world.proofs.Lists.{get_taken, get_whole, take_low}

module _ (P : Program) (es : List Event) (f : ℕ) where
  -- a deletion of the function made the world that it has
  pub made_at : (e : Del) → Contains (dels_of P es f) e → change_at es e.world ≡ Some (Ch.Del e.place)
  made_at e c =
      let i = del_of P f 1 (changes es) e c in
      let at : suc i.place ≡ e.world = omega (arith, i.world_is) in
      subst (λ n. change_at es n ≡ Some (Ch.Del e.place)) at i.change_is

  pub deletion_of : (w : ℕ) (e : Del) → Contains (dels_of P es f) e → e.world ≤ w → IsDeletionOf P es f w e
  deletion_of w e c up = let i = del_of P f 1 (changes es) e c in record { place = i.row; change = made_at e c; up = up; stands = i.stands; function_is = i.function_is }

  -- so it is among them
  pub deletion_there : (world place : ℕ) (p : Delete) → change_at es world ≡ Some (Ch.Del place) → slice_get P.deletes place ≡ Some p → p.function ≡ f → Contains (dels_of P es f) (del world place)
  deletion_there zero place p e q t = absurd cc
  deletion_there (suc j) place p e q t = let at : 1 + j ≡ suc j = omega arith in subst (λ n. Contains (dels_of P es f) (del n place)) at (del_there P f 1 (changes es) j place p e q t)

  -- those up to a world
  module _ (w : ℕ) where
    pub dels_to : (e : Del) → Contains (dels_of P es f) e → e.world ≤ w → Contains (dels_in P es f w) e
    dels_to e c l =
        let i = del_of P f 1 (changes es) e c in
        let at : i.place < w = omega (arith, i.world_is, l) in
        let same : del (1 + i.place) e.place ≡ e = λ j. del (sym i.world_is j) e.place in
        subst (Contains (dels_in P es f w)) same
        (del_there P f 1 (take w (changes es)) i.place e.place i.row (get_taken (changes es) w i.place (Ch.Del e.place) i.change_is at) i.stands i.function_is)

    pub dels_up : (e : Del) → Contains (dels_in P es f w) e → Contains (dels_of P es f) e × (e.world ≤ w)
    dels_up e c =
        let i = del_of P f 1 (take w (changes es)) e c in
        let at = get_known (take w (changes es)) i.place (Ch.Del e.place) i.change_is in
        let same : del (1 + i.place) e.place ≡ e = λ j. del (sym i.world_is j) e.place in (
          subst (Contains (dels_of P es f)) same (del_there P f 1 (changes es) i.place e.place i.row (get_whole (changes es) w i.place (Ch.Del e.place) i.change_is) i.stands i.function_is),
          omega (arith, i.world_is, at, take_low w (changes es)),
        )
