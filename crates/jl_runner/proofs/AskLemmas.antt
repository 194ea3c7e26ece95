-- What a task knows after it has asked.
use Rattle.std.proofs.Common.{◌≡◌, ◌∙◌, ap, sym, subst, ℕ, ◌<◌, arith, List, [], ◌∷◌, length, Option, None, Some, MatchOption, slice_get, zero, suc}
use Rattle.jl_model.specs.declared.ty.Key.{Key}
use Rattle.jl_model.specs.declared.ty.Ty.{Ty}
use Rattle.jl_program.specs.declared.choice.Choice.{Choice}
use Rattle.jl_program.specs.declared.choice.Choice.TheVariants as C
use Rattle.jl_program.specs.declared.tree.Program.{Program}
use Rattle.jl_calculus.specs.declared.history.Event.{Event}
use Rattle.jl_calculus.specs.declared.history.TraceItem.TheVariants.{Look}
use Rattle.jl_calculus.specs.Kept.{IsKeptFor}
use Rattle.jl_calculus.specs.Learnt.{IsNamed, IsChosen}
use Rattle.jl_calculus.specs.Past.{IsTrueOf}
use Rattle.jl_calculus.specs.World.{change_at, changes, world_of, Selects}
use Rattle.jl_world.specs.declared.about.About.{About}
use Rattle.jl_world.specs.declared.view.TaskView.{TaskView}
use Rattle.jl_world.specs.Views.{Begins, met, looked}
use Rattle.jl_world.proofs.Growth.{worlds_grow}
use Rattle.jl_methods.specs.Filters.{change_in, IsDefinition}
use Rattle.jl_rows.specs.Plans.{places_of}
use Rattle.jl_rows.proofs.PlanLemmas.{chosen_definition}
use Rattle.jl_task.specs.Knows.{Grew, Looked, Asked, Refused, IsRight}
use Rattle.jl_task.specs.Worlds.{IsWorld}
use Rattle.jl_runner.specs.declared.known.Knowing.{Knowing}
use Rattle.jl_runner.specs.Knowing.{knows_of, IsKnowing, IsOfDefinition, IsSiteOf}
use Rattle.jl_runner.specs.Keys.{IsNumbered, AreNamed}
use Rattle.jl_runner.proofs.FirstLemmas.{begun_more}
use Rattle.jl_runner.proofs.KeyLemmas.{named_more}
use Rattle.jl_runner.proofs.KnowingLemmas.{looked_so, asked_so, right_hit, right_choice, named_so}

-- what is known of keys and of the beginning stays so when more is seen
pub knowing_more : (v w : TaskView) (keys : List (Key × ℕ)) (first : ℕ) → Begins v.seen w.seen → w.task ≡ v.task → w.start ≡ v.start → IsKnowing v keys first → IsKnowing w keys first
knowing_more v w keys first b of from h = record { named = named_more v.seen w.seen keys b h.named; begun = begun_more v w first b of from h.begun }

pub knowing_met : (v w : TaskView) (keys : List (Key × ℕ)) (first : ℕ) (es : List Event) → w ≡ met es v → Begins v.seen es → IsKnowing v keys first → IsKnowing w keys first
knowing_met v w keys first es same b h =
    knowing_more v w keys first (subst (Begins v.seen) (sym (ap (λ (u : TaskView). u.seen) same)) b) (ap (λ (u : TaskView). u.task) same) (ap (λ (u : TaskView). u.start) same) h

pub knowing_looked : (v w : TaskView) (keys : List (Key × ℕ)) (first : ℕ) → w ≡ looked w.seen v → Begins v.seen w.seen → IsKnowing v keys first → IsKnowing w keys first
knowing_looked v w keys first same b h = knowing_more v w keys first b (ap (λ (u : TaskView). u.task) same) (ap (λ (u : TaskView). u.start) same) h

-- the same, over what a contract sees
abbrev pub seen_as : TaskView → ℕ → ℕ → Knowing
seen_as v f s = record { view = v; first = f; site = s }

module _ (about : About) (k : Knowing) (v w : TaskView) (f s : ℕ) (is : seen_as v f s ≡ k) where
  pub looked_known : (world n : ℕ) → w ≡ looked w.seen v → Begins v.seen w.seen → ((t : ℕ) → IsTrueOf about.program.value w.seen t (Look world n)) → world_of w.seen ≡ world → n ≡ length w.seen
      → Looked (knows_of about k) (knows_of about (seen_as w f s)) world n
  looked_known world n same b item world_is l =
      subst (λ u. Looked (knows_of about u) (knows_of about (seen_as w f s)) world n) is (looked_so about v w f s world n same b item world_is l)

  pub asked_known : (t : ℕ) (es : List Event) → w ≡ met es v → Begins v.seen es → Asked (knows_of about k) (knows_of about (seen_as w f t))
  asked_known t es same b =
      let e : w.seen ≡ es = ap (λ (u : TaskView). u.seen) same in
      subst (λ u. Asked (knows_of about u) (knows_of about (seen_as w f t))) is
      (asked_so about v w f s t (same ∙ ap (λ xs. met xs v) (sym e)) (subst (Begins v.seen) (sym e) b))

  pub grew_known : (t : ℕ) (es : List Event) → w ≡ met es v → Begins v.seen es → Grew (knows_of about k) (knows_of about (seen_as w f t))
  grew_known t es same b = (asked_known t es same b).grew

  pub refused_known : (t : ℕ) (es : List Event) → w ≡ met es v → Begins v.seen es → Refused (knows_of about k) (knows_of about (seen_as w f t))
  refused_known t es same b = let a = asked_known t es same b in record { grew = a.grew; looks = a.looks; own = a.own; starts = a.starts }

  -- the key still has its number
  pub named_known : (es : List Event) (number : ℕ) (key : Key) → Begins v.seen es → IsNamed k.view.seen number key → IsNamed es number key
  named_known es number key b h = named_so v.seen es number key b (subst (λ (u : Knowing). IsNamed u.view.seen number key) (sym is) h)

  -- what the condition says of what was seen
  pub world_known : (n : ℕ) → IsWorld n (world_of k.view.seen) → IsWorld n (world_of v.seen)
  world_known n h = subst (λ (u : Knowing). IsWorld n (world_of u.view.seen)) (sym is) h

  -- a row covers the world, and its site is told
  pub hit_known : (key : Key) (number world site : ℕ) → IsWorld world (world_of k.view.seen) → IsNamed k.view.seen number key → Begins v.seen w.seen → IsChosen about.program.value w.seen number world site
      → IsRight (knows_of about (seen_as w f site)) key.function key.types world (C.Method world)
  hit_known key number world site in_world named b chosen =
      let low = world_known world in_world in
      right_hit about w f site key number world low.0 (named_known w.seen number key b named) chosen

  -- the choice of the rules, and the site of the definition
  pub choice_known : (es : List Event) (key : Key) (world site : ℕ) (c : Choice) → w ≡ met es v → Begins v.seen es → IsWorld world (world_of k.view.seen)
      → Selects about.program.value es key.function key.types world c → IsKeptFor about.program.value es (places_of about) key.function key.types world → IsSiteOf es c site
      → IsRight (knows_of about (seen_as w f site)) key.function key.types world c
  choice_known es key world site c same b in_world selects kept site_is =
      let e : w.seen ≡ es = ap (λ (u : TaskView). u.seen) same in
      let h = world_known world in_world in
      right_choice about w f site key.function key.types world c
      (omega (arith, h.1, worlds_grow v.seen w.seen (subst (Begins v.seen) (sym e) b)))
      (subst (λ xs. Selects about.program.value xs key.function key.types world c) (sym e) selects)
      (subst (λ xs. IsKeptFor about.program.value xs (places_of about) key.function key.types world) (sym e) kept)
      (subst (λ xs. IsSiteOf xs c site) (sym e) site_is)

-- a method that is chosen is that of a definition
pub definition_known : (P : Program) (es : List Event) (f : ℕ) (ts : List Ty) (world : ℕ) (c : Choice) → Selects P es f ts world c → IsOfDefinition es c
definition_known P es f ts world C.None h = tt
definition_known P es f ts world (C.Ambiguous p q) h = tt
definition_known P es f ts world (C.Method d) h = at d (chosen_definition P es f ts world d h)
  where
    at : (d : ℕ) → IsDefinition (change_in (changes es) d) → IsDefinition (change_at es d)
    at zero i = i
    at (suc n) i = i

-- a key that has a number is one of the keys
pub named_low : {X : Type 0} (xs : List X) (n : ℕ) (x : X) → slice_get xs n ≡ Some x → n < length xs
named_low [] n x e = absurd cc
named_low (y ∷ ys) zero x e = omega arith
named_low (y ∷ ys) (suc n) x e = omega (arith, named_low ys n x e)

pub number_named : (es : List Event) (keys : List (Key × ℕ)) (key : Key) (o : Option ℕ) → AreNamed es keys → MatchOption o (Unit {0}) (λ n. IsNumbered keys key n) → MatchOption o (Unit {0}) (λ n. IsNamed es n key)
number_named es keys key None all h = tt
number_named es keys key (Some n) all h = all h.0 key n h.1
