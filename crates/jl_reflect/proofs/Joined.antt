-- The steps of the loop that joins neighbours with one choice, over the choices of a history.
use Rattle.std.proofs.Common.{◌≡◌, ◌∙◌, ap, sym, refl, subst, arith, ℕ, ◌<◌, ◌≤◌, ◌+◌, ◌-◌, suc, List, [], ◌∷◌, ◌++◌, length, get_or, take, drop, None, Some}
use Rattle.jl_model.specs.declared.ty.Key.{Key}
use Rattle.jl_program.specs.declared.choice.Choice.{Choice}
use Rattle.jl_program.specs.declared.tree.Program.{Program}
use Rattle.jl_program.specs.Prelude.{prelude_count}
use Rattle.jl_program.specs.Valid.{IsValid}
use Rattle.jl_calculus.specs.declared.history.Event.{Event}
use Rattle.jl_calculus.specs.Legal.{IsKeyOf}
use Rattle.jl_calculus.proofs.SomeAnswers.{choice_one}
use Rattle.jl_reflect.specs.declared.choices.Chosen.{Chosen}
use Rattle.jl_reflect.specs.declared.ranges.Span.{Span}
use Rattle.jl_reflect.specs.Chosen.{worlds, AreChosen}
use Rattle.jl_reflect.specs.Spans.{AreSpans}
use Rattle.jl_reflect.proofs.Tight.{span}
use Rattle.jl_reflect.proofs.Steps.{Built, starts, stays, goes_further, ends_so, one_before}
use Rattle.jl_reflect.proofs.Constant.{world_at, worlds_length, starts_constant, goes_constant, there, increasing, within}

-- the first choice, and those after it
whole : (rest : List Chosen) → take (length rest) rest ≡ rest
whole [] = refl
whole (c ∷ cs) = ap (λ xs. c ∷ xs) (whole cs)

pub first_and_later : (xs all : List Chosen) (d : Chosen) → 1 ≤ length xs → xs ≡ all → all ≡ get_or xs 0 d ∷ take (length xs - 1) (drop 1 xs)
first_and_later [] all d l e = absurd (omega (arith, l))
first_and_later (c ∷ cs) all d l e = sym e ∙ ap (λ ys. c ∷ ys) (sym (let m : suc (length cs) - 1 ≡ length cs = omega arith in ap (λ n. take n cs) m ∙ whole cs))

module _ (P : Program) (valid : IsValid P) (es : List Event) (key : Key) (proper : IsKeyOf P key) (start : Chosen) (rest : List Chosen) (h : AreChosen P es key (start ∷ rest)) where
  inside : (i : ℕ) → i < length rest → i < length (worlds rest)
  inside i l = omega (arith, l, worlds_length rest)

  pub begun : (items : List Span) → items ≡ [] → Built P es key (worlds rest) items start.world start.choice 0
  begun items e =
      subst (λ n. Built P es key (worlds rest) items n start.choice 0) (sym h.first)
      (subst (λ ss. Built P es key (worlds rest) ss prelude_count start.choice 0) (sym e)
      (starts P es key (worlds rest) (there P valid es key proper start rest h) (increasing P valid es key proper start rest h) (within P valid es key proper start rest h) start.choice
      (starts_constant P valid es key proper start rest h)))

  pub joined : (spans : List Span) (first : ℕ) (c : Choice) (i : ℕ) (d : Chosen) → Built P es key (worlds rest) spans first c i → i < length rest → (get_or rest i d).choice ≡ c → Built P es key (worlds rest) spans first c (i + 1)
  joined spans first c i d b l e =
      stays P es key (worlds rest) (there P valid es key proper start rest h) (increasing P valid es key proper start rest h) (within P valid es key proper start rest h) spans first c i b (inside i l)
      (get_or rest i d).choice (goes_constant P valid es key proper start rest h i (get_or rest i d) d l refl) e

  pub parted : (spans : List Span) (first : ℕ) (c : Choice) (i : ℕ) (d : Chosen) → Built P es key (worlds rest) spans first c i → i < length rest → ((get_or rest i d).choice ≡ c → ⊥) → (last : ℕ) → last ≡ (get_or rest i d).world - 1
      → (more : List Span) → more ≡ spans ++ span first (Some last) c ∷ [] → Built P es key (worlds rest) more (get_or rest i d).world (get_or rest i d).choice (i + 1)
  parted spans first c i d b l differ last q more m =
      let at : get_or (worlds rest) i 0 ≡ (get_or rest i d).world = world_at rest i d l in
      let up : (get_or (worlds rest) i 0 - 1) + 1 ≡ get_or (worlds rest) i 0 =
      one_before P es key (worlds rest) (there P valid es key proper start rest h) (increasing P valid es key proper start rest h) (within P valid es key proper start rest h) i (inside i l) in
      let next : last + 1 ≡ get_or (worlds rest) i 0 = ap (λ n. n + 1) (q ∙ ap (λ n. n - 1) (sym at)) ∙ up in
      subst (λ n. Built P es key (worlds rest) more n (get_or rest i d).choice (i + 1)) at
      (goes_further P es key (worlds rest) (there P valid es key proper start rest h) (increasing P valid es key proper start rest h) (within P valid es key proper start rest h) spans first c i b (inside i l)
      (get_or rest i d).choice (goes_constant P valid es key proper start rest h i (get_or rest i d) d l refl) differ last next more m)

  pub ended : (spans : List Span) (first : ℕ) (c : Choice) (i : ℕ) → Built P es key (worlds rest) spans first c i → length rest ≤ i → (all : List Span) → all ≡ spans ++ span first None c ∷ [] → AreSpans P es key all
  ended spans first c i b over all m =
      ends_so P es key (worlds rest) (there P valid es key proper start rest h) (increasing P valid es key proper start rest h) (within P valid es key proper start rest h)
      (λ w c d s t. (choice_one P es key.function key.types w).one c d s t) spans first c i b (omega (arith, over, worlds_length rest)) all m
