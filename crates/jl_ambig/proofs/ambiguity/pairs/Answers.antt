use Rattle.std.proofs.Common.{◌≡◌, ◌∙◌, ap, sym, subst, List, length, ◌++◌, []}
use Rattle.std.specs.List.{All}
use Rattle.jl_program.specs.declared.tree.Program.{Program}
use Rattle.jl_calculus.specs.declared.history.Change.{Change}
use Rattle.jl_calculus.specs.World.{changes}
use Rattle.jl_ambig.specs.Asked.{AreTypes, Probe, probes_up_to, AreFound}
use Rattle.jl_ambig.specs.Probes.{longer, lists_of}
use Rattle.jl_ambig.proofs.DoneLemmas.{pairs_done}
use Rattle.jl_ambig.proofs.FoundLemmas.{none_found}
use Rattle.jl_ambig.proofs.TypeLemmas.{lists_types, lists_long}
use Rattle.jl_ambig.proofs.ambiguity.pairs.Goals as goal

pub ask_functions-requires-clause-types : goal.ask_functions-requires-clause-types
ask_functions-requires-clause-types c =
    let T = c.in_ok-kept.kept.items in
    let t : c.as_slice-types.result.now ≡ T = c.as_slice-types.ensures.value in
    let e0 : c.as_slice-none.result.now ≡ lists_of T 0 = c.as_slice-none.ensures.value ∙ c.in_ok-first.ensures in
    let m : c.in_ok-made.made.0 ≡ c.args.ready.now = ap (λ (v : Program × List Change). v.0) c.in_ok-made.ensures.all in
    subst (λ xs. All (AreTypes c.in_ok-made.made.0) xs) (sym e0)
    (subst (λ R. All (AreTypes R) (lists_of T 0)) (sym m) (lists_types c.args.ready.now c.args.events.now c.requires T c.in_ok-kept.ensures 0))

pub ask_functions-requires-clause-long : goal.ask_functions-requires-clause-long
ask_functions-requires-clause-long c =
    let T = c.in_ok-kept.kept.items in
    let t : c.as_slice-types.result.now ≡ T = c.as_slice-types.ensures.value in
    let e0 : c.as_slice-none.result.now ≡ lists_of T 0 = c.as_slice-none.ensures.value ∙ c.in_ok-first.ensures in
    subst (λ xs. All (λ ts. length ts ≡ 0) xs) (sym e0) (lists_long T 0)

pub ask_functions-requires-2-clause-types : goal.ask_functions-requires-2-clause-types
ask_functions-requires-2-clause-types c =
    let T = c.in_ok-kept.kept.items in
    let t : c.as_slice-types.result.now ≡ T = c.as_slice-types.ensures.value in
    let e0 : c.as_slice-none.result.now ≡ lists_of T 0 = c.as_slice-none.ensures.value ∙ c.in_ok-first.ensures in
    let e1 : c.as_slice-ones.result.now ≡ lists_of T 1 = c.as_slice-ones.ensures.value ∙ c.in_ok-second.ensures ∙ ap (λ z. longer z c.as_slice-types.result.now) e0 ∙ ap (λ z. longer (lists_of T 0) z) t in
    let m : c.in_ok-made.made.0 ≡ c.args.ready.now = ap (λ (v : Program × List Change). v.0) c.in_ok-made.ensures.all in
    subst (λ xs. All (AreTypes c.in_ok-made.made.0) xs) (sym e1)
    (subst (λ R. All (AreTypes R) (lists_of T 1)) (sym m) (lists_types c.args.ready.now c.args.events.now c.requires T c.in_ok-kept.ensures 1))

pub ask_functions-requires-2-clause-long : goal.ask_functions-requires-2-clause-long
ask_functions-requires-2-clause-long c =
    let T = c.in_ok-kept.kept.items in
    let t : c.as_slice-types.result.now ≡ T = c.as_slice-types.ensures.value in
    let e0 : c.as_slice-none.result.now ≡ lists_of T 0 = c.as_slice-none.ensures.value ∙ c.in_ok-first.ensures in
    let e1 : c.as_slice-ones.result.now ≡ lists_of T 1 = c.as_slice-ones.ensures.value ∙ c.in_ok-second.ensures ∙ ap (λ z. longer z c.as_slice-types.result.now) e0 ∙ ap (λ z. longer (lists_of T 0) z) t in
    subst (λ xs. All (λ ts. length ts ≡ 1) xs) (sym e1) (lists_long T 1)

pub ask_functions-requires-3-clause-types : goal.ask_functions-requires-3-clause-types
ask_functions-requires-3-clause-types c =
    let T = c.in_ok-kept.kept.items in
    let t : c.as_slice-types.result.now ≡ T = c.as_slice-types.ensures.value in
    let e0 : c.as_slice-none.result.now ≡ lists_of T 0 = c.as_slice-none.ensures.value ∙ c.in_ok-first.ensures in
    let e1 : c.as_slice-ones.result.now ≡ lists_of T 1 = c.as_slice-ones.ensures.value ∙ c.in_ok-second.ensures ∙ ap (λ z. longer z c.as_slice-types.result.now) e0 ∙ ap (λ z. longer (lists_of T 0) z) t in
    let e2 : c.as_slice-twos.result.now ≡ lists_of T 2 = c.as_slice-twos.ensures.value ∙ c.in_ok-third.ensures ∙ ap (λ z. longer z c.as_slice-types.result.now) e1 ∙ ap (λ z. longer (lists_of T 1) z) t in
    let m : c.in_ok-made.made.0 ≡ c.args.ready.now = ap (λ (v : Program × List Change). v.0) c.in_ok-made.ensures.all in
    subst (λ xs. All (AreTypes c.in_ok-made.made.0) xs) (sym e2)
    (subst (λ R. All (AreTypes R) (lists_of T 2)) (sym m) (lists_types c.args.ready.now c.args.events.now c.requires T c.in_ok-kept.ensures 2))

pub ask_functions-requires-3-clause-long : goal.ask_functions-requires-3-clause-long
ask_functions-requires-3-clause-long c =
    let T = c.in_ok-kept.kept.items in
    let t : c.as_slice-types.result.now ≡ T = c.as_slice-types.ensures.value in
    let e0 : c.as_slice-none.result.now ≡ lists_of T 0 = c.as_slice-none.ensures.value ∙ c.in_ok-first.ensures in
    let e1 : c.as_slice-ones.result.now ≡ lists_of T 1 = c.as_slice-ones.ensures.value ∙ c.in_ok-second.ensures ∙ ap (λ z. longer z c.as_slice-types.result.now) e0 ∙ ap (λ z. longer (lists_of T 0) z) t in
    let e2 : c.as_slice-twos.result.now ≡ lists_of T 2 = c.as_slice-twos.ensures.value ∙ c.in_ok-third.ensures ∙ ap (λ z. longer z c.as_slice-types.result.now) e1 ∙ ap (λ z. longer (lists_of T 1) z) t in
    subst (λ xs. All (λ ts. length ts ≡ 2) xs) (sym e2) (lists_long T 2)

pub ask_functions-requires-4-clause-types : goal.ask_functions-requires-4-clause-types
ask_functions-requires-4-clause-types c =
    let T = c.in_ok-kept.kept.items in
    let t : c.as_slice-types.result.now ≡ T = c.as_slice-types.ensures.value in
    let e0 : c.as_slice-none.result.now ≡ lists_of T 0 = c.as_slice-none.ensures.value ∙ c.in_ok-first.ensures in
    let e1 : c.as_slice-ones.result.now ≡ lists_of T 1 = c.as_slice-ones.ensures.value ∙ c.in_ok-second.ensures ∙ ap (λ z. longer z c.as_slice-types.result.now) e0 ∙ ap (λ z. longer (lists_of T 0) z) t in
    let e2 : c.as_slice-twos.result.now ≡ lists_of T 2 = c.as_slice-twos.ensures.value ∙ c.in_ok-third.ensures ∙ ap (λ z. longer z c.as_slice-types.result.now) e1 ∙ ap (λ z. longer (lists_of T 1) z) t in
    let e3 : c.as_slice-threes.result.now ≡ lists_of T 3 = c.as_slice-threes.ensures.value ∙ c.in_ok-fourth.ensures ∙ ap (λ z. longer z c.as_slice-types.result.now) e2 ∙ ap (λ z. longer (lists_of T 2) z) t in
    let m : c.in_ok-made.made.0 ≡ c.args.ready.now = ap (λ (v : Program × List Change). v.0) c.in_ok-made.ensures.all in
    subst (λ xs. All (AreTypes c.in_ok-made.made.0) xs) (sym e3)
    (subst (λ R. All (AreTypes R) (lists_of T 3)) (sym m) (lists_types c.args.ready.now c.args.events.now c.requires T c.in_ok-kept.ensures 3))

pub ask_functions-requires-4-clause-long : goal.ask_functions-requires-4-clause-long
ask_functions-requires-4-clause-long c =
    let T = c.in_ok-kept.kept.items in
    let t : c.as_slice-types.result.now ≡ T = c.as_slice-types.ensures.value in
    let e0 : c.as_slice-none.result.now ≡ lists_of T 0 = c.as_slice-none.ensures.value ∙ c.in_ok-first.ensures in
    let e1 : c.as_slice-ones.result.now ≡ lists_of T 1 = c.as_slice-ones.ensures.value ∙ c.in_ok-second.ensures ∙ ap (λ z. longer z c.as_slice-types.result.now) e0 ∙ ap (λ z. longer (lists_of T 0) z) t in
    let e2 : c.as_slice-twos.result.now ≡ lists_of T 2 = c.as_slice-twos.ensures.value ∙ c.in_ok-third.ensures ∙ ap (λ z. longer z c.as_slice-types.result.now) e1 ∙ ap (λ z. longer (lists_of T 1) z) t in
    let e3 : c.as_slice-threes.result.now ≡ lists_of T 3 = c.as_slice-threes.ensures.value ∙ c.in_ok-fourth.ensures ∙ ap (λ z. longer z c.as_slice-types.result.now) e2 ∙ ap (λ z. longer (lists_of T 2) z) t in
    subst (λ xs. All (λ ts. length ts ≡ 3) xs) (sym e3) (lists_long T 3)

pub returns : goal.returns
returns c =
    let P = c.args.ready.now in
    let es = c.args.events.now in
    let M = c.in_ok-made.made.0 in
    let F = c.functions-above.result in
    let T = c.in_ok-kept.kept.items in
    let t : c.as_slice-types.result.now ≡ T = c.as_slice-types.ensures.value in
    let e0 : c.as_slice-none.result.now ≡ lists_of T 0 = c.as_slice-none.ensures.value ∙ c.in_ok-first.ensures in
    let e1 : c.as_slice-ones.result.now ≡ lists_of T 1 = c.as_slice-ones.ensures.value ∙ c.in_ok-second.ensures ∙ ap (λ z. longer z c.as_slice-types.result.now) e0 ∙ ap (λ z. longer (lists_of T 0) z) t in
    let e2 : c.as_slice-twos.result.now ≡ lists_of T 2 = c.as_slice-twos.ensures.value ∙ c.in_ok-third.ensures ∙ ap (λ z. longer z c.as_slice-types.result.now) e1 ∙ ap (λ z. longer (lists_of T 1) z) t in
    let e3 : c.as_slice-threes.result.now ≡ lists_of T 3 = c.as_slice-threes.ensures.value ∙ c.in_ok-fourth.ensures ∙ ap (λ z. longer z c.as_slice-types.result.now) e2 ∙ ap (λ z. longer (lists_of T 2) z) t in
    let m : M ≡ P = ap (λ (v : Program × List Change). v.0) c.in_ok-made.ensures.all in
    let same : changes es ≡ c.in_ok-made.made.1 = sym (ap (λ (v : Program × List Change). v.1) c.in_ok-made.ensures.all) in
    let h0 : AreFound M es [] c.new-found.result.items = none_found M es c.new-found.result.items c.new-found.ensures.items in
    let h1 = subst (λ xs. AreFound M es ([] ++ probes_up_to F xs) c.ask_functions.new.pairs.items) e0 (c.in_ok-ask_functions.ensures es [] same h0) in
    let d1 : List Probe = [] ++ probes_up_to F (lists_of T 0) in
    let h2 = subst (λ xs. AreFound M es (d1 ++ probes_up_to F xs) c.ask_functions-2.new.pairs.items) e1 (c.in_ok-ask_functions-2.ensures es d1 same h1) in
    let d2 : List Probe = d1 ++ probes_up_to F (lists_of T 1) in
    let h3 = subst (λ xs. AreFound M es (d2 ++ probes_up_to F xs) c.ask_functions-3.new.pairs.items) e2 (c.in_ok-ask_functions-3.ensures es d2 same h2) in
    let d3 : List Probe = d2 ++ probes_up_to F (lists_of T 2) in
    let h4 = subst (λ xs. AreFound M es (d3 ++ probes_up_to F xs) c.ask_functions-4.new.pairs.items) e3 (c.in_ok-ask_functions-4.ensures es d3 same h3) in
    pairs_done P c.valid.ensures es T c.in_ok-kept.ensures F c.functions-above.ensures.all c.ask_functions-4.new.pairs.items
    (subst (λ R. AreFound R es (d3 ++ probes_up_to F (lists_of T 3)) c.ask_functions-4.new.pairs.items) m h4)
