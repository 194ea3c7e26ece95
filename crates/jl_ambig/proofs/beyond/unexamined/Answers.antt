use Rattle.std.proofs.Common.{◌≡◌, ◌∙◌, ap, sym, subst, arith, List, length, get_or, slice_get}
use Rattle.std.proofs.lemmas.Option.{slice_get-get_or}
use Rattle.jl_program.specs.declared.tree.Program.{Program}
use Rattle.jl_calculus.specs.declared.history.Change.{Change}
use Rattle.jl_calculus.specs.declared.history.Change.TheVariants as Ch
use Rattle.jl_calculus.specs.World.{changes}
use Rattle.jl_choosing.proofs.FunctionLemmas.{prelude_there}
use Rattle.jl_methods.specs.Filters.{IsOfProgram}
use Rattle.jl_ambig.proofs.MadeLemmas.{known_change}
use Rattle.jl_ambig.proofs.StandLemmas.{no_ends_known, none_up, ends_moved, change_here, next_no, next_yes, whole_up}
use Rattle.jl_ambig.proofs.beyond.unexamined.Goals as goal

pub loop-i-init : goal.loop-i-init
loop-i-init c = record {
  ends = no_ends_known c.args.ready.now (changes c.args.events.now) c.in_ok-ends.ends.items (c.in_ok-ends.ensures.count ∙ c.len.ensures ∙ ap (λ (p : Program). length p.sites) c.program.ensures) c.in_ok-ends.ensures.empty;
  found = none_up c.args.ready.now c.args.events.now c.new-worlds.result.items c.new-worlds.ensures.items;
}

pub is_unexamined-requires-clause-change : goal.is_unexamined-requires-clause-change
is_unexamined-requires-clause-change c =
    let P = c.args.ready.now in
    let es = c.args.events.now in
    let M = c.in_ok-made.made in
    let m0 : M.0 ≡ P = ap (λ (v : Program × List Change). v.0) c.in_ok-made.ensures.all in
    let m1 : M.1 ≡ changes es = ap (λ (v : Program × List Change). v.1) c.in_ok-made.ensures.all in
    let a : c.all-all.result.now ≡ changes es = c.all-all.ensures ∙ m1 in
    let x = get_or c.all-all.result.now c.loop-i.i (Ch.Def 0) in
    subst (λ R. IsOfProgram R x) (sym m0)
    (known_change P es c.requires (prelude_there P c.valid.ensures) c.loop-i.i x (ap (λ cs. slice_get cs c.loop-i.i) (sym a) ∙ slice_get-get_or c.all-all.result.now c.loop-i.i (Ch.Def 0) c.loop-i-test.true))

pub is_unexamined-requires-clause-ends : goal.is_unexamined-requires-clause-ends
is_unexamined-requires-clause-ends c =
    let P = c.args.ready.now in
    let es = c.args.events.now in
    let M = c.in_ok-made.made in
    let m0 : M.0 ≡ P = ap (λ (v : Program × List Change). v.0) c.in_ok-made.ensures.all in
    let m1 : M.1 ≡ changes es = ap (λ (v : Program × List Change). v.1) c.in_ok-made.ensures.all in
    ends_moved P M.0 (changes es) M.1 c.loop-i.ends.items m0 m1 c.loop-i.invariant.ends

pub loop-i-preserved-then-not-yes : goal.loop-i-preserved-then-not-yes
loop-i-preserved-then-not-yes c =
    let P = c.args.ready.now in
    let es = c.args.events.now in
    let M = c.in_ok-made.made in
    let m0 : M.0 ≡ P = ap (λ (v : Program × List Change). v.0) c.in_ok-made.ensures.all in
    let m1 : M.1 ≡ changes es = ap (λ (v : Program × List Change). v.1) c.in_ok-made.ensures.all in
    let a : c.all-all.result.now ≡ changes es = c.all-all.ensures ∙ m1 in
    let i = c.loop-i.i in
    let d = c.in_ok-yes.ensures.yes es (sym m1) (change_here es c.all-all.result.now i (Ch.Def 0) a c.loop-i-test.true) in
    let back = ends_moved M.0 P M.1 (changes es) c.is_unexamined.new.ends.items (sym m0) (sym m1) c.in_ok-yes.ensures.ends in
    record { ends = back; found = next_no P M.0 es i c.loop-i.worlds.items c.in_ok-yes.yes m0 d c.if-not-yes.true c.loop-i.invariant.found }

pub loop-i-preserved : goal.loop-i-preserved
loop-i-preserved c =
    let P = c.args.ready.now in
    let es = c.args.events.now in
    let M = c.in_ok-made.made in
    let m0 : M.0 ≡ P = ap (λ (v : Program × List Change). v.0) c.in_ok-made.ensures.all in
    let m1 : M.1 ≡ changes es = ap (λ (v : Program × List Change). v.1) c.in_ok-made.ensures.all in
    let a : c.all-all.result.now ≡ changes es = c.all-all.ensures ∙ m1 in
    let i = c.loop-i.i in
    let d = c.in_ok-yes.ensures.yes es (sym m1) (change_here es c.all-all.result.now i (Ch.Def 0) a c.loop-i-test.true) in
    let back = ends_moved M.0 P M.1 (changes es) c.is_unexamined.new.ends.items (sym m0) (sym m1) c.in_ok-yes.ensures.ends in
    record { ends = back; found = next_yes P M.0 es i c.loop-i.worlds.items c.push.new.self.items c.in_ok-yes.yes m0 d c.if-not-yes.false c.in_ok-push.ensures.items c.loop-i.invariant.found }

pub returns : goal.returns
returns c =
    let P = c.args.ready.now in
    let es = c.args.events.now in
    let M = c.in_ok-made.made in
    let m0 : M.0 ≡ P = ap (λ (v : Program × List Change). v.0) c.in_ok-made.ensures.all in
    let m1 : M.1 ≡ changes es = ap (λ (v : Program × List Change). v.1) c.in_ok-made.ensures.all in
    let a : c.all-all.result.now ≡ changes es = c.all-all.ensures ∙ m1 in
    let e = ap length a in
    whole_up P es c.loop-i.i c.loop-i.worlds.items (omega (arith, c.loop-i-test.false, e)) c.loop-i.invariant.found
