use Rattle.std.proofs.Common.{◌≡◌, ◌<◌, ◌≤◌, ap, subst, arith, length, take, MatchOption}
use Rattle.jl_program.specs.declared.tree.Program.{Program}
use Rattle.jl_calculus.specs.World.{world_of}
use Rattle.jl_causes.proofs.StoodLemmas.{not_absent, absent_by}
use Rattle.jl_causes.proofs.trace.is_absent.Goals as goal

pub returns-then-place-count : goal.returns-then-place-count
returns-then-place-count c = λ all es h.
    not_absent c.args.ready.now es c.args.place c.args.at (λ k. (let known = k.1.known in omega (arith, known, c.if-place-count.true, c.len-count.ensures, ap (λ (P : Program). length P.deletes) c.program.ensures)))

pub returns-in_default : goal.returns-in_default
returns-in_default c = λ all es h.
    let far : length es < c.args.at = subst (λ o. MatchOption o (length es < c.args.at) (λ world. (c.args.at ≤ length es) × (world_of (take c.args.at es) ≡ world))) c.in_default.is (c.world_at.ensures es h.places) in
    not_absent c.args.ready.now es c.args.place c.args.at (λ k. omega (arith, k.0, far))

pub returns-then-world-ge-MOST_WORLDS : goal.returns-then-world-ge-MOST_WORLDS
returns-then-world-ge-MOST_WORLDS c = λ all es h.
    let there : (c.args.at ≤ length es) × (world_of (take c.args.at es) ≡ c.in-Some.world) =
    subst (λ o. MatchOption o (length es < c.args.at) (λ world. (c.args.at ≤ length es) × (world_of (take c.args.at es) ≡ world))) c.in-Some.is (c.world_at.ensures es h.places)
    in
    not_absent c.args.ready.now es c.args.place c.args.at (λ k. (let room = k.1.room in omega (arith, room, there.1, c.if-world-ge-MOST_WORLDS.true)))

pub has_method_in-requires : goal.has_method_in-requires
has_method_in-requires c = omega (arith, c.if-place-count.false, c.len-count.ensures, ap (λ (P : Program). length P.deletes) c.program.ensures)

pub returns : goal.returns
returns c = λ all es h.
    let there : (c.args.at ≤ length es) × (world_of (take c.args.at es) ≡ c.in-Some.world) =
    subst (λ o. MatchOption o (length es < c.args.at) (λ world. (c.args.at ≤ length es) × (world_of (take c.args.at es) ≡ world))) c.in-Some.is (c.world_at.ensures es h.places)
    in
    absent_by c.args.ready.now es c.args.place c.args.at c.in_ok-is_there.is_there there.0 (omega (arith, c.if-place-count.false, c.len-count.ensures, ap (λ (P : Program). length P.deletes) c.program.ensures))
    (omega (arith, there.1, c.if-world-ge-MOST_WORLDS.false)) (c.in_ok-is_there.ensures es c.args.at h.rows there.1)
