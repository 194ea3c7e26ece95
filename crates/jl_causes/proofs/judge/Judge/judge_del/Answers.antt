use Rattle.std.proofs.Common.{◌<◌, ap, arith, length}
use Rattle.jl_program.specs.declared.tree.Program.{Program}
use Rattle.jl_causes.proofs.JudgeLemmas.{not_so, not_yes, del_not_running, del_no_place, del_no_method, del_full, del_clean}
use Rattle.jl_causes.proofs.StoodLemmas.{finds_now}
use Rattle.jl_causes.proofs.judge.Judge.judge_del.Goals as goal

pub returns-then-not-is_running : goal.returns-then-not-is_running
returns-then-not-is_running c = λ all es h. del_not_running c.args.ready.now all es c.args.task c.args.place (not_so c.is_running.result (c.is_running.ensures es h.tasks) c.if-not-is_running.true)

pub returns-then-place-count : goal.returns-then-place-count
returns-then-place-count c = λ all es h.
    del_no_place c.args.ready.now all es c.args.task c.args.place ((c.is_running.ensures es h.tasks).0 c.if-not-is_running.false) (omega (arith, c.if-place-count.true, c.len-count.ensures, ap (λ (P : Program). length P.deletes) c.program.ensures))

pub has_method_in-requires : goal.has_method_in-requires
has_method_in-requires c = omega (arith, c.if-place-count.false, c.len-count.ensures, ap (λ (P : Program). length P.deletes) c.program.ensures)

pub returns-then-not-has_method : goal.returns-then-not-has_method
returns-then-not-has_method c = λ all es h.
    let P = c.args.ready.now in
    let place = c.args.place in
    let known : place < length P.deletes = omega (arith, c.if-place-count.false, c.len-count.ensures, ap (λ (P : Program). length P.deletes) c.program.ensures) in
    let now = c.newest-world.ensures es h.places in
    let answer = finds_now P es place _ c.in_ok-has_method.has_method (c.in_ok-has_method.ensures es (length es) h.rows) now.world in
    del_no_method P all es c.args.task place ((c.is_running.ensures es h.tasks).0 c.if-not-is_running.false) known (not_yes c.in_ok-has_method.has_method answer c.if-not-has_method.true)

pub returns-then-world-ge-MOST_WORLDS : goal.returns-then-world-ge-MOST_WORLDS
returns-then-world-ge-MOST_WORLDS c = λ all es h.
    let P = c.args.ready.now in
    let place = c.args.place in
    let known : place < length P.deletes = omega (arith, c.if-place-count.false, c.len-count.ensures, ap (λ (P : Program). length P.deletes) c.program.ensures) in
    let now = c.newest-world.ensures es h.places in
    let answer = finds_now P es place _ c.in_ok-has_method.has_method (c.in_ok-has_method.ensures es (length es) h.rows) now.world in
    del_full P all es c.args.task place ((c.is_running.ensures es h.tasks).0 c.if-not-is_running.false) known (answer.0 c.if-not-has_method.false) (omega (arith, now.world, c.if-world-ge-MOST_WORLDS.true))

pub returns : goal.returns
returns c = λ all es h.
    let P = c.args.ready.now in
    let place = c.args.place in
    let known : place < length P.deletes = omega (arith, c.if-place-count.false, c.len-count.ensures, ap (λ (P : Program). length P.deletes) c.program.ensures) in
    let now = c.newest-world.ensures es h.places in
    let answer = finds_now P es place _ c.in_ok-has_method.has_method (c.in_ok-has_method.ensures es (length es) h.rows) now.world in
    del_clean P all es c.args.task place ((c.is_running.ensures es h.tasks).0 c.if-not-is_running.false) known (answer.0 c.if-not-has_method.false) (omega (arith, now.world, c.if-world-ge-MOST_WORLDS.false))
