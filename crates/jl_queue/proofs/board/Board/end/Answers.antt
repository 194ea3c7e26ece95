use Rattle.std.proofs.Common.{rules, ◌<◌, length, sym}
use Rattle.jl_queue.proofs.BoardLemmas.{on_err, not_ended, back_same, back_whole, freed_are, freed_whole}
use Rattle.jl_queue.proofs.board.Board.end.Goals as goal

pub returns-in_err-append-clause-kept : goal.returns-in_err-append-clause-kept
returns-in_err-append-clause-kept g c =
    let old = c.args.self.now in
    let line = c.self.inside.line in
    let vs = c.self.inside.waiting.items in
    let inside : c.args.task < length vs = search rules in
    let kept = c.in_err-append.ensures.kept in
    on_err c.from_residual.result
    (back_same old line vs c.args.task c.index_mut.result.now c.in-Some.jobs (sym c.self.view_is) inside c.index_mut.ensures.value c.in-Some.is c.append.new.values c.append.new.self kept.0 kept.1)

pub returns-in_err-append-clause-whole : goal.returns-in_err-append-clause-whole
returns-in_err-append-clause-whole g c =
    let old = c.args.self.now in
    let line = c.self.inside.line in
    let vs = c.self.inside.waiting.items in
    let inside : c.args.task < length vs = search rules in
    let kept = c.in_err-append.ensures.kept in
    back_whole old line vs c.args.task c.index_mut.result.now c.in-Some.jobs (sym c.self.view_is) inside c.index_mut.ensures.value c.in-Some.is c.append.new.values c.append.new.self kept.0 kept.1

pub returns-clause-freed : goal.returns-clause-freed
returns-clause-freed g c =
    let old = c.args.self.now in
    let line = c.self.inside.line in
    let vs = c.self.inside.waiting.items in
    let inside : c.args.task < length vs = search rules in
    freed_are old line vs c.args.task c.index_mut.result.now c.in-Some.jobs (sym c.self.view_is) inside c.index_mut.ensures.value c.in-Some.is c.append.new.values c.append.new.self c.in_ok-append.ensures.taken c.in_ok-append.ensures.put c.mark_ended.new.self c.mark_ended.ensures

pub returns-clause-again : goal.returns-clause-again
returns-clause-again g c =
    let old = c.args.self.now in
    let line = c.self.inside.line in
    let vs = c.self.inside.waiting.items in
    let inside : c.args.task < length vs = search rules in
    λ e. absurd (not_ended old line vs c.args.task c.index_mut.result.now c.in-Some.jobs (sym c.self.view_is) inside c.index_mut.ensures.value c.in-Some.is e)

pub returns-clause-whole : goal.returns-clause-whole
returns-clause-whole g c =
    let old = c.args.self.now in
    let line = c.self.inside.line in
    let vs = c.self.inside.waiting.items in
    let inside : c.args.task < length vs = search rules in
    freed_whole old line vs c.args.task c.index_mut.result.now c.in-Some.jobs (sym c.self.view_is) inside c.index_mut.ensures.value c.in-Some.is c.append.new.values c.append.new.self c.in_ok-append.ensures.taken c.in_ok-append.ensures.put c.mark_ended.new.self c.mark_ended.ensures
