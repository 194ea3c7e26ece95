use Rattle.std.proofs.Common.{rules, ◌<◌, length, refl, sym}
use Rattle.jl_queue.proofs.BoardLemmas.{on_ok, push_default, push_whole, none_waits, not_ended, changed_same, waits, waits_whole}
use Rattle.jl_queue.proofs.board.Board.park.Goals as goal

pub returns-in_default-clause-whole : goal.returns-in_default-clause-whole
returns-in_default-clause-whole g c =
    on_ok c.push-in_default.result c.push-in_default.ensures.put
    (push_default c.args.self.now c.self.inside.line c.push-in_default.new.self c.self.inside.waiting.items c.args.of c.index_mut.result.now c.args.job (sym c.self.view_is) c.index_mut.ensures.value)

pub returns-in-Ok-clause-waits : goal.returns-in-Ok-clause-waits
returns-in-Ok-clause-waits g c =
    let old = c.args.self.now in
    let line = c.self.inside.line in
    let vs = c.self.inside.waiting.items in
    let inside : c.args.of < length vs = search rules in
    waits old line vs c.args.of c.index_mut.result.now c.in-Some.jobs (sym c.self.view_is) inside c.index_mut.ensures.value c.in-Some.is c.push_back.new.self c.args.job c.in-Ok.ensures.items

pub returns-in-Ok-clause-ended : goal.returns-in-Ok-clause-ended
returns-in-Ok-clause-ended g c =
    let old = c.args.self.now in
    let line = c.self.inside.line in
    let vs = c.self.inside.waiting.items in
    let inside : c.args.of < length vs = search rules in
    λ e. absurd (not_ended old line vs c.args.of c.index_mut.result.now c.in-Some.jobs (sym c.self.view_is) inside c.index_mut.ensures.value c.in-Some.is e)

pub returns-in-Ok-clause-whole : goal.returns-in-Ok-clause-whole
returns-in-Ok-clause-whole g c =
    let old = c.args.self.now in
    let line = c.self.inside.line in
    let vs = c.self.inside.waiting.items in
    let inside : c.args.of < length vs = search rules in
    waits_whole old line vs c.args.of c.index_mut.result.now c.in-Some.jobs (sym c.self.view_is) inside c.index_mut.ensures.value c.in-Some.is c.push_back.new.self c.args.job c.in-Ok.ensures.items

pub returns-in-Err-clause-kept : goal.returns-in-Err-clause-kept
returns-in-Err-clause-kept g c =
    let old = c.args.self.now in
    let line = c.self.inside.line in
    let vs = c.self.inside.waiting.items in
    let inside : c.args.of < length vs = search rules in
    changed_same old line vs c.args.of c.index_mut.result.now c.in-Some.jobs (sym c.self.view_is) inside c.index_mut.ensures.value c.in-Some.is c.push_back.new.self c.in-Err.ensures.items

pub returns-then-of-len-clause-whole : goal.returns-then-of-len-clause-whole
returns-then-of-len-clause-whole g c =
    on_ok c.push.result c.push.ensures.put
    (push_whole c.args.self.now c.self.inside.line c.push.new.self c.self.inside.waiting.items c.self.inside.waiting.items c.args.job (sym c.self.view_is) refl)

pub returns-in_default-clause-waits : goal.returns-in_default-clause-waits
returns-in_default-clause-waits g c =
    let vs = c.self.inside.waiting.items in
    let inside : c.args.of < length vs = search rules in
    λ jobs e. absurd (none_waits c.args.self.now c.self.inside.line vs c.args.of c.index_mut.result.now jobs (sym c.self.view_is) inside c.index_mut.ensures.value c.in_default.is e)
