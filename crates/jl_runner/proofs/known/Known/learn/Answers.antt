use Rattle.jl_world.proofs.Growth.{begins_trans}
use Rattle.jl_runner.proofs.AskLemmas.{knowing_met, asked_known}
use Rattle.jl_runner.proofs.BookLemmas.{key_grows, knowing_kept, knowing_same}
use Rattle.jl_runner.proofs.known.Known.learn.Goals as goal

pub invariant_of-self : goal.invariant_of-self
invariant_of-self g c =
    let k = c.self.inside in
    let b = key_grows c.key.result c.args.book.now c.key.new.self c.args.key.now c.key.ensures.added c.key.ensures.refused in
    knowing_met k.pass c.key.new.pass k.keys k.first c.key.new.self c.key.ensures.pass (begins_trans k.pass.seen c.args.book.now c.key.new.self c.key.ensures.seen b) c.self.invariant

pub returns-in_err-copy-in-Ok-clause-asked : goal.returns-in_err-copy-in-Ok-clause-asked
returns-in_err-copy-in-Ok-clause-asked g c =
    let k = c.self.inside in
    let b = key_grows c.key.result c.args.book.now c.key.new.self c.args.key.now c.key.ensures.added c.key.ensures.refused in
    asked_known g.N.Naming.about c.args.self.now k.pass c.key.new.pass k.first k.site c.self.view_is k.site c.key.new.self c.key.ensures.pass (begins_trans k.pass.seen c.args.book.now c.key.new.self c.key.ensures.seen b)

pub invariant_of-self-in_err-keep-in-Ok : goal.invariant_of-self-in_err-keep-in-Ok
invariant_of-self-in_err-keep-in-Ok g c =
    let k = c.self.inside in
    let b = key_grows c.key.result c.args.book.now c.key.new.self c.args.key.now c.key.ensures.added c.key.ensures.refused in
    knowing_same c.key.new.pass k.keys c.keep.new.self k.first c.in_err-keep-in-Ok.ensures.refused
    (knowing_met k.pass c.key.new.pass k.keys k.first c.key.new.self c.key.ensures.pass (begins_trans k.pass.seen c.args.book.now c.key.new.self c.key.ensures.seen b) c.self.invariant)

pub returns-in_err-keep-in-Ok-clause-asked : goal.returns-in_err-keep-in-Ok-clause-asked
returns-in_err-keep-in-Ok-clause-asked g c =
    let k = c.self.inside in
    let b = key_grows c.key.result c.args.book.now c.key.new.self c.args.key.now c.key.ensures.added c.key.ensures.refused in
    asked_known g.N.Naming.about c.args.self.now k.pass c.key.new.pass k.first k.site c.self.view_is k.site c.key.new.self c.key.ensures.pass (begins_trans k.pass.seen c.args.book.now c.key.new.self c.key.ensures.seen b)

pub invariant_of-self-in-Ok : goal.invariant_of-self-in-Ok
invariant_of-self-in-Ok g c =
    let k = c.self.inside in
    let b = key_grows c.key.result c.args.book.now c.key.new.self c.args.key.now c.key.ensures.added c.key.ensures.refused in
    knowing_kept c.key.new.pass k.pass c.key.new.self k.keys c.keep.new.self k.first c.in_ok-copy-in-Ok.field-0 c.args.key.now c.in-Ok.number c.key.ensures.pass c.in_ok-keep-in-Ok.ensures.kept c.in_ok-copy-in-Ok.ensures
    c.in-Ok.ensures.named
    (knowing_met k.pass c.key.new.pass k.keys k.first c.key.new.self c.key.ensures.pass (begins_trans k.pass.seen c.args.book.now c.key.new.self c.key.ensures.seen b) c.self.invariant)

pub invariant_of-self-in-Err-KeysFull : goal.invariant_of-self-in-Err-KeysFull
invariant_of-self-in-Err-KeysFull g c =
    let k = c.self.inside in
    let b = key_grows c.key.result c.args.book.now c.key.new.self c.args.key.now c.key.ensures.added c.key.ensures.refused in
    knowing_met k.pass c.key.new.pass k.keys k.first c.key.new.self c.key.ensures.pass (begins_trans k.pass.seen c.args.book.now c.key.new.self c.key.ensures.seen b) c.self.invariant

pub invariant_of-self-in-Err-Memory : goal.invariant_of-self-in-Err-Memory
invariant_of-self-in-Err-Memory g c =
    let k = c.self.inside in
    let b = key_grows c.key.result c.args.book.now c.key.new.self c.args.key.now c.key.ensures.added c.key.ensures.refused in
    knowing_met k.pass c.key.new.pass k.keys k.first c.key.new.self c.key.ensures.pass (begins_trans k.pass.seen c.args.book.now c.key.new.self c.key.ensures.seen b) c.self.invariant

pub returns-in_ok-keep-in-Ok-clause-asked : goal.returns-in_ok-keep-in-Ok-clause-asked
returns-in_ok-keep-in-Ok-clause-asked g c =
    let k = c.self.inside in
    let b = key_grows c.key.result c.args.book.now c.key.new.self c.args.key.now c.key.ensures.added c.key.ensures.refused in
    asked_known g.N.Naming.about c.args.self.now k.pass c.key.new.pass k.first k.site c.self.view_is k.site c.key.new.self c.key.ensures.pass (begins_trans k.pass.seen c.args.book.now c.key.new.self c.key.ensures.seen b)

pub returns-in-Err-KeysFull-clause-asked : goal.returns-in-Err-KeysFull-clause-asked
returns-in-Err-KeysFull-clause-asked g c =
    let k = c.self.inside in
    let b = key_grows c.key.result c.args.book.now c.key.new.self c.args.key.now c.key.ensures.added c.key.ensures.refused in
    asked_known g.N.Naming.about c.args.self.now k.pass c.key.new.pass k.first k.site c.self.view_is k.site c.key.new.self c.key.ensures.pass (begins_trans k.pass.seen c.args.book.now c.key.new.self c.key.ensures.seen b)

pub returns-in-Err-Memory-clause-asked : goal.returns-in-Err-Memory-clause-asked
returns-in-Err-Memory-clause-asked g c =
    let k = c.self.inside in
    let b = key_grows c.key.result c.args.book.now c.key.new.self c.args.key.now c.key.ensures.added c.key.ensures.refused in
    asked_known g.N.Naming.about c.args.self.now k.pass c.key.new.pass k.first k.site c.self.view_is k.site c.key.new.self c.key.ensures.pass (begins_trans k.pass.seen c.args.book.now c.key.new.self c.key.ensures.seen b)
