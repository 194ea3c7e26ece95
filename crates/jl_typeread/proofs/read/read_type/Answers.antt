use Rattle.std.proofs.Common.{ap}
use Rattle.std.specs.Prelude.{option_map}
use Rattle.jl_typeread.specs.Machine.{turn_of}
use Rattle.jl_typeread.proofs.read.read_type.Goals as goal
use Rattle.jl_typeread.proofs.Loop as L

pub returns-in-Some-clause-reads : goal.returns-in-Some-clause-reads
returns-in-Some-clause-reads c =
    L.unless_of _ _ c.final_answer.result
    (L.answer_reads c.args.tokens.now _ c.args.from c.loop-count.count _ _ c.in_ok-lexeme.lexeme _ _ _ _ _ (turn_of c.in-Some.ended c.take.new.reader.state) c.final_answer.result
    c.loop-count.invariant.rest c.loop-count-test.true c.index-rest-count.is c.in_ok-lexeme.ensures c.loop-count.invariant.state c.loop-count.invariant.depth
    c.in_ok-ended.ensures (ap (option_map (λ t. turn_of t c.take.new.reader.state)) c.in-Some.is) (c.final_answer.ensures c.take.new.reader.state))

pub returns-in-Some-clause-only : goal.returns-in-Some-clause-only
returns-in-Some-clause-only c =
    L.only_of _ _ c.final_answer.result
    (L.answer_reads c.args.tokens.now _ c.args.from c.loop-count.count _ _ c.in_ok-lexeme.lexeme _ _ _ _ _ (turn_of c.in-Some.ended c.take.new.reader.state) c.final_answer.result
    c.loop-count.invariant.rest c.loop-count-test.true c.index-rest-count.is c.in_ok-lexeme.ensures c.loop-count.invariant.state c.loop-count.invariant.depth
    c.in_ok-ended.ensures (ap (option_map (λ t. turn_of t c.take.new.reader.state)) c.in-Some.is) (c.final_answer.ensures c.take.new.reader.state))

pub loop-count-preserved : goal.loop-count-preserved
loop-count-preserved c =
    let next = L.step_all_round _ c.loop-count.count _ _ c.in_ok-lexeme.lexeme _ _ _ _ _ c.loop-count-test.true c.index-rest-count.is c.in_ok-lexeme.ensures
    c.loop-count.invariant.state c.loop-count.invariant.depth c.loop-count.invariant.low c.in_ok-ended.ensures (ap (option_map (λ t. turn_of t c.take.new.reader.state)) c.in_default.is) in
    record { rest = c.loop-count.invariant.rest; state = next.state; depth = next.depth; low = next.low }

pub unreachable-requires : goal.unreachable-requires
unreachable-requires c =
    L.never_ends c.args.tokens.now _ c.args.from c.loop-count.count c.loop-count.reader.state c.requires.ends c.requires.inside c.loop-count.invariant.rest c.loop-count-test.false c.loop-count.invariant.state
