use Rattle.std.proofs.Common.{[], ◌∷◌, ◌≡◌, ◌∙◌, sym, ap, subst}
use Rattle.jl_grammar.specs.Marks.{with_marks}
use Rattle.jl_reader.specs.Answers.{state_of}
use Rattle.jl_reader.proofs.Ended.{SoFar, script_given, fault_given, one_more}
use Rattle.jl_reader.proofs.StaysMachine.{depth_of}
use Rattle.jl_reader.proofs.reading.read.Goals as goal

pub loop-token-init : goal.loop-token-init
loop-token-init c = record {
  front = [];
  split = c.in_ok-left.ensures ∙ ap with_marks c.in_ok-lexemes.ensures;
  state = sym c.start-reading.ensures;
  none = ap (λ x. depth_of x) c.start-reading.ensures;
}

pub loop-token-preserved : goal.loop-token-preserved
loop-token-preserved c =
    one_more c.args.tokens.now c.pop.new.self c.in-Some.token (state_of c.loop-token.point c.loop-token.reading) (state_of c.in-Ok.next c.take.new.reading)
    (subst (λ x. SoFar c.args.tokens.now x (state_of c.loop-token.point c.loop-token.reading)) c.in-Some.ensures c.loop-token.invariant) c.in-Ok.ensures

pub returns-in-Err-clause-reads : goal.returns-in-Err-clause-reads
returns-in-Err-clause-reads c =
    (fault_given c.args.tokens.now c.pop.new.self c.in-Some.token (state_of c.loop-token.point c.loop-token.reading) c.in-Err.fault c.requires.ends
    (subst (λ x. SoFar c.args.tokens.now x (state_of c.loop-token.point c.loop-token.reading)) c.in-Some.ensures c.loop-token.invariant) c.in-Err.ensures).0

pub returns-in-Err-clause-only : goal.returns-in-Err-clause-only
returns-in-Err-clause-only c =
    (fault_given c.args.tokens.now c.pop.new.self c.in-Some.token (state_of c.loop-token.point c.loop-token.reading) c.in-Err.fault c.requires.ends
    (subst (λ x. SoFar c.args.tokens.now x (state_of c.loop-token.point c.loop-token.reading)) c.in-Some.ensures c.loop-token.invariant) c.in-Err.ensures).1

pub returns-clause-reads : goal.returns-clause-reads
returns-clause-reads c =
    (script_given c.args.tokens.now (state_of c.loop-token.point c.loop-token.reading) (record { items = c.in_ok-items.items }) c.requires.ends
    (subst (λ x. SoFar c.args.tokens.now x (state_of c.loop-token.point c.loop-token.reading)) c.in_default.ensures.0 c.loop-token.invariant) c.in_ok-items.ensures).0

pub returns-clause-only : goal.returns-clause-only
returns-clause-only c =
    (script_given c.args.tokens.now (state_of c.loop-token.point c.loop-token.reading) (record { items = c.in_ok-items.items }) c.requires.ends
    (subst (λ x. SoFar c.args.tokens.now x (state_of c.loop-token.point c.loop-token.reading)) c.in_default.ensures.0 c.loop-token.invariant) c.in_ok-items.ensures).1
