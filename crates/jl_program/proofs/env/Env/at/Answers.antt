use Rattle.std.proofs.Common.{◌≡◌, ◌∙◌, sym, ap, subst, ◌+◌, get_or, map, ◌<◌, ◌≤◌, ◌++◌, [], ◌-◌, length, drop, arith}
use Rattle.std.proofs.lemmas.List.{drop_all}
use Rattle.jl_program.specs.Meaning.{datum}
use Rattle.jl_program.specs.Seen.{join}
use Rattle.jl_program.proofs.EnvLemmas.{slot_in_chunk, slot_past_chunk, less_left, same_left}
use Rattle.jl_program.proofs.env.Env.at.Goals as goal

pub returns-then-left-len : goal.returns-then-left-len
returns-then-left-len c =
    let items = c.as_slice-chunk-items.result.now in
    let rest = c.self.inside.rest in
    let v = c.index-as_slice-left.result in
    let chunk = c.chunk-item.result in
    let within : c.loop-chunk.left < length chunk = omega (arith, c.if-left-len.true, c.len.ensures) in
    let found : v ≡ get_or chunk c.loop-chunk.left v = c.index-as_slice-left.is ∙ ap (λ z. get_or z c.loop-chunk.left v) c.as_slice.ensures in
    let seen : map datum (join items ++ rest) ≡ c.args.self.now = ap (λ z. map datum (join z ++ rest)) c.as_slice-chunk-items.ensures ∙ c.self.view_is in
    slot_in_chunk items rest c.loop-chunk.chunk-index c.args.slot c.loop-chunk.left chunk v c.loop-chunk-test.true c.chunk-item.is within found c.loop-chunk.invariant.left
    ∙ ap (λ z. get_or z c.args.slot (datum v)) seen

pub loop-chunk-preserved : goal.loop-chunk-preserved
loop-chunk-preserved c =
    let items = c.as_slice-chunk-items.result.now in
    let rest = c.self.inside.rest in
    let chunk = c.chunk-item.result in
    let past : length chunk ≤ c.loop-chunk.left = omega (arith, c.if-left-len.false, c.len.ensures) in
    let same : c.loop-chunk.left - length chunk ≡ c.loop-chunk.left - c.len-left.result = ap (λ n. c.loop-chunk.left - n) (sym c.len-left.ensures) in
    record {
      there = subst (λ n. n < length (join (drop (c.loop-chunk.chunk-index + 1) items) ++ rest)) same (less_left items rest c.loop-chunk.chunk-index c.loop-chunk.left chunk c.loop-chunk-test.true c.chunk-item.is past c.loop-chunk.invariant.there);
      left = slot_past_chunk items rest c.loop-chunk.chunk-index c.args.slot c.loop-chunk.left chunk c.loop-chunk-test.true c.chunk-item.is past c.loop-chunk.invariant.left
          ∙ ap (λ n. drop n (join (drop (c.loop-chunk.chunk-index + 1) items) ++ rest)) same;
    }

pub returns : goal.returns
returns c =
    let items = c.as_slice-chunk-items.result.now in
    let rest = c.self.inside.rest in
    let v = c.index-as_slice-left-2.result in
    let done : drop c.loop-chunk.chunk-index items ≡ [] = drop_all _ _ c.loop-chunk-test.false in
    let left : drop c.args.slot (join items ++ rest) ≡ drop c.loop-chunk.left rest = c.loop-chunk.invariant.left ∙ ap (λ z. drop c.loop-chunk.left (join z ++ rest)) done in
    let found : v ≡ get_or rest c.loop-chunk.left v = c.index-as_slice-left-2.is ∙ ap (λ z. get_or z c.loop-chunk.left v) c.as_slice-2.ensures in
    let seen : map datum (join items ++ rest) ≡ c.args.self.now = ap (λ z. map datum (join z ++ rest)) c.as_slice-chunk-items.ensures ∙ c.self.view_is in
    same_left (join items ++ rest) rest c.args.slot c.loop-chunk.left v left found ∙ ap (λ z. get_or z c.args.slot (datum v)) seen
