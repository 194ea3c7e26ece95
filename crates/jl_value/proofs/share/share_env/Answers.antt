use Rattle.std.proofs.Common.{◌∙◌, ap, map, ◌*◌, ◌+◌, ◌++◌, drop, List}
use Rattle.jl_program.specs.declared.value.Value.{Value}
use Rattle.jl_program.specs.Meaning.{datum}
use Rattle.jl_program.specs.Seen.{join}
use Rattle.jl_value.proofs.ShareLemmas.{next_chunk}
use Rattle.jl_value.proofs.share.share_env.Goals as goal

pub loop-number-preserved : goal.loop-number-preserved
loop-number-preserved c =
    let values = c.args.values.now in
    ap (λ (z : List (List Value)). map datum (join z ++ drop ((c.loop-number.number + 1) * 64) values)) c.in_ok-push.ensures.items
    ∙ next_chunk c.loop-number.chunks.items c.in_ok-chunk.chunk c.loop-number.number values (c.in_ok-chunk.ensures ∙ ap (map datum) c.chunk_at-part.ensures)
    ∙ c.loop-number.invariant
