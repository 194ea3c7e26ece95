use Rattle.std.proofs.Common.{◌∙◌, ap, subst, sym, arith, length, None}
use Rattle.std.proofs.lemmas.List.{length_push}
use Rattle.jl_causes.specs.Stands.{AllNone}
use Rattle.jl_causes.proofs.ListLemmas.{none_at_first, none_more}
use Rattle.jl_causes.proofs.standing.nothing_found.Goals as goal

pub loop-init : goal.loop-init
loop-init c = (ap length c.new-alike.ensures.items, subst AllNone (sym c.new-alike.ensures.items) none_at_first)

pub loop-preserved : goal.loop-preserved
loop-preserved c =
    let h = c.loop.invariant in (
      ap length c.in_ok-push.ensures.items ∙ omega (arith, length_push c.loop.alike.items None, h.0),
      subst AllNone (sym c.in_ok-push.ensures.items) (none_more c.loop.alike.items h.1),
    )
