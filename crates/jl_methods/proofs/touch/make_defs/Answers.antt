use Rattle.std.proofs.Common.{◌+◌, ◌∙◌, ap, sym, ◌++◌, ◌∷◌, [], append_assoc, drop, None, Some}
use Rattle.std.specs.Global.{Vec}
use Rattle.jl_calculus.specs.declared.history.Change.TheVariants as Ch
use Rattle.jl_methods.specs.Filters.{defs_at}
use Rattle.jl_methods.proofs.UpLemmas.{defs_at_step}
use Rattle.jl_methods.proofs.touch.make_defs.Goals as goal
use Rattle.jl_methods.proofs.touch.make_defs.Goals.{in-Some+in_ok-push-in-Some, in-None}

pub loop-world-preserved : goal.loop-world-preserved
loop-world-preserved c =
    let cs = c.args.changes.now in
    let ns = c.args.worlds.now in
    let i = c.loop-world.world-index in
    let items = c.loop-world.defs.items in
    let rest = defs_at cs (drop (i + 1) ns) in
    elim c.match-def_by.branch [
      | in-Some+in_ok-push-in-Some w ↦
          ap (λ (v : Vec _). v.items ++ rest) w.defs-is ∙ ap (λ ds. ds ++ rest) w.in_ok-push-in-Some.ensures.items
          ∙ append_assoc items (w.in-Some.def ∷ []) rest
          ∙ ap (λ ds. items ++ ds) (sym (defs_at_step cs ns i (Ch.Def 0) (Some w.in-Some.def) c.loop-world-test.true c.requires (sym w.in-Some.is ∙ c.def_by.ensures)))
          ∙ c.loop-world.invariant
      | in-None w ↦
          ap (λ (v : Vec _). v.items ++ rest) w.defs-is
          ∙ ap (λ ds. items ++ ds) (sym (defs_at_step cs ns i (Ch.Def 0) None c.loop-world-test.true c.requires (sym w.in-None.is ∙ c.def_by.ensures)))
          ∙ c.loop-world.invariant
    ]
