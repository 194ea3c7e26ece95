use Rattle.std.proofs.Common.{◌∙◌}
use Rattle.jl_written.proofs.ScopeLemmas.{paren_read}
use Rattle.jl_written.proofs.reads.+types.Goals as goal

pub read_type-returns-in_ok-swap-in-Paren-clause-means : goal.read_type-returns-in_ok-swap-in-Paren-clause-means
read_type-returns-in_ok-swap-in-Paren-clause-means n c =
    paren_read c.args.around.now.decls.now c.args.text.now c.in-Paren.ty c.get.result.now c.in-Paren.field-0 c.in-Paren.variables c.as_slice-in-Paren.result.now c.as_slice-in-Paren-2.result.now
    c.args.around.now.first c.args.vars.now c.bind_all.new.vars c.args.sight c.widen-sight.result c.args.inside c.args.state.now c.bind_where.new.state c.bind_all.new.state c.read_type.new.state c.add_places.new.state c.swap.new.state
    c.in_ok-ty-in-Paren.ty c.len-visible.result c.len-start.result c.len-middle.result c.replace-before.new.dest c.replace-before.result c.replace-behind.new.dest c.replace-behind.result c.as_slice-in-Paren-3.result.now
    c.in-Paren.is c.get.ensures c.as_slice-in-Paren.ensures c.as_slice-in-Paren-2.ensures c.len-visible.ensures c.len-start.ensures c.len-middle.ensures
    (c.bind_where.ensures c.args.around.now.decls.now) c.replace-before.ensures.value (c.replace-before.ensures.after ∙ c.new.ensures)
    c.in_ok-bind_all-in-Paren.ensures.bound c.in_ok-bind_all-in-Paren.ensures.kept c.replace-behind.ensures.value c.replace-behind.ensures.after c.widen-sight.ensures
    c.in_ok-ty-in-Paren.ensures.means c.as_slice-in-Paren-3.ensures c.in_ok-add_places-in-Paren.ensures c.in_ok-swap-in-Paren.ensures
