use Rattle.std.proofs.Common.{◌∙◌, ◌<◌, ap, sym, subst, ◌++◌, ◌∷◌, [], length}
use Rattle.jl_calculus.specs.declared.history.Change.TheVariants as Ch
use Rattle.jl_choosing.specs.ByFunction.{AreByFunction, AreDelsByFunction}
use Rattle.jl_choosing.proofs.FunctionLemmas.{place_function_known, dels_more, defs_kept, row_dels_before}
use Rattle.jl_choosing.proofs.changes.Changes.delete.Goals as goal

pub add_deletion-requires-clause-function : goal.add_deletion-requires-clause-function
add_deletion-requires-clause-function c =
    let d = c.self.inside in
    let place = subst (λ v. c.args.place < length v.0.deletes) (sym c.self.view_is) c.requires.place in
    let count = c.len.ensures ∙ c.reserve.ensures.len ∙ d.changes.ok.0 in
    place_function_known d.ready.now c.valid.ensures c.args.place c.len.result d.changes.items count c.as_slice.result.now _ (c.as_slice.ensures ∙ ap (λ p. p.deletes) c.program.ensures) place d.deletions.items c.self.invariant.1.count

pub add_deletion-requires-clause-later : goal.add_deletion-requires-clause-later
add_deletion-requires-clause-later c =
    let d = c.self.inside in
    row_dels_before d.ready.now d.changes.items d.deletions.items _ c.len.result c.self.invariant.1 (c.len.ensures ∙ c.reserve.ensures.len ∙ d.changes.ok.0)

pub invariant_of-self-2 : goal.invariant_of-self-2
invariant_of-self-2 c =
    let d = c.self.inside in
    let P = d.ready.now in
    let place = subst (λ v. c.args.place < length v.0.deletes) (sym c.self.view_is) c.requires.place in
    let count = c.len.ensures ∙ c.reserve.ensures.len ∙ d.changes.ok.0 in
    let items = c.push_reserved.ensures.items ∙ ap (λ xs. xs ++ Ch.Del c.args.place ∷ []) c.reserve.ensures.items in (
      subst (λ cs. AreByFunction P cs d.methods.items) (sym items) (defs_kept P d.changes.items d.methods.items c.args.place c.self.invariant.0),
      subst (λ cs. AreDelsByFunction P cs c.add_deletion.new.deletions.items) (sym items)
          (dels_more P c.valid.ensures c.args.place c.len.result d.changes.items count c.as_slice.result.now _ (c.as_slice.ensures ∙ ap (λ p. p.deletes) c.program.ensures) place d.deletions.items c.add_deletion.new.deletions.items c.self.invariant.1 c.in_ok-add_deletion.ensures.added),
      c.self.invariant.2,
    )
