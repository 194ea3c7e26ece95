use Rattle.std.proofs.Common.{◌∙◌, ◌<◌, ap, sym, subst, ◌++◌, ◌∷◌, [], length}
use Rattle.jl_calculus.specs.declared.history.Change.TheVariants as Ch
use Rattle.jl_choosing.specs.ByFunction.{AreByFunction, AreDelsByFunction}
use Rattle.jl_choosing.proofs.FunctionLemmas.{function_known, defs_more, dels_kept, row_before}
use Rattle.jl_choosing.proofs.changes.Changes.define.Goals as goal

pub add-requires-clause-function : goal.add-requires-clause-function
add-requires-clause-function c =
    let d = c.self.inside in
    let site = subst (λ v. c.args.site < length v.0.sites) (sym c.self.view_is) c.requires.site in
    let count = c.len.ensures ∙ c.reserve.ensures.len ∙ d.changes.ok.0 in
    function_known d.ready.now c.valid.ensures c.args.site c.len.result d.changes.items count c.as_slice.result.now _ (c.as_slice.ensures ∙ ap (λ p. p.sites) c.program.ensures) site d.methods.items c.self.invariant.0.count

pub add-requires-clause-later : goal.add-requires-clause-later
add-requires-clause-later c =
    let d = c.self.inside in
    row_before d.ready.now d.changes.items d.methods.items _ c.len.result c.self.invariant.0 (c.len.ensures ∙ c.reserve.ensures.len ∙ d.changes.ok.0)

pub invariant_of-self-2 : goal.invariant_of-self-2
invariant_of-self-2 c =
    let d = c.self.inside in
    let P = d.ready.now in
    let site = subst (λ v. c.args.site < length v.0.sites) (sym c.self.view_is) c.requires.site in
    let count = c.len.ensures ∙ c.reserve.ensures.len ∙ d.changes.ok.0 in
    let items = c.push_reserved.ensures.items ∙ ap (λ xs. xs ++ Ch.Def c.args.site ∷ []) c.reserve.ensures.items in (
      subst (λ cs. AreByFunction P cs c.add.new.methods.items) (sym items)
          (defs_more P c.valid.ensures c.args.site c.len.result d.changes.items count c.as_slice.result.now _ (c.as_slice.ensures ∙ ap (λ p. p.sites) c.program.ensures) site d.methods.items c.add.new.methods.items c.self.invariant.0 c.in_ok-add.ensures.added),
      subst (λ cs. AreDelsByFunction P cs d.deletions.items) (sym items) (dels_kept P d.changes.items d.deletions.items c.args.site c.self.invariant.1),
      c.self.invariant.2,
    )
