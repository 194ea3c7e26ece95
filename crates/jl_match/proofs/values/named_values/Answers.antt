use Rattle.std.proofs.Common.{◌≡◌, ◌∙◌, ◌+◌, refl, sym, ap, subst, arith, length, [], drop}
use Rattle.jl_model.specs.Ancestors.{table_of}
use Rattle.jl_model.specs.Subtype.{opaque, at}
use Rattle.jl_model.specs.Found.{filled}
use Rattle.jl_search.proofs.FillLemmas.{long_hits}
use Rattle.jl_search.proofs.WalkLemmas.{fill_end}
use Rattle.jl_match.specs.KeptRow.{row_of}
use Rattle.jl_match.proofs.ValueSteps.{one_value}
use Rattle.jl_match.proofs.values.named_values.Goals as goal

pub bounds-found-variable : goal.bounds-found-variable
bounds-found-variable c =
    let s = c.args.signature.now in
    let n = table_of c.args.table.now in
    let m : length c.as_slice-found.result.now ≡ length s.vars = ap length (c.as_slice-found.ensures.value ∙ c.in_ok-hits.ensures) ∙ long_hits n opaque s (row_of c.args.parts.now []) c.args.types.now 0 s.vars in
    omega (arith, m, c.loop-variable-test.true, c.requires.diagonals.long)

pub loop-variable-preserved : goal.loop-variable-preserved
loop-variable-preserved c =
    let s = c.args.signature.now in
    let n = table_of c.args.table.now in
    let r = row_of c.args.parts.now c.args.chosen.now in
    let ts = c.args.types.now in
    let os = c.as_slice-found.result.now in
    let done = c.loop-variable.values.items in
    let new = c.push.new.self.items in
    let e : length done ≡ c.loop-variable.variable = c.loop-variable.invariant.long in
    let m : length os ≡ length s.vars = ap length (c.as_slice-found.ensures.value ∙ c.in_ok-hits.ensures) ∙ long_hits n opaque s (row_of c.args.parts.now []) ts 0 s.vars in
    let k : length new ≡ length done + 1 = grind (arith, c.in_ok-push.ensures.items) in
    record {
      so_far = subst (λ z. filled n opaque s r ts new (drop z os) ≡ filled n opaque s r ts [] os) (sym k)
          (one_value n s r ts done os c.loop-variable.variable c.index-found-variable.result c.in_ok-value.value c.as_slice-found.result.now c.as_slice-before.result.now new (filled n opaque s r ts [] os)
          e (omega (arith, m, c.loop-variable-test.true, c.requires.diagonals.long)) refl c.index-found-variable.is c.as_slice-before.ensures.value c.in_ok-value.ensures c.in_ok-push.ensures.items c.loop-variable.invariant.so_far);
      long = omega (arith, k, e);
    }

pub returns-clause-found : goal.returns-clause-found
returns-clause-found c =
    let s = c.args.signature.now in
    let n = table_of c.args.table.now in
    let r = row_of c.args.parts.now c.args.chosen.now in
    let ts = c.args.types.now in
    let os = c.as_slice-found.result.now in
    let m : length os ≡ length s.vars = ap length (c.as_slice-found.ensures.value ∙ c.in_ok-hits.ensures) ∙ long_hits n opaque s (row_of c.args.parts.now []) ts 0 s.vars in
    ap at (fill_end n opaque s r ts c.loop-variable.values.items os (filled n opaque s r ts [] os) (omega (arith, m, c.loop-variable.invariant.long, c.loop-variable-test.false, c.requires.diagonals.long)) c.loop-variable.invariant.so_far
    ∙ ap (filled n opaque s r ts []) (c.as_slice-found.ensures.value ∙ c.in_ok-hits.ensures))
