use Rattle.std.proofs.Common.{◌≡◌, ◌∙◌, sym, subst}
use Rattle.std.specs.List.{flat_map}
use Rattle.std.proofs.lemmas.Result.{IfOk-weaker}
use Rattle.jl_model.specs.Refusals.{given_in, types_of}
use Rattle.jl_norm.specs.Judged.{Judged, SomeLarge, AreArguments, given_of}
use Rattle.jl_norm.proofs.ArgumentLemmas.{arguments_are}
use Rattle.jl_norm.proofs.arguments.is_broken.Goals as goal

pub is_any_outside-requires-clause-arguments_known : goal.is_any_outside-requires-clause-arguments_known
is_any_outside-requires-clause-arguments_known c =
    let ds = c.args.table.now in
    let d = c.args.decl.now in
    let e : c.as_slice.result.now ≡ types_of d = c.as_slice.ensures.value ∙ c.in_ok-types.ensures in
    subst (λ z. AreArguments ds d (flat_map given_in z)) (sym e) (arguments_are ds d c.valid.ensures c.requires.written c.args.kept.now c.requires.is_kept c.requires.sized c.requires.kept_sized)

pub returns-clause-judged : goal.returns-clause-judged
returns-clause-judged c =
    let ds = c.args.table.now in
    let d = c.args.decl.now in
    let e : c.as_slice.result.now ≡ types_of d = c.as_slice.ensures.value ∙ c.in_ok-types.ensures in
    IfOk-weaker c.is_any_outside.result (λ b. Judged ds d (flat_map given_in c.as_slice.result.now) b) (λ b. Judged ds d (given_of d) b) (λ b j. subst (λ z. Judged ds d (flat_map given_in z) b) e j) c.is_any_outside.ensures.judged

pub returns-clause-limit : goal.returns-clause-limit
returns-clause-limit c = λ x.
    let ds = c.args.table.now in
    let d = c.args.decl.now in
    let e : c.as_slice.result.now ≡ types_of d = c.as_slice.ensures.value ∙ c.in_ok-types.ensures in
    subst (λ z. SomeLarge ds d (flat_map given_in z)) e (c.is_any_outside.ensures.limit x)
