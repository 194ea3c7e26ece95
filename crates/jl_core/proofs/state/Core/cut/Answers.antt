use Rattle.std.proofs.Common.{◌∙◌, ap, sym, subst, refl, arith}
use Rattle.std.proofs.lemmas.Option.{slice_get_read}
use Rattle.jl_calculus.specs.declared.step.Step.TheVariants as St
use Rattle.jl_calculus.specs.World.{world_of}
use Rattle.jl_core.specs.Kept.{core_of}
use Rattle.jl_core.specs.State.{MayMake}
use Rattle.jl_core.proofs.MakeLemmas.{few_worlds, cut_bound, cut_next, opened_cut}
use Rattle.jl_core.proofs.state.Core.cut.Goals as goal

pub overflow_cast-world : goal.overflow_cast-world
overflow_cast-world c =
    let a = c.self.inside in
    omega (arith, few_worlds _ _ (core_of a) _ c.self.invariant, c.world_of-world.ensures, ap world_of c.as_slice.ensures.value)

pub index_mut-words-requires : goal.index_mut-words-requires
index_mut-words-requires c =
    let a = c.self.inside in
    omega (arith, cut_bound _ _ (core_of a) _ c.self.invariant c.args.row (subst (λ s. MayMake s (St.Cut c.args.row)) (sym c.self.view_is) c.requires), a.words.ok.0)

pub invariant_of-self-2 : goal.invariant_of-self-2
invariant_of-self-2 c =
    let a = c.self.inside in
    let may = subst (λ s. MayMake s (St.Cut c.args.row)) (sym c.self.view_is) c.requires in
    let at = slice_get_read a.words.items _ c.args.row c.index_mut-words.result.now refl (cut_bound _ _ (core_of a) _ c.self.invariant c.args.row may) c.index_mut-words.ensures.value in
    cut_next _ _ (core_of a) _ c.self.invariant c.args.row _ c.index_mut-words.result.now _ may refl refl (opened_cut a.opened a.cut.items c.push.new.self.items c.args.row c.in_ok-push.ensures.items)
    at refl refl refl refl (c.world_of-world.ensures ∙ ap world_of c.as_slice.ensures.value)
