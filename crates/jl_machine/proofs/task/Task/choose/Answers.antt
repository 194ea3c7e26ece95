use Rattle.std.proofs.Common.{◌≡◌, ◌∙◌, ap, map}
use Rattle.jl_program.specs.TypeOf.{type_of}
use Rattle.jl_machine.proofs.Choosing.{key_is, concrete_is, chosen_there, chosen_below, chosen_applies, chosen_later, kept_later, chosen_method, asked_twice}
use Rattle.jl_machine.proofs.Stepping.{lent_none, lent_ambiguous, lent_method_is}
use Rattle.jl_machine.proofs.TakenLemmas.{chosen_taken}
use Rattle.jl_machine.proofs.task.Task.choose.Goals as goal

pub select-requires-clause-key : goal.select-requires-clause-key
select-requires-clause-key g c =
    key_is _ _ c.args.function c.args.world _ c.requires.fits c.in_ok-copy.field-0 (c.in_ok-copy.ensures ∙ c.in_ok-types.ensures ∙ ap (map type_of) c.open_values.ensures)

pub statics_of-requires-clause-there : goal.statics_of-requires-clause-there
statics_of-requires-clause-there g c =
    let right = rw (c.in-Method.is, c.in_ok-copy.ensures) at c.in_ok-select.ensures.right in
    chosen_below _ _ c.args.ready.now c.args.function c.args.world c.in-Method.definition c.site-site.result c.in_ok-types.types c.requires.program c.select.ensures.asked right c.site-site.ensures

pub statics_of-requires-clause-concrete : goal.statics_of-requires-clause-concrete
statics_of-requires-clause-concrete g c =
    concrete_is _ _ c.args.function c.args.world _ c.requires.fits c.args.ready.now c.in_ok-types.types c.requires.program (c.in_ok-types.ensures ∙ ap (map type_of) c.open_values.ensures)

pub statics_of-requires-clause-applies : goal.statics_of-requires-clause-applies
statics_of-requires-clause-applies g c =
    let right = rw (c.in-Method.is, c.in_ok-copy.ensures) at c.in_ok-select.ensures.right in
    chosen_applies _ _ c.args.ready.now c.args.function c.args.world c.in-Method.definition c.site-site.result c.in_ok-types.types c.requires.program c.select.ensures.asked right c.site-site.ensures

pub perform-requires-clause-there : goal.perform-requires-clause-there
perform-requires-clause-there g c =
    let right = rw (c.in-Method.is, c.in_ok-copy.ensures) at c.in_ok-select.ensures.right in
    chosen_below _ _ c.args.ready.now c.args.function c.args.world c.in-Method.definition c.site-site.result c.in_ok-types.types c.requires.program c.select.ensures.asked right c.site-site.ensures

pub perform-requires-clause-taken : goal.perform-requires-clause-taken
perform-requires-clause-taken g c =
    let right = rw (c.in-Method.is, c.in_ok-copy.ensures) at c.in_ok-select.ensures.right in
    let there = chosen_there _ _ c.args.ready.now c.args.function c.args.world c.in-Method.definition c.site-site.result c.in_ok-types.types c.requires.program c.select.ensures.asked right c.site-site.ensures in
    chosen_taken _ _ c.args.ready.now c.args.function c.args.world c.site-site.result _ c.in_ok-types.types c.requires.program (c.in_ok-types.ensures ∙ ap (map type_of) c.open_values.ensures) c.requires.fits there

pub keep-requires : goal.keep-requires
keep-requires g c =
    let right = rw (c.in-Method.is, c.in_ok-copy.ensures) at c.in_ok-select.ensures.right in
    chosen_method _ _ c.args.ready.now c.args.function c.args.world c.in-Method.definition c.site-site.result c.in_ok-types.types c.requires.program c.select.ensures.asked right c.site-site.ensures _ c.in_ok-statics-in-Method.ensures

pub returns-in-None : goal.returns-in-None
returns-in-None g c =
    let types : c.in_ok-types.types ≡ map type_of c.args.self.now.now.frames.open_values = c.in_ok-types.ensures ∙ ap (map type_of) c.open_values.ensures in
    let right = rw (c.in-None.is, c.in_ok-copy.ensures) at c.in_ok-select.ensures.right in
    lent_none _ c.args.self.now c.args.function c.args.world c.requires.fits _ c.requires.fuel c.requires.room c.select.ensures.asked c.end.result c.end.new.now c.in_ok-types.types types c.end.ensures right

pub returns-in-Ambiguous : goal.returns-in-Ambiguous
returns-in-Ambiguous g c =
    let types : c.in_ok-types.types ≡ map type_of c.args.self.now.now.frames.open_values = c.in_ok-types.ensures ∙ ap (map type_of) c.open_values.ensures in
    let right = rw (c.in-Ambiguous.is, c.in_ok-copy.ensures) at c.in_ok-select.ensures.right in
    lent_ambiguous _ c.args.self.now c.args.function c.args.world c.requires.fits _ c.requires.fuel c.requires.room c.select.ensures.asked c.end-in-Ambiguous.result c.end-in-Ambiguous.new.now c.in_ok-types.types c.in-Ambiguous.first c.in-Ambiguous.second types c.end-in-Ambiguous.ensures right

pub returns-in_ok-work-in-Method : goal.returns-in_ok-work-in-Method
returns-in_ok-work-in-Method g c =
    let types : c.in_ok-types.types ≡ map type_of c.args.self.now.now.frames.open_values = c.in_ok-types.ensures ∙ ap (map type_of) c.open_values.ensures in
    let right = rw (c.in-Method.is, c.in_ok-copy.ensures) at c.in_ok-select.ensures.right in
    let later = chosen_later _ _ c.args.ready.now c.args.function c.args.world c.in-Method.definition c.site-site.result c.in_ok-types.types c.requires.program c.select.ensures.asked right c.site-site.ensures _ c.keep.ensures in
    let kept = kept_later _ _ c.args.ready.now c.args.function c.args.world c.in-Method.definition c.site-site.result c.in_ok-types.types c.requires.program c.select.ensures.asked right c.site-site.ensures _ c.keep.ensures in
    lent_method_is _ c.args.self.now c.args.function c.args.world c.requires.fits _ c.requires.fuel c.requires.room (asked_twice _ _ _ c.select.ensures.asked c.keep.ensures) c.in_ok-work-in-Method.work c.args.ready.now c.site-site.result c.perform.new.now c.in_ok-types.types c.requires.program types c.in_ok-work-in-Method.ensures later kept
