use Rattle.jl_model.specs.Usable.{is_usable}
use Rattle.jl_resolve_forms.proofs.FlagLemmas.{flag_of}
use Rattle.jl_resolve_forms.proofs.methods.is_flagged.Goals as goal

pub returns-in-Some : goal.returns-in-Some
returns-in-Some c =
    flag_of (is_usable c.args.written.now) c.args.written.now.vars c.args.flags.now c.args.number c.in-Some.flag.now _ c.requires c.in-Some.ensures.lookup.0 c.in-Some.ensures.lookup.1
