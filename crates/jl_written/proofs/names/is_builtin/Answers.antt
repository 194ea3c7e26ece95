use Rattle.std.proofs.Common.{◌∙◌, refl, sym}
use Rattle.jl_program.specs.Names.{builtin_names}
use Rattle.jl_written.proofs.BuiltinLemmas.{not_among}
use Rattle.jl_written.proofs.names.is_builtin.Goals as goal

pub returns-else-has_small_second : goal.returns-else-has_small_second
returns-else-has_small_second c = c.if-has_small_second.false ∙ sym (not_among builtin_names c.args.word.now refl (sym c.has_small_second.ensures ∙ c.if-has_small_second.false))
