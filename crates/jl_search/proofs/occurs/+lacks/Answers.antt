use Rattle.std.proofs.Common.{◌∙◌, sym, ap}
use Rattle.std.specs.List.{list_all}
use Rattle.jl_search.specs.Absent.{lacks}
use Rattle.jl_search.proofs.OccurLemmas.{lack-union, lack-tuple, lack-nominal}
use Rattle.jl_search.proofs.occurs.+lacks.Goals as goal

pub lacks-returns-in-Union : goal.lacks-returns-in-Union
lacks-returns-in-Union t c =
    let f = lacks c.args.width c.args.variable in
    c.all_lack.ensures ∙ ap (list_all f) c.as_slice.ensures ∙ sym (ap f c.in-Union.is ∙ lack-union c.args.width c.args.variable c.in-Union.parts)

pub lacks-returns-in-Tuple : goal.lacks-returns-in-Tuple
lacks-returns-in-Tuple t c =
    let f = lacks c.args.width c.args.variable in
    c.all_lack-in-Tuple.ensures ∙ ap (list_all f) c.as_slice-in-Tuple.ensures ∙ sym (ap f c.in-Tuple.is ∙ lack-tuple c.args.width c.args.variable c.in-Tuple.parts)

pub lacks-returns-in-Nominal : goal.lacks-returns-in-Nominal
lacks-returns-in-Nominal t c =
    let f = lacks c.args.width c.args.variable in
    c.all_lack-in-Nominal.ensures ∙ ap (list_all f) c.as_slice-in-Nominal.ensures ∙ sym (ap f c.in-Nominal.is ∙ lack-nominal c.args.width c.args.variable c.in-Nominal.field-0 c.in-Nominal.parts)
