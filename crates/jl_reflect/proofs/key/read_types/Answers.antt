use Rattle.std.proofs.lemmas.Result.{IfOk-weaker}
use Rattle.jl_reflect.specs.Asked.{IsText, TypeMeans, TextMeans, Finds}
use Rattle.jl_reflect.proofs.FormLemmas.{found_some, found_none}
use Rattle.jl_reflect.proofs.AskedLemmas.{text_found}
use Rattle.jl_reflect.proofs.key.read_types.Goals as goal

pub returns-in_default : goal.returns-in_default
returns-in_default c = λ us m. found_none (IsText c.args.text.now) c.in_ok-text.field-0 c.in_default.is c.in_ok-text.ensures m.written m.read

pub returns : goal.returns
returns c =
    let ds = c.args.table.now in
    let bytes = c.args.text.now in
    let text = c.in-Some.text in
    IfOk-weaker c.written_types-types.result (Finds (TypeMeans ds text)) (Finds (TextMeans ds bytes))
    (text_found ds bytes text (found_some (IsText bytes) c.in_ok-text.field-0 text c.in-Some.is c.in_ok-text.ensures)) c.written_types-types.ensures
