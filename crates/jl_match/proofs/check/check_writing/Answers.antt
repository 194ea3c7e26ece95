use Rattle.std.proofs.Common.{◌≡◌, ◌∙◌, sym, ap, true, false, arith}
use Rattle.std.specs.List.{list_all}
use Rattle.jl_model.specs.Valid.{is_counted}
use Rattle.jl_match.proofs.check.check_writing.Goals as goal

pub returns-clause-checked : goal.returns-clause-checked
returns-clause-checked c =
    let ds = c.args.table.now in
    record {
      placed = λ h. let f : true ≡ false = sym c.if-not-are_placed.false ∙ c.are_placed.ensures ∙ h in cc;
      used = λ h. let g = c.in_ok-unused.ensures.1 h in let f : true ≡ false = sym g ∙ c.if-unused.false in cc;
      few = λ h. omega (arith, c.len.ensures, c.if-len-gt-MOST_ARGUMENTS.false, h);
      counted = λ h. let f : true ≡ false = sym c.if-not-are_counted.false ∙ c.are_counted.ensures ∙ ap (list_all (is_counted ds)) (c.as_slice.ensures.value ∙ c.in_ok-types.ensures) ∙ h in cc;
    }
