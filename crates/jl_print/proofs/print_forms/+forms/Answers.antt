use Rattle.jl_print.proofs.PrintedRest.{after-one}
use Rattle.jl_print.proofs.print_forms.+forms.Goals as goal

pub put_latest_call-returns : goal.put_latest_call-returns
put_latest_call-returns t c =
    after-one c.put_given_in_parens.result c.args.out.now c.put_given_in_parens.new.out c.put_dotted.new.out _ _ c.in_ok-put_dotted.ensures c.put_given_in_parens.ensures
