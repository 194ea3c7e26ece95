use Rattle.std.proofs.Common.{◌≡◌, ◌∙◌, sym, true, false, length}
use Rattle.jl_model.specs.Valid.{is_known, is_closed}
use Rattle.jl_types.proofs.PartsLemmas.{known_parts}
use Rattle.jl_sig.proofs.BoundLemmas.{named_normal}
use Rattle.jl_sig.proofs.PickLemmas.{kept_passes}
use Rattle.jl_sig.proofs.forms.normal_high.Goals as goal

pub returns-clause-form : goal.returns-clause-form
returns-clause-form c =
    let ds = c.args.table.now in
    let t = c.args.high.now in
    let u = c.in_ok-kept.kept in
    let o : is_closed t ≡ false = sym c.is_closed.ensures ∙ c.if-is_closed.false in
    record {
      form = named_normal ds t u (c.requires.named o) c.in_ok-kept.ensures;
      known = kept_passes ds c.valid.ensures (is_known (length ds)) (known_parts (length ds)) t u c.in_ok-kept.ensures c.requires.fit.known;
      small = λ k. absurd (let g : true ≡ false = sym k ∙ o in cc);
      named = λ e. c.in_ok-kept.ensures;
    }
