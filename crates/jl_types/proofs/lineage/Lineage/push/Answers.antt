use Rattle.std.proofs.Common.{◌≡◌, ◌∙◌, ap}
use Rattle.jl_model.specs.Ancestors.{line_of}
use Rattle.jl_types.specs.Lines.{line_in, lines_in}
use Rattle.jl_types.proofs.TableLemmas.{has_lines-snoc}
use Rattle.jl_types.proofs.lineage.Lineage.push.Goals as goal

pub invariant_of-self-2 : goal.invariant_of-self-2
invariant_of-self-2 c =
    let es = c.self.inside.entries.items in
    let line_is : line_in c.in_ok-line.line ≡ line_of (lines_in es) c.args.decl = c.in_ok-line.ensures ∙ ap (λ z. line_of (lines_in z) c.args.decl) c.as_slice.ensures.value in
    rw c.in_ok-push.ensures.items (has_lines-snoc es (record { decl = c.args.decl; line = c.in_ok-line.line }) c.self.invariant line_is)
