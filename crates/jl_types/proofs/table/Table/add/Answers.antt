use Rattle.std.proofs.Common.{subst, sym}
use Rattle.jl_model.specs.Refusals.{IsReady, added}
use Rattle.jl_types.proofs.table.Table.add.Goals as goal

pub invariant_of-self-2 : goal.invariant_of-self-2
invariant_of-self-2 c =
    let ds = c.self.inside.lineage in
    let ready : IsReady ds c.args.decl = subst (λ z. IsReady z c.args.decl) (sym c.self.view_is) c.requires in
    record { declared = rw c.in_ok-push.ensures.added (added ds c.args.decl c.self.invariant.declared ready); builtin = c.self.invariant.builtin }
