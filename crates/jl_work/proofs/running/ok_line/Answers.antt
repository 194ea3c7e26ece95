use Rattle.std.proofs.Common.{ap, ◌∙◌, ◌++◌, codes, List, ℕ, length, drop}
use Rattle.jl_program.specs.Prelude.{prelude_count}
use Rattle.jl_work.proofs.PlaceLemmas.{counted}
use Rattle.jl_work.proofs.running.ok_line.Goals as goal

pub returns : goal.returns
returns c =
    counted c.into_shared.result c.append.new.self c.append_number.new.out c.append-2.new.self c.append_number-2.new.out c.append-3.new.self
    (codes "ok: ") (codes " types, ") (codes " definitions\n")
    c.len.result (length c.args.program.now.decls) c.own_sites.result (length (drop prelude_count c.args.program.now.sites)) c.len.ensures c.own_sites.ensures
    (c.in_ok-append.ensures ∙ ap (λ (out : List ℕ). out ++ codes "ok: ") c.new-out.ensures) c.in_ok-append_number.ensures c.in_ok-append-2.ensures c.in_ok-append_number-2.ensures c.in_ok-append-3.ensures
    c.into_shared.ensures
