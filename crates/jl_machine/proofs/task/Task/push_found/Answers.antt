use Rattle.std.proofs.Common.{◌∙◌, sym, ap}
use Rattle.jl_program.specs.declared.tree.Expr.{Expr, out-Expr}
use Rattle.jl_program.specs.declared.tree.Expr.TheOpen.{Expr-F}
use Rattle.jl_program.specs.declared.tree.Expr.TheOpen as F
use Rattle.jl_program.specs.declared.tree.Expr.TheViews as V
use Rattle.jl_program.specs.declared.tree.Item.{Item}
use Rattle.jl_program.specs.declared.tree.Piece.{Piece}
use Rattle.jl_program.specs.declared.tree.Stmt.{Stmt}
use Rattle.jl_machine.proofs.NumberLemmas.{field_found, call_found}
use Rattle.jl_machine.proofs.task.Task.push_found.Goals as goal

pub returns-in_ok-found-in-Field : goal.returns-in_ok-found-in-Field
returns-in_ok-found-in-Field g c =
    let name = c.in-Field.name in
    let of : Expr → Expr-F Expr Item Piece Stmt = λ x. F.Field x name in
    field_found _ c.args.ready.now c.in_ok-found-in-Field.found c.args.expr.now c.get.result.now name c.args.self.now c.push_field.new.self c.requires.program (ap out-Expr c.in-Field.is ∙ V.outs-Field c.in-Field.from name ∙ ap of (sym c.get.ensures))
    c.in_ok-found-in-Field.ensures

pub returns-in_ok-found-in_default : goal.returns-in_ok-found-in_default
returns-in_ok-found-in_default g c = call_found _ c.in_ok-found-in_default.found c.args.expr.now c.args.self.now c.push_call.new.self c.in_ok-found-in_default.ensures
