use denote.Param.Send.{IsSync, IsSend, sendable}
use denote.Param.SendFields.{declared_sync, as_row_sync}
use Rattle.std.proofs.Crossing.{crosses}
use Rattle.jl_model.proofs.ty.Ty.TheLaws.TheKnot as types
use Rattle.jl_program.proofs.tree.Expr.TheLaws.TheKnot as trees
use Rattle.jl_model.proofs.shared.list.SharedList.TheSendSync as list
use Rattle.jl_model.proofs.shared.node.SharedNode.TheSendSync as node
use Rattle.jl_model.specs.contracts.shared.list.SharedList as list_type
use Rattle.jl_model.specs.contracts.ty.Ty as ty
use denote.Builtin.{u8}
use Rattle.jl_model.proofs.ty.DeclKind.TheSendSync as kind
use Rattle.jl_model.specs.contracts.ty.Decl as decl
use Rattle.jl_program.specs.contracts.tree.Expr as expr
use Rattle.jl_program.specs.contracts.tree.Delete as delete
use Rattle.jl_program.specs.contracts.tree.Item as item
use Rattle.jl_program.specs.contracts.tree.Site as site
use Rattle.jl_program.specs.contracts.tree.Program as program

pub ty_send : IsSend ty.the_row
ty_send = search (crosses, types.crosses_both, sendable) depth 60 fits 20000

pub ty_sync : IsSync ty.the_row
ty_sync = search (crosses, types.crosses_both, sendable) depth 60 fits 20000

pub expr_send : IsSend expr.the_row
expr_send = search (list.the_send, list.the_sync, node.the_send, node.the_sync, crosses, types.crosses_both, trees.crosses_both, sendable) depth 60 fits 20000

pub expr_sync : IsSync expr.the_row
expr_sync = search (list.the_send, list.the_sync, node.the_send, node.the_sync, crosses, types.crosses_both, trees.crosses_both, sendable) depth 60 fits 20000

pub item_send : IsSend item.the_row
item_send = search (list.the_send, list.the_sync, node.the_send, node.the_sync, crosses, types.crosses_both, trees.crosses_both, sendable) depth 60 fits 20000

pub item_sync : IsSync item.the_row
item_sync = search (list.the_send, list.the_sync, node.the_send, node.the_sync, crosses, types.crosses_both, trees.crosses_both, sendable) depth 60 fits 20000

pub site_send : IsSend site.the_row
site_send = search (list.the_send, list.the_sync, node.the_send, node.the_sync, crosses, types.crosses_both, trees.crosses_both, sendable) depth 60 fits 20000

pub site_sync : IsSync site.the_row
site_sync = search (list.the_send, list.the_sync, node.the_send, node.the_sync, crosses, types.crosses_both, trees.crosses_both, sendable) depth 60 fits 20000

delete_send : IsSend delete.the_row
delete_send = search (list.the_send, list.the_sync, crosses, types.crosses_both, sendable) depth 60 fits 20000

delete_sync : IsSync delete.the_row
delete_sync = search (list.the_send, list.the_sync, crosses, types.crosses_both, sendable) depth 60 fits 20000

pub decl_send : IsSend decl.the_row
decl_send = search (list.the_send, list.the_sync, kind.the_send, kind.the_sync, kind.the_field_send, kind.the_field_sync, crosses, types.crosses_both, sendable) depth 60 fits 20000

pub decl_sync : IsSync decl.the_row
decl_sync = search (list.the_send, list.the_sync, kind.the_send, kind.the_sync, kind.the_field_send, kind.the_field_sync, crosses, types.crosses_both, sendable) depth 60 fits 20000

pub bytes_send : IsSend (list_type.the_row u8)
bytes_send = search (list.the_send, crosses, sendable)

pub bytes_sync : IsSync (list_type.the_row u8)
bytes_sync = search (list.the_sync, crosses, sendable)

pub program_sync : IsSync program.the_row
program_sync = declared_sync program.the_type (as_row_sync (list_type.the_field decl.the_row) (list.the_sync decl.the_row decl_send decl_sync), (as_row_sync (list_type.the_field (list_type.the_row u8)) (list.the_sync (list_type.the_row u8) bytes_send bytes_sync), (as_row_sync (list_type.the_field site.the_row) (list.the_sync site.the_row site_send site_sync), (as_row_sync (list_type.the_field expr.the_row) (list.the_sync expr.the_row expr_send expr_sync), (as_row_sync (list_type.the_field delete.the_row) (list.the_sync delete.the_row delete_send delete_sync), (as_row_sync (list_type.the_field item.the_row) (list.the_sync item.the_row item_send item_sync), tt))))))
