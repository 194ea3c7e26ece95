use denote.Param.Send.{IsSync, IsSend, sendable, view_sync}
use denote.Param.SendFields.{declared_sync, as_row_sync}
use Rattle.std.proofs.Crossing.{crosses}
use Rattle.jl_model.proofs.ty.Ty.TheLaws.TheKnot as types
use Rattle.jl_model.proofs.shared.list.SharedList.TheSendSync as list
use Rattle.jl_model.proofs.ty.DeclKind.TheSendSync as kind
use Rattle.jl_types.specs.contracts.table.Table as table
use Rattle.jl_types.specs.contracts.lineage.Lineage as lineage
use Rattle.jl_types.specs.contracts.lineage.Lineage.TheInside as lineage_inside
use Rattle.jl_model.specs.contracts.ty.Ty as ty
use Rattle.std.proofs.option.Option.TheSendSync as option
use Rattle.jl_runner.proofs.CrossSyncs.{decl_send, decl_sync, ty_send, ty_sync, program_sync}
use Rattle.jl_runner.proofs.CrossValues.{list_sync}
use Rattle.jl_types.specs.contracts.table.Table.TheInside as table_inside
use Rattle.jl_sig.specs.contracts.sig.Sig as sig
use Rattle.jl_sig.specs.contracts.ready.Ready as ready
use Rattle.jl_sig.specs.contracts.ready.Ready.TheInside as inside

pub lineage_sync : IsSync lineage.the_row
lineage_sync = view_sync lineage_inside.the_row _ _ _ _ (declared_sync lineage_inside.the_type (search (decl_send, decl_sync, list.the_send, list.the_sync, kind.the_field_send, kind.the_field_sync, crosses, types.crosses_both, sendable) depth 60 fits 20000, tt))

pub table_sync : IsSync table.the_row
table_sync = view_sync table_inside.the_row _ _ _ _ (declared_sync table_inside.the_type (lineage_sync, (list_sync ty.the_row ty_send ty_sync, tt)))

pub sig_send : IsSend sig.the_row
sig_send = search (list.the_send, list.the_sync, crosses, types.crosses_both, sendable) depth 60 fits 20000

pub sig_sync : IsSync sig.the_row
sig_sync = search (list.the_send, list.the_sync, crosses, types.crosses_both, sendable) depth 60 fits 20000

pub ready_sync : IsSync ready.the_row
ready_sync = view_sync inside.the_row _ _ _ _ (declared_sync inside.the_type (program_sync, (table_sync, (search (sig_send, sig_sync, crosses, as_row_sync), (search (sig_send, sig_sync, crosses, as_row_sync), (search (sig_send, sig_sync, option.the_send, option.the_sync, option.the_field_send, option.the_field_sync, crosses, as_row_sync), tt))))))
