use denote.Param.Send.{IsSync, IsSend, sendable, view_send}
use denote.Param.SendFields.{declared_send, variants_send, as_row_send}
use Rattle.std.proofs.Crossing.{crosses}
use Rattle.jl_model.proofs.shared.list.SharedList.TheSendSync as list
use Rattle.jl_frames.specs.contracts.flat.Flat as flat
use Rattle.jl_frames.specs.contracts.frames.Frames as frames
use Rattle.jl_frames.specs.contracts.frames.Frames.TheInside as frames_inside
use Rattle.jl_machine.specs.contracts.task.Machine as machine
use Rattle.jl_machine.specs.contracts.now.LentNow as now
use Rattle.jl_machine.specs.contracts.now.LentWork as work
use denote.Ref.{NamedLft}
use denote.RattleType.{RattleType}
use denote.Hole.{as_row}
use denote.Builtin.{u8}
use Rattle.std.specs.contracts.vec.Vec as vec_type
use Rattle.std.specs.contracts.alloc.Global as global
use Rattle.std.specs.contracts.impls.GlobalAllocator.TheImpl as allocator
use Rattle.std.specs.contracts.option.Option as option_type
use Rattle.std.proofs.option.Option.TheSendSync as option
use Rattle.std.proofs.alloc.Global.TheSendSync as heap
use Rattle.jl_model.specs.contracts.rows.row.Row as row_type
use Rattle.jl_model.proofs.rows.row.Row.TheSendSync as rows
use Rattle.jl_model.specs.contracts.shared.node.SharedNode as node_type
use Rattle.jl_model.specs.contracts.ty.Ty as ty
use Rattle.jl_model.specs.contracts.ty.Written as written
use Rattle.jl_sig.specs.contracts.sig.Sig as sig
use Rattle.jl_operations.specs.contracts.written.Kept as kept
use Rattle.jl_operations.specs.contracts.prepared.Prepared as prepared
use Rattle.jl_operations.specs.contracts.memo.Memo as memo
use Rattle.jl_operations.specs.contracts.memo.Memo.TheInside as memo_inside
use Rattle.jl_program.specs.contracts.env.Env as env
use Rattle.jl_program.specs.contracts.value.Value as value
use Rattle.jl_calculus.specs.contracts.history.TraceItem as trace_item
use Rattle.jl_frames.specs.contracts.flat.Scope as scope
use Rattle.jl_machine.specs.contracts.task.Task as task
use Rattle.jl_program.specs.contracts.tree.Stmt as stmt
use Rattle.jl_program.specs.contracts.tree.Piece as piece
use Rattle.jl_model.proofs.shared.node.SharedNode.TheSendSync as node
use Rattle.jl_model.proofs.ty.Ty.TheLaws.TheKnot as types
use Rattle.jl_program.proofs.tree.Expr.TheLaws.TheKnot as trees
use Rattle.jl_runner.proofs.CrossReadies.{sig_send, sig_sync}
use Rattle.jl_runner.proofs.CrossSyncs.{expr_sync, item_sync, ty_send}
use Rattle.jl_runner.proofs.CrossValues.{env_send, value_send, outcome_send, trace_item_send, trace_item_sync, number_send, long_send, byte_send, byte_sync}

pub stmt_sync : IsSync stmt.the_row
stmt_sync = search (list.the_send, list.the_sync, node.the_send, node.the_sync, crosses, types.crosses_both, trees.crosses_both, sendable) depth 60 fits 20000

pub piece_sync : IsSync piece.the_row
piece_sync = search (list.the_send, list.the_sync, node.the_send, node.the_sync, crosses, types.crosses_both, trees.crosses_both, sendable) depth 60 fits 20000

pub flat_send : (ℓ : NamedLft) → IsSend (flat.the_row ℓ)
flat_send ℓ = search (expr_sync, stmt_sync, item_sync, piece_sync, sendable) depth 60 fits 20000

pub work_send : (ℓ : NamedLft) → IsSend (work.the_row ℓ)
work_send ℓ = search (expr_sync, stmt_sync, item_sync, piece_sync, sendable) depth 60 fits 20000

pub vec_send : (R : RattleType) → IsSend R → IsSend (as_row (vec_type.the_field R global.the_row allocator.ghosts))
vec_send R s = search (s, crosses, as_row_send)

pub row_send : (R : RattleType) → IsSend R → IsSync R → IsSend (as_row (row_type.the_field R))
row_send R s t = as_row_send (row_type.the_field R) (rows.the_send R s)

pub scope_send : IsSend scope.the_row
scope_send = search sendable depth 60

pub frames_send : (ℓ : NamedLft) → IsSend (frames.the_row ℓ)
frames_send ℓ = view_send (frames_inside.the_row ℓ) _ _ _ _ (declared_send (frames_inside.the_type ℓ)
    (vec_send (flat.the_row ℓ) (flat_send ℓ), (vec_send value.the_row value_send, (vec_send value.the_row value_send, (vec_send ty.the_row ty_send, (row_send u8 byte_send byte_sync, (number_send, (number_send, (scope_send, (as_row_send env.the_field env_send, tt))))))))))

pub now_send : (ℓ : NamedLft) → IsSend (now.the_row ℓ)
now_send ℓ = declared_send (now.the_type ℓ) (number_send, (number_send, (as_row_send (frames.the_field ℓ) (frames_send ℓ), (row_send u8 byte_send byte_sync, (outcome_send, tt)))))

pub task_send : (ℓ : NamedLft) → IsSend (task.the_row ℓ)
task_send ℓ = declared_send (task.the_type ℓ) (heap.the_send, (long_send, (row_send trace_item.the_row trace_item_send trace_item_sync, (long_send, (now_send ℓ, tt)))))

written_send : IsSend written.the_row
written_send = search (list.the_send, list.the_sync, crosses, types.crosses_both, sendable) depth 60 fits 20000

kept_send : IsSend kept.the_row
kept_send = variants_send kept.enum ((as_row_send (node_type.the_field sig.the_row) (node.the_send sig.the_row sig_send sig_sync), tt), (tt, (tt, tt)))

prepared_send : IsSend prepared.the_row
prepared_send = declared_send prepared.the_type (written_send, (kept_send, (option.the_send ty.the_row ty_send, tt)))

memo_send : IsSend memo.the_row
memo_send = view_send memo_inside.the_row _ _ _ _ (declared_send memo_inside.the_type
    (search (crosses, sendable) depth 20, (vec_send (option_type.the_row prepared.the_row) (option.the_send prepared.the_row prepared_send), tt)))

pub machine_send : (ℓ : NamedLft) → IsSend (machine.the_row ℓ)
machine_send ℓ = declared_send (machine.the_type ℓ) (task_send ℓ, (work_send ℓ, (as_row_send memo.the_field memo_send, tt)))
