use denote.Param.Send.{IsSync, IsSend, sendable, view_send}
use denote.Param.SendFields.{declared_sync, declared_send, variants_send, variants_sync, as_row_sync, as_row_send}
use denote.Builtin.{u8}
use denote.RattleType.{RattleType}
use denote.Hole.{as_row}
use denote.Struct.Field.{u32-field, u64-field}
use Rattle.jl_model.specs.contracts.ty.Key as key
use Rattle.jl_model.specs.contracts.ty.Ty as ty
use Rattle.jl_model.specs.contracts.shared.list.SharedList as list_type
use Rattle.jl_model.specs.contracts.shared.node.SharedNode as node_type
use Rattle.std.proofs.Crossing.{crosses}
use Rattle.jl_model.proofs.ty.Ty.TheLaws.TheKnot as types
use Rattle.jl_program.proofs.value.Values.TheLaws.TheKnot as values
use Rattle.jl_model.proofs.shared.list.SharedList.TheSendSync as list
use Rattle.jl_model.proofs.shared.node.SharedNode.TheSendSync as node
use Rattle.jl_program.specs.contracts.fault.Fault as fault
use Rattle.jl_program.specs.contracts.value.Value as value
use Rattle.jl_program.specs.contracts.value.Values as values_type
use Rattle.jl_program.specs.contracts.env.Env as env
use Rattle.jl_program.specs.contracts.env.Env.TheInside as env_inside
use Rattle.jl_program.specs.contracts.tree.Start as start
use Rattle.jl_calculus.specs.contracts.history.Outcome as outcome
use Rattle.jl_calculus.specs.contracts.history.TraceItem as trace_item
use Rattle.jl_calculus.specs.contracts.history.Record as record_type
use Rattle.jl_calculus.specs.contracts.history.Event as event
use Rattle.jl_runner.proofs.CrossSyncs.{ty_send, ty_sync}

pub value_send : IsSend value.the_row
value_send = search (list.the_send, list.the_sync, node.the_send, node.the_sync, crosses, types.crosses_both, values.crosses, sendable) depth 60 fits 20000

pub value_sync : IsSync value.the_row
value_sync = search (list.the_send, list.the_sync, node.the_send, node.the_sync, crosses, types.crosses_both, values.crosses, sendable) depth 60 fits 20000

pub values_send : IsSend values_type.the_row
values_send = search (list.the_send, list.the_sync, node.the_send, node.the_sync, crosses, types.crosses_both, values.crosses, sendable) depth 60 fits 20000

pub fault_send : IsSend fault.the_row
fault_send = search (list.the_send, list.the_sync, node.the_send, node.the_sync, crosses, types.crosses_both, sendable) depth 60 fits 20000

pub fault_sync : IsSync fault.the_row
fault_sync = search (list.the_send, list.the_sync, node.the_send, node.the_sync, crosses, types.crosses_both, sendable) depth 60 fits 20000

pub outcome_send : IsSend outcome.the_row
outcome_send = variants_send outcome.enum ((value_send, tt), ((fault_send, tt), tt))

pub outcome_sync : IsSync outcome.the_row
outcome_sync = variants_sync outcome.enum ((value_sync, tt), ((fault_sync, tt), tt))

pub ending_send : IsSend (as_row (node_type.the_field outcome.the_row))
ending_send = as_row_send (node_type.the_field outcome.the_row) (node.the_send outcome.the_row outcome_send outcome_sync)

pub ending_sync : IsSync (as_row (node_type.the_field outcome.the_row))
ending_sync = as_row_sync (node_type.the_field outcome.the_row) (node.the_sync outcome.the_row outcome_send outcome_sync)

pub number_send : IsSend (as_row u32-field)
number_send = search sendable

pub number_sync : IsSync (as_row u32-field)
number_sync = search sendable

pub long_send : IsSend (as_row u64-field)
long_send = search sendable

pub long_sync : IsSync (as_row u64-field)
long_sync = search sendable

pub trace_item_send : IsSend trace_item.the_row
trace_item_send = variants_send trace_item.enum ((number_send, (number_send, tt)), ((number_send, (number_send, tt)), ((number_send, (number_send, tt)), ((number_send, (ending_send, (number_send, tt))), ((number_send, tt), ((number_send, tt), ((number_send, (number_send, tt)), ((number_send, (number_send, tt)), tt))))))))

pub trace_item_sync : IsSync trace_item.the_row
trace_item_sync = variants_sync trace_item.enum ((number_sync, (number_sync, tt)), ((number_sync, (number_sync, tt)), ((number_sync, (number_sync, tt)), ((number_sync, (ending_sync, (number_sync, tt))), ((number_sync, tt), ((number_sync, tt), ((number_sync, (number_sync, tt)), ((number_sync, (number_sync, tt)), tt))))))))

pub list_send : (R : RattleType) → IsSend R → IsSync R → IsSend (as_row (list_type.the_field R))
list_send R s t = as_row_send (list_type.the_field R) (list.the_send R s t)

pub list_sync : (R : RattleType) → IsSend R → IsSync R → IsSync (as_row (list_type.the_field R))
list_sync R s t = as_row_sync (list_type.the_field R) (list.the_sync R s t)

chunk_send : IsSend (list_type.the_row value.the_row)
chunk_send = list.the_send value.the_row value_send value_sync

chunk_sync : IsSync (list_type.the_row value.the_row)
chunk_sync = list.the_sync value.the_row value_send value_sync

pub env_send : IsSend env.the_row
env_send = view_send env_inside.the_row _ _ _ _ (declared_send env_inside.the_type
    (list_send (list_type.the_row value.the_row) chunk_send chunk_sync, (list_send value.the_row value_send value_sync, (search sendable, tt))))

pub start_send : IsSend start.the_row
start_send = declared_send start.the_type (number_send, (as_row_send env.the_field env_send, (list_send ty.the_row ty_send ty_sync, (number_send, tt))))

pub byte_send : IsSend u8
byte_send = search sendable

pub byte_sync : IsSync u8
byte_sync = search sendable

pub record_send : IsSend record_type.the_row
record_send = declared_send record_type.the_type (list_send trace_item.the_row trace_item_send trace_item_sync, (ending_send, (list_send u8 byte_send byte_sync, (long_send, tt))))

pub record_sync : IsSync record_type.the_row
record_sync = declared_sync record_type.the_type (list_sync trace_item.the_row trace_item_send trace_item_sync, (ending_sync, (list_sync u8 byte_send byte_sync, (long_sync, tt))))

pub key_send : IsSend key.the_row
key_send = search (list.the_send, list.the_sync, crosses, types.crosses_both, sendable) depth 60 fits 20000

pub event_send : IsSend event.the_row
event_send = variants_send event.enum ((long_send, tt), ((key_send, tt), ((number_send, (number_send, (number_send, tt))), ((number_send, (number_send, tt)), ((number_send, (number_send, tt)), ((number_send, (number_send, (start_send, tt))), ((number_send, (record_send, tt)), tt)))))))
