-- The operations of the prelude may be shared among threads, since a pointer to a function may.
use denote.RattleType.{RattleType}
use denote.Hole.{as_row}
use denote.Struct.Field.{i64-field, u8-field, row_field}
use denote.Param.Members.{Mut}
use denote.Param.Send.{IsSync, sendable}
use denote.Param.SendFields.{declared_sync, as_row_sync}
use Rattle.std.proofs.Crossing.{crosses}
use Rattle.std.specs.contracts.vec.Vec as vec_type
use Rattle.std.specs.contracts.alloc.Global as global
use Rattle.std.specs.contracts.impls.GlobalAllocator.TheImpl as allocator
use Rattle.jl_host.specs.declared.reply.OpReply.{OpReply}
use Rattle.jl_host.specs.contracts.op.HostOp as op
use Rattle.jl_host.specs.contracts.ops.HostOps as ops

abbrev pub Members : RattleType → Type 1
Members T = Mut T.Denot (i64-field.Value × (i64-field.Value × Unit {0})) OpReply

code_sync : IsSync (as_row u8-field)
code_sync = search sendable

vec_sync : (R : RattleType) → IsSync R → IsSync (as_row (vec_type.the_field R global.the_row allocator.ghosts))
vec_sync R s = search (s, crosses)

op_sync : (T : RattleType) (g : Members T) → IsSync T → IsSync (op.the_row T g)
op_sync T g s = declared_sync (op.the_type T g) (code_sync, (as_row_sync (row_field T) s, tt))

pub ops_sync : (T : RattleType) (g : Members T) → IsSync T → IsSync (ops.the_row T g)
ops_sync T g s = declared_sync (ops.the_type T g) (vec_sync (op.the_row T g) (op_sync T g s), tt)
