-- The book of a run, and what its tasks know, may go to another thread.
use denote.RattleType.{RattleType}
use denote.Ref.{NamedLft}
use denote.Builtin.{u32}
use denote.Param.Send.{IsSend, sendable, view_send, recorded_send, struct_send}
use denote.Param.SendFields.{declared_send, variants_send, as_row_send}
use denote.Struct.Declared.{shape}
use Rattle.std.proofs.Crossing.{crosses, frees}
use Rattle.std.proofs.alloc.Global.TheSendSync as heap
use Rattle.std.proofs.option.Option.TheSendSync as option
use Rattle.std.proofs.hash.BuildHasherDefault.TheSendSync as builder
use Rattle.std.proofs.hash.FoldHasher.TheSendSync as hasher
use Rattle.std.specs.contracts.hash.FoldHasher as fold
use Rattle.std.specs.contracts.option.Option as option_type
use Rattle.indexmap.proofs.map.IndexMap.TheSendSync as indexmap
use Rattle.indexmap.proofs.set.IndexSet.TheSendSync as indexset
use Rattle.jl_model.specs.contracts.ty.Key as key
use Rattle.jl_program.specs.contracts.tree.Start as start
use Rattle.jl_calculus.specs.contracts.history.Change as change
use Rattle.jl_calculus.specs.contracts.history.Def as def
use Rattle.jl_calculus.specs.contracts.history.Del as del
use Rattle.jl_calculus.specs.contracts.history.Event as event
use Rattle.jl_world.specs.declared.name.Naming as naming
use Rattle.jl_world.specs.contracts.seats.BookSeat as seat
use Rattle.jl_world.proofs.seats.BookSeat.TheSendSync as seats
use Rattle.jl_methods.specs.contracts.index.Index as index
use Rattle.jl_methods.specs.contracts.newest.NewestRow as newest
use Rattle.jl_book.specs.contracts.pass.Pass as pass
use Rattle.jl_book.proofs.pass.Pass.TheSendSync as passes
use Rattle.jl_book.specs.contracts.book.Book as book
use Rattle.jl_book.specs.contracts.book.Book.TheInside as book_inside
use Rattle.jl_runner.specs.contracts.keys.KeyNumbers as numbers
use Rattle.jl_runner.specs.contracts.keys.KeyNumbers.TheInside as numbers_inside
use Rattle.jl_runner.specs.contracts.known.Known as known
use Rattle.jl_runner.specs.contracts.known.Known.TheInside as known_inside
use Rattle.jl_runner.specs.contracts.job.New as new
use Rattle.jl_runner.specs.contracts.job.New.TheInside as new_inside
use Rattle.jl_runner.specs.contracts.job.Waiting as waiting
use Rattle.jl_runner.specs.contracts.job.Waiting.TheInside as waiting_inside
use Rattle.jl_runner.specs.contracts.job.Job as job
use Rattle.jl_runner.proofs.CrossValues.{key_send, event_send, start_send, number_send}
use Rattle.jl_runner.proofs.CrossMachines.{machine_send, vec_send}

word_send : IsSend u32
word_send = search sendable

def_send : IsSend def.the_row
def_send = search sendable depth 20

del_send : IsSend del.the_row
del_send = search sendable depth 20

change_send : IsSend change.the_row
change_send = variants_send change.enum ((number_send, tt), ((number_send, tt), tt))

newest_send : IsSend newest.the_row
newest_send = search sendable depth 20

index_send : IsSend index.the_row
index_send = declared_send index.the_type (heap.the_send, (vec_send key.the_row key_send, (vec_send change.the_row change_send, (search (def_send, crosses, sendable) depth 20, (search (del_send, crosses, sendable) depth 20, (search (del_send, crosses, sendable) depth 20, (search (crosses, sendable) depth 20, (search (crosses, sendable) depth 20, (search (crosses, sendable) depth 60, (search (crosses, sendable) depth 60, (vec_send (option_type.the_row newest.the_row) (option.the_send newest.the_row newest_send), (number_send, (option.the_send key.the_row key_send, (vec_send u32 word_send, (vec_send u32 word_send, tt)))))))))))))))

numbers_send : IsSend numbers.the_row
numbers_send = view_send numbers_inside.the_row _ _ _ _ (recorded_send numbers_inside.the_field.row _ _ numbers_inside.the_type.to_one (struct_send (shape numbers_inside.the_type)
    (indexmap.the_send _ _ _ _ fold.the_row _ _ _ _ _ key_send word_send (builder.the_send fold.the_row hasher.the_send) heap.the_send frees, tt)))

module _ (N : RattleType) (g : naming.Ghosts N.Denot) where
  pub book_send : IsSend (book.the_row N g)
  book_send = view_send (book_inside.the_row N g) _ _ _ _ (declared_send (book_inside.the_type N g) (
    as_row_send (seat.the_field N g) (seats.the_send N g),
    (
      vec_send event.the_row event_send,
      (
        index_send,
        (
          indexset.the_send _ _ _ fold.the_row _ _ _ _ _ key_send (builder.the_send fold.the_row hasher.the_send) heap.the_send frees,
          (vec_send (option_type.the_row u32) (option.the_send u32 word_send), (number_send, tt)),
        ),
      ),
    ),
  ))

  known_send : IsSend (known.the_row N g)
  known_send = view_send (known_inside.the_row N g) _ _ _ _ (declared_send (known_inside.the_type N g)
      (as_row_send (pass.the_field N g) (passes.the_send N g), (as_row_send numbers.the_field numbers_send, (number_send, (number_send, tt)))))

  new_send : IsSend (new.the_row N g)
  new_send = view_send (new_inside.the_row N g) _ _ _ _ (declared_send (new_inside.the_type N g)
      (as_row_send (pass.the_field N g) (passes.the_send N g), (option.the_send start.the_row start_send, tt)))

  waiting_send : (ℓ : NamedLft) → IsSend (waiting.the_row ℓ N g)
  waiting_send ℓ = view_send (waiting_inside.the_row ℓ N g) _ _ _ _ (declared_send (waiting_inside.the_type ℓ N g)
      (machine_send ℓ, (as_row_send (known.the_field N g) known_send, tt)))

  pub job_send : (ℓ : NamedLft) → IsSend (job.the_row ℓ N g)
  job_send ℓ = variants_send (job.enum ℓ N g) ((as_row_send (new.the_field N g) new_send, tt), ((as_row_send (waiting.the_field ℓ N g) (waiting_send ℓ), tt), tt))
