-- What the workers share may be shared among threads.
use denote.RattleType.{RattleType}
use denote.Ref.{NamedLft}
use denote.Param.Send.{IsSync, shr_sync}
use denote.Param.SendFields.{declared_sync, as_row_sync}
use denote.Struct.Field.{shr_ref_field}
use Rattle.std.proofs.alloc.Global.TheSendSync as heap
use Rattle.std.proofs.sync.Mutex.TheSendSync as mutex
use Rattle.std.specs.contracts.sync.Mutex as mutex_type
use Rattle.jl_sig.specs.contracts.ready.Ready as ready
use Rattle.jl_world.specs.declared.name.Naming as naming
use Rattle.jl_cache.proofs.cache.Cache.TheSendSync as caches
use Rattle.jl_book.specs.contracts.book.Book as book
use Rattle.jl_runner.specs.contracts.at_board.SharedBoard as board
use Rattle.jl_runner.proofs.at_board.SharedBoard.TheSendSync as boards
use Rattle.jl_runner.specs.contracts.job.Job as job
use Rattle.jl_runner.specs.contracts.shared.Shared as shared
use Rattle.jl_runner.proofs.CrossBooks.{book_send, job_send}
use Rattle.jl_runner.proofs.CrossReadies.{ready_sync}
use Rattle.jl_runner.proofs.CrossValues.{long_sync}

pub shared_sync : (ℓ : NamedLft) (N : RattleType) (g : naming.Ghosts N.Denot) → IsSync (shared.the_row ℓ N g)
shared_sync ℓ N g = declared_sync (shared.the_type ℓ N g) (
  heap.the_sync,
  (
    as_row_sync (shr_ref_field ℓ ready.the_row tt) (shr_sync ℓ.mir ℓ.lft ready.the_row ready_sync),
    (
      long_sync,
      (
        caches.the_sync N g,
        (as_row_sync (mutex_type.the_field (book.the_row N g)) (mutex.the_sync (book.the_row N g) (book_send N g)), tt),
      ),
    ),
  ),
)

pub board_sync : (ℓ : NamedLft) (N : RattleType) (g : naming.Ghosts N.Denot) → IsSync (board.the_row (job.the_row ℓ N g))
board_sync ℓ N g = boards.the_sync (job.the_row ℓ N g) (job_send N g ℓ)
