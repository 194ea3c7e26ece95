-- What a machine over a lent program stands for: a point of the calculus.
use Rattle.std.specs.Prelude.{◌≡◌, [], Bool, true, false}
use Rattle.jl_program.specs.declared.value.Value.{Value}
use Rattle.jl_task.specs.declared.point.Work.{Work}
use Rattle.jl_task.specs.declared.point.Work.TheVariants as W
use Rattle.jl_task.specs.declared.point.Now.{Now}
use Rattle.jl_task.specs.Turns.{Point}
use Rattle.jl_frames.specs.Held.{Held, first_value, IsOne}
use Rattle.jl_machine.specs.declared.now.LentNow.{LentNow}
use Rattle.jl_machine.specs.declared.now.LentWork.{LentWork}
use Rattle.jl_machine.specs.declared.now.LentWork.TheVariants.{Eval, Give, Leave, Acting, Calling, Items, Defining, Pieces, Ended, Lost}

abbrev pub now_of : LentNow → Now
now_of n = record { world = n.world; room = n.room; env = n.frames.env; bindings = n.frames.bindings; stack = n.frames.stack; out = n.out }

-- the one value that is given
abbrev pub given_value : LentNow → Value
given_value n = first_value n.frames.open_values

-- what comes next
abbrev pub work_of : LentWork → LentNow → Work
work_of (Eval e) n = W.Eval e.now
work_of Give n = W.Give (given_value n)
work_of Leave n = W.Leave (given_value n)
work_of (Acting e) n = W.Acting e.now n.frames.open_values
work_of (Calling f w) n = W.Calling f w n.frames.open_values
work_of (Items fresh xs) n = W.Items fresh xs.now (given_value n)
work_of (Defining fresh site xs) n = W.Defining site fresh xs.now
work_of (Pieces line xs) n = W.Pieces n.frames.open_text xs.now line
work_of Ended n = W.Ended n.outcome
work_of Lost n = W.Lost

abbrev pub point_of : LentWork → LentNow → Point
point_of work n = (work_of work n, now_of n)

-- no value is open, and no text
pub record IsClosed (h : Held) : Type 0 where
  pub values : h.open_values ≡ []
  pub text : h.open_text ≡ []

-- one value is open, and no text
pub record IsGiven (h : Held) : Type 0 where
  pub value : IsOne h
  pub text : h.open_text ≡ []

-- what is open where this comes next
abbrev pub IsSettled : LentWork → LentNow → Type 0
IsSettled (Eval e) n = IsClosed n.frames
IsSettled Give n = IsGiven n.frames
IsSettled Leave n = IsGiven n.frames
IsSettled (Acting e) n = n.frames.open_text ≡ []
IsSettled (Calling f w) n = n.frames.open_text ≡ []
IsSettled (Items fresh xs) n = IsGiven n.frames
IsSettled (Defining fresh site xs) n = IsClosed n.frames
IsSettled (Pieces line xs) n = n.frames.open_values ≡ []
IsSettled Ended n = Unit {0}
IsSettled Lost n = Unit {0}

-- what comes next is at this point
pub record Reaches (work : LentWork) (n : LentNow) (p : Point) : Type 0 where
  pub point : point_of work n ≡ p
  pub settled : IsSettled work n

-- what comes next after an answer: a value is given, or the task has ended
abbrev pub after_answer : Bool → LentWork
after_answer true = Give
after_answer false = Ended
