-- The replies to the requests of a session.
use Rattle.std.specs.Prelude.{ℕ, ℤ, ◌≡◌, Bool, IsTrue, codes, decimal, List, [], ◌∷◌, ◌++◌, length, take, Option, None, Some}
use Rattle.std.specs.Fmt.{signed_decimal}
use Rattle.jl_calculus.specs.declared.history.History.{History}
use Rattle.jl_io.specs.Moved.{Takes}
use Rattle.jl_embed.specs.declared.state.State.{State}
use Rattle.jl_embed.specs.Requests.{bad, add, call, request_of}
use Rattle.jl_work.specs.Owed.{IsProgram, IsFaultLine}
use Rattle.jl_embed.specs.Texts.{RunsTo}

-- what a session has: its text, the answers of the host so far, and the histories of the runs so far
pub record Seen : Type 0 where
  pub text : List ℕ
  pub answers : List ℤ
  pub histories : List History

-- the same as the code has it
abbrev pub seen : State → Seen
seen s = record { text = s.text; answers = s.answers.items; histories = s.histories.items }

-- what a session has before its first request
abbrev pub opened : List ℕ → Seen
opened script = record { text = script; answers = []; histories = [] }

-- a history more, where there is one
abbrev pub with_history : List History → Option History → List History
with_history hs None = hs
with_history hs (Some h) = hs ++ h ∷ []

-- an answer more, and a history more where there is one
abbrev pub noted : Seen → ℤ → Option History → Seen
noted s c history = record { text = s.text; answers = s.answers ++ c ∷ []; histories = with_history s.histories history }

-- ---- texts

-- a text and one line more
abbrev pub with_line : List ℕ → List ℕ → List ℕ
with_line text line = text ++ line ++ codes "\n"

-- the line that calls the function of a name with a number
abbrev pub called_line : List ℕ → List ℕ → List ℕ
called_line name number = codes "println(" ++ name ++ codes "(" ++ number ++ codes "))"

-- a text and the line that calls the function of a name with a number
abbrev pub called_text : List ℕ → List ℕ → ℤ → List ℕ
called_text text name c = with_line text (called_line name (signed_decimal c))

-- the reply of a run: how long its text is, and its text
abbrev pub run_reply : List ℕ → List ℕ
run_reply told = codes "reply " ++ decimal (length told) ++ codes "\n" ++ told

-- the reply of a text that came to this: what was told of its run, or the line of a fault
abbrev pub reply_of : Option History → List ℕ → List ℕ
reply_of None told = told
reply_of (Some h) told = run_reply told

-- ---- one request

-- the reply to a line that is to be added, and what the session then has
pub data IsAdded (s : Seen) (line : List ℕ) : Seen → List ℕ → Type 0 where
  -- the longer text is a program
  added : IsProgram (with_line s.text line) → IsAdded s line (record { text = with_line s.text line; answers = s.answers; histories = s.histories }) (codes "added\n")
  -- it is none, and the text stays
  not_added : (fault : List ℕ) → IsFaultLine (with_line s.text line) fault → IsAdded s line s fault

-- the reply to a call of the function of a name with a number, and what the session then has
pub data IsCalled (s : Seen) (name : List ℕ) (c : ℤ) : Seen → List ℕ → Type 0 where
  called : (history : Option History) (told : List ℕ) → RunsTo (called_text s.text name c) history told → IsCalled s name c (noted s c history) (reply_of history told)

-- How many methods the host has, and which answers they may give.
module _ (count : ℕ) (allows : ℕ → ℤ → ℤ → ℤ → Bool) where
  -- the reply to a line, and what the session then has
  pub data IsReply (s : Seen) (line : List ℕ) : Seen → List ℕ → Type 0 where
    bad_request : request_of count line ≡ bad → IsReply s line s (codes "ERROR: BadRequest\n")
    to_add : (more reply : List ℕ) (t : Seen) → request_of count line ≡ add more → IsAdded s more t reply → IsReply s line t reply
    to_call : (name reply : List ℕ) (n : ℕ) (a b c : ℤ) (t : Seen) → request_of count line ≡ call name n a b → IsTrue (allows n a b c) → IsCalled s name c t reply → IsReply s line t reply

  -- ---- all requests

  -- the replies to lines, one after another, and what the session then has
  pub data AreReplies : Seen → List (List ℕ) → Seen → List ℕ → Type 0 where
    replied : (s : Seen) → AreReplies s [] s []
    reply : (s t u : Seen) (line first : List ℕ) (lines : List (List ℕ)) (out : List ℕ) → IsReply s line t first → AreReplies t lines u out → AreReplies s (line ∷ lines) u (first ++ out)

  -- what a session did with lines, what the sink held before and after, and that its count of faults rose: the status, and what the
  -- session then has, which is what the replies that were begun left
  pub data HasServed (s : Seen) (lines : List (List ℕ)) (held held' : Option (List ℕ)) (rose : Type 0) : ℕ → Seen → Type 0 where
    -- all replies were written
    all : (t : Seen) (out : List ℕ) → AreReplies s lines t out → Takes held out held' → HasServed s lines held held' rose 0 t
    -- the sink failed: a first part of the replies to the first lines was written
    failed : (served rest : List (List ℕ)) (t : Seen) (out : List ℕ) (most : ℕ) → lines ≡ served ++ rest → AreReplies s served t out → Takes held (take most out) held' → rose → HasServed s lines held held' rose 5 t
    -- memory was refused
    no_memory : (served rest : List (List ℕ)) (t : Seen) (out : List ℕ) (most : ℕ) → lines ≡ served ++ rest → AreReplies s served t out → Takes held (take most out) held' → HasServed s lines held held' rose 6 t

-- how a text was written that ends a call with this status: what the sink held before and after, and that its count of faults rose
pub data IsWritten (status : ℕ) (text : List ℕ) (held held' : Option (List ℕ)) (rose : Type 0) : ℕ → Type 0 where
  wrote_all : Takes held text held' → IsWritten status text held held' rose status
  wrote_part : (most : ℕ) → Takes held (take most text) held' → rose → IsWritten status text held held' rose 5
  wanted_memory : (most : ℕ) → Takes held (take most text) held' → IsWritten status text held held' rose 6
