-- What a session did with the bytes that it read.
use Rattle.std.specs.Prelude.{ℕ, ℤ, ◌≡◌, ◌<◌, ◌≤◌, ◌+◌, Bool, codes, List, [], ◌∷◌, length, take, drop, Option, None, Some}
use Rattle.jl_model.specs.declared.limits.TheConstants.{MOST_SOURCE_BYTES}
use Rattle.jl_calculus.specs.declared.history.History.{History}
use Rattle.jl_io.specs.Moved.{Gives, NothingLeft}
use Rattle.jl_embed.specs.declared.top.Closed.{Closed}
use Rattle.jl_embed.specs.Requests.{lines_of}
use Rattle.jl_work.specs.Owed.{IsProgram, IsFaultLine}
use Rattle.jl_work.specs.Place.{too_long_line}
use Rattle.jl_work.specs.Split.{separator_among}
use Rattle.jl_embed.specs.Replies.{Seen, opened, IsWritten, HasServed}

-- the line between the script and the requests
abbrev pub separator : List ℕ
separator = codes "%%session"

-- the line that tells the words of the program: it has none
abbrev pub usage_line : List ℕ
usage_line = codes "usage: jl_session\n"

-- the line of a source without that separator
abbrev pub no_session_line : List ℕ
no_session_line = codes "ERROR: NoSession\n"

-- ---- the parts of a source

-- what comes before the line at a place, and what comes after that line and its newline
abbrev pub parts_at : List ℕ → Option ℕ → Option (List ℕ × List ℕ)
parts_at bytes None = None
parts_at bytes (Some place) = Some (take place bytes, drop (length separator + 1) (drop place bytes))

-- the script before the first line that is exactly the separator, and the requests after it
abbrev pub parts_of : List ℕ → Option (List ℕ × List ℕ)
parts_of bytes = parts_at bytes (separator_among (separator ∷ []) bytes)

-- ---- how a session ends

-- a status, the answers of the host, and the histories of the runs
pub record Ending : Type 0 where
  pub status : ℕ
  pub answers : List ℤ
  pub histories : List History

-- the same as the code has it
abbrev pub ending : Closed → Ending
ending c = record { status = c.status; answers = c.answers.items; histories = c.histories.items }

-- an end before the first request
abbrev pub unopened : ℕ → Ending
unopened status = record { status = status; answers = []; histories = [] }

-- an end with what the session then has
abbrev pub ended : Seen → ℕ → Ending
ended t status = record { status = status; answers = t.answers; histories = t.histories }

-- How many methods the host has, and which answers they may give; what the sink held before and after, and that its count of faults rose.
module _ (count : ℕ) (allows : ℕ → ℤ → ℤ → ℤ → Bool) (held held' : Option (List ℕ)) (sink_rose : Type 0) where
  -- what a session with a script did with the text of its requests
  pub data HasHeld (script requests : List ℕ) : Ending → Type 0 where
    -- the script is no program: the line of its fault was told
    no_program : (line : List ℕ) (status : ℕ) → IsFaultLine script line → IsWritten 3 line held held' sink_rose status → HasHeld script requests (unopened status)
    -- it is one: the requests were answered
    served : (status : ℕ) (t : Seen) → IsProgram script → HasServed count allows (opened script) (lines_of requests) held held' sink_rose status t → HasHeld script requests (ended t status)
    -- memory was refused before anything was told
    no_memory : held' ≡ held → HasHeld script requests (unopened 6)

  -- what a session did with the bytes of its source, which are not too many
  pub data HasParted (bytes : List ℕ) : Ending → Type 0 where
    -- there is no separator
    no_session : (status : ℕ) → parts_of bytes ≡ None → IsWritten 3 no_session_line held held' sink_rose status → HasParted bytes (unopened status)
    -- there is one
    parted : (script requests : List ℕ) (end_ : Ending) → parts_of bytes ≡ Some (script, requests) → HasHeld script requests end_ → HasParted bytes end_

  -- How many words there are, the bytes that were read, what the source has left, and that its count of faults rose.
  module _ (words : ℕ) (bytes : List ℕ) (left' : Option (List ℕ)) (source_rose : Type 0) where
    -- what a session did
    pub data HasClosed : Ending → Type 0 where
      -- there are words: nothing was read
      usage : (status : ℕ) → 0 < words → bytes ≡ [] → IsWritten 2 usage_line held held' sink_rose status → HasClosed (unopened status)
      -- the source is too long
      too_long : (status : ℕ) → words ≡ 0 → MOST_SOURCE_BYTES < length bytes → IsWritten 3 too_long_line held held' sink_rose status → HasClosed (unopened status)
      -- the source failed: nothing was told
      not_read : words ≡ 0 → held' ≡ held → source_rose → HasClosed (unopened 4)
      -- memory was refused while the source was read
      not_kept : words ≡ 0 → length bytes ≤ MOST_SOURCE_BYTES → held' ≡ held → HasClosed (unopened 6)
      -- all of the source was read
      read : (end_ : Ending) → words ≡ 0 → length bytes ≤ MOST_SOURCE_BYTES → NothingLeft left' → HasParted bytes end_ → HasClosed end_

-- What a session did, where a source tells what it had left before and after.
pub record IsSession (words count : ℕ) (allows : ℕ → ℤ → ℤ → ℤ → Bool) (left left' held held' : Option (List ℕ)) (source_rose sink_rose : Type 0) (end_ : Ending) : Type 0 where
  -- the bytes that were read, at most one more than are taken
  pub bytes : List ℕ
  pub gives : Gives left bytes left'
  pub limited : length bytes ≤ MOST_SOURCE_BYTES + 1
  pub closed : HasClosed count allows held held' sink_rose words bytes left' source_rose end_
