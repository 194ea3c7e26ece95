-- What is due of a session.
use Rattle.std.specs.Prelude.{ℕ, ℤ, ◌≡◌, ◌<◌, ◌≤◌, Bool, List, ◌++◌, length, take, Option, None, Some}
use Rattle.jl_model.specs.declared.limits.TheConstants.{MOST_SOURCE_BYTES}
use Rattle.jl_io.specs.Moved.{Takes}
use Rattle.jl_work.specs.Owed.{IsProgram, IsFaultLine}
use Rattle.jl_work.specs.Place.{too_long_line}
use Rattle.jl_embed.specs.Requests.{lines_of}
use Rattle.jl_embed.specs.Replies.{Seen, opened, AreReplies}
use Rattle.jl_embed.specs.Sessions.{usage_line, no_session_line, parts_of, Ending, unopened, ended}

-- there are no words, and the bytes are a script that is a program, the separator and requests, and not too many
pub record HasSession (words : ℕ) (bytes script requests : List ℕ) : Type 0 where
  pub no_words : words ≡ 0
  pub short : length bytes ≤ MOST_SOURCE_BYTES
  pub parts : parts_of bytes ≡ Some (script, requests)
  pub program : IsProgram script

-- the status and the line where they are not
pub data IsRefused (words : ℕ) (bytes : List ℕ) : ℕ → List ℕ → Type 0 where
  usage : 0 < words → IsRefused words bytes 2 usage_line
  too_long : words ≡ 0 → MOST_SOURCE_BYTES < length bytes → IsRefused words bytes 3 too_long_line
  no_session : words ≡ 0 → length bytes ≤ MOST_SOURCE_BYTES → parts_of bytes ≡ None → IsRefused words bytes 3 no_session_line
  no_program : (script requests line : List ℕ) → words ≡ 0 → length bytes ≤ MOST_SOURCE_BYTES → parts_of bytes ≡ Some (script, requests) → IsFaultLine script line → IsRefused words bytes 3 line

-- How many methods the host has, which answers they may give, and what the sink held before and after.
module _ (count : ℕ) (allows : ℕ → ℤ → ℤ → ℤ → Bool) (held held' : Option (List ℕ)) where
  -- all requests were answered, and all replies written
  pub record AreAnswered (script requests : List ℕ) (end_ : Ending) : Type 0 where
    pub session : Seen
    pub out : List ℕ
    pub replies : AreReplies count allows (opened script) (lines_of requests) session out
    pub wrote : Takes held out held'
    pub is : end_ ≡ ended session 0

  -- the first requests were answered, and a first part of the replies to them was written
  pub record AreBegun (script requests : List ℕ) (end_ : Ending) : Type 0 where
    pub served : List (List ℕ)
    pub rest : List (List ℕ)
    pub session : Seen
    pub out : List ℕ
    pub most : ℕ
    pub parts : lines_of requests ≡ served ++ rest
    pub replies : AreReplies count allows (opened script) served session out
    pub wrote : Takes held (take most out) held'
    pub is : end_ ≡ ended session end_.status

  -- what is due, for the words and the bytes of the source
  pub data IsDue (words : ℕ) (bytes : List ℕ) : Ending → Type 0 where
    refused : (status : ℕ) (line : List ℕ) → IsRefused words bytes status line → Takes held line held' → IsDue words bytes (unopened status)
    answered : (script requests : List ℕ) (end_ : Ending) → HasSession words bytes script requests → AreAnswered script requests end_ → IsDue words bytes end_
