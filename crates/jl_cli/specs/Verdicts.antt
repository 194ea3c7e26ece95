-- What is told of a verdict: a line, and a status.
use Rattle.std.specs.Prelude.{ℕ, codes, decimal, List, ◌++◌}
use Rattle.jl_causes.specs.declared.cause.Cause.{Cause}
use Rattle.jl_causes.specs.declared.cause.Cause.TheVariants as C
use Rattle.jl_replay.specs.declared.verdict.Verdict.{Verdict}
use Rattle.jl_replay.specs.declared.verdict.Verdict.TheVariants as V

-- the name of a cause
abbrev pub cause_name : Cause → List ℕ
cause_name C.KeyOrder = codes "KeyOrder"
cause_name C.KeyUnknown = codes "KeyUnknown"
cause_name C.FillKey = codes "FillKey"
cause_name C.FillWorld = codes "FillWorld"
cause_name C.FillChoice = codes "FillChoice"
cause_name C.NotRunning = codes "NotRunning"
cause_name C.Site = codes "Site"
cause_name C.NoDefinition = codes "NoDefinition"
cause_name C.ChildOrder = codes "ChildOrder"
cause_name C.Limit = codes "Limit"
cause_name C.Unfinished = codes "Unfinished"
cause_name C.ItemFalse = codes "ItemFalse"
cause_name C.EventMissing = codes "EventMissing"
cause_name C.RunDiffers = codes "RunDiffers"

-- the line of a number and a word, with texts before and between them
abbrev pub number_line : List ℕ → ℕ → List ℕ → List ℕ → List ℕ
number_line before number between word = before ++ (decimal number ++ (between ++ (word ++ codes "\n")))

-- the line that tells a verdict
abbrev pub verdict_line : Verdict → List ℕ
verdict_line (V.Legal events) = number_line (codes "legal: ") events (codes " ") (codes "events")
verdict_line (V.BadText line) = number_line (codes "illegal: line ") line (codes ": ") (codes "BadText")
verdict_line (V.Illegal event cause) = number_line (codes "illegal: event ") event (codes ": ") (cause_name cause)

-- the status that tells a verdict
abbrev pub verdict_status : Verdict → ℕ
verdict_status (V.Legal events) = 0
verdict_status (V.BadText line) = 7
verdict_status (V.Illegal event cause) = 7
