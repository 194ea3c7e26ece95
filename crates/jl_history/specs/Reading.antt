-- How a history is read line by line.
use Rattle.std.specs.Prelude.{◌≡◌, ◌-◌, ◌++◌, ◌&&◌, ℕ, Bool, true, false, cond, nat_eq, codes, List, [], ◌∷◌, length, bytes_eq, Option, None, Some}
use Rattle.jl_model.specs.declared.limits.TheConstants.{MOST_FUEL}
use Rattle.jl_report.specs.declared.entry.Entry.{Entry}
use Rattle.jl_report.specs.declared.entry.Entry.TheVariants as E
use Rattle.jl_report.specs.HistoryText.{first_line}
use Rattle.jl_history.specs.declared.fields.TheConstants.{MOST_NUMBER, MOST_ITEMS}
use Rattle.jl_history.specs.declared.reader.Reader.{Reader}
use Rattle.jl_history.specs.declared.reader.Stage.{Stage}
use Rattle.jl_history.specs.declared.reader.Stage.TheVariants as S
use Rattle.jl_history.specs.Fields.{◌>>=◌, by_word, number_in, two_in, three_in, key_in, output_in, step_in, ending_in}

-- before the first line
abbrev pub fresh : Bool → Reader
fresh places = record { places = places; stage = S.Header; entries = []; trace = []; output = [] }

-- a line was taken, and what is known is this, or it was not of the form
abbrev pub Moves : Bool → Reader → Option Reader → Type 0
Moves taken new due = due ≡ cond taken (Some new) None

-- at another stage
abbrev pub with_stage : Reader → Stage → Reader
with_stage r stage = record { places = r.places; stage = stage; entries = r.entries; trace = r.trace; output = r.output }

-- with one more entry
abbrev pub with_entry : Reader → Entry → Reader
with_entry r e = record { places = r.places; stage = S.Entry; entries = r.entries ++ e ∷ []; trace = r.trace; output = r.output }

-- after the first line
abbrev pub after_header : List ℕ → Reader → Option Reader
after_header line r = cond (bytes_eq line (first_line r.places)) (Some (with_stage r S.Begin)) None

-- after the line of the begin, by its word and what follows it
abbrev pub begun_by : Reader → List ℕ → List ℕ → Option Reader
begun_by r word fields = cond (bytes_eq word (codes "begin")) (number_in MOST_FUEL fields >>= λ fuel. Some (with_entry r (E.Begin fuel))) None

-- after the line of the begin
abbrev pub after_begin : List ℕ → Reader → Option Reader
after_begin line r = by_word (begun_by r) line

-- after the fields of a key
abbrev pub after_key : List ℕ → Reader → Option Reader
after_key fields r = key_in fields >>= λ k. Some (with_entry r (E.Key k.0 k.1 k.2))

-- after the fields of a fill
abbrev pub after_fill : List ℕ → Reader → Option Reader
after_fill fields r = three_in MOST_NUMBER fields >>= λ n. Some (with_entry r (E.Fill n.0 n.1 n.2))

-- after the fields of a definition
abbrev pub after_def : List ℕ → Reader → Option Reader
after_def fields r = two_in fields >>= λ n. Some (with_entry r (E.Def n.0 n.1))

-- after the fields of a deletion
abbrev pub after_del : List ℕ → Reader → Option Reader
after_del fields r = two_in fields >>= λ n. Some (with_entry r (E.Del n.0 n.1))

-- after the fields of a spawn
abbrev pub after_spawn : List ℕ → Reader → Option Reader
after_spawn fields r = three_in MOST_NUMBER fields >>= λ n. Some (with_entry r (E.Spawn n.0 n.1 n.2))

-- after the fields of the end of a task, whose trace comes next
abbrev pub after_done : List ℕ → Reader → Option Reader
after_done fields r = three_in MOST_ITEMS fields >>= λ n. Some (with_stage r (S.Trace n.0 n.1 n.2))

-- after the field of the last line, which has the number of the entries
abbrev pub after_end : List ℕ → Reader → Option Reader
after_end fields r = number_in MOST_NUMBER fields >>= λ n. cond (nat_eq n (length r.entries)) (Some (with_stage r S.Nothing)) None

-- after the fields of the line of an entry, or of the last line, by its word
abbrev pub after_fields : Reader → List ℕ → List ℕ → Option Reader
after_fields r word fields =
    cond (bytes_eq word (codes "key")) (after_key fields r)
    (cond (bytes_eq word (codes "fill")) (after_fill fields r)
    (cond (bytes_eq word (codes "def")) (after_def fields r)
    (cond (bytes_eq word (codes "del") && r.places) (after_del fields r)
    (cond (bytes_eq word (codes "spawn")) (after_spawn fields r)
    (cond (bytes_eq word (codes "done")) (after_done fields r)
    (cond (bytes_eq word (codes "end")) (after_end fields r) None))))))

-- after the line of an entry, or the last line
abbrev pub after_entry : List ℕ → Reader → Option Reader
after_entry line r = by_word (after_fields r) line

-- after a line of a trace, of which so many are left
abbrev pub after_step : ℕ → ℕ → ℕ → List ℕ → Reader → Option Reader
after_step task calls left line r = step_in r.places line >>= λ s.
    Some (record { places = r.places; stage = S.Trace task calls left; entries = r.entries; trace = r.trace ++ s ∷ []; output = r.output })

-- after the line of the output, by its word and what follows it
abbrev pub output_by : ℕ → ℕ → Reader → List ℕ → List ℕ → Option Reader
output_by task calls r word rest =
    cond (bytes_eq word (codes "output")) (output_in rest >>= λ out. Some (record { places = r.places; stage = S.Outcome task calls; entries = r.entries; trace = r.trace; output = out })) None

-- after the line of the output
abbrev pub after_output : ℕ → ℕ → List ℕ → Reader → Option Reader
after_output task calls line r = by_word (output_by task calls r) line

-- after a line where so many of a trace are left
abbrev pub after_traced : ℕ → ℕ → ℕ → List ℕ → Reader → Option Reader
after_traced task calls left line r = cond (nat_eq left 0) (after_output task calls line r) (after_step task calls (left - 1) line r)

-- after the line of the outcome, with which the entry of the end of a task is whole
abbrev pub after_outcome : ℕ → ℕ → List ℕ → Reader → Option Reader
after_outcome task calls line r = ending_in line >>= λ e.
    Some (record { places = r.places; stage = S.Entry; entries = r.entries ++ E.Done task calls r.trace r.output e ∷ []; trace = []; output = [] })

-- after a line at a stage
abbrev pub after_line : Stage → List ℕ → Reader → Option Reader
after_line S.Header line r = after_header line r
after_line S.Begin line r = after_begin line r
after_line S.Entry line r = after_entry line r
after_line (S.Trace task calls left) line r = after_traced task calls left line r
after_line (S.Outcome task calls) line r = after_outcome task calls line r
after_line S.Nothing line r = None

-- after a line
abbrev pub next : List ℕ → Reader → Option Reader
next line r = after_line r.stage line r

-- whether the last line was read
abbrev pub has_last : Stage → Bool
has_last S.Header = false
has_last S.Begin = false
has_last S.Entry = false
has_last (S.Trace task calls left) = false
has_last (S.Outcome task calls) = false
has_last S.Nothing = true

-- whether the last line was read, and nothing follows it
abbrev pub is_finished : Stage → List ℕ → Bool
is_finished stage rest = nat_eq (length rest) 0 && has_last stage
