-- Lines that are taken one after another, and the lines of entries.
use Rattle.std.proofs.Common.{◌≡◌, ◌∙◌, sym, refl, ap, ℕ, suc, ◌<◌, ◌≤◌, ◌^◌, arith, Bool, true, false, codes, decimal, List, [], ◌∷◌, ◌++◌, length, Option, None, Some, append_assoc, append-nil}
use Rattle.jl_report.specs.declared.entry.Step.{Step}
use Rattle.jl_report.specs.declared.entry.Ending.{Ending}
use Rattle.jl_report.specs.declared.entry.Entry.{Entry}
use Rattle.jl_report.specs.declared.entry.Entry.TheVariants as E
use Rattle.jl_report.specs.HistoryText.{newline, spaced, text_line, quoted, step_lines, ending_line, entry_lines}
use Rattle.jl_history.specs.declared.fields.TheConstants.{MOST_NUMBER, MOST_ITEMS}
use Rattle.jl_history.specs.declared.reader.Reader.{Reader}
use Rattle.jl_history.specs.declared.reader.Stage.TheVariants as T
use Rattle.jl_history.specs.Form.{lacks, joined, AreLines, IsKey, IsStep, AreSteps, IsDone, IsEntry}
use Rattle.jl_history.specs.Fields.{◌>>=◌, space, three_in, output_in, ending_in}
use Rattle.jl_history.specs.Reading.{with_entry, after_fields, output_by, next}
use Rattle.jl_history.proofs.CutLemmas.{lacks_append}
use Rattle.jl_history.proofs.NumberLemmas.{two_again, three_again, small_one, decimal_lacks}
use Rattle.jl_history.proofs.QuoteLemmas.{output_again, quoted_lacks}
use Rattle.jl_history.proofs.LineLemmas.{by_word_again, two_spaced, three_spaced, number_line_is, words_lack, two_small, three_small, step_words, step_line_is, step_lacks, step_again, ending_words, ending_line_is, ending_lacks, ending_again, key_fields, key_again, not_told}
use Rattle.jl_history.proofs.StepLemmas.{traced_more}

-- ---- lines one after another

-- what a reader has after lines that are all of the form
abbrev pub run : List (List ℕ) → Reader → Option Reader
run [] r = Some r
run (l ∷ ls) r = next l r >>= λ s. run ls s

run_rest : (ls ms : List (List ℕ)) (o : Option Reader) → ((s : Reader) → run (ls ++ ms) s ≡ (run ls s >>= λ t. run ms t)) → (o >>= λ s. run (ls ++ ms) s) ≡ ((o >>= λ s. run ls s) >>= λ t. run ms t)
run_rest ls ms None h = refl
run_rest ls ms (Some s) h = h s

pub run_append : (ls ms : List (List ℕ)) (r : Reader) → run (ls ++ ms) r ≡ (run ls r >>= λ s. run ms s)
run_append [] ms r = refl
run_append (l ∷ ls) ms r = run_rest ls ms (next l r) (λ s. run_append ls ms s)

pub joined_append : (ls ms : List (List ℕ)) → joined (ls ++ ms) ≡ joined ls ++ joined ms
joined_append [] ms = refl
joined_append (l ∷ ls) ms = ap (λ z. l ++ newline ∷ z) (joined_append ls ms) ∙ sym (append_assoc l (newline ∷ joined ls) (joined ms))

pub lines_append : (ls ms : List (List ℕ)) → AreLines ls → AreLines ms → AreLines (ls ++ ms)
lines_append [] ms h k = k
lines_append (l ∷ ls) ms (h, hs) k = (h, lines_append ls ms hs k)

-- ---- the lines of a trace

abbrev trace_lines : List Step → List (List ℕ)
trace_lines [] = []
trace_lines (s ∷ ss) = step_words s ∷ trace_lines ss

joined_trace : (ss : List Step) → joined (trace_lines ss) ≡ step_lines ss
joined_trace [] = refl
joined_trace (s ∷ ss) =
    ap (λ z. step_words s ++ newline ∷ z) (joined_trace ss)
    ∙ sym (append_assoc (step_words s) (newline ∷ []) (step_lines ss))
    ∙ ap (λ z. z ++ step_lines ss) (sym (step_line_is s))

trace_free : (places : Bool) (ss : List Step) → AreSteps places ss → AreLines (trace_lines ss)
trace_free places [] h = tt
trace_free places (s ∷ ss) (h, hs) = (step_lacks places s h, trace_free places ss hs)

-- a reader of a trace
abbrev pub in_trace : Bool → List Entry → ℕ → ℕ → ℕ → List Step → Reader
in_trace places es task calls left trace = record { places = places; stage = T.Trace task calls left; entries = es; trace = trace; output = [] }

one_step : (places : Bool) (es : List Entry) (task calls left : ℕ) (before : List Step) (s : Step) → IsStep places s → next (step_words s) (in_trace places es task calls (suc left) before) ≡ Some (in_trace places es task calls left (before ++ s ∷ []))
one_step places es task calls left before s h =
    traced_more task calls left (step_words s) (in_trace places es task calls (suc left) before)
    ∙ ap (λ o. o >>= λ t. Some (in_trace places es task calls left (before ++ t ∷ []))) (step_again places s h)

trace_run : (places : Bool) (es : List Entry) (task calls : ℕ) (before ss : List Step) → AreSteps places ss → run (trace_lines ss) (in_trace places es task calls (length ss) before) ≡ Some (in_trace places es task calls 0 (before ++ ss))
trace_run places es task calls before [] h = ap (λ z. Some (in_trace places es task calls 0 z)) (sym (append-nil before))
trace_run places es task calls before (s ∷ ss) (h, hs) =
    ap (λ o. o >>= λ r. run (trace_lines ss) r) (one_step places es task calls (length ss) before s h)
    ∙ trace_run places es task calls (before ++ s ∷ []) ss hs
    ∙ ap (λ z. Some (in_trace places es task calls 0 z)) (append_assoc before (s ∷ []) ss)

-- ---- the lines of an entry

abbrev output_words : List ℕ → List ℕ
output_words out = codes "output " ++ quoted out

abbrev done_lines : ℕ → ℕ → List Step → List ℕ → Ending → List (List ℕ)
done_lines task calls trace out ending = (codes "done" ++ spaced (task ∷ calls ∷ length trace ∷ [])) ∷ (trace_lines trace ++ output_words out ∷ ending_words ending ∷ [])

abbrev pub lines_of : Entry → List (List ℕ)
lines_of (E.Begin fuel) = (codes "begin" ++ spaced (fuel ∷ [])) ∷ []
lines_of (E.Key number function tuple) = (codes "key" ++ space ∷ key_fields number function tuple) ∷ []
lines_of (E.Fill key site first) = (codes "fill" ++ spaced (key ∷ site ∷ first ∷ [])) ∷ []
lines_of (E.Def task site) = (codes "def" ++ spaced (task ∷ site ∷ [])) ∷ []
lines_of (E.Del task place) = (codes "del" ++ spaced (task ∷ place ∷ [])) ∷ []
lines_of (E.Spawn task child place) = (codes "spawn" ++ spaced (task ∷ child ∷ place ∷ [])) ∷ []
lines_of (E.Done task calls trace out ending) = done_lines task calls trace out ending

joined_done : (task calls : ℕ) (trace : List Step) (out : List ℕ) (ending : Ending) → joined (done_lines task calls trace out ending) ≡ entry_lines (E.Done task calls trace out ending)
joined_done task calls trace out ending =
    ap (λ z. (codes "done" ++ spaced (task ∷ calls ∷ length trace ∷ [])) ++ newline ∷ z) (
    joined_append (trace_lines trace) (output_words out ∷ ending_words ending ∷ [])
    ∙ ap (λ z. z ++ (output_words out ++ newline ∷ (ending_words ending ++ newline ∷ []))) (joined_trace trace)
    ∙ ap (λ z. step_lines trace ++ z) (
    sym (append_assoc (output_words out) (newline ∷ []) (ending_words ending ++ newline ∷ []))
    ∙ ap (λ z. (output_words out ++ newline ∷ []) ++ z) (sym (ending_line_is ending))))
    ∙ sym (append_assoc (codes "done" ++ spaced (task ∷ calls ∷ length trace ∷ [])) (newline ∷ []) (step_lines trace ++ (text_line (codes "output ") (quoted out) ++ ending_line ending)))
    ∙ ap (λ z. z ++ (step_lines trace ++ (text_line (codes "output ") (quoted out) ++ ending_line ending))) (sym (number_line_is (codes "done") (task ∷ calls ∷ length trace ∷ [])))

joined_key : (number : ℕ) (function tuple : List ℕ) → joined (lines_of (E.Key number function tuple)) ≡ entry_lines (E.Key number function tuple)
joined_key number function tuple = ap (λ z. codes "key" ++ space ∷ z) (
    append_assoc (decimal number) (space ∷ (function ++ space ∷ tuple)) (newline ∷ [])
    ∙ ap (λ z. decimal number ++ space ∷ z) (append_assoc function (space ∷ tuple) (newline ∷ []))
    ∙ ap (λ z. z ++ space ∷ (function ++ space ∷ (tuple ++ newline ∷ []))) (sym (append-nil (decimal number))))

pub joined_entry : (e : Entry) → joined (lines_of e) ≡ entry_lines e
joined_entry (E.Begin fuel) = sym (number_line_is (codes "begin") (fuel ∷ []))
joined_entry (E.Key number function tuple) = joined_key number function tuple
joined_entry (E.Fill key site first) = sym (number_line_is (codes "fill") (key ∷ site ∷ first ∷ []))
joined_entry (E.Def task site) = sym (number_line_is (codes "def") (task ∷ site ∷ []))
joined_entry (E.Del task place) = sym (number_line_is (codes "del") (task ∷ place ∷ []))
joined_entry (E.Spawn task child place) = sym (number_line_is (codes "spawn") (task ∷ child ∷ place ∷ []))
joined_entry (E.Done task calls trace out ending) = joined_done task calls trace out ending

key_free : (number : ℕ) (function tuple : List ℕ) → IsKey number function tuple → lacks newline (codes "key" ++ space ∷ key_fields number function tuple) ≡ true
key_free number function tuple k =
    lacks_append newline (decimal number) (space ∷ (function ++ space ∷ tuple)) (decimal_lacks newline number (omega arith) (small_one number k.small))
    (lacks_append newline function (space ∷ tuple) k.name.one_line k.types.one_line)

pub entry_free : (places : Bool) (e : Entry) → IsEntry places e → AreLines (lines_of e)
entry_free places (E.Begin fuel) h = absurd h
entry_free places (E.Key number function tuple) h = (key_free number function tuple h, tt)
entry_free places (E.Fill key site first) h = (words_lack (codes "fill") (key ∷ site ∷ first ∷ []) refl (three_small key site first h.0 h.1 (small_one first h.2)), tt)
entry_free places (E.Def task site) h = (words_lack (codes "def") (task ∷ site ∷ []) refl (two_small task site h.0 h.1), tt)
entry_free places (E.Del task place) h = (words_lack (codes "del") (task ∷ place ∷ []) refl (two_small task place h.1 h.2), tt)
entry_free places (E.Spawn task child place) h = (words_lack (codes "spawn") (task ∷ child ∷ place ∷ []) refl (three_small task child place h.0 h.1 (small_one place h.2)), tt)
entry_free places (E.Done task calls trace out ending) h = (
  words_lack (codes "done") (task ∷ calls ∷ length trace ∷ []) refl (three_small task calls (length trace) h.task_small h.calls_small (omega (arith, h.items))),
  lines_append (trace_lines trace) (output_words out ∷ ending_words ending ∷ []) (trace_free places trace h.steps) (lacks_append newline (codes "output ") (quoted out) refl (quoted_lacks out), (ending_lacks ending h.ends, tt)),
)

-- ---- an entry is read

-- a reader of entries
abbrev pub at_entry : Bool → List Entry → Reader
at_entry places es = record { places = places; stage = T.Entry; entries = es; trace = []; output = [] }

key_run : (places : Bool) (es : List Entry) (number : ℕ) (function tuple : List ℕ) → IsKey number function tuple
    → next (codes "key" ++ space ∷ key_fields number function tuple) (at_entry places es) ≡ Some (at_entry places (es ++ E.Key number function tuple ∷ []))
key_run places es number function tuple k =
    by_word_again (after_fields (at_entry places es)) (codes "key") (key_fields number function tuple) refl
    ∙ ap (λ o. o >>= λ q. Some (with_entry (at_entry places es) (E.Key q.0 q.1 q.2))) (key_again number function tuple k)

-- a line of three numbers
three_run : (places : Bool) (es : List Entry) (name : List ℕ) (most a b c : ℕ) (made : ℕ → ℕ → ℕ → Reader) → lacks space name ≡ true → most < 2 ^ 64 → a ≤ MOST_NUMBER → b ≤ MOST_NUMBER → c ≤ most
    → ((fields : List ℕ) → after_fields (at_entry places es) name fields ≡ (three_in most fields >>= λ n. Some (made n.0 n.1 n.2)))
    → next (name ++ spaced (a ∷ b ∷ c ∷ [])) (at_entry places es) ≡ Some (made a b c)
three_run places es name most a b c made h w l m n f =
    ap (λ z. next (name ++ z) (at_entry places es)) (three_spaced a b c)
    ∙ by_word_again (after_fields (at_entry places es)) name (decimal a ++ space ∷ (decimal b ++ space ∷ decimal c)) h
    ∙ f (decimal a ++ space ∷ (decimal b ++ space ∷ decimal c))
    ∙ ap (λ o. o >>= λ q. Some (made q.0 q.1 q.2)) (three_again most a b c w l m n)

def_run : (places : Bool) (es : List Entry) (a b : ℕ) → a ≤ MOST_NUMBER → b ≤ MOST_NUMBER → next (codes "def" ++ spaced (a ∷ b ∷ [])) (at_entry places es) ≡ Some (at_entry places (es ++ E.Def a b ∷ []))
def_run places es a b l m =
    ap (λ z. next (codes "def" ++ z) (at_entry places es)) (two_spaced a b)
    ∙ by_word_again (after_fields (at_entry places es)) (codes "def") (decimal a ++ space ∷ decimal b) refl
    ∙ ap (λ o. o >>= λ q. Some (with_entry (at_entry places es) (E.Def q.0 q.1))) (two_again a b l m)

del_run : (places : Bool) (es : List Entry) (a b : ℕ) → places ≡ true → a ≤ MOST_NUMBER → b ≤ MOST_NUMBER → next (codes "del" ++ spaced (a ∷ b ∷ [])) (at_entry places es) ≡ Some (at_entry places (es ++ E.Del a b ∷ []))
del_run true es a b told l m =
    ap (λ z. next (codes "del" ++ z) (at_entry true es)) (two_spaced a b)
    ∙ by_word_again (after_fields (at_entry true es)) (codes "del") (decimal a ++ space ∷ decimal b) refl
    ∙ ap (λ o. o >>= λ q. Some (with_entry (at_entry true es) (E.Del q.0 q.1))) (two_again a b l m)
del_run false es a b told l m = absurd (not_told told)

-- a reader that waits for an outcome
abbrev at_outcome : Bool → List Entry → ℕ → ℕ → List Step → List ℕ → Reader
at_outcome places es task calls trace out = record { places = places; stage = T.Outcome task calls; entries = es; trace = trace; output = out }

output_run : (places : Bool) (es : List Entry) (task calls : ℕ) (trace : List Step) (out : List ℕ) → output_in (quoted out) ≡ Some out → next (output_words out) (in_trace places es task calls 0 trace) ≡ Some (at_outcome places es task calls trace out)
output_run places es task calls trace out h =
    by_word_again (output_by task calls (in_trace places es task calls 0 trace)) (codes "output") (quoted out) refl
    ∙ ap (λ o. o >>= λ z. Some (at_outcome places es task calls trace z)) h

outcome_run : (places : Bool) (es : List Entry) (task calls : ℕ) (trace : List Step) (out : List ℕ) (ending : Ending) → ending_in (ending_words ending) ≡ Some ending
    → next (ending_words ending) (at_outcome places es task calls trace out) ≡ Some (at_entry places (es ++ E.Done task calls trace out ending ∷ []))
outcome_run places es task calls trace out ending h = ap (λ o. o >>= λ e. Some (at_entry places (es ++ E.Done task calls trace out e ∷ []))) h

done_run : (places : Bool) (es : List Entry) (task calls : ℕ) (trace : List Step) (out : List ℕ) (ending : Ending) → IsDone places task calls trace out ending
    → run (done_lines task calls trace out ending) (at_entry places es) ≡ Some (at_entry places (es ++ E.Done task calls trace out ending ∷ []))
done_run places es task calls trace out ending h =
    ap (λ o. o >>= λ r. run (trace_lines trace ++ output_words out ∷ ending_words ending ∷ []) r)
    (three_run places es (codes "done") MOST_ITEMS task calls (length trace) (λ a b c. in_trace places es a b c []) refl (omega arith) h.task_small h.calls_small h.items (λ fields. refl))
    ∙ run_append (trace_lines trace) (output_words out ∷ ending_words ending ∷ []) (in_trace places es task calls (length trace) [])
    ∙ ap (λ o. o >>= λ r. run (output_words out ∷ ending_words ending ∷ []) r) (trace_run places es task calls [] trace h.steps)
    ∙ ap (λ o. o >>= λ r. run (ending_words ending ∷ []) r) (output_run places es task calls trace out (output_again out h.utf8))
    ∙ ap (λ o. o >>= λ r. run [] r) (outcome_run places es task calls trace out ending (ending_again ending h.ends))

-- a single line
single : (line : List ℕ) (r s : Reader) → next line r ≡ Some s → run (line ∷ []) r ≡ Some s
single line r s h = ap (λ o. o >>= λ t. run [] t) h

pub entry_run : (places : Bool) (es : List Entry) (e : Entry) → IsEntry places e → run (lines_of e) (at_entry places es) ≡ Some (at_entry places (es ++ e ∷ []))
entry_run places es (E.Begin fuel) h = absurd h
entry_run places es (E.Key number function tuple) h = single (codes "key" ++ space ∷ key_fields number function tuple) (at_entry places es) (at_entry places (es ++ E.Key number function tuple ∷ [])) (key_run places es number function tuple h)
entry_run places es (E.Fill key site first) h =
    single (codes "fill" ++ spaced (key ∷ site ∷ first ∷ [])) (at_entry places es) (at_entry places (es ++ E.Fill key site first ∷ [])) (three_run places es (codes "fill") MOST_NUMBER key site first (λ a b c. at_entry places (es ++ E.Fill a b c ∷ [])) refl (omega arith) h.0 h.1 h.2 (λ fields. refl))
entry_run places es (E.Def task site) h = single (codes "def" ++ spaced (task ∷ site ∷ [])) (at_entry places es) (at_entry places (es ++ E.Def task site ∷ [])) (def_run places es task site h.0 h.1)
entry_run places es (E.Del task place) h = single (codes "del" ++ spaced (task ∷ place ∷ [])) (at_entry places es) (at_entry places (es ++ E.Del task place ∷ [])) (del_run places es task place h.0 h.1 h.2)
entry_run places es (E.Spawn task child place) h =
    single (codes "spawn" ++ spaced (task ∷ child ∷ place ∷ [])) (at_entry places es) (at_entry places (es ++ E.Spawn task child place ∷ [])) (three_run places es (codes "spawn") MOST_NUMBER task child place (λ a b c. at_entry places (es ++ E.Spawn a b c ∷ [])) refl (omega arith) h.0 h.1 h.2 (λ fields. refl))
entry_run places es (E.Done task calls trace out ending) h = done_run places es task calls trace out ending h
