-- What a reader has read, and how the text goes on.
use Rattle.std.proofs.Common.{◌≡◌, ◌∙◌, sym, refl, ap, subst, ℕ, zero, suc, ◌+◌, ◌<◌, ◌≤◌, arith, Bool, codes, decimal, List, [], ◌∷◌, ◌++◌, length, length-append, append_assoc, append-nil}
use Rattle.std.specs.Str.{IsUtf8}
use Rattle.std.proofs.lemmas.Str.{IsUtf8-nil, IsUtf8-from_ascii}
use Rattle.std.proofs.lemmas.Fmt.{decimal_nonempty, IsAscii-decimal}
use Rattle.jl_report.specs.declared.entry.Step.{Step}
use Rattle.jl_report.specs.declared.entry.Step.TheVariants as S
use Rattle.jl_report.specs.declared.entry.Ending.{Ending}
use Rattle.jl_report.specs.declared.entry.Ending.TheVariants as N
use Rattle.jl_report.specs.declared.entry.Entry.{Entry}
use Rattle.jl_report.specs.declared.entry.Entry.TheVariants as E
use Rattle.jl_report.specs.HistoryText.{newline, number_line, text_line, quoted, step_line, step_lines, ending_line, entry_lines, all_lines, header, entries_text}
use Rattle.jl_history.specs.declared.fields.TheConstants.{MOST_NUMBER, MOST_ITEMS}
use Rattle.jl_history.specs.declared.reader.Reader.{Reader}
use Rattle.jl_history.specs.declared.reader.Stage.{Stage}
use Rattle.jl_history.specs.declared.reader.Stage.TheVariants as T
use Rattle.jl_history.specs.Form.{AreSteps, IsEnding, IsDone, IsEntry, AreLater, AreFirst, IsBegun}
use Rattle.jl_history.specs.Reading.{fresh}
use Rattle.jl_history.proofs.NumberLemmas.{decimal_lacks}

-- ---- lists

pub all_lines_append : (es fs : List Entry) → all_lines (es ++ fs) ≡ all_lines es ++ all_lines fs
all_lines_append [] fs = refl
all_lines_append (e ∷ es) fs = ap (λ z. entry_lines e ++ z) (all_lines_append es fs) ∙ sym (append_assoc (entry_lines e) (all_lines es) (all_lines fs))

pub step_lines_append : (ss ts : List Step) → step_lines (ss ++ ts) ≡ step_lines ss ++ step_lines ts
step_lines_append [] ts = refl
step_lines_append (s ∷ ss) ts = ap (λ z. step_line s ++ z) (step_lines_append ss ts) ∙ sym (append_assoc (step_line s) (step_lines ss) (step_lines ts))

pub steps_append : (places : Bool) (ss ts : List Step) → AreSteps places ss → AreSteps places ts → AreSteps places (ss ++ ts)
steps_append places [] ts h k = k
steps_append places (s ∷ ss) ts (h, hs) k = (h, steps_append places ss ts hs k)

later_append : (places : Bool) (es : List Entry) (e : Entry) → AreLater places es → IsEntry places e → AreLater places (es ++ e ∷ [])
later_append places [] e h k = (k, tt)
later_append places (f ∷ es) e (h, hs) k = (h, later_append places es e hs k)

pub entries_append : (places : Bool) (es : List Entry) (e : Entry) → AreFirst places es → IsEntry places e → AreFirst places (es ++ e ∷ [])
entries_append places [] e h k = absurd h
entries_append places (f ∷ es) e (h, hs) k = (h, later_append places es e hs k)

-- ---- what was read

-- nothing but the first line
pub record AtStart (r : Reader) : Type 0 where
  pub no_entries : r.entries ≡ []
  pub no_trace : r.trace ≡ []

-- entries
pub record AtEntry (r : Reader) : Type 0 where
  pub told : AreFirst r.places r.entries
  pub no_trace : r.trace ≡ []

-- entries, and the begin of the end of a task
pub record InTrace (task calls left : ℕ) (r : Reader) : Type 0 where
  pub told : AreFirst r.places r.entries
  pub task_small : task ≤ MOST_NUMBER
  pub calls_small : calls ≤ MOST_NUMBER
  pub items : length r.trace + left ≤ MOST_ITEMS
  pub steps : AreSteps r.places r.trace

-- entries, and the end of a task but for its outcome
pub record AtOutcome (task calls : ℕ) (r : Reader) : Type 0 where
  pub told : AreFirst r.places r.entries
  pub task_small : task ≤ MOST_NUMBER
  pub calls_small : calls ≤ MOST_NUMBER
  pub items : length r.trace ≤ MOST_ITEMS
  pub steps : AreSteps r.places r.trace
  pub utf8 : IsUtf8 r.output

abbrev pub IsGoodAt : Stage → Reader → Type 0
IsGoodAt T.Header r = AtStart r
IsGoodAt T.Begin r = AtStart r
IsGoodAt T.Entry r = AtEntry r
IsGoodAt (T.Trace task calls left) r = InTrace task calls left r
IsGoodAt (T.Outcome task calls) r = AtOutcome task calls r
IsGoodAt T.Nothing r = AtEntry r

-- the text that was read
abbrev pub text_at : Stage → Reader → List ℕ
text_at T.Header r = []
text_at T.Begin r = header r.places
text_at T.Entry r = header r.places ++ all_lines r.entries
text_at (T.Trace task calls left) r = header r.places ++ (all_lines r.entries ++ (number_line (codes "done") (task ∷ calls ∷ (length r.trace + left) ∷ []) ++ step_lines r.trace))
text_at (T.Outcome task calls) r =
    header r.places ++ (all_lines r.entries ++ (number_line (codes "done") (task ∷ calls ∷ length r.trace ∷ []) ++ (step_lines r.trace ++ text_line (codes "output ") (quoted r.output))))
text_at T.Nothing r = header r.places ++ (all_lines r.entries ++ number_line (codes "end") (length r.entries ∷ []))

-- ---- how it goes on

abbrev copies : ℕ → List Step
copies zero = []
copies (suc n) = S.TaskFull 0 ∷ copies n

copies_length : (n : ℕ) → length (copies n) ≡ n
copies_length zero = refl
copies_length (suc n) = ap suc (copies_length n)

copies_steps : (places : Bool) (n : ℕ) → AreSteps places (copies n)
copies_steps places zero = tt
copies_steps places (suc n) = (omega arith, copies_steps places n)

-- a value
abbrev some_ending : Ending
some_ending = N.Value (decimal 0)

-- the end, after entries
ends : (places : Bool) (es : List Entry) → AreFirst places es → length es ≤ MOST_NUMBER → IsBegun places (header places ++ all_lines es)
ends places es h l = record {
  entries = es;
  more = number_line (codes "end") (length es ∷ []);
  told = (h, l);
  goes_on = sym (append_assoc (header places) (all_lines es) (number_line (codes "end") (length es ∷ [])));
}

-- a text that begins with more begins with less
pub begun_less : (places : Bool) (a b : List ℕ) → IsBegun places (a ++ b) → IsBegun places a
begun_less places a b h = record { entries = h.entries; more = b ++ h.more; told = h.told; goes_on = h.goes_on ∙ append_assoc a b h.more }

-- entries whose last one begins with these lines
within : (places : Bool) (es : List Entry) (e : Entry) (front rest : List ℕ) → AreFirst places (es ++ e ∷ []) → length es < MOST_NUMBER → entry_lines e ≡ front ++ rest → IsBegun places (header places ++ (all_lines es ++ front))
within places es e front rest h l k =
    let is : header places ++ all_lines (es ++ e ∷ []) ≡ (header places ++ (all_lines es ++ front)) ++ rest =
    ap (λ z. header places ++ z) (all_lines_append es (e ∷ []) ∙ ap (λ z. all_lines es ++ z) (append-nil (entry_lines e) ∙ k) ∙ sym (append_assoc (all_lines es) front rest))
    ∙ sym (append_assoc (header places) (all_lines es ++ front) rest) in
    begun_less places (header places ++ (all_lines es ++ front)) rest (subst (IsBegun places) is (ends places (es ++ e ∷ []) h (omega (arith, l, length-append es (e ∷ [])))))

ending_fits : IsEnding some_ending
ending_fits = record { some = decimal_nonempty 0 (omega arith); one_line = decimal_lacks newline 0 (omega arith) (omega arith); utf8 = IsUtf8-from_ascii (decimal 0) (IsAscii-decimal 0 (omega arith)) }

pub goes_on_start : (places : Bool) → IsBegun places (header places)
goes_on_start places = begun_less places (header places) _ (ends places (E.Begin 0 ∷ []) (omega arith, tt) (omega arith))

goes_on_trace : (task calls left : ℕ) (r : Reader) → length r.entries < MOST_NUMBER → InTrace task calls left r → IsBegun r.places (text_at (T.Trace task calls left) r)
goes_on_trace task calls left r l h =
    let trace : List Step = r.trace ++ copies left in
    let many : length trace ≡ length r.trace + left = length-append r.trace (copies left) ∙ ap (λ z. length r.trace + z) (copies_length left) in
    let fits : IsDone r.places task calls trace [] some_ending =
    record { task_small = h.task_small; calls_small = h.calls_small; items = omega (arith, many, h.items); steps = steps_append r.places r.trace (copies left) h.steps (copies_steps r.places left); utf8 = IsUtf8-nil; ends = ending_fits } in
    let rest : List ℕ = step_lines (copies left) ++ (text_line (codes "output ") (quoted []) ++ ending_line some_ending) in
    let front : List ℕ = number_line (codes "done") (task ∷ calls ∷ (length r.trace + left) ∷ []) ++ step_lines r.trace in
    let is : entry_lines (E.Done task calls trace [] some_ending) ≡ front ++ rest =
    ap (λ n. number_line (codes "done") (task ∷ calls ∷ n ∷ []) ++ (step_lines trace ++ (text_line (codes "output ") (quoted []) ++ ending_line some_ending))) many
    ∙ regroup (number_line (codes "done") (task ∷ calls ∷ (length r.trace + left) ∷ [])) (step_lines trace) (step_lines r.trace) (step_lines (copies left)) (text_line (codes "output ") (quoted []) ++ ending_line some_ending) (step_lines_append r.trace (copies left)) in
    within r.places r.entries (E.Done task calls trace [] some_ending) front rest (entries_append r.places r.entries _ h.told fits) l is
  where
    regroup : (a s t u b : List ℕ) → s ≡ t ++ u → a ++ (s ++ b) ≡ (a ++ t) ++ (u ++ b)
    regroup a s t u b e = ap (λ z. a ++ (z ++ b)) e ∙ ap (λ z. a ++ z) (append_assoc t u b) ∙ sym (append_assoc a t (u ++ b))

goes_on_outcome : (task calls : ℕ) (r : Reader) → length r.entries < MOST_NUMBER → AtOutcome task calls r → IsBegun r.places (text_at (T.Outcome task calls) r)
goes_on_outcome task calls r l h =
    let fits : IsDone r.places task calls r.trace r.output some_ending =
    record { task_small = h.task_small; calls_small = h.calls_small; items = h.items; steps = h.steps; utf8 = h.utf8; ends = ending_fits } in
    within r.places r.entries (E.Done task calls r.trace r.output some_ending) _ (ending_line some_ending) (entries_append r.places r.entries _ h.told fits) l
    (regroup (number_line (codes "done") (task ∷ calls ∷ length r.trace ∷ [])) (step_lines r.trace) (text_line (codes "output ") (quoted r.output)) (ending_line some_ending))
  where
    regroup : (a b c d : List ℕ) → a ++ (b ++ (c ++ d)) ≡ (a ++ (b ++ c)) ++ d
    regroup a b c d = ap (λ z. a ++ z) (sym (append_assoc b c d)) ∙ sym (append_assoc a (b ++ c) d)

pub goes_on : (st : Stage) (r : Reader) → length r.entries < MOST_NUMBER → IsGoodAt st r → IsBegun r.places (text_at st r)
goes_on T.Header r l h = begun_less r.places [] (header r.places) (goes_on_start r.places)
goes_on T.Begin r l h = goes_on_start r.places
goes_on T.Entry r l h = ends r.places r.entries h.told (omega (arith, l))
goes_on (T.Trace task calls left) r l h = goes_on_trace task calls left r l h
goes_on (T.Outcome task calls) r l h = goes_on_outcome task calls r l h
goes_on T.Nothing r l h = record { entries = r.entries; more = []; told = (h.told, omega (arith, l)); goes_on = sym (append-nil (entries_text r.places r.entries)) }

-- each entry has a line
entry_long : (e : Entry) → 0 < length (entry_lines e)
entry_long (E.Begin fuel) = omega arith
entry_long (E.Key number function tuple) = omega arith
entry_long (E.Fill key site first) = omega arith
entry_long (E.Def task site) = omega arith
entry_long (E.Del task place) = omega arith
entry_long (E.Spawn task child place) = omega arith
entry_long (E.Done task calls trace output ending) = omega arith

all_long : (es : List Entry) → length es ≤ length (all_lines es)
all_long [] = omega arith
all_long (e ∷ es) = omega (arith, length-append (entry_lines e) (all_lines es), entry_long e, all_long es)

front_long : (places : Bool) (es : List Entry) (rest : List ℕ) → length es ≤ length (header places ++ (all_lines es ++ rest))
front_long places es rest = omega (arith, length-append (header places) (all_lines es ++ rest), length-append (all_lines es) rest, all_long es)

none_long : (es : List Entry) (n : ℕ) → es ≡ [] → length es ≤ n
none_long es n e = subst (λ z. length z ≤ n) (sym e) (omega arith)

-- no more entries than bytes
pub few_entries : (st : Stage) (r : Reader) → IsGoodAt st r → length r.entries ≤ length (text_at st r)
few_entries T.Header r h = none_long r.entries _ h.no_entries
few_entries T.Begin r h = none_long r.entries _ h.no_entries
few_entries T.Entry r h = omega (arith, length-append (header r.places) (all_lines r.entries), all_long r.entries)
few_entries (T.Trace task calls left) r h = front_long r.places r.entries _
few_entries (T.Outcome task calls) r h = front_long r.places r.entries _
few_entries T.Nothing r h = front_long r.places r.entries _

pub fresh_good : (places : Bool) → IsGoodAt T.Header (fresh places)
fresh_good places = record { no_entries = refl; no_trace = refl }
