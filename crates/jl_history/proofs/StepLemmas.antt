-- A line that is taken adds itself to what was read.
use Rattle.std.proofs.Common.{◌≡◌, ◌∙◌, sym, refl, ap, subst, ℕ, zero, suc, ◌+◌, ◌-◌, arith, Bool, true, false, ◌&&◌, cond, nat_eq, codes, decimal, List, [], ◌∷◌, ◌++◌, length, bytes_eq, None, IfSome, length-append, append_assoc, append-nil}
use Rattle.jl_model.specs.declared.limits.TheConstants.{MOST_FUEL}
use Rattle.jl_report.specs.declared.entry.Step.{Step}
use Rattle.jl_report.specs.declared.entry.Entry.{Entry}
use Rattle.jl_report.specs.declared.entry.Entry.TheVariants as E
use Rattle.jl_report.specs.HistoryText.{newline, spaced, number_line, text_line, quoted, step_line, step_lines, entry_lines, all_lines, first_line, header}
use Rattle.jl_history.specs.declared.fields.TheConstants.{MOST_NUMBER, MOST_ITEMS}
use Rattle.jl_history.specs.declared.reader.Reader.{Reader}
use Rattle.jl_history.specs.declared.reader.Stage.{Stage}
use Rattle.jl_history.specs.declared.reader.Stage.TheVariants as T
use Rattle.jl_history.specs.Form.{lacks, AreSteps, IsEntry, AreFirst}
use Rattle.jl_history.specs.Fields.{space, number_in, two_in, three_in, key_in, output_in, step_in, ending_in}
use Rattle.jl_history.specs.Reading.{with_entry, after_header, begun_by, after_begin, after_key, after_fill, after_def, after_del, after_spawn, after_done, after_end, after_fields, after_entry, after_step, output_by, after_output, after_traced, after_outcome, after_line, next}
use Rattle.jl_history.proofs.OptionLemmas.{bind_holds, cond_holds, and_true, same_bytes, same_number}
use Rattle.jl_history.proofs.CutLemmas.{lacks_parts}
use Rattle.jl_history.proofs.NumberLemmas.{IsNumberIn, number_holds, AreTwo, two_holds, AreThree, three_holds}
use Rattle.jl_history.proofs.QuoteLemmas.{IsOutput, output_holds}
use Rattle.jl_history.proofs.LineLemmas.{by_word_holds, one_line, two_line, three_line, number_line_is, IsStepOf, step_holds, step_line_is, IsEndingOf, ending_holds, ending_line_is, IsKeyOf, key_holds, key_fields}
use Rattle.jl_history.proofs.StateLemmas.{AtStart, AtEntry, InTrace, AtOutcome, IsGoodAt, text_at, entries_append, all_lines_append, step_lines_append, steps_append}

-- the reader s, of a program with a deletion place or without one, has read the line too
pub record IsAfter (places : Bool) (read line : List ℕ) (s : Reader) : Type 0 where
  pub same : s.places ≡ places
  pub good : IsGoodAt s.stage s
  pub adds : text_at s.stage s ≡ read ++ (line ++ newline ∷ [])

-- ---- an entry in a line of its own

enters : (r : Reader) (e : Entry) (line : List ℕ) → AtEntry r → IsEntry r.places e → entry_lines e ≡ line ++ newline ∷ [] → IsAfter r.places (header r.places ++ all_lines r.entries) line (with_entry r e)
enters r e line h k is = record {
  same = refl;
  good = record { told = entries_append r.places r.entries e h.told k; no_trace = h.no_trace };
  adds =
      ap (λ z. header r.places ++ z) (all_lines_append r.entries (e ∷ []) ∙ ap (λ z. all_lines r.entries ++ z) (append-nil (entry_lines e) ∙ is))
      ∙ sym (append_assoc (header r.places) (all_lines r.entries) (line ++ newline ∷ []));
}

-- the line of a word and numbers
line_is : (name line : List ℕ) (ns : List ℕ) → line ≡ name ++ spaced ns → number_line name ns ≡ line ++ newline ∷ []
line_is name line ns e = number_line_is name ns ∙ ap (λ z. z ++ newline ∷ []) (sym e)

module _ (r : Reader) (word fields line : List ℕ) (e : line ≡ word ++ space ∷ fields) (free : lacks newline line ≡ true) (h : AtEntry r) where
  read : List ℕ
  read = header r.places ++ all_lines r.entries

  key_taken : word ≡ codes "key" → IfSome (after_key fields r) (IsAfter r.places (header r.places ++ all_lines r.entries) line)
  key_taken w =
      let p = lacks_parts newline word (space ∷ fields) (ap (lacks newline) (sym e) ∙ free) in
      bind_holds (key_in fields) _ (IsKeyOf fields) (IsAfter r.places (header r.places ++ all_lines r.entries) line) (key_holds fields p.1) (λ k x.
      enters r (E.Key k.0 k.1 k.2) line h x.fits (sym (ap (λ z. z ++ newline ∷ []) (e ∙ ap (λ z. z ++ space ∷ fields) w ∙ ap (λ z. codes "key" ++ space ∷ z) x.is) ∙ regroup k.0 k.1 k.2)))
    where
      regroup : (n : ℕ) (function tuple : List ℕ) → (codes "key" ++ space ∷ key_fields n function tuple) ++ newline ∷ [] ≡ entry_lines (E.Key n function tuple)
      regroup n function tuple = ap (λ z. codes "key" ++ space ∷ z) (
          append_assoc (decimal n) (space ∷ (function ++ space ∷ tuple)) (newline ∷ [])
          ∙ ap (λ z. decimal n ++ space ∷ z) (append_assoc function (space ∷ tuple) (newline ∷ []))
          ∙ ap (λ z. z ++ space ∷ (function ++ space ∷ (tuple ++ newline ∷ []))) (sym (append-nil (decimal n))))

  fill_taken : word ≡ codes "fill" → IfSome (after_fill fields r) (IsAfter r.places (header r.places ++ all_lines r.entries) line)
  fill_taken w = bind_holds (three_in MOST_NUMBER fields) _ (AreThree MOST_NUMBER fields) (IsAfter r.places (header r.places ++ all_lines r.entries) line) (three_holds MOST_NUMBER fields) (λ n x.
      enters r (E.Fill n.0 n.1 n.2) line h (x.first, x.second, x.third) (line_is (codes "fill") line (n.0 ∷ n.1 ∷ n.2 ∷ []) (e ∙ three_line (codes "fill") word fields n.0 n.1 n.2 w x.is)))

  def_taken : word ≡ codes "def" → IfSome (after_def fields r) (IsAfter r.places (header r.places ++ all_lines r.entries) line)
  def_taken w = bind_holds (two_in fields) _ (AreTwo fields) (IsAfter r.places (header r.places ++ all_lines r.entries) line) (two_holds fields) (λ n x.
      enters r (E.Def n.0 n.1) line h (x.first, x.second) (line_is (codes "def") line (n.0 ∷ n.1 ∷ []) (e ∙ two_line (codes "def") word fields n.0 n.1 w x.is)))

  del_taken : word ≡ codes "del" → r.places ≡ true → IfSome (after_del fields r) (IsAfter r.places (header r.places ++ all_lines r.entries) line)
  del_taken w told = bind_holds (two_in fields) _ (AreTwo fields) (IsAfter r.places (header r.places ++ all_lines r.entries) line) (two_holds fields) (λ n x.
      enters r (E.Del n.0 n.1) line h (told, x.first, x.second) (line_is (codes "del") line (n.0 ∷ n.1 ∷ []) (e ∙ two_line (codes "del") word fields n.0 n.1 w x.is)))

  spawn_taken : word ≡ codes "spawn" → IfSome (after_spawn fields r) (IsAfter r.places (header r.places ++ all_lines r.entries) line)
  spawn_taken w = bind_holds (three_in MOST_NUMBER fields) _ (AreThree MOST_NUMBER fields) (IsAfter r.places (header r.places ++ all_lines r.entries) line) (three_holds MOST_NUMBER fields) (λ n x.
      enters r (E.Spawn n.0 n.1 n.2) line h (x.first, x.second, x.third) (line_is (codes "spawn") line (n.0 ∷ n.1 ∷ n.2 ∷ []) (e ∙ three_line (codes "spawn") word fields n.0 n.1 n.2 w x.is)))

  done_taken : word ≡ codes "done" → IfSome (after_done fields r) (IsAfter r.places (header r.places ++ all_lines r.entries) line)
  done_taken w = bind_holds (three_in MOST_ITEMS fields) _ (AreThree MOST_ITEMS fields) (IsAfter r.places (header r.places ++ all_lines r.entries) line) (three_holds MOST_ITEMS fields) (λ n x.
      let all : length r.trace + n.2 ≡ n.2 = ap (λ (z : List Step). length z + n.2) h.no_trace ∙ omega arith in
      record {
        same = refl;
        good = record { told = h.told; task_small = x.first; calls_small = x.second; items = omega (arith, all, x.third); steps = subst (AreSteps r.places) (sym h.no_trace) tt };
        adds =
            ap (λ m. header r.places ++ (all_lines r.entries ++ (number_line (codes "done") (n.0 ∷ n.1 ∷ m ∷ []) ++ step_lines r.trace))) all
            ∙ ap (λ z. header r.places ++ (all_lines r.entries ++ (number_line (codes "done") (n.0 ∷ n.1 ∷ n.2 ∷ []) ++ step_lines z))) h.no_trace
            ∙ ap (λ z. header r.places ++ (all_lines r.entries ++ z)) (append-nil (number_line (codes "done") (n.0 ∷ n.1 ∷ n.2 ∷ [])) ∙ line_is (codes "done") line (n.0 ∷ n.1 ∷ n.2 ∷ []) (e ∙ three_line (codes "done") word fields n.0 n.1 n.2 w x.is))
            ∙ sym (append_assoc (header r.places) (all_lines r.entries) (line ++ newline ∷ []));
      })

  end_taken : word ≡ codes "end" → IfSome (after_end fields r) (IsAfter r.places (header r.places ++ all_lines r.entries) line)
  end_taken w = bind_holds (number_in MOST_NUMBER fields) _ (IsNumberIn MOST_NUMBER fields) (IsAfter r.places (header r.places ++ all_lines r.entries) line) (number_holds MOST_NUMBER fields) (λ n x.
      cond_holds (nat_eq n (length r.entries)) _ None (IsAfter r.places (header r.places ++ all_lines r.entries) line) (λ q.
      record {
        same = refl;
        good = record { told = h.told; no_trace = h.no_trace };
        adds =
            ap (λ z. header r.places ++ (all_lines r.entries ++ z)) (
            ap (λ z. number_line (codes "end") (z ∷ [])) (sym (same_number n (length r.entries) q))
            ∙ line_is (codes "end") line (n ∷ []) (e ∙ one_line (codes "end") word fields n w x.is))
            ∙ sym (append_assoc (header r.places) (all_lines r.entries) (line ++ newline ∷ []));
      })
      (λ q. tt))

  pub fields_taken : IfSome (after_fields r word fields) (IsAfter r.places (header r.places ++ all_lines r.entries) line)
  fields_taken =
      cond_holds (bytes_eq word (codes "key")) _ _ (IsAfter r.places (header r.places ++ all_lines r.entries) line) (λ w. key_taken (same_bytes word (codes "key") w)) (λ _.
      cond_holds (bytes_eq word (codes "fill")) _ _ (IsAfter r.places (header r.places ++ all_lines r.entries) line) (λ w. fill_taken (same_bytes word (codes "fill") w)) (λ _.
      cond_holds (bytes_eq word (codes "def")) _ _ (IsAfter r.places (header r.places ++ all_lines r.entries) line) (λ w. def_taken (same_bytes word (codes "def") w)) (λ _.
      cond_holds (bytes_eq word (codes "del") && r.places) _ _ (IsAfter r.places (header r.places ++ all_lines r.entries) line) (λ w.
      let two = and_true (bytes_eq word (codes "del")) r.places w in
      del_taken (same_bytes word (codes "del") two.0) two.1) (λ _.
      cond_holds (bytes_eq word (codes "spawn")) _ _ (IsAfter r.places (header r.places ++ all_lines r.entries) line) (λ w. spawn_taken (same_bytes word (codes "spawn") w)) (λ _.
      cond_holds (bytes_eq word (codes "done")) _ _ (IsAfter r.places (header r.places ++ all_lines r.entries) line) (λ w. done_taken (same_bytes word (codes "done") w)) (λ _.
      cond_holds (bytes_eq word (codes "end")) _ None (IsAfter r.places (header r.places ++ all_lines r.entries) line) (λ w. end_taken (same_bytes word (codes "end") w)) (λ _. tt)))))))

-- ---- each stage

header_taken : (r : Reader) (line : List ℕ) → AtStart r → IfSome (after_header line r) (IsAfter r.places [] line)
header_taken r line h = cond_holds (bytes_eq line (first_line r.places)) _ None (IsAfter r.places [] line) (λ e.
    record { same = refl; good = record { no_entries = h.no_entries; no_trace = h.no_trace }; adds = ap (λ z. z ++ newline ∷ []) (sym (same_bytes line (first_line r.places) e)) })
    (λ e. tt)

begin_taken : (r : Reader) (line : List ℕ) → AtStart r → IfSome (after_begin line r) (IsAfter r.places (header r.places) line)
begin_taken r line h = by_word_holds (begun_by r) line (IsAfter r.places (header r.places) line) (λ word fields alone e.
    cond_holds (bytes_eq word (codes "begin")) _ None (IsAfter r.places (header r.places) line) (λ w.
    bind_holds (number_in MOST_FUEL fields) _ (IsNumberIn MOST_FUEL fields) (IsAfter r.places (header r.places) line) (number_holds MOST_FUEL fields) (λ n x.
    record {
      same = refl;
      good = record { told = subst (λ z. AreFirst r.places (z ++ E.Begin n ∷ [])) (sym h.no_entries) (x.small, tt); no_trace = h.no_trace };
      adds =
          ap (λ z. header r.places ++ all_lines (z ++ E.Begin n ∷ [])) h.no_entries
          ∙ ap (λ z. header r.places ++ z) (append-nil (entry_lines (E.Begin n)) ∙ line_is (codes "begin") line (n ∷ []) (e ∙ one_line (codes "begin") word fields n (same_bytes word (codes "begin") w) x.is));
    }))
    (λ w. tt))

entry_taken : (r : Reader) (line : List ℕ) → AtEntry r → lacks newline line ≡ true → IfSome (after_entry line r) (IsAfter r.places (header r.places ++ all_lines r.entries) line)
entry_taken r line h free = by_word_holds (after_fields r) line (IsAfter r.places (header r.places ++ all_lines r.entries) line) (λ word fields alone e. fields_taken r word fields line e free h)

step_taken : (task calls left : ℕ) (r : Reader) (line : List ℕ) → InTrace task calls (suc left) r → IfSome (after_step task calls left line r) (IsAfter r.places (text_at (T.Trace task calls (suc left)) r) line)
step_taken task calls left r line h = bind_holds (step_in r.places line) _ (IsStepOf r.places line) (IsAfter r.places (text_at (T.Trace task calls (suc left)) r) line) (step_holds r.places line) (λ s x.
    let more : length (r.trace ++ s ∷ []) + left ≡ length r.trace + suc left = omega (arith, length-append r.trace (s ∷ [])) in
    record {
      same = refl;
      good = record { told = h.told; task_small = h.task_small; calls_small = h.calls_small; items = omega (arith, more, h.items); steps = steps_append r.places r.trace (s ∷ []) h.steps (x.fits, tt) };
      adds =
          ap (λ n. header r.places ++ (all_lines r.entries ++ (number_line (codes "done") (task ∷ calls ∷ n ∷ []) ++ step_lines (r.trace ++ s ∷ [])))) more
          ∙ ap (λ z. header r.places ++ (all_lines r.entries ++ (number_line (codes "done") (task ∷ calls ∷ (length r.trace + suc left) ∷ []) ++ z)))
          (step_lines_append r.trace (s ∷ []) ∙ ap (λ z. step_lines r.trace ++ z) (append-nil (step_line s) ∙ step_line_is s ∙ ap (λ z. z ++ newline ∷ []) (sym x.is)))
          ∙ regroup (header r.places) (all_lines r.entries) (number_line (codes "done") (task ∷ calls ∷ (length r.trace + suc left) ∷ [])) (step_lines r.trace) (line ++ newline ∷ []);
    })
  where
    regroup : (a b c d x : List ℕ) → a ++ (b ++ (c ++ (d ++ x))) ≡ (a ++ (b ++ (c ++ d))) ++ x
    regroup a b c d x = ap (λ z. a ++ (b ++ z)) (sym (append_assoc c d x)) ∙ ap (λ z. a ++ z) (sym (append_assoc b (c ++ d) x)) ∙ sym (append_assoc a (b ++ (c ++ d)) x)

output_taken : (task calls : ℕ) (r : Reader) (line : List ℕ) → InTrace task calls 0 r → IfSome (after_output task calls line r) (IsAfter r.places (text_at (T.Trace task calls 0) r) line)
output_taken task calls r line h = by_word_holds (output_by task calls r) line (IsAfter r.places (text_at (T.Trace task calls 0) r) line) (λ word rest alone e.
    cond_holds (bytes_eq word (codes "output")) _ None (IsAfter r.places (text_at (T.Trace task calls 0) r) line) (λ w.
    bind_holds (output_in rest) _ (IsOutput rest) (IsAfter r.places (text_at (T.Trace task calls 0) r) line) (output_holds rest) (λ out x.
    let all : length r.trace + 0 ≡ length r.trace = omega arith in
    let is : text_line (codes "output ") (quoted out) ≡ line ++ newline ∷ [] = sym (ap (λ z. z ++ newline ∷ []) (e ∙ ap (λ z. z ++ space ∷ rest) (same_bytes word (codes "output") w) ∙ ap (λ z. codes "output" ++ space ∷ z) x.is)) in
    record {
      same = refl;
      good = record { told = h.told; task_small = h.task_small; calls_small = h.calls_small; items = omega (arith, all, h.items); steps = h.steps; utf8 = x.utf8 };
      adds =
          ap (λ n. header r.places ++ (all_lines r.entries ++ (number_line (codes "done") (task ∷ calls ∷ n ∷ []) ++ (step_lines r.trace ++ text_line (codes "output ") (quoted out))))) (sym all)
          ∙ ap (λ z. header r.places ++ (all_lines r.entries ++ (number_line (codes "done") (task ∷ calls ∷ (length r.trace + 0) ∷ []) ++ (step_lines r.trace ++ z)))) is
          ∙ regroup (header r.places) (all_lines r.entries) (number_line (codes "done") (task ∷ calls ∷ (length r.trace + 0) ∷ [])) (step_lines r.trace) (line ++ newline ∷ []);
    }))
    (λ w. tt))
  where
    regroup : (a b c d x : List ℕ) → a ++ (b ++ (c ++ (d ++ x))) ≡ (a ++ (b ++ (c ++ d))) ++ x
    regroup a b c d x = ap (λ z. a ++ (b ++ z)) (sym (append_assoc c d x)) ∙ ap (λ z. a ++ z) (sym (append_assoc b (c ++ d) x)) ∙ sym (append_assoc a (b ++ (c ++ d)) x)

traced_zero : (task calls : ℕ) (line : List ℕ) (r : Reader) → after_traced task calls 0 line r ≡ after_output task calls line r
traced_zero task calls line r = refl

pub traced_more : (task calls left : ℕ) (line : List ℕ) (r : Reader) → after_traced task calls (suc left) line r ≡ after_step task calls left line r
traced_more task calls left line r =
    let no : nat_eq (suc left) 0 ≡ false = grind arith in
    let less : suc left - 1 ≡ left = omega arith in
    ap (λ b. cond b (after_output task calls line r) (after_step task calls (suc left - 1) line r)) no ∙ ap (λ n. after_step task calls n line r) less

traced_taken : (task calls left : ℕ) (r : Reader) (line : List ℕ) → InTrace task calls left r → IfSome (after_traced task calls left line r) (IsAfter r.places (text_at (T.Trace task calls left) r) line)
traced_taken task calls zero r line h = output_taken task calls r line h
traced_taken task calls (suc left) r line h = subst (λ o. IfSome o (IsAfter r.places (text_at (T.Trace task calls (suc left)) r) line)) (sym (traced_more task calls left line r)) (step_taken task calls left r line h)

outcome_taken : (task calls : ℕ) (r : Reader) (line : List ℕ) → AtOutcome task calls r → lacks newline line ≡ true → IfSome (after_outcome task calls line r) (IsAfter r.places (text_at (T.Outcome task calls) r) line)
outcome_taken task calls r line h free = bind_holds (ending_in line) _ (IsEndingOf line) (IsAfter r.places (text_at (T.Outcome task calls) r) line) (ending_holds line free) (λ e x.
    record {
      same = refl;
      good = record {
        told = entries_append r.places r.entries (E.Done task calls r.trace r.output e) h.told (record { task_small = h.task_small; calls_small = h.calls_small; items = h.items; steps = h.steps; utf8 = h.utf8; ends = x.fits });
        no_trace = refl;
      };
      adds =
          ap (λ z. header r.places ++ z) (all_lines_append r.entries (E.Done task calls r.trace r.output e ∷ []) ∙ ap (λ z. all_lines r.entries ++ z) (append-nil (entry_lines (E.Done task calls r.trace r.output e))))
          ∙ ap (λ z. header r.places ++ (all_lines r.entries ++ (number_line (codes "done") (task ∷ calls ∷ length r.trace ∷ []) ++ (step_lines r.trace ++ (text_line (codes "output ") (quoted r.output) ++ z))))) (ending_line_is e ∙ ap (λ z. z ++ newline ∷ []) (sym x.is))
          ∙ regroup (header r.places) (all_lines r.entries) (number_line (codes "done") (task ∷ calls ∷ length r.trace ∷ [])) (step_lines r.trace) (text_line (codes "output ") (quoted r.output)) (line ++ newline ∷ []);
    })
  where
    regroup : (a b c d y x : List ℕ) → a ++ (b ++ (c ++ (d ++ (y ++ x)))) ≡ (a ++ (b ++ (c ++ (d ++ y)))) ++ x
    regroup a b c d y x =
        ap (λ z. a ++ (b ++ (c ++ z))) (sym (append_assoc d y x)) ∙ ap (λ z. a ++ (b ++ z)) (sym (append_assoc c (d ++ y) x))
        ∙ ap (λ z. a ++ z) (sym (append_assoc b (c ++ (d ++ y)) x)) ∙ sym (append_assoc a (b ++ (c ++ (d ++ y))) x)

line_taken : (st : Stage) (r : Reader) (line : List ℕ) → IsGoodAt st r → lacks newline line ≡ true → IfSome (after_line st line r) (IsAfter r.places (text_at st r) line)
line_taken T.Header r line h free = header_taken r line h
line_taken T.Begin r line h free = begin_taken r line h
line_taken T.Entry r line h free = entry_taken r line h free
line_taken (T.Trace task calls left) r line h free = traced_taken task calls left r line h
line_taken (T.Outcome task calls) r line h free = outcome_taken task calls r line h free
line_taken T.Nothing r line h free = tt

pub taken : (r : Reader) (line : List ℕ) → IsGoodAt r.stage r → lacks newline line ≡ true → IfSome (next line r) (IsAfter r.places (text_at r.stage r) line)
taken r line h free = line_taken r.stage r line h free
