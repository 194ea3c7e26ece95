-- Whole texts: that of entries is read as these, and of another one line is the first that is bad.
use Rattle.std.proofs.Common.{◌≡◌, ◌∙◌, sym, refl, ap, subst, ℕ, ◌+◌, ◌<◌, ◌≤◌, arith, Bool, true, false, not, cond, nat_eq, nat_lt, codes, List, [], ◌∷◌, ◌++◌, length, length-append, Option, None, Some, Result, Ok, Err, append_assoc, append-nil, decimal}
use Rattle.std.proofs.lemmas.Option.{none-some, same_Some}
use Rattle.jl_model.specs.declared.limits.TheConstants.{MOST_FUEL}
use Rattle.jl_report.specs.declared.entry.Entry.{Entry}
use Rattle.jl_report.specs.declared.entry.Entry.TheVariants as E
use Rattle.jl_report.specs.HistoryText.{newline, spaced, entry_lines, all_lines, first_line, header, entries_text}
use Rattle.jl_history.specs.declared.fault.HistoryFault.{HistoryFault}
use Rattle.jl_history.specs.declared.fault.HistoryFault.TheVariants.{BadText, Memory}
use Rattle.jl_history.specs.declared.fields.TheConstants.{MOST_NUMBER}
use Rattle.jl_history.specs.declared.reader.Reader.{Reader}
use Rattle.jl_history.specs.declared.reader.Stage.{Stage}
use Rattle.jl_history.specs.declared.reader.Stage.TheVariants as T
use Rattle.jl_history.specs.Form.{lacks, joined, AreLines, AreLater, AreFirst, AreEntries, IsBegun, IsFirstBad, Tells, UnlessMemory}
use Rattle.jl_history.specs.Fields.{◌>>=◌, cut}
use Rattle.jl_history.specs.Reading.{fresh, with_stage, with_entry, begun_by, after_fields, Moves, next, has_last, is_finished}
use Rattle.jl_history.proofs.OptionLemmas.{holds_at, and_true}
use Rattle.jl_history.proofs.CutLemmas.{cut_again, cut_none, cut_some, lacks_parts}
use Rattle.jl_history.proofs.NumberLemmas.{number_again}
use Rattle.jl_history.proofs.LineLemmas.{by_word_again, one_spaced, number_line_is, words_lack}
use Rattle.jl_history.proofs.StateLemmas.{AtEntry, IsGoodAt, text_at, goes_on, goes_on_start, few_entries, fresh_good, begun_less}
use Rattle.jl_history.proofs.StepLemmas.{IsAfter, taken}
use Rattle.jl_history.proofs.RunLemmas.{run, run_append, joined_append, lines_append, lines_of, joined_entry, entry_free, entry_run, at_entry}

-- ---- the lines of a text of entries

abbrev later_lines : List Entry → List (List ℕ)
later_lines [] = []
later_lines (e ∷ es) = lines_of e ++ later_lines es

joined_later : (es : List Entry) → joined (later_lines es) ≡ all_lines es
joined_later [] = refl
joined_later (e ∷ es) = joined_append (lines_of e) (later_lines es) ∙ ap (λ z. z ++ joined (later_lines es)) (joined_entry e) ∙ ap (λ z. entry_lines e ++ z) (joined_later es)

later_free : (places : Bool) (es : List Entry) → AreLater places es → AreLines (later_lines es)
later_free places [] h = tt
later_free places (e ∷ es) (h, hs) = lines_append (lines_of e) (later_lines es) (entry_free places e h) (later_free places es hs)

later_run : (places : Bool) (before es : List Entry) → AreLater places es → run (later_lines es) (at_entry places before) ≡ Some (at_entry places (before ++ es))
later_run places before [] h = ap (λ z. Some (at_entry places z)) (sym (append-nil before))
later_run places before (e ∷ es) (h, hs) =
    run_append (lines_of e) (later_lines es) (at_entry places before)
    ∙ ap (λ o. o >>= λ r. run (later_lines es) r) (entry_run places before e h)
    ∙ later_run places (before ++ e ∷ []) es hs
    ∙ ap (λ z. Some (at_entry places z)) (append_assoc before (e ∷ []) es)

abbrev end_words : ℕ → List ℕ
end_words n = codes "end" ++ spaced (n ∷ [])

abbrev pub text_lines : Bool → List Entry → List (List ℕ)
text_lines places [] = []
text_lines places (e ∷ es) = first_line places ∷ (later_lines (e ∷ es) ++ end_words (length (e ∷ es)) ∷ [])

pub joined_text : (places : Bool) (es : List Entry) → AreFirst places es → joined (text_lines places es) ≡ entries_text places es
joined_text places [] h = absurd h
joined_text places (e ∷ es) h = sym (append_assoc (first_line places) (newline ∷ []) _) ∙ ap (λ z. header places ++ z) (
    joined_append (later_lines (e ∷ es)) (end_words (length (e ∷ es)) ∷ [])
    ∙ ap (λ z. z ++ (end_words (length (e ∷ es)) ++ newline ∷ [])) (joined_later (e ∷ es))
    ∙ ap (λ z. all_lines (e ∷ es) ++ z) (sym (number_line_is (codes "end") (length (e ∷ es) ∷ []))))

header_run : (places : Bool) → next (first_line places) (fresh places) ≡ Some (with_stage (fresh places) T.Begin)
header_run true = refl
header_run false = refl

begin_run : (places : Bool) (fuel : ℕ) → fuel ≤ MOST_FUEL → next (codes "begin" ++ spaced (fuel ∷ [])) (with_stage (fresh places) T.Begin) ≡ Some (at_entry places (E.Begin fuel ∷ []))
begin_run places fuel l =
    ap (λ z. next (codes "begin" ++ z) (with_stage (fresh places) T.Begin)) (one_spaced fuel)
    ∙ by_word_again (begun_by (with_stage (fresh places) T.Begin)) (codes "begin") (decimal fuel) refl
    ∙ ap (λ o. o >>= λ n. Some (with_entry (with_stage (fresh places) T.Begin) (E.Begin n))) (number_again MOST_FUEL fuel l (omega arith))

same_true : (n : ℕ) → nat_eq n n ≡ true
same_true n = grind arith

end_run : (places : Bool) (es : List Entry) → length es ≤ MOST_NUMBER → next (end_words (length es)) (at_entry places es) ≡ Some (with_stage (at_entry places es) T.Nothing)
end_run places es l =
    ap (λ z. next (codes "end" ++ z) (at_entry places es)) (one_spaced (length es))
    ∙ by_word_again (after_fields (at_entry places es)) (codes "end") (decimal (length es)) refl
    ∙ ap (λ o. o >>= λ n. cond (nat_eq n (length es)) (Some (with_stage (at_entry places es) T.Nothing)) None) (number_again MOST_NUMBER (length es) l (omega arith))
    ∙ ap (λ b. cond b (Some (with_stage (at_entry places es) T.Nothing)) None) (same_true (length es))

-- the text of entries is read as these
pub whole_run : (places : Bool) (es : List Entry) → AreFirst places es → length es ≤ MOST_NUMBER → run (text_lines places es) (fresh places) ≡ Some (with_stage (at_entry places es) T.Nothing)
whole_run places [] h l = absurd h
whole_run places (E.Begin fuel ∷ es) (h, hs) l =
    ap (λ o. o >>= λ r. run (later_lines (E.Begin fuel ∷ es) ++ end_words (length (E.Begin fuel ∷ es)) ∷ []) r) (header_run places)
    ∙ ap (λ o. o >>= λ r. run (later_lines es ++ end_words (length (E.Begin fuel ∷ es)) ∷ []) r) (begin_run places fuel h)
    ∙ run_append (later_lines es) (end_words (length (E.Begin fuel ∷ es)) ∷ []) (at_entry places (E.Begin fuel ∷ []))
    ∙ ap (λ o. o >>= λ r. run (end_words (length (E.Begin fuel ∷ es)) ∷ []) r) (later_run places (E.Begin fuel ∷ []) es hs)
    ∙ ap (λ o. o >>= λ r. run [] r) (end_run places (E.Begin fuel ∷ es) l)
whole_run places (E.Key number function tuple ∷ es) (h, hs) l = absurd h
whole_run places (E.Fill key site first ∷ es) (h, hs) l = absurd h
whole_run places (E.Def task site ∷ es) (h, hs) l = absurd h
whole_run places (E.Del task place ∷ es) (h, hs) l = absurd h
whole_run places (E.Spawn task child place ∷ es) (h, hs) l = absurd h
whole_run places (E.Done task calls trace output ending ∷ es) (h, hs) l = absurd h

first_free : (places : Bool) → lacks newline (first_line places) ≡ true
first_free true = refl
first_free false = refl

text_free : (places : Bool) (es : List Entry) → AreFirst places es → length es ≤ MOST_NUMBER → AreLines (text_lines places es)
text_free places [] h l = absurd h
text_free places (E.Begin fuel ∷ es) (h, hs) l =
    (first_free places, (words_lack (codes "begin") (fuel ∷ []) refl (omega (arith, h), tt), lines_append (later_lines es) (end_words (length (E.Begin fuel ∷ es)) ∷ []) (later_free places es hs) (words_lack (codes "end") (length (E.Begin fuel ∷ es) ∷ []) refl (omega (arith, l), tt), tt)))
text_free places (E.Key number function tuple ∷ es) (h, hs) l = absurd h
text_free places (E.Fill key site first ∷ es) (h, hs) l = absurd h
text_free places (E.Def task site ∷ es) (h, hs) l = absurd h
text_free places (E.Del task place ∷ es) (h, hs) l = absurd h
text_free places (E.Spawn task child place ∷ es) (h, hs) l = absurd h
text_free places (E.Done task calls trace output ending ∷ es) (h, hs) l = absurd h

-- ---- lines are determined by a text

-- a cut text
abbrev cut_into : List ℕ × List ℕ → Option (List ℕ × List ℕ)
cut_into p = Some p

tail_none : (l : List ℕ) (rest : List ℕ) → [] ≡ l ++ newline ∷ rest → ⊥
tail_none l rest e = (let n : 0 ≡ length (l ++ newline ∷ rest) = ap length e in omega (arith, n, length-append l (newline ∷ rest)))

-- the lines of a text begin with those that its front is made of
pub record Begins (ls ms : List (List ℕ)) (rest : List ℕ) : Type 0 where
  pub later : List (List ℕ)
  pub is : ms ≡ ls ++ later
  pub joins : rest ≡ joined later
  pub free : AreLines later

one_more : (l m : List ℕ) (ls ms : List (List ℕ)) (rest : List ℕ) → m ≡ l → Begins ls ms rest → Begins (l ∷ ls) (m ∷ ms) rest
one_more l m ls ms rest e b = record { later = b.later; is = ap (λ z. z ∷ ms) e ∙ ap (λ z. l ∷ z) b.is; joins = b.joins; free = b.free }

pub begins : (ls ms : List (List ℕ)) (rest : List ℕ) → AreLines ls → AreLines ms → joined ms ≡ joined ls ++ rest → Begins ls ms rest
begins [] ms rest h k e = record { later = ms; is = refl; joins = sym e; free = k }
begins (l ∷ ls) [] rest h k e = absurd (tail_none l (joined ls ++ rest) (e ∙ append_assoc l (newline ∷ joined ls) rest))
begins (l ∷ ls) (m ∷ ms) rest (h, hs) (k, ks) e =
    let cuts : cut_into (m, joined ms) ≡ Some (l, joined ls ++ rest) =
    sym (cut_again newline m (joined ms) k) ∙ ap (cut newline) (e ∙ append_assoc l (newline ∷ joined ls) rest) ∙ cut_again newline l (joined ls ++ rest) h in
    let pair = same_Some {A = List ℕ × List ℕ} (m, joined ms) (l, joined ls ++ rest) cuts in
    one_more l m ls ms rest (ap (λ p. p.0) pair) (begins ls ms rest hs ks (ap (λ p. p.1) pair))

-- ---- what was reached

-- so many lines were taken, and the reader has what they tell
pub record IsReached (places : Bool) (text rest : List ℕ) (number : ℕ) (r : Reader) : Type 0 where
  pub same : r.places ≡ places
  pub lines : List (List ℕ)
  pub count : number ≡ length lines + 1
  pub free : AreLines lines
  pub parts : text ≡ joined lines ++ rest
  pub ran : run lines (fresh places) ≡ Some r
  pub good : IsGoodAt r.stage r
  pub read : text_at r.stage r ≡ joined lines

pub reached_first : (places : Bool) (text : List ℕ) → IsReached places text text 1 (fresh places)
reached_first places text = record { same = refl; lines = []; count = refl; free = tt; parts = refl; ran = refl; good = fresh_good places; read = refl }

joined_one : (ls : List (List ℕ)) (line rest : List ℕ) → joined (ls ++ line ∷ []) ++ rest ≡ joined ls ++ (line ++ newline ∷ rest)
joined_one ls line rest =
    ap (λ z. z ++ rest) (joined_append ls (line ∷ []))
    ∙ append_assoc (joined ls) (line ++ newline ∷ []) rest
    ∙ ap (λ z. joined ls ++ z) (append_assoc line (newline ∷ []) rest)

-- a line was taken
pub reached_more : (places : Bool) (text rest line after : List ℕ) (number : ℕ) (r s : Reader) → IsReached places text rest number r → cut newline rest ≡ Some (line, after) → next line r ≡ Some s → IsReached places text after (number + 1) s
reached_more places text rest line after number r s h e n =
    let c = cut_some newline rest line after e in
    let t : IsAfter r.places (text_at r.stage r) line s = holds_at (next line r) s (IsAfter r.places (text_at r.stage r) line) (taken r line h.good c.free) n in
    record {
      same = t.same ∙ h.same;
      lines = h.lines ++ line ∷ [];
      count = omega (arith, h.count, length-append h.lines (line ∷ []));
      free = lines_append h.lines (line ∷ []) h.free (c.free, tt);
      parts = h.parts ∙ ap (λ z. joined h.lines ++ z) c.parts ∙ sym (joined_one h.lines line after);
      ran = run_append h.lines (line ∷ []) (fresh places) ∙ ap (λ o. o >>= λ q. run (line ∷ []) q) h.ran ∙ ap (λ o. o >>= λ q. run [] q) n;
      good = t.good;
      read = t.adds ∙ ap (λ z. z ++ (line ++ newline ∷ [])) h.read ∙ sym (joined_append h.lines (line ∷ []));
    }

joined_long : (ls : List (List ℕ)) → length ls ≤ length (joined ls)
joined_long [] = omega arith
joined_long (l ∷ ls) = omega (arith, length-append l (newline ∷ joined ls), joined_long ls)

-- no more lines than bytes
pub reached_few : (places : Bool) (text rest : List ℕ) (number : ℕ) (r : Reader) → IsReached places text rest number r → number + length rest ≤ length text + 1
reached_few places text rest number r h = omega (arith, h.count, joined_long h.lines, ap length h.parts, length-append (joined h.lines) rest)

-- what was taken so far goes on
viable : (places : Bool) (text rest : List ℕ) (number : ℕ) (r : Reader) → length text < MOST_NUMBER → (h : IsReached places text rest number r) → IsBegun places (joined h.lines)
viable places text rest number r l h =
    let few : length r.entries < MOST_NUMBER =
    omega (arith, l, few_entries r.stage r h.good, ap length h.read, ap length h.parts, length-append (joined h.lines) rest) in
    subst (λ p. IsBegun p (joined h.lines)) h.same (subst (IsBegun r.places) h.read (goes_on r.stage r few h.good))

-- a text of entries takes what was taken, and reads the rest from there
pub record Passes (places : Bool) (es : List Entry) (rest : List ℕ) (r : Reader) : Type 0 where
  pub later : List (List ℕ)
  pub free : AreLines later
  pub joins : rest ≡ joined later
  pub runs : run later r ≡ Some (with_stage (at_entry places es) T.Nothing)

pub passes : (places : Bool) (es : List Entry) (ls : List (List ℕ)) (rest : List ℕ) (r : Reader) → AreEntries places es → AreLines ls → run ls (fresh places) ≡ Some r → entries_text places es ≡ joined ls ++ rest → Passes places es rest r
passes places es ls rest r (h, l) free ran e =
    let b : Begins ls (text_lines places es) rest = begins ls (text_lines places es) rest free (text_free places es h l) (joined_text places es h ∙ e) in
    record {
      later = b.later;
      free = b.free;
      joins = b.joins;
      runs = sym (ap (λ o. o >>= λ s. run b.later s) ran) ∙ sym (run_append ls b.later (fresh places)) ∙ ap (λ z. run z (fresh places)) (sym b.is) ∙ whole_run places es h l;
    }

-- ---- the first bad line

refused : (line more : List ℕ) (r t : Reader) (later : List (List ℕ)) → lacks newline line ≡ true → AreLines later → next line r ≡ None → line ++ newline ∷ more ≡ joined later → run later r ≡ Some t → ⊥
refused line more r t [] f free n e k = tail_none line more (sym e)
refused line more r t (m ∷ ms) f (free, frees) n e k =
    let cuts : cut_into (line, more) ≡ Some (m, joined ms) = sym (cut_again newline line more f) ∙ ap (cut newline) e ∙ cut_again newline m (joined ms) free in
    let same : line ≡ m = ap (λ p. p.0) (same_Some {A = List ℕ × List ℕ} (line, more) (m, joined ms) cuts) in
    let none : next m r ≡ None = ap (λ z. next z r) (sym same) ∙ n in
    none-some t (sym (ap (λ o. o >>= λ s. run ms s) none) ∙ k)

-- no text of entries has a line that is not taken after what was taken
never : (places : Bool) (lines : List (List ℕ)) (line : List ℕ) (r : Reader) → AreLines lines → lacks newline line ≡ true → run lines (fresh places) ≡ Some r → next line r ≡ None → IsBegun places (joined (lines ++ line ∷ [])) → ⊥
never places lines line r free f ran n b =
    let p : Passes places b.entries (line ++ newline ∷ b.more) r = passes places b.entries lines (line ++ newline ∷ b.more) r b.told free ran (b.goes_on ∙ joined_one lines line b.more) in
    refused line b.more r (with_stage (at_entry places b.entries) T.Nothing) p.later f p.free n p.joins p.runs

-- a whole line that is not taken
pub bad_line : (places : Bool) (text rest line after : List ℕ) (number : ℕ) (r : Reader) → length text < MOST_NUMBER → IsReached places text rest number r → cut newline rest ≡ Some (line, after) → next line r ≡ None → IsFirstBad places number text
bad_line places text rest line after number r l h e n =
    let c = cut_some newline rest line after e in
    record {
      before = h.lines;
      rest = rest;
      number = h.count;
      lines = h.free;
      parts = h.parts;
      good = viable places text rest number r l h;
      bad = λ other more f is b.
          let cuts : cut_into (line, after) ≡ Some (other, more) = sym e ∙ ap (cut newline) is ∙ cut_again newline other more f in
          let same : line ≡ other = ap (λ p. p.0) (same_Some {A = List ℕ × List ℕ} (line, after) (other, more) cuts) in
          never places h.lines line r h.free c.free h.ran n (subst (λ z. IsBegun places (joined (h.lines ++ z ∷ []))) (sym same) b);
      other = λ es told is.
          let p : Passes places es rest r = passes places es h.lines rest r told h.free h.ran (sym is ∙ h.parts) in
          refused line after r (with_stage (at_entry places es) T.Nothing) p.later c.free p.free n (sym c.parts ∙ p.joins) p.runs;
    }

-- what is left of a text of entries has lines, or all were taken
left_over : (rest : List ℕ) (r t : Reader) (later : List (List ℕ)) → lacks newline rest ≡ true → rest ≡ joined later → run later r ≡ Some t → (rest ≡ []) × (r ≡ t)
left_over rest r t [] f e k = (e, same_Some r t k)
left_over rest r t (m ∷ ms) f e k =
    let p = lacks_parts newline m (newline ∷ joined ms) (ap (lacks newline) (sym e) ∙ f) in
    (let bad : false ≡ true = p.1 in cc)

-- the text is cut, or lines are missing
pub bad_end : (places : Bool) (text rest : List ℕ) (number : ℕ) (r : Reader) → length text < MOST_NUMBER → IsReached places text rest number r → cut newline rest ≡ None → is_finished r.stage rest ≡ false → IsFirstBad places number text
bad_end places text rest number r l h e n =
    let free : lacks newline rest ≡ true = cut_none newline rest e in
    record {
      before = h.lines;
      rest = rest;
      number = h.count;
      lines = h.free;
      parts = h.parts;
      good = viable places text rest number r l h;
      bad = λ line more f is b. none-some (line, more) (sym e ∙ ap (cut newline) is ∙ cut_again newline line more f);
      other = λ es told is.
          let p : Passes places es rest r = passes places es h.lines rest r told h.free h.ran (sym is ∙ h.parts) in
          let q = left_over rest r (with_stage (at_entry places es) T.Nothing) p.later free p.joins p.runs in
          (let bad : true ≡ false = sym (ap (λ z. is_finished r.stage z) q.0 ∙ ap (λ z. is_finished z.stage []) q.1) ∙ n in cc);
    }

finished_is : (st : Stage) → has_last st ≡ true → st ≡ T.Nothing
finished_is T.Header h = (let bad : false ≡ true = h in cc)
finished_is T.Begin h = (let bad : false ≡ true = h in cc)
finished_is T.Entry h = (let bad : false ≡ true = h in cc)
finished_is (T.Trace task calls left) h = (let bad : false ≡ true = h in cc)
finished_is (T.Outcome task calls) h = (let bad : false ≡ true = h in cc)
finished_is T.Nothing h = refl

empty_is : (rest : List ℕ) → nat_eq (length rest) 0 ≡ true → rest ≡ []
empty_is [] h = refl
empty_is (b ∷ bs) h = absurd (let no : nat_eq (length (b ∷ bs)) 0 ≡ false = grind arith in let bad : true ≡ false = sym h ∙ no in not_both bad)
  where
    not_both : true ≡ false → ⊥
    not_both e = cc

-- all was taken
pub good_end : (places : Bool) (text rest : List ℕ) (number : ℕ) (r : Reader) → length text < MOST_NUMBER → IsReached places text rest number r → is_finished r.stage rest ≡ true → AreEntries places r.entries × (text ≡ entries_text places r.entries)
good_end places text rest number r l h f =
    let both = and_true (nat_eq (length rest) 0) (has_last r.stage) f in
    let e : rest ≡ [] = empty_is rest both.0 in
    let at : r.stage ≡ T.Nothing = finished_is r.stage both.1 in
    let good : AtEntry r = subst (λ z. IsGoodAt z r) at h.good in
    let few : length r.entries ≤ MOST_NUMBER =
    omega (arith, l, few_entries r.stage r h.good, ap length h.read, ap length h.parts, length-append (joined h.lines) rest) in
    let told : AreEntries r.places r.entries = (good.told, few) in
    let is : text ≡ entries_text r.places r.entries = h.parts ∙ ap (λ z. joined h.lines ++ z) e ∙ append-nil (joined h.lines) ∙ sym h.read ∙ ap (λ z. text_at z r) at in
    (subst (λ p. AreEntries p r.entries) h.same told, subst (λ p. text ≡ entries_text p r.entries) h.same is)

-- ---- laws

abbrev entries_in : Option Reader → List Entry
entries_in None = []
entries_in (Some r) = r.entries

pub one_text : (places : Bool) (xs ys : List Entry) → AreEntries places xs → AreEntries places ys → entries_text places xs ≡ entries_text places ys → xs ≡ ys
one_text places xs ys (h, l) (k, m) e =
    let b : Begins (text_lines places xs) (text_lines places ys) [] = begins (text_lines places xs) (text_lines places ys) [] (text_free places xs h l) (text_free places ys k m) (joined_text places ys k ∙ sym e ∙ sym (joined_text places xs h) ∙ sym (append-nil (joined (text_lines places xs)))) in
    let same : text_lines places ys ≡ text_lines places xs = b.is ∙ ap (λ z. text_lines places xs ++ z) (no_lines b.later b.joins) ∙ append-nil (text_lines places xs) in
    ap entries_in (sym (whole_run places xs h l) ∙ ap (λ z. run z (fresh places)) (sym same) ∙ whole_run places ys k m)
  where
    no_lines : (ls : List (List ℕ)) → [] ≡ joined ls → ls ≡ []
    no_lines [] e = refl
    no_lines (l ∷ ls) e = absurd (tail_none l (joined ls) e)

-- the lines of a text begin with fewer of them
pub record Starts (ls ms : List (List ℕ)) (a b : List ℕ) : Type 0 where
  pub line : List ℕ
  pub later : List (List ℕ)
  pub is : ms ≡ ls ++ line ∷ later
  pub free : lacks newline line ≡ true
  pub joins : b ≡ line ++ newline ∷ (joined later ++ a)

start_more : (l m : List ℕ) (ls ms : List (List ℕ)) (a b : List ℕ) → m ≡ l → Starts ls ms a b → Starts (l ∷ ls) (m ∷ ms) a b
start_more l m ls ms a b e s = record { line = s.line; later = s.later; is = ap (λ z. z ∷ ms) e ∙ ap (λ z. l ∷ z) s.is; free = s.free; joins = s.joins }

starts : (ls ms : List (List ℕ)) (a b : List ℕ) → AreLines ls → AreLines ms → length ls < length ms → joined ms ++ a ≡ joined ls ++ b → Starts ls ms a b
starts ls [] a b h k n e = absurd (omega (arith, n))
starts [] (m ∷ ms) a b h (k, ks) n e = record { line = m; later = ms; is = refl; free = k; joins = sym e ∙ append_assoc m (newline ∷ joined ms) a }
starts (l ∷ ls) (m ∷ ms) a b (h, hs) (k, ks) n e =
    let cuts : cut_into (m, joined ms ++ a) ≡ Some (l, joined ls ++ b) =
    sym (cut_again newline m (joined ms ++ a) k) ∙ ap (cut newline) (sym (append_assoc m (newline ∷ joined ms) a) ∙ e ∙ append_assoc l (newline ∷ joined ls) b) ∙ cut_again newline l (joined ls ++ b) h in
    let pair = same_Some {A = List ℕ × List ℕ} (m, joined ms ++ a) (l, joined ls ++ b) cuts in
    start_more l m ls ms a b (ap (λ p. p.0) pair) (starts ls ms a b hs ks (omega (arith, n)) (ap (λ p. p.1) pair))

-- a line before the first bad line is not bad
sooner : (places : Bool) (text : List ℕ) (m n : ℕ) → IsFirstBad places m text → IsFirstBad places n text → m < n → ⊥
sooner places text m n x y l =
    let s : Starts x.before y.before y.rest x.rest = starts x.before y.before y.rest x.rest x.lines y.lines (omega (arith, l, x.number, y.number)) (sym y.parts ∙ x.parts) in
    let more : joined y.before ≡ joined (x.before ++ s.line ∷ []) ++ joined s.later =
    ap joined (s.is ∙ sym (append_assoc x.before (s.line ∷ []) s.later)) ∙ joined_append (x.before ++ s.line ∷ []) s.later in
    x.bad s.line (joined s.later ++ y.rest) s.free s.joins (begun_less places (joined (x.before ++ s.line ∷ [])) (joined s.later) (subst (IsBegun places) more y.good))

pub one_line : (places : Bool) (text : List ℕ) (m n : ℕ) → IsFirstBad places m text → IsFirstBad places n text → m ≡ n
one_line places text m n x y = by (nat_lt m n) (nat_lt n m) refl refl
  where
    by : (a b : Bool) → nat_lt m n ≡ a → nat_lt n m ≡ b → m ≡ n
    by true b e f = absurd (sooner places text m n x y (grind (arith, e)))
    by false true e f = absurd (sooner places text n m y x (grind (arith, f)))
    by false false e f = grind (arith, e, f)

-- ---- the other version

other_header : (places : Bool) → next (first_line (not places)) (fresh places) ≡ None
other_header true = refl
other_header false = refl

-- the first line of the other version is bad
pub other_version : (places : Bool) (rest : List ℕ) → IsFirstBad places 1 (header (not places) ++ rest)
other_version places rest =
    let line : List ℕ = first_line (not places) in
    let free : lacks newline line ≡ true = first_free (not places) in
    let parts : header (not places) ++ rest ≡ line ++ newline ∷ rest = append_assoc line (newline ∷ []) rest in
    record {
      before = [];
      rest = header (not places) ++ rest;
      number = refl;
      lines = tt;
      parts = refl;
      good = begun_less places [] (header places) (goes_on_start places);
      bad = λ other more f is b.
          let cuts : cut_into (line, rest) ≡ Some (other, more) = sym (cut_again newline line rest free) ∙ ap (cut newline) (sym parts ∙ is) ∙ cut_again newline other more f in
          let same : line ≡ other = ap (λ p. p.0) (same_Some {A = List ℕ × List ℕ} (line, rest) (other, more) cuts) in
          never places [] line (fresh places) tt free refl (other_header places) (subst (λ z. IsBegun places (joined (z ∷ []))) (sym same) b);
      other = λ es told is.
          let p : Passes places es (header (not places) ++ rest) (fresh places) = passes places es [] (header (not places) ++ rest) (fresh places) told tt refl (sym is) in
          refused line rest (fresh places) (with_stage (at_entry places es) T.Nothing) p.later free p.free (other_header places) (sym parts ∙ p.joins) p.runs;
    }

-- ---- nothing else is answered

pub only_read : (places : Bool) (text : List ℕ) (r : Result (List Entry) HistoryFault) → Tells places text r → (es : List Entry) → AreEntries places es → text ≡ entries_text places es → UnlessMemory r (Ok es)
only_read places text (Ok xs) t es h e = ap Ok (one_text places xs es t.0 h (sym t.1 ∙ e))
only_read places text (Err (BadText n)) t es h e = absurd (t.other es h e)
only_read places text (Err Memory) t es h e = tt

pub only_bad : (places : Bool) (text : List ℕ) (r : Result (List Entry) HistoryFault) → Tells places text r → (n : ℕ) → IsFirstBad places n text → UnlessMemory r (Err (BadText n))
only_bad places text (Ok xs) t n b = absurd (b.other xs t.0 t.1)
only_bad places text (Err (BadText m)) t n b = ap (λ z. Err (BadText z)) (one_line places text m n t b)
only_bad places text (Err Memory) t n b = tt

-- ---- what the code that takes lines needs

pub moved : (taken : Bool) (new : Reader) (due : Option Reader) → Moves taken new due → taken ≡ true → due ≡ Some new
moved taken new due h e = h ∙ ap (λ b. cond b (Some new) None) e

pub stayed : (taken : Bool) (new : Reader) (due : Option Reader) → Moves taken new due → taken ≡ false → due ≡ None
stayed taken new due h e = h ∙ ap (λ b. cond b (Some new) None) e
