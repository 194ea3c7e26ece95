-- From what is judged of entries to what is judged of a text.
use Rattle.std.proofs.Common.{◌≡◌, ◌∙◌, ap, sym, subst, refl, ℕ, ◌≤◌, arith, Bool, false, List, [], ◌∷◌, length, take, inl, inr, Ok, Err}
use Rattle.std.specs.List.{list_any}
use Rattle.jl_program.specs.declared.tree.Program.{Program}
use Rattle.jl_program.specs.Valid.{IsValid}
use Rattle.jl_calculus.specs.declared.history.Event.{Event}
use Rattle.jl_calculus.specs.declared.history.Event.TheVariants as Ev
use Rattle.jl_calculus.specs.Legal.{IsLegal}
use Rattle.jl_report.specs.declared.entry.Entry.{Entry}
use Rattle.jl_report.specs.declared.entry.Entry.TheVariants as E
use Rattle.jl_report.specs.HistoryText.{entries_of, entries_text, has_places}
use Rattle.jl_history.specs.declared.fault.HistoryFault.TheVariants.{BadText}
use Rattle.jl_history.specs.declared.history.TheConstants.{MOST_HISTORY_BYTES}
use Rattle.jl_history.specs.Form.{AreLater, AreFirst, AreEntries, IsFirstBad, UnlessMemory}
use Rattle.jl_history.proofs.WholeLemmas.{one_text}
use Rattle.jl_history.specs.Numbered.{IsNumbered}
use Rattle.jl_history.proofs.EntryTexts.{legal_entries}
use Rattle.jl_causes.specs.declared.cause.Cause.{Cause}
use Rattle.jl_causes.specs.declared.cause.Cause.TheVariants.{RunDiffers}
use Rattle.jl_causes.specs.Sketch.{Tells, AllTell}
use Rattle.jl_causes.specs.Causes.{is_begin, StartWell, IsFreeOf, HasNoCause, IsFirstCause}
use Rattle.jl_causes.specs.Laws.{AreApart}
use Rattle.jl_causes.proofs.SketchLemmas.{tell_take}
use Rattle.jl_causes.proofs.LegalLemmas.{legal_has_no_cause}
use Rattle.jl_causes.specs.KeyLaws.{KeysApart}
use Rattle.jl_replay.specs.declared.verdict.Verdict.{Verdict}
use Rattle.jl_replay.specs.declared.verdict.Verdict.TheVariants as V
use Rattle.jl_replay.specs.Differs.{AreLegalEntries}
use Rattle.jl_replay.specs.Following.{IsDifference}
use Rattle.jl_replay.specs.Verdict.{IsBadText, IsVerdict, AreRead, AreJudgedSo}
use Rattle.jl_replay.proofs.Lists.{entries_length}

pub apart_of : KeysApart → (P : Program) → IsValid P → AreApart P
apart_of law P valid function tuple a b x y = law P valid a b x.proper y.proper (x.by_function ∙ sym y.by_function) (x.by_types ∙ sym y.by_types)

-- ---- entries of the form begin well

module _ (places : Bool) where
  later_begin : (xs : List Entry) → AreLater places xs → list_any is_begin xs ≡ false
  later_begin [] h = refl
  later_begin (E.Begin fuel ∷ xs) h = absurd h.0
  later_begin (E.Key number function tuple ∷ xs) h = later_begin xs h.1
  later_begin (E.Fill key site first ∷ xs) h = later_begin xs h.1
  later_begin (E.Def task site ∷ xs) h = later_begin xs h.1
  later_begin (E.Del task place ∷ xs) h = later_begin xs h.1
  later_begin (E.Spawn task child place ∷ xs) h = later_begin xs h.1
  later_begin (E.Done task calls trace output ending ∷ xs) h = later_begin xs h.1

  pub well_of : (xs : List Entry) → AreFirst places xs → StartWell xs
  well_of [] h = absurd h
  well_of (E.Begin fuel ∷ xs) h = (h.0, later_begin xs h.1)
  well_of (E.Key number function tuple ∷ xs) h = absurd h.0
  well_of (E.Fill key site first ∷ xs) h = absurd h.0
  well_of (E.Def task site ∷ xs) h = absurd h.0
  well_of (E.Del task place ∷ xs) h = absurd h.0
  well_of (E.Spawn task child place ∷ xs) h = absurd h.0
  well_of (E.Done task calls trace output ending ∷ xs) h = absurd h.0

pub some_entry : (xs : List Entry) → StartWell xs → 1 ≤ length xs
some_entry [] h = absurd h
some_entry (x ∷ xs) h = omega arith

-- ---- no cause holds of the entries of a legal history

module _ (P : Program) (apart : AreApart P) where
  tells_one : (x : Entry) (e d : Event) → Tells P x e → Tells P x d → e ≡ d
  tells_one (E.Begin fuel) e d a b = a ∙ sym b
  tells_one (E.Key number function tuple) e d a b = a.2 ∙ ap Ev.Key (apart function tuple a.0 b.0 a.1 b.1) ∙ sym b.2
  tells_one (E.Fill key site first) e d a b = a ∙ sym b
  tells_one (E.Def task site) e d a b = a ∙ sym b
  tells_one (E.Del task place) e d a b = a ∙ sym b
  tells_one (E.Spawn task child place) e d a b = a ∙ sym b
  tells_one (E.Done task calls trace output ending) e d a b = a ∙ sym b

  all_one : (xs : List Entry) (es ds : List Event) → AllTell P xs es → AllTell P xs ds → es ≡ ds
  all_one [] es ds a b = a ∙ sym b
  all_one (x ∷ xs) [] ds a b = absurd a
  all_one (x ∷ xs) (e ∷ es) [] a b = absurd b
  all_one (x ∷ xs) (e ∷ es) (d ∷ ds) a b =
      let one : e ≡ d = tells_one x e d a.0 b.0 in
      let more : es ≡ ds = all_one xs es ds a.1 b.1 in
      λ i. one i ∷ more i

  pub cause_illegal : (all : List Entry) (n : ℕ) (cause : Cause) → IsFirstCause P all n cause → AreLegalEntries P all → ⊥
  cause_illegal all n cause f (es, legal, told) =
      let (ds, c) = subst (HasNoCause P) told (legal_has_no_cause P es apart legal.so_far.stand legal.so_far.traced legal.finished) in
      let same : f.before ≡ take n ds = all_one (take n all) f.before (take n ds) f.clean.told (tell_take P n all ds c.told) in
      f.least.holds (subst (λ past. IsFreeOf P all past cause f.entry) (sym same) (c.clean n f.entry f.there cause))

  pub judged_cause : (all : List Entry) (n : ℕ) (cause : Cause) → IsFirstCause P all n cause → AreJudgedSo P all (V.Illegal n cause)
  judged_cause all n cause f = (inl f, cause_illegal all n cause f)

-- ---- verdicts

pub judged_difference : (P : Program) (all : List Entry) (n : ℕ) → HasNoCause P all → IsDifference P all n → AreJudgedSo P all (V.Illegal n RunDiffers)
judged_difference P all n clean d = (inr (refl, clean, d.first), d.illegal)

pub are_read : (P : Program) (text : List ℕ) → IsValid P → IsNumbered P → length text ≤ MOST_HISTORY_BYTES → AreRead P text
are_read P text v n short es legal is = legal_entries P v n es legal (subst (λ t. length t ≤ MOST_HISTORY_BYTES) is short)

pub bad_is : (P : Program) (text : List ℕ) (line other : ℕ) → line ≡ other → AreRead P text → IsFirstBad (has_places P) line text → IsBadText P text other
bad_is P text line other same read first =
    subst (IsBadText P text) same (record { first = first; illegal = λ n l. first.other (entries_of P l.events) (read l.events l.legal l.is_text) l.is_text })

module _ (P : Program) (text : List ℕ) (all : List Entry) (form : AreEntries (has_places P) all) (is_text : text ≡ entries_text (has_places P) all) (read : AreRead P text) where
  pub verdict_is : (verdict : Verdict) → AreJudgedSo P all verdict → IsVerdict P text verdict
  verdict_is (V.Legal n) ((es, legal, told), many) =
      record { events = es; legal = legal; is_text = is_text ∙ ap (entries_text (has_places P)) (sym told); many = sym (entries_length P 0 es) ∙ ap length told ∙ many }
  verdict_is (V.BadText line) h = absurd h
  verdict_is (V.Illegal n cause) h =
      record {
        all = all;
        form = form;
        is_text = is_text;
        holds = h.0;
        illegal = λ m l. h.1 (l.events, l.legal, one_text (has_places P) (entries_of P l.events) all (read l.events l.legal l.is_text) form (sym l.is_text ∙ is_text));
      }

-- what was read is what it is the text of
pub one_list : (xs ys : List Entry) → UnlessMemory (Ok xs) (Ok ys) → ys ≡ xs
one_list xs ys h = let z : Ok xs ≡ Ok ys = h in cc

-- what was read as entries has no bad line
pub not_bad : (line : ℕ) (xs : List Entry) → UnlessMemory (Err (BadText line)) (Ok xs) → ⊥
not_bad line xs h = let z : Err (BadText line) ≡ Ok xs = h in cc

-- a legal history is judged so
pub legal_judged : (P : Program) (all : List Entry) (es : List Event) (verdict : Verdict) → IsLegal P es → entries_of P es ≡ all → AreJudgedSo P all verdict → verdict ≡ V.Legal (length es)
legal_judged P all es (V.Legal n) legal told h = ap V.Legal (sym h.1 ∙ ap length (sym told) ∙ entries_length P 0 es)
legal_judged P all es (V.BadText line) legal told h = absurd h
legal_judged P all es (V.Illegal n cause) legal told h = absurd (h.1 (es, legal, told))
