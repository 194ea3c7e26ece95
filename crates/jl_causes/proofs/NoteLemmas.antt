-- What the judge knows after one more event.
use Rattle.std.proofs.Common.{◌≡◌, ◌∙◌, ap, sym, subst, refl, ℕ, ◌+◌, arith, false, List, [], ◌∷◌, ◌++◌, length, get_or, append-nil, Option, Some, None}
use Rattle.std.proofs.lemmas.List.{length_push}
use Rattle.jl_model.specs.declared.ty.Key.{Key}
use Rattle.jl_program.specs.declared.tree.Program.{Program}
use Rattle.jl_program.specs.declared.tree.Start.{Start}
use Rattle.jl_calculus.specs.declared.history.Change.{Change}
use Rattle.jl_calculus.specs.declared.history.Event.{Event}
use Rattle.jl_calculus.specs.declared.history.Event.TheVariants as Ev
use Rattle.jl_calculus.specs.Legal.{start_of, first_place, MayCome}
use Rattle.jl_calculus.specs.Past.{tasks_of, done_of, own_events}
use Rattle.jl_calculus.specs.Ranges.{keys_of, rows_of}
use Rattle.jl_calculus.specs.World.{changed, changes}
use Rattle.jl_calculus.proofs.GrowthLemmas.{changed_append, changes_append, keys_append, rows_append}
use Rattle.jl_world.proofs.Growth.{tasks_append, own_append, start_later}
use Rattle.jl_methods.specs.declared.index.Index.{Index}
use Rattle.jl_methods.specs.Indexed.{IsIndexOf, AreFilters, noted_in}
use Rattle.jl_report.specs.declared.entry.Entry.{Entry}
use Rattle.jl_report.specs.declared.entry.Entry.TheVariants as E
use Rattle.jl_causes.specs.declared.cause.Cause.TheVariants as C
use Rattle.jl_causes.specs.declared.places.Counts.{Counts}
use Rattle.jl_causes.specs.declared.tasks.Tasks.{Tasks}
use Rattle.jl_causes.specs.declared.rows.Rows.{Rows}
use Rattle.jl_causes.specs.declared.judge.Judge.{Judge}
use Rattle.jl_causes.specs.Causes.{IsClean}
use Rattle.jl_causes.specs.Judged.{IsReadAs, IsKeyIn, MayNote}
use Rattle.jl_causes.specs.Sketch.{Tells}
use Rattle.jl_causes.specs.Tables.{AreCounts, ArePlaces, AreTasks}
use Rattle.jl_causes.specs.Stands.{AreStanding}
use Rattle.jl_causes.specs.State.{AreRows, IsJudgeOf}
use Rattle.jl_causes.proofs.PlaceLemmas.{end_kept}
use Rattle.jl_causes.proofs.RowLemmas.{rows_with_other}
use Rattle.jl_causes.proofs.StandLemmas.{comes}
use Rattle.jl_causes.proofs.TaskLemmas.{begun_more, first_kept}

-- ---- counts

pub counts_same : (es : List Event) (e : Event) (c : Counts) → changed (e ∷ []) ≡ [] → tasks_of (e ∷ []) ≡ 1 → AreCounts es c → AreCounts (es ++ e ∷ []) c
counts_same es e c none one h = record {
  world = h.world ∙ ap (λ xs. 14 + length xs) (sym (changed_append es (e ∷ []) ∙ ap (λ xs. changed es ++ xs) none ∙ append-nil (changed es)));
  tasks = omega (arith, h.tasks, tasks_append es (e ∷ []), one);
}

-- an event that makes a change
pub counts_change : (es : List Event) (e : Event) (change : Change) (c d : Counts) → changed (e ∷ []) ≡ change ∷ [] → tasks_of (e ∷ []) ≡ 1 → d.world ≡ c.world + 1 → d.tasks ≡ c.tasks → AreCounts es c → AreCounts (es ++ e ∷ []) d
counts_change es e change c d made one w t h = record {
  world = omega (arith, w, h.world, ap length (changed_append es (e ∷ []) ∙ ap (λ xs. changed es ++ xs) made), length_push (changed es) change);
  tasks = omega (arith, t, h.tasks, tasks_append es (e ∷ []), one);
}

pub counts_spawn : (es : List Event) (by child : ℕ) (start : Start) (c d : Counts) → d.world ≡ c.world → d.tasks ≡ c.tasks + 1 → AreCounts es c → AreCounts (es ++ Ev.Spawn by child start ∷ []) d
counts_spawn es by child start c d w t h = record {
  world = w ∙ h.world ∙ ap (λ xs. 14 + length xs) (sym (changed_append es (Ev.Spawn by child start ∷ []) ∙ append-nil (changed es)));
  tasks = omega (arith, t, h.tasks, tasks_append es (Ev.Spawn by child start ∷ []));
}

-- ---- tables that an event leaves as they are

pub index_aside : (P : Program) (es : List Event) (e : Event) (i : Index) → changed (e ∷ []) ≡ [] → keys_of (e ∷ []) ≡ [] → rows_of (e ∷ []) ≡ [] → IsIndexOf P es i → IsIndexOf P (es ++ e ∷ []) i
index_aside P es e i sites keys rows h =
    subst (λ xs. AreFilters P xs (keys_of (es ++ e ∷ [])) (rows_of (es ++ e ∷ [])) (noted_in i)) (sym (changes_append es (e ∷ []) ∙ ap (λ xs. changes es ++ xs) sites ∙ append-nil (changes es)))
    (subst (λ xs. AreFilters P (changes es) xs (rows_of (es ++ e ∷ [])) (noted_in i)) (sym (keys_append es (e ∷ []) ∙ ap (λ xs. keys_of es ++ xs) keys ∙ append-nil (keys_of es)))
    (subst (λ xs. AreFilters P (changes es) (keys_of es) xs (noted_in i)) (sym (rows_append es (e ∷ []) ∙ ap (λ xs. rows_of es ++ xs) rows ∙ append-nil (rows_of es))) h))

pub record IsApart (e : Event) : Type 0 where
  pub one : tasks_of (e ∷ []) ≡ 1
  pub starts : (t : ℕ) → start_of t (e ∷ []) ≡ None
  pub begins : (t p : ℕ) → first_place t p (e ∷ []) ≡ 1
  pub ends : (t : ℕ) → done_of t (e ∷ []) ≡ None
  pub own : (t p : ℕ) → own_events t p (e ∷ []) ≡ []

pub tasks_aside : (es : List Event) (e : Event) (t : Tasks) → IsApart e → AreTasks es t → AreTasks (es ++ e ∷ []) t
tasks_aside es e t a h =
    let many : tasks_of (es ++ e ∷ []) ≡ tasks_of es = omega (arith, tasks_append es (e ∷ []), a.one) in
    record {
      begun = begun_more es e h.begun;
      many_firsts = h.many_firsts ∙ sym many;
      many_ends = h.many_ends ∙ sym many;
      many_own = h.many_own ∙ sym many;
      unstarted = λ k low. start_later k es (e ∷ []) (h.unstarted k (omega (arith, low, many))) ∙ a.starts k;
      each_first = λ k. h.each_first k ∙ sym (first_kept k 0 es e (a.begins k));
      each_end = λ k. end_kept es e k _ (a.ends k) (h.each_end k);
      each_own = λ k. h.each_own k ∙ sym (own_append k 0 es (e ∷ []) ∙ ap (λ xs. own_events k 0 es ++ xs) (a.own k (0 + length es)) ∙ append-nil (own_events k 0 es));
    }

pub key_apart : (key : Key) → IsApart (Ev.Key key)
key_apart key = record { one = refl; starts = λ t. refl; begins = λ t p. refl; ends = λ t. refl; own = λ t p. refl }

pub fill_apart : (key site first : ℕ) → IsApart (Ev.Fill key site first)
fill_apart key site first = record { one = refl; starts = λ t. refl; begins = λ t p. refl; ends = λ t. refl; own = λ t p. refl }

pub rows_aside : (P : Program) (es : List Event) (e : Event) (r : Rows) → changed (e ∷ []) ≡ [] → keys_of (e ∷ []) ≡ [] → rows_of (e ∷ []) ≡ [] → AreRows P es r → AreRows P (es ++ e ∷ []) r
rows_aside P es e r sites keys rows h = rows_with_other P es r r h e keys rows (index_aside P es e r.index sites keys rows h.indexed) refl refl
    (subst (λ cs. AreStanding P cs r.standing) (sym (changes_append es (e ∷ []) ∙ ap (λ xs. changes es ++ xs) sites ∙ append-nil (changes es))) h.standing)

-- ---- the judge

pub judge_more : (P : Program) (all : List Entry) (es : List Event) (e : Event) (j k : Judge) → k.finished ≡ j.finished → IsJudgeOf P all es j → AreRows P (es ++ e ∷ []) k.rows → AreTasks (es ++ e ∷ []) k.tasks → ArePlaces (es ++ e ∷ []) k.places
    → IsJudgeOf P all (es ++ e ∷ []) k
judge_more P all es e j k same h r t p = record {
  rows = r;
  tasks = t;
  places = p;
  many = ap (λ v. length v.items) same ∙ h.many;
  each = λ task l. ap (λ v. get_or v.items task false) same ∙ h.each task l;
}

-- ---- one more entry

module _ (P : Program) (all : List Entry) (es : List Event) (j : Judge) (x : Entry) (key : Option Key) where
  pub note_comes : MayNote P all es j x key → (e : Event) → Tells P x e → MayCome P es e
  note_comes m e t = comes P all es x e m.clean t m.later

  pub key_named : (number : ℕ) (function tuple : List ℕ) (k : Key) → x ≡ E.Key number function tuple → key ≡ Some k → MayNote P all es j x key → Tells P x (Ev.Key k)
  key_named number function tuple k is some m =
      let read : IsReadAs P function tuple (Some k) = subst (IsReadAs P function tuple) some (subst (λ y. IsKeyIn P y key) is m.named) in
      subst (λ y. Tells P y (Ev.Key k)) (sym is) (k, read.0, refl)

  pub no_key_here : (number : ℕ) (function tuple : List ℕ) → x ≡ E.Key number function tuple → key ≡ None → MayNote P all es j x key → ⊥
  no_key_here number function tuple is none m =
      let read : IsReadAs P function tuple None = subst (IsReadAs P function tuple) none (subst (λ y. IsKeyIn P y key) is m.named) in
      let c : IsClean P all es (E.Key number function tuple) = subst (IsClean P all es) is m.clean in
      let known = c C.KeyUnknown in
      read known.0 known.1
