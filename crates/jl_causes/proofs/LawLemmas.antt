-- The laws of the first round: a history is legal but for the runs of its tasks where no cause holds of its entries, and only there.
use Rattle.std.proofs.Common.{◌≡◌, ◌∙◌, ap, sym, subst, refl, ℕ, zero, suc, ◌+◌, ◌<◌, ◌≤◌, arith, List, [], ◌∷◌, ◌++◌, length, take, slice_get, append_assoc, append-nil, Some, IsSome}
use Rattle.std.specs.List.{All}
use Rattle.std.proofs.lemmas.List.{take_at}
use Rattle.std.proofs.lemmas.List.Elements.{All-head, All-tail}
use Rattle.std.proofs.lemmas.Option.{slice_get_within}
use Rattle.jl_model.specs.declared.ty.Key.{Key}
use Rattle.jl_model.specs.declared.ty.Ty.TheVariants.{Tuple}
use Rattle.jl_program.specs.declared.tree.Program.{Program}
use Rattle.jl_program.specs.Text.{function_name, type_text}
use Rattle.jl_calculus.specs.declared.history.Event.{Event}
use Rattle.jl_calculus.specs.declared.history.Event.TheVariants as Ev
use Rattle.jl_calculus.specs.declared.history.Record.{Record}
use Rattle.jl_calculus.specs.Legal.{IsKeyOf, MayCome, MayStand, IsTraced, AreFinished, HasTrueTrace, HasOwnEvents, OnDone, EachAfter}
use Rattle.jl_calculus.specs.Ranges.{keys_of}
use Rattle.jl_report.specs.declared.entry.Step.{Step}
use Rattle.jl_report.specs.declared.entry.Step.TheVariants as S
use Rattle.jl_report.specs.declared.entry.Entry.{Entry}
use Rattle.jl_report.specs.declared.entry.Entry.TheVariants as E
use Rattle.jl_report.specs.HistoryText.{steps_of, entries_from, entries_of}
use Rattle.jl_causes.specs.Sketch.{items_of, record_of, Names, Tells, AllTell}
use Rattle.jl_causes.specs.Causes.{StartWell, IsClean, AreClean}
use Rattle.jl_causes.specs.Laws.{AreApart, AreFetchesTold, TellsFetches, NoCauseIsLegal, NoCauseSoFar}
use Rattle.jl_causes.proofs.SketchLemmas.{tell_take, entry_at}
use Rattle.jl_causes.proofs.StandLemmas.{comes_at, traced, owned, get_front, each_after, stands, finished}
use Rattle.jl_causes.proofs.AlikeLemmas.{IsAlike, AreAlike, alike_back, alike_take, same, comes_to}
use Rattle.jl_causes.proofs.TraceLemmas.{all_sketched, trace_to, own_to}

-- ---- events at a place

pub each_at : (R : List Event → Event → Type 0) (past es : List Event) (n : ℕ) (e : Event) → EachAfter R past es → slice_get es n ≡ Some e → R (past ++ take n es) e
each_at R past [] zero e h g = absurd (cc g)
each_at R past [] (suc n) e h g = absurd (cc g)
each_at R past (d ∷ es) zero e h g = subst (λ xs. R xs e) (sym (append-nil past)) (subst (R past) (cc g) h.0)
each_at R past (d ∷ es) (suc n) e h g = subst (λ xs. R xs e) (append_assoc past (d ∷ []) (take n es)) (each_at R (past ++ d ∷ []) es n e h.1 g)

pub steps_items : (ss : List Step) → steps_of (items_of ss) ≡ ss
steps_items [] = refl
steps_items (S.Look w p ∷ ss) = ap (λ xs. S.Look w p ∷ xs) (steps_items ss)
steps_items (S.Def site p ∷ ss) = ap (λ xs. S.Def site p ∷ xs) (steps_items ss)
steps_items (S.Spawn child p ∷ ss) = ap (λ xs. S.Spawn child p ∷ xs) (steps_items ss)
steps_items (S.Fetch task p ∷ ss) = ap (λ xs. S.Fetch task p ∷ xs) (steps_items ss)
steps_items (S.WorldFull p ∷ ss) = ap (λ xs. S.WorldFull p ∷ xs) (steps_items ss)
steps_items (S.TaskFull p ∷ ss) = ap (λ xs. S.TaskFull p ∷ xs) (steps_items ss)
steps_items (S.Del place p ∷ ss) = ap (λ xs. S.Del place p ∷ xs) (steps_items ss)
steps_items (S.Absent place p ∷ ss) = ap (λ xs. S.Absent place p ∷ xs) (steps_items ss)

module _ (P : Program) (apart : AreApart P) where
  -- ---- what the entries of a history tell is like the history

  own_names : (key : Key) → IsKeyOf P key → Names P (function_name P key.function) (type_text P (Tuple key.types)) key
  own_names key h = record { proper = h; by_function = refl; by_types = refl }

  alike_key : (key other : Key) (e : Event) → IsKeyOf P key → Names P (function_name P key.function) (type_text P (Tuple key.types)) other → e ≡ Ev.Key other → IsAlike e (Ev.Key key)
  alike_key key other e h named is =
      subst (λ x. IsAlike x (Ev.Key key)) (sym is) (ap Ev.Key (apart _ _ key other (own_names key h) named))

  alike_all : (k : ℕ) (ds es : List Event) → All (IsKeyOf P) (keys_of ds) → AllTell P (entries_from P k ds) es → AreAlike es ds
  alike_all k [] es h t = subst (λ xs. AreAlike xs []) (sym t) refl
  alike_all k (d ∷ ds) [] h t = absurd t
  alike_all k (Ev.Begin fuel ∷ ds) (e ∷ es) h t = (subst (λ x. IsAlike x (Ev.Begin fuel)) (sym t.0) refl, alike_all k ds es h t.1)
  alike_all k (Ev.Key key ∷ ds) (e ∷ es) h t = (
    alike_key key t.0.0 e (All-head (IsKeyOf P) key (keys_of ds) h) t.0.1 t.0.2,
    alike_all (k + 1) ds es (All-tail (IsKeyOf P) key (keys_of ds) h) t.1,
  )
  alike_all k (Ev.Fill number site begins ∷ ds) (e ∷ es) h t = (subst (λ x. IsAlike x (Ev.Fill number site begins)) (sym t.0) refl, alike_all k ds es h t.1)
  alike_all k (Ev.Def by site ∷ ds) (e ∷ es) h t = (subst (λ x. IsAlike x (Ev.Def by site)) (sym t.0) refl, alike_all k ds es h t.1)
  alike_all k (Ev.Del by place ∷ ds) (e ∷ es) h t = (subst (λ x. IsAlike x (Ev.Del by place)) (sym t.0) refl, alike_all k ds es h t.1)
  alike_all k (Ev.Spawn by child start ∷ ds) (e ∷ es) h t = (
    subst (λ x. IsAlike x (Ev.Spawn by child start)) (sym t.0) (start, refl, refl),
    alike_all k ds es h t.1,
  )
  alike_all k (Ev.Done by ended ∷ ds) (e ∷ es) h t = (
    subst (λ x. IsAlike x (Ev.Done by ended)) (sym t.0) (ended, refl, sym (steps_items (steps_of ended.trace))),
    alike_all k ds es h t.1,
  )

  -- ---- where no cause holds

  whole_told : (x : Entry) (by : ℕ) (r : Record) → Tells P x (Ev.Done by r) → r.trace ≡ all_sketched r.trace
  whole_told (E.Begin fuel) by r t = absurd (cc t)
  whole_told (E.Key number function tuple) by r t = absurd (cc (t.2))
  whole_told (E.Fill number site begins) by r t = absurd (cc t)
  whole_told (E.Def task site) by r t = absurd (cc t)
  whole_told (E.Del task place) by r t = absurd (cc t)
  whole_told (E.Spawn task child place) by r t = absurd (cc t)
  whole_told (E.Done task calls trace output ending) by r t =
      let is : r ≡ record_of calls trace output = cc t in
      ap (λ (q : Record). q.trace) is ∙ sym (ap items_of (steps_items trace)) ∙ sym (ap (λ (q : Record). all_sketched q.trace) is)

  module _ (es ds : List Event) (h : AreAlike es ds) where
    told_to : (x : Entry) (e d : Event) → Tells P x e → IsAlike e d → OnDone (λ task ended. AreFetchesTold ds ended.trace) d → OnDone (HasTrueTrace P es) e → OnDone (HasTrueTrace P ds) d
    told_to x (Ev.Begin fuel) d t k f r = subst (OnDone (HasTrueTrace P ds)) (sym k) tt
    told_to x (Ev.Key key) d t k f r = subst (OnDone (HasTrueTrace P ds)) (sym k) tt
    told_to x (Ev.Fill number site begins) d t k f r = subst (OnDone (HasTrueTrace P ds)) (sym k) tt
    told_to x (Ev.Def by site) d t k f r = subst (OnDone (HasTrueTrace P ds)) (sym k) tt
    told_to x (Ev.Del by place) d t k f r = subst (OnDone (HasTrueTrace P ds)) (sym k) tt
    told_to x (Ev.Spawn by child start) d t (other, is, place) f r = subst (OnDone (HasTrueTrace P ds)) (sym is) tt
    told_to x (Ev.Done by ended) d t (other, is, steps) f r =
        subst (OnDone (HasTrueTrace P ds)) (sym is)
        (trace_to P es ds h by ended other steps (whole_told x by ended t) (subst (OnDone (λ task q. AreFetchesTold ds q.trace)) is f) r)

    owned_to : (e d : Event) → IsAlike e d → OnDone (HasOwnEvents es) e → OnDone (HasOwnEvents ds) d
    owned_to (Ev.Begin fuel) d k r = subst (OnDone (HasOwnEvents ds)) (sym k) tt
    owned_to (Ev.Key key) d k r = subst (OnDone (HasOwnEvents ds)) (sym k) tt
    owned_to (Ev.Fill number site begins) d k r = subst (OnDone (HasOwnEvents ds)) (sym k) tt
    owned_to (Ev.Def by site) d k r = subst (OnDone (HasOwnEvents ds)) (sym k) tt
    owned_to (Ev.Del by place) d k r = subst (OnDone (HasOwnEvents ds)) (sym k) tt
    owned_to (Ev.Spawn by child start) d (other, is, place) r = subst (OnDone (HasOwnEvents ds)) (sym is) tt
    owned_to (Ev.Done by ended) d (other, is, steps) r = subst (OnDone (HasOwnEvents ds)) (sym is) (own_to P es ds h by ended other steps r)

  -- entries that are some of all, of which no cause holds, and a history with these entries
  module _ (all : List Entry) (well : StartWell all) (xs rest : List Entry) (front : xs ++ rest ≡ all) (es ds : List Event) (c : AreClean P all xs es) (h : AreAlike es ds) where
    pub stands_to : 0 < length ds → MayStand P ds
    stands_to l =
        let s = same es ds h in
        let m = stands P all well xs es rest front c (omega (arith, s.many, l)) in
        record {
          begun = subst IsSome (sym s.fuel) m.begun;
          come = each_after (MayCome P) [] ds
              (λ n d at.
              let (e, there, k) = alike_back es ds n d h at in
              comes_to P (take n es) (take n ds) e d (alike_take n es ds h) k (comes_at P all well xs es rest front c n e there));
        }

    pub traced_to : TellsFetches ds → IsTraced P ds
    traced_to f =
        record {
          traces = each_after (λ past. OnDone (HasTrueTrace P past)) [] ds
              (λ n d at.
              let (e, there, k) = alike_back es ds n d h at in
              let (x, entry, t) = entry_at P xs es n e c.told there in
              told_to (take n es) (take n ds) (alike_take n es ds h) x e d t k (each_at (λ past. OnDone (λ task ended. AreFetchesTold past ended.trace)) [] ds n d f at) (traced P all (take n es) x e (c.clean n x entry) t));
          own = each_after (λ past. OnDone (HasOwnEvents past)) [] ds
              (λ n d at.
              let (e, there, k) = alike_back es ds n d h at in
              let (x, entry, t) = entry_at P xs es n e c.told there in
              owned_to (take n es) (take n ds) (alike_take n es ds h) e d k (owned P all (take n es) x e (c.clean n x entry) t));
        }

  pub finished_to : (all : List Entry) → StartWell all → (es ds : List Event) → AreClean P all all es → AreAlike es ds → AreFinished ds
  finished_to all well es ds c h task l =
      let s = same es ds h in
      s.ends task ∙ finished P all well es c task (omega (arith, s.tasks, l))

some_event : (P : Program) (ds : List Event) → StartWell (entries_of P ds) → 0 < length ds
some_event P [] w = absurd w
some_event P (d ∷ ds) w = omega arith

pub no_cause_is_legal : NoCauseIsLegal
no_cause_is_legal P ds apart keys fetches well (es, c) =
    let all = entries_of P ds in
    let h = alike_all P apart 0 ds es keys c.told in (
      stands_to P apart all well all [] (append-nil all) es ds c h (some_event P ds well),
      traced_to P apart all well all [] (append-nil all) es ds c h fetches,
      finished_to P apart all well es ds c h,
    )

-- the first entries are clean where all are
take_short : (n m : ℕ) (es : List Event) → n ≤ m → take n (take m es) ≡ take n es
take_short zero m es l = refl
take_short (suc n) zero es l = absurd (omega (arith, l))
take_short (suc n) (suc m) [] l = refl
take_short (suc n) (suc m) (e ∷ es) l = ap (λ xs. e ∷ xs) (take_short n m es (omega (arith, l)))

clean_front : (P : Program) (all xs rest : List Entry) (es : List Event) → xs ++ rest ≡ all → AreClean P all all es → AreClean P all xs (take (length xs) es)
clean_front P all xs rest es front c =
    record {
      told = subst (λ ys. AllTell P ys (take (length xs) es)) (ap (take (length xs)) (sym front) ∙ take_at xs rest (length xs) refl) (tell_take P (length xs) all es c.told);
      clean = λ n x at.
          subst (λ ds. IsClean P all ds x) (sym (take_short n (length xs) es (omega (arith, slice_get_within xs n x at))))
          (c.clean n x (subst (λ ys. slice_get ys n ≡ Some x) front (get_front xs rest n x at)));
    }

pub no_cause_so_far : NoCauseSoFar
no_cause_so_far P all rest ds apart keys fetches well (es, c) front l =
    let xs = entries_of P ds in
    let first = take (length xs) es in
    let cut = clean_front P all xs rest es front c in
    let h = alike_all P apart 0 ds first keys cut.told in (
      stands_to P apart all well xs rest front first ds cut h l,
      traced_to P apart all well xs rest front first ds cut h fetches,
    )
