-- A task that fits goes on to fit: by a turn of its own, by what its dispatcher learns, and by an item of its trace.
use Rattle.std.proofs.Common.{◌≡◌, ◌↔◌, Some, ℕ, suc, ◌+◌, ◌-◌, ◌*◌, ◌<◌, ◌≤◌, List, [], ◌∷◌, ◌++◌, refl, sym, ap, ◌∙◌, subst, arith, append_assoc, suc-mul}
use Rattle.jl_calculus.specs.declared.history.TraceItem.{TraceItem}
use Rattle.jl_program.specs.declared.tree.Start.{Start}
use Rattle.jl_calculus.specs.Past.{place, past, own_items}
use Rattle.jl_calculus.specs.Run.{Question, halts}
use Rattle.jl_task.specs.declared.point.Work.{Work}
use Rattle.jl_task.specs.Turns.{Point}
use Rattle.jl_task.specs.Questions.{GoesOnFrom}
use Rattle.jl_task.specs.ValidPoint.{IsGoodPoint}
use Rattle.jl_task.specs.Worlds.{IsWithin}
use Rattle.jl_task.specs.Knows.{Knows, Grew, Told, Refused}
use Rattle.jl_task.specs.Asks.{Job, Over, Ending, RunsTo, FinishesTo, Asks}
use Rattle.jl_task.specs.Fits.{looks_of, Progress, FitsWith, job_of}
use Rattle.jl_task.proofs.Traces.{append_nil, all_learnt, learnt_more, order_up, order_more, looks_more, own_more, within_up}

-- the rules finish from both points at once
abbrev pub Same : Job → Over → Point → ℕ → List Start → List TraceItem → Point → ℕ → List Start → List TraceItem → Type 0
Same j x p made starts rest p' made' starts' rest' = (e : Ending) → FinishesTo j x p made starts rest e ↔ FinishesTo j x p' made' starts' rest' e

pub both_ways : (A B : Type 0) → B ≡ A → A ↔ B
both_ways A B e = (λ a. subst (λ (X : Type 0). X) (sym e) a, λ b. subst (λ (X : Type 0). X) e b)

module _ (j : Job) where
  -- a turn with no item, where the events may matter
  pub moved : (k : Knows) (w : Work) (t : Progress) (f : FitsWith j k w t) (p : Point) (made : ℕ) → IsWithin k.world p → IsGoodPoint j.program f.valid.views p
      → ((x : Over) → k.agrees x.events → (rest : List TraceItem) → Same j x (w, t.now) t.calls k.starts rest p made k.starts rest)
      → FitsWith j k p.0 (record t { now = p.1; calls = made })
  moved k w t f p made worlds good step = record {
    program = f.program;
    start = f.start;
    places = f.places;
    fuel_is = f.fuel_is;
    valid = f.valid;
    runs = λ x a rest e. (λ h. (step x a rest e).0 ((f.runs x a rest e).0 h), λ h. (f.runs x a rest e).1 ((step x a rest e).1 h));
    learnt = f.learnt;
    order = f.order;
    looks = f.looks;
    own = f.own;
    worlds = worlds;
    good = good;
  }

  -- what a question of the dispatcher leaves
  unfoldable pub grown : (k k' : Knows) (w : Work) (t : Progress) → Refused k k' → FitsWith j k w t → FitsWith j k' w t
  grown k k' w t asked f = let g = asked.grew in record {
    program = g.program ∙ f.program;
    start = g.start ∙ f.start;
    places = g.places ∙ f.places;
    fuel_is = f.fuel_is;
    valid = f.valid;
    runs = λ x a. subst (λ starts. (rest : List TraceItem) (e : Ending) → RunsTo j x (t.trace ++ rest) e ↔ FinishesTo j x (w, t.now) t.calls starts rest e) (sym asked.starts) (f.runs x (g.agrees x.events a));
    learnt = all_learnt k k' g t.trace f.learnt;
    order = rw g.first (order_up t.trace k.first k.seen k'.seen g.seen f.order);
    looks = f.looks ∙ sym asked.looks;
    own = f.own ∙ sym asked.own;
    worlds = within_up (w, t.now) k.world k'.world g.world f.worlds;
    good = f.good;
  }

  -- an item that the rules take
  pub item_fits : (k k' : Knows) (w : Work) (t : Progress) (f : FitsWith j k w t) (p : Point) (i : TraceItem) → Grew k k' → Told k' i → k.seen ≤ place i → past i ≤ k'.seen
      → k'.looks ≡ k.looks + looks_of (i ∷ []) → k'.own ≡ k.own ++ own_items (i ∷ []) → IsWithin k'.world p → IsGoodPoint j.program f.valid.views p
      → ((x : Over) (rest : List TraceItem) → Same j x (w, t.now) t.calls k.starts (i ∷ rest) p t.calls k'.starts rest)
      → FitsWith j k' p.0 (record t { now = p.1; trace = t.trace ++ i ∷ [] })
  item_fits k k' w t f p i g told at past' looks own worlds good step = record {
    program = g.program ∙ f.program;
    start = g.start ∙ f.start;
    places = g.places ∙ f.places;
    fuel_is = f.fuel_is;
    valid = f.valid;
    runs = λ x a rest e. (
      λ h. (step x rest e).0 ((f.runs x (g.agrees x.events a) (i ∷ rest) e).0 (subst (λ is. RunsTo j x is e) (append_assoc t.trace (i ∷ []) rest) h)),
      λ h. subst (λ is. RunsTo j x is e) (sym (append_assoc t.trace (i ∷ []) rest)) ((f.runs x (g.agrees x.events a) (i ∷ rest) e).1 ((step x rest e).1 h)),
    );
    learnt = learnt_more k' t.trace i (all_learnt k k' g t.trace f.learnt) told.learnt;
    order = rw g.first (order_more t.trace k.first k.seen k'.seen i at past' f.order);
    looks = looks_more t.trace i ∙ ap (λ n. n + looks_of (i ∷ [])) f.looks ∙ sym looks;
    own = own_more t.trace i ∙ ap (λ xs. xs ++ own_items (i ∷ [])) f.own ∙ sym own;
    worlds = worlds;
    good = good;
  }

  -- a point asks what the rules ask there
  pub asks_by : (k : Knows) (w : Work) (t : Progress) (q : Question) → FitsWith j k w t
      → ((x : Over) (rest : List TraceItem) (e : Ending) → FinishesTo j x (w, t.now) t.calls k.starts rest e → GoesOnFrom x.until q rest)
      → ((x : Over) (e : Ending) → halts x.until q → FinishesTo j x (w, t.now) t.calls k.starts [] e)
      → Asks j k t.trace q
  asks_by k w t q f goes stops = record {
    goes = λ x a rest e r. goes x rest e ((f.runs x a rest e).0 r);
    comes = λ es a outcome output all starts.
        let x : Over = record { events = es; until = Some q } in
        let e : Ending = record { outcome = outcome; output = output; calls = all; starts = starts } in
        subst (λ is. RunsTo j x is e) (append_nil t.trace) ((f.runs x a [] e).1 (stops x e refl));
  }

-- a task that fits for a job fits for the job of its dispatcher
pub job_is : (j : Job) (k : Knows) (w : Work) (t : Progress) → FitsWith j k w t → job_of k t.fuel ≡ j
job_is j k w t f = λ i. record { program = f.program i; start = f.start i; places = f.places i; fuel = f.fuel_is i }

-- the turns after one more call
pub fewer : (fuel calls m : ℕ) → calls < fuel → (fuel - (calls + 1)) * m + m ≡ (fuel - calls) * m
fewer fuel calls m lt = let e : fuel - calls ≡ suc (fuel - (calls + 1)) = omega arith in rw (e, suc-mul) refl
