-- A call is a step: to a fault, to the answer of an operation, or to a body.
use Rattle.std.proofs.Common.{◌≡◌, ◌↔◌, refl, inl, ℕ, zero, suc, ◌+◌, ◌-◌, ◌<◌, ◌≤◌, List, sym, ap, ◌∙◌, subst, arith, map}
use Rattle.std.proofs.lemmas.Bool.{lt-ltb, le-ltb}
use Rattle.jl_model.specs.declared.ty.Ty.{Ty}
use Rattle.jl_program.specs.declared.choice.Choice.{Choice}
use Rattle.jl_program.specs.declared.choice.Choice.TheVariants as C
use Rattle.jl_program.specs.declared.fault.Fault.TheVariants.{NoMethod, Ambiguous, FuelSpent, StackLimit}
use Rattle.jl_program.specs.declared.value.Value.{Value}
use Rattle.jl_program.specs.declared.tree.Expr.{Expr, out-Expr}
use Rattle.jl_program.specs.declared.tree.Expr.TheOpen as F
use Rattle.jl_program.specs.Scope.{types_of}
use Rattle.jl_program.specs.TypeOf.{type_of}
use Rattle.jl_calculus.specs.declared.history.TraceItem.{TraceItem}
use Rattle.jl_calculus.specs.declared.history.Outcome.{Outcome}
use Rattle.jl_calculus.specs.declared.history.Outcome.TheVariants as O
use Rattle.jl_calculus.specs.Kept.{Keeps}
use Rattle.jl_calculus.specs.Run.{State, Then, body_of, calls, chosen, performs, runs, with_calls, with_scope}
use Rattle.jl_calculus.specs.World.{Selects}
use Rattle.jl_calculus.proofs.SelectLemmas.{selects_one}
use Rattle.jl_task.specs.declared.point.Work.{Work}
use Rattle.jl_task.specs.declared.point.Work.TheVariants.{Acting, Calling, Ended}
use Rattle.jl_task.specs.Turns.{Point}
use Rattle.jl_task.specs.Operated.{performed}
use Rattle.jl_task.specs.Point.{gives, state_of}
use Rattle.jl_task.specs.ValidPoint.{IsGoodPoint}
use Rattle.jl_task.specs.Weight.{load, heaviest, stack_weight}
use Rattle.jl_task.specs.Worlds.{IsWithin}
use Rattle.jl_task.proofs.Asking.{acts_same}
use Rattle.jl_task.proofs.Bodies.{performed_same, performs_well}
use Rattle.jl_task.specs.Knows.{Knows, Asked, Refused, IsRight, IsOfSite}
use Rattle.jl_task.specs.Asks.{Job, Over, over, Ending, EndsAs, FinishesTo, Follows}
use Rattle.jl_task.specs.Fits.{Progress, FitsWith, job_of, Fitting, Steps}
use Rattle.jl_task.proofs.Fitting.{both_ways, moved, grown, fewer}

module _ (j : Job) where
  -- what a call leads to
  module _ (x : Over) (E : Outcome → State → Type 0) (f : ℕ) (vs : List Value) (w : ℕ) (s : State) (next : Then) where
    spent : (room : ℕ) → j.fuel ≤ s.calls → calls (over j x) E room f vs w s next ↔ E (O.Error (FuelSpent j.fuel)) s
    spent zero le = (λ h. rw (le-ltb s.calls j.fuel le) at h, λ h. rw (le-ltb s.calls j.fuel le) h)
    spent (suc room) le = (λ h. rw (le-ltb s.calls j.fuel le) at h, λ h. rw (le-ltb s.calls j.fuel le) h)

    deep : s.calls < j.fuel → calls (over j x) E 0 f vs w s next ↔ E (O.Error StackLimit) (with_calls s (s.calls + 1))
    deep lt = (λ h. rw (lt-ltb s.calls j.fuel lt) at h, λ h. rw (lt-ltb s.calls j.fuel lt) h)

    abbrev Goes : ℕ → ℕ → Type 0
    Goes room site =
        performs (over j x) E (body_of j.program site) vs (with_calls s (s.calls + 1)) next (λ bindings e.
        runs (over j x) E (calls (over j x) E room) e w (with_scope (with_calls s (s.calls + 1)) vs bindings) (λ v s1. next v (with_scope s1 s.env s.bindings)) (λ v s1. next v (with_scope s1 s.env s.bindings)))

    abbrev Chosen : ℕ → Choice → Type 0
    Chosen room c = chosen (over j x) E c f (map type_of vs) w (with_calls s (s.calls + 1)) (Goes room)

    -- the rules leave no other choice than the right one
    picked : (room : ℕ) (c : Choice) → s.calls < j.fuel → Selects j.program x.events f (map type_of vs) w c → calls (over j x) E (suc room) f vs w s next → Chosen room c
    picked room c lt sel h =
        let (d, other, kept, go) = rw (lt-ltb s.calls j.fuel lt) at h in
        let is : d ≡ c = selects_one j.program x.events f (map type_of vs) w d c other sel in
        subst (Chosen room) is go

    picks : (room : ℕ) (c : Choice) → s.calls < j.fuel → Selects j.program x.events f (map type_of vs) w c → Keeps j.program x.events j.places f (map type_of vs) w → calls (over j x) E (suc room) f vs w s next ↔ Chosen room c
    picks room c lt sel kept = (λ h. picked room c lt sel h, λ h. rw (lt-ltb s.calls j.fuel lt) (c, sel, kept, h))

  abbrev next_of : Progress → Over → (Outcome → State → Type 0) → Then
  next_of t x E = gives (over j x) E t.now.stack t.now.world t.now.room

  module _ (k : Knows) (t : Progress) (f : ℕ) (w : ℕ) (vs : List Value) (h : FitsWith j k (Calling f w vs) t) where
    abbrev state : List TraceItem → State
    state rest = state_of t.now t.calls k.starts rest

    ended_within : (o : Outcome) → IsWithin k.world (Ended o, t.now)
    ended_within o = record { world = h.worlds.world; waiting = h.worlds.waiting; called = tt }

    call_spent : t.fuel ≤ t.calls → IsGoodPoint j.program h.valid.views (Ended (O.Error (FuelSpent t.fuel)), t.now) → FitsWith j k (Ended (O.Error (FuelSpent t.fuel))) t
    call_spent le good =
        let e = h.fuel_is in
        let le' : j.fuel ≤ t.calls = omega (arith, e, le) in
        let S : ℕ → Type 0 = λ n. IsGoodPoint j.program h.valid.views (Ended (O.Error (FuelSpent n)), t.now) → FitsWith j k (Ended (O.Error (FuelSpent n))) t in
        subst S (sym e)
        (λ ok. moved j k (Calling f w vs) t h (Ended (O.Error (FuelSpent j.fuel)), t.now) t.calls (ended_within (O.Error (FuelSpent j.fuel))) ok
        (λ x a rest o. spent x (EndsAs o) f vs w (state rest) (next_of t x (EndsAs o)) t.now.room le')) good

    call_deep : t.calls < j.fuel → t.now.room ≡ 0 → IsGoodPoint j.program h.valid.views (Ended (O.Error StackLimit), t.now) → FitsWith j k (Ended (O.Error StackLimit)) (record t { calls = t.calls + 1 })
    call_deep lt room good =
        moved j k (Calling f w vs) t h (Ended (O.Error StackLimit), t.now) (t.calls + 1) (ended_within (O.Error StackLimit)) good
        (λ x a rest o. subst (λ n. calls (over j x) (EndsAs o) n f vs w (state rest) (next_of t x (EndsAs o)) ↔ EndsAs o (O.Error StackLimit) (with_calls (state rest) (t.calls + 1))) (sym room)
        (deep x (EndsAs o) f vs w (state rest) (next_of t x (EndsAs o)) lt))

    -- what the rules do with a choice
    abbrev ChosenHere : Over → List TraceItem → Ending → Choice → Type 0
    ChosenHere x rest o c = Chosen x (EndsAs o) f vs w (state rest) (next_of t x (EndsAs o)) (t.now.room - 1) c

    -- a choice that is right, and what it leads to
    abbrev LeadsTo : Point → Type 1
    LeadsTo p =
        (x : Over) → k.agrees x.events → (c : Choice) × Selects k.program x.events f (map type_of vs) w c × Keeps k.program x.events k.places f (map type_of vs) w
        × ((rest : List TraceItem) (o : Ending) → FinishesTo j x p (t.calls + 1) k.starts rest o ≡ ChosenHere x rest o c)

    by_choice : (p : Point) → t.calls < j.fuel → 0 < t.now.room → IsWithin k.world p → IsGoodPoint j.program h.valid.views p → LeadsTo p → FitsWith j k p.0 (record t { now = p.1; calls = t.calls + 1 })
    by_choice p lt some worlds good right =
        let e : t.now.room ≡ suc (t.now.room - 1) = omega (arith, some) in
        moved j k (Calling f w vs) t h p (t.calls + 1) worlds good
        (λ x a rest o.
        let (c, sel, kept, same) = right x a in
        let sel' : Selects j.program x.events f (map type_of vs) w c = subst (λ R. Selects R x.events f (map type_of vs) w c) h.program sel in
        let kept' : Keeps j.program x.events j.places f (map type_of vs) w = subst (λ room. Keeps j.program x.events room f (map type_of vs) w) h.places (subst (λ R. Keeps R x.events k.places f (map type_of vs) w) h.program kept) in
        let pick = picks x (EndsAs o) f vs w (state rest) (next_of t x (EndsAs o)) (t.now.room - 1) c lt sel' kept' in
        let go = both_ways (ChosenHere x rest o c) (FinishesTo j x p (t.calls + 1) k.starts rest o) (same rest o) in
        subst (λ n. calls (over j x) (EndsAs o) n f vs w (state rest) (next_of t x (EndsAs o)) ↔ FinishesTo j x p (t.calls + 1) k.starts rest o) (sym e) (λ g. go.0 (pick.0 g), λ g. pick.1 (go.1 g)))

    call_none : t.calls < j.fuel → 0 < t.now.room → IsGoodPoint j.program h.valid.views (Ended (O.Error (NoMethod f (map type_of vs) w)), t.now) → IsRight k f (map type_of vs) w C.None
        → FitsWith j k (Ended (O.Error (NoMethod f (map type_of vs) w))) (record t { calls = t.calls + 1 })
    call_none lt some good r =
        by_choice (Ended (O.Error (NoMethod f (map type_of vs) w)), t.now) lt some (ended_within (O.Error (NoMethod f (map type_of vs) w))) good
        (λ x a. (C.None, r.right x.events a, r.kept x.events a, λ rest o. refl))

    call_ambiguous : (a b : ℕ) → t.calls < j.fuel → 0 < t.now.room → IsGoodPoint j.program h.valid.views (Ended (O.Error (Ambiguous f (map type_of vs) a b)), t.now) → IsRight k f (map type_of vs) w (C.Ambiguous a b)
        → FitsWith j k (Ended (O.Error (Ambiguous f (map type_of vs) a b))) (record t { calls = t.calls + 1 })
    call_ambiguous a b lt some good r =
        by_choice (Ended (O.Error (Ambiguous f (map type_of vs) a b)), t.now) lt some (ended_within (O.Error (Ambiguous f (map type_of vs) a b))) good
        (λ x ag. (C.Ambiguous a b, r.right x.events ag, r.kept x.events ag, λ rest o. refl))

    -- what a method of a site does
    abbrev here : ℕ → Point
    here site = performed j.program (body_of j.program site) w vs t.now

    call_method : (site : ℕ) → t.calls < j.fuel → 0 < t.now.room → IsGoodPoint j.program h.valid.views (here site) → IsOfSite k f (map type_of vs) w site
        → ((x : Over) → k.agrees x.events → Keeps k.program x.events k.places f (map type_of vs) w)
        → FitsWith j k (here site).0 (record t { now = (here site).1; calls = t.calls + 1 })
    call_method site lt some good right kept =
        let ok = performs_well j.program k.world site w vs t.now h.worlds.called h.worlds.world h.worlds.waiting in
        by_choice (here site) lt some ok.worlds good
        (λ x a.
        let (d, sel, is) = right x.events a in (
          C.Method d,
          sel,
          kept x a,
          λ rest o. performed_same (over j x) (EndsAs o) (body_of j.program site) w vs t.now (t.calls + 1) k.starts rest
              ∙ ap (λ i. Goes x (EndsAs o) f vs w (state rest) (next_of t x (EndsAs o)) (t.now.room - 1) i) (sym is),
        ))

    performed_light : (site : ℕ) → load (here site).0 (here site).1 ≤ heaviest j.program.sites + (1 + stack_weight t.now.stack)
    performed_light site = (performs_well j.program k.world site w vs t.now h.worlds.called h.worlds.world h.worlds.waiting).light

module _ (k : Knows) (t : Progress) (f w : ℕ) (vs : List Value) where
  -- the fuel is spent
  pub step_spent : (h : Fitting k (Calling f w vs) t) → t.fuel ≤ t.calls → IsGoodPoint k.program h.valid.views (Ended (O.Error (FuelSpent t.fuel)), t.now) → Steps k (Calling f w vs) t k (Ended (O.Error (FuelSpent t.fuel))) t
  step_spent h le good = record { fits = call_spent (job_of k t.fuel) k t f w vs h le good; lighter = omega arith; tells = inl refl; follows = λ c q. q }

  ends : (k' : Knows) (o : Outcome) → t.calls < t.fuel → Follows k t.trace k' t.trace → FitsWith (job_of k t.fuel) k' (Ended o) (record t { calls = t.calls + 1 }) → Steps k (Calling f w vs) t k' (Ended o) (record t { calls = t.calls + 1 })
  ends k' o lt follows h =
      let e = fewer t.fuel t.calls (heaviest k.program.sites) lt in
      record { fits = h; lighter = omega (arith, e); tells = inl refl; follows = follows }

  -- there is no room for an open call
  pub step_deep : (h : Fitting k (Calling f w vs) t) → t.calls < t.fuel → t.now.room ≡ 0 → IsGoodPoint k.program h.valid.views (Ended (O.Error StackLimit), t.now) → Steps k (Calling f w vs) t k (Ended (O.Error StackLimit)) (record t { calls = t.calls + 1 })
  step_deep h lt room good = ends k (O.Error StackLimit) lt (λ c q. q) (call_deep (job_of k t.fuel) k t f w vs h lt room good)

  module _ (k' : Knows) (lt : t.calls < t.fuel) (some : 0 < t.now.room) (asked : Asked k k') (h : Fitting k (Calling f w vs) t) where
    abbrev refused : Refused k k'
    refused = record { grew = asked.grew; looks = asked.looks; own = asked.own; starts = asked.starts }

    abbrev h' : FitsWith (job_of k t.fuel) k' (Calling f w vs) t
    h' = grown (job_of k t.fuel) k k' (Calling f w vs) t refused h

    -- no method applies
    pub step_none : IsGoodPoint k.program h.valid.views (Ended (O.Error (NoMethod f (map type_of vs) w)), t.now) → IsRight k' f (map type_of vs) w C.None
        → Steps k (Calling f w vs) t k' (Ended (O.Error (NoMethod f (map type_of vs) w))) (record t { calls = t.calls + 1 })
    unfolding grown
    step_none good r = ends k' (O.Error (NoMethod f (map type_of vs) w)) lt (λ c. asked.follows c t.trace) (call_none (job_of k t.fuel) k' t f w vs h' lt some good r)

    -- none of those that apply is most specific
    pub step_ambiguous : (a b : ℕ) → IsGoodPoint k.program h.valid.views (Ended (O.Error (Ambiguous f (map type_of vs) a b)), t.now) → IsRight k' f (map type_of vs) w (C.Ambiguous a b)
        → Steps k (Calling f w vs) t k' (Ended (O.Error (Ambiguous f (map type_of vs) a b))) (record t { calls = t.calls + 1 })
    unfolding grown
    step_ambiguous a b good r = ends k' (O.Error (Ambiguous f (map type_of vs) a b)) lt (λ c. asked.follows c t.trace) (call_ambiguous (job_of k t.fuel) k' t f w vs h' a b lt some good r)

    -- the method of a site
    pub step_method : (site : ℕ) → let p = performed k.program (body_of k.program site) w vs t.now in IsGoodPoint k.program h.valid.views p → IsOfSite k' f (map type_of vs) w site
        → ((x : Over) → k'.agrees x.events → Keeps k'.program x.events k'.places f (map type_of vs) w)
        → Steps k (Calling f w vs) t k' p.0 (record t { now = p.1; calls = t.calls + 1 })
    unfolding grown
    step_method site good right kept =
        let l = performed_light (job_of k t.fuel) k' t f w vs h' site in
        let c = fewer t.fuel t.calls (heaviest k.program.sites) lt in
        record { fits = call_method (job_of k t.fuel) k' t f w vs h' site lt some good right kept; lighter = omega (arith, l, c); tells = inl refl; follows = λ x. asked.follows x t.trace }

-- the method that the dispatcher answers may be another than the one that the rules choose, of the same site
pub of_site : (k : Knows) (f : ℕ) (ts : List Ty) (w d site : ℕ) → IsRight k f ts w (C.Method d) → site ≡ k.site d → IsOfSite k f ts w site
of_site k f ts w d site r at es a = let (chosen, sel, is) = r.right es a in (chosen, sel, is ∙ sym at)

-- a call whose arguments have values is one in the present world
module _ (k : Knows) (t : Progress) (e : Expr) (f : ℕ) (xs : List Expr) (vs : List Value) (is : out-Expr e ≡ F.Call f xs) where
  pub acting_call : (h : Fitting k (Acting e vs) t) → IsGoodPoint k.program h.valid.views (Calling f t.now.world vs, t.now) → Fitting k (Calling f t.now.world vs) t
  acting_call h good =
      let j = job_of k t.fuel in
      moved j k (Acting e vs) t h (Calling f t.now.world vs, t.now) t.calls (record { world = h.worlds.world; waiting = h.worlds.waiting; called = h.worlds.world }) good
      (λ x a rest o. both_ways _ _ (sym (acts_same (over j x) (EndsAs o) t.calls k.starts t.now e (F.Call f xs) vs rest is)))

  pub step_acting : (k' : Knows) (w' : Work) (t' : Progress) → Steps k (Calling f t.now.world vs) t k' w' t' → Steps k (Acting e vs) t k' w' t'
  step_acting k' w' t' s = record { fits = s.fits; lighter = let l = s.lighter in omega (arith, l); tells = s.tells; follows = s.follows }
