-- What one more event changes of a list of events.
use Rattle.std.proofs.Common.{◌≡◌, ◌∙◌, ap, sym, subst, refl, ℕ, zero, suc, ◌+◌, ◌<◌, ◌⊎◌, inl, inr, arith, Bool, true, false, cond, nat_eq, List, [], ◌∷◌, ◌++◌, length, slice_get, append_assoc, append-nil, Option, None, Some, IsSome}
use Rattle.std.specs.List.{Contains}
use Rattle.jl_calculus.specs.declared.history.Event.{Event}
use Rattle.jl_calculus.specs.declared.history.Event.TheVariants as Ev
use Rattle.jl_calculus.specs.declared.history.Record.{Record}
use Rattle.jl_calculus.specs.Legal.{fuel_of, EachAfter}
use Rattle.jl_calculus.specs.Orders.{children_of}
use Rattle.jl_calculus.specs.Past.{tasks_of, done_of}

-- ---- lists

-- one more event keeps its condition
pub each_more : (R : List Event → Event → Type 0) (past es : List Event) (e : Event) → EachAfter R past es → R (past ++ es) e → EachAfter R past (es ++ e ∷ [])
each_more R past [] e h r = (subst (λ xs. R xs e) (append-nil past) r, tt)
each_more R past (x ∷ es) e h r = (h.0, each_more R (past ++ x ∷ []) es e h.1 (subst (λ xs. R xs e) (sym (append_assoc past (x ∷ []) es)) r))

pub contains_at : {X : Type 0} (xs : List X) (k : ℕ) (x : X) → slice_get xs k ≡ Some x → Contains xs x
contains_at [] k x h = cc
contains_at (y ∷ xs) zero x h = (0, omega arith, cc)
contains_at (y ∷ xs) (suc k) x h = let (i, l, e) = contains_at xs k x h in (suc i, omega (arith, l), e)

pub within : {X : Type 0} (xs : List X) (k : ℕ) (x : X) → slice_get xs k ≡ Some x → k < length xs
within [] k x h = cc
within (y ∷ xs) zero x h = omega arith
within (y ∷ xs) (suc k) x h = omega (arith, within xs k x h)

-- an element of a list with one more
pub get_last : {X : Type 0} (xs : List X) (y : X) (k : ℕ) (x : X) → slice_get (xs ++ y ∷ []) k ≡ Some x → (slice_get xs k ≡ Some x) ⊎ ((k ≡ length xs) × (y ≡ x))
get_last [] y zero x h = inr (refl, cc)
get_last [] y (suc k) x h = cc
get_last (z ∷ xs) y zero x h = inl h
get_last (z ∷ xs) y (suc k) x h = by (get_last xs y k x h)
  where
    by : (slice_get xs k ≡ Some x) ⊎ ((k ≡ length xs) × (y ≡ x)) → (slice_get xs k ≡ Some x) ⊎ ((suc k ≡ suc (length xs)) × (y ≡ x))
    by (inl e) = inl e
    by (inr (e, q)) = inr (ap suc e, q)

-- ---- events

pub still_begun : (es more : List Event) → IsSome (fuel_of es) → IsSome (fuel_of (es ++ more))
still_begun [] more h = cc
still_begun (Ev.Begin fuel ∷ es) more h = h
still_begun (Ev.Key key ∷ es) more h = h
still_begun (Ev.Fill key site first ∷ es) more h = h
still_begun (Ev.Def by site ∷ es) more h = h
still_begun (Ev.Del by place ∷ es) more h = h
still_begun (Ev.Spawn parent child start ∷ es) more h = h
still_begun (Ev.Done by ended ∷ es) more h = h

pub tasks_append : (es more : List Event) → tasks_of (es ++ more) + 1 ≡ tasks_of es + tasks_of more
tasks_append [] more = omega arith
tasks_append (Ev.Spawn task child start ∷ es) more = omega (arith, tasks_append es more)
tasks_append (Ev.Begin fuel ∷ es) more = tasks_append es more
tasks_append (Ev.Key key ∷ es) more = tasks_append es more
tasks_append (Ev.Fill key site first ∷ es) more = tasks_append es more
tasks_append (Ev.Def task site ∷ es) more = tasks_append es more
tasks_append (Ev.Del task place ∷ es) more = tasks_append es more
tasks_append (Ev.Done task ended ∷ es) more = tasks_append es more

-- the first of two
abbrev pub or_else : Option Record → Option Record → Option Record
or_else None o = o
or_else (Some r) o = Some r

cond_or : (b : Bool) (r : Record) (x y z : Option Record) → x ≡ or_else y z → cond b (Some r) x ≡ or_else (cond b (Some r) y) z
cond_or true r x y z e = refl
cond_or false r x y z e = e

pub done_append : (t : ℕ) (es more : List Event) → done_of t (es ++ more) ≡ or_else (done_of t es) (done_of t more)
done_append t [] more = refl
done_append t (Ev.Done task ended ∷ es) more = cond_or (nat_eq task t) ended (done_of t (es ++ more)) (done_of t es) (done_of t more) (done_append t es more)
done_append t (Ev.Spawn task child start ∷ es) more = done_append t es more
done_append t (Ev.Begin fuel ∷ es) more = done_append t es more
done_append t (Ev.Key key ∷ es) more = done_append t es more
done_append t (Ev.Fill key site first ∷ es) more = done_append t es more
done_append t (Ev.Def task site ∷ es) more = done_append t es more
done_append t (Ev.Del task place ∷ es) more = done_append t es more

cond_append : (b : Bool) (y : ℕ) (ys zs : List ℕ) → cond b (y ∷ (ys ++ zs)) (ys ++ zs) ≡ cond b (y ∷ ys) ys ++ zs
cond_append true y ys zs = refl
cond_append false y ys zs = refl

pub children_append : (x : ℕ) (es more : List Event) → children_of x (es ++ more) ≡ children_of x es ++ children_of x more
children_append x [] more = refl
children_append x (Ev.Spawn parent child start ∷ es) more =
    ap (λ zs. cond (nat_eq parent x) (child ∷ zs) zs) (children_append x es more) ∙ cond_append (nat_eq parent x) child (children_of x es) (children_of x more)
children_append x (Ev.Begin fuel ∷ es) more = children_append x es more
children_append x (Ev.Key key ∷ es) more = children_append x es more
children_append x (Ev.Fill key site first ∷ es) more = children_append x es more
children_append x (Ev.Def by site ∷ es) more = children_append x es more
children_append x (Ev.Del by place ∷ es) more = children_append x es more
children_append x (Ev.Done by ended ∷ es) more = children_append x es more
