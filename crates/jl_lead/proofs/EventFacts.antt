-- What one more event leaves of what the events tell.
use Rattle.std.proofs.Common.{◌≡◌, ◌∙◌, ap, sym, subst, refl, ℕ, suc, ◌+◌, ◌<◌, arith, Bool, true, false, cond, nat_eq, List, [], ◌∷◌, ◌++◌, length, append_assoc, append-nil, Some, None}
use Rattle.jl_program.specs.declared.tree.Program.{Program}
use Rattle.jl_program.specs.declared.tree.Start.{Start}
use Rattle.jl_calculus.specs.declared.history.Event.{Event}
use Rattle.jl_calculus.specs.declared.history.Event.TheVariants as Ev
use Rattle.jl_calculus.specs.declared.history.TraceItem.{TraceItem}
use Rattle.jl_calculus.specs.declared.history.TraceItem.TheVariants.{Def, Del, Spawn}
use Rattle.jl_calculus.specs.declared.history.Record.{Record}
use Rattle.jl_calculus.specs.Legal.{start_of, first_place}
use Rattle.jl_calculus.specs.Past.{IsTrueOf, tasks_of, done_of, own_events, own_starts}
use Rattle.jl_calculus.proofs.GrowthLemmas.{true_on}
use Rattle.jl_lead.specs.Leads.{GoesOn}

-- ---- numbers

pub self_eq : (n : ℕ) → nat_eq n n ≡ true
self_eq n = grind arith

pub other_eq : (n m : ℕ) → n < m → nat_eq m n ≡ false
other_eq n m l = grind (arith, l)

-- ---- lists that go on

pub goes_self : (es : List Event) → GoesOn es es
goes_self es = ([], sym (append-nil es))

pub goes_less : (es made xs : List Event) → GoesOn (es ++ made) xs → GoesOn es xs
goes_less es made xs (more, q) = (made ++ more, q ∙ append_assoc es made more)

pub true_goes : (P : Program) (es xs : List Event) (task : ℕ) (i : TraceItem) → IsTrueOf P es task i → GoesOn es xs → IsTrueOf P xs task i
true_goes P es xs task i h (more, q) = subst (λ ys. IsTrueOf P ys task i) (sym q) (true_on es more P task i h)

-- ---- tasks

-- there is one root, which is counted on both sides
pub tasks_append : (es more : List Event) → tasks_of (es ++ more) + 1 ≡ tasks_of es + tasks_of more
tasks_append [] more = omega arith
tasks_append (Ev.Spawn parent child start ∷ es) more = omega (arith, tasks_append es more)
tasks_append (Ev.Begin fuel ∷ es) more = omega (arith, tasks_append es more)
tasks_append (Ev.Key key ∷ es) more = omega (arith, tasks_append es more)
tasks_append (Ev.Fill key site first ∷ es) more = omega (arith, tasks_append es more)
tasks_append (Ev.Def by site ∷ es) more = omega (arith, tasks_append es more)
tasks_append (Ev.Del by place ∷ es) more = omega (arith, tasks_append es more)
tasks_append (Ev.Done by ended ∷ es) more = omega (arith, tasks_append es more)

-- a task that has ended has ended as it did
pub done_stays : (t : ℕ) (es more : List Event) (r : Record) → done_of t es ≡ Some r → done_of t (es ++ more) ≡ Some r
done_stays t [] more r h = cc
done_stays t (Ev.Spawn parent child start ∷ es) more r h = done_stays t es more r h
done_stays t (Ev.Begin fuel ∷ es) more r h = done_stays t es more r h
done_stays t (Ev.Key key ∷ es) more r h = done_stays t es more r h
done_stays t (Ev.Fill key site first ∷ es) more r h = done_stays t es more r h
done_stays t (Ev.Def by site ∷ es) more r h = done_stays t es more r h
done_stays t (Ev.Del by place ∷ es) more r h = done_stays t es more r h
done_stays t (Ev.Done by ended ∷ es) more r h = go (nat_eq by t) h (λ k. done_stays t es more r k)
  where
    go : (b : Bool) → cond b (Some ended) (done_of t es) ≡ Some r → (done_of t es ≡ Some r → done_of t (es ++ more) ≡ Some r) → cond b (Some ended) (done_of t (es ++ more)) ≡ Some r
    go true k f = k
    go false k f = f k

pub done_later : (t : ℕ) (es more : List Event) → done_of t es ≡ None → done_of t (es ++ more) ≡ done_of t more
done_later t [] more h = refl
done_later t (Ev.Spawn parent child start ∷ es) more h = done_later t es more h
done_later t (Ev.Begin fuel ∷ es) more h = done_later t es more h
done_later t (Ev.Key key ∷ es) more h = done_later t es more h
done_later t (Ev.Fill key site first ∷ es) more h = done_later t es more h
done_later t (Ev.Def by site ∷ es) more h = done_later t es more h
done_later t (Ev.Del by place ∷ es) more h = done_later t es more h
done_later t (Ev.Done by ended ∷ es) more h = go (nat_eq by t) h (λ k. done_later t es more k)
  where
    go : (b : Bool) → cond b (Some ended) (done_of t es) ≡ None → (done_of t es ≡ None → done_of t (es ++ more) ≡ done_of t more) → cond b (Some ended) (done_of t (es ++ more)) ≡ done_of t more
    go true k r = absurd cc
    go false k r = r k

-- where a task starts stays so where it does not start among what comes
pub start_before : (t : ℕ) (es more : List Event) → start_of t more ≡ None → start_of t (es ++ more) ≡ start_of t es
start_before t [] more h = h
start_before t (Ev.Begin fuel ∷ es) more h = start_before t es more h
start_before t (Ev.Key key ∷ es) more h = start_before t es more h
start_before t (Ev.Fill key site first ∷ es) more h = start_before t es more h
start_before t (Ev.Def by site ∷ es) more h = start_before t es more h
start_before t (Ev.Del by place ∷ es) more h = start_before t es more h
start_before t (Ev.Done by ended ∷ es) more h = start_before t es more h
start_before t (Ev.Spawn parent child start ∷ es) more h = ap (λ o. cond (nat_eq child t) (Some start) o) (start_before t es more h)

pub first_before : (t p : ℕ) (es more : List Event) → ((q : ℕ) → first_place t q more ≡ 1) → first_place t p (es ++ more) ≡ first_place t p es
first_before t p [] more h = h p
first_before t p (Ev.Begin fuel ∷ es) more h = first_before t (p + 1) es more h
first_before t p (Ev.Key key ∷ es) more h = first_before t (p + 1) es more h
first_before t p (Ev.Fill key site first ∷ es) more h = first_before t (p + 1) es more h
first_before t p (Ev.Def by site ∷ es) more h = first_before t (p + 1) es more h
first_before t p (Ev.Del by place ∷ es) more h = first_before t (p + 1) es more h
first_before t p (Ev.Done by ended ∷ es) more h = first_before t (p + 1) es more h
first_before t p (Ev.Spawn parent child start ∷ es) more h = ap (λ n. cond (nat_eq child t) (p + 1) n) (first_before t (p + 1) es more h)

-- ---- what a task made

cond_more : {X : Type 0} (b : Bool) (x : X) (xs ys : List X) → cond b (x ∷ (xs ++ ys)) (xs ++ ys) ≡ cond b (x ∷ xs) xs ++ ys
cond_more true x xs ys = refl
cond_more false x xs ys = refl

shift : (t p n : ℕ) (more : List Event) (xs ys : List TraceItem) → ys ≡ xs ++ own_events t (p + 1 + n) more → ys ≡ xs ++ own_events t (p + suc n) more
shift t p n more xs ys e = e ∙ ap (λ m. xs ++ own_events t m more) (omega arith)

own_append : (t p : ℕ) (es more : List Event) → own_events t p (es ++ more) ≡ own_events t p es ++ own_events t (p + length es) more
own_append t p [] more = ap (λ n. own_events t n more) (omega arith)
own_append t p (Ev.Def by site ∷ es) more =
    ap (λ (xs : List TraceItem). cond (nat_eq by t) (Def site p ∷ xs) xs) (shift t p (length es) more (own_events t (p + 1) es) (own_events t (p + 1) (es ++ more)) (own_append t (p + 1) es more))
    ∙ cond_more (nat_eq by t) (Def site p) (own_events t (p + 1) es) (own_events t (p + suc (length es)) more)
own_append t p (Ev.Del by place ∷ es) more =
    ap (λ (xs : List TraceItem). cond (nat_eq by t) (Del place p ∷ xs) xs) (shift t p (length es) more (own_events t (p + 1) es) (own_events t (p + 1) (es ++ more)) (own_append t (p + 1) es more))
    ∙ cond_more (nat_eq by t) (Del place p) (own_events t (p + 1) es) (own_events t (p + suc (length es)) more)
own_append t p (Ev.Spawn by child start ∷ es) more =
    ap (λ (xs : List TraceItem). cond (nat_eq by t) (Spawn child p ∷ xs) xs) (shift t p (length es) more (own_events t (p + 1) es) (own_events t (p + 1) (es ++ more)) (own_append t (p + 1) es more))
    ∙ cond_more (nat_eq by t) (Spawn child p) (own_events t (p + 1) es) (own_events t (p + suc (length es)) more)
own_append t p (Ev.Begin fuel ∷ es) more = shift t p (length es) more (own_events t (p + 1) es) (own_events t (p + 1) (es ++ more)) (own_append t (p + 1) es more)
own_append t p (Ev.Key key ∷ es) more = shift t p (length es) more (own_events t (p + 1) es) (own_events t (p + 1) (es ++ more)) (own_append t (p + 1) es more)
own_append t p (Ev.Fill key site first ∷ es) more = shift t p (length es) more (own_events t (p + 1) es) (own_events t (p + 1) (es ++ more)) (own_append t (p + 1) es more)
own_append t p (Ev.Done by ended ∷ es) more = shift t p (length es) more (own_events t (p + 1) es) (own_events t (p + 1) (es ++ more)) (own_append t (p + 1) es more)

-- the same, from the first event on
pub own_later : (t : ℕ) (es more : List Event) → own_events t 0 (es ++ more) ≡ own_events t 0 es ++ own_events t (length es) more
own_later t es more = own_append t 0 es more ∙ ap (λ n. own_events t 0 es ++ own_events t n more) (omega arith)

pub starts_append : (t : ℕ) (es more : List Event) → own_starts t (es ++ more) ≡ own_starts t es ++ own_starts t more
starts_append t [] more = refl
starts_append t (Ev.Spawn by child start ∷ es) more =
    ap (λ (xs : List Start). cond (nat_eq by t) (start ∷ xs) xs) (starts_append t es more) ∙ cond_more (nat_eq by t) start (own_starts t es) (own_starts t more)
starts_append t (Ev.Begin fuel ∷ es) more = starts_append t es more
starts_append t (Ev.Key key ∷ es) more = starts_append t es more
starts_append t (Ev.Fill key site first ∷ es) more = starts_append t es more
starts_append t (Ev.Def by site ∷ es) more = starts_append t es more
starts_append t (Ev.Del by place ∷ es) more = starts_append t es more
starts_append t (Ev.Done by ended ∷ es) more = starts_append t es more
