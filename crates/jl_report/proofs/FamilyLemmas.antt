-- What each task printed and started, event by event, and the text of the outputs that is made of it.
use Rattle.std.proofs.Common.{◌≡◌, ◌∙◌, ap, sym, subst, refl, ℕ, zero, suc, ◌+◌, ◌-◌, ◌<◌, ◌≤◌, arith, Bool, true, false, cond, nat_eq, List, [], ◌∷◌, ◌++◌, length, take, drop, get_or, Option, None, Some, Result, OnOk, append-nil, append_assoc}
use Rattle.std.specs.Prelude.{slice_set}
use Rattle.std.specs.List.{flat_map}
use Rattle.std.specs.declared.alloc.AllocError.{AllocError}
use Rattle.std.proofs.lemmas.List.{length-append, length-set, get_or-set_same, get_or-set_other, take_more}
use Rattle.jl_program.specs.declared.tree.Program.{Program}
use Rattle.jl_program.specs.declared.tree.Start.{Start}
use Rattle.jl_calculus.specs.declared.history.Event.{Event}
use Rattle.jl_calculus.specs.declared.history.Event.TheVariants as Ev
use Rattle.jl_calculus.specs.declared.history.Record.{Record}
use Rattle.jl_calculus.specs.Legal.{EachAfter, MayCome, MayStand, output_of, outputs}
use Rattle.jl_calculus.specs.Orders.{children_of, subtree, path_order}
use Rattle.jl_calculus.specs.Past.{tasks_of, done_of}
use Rattle.jl_report.specs.Family.{IsOfTasks, AreOfTasks, IsFamilyOf, IsWithin, outputs_with, children_with, printed_below}

-- ---- lists of lists

push_nil : (xs : List (List ℕ)) (t : ℕ) → get_or (xs ++ [] ∷ []) t [] ≡ get_or xs t []
push_nil [] zero = refl
push_nil [] (suc t) = refl
push_nil (x ∷ xs) zero = refl
push_nil (x ∷ xs) (suc t) = push_nil xs t

set_same : (xs : List (List ℕ)) (i t : ℕ) (v : List ℕ) → i < length xs → nat_eq i t ≡ true → get_or (slice_set xs i v) t [] ≡ v
set_same xs i t v l q = let e : i ≡ t = grind (arith, q) in subst (λ z. get_or (slice_set xs i v) z [] ≡ v) e (get_or-set_same xs i v [] l)

set_other : (xs : List (List ℕ)) (i t : ℕ) (v : List ℕ) → nat_eq i t ≡ false → get_or (slice_set xs i v) t [] ≡ get_or xs t []
set_other xs i t v q = get_or-set_other xs i t v [] (λ e. (let w : nat_eq i t ≡ true = grind (arith, e) in let z : true ≡ false = sym w ∙ q in cc))

-- ---- events that are put after others

tasks_append : (es more : List Event) → tasks_of (es ++ more) + 1 ≡ tasks_of es + tasks_of more
tasks_append [] more = omega arith
tasks_append (Ev.Spawn task child start ∷ es) more = omega (arith, tasks_append es more)
tasks_append (Ev.Begin fuel ∷ es) more = tasks_append es more
tasks_append (Ev.Key key ∷ es) more = tasks_append es more
tasks_append (Ev.Fill key site first ∷ es) more = tasks_append es more
tasks_append (Ev.Def task site ∷ es) more = tasks_append es more
tasks_append (Ev.Del task place ∷ es) more = tasks_append es more
tasks_append (Ev.Done task ended ∷ es) more = tasks_append es more

cond_append : (b : Bool) (y : ℕ) (ys zs : List ℕ) → cond b (y ∷ (ys ++ zs)) (ys ++ zs) ≡ cond b (y ∷ ys) ys ++ zs
cond_append true y ys zs = refl
cond_append false y ys zs = refl

children_append : (t : ℕ) (es more : List Event) → children_of t (es ++ more) ≡ children_of t es ++ children_of t more
children_append t [] more = refl
children_append t (Ev.Spawn task child start ∷ es) more =
    ap (λ zs. cond (nat_eq task t) (child ∷ zs) zs) (children_append t es more) ∙ cond_append (nat_eq task t) child (children_of t es) (children_of t more)
children_append t (Ev.Begin fuel ∷ es) more = children_append t es more
children_append t (Ev.Key key ∷ es) more = children_append t es more
children_append t (Ev.Fill key site first ∷ es) more = children_append t es more
children_append t (Ev.Def task site ∷ es) more = children_append t es more
children_append t (Ev.Del task place ∷ es) more = children_append t es more
children_append t (Ev.Done task ended ∷ es) more = children_append t es more

or_else : Option Record → Option Record → Option Record
or_else None b = b
or_else (Some r) b = Some r

cond_or : (b : Bool) (r : Record) (x y : Option Record) → cond b (Some r) (or_else x y) ≡ or_else (cond b (Some r) x) y
unfolding or_else
cond_or true r x y = refl
cond_or false r x y = refl

or_none : (x : Option Record) → or_else x None ≡ x
unfolding or_else
or_none None = refl
or_none (Some r) = refl

done_append : (t : ℕ) (es more : List Event) → done_of t (es ++ more) ≡ or_else (done_of t es) (done_of t more)
unfolding or_else
done_append t [] more = refl
done_append t (Ev.Done task ended ∷ es) more =
    ap (λ z. cond (nat_eq task t) (Some ended) z) (done_append t es more) ∙ cond_or (nat_eq task t) ended (done_of t es) (done_of t more)
done_append t (Ev.Spawn task child start ∷ es) more = done_append t es more
done_append t (Ev.Begin fuel ∷ es) more = done_append t es more
done_append t (Ev.Key key ∷ es) more = done_append t es more
done_append t (Ev.Fill key site first ∷ es) more = done_append t es more
done_append t (Ev.Def task site ∷ es) more = done_append t es more
done_append t (Ev.Del task place ∷ es) more = done_append t es more

-- ---- one more event

-- it starts no task and ends none
same : (es : List Event) (e : Event) (os cs : List (List ℕ)) → IsFamilyOf es os cs
    → tasks_of (e ∷ []) ≡ 1 → ((t : ℕ) → done_of t (e ∷ []) ≡ None) → ((t : ℕ) → children_of t (e ∷ []) ≡ [])
    → IsFamilyOf (es ++ e ∷ []) os cs
same es e os cs f one none empty = record {
  many_outputs = omega (arith, f.many_outputs, tasks_append es (e ∷ []), one);
  many_children = omega (arith, f.many_children, tasks_append es (e ∷ []), one);
  printed = λ t. f.printed t ∙ ap output_of (sym (done_append t es (e ∷ []) ∙ ap (or_else (done_of t es)) (none t) ∙ or_none (done_of t es)));
  started = λ t. f.started t ∙ sym (children_append t es (e ∷ []) ∙ ap (λ zs. children_of t es ++ zs) (empty t) ∙ append-nil (children_of t es));
}

-- the children of a task, with one more
abbrev grown : List (List ℕ) → ℕ → ℕ → List ℕ
grown cs p child = get_or cs p [] ++ child ∷ []

spawned : (es : List Event) (p : ℕ) (child : ℕ) (start : Start) (os cs : List (List ℕ)) → IsFamilyOf es os cs → p < tasks_of es
    → IsFamilyOf (es ++ Ev.Spawn p child start ∷ []) (os ++ [] ∷ []) (slice_set cs p (get_or cs p [] ++ child ∷ []) ++ [] ∷ [])
spawned es p child start os cs f l = record {
  many_outputs = omega (arith, f.many_outputs, length-append os ([] ∷ []), tasks_append es (Ev.Spawn p child start ∷ []));
  many_children = omega (arith, f.many_children, length-append (slice_set cs p (grown cs p child)) ([] ∷ []), length-set cs p (grown cs p child), tasks_append es (Ev.Spawn p child start ∷ []));
  printed = λ t. push_nil os t ∙ f.printed t ∙ ap output_of (sym (done_append t es (Ev.Spawn p child start ∷ []) ∙ or_none (done_of t es)));
  started = λ t. push_nil (slice_set cs p (grown cs p child)) t ∙ by t (nat_eq p t) refl ∙ sym (children_append t es (Ev.Spawn p child start ∷ []));
}
  where
    by : (t : ℕ) (b : Bool) → nat_eq p t ≡ b → get_or (slice_set cs p (grown cs p child)) t [] ≡ children_of t es ++ cond (nat_eq p t) (child ∷ []) []
    by t true q =
        let e : p ≡ t = grind (arith, q) in
        set_same cs p t (grown cs p child) (omega (arith, l, f.many_children)) q
        ∙ ap (λ zs. zs ++ child ∷ []) (f.started p ∙ ap (λ z. children_of z es) e)
        ∙ ap (λ b. children_of t es ++ cond b (child ∷ []) []) (sym q)
    by t false q = set_other cs p t (grown cs p child) q ∙ f.started t ∙ sym (append-nil (children_of t es)) ∙ ap (λ b. children_of t es ++ cond b (child ∷ []) []) (sym q)

ended_with : (es : List Event) (k : ℕ) (r : Record) (os cs : List (List ℕ)) → IsFamilyOf es os cs → k < tasks_of es → done_of k es ≡ None
    → IsFamilyOf (es ++ Ev.Done k r ∷ []) (slice_set os k r.output) cs
unfolding or_else
ended_with es k r os cs f l n = record {
  many_outputs = omega (arith, f.many_outputs, length-set os k r.output, tasks_append es (Ev.Done k r ∷ []));
  many_children = omega (arith, f.many_children, tasks_append es (Ev.Done k r ∷ []));
  printed = λ t. by t (nat_eq k t) refl ∙ ap output_of (sym (done_append t es (Ev.Done k r ∷ [])));
  started = λ t. f.started t ∙ sym (children_append t es (Ev.Done k r ∷ []) ∙ append-nil (children_of t es));
}
  where
    by : (t : ℕ) (b : Bool) → nat_eq k t ≡ b → get_or (slice_set os k r.output) t [] ≡ output_of (or_else (done_of t es) (cond (nat_eq k t) (Some r) None))
    by t true q =
        let e : k ≡ t = grind (arith, q) in
        let none : done_of t es ≡ None = ap (λ z. done_of z es) (sym e) ∙ n in
        set_same os k t r.output (omega (arith, l, f.many_outputs)) q
        ∙ ap (λ b. output_of (or_else None (cond b (Some r) None))) (sym q)
        ∙ ap (λ x. output_of (or_else x (cond (nat_eq k t) (Some r) None))) (sym none)
    by t false q =
        set_other os k t r.output q ∙ f.printed t ∙ ap output_of (sym (or_none (done_of t es)))
        ∙ ap (λ b. output_of (or_else (done_of t es) (cond b (Some r) None))) (sym q)

pub family_more : (es : List Event) (e : Event) (os cs : List (List ℕ)) → IsFamilyOf es os cs → IsOfTasks es e → IsFamilyOf (es ++ e ∷ []) (outputs_with os e) (children_with cs e)
family_more es (Ev.Begin fuel) os cs f h = same es (Ev.Begin fuel) os cs f refl (λ t. refl) (λ t. refl)
family_more es (Ev.Key key) os cs f h = same es (Ev.Key key) os cs f refl (λ t. refl) (λ t. refl)
family_more es (Ev.Fill key site first) os cs f h = same es (Ev.Fill key site first) os cs f refl (λ t. refl) (λ t. refl)
family_more es (Ev.Def task site) os cs f h = same es (Ev.Def task site) os cs f refl (λ t. refl) (λ t. refl)
family_more es (Ev.Del task place) os cs f h = same es (Ev.Del task place) os cs f refl (λ t. refl) (λ t. refl)
family_more es (Ev.Spawn task child start) os cs f (l, e) = spawned es task child start os cs f l
family_more es (Ev.Done task ended) os cs f (l, n) = ended_with es task ended os cs f l n

pub family_root : IsFamilyOf [] ([] ∷ []) ([] ∷ [])
family_root = record { many_outputs = refl; many_children = refl; printed = nothing; started = nothing }
  where
    nothing : (t : ℕ) → get_or {A = List ℕ} ([] ∷ []) t [] ≡ []
    nothing zero = refl
    nothing (suc t) = refl

-- ---- a whole list

each_map : (R S : List Event → Event → Type 0) → ((past : List Event) (e : Event) → R past e → S past e)
    → (past es : List Event) → EachAfter R past es → EachAfter S past es
each_map R S h past [] k = tt
each_map R S h past (e ∷ es) (k, ks) = (h past e k, each_map R S h (past ++ e ∷ []) es ks)

each_at : (R : List Event → Event → Type 0) (past es : List Event) → EachAfter R past es → (i : ℕ) → i < length es → (d : Event) → R (past ++ take i es) (get_or es i d)
each_at R past [] k i l d = absurd (omega (arith, l))
each_at R past (e ∷ es) (k, ks) zero l d = subst (λ zs. R zs e) (sym (append-nil past)) k
each_at R past (e ∷ es) (k, ks) (suc i) l d = subst (λ zs. R zs (get_or es i d)) (append_assoc past (e ∷ []) (take i es)) (each_at R (past ++ e ∷ []) es ks i (omega (arith, l)) d)

pub tasks_at : (es : List Event) → AreOfTasks es → (i : ℕ) → i < length es → (d : Event) → IsOfTasks (take i es) (get_or es i d)
tasks_at es h i l d = each_at IsOfTasks [] es h i l d

may_come : (P : Program) (past : List Event) (e : Event) → MayCome P past e → IsOfTasks past e
may_come P past (Ev.Begin fuel) h = tt
may_come P past (Ev.Key key) h = tt
may_come P past (Ev.Fill key site first) h = tt
may_come P past (Ev.Def task site) h = tt
may_come P past (Ev.Del task place) h = tt
may_come P past (Ev.Spawn task child start) h = (h.running.started, h.next)
may_come P past (Ev.Done task ended) h = (h.started, h.going)

pub may_stand : (P : Program) (es : List Event) → MayStand P es → AreOfTasks es
may_stand P es h = each_map (MayCome P) IsOfTasks (may_come P) [] es h.come

-- ---- the outputs

outputs_append : (es : List Event) (xs ys : List ℕ) → outputs es (xs ++ ys) ≡ outputs es xs ++ outputs es ys
outputs_append es [] ys = refl
outputs_append es (x ∷ xs) ys =
    ap (λ zs. output_of (done_of x es) ++ zs) (outputs_append es xs ys) ∙ sym (append_assoc (output_of (done_of x es)) (outputs es xs) (outputs es ys))

below_all : (es : List Event) (f g : ℕ → List ℕ) → ((t : ℕ) → f t ≡ outputs es (g t)) → (xs : List ℕ) → flat_map f xs ≡ outputs es (flat_map g xs)
below_all es f g h [] = refl
below_all es f g h (x ∷ xs) =
    ap (λ zs. zs ++ flat_map f xs) (h x) ∙ ap (λ zs. outputs es (g x) ++ zs) (below_all es f g h xs) ∙ sym (outputs_append es (g x) (flat_map g xs))

pub below : (es : List Event) (os cs : List (List ℕ)) → IsFamilyOf es os cs → (g t : ℕ) → printed_below os cs g t ≡ outputs es (subtree es g t)
below es os cs f zero t = refl
below es os cs f (suc g) t =
    ap (λ zs. zs ++ flat_map (printed_below os cs g) (get_or cs t [])) (f.printed t)
    ∙ ap (λ zs. output_of (done_of t es) ++ flat_map (printed_below os cs g) zs) (f.started t)
    ∙ ap (λ zs. output_of (done_of t es) ++ zs) (below_all es (printed_below os cs g) (subtree es g) (below es os cs f g) (children_of t es))

-- ---- what the code that gathers them needs

module _ (es : List Event) (h : AreOfTasks es) (i : ℕ) (e : Event) (os cs : List (List ℕ)) (l : i < length es) (read : e ≡ get_or es i e) (f : IsFamilyOf (take i es) os cs) where
  here : IsOfTasks (take i es) e
  here = subst (IsOfTasks (take i es)) (sym read) (tasks_at es h i l e)

  pub within : IsWithin (length os) (length cs) e
  within = by e here
    where
      by : (e : Event) → IsOfTasks (take i es) e → IsWithin (length os) (length cs) e
      by (Ev.Begin fuel) k = tt
      by (Ev.Key key) k = tt
      by (Ev.Fill key site first) k = tt
      by (Ev.Def task site) k = tt
      by (Ev.Del task place) k = tt
      by (Ev.Spawn task child start) k = omega (arith, k.0, f.many_children)
      by (Ev.Done task ended) k = omega (arith, k.0, f.many_outputs)

  pub one_more : (os' cs' : List (List ℕ)) → os' ≡ outputs_with os e → cs' ≡ children_with cs e → IsFamilyOf (take (i + 1) es) os' cs'
  one_more os' cs' p q =
      let longer : take (i + 1) es ≡ take i es ++ e ∷ [] = take_more es i e l ∙ ap (λ x. take i es ++ x ∷ []) (sym read) in
      subst (λ z. IsFamilyOf z os' cs') (sym longer)
      (subst (λ z. IsFamilyOf (take i es ++ e ∷ []) os' z) (sym q)
      (subst (λ z. IsFamilyOf (take i es ++ e ∷ []) z (children_with cs e)) (sym p) (family_more (take i es) e os cs f here)))

pub all_written : (r : Result (Unit {0}) AllocError) (old new : List ℕ) (es : List Event) (os cs : List (List ℕ)) (n : ℕ) → IsFamilyOf es os cs → n ≡ length os
    → OnOk r (new ≡ old ++ printed_below os cs n 0) → OnOk r (new ≡ old ++ outputs es (path_order es))
all_written r old new es os cs n f e h =
    let same : printed_below os cs n 0 ≡ outputs es (path_order es) = below es os cs f n 0 ∙ ap (λ g. outputs es (subtree es g 0)) (e ∙ f.many_outputs) in
    subst (λ z. OnOk r (new ≡ old ++ z)) same h

pub children_written : (os cs : List (List ℕ)) (g task : ℕ) (old mid out printed kids : List ℕ) (k : ℕ) → 0 < g
    → mid ≡ old ++ printed → printed ≡ get_or os task [] → kids ≡ get_or cs task [] → length kids ≤ k
    → out ++ flat_map (printed_below os cs (g - 1)) (drop k kids) ≡ mid ++ flat_map (printed_below os cs (g - 1)) (drop 0 kids)
    → out ≡ old ++ printed_below os cs g task
children_written os cs zero task old mid out printed kids k l a b d m h = absurd (omega (arith, l))
children_written os cs (suc g) task old mid out printed kids k l a b d m h =
    let less : suc g - 1 ≡ g = omega arith in
    let last : drop k kids ≡ [] = drop_past k kids m in
    sym (append-nil out)
    ∙ ap (λ zs. out ++ flat_map (printed_below os cs (suc g - 1)) zs) (sym last)
    ∙ h
    ∙ ap (λ n. mid ++ flat_map (printed_below os cs n) kids) less
    ∙ ap (λ zs. zs ++ flat_map (printed_below os cs g) kids) (a ∙ ap (λ zs. old ++ zs) b)
    ∙ append_assoc old (get_or os task []) (flat_map (printed_below os cs g) kids)
    ∙ ap (λ zs. old ++ (get_or os task [] ++ flat_map (printed_below os cs g) zs)) d
  where
    drop_past : (k : ℕ) (xs : List ℕ) → length xs ≤ k → drop k xs ≡ []
    drop_past zero [] l = refl
    drop_past zero (x ∷ xs) l = absurd (omega (arith, l))
    drop_past (suc k) [] l = refl
    drop_past (suc k) (x ∷ xs) l = drop_past k xs (omega (arith, l))
