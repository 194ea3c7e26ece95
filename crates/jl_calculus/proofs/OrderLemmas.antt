-- In path order, and in wait order, each task stands once, and nothing else.
use Rattle.std.proofs.Common.{◌≡◌, ◌∙◌, ap, sym, subst, refl, ℕ, zero, suc, ◌+◌, ◌<◌, ◌≤◌, arith, Bool, true, false, cond, nat_eq, List, [], ◌∷◌, ◌++◌, append-nil, append_assoc}
use Rattle.std.specs.List.{flat_map}
use Rattle.jl_program.specs.declared.tree.Program.{Program}
use Rattle.jl_program.specs.declared.tree.Start.{Start}
use Rattle.jl_program.specs.Gathered.{times}
use Rattle.jl_calculus.specs.declared.history.Event.{Event}
use Rattle.jl_calculus.specs.declared.history.Event.TheVariants as Ev
use Rattle.jl_calculus.specs.Legal.{MayCome, EachAfter, MayStand}
use Rattle.jl_calculus.specs.Orders.{children_of, subtree, path_order, subtree_last, wait_order}
use Rattle.jl_calculus.specs.Past.{tasks_of}

-- ---- how often a number stands in a list

one_if : Bool → ℕ
one_if true = 1
one_if false = 0

times_more : (b : Bool) (n : ℕ) → cond b (1 + n) n ≡ one_if b + n
unfolding one_if
times_more true n = refl
times_more false n = omega arith

times_cons : (t x : ℕ) (xs : List ℕ) → times t (x ∷ xs) ≡ one_if (nat_eq t x) + times t xs
times_cons t x xs = times_more (nat_eq t x) (times t xs)

times_append : (t : ℕ) (xs ys : List ℕ) → times t (xs ++ ys) ≡ times t xs + times t ys
times_append t [] ys = omega arith
times_append t (x ∷ xs) ys = omega (arith, times_cons t x (xs ++ ys), times_cons t x xs, times_append t xs ys)

one_same : (t x : ℕ) → t ≡ x → one_if (nat_eq t x) ≡ 1
unfolding one_if
one_same t x e = let q : nat_eq t x ≡ true = grind (arith, e) in ap one_if q

one_other : (t x : ℕ) → (t ≡ x → ⊥) → one_if (nat_eq t x) ≡ 0
unfolding one_if
one_other t x d = by (nat_eq t x) refl
  where
    by : (b : Bool) → nat_eq t x ≡ b → one_if (nat_eq t x) ≡ 0
    by true q = absurd (d (grind (arith, q)))
    by false q = ap one_if q

-- ---- children

-- each is above a number and below another
abbrev Between : ℕ → ℕ → List ℕ → Type 0
Between x n [] = Unit {0}
Between x n (y ∷ ys) = (x < y) × (y < n) × Between x n ys

between_wider : (x n m : ℕ) (ys : List ℕ) → n ≤ m → Between x n ys → Between x m ys
between_wider x n m [] l h = tt
between_wider x n m (y ∷ ys) l (a, b, h) = (a, omega (arith, b, l), between_wider x n m ys l h)

between_append : (x n : ℕ) (ys zs : List ℕ) → Between x n ys → Between x n zs → Between x n (ys ++ zs)
between_append x n [] zs h k = k
between_append x n (y ∷ ys) zs (a, b, h) k = (a, b, between_append x n ys zs h k)

-- there is nothing between a number and a lesser one
none_past : (x n : ℕ) (ys : List ℕ) → n ≤ x → Between x n ys → ys ≡ []
none_past x n [] l h = refl
none_past x n (y ∷ ys) l (a, b, h) = absurd (omega (arith, a, b, l))

cond_append : (b : Bool) (y : ℕ) (ys zs : List ℕ) → cond b (y ∷ (ys ++ zs)) (ys ++ zs) ≡ cond b (y ∷ ys) ys ++ zs
cond_append true y ys zs = refl
cond_append false y ys zs = refl

children_append : (x : ℕ) (es more : List Event) → children_of x (es ++ more) ≡ children_of x es ++ children_of x more
children_append x [] more = refl
children_append x (Ev.Spawn parent child start ∷ es) more =
    ap (λ zs. cond (nat_eq parent x) (child ∷ zs) zs) (children_append x es more) ∙ cond_append (nat_eq parent x) child (children_of x es) (children_of x more)
children_append x (Ev.Begin fuel ∷ es) more = children_append x es more
children_append x (Ev.Key key ∷ es) more = children_append x es more
children_append x (Ev.Fill key site first ∷ es) more = children_append x es more
children_append x (Ev.Def by site ∷ es) more = children_append x es more
children_append x (Ev.Del by at_place ∷ es) more = children_append x es more
children_append x (Ev.Done by ended ∷ es) more = children_append x es more

tasks_append : (es more : List Event) → tasks_of (es ++ more) + 1 ≡ tasks_of es + tasks_of more
tasks_append [] more = omega arith
tasks_append (Ev.Spawn parent child start ∷ es) more = omega (arith, tasks_append es more)
tasks_append (Ev.Begin fuel ∷ es) more = tasks_append es more
tasks_append (Ev.Key key ∷ es) more = tasks_append es more
tasks_append (Ev.Fill key site first ∷ es) more = tasks_append es more
tasks_append (Ev.Def by site ∷ es) more = tasks_append es more
tasks_append (Ev.Del by at_place ∷ es) more = tasks_append es more
tasks_append (Ev.Done by ended ∷ es) more = tasks_append es more

-- ---- lists put together

times_flat : (f g : ℕ → List ℕ) (t u x n : ℕ) (ys : List ℕ) → Between x n ys → ((y : ℕ) → x < y → y < n → times t (f y) ≡ times u (g y))
    → times t (flat_map f ys) ≡ times u (flat_map g ys)
times_flat f g t u x n [] b h = refl
times_flat f g t u x n (y ∷ ys) (a, l, b) h =
    omega (arith, times_append t (f y) (flat_map f ys), times_append u (g y) (flat_map g ys), h y a l, times_flat f g t u x n ys b h)

flat_same : (f g : ℕ → List ℕ) (x n : ℕ) (ys : List ℕ) → Between x n ys → ((y : ℕ) → x < y → y < n → f y ≡ g y) → flat_map f ys ≡ flat_map g ys
flat_same f g x n [] b h = refl
flat_same f g x n (y ∷ ys) (a, l, b) h = ap (λ zs. zs ++ flat_map f ys) (h y a l) ∙ ap (λ zs. g y ++ zs) (flat_same f g x n ys b h)

flat_append : (f : ℕ → List ℕ) (xs ys : List ℕ) → flat_map f (xs ++ ys) ≡ flat_map f xs ++ flat_map f ys
flat_append f [] ys = refl
flat_append f (x ∷ xs) ys = ap (λ zs. f x ++ zs) (flat_append f xs ys) ∙ sym (append_assoc (f x) (flat_map f xs) (flat_map f ys))

flat_nil : (es : List Event) (ys : List ℕ) → flat_map (subtree es 0) ys ≡ []
flat_nil es [] = refl
flat_nil es (y ∷ ys) = flat_nil es ys

-- ---- what is right of the events so far

record Good (es : List Event) : Type 0 where
  some : 0 < tasks_of es
  children : (x : ℕ) → Between x (tasks_of es) (children_of x es)
  once : (t : ℕ) → t < tasks_of es → times t (path_order es) ≡ 1
  only : (t : ℕ) → tasks_of es ≤ t → times t (path_order es) ≡ 0

-- no generation is past the number of tasks
subtree_ends : (es : List Event) → Good es → (g x : ℕ) → x < tasks_of es → tasks_of es ≤ x + g → subtree es (suc g) x ≡ subtree es g x
subtree_ends es h zero x l m = absurd (omega (arith, l, m))
subtree_ends es h (suc g) x l m =
    ap (λ zs. x ∷ zs)
    (flat_same (subtree es (suc g)) (subtree es g) x (tasks_of es) (children_of x es) (h.children x) (λ y a b. subtree_ends es h g y b (omega (arith, m, a))))

-- ---- an event that starts no task

module _ (es : List Event) (e : Event) (same_children : (x : ℕ) → children_of x (es ++ e ∷ []) ≡ children_of x es) (same_tasks : tasks_of (es ++ e ∷ []) ≡ tasks_of es) where
  flat_all : (f g : ℕ → List ℕ) (ys : List ℕ) → ((y : ℕ) → f y ≡ g y) → flat_map f ys ≡ flat_map g ys
  flat_all f g [] h = refl
  flat_all f g (y ∷ ys) h = ap (λ zs. zs ++ flat_map f ys) (h y) ∙ ap (λ zs. g y ++ zs) (flat_all f g ys h)

  same_subtree : (g x : ℕ) → subtree (es ++ e ∷ []) g x ≡ subtree es g x
  same_subtree zero x = refl
  same_subtree (suc g) x =
      ap (λ ys. x ∷ flat_map (subtree (es ++ e ∷ []) g) ys) (same_children x)
      ∙ ap (λ zs. x ∷ zs) (flat_all (subtree (es ++ e ∷ []) g) (subtree es g) (children_of x es) (same_subtree g))

  same_path : path_order (es ++ e ∷ []) ≡ path_order es
  same_path = ap (λ n. subtree (es ++ e ∷ []) n 0) same_tasks ∙ same_subtree (tasks_of es) 0

  still_good : Good es → Good (es ++ e ∷ [])
  still_good h = record {
    some = subst (λ n. 0 < n) (sym same_tasks) h.some;
    children = λ x. subst (λ n. Between x n (children_of x (es ++ e ∷ []))) (sym same_tasks) (subst (Between x (tasks_of es)) (sym (same_children x)) (h.children x));
    once = λ t l. ap (times t) same_path ∙ h.once t (omega (arith, l, same_tasks));
    only = λ t l. ap (times t) same_path ∙ h.only t (omega (arith, l, same_tasks));
  }

-- ---- a spawn

module _ (es : List Event) (p : ℕ) (start : Start) (h : Good es) (parent : p < tasks_of es) where
  abbrev more : List Event
  more = es ++ Ev.Spawn p (tasks_of es) start ∷ []

  -- a task gets the new one as its last child where it is the parent
  extra : ℕ → List ℕ
  extra x = cond (nat_eq p x) (tasks_of es ∷ []) []

  children_more : (x : ℕ) → children_of x more ≡ children_of x es ++ extra x
  unfolding extra
  children_more x = children_append x es (Ev.Spawn p (tasks_of es) start ∷ [])

  tasks_more : tasks_of more ≡ suc (tasks_of es)
  tasks_more = omega (arith, tasks_append es (Ev.Spawn p (tasks_of es) start ∷ []))

  extra_self : extra p ≡ tasks_of es ∷ []
  unfolding extra
  extra_self = let q : nat_eq p p ≡ true = grind arith in ap (λ b. cond b (tasks_of es ∷ []) []) q

  extra_other : (x : ℕ) → (p ≡ x → ⊥) → extra x ≡ []
  unfolding extra
  extra_other x d = by (nat_eq p x) refl
    where
      by : (b : Bool) → nat_eq p x ≡ b → cond (nat_eq p x) (tasks_of es ∷ []) [] ≡ []
      by true q = absurd (d (grind (arith, q)))
      by false q = ap (λ b. cond b (tasks_of es ∷ []) []) q

  -- the new task has no children
  no_children : children_of (tasks_of es) more ≡ []
  no_children =
      children_more (tasks_of es)
      ∙ ap (λ zs. zs ++ extra (tasks_of es)) (none_past (tasks_of es) (tasks_of es) (children_of (tasks_of es) es) (omega arith) (h.children (tasks_of es)))
      ∙ extra_other (tasks_of es) (λ e. absurd (omega (arith, e, parent)))

  alone : (g : ℕ) → subtree more (suc g) (tasks_of es) ≡ tasks_of es ∷ []
  alone g = ap (λ ys. tasks_of es ∷ flat_map (subtree more g) ys) no_children

  -- what a subtree has, part by part
  subtree_more : (g x t : ℕ) → times t (subtree more (suc g) x)
      ≡ one_if (nat_eq t x) + (times t (flat_map (subtree more g) (children_of x es)) + times t (flat_map (subtree more g) (extra x)))
  subtree_more g x t =
      ap (λ ys. times t (x ∷ flat_map (subtree more g) ys)) (children_more x)
      ∙ times_cons t x (flat_map (subtree more g) (children_of x es ++ extra x))
      ∙ ap (λ n. one_if (nat_eq t x) + n)
      (ap (times t) (flat_append (subtree more g) (children_of x es) (extra x)) ∙ times_append t (flat_map (subtree more g) (children_of x es)) (flat_map (subtree more g) (extra x)))

  -- the new task's own subtree has no other
  extra_none : (g x t : ℕ) → (t ≡ tasks_of es → ⊥) → times t (flat_map (subtree more g) (extra x)) ≡ 0
  extra_none zero x t d = ap (times t) (flat_nil more (extra x))
  extra_none (suc g) x t d = by (nat_eq p x) refl
    where
      by : (b : Bool) → nat_eq p x ≡ b → times t (flat_map (subtree more (suc g)) (extra x)) ≡ 0
      by true q =
          let e : p ≡ x = grind (arith, q) in
          ap (λ z. times t (flat_map (subtree more (suc g)) (extra z))) (sym e)
          ∙ ap (λ ys. times t (flat_map (subtree more (suc g)) ys)) extra_self
          ∙ ap (λ zs. times t (zs ++ [])) (alone g)
          ∙ times_cons t (tasks_of es) []
          ∙ omega (arith, one_other t (tasks_of es) d)
      by false q = ap (λ ys. times t (flat_map (subtree more (suc g)) ys)) (extra_other x (λ e. (let w : nat_eq p x ≡ true = grind (arith, e) in let z : true ≡ false = sym w ∙ q in cc)))

  -- the other tasks stand as often as before
  others : (t : ℕ) → (t ≡ tasks_of es → ⊥) → (g x : ℕ) → times t (subtree more g x) ≡ times t (subtree es g x)
  others t d zero x = refl
  others t d (suc g) x =
      omega (
        arith,
        subtree_more g x t,
        extra_none g x t d,
        times_cons t x (flat_map (subtree es g) (children_of x es)),
        times_flat (subtree more g) (subtree es g) t t x (tasks_of es) (children_of x es) (h.children x) (λ y a b. others t d g y),
      )

  -- where the parent stands, the new task stands one generation later
  extra_once : (g x : ℕ) → times (tasks_of es) (flat_map (subtree more (suc g)) (extra x)) ≡ one_if (nat_eq p x)
  extra_once g x = by (nat_eq p x) refl
    where
      by : (b : Bool) → nat_eq p x ≡ b → times (tasks_of es) (flat_map (subtree more (suc g)) (extra x)) ≡ one_if (nat_eq p x)
      by true q =
          let e : p ≡ x = grind (arith, q) in
          ap (λ z. times (tasks_of es) (flat_map (subtree more (suc g)) (extra z))) (sym e)
          ∙ ap (λ ys. times (tasks_of es) (flat_map (subtree more (suc g)) ys)) extra_self
          ∙ ap (λ zs. times (tasks_of es) (zs ++ [])) (alone g)
          ∙ times_cons (tasks_of es) (tasks_of es) []
          ∙ omega (arith, one_same (tasks_of es) (tasks_of es) refl, one_same p x e)
      by false q =
          let d : p ≡ x → ⊥ = λ e. (let w : nat_eq p x ≡ true = grind (arith, e) in let z : true ≡ false = sym w ∙ q in cc) in
          ap (λ ys. times (tasks_of es) (flat_map (subtree more (suc g)) ys)) (extra_other x d) ∙ sym (one_other p x d)

  child_as_parent : (g x : ℕ) → x < tasks_of es → times (tasks_of es) (subtree more (suc g) x) ≡ times p (subtree es g x)
  child_as_parent zero x l =
      omega (
        arith,
        subtree_more zero x (tasks_of es),
        one_other (tasks_of es) x (λ e. absurd (omega (arith, e, l))),
        ap (times (tasks_of es)) (flat_nil more (children_of x es)),
        ap (times (tasks_of es)) (flat_nil more (extra x)),
      )
  child_as_parent (suc g) x l =
      omega (
        arith,
        subtree_more (suc g) x (tasks_of es),
        one_other (tasks_of es) x (λ e. absurd (omega (arith, e, l))),
        extra_once g x,
        times_cons p x (flat_map (subtree es g) (children_of x es)),
        times_flat (subtree more (suc g)) (subtree es g) (tasks_of es) p x (tasks_of es) (children_of x es) (h.children x) (λ y a b. child_as_parent g y b),
      )

  path_more : path_order more ≡ subtree more (suc (tasks_of es)) 0
  path_more = ap (λ n. subtree more n 0) tasks_more

  others_path : (t : ℕ) → (t ≡ tasks_of es → ⊥) → times t (path_order more) ≡ times t (path_order es)
  others_path t d = ap (times t) path_more ∙ others t d (suc (tasks_of es)) 0 ∙ ap (times t) (subtree_ends es h (tasks_of es) 0 h.some (omega arith))

  child_path : times (tasks_of es) (path_order more) ≡ 1
  child_path = ap (times (tasks_of es)) path_more ∙ child_as_parent (tasks_of es) 0 h.some ∙ h.once p parent

  extra_between : (x : ℕ) → Between x (suc (tasks_of es)) (extra x)
  extra_between x = by (nat_eq p x) refl
    where
      by : (b : Bool) → nat_eq p x ≡ b → Between x (suc (tasks_of es)) (extra x)
      by true q =
          let e : p ≡ x = grind (arith, q) in
          subst (λ z. Between z (suc (tasks_of es)) (extra z)) e (subst (Between p (suc (tasks_of es))) (sym extra_self) (parent, omega arith, tt))
      by false q = subst (Between x (suc (tasks_of es))) (sym (extra_other x (λ e. (let w : nat_eq p x ≡ true = grind (arith, e) in let z : true ≡ false = sym w ∙ q in cc)))) tt

  spawned_good : Good more
  spawned_good = record {
    some = omega (arith, tasks_more);
    children = λ x. subst (λ n. Between x n (children_of x more)) (sym tasks_more)
        (subst (Between x (suc (tasks_of es))) (sym (children_more x))
        (between_append x (suc (tasks_of es)) (children_of x es) (extra x) (between_wider x (tasks_of es) (suc (tasks_of es)) (children_of x es) (omega arith) (h.children x)) (extra_between x)));
    once = λ t l. by_once t l (nat_eq t (tasks_of es)) refl;
    only = λ t l. others_path t (λ e. absurd (omega (arith, e, l, tasks_more))) ∙ h.only t (omega (arith, l, tasks_more));
  }
    where
      by_once : (t : ℕ) → t < tasks_of more → (b : Bool) → nat_eq t (tasks_of es) ≡ b → times t (path_order more) ≡ 1
      by_once t l true q = let e : t ≡ tasks_of es = grind (arith, q) in subst (λ n. times n (path_order more) ≡ 1) (sym e) child_path
      by_once t l false q =
          let d : t ≡ tasks_of es → ⊥ = λ e. (let w : nat_eq t (tasks_of es) ≡ true = grind (arith, e) in let z : true ≡ false = sym w ∙ q in cc) in
          others_path t d ∙ h.once t (less d)
        where
          less : (t ≡ tasks_of es → ⊥) → t < tasks_of es
          less d = grind (arith, l, tasks_more, d)

-- ---- a whole list

module _ (P : Program) where
  one_more : (past : List Event) (e : Event) → Good past → MayCome P past e → Good (past ++ e ∷ [])
  one_more past (Ev.Begin fuel) h m = still_good past (Ev.Begin fuel) (λ x. children_append x past _ ∙ append-nil _) (omega (arith, tasks_append past (Ev.Begin fuel ∷ []))) h
  one_more past (Ev.Key key) h m = still_good past (Ev.Key key) (λ x. children_append x past _ ∙ append-nil _) (omega (arith, tasks_append past (Ev.Key key ∷ []))) h
  one_more past (Ev.Fill key site first) h m =
      still_good past (Ev.Fill key site first) (λ x. children_append x past _ ∙ append-nil _) (omega (arith, tasks_append past (Ev.Fill key site first ∷ []))) h
  one_more past (Ev.Def task site) h m = still_good past (Ev.Def task site) (λ x. children_append x past _ ∙ append-nil _) (omega (arith, tasks_append past (Ev.Def task site ∷ []))) h
  one_more past (Ev.Del task at_place) h m = still_good past (Ev.Del task at_place) (λ x. children_append x past _ ∙ append-nil _) (omega (arith, tasks_append past (Ev.Del task at_place ∷ []))) h
  one_more past (Ev.Done task ended) h m = still_good past (Ev.Done task ended) (λ x. children_append x past _ ∙ append-nil _) (omega (arith, tasks_append past (Ev.Done task ended ∷ []))) h
  one_more past (Ev.Spawn task child start) h m = subst (λ n. Good (past ++ Ev.Spawn task n start ∷ [])) (sym m.next) (spawned_good past task start h m.running.started)

  all_good : (past es : List Event) → Good past → EachAfter (MayCome P) past es → Good (past ++ es)
  all_good past [] h m = subst Good (sym (append-nil past)) h
  all_good past (e ∷ es) h m = subst Good (append_assoc past (e ∷ []) es) (all_good (past ++ e ∷ []) es (one_more past e h m.0) m.1)

  first_good : Good []
  first_good = record { some = omega arith; children = λ x. tt; once = λ t l. by t l; only = λ t l. by_only t l }
    where
      by : (t : ℕ) → t < 1 → times t (0 ∷ []) ≡ 1
      by zero l = refl
      by (suc t) l = absurd (omega (arith, l))

      by_only : (t : ℕ) → 1 ≤ t → times t (0 ∷ []) ≡ 0
      by_only t l = omega (arith, times_cons t 0 [], one_other t 0 (λ e. absurd (omega (arith, e, l))))

  good : (es : List Event) → MayStand P es → Good es
  good es h = all_good [] es first_good h.come

  pub path_once : (es : List Event) → MayStand P es → (task : ℕ) → task < tasks_of es → times task (path_order es) ≡ 1
  path_once es h task l = (good es h).once task l

  pub path_only : (es : List Event) → MayStand P es → (task : ℕ) → tasks_of es ≤ task → times task (path_order es) ≡ 0
  path_only es h task l = (good es h).only task l

  -- in wait order stand the same tasks
  awaited_same : (es : List Event) → Good es → (t g x : ℕ) → times t (subtree_last es g x) ≡ times t (subtree es g x)
  awaited_same es h t zero x = refl
  awaited_same es h t (suc g) x =
      omega (
        arith,
        times_append t (flat_map (subtree_last es g) (children_of x es)) (x ∷ []),
        times_cons t x [],
        times_cons t x (flat_map (subtree es g) (children_of x es)),
        times_flat (subtree_last es g) (subtree es g) t t x (tasks_of es) (children_of x es) (h.children x) (λ y a b. awaited_same es h t g y),
      )

  pub wait_same : (es : List Event) → MayStand P es → (task : ℕ) → times task (wait_order es) ≡ times task (path_order es)
  wait_same es h task = awaited_same es (good es h) task (tasks_of es) 0
