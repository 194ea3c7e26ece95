-- The wait order with one more event: it stays, or a new task stands just before its parent.
use Rattle.std.proofs.Common.{◌≡◌, ◌∙◌, ap, sym, subst, refl, ℕ, zero, suc, ◌+◌, ◌<◌, ◌≤◌, arith, Bool, true, false, cond, nat_eq, List, [], ◌∷◌, ◌++◌, append_assoc}
use Rattle.std.specs.List.{flat_map}
use Rattle.jl_program.specs.declared.tree.Start.{Start}
use Rattle.jl_calculus.specs.declared.history.Event.{Event}
use Rattle.jl_calculus.specs.declared.history.Event.TheVariants as Ev
use Rattle.jl_calculus.specs.Orders.{children_of, subtree_last, wait_order}
use Rattle.jl_calculus.specs.Past.{tasks_of}
use Rattle.jl_core.proofs.BeforeLemmas.{insert, insert_append}
use Rattle.jl_core.proofs.EventLemmas.{tasks_append, children_append}

-- each is above a number and below another
abbrev pub Between : ℕ → ℕ → List ℕ → Type 0
Between x n [] = Unit {0}
Between x n (y ∷ ys) = (x < y) × (y < n) × Between x n ys

pub between_wider : (x n m : ℕ) (ys : List ℕ) → n ≤ m → Between x n ys → Between x m ys
between_wider x n m [] l h = tt
between_wider x n m (y ∷ ys) l (a, b, h) = (a, omega (arith, b, l), between_wider x n m ys l h)

pub between_append : (x n : ℕ) (ys zs : List ℕ) → Between x n ys → Between x n zs → Between x n (ys ++ zs)
between_append x n [] zs h k = k
between_append x n (y ∷ ys) zs (a, b, h) k = (a, b, between_append x n ys zs h k)

-- there is nothing between a number and a lesser one
pub none_past : (x n : ℕ) (ys : List ℕ) → n ≤ x → Between x n ys → ys ≡ []
none_past x n [] l h = refl
none_past x n (y ∷ ys) l (a, b, h) = absurd (omega (arith, a, b, l))

flat_append : (f : ℕ → List ℕ) (xs ys : List ℕ) → flat_map f (xs ++ ys) ≡ flat_map f xs ++ flat_map f ys
flat_append f [] ys = refl
flat_append f (x ∷ xs) ys = ap (λ zs. f x ++ zs) (flat_append f xs ys) ∙ sym (append_assoc (f x) (flat_map f xs) (flat_map f ys))

flat_same : (f g : ℕ → List ℕ) (ys : List ℕ) → ((y : ℕ) → f y ≡ g y) → flat_map f ys ≡ flat_map g ys
flat_same f g [] h = refl
flat_same f g (y ∷ ys) h = ap (λ zs. zs ++ flat_map f ys) (h y) ∙ ap (λ zs. g y ++ zs) (flat_same f g ys h)

-- ---- an event that starts no task

module _ (es : List Event) (e : Event) (same_children : (x : ℕ) → children_of x (es ++ e ∷ []) ≡ children_of x es) (same_tasks : tasks_of (es ++ e ∷ []) ≡ tasks_of es) where
  same_subtree : (g x : ℕ) → subtree_last (es ++ e ∷ []) g x ≡ subtree_last es g x
  same_subtree zero x = refl
  same_subtree (suc g) x =
      ap (λ ys. flat_map (subtree_last (es ++ e ∷ []) g) ys ++ x ∷ []) (same_children x)
      ∙ ap (λ zs. zs ++ x ∷ []) (flat_same (subtree_last (es ++ e ∷ []) g) (subtree_last es g) (children_of x es) (same_subtree g))

  pub same_order : wait_order (es ++ e ∷ []) ≡ wait_order es
  same_order = ap (λ n. subtree_last (es ++ e ∷ []) n 0) same_tasks ∙ same_subtree (tasks_of es) 0

-- ---- a spawn

module _ (es : List Event) (p : ℕ) (start : Start) (bounds : (x : ℕ) → Between x (tasks_of es) (children_of x es)) where
  abbrev more : List Event
  more = es ++ Ev.Spawn p (tasks_of es) start ∷ []

  -- a task gets the new one as its last child where it is the parent
  extra : ℕ → List ℕ
  extra x = cond (nat_eq p x) (tasks_of es ∷ []) []

  children_more : (x : ℕ) → children_of x more ≡ children_of x es ++ extra x
  unfolding extra
  children_more x = children_append x es (Ev.Spawn p (tasks_of es) start ∷ [])

  tasks_more : tasks_of more ≡ suc (tasks_of es)
  tasks_more = omega (arith, tasks_append es (Ev.Spawn p (tasks_of es) start ∷ []))

  extra_by : (x : ℕ) (b : Bool) → nat_eq p x ≡ b → extra x ≡ cond b (tasks_of es ∷ []) []
  unfolding extra
  extra_by x b q = ap (λ (b : Bool). cond b (tasks_of es ∷ []) []) q

  -- the new task has no children
  no_children : p < tasks_of es → children_of (tasks_of es) more ≡ []
  no_children l =
      let other : nat_eq p (tasks_of es) ≡ false = grind arith in
      children_more (tasks_of es)
      ∙ ap (λ zs. zs ++ extra (tasks_of es)) (none_past (tasks_of es) (tasks_of es) (children_of (tasks_of es) es) (omega arith) (bounds (tasks_of es)))
      ∙ extra_by (tasks_of es) false other

  alone : p < tasks_of es → (g : ℕ) → subtree_last more (suc g) (tasks_of es) ≡ tasks_of es ∷ []
  alone l g = ap (λ ys. flat_map (subtree_last more g) ys ++ tasks_of es ∷ []) (no_children l)

  -- the new task, where it is a child, and then the task itself
  last_part : p < tasks_of es → (g x : ℕ) → flat_map (subtree_last more (suc g)) (extra x) ++ x ∷ [] ≡ insert p (tasks_of es) (x ∷ [])
  last_part l g x = by (nat_eq p x) refl
    where
      by : (b : Bool) → nat_eq p x ≡ b → flat_map (subtree_last more (suc g)) (extra x) ++ x ∷ [] ≡ insert p (tasks_of es) (x ∷ [])
      by true q =
          let turned : nat_eq x p ≡ true = grind (arith, q) in
          ap (λ ys. flat_map (subtree_last more (suc g)) ys ++ x ∷ []) (extra_by x true q)
          ∙ ap (λ zs. zs ++ [] ++ x ∷ []) (alone l g)
          ∙ ap (λ (b : Bool). cond b (tasks_of es ∷ x ∷ []) (x ∷ [])) (sym turned)
      by false q =
          let turned : nat_eq x p ≡ false = grind (arith, q) in
          ap (λ ys. flat_map (subtree_last more (suc g)) ys ++ x ∷ []) (extra_by x false q) ∙ ap (λ (b : Bool). cond b (tasks_of es ∷ x ∷ []) (x ∷ [])) (sym turned)

  -- the whole subtree, in which no generation is past the number of tasks
  flat_more : p < tasks_of es → (g x : ℕ) (ys : List ℕ) → tasks_of es ≤ x + suc g → Between x (tasks_of es) ys
      → ((y : ℕ) → y < tasks_of es → tasks_of es ≤ y + g → subtree_last more (suc g) y ≡ insert p (tasks_of es) (subtree_last es g y))
      → flat_map (subtree_last more (suc g)) ys ≡ insert p (tasks_of es) (flat_map (subtree_last es g) ys)
  flat_more l g x [] m h f = refl
  flat_more l g x (y ∷ ys) m (a, b, h) f =
      ap (λ zs. zs ++ flat_map (subtree_last more (suc g)) ys) (f y b (omega (arith, m, a)))
      ∙ ap (λ zs. insert p (tasks_of es) (subtree_last es g y) ++ zs) (flat_more l g x ys m h f)
      ∙ sym (insert_append p (tasks_of es) (subtree_last es g y) (flat_map (subtree_last es g) ys))

  subtree_more : p < tasks_of es → (g x : ℕ) → x < tasks_of es → tasks_of es ≤ x + g → subtree_last more (suc g) x ≡ insert p (tasks_of es) (subtree_last es g x)
  subtree_more l zero x m n = absurd (omega (arith, m, n))
  subtree_more l (suc g) x m n =
      ap (λ ys. flat_map (subtree_last more (suc g)) ys ++ x ∷ []) (children_more x)
      ∙ ap (λ zs. zs ++ x ∷ []) (flat_append (subtree_last more (suc g)) (children_of x es) (extra x))
      ∙ append_assoc (flat_map (subtree_last more (suc g)) (children_of x es)) (flat_map (subtree_last more (suc g)) (extra x)) (x ∷ [])
      ∙ ap (λ zs. zs ++ (flat_map (subtree_last more (suc g)) (extra x) ++ x ∷ [])) (flat_more l g x (children_of x es) n (bounds x) (λ y a b. subtree_more l g y a b))
      ∙ ap (λ zs. insert p (tasks_of es) (flat_map (subtree_last es g) (children_of x es)) ++ zs) (last_part l g x)
      ∙ sym (insert_append p (tasks_of es) (flat_map (subtree_last es g) (children_of x es)) (x ∷ []))

  pub spawned_order : p < tasks_of es → wait_order more ≡ insert p (tasks_of es) (wait_order es)
  spawned_order l = ap (λ n. subtree_last more n 0) tasks_more ∙ subtree_more l (tasks_of es) 0 (omega arith) (omega arith)

  pub spawned_bounds : p < tasks_of es → (x : ℕ) → Between x (tasks_of more) (children_of x more)
  spawned_bounds l x =
      subst (λ n. Between x n (children_of x more)) (sym tasks_more)
      (subst (Between x (suc (tasks_of es))) (sym (children_more x))
      (between_append x (suc (tasks_of es)) (children_of x es) (extra x) (between_wider x (tasks_of es) (suc (tasks_of es)) (children_of x es) (omega arith) (bounds x)) (by (nat_eq p x) refl)))
    where
      by : (b : Bool) → nat_eq p x ≡ b → Between x (suc (tasks_of es)) (extra x)
      by true q = subst (Between x (suc (tasks_of es))) (sym (extra_by x true q)) (let e : p ≡ x = grind (arith, q) in (omega (arith, e, l), omega arith, tt))
      by false q = subst (Between x (suc (tasks_of es))) (sym (extra_by x false q)) tt
