-- What a step keeps of the seats that it does not step.
use Rattle.std.proofs.Common.{◌≡◌, ◌≢◌, ◌⊎◌, ℕ, zero, suc, ◌<◌, List, [], ◌∷◌, ◌++◌, map, length, set, refl, sym, ap, ◌∙◌, subst, inl, inr, ⊎_elim, arith}
use mathlib.Core.Option.{some, some-injective, some-ne-none}
use lib.ListN.{get_elem?}
use Rattle.atomic_table.proofs.Lists.{at_set}
use Rattle.jl_program.specs.declared.tree.Program.{Program}
use Rattle.jl_world.specs.declared.view.View.{View}
use Rattle.jl_world.specs.Views.{Each, parts, HasTask}
use Rattle.jl_world.specs.Rule.{Now, SeatIs}

module _ {A : Type 0} where
  -- what stands in a longer list, and where
  pub at_end : (l : List A) (a b : A) (j : ℕ) → get_elem? (l ++ a ∷ []) j ≡ some b → ((j < length l) × (get_elem? l j ≡ some b)) ⊎ ((j ≡ length l) × (a ≡ b))
  at_end [] a b zero e = inr (refl, some-injective a b e)
  at_end [] a b (suc j) e = absurd (some-ne-none b (sym e))
  at_end (x ∷ xs) a b zero e = inl (omega arith, e)
  at_end (x ∷ xs) a b (suc j) e = ⊎_elim (λ t. let n = t.0 in inl (omega arith, t.1)) (λ t. inr (ap suc t.0, t.1)) (at_end xs a b j e)

  pub at_below : (l : List A) (b : A) (j : ℕ) → get_elem? l j ≡ some b → j < length l
  at_below [] b j e = absurd (some-ne-none b (sym e))
  at_below (x ∷ xs) b zero e = omega arith
  at_below (x ∷ xs) b (suc j) e = let r = at_below xs b j e in omega arith

  pub each_map : (P Q : A → Type 0) (f : A → A) → ((x : A) → P x → Q (f x)) → (xs : List A) → Each P xs → Each Q (map f xs)
  each_map P Q f h [] e = tt
  each_map P Q f h (x ∷ xs) e = (h x e.0, each_map P Q f h xs e.1)

  pub each_same : (P Q : A → Type 0) → ((x : A) → P x → Q x) → (xs : List A) → Each P xs → Each Q xs
  each_same P Q h [] e = tt
  each_same P Q h (x ∷ xs) e = (h x e.0, each_same P Q h xs e.1)

  pub each_push : (P : A → Type 0) (xs : List A) (x : A) → Each P xs → P x → Each P (xs ++ x ∷ [])
  each_push P [] x e h = (h, tt)
  each_push P (y ∷ xs) x e h = (e.0, each_push P xs x e.1 h)

abbrev pub SeatsAre : Program → Now → ℕ → List View → Type 0
SeatsAre P now seat views = (j : ℕ) (v : View) → get_elem? views j ≡ some v → SeatIs P now seat j v

abbrev pub OneSeat : List View → Type 0
OneSeat views = (t j k : ℕ) (v w : View) → get_elem? views j ≡ some v → get_elem? views k ≡ some w → HasTask t (parts v) → HasTask t (parts w) → j ≡ k

-- no other seat has a task of w
abbrev pub Apart : List View → ℕ → View → Type 0
Apart views id w = (t k : ℕ) (u : View) → k ≢ id → get_elem? views k ≡ some u → HasTask t (parts w) → HasTask t (parts u) → ⊥

pub seats_set : (P : Program) (now : Now) (seat id : ℕ) (views : List View) (w : View) → ((j : ℕ) (u : View) → j ≢ id → get_elem? views j ≡ some u → SeatIs P now seat j u) → SeatIs P now seat id w → SeatsAre P now seat (set views id w)
seats_set P now seat id views w others mine j u e =
    ⊎_elim
    (λ (x : (j ≡ id) × (w ≡ u)). subst (λ (y : ℕ × View). SeatIs P now seat y.0 y.1) (λ i. (sym x.0 i, x.1 i)) mine)
    (λ (x : (j ≢ id) × (get_elem? views j ≡ some u)). others j u x.0 x.1)
    (at_set views id j w u e)

pub one_set : (id : ℕ) (views : List View) (w : View) → OneSeat views → Apart views id w → OneSeat (set views id w)
one_set id views w one apart t j k a b ea eb ha hb =
    ⊎_elim
    (λ (x : (j ≡ id) × (w ≡ a)). ⊎_elim
    (λ (y : (k ≡ id) × (w ≡ b)). x.0 ∙ sym y.0)
    (λ (y : (k ≢ id) × (get_elem? views k ≡ some b)). absurd (apart t k b y.0 y.1 (subst (λ z. HasTask t (parts z)) (sym x.1) ha) hb))
    (at_set views id k w b eb))
    (λ (x : (j ≢ id) × (get_elem? views j ≡ some a)). ⊎_elim
    (λ (y : (k ≡ id) × (w ≡ b)). absurd (apart t j a x.0 x.1 (subst (λ z. HasTask t (parts z)) (sym y.1) hb) ha))
    (λ (y : (k ≢ id) × (get_elem? views k ≡ some b)). one t j k a b x.1 y.1 ha hb)
    (at_set views id k w b eb))
    (at_set views id j w a ea)

-- a view with no new task is apart from the other seats
pub still_apart : (id : ℕ) (views : List View) (v w : View) → OneSeat views → get_elem? views id ≡ some v → ((t : ℕ) → HasTask t (parts w) → HasTask t (parts v)) → Apart views id w
still_apart id views v w one at less t k u ne e hw hu = ne (one t k id u v e at hu (less t hw))

pub seats_push : (P : Program) (now : Now) (seat : ℕ) (views : List View) (w : View) → SeatsAre P now seat views → SeatIs P now seat (length views) w → SeatsAre P now seat (views ++ w ∷ [])
seats_push P now seat views w ok new j u e =
    ⊎_elim
    (λ (x : (j < length views) × (get_elem? views j ≡ some u)). ok j u x.1)
    (λ (x : (j ≡ length views) × (w ≡ u)). subst (λ (y : ℕ × View). SeatIs P now seat y.0 y.1) (λ i. (sym x.0 i, x.1 i)) new)
    (at_end views w u j e)

pub one_push : (views : List View) (w : View) → OneSeat views → ((t k : ℕ) (u : View) → get_elem? views k ≡ some u → HasTask t (parts w) → HasTask t (parts u) → ⊥) → OneSeat (views ++ w ∷ [])
one_push views w one apart t j k a b ea eb ha hb =
    ⊎_elim
    (λ (x : (j < length views) × (get_elem? views j ≡ some a)). ⊎_elim
    (λ (y : (k < length views) × (get_elem? views k ≡ some b)). one t j k a b x.1 y.1 ha hb)
    (λ (y : (k ≡ length views) × (w ≡ b)). absurd (apart t j a x.1 (subst (λ z. HasTask t (parts z)) (sym y.1) hb) ha))
    (at_end views w b k eb))
    (λ (x : (j ≡ length views) × (w ≡ a)). ⊎_elim
    (λ (y : (k < length views) × (get_elem? views k ≡ some b)). absurd (apart t k b y.1 (subst (λ z. HasTask t (parts z)) (sym x.1) ha) hb))
    (λ (y : (k ≡ length views) × (w ≡ b)). x.0 ∙ sym y.0)
    (at_end views w b k eb))
    (at_end views w a j ea)
