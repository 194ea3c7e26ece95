-- Steps of loops over numbers that are in order, each above those before it.
use Rattle.std.proofs.Common.{◌≡◌, ◌∙◌, ap, sym, subst, refl, ℕ, zero, suc, ◌+◌, ◌<◌, ◌≤◌, arith, List, [], ◌∷◌, ◌++◌, length, take, drop, get_or}
use Rattle.std.specs.List.{All, Contains}
use Rattle.std.proofs.lemmas.List.{drop_more, take_all}
use Rattle.std.proofs.lemmas.List.Elements.{All-head, All-tail, All-more, All-weaker}
use Rattle.jl_methods.specs.Numbered.{put_each, put_at, RisesFrom}

pub rises_less : (low high : ℕ) (ns : List ℕ) → low ≤ high → RisesFrom high ns → RisesFrom low ns
rises_less low high [] l h = tt
rises_less low high (n ∷ ns) l h = (omega (arith, l, h.0), h.1)

pub rises_at : (low : ℕ) (ns : List ℕ) (k d : ℕ) → k < length ns → RisesFrom low ns → low ≤ get_or ns k d
rises_at low [] k d l h = absurd (omega (arith, l))
rises_at low (n ∷ ns) zero d l h = h.0
rises_at low (n ∷ ns) (suc k) d l h = omega (arith, h.0, rises_at (n + 1) ns k d (omega (arith, l)) h.1)

-- one more at the end
pub rises_push : (low : ℕ) (ns : List ℕ) (n : ℕ) → low ≤ n → RisesFrom low ns → ((m : ℕ) → Contains ns m → m < n) → RisesFrom low (ns ++ n ∷ [])
rises_push low [] n l r b = (l, tt)
rises_push low (m ∷ ns) n l r b =
    let w = b m (0, omega arith, refl) in
    (r.0, rises_push (m + 1) ns n (omega (arith, w)) r.1 (λ k c. b k (suc c.0, omega (arith, c.1), c.2)))

module _ (P Q : ℕ → Type 0) where
  pub first_has : (ns : List ℕ) (i : ℕ) → i < length ns → All P (drop i ns) → P (get_or ns i 0)
  first_has ns i l h = All-head P (get_or ns i 0) (drop (i + 1) ns) (subst (All P) (drop_more ns i 0 l) h)

  others_have : (low n : ℕ) (ns : List ℕ) → RisesFrom low (n ∷ ns) → ((m : ℕ) → (m ≡ n → ⊥) → P m → Q m) → All P ns → All Q ns
  others_have low n ns r other all =
      λ k d l. other (get_or ns k d) (λ e. absurd (omega (arith, e, rises_at (n + 1) ns k d l r.1))) (all k d l)

  -- what holds of the others still holds after the first is done
  pub rest_has : (ns : List ℕ) (i : ℕ) → i < length ns → RisesFrom 0 (drop i ns) → ((m : ℕ) → (m ≡ get_or ns i 0 → ⊥) → P m → Q m) → All P (drop i ns) → All Q (drop (i + 1) ns)
  rest_has ns i l r other all =
      others_have 0 (get_or ns i 0) (drop (i + 1) ns) (subst (RisesFrom 0) (drop_more ns i 0 l) r) other
      (All-tail P (get_or ns i 0) (drop (i + 1) ns) (subst (All P) (drop_more ns i 0 l) all))

  -- it holds of one more after it was done for this one
  pub more_have : (ns : List ℕ) (i : ℕ) → i < length ns → ((m : ℕ) → P m → Q m) → All P (take i ns) → Q (get_or ns i 0) → All Q (take (i + 1) ns)
  more_have ns i l keep all one = All-more Q ns i 0 l (All-weaker P Q keep (take i ns) all) one

pub rest_rises : (ns : List ℕ) (i : ℕ) → i < length ns → RisesFrom 0 (drop i ns) → RisesFrom 0 (drop (i + 1) ns)
rest_rises ns i l r =
    rises_less 0 (get_or ns i 0 + 1) (drop (i + 1) ns) (omega arith) (subst (RisesFrom 0) (drop_more ns i 0 l) r).1

pub rest_put : {T : Type 0} (ls new : List (List T)) (ns : List ℕ) (i : ℕ) (x : T) → i < length ns → new ≡ put_at ls (get_or ns i 0) x → put_each new (drop (i + 1) ns) x ≡ put_each ls (drop i ns) x
rest_put ls new ns i x l e = ap (λ ls. put_each ls (drop (i + 1) ns) x) e ∙ ap (λ ns. put_each ls ns x) (sym (drop_more ns i 0 l))

pub all_have : (P : ℕ → Type 0) (ns : List ℕ) (i : ℕ) → length ns ≤ i → All P (take i ns) → All P ns
all_have P ns i l h = subst (All P) (take_all i ns l) h
