-- What holds of each of a list of numbers, and searches that find what they must.
use Rattle.std.proofs.Common.{◌≡◌, ◌∙◌, sym, subst, refl, ℕ, Bool, true, false, cond, nat_eq, eqb-true, arith, List, [], ◌∷◌, ◌++◌, Option, None, Some, inl, inr}
use Rattle.jl_model.specs.declared.ty.Ty.{Ty}
use Rattle.jl_model.specs.Found.{or_else, or_type}
use Rattle.jl_search.specs.Open.{EachVar}
use Rattle.jl_search.proofs.HasLemmas.{Has}

pub split : (P : ℕ → Type 0) (ms ns : List ℕ) → EachVar P (ms ++ ns) → EachVar P ms × EachVar P ns
split P [] ns e = (tt, e)
split P (m ∷ ms) ns e = let r = split P ms ns e.1 in ((e.0, r.0), r.1)

pub each_of : (P : ℕ → Type 0) (ns : List ℕ) → ((v : ℕ) → Has ns v → P v) → EachVar P ns
each_of P [] k = tt
each_of P (n ∷ ns) k = (k n (inl refl), each_of P ns (λ v i. k v (inr i)))

pub same_number : (v w : ℕ) → v ≡ w → nat_eq v w ≡ true
same_number v w e = grind (arith, e)

pub absent : (v : ℕ) (ns : List ℕ) → EachVar (λ w. nat_eq v w ≡ false) ns → Has ns v → ⊥
absent v [] e i = i
absent v (n ∷ ns) e (inl q) = let g : true ≡ false = sym (same_number v n (sym q)) ∙ e.0 in cc
absent v (n ∷ ns) e (inr i) = absent v ns e.1 i

-- a search found a type with P, or the variable is not among these
abbrev pub Good : (P : Ty → Type 0) (v : ℕ) → Option Ty → List ℕ → Type 0
Good P v (Some y) ns = P y
Good P v None ns = EachVar (λ w. nat_eq v w ≡ false) ns

pub good_map : (P Q : Ty → Type 0) (v : ℕ) → ((y : Ty) → P y → Q y) → (o : Option Ty) (ns : List ℕ) → Good P v o ns → Good Q v o ns
good_map P Q v f (Some y) ns g = f y g
good_map P Q v f None ns g = g

module _ (P : Ty → Type 0) (v : ℕ) where
  lacks_both : (ms ns : List ℕ) → EachVar (λ w. nat_eq v w ≡ false) ms → EachVar (λ w. nat_eq v w ≡ false) ns → EachVar (λ w. nat_eq v w ≡ false) (ms ++ ns)
  lacks_both [] ns a b = b
  lacks_both (m ∷ ms) ns a b = (a.0, lacks_both ms ns a.1 b)

  pub good_both : (a b : Option Ty) (ms ns : List ℕ) → Good P v a ms → Good P v b ns → Good P v (or_else a b) (ms ++ ns)
  good_both (Some y) b ms ns p q = p
  good_both None (Some y) ms ns p q = q
  good_both None None ms ns p q = lacks_both ms ns p q

  pub good_same : (a b : Option Ty) (ms ns : List ℕ) → a ≡ b → ms ≡ ns → Good P v b ns → Good P v a ms
  good_same a b ms ns e f g = let Q : Option Ty → Type 0 = λ z. Good P v z ms in let R : List ℕ → Type 0 = λ z. Good P v b z in subst Q (sym e) (subst R (sym f) g)

  pub bare_good : (o : Option Ty) (ns : List ℕ) → o ≡ None → ns ≡ [] → Good P v o ns
  bare_good o ns e g = good_same o None ns [] e g tt

  pub at_var : (w : ℕ) (x : Ty) (b : Bool) → nat_eq v w ≡ b → (v ≡ w → P x) → Good P v (cond b (Some x) None) (w ∷ [])
  at_var w x true e k = k (eqb-true v w e)
  at_var w x false e k = (e, tt)

  -- a search that must find
  pub sought : (o : Option Ty) (ns : List ℕ) (u : Ty) → Good P v o ns → Has ns v → P (or_type o u)
  sought (Some y) ns u g i = g
  sought None ns u g i = absurd (absent v ns g i)
