-- The steps of the resolver: what a part of a script becomes, by the state before it, and the state after it.
use Rattle.std.specs.Prelude.{◌≡◌, List, [], ◌∷◌, Result, IfOk}
use Rattle.jl_resolve_forms.specs.declared.state.State.{State}

-- a thing, and the state after it
pub record Resolution (A : Type 0) : Type 0 where
  pub value : A
  pub after : State

abbrev pub resolution : {A : Type 0} → A → State → Resolution A
resolution x s = record { value = x; after = s }

-- a state monad
abbrev pub Resolver : Type 0 → Type 0
Resolver A = State → Resolution A

abbrev pub pure : {A : Type 0} → A → Resolver A
pure x = λ s. resolution x s

-- only a change of the state
abbrev pub modify : (State → State) → Resolver (Unit {0})
modify f = λ s. resolution tt (f s)

infixl 10 ◌>>=◌
abbrev pub ◌>>=◌ : {A B : Type 0} → Resolver A → (A → Resolver B) → Resolver B
p >>= f = λ s. let r = p s in f r.value r.after

infixl 10 ◌>>◌
abbrev pub ◌>>◌ : {A B : Type 0} → Resolver A → Resolver B → Resolver B
p >> q = λ s. let r = p s in q r.after

-- parts from left to right
abbrev pub traverse : {A B : Type 0} → (A → Resolver B) → List A → Resolver (List B)
traverse f [] = pure []
traverse f (x ∷ xs) = do
  y ← f x
  ys ← traverse f xs
  pure (y ∷ ys)

-- a call gives what a resolver gives, unless it fails
abbrev pub Resolves : {A E : Type 0} → Result A E → State → Resolution A → Type 0
Resolves result after r = IfOk result (λ x. resolution x after ≡ r)
