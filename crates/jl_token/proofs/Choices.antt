-- What holds of a choice, by its cases.
use Rattle.std.proofs.Common.{◌≡◌, Bool, true, false, cond, ◌||◌, ◌&&◌, ◌⊎◌, inl, inr, Option, Some, None, refl}
use Rattle.jl_token.specs.Operators.{by}

pub if-sound : {A : Type 0} (P : A → Type 0) (b : Bool) (x y : A) → (b ≡ true → P x) → (b ≡ false → P y) → P (cond b x y)
if-sound P true x y f g = f refl
if-sound P false x y f g = g refl

pub by-sound : {A B : Type 0} (P : B → Type 0) (o : Option A) (none : B) (some : A → B) → (o ≡ None → P none) → ((x : A) → o ≡ Some x → P (some x)) → P (by o none some)
by-sound P None none some f g = f refl
by-sound P (Some x) none some f g = g x refl

pub either : (b : Bool) → (b ≡ true) ⊎ (b ≡ false)
either true = inl refl
either false = inr refl

pub no-or : (a b : Bool) → (a || b) ≡ false → (a ≡ false) × (b ≡ false)
no-or true b e = absurd cc
no-or false b e = (refl, e)

pub both-and : (a b : Bool) → (a && b) ≡ true → (a ≡ true) × (b ≡ true)
both-and true b e = (refl, e)
both-and false b e = absurd cc

pub when-true : {A : Type 0} (b : Bool) (x y z : A) → b ≡ true → cond b x y ≡ z → x ≡ z
when-true true x y z t e = e
when-true false x y z t e = absurd cc

pub when-false : {A : Type 0} (b : Bool) (x y z : A) → b ≡ false → cond b x y ≡ z → y ≡ z
when-false true x y z t e = absurd cc
when-false false x y z t e = e
