-- What holds of a value that is read in several steps, where one is read.
use Rattle.std.proofs.Common.{◌≡◌, refl, subst, arith, ℕ, Bool, true, false, cond, ◌&&◌, nat_eq, List, bytes_eq, Option, None, Some, IfSome}
use Rattle.std.specs.Cmp.Lexicographic.{bytes_decides}
use Rattle.std.specs.Str.{IsUtf8, is_utf8}
use Rattle.std.proofs.lemmas.Str.{IsUtf8-from_is_utf8}
use Rattle.jl_history.specs.Fields.{◌>>=◌}

pub bind_holds : {A B : Type 0} (o : Option A) (f : A → Option B) (P : A → Type 0) (Q : B → Type 0) → IfSome o P → ((x : A) → P x → IfSome (f x) Q) → IfSome (o >>= f) Q
bind_holds None f P Q h k = tt
bind_holds (Some x) f P Q h k = k x h

pub cond_holds : {A : Type 0} (b : Bool) (x y : Option A) (Q : A → Type 0) → (b ≡ true → IfSome x Q) → (b ≡ false → IfSome y Q) → IfSome (cond b x y) Q
cond_holds true x y Q h k = h refl
cond_holds false x y Q h k = k refl

pub and_true : (a b : Bool) → a && b ≡ true → (a ≡ true) × (b ≡ true)
and_true true b h = (refl, h)
and_true false b h = (let bad : false ≡ true = h in cc)

-- what is read is so, where it is known what is read
pub holds_at : {A : Type 0} (o : Option A) (x : A) (Q : A → Type 0) → IfSome o Q → o ≡ Some x → Q x
holds_at o x Q h e = subst (λ z. IfSome z Q) e h

pub same_number : (a b : ℕ) → nat_eq a b ≡ true → a ≡ b
same_number a b h = grind (arith, h)

pub same_bytes : (a b : List ℕ) → bytes_eq a b ≡ true → a ≡ b
same_bytes a b h = (bytes_decides a b).0 h

pub bytes_same : (a b : List ℕ) → a ≡ b → bytes_eq a b ≡ true
bytes_same a b h = (bytes_decides a b).1 h

pub not_utf8 : (bs : List ℕ) → (IsUtf8 bs → ⊥) → is_utf8 bs ≡ false
not_utf8 bs h = by (is_utf8 bs) refl
  where
    by : (t : Bool) → is_utf8 bs ≡ t → is_utf8 bs ≡ false
    by true e = absurd (h (IsUtf8-from_is_utf8 bs e))
    by false e = e
