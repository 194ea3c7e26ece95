-- The answers of comparisons, one after another.
use Rattle.std.proofs.Common.{◌≡◌, sym, ap, subst, refl, ℕ, zero, suc, ◌+◌, ◌<◌, arith, Bool, false, List, [], ◌∷◌, ◌++◌, length, get_or, ◌⊎◌, inl, inr}
use Rattle.jl_model.specs.declared.ty.Written.{Written}
use Rattle.jl_model.specs.Choice as M
use Rattle.jl_model.specs.Signature.{SigBelow}
use Rattle.jl_model.specs.Subtype.{Table}
use Rattle.jl_model.specs.declared.ty.Decl.{Decl}
use Rattle.jl_types.proofs.GroundLemmas.{Tells}
use Rattle.jl_subsig.specs.declared.choice.Method.{Method}
use Rattle.jl_subsig.specs.Side.{Every}
use Rattle.jl_subsig.specs.Decide.{method_in, methods_in, nth, IsSound, IsCompared}

-- so far
abbrev pub Answered : Table → Written → List M.Method → List Bool → Type 0
Answered n s ms bs = (j : ℕ) → j < length bs → Tells (get_or bs j false) (SigBelow n s (nth ms j).sig)

abbrev pub AllAnswered : Table → List M.Method → List (List Bool) → Type 0
AllAnswered n ms bss = (i : ℕ) → i < length bss → IsCompared n (nth ms i).sig ms (get_or bss i [])

get_before : {A : Type 0} (xs : List A) (x d : A) (j : ℕ) → j < length xs → get_or (xs ++ x ∷ []) j d ≡ get_or xs j d
get_before [] x d j l = absurd (omega arith)
get_before (y ∷ ys) x d zero l = refl
get_before (y ∷ ys) x d (suc j) l = get_before ys x d j (omega arith)

get_end : {A : Type 0} (xs : List A) (x d : A) → get_or (xs ++ x ∷ []) (length xs) d ≡ x
get_end [] x d = refl
get_end (y ∷ ys) x d = get_end ys x d

pub long_push : {A : Type 0} (xs : List A) (x : A) → length (xs ++ x ∷ []) ≡ length xs + 1
long_push [] x = omega arith
long_push (y ∷ ys) x = let e = long_push ys x in omega (arith, e)

last_or : (j m : ℕ) → j < m + 1 → (j < m) ⊎ (j ≡ m)
last_or zero zero l = inr refl
last_or zero (suc m) l = inl (omega arith)
last_or (suc j) zero l = absurd (omega arith)
last_or (suc j) (suc m) l = elim (last_or j m (omega arith)) [ inl i ↦ inl (omega (arith, i)) | inr e ↦ inr (ap suc e) ]

pub answered_push : (n : Table) (s : Written) (ms : List M.Method) (bs : List Bool) (b : Bool) → Answered n s ms bs → Tells b (SigBelow n s (nth ms (length bs)).sig) → Answered n s ms (bs ++ b ∷ [])
answered_push n s ms bs b h t j l = elim (last_or j (length bs) (let e = long_push bs b in omega (arith, l, e))) [
  | inl i ↦ subst (λ z. Tells z (SigBelow n s (nth ms j).sig)) (sym (get_before bs b false j i)) (h j i)
  | inr e ↦ subst (λ z. Tells (get_or (bs ++ b ∷ []) z false) (SigBelow n s (nth ms z).sig)) (sym e) (subst (λ z. Tells z (SigBelow n s (nth ms (length bs)).sig)) (sym (get_end bs b false)) t)
]

pub all_push : (n : Table) (ms : List M.Method) (bss : List (List Bool)) (bs : List Bool) → AllAnswered n ms bss → IsCompared n (nth ms (length bss)).sig ms bs → AllAnswered n ms (bss ++ bs ∷ [])
all_push n ms bss bs h t j l = elim (last_or j (length bss) (let e = long_push bss bs in omega (arith, l, e))) [
  | inl i ↦ subst (λ z. IsCompared n (nth ms j).sig ms z) (sym (get_before bss bs [] j i)) (h j i)
  | inr e ↦ subst (λ z. IsCompared n (nth ms z).sig ms (get_or (bss ++ bs ∷ []) z [])) (sym e) (subst (λ z. IsCompared n (nth ms (length bss)).sig ms z) (sym (get_end bss bs [])) t)
]

-- one method, by its place
pub method-at : (ms : List Method) (i : ℕ) (m : Method) → i < length ms → m ≡ get_or ms i m → method_in m ≡ nth (methods_in ms) i
method-at [] i m l e = absurd (omega arith)
method-at (x ∷ ms) zero m l e = ap method_in e
method-at (x ∷ ms) (suc i) m l e = method-at ms i m (omega arith) e

pub sound-at : (ds : List Decl) (ms : List Method) (i : ℕ) (m : Method) → Every (IsSound ds) ms → i < length ms → m ≡ get_or ms i m → IsSound ds m
sound-at ds [] i m h l e = absurd (omega arith)
sound-at ds (x ∷ ms) zero m h l e = subst (IsSound ds) (sym e) h.0
sound-at ds (x ∷ ms) (suc i) m h l e = sound-at ds ms i m h.1 (omega arith) e

pub methods_long : (ms : List Method) → length (methods_in ms) ≡ length ms
methods_long [] = refl
methods_long (m ∷ ms) = ap suc (methods_long ms)
