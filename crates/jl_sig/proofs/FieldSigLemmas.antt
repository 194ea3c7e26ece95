-- The marks of what is called, and the signatures of fields one after another.
use Rattle.std.proofs.Common.{◌≡◌, refl, sym, subst, ℕ, suc, ◌<◌, arith, Bool, true, false, ◌||◌, nat_eq, All, List, [], ◌∷◌, length, drop, get_or, Option}
use Rattle.std.specs.List.{list_any}
use Rattle.std.proofs.lemmas.Bool.{eqb-true}
use Rattle.jl_model.specs.declared.ty.Decl.{Decl}
use Rattle.jl_program.specs.declared.tree.Program.{Program}
use Rattle.jl_program.specs.BodyTypes.{IsSmallStruct}
use Rattle.jl_program.specs.Gathered.{inferred_structs}
use Rattle.jl_program.specs.Scope.{all_types}
use Rattle.jl_program.specs.Valid.{IsValid}
use Rattle.jl_sig.specs.declared.sig.Sig.{Sig}
use Rattle.jl_sig.specs.Inferred.{is_one_of, IsSmall, AreSmall, IsFieldSig}

-- the marks so far, and those to come
pub record Marking (ds : List Decl) (called : List ℕ) (i : ℕ) (marks : List Bool) : Type 0 where
  pub long : length marks ≡ length ds
  pub each : (k : ℕ) → k < length ds → (get_or marks k false || is_one_of (drop i called) k) ≡ is_one_of called k

-- the signatures of the fields of the first types
pub record Front (ds : List Decl) (called : List ℕ) (i : ℕ) (sigs : List (Option Sig)) : Type 0 where
  pub long : length sigs ≡ i
  pub each : (k : ℕ) (d : Option Sig) → k < length sigs → IsFieldSig ds (is_one_of called k) k (get_or sigs k d)

-- of the structs that a valid program calls the signatures of the fields are small
small_in : (ds : List Decl) (called : List ℕ) (k : ℕ) → All (IsSmallStruct ds) called → list_any (nat_eq k) called ≡ true → IsSmall ds k
small_in ds [] k h e = cc
small_in ds (x ∷ xs) k h e =
    elim (nat_eq k x) as (λ b. nat_eq k x ≡ b → (b || list_any (nat_eq k) xs) ≡ true → IsSmall ds k) [
      | true ↦ λ p q. subst (IsSmall ds) (sym (eqb-true k x p)) (h 0 x (omega arith))
      | false ↦ λ p q. small_in ds xs k (λ i d l. h (suc i) d (omega arith)) q
    ] refl e

pub small_structs : (P : Program) → IsValid P → (ds : List Decl) (called : List ℕ) → ds ≡ all_types P → called ≡ inferred_structs P → AreSmall ds called
small_structs P v ds called e f k is =
    subst (λ z. IsSmall z k) (sym e) (small_in (all_types P) (inferred_structs P) k v.inferred (subst (λ z. is_one_of z k ≡ true) f is))
