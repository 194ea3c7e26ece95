-- Which of several methods a call runs (Julia manual, Methods; Method Ambiguities).
use Rattle.std.specs.Prelude.{ℕ, ◌≡◌, ◌<◌, ◌≤◌, ◌⊎◌, List}
use Rattle.std.specs.List.{Contains}
use Rattle.jl_model.specs.declared.ty.Ty.{Ty}
use Rattle.jl_model.specs.declared.ty.Written.{Written}
use Rattle.jl_model.specs.Subtype.{Table}
use Rattle.jl_model.specs.Signature.{Applicable, StrictlyBelow, SameSignature}

-- a method that stands: the number of its definition and its signature
pub record Method : Type 0 where
  pub number : ℕ
  pub sig : Written

-- A table, the methods of a function in the order of their definitions, and the types of a call's arguments.
module _ (n : Table) (ms : List Method) (ts : List Ty) where
  -- a method that the arguments are below
  pub record Applies (m : Method) : Type 0 where
    pub stands : Contains ms m
    pub below : Applicable n m.sig ts

  -- it applies, and no later one that applies has the same signature
  pub record IsCandidate (m : Method) : Type 0 where
    pub applies : Applies m
    pub last : (l : Method) → Applies l → m.number < l.number → SameSignature n m.sig l.sig → ⊥

  -- it is strictly below every other candidate
  pub record IsBest (m : Method) : Type 0 where
    pub candidate : IsCandidate m
    pub below : (c : Method) → IsCandidate c → (c.number ≡ m.number → ⊥) → StrictlyBelow n m.sig c.sig

  -- two candidates, the earlier one first, of which neither is strictly below the other
  pub record IsUnordered (a b : Method) : Type 0 where
    pub first : IsCandidate a
    pub second : IsCandidate b
    pub earlier : a.number < b.number
    pub not_below : StrictlyBelow n a.sig b.sig → ⊥
    pub not_above : StrictlyBelow n b.sig a.sig → ⊥

  -- the first such pair, by its first and then by its second
  pub record IsFirstUnordered (a b : Method) : Type 0 where
    pub unordered : IsUnordered a b
    pub least : (c d : Method) → IsUnordered c d → (a.number < c.number) ⊎ ((a.number ≡ c.number) × (b.number ≤ d.number))

  -- the first two candidates
  pub record IsFirstTwo (a b : Method) : Type 0 where
    pub first : IsCandidate a
    pub second : IsCandidate b
    pub earlier : a.number < b.number
    pub least : (c : Method) → IsCandidate c → (c.number ≡ a.number) ⊎ (b.number ≤ c.number)

  -- the choice is this method
  abbrev pub ChoosesMethod : ℕ → Type 0
  ChoosesMethod d = (m : Method) × IsBest m × (m.number ≡ d)

  -- there is no candidate
  abbrev pub ChoosesNone : Type 0
  ChoosesNone = (m : Method) → IsCandidate m → ⊥

  -- no candidate is strictly below all others, and this is the pair to name: the first unordered one, else the first two
  pub record ChoosesAmbiguous (a b : ℕ) : Type 0 where
    pub none_best : (m : Method) → IsBest m → ⊥
    pub pair : (c : Method) × (d : Method) × (c.number ≡ a) × (d.number ≡ b)
        × (IsFirstUnordered c d ⊎ (((e f : Method) → IsUnordered e f → ⊥) × IsFirstTwo c d))
