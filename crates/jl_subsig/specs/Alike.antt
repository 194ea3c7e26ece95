-- Signatures that differ in the writing of arguments alone.
use Rattle.std.specs.Prelude.{ℕ, ◌≡◌}
use Rattle.jl_model.specs.declared.ty.Ty.{Ty}
use Rattle.jl_model.specs.declared.ty.Written.{Written}
use Rattle.jl_model.specs.Kinds.{diagonal}
use Rattle.jl_model.specs.Rows.{kind, vars_in}
use Rattle.jl_model.specs.Subtype.{Table, Equal}
use Rattle.jl_model.specs.Signature.{Row, Both}
use Rattle.jl_model.specs.Normal.{IsNormalForm}
use Rattle.jl_model.specs.Refusals.{bound_types}
use Rattle.jl_types.specs.Form.{Settles}

-- equal arguments, with the same variables
abbrev pub EqualArguments : Table → Ty → Ty → Type 0
EqualArguments n t u = Equal n t u × (vars_in t ≡ vars_in u)

-- one type is the other but for equal arguments of nominal types
abbrev pub Alike : Table → Ty → Ty → Type 0
Alike n = Settles (EqualArguments n)

-- the signatures differ in equal arguments alone
pub record AreAlike (n : Table) (a b : Written) : Type 0 where
  pub bounds : Both (Alike n) (bound_types a.vars) (bound_types b.vars)
  pub parts : Both (Alike n) a.parts b.parts

-- k is s with the arguments of nominal types in normal form
pub record IsKeptForm (n : Table) (s k : Written) : Type 0 where
  pub bounds : Both (Settles (IsNormalForm n)) (bound_types s.vars) (bound_types k.vars)
  pub parts : Both (Settles (IsNormalForm n)) s.parts k.parts

-- q is the row r of s with the arguments of nominal types in normal form
pub record IsKeptRow (n : Table) (s : Written) (r q : Row) : Type 0 where
  pub parts : Both (Settles (IsNormalForm n)) r.parts q.parts
  pub chosen : (v : ℕ) → kind s v ≡ diagonal → Settles (IsNormalForm n) (r.chosen v) (q.chosen v)
  pub others : (v : ℕ) → (kind s v ≡ diagonal → ⊥) → r.chosen v ≡ q.chosen v
