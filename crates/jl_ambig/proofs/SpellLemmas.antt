-- Spellings, form by form.
use Rattle.std.proofs.Common.{◌≡◌, ap, refl, arith, List, [], ◌∷◌, ◌++◌, map, length}
use Rattle.std.specs.List.{flat_map}
use Rattle.jl_model.specs.declared.ty.Ty.{Ty}
use Rattle.jl_model.specs.declared.ty.Ty.TheViews as V
use Rattle.jl_model.specs.Order.{spelled, spell_all}
use Rattle.jl_model.proofs.FormLemmas.{spelled-any, spelled-var, spelled-nominal, spelled-tuple, spelled-none, spelled-union}

pub flat-spelled : (ts : List Ty) → flat_map (λ s. s) (map spelled ts) ≡ flat_map spelled ts
flat-spelled [] = refl
flat-spelled (t ∷ ts) = ap (λ z. spelled t ++ z) (flat-spelled ts)

pub spelled-members : (ts : List Ty) → (length ts ≡ 0 → ⊥) → spelled (V.Union ts) ≡ 4 ∷ spell_all (map spelled ts)
spelled-members [] h = absurd (h refl)
spelled-members (t ∷ ts) h = spelled-union t ts

pub spelled-empty : (ts : List Ty) → length ts ≡ 0 → spelled (V.Union ts) ≡ 0 ∷ []
spelled-empty [] h = spelled-none
spelled-empty (t ∷ ts) h = absurd (omega arith)

pub ruleset spells = (spelled-any, spelled-var, spelled-nominal, spelled-tuple, spelled-members, spelled-empty)
