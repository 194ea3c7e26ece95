-- From the tests of the code to what refuses a type.
use Rattle.std.proofs.Common.{◌≡◌, ◌∙◌, sym, ap, ◌↔◌, Bool, true, false, IsTrue, List}
use Rattle.std.specs.List.{list_all}
use Rattle.jl_model.specs.declared.ty.Ty.{Ty}
use Rattle.jl_model.specs.declared.ty.Bound.{Bound}
use Rattle.jl_model.specs.declared.ty.Decl.{Decl}
use Rattle.jl_model.specs.declared.ty.Written.{Written}
use Rattle.jl_model.specs.Signature.{Both}
use Rattle.jl_model.specs.Valid.{is_counted}
use Rattle.jl_model.specs.Refusals.{Declared, Given, bound_types}
use Rattle.jl_model.specs.SigRefusals.{are_placed, types_in, arguments_in, UnusedVariable, TooManyParameters, BoundsCrossed, BoundBroken}
use Rattle.jl_program.specs.BodyTypes.{without_statics}
use Rattle.jl_sig.specs.Forms.{IsBoundForm, AreFormed, HasCrossed, HasOutside}
use Rattle.jl_match.proofs.MakeLemmas.{crossed_kept, outside_kept, outside_written}
use Rattle.jl_body.specs.TypeRefused.{IsWellWritten}

-- nothing refuses it by how it is written
pub well_written : (ds : List Decl) (t plain : Written) (types : List Ty) (placed unused counted : Bool) → plain ≡ without_statics t → types ≡ types_in t → placed ≡ are_placed plain → placed ≡ true
    → (IsTrue unused ↔ UnusedVariable t) → unused ≡ false → (TooManyParameters t → ⊥) → counted ≡ list_all (is_counted ds) types → counted ≡ true → IsWellWritten ds t
well_written ds t plain types placed unused counted p e f g u v few k l = record {
  placed = λ h. let x : true ≡ false = sym g ∙ f ∙ ap are_placed p ∙ h in cc;
  used = λ h. let a = u.1 h in let x : true ≡ false = sym a ∙ v in cc;
  few = few;
  counted = λ h. let x : true ≡ false = sym l ∙ k ∙ ap (list_all (is_counted ds)) e ∙ h in cc;
}

module _ (ds : List Decl) (declared : Declared ds) (t : Written) where
  -- the bounds are in order
  pub not_crossed : (bounds : List Bound) (r : Bool) → Both (IsBoundForm ds) (bound_types t.vars) (bound_types bounds) → (IsTrue r ↔ HasCrossed ds bounds) → r ≡ false → BoundsCrossed ds t → ⊥
  not_crossed bounds r b e f h = let g = e.1 (crossed_kept ds declared t.vars bounds b h) in let x : true ≡ false = sym g ∙ f in cc

  -- an argument is outside its declared bounds, or none is
  pub one_outside : (gs : List Given) (r : Bool) → AreFormed ds (arguments_in t) gs → (IsTrue r ↔ HasOutside ds gs) → r ≡ true → BoundBroken ds t
  one_outside gs r a e f = let h = outside_written ds declared (arguments_in t) gs a (e.0 f) in (h.0, h.1, h.2.0, h.2.1)

  pub none_outside : (gs : List Given) (r : Bool) → AreFormed ds (arguments_in t) gs → (IsTrue r ↔ HasOutside ds gs) → r ≡ false → BoundBroken ds t → ⊥
  none_outside gs r a e f h = let g = e.1 (outside_kept ds declared (arguments_in t) gs a (h.0, h.1, (h.2, h.3))) in let x : true ≡ false = sym g ∙ f in cc
