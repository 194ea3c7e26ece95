-- The parts of known, normal and ground types.
use Rattle.std.proofs.Common.{◌≡◌, ◌∙◌, sym, ap, refl, ℕ, ◌<◌, true, false, List, Some, slice_get}
use Rattle.std.specs.List.{list_all}
use Rattle.jl_model.specs.declared.ty.Ty.{Ty}
use Rattle.jl_model.specs.declared.ty.Ty.TheOpen.{Ty-F, Any, Union, Tuple, Nominal, Var}
use Rattle.jl_model.specs.declared.ty.Ty.TheViews.{out-Ty, outs-Any}
use Rattle.jl_model.specs.declared.ty.Ty.TheViews as V
use Rattle.jl_model.specs.declared.ty.Decl.{Decl}
use Rattle.jl_model.specs.declared.ty.DeclKind.{DeclKind}
use Rattle.jl_model.specs.declared.ty.DeclKind.TheVariants.{Abstract, Struct}
use Rattle.jl_model.specs.Ancestors.{table_of, is_struct_kind}
use Rattle.jl_model.specs.Subtype.{opaque, is_concrete}
use Rattle.jl_model.specs.Valid.{is_known}
use Rattle.jl_model.specs.Found.{parts_of, raised}
use Rattle.jl_model.proofs.FormLemmas.{is_tuple}
use Rattle.jl_model.proofs.KnownLemmas.{known-tuple, nominal_known}
use Rattle.jl_match.proofs.ConcreteLemmas.{concrete-nominal}

pub known_parts : (m : ℕ) (t : Ty) (ts vs : List Ty) → t ≡ V.Tuple ts → vs ≡ ts → is_known m t ≡ true → list_all (is_known m) vs ≡ true
known_parts m t ts vs e f h = ap (list_all (is_known m)) f ∙ sym (known-tuple m ts) ∙ sym (ap (is_known m) e) ∙ h

pub known_name : (m : ℕ) (t : Ty) (k : ℕ) (ts : List Ty) → t ≡ V.Nominal k ts → is_known m t ≡ true → k < m
known_name m t k ts e h = (nominal_known m k ts (sym (ap (is_known m) e) ∙ h)).0

-- a nominal type is concrete where it is a struct
pub struct_is : (ds : List Decl) (k : ℕ) (d : Decl) → slice_get ds k ≡ Some d → (table_of ds).is_struct k ≡ elim d.kind [ Abstract ↦ false | Struct ↦ true ]
unfolding table_of
struct_is ds k d e = ap is_struct_kind e

-- a declaration's kind
pub kind_is : (ds : List Decl) (t : Ty) (k : ℕ) (ts : List Ty) (d : Decl) (j : DeclKind) → t ≡ V.Nominal k ts → slice_get ds k ≡ Some d → d.kind ≡ j
    → is_concrete (table_of ds) opaque t ≡ elim j [ Abstract ↦ false | Struct ↦ true ]
kind_is ds t k ts d j e g h =
    ap (is_concrete (table_of ds) opaque) e ∙ concrete-nominal (table_of ds) k ts ∙ struct_is ds k d g ∙ ap (λ (z : DeclKind). elim z [ Abstract ↦ false | Struct ↦ true ]) h

-- the parts of what a known type stands for are known
known_form : (m : ℕ) (t : Ty) (x : Ty-F Ty) → out-Ty t ≡ x → is_known m t ≡ true → list_all (is_known m) (parts_of (raised opaque x)) ≡ true
known_form m t Any e h = refl
known_form m t (Union ts) e h = refl
known_form m t (Nominal k ts) e h = refl
known_form m t (Var v) e h = ap (λ x. list_all (is_known m) (parts_of x)) outs-Any
known_form m t (Tuple ts) e h = sym (known-tuple m ts) ∙ sym (ap (is_known m) (is_tuple t ts e)) ∙ h

pub parts_known : (m : ℕ) (t : Ty) (vs : List Ty) → vs ≡ parts_of (raised opaque (out-Ty t)) → is_known m t ≡ true → list_all (is_known m) vs ≡ true
parts_known m t vs e h = ap (list_all (is_known m)) e ∙ known_form m t (out-Ty t) refl h

pub ruleset knowing = (known_parts, known_name)
