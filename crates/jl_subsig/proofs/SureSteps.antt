-- The steps of the test of concrete types.
use Rattle.std.proofs.Common.{◌≡◌, ◌∙◌, sym, ap, ℕ, zero, suc, ◌<◌, ◌≤◌, arith, refl, Bool, true, false, nat_lt, List, [], ◌∷◌, length, get_or, Some, slice_get}
use Rattle.std.specs.List.{list_all}
use Rattle.jl_model.specs.declared.ty.Ty.{Ty}
use Rattle.jl_model.specs.declared.ty.Ty.TheViews.{outs-Tuple, outs-Nominal}
use Rattle.jl_model.specs.declared.ty.Ty.TheViews as V
use Rattle.jl_model.specs.declared.ty.Ty.TheVariants as W
use Rattle.jl_model.specs.declared.ty.Decl.{Decl}
use Rattle.jl_model.specs.declared.ty.DeclKind.{DeclKind}
use Rattle.jl_model.specs.declared.ty.DeclKind.TheVariants.{Abstract, Struct}
use Rattle.jl_model.specs.Ancestors.{table_of, is_struct_kind}
use Rattle.jl_model.specs.Subtype.{Fixed, is_concrete}
use Rattle.jl_model.specs.Valid.{is_known}
use Rattle.jl_model.proofs.KnownLemmas.{known-tuple, nominal_known}
use Rattle.jl_sig.specs.declared.row.SigRow.{SigRow}
use Rattle.jl_sig.specs.declared.sig.Sig.{Sig}
use Rattle.jl_sig.specs.SigParts.{diagonals_of}
use Rattle.jl_subsig.specs.Side.{held, IsTold}
use Rattle.jl_subsume.proofs.SureLemmas.{concrete-nominal, concrete-var}

pub known_parts : (m : ℕ) (t : Ty) (ts vs : List Ty) → t ≡ V.Tuple ts → vs ≡ ts → is_known m t ≡ true → list_all (is_known m) vs ≡ true
known_parts m t ts vs e f h = ap (list_all (is_known m)) f ∙ sym (known-tuple m ts) ∙ sym (ap (is_known m) e) ∙ h

pub known_name : (m : ℕ) (t : Ty) (k : ℕ) (ts : List Ty) → t ≡ V.Nominal k ts → is_known m t ≡ true → k < m
known_name m t k ts e h = (nominal_known m k ts (sym (ap (is_known m) e) ∙ h)).0

-- a nominal type is concrete where it is a struct
struct_is : (ds : List Decl) (k : ℕ) (d : Decl) → slice_get ds k ≡ Some d → (table_of ds).is_struct k ≡ elim d.kind [ Abstract ↦ false | Struct ↦ true ]
unfolding table_of
struct_is ds k d e = ap is_struct_kind e

-- a declaration's kind
pub kind_is : (ds : List Decl) (g : Fixed) (t : Ty) (k : ℕ) (ts : List Ty) (d : Decl) (j : DeclKind) → t ≡ V.Nominal k ts → slice_get ds k ≡ Some d → d.kind ≡ j
    → is_concrete (table_of ds) g t ≡ elim j [ Abstract ↦ false | Struct ↦ true ]
kind_is ds g t k ts d j e f h =
    ap (is_concrete (table_of ds) g) e ∙ concrete-nominal (table_of ds) g k ts ∙ struct_is ds k d f ∙ ap (λ (z : DeclKind). elim z [ Abstract ↦ false | Struct ↦ true ]) h

-- a variable
get_past : (bs : List Bool) (k : ℕ) → length bs ≤ k → get_or bs k false ≡ false
get_past [] k l = refl
get_past (b ∷ bs) zero l = absurd (omega arith)
get_past (b ∷ bs) (suc k) l = get_past bs k (omega arith)

get_there : (bs : List Bool) (k : ℕ) (b : Bool) → k < length bs → b ≡ get_or bs k b → get_or bs k false ≡ b
get_there [] k b l e = absurd (omega arith)
get_there (x ∷ bs) zero b l e = sym e
get_there (x ∷ bs) (suc k) b l e = get_there bs k b (omega arith) e

pub sure_is : (ds : List Decl) (s : Sig) (r : SigRow) (t : Ty) (k : ℕ) → IsTold s r → t ≡ W.Var k → is_concrete (table_of ds) (held s r) t ≡ get_or (diagonals_of s) k false
sure_is ds s r t k h e = ap (is_concrete (table_of ds) (held s r)) e ∙ concrete-var (table_of ds) (held s r) k ∙ sym (h.diagonals k)

pub sure_past : (ds : List Decl) (s : Sig) (r : SigRow) (t : Ty) (k : ℕ) → IsTold s r → t ≡ W.Var k → length (diagonals_of s) ≤ k → is_concrete (table_of ds) (held s r) t ≡ false
sure_past ds s r t k h e l = sure_is ds s r t k h e ∙ get_past (diagonals_of s) k l

pub sure_there : (ds : List Decl) (s : Sig) (r : SigRow) (t : Ty) (k : ℕ) (b : Bool) → IsTold s r → t ≡ W.Var k → k < length (diagonals_of s) → b ≡ get_or (diagonals_of s) k b → is_concrete (table_of ds) (held s r) t ≡ b
sure_there ds s r t k b h e l f = sure_is ds s r t k h e ∙ get_there (diagonals_of s) k b l f

pub ruleset knowing = (known_parts, known_name)

pub none_sure : (ds : List Decl) (s : Sig) (r : SigRow) (t : Ty) (k m : ℕ) → IsTold s r → t ≡ W.Var k → m ≡ length (diagonals_of s) → m ≤ k → nat_lt k m ≡ is_concrete (table_of ds) (held s r) t
none_sure ds s r t k m h e i l =
    let f : nat_lt k m ≡ false = grind (arith, l) in
    f ∙ sym (sure_past ds s r t k h e (omega (arith, l, i)))
