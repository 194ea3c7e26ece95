-- Concrete types, one after another.
use Rattle.std.proofs.Common.{◌≡◌, sym, subst, refl, ℕ, Bool, true, false, ◌&&◌, List, [], ◌∷◌, ◌++◌, length}
use Rattle.std.specs.List.{flat_map, list_all}
use Rattle.jl_model.specs.declared.ty.Ty.{Ty}
use Rattle.jl_model.specs.declared.ty.Decl.{Decl}
use Rattle.jl_model.specs.Ancestors.{table_of}
use Rattle.jl_model.specs.Rows.{vars_in}
use Rattle.jl_model.specs.Subtype.{Table, opaque, is_concrete}
use Rattle.jl_model.specs.Normal.{IsNormal, AllNormal, none, more}
use Rattle.jl_model.specs.Valid.{is_known, is_closed}
use Rattle.jl_match.specs.KeptRow.{AreConcrete}
use Rattle.jl_match.proofs.ComponentLemmas.{none_of}

all_push : (p : Ty → Bool) (ts : List Ty) (t : Ty) → list_all p ts ≡ true → p t ≡ true → list_all p (ts ++ t ∷ []) ≡ true
all_push p [] t h e = rw e refl
all_push p (x ∷ xs) t h e = both (p x) (list_all p xs) (list_all p (xs ++ t ∷ [])) h (λ r. all_push p xs t r e)
  where
    both : (a b c : Bool) → (a && b) ≡ true → (b ≡ true → c ≡ true) → (a && c) ≡ true
    both true b c h k = k h
    both false b c h k = h

vars_push : (ts : List Ty) (t : Ty) → flat_map vars_in ts ≡ [] → vars_in t ≡ [] → flat_map vars_in (ts ++ t ∷ []) ≡ []
vars_push [] t h e = rw e refl
vars_push (x ∷ xs) t h e = both_none (vars_in x) (flat_map vars_in xs) (flat_map vars_in (xs ++ t ∷ [])) h (λ r. vars_push xs t r e)
  where
    both_none : (a b c : List ℕ) → (a ++ b) ≡ [] → (b ≡ [] → c ≡ []) → (a ++ c) ≡ []
    both_none [] b c h k = k h
    both_none (m ∷ ms) b c h k = cc

normal_push : (n : Table) (ts : List Ty) (t : Ty) → AllNormal n ts → IsNormal n t → AllNormal n (ts ++ t ∷ [])
normal_push n ts t none e = more t [] e none
normal_push n ts t (more x xs p q) e = more x (xs ++ t ∷ []) p (normal_push n xs t q e)

pub no_arguments : (ds : List Decl) → AreConcrete ds []
no_arguments ds = record { normal = none; known = refl; closed = refl; concrete = refl }

pub one_argument : (ds : List Decl) (ts us : List Ty) (t : Ty) → AreConcrete ds ts → IsNormal (table_of ds) t → is_known (length ds) t ≡ true → is_closed t ≡ true → is_concrete (table_of ds) opaque t ≡ true → us ≡ ts ++ t ∷ [] → AreConcrete ds us
one_argument ds ts us t h a b c d e =
    subst (AreConcrete ds) (sym e) (record {
      normal = normal_push (table_of ds) ts t h.normal a;
      known = all_push (is_known (length ds)) ts t h.known b;
      closed = vars_push ts t h.closed (none_of (vars_in t) c);
      concrete = all_push (is_concrete (table_of ds) opaque) ts t h.concrete d;
    })
