-- Alternatives, form by form.
use Rattle.std.proofs.Common.{◌≡◌, ◌∙◌, sym, ap, refl, ℕ, zero, suc, ◌+◌, ◌<◌, arith, add-one, List, [], ◌∷◌, ◌++◌, map, length, drop, get_or, append_assoc}
use Rattle.std.specs.List.{flat_map}
use Rattle.jl_model.specs.declared.ty.Ty.{Ty}
use Rattle.jl_model.specs.declared.ty.Ty.TheOpen.{Ty-F, Any, Union, Tuple, Nominal, Var}
use Rattle.jl_model.specs.declared.ty.Ty.TheViews.{out-Ty}
use Rattle.jl_model.specs.declared.ty.Ty.TheViews as V
use Rattle.jl_model.specs.Counts.{nodes}
use Rattle.jl_model.proofs.CountLemmas.{nodes_all, nodes-any, nodes-var, nodes-union, nodes-tuple, nodes-nominal}
use Rattle.jl_model.specs.Rows.{alts, choices}
use Rattle.jl_model.proofs.FormLemmas.{is_any, is_union, is_tuple, is_nominal, is_var, alts-any, alts-var, alts-union, alts-tuple, alts-nominal}

pub flat-suc : {A B : Type 0} (f : A → List B) (ts : List A) (i : ℕ) (t : A) → i < length ts → t ≡ get_or ts i t → flat_map f (drop i ts) ≡ f t ++ flat_map f (drop (i + 1) ts)
flat-suc f [] i t h e = absurd (omega arith)
flat-suc f (x ∷ xs) zero t h e = ap (λ z. f z ++ flat_map f xs) (sym e)
flat-suc f (x ∷ xs) (suc i) t h e = rw add-one (rw add-one at (flat-suc f xs i t (omega arith) e))

-- one more in a loop over a flattened list
pub flat_step : {A B : Type 0} (f : A → List B) (ts : List A) (i k : ℕ) (t : A) (old new whole : List B) → (old ++ flat_map f (drop i ts)) ≡ whole → i < length ts → t ≡ get_or ts i t
    → new ≡ old ++ f t → k ≡ i + 1 → (new ++ flat_map f (drop k ts)) ≡ whole
flat_step f ts i k t old new whole inv lt is e s =
    ap (λ z. new ++ flat_map f (drop z ts)) s ∙ ap (λ z. z ++ flat_map f (drop (i + 1) ts)) e ∙ append_assoc old (f t) (flat_map f (drop (i + 1) ts))
    ∙ ap (λ z. old ++ z) (sym (flat-suc f ts i t lt is)) ∙ inv

pub none-first : (t : Ty) (ts : List Ty) → alts t ≡ [] → choices (map alts (t ∷ ts)) ≡ []
none-first t ts e = rw e refl

plain_case : (t : Ty) (x : Ty-F Ty) → out-Ty t ≡ x → ((ts : List Ty) → t ≡ V.Union ts → ⊥) → ((ts : List Ty) → t ≡ V.Tuple ts → ⊥) → alts t ≡ t ∷ []
plain_case t Any e u v = let i = is_any t e in ap alts i ∙ alts-any ∙ ap (λ z. z ∷ []) (sym i)
plain_case t (Union ts) e u v = absurd (u ts (is_union t ts e))
plain_case t (Tuple ts) e u v = absurd (v ts (is_tuple t ts e))
plain_case t (Nominal k ts) e u v = let i = is_nominal t k ts e in ap alts i ∙ alts-nominal k ts ∙ ap (λ z. z ∷ []) (sym i)
plain_case t (Var w) e u v = let i = is_var t w e in ap alts i ∙ alts-var w ∙ ap (λ z. z ∷ []) (sym i)

pub plain_alts : (t : Ty) → ((ts : List Ty) → t ≡ V.Union ts → ⊥) → ((ts : List Ty) → t ≡ V.Tuple ts → ⊥) → alts t ≡ t ∷ []
plain_alts t u v = plain_case t (out-Ty t) refl u v

pub nodes-first : (ts : List Ty) (t : Ty) → 0 < length ts → t ≡ get_or ts 0 t → nodes_all ts ≡ nodes t + nodes_all (drop 1 ts)
nodes-first [] t h e = absurd (omega arith)
nodes-first (x ∷ xs) t h e = ap (λ z. nodes z + nodes_all xs) (sym e)

nodes_positive : (t : Ty) (x : Ty-F Ty) → out-Ty t ≡ x → 0 < nodes t
nodes_positive t Any e = omega (arith, ap nodes (is_any t e), nodes-any)
nodes_positive t (Union ts) e = omega (arith, ap nodes (is_union t ts e), nodes-union ts)
nodes_positive t (Tuple ts) e = omega (arith, ap nodes (is_tuple t ts e), nodes-tuple ts)
nodes_positive t (Nominal k ts) e = omega (arith, ap nodes (is_nominal t k ts e), nodes-nominal k ts)
nodes_positive t (Var v) e = omega (arith, ap nodes (is_var t v e), nodes-var v)

pub nodes-positive : (t : Ty) → 0 < nodes t
nodes-positive t = nodes_positive t (out-Ty t) refl

pub ruleset expands = (alts-any, alts-var, alts-union, alts-tuple, alts-nominal, none-first)
