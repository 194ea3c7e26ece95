-- What the code that lists the places of variables needs.
use Rattle.std.proofs.Common.{◌≡◌, ◌∙◌, sym, ap, ℕ, zero, suc, ◌+◌, ◌*◌, ◌<◌, ◌≤◌, arith, List, [], ◌∷◌, ◌++◌, length, drop, get_or, append_assoc, append-nil}
use Rattle.std.proofs.Math.Nat.{mul-suc}
use Rattle.jl_model.specs.declared.ty.Ty.{Ty}
use Rattle.jl_model.specs.declared.ty.Ty.TheVariants as W
use Rattle.jl_model.specs.declared.ty.Bound.{Bound}
use Rattle.jl_model.specs.declared.ty.Written.{Written}
use Rattle.jl_model.specs.Rows.{alts, atom, atoms, free, high, kind}
use Rattle.jl_model.specs.AllRows.{each_var}
use Rattle.jl_sig.specs.declared.kind.Kind.{Kind}
use Rattle.jl_sig.specs.KindIn.{kind_in}
use Rattle.jl_sig.specs.Built.{place_by, place_in, AreKinds}
use Rattle.jl_sig.proofs.FormSteps.{drop_at}
use Rattle.jl_sig.proofs.PickLemmas.{element, bound_is}
use Rattle.jl_sig.proofs.RowLemmas.{each-here, kind_at, picked_at}

pub atoms_step : (s : Written) (v i : ℕ) (us : List Ty) (n : ℕ) (old new : List Ty) → i < length us → n ≡ v + length s.vars * (i + 1) → new ≡ old ++ W.Var n ∷ []
    → (old ++ atoms s v i (drop i us)) ≡ atoms s v 0 us → (new ++ atoms s v (i + 1) (drop (i + 1) us)) ≡ atoms s v 0 us
atoms_step s v i us n old new l e f h =
    let a = element us i l in
    ap (λ z. z ++ atoms s v (i + 1) (drop (i + 1) us)) (f ∙ ap (λ z. old ++ W.Var z ∷ []) e) ∙ append_assoc old (W.Var (atom s v i) ∷ []) (atoms s v (i + 1) (drop (i + 1) us))
    ∙ ap (λ z. old ++ z) (sym (ap (atoms s v i) (drop_at us i a.0 l a.1))) ∙ h

pub atoms_done : (s : Written) (v i : ℕ) (us old : List Ty) → drop i us ≡ [] → (old ++ atoms s v i (drop i us)) ≡ atoms s v 0 us → old ≡ atoms s v 0 us
atoms_done s v i us old e h = sym (append-nil old) ∙ ap (λ z. old ++ atoms s v i z) (sym e) ∙ h

-- a product of small numbers is small
pub small_product : (a b : ℕ) → a ≤ 1024 → b ≤ 256 → a * b ≤ 1024 * b
small_product a zero l m = omega arith
small_product a (suc b) l m =
    let h = small_product a b l (omega arith) in
    let p : a * suc b ≡ a * b + a = mul-suc a b in
    let q : 1024 * suc b ≡ 1024 * b + 1024 = mul-suc 1024 b in
    omega (arith, h, p, q)

-- one more place
pub places_step : (s : Written) (ks : List Kind) (ps : List (List Ty)) (v : ℕ) (d : Kind) (b : Bound) (p us x : List Ty) (old new : List (List Ty)) → AreKinds s ks → length ps ≡ length s.vars → v < length s.vars
    → b ≡ get_or s.vars v b → p ≡ get_or ps v p → us ≡ alts b.high → x ≡ place_by s v (kind_in (get_or ks v d)) us p → new ≡ old ++ x ∷ []
    → (old ++ each_var (place_in s ps) v (drop v s.vars)) ≡ each_var (place_in s ps) 0 s.vars → (new ++ each_var (place_in s ps) (v + 1) (drop (v + 1) s.vars)) ≡ each_var (place_in s ps) 0 s.vars
places_step s ks ps v d b p us x old new a n l be pe ue xe ne h =
    let c : get_or s.vars v free ≡ b = bound_is s.vars v b free l be in
    let is : x ≡ place_in s ps v = xe ∙ ap (λ z. place_by s v z us p) (kind_at s ks v d a l) ∙ ap (λ z. place_by s v (kind s v) z p) (ue ∙ ap (λ (z : Bound). alts z.high) (sym c))
    ∙ ap (place_by s v (kind s v) (alts (high s v))) (sym (picked_at ps v p (omega arith) pe)) in
    ap (λ z. z ++ each_var (place_in s ps) (v + 1) (drop (v + 1) s.vars)) (ne ∙ ap (λ z. old ++ z ∷ []) is) ∙ append_assoc old (place_in s ps v ∷ []) (each_var (place_in s ps) (v + 1) (drop (v + 1) s.vars))
    ∙ ap (λ z. old ++ z) (sym (each-here (place_in s ps) v s.vars l)) ∙ h

pub high_is : (s : Written) (v : ℕ) (b : Bound) → v < length s.vars → b ≡ get_or s.vars v b → high s v ≡ b.high
high_is s v b l e = ap (λ (z : Bound). z.high) (bound_is s.vars v b free l e)
