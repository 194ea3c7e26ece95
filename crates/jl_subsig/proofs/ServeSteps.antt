-- The variables of a right row, one by one.
use Rattle.std.proofs.Common.{◌≡◌, ◌∙◌, sym, ap, subst, refl, ℕ, zero, suc, ◌+◌, ◌<◌, ◌≤◌, arith, Bool, true, false, cond, List, [], ◌∷◌, length, get_or, ◌⊎◌, inl, inr, Result, Ok, Err, IfOk}
use Rattle.jl_model.specs.declared.ty.Ty.{Ty}
use Rattle.jl_model.specs.declared.ty.Ty.TheOpen.{Nominal}
use Rattle.jl_model.specs.declared.ty.Ty.TheViews.{out-Ty, outs-Nominal}
use Rattle.jl_model.specs.declared.ty.Ty.TheViews as V
use Rattle.jl_model.specs.declared.ty.Decl.{Decl}
use Rattle.jl_model.specs.Ancestors.{table_of}
use Rattle.jl_model.specs.declared.ty.Bound.{Bound}
use Rattle.jl_model.specs.Rows.{free, width, low, high, kind, vars_in, Occurs}
use Rattle.jl_model.specs.Subtype.{Table, Fixed, at, put, Below}
use Rattle.jl_model.specs.Signature.{top, by_kind, is_diagonal}
use Rattle.jl_model.specs.Normal.{AllNormal}
use Rattle.jl_model.specs.Valid.{is_known}
use Rattle.jl_model.specs.Refusals.{Declared}
use Rattle.jl_model.proofs.PutLemmas.{put-closed}
use Rattle.jl_model.proofs.NormalLemmas.{kids_nominal}
use Rattle.jl_model.proofs.DeclaredLemmas.{declared_lawful}
use Rattle.jl_types.proofs.GroundLemmas.{Tells}
use Rattle.jl_sig.specs.declared.row.SigRow.{SigRow}
use Rattle.jl_sig.specs.declared.sig.Sig.{Sig}
use Rattle.jl_sig.specs.SigParts.{kept_of, bounded_of}
use Rattle.jl_search.proofs.KindLemmas.{is_diag, less_or}
use Rattle.jl_search.specs.Open.{AreOpen}
use Rattle.jl_search.specs.Serving.{Within, ServesAt}
use Rattle.jl_subsig.specs.Side.{row_of, sided, tops, IsItem, IsTold, AreValues, IsNamed, IsHigh, high_plain, high_named}
use Rattle.jl_subsig.proofs.HighLemmas.{high_normal, high_known, high_opened}
use Rattle.jl_subsig.proofs.HeldLemmas as H

-- the upper bound in a right row
pub top_sided : (s : Sig) (r : SigRow) → IsTold s r → length (bounded_of s).vars ≡ width (kept_of s) → ((v : ℕ) → kind (sided s) v ≡ kind (kept_of s) v) → (v : ℕ) → v < width (kept_of s) → tops (bounded_of s).vars s r v ≡ top (sided s) (row_of r) v
top_sided s r told wide kinds v l = elim (H.true_or (is_diagonal (kind (kept_of s) v))) [
  | inl d ↦
      let k = kinds v ∙ is_diag (kind (kept_of s) v) d in
      H.top_own s r told (bounded_of s).vars wide v l ∙ ap (λ z. cond z (at r.chosen v) (get_or (bounded_of s).vars v free).high) d ∙ sym (ap (λ z. by_kind z (at r.chosen v) (high (sided s) v)) k)
  | inr d ↦
      H.top_own s r told (bounded_of s).vars wide v l ∙ ap (λ z. cond z (at r.chosen v) (get_or (bounded_of s).vars v free).high) d
      ∙ sym (H.other_kind (kind (sided s) v) (at r.chosen v) (high (sided s) v) (ap is_diagonal (kinds v) ∙ d))
]

-- the type put for a variable
pub value-at : (ds : List Decl) (m : ℕ) (vs : List Ty) (v : ℕ) (t : Ty) → AreValues ds m vs → v < m → t ≡ get_or vs v t → (IsItem ds t) × (t ≡ at vs v)
value-at ds m vs v t h l e =
    let i : t ≡ at vs v = get_same vs v t (subst (λ z. v < z) (sym h.long) l) e in
    (subst (IsItem ds) (sym i) (h.items v l), i)
  where
    get_same : (vs : List Ty) (i : ℕ) (x : Ty) → i < length vs → x ≡ get_or vs i x → x ≡ at vs i
    get_same [] i x h e = absurd (omega arith)
    get_same (v ∷ vs) zero x h e = e
    get_same (v ∷ vs) (suc i) x h e = get_same vs i x (omega arith) e

pub bound-at : (bs : List Bound) (v : ℕ) (b : Bound) → v < length bs → b ≡ get_or bs v b → b ≡ get_or bs v free
bound-at [] v b l e = absurd (omega arith)
bound-at (x ∷ bs) zero b l e = e
bound-at (x ∷ bs) (suc v) b l e = bound-at bs v b (omega arith) e

pub flag-at : (bs : List Bool) (v : ℕ) (b : Bool) → v < length bs → b ≡ get_or bs v b → b ≡ get_or bs v false
flag-at [] v b l e = absurd (omega arith)
flag-at (x ∷ bs) zero b l e = e
flag-at (x ∷ bs) (suc v) b l e = flag-at bs v b (omega arith) e

-- the same test of the same things, where the variable is one of the row
pub one_serves : {E : Type 0} (n : Table) (g : Fixed) (s : Sig) (r : SigRow) (vs : List Ty) (v : ℕ) (x : Result Bool E) (l h : Ty) (b : Bool) (t : Ty) → Occurs (sided s) v r.parts → l ≡ low (sided s) v → h ≡ top (sided s) (row_of r) v
    → b ≡ is_diagonal (kind (sided s) v) → t ≡ at vs v → IfOk x (λ yes. Tells yes (Within n g (put (at vs) l) (put (at vs) h) b t)) → IfOk x (λ yes. Tells yes (ServesAt n g (sided s) (row_of r) (at vs) v))
one_serves n g s r vs v (Err e) l h b t o p q i j a = tt
one_serves n g s r vs v (Ok x) l h b t o p q i j a =
    let k : Tells x (Within n g (put (at vs) (low (sided s) v)) (put (at vs) (top (sided s) (row_of r) v)) (is_diagonal (kind (sided s) v)) (at vs v)) =
    subst (λ z. Tells x (Within n g (put (at vs) (low (sided s) v)) (put (at vs) (top (sided s) (row_of r) v)) (is_diagonal (kind (sided s) v)) z)) j
    (subst (λ z. Tells x (Within n g (put (at vs) (low (sided s) v)) (put (at vs) (top (sided s) (row_of r) v)) z t)) i
    (subst (λ z. Tells x (Within n g (put (at vs) (low (sided s) v)) (put (at vs) z) b t)) q (subst (λ z. Tells x (Within n g (put (at vs) z) (put (at vs) h) b t)) p a))) in
    ((λ y _. k.0 y), (λ q. k.1 (q o)))

-- an upper bound without variables
pub put_below : (n : Table) (g : Fixed) (f : ℕ → Ty) (t u : Ty) (x : Bool) → vars_in u ≡ [] → Tells x (Below n g t u) → Tells x (Below n g t (put f u))
put_below n g f t u x e h = subst (λ z. Tells x (Below n g t z)) (sym (put-closed f u e)) h

pub not_named : (ds : List Decl) (t : Ty) → IsHigh ds t → ((k : ℕ) (ts : List Ty) → t ≡ V.Nominal k ts → ⊥) → vars_in t ≡ []
not_named ds t (high_plain u p) f = p.closed
not_named ds t (high_named u p) f = absurd (f p.number p.args p.is)

-- a nominal one
pub high_applied : (ds : List Decl) → Declared ds → (t : Ty) (k : ℕ) (us vs : List Ty) → IsHigh ds t → t ≡ V.Nominal k us → vs ≡ us → IsNamed ds (V.Nominal k vs)
high_applied ds declared t k us vs h e f =
    let o : out-Ty t ≡ Nominal k us = ap out-Ty e ∙ outs-Nominal k us in
    record {
      number = k;
      args = vs;
      is = refl;
      normal = subst (AllNormal (table_of ds)) (sym f) (kids_nominal (table_of ds) (declared_lawful ds declared) t k us (high_normal ds t h) o);
      known = subst (λ z. is_known (length ds) z ≡ true) (e ∙ ap (λ z. V.Nominal k z) (sym f)) (high_known ds t h);
      opened = subst AreOpen (sym f) (high_opened ds t k us h o);
    }

pub below_or : (v k : ℕ) → v < k + 1 → (v < k) ⊎ (k ≡ v)
below_or v k l = elim (less_or v k) [ inl i ↦ inl i | inr e ↦ inr (omega (arith, l, (let j : k ≤ v = grind (arith, e) in j))) ]
