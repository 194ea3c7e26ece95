-- The alternatives that a low bound is below, as they are written and as they are kept.
use Rattle.std.proofs.Common.{◌≡◌, ◌∙◌, sym, ap, subst, refl, ℕ, zero, suc, ◌+◌, ◌<◌, arith, Bool, true, false, List, [], ◌∷◌, ◌++◌, length, drop, get_or, append_assoc, append-nil, length-append, ◌⊎◌, inl, inr}
use Rattle.jl_model.specs.declared.ty.Ty.{Ty}
use Rattle.jl_model.specs.declared.ty.Ty.TheViews.{outs-Any, outs-Tuple, outs-Nominal, outs-Var}
use Rattle.jl_model.specs.declared.ty.Ty.TheViews as V
use Rattle.jl_model.specs.declared.ty.Ty.TheVariants as W
use Rattle.jl_model.specs.declared.ty.Bound.{Bound}
use Rattle.jl_model.specs.declared.ty.Decl.{Decl}
use Rattle.jl_model.specs.Ancestors.{table_of}
use Rattle.jl_model.specs.declared.ty.Written.{Written}
use Rattle.jl_model.specs.Kinds.{diagonal}
use Rattle.jl_model.specs.Rows.{alts, free, high, kind, low}
use Rattle.jl_model.specs.Subtype.{Table, opaque, Below, Equal, below, Covered, none as none_left}
use Rattle.jl_model.specs.Signature.{Both, both_end, both_more}
use Rattle.jl_model.specs.Normal.{IsNormal, AllNormal, any, var, nominal, tuple, none, more, IsNormalForm, is_single, no_union}
use Rattle.jl_model.specs.Valid.{is_known}
use Rattle.jl_model.specs.Refusals.{Declared}
use Rattle.jl_model.specs.SigRefusals.{is_bottom}
use Rattle.jl_model.specs.AllRows.{Above, above_end, taken, passed}
use Rattle.jl_model.proofs.TypeInduction.{Each}
use Rattle.jl_model.proofs.FormLemmas.{alts-union}
use Rattle.jl_model.proofs.AncestorLemmas.{Lawful, each_true}
use Rattle.jl_model.proofs.DeclaredLemmas.{declared_lawful}
use Rattle.jl_model.proofs.TransLemmas.{below_trans, equal_trans}
use Rattle.jl_model.proofs.NormalLemmas.{normal_same}
use Rattle.jl_model.proofs.KnownLemmas.{Known, alts_known}
use Rattle.jl_types.specs.Form.{IsOfParts}
use Rattle.jl_types.specs.Ground.{IsGround}
use Rattle.jl_types.proofs.ExistLemmas.{exists}
use Rattle.jl_types.proofs.PartsLemmas.{known_parts}
use Rattle.jl_types.proofs.SettleLemmas.{Grows, Turns, turns, settles_pass}
use Rattle.jl_sig.specs.Fit.{IsFit, IsKeptAs}
use Rattle.jl_sig.specs.Forms.{lows}
use Rattle.jl_sig.specs.Built.{AreAligned, ArePicked, picked}
use Rattle.jl_sig.proofs.BoundLemmas.{bottom_is}
use Rattle.jl_sig.proofs.FormSteps.{drop_at}

module _ (ds : List Decl) (declared : Declared ds) where
  abbrev n : Table
  n = table_of ds

  law : Lawful n
  law = declared_lawful ds declared

  -- a normal form passes the tests by the parts that the type passes
  pub form_passes : (p : Ty → Bool) → IsOfParts p → (t u : Ty) → IsNormalForm n t u → p t ≡ true → p u ≡ true
  form_passes p h t u f k =
      let e = exists ds declared t in
      let s : u ≡ e.0 = normal_same n law u f.normal e.0 e.1.form.normal (equal_trans n law u t e.0 (f.equal.1, f.equal.0) e.1.form.equal) in
      ap p s ∙ e.1.kept p h k

  pub kept_passes : (p : Ty → Bool) → IsOfParts p → (t u : Ty) → IsKeptAs ds t u → p t ≡ true → p u ≡ true
  kept_passes p h t u f k = settles_pass (IsNormalForm n) p h (form_passes p h) t u f k

  -- a kept alternative is normal
  abbrev Alone : Ty → Type 0
  Alone t = IsNormal n t × (is_single t ≡ true)

  forms_normal : (ts us : List Ty) → Both (IsNormalForm n) ts us → AllNormal n us
  forms_normal ts us both_end = none
  forms_normal ts us (both_more t u vs ws f b) = more u ws f.normal (forms_normal vs ws b)

  alone_normal : (ts : List Ty) → Each Alone ts → AllNormal n ts
  alone_normal [] e = none
  alone_normal (t ∷ ts) e = more t ts e.0.0 (alone_normal ts e.1)

  alone_single : (ts : List Ty) → Each Alone ts → Each (λ t. is_single t ≡ true) ts
  alone_single [] e = tt
  alone_single (t ∷ ts) e = (e.0.1, alone_single ts e.1)

  grows : Grows (IsNormalForm n) Alone
  grows = record {
    any = (any W.Any outs-Any, ap no_union outs-Any);
    var = λ v. (var (W.Var v) v (outs-Var v), ap no_union (outs-Var v));
    nominal = λ k ts us b. (nominal (V.Nominal k us) k us (outs-Nominal k us) (forms_normal ts us b), ap no_union (outs-Nominal k us));
    tuple = λ us e. (tuple (V.Tuple us) us (outs-Tuple us) (alone_normal us e) (each_true is_single us (alone_single us e)), ap no_union (outs-Tuple us));
  }

  align : (ts us : List Ty) → Both (Turns n Alone) ts us → Each (Known (length ds)) us → AreAligned ds ts us
  align ts us both_end k = both_end
  align ts us (both_more a c vs ws t b) k = both_more a c vs ws (t.equal, record { normal = t.good.0; known = k.0 }) (align vs ws b k.1)

  -- alternatives and kept alternatives are equal one by one
  pub kept_aligned : (t u : Ty) → is_known (length ds) t ≡ true → IsKeptAs ds t u → AreAligned ds (alts t) (alts u)
  kept_aligned t u k f =
      align (alts t) (alts u) (turns n (IsNormalForm n) (λ a b q. q.equal) Alone grows t u f)
      (alts_known (length ds) u (kept_passes (is_known (length ds)) (known_parts (length ds)) t u f k))

  -- one more alternative
  pub ground_at : (ts us : List Ty) (i : ℕ) (u : Ty) → AreAligned ds ts us → i < length us → u ≡ get_or us i u → IsGround ds u
  ground_at ts us i u both_end l e = absurd (omega arith)
  ground_at ts us zero u (both_more a c vs ws p b) l e = subst (IsGround ds) (sym e) p.1
  ground_at ts us (suc i) u (both_more a c vs ws p b) l e = ground_at vs ws i u b (omega arith) e

  pub equal_at : (ts us : List Ty) (i : ℕ) (t u : Ty) → AreAligned ds ts us → i < length ts → t ≡ get_or ts i t → u ≡ get_or us i u → Equal n t u
  equal_at ts us i t u both_end l e f = absurd (omega arith)
  equal_at ts us zero t u (both_more a c vs ws p b) l e f = subst (λ z. Equal n z u) (sym e) (subst (Equal n a) (sym f) p.0)
  equal_at ts us (suc i) t u (both_more a c vs ws p b) l e f = equal_at vs ws i t u b (omega arith) e f

  pub aligned_long : (ts us : List Ty) → AreAligned ds ts us → length us ≡ length ts
  aligned_long ts us both_end = refl
  aligned_long ts us (both_more a c vs ws p b) = ap suc (aligned_long vs ws b)

  pub above_take : (ts : List Ty) (i : ℕ) (low a c d t : Ty) (old new : List Ty) → Equal n t low → Equal n a c → Below n opaque low c → i < length ts → a ≡ get_or ts i a → d ≡ a → new ≡ old ++ d ∷ []
      → ((ps : List Ty) → Above n t (drop i ts) ps → Above n t ts (old ++ ps)) → (ps : List Ty) → Above n t (drop (i + 1) ts) ps → Above n t ts (new ++ ps)
  above_take ts i low a c d t old new e q h l is g s k ps r =
      let b = below_trans n law t low a e.0 (below_trans n law low c a h q.1) in
      subst (Above n t ts) (sym (ap (λ z. z ++ ps) (s ∙ ap (λ z. old ++ z ∷ []) g) ∙ append_assoc old (a ∷ []) ps))
      (k (a ∷ ps) (subst (λ z. Above n t z (a ∷ ps)) (sym (drop_at ts i a l is)) (taken a (drop (i + 1) ts) ps b r)))

  pub above_pass : (ts : List Ty) (i : ℕ) (low a c t : Ty) (old : List Ty) → Equal n t low → Equal n a c → (Below n opaque low c → ⊥) → i < length ts → a ≡ get_or ts i a
      → ((ps : List Ty) → Above n t (drop i ts) ps → Above n t ts (old ++ ps)) → (ps : List Ty) → Above n t (drop (i + 1) ts) ps → Above n t ts (old ++ ps)
  above_pass ts i low a c t old e q h l is k ps r =
      k ps (subst (λ z. Above n t z ps) (sym (drop_at ts i a l is))
      (passed a (drop (i + 1) ts) ps (λ b. h (below_trans n law low t c e.1 (below_trans n law t a c b q.0))) r))

  pub above_done : (ts : List Ty) (i : ℕ) (t : Ty) (old : List Ty) → drop i ts ≡ [] → ((ps : List Ty) → Above n t (drop i ts) ps → Above n t ts (old ++ ps)) → Above n t ts old
  above_done ts i t old e k = subst (Above n t ts) (append-nil old) (k [] (subst (λ z. Above n t z []) (sym e) above_end))

pub element : (ts : List Ty) (i : ℕ) → i < length ts → (a : Ty) × (a ≡ get_or ts i a)
element [] i l = absurd (omega arith)
element (x ∷ xs) zero l = (x, refl)
element (x ∷ xs) (suc i) l = element xs i (omega arith)

-- `Union{}` is below all
pub all_above : (n : Table) (t : Ty) → is_bottom t ≡ true → (us : List Ty) → Above n t us us
all_above n t h [] = above_end
all_above n t h (u ∷ us) =
    taken u us us (below opaque t u (subst (λ z. Covered n opaque z (alts u)) (sym (ap alts (bottom_is t h) ∙ alts-union [])) (none_left opaque (alts u)))) (all_above n t h us)

-- THE BOUNDS OF ONE VARIABLE
pub lows_long : (R : Ty → Ty → Type 0) (bs cs : List Bound) → Both R (lows bs) (lows cs) → length cs ≡ length bs
lows_long R [] [] h = refl
lows_long R [] (c ∷ cs) h = elim h [ ]
lows_long R (b ∷ bs) [] h = elim h [ ]
lows_long R (b ∷ bs) (c ∷ cs) (both_more t u vs ws p r) = ap suc (lows_long R bs cs r)

pub low_form : (R : Ty → Ty → Type 0) (bs cs : List Bound) (i : ℕ) (b c : Bound) → Both R (lows bs) (lows cs) → i < length bs → b ≡ get_or bs i b → c ≡ get_or cs i c → R b.low c.low
low_form R [] cs i b c h l e f = absurd (omega arith)
low_form R (x ∷ xs) [] i b c h l e f = elim h [ ]
low_form R (x ∷ xs) (y ∷ ys) zero b c (both_more t u vs ws p r) l e f = subst (λ (z : Bound). R z.low c.low) (sym e) (subst (λ (z : Bound). R x.low z.low) (sym f) p)
low_form R (x ∷ xs) (y ∷ ys) (suc i) b c (both_more t u vs ws p r) l e f = low_form R xs ys i b c r (omega arith) e f

-- a variable's bound
pub bound_is : (bs : List Bound) (i : ℕ) (b d : Bound) → i < length bs → b ≡ get_or bs i b → get_or bs i d ≡ b
bound_is [] i b d l e = absurd (omega arith)
bound_is (x ∷ xs) zero b d l e = sym e
bound_is (x ∷ xs) (suc i) b d l e = bound_is xs i b d (omega arith) e

pub high_fit : (ds : List Decl) (s : Written) (v : ℕ) (b : Bound) → v < length s.vars → b ≡ get_or s.vars v b → ((v : ℕ) → is_bottom (low s v) ≡ false → IsFit ds (high s v)) → is_bottom b.low ≡ false → IsFit ds b.high
high_fit ds s v b l e f h =
    let c : get_or s.vars v free ≡ b = bound_is s.vars v b free l e in
    subst (λ (z : Bound). IsFit ds z.high) c (f v (ap (λ (z : Bound). is_bottom z.low) c ∙ h))

get_last : (xs : List (List Ty)) (x d : List Ty) (i : ℕ) → i ≡ length xs → get_or (xs ++ x ∷ []) i d ≡ x
get_last [] x d i e = rw e refl
get_last (y ∷ ys) x d zero e = absurd (omega arith)
get_last (y ∷ ys) x d (suc i) e = get_last ys x d i (omega arith)

get_before : (xs : List (List Ty)) (x d : List Ty) (i : ℕ) → i < length xs → get_or (xs ++ x ∷ []) i d ≡ get_or xs i d
get_before [] x d i l = absurd (omega arith)
get_before (y ∷ ys) x d zero l = refl
get_before (y ∷ ys) x d (suc i) l = get_before ys x d i (omega arith)

pub push_long : (old new : List (List Ty)) (x : List Ty) (v : ℕ) → new ≡ old ++ x ∷ [] → length old ≡ v → length new ≡ v + 1
push_long old new x v e h = let l = length-append old (x ∷ []) in let f = ap (λ z. length z) e in omega (arith, l, f, h)

lt_or : (u v : ℕ) → u < v + 1 → (u < v) ⊎ (u ≡ v)
lt_or zero zero l = inr refl
lt_or zero (suc v) l = inl (omega arith)
lt_or (suc u) zero l = absurd (omega arith)
lt_or (suc u) (suc v) l = elim (lt_or u v (omega arith)) [ inl a ↦ inl (omega arith) | inr e ↦ inr (ap suc e) ]

pub picks_step : (n : Table) (s : Written) (v : ℕ) (b : Bound) (x : List Ty) (old new : List (List Ty)) → v < length s.vars → b ≡ get_or s.vars v b → (kind s v ≡ diagonal → Above n b.low (alts b.high) x)
    → new ≡ old ++ x ∷ [] → length old ≡ v → ArePicked n s v old → ArePicked n s (v + 1) new
picks_step n s v b x old new l e h f g a u m k =
    elim (lt_or u v m) [
      | inl p ↦
          (let i : picked new u ≡ picked old u = ap (λ z. picked z u) f ∙ get_before old x (W.Any ∷ []) u (omega arith) in
          subst (Above n (low s u) (alts (high s u))) (sym i) (a u p k))
      | inr p ↦
          (let q : u ≡ length old = p ∙ sym g in
          let i : picked new u ≡ x = ap (λ z. picked z u) f ∙ get_last old x (W.Any ∷ []) u q in
          let c : get_or s.vars u free ≡ b = ap (λ z. get_or s.vars z free) p ∙ bound_is s.vars v b free l e in
          let y = h (sym (ap (kind s) p) ∙ k) in
          subst (Above n (low s u) (alts (high s u))) (sym i) (subst (λ (z : Bound). Above n z.low (alts z.high) x) (sym c) y))
    ]
