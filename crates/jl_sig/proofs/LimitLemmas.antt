-- Which types in a signature are too large.
use Rattle.std.proofs.Common.{◌≡◌, ◌∙◌, sym, ap, subst, refl, ℕ, zero, suc, ◌+◌, ◌*◌, ◌<◌, ◌≤◌, max, arith, true, false, List, [], ◌∷◌, map, length, length-append, ◌⊎◌, inl, inr}
use Rattle.std.specs.List.{flat_map, Contains}
use Rattle.std.proofs.lemmas.List.{length-map}
use Rattle.std.proofs.lemmas.List.Elements.{Contains-append_left, Contains-append_cases}
use Rattle.jl_model.specs.declared.ty.Ty.{Ty}
use Rattle.jl_model.specs.declared.ty.Ty.TheViews as V
use Rattle.jl_model.specs.declared.ty.Ty.TheVariants as W
use Rattle.jl_model.specs.declared.ty.Decl.{Decl}
use Rattle.jl_model.specs.declared.ty.Written.{Written}
use Rattle.jl_model.specs.Ancestors.{table_of}
use Rattle.jl_model.specs.Counts.{nodes, total, product, greatest, raw, raw_of, Raw, IsWithinLimits}
use Rattle.jl_model.specs.Normal.{IsNormalForm}
use Rattle.jl_model.specs.Rows.{alts, choices}
use Rattle.jl_model.specs.Signature.{Both, both_end, both_more}
use Rattle.jl_model.specs.Subtype.{Table}
use Rattle.jl_model.specs.Valid.{is_closed}
use Rattle.jl_model.specs.Refusals.{Declared, bound_types, Given, given_in, given_from}
use Rattle.jl_model.specs.SigRefusals.{types_in, arguments_in, LargeForm}
use Rattle.jl_model.proofs.TypeInduction.{Each, by_cases}
use Rattle.jl_model.proofs.FormLemmas.{alts-any, alts-union, alts-tuple, alts-nominal, alts-var}
use Rattle.jl_model.proofs.CountLemmas.{nodes_all, nodes-union, nodes-tuple, nodes-nominal, raw-any, raw-union, raw-tuple, raw-nominal, raw-var}
use Rattle.jl_model.proofs.DeclaredLemmas.{declared_lawful}
use Rattle.jl_model.proofs.TransLemmas.{equal_trans}
use Rattle.jl_model.proofs.NormalLemmas.{normal_same}
use Rattle.jl_types.specs.Form.{IsTooLarge}
use Rattle.jl_types.proofs.ExistLemmas.{exists}
use Rattle.jl_sig.specs.Parts.{HasWide}
use Rattle.jl_sig.specs.Forms.{IsSmallForm, IsBoundForm, HasTooLarge, AreFormed, formed_end, formed_open, formed_closed, HasTooLargeGiven}
use Rattle.jl_types.proofs.GivenLemmas.{AllGiven, given-any, given-var, given-union, given-tuple, given-nominal, given_both, given_none}
use Rattle.jl_sig.proofs.ExpansionLemmas.{length-choices}

-- RAW ALTERNATIVES
abbrev Counted : Ty → Type 0
Counted t = ((raw t).count ≡ length (alts t)) × ((raw t).count ≤ (raw t).widest)

sum_is : (ts : List Ty) → Each Counted ts → total (map (λ r. r.count) (map raw ts)) ≡ length (flat_map alts ts)
sum_is [] e = refl
sum_is (t ∷ ts) e = let a = sum_is ts e.1 in let b = e.0.0 in let c = length-append (alts t) (flat_map alts ts) in omega (arith, a, b, c)

product_is : (ts : List Ty) → Each Counted ts → product (map (λ r. r.count) (map raw ts)) ≡ length (choices (map alts ts))
product_is [] e = refl
product_is (t ∷ ts) e = ap (λ z. z * product (map (λ r. r.count) (map raw ts))) e.0.0 ∙ ap (λ z. length (alts t) * z) (product_is ts e.1) ∙ sym (length-choices (alts t) (map alts ts))

counted_of : (t : Ty) (n : ℕ) (rs : List Raw) → raw t ≡ raw_of n rs → n ≡ length (alts t) → Counted t
counted_of t n rs e h =
    let a : (raw t).count ≡ n = ap (λ r. r.count) e in
    let b : (raw t).widest ≡ max n (greatest (map (λ r. r.widest) rs)) = ap (λ r. r.widest) e in
    (a ∙ h, omega (arith, a, b))

raw_counts : (t : Ty) → Counted t
raw_counts = by_cases Counted (record {
  any = counted_of W.Any 1 [] raw-any (ap (λ z. length z) (sym alts-any));
  union = λ ts e. counted_of (V.Union ts) (total (map (λ r. r.count) (map raw ts))) (map raw ts) (raw-union ts) (sum_is ts e ∙ ap (λ z. length z) (sym (alts-union ts)));
  tuple = λ ts e. counted_of (V.Tuple ts) (product (map (λ r. r.count) (map raw ts))) (map raw ts) (raw-tuple ts)
      (product_is ts e ∙ sym (length-map (choices (map alts ts)) (λ us. V.Tuple us)) ∙ ap (λ z. length z) (sym (alts-tuple ts)));
  nominal = λ k ts e. counted_of (V.Nominal k ts) 1 (map raw ts) (raw-nominal k ts) (ap (λ z. length z) (sym (alts-nominal k ts)));
  var = λ v. counted_of (W.Var v) 1 [] (raw-var v) (ap (λ z. length z) (sym (alts-var v)));
})

pub few_alternatives : (t : Ty) → (raw t).widest ≤ 256 → length (alts t) ≤ 256
few_alternatives t l = let c = raw_counts t in omega (arith, c.0, c.1, l)

-- ARGUMENTS ARE NO LARGER THAN THE TYPE
abbrev Less : ℕ → ℕ → Given → Type 0
Less m w a = (nodes a.ty ≤ m) × ((raw a.ty).widest ≤ w)

less_more : (m w x y : ℕ) (gs : List Given) → m ≤ x → w ≤ y → AllGiven (Less m w) gs → AllGiven (Less x y) gs
less_more m w x y gs p q h a c = let g = h a c in (omega (arith, g.0, p), omega (arith, g.1, q))

abbrev widths : List Ty → ℕ
widths ts = greatest (map (λ r. r.widest) (map raw ts))

less_flat : (ts : List Ty) → Each (λ t. AllGiven (Less (nodes t) (raw t).widest) (given_in t)) ts → AllGiven (Less (nodes_all ts) (widths ts)) (flat_map given_in ts)
less_flat [] e = given_none (Less 0 0)
less_flat (t ∷ ts) e =
    given_both (Less (nodes_all (t ∷ ts)) (widths (t ∷ ts))) (given_in t) (flat_map given_in ts)
    (less_more (nodes t) (raw t).widest (nodes_all (t ∷ ts)) (widths (t ∷ ts)) (given_in t) (omega arith) (omega arith) e.0)
    (less_more (nodes_all ts) (widths ts) (nodes_all (t ∷ ts)) (widths (t ∷ ts)) (flat_map given_in ts) (omega arith) (omega arith) (less_flat ts e.1))

less_own : (k j m w : ℕ) (ts : List Ty) → nodes_all ts ≤ m → widths ts ≤ w → AllGiven (Less m w) (given_from k j ts)
less_own k j m w [] p q a c = absurd (omega (arith, c.1))
less_own k j m w (t ∷ ts) p q a (zero, l, e) = subst (Less m w) e (omega (arith, p), omega (arith, q))
less_own k j m w (t ∷ ts) p q a (suc i, l, e) = less_own k (j + 1) m w ts (omega (arith, p)) (omega (arith, q)) a (i, omega arith, e)

less_type : (t : Ty) (ts : List Ty) (n : ℕ) → nodes t ≡ 1 + nodes_all ts → raw t ≡ raw_of n (map raw ts) → (nodes_all ts ≤ nodes t) × (widths ts ≤ (raw t).widest)
less_type t ts n e f = let g : (raw t).widest ≡ max n (widths ts) = ap (λ r. r.widest) f in (omega (arith, e), omega (arith, g))

pub arguments_less : (t : Ty) → AllGiven (Less (nodes t) (raw t).widest) (given_in t)
arguments_less = by_cases (λ t. AllGiven (Less (nodes t) (raw t).widest) (given_in t)) (record {
  any = subst (AllGiven (Less (nodes W.Any) (raw W.Any).widest)) (sym given-any) (given_none (Less (nodes W.Any) (raw W.Any).widest));
  union = λ ts e.
      let l = less_type (V.Union ts) ts (total (map (λ r. r.count) (map raw ts))) (nodes-union ts) (raw-union ts) in
      subst (AllGiven (Less (nodes (V.Union ts)) (raw (V.Union ts)).widest)) (sym (given-union ts)) (less_more (nodes_all ts) (widths ts) (nodes (V.Union ts)) (raw (V.Union ts)).widest (flat_map given_in ts) l.0 l.1 (less_flat ts e));
  tuple = λ ts e.
      let l = less_type (V.Tuple ts) ts (product (map (λ r. r.count) (map raw ts))) (nodes-tuple ts) (raw-tuple ts) in
      subst (AllGiven (Less (nodes (V.Tuple ts)) (raw (V.Tuple ts)).widest)) (sym (given-tuple ts)) (less_more (nodes_all ts) (widths ts) (nodes (V.Tuple ts)) (raw (V.Tuple ts)).widest (flat_map given_in ts) l.0 l.1 (less_flat ts e));
  nominal = λ k ts e.
      let l = less_type (V.Nominal k ts) ts 1 (nodes-nominal k ts) (raw-nominal k ts) in
      let x = nodes (V.Nominal k ts) in
      let y = (raw (V.Nominal k ts)).widest in
      subst (AllGiven (Less x y)) (sym (given-nominal k ts))
      (given_both (Less x y) (given_from k 0 ts) (flat_map given_in ts) (less_own k 0 x y ts l.0 l.1) (less_more (nodes_all ts) (widths ts) x y (flat_map given_in ts) l.0 l.1 (less_flat ts e)));
  var = λ v. subst (AllGiven (Less (nodes (W.Var v)) (raw (W.Var v)).widest)) (sym (given-var v)) (given_none (Less (nodes (W.Var v)) (raw (W.Var v)).widest));
})

-- TYPES OF A SIGNATURE
nodes_in : (ts : List Ty) (t : Ty) → Contains ts t → nodes t ≤ nodes_all ts
nodes_in [] t c = absurd (omega (arith, c.1))
nodes_in (x ∷ xs) t (zero, l, e) = let f = ap nodes e in omega (arith, f)
nodes_in (x ∷ xs) t (suc i, l, e) = let h = nodes_in xs t (i, omega arith, e) in omega (arith, h)

not_wide : (ts : List Ty) (t : Ty) → (HasWide ts → ⊥) → Contains ts t → (raw t).widest ≤ 256
not_wide ts t h c = elim (le_cases (raw t).widest 256) [ inl a ↦ a | inr b ↦ absurd (h (t, c, b)) ]
  where
    le_cases : (a b : ℕ) → (a ≤ b) ⊎ (b < a)
    le_cases zero b = inl (omega arith)
    le_cases (suc a) zero = inr (omega arith)
    le_cases (suc a) (suc b) = elim (le_cases a b) [ inl x ↦ inl (omega arith) | inr y ↦ inr (omega arith) ]

pub within : (ts : List Ty) (t : Ty) → total (map nodes ts) ≤ 1024 → (HasWide ts → ⊥) → Contains ts t → IsWithinLimits t
within ts t m h c = let l = nodes_in ts t c in record { nodes = omega (arith, l, m); alternatives = not_wide ts t h c }

given_within : (ts : List Ty) → ((t : Ty) → Contains ts t → IsWithinLimits t) → (a : Given) → Contains (flat_map given_in ts) a → IsWithinLimits a.ty
given_within [] h a c = absurd (omega (arith, c.1))
given_within (t ∷ ts) h a c = elim (Contains-append_cases (given_in t) (flat_map given_in ts) a c) [
  | inl l ↦
      (let w = h t (zero, omega arith, refl) in
      let g = arguments_less t a l in
      let x = w.nodes in
      let y = w.alternatives in
      record { nodes = omega (arith, g.0, x); alternatives = omega (arith, g.1, y) })
  | inr r ↦ given_within ts (λ u k. h u (suc k.0, omega (arith, k.1), k.2)) a r
]

pub arguments_within : (ts : List Ty) → total (map nodes ts) ≤ 1024 → (HasWide ts → ⊥) → (a : Given) → Contains (flat_map given_in ts) a → IsWithinLimits a.ty
arguments_within ts m h = given_within ts (λ t c. within ts t m h c)

-- LARGE FORMS
module _ (ds : List Decl) (declared : Declared ds) where
  abbrev n : Table
  n = table_of ds

  -- where the written type is not too large, its normal form is
  pub large_form : (t : Ty) → IsWithinLimits t → IsTooLarge ds t → (u : Ty) × IsNormalForm n t u × (1024 < nodes u)
  large_form t w (inl h) = absurd (h w)
  large_form t w (inr h) = let e = exists ds declared t in (e.0, e.1.form, h e.0 e.1.form)

  -- a type with a small form is not too large
  pub small_form : (t u v : Ty) → IsSmallForm ds t u → IsNormalForm n t v → 1024 < nodes v → ⊥
  small_form t u v s f l =
      let law = declared_lawful ds declared in
      let same : u ≡ v = normal_same n law u s.form.normal v f.normal (equal_trans n law u t v (s.form.equal.1, s.form.equal.0) f.equal) in
      let e = ap nodes same in
      let m = s.small in
      omega (arith, e, l, m)

  pub not_too_large : (t u : Ty) → IsWithinLimits t → IsSmallForm ds t u → IsTooLarge ds t → ⊥
  not_too_large t u w s (inl h) = h w
  not_too_large t u w s (inr h) = let l = h u s.form in let m = s.small in omega (arith, l, m)

  form_in : (ts us : List Ty) (t : Ty) → Both (IsBoundForm ds) ts us → Contains ts t → (u : Ty) × IsBoundForm ds t u
  form_in ts us t both_end c = absurd (omega (arith, c.1))
  form_in ts us t (both_more x y xs ys p b) (zero, l, e) = (y, subst (λ z. IsBoundForm ds z y) e p)
  form_in ts us t (both_more x y xs ys p b) (suc i, l, e) = form_in xs ys t b (i, omega arith, e)

  pub argument_form : (gs hs : List Given) (a : Given) → AreFormed ds gs hs → Contains gs a → is_closed a.ty ≡ true → (u : Ty) × IsSmallForm ds a.ty u
  argument_form gs hs a formed_end c k = absurd (omega (arith, c.1))
  argument_form gs hs a (formed_open b xs ys o f) (zero, l, e) k = absurd (let g : true ≡ false = sym k ∙ ap (λ (z : Given). is_closed z.ty) (sym e) ∙ o in cc)
  argument_form gs hs a (formed_open b xs ys o f) (suc i, l, e) k = argument_form xs ys a f (i, omega arith, e) k
  argument_form gs hs a (formed_closed b u xs ys o s f) (zero, l, e) k = (u, subst (λ (z : Given). IsSmallForm ds z.ty u) e s)
  argument_form gs hs a (formed_closed b u xs ys o s f) (suc i, l, e) k = argument_form xs ys a f (i, omega arith, e) k

  -- no form is large
  pub no_large : (s : Written) (us : List Ty) (hs : List Given) → Both (IsBoundForm ds) (bound_types s.vars) us → AreFormed ds (arguments_in s) hs → LargeForm n s → ⊥
  no_large s us hs b f (t, u, (inl c, k), i, l) = let e = form_in (bound_types s.vars) us t b c in small_form t e.0 u (e.1.small k) i l
  no_large s us hs b f (t, u, (inr (a, c, q), k), i, l) =
      let e = argument_form (arguments_in s) hs a f c (ap is_closed q ∙ k) in
      small_form t e.0 u (subst (λ z. IsSmallForm ds z e.0) q e.1) i l

  -- a bound, or an argument, is large
  pub large_bound : (s : Written) → total (map nodes (types_in s)) ≤ 1024 → (HasWide (types_in s) → ⊥) → HasTooLarge ds (bound_types s.vars) → LargeForm n s
  large_bound s m h (t, c, l) =
      let w = within (types_in s) t m h (Contains-append_left (bound_types s.vars) s.parts t c) in
      let f = large_form t w l.1 in
      (t, f.0, (inl c, l.0), f.1, f.2)

  pub large_argument : (s : Written) → total (map nodes (types_in s)) ≤ 1024 → (HasWide (types_in s) → ⊥) → HasTooLargeGiven ds (arguments_in s) → LargeForm n s
  large_argument s m h (a, c, l) =
      let w = arguments_within (types_in s) m h a c in
      let f = large_form a.ty w l.1 in
      (a.ty, f.0, (inr (a, c, refl), l.0), f.1, f.2)
