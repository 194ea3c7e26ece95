-- The parts of a kept row, as left parts and as right parts.
use Rattle.std.proofs.Common.{◌≡◌, ◌∙◌, sym, ap, subst, refl, ℕ, zero, suc, ◌+◌, ◌<◌, ◌≤◌, ◌%◌, arith, true, false, nat_eq, nat_lt, List, [], ◌∷◌, ◌++◌, map, length, get_or, ◌⊎◌, inl, inr}
use Rattle.std.specs.List.{flat_map, list_all, Contains}
use Rattle.jl_model.specs.declared.ty.Ty.{Ty}
use Rattle.jl_model.specs.declared.ty.Ty.TheViews as V
use Rattle.jl_model.specs.declared.ty.Ty.TheVariants as W
use Rattle.jl_model.specs.declared.ty.Decl.{Decl}
use Rattle.jl_model.specs.declared.ty.Written.{Written}
use Rattle.jl_model.specs.declared.ty.Bound.{Bound}
use Rattle.jl_model.specs.Ancestors.{table_of}
use Rattle.jl_model.specs.Kinds.{Kind, unused, once, diagonal, bound}
use Rattle.jl_model.specs.Rows.{alts, forms, components, place_of, atoms, free, width, low, high, kind, root, atom, vars_in, Stands, Occurs, standing, bounding}
use Rattle.jl_model.specs.Signature.{Row, top, by_kind, is_diagonal}
use Rattle.jl_model.specs.Subtype.{Table, at}
use Rattle.jl_model.specs.Normal.{IsNormal, AllNormal, no_union, is_single, any as normal_any, var as normal_var, nominal as normal_nominal, tuple as normal_tuple, none, more}
use Rattle.jl_model.specs.Valid.{is_known, is_closed}
use Rattle.jl_model.specs.Refusals.{Declared, bound_types}
use Rattle.jl_model.proofs.TypeInduction.{Each, by_cases}
use Rattle.jl_model.proofs.FormLemmas.{is_any, is_tuple, is_nominal, is_var, vars-union, vars-tuple, vars-nominal}
use Rattle.jl_model.proofs.PutLemmas.{both_true}
use Rattle.jl_model.proofs.AncestorLemmas.{each_true, true_each}
use Rattle.jl_model.proofs.KnownLemmas.{Known, known-any, known-union, known-tuple, known-var, nominal_known}
use Rattle.jl_sig.specs.declared.row.SigRow.{SigRow}
use Rattle.jl_sig.specs.declared.sig.Sig.{Sig}
use Rattle.jl_sig.specs.SigParts.{kept_of, bounded_of}
use Rattle.jl_sig.proofs.WholeLemmas.{Carries, Rows, chosen_have, forms_have}
use Rattle.jl_model.specs.SigRefusals.{is_argument, is_component}
use Rattle.jl_model.specs.Found.{outer}
use Rattle.jl_search.proofs.KindLemmas.{is_diag, less_or}
use Rattle.jl_subsig.specs.Side.{row_of, held, sided, IsHigh, IsHighForm, form_plain, form_named, AreLeftParts, IsRightPart, AreRightParts, right_any, right_variable, right_tuple, right_nominal, right_end, right_more, IsRightRow, IsSide}
use Rattle.jl_search.specs.Serving.{IsPlain, IsPlace}
use Rattle.jl_search.proofs.HasLemmas.{Has, has_left, has_right, has_split, has_of, all_has, has_none, none_has}
use Rattle.jl_search.proofs.PartLemmas.{Plain, plain_any, plain_tuple, plain_nominal, plain_var, AllPlain, all_end, all_more}
use Rattle.jl_subsume.proofs.MadeLemmas.{Seeds, seeds_both}
use Rattle.jl_subsume.proofs.ScopeLemmas.{IsSlot, slot_diagonal, slot_atom, SmallN, row_plain_n, root_own, root_atom, atom_past, high_before, top_within, foreign, occurs_small, diagonal_small}
use Rattle.jl_search.proofs.FindLemmas.{outer-any, outer-tuple, outer-nominal, outer-var}
use Rattle.jl_search.specs.Open.{IsOpen, AreOpen, closed, variable, applied, open_end, open_more}
use Rattle.jl_subsig.proofs.RightLemmas.{Allowed, allowed_seeds, allowed_bound}
use Rattle.jl_sig.proofs.FitLemmas.{argument-any, argument-var, argument-union, argument-tuple, argument-nominal}
use Rattle.jl_subsig.proofs.LeftLemmas.{NormalIn, normal_seeds, normal_bound, normal_component, high_in}
use Rattle.jl_subsig.proofs.GroundNone.{none_ground}
use Rattle.jl_subsig.proofs.HighLemmas.{high_any, form_high}
use Rattle.jl_subsig.proofs.HeldLemmas as H

-- the nominal types of a type are declared
module _ (m : ℕ) where
  abbrev pub AllKnown : List Ty → Type 0
  AllKnown xs = list_all (is_known m) xs ≡ true

  known_nominal : (k : ℕ) (ts : List Ty) → is_known m (V.Nominal k ts) ≡ true → AllKnown ts
  known_nominal k ts h = each_true (is_known m) ts (nominal_known m k ts h).1

  pub known_seeds : Seeds (Known m) AllKnown
  known_seeds = record {
    union = λ ts h t i. all_has (is_known m) ts t (sym (known-union m ts) ∙ h) i;
    tuple = λ ts h t i. all_has (is_known m) ts t (sym (known-tuple m ts) ∙ h) i;
    nominal = known_nominal;
  }

-- arguments, as the test tells them
all_closed : (ts : List Ty) → flat_map vars_in ts ≡ [] → list_all is_closed ts ≡ true
all_closed [] e = refl
all_closed (t ∷ ts) e =
    let a : vars_in t ≡ [] = none_has (vars_in t) (λ v i. has_none (flat_map vars_in (t ∷ ts)) v e (has_left (vars_in t) (flat_map vars_in ts) v i)) in
    let b : flat_map vars_in ts ≡ [] = none_has (flat_map vars_in ts) (λ v i. has_none (flat_map vars_in (t ∷ ts)) v e (has_right (vars_in t) (flat_map vars_in ts) v i)) in
    let c : is_closed t ≡ true = ap (λ z. nat_eq (length z) 0) a in
    both_true (is_closed t) (list_all is_closed ts) c (all_closed ts b)

abbrev Plainly : Ty → Type 0
Plainly t = vars_in t ≡ [] → is_argument t ≡ true

plainly_all : (ts : List Ty) → Each Plainly ts → flat_map vars_in ts ≡ [] → list_all is_argument ts ≡ true
plainly_all [] e h = refl
plainly_all (t ∷ ts) e h =
    both_true (is_argument t) (list_all is_argument ts) (e.0 (none_has (vars_in t) (λ v i. has_none (flat_map vars_in (t ∷ ts)) v h (has_left (vars_in t) (flat_map vars_in ts) v i))))
    (plainly_all ts e.1 (none_has (flat_map vars_in ts) (λ v i. has_none (flat_map vars_in (t ∷ ts)) v h (has_right (vars_in t) (flat_map vars_in ts) v i))))

closed_argument : (t : Ty) → Plainly t
closed_argument = by_cases Plainly (record {
  any = λ h. argument-any;
  union = λ ts e h. argument-union ts ∙ all_closed ts (sym (vars-union ts) ∙ h);
  tuple = λ ts e h. argument-tuple ts ∙ all_closed ts (sym (vars-tuple ts) ∙ h);
  nominal = λ k ts e h. argument-nominal k ts ∙ plainly_all ts e (sym (vars-nominal k ts) ∙ h);
  var = λ v h. argument-var v;
})

mutual
  pub argument_told : (t : Ty) → IsOpen t → is_argument t ≡ true
  argument_told t (closed s e) = closed_argument t e
  argument_told t (variable s v o) = ap is_argument (is_var t v o) ∙ argument-var v
  argument_told t (applied s k ts o h) = ap is_argument (is_nominal t k ts o) ∙ argument-nominal k ts ∙ arguments_told ts h

  pub arguments_told : (ts : List Ty) → AreOpen ts → list_all is_argument ts ≡ true
  arguments_told ts open_end = refl
  arguments_told ts (open_more t us p q) = both_true (is_argument t) (list_all is_argument us) (argument_told t p) (arguments_told us q)

-- an argument is an item, where it is a normal form
pub argument_whole : (t : Ty) → IsOpen t → is_single t ≡ false → vars_in t ≡ []
argument_whole t (closed s e) h = e
argument_whole t (variable s v o) h = let c : true ≡ false = sym (ap no_union o) ∙ h in cc
argument_whole t (applied s k ts o a) h = let c : true ≡ false = sym (ap no_union o) ∙ h in cc

module _ (ds : List Decl) (declared : Declared ds) (s : Sig) (r : SigRow) (side : IsSide ds s r) where
  abbrev pub n : Table
  n = table_of ds

  abbrev pub a : Written
  a = kept_of s

  abbrev pub l : Row
  l = row_of r

  -- what holds of the arguments in the row
  abbrev pub N : List Ty → Type 0
  N xs = AllNormal (table_of ds) xs × (AreOpen xs × (list_all (is_known (length ds)) xs ≡ true))

  abbrev pub M : Ty → Type 0
  M t = NormalIn (table_of ds) t × (Allowed t × Known (length ds) t)

  pub seeds : Seeds M N
  seeds = seeds_both (NormalIn (table_of ds)) (λ t. Allowed t × Known (length ds) t) (AllNormal (table_of ds)) (λ xs. AreOpen xs × (list_all (is_known (length ds)) xs ≡ true)) (normal_seeds (table_of ds))
      (seeds_both Allowed (Known (length ds)) AreOpen (λ xs. list_all (is_known (length ds)) xs ≡ true) allowed_seeds (known_seeds (length ds)))

  known_high : (v : ℕ) → is_known (length ds) (high (kept_of s) v) ≡ true
  known_high v = by_place (high_in (kept_of s).vars v)
    where
      by_place : Has (bound_types (kept_of s).vars) (high (kept_of s) v) ⊎ (high (kept_of s) v ≡ W.Any) → is_known (length ds) (high (kept_of s) v) ≡ true
      by_place (inl h) = all_has (is_known (length ds)) (bound_types (kept_of s).vars ++ (kept_of s).parts) (high (kept_of s) v) side.known (has_left (bound_types (kept_of s).vars) (kept_of s).parts (high (kept_of s) v) h)
      by_place (inr e) = ap (is_known (length ds)) e ∙ known-any (length ds)

  pub bounds : (v : ℕ) → M (high (kept_of s) v)
  bounds v = (normal_bound ds declared (kept_of s) side.scoped side.ordered side.normal (row_of r) side.row v, (allowed_bound (kept_of s) side.scoped v, known_high v))

  component : (t : Ty) → Has (kept_of s).parts t → M t
  component t h =
      let c : Allowed t = inl (all_has is_component (kept_of s).parts t side.placed h) in (
        normal_component ds declared (kept_of s) side.scoped side.ordered side.normal (row_of r) side.row t h,
        (c, all_has (is_known (length ds)) (bound_types (kept_of s).vars ++ (kept_of s).parts) t side.known (has_right (bound_types (kept_of s).vars) (kept_of s).parts t h)),
      )

  abbrev pub Shape : List Ty → Type 0
  Shape = SmallN (kept_of s) side.scoped N M seeds bounds

  pub plains : AllPlain (IsSlot (kept_of s)) Shape r.parts
  plains = row_plain_n (kept_of s) side.scoped N M seeds bounds (table_of ds) (row_of r) side.row component

  -- as left parts
  pub slot_high : (k : ℕ) → IsSlot (kept_of s) k → IsHigh ds ((held s r).high k)
  slot_high k (slot_diagonal v i e) = (H.own_alternative ds s r side.held v i e).high
  slot_high k (slot_atom v i j e h) = (H.past_alternative ds s r side.held (atom (kept_of s) v i) (atom_past (kept_of s) v i j)).high

  mutual
    part_normal : (t : Ty) → Plain (IsSlot (kept_of s)) Shape t → IsNormal (table_of ds) t × (is_single t ≡ true)
    part_normal t (plain_any x e) = (normal_any t e, ap no_union e)
    part_normal t (plain_var x k e d) = (normal_var t k e, ap no_union e)
    part_normal t (plain_tuple x us e p) = let q = parts_normal us p in (normal_tuple t us e q.0 q.1, ap no_union e)
    part_normal t (plain_nominal x k xs e q) = (normal_nominal t k xs e q.1.0, ap no_union e)

    parts_normal : (ts : List Ty) → AllPlain (IsSlot (kept_of s)) Shape ts → AllNormal (table_of ds) ts × (list_all is_single ts ≡ true)
    parts_normal ts all_end = (none, refl)
    parts_normal ts (all_more x xs p q) =
        let b = part_normal x p in
        let c = parts_normal xs q in
        (more x xs b.0 c.0, both_true (is_single x) (list_all is_single xs) b.1 c.1)

  -- its nominal types are declared
  abbrev K : Ty → Type 0
  K = Known (length ds)

  carries : (at : ℕ → List Ty) → ((v : ℕ) → Each K (at v)) → Carries K at
  carries at h = record {
    union = λ ts p. true_each (is_known (length ds)) ts (sym (known-union (length ds) ts) ∙ p);
    tuple = λ ts p. true_each (is_known (length ds)) ts (sym (known-tuple (length ds) ts) ∙ p);
    join = λ us e. known-tuple (length ds) us ∙ each_true (is_known (length ds)) us e;
    var = λ v p. h v;
  }

  known_atoms : (v j : ℕ) (us : List Ty) → Each K (atoms (kept_of s) v j us)
  known_atoms v j [] = tt
  known_atoms v j (u ∷ us) = (known-var (length ds) (atom (kept_of s) v j), known_atoms v (j + 1) us)

  known_place : (v : ℕ) (k : Kind) → Each K (place_of (kept_of s) v k)
  known_place v unused = tt
  known_place v once = forms_have K (λ v. W.Var v ∷ []) (carries (λ v. W.Var v ∷ []) (λ v. (known-var (length ds) v, tt))) (high (kept_of s) v) (known_high v)
  known_place v diagonal = (known-var (length ds) v, tt)
  known_place v bound = known_atoms v 0 (alts (high (kept_of s) v))

  abbrev places_in : ℕ → List Ty
  places_in v = place_of (kept_of s) v (kind (kept_of s) v)

  known_forms : (ts : List Ty) → ((t : Ty) → Has ts t → K t) → Rows K (map (forms places_in) ts)
  known_forms [] h = tt
  known_forms (t ∷ ts) h = (forms_have K places_in (carries places_in (λ v. known_place v (kind (kept_of s) v))) t (h t (inl refl)), known_forms ts (λ x i. h x (inr i)))

  row_has : (rs : List (List Ty)) (x : List Ty) → Rows K rs → Has rs x → Each K x
  row_has [] x e h = absurd h
  row_has (y ∷ ys) x e (inl i) = subst (Each K) i e.0
  row_has (y ∷ ys) x e (inr h) = row_has ys x e.1 h

  pub parts_known : list_all (is_known (length ds)) r.parts ≡ true
  parts_known = each_true (is_known (length ds)) r.parts (row_has (components (kept_of s)) r.parts
      (chosen_have K (map (forms places_in) (kept_of s).parts) (known_forms (kept_of s).parts (λ t h. (component t h).1.1))) (has_of (components (kept_of s)) r.parts side.row.parts))

  mutual
    outer_slot : (t : Ty) (k : ℕ) → Plain (IsSlot (kept_of s)) Shape t → Has (outer t) k → IsSlot (kept_of s) k
    outer_slot t k (plain_any x e) h = absurd (subst (λ z. Has z k) (ap outer (is_any t e) ∙ outer-any) h)
    outer_slot t k (plain_var x j e d) h = elim (subst (λ z. Has z k) (ap outer (is_var t j e) ∙ outer-var j) h) [ inl i ↦ subst (IsSlot (kept_of s)) i d | inr b ↦ absurd b ]
    outer_slot t k (plain_tuple x us e p) h = outer_slots us k p (subst (λ z. Has z k) (ap outer (is_tuple t us e) ∙ outer-tuple us) h)
    outer_slot t k (plain_nominal x j xs e q) h = absurd (subst (λ z. Has z k) (ap outer (is_nominal t j xs e) ∙ outer-nominal j xs) h)

    outer_slots : (ts : List Ty) (k : ℕ) → AllPlain (IsSlot (kept_of s)) Shape ts → Has (flat_map outer ts) k → IsSlot (kept_of s) k
    outer_slots ts k all_end h = absurd h
    outer_slots ts k (all_more x xs p q) h = elim (has_split (outer x) (flat_map outer xs) k h) [ inl i ↦ outer_slot x k p i | inr i ↦ outer_slots xs k q i ]

  pub left_parts : AreLeftParts ds (held s r) r.parts
  left_parts =
      let q = parts_normal r.parts plains in
      record { singles = record { normal = q.0; known = parts_known; single = q.1 }; raises = λ k c. slot_high k (outer_slots r.parts k plains (has_of (flat_map outer r.parts) k c)) }

  -- as right parts
  abbrev PlaceAt : (ℕ → Kind) → ℕ → ℕ → Type 0
  PlaceAt kinds m k = (k % m < m) × (((kinds k ≡ diagonal) × (k % m ≡ k)) ⊎ ((kinds (k % m) ≡ bound) × (kinds k ≡ diagonal → ⊥)))

  slot_place : (k : ℕ) → IsSlot (kept_of s) k → PlaceAt (kind (kept_of s)) (width (kept_of s)) k
  slot_place k (slot_diagonal v i e) = (subst (λ z. z < width (kept_of s)) (sym (root_own (kept_of s) v i)) i, inl (e, root_own (kept_of s) v i))
  slot_place k (slot_atom v i j e h) =
      let x = root_atom (kept_of s) v i j in
      let p = atom_past (kept_of s) v i j in
      let u : kind (kept_of s) (atom (kept_of s) v i) ≡ unused = foreign (kept_of s) side.scoped (atom (kept_of s) v i) (λ o. (let q : nat_lt (atom (kept_of s) v i) (width (kept_of s)) ≡ true = grind (arith, o) in let c : true ≡ false = sym q ∙ p in cc)) in
      (subst (λ z. z < width (kept_of s)) (sym x) j, inr (ap (kind (kept_of s)) x ∙ e, λ d. (let c : unused ≡ diagonal = sym u ∙ d in cc)))

  pub is_place : (k : ℕ) → IsSlot (kept_of s) k → IsPlace (sided s) k
  is_place k d =
      let same : kind (kept_of s) ≡ kind (sided s) = λ i v. sym (side.held.kinds v) i in
      subst (λ m. PlaceAt (kind (sided s)) m k) (sym side.held.wide) (subst (λ f. PlaceAt f (width (kept_of s)) k) same (slot_place k d))

  mutual
    right_of : (t : Ty) → Plain (IsSlot (kept_of s)) Shape t → IsRightPart (table_of ds) (sided s) t
    right_of t (plain_any x e) = right_any t e
    right_of t (plain_var x k e d) = right_variable t k e (is_place k d)
    right_of t (plain_tuple x us e p) = right_tuple t us e (rights_of us p)
    right_of t (plain_nominal x k xs e q) = right_nominal t k xs e q.1.0 (arguments_told xs q.1.1.0)

    rights_of : (ts : List Ty) → AllPlain (IsSlot (kept_of s)) Shape ts → AreRightParts (table_of ds) (sided s) ts
    rights_of ts all_end = right_end
    rights_of ts (all_more x xs p q) = right_more x xs (right_of x p) (rights_of xs q)

  pub right_parts : AreRightParts (table_of ds) (sided s) r.parts
  right_parts = rights_of r.parts plains

  -- as a right row
  pub root_same : root (sided s) ≡ root (kept_of s)
  root_same = let f : ℕ → ℕ → ℕ = λ m k. k % m in ap f side.held.wide

  free_past : (bs : List Bound) (v : ℕ) → length bs ≤ v → get_or bs v free ≡ free
  free_past [] v e = refl
  free_past (b ∷ bs) zero e = absurd (omega arith)
  free_past (b ∷ bs) (suc v) e = free_past bs v (omega arith)

  past_width : (v : ℕ) → nat_lt v (width (kept_of s)) ≡ false → width (kept_of s) ≤ v
  past_width v e = grind (arith, e)

  past_kept : (v : ℕ) → nat_lt v (width (kept_of s)) ≡ false → length (bounded_of s).vars ≤ v
  past_kept v e = let w = side.held.wide in let j = past_width v e in omega (arith, j, w)

  form_vars : (t u : Ty) → IsHighForm ds t u → vars_in u ≡ vars_in t
  form_vars t u (form_plain x y p) = p.plain.closed ∙ sym p.closed
  form_vars t u (form_named x p) = refl

  -- the bounds have the same variables in normal form
  pub high_vars : (v : ℕ) → vars_in (high (sided s) v) ≡ vars_in (high (kept_of s) v)
  high_vars v = elim (less_or v (width (kept_of s))) [
    | inl i ↦ form_vars (high (kept_of s) v) (high (bounded_of s) v) (side.held.highs v i)
    | inr e ↦
        ap (λ (b : Bound). vars_in b.high) (free_past (bounded_of s).vars v (past_kept v e))
        ∙ sym (ap (λ (b : Bound). vars_in b.high) (free_past (kept_of s).vars v (past_width v e)))
  ]

  pub stands_kept : (v : ℕ) → Stands (sided s) v r.parts → Stands (kept_of s) v r.parts
  stands_kept v o = subst (λ f. Contains (map f (flat_map vars_in r.parts)) v) root_same o

  pub stands_sided : (v : ℕ) → Stands (kept_of s) v r.parts → Stands (sided s) v r.parts
  stands_sided v o = subst (λ f. Contains (map f (flat_map vars_in r.parts)) v) (sym root_same) o

  pub occurs_kept : (v : ℕ) → Occurs (sided s) v r.parts → Occurs (kept_of s) v r.parts
  occurs_kept v (standing x row o) = standing v r.parts (stands_kept v o)
  occurs_kept v (bounding x w row o c) = bounding v w r.parts (occurs_kept w o) (subst (λ z. Contains z v) (high_vars w) c)

  pub occurs_sided : (v : ℕ) → Occurs (kept_of s) v r.parts → Occurs (sided s) v r.parts
  occurs_sided v (standing x row o) = standing v r.parts (stands_sided v o)
  occurs_sided v (bounding x w row o c) = bounding v w r.parts (occurs_sided w o) (subst (λ z. Contains z v) (sym (high_vars w)) c)

  none_plain : IsPlain ds (V.Union [])
  none_plain = let g = none_ground ds [] refl in record { normal = g.normal; known = g.known; closed = vars-union [] }

  pub low_sided : (v : ℕ) → IsPlain ds (low (sided s) v)
  low_sided v = elim (less_or v (width (kept_of s))) [
    | inl i ↦ (side.held.lows v i).plain
    | inr e ↦ subst (λ (b : Bound). IsPlain ds b.low) (sym (free_past (bounded_of s).vars v (past_kept v e))) none_plain
  ]

  high_sided : (v : ℕ) → IsHigh ds (high (sided s) v)
  high_sided v = elim (less_or v (width (kept_of s))) [
    | inl i ↦ form_high ds (high (kept_of s) v) (high (bounded_of s) v) (side.held.highs v i)
    | inr e ↦ subst (λ (b : Bound). IsHigh ds b.high) (sym (free_past (bounded_of s).vars v (past_kept v e))) (high_any ds)
  ]

  chosen_small : (v : ℕ) → kind (kept_of s) v ≡ diagonal → v < width (kept_of s)
  chosen_small v d = diagonal_small (kept_of s) side.scoped v d

  pub top_sided : (v : ℕ) → IsHigh ds (top (sided s) (row_of r) v)
  top_sided v = elim (H.true_or (is_diagonal (kind (sided s) v))) [
    | inl d ↦
        let k = is_diag (kind (sided s) v) d in
        let i : kind (kept_of s) v ≡ diagonal = sym (side.held.kinds v) ∙ k in
        subst (IsHigh ds) (sym (ap (λ z. by_kind z (at r.chosen v) (high (sided s) v)) k)) (side.held.chosen v (chosen_small v i) i).high
    | inr d ↦ subst (IsHigh ds) (sym (H.other_kind (kind (sided s) v) (at r.chosen v) (high (sided s) v) d)) (high_sided v)
  ]

  -- what bounds a variable in the row has no other variables than its upper bound
  pub top_in : (v w : ℕ) → Has (vars_in (top (sided s) (row_of r) v)) w → Has (vars_in (high (sided s) v)) w
  top_in v w i = elim (H.true_or (is_diagonal (kind (sided s) v))) [
    | inl d ↦
        let k = is_diag (kind (sided s) v) d in
        let e : top (sided s) (row_of r) v ≡ top (kept_of s) (row_of r) v =
        ap (λ z. by_kind z (at r.chosen v) (high (sided s) v)) k ∙ sym (ap (λ z. by_kind z (at r.chosen v) (high (kept_of s) v)) (sym (side.held.kinds v) ∙ k)) in
        subst (λ z. Has z w) (sym (high_vars v)) (top_within (table_of ds) (kept_of s) (row_of r) side.scoped side.row v w (subst (λ z. Has (vars_in z) w) e i))
    | inr d ↦ subst (λ z. Has (vars_in z) w) (H.other_kind (kind (sided s) v) (at r.chosen v) (high (sided s) v) d) i
  ]

  -- a bound mentions variables before its own
  pub top_before : (v w : ℕ) → Has (vars_in (top (sided s) (row_of r) v)) w → w < v
  top_before v w i = high_before (kept_of s) side.scoped v w (subst (λ z. Has z w) (high_vars v) (top_in v w i))

  pub right_row : IsRightRow ds s r
  right_row = record {
    own = λ v o. occurs_small (kept_of s) side.scoped (table_of ds) (row_of r) side.row v (occurs_kept v o);
    lows = low_sided;
    tops = top_sided;
    ordered = λ v w l c. high_before (kept_of s) side.scoped v w (has_of (vars_in (high (kept_of s) v)) w (subst (λ z. Contains z w) (high_vars v) c));
  }
