-- What is kept of a signature: each of its kept rows is one of its kept form, and these are all.
use Rattle.std.proofs.Common.{◌≡◌, ◌∙◌, sym, ap, subst, refl, ℕ, zero, suc, ◌+◌, ◌<◌, ◌≤◌, arith, Bool, true, false, nat_eq, nat_lt, List, [], ◌∷◌, ◌++◌, map, length, get_or, ◌⊎◌, inl, inr}
use Rattle.std.specs.List.{flat_map, list_all}
use Rattle.jl_model.specs.declared.ty.Ty.{Ty}
use Rattle.jl_model.specs.declared.ty.Ty.TheOpen.{Nominal}
use Rattle.jl_model.specs.declared.ty.Ty.TheViews.{out-Ty, outs-Any, outs-Union}
use Rattle.jl_model.specs.declared.ty.Ty.TheViews as V
use Rattle.jl_model.specs.declared.ty.Ty.TheVariants as W
use Rattle.jl_model.specs.declared.ty.Bound.{Bound}
use Rattle.jl_model.specs.declared.ty.Decl.{Decl}
use Rattle.jl_model.specs.Ancestors.{table_of}
use Rattle.jl_model.specs.Kinds.{diagonal, plus, below_nominal, places, kind_of}
use Rattle.jl_model.specs.Rows.{alts, free, width, low, high, kind, root, part_places, bound_places, vars_in}
use Rattle.jl_model.specs.Signature.{Row, IsRow, Both, both_end, both_more, is_diagonal}
use Rattle.jl_model.specs.Subtype.{Table, at, Equal}
use Rattle.jl_model.specs.Normal.{IsNormal, AllNormal, IsNormalForm, no_union, is_single, any as normal_any, var as normal_var, nominal as normal_nominal, tuple as normal_tuple, none as normals_end, more as normals_more}
use Rattle.jl_model.specs.Valid.{is_known, is_closed}
use Rattle.jl_model.specs.Refusals.{Declared, bound_types}
use Rattle.jl_model.specs.SigRefusals.{are_bounds, are_placed, is_component}
use Rattle.jl_model.specs.AllRows.{Listed, each_var, all_rows}
use Rattle.jl_model.proofs.TypeInduction.{Each}
use Rattle.jl_model.proofs.FormLemmas.{is_any, is_union, is_tuple, is_nominal, vars-union}
use Rattle.jl_model.proofs.PutLemmas.{and_l, and_r, both_true}
use Rattle.jl_model.proofs.AncestorLemmas.{Lawful, true_each, each_true}
use Rattle.jl_model.proofs.TransLemmas.{equal_trans}
use Rattle.jl_model.proofs.NormalLemmas.{normal_same}
use Rattle.jl_model.proofs.KnownLemmas.{Known, known-any, known-union, known-tuple, known-nominal, known-var, nominal_known}
use Rattle.jl_model.proofs.DeclaredLemmas.{declared_lawful}
use Rattle.jl_types.specs.Form.{Settles, AllSettle, any, var, union, tuple, nominal, none, more}
use Rattle.jl_types.proofs.ExistLemmas.{exists}
use Rattle.jl_types.proofs.PartsLemmas.{known_parts}
use Rattle.jl_sig.specs.declared.row.SigRow.{SigRow}
use Rattle.jl_sig.specs.declared.sig.Sig.{Sig}
use Rattle.jl_sig.specs.SigParts.{written_of, kept_of, bounded_of, diagonals_of, rows_of}
use Rattle.jl_sig.specs.Forms.{IsBoundForm}
use Rattle.jl_sig.specs.Fit.{AreKeptRows, rows_end, rows_more}
use Rattle.jl_sig.specs.Fit as F
use Rattle.jl_sig.specs.Prepared.{IsKeptOf, IsSigOf}
use Rattle.jl_sig.proofs.OwnLemmas.{own_parts, own_bounds}
use Rattle.jl_sig.proofs.WholeLemmas.{Carries, forms_have}
use Rattle.jl_search.proofs.KindLemmas.{less_or}
use Rattle.jl_subsume.specs.Scoped.{IsScoped, IsPlaced, IsOrdered, HasNormalArguments}
use Rattle.jl_subsig.specs.Alike.{IsKeptForm, IsKeptRow}
use Rattle.jl_subsig.specs.Side.{row_of, sided, IsPlainForm, IsNamed, high_plain, high_named, IsHighForm, form_plain, form_named, IsAlternative, IsSide}
use Rattle.jl_search.proofs.HasLemmas.{Has, has_of, of_has, has_none, all_has}
use Rattle.jl_search.proofs.PartLemmas.{Plain, plain_any, plain_tuple, plain_nominal, plain_var, AllPlain, all_end, all_more}
use Rattle.jl_subsume.proofs.FormsLemmas.{nominal_form}
use Rattle.jl_subsume.proofs.ScopeLemmas.{diagonal_small, Never, SmallN, bound_plain_n, own_shape, lacks, alts_closed, low_none, foreign, has_or}
use Rattle.jl_subsig.proofs.PairLemmas.{settle_any}
use Rattle.jl_subsig.proofs.MatchLemmas.{Matches, matches_of, lows, highs}
use Rattle.jl_subsig.proofs.AlikeLemmas.{alike_equal, alike_vars}
use Rattle.jl_subsig.proofs.LeftLemmas.{NormalIn, normal_seeds, normal_bound, high_in}
use Rattle.jl_subsig.proofs.KeptFormLemmas.{closed_form, kept_is_alike, kept_is_scoped, kept_is_placed, kept_is_ordered, kept_is_normal}
use Rattle.jl_subsig.proofs.KeptRowLemmas.{kept_once, kept_row, row_of_kept}
use Rattle.jl_subsig.proofs.GlueLemmas.{bounds_ordered}
use Rattle.jl_subsig.proofs.GroundNone.{none_ground}
use Rattle.jl_search.proofs.ListedLemmas as L
use Rattle.jl_subsig.proofs.RightLemmas.{Allowed, allowed_seeds, allowed_bound}
use Rattle.jl_subsig.proofs.HighLemmas.{any_plain, same_form, high_any}
use Rattle.jl_subsig.proofs.HeldLemmas as H

small_name : (k m : ℕ) → k < m → nat_lt k m ≡ true
small_name k m l = grind (arith, l)

-- lists in pairs
both_widths : (P : Ty → Ty → Type 0) (bs cs : List Bound) → Both P (bound_types bs) (bound_types cs) → length bs ≡ length cs
both_widths P [] [] h = refl
both_widths P [] (c ∷ cs) h = elim h [ ]
both_widths P (b ∷ bs) [] h = elim h [ ]
both_widths P (b ∷ bs) (c ∷ cs) (both_more x y xs ys p (both_more z w zs ws q r)) = ap suc (both_widths P bs cs r)

both_map : (P Q : Ty → Ty → Type 0) → ((t u : Ty) → P t u → Q t u) → (ts us : List Ty) → Both P ts us → Both Q ts us
both_map P Q f ts us both_end = both_end
both_map P Q f ts us (both_more t u vs ws p r) = both_more t u vs ws (f t u p) (both_map P Q f vs ws r)

both_at : (P : Ty → Ty → Type 0) → P W.Any W.Any → (ts us : List Ty) → Both P ts us → (v : ℕ) → P (at ts v) (at us v)
both_at P d ts us both_end v = d
both_at P d ts us (both_more t u vs ws p r) zero = p
both_at P d ts us (both_more t u vs ws p r) (suc v) = both_at P d vs ws r v

both_long : (P : Ty → Ty → Type 0) (ts us : List Ty) → Both P ts us → length ts ≡ length us
both_long P ts us both_end = refl
both_long P ts us (both_more t u vs ws p r) = ap suc (both_long P vs ws r)

each_long : (f : ℕ → Bool) (i : ℕ) (bs : List Bound) → length (each_var f i bs) ≡ length bs
each_long f i [] = refl
each_long f i (b ∷ bs) = ap suc (each_long f (i + 1) bs)

get_each : (f : ℕ → Bool) (i : ℕ) (bs : List Bound) (v : ℕ) → v < length bs → get_or (each_var f i bs) v false ≡ f (i + v)
get_each f i [] v l = absurd (omega arith)
get_each f i (b ∷ bs) zero l = ap f (omega arith)
get_each f i (b ∷ bs) (suc v) l = let e : i + 1 + v ≡ i + suc v = omega arith in get_each f (i + 1) bs v (omega arith) ∙ ap f e

get_past : (bs : List Bool) (k : ℕ) → length bs ≤ k → get_or bs k false ≡ false
get_past [] k l = refl
get_past (b ∷ bs) zero l = absurd (omega arith)
get_past (b ∷ bs) (suc k) l = get_past bs k (omega arith)

-- bounds with the same places, one by one
same_places : (v : ℕ) (bs cs : List Bound) → length bs ≡ length cs
    → ((i : ℕ) → i < length bs → plus (places v (get_or bs i free).low) (places v (get_or bs i free).high) ≡ plus (places v (get_or cs i free).low) (places v (get_or cs i free).high)) → bound_places v bs ≡ bound_places v cs
same_places v [] [] e h = refl
same_places v [] (c ∷ cs) e h = absurd (omega (arith, e))
same_places v (b ∷ bs) [] e h = absurd (omega (arith, e))
same_places v (b ∷ bs) (c ∷ cs) e h =
    ap (λ z. plus z (bound_places v bs)) (h 0 (omega arith)) ∙ ap (λ z. plus (plus (places v c.low) (places v c.high)) z) (same_places v bs cs (omega (arith, e)) (λ i l. h (suc i) (omega (arith, l))))

none_length : (ns : List ℕ) → nat_eq (length ns) 0 ≡ true → ns ≡ []
none_length [] h = refl
none_length (n ∷ ns) h = let e : length (n ∷ ns) ≡ 0 = grind (arith, h) in absurd (omega arith)

alts_long : (bs : List Bound) → length (map (λ (b : Bound). alts b.high) bs) ≡ length bs
alts_long [] = refl
alts_long (b ∷ bs) = ap suc (alts_long bs)

at_or : (us : List Ty) (i : ℕ) → Has us (at us i) ⊎ (at us i ≡ W.Any)
at_or [] i = inr refl
at_or (u ∷ us) zero = inl (inl refl)
at_or (u ∷ us) (suc i) = elim (at_or us i) [ inl h ↦ inl (inr h) | inr e ↦ inr e ]

all_left : (p : Ty → Bool) (ts us : List Ty) → list_all p (ts ++ us) ≡ true → list_all p ts ≡ true
all_left p [] us h = refl
all_left p (t ∷ ts) us h = both_true (p t) (list_all p ts) (and_l (p t) (list_all p (ts ++ us)) h) (all_left p ts us (and_r (p t) (list_all p (ts ++ us)) h))

all_right : (p : Ty → Bool) (ts us : List Ty) → list_all p (ts ++ us) ≡ true → list_all p us ≡ true
all_right p [] us h = h
all_right p (t ∷ ts) us h = all_right p ts us (and_r (p t) (list_all p (ts ++ us)) h)

all_join : (p : Ty → Bool) (ts us : List Ty) → list_all p ts ≡ true → list_all p us ≡ true → list_all p (ts ++ us) ≡ true
all_join p [] us h k = k
all_join p (t ∷ ts) us h k = both_true (p t) (list_all p (ts ++ us)) (and_l (p t) (list_all p ts) h) (all_join p ts us (and_r (p t) (list_all p ts) h) k)

-- forms without unions and variables are normal forms, where their arguments are
module _ (n : Table) (D : ℕ → Type 0) (Q : List Ty → Type 0) (normal : (xs : List Ty) → Q xs → AllNormal n xs) where
  mutual
    plain_normal : (t : Ty) → Plain D Q t → IsNormal n t × (is_single t ≡ true)
    plain_normal t (plain_any x e) = (normal_any t e, ap no_union e)
    plain_normal t (plain_var x k e d) = (normal_var t k e, ap no_union e)
    plain_normal t (plain_tuple x us e p) = let q = plains_normal us p in (normal_tuple t us e q.0 q.1, ap no_union e)
    plain_normal t (plain_nominal x k xs e q) = (normal_nominal t k xs e (normal xs q), ap no_union e)

    plains_normal : (ts : List Ty) → AllPlain D Q ts → AllNormal n ts × (list_all is_single ts ≡ true)
    plains_normal ts all_end = (normals_end, refl)
    plains_normal ts (all_more x xs p q) =
        let b = plain_normal x p in
        let c = plains_normal xs q in
        (normals_more x xs b.0 c.0, both_true (is_single x) (list_all is_single xs) b.1 c.1)

module _ (ds : List Decl) (declared : Declared ds) where
  abbrev law : Lawful (table_of ds)
  law = declared_lawful ds declared

  abbrev Form : Ty → Ty → Type 0
  Form = IsNormalForm (table_of ds)

  abbrev K : Ty → Type 0
  K = Known (length ds)

  -- what is kept is declared
  form_known : (t u : Ty) → Form t u → is_known (length ds) t ≡ true → is_known (length ds) u ≡ true
  form_known t u h k =
      let r = exists ds declared t in
      let i : u ≡ r.0 = normal_same (table_of ds) law u h.normal r.0 r.1.form.normal (equal_trans (table_of ds) law u t r.0 (h.equal.1, h.equal.0) r.1.form.equal) in
      ap (is_known (length ds)) i ∙ r.1.kept (is_known (length ds)) (known_parts (length ds)) k

  forms_known : (ts us : List Ty) → Both Form ts us → Each (Known (length ds)) ts → Each (Known (length ds)) us
  forms_known ts us both_end e = tt
  forms_known ts us (both_more t u vs ws p r) e = (form_known t u p e.0, forms_known vs ws r e.1)

  mutual
    settled_known : (t u : Ty) → Settles Form t u → is_known (length ds) t ≡ true → is_known (length ds) u ≡ true
    settled_known t u (any s e) k = k
    settled_known t u (var s v e) k = k
    settled_known t u (union s w ts us e f h) k = ap (is_known (length ds)) (is_union u us f) ∙ known-union (length ds) us ∙ all_settled ts us h (sym (known-union (length ds) ts) ∙ sym (ap (is_known (length ds)) (is_union t ts e)) ∙ k)
    settled_known t u (tuple s w ts us e f h) k = ap (is_known (length ds)) (is_tuple u us f) ∙ known-tuple (length ds) us ∙ all_settled ts us h (sym (known-tuple (length ds) ts) ∙ sym (ap (is_known (length ds)) (is_tuple t ts e)) ∙ k)
    settled_known t u (nominal s w m ts us e f h) k =
        let q = nominal_known (length ds) m ts (sym (ap (is_known (length ds)) (is_nominal t m ts e)) ∙ k) in
        ap (is_known (length ds)) (is_nominal u m us f) ∙ known-nominal (length ds) m us ∙ both_true (nat_lt m (length ds)) (list_all (is_known (length ds)) us) (small_name m (length ds) q.0) (each_true (is_known (length ds)) us (forms_known ts us h q.1))

    all_settled : (ts us : List Ty) → AllSettle Form ts us → list_all (is_known (length ds)) ts ≡ true → list_all (is_known (length ds)) us ≡ true
    all_settled ts us none k = refl
    all_settled ts us (more t u vs ws p r) k =
        both_true (is_known (length ds) u) (list_all (is_known (length ds)) ws) (settled_known t u p (and_l (is_known (length ds) t) (list_all (is_known (length ds)) vs) k)) (all_settled vs ws r (and_r (is_known (length ds) t) (list_all (is_known (length ds)) vs) k))

  both_known : (ts us : List Ty) → Both (Settles Form) ts us → list_all (is_known (length ds)) ts ≡ true → list_all (is_known (length ds)) us ≡ true
  both_known ts us both_end k = refl
  both_known ts us (both_more t u vs ws p r) k =
      both_true (is_known (length ds) u) (list_all (is_known (length ds)) ws) (settled_known t u p (and_l (is_known (length ds) t) (list_all (is_known (length ds)) vs) k)) (both_known vs ws r (and_r (is_known (length ds) t) (list_all (is_known (length ds)) vs) k))

  -- bounds in normal form
  abbrev FormOf : Ty → Ty → Type 0
  FormOf t u = vars_in t ≡ [] → IsPlainForm ds t u

  bound_form : (t u : Ty) → IsBoundForm ds t u → FormOf t u
  bound_form t u h e = record { closed = e; plain = record { normal = h.form.normal; known = h.known; closed = closed_form ds declared t u e h.form }; equal = h.form.equal }

  none_form : FormOf (V.Union []) (V.Union [])
  none_form e = same_form ds (V.Union []) (let g = none_ground ds [] refl in record { normal = g.normal; known = g.known; closed = vars-union [] })

  any_form : FormOf W.Any W.Any
  any_form e = same_form ds W.Any (any_plain ds)

  any_alternative : IsAlternative ds W.Any
  any_alternative = record { high = high_any ds; single = ap no_union outs-Any }

  carries : Carries (Known (length ds)) (λ v. W.Var v ∷ [])
  carries = record {
    union = λ ts p. true_each (is_known (length ds)) ts (sym (known-union (length ds) ts) ∙ p);
    tuple = λ ts p. true_each (is_known (length ds)) ts (sym (known-tuple (length ds) ts) ∙ p);
    join = λ us e. known-tuple (length ds) us ∙ each_true (is_known (length ds)) us e;
    var = λ v p. (known-var (length ds) v, tt);
  }

  each_of_has : (ts : List Ty) (t : Ty) → Each (Known (length ds)) ts → Has ts t → is_known (length ds) t ≡ true
  each_of_has [] t e h = absurd h
  each_of_has (x ∷ xs) t e (inl i) = subst (λ z. is_known (length ds) z ≡ true) i e.0
  each_of_has (x ∷ xs) t e (inr h) = each_of_has xs t e.1 h

  both_once : (ts us ws : List Ty) → Both (Settles Form) ts us → Both (Settles Form) ts ws → us ≡ ws
  both_once ts us ws both_end both_end = refl
  both_once ts us ws (both_more t u vs xs p r) (both_more t2 w vs2 ys q s) = let e = kept_once (table_of ds) law t u w p q in let f = both_once vs xs ys r s in rw (e, f) refl

  -- kept rows, one by one
  aligned : (rs : List Listed) (ks : List SigRow) → AreKeptRows ds rs ks → (k : SigRow) → Has ks k → (r : Listed) × Has rs r × F.IsKeptRow ds r k
  aligned rs ks rows_end k h = absurd h
  aligned rs ks (rows_more r q ss qs p t) k (inl e) = (r, inl refl, subst (F.IsKeptRow ds r) e p)
  aligned rs ks (rows_more r q ss qs p t) k (inr h) = let w = aligned ss qs t k h in (w.0, inr w.1, w.2)

  aligns : (rs : List Listed) (ks : List SigRow) → AreKeptRows ds rs ks → (r : Listed) → Has rs r → (k : SigRow) × Has ks k × F.IsKeptRow ds r k
  aligns rs ks rows_end r h = absurd h
  aligns rs ks (rows_more s q ss qs p t) r (inl e) = (q, inl refl, subst (λ (z : Listed). F.IsKeptRow ds z q) e p)
  aligns rs ks (rows_more s q ss qs p t) r (inr h) = let w = aligns ss qs t r h in (w.0, inr w.1, w.2)

  module _ (g : Sig) (sig : IsSigOf ds g) where
    abbrev kept : IsKeptOf ds g
    kept = sig.kept

    placed_true : are_placed (written_of g) ≡ true
    placed_true = elim (H.true_or (are_placed (written_of g))) [ inl e ↦ e | inr e ↦ absurd (kept.placed.placed e) ]

    pub scoped : IsScoped (written_of g)
    scoped = record {
      own = own_parts (written_of g) kept.placed.own;
      own_bounds = own_bounds (written_of g) kept.placed.own;
      bounds = and_l (are_bounds (width (written_of g)) 0 (written_of g).vars) (list_all is_component (written_of g).parts) placed_true;
    }

    pub placed : IsPlaced (written_of g)
    placed = and_r (are_bounds (width (written_of g)) 0 (written_of g).vars) (list_all is_component (written_of g).parts) placed_true

    pub form : IsKeptForm (table_of ds) (written_of g) (kept_of g)
    form = record { bounds = kept.kept.bounds; parts = kept.kept.parts }

    pub ordered : IsOrdered (table_of ds) (written_of g)
    ordered = bounds_ordered ds declared (written_of g) (λ b c f. sig.ordered (b, c, f))

    pub match : Matches (table_of ds) (written_of g) (kept_of g)
    match = matches_of (table_of ds) (written_of g) (kept_of g) (kept_is_alike ds declared (written_of g) (kept_of g) scoped placed form)

    kept_scoped : IsScoped (kept_of g)
    kept_scoped = kept_is_scoped ds declared (written_of g) (kept_of g) scoped placed form

    kept_ordered : IsOrdered (table_of ds) (kept_of g)
    kept_ordered = kept_is_ordered ds declared (written_of g) (kept_of g) scoped placed form ordered

    kept_normal : HasNormalArguments (table_of ds) (kept_of g)
    kept_normal = kept_is_normal ds declared (written_of g) (kept_of g) scoped placed form

    kept_known : list_all (is_known (length ds)) (bound_types (kept_of g).vars ++ (kept_of g).parts) ≡ true
    kept_known = all_join (is_known (length ds)) (bound_types (kept_of g).vars) (kept_of g).parts
        (both_known (bound_types (written_of g).vars) (bound_types (kept_of g).vars) kept.kept.bounds (all_left (is_known (length ds)) (bound_types (written_of g).vars) (written_of g).parts kept.placed.known))
        (both_known (written_of g).parts (kept_of g).parts kept.kept.parts (all_right (is_known (length ds)) (bound_types (written_of g).vars) (written_of g).parts kept.placed.known))

    bounded_forms : Both FormOf (bound_types (written_of g).vars) (bound_types (bounded_of g).vars)
    bounded_forms = both_map (IsBoundForm ds) FormOf bound_form (bound_types (written_of g).vars) (bound_types (bounded_of g).vars) kept.bounds

    wide : length (bounded_of g).vars ≡ width (kept_of g)
    wide = sym (both_widths FormOf (written_of g).vars (bounded_of g).vars bounded_forms) ∙ match.width

    form_on : (t u w : Ty) → Equal (table_of ds) t u → vars_in u ≡ [] → IsPlainForm ds t w → IsPlainForm ds u w
    form_on t u w e c h = record { closed = c; plain = h.plain; equal = equal_trans (table_of ds) law u t w (e.1, e.0) h.equal }

    low_form : (v : ℕ) → IsPlainForm ds (low (kept_of g) v) (low (bounded_of g) v)
    low_form v =
        form_on (low (written_of g) v) (low (kept_of g) v) (low (bounded_of g) v) (alike_equal (table_of ds) (low (written_of g) v) (low (kept_of g) v) (match.low v)) (low_none (kept_of g) kept_scoped v)
        (lows FormOf none_form (written_of g).vars (bounded_of g).vars bounded_forms v (low_none (written_of g) scoped v))

    -- an upper bound without variables in normal form
    plain_high : (v : ℕ) → vars_in (high (written_of g) v) ≡ [] → IsPlainForm ds (high (kept_of g) v) (high (bounded_of g) v)
    plain_high v e =
        form_on (high (written_of g) v) (high (kept_of g) v) (high (bounded_of g) v) (alike_equal (table_of ds) (high (written_of g) v) (high (kept_of g) v) (match.high v))
        (sym (alike_vars (table_of ds) (high (written_of g) v) (high (kept_of g) v) (match.high v)) ∙ e)
        (highs FormOf any_form (written_of g).vars (bounded_of g).vars bounded_forms v e)

    diagonal_told : (v : ℕ) → get_or (diagonals_of g) v false ≡ is_diagonal (kind (kept_of g) v)
    diagonal_told v =
        let f : ℕ → Bool = λ v. is_diagonal (kind (written_of g) v) in
        let long : length (diagonals_of g) ≡ width (written_of g) = ap length kept.diagonals ∙ each_long f 0 (written_of g).vars in
        elim (less_or v (width (written_of g))) [
          | inl l ↦
              let e : 0 + v ≡ v = omega arith in
              ap (λ z. get_or z v false) kept.diagonals ∙ get_each f 0 (written_of g).vars v l ∙ ap f e ∙ ap is_diagonal (match.kinds v)
          | inr i ↦
              let k : width (written_of g) ≤ v = grind (arith, i) in
              let w = match.width in
              get_past (diagonals_of g) v (omega (arith, k, long)) ∙ sym (ap is_diagonal (foreign (kept_of g) kept_scoped v (λ l. omega (arith, l, k, w))))
        ]

    -- a row of the kept form among its kept rows
    module _ (r : SigRow) (row : IsRow (table_of ds) (kept_of g) (row_of r)) (long : length r.chosen ≡ width (kept_of g)) where
      known_bound : (v : ℕ) → is_known (length ds) (high (kept_of g) v) ≡ true
      known_bound v = by_place (high_in (kept_of g).vars v)
        where
          by_place : Has (bound_types (kept_of g).vars) (high (kept_of g) v) ⊎ (high (kept_of g) v ≡ W.Any) → is_known (length ds) (high (kept_of g) v) ≡ true
          by_place (inl h) = all_has (is_known (length ds)) (bound_types (kept_of g).vars) (high (kept_of g) v) (all_left (is_known (length ds)) (bound_types (kept_of g).vars) (kept_of g).parts kept_known) h
          by_place (inr e) = ap (is_known (length ds)) e ∙ known-any (length ds)

      normal_high : (v : ℕ) → NormalIn (table_of ds) (high (kept_of g) v)
      normal_high v = normal_bound ds declared (kept_of g) kept_scoped kept_ordered kept_normal (row_of r) row v

      -- an upper bound that is a nominal type
      named : (v k : ℕ) (ts : List Ty) → out-Ty (high (kept_of g) v) ≡ Nominal k ts → IsNamed ds (high (kept_of g) v)
      named v k ts e =
          let i : high (kept_of g) v ≡ V.Nominal k ts = is_nominal (high (kept_of g) v) k ts e in
          record {
            number = k;
            args = ts;
            is = i;
            normal = (normal_seeds (table_of ds)).nominal k ts (subst (NormalIn (table_of ds)) i (normal_high v));
            known = known_bound v;
            opened = allowed_seeds.nominal k ts (subst Allowed i (allowed_bound (kept_of g) kept_scoped v));
          }

      high_form : (v : ℕ) → IsHighForm ds (high (kept_of g) v) (high (bounded_of g) v)
      high_form v = elim (H.true_or (is_closed (high (written_of g) v))) [
        | inl c ↦ form_plain (high (kept_of g) v) (high (bounded_of g) v) (plain_high v (none_length (vars_in (high (written_of g) v)) c))
        | inr c ↦ elim (own_shape (kept_of g) kept_scoped v).high [
          | inl e ↦
              let i : vars_in (high (written_of g) v) ≡ [] = alike_vars (table_of ds) (high (written_of g) v) (high (kept_of g) v) (match.high v) ∙ e in
              form_plain (high (kept_of g) v) (high (bounded_of g) v) (plain_high v i)
          | inr r ↦ subst (IsHighForm ds (high (kept_of g) v)) (sym (kept.named v c)) (form_named (high (kept_of g) v) (named v r.0 r.1 r.2))
        ]
      ]

      alternative : (v : ℕ) (u : Ty) → Has (alts (high (kept_of g) v)) u → IsAlternative ds u
      alternative v u h =
          let q = plain_normal (table_of ds) Never (SmallN (kept_of g) kept_scoped (AllNormal (table_of ds)) (NormalIn (table_of ds)) (normal_seeds (table_of ds)) normal_high) (λ xs q. q.1) u
          (bound_plain_n (kept_of g) kept_scoped (AllNormal (table_of ds)) (NormalIn (table_of ds)) (normal_seeds (table_of ds)) normal_high v u h) in
          record {
            high = elim (own_shape (kept_of g) kept_scoped v).high [
              | inl e ↦ high_plain u (record {
                normal = q.0;
                known = each_of_has (alts (high (kept_of g) v)) u (forms_have (Known (length ds)) (λ v. W.Var v ∷ []) carries (high (kept_of g) v) (known_bound v)) h;
                closed = alts_closed (high (kept_of g) v) u e h;
              })
              | inr r ↦
                  let i : high (kept_of g) v ≡ V.Nominal r.0 r.1 = is_nominal (high (kept_of g) v) r.0 r.1 r.2 in
                  let j : V.Nominal r.0 r.1 ≡ u = nominal_form (λ v. W.Var v ∷ []) r.0 r.1 u (subst (λ z. Has (alts z) u) i h) in
                  high_named u (subst (IsNamed ds) (i ∙ j) (named v r.0 r.1 r.2))
            ];
            single = q.1;
          }

      atom_alternative : (v i : ℕ) → IsAlternative ds (at (alts (high (kept_of g) v)) i)
      atom_alternative v i = elim (at_or (alts (high (kept_of g) v)) i) [ inl h ↦ alternative v (at (alts (high (kept_of g) v)) i) h | inr e ↦ subst (IsAlternative ds) (sym e) any_alternative ]

      chosen_alternative : (v : ℕ) → kind (kept_of g) v ≡ diagonal → IsAlternative ds (at r.chosen v)
      chosen_alternative v d = elim (has_or (map (root (kept_of g)) (flat_map vars_in r.parts)) v) [
        | inl h ↦ let c = row.chosen v d (of_has (map (root (kept_of g)) (flat_map vars_in r.parts)) v h) in alternative v (at r.chosen v) (has_of (alts (high (kept_of g) v)) (at r.chosen v) c.0)
        | inr f ↦ subst (IsAlternative ds) (sym (row.other v (λ o. f (has_of (map (root (kept_of g)) (flat_map vars_in r.parts)) v o)))) any_alternative
      ]

      -- the kinds are the same with the bounds in normal form
      closed_places : (v : ℕ) (t u : Ty) → vars_in t ≡ [] → vars_in u ≡ [] → places v t ≡ places v u
      closed_places v t u d e = lacks v t (λ i. has_none (vars_in t) v d i) ∙ sym (lacks v u (λ i. has_none (vars_in u) v e i))

      high_places : (v : ℕ) (t u : Ty) → IsHighForm ds t u → places v u ≡ places v t
      high_places v t u (form_plain x y p) = closed_places v u t p.plain.closed p.closed
      high_places v t u (form_named x p) = refl

      same_kinds : (v : ℕ) → kind (sided g) v ≡ kind (kept_of g) v
      same_kinds v = ap (λ z. kind_of (plus (part_places (kept_of g) v) (below_nominal z))) (same_places v (bounded_of g).vars (kept_of g).vars wide (λ i l.
          ap (λ z. plus z (places v (high (bounded_of g) i))) (closed_places v (low (bounded_of g) i) (low (kept_of g) i) (low_form i).plain.closed (low_form i).closed)
          ∙ ap (λ z. plus (places v (low (kept_of g) i)) z) (high_places v (high (kept_of g) i) (high (bounded_of g) i) (high_form i))))

      pub side_of : IsSide ds g r
      side_of = record {
        held = record {
          told = record {
            long = record {
              diagonals = ap length kept.diagonals ∙ each_long (λ v. is_diagonal (kind (written_of g) v)) 0 (written_of g).vars ∙ match.width;
              alternatives = ap length kept.alternatives ∙ alts_long (kept_of g).vars;
              chosen = long;
            };
            diagonals = diagonal_told;
            alternatives = kept.alternatives;
          };
          wide = wide;
          lows = λ v l. low_form v;
          highs = λ v l. high_form v;
          kinds = same_kinds;
          chosen = λ v l d. chosen_alternative v d;
          atom = λ v i l. atom_alternative v i;
        };
        scoped = kept_scoped;
        placed = kept_is_placed ds declared (written_of g) (kept_of g) scoped placed form;
        ordered = kept_ordered;
        normal = kept_normal;
        known = kept_known;
        row = row;
      }

    -- the listed rows
    abbrev picks : ℕ → List Ty
    picks = kept.rows.1.picks

    small : (v : ℕ) → kind (written_of g) v ≡ diagonal → v < width (written_of g)
    small = diagonal_small (written_of g) scoped

    listed_has : (r : Listed) → Has kept.rows.0 r → Has (all_rows (written_of g) kept.rows.1.picks) r
    listed_has r h = subst (λ z. Has z r) kept.rows.1.are h

    kept_of_listed : (l : Listed) (q : SigRow) → L.IsListed (table_of ds) (written_of g) small kept.rows.1.picks kept.rows.1.hold l → F.IsKeptRow ds l q → IsKeptRow (table_of ds) (written_of g) (L.listed_row l) (row_of q)
    kept_of_listed l q h k =
        let settle = both_at (Settles Form) (any W.Any outs-Any) l.chosen q.chosen k.chosen in
        record {
          parts = k.parts;
          chosen = λ v d. settle v;
          others = λ v f.
              let e : at l.chosen v ≡ W.Any = L.other_any (table_of ds) (written_of g) small kept.rows.1.picks kept.rows.1.hold l h v f in
              e ∙ sym (is_any (at q.chosen v) (settle_any Form W.Any (at q.chosen v) outs-Any (subst (λ z. Settles Form z (at q.chosen v)) e (settle v))));
        }

    -- each kept row is a row of the kept form
    pub side : (q : SigRow) → Has (rows_of g) q → IsSide ds g q
    side q h =
        let a = aligned kept.rows.0 (rows_of g) kept.rows.2 q h in
        let l = L.listed (table_of ds) (written_of g) small kept.rows.1.picks kept.rows.1.hold a.0 (listed_has a.0 a.1) in
        let r = L.is_row (table_of ds) (written_of g) small kept.rows.1.picks kept.rows.1.hold a.0 l in
        let row = kept_row ds declared (written_of g) (kept_of g) scoped placed form (L.listed_row a.0) (row_of q) r (kept_of_listed a.0 q l a.2) in
        let long : length q.chosen ≡ width (kept_of g) = sym (both_long (Settles Form) (a.0).chosen q.chosen a.2.chosen) ∙ L.long_row (table_of ds) (written_of g) small kept.rows.1.picks kept.rows.1.hold a.0 l ∙ match.width in
        side_of q row long

    -- and each row of the kept form is one of them, as far as its choices count
    pub record Kept (m : Row) : Type 0 where
      pub item : SigRow
      pub has : Has (rows_of g) item
      pub parts : item.parts ≡ m.parts
      pub chosen : (v : ℕ) → kind (kept_of g) v ≡ diagonal → at item.chosen v ≡ m.chosen v

    pub all_kept : (m : Row) → IsRow (table_of ds) (kept_of g) m → Kept m
    all_kept m row =
        let r = row_of_kept ds declared (written_of g) (kept_of g) scoped placed form m row in
        let l = L.row_listed (table_of ds) (written_of g) small kept.rows.1.picks kept.rows.1.hold r.0 r.1 in
        let a = aligns kept.rows.0 (rows_of g) kept.rows.2 l.item (subst (λ z. Has z l.item) (sym kept.rows.1.are) l.has) in
        record {
          item = a.0;
          has = a.1;
          parts = both_once (r.0).parts (a.0).parts m.parts (subst (λ z. Both (Settles Form) z (a.0).parts) l.parts a.2.parts) r.2.parts;
          chosen = λ v d.
              let e : kind (written_of g) v ≡ diagonal = match.kinds v ∙ d in
              kept_once (table_of ds) law ((r.0).chosen v) (at (a.0).chosen v) (m.chosen v)
              (subst (λ z. Settles Form z (at (a.0).chosen v)) (l.chosen v e) (both_at (Settles Form) (any W.Any outs-Any) (l.item).chosen (a.0).chosen a.2.chosen v)) (r.2.chosen v e);
        }
