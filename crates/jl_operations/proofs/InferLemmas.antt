-- What an inferred constructor answers.
use Rattle.std.proofs.Common.{◌≡◌, ◌∙◌, sym, ap, subst, refl, ℕ, zero, suc, ◌+◌, ◌<◌, ◌≤◌, inl, inr, ◌↔◌, arith, Bool, true, IsTrue, nat_eq, nat_le, nat_lt, List, [], ◌∷◌, map, length, Option, None, Some, slice_get, append-nil, IfOk, Result}
use Rattle.std.proofs.lemmas.Result.{IfOk-weaker}
use Rattle.std.proofs.lemmas.List.{length-map}
use Rattle.std.specs.List.{flat_map, list_all, Contains}
use Rattle.jl_model.specs.declared.ty.Ty.{Ty}
use Rattle.jl_model.specs.declared.ty.Ty.TheViews.{outs-Union, outs-Nominal}
use Rattle.jl_model.specs.declared.ty.Ty.TheViews as V
use Rattle.jl_model.specs.declared.ty.Bound.{Bound}
use Rattle.jl_model.specs.declared.ty.Decl.{Decl}
use Rattle.jl_model.specs.declared.ty.Written.{Written}
use Rattle.jl_model.specs.AllRows.{each_var}
use Rattle.jl_model.specs.Ancestors.{is_struct_kind, builtin_types, table_of}
use Rattle.jl_model.specs.Bindings.{binding, bindings}
use Rattle.jl_model.specs.Counts.{nodes}
use Rattle.jl_model.specs.Kept.{field_types}
use Rattle.jl_model.specs.Normal.{IsNormal, nominal as normal_nominal}
use Rattle.jl_model.specs.Refusals.{Declared, Given, given_in}
use Rattle.jl_model.specs.Rows.{vars_in, forms, width, kind, part_places, place_of, components}
use Rattle.jl_model.specs.SigRefusals.{VariablePlace, BoundBroken, are_bounds, are_placed, is_component}
use Rattle.jl_model.specs.Signature.{Both, both_end, both_more, Applicable}
use Rattle.jl_model.specs.Subtype.{Table, opaque, put, at, Below, Equal, is_concrete}
use Rattle.jl_model.specs.Usable.{is_met, is_usable, is_outside_unions}
use Rattle.jl_model.specs.Valid.{is_known, is_counted, params_of}
use Rattle.jl_model.proofs.AncestorLemmas.{true_each, each_true}
use Rattle.jl_model.proofs.FormLemmas.{vars-nominal}
use Rattle.jl_model.proofs.KnownLemmas.{known_nominal}
use Rattle.jl_model.proofs.PutLemmas.{and_l, and_r, both_true}
use Rattle.jl_model.proofs.TypeInduction.{Each}
use Rattle.jl_program.specs.declared.fault.Fault.{Fault}
use Rattle.jl_program.specs.declared.fault.Fault.TheVariants as F
use Rattle.jl_program.specs.declared.tree.Program.{Program}
use Rattle.jl_program.specs.declared.value.Value.{Value}
use Rattle.jl_program.specs.BodyTypes.{fields_signature, is_struct, is_inferable, finds_variables}
use Rattle.jl_program.specs.Meaning.{datum}
use Rattle.jl_program.specs.Scope.{all_types}
use Rattle.jl_program.specs.TypeOf.{type_of}
use Rattle.jl_program.specs.Valid as program
use Rattle.jl_program.specs.ValidValue as valid
use Rattle.jl_program.specs.ValidValue.{AllValid, IsStructType, IsValueType, fields_of, fields_in}
use Rattle.jl_program.specs.Prelude.{plain}
use Rattle.jl_value.proofs.KeptLemmas.{kept_all, value_types}
use Rattle.jl_types.specs.Ground.{IsGround}
use Rattle.jl_sig.specs.declared.arguments.Argument.{Argument}
use Rattle.jl_sig.specs.declared.sig.Sig.{Sig}
use Rattle.jl_sig.specs.Forms.{HasOutside}
use Rattle.jl_sig.specs.Parts.{given, all_given}
use Rattle.jl_sig.specs.Prepared.{HasOwnVariables, IsWellPlaced}
use Rattle.jl_sig.proofs.OwnLemmas.{own_parts}
use Rattle.jl_sig.specs.Readied.{HasFieldSig}
use Rattle.jl_sig.specs.SigParts.{written_of}
use Rattle.jl_match.specs.KeptRow.{AreConcrete, Fits}
use Rattle.jl_match.proofs.BindingLaws.{only_standing, binding_serves}
use Rattle.jl_match.proofs.ComponentLemmas.{components_of, none_of}
use Rattle.jl_match.proofs.KindLemmas.{Comps, comps}
use Rattle.jl_match.proofs.RowForms.{choices_by, rows_at}
use Rattle.jl_match.proofs.RowLemmas.{IsLeft, each_normal}
use Rattle.jl_match.proofs.SigLemmas.{not_false}
use Rattle.jl_calculus.specs.declared.history.Outcome.{Outcome}
use Rattle.jl_calculus.specs.declared.history.Outcome.TheVariants as O
use Rattle.jl_calculus.specs.Operations.{make_struct, make_inferred}
use Rattle.jl_calculus.specs.ValidHistory.{IsValidOutcome}
use Rattle.jl_calculus.proofs.ToldFaults.{other_is}
use Rattle.jl_operations.specs.Conditions.{IsInferredIn}
use Rattle.jl_operations.specs.Inferred.{AreInside, IsFoundType}
use Rattle.jl_operations.proofs.FitLemmas.{fits}
use Rattle.jl_operations.proofs.FormLemmas.{name_concrete, name_declared}
use Rattle.jl_operations.proofs.FoundLemmas.{IsGood, good_of, normals_of, closeds_of, bindings_good, given_good}
use Rattle.jl_operations.proofs.GoodLemmas.{IsNarrow, nominal_narrow, counted-nominal}
use Rattle.jl_operations.proofs.StructLemmas.{struct_counted, types_valid}

-- of a list with one for each variable
at_each : (f : ℕ → Ty) (i v : ℕ) (bs : List Bound) → v < length bs → at (each_var f i bs) v ≡ f (i + v)
at_each f i v [] l = absurd (omega (arith, l))
at_each f i zero (b ∷ bs) l = ap f (omega arith)
at_each f i (suc v) (b ∷ bs) l = at_each f (i + 1) v bs (omega (arith, l)) ∙ ap f (omega arith)

all_flags : (f : ℕ → Bool) (i v : ℕ) (bs : List Bound) → list_all (λ b. b) (each_var f i bs) ≡ true → v < length bs → f (i + v) ≡ true
all_flags f i v [] h l = absurd (omega (arith, l))
all_flags f i zero (b ∷ bs) h l = ap f (omega arith) ∙ and_l (f i) (list_all (λ b. b) (each_var f (i + 1) bs)) h
all_flags f i (suc v) (b ∷ bs) h l =
    let e : i + suc v ≡ (i + 1) + v = omega arith in
    ap f e ∙ all_flags f (i + 1) v bs (and_r (f i) (list_all (λ b. b) (each_var f (i + 1) bs)) h) (omega (arith, l))

module _ (ds : List Decl) (declared : Declared ds) (s : Written) (own : HasOwnVariables s) (placed : VariablePlace s → ⊥) (ts : List Ty) (types : AreConcrete ds ts)
    (usable : (v : ℕ) → v < width s → is_usable s v ≡ true) where
  abbrev n : Table
  n = table_of ds

  well : are_placed s ≡ true
  well = not_false (are_placed s) placed

  parts : Comps s s.parts
  parts = comps s (own_parts s own) (components_of s.parts (and_r (are_bounds (width s) 0 s.vars) (list_all is_component s.parts) well))

  lefts : Each (IsLeft n) ts
  lefts = each_normal n ts (true_each (is_concrete n opaque) ts types.concrete) types.normal

  outside : (v : ℕ) → v < width s → list_all (is_outside_unions v) s.parts ≡ true
  outside v l = and_r (is_met (kind s v) (part_places s v)) (list_all (is_outside_unions v) s.parts) (usable v l)

  abbrev found : ℕ → Ty
  found = at (bindings n s ts)

  found_is : (v : ℕ) → v < width s → found v ≡ binding n s ts v
  found_is v l = let e : 0 + v ≡ v = omega arith in at_each (binding n s ts) 0 v s.vars l ∙ ap (binding n s ts) e

  pub inferred_fits : Applicable n s ts → Both (λ x u. Below n opaque x (put found u)) ts s.parts
  inferred_fits (r, f, row, serves, closed, below) =
      let fit : Fits n s r ts f = record { serves = serves; below = below } in
      let among = choices_by (forms (λ w. place_of s w (kind s w))) r.parts s.parts (rows_at (components s) r.parts row.parts.0 row.parts.1 row.parts.2) in
      fits ds declared s f found s.parts ts
      (λ v l k. subst (λ z. Equal n z (f v)) (sym (found_is v l)) (binding_serves ds declared s own placed ts types r f row fit v (usable v l) k))
      (λ v l o y h. only_standing n s own placed ts v (usable v l) o y h ∙ sym (found_is v l))
      s.parts parts outside r.parts among ts lefts below (λ v y z. z)

module _ (ds : List Decl) where
  low_step : (k : ℕ) (o : Option Decl) → slice_get ds k ≡ o → is_struct_kind o ≡ true → k < length ds
  low_step k None e h = cc
  low_step k (Some d) e h = within ds k d e
    where
      within : (es : List Decl) (i : ℕ) (d : Decl) → slice_get es i ≡ Some d → i < length es
      within [] i d e = cc
      within (x ∷ xs) zero d e = omega arith
      within (x ∷ xs) (suc i) d e = let h = within xs i d e in omega (arith, h)

  pub struct_low : (k : ℕ) → is_struct ds k ≡ true → k < length ds
  struct_low k h = low_step k (slice_get ds k) refl (and_r (nat_le (length builtin_types) k) (is_struct_kind (slice_get ds k)) h)

-- ---- values and their types

module _ (ds : List Decl) (declared : Declared ds) where
  value_good : (t : Ty) → IsValueType ds t → IsGood ds t
  value_good t h = good_of ds declared t h.normal h.valid.known h.valid.counted h.small.alternatives (none_of (vars_in t) h.closed)

  goods : (ts : List Ty) → Each (IsValueType ds) ts → Each (IsGood ds) ts
  goods [] e = tt
  goods (t ∷ ts) e = (value_good t e.0, goods ts e.1)

  known_list : (ts : List Ty) → Each (IsValueType ds) ts → list_all (is_known (length ds)) ts ≡ true
  known_list [] e = refl
  known_list (t ∷ ts) e = both_true (is_known (length ds) t) (list_all (is_known (length ds)) ts) e.0.valid.known (known_list ts e.1)

  concrete_list : (ts : List Ty) → Each (IsValueType ds) ts → list_all (is_concrete (table_of ds) opaque) ts ≡ true
  concrete_list [] e = refl
  concrete_list (t ∷ ts) e = both_true (is_concrete (table_of ds) opaque t) (list_all (is_concrete (table_of ds) opaque) ts) e.0.concrete (concrete_list ts e.1)

  value_types_of : (vs : List Value) → AllValid ds (map datum vs) → Each (IsValueType ds) (map type_of vs)
  value_types_of vs a = subst (Each (IsValueType ds)) (kept_all vs) (value_types ds declared (map datum vs) a)

  pub types_concrete : (vs : List Value) → AllValid ds (map datum vs) → AreConcrete ds (map type_of vs)
  types_concrete vs a =
      let e = value_types_of vs a in
      let g = goods (map type_of vs) e in
      record { normal = normals_of ds declared (map type_of vs) g; known = known_list (map type_of vs) e; closed = closeds_of ds declared (map type_of vs) g; concrete = concrete_list (map type_of vs) e }

  pub types_good : (vs : List Value) → AllValid ds (map datum vs) → Each (IsGood ds) (map type_of vs)
  types_good vs a = goods (map type_of vs) (value_types_of vs a)

  -- ---- the struct

  sig_parts : (o : Option Decl) → (fields_signature o).parts ≡ field_types (fields_of o)
  sig_parts None = refl
  sig_parts (Some d) = refl

  sig_vars : (o : Option Decl) → (fields_signature o).vars ≡ params_of o
  sig_vars None = refl
  sig_vars (Some d) = refl

  each_long : (f : ℕ → Ty) (i : ℕ) (bs : List Bound) → length (each_var f i bs) ≡ length bs
  each_long f i [] = refl
  each_long f i (b ∷ bs) = ap suc (each_long f (i + 1) bs)

  both_put : (g : ℕ → Ty) (xs us : List Ty) → Both (λ x u. Below (table_of ds) opaque x (put g u)) xs us → Both (Below (table_of ds) opaque) xs (map (put g) us)
  both_put g xs us both_end = both_end
  both_put g xs us (both_more x u ys ws b d) = both_more x (put g u) ys (map (put g) ws) b (both_put g ys ws d)

  module _ (name : ℕ) (vs : List Value) (inferable : is_inferable ds name ≡ true) (well : IsWellPlaced ds (fields_signature (slice_get ds name))) (a : AllValid ds (map datum vs)) where
    abbrev s : Written
    s = fields_signature (slice_get ds name)

    abbrev ts : List Ty
    ts = map type_of vs

    abbrev bs : List Ty
    bs = bindings (table_of ds) s ts

    struct_is : is_struct ds name ≡ true
    struct_is = and_l (is_struct ds name) (finds_variables s) inferable

    usable_at : (v : ℕ) → v < length s.vars → is_usable s v ≡ true
    usable_at v l =
        let h = and_r (is_struct ds name) (finds_variables s) inferable in
        let e : 0 + v ≡ v = omega arith in
        sym (ap (is_usable s) e) ∙ all_flags (is_usable s) 0 v s.vars (and_r (nat_le 1 (length s.vars)) (list_all (λ b. b) (each_var (is_usable s) 0 s.vars)) h) l

    found_good : Each (IsGood ds) bs
    found_good = bindings_good ds declared s ts (types_good vs a)

    name_low : nat_lt name (length ds) ≡ true
    name_low = let l = struct_low ds name struct_is in grind (arith, l)

    each_of_good : (Q : Ty → Type 0) → ((t : Ty) → IsGood ds t → Q t) → (us : List Ty) → Each (IsGood ds) us → Each Q us
    each_of_good Q q [] e = tt
    each_of_good Q q (u ∷ us) e = (q u e.0, each_of_good Q q us e.1)

    abbrev ty : Ty
    ty = V.Nominal name bs

    bare_known : is_known (length ds) (V.Nominal name []) ≡ true
    bare_known = known_nominal (length ds) name [] name_low tt

    found_counted : is_counted ds ty ≡ true
    found_counted =
        let long : length (map (is_counted ds) bs) ≡ length (params_of (slice_get ds name)) = length-map bs (is_counted ds) ∙ each_long (binding (table_of ds) s ts) 0 s.vars ∙ ap length (sig_vars (slice_get ds name)) in
        let same : nat_eq (length (map (is_counted ds) bs)) (length (params_of (slice_get ds name))) ≡ true = grind (arith, long) in
        counted-nominal ds name bs
        ∙ both_true (nat_eq (length (map (is_counted ds) bs)) (length (params_of (slice_get ds name)))) (list_all (is_counted ds) bs) same
        (each_true (is_counted ds) bs (each_of_good (λ t. is_counted ds t ≡ true) (λ t g. g.fine.counted) bs found_good))

    found_known : is_known (length ds) ty ≡ true
    found_known = known_nominal (length ds) name bs name_low (each_of_good (λ t. is_known (length ds) t ≡ true) (λ t g. g.fine.known) bs found_good)

    found_closed : vars_in ty ≡ []
    found_closed = vars-nominal name bs ∙ closeds_of ds declared bs found_good

    found_normal : IsNormal (table_of ds) ty
    found_normal = normal_nominal ty name bs (outs-Nominal name bs) (normals_of ds declared bs found_good)

    found_narrow : IsNarrow ty
    found_narrow = nominal_narrow name bs (each_of_good IsNarrow (λ t g. g.fine.narrow) bs found_good)

    type_good : IsGood ds ty
    type_good = good_of ds declared ty found_normal found_known found_counted found_narrow found_closed

    pub infer_struct : nodes ty ≤ 1024 → IsStructType ds ty
    infer_struct l = record {
      value_type = record {
        normal = found_normal;
        valid = record { known = found_known; counted = found_counted };
        closed = ap (λ ns. nat_eq (length ns) 0) found_closed;
        concrete = name_concrete ds name bs struct_is;
        small = record { nodes = l; alternatives = found_narrow };
      };
      declared = name_declared ds name bs struct_is;
    }

    fields_are : fields_in ds ty ≡ map (put (at bs)) s.parts
    fields_are = ap (valid.fields_step ds) (outs-Nominal name bs) ∙ ap (map (put (at bs))) (sym (sig_parts (slice_get ds name)))

    infer_of : Applicable (table_of ds) s ts → Both (Below (table_of ds) opaque) ts (fields_in ds ty)
    infer_of h = subst (Both (Below (table_of ds) opaque) ts) (sym fields_are) (both_put (at bs) ts s.parts (inferred_fits ds declared s well.own well.placed ts (types_concrete vs a) usable_at h))

    -- ---- the answer

    pub rest_told : Applicable (table_of ds) s ts → (BoundBroken ds (plain (ty ∷ [])) → ⊥) → nodes ty ≤ 1024 → (o : Outcome) → make_struct ds ty vs o → make_inferred ds name vs o
    rest_told h n l o (inl (e, (i, k), j)) = absurd (k (struct_counted ds ty vs (infer_of h)))
    rest_told h n l o (inr (p, inl (e, (i, k, q), j))) = absurd (other_is ds ts (fields_in ds ty) i k (infer_of h))
    rest_told h n l o (inr (p, inr (q, w))) = inr ((λ e k. elim k.1 [ inl b ↦ b h | inr b ↦ n b ]), inr ((λ e k. omega (arith, k.1, l)), w))

    pub none_told : (f : Fault) → (Applicable (table_of ds) s ts → ⊥) → f ≡ F.NoConstructor (V.Nominal name []) ts → make_inferred ds name vs (O.Error f)
    none_told f n e = inl (f, (e, inl n), refl)

    pub outside_told : (f : Fault) → BoundBroken ds (plain (ty ∷ [])) → f ≡ F.NoConstructor (V.Nominal name []) ts → make_inferred ds name vs (O.Error f)
    outside_told f b e = inl (f, (e, inr b), refl)

    pub large_told : Applicable (table_of ds) s ts → (BoundBroken ds (plain (ty ∷ [])) → ⊥) → 1024 < nodes ty → make_inferred ds name vs (O.Error F.TypeLimit)
    large_told h n l = inr ((λ e k. elim k.1 [ inl b ↦ b h | inr b ↦ n b ]), inl (F.TypeLimit, (refl, l), refl))

    pub type_inside : AreInside ds ty
    type_inside a c =
        let e : flat_map given_in (ty ∷ []) ≡ given_in ty = append-nil (given_in ty) in
        let g = given_good ds declared ty type_good a (subst (λ z. Contains z a) e c) in
        (record { normal = g.normal; known = g.fine.known }, ap (λ ns. nat_eq (length ns) 0) g.closed)

    pub name_known : is_known (length ds) (V.Nominal name []) ≡ true
    name_known = bare_known

-- ---- the test of the bounds

given_contains : (as_ : List Argument) (a : Argument) → Contains as_ a → Contains (all_given as_) (given a)
given_contains [] a c = absurd (omega (arith, c.1))
given_contains (x ∷ xs) a (zero, l, e) = (zero, omega arith, ap given e)
given_contains (x ∷ xs) a (suc i, l, e) = let c = given_contains xs a (i, omega (arith, l), e) in (suc c.0, omega (arith, c.1), c.2)

listed_is : (t u : Ty) (us : List Ty) (gs : List Given) → us ≡ u ∷ [] → u ≡ t → gs ≡ flat_map given_in us → gs ≡ flat_map given_in (t ∷ [])
listed_is t u us gs e f g = g ∙ ap (flat_map given_in) (e ∙ ap (λ (z : Ty). z ∷ []) f)

pub inside_ground : (ds : List Decl) (t u : Ty) (us : List Ty) (as_ own : List Argument) → us ≡ u ∷ [] → u ≡ t → all_given own ≡ flat_map given_in us → as_ ≡ own → AreInside ds t → (a : Argument) → Contains as_ a → IsGround ds a.ty
inside_ground ds t u us as_ own e f g h inside a c =
    let all = listed_is t u us (all_given as_) e f (ap all_given h ∙ g) in
    (inside (given a) (subst (λ z. Contains z (given a)) all (given_contains as_ a c))).0

pub outside_is : (ds : List Decl) (t u : Ty) (us : List Ty) (as_ own : List Argument) (r : Bool) → us ≡ u ∷ [] → u ≡ t → all_given own ≡ flat_map given_in us → as_ ≡ own → AreInside ds t → (IsTrue r ↔ HasOutside ds (all_given as_))
    → IsTrue r ↔ BoundBroken ds (plain (t ∷ []))
outside_is ds t u us as_ own r e f g h inside i =
    let all = listed_is t u us (all_given as_) e f (ap all_given h ∙ g) in (
      (λ x. let o = i.0 x in let c = subst (λ z. Contains z o.0) all o.1 in (o.0, c, (inside o.0 c).1, o.2)),
      (λ b. i.1 (b.0, subst (λ z. Contains z b.0) (sym all) b.1, b.3)),
    )

-- ---- in a program

module _ (P : Program) (p : program.IsValid P) (name : ℕ) (vs : List Value) (t : Ty) (h : IsFoundType P name vs t) (a : AllValid (all_types P) (map datum vs)) where
  abbrev types : List Decl
  types = all_types P

  pub found_inside : AreInside types t
  found_inside = subst (AreInside types) (sym h.is) (type_inside types p.decls name vs h.struct.inferable h.placed a)

  pub found_struct : nodes t ≤ 1024 → IsStructType types t
  found_struct l = subst (IsStructType types) (sym h.is) (infer_struct types p.decls name vs h.struct.inferable h.placed a (subst (λ z. nodes z ≤ 1024) h.is l))

  pub found_outside : (f : Fault) → BoundBroken types (plain (t ∷ [])) → f ≡ F.NoConstructor (V.Nominal name []) (map type_of vs) → make_inferred types name vs (O.Error f)
  found_outside f b e = outside_told types p.decls name vs h.struct.inferable h.placed a f (subst (λ z. BoundBroken types (plain (z ∷ []))) h.is b) e

  pub found_large : (BoundBroken types (plain (t ∷ [])) → ⊥) → 1024 < nodes t → make_inferred types name vs (O.Error F.TypeLimit)
  found_large n l =
      large_told types p.decls name vs h.struct.inferable h.placed a h.applicable (subst (λ z. BoundBroken types (plain (z ∷ [])) → ⊥) h.is n) (subst (λ z. 1024 < nodes z) h.is l)

  pub found_made : {E : Type 0} (r : Result Outcome E) → (BoundBroken types (plain (t ∷ [])) → ⊥) → nodes t ≤ 1024 → IfOk r (λ o. make_struct types t vs o) → IfOk r (λ o. make_inferred types name vs o)
  found_made r n l m =
      IfOk-weaker r (λ o. make_struct types t vs o) (λ o. make_inferred types name vs o)
      (λ o k. rest_told types p.decls name vs h.struct.inferable h.placed a h.applicable (subst (λ z. BoundBroken types (plain (z ∷ [])) → ⊥) h.is n) (subst (λ z. nodes z ≤ 1024) h.is l) o (subst (λ z. make_struct types z vs o) h.is k)) m

pub infer_low : (P : Program) (name : ℕ) → IsInferredIn P name → name < length (all_types P)
infer_low P name h = struct_low (all_types P) name (and_l (is_struct (all_types P) name) (finds_variables (fields_signature (slice_get (all_types P) name))) h.inferable)

pub bare_valid : (P : Program) → program.IsValid P → (name : ℕ) (vs : List Value) (f : Fault) → IsInferredIn P name → AllValid (all_types P) (map datum vs) → f ≡ F.NoConstructor (V.Nominal name []) (map type_of vs) → IsValidOutcome P (O.Error f)
bare_valid P p name vs f h a e =
    let l = infer_low P name h in
    let k : nat_lt name (length (all_types P)) ≡ true = grind (arith, l) in
    subst (λ (z : Fault). IsValidOutcome P (O.Error z)) (sym e) (known_nominal (length (all_types P)) name [] k tt, types_valid P p vs a)

-- what the signature of the fields tells
module _ (P : Program) (p : program.IsValid P) (name : ℕ) (vs : List Value) (sig : Sig) (k : HasFieldSig P name sig) (i : IsInferredIn P name) where
  abbrev sg : Written
  sg = fields_signature (slice_get (all_types P) name)

  pub found_type : (es : List Decl) (us xs : List Ty) → es ≡ all_types P → us ≡ map type_of vs → Applicable (table_of es) (written_of sig) us → xs ≡ bindings (table_of es) (written_of sig) us → IsFoundType P name vs (V.Nominal name xs)
  found_type es us xs e f h g =
      let to : Applicable (table_of es) (written_of sig) us ≡ Applicable (table_of (all_types P)) sg (map type_of vs) = λ j. Applicable (table_of (e j)) (k.written j) (f j) in
      let same : bindings (table_of es) (written_of sig) us ≡ bindings (table_of (all_types P)) sg (map type_of vs) = λ j. bindings (table_of (e j)) (k.written j) (f j) in
      record {
        struct = i;
        placed = subst (IsWellPlaced (all_types P)) k.written k.kept.kept.placed;
        is = ap (λ z. V.Nominal name z) (g ∙ same);
        applicable = subst (λ (Z : Type 0). Z) to h;
      }

  pub found_none : (es : List Decl) (us : List Ty) (f : Fault) → es ≡ all_types P → us ≡ map type_of vs → (Applicable (table_of es) (written_of sig) us → ⊥) → f ≡ F.NoConstructor (V.Nominal name []) (map type_of vs) → make_inferred (all_types P) name vs (O.Error f)
  found_none es us f e g n h =
      let to : Applicable (table_of es) (written_of sig) us ≡ Applicable (table_of (all_types P)) sg (map type_of vs) = λ j. Applicable (table_of (e j)) (k.written j) (g j) in
      inl (f, (h, inl (λ x. n (subst (λ (Z : Type 0). Z) (sym to) x))), refl)
