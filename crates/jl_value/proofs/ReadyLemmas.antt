-- A struct without bounds and a parent, whose fields are of any type, of a parameter's type or of a type without arguments,
-- may be declared under a new name.
use Rattle.std.proofs.Common.{◌≡◌, ◌∙◌, sym, ap, subst, refl, ℕ, zero, suc, ◌+◌, ◌<◌, ◌≤◌, arith, Bool, true, false, ◌&&◌, nat_eq, nat_lt, List, [], ◌∷◌, ◌++◌, map, length, get_or, slice_get, slice_index_or, inl, inr, append_assoc, append-nil}
use Rattle.std.specs.List.{list_all, flat_map, Contains}
use Rattle.jl_model.specs.declared.ty.Ty.{Ty}
use Rattle.jl_model.specs.declared.ty.Ty.TheOpen.{Any, Union, Tuple, Nominal, Var}
use Rattle.jl_model.specs.declared.ty.Ty.TheViews.{out-Ty, outs-Any, outs-Union, outs-Nominal, outs-Var, rolls-Any, rolls-Union, rolls-Nominal, rolls-Var}
use Rattle.jl_model.specs.declared.ty.Ty.TheViews as V
use Rattle.jl_model.specs.declared.ty.Ty.TheVariants as W
use Rattle.jl_model.specs.declared.ty.Ty.TheFolds.{fold-roll-Ty, para-roll-Ty}
use Rattle.jl_model.specs.declared.ty.Decl.{Decl}
use Rattle.jl_model.specs.declared.ty.Bound.{Bound}
use Rattle.jl_model.specs.declared.ty.Field.{Field}
use Rattle.jl_model.specs.Rows.{free, vars_in}
use Rattle.jl_model.specs.Subtype.{Table, opaque, Below}
use Rattle.jl_model.specs.Ancestors.{line_above, lines_after}
use Rattle.jl_model.specs.Counts.{IsWithinLimits}
use Rattle.jl_model.specs.Valid.{is_known, is_counted, counted_step, params_of, is_closed}
use Rattle.jl_model.specs.Normal.{IsNormal, any as normal_any, union as normal_union, none as no_normal, IsNormalForm}
use Rattle.jl_model.specs.Kept.{field_types, AllArguments, arguments_end, arguments_more, Settled, AllSettled, plain, variable, union, tuple, nominal, settled_end, settled_more, Bounds, bounds_end, bounds_more}
use Rattle.jl_model.specs.Refusals.{Declared, added, IsReady, TypeLimit, HasLargeForm, TooMany, table_with, is_placed, placed_step, is_placed_field, arguments_step, given_in, given_step, Given, sized_types, types_of, bound_types, AllWithinLimits, is_known_decl, is_placed_decl, is_abstract_parent}
use Rattle.jl_model.proofs.TypeInduction.{Each}
use Rattle.jl_model.proofs.FormLemmas.{is_any, is_union, is_nominal, vars-any, vars-union, vars-nominal, vars-var}
use Rattle.jl_model.proofs.PutLemmas.{and_l, and_r, both_true}
use Rattle.jl_model.proofs.SelfLemmas.{equal_self}
use Rattle.jl_model.proofs.BelowLemmas.{below_any}
use Rattle.jl_model.proofs.NormalLemmas.{normal_same}
use Rattle.jl_model.proofs.AncestorLemmas.{Lawful, lawful_lines, all_fit, parent_fits, parent_case, AllParents, IsPattern, slice_before}
use Rattle.jl_model.proofs.DeclaredLemmas.{declared_fit, parents_snoc}
use Rattle.jl_model.proofs.KnownLemmas.{known-any, known-union, known_nominal, known-var}
use Rattle.jl_model.proofs.CountLemmas.{nodes-any, nodes-union, nodes-nominal, nodes-var, raw-any, raw-union, raw-nominal, raw-var}
use Rattle.jl_value.specs.Samples.{struct_decl}

-- the types that stand in such a declaration
pub data Simple (ds : List Decl) (params : ℕ) : Ty → Type 0 where
  top : Simple ds params W.Any
  bottom : Simple ds params (V.Union [])
  parameter : (v : ℕ) → nat_lt v params ≡ true → Simple ds params (W.Var v)
  leaf : (k : ℕ) → k < length ds → params_of (slice_get ds k) ≡ [] → Simple ds params (V.Nominal k [])

-- equations
counted-any : (ds : List Decl) → is_counted ds W.Any ≡ true
counted-any ds = ap (is_counted ds) (sym rolls-Any) ∙ fold-roll-Ty Bool (counted_step ds) Any

counted-bottom : (ds : List Decl) → is_counted ds (V.Union []) ≡ true
counted-bottom ds = ap (is_counted ds) (sym (rolls-Union [])) ∙ fold-roll-Ty Bool (counted_step ds) (Union [])

counted-var : (ds : List Decl) (v : ℕ) → is_counted ds (W.Var v) ≡ true
counted-var ds v = ap (is_counted ds) (sym (rolls-Var v)) ∙ fold-roll-Ty Bool (counted_step ds) (Var v)

counted-leaf : (ds : List Decl) (k : ℕ) → is_counted ds (V.Nominal k []) ≡ (nat_eq 0 (length (params_of (slice_get ds k))) && true)
counted-leaf ds k = ap (is_counted ds) (sym (rolls-Nominal k [])) ∙ fold-roll-Ty Bool (counted_step ds) (Nominal k [])

placed-any : (m : ℕ) → is_placed m W.Any ≡ true
placed-any m = ap (is_placed m) (sym rolls-Any) ∙ para-roll-Ty Bool (placed_step m) Any

field-any : (m : ℕ) → is_placed_field m W.Any ≡ true
field-any m = ap (is_placed_field m) (sym rolls-Any) ∙ para-roll-Ty Bool (arguments_step m) Any

field-bottom : (m : ℕ) → is_placed_field m (V.Union []) ≡ true
field-bottom m = ap (is_placed_field m) (sym (rolls-Union [])) ∙ para-roll-Ty Bool (arguments_step m) (Union [])

field-var : (m v : ℕ) → is_placed_field m (W.Var v) ≡ true
field-var m v = ap (is_placed_field m) (sym (rolls-Var v)) ∙ para-roll-Ty Bool (arguments_step m) (Var v)

field-leaf : (m k : ℕ) → is_placed_field m (V.Nominal k []) ≡ true
field-leaf m k = ap (is_placed_field m) (sym (rolls-Nominal k [])) ∙ para-roll-Ty Bool (arguments_step m) (Nominal k [])

given-any : given_in W.Any ≡ []
given-any = ap given_in (sym rolls-Any) ∙ para-roll-Ty (List Given) given_step Any

given-bottom : given_in (V.Union []) ≡ []
given-bottom = ap given_in (sym (rolls-Union [])) ∙ para-roll-Ty (List Given) given_step (Union [])

given-var : (v : ℕ) → given_in (W.Var v) ≡ []
given-var v = ap given_in (sym (rolls-Var v)) ∙ para-roll-Ty (List Given) given_step (Var v)

given-leaf : (k : ℕ) → given_in (V.Nominal k []) ≡ []
given-leaf k = ap given_in (sym (rolls-Nominal k [])) ∙ para-roll-Ty (List Given) given_step (Nominal k [])

small-any : IsWithinLimits W.Any
small-any = record { nodes = omega (arith, nodes-any); alternatives = let e = ap (λ r. r.widest) raw-any in omega (arith, e) }

small-bottom : IsWithinLimits (V.Union [])
small-bottom = record { nodes = omega (arith, nodes-union []); alternatives = let e = ap (λ r. r.widest) (raw-union []) in omega (arith, e) }

small-var : (v : ℕ) → IsWithinLimits (W.Var v)
small-var v = record { nodes = omega (arith, nodes-var v); alternatives = let e = ap (λ r. r.widest) (raw-var v) in omega (arith, e) }

small-leaf : (k : ℕ) → IsWithinLimits (V.Nominal k [])
small-leaf k = record { nodes = omega (arith, nodes-nominal k []); alternatives = let e = ap (λ r. r.widest) (raw-nominal k []) in omega (arith, e) }

-- what holds of each of them
module _ (ds : List Decl) (m : ℕ) where
  abbrev S : Ty → Type 0
  S t = Simple ds m t

  s_vars : (t : Ty) → Simple ds m t → list_all (λ v. nat_lt v m) (vars_in t) ≡ true
  s_vars t top = ap (list_all (λ v. nat_lt v m)) vars-any
  s_vars t bottom = ap (list_all (λ v. nat_lt v m)) (vars-union [])
  s_vars t (parameter v h) = ap (list_all (λ v. nat_lt v m)) (vars-var v) ∙ ap (λ b. b && true) h
  s_vars t (leaf k l e) = ap (list_all (λ v. nat_lt v m)) (vars-nominal k [])

  s_known : (t : Ty) → Simple ds m t → is_known (length ds) t ≡ true
  s_known t top = known-any (length ds)
  s_known t bottom = known-union (length ds) []
  s_known t (parameter v h) = known-var (length ds) v
  s_known t (leaf k l e) = known_nominal (length ds) k [] (grind (arith, l)) tt

  s_counted : (d : Decl) (t : Ty) → Simple ds m t → is_counted (ds ++ d ∷ []) t ≡ true
  s_counted d t top = counted-any (ds ++ d ∷ [])
  s_counted d t bottom = counted-bottom (ds ++ d ∷ [])
  s_counted d t (parameter v h) = counted-var (ds ++ d ∷ []) v
  s_counted d t (leaf k l e) = counted-leaf (ds ++ d ∷ []) k ∙ ap (λ o. nat_eq 0 (length (params_of o)) && true) (slice_before ds d k l) ∙ ap (λ bs. nat_eq 0 (length bs) && true) e

  s_placed : (j : ℕ) (t : Ty) → Simple ds m t → is_placed_field j t ≡ true
  s_placed j t top = field-any j
  s_placed j t bottom = field-bottom j
  s_placed j t (parameter v h) = field-var j v
  s_placed j t (leaf k l e) = field-leaf j k

  s_given : (t : Ty) → Simple ds m t → given_in t ≡ []
  s_given t top = given-any
  s_given t bottom = given-bottom
  s_given t (parameter v h) = given-var v
  s_given t (leaf k l e) = given-leaf k

  s_small : (t : Ty) → Simple ds m t → IsWithinLimits t
  s_small t top = small-any
  s_small t bottom = small-bottom
  s_small t (parameter v h) = small-var v
  s_small t (leaf k l e) = small-leaf k

  s_settled : (n : Table) (t : Ty) → Simple ds m t → Settled n t t
  s_settled n t top = plain W.Any outs-Any
  s_settled n t bottom = union (V.Union []) (V.Union []) [] [] (outs-Union []) (outs-Union []) settled_end
  s_settled n t (parameter v h) = variable (W.Var v) v (outs-Var v)
  s_settled n t (leaf k l e) = nominal (V.Nominal k []) (V.Nominal k []) k [] [] (outs-Nominal k []) (outs-Nominal k []) arguments_end

  -- what it is kept as is small
  settled_small : (n : Table) (t u : Ty) → Settled n t u → Simple ds m t → IsWithinLimits u
  settled_small n t u (plain a o) s = s_small t s
  settled_small n t u (variable a v o) s = s_small t s
  settled_small n t u (union a b ts us o p q) s = subst IsWithinLimits (sym (is_union u us p)) (none_union t ts us o q s)
    where
      none_union : (t : Ty) (ts us : List Ty) → out-Ty t ≡ Union ts → AllSettled n ts us → Simple ds m t → IsWithinLimits (V.Union us)
      none_union t ts us o q top = let f : Any ≡ Union ts = sym outs-Any ∙ o in cc
      none_union t ts us o q (parameter v h) = let f : Var v ≡ Union ts = sym (outs-Var v) ∙ o in cc
      none_union t ts us o q (leaf k l e) = let f : Nominal k [] ≡ Union ts = sym (outs-Nominal k []) ∙ o in cc
      none_union t ts us o settled_end bottom = small-bottom
      none_union t ts us o (settled_more x y xs ys p q) bottom = let f : Union [] ≡ Union (x ∷ xs) = sym (outs-Union []) ∙ o in cc
  settled_small n t u (tuple a b ts us o p q) s = no_tuple t ts o s
    where
      no_tuple : (t : Ty) (ts : List Ty) → out-Ty t ≡ Tuple ts → Simple ds m t → IsWithinLimits u
      no_tuple t ts o top = let f : Any ≡ Tuple ts = sym outs-Any ∙ o in cc
      no_tuple t ts o bottom = let f : Union [] ≡ Tuple ts = sym (outs-Union []) ∙ o in cc
      no_tuple t ts o (parameter v h) = let f : Var v ≡ Tuple ts = sym (outs-Var v) ∙ o in cc
      no_tuple t ts o (leaf k l e) = let f : Nominal k [] ≡ Tuple ts = sym (outs-Nominal k []) ∙ o in cc
  settled_small n t u (nominal a b j ts us o p q) s = subst IsWithinLimits (sym (is_nominal u j us p)) (none_nominal t ts us o q s)
    where
      none_nominal : (t : Ty) (ts us : List Ty) → out-Ty t ≡ Nominal j ts → AllArguments n ts us → Simple ds m t → IsWithinLimits (V.Nominal j us)
      none_nominal t ts us o q top = let f : Any ≡ Nominal j ts = sym outs-Any ∙ o in cc
      none_nominal t ts us o q bottom = let f : Union [] ≡ Nominal j ts = sym (outs-Union []) ∙ o in cc
      none_nominal t ts us o q (parameter v h) = let f : Var v ≡ Nominal j ts = sym (outs-Var v) ∙ o in cc
      none_nominal t ts us o arguments_end (leaf k l e) = small-leaf j
      none_nominal t ts us o (arguments_more x y xs ys p q) (leaf k l e) = let f : Nominal k [] ≡ Nominal j (x ∷ xs) = sym (outs-Nominal k []) ∙ o in cc

  -- lists of them
  all_true : (p : Ty → Bool) → ((t : Ty) → Simple ds m t → p t ≡ true) → (ts : List Ty) → Each S ts → list_all p ts ≡ true
  all_true p f [] h = refl
  all_true p f (t ∷ ts) h = both_true (p t) (list_all p ts) (f t h.0) (all_true p f ts h.1)

  vars_true : (ts : List Ty) → Each S ts → list_all (λ v. nat_lt v m) (flat_map vars_in ts) ≡ true
  vars_true [] h = refl
  vars_true (t ∷ ts) h = all_append (vars_in t) (flat_map vars_in ts) (s_vars t h.0) (vars_true ts h.1)
    where
      all_append : (ks js : List ℕ) → list_all (λ v. nat_lt v m) ks ≡ true → list_all (λ v. nat_lt v m) js ≡ true → list_all (λ v. nat_lt v m) (ks ++ js) ≡ true
      all_append [] js p q = q
      all_append (k ∷ ks) js p q =
          both_true (nat_lt k m) (list_all (λ v. nat_lt v m) (ks ++ js)) (and_l (nat_lt k m) (list_all (λ v. nat_lt v m) ks) p) (all_append ks js (and_r (nat_lt k m) (list_all (λ v. nat_lt v m) ks) p) q)

  given_none : (ts : List Ty) → Each S ts → flat_map given_in ts ≡ []
  given_none [] h = refl
  given_none (t ∷ ts) h = let e = s_given t h.0 in let f = given_none ts h.1 in rw (e, f) refl

  all_small : (ts : List Ty) → Each S ts → AllWithinLimits ts
  all_small [] h = tt
  all_small (t ∷ ts) h = (s_small t h.0, all_small ts h.1)

  all_settled : (n : Table) (ts : List Ty) → Each S ts → AllSettled n ts ts
  all_settled n [] h = settled_end
  all_settled n (t ∷ ts) h = settled_more t t ts ts (s_settled n t h.0) (all_settled n ts h.1)

  kept_small : (n : Table) (ts us : List Ty) → AllSettled n ts us → Each S ts → AllWithinLimits us
  kept_small n ts us settled_end h = tt
  kept_small n ts us (settled_more t u vs ws p q) h = (settled_small n t u p h.0, kept_small n vs ws q h.1)

  each_append : (ts us : List Ty) → Each S ts → Each S us → Each S (ts ++ us)
  each_append [] us h k = k
  each_append (t ∷ ts) us h k = (h.0, each_append ts us h.1 k)

small_append : (ts us : List Ty) → AllWithinLimits ts → AllWithinLimits us → AllWithinLimits (ts ++ us)
small_append [] us h k = k
small_append (t ∷ ts) us h k = (h.0, small_append ts us h.1 k)

-- parameters without bounds
abbrev pub AllFree : List Bound → Type 0
AllFree [] = Unit {0}
AllFree (b ∷ bs) = (b ≡ free) × AllFree bs

free_types : (ds : List Decl) (m : ℕ) (bs : List Bound) → AllFree bs → Each (Simple ds m) (bound_types bs)
free_types ds m [] h = tt
free_types ds m (b ∷ bs) h = let P : Bound → Type 0 = λ z. Simple ds m z.low × Simple ds m z.high in let p = subst P (sym h.0) (bottom, top) in (p.0, (p.1, free_types ds m bs h.1))

free_closed : (bs : List Bound) → AllFree bs → list_all is_closed (bound_types bs) ≡ true
free_closed [] h = refl
free_closed (b ∷ bs) h =
    let P : Bound → Type 0 = λ z. (is_closed z.low ≡ true) × (is_closed z.high ≡ true) in
    let p = subst P (sym h.0) (ap (λ vs. nat_eq (length vs) 0) (vars-union []), ap (λ vs. nat_eq (length vs) 0) vars-any) in
    both_true (is_closed b.low) (list_all is_closed (b.high ∷ bound_types bs)) p.0 (both_true (is_closed b.high) (list_all is_closed (bound_types bs)) p.1 (free_closed bs h.1))

bottom_normal : (n : Table) → IsNormal n (V.Union [])
bottom_normal n = normal_union (V.Union []) [] (outs-Union []) no_normal refl tt (λ e. absurd (omega (arith, e)))

free_kept : (n : Table) (bs : List Bound) → AllFree bs → Bounds n bs bs
free_kept n [] h = bounds_end
free_kept n (b ∷ bs) h =
    let P : Bound → Type 0 = λ z. IsNormalForm n z.low z.low × IsNormalForm n z.high z.high in
    let p = subst P (sym h.0) (record { normal = bottom_normal n; equal = equal_self n (V.Union []) }, record { normal = normal_any W.Any outs-Any; equal = equal_self n W.Any }) in
    bounds_more b b bs bs p.0 p.1 (free_kept n bs h.1)

-- unwritten bounds are small normal forms
free_forms : (n : Table) (bs : List Bound) → AllFree bs → (t : Ty) → Contains (bound_types bs) t → HasLargeForm n t → ⊥
free_forms n [] h t c l = absurd (omega (arith, c.1))
free_forms n (b ∷ bs) h t (zero, c, e) l =
    let f : b.low ≡ V.Union [] = ap (λ (z : Bound). z.low) h.0 in
    let g : t ≡ V.Union [] = sym e ∙ f in
    let k = l (V.Union []) (subst (λ z. IsNormalForm n z (V.Union [])) (sym g) (record { normal = bottom_normal n; equal = equal_self n (V.Union []) })) in
    omega (arith, k, nodes-union [])
free_forms n (b ∷ bs) h t (suc zero, c, e) l =
    let f : b.high ≡ W.Any = ap (λ (z : Bound). z.high) h.0 in
    let g : t ≡ W.Any = sym e ∙ f in
    let k = l W.Any (subst (λ z. IsNormalForm n z W.Any) (sym g) (record { normal = normal_any W.Any outs-Any; equal = equal_self n W.Any })) in
    omega (arith, k, nodes-any)
free_forms n (b ∷ bs) h t (suc (suc i), c, e) l = free_forms n bs h.1 t (i, omega (arith, c), e) l

bounds_small : (n : Table) → Lawful n → (bs cs : List Bound) → Bounds n bs cs → AllFree bs → AllWithinLimits (bound_types cs)
bounds_small n law bs cs bounds_end h = tt
bounds_small n law bs cs (bounds_more b c ps qs p q r) h =
    let P : Bound → Type 0 = λ z. IsNormalForm n z.low c.low × IsNormalForm n z.high c.high in
    let s = subst P h.0 (p, q) in
    let low = normal_same n law (V.Union []) (bottom_normal n) c.low s.0.normal s.0.equal in
    let high = normal_same n law W.Any (normal_any W.Any outs-Any) c.high s.1.normal s.1.equal in
    (subst IsWithinLimits low small-bottom, (subst IsWithinLimits high small-any, bounds_small n law ps qs r h.1))

free_in : (bs : List Bound) (k : ℕ) (b : Bound) → AllFree bs → k < length bs → slice_index_or bs k b ≡ b → b ≡ free
free_in [] k b h l e = absurd (omega (arith, l))
free_in (x ∷ xs) zero b h l e = let f : x ≡ b = e in sym f ∙ h.0
free_in (x ∷ xs) (suc k) b h l e = free_in xs k b h.1 (omega (arith, l)) e

-- the table with one more declaration without a parent is lawful
fit_snoc : (ds es : List Decl) (d : Decl) → all_fit ds es ≡ true → parent_fits (ds ++ es) d ≡ true → all_fit ds (es ++ d ∷ []) ≡ true
fit_snoc ds [] d h f = both_true (parent_fits ds d) true (ap (λ z. parent_fits z d) (sym (append-nil ds)) ∙ f) refl
fit_snoc ds (e ∷ es) d h f =
    both_true (parent_fits ds e) (all_fit (ds ++ e ∷ []) (es ++ d ∷ [])) (and_l (parent_fits ds e) (all_fit (ds ++ e ∷ []) es) h)
    (fit_snoc (ds ++ e ∷ []) es d (and_r (parent_fits ds e) (all_fit (ds ++ e ∷ []) es) h) (ap (λ z. parent_fits z d) (append_assoc ds (e ∷ []) es) ∙ f))

-- a valid list of declarations whose ancestors' arguments are patterns
pub record IsSample (ds : List Decl) : Type 0 where
  pub declared : Declared ds
  pub patterns : AllParents IsPattern ds

no_parent : (R : Ty → Type 0) (p : ℕ) (ys : List Ty) → out-Ty W.Any ≡ Nominal p ys → Each R ys
no_parent R p ys e = let f : Any ≡ Nominal p ys = sym outs-Any ∙ e in cc

pub record IsSimpleStruct (ds : List Decl) (name : List ℕ) (params : List Bound) (fields : List Field) : Type 0 where
  pub fresh : Contains (map (λ e. e.name) ds) name → ⊥
  pub bounds : AllFree params
  pub types : Each (Simple ds (length params)) (field_types fields)
  pub distinct : (i j : ℕ) → i < j → j < length (map (λ f. f.name) fields) → get_or (map (λ f. f.name) fields) i [] ≡ get_or (map (λ f. f.name) fields) j [] → ⊥
  pub room : length ds < 1024 + 8
  pub narrow : length params ≤ 8
  pub short : length fields ≤ 64

module _ (ds : List Decl) (name : List ℕ) (params : List Bound) (fields : List Field) (sample : IsSample ds) (ok : IsSimpleStruct ds name params fields) where
  abbrev d : Decl
  d = struct_decl name params fields

  patterns_more : AllParents IsPattern (ds ++ d ∷ [])
  patterns_more = parents_snoc IsPattern ds d sample.patterns (no_parent IsPattern)

  law : Lawful (table_with ds d)
  law = lawful_lines (ds ++ d ∷ []) (fit_snoc [] ds d (declared_fit ds sample.declared) (ap (parent_case ds) outs-Any)) patterns_more

  all_types : Each (Simple ds (length params)) (types_of d)
  all_types = each_append ds (length params) (bound_types params) (W.Any ∷ field_types fields) (free_types ds (length params) params ok.bounds) (top, ok.types)

  no_ancestors : (e : Decl) → out-Ty e.parent ≡ Any → line_above (lines_after [] ds) (out-Ty e.parent) ≡ []
  no_ancestors e o = ap (line_above (lines_after [] ds)) o

  sized : (e : Decl) → out-Ty e.parent ≡ Any → AllWithinLimits (types_of e) → AllWithinLimits (sized_types ds e)
  sized e o h = small_append (types_of e) _ h (subst (λ z. AllWithinLimits (map (λ a. V.Nominal a.name a.args) z)) (sym (no_ancestors e o)) tt)

  settled_any : (t u : Ty) → out-Ty t ≡ Any → Settled (table_with ds d) t u → out-Ty u ≡ Any
  settled_any t u e (plain a o) = e
  settled_any t u e (variable a v o) = e
  settled_any t u e (union a b ts us o p q) = let f : Any ≡ Union ts = sym e ∙ o in cc
  settled_any t u e (tuple a b ts us o p q) = let f : Any ≡ Tuple ts = sym e ∙ o in cc
  settled_any t u e (nominal a b k ts us o p q) = let f : Any ≡ Nominal k ts = sym e ∙ o in cc

  small : TypeLimit ds d → ⊥
  small (inl h) = h (sized d outs-Any (all_small ds (length params) (types_of d) all_types))
  small (inr (inl (inl h))) =
      free_forms (table_with ds d) params ok.bounds h.0 h.1 h.2
  small (inr (inl (inr h))) = let c = subst (λ z. Contains z h.0) (given_none ds (length params) (types_of d) all_types) h.1 in absurd (omega (arith, c.1))
  small (inr (inr h)) =
      let e = h.0 in
      let k = h.1 in
      let o = settled_any W.Any e.parent outs-Any k.parent in
      h.2 (sized e o (small_append (bound_types e.params) (e.parent ∷ field_types e.fields) (bounds_small (table_with ds d) law params e.params k.params ok.bounds)
      (subst IsWithinLimits (sym (is_any e.parent o)) small-any, kept_small ds (length params) (table_with ds d) (field_types fields) (field_types e.fields) k.fields ok.types)))

  few : TooMany ds d → ⊥
  few (inl a) = omega (arith, a, ok.room)
  few (inr (inl a)) = omega (arith, a, ok.narrow)
  few (inr (inr (inl a))) = omega (arith, a, ok.short)
  few (inr (inr (inr a))) = let e = ap length (no_ancestors d outs-Any) in omega (arith, a, e)

  own_known : list_all (is_known (length ds + 1)) (field_types fields) ≡ true
  own_known = go (field_types fields) ok.types
    where
      later : (m : ℕ) (t : Ty) → Simple ds m t → is_known (length ds + 1) t ≡ true
      later m t top = known-any (length ds + 1)
      later m t bottom = known-union (length ds + 1) []
      later m t (parameter v h) = known-var (length ds + 1) v
      later m t (leaf k l e) = known_nominal (length ds + 1) k [] (grind (arith, l)) tt

      go : (ts : List Ty) → Each (Simple ds (length params)) ts → list_all (is_known (length ds + 1)) ts ≡ true
      go [] h = refl
      go (t ∷ ts) h = both_true (is_known (length ds + 1) t) (list_all (is_known (length ds + 1)) ts) (later (length params) t h.0) (go ts h.1)

  known : is_known_decl ds d ≡ true
  known =
      both_true (list_all (is_known (length ds)) (bound_types params) && is_known (length ds) W.Any) (list_all (is_known (length ds + 1)) (field_types fields))
      (both_true (list_all (is_known (length ds)) (bound_types params)) (is_known (length ds) W.Any) (all_true ds (length params) (is_known (length ds)) (s_known ds (length params)) (bound_types params) (free_types ds (length params) params ok.bounds))
      (known-any (length ds)))
      own_known

  placed : is_placed_decl ds d ≡ true
  placed =
      both_true (list_all is_closed (bound_types params) && is_placed (length ds) W.Any) (list_all (is_placed_field (length ds)) (field_types fields))
      (both_true (list_all is_closed (bound_types params)) (is_placed (length ds) W.Any) (free_closed params ok.bounds) (placed-any (length ds)))
      (all_true ds (length params) (is_placed_field (length ds)) (s_placed ds (length params) (length ds)) (field_types fields) ok.types)

  never : (b : Bool) → b ≡ true → b ≡ false → ⊥
  never b e f = let g : true ≡ false = sym e ∙ f in cc

  pub struct_ready : IsReady ds d
  struct_ready = record {
    variables = vars_true ds (length params) (types_of d) all_types;
    allowed = record {
      fresh = ok.fresh;
      known = never (is_known_decl ds d) known;
      counted = never (list_all (is_counted (ds ++ d ∷ [])) (types_of d)) (all_true ds (length params) (is_counted (ds ++ d ∷ [])) (s_counted ds (length params) d) (types_of d) all_types);
      abstract = never (is_abstract_parent ds (out-Ty W.Any)) (ap (is_abstract_parent ds) outs-Any);
      placed = never (is_placed_decl ds d) placed;
      small = small;
      ordered = λ h. let e = free_in params h.1.0 h.0 ok.bounds h.1.1 h.1.2 in h.2 (subst (λ z. Below (table_with ds d) opaque z.low z.high) (sym e) (below_any (table_with ds d) (V.Union [])));
      within = λ h. let c = subst (λ z. Contains z h.0) (given_none ds (length params) (types_of d) all_types) h.1 in absurd (omega (arith, c.1));
      few = few;
      distinct = λ h. ok.distinct h.0 h.1 h.2 h.3 h.4;
    };
    normal = record {
      name = refl;
      kind = refl;
      params = free_kept (table_with ds d) params ok.bounds;
      parent = plain W.Any outs-Any;
      field_names = refl;
      fields = all_settled ds (length params) (table_with ds d) (field_types fields) ok.types;
    };
  }

  pub sample_more : IsSample (ds ++ d ∷ [])
  sample_more = record { declared = added ds d sample.declared struct_ready; patterns = patterns_more }
