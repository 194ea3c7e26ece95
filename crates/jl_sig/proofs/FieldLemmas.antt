-- The fields of a declared type make a signature whose names are declared, whose variables stand where they may, and whose bounds are in order.
use Rattle.std.proofs.Common.{◌≡◌, ◌∙◌, sym, subst, refl, ℕ, zero, suc, ◌+◌, ◌<◌, ◌≤◌, arith, Bool, true, false, ◌&&◌, nat_lt, List, [], ◌∷◌, ◌++◌, length, Option, None, Some, slice_get}
use Rattle.std.specs.List.{flat_map, list_all}
use Rattle.jl_model.specs.declared.ty.Ty.{Ty}
use Rattle.jl_model.specs.declared.ty.Decl.{Decl}
use Rattle.jl_model.specs.declared.ty.DeclKind.{DeclKind}
use Rattle.jl_model.specs.declared.ty.DeclKind.TheVariants.{Abstract, Struct}
use Rattle.jl_model.specs.Rows.{vars_in}
use Rattle.jl_model.specs.Valid.{is_known, is_closed, names_in}
use Rattle.jl_model.specs.Kept.{field_types}
use Rattle.jl_model.specs.Refusals.{Declared, builtin, added, IsReady, bound_types, is_known_decl, is_placed_decl, is_free_of, is_placed, is_placed_field, own}
use Rattle.jl_model.specs.SigRefusals.{is_argument, is_component, are_bounds, BoundsCrossed}
use Rattle.jl_model.proofs.TypeInduction.{Each, by_cases}
use Rattle.jl_model.proofs.PutLemmas.{and_l, and_r, both_true}
use Rattle.jl_model.proofs.AncestorLemmas.{each_true, true_each, long-snoc}
use Rattle.jl_model.proofs.DeclaredLemmas.{not_false, placed-union, placed-tuple, placed-nominal}
use Rattle.jl_types.proofs.PlaceLemmas.{free_is_closed, field-union, field-tuple, field-nominal}
use Rattle.jl_program.specs.BodyTypes.{fields_written, fields_signature}
use Rattle.jl_sig.specs.Fields.{fields_of}
use Rattle.jl_sig.specs.Prepared.{IsWellPlaced}
use Rattle.jl_sig.proofs.DeclaredBounds.{declared_ordered}
use Rattle.jl_sig.proofs.FitLemmas.{argument-any, argument-var, argument-union, argument-tuple, argument-nominal, component-any, component-var, component-union, component-tuple, component-nominal}
use Rattle.jl_sig.proofs.OwnLemmas.{all_split, own_joined}
use Rattle.jl_sig.proofs.BoundLemmas.{closed_own, closed_placed}

-- what is placed in a declaration is placed in a signature
each_of : (P Q : Ty → Type 0) (ts : List Ty) → Each (λ t. P t → Q t) ts → Each P ts → Each Q ts
each_of P Q [] e f = tt
each_of P Q (t ∷ ts) e f = (e.0 f.0, each_of P Q ts e.1 f.1)

moved : (p q : Ty → Bool) (ts : List Ty) → ((t : Ty) → p t ≡ true → q t ≡ true) → list_all p ts ≡ true → list_all q ts ≡ true
moved p q [] h k = refl
moved p q (t ∷ ts) h k = both_true (q t) (list_all q ts) (h t (and_l (p t) (list_all p ts) k)) (moved p q ts h (and_r (p t) (list_all p ts) k))

each_moved : (p q : Ty → Bool) (ts : List Ty) → Each (λ t. p t ≡ true → q t ≡ true) ts → list_all p ts ≡ true → list_all q ts ≡ true
each_moved p q ts e k = each_true q ts (each_of (λ t. p t ≡ true) (λ t. q t ≡ true) ts e (true_each p ts k))

placed_argument : (m : ℕ) (t : Ty) → is_placed m t ≡ true → is_argument t ≡ true
placed_argument m = by_cases (λ t. is_placed m t ≡ true → is_argument t ≡ true) (record {
  any = λ h. argument-any;
  union = λ ts e h. argument-union ts ∙ moved (is_free_of m) is_closed ts (free_is_closed m) (sym (placed-union m ts) ∙ h);
  tuple = λ ts e h. argument-tuple ts ∙ moved (is_free_of m) is_closed ts (free_is_closed m) (sym (placed-tuple m ts) ∙ h);
  nominal = λ k ts e h. argument-nominal k ts ∙ each_moved (is_placed m) is_argument ts e (sym (placed-nominal m k ts) ∙ h);
  var = λ v h. argument-var v;
})

placed_component : (m : ℕ) (t : Ty) → is_placed_field m t ≡ true → is_component t ≡ true
placed_component m = by_cases (λ t. is_placed_field m t ≡ true → is_component t ≡ true) (record {
  any = λ h. component-any;
  union = λ ts e h. component-union ts ∙ each_moved (is_placed_field m) is_component ts e (sym (field-union m ts) ∙ h);
  tuple = λ ts e h. component-tuple ts ∙ each_moved (is_placed_field m) is_component ts e (sym (field-tuple m ts) ∙ h);
  nominal = λ k ts e h. component-nominal k ts ∙ moved (is_placed m) is_argument ts (placed_argument m) (sym (field-nominal m k ts) ∙ h);
  var = λ v h. component-var v;
})

-- more types are known
names_later : (m n : ℕ) (ks : List ℕ) → m ≤ n → list_all (λ k. nat_lt k m) ks ≡ true → list_all (λ k. nat_lt k n) ks ≡ true
names_later m n [] l h = refl
names_later m n (k ∷ ks) l h =
    let p : nat_lt k m ≡ true = and_l (nat_lt k m) (list_all (λ k. nat_lt k m) ks) h in
    let q : nat_lt k n ≡ true = grind (arith, p, l) in
    both_true (nat_lt k n) (list_all (λ k. nat_lt k n) ks) q (names_later m n ks l (and_r (nat_lt k m) (list_all (λ k. nat_lt k m) ks) h))

known_later : (m n : ℕ) (ts : List Ty) → m ≤ n → list_all (is_known m) ts ≡ true → list_all (is_known n) ts ≡ true
known_later m n ts l h = moved (is_known m) (is_known n) ts (λ t. names_later m n (names_in t) l) h

own_one : (k : DeclKind) → own k ≤ 1
own_one Abstract = omega arith
own_one Struct = omega arith

-- variables of the types after others
later_vars : (p : ℕ → Bool) (ts us : List Ty) → list_all p (flat_map vars_in (ts ++ us)) ≡ true → list_all p (flat_map vars_in us) ≡ true
later_vars p [] us h = h
later_vars p (t ∷ ts) us h = later_vars p ts us (all_split p (vars_in t) (flat_map vars_in (ts ++ us)) h).1

all_joined : (p : Ty → Bool) (ts us : List Ty) → list_all p ts ≡ true → list_all p us ≡ true → list_all p (ts ++ us) ≡ true
all_joined p [] us h k = k
all_joined p (t ∷ ts) us h k = both_true (p t) (list_all p (ts ++ us)) (and_l (p t) (list_all p ts) h) (all_joined p ts us (and_r (p t) (list_all p ts) h) k)

-- what is asked of the fields of a declaration, where types below m are known
record Fields (m : ℕ) (d : Decl) : Type 0 where
  variables : list_all (λ v. nat_lt v (length d.params)) (flat_map vars_in (field_types d.fields)) ≡ true
  known : list_all (is_known m) (bound_types d.params ++ field_types d.fields) ≡ true
  closed : list_all is_closed (bound_types d.params) ≡ true
  placed : list_all is_component (field_types d.fields) ≡ true

abbrev AllFields : ℕ → List Decl → Type 0
AllFields m [] = Unit {0}
AllFields m (d ∷ ds) = Fields m d × AllFields m ds

fields_later : (m n : ℕ) (ds : List Decl) → m ≤ n → AllFields m ds → AllFields n ds
fields_later m n [] l a = tt
fields_later m n (d ∷ ds) l a = (record { variables = a.0.variables; known = known_later m n (bound_types d.params ++ field_types d.fields) l a.0.known; closed = a.0.closed; placed = a.0.placed }, fields_later m n ds l a.1)

fields_snoc : (m : ℕ) (ds : List Decl) (d : Decl) → AllFields m ds → Fields m d → AllFields m (ds ++ d ∷ [])
fields_snoc m [] d a f = (f, tt)
fields_snoc m (e ∷ ds) d a f = (a.0, fields_snoc m ds d a.1 f)

ready_fields : (es : List Decl) (d : Decl) → IsReady es d → Fields (length es + 1) d
ready_fields es d r =
    let bs = list_all (is_known (length es)) (bound_types d.params) in
    let p = is_known (length es) d.parent in
    let fs = list_all (is_known (length es + own d.kind)) (field_types d.fields) in
    let k = not_false (is_known_decl es d) r.allowed.known in
    let cs = list_all is_closed (bound_types d.params) in
    let q = is_placed (length es) d.parent in
    let gs = list_all (is_placed_field (length es)) (field_types d.fields) in
    let h = not_false (is_placed_decl es d) r.allowed.placed in
    let o = own_one d.kind in
    record {
      variables =
          let a = later_vars (λ v. nat_lt v (length d.params)) (bound_types d.params) (d.parent ∷ field_types d.fields) r.variables in
          (all_split (λ v. nat_lt v (length d.params)) (vars_in d.parent) (flat_map vars_in (field_types d.fields)) a).1;
      known = all_joined (is_known (length es + 1)) (bound_types d.params) (field_types d.fields)
          (known_later (length es) (length es + 1) (bound_types d.params) (omega arith) (and_l bs p (and_l (bs && p) fs k)))
          (known_later (length es + own d.kind) (length es + 1) (field_types d.fields) (omega (arith, o)) (and_r (bs && p) fs k));
      closed = and_l cs q (and_l (cs && q) gs h);
      placed = moved (is_placed_field (length es)) is_component (field_types d.fields) (placed_component (length es)) (and_r (cs && q) gs h);
    }

plain : (d : Decl) (m : ℕ) → d.params ≡ [] → d.fields ≡ [] → Fields m d
plain d m p f = record {
  variables = rw (p, f) refl;
  known = rw (p, f) refl;
  closed = rw p refl;
  placed = rw f refl;
}

all_fields : (ds : List Decl) → Declared ds → AllFields (length ds) ds
all_fields ds builtin = (plain _ 8 refl refl, (plain _ 8 refl refl, (plain _ 8 refl refl, (plain _ 8 refl refl, (plain _ 8 refl refl, (plain _ 8 refl refl, (plain _ 8 refl refl, (plain _ 8 refl refl, tt))))))))
all_fields ds (added es d h r) =
    let l = long-snoc es d in
    subst (λ m. AllFields m (es ++ d ∷ [])) (sym l) (fields_snoc (length es + 1) es d (fields_later (length es) (length es + 1) es (omega arith) (all_fields es h)) (ready_fields es d r))

fields_at : (m : ℕ) (ds : List Decl) (k : ℕ) → AllFields m ds → k < length ds → (d : Decl) × (slice_get ds k ≡ Some d) × Fields m d
fields_at m [] k a l = absurd (omega arith)
fields_at m (d ∷ ds) zero a l = (d, refl, a.0)
fields_at m (d ∷ ds) (suc k) a l = fields_at m ds k a.1 (omega arith)

pub fields_placed : (ds : List Decl) → Declared ds → (k : ℕ) → k < length ds → IsWellPlaced ds (fields_of ds k)
fields_placed ds h k l =
    let f = fields_at (length ds) ds k (all_fields ds h) l in
    subst (λ o. IsWellPlaced ds (fields_signature o)) (sym f.1) (record {
      own = own_joined (fields_written f.0) (closed_own (λ v. nat_lt v (length f.0.params)) (bound_types f.0.params) f.2.closed) f.2.variables;
      known = f.2.known;
      placed = λ e.
          let p = both_true (are_bounds (length f.0.params) 0 f.0.params) (list_all is_component (field_types f.0.fields)) (closed_placed (length f.0.params) 0 f.0.params f.2.closed) f.2.placed in
          let g : true ≡ false = sym p ∙ e in cc;
    })

crossed_at : (ds : List Decl) → Declared ds → (k : ℕ) (o : Option Decl) → slice_get ds k ≡ o → BoundsCrossed ds (fields_signature o) → ⊥
crossed_at ds h k None e (b, c, f) = let l = c.1 in omega (arith, l)
crossed_at ds h k (Some d) e (b, c, f) = declared_ordered ds h k d e b c f

pub fields_ordered : (ds : List Decl) → Declared ds → (k : ℕ) → BoundsCrossed ds (fields_of ds k) → ⊥
fields_ordered ds h k c = crossed_at ds h k (slice_get ds k) refl c
