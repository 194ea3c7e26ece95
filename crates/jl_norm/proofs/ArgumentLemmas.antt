-- The arguments in a declaration that is well written and within the limits, and so is what is kept of it.
use Rattle.std.proofs.Common.{◌≡◌, ◌∙◌, sym, ap, subst, refl, ℕ, zero, suc, ◌+◌, ◌<◌, ◌≤◌, arith, Bool, true, false, ◌&&◌, not, nat_eq, List, [], ◌∷◌, ◌++◌, map, length}
use Rattle.std.specs.List.{flat_map, list_all}
use Rattle.jl_model.specs.declared.ty.Ty.{Ty}
use Rattle.jl_model.specs.declared.ty.Ty.TheViews.{outs-Any, outs-Union, outs-Tuple, outs-Nominal, outs-Var}
use Rattle.jl_model.specs.declared.ty.Ty.TheViews as V
use Rattle.jl_model.specs.declared.ty.Ty.TheVariants as W
use Rattle.jl_model.specs.declared.ty.Decl.{Decl}
use Rattle.jl_model.specs.Subtype.{Table, at}
use Rattle.jl_model.specs.Counts.{raw, greatest, IsWithinLimits}
use Rattle.jl_model.specs.Valid.{is_known, is_closed}
use Rattle.jl_model.specs.Kept.{field_types, Argument, AllArguments, arguments_end, arguments_more, Settled, AllSettled, plain, variable as alone, union, tuple, nominal, settled_end, settled_more, IsKept}
use Rattle.jl_model.specs.Refusals.{Declared, table_with, bound_types, types_of, Given, given_from, given_in, is_free_of, is_placed, is_placed_field, AllWithinLimits}
use Rattle.jl_model.proofs.TypeInduction.{Each, by_cases}
use Rattle.jl_model.proofs.PutLemmas.{and_l, and_r}
use Rattle.jl_model.proofs.AncestorLemmas.{Lawful, true_each}
use Rattle.jl_model.proofs.KnownLemmas.{Known, union_known, tuple_known, nominal_known}
use Rattle.jl_model.proofs.CountLemmas.{nodes_all, nodes-union, nodes-tuple, nodes-nominal, raw-union, raw-tuple, raw-nominal}
use Rattle.jl_types.proofs.PlaceLemmas.{known_up, free_is_field}
use Rattle.jl_types.proofs.KeptOnceLemmas.{settled_same}
use Rattle.jl_norm.specs.Refused.{IsWellWritten}
use Rattle.jl_norm.specs.Judged.{IsArgument, AreArguments, given_of}
use Rattle.jl_types.proofs.GivenLemmas.{AllGiven, given-any, given-var, given-union, given-tuple, given-nominal, given_both, given_none, each_given, at_given}
use Rattle.jl_norm.proofs.PlaceLemmas.{free-any, free-union, free-tuple, free-nominal, placed-union, placed-tuple, placed-nominal, field-var, field-union, field-tuple, field-nominal}
use Rattle.jl_types.proofs.PartsLemmas.{closed-var, closed-nominal}
use Rattle.jl_norm.proofs.KeepLemmas.{argument_nominal, argument_var, with_lawful, bounds_are_known, bounds_are_closed, fields_are_placed}
use Rattle.jl_norm.proofs.KeptLemmas.{closed_free, free_exists, own_known, parent_known_next, parent_is_field}
use Rattle.jl_norm.proofs.SizeLemmas.{bounds_within, parent_within}

-- BY THE PARTS
pub each_at : (A : Ty → Type 0) (ts : List Ty) → Each A ts → (i : ℕ) → i < length ts → A (at ts i)
each_at A [] e i l = absurd (omega arith)
each_at A (t ∷ ts) e zero l = e.0
each_at A (t ∷ ts) e (suc i) l = each_at A ts e.1 i (omega arith)

-- what the parts of a type have, its arguments have
module _ (A : Ty → Type 0) (unions : (ts : List Ty) → A (V.Union ts) → Each A ts) (tuples : (ts : List Ty) → A (V.Tuple ts) → Each A ts) (applieds : (k : ℕ) (ts : List Ty) → A (V.Nominal k ts) → Each A ts) where
  abbrev Q : Given → Type 0
  Q a = A a.ty

  abbrev C : Ty → Type 0
  C t = A t → AllGiven Q (given_in t)

  each_of : (ts : List Ty) → Each C ts → Each A ts → Each (λ t. AllGiven Q (given_in t)) ts
  each_of [] e h = tt
  each_of (t ∷ ts) e h = (e.0 h.0, each_of ts e.1 h.1)

  pub given_by : (t : Ty) → A t → AllGiven Q (given_in t)
  given_by = by_cases C (record {
    any = λ h. subst (AllGiven Q) (sym given-any) (given_none Q);
    union = λ ts e h. subst (AllGiven Q) (sym (given-union ts)) (each_given Q ts (each_of ts e (unions ts h)));
    tuple = λ ts e h. subst (AllGiven Q) (sym (given-tuple ts)) (each_given Q ts (each_of ts e (tuples ts h)));
    nominal = λ k ts e h.
        let p = applieds k ts h in
        subst (AllGiven Q) (sym (given-nominal k ts)) (given_both Q (given_from k 0 ts) (flat_map given_in ts) (at_given Q k 0 ts (λ i l. each_at A ts p i l)) (each_given Q ts (each_of ts e p)));
    var = λ v h. subst (AllGiven Q) (sym (given-var v)) (given_none Q);
  })

-- SIZES
within_each : (ts : List Ty) → nodes_all ts ≤ 1024 → greatest (map (λ r. r.widest) (map raw ts)) ≤ 256 → Each IsWithinLimits ts
within_each [] h g = tt
within_each (t ∷ ts) h g = (record { nodes = omega (arith, h); alternatives = omega (arith, g) }, within_each ts (omega (arith, h)) (omega (arith, g)))

pub within_union : (ts : List Ty) → IsWithinLimits (V.Union ts) → Each IsWithinLimits ts
within_union ts h = let a = h.nodes in let b = h.alternatives in let w = ap (λ r. r.widest) (raw-union ts) in within_each ts (omega (arith, a, nodes-union ts)) (omega (arith, b, w))

pub within_tuple : (ts : List Ty) → IsWithinLimits (V.Tuple ts) → Each IsWithinLimits ts
within_tuple ts h = let a = h.nodes in let b = h.alternatives in let w = ap (λ r. r.widest) (raw-tuple ts) in within_each ts (omega (arith, a, nodes-tuple ts)) (omega (arith, b, w))

pub within_nominal : (k : ℕ) (ts : List Ty) → IsWithinLimits (V.Nominal k ts) → Each IsWithinLimits ts
within_nominal k ts h = let a = h.nodes in let b = h.alternatives in let w = ap (λ r. r.widest) (raw-nominal k ts) in within_each ts (omega (arith, a, nodes-nominal k ts)) (omega (arith, b, w))

pub within_all_each : (ts : List Ty) → AllWithinLimits ts → Each IsWithinLimits ts
within_all_each [] h = tt
within_all_each (t ∷ ts) h = (h.0, within_all_each ts h.1)

keep_false : (a b c e : Bool) → (a ≡ false → c ≡ false) → (b ≡ false → e ≡ false) → (a && b) ≡ false → (c && e) ≡ false
keep_false true b c e f g h = right c e (g h)
  where
    right : (c e : Bool) → e ≡ false → (c && e) ≡ false
    right true e h = h
    right false e h = refl
keep_false false b c e f g h = ap (λ z. z && e) (f refl)

-- OF A DECLARATION
module _ (ds : List Decl) (d : Decl) (h : Declared ds) where
  abbrev m : ℕ
  m = length ds

  abbrev n : Table
  n = table_with ds d

  -- free of the new type and of variables
  pub record IsFree (t : Ty) : Type 0 where
    pub free : is_free_of m t ≡ true
    pub known : Known (m + 1) t
    pub within : IsWithinLimits t

  frees : (ts : List Ty) → list_all (is_free_of m) ts ≡ true → Each (Known (m + 1)) ts → Each IsWithinLimits ts → Each IsFree ts
  frees [] f k w = tt
  frees (t ∷ ts) f k w =
      (record { free = and_l (is_free_of m t) (list_all (is_free_of m) ts) f; known = k.0; within = w.0 }, frees ts (and_r (is_free_of m t) (list_all (is_free_of m) ts) f) k.1 w.1)

  free_argument : (t : Ty) → IsFree t → IsArgument ds d t
  free_argument t f = record {
    known = f.known;
    placed = free_is_field m t f.free;
    within = f.within;
    kept = λ g. let e : true ≡ false = sym f.free ∙ g in cc;
    shape = λ c g. let e : true ≡ false = sym f.free ∙ g in cc;
  }

  abbrev G : Given → Type 0
  G a = IsArgument ds d a.ty

  to_arguments : (t : Ty) → AllGiven (λ a. IsFree a.ty) (given_in t) → AllGiven G (given_in t)
  to_arguments t f a c = free_argument a.ty (f a c)

  pub free_given : (t : Ty) → IsFree t → AllGiven G (given_in t)
  free_given t f =
      to_arguments t (given_by IsFree
      (λ ts g. frees ts (sym (free-union m ts) ∙ g.free) (union_known (m + 1) ts g.known) (within_union ts g.within))
      (λ ts g. frees ts (sym (free-tuple m ts) ∙ g.free) (tuple_known (m + 1) ts g.known) (within_tuple ts g.within))
      (λ k ts g. frees ts (and_r _ (list_all (is_free_of m) ts) (sym (free-nominal m k ts) ∙ g.free)) (nominal_known (m + 1) k ts g.known).1 (within_nominal k ts g.within))
      t f)

  abbrev Own : Ty → Type 0
  Own t = AllGiven G (given_in t) × IsArgument ds d t

  -- an argument
  abbrev HasOwn : Ty → Type 0
  HasOwn t = Known (m + 1) t → is_placed m t ≡ true → IsWithinLimits t → (u : Ty) × Argument n t u × (is_free_of m t ≡ false → is_free_of m u ≡ false) × (IsWithinLimits u → Own t)

  free_own : (t : Ty) → IsFree t → (u : Ty) × Argument n t u × (is_free_of m t ≡ false → is_free_of m u ≡ false) × (IsWithinLimits u → Own t)
  free_own t f = let r = free_exists ds d h t f.free f.known in (r.0, r.1, (λ g. let e : true ≡ false = sym f.free ∙ g in cc), λ w. (free_given t f, free_argument t f))

  arguments_own : (ts : List Ty) → Each HasOwn ts → Each (Known (m + 1)) ts → Each (λ t. is_placed m t ≡ true) ts → Each IsWithinLimits ts → (us : List Ty) × AllArguments n ts us × (list_all (is_free_of m) ts ≡ false → list_all (is_free_of m) us ≡ false) × (Each IsWithinLimits us → Each Own ts)
  arguments_own [] e k p w = ([], arguments_end, (λ g. g), λ x. tt)
  arguments_own (t ∷ ts) e k p w =
      let r = e.0 k.0 p.0 w.0 in
      let s = arguments_own ts e.1 k.1 p.1 w.1 in
      (r.0 ∷ s.0, arguments_more t r.0 ts s.0 r.1 s.1, keep_false (is_free_of m t) (list_all (is_free_of m) ts) (is_free_of m r.0) (list_all (is_free_of m) s.0) r.2 s.2, λ x. (r.3 x.0, s.3 x.1))

  own_given : (ts : List Ty) → Each Own ts → Each (λ t. AllGiven G (given_in t)) ts
  own_given [] e = tt
  own_given (t ∷ ts) e = (e.0.0, own_given ts e.1)

  own_types : (ts : List Ty) → Each Own ts → Each (IsArgument ds d) ts
  own_types [] e = tt
  own_types (t ∷ ts) e = (e.0.1, own_types ts e.1)

  nominal_given : (k : ℕ) (ts : List Ty) → Each Own ts → AllGiven G (given_in (V.Nominal k ts))
  nominal_given k ts e =
      subst (AllGiven G) (sym (given-nominal k ts)) (given_both G (given_from k 0 ts) (flat_map given_in ts) (at_given G k 0 ts (λ i l. each_at (IsArgument ds d) ts (own_types ts e) i l)) (each_given G ts (own_given ts e)))

  stays : (j : ℕ) (ts us : List Ty) → (list_all (is_free_of m) ts ≡ false → list_all (is_free_of m) us ≡ false) → is_free_of m (V.Nominal j ts) ≡ false → is_free_of m (V.Nominal j us) ≡ false
  stays j ts us s f = free-nominal m j us ∙ keep_false (not (nat_eq j m)) (list_all (is_free_of m) ts) (not (nat_eq j m)) (list_all (is_free_of m) us) (λ h. h) s (sym (free-nominal m j ts) ∙ f)

  argument_own : (t : Ty) → HasOwn t
  argument_own = by_cases HasOwn (record {
    any = λ k p w. free_own W.Any (record { free = free-any m; known = k; within = w });
    union = λ ts e k p w. free_own (V.Union ts) (record { free = free-union m ts ∙ sym (placed-union m ts) ∙ p; known = k; within = w });
    tuple = λ ts e k p w. free_own (V.Tuple ts) (record { free = free-tuple m ts ∙ sym (placed-tuple m ts) ∙ p; known = k; within = w });
    nominal = λ j ts e k p w.
        let r = arguments_own ts e (nominal_known (m + 1) j ts k).1 (true_each (is_placed m) ts (sym (placed-nominal m j ts) ∙ p)) (within_nominal j ts w) in (
          V.Nominal j r.0,
          argument_nominal n (V.Nominal j ts) j ts r.0 refl (closed-nominal j) r.1,
          stays j ts r.0 r.2,
          λ x.
              let own = r.3 (within_nominal j r.0 x) in (
                nominal_given j ts own,
                record {
                  known = k;
                  placed = field-nominal m j ts ∙ sym (placed-nominal m j ts) ∙ p;
                  within = w;
                  kept = λ f. (V.Nominal j r.0, nominal (V.Nominal j ts) (V.Nominal j r.0) j ts r.0 (outs-Nominal j ts) (outs-Nominal j r.0) r.1, x, stays j ts r.0 r.2 f);
                  shape = λ c f. (j, ts, refl);
                },
              ),
        );
    var = λ v k p w. (
      W.Var v,
      argument_var n (W.Var v) v refl,
      (λ g. g),
      λ x. (
        subst (AllGiven G) (sym (given-var v)) (given_none G),
        record {
          known = k;
          placed = field-var m v;
          within = w;
          kept = λ f. (W.Var v, alone (W.Var v) v (outs-Var v), x, f);
          shape = λ c f. let e : false ≡ true = sym (closed-var v) ∙ c in cc;
        },
      ),
    );
  })

  each_argument : (ts : List Ty) → Each HasOwn ts
  each_argument [] = tt
  each_argument (t ∷ ts) = (argument_own t, each_argument ts)

  -- the parent, or the type of a field
  abbrev HasField : Ty → Type 0
  HasField t = Known (m + 1) t → is_placed_field m t ≡ true → IsWithinLimits t → (u : Ty) × Settled n t u × (IsWithinLimits u → AllGiven G (given_in t))

  fields_own : (ts : List Ty) → Each HasField ts → Each (Known (m + 1)) ts → Each (λ t. is_placed_field m t ≡ true) ts → Each IsWithinLimits ts → (us : List Ty) × AllSettled n ts us × (Each IsWithinLimits us → Each (λ t. AllGiven G (given_in t)) ts)
  fields_own [] e k p w = ([], settled_end, λ x. tt)
  fields_own (t ∷ ts) e k p w =
      let r = e.0 k.0 p.0 w.0 in
      let s = fields_own ts e.1 k.1 p.1 w.1 in
      (r.0 ∷ s.0, settled_more t r.0 ts s.0 r.1 s.1, λ x. (r.2 x.0, s.2 x.1))

  field_own : (t : Ty) → HasField t
  field_own = by_cases HasField (record {
    any = λ k p w. (W.Any, plain W.Any outs-Any, λ x. subst (AllGiven G) (sym given-any) (given_none G));
    union = λ ts e k p w.
        let r = fields_own ts e (union_known (m + 1) ts k) (true_each (is_placed_field m) ts (sym (field-union m ts) ∙ p)) (within_union ts w) in
        (V.Union r.0, union (V.Union ts) (V.Union r.0) ts r.0 (outs-Union ts) (outs-Union r.0) r.1, λ x. subst (AllGiven G) (sym (given-union ts)) (each_given G ts (r.2 (within_union r.0 x))));
    tuple = λ ts e k p w.
        let r = fields_own ts e (tuple_known (m + 1) ts k) (true_each (is_placed_field m) ts (sym (field-tuple m ts) ∙ p)) (within_tuple ts w) in
        (V.Tuple r.0, tuple (V.Tuple ts) (V.Tuple r.0) ts r.0 (outs-Tuple ts) (outs-Tuple r.0) r.1, λ x. subst (AllGiven G) (sym (given-tuple ts)) (each_given G ts (r.2 (within_tuple r.0 x))));
    nominal = λ j ts e k p w.
        let r = arguments_own ts (each_argument ts) (nominal_known (m + 1) j ts k).1 (true_each (is_placed m) ts (sym (field-nominal m j ts) ∙ p)) (within_nominal j ts w) in
        (V.Nominal j r.0, nominal (V.Nominal j ts) (V.Nominal j r.0) j ts r.0 (outs-Nominal j ts) (outs-Nominal j r.0) r.1, λ x. nominal_given j ts (r.3 (within_nominal j r.0 x)));
    var = λ v k p w. (W.Var v, alone (W.Var v) v (outs-Var v), λ x. subst (AllGiven G) (sym (given-var v)) (given_none G));
  })

  module _ (w : IsWellWritten ds d) (e : Decl) (k : IsKept n d e) where
    law : Lawful n
    law = with_lawful ds d w h

    settled_given : (t u : Ty) → Settled n t u → Known (m + 1) t → is_placed_field m t ≡ true → IsWithinLimits t → IsWithinLimits u → AllGiven G (given_in t)
    settled_given t u s i p a b =
        let r = field_own t i p a in
        r.2 (subst IsWithinLimits (settled_same n law t u r.0 s r.1) b)

    all_given : (ts us : List Ty) → AllSettled n ts us → Each (Known (m + 1)) ts → Each (λ t. is_placed_field m t ≡ true) ts → AllWithinLimits ts → AllWithinLimits us → Each (λ t. AllGiven G (given_in t)) ts
    all_given ts us settled_end i p a b = tt
    all_given ts us (settled_more t u vs ws s r) i p a b = (settled_given t u s i.0 p.0 a.0 b.0, all_given vs ws r i.1 p.1 a.1 b.1)

    bounds_given : (ts : List Ty) → Each (Known m) ts → Each (λ t. is_closed t ≡ true) ts → AllWithinLimits ts → Each (λ t. AllGiven G (given_in t)) ts
    bounds_given [] i c a = tt
    bounds_given (t ∷ ts) i c a = (free_given t (record { free = closed_free m t c.0 i.0; known = known_up m t i.0; within = a.0 }), bounds_given ts i.1 c.1 a.1)

    each_join : (P : Ty → Type 0) (ts us : List Ty) → Each P ts → Each P us → Each P (ts ++ us)
    each_join P [] us f g = g
    each_join P (t ∷ ts) us f g = (f.0, each_join P ts us f.1 g)

    -- each is an argument
    pub arguments_are : AllWithinLimits (types_of d) → AllWithinLimits (types_of e) → AreArguments ds d (given_of d)
    arguments_are a b =
        let pa = parent_within d a in
        let pb = parent_within e b in
        let bounds = bounds_given (bound_types d.params) (true_each (is_known m) (bound_types d.params) (bounds_are_known ds d w)) (true_each is_closed (bound_types d.params) (bounds_are_closed ds d w)) (bounds_within d a) in
        let parent = settled_given d.parent e.parent k.parent (parent_known_next ds d h w) (parent_is_field ds d h w) pa.0 pb.0 in
        let fields = all_given (field_types d.fields) (field_types e.fields) k.fields (true_each (is_known (m + 1)) (field_types d.fields) (own_known ds d w)) (true_each (is_placed_field m) (field_types d.fields) (fields_are_placed ds d w)) pa.1 pb.1 in
        each_given G (types_of d) (each_join (λ t. AllGiven G (given_in t)) (bound_types d.params) (d.parent ∷ field_types d.fields) bounds (parent, fields))
