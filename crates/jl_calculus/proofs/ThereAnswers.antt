-- Questions that the definitions decide by themselves: whether a type is below another, so whether a nominal type breaks its bounds and
-- whether a part is of its field's type, and how large a value is. Their answers are there, and not only not missing.
use Rattle.std.proofs.Common.{◌≡◌, sym, ap, subst, refl, ℕ, zero, suc, ◌<◌, ◌≤◌, ◌⊎◌, inl, inr, arith, true, List, [], ◌∷◌, length, map, take, get_or}
use Rattle.std.specs.List.{list_all}
use Rattle.jl_model.specs.declared.limits.TheConstants.{MOST_TYPE_NODES, MOST_VALUE_NODES, MOST_VALUE_DEPTH}
use Rattle.jl_model.specs.declared.ty.Ty.{Ty}
use Rattle.jl_model.specs.declared.ty.Ty.TheVariants as W
use Rattle.jl_model.specs.declared.ty.Decl.{Decl}
use Rattle.jl_model.specs.Ancestors.{table_of}
use Rattle.jl_model.specs.Counts as types
use Rattle.jl_model.specs.Members.{EachBelow}
use Rattle.jl_model.specs.Normal.{IsNormal, AllNormal, is_single, no_union, any, var, nominal, tuple, union, none, more}
use Rattle.jl_model.specs.Refusals.{Declared}
use Rattle.jl_model.specs.Signature.{Both, both_end, both_more}
use Rattle.jl_model.specs.Subtype.{Table, opaque, Below}
use Rattle.jl_model.proofs.AncestorLemmas.{Lawful}
use Rattle.jl_model.proofs.BelowLemmas.{union_below, below_union}
use Rattle.jl_model.proofs.DeclaredLemmas.{declared_lawful}
use Rattle.jl_model.proofs.FormLemmas.{is_union}
use Rattle.jl_model.proofs.PutLemmas.{and_l, and_r}
use Rattle.jl_model.proofs.TransLemmas.{below_trans}
use Rattle.jl_types.proofs.DecideLemmas.{above}
use Rattle.jl_types.proofs.ExistLemmas.{exists}
use Rattle.jl_program.specs.declared.fault.Fault.{Fault}
use Rattle.jl_program.specs.declared.fault.Fault.TheVariants as F
use Rattle.jl_program.specs.declared.value.Value.{Value}
use Rattle.jl_program.specs.Making.{IsFirstOther, IsTooLarge, tuple_of, struct_of}
use Rattle.jl_program.specs.Meaning.{datum}
use Rattle.jl_program.specs.Measures as values
use Rattle.jl_program.specs.TypeOf.{type_of}
use Rattle.jl_program.specs.ValidValue.{fields_in, tuple_type}
use Rattle.jl_calculus.specs.declared.history.Outcome.{Outcome}
use Rattle.jl_calculus.specs.declared.history.Outcome.TheVariants as O
use Rattle.jl_calculus.specs.Answers.{Answer}
use Rattle.jl_calculus.specs.Operations.{fields_at, within_limits, make_tuple, make_struct}
use Rattle.jl_calculus.proofs.SureLemmas.{Known, known_not, known_both, known_less, known_same}
use Rattle.jl_calculus.proofs.ToldFaults.{other_next}

known_most : (a b : ℕ) → Known (a ≤ b)
known_most a b = by (known_less b a)
  where
    by : Known (b < a) → Known (a ≤ b)
    by (inl l) = inr (λ m. omega (arith, l, m))
    by (inr n) = inl (grind (arith, n))

-- the answer is there
abbrev There : Answer → Type 0
There A = (o : Outcome) × A o

module _ (ds : List Decl) where
  limits_there : (v : Value) → There (within_limits ds v)
  limits_there v = by (known_not (values.IsWithinLimits (datum v)) (known_both (values.nodes (datum v) ≤ MOST_VALUE_NODES) (values.depth (datum v) ≤ MOST_VALUE_DEPTH)
      (known_most (values.nodes (datum v)) MOST_VALUE_NODES) (known_most (values.depth (datum v)) MOST_VALUE_DEPTH)))
    where
      by : Known (IsTooLarge v) → There (within_limits ds v)
      by (inl large) = (O.Error F.ValueLimit, inl (F.ValueLimit, (refl, large), refl))
      by (inr fits) = (O.Value v, inr ((λ e h. fits h.1), refl))

  pub tuple_there : (vs : List Value) → There (make_tuple ds vs)
  tuple_there vs = by (known_less MOST_TYPE_NODES (types.nodes (tuple_type (map datum vs)))) (limits_there (tuple_of (map datum vs)))
    where
      by : Known (MOST_TYPE_NODES < types.nodes (tuple_type (map datum vs))) → There (within_limits ds (tuple_of (map datum vs))) → There (make_tuple ds vs)
      by (inl large) r = (O.Error F.TypeLimit, inl (F.TypeLimit, (refl, large), refl))
      by (inr fits) (o, h) = (o, inr ((λ e k. fits k.1), h))

  module _ (d : Declared ds) where
    abbrev n : Table
    n = table_of ds

    law : Lawful n
    law = declared_lawful ds d

    abbrev B : Ty → Ty → Type 0
    B = Below n opaque

    each_known : (u : Ty) → IsNormal n u → (ts : List Ty) → AllNormal n ts → list_all is_single ts ≡ true → Known (EachBelow n ts u)
    each_known u g [] none s = inl tt
    each_known u g (t ∷ ts) (more x xs p q) s =
        known_both (B t u) (EachBelow n ts u) (above ds d u g t p (and_l (is_single t) (list_all is_single ts) s)) (each_known u g ts q (and_r (is_single t) (list_all is_single ts) s))

    normal_known : (u : Ty) → IsNormal n u → (t : Ty) → IsNormal n t → Known (B t u)
    normal_known u g t (any x o) = above ds d u g t (any t o) (ap no_union o)
    normal_known u g t (var x v o) = above ds d u g t (var t v o) (ap no_union o)
    normal_known u g t (nominal x k xs o h) = above ds d u g t (nominal t k xs o h) (ap no_union o)
    normal_known u g t (tuple x xs o h s) = above ds d u g t (tuple t xs o h s) (ap no_union o)
    normal_known u g t (union x ts o h s m k) = by (each_known u g ts h s)
      where
        by : Known (EachBelow n ts u) → Known (B t u)
        by (inl e) = inl (subst (λ z. B z u) (sym (is_union t ts o)) (union_below n ts u e))
        by (inr f) = inr (λ b. f (below_union n ts u (subst (λ z. B z u) (is_union t ts o) b)))

    -- of two types it is decided whether one is below the other
    pub below_known : (t u : Ty) → Known (B t u)
    below_known t u =
        let a = exists ds d t in
        let b = exists ds d u in
        by a.0 b.0 a.1.form.equal.0 a.1.form.equal.1 b.1.form.equal.0 b.1.form.equal.1 (normal_known b.0 b.1.form.normal a.0 a.1.form.normal)
      where
        by : (a b : Ty) → B t a → B a t → B u b → B b u → Known (B a b) → Known (B t u)
        by a b up down over under (inl k) = inl (below_trans n law t a u up (below_trans n law a b u k under))
        by a b up down over under (inr f) = inr (λ k. f (below_trans n law a t b down (below_trans n law t u b k over)))

    abbrev First : List Ty → List Ty → Type 0
    First ts us = ((i : ℕ) × IsFirstOther ds ts us i) ⊎ ((i : ℕ) → IsFirstOther ds ts us i → ⊥)

    no_parts : (u : Ty) (us : List Ty) (i : ℕ) → Both B (take (suc i) []) (take (suc i) (u ∷ us)) → ⊥
    no_parts u us i h = elim h [ ]

    lone_known : (u : Ty) (us : List Ty) → Known (B W.Any u) → First [] (u ∷ us)
    lone_known u us (inr other) = inl (0, record { inside = omega arith; before = both_end; other = other })
    lone_known u us (inl b) = inr by
      where
        by : (i : ℕ) → IsFirstOther ds [] (u ∷ us) i → ⊥
        by zero h = h.other b
        by (suc i) h = no_parts u us i h.before

    both_later : (t u : Ty) (ts us : List Ty) → Both B (t ∷ ts) (u ∷ us) → Both B ts us
    both_later t u ts us (both_more x y xs ys p q) = q

    first_known : (t u : Ty) (ts us : List Ty) → Known (B t u) → First ts us → First (t ∷ ts) (u ∷ us)
    first_known t u ts us (inr other) r = inl (0, record { inside = omega arith; before = both_end; other = other })
    first_known t u ts us (inl b) (inl (i, h)) = inl (suc i, other_next ds t u ts us i b h)
    first_known t u ts us (inl b) (inr f) = inr by
      where
        by : (i : ℕ) → IsFirstOther ds (t ∷ ts) (u ∷ us) i → ⊥
        by zero h = h.other b
        by (suc i) h = f i (record { inside = omega (arith, h.inside); before = both_later t u (take i ts) (take i us) h.before; other = h.other })

    other_known : (ts us : List Ty) → First ts us
    other_known ts [] = inr (λ i h. omega (arith, h.inside))
    other_known [] (u ∷ us) = lone_known u us (below_known W.Any u)
    other_known (t ∷ ts) (u ∷ us) = first_known t u ts us (below_known t u) (other_known ts us)

    pub struct_there : (t : Ty) (vs : List Value) → There (make_struct ds t vs)
    struct_there t vs = by (known_same (length vs) (length (fields_at ds t))) (other_known (map type_of vs) (fields_in ds t)) (limits_there (struct_of t (map datum vs)))
      where
        by : Known (length vs ≡ length (fields_at ds t)) → First (map type_of vs) (fields_in ds t) → There (within_limits ds (struct_of t (map datum vs))) → There (make_struct ds t vs)
        by (inr differ) f r = (O.Error (F.NoConstructor t (map type_of vs)), inl (F.NoConstructor t (map type_of vs), (refl, differ), refl))
        by (inl same) (inl (i, h)) r =
            let e : Fault = F.FieldType t (get_or (map (λ x. x.name) (fields_at ds t)) i []) (get_or (map type_of vs) i W.Any) in
            (O.Error e, inr ((λ f k. k.1 same), inl (e, (i, h, refl), refl)))
        by (inl same) (inr never) (o, h) = (o, inr ((λ f k. k.1 same), inr ((λ f k. never k.0 k.1), h)))
