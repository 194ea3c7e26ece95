-- Every type has a normal form, however large.
use Rattle.std.proofs.Common.{◌≡◌, ◌∙◌, sym, ap, subst, refl, arith, Bool, true, List, [], ◌∷◌, length, ◌⊎◌, inl, inr, append-nil}
use Rattle.std.specs.List.{list_all}
use Rattle.std.specs.Ordering.{ordering_reverse}
use Rattle.std.specs.declared.cmp.Ordering.{Ordering}
use Rattle.std.specs.declared.cmp.Ordering.TheVariants.{Less, Equal as Tied, Greater}
use Rattle.jl_model.specs.declared.ty.Ty.{Ty}
use Rattle.jl_model.specs.declared.ty.Ty.TheViews.{outs-Any, outs-Union, outs-Tuple, outs-Nominal, outs-Var}
use Rattle.jl_model.specs.declared.ty.Ty.TheViews as V
use Rattle.jl_model.specs.declared.ty.Ty.TheVariants as W
use Rattle.jl_model.specs.declared.ty.Decl.{Decl}
use Rattle.jl_model.specs.Ancestors.{table_of}
use Rattle.jl_model.specs.Rows.{alts}
use Rattle.jl_model.specs.Signature.{Both, both_end, both_more}
use Rattle.jl_model.specs.Subtype.{Table, opaque, Below, Equal}
use Rattle.jl_model.specs.Members.{BelowSome}
use Rattle.jl_model.specs.Order.{term_cmp}
use Rattle.jl_model.specs.Normal.{IsNormal, AllNormal, is_single, no_union, IsNormalForm, none as no_normal, more as more_normal, any as normal_any, var as normal_var, nominal as normal_nominal, tuple as normal_tuple}
use Rattle.jl_model.specs.Refusals.{Declared}
use Rattle.jl_model.proofs.TypeInduction.{Each, by_cases}
use Rattle.jl_model.proofs.FormLemmas.{alts-union}
use Rattle.jl_model.proofs.PutLemmas.{both_true}
use Rattle.jl_model.proofs.SelfLemmas.{below_self}
use Rattle.jl_model.proofs.TransLemmas.{below_trans, equal_trans}
use Rattle.jl_model.proofs.NormalLemmas.{In, first, later, Ascending, Ordered, single_alts, some_in}
use Rattle.jl_model.proofs.OrderLemmas.{term_order, tied}
use Rattle.jl_model.proofs.AncestorLemmas.{Lawful}
use Rattle.jl_model.proofs.DeclaredLemmas.{declared_lawful}
use Rattle.jl_types.specs.Form.{IsOfParts, Settles, AllSettle, any, var, union, tuple, nominal, none, more}
use Rattle.jl_types.proofs.FinalLemmas.{ordered_normal, below_in}
use Rattle.jl_types.proofs.SortLemmas.{ascending_from}
use Rattle.jl_types.proofs.KeptLemmas.{alts_pass}
use Rattle.jl_types.proofs.CoverLemmas.{each_in, all_from, normal_from, alike, union_equal}
use Rattle.jl_types.proofs.SettleLemmas.{Grows, settles_good, settles_equal, settles_pass}
use Rattle.jl_types.proofs.DecideLemmas.{Decided, above}

-- its normal form, which passes the tests by the parts that it passes
pub record Full (ds : List Decl) (t u : Ty) : Type 0 where
  pub form : IsNormalForm (table_of ds) t u
  pub kept : (p : Ty → Bool) → IsOfParts p → p t ≡ true → p u ≡ true

-- SORTED
pub record Placed (x : Ty) (us vs : List Ty) : Type 0 where
  pub ordered : Ordered vs
  pub new : In x vs
  pub old : (y : Ty) → In y us → In y vs
  pub from : (y : Ty) → In y vs → (y ≡ x) ⊎ In y us

ascending_in : (u : Ty) (vs : List Ty) → ((y : Ty) → In y vs → term_cmp u y ≡ Less) → Ascending u vs
ascending_in u [] f = tt
ascending_in u (v ∷ vs) f = (f v (first v vs refl), ascending_in u vs (λ y i. f y (later v vs i)))

less_all : (u y : Ty) (us : List Ty) → Ascending u us → In y us → term_cmp u y ≡ Less
less_all u y us a (first z zs e) = ap (term_cmp u) e ∙ a.0
less_all u y us a (later z zs i) = less_all u y zs a.1 i

place_at : (c : Ordering) (x u : Ty) (us : List Ty) → term_cmp x u ≡ c → Ordered (u ∷ us) → (vs : List Ty) × Placed x us vs → (vs : List Ty) × Placed x (u ∷ us) vs
place_at Less x u us e o r = (x ∷ u ∷ us, record { ordered = ((e, ascending_from x u us e o.0), o); new = first x (u ∷ us) refl; old = λ y i. later x (u ∷ us) i; from = split })
  where
    split : (y : Ty) → In y (x ∷ u ∷ us) → (y ≡ x) ⊎ In y (u ∷ us)
    split y (first z zs d) = inl d
    split y (later z zs i) = inr i
place_at Tied x u us e o r = (u ∷ us, record { ordered = o; new = first u us (tied x u e); old = λ y i. i; from = λ y i. inr i })
place_at Greater x u us e o r =
    let vs = r.0 in
    let p = r.1 in
    let l : term_cmp u x ≡ Less = term_order.antisymm u x ∙ ap ordering_reverse e in (
      u ∷ vs,
      record {
        ordered = (ascending_in u vs (λ y i. elim (p.from y i) [ inl d ↦ ap (term_cmp u) d ∙ l | inr j ↦ less_all u y us o.0 j ]), p.ordered);
        new = later u vs p.new;
        old = old_in vs p;
        from = split vs p;
      },
    )
  where
    old_in : (vs : List Ty) → Placed x us vs → (y : Ty) → In y (u ∷ us) → In y (u ∷ vs)
    old_in vs p y (first z zs d) = first u vs d
    old_in vs p y (later z zs i) = later u vs (p.old y i)

    split : (vs : List Ty) → Placed x us vs → (y : Ty) → In y (u ∷ vs) → (y ≡ x) ⊎ In y (u ∷ us)
    split vs p y (first z zs d) = inr (first u us d)
    split vs p y (later z zs i) = elim (p.from y i) [ inl d ↦ inl d | inr j ↦ inr (later u us j) ]

from_one : (x y : Ty) → In y (x ∷ []) → (y ≡ x) ⊎ In y []
from_one x y (first z zs e) = inl e
from_one x y (later z zs i) = inr i

place : (x : Ty) (us : List Ty) → Ordered us → (vs : List Ty) × Placed x us vs
place x [] o = (x ∷ [], record { ordered = (tt, tt); new = first x [] refl; old = λ y i. elim i [ ]; from = from_one x })
place x (u ∷ us) o = place_at (term_cmp x u) x u us refl o (place x us o.1)

pub record Sorted (ks vs : List Ty) : Type 0 where
  pub ordered : Ordered vs
  pub onto : (y : Ty) → In y ks → In y vs
  pub into : (y : Ty) → In y vs → In y ks

sort : (ks : List Ty) → (vs : List Ty) × Sorted ks vs
sort [] = ([], record { ordered = tt; onto = λ y i. i; into = λ y i. i })
sort (k ∷ ks) =
    let r = sort ks in
    let q = place k r.0 r.1.ordered in
    (q.0, record { ordered = q.1.ordered; onto = onto_all r.0 r.1 q.0 q.1; into = λ y i. elim (q.1.from y i) [ inl d ↦ first k ks d | inr j ↦ later k ks (r.1.into y j) ] })
  where
    onto_all : (us : List Ty) → Sorted ks us → (vs : List Ty) → Placed k us vs → (y : Ty) → In y (k ∷ ks) → In y vs
    onto_all us s vs p y (first z zs d) = subst (λ w. In w vs) (sym d) p.new
    onto_all us s vs p y (later z zs i) = p.old y (s.onto y i)

-- REDUCED
pub record IsFull (n : Table) (c : Ty) : Type 0 where
  pub normal : IsNormal n c
  pub single : is_single c ≡ true

module _ (ds : List Decl) (declared : Declared ds) where
  abbrev n : Table
  n = table_of ds

  law : Lawful n
  law = declared_lawful ds declared

  abbrev B : Ty → Ty → Type 0
  B = Below n opaque

  below_or : (l u : Ty) → IsFull n l → IsFull n u → Decided (B l u)
  below_or l u h g = above ds declared u g.normal l h.normal h.single

  -- each is below no other
  abbrev Sep : List Ty → Type 0
  Sep ks = (x y : Ty) → In x ks → In y ks → B x y → x ≡ y

  record Thin (c : Ty) (ks us : List Ty) : Type 0 where
    from : (x : Ty) → In x us → In x ks
    away : (x : Ty) → In x us → B x c → ⊥
    rest : (x : Ty) → In x ks → In x us ⊎ B x c

  thin : (c : Ty) (ks : List Ty) → IsFull n c → Each (IsFull n) ks → (us : List Ty) × Thin c ks us
  thin c [] h g = ([], record { from = λ x i. i; away = λ x i. elim i [ ]; rest = λ x i. inl i })
  thin c (k ∷ ks) h g = let r = thin c ks h g.1 in elim (below_or k c g.0 h) [ inl b ↦ drop_it r.0 r.1 b | inr d ↦ keep_it r.0 r.1 d ]
    where
      drop_it : (us : List Ty) → Thin c ks us → B k c → (vs : List Ty) × Thin c (k ∷ ks) vs
      drop_it us t b = (us, record { from = λ x i. later k ks (t.from x i); away = t.away; rest = rest_of })
        where
          rest_of : (x : Ty) → In x (k ∷ ks) → In x us ⊎ B x c
          rest_of x (first z zs e) = inr (subst (λ w. B w c) (sym e) b)
          rest_of x (later z zs i) = t.rest x i

      keep_it : (us : List Ty) → Thin c ks us → (B k c → ⊥) → (vs : List Ty) × Thin c (k ∷ ks) vs
      keep_it us t d = (k ∷ us, record { from = from_of; away = away_of; rest = rest_of })
        where
          from_of : (x : Ty) → In x (k ∷ us) → In x (k ∷ ks)
          from_of x (first z zs e) = first k ks e
          from_of x (later z zs i) = later k ks (t.from x i)

          away_of : (x : Ty) → In x (k ∷ us) → B x c → ⊥
          away_of x (first z zs e) b = d (subst (λ w. B w c) e b)
          away_of x (later z zs i) b = t.away x i b

          rest_of : (x : Ty) → In x (k ∷ ks) → In x (k ∷ us) ⊎ B x c
          rest_of x (first z zs e) = inl (first k us e)
          rest_of x (later z zs i) = elim (t.rest x i) [ inl j ↦ inl (later k us j) | inr b ↦ inr b ]

  record Left (cs ks : List Ty) : Type 0 where
    from : (x : Ty) → In x ks → In x cs
    covers : (x : Ty) → In x cs → BelowSome n x ks
    sep : Sep ks

  some_or : (x : Ty) (ks : List Ty) → IsFull n x → Each (IsFull n) ks → Decided (BelowSome n x ks)
  some_or x [] h g = inr (λ b. b)
  some_or x (k ∷ ks) h g = elim (below_or x k h g.0) [
    | inl b ↦ inl (inl b)
    | inr d ↦ elim (some_or x ks h g.1) [ inl c ↦ inl (inr c) | inr e ↦ inr (λ s. elim s [ inl b ↦ d b | inr c ↦ e c ]) ]
  ]

  each_from : (ks : List Ty) → ((x : Ty) → In x ks → IsFull n x) → Each (IsFull n) ks
  each_from [] f = tt
  each_from (k ∷ ks) f = (f k (first k ks refl), each_from ks (λ x i. f x (later k ks i)))

  reduce : (cs : List Ty) → Each (IsFull n) cs → (ks : List Ty) × Left cs ks
  reduce [] h = ([], record { from = λ x i. i; covers = λ x i. elim i [ ]; sep = λ x y i. elim i [ ] })
  reduce (c ∷ cs) h =
      let r = reduce cs h.1 in
      let full = each_from r.0 (λ x i. each_in (IsFull n) x cs h.1 (r.1.from x i)) in
      elim (some_or c r.0 h.0 full) [ inl s ↦ covered r.0 r.1 s | inr d ↦ (let t = thin c r.0 h.0 full in added r.0 r.1 d t.0 t.1) ]
    where
      covered : (ks : List Ty) → Left cs ks → BelowSome n c ks → (us : List Ty) × Left (c ∷ cs) us
      covered ks l s = (ks, record { from = λ x i. later c cs (l.from x i); covers = cover; sep = l.sep })
        where
          cover : (x : Ty) → In x (c ∷ cs) → BelowSome n x ks
          cover x (first z zs e) = subst (λ w. BelowSome n w ks) (sym e) s
          cover x (later z zs i) = l.covers x i

      added : (ks : List Ty) → Left cs ks → (BelowSome n c ks → ⊥) → (us : List Ty) → Thin c ks us → (vs : List Ty) × Left (c ∷ cs) vs
      added ks l d us t = (c ∷ us, record { from = from_of; covers = cover; sep = sep_of })
        where
          from_of : (x : Ty) → In x (c ∷ us) → In x (c ∷ cs)
          from_of x (first z zs e) = first c cs e
          from_of x (later z zs i) = later c cs (l.from x (t.from x i))

          through : (x : Ty) → (k : Ty) × In k ks × B x k → BelowSome n x (c ∷ us)
          through x r = elim (t.rest r.0 r.1) [ inl j ↦ inr (below_in n x r.0 us j r.2) | inr b ↦ inl (below_trans n law x r.0 c r.2 b) ]

          cover : (x : Ty) → In x (c ∷ cs) → BelowSome n x (c ∷ us)
          cover x (first z zs e) = inl (subst (B x) e (below_self n x))
          cover x (later z zs i) = through x (some_in n x ks (l.covers x i))

          sep_of : (x y : Ty) → In x (c ∷ us) → In y (c ∷ us) → B x y → x ≡ y
          sep_of x y (first z zs e) (first w ws f) b = e ∙ sym f
          sep_of x y (first z zs e) (later w ws j) b = absurd (d (below_in n c y ks (t.from y j) (subst (λ q. B q y) e b)))
          sep_of x y (later z zs i) (first w ws f) b = absurd (t.away x i (subst (B x) f b))
          sep_of x y (later z zs i) (later w ws j) b = l.sep x y (t.from x i) (t.from y j) b

  -- THE NORMAL FORM
  one_or : (vs : List Ty) → ((v : Ty) × (vs ≡ v ∷ [])) ⊎ (length vs ≡ 1 → ⊥)
  one_or [] = inr (λ e. absurd (omega arith))
  one_or (v ∷ []) = inl (v, refl)
  one_or (v ∷ w ∷ vs) = inr (λ e. absurd (omega arith))

  singles : (us : List Ty) → Each (IsFull n) us → list_all is_single us ≡ true
  singles [] h = refl
  singles (u ∷ us) h = both_true (is_single u) (list_all is_single us) h.0.single (singles us h.1)

  normals : (us : List Ty) → Each (IsFull n) us → AllNormal n us
  normals [] h = no_normal
  normals (u ∷ us) h = more_normal u us h.0.normal (normals us h.1)

  full_normals : (ts us : List Ty) → Both (Full ds) ts us → AllNormal n us
  full_normals ts us both_end = no_normal
  full_normals ts us (both_more t u vs ws p b) = more_normal u ws p.form.normal (full_normals vs ws b)

  full_grow : Grows (Full ds) (IsFull n)
  full_grow = record {
    any = record { normal = normal_any W.Any outs-Any; single = ap no_union outs-Any };
    var = λ v. record { normal = normal_var (W.Var v) v (outs-Var v); single = ap no_union (outs-Var v) };
    nominal = λ k ts us b. record { normal = normal_nominal (V.Nominal k us) k us (outs-Nominal k us) (full_normals ts us b); single = ap no_union (outs-Nominal k us) };
    tuple = λ us h. record { normal = normal_tuple (V.Tuple us) us (outs-Tuple us) (normals us h) (singles us h); single = ap no_union (outs-Tuple us) };
  }

  full_equal : (t u : Ty) → Full ds t u → Equal n t u
  full_equal t u f = f.form.equal

  module _ (t s : Ty) (settles : Settles (Full ds) t s) (ks vs : List Ty) (left : Left (alts s) ks) (sorted : Sorted ks vs) where
    good : Each (IsFull n) (alts s)
    good = settles_good n (Full ds) full_equal (IsFull n) full_grow t s settles

    from : (x : Ty) → In x vs → In x (alts s)
    from x i = left.from x (sorted.into x i)

    full : (x : Ty) → In x (alts s) → IsFull n x
    full x i = each_in (IsFull n) x (alts s) good i

    single : (x : Ty) → In x (alts s) → alts x ≡ x ∷ []
    single x i = let f = full x i in single_alts n x f.normal f.single

    over : (x : Ty) → (k : Ty) × In k ks × B x k → BelowSome n x vs
    over x r = below_in n x r.0 vs (sorted.onto r.0 r.1) r.2

    equal : Equal n t (V.Union vs)
    equal = equal_trans n law t s (V.Union vs) (settles_equal n (Full ds) full_equal (IsFull n) full_grow t s settles)
        (union_equal n law s (alts s) vs refl single from (λ x i. over x (some_in n x ks (left.covers x i))))

    passes : (p : Ty → Bool) → IsOfParts p → p t ≡ true → (x : Ty) → In x vs → p x ≡ true
    passes p h f x i = each_in (λ z. p z ≡ true) x (alts s) (alts_pass p h s (settles_pass (Full ds) p h (λ a b g. g.kept p h) t s settles f)) (from x i)

    as_one : (v : Ty) → vs ≡ v ∷ [] → Full ds t v
    as_one v e =
        let i : In v vs = subst (In v) (sym e) (first v [] refl) in
        let a : alts (V.Union vs) ≡ alts v = ap (λ z. alts (V.Union z)) e ∙ alts-union (v ∷ []) ∙ append-nil (alts v) in
        record {
          form = record { normal = (full v (from v i)).normal; equal = equal_trans n law t (V.Union vs) v equal (alike n (V.Union vs) v a, alike n v (V.Union vs) (sym a)) };
          kept = λ p h f. passes p h f v i;
        }

    as_union : (length vs ≡ 1 → ⊥) → Full ds t (V.Union vs)
    as_union l = record {
      form = record {
        normal = ordered_normal n vs (normal_from n vs (λ x i. (full x (from x i)).normal)) (all_from is_single vs (λ x i. (full x (from x i)).single)) sorted.ordered
            (λ x y i j b. left.sep x y (sorted.into x i) (sorted.into y j) b) l;
        equal = equal;
      };
      kept = λ p h f. h.union_is vs ∙ all_from p vs (passes p h f);
    }

  full_of : (t s : Ty) → Settles (Full ds) t s → (u : Ty) × Full ds t u
  full_of t s h =
      let r = reduce (alts s) (settles_good n (Full ds) full_equal (IsFull n) full_grow t s h) in
      let q = sort r.0 in
      elim (one_or q.0) [ inl w ↦ (w.0, as_one t s h r.0 q.0 r.1 q.1 w.0 w.1) | inr l ↦ (V.Union q.0, as_union t s h r.0 q.0 r.1 q.1 l) ]

  -- the arguments in normal form, through the whole type
  abbrev HasSettled : Ty → Type 0
  HasSettled t = (s : Ty) × Settles (Full ds) t s

  settled_all : (ts : List Ty) → Each HasSettled ts → (us : List Ty) × AllSettle (Full ds) ts us
  settled_all [] h = ([], none)
  settled_all (t ∷ ts) h = let r = settled_all ts h.1 in (h.0.0 ∷ r.0, more t h.0.0 ts r.0 h.0.1 r.1)

  full_all : (ts : List Ty) → Each HasSettled ts → (us : List Ty) × Both (Full ds) ts us
  full_all [] h = ([], both_end)
  full_all (t ∷ ts) h = let q = full_of t h.0.0 h.0.1 in let r = full_all ts h.1 in (q.0 ∷ r.0, both_more t q.0 ts r.0 q.1 r.1)

  has_settled : (t : Ty) → HasSettled t
  has_settled = by_cases HasSettled (record {
    any = (W.Any, any W.Any outs-Any);
    union = λ ts h. let r = settled_all ts h in (V.Union r.0, union (V.Union ts) (V.Union r.0) ts r.0 (outs-Union ts) (outs-Union r.0) r.1);
    tuple = λ ts h. let r = settled_all ts h in (V.Tuple r.0, tuple (V.Tuple ts) (V.Tuple r.0) ts r.0 (outs-Tuple ts) (outs-Tuple r.0) r.1);
    nominal = λ k ts h. let r = full_all ts h in (V.Nominal k r.0, nominal (V.Nominal k ts) (V.Nominal k r.0) k ts r.0 (outs-Nominal k ts) (outs-Nominal k r.0) r.1);
    var = λ v. (W.Var v, var (W.Var v) v (outs-Var v));
  })

  -- every type has a normal form
  pub exists : (t : Ty) → (u : Ty) × Full ds t u
  exists t = let h = has_settled t in full_of t h.0 h.1
