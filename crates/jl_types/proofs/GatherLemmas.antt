-- The members that are left of a type's alternatives make its form.
use Rattle.std.proofs.Common.{◌≡◌, ◌∙◌, sym, ap, subst, refl, ◌<◌, ◌≤◌, arith, Bool, true, List, [], ◌∷◌, length, inl, inr, append-nil}
use Rattle.std.specs.List.Sorted.{IsPermutation, IsSorted}
use Rattle.std.proofs.lemmas.List.Sorted.{length_permutation}
use Rattle.jl_model.specs.declared.ty.Ty.{Ty}
use Rattle.jl_model.specs.declared.ty.Ty.TheViews as V
use Rattle.jl_model.specs.declared.ty.Decl.{Decl}
use Rattle.jl_model.specs.Ancestors.{table_of}
use Rattle.jl_model.specs.Rows.{alts}
use Rattle.jl_model.specs.Subtype.{Table, opaque, Below, Equal}
use Rattle.jl_model.specs.Members.{BelowSome}
use Rattle.jl_model.specs.Counts.{nodes}
use Rattle.jl_model.specs.Order.{term_cmp}
use Rattle.jl_model.specs.Normal.{IsNormal, is_single}
use Rattle.jl_model.specs.Refusals.{Declared}
use Rattle.jl_model.proofs.TypeInduction.{Each}
use Rattle.jl_model.proofs.FormLemmas.{alts-union}
use Rattle.jl_model.proofs.SelfLemmas.{below_self}
use Rattle.jl_model.proofs.TransLemmas.{equal_trans}
use Rattle.jl_model.proofs.NormalLemmas.{In, first, later, normal_same}
use Rattle.jl_model.proofs.AncestorLemmas.{Lawful}
use Rattle.jl_model.proofs.DeclaredLemmas.{declared_lawful}
use Rattle.jl_model.proofs.CountLemmas.{nodes-union}
use Rattle.jl_types.specs.Ground.{IsLower}
use Rattle.jl_types.specs.Reduce.{Candidate, Candidates, Reduces}
use Rattle.jl_types.specs.Form.{IsOfParts, Formed, Settles, AllSmall, HasLarge, Gathers, one, large, ordered}
use Rattle.jl_types.proofs.ExactLemmas.{lower_alts}
use Rattle.jl_types.proofs.ApartLemmas.{Apart, AllBelowSome, reduce_covers, reduce_apart, reduce_from}
use Rattle.jl_types.proofs.FinalLemmas.{no_small_in, apart_same, ordered_normal, nodes_in, large_left}
use Rattle.jl_types.proofs.SortLemmas.{Distinct, moved_in, moved_back, sorted_ordered}
use Rattle.jl_types.proofs.CoverLemmas.{each_in, all_from, normal_from, alike, union_inside, union_equal}
use Rattle.jl_types.proofs.SettleLemmas.{settles_equal, settles_pass}
use Rattle.jl_types.proofs.FormedLemmas.{IsFit, lower_single, formed_equal, fits_grow}
use Rattle.jl_types.proofs.KeptLemmas.{alts_pass}
use Rattle.jl_types.proofs.NarrowLemmas.{reduce_short, member_narrow, members_narrow}

-- members of lists
candidate_in : (ds : List Decl) (x : Ty) (cs : List Ty) → Candidates ds cs → In x cs → Candidate ds x
candidate_in ds x cs h (first y ys e) = subst (Candidate ds) (sym e) h.0
candidate_in ds x cs h (later y ys i) = candidate_in ds x ys h.1 i

small_in : (x : Ty) (ks : List Ty) → AllSmall ks → In x ks → nodes x ≤ 1024
small_in x ks h (first y ys e) = let f : nodes x ≡ nodes y = ap nodes e in let g = h.0 in omega arith
small_in x ks h (later y ys i) = small_in x ys h.1 i

large_in : (ks : List Ty) → HasLarge ks → (x : Ty) × In x ks × (1024 < nodes x)
large_in [] h = absurd h
large_in (k ∷ ks) (inl l) = (k, first k ks refl, l)
large_in (k ∷ ks) (inr h) = let r = large_in ks h in (r.0, later k ks r.1, r.2)

some_of : (n : Table) (x : Ty) (cs ks : List Ty) → AllBelowSome n cs ks → In x cs → BelowSome n x ks
some_of n x cs ks h (first y ys e) = subst (λ z. BelowSome n z ks) (sym e) h.0
some_of n x cs ks h (later y ys i) = some_of n x ys ks h.1 i

distinct : (n : Table) (ks : List Ty) → Apart n ks → AllSmall ks → Distinct ks
distinct n [] a s = tt
distinct n (k ∷ ks) a s = ((λ y i e. no_small_in n k y ks a.0 i (small_in y ks s.1 i) (subst (Below n opaque k) e (below_self n k))), distinct n ks a.2 s.1)

module _ (ds : List Decl) (declared : Declared ds) (t s : Ty) (settles : Settles (Formed ds) t s) (cs ks : List Ty) (cs_is : cs ≡ alts s) (candidates : Candidates ds cs) (reduces : Reduces (table_of ds) cs [] ks) where
  abbrev n : Table
  n = table_of ds

  law : Lawful n
  law = declared_lawful ds declared

  from : (x : Ty) → In x ks → In x cs
  from x i = elim (reduce_from n law x cs [] ks reduces i) [ inl j ↦ elim j [ ] | inr j ↦ j ]

  candidate : (x : Ty) → In x ks → Candidate ds x
  candidate x i = candidate_in ds x cs candidates (from x i)

  lower : (x : Ty) → In x ks → IsLower n 1024 x
  lower x i = (candidate x i).lower.form

  apart : Apart n ks
  apart = reduce_apart n law cs [] ks reduces tt

  -- EQUAL
  single_of : (x : Ty) → In x cs → alts x ≡ x ∷ []
  single_of x i = lower_alts n 1024 x (candidate_in ds x cs candidates i).lower.form

  equal_union : Equal n t (V.Union ks)
  equal_union = equal_trans n law t s (V.Union ks) (settles_equal n (Formed ds) (formed_equal ds declared) (IsFit ds) (fits_grow ds declared) t s settles)
      (union_equal n law s cs ks cs_is single_of from (λ x i. some_of n x cs ks (reduce_covers n law cs [] ks reduces) i))

  -- KEPT
  members_pass : (p : Ty → Bool) → IsOfParts p → p t ≡ true → (x : Ty) → In x ks → p x ≡ true
  members_pass p h f x i =
      let P : Ty → Type 0 = λ z. p z ≡ true in
      each_in P x cs (subst (Each P) (sym cs_is) (alts_pass p h s (settles_pass (Formed ds) p h (λ a b g. g.kept p h) t s settles f))) (from x i)

  -- NARROW
  from_alts : (x : Ty) → In x ks → In x (alts s)
  from_alts x i = subst (In x) cs_is (from x i)

  few : length ks ≤ length (alts s)
  few = omega (arith, reduce_short n cs [] ks reduces, ap (λ z. length z) cs_is)

  equal_back : (u v : Ty) → Equal n t u → Equal n t v → Equal n u v
  equal_back u v a b = equal_trans n law u t v (a.1, a.0) b

  -- the members as one type
  formed_one : (k : Ty) → ks ≡ k ∷ [] → Formed ds t k
  formed_one k e =
      let i : In k ks = subst (In k) (sym e) (first k [] refl) in
      let a : alts (V.Union ks) ≡ alts k = ap (λ z. alts (V.Union z)) e ∙ alts-union (k ∷ []) ∙ append-nil (alts k) in
      record {
        equal = equal_trans n law t (V.Union ks) k equal_union (alike n (V.Union ks) k a, alike n k (V.Union ks) (sym a));
        normal = (candidate k i).normal;
        large = λ l v g q. large_left n law ks apart lower k v i l g (equal_back (V.Union ks) v equal_union q);
        kept = λ p h f. members_pass p h f k i;
        narrow = member_narrow ds t s settles k (from_alts k i);
      }

  formed_large : HasLarge ks → Formed ds t (V.Union ks)
  formed_large h =
      let r = large_in ks h in
      let more : 1024 < nodes (V.Union ks) = (let a = nodes_in r.0 ks r.1 in let b = r.2 in omega (arith, nodes-union ks)) in
      record {
        equal = equal_union;
        normal = λ l. absurd (omega arith);
        large = λ l v g q. large_left n law ks apart lower r.0 v r.1 r.2 g (equal_back (V.Union ks) v equal_union q);
        kept = λ p h f. h.union_is ks ∙ all_from p ks (members_pass p h f);
        narrow = members_narrow ds t s settles ks from_alts few;
      }

  formed_ordered : (us : List Ty) → (length ks ≡ 1 → ⊥) → AllSmall ks → IsPermutation ks us → IsSorted term_cmp us → Formed ds t (V.Union us)
  formed_ordered us l small p o =
      let into = moved_in ks us p in
      let onto = moved_back ks us p in
      let up : Below n opaque (V.Union ks) (V.Union us) = union_inside n ks us (λ x i. single_of x (from x i)) onto in
      let down : Below n opaque (V.Union us) (V.Union ks) = union_inside n us ks (λ x i. single_of x (from x (into x i))) into in
      let same : Equal n t (V.Union us) = equal_trans n law t (V.Union ks) (V.Union us) equal_union (up, down) in
      let long : length us ≡ length ks = length_permutation ks us p in
      let normal : IsNormal n (V.Union us) = ordered_normal n us
      (normal_from n us (λ x i. (candidate x (into x i)).normal (small_in x ks small (into x i))))
      (all_from is_single us (λ x i. lower_single n 1024 x (lower x (into x i))))
      (sorted_ordered ks us (distinct n ks apart small) p o)
      (λ x y i j b. apart_same n x y ks apart (into x i) (into y j) (small_in y ks small (into y j)) b)
      (λ e. l (sym long ∙ e)) in
      record {
        equal = same;
        normal = λ k. normal;
        large = λ k v g q. let e : V.Union us ≡ v = normal_same n law (V.Union us) normal v g (equal_back (V.Union us) v same q) in let f : nodes (V.Union us) ≡ nodes v = ap nodes e in omega arith;
        kept = λ q h f. h.union_is us ∙ all_from q us (λ x i. members_pass q h f x (into x i));
        narrow = members_narrow ds t s settles us (λ x i. from_alts x (into x i)) (omega (arith, long, few));
      }

  pub formed : (u : Ty) → Gathers ks u → Formed ds t u
  formed u (one k e) = formed_one u e
  formed u (large h) = formed_large h
  formed u (ordered us l a p o) = formed_ordered us l a p o
