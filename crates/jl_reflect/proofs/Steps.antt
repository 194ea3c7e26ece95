-- The steps of the loop that makes the list.
use Rattle.std.proofs.Common.{◌≡◌, ◌∙◌, ap, sym, subst, arith, ℕ, ◌<◌, ◌≤◌, ◌+◌, ◌-◌, List, [], ◌∷◌, ◌++◌, length, get_or, append_assoc, None, Some}
use Rattle.std.specs.List.{All}
use Rattle.std.specs.List.Sorted.{IsStrictlyIncreasing}
use Rattle.std.proofs.lemmas.List.Elements.{All-get_or}
use Rattle.std.proofs.lemmas.List.Kept.{AllPairs-from_increasing}
use Rattle.jl_model.specs.declared.ty.Key.{Key}
use Rattle.jl_program.specs.declared.choice.Choice.{Choice}
use Rattle.jl_program.specs.declared.tree.Program.{Program}
use Rattle.jl_program.specs.Prelude.{prelude_count}
use Rattle.jl_calculus.specs.declared.history.Event.{Event}
use Rattle.jl_calculus.specs.World.{world_of, Selects}
use Rattle.jl_reflect.specs.declared.ranges.Span.{Span}
use Rattle.jl_reflect.specs.Spans.{IsChosenFrom, AreSpans}
use Rattle.jl_reflect.proofs.Tight.{span, Beside, lower, same, upper, beside, before_after, Tight, tight_end, tight_more, tight_are}

abbrev pub ChosenAt : Program → List Event → Key → ℕ → Choice → Type 0
ChosenAt P es key w c = Selects P es key.function key.types w c

-- the choice among the definitions of so many of these worlds is that of each world from the last of them to just before the next
abbrev pub IsConstantBefore : (ℕ → Choice → Type 0) → List ℕ → ℕ → Choice → Type 0
IsConstantBefore S touching count c =
    (w : ℕ) → prelude_count ≤ w → ((i : ℕ) → i < count → get_or touching i 0 ≤ w) → ((i : ℕ) → count ≤ i → i < length touching → w < get_or touching i 0) → S w c

module _ (P : Program) (es : List Event) (key : Key) (touching : List ℕ) where
  -- a world is below those from a place on
  abbrev IsBelow : ℕ → ℕ → Type 0
  IsBelow w i = (j : ℕ) → i ≤ j → j < length touching → w < get_or touching j 0

  -- what the loop keeps
  pub record Built (spans : List Span) (first : ℕ) (c : Choice) (i : ℕ) : Type 0 where
    pub goes_on : (rest : List Span) → Tight P es key first c rest → (d : Choice) × Tight P es key prelude_count d (spans ++ rest)
    pub chosen : (w : ℕ) → first ≤ w → IsBelow w i → ChosenAt P es key w c
    pub low : first ≤ world_of es
    pub under : IsBelow first i

module _ (P : Program) (es : List Event) (key : Key) (touching : List ℕ) (there : prelude_count ≤ world_of es) (ordered : IsStrictlyIncreasing touching) (within : All (λ w. (prelude_count < w) × (w ≤ world_of es)) touching) where
  later : (i j : ℕ) → i < j → j < length touching → get_or touching i 0 < get_or touching j 0
  later i j lt m = AllPairs-from_increasing touching ordered i j 0 lt m

  at : (i : ℕ) → i < length touching → (prelude_count < get_or touching i 0) × (get_or touching i 0 ≤ world_of es)
  at i lt = All-get_or (λ w. (prelude_count < w) × (w ≤ world_of es)) touching i 0 lt within

  pub one_before : (i : ℕ) → i < length touching → (get_or touching i 0 - 1) + 1 ≡ get_or touching i 0
  one_before i lt = let z = (at i lt).0 in before_after (get_or touching i 0) (omega (arith, z))

  pub starts : (c : Choice) → IsConstantBefore (ChosenAt P es key) touching 0 c → Built P es key touching [] prelude_count c 0
  starts c h = record {
    goes_on = λ rest t. (c, t);
    chosen = λ w l below. h w l (λ i lt. absurd (omega (arith, lt))) (λ i ge lt. below i ge lt);
    low = there;
    under = λ j ge lt. (at j lt).0;
  }

  -- a choice in the worlds from the one at a place on
  from_place : (i : ℕ) → i < length touching → (next : Choice) → IsConstantBefore (ChosenAt P es key) touching (i + 1) next → (w : ℕ) → get_or touching i 0 ≤ w → IsBelow P es key touching w (i + 1) → ChosenAt P es key w next
  from_place i lt next h w l below = h w (let z = (at i lt).0 in omega (arith, z, l)) (λ k less. by k (beside k i) less) below
    where
      by : (k : ℕ) → Beside k i → k < i + 1 → get_or touching k 0 ≤ w
      by k (lower x) less = let z = later k i x lt in omega (arith, z, l)
      by k (same x) less = subst (λ n. get_or touching n 0 ≤ w) (sym x) l
      by k (upper x) less = absurd (omega (arith, x, less))

  pub stays : (spans : List Span) (first : ℕ) (c : Choice) (i : ℕ) → Built P es key touching spans first c i → i < length touching → (next : Choice) → IsConstantBefore (ChosenAt P es key) touching (i + 1) next → next ≡ c
      → Built P es key touching spans first c (i + 1)
  stays spans first c i b lt next h e = record {
    goes_on = b.goes_on;
    chosen = λ w l below. by w l below (beside w (get_or touching i 0));
    low = b.low;
    under = λ j ge less. b.under j (omega (arith, ge)) less;
  }
    where
      all_below : (w : ℕ) → w < get_or touching i 0 → IsBelow P es key touching w (i + 1) → (j : ℕ) → Beside i j → i ≤ j → j < length touching → w < get_or touching j 0
      all_below w x below j (lower y) ge less = below j (omega (arith, y)) less
      all_below w x below j (same y) ge less = subst (λ n. w < get_or touching n 0) y x
      all_below w x below j (upper y) ge less = absurd (omega (arith, y, ge))

      by : (w : ℕ) → first ≤ w → IsBelow P es key touching w (i + 1) → Beside w (get_or touching i 0) → ChosenAt P es key w c
      by w l below (lower x) = b.chosen w l (λ j ge less. all_below w x below j (beside i j) ge less)
      by w l below (same x) = subst (ChosenAt P es key w) e (from_place i lt next h w (omega (arith, x)) below)
      by w l below (upper x) = subst (ChosenAt P es key w) e (from_place i lt next h w (omega (arith, x)) below)

  pub goes_further : (spans : List Span) (first : ℕ) (c : Choice) (i : ℕ) → Built P es key touching spans first c i → i < length touching → (next : Choice) → IsConstantBefore (ChosenAt P es key) touching (i + 1) next
      → (next ≡ c → ⊥) → (last : ℕ) → last + 1 ≡ get_or touching i 0 → (more : List Span) → more ≡ spans ++ span first (Some last) c ∷ [] → Built P es key touching more (get_or touching i 0) next (i + 1)
  goes_further spans first c i b lt next h differ last e more m = record {
    goes_on = λ rest t. by rest (b.goes_on (span first (Some last) c ∷ rest) (tight_more first last c next rest low high inside (λ x. differ (sym x)) (subst (λ n. Tight P es key n next rest) (sym e) t)));
    chosen = λ w l below. from_place i lt next h w l below;
    low = (at i lt).1;
    under = λ j ge less. later i j (omega (arith, ge)) less;
  }
    where
      low : first ≤ last
      low = let z = b.under i (omega arith) lt in omega (arith, z, e)

      high : last < world_of es
      high = let z = (at i lt).1 in omega (arith, z, e)

      below : (w : ℕ) → w ≤ last → (j : ℕ) → Beside i j → i ≤ j → j < length touching → w < get_or touching j 0
      below w k j (lower y) ge less = let z = later i j y less in omega (arith, z, k, e)
      below w k j (same y) ge less = subst (λ n. w < get_or touching n 0) y (omega (arith, k, e))
      below w k j (upper y) ge less = absurd (omega (arith, y, ge))

      inside : IsChosenFrom P es key first last c
      inside w l k = b.chosen w l (λ j ge less. below w k j (beside i j) ge less)

      by : (rest : List Span) → (d : Choice) × Tight P es key prelude_count d (spans ++ span first (Some last) c ∷ rest) → (d : Choice) × Tight P es key prelude_count d (more ++ rest)
      by rest (d, t) = (d, subst (Tight P es key prelude_count d) (sym (ap (λ ss. ss ++ rest) m ∙ append_assoc spans (span first (Some last) c ∷ []) rest)) t)

  pub ends_so : (one : (w : ℕ) (c d : Choice) → ChosenAt P es key w c → ChosenAt P es key w d → c ≡ d) (spans : List Span) (first : ℕ) (c : Choice) (i : ℕ) → Built P es key touching spans first c i → length touching ≤ i
      → (all : List Span) → all ≡ spans ++ span first None c ∷ [] → AreSpans P es key all
  ends_so one spans first c i b over all m =
      let (d, t) = b.goes_on (span first None c ∷ []) (tight_end first c b.low (λ w l k. b.chosen w l (λ j ge less. absurd (omega (arith, over, ge, less))))) in
      tight_are P es key one d all (subst (Tight P es key prelude_count d) (sym m) t)
