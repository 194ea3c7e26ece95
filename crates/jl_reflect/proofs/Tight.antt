-- A list of ranges in which no two neighbours have one choice is the shortest.
use Rattle.std.proofs.Common.{◌≡◌, ◌∙◌, ap, sym, refl, subst, arith, ℕ, zero, suc, ◌<◌, ◌≤◌, ◌+◌, ◌-◌, List, [], ◌∷◌, length, Option, None, Some}
use Rattle.jl_model.specs.declared.ty.Key.{Key}
use Rattle.jl_program.specs.declared.choice.Choice.{Choice}
use Rattle.jl_program.specs.declared.tree.Program.{Program}
use Rattle.jl_program.specs.Prelude.{prelude_count}
use Rattle.jl_calculus.specs.declared.history.Event.{Event}
use Rattle.jl_calculus.specs.World.{world_of, Selects}
use Rattle.jl_reflect.specs.declared.ranges.Span.{Span}
use Rattle.jl_reflect.specs.Spans.{IsChosenFrom, CoverWorlds, ends, goes_on, AreSpans}

-- one number beside another
pub data Beside (m n : ℕ) : Type 0 where
  lower : m < n → Beside m n
  same : m ≡ n → Beside m n
  upper : n < m → Beside m n

up_one : (m n : ℕ) → Beside m n → Beside (suc m) (suc n)
up_one m n (lower h) = lower (omega (arith, h))
up_one m n (same h) = same (ap suc h)
up_one m n (upper h) = upper (omega (arith, h))

pub beside : (m n : ℕ) → Beside m n
beside zero zero = same refl
beside zero (suc n) = lower (omega arith)
beside (suc m) zero = upper (omega arith)
beside (suc m) (suc n) = up_one m n (beside m n)

abbrev pub span : ℕ → Option ℕ → Choice → Span
span first last c = record { first = first; last = last; choice = c }

module _ (P : Program) (es : List Event) (key : Key) where
  -- a cover of the worlds from a first one on, whose first choice is this one, and in which no two neighbours have one choice
  pub data Tight : ℕ → Choice → List Span → Type 0 where
    tight_end : (first : ℕ) (c : Choice) → first ≤ world_of es → IsChosenFrom P es key first (world_of es) c → Tight first c (span first None c ∷ [])
    tight_more : (first last : ℕ) (c d : Choice) (rest : List Span) → first ≤ last → last < world_of es → IsChosenFrom P es key first last c → (c ≡ d → ⊥) → Tight (last + 1) d rest
        → Tight first c (span first (Some last) c ∷ rest)

  pub covers : (first : ℕ) (c : Choice) (ss : List Span) → Tight first c ss → CoverWorlds P es key first ss
  covers first c ss (tight_end f c' l h) = ends first c l h
  covers first c ss (tight_more f last c' d rest l n h differ t) = goes_on first last c rest l n h (covers (last + 1) d rest t)

-- the first range of a cover reaches to a world
abbrev to_last : ℕ → Option ℕ → Type 0
to_last v None = Unit {0}
to_last v (Some last) = v ≤ last

abbrev reaches : ℕ → List Span → Type 0
reaches v [] = ⊥
reaches v (s ∷ ss) = to_last v s.last

-- a number more, and one less
pub before_after : (n : ℕ) → 0 < n → (n - 1) + 1 ≡ n
before_after zero h = absurd (omega (arith, h))
before_after (suc n) h = omega arith

module _ (P : Program) (es : List Event) (key : Key) (one : (w : ℕ) (c d : Choice) → Selects P es key.function key.types w c → Selects P es key.function key.types w d → c ≡ d) where
  head_chosen : (first : ℕ) (c : Choice) (ss : List Span) → Tight P es key first c ss → Selects P es key.function key.types first c
  head_chosen first c ss (tight_end f c' l h) = h first (omega arith) l
  head_chosen first c ss (tight_more f last c' d rest l n h differ t) = h first (omega arith) l

  head_reaches : (first : ℕ) (c : Choice) (ss : List Span) → Tight P es key first c ss → reaches first ss
  head_reaches first c ss (tight_end f c' l h) = tt
  head_reaches first c ss (tight_more f last c' d rest l n h differ t) = l

  -- the first choice is that of each world that the first range reaches
  reached : (first : ℕ) (c : Choice) (ss : List Span) → Tight P es key first c ss → (v : ℕ) → first ≤ v → v ≤ world_of es → reaches v ss → Selects P es key.function key.types v c
  reached first c ss (tight_end f c' l h) v low high r = h v low high
  reached first c ss (tight_more f last c' d rest l n h differ t) v low high r = h v low r

  some_long : (v : ℕ) (os : List Span) → CoverWorlds P es key v os → 1 ≤ length os
  some_long v os (ends f c l h) = omega arith
  some_long v os (goes_on f last c rest l n h t) = omega arith

  -- no cover has a range over the end of one of a tight cover
  no_further : (first last : ℕ) (c d : Choice) (rest : List Span) → first ≤ last → last < world_of es → IsChosenFrom P es key first last c → (c ≡ d → ⊥) → Tight P es key (last + 1) d rest
      → (v m : ℕ) (o : Choice) → first ≤ v → v ≤ last → last < m → IsChosenFrom P es key v m o → ⊥
  no_further first last c d rest l n h differ t v m o low high past k =
      differ (one last c o (h last l (omega arith)) (k last high (omega (arith, past))) ∙ sym (one (last + 1) d o (head_chosen (last + 1) d rest t) (k (last + 1) (omega (arith, high)) (omega (arith, past)))))

  pub tight_shortest : (v : ℕ) (os : List Span) → CoverWorlds P es key v os → (first : ℕ) (c : Choice) (ss : List Span) → Tight P es key first c ss → first ≤ v → reaches v ss → length ss ≤ length os
  tight_shortest v os (ends f o l k) first c ss (tight_end f' c' l' h) low r = omega arith
  tight_shortest v os (ends f o l k) first c ss (tight_more f' last c' d rest l' n h differ t) low r =
      absurd (no_further first last c d rest l' n h differ t v (world_of es) o low r n k)
  tight_shortest v os (goes_on f m o more l n k t) first c ss (tight_end f' c' l' h) low r = omega arith
  tight_shortest v os (goes_on f m o more l n k t) first c ss (tight_more f' last c' d rest l' n' h differ u) low r =
      by (beside m last) (λ x. tight_shortest (m + 1) more t first c ss (tight_more f' last c' d rest l' n' h differ u) (omega (arith, low, l)) (omega (arith, x)))
      (λ x. tight_shortest (m + 1) more t (last + 1) d rest u (omega (arith, x)) (subst (λ z. reaches (z + 1) rest) (sym x) (head_reaches (last + 1) d rest u)))
    where
      by : Beside m last → (m < last → length ss ≤ length more) → (m ≡ last → length rest ≤ length more) → suc (length rest) ≤ suc (length more)
      by (lower x) inside at = let z = inside x in omega (arith, z)
      by (same x) inside at = let z = at x in omega (arith, z)
      by (upper x) inside at = absurd (no_further first last c d rest l' n' h differ u v m o low r x k)

  pub tight_are : (c : Choice) (ss : List Span) → Tight P es key prelude_count c ss → AreSpans P es key ss
  tight_are c ss t = record {
    covers = covers P es key prelude_count c ss t;
    shortest = λ os k. tight_shortest prelude_count os k prelude_count c ss t (omega arith) (head_reaches prelude_count c ss t);
  }
