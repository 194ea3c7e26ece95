-- What a fill makes.
use Rattle.std.proofs.Common.{◌≡◌, ◌∙◌, sym, subst, ℕ, ◌+◌, ◌≤◌, arith, List, [], ◌∷◌, ◌++◌, map, length, slice_get, Option, None, Some}
use Rattle.jl_model.specs.declared.ty.Key.{Key}
use Rattle.jl_program.specs.declared.choice.Choice.TheVariants as Ch
use Rattle.jl_program.specs.declared.tree.Program.{Program}
use Rattle.jl_calculus.specs.declared.history.Event.TheVariants as Ev
use Rattle.jl_calculus.specs.declared.step.Step.TheVariants as St
use Rattle.jl_calculus.specs.Core as C
use Rattle.jl_calculus.specs.Kept.{Places}
use Rattle.jl_calculus.specs.Legal.{IsKeyOf}
use Rattle.jl_calculus.specs.Ranges.{keys_of}
use Rattle.jl_calculus.specs.Words.{link_of}
use Rattle.jl_calculus.specs.World.{world_of, Selects}
use Rattle.jl_calculus.proofs.BetweenLemmas.{row_made}
use Rattle.jl_calculus.proofs.GrowthLemmas.{first_at_most}
use Rattle.jl_core.specs.declared.range.Range.{Range}
use Rattle.jl_core.specs.declared.words.Words.{Words}
use Rattle.jl_core.specs.Flags.{IsRange, IsRangeOrNone}
use Rattle.jl_core.specs.Kept.{AreWords, Keeps}
use Rattle.jl_core.specs.View.{row_of}
use Rattle.jl_core.proofs.EventLemmas.{contains_at}
use Rattle.jl_core.proofs.KeepLemmas.{core_same, next}
use Rattle.jl_core.proofs.StepLemmas.{reached_sound}
use Rattle.jl_core.proofs.WordLemmas.{words_filled}

same_key : (o : Option Key) (a b : Key) → o ≡ Some a → o ≡ Some b → a ≡ b
same_key o a b h k = cc

-- the words of a new row
abbrev pub words_of : ℕ → Range → ℕ → Words
words_of number range link = record { key = number; site = range.site; first = range.first; last = range.last; next = link }

module _ (P : Program) (room : Places) (s : C.Core) (ws : List Words) (h : Keeps P room s ws) (task number w : ℕ) (k : C.CanFill P room s task number w) where
  pub fill_key : (key : Key) → slice_get (keys_of s.events) number ≡ Some key → IsKeyOf P key
  fill_key key e = (reached_sound P room s h.reached).events.proper key (contains_at (keys_of s.events) number key e)

  pub fill_high : w ≤ world_of s.events
  fill_high = omega (arith, k.seen.high, first_at_most s.events k.seen.state.seen)

  pub fill_few : world_of s.events ≤ 65535
  fill_few = (reached_sound P room s h.reached).events.few_worlds

  -- the key is there
  pub fill_named : slice_get (keys_of s.events) number ≡ None → ⊥
  fill_named e = by (slice_get (keys_of s.events) number) e k.named
    where
      by : (o : Option Key) → o ≡ None → o ≡ Some k.key → ⊥
      by o p q = cc

  -- and a method is chosen
  pub fill_chosen : (key : Key) (o : Option Range) → slice_get (keys_of s.events) number ≡ Some key → o ≡ None → IsRangeOrNone P s.events key w o → ⊥
  fill_chosen key o e n m =
      let one : k.key ≡ key = same_key (slice_get (keys_of s.events) number) k.key key k.named e in
      let (d, c) = k.choice in
      subst (IsRangeOrNone P s.events key w) n m d (subst (λ (x : Key). Selects P s.events x.function x.types w (Ch.Method d)) one c)

  pub has_filled : (key : Key) (range : Range) (t : C.Core) → slice_get (keys_of s.events) number ≡ Some key → IsRange P s.events key w range → t.events ≡ s.events ++ Ev.Fill number range.site range.first ∷ []
      → t.tasks ≡ C.at_task (C.with_seen (length s.events + 1)) task s.tasks → t.opened ≡ s.opened → C.HasFilled P s t task number w
  has_filled key range t named r p q o = record {
    key = key;
    named = named;
    site = range.site;
    first = range.first;
    right = row_made P h.reached.valid s.events key range.site range.first w (fill_key key named) r.begun r.covers r.choice;
    covers = r.covers;
    is = core_same t (C.with_event s task (Ev.Fill number range.site range.first)) p q (o ∙ k.free.closed);
  }

  pub fill_next : (key : Key) (range : Range) (t : C.Core) (link : ℕ) → slice_get (keys_of s.events) number ≡ Some key → IsRange P s.events key w range → t.events ≡ s.events ++ Ev.Fill number range.site range.first ∷ []
      → t.tasks ≡ C.at_task (C.with_seen (length s.events + 1)) task s.tasks → t.opened ≡ s.opened → link ≡ link_of number (map row_of ws) → (vs : List Words) → vs ≡ ws ++ words_of number range link ∷ [] → Keeps P room t vs
  fill_next key range t link named r p q o l vs v =
      next P room s ws h (St.Fill task number w) t vs k (has_filled key range t named r p q o)
      (subst (λ es. AreWords P es (C.cut_for t.opened) vs) (sym p)
      (subst (λ (x : Option C.Opened). AreWords P (s.events ++ Ev.Fill number range.site range.first ∷ []) (C.cut_for x) vs) (sym (o ∙ k.free.closed))
      (subst (AreWords P (s.events ++ Ev.Fill number range.site range.first ∷ []) []) (sym v)
      (words_filled P s.events ws (subst (λ (x : Option C.Opened). AreWords P s.events (C.cut_for x) ws) k.free.closed h.words_told) (words_of number range link) key named r.last l))))
