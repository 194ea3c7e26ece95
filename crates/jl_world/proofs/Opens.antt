-- The words at the start keep the rule.
use Rattle.std.proofs.Common.{◌≡◌, ℕ, zero, suc, ◌*◌, ◌≤◌, max, List, [], ◌∷◌, length, replicate, refl, sym, ap, ◌∙◌, subst, arith, None}
use Rattle.std.proofs.lemmas.List.{length-set, get_or-set_same, get_or-set_other}
use Rattle.std.specs.Prelude.{slice_index, slice_set}
use mathlib.Core.Option.{some, some-injective, some-ne-none}
use lib.ListN.{get_elem?}
use Rattle.atomic_table.specs.Table.{opening}
use Rattle.jl_program.specs.declared.tree.Program.{Program}
use Rattle.jl_calculus.specs.declared.history.Event.{Event}
use Rattle.jl_calculus.specs.Legal.{MayStand}
use Rattle.jl_world.specs.declared.about.About.{About}
use Rattle.jl_world.specs.declared.view.View.{View}
use Rattle.jl_world.specs.Opening.{first_words}
use Rattle.jl_world.specs.Places.{HasPlaces, head_place}
use Rattle.jl_world.specs.Rule.{Now, Words, SeatIs, Holds, first_events, first_view}
use Rattle.jl_world.specs.Views.{Fits, begun}
use Rattle.jl_world.proofs.Growth.{begins_self, still_true}
use Rattle.jl_world.proofs.Lists.{contains_none}

zeros : (n i : ℕ) → slice_index (replicate n 0) i ≡ 0
zeros zero i = refl
zeros (suc n) zero = refl
zeros (suc n) (suc i) = zeros n i

long : (n : ℕ) → length (replicate {A = ℕ} n 0) ≡ n
long zero = refl
long (suc n) = ap suc (long n)

module _ (about : About) (fuel : about.fuel ≤ 1000000000) (places : HasPlaces about) where
  abbrev P : Program
  P = about.program.value

  abbrev es : List Event
  es = first_events about

  abbrev now : Now
  now = record { events = es; cut = []; stored = [] }

  abbrev count : ℕ
  count = max about.keys about.rows

  first_stands : MayStand P es
  first_stands = record { begun = refl; come = (record { nothing_before = refl; allowed = fuel }, tt) }

  words_ok : Words about now (first_words count)
  words_ok =
      let n : ℕ = 8 * count in
      let zs : List ℕ = replicate n 0 in
      let one : List ℕ = slice_set zs 0 4294967310 in
      let l : length one ≡ n = length-set zs 0 4294967310 ∙ long n in
      record {
        places = places;
        wide = length-set one 1 1 ∙ l;
        world = get_or-set_other one 1 0 1 0 (λ x. omega (arith, x)) ∙ get_or-set_same zs 0 4294967310 0 (omega (arith, long n, places));
        notes = get_or-set_same one 1 1 0 (omega (arith, l, places));
        heads = λ k lt. get_or-set_other one 1 (head_place k) 1 0 (λ x. omega (arith, x)) ∙ get_or-set_other zs 0 (head_place k) 4294967310 0 (λ x. omega (arith, x)) ∙ zeros n (head_place k);
        rows = λ r lt. absurd (omega (arith, lt));
        tops = λ r lt. absurd (omega (arith, lt));
        cut = λ r c. absurd (contains_none r c);
        loose = λ r w v free is. absurd cc;
      }

  root : Fits P es (begun 0 None es)
  root = record {
    prefix = begins_self es;
    stand = first_stands;
    learnt = still_true P es es (begins_self es);
    own = record { running = record { begun = refl; started = omega arith; going = refl }; start = refl; fuel = refl; own = refl; starts = refl };
  }

  only : (j : ℕ) (v : View) → get_elem? (first_view about ∷ []) j ≡ some v → SeatIs P now 0 j v
  only zero v e = subst (SeatIs P now 0 0) (some-injective _ _ e) (record { whole = (refl, refl, refl, refl); fits = (root, tt); once = ((λ t is x. x), tt) })
  only (suc j) v e = absurd (some-ne-none v (sym e))

  both_first : (j k : ℕ) (v w : View) → get_elem? (first_view about ∷ []) j ≡ some v → get_elem? (first_view about ∷ []) k ≡ some w → j ≡ k
  both_first zero zero v w ev ew = refl
  both_first (suc j) k v w ev ew = absurd (some-ne-none v (sym ev))
  both_first zero (suc k) v w ev ew = absurd (some-ne-none w (sym ew))

  pub opens : Holds about (opening (first_words count) [] (first_view about))
  opens = (
    now,
    0,
    record {
      history = record { stand = first_stands; fuel = refl; few = (omega (arith), omega (arith), omega arith); narrow = tt };
      words = words_ok;
      seats = only;
      one_seat = λ t j k v w ev ew hv hw. both_first j k v w ev ew;
    },
  )
