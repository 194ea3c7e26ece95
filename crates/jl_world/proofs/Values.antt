-- What is stored at an event, from the numbers that the book's seat keeps.
use Rattle.std.proofs.Common.{◌≡◌, ◌∙◌, ap, sym, subst, refl, ℕ, suc, ◌+◌, ◌*◌, ◌<◌, ◌≤◌, arith, true, nat_eq, List, [], ◌∷◌, ◌++◌, length, slice_get, length-append, Some}
use Rattle.jl_model.specs.declared.ty.Key.{Key}
use Rattle.jl_program.specs.declared.tree.Program.{Program}
use Rattle.jl_calculus.specs.declared.history.Change.{Change}
use Rattle.jl_calculus.specs.declared.history.Change.TheVariants as Ch
use Rattle.jl_calculus.specs.declared.history.Event.{Event}
use Rattle.jl_calculus.specs.declared.history.Event.TheVariants as Ev
use Rattle.jl_calculus.specs.Legal.{MayBeMade, MayCome}
use Rattle.jl_calculus.specs.Ranges.{CacheRow, rows_of}
use Rattle.jl_calculus.specs.Words.{AreAllCut, upper, is_worldly, is_noted, is_fill_of, link_of}
use Rattle.jl_calculus.specs.World.{changed, world_of, change_event}
use Rattle.jl_calculus.proofs.GrowthLemmas.{changed_append, rows_append}
use Rattle.jl_world.specs.declared.about.About.{About}
use Rattle.jl_world.specs.declared.view.BookView.{BookView}
use Rattle.jl_world.specs.Adds.{IsNote, HoldsActor, HasPlaceFor, IsReady, MayFollow, MayAdd}
use Rattle.jl_world.specs.Views.{HasTask}
use Rattle.jl_model.specs.declared.limits.TheConstants.{MOST_WORLDS}
use Rattle.jl_world.specs.Places.{notes_place, place_of, word_of}
use Rattle.jl_world.proofs.Growth.{agreed}
use Rattle.jl_world.proofs.Lists.{last_hit}
use Rattle.jl_world.proofs.Wording.{same_rows, same_world}

-- a definition or a deletion makes the next world
pub world_change : (es : List Event) (t : ℕ) (c : Change) → world_of (es ++ change_event t c ∷ []) ≡ world_of es + 1
world_change es t (Ch.Def s) = omega (arith, ap length (changed_append es (Ev.Def t s ∷ [])), length-append (changed es) (Ch.Def s ∷ []))
world_change es t (Ch.Del p) = omega (arith, ap length (changed_append es (Ev.Del t p ∷ [])), length-append (changed es) (Ch.Del p ∷ []))

pub rows_change : (es : List Event) (t : ℕ) (c : Change) → length (rows_of (es ++ change_event t c ∷ [])) ≡ length (rows_of es)
rows_change es t (Ch.Def s) = ap length (same_rows es (Ev.Def t s) refl)
rows_change es t (Ch.Del p) = ap length (same_rows es (Ev.Del t p) refl)

pub place_change : (t : ℕ) (c : Change) → place_of (change_event t c) ≡ 0
place_change t (Ch.Def s) = refl
place_change t (Ch.Del p) = refl

pub value_change : (es : List Event) (t : ℕ) (c : Change) (n w : ℕ) → n ≡ length es → w ≡ world_of es
    → (n + 1) * upper + (w + 1) ≡ word_of (change_event t c) (es ++ change_event t c ∷ [])
value_change es t (Ch.Def s) n w en ew = omega (arith, en, ew, last_hit is_worldly es (Ev.Def t s) refl, world_change es t (Ch.Def s))
value_change es t (Ch.Del p) n w en ew = omega (arith, en, ew, last_hit is_worldly es (Ev.Del t p) refl, world_change es t (Ch.Del p))

-- what `publish` asks is what the store asks
pub change_may : (about : About) (b : BookView) (t : ℕ) (c : Change) → HasTask t b.held → MayBeMade about.program.value b.events c → AreAllCut about.program.value b.events c b.cut → world_of b.events < MOST_WORLDS
    → MayAdd about b (change_event t c)
change_may about b t (Ch.Def s) held may cut room = record { holds = held; place = tt; ready = cut; narrow = tt; may = (may, room) }
change_may about b t (Ch.Del p) held may cut room = record { holds = held; place = tt; ready = cut; narrow = tt; may = (may, room) }

-- a note makes neither a world nor a row
pub record IsNoted (es : List Event) (e : Event) (n : ℕ) : Type 0 where
  pub place : place_of e ≡ notes_place
  pub value : n + 1 ≡ word_of e (es ++ e ∷ [])
  pub world : world_of (es ++ e ∷ []) ≡ world_of es
  pub rows : length (rows_of (es ++ e ∷ [])) ≡ length (rows_of es)

pub value_note : (es : List Event) (e : Event) (n : ℕ) → n ≡ length es → IsNote e → IsNoted es e n
value_note es (Ev.Begin fuel) n en note = absurd note
value_note es (Ev.Fill k s f) n en note = absurd note
value_note es (Ev.Def t s) n en note = absurd note
value_note es (Ev.Del t s) n en note = absurd note
value_note es (Ev.Key k) n en note =
    let e : Event = Ev.Key k in
    record { place = refl; value = omega (arith, en, last_hit is_noted es e refl); world = same_world es e refl; rows = ap length (same_rows es e refl) }
value_note es (Ev.Spawn t c s) n en note =
    let e : Event = Ev.Spawn t c s in
    record { place = refl; value = omega (arith, en, last_hit is_noted es e refl); world = same_world es e refl; rows = ap length (same_rows es e refl) }
value_note es (Ev.Done t r) n en note =
    let e : Event = Ev.Done t r in
    record { place = refl; value = omega (arith, en, last_hit is_noted es e refl); world = same_world es e refl; rows = ap length (same_rows es e refl) }

pub note_may : (about : About) (b : BookView) (e : Event) → IsNote e → HoldsActor b.held e → MayCome about.program.value b.events e → HasPlaceFor about b.events e → b.cut ≡ [] → MayAdd about b e
note_may about b (Ev.Begin fuel) note holds may place uncut = absurd note
note_may about b (Ev.Fill k s f) note holds may place uncut = absurd note
note_may about b (Ev.Def t s) note holds may place uncut = absurd note
note_may about b (Ev.Del t s) note holds may place uncut = absurd note
note_may about b (Ev.Key k) note holds may place uncut = record { holds = holds; place = place; ready = uncut; narrow = tt; may = may }
note_may about b (Ev.Spawn t c s) note holds may place uncut = record { holds = holds; place = place; ready = uncut; narrow = tt; may = may }
note_may about b (Ev.Done t r) note holds may place uncut = record { holds = holds; place = place; ready = uncut; narrow = tt; may = tt }

-- a fill makes the next row
pub rows_fill : (es : List Event) (k s f : ℕ) → length (rows_of (es ++ Ev.Fill k s f ∷ [])) ≡ length (rows_of es) + 1
rows_fill es k s f = ap length (rows_append es (Ev.Fill k s f ∷ [])) ∙ length-append (rows_of es) (rows_of (Ev.Fill k s f ∷ []))

pub value_fill : (es : List Event) (k s f n l : ℕ) → n ≡ length es → l ≡ length (rows_of es) → (n + 1) * upper + (l + 1) ≡ word_of (Ev.Fill k s f) (es ++ Ev.Fill k s f ∷ [])
value_fill es k s f n l en el =
    let e : Event = Ev.Fill k s f in
    let new : CacheRow = record { key = k; site = s; first = f } in
    let links : link_of k (rows_of (es ++ e ∷ [])) ≡ suc (length (rows_of es)) = ap (link_of k) (rows_append es (e ∷ [])) ∙ last_hit (λ (row : CacheRow). nat_eq row.key k) (rows_of es) new (agreed k k refl) in
    omega (arith, en, el, links, last_hit (is_fill_of k) es e (agreed k k refl))
