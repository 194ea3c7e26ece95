-- The rows of a history: each is right for its key, and which one covers a world.
use Rattle.std.proofs.Common.{◌≡◌, ◌∙◌, ap, sym, subst, refl, ℕ, zero, suc, ◌+◌, ◌<◌, ◌≤◌, ◌⊎◌, inl, inr, ⊎_elim, arith, Bool, true, false, cond, nat_eq, List, [], ◌∷◌, ◌++◌, length, take, slice_get, append-nil, length-append, Option, Some, None}
use Rattle.std.specs.List.{Contains}
use Rattle.std.proofs.lemmas.Option.{slice_get_within}
use Rattle.jl_model.specs.declared.ty.Key.{Key}
use Rattle.jl_program.specs.declared.tree.Program.{Program}
use Rattle.jl_calculus.specs.declared.history.Change.{Change}
use Rattle.jl_calculus.specs.declared.history.Event.{Event}
use Rattle.jl_calculus.specs.declared.history.Event.TheVariants as Ev
use Rattle.jl_calculus.specs.Legal.{MayCome, MayStand}
use Rattle.jl_calculus.specs.Ranges.{CacheRow, keys_of, rows_of, head_of, HeadTouches, ChangeTouches, Touches, Covers, HasNoEnd, EndsWith, MayBegin, IsRightFill}
use Rattle.jl_calculus.specs.Words.{IsLastWorld, IsLastWith, IsToCut, AreAllCut}
use Rattle.jl_calculus.specs.World.{changed, changes, world_of}
use Rattle.jl_calculus.proofs.GrowthLemmas.{get_more, get_same, keys_append, rows_append, changes_append, changes_length, world_more, touches_known, touches_on, touches_back, covers_on, covers_back}
use Rattle.jl_calculus.proofs.BetweenLemmas.{right_on}
use Rattle.jl_world.specs.Rule.{IsOpenRow}
use Rattle.jl_world.specs.Tells.{IsLastSeen}
use Rattle.jl_world.specs.Views.{Begins}
use Rattle.jl_world.proofs.Growth.{each_grow}
use Rattle.jl_world.proofs.Lists.{get_push, get_pushed, one_there, contains_none}

-- a row is right for its key
pub record IsRightRow (P : Program) (es : List Event) (row : CacheRow) : Type 0 where
  pub key : Key
  pub named : slice_get (keys_of es) row.key ≡ Some key
  pub right : IsRightFill P es key row.site row.first

pub named_more : (es more : List Event) (number : ℕ) (key : Key) → slice_get (keys_of es) number ≡ Some key → slice_get (keys_of (es ++ more)) number ≡ Some key
named_more es more number key h = ap (λ xs. slice_get xs number) (keys_append es more) ∙ get_more (keys_of es) (keys_of more) number key h

pub row_more : (es more : List Event) (r : ℕ) (row : CacheRow) → slice_get (rows_of es) r ≡ Some row → slice_get (rows_of (es ++ more)) r ≡ Some row
row_more es more r row h = ap (λ (xs : List CacheRow). slice_get xs r) (rows_append es more) ∙ get_more (rows_of es) (rows_of more) r row h

module _ (P : Program) where
  right_row_more : (es more : List Event) (row : CacheRow) → IsRightRow P es row → IsRightRow P (es ++ more) row
  right_row_more es more row h = record { key = h.key; named = named_more es more row.key h.key h.named; right = right_on P es more h.key row.site row.first h.right }

  abbrev RowsAreRight : List Event → Type 0
  RowsAreRight es = (r : ℕ) (row : CacheRow) → slice_get (rows_of es) r ≡ Some row → IsRightRow P es row

  -- an event that is no fill
  no_row : (past : List Event) (e : Event) → rows_of (e ∷ []) ≡ [] → RowsAreRight past → RowsAreRight (past ++ e ∷ [])
  no_row past e z h r row at =
      let same : rows_of (past ++ e ∷ []) ≡ rows_of past = rows_append past (e ∷ []) ∙ ap (λ (xs : List CacheRow). rows_of past ++ xs) z ∙ append-nil (rows_of past) in
      right_row_more past (e ∷ []) row (h r row (subst (λ (xs : List CacheRow). slice_get xs r ≡ Some row) same at))

  one_more : (past : List Event) (e : Event) → RowsAreRight past → MayCome P past e → RowsAreRight (past ++ e ∷ [])
  one_more past (Ev.Begin fuel) h m = no_row past (Ev.Begin fuel) refl h
  one_more past (Ev.Key key) h m = no_row past (Ev.Key key) refl h
  one_more past (Ev.Def task site) h m = no_row past (Ev.Def task site) refl h
  one_more past (Ev.Del task place) h m = no_row past (Ev.Del task place) refl h
  one_more past (Ev.Spawn task child start) h m = no_row past (Ev.Spawn task child start) refl h
  one_more past (Ev.Done task ended) h m = no_row past (Ev.Done task ended) refl h
  one_more past (Ev.Fill number site first) h m = λ r row at.
      let new : CacheRow = record { key = number; site = site; first = first } in
      ⊎_elim
      (λ (x : (r < length (rows_of past)) × (slice_get (rows_of past) r ≡ Some row)). right_row_more past (Ev.Fill number site first ∷ []) row (h r row x.1))
      (λ (x : (r ≡ length (rows_of past)) × (new ≡ row)).
      subst (IsRightRow P (past ++ Ev.Fill number site first ∷ [])) x.1
      (right_row_more past (Ev.Fill number site first ∷ []) new (record { key = m.key; named = m.named; right = m.right })))
      (get_pushed (rows_of past) new row r (subst (λ (xs : List CacheRow). slice_get xs r ≡ Some row) (rows_append past (Ev.Fill number site first ∷ [])) at))

  pub rows_right : (es : List Event) → MayStand P es → (r : ℕ) (row : CacheRow) → slice_get (rows_of es) r ≡ Some row → IsRightRow P es row
  rows_right es h = each_grow P RowsAreRight one_more [] es (λ r row at. absurd cc) h.come

  -- a row begins past the prelude, and in a world that is there
  pub begins_low : (es : List Event) (key : Key) (first : ℕ) → MayBegin P es key first → (14 ≤ first) × (first ≤ world_of es)
  begins_low es key first (inl e) = (omega (arith, e), omega (arith, e))
  begins_low es key first (inr t) = (omega (arith, t.0), touches_known P es first key t.1)

  -- ---- ends

  -- what has no end later has none now
  no_end_back : (es more : List Event) (key : Key) (first : ℕ) → HasNoEnd P (es ++ more) key first → HasNoEnd P es key first
  no_end_back es more key first h d l t = h d l (touches_on P es more d key t)

  ends_on : (es more : List Event) (key : Key) (first last : ℕ) → EndsWith P es key first last → EndsWith P (es ++ more) key first last
  ends_on es more key first last h =
      let low : last ≤ world_of es = omega (arith, touches_known P es (last + 1) key h.touched) in
      record { covers = covers_on P es more key first last low h.covers; touched = touches_on P es more (last + 1) key h.touched }

  -- an event that is no change leaves which changes touch a key
  same_touches : (es : List Event) (e : Event) → changed (e ∷ []) ≡ [] → (d : ℕ) (key : Key) → Touches P (es ++ e ∷ []) d key → Touches P es d key
  same_touches es e z d key t =
      let same : changes (es ++ e ∷ []) ≡ changes es = changes_append es (e ∷ []) ∙ ap (λ (xs : List Change). changes es ++ xs) z ∙ append-nil (changes es) in
      let low = touches_known P (es ++ e ∷ []) d key t in
      touches_back P es (e ∷ []) d key (omega (arith, low, changes_length es, changes_length (es ++ e ∷ []), ap length same)) t

  pub no_end_on : (es : List Event) (e : Event) → changed (e ∷ []) ≡ [] → (key : Key) (first : ℕ) → HasNoEnd P es key first → HasNoEnd P (es ++ e ∷ []) key first
  no_end_on es e z key first h d l t = h d l (same_touches es e z d key t)

  pub last_on : (es : List Event) (e : Event) → changed (e ∷ []) ≡ [] → (key : Key) (first last : ℕ) → IsLastWorld P es key first last → IsLastWorld P (es ++ e ∷ []) key first last
  last_on es e z key first last (inl h) = inl (h.0, no_end_on es e z key first h.1)
  last_on es e z key first last (inr h) = inr (ends_on es (e ∷ []) key first last h)

  -- ---- a change

  module _ (es : List Event) (e : Event) (change : Change) (makes : changed (e ∷ []) ≡ change ∷ []) where
    abbrev changed_one : List Event
    changed_one = es ++ e ∷ []

    abbrev TouchesIt : Key → Type 0
    TouchesIt key = HeadTouches P (head_of P change) key

    changes_one : changes changed_one ≡ changes es ++ change ∷ []
    changes_one = changes_append es (e ∷ []) ∙ ap (λ (xs : List Change). changes es ++ xs) makes

    -- the new one is the change of the new world
    new_touches : (key : Key) → Touches P changed_one (world_of es + 1) key ≡ TouchesIt key
    new_touches key =
        let at : slice_get (changes changed_one) (world_of es) ≡ Some change =
        ap (λ (xs : List Change). slice_get xs (world_of es)) changes_one
        ∙ ap (λ n. slice_get (changes es ++ change ∷ []) n) (sym (changes_length es))
        ∙ get_push (changes es) change in
        ap (λ n. Touches P changed_one n key) (let z : world_of es + 1 ≡ suc (world_of es) = omega arith in z)
        ∙ ap (λ (o : Option Change). ChangeTouches P o key) at

    world_next : world_of changed_one ≡ world_of es + 1
    world_next = sym (changes_length changed_one) ∙ ap length changes_one ∙ length-append (changes es) (change ∷ []) ∙ ap (λ n. n + 1) (changes_length es)

    -- a row without an end that the change does not touch has none then
    no_end_stays : (key : Key) (first : ℕ) → HasNoEnd P es key first → (TouchesIt key → ⊥) → HasNoEnd P changed_one key first
    no_end_stays key first h not d l t = by (where_is d (world_of es))
      where
        where_is : (d n : ℕ) → (d ≤ n) ⊎ ((d ≡ n + 1) ⊎ (n + 1 < d))
        where_is d n = grind arith

        by : (d ≤ world_of es) ⊎ ((d ≡ world_of es + 1) ⊎ (world_of es + 1 < d)) → ⊥
        by (inl le) = h d l (touches_back P es (e ∷ []) d key le t)
        by (inr (inl i)) = not (subst (λ X. X) (new_touches key) (subst (λ n. Touches P changed_one n key) i t))
        by (inr (inr lt)) = let low = touches_known P changed_one d key t in omega (arith, low, lt, world_next)

    -- and one that it touches ends at the world before
    ends_now : (key : Key) (first : ℕ) → first ≤ world_of es → HasNoEnd P es key first → TouchesIt key → EndsWith P changed_one key first (world_of es)
    ends_now key first low h touched = record {
      covers = record { begun = low; going = λ d l m t. h d l (touches_back P es (e ∷ []) d key m t) };
      touched = subst (λ X. X) (sym (new_touches key)) touched;
    }

    -- so the rows that were cut ahead are those that end, and their last worlds are right
    pub cut_ends : (cut : List ℕ) (r : ℕ) (row : CacheRow) (key : Key) (last : ℕ) → AreAllCut P es change cut → slice_get (rows_of es) r ≡ Some row → slice_get (keys_of es) row.key ≡ Some key → row.first ≤ world_of es
        → IsLastWith P es cut r key row.first last → IsLastWith P changed_one [] r key row.first last
    cut_ends cut r row key last all stands named low (inl (c, i)) =
        let t = (all r).0 c in
        let same : t.row ≡ row = one_there (rows_of es) r t.row row t.stands stands in
        let same_key : t.key ≡ key = one_there (keys_of es) row.key t.key key (subst (λ (x : CacheRow). slice_get (keys_of es) x.key ≡ Some t.key) same t.named) named in
        let no_end : HasNoEnd P es key row.first = subst (λ (x : CacheRow). HasNoEnd P es key x.first) same (subst (λ (k : Key). HasNoEnd P es k t.row.first) same_key t.no_end) in
        let touched : TouchesIt key = subst TouchesIt same_key t.touched in
        inr (contains_none r, inr (subst (λ (n : ℕ). EndsWith P changed_one key row.first n) (sym i) (ends_now key row.first low no_end touched)))
    cut_ends cut r row key last all stands named low (inr (not, inl (z, h))) =
        inr (contains_none r, inl (z, no_end_stays key row.first h (λ t. not ((all r).1 (record { row = row; stands = stands; key = key; named = named; no_end = h; touched = t })))))
    cut_ends cut r row key last all stands named low (inr (not, inr h)) = inr (contains_none r, inr (ends_on es (e ∷ []) key row.first last h))

  -- ---- a last world that is read later

  -- no later change up to the world of these events touches the key
  pub last_seen : (es more : List Event) (cut : List ℕ) (r : ℕ) (key : Key) (first last : ℕ) → (Contains cut r → HasNoEnd P (es ++ more) key first) → IsLastWith P (es ++ more) cut r key first last → IsLastSeen P es key first last
  last_seen es more cut r key first last free (inl (c, e)) = inl (no_end_back es more key first (free c), inr (omega (arith, e, world_more es more)))
  last_seen es more cut r key first last free (inr (not, inl (z, h))) = inl (no_end_back es more key first h, inl z)
  last_seen es more cut r key first last free (inr (not, inr h)) = by (where_is last (world_of es))
    where
      where_is : (n m : ℕ) → (n < m) ⊎ (m ≤ n)
      where_is n m = grind arith

      by : (last < world_of es) ⊎ (world_of es ≤ last) → IsLastSeen P es key first last
      by (inl lt) = inr (record { covers = covers_back P es more key first last h.covers; touched = touches_back P es more (last + 1) key (omega (arith, lt)) h.touched })
      by (inr le) = inl ((λ d l t. h.covers.going d l (omega (arith, le, touches_known P es d key t)) (touches_on P es more d key t)), inr le)
