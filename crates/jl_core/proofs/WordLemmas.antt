-- The words of the rows, after each step that changes them.
use Rattle.std.proofs.Common.{◌≡◌, ◌∙◌, ap, sym, subst, refl, ℕ, zero, suc, ◌+◌, ◌≤◌, ◌⊎◌, inl, inr, arith, List, [], ◌∷◌, ◌++◌, map, length, length-append, take, slice_get, slice_set, append-nil, Option, Some}
use Rattle.std.specs.List.{Contains}
use Rattle.std.proofs.lemmas.List.{map-append, take-append-le, take_at}
use Rattle.std.proofs.lemmas.List.Elements.{Contains-append_cases, Contains-append_left, Contains-append_right}
use Rattle.jl_model.specs.declared.ty.Key.{Key}
use Rattle.jl_program.specs.declared.tree.Program.{Program}
use Rattle.jl_calculus.specs.declared.history.Change.{Change}
use Rattle.jl_calculus.specs.declared.history.Change.TheVariants as Ch
use Rattle.jl_calculus.specs.declared.history.Event.{Event}
use Rattle.jl_calculus.specs.declared.history.Event.TheVariants as Ev
use Rattle.jl_calculus.specs.Ranges.{CacheRow, keys_of, rows_of, head_of, HeadTouches, ChangeTouches, Touches, HasNoEnd, EndsWith}
use Rattle.jl_calculus.specs.Words.{link_of, IsLastWorld, IsToCut, IsLastWith, IsRowWords}
use Rattle.jl_calculus.specs.World.{changed, changes, world_of, change_event}
use Rattle.jl_calculus.proofs.GrowthLemmas.{get_more, changed_append, changes_append, changes_length, rows_append, touches_on, touches_back, touches_known, covers_on}
use Rattle.jl_core.specs.declared.words.Words.{Words}
use Rattle.jl_core.specs.Kept.{AreWords}
use Rattle.jl_core.specs.View.{row_of}
use Rattle.jl_core.proofs.EventLemmas.{within, get_last}
use Rattle.jl_core.proofs.GrowLemmas.{named_on}

nothing : (r : ℕ) → Contains {X = ℕ} [] r → ⊥
nothing r (k, l, e) = absurd (omega (arith, l))

get_end : {X : Type 0} (xs : List X) (x : X) → slice_get (xs ++ x ∷ []) (length xs) ≡ Some x
get_end [] x = refl
get_end (y ∷ xs) x = get_end xs x

-- ---- ranges, with more events

module _ (P : Program) (es more : List Event) where
  pub ends_on : (key : Key) (first last : ℕ) → EndsWith P es key first last → EndsWith P (es ++ more) key first last
  ends_on key first last h = record {
    covers = covers_on P es more key first last (omega (arith, touches_known P es (last + 1) key h.touched)) h.covers;
    touched = touches_on P es more (last + 1) key h.touched;
  }

  -- no world was made
  no_end_on : world_of (es ++ more) ≡ world_of es → (key : Key) (first : ℕ) → HasNoEnd P es key first → HasNoEnd P (es ++ more) key first
  no_end_on w key first h d l t = h d l (touches_back P es more d key (omega (arith, w, touches_known P (es ++ more) d key t)) t)

  last_on : world_of (es ++ more) ≡ world_of es → (key : Key) (first last : ℕ) → IsLastWorld P es key first last → IsLastWorld P (es ++ more) key first last
  last_on w key first last (inl (e, h)) = inl (e, no_end_on w key first h)
  last_on w key first last (inr h) = inr (ends_on key first last h)

  last_with_on : world_of (es ++ more) ≡ world_of es → (cut : List ℕ) (r : ℕ) (key : Key) (first last : ℕ) → IsLastWith P es cut r key first last → IsLastWith P (es ++ more) cut r key first last
  last_with_on w cut r key first last (inl (c, e)) = inl (c, e ∙ sym w)
  last_with_on w cut r key first last (inr (n, h)) = inr (n, last_on w key first last h)

  -- the row stands with more rows behind it
  row_words_on : world_of (es ++ more) ≡ world_of es → (cut : List ℕ) (r site first last next : ℕ) → IsRowWords P es cut r site first last next → IsRowWords P (es ++ more) cut r site first last next
  row_words_on w cut r site first last next h = record {
    row = h.row;
    stands = ap (λ (xs : List CacheRow). slice_get xs r) (rows_append es more) ∙ get_more (rows_of es) (rows_of more) r h.row h.stands;
    key = h.key;
    named = named_on P es more h.row.key h.key h.named;
    site_word = h.site_word;
    first_word = h.first_word;
    last_word = last_with_on w cut r h.key h.row.first last h.last_word;
    next_word =
        h.next_word
        ∙ ap (link_of h.row.key) (sym (ap (take r) (rows_append es more) ∙ take-append-le r (rows_of es) (rows_of more) (omega (arith, within (rows_of es) r h.row h.stands))));
  }

-- ---- an event that makes neither a world nor a row

same_world : (es : List Event) (e : Event) → changed (e ∷ []) ≡ [] → world_of (es ++ e ∷ []) ≡ world_of es
same_world es e n = ap (λ xs. 14 + length xs) (changed_append es (e ∷ []) ∙ ap (λ xs. changed es ++ xs) n ∙ append-nil (changed es))

pub words_same : (P : Program) (es : List Event) (e : Event) (cut : List ℕ) (ws : List Words) → changed (e ∷ []) ≡ [] → rows_of (e ∷ []) ≡ [] → AreWords P es cut ws → AreWords P (es ++ e ∷ []) cut ws
words_same P es e cut ws d n h = record {
  rows = h.rows ∙ sym (rows_append es (e ∷ []) ∙ ap (λ (xs : List CacheRow). rows_of es ++ xs) n ∙ append-nil (rows_of es));
  each = λ r w q. row_words_on P es (e ∷ []) (same_world es e d) cut r w.site w.first w.last w.next (h.each r w q);
}

-- ---- a fill

module _ (P : Program) (es : List Event) (ws : List Words) (h : AreWords P es [] ws) (w : Words) (key : Key) (named : slice_get (keys_of es) w.key ≡ Some key) (last : IsLastWorld P es key w.first w.last) (next : w.next ≡ link_of w.key (map row_of ws)) where
  abbrev filled : List Event
  filled = es ++ Ev.Fill w.key w.site w.first ∷ []

  rows_filled : rows_of filled ≡ rows_of es ++ row_of w ∷ []
  rows_filled = rows_append es (Ev.Fill w.key w.site w.first ∷ [])

  world_filled : world_of filled ≡ world_of es
  world_filled = same_world es (Ev.Fill w.key w.site w.first) refl

  long : length ws ≡ length (rows_of es)
  long = long_map ws ∙ ap length h.rows
    where
      long_map : (xs : List Words) → length xs ≡ length (map row_of xs)
      long_map [] = refl
      long_map (x ∷ xs) = ap suc (long_map xs)

  new_words : IsRowWords P filled [] (length ws) w.site w.first w.last w.next
  new_words = record {
    row = row_of w;
    stands = ap (λ n. slice_get (rows_of filled) n) long ∙ ap (λ (xs : List CacheRow). slice_get xs (length (rows_of es))) rows_filled ∙ get_end (rows_of es) (row_of w);
    key = key;
    named = named_on P es (Ev.Fill w.key w.site w.first ∷ []) w.key key named;
    site_word = refl;
    first_word = refl;
    last_word = inr (nothing (length ws), last_on P es (Ev.Fill w.key w.site w.first ∷ []) world_filled key w.first w.last last);
    next_word =
        next
        ∙ ap (link_of w.key) (h.rows ∙ sym (ap (take (length ws)) rows_filled ∙ take_at (rows_of es) (row_of w ∷ []) (length ws) (sym long)));
  }

  each_filled : (r : ℕ) (x : Words) → (slice_get ws r ≡ Some x) ⊎ ((r ≡ length ws) × (w ≡ x)) → IsRowWords P filled [] r x.site x.first x.last x.next
  each_filled r x (inl q) = row_words_on P es (Ev.Fill w.key w.site w.first ∷ []) world_filled [] r x.site x.first x.last x.next (h.each r x q)
  each_filled r x (inr (q, e)) =
      subst (λ n. IsRowWords P filled [] n x.site x.first x.last x.next) (sym q)
      (subst (λ (y : Words). IsRowWords P filled [] (length ws) y.site y.first y.last y.next) e new_words)

  pub words_filled : AreWords P filled [] (ws ++ w ∷ [])
  words_filled = record {
    rows = map-append row_of ws (w ∷ []) ∙ ap (λ (xs : List CacheRow). xs ++ row_of w ∷ []) h.rows ∙ sym rows_filled;
    each = λ r x q. each_filled r x (get_last ws w r x q);
  }

-- ---- a cut

set_cases : (ws : List Words) (r : ℕ) (v : Words) (n : ℕ) (x : Words) → slice_get (slice_set ws r v) n ≡ Some x → ((n ≡ r) × (v ≡ x)) ⊎ ((n ≡ r → ⊥) × (slice_get ws n ≡ Some x))
set_cases [] r v n x q = cc
set_cases (w ∷ ws) zero v zero x q = inl (refl, cc)
set_cases (w ∷ ws) zero v (suc n) x q = inr (λ e. absurd (omega (arith, e)), q)
set_cases (w ∷ ws) (suc r) v zero x q = inr (λ e. absurd (omega (arith, e)), q)
set_cases (w ∷ ws) (suc r) v (suc n) x q = by (set_cases ws r v n x q)
  where
    by : ((n ≡ r) × (v ≡ x)) ⊎ ((n ≡ r → ⊥) × (slice_get ws n ≡ Some x)) → ((suc n ≡ suc r) × (v ≡ x)) ⊎ ((suc n ≡ suc r → ⊥) × (slice_get ws n ≡ Some x))
    by (inl (e, k)) = inl (ap suc e, k)
    by (inr (d, k)) = inr (λ e. d (omega (arith, e)), k)

rows_set : (ws : List Words) (r : ℕ) (v w : Words) → slice_get ws r ≡ Some w → row_of v ≡ row_of w → map row_of (slice_set ws r v) ≡ map row_of ws
rows_set [] r v w q e = refl
rows_set (x ∷ ws) zero v w q e = ap (λ (y : CacheRow). y ∷ map row_of ws) (e ∙ ap row_of (let k : w ≡ x = cc in k))
rows_set (x ∷ ws) (suc r) v w q e = ap (λ (ys : List CacheRow). row_of x ∷ ys) (rows_set ws r v w q e)

module _ (P : Program) (es : List Event) (cut : List ℕ) (ws : List Words) (h : AreWords P es cut ws) (r : ℕ) (w v : Words) (at : slice_get ws r ≡ Some w) (v_key : v.key ≡ w.key) (v_site : v.site ≡ w.site) (v_first : v.first ≡ w.first) (v_next : v.next ≡ w.next) (v_last : v.last ≡ world_of es) where
  abbrev more : List ℕ
  more = cut ++ r ∷ []

  is_cut : Contains more r
  is_cut = Contains-append_right cut (r ∷ []) r (0, omega arith, refl)

  now_cut : IsRowWords P es cut r w.site w.first w.last w.next → IsRowWords P es more r v.site v.first v.last v.next
  now_cut k = record {
    row = k.row;
    stands = k.stands;
    key = k.key;
    named = k.named;
    site_word = v_site ∙ k.site_word;
    first_word = v_first ∙ k.first_word;
    last_word = inl (is_cut, v_last);
    next_word = v_next ∙ k.next_word;
  }

  other_last : (n : ℕ) (key : Key) (first last : ℕ) → (n ≡ r → ⊥) → IsLastWith P es cut n key first last → IsLastWith P es more n key first last
  other_last n key first last d (inl (c, e)) = inl (Contains-append_left cut (r ∷ []) n c, e)
  other_last n key first last d (inr (f, k)) = inr (λ c. by (Contains-append_cases cut (r ∷ []) n c), k)
    where
      by : Contains cut n ⊎ Contains (r ∷ []) n → ⊥
      by (inl c) = f c
      by (inr (zero, l, e)) = d (sym e)
      by (inr (suc i, l, e)) = absurd (omega (arith, l))

  other_cut : (n : ℕ) (site first last next : ℕ) → (n ≡ r → ⊥) → IsRowWords P es cut n site first last next → IsRowWords P es more n site first last next
  other_cut n site first last next d k = record {
    row = k.row;
    stands = k.stands;
    key = k.key;
    named = k.named;
    site_word = k.site_word;
    first_word = k.first_word;
    last_word = other_last n k.key k.row.first last d k.last_word;
    next_word = k.next_word;
  }

  each_cut : (n : ℕ) (x : Words) → ((n ≡ r) × (v ≡ x)) ⊎ ((n ≡ r → ⊥) × (slice_get ws n ≡ Some x)) → IsRowWords P es more n x.site x.first x.last x.next
  each_cut n x (inl (e, q)) =
      subst (λ k. IsRowWords P es more k x.site x.first x.last x.next) (sym e)
      (subst (λ (y : Words). IsRowWords P es more r y.site y.first y.last y.next) q (now_cut (h.each r w at)))
  each_cut n x (inr (d, q)) = other_cut n x.site x.first x.last x.next d (h.each n x q)

  pub words_cut : AreWords P es more (slice_set ws r v)
  words_cut = record {
    rows = rows_set ws r v w at (λ i. record { key = v_key i; site = v_site i; first = v_first i }) ∙ h.rows;
    each = λ n x q. each_cut n x (set_cases ws r v n x q);
  }

-- ---- a change

changed_by : (task : ℕ) (change : Change) → changed (change_event task change ∷ []) ≡ change ∷ []
changed_by task (Ch.Def site) = refl
changed_by task (Ch.Del place) = refl

rows_by : (task : ℕ) (change : Change) → rows_of (change_event task change ∷ []) ≡ []
rows_by task (Ch.Def site) = refl
rows_by task (Ch.Del place) = refl

module _ (P : Program) (es : List Event) (task : ℕ) (change : Change) where
  abbrev made : List Event
  made = es ++ change_event task change ∷ []

  changes_made : changes made ≡ changes es ++ change ∷ []
  changes_made = changes_append es (change_event task change ∷ []) ∙ ap (λ xs. changes es ++ xs) (changed_by task change)

  world_made : world_of made ≡ suc (world_of es)
  world_made = omega (arith, ap length (changed_append es (change_event task change ∷ []) ∙ ap (λ xs. changed es ++ xs) (changed_by task change)), length-append (changed es) (change ∷ []))

  rows_made : rows_of made ≡ rows_of es
  rows_made = rows_append es (change_event task change ∷ []) ∙ ap (λ (xs : List CacheRow). rows_of es ++ xs) (rows_by task change) ∙ append-nil (rows_of es)

  -- the change that made the new world
  newest : slice_get (changes made) (world_of es) ≡ Some change
  newest =
      ap (λ xs. slice_get xs (world_of es)) changes_made
      ∙ ap (λ n. slice_get (changes es ++ change ∷ []) n) (sym (changes_length es))
      ∙ get_end (changes es) change

  touches_new : (key : Key) → HeadTouches P (head_of P change) key → Touches P made (suc (world_of es)) key
  touches_new key t = subst (λ o. ChangeTouches P o key) (sym newest) t

  new_touches : (key : Key) → Touches P made (suc (world_of es)) key → HeadTouches P (head_of P change) key
  new_touches key t = subst (λ o. ChangeTouches P o key) newest t

  -- it does not touch the key
  no_end_made : (key : Key) (first : ℕ) → HasNoEnd P es key first → (HeadTouches P (head_of P change) key → ⊥) → HasNoEnd P made key first
  no_end_made key first h n d l t =
      let known : d ≤ suc (world_of es) = omega (arith, touches_known P made d key t, world_made) in
      let late : d ≤ world_of es → ⊥ = λ m. h d l (touches_back P es (change_event task change ∷ []) d key m t) in
      let last : d ≡ suc (world_of es) = grind (arith, known, late) in
      n (new_touches key (subst (λ (k : ℕ). Touches P made k key) last t))

  -- it does
  ends_made : (key : Key) (first last : ℕ) → HasNoEnd P es key first → HeadTouches P (head_of P change) key → first ≤ world_of es → last ≡ world_of es → EndsWith P made key first last
  ends_made key first last h t l e = record {
    covers = record {
      begun = omega (arith, l, e);
      going = λ d low high k. h d low (touches_back P es (change_event task change ∷ []) d key (omega (arith, high, e)) k);
    };
    touched = subst (λ (k : ℕ). Touches P made k key) (let q : suc (world_of es) ≡ last + 1 = omega (arith, e) in q) (touches_new key t);
  }

same_row : (o : Option CacheRow) (a b : CacheRow) → o ≡ Some a → o ≡ Some b → a ≡ b
same_row o a b h k = cc

same_key : (o : Option Key) (a b : Key) → o ≡ Some a → o ≡ Some b → a ≡ b
same_key o a b h k = cc

-- where exactly the rows were cut that it ends
module _ (P : Program) (es : List Event) (task : ℕ) (change : Change) (cut : List ℕ) (ws : List Words) (h : AreWords P es cut ws) (ends : (r : ℕ) → Contains cut r → IsToCut P es change r) (all : (r : ℕ) → IsToCut P es change r → (Contains cut r → ⊥) → ⊥) (begun : (row : CacheRow) (r : ℕ) → slice_get (rows_of es) r ≡ Some row → row.first ≤ world_of es) where
  cut_ends : (r last : ℕ) (row : CacheRow) (key : Key) → slice_get (rows_of es) r ≡ Some row → slice_get (keys_of es) row.key ≡ Some key → IsToCut P es change r → last ≡ world_of es → EndsWith P (es ++ change_event task change ∷ []) key row.first last
  cut_ends r last row key at named k e =
      let one : k.row ≡ row = same_row (slice_get (rows_of es) r) k.row row k.stands at in
      let two : k.key ≡ key = same_key (slice_get (keys_of es) row.key) k.key key (subst (λ (x : CacheRow). slice_get (keys_of es) x.key ≡ Some k.key) one k.named) named in
      subst (λ (x : CacheRow). EndsWith P (es ++ change_event task change ∷ []) key x.first last) one
      (subst (λ (x : Key). EndsWith P (es ++ change_event task change ∷ []) x k.row.first last) two
      (ends_made P es task change k.key k.row.first last k.no_end k.touched (begun k.row r k.stands) e))

  last_made : (r last : ℕ) (row : CacheRow) (key : Key) → slice_get (rows_of es) r ≡ Some row → slice_get (keys_of es) row.key ≡ Some key → IsLastWith P es cut r key row.first last
      → IsLastWith P (es ++ change_event task change ∷ []) [] r key row.first last
  last_made r last row key at named (inl (c, e)) = inr (nothing r, inr (cut_ends r last row key at named (ends r c) e))
  last_made r last row key at named (inr (n, inl (e, k))) =
      inr (nothing r, inl (e, no_end_made P es task change key row.first k (λ t. all r (record { row = row; stands = at; key = key; named = named; no_end = k; touched = t }) n)))
  last_made r last row key at named (inr (n, inr k)) = inr (nothing r, inr (ends_on P es (change_event task change ∷ []) key row.first last k))

  row_made : (r fore first last next : ℕ) → IsRowWords P es cut r fore first last next → IsRowWords P (es ++ change_event task change ∷ []) [] r fore first last next
  row_made r fore first last next k = record {
    row = k.row;
    stands = ap (λ (xs : List CacheRow). slice_get xs r) (rows_made P es task change) ∙ k.stands;
    key = k.key;
    named = named_on P es (change_event task change ∷ []) k.row.key k.key k.named;
    site_word = k.site_word;
    first_word = k.first_word;
    last_word = last_made r last k.row k.key k.stands k.named k.last_word;
    next_word = k.next_word ∙ ap (λ (xs : List CacheRow). link_of k.row.key (take r xs)) (sym (rows_made P es task change));
  }

  pub words_made : AreWords P (es ++ change_event task change ∷ []) [] ws
  words_made = record {
    rows = h.rows ∙ sym (rows_made P es task change);
    each = λ r w q. row_made r w.site w.first w.last w.next (h.each r w q);
  }
