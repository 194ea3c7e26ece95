-- What each store makes of the words.
use Rattle.std.proofs.Common.{◌≡◌, ◌≢◌, ◌∙◌, ap, sym, subst, refl, ℕ, suc, ◌+◌, ◌*◌, ◌<◌, ◌≤◌, max, ◌⊎◌, inl, inr, ⊎_elim, arith, Bool, true, false, cond, nat_eq, List, [], ◌∷◌, ◌++◌, length, take, slice_get, append-nil, length-append, Some}
use Rattle.std.proofs.lemmas.List.{length-set, get_or-set_same, get_or-set_other}
use Rattle.std.proofs.lemmas.Option.{same_Some, slice_get_within}
use Rattle.std.specs.Prelude.{slice_index, slice_set}
use Rattle.jl_model.specs.declared.ty.Key.{Key}
use Rattle.jl_program.specs.declared.tree.Program.{Program}
use Rattle.jl_calculus.specs.declared.history.Change.{Change}
use Rattle.jl_calculus.specs.declared.history.Event.{Event}
use Rattle.jl_calculus.specs.declared.history.Event.TheVariants as Ev
use Rattle.jl_calculus.specs.Legal.{MayStand}
use Rattle.jl_calculus.specs.Ranges.{CacheRow, keys_of, rows_of}
use Rattle.jl_calculus.specs.Words.{upper, is_worldly, is_noted, is_fill_of, world_word, notes_word, link_of, fill_length, head_word, AreAllCut, IsLastWith, IsRowWords}
use Rattle.jl_calculus.specs.World.{changed, world_of}
use Rattle.jl_calculus.proofs.GrowthLemmas.{changed_append, rows_append}
use Rattle.jl_world.specs.declared.about.About.{About}
use Rattle.jl_world.specs.declared.row_word.RowWord.{RowWord}
use Rattle.jl_world.specs.declared.row_word.RowWord.TheVariants.{Site, First, Last, Next, Top}
use Rattle.jl_world.specs.Adds.{AreStored}
use Rattle.jl_world.specs.Places.{world_place, notes_place, head_place, row_offset, row_place, word_count}
use Rattle.jl_world.specs.Tops.{top_of, IsTopWord}
use Rattle.jl_world.specs.Rule.{Now, IsOpenRow, IsRow, Words}
use Rattle.jl_world.specs.Views.{stored_word}
use Rattle.jl_world.proofs.Growth.{agree, agreed}
use Rattle.jl_world.proofs.Lists.{get_push, take_short, take_whole, last_miss, contains_cons, contains_front, contains_behind, contains_none}
use Rattle.jl_world.proofs.Rights.{rows_right, named_more, row_more, begins_low, last_on, cut_ends}
use Rattle.jl_world.proofs.TopLemmas.{top_more, top_next}

here : (words : List ℕ) (i v : ℕ) → i < length words → slice_index (slice_set words i v) i ≡ v
here words i v lt = get_or-set_same words i v 0 lt

else : (words : List ℕ) (i j v : ℕ) → j ≢ i → slice_index (slice_set words i v) j ≡ slice_index words j
else words i j v ne = get_or-set_other words i j v 0 ne

offset_low : (w : RowWord) → 3 ≤ row_offset w
offset_low Site = omega arith
offset_low First = omega arith
offset_low Last = omega arith
offset_low Next = omega arith
offset_low Top = omega arith

offset_high : (w : RowWord) → row_offset w ≤ 7
offset_high Site = omega arith
offset_high First = omega arith
offset_high Last = omega arith
offset_high Next = omega arith
offset_high Top = omega arith

-- a word of a row is in range
pub row_small : (about : About) (r : ℕ) (w : RowWord) → r < about.rows → row_place r w < word_count about
row_small about r w lt = omega (arith, lt, offset_high w)

-- where a place is none of a row's
abbrev pub IsElsewhere : ℕ → ℕ → Type 0
IsElsewhere r i = (w : RowWord) → row_place r w ≢ i

world_elsewhere : (r : ℕ) → IsElsewhere r world_place
world_elsewhere r w e = omega (arith, e, offset_low w)

notes_elsewhere : (r : ℕ) → IsElsewhere r notes_place
notes_elsewhere r w e = omega (arith, e, offset_low w)

head_elsewhere : (r k : ℕ) → IsElsewhere r (head_place k)
head_elsewhere r k w e = omega (arith, e, offset_low w, offset_high w)

other_elsewhere : (r q : ℕ) (w : RowWord) → r ≢ q → IsElsewhere r (row_place q w)
other_elsewhere r q w ne x e = ne (omega (arith, e, offset_low w, offset_high w, offset_low x, offset_high x))

-- a store that misses a row
row_kept : (P : Program) (now : Now) (words : List ℕ) (i v r : ℕ) → IsElsewhere r i → IsRow P now words r → IsRow P now (slice_set words i v) r
row_kept P now words i v r ne h =
    subst (λ (z : ℕ × ℕ × ℕ × ℕ). IsRowWords P now.events now.cut r z.0 z.1 z.2 z.3)
    (λ j. (
      sym (else words i (row_place r Site) v (ne Site)) j,
      sym (else words i (row_place r First) v (ne First)) j,
      sym (else words i (row_place r Last) v (ne Last)) j,
      sym (else words i (row_place r Next) v (ne Next)) j,
    )) h

top_kept : (es : List Event) (words : List ℕ) (i v r : ℕ) → (row_place r Top ≢ i) → IsTopWord es r (slice_index words (row_place r Top)) → IsTopWord es r (slice_index (slice_set words i v) (row_place r Top))
top_kept es words i v r ne h = subst (IsTopWord es r) (sym (else words i (row_place r Top) v ne)) h

-- a row after one more event
row_grown : (P : Program) (es : List Event) (e : Event) (cut later : List ℕ) (r a b c d : ℕ)
    → ((row : CacheRow) (key : Key) → slice_get (rows_of es) r ≡ Some row → slice_get (keys_of es) row.key ≡ Some key → IsLastWith P es cut r key row.first c → IsLastWith P (es ++ e ∷ []) later r key row.first c)
    → IsRowWords P es cut r a b c d → IsRowWords P (es ++ e ∷ []) later r a b c d
row_grown P es e cut later r a b c d last h =
    let low = slice_get_within (rows_of es) r h.row h.stands in
    record {
      row = h.row;
      stands = row_more es (e ∷ []) r h.row h.stands;
      key = h.key;
      named = named_more es (e ∷ []) h.row.key h.key h.named;
      site_word = h.site_word;
      first_word = h.first_word;
      last_word = last h.row h.key h.stands h.named h.last_word;
      next_word = h.next_word ∙ ap (link_of h.row.key) (sym (ap (take r) (rows_append es (e ∷ [])) ∙ take_short (rows_of es) (rows_of (e ∷ [])) r (omega (arith, low))));
    }

-- with no row cut ahead, an event that is no change leaves the last worlds
last_kept : (P : Program) (es : List Event) (e : Event) → changed (e ∷ []) ≡ [] → (r : ℕ) (key : Key) (first last : ℕ) → IsLastWith P es [] r key first last → IsLastWith P (es ++ e ∷ []) [] r key first last
last_kept P es e none r key first last (inl (c, x)) = absurd (contains_none r c)
last_kept P es e none r key first last (inr (not, h)) = inr (not, last_on P es e none key first last h)

-- ---- what an event leaves

module _ (es : List Event) (e : Event) where
  abbrev more : List Event
  more = es ++ e ∷ []

  pub same_rows : rows_of (e ∷ []) ≡ [] → rows_of more ≡ rows_of es
  same_rows none = rows_append es (e ∷ []) ∙ ap (λ (xs : List CacheRow). rows_of es ++ xs) none ∙ append-nil (rows_of es)

  pub same_world : changed (e ∷ []) ≡ [] → world_of more ≡ world_of es
  same_world none = omega (arith, ap length (changed_append es (e ∷ []) ∙ ap (λ (xs : List Change). changed es ++ xs) none ∙ append-nil (changed es)))

  same_world_word : changed (e ∷ []) ≡ [] → is_worldly e ≡ false → world_word more ≡ world_word es
  same_world_word none quiet = let w = same_world none in let l = last_miss is_worldly es e quiet in (λ i. w i + upper * l i)

  same_head : (k : ℕ) → rows_of (e ∷ []) ≡ [] → is_fill_of k e ≡ false → head_word more k ≡ head_word es k
  same_head k none quiet = let rs = same_rows none in let l = last_miss (is_fill_of k) es e quiet in (λ i. link_of k (rs i) + upper * l i)

  pub rows_no_less : length (rows_of es) ≤ length (rows_of more)
  rows_no_less = omega (arith, ap length (rows_append es (e ∷ [])), length-append (rows_of es) (rows_of (e ∷ [])))

abbrev pub then : Now → Event → Now
then now e = record { events = now.events ++ e ∷ []; cut = []; stored = now.stored }

abbrev pub then_linked : Now → Event → Now
then_linked now e = record { events = now.events ++ e ∷ []; cut = []; stored = [] }

-- what is stored elsewhere leaves what is known of rows that are not linked
loose_kept : (about : About) (now : Now) (words : List ℕ) (e : Event) (i v : ℕ) → ((r : ℕ) → IsElsewhere r i) → Words about now words
    → (r : ℕ) (w : RowWord) (n : ℕ) → length (rows_of (now.events ++ e ∷ [])) ≤ r → stored_word now.stored (row_place r w) ≡ Some n → slice_index (slice_set words i v) (row_place r w) ≡ n
loose_kept about now words e i v ne h r w n free is = else words i (row_place r w) v (ne r w) ∙ h.loose r w n (omega (arith, free, rows_no_less now.events e)) is

-- an event that the notes word tells
pub record IsPlain (e : Event) : Type 0 where
  pub rows : rows_of (e ∷ []) ≡ []
  pub defs : changed (e ∷ []) ≡ []
  pub worldly : is_worldly e ≡ false
  pub noted : is_noted e ≡ true
  pub fills : (k : ℕ) → is_fill_of k e ≡ false

pub words_noted : (about : About) (now : Now) (words : List ℕ) (e : Event) → Words about now words → now.cut ≡ [] → IsPlain e → Words about (then now e) (slice_set words notes_place (notes_word (now.events ++ e ∷ [])))
words_noted about now words e h uncut plain =
    let P = about.program.value in
    let v : ℕ = notes_word (now.events ++ e ∷ []) in
    let rs = same_rows now.events e plain.rows in
    record {
      places = h.places;
      wide = length-set words notes_place v ∙ h.wide;
      world = else words notes_place world_place v (λ x. omega (arith, x)) ∙ h.world ∙ sym (same_world_word now.events e plain.defs plain.worldly);
      notes = here words notes_place v (omega (arith, h.wide, h.places));
      heads = λ k lt. else words notes_place (head_place k) v (λ x. omega (arith, x)) ∙ h.heads k lt ∙ sym (same_head now.events e k plain.rows (plain.fills k));
      rows = λ r lt. row_kept P (then now e) words notes_place v r (notes_elsewhere r)
          (row_grown P now.events e now.cut [] r _ _ _ _ (λ row key at named last. last_kept P now.events e plain.defs r key row.first (slice_index words (row_place r Last)) (subst (λ xs. IsLastWith P now.events xs r key row.first (slice_index words (row_place r Last))) uncut last)) (h.rows r (omega (arith, lt, ap length rs))));
      tops = λ r lt. top_kept (now.events ++ e ∷ []) words notes_place v r (notes_elsewhere r Top) (top_more now.events (e ∷ []) r _ (h.tops r (omega (arith, lt, ap length rs))));
      cut = λ r c. absurd (contains_none r c);
      loose = loose_kept about now words e notes_place v notes_elsewhere h;
    }

-- an event that makes a change, and neither a key nor a row
pub record IsChangeBy (e : Event) (change : Change) : Type 0 where
  pub makes : changed (e ∷ []) ≡ change ∷ []
  pub rows : rows_of (e ∷ []) ≡ []
  pub noted : is_noted e ≡ false
  pub fills : (k : ℕ) → is_fill_of k e ≡ false

-- a definition or a deletion, which ends the rows that were cut ahead of it
pub words_changed : (about : About) (now : Now) (words : List ℕ) (e : Event) (change : Change) → IsChangeBy e change → MayStand about.program.value now.events → Words about now words
    → AreAllCut about.program.value now.events change now.cut → Words about (then now e) (slice_set words world_place (world_word (now.events ++ e ∷ [])))
words_changed about now words e change by stand h all =
    let P = about.program.value in
    let v : ℕ = world_word (now.events ++ e ∷ []) in
    let rs = same_rows now.events e by.rows in
    record {
      places = h.places;
      wide = length-set words world_place v ∙ h.wide;
      world = here words world_place v (omega (arith, h.wide, h.places));
      notes = else words world_place notes_place v (λ x. omega (arith, x)) ∙ h.notes ∙ sym (last_miss is_noted now.events e by.noted);
      heads = λ k lt. else words world_place (head_place k) v (λ x. omega (arith, x)) ∙ h.heads k lt ∙ sym (same_head now.events e k by.rows (by.fills k));
      rows = λ r lt. row_kept P (then now e) words world_place v r (world_elsewhere r)
          (row_grown P now.events e now.cut [] r _ _ _ _ (λ row key at named last.
          let right = rows_right P now.events stand r row at in
          cut_ends P now.events e change by.makes now.cut r row key _ all at named (begins_low P now.events right.key row.first right.right.begun).1 last) (h.rows r (omega (arith, lt, ap length rs))));
      tops = λ r lt. top_kept (now.events ++ e ∷ []) words world_place v r (world_elsewhere r Top) (top_more now.events (e ∷ []) r _ (h.tops r (omega (arith, lt, ap length rs))));
      cut = λ r c. absurd (contains_none r c);
      loose = loose_kept about now words e world_place v world_elsewhere h;
    }

-- a fill, whose row has its words already
module _ (about : About) (now : Now) (words : List ℕ) (number site first : ℕ) (key : Key) (h : Words about now words) (uncut : now.cut ≡ []) (named : slice_get (keys_of now.events) number ≡ Some key)
    (stored : AreStored about.program.value now.events now.stored (length (rows_of now.events)) number key site first) (low : number < about.keys) where
  abbrev filled : Event
  filled = Ev.Fill number site first

  abbrev filled_word : ℕ
  filled_word = head_word (now.events ++ filled ∷ []) number

  abbrev filled_words : List ℕ
  filled_words = slice_set words (head_place number) filled_word

  abbrev new_row : CacheRow
  new_row = record { key = number; site = site; first = first }

  abbrev count : ℕ
  count = length (rows_of now.events)

  more_rows : rows_of (now.events ++ filled ∷ []) ≡ rows_of now.events ++ new_row ∷ []
  more_rows = rows_append now.events (filled ∷ [])

  linked_head : (k : ℕ) → k < about.keys → (b : Bool) → nat_eq number k ≡ b → slice_index filled_words (head_place k) ≡ head_word (now.events ++ filled ∷ []) k
  linked_head k lt true q =
      let same : number ≡ k = agree number k q in
      subst (λ (j : ℕ). slice_index filled_words (head_place j) ≡ head_word (now.events ++ filled ∷ []) j) same (here words (head_place number) filled_word (omega (arith, h.wide, low)))
  linked_head k lt false q =
      let ne : head_place k ≢ head_place number = λ x. absurd (cc (q, agreed number k (let z : number ≡ k = omega (arith, x) in z))) in
      let links : link_of k (rows_of (now.events ++ filled ∷ [])) ≡ link_of k (rows_of now.events) = ap (link_of k) more_rows ∙ last_miss (λ (x : CacheRow). nat_eq x.key k) (rows_of now.events) new_row q in
      let fills : fill_length k (now.events ++ filled ∷ []) ≡ fill_length k now.events = last_miss (is_fill_of k) now.events filled q in
      else words (head_place number) (head_place k) filled_word ne ∙ h.heads k lt ∙ sym (λ j. links j + upper * fills j)

  which : (r m : ℕ) → r < m + 1 → (r < m) ⊎ (m ≡ r)
  which r m lt = grind (arith, lt)

  linked_row : IsRow about.program.value (then_linked now filled) words count
  linked_row = record {
    row = new_row;
    stands = ap (λ (xs : List CacheRow). slice_get xs count) more_rows ∙ get_push (rows_of now.events) new_row;
    key = key;
    named = named_more now.events (filled ∷ []) number key named;
    site_word = h.loose count Site site (omega arith) stored.site_word;
    first_word = h.loose count First first (omega arith) stored.first_word;
    last_word =
        subst (λ (x : ℕ). IsLastWith about.program.value (now.events ++ filled ∷ []) [] count key first x) (sym (h.loose count Last stored.last (omega arith) stored.last_word))
        (inr (contains_none count, last_on about.program.value now.events filled refl key first stored.last stored.last_world));
    next_word = h.loose count Next (link_of number (rows_of now.events)) (omega arith) stored.next_word
        ∙ ap (link_of number) (sym (ap (take count) more_rows ∙ take_short (rows_of now.events) (new_row ∷ []) count (omega arith) ∙ take_whole (rows_of now.events)));
  }

  linked_top : IsTopWord (now.events ++ filled ∷ []) count (slice_index words (row_place count Top))
  linked_top = record {
    row = new_row;
    stands = ap (λ (xs : List CacheRow). slice_get xs count) more_rows ∙ get_push (rows_of now.events) new_row;
    is = h.loose count Top (max first (top_of number (rows_of now.events))) (omega arith) stored.top_word ∙ sym (ap (λ (xs : List CacheRow). top_of number (take (suc count) xs)) more_rows ∙ top_next (rows_of now.events) new_row);
  }

  each_top : (r : ℕ) → (r < count) ⊎ (count ≡ r) → IsTopWord (now.events ++ filled ∷ []) r (slice_index filled_words (row_place r Top))
  each_top r (inl lt) = top_kept (now.events ++ filled ∷ []) words (head_place number) filled_word r (head_elsewhere r number Top) (top_more now.events (filled ∷ []) r _ (h.tops r lt))
  each_top r (inr same) =
      subst (λ (q : ℕ). IsTopWord (now.events ++ filled ∷ []) q (slice_index filled_words (row_place q Top))) same
      (top_kept (now.events ++ filled ∷ []) words (head_place number) filled_word count (head_elsewhere count number Top) linked_top)

  each_row : (r : ℕ) → (r < count) ⊎ (count ≡ r) → IsRow about.program.value (then_linked now filled) filled_words r
  each_row r (inl lt) = row_kept about.program.value (then_linked now filled) words (head_place number) filled_word r (head_elsewhere r number)
      (row_grown about.program.value now.events filled now.cut [] r _ _ _ _
      (λ row key at named last. last_kept about.program.value now.events filled refl r key row.first (slice_index words (row_place r Last)) (subst (λ xs. IsLastWith about.program.value now.events xs r key row.first (slice_index words (row_place r Last))) uncut last)) (h.rows r lt))
  each_row r (inr same) =
      subst (λ (q : ℕ). IsRow about.program.value (then_linked now filled) filled_words q) same (row_kept about.program.value (then_linked now filled) words (head_place number) filled_word count (head_elsewhere count number) linked_row)

  pub words_linked : Words about (then_linked now filled) filled_words
  words_linked = record {
    places = h.places;
    wide = length-set words (head_place number) filled_word ∙ h.wide;
    world = else words (head_place number) world_place filled_word (λ x. omega (arith, x)) ∙ h.world ∙ sym (same_world_word now.events filled refl refl);
    notes = else words (head_place number) notes_place filled_word (λ x. omega (arith, x)) ∙ h.notes ∙ sym (last_miss is_noted now.events filled refl);
    heads = λ k lt. linked_head k lt (nat_eq number k) refl;
    rows = λ r lt. each_row r (which r count (omega (arith, lt, ap length more_rows, length-append (rows_of now.events) (new_row ∷ []))));
    tops = λ r lt. each_top r (which r count (omega (arith, lt, ap length more_rows, length-append (rows_of now.events) (new_row ∷ []))));
    cut = λ r c. absurd (contains_none r c);
    loose = λ r w n free is. absurd cc;
  }

-- a row without an end is cut at the present world
module _ (about : About) (now : Now) (words : List ℕ) (q : ℕ) (h : Words about now words) (room : length (rows_of now.events) ≤ about.rows) (open_row : IsOpenRow about.program.value now.events q) where
  abbrev cut_words : List ℕ
  cut_words = slice_set words (row_place q Last) (world_of now.events)

  abbrev with_cut : Now
  with_cut = record { events = now.events; cut = q ∷ now.cut; stored = now.stored }

  not_cut : (r : ℕ) → (q ≡ r → ⊥) → (key : Key) (first last : ℕ) → IsLastWith about.program.value now.events now.cut r key first last → IsLastWith about.program.value now.events (q ∷ now.cut) r key first last
  not_cut r ne key first last (inl (c, e)) = inl (contains_behind now.cut r q c, e)
  not_cut r ne key first last (inr (not, x)) = inr ((λ c. ⊎_elim (λ e. ne e) (λ d. not d) (contains_cons now.cut r q c)), x)

  cut_row : (r : ℕ) → r < length (rows_of now.events) → (b : Bool) → nat_eq q r ≡ b → IsRow about.program.value with_cut cut_words r
  cut_row r lt true e =
      let same : q ≡ r = agree q r e in
      let old = h.rows r lt in
      record {
        row = old.row;
        stands = old.stands;
        key = old.key;
        named = old.named;
        site_word = else words (row_place q Last) (row_place r Site) (world_of now.events) (λ x. omega (arith, x)) ∙ old.site_word;
        first_word = else words (row_place q Last) (row_place r First) (world_of now.events) (λ x. omega (arith, x)) ∙ old.first_word;
        last_word = inl (contains_front now.cut r q same, ap (λ (n : ℕ). slice_index cut_words (row_place n Last)) (sym same) ∙ here words (row_place q Last) (world_of now.events) (omega (arith, h.wide, room, lt, same)));
        next_word = else words (row_place q Last) (row_place r Next) (world_of now.events) (λ x. omega (arith, x)) ∙ old.next_word;
      }
  cut_row r lt false e =
      let ne : q ≡ r → ⊥ = λ x. absurd (cc (e, agreed q r x)) in
      let old = h.rows r lt in
      row_kept about.program.value with_cut words (row_place q Last) (world_of now.events) r (other_elsewhere r q Last (λ x. ne (sym x))) (record {
        row = old.row;
        stands = old.stands;
        key = old.key;
        named = old.named;
        site_word = old.site_word;
        first_word = old.first_word;
        last_word = not_cut r ne old.key old.row.first _ old.last_word;
        next_word = old.next_word;
      })

  pub words_cut : Words about with_cut cut_words
  words_cut = record {
    places = h.places;
    wide = length-set words (row_place q Last) (world_of now.events) ∙ h.wide;
    world = else words (row_place q Last) world_place (world_of now.events) (λ x. omega (arith, x)) ∙ h.world;
    notes = else words (row_place q Last) notes_place (world_of now.events) (λ x. omega (arith, x)) ∙ h.notes;
    heads = λ k lt. else words (row_place q Last) (head_place k) (world_of now.events) (λ x. omega (arith, x)) ∙ h.heads k lt;
    rows = λ r lt. cut_row r lt (nat_eq q r) refl;
    tops = λ r lt. top_kept now.events words (row_place q Last) (world_of now.events) r (λ x. omega (arith, x)) (h.tops r lt);
    cut = λ r c. ⊎_elim (λ e. subst (IsOpenRow about.program.value now.events) e open_row) (λ d. h.cut r d) (contains_cons now.cut r q c);
    loose = λ r w n free is.
        else words (row_place q Last) (row_place r w) (world_of now.events) (other_elsewhere r q Last (λ e. omega (arith, e, free, slice_get_within (rows_of now.events) q open_row.row open_row.stands)) w)
        ∙ h.loose r w n free is;
  }

-- a word of a row that is not linked
module _ (about : About) (now : Now) (words : List ℕ) (q : ℕ) (x : RowWord) (v : ℕ) (h : Words about now words) (free : length (rows_of now.events) ≤ q) (low : q < about.rows) where
  abbrev with_stored : Now
  with_stored = record { events = now.events; cut = now.cut; stored = record { place = row_place q x; value = v } ∷ now.stored }

  known : (r : ℕ) (w : RowWord) (n : ℕ) → length (rows_of now.events) ≤ r → (b : Bool) → nat_eq (row_place q x) (row_place r w) ≡ b → cond b (Some v) (stored_word now.stored (row_place r w)) ≡ Some n
      → slice_index (slice_set words (row_place q x) v) (row_place r w) ≡ n
  known r w n out true e is = ap (slice_index (slice_set words (row_place q x) v)) (sym (agree (row_place q x) (row_place r w) e)) ∙ here words (row_place q x) v (omega (arith, h.wide, low, offset_high x)) ∙ same_Some v n is
  known r w n out false e is = else words (row_place q x) (row_place r w) v (λ z. absurd (cc (e, agreed (row_place q x) (row_place r w) (sym z)))) ∙ h.loose r w n out is

  pub words_stored : Words about with_stored (slice_set words (row_place q x) v)
  words_stored = record {
    places = h.places;
    wide = length-set words (row_place q x) v ∙ h.wide;
    world = else words (row_place q x) world_place v (λ e. omega (arith, e, offset_low x)) ∙ h.world;
    notes = else words (row_place q x) notes_place v (λ e. omega (arith, e, offset_low x)) ∙ h.notes;
    heads = λ k lt. else words (row_place q x) (head_place k) v (λ e. omega (arith, e, offset_low x, offset_high x)) ∙ h.heads k lt;
    rows = λ r lt. row_kept about.program.value with_stored words (row_place q x) v r (other_elsewhere r q x (λ e. omega (arith, e, lt, free))) (h.rows r lt);
    tops = λ r lt. top_kept now.events words (row_place q x) v r (other_elsewhere r q x (λ e. omega (arith, e, lt, free)) Top) (h.tops r lt);
    cut = h.cut;
    loose = λ r w n out is. known r w n out (nat_eq (row_place q x) (row_place r w)) refl is;
  }
