-- A search of the rows of a key, from what was loaded of each.
use Rattle.std.proofs.Common.{◌≡◌, ◌∙◌, ap, sym, subst, refl, ℕ, zero, suc, ◌+◌, ◌<◌, ◌≤◌, ◌⊎◌, inl, inr, ⊎_elim, arith, Bool, false, true≢false, nat_eq, List, length, take, slice_get, Some}
use Rattle.jl_model.specs.declared.ty.Key.{Key}
use Rattle.jl_program.specs.declared.tree.Program.{Program}
use Rattle.jl_calculus.specs.declared.history.Event.{Event}
use Rattle.jl_calculus.specs.Legal.{MayStand}
use Rattle.jl_calculus.specs.Learnt.{IsNamed, IsUncovered}
use Rattle.jl_calculus.specs.Ranges.{CacheRow, keys_of, rows_of, Covers, MayBegin, IsRightFill, SelectsSite}
use Rattle.jl_calculus.specs.Words.{link_of}
use Rattle.jl_calculus.specs.World.{world_of}
use Rattle.jl_calculus.proofs.BetweenLemmas.{row_tells}
use Rattle.jl_calculus.proofs.KeyLemmas.{key_proper}
use Rattle.jl_world.specs.declared.row_word.RowWord.{RowWord}
use Rattle.jl_world.specs.declared.row_word.RowWord.TheVariants.{Site, First, Last, Next, Top}
use Rattle.jl_world.specs.declared.view.TaskView.{TaskView}
use Rattle.jl_world.specs.Tells.{IsLastSeen, IsWordOf, IsRowWord}
use Rattle.jl_world.specs.Tops.{top_of}
use Rattle.jl_world.proofs.Growth.{agree, agreed}
use Rattle.jl_world.proofs.Lists.{IsLast, one_there, contains_at, place_in, get_taken, get_whole, take_low, last_low, none_met, last_is}
use Rattle.jl_world.proofs.Rights.{begins_low, rows_right}
use Rattle.jl_world.proofs.TopLemmas.{top_bound}
use Rattle.jl_cache.specs.Finds.{IsHit, Reaches}

abbrev pub has_key : ℕ → CacheRow → Bool
has_key k row = nat_eq row.key k

-- a row with these words covers a world that was seen exactly where it is in the range that they tell
module _ (P : Program) (es : List Event) (key : Key) (first last w : ℕ) (begins : MayBegin P es key first) (seen : w ≤ world_of es) (is : IsLastSeen P es key first last) where
  pub covers_so : first ≤ w → Reaches last w → Covers P es key first w
  covers_so low reach = by is reach
    where
      by : IsLastSeen P es key first last → Reaches last w → Covers P es key first w
      by (inl h) r = record { begun = low; going = λ d l m t. h.0 d l t }
      by (inr h) (inl z) = absurd (omega (arith, h.covers.begun, z, (begins_low P es key first begins).0))
      by (inr h) (inr le) = record { begun = low; going = λ d l m t. h.covers.going d l (omega (arith, m, le)) t }

  pub reaches_so : Covers P es key first w → Reaches last w
  reaches_so c = by is
    where
      which : (a b : ℕ) → (a ≤ b) ⊎ (b < a)
      which a b = grind arith

      by : IsLastSeen P es key first last → Reaches last w
      by (inl h) = ⊎_elim (λ z. inl z) (λ le. inr (omega (arith, le, seen))) h.1
      by (inr h) = ⊎_elim (λ le. inr le) (λ lt. absurd (c.going (last + 1) (omega (arith, h.covers.begun)) (omega (arith, lt)) h.touched)) (which w last)

-- the rows of the key from the link on were tried, and do not cover the world
pub record Tried (P : Program) (es : List Event) (number w link : ℕ) : Type 0 where
  pub low : link ≤ length (rows_of es)
  pub row : (j : ℕ) → link ≡ suc j → (row : CacheRow) × (slice_get (rows_of es) j ≡ Some row) × (row.key ≡ number)
  pub none_yet : (m : ℕ) (row : CacheRow) (key : Key) → link ≤ m → slice_get (rows_of es) m ≡ Some row → row.key ≡ number → IsNamed es number key → Covers P es key row.first w → ⊥

-- what a link of some of the rows tells: there is none of the key, or it is the last
abbrev LinkTells : ℕ → List CacheRow → ℕ → Type 0
LinkTells k rs l = ((l ≡ 0) × ((m : ℕ) (row : CacheRow) → slice_get rs m ≡ Some row → has_key k row ≡ false)) ⊎ ((j : ℕ) × (l ≡ suc j) × IsLast (has_key k) rs j)

link_tells : (k : ℕ) (rs : List CacheRow) → LinkTells k rs (link_of k rs)
link_tells k rs = by (link_of k rs) refl
  where
    by : (l : ℕ) → link_of k rs ≡ l → LinkTells k rs l
    by zero e = inl (refl, λ m row at. none_met (has_key k) rs e m row at)
    by (suc j) e = inr (j, refl, last_is (has_key k) rs j e)

not_key : (k : ℕ) (row : CacheRow) → has_key k row ≡ false → row.key ≡ k → ⊥
not_key k row no_key e = true≢false (sym (agreed row.key k e) ∙ no_key)

module _ (P : Program) (es : List Event) (number w : ℕ) where
  pub tried_first : (link : ℕ) → link ≡ link_of number (rows_of es) → Tried P es number w link
  tried_first link is = by (link_tells number (rows_of es))
    where
      by : LinkTells number (rows_of es) (link_of number (rows_of es)) → Tried P es number w link
      by (inl t) = record {
        low = omega (arith, is, t.0);
        row = λ j e. absurd (omega (arith, is, t.0, e));
        none_yet = λ m row key le at of named c. not_key number row (t.1 m row at) of;
      }
      by (inr (j, e, t)) = record {
        low = omega (arith, is, last_low (has_key number) (rows_of es));
        row = λ i f. let same : j ≡ i = omega (arith, is, e, f) in (t.x, subst (λ n. slice_get (rows_of es) n ≡ Some t.x) same t.at, agree t.x.key number t.hit);
        none_yet = λ m row key le at of named c. not_key number row (t.later m row (omega (arith, is, e, le)) at) of;
      }

  -- the row at the link does not cover the world, so the search goes on at its next
  pub tried_next : (j next : ℕ) (row : CacheRow) (key : Key) → Tried P es number w (suc j) → slice_get (rows_of es) j ≡ Some row → row.key ≡ number → IsNamed es number key → (Covers P es key row.first w → ⊥)
      → next ≡ link_of number (take j (rows_of es)) → Tried P es number w next
  tried_next j next row key tried at of named fails is = by (link_tells number (take j (rows_of es)))
    where
      side : (m j : ℕ) → (m < j) ⊎ ((j ≡ m) ⊎ (suc j ≤ m))
      side m j = grind arith

      -- at this row and behind it
      behind : (m : ℕ) (x : CacheRow) (k : Key) → slice_get (rows_of es) m ≡ Some x → x.key ≡ number → IsNamed es number k → Covers P es k x.first w → (j ≡ m) ⊎ (suc j ≤ m) → ⊥
      behind m x k here of_x named_x c (inl same) =
          let rows_same : x ≡ row = one_there (rows_of es) j x row (subst (λ n. slice_get (rows_of es) n ≡ Some x) (sym same) here) at in
          let keys_same : k ≡ key = one_there (keys_of es) number k key named_x named in
          fails (subst (λ (y : CacheRow). Covers P es key y.first w) rows_same (subst (λ (y : Key). Covers P es y x.first w) keys_same c))
      behind m x k here of_x named_x c (inr le) = tried.none_yet m x k le here of_x named_x c

      by : LinkTells number (take j (rows_of es)) (link_of number (take j (rows_of es))) → Tried P es number w next
      by (inl t) = record {
        low = omega (arith, is, t.0);
        row = λ i e. absurd (omega (arith, is, t.0, e));
        none_yet = λ m x k le here of_x named_x c. ⊎_elim (λ lt. not_key number x (t.1 m x (get_taken (rows_of es) j m x here lt)) of_x) (λ s. behind m x k here of_x named_x c s) (side m j);
      }
      by (inr (i, e, t)) = record {
        low = omega (arith, is, last_low (has_key number) (take j (rows_of es)), take_low j (rows_of es), tried.low);
        row = λ n f. let same : i ≡ n = omega (arith, is, e, f) in (t.x, subst (λ z. slice_get (rows_of es) z ≡ Some t.x) same (get_whole (rows_of es) j i t.x t.at), agree t.x.key number t.hit);
        none_yet = λ m x k le here of_x named_x c.
            ⊎_elim (λ lt. not_key number x (t.later m x (omega (arith, is, e, le)) (get_taken (rows_of es) j m x here lt)) of_x) (λ s. behind m x k here of_x named_x c s) (side m j);
      }

  -- no row of the key up to this one begins later, and this one begins by the world: those that begin earlier end before it begins
  pub tried_stop : (j : ℕ) (row : CacheRow) (key : Key) → Tried P es number w (suc j) → MayStand P es → slice_get (rows_of es) j ≡ Some row → IsNamed es number key → MayBegin P es key row.first → row.first ≤ w
      → row.first ≡ top_of number (take (suc j) (rows_of es)) → (Covers P es key row.first w → ⊥) → Tried P es number w 0
  tried_stop j row key tried stand at named begins low top fails = record {
    low = omega arith;
    row = λ i e. absurd (omega (arith, e));
    none_yet = λ m x k le here of_x named_x c. ⊎_elim (λ lt. early m x k here of_x named_x c lt) (λ s. tried.none_yet m x k s here of_x named_x c) (side m j);
  }
    where
      side : (m j : ℕ) → (m < suc j) ⊎ (suc j ≤ m)
      side m j = grind arith

      apart : (a b : ℕ) → a ≤ b → (a ≡ b) ⊎ (a < b)
      apart a b le = grind (arith, le)

      older : (m : ℕ) (x : CacheRow) → slice_get (rows_of es) m ≡ Some x → Covers P es key x.first w → x.first < row.first → MayBegin P es key row.first → ⊥
      older m x here c lt (inl first) =
          let right = rows_right P es stand m x here in
          omega (arith, first, lt, (begins_low P es right.key x.first right.right.begun).0)
      older m x here c lt (inr t) = c.going row.first lt low t.1

      early : (m : ℕ) (x : CacheRow) (k : Key) → slice_get (rows_of es) m ≡ Some x → x.key ≡ number → IsNamed es number k → Covers P es k x.first w → m < suc j → ⊥
      early m x k here of_x named_x c lt =
          let keys_same : k ≡ key = one_there (keys_of es) number k key named_x named in
          let covers : Covers P es key x.first w = subst (λ (y : Key). Covers P es y x.first w) keys_same c in
          let le : x.first ≤ row.first = omega (arith, top, top_bound number (take (suc j) (rows_of es)) m x (get_taken (rows_of es) (suc j) m x here lt) of_x) in
          ⊎_elim (λ (e : x.first ≡ row.first). fails (subst (λ n. Covers P es key n w) e covers)) (λ (l : x.first < row.first). older m x here covers l begins) (apart x.first row.first le)

  -- no row is left
  pub tried_all : Tried P es number w 0 → IsUncovered P es number w
  tried_all tried key named (row, c) =
      let (m, at) = place_in (rows_of es) row c.stands in
      tried.none_yet m row key (omega arith) at c.of_key named c.covers

-- ---- a row whose words were loaded

-- the row at a link, with its key
pub record IsAt (P : Program) (es : List Event) (number j : ℕ) : Type 0 where
  pub stand : MayStand P es
  pub row : CacheRow
  pub at : slice_get (rows_of es) j ≡ Some row
  pub of_key : row.key ≡ number
  pub key : Key
  pub named : IsNamed es number key
  pub right : IsRightFill P es key row.site row.first

module _ (P : Program) (es : List Event) (number w : ℕ) where
  pub at_link : (j n : ℕ) (x : RowWord) → Tried P es number w (suc j) → IsRowWord P es j x n → IsAt P es number j
  at_link j n x tried h =
      let (row, at, of) = tried.row j refl in
      let same : h.row ≡ row = one_there (rows_of es) j h.row row h.stands at in
      let of_h : h.row.key ≡ number = ap (λ (y : CacheRow). y.key) same ∙ of in
      record { stand = h.stand; row = h.row; at = h.stands; of_key = of_h; key = h.key; named = subst (λ k. slice_get (keys_of es) k ≡ Some h.key) of_h h.named; right = h.right }

  -- a word of this row
  pub word_there : (j n : ℕ) (x : RowWord) (a : IsAt P es number j) → IsRowWord P es j x n → IsWordOf P es j a.row a.key x n
  word_there j n x a h =
      let same : h.row ≡ a.row = one_there (rows_of es) j h.row a.row h.stands a.at in
      let of_h : h.row.key ≡ number = ap (λ (y : CacheRow). y.key) same ∙ a.of_key in
      let keys_same : h.key ≡ a.key = one_there (keys_of es) number h.key a.key (subst (λ k. slice_get (keys_of es) k ≡ Some h.key) of_h h.named) a.named in
      subst (λ (z : CacheRow × Key). IsWordOf P es j z.0 z.1 x n) (λ i. (same i, keys_same i)) h.word

  pub find_hit : (j first last site : ℕ) → Tried P es number w (suc j) → w ≤ world_of es → IsRowWord P es j First first → IsRowWord P es j Last last → IsRowWord P es j Site site
      → first ≤ w → Reaches last w → IsHit P es number w site
  find_hit j first last site tried low f l s le reach =
      let a = at_link j first First tried f in
      let first_is : first ≡ a.row.first = word_there j first First a f in
      let covers = covers_so P es a.key a.row.first last w a.right.begun low (word_there j last Last a l) (omega (arith, le, first_is)) reach in
      record {
        known = low;
        key = a.key;
        named = a.named;
        covered = (a.row, record { stands = contains_at (rows_of es) j a.row a.at; of_key = a.of_key; covers = covers });
        choice = λ valid. subst (λ n. SelectsSite P es a.key w n) (sym (word_there j site Site a s).0) (row_tells P valid es a.key a.row.site a.row.first w (key_proper P es number a.key f.stand a.named) a.right covers);
      }

  pub find_on : (j first last next : ℕ) → Tried P es number w (suc j) → w ≤ world_of es → IsRowWord P es j First first → IsRowWord P es j Last last → IsRowWord P es j Next next
      → (first ≤ w → Reaches last w → ⊥) → Tried P es number w next × (next ≤ j)
  find_on j first last next tried low f l n fails =
      let a = at_link j first First tried f in
      let first_is : first ≡ a.row.first = word_there j first First a f in
      let next_is : next ≡ link_of number (take j (rows_of es)) = word_there j next Next a n ∙ ap (λ k. link_of k (take j (rows_of es))) a.of_key in (
        tried_next P es number w j next a.row a.key tried a.at a.of_key a.named
            (λ c. fails (omega (arith, c.begun, first_is)) (reaches_so P es a.key a.row.first last w a.right.begun low (word_there j last Last a l) c)) next_is,
        omega (arith, next_is, last_low (has_key number) (take j (rows_of es)), take_low j (rows_of es)),
      )

  pub find_stop : (j first last : ℕ) → Tried P es number w (suc j) → w ≤ world_of es → IsRowWord P es j First first → IsRowWord P es j Last last → IsRowWord P es j Top first → first ≤ w
      → (first ≤ w → Reaches last w → ⊥) → Tried P es number w 0
  find_stop j first last tried low f l t begun fails =
      let a = at_link j first First tried f in
      let first_is : first ≡ a.row.first = word_there j first First a f in
      let top : first ≡ top_of number (take (suc j) (rows_of es)) = word_there j first Top a t ∙ ap (λ k. top_of k (take (suc j) (rows_of es))) a.of_key in
      tried_stop P es number w j a.row a.key tried a.stand a.at a.named a.right.begun (omega (arith, first_is, begun)) (sym first_is ∙ top)
      (λ c. fails begun (reaches_so P es a.key a.row.first last w a.right.begun low (word_there j last Last a l) c))

-- the same of a view that is the same
pub told_at : (P : Program) (a b : TaskView) (j n : ℕ) (x : RowWord) → a ≡ b → IsRowWord P a.seen j x n → IsRowWord P b.seen j x n
told_at P a b j n x e h = subst (λ (v : TaskView). IsRowWord P v.seen j x n) e h
