-- The words of a row that is linked next.
use Rattle.std.proofs.Common.{◌≡◌, ◌∙◌, ap, sym, subst, refl, ℕ, suc, ◌%◌, ◌<◌, ◌≤◌, max, inl, inr, arith, cond, List, ◌∷◌, length, take, Option, Some, None, unwrap_or}
use Rattle.jl_model.specs.declared.ty.Key.{Key}
use Rattle.jl_program.specs.declared.tree.Program.{Program}
use Rattle.jl_calculus.specs.declared.history.Event.{Event}
use Rattle.jl_calculus.specs.Ranges.{CacheRow, rows_of}
use Rattle.jl_calculus.specs.Words.{upper, fill_length, link_of, head_word, IsLastWorld}
use Rattle.jl_world.specs.declared.row_word.RowWord.TheVariants.{Site, First, Last, Next, Top}
use Rattle.jl_world.specs.declared.view.BookView.{BookView}
use Rattle.jl_world.specs.declared.view.Stored.{Stored}
use Rattle.jl_world.specs.Adds.{HasWordsOf}
use Rattle.jl_world.specs.Places.{row_place}
use Rattle.jl_world.specs.Tops.{top_of, IsTopWord}
use Rattle.jl_world.specs.Views.{stored_at, stored_word}
use Rattle.jl_world.proofs.Growth.{agree, agreed, differ}
use Rattle.jl_world.proofs.TopLemmas.{top_last}
use Rattle.jl_world.proofs.Lists.{last_is, last_low, one_there}
use Rattle.jl_world.proofs.Moves.{low_half}
use Rattle.jl_cache.specs.Finds.{IsRangeEnd, HasRangeEnd}
use Rattle.jl_cache.proofs.Tried.{has_key}

found_first : (i v : ℕ) (xs : List Stored) (j : ℕ) → i ≡ j → stored_word (record { place = i; value = v } ∷ xs) j ≡ Some v
found_first i v xs j e = ap (λ b. cond b (Some v) (stored_word xs j)) (agreed i j e)

found_behind : (i v : ℕ) (xs : List Stored) (j : ℕ) → (i ≡ j → ⊥) → stored_word (record { place = i; value = v } ∷ xs) j ≡ stored_word xs j
found_behind i v xs j d = ap (λ b. cond b (Some v) (stored_word xs j)) (differ i j d)

-- the book's view when the words of a row are stored
abbrev pub with_words : ℕ → ℕ → ℕ → ℕ → ℕ → ℕ → BookView → BookView
with_words r site first last next top b = stored_at (row_place r Top) top (stored_at (row_place r Next) next (stored_at (row_place r Last) last (stored_at (row_place r First) first (stored_at (row_place r Site) site b))))

pub range_end : (P : Program) (es : List Event) (key : Key) (first : ℕ) (last : Option ℕ) → IsRangeEnd P es key first last → IsLastWorld P es key first (unwrap_or last 0)
range_end P es key first None h = inl (refl, h)
range_end P es key first (Some last) h = inr h

pub has_words : (P : Program) (b : BookView) (number site first : ℕ) (last : Option ℕ) (r last_word next top : ℕ) → HasRangeEnd P b.events number first last → r ≡ length (rows_of b.events) → last_word ≡ unwrap_or last 0 → next ≡ link_of number (rows_of b.events) → top ≡ max first (top_of number (rows_of b.events))
    → HasWordsOf P (with_words r site first last_word next top b) number site first
has_words P b number site first last r last_word next top (key, named, ends) rows is_last is_next is_top =
    subst (λ (n : ℕ). HasWordsOf P (with_words n site first last_word next top b) number site first) (sym rows) (
      key,
      named,
      record {
        site_word =
            found_behind (row_place q Top) top at_next (row_place q Site) (λ e. omega (arith, e))
            ∙ found_behind (row_place q Next) next at_last (row_place q Site) (λ e. omega (arith, e))
            ∙ found_behind (row_place q Last) last_word at_first (row_place q Site) (λ e. omega (arith, e))
            ∙ found_behind (row_place q First) first at_site (row_place q Site) (λ e. omega (arith, e))
            ∙ found_first (row_place q Site) site b.stored (row_place q Site) refl;
        first_word =
            found_behind (row_place q Top) top at_next (row_place q First) (λ e. omega (arith, e))
            ∙ found_behind (row_place q Next) next at_last (row_place q First) (λ e. omega (arith, e))
            ∙ found_behind (row_place q Last) last_word at_first (row_place q First) (λ e. omega (arith, e))
            ∙ found_first (row_place q First) first at_site (row_place q First) refl;
        last = last_word;
        last_word =
            found_behind (row_place q Top) top at_next (row_place q Last) (λ e. omega (arith, e))
            ∙ found_behind (row_place q Next) next at_last (row_place q Last) (λ e. omega (arith, e))
            ∙ found_first (row_place q Last) last_word at_first (row_place q Last) refl;
        last_world = subst (IsLastWorld P b.events key first) (sym is_last) (range_end P b.events key first last ends);
        next_word = found_behind (row_place q Top) top at_next (row_place q Next) (λ e. omega (arith, e)) ∙ found_first (row_place q Next) next at_last (row_place q Next) refl ∙ ap Some is_next;
        top_word = found_first (row_place q Top) top at_next (row_place q Top) refl ∙ ap Some is_top;
      },
    )
  where
    q : ℕ
    q = length (rows_of b.events)

    at_site : List Stored
    at_site = record { place = row_place (length (rows_of b.events)) Site; value = site } ∷ b.stored

    at_first : List Stored
    at_first = record { place = row_place (length (rows_of b.events)) First; value = first } ∷ record { place = row_place (length (rows_of b.events)) Site; value = site } ∷ b.stored

    at_last : List Stored
    at_last = record { place = row_place (length (rows_of b.events)) Last; value = last_word } ∷ record { place = row_place (length (rows_of b.events)) First; value = first } ∷ record { place = row_place (length (rows_of b.events)) Site; value = site } ∷ b.stored

    at_next : List Stored
    at_next = record { place = row_place (length (rows_of b.events)) Next; value = next } ∷ record { place = row_place (length (rows_of b.events)) Last; value = last_word } ∷ record { place = row_place (length (rows_of b.events)) First; value = first } ∷ record { place = row_place (length (rows_of b.events)) Site; value = site } ∷ b.stored

-- the lower half of a head
pub head_link : (es : List Event) (k head : ℕ) → head ≡ head_word es k → length (rows_of es) < upper → head % upper ≡ link_of k (rows_of es)
head_link es k head is small = ap (λ n. n % upper) is ∙ low_half (link_of k (rows_of es)) (fill_length k es) (omega (arith, last_low (has_key k) (rows_of es), small))

-- what the book's seat reads of the last row of a key
pub top_read : (es : List Event) (k j n : ℕ) → link_of k (rows_of es) ≡ suc j → IsTopWord es j n → n ≡ top_of k (rows_of es)
top_read es k j n is h =
    let last = last_is (has_key k) (rows_of es) j is in
    let same : h.row ≡ last.x = one_there (rows_of es) j h.row last.x h.stands last.at in
    let of : h.row.key ≡ k = ap (λ (y : CacheRow). y.key) same ∙ agree last.x.key k last.hit in
    h.is ∙ ap (λ m. top_of m (take (suc j) (rows_of es))) of ∙ top_last k (rows_of es) j is

-- a row is free
pub row_free : (row all rows : ℕ) → row ≤ all → rows ≡ all → (row ≡ rows → ⊥) → row < all
row_free row all rows le same ne = grind (arith, le, same, ne)
