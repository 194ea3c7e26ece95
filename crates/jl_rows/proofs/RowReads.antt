-- What the words of a key's rows tell.
use Rattle.std.proofs.Common.{◌≡◌, ◌∙◌, ap, sym, subst, ℕ, zero, suc, ◌+◌, ◌<◌, ◌≤◌, inl, inr, arith, true, nat_eq, IsTrue, List, length, drop, get_or, slice_get, Some}
use Rattle.std.specs.Prelude.{◌↔◌}
use Rattle.std.specs.List.{Contains}
use Rattle.std.proofs.lemmas.Bool.{eqb-true, eq-eqb}
use Rattle.std.proofs.lemmas.List.Elements.{Contains-get_or}
use Rattle.std.proofs.lemmas.Option.{slice_get_within}
use Rattle.jl_model.specs.declared.ty.Key.{Key}
use Rattle.jl_program.specs.declared.tree.Program.{Program}
use Rattle.jl_calculus.specs.declared.history.Event.{Event}
use Rattle.jl_calculus.specs.Legal.{MayStand}
use Rattle.jl_calculus.specs.Ranges.{CacheRow, keys_of, rows_of, HasNoEnd}
use Rattle.jl_calculus.specs.Words.{IsLastWith}
use Rattle.jl_methods.specs.Filters.{is_row_of, row_numbers}
use Rattle.jl_methods.proofs.TouchLemmas.{number_of, number_there}
use Rattle.jl_methods.specs.declared.newest.NewestRow.{NewestRow}
use Rattle.jl_methods.specs.Newest.{IsNewest}
use Rattle.jl_world.specs.declared.row_word.RowWord.TheVariants.{First, Last}
use Rattle.jl_world.specs.Tells.{HasRowWord}
use Rattle.jl_world.proofs.Lists.{contains_at, one_there, place_in}
use Rattle.jl_world.proofs.Rights.{rows_right, begins_low}
use Rattle.jl_rows.specs.Open.{IsOpenOf, HasRowFrom}

-- a row of the key of this number
pub record IsRowOf (es : List Event) (number r : ℕ) : Type 0 where
  pub row : CacheRow
  pub stands : slice_get (rows_of es) r ≡ Some row
  pub of_key : row.key ≡ number

pub row_at : (es : List Event) (number r : ℕ) → Contains (row_numbers es number) r → IsRowOf es number r
row_at es number r c =
    let (j, row, e, at, test) = number_of (is_row_of number) 0 (rows_of es) r c in
    let same : j ≡ r = omega (arith, e) in
    record { row = row; stands = subst (λ n. slice_get (rows_of es) n ≡ Some row) same at; of_key = eqb-true row.key number test }

pub row_there : (es : List Event) (number r : ℕ) → IsRowOf es number r → Contains (row_numbers es number) r
row_there es number r h =
    let same : 0 + r ≡ r = omega arith in
    subst (Contains (row_numbers es number)) same (number_there (is_row_of number) 0 (rows_of es) r h.row h.stands (eq-eqb h.row.key number h.of_key))

-- one of the rows of a key, as the index lists them
pub row_in : (es : List Event) (number : ℕ) (rows : List ℕ) (i : ℕ) → rows ≡ row_numbers es number → i < length rows → Contains (row_numbers es number) (get_or rows i 0)
row_in es number rows i e l = subst (λ ns. Contains ns (get_or rows i 0)) e (Contains-get_or rows i 0 l)

-- a walk that ended has looked at all of them
pub all_looked : (es : List Event) (number left r : ℕ) (rows : List ℕ) → rows ≡ row_numbers es number → left ≡ 0 → Contains (row_numbers es number) r → Contains (drop left rows) r
all_looked es number zero r rows e z c = subst (λ ns. Contains ns r) (sym e) c
all_looked es number (suc left) r rows e z c = absurd (omega (arith, z))

pub row_known : (es : List Event) (number r : ℕ) → Contains (row_numbers es number) r → r < length (rows_of es)
row_known es number r c = let h = row_at es number r c in slice_get_within (rows_of es) r h.row h.stands

module _ (P : Program) (es : List Event) (cut : List ℕ) (number r n : ℕ) where
  -- a last world of 0 is none
  pub zero_is_open : MayStand P es → IsRowOf es number r → HasRowWord P es cut r Last n → n ≡ 0 → IsOpenOf P es number r
  zero_is_open stand at (words, w, top, e) z = by w.last_word
    where
      last_zero : words Last ≡ 0
      last_zero = sym e ∙ z

      same : at.row ≡ w.row
      same = one_there (rows_of es) r at.row w.row at.stands w.stands

      by : IsLastWith P es cut r w.key w.row.first (words Last) → IsOpenOf P es number r
      by (inl (c, f)) = absurd (omega (arith, f, last_zero))
      by (inr (not, inl (y, h))) = record {
        is_open = record { row = w.row; stands = w.stands; key = w.key; named = w.named; no_end = h };
        of_key = ap (λ (x : CacheRow). x.key) (sym same) ∙ at.of_key;
      }
      by (inr (not, inr h)) =
          let right = rows_right P es stand r w.row w.stands in
          let low = begins_low P es right.key w.row.first right.right.begun in
          absurd (omega (arith, low.0, h.covers.begun, last_zero))

  -- where there is one, a row without an end is cut
  pub other_is_cut : HasRowWord P es cut r Last n → (n ≡ 0 → ⊥) → IsOpenOf P es number r → Contains cut r
  other_is_cut (words, w, top, e) some h = by w.last_word
    where
      same : h.is_open.row ≡ w.row
      same = one_there (rows_of es) r h.is_open.row w.row h.is_open.stands w.stands

      same_key : h.is_open.key ≡ w.key
      same_key = one_there (keys_of es) w.row.key h.is_open.key w.key (subst (λ (x : CacheRow). slice_get (keys_of es) x.key ≡ Some h.is_open.key) same h.is_open.named) w.named

      no_end : HasNoEnd P es w.key w.row.first
      no_end = subst (λ (x : CacheRow). HasNoEnd P es w.key x.first) same (subst (λ (k : Key). HasNoEnd P es k h.is_open.row.first) same_key h.is_open.no_end)

      by : IsLastWith P es cut r w.key w.row.first (words Last) → Contains cut r
      by (inl (c, f)) = c
      by (inr (not, inl (y, k))) = absurd (some (e ∙ y))
      by (inr (not, inr k)) = absurd (no_end (words Last + 1) (omega (arith, k.covers.begun)) k.touched)

  -- the first world of a row
  pub first_is : IsRowOf es number r → HasRowWord P es cut r First n → (first : ℕ) → n ≡ first → HasRowFrom es number first
  first_is at (words, w, top, e) first f =
      let same : at.row ≡ w.row = one_there (rows_of es) r at.row w.row at.stands w.stands in
      record {
        row = w.row;
        stands = contains_at (rows_of es) r w.row w.stands;
        of_key = ap (λ (x : CacheRow). x.key) (sym same) ∙ at.of_key;
        begins = sym w.first_word ∙ sym e ∙ f;
      }

  pub first_is_not : HasRowWord P es cut r First n → (first : ℕ) → (n ≡ first → ⊥) → (row : CacheRow) → slice_get (rows_of es) r ≡ Some row → row.first ≡ first → ⊥
  first_is_not (words, w, top, e) first differ row stands f =
      let same : row ≡ w.row = one_there (rows_of es) r row w.row stands w.stands in
      differ (e ∙ w.first_word ∙ ap (λ (x : CacheRow). x.first) (sym same) ∙ f)

-- a row of a key that begins in a world has a place
pub from_place : (es : List Event) (number first : ℕ) → HasRowFrom es number first → (r : ℕ) × (row : CacheRow) × (slice_get (rows_of es) r ≡ Some row) × Contains (row_numbers es number) r × (row.first ≡ first)
from_place es number first h =
    let (r, at) = place_in (rows_of es) h.row h.stands in
    (r, h.row, at, row_there es number r (record { row = h.row; stands = at; of_key = h.of_key }), h.begins)

-- ---- the newest row of a key

pub newest_at : (es : List Event) (number : ℕ) (newest : NewestRow) → IsNewest (rows_of es) number newest → IsRowOf es number newest.number
newest_at es number newest n = record { row = n.row; stands = n.stands; of_key = n.of_key }

-- a world that is not below its first world is that of a row only where it is the same
pub newest_from : (es : List Event) (number first : ℕ) (newest : NewestRow) → IsNewest (rows_of es) number newest → newest.first ≤ first → IsTrue (nat_eq newest.first first) ↔ HasRowFrom es number first
newest_from es number first newest n le = (
  λ yes. (let is : newest.first ≡ first = grind (arith, yes) in record { row = n.row; stands = contains_at (rows_of es) newest.number n.row n.stands; of_key = n.of_key; begins = n.begins ∙ is }),
  λ h. (let most = n.latest h.row h.stands h.of_key in let begins = h.begins in let yes : nat_eq newest.first first ≡ true = grind (arith, le, most, begins) in yes),
)
