-- The largest first world of a key's rows: no row begins later, and it stays when rows come.
use Rattle.std.proofs.Common.{◌≡◌, ◌∙◌, ap, sym, subst, refl, ℕ, zero, suc, ◌<◌, ◌≤◌, max, arith, Bool, true, false, cond, nat_eq, List, [], ◌∷◌, ◌++◌, length, take, slice_get, length-append, Some}
use Rattle.std.proofs.lemmas.Option.{same_Some, slice_get_within}
use Rattle.jl_calculus.specs.declared.history.Event.{Event}
use Rattle.jl_calculus.specs.Ranges.{CacheRow, rows_of}
use Rattle.jl_calculus.specs.Words.{one_past, link_of}
use Rattle.jl_calculus.proofs.GrowthLemmas.{rows_append}
use Rattle.jl_world.specs.Tops.{top_of, IsTopWord}
use Rattle.jl_world.proofs.Growth.{agreed}
use Rattle.jl_world.proofs.Lists.{one_there, take_short, take_whole}
use Rattle.jl_world.proofs.Rights.{row_more}

module _ (k : ℕ) where
  -- with one row more of the key
  pub top_push : (rows : List CacheRow) (row : CacheRow) → row.key ≡ k → top_of k (rows ++ row ∷ []) ≡ max row.first (top_of k rows)
  top_push [] row e = ap (λ b. cond b (max row.first 0) 0) (agreed row.key k e)
  top_push (x ∷ rows) row e = by (nat_eq x.key k) (top_push rows row e)
    where
      by : (b : Bool) → top_of k (rows ++ row ∷ []) ≡ max row.first (top_of k rows)
          → cond b (max x.first (top_of k (rows ++ row ∷ []))) (top_of k (rows ++ row ∷ [])) ≡ max row.first (cond b (max x.first (top_of k rows)) (top_of k rows))
      by true h = omega (arith, h)
      by false h = h

  -- no row of the key begins later
  pub top_bound : (rows : List CacheRow) (m : ℕ) (row : CacheRow) → slice_get rows m ≡ Some row → row.key ≡ k → row.first ≤ top_of k rows
  top_bound [] m row at e = absurd cc
  top_bound (x ∷ rows) zero row at e =
      let same : x ≡ row = same_Some x row at in
      let is : top_of k (x ∷ rows) ≡ max x.first (top_of k rows) = ap (λ b. cond b (max x.first (top_of k rows)) (top_of k rows)) (agreed x.key k (ap (λ (y : CacheRow). y.key) same ∙ e)) in
      let first : x.first ≡ row.first = ap (λ (y : CacheRow). y.first) same in
      omega (arith, is, first)
  top_bound (x ∷ rows) (suc m) row at e = by (nat_eq x.key k) (top_bound rows m row at e)
    where
      by : (b : Bool) → row.first ≤ top_of k rows → row.first ≤ cond b (max x.first (top_of k rows)) (top_of k rows)
      by true h = omega (arith, h)
      by false h = h

  -- without a row
  pub top_none : (rows : List CacheRow) → link_of k rows ≡ 0 → top_of k rows ≡ 0
  top_none [] e = refl
  top_none (x ∷ rows) e = by (link_of k rows) (nat_eq x.key k) refl e (λ f. top_none rows f)
    where
      by : (n : ℕ) (b : Bool) → link_of k rows ≡ n → one_past n b ≡ 0 → (link_of k rows ≡ 0 → top_of k rows ≡ 0) → cond b (max x.first (top_of k rows)) (top_of k rows) ≡ 0
      by zero false f e r = r f
      by zero true f e r = absurd (omega (arith, e))
      by (suc n) b f e r = absurd (omega (arith, e))

  -- the last row of a key has that of all
  pub top_last : (rows : List CacheRow) (j : ℕ) → link_of k rows ≡ suc j → top_of k (take (suc j) rows) ≡ top_of k rows
  top_last [] j e = absurd (omega (arith, e))
  top_last (x ∷ rows) j e = by (link_of k rows) (nat_eq x.key k) j refl e (λ n f. top_last rows n f)
    where
      none : (xs : List CacheRow) → top_of k (take 0 xs) ≡ 0
      none [] = refl
      none (y ∷ xs) = refl

      by : (n : ℕ) (b : Bool) (j : ℕ) → link_of k rows ≡ n → one_past n b ≡ suc j → ((n : ℕ) → link_of k rows ≡ suc n → top_of k (take (suc n) rows) ≡ top_of k rows)
          → cond b (max x.first (top_of k (take j rows))) (top_of k (take j rows)) ≡ cond b (max x.first (top_of k rows)) (top_of k rows)
      by zero false j f e r = absurd (omega (arith, e))
      by zero true j f e r =
          let z : 0 ≡ j = omega (arith, e) in
          let empty : top_of k (take j rows) ≡ 0 = subst (λ n. top_of k (take n rows) ≡ 0) z (none rows) in
          ap (max x.first) (empty ∙ sym (top_none rows f))
      by (suc n) b j f e r =
          let z : suc n ≡ j = omega (arith, e) in
          let same : top_of k (take j rows) ≡ top_of k rows = subst (λ m. top_of k (take m rows) ≡ top_of k rows) z (r n f) in
          ap (λ m. cond b (max x.first m) m) same

-- the rows up to one that is there
up_to : (es more : List Event) (r : ℕ) → r < length (rows_of es) → take (suc r) (rows_of (es ++ more)) ≡ take (suc r) (rows_of es)
up_to es more r lt = ap (take (suc r)) (rows_append es more) ∙ take_short (rows_of es) (rows_of more) (suc r) (omega (arith, lt))

-- a row's top word stays
pub top_more : (es more : List Event) (r n : ℕ) → IsTopWord es r n → IsTopWord (es ++ more) r n
top_more es more r n h = record {
  row = h.row;
  stands = row_more es more r h.row h.stands;
  is = h.is ∙ ap (top_of h.row.key) (sym (up_to es more r (slice_get_within (rows_of es) r h.row h.stands)));
}

-- and was the same when fewer events were there
pub top_back : (es more : List Event) (r n : ℕ) (row : CacheRow) → slice_get (rows_of es) r ≡ Some row → IsTopWord (es ++ more) r n → n ≡ top_of row.key (take (suc r) (rows_of es))
top_back es more r n row at h =
    let same : h.row ≡ row = one_there (rows_of (es ++ more)) r h.row row h.stands (row_more es more r row at) in
    let short = up_to es more r (slice_get_within (rows_of es) r row at) in h.is ∙ (λ i. top_of (same i).key (short i))

-- the row that comes next
pub top_next : (rows : List CacheRow) (row : CacheRow) → top_of row.key (take (suc (length rows)) (rows ++ row ∷ [])) ≡ max row.first (top_of row.key rows)
top_next rows row =
    let long : suc (length rows) ≡ length (rows ++ row ∷ []) = omega (arith, length-append rows (row ∷ [])) in
    ap (λ n. top_of row.key (take n (rows ++ row ∷ []))) long ∙ ap (top_of row.key) (take_whole (rows ++ row ∷ [])) ∙ top_push row.key rows row refl
