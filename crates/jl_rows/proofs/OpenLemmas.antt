-- At most one row of a key has no end.
use Rattle.std.proofs.Common.{◌≡◌, ◌∙◌, ap, sym, subst, refl, arith, ℕ, ◌<◌, ◌≤◌, ◌⊎◌, inl, inr, List, [], ◌∷◌, ◌++◌, length, slice_get, append-nil, Some}
use Rattle.std.specs.List.{Contains}
use Rattle.jl_model.specs.declared.ty.Key.{Key}
use Rattle.jl_program.specs.declared.tree.Program.{Program}
use Rattle.jl_calculus.specs.declared.history.Event.{Event}
use Rattle.jl_calculus.specs.declared.history.Event.TheVariants as Ev
use Rattle.jl_calculus.specs.Legal.{MayCome, MayStand}
use Rattle.jl_calculus.specs.Ranges.{CacheRow, keys_of, rows_of, Covers, HasNoEnd, MayBegin}
use Rattle.jl_calculus.specs.World.{world_of}
use Rattle.jl_calculus.proofs.GrowthLemmas.{rows_append}
use Rattle.jl_calculus.proofs.RowLemmas.{one_first}
use Rattle.jl_program.specs.Prelude.{prelude_count}
use Rattle.jl_methods.specs.declared.newest.NewestRow.{NewestRow}
use Rattle.jl_methods.specs.Newest.{IsNewest}
use Rattle.jl_world.specs.Rule.{IsOpenRow}
use Rattle.jl_world.proofs.Growth.{each_grow}
use Rattle.jl_world.proofs.Lists.{contains_at, get_pushed, one_there}
use Rattle.jl_world.proofs.Rights.{rows_right, begins_low}
use Rattle.jl_rows.specs.Open.{IsOpenOf}

-- ---- no two rows have one key and one first world

abbrev pub RowsDiffer : List CacheRow → Type 0
RowsDiffer rows = (r s : ℕ) (a b : CacheRow) → slice_get rows r ≡ Some a → slice_get rows s ≡ Some b → a.key ≡ b.key → a.first ≡ b.first → r ≡ s

row_pushed : (rows : List CacheRow) (new : CacheRow) → RowsDiffer rows → ((row : CacheRow) → Contains rows row → row.key ≡ new.key → row.first ≡ new.first → ⊥) → RowsDiffer (rows ++ new ∷ [])
row_pushed rows new h fresh r s a b x y key first = by (get_pushed rows new a r x) (get_pushed rows new b s y)
  where
    by : ((r < length rows) × (slice_get rows r ≡ Some a)) ⊎ ((r ≡ length rows) × (new ≡ a)) → ((s < length rows) × (slice_get rows s ≡ Some b)) ⊎ ((s ≡ length rows) × (new ≡ b)) → r ≡ s
    by (inl p) (inl q) = h r s a b p.1 q.1 key first
    by (inl p) (inr q) =
        absurd (fresh a (contains_at rows r a p.1) (key ∙ ap (λ (z : CacheRow). z.key) (sym q.1)) (first ∙ ap (λ (z : CacheRow). z.first) (sym q.1)))
    by (inr p) (inl q) =
        absurd (fresh b (contains_at rows s b q.1) (sym key ∙ ap (λ (z : CacheRow). z.key) (sym p.1)) (sym first ∙ ap (λ (z : CacheRow). z.first) (sym p.1)))
    by (inr p) (inr q) = p.0 ∙ sym q.0

module _ (P : Program) where
  no_row : (past : List Event) (e : Event) → rows_of (e ∷ []) ≡ [] → RowsDiffer (rows_of past) → RowsDiffer (rows_of (past ++ e ∷ []))
  no_row past e z h =
      let same : rows_of (past ++ e ∷ []) ≡ rows_of past = rows_append past (e ∷ []) ∙ ap (λ (xs : List CacheRow). rows_of past ++ xs) z ∙ append-nil (rows_of past) in
      subst RowsDiffer (sym same) h

  one_more : (past : List Event) (e : Event) → RowsDiffer (rows_of past) → MayCome P past e → RowsDiffer (rows_of (past ++ e ∷ []))
  one_more past (Ev.Begin fuel) h m = no_row past (Ev.Begin fuel) refl h
  one_more past (Ev.Key key) h m = no_row past (Ev.Key key) refl h
  one_more past (Ev.Def task site) h m = no_row past (Ev.Def task site) refl h
  one_more past (Ev.Del task place) h m = no_row past (Ev.Del task place) refl h
  one_more past (Ev.Spawn task child start) h m = no_row past (Ev.Spawn task child start) refl h
  one_more past (Ev.Done task ended) h m = no_row past (Ev.Done task ended) refl h
  one_more past (Ev.Fill number site first) h m =
      let new : CacheRow = record { key = number; site = site; first = first } in
      subst RowsDiffer (sym (rows_append past (Ev.Fill number site first ∷ []))) (row_pushed (rows_of past) new h m.new)

  pub rows_differ : (es : List Event) → MayStand P es → RowsDiffer (rows_of es)
  rows_differ es h = each_grow P (λ xs. RowsDiffer (rows_of xs)) one_more [] es (λ r s a b x y key first. absurd cc) h.come

  -- ---- rows without an end

  -- a row of a key without an end covers the newest world
  record CoversNewest (es : List Event) (key : Key) (first : ℕ) : Type 0 where
    pub begun : MayBegin P es key first
    pub covers : Covers P es key first (world_of es)

  covers_newest : (es : List Event) → MayStand P es → (number r : ℕ) (key : Key) → slice_get (keys_of es) number ≡ Some key → (h : IsOpenOf P es number r) → CoversNewest es key h.is_open.row.first
  covers_newest es stand number r key named h =
      let o = h.is_open in
      let right = rows_right P es stand r o.row o.stands in
      let right_key : right.key ≡ key = one_there (keys_of es) number right.key key (subst (λ n. slice_get (keys_of es) n ≡ Some right.key) h.of_key right.named) named in
      let open_key : o.key ≡ key = one_there (keys_of es) number o.key key (subst (λ n. slice_get (keys_of es) n ≡ Some o.key) h.of_key o.named) named in
      let begun : MayBegin P es key o.row.first = subst (λ (k : Key). MayBegin P es k o.row.first) right_key right.right.begun in
      let no_end : HasNoEnd P es key o.row.first = subst (λ (k : Key). HasNoEnd P es k o.row.first) open_key o.no_end in
      record { begun = begun; covers = record { begun = (begins_low P es key o.row.first begun).1; going = λ d low high t. no_end d low t } }

  pub one_open : (es : List Event) → MayStand P es → (number r s : ℕ) → IsOpenOf P es number r → IsOpenOf P es number s → r ≡ s
  one_open es stand number r s h k =
      let a = h.is_open in
      let b = k.is_open in
      let named : slice_get (keys_of es) number ≡ Some a.key = subst (λ n. slice_get (keys_of es) n ≡ Some a.key) h.of_key a.named in
      let x = covers_newest es stand number r a.key named h in
      let y = covers_newest es stand number s a.key named k in
      rows_differ es stand r s a.row b.row a.stands b.stands (h.of_key ∙ sym k.of_key)
      (one_first P es a.key a.row.first b.row.first (world_of es) x.begun y.begun x.covers y.covers)

  -- a row without an end is the newest one of its key
  pub newest_open : (es : List Event) → MayStand P es → (number r : ℕ) (newest : NewestRow) → IsNewest (rows_of es) number newest → IsOpenOf P es number r → newest.number ≡ r
  newest_open es stand number r newest n h =
      rows_differ es stand newest.number r n.row o.row n.stands o.stands (n.of_key ∙ sym h.of_key) (by begun)
    where
      o : IsOpenRow P es r
      o = h.is_open

      begun : MayBegin P es o.key n.row.first
      begun =
          let right = rows_right P es stand newest.number n.row n.stands in
          let named : slice_get (keys_of es) number ≡ Some right.key = subst (λ k. slice_get (keys_of es) k ≡ Some right.key) n.of_key right.named in
          let open_named : slice_get (keys_of es) number ≡ Some o.key = subst (λ k. slice_get (keys_of es) k ≡ Some o.key) h.of_key o.named in
          subst (λ (k : Key). MayBegin P es k n.row.first) (one_there (keys_of es) number right.key o.key named open_named) right.right.begun

      low : prelude_count ≤ o.row.first
      low = let right = rows_right P es stand r o.row o.stands in (begins_low P es right.key o.row.first right.right.begun).0

      most : o.row.first ≤ newest.first
      most = n.latest o.row (contains_at (rows_of es) r o.row o.stands) h.of_key

      begins : n.row.first ≡ newest.first
      begins = n.begins

      which : (a b : ℕ) → (a < b) ⊎ (b ≤ a)
      which a b = grind arith

      by : MayBegin P es o.key n.row.first → n.row.first ≡ o.row.first
      by (inl e) = omega (arith, e, low, most, begins)
      by (inr (past, t)) = later (which o.row.first n.row.first)
        where
          later : (o.row.first < n.row.first) ⊎ (n.row.first ≤ o.row.first) → n.row.first ≡ o.row.first
          later (inl lt) = absurd (o.no_end n.row.first lt t)
          later (inr le) = omega (arith, le, most, begins)
