-- The shared words, computed on a history with three definitions, two keys and three rows.
use Rattle.std.proofs.Common.{◌≡◌, refl, ap, sym, subst, ℕ, zero, suc, ◌<◌, ◌≤◌, inl, inr, List, [], ◌∷◌, ◌++◌, slice_get, arith, Option, Some, None}
use Rattle.std.specs.List.{Contains}
use Rattle.jl_model.specs.declared.ty.Key.{Key}
use Rattle.jl_program.specs.Scope.{types_of}
use Rattle.jl_calculus.specs.declared.history.Event.{Event}
use Rattle.jl_calculus.specs.declared.history.Event.TheVariants as Ev
use Rattle.jl_calculus.specs.Ranges.{CacheRow, keys_of, rows_of, Touches, HasNoEnd, EndsWith}
use Rattle.jl_calculus.specs.Words.{world_word, notes_word, head_word, IsToCut, AreAllCut, IsRowWords}
use Rattle.jl_calculus.proofs.GrowthLemmas.{touches_known}
use Rattle.jl_calculus.proofs.TaskHistories.{Late, key, late_0, late_5, late_9, no_arguments}
use Rattle.jl_calculus.specs.declared.history.Change.TheVariants as Ch

-- one more row, for `f` in the world of its second definition
abbrev es : List Event
es = late_9 ++ Ev.Fill 1 16 17 ∷ []

-- world 14 stands with length 1
first_world : world_word late_0 ≡ 4294967310
first_world = refl

first_notes : notes_word late_0 ≡ 1
first_notes = refl

-- world 17, and the length just after the third definition
last_world_word : world_word es ≡ 21474836497
last_world_word = refl

-- a Done is noted, and a fill after it is not
last_notes : notes_word es ≡ 10
last_notes = refl

-- a key without a row
no_head : head_word late_5 0 ≡ 0
no_head = refl

-- row 0, and the length just after its fill
head_of_late : head_word es 0 ≡ 30064771073
head_of_late = refl

-- row 1, and then row 2
head_of_f : head_word late_9 1 ≡ 38654705666
head_of_f = refl

last_head_of_f : head_word es 1 ≡ 47244640259
last_head_of_f = refl

-- ---- rows

abbrev row : ℕ → ℕ → ℕ → CacheRow
row key site first = record { key = key; site = site; first = first }

rows : rows_of es ≡ row 0 15 16 ∷ row 1 14 15 ∷ row 1 16 17 ∷ []
rows = refl

second_touches : Touches Late es 17 (key 12)
second_touches = (refl, no_arguments (types_of Late))

-- the definition of `late` does not touch the key of `f`
late_touches_not : (d : ℕ) → 15 < d → d ≤ 16 → Touches Late es d (key 12) → ⊥
late_touches_not d low high t = let e : d ≡ 16 = omega (arith, low, high) in absurd (omega (arith, (subst (λ (n : ℕ). Touches Late es n (key 12)) e t).0))

first_ends : EndsWith Late es (key 12) 15 16
first_ends = record { covers = record { begun = omega arith; going = late_touches_not }; touched = second_touches }

second_has_no_end : HasNoEnd Late es (key 12) 17
second_has_no_end d low t = absurd (omega (arith, low, touches_known Late es d (key 12) t))

nothing_cut : (r : ℕ) → Contains {X = ℕ} [] r → ⊥
nothing_cut r (k, l, e) = absurd (omega (arith, l))

-- row 1 ends before the second definition of `f`, and no row of its key stands before it
row_1 : IsRowWords Late es [] 1 14 15 16 0
row_1 = record {
  row = row 1 14 15;
  stands = refl;
  key = key 12;
  named = refl;
  site_word = refl;
  first_word = refl;
  last_word = inr (nothing_cut 1, inr first_ends);
  next_word = refl;
}

-- row 2 has no end, and row 1 stands before it
row_2 : IsRowWords Late es [] 2 16 17 0 2
row_2 = record {
  row = row 1 16 17;
  stands = refl;
  key = key 12;
  named = refl;
  site_word = refl;
  first_word = refl;
  last_word = inr (nothing_cut 2, inl (refl, second_has_no_end));
  next_word = refl;
}

-- where it was cut ahead its last world is the present one
row_2_cut : IsRowWords Late es (2 ∷ []) 2 16 17 17 2
row_2_cut = record {
  row = row 1 16 17;
  stands = refl;
  key = key 12;
  named = refl;
  site_word = refl;
  first_word = refl;
  last_word = inl ((0, omega arith, refl), refl);
  next_word = refl;
}

-- its site word is no other
not_site_14 : IsRowWords Late es [] 2 14 17 0 2 → ⊥
not_site_14 h = absurd (omega (arith, h.site_word, ap (λ (r : CacheRow). r.site) (ap row_or h.stands)))
  where
    row_or : Option CacheRow → CacheRow
    row_or None = row 0 0 0
    row_or (Some r) = r

-- ---- a third definition of `f` ends row 2 alone

abbrev row_of : Option CacheRow → CacheRow
row_of None = row 0 0 0
row_of (Some r) = r

abbrev key_of : Option Key → Key
key_of None = key 0
key_of (Some k) = k

key_is : (r : CacheRow) (k : Key) (found : CacheRow) → r ≡ found → slice_get (keys_of es) found.key ≡ Some k → key_of (slice_get (keys_of es) r.key) ≡ k
key_is r k found e n = ap key_of (subst (λ (x : CacheRow). slice_get (keys_of es) x.key ≡ Some k) (sym e) n)

cut_is_all : AreAllCut Late es (Ch.Def 16) (2 ∷ [])
cut_is_all r = (to r, from r)
  where
    ends : IsToCut Late es (Ch.Def 16) 2
    ends = record { row = row 1 16 17; stands = refl; key = key 12; named = refl; no_end = second_has_no_end; touched = (refl, no_arguments (types_of Late)) }

    to : (r : ℕ) → Contains (2 ∷ []) r → IsToCut Late es (Ch.Def 16) r
    to r (zero, l, e) = subst (IsToCut Late es (Ch.Def 16)) e ends
    to r (suc k, l, e) = absurd (omega (arith, l))

    from : (r : ℕ) → IsToCut Late es (Ch.Def 16) r → Contains (2 ∷ []) r
    from zero h =
        let k : key 13 ≡ h.key = key_is (row 0 15 16) h.key h.row (ap row_of h.stands) h.named in
        absurd (omega (arith, h.touched.0, ap (λ (x : Key). x.function) k))
    from (suc zero) h =
        let q : row 1 14 15 ≡ h.row = ap row_of h.stands in
        let k : key 12 ≡ h.key = key_is (row 1 14 15) h.key h.row q h.named in
        absurd (h.no_end 17 (omega (arith, ap (λ (x : CacheRow). x.first) q)) (subst (Touches Late es 17) k second_touches))
    from (suc (suc zero)) h = (0, omega arith, refl)
    from (suc (suc (suc n))) h = cc
