-- What the code of the order in the text needs.
use Rattle.std.proofs.Common.{◌≡◌, ◌∙◌, sym, ap, refl, ℕ, zero, suc, ◌+◌, ◌<◌, ◌≤◌, arith, Bool, true, false, ◌&&◌, not, cond, nat_lt, min, List, [], ◌∷◌, ◌++◌, append_assoc, length, drop, get_or, slice_set}
use Rattle.std.proofs.Math.Nat.{min-le_left, min-le_right, le-min}
use Rattle.jl_model.specs.declared.ty.Bound.{Bound}
use Rattle.jl_model.proofs.FormLemmas.{put-any, put-union, put-tuple, put-nominal, put-var}
use Rattle.jl_written.specs.declared.reading.Swap.{Swap}
use Rattle.jl_written.specs.Reads.{Types, Typed}
use Rattle.jl_written.specs.TextOrder.{move_place, is_in, move_places, count_from, number_in, renumber_bound, arrange, reorder_types, reorder_type}

pub ruleset puts = (put-any, put-union, put-tuple, put-nominal, put-var)

-- ---- where nothing changes places

pub nothing_ordered : (ss : List Swap) (ts : Types) → length ss ≡ 0 → reorder_types ss ts ≡ ts
nothing_ordered [] ts h = refl
nothing_ordered (s ∷ ss) ts h = absurd (omega (arith, h))

pub nothing_one : (ss : List Swap) (t : Typed) → length ss ≡ 0 → reorder_type ss t ≡ t
nothing_one [] t h = refl
nothing_one (s ∷ ss) t h = absurd (omega (arith, h))

-- ---- a swap, of which those below e are done

abbrev pub moved_to : Swap → ℕ → ℕ → List ℕ → List ℕ
moved_to s e v [] = []
moved_to s e v (p ∷ ps) = cond (is_in s v && nat_lt v e) (move_place s p) p ∷ moved_to s e (v + 1) ps

both : (a b c : Bool) (x y : ℕ) → (a ≡ true → b ≡ c) → cond (a && b) x y ≡ cond (a && c) x y
both true b c x y h = ap (λ z. cond z x y) (h refl)
both false b c x y h = refl

neither : (a b : Bool) (x y : ℕ) → b ≡ false → cond (a && b) x y ≡ y
neither true b x y h = ap (λ z. cond z x y) h
neither false b x y h = refl

lt_false : (v e : ℕ) → e ≤ v → nat_lt v e ≡ false
lt_false v e h = grind (arith, h)

lt_true : (v e : ℕ) → v < e → nat_lt v e ≡ true
lt_true v e h = grind (arith, h)

-- those from e on are as they were
past : (s : Swap) (e v : ℕ) (ps : List ℕ) → e ≤ v → moved_to s e v ps ≡ ps
past s e v [] h = refl
past s e v (p ∷ ps) h =
    let x = neither (is_in s v) (nat_lt v e) (move_place s p) p (lt_false v e h) in
    let y = past s e (v + 1) ps (omega (arith, h)) in cc

not_before : (a b : Bool) (x y : ℕ) → cond ((not a && b) && a) x y ≡ y
not_before true b x y = refl
not_before false true x y = refl
not_before false false x y = refl

-- none is done before the start
pub at_start : (s : Swap) (v : ℕ) (ps : List ℕ) → moved_to s s.start v ps ≡ ps
at_start s v [] = refl
at_start s v (p ∷ ps) =
    let x = not_before (nat_lt v s.start) (nat_lt v s.stop) (move_place s p) p in
    let y = at_start s (v + 1) ps in cc

inside : (s : Swap) (v : ℕ) → s.start ≤ v → v < s.stop → is_in s v ≡ true
inside s v h g = by (nat_lt v s.start) (nat_lt v s.stop) (lt_false v s.start h) (lt_true v s.stop g)
  where
    by : (a b : Bool) → a ≡ false → b ≡ true → (not a && b) ≡ true
    by true b h g = cc
    by false b h g = g

holds : (a b : Bool) (x y : ℕ) → a ≡ true → b ≡ true → cond (a && b) x y ≡ x
holds true b x y h g = ap (λ z. cond z x y) g
holds false b x y h g = cc

-- one more is done
pub one_move_place : (s : Swap) (e v i : ℕ) (d : ℕ) (ps : List ℕ) → e ≡ v + i → s.start ≤ e → e < s.stop → i < length ps
    → slice_set (moved_to s e v ps) i (move_place s (get_or (moved_to s e v ps) i d)) ≡ moved_to s (suc e) v ps
one_move_place s e v i d [] h a b l = absurd (omega (arith, l))
one_move_place s e v zero d (p ∷ ps) h a b l =
    let f : e ≤ v = omega (arith, h) in
    let g : v ≤ e = omega (arith, h) in
    let x = neither (is_in s v) (nat_lt v e) (move_place s p) p (lt_false v e f) in
    let y = past s e (v + 1) ps (omega (arith, h)) in
    let z = holds (is_in s v) (nat_lt v (suc e)) (move_place s p) p (inside s v (omega (arith, a, f)) (omega (arith, b, g))) (lt_true v (suc e) (omega (arith, g))) in
    let w = past s (suc e) (v + 1) ps (omega (arith, h)) in
    ap (λ q. move_place s q ∷ moved_to s e (v + 1) ps) x ∙ ap (λ qs. move_place s p ∷ qs) (y ∙ sym w) ∙ ap (λ q. q ∷ moved_to s (suc e) (v + 1) ps) (sym z)
one_move_place s e v (suc i) d (p ∷ ps) h a b l =
    let x = both (is_in s v) (nat_lt v e) (nat_lt v (suc e)) (move_place s p) p (λ t. lt_true v e (omega (arith, h)) ∙ sym (lt_true v (suc e) (omega (arith, h)))) in
    let y = one_move_place s e (v + 1) i d ps (omega (arith, h)) a b (omega (arith, l)) in
    ap (λ q. q ∷ slice_set (moved_to s e (v + 1) ps) i (move_place s (get_or (moved_to s e (v + 1) ps) i d))) x
    ∙ ap (λ qs. cond (is_in s v && nat_lt v (suc e)) (move_place s p) p ∷ qs) y

also : (a b : Bool) (x y : ℕ) → (a ≡ true → b ≡ true) → cond (a && b) x y ≡ cond a x y
also true b x y h = ap (λ z. cond z x y) (h refl)
also false b x y h = refl

below_stop : (a : Bool) (v e : ℕ) → (not a && nat_lt v e) ≡ true → v < e
below_stop true v e h = absurd (let f : false ≡ true = h in cc)
below_stop false v e h = grind (arith, h)

-- all are done
pub all_done : (s : Swap) (e v : ℕ) (ps : List ℕ) → ((w : ℕ) → w < v + length ps → w < s.stop → w < e) → moved_to s e v ps ≡ move_places s v ps
all_done s e v [] h = refl
all_done s e v (p ∷ ps) h =
    let x = also (is_in s v) (nat_lt v e) (move_place s p) p (λ t. lt_true v e (h v (omega arith) (below_stop (nat_lt v s.start) v s.stop t))) in
    let y = all_done s e (v + 1) ps (λ w l g. h w (omega (arith, l)) g) in cc

pub moved_length : (s : Swap) (e v : ℕ) (ps : List ℕ) → length (moved_to s e v ps) ≡ length ps
moved_length s e v [] = refl
moved_length s e v (p ∷ ps) = ap suc (moved_length s e (v + 1) ps)

-- the loop over the variables that a swap concerns
abbrev pub IsMovedTo : Swap → ℕ → List ℕ → List ℕ → Type 0
IsMovedTo s e ps init = (ps ≡ moved_to s e 0 init) × (s.start ≤ e)

pub move_step : (s : Swap) (init ps : List ℕ) (e x y stop : ℕ) → IsMovedTo s e ps init → e < stop → stop ≡ min s.stop (length init) → x ≡ get_or ps e x → y ≡ move_place s x
    → IsMovedTo s (e + 1) (slice_set ps e y) init
move_step s init ps e x y stop i l m h g =
    let f = i.1 in
    let a = min-le_left s.stop (length init) in
    let b = min-le_right s.stop (length init) in
    let one = one_move_place s e 0 e x init (omega arith) f (omega (arith, l, m, a)) (omega (arith, l, m, b)) in
    let next : suc e ≡ e + 1 = omega arith in (
      ap (λ n. slice_set ps e n) (g ∙ ap (move_place s) h)
          ∙ ap (λ zs. slice_set zs e (move_place s (get_or zs e x))) i.0
          ∙ one
          ∙ ap (λ n. moved_to s n 0 init) next,
      omega (arith, f),
    )

pub move_end : (s : Swap) (init ps : List ℕ) (e stop : ℕ) → IsMovedTo s e ps init → stop ≤ e → stop ≡ min s.stop (length init) → ps ≡ move_places s 0 init
move_end s init ps e stop i l m = i.0 ∙ all_done s e 0 init (λ w a b. within w a b)
  where
    within : (w : ℕ) → w < 0 + length init → w < s.stop → w < e
    within w a b =
        let c : suc w ≤ s.stop = omega (arith, b) in
        let d : suc w ≤ length init = omega (arith, a) in
        let k = le-min {k = suc w} {a = s.stop} {b = length init} c d in
        omega (arith, k, l, m)

-- ---- loops by index

counted_at : (bs : List Bound) (i v k : ℕ) → i < length bs → k ≡ suc i → count_from v (drop i bs) ≡ v ∷ count_from (v + 1) (drop k bs)
counted_at [] i v k h e = absurd (omega (arith, h))
counted_at (b ∷ bs) i v zero h e = absurd (omega (arith, e))
counted_at (b ∷ bs) zero v (suc k) h e = let f : k ≡ 0 = omega (arith, e) in rw f refl
counted_at (b ∷ bs) (suc i) v (suc k) h e = counted_at bs i v k (omega (arith, h)) (omega (arith, e))

pub one_counted : (bs : List Bound) (i : ℕ) → i < length bs → count_from i (drop i bs) ≡ i ∷ count_from (i + 1) (drop (i + 1) bs)
one_counted bs i h = counted_at bs i i (i + 1) h (omega arith)

-- one more variable has its place
pub one_more_place : (bs : List Bound) (ps qs : List ℕ) (i v : ℕ) → ps ++ count_from i (drop i bs) ≡ count_from 0 bs → i < length bs → v ≡ i → qs ≡ ps ++ v ∷ []
    → qs ++ count_from (i + 1) (drop (i + 1) bs) ≡ count_from 0 bs
one_more_place bs ps qs i v h l e f =
    let rest = count_from (i + 1) (drop (i + 1) bs) in
    ap (λ zs. zs ++ rest) f ∙ ap (λ n. (ps ++ n ∷ []) ++ rest) e ∙ append_assoc ps (i ∷ []) rest ∙ ap (λ zs. ps ++ zs) (sym (one_counted bs i l)) ∙ h

arrange_at : (ps : List ℕ) (bs done : List Bound) (i v k : ℕ) (d : Bound) → i < length bs → k ≡ suc i
    → arrange ps v (drop i bs) done ≡ arrange ps (v + 1) (drop k bs) (slice_set done (number_in ps v) (renumber_bound ps (get_or bs i d)))
arrange_at ps [] done i v k d h e = absurd (omega (arith, h))
arrange_at ps (b ∷ bs) done i v zero d h e = absurd (omega (arith, e))
arrange_at ps (b ∷ bs) done zero v (suc k) d h e = let f : k ≡ 0 = omega (arith, e) in rw f refl
arrange_at ps (b ∷ bs) done (suc i) v (suc k) d h e = arrange_at ps bs done i v k d (omega (arith, h)) (omega (arith, e))

pub one_arrange : (ps : List ℕ) (bs done : List Bound) (i : ℕ) (d : Bound) → i < length bs
    → arrange ps i (drop i bs) done ≡ arrange ps (i + 1) (drop (i + 1) bs) (slice_set done (number_in ps i) (renumber_bound ps (get_or bs i d)))
one_arrange ps bs done i d h = arrange_at ps bs done i i (i + 1) d h (omega arith)
