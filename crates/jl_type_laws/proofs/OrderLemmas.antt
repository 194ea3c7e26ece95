-- The variables in the order of the text: as many as before, with numbers below as many, and with what all types had.
use Rattle.std.proofs.Common.{◌≡◌, ◌∙◌, sym, ap, refl, ℕ, zero, suc, ◌+◌, ◌-◌, ◌<◌, ◌≤◌, arith, Bool, true, false, ◌&&◌, cond, nat_lt, List, [], ◌∷◌, map, length, get_or, slice_set}
use Rattle.std.specs.List.{list_all}
use Rattle.std.proofs.lemmas.List.{length-map, length-set}
use Rattle.jl_model.specs.declared.ty.Ty.{Ty}
use Rattle.jl_model.specs.declared.ty.Ty.TheViews as V
use Rattle.jl_model.specs.declared.ty.Ty.TheVariants as W
use Rattle.jl_model.specs.declared.ty.Bound.{Bound}
use Rattle.jl_model.specs.Subtype.{put}
use Rattle.jl_model.specs.Valid.{is_known}
use Rattle.jl_model.proofs.FormLemmas.{put-any, put-union, put-tuple, put-nominal, put-var, vars-union, vars-tuple, vars-nominal, vars-var}
use Rattle.jl_model.proofs.KnownLemmas.{known-var, known-union, known-tuple, known-nominal}
use Rattle.jl_model.proofs.PutLemmas.{and_l, and_r, both_true}
use Rattle.jl_model.proofs.TypeInduction.{Each, by_cases}
use Rattle.jl_written.specs.declared.reading.Place.{Place}
use Rattle.jl_written.specs.declared.reading.Reading.{Reading}
use Rattle.jl_written.specs.declared.reading.Swap.{Swap}
use Rattle.jl_written.specs.Reads.{Types, Typed}
use Rattle.jl_written.specs.TextOrder.{move_place, is_in, move_places, move_by_all, count_from, text_places, number_in, renumber, renumber_bound, renumber_place, arrange, reorder_types, reorder_type}
use Rattle.jl_type_laws.specs.Carried.{Passes, vars_pass, AllHave, BoundsHave, PlacesHave, ReadingHas}
use Rattle.jl_type_laws.specs.Grown.{SwapsFit}
use Rattle.jl_type_laws.proofs.AdoptLemmas.{set_has}
use Rattle.jl_type_laws.proofs.CarryLemmas.{all_flat}

-- ---- the places of variables

-- each of these is below n
abbrev Below : ℕ → List ℕ → Type 0
Below n [] = Unit {0}
Below n (p ∷ ps) = (p < n) × Below n ps

before_stop : (stop middle p n : ℕ) → p < middle → p < n → stop ≤ n → stop - (middle - p) < n
before_stop stop middle p n a b c = omega (arith, a, b, c)

no_more : (p d n : ℕ) → p < n → p - d < n
no_more p d n a = omega (arith, a)

moved_case : (s : Swap) (n p : ℕ) (a b c : Bool) → nat_lt p s.middle ≡ b → s.stop ≤ n → p < n
    → cond a p (cond b (s.stop - (s.middle - p)) (cond c (p - (s.middle - s.start)) p)) < n
moved_case s n p true b c e l h = h
moved_case s n p false true c e l h = before_stop s.stop s.middle p n (grind (arith, e)) h l
moved_case s n p false false true e l h = no_more p (s.middle - s.start) n h
moved_case s n p false false false e l h = h

move_place_below : (s : Swap) (n p : ℕ) → s.stop ≤ n → p < n → move_place s p < n
move_place_below s n p l h = moved_case s n p (nat_lt p s.start) (nat_lt p s.middle) (nat_lt p s.stop) refl l h

chosen_below : (b : Bool) (x y n : ℕ) → x < n → y < n → cond b x y < n
chosen_below true x y n h g = h
chosen_below false x y n h g = g

move_places_below : (s : Swap) (n v : ℕ) (ps : List ℕ) → s.stop ≤ n → Below n ps → Below n (move_places s v ps)
move_places_below s n v [] l h = tt
move_places_below s n v (p ∷ ps) l h = (chosen_below (is_in s v) (move_place s p) p n (move_place_below s n p l h.0) h.0, move_places_below s n (v + 1) ps l h.1)

move_by_all_below : (n : ℕ) (ss : List Swap) (ps : List ℕ) → SwapsFit n ss → Below n ps → Below n (move_by_all ss ps)
move_by_all_below n [] ps f h = h
move_by_all_below n (s ∷ ss) ps f h = move_by_all_below n ss (move_places s 0 ps) f.1 (move_places_below s n 0 ps f.0 h)

counted_below : (n v : ℕ) (bs : List Bound) → v + length bs ≤ n → Below n (count_from v bs)
counted_below n v [] l = tt
counted_below n v (b ∷ bs) l = (omega (arith, l), counted_below n (v + 1) bs (omega (arith, l)))

places_below : (r : Reading) → SwapsFit (length r.vars) r.swaps → Below (length r.vars) (text_places r)
places_below r f = move_by_all_below (length r.vars) r.swaps (count_from 0 r.vars) f (counted_below (length r.vars) 0 r.vars (omega arith))

moved_length : (s : Swap) (v : ℕ) (ps : List ℕ) → length (move_places s v ps) ≡ length ps
moved_length s v [] = refl
moved_length s v (p ∷ ps) = ap suc (moved_length s (v + 1) ps)

move_by_all_length : (ss : List Swap) (ps : List ℕ) → length (move_by_all ss ps) ≡ length ps
move_by_all_length [] ps = refl
move_by_all_length (s ∷ ss) ps = move_by_all_length ss (move_places s 0 ps) ∙ moved_length s 0 ps

counted_length : (v : ℕ) (bs : List Bound) → length (count_from v bs) ≡ length bs
counted_length v [] = refl
counted_length v (b ∷ bs) = ap suc (counted_length (v + 1) bs)

places_length : (r : Reading) → length (text_places r) ≡ length r.vars
places_length r = move_by_all_length r.swaps (count_from 0 r.vars) ∙ counted_length 0 r.vars

get_below : (n : ℕ) (ps : List ℕ) (v d : ℕ) → Below n ps → v < length ps → get_or ps v d < n
get_below n [] v d h l = absurd (omega (arith, l))
get_below n (p ∷ ps) zero d h l = h.0
get_below n (p ∷ ps) (suc v) d h l = get_below n ps v d h.1 (omega (arith, l))

get_past : (ps : List ℕ) (v d : ℕ) → length ps ≤ v → get_or ps v d ≡ d
get_past [] v d l = refl
get_past (p ∷ ps) zero d l = absurd (omega (arith, l))
get_past (p ∷ ps) (suc v) d l = get_past ps v d (omega (arith, l))

-- a variable of the signature has a number below as many
pub number_below : (r : Reading) → SwapsFit (length r.vars) r.swaps → (v : ℕ) → v < length r.vars → number_in (text_places r) v < length r.vars
number_below r f v l = get_below (length r.vars) (text_places r) v v (places_below r f) (let e = places_length r in omega (arith, e, l))

-- any other keeps its number
pub number_kept : (r : Reading) (v : ℕ) → length r.vars ≤ v → number_in (text_places r) v ≡ v
number_kept r v l = get_past (text_places r) v v (let e = places_length r in omega (arith, e, l))

-- ---- a test that goes by the parts

pub record ByParts (p : Ty → Bool) : Type 0 where
  pub union : (ts : List Ty) → p (V.Union ts) ≡ list_all p ts
  pub tuple : (ts : List Ty) → p (V.Tuple ts) ≡ list_all p ts
  pub number : ℕ → Bool
  pub nominal : (k : ℕ) (ts : List Ty) → p (V.Nominal k ts) ≡ (number k && list_all p ts)

puts_pass : (p : Ty → Bool) (f : ℕ → Ty) (ts : List Ty) → Each (λ t. p t ≡ true → p (put f t) ≡ true) ts → list_all p ts ≡ true → list_all p (map (put f) ts) ≡ true
puts_pass p f [] e h = refl
puts_pass p f (t ∷ ts) e h =
    both_true (p (put f t)) (list_all p (map (put f) ts)) (e.0 (and_l (p t) (list_all p ts) h)) (puts_pass p f ts e.1 (and_r (p t) (list_all p ts) h))

-- it stays true where it does for variables
put_passes : (p : Ty → Bool) → ByParts p → (f : ℕ → Ty) → ((v : ℕ) → p (W.Var v) ≡ true → p (f v) ≡ true) → (t : Ty) → p t ≡ true → p (put f t) ≡ true
put_passes p b f k = by_cases (λ t. p t ≡ true → p (put f t) ≡ true) (record {
  any = λ h. ap p (put-any f) ∙ h;
  union = λ ts e h. ap p (put-union f ts) ∙ b.union (map (put f) ts) ∙ puts_pass p f ts e (sym (b.union ts) ∙ h);
  tuple = λ ts e h. ap p (put-tuple f ts) ∙ b.tuple (map (put f) ts) ∙ puts_pass p f ts e (sym (b.tuple ts) ∙ h);
  nominal = λ n ts e h.
      let g = sym (b.nominal n ts) ∙ h in
      ap p (put-nominal f n ts) ∙ b.nominal n (map (put f) ts)
      ∙ both_true (b.number n) (list_all p (map (put f) ts)) (and_l (b.number n) (list_all p ts) g) (puts_pass p f ts e (and_r (b.number n) (list_all p ts) g));
  var = λ v h. ap p (put-var f v) ∙ k v h;
})

abbrev Kept : List ℕ → (Ty → Bool) → Type 0
Kept ps p = (t : Ty) → p t ≡ true → p (renumber ps t) ≡ true

known_parts : (m : ℕ) → ByParts (is_known m)
known_parts m = record { union = known-union m; tuple = known-tuple m; number = λ k. nat_lt k m; nominal = known-nominal m }

pub known_kept : (m : ℕ) (ps : List ℕ) → Kept ps (is_known m)
known_kept m ps = put_passes (is_known m) (known_parts m) (λ v. W.Var (number_in ps v)) (λ v h. known-var m (number_in ps v))

vars_parts : (q : ℕ → Bool) → ByParts (vars_pass q)
vars_parts q = record {
  union = λ ts. ap (list_all q) (vars-union ts) ∙ all_flat q ts;
  tuple = λ ts. ap (list_all q) (vars-tuple ts) ∙ all_flat q ts;
  number = λ k. true;
  nominal = λ k ts. ap (list_all q) (vars-nominal k ts) ∙ all_flat q ts;
}

pub vars_kept : (q : ℕ → Bool) (ps : List ℕ) → ((v : ℕ) → q v ≡ true → q (number_in ps v) ≡ true) → Kept ps (vars_pass q)
vars_kept q ps k = put_passes (vars_pass q) (vars_parts q) (λ v. W.Var (number_in ps v)) (λ v h.
    ap (list_all q) (vars-var (number_in ps v)) ∙ both_true (q (number_in ps v)) true (k v (and_l (q v) true (sym (ap (list_all q) (vars-var v)) ∙ h))) refl)

-- ---- what all types had

module _ (p : Ty → Bool) (ps : List ℕ) (k : Kept ps p) where
  arrange_has : (v : ℕ) (bs done : List Bound) → BoundsHave (Passes p) bs → BoundsHave (Passes p) done → BoundsHave (Passes p) (arrange ps v bs done)
  arrange_has v [] done h g = g
  arrange_has v (b ∷ bs) done h g =
      arrange_has (v + 1) bs (slice_set done (number_in ps v) (renumber_bound ps b)) h.1
      (set_has (Passes p) done (number_in ps v) (renumber_bound ps b) g (k b.low h.0.0, k b.high h.0.1))

  places_have : (xs : List Place) → PlacesHave (Passes p) xs → PlacesHave (Passes p) (map (renumber_place ps) xs)
  places_have [] h = tt
  places_have (x ∷ xs) h = (h.0, places_have xs h.1)

  all_have : (ts : List Ty) → AllHave (Passes p) ts → AllHave (Passes p) (map (renumber ps) ts)
  all_have [] h = tt
  all_have (t ∷ ts) h = (k t h.0, all_have ts h.1)

pub ordered_passes : (p : Ty → Bool) (ts : Types) → Kept (text_places ts.after) p → (ss : List Swap) → AllHave (Passes p) ts.tys → ReadingHas (Passes p) ts.after
    → AllHave (Passes p) (reorder_types ss ts).tys × ReadingHas (Passes p) (reorder_types ss ts).after
ordered_passes p ts k [] h g = (h, g)
ordered_passes p ts k (s ∷ ss) h g = (
  all_have p (text_places ts.after) k ts.tys h,
  record {
    bounds = arrange_has p (text_places ts.after) k 0 ts.after.vars ts.after.vars g.bounds g.bounds;
    places = places_have p (text_places ts.after) k ts.after.places g.places;
  },
)

pub one_ordered_passes : (p : Ty → Bool) (t : Typed) → Kept (text_places t.after) p → (ss : List Swap) → Passes p t.ty → ReadingHas (Passes p) t.after
    → Passes p (reorder_type ss t).ty × ReadingHas (Passes p) (reorder_type ss t).after
one_ordered_passes p t k [] h g = (h, g)
one_ordered_passes p t k (s ∷ ss) h g = (
  k t.ty h,
  record {
    bounds = arrange_has p (text_places t.after) k 0 t.after.vars t.after.vars g.bounds g.bounds;
    places = places_have p (text_places t.after) k t.after.places g.places;
  },
)

-- ---- what stays as it was

arrange_length : (ps : List ℕ) (v : ℕ) (bs done : List Bound) → length (arrange ps v bs done) ≡ length done
arrange_length ps v [] done = refl
arrange_length ps v (b ∷ bs) done =
    arrange_length ps (v + 1) bs (slice_set done (number_in ps v) (renumber_bound ps b)) ∙ length-set done (number_in ps v) (renumber_bound ps b)

pub record Told (r s : Reading) : Type 0 where
  pub length_is : length s.vars ≡ length r.vars
  pub fault_is : s.fault ≡ r.fault
  pub unclear_is : s.unclear ≡ r.unclear

pub ordered_told : (ts : Types) (ss : List Swap) → Told ts.after (reorder_types ss ts).after
ordered_told ts [] = record { length_is = refl; fault_is = refl; unclear_is = refl }
ordered_told ts (s ∷ ss) = record { length_is = arrange_length (text_places ts.after) 0 ts.after.vars ts.after.vars; fault_is = refl; unclear_is = refl }

pub one_ordered_told : (t : Typed) (ss : List Swap) → Told t.after (reorder_type ss t).after
one_ordered_told t [] = record { length_is = refl; fault_is = refl; unclear_is = refl }
one_ordered_told t (s ∷ ss) = record { length_is = arrange_length (text_places t.after) 0 t.after.vars t.after.vars; fault_is = refl; unclear_is = refl }

pub ordered_count : (ts : Types) (ss : List Swap) → length (reorder_types ss ts).tys ≡ length ts.tys
ordered_count ts [] = refl
ordered_count ts (s ∷ ss) = length-map ts.tys (renumber (text_places ts.after))
