-- Each step of reading only adds to what is known.
use Rattle.std.proofs.Common.{◌≡◌, ◌∙◌, refl, ℕ, ◌≤◌, ◌<◌, arith, le_refl, Bool, true, false, ◌||◌, ◌&&◌, cond, nat_lt, List, [], ◌∷◌, ◌++◌, length, length-append, Option, None, Some}
use Rattle.jl_model.specs.declared.ty.Bound.{Bound}
use Rattle.jl_written.specs.declared.fault.Fault.{Fault}
use Rattle.jl_written.specs.declared.fault.StaticKind.{StaticKind}
use Rattle.jl_written.specs.declared.reading.Reading.{Reading}
use Rattle.jl_written.specs.Answered.{first_of, comes_before}
use Rattle.jl_written.specs.Reads.{note, note_brought, fresh_variable, swap}
use Rattle.jl_written.specs.declared.reading.Swap.{Swap}
use Rattle.jl_type_laws.specs.Grown.{SwapsFit, Grows}

abbrev pub fault_at : ℕ → StaticKind → Fault
fault_at at k = record { at = at; kind = k }

cond_some : (b : Bool) (f g : Fault) → cond b (Some f) (Some g) ≡ None → ⊥
cond_some true f g e = cc
cond_some false f g e = cc

-- behind a fault there is one
pub never_none : (o : Option Fault) (f : Fault) → first_of o f ≡ None → ⊥
never_none None f e = cc
never_none (Some g) f e = cond_some (comes_before f g) f g e

pub or_left : (a b : Bool) → a ≡ true → (a || b) ≡ true
or_left true b e = refl
or_left false b e = cc

pub one_longer : (bs : List Bound) (b : Bound) → length bs < length (bs ++ b ∷ [])
one_longer bs b = let e = length-append bs (b ∷ []) in omega (arith, e)

pub no_shorter : (bs : List Bound) (b : Bound) → length bs ≤ length (bs ++ b ∷ [])
no_shorter bs b = let e = one_longer bs b in omega (arith, e)

pub swaps_wider : (n m : ℕ) (ss : List Swap) → n ≤ m → SwapsFit n ss → SwapsFit m ss
swaps_wider n m [] l h = tt
swaps_wider n m (s ∷ ss) l h = let a = h.0 in (omega (arith, a, l), swaps_wider n m ss l h.1)

swaps_append : (n : ℕ) (ss : List Swap) (s : Swap) → SwapsFit n ss → s.stop ≤ n → SwapsFit n (ss ++ s ∷ [])
swaps_append n [] s h g = (g, tt)
swaps_append n (a ∷ ss) s h g = (h.0, swaps_append n ss s h.1 g)

pub grows_refl : (r : Reading) → Grows r r
grows_refl r = record { longer = le_refl (length r.vars); fits = λ h. h; faultless = λ e. e; named = λ e. refl; told = λ e. refl; unclear = λ e. e; misplaced = λ e. e }

pub grows_trans : (r s t : Reading) → Grows r s → Grows s t → Grows r t
grows_trans r s t g h = record {
  longer = let a = g.longer in let b = h.longer in omega (arith, a, b);
  fits = λ f. h.fits (g.fits f);
  faultless = λ e. g.faultless (h.faultless e);
  named = λ e. h.named e ∙ g.named (h.faultless e);
  told = λ e. h.told e ∙ g.told (h.faultless e);
  unclear = λ e. h.unclear (g.unclear e);
  misplaced = λ e. h.misplaced (g.misplaced e);
}

pub grows_note : (at : ℕ) (k : StaticKind) (r : Reading) → Grows r (note at k r)
grows_note at k r = record {
  longer = le_refl (length r.vars);
  fits = λ h. h;
  faultless = λ e. absurd (never_none r.fault (fault_at at k) e);
  named = λ e. absurd (never_none r.fault (fault_at at k) e);
  told = λ e. absurd (never_none r.fault (fault_at at k) e);
  unclear = λ e. e;
  misplaced = λ e. e;
}

-- a name means no type
pub grows_unknown : (at : ℕ) (k : StaticKind) (r : Reading) → Grows r (record (note at k r) { unknown = true; unclear = true })
grows_unknown at k r = record {
  longer = le_refl (length r.vars);
  fits = λ h. h;
  faultless = λ e. absurd (never_none r.fault (fault_at at k) e);
  named = λ e. absurd (never_none r.fault (fault_at at k) e);
  told = λ e. absurd (never_none r.fault (fault_at at k) e);
  unclear = λ e. refl;
  misplaced = λ e. e;
}

-- a name is bound twice
pub grows_unclear : (at : ℕ) (k : StaticKind) (r : Reading) → Grows r (record (note at k r) { unclear = true })
grows_unclear at k r = record {
  longer = le_refl (length r.vars);
  fits = λ h. h;
  faultless = λ e. absurd (never_none r.fault (fault_at at k) e);
  named = λ e. absurd (never_none r.fault (fault_at at k) e);
  told = λ e. absurd (never_none r.fault (fault_at at k) e);
  unclear = λ e. refl;
  misplaced = λ e. e;
}

pub grows_note_brought : (inside : Bool) (r : Reading) → Grows r (note_brought inside r)
grows_note_brought inside r = record {
  longer = le_refl (length r.vars);
  fits = λ h. h;
  faultless = λ e. e;
  named = λ e. refl;
  told = λ e. refl;
  unclear = λ e. e;
  misplaced = or_left r.misplaced inside;
}

pub grows_bound : (b : Bound) (r : Reading) → Grows r (record r { vars = r.vars ++ b ∷ [] })
grows_bound b r = record { longer = no_shorter r.vars b; fits = swaps_wider (length r.vars) (length (r.vars ++ b ∷ [])) r.swaps (no_shorter r.vars b); faultless = λ e. e; named = λ e. refl; told = λ e. refl; unclear = λ e. e; misplaced = λ e. e }

pub grows_fresh_variable : (b : Bound) (inside : Bool) (r : Reading) → Grows r (fresh_variable b inside r).after
grows_fresh_variable b inside r = grows_trans r (note_brought inside r) (fresh_variable b inside r).after (grows_note_brought inside r) (grows_bound b (note_brought inside r))

swap_case : (b : Bool) (s : Swap) (r : Reading) → s.stop ≡ length r.vars → Grows r (cond b (record r { swaps = r.swaps ++ s ∷ [] }) r)
swap_case true s r e = record {
  longer = le_refl (length r.vars);
  fits = λ h. swaps_append (length r.vars) r.swaps s h (omega (arith, e));
  faultless = λ f. f;
  named = λ f. refl;
  told = λ f. refl;
  unclear = λ f. f;
  misplaced = λ f. f;
}
swap_case false s r e = grows_refl r

pub grows_swap : (start middle : ℕ) (r : Reading) → Grows r (swap start middle r)
grows_swap start middle r = swap_case (nat_lt start middle && nat_lt middle (length r.vars)) (record { start = start; middle = middle; stop = length r.vars }) r refl
