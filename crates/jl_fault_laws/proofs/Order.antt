-- The order in which faults are reported: by their places, and at one place by their numbers.
use Rattle.std.proofs.Common.{ℕ, ◌<◌, ◌≤◌, arith, Bool, true, false, true≢false, cond, ◌||◌, ◌&&◌, nat_lt, nat_eq, List, [], ◌∷◌, ◌≡◌, ◌⊎◌, inl, inr, Option, Some, None, refl, sym, subst, ◌∙◌, ltb-true, ltb-false, le-ltb, eqb-true, ne_eqb}
use Rattle.std.proofs.lemmas.Bool.{eqb-false, or_from, and_left, and_right}
use Rattle.std.proofs.Math.Nat.{lt_irrefl}
use Rattle.jl_written.specs.declared.fault.Fault.{Fault}
use Rattle.jl_written.specs.Answered.{comes_before, first_of, number_of}
use Rattle.jl_fault_laws.specs.Rows.{IsReportedBy}
use Rattle.jl_fault_laws.proofs.Firsts.{In, firsts, Tells}

-- a pair of numbers before another
abbrev lex : ℕ → ℕ → ℕ → ℕ → Bool
lex a b c d = nat_lt a b || (nat_eq a b && nat_lt c d)

lex_true : (a b c d : ℕ) → lex a b c d ≡ true → (a < b) ⊎ ((a ≡ b) × (c < d))
lex_true a b c d e = by (nat_lt a b) refl e
  where
    last : (p q : Bool) → nat_eq a b ≡ p → nat_lt c d ≡ q → (p && q) ≡ true → (a < b) ⊎ ((a ≡ b) × (c < d))
    last true true h g f = inr (eqb-true a b h, ltb-true c d g)
    last true false h g f = absurd (true≢false (sym f))
    last false q h g f = absurd (true≢false (sym f))

    by : (p : Bool) → nat_lt a b ≡ p → (p || (nat_eq a b && nat_lt c d)) ≡ true → (a < b) ⊎ ((a ≡ b) × (c < d))
    by true h f = inl (ltb-true a b h)
    by false h f = last (nat_eq a b) (nat_lt c d) refl refl f

lower : (a b : ℕ) → nat_eq a b ≡ false → b ≤ a → b < a
lower a b h l = by (nat_lt b a) refl
  where
    by : (p : Bool) → nat_lt b a ≡ p → b < a
    by true f = ltb-true b a f
    by false f = absurd (eqb-false a b h (let m : a ≤ b = ltb-false b a f in omega (arith, l, m)))

lex_false : (a b c d : ℕ) → lex a b c d ≡ false → (b < a) ⊎ ((a ≡ b) × (d ≤ c))
lex_false a b c d e = by (nat_lt a b) refl e
  where
    last : (p q : Bool) → nat_eq a b ≡ p → nat_lt c d ≡ q → b ≤ a → (p && q) ≡ false → (b < a) ⊎ ((a ≡ b) × (d ≤ c))
    last true true h g l f = absurd (true≢false f)
    last true false h g l f = inr (eqb-true a b h, ltb-false c d g)
    last false q h g l f = inl (lower a b h l)

    by : (p : Bool) → nat_lt a b ≡ p → (p || (nat_eq a b && nat_lt c d)) ≡ false → (b < a) ⊎ ((a ≡ b) × (d ≤ c))
    by true h f = absurd (true≢false f)
    by false h f = last (nat_eq a b) (nat_lt c d) refl refl (ltb-false a b h) f

not_lex : (a b c d : ℕ) → (b < a) ⊎ ((a ≡ b) × (d ≤ c)) → lex a b c d ≡ false
not_lex a b c d (inl l) = or_from (nat_lt a b) (nat_eq a b && nat_lt c d) (le-ltb a b (let m : b < a = l in omega (arith, m)))
    (and_left (nat_eq a b) (nat_lt c d) (ne_eqb a b (λ e. lt_irrefl a (subst (λ x. x < a) (sym e) l))))
not_lex a b c d (inr h) = or_from (nat_lt a b) (nat_eq a b && nat_lt c d) (le-ltb a b (let m : a ≡ b = h.0 in omega (arith, m))) (and_right (nat_eq a b) (nat_lt c d) (le-ltb c d h.1))

weaker : (c d i : ℕ) → d ≤ c → i < d → i ≤ c
weaker c d i l m = omega (arith, l, m)

not_less : (c d i : ℕ) → d ≤ c → i ≤ d → i ≤ c
not_less c d i l m = omega (arith, l, m)

-- what is before something that another does not come before, is not after that either
joined : (a b e c d i : ℕ) → (b < a) ⊎ ((a ≡ b) × (d ≤ c)) → (e < b) ⊎ ((e ≡ b) × (i < d)) → (e < a) ⊎ ((a ≡ e) × (i ≤ c))
joined a b e c d i (inl l) (inl m) = inl (omega (arith, l, m))
joined a b e c d i (inl l) (inr m) = inl (let n : e ≡ b = m.0 in omega (arith, l, n))
joined a b e c d i (inr l) (inl m) = inl (let n : a ≡ b = l.0 in omega (arith, n, m))
joined a b e c d i (inr l) (inr m) = inr (l.0 ∙ sym m.0, weaker c d i l.1 m.1)

pub passes : (f h g : Fault) → comes_before f h ≡ false → comes_before g h ≡ true → comes_before f g ≡ false
passes f h g e d = not_lex f.at g.at (number_of f.kind) (number_of g.kind)
    (joined f.at h.at g.at (number_of f.kind) (number_of h.kind) (number_of g.kind) (lex_false f.at h.at (number_of f.kind) (number_of h.kind) e) (lex_true g.at h.at (number_of g.kind) (number_of h.kind) d))

-- where neither of two comes before the one behind it, the first does not come before the last
below_both : (a b e c d i : ℕ) → (b < a) ⊎ ((a ≡ b) × (d ≤ c)) → (e < b) ⊎ ((b ≡ e) × (i ≤ d)) → (e < a) ⊎ ((a ≡ e) × (i ≤ c))
below_both a b e c d i (inl l) (inl m) = inl (omega (arith, l, m))
below_both a b e c d i (inl l) (inr m) = inl (let n : b ≡ e = m.0 in omega (arith, l, n))
below_both a b e c d i (inr l) (inl m) = inl (let n : a ≡ b = l.0 in omega (arith, n, m))
below_both a b e c d i (inr l) (inr m) = inr (l.0 ∙ m.0, not_less c d i l.1 m.1)

pub neither : (f g h : Fault) → comes_before f g ≡ false → comes_before g h ≡ false → comes_before f h ≡ false
neither f g h e d = not_lex f.at h.at (number_of f.kind) (number_of h.kind)
    (below_both f.at g.at h.at (number_of f.kind) (number_of g.kind) (number_of h.kind) (lex_false f.at g.at (number_of f.kind) (number_of g.kind) e) (lex_false g.at h.at (number_of g.kind) (number_of h.kind) d))

itself : (f : Fault) → comes_before f f ≡ false
itself f = not_lex f.at f.at (number_of f.kind) (number_of f.kind) (inr (refl, omega arith))

-- ---- the first of several

kept : (o : Option Fault) (g f : Fault) → IsReportedBy o f → IsReportedBy (first_of o g) f
kept None g f h = absurd h
kept (Some h) g f i = by (comes_before g h) refl
  where
    by : (b : Bool) → comes_before g h ≡ b → IsReportedBy (cond b (Some g) (Some h)) f
    by true e = passes f h g i e
    by false e = i

new : (o : Option Fault) (f : Fault) → IsReportedBy (first_of o f) f
new None f = itself f
new (Some h) f = by (comes_before f h) refl
  where
    by : (b : Bool) → comes_before f h ≡ b → IsReportedBy (cond b (Some f) (Some h)) f
    by true e = itself f
    by false e = e

all_kept : (o : Option Fault) (fs : List Fault) (f : Fault) → IsReportedBy o f → IsReportedBy (firsts o fs) f
all_kept o [] f h = h
all_kept o (g ∷ fs) f h = all_kept (first_of o g) fs f (kept o g f h)

all_new : (o : Option Fault) (fs : List Fault) (f : Fault) → In f fs → IsReportedBy (firsts o fs) f
all_new o [] f i = absurd i
all_new o (g ∷ fs) f (inl e) = all_kept (first_of o g) fs f (subst (λ x. IsReportedBy (first_of o x) f) e (new o f))
all_new o (g ∷ fs) f (inr i) = all_new (first_of o g) fs f i

-- each fault that is found is reported, or an earlier one
pub least_rows : (fs : List Fault) (o r : Option Fault) → Tells fs o r → (f : Fault) → In f fs → IsReportedBy r f
least_rows fs o r h f i = subst (λ x. IsReportedBy x f) (sym h.is) (all_new o h.found f (h.all f i))
