-- The last variable of a name: by its place, among static parameters and others, and with another number.
use Rattle.std.proofs.Common.{◌≡◌, ◌∙◌, refl, sym, ap, ℕ, zero, suc, ◌+◌, arith, Bool, true, false, cond, ◌||◌, List, [], ◌∷◌, ◌++◌, Option, Some, None, is_some, slice_get, option_copied, Bor, Result, Ok, Err, OnErr}
use Rattle.std.specs.Option.{option_or, option_map}
use Rattle.jl_program.specs.Names.{same_text}
use Rattle.jl_names.specs.Stacks.{last_from, last_place}
use Rattle.jl_written.specs.declared.reading.Named.{Named}
use Rattle.jl_written.specs.declared.reading.TypeVar.{TypeVar}
use Rattle.jl_written.specs.Meaning.{names_of, later, var_of, var_or}
use Rattle.jl_written.specs.Signatures.{shifted}

-- BY ITS PLACE
pub var_none : (i : ℕ) (vs : List TypeVar) (n : List ℕ) → last_from i (names_of vs) n ≡ None → var_of vs n ≡ None
var_none i [] n h = refl
var_none i (v ∷ vs) n h = by (last_from (i + 1) (names_of vs) n) (same_text n v.name) refl refl h (var_none (i + 1) vs n)
  where
    by : (o : Option ℕ) (b : Bool) → last_from (i + 1) (names_of vs) n ≡ o → same_text n v.name ≡ b → option_or o (cond b (Some i) None) ≡ None → (last_from (i + 1) (names_of vs) n ≡ None → var_of vs n ≡ None)
        → later (cond (same_text n v.name) (Some v) None) (var_of vs n) ≡ None
    by (Some q) b e g f r = absurd (let z : Some q ≡ None = f in cc)
    by None true e g f r = absurd (let z : Some i ≡ None = f in cc)
    by None false e g f r = ap (λ b. later (cond b (Some v) None) (var_of vs n)) g ∙ ap (later None) (r e)

pub var_here : (i : ℕ) (vs : List TypeVar) (n : List ℕ) (p : ℕ) → last_from i (names_of vs) n ≡ Some p → (k : ℕ) × ((p ≡ i + k) × ((w : TypeVar) × ((slice_get vs k ≡ Some w) × (var_of vs n ≡ Some w))))
var_here i [] n p h = absurd (let f : None ≡ Some p = h in cc)
var_here i (v ∷ vs) n p h = by (last_from (i + 1) (names_of vs) n) (same_text n v.name) refl refl h (var_here (i + 1) vs n p)
  where
    Goal : Type 0
    Goal = (k : ℕ) × ((p ≡ i + k) × ((w : TypeVar) × ((slice_get (v ∷ vs) k ≡ Some w) × (var_of (v ∷ vs) n ≡ Some w))))

    by : (o : Option ℕ) (b : Bool) → last_from (i + 1) (names_of vs) n ≡ o → same_text n v.name ≡ b → option_or o (cond b (Some i) None) ≡ Some p
        → (last_from (i + 1) (names_of vs) n ≡ Some p → (k : ℕ) × ((p ≡ i + 1 + k) × ((w : TypeVar) × ((slice_get vs k ≡ Some w) × (var_of vs n ≡ Some w))))) → Goal
    by (Some q) b e g f r =
        let z = r (e ∙ f) in
        let a = z.1.0 in
        (suc z.0, (omega (arith, a), (z.1.1.0, (z.1.1.1.0, ap (later (cond (same_text n v.name) (Some v) None)) z.1.1.1.1))))
    by None true e g f r =
        let a : i ≡ p = (let z : Some i ≡ Some p = f in cc) in
        (zero, (omega (arith, a), (v, (refl, ap (λ b. later (cond b (Some v) None) (var_of vs n)) g ∙ ap (later (Some v)) (var_none (i + 1) vs n e)))))
    by None false e g f r = absurd (let z : None ≡ Some p = f in cc)

pub var_at : (vs : List TypeVar) (n : List ℕ) (p : ℕ) → last_place (names_of vs) n ≡ Some p → slice_get vs p ≡ var_of vs n
var_at vs n p h =
    let r = var_here 0 vs n p h in
    let a = r.1.0 in
    let e : p ≡ r.0 = omega (arith, a) in
    ap (slice_get vs) e ∙ r.1.1.1.0 ∙ sym r.1.1.1.1

-- a name has a last place where it means a variable
pub placed_var : (vs : List TypeVar) (n : List ℕ) → is_some (last_place (names_of vs) n) ≡ is_some (var_of vs n)
placed_var vs n = by (last_place (names_of vs) n) refl
  where
    by : (o : Option ℕ) → last_place (names_of vs) n ≡ o → is_some (last_place (names_of vs) n) ≡ is_some (var_of vs n)
    by None e = ap is_some e ∙ ap is_some (sym (var_none 0 vs n e))
    by (Some p) e = ap is_some e ∙ ap is_some (sym (var_here 0 vs n p e).1.1.1.1)

pub some_copied : (o : Option (Bor TypeVar)) → is_some o ≡ is_some (option_copied o)
some_copied None = refl
some_copied (Some v) = refl

-- AMONG STATIC PARAMETERS AND OTHERS
later_later : (a b c : Option TypeVar) → later a (later b c) ≡ later (later a b) c
later_later a b None = refl
later_later a b (Some v) = refl

later_none : (o : Option TypeVar) → later None o ≡ o
later_none None = refl
later_none (Some v) = refl

pub var_append : (us vs : List TypeVar) (n : List ℕ) → var_of (us ++ vs) n ≡ later (var_of us n) (var_of vs n)
var_append [] vs n = sym (later_none (var_of vs n))
var_append (u ∷ us) vs n =
    ap (later (cond (same_text n u.name) (Some u) None)) (var_append us vs n) ∙ later_later (cond (same_text n u.name) (Some u) None) (var_of us n) (var_of vs n)

pub bound_in : (us vs : List TypeVar) (n : List ℕ) → is_some (var_of (us ++ vs) n) ≡ (is_some (var_of vs n) || is_some (var_of us n))
bound_in us vs n = ap is_some (var_append us vs n) ∙ by (var_of us n) (var_of vs n)
  where
    by : (a b : Option TypeVar) → is_some (later a b) ≡ (is_some b || is_some a)
    by a None = refl
    by a (Some v) = refl

pub named_own : (us vs : List TypeVar) (n : List ℕ) (v : TypeVar) (other : Named) → var_of vs n ≡ Some v → var_or (var_of (us ++ vs) n) other ≡ var_or (Some v) other
named_own us vs n v other h = ap (λ o. var_or o other) (var_append us vs n ∙ ap (later (var_of us n)) h)

pub named_static : (us vs : List TypeVar) (n : List ℕ) (other : Named) → var_of vs n ≡ None → var_or (var_of (us ++ vs) n) other ≡ var_or (var_of us n) other
named_static us vs n other h = ap (λ o. var_or o other) (var_append us vs n ∙ ap (later (var_of us n)) h)

-- WITH ANOTHER NUMBER
abbrev pub shift_var : ℕ → TypeVar → TypeVar
shift_var k v = record { name = v.name; number = k + v.number; usable = v.usable }

pub var_shifted : (k : ℕ) (vs : List TypeVar) (n : List ℕ) → var_of (shifted k vs) n ≡ option_map (shift_var k) (var_of vs n)
var_shifted k [] n = refl
var_shifted k (v ∷ vs) n = ap (later (cond (same_text n v.name) (Some (shift_var k v)) None)) (var_shifted k vs n) ∙ by (same_text n v.name) (var_of vs n)
  where
    by : (b : Bool) (o : Option TypeVar) → later (cond b (Some (shift_var k v)) None) (option_map (shift_var k) o) ≡ option_map (shift_var k) (later (cond b (Some v) None) o)
    by true None = refl
    by false None = refl
    by b (Some w) = refl

pub shifted_some : (k : ℕ) (vs : List TypeVar) (n : List ℕ) (v : TypeVar) → var_of vs n ≡ Some v → var_of (shifted k vs) n ≡ Some (shift_var k v)
shifted_some k vs n v h = var_shifted k vs n ∙ ap (option_map (shift_var k)) h

pub shifted_none : (k : ℕ) (vs : List TypeVar) (n : List ℕ) → var_of vs n ≡ None → var_of (shifted k vs) n ≡ None
shifted_none k vs n h = var_shifted k vs n ∙ ap (option_map (shift_var k)) h

pub shifted_has : (k : ℕ) (vs : List TypeVar) (n : List ℕ) → is_some (var_of (shifted k vs) n) ≡ is_some (var_of vs n)
shifted_has k vs n = ap is_some (var_shifted k vs n) ∙ by (var_of vs n)
  where
    by : (o : Option TypeVar) → is_some (option_map (shift_var k) o) ≡ is_some o
    by None = refl
    by (Some v) = refl

pub on_err : {A E : Type 0} (r : Result A E) (P : Type 0) → P → OnErr r P
on_err (Ok x) P p = tt
on_err (Err e) P p = p
