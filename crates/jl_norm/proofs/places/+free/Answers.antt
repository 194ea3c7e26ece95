use Rattle.std.proofs.Common.{ℕ, ◌≡◌, not, nat_eq, true, false, arith, ap}
use Rattle.jl_model.specs.Refusals.{is_free_of}
use Rattle.jl_norm.proofs.ListLemmas.{either_case, nominal_case}
use Rattle.jl_norm.proofs.PlaceLemmas.{free-union, free-tuple, free-nominal}
use Rattle.jl_norm.proofs.places.+free.Goals as goal

pub is_free-returns-then-name-own : goal.is_free-returns-then-name-own
is_free-returns-then-name-own t c =
    let m = c.args.own in
    nominal_case (is_free_of m) (is_free_of m) c.in-Nominal.name c.in-Nominal.parts c.as_slice.result.now (not (nat_eq c.in-Nominal.name m)) c.are_free.result c.args.ty.now
    (free-nominal m c.in-Nominal.name c.in-Nominal.parts) c.in-Nominal.is c.as_slice.ensures (other c.in-Nominal.name m c.if-name-own.true) c.are_free.ensures
  where
    other : (i j : ℕ) → (i ≡ j → ⊥) → not (nat_eq i j) ≡ true
    other i j h = let e : nat_eq i j ≡ false = grind (arith, h) in ap not e

pub is_free-returns-in-Union : goal.is_free-returns-in-Union
is_free-returns-in-Union t c =
    let m = c.args.own in
    either_case (is_free_of m) (is_free_of m) (free-union m) (free-tuple m) c.args.ty.now c.in-Union.parts c.as_slice-in-Union.result.now c.are_free-in-Union.result c.in-Union.is c.as_slice-in-Union.ensures c.are_free-in-Union.ensures
