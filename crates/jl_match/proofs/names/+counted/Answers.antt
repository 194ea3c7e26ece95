use Rattle.std.proofs.Common.{◌≡◌, ◌∙◌, sym, ap, slice_get, ℕ, true, false, nat_eq, length, arith}
use Rattle.jl_model.specs.Valid.{is_counted, params_of}
use Rattle.jl_norm.proofs.ListLemmas.{either_case, nominal_case, nominal_not, counted-union, counted-tuple, counted-nominal}
use Rattle.jl_match.proofs.names.+counted.Goals as goal

pub is_counted-returns-in-Union : goal.is_counted-returns-in-Union
is_counted-returns-in-Union t c =
    let ds = c.args.table.now in
    either_case (is_counted ds) (is_counted ds) (counted-union ds) (counted-tuple ds) c.args.ty.now c.in-Union.parts c.as_slice-in-Union.result.now c.are_counted-in-Union.result c.in-Union.is c.as_slice-in-Union.ensures c.are_counted-in-Union.ensures

pub is_counted-returns-then-len-param_count : goal.is_counted-returns-then-len-param_count
is_counted-returns-then-len-param_count t c =
    let ds = c.args.table.now in
    let k = c.in-Nominal.name in
    let e : length c.in-Nominal.parts ≡ length (params_of (slice_get ds k)) = sym c.len.ensures ∙ c.if-len-param_count.true ∙ c.param_count.ensures in
    let same : nat_eq (length c.in-Nominal.parts) (length (params_of (slice_get ds k))) ≡ true = grind (arith, e) in
    nominal_case (is_counted ds) (is_counted ds) k c.in-Nominal.parts c.as_slice.result.now (nat_eq (length c.in-Nominal.parts) (length (params_of (slice_get ds k)))) c.are_counted.result c.args.ty.now
    (counted-nominal ds k c.in-Nominal.parts) c.in-Nominal.is c.as_slice.ensures same c.are_counted.ensures

pub is_counted-returns-else-len-param_count : goal.is_counted-returns-else-len-param_count
is_counted-returns-else-len-param_count t c =
    let ds = c.args.table.now in
    let k = c.in-Nominal.name in
    let ps = params_of (slice_get ds k) in
    let b : nat_eq c.len.result c.param_count.result ≡ false = differ c.len.result c.param_count.result c.if-len-param_count.false in
    let same : nat_eq (length c.in-Nominal.parts) (length ps) ≡ false = ap (nat_eq (length c.in-Nominal.parts)) (sym c.param_count.ensures) ∙ ap (λ z. nat_eq z c.param_count.result) (sym c.len.ensures) ∙ b in
    b ∙ nominal_not (is_counted ds) (is_counted ds) k c.in-Nominal.parts (nat_eq (length c.in-Nominal.parts) (length ps)) c.args.ty.now (counted-nominal ds k c.in-Nominal.parts) c.in-Nominal.is same
  where
    differ : (i j : ℕ) → (i ≡ j → ⊥) → nat_eq i j ≡ false
    differ i j h = grind (arith, h)
