use Rattle.std.proofs.Common.{◌≡◌, ◌∙◌, ◌-◌, ap, length, take, drop, arith, true, false}
use Rattle.jl_model.specs.declared.ty.Ty.TheViews as V
use Rattle.jl_model.specs.Counts.{nodes}
use Rattle.jl_model.specs.Ancestors.{table_of}
use Rattle.jl_model.specs.Refusals.{table_with}
use Rattle.jl_model.proofs.CountLemmas.{nodes_all, nodes-union}
use Rattle.jl_norm.proofs.WalkLemmas.{split, nodes_rest}
use Rattle.jl_norm.proofs.OutsideLemmas.{any_above, union_above_ok, none_other, union_normals, nominal_normals, union_knowns, nominal_knowns, first_ground, rest_normals, rest_knowns}
use Rattle.jl_norm.proofs.outside.+next.Goals as goal

pub is_above-is_some_above-requires : goal.is_above-is_some_above-requires
is_above-is_some_above-requires t c =
    let ds = c.args.table.now in
    let us = c.in-Union.members in
    let e = ap nodes c.in-Union.is ∙ nodes-union us in
    let f = ap nodes_all c.as_slice.ensures in (
      omega (arith, e, f),
      (
        c.requires.written,
        (
          c.requires.is_kept,
          (
            c.requires.name_known,
            (
              c.requires.lowers_normal,
              (
                union_normals (table_of ds) c.args.upper.now us c.as_slice.result.now c.in-Union.is c.as_slice.ensures c.requires.upper_ground.normal,
                union_knowns (length ds) c.args.upper.now us c.as_slice.result.now c.in-Union.is c.as_slice.ensures c.requires.upper_ground.known,
              ),
            ),
          ),
        ),
      ),
    )

pub is_above-is_nominal_below-requires-clause-uppers_normal : goal.is_above-is_nominal_below-requires-clause-uppers_normal
is_above-is_nominal_below-requires-clause-uppers_normal t c =
    nominal_normals (table_of c.args.table.now) c.args.upper.now c.in-Nominal.of c.in-Nominal.uppers c.as_slice-in-Nominal.result.now c.in-Nominal.is c.as_slice-in-Nominal.ensures c.requires.upper_ground.normal

pub is_above-is_nominal_below-requires-clause-uppers_known : goal.is_above-is_nominal_below-requires-clause-uppers_known
is_above-is_nominal_below-requires-clause-uppers_known t c =
    (nominal_knowns (length c.args.table.now) c.args.upper.now c.in-Nominal.of c.in-Nominal.uppers c.as_slice-in-Nominal.result.now c.in-Nominal.is c.as_slice-in-Nominal.ensures c.requires.upper_ground.known).1

pub is_above-returns-in-Any : goal.is_above-returns-in-Any
is_above-returns-in-Any t c = any_above (table_with c.args.table.now c.args.decl.now) (V.Nominal c.args.name c.args.arguments.now) c.args.upper.now c.in-Any.is

pub is_above-returns-in-Union : goal.is_above-returns-in-Union
is_above-returns-in-Union t c =
    union_above_ok (table_with c.args.table.now c.args.decl.now) c.args.name c.args.arguments.now c.args.upper.now c.in-Union.members c.as_slice.result.now c.is_some_above.result c.in-Union.is c.as_slice.ensures c.is_some_above.ensures

pub is_above-returns-in_default : goal.is_above-returns-in_default
is_above-returns-in_default t c = (
  (λ h. let f : false ≡ true = h in cc),
  (λ b.
      absurd (
      none_other (table_with c.args.table.now c.args.decl.now) (table_of c.args.table.now) c.args.name c.args.arguments.now c.args.upper.now c.requires.upper_ground.normal c.in_default.not-Any c.in_default.not-Union c.in_default.not-Nominal b
      )),
)

pub is_some_above-is_above-requires : goal.is_some_above-is_above-requires
is_some_above-is_above-requires t c =
    let xs = c.args.uppers.now in
    let x = c.first-item.result in
    let ys = take (length xs - 1) (drop 1 xs) in
    let s = split xs x c.in-len1-up.len_at_least c.first-item.is in
    let n = nodes_rest xs x ys s in (
      omega (arith, n.0),
      (c.requires.written, (c.requires.is_kept, (c.requires.name_known, (c.requires.lowers_normal, first_ground c.args.table.now xs x ys s c.requires.uppers_normal c.requires.uppers_known)))),
    )

pub is_some_above-is_some_above-requires : goal.is_some_above-is_some_above-requires
is_some_above-is_some_above-requires t c =
    let xs = c.args.uppers.now in
    let x = c.first-item.result in
    let ys = take (length xs - 1) (drop 1 xs) in
    let s = split xs x c.in-len1-up.len_at_least c.first-item.is in
    let n = nodes_rest xs x ys s in (
      omega (arith, n.1),
      (
        c.requires.written,
        (c.requires.is_kept, (c.requires.name_known, (c.requires.lowers_normal, (rest_normals c.args.table.now xs x ys s c.requires.uppers_normal, rest_knowns (length c.args.table.now) xs x ys s c.requires.uppers_known)))),
      ),
    )
