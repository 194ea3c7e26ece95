use Rattle.std.proofs.Common.{◌≡◌, ◌<◌, subst, length, map, true, false, arith}
use Rattle.jl_model.specs.Subtype.{put, at}
use Rattle.jl_model.specs.Valid.{is_known}
use Rattle.jl_model.proofs.AncestorLemmas.{true_each}
use Rattle.jl_norm.proofs.OutsideLemmas.{Tells, own_tells, before_none, before_tells}
use Rattle.jl_norm.proofs.outside.is_nominal_below.Goals as goal

pub returns-then-name-upper : goal.returns-then-name-upper
returns-then-name-upper c =
    own_tells c.args.table.now c.args.decl.now c.args.kept.now c.valid.ensures c.requires.written c.requires.is_kept c.args.name c.args.upper c.args.arguments.now c.args.uppers.now c.same_all.result c.if-name-upper.true
    c.requires.lowers_normal c.requires.uppers_normal (true_each (is_known (length c.args.table.now)) c.args.uppers.now c.requires.uppers_known) c.same_all.ensures

pub returns-in-None : goal.returns-in-None
returns-in-None c =
    let l = c.requires.name_known in
    let e = c.count.ensures in
    let f = c.if-name-count.false in
    let lt : c.args.name < length c.args.table.now = omega arith in (
      (λ h. let f : false ≡ true = h in cc),
      (λ b.
          absurd (
          before_none c.args.table.now c.args.decl.now c.args.kept.now c.valid.ensures c.requires.written c.requires.is_kept c.args.name c.args.upper c.args.arguments.now c.args.uppers.now c.if-name-upper.false lt c.in-None.ensures b
          )),
    )

pub returns-in-Some : goal.returns-in-Some
returns-in-Some c =
    let l = c.requires.name_known in
    let e = c.count.ensures in
    let f = c.if-name-count.false in
    let lt : c.args.name < length c.args.table.now = omega arith in
    let xs = c.args.arguments.now in
    let ys = c.args.uppers.now in
    let r = c.same_all_put.result in
    before_tells c.args.table.now c.args.decl.now c.args.kept.now c.valid.ensures c.requires.written c.requires.is_kept c.args.name c.args.upper xs ys c.in-Some.args.now r c.if-name-upper.false lt c.in-Some.ensures c.requires.lowers_normal
    c.requires.uppers_normal (true_each (is_known (length c.args.table.now)) ys c.requires.uppers_known) (subst (λ z. Tells r (map (put (at xs)) z ≡ ys)) c.as_slice.ensures c.same_all_put.ensures)
