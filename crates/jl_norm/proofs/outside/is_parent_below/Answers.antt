use Rattle.std.proofs.Common.{◌≡◌, ◌∙◌, ap, subst, map, true, false}
use Rattle.jl_model.specs.Subtype.{put, at}
use Rattle.jl_model.proofs.AncestorLemmas.{true_each}
use Rattle.jl_model.specs.Valid.{is_known}
use Rattle.std.proofs.Common.{length}
use Rattle.jl_norm.proofs.OutsideLemmas.{Tells, parent_none, parent_tells, any_none}
use Rattle.jl_norm.proofs.outside.is_parent_below.Goals as goal

pub returns-in-None : goal.returns-in-None
returns-in-None c = (
  (λ h. let f : false ≡ true = h in cc),
  (λ b.
      absurd (
      parent_none c.args.table.now c.args.decl.now c.args.kept.now c.valid.ensures c.requires.written c.requires.is_kept c.args.upper c.in-Nominal.parent c.in-Nominal.given c.args.arguments.now c.args.uppers.now c.requires.known
      c.in-Nominal.is c.in-None.ensures b
      )),
)

pub returns-in_ok-lifted-in-Some : goal.returns-in_ok-lifted-in-Some
returns-in_ok-lifted-in-Some c =
    let m = length c.args.table.now in
    let xs = c.args.arguments.now in
    let ys = c.args.uppers.now in
    let ws = c.in-Nominal.given in
    let lifts = c.in_ok-lifted-in-Some.lifted in
    let r = c.same_all_put.result in
    let i : lifts ≡ map (put (at xs)) ws = c.in_ok-lifted-in-Some.ensures ∙ ap (map (put (at xs))) c.as_slice.ensures in
    let t = subst (λ z. Tells r (map (put (at z)) c.as_slice-in-Some.result.now ≡ ys)) c.as_slice-in-Some-2.ensures c.same_all_put.ensures in
    let v = subst (λ z. Tells r (map (put (at lifts)) z ≡ ys)) c.as_slice-in-Some.ensures t in
    parent_tells c.args.table.now c.args.decl.now c.args.kept.now c.valid.ensures c.requires.written c.requires.is_kept c.args.upper c.in-Nominal.parent ws xs ys c.in-Some.args.now lifts r c.requires.known c.in-Nominal.is
    c.in-Some.ensures i c.requires.lowers_normal c.requires.uppers_normal (true_each (is_known m) ys c.requires.uppers_known) v

pub returns-in_default : goal.returns-in_default
returns-in_default c = (
  (λ h. let f : false ≡ true = h in cc),
  (λ b. absurd (any_none c.args.table.now c.args.decl.now c.args.kept.now c.valid.ensures c.requires.written c.requires.is_kept c.args.upper c.args.arguments.now c.args.uppers.now c.requires.known c.in_default.not-Nominal b)),
)
