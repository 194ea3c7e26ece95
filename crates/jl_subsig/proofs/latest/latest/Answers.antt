use Rattle.std.proofs.Common.{◌≡◌, ◌∙◌, ◌+◌, ◌-◌, ◌<◌, arith, ap, sym, subst, refl, ℕ, true, length, drop, get_or, set}
use Rattle.std.specs.Prelude.{reverse}
use Rattle.std.proofs.lemmas.List.{length-set}
use Rattle.jl_program.specs.declared.tree.Program.{Program}
use Rattle.jl_subsig.specs.Latest.{AreLatest}
use Rattle.jl_subsig.proofs.BackLemmas.{none, AreMet, met_start, latest_start, met_same, met_more, back_replaced, back_latest, flag_read, site_known}
use Rattle.jl_subsig.proofs.latest.latest.Goals as goal

pub loop-left-init : goal.loop-left-init
loop-left-init c =
    let P = c.args.ready.now in
    let defs = c.args.defs.now in
    record {
      within = omega arith;
      long = omega (arith, c.in_ok-met.ensures.long, c.len.ensures, ap (λ (p : Program). length p.sites) c.program.ensures);
      told = met_start c.in_ok-met.met.items defs c.in_ok-met.ensures.none;
      latest = subst (λ xs. AreLatest P (drop (length defs) defs) (reverse xs)) (sym c.new-those.ensures.items) (latest_start P defs);
    }

pub loop-left-preserved-then-index : goal.loop-left-preserved-then-index
loop-left-preserved-then-index c =
    let P = c.args.ready.now in
    let defs = c.args.defs.now in
    let met = c.loop-left.met.items in
    let those = c.loop-left.those.items in
    let i : ℕ = c.loop-left.left - 1 in
    let l : i < length defs = omega (arith, c.loop-left.invariant.within, c.loop-left-test.true) in
    let next : c.loop-left.left ≡ i + 1 = omega (arith, c.loop-left-test.true) in
    let told = subst (λ n. AreMet met (drop n defs)) next c.loop-left.invariant.told in
    let latest = subst (λ n. AreLatest P (drop n defs) (reverse those)) next c.loop-left.invariant.latest in
    let site : ℕ = (get_or defs i none).site in
    let known : site < length met = omega (arith, site_known P defs i l c.requires.sites, c.loop-left.invariant.long) in
    record {
      within = omega (arith, l);
      long = c.loop-left.invariant.long;
      told = met_same P defs i l met told;
      latest = back_replaced P defs i l those latest (told site (flag_read met site c.index.result.now known c.index.ensures ∙ c.if-index.true));
    }

pub loop-left-preserved : goal.loop-left-preserved
loop-left-preserved c =
    let P = c.args.ready.now in
    let defs = c.args.defs.now in
    let met = c.loop-left.met.items in
    let those = c.loop-left.those.items in
    let i : ℕ = c.loop-left.left - 1 in
    let l : i < length defs = omega (arith, c.loop-left.invariant.within, c.loop-left-test.true) in
    let next : c.loop-left.left ≡ i + 1 = omega (arith, c.loop-left-test.true) in
    let told = subst (λ n. AreMet met (drop n defs)) next c.loop-left.invariant.told in
    let latest = subst (λ n. AreLatest P (drop n defs) (reverse those)) next c.loop-left.invariant.latest in
    let site : ℕ = (get_or defs i none).site in
    record {
      within = omega (arith, l);
      long = length-set met site true ∙ c.loop-left.invariant.long;
      told = met_more P defs i l met (set met site true) refl told;
      latest = back_latest P defs i l those c.push.new.self.items c.in_ok-push.ensures.items latest;
    }
