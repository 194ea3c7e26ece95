use Rattle.std.proofs.Common.{◌≡◌, ◌∙◌, sym, subst, refl, arith, ℕ, ◌+◌, ◌-◌, ◌<◌, ⊎_elim, length, get_or, slice_get, Some, true≢false}
use Rattle.jl_calculus.specs.Ranges.{rows_of}
use Rattle.jl_world.specs.declared.row_word.RowWord.TheVariants.{First}
use Rattle.jl_world.specs.declared.view.BookView.{BookView}
use Rattle.jl_world.specs.Tells.{HasRowWord}
use Rattle.jl_rows.proofs.Numbers.{one_before}
use Rattle.jl_rows.proofs.RowReads.{row_in, row_at, row_known, all_looked, first_is, first_is_not, from_place}
use Rattle.jl_rows.proofs.rows.has_older_row_from.Goals as goal

pub read-begun-requires : goal.read-begun-requires
read-begun-requires g c =
    let P = g.N.Naming.about.program.value in
    let es = c.args.book.now.events in
    let rows = c.rows_of-rows.result.now in
    let i : ℕ = c.loop-left.left - 1 in
    let within : i < length rows = omega (arith, c.loop-left.invariant.within, c.loop-left-test.true) in
    subst (λ (b : BookView). get_or rows i 0 < length (rows_of b.events)) (sym c.loop-left.invariant.same)
    (row_known es c.args.key (get_or rows i 0) (row_in es c.args.key rows i (c.rows_of-rows.ensures P es c.requires.index) within))

pub returns-then-begun-from-clause-found : goal.returns-then-begun-from-clause-found
returns-then-begun-from-clause-found g c =
    let P = g.N.Naming.about.program.value in
    let es = c.args.book.now.events in
    let rows = c.rows_of-rows.result.now in
    let i : ℕ = c.loop-left.left - 1 in
    let r : ℕ = get_or rows i 0 in
    let n = c.read-begun.result in
    let within : i < length rows = omega (arith, c.loop-left.invariant.within, c.loop-left-test.true) in
    let word = subst (λ (b : BookView). HasRowWord P b.events b.cut r First n) c.loop-left.invariant.same c.read-begun.ensures.word in (
      λ yes.
          first_is P es c.args.book.now.cut c.args.key r n (row_at es c.args.key r (row_in es c.args.key rows i (c.rows_of-rows.ensures P es c.requires.index) within)) word c.args.first
          (c.if-begun-from.true ∙ c.from.ensures),
      λ h. refl,
    )

pub loop-left-preserved : goal.loop-left-preserved
loop-left-preserved g c =
    let P = g.N.Naming.about.program.value in
    let es = c.args.book.now.events in
    let rows = c.rows_of-rows.result.now in
    let i : ℕ = c.loop-left.left - 1 in
    let r : ℕ = get_or rows i 0 in
    let n = c.read-begun.result in
    let within : i < length rows = omega (arith, c.loop-left.invariant.within, c.loop-left-test.true) in
    let next : c.loop-left.left ≡ i + 1 = omega (arith, c.loop-left-test.true) in
    let word = subst (λ (b : BookView). HasRowWord P b.events b.cut r First n) c.loop-left.invariant.same c.read-begun.ensures.word in
    record {
      same = c.read-begun.ensures.same ∙ c.loop-left.invariant.same;
      within = omega (arith, within);
      others = λ s row looked stands first.
          ⊎_elim
          (λ (e : r ≡ s).
          first_is_not P es c.args.book.now.cut c.args.key r n word c.args.first (λ q. c.if-begun-from.false (q ∙ sym c.from.ensures)) row
          (subst (λ k. slice_get (rows_of es) k ≡ Some row) (sym e) stands) first)
          (λ d. c.loop-left.invariant.others s row d stands first) (one_before rows i c.loop-left.left s within next looked);
    }

pub returns-clause-found : goal.returns-clause-found
returns-clause-found g c =
    let P = g.N.Naming.about.program.value in
    let es = c.args.book.now.events in
    let rows = c.rows_of-rows.result.now in
    let none : c.loop-left.left ≡ 0 = omega (arith, c.loop-left-test.false) in (
      λ yes. absurd (true≢false (sym yes)),
      λ h.
          let (r, row, at, stands, first) = from_place es c.args.key c.args.first h in
          absurd (c.loop-left.invariant.others r row (all_looked es c.args.key c.loop-left.left r rows (c.rows_of-rows.ensures P es c.requires.index) none stands) at first),
    )
