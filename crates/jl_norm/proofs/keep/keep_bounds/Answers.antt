use Rattle.std.proofs.Common.{◌≡◌, ◌∙◌, sym, ap, subst, length, Err, inl, inr}
use Rattle.std.proofs.lemmas.List.{drop_all}
use Rattle.std.proofs.lemmas.Result.{err_from_is_err_and}
use Rattle.jl_types.specs.declared.normal_form.NormFault.TheVariants.{TypeLimit}
use Rattle.jl_model.specs.Valid.{is_known}
use Rattle.jl_model.specs.Kept.{Bounds}
use Rattle.jl_model.specs.Refusals.{table_with}
use Rattle.jl_norm.proofs.KeepSteps.{bound_known, bounds_step, bounds_done, bound_large}
use Rattle.jl_norm.proofs.PartLemmas.{form_up}
use Rattle.jl_norm.proofs.keep.keep_bounds.Goals as goal

pub normal-requires : goal.normal-requires
normal-requires c = (bound_known (is_known (length c.args.table.now)) c.args.bounds.now c.loop-bound.bound-index c.bound-item.result c.loop-bound-test.true c.bound-item.is c.requires).0

pub normal-requires-in-loop-bound : goal.normal-requires-in-loop-bound
normal-requires-in-loop-bound c = (bound_known (is_known (length c.args.table.now)) c.args.bounds.now c.loop-bound.bound-index c.bound-item.result c.loop-bound-test.true c.bound-item.is c.requires).1

pub returns-in_err-low-clause-limit : goal.returns-in_err-low-clause-limit
returns-in_err-low-clause-limit c = λ e.
    let p = err_from_is_err_and c.from_residual-in_err-low.result c.from_residual-in_err-low.ensures.1 in
    let f : Err p.0 ≡ Err TypeLimit = sym p.1 ∙ e in
    let g : p.0 ≡ TypeLimit = cc in
    let w : c.normal.result ≡ Err TypeLimit = c.in_err-low.was ∙ ap (λ z. Err z) (sym p.2 ∙ g) in
    bound_large c.args.table.now c.args.bounds.now c.loop-bound.bound-index c.bound-item.result c.loop-bound-test.true c.bound-item.is (inl (c.normal.ensures.limit w))

pub returns-in_err-high-clause-limit : goal.returns-in_err-high-clause-limit
returns-in_err-high-clause-limit c = λ e.
    let p = err_from_is_err_and c.from_residual-in_err-high.result c.from_residual-in_err-high.ensures.1 in
    let f : Err p.0 ≡ Err TypeLimit = sym p.1 ∙ e in
    let g : p.0 ≡ TypeLimit = cc in
    let w : c.normal-in-loop-bound.result ≡ Err TypeLimit = c.in_err-high.was ∙ ap (λ z. Err z) (sym p.2 ∙ g) in
    bound_large c.args.table.now c.args.bounds.now c.loop-bound.bound-index c.bound-item.result c.loop-bound-test.true c.bound-item.is (inr (c.normal-in-loop-bound.ensures.limit w))

pub loop-bound-preserved : goal.loop-bound-preserved
loop-bound-preserved c = λ d cs r.
    let ds = c.args.table.now in
    let b = c.bound-item.result in
    let k = bound_known (is_known (length ds)) c.args.bounds.now c.loop-bound.bound-index b c.loop-bound-test.true c.bound-item.is c.requires in
    bounds_step (table_with ds d) c.args.bounds.now c.loop-bound.bound-index b (record { low = c.in_ok-low.low; high = c.in_ok-high.high }) c.loop-bound.kept.items c.push_bound.new.bounds.items c.loop-bound-test.true c.bound-item.is
    (form_up ds d c.valid.ensures b.low c.in_ok-low.low k.0 c.in_ok-low.ensures.known c.in_ok-low.ensures.form)
    (form_up ds d c.valid.ensures b.high c.in_ok-high.high k.1 c.in_ok-high.ensures.known c.in_ok-high.ensures.form) c.in_ok-push_bound.ensures (c.loop-bound.invariant d) cs r

pub returns-clause-kept : goal.returns-clause-kept
returns-clause-kept c = λ d.
    let n = table_with c.args.table.now d in
    subst (Bounds n c.args.bounds.now) (sym c.in_ok-from_vec.ensures)
    (bounds_done n c.args.bounds.now c.loop-bound.kept.items c.loop-bound.bound-index (drop_all c.loop-bound.bound-index c.args.bounds.now c.loop-bound-test.false) (c.loop-bound.invariant d))
