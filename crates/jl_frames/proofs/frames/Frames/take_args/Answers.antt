use Rattle.std.proofs.Common.{◌≡◌, ℕ, ◌-◌, ◌<◌, ap, sym, ◌∙◌, subst, Some, slice_get, length, refl}
use Rattle.jl_task.specs.declared.point.Frame.TheVariants as Fr
use Rattle.jl_frames.specs.declared.flat.Flat.TheVariants as L
use Rattle.jl_frames.proofs.TopLemmas.{fits, last_off, values_taken}
use Rattle.jl_frames.proofs.frames.Frames.take_args.Goals as goal

pub returns-in-Some-Args : goal.returns-in-Some-Args
returns-in-Some-Args c =
    let a = c.self.inside in
    let top : slice_get a.flat.items (length a.flat.items - 1) ≡ Some (L.Args c.in-Some-Args.from c.in-Some-Args.expr c.in-Some-Args.rest) = rw (← c.deref.ensures.value) (sym c.in-Some-Args.ensures.value ∙ ap Some c.in-Some-Args.field-0-is) in
    let is = last_off a.flat.items c.pop.new.self.items c.pop.result _ c.pop.ensures.items (λ some. c.pop.ensures.variant.1 (subst (λ (n : ℕ). 0 < n) (sym a.flat.ok.0) some)) top in
    values_taken c.pop.new.self.items _ a.flat.items a.values.items a.slots.items a.types.items a.text a.from a.scope a.text_from c.args.self.now is c.self.view_is c.self.invariant
    c.in-Some-Args.from (fits c.pop.new.self.items _ a.flat.items a.values.items a.slots.items a.types.items a.text a.from a.scope a.text_from c.args.self.now is c.self.view_is c.self.invariant).0
    (λ vs. Fr.Args c.in-Some-Args.expr.now vs c.in-Some-Args.rest.now) (λ ws us xs cs. refl)
