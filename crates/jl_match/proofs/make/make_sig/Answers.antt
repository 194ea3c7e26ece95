use Rattle.std.proofs.Common.{◌≡◌, ◌∙◌, sym, subst, true, false}
use Rattle.jl_model.specs.declared.ty.Written.{Written}
use Rattle.jl_model.specs.Signature.{Both}
use Rattle.jl_model.specs.Refusals.{bound_types}
use Rattle.jl_model.specs.SigRefusals.{arguments_in, BoundsCrossed}
use Rattle.jl_sig.specs.Parts.{all_given}
use Rattle.jl_sig.specs.Forms.{IsBoundForm, AreFormed}
use Rattle.jl_sig.proofs.SigLemmas.{in_order}
use Rattle.jl_match.proofs.MakeLemmas.{forms_ground, crossed_kept, crossed_written, outside_kept, outside_written, arguments_ground}
use Rattle.jl_match.proofs.make.make_sig.Goals as goal

pub have_crossed-requires : goal.have_crossed-requires
have_crossed-requires c =
    let ds = c.args.table.now in
    let s = c.args.written.now in
    let p = c.in-Ok.ensures.kept in
    let b : Both (IsBoundForm ds) (bound_types s.vars) (bound_types c.bounds.result.now) =
    subst (λ z. Both (IsBoundForm ds) (bound_types s.vars) (bound_types z)) (sym c.bounds.ensures) (subst (λ (z : Written). Both (IsBoundForm ds) (bound_types z.vars) (bound_types c.in-Ok.prepared.sig.bounded.vars)) p.written p.kept.bounds) in
    forms_ground ds c.valid.ensures s.vars c.bounds.result.now b

pub have_outside-requires : goal.have_outside-requires
have_outside-requires c =
    let ds = c.args.table.now in
    let s = c.args.written.now in
    let p = c.in-Ok.ensures.kept in
    let a : AreFormed ds (arguments_in s) (all_given c.as_slice.result.now) = subst (λ z. AreFormed ds (arguments_in s) (all_given z)) (sym c.as_slice.ensures.value) p.arguments in
    arguments_ground ds c.valid.ensures (arguments_in s) c.as_slice.result.now a

pub returns-then-have_crossed-clause-made : goal.returns-then-have_crossed-clause-made
returns-then-have_crossed-clause-made c =
    let ds = c.args.table.now in
    let s = c.args.written.now in
    let p = c.in-Ok.ensures.kept in
    let w = c.in_ok-check_writing.ensures.checked in
    let b : Both (IsBoundForm ds) (bound_types s.vars) (bound_types c.bounds.result.now) =
    subst (λ z. Both (IsBoundForm ds) (bound_types s.vars) (bound_types z)) (sym c.bounds.ensures) (subst (λ (z : Written). Both (IsBoundForm ds) (bound_types z.vars) (bound_types c.in-Ok.prepared.sig.bounded.vars)) p.written p.kept.bounds) in
    (w, p.small, crossed_written ds c.valid.ensures s.vars c.bounds.result.now b (c.have_crossed.ensures.0 c.if-have_crossed.true))

pub returns-then-have_outside-clause-made : goal.returns-then-have_outside-clause-made
returns-then-have_outside-clause-made c =
    let ds = c.args.table.now in
    let s = c.args.written.now in
    let p = c.in-Ok.ensures.kept in
    let w = c.in_ok-check_writing.ensures.checked in
    let b : Both (IsBoundForm ds) (bound_types s.vars) (bound_types c.bounds.result.now) =
    subst (λ z. Both (IsBoundForm ds) (bound_types s.vars) (bound_types z)) (sym c.bounds.ensures) (subst (λ (z : Written). Both (IsBoundForm ds) (bound_types z.vars) (bound_types c.in-Ok.prepared.sig.bounded.vars)) p.written p.kept.bounds) in
    let a : AreFormed ds (arguments_in s) (all_given c.as_slice.result.now) = subst (λ z. AreFormed ds (arguments_in s) (all_given z)) (sym c.as_slice.ensures.value) p.arguments in
    let o : BoundsCrossed ds s → ⊥ = λ h. let g = c.have_crossed.ensures.1 (crossed_kept ds c.valid.ensures s.vars c.bounds.result.now b h) in let f : true ≡ false = sym g ∙ c.if-have_crossed.false in cc in
    let r = outside_written ds c.valid.ensures (arguments_in s) (all_given c.as_slice.result.now) a (c.have_outside.ensures.0 c.if-have_outside.true) in
    (w, p.small, o, (r.0, r.1, r.2.0, r.2.1))

pub returns-clause-made : goal.returns-clause-made
returns-clause-made c =
    let ds = c.args.table.now in
    let s = c.args.written.now in
    let p = c.in-Ok.ensures.kept in
    let w = c.in_ok-check_writing.ensures.checked in
    let b : Both (IsBoundForm ds) (bound_types s.vars) (bound_types c.bounds.result.now) =
    subst (λ z. Both (IsBoundForm ds) (bound_types s.vars) (bound_types z)) (sym c.bounds.ensures) (subst (λ (z : Written). Both (IsBoundForm ds) (bound_types z.vars) (bound_types c.in-Ok.prepared.sig.bounded.vars)) p.written p.kept.bounds) in
    let a : AreFormed ds (arguments_in s) (all_given c.as_slice.result.now) = subst (λ z. AreFormed ds (arguments_in s) (all_given z)) (sym c.as_slice.ensures.value) p.arguments in
    let o : BoundsCrossed ds s → ⊥ = λ h. let g = c.have_crossed.ensures.1 (crossed_kept ds c.valid.ensures s.vars c.bounds.result.now b h) in let f : true ≡ false = sym g ∙ c.if-have_crossed.false in cc in
    record {
      allowed = record {
        placed = w.placed;
        used = w.used;
        few = w.few;
        counted = w.counted;
        small = p.small;
        ordered = o;
        within = λ h. let g = c.have_outside.ensures.1 (outside_kept ds c.valid.ensures (arguments_in s) (all_given c.as_slice.result.now) a (h.0, h.1, (h.2, h.3))) in let f : true ≡ false = sym g ∙ c.if-have_outside.false in cc;
      };
      written = p.written;
      kept = in_order ds s c.in-Ok.prepared p o;
    }
