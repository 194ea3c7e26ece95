use Rattle.std.proofs.Common.{◌∙◌, sym, refl}
use Rattle.std.proofs.lemmas.Slice.Eq.{slice_eq-Decides}
use Rattle.std.proofs.lemmas.Bool.Decides.{Decides-eqb, not_from_Decides}
use Rattle.jl_model.specs.declared.ty.Decl.{Decl}
use Rattle.jl_norm.proofs.NameLemmas.{got, found, passed}
use Rattle.jl_norm.proofs.names.is_taken.Goals as goal

pub returns-then-eq : goal.returns-then-eq
returns-then-eq c =
    let same = (slice_eq-Decides Decides-eqb c.as_slice.result.now c.as_slice-in-loop-number.result.now c.eq.result c.eq.ensures).0 c.if-eq.true in
    let at = got (λ (e : Decl). e.name) c.args.table.now c.loop-number.number c.decl.result.now c.decl.ensures in (
      (λ h. found (λ (e : Decl). e.name) c.args.table.now c.loop-number.number c.decl.result.now c.args.decl.now.name at.0 at.1 (sym c.as_slice.ensures ∙ same ∙ c.as_slice-in-loop-number.ensures)),
      (λ h. refl),
    )

pub loop-number-preserved : goal.loop-number-preserved
loop-number-preserved c =
    let other = not_from_Decides c.eq.result (slice_eq-Decides Decides-eqb c.as_slice.result.now c.as_slice-in-loop-number.result.now c.eq.result c.eq.ensures) c.if-eq.false in
    let at = got (λ (e : Decl). e.name) c.args.table.now c.loop-number.number c.decl.result.now c.decl.ensures in
    λ h. passed (λ (e : Decl). e.name) c.args.table.now c.loop-number.number c.decl.result.now c.args.decl.now.name at.0 at.1 (λ e. other (c.as_slice.ensures ∙ e ∙ sym c.as_slice-in-loop-number.ensures)) (c.loop-number.invariant h)
