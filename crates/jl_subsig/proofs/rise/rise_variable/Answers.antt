use Rattle.std.proofs.Common.{◌≡◌, ◌∙◌, sym, ap, subst, length, get_or, false, true, nat_lt, ◌⊎◌, inl, inr, arith}
use Rattle.jl_model.specs.declared.ty.Ty.TheVariants as W
use Rattle.jl_model.specs.Rows.{alts, width}
use Rattle.jl_model.proofs.FormLemmas.{alts-any}
use Rattle.jl_sig.specs.SigParts.{kept_of, diagonals_of}
use Rattle.jl_subsig.specs.Side.{held, tops}
use Rattle.jl_subsig.proofs.HeldLemmas.{top_kept}
use Rattle.jl_subsig.proofs.RiseLemmas.{alternative_of, one_alternative, two_alternatives}
use Rattle.jl_subsig.proofs.rise.rise_variable.Goals.{else-number-bounds-via-then-number-bounds+else-not-diagonals-number, else-number-bounds-via-else-number-bounds}
use Rattle.jl_subsig.proofs.rise.rise_variable.Goals as goal

pub returns-in-Some : goal.returns-in-Some
returns-in-Some c =
    let s = c.args.left.now in
    let r = c.args.row.now in
    let k = c.args.number in
    let vars = c.as_slice-bounds.ensures ∙ ap (λ z. z.vars) c.kept.ensures in
    let a : (nat_lt k (width (kept_of s)) ≡ false) ⊎ (get_or (diagonals_of s) k false ≡ true) = elim c.else-number-bounds.branch [
      | else-number-bounds-via-then-number-bounds+else-not-diagonals-number w ↦ inr (ap (λ z. get_or z k false) (sym w.diagonals.ensures) ∙ w.if-not-diagonals-number.false)
      | else-number-bounds-via-else-number-bounds w ↦ inl (let e = ap length vars in grind (arith, w.if-number-bounds.false, e))
    ] in
    let h : tops (kept_of s).vars s r k ≡ c.in-Some.high.now = subst (λ z. tops z s r k ≡ c.in-Some.high.now) vars c.in-Some.ensures in
    two_alternatives ((held s r).high k) c.in-Some.high.now c.from_ref.result.now (sym (top_kept s r c.requires.told k) ∙ h) c.from_ref.ensures.value
    (one_alternative c.args.table.now ((held s r).high k) (alternative_of c.args.table.now s r c.requires k a))

pub returns-in-None : goal.returns-in-None
returns-in-None c =
    let s = c.args.left.now in
    let r = c.args.row.now in
    let k = c.args.number in
    let vars = c.as_slice-bounds.ensures ∙ ap (λ z. z.vars) c.kept.ensures in
    let h : tops (kept_of s).vars s r k ≡ W.Any = subst (λ z. tops z s r k ≡ W.Any) vars c.in-None.ensures in
    ap alts (sym (top_kept s r c.requires.told k) ∙ h) ∙ alts-any
