use Rattle.std.proofs.Common.{◌≡◌, ◌∙◌, sym, ap, subst, map, ℕ, false, get_or}
use Rattle.jl_model.specs.declared.ty.Bound.{Bound}
use Rattle.jl_model.specs.declared.ty.Written.{Written}
use Rattle.jl_model.specs.Rows.{alts, free, high}
use Rattle.jl_model.specs.Valid.{is_closed}
use Rattle.jl_model.specs.Signature.{Both}
use Rattle.jl_model.specs.Refusals.{bound_types}
use Rattle.jl_model.specs.SigRefusals.{TypeLimit}
use Rattle.jl_sig.specs.Built.{listed}
use Rattle.jl_sig.specs.Forms.{IsBoundForm}
use Rattle.jl_sig.specs.Fit.{IsKeptSignature}
use Rattle.jl_sig.specs.Prepared.{IsWellPlaced, HasKeptRows, AreDiagonals}
use Rattle.jl_sig.proofs.RowFit.{rows_fit}
use Rattle.jl_sig.proofs.KeptLemmas.{diagonals_are, named_same}
use Rattle.jl_sig.proofs.sig.sig_of.Goals as goal

pub keep_rows-requires : goal.keep_rows-requires
keep_rows-requires c = rows_fit c.args.table.now c.args.written.now (map listed c.args.rows.now) c.requires.rows c.requires.buildable.fit c.requires.buildable.parts

pub returns-clause-kept : goal.returns-clause-kept
returns-clause-kept c =
    let ds = c.args.table.now in
    let s = c.args.written.now in
    let k = c.in_ok-kept.kept in
    let e = c.in_ok-written.ensures in
    let n = sym e in
    record {
      placed = subst (IsWellPlaced ds) n c.requires.placed;
      small = subst (λ z. TypeLimit ds z → ⊥) n c.requires.small;
      bounds = subst (λ (z : Written). Both (IsBoundForm ds) (bound_types z.vars) (bound_types c.args.bounds)) n c.requires.buildable.forms;
      named = subst (λ (z : Written). (v : ℕ) → is_closed (high z v) ≡ false → (get_or c.args.bounds v free).high ≡ high k v) n
          (named_same ds c.valid.ensures s c.args.bounds k.vars c.requires.placed.placed c.requires.buildable.forms c.in_ok-kept.ensures.bounds);
      parts = c.in_ok-parts.ensures ∙ ap (λ (z : Written). z.parts) n;
      kept = subst (λ z. IsKeptSignature ds z k) n c.in_ok-kept.ensures;
      rows = subst (λ z. HasKeptRows ds z c.in_ok-rows.rows.items) n (map listed c.args.rows.now, c.requires.rows, c.in_ok-rows.ensures);
      diagonals = subst (λ z. AreDiagonals z c.in_ok-diagonals.diagonals.items) n (diagonals_are s c.args.kinds.now c.in_ok-diagonals.diagonals.items c.requires.kinds c.in_ok-diagonals.ensures);
      alternatives = c.in_ok-alternatives.ensures ∙ ap (map (λ (b : Bound). alts b.high)) c.as_slice.ensures;
    }
