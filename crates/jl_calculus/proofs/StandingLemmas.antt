-- Which definitions stand in a world, by the changes that touch a key alone: what deletes a definition that applies touches the key.
use Rattle.std.proofs.Common.{◌≡◌, ◌∙◌, ap, sym, subst, ℕ, ◌<◌, ◌≤◌, List, take, slice_get, Option, Some}
use Rattle.std.specs.List.{Contains}
use Rattle.jl_model.specs.declared.ty.Key.{Key}
use Rattle.jl_model.specs.declared.ty.Written.{Written}
use Rattle.jl_model.specs.Choice.{Method}
use Rattle.jl_model.specs.Signature.{Applicable}
use Rattle.jl_program.specs.declared.tree.Program.{Program}
use Rattle.jl_program.specs.Scope.{types_of}
use Rattle.jl_program.specs.Valid.{IsValid}
use Rattle.jl_calculus.specs.declared.history.Def.{Def}
use Rattle.jl_calculus.specs.declared.history.Event.{Event}
use Rattle.jl_calculus.specs.Definitions.{sig_of, method_of, methods_of, AppliesTo, defs_in, IsStanding}
use Rattle.jl_calculus.specs.Legal.{IsKeyOf}
use Rattle.jl_calculus.specs.Ranges.{Touches}
use Rattle.jl_calculus.specs.World.{changes, change_at, Deletes}
use Rattle.jl_calculus.proofs.BetweenLemmas.{is_of}
use Rattle.jl_calculus.proofs.DeletedLemmas.{deletion_touches}
use Rattle.jl_calculus.proofs.MethodLemmas.{made_method}

module _ (P : Program) (valid : IsValid P) (es : List Event) (key : Key) (proper : IsKeyOf P key) (w : ℕ) where
  abbrev sig_at : Def → Written
  sig_at d = sig_of (slice_get P.sites d.site)

  -- a definition that applies stands where no later change that touches the key deletes it
  pub stands_by_touching : (d : Def) → Contains (defs_in P es key.function w) d → AppliesTo P key.types d
      → ((e : ℕ) → d.world < e → e ≤ w → Touches P es e key → Deletes P (change_at es e) key.function (sig_at d) → ⊥) → IsStanding P es key.function w d
  stands_by_touching d i a none = record { made = i; kept = kept }
    where
      kept : (e : ℕ) → d.world < e → e ≤ w → Deletes P (change_at es e) key.function (sig_at d) → ⊥
      kept e low high del =
          let o = is_of P key.function 1 (take w (changes es)) (method_of P d) (made_method P es key.function w d i) in
          let same : sig_at d ≡ o.site.sig = sym (ap (λ (m : Method). m.sig) o.is) in
          none e low high
          (deletion_touches P valid key proper (change_at es e) o.number o.site o.there (subst (λ s. Applicable (types_of P) s key.types) same a)
          (subst (λ s. Deletes P (change_at es e) key.function s) same del)) del
