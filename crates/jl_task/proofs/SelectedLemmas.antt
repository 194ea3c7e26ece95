-- The site that is selected for a call: it is one of the function, its signature applies, and its body is entered.
use Rattle.std.proofs.Common.{◌≡◌, ◌∙◌, refl, sym, ap, subst, ℕ, zero, suc, ◌+◌, ◌-◌, ◌<◌, ◌≤◌, arith, Bool, true, false, cond, nat_eq, nat_lt, List, [], ◌∷◌, map, length, take, get_or, Option, None, Some, slice_get}
use Rattle.std.specs.List.{Contains}
use Rattle.jl_model.specs.declared.ty.Ty.{Ty}
use Rattle.jl_model.specs.declared.ty.Written.{Written}
use Rattle.jl_model.specs.Bindings.{bindings}
use Rattle.jl_model.specs.Choice.{Method}
use Rattle.jl_model.specs.Signature.{Applicable}
use Rattle.jl_program.specs.declared.choice.Choice.TheVariants as C
use Rattle.jl_program.specs.declared.value.Value.{Value}
use Rattle.jl_program.specs.declared.tree.Expr.{Expr}
use Rattle.jl_program.specs.declared.tree.Site.{Site}
use Rattle.jl_program.specs.declared.tree.Program.{Program}
use Rattle.jl_program.specs.Prelude.{prelude_count}
use Rattle.jl_program.specs.Scope.{types_of}
use Rattle.jl_program.specs.TypeOf.{type_of}
use Rattle.jl_program.specs.Valid.{IsValid}
use Rattle.jl_calculus.specs.declared.history.Change.TheVariants as Ch
use Rattle.jl_calculus.specs.declared.history.Event.{Event}
use Rattle.jl_calculus.proofs.BetweenLemmas.{is_of, taken_below}
use Rattle.jl_calculus.specs.Run.{operation, code, code_of, body_of}
use Rattle.jl_calculus.specs.World.{changes, site_in, site_of, Selects}
use Rattle.jl_task.specs.declared.point.Work.TheVariants.{Calling}
use Rattle.jl_task.specs.declared.point.Now.{Now}
use Rattle.jl_task.specs.Turns.{Point, entered}
use Rattle.jl_task.specs.ValidPoint.{IsGoodPoint}
use Rattle.jl_task.proofs.EnteredKept.{entered_good}

-- the site that is selected
pub record IsSelected (P : Program) (f number : ℕ) (ts : List Ty) : Type 0 where
  pub site : Site
  pub there : slice_get P.sites number ≡ Some site
  pub function : site.function ≡ f
  pub applies : Applicable (types_of P) site.sig ts

pub selected : (P : Program) (es : List Event) (f w d : ℕ) (ts : List Ty) → Selects P es f ts w (C.Method d) → IsSelected P f (site_of es d) ts
selected P es f w d ts (ms, are, (m, best, is)) =
    let a = best.candidate.applies in
    let o = is_of P f 1 (take w (changes es)) m ((are m a.below).0 a.stands).made in
    let at = taken_below w (changes es) o.place (Ch.Def o.number) o.stands in
    let made : 1 + o.place ≡ m.number = ap (λ (z : Method). z.number) o.is in
    let next : suc o.place ≡ d = omega (arith, made, is) in
    let number : o.number ≡ site_of es d = ap site_in (sym at.1) ∙ ap (site_of es) next in
    record {
      site = o.site;
      there = ap (slice_get P.sites) (sym number) ∙ o.there;
      function = o.function;
      applies = subst (λ g. Applicable (types_of P) g ts) (sym (ap (λ (z : Method). z.sig) o.is)) a.below;
    }

-- what code a site has
code_is : (P : Program) (number : ℕ) (x : Site) (sig : Written) (e : Expr) (b : Bool) → nat_lt number prelude_count ≡ b → slice_get P.sites number ≡ Some x → cond b (operation number) (code_of (slice_get P.sites number)) ≡ code sig e
    → (prelude_count ≤ number) × (x.sig ≡ sig) × (x.body ≡ e)
code_is P number x sig e true t g h = cc
code_is P number x sig e false t g h =
    let c : code x.sig x.body ≡ code sig e = sym (ap code_of g) ∙ h in
    let low : prelude_count ≤ number = grind (arith, t) in
    (low, cc, cc)

module _ (P : Program) (v : IsValid P) where
  abbrev Good : Point → Type 0
  Good p = IsGoodPoint P v.views p

  -- The code that is selected for a call is entered.
  pub selected_good : (es : List Event) (f at w in_world d : ℕ) (vs : List Value) (n : Now) (sig : Written) (e : Expr) → Selects P es f (map type_of vs) w (C.Method d) → body_of P (site_of es d) ≡ code sig e
      → Good (Calling f at vs, n) → Good (entered e in_world vs (bindings (types_of P) sig (map type_of vs)) n)
  selected_good es f at w in_world d vs n sig e h b c =
      let s = selected P es f w d (map type_of vs) h in
      let k = code_is P (site_of es d) s.site sig e (nat_lt (site_of es d) prelude_count) refl s.there b in
      let whole = entered_good P v f at in_world vs n (site_of es d) s.site c s.there k.0 s.applies in
      let with_sig : Good (entered s.site.body in_world vs (bindings (types_of P) sig (map type_of vs)) n)
      = subst (λ z. Good (entered s.site.body in_world vs (bindings (types_of P) z (map type_of vs)) n)) k.1 whole in
      subst (λ z. Good (entered z in_world vs (bindings (types_of P) sig (map type_of vs)) n)) k.2 with_sig
