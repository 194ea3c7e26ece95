-- What a site of the script does is its body.
use Rattle.std.proofs.Common.{◌≡◌, ℕ, ◌≤◌, ◌<◌, List, Option, Some, Result, IfOk, cond, refl, sym, ap, ◌∙◌, subst, slice_get, get_or, map, length, zero, suc, arith, [], ◌∷◌}
use Rattle.std.proofs.lemmas.Bool.{le-ltb, lt-ltb}
use Rattle.std.specs.declared.alloc.AllocError.{AllocError}
use Rattle.jl_model.specs.declared.ty.Ty.{Ty}
use Rattle.jl_program.specs.declared.value.Value.{Value}
use Rattle.jl_program.specs.declared.tree.Site.{Site}
use Rattle.jl_program.specs.declared.tree.Program.{Program}
use Rattle.jl_program.specs.TypeOf.{type_of}
use Rattle.jl_calculus.specs.Run.{operation, code_of, body_of, operates}
use Rattle.jl_task.specs.declared.point.Now.{Now}
use Rattle.jl_task.specs.Operated.{performed}
use Rattle.jl_task.specs.Turns.{answered, entered}
use Rattle.jl_machine.specs.declared.now.LentNow.{LentNow}
use Rattle.jl_machine.specs.declared.now.LentWork.{LentWork}
use Rattle.jl_machine.specs.Lent.{Reaches}
use Rattle.jl_machine.specs.Steps.{variables_at}

-- a site of the prelude is an operation, and one past it is code
pub prelude_body : (P : Program) (site : ℕ) → site < 14 → body_of P site ≡ operation site
prelude_body P site lt = ap (λ b. cond b (operation site) (code_of (slice_get P.sites site))) (lt-ltb site 14 lt)

script_body : (P : Program) (site : ℕ) → 14 ≤ site → body_of P site ≡ code_of (slice_get P.sites site)
script_body P site le = ap (λ b. cond b (operation site) (code_of (slice_get P.sites site))) (le-ltb site 14 le)

pub operation_ok : (r : Result LentWork AllocError) (n' : LentNow) (P : Program) (site w : ℕ) (vs : List Value) (n : Now) → site < 14
    → IfOk r (λ work. Reaches work n' (answered (operates site vs), n)) → IfOk r (λ work. Reaches work n' (performed P (body_of P site) w vs n))
operation_ok r n' P site w vs n lt h = subst (λ b. IfOk r (λ work. Reaches work n' (performed P b w vs n))) (sym (prelude_body P site lt)) h

-- the site that stands at a place
there_is : (xs : List Site) (i : ℕ) (x : Site) → i < length xs → get_or xs i x ≡ x → slice_get xs i ≡ Some (get_or xs i x)
there_is [] i x lt e = absurd (omega (arith, lt))
there_is (y ∷ ys) zero x lt e = refl
there_is (y ∷ ys) (suc i) x lt e = there_is ys i x (omega (arith, lt)) e

entered_code : (P : Program) (o : Option Site) (x : Site) (w : ℕ) (vs : List Value) (ts : List Ty) (n : Now) → o ≡ Some x → variables_at P (map type_of vs) o ≡ ts → entered x.body w vs ts n ≡ performed P (code_of o) w vs n
entered_code P o x w vs ts n is bound =
    let some : variables_at P (map type_of vs) (Some x) ≡ ts = subst (λ p. variables_at P (map type_of vs) p ≡ ts) is bound in
    ap (λ us. entered x.body w vs us n) (sym some) ∙ ap (λ p. performed P (code_of p) w vs n) (sym is)

pub entered_ok : (r : Result LentWork AllocError) (n' : LentNow) (P : Program) (site w : ℕ) (x : Site) (vs : List Value) (ts : List Ty) (n : Now) → 14 ≤ site → slice_get P.sites site ≡ Some x
    → variables_at P (map type_of vs) (slice_get P.sites site) ≡ ts
    → IfOk r (λ work. Reaches work n' (entered x.body w vs ts n)) → IfOk r (λ work. Reaches work n' (performed P (body_of P site) w vs n))
entered_ok r n' P site w x vs ts n le is bound h =
    let e = entered_code P (slice_get P.sites site) x w vs ts n is bound ∙ ap (λ b. performed P b w vs n) (sym (script_body P site le)) in
    subst (λ p. IfOk r (λ work. Reaches work n' p)) e h
