-- What a method does is what the rules do with it, and no body is heavier than the heaviest.
use Rattle.std.proofs.Common.{◌≡◌, ℕ, zero, suc, ◌+◌, ◌≤◌, ◌-◌, List, [], ◌∷◌, Bool, true, false, cond, nat_lt, slice_get, refl, ap, ◌∙◌, arith}
use Rattle.jl_program.specs.declared.value.Value.{Value}
use Rattle.jl_program.specs.declared.tree.Expr.TheVariants as E
use Rattle.jl_program.specs.declared.tree.Expr.TheViews.{outs-Nothing}
use Rattle.jl_program.specs.declared.tree.Site.{Site}
use Rattle.jl_program.specs.declared.tree.Start.{Start}
use Rattle.jl_program.specs.declared.tree.Program.{Program}
use Rattle.jl_program.specs.Prelude.{prelude_count}
use Rattle.jl_calculus.specs.declared.history.TraceItem.{TraceItem}
use Rattle.jl_calculus.specs.declared.history.Outcome.{Outcome}
use Rattle.jl_calculus.specs.declared.history.Outcome.TheVariants as O
use Rattle.jl_calculus.specs.Run.{Setting, State, Body, operation, code, code_of, body_of, with_scope, performs, operates, runs, calls}
use Rattle.jl_task.specs.declared.point.Now.{Now}
use Rattle.jl_task.specs.Operated.{performed}
use Rattle.jl_task.specs.Point.{gives, state_of, Finishes}
use Rattle.jl_task.specs.Turns.{Point, answered}
use Rattle.jl_task.specs.Weight.{expr_weight, heaviest, load, stack_weight}
use Rattle.jl_task.specs.Worlds.{IsWorld, AreWorlds, IsWithin}
use Rattle.jl_task.proofs.Steps.{answered_same}
use Rattle.jl_task.proofs.Weighing.{expr_layer, expr_weighs}

-- what is left to do after a method's body is begun
pub performed_same : (g : Setting) (Ends : Outcome → State → Type 0) (b : Body) (w : ℕ) (vs : List Value) (n : Now) (made : ℕ) (starts : List Start) (rest : List TraceItem)
    → Finishes g Ends (performed g.program b w vs n) made starts rest ≡ performs g Ends b vs (state_of n made starts rest) (gives g Ends n.stack n.world n.room) (λ bindings e.
    runs g Ends (calls g Ends (n.room - 1)) e w (with_scope (state_of n made starts rest) vs bindings) (λ v s1. gives g Ends n.stack n.world n.room v (with_scope s1 n.env n.bindings)) (λ v s1. gives g Ends n.stack n.world n.room v (with_scope s1 n.env n.bindings)))
performed_same g Ends (operation i) w vs n made starts rest = answered_same g Ends made starts rest n (operates i vs)
performed_same g Ends (code sig e) w vs n made starts rest = refl

-- a body is at most as heavy as the heaviest
abbrev IsLight : ℕ → Body → Type 0
IsLight most (operation n) = Unit {0}
IsLight most (code sig e) = expr_weight e ≤ most

two_heaviest : (xs : List Site) → 2 ≤ heaviest xs
two_heaviest [] = omega arith
two_heaviest (x ∷ xs) = omega (arith, two_heaviest xs)

nothing_weighs : expr_weight E.Nothing ≡ 2
nothing_weighs = expr_weighs E.Nothing ∙ ap expr_layer outs-Nothing

light_code : (most : ℕ) (xs : List Site) (i : ℕ) → heaviest xs ≤ most → IsLight most (code_of (slice_get xs i))
light_code most [] i le = omega (arith, nothing_weighs)
light_code most (x ∷ xs) zero le = omega arith
light_code most (x ∷ xs) (suc i) le = light_code most xs i (omega arith)

light_cond : (most : ℕ) (b : Bool) (n : ℕ) (c : Body) → IsLight most c → IsLight most (cond b (operation n) c)
light_cond most true n c h = tt
light_cond most false n c h = h

light_body : (P : Program) (site : ℕ) → IsLight (heaviest P.sites) (body_of P site)
light_body P site = light_cond (heaviest P.sites) (nat_lt site prelude_count) site (code_of (slice_get P.sites site)) (light_code (heaviest P.sites) P.sites site (omega arith))

answered_light : (o : Outcome) (n : Now) → load (answered o) n ≤ 1 + stack_weight n.stack
answered_light (O.Value v) n = omega arith
answered_light (O.Error e) n = omega arith

-- what a method's body leaves: worlds, and few turns
pub record Performs (most heavy : ℕ) (n : Now) (p : Point) : Type 0 where
  pub worlds : IsWithin most p
  pub light : load p.0 p.1 ≤ heavy + (1 + stack_weight n.stack)

answered_worlds : (most : ℕ) (o : Outcome) (n : Now) → IsWorld n.world most → AreWorlds n.stack most → IsWithin most (answered o, n)
answered_worlds most (O.Value v) n h ws = record { world = h; waiting = ws; called = tt }
answered_worlds most (O.Error e) n h ws = record { world = h; waiting = ws; called = tt }

performs_at : (P : Program) (most heavy : ℕ) (b : Body) (w : ℕ) (vs : List Value) (n : Now) → IsLight heavy b → IsWorld w most → IsWorld n.world most → AreWorlds n.stack most → Performs most heavy n (performed P b w vs n)
performs_at P most heavy (operation i) w vs n light iw h ws = record { worlds = answered_worlds most (operates i vs) n h ws; light = omega (arith, answered_light (operates i vs) n) }
performs_at P most heavy (code sig e) w vs n light iw h ws = record { worlds = record { world = iw; waiting = (h, ws); called = tt }; light = omega (arith, light) }

pub performs_well : (P : Program) (most : ℕ) (site w : ℕ) (vs : List Value) (n : Now) → IsWorld w most → IsWorld n.world most → AreWorlds n.stack most → Performs most (heaviest P.sites) n (performed P (body_of P site) w vs n)
performs_well P most site w vs n = performs_at P most (heaviest P.sites) (body_of P site) w vs n (light_body P site)
