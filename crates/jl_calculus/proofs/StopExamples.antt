-- The stop at a question, computed on `f(x) = x + 1`, and then `println(f(2))`: after its first look the run comes to the definition
-- of `f`, to no other one, and not before.
use Rattle.std.proofs.Common.{◌≡◌, refl, ap, subst, ℕ, List, [], ◌∷◌, drop, Some, None, arith}
use Rattle.jl_program.specs.declared.tree.Expr.TheOpen as F
use Rattle.jl_program.specs.declared.tree.Expr.TheViews as X
use Rattle.jl_program.specs.declared.tree.Item.{Item}
use Rattle.jl_program.specs.declared.tree.Item.TheVariants as I
use Rattle.jl_program.specs.declared.tree.Start.{Start}
use Rattle.jl_program.specs.declared.value.Value.TheVariants as V
use Rattle.jl_program.proofs.FirstProgram.{P}
use Rattle.jl_calculus.specs.declared.history.Event.{Event}
use Rattle.jl_calculus.specs.declared.history.Outcome.{Outcome}
use Rattle.jl_calculus.specs.declared.history.Outcome.TheVariants as O
use Rattle.jl_calculus.specs.declared.history.TraceItem.{TraceItem}
use Rattle.jl_calculus.specs.declared.history.TraceItem.TheVariants.{Look}
use Rattle.jl_calculus.specs.Run.{Question, a_look, a_definition, a_deletion, a_spawn, a_fetch, Setting, State, Then, IsEnd, Caller, Comes, calls, runs_item, items_run, looks, defines, first_state, open_calls}
use Rattle.jl_calculus.proofs.Forms.{item_form_is}
use Rattle.jl_calculus.proofs.WorldScripts.{made}

-- the items after the first
abbrev rest : List Item
rest = drop 1 P.top

module _ (es : List Event) (question : Question) (outcome : Outcome) (output : List ℕ) (count : ℕ) (spawned : List Start) where
  abbrev g : Setting
  g = record { program = P; events = es; places = None; fuel = 10; until = Some question }

  abbrev Ends : Outcome → State → Type 0
  Ends = IsEnd outcome output count spawned

  abbrev called : Caller
  called = calls g Ends open_calls

  abbrev end : Then
  end = λ v s. Ends (O.Value v) s

  abbrev later : Then
  later = λ v s. items_run (runs_item g Ends called) rest v s end end

  -- what the first item asks, with this trace
  abbrev asks : List TraceItem → Type 0
  asks trace = looks g Ends trace (first_state trace) (λ w s. defines g Ends s.left 14 s (λ s1. later V.Nothing s1))

  first_is : (trace : List TraceItem) → runs_item g Ends called (I.Define 14) (first_state trace) end later ≡ asks trace
  first_is trace = item_form_is g Ends called (I.Define 14) (F.Define 14) (X.outs-Define 14) (first_state trace) end later

abbrev pub looked : List TraceItem
looked = Look 14 1 ∷ []

pub comes_to_f : (es : List Event) → Comes P es None 10 None looked (a_definition 14)
comes_to_f es outcome output count spawned = record { ran = made (first_is es (a_definition 14) outcome output count spawned looked) refl }

abbrev pub site_asked : Question → ℕ
site_asked a_look = 0
site_asked (a_definition site) = site
site_asked (a_deletion place) = 0
site_asked (a_spawn start) = 0
site_asked (a_fetch task) = 0

-- to no other definition
pub to_no_other : (es : List Event) → Comes P es None 10 None looked (a_definition 15) → ⊥
to_no_other es h =
    let r = h (O.Value V.Nothing) [] 0 [] in
    let asked : asks es (a_definition 15) (O.Value V.Nothing) [] 0 [] looked = subst (λ (A : Type 0). A) (first_is es (a_definition 15) (O.Value V.Nothing) [] 0 [] looked) r.ran in
    absurd (omega (arith, ap site_asked asked))

-- and not before its look
pub not_at_once : (es : List Event) → Comes P es None 10 None [] (a_definition 14) → ⊥
not_at_once es h =
    let r = h (O.Value V.Nothing) [] 0 [] in
    let asked : asks es (a_definition 14) (O.Value V.Nothing) [] 0 [] [] = subst (λ (A : Type 0). A) (first_is es (a_definition 14) (O.Value V.Nothing) [] 0 [] []) r.ran in
    absurd (omega (arith, ap site_asked asked))
