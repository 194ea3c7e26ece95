-- What a change cuts, and what a plan leaves.
use Rattle.std.proofs.Common.{◌≡◌, ap, sym, subst, ℕ, ◌≤◌, List, [], ◌∷◌}
use Rattle.jl_model.specs.declared.ty.Key.{Key}
use Rattle.jl_model.specs.declared.ty.Ty.{Ty}
use Rattle.jl_program.specs.declared.choice.Choice.{Choice}
use Rattle.jl_program.specs.declared.tree.Program.{Program}
use Rattle.jl_program.specs.Valid.{IsValid}
use Rattle.jl_calculus.specs.declared.history.Change.{Change}
use Rattle.jl_calculus.specs.declared.history.Event.{Event}
use Rattle.jl_calculus.specs.declared.history.Event.TheVariants as Ev
use Rattle.jl_calculus.specs.Kept.{IsKeptFor}
use Rattle.jl_calculus.specs.Learnt.{IsNamed}
use Rattle.jl_calculus.specs.Legal.{IsKeyOf}
use Rattle.jl_calculus.specs.Ranges.{keys_of}
use Rattle.jl_calculus.specs.Words.{AreAllCut}
use Rattle.jl_calculus.specs.World.{world_of, Selects}
use Rattle.jl_calculus.proofs.GrowthLemmas.{selects_on}
use Rattle.jl_methods.specs.Filters.{AreTouched}
use Rattle.jl_rows.specs.declared.plan.Plan.{Plan}
use Rattle.jl_rows.specs.declared.plan.RowPlan.{RowPlan}
use Rattle.jl_rows.specs.declared.plan.RowPlan.TheVariants as R
use Rattle.jl_rows.specs.Open.{with_cut}
use Rattle.jl_rows.specs.Plans.{IsPlanFor, places_of, with_row}
use Rattle.jl_rows.proofs.KeptLemmas.{planned_kept}
use Rattle.jl_world.specs.declared.about.About.{About}
use Rattle.jl_world.specs.declared.view.BookView.{BookView}
use Rattle.jl_world.specs.Views.{Begins}
use Rattle.jl_world.proofs.Lists.{one_there}
use Rattle.jl_world.proofs.Rights.{named_more}

-- a choice stays where a row is linked
selects_row : (P : Program) (es : List Event) (number f : ℕ) (ts : List Ty) (w : ℕ) (c : Choice) (row : RowPlan) → w ≤ world_of es → Selects P es f ts w c → Selects P (with_row es number row) f ts w c
selects_row P es number f ts w c R.NoMethod l h = h
selects_row P es number f ts w c R.Covered l h = h
selects_row P es number f ts w c R.RowsFull l h = h
selects_row P es number f ts w c (R.Link row) l h = selects_on P es (Ev.Fill number row.site row.first ∷ []) f ts w c l h

module _ (about : About) (seen es new : List Event) (number w : ℕ) (plan : Plan) (b : Begins seen es) (l : w ≤ world_of es) (made : IsPlanFor about es number w plan) (added : new ≡ with_row es number plan.row) where
  -- the key that a task saw under the number is that of the plan
  same_key : (key : Key) → IsNamed seen number key → made.key ≡ key
  same_key key named = one_there (keys_of es) number made.key key made.named (subst (λ xs. IsNamed xs number key) (sym b.1) (named_more seen b.0 number key named))

  pub plan_choice : (key : Key) → IsNamed seen number key → Selects about.program.value new key.function key.types w plan.choice
  plan_choice key named =
      let P = about.program.value in
      let k = same_key key named in
      subst (λ xs. Selects P xs key.function key.types w plan.choice) (sym added)
      (selects_row P es number key.function key.types w plan.choice plan.row l (subst (λ (x : Key). Selects P es x.function x.types w plan.choice) k made.choice))

  pub plan_kept : IsValid about.program.value → IsKeyOf about.program.value made.key → (key : Key) → IsNamed seen number key → IsKeptFor about.program.value new (places_of about) key.function key.types w
  plan_kept valid proper key named =
      let P = about.program.value in
      let k = same_key key named in
      subst (λ xs. IsKeptFor P xs (places_of about) key.function key.types w) (sym added)
      (subst (λ (x : Key). IsKeptFor P (with_row es number plan.row) (places_of about) x.function x.types w) k (planned_kept about valid es number w plan l made proper))
