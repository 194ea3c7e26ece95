-- What a pass has seen is true of all events, so a run over it is the end of its task; and events that an index does not keep leave it
-- as it is.
use Rattle.std.proofs.Common.{◌≡◌, ◌∙◌, ap, sym, subst, ℕ, ◌≤◌, arith, List, [], ◌∷◌, ◌++◌, length, Option, Some}
use Rattle.jl_model.specs.declared.ty.Key.{Key}
use Rattle.jl_program.specs.declared.tree.Program.{Program}
use Rattle.jl_calculus.specs.declared.history.Change.{Change}
use Rattle.jl_calculus.specs.declared.history.Event.{Event}
use Rattle.jl_calculus.specs.declared.history.Record.{Record}
use Rattle.jl_calculus.specs.declared.history.TraceItem.{TraceItem}
use Rattle.jl_calculus.specs.Legal.{start_of, AreTrueOf, HasTrueTrace, HasRun}
use Rattle.jl_calculus.specs.Past.{IsInOrder, own_starts, past}
use Rattle.jl_calculus.specs.Ranges.{CacheRow, keys_of, rows_of}
use Rattle.jl_calculus.specs.Run.{setting_of, Run}
use Rattle.jl_calculus.specs.ValidHistory.{AreValidEvents, IsValidRecord}
use Rattle.jl_calculus.specs.World.{changed, changes}
use Rattle.jl_calculus.proofs.GrowthLemmas.{true_on}
use Rattle.jl_calculus.proofs.RunMoves.{without_places}
use Rattle.jl_methods.specs.declared.index.Index.{Index}
use Rattle.jl_methods.specs.Indexed.{AreFilters, IsIndexOf, noted_in}
use Rattle.jl_methods.proofs.NoteLemmas.{moved, no_change, no_key, no_row}
use Rattle.jl_world.specs.declared.about.About.{About}
use Rattle.jl_world.specs.declared.view.TaskView.{TaskView}
use Rattle.jl_world.specs.Rule.{IsHistory}
use Rattle.jl_world.specs.Views.{Begins, IsViewOf, IsOwn, Fits, number_or_zero}
use Rattle.jl_world.proofs.Growth.{begins_length}
use Rattle.jl_rows.specs.Plans.{places_of}
use Rattle.jl_book.specs.Passes.{task_in, first_of, HasShare, IsPass, IsRunOver}
use Rattle.jl_book.specs.Tasks.{share_of}
use Rattle.jl_book.proofs.Pushing.{IsEnd}
use Rattle.jl_book.proofs.Starts.{first_is, first_stays}
use Rattle.jl_book.proofs.Valid.{record_is_valid}

all_true : (P : Program) (seen more : List Event) (t : ℕ) (is : List TraceItem) → AreTrueOf P seen t is → AreTrueOf P (seen ++ more) t is
all_true P seen more t [] h = tt
all_true P seen more t (i ∷ is) h = (true_on seen more P t i h.0, all_true P seen more t is h.1)

-- what is true of a beginning of the events is true of all
pub still_true : (P : Program) (seen es : List Event) (t : ℕ) (is : List TraceItem) → Begins seen es → AreTrueOf P seen t is → AreTrueOf P es t is
still_true P seen es t is b h = subst (λ xs. AreTrueOf P xs t is) (sym b.1) (all_true P seen b.0 t is h)

in_order : (low high most : ℕ) (is : List TraceItem) → high ≤ most → IsInOrder low is high → IsInOrder low is most
in_order low high most [] l h = omega (arith, l, h)
in_order low high most (i ∷ is) l h = (h.0, in_order (past i) high most is l h.1)

-- the view of a task that is held is right for the task
pub view_is : (P : Program) (es : List Event) (t : ℕ) (v : TaskView) → v.task ≡ Some t → Fits P es v → IsViewOf es t v
view_is P es t v is fits = subst (λ (o : Option ℕ). IsOwn es o v) is fits.own

-- the pass of a task has its share
pub has_share : (about : About) (es : List Event) (t : ℕ) (v : TaskView) → IsPass about t v → Fits about.program.value es v → HasShare es v
has_share about es t v h fits =
    ap length (view_is about.program.value es t v h.task fits).own ∙ ap (share_of es) (sym (ap number_or_zero h.task))

module _ (about : About) (es : List Event) (t : ℕ) (v : TaskView) (r : Record) (h : IsPass about t v) (fits : Fits about.program.value es v) (history : IsHistory about es) (run : IsRunOver about v r) where
  abbrev P : Program
  P = about.program.value

  view : IsViewOf es t v
  view = view_is P es t v h.task fits

  task_is : task_in v ≡ t
  task_is = ap number_or_zero h.task

  traced : HasTrueTrace P es t r
  traced = record {
    true_items = subst (λ k. AreTrueOf P es k r.trace) task_is (still_true P v.seen es (task_in v) r.trace fits.prefix run.learnt);
    in_order =
        let first = ap (λ k. first_of k v.seen) task_is ∙ sym (first_stays v.seen es t v.start fits.prefix h.started) ∙ first_is P es t history.stand in
        subst (λ n. IsInOrder n r.trace (length es)) first (in_order (first_of (task_in v) v.seen) (length v.seen) (length es) r.trace (begins_length v.seen es fits.prefix) run.order);
  }

  runs : HasRun P (Some (places_of about)) es t r
  runs fuel is =
      let fuels : v.fuel ≡ fuel = number (sym view.fuel ∙ is) in
      let a = run.runs es fits.prefix in
      let b = subst (λ o. Run (setting_of P es (Some (places_of about)) v.fuel) o r.trace r.outcome r.output r.calls v.starts) view.start a in
      let c = subst (λ ss. Run (setting_of P es (Some (places_of about)) v.fuel) (start_of t es) r.trace r.outcome r.output r.calls ss) view.starts b in
      subst (λ n. Run (setting_of P es (Some (places_of about)) n) (start_of t es) r.trace r.outcome r.output r.calls (own_starts t es)) fuels c
    where
      number : {a b : ℕ} → Some a ≡ Some b → a ≡ b
      number e = ap number_or_zero e

  pub end_is : IsEnd about es t r
  end_is = record {
    traced = traced;
    own = sym view.own ∙ sym run.own;
    run = runs;
    plain = λ fuel is. without_places P es (Some (places_of about)) fuel (start_of t es) r.trace r.outcome r.output r.calls (own_starts t es) (runs fuel is);
  }

  -- and the record is valid among valid events
  pub record_fits : AreValidEvents P es → IsValidRecord P r
  record_fits valid = record_is_valid P es t r valid traced.true_items run.outcome

-- an event that is no key, no row and no change
module _ (P : Program) (i : Index) where
  abbrev Filters : List Change → List Key → List CacheRow → Type 0
  Filters cs keys rows = AreFilters P cs keys rows (noted_in i)

  pub index_kept : (es : List Event) (e : Event) → changed (e ∷ []) ≡ [] → keys_of (e ∷ []) ≡ [] → rows_of (e ∷ []) ≡ [] → IsIndexOf P es i → IsIndexOf P (es ++ e ∷ []) i
  index_kept es e no_changes no_keys no_rows h =
      moved P es e (noted_in i)
      (subst (λ ds. Filters (changes es ++ ds) (keys_of es ++ keys_of (e ∷ [])) (rows_of es ++ rows_of (e ∷ []))) (sym no_changes)
      (subst (λ ks. Filters (changes es ++ []) (keys_of es ++ ks) (rows_of es ++ rows_of (e ∷ []))) (sym no_keys)
      (subst (λ rs. Filters (changes es ++ []) (keys_of es ++ []) (rows_of es ++ rs)) (sym no_rows)
      (no_change P (changes es) (keys_of es ++ []) (rows_of es ++ []) (noted_in i) (no_key P (changes es) (keys_of es) (rows_of es ++ []) (noted_in i) (no_row P (changes es) (keys_of es) (rows_of es) (noted_in i) h))))))
