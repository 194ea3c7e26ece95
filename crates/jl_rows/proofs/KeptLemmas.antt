-- What keeps a call.
use Rattle.std.proofs.Common.{◌≡◌, ◌∙◌, sym, subst, refl, ℕ, ◌≤◌, inl, inr, arith, List, [], ◌∷◌, ◌++◌}
use Rattle.std.specs.List.{Contains}
use Rattle.std.proofs.lemmas.List.Elements.{Contains-append_right}
use Rattle.jl_model.specs.declared.ty.Key.{Key}
use Rattle.jl_program.specs.declared.choice.Choice.{Choice}
use Rattle.jl_program.specs.declared.choice.Choice.TheVariants as C
use Rattle.jl_program.specs.declared.tree.Program.{Program}
use Rattle.jl_program.specs.Valid.{IsValid}
use Rattle.jl_calculus.specs.declared.history.Event.{Event}
use Rattle.jl_calculus.specs.declared.history.Event.TheVariants as Ev
use Rattle.jl_calculus.specs.Kept.{Places, IsKeptFor}
use Rattle.jl_calculus.specs.Learnt.{IsNamed, IsChosen}
use Rattle.jl_calculus.specs.Legal.{IsKeyOf}
use Rattle.jl_calculus.specs.Ranges.{CacheRow, keys_of, rows_of, IsCovered, IsRightFill, SelectsSite}
use Rattle.jl_calculus.specs.World.{world_of, Selects}
use Rattle.jl_calculus.proofs.BetweenLemmas.{of_world, row_tells}
use Rattle.jl_calculus.proofs.GrowthLemmas.{rows_append, world_more, selects_on, site_more, covers_on}
use Rattle.jl_calculus.proofs.SelectLemmas.{selects_one}
use Rattle.jl_world.specs.declared.about.About.{About}
use Rattle.jl_world.proofs.Lists.{one_there}
use Rattle.jl_world.proofs.Rights.{named_more}
use Rattle.jl_rows.specs.declared.plan.NewRow.{NewRow}
use Rattle.jl_rows.specs.declared.plan.Plan.{Plan}
use Rattle.jl_rows.specs.declared.plan.RowPlan.{RowPlan}
use Rattle.jl_rows.specs.declared.plan.RowPlan.TheVariants.{NoMethod, Covered, RowsFull, Link}
use Rattle.jl_rows.specs.Plans.{IsRowFor, IsRowPlan, IsMethodPlan, IsPlanFor, places_of, with_row}

-- ---- the row that was linked

pub linked_chosen : (P : Program) → IsValid P → (es : List Event) (number w : ℕ) (key : Key) (row : NewRow) → IsKeyOf P key → w ≤ world_of es → IsNamed es number key → IsRowFor P es number key w row
    → IsChosen P (es ++ Ev.Fill number row.site row.first ∷ []) number w row.site
linked_chosen P valid es number w key row proper l named h = record {
  known = omega (arith, l, world_more es (fill ∷ []));
  key = key;
  named = named_more es (fill ∷ []) number key named;
  covered = (new, record { stands = stands; of_key = refl; covers = covers_on P es (fill ∷ []) key row.first w l h.covers });
  choice = (let (d, s, e) = tells in let n = of_world P es key.function key.types w d s in (d, selects_on P es (fill ∷ []) key.function key.types w (C.Method d) l s, site_more P es (fill ∷ []) d (omega (arith, n.1, l)) ∙ e));
}
  where
    fill : Event
    fill = Ev.Fill number row.site row.first

    new : CacheRow
    new = record { key = number; site = row.site; first = row.first }

    stands : Contains (rows_of (es ++ fill ∷ [])) new
    stands = subst (λ (xs : List CacheRow). Contains xs new) (sym (rows_append es (fill ∷ []))) (Contains-append_right (rows_of es) (new ∷ []) new (0, omega arith, refl))

    same : h.fill.key ≡ key
    same = one_there (keys_of es) number h.fill.key key h.fill.named named

    right : IsRightFill P es key row.site row.first
    right = subst (λ (k : Key). IsRightFill P es k row.site row.first) same h.fill.right

    tells : SelectsSite P es key w row.site
    tells = row_tells P valid es key row.site row.first w proper right h.covers

-- ---- the cases

pub covered_kept : (P : Program) (es : List Event) (room : Places) (number w : ℕ) (key : Key) → w ≤ world_of es → IsNamed es number key → IsCovered P es number key w
    → IsKeptFor P es room key.function key.types w
covered_kept P es room number w key l named c = (l, inr (inr (number, key, named, refl, refl, λ d s. c)))

pub chosen_kept : (P : Program) (es : List Event) (room : Places) (number w site : ℕ) (key : Key) → IsNamed es number key → IsChosen P es number w site
    → IsKeptFor P es room key.function key.types w
chosen_kept P es room number w site key named h =
    let same : h.key ≡ key = one_there (keys_of es) number h.key key h.named named in
    covered_kept P es room number w key h.known named (subst (λ (k : Key). IsCovered P es number k w) same h.covered)

pub none_kept : (P : Program) (es : List Event) (room : Places) (number w : ℕ) (key : Key) (c : Choice) → w ≤ world_of es → IsNamed es number key
    → Selects P es key.function key.types w c → ((d : ℕ) → c ≡ C.Method d → ⊥) → IsKeptFor P es room key.function key.types w
none_kept P es room number w key c l named s none =
    (l, inr (inr (number, key, named, refl, refl, λ d t. absurd (none d (selects_one P es key.function key.types w c (C.Method d) s t)))))

module _ (about : About) (valid : IsValid about.program.value) (es : List Event) (number w : ℕ) (key : Key) (proper : IsKeyOf about.program.value key) (l : w ≤ world_of es) (named : IsNamed es number key) where
  abbrev Keeps : RowPlan → Type 0
  Keeps row = IsKeptFor about.program.value (with_row es number row) (places_of about) key.function key.types w

  method_kept : (row : RowPlan) → IsMethodPlan about es number key w row → Keeps row
  method_kept NoMethod h = absurd h
  method_kept Covered h = covered_kept about.program.value es (places_of about) number w key l named h
  method_kept RowsFull h = (l, inr (inl (omega (arith, h.1))))
  method_kept (Link row) h =
      chosen_kept about.program.value (es ++ Ev.Fill number row.site row.first ∷ []) (places_of about) number w row.site key (named_more es (Ev.Fill number row.site row.first ∷ []) number key named)
      (linked_chosen about.program.value valid es number w key row proper l named h.2)

  row_kept : (c : Choice) (row : RowPlan) → Selects about.program.value es key.function key.types w c → IsRowPlan about es number key w c row → Keeps row
  row_kept (C.Method d) row s h = method_kept row h
  row_kept C.None row s h = subst Keeps (sym h) (none_kept about.program.value es (places_of about) number w key C.None l named s (λ d e. absurd cc))
  row_kept (C.Ambiguous a b) row s h = subst Keeps (sym h) (none_kept about.program.value es (places_of about) number w key (C.Ambiguous a b) l named s (λ d e. absurd cc))

pub planned_kept : (about : About) → IsValid about.program.value → (es : List Event) (number w : ℕ) (plan : Plan) → w ≤ world_of es → (made : IsPlanFor about es number w plan) → IsKeyOf about.program.value made.key
    → IsKeptFor about.program.value (with_row es number plan.row) (places_of about) made.key.function made.key.types w
planned_kept about valid es number w plan l made proper = row_kept about valid es number w made.key proper l made.named plan.choice plan.row made.choice made.row
