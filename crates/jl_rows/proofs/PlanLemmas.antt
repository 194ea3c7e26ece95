-- Which row is right for a key around a world.
use Rattle.std.proofs.Common.{◌≡◌, ap, sym, subst, arith, ℕ, suc, ◌+◌, ◌<◌, List, length, take, slice_get, Option, Some, None}
use Rattle.jl_model.specs.declared.ty.Key.{Key}
use Rattle.jl_model.specs.declared.ty.Ty.{Ty}
use Rattle.jl_model.specs.Choice.{Method}
use Rattle.jl_program.specs.declared.choice.Choice.{Choice}
use Rattle.jl_program.specs.declared.choice.Choice.TheVariants as C
use Rattle.jl_program.specs.declared.tree.Program.{Program}
use Rattle.jl_program.specs.Valid.{IsValid}
use Rattle.jl_calculus.specs.declared.history.Change.TheVariants as Ch
use Rattle.jl_calculus.specs.declared.history.Event.{Event}
use Rattle.jl_calculus.specs.Learnt.{IsNamed, IsUncovered}
use Rattle.jl_calculus.specs.Legal.{IsKeyOf, MayStand}
use Rattle.jl_calculus.specs.Ranges.{keys_of, rows_of, Touches, Covers, MayBegin, IsCovered}
use Rattle.jl_calculus.specs.World.{changes, site_of, Selects}
use Rattle.jl_calculus.proofs.BetweenLemmas.{is_of, taken_below, row_made}
use Rattle.jl_calculus.proofs.RowLemmas.{one_first}
use Rattle.jl_cache.specs.Finds.{IsRangeEnd, HasRangeEnd}
use Rattle.jl_methods.specs.declared.index.Index.{Index}
use Rattle.jl_methods.specs.Filters.{change_in, IsDefinition}
use Rattle.jl_methods.specs.Indexed.{IsIndexOf}
use Rattle.jl_world.specs.declared.about.About.{About}
use Rattle.jl_world.specs.Adds.{IsNextFill}
use Rattle.jl_world.proofs.Lists.{one_there, place_in, there}
use Rattle.jl_world.proofs.Rights.{rows_right}
use Rattle.jl_rows.specs.declared.plan.NewRow.{NewRow}
use Rattle.jl_rows.specs.declared.plan.RowPlan.{RowPlan}
use Rattle.jl_rows.specs.declared.span.Span.{Span}
use Rattle.jl_rows.specs.Open.{HasRowFrom}
use Rattle.jl_rows.specs.Plans.{IsRowFor, IsRowPlan, IsPlanFor}
use Rattle.jl_rows.specs.Spans.{EndsSo, IsSpanAt}

-- what is chosen in a world is a definition
pub chosen_definition : (P : Program) (es : List Event) (f : ℕ) (ts : List Ty) (w d : ℕ) → Selects P es f ts w (C.Method d) → IsDefinition (change_in (changes es) d)
chosen_definition P es f ts w d (ms, are, (m, b, e)) =
    let i = ((are m b.candidate.applies.below).0 b.candidate.applies.stands).made in
    let o = is_of P f 1 (take w (changes es)) m i in
    let number : 1 + o.place ≡ m.number = ap (λ (x : Method). x.number) o.is in
    let at : suc o.place ≡ d = omega (arith, number, e) in
    subst (λ n. IsDefinition (change_in (changes es) n)) at (subst IsDefinition (sym (taken_below w (changes es) o.place (Ch.Def o.number) o.stands).1) tt)

module _ (P : Program) (valid : IsValid P) (es : List Event) (stand : MayStand P es) (number : ℕ) (key : Key) (proper : IsKeyOf P key) (named : IsNamed es number key) (w : ℕ) (span : Span)
    (h : IsSpanAt (λ d. Touches P es d key) w span) where
  begins : MayBegin P es key span.first
  begins = h.begun

  covers : Covers P es key span.first w
  covers = record { begun = h.low; going = λ d low high t. h.between d t low high }

  range_end : HasRangeEnd P es number span.first span.last
  range_end = (key, named, by span.last h.ends)
    where
      by : (o : Option ℕ) → EndsSo (λ d. Touches P es d key) span.first o → IsRangeEnd P es key span.first o
      by None e = λ d low t. e d t low
      by (Some last) e = record { covers = record { begun = e.0; going = λ d low high t. e.2 d t low high }; touched = e.1 }

  -- a row that begins there covers the world
  pub from_covers : HasRowFrom es number span.first → IsCovered P es number key w
  from_covers r = (r.row, record { stands = r.stands; of_key = r.of_key; covers = subst (λ n. Covers P es key n w) (sym r.begins) covers })

  -- and no other does
  covers_from : IsCovered P es number key w → HasRowFrom es number span.first
  covers_from (row, c) =
      let (r, at) = place_in (rows_of es) row c.stands in
      let right = rows_right P es stand r row at in
      let same : right.key ≡ key = one_there (keys_of es) number right.key key (subst (λ n. slice_get (keys_of es) n ≡ Some right.key) c.of_key right.named) named in
      let begun : MayBegin P es key row.first = subst (λ (k : Key). MayBegin P es k row.first) same right.right.begun in
      record { row = row; stands = c.stands; of_key = c.of_key; begins = one_first P es key row.first span.first w begun begins c.covers covers }

  pub none_covers : (HasRowFrom es number span.first → ⊥) → IsUncovered P es number w
  none_covers none other at c =
      none (covers_from (subst (λ (k : Key). IsCovered P es number k w) (one_there (keys_of es) number other key at named) c))

  -- so this row is right
  pub row_for : (d : ℕ) → Selects P es key.function key.types w (C.Method d) → (HasRowFrom es number span.first → ⊥) → (row : NewRow) → row.site ≡ site_of es d → row.first ≡ span.first → row.last ≡ span.last → IsRowFor P es number key w row
  row_for d chosen none row site first last = record {
    fill = subst (λ n. IsNextFill P es number row.site n) (sym first) fill;
    last = subst (λ n. HasRangeEnd P es number n row.last) (sym first) (subst (HasRangeEnd P es number span.first) (sym last) range_end);
    covers = subst (λ n. Covers P es key n w) (sym first) covers;
  }
    where
      fill : IsNextFill P es number row.site span.first
      fill = record {
        key = key;
        named = named;
        right = row_made P valid es key row.site span.first w proper begins covers (d, chosen, sym site);
        new = λ r c of f. none (record { row = r; stands = c; of_key = of; begins = f });
      }

-- the plan for a key
pub plan_made : (about : About) (P : Program) (es : List Event) (index : Index) (number w : ℕ) (c : Choice) (row : RowPlan) → P ≡ about.program.value → IsIndexOf about.program.value es index → number < length (keys_of es)
    → ((es : List Event) (k : Key) → IsIndexOf P es index → slice_get (keys_of es) number ≡ Some k → Selects P es k.function k.types w c)
    → ((k : Key) → IsNamed es number k → IsRowPlan about es number k w c row) → IsPlanFor about es number w (record { choice = c; row = row })
plan_made about P es index number w c row same h low chosen planned =
    let (k, at) = there (keys_of es) number low in
    record {
      key = k;
      named = at;
      choice = subst (λ (Q : Program). Selects Q es k.function k.types w c) same (chosen es k (subst (λ (Q : Program). IsIndexOf Q es index) (sym same) h) at);
      row = planned k at;
    }
