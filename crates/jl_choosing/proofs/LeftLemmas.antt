-- What the latest deletions of each place in a world leave.
use Rattle.std.proofs.Common.{◌≡◌, ◌∙◌, sym, subst, refl, ℕ, zero, suc, ◌+◌, ◌<◌, ◌≤◌, arith, List, [], length, take, get_or, slice_get, Some}
use Rattle.std.specs.List.{Contains}
use Rattle.std.proofs.lemmas.List.{take_all}
use Rattle.jl_model.specs.declared.ty.Ty.{Ty}
use Rattle.jl_program.specs.declared.choice.Choice.{Choice}
use Rattle.jl_program.specs.declared.tree.Delete.{Delete}
use Rattle.jl_program.specs.declared.tree.Program.{Program}
use Rattle.jl_calculus.specs.declared.history.Change.{Change}
use Rattle.jl_calculus.specs.declared.history.Change.TheVariants as Ch
use Rattle.jl_calculus.specs.declared.history.Def.{Def}
use Rattle.jl_calculus.specs.declared.history.Del.{Del}
use Rattle.jl_calculus.specs.declared.history.Event.{Event}
use Rattle.jl_calculus.specs.Definitions.{defs_in, dels_from}
use Rattle.jl_calculus.specs.World.{changes, change_at, Selects}
use Rattle.jl_methods.specs.Filters.{dels_in}
use Rattle.jl_methods.specs.Latest.{AreLatestOfPlaces}
use Rattle.jl_methods.proofs.ChangeLemmas.{del, del_of, del_there, dels_up}
use Rattle.jl_methods.proofs.PutLemmas.{get_known, take_within}
use Rattle.jl_methods.proofs.UpLemmas.{get_take}
use Rattle.jl_subsig.specs.Standing.{IsLeft, IsRepeated, ChoosesLeft}
use Rattle.jl_subsig.proofs.StandingChoice.{IsDeletionOf, IsKept, kept_left, left_kept, left_selects}
use Rattle.jl_choosing.specs.ByFunction.{AreLatestDels}

module _ (P : Program) (es : List Event) (f w : ℕ) (some : List Del) (h : AreLatestDels (dels_in P es f w) some) where
  made : (e : Del) → Contains some e → IsDeletionOf P es f w e
  made e c =
      let i = del_of P f 1 (take w (changes es)) e (h.there e c) in
      let l = get_known (take w (changes es)) i.place (Ch.Del e.place) i.change_is in
      let m = take_within w (changes es) in
      let at : suc i.place ≡ e.world = omega (arith, i.world_is) in
      record {
        place = i.row;
        change = subst (λ n. change_at es n ≡ Some (Ch.Del e.place)) at (sym (get_take w (changes es) i.place (omega (arith, l, m))) ∙ i.change_is);
        up = omega (arith, i.world_is, l, m);
        stands = i.stands;
        function_is = i.function_is;
      }

  repeated : (world place : ℕ) (p : Delete) → change_at es world ≡ Some (Ch.Del place) → world ≤ w → slice_get P.deletes place ≡ Some p → p.function ≡ f → IsRepeated (del world place) some
  repeated zero place p q up r t = absurd cc
  repeated (suc j) place p q up r t =
      let l : j < w = omega (arith, up) in
      let c = del_there P f 1 (take w (changes es)) j place p (get_take w (changes es) j l ∙ q) r t in
      let at : 1 + j ≡ suc j = omega arith in
      h.covered (del (suc j) place) (subst (λ n. Contains (dels_in P es f w) (del n place)) at c)

  left_stays : (d : Def) → IsLeft P some d → IsKept P es f w some d
  left_stays d left = left_kept P es f w some (λ p. Unit {0}) (λ world place p q up r t may. repeated world place p q up r t) d (λ place p r t s. tt) left

  stays_left : (d : Def) → IsKept P es f w some d → IsLeft P some d
  stays_left d kept = kept_left P es f w some d (λ e c t. made e c) kept

  -- the choice among the definitions that they leave is the choice of the rules
  pub chosen_left : (ts : List Ty) (c : Choice) → ChoosesLeft P some ts (defs_in P es f w) c → Selects P es f ts w c
  chosen_left ts c chosen = left_selects P es f w some ts (λ d i a l. left_stays d l) (λ d i a k. stays_left d k) c chosen

-- of a list that has the latest of each place: those of a world, or all of them
pub latest_dels : (all some : List Del) → AreLatestOfPlaces all some → AreLatestDels all some
latest_dels all some h = record {
  there = λ d c. (h.there d c).0;
  covered = λ d c. (let l = h.covered d c tt in record { by = l.by; stays = l.stays; place_is = l.same; later = l.later });
}

pub whole_dels : (all : List Del) → AreLatestDels all all
whole_dels all = record { there = λ d c. c; covered = λ d c. record { by = d; stays = c; place_is = refl; later = omega arith } }

nothing : {x : Del} → Contains [] x → ⊥
nothing (k, l, e) = absurd (omega arith)

-- where a function has no deletion
pub none_latest : (P : Program) (f w : ℕ) (cs : List Change) → [] ≡ dels_from P f 1 cs → AreLatestDels (dels_from P f 1 (take w cs)) []
none_latest P f w cs none = record { there = λ d c. absurd (nothing c); covered = λ d c. absurd (by d c) }
  where
    by : (d : Del) → Contains (dels_from P f 1 (take w cs)) d → ⊥
    by d c =
        let i = del_of P f 1 (take w cs) d c in
        let l = get_known (take w cs) i.place (Ch.Del d.place) i.change_is in
        let m = take_within w cs in
        let whole = del_there P f 1 cs i.place d.place i.row (sym (get_take w cs i.place (omega (arith, l, m))) ∙ i.change_is) i.stands i.function_is in
        nothing (subst (λ ds. Contains ds (del (1 + i.place) d.place)) (sym none) whole)

-- those of a world among all, found by halves: so many of them, or the latest of each place where these are all
module _ (P : Program) (f w : ℕ) (cs : List Change) (all : List Del) (is : all ≡ dels_from P f 1 cs) (count : ℕ) (low : (j : ℕ) (d : Del) → j < count → j < length all → (get_or all j d).world ≤ w) (high : (j : ℕ) (d : Del) → count ≤ j → j < length all → w < (get_or all j d).world) where
  up : take count all ≡ dels_from P f 1 (take w cs)
  up = dels_up P f w cs count all is low high

  pub some_dels : (some : List Del) → some ≡ take count all → AreLatestDels (dels_from P f 1 (take w cs)) some
  some_dels some e = subst (AreLatestDels (dels_from P f 1 (take w cs))) (sym (e ∙ up)) (whole_dels (dels_from P f 1 (take w cs)))

  pub all_dels : (some : List Del) → length all ≤ count → AreLatestOfPlaces all some → AreLatestDels (dels_from P f 1 (take w cs)) some
  all_dels some l h = subst (λ ds. AreLatestDels ds some) (sym (take_all count all l) ∙ up) (latest_dels all some h)
