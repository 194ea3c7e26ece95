-- Changes found by their functions.
use Rattle.std.proofs.Common.{◌≡◌, ◌∙◌, sym, ap, subst, refl, ℕ, zero, suc, ◌+◌, ◌<◌, ◌≤◌, arith, Bool, true, false, cond, nat_eq, nat_le, List, [], ◌∷◌, ◌++◌, map, length, take, get_or, slice_get, Option, None, Some, append-nil}
use Rattle.std.proofs.lemmas.List.{take_all}
use Rattle.std.proofs.lemmas.Option.{slice_get-get_or}
use Rattle.jl_calculus.specs.declared.history.Change.{Change}
use Rattle.jl_calculus.specs.declared.history.Change.TheVariants as Ch
use Rattle.jl_calculus.specs.declared.history.Def.{Def}
use Rattle.jl_calculus.specs.declared.history.Del.{Del}
use Rattle.jl_program.specs.declared.tree.Delete.{Delete}
use Rattle.jl_program.specs.declared.tree.Site.{Site}
use Rattle.jl_program.specs.declared.tree.Program.{Program}
use Rattle.jl_program.specs.Prelude.{prelude_numbers}
use Rattle.jl_program.specs.Valid.{IsValid}
use Rattle.jl_calculus.specs.Definitions.{def_at, del_at, defs_from, dels_from}
use Rattle.jl_methods.specs.Numbered.{RisesFrom, put_at}
use Rattle.jl_methods.proofs.ChangeLemmas.{def, del, defs_push, dels_push, def_of, del_of}
use Rattle.jl_methods.proofs.ChangeLemmas as M
use Rattle.jl_methods.proofs.FunctionLemmas as F
use Rattle.jl_methods.proofs.PreludeLemmas.{first_changes, changes_step}
use Rattle.jl_methods.proofs.PutLemmas.{only_if, get_known, length_put, nth_put_at}
use Rattle.jl_choosing.specs.ByFunction.{Rising, AreBefore, AreDelsBefore, in_world, AreByFunction, AreDelsByFunction}

-- ---- those of a world

module _ (P : Program) (f : ℕ) where
  none_yet : (n w : ℕ) (cs : List Change) → w < n → in_world w (defs_from P f n cs) ≡ []
  none_yet n w [] l = refl
  none_yet n w (Ch.Del place ∷ cs) l = none_yet (n + 1) w cs (omega (arith, l))
  none_yet n w (Ch.Def s ∷ cs) l = at (none_yet (n + 1) w cs (omega (arith, l))) (slice_get P.sites s)
    where
      late : nat_le n w ≡ false
      late = grind (arith, l)

      at : in_world w (defs_from P f (n + 1) cs) ≡ [] → (o : Option Site) → in_world w (def_at o f n s (defs_from P f (n + 1) cs)) ≡ []
      at next None = next
      at next (Some site) = cases (nat_eq site.function f)
        where
          cases : (b : Bool) → in_world w (cond b (def n s ∷ defs_from P f (n + 1) cs) (defs_from P f (n + 1) cs)) ≡ []
          cases true = rw late refl
          cases false = next

  -- the definitions of a world are the first ones
  pub first_ones : (c n w : ℕ) (cs : List Change) → n + c ≡ w + 1 → in_world w (defs_from P f n cs) ≡ defs_from P f n (take c cs)
  first_ones zero n w [] e = refl
  first_ones (suc c) n w [] e = refl
  first_ones zero n w (x ∷ cs) e = none_yet n w (x ∷ cs) (omega (arith, e))
  first_ones (suc c) n w (Ch.Del place ∷ cs) e = first_ones c (n + 1) w cs (omega (arith, e))
  first_ones (suc c) n w (Ch.Def s ∷ cs) e = at (first_ones c (n + 1) w cs (omega (arith, e))) (slice_get P.sites s)
    where
      soon : nat_le n w ≡ true
      soon = grind (arith, e)

      at : in_world w (defs_from P f (n + 1) cs) ≡ defs_from P f (n + 1) (take c cs) → (o : Option Site)
          → in_world w (def_at o f n s (defs_from P f (n + 1) cs)) ≡ def_at o f n s (defs_from P f (n + 1) (take c cs))
      at next None = next
      at next (Some site) = cases (nat_eq site.function f)
        where
          cases : (b : Bool)
              → in_world w (cond b (def n s ∷ defs_from P f (n + 1) cs) (defs_from P f (n + 1) cs))
              ≡ cond b (def n s ∷ defs_from P f (n + 1) (take c cs)) (defs_from P f (n + 1) (take c cs))
          cases true = rw soon (ap (λ ds. def n s ∷ ds) next)
          cases false = next

  rises_so : (low : ℕ) (ds : List Def) → RisesFrom low (map (λ (d : Def). d.world) ds) → Rising low ds
  rises_so low [] r = tt
  rises_so low (d ∷ ds) r = (r.0, rises_so (d.world + 1) ds r.1)

  -- their worlds rise
  pub defs_rise : (low n : ℕ) (cs : List Change) → low ≤ n → Rising low (defs_from P f n cs)
  defs_rise low n cs l = rises_so low (defs_from P f n cs) (M.defs_rise P f low n cs l)

  -- all so far are before the next world
  pub defs_before : (n : ℕ) (cs : List Change) → AreBefore (n + length cs) (defs_from P f n cs)
  defs_before n cs d c = let i = def_of P f n cs d c in let l = get_known cs i.place (Ch.Def d.site) i.change_is in omega (arith, i.world_is, l)

  pub dels_before : (n : ℕ) (cs : List Change) → AreDelsBefore (n + length cs) (dels_from P f n cs)
  dels_before n cs d c = let i = del_of P f n cs d c in let l = get_known cs i.place (Ch.Del d.place) i.change_is in omega (arith, i.world_is, l)

-- ---- the rows of all functions

module _ (P : Program) (cs : List Change) where
  pub defs_put : (rows : List (List Def)) (s w : ℕ) (site : Site) → slice_get P.sites s ≡ Some site → w ≡ 1 + length cs → site.function < length rows → AreByFunction P cs rows
      → AreByFunction P (cs ++ Ch.Def s ∷ []) (put_at rows site.function (def w s))
  defs_put rows s w site e at few h = record {
    count = length_put rows site.function (def w s) ∙ h.count;
    each = λ f.
        nth_put_at rows site.function (def w s) f few
        ∙ ap (λ ds. ds ++ only_if (nat_eq site.function f) (def w s)) (h.each f)
        ∙ ap (λ n. defs_from P f 1 cs ++ only_if (nat_eq site.function f) (def n s)) at
        ∙ ap (λ o. defs_from P f 1 cs ++ def_at o f (1 + length cs) s []) (sym e)
        ∙ sym (defs_push P f 1 cs (Ch.Def s));
  }

  pub defs_kept : (rows : List (List Def)) (place : ℕ) → AreByFunction P cs rows → AreByFunction P (cs ++ Ch.Del place ∷ []) rows
  defs_kept rows place h = record { count = h.count; each = λ f. h.each f ∙ sym (defs_push P f 1 cs (Ch.Del place) ∙ append-nil (defs_from P f 1 cs)) }

  pub dels_put : (rows : List (List Del)) (n w : ℕ) (place : Delete) → slice_get P.deletes n ≡ Some place → w ≡ 1 + length cs → place.function < length rows → AreDelsByFunction P cs rows
      → AreDelsByFunction P (cs ++ Ch.Del n ∷ []) (put_at rows place.function (del w n))
  dels_put rows n w place e at few h = record {
    count = length_put rows place.function (del w n) ∙ h.count;
    each = λ f.
        nth_put_at rows place.function (del w n) f few
        ∙ ap (λ ds. ds ++ only_if (nat_eq place.function f) (del w n)) (h.each f)
        ∙ ap (λ k. dels_from P f 1 cs ++ only_if (nat_eq place.function f) (del k n)) at
        ∙ ap (λ o. dels_from P f 1 cs ++ del_at o f (1 + length cs) n []) (sym e)
        ∙ sym (dels_push P f 1 cs (Ch.Del n));
  }

  pub dels_kept : (rows : List (List Del)) (site : ℕ) → AreDelsByFunction P cs rows → AreDelsByFunction P (cs ++ Ch.Def site ∷ []) rows
  dels_kept rows site h = record { count = h.count; each = λ f. h.each f ∙ sym (dels_push P f 1 cs (Ch.Def site) ∙ append-nil (dels_from P f 1 cs)) }

-- ---- one more change, as the code makes it

module _ (P : Program) (v : IsValid P) where
  -- there are the prelude's sites
  pub prelude_there : 14 ≤ length P.sites
  prelude_there = F.many_sites P v

  module _ (k w : ℕ) (cs : List Change) (at : w ≡ length cs) where
    module _ (xs : List Site) (d : Site) (same : xs ≡ P.sites) (l : k < length P.sites) where
      found : slice_get P.sites k ≡ Some (get_or xs k d)
      found = subst (λ ys. slice_get P.sites k ≡ Some (get_or ys k d)) (sym same) (slice_get-get_or P.sites k d l)

      pub function_known : (rows : List (List Def)) → length rows ≡ length P.functions → (get_or xs k d).function < length rows
      function_known rows e = let f = F.function_known P v k (get_or xs k d) found in omega (arith, f, e)

      pub defs_more : (rows new : List (List Def)) → AreByFunction P cs rows → new ≡ put_at rows (get_or xs k d).function (def (w + 1) k) → AreByFunction P (cs ++ Ch.Def k ∷ []) new
      defs_more rows new h n =
          subst (AreByFunction P (cs ++ Ch.Def k ∷ [])) (sym n) (defs_put P cs rows k (w + 1) (get_or xs k d) found (omega (arith, at)) (function_known rows h.count) h)

    module _ (xs : List Delete) (d : Delete) (same : xs ≡ P.deletes) (l : k < length P.deletes) where
      found_place : slice_get P.deletes k ≡ Some (get_or xs k d)
      found_place = subst (λ ys. slice_get P.deletes k ≡ Some (get_or ys k d)) (sym same) (slice_get-get_or P.deletes k d l)

      pub place_function_known : (rows : List (List Del)) → length rows ≡ length P.functions → (get_or xs k d).function < length rows
      place_function_known rows e = let f = F.place_known P v k (get_or xs k d) found_place in omega (arith, f, e)

      pub dels_more : (rows new : List (List Del)) → AreDelsByFunction P cs rows → new ≡ put_at rows (get_or xs k d).function (del (w + 1) k) → AreDelsByFunction P (cs ++ Ch.Del k ∷ []) new
      dels_more rows new h n =
          subst (AreDelsByFunction P (cs ++ Ch.Del k ∷ [])) (sym n) (dels_put P cs rows k (w + 1) (get_or xs k d) found_place (omega (arith, at)) (place_function_known rows h.count) h)

-- the definitions of a function in a world, by its row
pub row_in_world : (P : Program) (cs : List Change) (rows : List (List Def)) (f w : ℕ) (row : List Def) → AreByFunction P cs rows → get_or rows f [] ≡ row → in_world w row ≡ defs_from P f 1 (take w cs)
row_in_world P cs rows f w row h e = ap (in_world w) (sym e ∙ h.each f) ∙ first_ones P f w 1 w cs (omega arith)

-- the prelude's definitions, one by one
pub prelude_step : (P : Program) (new old : Program × List Change) (k : ℕ) → k < 14 → old ≡ (P, first_changes k) → new ≡ (old.0, old.1 ++ Ch.Def k ∷ []) → new ≡ (P, first_changes (k + 1))
prelude_step P new old k l e n =
    n ∙ ap (λ (v : Program × List Change). (v.0, v.1 ++ Ch.Def k ∷ [])) e ∙ ap (λ cs. (P, cs)) (changes_step k (first_changes k) (first_changes k ++ Ch.Def k ∷ []) l refl refl)

pub prelude_end : (P : Program) (d : Program × List Change) (k : ℕ) → 14 ≤ k → d ≡ (P, first_changes k) → d ≡ (P, map Ch.Def prelude_numbers)
prelude_end P d k l e = e ∙ ap (λ ns. (P, map Ch.Def ns)) (take_all k prelude_numbers l)

-- a row is before the next world
pub row_before : (P : Program) (cs : List Change) (rows : List (List Def)) (f w : ℕ) → AreByFunction P cs rows → w ≡ length cs → AreBefore (w + 1) (get_or rows f [])
row_before P cs rows f w h e =
    let world : 1 + length cs ≡ w + 1 = omega (arith, e) in
    subst (AreBefore (w + 1)) (sym (h.each f)) (subst (λ k. AreBefore k (defs_from P f 1 cs)) world (defs_before P f 1 cs))

pub row_dels_before : (P : Program) (cs : List Change) (rows : List (List Del)) (f w : ℕ) → AreDelsByFunction P cs rows → w ≡ length cs → AreDelsBefore (w + 1) (get_or rows f [])
row_dels_before P cs rows f w h e =
    let world : 1 + length cs ≡ w + 1 = omega (arith, e) in
    subst (AreDelsBefore (w + 1)) (sym (h.each f)) (subst (λ k. AreDelsBefore k (dels_from P f 1 cs)) world (dels_before P f 1 cs))
