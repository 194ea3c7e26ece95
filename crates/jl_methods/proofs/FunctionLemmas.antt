-- The function of each site and of each deletion place of a valid program is one of the program.
use Rattle.std.proofs.Common.{◌≡◌, ◌∙◌, ap, sym, subst, refl, ℕ, zero, suc, ◌<◌, ◌≤◌, arith, true, nat_lt, List, [], ◌∷◌, ◌++◌, length, take, drop, slice_get, Some}
use Rattle.std.specs.List.{All, list_all}
use Rattle.std.proofs.lemmas.Bool.{ltb-true, and_parts}
use Rattle.std.proofs.lemmas.List.{take-append-drop}
use Rattle.std.proofs.lemmas.List.Elements.{All-nil, All-cons, All-head, All-tail, All-append, All-weaker}
use Rattle.jl_program.specs.declared.tree.Delete.{Delete}
use Rattle.jl_program.specs.declared.tree.Site.{Site}
use Rattle.jl_program.specs.declared.tree.Program.{Program}
use Rattle.jl_program.specs.Prelude.{prelude_functions, prelude_sites}
use Rattle.jl_program.specs.Valid.{IsValid, IsValidDelete, IsValidSite}
use Rattle.jl_calculus.specs.declared.history.Change.{Change}
use Rattle.jl_calculus.specs.declared.history.Change.TheVariants as Ch
use Rattle.jl_calculus.specs.Ranges.{head_of_site, head_of_place}
use Rattle.jl_methods.specs.Filters.{IsOfProgram}
use Rattle.jl_methods.specs.Noted.{function_in, function_of}

pub take_most : {X : Type 0} (n : ℕ) (xs : List X) → length (take n xs) ≤ length xs
take_most zero xs = omega arith
take_most (suc n) [] = omega arith
take_most (suc n) (x ∷ xs) = omega (arith, take_most n xs)

pub all_get : {X : Type 0} (Is : X → Type 0) (xs : List X) (n : ℕ) (x : X) → All Is xs → slice_get xs n ≡ Some x → Is x
all_get Is [] n x h e = cc
all_get Is (y ∷ xs) zero x h e = let q : y ≡ x = cc in subst Is q (All-head Is y xs h)
all_get Is (y ∷ xs) (suc n) x h e = all_get Is xs n x (All-tail Is y xs h) e

pub get_there : {X : Type 0} (xs : List X) (n : ℕ) → n < length xs → (x : X) × (slice_get xs n ≡ Some x)
get_there [] n l = absurd (omega (arith, l))
get_there (x ∷ xs) zero l = (x, refl)
get_there (x ∷ xs) (suc n) l = get_there xs n (omega (arith, l))

abbrev HasFunction : ℕ → Site → Type 0
HasFunction n site = site.function < n

each_below : (n : ℕ) (sites : List Site) → list_all (λ (s : Site). nat_lt s.function n) sites ≡ true → All (HasFunction n) sites
each_below n [] h = All-nil (HasFunction n)
each_below n (s ∷ sites) h =
    let (a, b) = and_parts (nat_lt s.function n) (list_all (λ (s : Site). nat_lt s.function n) sites) h in
    All-cons (HasFunction n) s sites (ltb-true s.function n a) (each_below n sites b)

prelude_below : All (HasFunction 12) prelude_sites
prelude_below = each_below 12 prelude_sites refl

module _ (P : Program) (valid : IsValid P) where
  pub many_functions : 12 ≤ length P.functions
  many_functions = omega (arith, take_most (length prelude_functions) P.functions, ap length valid.prelude_names)

  pub many_sites : 14 ≤ length P.sites
  many_sites = omega (arith, take_most (length prelude_sites) P.sites, ap length valid.prelude)

  all_functions : All (HasFunction (length P.functions)) P.sites
  all_functions =
      subst (All (HasFunction (length P.functions))) (ap (λ sites. sites ++ drop (length prelude_sites) P.sites) (sym valid.prelude) ∙ take-append-drop (length prelude_sites) P.sites)
      (All-append (HasFunction (length P.functions)) prelude_sites (drop (length prelude_sites) P.sites)
      (All-weaker (HasFunction 12) (HasFunction (length P.functions)) (λ s l. omega (arith, l, many_functions)) prelude_sites prelude_below)
      (All-weaker (IsValidSite P valid.views) (HasFunction (length P.functions)) (λ s h. h.function) (drop (length prelude_sites) P.sites) valid.sites))

  pub function_known : (site : ℕ) (s : Site) → slice_get P.sites site ≡ Some s → s.function < length P.functions
  function_known site s e = all_get (HasFunction (length P.functions)) P.sites site s all_functions e

  pub place_known : (place : ℕ) (p : Delete) → slice_get P.deletes place ≡ Some p → p.function < length P.functions
  place_known place p e = (all_get (IsValidDelete P) P.deletes place p valid.deletes e).function

  pub function_of_known : (change : Change) → IsOfProgram P change → function_of P change < length P.functions
  function_of_known (Ch.Def site) l =
      let (s, e) = get_there P.sites site l in
      omega (arith, function_known site s e, ap (λ o. function_in (head_of_site o)) e)
  function_of_known (Ch.Del place) l =
      let (p, e) = get_there P.deletes place l in
      omega (arith, place_known place p e, ap (λ o. function_in (head_of_place o)) e)
