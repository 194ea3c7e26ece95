-- The prelude's definitions, one after another.
use Rattle.std.proofs.Common.{◌≡◌, ◌∙◌, ap, sym, subst, ℕ, zero, suc, ◌+◌, ◌<◌, ◌≤◌, arith, nat_eq, List, [], ◌∷◌, ◌++◌, length, map, take, get_or}
use Rattle.std.proofs.lemmas.List.{take_more, take_all, length-take-le, map-append, length-map}
use Rattle.jl_program.specs.declared.tree.Program.{Program}
use Rattle.jl_program.specs.Prelude.{OperationRow, operations, prelude_numbers, sites_from}
use Rattle.jl_calculus.specs.declared.history.Change.{Change}
use Rattle.jl_calculus.specs.declared.history.Change.TheVariants as Ch
use Rattle.jl_calculus.specs.declared.history.Def.{Def}
use Rattle.jl_calculus.specs.Definitions.{def_at, defs_from}
use Rattle.jl_calculus.specs.Ranges.{head_of_site}
use Rattle.jl_methods.specs.Links.{Linked, with_world, AreEmptyLinks, AreLinked}
use Rattle.jl_methods.specs.Noted.{function_in, function_of}
use Rattle.jl_methods.specs.Numbered.{nth, put_at}
use Rattle.jl_methods.proofs.ChangeLemmas.{def, defs_push}
use Rattle.jl_methods.proofs.FunctionLemmas.{get_there}
use Rattle.jl_methods.proofs.LinkLemmas.{linked_none, linked_world, no_change_in, site_bound, def_once}
use Rattle.jl_methods.proofs.PutLemmas.{only_if, nth_put_at}

number_at : (i : ℕ) (rows : List OperationRow) (k : ℕ) → k < length (sites_from i rows) → get_or (sites_from i rows) k 0 ≡ i + k
number_at i [] k l = absurd (omega (arith, l))
number_at i (r ∷ rows) zero l = omega arith
number_at i (r ∷ rows) (suc k) l = let h = number_at (i + 1) rows k (omega (arith, l)) in omega (arith, h)

-- one definition more
pub one_def : (P : Program) (f : ℕ) (cs : List Change) (site world : ℕ) → site < length P.sites → world ≡ 1 + length cs
    → defs_from P f 1 (cs ++ Ch.Def site ∷ []) ≡ defs_from P f 1 cs ++ only_if (nat_eq (function_of P (Ch.Def site)) f) (def world site)
one_def P f cs site world l e =
    let (s, stands) = get_there P.sites site l in
    let function_is : function_of P (Ch.Def site) ≡ s.function = ap (λ o. function_in (head_of_site o)) stands in
    defs_push P f 1 cs (Ch.Def site)
    ∙ ap (λ o. defs_from P f 1 cs ++ def_at o f (1 + length cs) site []) stands
    ∙ ap (λ n. defs_from P f 1 cs ++ only_if (nat_eq n f) (def (1 + length cs) site)) (sym function_is)
    ∙ ap (λ w. defs_from P f 1 cs ++ only_if (nat_eq (function_of P (Ch.Def site)) f) (def w site)) (sym e)

-- the changes of so many sites
abbrev pub first_changes : ℕ → List Change
first_changes site = map Ch.Def (take site prelude_numbers)

pub first_more : (site : ℕ) → site < 14 → first_changes (site + 1) ≡ first_changes site ++ Ch.Def site ∷ []
first_more site l =
    let at : get_or prelude_numbers site 0 ≡ site = number_at 0 operations site l ∙ (omega arith) in
    ap (map Ch.Def) (take_more prelude_numbers site 0 l ∙ ap (λ n. take site prelude_numbers ++ n ∷ []) at) ∙ map-append Ch.Def (take site prelude_numbers) (site ∷ [])

pub changes_step : (site : ℕ) (old new : List Change) → site < 14 → old ≡ first_changes site → new ≡ old ++ Ch.Def site ∷ [] → new ≡ first_changes (site + 1)
changes_step site old new l e f = f ∙ ap (λ xs. xs ++ Ch.Def site ∷ []) e ∙ sym (first_more site l)

pub prelude_step : (P : Program) (site function : ℕ) (ls new : List (List Def)) → site < 14 → site < length P.sites → function ≡ function_of P (Ch.Def site) → function < length ls
    → new ≡ put_at ls function (def (site + 1) site) → ((f : ℕ) → nth ls f ≡ defs_from P f 1 (first_changes site))
    → (f : ℕ) → nth new f ≡ defs_from P f 1 (first_changes (site + 1))
prelude_step P site function ls new l known e within q h f =
    let world : site + 1 ≡ 1 + length (first_changes site) = omega (arith, length-take-le site prelude_numbers (omega (arith, l)), length-map (take site prelude_numbers) Ch.Def) in
    ap (λ ls. nth ls f) q
    ∙ nth_put_at ls function (def (site + 1) site) f within
    ∙ ap (λ xs. xs ++ only_if (nat_eq function f) (def (site + 1) site)) (h f)
    ∙ ap (λ n. defs_from P f 1 (first_changes site) ++ only_if (nat_eq n f) (def (site + 1) site)) e
    ∙ sym (one_def P f (first_changes site) site (site + 1) known world)
    ∙ ap (defs_from P f 1) (sym (first_more site l))

pub prelude_end : (P : Program) (site : ℕ) (ls : List (List Def)) → 14 ≤ site → ((f : ℕ) → nth ls f ≡ defs_from P f 1 (first_changes site)) → (f : ℕ) → nth ls f ≡ defs_from P f 1 (map Ch.Def prelude_numbers)
prelude_end P site ls l h f = h f ∙ ap (λ ns. defs_from P f 1 (map Ch.Def ns)) (take_all site prelude_numbers l)

-- ---- what is kept of the sites

pub links_start : (P : Program) (l : Linked) → AreEmptyLinks (length P.sites) l → AreLinked P Ch.Def (length P.sites) (first_changes 0) [] l
links_start P l e = linked_none P Ch.Def (length P.sites) [] l (λ n w. no_change_in (Ch.Def n) w) e

pub links_step : (P : Program) (site : ℕ) (l new : Linked) → site < 14 → site < length P.sites → new ≡ with_world site (site + 1) l → AreLinked P Ch.Def (length P.sites) (first_changes site) [] l
    → AreLinked P Ch.Def (length P.sites) (first_changes (site + 1)) [] new
links_step P site l new low known q h =
    let at : site + 1 ≡ suc (length (first_changes site)) = omega (arith, length-take-le site prelude_numbers (omega (arith, low)), length-map (take site prelude_numbers) Ch.Def) in
    subst (AreLinked P Ch.Def (length P.sites) (first_changes (site + 1)) []) (sym q)
    (subst (λ cs. AreLinked P Ch.Def (length P.sites) cs [] (with_world site (site + 1) l)) (sym (first_more site low))
    (linked_world P Ch.Def (length P.sites) (site_bound P) (first_changes site) [] l h def_once site known (site + 1) at))

pub links_end : (P : Program) (site : ℕ) (l : Linked) → 14 ≤ site → AreLinked P Ch.Def (length P.sites) (first_changes site) [] l → AreLinked P Ch.Def (length P.sites) (map Ch.Def prelude_numbers) [] l
links_end P site l e h = subst (λ ns. AreLinked P Ch.Def (length P.sites) (map Ch.Def ns) [] l) (take_all site prelude_numbers e) h
