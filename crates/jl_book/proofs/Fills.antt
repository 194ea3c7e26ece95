-- The site of a fill that may come next is one of the program.
use Rattle.std.proofs.Common.{◌≡◌, sym, subst, ℕ, zero, suc, ◌<◌, ◌≤◌, arith, List, [], ◌∷◌, ◌++◌, map, slice_get, length, Some}
use Rattle.jl_program.specs.declared.tree.Program.{Program}
use Rattle.jl_program.specs.Prelude.{prelude_numbers}
use Rattle.jl_program.specs.Valid.{IsValid}
use Rattle.jl_calculus.specs.declared.history.Change.{Change}
use Rattle.jl_calculus.specs.declared.history.Change.TheVariants as Ch
use Rattle.jl_calculus.specs.declared.history.Event.{Event}
use Rattle.jl_calculus.specs.declared.history.Event.TheVariants as Ev
use Rattle.jl_calculus.specs.Legal.{MayCome, MayStand}
use Rattle.jl_calculus.specs.World.{changed, changes, site_in, site_of}
use Rattle.jl_calculus.proofs.GrowthLemmas.{changed_append}
use Rattle.jl_methods.proofs.FunctionLemmas.{many_sites}
use Rattle.jl_world.specs.Adds.{IsNextFill}
use Rattle.jl_world.proofs.Growth.{each_grow}

-- the site of each of these is below a number
abbrev AllBelow : ℕ → List Change → Type 0
AllBelow n [] = Unit {0}
AllBelow n (c ∷ cs) = (site_in (Some c) < n) × AllBelow n cs

below_append : (n : ℕ) (xs ys : List Change) → AllBelow n xs → AllBelow n ys → AllBelow n (xs ++ ys)
below_append n [] ys a b = b
below_append n (x ∷ xs) ys a b = (a.0, below_append n xs ys a.1 b)

below_at : (n : ℕ) (xs : List Change) (k : ℕ) → 0 < n → AllBelow n xs → site_in (slice_get xs k) < n
below_at n [] k z h = z
below_at n (x ∷ xs) zero z h = h.0
below_at n (x ∷ xs) (suc k) z h = below_at n xs k z h.1

prelude_below : (n : ℕ) → 14 ≤ n → AllBelow n (map Ch.Def prelude_numbers)
prelude_below n l = omega (arith, l)

module _ (P : Program) (some : 0 < length P.sites) where
  abbrev AreSites : List Event → Type 0
  AreSites es = AllBelow (length P.sites) (changed es)

  one_site : (e : Event) (past : List Event) → MayCome P past e → AllBelow (length P.sites) (changed (e ∷ []))
  one_site (Ev.Begin fuel) past m = tt
  one_site (Ev.Key key) past m = tt
  one_site (Ev.Fill k s f) past m = tt
  one_site (Ev.Spawn t c s) past m = tt
  one_site (Ev.Done t r) past m = tt
  one_site (Ev.Def t s) past m = (m.may.1, tt)
  one_site (Ev.Del t place) past m = (some, tt)

  sites_more : (past : List Event) (e : Event) → AreSites past → MayCome P past e → AreSites (past ++ e ∷ [])
  sites_more past e h m = subst (AllBelow (length P.sites)) (sym (changed_append past (e ∷ []))) (below_append (length P.sites) (changed past) (changed (e ∷ [])) h (one_site e past m))

  all_sites : (es : List Event) → MayStand P es → AreSites es
  all_sites es h = each_grow P AreSites sites_more [] es tt h.come

  site_below : (es : List Event) (d : ℕ) → 14 ≤ length P.sites → MayStand P es → site_of es d < length P.sites
  site_below es zero most h = some
  site_below es (suc d) most h =
      below_at (length P.sites) (changes es) d some (below_append (length P.sites) (map Ch.Def prelude_numbers) (changed es) (prelude_below (length P.sites) most) (all_sites es h))

pub fill_valid : (P Q : Program) (es : List Event) (number site first : ℕ) → Q ≡ P → IsValid Q → MayStand P es → IsNextFill P es number site first → site < length P.sites
fill_valid P Q es number site first same valid stand fill =
    let choice = fill.right.choice in
    let most = many_sites P (subst IsValid same valid) in
    subst (λ n. n < length P.sites) choice.2 (site_below P (omega (arith, most)) es choice.0 most stand)
