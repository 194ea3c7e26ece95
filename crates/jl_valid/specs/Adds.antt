-- What the reading of a part of a script adds to a program, where it ends without a fault: sites, spawn places, deletion places,
-- names of functions, and what holds of it in every program that the script may become.
use Rattle.std.specs.Prelude.{ℕ, ◌+◌, ◌≡◌, ◌<◌, ◌≤◌, IsTrue, List, [], ◌∷◌, ◌++◌, map, length, None}
use Rattle.std.specs.List.{flat_map}
use Rattle.jl_model.specs.declared.ty.Written.{Written}
use Rattle.jl_program.specs.declared.prelude.TheConstants.{PRELUDE_FUNCTIONS}
use Rattle.jl_program.specs.declared.tree.Delete.{Delete}
use Rattle.jl_program.specs.declared.tree.Expr.{Expr as Code}
use Rattle.jl_program.specs.declared.tree.Program.{Program}
use Rattle.jl_program.specs.declared.tree.Site.{Site}
use Rattle.jl_program.specs.BodyTypes.{IsAllowedType, IsSmallStruct}
use Rattle.jl_program.specs.Gathered.{Layer, of_expr, own_place, own_types, own_struct, times}
use Rattle.jl_program.specs.Names.{is_free_name}
use Rattle.jl_program.specs.Prelude.{prelude_count}
use Rattle.jl_program.specs.Scope.{View, all_types, are_valid_tasks}
use Rattle.jl_program.specs.Valid.{IsValidSig, IsValidSite}
use Rattle.jl_grammar.specs.declared.tree.Name.{Name}
use Rattle.jl_resolve_forms.specs.declared.known.Known.{Known}
use Rattle.jl_resolve_forms.specs.declared.state.State.{State}

-- each member of a list
abbrev pub Every : {X : Type 0} → (X → Type 0) → List X → Type 0
Every Is [] = Unit {0}
Every Is (x ∷ xs) = Is x × Every Is xs

-- a name that a script may give
abbrev pub IsFree : Name → Type 0
IsFree n = IsTrue (is_free_name n.bytes)

-- what stands in a part of a program: the places of its `Spawn`s, its written types, and the structs whose inferred
-- constructors it calls
pub record Got : Type 0 where
  pub places : List ℕ
  pub types : List Written
  pub structs : List ℕ

abbrev pub got : List ℕ → List Written → List ℕ → Got
got ps ts ss = record { places = ps; types = ts; structs = ss }

abbrev pub no_got : Got
no_got = got [] [] []

abbrev pub got_both : Got → Got → Got
got_both a b = got (a.places ++ b.places) (a.types ++ b.types) (a.structs ++ b.structs)

-- in an expression, in expressions, and in the bodies of sites
abbrev pub got_in : Code → Got
got_in x = got (of_expr own_place x) (of_expr own_types x) (of_expr own_struct x)

abbrev pub gathered : {A : Type 0} → (Layer A → List A) → List Code → List A
gathered own xs = flat_map (λ x. x) (map (of_expr own) xs)

abbrev pub got_codes : List Code → Got
got_codes xs = got (gathered own_place xs) (gathered own_types xs) (gathered own_struct xs)

abbrev pub bodies : List Site → List Code
bodies sites = map (λ (site : Site). site.body) sites

-- each written type is allowed, and each inferred struct is small
pub record AreAllowed (k : Known) (g : Got) : Type 0 where
  pub types : Every (IsAllowedType k.decls) g.types
  pub structs : Every (IsSmallStruct k.decls) g.structs

-- how often a place stands in new sites, in new spawn places and in what was read
abbrev pub stands : ℕ → List Site → List Code → Got → ℕ
stands p sites spawns g = times p (got_codes (bodies sites)).places + times p (got_codes spawns).places + times p g.places

-- each place from n on and below m stands there once, and no other one; and the types and structs are allowed
pub record Gathers (k : Known) (n m : ℕ) (sites : List Site) (spawns : List Code) (g : Got) : Type 0 where
  pub once : (p : ℕ) → n ≤ p → p < m → stands p sites spawns g ≡ 1
  pub before : (p : ℕ) → p < n → stands p sites spawns g ≡ 0
  pub behind : (p : ℕ) → m ≤ p → stands p sites spawns g ≡ 0
  pub in_sites : AreAllowed k (got_codes (bodies sites))
  pub in_spawns : AreAllowed k (got_codes spawns)
  pub here : AreAllowed k g

-- the program of a script: the functions and types that are known, and at least so many sites
pub record Fits (k : Known) (sites : ℕ) (P : Program) : Type 0 where
  pub functions : P.functions ≡ k.functions
  pub types : all_types P ≡ k.decls
  pub count : sites ≤ length P.sites

-- a deletion place is valid: its function is one of the script, and its signature is valid
pub record IsGoodDelete (k : Known) (place : Delete) : Type 0 where
  pub function : place.function < length k.functions
  pub past_prelude : PRELUDE_FUNCTIONS ≤ place.function
  pub signature : IsValidSig k.decls place.sig

-- from this number on these views stand among all
pub record Views (all : List View) (place : ℕ) (more : List View) : Type 0 where
  pub before : List View
  pub behind : List View
  pub is : all ≡ before ++ (more ++ behind)
  pub at : length before ≡ place

-- A program that may come of the state z, and the views of all its spawn places, among them these of the places behind the state s.
pub record Within (k : Known) (s z : State) (more : List View) (P : Program) (all : List View) : Type 0 where
  pub fits : Fits k (length z.sites) P
  pub seen : Views all (length s.spawns) more
  pub prelude : prelude_count ≤ length s.sites
  pub deletes : length z.deletes ≤ length P.deletes

-- From a state to the next one there are new sites, spawn places and deletion places, each valid; there is no fault before; the names are free;
-- this stands in what was read; and this holds.
pub record Adds (k : Known) (s z : State) (names : List Name) (g : Got) (Holds : Program → List View → Type 0) : Type 0 where
  pub clean : s.fault ≡ None
  pub sites : List Site
  pub spawns : List Code
  pub deletes : List Delete
  pub views : List View
  pub sites_are : z.sites ≡ s.sites ++ sites
  pub spawns_are : z.spawns ≡ s.spawns ++ spawns
  pub deletes_are : z.deletes ≡ s.deletes ++ deletes
  pub as_many : length views ≡ length spawns
  pub free : Every IsFree names
  pub deletions : Every (IsGoodDelete k) deletes
  pub gathers : Gathers k (length s.spawns) (length z.spawns) sites spawns g
  pub valid : (P : Program) (all : List View) → Within k s z views P all → Every (IsValidSite P all) sites
  pub tasks : (P : Program) (all : List View) → Within k s z views P all → IsTrue (are_valid_tasks P all (length s.spawns) views spawns)
  pub holds : (P : Program) (all : List View) → Within k s z views P all → Holds P all
