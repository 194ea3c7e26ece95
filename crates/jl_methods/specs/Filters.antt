-- What an index tells of a list of events: parts of the changes, of the keys and of the rows, each in the order of its events
-- (Julia manual, Redefining Methods; Belyakova et al., OOPSLA 2020).
use Rattle.std.specs.Prelude.{ℕ, zero, suc, ◌+◌, ◌<◌, ◌≡◌, ◌⊎◌, ◌↔◌, Bool, cond, nat_eq, List, [], ◌∷◌, length, option_to_list, take, slice_get, Option, None, Some}
use Rattle.std.specs.List.{All, Contains, flat_map}
use Rattle.jl_model.specs.declared.ty.Key.{Key}
use Rattle.jl_model.specs.declared.ty.Ty.{Ty}
use Rattle.jl_model.specs.declared.ty.Written.{Written}
use Rattle.jl_model.specs.Signature.{Applicable}
use Rattle.jl_program.specs.declared.tree.Program.{Program}
use Rattle.jl_calculus.specs.declared.history.Change.{Change}
use Rattle.jl_calculus.specs.declared.history.Change.TheVariants as Ch
use Rattle.jl_calculus.specs.declared.history.Def.{Def}
use Rattle.jl_calculus.specs.declared.history.Del.{Del}
use Rattle.jl_calculus.specs.declared.history.Event.{Event}
use Rattle.jl_calculus.specs.declared.history.Event.TheVariants as Ev
use Rattle.jl_program.specs.Scope.{types_of}
use Rattle.jl_calculus.specs.Definitions.{AppliesTo, defs_from, defs_in, dels_from}
use Rattle.jl_calculus.specs.Ranges.{CacheRow, Head, head_of, keys_of, rows_of, HeadTouches, ChangeTouches}
use Rattle.jl_calculus.specs.World.{changes}
use Rattle.jl_methods.specs.Numbered.{RisesFrom}

-- ---- parts in their order

-- the numbers of those that meet a test, where the first has this number
abbrev pub numbers_from : {X : Type 0} → (X → Bool) → ℕ → List X → List ℕ
numbers_from test n [] = []
numbers_from test n (x ∷ xs) = cond (test x) (n ∷ numbers_from test (n + 1) xs) (numbers_from test (n + 1) xs)

-- the definitions of a function, the prelude's first
abbrev pub defs_of : Program → List Event → ℕ → List Def
defs_of P es f = defs_from P f 1 (changes es)

-- the deletions of a function
abbrev pub dels_of : Program → List Event → ℕ → List Del
dels_of P es f = dels_from P f 1 (changes es)

-- those that were made up to a world
abbrev pub dels_in : Program → List Event → ℕ → ℕ → List Del
dels_in P es f w = dels_from P f 1 (take w (changes es))

abbrev pub is_key_of : ℕ → Key → Bool
is_key_of f key = nat_eq key.function f

-- the numbers of the keys of a function
abbrev pub key_numbers : List Event → ℕ → List ℕ
key_numbers es f = numbers_from (is_key_of f) 0 (keys_of es)

abbrev pub is_row_of : ℕ → CacheRow → Bool
is_row_of number row = nat_eq row.key number

-- the numbers of the rows of a key
abbrev pub row_numbers : List Event → ℕ → List ℕ
row_numbers es number = numbers_from (is_row_of number) 0 (rows_of es)

-- ---- changes

-- a change is of a site or of a deletion place of the program
abbrev pub IsOfProgram : Program → Change → Type 0
IsOfProgram P (Ch.Def site) = site < length P.sites
IsOfProgram P (Ch.Del place) = place < length P.deletes

-- a change is a definition
abbrev pub IsDefinition : Option Change → Type 0
IsDefinition None = ⊥
IsDefinition (Some (Ch.Def site)) = Unit {0}
IsDefinition (Some (Ch.Del place)) = ⊥

-- a change is there and has this signature
abbrev pub HasSig : Option Head → Written → Type 0
HasSig None sig = ⊥
HasSig (Some h) sig = h.sig ≡ sig

-- what has this signature applies to these types
abbrev pub HeadApplies : Program → Option Head → List Ty → Type 0
HeadApplies P None ts = ⊥
HeadApplies P (Some h) ts = Applicable (types_of P) h.sig ts

-- the signature of a change applies to these types
abbrev pub ChangeApplies : Program → Change → List Ty → Type 0
ChangeApplies P change ts = HeadApplies P (head_of P change) ts

-- the change that made a world, where there is one
abbrev pub change_in : List Change → ℕ → Option Change
change_in cs zero = None
change_in cs (suc d) = slice_get cs d

-- the definition that made a world, where the change that made it is one
abbrev pub def_by : ℕ → Option Change → Option Def
def_by w None = None
def_by w (Some (Ch.Def site)) = Some (record { world = w; site = site })
def_by w (Some (Ch.Del place)) = None

-- the definitions that made some of these worlds
abbrev pub defs_at : List Change → List ℕ → List Def
defs_at cs ws = flat_map (λ w. option_to_list (def_by w (change_in cs w))) ws

-- ---- what a change touches

-- these are the numbers of those among the keys that a change touches, in their order
pub record AreTouched (P : Program) (keys : List Key) (change : Change) (ns : List ℕ) : Type 0 where
  pub known : All (λ n. n < length keys) ns
  pub rises : RisesFrom 0 ns
  pub exact : (n : ℕ) (key : Key) → slice_get keys n ≡ Some key → Contains ns n ↔ HeadTouches P (head_of P change) key
