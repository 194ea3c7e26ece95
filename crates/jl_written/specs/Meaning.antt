-- What a name means where a type must stand. The declared types before the place are ds, the built-in ones first.
use Rattle.std.specs.Prelude.{ℕ, ◌+◌, Bool, false, not, nat_lt, if◌then◌else◌, codes, List, [], ◌∷◌, map, Option, Some, None}
use Rattle.jl_model.specs.declared.builtin.TheConstants.{INT64}
use Rattle.jl_model.specs.declared.ty.Decl.{Decl}
use Rattle.jl_program.specs.Names.{same_text}
use Rattle.jl_written.specs.declared.reading.Named.{Named}
use Rattle.jl_written.specs.declared.reading.Named.TheVariants.{Variable, Any, Union, Tuple, Nominal, Unknown}
use Rattle.jl_written.specs.declared.reading.TypeVar.{TypeVar}

-- the second byte is a small letter or comes after those, as in each name that no script binds
abbrev pub has_small_second : List ℕ → Bool
has_small_second [] = false
has_small_second (a ∷ []) = false
has_small_second (a ∷ b ∷ bs) = not (nat_lt b 97)

-- the place of a name in a list of names whose first has number i, the first of several
abbrev pub place_from : ℕ → List (List ℕ) → List ℕ → Option ℕ
place_from i [] name = None
place_from i (n ∷ ns) name = if same_text name n then Some i else place_from (i + 1) ns name

abbrev pub place_of : List (List ℕ) → List ℕ → Option ℕ
place_of names name = place_from 0 names name

abbrev pub names_of : List TypeVar → List (List ℕ)
names_of vs = map (λ (v : TypeVar). v.name) vs

-- the later of two variables, where there is one
abbrev pub later : Option TypeVar → Option TypeVar → Option TypeVar
later o None = o
later o (Some v) = Some v

-- the visible type variable of a name, the last of several
abbrev pub var_of : List TypeVar → List ℕ → Option TypeVar
var_of [] name = None
var_of (v ∷ vs) name = later (if same_text name v.name then Some v else None) (var_of vs name)

-- the declared type of a name
abbrev pub nominal_of : Option ℕ → Named
nominal_of None = Unknown
nominal_of (Some k) = Nominal k

-- `Int` is `Int64`
abbrev pub word_of : List Decl → List ℕ → Named
word_of ds name =
    if same_text name (codes "Any") then Any
    else if same_text name (codes "Union") then Union
    else if same_text name (codes "Tuple") then Tuple
    else if same_text name (codes "Int") then Nominal INT64
    else nominal_of (place_of (map (λ (d : Decl). d.name) ds) name)

abbrev pub var_or : Option TypeVar → Named → Named
var_or None n = n
var_or (Some v) n = Variable v.number v.usable

-- a visible type variable hides a declared type of its name
abbrev pub meaning_of : List Decl → List TypeVar → List ℕ → Named
meaning_of ds vars name = var_or (var_of vars name) (word_of ds name)
