-- The order of the variables of a signature, or of a type in a body: that of the text. A `where` is read before the type in front of
-- it, so its variables change places with those of that type.
use Rattle.std.specs.Prelude.{ℕ, ◌+◌, ◌-◌, Bool, ◌&&◌, not, if◌then◌else◌, nat_lt, List, [], ◌∷◌, map, slice_index_or, slice_set}
use Rattle.jl_model.specs.declared.ty.Ty.{Ty}
use Rattle.jl_model.specs.declared.ty.Ty.TheVariants as W
use Rattle.jl_model.specs.declared.ty.Bound.{Bound}
use Rattle.jl_model.specs.Subtype.{put}
use Rattle.jl_written.specs.declared.reading.Place.{Place}
use Rattle.jl_written.specs.declared.reading.Reading.{Reading}
use Rattle.jl_written.specs.declared.reading.Swap.{Swap}
use Rattle.jl_written.specs.Reads.{Types, Typed}

-- where the variable at this place stands after a swap
abbrev pub move_place : Swap → ℕ → ℕ
move_place s p =
    if nat_lt p s.start then p
    else if nat_lt p s.middle then s.stop - (s.middle - p)
    else if nat_lt p s.stop then p - (s.middle - s.start)
    else p

-- a swap concerns the variables that were read from its start to its stop
abbrev pub is_in : Swap → ℕ → Bool
is_in s v = not (nat_lt v s.start) && nat_lt v s.stop

-- the places of the variables from v on after a swap
abbrev pub move_places : Swap → ℕ → List ℕ → List ℕ
move_places s v [] = []
move_places s v (p ∷ ps) = (if is_in s v then move_place s p else p) ∷ move_places s (v + 1) ps

abbrev pub move_by_all : List Swap → List ℕ → List ℕ
move_by_all [] ps = ps
move_by_all (s ∷ ss) ps = move_by_all ss (move_places s 0 ps)

-- so many numbers, from v on
abbrev pub count_from : ℕ → List Bound → List ℕ
count_from v [] = []
count_from v (b ∷ bs) = v ∷ count_from (v + 1) bs

-- the place in the text of each variable, in the order in which they were read
abbrev pub text_places : Reading → List ℕ
text_places r = move_by_all r.swaps (count_from 0 r.vars)

-- a variable that is none of these, as a static parameter, keeps its number
abbrev pub number_in : List ℕ → ℕ → ℕ
number_in ps v = slice_index_or ps v v

abbrev pub renumber : List ℕ → Ty → Ty
renumber ps = put (λ v. W.Var (number_in ps v))

abbrev pub renumber_bound : List ℕ → Bound → Bound
renumber_bound ps b = record { low = renumber ps b.low; high = renumber ps b.high }

-- the bounds of the variables from v on, each at the place of its variable among these
abbrev pub arrange : List ℕ → ℕ → List Bound → List Bound → List Bound
arrange ps v [] done = done
arrange ps v (b ∷ bs) done = arrange ps (v + 1) bs (slice_set done (number_in ps v) (renumber_bound ps b))

-- an upper bound that is declared has no variables
abbrev pub renumber_place : List ℕ → Place → Place
renumber_place ps p = record { var = number_in ps p.var; high = p.high }

abbrev pub reorder : List ℕ → Reading → Reading
reorder ps r = record r { vars = arrange ps 0 r.vars r.vars; places = map (renumber_place ps) r.places; swaps = [] }

-- types whose variables have their numbers in the order in which they were read, with those that they have in the text
abbrev pub reorder_types : List Swap → Types → Types
reorder_types [] ts = ts
reorder_types (s ∷ ss) ts =
    let ps = text_places ts.after in
    record { tys = map (renumber ps) ts.tys; after = reorder ps ts.after }

abbrev pub in_text_order : Types → Types
in_text_order ts = reorder_types ts.after.swaps ts

-- the same of one type
abbrev pub reorder_type : List Swap → Typed → Typed
reorder_type [] t = t
reorder_type (s ∷ ss) t =
    let ps = text_places t.after in
    record { ty = renumber ps t.ty; after = reorder ps t.after }

abbrev pub one_in_text_order : Typed → Typed
one_in_text_order t = reorder_type t.after.swaps t
