-- What the types of a signature, of a body and of a declaration mean.
use Rattle.std.specs.Prelude.{ℕ, ◌+◌, ◌^◌, ◌≤◌, Bool, true, false, if◌then◌else◌, nat_lt, List, [], ◌∷◌, map, length, Option, Some, None, slice_index_or, slice_set}
use Rattle.jl_model.specs.declared.ty.Ty.{Ty}
use Rattle.jl_model.specs.declared.ty.Ty.TheVariants as W
use Rattle.jl_model.specs.declared.ty.Bound.{Bound}
use Rattle.jl_model.specs.declared.ty.Decl.{Decl}
use Rattle.jl_model.specs.declared.ty.Written.{Written}
use Rattle.jl_model.specs.Rows.{free}
use Rattle.jl_typeread.specs.declared.tree.ArgText.{ArgText}
use Rattle.jl_typeread.specs.declared.tree.TypeText.{TypeText}
use Rattle.jl_typeread.specs.declared.tree.VarText.{VarText}
use Rattle.jl_written.specs.declared.reading.Place.{Place}
use Rattle.jl_written.specs.declared.reading.Reading.{Reading}
use Rattle.jl_written.specs.declared.reading.TypeVar.{TypeVar}
use Rattle.jl_written.specs.Reads.{Types, Typed, Scoped, seen, no_reading, without_places, places_behind, bind_all, read_arguments, read_members, nominal_of, type_reads, arg_reads, var_reads}
use Rattle.jl_written.specs.TextOrder.{in_text_order, one_in_text_order}

-- a parameter or a field without a type has the type `Any`
abbrev pub option_reads : List Decl → Option TypeText → List TypeVar → Reading → Typed
option_reads ds None vars r = record { ty = W.Any; after = r }
option_reads ds (Some t) vars r = type_reads ds t (seen vars [] false) false r

-- types one after another, none of them inside an argument of a nominal type
abbrev pub all_read : List Decl → List (Option TypeText) → List TypeVar → Reading → Types
all_read ds [] vars r = record { tys = []; after = r }
all_read ds (t ∷ ts) vars r =
    let u = option_reads ds t vars r in
    let us = all_read ds ts vars u.after in
    record { tys = u.ty ∷ us.tys; after = us.after }

-- the variables of a `where` at the end of a signature, or those of a declaration: nothing comes before them
abbrev pub all_bound : List Decl → List VarText → Reading → Scoped
all_bound ds vs r = bind_all (map (var_reads ds) vs) (seen [] [] true) [] r

-- The step for the declared bounds, where `below` tells whether a declared upper bound is below a bound: at each place in
-- text order, the declared bound becomes the upper bound of the variable where it is below that. Right tests tell that of no bound with
-- variables.
abbrev pub with_high : List Bound → ℕ → Ty → List Bound
with_high bs v t = slice_set bs v (record { low = (slice_index_or bs v free).low; high = t })

abbrev pub adopt_bound : (Ty → Ty → Bool) → Place → List Bound → List Bound
adopt_bound below p bs = if nat_lt p.var (length bs) then (if below p.high (slice_index_or bs p.var free).high then with_high bs p.var p.high else bs) else bs

abbrev pub adopt_bounds : (Ty → Ty → Bool) → List Place → List Bound → List Bound
adopt_bounds below [] bs = bs
adopt_bounds below (p ∷ ps) bs = adopt_bounds below ps (adopt_bound below p bs)

-- a signature: the variables with the bounds that they have behind that step, and the types
abbrev pub written_of : (Ty → Ty → Bool) → Types → Written
written_of below ts = record { vars = adopt_bounds below ts.after.places ts.after.vars; parts = ts.tys }

-- The types of a method's parameters, where the variables of its `where` are visible. These come first, and all others after them
-- in text order. Of the places of declared bounds, those in the parameters come first.
pub record Signature : Type 0 where
  pub vars : List TypeVar
  pub types : Types

abbrev pub signature_with : List Decl → List VarText → (List TypeVar → Reading → Types) → Signature
signature_with ds vs read =
    let s = all_bound ds vs no_reading in
    let ts = read s.vars (without_places s.after) in
    record { vars = s.vars; types = in_text_order (record { tys = ts.tys; after = places_behind s.after.places ts.after }) }

abbrev pub signature : List Decl → List (Option TypeText) → List VarText → Signature
signature ds ts vs = signature_with ds vs (all_read ds ts)

-- the parts of a tuple that is read as a signature, as the types of so many parameters
abbrev pub parts_read : List Decl → List ArgText → List TypeVar → Reading → Types
parts_read ds xs vars r = read_members (map (arg_reads ds) xs) (seen vars [] false) false r

abbrev pub tuple_signature : List Decl → List ArgText → List VarText → Signature
tuple_signature ds xs vs = signature_with ds vs (parts_read ds xs)

-- the static parameters of a body, where the variables of the type itself have the numbers before them
abbrev pub shifted : ℕ → List TypeVar → List TypeVar
shifted n vars = map (λ (v : TypeVar). record { name = v.name; number = n + v.number; usable = v.usable }) vars

-- a variable whose number is too large for 32 bits
abbrev pub HasLargeNumber : Option TypeVar → Type 0
HasLargeNumber None = ⊥
HasLargeNumber (Some v) = 2 ^ 32 ≤ v.number

-- no method is around a type, or one with static parameters
abbrev pub or_no_vars : Option (List TypeVar) → List TypeVar
or_no_vars None = []
or_no_vars (Some vars) = vars

-- how many variables a type in a body brings
abbrev pub width_of : List Decl → List TypeVar → TypeText → ℕ
width_of ds statics t = length (type_reads ds t (seen (shifted 0 statics) [] false) false no_reading).after.vars

-- A type in a body, whose variables stand in text order: a static parameter has the number of the variables of the type, and its
-- own after that.
abbrev pub body_type : List Decl → List TypeVar → TypeText → Typed
body_type ds statics t = one_in_text_order (type_reads ds t (seen (shifted (width_of ds statics t) statics) [] false) false no_reading)

-- The type of an explicit constructor, by the arguments in its braces, whose declared bounds are bs. It is allowed only where
-- it brings no variable, so that a static parameter has its own number.
abbrev pub constructor_type : List Decl → ℕ → List Bound → List TypeVar → List ArgText → Typed
constructor_type ds number bs statics xs = nominal_of number (read_arguments bs (map (arg_reads ds) xs) (seen (shifted 0 statics) [] false) false no_reading)
