-- Rows of the table of static faults: of which use of a name each holds (docs/LANGUAGE.md, Faults of a script).
use Rattle.std.specs.Prelude.{ℕ, suc, Bool, true, false, ◌&&◌, ◌||◌, not, if◌then◌else◌, nat_lt, nat_le, List, [], ◌∷◌, ◌++◌, Option, Some, None, ◌≡◌}
use Rattle.jl_model.specs.declared.limits.TheConstants.{MOST_ARGUMENTS, MOST_SITES}
use Rattle.jl_model.specs.declared.ty.Written.{Written}
use Rattle.jl_program.specs.Names.{is_among, builtin_names}
use Rattle.jl_program.specs.Prelude.{prelude_functions}
use Rattle.jl_grammar.specs.declared.tree.Callee.{Callee}
use Rattle.jl_grammar.specs.declared.tree.Callee.TheVariants as C
use Rattle.jl_grammar.specs.declared.tree.Item.{Item}
use Rattle.jl_grammar.specs.declared.tree.Name.{Name}
use Rattle.jl_grammar.specs.Marks.{is_function}
use Rattle.jl_written.specs.Answered.{comes_before}
use Rattle.jl_written.specs.declared.fault.Fault.{Fault}
use Rattle.jl_written.specs.declared.fault.StaticKind.{StaticKind}
use Rattle.jl_written.specs.declared.fault.StaticKind.TheVariants as kind
use Rattle.jl_resolve_forms.specs.declared.known.Known.{Known}
use Rattle.jl_resolve_forms.specs.Expressions.{names_in}
use Rattle.jl_resolve_forms.specs.TypesIn.{Tests}
use Rattle.jl_fault_laws.specs.Uses.{Names, Visible, How, value, called, made, latest, deleted, defined, bound, shared, type_variable, declared_type, plain_type, braced_type, Use, declares, names_told, makes, is_type, takes_braces, uses_of}

-- a struct of the script, which no variable hides
abbrev pub is_struct : Known → Callee → Names → Bool
is_struct k (C.Plain n) vs = not (is_among n.bytes vs) && declares k n.bytes
is_struct k (C.Base at n) vs = false
is_struct k (C.Operator at o) vs = false

-- a function of the prelude or one that a method of the script has, which no variable hides; behind `Base.` one of the
-- prelude; or an operator that methods can be added to
abbrev pub has_function : Known → Callee → Names → Bool
has_function k (C.Plain n) vs = not (is_among n.bytes vs) && is_among n.bytes k.functions
has_function k (C.Base at n) vs = is_among n.bytes prelude_functions
has_function k (C.Operator at o) vs = is_function o

-- UnknownName: a name is used as a value and is no visible variable
abbrev pub unknown_name : How → Visible → Bool
unknown_name (value n) v = not (is_among n v.names)
unknown_name _ v = false

-- a function of the script and none of the prelude, which no variable hides
abbrev pub has_own_function : Known → Name → Names → Bool
has_own_function k n vs = not (is_among n.bytes vs) && (not (is_among n.bytes prelude_functions) && is_among n.bytes k.functions)

-- UnknownFunction: a called name is no struct and no function; one before braces is no struct; one that `Base.invokelatest` calls,
-- or that a method is added to, is no function; and one whose methods are deleted is no function of the script
abbrev pub unknown_function : Known → How → Visible → Bool
unknown_function k (called f m) v = not (is_struct k f v.names) && not (has_function k f v.names)
unknown_function k (made t) v = not (makes (names_told k) t v)
unknown_function k (latest f m) v = not (has_function k f v.names)
unknown_function k (defined h) v = not (has_function k h.callee v.names)
unknown_function k (deleted n) v = not (has_own_function k n v.names)
unknown_function k _ v = false

-- UnknownType: a name that must be a type is none there: not declared before and no type variable, or `Union` or `Tuple` without
-- braces, or `Any` or a type variable with them
abbrev pub unknown_type : How → Visible → Bool
unknown_type (plain_type n) v = not (is_type n v)
unknown_type (braced_type n) v = not (takes_braces n v)
unknown_type _ v = false

-- TooManyArguments: a function is called with more than 8 arguments; a constructor may be
abbrev pub too_many_arguments : Known → How → Visible → Bool
too_many_arguments k (called f m) v = not (is_struct k f v.names) && (has_function k f v.names && nat_lt MOST_ARGUMENTS m)
too_many_arguments k (latest f m) v = has_function k f v.names && nat_lt MOST_ARGUMENTS m
too_many_arguments k _ v = false

-- Rebound: a variable is bound where its name is a visible variable, or a type variable where it is a visible type variable; or
-- a variable at the top has the name of a function or a type
abbrev pub rebound : How → Visible → Bool
rebound (bound n) v = is_among n v.names
rebound (shared n) v = true
rebound (type_variable n) v = is_among n v.vars
rebound _ v = false

-- DuplicateType: a type is declared where one of its name is declared before
abbrev pub duplicate : How → Visible → Bool
duplicate (declared_type n) v = is_among n v.types
duplicate _ v = false

-- a function is defined by a built-in name without `Base.`, or by the name of a type of the script
abbrev pub is_taken : Known → Callee → Bool
is_taken k (C.Plain n) = is_among n.bytes builtin_names || is_among n.bytes (names_in k.types)
is_taken k (C.Base at n) = false
is_taken k (C.Operator at o) = false

-- NameClash: a variable, a type variable or a type gets a built-in name, or a taken one is defined
abbrev pub name_clash : Known → How → Bool
name_clash k (defined h) = is_taken k h.callee
name_clash k (bound n) = is_among n builtin_names
name_clash k (type_variable n) = is_among n builtin_names
name_clash k (declared_type n) = is_among n builtin_names
name_clash k _ = false

-- a method is defined there
abbrev pub is_definition : How → Bool
is_definition (defined h) = true
is_definition _ = false

-- how many methods these uses define
abbrev pub definitions : List Use → ℕ
definitions [] = 0
definitions (u ∷ us) = if is_definition u.how then suc (definitions us) else definitions us

-- TooManySites: a method is defined where so many are defined before that no more may be
abbrev pub too_many_sites : How → ℕ → Bool
too_many_sites (defined h) n = nat_le MOST_SITES n
too_many_sites _ n = false

-- the row of a kind of fault, where it is one of the eight, of a use behind so many defined methods
abbrev pub holds : Known → StaticKind → How → Visible → ℕ → Bool
holds k kind.UnknownName h v n = unknown_name h v
holds k kind.UnknownFunction h v n = unknown_function k h v
holds k kind.TooManyArguments h v n = too_many_arguments k h v
holds k kind.UnknownType h v n = unknown_type h v
holds k kind.Rebound h v n = rebound h v
holds k kind.DuplicateType h v n = duplicate h v
holds k kind.NameClash h v n = name_clash k h
holds k kind.TooManySites h v n = too_many_sites h n
holds k _ h v n = false

-- these kinds of faults have their row here
abbrev pub has_row : StaticKind → Bool
has_row kind.UnknownName = true
has_row kind.UnknownFunction = true
has_row kind.TooManyArguments = true
has_row kind.UnknownType = true
has_row kind.Rebound = true
has_row kind.DuplicateType = true
has_row kind.NameClash = true
has_row kind.TooManySites = true
has_row _ = false

-- a row holds of one of these uses of names, and its fault stands there
pub record HoldsIn (k : Known) (us : List Use) (f : Fault) : Type 0 where
  pub before : List Use
  pub use_ : Use
  pub behind : List Use
  pub is : us ≡ before ++ use_ ∷ behind
  pub place : use_.at ≡ f.at
  pub row : holds k f.kind use_.how use_.visible (definitions before) ≡ true

-- a row holds of a use of a name in items
abbrev pub HoldsAt : Known → List Item → Fault → Type 0
HoldsAt k items f = HoldsIn k (uses_of (names_told k) items) f

-- a fault is reported, and this one does not come before it
abbrev pub IsReportedBy : Option Fault → Fault → Type 0
IsReportedBy None f = ⊥
IsReportedBy (Some g) f = comes_before f g ≡ false

-- a fault of another row, or none
abbrev pub IsOtherKind : Option StaticKind → Type 0
IsOtherKind None = Unit {0}
IsOtherKind (Some k) = has_row k ≡ false

abbrev pub IsOther : Option Fault → Type 0
IsOther None = Unit {0}
IsOther (Some f) = has_row f.kind ≡ false

-- what is asked of the table of declarations about a signature, or about a type in a body, is answered by faults of other rows
pub record TellTypes (t : Tests) : Type 0 where
  pub signature : (w : Written) → IsOtherKind (t.signature w)
  pub body : (w : Written) → IsOtherKind (t.body w)
