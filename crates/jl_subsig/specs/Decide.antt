-- What decides the choice among methods that apply, by the numbers of their definitions and the answers of all comparisons.
use Rattle.std.specs.Prelude.{ℕ, ◌+◌, ◌≡◌, ◌<◌, ◌↔◌, Bool, false, ◌&&◌, ◌||◌, not, cond, nat_eq, IsTrue, List, [], ◌∷◌, map, length, get_or, Option, None, Some}
use Rattle.std.specs.List.{list_all, list_any, find}
use Rattle.jl_model.specs.declared.ty.Decl.{Decl}
use Rattle.jl_model.specs.declared.ty.Written.{Written}
use Rattle.jl_model.specs.Choice as M
use Rattle.jl_model.specs.Signature.{SigBelow}
use Rattle.jl_model.specs.Subtype.{Table}
use Rattle.jl_program.specs.declared.choice.Choice.{Choice}
use Rattle.jl_program.specs.declared.choice.Choice.TheVariants as C
use Rattle.jl_sig.specs.Prepared.{IsSigOf}
use Rattle.jl_sig.specs.SigParts.{written_of}
use Rattle.jl_subsig.specs.declared.choice.Method.{Method}
use Rattle.jl_subsig.specs.declared.choice.Ranked.{Ranked}

-- a method as the rule has it
abbrev pub method_in : Method → M.Method
method_in m = record { number = m.number; sig = written_of m.sig.now }

abbrev pub methods_in : List Method → List M.Method
methods_in ms = map method_in ms

-- the signature is kept as it has to be
pub record IsSound (ds : List Decl) (m : Method) : Type 0 where
  pub kept : IsSigOf ds m.sig.now

abbrev pub nothing : M.Method
nothing = record { number = 0; sig = record { vars = []; parts = [] } }

abbrev pub nth : List M.Method → ℕ → M.Method
nth ms i = get_or ms i nothing

-- the answers of one comparison with each
pub record IsCompared (n : Table) (s : Written) (ms : List M.Method) (bs : List Bool) : Type 0 where
  pub long : length bs ≡ length ms
  pub told : (j : ℕ) → j < length ms → IsTrue (get_or bs j false) ↔ SigBelow n s (nth ms j).sig

-- and of all
pub record AreCompared (n : Table) (ms : List M.Method) (bss : List (List Bool)) : Type 0 where
  pub long : length bss ≡ length ms
  pub told : (i : ℕ) → i < length ms → IsCompared n (nth ms i).sig ms (get_or bss i [])

-- the numbers of methods with their places
abbrev pub ranks : ℕ → List Method → List Ranked
ranks i [] = []
ranks i (m ∷ ms) = record { number = m.number; place = i } ∷ ranks (i + 1) ms

-- whether the signature of the first is below that of the second
abbrev pub sig_below : List (List Bool) → Ranked → Ranked → Bool
sig_below P d e = get_or (get_or P d.place []) e.place false

abbrev pub same_sig : List (List Bool) → Ranked → Ranked → Bool
same_sig P d e = sig_below P d e && sig_below P e d

abbrev pub strictly_below : List (List Bool) → Ranked → Ranked → Bool
strictly_below P d e = sig_below P d e && not (sig_below P e d)

-- those that have no later one of the same signature
abbrev pub candidates : List (List Bool) → List Ranked → List Ranked
candidates P [] = []
candidates P (d ∷ ds) = cond (list_any (same_sig P d) ds) (candidates P ds) (d ∷ candidates P ds)

-- whether one is below all others of these
abbrev pub below_others : List (List Bool) → List Ranked → Ranked → Bool
below_others P cs d = list_all (λ c. nat_eq c.number d.number || strictly_below P d c) cs

-- the one that is below all others
abbrev pub most_specific : List (List Bool) → List Ranked → Option Ranked
most_specific P cs = find (below_others P cs) cs

-- whether neither is below the other
abbrev pub unordered : List (List Bool) → Ranked → Ranked → Bool
unordered P a b = not (strictly_below P a b) && not (strictly_below P b a)

abbrev pub pair_or : Ranked → Option Ranked → Option (Ranked × Ranked) → Option (Ranked × Ranked)
pair_or a None pair = pair
pair_or a (Some b) pair = Some (a, b)

-- the first pair, of which neither is below the other
abbrev pub unordered_pair : List (List Bool) → List Ranked → Option (Ranked × Ranked)
unordered_pair P [] = None
unordered_pair P (a ∷ cs) = pair_or a (find (unordered P a) cs) (unordered_pair P cs)

-- the first two name the ambiguity
abbrev pub first_two : List Ranked → Choice
first_two (a ∷ b ∷ cs) = C.Ambiguous a.number b.number
first_two cs = C.None

abbrev pub by_pair : Option (Ranked × Ranked) → Choice → Choice
by_pair (Some pair) other = C.Ambiguous pair.0.number pair.1.number
by_pair None other = other

abbrev pub by_best : Option Ranked → Choice → Choice
by_best (Some d) other = C.Method d.number
by_best None other = other

-- the choice among candidates
abbrev pub choice_among : List (List Bool) → List Ranked → Choice
choice_among P cs = by_best (most_specific P cs) (by_pair (unordered_pair P cs) (first_two cs))
