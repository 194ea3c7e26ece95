-- The numbers of a command are in their ranges, since each was looked at when its word was read.
use Rattle.std.proofs.Common.{◌≡◌, ◌≤◌, ◌&&◌, Bool, true, false, cond, nat_le, refl, subst, arith, ℕ, List, [], ◌∷◌, Option, None, Some, Result, Ok, Err, IfOk}
use Rattle.jl_model.specs.declared.limits.TheConstants.{DEFAULT_FUEL, DEFAULT_THREADS, MOST_FUEL, MOST_THREADS}
use Rattle.jl_gen.specs.declared.numbers.TheConstants.{MOST_NUMBER}
use Rattle.jl_command.specs.declared.commands.Command.{Command}
use Rattle.jl_command.specs.declared.commands.Command.TheVariants as C
use Rattle.jl_command.specs.declared.read.WordsFault.{WordsFault}
use Rattle.jl_command.specs.declared.commands.Verb.{Verb}
use Rattle.jl_command.specs.declared.commands.Verb.TheVariants as V
use Rattle.jl_command.specs.Rule.{Use, threads, fuel, first, second, fits, kind_of, value_of, is_value, digits_from, between, number_in, threads_in, fuel_in, script_in, with_script, with_question, command_with, with_both, make, made, made_from, verb_of, uses_of, command_of, IsInRange}

-- a number stands between two others
record IsBetween (low high n : ℕ) : Type 0 where
  pub above : low ≤ n
  pub below : n ≤ high

tested : (t u : Bool) (n m : ℕ) → cond (t && u) (Some n) None ≡ Some m → (t ≡ true) × (u ≡ true) × (n ≡ m)
tested true true n m e = (refl, refl, cc)
tested true false n m e = cc
tested false u n m e = cc

between_is : (low high n m : ℕ) → between low high n ≡ Some m → IsBetween low high m
between_is low high n m e =
    let h = tested (nat_le low n) (nat_le n high) n m e in
    subst (IsBetween low high) h.2 (record { above = grind (arith, h.0); below = grind (arith, h.1) })

when_value : (t : Bool) (low high n m : ℕ) → cond t (between low high n) None ≡ Some m → IsBetween low high m
when_value true low high n m e = between_is low high n m e
when_value false low high n m e = cc

number_is : (low high : ℕ) (default : Option ℕ) (v : Option (List ℕ)) (m : ℕ) → ((d : ℕ) → default ≡ Some d → IsBetween low high d) → number_in low high default v ≡ Some m → IsBetween low high m
number_is low high default None m h e = h m e
number_is low high default (Some v) m h e = when_value (is_value v) low high (digits_from 0 v) m e

threads_are : (v : Option (List ℕ)) (m : ℕ) → threads_in v ≡ Some m → IsBetween 1 MOST_THREADS m
threads_are v m e = number_is 1 MOST_THREADS (Some DEFAULT_THREADS) v m (λ d f. let g : DEFAULT_THREADS ≡ d = cc in record { above = omega (arith, g); below = omega (arith, g) }) e

fuel_is : (v : Option (List ℕ)) (m : ℕ) → fuel_in v ≡ Some m → m ≤ MOST_FUEL
fuel_is v m e = (number_is 0 MOST_FUEL (Some DEFAULT_FUEL) v m (λ d f. let g : DEFAULT_FUEL ≡ d = cc in record { above = omega arith; below = omega (arith, g) }) e).below

script_is : (v : Option (List ℕ)) (m : ℕ) → script_in v ≡ Some m → m ≤ MOST_NUMBER
script_is v m e = (number_is 0 MOST_NUMBER None v m (λ d f. cc) e).below

script_allowed : (o : Option ℕ) (t f : ℕ) (c : Command) → ((n : ℕ) → o ≡ Some n → n ≤ MOST_NUMBER) → IsBetween 1 MOST_THREADS t → f ≤ MOST_FUEL → with_script o t f ≡ Some c → IsInRange c
script_allowed None t f c h k l e = cc
script_allowed (Some n) t f c h k l e = let is : C.Gen n t f ≡ c = cc in subst IsInRange is (h n refl, k.above, k.below, l)

question_allowed : (a b : Option (List ℕ)) (t f : ℕ) (c : Command) → IsBetween 1 MOST_THREADS t → f ≤ MOST_FUEL → with_question a b t f ≡ Some c → IsInRange c
question_allowed None b t f c k l e = cc
question_allowed (Some x) None t f c k l e = cc
question_allowed (Some x) (Some y) t f c k l e = let is : C.Which x y t f ≡ c = cc in subst IsInRange is (k.above, k.below, l)

command_allowed : (v : Verb) (t f : ℕ) (a b : Option (List ℕ)) (c : Command) → IsBetween 1 MOST_THREADS t → f ≤ MOST_FUEL → command_with v t f a b ≡ Some c → IsInRange c
command_allowed V.Check t f a b c k l e = let is : C.Check ≡ c = cc in subst IsInRange is tt
command_allowed V.Replay t f a b c k l e = let is : C.Replay ≡ c = cc in subst IsInRange is tt
command_allowed V.Run t f a b c k l e = let is : C.Run t f ≡ c = cc in subst IsInRange is (k.above, k.below, l)
command_allowed V.Trace t f a b c k l e = let is : C.Trace t f ≡ c = cc in subst IsInRange is (k.above, k.below, l)
command_allowed V.Ambiguous t f a b c k l e = let is : C.Ambiguous t f ≡ c = cc in subst IsInRange is (k.above, k.below, l)
command_allowed V.Gen t f a b c k l e = script_allowed (script_in a) t f c (script_is a) k l e
command_allowed V.Which t f a b c k l e = question_allowed a b t f c k l e

both_allowed : (t f : Option ℕ) (command : ℕ → ℕ → Option Command) (c : Command) → ((n : ℕ) → t ≡ Some n → IsBetween 1 MOST_THREADS n) → ((n : ℕ) → f ≡ Some n → n ≤ MOST_FUEL)
    → ((m n : ℕ) → IsBetween 1 MOST_THREADS m → n ≤ MOST_FUEL → command m n ≡ Some c → IsInRange c) → with_both t f command ≡ Some c → IsInRange c
both_allowed (Some t) (Some f) command c k l h e = h t f (k t refl) (l f refl) e
both_allowed (Some t) None command c k l h e = cc
both_allowed None f command c k l h e = cc

make_allowed : (v : Verb) (t f a b : Option (List ℕ)) (c : Command) → make v t f a b ≡ Some c → IsInRange c
make_allowed v t f a b c e =
    both_allowed (threads_in t) (fuel_in f) (λ m n. command_with v m n a b) c (threads_are t) (fuel_is f) (λ m n k l h. command_allowed v m n a b c k l h) e

when_fits : (t : Bool) (o : Option Command) (c : Command) → cond t o None ≡ Some c → o ≡ Some c
when_fits true o c e = e
when_fits false o c e = cc

made_allowed : (v : Verb) (us : Option (List Use)) (c : Command) → made v us ≡ Some c → IsInRange c
made_allowed v None c e = cc
made_allowed v (Some us) c e =
    make_allowed v (value_of threads us) (value_of fuel us) (value_of first us) (value_of second us) c
    (when_fits (fits (kind_of v) us) (make v (value_of threads us) (value_of fuel us) (value_of first us) (value_of second us)) c e)

from_allowed : (v : Option Verb) (ws : List (List ℕ)) (c : Command) → made_from v ws ≡ Some c → IsInRange c
from_allowed None ws c e = cc
from_allowed (Some v) ws c e = made_allowed v (uses_of (kind_of v) ws) c e

in_range : (ws : List (List ℕ)) (c : Command) → command_of ws ≡ Some c → IsInRange c
in_range [] c e = cc
in_range (w ∷ ws) c e = from_allowed (verb_of w) ws c e

-- a command that words are
pub all_in_range : (ws : List (List ℕ)) (r : Result Command WordsFault) → IfOk r (λ c. command_of ws ≡ Some c) → IfOk r IsInRange
all_in_range ws (Ok c) h = in_range ws c h
all_in_range ws (Err e) h = h
