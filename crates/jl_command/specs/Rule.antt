-- Which lists of words are commands, and which commands they are.
use Rattle.std.specs.Prelude.{ℕ, ◌+◌, ◌-◌, ◌*◌, ◌≤◌, ◌&&◌, Bool, true, false, cond, nat_eq, nat_le, codes, List, [], ◌∷◌, length, take, drop, map, bytes_eq, Option, None, Some}
use Rattle.std.specs.List.{list_all}
use Rattle.jl_model.specs.declared.limits.TheConstants.{DEFAULT_FUEL, DEFAULT_THREADS, MOST_FUEL, MOST_THREADS}
use Rattle.jl_gen.specs.declared.numbers.TheConstants.{MOST_NUMBER}
use Rattle.jl_command.specs.declared.commands.Command.{Command}
use Rattle.jl_command.specs.declared.commands.Command.TheVariants as C
use Rattle.jl_command.specs.declared.commands.Verb.{Verb}
use Rattle.jl_command.specs.declared.commands.Verb.TheVariants as V
use Rattle.jl_command.specs.declared.forms.TheConstants.{MOST_DIGITS}

-- ---- the words after the command's

-- what a value is given for: an option, or the first or the second of the words that stand for themselves
pub data Name : Type 0 where
  threads : Name
  fuel : Name
  first : Name
  second : Name

-- a value: one to ten digits, of which the first may be zeros
abbrev pub is_digit : ℕ → Bool
is_digit b = nat_le 48 b && nat_le b 57

abbrev pub is_value : List ℕ → Bool
is_value w = nat_le 1 (length w) && (nat_le (length w) MOST_DIGITS && list_all is_digit w)

-- an option begins with a hyphen, and a word that stands for itself does not
abbrev pub begins_with_hyphen : List ℕ → Bool
begins_with_hyphen [] = false
begins_with_hyphen (b ∷ bs) = nat_eq b 45

-- what a word may be: an option whose value is the next word, an option with its value after `=`, or a value or a word that stands for itself
pub data Form : Type 0 where
  flag : Name → Form
  assigned : Name → List ℕ → Form
  plain : List ℕ → Form
  other : Form

abbrev pub threads_flag : List ℕ
threads_flag = codes "--threads"

abbrev pub fuel_flag : List ℕ
fuel_flag = codes "--fuel"

abbrev pub threads_start : List ℕ
threads_start = codes "--threads="

abbrev pub fuel_start : List ℕ
fuel_start = codes "--fuel="

abbrev pub form_of : List ℕ → Form
form_of w =
    cond (bytes_eq w threads_flag) (flag threads)
    (cond (bytes_eq w fuel_flag) (flag fuel)
    (cond (bytes_eq (take (length threads_start) w) threads_start) (assigned threads (drop (length threads_start) w))
    (cond (bytes_eq (take (length fuel_start) w) fuel_start) (assigned fuel (drop (length fuel_start) w))
    (cond (begins_with_hyphen w) other (plain w)))))

-- whether a word may stand after the command's
abbrev pub is_known : Form → Bool
is_known (flag n) = true
is_known (assigned n v) = true
is_known (plain v) = true
is_known other = false

-- a value with what it is given for
pub record Use : Type 0 where
  pub name : Name
  pub value : List ℕ

abbrev pub add : Name → List ℕ → Option (List Use) → Option (List Use)
add n v None = None
add n v (Some us) = Some (record { name = n; value = v } ∷ us)

-- the uses that words of these forms are, where an option may wait for its value, and words that stand for themselves are given for these names,
-- one for each
abbrev pub uses_in : Option Name → List Form → List Name → Option (List Use)
uses_in None [] [] = Some []
uses_in None [] (m ∷ ms) = None
uses_in None (flag n ∷ fs) ms = uses_in (Some n) fs ms
uses_in None (assigned n v ∷ fs) ms = add n v (uses_in None fs ms)
uses_in None (plain v ∷ fs) [] = None
uses_in None (plain v ∷ fs) (m ∷ ms) = add m v (uses_in None fs ms)
uses_in None (other ∷ fs) ms = None
uses_in (Some n) [] ms = None
uses_in (Some n) (flag m ∷ fs) ms = None
uses_in (Some n) (assigned m v ∷ fs) ms = None
uses_in (Some n) (plain v ∷ fs) ms = add n v (uses_in None fs ms)
uses_in (Some n) (other ∷ fs) ms = None

-- ---- what a command takes

-- no words, or options, or options and one word or two that stand for themselves
pub data Kind : Type 0 where
  bare : Kind
  optioned : Kind
  numbered : Kind
  asked : Kind

-- what the words that stand for themselves are given for
abbrev pub wanted : Kind → List Name
wanted bare = []
wanted optioned = []
wanted numbered = first ∷ []
wanted asked = first ∷ second ∷ []

-- the uses that words are after the word of a command
abbrev pub uses_of : Kind → List (List ℕ) → Option (List Use)
uses_of k ws = uses_in None (map form_of ws) (wanted k)

abbrev pub same : Name → Name → Bool
same threads threads = true
same threads fuel = false
same threads first = false
same threads second = false
same fuel threads = false
same fuel fuel = true
same fuel first = false
same fuel second = false
same first threads = false
same first fuel = false
same first first = true
same first second = false
same second threads = false
same second fuel = false
same second first = false
same second second = true

-- how often a value is given for a name
abbrev pub times : Name → List Use → ℕ
times n [] = 0
times n (u ∷ us) = cond (same n u.name) (1 + times n us) (times n us)

-- how often each option may stand at most
abbrev pub most : Kind → ℕ
most bare = 0
most optioned = 1
most numbered = 1
most asked = 1

abbrev pub fits : Kind → List Use → Bool
fits k us = nat_le (times threads us) (most k) && nat_le (times fuel us) (most k)

-- ---- values

-- the number that digits are
abbrev pub digits_from : ℕ → List ℕ → ℕ
digits_from n [] = n
digits_from n (d ∷ ds) = digits_from (n * 10 + (d - 48)) ds

abbrev pub value_of : Name → List Use → Option (List ℕ)
value_of n [] = None
value_of n (u ∷ us) = cond (same n u.name) (Some u.value) (value_of n us)

-- a number between two others, where it is there
abbrev pub between : ℕ → ℕ → ℕ → Option ℕ
between low high n = cond (nat_le low n && nat_le n high) (Some n) None

abbrev pub number_in : ℕ → ℕ → Option ℕ → Option (List ℕ) → Option ℕ
number_in low high default None = default
number_in low high default (Some v) = cond (is_value v) (between low high (digits_from 0 v)) None

-- what is given for an option, or what stands for it where nothing is, and the number of a generated script
abbrev pub threads_in : Option (List ℕ) → Option ℕ
threads_in v = number_in 1 MOST_THREADS (Some DEFAULT_THREADS) v

abbrev pub fuel_in : Option (List ℕ) → Option ℕ
fuel_in v = number_in 0 MOST_FUEL (Some DEFAULT_FUEL) v

abbrev pub script_in : Option (List ℕ) → Option ℕ
script_in v = number_in 0 MOST_NUMBER None v

-- ---- commands

abbrev pub verb_of : List ℕ → Option Verb
verb_of w =
    cond (bytes_eq w (codes "check")) (Some V.Check)
    (cond (bytes_eq w (codes "replay")) (Some V.Replay)
    (cond (bytes_eq w (codes "run")) (Some V.Run)
    (cond (bytes_eq w (codes "trace")) (Some V.Trace)
    (cond (bytes_eq w (codes "ambiguous")) (Some V.Ambiguous)
    (cond (bytes_eq w (codes "gen")) (Some V.Gen)
    (cond (bytes_eq w (codes "which")) (Some V.Which) None))))))

-- what the words after it may be
abbrev pub kind_of : Verb → Kind
kind_of V.Check = bare
kind_of V.Replay = bare
kind_of V.Run = optioned
kind_of V.Trace = optioned
kind_of V.Ambiguous = optioned
kind_of V.Gen = numbered
kind_of V.Which = asked

abbrev pub with_script : Option ℕ → ℕ → ℕ → Option Command
with_script (Some n) t f = Some (C.Gen n t f)
with_script None t f = None

abbrev pub with_question : Option (List ℕ) → Option (List ℕ) → ℕ → ℕ → Option Command
with_question (Some n) (Some k) t f = Some (C.Which n k t f)
with_question (Some n) None t f = None
with_question None k t f = None

-- the command with so many threads and so much fuel, where what is given for the words that stand for themselves is what it takes
abbrev pub command_with : Verb → ℕ → ℕ → Option (List ℕ) → Option (List ℕ) → Option Command
command_with V.Check t f a b = Some C.Check
command_with V.Replay t f a b = Some C.Replay
command_with V.Run t f a b = Some (C.Run t f)
command_with V.Trace t f a b = Some (C.Trace t f)
command_with V.Ambiguous t f a b = Some (C.Ambiguous t f)
command_with V.Gen t f a b = with_script (script_in a) t f
command_with V.Which t f a b = with_question a b t f

abbrev pub with_both : Option ℕ → Option ℕ → (ℕ → ℕ → Option Command) → Option Command
with_both (Some t) (Some f) command = command t f
with_both (Some t) None command = None
with_both None f command = None

-- the command by what is given for each name, where the values of the options are numbers that it takes
abbrev pub make : Verb → Option (List ℕ) → Option (List ℕ) → Option (List ℕ) → Option (List ℕ) → Option Command
make v t f a b = with_both (threads_in t) (fuel_in f) (λ threads fuel. command_with v threads fuel a b)

-- and where the uses fit it
abbrev pub made : Verb → Option (List Use) → Option Command
made v None = None
made v (Some us) = cond (fits (kind_of v) us) (make v (value_of threads us) (value_of fuel us) (value_of first us) (value_of second us)) None

abbrev pub made_from : Option Verb → List (List ℕ) → Option Command
made_from None ws = None
made_from (Some v) ws = made v (uses_of (kind_of v) ws)

-- the command that words are: that of the first, with the uses that the others are
abbrev pub command_of : List (List ℕ) → Option Command
command_of [] = None
command_of (w ∷ ws) = made_from (verb_of w) ws

-- the command that the first word asks for
abbrev pub first_verb : List (List ℕ) → Option Verb
first_verb [] = None
first_verb (w ∷ ws) = verb_of w

-- whether the words after the first may stand there
abbrev pub are_known : List (List ℕ) → Bool
are_known ws = list_all (λ w. is_known (form_of w)) ws

-- the same, where the words after the first may stand there
abbrev pub opening : List (List ℕ) → Option Verb
opening ws = cond (are_known (drop 1 ws)) (first_verb ws) None

-- the numbers of a command are in their ranges: its threads t, its fuel f and the number n of its generated script
abbrev pub IsInRange : Command → Type 0
IsInRange (C.Run t f) = (1 ≤ t) × (t ≤ MOST_THREADS) × (f ≤ MOST_FUEL)
IsInRange (C.Trace t f) = (1 ≤ t) × (t ≤ MOST_THREADS) × (f ≤ MOST_FUEL)
IsInRange C.Check = Unit {0}
IsInRange C.Replay = Unit {0}
IsInRange (C.Gen n t f) = (n ≤ MOST_NUMBER) × (1 ≤ t) × (t ≤ MOST_THREADS) × (f ≤ MOST_FUEL)
IsInRange (C.Which n k t f) = (1 ≤ t) × (t ≤ MOST_THREADS) × (f ≤ MOST_FUEL)
IsInRange (C.Ambiguous t f) = (1 ≤ t) × (t ≤ MOST_THREADS) × (f ≤ MOST_FUEL)
