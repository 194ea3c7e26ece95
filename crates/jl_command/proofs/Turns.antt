-- What one word does to a walk of `clap`, by its form.
use Rattle.std.proofs.Common.{◌≡◌, ◌∙◌, ap, refl, ℕ, ◌+◌, Bool, true, false, not, ◌&&◌, ◌||◌, nat_le, List, [], ◌∷◌, ◌++◌, Option, None, Some}
use Rattle.std.specs.Prelude.{fold, if◌then◌else◌}
use Rattle.clap.specs.Walk.{Text, Rule, Row, default_rows, reading_by, is_empty, Held, Walk, Waiting, idle, walked, settled, settled_rows, without, with_values, finished, with_default, has_row, arg_by_index, to_positional}
use Rattle.clap.specs.Walk as W
use Rattle.clap.specs.Faults.{turn_fault, settle_fault, step_fault, repeat_fault, given_default_fault, defaults_fault, check_fault}
use Rattle.clap.specs.Kinds.{Kinds, or_else}
use Rattle.clap.specs.Takes.{is_given}
use Rattle.clap.specs.declared.parser.matches.ValueSource.TheVariants.{CommandLine}
use Rattle.clap.specs.declared.builder.value_parser.Reading.TheVariants.{AsWritten}
use Rattle.clap.specs.declared.error.kind.ErrorKind.TheVariants.{MissingRequiredArgument}
use Rattle.clap.proofs.OnLiterals.{clap_on_literals}
use Rattle.jl_command.specs.Rule.{Name, threads, fuel, first, second, Use, Kind, bare, optioned, numbered, asked, begins_with_hyphen, times, threads_flag, fuel_flag, threads_start, fuel_start}
use Rattle.jl_command.proofs.WordClasses.{not_dashes, not_long, not_short}
use Rattle.jl_command.proofs.Walks.{id_of, sub, rules, Bad, rows, pend, held, walk_at, between, waits, state, last, given_is, IsOption, TakesOptions}

abbrev pub flag_word : Name → Text
flag_word threads = threads_flag
flag_word fuel = fuel_flag
flag_word first = []
flag_word second = []

abbrev pub start_of : Name → Text
start_of threads = threads_start
start_of fuel = fuel_start
start_of first = []
start_of second = []

module _ (name : Text) (place : ℕ) where
  -- ---- a command that takes nothing

  pub bare_flag : (n : Name) → IsOption n → (us : List Use) (p : Option Use) → Bad (turn_fault (sub bare name) [] (state place (between us p)) (flag_word n))
  unfolding clap_on_literals
  bare_flag threads o us p = tt
  bare_flag fuel o us p = tt
  bare_flag first o us p = absurd o
  bare_flag second o us p = absurd o

  pub bare_assigned : (n : Name) → IsOption n → (v : Text) (us : List Use) (p : Option Use) → Bad (turn_fault (sub bare name) [] (state place (between us p)) (start_of n ++ v))
  unfolding clap_on_literals
  bare_assigned threads o v us p = tt
  bare_assigned fuel o v us p = tt
  bare_assigned first o v us p = absurd o
  bare_assigned second o v us p = absurd o

  -- ---- an option

  pub flag_fault : (k : Kind) → TakesOptions k → (n : Name) → IsOption n → (us : List Use) (p : Option Use)
      → turn_fault (sub k name) [] (state place (between us p)) (flag_word n) ≡ or_else (settle_fault (rules k) false (held us (pend p))) []
  unfolding clap_on_literals
  flag_fault bare t n o us p = absurd t
  flag_fault optioned t threads o us p = refl
  flag_fault optioned t fuel o us p = refl
  flag_fault optioned t first o us p = absurd o
  flag_fault optioned t second o us p = absurd o
  flag_fault numbered t threads o us p = refl
  flag_fault numbered t fuel o us p = refl
  flag_fault numbered t first o us p = absurd o
  flag_fault numbered t second o us p = absurd o
  flag_fault asked t threads o us p = refl
  flag_fault asked t fuel o us p = refl
  flag_fault asked t first o us p = absurd o
  flag_fault asked t second o us p = absurd o

  pub flag_walk : (k : Kind) → TakesOptions k → (n : Name) → IsOption n → (us : List Use) (p : Option Use)
      → walked (rules k) [] (state place (between us p)) (flag_word n) ≡ walk_at place (record (settled (rules k) (held us (pend p))) { pending = Some (id_of n, []) }) (W.option (id_of n))
  unfolding clap_on_literals
  flag_walk bare t n o us p = absurd t
  flag_walk optioned t threads o us p = refl
  flag_walk optioned t fuel o us p = refl
  flag_walk optioned t first o us p = absurd o
  flag_walk optioned t second o us p = absurd o
  flag_walk numbered t threads o us p = refl
  flag_walk numbered t fuel o us p = refl
  flag_walk numbered t first o us p = absurd o
  flag_walk numbered t second o us p = absurd o
  flag_walk asked t threads o us p = refl
  flag_walk asked t fuel o us p = refl
  flag_walk asked t first o us p = absurd o
  flag_walk asked t second o us p = absurd o

  -- ---- an option with its value

  pub assigned_fault : (k : Kind) → TakesOptions k → (n : Name) → IsOption n → (v : Text) (us : List Use) (p : Option Use)
      → turn_fault (sub k name) [] (state place (between us p)) (start_of n ++ v)
      ≡ or_else (or_else (settle_fault (rules k) false (held us (pend p))) (or_else (repeat_fault false (id_of n) (settled_rows (rules k) (pend p) (rows us))) [])) []
  unfolding clap_on_literals
  assigned_fault bare t n o v us p = absurd t
  assigned_fault optioned t threads o v us p = refl
  assigned_fault optioned t fuel o v us p = refl
  assigned_fault optioned t first o v us p = absurd o
  assigned_fault optioned t second o v us p = absurd o
  assigned_fault numbered t threads o v us p = refl
  assigned_fault numbered t fuel o v us p = refl
  assigned_fault numbered t first o v us p = absurd o
  assigned_fault numbered t second o v us p = absurd o
  assigned_fault asked t threads o v us p = refl
  assigned_fault asked t fuel o v us p = refl
  assigned_fault asked t first o v us p = absurd o
  assigned_fault asked t second o v us p = absurd o

  pub assigned_walk : (k : Kind) → TakesOptions k → (n : Name) → IsOption n → (v : Text) (us : List Use) (p : Option Use)
      → walked (rules k) [] (state place (between us p)) (start_of n ++ v)
      ≡ walk_at place (record { rows = with_values (id_of n) AsWritten CommandLine (v ∷ []) (without (id_of n) (settled_rows (rules k) (pend p) (rows us))); pending = None; skip = 0 }) idle
  unfolding clap_on_literals
  assigned_walk bare t n o v us p = absurd t
  assigned_walk optioned t threads o v us p = refl
  assigned_walk optioned t fuel o v us p = refl
  assigned_walk optioned t first o v us p = absurd o
  assigned_walk optioned t second o v us p = absurd o
  assigned_walk numbered t threads o v us p = refl
  assigned_walk numbered t fuel o v us p = refl
  assigned_walk numbered t first o v us p = absurd o
  assigned_walk numbered t second o v us p = absurd o
  assigned_walk asked t threads o v us p = refl
  assigned_walk asked t fuel o v us p = refl
  assigned_walk asked t first o v us p = absurd o
  assigned_walk asked t second o v us p = absurd o

  -- ---- an option that waits

  pub waits_flag : (k : Kind) → TakesOptions k → (n m : Name) → IsOption n → IsOption m → (us : List Use) → Bad (turn_fault (sub k name) [] (state place (waits us n)) (flag_word m))
  unfolding clap_on_literals
  waits_flag bare t n m o q us = absurd t
  waits_flag optioned t threads threads o q us = tt
  waits_flag optioned t threads fuel o q us = tt
  waits_flag optioned t threads first o q us = absurd q
  waits_flag optioned t threads second o q us = absurd q
  waits_flag optioned t fuel threads o q us = tt
  waits_flag optioned t fuel fuel o q us = tt
  waits_flag optioned t fuel first o q us = absurd q
  waits_flag optioned t fuel second o q us = absurd q
  waits_flag optioned t first m o q us = absurd o
  waits_flag optioned t second m o q us = absurd o
  waits_flag numbered t threads threads o q us = tt
  waits_flag numbered t threads fuel o q us = tt
  waits_flag numbered t threads first o q us = absurd q
  waits_flag numbered t threads second o q us = absurd q
  waits_flag numbered t fuel threads o q us = tt
  waits_flag numbered t fuel fuel o q us = tt
  waits_flag numbered t fuel first o q us = absurd q
  waits_flag numbered t fuel second o q us = absurd q
  waits_flag numbered t first m o q us = absurd o
  waits_flag numbered t second m o q us = absurd o
  waits_flag asked t threads threads o q us = tt
  waits_flag asked t threads fuel o q us = tt
  waits_flag asked t threads first o q us = absurd q
  waits_flag asked t threads second o q us = absurd q
  waits_flag asked t fuel threads o q us = tt
  waits_flag asked t fuel fuel o q us = tt
  waits_flag asked t fuel first o q us = absurd q
  waits_flag asked t fuel second o q us = absurd q
  waits_flag asked t first m o q us = absurd o
  waits_flag asked t second m o q us = absurd o

  pub waits_assigned : (k : Kind) → TakesOptions k → (n m : Name) → IsOption n → IsOption m → (v : Text) (us : List Use)
      → Bad (turn_fault (sub k name) [] (state place (waits us n)) (start_of m ++ v))
  unfolding clap_on_literals
  waits_assigned bare t n m o q v us = absurd t
  waits_assigned optioned t threads threads o q v us = tt
  waits_assigned optioned t threads fuel o q v us = tt
  waits_assigned optioned t threads first o q v us = absurd q
  waits_assigned optioned t threads second o q v us = absurd q
  waits_assigned optioned t fuel threads o q v us = tt
  waits_assigned optioned t fuel fuel o q v us = tt
  waits_assigned optioned t fuel first o q v us = absurd q
  waits_assigned optioned t fuel second o q v us = absurd q
  waits_assigned optioned t first m o q v us = absurd o
  waits_assigned optioned t second m o q v us = absurd o
  waits_assigned numbered t threads threads o q v us = tt
  waits_assigned numbered t threads fuel o q v us = tt
  waits_assigned numbered t threads first o q v us = absurd q
  waits_assigned numbered t threads second o q v us = absurd q
  waits_assigned numbered t fuel threads o q v us = tt
  waits_assigned numbered t fuel fuel o q v us = tt
  waits_assigned numbered t fuel first o q v us = absurd q
  waits_assigned numbered t fuel second o q v us = absurd q
  waits_assigned numbered t first m o q v us = absurd o
  waits_assigned numbered t second m o q v us = absurd o
  waits_assigned asked t threads threads o q v us = tt
  waits_assigned asked t threads fuel o q v us = tt
  waits_assigned asked t threads first o q v us = absurd q
  waits_assigned asked t threads second o q v us = absurd q
  waits_assigned asked t fuel threads o q v us = tt
  waits_assigned asked t fuel fuel o q v us = tt
  waits_assigned asked t fuel first o q v us = absurd q
  waits_assigned asked t fuel second o q v us = absurd q
  waits_assigned asked t first m o q v us = absurd o
  waits_assigned asked t second m o q v us = absurd o

  pub waits_last : (k : Kind) → TakesOptions k → (n : Name) → IsOption n → (us : List Use) → Bad (last name k (state place (waits us n)))
  waits_last bare t n o us = absurd t
  waits_last optioned t threads o us = tt
  waits_last optioned t fuel o us = tt
  waits_last optioned t first o us = absurd o
  waits_last optioned t second o us = absurd o
  waits_last numbered t threads o us = tt
  waits_last numbered t fuel o us = tt
  waits_last numbered t first o us = absurd o
  waits_last numbered t second o us = absurd o
  waits_last asked t threads o us = tt
  waits_last asked t fuel o us = tt
  waits_last asked t first o us = absurd o
  waits_last asked t second o us = absurd o

  -- ---- a value

  pub waits_fault : (k : Kind) → TakesOptions k → (n : Name) → IsOption n → (v : Text) → begins_with_hyphen v ≡ false → (us : List Use) → turn_fault (sub k name) [] (state place (waits us n)) v ≡ []
  waits_fault bare t n o v h us = absurd t
  waits_fault optioned t threads o v h us = rw (not_dashes v h, not_long v h, not_short v h) refl
  waits_fault optioned t fuel o v h us = rw (not_dashes v h, not_long v h, not_short v h) refl
  waits_fault optioned t first o v h us = absurd o
  waits_fault optioned t second o v h us = absurd o
  waits_fault numbered t threads o v h us = rw (not_dashes v h, not_long v h, not_short v h) refl
  waits_fault numbered t fuel o v h us = rw (not_dashes v h, not_long v h, not_short v h) refl
  waits_fault numbered t first o v h us = absurd o
  waits_fault numbered t second o v h us = absurd o
  waits_fault asked t threads o v h us = rw (not_dashes v h, not_long v h, not_short v h) refl
  waits_fault asked t fuel o v h us = rw (not_dashes v h, not_long v h, not_short v h) refl
  waits_fault asked t first o v h us = absurd o
  waits_fault asked t second o v h us = absurd o

  pub waits_walk : (k : Kind) → TakesOptions k → (n : Name) → IsOption n → (v : Text) → begins_with_hyphen v ≡ false → (us : List Use)
      → walked (rules k) [] (state place (waits us n)) v ≡ state place (between us (Some (record { name = n; value = v })))
  unfolding clap_on_literals
  waits_walk bare t n o v h us = absurd t
  waits_walk optioned t threads o v h us = rw (not_dashes v h, not_long v h, not_short v h) refl
  waits_walk optioned t fuel o v h us = rw (not_dashes v h, not_long v h, not_short v h) refl
  waits_walk optioned t first o v h us = absurd o
  waits_walk optioned t second o v h us = absurd o
  waits_walk numbered t threads o v h us = rw (not_dashes v h, not_long v h, not_short v h) refl
  waits_walk numbered t fuel o v h us = rw (not_dashes v h, not_long v h, not_short v h) refl
  waits_walk numbered t first o v h us = absurd o
  waits_walk numbered t second o v h us = absurd o
  waits_walk asked t threads o v h us = rw (not_dashes v h, not_long v h, not_short v h) refl
  waits_walk asked t fuel o v h us = rw (not_dashes v h, not_long v h, not_short v h) refl
  waits_walk asked t first o v h us = absurd o
  waits_walk asked t second o v h us = absurd o

  pub plain_fault : (k : Kind) (v : Text) → begins_with_hyphen v ≡ false → (us : List Use) (p : Option Use)
      → turn_fault (sub k name) [] (state place (between us p)) v ≡ step_fault (sub k name) place (held us (pend p)) W.value
  plain_fault bare v h us p = rw (not_dashes v h, not_long v h, not_short v h) refl
  plain_fault optioned v h us p = rw (not_dashes v h, not_long v h, not_short v h) refl
  plain_fault numbered v h us p = rw (not_dashes v h, not_long v h, not_short v h) refl
  plain_fault asked v h us p = rw (not_dashes v h, not_long v h, not_short v h) refl

  pub plain_walk : (k : Kind) (v : Text) → begins_with_hyphen v ≡ false → (us : List Use) (p : Option Use)
      → walked (rules k) [] (state place (between us p)) v ≡ to_positional (rules k) (arg_by_index (rules k) place) v (state place (between us p)) (held us (pend p))
  unfolding clap_on_literals
  plain_walk bare v h us p = rw (not_dashes v h, not_long v h, not_short v h) refl
  plain_walk optioned v h us p = rw (not_dashes v h, not_long v h, not_short v h) refl
  plain_walk numbered v h us p = rw (not_dashes v h, not_long v h, not_short v h) refl
  plain_walk asked v h us p = rw (not_dashes v h, not_long v h, not_short v h) refl

-- the name that a word is given for which stands for itself, by the place that is next
pub data IsNext : Kind → ℕ → Name → Type 0 where
  first_of_one : IsNext numbered 1 first
  first_of_two : IsNext asked 1 first
  second_of_two : IsNext asked 2 second

-- where no more of them may stand
pub data IsFull : Kind → ℕ → Type 0 where
  none_in_bare : (place : ℕ) → IsFull bare place
  none_in_optioned : (place : ℕ) → IsFull optioned place
  after_one : IsFull numbered 2
  after_two : IsFull asked 3

module _ (name : Text) where
  pub stray : (k : Kind) (place : ℕ) (h : Held) → IsFull k place → Bad (step_fault (sub k name) place h W.value)
  stray _ _ h (none_in_bare place) = tt
  stray _ _ h (none_in_optioned place) = tt
  stray _ _ h after_one = tt
  stray _ _ h after_two = tt

  word_fault_of : (k : Kind) (place : ℕ) (m : Name) → IsNext k place m → (n : Name) (w : Text) (us : List Use)
      → step_fault (sub k name) place (held us (Some (id_of n, w ∷ []))) W.value ≡ settle_fault (rules k) false (held us (Some (id_of n, w ∷ [])))
  word_fault_of _ _ _ first_of_one threads w us = refl
  word_fault_of _ _ _ first_of_one fuel w us = refl
  word_fault_of _ _ _ first_of_one first w us = refl
  word_fault_of _ _ _ first_of_one second w us = refl
  word_fault_of _ _ _ first_of_two threads w us = refl
  word_fault_of _ _ _ first_of_two fuel w us = refl
  word_fault_of _ _ _ first_of_two first w us = refl
  word_fault_of _ _ _ first_of_two second w us = refl
  word_fault_of _ _ _ second_of_two threads w us = refl
  word_fault_of _ _ _ second_of_two fuel w us = refl
  word_fault_of _ _ _ second_of_two first w us = refl
  word_fault_of _ _ _ second_of_two second w us = refl

  pub word_fault : (k : Kind) (place : ℕ) (m : Name) → IsNext k place m → (us : List Use) (p : Option Use)
      → step_fault (sub k name) place (held us (pend p)) W.value ≡ settle_fault (rules k) false (held us (pend p))
  word_fault _ _ _ first_of_one us None = refl
  word_fault _ _ _ first_of_two us None = refl
  word_fault _ _ _ second_of_two us None = refl
  word_fault k place m i us (Some u) = word_fault_of k place m i u.name u.value us

  -- the word is pending
  abbrev pub with_word : ℕ → Name → Text → Held → Walk
  with_word place m v h = walk_at (place + 1) (record h { pending = Some (id_of m, v ∷ []) }) idle

  word_walk_of : (k : Kind) (place : ℕ) (m : Name) → IsNext k place m → (n : Name) (v w : Text) (us : List Use)
      → to_positional (rules k) (arg_by_index (rules k) place) v (walk_at place (held us (Some (id_of n, w ∷ []))) idle) (held us (Some (id_of n, w ∷ [])))
      ≡ with_word place m v (settled (rules k) (held us (Some (id_of n, w ∷ []))))
  word_walk_of _ _ _ first_of_one threads v w us = refl
  word_walk_of _ _ _ first_of_one fuel v w us = refl
  word_walk_of _ _ _ first_of_one first v w us = refl
  word_walk_of _ _ _ first_of_one second v w us = refl
  word_walk_of _ _ _ first_of_two threads v w us = refl
  word_walk_of _ _ _ first_of_two fuel v w us = refl
  word_walk_of _ _ _ first_of_two first v w us = refl
  word_walk_of _ _ _ first_of_two second v w us = refl
  word_walk_of _ _ _ second_of_two threads v w us = refl
  word_walk_of _ _ _ second_of_two fuel v w us = refl
  word_walk_of _ _ _ second_of_two first v w us = refl
  word_walk_of _ _ _ second_of_two second v w us = refl

  pub word_walk : (k : Kind) (place : ℕ) (m : Name) → IsNext k place m → (v : Text) (us : List Use) (p : Option Use)
      → to_positional (rules k) (arg_by_index (rules k) place) v (state place (between us p)) (held us (pend p)) ≡ with_word place m v (settled (rules k) (held us (pend p)))
  word_walk _ _ _ first_of_one v us None = refl
  word_walk _ _ _ first_of_two v us None = refl
  word_walk _ _ _ second_of_two v us None = refl
  word_walk k place m i v us (Some u) = word_walk_of k place m i u.name v u.value us

-- ---- after the last word

abbrev NoDefaults : List Rule → Type 0
NoDefaults [] = Unit {0}
NoDefaults (a ∷ rest) = (a.defaults ≡ []) × NoDefaults rest

no_fault : (b : Bool) (a : Rule) → a.defaults ≡ [] → (if b || is_empty a.defaults then [] else given_default_fault a a.defaults) ≡ []
no_fault true a h = refl
no_fault false a h = rw h refl

no_row : (b : Bool) (a : Rule) (rs : List Row) → a.defaults ≡ [] → (if b then rs else default_rows a.id (reading_by a) a.defaults rs) ≡ rs
no_row true a rs h = refl
no_row false a rs h = rw h refl

faultless : (rest : List Rule) (rs : List Row) → NoDefaults rest → defaults_fault rs rest ≡ []
unfolding defaults_fault
faultless [] rs h = refl
faultless (a ∷ rest) rs (h, hs) =
    ap (λ z. or_else z (defaults_fault (with_default rs a) rest)) (no_fault (has_row a.id rs) a h)
    ∙ ap (λ z. defaults_fault z rest) (no_row (has_row a.id rs) a rs h)
    ∙ faultless rest rs hs

unchanged : (rest : List Rule) (rs : List Row) → NoDefaults rest → fold with_default rs rest ≡ rs
unchanged [] rs h = refl
unchanged (a ∷ rest) rs (h, hs) = ap (λ z. fold with_default z rest) (no_row (has_row a.id rs) a rs h) ∙ unchanged rest rs hs

no_defaults : (k : Kind) → NoDefaults (rules k)
no_defaults bare = tt
no_defaults optioned = (refl, (refl, tt))
no_defaults numbered = (refl, (refl, (refl, tt)))
no_defaults asked = (refl, (refl, (refl, (refl, tt))))

-- the kinds of a command of which a word is wanted and not there
abbrev pub wanted_fault : Kind → List Use → Kinds
wanted_fault bare us = []
wanted_fault optioned us = []
wanted_fault numbered us = if nat_le 1 (times first us) then [] else MissingRequiredArgument ∷ []
wanted_fault asked us = if nat_le 1 (times first us) && nat_le 1 (times second us) then [] else MissingRequiredArgument ∷ []

check_is : (name : Text) (k : Kind) (us : List Use) → check_fault (sub k name) (rows us) false ≡ wanted_fault k us
check_is name bare us = refl
check_is name optioned us = refl
check_is name numbered us = ap (λ b. if not b || false then MissingRequiredArgument ∷ [] else []) (given_is first us) ∙ by (nat_le 1 (times first us))
  where
    by : (b : Bool) → (if not b || false then MissingRequiredArgument ∷ [] else []) ≡ (if b then [] else MissingRequiredArgument ∷ [])
    by true = refl
    by false = refl
check_is name asked us =
    ap (λ b. if not b || (not (is_given (id_of second) (rows us)) || false) then MissingRequiredArgument ∷ [] else []) (given_is first us)
    ∙ ap (λ b. if not (nat_le 1 (times first us)) || (not b || false) then MissingRequiredArgument ∷ [] else []) (given_is second us)
    ∙ by (nat_le 1 (times first us)) (nat_le 1 (times second us))
  where
    by : (a b : Bool) → (if not a || (not b || false) then MissingRequiredArgument ∷ [] else []) ≡ (if a && b then [] else MissingRequiredArgument ∷ [])
    by true true = refl
    by true false = refl
    by false true = refl
    by false false = refl

-- the rows are those of the uses, and the words are there that are wanted
pub last_rows : (k : Kind) (us : List Use) → fold with_default (rows us) (rules k) ≡ rows us
last_rows k us = unchanged (rules k) (rows us) (no_defaults k)

pub last_fault : (name : Text) (k : Kind) (us : List Use) → or_else (defaults_fault (rows us) (rules k)) (check_fault (sub k name) (fold with_default (rows us) (rules k)) false) ≡ wanted_fault k us
last_fault name k us =
    ap (λ z. or_else z (check_fault (sub k name) (fold with_default (rows us) (rules k)) false)) (faultless (rules k) (rows us) (no_defaults k))
    ∙ ap (λ z. check_fault (sub k name) z false) (last_rows k us)
    ∙ check_is name k us
