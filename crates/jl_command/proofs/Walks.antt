-- What a walk of `clap` over words makes of them: it fails, or its rows are the uses that the words are.
use Rattle.std.proofs.Common.{◌≡◌, ◌∙◌, ap, sym, subst, refl, ℕ, ◌+◌, ◌<◌, ◌≤◌, arith, Bool, true, false, ◌&&◌, ◌||◌, cond, nat_le, codes, List, [], ◌∷◌, ◌++◌, map, Option, None, Some, append-nil}
use Rattle.std.specs.Option.{option_map_or}
use Rattle.clap.specs.Facts.{explicit_source}
use Rattle.std.specs.Prelude.{bytes_eq, find, fold, if◌then◌else◌}
use Rattle.clap.specs.Walk.{Text, Rule, Row, Held, Walk, Waiting, idle, has_row, walked, walk_from, nothing_held, settled, settled_rows, at_row, without, more_values, with_values, finished, with_default}
use Rattle.clap.specs.Walk as W
use Rattle.clap.specs.Simple.{App, Shape, inherited, built_leaf, marked_built, with_leaf_noted}
use Rattle.clap.specs.Faults.{turn_fault, walk_fault, settle_fault, defaults_fault, check_fault, level_fault, repeat_fault}
use Rattle.clap.specs.Kinds.{Kinds, or_else}
use Rattle.clap.specs.Takes.{is_given}
use Rattle.clap.specs.declared.parser.matches.ValueSource.TheVariants.{CommandLine}
use Rattle.clap.specs.declared.builder.value_parser.Reading.TheVariants.{AsWritten}
use Rattle.clap.specs.declared.error.kind.ErrorKind.TheVariants.{ArgumentConflict}
use Rattle.clap.proofs.OnLiterals.{clap_on_literals}
use Rattle.jl_command.specs.App.{bare_app, optioned_app, numbered_app, asked_app, top_shape}
use Rattle.jl_command.specs.Rule.{Name, threads, fuel, first, second, Use, Kind, bare, optioned, numbered, asked, same, times, most, fits}

-- ---- the commands, as they are built

abbrev pub id_of : Name → Text
id_of threads = codes "threads"
id_of fuel = codes "fuel"
id_of first = codes "first"
id_of second = codes "second"

abbrev pub app_for : Kind → Text → App
app_for bare name = bare_app name
app_for optioned name = optioned_app name
app_for numbered name = numbered_app name
app_for asked name = asked_app name

abbrev pub sub : Kind → Text → Shape
sub k name = built_leaf (inherited (with_leaf_noted (marked_built (record top_shape { is_leaf = false }))) (app_for k name).top)

abbrev pub rules : Kind → List Rule
rules k = (sub k []).rules

-- ---- faults

abbrev pub Bad : Kinds → Type 0
Bad [] = ⊥
Bad (k ∷ ks) = Unit {0}

pub bad_first : (a b : Kinds) → Bad a → Bad (or_else a b)
bad_first [] b h = absurd h
bad_first (k ∷ ks) b h = tt

pub or_assoc : (a b c : Kinds) → or_else (or_else a b) c ≡ or_else a (or_else b c)
or_assoc [] b c = refl
or_assoc (k ∷ ks) b c = refl

pub good_first : (a b : Kinds) → a ≡ [] → or_else a b ≡ b
good_first a b h = ap (λ z. or_else z b) h

pub or_nil : (a : Kinds) → or_else a [] ≡ a
or_nil [] = refl
or_nil (k ∷ ks) = refl

-- ---- uses and rows

abbrev pub row : Use → Row
row u = record { id = id_of u.name; values = u.value ∷ []; count = None; source = Some CommandLine; reading = AsWritten }

abbrev pub rows : List Use → List Row
rows us = map row us

abbrev pub opt : Option Use → List Use
opt None = []
opt (Some u) = u ∷ []

pub times_append : (n : Name) (us vs : List Use) → times n (us ++ vs) ≡ times n us + times n vs
times_append n [] vs = omega arith
times_append n (u ∷ us) vs = by (same n u.name) (times_append n us vs)
  where
    by : (b : Bool) → times n (us ++ vs) ≡ times n us + times n vs → cond b (1 + times n (us ++ vs)) (times n (us ++ vs)) ≡ cond b (1 + times n us) (times n us) + times n vs
    by true e = omega (arith, e)
    by false e = e

pub same_ids : (n m : Name) → bytes_eq (id_of m) (id_of n) ≡ same n m
same_ids threads threads = refl
same_ids threads fuel = refl
same_ids threads first = refl
same_ids threads second = refl
same_ids fuel threads = refl
same_ids fuel fuel = refl
same_ids fuel first = refl
same_ids fuel second = refl
same_ids first threads = refl
same_ids first fuel = refl
same_ids first first = refl
same_ids first second = refl
same_ids second threads = refl
same_ids second fuel = refl
same_ids second first = refl
same_ids second second = refl

pub same_self : (n : Name) → same n n ≡ true
same_self threads = refl
same_self fuel = refl
same_self first = refl
same_self second = refl

pub has_is : (n : Name) (us : List Use) → has_row (id_of n) (rows us) ≡ nat_le 1 (times n us)
has_is n [] = refl
has_is n (u ∷ us) = ap (λ b. b || has_row (id_of n) (rows us)) (same_ids n u.name) ∙ by (same n u.name) (has_is n us)
  where
    by : (b : Bool) → has_row (id_of n) (rows us) ≡ nat_le 1 (times n us) → b || has_row (id_of n) (rows us) ≡ nat_le 1 (cond b (1 + times n us) (times n us))
    by true e = grind arith
    by false e = e

given_test : (id : Text) (us : List Use) → is_given id (rows us) ≡ has_row id (rows us)
given_test id [] = refl
given_test id (u ∷ us) = by (bytes_eq (id_of u.name) id) (given_test id us)
  where
    by : (b : Bool) → is_given id (rows us) ≡ has_row id (rows us)
        → option_map_or (λ (r : Row). explicit_source r.source) (if b then Some (row u) else find (λ (r : Row). bytes_eq r.id id) (rows us)) false ≡ b || has_row id (rows us)
    by true e = refl
    by false e = e

pub given_is : (n : Name) (us : List Use) → is_given (id_of n) (rows us) ≡ nat_le 1 (times n us)
given_is n us = given_test (id_of n) us ∙ has_is n us

at_row_absent : (id : Text) (change : Row → List Row) (missing rs : List Row) → has_row id rs ≡ false → at_row id change missing rs ≡ rs ++ missing
at_row_absent id change missing [] h = refl
at_row_absent id change missing (r ∷ rs) h = by (bytes_eq r.id id) h (at_row_absent id change missing rs)
  where
    by : (b : Bool) → b || has_row id rs ≡ false → (has_row id rs ≡ false → at_row id change missing rs ≡ rs ++ missing)
        → (if b then change r ++ rs else r ∷ at_row id change missing rs) ≡ r ∷ (rs ++ missing)
    by true h k = (let bad : true ≡ false = h in cc)
    by false h k = ap (λ zs. r ∷ zs) (k h)

-- a value of an option that stands nowhere yet goes to the end
pub new_row : (n : Name) (v : Text) (us : List Use) → times n us ≡ 0
    → with_values (id_of n) AsWritten CommandLine (v ∷ []) (without (id_of n) (rows us)) ≡ rows (us ++ record { name = n; value = v } ∷ [])
new_row n v us e =
    let absent : has_row (id_of n) (rows us) ≡ false = has_is n us ∙ grind (arith, e) in
    ap (with_values (id_of n) AsWritten CommandLine (v ∷ [])) (at_row_absent (id_of n) (λ r. []) [] (rows us) absent ∙ append-nil (rows us))
    ∙ at_row_absent (id_of n) (more_values CommandLine (v ∷ [])) (row (record { name = n; value = v }) ∷ []) (rows us) absent
    ∙ sym (map_append us)
  where
    map_append : (us : List Use) → rows (us ++ record { name = n; value = v } ∷ []) ≡ rows us ++ row (record { name = n; value = v }) ∷ []
    map_append [] = refl
    map_append (u ∷ us) = ap (λ zs. row u ∷ zs) (map_append us)

-- ---- what fits

-- an option, and not a word that stands for itself
abbrev pub IsOption : Name → Type 0
IsOption threads = Unit {0}
IsOption fuel = Unit {0}
IsOption first = ⊥
IsOption second = ⊥

pub and_false : (b : Bool) → b && false ≡ false
and_false true = refl
and_false false = refl

-- an option that stands too often does not fit
pub over : (k : Kind) (n : Name) → IsOption n → (us : List Use) → most k < times n us → fits k us ≡ false
over k threads o us l = let e : nat_le (times threads us) (most k) ≡ false = grind (arith, l) in ap (λ b. b && nat_le (times fuel us) (most k)) e
over k fuel o us l = let e : nat_le (times fuel us) (most k) ≡ false = grind (arith, l) in ap (λ b. nat_le (times threads us) (most k) && b) e ∙ and_false (nat_le (times threads us) (most k))
over k first o us l = absurd o
over k second o us l = absurd o

pub most_one : (k : Kind) → most k ≤ 1
most_one bare = omega arith
most_one optioned = omega arith
most_one numbered = omega arith
most_one asked = omega arith

-- a command that takes options
abbrev pub TakesOptions : Kind → Type 0
TakesOptions bare = ⊥
TakesOptions optioned = Unit {0}
TakesOptions numbered = Unit {0}
TakesOptions asked = Unit {0}

pub may_once : (k : Kind) → TakesOptions k → most k ≡ 1
may_once bare t = absurd t
may_once optioned t = refl
may_once numbered t = refl
may_once asked t = refl

-- a name that a command has
abbrev pub Has : Kind → Name → Type 0
Has bare n = ⊥
Has optioned threads = Unit {0}
Has optioned fuel = Unit {0}
Has optioned first = ⊥
Has optioned second = ⊥
Has numbered threads = Unit {0}
Has numbered fuel = Unit {0}
Has numbered first = Unit {0}
Has numbered second = ⊥
Has asked n = Unit {0}

pub has_option : (k : Kind) (n : Name) → TakesOptions k → IsOption n → Has k n
has_option bare n t o = absurd t
has_option optioned threads t o = tt
has_option optioned fuel t o = tt
has_option optioned first t o = absurd o
has_option optioned second t o = absurd o
has_option numbered threads t o = tt
has_option numbered fuel t o = tt
has_option numbered first t o = absurd o
has_option numbered second t o = absurd o
has_option asked n t o = tt

pub has_options : (k : Kind) (n : Name) → Has k n → TakesOptions k
has_options bare n h = absurd h
has_options optioned n h = tt
has_options numbered n h = tt
has_options asked n h = tt

-- ---- where a walk stands

-- uses that are done, and one more that has its value; or an option that waits for its value
pub data Point : Type 0 where
  between : List Use → Option Use → Point
  waits : List Use → Name → Point

abbrev pub pend : Option Use → Option (Text × List Text)
pend None = None
pend (Some u) = Some (id_of u.name, u.value ∷ [])

abbrev pub held : List Use → Option (Text × List Text) → Held
held us p = record { rows = rows us; pending = p; skip = 0 }

abbrev pub walk_at : ℕ → Held → Waiting → Walk
walk_at place h w = record { held = h; waiting = w; position = place; is_trailing = false; stopped = None }

abbrev pub state : ℕ → Point → Walk
state place (between us p) = walk_at place (held us (pend p)) idle
state place (waits us n) = walk_at place (held us (Some (id_of n, []))) (W.option (id_of n))

abbrev pub done : Point → List Use
done (between us p) = us ++ opt p
done (waits us n) = us

module _ (name : Text) where
  abbrev pub last : Kind → Walk → Kinds
  last k w =
      or_else (settle_fault (rules k) false w.held)
      (or_else (defaults_fault (settled (rules k) w.held).rows (rules k)) (check_fault (sub k name) (finished (rules k) w.held) false))

  abbrev pub whole : Kind → Walk → List Text → Kinds
  whole k w ws = or_else (walk_fault (sub k name) [] w ws) (last k (fold (walked (rules k) []) w ws))

  abbrev pub ends : Kind → Walk → List Text → List Row
  ends k w ws = finished (rules k) (fold (walked (rules k) []) w ws).held

  pub level_is : (k : Kind) (ws : List Text) → level_fault (sub k name) [] nothing_held ws false [] ≡ whole k (state 1 (between [] None)) ws
  level_is bare ws = refl
  level_is optioned ws = refl
  level_is numbered ws = refl
  level_is asked ws = refl

  pub whole_step : (k : Kind) (w : Walk) (x : Text) (xs : List Text) → whole k w (x ∷ xs) ≡ or_else (turn_fault (sub k name) [] w x) (whole k (walked (rules k) [] w x) xs)
  unfolding clap_on_literals
  whole_step bare w x xs = or_assoc (turn_fault (sub bare name) [] w x) (walk_fault (sub bare name) [] (walked (rules bare) [] w x) xs) _
  whole_step optioned w x xs = or_assoc (turn_fault (sub optioned name) [] w x) (walk_fault (sub optioned name) [] (walked (rules optioned) [] w x) xs) _
  whole_step numbered w x xs = or_assoc (turn_fault (sub numbered name) [] w x) (walk_fault (sub numbered name) [] (walked (rules numbered) [] w x) xs) _
  whole_step asked w x xs = or_assoc (turn_fault (sub asked name) [] w x) (walk_fault (sub asked name) [] (walked (rules asked) [] w x) xs) _

-- ---- a use that is pending is done

-- no option stands more often than it may
abbrev pub Within : Kind → List Use → Type 0
Within k us = (times threads us ≤ most k) × (times fuel us ≤ most k)

once_more : (k : Kind) (n : Name) (u : Use) (us : List Use) → most k ≡ 1 → (same n u.name ≡ true → times n us ≡ 0) → times n us ≤ most k → times n (us ++ u ∷ []) ≤ most k
once_more k n u us l z w = by (same n u.name) refl z
  where
    by : (b : Bool) → same n u.name ≡ b → (b ≡ true → times n us ≡ 0) → times n (us ++ u ∷ []) ≤ most k
    by true e z =
        let one : times n (u ∷ []) ≡ 1 = ap (λ (b : Bool). cond b (1 + 0) 0) e in
        let none = z refl in
        omega (arith, times_append n us (u ∷ []), one, none, l)
    by false e z =
        let none : times n (u ∷ []) ≡ 0 = ap (λ (b : Bool). cond b (1 + 0) 0) e in
        omega (arith, times_append n us (u ∷ []), none, w)

same_name : (n m : Name) → same n m ≡ true → n ≡ m
same_name threads threads h = refl
same_name threads fuel h = cc
same_name threads first h = cc
same_name threads second h = cc
same_name fuel threads h = cc
same_name fuel fuel h = refl
same_name fuel first h = cc
same_name fuel second h = cc
same_name first threads h = cc
same_name first fuel h = cc
same_name first first h = refl
same_name first second h = cc
same_name second threads h = cc
same_name second fuel h = cc
same_name second first h = cc
same_name second second h = refl

pub within_more : (k : Kind) (u : Use) (us : List Use) → most k ≡ 1 → times u.name us ≡ 0 → Within k us → Within k (us ++ u ∷ [])
within_more k u us l z w = (
  once_more k threads u us l (λ e. subst (λ (n : Name). times n us ≡ 0) (sym (same_name threads u.name e)) z) w.0,
  once_more k fuel u us l (λ e. subst (λ (n : Name). times n us ≡ 0) (sym (same_name fuel u.name e)) z) w.1,
)

-- it takes its place at the end, or it is an option that stands twice
pub data Settles (k : Kind) (us : List Use) (p : Option Use) : Type 0 where
  settles : settle_fault (rules k) false (held us (pend p)) ≡ [] → settled (rules k) (held us (pend p)) ≡ held (us ++ opt p) None → (Within k us → Within k (us ++ opt p)) → Settles k us p
  repeats : Bad (settle_fault (rules k) false (held us (pend p))) → (n : Name) → IsOption n → 1 < times n (us ++ opt p) → Settles k us p

-- a word that stands for itself is given once for its name
abbrev pub IsNew : Name → List Use → Type 0
IsNew threads us = Unit {0}
IsNew fuel us = Unit {0}
IsNew first us = times first us ≡ 0
IsNew second us = times second us ≡ 0

abbrev pub Allowed : Kind → List Use → Option Use → Type 0
Allowed k us None = Unit {0}
Allowed k us (Some u) = Has k u.name × IsNew u.name us

pub option_is_new : (n : Name) (us : List Use) → IsOption n → IsNew n us
option_is_new threads us o = tt
option_is_new fuel us o = tt
option_is_new first us o = absurd o
option_is_new second us o = absurd o

settled_fault : (k : Kind) (n : Name) (v : Text) (us : List Use) → Has k n
    → settle_fault (rules k) false (held us (Some (id_of n, v ∷ []))) ≡ or_else (repeat_fault false (id_of n) (rows us)) []
settled_fault bare n v us h = absurd h
settled_fault optioned threads v us h = refl
settled_fault optioned fuel v us h = refl
settled_fault optioned first v us h = absurd h
settled_fault optioned second v us h = absurd h
settled_fault numbered threads v us h = refl
settled_fault numbered fuel v us h = refl
settled_fault numbered first v us h = refl
settled_fault numbered second v us h = absurd h
settled_fault asked threads v us h = refl
settled_fault asked fuel v us h = refl
settled_fault asked first v us h = refl
settled_fault asked second v us h = refl

settled_is : (k : Kind) (n : Name) (v : Text) (us : List Use) → Has k n
    → settled_rows (rules k) (Some (id_of n, v ∷ [])) (rows us) ≡ with_values (id_of n) AsWritten CommandLine (v ∷ []) (without (id_of n) (rows us))
settled_is bare n v us h = absurd h
settled_is optioned threads v us h = refl
settled_is optioned fuel v us h = refl
settled_is optioned first v us h = absurd h
settled_is optioned second v us h = absurd h
settled_is numbered threads v us h = refl
settled_is numbered fuel v us h = refl
settled_is numbered first v us h = refl
settled_is numbered second v us h = absurd h
settled_is asked threads v us h = refl
settled_is asked fuel v us h = refl
settled_is asked first v us h = refl
settled_is asked second v us h = refl

pub repeat_is : (n : Name) (us : List Use) (b : Bool) → nat_le 1 (times n us) ≡ b → repeat_fault false (id_of n) (rows us) ≡ (if b && true then ArgumentConflict ∷ [] else [])
repeat_is n us b e = ap (λ z. if z && true then ArgumentConflict ∷ [] else []) (has_is n us ∙ e)

-- a name that stands already is that of an option
is_option : (n : Name) (us : List Use) → IsNew n us → nat_le 1 (times n us) ≡ true → IsOption n
is_option threads us w e = tt
is_option fuel us w e = tt
is_option first us w e = absurd (grind (arith, w, e))
is_option second us w e = absurd (grind (arith, w, e))

pub settle : (k : Kind) (us : List Use) (p : Option Use) → Allowed k us p → Settles k us p
settle k us None l = settles refl (ap (λ zs. held zs None) (sym (append-nil us))) (λ w. subst (Within k) (sym (append-nil us)) w)
settle k us (Some u) (l, new) = by (nat_le 1 (times u.name us)) refl
  where
    by : (b : Bool) → nat_le 1 (times u.name us) ≡ b → Settles k us (Some u)
    by true e =
        let told = settled_fault k u.name u.value us l ∙ ap (λ z. or_else z []) (repeat_is u.name us true e) in
        repeats (subst Bad (sym told) tt) u.name (is_option u.name us new e)
        (let one : times u.name (u ∷ []) ≡ 1 = ap (λ (b : Bool). cond b (1 + 0) 0) (same_self u.name) in grind (arith, e, one, times_append u.name us (u ∷ [])))
    by false e =
        let told = settled_fault k u.name u.value us l ∙ ap (λ z. or_else z []) (repeat_is u.name us false e) in
        let none : times u.name us ≡ 0 = grind (arith, e) in
        settles told (ap (λ zs. record { rows = zs; pending = None; skip = 0 }) (settled_is k u.name u.value us l ∙ new_row u.name u.value us none))
        (within_more k u us (may_once k (has_options k u.name l)) none)
