-- The faults of a use of a name, as far as they have a row, and how they are told one after another.
use Rattle.std.proofs.Common.{ℕ, suc, ◌+◌, arith, Bool, true, false, cond, List, [], ◌∷◌, ◌++◌, ◌≡◌, Option, refl, ap, ◌∙◌, append-nil, append_assoc}
use Rattle.jl_written.specs.declared.fault.Fault.{Fault}
use Rattle.jl_written.specs.declared.fault.StaticKind.{StaticKind}
use Rattle.jl_written.specs.declared.fault.StaticKind.TheVariants as kind
use Rattle.jl_resolve_forms.specs.declared.known.Known.{Known}
use Rattle.jl_resolve_forms.specs.TypesIn.{Tests}
use Rattle.jl_fault_laws.specs.Uses.{Use}
use Rattle.jl_fault_laws.specs.Rows.{unknown_name, unknown_function, unknown_type, too_many_arguments, rebound, duplicate, name_clash, too_many_sites, is_definition, definitions}
use Rattle.jl_fault_laws.specs.TypeRows.{refused_by}
use Rattle.jl_fault_laws.proofs.Firsts.{Tells, two, same, given}

-- a fault where a row holds
abbrev pub one : Bool → StaticKind → ℕ → List Fault
one true k at = record { at = at; kind = k } ∷ []
one false k at = []

-- those of the rows of names, of a use behind so many defined methods
abbrev pub named_faults : Known → ℕ → Use → List Fault
named_faults k n u = one (too_many_sites u.how n) kind.TooManySites u.at ++ (one (name_clash k u.how) kind.NameClash u.at
    ++ (one (rebound u.how u.visible) kind.Rebound u.at
    ++ (one (unknown_name u.how u.visible) kind.UnknownName u.at
    ++ (one (unknown_function k u.how u.visible) kind.UnknownFunction u.at
    ++ (one (unknown_type u.how u.visible) kind.UnknownType u.at
    ++ (one (duplicate u.how u.visible) kind.DuplicateType u.at ++ one (too_many_arguments k u.how u.visible) kind.TooManyArguments u.at))))))

abbrev pub faults_of : Tests → Known → ℕ → Use → List Fault
faults_of t k n u = given (refused_by t k u.how u.visible) u.at ++ named_faults k n u

-- how many are defined behind a use
abbrev pub next : Use → ℕ → ℕ
next u n = cond (is_definition u.how) (suc n) n

abbrev pub all_faults : Tests → Known → ℕ → List Use → List Fault
all_faults t k n [] = []
all_faults t k n (u ∷ us) = faults_of t k n u ++ all_faults t k (next u n) us

abbrev pub all_named : Known → ℕ → List Use → List Fault
all_named k n [] = []
all_named k n (u ∷ us) = named_faults k n u ++ all_named k (next u n) us

pub counted_on : (b : Bool) (n d : ℕ) → n + cond b (suc d) d ≡ cond b (suc n) n + d
counted_on true n d = omega arith
counted_on false n d = refl

pub none_more : (n : ℕ) → n + 0 ≡ n
none_more n = omega arith

pub faults_append : (t : Tests) (k : Known) (n : ℕ) (us vs : List Use) → all_faults t k n us ++ all_faults t k (n + definitions us) vs ≡ all_faults t k n (us ++ vs)
faults_append t k n [] vs = ap (λ m. all_faults t k m vs) (none_more n)
faults_append t k n (u ∷ us) vs = append_assoc (faults_of t k n u) (all_faults t k (next u n) us) (all_faults t k (n + definitions (u ∷ us)) vs)
    ∙ ap (λ m. faults_of t k n u ++ (all_faults t k (next u n) us ++ all_faults t k m vs)) (counted_on (is_definition u.how) n (definitions us))
    ∙ ap (λ x. faults_of t k n u ++ x) (faults_append t k (next u n) us vs)

pub definitions_append : (us vs : List Use) → definitions (us ++ vs) ≡ definitions us + definitions vs
definitions_append [] vs = omega arith
definitions_append (u ∷ us) vs = by (is_definition u.how) (definitions_append us vs)
  where
    by : (b : Bool) → definitions (us ++ vs) ≡ definitions us + definitions vs → cond b (suc (definitions (us ++ vs))) (definitions (us ++ vs)) ≡ cond b (suc (definitions us)) (definitions us) + definitions vs
    by true e = omega (arith, e)
    by false e = e

-- pairs of two lists, one by one
abbrev pub Pairs : {A B : Type 0} → (A → B → Type 0) → List A → List B → Type 0
Pairs P [] [] = Unit {0}
Pairs P (x ∷ xs) (y ∷ ys) = P x y × Pairs P xs ys
Pairs P [] (y ∷ ys) = ⊥
Pairs P (x ∷ xs) [] = ⊥

-- something without a fault after it
pub then_other : (fs : List Fault) (o r q : Option Fault) → Tells fs o r → Tells [] r q → Tells fs o q
then_other fs o r q a b = same (fs ++ []) fs o q (append-nil fs) (two fs [] o r q a b)

-- the faults of these uses are told, however many methods are defined before
abbrev pub TellsOf : Tests → Known → List Use → Option Fault → Option Fault → Type 0
TellsOf t k us o r = (n : ℕ) → Tells (all_faults t k n us) o r

pub joined : (t : Tests) (k : Known) (us vs : List Use) (o r q : Option Fault) → TellsOf t k us o r → TellsOf t k vs r q → TellsOf t k (us ++ vs) o q
joined t k us vs o r q a b n =
    same (all_faults t k n us ++ all_faults t k (n + definitions us) vs) (all_faults t k n (us ++ vs)) o q (faults_append t k n us vs) (two (all_faults t k n us) (all_faults t k (n + definitions us) vs) o r q (a n) (b (n + definitions us)))
