-- The rows of the table: what is told of a script, and where each row holds.
use Rattle.std.proofs.Common.{ℕ, ◌+◌, arith, Bool, true, false, true≢false, List, [], ◌∷◌, ◌++◌, ◌≡◌, ◌⊎◌, inl, inr, Option, Some, None, refl, sym, ap, subst, ◌∙◌}
use Rattle.jl_grammar.specs.declared.tree.Item.{Item}
use Rattle.jl_formed.specs.Formed.{FormedItems}
use Rattle.jl_written.specs.declared.fault.Fault.{Fault}
use Rattle.jl_written.specs.declared.fault.StaticKind.{StaticKind}
use Rattle.jl_written.specs.declared.fault.StaticKind.TheVariants as kind
use Rattle.jl_resolve_forms.specs.declared.known.Known.{Known}
use Rattle.jl_resolve_forms.specs.Top.{resolve}
use Rattle.jl_resolve_forms.specs.TypesIn.{Tests}
use Rattle.jl_fault_laws.specs.Uses.{Use, names_told, uses_of}
use Rattle.jl_fault_laws.specs.Rows.{unknown_name, unknown_function, unknown_type, too_many_arguments, rebound, duplicate, name_clash, too_many_sites, is_definition, definitions, holds, has_row, HoldsIn, HoldsAt, IsReportedBy, TellTypes}
use Rattle.jl_fault_laws.specs.TypeRows.{refused_by, RefusedIn, RefusedAt}
use Rattle.jl_fault_laws.proofs.Firsts.{In, in_left, in_right, in_either, given, only_found}
use Rattle.jl_fault_laws.proofs.Order.{least_rows}
use Rattle.jl_fault_laws.proofs.Faults.{one, named_faults, faults_of, all_faults, all_named, next, counted_on, none_more}
use Rattle.jl_fault_laws.proofs.Others.{refused_other}
use Rattle.jl_fault_laws.proofs.Texts.{are_told}
use Rattle.jl_fault_laws.proofs.Trees.{script_told}

-- ---- a fault of a use, and the row that holds of it

in_one : (b : Bool) (k : StaticKind) (at : ℕ) → b ≡ true → In (record { at = at; kind = k }) (one b k at)
in_one true k at e = inl refl
in_one false k at e = absurd (true≢false (sym e))

one_is : (b : Bool) (k : StaticKind) (at : ℕ) (f : Fault) → In f (one b k at) → (b ≡ true) × (f ≡ record { at = at; kind = k })
one_is true k at f (inl e) = (refl, e)
one_is true k at f (inr i) = absurd i
one_is false k at f i = absurd i

-- the row of a fault holds of a use behind so many defined methods, and the fault is there
abbrev IsOf : Known → ℕ → Use → Fault → Type 0
IsOf k n u f = (u.at ≡ f.at) × (holds k f.kind u.how u.visible n ≡ true)

one_of : (k : Known) (n : ℕ) (u : Use) (f : Fault) (x : StaticKind) (b : Bool) → holds k x u.how u.visible n ≡ b → In f (one b x u.at) → IsOf k n u f
one_of k n u f x b h i =
    let r = one_is b x u.at f i in
    (ap (λ (y : Fault). y.at) (sym r.1), subst (λ (y : Fault). holds k y.kind u.how u.visible n ≡ true) (sym r.1) (h ∙ r.0))

-- the faults of a use, from each row on
abbrev from_arguments : Known → ℕ → Use → List Fault
from_arguments k n u = one (too_many_arguments k u.how u.visible) kind.TooManyArguments u.at

abbrev from_duplicate : Known → ℕ → Use → List Fault
from_duplicate k n u = one (duplicate u.how u.visible) kind.DuplicateType u.at ++ from_arguments k n u

abbrev from_type : Known → ℕ → Use → List Fault
from_type k n u = one (unknown_type u.how u.visible) kind.UnknownType u.at ++ from_duplicate k n u

abbrev from_function : Known → ℕ → Use → List Fault
from_function k n u = one (unknown_function k u.how u.visible) kind.UnknownFunction u.at ++ from_type k n u

abbrev from_name : Known → ℕ → Use → List Fault
from_name k n u = one (unknown_name u.how u.visible) kind.UnknownName u.at ++ from_function k n u

abbrev from_rebound : Known → ℕ → Use → List Fault
from_rebound k n u = one (rebound u.how u.visible) kind.Rebound u.at ++ from_name k n u

abbrev from_clash : Known → ℕ → Use → List Fault
from_clash k n u = one (name_clash k u.how) kind.NameClash u.at ++ from_rebound k n u

of_duplicate : (k : Known) (n : ℕ) (u : Use) (f : Fault) → In f (from_duplicate k n u) → IsOf k n u f
of_duplicate k n u f i = by (in_either f (one (duplicate u.how u.visible) kind.DuplicateType u.at) (from_arguments k n u) i)
  where
    by : In f (one (duplicate u.how u.visible) kind.DuplicateType u.at) ⊎ In f (from_arguments k n u) → IsOf k n u f
    by (inl j) = one_of k n u f kind.DuplicateType (duplicate u.how u.visible) refl j
    by (inr j) = one_of k n u f kind.TooManyArguments (too_many_arguments k u.how u.visible) refl j

of_type : (k : Known) (n : ℕ) (u : Use) (f : Fault) → In f (from_type k n u) → IsOf k n u f
of_type k n u f i = by (in_either f (one (unknown_type u.how u.visible) kind.UnknownType u.at) (from_duplicate k n u) i)
  where
    by : In f (one (unknown_type u.how u.visible) kind.UnknownType u.at) ⊎ In f (from_duplicate k n u) → IsOf k n u f
    by (inl j) = one_of k n u f kind.UnknownType (unknown_type u.how u.visible) refl j
    by (inr j) = of_duplicate k n u f j

of_function : (k : Known) (n : ℕ) (u : Use) (f : Fault) → In f (from_function k n u) → IsOf k n u f
of_function k n u f i = by (in_either f (one (unknown_function k u.how u.visible) kind.UnknownFunction u.at) (from_type k n u) i)
  where
    by : In f (one (unknown_function k u.how u.visible) kind.UnknownFunction u.at) ⊎ In f (from_type k n u) → IsOf k n u f
    by (inl j) = one_of k n u f kind.UnknownFunction (unknown_function k u.how u.visible) refl j
    by (inr j) = of_type k n u f j

of_name : (k : Known) (n : ℕ) (u : Use) (f : Fault) → In f (from_name k n u) → IsOf k n u f
of_name k n u f i = by (in_either f (one (unknown_name u.how u.visible) kind.UnknownName u.at) (from_function k n u) i)
  where
    by : In f (one (unknown_name u.how u.visible) kind.UnknownName u.at) ⊎ In f (from_function k n u) → IsOf k n u f
    by (inl j) = one_of k n u f kind.UnknownName (unknown_name u.how u.visible) refl j
    by (inr j) = of_function k n u f j

of_rebound : (k : Known) (n : ℕ) (u : Use) (f : Fault) → In f (from_rebound k n u) → IsOf k n u f
of_rebound k n u f i = by (in_either f (one (rebound u.how u.visible) kind.Rebound u.at) (from_name k n u) i)
  where
    by : In f (one (rebound u.how u.visible) kind.Rebound u.at) ⊎ In f (from_name k n u) → IsOf k n u f
    by (inl j) = one_of k n u f kind.Rebound (rebound u.how u.visible) refl j
    by (inr j) = of_name k n u f j

of_clash : (k : Known) (n : ℕ) (u : Use) (f : Fault) → In f (from_clash k n u) → IsOf k n u f
of_clash k n u f i = by (in_either f (one (name_clash k u.how) kind.NameClash u.at) (from_rebound k n u) i)
  where
    by : In f (one (name_clash k u.how) kind.NameClash u.at) ⊎ In f (from_rebound k n u) → IsOf k n u f
    by (inl j) = one_of k n u f kind.NameClash (name_clash k u.how) refl j
    by (inr j) = of_rebound k n u f j

of_names : (k : Known) (n : ℕ) (u : Use) (f : Fault) → In f (named_faults k n u) → IsOf k n u f
of_names k n u f i = by (in_either f (one (too_many_sites u.how n) kind.TooManySites u.at) (from_clash k n u) i)
  where
    by : In f (one (too_many_sites u.how n) kind.TooManySites u.at) ⊎ In f (from_clash k n u) → IsOf k n u f
    by (inl j) = one_of k n u f kind.TooManySites (too_many_sites u.how n) refl j
    by (inr j) = of_clash k n u f j

-- one of some uses, behind those before it
pub record Found (k : Known) (n : ℕ) (us : List Use) (f : Fault) : Type 0 where
  pub before : List Use
  pub use_ : Use
  pub behind : List Use
  pub is : us ≡ before ++ use_ ∷ behind
  pub of : IsOf k (n + definitions before) use_ f

some_use : (k : Known) (n : ℕ) (us : List Use) (f : Fault) → In f (all_named k n us) → Found k n us f
some_use k n [] f i = absurd i
some_use k n (u ∷ us) f i = by (λ j. some_use k (next u n) us f j) (in_either f (named_faults k n u) (all_named k (next u n) us) i)
  where
    by : (In f (all_named k (next u n) us) → Found k (next u n) us f) → In f (named_faults k n u) ⊎ In f (all_named k (next u n) us) → Found k n (u ∷ us) f
    by later (inl j) = record { before = []; use_ = u; behind = us; is = refl; of = subst (λ m. IsOf k m u f) (sym (none_more n)) (of_names k n u f j) }
    by later (inr j) =
        let r = later j in
        record { before = u ∷ r.before; use_ = r.use_; behind = r.behind; is = ap (λ x. u ∷ x) r.is; of = subst (λ m. IsOf k m r.use_ f) (sym (counted_on (is_definition u.how) n (definitions r.before))) r.of }

-- where a row holds its fault is among those of the use
behind_sites : (k : Known) (n : ℕ) (u : Use) (f : Fault) → In f (from_clash k n u) → In f (named_faults k n u)
behind_sites k n u f i = in_right f (one (too_many_sites u.how n) kind.TooManySites u.at) (from_clash k n u) i

behind_clash : (k : Known) (n : ℕ) (u : Use) (f : Fault) → In f (from_rebound k n u) → In f (named_faults k n u)
behind_clash k n u f i = behind_sites k n u f (in_right f (one (name_clash k u.how) kind.NameClash u.at) (from_rebound k n u) i)

behind_rebound : (k : Known) (n : ℕ) (u : Use) (f : Fault) → In f (from_name k n u) → In f (named_faults k n u)
behind_rebound k n u f i = behind_clash k n u f (in_right f (one (rebound u.how u.visible) kind.Rebound u.at) (from_name k n u) i)

behind_name : (k : Known) (n : ℕ) (u : Use) (f : Fault) → In f (from_function k n u) → In f (named_faults k n u)
behind_name k n u f i = behind_rebound k n u f (in_right f (one (unknown_name u.how u.visible) kind.UnknownName u.at) (from_function k n u) i)

behind_function : (k : Known) (n : ℕ) (u : Use) (f : Fault) → In f (from_type k n u) → In f (named_faults k n u)
behind_function k n u f i = behind_name k n u f (in_right f (one (unknown_function k u.how u.visible) kind.UnknownFunction u.at) (from_type k n u) i)

behind_type : (k : Known) (n : ℕ) (u : Use) (f : Fault) → In f (from_duplicate k n u) → In f (named_faults k n u)
behind_type k n u f i = behind_function k n u f (in_right f (one (unknown_type u.how u.visible) kind.UnknownType u.at) (from_duplicate k n u) i)

behind_duplicate : (k : Known) (n : ℕ) (u : Use) (f : Fault) → In f (from_arguments k n u) → In f (named_faults k n u)
behind_duplicate k n u f i = behind_type k n u f (in_right f (one (duplicate u.how u.visible) kind.DuplicateType u.at) (from_arguments k n u) i)

fault_by : (k : Known) (n : ℕ) (u : Use) (x : StaticKind) → holds k x u.how u.visible n ≡ true → In (record { at = u.at; kind = x }) (named_faults k n u)
fault_by k n u kind.TooManySites h = in_left _ (one (too_many_sites u.how n) kind.TooManySites u.at) (from_clash k n u) (in_one (too_many_sites u.how n) kind.TooManySites u.at h)
fault_by k n u kind.NameClash h = behind_sites k n u _ (in_left _ (one (name_clash k u.how) kind.NameClash u.at) (from_rebound k n u) (in_one (name_clash k u.how) kind.NameClash u.at h))
fault_by k n u kind.Rebound h = behind_clash k n u _ (in_left _ (one (rebound u.how u.visible) kind.Rebound u.at) (from_name k n u) (in_one (rebound u.how u.visible) kind.Rebound u.at h))
fault_by k n u kind.UnknownName h = behind_rebound k n u _ (in_left _ (one (unknown_name u.how u.visible) kind.UnknownName u.at) (from_function k n u) (in_one (unknown_name u.how u.visible) kind.UnknownName u.at h))
fault_by k n u kind.UnknownFunction h = behind_name k n u _ (in_left _ (one (unknown_function k u.how u.visible) kind.UnknownFunction u.at) (from_type k n u) (in_one (unknown_function k u.how u.visible) kind.UnknownFunction u.at h))
fault_by k n u kind.UnknownType h = behind_function k n u _ (in_left _ (one (unknown_type u.how u.visible) kind.UnknownType u.at) (from_duplicate k n u) (in_one (unknown_type u.how u.visible) kind.UnknownType u.at h))
fault_by k n u kind.DuplicateType h = behind_type k n u _ (in_left _ (one (duplicate u.how u.visible) kind.DuplicateType u.at) (from_arguments k n u) (in_one (duplicate u.how u.visible) kind.DuplicateType u.at h))
fault_by k n u kind.TooManyArguments h = behind_duplicate k n u _ (in_one (too_many_arguments k u.how u.visible) kind.TooManyArguments u.at h)
fault_by k n u _ h = absurd (true≢false (sym h))

fault_of : (k : Known) (n : ℕ) (u : Use) (f : Fault) → u.at ≡ f.at → holds k f.kind u.how u.visible n ≡ true → In f (named_faults k n u)
fault_of k n u f e h = subst (λ a. In (record { at = a; kind = f.kind }) (named_faults k n u)) e (fault_by k n u f.kind h)

among : (k : Known) (n : ℕ) (before : List Use) (u : Use) (behind : List Use) (f : Fault) → u.at ≡ f.at → holds k f.kind u.how u.visible (n + definitions before) ≡ true → In f (all_named k n (before ++ u ∷ behind))
among k n [] u behind f e h = in_left f (named_faults k n u) (all_named k (next u n) behind) (fault_of k n u f e (subst (λ m. holds k f.kind u.how u.visible m ≡ true) (none_more n) h))
among k n (w ∷ before) u behind f e h = in_right f (named_faults k n w) (all_named k (next w n) (before ++ u ∷ behind))
    (among k (next w n) before u behind f e (subst (λ m. holds k f.kind u.how u.visible m ≡ true) (counted_on (is_definition w.how) n (definitions before)) h))

from_zero : (n : ℕ) → 0 + n ≡ n
from_zero n = omega arith

pub among_holds : (k : Known) (us : List Use) (f : Fault) → In f (all_named k 0 us) → HoldsIn k us f
among_holds k us f i =
    let u = some_use k 0 us f i in
    let o = u.of in
    record { before = u.before; use_ = u.use_; behind = u.behind; is = u.is; place = o.0; row = subst (λ m. holds k f.kind u.use_.how u.use_.visible m ≡ true) (from_zero (definitions u.before)) o.1 }

pub holds_among : (k : Known) (us : List Use) (f : Fault) → HoldsIn k us f → In f (all_named k 0 us)
holds_among k us f h =
    subst (λ x. In f (all_named k 0 x)) (sym h.is)
    (among k 0 h.before h.use_ h.behind f h.place (subst (λ m. holds k f.kind h.use_.how h.use_.visible m ≡ true) (sym (from_zero (definitions h.before))) h.row))

-- ---- the faults of names, and the uses that are refused for their types

given_is : (o : Option StaticKind) (at : ℕ) (f : Fault) → In f (given o at) → (at ≡ f.at) × (o ≡ Some f.kind)
given_is None at f i = absurd i
given_is (Some x) at f (inl e) = (ap (λ (y : Fault). y.at) (sym e), ap (λ (y : Fault). Some y.kind) (sym e))
given_is (Some x) at f (inr i) = absurd i

in_given : (o : Option StaticKind) (at : ℕ) (f : Fault) → at ≡ f.at → o ≡ Some f.kind → In f (given o at)
in_given o at f e h = subst (λ x. In f (given x at)) (sym h) (inl (ap (λ a. let g : Fault = record { at = a; kind = f.kind } in g) (sym e)))

module _ (t : Tests) (k : Known) where
  refused_more : (u : Use) (us : List Use) (f : Fault) → RefusedIn t k us f → RefusedIn t k (u ∷ us) f
  refused_more u us f r = record { before = u ∷ r.before; use_ = r.use_; behind = r.behind; is = ap (λ x. u ∷ x) r.is; place = r.place; row = r.row }

  pub either : (n : ℕ) (us : List Use) (f : Fault) → In f (all_faults t k n us) → In f (all_named k n us) ⊎ RefusedIn t k us f
  either n [] f i = absurd i
  either n (u ∷ us) f i = by (λ j. either (next u n) us f j) (in_either f (faults_of t k n u) (all_faults t k (next u n) us) i)
    where
      rest : In f (all_named k (next u n) us) ⊎ RefusedIn t k us f → In f (all_named k n (u ∷ us)) ⊎ RefusedIn t k (u ∷ us) f
      rest (inl j) = inl (in_right f (named_faults k n u) (all_named k (next u n) us) j)
      rest (inr r) = inr (refused_more u us f r)

      here : In f (given (refused_by t k u.how u.visible) u.at) ⊎ In f (named_faults k n u) → In f (all_named k n (u ∷ us)) ⊎ RefusedIn t k (u ∷ us) f
      here (inl j) = let g = given_is (refused_by t k u.how u.visible) u.at f j in inr (record { before = []; use_ = u; behind = us; is = refl; place = g.0; row = g.1 })
      here (inr j) = inl (in_left f (named_faults k n u) (all_named k (next u n) us) j)

      by : (In f (all_faults t k (next u n) us) → In f (all_named k (next u n) us) ⊎ RefusedIn t k us f) → In f (faults_of t k n u) ⊎ In f (all_faults t k (next u n) us) → In f (all_named k n (u ∷ us)) ⊎ RefusedIn t k (u ∷ us) f
      by more (inl j) = here (in_either f (given (refused_by t k u.how u.visible) u.at) (named_faults k n u) j)
      by more (inr j) = rest (more j)

  pub named_among : (n : ℕ) (us : List Use) (f : Fault) → In f (all_named k n us) → In f (all_faults t k n us)
  named_among n [] f i = i
  named_among n (u ∷ us) f i = by (λ j. named_among (next u n) us f j) (in_either f (named_faults k n u) (all_named k (next u n) us) i)
    where
      by : (In f (all_named k (next u n) us) → In f (all_faults t k (next u n) us)) → In f (named_faults k n u) ⊎ In f (all_named k (next u n) us) → In f (all_faults t k n (u ∷ us))
      by more (inl j) = in_left f (faults_of t k n u) (all_faults t k (next u n) us) (in_right f (given (refused_by t k u.how u.visible) u.at) (named_faults k n u) j)
      by more (inr j) = in_right f (faults_of t k n u) (all_faults t k (next u n) us) (more j)

  refused_there : (n : ℕ) (before : List Use) (u : Use) (behind : List Use) (f : Fault) → u.at ≡ f.at → refused_by t k u.how u.visible ≡ Some f.kind → In f (all_faults t k n (before ++ u ∷ behind))
  refused_there n [] u behind f e h = in_left f (faults_of t k n u) (all_faults t k (next u n) behind) (in_left f (given (refused_by t k u.how u.visible) u.at) (named_faults k n u) (in_given (refused_by t k u.how u.visible) u.at f e h))
  refused_there n (w ∷ before) u behind f e h = in_right f (faults_of t k n w) (all_faults t k (next w n) (before ++ u ∷ behind)) (refused_there (next w n) before u behind f e h)

  pub refused_among : (n : ℕ) (us : List Use) (f : Fault) → RefusedIn t k us f → In f (all_faults t k n us)
  refused_among n us f h = subst (λ x. In f (all_faults t k n x)) (sym h.is) (refused_there n h.before h.use_ h.behind f h.place h.row)

-- where tests answer by faults of types, a fault of a row of names is no refusal for types
pub only_names : (t : Tests) → TellTypes t → (k : Known) (us : List Use) (f : Fault) → has_row f.kind ≡ true → RefusedIn t k us f → ⊥
only_names t q k us f r h = true≢false (sym r ∙ refused_other t k q h.use_.how h.use_.visible f.kind h.row)

-- ---- of a script

module _ (t : Tests) (k : Known) (items : List Item) (o : Option Fault) (fs : FormedItems items) where
  abbrev uses : List Use
  uses = uses_of (names_told k) items

  pub types_only : (f : Fault) → (resolve t k items o).fault ≡ Some f → (o ≡ Some f) ⊎ HoldsAt k items f ⊎ RefusedAt t k items f
  types_only f e = by (only_found (all_faults t k 0 uses) o (resolve t k items o).fault (script_told t k (are_told t k) items fs o) f e)
    where
      last : In f (all_named k 0 uses) ⊎ RefusedIn t k uses f → HoldsAt k items f ⊎ RefusedAt t k items f
      last (inl i) = inl (among_holds k uses f i)
      last (inr r) = inr r

      by : (o ≡ Some f) ⊎ In f (all_faults t k 0 uses) → (o ≡ Some f) ⊎ HoldsAt k items f ⊎ RefusedAt t k items f
      by (inl p) = inl p
      by (inr i) = inr (last (either t k 0 uses f i))

  each_least : (f : Fault) → In f (all_faults t k 0 uses) → IsReportedBy (resolve t k items o).fault f
  each_least f i = least_rows (all_faults t k 0 uses) o (resolve t k items o).fault (script_told t k (are_told t k) items fs o) f i

  pub types_least : (f : Fault) → RefusedAt t k items f → IsReportedBy (resolve t k items o).fault f
  types_least f h = each_least f (refused_among t k 0 uses f h)

pub rows_only : (t : Tests) → TellTypes t → (k : Known) (items : List Item) (o : Option Fault) → FormedItems items → (f : Fault) → has_row f.kind ≡ true →
    (resolve t k items o).fault ≡ Some f → (o ≡ Some f) ⊎ HoldsAt k items f
rows_only t q k items o fs f r e = by (types_only t k items o fs f e)
  where
    by : (o ≡ Some f) ⊎ HoldsAt k items f ⊎ RefusedAt t k items f → (o ≡ Some f) ⊎ HoldsAt k items f
    by (inl p) = inl p
    by (inr (inl h)) = inr h
    by (inr (inr h)) = absurd (only_names t q k (uses_of (names_told k) items) f r h)

pub rows_least : (t : Tests) → TellTypes t → (k : Known) (items : List Item) (o : Option Fault) → FormedItems items → (f : Fault) → HoldsAt k items f → IsReportedBy (resolve t k items o).fault f
rows_least t q k items o fs f h =
    let us = uses_of (names_told k) items in
    each_least t k items o fs f (named_among t k 0 us f (holds_among k us f h))
