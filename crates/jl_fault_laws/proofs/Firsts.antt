-- The first of several faults.
use Rattle.std.proofs.Common.{ℕ, Bool, true, false, cond, List, [], ◌∷◌, ◌++◌, ◌≡◌, ◌⊎◌, inl, inr, Option, Some, None, refl, sym, ap, subst, ◌∙◌}
use Rattle.jl_written.specs.declared.fault.Fault.{Fault}
use Rattle.jl_written.specs.declared.fault.StaticKind.{StaticKind}
use Rattle.jl_written.specs.Answered.{comes_before, first_of}
use Rattle.jl_resolve_forms.specs.declared.state.State.{State}
use Rattle.jl_resolve_forms.specs.Scopes.{note_if}

-- it is one of a list
abbrev pub In : {A : Type 0} → A → List A → Type 0
In x [] = ⊥
In x (y ∷ ys) = (x ≡ y) ⊎ In x ys

-- the first of a fault and others
abbrev pub firsts : Option Fault → List Fault → Option Fault
firsts o [] = o
firsts o (f ∷ fs) = firsts (first_of o f) fs

firsts_append : (o : Option Fault) (fs gs : List Fault) → firsts o (fs ++ gs) ≡ firsts (firsts o fs) gs
firsts_append o [] gs = refl
firsts_append o (f ∷ fs) gs = firsts_append (first_of o f) fs gs

pub in_left : {A : Type 0} (x : A) (xs ys : List A) → In x xs → In x (xs ++ ys)
in_left x [] ys i = absurd i
in_left x (z ∷ xs) ys (inl e) = inl e
in_left x (z ∷ xs) ys (inr i) = inr (in_left x xs ys i)

pub in_right : {A : Type 0} (x : A) (xs ys : List A) → In x ys → In x (xs ++ ys)
in_right x [] ys i = i
in_right x (z ∷ xs) ys i = inr (in_right x xs ys i)

pub in_either : {A : Type 0} (x : A) (xs ys : List A) → In x (xs ++ ys) → In x xs ⊎ In x ys
in_either x [] ys i = inr i
in_either x (z ∷ xs) ys (inl e) = inl (inl e)
in_either x (z ∷ xs) ys (inr i) = by (in_either x xs ys i)
  where
    by : In x xs ⊎ In x ys → In x (z ∷ xs) ⊎ In x ys
    by (inl j) = inl (inr j)
    by (inr j) = inr j

in_swapped : {A : Type 0} (x : A) (xs ys : List A) → In x (xs ++ ys) → In x (ys ++ xs)
in_swapped x xs ys i = by (in_either x xs ys i)
  where
    by : In x xs ⊎ In x ys → In x (ys ++ xs)
    by (inl j) = in_right x ys xs j
    by (inr j) = in_left x ys xs j

in_both : {A : Type 0} (x : A) (xs ys us vs : List A) → (In x xs → In x us) → (In x ys → In x vs) → In x (xs ++ ys) → In x (us ++ vs)
in_both x xs ys us vs f g i = by (in_either x xs ys i)
  where
    by : In x xs ⊎ In x ys → In x (us ++ vs)
    by (inl j) = in_left x us vs (f j)
    by (inr j) = in_right x us vs (g j)

-- From one first fault to the next some faults are found: all of these, and no other.
pub record Tells (fs : List Fault) (o r : Option Fault) : Type 0 where
  pub found : List Fault
  pub is : r ≡ firsts o found
  pub only : (g : Fault) → In g found → In g fs
  pub all : (g : Fault) → In g fs → In g found

pub nothing : (o : Option Fault) → Tells [] o o
nothing o = record { found = []; is = refl; only = λ g i. i; all = λ g i. i }

pub two : (fs gs : List Fault) (o r q : Option Fault) → Tells fs o r → Tells gs r q → Tells (fs ++ gs) o q
two fs gs o r q a b = record {
  found = a.found ++ b.found;
  is = b.is ∙ ap (λ x. firsts x b.found) a.is ∙ sym (firsts_append o a.found b.found);
  only = λ g i. in_both g a.found b.found fs gs (λ j. a.only g j) (λ j. b.only g j) i;
  all = λ g i. in_both g fs gs a.found b.found (λ j. a.all g j) (λ j. b.all g j) i;
}

pub same : (fs gs : List Fault) (o r : Option Fault) → fs ≡ gs → Tells fs o r → Tells gs o r
same fs gs o r e h = subst (λ x. Tells x o r) e h

-- in any order
pub swapped : (fs gs : List Fault) (o r : Option Fault) → Tells (fs ++ gs) o r → Tells (gs ++ fs) o r
swapped fs gs o r h = record { found = h.found; is = h.is; only = λ g i. in_swapped g fs gs (h.only g i); all = λ g i. h.all g (in_swapped g gs fs i) }

pub one_fault : (f : Fault) (o : Option Fault) → Tells (f ∷ []) o (first_of o f)
one_fault f o = record { found = f ∷ []; is = refl; only = λ g i. i; all = λ g i. i }

-- a fault, where there is one
abbrev pub given : Option StaticKind → ℕ → List Fault
given None at = []
given (Some k) at = record { at = at; kind = k } ∷ []

pub note_if_told : (at : ℕ) (o : Option StaticKind) (s : State) → Tells (given o at) s.fault (note_if at o s).fault
note_if_told at None s = nothing s.fault
note_if_told at (Some k) s = one_fault (record { at = at; kind = k }) s.fault

-- ---- what the first of all tells

abbrev fault_or : Fault → Option Fault → Fault
fault_or d None = d
fault_or d (Some f) = f

-- the first is the one before, or one of those that are found
first_either : (o : Option Fault) (f g : Fault) → first_of o f ≡ Some g → (o ≡ Some g) ⊎ (g ≡ f)
first_either None f g e = inr (sym (ap (fault_or f) e))
first_either (Some h) f g e = by (comes_before f h) e
  where
    by : (b : Bool) → cond b (Some f) (Some h) ≡ Some g → (Some h ≡ Some g) ⊎ (g ≡ f)
    by true p = inr (sym (ap (fault_or f) p))
    by false p = inl p

firsts_among : (o : Option Fault) (fs : List Fault) (g : Fault) → firsts o fs ≡ Some g → (o ≡ Some g) ⊎ In g fs
firsts_among o [] g e = inl e
firsts_among o (f ∷ fs) g e = by (firsts_among (first_of o f) fs g e)
  where
    head : (o ≡ Some g) ⊎ (g ≡ f) → (o ≡ Some g) ⊎ In g (f ∷ fs)
    head (inl p) = inl p
    head (inr p) = inr (inl p)

    by : (first_of o f ≡ Some g) ⊎ In g fs → (o ≡ Some g) ⊎ In g (f ∷ fs)
    by (inl p) = head (first_either o f g p)
    by (inr i) = inr (inr i)

-- a fault that is reported was there before, or is one of them
pub only_found : (fs : List Fault) (o r : Option Fault) → Tells fs o r → (g : Fault) → r ≡ Some g → (o ≡ Some g) ⊎ In g fs
only_found fs o r h g e = by (firsts_among o h.found g (sym h.is ∙ e))
  where
    by : (o ≡ Some g) ⊎ In g h.found → (o ≡ Some g) ⊎ In g fs
    by (inl p) = inl p
    by (inr i) = inr (h.only g i)
