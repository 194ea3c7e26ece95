-- The faults that are found, by those of uses and others.
use Rattle.std.proofs.Common.{true, List, ◌++◌, ◌≡◌, ◌⊎◌, inl, inr, Option, subst}
use Rattle.jl_written.specs.declared.fault.Fault.{Fault}
use Rattle.jl_fault_laws.specs.Rows.{has_row}
use Rattle.jl_fault_laws.proofs.Firsts.{In, in_left, in_right, in_either, Tells, two}

-- From one first fault to the next some faults are found: these, and those that R tells; where R tells one with a row, it is one of these.
pub record TellsWith (fs : List Fault) (R : Fault → Type 0) (o r : Option Fault) : Type 0 where
  pub found : List Fault
  pub tells : Tells found o r
  pub only : (g : Fault) → In g found → In g fs ⊎ R g
  pub all : (g : Fault) → In g fs → In g found
  pub refused : (g : Fault) → R g → In g found
  pub row : (g : Fault) → has_row g.kind ≡ true → R g → In g fs

abbrev pub NoFault : Fault → Type 0
NoFault g = ⊥

abbrev pub Both : (Fault → Type 0) → (Fault → Type 0) → Fault → Type 0
Both R S g = R g ⊎ S g

-- faults of uses alone
pub alone : (fs : List Fault) (o r : Option Fault) → Tells fs o r → TellsWith fs NoFault o r
alone fs o r h = record { found = fs; tells = h; only = λ g i. inl i; all = λ g i. i; refused = λ g x. absurd x; row = λ g e x. absurd x }

pub two_with : (fs gs : List Fault) (R S : Fault → Type 0) (o r q : Option Fault) → TellsWith fs R o r → TellsWith gs S r q → TellsWith (fs ++ gs) (Both R S) o q
two_with fs gs R S o r q a b = record {
  found = a.found ++ b.found;
  tells = two a.found b.found o r q a.tells b.tells;
  only = λ g i. either g (in_either g a.found b.found i);
  all = λ g i. join g (in_either g fs gs i);
  refused = told;
  row = rows;
}
  where
    left : (g : Fault) → In g fs ⊎ R g → In g (fs ++ gs) ⊎ Both R S g
    left g (inl i) = inl (in_left g fs gs i)
    left g (inr x) = inr (inl x)

    right : (g : Fault) → In g gs ⊎ S g → In g (fs ++ gs) ⊎ Both R S g
    right g (inl i) = inl (in_right g fs gs i)
    right g (inr x) = inr (inr x)

    either : (g : Fault) → In g a.found ⊎ In g b.found → In g (fs ++ gs) ⊎ Both R S g
    either g (inl i) = left g (a.only g i)
    either g (inr i) = right g (b.only g i)

    join : (g : Fault) → In g fs ⊎ In g gs → In g (a.found ++ b.found)
    join g (inl i) = in_left g a.found b.found (a.all g i)
    join g (inr i) = in_right g a.found b.found (b.all g i)

    told : (g : Fault) → Both R S g → In g (a.found ++ b.found)
    told g (inl x) = in_left g a.found b.found (a.refused g x)
    told g (inr x) = in_right g a.found b.found (b.refused g x)

    rows : (g : Fault) → has_row g.kind ≡ true → Both R S g → In g (fs ++ gs)
    rows g e (inl x) = in_left g fs gs (a.row g e x)
    rows g e (inr x) = in_right g fs gs (b.row g e x)

-- the same faults, told in another way
pub as_told : (fs : List Fault) (R S : Fault → Type 0) (o r : Option Fault) → ((g : Fault) → R g → S g) → ((g : Fault) → S g → R g) → TellsWith fs R o r → TellsWith fs S o r
as_told fs R S o r to back h = record { found = h.found; tells = h.tells; only = λ g i. by g (h.only g i); all = λ g i. h.all g i; refused = λ g x. h.refused g (back g x); row = λ g e x. h.row g e (back g x) }
  where
    by : (g : Fault) → In g fs ⊎ R g → In g fs ⊎ S g
    by g (inl i) = inl i
    by g (inr x) = inr (to g x)

pub with_same : (fs gs : List Fault) (R : Fault → Type 0) (o r : Option Fault) → fs ≡ gs → TellsWith fs R o r → TellsWith gs R o r
with_same fs gs R o r e h = subst (λ x. TellsWith x R o r) e h
