-- The candidates among the methods that apply are the candidates among all.
use Rattle.std.proofs.Common.{◌⊎◌, inl, inr, ℕ, List}
use Rattle.std.specs.Prelude.{◌↔◌}
use Rattle.jl_model.specs.declared.ty.Ty.{Ty}
use Rattle.jl_model.specs.Subtype.{Table}
use Rattle.jl_model.specs.Choice.{Method, Applies, IsCandidate, IsBest, IsUnordered, IsFirstUnordered, IsFirstTwo, ChoosesAmbiguous}
use Rattle.jl_program.specs.declared.choice.Choice.{Choice}
use Rattle.jl_program.specs.declared.choice.Choice.TheVariants as C
use Rattle.jl_program.specs.Chooses.{Chooses}
use Rattle.jl_calculus.specs.ChoiceLaws.{AreApplicable}

-- Two lists of which the same methods apply.
module _ (n : Table) (ms os : List Method) (ts : List Ty) (to : (m : Method) → Applies n ms ts m → Applies n os ts m) (from : (m : Method) → Applies n os ts m → Applies n ms ts m) where
  candidate_to : (m : Method) → IsCandidate n ms ts m → IsCandidate n os ts m
  candidate_to m c = record { applies = to m c.applies; last = λ l a e s. c.last l (from l a) e s }

  candidate_from : (m : Method) → IsCandidate n os ts m → IsCandidate n ms ts m
  candidate_from m c = record { applies = from m c.applies; last = λ l a e s. c.last l (to l a) e s }

  best_to : (m : Method) → IsBest n ms ts m → IsBest n os ts m
  best_to m b = record { candidate = candidate_to m b.candidate; below = λ c k differ. b.below c (candidate_from c k) differ }

  best_from : (m : Method) → IsBest n os ts m → IsBest n ms ts m
  best_from m b = record { candidate = candidate_from m b.candidate; below = λ c k differ. b.below c (candidate_to c k) differ }

  unordered_to : (a b : Method) → IsUnordered n ms ts a b → IsUnordered n os ts a b
  unordered_to a b u = record {
    first = candidate_to a u.first;
    second = candidate_to b u.second;
    earlier = u.earlier;
    not_below = u.not_below;
    not_above = u.not_above;
  }

  unordered_from : (a b : Method) → IsUnordered n os ts a b → IsUnordered n ms ts a b
  unordered_from a b u = record {
    first = candidate_from a u.first;
    second = candidate_from b u.second;
    earlier = u.earlier;
    not_below = u.not_below;
    not_above = u.not_above;
  }

  first_unordered_to : (a b : Method) → IsFirstUnordered n ms ts a b → IsFirstUnordered n os ts a b
  first_unordered_to a b f = record { unordered = unordered_to a b f.unordered; least = λ c d u. f.least c d (unordered_from c d u) }

  first_two_to : (a b : Method) → IsFirstTwo n ms ts a b → IsFirstTwo n os ts a b
  first_two_to a b f = record {
    first = candidate_to a f.first;
    second = candidate_to b f.second;
    earlier = f.earlier;
    least = λ c k. f.least c (candidate_from c k);
  }

  pair_to : (c d : Method) → IsFirstUnordered n ms ts c d ⊎ (((e f : Method) → IsUnordered n ms ts e f → ⊥) × IsFirstTwo n ms ts c d)
      → IsFirstUnordered n os ts c d ⊎ (((e f : Method) → IsUnordered n os ts e f → ⊥) × IsFirstTwo n os ts c d)
  pair_to c d (inl f) = inl (first_unordered_to c d f)
  pair_to c d (inr (none, f)) = inr ((λ e g u. none e g (unordered_from e g u)), first_two_to c d f)

  ambiguous_to : (a b : ℕ) → ChoosesAmbiguous n ms ts a b → ChoosesAmbiguous n os ts a b
  ambiguous_to a b h =
      let (c, d, p, q, f) = h.pair in
      record { none_best = λ m k. h.none_best m (best_from m k); pair = (c, d, p, q, pair_to c d f) }

  pub chooses_to : (c : Choice) → Chooses n ms ts c → Chooses n os ts c
  chooses_to (C.Method d) (m, b, e) = (m, best_to m b, e)
  chooses_to C.None h = λ m c. h m (candidate_from m c)
  chooses_to (C.Ambiguous a b) h = ambiguous_to a b h

pub applicable_choose : (n : Table) (all some : List Method) (ts : List Ty) → AreApplicable n all ts some → (c : Choice) → Chooses n some ts c ↔ Chooses n all ts c
applicable_choose n all some ts h c = (chooses_to n some all ts to from c, chooses_to n all some ts from to c)
  where
    to : (m : Method) → Applies n some ts m → Applies n all ts m
    to m a = (h m).0 a.stands

    from : (m : Method) → Applies n all ts m → Applies n some ts m
    from m a = record { stands = (h m).1 a; below = a.below }
