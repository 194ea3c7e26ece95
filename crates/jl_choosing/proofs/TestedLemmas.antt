-- What sites answered about the same types.
use Rattle.std.proofs.Common.{◌≡◌, ◌∙◌, sym, subst, refl, ℕ, zero, suc, ◌<◌, ◌⊎◌, inl, inr, arith, Bool, true, false, IsTrue, List, length, get_or, slice_set, Option, None, Some}
use Rattle.std.proofs.lemmas.List.{get_or-set_same, get_or-set_other}
use Rattle.std.proofs.lemmas.Option.{same_Some}
use Rattle.jl_model.specs.declared.ty.Ty.{Ty}
use Rattle.jl_program.specs.declared.tree.Program.{Program}
use Rattle.jl_calculus.specs.declared.history.Def.{Def}
use Rattle.jl_calculus.specs.Definitions.{AppliesTo}
use Rattle.jl_choosing.specs.Tested.{IsAnswer}

module _ (P : Program) (ts : List Ty) where
  pub answer_yes : (d : Def) (said : Bool) → IsAnswer P ts d.site said → IsTrue said → AppliesTo P ts d
  answer_yes d true h t = h
  answer_yes d false h t = absurd cc

  pub answer_no : (d : Def) (said : Bool) → IsAnswer P ts d.site said → said ≡ false → AppliesTo P ts d → ⊥
  answer_no d true h e a = cc
  answer_no d false h e a = h a

  pub answer_is : (d : Def) (said : Bool) → (IsTrue said → AppliesTo P ts d) → (said ≡ false → AppliesTo P ts d → ⊥) → IsAnswer P ts d.site said
  answer_is d true y n = y refl
  answer_is d false y n = n refl

  abbrev pub AreRight : List (Option Bool) → Type 0
  AreRight answers = (site : ℕ) (said : Bool) → get_or answers site None ≡ Some said → IsAnswer P ts site said

  -- one more answer
  pub right_put : (answers : List (Option Bool)) (at : ℕ) (said : Bool) → AreRight answers → IsAnswer P ts at said → at < length answers → AreRight (slice_set answers at (Some said))
  right_put answers at said h a l site other q = by (compare site at)
    where
      compare : (i j : ℕ) → (i ≡ j) ⊎ (i ≡ j → ⊥)
      compare zero zero = inl refl
      compare zero (suc j) = inr (λ e. absurd (omega (arith, e)))
      compare (suc i) zero = inr (λ e. absurd (omega (arith, e)))
      compare (suc i) (suc j) = step (compare i j)
        where
          step : (i ≡ j) ⊎ (i ≡ j → ⊥) → (suc i ≡ suc j) ⊎ (suc i ≡ suc j → ⊥)
          step (inl e) = inl (omega (arith, e))
          step (inr n) = inr (λ e. n (omega (arith, e)))

      own : (other : Bool) → get_or (slice_set answers at (Some said)) at None ≡ Some other → IsAnswer P ts at other
      own other q = subst (IsAnswer P ts at) (same_Some said other (sym (get_or-set_same answers at (Some said) None l) ∙ q)) a

      by : (site ≡ at) ⊎ (site ≡ at → ⊥) → IsAnswer P ts site other
      by (inl e) = subst (λ z. IsAnswer P ts z other) (sym e) (own other (subst (λ z. get_or (slice_set answers at (Some said)) z None ≡ Some other) e q))
      by (inr n) = h site other (sym (get_or-set_other answers at site (Some said) None n) ∙ q)

  -- where nothing was asked
  pub none_right : (answers : List (Option Bool)) → ((site : ℕ) → get_or answers site None ≡ None) → AreRight answers
  none_right answers none site said q = absurd (apart (sym (none site) ∙ q))
    where
      apart : None ≡ Some said → ⊥
      apart e = cc
