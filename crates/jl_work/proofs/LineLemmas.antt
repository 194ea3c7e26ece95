-- Lines that are written piece by piece, and what they tell.
use Rattle.std.proofs.Common.{◌≡◌, ◌∙◌, ap, subst, ℕ, List, ◌++◌, Result, OnOk}
use Rattle.std.proofs.lemmas.List.{append_assoc}
use Rattle.std.specs.declared.alloc.AllocError.{AllocError}
use Rattle.jl_model.specs.declared.ty.Key.{Key}
use Rattle.jl_program.specs.declared.tree.Program.{Program}
use Rattle.jl_calculus.specs.declared.history.Event.{Event}
use Rattle.jl_reflect.specs.declared.ranges.Span.{Span}
use Rattle.jl_reflect.specs.Asked.{MeansKey}
use Rattle.jl_reflect.specs.Spans.{AreSpans}
use Rattle.jl_ambig.specs.declared.noting.Pair.{Pair}
use Rattle.jl_ambig.specs.Pairs.{ArePairs, AreUnexamined}
use Rattle.jl_work.specs.declared.work.Question.{Question}
use Rattle.jl_work.specs.Told.{spans_text, pairs_text, TellsSpans, TellsPairs}

module _ (r : Result (Unit {0}) AllocError) (old new : List ℕ) where
  -- a last piece after one
  pub after_one : (m a x : List ℕ) → m ≡ old ++ a → OnOk r (new ≡ m ++ x) → OnOk r (new ≡ old ++ (a ++ x))
  after_one m a x p h =
      let regrouped : m ++ x ≡ old ++ (a ++ x) = rw p (simp append_assoc) in
      rw (← regrouped) h

  -- after two, and two of which each has two parts
  pub after_pairs : (m n o p a b c c' d d' x : List ℕ) → m ≡ old ++ a → n ≡ m ++ b → o ≡ n ++ (c ++ c') → p ≡ o ++ (d ++ d') → OnOk r (new ≡ p ++ x)
      → OnOk r (new ≡ old ++ (a ++ (b ++ (c ++ (c' ++ (d ++ (d' ++ x)))))))
  after_pairs m n o p a b c c' d d' x e f g k h =
      let regrouped : p ++ x ≡ old ++ (a ++ (b ++ (c ++ (c' ++ (d ++ (d' ++ x)))))) = rw (k, g, f, e) (simp append_assoc) in
      rw (← regrouped) h

  -- after five
  pub after_five : (m n o p q a b c d e x : List ℕ) → m ≡ old ++ a → n ≡ m ++ b → o ≡ n ++ c → p ≡ o ++ d → q ≡ p ++ e → OnOk r (new ≡ q ++ x)
      → OnOk r (new ≡ old ++ (a ++ (b ++ (c ++ (d ++ (e ++ x))))))
  after_five m n o p q a b c d e x i j k l u h =
      let regrouped : q ++ x ≡ old ++ (a ++ (b ++ (c ++ (d ++ (e ++ x))))) = rw (u, l, k, j, i) (simp append_assoc) in
      rw (← regrouped) h

-- what was found of the events of a history is told
pub spans_told : (P : Program) (es es' : List Event) (key : Key) (spans spans' : List Span) (text : List ℕ) (question : Question) → es' ≡ es → spans' ≡ spans → AreSpans P es' key spans
    → text ≡ spans_text spans' → MeansKey P question.name question.ty key → TellsSpans P es question text
spans_told P es es' key spans spans' text question e f are is means =
    record { key = key; means = means; spans = spans; are = subst (λ (xs : List Event). AreSpans P xs key spans) e are; is = is ∙ ap spans_text f }

pub pairs_told : (P : Program) (es es' : List Event) (ps ps' : List Pair) (ds ds' : List ℕ) (text : List ℕ) → es' ≡ es → ps' ≡ ps → ds' ≡ ds → ArePairs P es' ps → AreUnexamined P es' ds
    → text ≡ pairs_text P es' ps' ds' → TellsPairs P es text
pairs_told P es es' ps ps' ds ds' text e f g are others is =
    record {
      pairs = ps;
      are = subst (λ (xs : List Event). ArePairs P xs ps) e are;
      left = ds;
      are_left = subst (λ (xs : List Event). AreUnexamined P xs ds) e others;
      is = is ∙ ap (λ (xs : List Event). pairs_text P xs ps' ds') e ∙ ap (λ (xs : List Pair). pairs_text P es xs ds') f ∙ ap (pairs_text P es ps) g;
    }
