-- One step of each loop over a text.
use Rattle.std.proofs.Common.{◌≡◌, ℕ, ◌+◌, ◌-◌, true, false, ◌==◌, List, ◌∷◌, Option, Some, sym, ap, ◌∙◌}
use Rattle.jl_token.specs.Characters.{is_comment_end, is_comment_start}
use Rattle.jl_token.specs.Reading.{after_comment}
use Rattle.jl_token.proofs.Choices.{when-true, when-false}

module _ (n c d : ℕ) (rest after behind : List ℕ) (all : Option (List ℕ)) (first : rest ≡ c ∷ after) (second : after ≡ d ∷ behind) (left : after_comment n rest ≡ all) where
  comment-front : after_comment n (c ∷ d ∷ behind) ≡ all
  comment-front = ap (after_comment n) (sym (first ∙ ap (λ l. c ∷ l) second)) ∙ left

  pub comment-is_comment_end : is_comment_end c d ≡ true → (n == 0) ≡ false → after_comment (n - 1) behind ≡ all
  comment-is_comment_end ends inner = when-false (n == 0) _ _ all inner (when-true (is_comment_end c d) _ _ all ends comment-front)

  pub comment-ends : is_comment_end c d ≡ true → (n == 0) ≡ true → Some behind ≡ all
  comment-ends ends outer = when-true (n == 0) _ _ all outer (when-true (is_comment_end c d) _ _ all ends comment-front)

  pub comment-is_comment_start : is_comment_end c d ≡ false → is_comment_start c d ≡ true → after_comment (n + 1) behind ≡ all
  comment-is_comment_start goes_on begins = when-true (is_comment_start c d) _ _ all begins (when-false (is_comment_end c d) _ _ all goes_on comment-front)

  pub comment-other : is_comment_end c d ≡ false → is_comment_start c d ≡ false → after_comment n after ≡ all
  comment-other goes_on other = ap (after_comment n) second ∙ when-false (is_comment_start c d) _ _ all other (when-false (is_comment_end c d) _ _ all goes_on comment-front)
