-- Forms in lines of their own, printed anew: the statements of a block and of an evaluated block.
use Rattle.std.proofs.Common.{◌≡◌, ℕ, max, ◌⊎◌, inl, inr, List, [], ◌∷◌, ◌++◌, map, refl, sym, ap, ◌∙◌, subst, append_assoc}
use Rattle.jl_token.specs.declared.token.Operator.TheVariants as o
use Rattle.jl_typeread.specs.declared.terminal.Terminal.{Terminal}
use Rattle.jl_typeread.specs.declared.terminal.Terminal.TheVariants as S
use Rattle.jl_grammar.specs.declared.mark.Marked.{Marked}
use Rattle.jl_grammar.specs.declared.state.Forms.{Forms}
use Rattle.jl_grammar.specs.Forms as M
use Rattle.jl_grammar.specs.Texts.{Text, Sep, semicolon, newline}
use Rattle.jl_marks.specs.Scan.{near_of}
use Rattle.jl_print.specs.Printed.{lines}
use Rattle.jl_print.proofs.AgainLikes.{LikeForms}
use Rattle.jl_print.proofs.Laid.{seen, seen-append, spot, laid, laid-append, Right, right-append, Made, Replay}
use Rattle.jl_print.proofs.Likes.{dull_near}
use Rattle.jl_print.proofs.ListTerminals.{lines_more, same_more}
use Rattle.jl_print.proofs.SpelledTerminals.{RowSpells, Passes, row_as, row_of, row_none, row_sep, row_one}
use Rattle.jl_print.proofs.Wholes.{Skipped, two_skipped}

-- behind such tokens nothing is asked
abbrev pub IsDull : List Terminal → Type 0
IsDull ss = near_of ss ≡ near_of []

-- no line, or an empty one
abbrev pub IsLead : List Terminal → Type 0
IsLead lead = (lead ≡ []) ⊎ (lead ≡ S.Newline ∷ [])

pub sep_dull : (t : Marked) (x : List Terminal) → Sep t → IsDull (t.lexeme.terminal ∷ x)
sep_dull _ x (semicolon p) = dull_near (S.Operator o.Semicolon) x refl
sep_dull _ x (newline p) = dull_near S.Newline x refl

pub sep_passes : (t : Marked) → Sep t → Passes t.lexeme.terminal
sep_passes _ (semicolon p) = λ ns. refl
sep_passes _ (newline p) = λ ns. refl

newline-skipped : Skipped (S.Newline ∷ [])
newline-skipped = λ c cs rest. refl

module _ {A B : Type 0} (same : A → B) (printed : A → List Terminal) (Before After : Forms A → Text → Type 0) (One : A × ℕ → Text → Type 0) (h : ℕ → ℕ) where
  abbrev row : Forms A → List Terminal
  row xs = lines (map printed xs.trees)

  abbrev LikeOne : A × ℕ → A × ℕ → Type 0
  LikeOne y z = (same y.0 ≡ same z.0) × (y.1 ≡ z.1)

  -- a separator more in the text that was
  separated : (xs : Forms A) (t : Marked) (ts : Text) → RowSpells (seen ts) (row xs) → Sep t → RowSpells (seen (ts ++ t ∷ [])) (row xs)
  separated xs t ts f s = row_of _ _ _ (seen-append ts (t ∷ [])) (row_sep (seen ts) (row xs) t.lexeme.terminal (sep_passes t s) f)

  -- the lines of these forms, whatever stands behind the text that was
  pub record BeforeAgain (xs : Forms A) (ts : Text) : Type 0 where
    pub skipped : Skipped (row xs)
    pub spells : RowSpells (seen ts) (row xs)
    pub again : (lead rest other : List Terminal) → IsLead lead → Right ts rest → Made Before (LikeForms same) xs (laid h (lead ++ row xs) other)

  -- the same, where nothing is asked of what stands behind it
  pub record AfterAgain (xs : Forms A) (ts : Text) : Type 0 where
    pub skipped : Skipped (row xs)
    pub spells : RowSpells (seen ts) (row xs)
    pub again : (lead rest other : List Terminal) → IsLead lead → Right ts rest → IsDull rest → Made Before (LikeForms same) xs (laid h (lead ++ row xs) other)

  module _ (none : Before M.no_forms []) (more : (xs : Forms A) (t : Marked) (ts : Text) → Before xs ts → Sep t → Before xs (ts ++ t ∷ []))
      (apart : (xs : Forms A) (t : Marked) (ts : Text) → After xs ts → Sep t → Before xs (ts ++ t ∷ [])) (one : (xs : Forms A) (x : A) (d : ℕ) (ts us : Text) → Before xs ts → One (x, d) us → After (M.with_form xs x d) (ts ++ us)) where
    no_forms-made : (lead other : List Terminal) → IsLead lead → Made Before (LikeForms same) M.no_forms (laid h (lead ++ []) other)
    no_forms-made lead other (inl e) = subst (λ l. Made Before (LikeForms same) M.no_forms (laid h (l ++ []) other)) (sym e) (record { tree = M.no_forms; derives = none; like = (refl, refl) })
    no_forms-made lead other (inr e) =
        subst (λ l. Made Before (LikeForms same) M.no_forms (laid h (l ++ []) other)) (sym e) (record { tree = M.no_forms; derives = more M.no_forms _ [] none (newline (spot h (S.Newline ∷ other))); like = (refl, refl) })

    pub no_forms_again : BeforeAgain M.no_forms []
    no_forms_again = record { skipped = λ c cs rest. refl; spells = row_none; again = λ lead rest other l r. no_forms-made lead other l }

    pub more_again : (xs : Forms A) (t : Marked) (ts : Text) → BeforeAgain xs ts → Sep t → BeforeAgain xs (ts ++ t ∷ [])
    more_again xs t ts f s = record { skipped = f.skipped; spells = separated xs t ts f.spells s; again = λ lead rest other l r. f.again lead (t.lexeme.terminal ∷ rest) other l (right-append ts (t ∷ []) rest r).0 }

    pub apart_again : (xs : Forms A) (t : Marked) (ts : Text) → AfterAgain xs ts → Sep t → BeforeAgain xs (ts ++ t ∷ [])
    apart_again xs t ts f s = record { skipped = f.skipped; spells = separated xs t ts f.spells s; again = λ lead rest other l r. f.again lead (t.lexeme.terminal ∷ rest) other l (right-append ts (t ∷ []) rest r).0 (sep_dull t rest s) }

    pub one_again : (xs : Forms A) (x : A) (d : ℕ) (ts us : Text) → BeforeAgain xs ts → Replay One LikeOne h (x, d) us (printed x) → AfterAgain (M.with_form xs x d) (ts ++ us)
    one_again xs x d ts us f g = record {
      skipped = subst Skipped (sym (lines_more printed xs.trees x)) (two_skipped (row xs ++ printed x) (S.Newline ∷ []) (two_skipped (row xs) (printed x) f.skipped g.tidy.new) newline-skipped);
      spells = row_as _ _ _ (lines_more printed xs.trees x) (row_of _ _ _ (seen-append ts us) (row_one (seen ts) (seen us) (row xs) (printed x) f.spells g.tidy.spells));
      again = λ lead rest other l right dull.
          let r = right-append ts us rest right in
          let u = g.again rest (S.Newline ∷ other) r.1 (dull ∙ sym (dull_near S.Newline other refl)) in
          let b = f.again lead (seen us ++ rest) (printed x ++ S.Newline ∷ other) l r.0 in
          let regrouped : lead ++ row (M.with_form xs x d) ≡ ((lead ++ row xs) ++ printed x) ++ S.Newline ∷ [] =
          ap (λ z. lead ++ z) (lines_more printed xs.trees x) ∙ sym (append_assoc lead (row xs ++ printed x) (S.Newline ∷ [])) ∙ ap (λ z. z ++ S.Newline ∷ []) (sym (append_assoc lead (row xs) (printed x))) in
          let parts : laid h (lead ++ row (M.with_form xs x d)) other ≡ (laid h (lead ++ row xs) (printed x ++ S.Newline ∷ other) ++ laid h (printed x) (S.Newline ∷ other)) ++ laid h (S.Newline ∷ []) other =
          ap (λ z. laid h z other) regrouped ∙ laid-append h ((lead ++ row xs) ++ printed x) (S.Newline ∷ []) other
          ∙ ap (λ z. z ++ laid h (S.Newline ∷ []) other) (laid-append h (lead ++ row xs) (printed x) (S.Newline ∷ other)) in
          record {
            tree = M.with_form b.tree u.made.tree.0 u.made.tree.1;
            derives = subst (Before (M.with_form b.tree u.made.tree.0 u.made.tree.1)) (sym parts)
                (apart (M.with_form b.tree u.made.tree.0 u.made.tree.1) _ _ (one b.tree u.made.tree.0 u.made.tree.1 _ _ b.derives u.made.derives) (newline (spot h (S.Newline ∷ other))));
            like = (same_more same b.tree.trees xs.trees u.made.tree.0 x b.like.0 u.made.like.0, ap (λ n. max n u.made.tree.1) b.like.1 ∙ ap (λ n. max xs.depth n) u.made.like.1);
          };
    }
