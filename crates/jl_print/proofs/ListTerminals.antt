-- The tokens of lists of forms, where one form more stands at the end.
use Rattle.std.proofs.Common.{◌≡◌, List, [], ◌∷◌, ◌++◌, map, refl, sym, ap, ◌∙◌, subst, append_assoc}
use Rattle.std.proofs.lemmas.List.{map-append, append-nil}
use Rattle.jl_token.specs.declared.token.Operator.TheVariants as o
use Rattle.jl_typeread.specs.declared.terminal.Terminal.{Terminal}
use Rattle.jl_typeread.specs.declared.terminal.Terminal.TheVariants as S
use Rattle.jl_typeread.specs.declared.terminal.Word.TheVariants as w
use Rattle.jl_print.specs.Printed.{join, join_more, lines, branches_step, branches_more}

-- the list has an element
abbrev pub HasSome : {A : Type 0} → List A → Type 0
HasSome {A} xs = (x : A) × (ys : List A) × (xs ≡ x ∷ ys)

pub some_one : {A : Type 0} (x : A) → HasSome (x ∷ [])
some_one x = (x, [], refl)

pub some_more : {A : Type 0} (xs : List A) (x : A) → HasSome xs → HasSome (xs ++ x ∷ [])
some_more xs x s = (s.0, s.1 ++ x ∷ [], ap (λ l. l ++ x ∷ []) s.2)

pub some_map : {A B : Type 0} (f : A → B) (xs : List A) → HasSome xs → HasSome (map f xs)
some_map f xs s = (f s.0, map f s.1, ap (map f) s.2)

more-behind : (xs : List (List Terminal)) (x : List Terminal) → join_more (xs ++ x ∷ []) ≡ join_more xs ++ S.Operator o.Comma ∷ x
more-behind [] x = ap (λ l. S.Operator o.Comma ∷ l) (append-nil x)
more-behind (y ∷ xs) x = ap (λ l. S.Operator o.Comma ∷ y ++ l) (more-behind xs x) ∙ ap (λ l. S.Operator o.Comma ∷ l) (sym (append_assoc y (join_more xs) (S.Operator o.Comma ∷ x)))

join-behind : (xs : List (List Terminal)) (x : List Terminal) → HasSome xs → join (xs ++ x ∷ []) ≡ join xs ++ S.Operator o.Comma ∷ x
join-behind xs x s = subst (λ l. join (l ++ x ∷ []) ≡ join l ++ S.Operator o.Comma ∷ x) (sym s.2) (ap (λ l. s.0 ++ l) (more-behind s.1 x) ∙ sym (append_assoc s.0 (join_more s.1) (S.Operator o.Comma ∷ x)))

pub printed_one : {A : Type 0} (f : A → List Terminal) (x : A) → join (map f (x ∷ [])) ≡ f x
printed_one f x = append-nil (f x)

pub printed_more : {A : Type 0} (f : A → List Terminal) (xs : List A) (x : A) → HasSome xs → join (map f (xs ++ x ∷ [])) ≡ join (map f xs) ++ S.Operator o.Comma ∷ f x
printed_more f xs x s = ap join (map-append f xs (x ∷ [])) ∙ join-behind (map f xs) (f x) (some_map f xs s)

lines-behind : (xs : List (List Terminal)) (x : List Terminal) → lines (xs ++ x ∷ []) ≡ lines xs ++ x ++ S.Newline ∷ []
lines-behind [] x = refl
lines-behind (y ∷ xs) x = ap (λ l. y ++ S.Newline ∷ l) (lines-behind xs x) ∙ regrouped
  where
    regrouped : y ++ S.Newline ∷ (lines xs ++ x ++ S.Newline ∷ []) ≡ (y ++ S.Newline ∷ lines xs) ++ x ++ S.Newline ∷ []
    regrouped = simp append_assoc

pub lines_more : {A : Type 0} (f : A → List Terminal) (xs : List A) (x : A) → lines (map f (xs ++ x ∷ [])) ≡ (lines (map f xs) ++ f x) ++ S.Newline ∷ []
lines_more f xs x = ap lines (map-append f xs (x ∷ [])) ∙ lines-behind (map f xs) (f x)

branches-behind : (xs : List (List Terminal)) (x : List Terminal) → branches_more (xs ++ x ∷ []) ≡ branches_more xs ++ S.Word w.Elseif ∷ x
branches-behind [] x = ap (λ l. S.Word w.Elseif ∷ l) (append-nil x)
branches-behind (y ∷ xs) x = ap (λ l. S.Word w.Elseif ∷ y ++ l) (branches-behind xs x) ∙ ap (λ l. S.Word w.Elseif ∷ l) (sym (append_assoc y (branches_more xs) (S.Word w.Elseif ∷ x)))

pub branches_behind : (xs : List (List Terminal)) (x : List Terminal) → HasSome xs → branches_step (xs ++ x ∷ []) ≡ branches_step xs ++ S.Word w.Elseif ∷ x
branches_behind xs x s =
    subst (λ l. branches_step (l ++ x ∷ []) ≡ branches_step l ++ S.Word w.Elseif ∷ x) (sym s.2)
    (ap (λ l. S.Word w.If ∷ s.0 ++ l) (branches-behind s.1 x) ∙ ap (λ l. S.Word w.If ∷ l) (sym (append_assoc s.0 (branches_more s.1) (S.Word w.Elseif ∷ x))))

-- one element more of lists that are the same
pub same_more : {A B : Type 0} (f : A → B) (xs ys : List A) (x y : A) → map f xs ≡ map f ys → f x ≡ f y → map f (xs ++ x ∷ []) ≡ map f (ys ++ y ∷ [])
same_more f xs ys x y e d = map-append f xs (x ∷ []) ∙ ap (λ l. l ++ f x ∷ []) e ∙ ap (λ z. map f ys ++ z ∷ []) d ∙ sym (map-append f ys (y ∷ []))
