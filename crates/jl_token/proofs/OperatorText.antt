-- Operators: what the operator at the front of a text is, and that the longest is read whole.
use Rattle.std.proofs.Common.{◌≡◌, ℕ, Bool, true, false, cond, ◌==◌, ◌||◌, ◌&&◌, List, [], ◌∷◌, ◌++◌, Option, Some, None, is_some, refl, sym, ap, ◌∙◌, subst, append_assoc}
use Rattle.std.specs.List.{list_any, AllByRecursion}
use Rattle.std.specs.Str.{bytes_eq}
use Rattle.std.proofs.lemmas.Bool.{eqb-true}
use Rattle.jl_token.specs.declared.token.Operator.{Operator}
use Rattle.jl_token.specs.declared.token.Operator.TheVariants as op
use Rattle.jl_token.specs.Grammar.{spelling, Longest}
use Rattle.jl_token.specs.Operators.{by, rest_after, longer_operator, double_operator, after_equals, after_exclamation, after_angle, single_operators, look_up, single_operator, operator}
use Rattle.jl_token.proofs.Choices.{if-sound, by-sound}

-- the operator at the front of a text
abbrev pub operator_text : List ℕ → Option (Operator × List ℕ)
operator_text [] = None
operator_text (c ∷ cs) = operator c cs

-- ---- the spelled operators

abbrev operators : List Operator
operators =
    op.Identical ∷ op.NotIdentical ∷ op.HasType ∷ op.Subtype ∷ op.Supertype ∷ op.Equal ∷ op.NotEqual ∷ op.LessEqual ∷ op.GreaterEqual ∷ op.And ∷ op.Or ∷ op.Assign ∷ op.Less ∷ op.Greater ∷ op.Plus ∷ op.Minus ∷ op.Times ∷ op.Divide ∷ op.Remainder ∷ op.Not ∷ op.Question ∷ op.Colon ∷ op.Dot ∷ op.Comma ∷ op.Semicolon ∷ op.OpenParen ∷ op.CloseParen ∷ op.OpenBracket ∷ op.CloseBracket ∷ op.OpenBrace ∷ op.CloseBrace ∷ []

abbrev is_operator : List ℕ → Bool
is_operator w = list_any (λ o. bytes_eq w (spelling o)) operators

is_operator-spelling : (o : Operator) → is_operator (spelling o) ≡ true
is_operator-spelling op.Identical = refl
is_operator-spelling op.NotIdentical = refl
is_operator-spelling op.HasType = refl
is_operator-spelling op.Subtype = refl
is_operator-spelling op.Supertype = refl
is_operator-spelling op.Equal = refl
is_operator-spelling op.NotEqual = refl
is_operator-spelling op.LessEqual = refl
is_operator-spelling op.GreaterEqual = refl
is_operator-spelling op.And = refl
is_operator-spelling op.Or = refl
is_operator-spelling op.Assign = refl
is_operator-spelling op.Less = refl
is_operator-spelling op.Greater = refl
is_operator-spelling op.Plus = refl
is_operator-spelling op.Minus = refl
is_operator-spelling op.Times = refl
is_operator-spelling op.Divide = refl
is_operator-spelling op.Remainder = refl
is_operator-spelling op.Not = refl
is_operator-spelling op.Question = refl
is_operator-spelling op.Colon = refl
is_operator-spelling op.Dot = refl
is_operator-spelling op.Comma = refl
is_operator-spelling op.Semicolon = refl
is_operator-spelling op.OpenParen = refl
is_operator-spelling op.CloseParen = refl
is_operator-spelling op.OpenBracket = refl
is_operator-spelling op.CloseBracket = refl
is_operator-spelling op.OpenBrace = refl
is_operator-spelling op.CloseBrace = refl

-- a spelled operator at the front of a text is found, or a longer one
pub some-operator : (o : Operator) (rest : List ℕ) → is_some (operator_text (spelling o ++ rest)) ≡ true
some-operator op.Identical rest = refl
some-operator op.NotIdentical rest = refl
some-operator op.HasType rest = refl
some-operator op.Subtype rest = refl
some-operator op.Supertype rest = refl
some-operator op.Equal rest = refl
some-operator op.NotEqual rest = refl
some-operator op.LessEqual rest = refl
some-operator op.GreaterEqual rest = refl
some-operator op.And rest = refl
some-operator op.Or rest = refl
some-operator op.Assign rest = refl
some-operator op.Less rest = refl
some-operator op.Greater rest = refl
some-operator op.Plus rest = refl
some-operator op.Minus rest = refl
some-operator op.Times rest = refl
some-operator op.Divide rest = refl
some-operator op.Remainder rest = refl
some-operator op.Not rest = refl
some-operator op.Question rest = refl
some-operator op.Colon rest = refl
some-operator op.Dot rest = refl
some-operator op.Comma rest = refl
some-operator op.Semicolon rest = refl
some-operator op.OpenParen rest = refl
some-operator op.CloseParen rest = refl
some-operator op.OpenBracket rest = refl
some-operator op.CloseBracket rest = refl
some-operator op.OpenBrace rest = refl
some-operator op.CloseBrace rest = refl

-- ---- the longest

pub rest_after-found : (k : ℕ) (cs rest : List ℕ) → rest_after k cs ≡ Some rest → cs ≡ k ∷ rest
rest_after-found k [] rest e = absurd cc
rest_after-found k (d ∷ cs) rest e = go (d == k) refl e
  where
    go : (b : Bool) → (d == k) ≡ b → cond b (Some cs) None ≡ Some rest → d ∷ cs ≡ k ∷ rest
    go true is f = let same : cs ≡ rest = cc in ap (λ n. n ∷ cs) (eqb-true d k is) ∙ ap (λ l. k ∷ l) same
    go false is f = absurd cc

rest_after-other : (k d : ℕ) (cs : List ℕ) → rest_after k (d ∷ cs) ≡ None → (d == k) ≡ false
rest_after-other k d cs e = go (d == k) e
  where
    go : (b : Bool) → cond b (Some cs) None ≡ None → b ≡ false
    go true f = absurd cc
    go false f = refl

-- no longer operator begins with this one and the next character
longest-before : (o : Operator) (rest : List ℕ) → ((d : ℕ) (ds after : List ℕ) → rest ≡ d ∷ ds ++ after → is_operator (spelling o ++ d ∷ ds) ≡ false) → Longest o rest
longest-before o rest none longer [] after e split = refl
longest-before o rest none longer (d ∷ ds) after e split =
    let yes : is_operator (spelling o ++ d ∷ ds) ≡ true = ap is_operator (sym e) ∙ is_operator-spelling longer in
    let no = none d ds after split in
    absurd cc

-- an operator that begins no other
longest-alone : (o : Operator) (rest : List ℕ) → ((d : ℕ) (ds : List ℕ) → is_operator (spelling o ++ d ∷ ds) ≡ false) → Longest o rest
longest-alone o rest none = longest-before o rest (λ d ds after split. none d ds)

-- a longer operator would have been read
rest_after-none : (o longer : Operator) (k : ℕ) (rest : List ℕ) → spelling longer ≡ spelling o ++ k ∷ [] → Longest o rest → rest_after k rest ≡ None
rest_after-none o longer k [] e long = refl
rest_after-none o longer k (d ∷ ds) e long = go (d == k) refl
  where
    go : (b : Bool) → (d == k) ≡ b → cond b (Some ds) None ≡ None
    go true is = let none : k ∷ [] ≡ [] = long longer (k ∷ []) ds e (ap (λ n. n ∷ ds) (eqb-true d k is)) in absurd cc
    go false is = refl

before-one : (o : Operator) (k : ℕ) (rest : List ℕ) → rest_after k rest ≡ None → ((d : ℕ) (ds : List ℕ) → (d == k) ≡ false → is_operator (spelling o ++ d ∷ ds) ≡ false) → Longest o rest
before-one o k rest none short = longest-before o rest (λ d ds after split. short d ds (rest_after-other k d (ds ++ after) (ap (rest_after k) (sym split) ∙ none)))

before-two : (o : Operator) (k m : ℕ) (rest : List ℕ) → rest_after k rest ≡ None → rest_after m rest ≡ None
    → ((d : ℕ) (ds : List ℕ) → (d == k) ≡ false → (d == m) ≡ false → is_operator (spelling o ++ d ∷ ds) ≡ false) → Longest o rest
before-two o k m rest none other short =
    longest-before o rest (λ d ds after split. short d ds (rest_after-other k d (ds ++ after) (ap (rest_after k) (sym split) ∙ none)) (rest_after-other m d (ds ++ after) (ap (rest_after m) (sym split) ∙ other)))

both-false : (a b p q : Bool) → a ≡ false → b ≡ false → ((a && p) || ((b && q) || false)) ≡ false
both-false true b p q x y = absurd cc
both-false false true p q x y = absurd cc
both-false false false p q x y = refl

one-false : (a p : Bool) → a ≡ false → ((a && p) || false) ≡ false
one-false true p x = absurd cc
one-false false p x = refl

-- ---- what is found

-- the text is a spelled operator, the longest there, and this rest
abbrev pub IsOperator : List ℕ → Operator × List ℕ → Type 0
IsOperator text found = (text ≡ spelling found.0 ++ found.1) × Longest found.0 found.1

longer_operator-found : (shorter longer : Operator) (k : ℕ) (cs : List ℕ) → spelling longer ≡ spelling shorter ++ k ∷ [] → (rest_after k cs ≡ None → Longest shorter cs) → ((rest : List ℕ) → Longest longer rest)
    → IsOperator (spelling shorter ++ cs) (longer_operator k longer shorter cs)
longer_operator-found shorter longer k cs e short long =
    by-sound (IsOperator (spelling shorter ++ cs)) (rest_after k cs) (shorter, cs) (λ rest. (longer, rest))
    (λ none. (refl, short none))
    (λ rest is. (ap (λ l. spelling shorter ++ l) (rest_after-found k cs rest is) ∙ sym (append_assoc (spelling shorter) (k ∷ []) rest) ∙ ap (λ w. w ++ rest) (sym e), long rest))

after_equals-found : (cs : List ℕ) → IsOperator (61 ∷ cs) (after_equals cs)
after_equals-found cs =
    by-sound (IsOperator (61 ∷ cs)) (rest_after 61 cs) (op.Assign, cs) (longer_operator 61 op.Identical op.Equal)
    (λ none. (refl, before-one op.Assign 61 cs none (λ d ds no. both-false _ _ _ _ no no)))
    (λ rest is. subst (λ l. IsOperator (61 ∷ l) (longer_operator 61 op.Identical op.Equal rest)) (sym (rest_after-found 61 cs rest is))
    (longer_operator-found op.Equal op.Identical 61 rest refl (λ none. before-one op.Equal 61 rest none (λ d ds no. one-false _ _ no)) (λ after. longest-alone op.Identical after (λ d ds. refl))))

after_exclamation-found : (cs : List ℕ) → IsOperator (33 ∷ cs) (after_exclamation cs)
after_exclamation-found cs =
    by-sound (IsOperator (33 ∷ cs)) (rest_after 61 cs) (op.Not, cs) (longer_operator 61 op.NotIdentical op.NotEqual)
    (λ none. (refl, before-one op.Not 61 cs none (λ d ds no. both-false _ _ _ _ no no)))
    (λ rest is. subst (λ l. IsOperator (33 ∷ l) (longer_operator 61 op.NotIdentical op.NotEqual rest)) (sym (rest_after-found 61 cs rest is))
    (longer_operator-found op.NotEqual op.NotIdentical 61 rest refl (λ none. before-one op.NotEqual 61 rest none (λ d ds no. one-false _ _ no)) (λ after. longest-alone op.NotIdentical after (λ d ds. refl))))

less-found : (cs : List ℕ) → IsOperator (60 ∷ cs) (after_angle op.Subtype op.LessEqual op.Less cs)
less-found cs =
    by-sound (IsOperator (60 ∷ cs)) (rest_after 58 cs) (longer_operator 61 op.LessEqual op.Less cs) (λ rest. (op.Subtype, rest))
    (λ none. longer_operator-found op.Less op.LessEqual 61 cs refl (λ other. before-two op.Less 58 61 cs none other (λ d ds x y. both-false _ _ _ _ x y)) (λ after. longest-alone op.LessEqual after (λ d ds. refl)))
    (λ rest is. (ap (λ l. 60 ∷ l) (rest_after-found 58 cs rest is), longest-alone op.Subtype rest (λ d ds. refl)))

greater-found : (cs : List ℕ) → IsOperator (62 ∷ cs) (after_angle op.Supertype op.GreaterEqual op.Greater cs)
greater-found cs =
    by-sound (IsOperator (62 ∷ cs)) (rest_after 58 cs) (longer_operator 61 op.GreaterEqual op.Greater cs) (λ rest. (op.Supertype, rest))
    (λ none. longer_operator-found op.Greater op.GreaterEqual 61 cs refl (λ other. before-two op.Greater 58 61 cs none other (λ d ds x y. both-false _ _ _ _ x y)) (λ after. longest-alone op.GreaterEqual after (λ d ds. refl)))
    (λ rest is. (ap (λ l. 62 ∷ l) (rest_after-found 58 cs rest is), longest-alone op.Supertype rest (λ d ds. refl)))

colon-found : (cs : List ℕ) → IsOperator (58 ∷ cs) (longer_operator 58 op.HasType op.Colon cs)
colon-found cs =
    longer_operator-found op.Colon op.HasType 58 cs refl (λ none. before-one op.Colon 58 cs none (λ d ds no. one-false _ _ no)) (λ after. longest-alone op.HasType after (λ d ds. refl))

abbrev IfOperator : List ℕ → Option (Operator × List ℕ) → Type 0
IfOperator text None = Unit {0}
IfOperator text (Some found) = IsOperator text found

double_operator-found : (c : ℕ) (both : Operator) (cs : List ℕ) → spelling both ≡ c ∷ c ∷ [] → ((rest : List ℕ) → Longest both rest) → IfOperator (c ∷ cs) (double_operator c both cs)
double_operator-found c both cs e long =
    by-sound (IfOperator (c ∷ cs)) (rest_after c cs) None (λ rest. Some (both, rest))
    (λ none. tt)
    (λ rest is. (ap (λ l. c ∷ l) (rest_after-found c cs rest is) ∙ ap (λ w. w ++ rest) (sym e), long rest))

-- an operator that is one character and begins no other
abbrev IsMark : ℕ → Operator → Type 0
IsMark c o = (spelling o ≡ c ∷ []) × ((d : ℕ) (ds : List ℕ) → is_operator (spelling o ++ d ∷ ds) ≡ false)

abbrev AreMarks : List (ℕ × Operator) → Type 0
AreMarks = AllByRecursion (λ m. IsMark m.0 m.1)

are-single_operators : AreMarks single_operators
are-single_operators = ((refl, λ d ds. refl), ((refl, λ d ds. refl), ((refl, λ d ds. refl), ((refl, λ d ds. refl), ((refl, λ d ds. refl), ((refl, λ d ds. refl), ((refl, λ d ds. refl), ((refl, λ d ds. refl), ((refl, λ d ds. refl), ((refl, λ d ds. refl), ((refl, λ d ds. refl), ((refl, λ d ds. refl), ((refl, λ d ds. refl), ((refl, λ d ds. refl), ((refl, λ d ds. refl), tt)))))))))))))))

abbrev IfMark : ℕ → Option Operator → Type 0
IfMark c None = Unit {0}
IfMark c (Some o) = IsMark c o

look_up-found : (c : ℕ) (ms : List (ℕ × Operator)) → AreMarks ms → IfMark c (look_up c ms)
look_up-found c [] all = tt
look_up-found c (m ∷ ms) all =
    if-sound (IfMark c) (c == m.0) (Some m.1) (look_up c ms)
    (λ is. subst (λ k. IsMark k m.1) (sym (eqb-true c m.0 is)) all.0)
    (λ no. look_up-found c ms all.1)

single_operator-found : (c : ℕ) (cs : List ℕ) → IfOperator (c ∷ cs) (by (single_operator c) None (λ single. Some (single, cs)))
single_operator-found c cs =
    by-sound (IfOperator (c ∷ cs)) (single_operator c) None (λ single. Some (single, cs))
    (λ none. tt)
    (λ o is. let m : IsMark c o = subst (IfMark c) is (look_up-found c single_operators are-single_operators) in (ap (λ w. w ++ cs) (sym m.0), longest-alone o cs m.1))

operator-found : (c : ℕ) (cs : List ℕ) → IfOperator (c ∷ cs) (operator c cs)
operator-found c cs =
    if-sound (IfOperator (c ∷ cs)) (c == 61) _ _ (λ is. subst (λ k. IfOperator (k ∷ cs) (Some (after_equals cs))) (sym (eqb-true c 61 is)) (after_equals-found cs))
    (λ _. if-sound (IfOperator (c ∷ cs)) (c == 33) _ _ (λ is. subst (λ k. IfOperator (k ∷ cs) (Some (after_exclamation cs))) (sym (eqb-true c 33 is)) (after_exclamation-found cs))
    (λ _. if-sound (IfOperator (c ∷ cs)) (c == 60) _ _ (λ is. subst (λ k. IfOperator (k ∷ cs) (Some (after_angle op.Subtype op.LessEqual op.Less cs))) (sym (eqb-true c 60 is)) (less-found cs))
    (λ _. if-sound (IfOperator (c ∷ cs)) (c == 62) _ _ (λ is. subst (λ k. IfOperator (k ∷ cs) (Some (after_angle op.Supertype op.GreaterEqual op.Greater cs))) (sym (eqb-true c 62 is)) (greater-found cs))
    (λ _. if-sound (IfOperator (c ∷ cs)) (c == 58) _ _ (λ is. subst (λ k. IfOperator (k ∷ cs) (Some (longer_operator 58 op.HasType op.Colon cs))) (sym (eqb-true c 58 is)) (colon-found cs))
    (λ _. if-sound (IfOperator (c ∷ cs)) (c == 38) _ _ (λ is. subst (λ k. IfOperator (k ∷ cs) (double_operator 38 op.And cs)) (sym (eqb-true c 38 is)) (double_operator-found 38 op.And cs refl (λ rest. longest-alone op.And rest (λ d ds. refl))))
    (λ _. if-sound (IfOperator (c ∷ cs)) (c == 124) _ _ (λ is. subst (λ k. IfOperator (k ∷ cs) (double_operator 124 op.Or cs)) (sym (eqb-true c 124 is)) (double_operator-found 124 op.Or cs refl (λ rest. longest-alone op.Or rest (λ d ds. refl))))
    (λ _. single_operator-found c cs)))))))

-- what was found is the longest operator at the front
pub operator-is : (c : ℕ) (cs : List ℕ) (found : Operator × List ℕ) → operator c cs ≡ Some found → IsOperator (c ∷ cs) found
operator-is c cs found e = subst (IfOperator (c ∷ cs)) e (operator-found c cs)

-- where none was found, none stands there
pub operator-none : (c : ℕ) (cs : List ℕ) → operator c cs ≡ None → (o : Operator) (rest : List ℕ) → c ∷ cs ≡ spelling o ++ rest → ⊥
operator-none c cs none o rest e =
    let yes : is_some (operator_text (c ∷ cs)) ≡ true = ap (λ t. is_some (operator_text t)) e ∙ some-operator o rest in
    let no : is_some (operator_text (c ∷ cs)) ≡ false = ap is_some none in
    absurd cc

-- ---- the longest operator is read whole

pub operator-goes : (o : Operator) (rest : List ℕ) → Longest o rest → operator_text (spelling o ++ rest) ≡ Some (o, rest)
operator-goes op.Identical rest long = refl
operator-goes op.NotIdentical rest long = refl
operator-goes op.HasType rest long = refl
operator-goes op.Subtype rest long = refl
operator-goes op.Supertype rest long = refl
operator-goes op.Equal rest long = ap (λ b. Some (by b (op.Equal, rest) (λ r. (op.Identical, r)))) (rest_after-none op.Equal op.Identical 61 rest refl long)
operator-goes op.NotEqual rest long = ap (λ b. Some (by b (op.NotEqual, rest) (λ r. (op.NotIdentical, r)))) (rest_after-none op.NotEqual op.NotIdentical 61 rest refl long)
operator-goes op.LessEqual rest long = refl
operator-goes op.GreaterEqual rest long = refl
operator-goes op.And rest long = refl
operator-goes op.Or rest long = refl
operator-goes op.Assign rest long = ap (λ b. Some (by b (op.Assign, rest) (longer_operator 61 op.Identical op.Equal))) (rest_after-none op.Assign op.Equal 61 rest refl long)
operator-goes op.Less rest long = ap (λ b. Some (by b (longer_operator 61 op.LessEqual op.Less rest) (λ r. (op.Subtype, r)))) (rest_after-none op.Less op.Subtype 58 rest refl long) ∙ ap (λ b. Some (by b (op.Less, rest) (λ r. (op.LessEqual, r)))) (rest_after-none op.Less op.LessEqual 61 rest refl long)
operator-goes op.Greater rest long = ap (λ b. Some (by b (longer_operator 61 op.GreaterEqual op.Greater rest) (λ r. (op.Supertype, r)))) (rest_after-none op.Greater op.Supertype 58 rest refl long) ∙ ap (λ b. Some (by b (op.Greater, rest) (λ r. (op.GreaterEqual, r)))) (rest_after-none op.Greater op.GreaterEqual 61 rest refl long)
operator-goes op.Plus rest long = refl
operator-goes op.Minus rest long = refl
operator-goes op.Times rest long = refl
operator-goes op.Divide rest long = refl
operator-goes op.Remainder rest long = refl
operator-goes op.Not rest long = ap (λ b. Some (by b (op.Not, rest) (longer_operator 61 op.NotIdentical op.NotEqual))) (rest_after-none op.Not op.NotEqual 61 rest refl long)
operator-goes op.Question rest long = refl
operator-goes op.Colon rest long = ap (λ b. Some (by b (op.Colon, rest) (λ r. (op.HasType, r)))) (rest_after-none op.Colon op.HasType 58 rest refl long)
operator-goes op.Dot rest long = refl
operator-goes op.Comma rest long = refl
operator-goes op.Semicolon rest long = refl
operator-goes op.OpenParen rest long = refl
operator-goes op.CloseParen rest long = refl
operator-goes op.OpenBracket rest long = refl
operator-goes op.CloseBracket rest long = refl
operator-goes op.OpenBrace rest long = refl
operator-goes op.CloseBrace rest long = refl
