-- What the functions of this crate find where an operator may stand: the longest at the front of a text.
use Rattle.std.specs.Prelude.{ℕ, ◌==◌, if◌then◌else◌, List, [], ◌∷◌, Option, Some, None}
use Rattle.jl_token.specs.declared.token.Operator.{Operator}
use Rattle.jl_token.specs.declared.token.Operator.TheVariants as op

-- one of two answers, by whether there is a value
abbrev pub by : {A B : Type 0} → Option A → B → (A → B) → B
by None none some = none
by (Some x) none some = some x

-- what follows this character, where the text begins with it
abbrev pub rest_after : ℕ → List ℕ → Option (List ℕ)
rest_after c [] = None
rest_after c (d ∷ cs) = if d == c then Some cs else None

-- the longer operator where this character follows, else the shorter
abbrev pub longer_operator : ℕ → Operator → Operator → List ℕ → Operator × List ℕ
longer_operator c longer shorter cs = by (rest_after c cs) (shorter, cs) (λ rest. (longer, rest))

-- an operator of two equal characters, behind the first one
abbrev pub double_operator : ℕ → Operator → List ℕ → Option (Operator × List ℕ)
double_operator c both cs = by (rest_after c cs) None (λ rest. Some (both, rest))

-- `=`, `==` or `===`; `!`, `!=` or `!==`: behind the first character
abbrev pub after_equals : List ℕ → Operator × List ℕ
after_equals cs = by (rest_after 61 cs) (op.Assign, cs) (longer_operator 61 op.Identical op.Equal)

abbrev pub after_exclamation : List ℕ → Operator × List ℕ
after_exclamation cs = by (rest_after 61 cs) (op.Not, cs) (longer_operator 61 op.NotIdentical op.NotEqual)

-- `<:` or `>:`, or what compares: behind the first character
abbrev pub after_angle : Operator → Operator → Operator → List ℕ → Operator × List ℕ
after_angle bound or_equal strict cs = by (rest_after 58 cs) (longer_operator 61 or_equal strict cs) (λ rest. (bound, rest))

-- the operators that are one character and begin no other
abbrev pub single_operators : List (ℕ × Operator)
single_operators =
    (43, op.Plus) ∷ (45, op.Minus) ∷ (42, op.Times) ∷ (247, op.Divide) ∷ (37, op.Remainder) ∷ (63, op.Question) ∷ (46, op.Dot) ∷ (44, op.Comma) ∷ (59, op.Semicolon)
    ∷ (40, op.OpenParen) ∷ (41, op.CloseParen) ∷ (91, op.OpenBracket) ∷ (93, op.CloseBracket) ∷ (123, op.OpenBrace) ∷ (125, op.CloseBrace) ∷ []

-- what a table has at a character
abbrev pub look_up : ℕ → List (ℕ × Operator) → Option Operator
look_up c [] = None
look_up c (m ∷ ms) = if c == m.0 then Some m.1 else look_up c ms

-- the operator of this character, if it is one that begins no other
abbrev pub single_operator : ℕ → Option Operator
single_operator c = look_up c single_operators

-- the operator at the front of a text of this first character and this rest, and what follows it
abbrev pub operator : ℕ → List ℕ → Option (Operator × List ℕ)
operator c cs =
    if c == 61 then Some (after_equals cs)
    else (if c == 33 then Some (after_exclamation cs)
    else (if c == 60 then Some (after_angle op.Subtype op.LessEqual op.Less cs)
    else (if c == 62 then Some (after_angle op.Supertype op.GreaterEqual op.Greater cs)
    else (if c == 58 then Some (longer_operator 58 op.HasType op.Colon cs)
    else (if c == 38 then double_operator 38 op.And cs
    else (if c == 124 then double_operator 124 op.Or cs
    else by (single_operator c) None (λ single. Some (single, cs))))))))
