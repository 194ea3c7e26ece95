-- What the marks of a token ask of the tokens behind it: where the same follows, the marks are the same.
use Rattle.std.proofs.Common.{◌≡◌, ℕ, Bool, true, false, cond, ◌&&◌, ◌||◌, codes, bytes_eq, List, [], ◌∷◌, ◌++◌, refl, sym, ap, ◌∙◌}
use Rattle.jl_token.specs.declared.token.Operator.{Operator}
use Rattle.jl_token.specs.declared.token.Operator.TheVariants as o
use Rattle.jl_typeread.specs.declared.terminal.Terminal.{Terminal}
use Rattle.jl_typeread.specs.declared.terminal.Terminal.TheVariants as S
use Rattle.jl_typeread.specs.declared.terminal.Word.TheVariants as w
use Rattle.jl_grammar.specs.declared.mark.Ahead.{Ahead}
use Rattle.jl_grammar.specs.declared.mark.Ahead.TheVariants as A
use Rattle.jl_grammar.specs.declared.mark.NextToken.{NextToken}
use Rattle.jl_grammar.specs.declared.mark.NextToken.TheVariants as F
use Rattle.jl_grammar.specs.declared.mark.Marks.{Marks}
use Rattle.jl_grammar.specs.declared.mark.Named.{Named}
use Rattle.jl_grammar.specs.declared.mark.Named.TheVariants as D
use Rattle.jl_grammar.specs.declared.mark.Opening.{Opening}
use Rattle.jl_grammar.specs.declared.mark.Opening.TheVariants as O
use Rattle.jl_grammar.specs.declared.mark.Shape.TheVariants.{Round, Curly}
use Rattle.jl_grammar.specs.Marks.{mate, mate_of, rest_after, next_of, next_as_word, next_as_operator, next_after, is_definition, is_subtype, is_function, is_base, is_paren, base_call, base_operator, opening_of, marks_of}
use Rattle.jl_marks.specs.declared.scan.Near.{Near}
use Rattle.jl_marks.specs.Scan.{next_after_match, near_of}
use Rattle.jl_print.proofs.Wholes.{Skipped}

-- the same follows, as far as marks ask
abbrev pub Like : List Terminal → List Terminal → Type 0
Like x y = near_of x ≡ near_of y

-- ---- one token more

abbrev function_follows : Bool → Near → NextToken
function_follows b n = cond b n.round F.Other

abbrev after_plain : NextToken → Opening → Near
after_plain f t = record {
  told = f;
  round = F.Other;
  curly = F.Other;
  colon_head = F.Other;
  dot_head = F.Other;
  base_head = F.Other;
  calls = false;
  base = O.Plain;
  threads = t;
  named = D.Alone;
}

abbrev after_name : List ℕ → Near → Near
after_name k n = record {
  told = F.Other;
  round = F.Other;
  curly = F.Other;
  colon_head = F.Other;
  dot_head = n.round;
  base_head = F.Other;
  calls = false;
  base = base_call n.calls k;
  threads = O.Plain;
  named = D.Alone;
}

abbrev round_by : Operator → NextToken → NextToken
round_by o.OpenParen m = m
round_by x m = F.Other

abbrev curly_by : Operator → NextToken → NextToken
curly_by o.OpenBrace m = m
curly_by x m = F.Other

abbrev colon_by : Operator → NextToken → NextToken
colon_by o.Colon m = m
colon_by x m = F.Other

abbrev dot_by : Operator → NextToken → NextToken
dot_by o.Dot m = m
dot_by x m = F.Other

abbrev named_by : Operator → Near → Named
named_by o.OpenParen n = D.Called
named_by o.OpenBrace n = D.Makes
named_by o.Assign n = D.Binds
named_by o.Dot n = D.Dotted n.base n.threads
named_by x n = D.Alone

abbrev after_operator : Operator → NextToken → Near → Near
after_operator x m n = record {
  told = next_as_operator x;
  round = round_by x m;
  curly = curly_by x m;
  colon_head = function_follows (is_function x) n;
  dot_head = colon_by x n.colon_head;
  base_head = dot_by x n.dot_head;
  calls = is_paren x;
  base = base_operator x;
  threads = O.Plain;
  named = named_by x n;
}

-- what the marks ask of a text, by its first token, what follows the bracket that it opens, and what they ask of the rest
abbrev near_after : Terminal → NextToken → Near → Near
near_after (S.Operator x) m n = after_operator x m n
near_after (S.Name k) m n = after_name k n
near_after (S.Word x) m n = after_plain (next_as_word x) O.Plain
near_after (S.Macro k) m n = after_plain F.Other (cond (bytes_eq k (codes "spawn")) O.Spawn O.Plain)
near_after s m n = after_plain F.Other O.Plain

operator-near : (x : Operator) (ss : List Terminal) → near_of (S.Operator x ∷ ss) ≡ after_operator x (next_after_match (mate_of x) ss) (near_of ss)
operator-near o.Dot ss = refl
operator-near x ss = refl

near-is : (s : Terminal) (ss : List Terminal) → near_of (s ∷ ss) ≡ near_after s (next_after_match (mate s) ss) (near_of ss)
near-is (S.Operator x) ss = operator-near x ss
near-is s ss = refl

pub like_cons : (s : Terminal) (x y : List Terminal) → next_after_match (mate s) x ≡ next_after_match (mate s) y → Like x y → Like (s ∷ x) (s ∷ y)
like_cons s x y m e = near-is s x ∙ ap (λ f. near_after s f (near_of x)) m ∙ ap (near_after s (next_after_match (mate s) y)) e ∙ sym (near-is s y)

-- behind a bracket that is opened only what follows its end is asked
pub like_paren : (x y : List Terminal) → next_after (rest_after x (Round ∷ [])) ≡ next_after (rest_after y (Round ∷ [])) → Like (S.Operator o.OpenParen ∷ x) (S.Operator o.OpenParen ∷ y)
like_paren x y m = near-is (S.Operator o.OpenParen) x ∙ ap (λ f. after_operator o.OpenParen f (near_of x)) m ∙ sym (near-is (S.Operator o.OpenParen) y)

pub like_brace : (x y : List Terminal) → next_after (rest_after x (Curly ∷ [])) ≡ next_after (rest_after y (Curly ∷ [])) → Like (S.Operator o.OpenBrace ∷ x) (S.Operator o.OpenBrace ∷ y)
like_brace x y m = near-is (S.Operator o.OpenBrace) x ∙ ap (λ f. after_operator o.OpenBrace f (near_of x)) m ∙ sym (near-is (S.Operator o.OpenBrace) y)

-- what follows the end of a bracket
pub round_end : (ss rest : List Terminal) → Skipped ss → next_after (rest_after (ss ++ S.Operator o.CloseParen ∷ rest) (Round ∷ [])) ≡ next_of rest
round_end ss rest h = ap next_after (h Round [] (S.Operator o.CloseParen ∷ rest))

pub curly_end : (ss rest : List Terminal) → Skipped ss → next_after (rest_after (ss ++ S.Operator o.CloseBrace ∷ rest) (Curly ∷ [])) ≡ next_of rest
curly_end ss rest h = ap next_after (h Curly [] (S.Operator o.CloseBrace ∷ rest))

pub like_next_of : (x y : List Terminal) → Like x y → next_of x ≡ next_of y
like_next_of x y e = ap (λ n. n.told) e

-- texts in brackets
pub like_round : (a c x y : List Terminal) → Skipped a → Skipped c → Like x y
    → Like (S.Operator o.OpenParen ∷ a ++ S.Operator o.CloseParen ∷ x) (S.Operator o.OpenParen ∷ c ++ S.Operator o.CloseParen ∷ y)
like_round a c x y f g e = like_paren (a ++ S.Operator o.CloseParen ∷ x) (c ++ S.Operator o.CloseParen ∷ y) (round_end a x f ∙ like_next_of x y e ∙ sym (round_end c y g))

pub like_curly : (a c x y : List Terminal) → Skipped a → Skipped c → Like x y
    → Like (S.Operator o.OpenBrace ∷ a ++ S.Operator o.CloseBrace ∷ x) (S.Operator o.OpenBrace ∷ c ++ S.Operator o.CloseBrace ∷ y)
like_curly a c x y f g e = like_brace (a ++ S.Operator o.CloseBrace ∷ x) (c ++ S.Operator o.CloseBrace ∷ y) (curly_end a x f ∙ like_next_of x y e ∙ sym (curly_end c y g))

-- ---- tokens behind which nothing is asked

-- a separator, a word that is no `where`, or the end
abbrev pub is_dull : Terminal → Bool
is_dull (S.Operator o.Semicolon) = true
is_dull (S.Operator x) = false
is_dull (S.Word w.Where) = false
is_dull (S.Word x) = true
is_dull S.Newline = true
is_dull S.End = true
is_dull s = false

pub dull_near : (s : Terminal) (x : List Terminal) → is_dull s ≡ true → near_of (s ∷ x) ≡ near_of []
dull_near (S.Operator o.Semicolon) x e = refl
dull_near (S.Operator k) x e = absurd cc
dull_near (S.Word w.Where) x e = absurd cc
dull_near (S.Word k) x e = refl
dull_near S.Newline x e = refl
dull_near S.End x e = refl
dull_near (S.Name n) x e = absurd cc
dull_near (S.Number n) x e = absurd cc
dull_near (S.Text t) x e = absurd cc
dull_near (S.Macro n) x e = absurd cc

pub like_dull : (s t : Terminal) (x y : List Terminal) → is_dull s ≡ true → is_dull t ≡ true → Like (s ∷ x) (t ∷ y)
like_dull s t x y e f = dull_near s x e ∙ sym (dull_near t y f)

-- ---- the marks themselves

abbrev name_ahead : List ℕ → Near → Ahead
name_ahead k n =
    cond (is_definition n.round || (is_base k && is_definition n.base_head)) A.Method (cond (is_subtype n.told || is_subtype n.curly) A.Sub A.Nothing)

abbrev name_marks : List ℕ → Near → Marks
name_marks k n = record { opening = opening_of n.named k; ahead = name_ahead k n }

pub marks_name : (k : List ℕ) (x y : List Terminal) → Like x y → marks_of (S.Name k ∷ x) ≡ marks_of (S.Name k ∷ y)
marks_name k x y e = ap (name_marks k) e

abbrev paren_marks : NextToken → Marks
paren_marks f = record { opening = O.Plain; ahead = cond (is_subtype f) A.Sub A.Nothing }

pub marks_paren : (x y : List Terminal) → next_after (rest_after x (Round ∷ [])) ≡ next_after (rest_after y (Round ∷ []))
    → marks_of (S.Operator o.OpenParen ∷ x) ≡ marks_of (S.Operator o.OpenParen ∷ y)
marks_paren x y e = ap paren_marks e

pub marks_round : (a c x y : List Terminal) → Skipped a → Skipped c → Like x y
    → marks_of (S.Operator o.OpenParen ∷ a ++ S.Operator o.CloseParen ∷ x) ≡ marks_of (S.Operator o.OpenParen ∷ c ++ S.Operator o.CloseParen ∷ y)
marks_round a c x y f g e = marks_paren (a ++ S.Operator o.CloseParen ∷ x) (c ++ S.Operator o.CloseParen ∷ y) (round_end a x f ∙ like_next_of x y e ∙ sym (round_end c y g))

-- the marks of any token
operator-marks : (k : Operator) (x y : List Terminal) → next_after_match (mate_of k) x ≡ next_after_match (mate_of k) y → marks_of (S.Operator k ∷ x) ≡ marks_of (S.Operator k ∷ y)
operator-marks o.OpenParen x y m = marks_paren x y m
operator-marks k x y m = refl

pub marks_like : (s : Terminal) (x y : List Terminal) → next_after_match (mate s) x ≡ next_after_match (mate s) y → Like x y → marks_of (s ∷ x) ≡ marks_of (s ∷ y)
marks_like (S.Name k) x y m e = marks_name k x y e
marks_like (S.Operator k) x y m e = operator-marks k x y m
marks_like s x y m e = refl
