-- The marks in one pass from the right: what is known of the tokens behind a token.
use Rattle.std.specs.Prelude.{if◌then◌else◌, List, [], ◌∷◌}
use Rattle.jl_typeread.specs.declared.terminal.Terminal.{Terminal}
use Rattle.jl_marks.specs.declared.scan.Closing.{Closing}
use Rattle.jl_marks.specs.declared.scan.Closing.TheVariants.{Ends, Wrong}
use Rattle.jl_grammar.specs.declared.mark.Marks.{Marks}
use Rattle.jl_grammar.specs.declared.mark.NextToken.{NextToken}
use Rattle.jl_grammar.specs.declared.mark.NextToken.TheVariants as F
use Rattle.jl_grammar.specs.declared.mark.Mate.{Mate}
use Rattle.jl_grammar.specs.declared.mark.Mate.TheVariants.{Opens, Closes, Neither}
use Rattle.jl_marks.specs.declared.scan.Near.{Near}
use Rattle.jl_marks.specs.declared.scan.Scan.{Scan}
use Rattle.jl_grammar.specs.declared.mark.Shape.{Shape}
use Rattle.jl_grammar.specs.Marks.{mate, is_same_shape, rest_after, round, curly, next_of, next_after, colon_head, dot_head, base_head, is_call, base_opening, threads_opening, after_name, marks_of}

-- the closing brackets that are left to the left of an opening one
abbrev pub pop_closing : Shape → List Closing → List Closing
pop_closing c [] = []
pop_closing c (Ends d f ∷ ks) = if is_same_shape d c then ks else Wrong ∷ []
pop_closing c (Wrong ∷ ks) = Wrong ∷ []

-- the closing brackets with one token more, behind which this follows
abbrev pub closing_by : Mate → NextToken → List Closing → List Closing
closing_by (Opens c) f ks = pop_closing c ks
closing_by (Closes c) f ks = Ends c f ∷ ks
closing_by Neither f ks = ks

-- the closing brackets whose opening ones do not stand in these tokens
abbrev pub closing_of : List Terminal → List Closing
closing_of [] = []
closing_of (s ∷ ss) = closing_by (mate s) (next_of ss) (closing_of ss)

-- what follows the bracket that ends an open one
abbrev pub answer : Shape → List Closing → NextToken
answer c [] = F.Other
answer c (Ends d f ∷ ks) = if is_same_shape d c then f else F.Other
answer c (Wrong ∷ ks) = F.Other

abbrev pub answer_of : Mate → List Closing → NextToken
answer_of (Opens c) ks = answer c ks
answer_of _ ks = F.Other

-- what follows the bracket that ends the one that a token opens
abbrev pub next_after_match : Mate → List Terminal → NextToken
next_after_match (Opens c) ss = next_after (rest_after ss (c ∷ []))
next_after_match _ ss = F.Other

-- what the marks of a token ask of the tokens behind it
abbrev pub near_of : List Terminal → Near
near_of ss = record {
  told = next_of ss;
  round = next_after (round ss);
  curly = next_after (curly ss);
  colon_head = next_after (colon_head ss);
  dot_head = next_after (dot_head ss);
  base_head = next_after (base_head ss);
  calls = is_call ss;
  base = base_opening ss;
  threads = threads_opening ss;
  named = after_name ss;
}

-- the marks of all of them
abbrev pub all_marks : List Terminal → List Marks
all_marks [] = []
all_marks (s ∷ ss) = marks_of (s ∷ ss) ∷ all_marks ss

abbrev pub scan_all : List Terminal → Scan
scan_all ss = record { marks = all_marks ss; closing = closing_of ss; near = near_of ss }
