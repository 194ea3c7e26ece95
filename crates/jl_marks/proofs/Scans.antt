-- What follows a bracket's end is told by the closing brackets to the right.
use Rattle.std.proofs.Common.{◌≡◌, ◌∙◌, refl, sym, ap, Bool, true, false, cond, List, [], ◌∷◌, Option, None}
use Rattle.jl_typeread.specs.declared.terminal.Terminal.{Terminal}
use Rattle.jl_marks.specs.declared.scan.Closing.{Closing}
use Rattle.jl_marks.specs.declared.scan.Closing.TheVariants.{Ends, Wrong}
use Rattle.jl_grammar.specs.declared.mark.NextToken.{NextToken}
use Rattle.jl_grammar.specs.declared.mark.NextToken.TheVariants as F
use Rattle.jl_grammar.specs.declared.mark.Marks.{Marks}
use Rattle.jl_grammar.specs.declared.mark.Mate.{Mate}
use Rattle.jl_grammar.specs.declared.mark.Mate.TheVariants.{Opens, Closes, Neither}
use Rattle.jl_marks.specs.declared.scan.Near.{Near}
use Rattle.jl_marks.specs.declared.scan.Scan.{Scan}
use Rattle.jl_grammar.specs.declared.mark.Shape.{Shape}
use Rattle.jl_grammar.specs.Marks.{mate, is_same_shape, step_bracket, rest_after, round, next_of, next_after, marks_of}
use Rattle.jl_marks.specs.Scan.{pop_closing, closing_by, closing_of, answer, answer_of, next_after_match, near_of, all_marks, scan_all}

-- what follows the brackets that end these open ones, by the closing ones; the last is what follows at once
abbrev resolve : List Shape → List Closing → NextToken → NextToken
resolve [] ks f = f
resolve (c ∷ cs) [] f = F.Other
resolve (c ∷ cs) (Ends d g ∷ ks) f = cond (is_same_shape d c) (resolve cs ks g) F.Other
resolve (c ∷ cs) (Wrong ∷ ks) f = F.Other

-- with a bracket open, what follows at once does not matter
whatever : (c : Shape) (cs : List Shape) (ks : List Closing) (f g : NextToken) → resolve (c ∷ cs) ks f ≡ resolve (c ∷ cs) ks g
whatever c cs [] f g = refl
whatever c cs (Ends d x ∷ ks) f g = refl
whatever c cs (Wrong ∷ ks) f g = refl

kept_or_wrong : (b : Bool) (c : Shape) (cs : List Shape) (ks : List Closing) (f g : NextToken) → cond b (resolve (c ∷ cs) ks f) F.Other ≡ resolve (c ∷ cs) (cond b ks (Wrong ∷ [])) g
kept_or_wrong true c cs ks f g = whatever c cs ks f g
kept_or_wrong false c cs ks f g = refl

pop_closing_resolve : (d c : Shape) (cs : List Shape) (ks : List Closing) (f g : NextToken) → resolve (d ∷ c ∷ cs) ks f ≡ resolve (c ∷ cs) (pop_closing d ks) g
pop_closing_resolve d c cs [] f g = refl
pop_closing_resolve d c cs (Ends e x ∷ ks) f g = kept_or_wrong (is_same_shape e d) c cs ks x g
pop_closing_resolve d c cs (Wrong ∷ ks) f g = refl

closed_resolve : (b : Bool) (x : Option (List Terminal)) (f : NextToken) → next_after x ≡ f → next_after (cond b x None) ≡ cond b f F.Other
closed_resolve true x f e = e
closed_resolve false x f e = refl

step_bracket_resolve : (m : Mate) (f : NextToken) (ss : List Terminal) (c : Shape) (cs : List Shape)
    → ((ds : List Shape) → next_after (rest_after ss ds) ≡ resolve ds (closing_of ss) (next_of ss))
    → next_after (step_bracket m (rest_after ss) c cs) ≡ resolve (c ∷ cs) (closing_by m (next_of ss) (closing_of ss)) f
step_bracket_resolve (Opens d) f ss c cs h = h (d ∷ c ∷ cs) ∙ pop_closing_resolve d c cs (closing_of ss) (next_of ss) f
step_bracket_resolve (Closes d) f ss c cs h = closed_resolve (is_same_shape d c) (rest_after ss cs) (resolve cs (closing_of ss) (next_of ss)) (h cs)
step_bracket_resolve Neither f ss c cs h = h (c ∷ cs) ∙ whatever c cs (closing_of ss) (next_of ss) f

resolved : (ss : List Terminal) (cs : List Shape) → next_after (rest_after ss cs) ≡ resolve cs (closing_of ss) (next_of ss)
resolved ss [] = refl
resolved [] (c ∷ cs) = refl
resolved (s ∷ ss) (c ∷ cs) = step_bracket_resolve (mate s) (next_of (s ∷ ss)) ss c cs (resolved ss)

answer_resolve : (c : Shape) (ks : List Closing) (f : NextToken) → answer c ks ≡ resolve (c ∷ []) ks f
answer_resolve c [] f = refl
answer_resolve c (Ends d g ∷ ks) f = refl
answer_resolve c (Wrong ∷ ks) f = refl

-- what the pass answers is what follows the bracket's end
pub answered : (m : Mate) (ss : List Terminal) → answer_of m (closing_of ss) ≡ next_after_match m ss
answered (Opens c) ss = answer_resolve c (closing_of ss) (next_of ss) ∙ sym (resolved ss (c ∷ []))
answered (Closes c) ss = refl
answered Neither ss = refl

-- one token more to the left
pub turned : (s : Terminal) (ss : List Terminal) (scan : Scan) (over : NextToken) (closing : List Closing) (m : Mate) (near : Near) (marks : Marks) (all : List Marks)
    → scan ≡ scan_all ss
    → m ≡ mate s
    → over ≡ answer_of m scan.closing
    → closing ≡ closing_by m scan.near.told scan.closing
    → ((us : List Terminal) → scan.near ≡ near_of us → over ≡ next_after_match (mate s) us → near ≡ near_of (s ∷ us))
    → ((us : List Terminal) → scan.near ≡ near_of us → near.round ≡ next_after (round (s ∷ us)) → marks ≡ marks_of (s ∷ us))
    → all ≡ marks ∷ scan.marks
    → record { marks = all; closing = closing; near = near } ≡ scan_all (s ∷ ss)
turned s ss scan over closing m near marks all e em eo ec hn hm ht =
    let a : scan.near ≡ near_of ss = ap (λ x. x.near) e in
    let o : over ≡ next_after_match (mate s) ss =
    eo ∙ ap (λ k. answer_of k scan.closing) em ∙ ap (λ x. answer_of (mate s) x.closing) e ∙ answered (mate s) ss in
    let n : near ≡ near_of (s ∷ ss) = hn ss a o in
    let k : marks ≡ marks_of (s ∷ ss) = hm ss a (ap (λ x. x.round) n) in
    let c : closing ≡ closing_by (mate s) (next_of ss) (closing_of ss) =
    ec ∙ ap (λ x. closing_by x scan.near.told scan.closing) em ∙ ap (λ x. closing_by (mate s) x.near.told x.closing) e in
    let t : all ≡ marks_of (s ∷ ss) ∷ all_marks ss =
    ht ∙ ap (λ x. x ∷ scan.marks) k ∙ ap (λ x. marks_of (s ∷ ss) ∷ x.marks) e in
    λ i. record { marks = t i; closing = c i; near = n i }
