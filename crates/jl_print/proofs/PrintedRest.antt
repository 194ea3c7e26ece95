-- What is left to print of a list of forms.
use Rattle.std.proofs.Common.{◌≡◌, ℕ, zero, suc, List, ◌++◌, map, drop, Result, OnOk, ap, ◌∙◌, append_assoc}
use Rattle.std.specs.declared.alloc.AllocError.{AllocError}
use Rattle.jl_typeread.specs.declared.terminal.Terminal.{Terminal}
use Rattle.jl_print.specs.Printed.{join, join_more, branches_step, branches_more}

-- forms from a place on, with `,` before each but the one at place 0
abbrev pub joined_from : ℕ → List (List Terminal) → List Terminal
joined_from zero xs = join xs
joined_from (suc i) xs = join_more xs

-- the tokens of what is left of a list from a place on
abbrev pub rest : {X : Type 0} → (X → List Terminal) → List X → ℕ → List Terminal
rest f xs i = joined_from i (map f (drop i xs))

-- the tests of an `if` from a place on
abbrev pub branches_from : ℕ → List (List Terminal) → List Terminal
branches_from zero xs = branches_step xs
branches_from (suc i) xs = branches_more xs

-- a last piece after one
pub after-one : (r : Result (Unit {0}) AllocError) (old new mid a x : List Terminal) → mid ≡ old ++ a → OnOk r (new ≡ mid ++ x) → OnOk r (new ≡ old ++ (a ++ x))
after-one r old new mid a x e h =
    let regrouped : mid ++ x ≡ old ++ (a ++ x) = ap (λ z. z ++ x) e ∙ append_assoc old a x in
    rw (← regrouped) h

-- a last piece after three
pub after-three : (r : Result (Unit {0}) AllocError) (old new first second third a b c x : List Terminal) → first ≡ old ++ a → second ≡ first ++ b → third ≡ second ++ c → OnOk r (new ≡ third ++ x) → OnOk r (new ≡ old ++ (((a ++ b) ++ c) ++ x))
after-three r old new first second third a b c x e f g h =
    let two : second ≡ old ++ (a ++ b) = f ∙ ap (λ z. z ++ b) e ∙ append_assoc old a b in
    let three : third ≡ old ++ ((a ++ b) ++ c) = g ∙ ap (λ z. z ++ c) two ∙ append_assoc old (a ++ b) c in
    after-one r old new third ((a ++ b) ++ c) x three h
