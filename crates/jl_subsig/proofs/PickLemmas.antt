-- Loops that pick some members of a list, in their order.
use Rattle.std.proofs.Common.{◌≡◌, ◌∙◌, ap, sym, subst, ℕ, ◌+◌, ◌-◌, ◌<◌, ◌≤◌, List, [], ◌∷◌, ◌++◌, length, take, drop, get_or, append_assoc, append-nil}
use Rattle.std.proofs.Math.Seq.{take-length}
use Rattle.std.proofs.lemmas.List.{drop_more, drop_all, length-drop}
use Rattle.jl_subsig.specs.Side.{Every}

module _ {X : Type 0} (Picks : List X → List X → Type 0) (xs : List X) where
  -- what is picked from the rest comes after what was picked so far
  abbrev pub GoesOn : List X → ℕ → Type 0
  GoesOn some k = (rest : List X) → Picks (drop k xs) rest → Picks xs (some ++ rest)

  module _ (some : List X) (i : ℕ) (x : X) (l : i < length xs) where
    abbrev this : X
    this = get_or xs i x

    at : drop i xs ≡ this ∷ drop (i + 1) xs
    at = drop_more xs i x l

    -- a member is passed over
    pub goes_over : GoesOn some i → ((rest : List X) → Picks (drop (i + 1) xs) rest → Picks (this ∷ drop (i + 1) xs) rest) → GoesOn some (i + 1)
    goes_over goes step rest p = goes rest (subst (λ ys. Picks ys rest) (sym at) (step rest p))

    -- a member is picked
    pub goes_more : GoesOn some i → ((rest : List X) → Picks (drop (i + 1) xs) rest → Picks (this ∷ drop (i + 1) xs) (this ∷ rest)) → (more : List X) → more ≡ some ++ this ∷ [] → GoesOn more (i + 1)
    goes_more goes step more m rest p =
        subst (Picks xs) (sym (ap (λ ys. ys ++ rest) m ∙ append_assoc some (this ∷ []) rest))
        (goes (this ∷ rest) (subst (λ ys. Picks ys (this ∷ rest)) (sym at) (step rest p)))

  -- at the end
  pub goes_whole : (some : List X) (i : ℕ) → length xs ≤ i → Picks [] [] → GoesOn some i → Picks xs some
  goes_whole some i l end goes = subst (Picks xs) (append-nil some) (goes [] (subst (λ ys. Picks ys []) (sym (drop_all i xs l)) end))

-- what every one of the rest has
pub every_rest : {X : Type 0} (Is : X → Type 0) (xs : List X) (i : ℕ) (x : X) → i < length xs → Every Is (drop i xs) → Is (get_or xs i x) × Every Is (drop (i + 1) xs)
every_rest Is xs i x l h = subst (Every Is) (drop_more xs i x l) h

-- a slice to the end
pub slice_end : {X : Type 0} (n : ℕ) (xs : List X) → take (length xs - n) (drop n xs) ≡ drop n xs
slice_end n xs = ap (λ k. take k (drop n xs)) (sym (length-drop n xs)) ∙ take-length (drop n xs)
