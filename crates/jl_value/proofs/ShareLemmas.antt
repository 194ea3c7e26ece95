-- Chunk after chunk.
use Rattle.std.proofs.Common.{◌≡◌, ◌∙◌, sym, ap, map, ℕ, ◌+◌, ◌*◌, arith, List, [], ◌∷◌, ◌++◌, take, drop}
use Rattle.std.proofs.lemmas.List.{append_assoc, append-nil, map-append, take-append-drop, drop-drop}
use Rattle.jl_program.specs.declared.value.Value.{Value}
use Rattle.jl_program.specs.Meaning.{datum}
use Rattle.jl_program.specs.Seen.{join}

join_more : {A : Type 0} (cs : List (List A)) (c : List A) → join (cs ++ c ∷ []) ≡ join cs ++ c
join_more [] c = append-nil c
join_more (b ∷ cs) c = ap (λ z. b ++ z) (join_more cs c) ∙ sym (append_assoc b (join cs) c)

apart : (xs ys zs : List Value) → map datum ((xs ++ ys) ++ zs) ≡ (map datum xs ++ map datum ys) ++ map datum zs
apart xs ys zs = map-append datum (xs ++ ys) zs ∙ ap (λ z. z ++ map datum zs) (map-append datum xs ys)

-- a chunk more, and the values that are left after it
pub next_chunk : (cs : List (List Value)) (c : List Value) (n : ℕ) (values : List Value) → map datum c ≡ map datum (take 64 (drop (n * 64) values))
    → map datum (join (cs ++ c ∷ []) ++ drop ((n + 1) * 64) values) ≡ map datum (join cs ++ drop (n * 64) values)
next_chunk cs c n values e =
    let left : List Value = drop (n * 64) values in
    let after : drop ((n + 1) * 64) values ≡ drop 64 left = ap (λ k. drop k values) (omega arith) ∙ sym (drop-drop 64 (n * 64) values) in
    ap (λ z. map datum (z ++ drop ((n + 1) * 64) values)) (join_more cs c)
    ∙ ap (λ z. map datum ((join cs ++ c) ++ z)) after
    ∙ apart (join cs) c (drop 64 left)
    ∙ ap (λ z. (map datum (join cs) ++ z) ++ map datum (drop 64 left)) e
    ∙ sym (apart (join cs) (take 64 left) (drop 64 left))
    ∙ ap (map datum) (append_assoc (join cs) (take 64 left) (drop 64 left) ∙ ap (λ z. join cs ++ z) (take-append-drop 64 left))
