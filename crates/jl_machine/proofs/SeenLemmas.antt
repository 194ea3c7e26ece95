-- Chunk after chunk of what a task sees is opened.
use Rattle.std.proofs.Common.{◌≡◌, ◌∙◌, sym, ap, ℕ, ◌+◌, ◌<◌, List, ◌++◌, length, drop, get_or}
use Rattle.std.proofs.lemmas.List.{append_assoc}
use Rattle.jl_program.specs.declared.value.Value.{Value}
use Rattle.jl_program.specs.Seen.{join}
use Rattle.jl_program.proofs.EnvLemmas.{from_chunk}
use Rattle.jl_frames.specs.Held.{Held, with_open}

-- these values are opened above those that are
abbrev pub with_more : Held → List Value → Held
with_more h vs = with_open h (h.open_values ++ vs)

pub opened_more : (f g : Held) (cs : List (List Value)) (r c : List Value) (i : ℕ) → i < length cs → c ≡ get_or cs i c → g ≡ with_more f c
    → with_more g (join (drop (i + 1) cs) ++ r) ≡ with_more f (join (drop i cs) ++ r)
opened_more f g cs r c i lt e is =
    let left : List Value = join (drop (i + 1) cs) ++ r in
    ap (λ h. with_more h left) is ∙ ap (with_open f) (append_assoc f.open_values c left ∙ ap (λ z. f.open_values ++ z) (sym (from_chunk cs r c i lt e)))
