-- Slots in chunks.
use Rattle.std.proofs.Common.{◌≡◌, ◌∙◌, sym, ap, refl, map, ℕ, zero, suc, add-one, ◌+◌, ◌-◌, ◌<◌, ◌≤◌, arith, List, [], ◌∷◌, ◌++◌, length, drop, get_or}
use Rattle.std.proofs.lemmas.List.{get_or-drop, append_assoc, length-append}
use Rattle.std.proofs.Math.ListN.{get_or-map}
use Rattle.jl_program.specs.declared.value.Value.{Value}
use Rattle.jl_program.specs.Meaning.{datum}
use Rattle.jl_program.specs.Seen.{join}

abbrev Chunk : Type 0
Chunk = List Value

-- past the first chunk
pub past_chunk : {A : Type 0} (c xs : List A) (left : ℕ) → length c ≤ left → drop left (c ++ xs) ≡ drop (left - length c) xs
past_chunk [] xs left h = ap (λ n. drop n xs) (omega arith)
past_chunk (x ∷ c) xs zero h = absurd (omega arith)
past_chunk (x ∷ c) xs (suc left) h = past_chunk c xs left (omega (arith, h)) ∙ ap (λ n. drop n xs) (omega arith)

-- in the first chunk
pub in_chunk : {A : Type 0} (c xs : List A) (i : ℕ) (v : A) → i < length c → get_or (c ++ xs) i v ≡ get_or c i v
in_chunk [] xs i v h = absurd (omega arith)
in_chunk (x ∷ c) xs zero v h = refl
in_chunk (x ∷ c) xs (suc i) v h = in_chunk c xs i v (omega (arith, h))

at_zero : {A : Type 0} (xs : List A) (i : ℕ) (v : A) → get_or (drop i xs) 0 v ≡ get_or xs i v
at_zero xs i v = get_or-drop i xs 0 v ∙ ap (λ n. get_or xs n v) (omega arith)

-- a slot is where as much is left
pub same_left : (xs ys : List Value) (slot left : ℕ) (v : Value) → drop slot xs ≡ drop left ys → v ≡ get_or ys left v → datum v ≡ get_or (map datum xs) slot (datum v)
same_left xs ys slot left v e f =
    ap datum (f ∙ sym (at_zero ys left v) ∙ ap (λ zs. get_or zs 0 v) (sym e) ∙ at_zero xs slot v) ∙ sym (get_or-map datum xs slot v)

-- from a chunk on
pub from_chunk : {A : Type 0} (cs : List (List A)) (r c : List A) (i : ℕ) → i < length cs → c ≡ get_or cs i c → join (drop i cs) ++ r ≡ c ++ (join (drop (i + 1) cs) ++ r)
from_chunk [] r c i h e = absurd (omega arith)
from_chunk (b ∷ cs) r c zero h e = ap (λ z. (z ++ join cs) ++ r) (sym e) ∙ append_assoc c (join cs) r
from_chunk (b ∷ cs) r c (suc i) h e = rw add-one (rw add-one at (from_chunk cs r c i (omega arith) e))

-- a slot in a chunk, and one past it
pub slot_in_chunk : (cs : List Chunk) (r : List Value) (i slot left : ℕ) (c : Chunk) (v : Value) → i < length cs → c ≡ get_or cs i c → left < length c → v ≡ get_or c left v
    → drop slot (join cs ++ r) ≡ drop left (join (drop i cs) ++ r) → datum v ≡ get_or (map datum (join cs ++ r)) slot (datum v)
slot_in_chunk cs r i slot left c v h e k f g =
    same_left (join cs ++ r) (c ++ (join (drop (i + 1) cs) ++ r)) slot left v (g ∙ ap (drop left) (from_chunk cs r c i h e)) (f ∙ sym (in_chunk c (join (drop (i + 1) cs) ++ r) left v k))

pub slot_past_chunk : (cs : List Chunk) (r : List Value) (i slot left : ℕ) (c : Chunk) → i < length cs → c ≡ get_or cs i c → length c ≤ left
    → drop slot (join cs ++ r) ≡ drop left (join (drop i cs) ++ r) → drop slot (join cs ++ r) ≡ drop (left - length c) (join (drop (i + 1) cs) ++ r)
slot_past_chunk cs r i slot left c h e k g = g ∙ ap (drop left) (from_chunk cs r c i h e) ∙ past_chunk c (join (drop (i + 1) cs) ++ r) left k

pub less_left : (cs : List Chunk) (r : List Value) (i left : ℕ) (c : Chunk) → i < length cs → c ≡ get_or cs i c → length c ≤ left → left < length (join (drop i cs) ++ r)
    → left - length c < length (join (drop (i + 1) cs) ++ r)
less_left cs r i left c h e k g = omega (arith, ap length (from_chunk cs r c i h e), length-append c (join (drop (i + 1) cs) ++ r))
