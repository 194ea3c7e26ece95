-- How the bytes of several reads or writes after one another go together.
use Rattle.std.proofs.Common.{◌≡◌, ℕ, ◌+◌, ◌<◌, ◌≤◌, List, [], ◌∷◌, ◌++◌, Option, None, Some, option_map, IfSome, Result, Ok, Err, OnErr, length, take, drop, refl, sym, ap, ◌∙◌, append_assoc, append-nil, inl, inr}
use Rattle.std.proofs.Math.Nat.{eq-or-lt_of_le}
use Rattle.std.proofs.Math.Seq.{take-append-add, take-add, take-append_seam}
use Rattle.std.proofs.lemmas.List.{take-append-drop, drop-drop, take_all}
use Rattle.jl_io.specs.Moved.{Gives, Takes, NothingLeft}

-- two steps under what is known are one step
pub option_map-append : (xs ys : List ℕ) (known : Option (List ℕ))
    → option_map (λ rest. xs ++ rest) (option_map (λ rest. ys ++ rest) known) ≡ option_map (λ rest. (xs ++ ys) ++ rest) known
option_map-append xs ys None = refl
option_map-append xs ys (Some rest) = ap Some (sym (append_assoc xs ys rest))

pub option_map-append-end : (xs ys : List ℕ) (known : Option (List ℕ))
    → option_map (λ so_far. so_far ++ ys) (option_map (λ so_far. so_far ++ xs) known) ≡ option_map (λ so_far. so_far ++ (xs ++ ys)) known
option_map-append-end xs ys None = refl
option_map-append-end xs ys (Some so_far) = ap Some (append_assoc so_far xs ys)

-- no read gives nothing
pub Gives-none : (known : Option (List ℕ)) → Gives known [] known
Gives-none None = refl
Gives-none (Some rest) = refl

-- two reads give what the first and then what the second gave
pub Gives-append : (before between after : Option (List ℕ)) (xs ys : List ℕ)
    → Gives before xs between → Gives between ys after → Gives before (xs ++ ys) after
Gives-append before between after xs ys first second =
    first ∙ ap (λ known. option_map (λ rest. xs ++ rest) known) second ∙ option_map-append xs ys after

-- what a read that told what it had left has left is told too
pub Gives-known : (all bytes : List ℕ) (after : Option (List ℕ))
    → Gives (Some all) bytes after → (rest : List ℕ) × (after ≡ Some rest) × (all ≡ bytes ++ rest)
Gives-known all bytes None gives = absurd (cc)
Gives-known all bytes (Some rest) gives = (rest, refl, cc)

-- where nothing is left after, the bytes are all that there was
pub Gives-all : (all bytes : List ℕ) (after : Option (List ℕ))
    → Gives (Some all) bytes after → NothingLeft after → all ≡ bytes
Gives-all all bytes None gives nothing = absurd (cc)
Gives-all all bytes (Some rest) gives nothing =
    let whole : all ≡ bytes ++ rest = cc in
    let trailing : bytes ++ rest ≡ bytes ++ [] = ap (λ ys. bytes ++ ys) nothing in
    whole ∙ trailing ∙ append-nil bytes

-- the same where it is not known whether the source tells
pub Gives-whole : (before after : Option (List ℕ)) (bytes : List ℕ)
    → Gives before bytes after → NothingLeft after → IfSome before (λ all. all ≡ bytes)
Gives-whole None after bytes gives nothing = tt
Gives-whole (Some all) after bytes gives nothing = Gives-all all bytes after gives nothing

-- a list and the rest after it, of which there is none below the limit
limited : (bytes rest : List ℕ) (most : ℕ) → length bytes ≤ most → (length bytes < most → rest ≡ [])
    → bytes ≡ take most (bytes ++ rest)
limited bytes rest most within ended = elim (eq-or-lt_of_le within) [
  | inl full ↦ rw (← full) (sym (take-append_seam bytes rest))
  | inr below ↦ rw (ended below, append-nil bytes) (sym (take_all most bytes within))
]

-- bytes up to a limit, fewer only at the end, are the first ones of what was left
pub Gives-limited : (before after : Option (List ℕ)) (bytes : List ℕ) (most : ℕ)
    → Gives before bytes after → length bytes ≤ most → (length bytes < most → NothingLeft after)
    → IfSome before (λ all. bytes ≡ take most all)
Gives-limited None after bytes most gives within ended = tt
Gives-limited (Some all) None bytes most gives within ended = absurd (cc)
Gives-limited (Some all) (Some rest) bytes most gives within ended =
    let whole : all ≡ bytes ++ rest = cc in
    rw whole (limited bytes rest most within ended)

-- the last part of an empty list is empty
pub append-empty : (xs ys : List ℕ) → xs ++ ys ≡ [] → ys ≡ []
append-empty [] ys empty = empty
append-empty (x ∷ xs) ys empty = cc

-- a read of no bytes at the end leaves nothing
pub Gives-nothing : (bytes : List ℕ) (before after : Option (List ℕ))
    → NothingLeft before → Gives before bytes after → NothingLeft after
Gives-nothing bytes before None nothing gives = tt
Gives-nothing bytes None (Some rest) nothing gives = absurd (cc)
Gives-nothing bytes (Some all) (Some rest) nothing gives =
    let whole : all ≡ bytes ++ rest = cc in
    let empty : bytes ++ rest ≡ [] = cc in
    append-empty bytes rest empty

-- no write takes nothing
pub Takes-none : (known : Option (List ℕ)) → Takes known [] known
Takes-none None = refl
Takes-none (Some written) = ap Some (sym (append-nil written))

-- two writes take what the first and then what the second took
pub Takes-append : (before between after : Option (List ℕ)) (xs ys : List ℕ)
    → Takes before xs between → Takes between ys after → Takes before (xs ++ ys) after
Takes-append before between after xs ys first second =
    second ∙ ap (λ known. option_map (λ written. written ++ ys) known) first ∙ option_map-append-end xs ys before

-- the same as a first part of a text
pub Takes-start : (known : Option (List ℕ)) (text : List ℕ) → Takes known (take 0 text) known
Takes-start known text = Takes-none known

-- all of one text and a first part of another are a first part of both
pub Takes-prefix : (before between after : Option (List ℕ)) (xs ys : List ℕ) (count : ℕ)
    → Takes before xs between → Takes between (take count ys) after → Takes before (take (length xs + count) (xs ++ ys)) after
Takes-prefix before between after xs ys count first second =
    rw (take-append-add xs ys count) (Takes-append before between after xs (take count ys) first second)

-- what a sink that told what was written holds after is told too
pub Takes-known : (written bytes : List ℕ) (after : Option (List ℕ))
    → Takes (Some written) bytes after → after ≡ Some (written ++ bytes)
Takes-known written bytes after takes = takes

-- two writes from one text, the second from where the first ended
pub Takes-next : (before between after : Option (List ℕ)) (text : List ℕ) (done count : ℕ)
    → Takes before (take done text) between → Takes between (take count (drop done text)) after → Takes before (take (done + count) text) after
Takes-next before between after text done count first second =
    rw (take-add done count text) (Takes-append before between after (take done text) (take count (drop done text)) first second)

-- the rest of a text from one place is what was copied from there and the rest from the next place
pub drop-copied : (text copied beyond : List ℕ) (at count : ℕ) → copied ≡ take count (drop at text) → length copied ≡ count
    → drop at text ≡ take count (copied ++ beyond) ++ drop (at + count) text
drop-copied text copied beyond at count source size =
    let front : take count (copied ++ beyond) ≡ copied = rw (← size) (take-append_seam copied beyond) in
    let whole : take count (drop at text) ++ drop count (drop at text) ≡ drop at text = take-append-drop count (drop at text) in
    let next : drop count (drop at text) ≡ drop (at + count) text = drop-drop count at text in
    cc

-- what holds anyway holds on an error
pub on-error : {A E : Type 0} (result : Result A E) (P : Type 0) → P → OnErr result P
on-error (Ok value) P p = tt
on-error (Err fault) P p = p
