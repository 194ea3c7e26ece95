-- Where a text is parted by a line.
use Rattle.std.specs.Prelude.{ℕ, ◌+◌, ◌&&◌, ◌||◌, Bool, true, false, if◌then◌else◌, nat_eq, List, [], ◌∷◌, length, map, take, drop, slice_get, bytes_eq, Option, None, Some}
use Rattle.std.specs.Borrow.{Bor}

-- the texts of lines that are behind references
abbrev pub texts : List (Bor (List ℕ)) → List (List ℕ)
texts ls = map (λ (l : Bor (List ℕ)). l.now) ls

-- a line ends with a newline, or at the end of the bytes
abbrev pub ends_line : Option ℕ → Bool
ends_line None = true
ends_line (Some b) = nat_eq b 10

-- the line at the front of these bytes is exactly this one
abbrev pub begins_with : List ℕ → List ℕ → Bool
begins_with line bytes = bytes_eq (take (length line) bytes) line && ends_line (slice_get bytes (length line))

-- it is exactly one of these
abbrev pub begins_one : List (List ℕ) → List ℕ → Bool
begins_one [] bytes = false
begins_one (line ∷ lines) bytes = begins_with line bytes || begins_one lines bytes

-- the place of the first line that is exactly one of these, among bytes from a place on, where a line begins with them or not
abbrev pub separator_from : List (List ℕ) → ℕ → Bool → List ℕ → Option ℕ
separator_from lines place begins_line [] = None
separator_from lines place begins_line (b ∷ bs) =
    if begins_line && begins_one lines (b ∷ bs) then Some place else separator_from lines (place + 1) (nat_eq b 10) bs

abbrev pub separator_among : List (List ℕ) → List ℕ → Option ℕ
separator_among lines bytes = separator_from lines 0 true bytes

-- the bytes before a place, which are all where there is none, and those from it on
abbrev pub part_before : Option ℕ → List ℕ → List ℕ
part_before None bytes = bytes
part_before (Some place) bytes = take place bytes

abbrev pub part_from : Option ℕ → List ℕ → List ℕ
part_from None bytes = []
part_from (Some place) bytes = drop place bytes
