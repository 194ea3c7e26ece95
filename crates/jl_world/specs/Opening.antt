-- The words at the start: world 14 and the length 1, and a note of that length.
use Rattle.std.specs.Prelude.{ℕ, ◌*◌, List, slice_set, replicate}

abbrev pub first_words : ℕ → List ℕ
first_words n = slice_set (slice_set (replicate (8 * n) 0) 0 4294967310) 1 1
