-- A number below 256 that equal names share. No public clause cites it.
use Rattle.std.specs.Prelude.{ℕ, ◌+◌, ◌-◌, ◌*◌, ◌%◌, List, length, slice_index}

-- by its last two bytes; a name of one byte has it for both
unfoldable pub slot_of : List ℕ → ℕ
slot_of name = (70 * slice_index name (length name - 2) + slice_index name (length name - 1)) % 256
