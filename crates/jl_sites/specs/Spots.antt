-- Lines and columns of a source.
use Rattle.std.specs.Prelude.{ℕ, ◌+◌, ◌&&◌, ◌==◌, nat_le, nat_lt, if◌then◌else◌, codes, decimal, List, [], ◌∷◌, ◌++◌, ◌≡◌, ◌≤◌, take, length}
use Rattle.jl_sites.specs.declared.spot.Spot.{Spot}
use Rattle.jl_sites.specs.declared.spot.Cursor.{Cursor}

-- the spot behind one more byte: a newline begins a line, and a byte that goes on a character is no column
abbrev pub one_more : Spot → ℕ → Spot
one_more s b =
    if b == 10 then record { line = s.line + 1; column = 1 }
    else if nat_le 128 b && nat_lt b 192 then s
    else record { line = s.line; column = s.column + 1 }

-- the spot behind these bytes, where those before them end at a spot
abbrev pub spot_behind : Spot → List ℕ → Spot
spot_behind s [] = s
spot_behind s (b ∷ bs) = spot_behind (one_more s b) bs

-- the spot of the byte at a place
abbrev pub spot_at : List ℕ → ℕ → Spot
spot_at bytes at = spot_behind (record { line = 1; column = 1 }) (take at bytes)

-- a cursor has the spot of its place, which is in the source
pub record IsReached (bytes : List ℕ) (c : Cursor) : Type 0 where
  pub within : c.at ≤ length bytes
  pub there : c.spot ≡ spot_at bytes c.at
  pub line : c.spot.line ≤ c.at + 1
  pub column : c.spot.column ≤ c.at + 1

-- a line and a column as text, up to the end of the line
abbrev pub spot_text : Spot → List ℕ
spot_text s = codes " " ++ (decimal s.line ++ (codes " " ++ (decimal s.column ++ codes "\n")))
