-- What a test tells.
use Rattle.std.specs.Prelude.{◌≡◌, Bool, true}

-- it says yes exactly where P holds
abbrev pub Tells : Bool → Type 0 → Type 0
Tells r P = (r ≡ true → P) × (P → r ≡ true)
