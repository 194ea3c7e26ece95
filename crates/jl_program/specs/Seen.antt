-- What lies in chunks.
use Rattle.std.specs.Prelude.{◌≡◌, List, [], ◌∷◌, ◌++◌, length}
use Rattle.jl_program.specs.declared.env.Env.TheInside.{Inside}

-- the chunks, one after the other
abbrev pub join : {A : Type 0} → List (List A) → List A
join [] = []
join (c ∷ cs) = c ++ join cs

-- the count is that of all values
abbrev pub IsCounted : Inside → Type 0
IsCounted a = a.count ≡ length (join a.chunks ++ a.rest)
