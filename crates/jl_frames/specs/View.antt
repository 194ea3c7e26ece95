-- What the fields stand for.
use Rattle.jl_frames.specs.declared.frames.Frames.TheInside.{Inside}
use Rattle.jl_frames.specs.Held.{Held}
use Rattle.jl_frames.specs.Split.{held_of, IsHeld}

abbrev pub held : Inside → Held
held a = held_of a.flat.items a.values.items a.slots.items a.types.items a.text a.from a.scope a.text_from

abbrev pub IsWhole : Inside → Type 0
IsWhole a = IsHeld a.flat.items a.values.items a.slots.items a.types.items a.text a.from a.scope a.text_from
