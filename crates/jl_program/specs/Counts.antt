use Rattle.std.specs.Prelude.{◌≡◌, ◌-◌, ◌^◌, min, map}
use Rattle.jl_program.specs.declared.value.Values.TheInside.{Inside}
use Rattle.jl_program.specs.Meaning.{datum}
use Rattle.jl_program.specs.Members.{members}
use Rattle.jl_program.specs.Measures.{nodes_all, depth_all}

-- the counts are those of the items
pub record HasCounts (a : Inside) : Type 0 where
  pub nodes : a.nodes ≡ min (nodes_all (map datum (members a.items))) (2 ^ 64 - 1)
  pub depth : a.depth ≡ min (depth_all (map datum (members a.items))) (2 ^ 64 - 1)
