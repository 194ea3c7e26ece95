-- What the lists of the code have in them, and where there is room for one more.
use Rattle.std.specs.Prelude.{ℕ, ◌<◌, List, map, get_or, length}
use Rattle.std.specs.List.{All}
use Rattle.std.specs.Global.{Vec}
use Rattle.std.specs.Vec.{vec_len, vec_capacity}
use Rattle.jl_methods.specs.declared.lists.Lists.{Lists}
use Rattle.jl_methods.specs.Numbered.{RisesFrom}

-- the items of each list
abbrev pub items_of : {T : Type 0} → Lists T → List (List T)
items_of ls = map (λ (v : Vec _). v.items) ls.lists.items

-- one more element needs no memory
abbrev pub IsRoomy : {T : Type 0} → Vec T → Type 0
IsRoomy v = vec_len v < vec_capacity v

-- one more element of the list of this number needs no memory
pub record HasRoomAt {T : Type 0} (ls : Lists T) (n : ℕ) : Type 0 where
  pub known : n < length ls.lists.items
  pub roomy : (d : Vec T) → IsRoomy (get_or ls.lists.items n d)

-- nor does one of each of these, which are in order
pub record HasRoomAtEach {T : Type 0} (ls : Lists T) (ns : List ℕ) : Type 0 where
  pub room : All (HasRoomAt ls) ns
  pub rises : RisesFrom 0 ns

-- nor does one more list
abbrev pub HasPlace : {T : Type 0} → Lists T → Type 0
HasPlace ls = IsRoomy ls.lists
