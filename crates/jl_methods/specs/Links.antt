-- What is kept of the sites of a program, and in the same way of its deletion places.
use Rattle.std.specs.Prelude.{ℕ, ◌+◌, ◌<◌, ◌≤◌, ◌≡◌, ◌⊎◌, ◌↔◌, min, List, [], ◌∷◌, ◌++◌, length, slice_get, Option, None, Some}
use Rattle.std.specs.List.{Contains}
use Rattle.std.specs.List.Sorted.{IsStrictlyIncreasing}
use Rattle.jl_model.specs.declared.ty.Key.{Key}
use Rattle.jl_program.specs.declared.tree.Program.{Program}
use Rattle.jl_calculus.specs.declared.history.Change.{Change}
use Rattle.jl_calculus.specs.declared.history.Del.{Del}
use Rattle.jl_calculus.specs.Ranges.{head_of, HeadTouches}
use Rattle.jl_methods.specs.declared.links.Links.{Links}
use Rattle.jl_methods.specs.Filters.{change_in, AreTouched}
use Rattle.jl_methods.specs.Numbered.{nth, put_at, put_each, RisesFrom}
use Rattle.jl_methods.specs.Room.{items_of, HasRoomAtEach, HasPlace}

-- these are, in order, exactly the numbers of which something holds
pub record AreNumbers (Is : ℕ → Type 0) (ns : List ℕ) : Type 0 where
  pub exact : (n : ℕ) → Contains ns n ↔ Is n
  pub rises : RisesFrom 0 ns

-- the lists by number: the worlds that each made, the keys that it touches, and for each key those that apply to it
pub record Linked : Type 0 where
  pub worlds : List (List ℕ)
  pub touched : List (List ℕ)
  pub applying : List (List ℕ)

abbrev pub linked_in : Links → Linked
linked_in l = record { worlds = items_of l.worlds; touched = items_of l.touched; applying = items_of l.applying }

-- the worlds of each are in order
abbrev pub AreInOrder : Linked → Type 0
AreInOrder l = (n : ℕ) → IsStrictlyIncreasing (nth l.worlds n)

-- one more world of one of them
abbrev pub with_world : ℕ → ℕ → Linked → Linked
with_world n world l = record l { worlds = put_at l.worlds n world }

-- one more key, to which these apply
abbrev pub with_applying : List ℕ → ℕ → Linked → Linked
with_applying ns key l = record l { touched = put_each l.touched ns key; applying = l.applying ++ ns ∷ [] }

-- of so many none has made a world, and there is no key
pub record AreEmptyLinks (count : ℕ) (l : Linked) : Type 0 where
  pub all_worlds : length l.worlds ≡ count
  pub all_touched : length l.touched ≡ count
  pub worlds : (n : ℕ) → nth l.worlds n ≡ []
  pub touched : (n : ℕ) → nth l.touched n ≡ []
  pub applying : l.applying ≡ []

-- one more key to which these apply needs no memory
pub record HasRoomForApplying (ns : List ℕ) (l : Links) : Type 0 where
  pub touched : HasRoomAtEach l.touched ns
  pub place : HasPlace l.applying

-- ---- what they have to be

-- these are, in order, the worlds that a change made among others
abbrev pub AreWorlds : List Change → Change → List ℕ → Type 0
AreWorlds cs c ws = AreNumbers (λ w. change_in cs w ≡ Some c) ws

-- these are, in order, the sites, or the places, of the changes that touch a key
abbrev pub AreApplying : Program → (ℕ → Change) → Key → List ℕ → Type 0
AreApplying P make key ns = AreNumbers (λ n. HeadTouches P (head_of P (make n)) key) ns

-- each list is what it has to be, for so many sites or places, of which each makes a change
pub record AreLinked (P : Program) (make : ℕ → Change) (count : ℕ) (cs : List Change) (keys : List Key) (l : Linked) : Type 0 where
  pub all_worlds : length l.worlds ≡ count
  pub all_touched : length l.touched ≡ count
  pub all_applying : length l.applying ≡ length keys
  pub each_worlds : (n : ℕ) → AreWorlds cs (make n) (nth l.worlds n)
  pub each_touched : (n : ℕ) → AreTouched P keys (make n) (nth l.touched n)
  pub each_applying : (n : ℕ) (key : Key) → slice_get keys n ≡ Some key → AreApplying P make key (nth l.applying n)

-- ---- the last world up to another, and the next one past it

module _ (Is : ℕ → Type 0) (w : ℕ) where
  -- this is the last such world up to another, and 0 stands for none
  pub record IsLast (last : ℕ) : Type 0 where
    pub low : last ≤ w
    pub none_later : (d : ℕ) → Is d → d ≤ w → d ≤ last
    pub there : (last ≡ 0) ⊎ Is last

  -- this is the first such world past another
  abbrev pub IsNext : Option ℕ → Type 0
  IsNext None = (d : ℕ) → Is d → d ≤ w
  IsNext (Some next) = (w < next) × Is next × ((d : ℕ) → Is d → w < d → next ≤ d)

-- the smaller one of two
abbrev pub earlier : Option ℕ → Option ℕ → Option ℕ
earlier None b = b
earlier (Some x) None = Some x
earlier (Some x) (Some y) = Some (min x y)

module _ (lists : List (List ℕ)) (ns : List ℕ) where
  -- one of these made a world
  abbrev pub IsMadeBy : ℕ → Type 0
  IsMadeBy w = (n : ℕ) × Contains ns n × Contains (nth lists n) w

  -- a world is the last that one of these made up to another
  abbrev pub IsLastMade : ℕ → ℕ → Type 0
  IsLastMade w d = (n : ℕ) × Contains ns n × (0 < d) × IsLast (λ x. Contains (nth lists n) x) w d

  -- these are deletions at these places, each the last of its place up to a world
  abbrev pub AreLastDels : ℕ → List Del → Type 0
  AreLastDels w ds = (d : Del) → Contains ds d ↔ (Contains ns d.place × (0 < d.world) × IsLast (λ x. Contains (nth lists d.place) x) w d.world)
