-- The keys and the rows of the cache, which changes touch a key, and which worlds a row covers (Julia manual, Redefining
-- Methods; Belyakova et al., OOPSLA 2020).
use Rattle.std.specs.Prelude.{ℕ, ◌+◌, ◌≡◌, ◌<◌, ◌≤◌, ◌⊎◌, List, [], ◌∷◌, slice_get, Option, None, Some}
use Rattle.std.specs.List.{Contains}
use Rattle.jl_model.specs.declared.ty.Key.{Key}
use Rattle.jl_model.specs.declared.ty.Written.{Written}
use Rattle.jl_model.specs.Signature.{Applicable}
use Rattle.jl_calculus.specs.declared.history.Change.{Change}
use Rattle.jl_calculus.specs.declared.history.Change.TheVariants as Ch
use Rattle.jl_calculus.specs.declared.history.Event.{Event}
use Rattle.jl_calculus.specs.declared.history.Event.TheVariants as Ev
use Rattle.jl_program.specs.declared.choice.Choice.TheVariants as C
use Rattle.jl_program.specs.declared.tree.Program.{Program}
use Rattle.jl_program.specs.declared.tree.Delete.{Delete}
use Rattle.jl_program.specs.declared.tree.Site.{Site}
use Rattle.jl_program.specs.Prelude.{prelude_count}
use Rattle.jl_program.specs.Scope.{types_of}
use Rattle.jl_calculus.specs.World.{change_at, site_of, Selects}

-- a row of the cache: the number of its key, the site that it tells and the world in which it begins
pub record CacheRow : Type 0 where
  pub key : ℕ
  pub site : ℕ
  pub first : ℕ

-- the keys, in the order of their events
abbrev pub keys_of : List Event → List Key
keys_of [] = []
keys_of (Ev.Key key ∷ es) = key ∷ keys_of es
keys_of (Ev.Begin fuel ∷ es) = keys_of es
keys_of (Ev.Fill key site first ∷ es) = keys_of es
keys_of (Ev.Def task site ∷ es) = keys_of es
keys_of (Ev.Del task place ∷ es) = keys_of es
keys_of (Ev.Spawn task child start ∷ es) = keys_of es
keys_of (Ev.Done task ended ∷ es) = keys_of es

-- the rows, in the order of their fills
abbrev pub rows_of : List Event → List CacheRow
rows_of [] = []
rows_of (Ev.Fill key site first ∷ es) = record { key = key; site = site; first = first } ∷ rows_of es
rows_of (Ev.Begin fuel ∷ es) = rows_of es
rows_of (Ev.Key key ∷ es) = rows_of es
rows_of (Ev.Def task site ∷ es) = rows_of es
rows_of (Ev.Del task place ∷ es) = rows_of es
rows_of (Ev.Spawn task child start ∷ es) = rows_of es
rows_of (Ev.Done task ended ∷ es) = rows_of es

-- the function and the signature of a change
pub record Head : Type 0 where
  pub function : ℕ
  pub sig : Written

abbrev pub head_of_site : Option Site → Option Head
head_of_site None = None
head_of_site (Some site) = Some (record { function = site.function; sig = site.sig })

abbrev pub head_of_place : Option Delete → Option Head
head_of_place None = None
head_of_place (Some place) = Some (record { function = place.function; sig = place.sig })

abbrev pub head_of : Program → Change → Option Head
head_of P (Ch.Def site) = head_of_site (slice_get P.sites site)
head_of P (Ch.Del place) = head_of_place (slice_get P.deletes place)

-- what is of this function and this signature touches a key: it is of the key's function, and its signature applies to the key's
-- types
abbrev pub HeadTouches : Program → Option Head → Key → Type 0
HeadTouches P None key = ⊥
HeadTouches P (Some h) key = (h.function ≡ key.function) × Applicable (types_of P) h.sig key.types

-- a change touches a key
abbrev pub ChangeTouches : Program → Option Change → Key → Type 0
ChangeTouches P None key = ⊥
ChangeTouches P (Some change) key = HeadTouches P (head_of P change) key

module _ (P : Program) (es : List Event) where
  -- the change of this number is there and touches the key
  abbrev pub Touches : ℕ → Key → Type 0
  Touches d key = ChangeTouches P (change_at es d) key

  -- a row of the key that begins in a world covers another: no change after the first, up to the other, touches the key
  pub record Covers (key : Key) (first w : ℕ) : Type 0 where
    pub begun : first ≤ w
    pub going : (d : ℕ) → first < d → d ≤ w → Touches d key → ⊥

  -- a row of the key that begins in a world has no end: no later change touches the key
  abbrev pub HasNoEnd : Key → ℕ → Type 0
  HasNoEnd key first = (d : ℕ) → first < d → Touches d key → ⊥

  -- its last world is this one: the next change touches the key, and none before it does
  pub record EndsWith (key : Key) (first last : ℕ) : Type 0 where
    pub covers : Covers key first last
    pub touched : Touches (last + 1) key

  -- a row of this key, of this number, covers the world
  pub record IsCoveredBy (number : ℕ) (key : Key) (w : ℕ) (row : CacheRow) : Type 0 where
    pub stands : Contains (rows_of es) row
    pub of_key : row.key ≡ number
    pub covers : Covers key row.first w

  -- some row of the key covers the world
  abbrev pub IsCovered : ℕ → Key → ℕ → Type 0
  IsCovered number key w = (row : CacheRow) × IsCoveredBy number key w row

  -- the choice for a key in a world is a method of this site
  abbrev pub SelectsSite : Key → ℕ → ℕ → Type 0
  SelectsSite key w site = (d : ℕ) × Selects P es key.function key.types w (C.Method d) × (site_of es d ≡ site)

  -- a row of a key may begin in the last world of the prelude, and in that of a later change that touches the key
  abbrev pub MayBegin : Key → ℕ → Type 0
  MayBegin key first = (first ≡ prelude_count) ⊎ ((prelude_count < first) × Touches first key)

  -- a fill is right for a key: it may begin in its first world, and the choice there is a method of its site
  pub record IsRightFill (key : Key) (site first : ℕ) : Type 0 where
    pub begun : MayBegin key first
    pub choice : SelectsSite key first site
