-- What an index has noted, and what each kind of event adds to it.
use Rattle.std.specs.Prelude.{ℕ, ◌+◌, List, [], ◌∷◌, ◌++◌, length, Option, None, Some}
use Rattle.jl_model.specs.declared.ty.Key.{Key}
use Rattle.jl_program.specs.declared.tree.Program.{Program}
use Rattle.jl_calculus.specs.declared.history.Change.{Change}
use Rattle.jl_calculus.specs.declared.history.Change.TheVariants as Ch
use Rattle.jl_calculus.specs.declared.history.Def.{Def}
use Rattle.jl_calculus.specs.declared.history.Del.{Del}
use Rattle.jl_calculus.specs.declared.history.Event.{Event}
use Rattle.jl_calculus.specs.declared.history.Event.TheVariants as Ev
use Rattle.jl_calculus.specs.Ranges.{Head, head_of}
use Rattle.jl_methods.specs.declared.newest.NewestRow.{NewestRow}
use Rattle.jl_methods.specs.Latest.{renewed, place_number}
use Rattle.jl_methods.specs.Links.{Linked, with_applying, with_world}
use Rattle.jl_methods.specs.Newest.{newer_at}
use Rattle.jl_methods.specs.Numbered.{put_at, change_at}

-- the keys and the changes, in order; for each function its definitions, its deletions, the latest of these of each place, and the
-- numbers of its keys; for each key the numbers of its rows, and its newest row; what is kept of the sites and of the deletion places;
-- and how many rows there are
pub record Noted : Type 0 where
  pub keys : List Key
  pub changes : List Change
  pub defs : List (List Def)
  pub dels : List (List Del)
  pub latest_dels : List (List Del)
  pub numbers : List (List ℕ)
  pub rows : List (List ℕ)
  pub sites : Linked
  pub places : Linked
  pub newest : List (Option NewestRow)
  pub fills : ℕ

-- the sites and the places that apply to a key
pub record Applying : Type 0 where
  pub sites : List ℕ
  pub places : List ℕ

-- a key, to which these apply
abbrev pub with_key : Key → Applying → Noted → Noted
with_key key those v =
    record v {
      keys = v.keys ++ key ∷ [];
      numbers = put_at v.numbers key.function (length v.keys);
      rows = v.rows ++ [] ∷ [];
      sites = with_applying those.sites (length v.keys) v.sites;
      places = with_applying those.places (length v.keys) v.places;
      newest = v.newest ++ None ∷ [];
    }

-- a row of a key that begins in a world
abbrev pub with_row : ℕ → ℕ → Noted → Noted
with_row key first v =
    record v {
      rows = put_at v.rows key v.fills;
      newest = newer_at v.newest key (record { number = v.fills; first = first });
      fills = v.fills + 1;
    }

-- the world that the next change makes
abbrev pub next_world : Noted → ℕ
next_world v = length v.changes + 1

-- a definition of a site, which is of this function
abbrev pub with_def : ℕ → ℕ → Noted → Noted
with_def function site v =
    record v {
      changes = v.changes ++ Ch.Def site ∷ [];
      defs = put_at v.defs function (record { world = next_world v; site = site });
      sites = with_world site (next_world v) v.sites;
    }

-- a deletion at a place, which is of this function
abbrev pub with_del : ℕ → ℕ → Noted → Noted
with_del function place v =
    record v {
      changes = v.changes ++ Ch.Del place ∷ [];
      dels = put_at v.dels function (record { world = next_world v; place = place });
      latest_dels = change_at (λ ds. renewed place_number ds (record { world = next_world v; place = place })) v.latest_dels function;
      places = with_world place (next_world v) v.places;
    }

-- the function of a change
abbrev pub function_in : Option Head → ℕ
function_in None = 0
function_in (Some head) = head.function

abbrev pub function_of : Program → Change → ℕ
function_of P change = function_in (head_of P change)

-- an event; what applies counts for a key alone
abbrev pub with_event : Program → Event → Applying → Noted → Noted
with_event P (Ev.Key key) those v = with_key key those v
with_event P (Ev.Fill key site first) those v = with_row key first v
with_event P (Ev.Def task site) those v = with_def (function_of P (Ch.Def site)) site v
with_event P (Ev.Del task place) those v = with_del (function_of P (Ch.Del place)) place v
with_event P (Ev.Begin fuel) those v = v
with_event P (Ev.Spawn task child start) those v = v
with_event P (Ev.Done task ended) those v = v
