-- Events, the worlds that they make, and the choice for a call in a world (Julia manual, Redefining Methods; Belyakova
-- et al., OOPSLA 2020).
use Rattle.std.specs.Prelude.{ℕ, zero, suc, ◌+◌, ◌-◌, ◌<◌, ◌≤◌, ◌≡◌, ◌↔◌, cond, nat_eq, List, [], ◌∷◌, ◌++◌, map, length, take, slice_get, Option, None, Some}
use Rattle.std.specs.List.{Contains}
use Rattle.jl_model.specs.declared.ty.Ty.{Ty}
use Rattle.jl_model.specs.declared.ty.Written.{Written}
use Rattle.jl_model.specs.Choice.{Method}
use Rattle.jl_model.specs.Signature.{Applicable, SameSignature}
use Rattle.jl_calculus.specs.declared.history.Change.{Change}
use Rattle.jl_calculus.specs.declared.history.Change.TheVariants as Ch
use Rattle.jl_calculus.specs.declared.history.Event.{Event}
use Rattle.jl_calculus.specs.declared.history.Event.TheVariants as Ev
use Rattle.jl_program.specs.declared.choice.Choice.{Choice}
use Rattle.jl_program.specs.declared.tree.Delete.{Delete}
use Rattle.jl_program.specs.declared.tree.Site.{Site}
use Rattle.jl_program.specs.declared.tree.Program.{Program}
use Rattle.jl_program.specs.Chooses.{Chooses}
use Rattle.jl_program.specs.Prelude.{prelude_count, prelude_numbers}
use Rattle.jl_program.specs.Scope.{types_of}

-- the changes of the methods that the events make, in order: definitions and deletions
abbrev pub changed : List Event → List Change
changed [] = []
changed (Ev.Def task site ∷ es) = Ch.Def site ∷ changed es
changed (Ev.Del task place ∷ es) = Ch.Del place ∷ changed es
changed (Ev.Begin fuel ∷ es) = changed es
changed (Ev.Key key ∷ es) = changed es
changed (Ev.Fill key site first ∷ es) = changed es
changed (Ev.Spawn task child start ∷ es) = changed es
changed (Ev.Done task ended ∷ es) = changed es

-- all changes, the definitions of the prelude first: change w, counted from 1, makes world w, and a definition has the number of the
-- world that it makes
abbrev pub changes : List Event → List Change
changes es = map Ch.Def prelude_numbers ++ changed es

-- the newest world
abbrev pub world_of : List Event → ℕ
world_of es = prelude_count + length (changed es)

-- the change that made a world, where there is one: world 0 has none
abbrev pub change_at : List Event → ℕ → Option Change
change_at es zero = None
change_at es (suc d) = slice_get (changes es) d

abbrev pub site_in : Option Change → ℕ
site_in None = 0
site_in (Some (Ch.Def site)) = site
site_in (Some (Ch.Del place)) = 0

-- the site of a definition
abbrev pub site_of : List Event → ℕ → ℕ
site_of es d = site_in (change_at es d)

-- ---- the methods of a world

-- one more method, where the site is of this function
abbrev pub method_at : Option Site → ℕ → ℕ → List Method → List Method
method_at None f number ms = ms
method_at (Some site) f number ms = cond (nat_eq site.function f) (record { number = number; sig = site.sig } ∷ ms) ms

-- the methods of a function that these changes make, which are numbered from here on
abbrev pub methods_from : Program → ℕ → ℕ → List Change → List Method
methods_from P f number [] = []
methods_from P f number (Ch.Def site ∷ cs) = method_at (slice_get P.sites site) f number (methods_from P f (number + 1) cs)
methods_from P f number (Ch.Del place ∷ cs) = methods_from P f (number + 1) cs

-- those that are made up to a world, whether or not they are deleted
abbrev pub methods_made : Program → List Event → ℕ → ℕ → List Method
methods_made P es f w = methods_from P f 1 (take w (changes es))

-- a deletion place is of this function, and of the same signature
abbrev pub PlaceDeletes : Program → Option Delete → ℕ → Written → Type 0
PlaceDeletes P None f sig = ⊥
PlaceDeletes P (Some place) f sig = (place.function ≡ f) × SameSignature (types_of P) sig place.sig

-- a change deletes the methods of this function with this signature
abbrev pub Deletes : Program → Option Change → ℕ → Written → Type 0
Deletes P None f sig = ⊥
Deletes P (Some (Ch.Def site)) f sig = ⊥
Deletes P (Some (Ch.Del place)) f sig = PlaceDeletes P (slice_get P.deletes place) f sig

-- a method of a function stands in a world: it is made up to it, and no later change up to the world deletes it
pub record Stands (P : Program) (es : List Event) (f w : ℕ) (m : Method) : Type 0 where
  pub made : Contains (methods_made P es f w) m
  pub kept : (e : ℕ) → m.number < e → e ≤ w → Deletes P (change_at es e) f m.sig → ⊥

-- of the methods that apply to arguments of these types, these have exactly those that stand in a world
abbrev pub AreMethodsFor : Program → List Event → ℕ → List Ty → ℕ → List Method → Type 0
AreMethodsFor P es f ts w ms = (m : Method) → Applicable (types_of P) m.sig ts → Contains ms m ↔ Stands P es f w m

-- the choice for a call of a function with arguments of these types in a world
abbrev pub Selects : Program → List Event → ℕ → List Ty → ℕ → Choice → Type 0
Selects P es f ts w c = (ms : List Method) × AreMethodsFor P es f ts w ms × Chooses (types_of P) ms ts c

-- a method of the function and the signature of a deletion place stands in a world
abbrev pub HasMethodAt : Program → List Event → ℕ → Option Delete → Type 0
HasMethodAt P es w None = ⊥
HasMethodAt P es w (Some place) = (m : Method) × Stands P es place.function w m × SameSignature (types_of P) m.sig place.sig

-- so in the newest world
abbrev pub FindsMethod : Program → List Event → ℕ → Type 0
FindsMethod P es place = HasMethodAt P es (world_of es) (slice_get P.deletes place)

-- the event by which a task makes a change
abbrev pub change_event : ℕ → Change → Event
change_event task (Ch.Def site) = Ev.Def task site
change_event task (Ch.Del place) = Ev.Del task place
