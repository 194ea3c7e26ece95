-- The definitions of a function, the methods that they make, and which of them apply to a call's arguments.
use Rattle.std.specs.List.{Contains}
use Rattle.std.specs.Prelude.{ℕ, ◌+◌, ◌<◌, ◌≤◌, cond, nat_eq, List, [], ◌∷◌, map, take, length, slice_get, Option, None, Some}
use Rattle.jl_model.specs.declared.ty.Ty.{Ty}
use Rattle.jl_model.specs.declared.ty.Written.{Written}
use Rattle.jl_model.specs.Choice.{Method}
use Rattle.jl_model.specs.Signature.{Applicable}
use Rattle.jl_calculus.specs.declared.history.Change.{Change}
use Rattle.jl_calculus.specs.declared.history.Change.TheVariants as Ch
use Rattle.jl_calculus.specs.declared.history.Def.{Def}
use Rattle.jl_calculus.specs.declared.history.Del.{Del}
use Rattle.jl_calculus.specs.declared.history.Event.{Event}
use Rattle.jl_program.specs.declared.tree.Delete.{Delete}
use Rattle.jl_program.specs.declared.tree.Site.{Site}
use Rattle.jl_program.specs.declared.tree.Program.{Program}
use Rattle.jl_program.specs.Prelude.{plain}
use Rattle.jl_program.specs.Scope.{types_of}
use Rattle.jl_calculus.specs.World.{changes, change_at, Deletes}

-- the signature of a site, and that without parts where there is no site
abbrev pub sig_of : Option Site → Written
sig_of None = plain []
sig_of (Some site) = site.sig

-- the method of a definition: its number is its world, its signature that of its site
abbrev pub method_of : Program → Def → Method
method_of P d = record { number = d.world; sig = sig_of (slice_get P.sites d.site) }

abbrev pub methods_of : Program → List Def → List Method
methods_of P ds = map (method_of P) ds

-- the worlds that definitions made
abbrev pub worlds : List Def → List ℕ
worlds ds = map (λ d. d.world) ds

-- a definition is of a site of the program
abbrev pub HasSite : Program → Def → Type 0
HasSite P d = d.site < length P.sites

-- a definition's signature applies to arguments of these types
abbrev pub AppliesTo : Program → List Ty → Def → Type 0
AppliesTo P ts d = Applicable (types_of P) (sig_of (slice_get P.sites d.site)) ts

-- one more definition, where the site is of this function
abbrev pub def_at : Option Site → ℕ → ℕ → ℕ → List Def → List Def
def_at None f world site ds = ds
def_at (Some s) f world site ds = cond (nat_eq s.function f) (record { world = world; site = site } ∷ ds) ds

-- the definitions of a function among these changes, which make worlds from here on
abbrev pub defs_from : Program → ℕ → ℕ → List Change → List Def
defs_from P f world [] = []
defs_from P f world (Ch.Def site ∷ cs) = def_at (slice_get P.sites site) f world site (defs_from P f (world + 1) cs)
defs_from P f world (Ch.Del place ∷ cs) = defs_from P f (world + 1) cs

-- those that are made up to a world, whether or not they are deleted
abbrev pub defs_in : Program → List Event → ℕ → ℕ → List Def
defs_in P es f w = defs_from P f 1 (take w (changes es))

-- a definition of a function stands in a world: it is made up to it, and no later change up to the world deletes it
pub record IsStanding (P : Program) (es : List Event) (f w : ℕ) (d : Def) : Type 0 where
  pub made : Contains (defs_in P es f w) d
  pub kept : (e : ℕ) → d.world < e → e ≤ w → Deletes P (change_at es e) f (sig_of (slice_get P.sites d.site)) → ⊥

-- one more deletion, where the place is of this function
abbrev pub del_at : Option Delete → ℕ → ℕ → ℕ → List Del → List Del
del_at None f world place ds = ds
del_at (Some p) f world place ds = cond (nat_eq p.function f) (record { world = world; place = place } ∷ ds) ds

-- the deletions of a function among these changes, which make worlds from here on
abbrev pub dels_from : Program → ℕ → ℕ → List Change → List Del
dels_from P f world [] = []
dels_from P f world (Ch.Def site ∷ cs) = dels_from P f (world + 1) cs
dels_from P f world (Ch.Del place ∷ cs) = del_at (slice_get P.deletes place) f world place (dels_from P f (world + 1) cs)
