-- The statements at the top, and the program of a script whose declarations are known.
use Rattle.std.specs.Prelude.{ℕ, ◌+◌, max, if◌then◌else◌, drop, List, [], ◌∷◌, ◌++◌, length, Option, Some, None}
use Rattle.jl_model.specs.declared.builtin.TheConstants.{BUILTIN_TYPES}
use Rattle.jl_program.specs.declared.tree.Expr.{Expr as Value}
use Rattle.jl_program.specs.declared.tree.Item.{Item as Code}
use Rattle.jl_program.specs.declared.tree.Item.TheVariants as I
use Rattle.jl_program.specs.declared.tree.Program.{Program}
use Rattle.jl_program.specs.Names.{same_text}
use Rattle.jl_program.specs.Prelude.{prelude_sites}
use Rattle.jl_grammar.specs.declared.tree.Item.{Item}
use Rattle.jl_grammar.specs.declared.tree.Item.TheVariants as N
use Rattle.jl_grammar.specs.declared.tree.Name.{Name}
use Rattle.jl_written.specs.declared.fault.Fault.{Fault}
use Rattle.jl_written.specs.declared.fault.StaticKind.TheVariants as kind
use Rattle.jl_resolve_forms.specs.declared.known.Known.{Known}
use Rattle.jl_resolve_forms.specs.declared.state.Scope.{Scope}
use Rattle.jl_resolve_forms.specs.declared.state.State.{State}
use Rattle.jl_resolve_forms.specs.Resolver.{Resolver, pure, modify, ◌>>=◌, ◌>>◌}
use Rattle.jl_resolve_forms.specs.Scopes.{note, bind}
use Rattle.jl_resolve_forms.specs.TypesIn.{Tests}
use Rattle.jl_resolve_forms.specs.Expressions.{expr_reads, method_reads, bare_scope}

-- where a name stands first in a list
abbrev pub first_at : List Name → List ℕ → Option ℕ
first_at [] name = None
first_at (n ∷ ns) name = if same_text name n.bytes then Some n.at else first_at ns name

-- a variable at the top has the name of a function or a type: the fault stands at the later of the two
abbrev pub clash : ℕ → Option ℕ → State → State
clash at None s = s
clash at (Some other) s = note (max at other) kind.Rebound s

abbrev pub note_clash : Known → Name → State → State
note_clash k n s = clash n.at (first_at k.types n.bytes) (clash n.at (first_at k.methods n.bytes) s)

-- a binding at the top, and what is visible after it
abbrev pub top_bind : Known → Name → Scope → Resolver Scope
top_bind k n c = do
  d ← bind n c
  modify (note_clash k n)
  pure d

-- its value takes the next slot
abbrev pub top_bound : Known → Name → Scope → Value → Resolver (List Code × Scope)
top_bound k n c y = do
  d ← top_bind k n c
  pure (I.Bind (length c.slots) y ∷ [], d)

module _ (t : Tests) (k : Known) where
  -- an item, and what is visible after it: a declaration is no statement
  abbrev pub one_top : Item → Scope → Resolver (List Code × Scope)
  one_top (N.Abstract a) c = pure ([], record c { types = c.types + 1 })
  one_top (N.Struct x) c = pure ([], record c { types = c.types + 1 })
  one_top (N.Method m) c = do
    n ← method_reads t k m c.types
    pure (I.Define n ∷ [], c)
  one_top (N.Bind n x) c = do
    y ← expr_reads t k x c
    top_bound k n c y
  one_top (N.Do x) c = do
    y ← expr_reads t k x c
    pure (I.Do y ∷ [], c)

  abbrev pub all_top : List Item → Scope → Resolver (List Code × Scope)
  all_top [] c = pure ([], c)
  all_top (x ∷ xs) c = do
    (ys, d) ← one_top x c
    (zs, e) ← all_top xs d
    pure (ys ++ zs, e)

-- at the beginning only the eight built-in types are declared, and the sites are the prelude's
abbrev pub beginning : Option Fault → State
beginning f = record { sites = prelude_sites; spawns = []; deletes = []; fault = f }

-- a program, and the first fault of its text
pub record Resolved : Type 0 where
  pub program : Program
  pub fault : Option Fault

abbrev pub program_as : Known → List Code → State → Resolved
program_as k top s = record {
  program = record { decls = drop BUILTIN_TYPES k.decls; functions = k.functions; sites = s.sites; spawns = s.spawns; deletes = s.deletes; top = top };
  fault = s.fault;
}

-- the items, behind the first fault of the declarations
abbrev pub resolve : Tests → Known → List Item → Option Fault → Resolved
resolve t k items f =
    let r = all_top t k items (bare_scope BUILTIN_TYPES) (beginning f) in
    program_as k r.value.0 r.after
