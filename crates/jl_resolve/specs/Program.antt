-- The program that a script means, and its first static fault.
use Rattle.std.specs.Prelude.{ℕ, ◌≡◌, take, Option, Some, None}
use Rattle.jl_program.specs.declared.tree.Program.{Program}
use Rattle.jl_grammar.specs.declared.tree.Script.{Script}
use Rattle.jl_written.specs.declared.fault.StaticKind.{StaticKind}
use Rattle.jl_written.specs.declared.fault.Fault.{Fault}
use Rattle.jl_resolve_forms.specs.TypesIn.{Tests}
use Rattle.jl_resolve_forms.specs.Top.{resolve}
use Rattle.jl_judge.specs.Right.{IsRight}
use Rattle.jl_declare.specs.Declarations.{Declaring, Declares, no_declaration}
use Rattle.jl_declare.specs.Script.{known_of}
use Rattle.jl_resolve.specs.declared.fault.StaticFault.{StaticFault}
use Rattle.jl_resolve.specs.declared.fault.StaticFault.TheVariants.{At, Memory}

-- What a script comes to: its declarations one after another, and its items over tests that are right for the declarations
-- that are allowed. P is what its text becomes, and o the first static fault of it.
pub record ComesTo (s : Script) (P : Program) (o : Option Fault) : Type 0 where
  pub declaring : Declaring
  pub declares : Declares s.items no_declaration declaring
  pub tests : Tests
  pub right : IsRight (take declaring.allowed declaring.decls) tests
  pub is : resolve tests (known_of s.items declaring.decls) s.items declaring.fault ≡ record { program = P; fault = o }

-- the script is a program: it has no static fault
abbrev pub IsProgramOf : Script → Program → Type 0
IsProgramOf s P = ComesTo s P None

-- the script is no program, and this is the first of its static faults: the one at the least place, of several there the one
-- with the least number
abbrev pub IsFaultOf : Script → ℕ → StaticKind → Type 0
IsFaultOf s at kind = (P : Program) × ComesTo s P (Some (record { at = at; kind = kind }))

-- what an answer without a program tells; of want of memory nothing is said
abbrev pub IsRefused : StaticFault → Script → Type 0
IsRefused (At kind at) s = IsFaultOf s at kind
IsRefused Memory s = Unit {0}
