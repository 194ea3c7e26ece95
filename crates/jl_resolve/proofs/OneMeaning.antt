-- A script comes to one program and one first fault.
use Rattle.std.proofs.Common.{◌≡◌, ◌∙◌, sym, ap, subst, ℕ, take, Option, Some, None}
use Rattle.jl_program.specs.declared.tree.Program.{Program}
use Rattle.jl_grammar.specs.declared.tree.Script.{Script}
use Rattle.jl_written.specs.declared.fault.Fault.{Fault}
use Rattle.jl_written.specs.declared.fault.StaticKind.{StaticKind}
use Rattle.jl_resolve_forms.specs.TypesIn.{Tests}
use Rattle.jl_resolve_forms.specs.Top.{Resolved, resolve}
use Rattle.jl_judge.specs.Right.{IsRight}
use Rattle.jl_judge.proofs.OneLemmas.{one_tests}
use Rattle.jl_declare.specs.Declarations.{Declaring}
use Rattle.jl_declare.specs.Script.{known_of}
use Rattle.jl_declare.proofs.OneResult.{one_result}
use Rattle.jl_resolve.specs.Program.{ComesTo, IsProgramOf, IsFaultOf}

abbrev Meaning : Script → Tests → Declaring → Resolved
Meaning s t d = resolve t (known_of s.items d.decls) s.items d.fault

both : (s : Script) (P Q : Program) (o r : Option Fault) → ComesTo s P o → ComesTo s Q r → (let x : Resolved = record { program = P; fault = o } in x) ≡ record { program = Q; fault = r }
both s P Q o r a b =
    let d : b.declaring ≡ a.declaring = one_result s.items b.declaring a.declaring b.declares a.declares in
    let right = subst (λ (z : Declaring). IsRight (take z.allowed z.decls) b.tests) d b.right in
    let t : a.tests ≡ b.tests = one_tests (take a.declaring.allowed a.declaring.decls) a.tests b.tests a.right right in
    sym a.is ∙ ap (λ (z : Tests). Meaning s z a.declaring) t ∙ ap (Meaning s b.tests) (sym d) ∙ b.is

pub one_code : (s : Script) (P Q : Program) (o r : Option Fault) → ComesTo s P o → ComesTo s Q r → P ≡ Q
one_code s P Q o r a b = ap (λ (z : Resolved). z.program) (both s P Q o r a b)

pub one_program : (s : Script) (P Q : Program) → IsProgramOf s P → IsProgramOf s Q → P ≡ Q
one_program s P Q a b = one_code s P Q None None a b

pub one_fault : (s : Script) (P Q : Program) (o r : Option Fault) → ComesTo s P o → ComesTo s Q r → o ≡ r
one_fault s P Q o r a b = ap (λ (z : Resolved). z.fault) (both s P Q o r a b)

-- a program has no fault
pub no_fault : (s : Script) (P : Program) (at : ℕ) (kind : StaticKind) → IsProgramOf s P → IsFaultOf s at kind → ⊥
no_fault s P at kind a b = let e : None ≡ Some (let x : Fault = record { at = at; kind = kind } in x) = one_fault s P b.0 None (Some (record { at = at; kind = kind })) a b.1 in cc
