-- What a script comes to is valid where it has no fault.
use Rattle.std.proofs.Common.{◌≡◌, ◌∙◌, sym, ap, subst, List, take, Option, None}
use Rattle.jl_model.specs.declared.ty.Decl.{Decl}
use Rattle.jl_model.specs.Refusals.{Declared}
use Rattle.jl_program.specs.declared.tree.Program.{Program}
use Rattle.jl_program.specs.Valid.{IsValid}
use Rattle.jl_grammar.specs.declared.tree.Script.{Script}
use Rattle.jl_grammar.specs.declared.tree.Item.{Item}
use Rattle.jl_formed.specs.Formed.{FormedItems, FormedScript}
use Rattle.jl_written.specs.declared.fault.Fault.{Fault}
use Rattle.jl_resolve_forms.specs.declared.known.Known.{Known}
use Rattle.jl_resolve_forms.specs.TypesIn.{Tests}
use Rattle.jl_resolve_forms.specs.Top.{Resolved, resolve}
use Rattle.jl_judge.specs.Right.{IsRight}
use Rattle.jl_declare.specs.Declarations.{Declaring, Declares, no_declaration}
use Rattle.jl_declare.specs.Script.{known_of}
use Rattle.jl_script_laws.proofs.Faultless.{program_valid}
use Rattle.jl_script_laws.proofs.RightLemmas.{told}

pub valid :
    (s : Script) (d : Declaring) (t : Tests) (P : Program) (o : Option Fault) (table : List Decl) (k : Known) (items : List Item)
    → items ≡ s.items → Declares items no_declaration d → table ≡ take d.allowed d.decls → k ≡ known_of items d.decls → IsRight table t
    → record { program = P; fault = o } ≡ resolve t k items d.fault → FormedScript s → Declared table → o ≡ None → IsValid P
valid s d t P o table k items i declares e h right is formed declared none =
    let same : resolve t (known_of items d.decls) items d.fault ≡ record { program = P; fault = o } =
    sym (is ∙ ap (λ (z : Known). resolve t z items d.fault) h) in
    subst IsValid (ap (λ (z : Resolved). z.program) same)
    (program_valid t items d (subst FormedItems (sym i) formed) declares (subst Declared e declared) (told (take d.allowed d.decls) t (subst (λ (ds : List Decl). IsRight ds t) e right))
    (ap (λ (z : Resolved). z.fault) same ∙ none))
