-- The declarations of a script, in text order (Julia manual, Types: Abstract Types, Composite Types, Parametric Types).
use Rattle.std.specs.Prelude.{ℕ, ◌+◌, ◌≡◌, if◌then◌else◌, nat_eq, take, List, [], ◌∷◌, ◌++◌, length, Option, Some, None}
use Rattle.jl_model.specs.declared.ty.Decl.{Decl}
use Rattle.jl_model.specs.declared.ty.DeclKind.{DeclKind}
use Rattle.jl_model.specs.declared.ty.DeclKind.TheVariants.{Abstract, Struct}
use Rattle.jl_model.specs.Ancestors.{builtin_types}
use Rattle.jl_program.specs.Names.{is_among, builtin_names}
use Rattle.jl_grammar.specs.declared.tree.Field.{Field as FieldText}
use Rattle.jl_grammar.specs.declared.tree.Header.{Header}
use Rattle.jl_grammar.specs.declared.tree.Item.{Item}
use Rattle.jl_grammar.specs.declared.tree.Item.TheVariants as N
use Rattle.jl_grammar.specs.declared.tree.Name.{Name}
use Rattle.jl_written.specs.declared.fault.Fault.{Fault}
use Rattle.jl_written.specs.declared.fault.StaticKind.TheVariants as kind
use Rattle.jl_written.specs.Answered.{first_of}
use Rattle.jl_declare.specs.declared.state.Declarations.{Declarations}
use Rattle.jl_declare.specs.declared.judged.Judged.{Judged}
use Rattle.jl_declare.specs.declared.read.ReadDecl.{ReadDecl}
use Rattle.jl_declare.specs.Declaration.{declaration}
use Rattle.jl_declare.specs.Judgement.{tell_alone, IsAnswer, kept_in, keep_shown, refusal_at}

-- the declarations so far, how many of them from the first on are allowed, and the first fault
pub record Declaring : Type 0 where
  pub decls : List Decl
  pub allowed : ℕ
  pub fault : Option Fault

-- a table has the allowed ones alone
abbrev pub declaring_of : Declarations → Declaring
declaring_of d = record { decls = d.decls; allowed = length d.table; fault = d.fault }

-- the built-in types, before any item
abbrev pub no_declaration : Declaring
no_declaration = record { decls = builtin_types; allowed = length builtin_types; fault = None }

-- the first of two faults, where there is one
abbrev pub with_fault : Option Fault → Option Fault → Option Fault
with_fault f None = f
with_fault f (Some g) = first_of f g

-- a declared name is no built-in one
abbrev pub name_fault : ℕ → List ℕ → Option Fault
name_fault at name = if is_among name builtin_names then Some (record { at = at; kind = kind.NameClash }) else None

-- the faults of the name and of the types that are written
abbrev pub text_fault : Name → ReadDecl → Option Fault → Option Fault
text_fault n r f = with_fault (with_fault f (name_fault n.at n.bytes)) r.reading.fault

-- a declaration is added, for which this is answered
abbrev pub add_answer : ℕ → Judged → Decl → List Decl → ℕ → Option Fault → Declaring
add_answer at j d ds n f = record { decls = ds ++ keep_shown j d ∷ []; allowed = n + length (kept_in j); fault = with_fault f (refusal_at at j) }

-- what is answered for a declaration behind others
abbrev pub IsJudgement : Declaring → ReadDecl → Judged → Type 0
IsJudgement st r j = IsAnswer st.decls r.decl (tell_alone st.decls (nat_eq st.allowed (length st.decls)) r) j

-- one declaration more
abbrev pub IsDeclared : DeclKind → Header → List FieldText → Declaring → Declaring → Type 0
IsDeclared k h fields st new =
    let r = declaration st.decls k h fields in
    (j : Judged) × IsJudgement st r j × (new ≡ add_answer h.name.at j r.decl st.decls st.allowed (text_fault h.name r st.fault))

-- an item: what is no declaration adds none
abbrev pub DeclaresOne : Item → Declaring → Declaring → Type 0
DeclaresOne (N.Abstract a) st new = IsDeclared Abstract a.header [] st new
DeclaresOne (N.Struct s) st new = IsDeclared Struct s.header s.fields st new
DeclaresOne (N.Method m) st new = new ≡ st
DeclaresOne (N.Bind n x) st new = new ≡ st
DeclaresOne (N.Do x) st new = new ≡ st

-- the items one after another
abbrev pub Declares : List Item → Declaring → Declaring → Type 0
Declares [] st new = new ≡ st
Declares (x ∷ xs) st new = (mid : Declaring) × DeclaresOne x st mid × Declares xs mid new

-- the table has just those from the first on that are allowed
abbrev pub HasAllowed : Declarations → Type 0
HasAllowed d = d.table ≡ take (length d.table) d.decls
