-- Where a row holds of a script.
use Rattle.std.specs.Prelude.{◌≡◌, true, List, [], ◌∷◌, ◌++◌, map, take, None}
use Rattle.jl_model.specs.declared.ty.Decl.{Decl}
use Rattle.jl_model.specs.declared.ty.DeclKind.{DeclKind}
use Rattle.jl_model.specs.declared.ty.DeclKind.TheVariants.{Abstract, Struct}
use Rattle.jl_model.specs.Ancestors.{builtin_types}
use Rattle.jl_grammar.specs.declared.tree.Field.{Field as FieldText}
use Rattle.jl_grammar.specs.declared.tree.Header.{Header}
use Rattle.jl_grammar.specs.declared.tree.Item.{Item}
use Rattle.jl_grammar.specs.declared.tree.Item.TheVariants as N
use Rattle.jl_grammar.specs.declared.tree.Script.{Script}
use Rattle.jl_written.specs.declared.fault.Fault.{Fault}
use Rattle.jl_declare.specs.declared.judged.Judged.TheVariants as J
use Rattle.jl_declare.specs.Declaration.{declaration, outline}
use Rattle.jl_declare.specs.Declarations.{Declaring, Declares, IsJudgement, no_declaration}
use Rattle.jl_declare.specs.Script.{known_of}
use Rattle.jl_judge.specs.Right.{IsRight}
use Rattle.jl_resolve_forms.specs.declared.known.Known.{Known}
use Rattle.jl_resolve_forms.specs.TypesIn.{Tests}
use Rattle.jl_fault_laws.specs.Uses.{Names, Visible, Use, used, declared_type, with_vars, brought, var_uses, option_uses, options_uses, type_names, names_told, uses_of}
use Rattle.jl_fault_laws.specs.Rows.{HoldsIn}
use Rattle.jl_fault_laws.specs.TypeRows.{RefusedIn}

-- the types that items declare, in text order: rows of names ask only for their names, and which of them are structs
abbrev pub declared_in : List Item → List Decl
declared_in [] = []
declared_in (N.Abstract a ∷ xs) = outline Abstract a.header ∷ declared_in xs
declared_in (N.Struct s ∷ xs) = outline Struct s.header ∷ declared_in xs
declared_in (N.Method m ∷ xs) = declared_in xs
declared_in (N.Bind n x ∷ xs) = declared_in xs
declared_in (N.Do x ∷ xs) = declared_in xs

-- only these types are visible
abbrev pub types_only : Names → Visible
types_only types = record { names = []; vars = []; inner = []; first = []; first_inner = []; bounded = true; types = types; method = None }

-- The uses of names in a declaration behind these types: its own name, its parameters with their bounds, its parent, and its
-- fields, which see the type itself too.
abbrev pub declaration_uses : Header → List FieldText → Names → List Use
declaration_uses h fields types =
    let w = with_vars (map var_uses h.params) (types_only types) in
    used h.name.at (declared_type h.name.bytes) (types_only types)
    ∷ (brought (map var_uses h.params) (types_only types) ++ (option_uses h.parent w ++ options_uses (map (λ (f : FieldText). f.ty) fields) (record w { types = types ++ h.name.bytes ∷ [] })))

abbrev pub declarations_uses : List Item → Names → List Use
declarations_uses [] types = []
declarations_uses (N.Abstract a ∷ xs) types = declaration_uses a.header [] types ++ declarations_uses xs (types ++ a.header.name.bytes ∷ [])
declarations_uses (N.Struct s ∷ xs) types = declaration_uses s.header s.fields types ++ declarations_uses xs (types ++ s.header.name.bytes ∷ [])
declarations_uses (N.Method m ∷ xs) types = declarations_uses xs types
declarations_uses (N.Bind n x ∷ xs) types = declarations_uses xs types
declarations_uses (N.Do x ∷ xs) types = declarations_uses xs types

-- what the text of a script tells of names
abbrev pub text_known : Script → Known
text_known s = known_of s.items (builtin_types ++ declared_in s.items)

-- the uses of names in a script: those in its declarations, and those in its methods and statements
abbrev pub script_uses : Script → List Use
script_uses s = declarations_uses s.items (type_names builtin_types) ++ uses_of (names_told (text_known s)) s.items

-- a row holds of a use of a name in a script, and its fault stands there
abbrev pub HoldsOf : Script → Fault → Type 0
HoldsOf s f = HoldsIn (text_known s) (script_uses s) f

-- what a script is read over: its declarations, and tests that are right for those of them that are allowed
pub record Setting (s : Script) : Type 0 where
  pub declaring : Declaring
  pub declares : Declares s.items no_declaration declaring
  pub tests : Tests
  pub right : IsRight (take declaring.allowed declaring.decls) tests

-- a use in a script is refused for its types, and the fault stands there
abbrev pub RefusedOf : (s : Script) → Setting s → Fault → Type 0
RefusedOf s g f = RefusedIn g.tests (known_of s.items g.declaring.decls) (script_uses s) f

-- a declaration is refused after those before it, and the fault stands at its name
abbrev pub IsRefusedAs : DeclKind → Header → List FieldText → Declaring → Fault → Type 0
IsRefusedAs k h fields st f = (h.name.at ≡ f.at) × IsJudgement st (declaration st.decls k h fields) (J.Refused f.kind)

-- an item that is a declaration is refused
abbrev pub IsRefusedItem : Item → Declaring → Fault → Type 0
IsRefusedItem (N.Abstract a) st f = IsRefusedAs Abstract a.header [] st f
IsRefusedItem (N.Struct x) st f = IsRefusedAs Struct x.header x.fields st f
IsRefusedItem _ st f = ⊥

-- a declaration in these items is refused, where these are declared before them
pub record RefusedFrom (xs : List Item) (st : Declaring) (f : Fault) : Type 0 where
  pub before : List Item
  pub item : Item
  pub behind : List Item
  pub is : xs ≡ before ++ item ∷ behind
  pub declaring : Declaring
  pub declares : Declares before st declaring
  pub refused : IsRefusedItem item declaring f

-- a declaration of a script is refused
abbrev pub RefusedDeclaration : Script → Fault → Type 0
RefusedDeclaration s f = RefusedFrom s.items no_declaration f
