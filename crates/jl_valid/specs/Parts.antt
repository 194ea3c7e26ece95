-- When a reading is good: where it ends without a fault, what it becomes is valid where it stands.
use Rattle.std.specs.Prelude.{ℕ, ◌≡◌, ◌≤◌, ◌<◌, Bool, true, false, IsTrue, List, [], ◌∷◌, ◌++◌, length, take, get_or, None}
use Rattle.std.specs.List.{flat_map}
use Rattle.std.specs.Str.{is_utf8}
use Rattle.jl_program.specs.declared.prelude.TheConstants.{PRELUDE_FUNCTIONS}
use Rattle.jl_model.specs.declared.ty.Written.{Written}
use Rattle.jl_model.specs.AllRows.{each_var}
use Rattle.jl_model.specs.Usable.{is_usable}
use Rattle.jl_program.specs.declared.tree.Expr.{Expr as Code}
use Rattle.jl_program.specs.declared.tree.Program.{Program}
use Rattle.jl_program.specs.Names.{is_field_name}
use Rattle.jl_program.specs.Prelude.{prelude_count, prelude_functions}
use Rattle.jl_program.specs.BodyTypes.{is_seen, is_made, is_struct, IsAllowedType}
use Rattle.jl_program.specs.Scope.{View, Scope as Standing, is_valid_expr}
use Rattle.jl_program.specs.Valid.{IsValidSig}
use Rattle.jl_typeread.specs.declared.tree.ArgText.{ArgText}
use Rattle.jl_typeread.specs.declared.tree.TypeText.{TypeText}
use Rattle.jl_grammar.specs.declared.tree.Head.{Head}
use Rattle.jl_grammar.specs.declared.tree.Name.{Name}
use Rattle.jl_written.specs.declared.reading.TypeVar.{TypeVar}
use Rattle.jl_resolve_forms.specs.declared.known.Known.{Known}
use Rattle.jl_resolve_forms.specs.declared.state.Scope.{Scope}
use Rattle.jl_resolve_forms.specs.declared.state.State.{State}
use Rattle.jl_resolve_forms.specs.Defined.{own_name}
use Rattle.jl_resolve_forms.specs.Expressions.{Reads, Defines, Says, binds, returns, does, Evaluates, defines, evaluates, Shows, writes, shows, Tries, method_signature, deleted_signature, static_parameters}
use Rattle.jl_resolve_forms.specs.TypesIn.{Tests, type_in_body, make_at}
use Rattle.jl_valid.specs.Adds.{no_got, got_in, Every, Adds}

-- a name that may stand in a text
abbrev pub IsGoodName : Name → Type 0
IsGoodName n = IsTrue (is_field_name n.bytes)

-- a static parameter that is usable has that flag
abbrev pub IsFlagged : List Bool → TypeVar → Type 0
IsFlagged flags v = v.usable ≡ true → get_or flags v.number false ≡ true

-- what is visible in the text is visible in the program
pub record Sees (c : Scope) (v : View) : Type 0 where
  pub slots : length c.slots ≡ v.slots
  pub statics : Every (IsFlagged v.statics) c.statics

abbrev pub flags_of : Written → List Bool
flags_of s = each_var (is_usable s) 0 s.vars

abbrev pub standing : View → Bool → ℕ → Standing
standing v r least = record { view = v; returns = r; least = least }

-- a test passes where this is visible, at every place whose spawn places have at least this number
abbrev pub Passes : View → Bool → ℕ → (Standing → Bool) → Type 0
Passes v r n test = (least : ℕ) → least ≤ n → IsTrue (test (standing v r least))

-- a piece of code is valid
abbrev pub IsCode : View → Bool → ℕ → Code → Program → List View → Type 0
IsCode v r n x P all = Passes v r n (is_valid_expr P all x)

-- parts from left to right
abbrev pub Each : {X : Type 0} → (List Name → X → Type 0) → List (List Name) → List X → Type 0
Each Is [] [] = Unit {0}
Each Is (ns ∷ nss) (x ∷ xs) = Is ns x × Each Is nss xs
Each Is _ _ = ⊥

module _ (k : Known) where
  -- an expression, where a `return` may stand or not, with the names of the functions that are defined in it
  abbrev pub IsGood : Bool → List Name → Reads → Type 0
  IsGood r names x = (c : Scope) (v : View) (s : State) → Sees c v → (x c s).after.fault ≡ None
      → Adds k s (x c s).after names (got_in (x c s).value) (IsCode v r (length s.spawns) (x c s).value)

  -- a definition, whose site is there
  abbrev pub IsSite : ℕ → Program → List View → Type 0
  IsSite site P all = (prelude_count ≤ site) × (site < length P.sites)

  abbrev pub IsGoodMethod : List Name → Defines → Type 0
  IsGoodMethod names x = (types : ℕ) (s : State) → (x types s).after.fault ≡ None → Adds k s (x types s).after names no_got (IsSite (x types s).value)

  -- a statement
  abbrev pub IsGoodStmt : Bool → List Name → Says → Type 0
  IsGoodStmt r names (binds n x) = IsGood r names x
  IsGoodStmt r names (returns x) = (r ≡ true) × IsGood r names x
  IsGoodStmt r names (does x) = IsGood r names x

  -- a statement of an evaluated block
  abbrev pub IsGoodEval : List Name → Evaluates → Type 0
  IsGoodEval names (defines m) = IsGoodMethod names m
  IsGoodEval names (evaluates x) = IsGood false names x

  -- what a print writes
  abbrev pub IsGoodPiece : Bool → List Name → Shows → Type 0
  IsGoodPiece r names (writes bytes) = (names ≡ []) × IsTrue (is_utf8 bytes)
  IsGoodPiece r names (shows x) = IsGood r names x

  -- a test with its block
  pub record IsGoodBranch (r : Bool) (names : List Name) (b : Tries) : Type 0 where
    pub of_test : List Name
    pub of_block : List (List Name)
    pub is : names ≡ of_test ++ flat_map (λ x. x) of_block
    pub test : IsGood r of_test b.test
    pub block : Each (IsGoodStmt r) of_block b.block

  module _ (t : Tests) where
    -- a type in a body: it is allowed, and names what is visible
    pub record IsWrittenIn (c : Scope) (v : View) (text : TypeText) (s : State) : Type 0 where
      pub seen : IsTrue (is_seen k.decls v.statics (type_in_body t k text c s).value)
      pub allowed : IsAllowedType k.decls (type_in_body t k text c s).value

    abbrev pub IsGoodType : TypeText → Type 0
    IsGoodType text = (c : Scope) (v : View) (s : State) → Sees c v → (type_in_body t k text c s).after.fault ≡ None → IsWrittenIn c v text s

    -- the arguments in the braces of an explicit constructor
    pub record IsMadeOf (c : Scope) (v : View) (at p : ℕ) (args : List ArgText) (s : State) : Type 0 where
      pub seen : IsTrue (is_seen k.decls v.statics (make_at t k at p args c s).value)
      pub made : IsTrue (is_made k.decls (make_at t k at p args c s).value)
      pub allowed : IsAllowedType k.decls (make_at t k at p args c s).value

    abbrev pub AreGoodArgs : List ArgText → Type 0
    AreGoodArgs args = (at p : ℕ) (c : Scope) (v : View) (s : State) → Sees c v → IsTrue (is_struct k.decls p) → (make_at t k at p args c s).after.fault ≡ None → IsMadeOf c v at p args s

    -- the signature of a deletion
    abbrev pub IsDeleting : TypeText → Type 0
    IsDeleting text = (types : ℕ) → (deleted_signature t k types text).fault ≡ None → (deleted_signature t k types text).refusal ≡ None → IsValidSig k.decls (deleted_signature t k types text).sig

    -- the head of a method
    pub record IsSignedBy (types : ℕ) (h : Head) : Type 0 where
      pub valid : IsValidSig k.decls (method_signature t k types h).sig
      pub statics : Every (IsFlagged (flags_of (method_signature t k types h).sig)) (static_parameters (method_signature t k types h).sig (method_signature t k types h).vars)

    pub record IsGoodHead (h : Head) : Type 0 where
      pub name : Every IsGoodName (own_name h.callee)
      pub signed_by : (types : ℕ) → (method_signature t k types h).fault ≡ None → (method_signature t k types h).refusal ≡ None → IsSignedBy types h

-- what is true of what is known of a script
pub record IsKnown (k : Known) : Type 0 where
  pub functions : PRELUDE_FUNCTIONS ≤ length k.functions
  pub prelude : take (length prelude_functions) k.functions ≡ prelude_functions
