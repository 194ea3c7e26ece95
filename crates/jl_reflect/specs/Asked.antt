-- Which key of a program is asked for by the name of a function and the text of a type (Julia manual, Types: Tuple Types; Methods).
use Rattle.std.specs.Prelude.{ℕ, ◌≡◌, ◌≤◌, ◌⊎◌, Bool, false, nat_eq, IsTrue, List, [], ◌∷◌, ◌++◌, length, drop, slice_get, Option, None, Some, Ok}
use Rattle.std.specs.List.{list_any}
use Rattle.jl_model.specs.declared.limits.TheConstants.{MOST_ARGUMENTS}
use Rattle.jl_model.specs.declared.ty.Decl.{Decl}
use Rattle.jl_model.specs.declared.ty.Key.{Key}
use Rattle.jl_model.specs.declared.ty.Ty.{Ty}
use Rattle.jl_model.specs.declared.ty.Ty.TheViews as V
use Rattle.jl_model.specs.Ancestors.{table_of}
use Rattle.jl_model.specs.Counts.{IsWithinLimits}
use Rattle.jl_model.specs.Normal.{IsNormalForm}
use Rattle.jl_model.specs.Valid.{IsValidType}
use Rattle.jl_program.specs.declared.tree.Program.{Program}
use Rattle.jl_program.specs.declared.tree.Site.{Site}
use Rattle.jl_program.specs.Prelude.{prelude_count}
use Rattle.jl_program.specs.Scope.{all_types}
use Rattle.jl_program.specs.ValidValue.{IsValueType}
use Rattle.jl_token.specs.declared.token.Token.{Token}
use Rattle.jl_token.specs.Grammar.{ReadsBytes}
use Rattle.jl_typeread.specs.declared.terminal.Lexeme.{Lexeme}
use Rattle.jl_typeread.specs.declared.tree.TypeText.{TypeText}
use Rattle.jl_typeread.specs.Depth.{type_depth, depth_limit}
use Rattle.jl_typeread.specs.Lexemes.{lexemes}
use Rattle.jl_typeread.specs.Reads.{Spells}
use Rattle.jl_written.specs.Reads.{Typed, seen, no_reading, type_reads}
use Rattle.jl_reflect.specs.declared.type_text.TheConstants.{MOST_TYPE_BYTES}

-- ---- the function

-- one of these sites is of the function
abbrev pub is_defined : ℕ → List Site → Bool
is_defined f sites = list_any (λ (s : Site). nat_eq s.function f) sites

-- the function of this name, where a site of the script defines a method of it
pub record IsFunction (P : Program) (name : List ℕ) (f : ℕ) : Type 0 where
  pub named : slice_get P.functions f ≡ Some name
  pub defined : IsTrue (is_defined f (drop prelude_count P.sites))

-- ---- the text of the type

-- all tokens but the last one, which is the end, spell this type, and it is not too deep
pub record IsWhole (tokens : List Token) (t : TypeText) : Type 0 where
  pub front : List Lexeme
  pub last : Lexeme
  pub split : lexemes tokens ≡ front ++ last ∷ []
  pub spelled : Spells t front
  pub shallow : type_depth t ≤ depth_limit

-- the whole text is this type
pub record IsText (text : List ℕ) (t : TypeText) : Type 0 where
  pub short : length text ≤ MOST_TYPE_BYTES
  pub tokens : List Token
  pub read : ReadsBytes text (Ok tokens)
  pub whole : IsWhole tokens t

-- ---- what it means

-- a type that was read, where there is no fault, and no variable is brought
pub record IsPlain (read : Typed) (t : Ty) : Type 0 where
  pub is : t ≡ read.ty
  pub faultless : read.after.fault ≡ None
  pub closed : read.after.vars ≡ []

module _ (ds : List Decl) where
  -- what a text means where all types are declared and no variable is visible
  abbrev pub meaning : TypeText → Typed
  meaning t = type_reads ds t (seen [] [] false) false no_reading

  -- it means this type, without a fault, as a name of no type is one, and without a variable
  abbrev pub Means : TypeText → Ty → Type 0
  Means t u = IsPlain (meaning t) u

  -- a type of the table has this normal form, and both are within the limits
  pub record IsForm (t u : Ty) : Type 0 where
    pub valid : IsValidType ds t
    pub small : IsWithinLimits t
    pub form : IsNormalForm (table_of ds) t u
    pub fits : IsWithinLimits u

  -- and values may have the normal form as their type
  pub record IsValueForm (t u : Ty) : Type 0 where
    pub form : IsForm t u
    pub value : IsValueType ds u

  -- a type that is not written as a tuple has one with these parts as its normal form
  pub record IsTupleForm (t : Ty) (parts : List Ty) : Type 0 where
    pub other : (us : List Ty) → t ≡ V.Tuple us → ⊥
    pub form : IsForm t (V.Tuple parts)

  -- the parts of the tuple that a type is, or that its normal form is
  abbrev pub IsTupleOf : Ty → List Ty → Type 0
  IsTupleOf t parts = (t ≡ V.Tuple parts) ⊎ IsTupleForm t parts

  -- the normal forms of types, one each
  abbrev pub AreValueForms : List Ty → List Ty → Type 0
  AreValueForms [] [] = Unit {0}
  AreValueForms (t ∷ ts) (u ∷ us) = IsValueForm t u × AreValueForms ts us
  AreValueForms [] (u ∷ us) = ⊥
  AreValueForms (t ∷ ts) [] = ⊥

  -- these are the types of a key for that tuple: the normal forms of its parts
  pub record AreKeyTypes (parts us : List Ty) : Type 0 where
    pub few : length parts ≤ MOST_ARGUMENTS
    pub each : AreValueForms parts us

  -- the types of a key that a type means: it is a tuple, written or in its normal form
  pub record MeansTypes (t : Ty) (us : List Ty) : Type 0 where
    pub parts : List Ty
    pub tuple : IsTupleOf t parts
    pub types : AreKeyTypes parts us

  -- the types of a key that a written type means
  pub record TypeMeans (t : TypeText) (us : List Ty) : Type 0 where
    pub type : Ty
    pub means : Means t type
    pub types : MeansTypes type us

  -- those that a text means
  pub record TextMeans (text : List ℕ) (us : List Ty) : Type 0 where
    pub written : TypeText
    pub read : IsText text written
    pub means : TypeMeans written us

-- ---- the key

-- the key that a name and the text of a type mean
pub record MeansKey (P : Program) (name text : List ℕ) (key : Key) : Type 0 where
  pub function : IsFunction P name key.function
  pub types : TextMeans (all_types P) text key.types

-- they mean none
abbrev pub IsUnknown : Program → List ℕ → List ℕ → Type 0
IsUnknown P name text = (key : Key) → MeansKey P name text key → ⊥

-- ---- what code answers

-- something of which this is true, or there is nothing
abbrev pub Finds : {A : Type 0} → (A → Type 0) → Option A → Type 0
Finds {A} R None = (a : A) → R a → ⊥
Finds R (Some a) = R a
