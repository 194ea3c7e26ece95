-- The grammar of types and of their variables. Each rule says which tree stands for which tokens.
use Rattle.std.specs.Prelude.{ℕ, List, [], ◌∷◌, ◌++◌}
use Rattle.jl_token.specs.declared.token.Operator.{Operator}
use Rattle.jl_token.specs.declared.token.Operator.TheVariants as op
use Rattle.jl_typeread.specs.declared.terminal.Word.{Word}
use Rattle.jl_typeread.specs.declared.terminal.Word.TheVariants as words
use Rattle.jl_typeread.specs.declared.terminal.Terminal.TheVariants as S
use Rattle.jl_typeread.specs.declared.terminal.Lexeme.{Lexeme}
use Rattle.jl_typeread.specs.declared.tree.TypeText.{TypeText}
use Rattle.jl_typeread.specs.declared.tree.ArgText.{ArgText}
use Rattle.jl_typeread.specs.declared.tree.VarText.{VarText}
use Rattle.jl_typeread.specs.declared.tree.ArgText.TheVariants as A
use Rattle.jl_typeread.specs.declared.tree.VarText.TheVariants as V
use Rattle.jl_typeread.specs.declared.tree.TypeText.TheVariants as T
use Rattle.jl_typeread.specs.declared.tree.ArgText.TheViews as W

-- a name at a place
abbrev pub name : ℕ → List ℕ → Lexeme
name a n = record { terminal = S.Name n; at = a }

-- a mark at a place
abbrev pub mark : Operator → ℕ → Lexeme
mark o a = record { terminal = S.Operator o; at = a }

-- a reserved word at a place
abbrev pub word : Word → ℕ → Lexeme
word w a = record { terminal = S.Word w; at = a }

mutual
  -- type = name [targs] | "(" type [where] ")"
  pub data IsType : TypeText → List Lexeme → Type 0 where
    plain : (a : ℕ) (n : List ℕ) → IsType (T.Name a n) (name a n ∷ [])
    empty : (a : ℕ) (n : List ℕ) (b c : ℕ) → IsType (W.Applied a n []) (name a n ∷ mark op.OpenBrace b ∷ mark op.CloseBrace c ∷ [])
    applied : (a : ℕ) (n : List ℕ) (b c : ℕ) (xs : List ArgText) (ts : List Lexeme) → IsArguments xs ts →
        IsType (W.Applied a n xs) ((name a n ∷ mark op.OpenBrace b ∷ ts) ++ mark op.CloseBrace c ∷ [])
    paren : (a c : ℕ) (t : TypeText) (ts : List Lexeme) → IsType t ts → IsType (W.Paren a t []) ((mark op.OpenParen a ∷ ts) ++ mark op.CloseParen c ∷ [])
    limited : (a c : ℕ) (t : TypeText) (vs : List VarText) (ts us : List Lexeme) → IsType t ts → IsWhere vs us →
        IsType (W.Paren a t vs) (((mark op.OpenParen a ∷ ts) ++ us) ++ mark op.CloseParen c ∷ [])

  -- targ {"," targ}
  pub data IsArguments : List ArgText → List Lexeme → Type 0 where
    one : (x : ArgText) (ts : List Lexeme) → IsArgument x ts → IsArguments (x ∷ []) ts
    more : (xs : List ArgText) (x : ArgText) (c : ℕ) (ts us : List Lexeme) → IsArguments xs ts → IsArgument x us → IsArguments (xs ++ x ∷ []) (ts ++ mark op.Comma c ∷ us)

  -- targ = type | "<:" type | ">:" type
  pub data IsArgument : ArgText → List Lexeme → Type 0 where
    exact : (t : TypeText) (ts : List Lexeme) → IsType t ts → IsArgument (A.Exact t) ts
    below : (a : ℕ) (t : TypeText) (ts : List Lexeme) → IsType t ts → IsArgument (A.Below a t) (mark op.Subtype a ∷ ts)
    above : (a : ℕ) (t : TypeText) (ts : List Lexeme) → IsType t ts → IsArgument (A.Above a t) (mark op.Supertype a ∷ ts)

  -- where = "where" var | "where" "{" var {"," var} "}"
  pub data IsWhere : List VarText → List Lexeme → Type 0 where
    alone : (a : ℕ) (v : VarText) (ts : List Lexeme) → IsVariable v ts → IsWhere (v ∷ []) (word words.Where a ∷ ts)
    braces : (a b c : ℕ) (vs : List VarText) (ts : List Lexeme) → IsVariables vs ts → IsWhere vs ((word words.Where a ∷ mark op.OpenBrace b ∷ ts) ++ mark op.CloseBrace c ∷ [])

  -- var {"," var}
  pub data IsVariables : List VarText → List Lexeme → Type 0 where
    first : (v : VarText) (ts : List Lexeme) → IsVariable v ts → IsVariables (v ∷ []) ts
    next : (vs : List VarText) (v : VarText) (c : ℕ) (ts us : List Lexeme) → IsVariables vs ts → IsVariable v us → IsVariables (vs ++ v ∷ []) (ts ++ mark op.Comma c ∷ us)

  -- var = name | name "<:" type | name ">:" type | type "<:" name "<:" type
  pub data IsVariable : VarText → List Lexeme → Type 0 where
    free : (a : ℕ) (n : List ℕ) → IsVariable (V.Free a n) (name a n ∷ [])
    upper : (a : ℕ) (n : List ℕ) (b : ℕ) (t : TypeText) (ts : List Lexeme) → IsType t ts → IsVariable (V.Below a n t) (name a n ∷ mark op.Subtype b ∷ ts)
    lower : (a : ℕ) (n : List ℕ) (b : ℕ) (t : TypeText) (ts : List Lexeme) → IsType t ts → IsVariable (V.Above a n t) (name a n ∷ mark op.Supertype b ∷ ts)
    between : (low : TypeText) (b a : ℕ) (n : List ℕ) (c : ℕ) (high : TypeText) (ts us : List Lexeme) → IsType low ts → IsType high us →
        IsVariable (V.Between low a n high) (ts ++ mark op.Subtype b ∷ name a n ∷ mark op.Subtype c ∷ us)

-- tparams = "{" var {"," var} "}"
pub data IsHeader : List VarText → List Lexeme → Type 0 where
  header : (b c : ℕ) (vs : List VarText) (ts : List Lexeme) → IsVariables vs ts → IsHeader vs ((mark op.OpenBrace b ∷ ts) ++ mark op.CloseBrace c ∷ [])
