-- Where a fault of a source stands, and the line that tells it.
use Rattle.std.specs.Prelude.{ℕ, ◌+◌, ◌&&◌, ◌==◌, nat_le, nat_lt, if◌then◌else◌, codes, decimal, List, [], ◌∷◌, ◌++◌, take}
use Rattle.jl_token.specs.declared.token.TokenFault.{TokenFault}
use Rattle.jl_token.specs.declared.token.TokenFault.TheVariants as T
use Rattle.jl_reader.specs.declared.fault.SyntaxFault.{SyntaxFault}
use Rattle.jl_reader.specs.declared.fault.SyntaxFault.TheVariants as S
use Rattle.jl_written.specs.declared.fault.StaticKind.{StaticKind}
use Rattle.jl_written.specs.declared.fault.StaticKind.TheVariants as K
use Rattle.jl_resolve.specs.declared.fault.StaticFault.{StaticFault}
use Rattle.jl_resolve.specs.declared.fault.StaticFault.TheVariants as F

-- one where the byte is a newline
abbrev pub newline : ℕ → ℕ
newline b = if b == 10 then 1 else 0

-- how many of these bytes are newlines
abbrev pub newlines : List ℕ → ℕ
newlines [] = 0
newlines (b ∷ bs) = newline b + newlines bs

-- one where the byte begins a character, and does not go on one
abbrev pub character : ℕ → ℕ
character b = if nat_le 128 b && nat_lt b 192 then 0 else 1

-- how many characters begin in these bytes
abbrev pub characters : List ℕ → ℕ
characters [] = 0
characters (b ∷ bs) = character b + characters bs

-- the bytes behind the last newline, where `line` stands before these
abbrev pub last_line : List ℕ → List ℕ → List ℕ
last_line line [] = line
last_line line (b ∷ bs) = if b == 10 then last_line [] bs else last_line (line ++ b ∷ []) bs

-- the line and the column of the byte at a place, each from 1; columns count characters
abbrev pub line_at : List ℕ → ℕ → ℕ
line_at bytes at = 1 + newlines (take at bytes)

abbrev pub column_at : List ℕ → ℕ → ℕ
column_at bytes at = 1 + characters (last_line [] (take at bytes))

-- the line that tells a fault by its place and its name
abbrev pub fault_line : List ℕ → ℕ → List ℕ → List ℕ
fault_line bytes at name =
    codes "ERROR: line " ++ (decimal (line_at bytes at) ++ (codes ", column " ++ (decimal (column_at bytes at) ++ (codes ": " ++ (name ++ codes "\n")))))

-- the line of a source that is too long
abbrev pub too_long_line : List ℕ
too_long_line = codes "ERROR: SourceTooLong\n"

-- the line that tells why a source has no tokens
abbrev pub token_line : List ℕ → TokenFault → List ℕ
token_line bytes T.SourceTooLong = too_long_line
token_line bytes (T.BadUtf8 at) = fault_line bytes at (codes "BadUtf8")
token_line bytes (T.BadCharacter at) = fault_line bytes at (codes "BadCharacter")
token_line bytes (T.NumberTooLarge at) = fault_line bytes at (codes "NumberTooLarge")
token_line bytes (T.OpenString at) = fault_line bytes at (codes "OpenString")
token_line bytes (T.OpenComment at) = fault_line bytes at (codes "OpenComment")
token_line bytes T.Memory = []

-- the line that tells why the tokens of a source are no script
abbrev pub syntax_line : List ℕ → SyntaxFault → List ℕ
syntax_line bytes (S.Syntax at) = fault_line bytes at (codes "Syntax")
syntax_line bytes (S.BadType at) = fault_line bytes at (codes "BadType")
syntax_line bytes (S.TooDeep at) = fault_line bytes at (codes "TooDeep")
syntax_line bytes S.Memory = []

-- the name of a static fault
abbrev pub kind_name : StaticKind → List ℕ
kind_name K.UnknownName = codes "UnknownName"
kind_name K.UnknownFunction = codes "UnknownFunction"
kind_name K.UnknownType = codes "UnknownType"
kind_name K.Rebound = codes "Rebound"
kind_name K.DuplicateType = codes "DuplicateType"
kind_name K.WrongParameterCount = codes "WrongParameterCount"
kind_name K.SuperNotAbstract = codes "SuperNotAbstract"
kind_name K.VariablePlace = codes "VariablePlace"
kind_name K.TypeLimit = codes "TypeLimit"
kind_name K.BoundsCrossed = codes "BoundsCrossed"
kind_name K.BoundBroken = codes "BoundBroken"
kind_name K.TooMany = codes "TooMany"
kind_name K.DuplicateField = codes "DuplicateField"
kind_name K.UnusedVariable = codes "UnusedVariable"
kind_name K.TooManyParameters = codes "TooManyParameters"
kind_name K.TooManySites = codes "TooManySites"
kind_name K.StaticParameterUse = codes "StaticParameterUse"
kind_name K.NameClash = codes "NameClash"
kind_name K.TooManyArguments = codes "TooManyArguments"
kind_name K.BadType = codes "BadType"

-- the line that tells why a script is no program
abbrev pub static_line : List ℕ → StaticFault → List ℕ
static_line bytes (F.At kind at) = fault_line bytes at (kind_name kind)
static_line bytes F.Memory = []
