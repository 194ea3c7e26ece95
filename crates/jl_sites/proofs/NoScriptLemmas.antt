-- Bytes of which a reader says a fault are no script, unless it only ran out of memory.
use Rattle.std.proofs.Common.{◌≡◌, ℕ, Bool, true, false, List, Ok, Err}
use Rattle.jl_token.specs.declared.token.Token.{Token}
use Rattle.jl_token.specs.declared.token.TokenFault.{TokenFault}
use Rattle.jl_token.specs.declared.token.TokenFault.TheVariants as T
use Rattle.jl_token.specs.Grammar.{ReadsSource}
use Rattle.jl_token.specs.Grammar as G
use Rattle.jl_grammar.specs.declared.tree.Script.{Script}
use Rattle.jl_reader.specs.declared.fault.SyntaxFault.{SyntaxFault}
use Rattle.jl_reader.specs.declared.fault.SyntaxFault.TheVariants as S
use Rattle.jl_reader.specs.Answers.{Reads, UnlessMemory}
use Rattle.jl_sites.specs.Table.{AreNoScript, no_tokens, no_script}

abbrev pub is_of_tokens : TokenFault → Bool
is_of_tokens T.Memory = false
is_of_tokens f = true

abbrev pub is_of_syntax : SyntaxFault → Bool
is_of_syntax S.Memory = false
is_of_syntax f = true

pub without_tokens : (bytes : List ℕ) (f : TokenFault) → G.UnlessMemory {A = List Token} (Err f) (ReadsSource bytes) → is_of_tokens f ≡ true → AreNoScript bytes
without_tokens bytes T.SourceTooLong h e = no_tokens T.SourceTooLong h
without_tokens bytes (T.BadUtf8 at) h e = no_tokens (T.BadUtf8 at) h
without_tokens bytes (T.BadCharacter at) h e = no_tokens (T.BadCharacter at) h
without_tokens bytes (T.NumberTooLarge at) h e = no_tokens (T.NumberTooLarge at) h
without_tokens bytes (T.OpenString at) h e = no_tokens (T.OpenString at) h
without_tokens bytes (T.OpenComment at) h e = no_tokens (T.OpenComment at) h
without_tokens bytes T.Memory h e = absurd (let f : false ≡ true = e in cc)

pub without_script : (bytes : List ℕ) (ts : List Token) (f : SyntaxFault) → ReadsSource bytes (Ok ts) → UnlessMemory {A = Script} (Err f) (Reads ts) → is_of_syntax f ≡ true → AreNoScript bytes
without_script bytes ts (S.Syntax at) r h e = no_script ts (S.Syntax at) r h
without_script bytes ts (S.BadType at) r h e = no_script ts (S.BadType at) r h
without_script bytes ts (S.TooDeep at) r h e = no_script ts (S.TooDeep at) r h
without_script bytes ts S.Memory r h e = absurd (let f : false ≡ true = e in cc)
