-- What a text is, from what reading and resolving answer.
use Rattle.std.proofs.Common.{◌≡◌, ◌<◌, ℕ, List, length, refl, inl, sym, subst, Ok, Err}
use Rattle.jl_token.specs.declared.token.Token.{Token}
use Rattle.jl_token.specs.declared.token.TokenFault.{TokenFault}
use Rattle.jl_token.specs.declared.token.TokenFault.TheVariants as T
use Rattle.jl_token.specs.Grammar.{ReadsSource, UnlessMemory}
use Rattle.jl_grammar.specs.declared.tree.Script.{Script}
use Rattle.jl_formed.specs.Formed.{FormedScript}
use Rattle.jl_formed.proofs.Scripts.{script_formed}
use Rattle.jl_reader.specs.declared.fault.SyntaxFault.{SyntaxFault}
use Rattle.jl_reader.specs.declared.fault.SyntaxFault.TheVariants as S
use Rattle.jl_reader.specs.Answers.{Reads}
use Rattle.jl_reader.specs.Answers as A
use Rattle.jl_resolve.specs.declared.fault.StaticFault.{StaticFault}
use Rattle.jl_resolve.specs.declared.fault.StaticFault.TheVariants as F
use Rattle.jl_resolve.specs.Program.{IsRefused}
use Rattle.jl_work.specs.Place.{too_long_line, token_line, syntax_line, static_line}
use Rattle.jl_work.specs.Owed.{AreScript, IsFaultLine, no_tokens, no_script, no_program}

-- the line of a fault, where a text is that line
pub line_along : (bytes line text : List ℕ) → text ≡ line → IsFaultLine bytes line → IsFaultLine bytes text
line_along bytes line text e fault = subst (λ (t : List ℕ). IsFaultLine bytes t) (sym e) fault

-- why a source has no tokens
pub no_tokens_line : (bytes : List ℕ) (f : TokenFault) → UnlessMemory (Err f) (ReadsSource bytes) → (f ≡ T.Memory → ⊥) → IsFaultLine bytes (token_line bytes f)
no_tokens_line bytes T.SourceTooLong reads told = no_tokens bytes T.SourceTooLong reads
no_tokens_line bytes (T.BadUtf8 at) reads told = no_tokens bytes (T.BadUtf8 at) reads
no_tokens_line bytes (T.BadCharacter at) reads told = no_tokens bytes (T.BadCharacter at) reads
no_tokens_line bytes (T.NumberTooLarge at) reads told = no_tokens bytes (T.NumberTooLarge at) reads
no_tokens_line bytes (T.OpenString at) reads told = no_tokens bytes (T.OpenString at) reads
no_tokens_line bytes (T.OpenComment at) reads told = no_tokens bytes (T.OpenComment at) reads
no_tokens_line bytes T.Memory reads told = absurd (told refl)

-- why tokens are no script
pub no_script_line : (bytes : List ℕ) (ts : List Token) (f : SyntaxFault) → ReadsSource bytes (Ok ts) → A.UnlessMemory {A = Script} (Err f) (Reads ts) → (f ≡ S.Memory → ⊥) → IsFaultLine bytes (syntax_line bytes f)
no_script_line bytes ts (S.Syntax at) tokens reads told = no_script bytes ts (S.Syntax at) tokens reads
no_script_line bytes ts (S.BadType at) tokens reads told = no_script bytes ts (S.BadType at) tokens reads
no_script_line bytes ts (S.TooDeep at) tokens reads told = no_script bytes ts (S.TooDeep at) tokens reads
no_script_line bytes ts S.Memory tokens reads told = absurd (told refl)

-- why a script is no program
pub no_program_line : (bytes : List ℕ) (s : Script) (f : StaticFault) → AreScript bytes s → IsRefused f s → (f ≡ F.Memory → ⊥) → IsFaultLine bytes (static_line bytes f)
no_program_line bytes s (F.At kind at) are refusal told = no_program bytes s at kind are refusal
no_program_line bytes s F.Memory are refusal told = absurd (told refl)

-- what is read is well formed
pub formed : (bytes : List ℕ) (s : Script) → AreScript bytes s → FormedScript s
formed bytes s are =
    let r : Reads are.0 (Ok s) = are.2 in
    script_formed bytes are.0 r.0 r.1 s are.1 r.2 r.4

-- bytes that are too many
pub too_long_fault : (bytes : List ℕ) → 1048576 < length bytes → IsFaultLine bytes too_long_line
too_long_fault bytes long = no_tokens bytes T.SourceTooLong (inl (long, refl))
