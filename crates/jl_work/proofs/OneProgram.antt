-- Bytes that are a program have no fault, and mean one program alone.
use Rattle.std.proofs.Common.{◌≡◌, ℕ, List, Ok, Err, sym, subst}
use Rattle.jl_program.specs.declared.tree.Program.{Program}
use Rattle.jl_grammar.specs.declared.tree.Script.{Script}
use Rattle.jl_token.specs.declared.token.Token.{Token}
use Rattle.jl_token.specs.declared.token.TokenFault.{TokenFault}
use Rattle.jl_token.specs.Grammar.{ReadsSource}
use Rattle.jl_token.proofs.Whole.{one-source}
use Rattle.jl_reader.specs.declared.fault.SyntaxFault.{SyntaxFault}
use Rattle.jl_reader.specs.Answers.{Reads}
use Rattle.jl_reader.proofs.OneAnswer.{reads_once}
use Rattle.jl_resolve.specs.Program.{IsProgramOf}
use Rattle.jl_resolve.proofs.OneMeaning.{one_program, no_fault}
use Rattle.jl_work.specs.Owed.{AreScript, AreProgram, IsProgram, IsFaultLine, no_tokens, no_script, no_program}

-- the tokens, the script, and the program are the same
same_tokens : (bytes : List ℕ) (ts us : List Token) → ReadsSource bytes (Ok ts) → ReadsSource bytes (Ok us) → ts ≡ us
same_tokens bytes ts us h k = let e = one-source bytes (Ok ts) (Ok us) h k in cc

pub same_script : (bytes : List ℕ) (s t : Script) → AreScript bytes s → AreScript bytes t → s ≡ t
same_script bytes s t h k =
    let r : Reads h.0 (Ok t) = subst (λ (ts : List Token). Reads ts (Ok t)) (sym (same_tokens bytes h.0 k.0 h.1 k.1)) k.2 in
    let e = reads_once h.0 (Ok s) (Ok t) h.2 r in cc

pub same_program : (bytes : List ℕ) (P Q : Program) → AreProgram bytes P → AreProgram bytes Q → P ≡ Q
same_program bytes P Q h k = one_program h.0 P Q h.2 (subst (λ (s : Script). IsProgramOf s Q) (sym (same_script bytes h.0 k.0 h.1 k.1)) k.2)

tokens_apart : (bytes : List ℕ) (ts : List Token) (f : TokenFault) → ReadsSource bytes (Ok ts) → ReadsSource bytes (Err f) → ⊥
tokens_apart bytes ts f h k = let e = one-source bytes (Ok ts) (Err f) h k in cc

script_apart : (bytes : List ℕ) (s : Script) (ts : List Token) (f : SyntaxFault) → AreScript bytes s → ReadsSource bytes (Ok ts) → Reads ts (Err f) → ⊥
script_apart bytes s ts f h k r =
    let q : Reads h.0 (Err f) = subst (λ (us : List Token). Reads us (Err f)) (sym (same_tokens bytes h.0 ts h.1 k)) r in
    let e = reads_once h.0 (Ok s) (Err f) h.2 q in cc

-- a text that is a program has no line of a fault
pub fault_apart : (bytes line : List ℕ) → IsFaultLine bytes line → IsProgram bytes → ⊥
fault_apart _ _ (no_tokens bytes f reads) (P, are) = tokens_apart bytes are.1.0 f are.1.1 reads
fault_apart _ _ (no_script bytes ts f tokens reads) (P, are) = script_apart bytes are.0 ts f are.1 tokens reads
fault_apart _ _ (no_program bytes s at kind script fault) (P, are) =
    no_fault s P at kind (subst (λ (t : Script). IsProgramOf t P) (same_script bytes are.0 s are.1 script) are.2) fault
