-- What the end of the loop answers.
use Rattle.std.proofs.Common.{ℕ, Bool, true, false, List, [], ◌∷◌, ◌++◌, ◌≡◌, Option, Some, None, Result, Ok, Err, refl, sym, ap, subst, ◌∙◌}
use Rattle.std.proofs.lemmas.List.{append_assoc, append-nil}
use Rattle.jl_token.specs.declared.token.Token.{Token}
use Rattle.jl_typeread.specs.declared.terminal.Terminal.TheVariants as S
use Rattle.jl_typeread.specs.Lexemes.{lexemes}
use Rattle.jl_typeread.specs.Reads.{EndsAlone}
use Rattle.jl_grammar.specs.declared.mark.Marked.{Marked}
use Rattle.jl_grammar.specs.declared.state.State.{State}
use Rattle.jl_grammar.specs.declared.tree.Script.{Script}
use Rattle.jl_grammar.specs.Machine.{start, step, step_all, is_type_wanted}
use Rattle.jl_grammar.specs.Reads.{text}
use Rattle.jl_grammar.specs.Texts.{Text, tok}
use Rattle.jl_grammar.proofs.Reading.{step_all_append}
use Rattle.jl_reader.specs.declared.fault.SyntaxFault.{SyntaxFault}
use Rattle.jl_reader.specs.declared.fault.SyntaxFault.TheVariants.{Syntax, BadType, TooDeep, Memory}
use Rattle.jl_reader.specs.Answers.{IsFault, Answers, Reads, UnlessMemory, IsOnly, wrong_token, Took}
use Rattle.jl_reader.proofs.Answered.{wrong_answer, deep_answer, whole_answer}
use Rattle.jl_reader.proofs.OneAnswer.{only_of, unless_of}
use Rattle.jl_reader.proofs.Tokens.{text_splits}

-- the tokens so far lead to this state, and no item of them is too deep
pub record SoFar (tokens : List Token) (left : Text) (s : State) : Type 0 where
  pub front : Text
  pub split : front ++ left ≡ text (lexemes tokens)
  pub state : step_all front start ≡ Some s
  pub none : s.script.too_deep ≡ None

abbrev pub Given : List Token → Result Script SyntaxFault → Type 0
Given tokens r = UnlessMemory r (Reads tokens) × IsOnly r (Reads tokens)

given : (tokens : List Token) (r : Result Script SyntaxFault) → Reads tokens r → Given tokens r
given tokens r h = (unless_of tokens r h, only_of tokens r h)

fault_answers : (ts : Text) (end : ℕ) (b : Bool) (a : ℕ) → IsFault ts end b a → Answers ts end (Err (wrong_token b a))
fault_answers ts end true a h = h
fault_answers ts end false a h = h

wrong_token_reads : (tokens : List Token) (left : Text) (t : Marked) (s : State) (e : SyntaxFault) → EndsAlone tokens → SoFar tokens (t ∷ left) s → step t (Some s) ≡ None → e ≡ wrong_token (is_type_wanted s.point) t.lexeme.at → Reads tokens (Err e)
wrong_token_reads tokens left t s e h f w i =
    let c = text_splits tokens h in (
      c.0,
      c.1,
      c.2,
      c.3,
      subst (λ x. Answers c.0 c.1.at (Err x)) (sym i)
          (fault_answers c.0 c.1.at (is_type_wanted s.point) t.lexeme.at (wrong_answer c.0 f.front left c.1 t s (f.split ∙ c.2) c.3 f.state f.none w)),
    )

pub fault_given : (tokens : List Token) (left : Text) (t : Marked) (s : State) (e : SyntaxFault) → EndsAlone tokens → SoFar tokens (t ∷ left) s → Took t s (Err e) → Given tokens (Err e)
fault_given tokens left t s (Syntax a) h f w = given tokens (Err (Syntax a)) (wrong_token_reads tokens left t s (Syntax a) h f w.0 w.1)
fault_given tokens left t s (BadType a) h f w = given tokens (Err (BadType a)) (wrong_token_reads tokens left t s (BadType a) h f w.0 w.1)
fault_given tokens left t s (TooDeep a) h f w =
    let c = text_splits tokens h in
    given tokens (Err (TooDeep a)) (c.0, c.1, c.2, c.3, deep_answer c.0 f.front left c.1 t s w.0 a (f.split ∙ c.2) c.3 f.state w.1 w.2)
fault_given tokens left t s Memory h f w = (tt, λ r k. tt)

pub one_more : (tokens : List Token) (left : Text) (t : Marked) (s r : State) → SoFar tokens (t ∷ left) s → Took t s (Ok r) → SoFar tokens left r
one_more tokens left t s r f w = record {
  front = f.front ++ t ∷ [];
  split = append_assoc f.front (t ∷ []) left ∙ f.split;
  state = step_all_append f.front (t ∷ []) start ∙ ap (step t) f.state ∙ w.0;
  none = w.1;
}

pub script_given : (tokens : List Token) (s : State) (script : Script) → EndsAlone tokens → SoFar tokens [] s → script.items ≡ s.script.items → Given tokens (Ok script)
script_given tokens s script h f i =
    let c = text_splits tokens h in
    let is : step_all (c.0 ++ tok S.End c.1 ∷ []) start ≡ Some s = ap (λ x. step_all x start) (sym (sym (append-nil f.front) ∙ f.split ∙ c.2)) ∙ f.state in
    given tokens (Ok script) (c.0, c.1, c.2, c.3, subst (λ x. Answers c.0 c.1.at (Ok (record { items = x }))) (sym i) (whole_answer c.0 c.1 s c.3 is f.none))
