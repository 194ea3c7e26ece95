-- The first wrong token: the tokens before it begin a script, and with it they begin none.
use Rattle.std.proofs.Common.{◌+◌, [], ◌∷◌, ◌++◌, ◌≡◌, length, Some, None, refl, sym, ap, subst, ◌∙◌, arith}
use Rattle.std.proofs.Math.Nat.{lt_irrefl}
use Rattle.std.proofs.Math.Seq.{take-append_seam, take-append-add, take-length}
use Rattle.std.proofs.lemmas.List.{append_assoc, length-append}
use Rattle.jl_typeread.specs.declared.terminal.Terminal.TheVariants as S
use Rattle.jl_grammar.specs.declared.mark.Marked.{Marked}
use Rattle.jl_grammar.specs.declared.state.State.{State}
use Rattle.jl_grammar.specs.Grammar.{ScriptText}
use Rattle.jl_grammar.specs.Machine as MC
use Rattle.jl_grammar.specs.Machine.{step, step_all}
use Rattle.jl_grammar.specs.Reads.{Begins, IsWrong}
use Rattle.jl_grammar.specs.Texts.{Text, Spot, tok, NoEnd}
use Rattle.jl_grammar.proofs.Reading.{step_all_append}
use Rattle.jl_grammar.proofs.Completed.{read_begins, none_begins}
use Rattle.jl_grammar.proofs.Whole.{no_script}

none_before : (ts : Text) (t : Marked) (s : State) → step_all ts MC.start ≡ Some s → step t (Some s) ≡ None → Begins (ts ++ t ∷ []) → ⊥
none_before ts t s e w c = none_begins (ts ++ t ∷ []) (step_all_append ts (t ∷ []) MC.start ∙ ap (step t) e ∙ w) (c.1, c.0, c.2)

begins_of : (ts : Text) (s : State) → NoEnd ts → step_all ts MC.start ≡ Some s → Begins ts
begins_of ts s n e = let c = read_begins ts s n e in (c.1, c.0, c.2)

-- a token that is wrong behind tokens that are read
pub token_is_wrong : (ts us : Text) (t : Marked) (s : State) → NoEnd ts → step_all ts MC.start ≡ Some s → step t (Some s) ≡ None → IsWrong (ts ++ t ∷ us) (length ts)
token_is_wrong ts us t s n e w = record {
  within = let h : length (ts ++ t ∷ us) ≡ length ts + length (t ∷ us) = length-append ts (t ∷ us) in omega arith;
  begins = subst Begins (sym (take-append_seam ts (t ∷ us))) (begins_of ts s n e);
  token = λ i c. none_before ts t s e w (subst Begins (take-append-add ts (t ∷ us) 1) c);
  end = λ i xs d. none_before ts t s e w (xs, us, subst (ScriptText xs) (sym (append_assoc ts (t ∷ []) us)) d);
}

-- the source's end, where it is wrong
pub end_is_wrong : (ts : Text) (p : Spot) (s : State) → NoEnd ts → step_all ts MC.start ≡ Some s → step (tok S.End p) (Some s) ≡ None → IsWrong ts (length ts)
end_is_wrong ts p s n e w = record {
  within = let h : length ts ≡ length ts = refl in omega arith;
  begins = subst Begins (sym (take-length ts)) (begins_of ts s n e);
  token = λ i c. absurd (lt_irrefl (length ts) i);
  end = λ i xs d. no_script ts p (step_all_append ts (tok S.End p ∷ []) MC.start ∙ ap (step (tok S.End p)) e ∙ w) xs d;
}
