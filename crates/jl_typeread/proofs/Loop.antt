-- Reading tokens one after another, and that a text reads in one way.
use Rattle.std.proofs.Common.{ℕ, zero, suc, ◌+◌, ◌≤◌, ◌<◌, List, [], ◌∷◌, ◌++◌, ◌≡◌, ◌⊎◌, inl, inr, Option, Some, None, Result, Ok, Err, refl, sym, ap, subst, ◌∙◌, arith, length, take, drop, get_or}
use Rattle.std.proofs.lemmas.List.{append_assoc, take_more, take_all, take-append-drop, map-append, length-map, length-take-le}
use Rattle.jl_token.specs.declared.token.Operator.TheVariants as op
use Rattle.jl_token.specs.declared.token.Token.{Token}
use Rattle.jl_token.specs.declared.token.TokenKind.TheVariants as kind
use Rattle.jl_typeread.specs.declared.terminal.Terminal.{Terminal}
use Rattle.jl_typeread.specs.declared.terminal.Terminal.TheVariants as S
use Rattle.jl_typeread.specs.declared.terminal.Lexeme.{Lexeme}
use Rattle.jl_typeread.specs.declared.tree.TypeText.{TypeText}
use Rattle.jl_typeread.specs.declared.state.State.{State}
use Rattle.jl_typeread.specs.declared.state.Turn.{Turn}
use Rattle.jl_typeread.specs.declared.state.Turn.TheVariants.{Goes, Wrong}
use Rattle.jl_typeread.specs.declared.state.Turn.TheVariants as turn
use Rattle.jl_typeread.specs.declared.fault.TypeFault.{TypeFault}
use Rattle.jl_typeread.specs.declared.fault.TypeFault.TheVariants as fault
use Rattle.jl_typeread.specs.Lexemes.{terminal_of, lexeme_of, lexemes}
use Rattle.jl_typeread.specs.Depth.{type_depth, depth_limit}
use Rattle.jl_typeread.specs.Grammar.{IsType}
use Rattle.jl_typeread.specs.Machine.{step, step_all, type_start}
use Rattle.jl_typeread.specs.Reads.{depth_after, show, drop_newlines, depth_after_all, Begins, IsLongest, Reads, UnlessMemory, IsOnly, EndsAlone, Took, final_answer}
use Rattle.jl_typeread.proofs.Whole.{IsOver, over_type, over_variables, over_wrong, step_all_turn, inside_append, reads_over, end_stops, one_type}

-- ---- the loop

lexemes_more : (ts : List Token) (i : ℕ) (d : Token) → i < length ts → lexemes (take (i + 1) ts) ≡ lexemes (take i ts) ++ lexeme_of (get_or ts i d) ∷ []
lexemes_more ts i d l = ap lexemes (take_more ts i d l) ∙ map-append lexeme_of (take i ts) (get_or ts i d ∷ [])

lexemes_split : (ts : List Token) (i : ℕ) (d : Token) → i < length ts → lexemes ts ≡ lexemes (take i ts) ++ lexeme_of (get_or ts i d) ∷ lexemes (drop (i + 1) ts)
lexemes_split ts i d l =
    ap lexemes (sym (take-append-drop (i + 1) ts))
    ∙ map-append lexeme_of (take (i + 1) ts) (drop (i + 1) ts)
    ∙ ap (λ x. x ++ lexemes (drop (i + 1) ts)) (lexemes_more ts i d l)
    ∙ append_assoc (lexemes (take i ts)) (lexeme_of (get_or ts i d) ∷ []) (lexemes (drop (i + 1) ts))

front_length : (ts : List Token) (i : ℕ) → i ≤ length ts → i ≡ length (lexemes (take i ts))
front_length ts i l = sym (length-map (take i ts) lexeme_of ∙ length-take-le i ts l)

ended_reads : (ts : List Token) (from i : ℕ) (d : Token) (s : State) (t : Turn) → i < length ts → IsOver t →
    step_all (drop_newlines 0 (lexemes (take i ts))) type_start ≡ Goes s → step_all (show (depth_after_all 0 (lexemes (take i ts))) (lexeme_of (get_or ts i d))) (Goes s) ≡ t →
    Reads (lexemes ts) from (final_answer t (get_or ts i d).at (from + i))
ended_reads ts from i d s t l v e f =
    reads_over (lexemes ts) from (lexemes (take i ts)) (lexeme_of (get_or ts i d)) (lexemes (drop (i + 1) ts)) s t (from + i)
    (lexemes_split ts i d l) v e f (ap (λ x. from + x) (front_length ts i (omega arith)))

pub loop_ended : (ts : List Token) (from i : ℕ) (d : Token) (depth : ℕ) (s s1 : State) (n1 : ℕ) (t : Turn) → i < length ts →
    step_all (drop_newlines 0 (lexemes (take i ts))) type_start ≡ Goes s → depth ≡ depth_after_all 0 (lexemes (take i ts)) → Took depth (lexeme_of (get_or ts i d)) s s1 n1 (Some t) →
    Reads (lexemes ts) from (final_answer t (get_or ts i d).at (from + i))
loop_ended ts from i d depth s s1 n1 (Goes x) l e same h = absurd h
loop_ended ts from i d depth s s1 n1 (turn.Type x) l e same h = ended_reads ts from i d s (turn.Type x) l (over_type x) e (ap (λ n. step_all (show n (lexeme_of (get_or ts i d))) (Goes s)) (sym same) ∙ h)
loop_ended ts from i d depth s s1 n1 (turn.Variables x) l e same h = ended_reads ts from i d s (turn.Variables x) l (over_variables x) e (ap (λ n. step_all (show n (lexeme_of (get_or ts i d))) (Goes s)) (sym same) ∙ h)
loop_ended ts from i d depth s s1 n1 Wrong l e same h = ended_reads ts from i d s Wrong l over_wrong e (ap (λ n. step_all (show n (lexeme_of (get_or ts i d))) (Goes s)) (sym same) ∙ h)

depth_after_low : (n : ℕ) (s : Terminal) → depth_after n s ≤ n + 1
depth_after_low n (S.Operator op.OpenParen) = omega arith
depth_after_low n (S.Operator op.OpenBrace) = omega arith
depth_after_low n (S.Operator op.CloseParen) = omega arith
depth_after_low n (S.Operator op.CloseBrace) = omega arith
depth_after_low n _ = omega arith

pub record Next (ts : List Token) (i : ℕ) (s1 : State) (n1 : ℕ) : Type 0 where
  pub state : step_all (drop_newlines 0 (lexemes (take (i + 1) ts))) type_start ≡ Goes s1
  pub depth : n1 ≡ depth_after_all 0 (lexemes (take (i + 1) ts))
  pub low : n1 ≤ i + 1

pub loop_kept : (ts : List Token) (i : ℕ) (d : Token) (depth : ℕ) (s s1 : State) (n1 : ℕ) → i < length ts →
    step_all (drop_newlines 0 (lexemes (take i ts))) type_start ≡ Goes s → depth ≡ depth_after_all 0 (lexemes (take i ts)) → depth ≤ i → Took depth (lexeme_of (get_or ts i d)) s s1 n1 None → Next ts i s1 n1
loop_kept ts i d depth s s1 n1 l e same low h = record {
  state =
      ap (λ x. step_all (drop_newlines 0 x) type_start) (lexemes_more ts i d l)
      ∙ step_all_turn (lexemes (take i ts)) (lexeme_of (get_or ts i d)) (Goes s) e
      ∙ ap (λ n. step_all (show n (lexeme_of (get_or ts i d))) (Goes s)) (sym same) ∙ h.0;
  depth =
      h.1 ∙ ap (λ n. depth_after n (lexeme_of (get_or ts i d)).terminal) same
      ∙ sym (ap (depth_after_all 0) (lexemes_more ts i d l) ∙ inside_append 0 (lexemes (take i ts)) (lexeme_of (get_or ts i d) ∷ []));
  low = let bound : depth_after depth (lexeme_of (get_or ts i d)).terminal ≤ depth + 1 = depth_after_low depth (lexeme_of (get_or ts i d)).terminal in
      let is : n1 ≡ depth_after depth (lexeme_of (get_or ts i d)).terminal = h.1 in omega arith;
}

-- ---- the end of the source

abbrev EndsLast : List Token → Type 0
EndsLast ts = (front : List Token) × (e : Token) × (ts ≡ front ++ e ∷ []) × (e.kind ≡ kind.End)

ends_last : (ts : List Token) → EndsAlone ts → EndsLast ts
ends_last [] h = absurd h
ends_last (t ∷ []) h = ([], t, refl, h)
ends_last (t ∷ u ∷ ts) h = let r = ends_last (u ∷ ts) h.1 in (t ∷ r.0, r.1, ap (λ x. t ∷ x) r.2, r.3)

ends_drop : (ts : List Token) (n : ℕ) → EndsAlone ts → n < length ts → EndsAlone (drop n ts)
ends_drop ts zero h l = h
ends_drop [] (suc n) h l = absurd h
ends_drop (t ∷ []) (suc n) h l = absurd (omega (arith, l))
ends_drop (t ∷ u ∷ ts) (suc n) h l = ends_drop (u ∷ ts) n h.1 (omega (arith, l))

end_seen : (n a : ℕ) → show n (record { terminal = S.End; at = a }) ≡ record { terminal = S.End; at = a } ∷ []
end_seen zero a = refl
end_seen (suc n) a = refl

end_step : (a : ℕ) (o : Turn) (s : State) → step (record { terminal = S.End; at = a }) o ≡ Goes s → ⊥
end_step a (Goes r) s e = end_stops a r.point r.stack s e
end_step a (turn.Type d) s e = cc
end_step a (turn.Variables d) s e = cc
end_step a Wrong s e = cc

no_end : (ts : List Token) (s : State) → EndsLast ts → step_all (drop_newlines 0 (lexemes ts)) type_start ≡ Goes s → ⊥
no_end ts s h e =
    let front = lexemes h.0 in
    let last : lexeme_of h.1 ≡ record { terminal = S.End; at = h.1.at } = ap (λ k. record { terminal = terminal_of k; at = h.1.at }) h.3 in
    let text : lexemes ts ≡ front ++ record { terminal = S.End; at = h.1.at } ∷ [] = ap lexemes h.2 ∙ map-append lexeme_of h.0 (h.1 ∷ []) ∙ ap (λ x. front ++ x ∷ []) last in
    let o : Turn = step_all (drop_newlines 0 front) type_start in
    end_step h.1.at o s
    (sym (ap (λ x. step_all x o) (end_seen (depth_after_all 0 front) h.1.at)) ∙ sym (step_all_turn front (record { terminal = S.End; at = h.1.at }) o refl) ∙ ap (λ x. step_all (drop_newlines 0 x) type_start) (sym text) ∙ e)

pub loop_ends : (ts : List Token) (from i : ℕ) (s : State) → EndsAlone ts → from < length ts → length (drop from ts) ≤ i → step_all (drop_newlines 0 (lexemes (take i (drop from ts)))) type_start ≡ Goes s → ⊥
loop_ends ts from i s h l m e =
    no_end (drop from ts) s (ends_last (drop from ts) (ends_drop ts from h l)) (ap (λ x. step_all (drop_newlines 0 (lexemes x)) type_start) (sym (take_all i (drop from ts) m)) ∙ e)

-- ---- a text reads in one way

abbrev Reaches : List Lexeme → Lexeme → List Lexeme → Type 0
Reaches f a g = (k : List Lexeme) × (g ≡ f ++ a ∷ k)

abbrev Compared : List Lexeme → Lexeme → List Lexeme → Lexeme → Type 0
Compared f a g b = ((f ≡ g) × (a ≡ b)) ⊎ (Reaches f a g ⊎ Reaches g b f)

consed : (x y : Lexeme) (f g : List Lexeme) (a b : Lexeme) → x ≡ y → Compared f a g b → Compared (x ∷ f) a (y ∷ g) b
consed x y f g a b h (inl p) = inl (ap (λ u. u ∷ f) h ∙ ap (λ u. y ∷ u) p.0, p.1)
consed x y f g a b h (inr (inl q)) = inr (inl (q.0, ap (λ u. y ∷ u) q.1 ∙ ap (λ u. u ∷ (f ++ a ∷ q.0)) (sym h)))
consed x y f g a b h (inr (inr q)) = inr (inr (q.0, ap (λ u. x ∷ u) q.1 ∙ ap (λ u. u ∷ (g ++ b ∷ q.0)) h))

compare : (f g : List Lexeme) (a b : Lexeme) (r s : List Lexeme) → f ++ a ∷ r ≡ g ++ b ∷ s → Compared f a g b
compare [] [] a b r s e = let same : a ≡ b = cc in inl (refl, same)
compare [] (y ∷ g) a b r s e = let same : y ≡ a = cc in inr (inl (g, ap (λ u. u ∷ g) same))
compare (x ∷ f) [] a b r s e = let same : x ≡ b = cc in inr (inr (f, ap (λ u. u ∷ f) same))
compare (x ∷ f) (y ∷ g) a b r s e = let same : x ≡ y = cc in let rest : f ++ a ∷ r ≡ g ++ b ∷ s = cc in consed x y f g a b same (compare f g a b r s rest)

begins_front : (f : List Lexeme) (a : Lexeme) (k : List Lexeme) → Begins (f ++ a ∷ k) → Begins (f ++ a ∷ [])
begins_front f a k b =
    let same : (f ++ a ∷ k) ++ b.1 ≡ (f ++ a ∷ []) ++ (k ++ b.1) = simp append_assoc refl in
    (b.0, k ++ b.1, subst (λ x. IsType b.0 (drop_newlines 0 x)) same b.2)

same_front : (ls f g : List Lexeme) (a b : Lexeme) → IsLongest ls f a → IsLongest ls g b → (f ≡ g) × (a ≡ b)
same_front ls f g a b i j = elim (compare f g a b i.rest j.rest (sym i.split ∙ j.split)) [
  | inl p ↦ p
  | inr q ↦ elim q [
    | inl u ↦ absurd (i.stops (begins_front f a u.0 (subst Begins u.1 j.begins)))
    | inr u ↦ absurd (j.stops (begins_front g b u.0 (subst Begins u.1 i.begins)))
  ]
]

pub reads_once : (ls : List Lexeme) (from : ℕ) (r q : Result (TypeText × ℕ) TypeFault) → Reads ls from r → Reads ls from q → r ≡ q
reads_once ls from (Ok r) (Ok q) h k =
    let s = same_front ls h.0 k.0 h.1 k.1 h.2 k.2 in
    let tree : r.0 ≡ q.0 = one_type r.0 q.0 (drop_newlines 0 h.0) h.3 (subst (λ x. IsType q.0 (drop_newlines 0 x)) (sym s.0) k.3) h.4 in
    let next : r.1 ≡ q.1 = h.5 ∙ ap (λ x. from + length x) s.0 ∙ sym k.5 in
    ap (λ x. Ok (x, r.1)) tree ∙ ap (λ x. Ok (q.0, x)) next
reads_once ls from (Ok r) (Err (fault.TooDeep n)) h k =
    let s = same_front ls h.0 k.1 h.1 k.2 h.2 k.3 in
    let tree : r.0 ≡ k.0 = one_type r.0 k.0 (drop_newlines 0 h.0) h.3 (subst (λ x. IsType k.0 (drop_newlines 0 x)) (sym s.0) k.4) h.4 in
    let deep : depth_limit < type_depth r.0 = subst (λ x. depth_limit < type_depth x) (sym tree) k.5 in
    let low : type_depth r.0 ≤ depth_limit = h.4 in absurd (omega arith)
reads_once ls from (Ok r) (Err (fault.BadType n)) h k =
    let s = same_front ls h.0 k.0 h.1 k.1 h.2 k.2 in absurd (k.3 r.0 (subst (λ x. IsType r.0 (drop_newlines 0 x)) s.0 h.3))
reads_once ls from (Ok r) (Err fault.Memory) h k = absurd k
reads_once ls from (Err (fault.TooDeep n)) (Ok q) h k =
    let s = same_front ls h.1 k.0 h.2 k.1 h.3 k.2 in
    let tree : q.0 ≡ h.0 = one_type q.0 h.0 (drop_newlines 0 k.0) k.3 (subst (λ x. IsType h.0 (drop_newlines 0 x)) s.0 h.4) k.4 in
    let deep : depth_limit < type_depth q.0 = subst (λ x. depth_limit < type_depth x) (sym tree) h.5 in
    let low : type_depth q.0 ≤ depth_limit = k.4 in absurd (omega arith)
reads_once ls from (Err (fault.TooDeep n)) (Err (fault.TooDeep m)) h k =
    let s = same_front ls h.1 k.1 h.2 k.2 h.3 k.3 in
    ap (λ x. Err (fault.TooDeep x)) (h.6 ∙ ap (λ x. from + length x) s.0 ∙ sym k.6)
reads_once ls from (Err (fault.TooDeep n)) (Err (fault.BadType m)) h k =
    let s = same_front ls h.1 k.0 h.2 k.1 h.3 k.2 in absurd (k.3 h.0 (subst (λ x. IsType h.0 (drop_newlines 0 x)) s.0 h.4))
reads_once ls from (Err (fault.TooDeep n)) (Err fault.Memory) h k = absurd k
reads_once ls from (Err (fault.BadType n)) (Ok q) h k =
    let s = same_front ls h.0 k.0 h.1 k.1 h.2 k.2 in absurd (h.3 q.0 (subst (λ x. IsType q.0 (drop_newlines 0 x)) (sym s.0) k.3))
reads_once ls from (Err (fault.BadType n)) (Err (fault.TooDeep m)) h k =
    let s = same_front ls h.0 k.1 h.1 k.2 h.2 k.3 in absurd (h.3 k.0 (subst (λ x. IsType k.0 (drop_newlines 0 x)) (sym s.0) k.4))
reads_once ls from (Err (fault.BadType n)) (Err (fault.BadType m)) h k =
    let s = same_front ls h.0 k.0 h.1 k.1 h.2 k.2 in ap (λ x. Err (fault.BadType x)) (h.4 ∙ ap (λ x. x.at) s.1 ∙ sym k.4)
reads_once ls from (Err (fault.BadType n)) (Err fault.Memory) h k = absurd k
reads_once ls from (Err fault.Memory) q h k = absurd h

-- what is an answer is the only one
pub only_of : (ls : List Lexeme) (from : ℕ) (r : Result (TypeText × ℕ) TypeFault) → Reads ls from r → IsOnly r (Reads ls from)
only_of ls from (Ok r) h = λ q k. reads_once ls from (Ok r) q h k
only_of ls from (Err (fault.TooDeep n)) h = λ q k. reads_once ls from (Err (fault.TooDeep n)) q h k
only_of ls from (Err (fault.BadType n)) h = λ q k. reads_once ls from (Err (fault.BadType n)) q h k
only_of ls from (Err fault.Memory) h = absurd h

pub unless_of : (ls : List Lexeme) (from : ℕ) (r : Result (TypeText × ℕ) TypeFault) → Reads ls from r → UnlessMemory r (Reads ls from)
unless_of ls from (Ok r) h = h
unless_of ls from (Err (fault.TooDeep n)) h = h
unless_of ls from (Err (fault.BadType n)) h = h
unless_of ls from (Err fault.Memory) h = tt

-- ---- in the form of the loop's goals, where `rest` is what is left of the tokens

pub answer_reads : (ts rest : List Token) (from i : ℕ) (d token : Token) (l : Lexeme) (depth : ℕ) (s s1 : State) (n1 : ℕ) (o : Option Turn) (t : Turn) (r : Result (TypeText × ℕ) TypeFault) →
    rest ≡ drop from ts → i < length rest → token ≡ get_or rest i d → l ≡ lexeme_of token →
    step_all (drop_newlines 0 (lexemes (take i rest))) type_start ≡ Goes s → depth ≡ depth_after_all 0 (lexemes (take i rest)) → Took depth l s s1 n1 o → o ≡ Some t → r ≡ final_answer t token.at (from + i) →
    Reads (lexemes (drop from ts)) from r
answer_reads ts rest from i d token l depth s s1 n1 o t r is few at seen e same h some answer =
    let took : Took depth (lexeme_of (get_or rest i d)) s s1 n1 (Some t) = subst (Took depth (lexeme_of (get_or rest i d)) s s1 n1) some (subst (λ x. Took depth x s s1 n1 o) (seen ∙ ap lexeme_of at) h) in
    let given : r ≡ final_answer t (get_or rest i d).at (from + i) = answer ∙ ap (λ x. final_answer t x.at (from + i)) at in
    subst (λ x. Reads (lexemes x) from r) is (subst (Reads (lexemes rest) from) (sym given) (loop_ended rest from i d depth s s1 n1 t few e same took))

pub step_all_round : (rest : List Token) (i : ℕ) (d token : Token) (l : Lexeme) (depth : ℕ) (s s1 : State) (n1 : ℕ) (o : Option Turn) →
    i < length rest → token ≡ get_or rest i d → l ≡ lexeme_of token →
    step_all (drop_newlines 0 (lexemes (take i rest))) type_start ≡ Goes s → depth ≡ depth_after_all 0 (lexemes (take i rest)) → depth ≤ i → Took depth l s s1 n1 o → o ≡ None → Next rest i s1 n1
step_all_round rest i d token l depth s s1 n1 o few at seen e same low h none =
    loop_kept rest i d depth s s1 n1 few e same low (subst (Took depth (lexeme_of (get_or rest i d)) s s1 n1) none (subst (λ x. Took depth x s s1 n1 o) (seen ∙ ap lexeme_of at) h))

pub never_ends : (ts rest : List Token) (from i : ℕ) (s : State) → EndsAlone ts → from < length ts → rest ≡ drop from ts → length rest ≤ i → step_all (drop_newlines 0 (lexemes (take i rest))) type_start ≡ Goes s → ⊥
never_ends ts rest from i s h l is m e =
    loop_ends ts from i s h l (subst (λ x. length x ≤ i) is m) (ap (λ x. step_all (drop_newlines 0 (lexemes (take i x))) type_start) (sym is) ∙ e)
