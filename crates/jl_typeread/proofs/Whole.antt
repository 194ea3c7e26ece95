-- A whole text: what the token that ends a reading says of it.
use Rattle.std.proofs.Common.{ℕ, zero, suc, ◌+◌, ◌≤◌, List, [], ◌∷◌, ◌++◌, ◌≡◌, Bool, true, false, cond, nat_le, Option, Some, None, refl, sym, ap, subst, ◌∙◌, length}
use Rattle.std.proofs.lemmas.List.{append_assoc, append-nil}
use Rattle.std.proofs.lemmas.Bool.{leb-true, leb-false, le-leb}
use Rattle.jl_token.specs.declared.token.Operator.TheVariants as op
use Rattle.jl_typeread.specs.declared.terminal.Word.TheVariants as words
use Rattle.jl_typeread.specs.declared.terminal.Terminal.{Terminal}
use Rattle.jl_typeread.specs.declared.terminal.Terminal.TheVariants as S
use Rattle.jl_typeread.specs.declared.terminal.Lexeme.{Lexeme}
use Rattle.jl_typeread.specs.declared.tree.TypeText.{TypeText}
use Rattle.jl_typeread.specs.declared.tree.VarText.{VarText}
use Rattle.jl_typeread.specs.declared.deep.Deep.{Deep}
use Rattle.jl_typeread.specs.declared.deep.Deep.TheVariants.{Built, TooDeep}
use Rattle.jl_typeread.specs.declared.state.TypeSoFar.{TypeSoFar}
use Rattle.jl_typeread.specs.declared.state.TypeSoFar.TheVariants.{Plain, Whole}
use Rattle.jl_typeread.specs.declared.state.Frame.{Frame}
use Rattle.jl_typeread.specs.declared.state.Frame.TheVariants as K
use Rattle.jl_typeread.specs.declared.state.Enclosure.TheVariants.{One, Braces}
use Rattle.jl_typeread.specs.declared.state.Point.{Point}
use Rattle.jl_typeread.specs.declared.state.Point.TheVariants as P
use Rattle.jl_typeread.specs.declared.state.State.{State}
use Rattle.jl_typeread.specs.declared.state.Turn.{Turn}
use Rattle.jl_typeread.specs.declared.state.Turn.TheVariants.{Goes, Wrong}
use Rattle.jl_typeread.specs.declared.state.Turn.TheVariants as turn
use Rattle.jl_typeread.specs.Depth.{held_type, type_depth, depth_limit}
use Rattle.jl_typeread.specs.Grammar.{IsType}
use Rattle.jl_typeread.specs.Machine as M
use Rattle.jl_typeread.specs.Machine.{at, tree_of, step, step_at, step_all, after_type, type_start}
use Rattle.jl_typeread.specs.Reads.{depth_after, is_passed, show, drop_newlines, depth_after_all, Spells, Begins, IsLongest, Reads, final_answer}
use Rattle.jl_typeread.proofs.Spelled.{step_all_append, read_type}
use Rattle.jl_typeread.proofs.Kept.{a_type, Has, has_want, bottom, HasTurn, kept}
use Rattle.jl_typeread.proofs.Filled.{IsPlain, plain_name, plain_paren, plain_brace, plain_subtype, ArePlain, fills}

-- ---- one type

abbrev point_of : Turn → Point
point_of (Goes s) = s.point
point_of t = P.Want

have_is : (h g : TypeSoFar) (k : List Frame) → at (P.Have h) k ≡ at (P.Have g) k → h ≡ g
have_is h g k e = let point : P.Have h ≡ P.Have g = ap point_of e in cc

-- two types of one text are the same, held
pub same_held : (t u : TypeText) (ts : List Lexeme) → IsType t ts → IsType u ts → held_type t ≡ held_type u
same_held t u ts a b = let r = read_type t ts a in let s = read_type u ts b in
    let begun : r.0 ≡ s.0 = have_is r.0 s.0 [] (sym (r.2 []) ∙ s.2 []) in
    sym r.1 ∙ ap tree_of begun ∙ s.1

held_built : (t : TypeText) → type_depth t ≤ depth_limit → held_type t ≡ Built t (type_depth t)
held_built t l = ap (λ b. cond b (Built t (type_depth t)) TooDeep) (le-leb (type_depth t) depth_limit l)

-- what is held as this tree is this tree
built_is : (u t : TypeText) (d : ℕ) → held_type u ≡ Built t d → u ≡ t
built_is u t d = elim (nat_le (type_depth u) depth_limit) as (λ b. cond b (Built u (type_depth u)) TooDeep ≡ Built t d → u ≡ t) [
  | true ↦ λ e. cc
  | false ↦ λ e. cc
]

-- a text of a type within the limit is no other type
pub one_type : (t u : TypeText) (ts : List Lexeme) → IsType t ts → IsType u ts → type_depth t ≤ depth_limit → t ≡ u
one_type t u ts a b l = sym (built_is u t (type_depth t) (sym (same_held t u ts a b) ∙ held_built t l))

-- ---- what a reading has read

abbrev HasGoes : Turn → List Lexeme → Type 0
HasGoes (Goes s) ts = Has a_type s.point s.stack ts
HasGoes t ts = Unit {0}

has_goes : (o : Turn) (before with : List Lexeme) → HasTurn a_type o before with → HasGoes o with
has_goes (Goes s) before with h = h
has_goes (turn.Type d) before with h = tt
has_goes (turn.Variables d) before with h = tt
has_goes Wrong before with h = tt

kept_one : (l : Lexeme) (o : Turn) (us : List Lexeme) → HasGoes o us → HasGoes (step l o) (us ++ l ∷ [])
kept_one l (Goes s) us h = has_goes (step_at l.terminal l.at s.point s.stack) us (us ++ l ∷ []) (kept a_type l.terminal l.at s.point s.stack us h)
kept_one l (turn.Type d) us h = tt
kept_one l (turn.Variables d) us h = tt
kept_one l Wrong us h = tt

kept_all : (ts : List Lexeme) (o : Turn) (us : List Lexeme) → HasGoes o us → HasGoes (step_all ts o) (us ++ ts)
kept_all [] o us h = subst (HasGoes o) (sym (append-nil us)) h
kept_all (l ∷ ts) o us h = subst (HasGoes (step_all ts (step l o))) (append_assoc us (l ∷ []) ts) (kept_all ts (step l o) (us ++ l ∷ []) (kept_one l o us h))

pub has_all : (ts : List Lexeme) (s : State) → step_all ts type_start ≡ Goes s → Has a_type s.point s.stack ts
has_all ts s e = subst (λ o. HasGoes o ts) e (kept_all ts type_start [] (has_want a_type [] [] bottom))

-- ---- a reading that is over

-- the turn ends the reading
pub data IsOver : Turn → Type 0 where
  over_type : (d : Deep TypeText) → IsOver (turn.Type d)
  over_variables : (d : Deep (List VarText)) → IsOver (turn.Variables d)
  over_wrong : IsOver Wrong

never_again : (ts : List Lexeme) (t : Turn) → IsOver t → (s : State) → step_all ts t ≡ Goes s → ⊥
never_again [] _ (over_type d) s e = cc
never_again [] _ (over_variables d) s e = cc
never_again [] _ over_wrong s e = cc
never_again (l ∷ ts) _ (over_type d) s e = never_again ts Wrong over_wrong s e
never_again (l ∷ ts) _ (over_variables d) s e = never_again ts Wrong over_wrong s e
never_again (l ∷ ts) _ over_wrong s e = never_again ts Wrong over_wrong s e

-- a whole type is never before a wrong token
never_wrong : (s : Terminal) (h : TypeSoFar) → after_type s h [] ≡ Wrong → ⊥
never_wrong (S.Operator op.OpenBrace) (Plain a n) e = cc
never_wrong (S.Operator op.OpenBrace) (Whole t) e = cc
never_wrong (S.Operator op.CloseBrace) h e = cc
never_wrong (S.Operator op.Comma) h e = cc
never_wrong (S.Operator op.CloseParen) h e = cc
never_wrong (S.Operator op.Subtype) h e = cc
never_wrong (S.Operator op.Supertype) h e = cc
never_wrong (S.Word words.Where) h e = cc
never_wrong s h e = cc

-- ---- newlines between brackets

drop_newlines_append : (n : ℕ) (ls us : List Lexeme) → drop_newlines n (ls ++ us) ≡ drop_newlines n ls ++ drop_newlines (depth_after_all n ls) us
drop_newlines_append n [] us = refl
drop_newlines_append n (l ∷ ls) us = ap (λ x. show n l ++ x) (drop_newlines_append (depth_after n l.terminal) ls us) ∙ sym (append_assoc (show n l) (drop_newlines (depth_after n l.terminal) ls) (drop_newlines (depth_after_all (depth_after n l.terminal) ls) us))

pub inside_append : (n : ℕ) (ls us : List Lexeme) → depth_after_all n (ls ++ us) ≡ depth_after_all (depth_after_all n ls) us
inside_append n [] us = refl
inside_append n (l ∷ ls) us = inside_append (depth_after n l.terminal) ls us

show_plain : (n : ℕ) (l : Lexeme) → IsPlain l → show n l ≡ l ∷ []
show_plain zero _ (plain_name a m) = refl
show_plain zero _ (plain_paren a) = refl
show_plain zero _ (plain_brace a) = refl
show_plain zero _ (plain_subtype a) = refl
show_plain (suc n) _ (plain_name a m) = refl
show_plain (suc n) _ (plain_paren a) = refl
show_plain (suc n) _ (plain_brace a) = refl
show_plain (suc n) _ (plain_subtype a) = refl

drop_newlines_plain : (n : ℕ) (ls : List Lexeme) → ArePlain ls → drop_newlines n ls ≡ ls
drop_newlines_plain n [] p = refl
drop_newlines_plain n (l ∷ ls) p = ap (λ x. x ++ drop_newlines (depth_after n l.terminal) ls) (show_plain n l p.0) ∙ ap (λ x. l ∷ x) (drop_newlines_plain (depth_after n l.terminal) ls p.1)

pub begins_of : (ls : List Lexeme) (s : State) → step_all (drop_newlines 0 ls) type_start ≡ Goes s → Begins ls
begins_of ls s e = let f = fills a_type s.point s.stack (drop_newlines 0 ls) (has_all (drop_newlines 0 ls) s e) in
    (f.1.0, f.0, subst (IsType f.1.0) (sym (drop_newlines_append 0 ls f.0 ∙ ap (λ x. drop_newlines 0 ls ++ x) (drop_newlines_plain (depth_after_all 0 ls) f.0 f.2))) f.1.1)

pub step_all_turn : (ls : List Lexeme) (l : Lexeme) (o : Turn) → step_all (drop_newlines 0 ls) type_start ≡ o → step_all (drop_newlines 0 (ls ++ l ∷ [])) type_start ≡ step_all (show (depth_after_all 0 ls) l) o
step_all_turn ls l o e =
    ap (λ x. step_all x type_start) (drop_newlines_append 0 ls (l ∷ []))
    ∙ step_all_append (drop_newlines 0 ls) (show (depth_after_all 0 ls) l ++ []) type_start
    ∙ ap (step_all (show (depth_after_all 0 ls) l ++ [])) e
    ∙ ap (λ x. step_all x o) (append-nil (show (depth_after_all 0 ls) l))

over_begins : (ls : List Lexeme) (t : Turn) → IsOver t → step_all (drop_newlines 0 ls) type_start ≡ t → Begins ls → ⊥
over_begins ls t v e b = let r = read_type b.0 (drop_newlines 0 (ls ++ b.1)) b.2 in
    never_again (drop_newlines (depth_after_all 0 ls) b.1) t v (record { point = P.Have r.0; stack = [] })
    (sym (ap (step_all (drop_newlines (depth_after_all 0 ls) b.1)) e) ∙ sym (step_all_append (drop_newlines 0 ls) (drop_newlines (depth_after_all 0 ls) b.1) type_start) ∙ ap (λ x. step_all x type_start) (sym (drop_newlines_append 0 ls b.1)) ∙ r.2 [])

-- ---- the token that ends a reading

-- it is one that the grammar sees
over_shown : (b : Bool) (l : Lexeme) (s : State) (t : Turn) → IsOver t → step_all (cond b [] (l ∷ [])) (Goes s) ≡ t → step_at l.terminal l.at s.point s.stack ≡ t
over_shown false l s t v e = e
over_shown true l s _ (over_type d) e = cc
over_shown true l s _ (over_variables d) e = cc
over_shown true l s _ over_wrong e = cc

turned : (front : List Lexeme) (l : Lexeme) (s : State) (t : Turn) → step_all (drop_newlines 0 front) type_start ≡ Goes s → step_at l.terminal l.at s.point s.stack ≡ t → HasTurn a_type t (drop_newlines 0 front) (drop_newlines 0 front ++ l ∷ [])
turned front l s t e f = subst (λ x. HasTurn a_type x (drop_newlines 0 front) (drop_newlines 0 front ++ l ∷ [])) f (kept a_type l.terminal l.at s.point s.stack (drop_newlines 0 front) (has_all (drop_newlines 0 front) s e))

no_type : (front : List Lexeme) (l : Lexeme) (s : State) → step_all (drop_newlines 0 front) type_start ≡ Goes s → step_at l.terminal l.at s.point s.stack ≡ Wrong → (t : TypeText) → Spells t front → ⊥
no_type front l s e f t d = let r = read_type t (drop_newlines 0 front) d in
    let same : at (P.Have r.0) [] ≡ Goes s = sym (r.2 []) ∙ e in
    let state : s ≡ record { point = P.Have r.0; stack = [] } = cc in
    never_wrong l.terminal r.0 (sym (ap (λ x. step_at l.terminal l.at x.point x.stack) state) ∙ f)

held_reads : (ls : List Lexeme) (from : ℕ) (front : List Lexeme) (l : Lexeme) (t : TypeText) (next : ℕ) → IsLongest ls front l → Spells t front → next ≡ from + length front →
    Reads ls from (final_answer (turn.Type (held_type t)) l.at next)
held_reads ls from front l t next g d e = elim (nat_le (type_depth t) depth_limit) as (λ b. nat_le (type_depth t) depth_limit ≡ b → Reads ls from (final_answer (turn.Type (cond b (Built t (type_depth t)) TooDeep)) l.at next)) [
  | true ↦ λ h. (front, l, g, d, leb-true (type_depth t) depth_limit h, e)
  | false ↦ λ h. (t, front, l, g, d, leb-false (type_depth t) depth_limit h, e)
] refl

reads_turn : (ls : List Lexeme) (from : ℕ) (front : List Lexeme) (l : Lexeme) (s : State) (t : Turn) (next : ℕ) → IsLongest ls front l → IsOver t → step_all (drop_newlines 0 front) type_start ≡ Goes s →
    step_at l.terminal l.at s.point s.stack ≡ t → next ≡ from + length front → Reads ls from (final_answer t l.at next)
reads_turn ls from front l s _ next g (over_type d) e f n = let h = turned front l s (turn.Type d) e f in
    subst (λ x. Reads ls from (final_answer (turn.Type x) l.at next)) (sym h.1) (held_reads ls from front l h.0 next g h.2 n)
reads_turn ls from front l s _ next g (over_variables d) e f n = let h = turned front l s (turn.Variables d) e f in absurd h.2
reads_turn ls from front l s _ next g over_wrong e f n = (front, l, g, no_type front l s e f, refl)

pub reads_over : (ls : List Lexeme) (from : ℕ) (front : List Lexeme) (l : Lexeme) (rest : List Lexeme) (s : State) (t : Turn) (next : ℕ) → ls ≡ front ++ l ∷ rest → IsOver t →
    step_all (drop_newlines 0 front) type_start ≡ Goes s → step_all (show (depth_after_all 0 front) l) (Goes s) ≡ t → next ≡ from + length front → Reads ls from (final_answer t l.at next)
reads_over ls from front l rest s t next split v e f n =
    reads_turn ls from front l s t next
    (record { rest = rest; split = split; begins = begins_of front s e; stops = over_begins (front ++ l ∷ []) t v (step_all_turn front l (Goes s) e ∙ f) })
    v e (over_shown (is_passed (depth_after_all 0 front) l.terminal) l s t v f) n

-- the end of a source is never taken
end_of_variable_stops : (o : Option (Deep VarText)) (k : List Frame) (s : State) → M.end_of_variable o k ≡ Goes s → ⊥
end_of_variable_stops None k s e = cc
end_of_variable_stops (Some v) [] s e = cc
end_of_variable_stops (Some v) (f ∷ k) s e = cc

end_of_type_stops : (h : TypeSoFar) (k : List Frame) (s : State) → M.end_of_type h k ≡ Goes s → ⊥
end_of_type_stops h [] s e = cc
end_of_type_stops h (K.Argument a n xs m ∷ k) s e = cc
end_of_type_stops h (K.Paren a ∷ k) s e = cc
end_of_type_stops h (K.Where a t ∷ k) s e = cc
end_of_type_stops h (K.Variable v One ∷ k) s e = end_of_variable_stops (M.variable v h) k s e
end_of_type_stops h (K.Variable v (Braces vs) ∷ k) s e = cc

variables_stop : (vs : Deep (List VarText)) (k : List Frame) (s : State) → M.end_of_variables vs k ≡ Goes s → ⊥
variables_stop vs [] s e = cc
variables_stop vs (f ∷ k) s e = cc

pub end_stops : (a : ℕ) (p : Point) (k : List Frame) (s : State) → step_at S.End a p k ≡ Goes s → ⊥
end_stops a P.Want k s e = cc
end_stops a P.Variable k s e = cc
end_stops a P.First k s e = cc
end_stops a P.Next k s e = cc
end_stops a (P.Have h) k s e = end_of_type_stops h k s e
end_stops a P.Where k s e = cc
end_stops a (P.Low t) k s e = cc
end_stops a (P.Named t b n) k s e = cc
end_stops a (P.Closed vs) k s e = variables_stop vs k s e
