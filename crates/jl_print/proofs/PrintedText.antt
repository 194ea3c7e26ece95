-- The text of the printed tokens reads back as the same script, places aside, where each of these tokens has a spelling and
-- each newline is a token.
use Rattle.std.proofs.Common.{◌≡◌, ℕ, suc, ◌≤◌, true, cond, ◌==◌, None, List, [], ◌∷◌, ◌++◌, length, refl, sym, ap, ◌∙◌, subst, arith}
use Rattle.std.proofs.lemmas.Bool.{eq-eqb, ne_eqb}
use Rattle.std.proofs.lemmas.List.{append-nil}
use Rattle.std.specs.List.{AllByRecursion}
use Rattle.jl_token.specs.declared.token.Token.{Token}
use Rattle.jl_typeread.specs.Lexemes.{lexeme_of, terminal_of}
use Rattle.jl_typeread.specs.Lexemes as X
use Rattle.jl_typeread.specs.declared.terminal.Lexeme.{Lexeme}
use Rattle.jl_typeread.specs.declared.terminal.Terminal.TheVariants as S
use Rattle.jl_grammar.specs.declared.mark.Previous.TheVariants.{Other}
use Rattle.jl_grammar.specs.declared.state.ItemsRead.{ItemsRead}
use Rattle.jl_grammar.specs.declared.tree.Script.{Script}
use Rattle.jl_grammar.specs.Grammar as GR
use Rattle.jl_grammar.specs.Marks.{terminals, with_marks, marks_of}
use Rattle.jl_grammar.specs.Newlines.{drop_newlines}
use Rattle.jl_grammar.specs.Texts.{Text, tok}
use Rattle.jl_print.specs.Printed.{script_terminals}
use Rattle.jl_print.specs.PrintsBack.{IsSource, ReadsBack}
use Rattle.jl_print.specs.Spelling.{text_of, IsSpellable, Stays}
use Rattle.jl_print.proofs.BareText as B
use Rattle.jl_print.proofs.ItemsAgain.{again_script}
use Rattle.jl_print.proofs.Laid.{seen, spot, laid, laid-append, Right, right-append}
use Rattle.jl_print.proofs.Likes.{dull_near}
use Rattle.jl_print.proofs.TextReads.{kind_terminals, text_has}

-- ---- tokens with their marks

pub seen_with_marks : (ls : List Lexeme) → seen (with_marks ls) ≡ terminals ls
seen_with_marks [] = refl
seen_with_marks (l ∷ ls) = ap (λ x. l.terminal ∷ x) (seen_with_marks ls)

with_marks-right : (ls : List Lexeme) → Right (with_marks ls) []
with_marks-right [] = tt
with_marks-right (l ∷ ls) = (ap (λ x. marks_of (l.terminal ∷ x)) (sym (append-nil (seen (with_marks ls)) ∙ seen_with_marks ls)), with_marks-right ls)

-- ---- where tokens stand, by how many there are from each on

length-terminals : (ls : List Lexeme) → length (terminals ls) ≡ length ls
length-terminals [] = refl
length-terminals (l ∷ ls) = ap suc (length-terminals ls)

place_at : List Lexeme → ℕ → ℕ
place_at [] k = 0
place_at (l ∷ ls) k = cond (k == suc (length ls)) l.at (place_at ls k)

with_marks-laid : (ls : List Lexeme) (h : ℕ → ℕ) → ((k : ℕ) → k ≤ length ls → h k ≡ place_at ls k) → with_marks ls ≡ laid h (terminals ls) []
unfolding place_at
with_marks-laid [] h agrees = refl
with_marks-laid (l ∷ ls) h agrees =
    let many : length (l.terminal ∷ terminals ls ++ []) ≡ suc (length ls) = ap suc (ap length (append-nil (terminals ls)) ∙ length-terminals ls) in
    let here : h (length (l.terminal ∷ terminals ls ++ [])) ≡ l.at =
    ap h many ∙ agrees (suc (length ls)) (omega arith) ∙ ap (λ b. cond b l.at (place_at ls (suc (length ls)))) (eq-eqb (suc (length ls)) (suc (length ls)) refl) in
    let rest : with_marks ls ≡ laid h (terminals ls) [] =
    with_marks-laid ls h (λ k le. agrees k (omega (arith, le)) ∙ ap (λ b. cond b l.at (place_at ls k)) (ne_eqb k (suc (length ls)) (λ e. absurd (omega (arith, le, e))))) in
    λ i. record { lexeme = record { terminal = l.terminal; at = sym here i }; marks = marks_of (l.terminal ∷ sym (append-nil (terminals ls)) i) } ∷ rest i

pub with_marks_laid : (ls : List Lexeme) → (h : ℕ → ℕ) × (with_marks ls ≡ laid h (terminals ls) [])
with_marks_laid ls = (place_at ls, with_marks-laid ls (place_at ls) (λ k le. refl))

-- ---- the whole text

pub terminals_of_tokens : (ts : List Token) → terminals (X.lexemes ts) ≡ kind_terminals ts
terminals_of_tokens [] = refl
terminals_of_tokens (t ∷ ts) = ap (λ x. terminal_of t.kind ∷ x) (terminals_of_tokens ts)

abbrev as_read : Script → ItemsRead
as_read s = record { items = s.items; too_deep = None }

as-read : (xs : ItemsRead) (ts : Text) → xs.too_deep ≡ None → GR.ItemsBefore xs ts → GR.ScriptText (as_read (record { items = xs.items })) ts
as-read xs ts e d = subst (λ a. GR.ScriptText (record { items = xs.items; too_deep = a }) ts) e (GR.script_before xs ts d)

-- the tokens of a script's source have the marks that are theirs before the end
pub front_right : (source : List ℕ) (s : Script) → (is : IsSource source s) → Right is.front (S.End ∷ [])
front_right source s is = (right-append is.front (tok S.End is.end ∷ []) [] (subst (λ x. Right x []) is.seen (with_marks-right (drop_newlines (X.lexemes is.tokens))))).0

pub printed_back : (source : List ℕ) (s : Script) → IsSource source s → AllByRecursion IsSpellable (script_terminals s) → Stays true [] Other (script_terminals s)
    → length (text_of (script_terminals s)) ≤ 1048576 → ReadsBack (text_of (script_terminals s)) s
printed_back source s is all stays fits =
    let c = script_terminals s in
    let t = text_has c all fits in
    let bs = drop_newlines (X.lexemes t.tokens) in
    let shown : terminals bs ≡ c ++ S.End ∷ [] =
    B.bare-seen (X.lexemes t.tokens) [] Other ∙ ap (B.seen [] Other) (terminals_of_tokens t.tokens ∙ t.terminals) ∙ B.stays_seen c true [] Other stays in
    let h = with_marks_laid bs in
    let right : Right is.front (S.End ∷ []) = front_right source s is in
    let made = again_script h.0 (as_read s) is.front is.is_script refl (S.End ∷ []) (S.End ∷ []) right (dull_near S.End [] refl) in (
      record { items = made.items.items },
      record {
        tokens = t.tokens;
        has_tokens = t.reads;
        front = laid h.0 c (S.End ∷ []);
        end = spot h.0 (S.End ∷ []);
        seen = h.1 ∙ ap (λ x. laid h.0 x []) shown ∙ laid-append h.0 c (S.End ∷ []) [];
        is_script = as-read made.items (laid h.0 c (S.End ∷ [])) made.shallow made.derives;
      },
      (λ i. record { items = made.same i }),
    )
