-- In the text of a script each newline is a token; and the text that a script is printed by reads back as the same script,
-- places aside.
use Rattle.std.proofs.Common.{◌≡◌, ℕ, ◌≤◌, Bool, true, false, not, ◌&&◌, length, None, Result, Ok, Err, IfOk, List, [], ◌∷◌, ◌++◌, refl, sym, ap, ◌∙◌, subst}
use Rattle.std.specs.declared.alloc.AllocError.{AllocError}
use Rattle.jl_typeread.specs.declared.terminal.Terminal.{Terminal}
use Rattle.jl_typeread.specs.declared.terminal.Terminal.TheVariants as S
use Rattle.jl_typeread.specs.declared.terminal.Word.TheVariants as w
use Rattle.jl_grammar.specs.declared.mark.Around.{Around}
use Rattle.jl_grammar.specs.declared.mark.Marked.{Marked}
use Rattle.jl_grammar.specs.declared.mark.Previous.{Previous}
use Rattle.jl_grammar.specs.declared.mark.Previous.TheVariants.{Joins, Ends, Other}
use Rattle.jl_grammar.specs.declared.state.Form.{Form}
use Rattle.jl_grammar.specs.declared.state.ItemsRead.{ItemsRead}
use Rattle.jl_grammar.specs.declared.tree.Item.{Item}
use Rattle.jl_grammar.specs.declared.tree.Script.{Script}
use Rattle.jl_grammar.specs.Grammar as GR
use Rattle.jl_grammar.specs.Newlines.{around_after, in_bracket, is_dropped}
use Rattle.jl_grammar.specs.Newlines as L
use Rattle.jl_grammar.specs.Texts.{Text, wrd, Sep, lexemes}
use Rattle.jl_print.specs.Printed.{script_terminals}
use Rattle.jl_print.specs.PrintsBack.{IsSource, ReadsBack}
use Rattle.jl_print.specs.Spelling.{text_of, is_negative, is_prefix, Stays}
use Rattle.jl_print.proofs.ItemsAgain.{again_script}
use Rattle.jl_print.proofs.ItemsSpelled.{printed_guarded, reads_back}
use Rattle.jl_print.proofs.Laid.{seen, seen-append, laid, seen-laid}
use Rattle.jl_print.proofs.Likes.{dull_near}
use Rattle.jl_print.proofs.PrintedText.{front_right}
use Rattle.jl_print.proofs.SpelledTerminals.{Guarded}
use Rattle.jl_print.proofs.WholeTexts.{sep_apart, whole_expression, whole_long, whole_short, whole_header_text, whole_fields}
use Rattle.jl_print.proofs.Wholes.{struct, ClosedText, whole_kept, all_inside, all_behind, all-inside-append, all_behind_append, apart_kept, settled_behind, joins, Shown, RowsShown, shown_two, apart_shown, whole_shown, text-block, text-rows, text-form}

-- ---- items

-- where nothing is open: the newlines of the text are tokens, nothing is open behind it, and a newline behind it is a token
abbrev Stands : Previous → List Terminal → Type 0
Stands p ss = RowsShown [] p ss × (all_inside [] ss ≡ [])

stands-two : (p : Previous) (a b : List Terminal) → Stands p a → Stands (all_behind [] p a) b → Stands p (a ++ b)
stands-two p a b d e = (
  (
    shown_two [] p a b d.0.0 (subst (λ m. Shown m (all_behind [] p a) b) (sym d.1) e.0.0),
    ap joins (all_behind_append [] p a b) ∙ ap (λ m. joins (all_behind m (all_behind [] p a) b)) d.1 ∙ e.0.1,
  ),
  all-inside-append [] a b ∙ ap (λ m. all_inside m b) d.1 ∙ e.1,
)

stands-text : (p : Previous) (a b : Text) → Stands p (seen a) → Stands (all_behind [] p (seen a)) (seen b) → Stands p (seen (a ++ b))
stands-text p a b d e = subst (Stands p) (sym (seen-append a b)) (stands-two p (seen a) (seen b) d e)

closed-stands : (ts : Text) → ClosedText ts → (p : Previous) → Stands p (seen ts)
closed-stands ts d p = ((whole_shown (lexemes ts) d.0 [] p, settled_behind (lexemes ts) d.1 [] p), whole_kept (lexemes ts) d.0 [])

item-stands : (x : Form Item) (ts : Text) → GR.ItemText x ts → (p : Previous) → Stands p (seen ts)
item-stands _ _ (GR.abstract_item hd p q s ts c) k =
    let x = stands-text Ends ts (wrd w.End s ∷ []) (closed-stands ts (whole_header_text p.at hd ts c) Ends) (((refl, tt), refl), refl) in
    (((refl, (refl, x.0.0)), x.0.1), x.1)
item-stands _ _ (GR.struct_item hd xs p q ts us c d) k =
    closed-stands (wrd w.Struct p ∷ (ts ++ us) ++ wrd w.End q ∷ []) (text-block (wrd w.Struct p) (wrd w.End q) (ts ++ us) struct refl (text-rows ts us (text-form ts (whole_header_text p.at hd ts c)) (whole_fields xs us d))) k
item-stands _ _ (GR.long_item x ts d) k = closed-stands ts (whole_long x ts d) k
item-stands _ _ (GR.short_item x ts d) k = closed-stands ts (whole_short x ts d) k
item-stands _ _ (GR.bind_item n e p q ts is d) k = let x = closed-stands ts (whole_expression false e ts d) Joins in (((refl, (refl, x.0.0)), x.0.1), x.1)
item-stands _ _ (GR.expr_item e ts is d) k = closed-stands ts (whole_expression false e ts d) k

sep-stands : (t : Marked) (p : Previous) → Sep t → joins p ≡ false → Stands p (t.lexeme.terminal ∷ [])
sep-stands t p s e = let x = apart_shown t.lexeme.terminal [] p (sep_apart t s) (refl, e) in (((x.0, tt), x.1), apart_kept t.lexeme.terminal (sep_apart t s) [])

mutual
  before-stands : (xs : ItemsRead) (ts : Text) → GR.ItemsBefore xs ts → Stands Other (seen ts)
  before-stands _ _ GR.no_items = ((tt, refl), refl)
  before-stands _ _ (GR.items_again xs t ts d s) = let x = before-stands xs ts d in stands-text Other ts (t ∷ []) x (sep-stands t (all_behind [] Other (seen ts)) s x.0.1)
  before-stands _ _ (GR.items_apart xs t ts d s) = let x = after-stands xs ts d in stands-text Other ts (t ∷ []) x (sep-stands t (all_behind [] Other (seen ts)) s x.0.1)

  after-stands : (xs : ItemsRead) (ts : Text) → GR.ItemsAfter xs ts → Stands Other (seen ts)
  after-stands _ _ (GR.items_one xs x ts us a c) = stands-text Other ts us (before-stands xs ts a) (item-stands x us c (all_behind [] Other (seen ts)))

-- ---- printed scripts

-- each newline that a script of a source is printed with is a token
printed-shown : (source : List ℕ) (s : Script) → IsSource source s → Shown [] Other (script_terminals s)
printed-shown source s is =
    let made = again_script (λ n. 0) (record { items = s.items; too_deep = None }) is.front is.is_script refl (S.End ∷ []) (S.End ∷ []) (front_right source s is) (dull_near S.End [] refl) in
    subst (Shown [] Other) (seen-laid (λ n. 0) (script_terminals s) (S.End ∷ [])) (before-stands made.items (laid (λ n. 0) (script_terminals s) (S.End ∷ [])) made.derives).0.0

dropped-in : (a b : Bool) (ns : List Around) (p : Previous) → ((a && not b) && not (in_bracket ns)) ≡ false → ((a && not b) && not (is_dropped ns p)) ≡ false
dropped-in false b ns p e = refl
dropped-in true true ns p e = refl
dropped-in true false ns Joins e = refl
dropped-in true false ns p e = e

stays-by : (ss : List Terminal) (f : Bool) (ns : List Around) (p : Previous) → Shown ns p ss → Guarded f ns ss → Stays f ns p ss
stays-by [] f ns p d e = tt
stays-by (s ∷ ss) f ns p d e = (d.0, dropped-in (is_negative s) f ns p e.0, stays-by ss (is_prefix s) (around_after s ns) (L.previous_after s ns p) d.1 e.1)

-- the text that a script of a source is printed by reads back, where it is not too long for a source
pub prints_back : (source : List ℕ) (s : Script) → IsSource source s → length (text_of (script_terminals s)) ≤ 1048576 → ReadsBack (text_of (script_terminals s)) s
prints_back source s is fits = reads_back source s is (stays-by (script_terminals s) true [] Other (printed-shown source s is) (printed_guarded source s is)) fits

pub prints_back_if : (r : Result (List ℕ) AllocError) (s : Script) → IfOk r (λ t. t ≡ text_of (script_terminals s)) → (source : List ℕ) → IsSource source s → IfOk r (λ t. length t ≤ 1048576 → ReadsBack t s)
prints_back_if (Ok t) s e source is = λ fits. subst (λ l. ReadsBack l s) (sym e) (prints_back source s is (subst (λ l. length l ≤ 1048576) e fits))
prints_back_if (Err x) s e source is = tt
