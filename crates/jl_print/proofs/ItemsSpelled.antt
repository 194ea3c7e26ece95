-- The tokens that a script is printed by have spellings.
use Rattle.std.proofs.Common.{◌≡◌, ℕ, ◌≤◌, true, false, length, Option, None, List, [], ◌∷◌, ◌++◌, map, refl, sym, ap, subst, append_assoc}
use Rattle.std.proofs.lemmas.List.{map-append}
use Rattle.jl_token.specs.declared.token.Operator.TheVariants as o
use Rattle.jl_typeread.specs.declared.terminal.Lexeme.{Lexeme}
use Rattle.jl_typeread.specs.declared.terminal.Terminal.{Terminal}
use Rattle.jl_typeread.specs.declared.terminal.Terminal.TheVariants as S
use Rattle.jl_typeread.specs.declared.terminal.Word.TheVariants as w
use Rattle.jl_grammar.specs.declared.state.Form.{Form}
use Rattle.jl_grammar.specs.declared.state.Forms.{Forms}
use Rattle.jl_grammar.specs.declared.state.ItemsRead.{ItemsRead}
use Rattle.jl_grammar.specs.declared.state.TypeForm.{TypeForm}
use Rattle.jl_grammar.specs.declared.state.VarsForm.{VarsForm}
use Rattle.jl_grammar.specs.declared.tree.Field.{Field}
use Rattle.jl_grammar.specs.declared.tree.Header.{Header}
use Rattle.jl_grammar.specs.declared.tree.Item.{Item}
use Rattle.jl_grammar.specs.declared.tree.Script.{Script}
use Rattle.jl_grammar.specs.Forms as M
use Rattle.jl_grammar.specs.Grammar as GR
use Rattle.jl_grammar.specs.Marks.{terminals}
use Rattle.jl_grammar.specs.Texts.{Text, wrd, lexemes, Sep, semicolon, newline}
use Rattle.jl_print.specs.Printed.{lines, type_terminals, params_terminals, marked_type, header_terminals, field_terminals, item_terminals, script_terminals}
use Rattle.jl_print.specs.PrintsBack.{IsSource, ReadsBack}
use Rattle.jl_print.specs.Spelling.{IsSpellable, Stays, text_of}
use Rattle.jl_grammar.specs.declared.mark.Previous.TheVariants.{Other}
use Rattle.jl_print.proofs.AgainHeads.{vars_as_read_vars}
use Rattle.jl_print.proofs.AgainLikes.{type_as_read_tree}
use Rattle.jl_print.proofs.ExprsAgain.{again_expression, again_long, again_short}
use Rattle.jl_print.proofs.ItemsAgain.{none_deep, header_fits, abstract_fits, struct_fits}
use Rattle.jl_print.proofs.Laid.{seen, seen-append, Right, right-append, text_spells}
use Rattle.jl_print.proofs.ListTerminals.{lines_more}
use Rattle.jl_print.proofs.PrintedText.{front_right, printed_back}
use Rattle.jl_print.proofs.SourceRead.{source_guarded}
use Rattle.jl_print.proofs.SourceTerminals.{IsGiven, AllGiven, source_given}
use Rattle.jl_print.proofs.SpelledTerminals.{AllSpelled, all_two, Guarded, Spells, spells_as, spells_same, spells_cons, RowSpells, row_as, row_of, row_none, row_sep, row_one, row_lead}
use Rattle.jl_print.proofs.AgainRows.{sep_passes}
use Rattle.jl_grammar.specs.declared.mark.Marked.{Marked}
use Rattle.jl_print.proofs.TypesSpelled.{type_spells, header_spells}
use Rattle.jl_print.proofs.WholeTexts.{whole_expression, whole_long, whole_short, whole_header_text, whole_fields}
use Rattle.jl_print.proofs.Wholes.{is_neutral, Pairs, round, square, curly, function, struct, test, begin, quote, IsApart, IsWhole, IsRows}
use Rattle.jl_print.proofs.Wholes as W

-- ---- tokens that some rule has

neutral-spelled : (s : Terminal) → is_neutral s ≡ true → IsGiven s → IsSpellable s
neutral-spelled (S.Word w.Unruled) n g = absurd cc
neutral-spelled (S.Word x) n g = refl
neutral-spelled S.End n g = absurd cc
neutral-spelled (S.Name k) n g = g
neutral-spelled (S.Number k) n g = g
neutral-spelled (S.Text k) n g = g
neutral-spelled (S.Macro k) n g = g
neutral-spelled (S.Operator x) n g = tt
neutral-spelled S.Newline n g = tt

pair-spelled : (s t : Terminal) → Pairs s t → IsSpellable s × IsSpellable t
pair-spelled _ _ round = (tt, tt)
pair-spelled _ _ square = (tt, tt)
pair-spelled _ _ curly = (tt, tt)
pair-spelled _ _ function = (refl, refl)
pair-spelled _ _ struct = (refl, refl)
pair-spelled _ _ test = (refl, refl)
pair-spelled _ _ begin = (refl, refl)
pair-spelled _ _ quote = (refl, refl)

given-split : (a b : List Terminal) → AllGiven (a ++ b) → AllGiven a × AllGiven b
given-split [] b g = (tt, g)
given-split (s ∷ a) b g = let x = given-split a b g.1 in ((g.0, x.0), x.1)

given-text : (a b : Text) → AllGiven (seen (a ++ b)) → AllGiven (seen a) × AllGiven (seen b)
given-text a b g = given-split (seen a) (seen b) (subst AllGiven (seen-append a b) g)

given-lexemes : (a b : List Lexeme) → AllGiven (terminals (a ++ b)) → AllGiven (terminals a) × AllGiven (terminals b)
given-lexemes a b g = given-split (terminals a) (terminals b) (subst AllGiven (map-append _ a b) g)

apart-spelled : (s : Terminal) → IsApart s → IsSpellable s
apart-spelled _ W.newline = tt
apart-spelled _ W.semicolon = tt
apart-spelled _ W.next_test = refl
apart-spelled _ W.no_test = refl

enclosed : (l m : Lexeme) (ls : List Lexeme) → Pairs l.terminal m.terminal → AllSpelled (terminals ls) → AllSpelled (terminals (l ∷ ls ++ m ∷ []))
enclosed l m ls p d =
    let k = pair-spelled l.terminal m.terminal p in
    (k.0, subst AllSpelled (sym (map-append _ ls (m ∷ []))) (all_two (terminals ls) (m.terminal ∷ []) d (k.1, tt)))

mutual
  whole-spelled : (ls : List Lexeme) → IsWhole ls → AllGiven (terminals ls) → AllSpelled (terminals ls)
  whole-spelled _ W.none g = tt
  whole-spelled _ (W.one l n) g = (neutral-spelled l.terminal n g.0, tt)
  whole-spelled _ (W.two a b d e) g =
      let x = given-lexemes a b g in
      subst AllSpelled (sym (map-append _ a b)) (all_two (terminals a) (terminals b) (whole-spelled a d x.0) (whole-spelled b e x.1))
  whole-spelled _ (W.within l m ls p d) g = enclosed l m ls p (whole-spelled ls d (given-lexemes ls (m ∷ []) g.1).0)
  whole-spelled _ (W.block l m ls p n d) g = enclosed l m ls p (rows-spelled ls d (given-lexemes ls (m ∷ []) g.1).0)

  rows-spelled : (ls : List Lexeme) → IsRows ls → AllGiven (terminals ls) → AllSpelled (terminals ls)
  rows-spelled _ W.empty g = tt
  rows-spelled _ (W.apart ls l d p) g =
      let x = given-lexemes ls (l ∷ []) g in
      subst AllSpelled (sym (map-append _ ls (l ∷ []))) (all_two (terminals ls) (l.terminal ∷ []) (rows-spelled ls d x.0) (apart-spelled l.terminal p, tt))
  rows-spelled _ (W.form ls a d e s) g =
      let x = given-lexemes ls a g in
      subst AllSpelled (sym (map-append _ ls a)) (all_two (terminals ls) (terminals a) (rows-spelled ls d x.0) (whole-spelled a e x.1))

spelled-text : (a b : Text) → AllSpelled (seen a) → AllSpelled (seen b) → AllSpelled (seen (a ++ b))
spelled-text a b f g = subst AllSpelled (sym (seen-append a b)) (all_two (seen a) (seen b) f g)

-- ---- declarations

params-spells : (vs : VarsForm) (ts : Text) → GR.TypeParamsText vs ts → vs.depth ≤ 500 → Spells (seen ts) (params_terminals vs.vars)
params-spells _ _ GR.no_type_params fits = spells_same []
params-spells _ _ (GR.some_type_params vs ts d) fits = spells_as _ _ _ (ap params_terminals (vars_as_read_vars vs fits)) (header_spells vs (lexemes ts) d)

parent-spells : (t : Option TypeForm) (ts : Text) → GR.ParentText t ts → M.parent_depth t ≤ 500 → Spells (seen ts) (marked_type o.Subtype (M.parent_tree t))
parent-spells _ _ GR.no_parent fits = spells_same []
parent-spells _ _ (GR.some_parent t p ts d) fits = spells_as _ _ _ (ap (λ l. S.Operator o.Subtype ∷ type_terminals l) (type_as_read_tree t fits)) (spells_cons (type_spells t (lexemes ts) d))

head-spells : (a : ℕ) (x : Form Header) (ts : Text) → GR.HeaderText a x ts → x.depth ≤ 500 → Spells (seen ts) (header_terminals x.tree)
head-spells _ _ _ (GR.header_text a n p vs t ts us c d) fits =
    let k = header_fits vs.depth (M.parent_depth t) fits in
    spells_cons (text_spells ts us (params_terminals vs.vars) (marked_type o.Subtype (M.parent_tree t)) (params-spells vs ts c k.0) (parent-spells t us d k.1))

field-spells : (x : Field) (d : ℕ) (ts : Text) → GR.FieldText x d ts → d ≤ 500 → Spells (seen ts) (field_terminals x)
field-spells _ _ _ (GR.field_name n p) fits = spells_same _
field-spells _ _ _ (GR.field_typed n p q t ts d) fits = spells_as _ _ _ (ap (λ l. S.Name n ∷ S.Operator o.HasType ∷ type_terminals l) (type_as_read_tree t fits)) (spells_cons (spells_cons (type_spells t (lexemes ts) d)))

mutual
  before-spells : (xs : Forms Field) (ts : Text) → GR.FieldsBefore xs ts → xs.depth ≤ 500 → RowSpells (seen ts) (lines (map field_terminals xs.trees))
  before-spells _ _ (GR.first_sep t s) fits = row_sep [] [] t.lexeme.terminal (sep_passes t s) row_none
  before-spells _ _ (GR.fields_again xs t ts d s) fits = row_of _ _ _ (seen-append ts (t ∷ [])) (row_sep (seen ts) (lines (map field_terminals xs.trees)) t.lexeme.terminal (sep_passes t s) (before-spells xs ts d fits))
  before-spells _ _ (GR.fields_apart xs t ts d s) fits = row_of _ _ _ (seen-append ts (t ∷ [])) (row_sep (seen ts) (lines (map field_terminals xs.trees)) t.lexeme.terminal (sep_passes t s) (after-spells xs ts d fits))

  after-spells : (xs : Forms Field) (ts : Text) → GR.FieldsAfter xs ts → xs.depth ≤ 500 → RowSpells (seen ts) (lines (map field_terminals xs.trees))
  after-spells _ _ (GR.fields_one xs x d ts us a c) fits =
      let k = header_fits xs.depth d fits in
      row_as _ _ _ (lines_more field_terminals xs.trees x)
      (row_of _ _ _ (seen-append ts us) (row_one (seen ts) (seen us) (lines (map field_terminals xs.trees)) (field_terminals x) (before-spells xs ts a k.0) (field-spells x d us c k.1)))

fields-spells : (xs : Forms Field) (ts : Text) → GR.FieldsText xs ts → xs.depth ≤ 500 → RowSpells (seen ts) (lines (map field_terminals xs.trees))
fields-spells _ _ GR.no_fields fits = row_none
fields-spells _ _ (GR.fields_before xs ts d) fits = before-spells xs ts d fits
fields-spells _ _ (GR.fields_after xs ts d) fits = after-spells xs ts d fits

-- ---- items

item-spells : (x : Form Item) (ts : Text) → GR.ItemText x ts → x.depth ≤ 500 → (rest : List Terminal) → Right ts rest → Spells (seen ts) (item_terminals x.tree)
item-spells _ _ (GR.abstract_item hd p q s ts c) fits rest right =
    spells_cons (spells_cons (text_spells ts (wrd w.End s ∷ []) (header_terminals hd.tree) (S.Word w.End ∷ []) (head-spells p.at hd ts c (abstract_fits hd.depth fits)) (spells_same _)))
item-spells _ _ (GR.struct_item hd xs p q ts us c d) fits rest right =
    let k = struct_fits hd.depth xs.depth fits in
    let row = lines (map field_terminals xs.trees) in
    spells_cons (spells_as _ _ _ (sym (append_assoc (header_terminals hd.tree) (S.Newline ∷ row) (S.Word w.End ∷ [])))
    (text_spells (ts ++ us) (wrd w.End q ∷ []) (header_terminals hd.tree ++ S.Newline ∷ row) (S.Word w.End ∷ [])
    (text_spells ts us (header_terminals hd.tree) (S.Newline ∷ row) (head-spells p.at hd ts c k.0) (row_lead (seen us) row (fields-spells xs us d k.1))) (spells_same _)))
item-spells _ _ (GR.long_item x ts d) fits rest right = (again_long (λ n. 0) x ts d rest right fits).tidy.spells
item-spells _ _ (GR.short_item x ts d) fits rest right = (again_short (λ n. 0) x ts d rest right fits).tidy.spells
item-spells _ _ (GR.bind_item n e p q ts is d) fits rest right = spells_cons (spells_cons (again_expression (λ n. 0) false e ts d rest right.1.1 fits).tidy.spells)
item-spells _ _ (GR.expr_item e ts is d) fits rest right = (again_expression (λ n. 0) false e ts d rest right fits).tidy.spells

mutual
  items-before : (xs : ItemsRead) (ts : Text) → GR.ItemsBefore xs ts → xs.too_deep ≡ None → (rest : List Terminal) → Right ts rest → RowSpells (seen ts) (lines (map item_terminals xs.items))
  items-before _ _ GR.no_items e rest right = row_none
  items-before _ _ (GR.items_again xs t ts d s) e rest right =
      row_of _ _ _ (seen-append ts (t ∷ [])) (row_sep (seen ts) (lines (map item_terminals xs.items)) t.lexeme.terminal (sep_passes t s) (items-before xs ts d e (t.lexeme.terminal ∷ rest) (right-append ts (t ∷ []) rest right).0))
  items-before _ _ (GR.items_apart xs t ts d s) e rest right =
      row_of _ _ _ (seen-append ts (t ∷ [])) (row_sep (seen ts) (lines (map item_terminals xs.items)) t.lexeme.terminal (sep_passes t s) (items-after xs ts d e (t.lexeme.terminal ∷ rest) (right-append ts (t ∷ []) rest right).0))

  items-after : (xs : ItemsRead) (ts : Text) → GR.ItemsAfter xs ts → xs.too_deep ≡ None → (rest : List Terminal) → Right ts rest → RowSpells (seen ts) (lines (map item_terminals xs.items))
  items-after _ _ (GR.items_one xs x ts us a c) e rest right =
      let k = none_deep xs x e in
      let r = right-append ts us rest right in
      row_as _ _ _ (lines_more item_terminals xs.items x.tree)
      (row_of _ _ _ (seen-append ts us) (row_one (seen ts) (seen us) (lines (map item_terminals xs.items)) (item_terminals x.tree) (items-before xs ts a k.0 (seen us ++ rest) r.0) (item-spells x us c k.1 rest r.1)))

script-spells : (xs : ItemsRead) (ts : Text) → GR.ScriptText xs ts → xs.too_deep ≡ None → (rest : List Terminal) → Right ts rest → RowSpells (seen ts) (lines (map item_terminals xs.items))
script-spells _ _ (GR.script_before xs ts d) e rest right = items-before xs ts d e rest right
script-spells _ _ (GR.script_after xs ts d) e rest right = items-after xs ts d e rest right

-- ---- the tokens of a source

item-given : (x : Form Item) (ts : Text) → GR.ItemText x ts → AllGiven (seen ts) → AllSpelled (seen ts)
item-given _ _ (GR.abstract_item hd p q s ts c) g =
    let x = given-text ts (wrd w.End s ∷ []) g.1.1 in
    (refl, (g.1.0, spelled-text ts (wrd w.End s ∷ []) (whole-spelled (lexemes ts) (whole_header_text p.at hd ts c).0 x.0) (refl, tt)))
item-given _ _ (GR.struct_item hd xs p q ts us c d) g =
    let x = given-text (ts ++ us) (wrd w.End q ∷ []) g.1 in
    let y = given-text ts us x.0 in
    (refl, spelled-text (ts ++ us) (wrd w.End q ∷ []) (spelled-text ts us (whole-spelled (lexemes ts) (whole_header_text p.at hd ts c).0 y.0) (rows-spelled (lexemes us) (whole_fields xs us d) y.1)) (refl, tt))
item-given _ _ (GR.long_item x ts d) g = whole-spelled (lexemes ts) (whole_long x ts d).0 g
item-given _ _ (GR.short_item x ts d) g = whole-spelled (lexemes ts) (whole_short x ts d).0 g
item-given _ _ (GR.bind_item n e p q ts is d) g = (g.0, (tt, whole-spelled (lexemes ts) (whole_expression false e ts d).0 g.1.1))
item-given _ _ (GR.expr_item e ts is d) g = whole-spelled (lexemes ts) (whole_expression false e ts d).0 g

sep-spelled : (t : Marked) → Sep t → AllSpelled (t.lexeme.terminal ∷ [])
sep-spelled _ (semicolon p) = (tt, tt)
sep-spelled _ (newline p) = (tt, tt)

mutual
  before-given : (xs : ItemsRead) (ts : Text) → GR.ItemsBefore xs ts → AllGiven (seen ts) → AllSpelled (seen ts)
  before-given _ _ GR.no_items g = tt
  before-given _ _ (GR.items_again xs t ts d s) g = spelled-text ts (t ∷ []) (before-given xs ts d (given-text ts (t ∷ []) g).0) (sep-spelled t s)
  before-given _ _ (GR.items_apart xs t ts d s) g = spelled-text ts (t ∷ []) (after-given xs ts d (given-text ts (t ∷ []) g).0) (sep-spelled t s)

  after-given : (xs : ItemsRead) (ts : Text) → GR.ItemsAfter xs ts → AllGiven (seen ts) → AllSpelled (seen ts)
  after-given _ _ (GR.items_one xs x ts us a c) g = let y = given-text ts us g in spelled-text ts us (before-given xs ts a y.0) (item-given x us c y.1)

script-given : (xs : ItemsRead) (ts : Text) → GR.ScriptText xs ts → AllGiven (seen ts) → AllSpelled (seen ts)
script-given _ _ (GR.script_before xs ts d) g = before-given xs ts d g
script-given _ _ (GR.script_after xs ts d) g = after-given xs ts d g

-- what the printed tokens are to those of the source
printed-spells : (source : List ℕ) (s : Script) → (is : IsSource source s) → RowSpells (seen is.front) (script_terminals s)
printed-spells source s is = script-spells (record { items = s.items; too_deep = None }) is.front is.is_script refl (S.End ∷ []) (front_right source s is)

-- the tokens that a script of a source is printed by have spellings
pub printed_spelled : (source : List ℕ) (s : Script) → IsSource source s → AllSpelled (script_terminals s)
printed_spelled source s is = (printed-spells source s is).of (script-given (record { items = s.items; too_deep = None }) is.front is.is_script (source_given source s is))

-- and their negative numbers stand in prefix places or directly in brackets
pub printed_guarded : (source : List ℕ) (s : Script) → IsSource source s → Guarded true [] (script_terminals s)
printed_guarded source s is = (printed-spells source s is).guards true [] (source_guarded source s is)

-- the text of a script of a source reads back, where each newline is a token
pub reads_back : (source : List ℕ) (s : Script) → IsSource source s → Stays true [] Other (script_terminals s) → length (text_of (script_terminals s)) ≤ 1048576 → ReadsBack (text_of (script_terminals s)) s
reads_back source s is stays fits = printed_back source s is (printed_spelled source s is) stays fits
