-- What the grammar spells is read: items and scripts.
use Rattle.std.proofs.Common.{ℕ, true, false, List, [], ◌∷◌, ◌++◌, ◌≡◌, inl, inr, Option, Some, None, refl, sym, ap, ◌∙◌}
use Rattle.std.specs.Prelude.{codes}
use Rattle.jl_token.specs.declared.token.Operator.TheVariants as o
use Rattle.jl_typeread.specs.declared.terminal.Terminal.{Terminal}
use Rattle.jl_typeread.specs.declared.terminal.Terminal.TheVariants as S
use Rattle.jl_typeread.specs.declared.terminal.Word.TheVariants as w
use Rattle.jl_grammar.specs.declared.mark.Ahead.{Ahead}
use Rattle.jl_grammar.specs.declared.mark.Ahead.TheVariants as A
use Rattle.jl_grammar.specs.declared.mark.Marked.{Marked}
use Rattle.jl_grammar.specs.declared.mark.Marks.{Marks}
use Rattle.jl_grammar.specs.declared.mark.Opening.{Opening}
use Rattle.jl_grammar.specs.declared.mark.Opening.TheVariants as O
use Rattle.jl_grammar.specs.declared.state.Form.{Form}
use Rattle.jl_grammar.specs.declared.state.Forms.{Forms}
use Rattle.jl_grammar.specs.declared.state.Frame.{Frame}
use Rattle.jl_grammar.specs.declared.state.ItemsRead.{ItemsRead}
use Rattle.jl_grammar.specs.declared.state.Lead.{Lead}
use Rattle.jl_grammar.specs.declared.state.Lead.TheVariants as L
use Rattle.jl_grammar.specs.declared.state.Place.TheVariants as H
use Rattle.jl_grammar.specs.declared.state.Point.TheVariants as P
use Rattle.jl_grammar.specs.declared.state.State.{State}
use Rattle.jl_grammar.specs.declared.tree.Expr.{Expr}
use Rattle.jl_grammar.specs.declared.tree.Field.{Field}
use Rattle.jl_grammar.specs.declared.tree.Header.{Header}
use Rattle.jl_grammar.specs.declared.tree.Item.{Item}
use Rattle.jl_grammar.specs.declared.tree.Method.{Method}
use Rattle.jl_grammar.specs.Forms as M
use Rattle.jl_grammar.specs.Grammar as GR
use Rattle.jl_grammar.specs.Levels.{no_pending}
use Rattle.jl_grammar.specs.Machine as MC
use Rattle.jl_grammar.specs.Machine.{step, step_by, step_all}
use Rattle.jl_grammar.specs.Texts as TX
use Rattle.jl_grammar.specs.Texts.{Text, Spot, tok, opr, wrd, nam, name_in, Sep, lexemes, is_left_type}
use Rattle.jl_grammar.specs.Turns as TU
use Rattle.jl_grammar.specs.Turns.{at, type_start}
use Rattle.jl_grammar.proofs.Reading.{step_all_append, step_all_append_more, none_is_some, Alike, alike_step_all}
use Rattle.jl_grammar.proofs.Chains.{closing}
use Rattle.jl_grammar.proofs.AreRead.{ExpressionRead, LongRead, ShortRead}
use Rattle.jl_grammar.proofs.Declared.{read_header, read_fields, IsHeaded}
use Rattle.jl_grammar.proofs.Spelled.{read_expression, read_long, read_short}

-- a token behind an item
abbrev pub item_closes : Terminal → ItemsRead → Option State
item_closes (S.Operator o.Semicolon) xs = at P.Entry [] xs
item_closes S.Newline xs = at P.Entry [] xs
item_closes S.End xs = at P.Entry [] xs
item_closes s xs = None

abbrev pub ItemIsRead : Form Item → Text → Type 0
ItemIsRead x ts = (xs : ItemsRead) (t : Marked) (v : State) → item_closes t.lexeme.terminal (M.with_item xs x) ≡ Some v → step_all (ts ++ t ∷ []) (at P.Entry [] xs) ≡ Some v

item_made : (s : Terminal) (x : Form Item) (xs : ItemsRead) (v : State) → item_closes s (M.with_item xs x) ≡ Some v → MC.at_made s x [] xs ≡ Some v
item_made S.Newline x xs v h = h
item_made (S.Operator o.Semicolon) x xs v h = h
item_made S.End x xs v h = h
item_made s x xs v h = absurd (none_is_some v h)

method_made : (s : Terminal) (m : Form Method) (xs : ItemsRead) (v : State) → item_closes s (M.with_item xs (M.method_item m)) ≡ Some v → MC.at_made_method s m [] xs ≡ Some v
method_made S.Newline m xs v h = h
method_made (S.Operator o.Semicolon) m xs v h = h
method_made S.End m xs v h = h
method_made s m xs v h = absurd (none_is_some v h)

token_after_expr_item : (s : Terminal) (b : ℕ) (l : Lead) (e : Form Expr) (x : Form Item) (xs : ItemsRead) → TU.item_of l e ≡ Some x → TU.token_after_expr s b l e [] xs ≡ item_closes s (M.with_item xs x)
token_after_expr_item (S.Operator o.Semicolon) b l e x xs h = ap (λ y. TU.end_item y xs) h
token_after_expr_item (S.Operator o.Comma) b l e x xs h = refl
token_after_expr_item S.Newline b l e x xs h = ap (λ y. TU.end_item y xs) h
token_after_expr_item S.End b l e x xs h = ap (λ y. TU.end_item y xs) h
token_after_expr_item s b l e x xs h = refl

item_closing : (s : Terminal) (xs : ItemsRead) (v : State) → item_closes s xs ≡ Some v → closing s ≡ true
item_closing S.Newline xs v h = refl
item_closing (S.Operator o.Semicolon) xs v h = refl
item_closing S.End xs v h = refl
item_closing s xs v h = absurd (none_is_some v h)

item_entry : (s : Terminal) (m : Marks) (a : ℕ) (xs : ItemsRead) (v : State) → item_closes s xs ≡ Some v → step_by s m a P.Entry [] xs ≡ Some v
item_entry S.Newline m a xs v h = h
item_entry (S.Operator o.Semicolon) m a xs v h = h
item_entry S.End m a xs v h = h
item_entry s m a xs v h = absurd (none_is_some v h)

sep_item : (t : Marked) → Sep t → (xs : ItemsRead) → item_closes t.lexeme.terminal xs ≡ at P.Entry [] xs
sep_item _ (TX.semicolon p) xs = refl
sep_item _ (TX.newline p) xs = refl

-- ---- items

abstract_read : (h : Form Header) (p q s : Spot) (ts : Text) → GR.HeaderText p.at h ts → ItemIsRead (M.abstract_item h) ((wrd w.Abstract p ∷ nam (codes "type") q ∷ ts) ++ wrd w.End s ∷ [])
abstract_read h p q s ts d xs t v g =
    step_all_append ((wrd w.Abstract p ∷ nam (codes "type") q ∷ ts) ++ wrd w.End s ∷ []) (t ∷ []) (at P.Entry [] xs)
    ∙ ap (step t) (read_header p.at h ts d false [] xs (wrd w.End s) refl)
    ∙ item_made t.lexeme.terminal (M.abstract_item h) xs v g

struct_headed : (h : Form Header) (a : ℕ) (ts : Text) → GR.HeaderText a h ts → (K : List Frame) (xs : ItemsRead) → IsHeaded h K xs (step_all ts (at (P.DeclName a true) K xs))
struct_headed h a ts d K xs l n = sym (step_all_append ts (l ∷ []) (at (P.DeclName a true) K xs)) ∙ read_header a h ts d true K xs l n

struct_read : (h : Form Header) (fs : Forms Field) (p q : Spot) (ts us : Text) → GR.HeaderText p.at h ts → GR.FieldsText fs us →
    ItemIsRead (M.struct_item h fs) ((wrd w.Struct p ∷ ts ++ us) ++ wrd w.End q ∷ [])
struct_read h fs p q ts us d e xs t v g =
    step_all_append ((wrd w.Struct p ∷ ts ++ us) ++ wrd w.End q ∷ []) (t ∷ []) (at P.Entry [] xs)
    ∙ ap (step t) (
    step_all_append_more ts us (wrd w.End q ∷ []) (at (P.DeclName p.at true) [] xs)
    ∙ read_fields fs us e h [] xs (step_all ts (at (P.DeclName p.at true) [] xs)) (struct_headed h p.at ts d [] xs) q
    )
    ∙ item_made t.lexeme.terminal (M.struct_item h fs) xs v g

long_item_read : (m : Form Method) (ts : Text) → LongRead m ts → ItemIsRead (M.method_item m) ts
long_item_read m ts i xs t v g =
    step_all_append ts (t ∷ []) (at P.Entry [] xs) ∙ ap (step t) (i H.Entry [] xs (at P.Entry [] xs) (λ q. refl)) ∙ method_made t.lexeme.terminal m xs v g

short_item_read : (m : Form Method) (ts : Text) → ShortRead m ts → ItemIsRead (M.method_item m) ts
short_item_read m ts i xs t v g =
    i.3 H.Entry [] xs (at P.Entry [] xs) (λ n q is. ap (λ x. MC.begin_item (TX.is_method x) (TX.is_binding q.marks.opening) q.marks n q.at [] xs) is)
    t (item_closing t.lexeme.terminal (M.with_item xs (M.method_item m)) v g)
    ∙ token_after_expr_item t.lexeme.terminal t.lexeme.at (L.Short i.0) i.1 (M.method_item (M.short_method i.0 i.1)) xs refl
    ∙ ap (λ x. item_closes t.lexeme.terminal (M.with_item xs (M.method_item x))) i.2
    ∙ g

bind_item_read : (n : List ℕ) (e : Form Expr) (p q : Spot) (ts : Text) → TX.IsBindingName p → ExpressionRead false e ts → ItemIsRead (M.binding_item (name_in n p) e) (nam n p ∷ opr o.Assign q ∷ ts)
bind_item_read n e p q ts is i xs t v g =
    ap (λ x. step_all ((opr o.Assign q ∷ ts) ++ t ∷ []) (MC.begin_item x (TX.is_binding p.marks.opening) p.marks n p.at [] xs)) is.1
    ∙ ap (λ x. step_all ((opr o.Assign q ∷ ts) ++ t ∷ []) (MC.begin_item false (TX.is_binding x) p.marks n p.at [] xs)) is.0
    ∙ i (L.Bind (name_in n p)) [] false refl [] xs t (item_closing t.lexeme.terminal (M.with_item xs (M.binding_item (name_in n p) e)) v g)
    ∙ token_after_expr_item t.lexeme.terminal t.lexeme.at (L.Bind (name_in n p)) e (M.binding_item (name_in n p) e) xs refl
    ∙ g

item_is_no_binding : (x : Opening) (y : Ahead) → TX.is_item_name x y ≡ true → TX.is_binding x ≡ false
item_is_no_binding O.Binding y h = sym h
item_is_no_binding x y h = refl

item_is_no_method : (x : Opening) (y : Ahead) → TX.is_item_name x y ≡ true → TX.is_method y ≡ false
item_is_no_method O.Binding A.Method h = sym h
item_is_no_method x A.Method h = sym h
item_is_no_method x y h = refl

item_alike : (s : Terminal) (m : Marks) → TX.is_item_terminal s m ≡ true → (a : ℕ) (xs : ItemsRead) → Alike (step_by s m a P.Entry [] xs) (step_by s m a (P.Want (no_pending false)) [] xs)
item_alike S.Newline m h a xs = inr refl
item_alike S.End m h a xs = inr refl
item_alike (S.Operator o.Semicolon) m h a xs = inr refl
item_alike (S.Word w.Abstract) m h a xs = inr refl
item_alike (S.Word w.Struct) m h a xs = inr refl
item_alike (S.Word w.Function) m h a xs = inr refl
item_alike (S.Name n) m h a xs = inl (
    ap (λ x. MC.begin_item x (TX.is_binding m.opening) m n a [] xs) (item_is_no_method m.opening m.ahead h)
    ∙ ap (λ x. MC.begin_item false x m n a [] xs) (item_is_no_binding m.opening m.ahead h)
    )
item_alike s m h a xs = inl refl

expr_item_read : (e : Form Expr) (ts : Text) → TX.is_item_start ts ≡ true → ExpressionRead false e ts → ItemIsRead (M.expr_item e) ts
expr_item_read e [] is i xs t v g = cc
expr_item_read e (u ∷ us) is i xs t v g =
    alike_step_all (us ++ t ∷ []) (step u (at P.Entry [] xs)) (step u (at (P.Want (no_pending false)) [] xs)) (item_alike u.lexeme.terminal u.marks is u.lexeme.at xs) v (
    i L.Plain [] false refl [] xs t (item_closing t.lexeme.terminal (M.with_item xs (M.expr_item e)) v g)
    ∙ token_after_expr_item t.lexeme.terminal t.lexeme.at L.Plain e (M.expr_item e) xs refl
    ∙ g
    )

pub read_item : (x : Form Item) (ts : Text) → GR.ItemText x ts → ItemIsRead x ts
read_item _ _ (GR.abstract_item h p q s ts d) = abstract_read h p q s ts d
read_item _ _ (GR.struct_item h fs p q ts us d e) = struct_read h fs p q ts us d e
read_item _ _ (GR.long_item m ts d) = long_item_read m ts (read_long m ts d)
read_item _ _ (GR.short_item m ts d) = short_item_read m ts (read_short m ts d)
read_item _ _ (GR.bind_item n e p q ts is d) = bind_item_read n e p q ts is (read_expression false e ts d)
read_item _ _ (GR.expr_item e ts is d) = expr_item_read e ts is (read_expression false e ts d)

-- ---- scripts

mutual
  pub read_items_before : (xs : ItemsRead) (ts : Text) → GR.ItemsBefore xs ts → step_all ts MC.start ≡ at P.Entry [] xs
  read_items_before _ _ GR.no_items = refl
  read_items_before _ _ (GR.items_again xs t ts d s) =
      step_all_append ts (t ∷ []) MC.start ∙ ap (step t) (read_items_before xs ts d) ∙ item_entry t.lexeme.terminal t.marks t.lexeme.at xs _ (sep_item t s xs)
  read_items_before _ _ (GR.items_apart xs t ts d s) = read_items_after xs ts d t _ (sep_item t s xs)

  pub read_items_after : (xs : ItemsRead) (ts : Text) → GR.ItemsAfter xs ts → (t : Marked) (v : State) → item_closes t.lexeme.terminal xs ≡ Some v → step_all (ts ++ t ∷ []) MC.start ≡ Some v
  read_items_after _ _ (GR.items_one xs x ts us a c) t v g =
      step_all_append_more ts us (t ∷ []) MC.start ∙ ap (step_all (us ++ t ∷ [])) (read_items_before xs ts a) ∙ read_item x us c xs t v g

-- a script and the source's end
pub read_script : (xs : ItemsRead) (ts : Text) → GR.ScriptText xs ts → (p : Spot) → step_all (ts ++ tok S.End p ∷ []) MC.start ≡ at P.Entry [] xs
read_script _ _ (GR.script_before xs ts d) p = step_all_append ts (tok S.End p ∷ []) MC.start ∙ ap (step (tok S.End p)) (read_items_before xs ts d)
read_script _ _ (GR.script_after xs ts d) p = read_items_after xs ts d (tok S.End p) _ refl

abbrev script_of : Option State → ItemsRead
script_of None = M.no_items
script_of (Some s) = s.script

-- the items that tokens stand for are one
pub one_script : (xs ys : ItemsRead) (ts : Text) → GR.ScriptText xs ts → GR.ScriptText ys ts → xs ≡ ys
one_script xs ys ts c d = ap script_of (sym (read_script xs ts c (record { at = 0; marks = record { opening = O.Plain; ahead = A.Nothing } }))
    ∙ read_script ys ts d (record { at = 0; marks = record { opening = O.Plain; ahead = A.Nothing } }))
