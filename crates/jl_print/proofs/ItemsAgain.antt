-- What a script is printed by is one that is the same, places aside.
use Rattle.std.proofs.Common.{◌≡◌, ℕ, ◌≤◌, max, Bool, true, false, cond, nat_lt, codes, Option, Some, None, List, [], ◌∷◌, ◌++◌, map, refl, sym, ap, ◌∙◌, subst, append_assoc, arith}
use Rattle.std.proofs.lemmas.Bool.{ltb-false, le-ltb}
use Rattle.jl_token.specs.declared.token.Operator.TheVariants as o
use Rattle.jl_typeread.specs.declared.terminal.Lexeme.{Lexeme}
use Rattle.jl_typeread.specs.Grammar as G
use Rattle.jl_typeread.specs.declared.terminal.Terminal.{Terminal}
use Rattle.jl_typeread.specs.declared.terminal.Terminal.TheVariants as S
use Rattle.jl_typeread.specs.declared.terminal.Word.TheVariants as w
use Rattle.jl_typeread.specs.declared.tree.VarText.{VarText}
use Rattle.jl_typeread.specs.Depth.{greatest, variable_depth}
use Rattle.jl_grammar.specs.declared.mark.Opening.TheVariants as O
use Rattle.jl_grammar.specs.declared.state.Form.{Form}
use Rattle.jl_grammar.specs.declared.state.Forms.{Forms}
use Rattle.jl_grammar.specs.declared.state.ItemsRead.{ItemsRead}
use Rattle.jl_grammar.specs.declared.state.TypeForm.{TypeForm}
use Rattle.jl_grammar.specs.declared.state.VarsForm.{VarsForm}
use Rattle.jl_grammar.specs.declared.tree.Field.{Field}
use Rattle.jl_grammar.specs.declared.tree.Header.{Header}
use Rattle.jl_grammar.specs.declared.tree.Item.{Item}
use Rattle.jl_grammar.specs.declared.tree.Item.TheVariants as N
use Rattle.jl_grammar.specs.Forms as M
use Rattle.jl_grammar.specs.Grammar as GR
use Rattle.jl_grammar.specs.Texts.{Text, opr, wrd, nam, name_in, newline, lexemes, is_item_start, is_item_terminal, is_method}
use Rattle.jl_grammar.specs.Types.{type_as_read, vars_as_read}
use Rattle.jl_print.specs.Printed.{lines, block_step, type_terminals, params_terminals, marked_type, header_terminals, field_terminals, item_terminals, expr_terminals}
use Rattle.jl_print.specs.Placeless.{same_variable, same_option, same_header, same_field, same_item}
use Rattle.jl_print.proofs.AgainFree.{type_free}
use Rattle.jl_print.proofs.AgainHeads.{LikeVars, vars_as_read_like, vars_as_read_vars}
use Rattle.jl_print.proofs.AgainLikes.{LikeForms, type_as_read_depth, type_as_read_tree, type_as_read_same, variables_same_depth}
use Rattle.jl_print.proofs.AgainRows.{IsDull, sep_dull}
use Rattle.jl_print.proofs.ExprsAgain.{again_expression, again_long, again_short}
use Rattle.jl_print.proofs.Laid.{seen, spot, laid, laid-append, Right, right-append, Headed, Made, Replay, replay_two, replay_tokens}
use Rattle.jl_print.proofs.Likes.{dull_near}
use Rattle.jl_print.proofs.ListTerminals.{lines_more, same_more}
use Rattle.jl_print.proofs.TypesAgain.{header_puts}

-- ---- heads of declarations

header-depth : (vs : List VarText) (ls : List Lexeme) → G.IsHeader vs ls → map variable_depth (map same_variable vs) ≡ map variable_depth vs
header-depth _ _ (G.header b c vs ts d) = variables_same_depth vs ts d

params-made : (h : ℕ → ℕ) (vs : VarsForm) (ts : Text) → GR.TypeParamsText vs ts → vs.depth ≤ 500 → (rest : List Terminal) → Made GR.TypeParamsText LikeVars vs (laid h (params_terminals vs.vars) rest)
params-made h _ _ GR.no_type_params fits rest = record { tree = M.no_vars; derives = GR.no_type_params; like = (refl, refl) }
params-made h _ _ (GR.some_type_params vs ts d) fits rest =
    let f = header_puts h vs (lexemes ts) d rest in
    subst (λ l. Made GR.TypeParamsText LikeVars (vars_as_read vs) (laid h (params_terminals l) rest)) (sym (vars_as_read_vars vs fits))
    (record {
      tree = vars_as_read f.0;
      derives = GR.some_type_params f.0 _ f.1;
      like = vars_as_read_like f.0 vs f.2 (ap greatest (sym (header-depth f.0 _ f.1) ∙ ap (map variable_depth) f.2 ∙ header-depth vs _ d)) fits;
    })

abbrev LikeParent : Option TypeForm → Option TypeForm → Type 0
LikeParent u t = (same_option (M.parent_tree u) ≡ same_option (M.parent_tree t)) × (M.parent_depth u ≡ M.parent_depth t)

parent-made : (h : ℕ → ℕ) (t : Option TypeForm) (ts : Text) → GR.ParentText t ts → M.parent_depth t ≤ 500 → (rest : List Terminal) → Made GR.ParentText LikeParent t (laid h (marked_type o.Subtype (M.parent_tree t)) rest)
parent-made h _ _ GR.no_parent fits rest = record { tree = None; derives = GR.no_parent; like = (refl, refl) }
parent-made h _ _ (GR.some_parent t p ts d) fits rest =
    let u = (type_free h t ts d).puts rest in
    subst (λ l. Made GR.ParentText LikeParent (Some (type_as_read t)) (laid h (S.Operator o.Subtype ∷ type_terminals l) rest)) (sym (type_as_read_tree t fits))
    (record { tree = Some (type_as_read u.tree); derives = GR.some_parent u.tree _ _ u.derives; like = (ap (λ x. Some x) (type_as_read_same u.tree t u.like fits), type_as_read_depth u.tree t u.like.depth) })

-- the head of a declaration, wherever that stands
abbrev header_at : Form Header → ℕ → Form Header
header_at f a = record { tree = record { at = a; name = f.tree.name; params = f.tree.params; parent = f.tree.parent }; at = a; depth = f.depth }

abbrev HeaderP : Form Header → Text → Type 0
HeaderP f ts = (a : ℕ) → GR.HeaderText a (header_at f a) ts

abbrev LikeHeader : Form Header → Form Header → Type 0
LikeHeader f e = (same_header f.tree ≡ same_header e.tree) × (f.depth ≡ e.depth)

pub header_fits : (a b : ℕ) → max a b ≤ 500 → (a ≤ 500) × (b ≤ 500)
header_fits a b l = (omega (arith, l), omega (arith, l))

header-made : (h : ℕ → ℕ) (a : ℕ) (x : Form Header) (ts : Text) → GR.HeaderText a x ts → x.depth ≤ 500 → (rest : List Terminal) → Made HeaderP LikeHeader x (laid h (header_terminals x.tree) rest)
header-made h _ _ _ (GR.header_text a n p vs t ts us c d) fits rest =
    let k = header_fits vs.depth (M.parent_depth t) fits in
    let params = params_terminals vs.vars in
    let parent = marked_type o.Subtype (M.parent_tree t) in
    let u = params-made h vs ts c k.0 (parent ++ rest) in
    let v = parent-made h t us d k.1 rest in
    let q = spot h (S.Name n ∷ (params ++ parent) ++ rest) in
    record {
      tree = M.header 0 (name_in n q) u.tree v.tree;
      derives = λ b. subst (λ l. GR.HeaderText b (M.header b (name_in n q) u.tree v.tree) (nam n q ∷ l)) (sym (laid-append h params parent rest)) (GR.header_text b n q u.tree v.tree _ _ u.derives v.derives);
      like = ((λ i. record { at = 0; name = record { at = 0; bytes = n }; params = u.like.0 i; parent = v.like.0 i }), (λ i. max (u.like.1 i) (v.like.1 i)));
    }

-- ---- fields

abbrev FieldAt : Field × ℕ → Text → Type 0
FieldAt z ts = GR.FieldText z.0 z.1 ts

abbrev LikeField : Field × ℕ → Field × ℕ → Type 0
LikeField y z = (same_field y.0 ≡ same_field z.0) × (y.1 ≡ z.1)

field-made : (h : ℕ → ℕ) (x : Field) (d : ℕ) (ts : Text) → GR.FieldText x d ts → d ≤ 500 → (rest : List Terminal) → Made FieldAt LikeField (x, d) (laid h (field_terminals x) rest)
field-made h _ _ _ (GR.field_name n p) fits rest = record { tree = (record { name = name_in n (spot h (S.Name n ∷ rest)); ty = None }, 0); derives = GR.field_name n _; like = (refl, refl) }
field-made h _ _ _ (GR.field_typed n p q t ts d) fits rest =
    let u = (type_free h t ts d).puts rest in
    subst (λ l. Made FieldAt LikeField (record { name = name_in n p; ty = Some (type_as_read t).tree }, (type_as_read t).depth) (laid h (S.Name n ∷ S.Operator o.HasType ∷ type_terminals l) rest)) (sym (type_as_read_tree t fits))
    (record {
      tree = (record { name = name_in n (spot h (S.Name n ∷ S.Operator o.HasType ∷ type_terminals t ++ rest)); ty = Some (type_as_read u.tree).tree }, (type_as_read u.tree).depth);
      derives = GR.field_typed n _ _ u.tree _ u.derives;
      like = ((λ i. record { name = record { at = 0; bytes = n }; ty = Some (type_as_read_same u.tree t u.like fits i) }), type_as_read_depth u.tree t u.like.depth);
    })

abbrev FieldsMade : (ℕ → ℕ) → Forms Field → Type 0
FieldsMade h xs = (rest : List Terminal) → Made GR.FieldsBefore (LikeForms same_field) xs (laid h (S.Newline ∷ lines (map field_terminals xs.trees)) rest)

no_forms-made : (h : ℕ → ℕ) → FieldsMade h M.no_forms
no_forms-made h rest = record { tree = M.no_forms; derives = GR.first_sep _ (newline (spot h (S.Newline ∷ rest))); like = (refl, refl) }

mutual
  fields-before : (h : ℕ → ℕ) (xs : Forms Field) (ts : Text) → GR.FieldsBefore xs ts → xs.depth ≤ 500 → FieldsMade h xs
  fields-before h _ _ (GR.first_sep t s) fits = no_forms-made h
  fields-before h _ _ (GR.fields_again xs t ts d s) fits = fields-before h xs ts d fits
  fields-before h _ _ (GR.fields_apart xs t ts d s) fits = fields-after h xs ts d fits

  fields-after : (h : ℕ → ℕ) (xs : Forms Field) (ts : Text) → GR.FieldsAfter xs ts → xs.depth ≤ 500 → FieldsMade h xs
  fields-after h _ _ (GR.fields_one xs x d ts us a c) fits = λ rest.
      let k = header_fits xs.depth d fits in
      let b = fields-before h xs ts a k.0 (field_terminals x ++ S.Newline ∷ rest) in
      let f = field-made h x d us c k.1 (S.Newline ∷ rest) in
      let row = S.Newline ∷ lines (map field_terminals xs.trees) in
      let parts : laid h (S.Newline ∷ lines (map field_terminals (xs.trees ++ x ∷ []))) rest ≡ (laid h row (field_terminals x ++ S.Newline ∷ rest) ++ laid h (field_terminals x) (S.Newline ∷ rest)) ++ laid h (S.Newline ∷ []) rest =
      ap (λ z. laid h (S.Newline ∷ z) rest) (lines_more field_terminals xs.trees x) ∙ laid-append h (row ++ field_terminals x) (S.Newline ∷ []) rest ∙ ap (λ z. z ++ laid h (S.Newline ∷ []) rest) (laid-append h row (field_terminals x) (S.Newline ∷ rest)) in
      record {
        tree = M.with_form b.tree f.tree.0 f.tree.1;
        derives = subst (GR.FieldsBefore (M.with_form b.tree f.tree.0 f.tree.1)) (sym parts) (GR.fields_apart (M.with_form b.tree f.tree.0 f.tree.1) _ _ (GR.fields_one b.tree f.tree.0 f.tree.1 _ _ b.derives f.derives) (newline (spot h (S.Newline ∷ rest))));
        like = (same_more same_field b.tree.trees xs.trees f.tree.0 x b.like.0 f.like.0, (λ i. max (b.like.1 i) (f.like.1 i)));
      }

fields-made : (h : ℕ → ℕ) (xs : Forms Field) (ts : Text) → GR.FieldsText xs ts → xs.depth ≤ 500 → FieldsMade h xs
fields-made h _ _ GR.no_fields fits = no_forms-made h
fields-made h _ _ (GR.fields_before xs ts d) fits = fields-before h xs ts d fits
fields-made h _ _ (GR.fields_after xs ts d) fits = fields-after h xs ts d fits

-- ---- items

abbrev pub LikeItem : Form Item → Form Item → Type 0
LikeItem f e = (same_item f.tree ≡ same_item e.tree) × (f.depth ≡ e.depth)

-- an item before a separator or the end
abbrev pub ItemAgain : (ℕ → ℕ) → Form Item → Text → Type 0
ItemAgain h x ts = (rest other : List Terminal) → Right ts rest → IsDull rest → IsDull other → Made GR.ItemText LikeItem x (laid h (item_terminals x.tree) other)

pub abstract_fits : (a : ℕ) → M.depth_around a ≤ 500 → a ≤ 500
abstract_fits a l = omega (arith, l)

pub struct_fits : (a b : ℕ) → M.depth_around (max a b) ≤ 500 → (a ≤ 500) × (b ≤ 500)
struct_fits a b l = (omega (arith, l), omega (arith, l))

headed-item : (ts us : Text) → Headed ts us → is_item_start ts ≡ true → is_item_start us ≡ true
headed-item [] us g e = absurd g
headed-item (t ∷ ts) [] g e = absurd g
headed-item (t ∷ ts) (u ∷ us) g e = ap (λ x. is_item_terminal x u.marks) g.0 ∙ ap (is_item_terminal t.lexeme.terminal) g.1 ∙ e

pub again_item : (h : ℕ → ℕ) (x : Form Item) (ts : Text) → GR.ItemText x ts → x.depth ≤ 500 → ItemAgain h x ts
again_item h _ _ (GR.abstract_item hd p q s ts c) fits = λ rest other right dull dulled.
    let k = spot h (item_terminals (M.abstract_item hd).tree ++ other) in
    let j = spot h (S.Name (codes "type") ∷ (header_terminals hd.tree ++ S.Word w.End ∷ []) ++ other) in
    let m = spot h (S.Word w.End ∷ other) in
    let u = header-made h p.at hd ts c (abstract_fits hd.depth fits) (S.Word w.End ∷ other) in
    record {
      tree = M.abstract_item (header_at u.tree k.at);
      derives = subst (λ l. GR.ItemText (M.abstract_item (header_at u.tree k.at)) (wrd w.Abstract k ∷ nam (codes "type") j ∷ l)) (sym (laid-append h (header_terminals hd.tree) (S.Word w.End ∷ []) other))
          (GR.abstract_item (header_at u.tree k.at) k j m _ (u.derives k.at));
      like = ((λ i. N.Abstract (record { header = u.like.0 i })), ap M.depth_around u.like.1);
    }
again_item h _ _ (GR.struct_item hd xs p q ts us c d) fits = λ rest other right dull dulled.
    let f = struct_fits hd.depth xs.depth fits in
    let k = spot h (item_terminals (M.struct_item hd xs).tree ++ other) in
    let m = spot h (S.Word w.End ∷ other) in
    let body = block_step (map field_terminals xs.trees) in
    let row = S.Newline ∷ lines (map field_terminals xs.trees) in
    let u = header-made h p.at hd ts c f.0 (body ++ other) in
    let b = fields-made h xs us d f.1 (S.Word w.End ∷ other) in
    let parts = laid-append h (header_terminals hd.tree) body other ∙ ap (λ l. laid h (header_terminals hd.tree) (body ++ other) ++ l) (laid-append h row (S.Word w.End ∷ []) other)
    ∙ sym (append_assoc (laid h (header_terminals hd.tree) (body ++ other)) (laid h row (S.Word w.End ∷ other)) (wrd w.End m ∷ [])) in
    record {
      tree = M.struct_item (header_at u.tree k.at) b.tree;
      derives = subst (λ l. GR.ItemText (M.struct_item (header_at u.tree k.at) b.tree) (wrd w.Struct k ∷ l)) (sym parts) (GR.struct_item (header_at u.tree k.at) b.tree k m _ _ (u.derives k.at) (GR.fields_before b.tree _ b.derives));
      like = ((λ i. N.Struct (record { header = u.like.0 i; fields = b.like.0 i })), (λ i. M.depth_around (max (u.like.1 i) (b.like.1 i))));
    }
again_item h _ _ (GR.long_item x ts d) fits = λ rest other right dull dulled.
    let u = (again_long h x ts d rest right fits).again rest other right (dull ∙ sym dulled) in
    record { tree = M.method_item u.made.tree; derives = GR.long_item u.made.tree _ u.made.derives; like = (ap (λ y. N.Method y) u.made.like.0, u.made.like.1) }
again_item h _ _ (GR.short_item x ts d) fits = λ rest other right dull dulled.
    let u = (again_short h x ts d rest right fits).again rest other right (dull ∙ sym dulled) in
    record { tree = M.method_item u.made.tree; derives = GR.short_item u.made.tree _ u.made.derives; like = (ap (λ y. N.Method y) u.made.like.0, u.made.like.1) }
again_item h _ _ (GR.bind_item n e p q ts is d) fits = λ rest other right dull dulled.
    let f = again_expression h false e ts d rest right.1.1 fits in
    let bound : Replay (λ (z : Form Item) us. GR.ItemText z us) LikeItem h (M.binding_item (name_in n p) e) (nam n p ∷ opr o.Assign q ∷ ts) (S.Name n ∷ S.Operator o.Assign ∷ expr_terminals e.tree) =
    replay_two (M.binding_item (name_in n p) e) (replay_tokens h (S.Name n) (S.Operator o.Assign ∷ []) (refl, (refl, tt)) (p, (q, tt))) f
    (λ a z ps qs i c l m u v. record {
      tree = M.binding_item (name_in n a.0) z;
      derives = subst (λ x. GR.ItemText (M.binding_item (name_in n a.0) z) (x ++ qs)) (sym i) (GR.bind_item n z a.0 a.1.0 qs (subst (λ k. (k.opening ≡ O.Binding) × (is_method k.ahead ≡ false)) (sym l.0) is) c);
      like = (ap (λ x. N.Bind (record { at = 0; bytes = n }) x) m.0, m.1);
    }) in
    (bound.again rest other right (dull ∙ sym dulled)).made
again_item h _ _ (GR.expr_item e ts is d) fits = λ rest other right dull dulled.
    let u = (again_expression h false e ts d rest right fits).again rest other right (dull ∙ sym dulled) in
    record { tree = M.expr_item u.made.tree; derives = GR.expr_item u.made.tree _ (headed-item ts _ u.headed is) u.made.derives; like = (ap (λ y. N.Do y) u.made.like.0, u.made.like.1) }

-- ---- scripts

-- no item is too deep
pub none_deep : (xs : ItemsRead) (x : Form Item) → (M.with_item xs x).too_deep ≡ None → (xs.too_deep ≡ None) × (x.depth ≤ 500)
none_deep xs x e = by xs.too_deep (nat_lt 500 x.depth) refl refl e
  where
    by : (a : Option ℕ) (b : Bool) → xs.too_deep ≡ a → nat_lt 500 x.depth ≡ b → M.first_place a (cond b (Some x.at) None) ≡ None → (xs.too_deep ≡ None) × (x.depth ≤ 500)
    by (Some a) b f g e = absurd cc
    by None true f g e = absurd cc
    by None false f g e = (f, ltb-false 500 x.depth g)

-- these items, none too deep, and the same
pub record ItemsMade (xs : ItemsRead) (ts : Text) : Type 0 where
  pub items : ItemsRead
  pub derives : GR.ItemsBefore items ts
  pub same : map same_item items.items ≡ map same_item xs.items
  pub shallow : items.too_deep ≡ None

abbrev row : ItemsRead → List Terminal
row xs = lines (map item_terminals xs.items)

deep-more : (xs : ItemsRead) (x : Form Item) → xs.too_deep ≡ None → x.depth ≤ 500 → (M.with_item xs x).too_deep ≡ None
deep-more xs x e l = ap (λ a. M.first_place a (cond (nat_lt 500 x.depth) (Some x.at) None)) e ∙ ap (λ b. cond b (Some x.at) None) (le-ltb 500 x.depth l)

mutual
  pub again_items_before : (h : ℕ → ℕ) (xs : ItemsRead) (ts : Text) → GR.ItemsBefore xs ts → xs.too_deep ≡ None → (rest other : List Terminal) → Right ts rest → ItemsMade xs (laid h (row xs) other)
  again_items_before h _ _ GR.no_items e rest other right = record { items = M.no_items; derives = GR.no_items; same = refl; shallow = refl }
  again_items_before h _ _ (GR.items_again xs t ts d s) e rest other right = again_items_before h xs ts d e (t.lexeme.terminal ∷ rest) other (right-append ts (t ∷ []) rest right).0
  again_items_before h _ _ (GR.items_apart xs t ts d s) e rest other right = again_items_after h xs ts d e (t.lexeme.terminal ∷ rest) other (right-append ts (t ∷ []) rest right).0 (sep_dull t rest s)

  pub again_items_after : (h : ℕ → ℕ) (xs : ItemsRead) (ts : Text) → GR.ItemsAfter xs ts → xs.too_deep ≡ None → (rest other : List Terminal) → Right ts rest → IsDull rest → ItemsMade xs (laid h (row xs) other)
  again_items_after h _ _ (GR.items_one xs x ts us a c) e rest other right dull =
      let k = none_deep xs x e in
      let r = right-append ts us rest right in
      let b = again_items_before h xs ts a k.0 (seen us ++ rest) (item_terminals x.tree ++ S.Newline ∷ other) r.0 in
      let f = again_item h x us c k.1 rest (S.Newline ∷ other) r.1 dull (dull_near S.Newline other refl) in
      let parts : laid h (lines (map item_terminals (xs.items ++ x.tree ∷ []))) other ≡ (laid h (row xs) (item_terminals x.tree ++ S.Newline ∷ other) ++ laid h (item_terminals x.tree) (S.Newline ∷ other)) ++ laid h (S.Newline ∷ []) other =
      ap (λ z. laid h z other) (lines_more item_terminals xs.items x.tree) ∙ laid-append h (row xs ++ item_terminals x.tree) (S.Newline ∷ []) other ∙ ap (λ z. z ++ laid h (S.Newline ∷ []) other) (laid-append h (row xs) (item_terminals x.tree) (S.Newline ∷ other)) in
      record {
        items = M.with_item b.items f.tree;
        derives = subst (GR.ItemsBefore (M.with_item b.items f.tree)) (sym parts) (GR.items_apart (M.with_item b.items f.tree) _ _ (GR.items_one b.items f.tree _ _ b.derives f.derives) (newline (spot h (S.Newline ∷ other))));
        same = same_more same_item b.items.items xs.items f.tree.tree x.tree b.same f.like.0;
        shallow = deep-more b.items f.tree b.shallow (omega (arith, k.1, f.like.1));
      }

pub again_script : (h : ℕ → ℕ) (xs : ItemsRead) (ts : Text) → GR.ScriptText xs ts → xs.too_deep ≡ None → (rest other : List Terminal) → Right ts rest → IsDull rest → ItemsMade xs (laid h (row xs) other)
again_script h _ _ (GR.script_before xs ts d) e rest other right dull = again_items_before h xs ts d e rest other right
again_script h _ _ (GR.script_after xs ts d) e rest other right dull = again_items_after h xs ts d e rest other right dull
