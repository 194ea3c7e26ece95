-- Declarations, and what stands behind a type.
use Rattle.std.proofs.Common.{ℕ, Bool, true, false, codes, bytes_eq, List, [], ◌∷◌, ◌++◌, ◌≡◌, Option, Some, None, refl, sym, ap, subst}
use Rattle.std.proofs.lemmas.List.{append_assoc, append-nil}
use Rattle.jl_token.specs.declared.token.Operator.TheVariants as op
use Rattle.jl_typeread.proofs.Kept.{Goal as TypeGoal, a_type, a_where, a_header}
use Rattle.jl_typeread.proofs.Kept as Y
use Rattle.jl_typeread.specs.declared.terminal.Terminal.{Terminal}
use Rattle.jl_typeread.specs.declared.terminal.Terminal.TheVariants as sg
use Rattle.jl_typeread.specs.declared.terminal.Word.TheVariants as wd
use Rattle.jl_typeread.specs.declared.state.State.{State as TypeState}
use Rattle.jl_typeread.specs.declared.tree.TypeText.{TypeText}
use Rattle.jl_grammar.specs.declared.mark.Marked.{Marked}
use Rattle.jl_grammar.specs.declared.state.Called.TheVariants as Ca
use Rattle.jl_grammar.specs.declared.state.Declaring.{Declaring}
use Rattle.jl_grammar.specs.declared.state.Fielding.{Fielding}
use Rattle.jl_grammar.specs.declared.state.Form.{Form}
use Rattle.jl_grammar.specs.declared.state.Frame.{Frame}
use Rattle.jl_grammar.specs.declared.state.Frame.TheVariants as Fr
use Rattle.jl_grammar.specs.declared.state.Goal.{Goal}
use Rattle.jl_grammar.specs.declared.state.Goal.TheVariants as Go
use Rattle.jl_grammar.specs.declared.state.ItemsRead.{ItemsRead}
use Rattle.jl_grammar.specs.declared.state.Pending.{Pending}
use Rattle.jl_grammar.specs.declared.state.Point.TheVariants as Po
use Rattle.jl_grammar.specs.declared.state.TypeForm.{TypeForm}
use Rattle.jl_grammar.specs.declared.state.VarsForm.{VarsForm}
use Rattle.jl_grammar.specs.declared.tree.Eval.TheVariants as El
use Rattle.jl_grammar.specs.declared.tree.Header.{Header}
use Rattle.jl_grammar.specs.declared.tree.Item.{Item}
use Rattle.jl_grammar.specs.declared.tree.Method.{Method}
use Rattle.jl_grammar.specs.declared.tree.Name.{Name}
use Rattle.jl_grammar.specs.declared.tree.Param.TheVariants as Pa
use Rattle.jl_grammar.specs.Forms as M
use Rattle.jl_grammar.specs.Grammar.{PrefixOperator, ComparisonOperator, SumOperator, TermOperator, CalleeText, ParamText, ParamsText, ParensText, WhereText, HeadText, place, Atom, Brackets, Arguments, PieceText, Pieces, Post, Unary, Term, Sum, Comparison, Conjunction, Disjunction, Expression, Branches, Statement, Block, StmtsBefore, StmtsAfter, LongMethod, ShortMethod, Evaluated, EvalBlock, EvalsBefore, EvalsAfter, ParentText, TypeParamsText, HeaderText, FieldText, FieldsBefore, FieldsAfter, FieldsText, ItemText, ItemsBefore, ItemsAfter, ScriptText}
use Rattle.jl_grammar.specs.Grammar as Gr
use Rattle.jl_grammar.specs.Levels.{is_comparison_start}
use Rattle.jl_grammar.specs.Machine as Mc
use Rattle.jl_grammar.specs.Turns as Tu
use Rattle.jl_grammar.specs.Turns.{at, is_return_allowed}
use Rattle.jl_grammar.specs.Texts as Tx
use Rattle.jl_grammar.specs.Texts.{Text, Spot, tok, opr, wrd, nam, name_in, Sep, lexemes, is_method, is_sub, is_binding, is_plain, is_left_type, is_item_name, is_item_terminal, is_item_start, is_stmt_name, is_stmt_terminal, is_stmt_start, is_eval_name, is_eval_terminal, is_eval_start, is_evaluated_terminal, is_evaluated_start, OpensAs, IsMethodStart, IsSubStart, IsPrint, IsBindingName, is_end}
use Rattle.jl_grammar.specs.Types.{type_as_read, vars_as_read, IsType}
use Rattle.jl_grammar.proofs.Standing.{Choice, Starts, TopText, LevelsText, called_type, Methods, Opened, bottom, in_paren, in_tuple, in_args, in_fetch, in_print, in_then, in_test, in_block, in_evals, Led}
use Rattle.jl_grammar.proofs.Points.{DeclText, abstract_decl, struct_decl, DeclaredText, declared_text, FieldingText, fielding_text, FieldedText, fielded_text, Typing, free_type, left_type, made_type, Makes, makes, Fits, DeletingText, GoalText, goal_isa, goal_left, goal_right, goal_make, goal_delete, goal_param, goal_unnamed, goal_parent, goal_field, Has, has_entry, has_first_args, has_deleted, has_type, has_decl_name, has_declared, has_params, has_fields, has_field, has_made, HasSome}
use Rattle.jl_grammar.proofs.Closing.{starts_more, compared_text}
use Rattle.jl_grammar.proofs.KeptBlocks.{has_moved, kept_end_evals}
use Rattle.jl_grammar.proofs.KeptCloses.{some_moved}
use Rattle.jl_grammar.proofs.KeptFollows.{kept_token_after_comparison}
use Rattle.jl_grammar.proofs.KeptHeads.{lexemes_more, type_begins, listed_of, kept_token_after_param}
use Rattle.std.proofs.lemmas.Slice.Eq.{bytes_eq-Decides}
use Rattle.jl_typeread.specs.declared.state.Bound.TheVariants as Yb
use Rattle.jl_typeread.specs.declared.state.Frame.TheVariants as Yf
use Rattle.jl_typeread.specs.declared.state.Enclosure.TheVariants as Yl
use Rattle.jl_typeread.specs.declared.state.Point.TheVariants as Yp
use Rattle.jl_typeread.specs.declared.state.Turn.{Turn}
use Rattle.jl_typeread.specs.declared.state.Turn.TheVariants as Yt
use Rattle.jl_typeread.specs.Depth.{no_variables}
use Rattle.jl_typeread.specs.Machine as Ym

-- ---- the names of declarations

kept_begin_abstract : (b : Bool) (n : List ℕ) (z q : Spot) (xs : ItemsRead) (ts : Text) → bytes_eq n (codes "type") ≡ b → ItemsBefore xs ts →
    HasSome (Mc.begin_abstract b q.at [] xs) ((ts ++ wrd wd.Abstract q ∷ []) ++ nam n z ∷ [])
kept_begin_abstract false n z q xs ts h b = tt
kept_begin_abstract true n z q xs ts h b = let same = (bytes_eq-Decides n (codes "type")).0 h in
    subst (λ x. Has (Po.DeclName q.at false) [] xs ((ts ++ wrd wd.Abstract q ∷ []) ++ nam x z ∷ [])) (sym same)
    (has_moved (has_decl_name false q.at xs ts (wrd wd.Abstract q ∷ nam (codes "type") z ∷ []) b (abstract_decl q z)) (sym (append_assoc ts (wrd wd.Abstract q ∷ []) (nam (codes "type") z ∷ []))))

pub kept_abstract : (s : Terminal) (z q : Spot) (xs : ItemsRead) (ts : Text) → ItemsBefore xs ts → HasSome (Mc.at_abstract s q.at [] xs) ((ts ++ wrd wd.Abstract q ∷ []) ++ tok s z ∷ [])
kept_abstract (sg.Name n) z q xs ts b = kept_begin_abstract (bytes_eq n (codes "type")) n z q xs ts refl b
kept_abstract _ z q xs ts b = tt

pub kept_decl : (s : Terminal) (z : Spot) (k : Bool) (a : ℕ) (xs : ItemsRead) (ts us : Text) → ItemsBefore xs ts → DeclText k a us → HasSome (Mc.at_decl s z.at a k [] xs) ((ts ++ us) ++ tok s z ∷ [])
kept_decl (sg.Name n) z k a xs ts us b d = has_moved (has_declared k a n z xs ts us b d) (sym (append_assoc ts us (nam n z ∷ [])))
kept_decl _ z k a xs ts us b d = tt

-- ---- a header that has ended

header_of : (a : ℕ) (n : List ℕ) (q : Spot) (vs : VarsForm) (t : Option TypeForm) (ts us : Text) → TypeParamsText vs ts → ParentText t us →
    HeaderText a (M.header a (name_in n q) vs t) (nam n q ∷ (ts ++ us))
header_of a n q vs t ts us p r = Gr.header_text a n q vs t ts us p r

kept_token_after_abstract : (s : Terminal) (z p q : Spot) (h : Form Header) (xs : ItemsRead) (ts us : Text) → ItemsBefore xs ts → HeaderText p.at h us →
    HasSome (Mc.token_after_abstract s h [] xs) ((ts ++ (wrd wd.Abstract p ∷ nam (codes "type") q ∷ us)) ++ tok s z ∷ [])
kept_token_after_abstract (sg.Word wd.End) z p q h xs ts us b t =
    has_moved (has_made (M.abstract_item h) xs ts ((wrd wd.Abstract p ∷ nam (codes "type") q ∷ us) ++ wrd wd.End z ∷ []) b (Gr.abstract_item h p q z us t)) (sym (append_assoc ts (wrd wd.Abstract p ∷ nam (codes "type") q ∷ us) (wrd wd.End z ∷ [])))
kept_token_after_abstract _ z p q h xs ts us b t = tt

fields_begin : (t : Marked) (p : Spot) (h : Form Header) (xs : ItemsRead) (ts us : Text) → Sep t → ItemsBefore xs ts → HeaderText p.at h us →
    Has (Po.Fields (record { header = h; fields = M.no_forms })) [] xs ((ts ++ (wrd wd.Struct p ∷ us)) ++ t ∷ [])
fields_begin t p h xs ts us sep b d =
    has_moved (has_fields (record { header = h; fields = M.no_forms }) xs (ts ++ (wrd wd.Struct p ∷ (us ++ t ∷ []))) (fielding_text h M.no_forms p xs ts us (t ∷ []) b d (Gr.first_sep t sep)))
    (sym (append_assoc ts (wrd wd.Struct p ∷ us) (t ∷ [])))

kept_token_after_struct : (s : Terminal) (z p : Spot) (h : Form Header) (xs : ItemsRead) (ts us : Text) → ItemsBefore xs ts → HeaderText p.at h us →
    HasSome (Mc.token_after_struct s h [] xs) ((ts ++ (wrd wd.Struct p ∷ us)) ++ tok s z ∷ [])
kept_token_after_struct sg.Newline z p h xs ts us b d = fields_begin (tok sg.Newline z) p h xs ts us (Tx.newline z) b d
kept_token_after_struct (sg.Operator op.Semicolon) z p h xs ts us b d = fields_begin (opr op.Semicolon z) p h xs ts us (Tx.semicolon z) b d
kept_token_after_struct (sg.Word wd.End) z p h xs ts us b d =
    has_moved (has_made (M.struct_item h M.no_forms) xs ts ((wrd wd.Struct p ∷ us ++ []) ++ wrd wd.End z ∷ []) b (Gr.struct_item h M.no_forms p z us [] d Gr.no_fields)) (simp append_assoc refl)
kept_token_after_struct _ z p h xs ts us b d = tt

kept_token_after_header : (s : Terminal) (z : Spot) (k : Bool) (a : ℕ) (h : Form Header) (xs : ItemsRead) (ts us vs : Text) → ItemsBefore xs ts → DeclText k a us → HeaderText a h vs →
    HasSome (Mc.token_after_header k s h [] xs) ((ts ++ (us ++ vs)) ++ tok s z ∷ [])
kept_token_after_header s z _ _ h xs ts _ vs b (abstract_decl p q) d = kept_token_after_abstract s z p q h xs ts vs b d
kept_token_after_header s z _ _ h xs ts _ vs b (struct_decl p) d = kept_token_after_struct s z p h xs ts vs b d

pub kept_end_header : (s : Terminal) (z : Spot) (x : Declaring) (t : Option TypeForm) (xs : ItemsRead) (ts vs : Text) → DeclaredText xs x ts → ParentText t vs →
    HasSome (Mc.end_header s x t [] xs) ((ts ++ vs) ++ tok s z ∷ [])
kept_end_header s z _ t _ _ ns (declared_text k a n q vs xs ts us ws b d p) r =
    some_moved (Mc.token_after_header k s (M.header a (name_in n q) vs t) [] xs) ((ts ++ (us ++ (nam n q ∷ (ws ++ ns)))) ++ tok s z ∷ []) (((ts ++ (us ++ (nam n q ∷ ws))) ++ ns) ++ tok s z ∷ [])
    (kept_token_after_header s z k a (M.header a (name_in n q) vs t) xs ts us (nam n q ∷ (ws ++ ns)) b d (header_of a n q vs t ws ns p r)) (simp append_assoc refl)

kept_no_parent : (s : Terminal) (z : Spot) (x : Declaring) (xs : ItemsRead) (ts : Text) → DeclaredText xs x ts → HasSome (Mc.end_header s x None [] xs) (ts ++ tok s z ∷ [])
kept_no_parent s z x xs ts t = some_moved (Mc.end_header s x None [] xs) ((ts ++ []) ++ tok s z ∷ []) (ts ++ tok s z ∷ []) (kept_end_header s z x None xs ts [] t Gr.no_parent) (ap (λ y. y ++ tok s z ∷ []) (append-nil ts))

pub kept_declared_text : (s : Terminal) (z : Spot) (x : Declaring) (xs : ItemsRead) (ts : Text) → DeclaredText xs x ts → HasSome (Mc.token_after_params s x [] xs) (ts ++ tok s z ∷ [])
kept_declared_text (sg.Operator op.Subtype) z x xs ts t = type_begins (Go.Parent x) [] xs (ts ++ opr op.Subtype z ∷ []) (goal_parent x z xs ts t)
kept_declared_text s z x xs ts t = kept_no_parent s z x xs ts t

header_type : (z : Spot) → Y.Has a_header Yp.Variable (Yf.Variable Yb.First (Yl.Braces no_variables) ∷ []) (lexemes (opr op.OpenBrace z ∷ []))
header_type z = Y.header_begins z.at

pub kept_at_declared : (s : Terminal) (z : Spot) (k : Bool) (a : ℕ) (n : List ℕ) (q : Spot) (xs : ItemsRead) (ts us : Text) → ItemsBefore xs ts → DeclText k a us →
    HasSome (Mc.at_declared s (record { at = a; is_struct = k; name = name_in n q; params = M.no_vars }) [] xs) ((ts ++ (us ++ nam n q ∷ [])) ++ tok s z ∷ [])
kept_at_declared (sg.Operator op.OpenBrace) z k a n q xs ts us b d =
    has_moved (has_params k a n q Mc.params_start xs ts us (opr op.OpenBrace z ∷ []) b d (header_type z)) (simp append_assoc refl)
kept_at_declared s z k a n q xs ts us b d =
    kept_declared_text s z (record { at = a; is_struct = k; name = name_in n q; params = M.no_vars }) xs (ts ++ (us ++ nam n q ∷ [])) (declared_text k a n q M.no_vars xs ts us [] b d Gr.no_type_params)

kept_params_turn : (o : Turn) (s : Terminal) (z : Spot) (k : Bool) (a : ℕ) (n : List ℕ) (q : Spot) (xs : ItemsRead) (ts us vs : Text) → ItemsBefore xs ts → DeclText k a us →
    Y.HasTurn a_header o (lexemes vs) (lexemes vs ++ record { terminal = s; at = z.at } ∷ []) →
    HasSome (Mc.params_turn o s (record { at = a; is_struct = k; name = name_in n q; params = M.no_vars }) [] xs) ((ts ++ (us ++ (nam n q ∷ vs))) ++ tok s z ∷ [])
kept_params_turn (Yt.Goes y) s z k a n q xs ts us vs b d x =
    has_moved (has_params k a n q y xs ts us (vs ++ tok s z ∷ []) b d (subst (Y.Has a_header y.point y.stack) (lexemes_more vs (tok s z)) x)) (simp append_assoc refl)
kept_params_turn (Yt.Variables e) s z k a n q xs ts us vs b d x =
    subst (λ f. HasSome (Mc.token_after_params s (record { at = a; is_struct = k; name = name_in n q; params = M.vars_form f }) [] xs) ((ts ++ (us ++ (nam n q ∷ vs))) ++ tok s z ∷ [])) (sym x.1)
    (kept_declared_text s z (record { at = a; is_struct = k; name = name_in n q; params = vars_as_read x.0 }) xs (ts ++ (us ++ (nam n q ∷ vs)))
    (declared_text k a n q (vars_as_read x.0) xs ts us vs b d (Gr.some_type_params x.0 vs x.2)))
kept_params_turn (Yt.Type e) s z k a n q xs ts us vs b d x = tt
kept_params_turn Yt.Wrong s z k a n q xs ts us vs b d x = tt

pub kept_params : (s : Terminal) (z : Spot) (k : Bool) (a : ℕ) (n : List ℕ) (q : Spot) (y : TypeState) (xs : ItemsRead) (ts us vs : Text) → ItemsBefore xs ts → DeclText k a us →
    Y.Has a_header y.point y.stack (lexemes vs) →
    HasSome (Mc.params_turn (Ym.step_at s z.at y.point y.stack) s (record { at = a; is_struct = k; name = name_in n q; params = M.no_vars }) [] xs) ((ts ++ (us ++ (nam n q ∷ vs))) ++ tok s z ∷ [])
kept_params s z k a n q y xs ts us vs b d x =
    kept_params_turn (Ym.step_at s z.at y.point y.stack) s z k a n q xs ts us vs b d (Y.kept a_header s z.at y.point y.stack (lexemes vs) x)

-- ---- fields

fields_apart : (t : Marked) (f : Fielding) (xs : ItemsRead) (ts : Text) → Sep t → FieldedText xs f ts → Has (Po.Fields f) [] xs (ts ++ t ∷ [])
fields_apart t _ _ _ sep (fielded_text h fs q xs ts us vs b d r) =
    has_moved (has_fields (record { header = h; fields = fs }) xs (ts ++ (wrd wd.Struct q ∷ (us ++ (vs ++ t ∷ [])))) (fielding_text h fs q xs ts us (vs ++ t ∷ []) b d (Gr.fields_apart fs t vs r sep))) (simp append_assoc refl)

kept_fielded : (s : Terminal) (z : Spot) (f : Fielding) (xs : ItemsRead) (ts : Text) → FieldedText xs f ts → HasSome (Mc.token_after_field s f [] xs) (ts ++ tok s z ∷ [])
kept_fielded sg.Newline z f xs ts t = fields_apart (tok sg.Newline z) f xs ts (Tx.newline z) t
kept_fielded (sg.Operator op.Semicolon) z f xs ts t = fields_apart (opr op.Semicolon z) f xs ts (Tx.semicolon z) t
kept_fielded (sg.Word wd.End) z _ _ _ (fielded_text h fs q xs ts us vs b d r) =
    has_moved (has_made (M.struct_item h fs) xs ts ((wrd wd.Struct q ∷ us ++ vs) ++ wrd wd.End z ∷ []) b (Gr.struct_item h fs q z us vs d (Gr.fields_after fs vs r))) (simp append_assoc refl)
kept_fielded _ z f xs ts t = tt

fields_again : (t : Marked) (f : Fielding) (xs : ItemsRead) (ts : Text) → Sep t → FieldingText xs f ts → Has (Po.Fields f) [] xs (ts ++ t ∷ [])
fields_again t _ _ _ sep (fielding_text h fs q xs ts us vs b d r) =
    has_moved (has_fields (record { header = h; fields = fs }) xs (ts ++ (wrd wd.Struct q ∷ (us ++ (vs ++ t ∷ [])))) (fielding_text h fs q xs ts us (vs ++ t ∷ []) b d (Gr.fields_again fs t vs r sep))) (simp append_assoc refl)

kept_fielding : (s : Terminal) (z : Spot) (f : Fielding) (xs : ItemsRead) (ts : Text) → FieldingText xs f ts → HasSome (Mc.token_after_field s f [] xs) (ts ++ tok s z ∷ [])
kept_fielding sg.Newline z f xs ts t = fields_again (tok sg.Newline z) f xs ts (Tx.newline z) t
kept_fielding (sg.Operator op.Semicolon) z f xs ts t = fields_again (opr op.Semicolon z) f xs ts (Tx.semicolon z) t
kept_fielding (sg.Word wd.End) z _ _ _ (fielding_text h fs q xs ts us vs b d r) =
    has_moved (has_made (M.struct_item h fs) xs ts ((wrd wd.Struct q ∷ us ++ vs) ++ wrd wd.End z ∷ []) b (Gr.struct_item h fs q z us vs d (Gr.fields_before fs vs r))) (simp append_assoc refl)
kept_fielding _ z f xs ts t = tt

pub kept_fields : (s : Terminal) (z : Spot) (f : Fielding) (xs : ItemsRead) (ts : Text) → FieldingText xs f ts → HasSome (Mc.at_fields s z.at f [] xs) (ts ++ tok s z ∷ [])
kept_fields (sg.Name n) z f xs ts t = has_field f n z xs ts t
kept_fields s z f xs ts t = kept_fielding s z f xs ts t

fielded_of : (f : Fielding) (n : Name) (ty : Option TypeText) (d : ℕ) (xs : ItemsRead) (ts ws : Text) → FieldingText xs f ts → FieldText (record { name = n; ty = ty }) d ws →
    FieldedText xs (Mc.with_field f n ty d) (ts ++ ws)
fielded_of _ n ty d _ _ ws (fielding_text h fs q xs ts us vs b e r) x =
    subst (FieldedText xs (record { header = h; fields = M.with_form fs (record { name = n; ty = ty }) d })) (simp append_assoc refl)
    (fielded_text h (M.with_form fs (record { name = n; ty = ty }) d) q xs ts us (vs ++ ws) b e (Gr.fields_one fs (record { name = n; ty = ty }) d vs ws r x))

pub kept_field : (s : Terminal) (z : Spot) (f : Fielding) (n : List ℕ) (q : Spot) (xs : ItemsRead) (ts : Text) → FieldingText xs f ts →
    HasSome (Mc.at_field s f (name_in n q) [] xs) ((ts ++ nam n q ∷ []) ++ tok s z ∷ [])
kept_field (sg.Operator op.HasType) z f n q xs ts t =
    has_moved (type_begins (Go.Field f (name_in n q)) [] xs (ts ++ (nam n q ∷ opr op.HasType z ∷ [])) (goal_field f n q z xs ts t)) (sym (append_assoc ts (nam n q ∷ []) (opr op.HasType z ∷ [])))
kept_field s z f n q xs ts t =
    kept_fielded s z (Mc.with_field f (name_in n q) None 0) xs (ts ++ nam n q ∷ []) (fielded_of f (name_in n q) None 0 xs ts (nam n q ∷ []) t (Gr.field_name n q))

-- ---- behind an item that a token of its own has ended

item_apart : (t : Marked) (x : Form Item) (xs : ItemsRead) (ts us : Text) → Sep t → ItemsBefore xs ts → ItemText x us → Has Po.Entry [] (M.with_item xs x) ((ts ++ us) ++ t ∷ [])
item_apart t x xs ts us sep b i =
    has_entry [] (M.with_item xs x) ((ts ++ us) ++ t ∷ []) tt
    (bottom (M.with_item xs x) ((ts ++ us) ++ t ∷ []) (Gr.items_apart (M.with_item xs x) t (ts ++ us) (Gr.items_one xs x ts us b i) sep))

pub kept_made : (s : Terminal) (z : Spot) (x : Form Item) (xs : ItemsRead) (ts us : Text) → is_end s ≡ false → ItemsBefore xs ts → ItemText x us → HasSome (Mc.at_made s x [] xs) ((ts ++ us) ++ tok s z ∷ [])
kept_made sg.Newline z x xs ts us n b i = item_apart (tok sg.Newline z) x xs ts us (Tx.newline z) b i
kept_made (sg.Operator op.Semicolon) z x xs ts us n b i = item_apart (opr op.Semicolon z) x xs ts us (Tx.semicolon z) b i
kept_made sg.End z x xs ts us n b i = absurd cc
kept_made _ z x xs ts us n b i = tt

kept_separator_after_method : (t : Marked) (m : Form Method) (K : List Frame) (xs : ItemsRead) (ts us : Text) → Sep t → Methods K → Opened K xs ts → LongMethod m us →
    HasSome (Mc.separator_after_method m K xs) ((ts ++ us) ++ t ∷ [])
kept_separator_after_method t m _ _ _ us sep h (bottom xs ts b) x = item_apart t (M.method_item m) xs ts us sep b (Gr.long_item m us x)
kept_separator_after_method t m _ _ _ us sep h (in_paren p q K xs d ts ws g ls st n) x = absurd h
kept_separator_after_method t m _ _ _ us sep h (in_tuple p q w es K xs d ts ws zs g ls st n r) x = absurd h
kept_separator_after_method t m _ _ _ us sep h (in_args p k a f es K xs d ts ws zs ns g ls st i n) x = absurd h
kept_separator_after_method t m _ _ _ us sep h (in_fetch p n q w K xs d ts ws g ls st i k) x = absurd h
kept_separator_after_method t m _ _ _ us sep h (in_print p a f ps K xs d ts ws zs ns g ls st i n) x = absurd h
kept_separator_after_method t m _ _ _ us sep h (in_then p f q K xs d ts ws g n st i) x = absurd h
kept_separator_after_method t m _ _ _ us sep h (in_test p a f b K xs d ts ws zs g ls st i) x = absurd h
kept_separator_after_method t m _ _ _ us sep h (in_block k ss K xs ts ws i b) x = absurd h
kept_separator_after_method t m _ _ _ us sep h (in_evals k ys K xs ts ws i b) x =
    has_moved (has_entry (Fr.Evals k (Tu.with_method ys m) ∷ K) xs (ts ++ ((ws ++ us) ++ t ∷ [])) tt
    (in_evals k (Tu.with_method ys m) K xs ts ((ws ++ us) ++ t ∷ []) i
    (Gr.evals_apart (Tu.with_method ys m) t (ws ++ us) (Gr.evals_one ys (El.Method m.tree) m.depth ws us b (Gr.evaluated_long m us x)) sep))) (simp append_assoc refl)

kept_end_after_method : (z : Spot) (m : Form Method) (K : List Frame) (xs : ItemsRead) (ts us : Text) → Methods K → Opened K xs ts → LongMethod m us →
    HasSome (Mc.end_after_method m K xs) ((ts ++ us) ++ wrd wd.End z ∷ [])
kept_end_after_method z m _ _ _ us h (bottom xs ts b) x = tt
kept_end_after_method z m _ _ _ us h (in_paren p q K xs d ts ws g ls st n) x = absurd h
kept_end_after_method z m _ _ _ us h (in_tuple p q w es K xs d ts ws zs g ls st n r) x = absurd h
kept_end_after_method z m _ _ _ us h (in_args p k a f es K xs d ts ws zs ns g ls st i n) x = absurd h
kept_end_after_method z m _ _ _ us h (in_fetch p n q w K xs d ts ws g ls st i k) x = absurd h
kept_end_after_method z m _ _ _ us h (in_print p a f ps K xs d ts ws zs ns g ls st i n) x = absurd h
kept_end_after_method z m _ _ _ us h (in_then p f q K xs d ts ws g n st i) x = absurd h
kept_end_after_method z m _ _ _ us h (in_test p a f b K xs d ts ws zs g ls st i) x = absurd h
kept_end_after_method z m _ _ _ us h (in_block k ss K xs ts ws i b) x = absurd h
kept_end_after_method z m _ _ _ us h (in_evals k ys K xs ts ws i b) x =
    some_moved (Tu.end_evals k (Tu.with_method ys m) K xs) ((ts ++ (ws ++ us)) ++ wrd wd.End z ∷ []) (((ts ++ ws) ++ us) ++ wrd wd.End z ∷ [])
    (kept_end_evals k (Tu.with_method ys m) K xs ts (ws ++ us) z i
    (Gr.evals_after (Tu.with_method ys m) (ws ++ us) (Gr.evals_one ys (El.Method m.tree) m.depth ws us b (Gr.evaluated_long m us x)))) (simp append_assoc refl)

pub kept_made_method : (s : Terminal) (z : Spot) (m : Form Method) (K : List Frame) (xs : ItemsRead) (ts us : Text) → is_end s ≡ false → Methods K → Opened K xs ts → LongMethod m us →
    HasSome (Mc.at_made_method s m K xs) ((ts ++ us) ++ tok s z ∷ [])
kept_made_method sg.Newline z m K xs ts us n h o x = kept_separator_after_method (tok sg.Newline z) m K xs ts us (Tx.newline z) h o x
kept_made_method (sg.Operator op.Semicolon) z m K xs ts us n h o x = kept_separator_after_method (opr op.Semicolon z) m K xs ts us (Tx.semicolon z) h o x
kept_made_method (sg.Word wd.End) z m K xs ts us n h o x = kept_end_after_method z m K xs ts us h o x
kept_made_method sg.End z m K xs ts us n h o x = absurd cc
kept_made_method _ z m K xs ts us n h o x = tt

-- ---- behind a type

makes_more : (b : Bool) (a : ℕ) (us vs : Text) → Makes b a us → Makes b a (us ++ vs)
makes_more _ _ _ vs (makes b n p ts mk le) = makes b n p (ts ++ vs) mk le

fits_more : (c : Typing) (us : Text) (s : Terminal) (z : Spot) → Fits c us → Fits c (us ++ tok s z ∷ [])
fits_more free_type us s z h = tt
fits_more (left_type a d vs) [] s z h = absurd h.0
fits_more (left_type a d vs) (t ∷ us) s z h = (h.0, h.1, starts_more d vs (t ∷ us) (tok s z ∷ []) h.2)
fits_more (made_type b a d vs) us s z h = (makes_more b a us (tok s z ∷ []) h.0, starts_more d vs us (tok s z ∷ []) h.1)

kept_left : (s : Terminal) (z : Spot) (p : Pending) (a : ℕ) (t : TypeText) (K : List Frame) (xs : ItemsRead) (d : Choice) (ts us vs : Text) → Led K xs p.lead p.outer p.returns d ts →
    TopText p.returns p.levels us → IsSubStart vs → place vs ≡ a → Starts d (us ++ vs) → IsType t vs → HasSome (Mc.token_after_left s p a (type_as_read t) K xs) (((ts ++ us) ++ vs) ++ tok s z ∷ [])
kept_left (sg.Operator op.Subtype) z p a t K xs d ts us vs l ls sub at_a st i =
    subst (λ x. Has (Po.Type (Go.Right p x (type_as_read t)) Tu.type_start) K xs (((ts ++ us) ++ vs) ++ opr op.Subtype z ∷ [])) at_a
    (has_moved (type_begins (Go.Right p (place vs) (type_as_read t)) K xs ((ts ++ us) ++ (vs ++ opr op.Subtype z ∷ [])) (goal_right p t z K xs d ts us vs l ls st sub i)) (sym (append_assoc (ts ++ us) vs (opr op.Subtype z ∷ []))))
kept_left _ z p a t K xs d ts us vs l ls sub at_a st i = tt

kept_make : (s : Terminal) (z : Spot) (p : Pending) (a : ℕ) (t : TypeText) (K : List Frame) (xs : ItemsRead) (d : Choice) (ts us vs : Text) → Led K xs p.lead p.outer p.returns d ts →
    LevelsText p.returns p.levels us → Makes (is_comparison_start p.levels) a vs → Starts d (us ++ vs) → IsType t vs → HasSome (Mc.open_make s p a (type_as_read t) K xs) (((ts ++ us) ++ vs) ++ tok s z ∷ [])
kept_make (sg.Operator op.OpenParen) z p _ t K xs d ts us _ l ls (makes b n q vs mk le) st i =
    has_moved (has_first_args p q.at (Ca.Type (type_as_read t)) K xs d ts us ((nam n q ∷ vs) ++ opr op.OpenParen z ∷ []) l ls (starts_more d us (nam n q ∷ vs) (opr op.OpenParen z ∷ []) st)
    (called_type (is_comparison_start p.levels) n t q z vs mk le i)) (simp append_assoc refl)
kept_make _ z p a t K xs d ts us vs l ls m st i = tt

kept_close_which : (s : Terminal) (z : Spot) (p : Pending) (a : ℕ) (f : Name) (t : TypeText) (q : Spot) (K : List Frame) (xs : ItemsRead) (d : Choice) (ts hs vs us : Text) → Led K xs p.lead p.outer p.returns d ts →
    LevelsText p.returns p.levels hs → Starts d (hs ++ vs) → DeletingText (is_comparison_start p.levels) a f vs → IsType t us →
    HasSome (Mc.close_which s p a f (type_as_read t) K xs) ((((ts ++ hs) ++ (vs ++ opr op.Comma q ∷ [])) ++ us) ++ tok s z ∷ [])
kept_close_which (sg.Operator op.CloseParen) z p a f t q K xs d ts hs vs us l ls st x i = has_moved (has_deleted p a f t q z K xs d ts hs vs us l ls st x i) (simp append_assoc refl)
kept_close_which _ z p a f t q K xs d ts hs vs us l ls st x i = tt

pub kept_token_after_type : (s : Terminal) (z : Spot) (g : Goal) (c : Typing) (t : TypeText) (K : List Frame) (xs : ItemsRead) (ts us : Text) → is_end s ≡ false → GoalText K xs g c ts → Fits c us → IsType t us →
    HasSome (Mc.token_after_type s z.at g (type_as_read t) K xs) ((ts ++ us) ++ tok s z ∷ [])
kept_token_after_type s z _ _ t _ _ _ us n (goal_isa p e q K xs d ts hs vs l ls st a) f i =
    some_moved (Tu.token_after_comparison s z.at p (M.isa_expr e (type_as_read t)) K xs) ((ts ++ (hs ++ (vs ++ wrd wd.Isa q ∷ us))) ++ tok s z ∷ []) ((((ts ++ hs) ++ (vs ++ wrd wd.Isa q ∷ [])) ++ us) ++ tok s z ∷ [])
    (kept_token_after_comparison s z p (M.isa_expr e (type_as_read t)) K xs (ts ++ (hs ++ (vs ++ wrd wd.Isa q ∷ us))) n
    (compared_text p (M.isa_expr e (type_as_read t)) K xs d ts hs (vs ++ wrd wd.Isa q ∷ us) l ls (Gr.isa p.returns e t q vs us a i) (starts_more d hs vs (wrd wd.Isa q ∷ us) st))) (simp append_assoc refl)
kept_token_after_type s z _ _ t _ _ _ us n (goal_left p a K xs d ts hs l ls) f i = kept_left s z p a t K xs d ts hs us l ls f.0 f.1 f.2 i
kept_token_after_type s z _ _ t _ _ _ us n (goal_right p v q K xs d ts hs vs l ls st sub j) f i =
    some_moved (Tu.token_after_comparison s z.at p (M.sub_expr (place vs) (type_as_read v) (type_as_read t)) K xs) ((ts ++ (hs ++ (vs ++ opr op.Subtype q ∷ us))) ++ tok s z ∷ [])
    ((((ts ++ hs) ++ (vs ++ opr op.Subtype q ∷ [])) ++ us) ++ tok s z ∷ [])
    (kept_token_after_comparison s z p (M.sub_expr (place vs) (type_as_read v) (type_as_read t)) K xs (ts ++ (hs ++ (vs ++ opr op.Subtype q ∷ us))) n
    (compared_text p (M.sub_expr (place vs) (type_as_read v) (type_as_read t)) K xs d ts hs (vs ++ opr op.Subtype q ∷ us) l ls (Gr.sub p.returns v t q vs us sub j i) (starts_more d hs vs (opr op.Subtype q ∷ us) st))) (simp append_assoc refl)
kept_token_after_type s z _ _ t _ _ _ us n (goal_make p a K xs d ts hs l ls) f i = kept_make s z p a t K xs d ts hs us l ls f.0 f.1 i
kept_token_after_type s z _ _ t _ _ _ us n (goal_delete p a m q K xs d ts hs vs l ls st x) f i = kept_close_which s z p a m t q K xs d ts hs vs us l ls st x i
kept_token_after_type s z _ _ t _ _ _ us n (goal_param h m q v K xs ts x) f i =
    some_moved (Mc.token_after_param s (Mc.with_param h (Pa.Typed (name_in m q) (type_as_read t).tree) (type_as_read t).depth) K xs) ((ts ++ (nam m q ∷ opr op.HasType v ∷ us)) ++ tok s z ∷ [])
    (((ts ++ (nam m q ∷ opr op.HasType v ∷ [])) ++ us) ++ tok s z ∷ [])
    (kept_token_after_param s z (Mc.with_param h (Pa.Typed (name_in m q) (type_as_read t).tree) (type_as_read t).depth) K xs (ts ++ (nam m q ∷ opr op.HasType v ∷ us))
    (listed_of h K xs ts (Pa.Typed (name_in m q) (type_as_read t).tree) (type_as_read t).depth (nam m q ∷ opr op.HasType v ∷ us) x (Gr.param_typed m q v t us i))) (simp append_assoc refl)
kept_token_after_type s z _ _ t _ _ _ us n (goal_unnamed h q K xs ts x) f i =
    some_moved (Mc.token_after_param s (Mc.with_param h (Pa.Unnamed q.at (type_as_read t).tree) (type_as_read t).depth) K xs) ((ts ++ (opr op.HasType q ∷ us)) ++ tok s z ∷ []) (((ts ++ opr op.HasType q ∷ []) ++ us) ++ tok s z ∷ [])
    (kept_token_after_param s z (Mc.with_param h (Pa.Unnamed q.at (type_as_read t).tree) (type_as_read t).depth) K xs (ts ++ (opr op.HasType q ∷ us))
    (listed_of h K xs ts (Pa.Unnamed q.at (type_as_read t).tree) (type_as_read t).depth (opr op.HasType q ∷ us) x (Gr.param_unnamed q t us i))) (simp append_assoc refl)
kept_token_after_type s z _ _ t _ _ _ us n (goal_parent h q xs ts x) f i =
    some_moved (Mc.end_header s h (Some (type_as_read t)) [] xs) ((ts ++ (opr op.Subtype q ∷ us)) ++ tok s z ∷ []) (((ts ++ opr op.Subtype q ∷ []) ++ us) ++ tok s z ∷ [])
    (kept_end_header s z h (Some (type_as_read t)) xs ts (opr op.Subtype q ∷ us) x (Gr.some_parent t q us i)) (simp append_assoc refl)
kept_token_after_type s z _ _ t _ _ _ us n (goal_field h m q v xs ts x) f i =
    some_moved (Mc.token_after_field s (Mc.with_field h (name_in m q) (Some (type_as_read t).tree) (type_as_read t).depth) [] xs) ((ts ++ (nam m q ∷ opr op.HasType v ∷ us)) ++ tok s z ∷ [])
    (((ts ++ (nam m q ∷ opr op.HasType v ∷ [])) ++ us) ++ tok s z ∷ [])
    (kept_fielded s z (Mc.with_field h (name_in m q) (Some (type_as_read t).tree) (type_as_read t).depth) xs (ts ++ (nam m q ∷ opr op.HasType v ∷ us))
    (fielded_of h (name_in m q) (Some (type_as_read t).tree) (type_as_read t).depth xs ts (nam m q ∷ opr op.HasType v ∷ us) x (Gr.field_typed m q v t us i))) (simp append_assoc refl)

kept_type_step : (o : Turn) (s : Terminal) (z : Spot) (g : Goal) (c : Typing) (K : List Frame) (xs : ItemsRead) (ts us : Text) → is_end s ≡ false → GoalText K xs g c ts → Fits c us →
    Y.HasTurn a_type o (lexemes us) (lexemes us ++ record { terminal = s; at = z.at } ∷ []) → HasSome (Mc.type_step o s z.at g K xs) ((ts ++ us) ++ tok s z ∷ [])
kept_type_step (Yt.Goes y) s z g c K xs ts us n t f x =
    has_moved (has_type g c y K xs ts (us ++ tok s z ∷ []) t (fits_more c us s z f) (subst (Y.Has a_type y.point y.stack) (lexemes_more us (tok s z)) x)) (sym (append_assoc ts us (tok s z ∷ [])))
kept_type_step (Yt.Type e) s z g c K xs ts us n t f x =
    subst (λ y. HasSome (Mc.token_after_type s z.at g (M.type_form y) K xs) ((ts ++ us) ++ tok s z ∷ [])) (sym x.1) (kept_token_after_type s z g c x.0 K xs ts us n t f x.2)
kept_type_step (Yt.Variables e) s z g c K xs ts us n t f x = tt
kept_type_step Yt.Wrong s z g c K xs ts us n t f x = tt

pub kept_type : (s : Terminal) (z : Spot) (g : Goal) (c : Typing) (y : TypeState) (K : List Frame) (xs : ItemsRead) (ts us : Text) → is_end s ≡ false → GoalText K xs g c ts → Fits c us →
    Y.Has a_type y.point y.stack (lexemes us) → HasSome (Mc.type_step (Ym.step_at s z.at y.point y.stack) s z.at g K xs) ((ts ++ us) ++ tok s z ∷ [])
kept_type s z g c y K xs ts us n t f x = kept_type_step (Ym.step_at s z.at y.point y.stack) s z g c K xs ts us n t f (Y.kept a_type s z.at y.point y.stack (lexemes us) x)
