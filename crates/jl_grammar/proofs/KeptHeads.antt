-- Heads of methods, declarations and types.
use Rattle.std.proofs.Common.{ℕ, Bool, true, false, codes, List, [], ◌∷◌, ◌++◌, ◌≡◌, Some, None, refl, sym, ap, subst, ◌∙◌}
use Rattle.std.proofs.lemmas.List.{append_assoc, append-nil}
use Rattle.jl_token.specs.declared.token.Operator.TheVariants as op
use Rattle.jl_typeread.proofs.Kept.{Goal as TypeGoal, a_type, a_where, a_header}
use Rattle.jl_typeread.proofs.Kept as Y
use Rattle.jl_typeread.specs.declared.terminal.Terminal.{Terminal}
use Rattle.jl_typeread.specs.declared.terminal.Terminal.TheVariants as sg
use Rattle.jl_typeread.specs.declared.terminal.Word.{Word}
use Rattle.jl_typeread.specs.declared.terminal.Word.TheVariants as wd
use Rattle.jl_typeread.specs.declared.state.State.{State as TypeState}
use Rattle.jl_grammar.specs.declared.mark.Marked.{Marked}
use Rattle.jl_grammar.specs.declared.state.BlockKind.{BlockKind}
use Rattle.jl_grammar.specs.declared.state.BlockKind.TheVariants as Bl
use Rattle.jl_grammar.specs.declared.state.Form.{Form}
use Rattle.jl_grammar.specs.declared.state.Forms.{Forms}
use Rattle.jl_grammar.specs.declared.state.Frame.{Frame}
use Rattle.jl_grammar.specs.declared.state.Frame.TheVariants as Fr
use Rattle.jl_grammar.specs.declared.state.Goal.{Goal}
use Rattle.jl_grammar.specs.declared.state.Goal.TheVariants as Go
use Rattle.jl_grammar.specs.declared.state.Heading.{Heading}
use Rattle.jl_grammar.specs.declared.state.ItemsRead.{ItemsRead}
use Rattle.jl_grammar.specs.declared.state.Lead.{Lead}
use Rattle.jl_grammar.specs.declared.state.Lead.TheVariants as Le
use Rattle.jl_grammar.specs.declared.state.Levels.{Levels}
use Rattle.jl_grammar.specs.declared.state.Outer.{Outer}
use Rattle.jl_grammar.specs.declared.state.Outer.TheVariants as Ou
use Rattle.jl_grammar.specs.declared.state.Pending.{Pending}
use Rattle.jl_grammar.specs.declared.state.Place.TheVariants as Pl
use Rattle.jl_grammar.specs.declared.state.Point.TheVariants as Po
use Rattle.jl_grammar.specs.declared.state.Start.{Start}
use Rattle.jl_grammar.specs.declared.state.VarsForm.{VarsForm}
use Rattle.jl_grammar.specs.declared.tree.Callee.{Callee}
use Rattle.jl_grammar.specs.declared.tree.Head.{Head}
use Rattle.jl_grammar.specs.declared.tree.Param.{Param}
use Rattle.jl_grammar.specs.declared.tree.Param.TheVariants as Pa
use Rattle.jl_grammar.specs.Forms as M
use Rattle.jl_grammar.specs.Grammar.{PrefixOperator, ComparisonOperator, SumOperator, TermOperator, CalleeText, ParamText, ParamsText, ParensText, WhereText, HeadText, place, Atom, Brackets, Arguments, PieceText, Pieces, Post, Unary, Term, Sum, Comparison, Conjunction, Disjunction, Expression, Branches, Statement, Block, StmtsBefore, StmtsAfter, LongMethod, ShortMethod, Evaluated, EvalBlock, EvalsBefore, EvalsAfter, ParentText, TypeParamsText, HeaderText, FieldText, FieldsBefore, FieldsAfter, FieldsText, ItemText, ItemsBefore, ItemsAfter, ScriptText}
use Rattle.jl_grammar.specs.Grammar as Gr
use Rattle.jl_grammar.specs.Levels.{pending_after, push_outer}
use Rattle.jl_grammar.specs.Machine as Mc
use Rattle.jl_grammar.specs.Turns as Tu
use Rattle.jl_grammar.specs.Turns.{at, is_return_allowed}
use Rattle.jl_grammar.specs.Texts.{Text, Spot, tok, opr, wrd, nam, name_in, lexemes, IsMethodStart, is_end}
use Rattle.jl_grammar.specs.Types.{vars_as_read}
use Rattle.jl_grammar.proofs.Standing.{Choice, any_form, Starts, LevelsText, no_outer, in_short, lead_short, choice_in, return_in, Methods, Opened, in_block, Led, led_text, KindText, body_kind, evaluated_kind}
use Rattle.jl_grammar.proofs.Points.{Naming, Names, StartText, entry_long, entry_short, evaluated_long, evaluated_short, ParamsPart, no_params_yet, some_params_yet, HeadingText, heading_text, ListedText, listed_text, HeadedText, headed_text, free_type, GoalText, goal_param, goal_unnamed, Has, has_want, has_next_param, has_param, has_headed, has_where, has_type, HasSome}
use Rattle.jl_grammar.proofs.Closing.{bare_levels}
use Rattle.jl_grammar.proofs.KeptBlocks.{has_moved}
use Rattle.jl_grammar.proofs.KeptCloses.{some_moved}
use Rattle.jl_grammar.proofs.KeptEntries.{kept_entry}
use Rattle.jl_typeread.specs.declared.state.Point.TheVariants as Yp
use Rattle.jl_typeread.specs.declared.state.Turn.{Turn}
use Rattle.jl_typeread.specs.declared.state.Turn.TheVariants as Yt
use Rattle.jl_typeread.specs.Machine as Ym

-- ---- types of parts of a text

pub lexemes_more : (us : Text) (t : Marked) → lexemes us ++ t.lexeme ∷ [] ≡ lexemes (us ++ t ∷ [])
lexemes_more [] t = refl
lexemes_more (u ∷ us) t = ap (λ x. u.lexeme ∷ x) (lexemes_more us t)

-- a type begins behind a fixed token
pub type_begins : (g : Goal) (K : List Frame) (xs : ItemsRead) (ts : Text) → GoalText K xs g free_type ts → Has (Po.Type g Tu.type_start) K xs ts
type_begins g K xs ts t = has_moved (has_type g free_type Tu.type_start K xs ts [] t tt (Y.has_want a_type [] [] Y.bottom)) (append-nil ts)

-- ---- parameters

pub params_text : (ps : Forms Param) (us : Text) (x : Param) (n : ℕ) (ws : Text) → ParamsPart ps us → ParamText x n ws → ParamsText (M.with_form ps x n) (us ++ ws)
params_text _ _ x n ws no_params_yet d = Gr.one_param x n ws d
params_text _ _ x n ws (some_params_yet ps q ts c) d = subst (ParamsText (M.with_form ps x n)) (sym (append_assoc ts (opr op.Comma q ∷ []) ws)) (Gr.more_params ps x n q ts ws c d)

pub listed_of : (h : Heading) (K : List Frame) (xs : ItemsRead) (ts : Text) (x : Param) (n : ℕ) (ws : Text) → HeadingText K xs h ts → ParamText x n ws → ListedText K xs (Mc.with_param h x n) (ts ++ ws)
listed_of _ _ _ _ x n ws (heading_text s f ps c q K xs ts us vs st m k b) d =
    subst (ListedText K xs (record { start = s; callee = f; params = M.with_form ps x n })) (simp append_assoc refl)
    (listed_text s f (M.with_form ps x n) c q K xs ts us (vs ++ ws) st m k (params_text ps vs x n ws b d))

pub kept_token_after_param : (s : Terminal) (z : Spot) (h : Heading) (K : List Frame) (xs : ItemsRead) (ts : Text) → ListedText K xs h ts → HasSome (Mc.token_after_param s h K xs) (ts ++ tok s z ∷ [])
kept_token_after_param (sg.Operator op.Comma) z _ _ _ _ (listed_text s f ps c q K xs ts us vs st m k b) =
    has_moved (has_next_param (record { start = s; callee = f; params = ps }) K xs (ts ++ (us ++ (opr op.OpenParen q ∷ (vs ++ opr op.Comma z ∷ []))))
    (heading_text s f ps c q K xs ts us (vs ++ opr op.Comma z ∷ []) st m k (some_params_yet ps z vs b))) (simp append_assoc refl)
kept_token_after_param (sg.Operator op.CloseParen) z _ _ _ _ (listed_text s f ps c q K xs ts us vs st m k b) =
    has_moved (has_headed (record { start = s; callee = f; params = ps }) K xs (ts ++ (us ++ ((opr op.OpenParen q ∷ vs) ++ opr op.CloseParen z ∷ [])))
    (headed_text s f ps c K xs ts us ((opr op.OpenParen q ∷ vs) ++ opr op.CloseParen z ∷ []) st m k (Gr.some_params ps q z vs b))) (simp append_assoc refl)
kept_token_after_param _ z h K xs ts t = tt

pub kept_next_param : (s : Terminal) (z : Spot) (h : Heading) (K : List Frame) (xs : ItemsRead) (ts : Text) → HeadingText K xs h ts → HasSome (Mc.next_param s z.at h K xs) (ts ++ tok s z ∷ [])
kept_next_param (sg.Name n) z h K xs ts t = has_param h n z K xs ts t
kept_next_param (sg.Operator op.HasType) z h K xs ts t = type_begins (Go.Param h None z.at) K xs (ts ++ opr op.HasType z ∷ []) (goal_unnamed h z K xs ts t)
kept_next_param _ z h K xs ts t = tt

pub kept_first_param : (s : Terminal) (z : Spot) (y : Start) (f : Callee) (c : Naming) (q : Spot) (K : List Frame) (xs : ItemsRead) (ts us : Text) → StartText K xs y c ts → CalleeText f us → Names c us →
    HasSome (Mc.first_param s z.at (record { start = y; callee = f; params = M.no_forms }) K xs) ((ts ++ (us ++ opr op.OpenParen q ∷ [])) ++ tok s z ∷ [])
kept_first_param (sg.Operator op.CloseParen) z y f c q K xs ts us st m k =
    has_moved (has_headed (record { start = y; callee = f; params = M.no_forms }) K xs (ts ++ (us ++ (opr op.OpenParen q ∷ opr op.CloseParen z ∷ [])))
    (headed_text y f M.no_forms c K xs ts us (opr op.OpenParen q ∷ opr op.CloseParen z ∷ []) st m k (Gr.no_params q z))) (simp append_assoc refl)
kept_first_param s z y f c q K xs ts us st m k =
    kept_next_param s z (record { start = y; callee = f; params = M.no_forms }) K xs (ts ++ (us ++ opr op.OpenParen q ∷ []))
    (heading_text y f M.no_forms c q K xs ts us [] st m k no_params_yet)

pub kept_param : (s : Terminal) (z : Spot) (h : Heading) (n : List ℕ) (q : Spot) (K : List Frame) (xs : ItemsRead) (ts : Text) → HeadingText K xs h ts →
    HasSome (Mc.at_param s z.at h (name_in n q) K xs) ((ts ++ nam n q ∷ []) ++ tok s z ∷ [])
kept_param (sg.Operator op.HasType) z h n q K xs ts t =
    has_moved (type_begins (Go.Param h (Some (name_in n q)) z.at) K xs (ts ++ (nam n q ∷ opr op.HasType z ∷ [])) (goal_param h n q z K xs ts t)) (sym (append_assoc ts (nam n q ∷ []) (opr op.HasType z ∷ [])))
kept_param s z h n q K xs ts t =
    kept_token_after_param s z (Mc.with_param h (Pa.Name (name_in n q)) 0) K xs (ts ++ nam n q ∷ []) (listed_of h K xs ts (Pa.Name (name_in n q)) 0 (nam n q ∷ []) t (Gr.param_name n q))

-- ---- a head that has ended

head_of : (a : ℕ) (f : Callee) (ps : Forms Param) (vs : VarsForm) (ts us ws : Text) → CalleeText f ts → ParensText ps us → WhereText vs ws → HeadText a (M.head a f ps vs) (ts ++ (us ++ ws))
head_of a f ps vs ts us ws c p w = subst (HeadText a (M.head a f ps vs)) (simp append_assoc refl) (Gr.head_text a f ps vs ts us ws c p w)

head_place : (us vs : Text) → IsMethodStart us → place (us ++ vs) ≡ place us
head_place [] vs h = absurd h
head_place (t ∷ us) vs h = refl

head_more : (us vs : Text) → IsMethodStart us → IsMethodStart (us ++ vs)
head_more [] vs h = absurd h
head_more (t ∷ us) vs h = h

led_short : (K : List Frame) (xs : ItemsRead) (l : Lead) (os : List Outer) (r : Bool) (d : Choice) (ts : Text) (ls : Levels) (us : Text) (q z : Spot) (h : Form Head) (vs : Text) → Led K xs l os r d ts →
    LevelsText r ls us → Starts d (us ++ tok (sg.Macro (codes "eval")) q ∷ []) → IsMethodStart vs → HeadText (place vs) h vs →
    Led K xs l (Ou.Short ls q.at h ∷ os) true any_form (ts ++ (us ++ (tok (sg.Macro (codes "eval")) q ∷ (vs ++ opr op.Assign z ∷ []))))
led_short _ _ _ _ _ _ _ ls us q z h vs (led_text K xs l os y r c d ts ws ns o lt ot) lv st m t =
    subst (Led K xs l (Ou.Short ls q.at h ∷ os) true any_form) (simp append_assoc refl)
    (led_text K xs l (Ou.Short ls q.at h ∷ os) y true c any_form ts ws (ns ++ (us ++ (tok (sg.Macro (codes "eval")) q ∷ (vs ++ opr op.Assign z ∷ [])))) o lt
    (in_short c d y r os ls h q z ns us vs ot lv st m t))

entry_defines : (h : Form Head) (z : Spot) (K : List Frame) (xs : ItemsRead) (ts us : Text) → Methods K → Opened K xs ts → IsMethodStart us → HeadText (place us) h us →
    Has (Po.Want (pending_after (Le.Short h) true)) K xs ((ts ++ us) ++ opr op.Assign z ∷ [])
entry_defines h z K xs ts us m o k t =
    has_moved (has_want (pending_after (Le.Short h) true) K xs any_form (ts ++ ((us ++ opr op.Assign z ∷ []) ++ [])) []
    (led_text K xs (Le.Short h) [] true true any_form any_form ts (us ++ opr op.Assign z ∷ []) [] o (lead_short (choice_in K) (return_in K) h z us m k t) (no_outer any_form true))
    (bare_levels true) tt) (simp (append_assoc, append-nil) refl)

evaluated_defines : (h : Form Head) (z : Spot) (p : Pending) (q : Spot) (K : List Frame) (xs : ItemsRead) (d : Choice) (ts us vs : Text) → Led K xs p.lead p.outer p.returns d ts →
    LevelsText p.returns p.levels us → Starts d (us ++ tok (sg.Macro (codes "eval")) q ∷ []) → IsMethodStart vs → HeadText (place vs) h vs →
    Has (Po.Want (push_outer (Ou.Short p.levels q.at h) true p)) K xs ((((ts ++ us) ++ tok (sg.Macro (codes "eval")) q ∷ []) ++ vs) ++ opr op.Assign z ∷ [])
evaluated_defines h z p q K xs d ts us vs l ls st m t =
    has_moved (has_want (push_outer (Ou.Short p.levels q.at h) true p) K xs any_form (ts ++ (us ++ (tok (sg.Macro (codes "eval")) q ∷ (vs ++ opr op.Assign z ∷ [])))) []
    (led_short K xs p.lead p.outer p.returns d ts p.levels us q z h vs l ls st m t) (bare_levels true) tt) (simp (append_assoc, append-nil) refl)

-- the body of a method begins
body_begins : (s : Terminal) (z : Spot) (k : BlockKind) (K : List Frame) (xs : ItemsRead) (ts : Text) → is_end s ≡ false → KindText K xs k ts →
    HasSome (Mc.at_entry s z.marks z.at (Fr.Block k M.no_forms ∷ K) xs) (ts ++ tok s z ∷ [])
body_begins s z k K xs ts n t =
    some_moved (Mc.at_entry s z.marks z.at (Fr.Block k M.no_forms ∷ K) xs) ((ts ++ []) ++ tok s z ∷ []) (ts ++ tok s z ∷ [])
    (kept_entry s z (Fr.Block k M.no_forms ∷ K) xs (ts ++ []) n tt (in_block k M.no_forms K xs ts [] t (Gr.no_stmts (is_return_allowed k)))) (ap (λ x. x ++ tok s z ∷ []) (append-nil ts))

-- a head with its `where`, and the token behind it
kept_head : (s : Terminal) (z : Spot) (y : Start) (f : Callee) (ps : Forms Param) (vs : VarsForm) (c : Naming) (K : List Frame) (xs : ItemsRead) (ts us ws ns : Text) → is_end s ≡ false →
    StartText K xs y c ts → CalleeText f us → Names c us → ParensText ps ws → WhereText vs ns →
    HasSome (Mc.token_after_head y.long s z.marks z.at y.place (M.head y.at f ps vs) K xs) ((ts ++ (us ++ (ws ++ ns))) ++ tok s z ∷ [])
kept_head s z _ f ps vs _ _ _ _ us ws ns n (entry_long q K xs ts m o) g k b w =
    some_moved (Mc.at_entry s z.marks z.at (Fr.Block (Bl.Body Pl.Entry (M.head q.at f ps vs)) M.no_forms ∷ K) xs) ((ts ++ (wrd wd.Function q ∷ (us ++ (ws ++ ns)))) ++ tok s z ∷ [])
    (((ts ++ wrd wd.Function q ∷ []) ++ (us ++ (ws ++ ns))) ++ tok s z ∷ [])
    (body_begins s z (Bl.Body Pl.Entry (M.head q.at f ps vs)) K xs (ts ++ (wrd wd.Function q ∷ (us ++ (ws ++ ns)))) n
    (body_kind (M.head q.at f ps vs) q K xs ts (us ++ (ws ++ ns)) m o (head_of q.at f ps vs us ws ns g b w))) (simp append_assoc refl)
kept_head s z _ f ps vs _ _ _ _ us ws ns n (evaluated_long p q v K xs d ts hs l ls st) g k b w =
    some_moved (Mc.at_entry s z.marks z.at (Fr.Block (Bl.Body (Pl.Evaluated p q.at) (M.head v.at f ps vs)) M.no_forms ∷ K) xs)
    (((ts ++ hs) ++ (tok (sg.Macro (codes "eval")) q ∷ wrd wd.Function v ∷ (us ++ (ws ++ ns)))) ++ tok s z ∷ [])
    ((((ts ++ hs) ++ (tok (sg.Macro (codes "eval")) q ∷ wrd wd.Function v ∷ [])) ++ (us ++ (ws ++ ns))) ++ tok s z ∷ [])
    (body_begins s z (Bl.Body (Pl.Evaluated p q.at) (M.head v.at f ps vs)) K xs ((ts ++ hs) ++ (tok (sg.Macro (codes "eval")) q ∷ wrd wd.Function v ∷ (us ++ (ws ++ ns)))) n
    (evaluated_kind p (M.head v.at f ps vs) q v K xs d ts hs (us ++ (ws ++ ns)) l ls st (head_of v.at f ps vs us ws ns g b w))) (simp append_assoc refl)
kept_head (sg.Operator op.Assign) z _ f ps vs _ _ _ _ us ws ns n (entry_short a K xs ts m o) g k b w =
    entry_defines (M.head a f ps vs) z K xs ts (us ++ (ws ++ ns)) m o (head_more us (ws ++ ns) k.0)
    (subst (λ x. HeadText x (M.head a f ps vs) (us ++ (ws ++ ns))) (sym (head_place us (ws ++ ns) k.0 ∙ k.1)) (head_of a f ps vs us ws ns g b w))
kept_head (sg.Operator op.Assign) z _ f ps vs _ _ _ _ us ws ns n (evaluated_short p q a K xs d ts hs l ls st) g k b w =
    evaluated_defines (M.head a f ps vs) z p q K xs d ts hs (us ++ (ws ++ ns)) l ls st (head_more us (ws ++ ns) k.0)
    (subst (λ x. HeadText x (M.head a f ps vs) (us ++ (ws ++ ns))) (sym (head_place us (ws ++ ns) k.0 ∙ k.1)) (head_of a f ps vs us ws ns g b w))
kept_head s z _ f ps vs _ _ _ _ us ws ns n (entry_short a K xs ts m o) g k b w = tt
kept_head s z _ f ps vs _ _ _ _ us ws ns n (evaluated_short p q a K xs d ts hs l ls st) g k b w = tt

pub kept_end_head : (s : Terminal) (z : Spot) (h : Heading) (vs : VarsForm) (K : List Frame) (xs : ItemsRead) (ts ns : Text) → is_end s ≡ false → HeadedText K xs h ts → WhereText vs ns →
    HasSome (Mc.end_head s z.marks z.at h vs K xs) ((ts ++ ns) ++ tok s z ∷ [])
kept_end_head s z _ vs _ _ _ ns n (headed_text y f ps c K xs ts us ws st g k b) w =
    some_moved (Mc.token_after_head y.long s z.marks z.at y.place (M.head y.at f ps vs) K xs) ((ts ++ (us ++ (ws ++ ns))) ++ tok s z ∷ []) (((ts ++ (us ++ ws)) ++ ns) ++ tok s z ∷ [])
    (kept_head s z y f ps vs c K xs ts us ws ns n st g k b w) (simp append_assoc refl)

where_type : (z : Spot) → Y.Has a_where Yp.Where [] (lexemes (wrd wd.Where z ∷ []))
where_type z = Y.has_where a_where [] (lexemes (wrd wd.Where z ∷ [])) (Y.where_alone z.at)

kept_bare_head : (s : Terminal) (z : Spot) (h : Heading) (K : List Frame) (xs : ItemsRead) (ts : Text) → is_end s ≡ false → HeadedText K xs h ts →
    HasSome (Mc.end_head s z.marks z.at h M.no_vars K xs) (ts ++ tok s z ∷ [])
kept_bare_head s z h K xs ts n t =
    some_moved (Mc.end_head s z.marks z.at h M.no_vars K xs) ((ts ++ []) ++ tok s z ∷ []) (ts ++ tok s z ∷ []) (kept_end_head s z h M.no_vars K xs ts [] n t Gr.no_where) (ap (λ x. x ++ tok s z ∷ []) (append-nil ts))

kept_headed_word : (v : Word) (z : Spot) (h : Heading) (K : List Frame) (xs : ItemsRead) (ts : Text) → HeadedText K xs h ts → HasSome (Mc.at_headed (sg.Word v) z.marks z.at h K xs) (ts ++ wrd v z ∷ [])
kept_headed_word wd.Where z h K xs ts t = has_where h Mc.where_start K xs ts (wrd wd.Where z ∷ []) t (where_type z)
kept_headed_word v z h K xs ts t = kept_bare_head (sg.Word v) z h K xs ts refl t

pub kept_at_headed : (s : Terminal) (z : Spot) (h : Heading) (K : List Frame) (xs : ItemsRead) (ts : Text) → is_end s ≡ false → HeadedText K xs h ts →
    HasSome (Mc.at_headed s z.marks z.at h K xs) (ts ++ tok s z ∷ [])
kept_at_headed (sg.Word v) z h K xs ts n t = kept_headed_word v z h K xs ts t
kept_at_headed s z h K xs ts n t = kept_bare_head s z h K xs ts n t

kept_where_turn : (o : Turn) (s : Terminal) (z : Spot) (h : Heading) (K : List Frame) (xs : ItemsRead) (ts us : Text) → is_end s ≡ false → HeadedText K xs h ts →
    Y.HasTurn a_where o (lexemes us) (lexemes us ++ record { terminal = s; at = z.at } ∷ []) → HasSome (Mc.where_turn o s z.marks z.at h K xs) ((ts ++ us) ++ tok s z ∷ [])
kept_where_turn (Yt.Goes y) s z h K xs ts us n t x =
    has_moved (has_where h y K xs ts (us ++ tok s z ∷ []) t (subst (Y.Has a_where y.point y.stack) (lexemes_more us (tok s z)) x)) (sym (append_assoc ts us (tok s z ∷ [])))
kept_where_turn (Yt.Variables d) s z h K xs ts us n t x =
    subst (λ e. HasSome (Mc.end_head s z.marks z.at h (M.vars_form e) K xs) ((ts ++ us) ++ tok s z ∷ [])) (sym x.1) (kept_end_head s z h (vars_as_read x.0) K xs ts us n t (Gr.some_where x.0 us x.2))
kept_where_turn (Yt.Type d) s z h K xs ts us n t x = tt
kept_where_turn Yt.Wrong s z h K xs ts us n t x = tt

pub kept_where : (s : Terminal) (z : Spot) (h : Heading) (y : TypeState) (K : List Frame) (xs : ItemsRead) (ts us : Text) → is_end s ≡ false → HeadedText K xs h ts →
    Y.Has a_where y.point y.stack (lexemes us) → HasSome (Mc.where_turn (Ym.step_at s z.at y.point y.stack) s z.marks z.at h K xs) ((ts ++ us) ++ tok s z ∷ [])
kept_where s z h y K xs ts us n t x = kept_where_turn (Ym.step_at s z.at y.point y.stack) s z h K xs ts us n t (Y.kept a_where s z.at y.point y.stack (lexemes us) x)
