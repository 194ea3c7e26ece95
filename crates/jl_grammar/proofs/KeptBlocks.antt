-- An expression that has ended: the token behind it belongs to the text of the next state.
use Rattle.std.proofs.Common.{ℕ, Bool, true, false, codes, List, [], ◌∷◌, ◌++◌, ◌≡◌, Option, Some, None, refl, sym, subst}
use Rattle.std.proofs.lemmas.List.{append_assoc, append-nil}
use Rattle.jl_token.specs.declared.token.Operator.TheVariants as op
use Rattle.jl_typeread.specs.declared.terminal.Terminal.TheVariants as sg
use Rattle.jl_typeread.specs.declared.terminal.Word.{Word}
use Rattle.jl_typeread.specs.declared.terminal.Word.TheVariants as wd
use Rattle.jl_grammar.specs.declared.mark.Marked.{Marked}
use Rattle.jl_grammar.specs.declared.state.BlockKind.{BlockKind}
use Rattle.jl_grammar.specs.declared.state.BlockKind.TheVariants as Bl
use Rattle.jl_grammar.specs.declared.state.Branched.{Branched}
use Rattle.jl_grammar.specs.declared.state.EvalKind.{EvalKind}
use Rattle.jl_grammar.specs.declared.state.Form.{Form}
use Rattle.jl_grammar.specs.declared.state.Forms.{Forms}
use Rattle.jl_grammar.specs.declared.state.Frame.{Frame}
use Rattle.jl_grammar.specs.declared.state.Frame.TheVariants as Fr
use Rattle.jl_grammar.specs.declared.state.ItemsRead.{ItemsRead}
use Rattle.jl_grammar.specs.declared.state.Lead.{Lead}
use Rattle.jl_grammar.specs.declared.state.Lead.TheVariants as Le
use Rattle.jl_grammar.specs.declared.state.Pending.{Pending}
use Rattle.jl_grammar.specs.declared.state.Point.{Point}
use Rattle.jl_grammar.specs.declared.state.Point.TheVariants as Po
use Rattle.jl_grammar.specs.declared.tree.Eval.{Eval}
use Rattle.jl_grammar.specs.declared.tree.Eval.TheVariants as El
use Rattle.jl_grammar.specs.declared.tree.Expr.{Expr}
use Rattle.jl_grammar.specs.declared.tree.Item.{Item}
use Rattle.jl_grammar.specs.declared.tree.Stmt.{Stmt}
use Rattle.jl_grammar.specs.declared.tree.Stmt.TheVariants as St
use Rattle.jl_grammar.specs.Forms as M
use Rattle.jl_grammar.specs.Grammar.{PrefixOperator, ComparisonOperator, SumOperator, TermOperator, CalleeText, ParamText, ParamsText, ParensText, WhereText, HeadText, place, Atom, Brackets, Arguments, PieceText, Pieces, Post, Unary, Term, Sum, Comparison, Conjunction, Disjunction, Expression, Branches, Statement, Block, StmtsBefore, StmtsAfter, LongMethod, ShortMethod, Evaluated, EvalBlock, EvalsBefore, EvalsAfter, ParentText, TypeParamsText, HeaderText, FieldText, FieldsBefore, FieldsAfter, FieldsText, ItemText, ItemsBefore, ItemsAfter, ScriptText}
use Rattle.jl_grammar.specs.Grammar as Gr
use Rattle.jl_grammar.specs.Levels.{no_pending, is_comparison_start}
use Rattle.jl_grammar.specs.Turns as Tu
use Rattle.jl_grammar.specs.Turns.{at, is_return_allowed}
use Rattle.jl_grammar.specs.Texts.{Text, Spot, tok, opr, wrd, nam, name_in, Sep}
use Rattle.jl_grammar.proofs.Standing.{Choice, any_form, item_form, stmt_form, eval_form, Starts, LevelsText, no_outer, LeadText, lead_plain, lead_bind, lead_return, lead_short, TestText, first_test, next_test, choice_in, return_in, Opened, in_test, in_block, Led, led_text, KindText, begin_kind, branch_kind, else_kind, body_kind, evaluated_kind, EvalText, begin_evaluated, quote_begin}
use Rattle.jl_grammar.proofs.Points.{Has, has_entry, has_want, has_have, has_quoted, has_made_method, HasSome}
use Rattle.jl_grammar.proofs.Closing.{starts_more, bare_levels}

-- the same text in other words
pub has_moved : {q : Point} {K : List Frame} {xs : ItemsRead} {a b : Text} → Has q K xs a → a ≡ b → Has q K xs b
has_moved {q} {K} {xs} h same = subst (Has q K xs) same h

-- an atom behind what stands before an operand
pub has_atom : (p : Pending) (e : Form Expr) (K : List Frame) (xs : ItemsRead) (d : Choice) (ts us vs : Text) → Led K xs p.lead p.outer p.returns d ts → LevelsText p.returns p.levels us →
    Starts d (us ++ vs) → Atom p.returns false (is_comparison_start p.levels) e vs → Has (Po.Have p e) K xs ((ts ++ us) ++ vs)
has_atom p e K xs d ts us vs l ls s a = has_have p e K xs d ts us vs l ls s (Gr.atom p.returns false (is_comparison_start p.levels) e vs a)

-- a form begins in the innermost frame
pub led_fresh : (K : List Frame) (xs : ItemsRead) (ts : Text) → Opened K xs ts → Led K xs Le.Plain [] (return_in K) (choice_in K) ts
led_fresh K xs ts o =
    subst (Led K xs Le.Plain [] (return_in K) (choice_in K)) (append-nil ts)
    (led_text K xs Le.Plain [] (return_in K) (return_in K) (choice_in K) (choice_in K) ts [] [] o (lead_plain (choice_in K) (return_in K)) (no_outer (choice_in K) (return_in K)))

pub has_no_pending : (K : List Frame) (xs : ItemsRead) (ts : Text) → Starts (choice_in K) [] → Opened K xs ts → Has (Po.Want (no_pending (return_in K))) K xs ts
has_no_pending K xs ts s o = has_moved (has_want (no_pending (return_in K)) K xs (choice_in K) ts [] (led_fresh K xs ts o) (bare_levels (return_in K)) s) (append-nil ts)

-- ---- what an expression is, by how its statement began

pub plain_lead : (r : Bool) (l : Lead) (c : Choice) (y : Bool) (e : Form Expr) (us vs : Text) → LeadText any_form r l c y us → Expression y e vs → Expression r e (us ++ vs)
plain_lead _ _ _ _ e _ vs (lead_plain c r) d = d
plain_lead _ _ _ _ e _ vs (lead_bind c r n p q h) d = absurd h
plain_lead _ _ _ _ e _ vs (lead_short c r h p ts g m t) d = absurd g

abbrev pub ItemOf : Option (Form Item) → Text → Type 0
ItemOf None ts = Unit {0}
ItemOf (Some x) ts = ItemText x ts

pub item_text : (l : Lead) (c : Choice) (y : Bool) (e : Form Expr) (us vs : Text) → LeadText item_form false l c y us → Expression y e vs → Starts c vs → ItemOf (Tu.item_of l e) (us ++ vs)
item_text _ _ _ e _ vs (lead_plain c r) d s = Gr.expr_item e vs s d
item_text _ _ _ e _ vs (lead_bind c r n p q h) d s = Gr.bind_item n e p q vs h d
item_text _ _ _ e _ vs (lead_short c r h p ts g m t) d s =
    subst (ItemText (M.method_item (M.short_method h e))) (sym (append_assoc ts (opr op.Assign p ∷ []) vs)) (Gr.short_item (M.short_method h e) (ts ++ opr op.Assign p ∷ vs) (Gr.short h e p ts vs m t d))

abbrev pub StmtsOf : Bool → Option (Forms Stmt) → Text → Type 0
StmtsOf r None ts = Unit {0}
StmtsOf r (Some ss) ts = StmtsAfter r ss ts

pub stmts_text : (r : Bool) (l : Lead) (c : Choice) (y : Bool) (e : Form Expr) (ss : Forms Stmt) (ws us vs : Text) → StmtsBefore r ss ws → LeadText stmt_form r l c y us →
    Expression y e vs → Starts c vs → StmtsOf r (Tu.with_stmt ss l e) (ws ++ (us ++ vs))
stmts_text _ _ _ _ e ss ws _ vs b (lead_plain c r) d s = Gr.stmts_one r ss (St.Do e.tree) e.depth ws vs b (Gr.do_expr r e vs s d)
stmts_text _ _ _ _ e ss ws _ vs b (lead_bind c r n p q h) d s = Gr.stmts_one r ss (St.Bind (name_in n p) e.tree) e.depth ws (nam n p ∷ opr op.Assign q ∷ vs) b (Gr.bind r n e p q vs h d)
stmts_text _ _ _ _ e ss ws _ vs b (lead_return p) d s = Gr.stmts_one true ss (St.Return p.at e.tree) e.depth ws (wrd wd.Return p ∷ vs) b (Gr.return e p vs d)
stmts_text _ _ _ _ e ss ws _ vs b (lead_short c r h p ts g m t) d s = absurd g

abbrev pub EvalsOf : Option (Forms Eval) → Text → Type 0
EvalsOf None ts = Unit {0}
EvalsOf (Some xs) ts = EvalsAfter xs ts

pub evals_text : (l : Lead) (c : Choice) (y : Bool) (e : Form Expr) (xs : Forms Eval) (ws us vs : Text) → EvalsBefore xs ws → LeadText eval_form false l c y us →
    Expression y e vs → Starts c vs → EvalsOf (Tu.with_eval xs l e) (ws ++ (us ++ vs))
evals_text _ _ _ e xs ws _ vs b (lead_plain c r) d s = Gr.evals_one xs (El.Do e.tree) e.depth ws vs b (Gr.evaluated_expr e vs s d)
evals_text _ _ _ e xs ws _ vs b (lead_bind c r n p q h) d s = absurd h
evals_text _ _ _ e xs ws _ vs b (lead_short c r h p ts g m t) d s =
    subst (λ z. EvalsAfter (Tu.with_method xs (M.short_method h e)) (ws ++ z)) (sym (append_assoc ts (opr op.Assign p ∷ []) vs))
    (Gr.evals_one xs (El.Method (M.short_method h e).tree) (M.short_method h e).depth ws (ts ++ opr op.Assign p ∷ vs) b (Gr.evaluated_short (M.short_method h e) (ts ++ opr op.Assign p ∷ vs) (Gr.short h e p ts vs m t d)))

-- ---- the words that end blocks

pub data BranchesAt : Bool → ℕ → Branched → Text → Type 0 where
  branches_at : (r : Bool) (p : Spot) (x : Branched) (ts : Text) → Branches r p x ts → BranchesAt r p.at x ts

pub branches_text : (r : Bool) (a : ℕ) (x : Branched) (b : ℕ) (vs : Text) (e : Form Expr) (ws : Text) (t : Marked) (ss : Forms Stmt) (us : Text) → TestText r a x b vs →
    Expression r e ws → Sep t → Block r ss us → BranchesAt r a (M.with_branch x b e ss) ((vs ++ ws) ++ t ∷ us)
branches_text _ _ _ _ _ e ws t ss us (first_test r p) d s b =
    branches_at r p (M.with_branch M.no_branches p.at e ss) ((wrd wd.If p ∷ ws) ++ t ∷ us) (Gr.first_branch r e ss p t ws us d s b)
branches_text _ _ _ _ _ e ws t ss us (next_test r p q x ts c) d s b =
    subst (BranchesAt r p.at (M.with_branch x q.at e ss)) (simp append_assoc refl)
    (branches_at r p (M.with_branch x q.at e ss) ((ts ++ wrd wd.Elseif q ∷ ws) ++ t ∷ us) (Gr.next_branch r x e ss p q t ts ws us c d s b))

if_ends : (p : Pending) (a : ℕ) (x : Branched) (K : List Frame) (xs : ItemsRead) (d : Choice) (ts us vs : Text) (q : Spot) → Led K xs p.lead p.outer p.returns d ts →
    LevelsText p.returns p.levels us → Starts d (us ++ (vs ++ wrd wd.End q ∷ [])) → BranchesAt p.returns a x vs → Has (Po.Have p (M.if_expr a x)) K xs ((ts ++ us) ++ (vs ++ wrd wd.End q ∷ []))
if_ends p _ _ K xs d ts us _ q l ls s (branches_at _ z x vs c) =
    has_atom p (M.if_expr z.at x) K xs d ts us (vs ++ wrd wd.End q ∷ []) l ls s (Gr.if_end p.returns (is_comparison_start p.levels) z q x vs c)

pub kept_end_block : (k : BlockKind) (ss : Forms Stmt) (K : List Frame) (xs : ItemsRead) (ts us : Text) (q : Spot) → KindText K xs k ts → Block (is_return_allowed k) ss us →
    HasSome (Tu.end_block k ss K xs) ((ts ++ us) ++ wrd wd.End q ∷ [])
kept_end_block _ ss _ _ _ us q (begin_kind p z K xs d ts vs l ls s) b =
    has_moved (has_atom p (M.begin_expr z.at ss) K xs d ts vs ((wrd wd.Begin z ∷ us) ++ wrd wd.End q ∷ []) l ls (starts_more d vs (wrd wd.Begin z ∷ []) (us ++ wrd wd.End q ∷ []) s)
    (Gr.begin_end p.returns (is_comparison_start p.levels) z q ss us b)) (simp append_assoc refl)
kept_end_block _ ss _ _ _ us q (branch_kind p a x c e t K xs d ts vs ws zs l ls s y f sep) b =
    has_moved (if_ends p a (M.with_branch x c e ss) K xs d ts vs ((ws ++ zs) ++ t ∷ us) q l ls
    (subst (Starts d) (simp append_assoc refl) (starts_more d vs ws (zs ++ (t ∷ us ++ wrd wd.End q ∷ [])) s)) (branches_text p.returns a x c ws e zs t ss us y f sep b)) (simp append_assoc refl)
kept_end_block _ ss _ _ _ us q (else_kind p z m x K xs d ts vs ws l ls s c) b =
    has_moved (has_atom p (M.if_else_expr z.at x ss) K xs d ts vs ((ws ++ wrd wd.Else m ∷ us) ++ wrd wd.End q ∷ []) l ls
    (subst (Starts d) (simp append_assoc refl) (starts_more d vs ws (wrd wd.Else m ∷ us ++ wrd wd.End q ∷ []) s))
    (Gr.if_else p.returns (is_comparison_start p.levels) z m q x ss ws us c b)) (simp append_assoc refl)
kept_end_block _ ss _ _ _ us q (body_kind h z K xs ts vs m o t) b =
    has_moved (has_made_method (M.long_method h ss) K xs ts ((wrd wd.Function z ∷ vs ++ us) ++ wrd wd.End q ∷ []) m o (Gr.long h ss z q vs us t b)) (simp append_assoc refl)
kept_end_block _ ss _ _ _ us q (evaluated_kind p h z m K xs d ts vs ws l ls s t) b =
    has_moved (has_atom p (M.eval_method z.at (M.long_method h ss)) K xs d ts vs (tok (sg.Macro (codes "eval")) z ∷ ((wrd wd.Function m ∷ ws ++ us) ++ wrd wd.End q ∷ [])) l ls
    (starts_more d vs (tok (sg.Macro (codes "eval")) z ∷ []) ((wrd wd.Function m ∷ ws ++ us) ++ wrd wd.End q ∷ []) s)
    (Gr.eval_long p.returns (is_comparison_start p.levels) (M.long_method h ss) z ((wrd wd.Function m ∷ ws ++ us) ++ wrd wd.End q ∷ []) (Gr.long h ss m q ws us t b))) (simp append_assoc refl)

-- a test or an `else` behind branches
test_opens : (p : Pending) (a : ℕ) (x : Branched) (K : List Frame) (xs : ItemsRead) (d : Choice) (ts us vs : Text) (q : Spot) → Led K xs p.lead p.outer p.returns d ts →
    LevelsText p.returns p.levels us → Starts d (us ++ (vs ++ wrd wd.Elseif q ∷ [])) → BranchesAt p.returns a x vs →
    Has (Po.Want (no_pending p.returns)) (Fr.Test p a x q.at ∷ K) xs ((ts ++ us) ++ (vs ++ wrd wd.Elseif q ∷ []))
test_opens p _ _ K xs d ts us _ q l ls s (branches_at _ z x vs c) =
    has_no_pending (Fr.Test p z.at x q.at ∷ K) xs ((ts ++ us) ++ (vs ++ wrd wd.Elseif q ∷ [])) tt
    (in_test p z.at x q.at K xs d ts us (vs ++ wrd wd.Elseif q ∷ []) l ls s (next_test p.returns z q x vs c))

else_opens : (p : Pending) (a : ℕ) (x : Branched) (K : List Frame) (xs : ItemsRead) (d : Choice) (ts us vs : Text) (q : Spot) → Led K xs p.lead p.outer p.returns d ts →
    LevelsText p.returns p.levels us → Starts d (us ++ vs) → BranchesAt p.returns a x vs →
    Has Po.Entry (Fr.Block (Bl.Else p a x) M.no_forms ∷ K) xs ((ts ++ us) ++ (vs ++ wrd wd.Else q ∷ []))
else_opens p _ _ K xs d ts us _ q l ls s (branches_at _ z x vs c) =
    has_moved (has_entry (Fr.Block (Bl.Else p z.at x) M.no_forms ∷ K) xs (((ts ++ us) ++ (vs ++ wrd wd.Else q ∷ [])) ++ []) tt
    (in_block (Bl.Else p z.at x) M.no_forms K xs ((ts ++ us) ++ (vs ++ wrd wd.Else q ∷ [])) [] (else_kind p z q x K xs d ts us vs l ls s c) (Gr.no_stmts p.returns)))
    (append-nil ((ts ++ us) ++ (vs ++ wrd wd.Else q ∷ [])))

pub kept_block_elseif : (k : BlockKind) (ss : Forms Stmt) (K : List Frame) (xs : ItemsRead) (ts us : Text) (q : Spot) → KindText K xs k ts → Block (is_return_allowed k) ss us →
    HasSome (Tu.block_elseif q.at k ss K xs) ((ts ++ us) ++ wrd wd.Elseif q ∷ [])
kept_block_elseif _ ss _ _ _ us q (branch_kind p a x c e t K xs d ts vs ws zs l ls s y f sep) b =
    has_moved (test_opens p a (M.with_branch x c e ss) K xs d ts vs ((ws ++ zs) ++ t ∷ us) q l ls
    (subst (Starts d) (simp append_assoc refl) (starts_more d vs ws (zs ++ (t ∷ us ++ wrd wd.Elseif q ∷ [])) s)) (branches_text p.returns a x c ws e zs t ss us y f sep b)) (simp append_assoc refl)
kept_block_elseif _ ss _ _ _ us q (begin_kind p z K xs d ts vs l ls s) b = tt
kept_block_elseif _ ss _ _ _ us q (else_kind p z m x K xs d ts vs ws l ls s c) b = tt
kept_block_elseif _ ss _ _ _ us q (body_kind h z K xs ts vs m o t) b = tt
kept_block_elseif _ ss _ _ _ us q (evaluated_kind p h z m K xs d ts vs ws l ls s t) b = tt

pub kept_block_else : (k : BlockKind) (ss : Forms Stmt) (K : List Frame) (xs : ItemsRead) (ts us : Text) (q : Spot) → KindText K xs k ts → Block (is_return_allowed k) ss us →
    HasSome (Tu.block_else k ss K xs) ((ts ++ us) ++ wrd wd.Else q ∷ [])
kept_block_else _ ss _ _ _ us q (branch_kind p a x c e t K xs d ts vs ws zs l ls s y f sep) b =
    has_moved (else_opens p a (M.with_branch x c e ss) K xs d ts vs ((ws ++ zs) ++ t ∷ us) q l ls
    (subst (Starts d) (simp append_assoc refl) (starts_more d vs ws (zs ++ (t ∷ us)) s)) (branches_text p.returns a x c ws e zs t ss us y f sep b)) (simp append_assoc refl)
kept_block_else _ ss _ _ _ us q (begin_kind p z K xs d ts vs l ls s) b = tt
kept_block_else _ ss _ _ _ us q (else_kind p z m x K xs d ts vs ws l ls s c) b = tt
kept_block_else _ ss _ _ _ us q (body_kind h z K xs ts vs m o t) b = tt
kept_block_else _ ss _ _ _ us q (evaluated_kind p h z m K xs d ts vs ws l ls s t) b = tt

pub kept_block_word : (v : Word) (k : BlockKind) (ss : Forms Stmt) (K : List Frame) (xs : ItemsRead) (ts us : Text) (q : Spot) → KindText K xs k ts → Block (is_return_allowed k) ss us →
    HasSome (Tu.block_word v q.at k ss K xs) ((ts ++ us) ++ wrd v q ∷ [])
kept_block_word wd.End k ss K xs ts us q t b = kept_end_block k ss K xs ts us q t b
kept_block_word wd.Elseif k ss K xs ts us q t b = kept_block_elseif k ss K xs ts us q t b
kept_block_word wd.Else k ss K xs ts us q t b = kept_block_else k ss K xs ts us q t b
kept_block_word _ k ss K xs ts us q t b = tt

pub kept_end_evals : (k : EvalKind) (ys : Forms Eval) (K : List Frame) (xs : ItemsRead) (ts us : Text) (q : Spot) → EvalText K xs k ts → EvalBlock ys us →
    HasSome (Tu.end_evals k ys K xs) ((ts ++ us) ++ wrd wd.End q ∷ [])
kept_end_evals _ ys _ _ _ us q (begin_evaluated p z m K xs d ts vs l ls s) b =
    has_moved (has_atom p (M.eval_block z.at ys) K xs d ts vs ((tok (sg.Macro (codes "eval")) z ∷ wrd wd.Begin m ∷ us) ++ wrd wd.End q ∷ []) l ls
    (starts_more d vs (tok (sg.Macro (codes "eval")) z ∷ []) (wrd wd.Begin m ∷ us ++ wrd wd.End q ∷ []) s)
    (Gr.eval_block p.returns (is_comparison_start p.levels) ys z m q us b)) (simp append_assoc refl)
kept_end_evals _ ys _ _ _ us q (quote_begin p n z m v K xs d ts vs l ls s mk le) b =
    has_moved (has_quoted p ys q K xs ((ts ++ vs) ++ (nam n z ∷ opr op.OpenParen m ∷ wrd wd.Quote v ∷ [])) us z.at (quote_begin p n z m v K xs d ts vs l ls s mk le) b) (simp append_assoc refl)

pub kept_evals_word : (v : Word) (k : EvalKind) (ys : Forms Eval) (K : List Frame) (xs : ItemsRead) (ts us : Text) (q : Spot) → EvalText K xs k ts → EvalBlock ys us →
    HasSome (Tu.evals_word v k ys K xs) ((ts ++ us) ++ wrd v q ∷ [])
kept_evals_word wd.End k ys K xs ts us q t b = kept_end_evals k ys K xs ts us q t b
kept_evals_word _ k ys K xs ts us q t b = tt
