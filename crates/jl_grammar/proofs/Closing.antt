-- An operand with the operators before it, and the forms that end with it.
use Rattle.std.proofs.Common.{Bool, true, false, ◌&&◌, length, codes, List, [], ◌∷◌, ◌++◌, ◌≡◌, Option, refl, sym, ap, subst, ◌∙◌}
use Rattle.std.proofs.lemmas.List.{append_assoc}
use Rattle.std.proofs.Math.Dec.{eqb-suc-zero}
use Rattle.jl_token.specs.declared.token.Operator.TheVariants as op
use Rattle.jl_typeread.specs.declared.terminal.Terminal.TheVariants as sg
use Rattle.jl_grammar.specs.declared.state.Form.{Form}
use Rattle.jl_grammar.specs.declared.state.Frame.{Frame}
use Rattle.jl_grammar.specs.declared.state.ItemsRead.{ItemsRead}
use Rattle.jl_grammar.specs.declared.state.Lead.{Lead}
use Rattle.jl_grammar.specs.declared.state.Left.{Left}
use Rattle.jl_grammar.specs.declared.state.Levels.{Levels}
use Rattle.jl_grammar.specs.declared.state.Outer.{Outer}
use Rattle.jl_grammar.specs.declared.state.Outer.TheVariants as Ou
use Rattle.jl_grammar.specs.declared.state.Pending.{Pending}
use Rattle.jl_grammar.specs.declared.state.PrefixAt.{PrefixAt}
use Rattle.jl_grammar.specs.declared.tree.Expr.{Expr}
use Rattle.jl_grammar.specs.declared.tree.Infix.TheVariants as In
use Rattle.jl_grammar.specs.Forms as M
use Rattle.jl_grammar.specs.Grammar.{PrefixOperator, ComparisonOperator, SumOperator, TermOperator, CalleeText, ParamText, ParamsText, ParensText, WhereText, HeadText, place, Atom, Brackets, Arguments, PieceText, Pieces, Post, Unary, Term, Sum, Comparison, Conjunction, Disjunction, Expression, Branches, Statement, Block, StmtsBefore, StmtsAfter, LongMethod, ShortMethod, Evaluated, EvalBlock, EvalsBefore, EvalsAfter, ParentText, TypeParamsText, HeaderText, FieldText, FieldsBefore, FieldsAfter, FieldsText, ItemText, ItemsBefore, ItemsAfter, ScriptText}
use Rattle.jl_grammar.specs.Grammar as Gr
use Rattle.jl_grammar.specs.Levels.{no_levels, with_prefixes, with_left, with_operand, as_sum, as_comparison, as_and, as_or, end_outer, end_all_outer, expression, no_left, no_prefix, is_comparison_start}
use Rattle.jl_grammar.specs.Texts.{Text, tok, opr, nam}
use Rattle.jl_grammar.proofs.Standing.{Choice, any_form, item_form, stmt_form, eval_form, evaluated_form, Starts, PrefixesText, no_prefixes, one_prefix, TermPart, no_term, a_term, SumPart, no_sum, a_sum, ComparisonPart, no_comparison, a_comparison, AndPart, no_and, an_and, OrPart, no_or, an_or, TopText, top_text, LevelsText, levels_text, OutersText, no_outer, in_spawn, in_eval, in_short, in_otherwise, LeadText, choice_in, return_in, Opened, Led, led_text}

pub starts_append : (d : Choice) (ts us : Text) → Starts d ts → Starts d (ts ++ us)
starts_append any_form ts us h = tt
starts_append item_form [] us h = cc
starts_append item_form (t ∷ ts) us h = h
starts_append stmt_form [] us h = cc
starts_append stmt_form (t ∷ ts) us h = h
starts_append eval_form [] us h = cc
starts_append eval_form (t ∷ ts) us h = h
starts_append evaluated_form [] us h = cc
starts_append evaluated_form (t ∷ ts) us h = h

-- more behind a text that begins rightly
pub starts_more : (d : Choice) (us vs ws : Text) → Starts d (us ++ vs) → Starts d (us ++ (vs ++ ws))
starts_more d us vs ws h = subst (Starts d) (append_assoc us vs ws) (starts_append d (us ++ vs) ws h)

and_true : (b : Bool) → (b && true) ≡ b
and_true true = refl
and_true false = refl

and_false : (b : Bool) → (b && false) ≡ false
and_false true = refl
and_false false = refl

and_three : (b c d : Bool) → (b && (c && d)) ≡ ((b && c) && d)
and_three true c d = refl
and_three false c d = refl

pub and_all : (a b c d : Bool) → (a && (b && (c && d))) ≡ (((a && b) && c) && d)
and_all true b c d = and_three b c d
and_all false b c d = refl

some_prefix : (b : Bool) (p : PrefixAt) (ps : List PrefixAt) → (b && no_prefix (p ∷ ps)) ≡ false
some_prefix true p ps = eqb-suc-zero (length ps)
some_prefix false p ps = refl

-- ---- level by level

pub unary_text : (r k b : Bool) (ps : List PrefixAt) (us : Text) (e : Form Expr) (ws : Text) → PrefixesText ps us → Unary r k (b && no_prefix ps) e ws → Unary r k b (with_prefixes ps e) (us ++ ws)
unary_text r k b _ _ e ws no_prefixes d = subst (λ x. Unary r k x e ws) (and_true b) d
unary_text r k b _ _ e ws (one_prefix x u p ps ts s q) d =
    subst (Unary r k b (with_prefixes ps (M.prefix_expr (record { at = p.at; prefix = u }) e))) (sym (append_assoc ts (opr x p ∷ []) ws))
    (unary_text r k b ps ts (M.prefix_expr (record { at = p.at; prefix = u }) e) (opr x p ∷ ws) q
    (Gr.prefix r k (b && no_prefix ps) x u e p ws s (subst (λ y. Unary r k y e ws) (some_prefix b (record { at = p.at; prefix = u }) ps) d)))

pub term_text : (r k b : Bool) (l : Option Left) (us : Text) (e : Form Expr) (ws : Text) → TermPart r b l us → Unary r k (b && no_left l) e ws → Term r k b (with_left l e) (us ++ ws)
term_text _ k _ _ _ e ws (no_term r b) d = Gr.unary r k b e ws (subst (λ x. Unary r k x e ws) (and_true b) d)
term_text _ k _ _ _ e ws (a_term r b x i l p ts s c) d =
    subst (Term r k b (M.infix_expr l i e)) (sym (append_assoc ts (opr x p ∷ []) ws)) (Gr.term r k b x i l e p ts ws s c (subst (λ y. Unary r k y e ws) (and_false b) d))

pub sum_text : (r k b : Bool) (l : Option Left) (us : Text) (e : Form Expr) (ws : Text) → SumPart r b l us → Term r k (b && no_left l) e ws → Sum r k b (with_left l e) (us ++ ws)
sum_text _ k _ _ _ e ws (no_sum r b) d = Gr.one_term r k b e ws (subst (λ x. Term r k x e ws) (and_true b) d)
sum_text _ k _ _ _ e ws (a_sum r b x i l p ts s c) d =
    subst (Sum r k b (M.infix_expr l i e)) (sym (append_assoc ts (opr x p ∷ []) ws)) (Gr.sum r k b x i l e p ts ws s c (subst (λ y. Term r k y e ws) (and_false b) d))

pub comparison_text : (r k : Bool) (l : Option Left) (us : Text) (e : Form Expr) (ws : Text) → ComparisonPart r l us → Sum r k (no_left l) e ws → Comparison r k (with_left l e) (us ++ ws)
comparison_text _ k _ _ e ws (no_comparison r) d = Gr.one_sum r k e ws d
comparison_text _ k _ _ e ws (a_comparison r x i l p ts s c) d =
    subst (Comparison r k (M.infix_expr l i e)) (sym (append_assoc ts (opr x p ∷ []) ws)) (Gr.compare r k x i l e p ts ws s c d)

pub conjunction_text : (r k : Bool) (l : Option (Form Expr)) (us : Text) (e : Form Expr) (ws : Text) → AndPart r l us → Comparison r k e ws → Conjunction r k (with_operand l In.And e) (us ++ ws)
conjunction_text _ k _ _ e ws (no_and r) d = Gr.one_comparison r k e ws d
conjunction_text _ k _ _ e ws (an_and r l p ts c) d = subst (Conjunction r k (M.infix_expr l In.And e)) (sym (append_assoc ts (opr op.And p ∷ []) ws)) (Gr.both r k l e p ts ws c d)

pub disjunction_text : (r k : Bool) (l : Option (Form Expr)) (us : Text) (e : Form Expr) (ws : Text) → OrPart r l us → Conjunction r k e ws → Disjunction r k (with_operand l In.Or e) (us ++ ws)
disjunction_text _ k _ _ e ws (no_or r) d = Gr.one_conjunction r k e ws d
disjunction_text _ k _ _ e ws (an_or r l p ts c) d = subst (Disjunction r k (M.infix_expr l In.Or e)) (sym (append_assoc ts (opr op.Or p ∷ []) ws)) (Gr.either r k l e p ts ws c d)

-- ---- several levels

pub term_of : (r k b : Bool) (t : Option Left) (ps : List PrefixAt) (ms us : Text) (e : Form Expr) (ws : Text) → TermPart r b t ms → PrefixesText ps us →
    Unary r k ((b && no_left t) && no_prefix ps) e ws → Term r k b (with_left t (with_prefixes ps e)) (ms ++ (us ++ ws))
term_of r k b t ps ms us e ws m p d = term_text r k b t ms (with_prefixes ps e) (us ++ ws) m (unary_text r k (b && no_left t) ps us e ws p d)

pub sum_of : (r k b : Bool) (s t : Option Left) (ps : List PrefixAt) (ss ms us : Text) (e : Form Expr) (ws : Text) → SumPart r b s ss → TermPart r (b && no_left s) t ms → PrefixesText ps us →
    Unary r k (((b && no_left s) && no_left t) && no_prefix ps) e ws → Sum r k b (with_left s (with_left t (with_prefixes ps e))) (ss ++ (ms ++ (us ++ ws)))
sum_of r k b s t ps ss ms us e ws c m p d = sum_text r k b s ss (with_left t (with_prefixes ps e)) (ms ++ (us ++ ws)) c (term_of r k (b && no_left s) t ps ms us e ws m p d)

-- a comparison behind `||` and `&&`
pub top_of : (r k : Bool) (ls : Levels) (us : Text) (e : Form Expr) (ws : Text) → TopText r ls us → Comparison r k e ws → Disjunction r k (as_or ls e) (us ++ ws)
top_of _ k _ _ e ws (top_text r ls os ns o a) d =
    subst (Disjunction r k (as_or ls e)) (sym (append_assoc os ns ws)) (disjunction_text r k ls.or os (as_and ls e) (ns ++ ws) o (conjunction_text r k ls.and ns e ws a d))

-- an operand behind all of them: the comparison, and what stands before it
pub record Split (r k : Bool) (ls : Levels) (e : Form Expr) (us ws : Text) : Type 0 where
  pub top : Text
  pub rest : Text
  pub before : TopText r ls top
  pub whole : Comparison r k e rest
  pub same : top ++ rest ≡ us ++ ws

pub split_of : (r k : Bool) (ls : Levels) (us : Text) (e : Form Expr) (ws : Text) → LevelsText r ls us → Unary r k (is_comparison_start ls) e ws → Split r k ls (as_comparison ls e) us ws
split_of _ k _ _ e ws (levels_text r ls ts cs ss ms ps t c s m p) d = record {
  top = ts;
  rest = cs ++ (ss ++ (ms ++ (ps ++ ws)));
  before = t;
  whole = comparison_text r k ls.comparison cs (as_sum ls e) (ss ++ (ms ++ (ps ++ ws))) c (sum_of r k (no_left ls.comparison) ls.sum ls.term ls.prefixes ss ms ps e ws s m p
      (subst (λ x. Unary r k x e ws) (and_all (no_left ls.comparison) (no_left ls.sum) (no_left ls.term) (no_prefix ls.prefixes)) d));
  same = simp append_assoc refl;
}

pub disjunction_of : (r k : Bool) (ls : Levels) (us : Text) (e : Form Expr) (ws : Text) → LevelsText r ls us → Unary r k (is_comparison_start ls) e ws →
    Disjunction r k (as_or ls (as_comparison ls e)) (us ++ ws)
disjunction_of r k ls us e ws l d = let s = split_of r k ls us e ws l d in
    subst (Disjunction r k (as_or ls (as_comparison ls e))) s.same (top_of r k ls s.top (as_comparison ls e) s.rest s.before s.whole)

pub closed_of : (r k : Bool) (ls : Levels) (us : Text) (e : Form Expr) (ws : Text) → LevelsText r ls us → Atom r k (is_comparison_start ls) e ws → Expression r (as_or ls (as_comparison ls e)) (us ++ ws)
closed_of r k ls us e ws l d =
    Gr.one_disjunction r k (as_or ls (as_comparison ls e)) (us ++ ws) (disjunction_of r k ls us e ws l (Gr.post r k (is_comparison_start ls) e ws (Gr.atom r k (is_comparison_start ls) e ws d)))

-- where nothing stands between `&&` and the operand
pub bare_levels : (r : Bool) → LevelsText r no_levels []
bare_levels r = levels_text r no_levels [] [] [] [] [] (top_text r no_levels [] [] (no_or r) (no_and r)) (no_comparison r) (no_sum r true) (no_term r true) no_prefixes

-- ---- forms that end with the expression

both_moved : (c : Choice) (y : Bool) (e : Form Expr) (a b : Text) → Expression y e a × Starts c a → a ≡ b → Expression y e b × Starts c b
both_moved c y e a b h same = (subst (Expression y e) same h.0, subst (Starts c) same h.1)

pub outers_close : (c d : Choice) (y r : Bool) (os : List Outer) (ts : Text) (e : Form Expr) (ws : Text) → OutersText c y os d r ts → Expression r e ws → Starts d ws →
    Expression y (end_all_outer os e) (ts ++ ws) × Starts c (ts ++ ws)
outers_close _ _ _ _ _ _ e ws (no_outer c y) d s = (d, s)
outers_close _ _ _ _ _ _ e ws (in_spawn c d y r os ls n m p q z ts us o l st mk le) x s =
    both_moved c y (end_all_outer os (end_outer (Ou.Spawn ls p.at) e)) (ts ++ (us ++ (nam n p ∷ opr op.Dot q ∷ tok (sg.Macro m) z ∷ ws))) ((ts ++ (us ++ nam n p ∷ opr op.Dot q ∷ tok (sg.Macro m) z ∷ [])) ++ ws)
    (outers_close c d y r os ts (end_outer (Ou.Spawn ls p.at) e) (us ++ (nam n p ∷ opr op.Dot q ∷ tok (sg.Macro m) z ∷ ws)) o
    (closed_of r true ls us (M.spawn_expr p.at e) (nam n p ∷ opr op.Dot q ∷ tok (sg.Macro m) z ∷ ws) l (Gr.spawn r (is_comparison_start ls) n m e p q z ws mk le x))
    (starts_more d us (nam n p ∷ []) (opr op.Dot q ∷ tok (sg.Macro m) z ∷ ws) st))
    (simp append_assoc refl)
outers_close _ _ _ _ _ _ e ws (in_eval c d y r os ls p ts us o l st) x s =
    both_moved c y (end_all_outer os (end_outer (Ou.Eval ls p.at) e)) (ts ++ (us ++ (tok (sg.Macro (codes "eval")) p ∷ ws))) ((ts ++ (us ++ tok (sg.Macro (codes "eval")) p ∷ [])) ++ ws)
    (outers_close c d y r os ts (end_outer (Ou.Eval ls p.at) e) (us ++ (tok (sg.Macro (codes "eval")) p ∷ ws)) o
    (closed_of r true ls us (M.eval_expr p.at e) (tok (sg.Macro (codes "eval")) p ∷ ws) l (Gr.eval_expr r (is_comparison_start ls) e p ws s x))
    (starts_more d us (tok (sg.Macro (codes "eval")) p ∷ []) ws st))
    (simp append_assoc refl)
outers_close _ _ _ _ _ _ e ws (in_short c d y r os ls h p q ts us vs o l st hm hd) x s =
    both_moved c y (end_all_outer os (end_outer (Ou.Short ls p.at h) e)) (ts ++ (us ++ (tok (sg.Macro (codes "eval")) p ∷ (vs ++ (opr op.Assign q ∷ ws)))))
    ((ts ++ (us ++ (tok (sg.Macro (codes "eval")) p ∷ (vs ++ opr op.Assign q ∷ [])))) ++ ws)
    (outers_close c d y r os ts (end_outer (Ou.Short ls p.at h) e) (us ++ (tok (sg.Macro (codes "eval")) p ∷ (vs ++ (opr op.Assign q ∷ ws)))) o
    (closed_of r true ls us (M.eval_method p.at (M.short_method h e)) (tok (sg.Macro (codes "eval")) p ∷ (vs ++ (opr op.Assign q ∷ ws))) l
    (Gr.eval_short r (is_comparison_start ls) (M.short_method h e) p (vs ++ (opr op.Assign q ∷ ws)) (Gr.short h e q vs ws hm hd x)))
    (starts_more d us (tok (sg.Macro (codes "eval")) p ∷ []) (vs ++ (opr op.Assign q ∷ ws)) st))
    (simp append_assoc refl)
outers_close _ _ _ _ _ _ e ws (in_otherwise c d y r os f a p q ts us vs o l st b) x s =
    both_moved c y (end_all_outer os (M.choose_expr f a e)) (ts ++ ((us ++ (opr op.Question p ∷ vs)) ++ (opr op.Colon q ∷ ws))) ((ts ++ ((us ++ (opr op.Question p ∷ vs)) ++ opr op.Colon q ∷ [])) ++ ws)
    (outers_close c d y r os ts (M.choose_expr f a e) ((us ++ (opr op.Question p ∷ vs)) ++ (opr op.Colon q ∷ ws)) o (Gr.choice r f a e p q us vs ws l b x)
    (starts_append d (us ++ (opr op.Question p ∷ vs)) (opr op.Colon q ∷ ws) (starts_append d us (opr op.Question p ∷ vs) st)))
    (simp append_assoc refl)

-- ---- an expression that has ended, with how its statement began

pub data EndedText : List Frame → ItemsRead → Lead → Form Expr → Text → Type 0 where
  ended_text : (K : List Frame) (xs : ItemsRead) (l : Lead) (e : Form Expr) (y : Bool) (c : Choice) (ts us vs : Text) → Opened K xs ts → LeadText (choice_in K) (return_in K) l c y us →
      Expression y e vs → Starts c vs → EndedText K xs l e (ts ++ (us ++ vs))

pub ended_by : (K : List Frame) (xs : ItemsRead) (l : Lead) (os : List Outer) (r : Bool) (d : Choice) (ts : Text) (e : Form Expr) (ws : Text) → Led K xs l os r d ts → Expression r e ws → Starts d ws →
    EndedText K xs l (end_all_outer os e) (ts ++ ws)
ended_by _ _ _ _ _ _ _ e ws (led_text K xs l os y r c d ts us vs o lt ot) x s = let both = outers_close c d y r os vs e ws ot x s in
    subst (EndedText K xs l (end_all_outer os e)) (simp append_assoc refl) (ended_text K xs l (end_all_outer os e) y c ts us (vs ++ ws) o lt both.0 both.1)

-- a comparison that has ended, with what stands before it
pub data ComparedText : List Frame → ItemsRead → Pending → Form Expr → Text → Type 0 where
  compared_text : (p : Pending) (e : Form Expr) (K : List Frame) (xs : ItemsRead) (d : Choice) (ts us vs : Text) → Led K xs p.lead p.outer p.returns d ts → TopText p.returns p.levels us →
      Comparison p.returns false e vs → Starts d (us ++ vs) → ComparedText K xs p e (ts ++ (us ++ vs))

pub ended_of : (p : Pending) (e : Form Expr) (K : List Frame) (xs : ItemsRead) (ts : Text) → ComparedText K xs p e ts → EndedText K xs p.lead (expression p e) ts
ended_of _ _ _ _ _ (compared_text p e K xs d ts us vs l t c s) =
    ended_by K xs p.lead p.outer p.returns d ts (as_or p.levels e) (us ++ vs) l
    (Gr.one_disjunction p.returns false (as_or p.levels e) (us ++ vs) (top_of p.returns false p.levels us e vs t c)) s

pub compared_of : (p : Pending) (e : Form Expr) (K : List Frame) (xs : ItemsRead) (d : Choice) (ts us vs : Text) → Led K xs p.lead p.outer p.returns d ts → LevelsText p.returns p.levels us →
    Starts d (us ++ vs) → Post p.returns false (is_comparison_start p.levels) e vs → ComparedText K xs p (as_comparison p.levels e) ((ts ++ us) ++ vs)
compared_of p e K xs d ts us vs l ls s c = let x = split_of p.returns false p.levels us e vs ls (Gr.post p.returns false (is_comparison_start p.levels) e vs c) in
    subst (ComparedText K xs p (as_comparison p.levels e)) (ap (λ z. ts ++ z) x.same ∙ sym (append_assoc ts us vs))
    (compared_text p (as_comparison p.levels e) K xs d ts x.top x.rest l x.before x.whole (subst (Starts d) (sym x.same) s))
