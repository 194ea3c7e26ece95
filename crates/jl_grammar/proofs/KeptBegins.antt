-- An operand begins: the token belongs to the text of the next state.
use Rattle.std.proofs.Common.{ℕ, Bool, true, false, ◌&&◌, length, codes, bytes_eq, List, [], ◌∷◌, ◌++◌, ◌≡◌, Option, Some, None, refl, sym, ap, subst, ◌∙◌}
use Rattle.std.proofs.lemmas.List.{append_assoc, append-nil}
use Rattle.jl_token.specs.declared.token.Operator.{Operator}
use Rattle.jl_token.specs.declared.token.Operator.TheVariants as op
use Rattle.jl_typeread.proofs.Kept.{Goal as TypeGoal, a_type, a_where, a_header}
use Rattle.jl_typeread.proofs.Kept as Y
use Rattle.jl_typeread.specs.declared.terminal.Terminal.{Terminal}
use Rattle.jl_typeread.specs.declared.terminal.Terminal.TheVariants as sg
use Rattle.jl_typeread.specs.declared.terminal.Word.{Word}
use Rattle.jl_typeread.specs.declared.terminal.Word.TheVariants as wd
use Rattle.jl_grammar.specs.declared.mark.Ahead.{Ahead}
use Rattle.jl_grammar.specs.declared.mark.Ahead.TheVariants as Ah
use Rattle.jl_grammar.specs.declared.mark.Opening.{Opening}
use Rattle.jl_grammar.specs.declared.mark.Opening.TheVariants as Op
use Rattle.jl_grammar.specs.declared.state.BlockKind.TheVariants as Bl
use Rattle.jl_grammar.specs.declared.state.Due.TheVariants as Du
use Rattle.jl_grammar.specs.declared.state.Frame.{Frame}
use Rattle.jl_grammar.specs.declared.state.Frame.TheVariants as Fr
use Rattle.jl_grammar.specs.declared.state.Goal.TheVariants as Go
use Rattle.jl_grammar.specs.declared.state.ItemsRead.{ItemsRead}
use Rattle.jl_grammar.specs.declared.state.Left.{Left}
use Rattle.jl_grammar.specs.declared.state.Levels.{Levels}
use Rattle.jl_grammar.specs.declared.state.Pending.{Pending}
use Rattle.jl_grammar.specs.declared.state.Point.TheVariants as Po
use Rattle.jl_grammar.specs.declared.state.PrefixAt.{PrefixAt}
use Rattle.jl_grammar.specs.declared.state.Purpose.TheVariants as Pu
use Rattle.jl_grammar.specs.declared.tree.Prefix.{Prefix}
use Rattle.jl_grammar.specs.declared.tree.Prefix.TheVariants as Pr
use Rattle.jl_grammar.specs.Forms as M
use Rattle.jl_grammar.specs.Grammar.{PrefixOperator, ComparisonOperator, SumOperator, TermOperator, CalleeText, ParamText, ParamsText, ParensText, WhereText, HeadText, place, Atom, Brackets, Arguments, PieceText, Pieces, Post, Unary, Term, Sum, Comparison, Conjunction, Disjunction, Expression, Branches, Statement, Block, StmtsBefore, StmtsAfter, LongMethod, ShortMethod, Evaluated, EvalBlock, EvalsBefore, EvalsAfter, ParentText, TypeParamsText, HeaderText, FieldText, FieldsBefore, FieldsAfter, FieldsText, ItemText, ItemsBefore, ItemsAfter, ScriptText}
use Rattle.jl_grammar.specs.Grammar as Gr
use Rattle.jl_grammar.specs.Levels.{no_pending, with_levels, levels_after_prefix, no_left, no_prefix, is_comparison_start}
use Rattle.jl_grammar.specs.Turns as Tu
use Rattle.jl_grammar.specs.Turns.{at, is_return_allowed}
use Rattle.jl_grammar.specs.Texts.{Text, Spot, tok, opr, wrd, nam, lexemes, is_plain, is_left_type, IsPrint}
use Rattle.jl_grammar.proofs.Standing.{Choice, Starts, PrefixesText, no_prefixes, one_prefix, TermPart, no_term, a_term, SumPart, no_sum, a_sum, ComparisonPart, no_comparison, a_comparison, TopText, LevelsText, levels_text, first_test, choice_in, return_in, Opened, in_paren, in_test, in_block, Led, begin_kind}
use Rattle.jl_grammar.proofs.Points.{called_name, for_call, left_type, made_type, makes, goal_left, goal_make, spawn_dot, latest_dot, delete_dot, fetch_open, print_open, quote_open, Has, has_entry, has_want, has_first_paren, has_due, has_after_eval, has_named, has_type, HasSome}
use Rattle.jl_grammar.proofs.Closing.{bare_levels}
use Rattle.jl_grammar.proofs.KeptBlocks.{has_moved, has_atom, led_fresh, has_no_pending}
use Rattle.jl_grammar.proofs.KeptCloses.{some_moved}
use Rattle.std.proofs.Math.Dec.{eqb-suc-zero}
use Rattle.jl_grammar.proofs.KeptFollows.{top_same}
use Rattle.std.proofs.lemmas.Slice.Eq.{bytes_eq-Decides}
use Rattle.jl_typeread.specs.declared.state.TypeSoFar.TheVariants.{Plain}
use Rattle.jl_typeread.specs.declared.state.Frame.TheVariants as Yf
use Rattle.jl_typeread.specs.declared.state.Point.TheVariants as Yp

-- ---- a type begins where a comparison may

sub_marked : (b : Bool) (a : Ahead) → is_left_type b a ≡ true → (b ≡ true) × (a ≡ Ah.Sub)
sub_marked true Ah.Sub h = (refl, refl)
sub_marked true Ah.Nothing h = absurd cc
sub_marked true Ah.Method h = absurd cc
sub_marked false a h = absurd cc

none_left : (b : Bool) (l : Option Left) → (no_left l && b) ≡ true → (l ≡ None) × (b ≡ true)
none_left b None h = (refl, h)
none_left b (Some l) h = absurd cc

no_sum_text : (r b : Bool) (l : Option Left) (us : Text) → SumPart r b l us → l ≡ None → us ≡ []
no_sum_text _ _ _ _ (no_sum r b) h = refl
no_sum_text _ _ _ _ (a_sum r b x i e p ts s c) h = absurd cc

no_term_text : (r b : Bool) (l : Option Left) (us : Text) → TermPart r b l us → l ≡ None → us ≡ []
no_term_text _ _ _ _ (no_term r b) h = refl
no_term_text _ _ _ _ (a_term r b x i e p ts s c) h = absurd cc

no_comparison_text : (r : Bool) (l : Option Left) (us : Text) → ComparisonPart r l us → l ≡ None → us ≡ []
no_comparison_text _ _ _ (no_comparison r) h = refl
no_comparison_text _ _ _ (a_comparison r x i e p ts s c) h = absurd cc

no_prefix_text : (ps : List PrefixAt) (us : Text) → PrefixesText ps us → no_prefix ps ≡ true → us ≡ []
no_prefix_text _ _ no_prefixes h = refl
no_prefix_text _ _ (one_prefix x u p ps ts s q) h = let clash : false ≡ true = sym (eqb-suc-zero (length ps)) ∙ h in absurd cc

all_gone : (hs cs ss ms ps : Text) → cs ≡ [] → ss ≡ [] → ms ≡ [] → ps ≡ [] → hs ≡ hs ++ (cs ++ (ss ++ (ms ++ ps)))
all_gone hs cs ss ms ps a b c d =
    sym (append-nil hs) ∙ ap (λ z. hs ++ z) (sym d) ∙ ap (λ z. hs ++ (z ++ ps)) (sym c) ∙ ap (λ z. hs ++ (z ++ (ms ++ ps))) (sym b) ∙ ap (λ z. hs ++ (z ++ (ss ++ (ms ++ ps)))) (sym a)

-- where a comparison begins nothing stands behind `||` and `&&`
pub leading_text : (r : Bool) (ls : Levels) (us : Text) → LevelsText r ls us → is_comparison_start ls ≡ true → TopText r ls us
leading_text _ _ _ (levels_text r ls hs cs ss ms ps t c s m f) h =
    let x = none_left (no_left ls.sum && (no_left ls.term && no_prefix ls.prefixes)) ls.comparison h in
    let y = none_left (no_left ls.term && no_prefix ls.prefixes) ls.sum x.1 in
    let z = none_left (no_prefix ls.prefixes) ls.term y.1 in
    subst (TopText r ls) (all_gone hs cs ss ms ps (no_comparison_text r ls.comparison cs c x.0) (no_sum_text r (no_left ls.comparison) ls.sum ss s y.0)
    (no_term_text r (no_left ls.comparison && no_left ls.sum) ls.term ms m z.0) (no_prefix_text ls.prefixes ps f z.1)) t

name_type : (n : List ℕ) (q : Spot) → Y.Has a_type (Yp.Have (Plain q.at n)) [] (lexemes (nam n q ∷ []))
name_type n q = Y.has_have a_type [] [] (lexemes (nam n q ∷ [])) (Plain q.at n) Y.bottom (Y.a_name q.at n)

paren_type : (q : Spot) → Y.Has a_type Yp.Want (Yf.Paren q.at ∷ []) (lexemes (opr op.OpenParen q ∷ []))
paren_type q = Y.has_want a_type (Yf.Paren q.at ∷ []) (lexemes (opr op.OpenParen q ∷ [])) (Y.in_paren a_type [] [] q.at Y.bottom)

-- ---- a name

kept_begin_opening : (x : Opening) (n : List ℕ) (q : Spot) (p : Pending) (K : List Frame) (xs : ItemsRead) (d : Choice) (ts us : Text) → q.marks.opening ≡ x → is_left_type (is_comparison_start p.levels) q.marks.ahead ≡ false →
    Led K xs p.lead p.outer p.returns d ts → LevelsText p.returns p.levels us → Starts d (us ++ nam n q ∷ []) → HasSome (Tu.begin_opening x n q.at p K xs) ((ts ++ us) ++ nam n q ∷ [])
kept_begin_opening Op.Plain n q p K xs d ts us h b l ls s = has_atom p (M.name q.at n) K xs d ts us (nam n q ∷ []) l ls s (Gr.name p.returns (is_comparison_start p.levels) n q (ap is_plain h) b)
kept_begin_opening Op.Binding n q p K xs d ts us h b l ls s = has_atom p (M.name q.at n) K xs d ts us (nam n q ∷ []) l ls s (Gr.name p.returns (is_comparison_start p.levels) n q (ap is_plain h) b)
kept_begin_opening Op.Call n q p K xs d ts us h b l ls s =
    has_named (Pu.Call p q.at) (called_name (is_comparison_start p.levels) q.at d us) n q K xs (ts ++ us) (for_call p q.at K xs d ts us l ls) (h, b, refl, s)
kept_begin_opening Op.Make n q p K xs d ts us h b l ls s =
    has_type (Go.Make p q.at) (made_type (is_comparison_start p.levels) q.at d us) (record { point = Yp.Have (Plain q.at n); stack = [] }) K xs (ts ++ us) (nam n q ∷ []) (goal_make p q.at K xs d ts us l ls)
    (makes (is_comparison_start p.levels) n q [] h b, s) (name_type n q)
kept_begin_opening Op.Latest n q p K xs d ts us h b l ls s = has_due p q.at Du.LatestDot K xs d ts us (nam n q ∷ []) l ls s (latest_dot (is_comparison_start p.levels) n q h b)
kept_begin_opening Op.Delete n q p K xs d ts us h b l ls s = has_due p q.at Du.DeleteDot K xs d ts us (nam n q ∷ []) l ls s (delete_dot (is_comparison_start p.levels) n q h b)
kept_begin_opening Op.Spawn n q p K xs d ts us h b l ls s = has_due p q.at Du.SpawnDot K xs d ts us (nam n q ∷ []) l ls s (spawn_dot (is_comparison_start p.levels) n q h b)
kept_begin_opening Op.Quote n q p K xs d ts us h b l ls s = has_due p q.at Du.QuoteOpen K xs d ts us (nam n q ∷ []) l ls s (quote_open (is_comparison_start p.levels) n q h b)
kept_begin_opening Op.Fetch n q p K xs d ts us h b l ls s = has_due p q.at Du.FetchOpen K xs d ts us (nam n q ∷ []) l ls s (fetch_open (is_comparison_start p.levels) n q h b)
kept_begin_opening Op.Print n q p K xs d ts us h b l ls s =
    has_due p q.at (Du.PrintOpen false) K xs d ts us (nam n q ∷ []) l ls s (print_open (is_comparison_start p.levels) false n q (subst (λ z. IsPrint z false) (sym h) tt) b)
kept_begin_opening Op.Println n q p K xs d ts us h b l ls s =
    has_due p q.at (Du.PrintOpen true) K xs d ts us (nam n q ∷ []) l ls s (print_open (is_comparison_start p.levels) true n q (subst (λ z. IsPrint z true) (sym h) tt) b)

kept_begin_name : (b : Bool) (n : List ℕ) (q : Spot) (p : Pending) (K : List Frame) (xs : ItemsRead) (d : Choice) (ts us : Text) → is_left_type (is_comparison_start p.levels) q.marks.ahead ≡ b →
    Led K xs p.lead p.outer p.returns d ts → LevelsText p.returns p.levels us → Starts d (us ++ nam n q ∷ []) → HasSome (Tu.begin_name b q.marks.opening n q.at p K xs) ((ts ++ us) ++ nam n q ∷ [])
kept_begin_name true n q p K xs d ts us h l ls s = let sub = sub_marked (is_comparison_start p.levels) q.marks.ahead h in
    has_type (Go.Left p q.at) (left_type q.at d us) (record { point = Yp.Have (Plain q.at n); stack = [] }) K xs (ts ++ us) (nam n q ∷ [])
    (goal_left p q.at K xs d ts us l (leading_text p.returns p.levels us ls sub.0)) (sub.1, refl, s) (name_type n q)
kept_begin_name false n q p K xs d ts us h l ls s = kept_begin_opening q.marks.opening n q p K xs d ts us refl h l ls s

-- ---- other tokens

kept_begin_paren : (b : Bool) (q : Spot) (p : Pending) (K : List Frame) (xs : ItemsRead) (d : Choice) (ts us : Text) → is_left_type (is_comparison_start p.levels) q.marks.ahead ≡ b →
    Led K xs p.lead p.outer p.returns d ts → LevelsText p.returns p.levels us → Starts d (us ++ opr op.OpenParen q ∷ []) →
    HasSome (Tu.begin_paren b q.at p K xs) ((ts ++ us) ++ opr op.OpenParen q ∷ [])
kept_begin_paren true q p K xs d ts us h l ls s = let sub = sub_marked (is_comparison_start p.levels) q.marks.ahead h in
    has_type (Go.Left p q.at) (left_type q.at d us) (record { point = Yp.Want; stack = Yf.Paren q.at ∷ [] }) K xs (ts ++ us) (opr op.OpenParen q ∷ [])
    (goal_left p q.at K xs d ts us l (leading_text p.returns p.levels us ls sub.0)) (sub.1, refl, s) (paren_type q)
kept_begin_paren false q p K xs d ts us h l ls s =
    has_first_paren p q.at K xs ((ts ++ us) ++ opr op.OpenParen q ∷ []) (in_paren p q K xs d ts us l ls s h)

kept_begin_prefix : (x : Operator) (u : Prefix) (q : Spot) (p : Pending) (K : List Frame) (xs : ItemsRead) (d : Choice) (ts us : Text) → PrefixOperator x u →
    Led K xs p.lead p.outer p.returns d ts → LevelsText p.returns p.levels us → Starts d (us ++ opr x q ∷ []) → HasSome (Tu.begin_prefix q.at u p K xs) ((ts ++ us) ++ opr x q ∷ [])
kept_begin_prefix x u q p K xs d ts _ terminal l (levels_text _ _ hs cs ss ms ps t c s m f) st =
    has_moved (has_want (with_levels (levels_after_prefix (record { at = q.at; prefix = u }) p.levels) p) K xs d ts (hs ++ (cs ++ (ss ++ (ms ++ (ps ++ opr x q ∷ []))))) l
    (levels_text p.returns (levels_after_prefix (record { at = q.at; prefix = u }) p.levels) hs cs ss ms (ps ++ opr x q ∷ []) (top_same t refl refl) c s m (one_prefix x u q p.levels.prefixes ps terminal f))
    (subst (Starts d) (simp append_assoc refl) st)) (simp append_assoc refl)

pub kept_begin_operator : (x : Operator) (q : Spot) (p : Pending) (K : List Frame) (xs : ItemsRead) (d : Choice) (ts us : Text) → Led K xs p.lead p.outer p.returns d ts →
    LevelsText p.returns p.levels us → Starts d (us ++ opr x q ∷ []) → HasSome (Tu.begin_operator x q.marks.ahead q.at p K xs) ((ts ++ us) ++ opr x q ∷ [])
kept_begin_operator op.OpenParen q p K xs d ts us l ls s = kept_begin_paren (is_left_type (is_comparison_start p.levels) q.marks.ahead) q p K xs d ts us refl l ls s
kept_begin_operator op.Minus q p K xs d ts us l ls s = kept_begin_prefix op.Minus Pr.Minus q p K xs d ts us Gr.minus_prefix l ls s
kept_begin_operator op.Not q p K xs d ts us l ls s = kept_begin_prefix op.Not Pr.Not q p K xs d ts us Gr.not_prefix l ls s
kept_begin_operator _ q p K xs d ts us l ls s = tt

pub kept_begin_word : (v : Word) (q : Spot) (p : Pending) (K : List Frame) (xs : ItemsRead) (d : Choice) (ts us : Text) → Led K xs p.lead p.outer p.returns d ts →
    LevelsText p.returns p.levels us → Starts d (us ++ wrd v q ∷ []) → HasSome (Tu.begin_word v q.at p K xs) ((ts ++ us) ++ wrd v q ∷ [])
kept_begin_word wd.True q p K xs d ts us l ls s = has_atom p (M.truth q.at true) K xs d ts us (wrd wd.True q ∷ []) l ls s (Gr.truth_true p.returns (is_comparison_start p.levels) q)
kept_begin_word wd.False q p K xs d ts us l ls s = has_atom p (M.truth q.at false) K xs d ts us (wrd wd.False q ∷ []) l ls s (Gr.truth_false p.returns (is_comparison_start p.levels) q)
kept_begin_word wd.Nothing q p K xs d ts us l ls s = has_atom p (M.nothing q.at) K xs d ts us (wrd wd.Nothing q ∷ []) l ls s (Gr.nothing p.returns (is_comparison_start p.levels) q)
kept_begin_word wd.If q p K xs d ts us l ls s =
    has_no_pending (Fr.Test p q.at M.no_branches q.at ∷ K) xs ((ts ++ us) ++ wrd wd.If q ∷ []) tt (in_test p q.at M.no_branches q.at K xs d ts us (wrd wd.If q ∷ []) l ls s (first_test p.returns q))
kept_begin_word wd.Begin q p K xs d ts us l ls s =
    has_moved (has_entry (Fr.Block (Bl.Begin p q.at) M.no_forms ∷ K) xs (((ts ++ us) ++ wrd wd.Begin q ∷ []) ++ []) tt
    (in_block (Bl.Begin p q.at) M.no_forms K xs ((ts ++ us) ++ wrd wd.Begin q ∷ []) [] (begin_kind p q K xs d ts us l ls s) (Gr.no_stmts p.returns)))
    (append-nil ((ts ++ us) ++ wrd wd.Begin q ∷ []))
kept_begin_word _ q p K xs d ts us l ls s = tt

kept_begin_macro : (b : Bool) (n : List ℕ) (q : Spot) (p : Pending) (K : List Frame) (xs : ItemsRead) (d : Choice) (ts us : Text) → bytes_eq n (codes "eval") ≡ b →
    Led K xs p.lead p.outer p.returns d ts → LevelsText p.returns p.levels us → Starts d (us ++ tok (sg.Macro n) q ∷ []) →
    HasSome (Tu.begin_macro b q.at p K xs) ((ts ++ us) ++ tok (sg.Macro n) q ∷ [])
kept_begin_macro false n q p K xs d ts us h l ls s = tt
kept_begin_macro true n q p K xs d ts us h l ls s = let same = (bytes_eq-Decides n (codes "eval")).0 h in
    subst (λ z. Has (Po.AfterEval p q.at) K xs ((ts ++ us) ++ tok (sg.Macro z) q ∷ [])) (sym same)
    (has_after_eval p q K xs d ts us l ls (subst (λ z. Starts d (us ++ tok (sg.Macro z) q ∷ [])) same s))

pub kept_begin_operand : (s : Terminal) (q : Spot) (p : Pending) (K : List Frame) (xs : ItemsRead) (d : Choice) (ts us : Text) → Led K xs p.lead p.outer p.returns d ts →
    LevelsText p.returns p.levels us → Starts d (us ++ tok s q ∷ []) → HasSome (Tu.begin_operand s q.marks q.at p K xs) ((ts ++ us) ++ tok s q ∷ [])
kept_begin_operand (sg.Name n) q p K xs d ts us l ls s = kept_begin_name (is_left_type (is_comparison_start p.levels) q.marks.ahead) n q p K xs d ts us refl l ls s
kept_begin_operand (sg.Number n) q p K xs d ts us l ls s = has_atom p (M.number q.at n) K xs d ts us (tok (sg.Number n) q ∷ []) l ls s (Gr.number p.returns (is_comparison_start p.levels) n q)
kept_begin_operand (sg.Word v) q p K xs d ts us l ls s = kept_begin_word v q p K xs d ts us l ls s
kept_begin_operand (sg.Operator x) q p K xs d ts us l ls s = kept_begin_operator x q p K xs d ts us l ls s
kept_begin_operand (sg.Macro n) q p K xs d ts us l ls s = kept_begin_macro (bytes_eq n (codes "eval")) n q p K xs d ts us refl l ls s
kept_begin_operand _ q p K xs d ts us l ls s = tt

-- a form begins in the innermost frame, with how it is led
pub kept_no_pending : (s : Terminal) (q : Spot) (K : List Frame) (xs : ItemsRead) (ts : Text) → Opened K xs ts → Starts (choice_in K) (tok s q ∷ []) →
    HasSome (Tu.begin_operand s q.marks q.at (no_pending (return_in K)) K xs) (ts ++ tok s q ∷ [])
kept_no_pending s q K xs ts o st =
    some_moved (Tu.begin_operand s q.marks q.at (no_pending (return_in K)) K xs) ((ts ++ []) ++ tok s q ∷ []) (ts ++ tok s q ∷ [])
    (kept_begin_operand s q (no_pending (return_in K)) K xs (choice_in K) ts [] (led_fresh K xs ts o) (bare_levels (return_in K)) st) (ap (λ z. z ++ tok s q ∷ []) (append-nil ts))
