-- An operand that has ended: the operators behind it.
use Rattle.std.proofs.Common.{Bool, true, false, ◌&&◌, List, [], ◌∷◌, ◌++◌, ◌≡◌, Option, refl, sym, ap, subst, ◌∙◌}
use Rattle.std.proofs.lemmas.List.{append_assoc, append-nil}
use Rattle.jl_token.specs.declared.token.Operator.{Operator}
use Rattle.jl_token.specs.declared.token.Operator.TheVariants as op
use Rattle.jl_typeread.proofs.Kept.{Goal as TypeGoal, a_type, a_where, a_header}
use Rattle.jl_typeread.proofs.Kept as Y
use Rattle.jl_typeread.specs.declared.terminal.Terminal.{Terminal}
use Rattle.jl_typeread.specs.declared.terminal.Terminal.TheVariants as sg
use Rattle.jl_typeread.specs.declared.terminal.Word.{Word}
use Rattle.jl_typeread.specs.declared.terminal.Word.TheVariants as wd
use Rattle.jl_grammar.specs.declared.state.Form.{Form}
use Rattle.jl_grammar.specs.declared.state.Frame.{Frame}
use Rattle.jl_grammar.specs.declared.state.Frame.TheVariants as Fr
use Rattle.jl_grammar.specs.declared.state.Goal.TheVariants as Go
use Rattle.jl_grammar.specs.declared.state.ItemsRead.{ItemsRead}
use Rattle.jl_grammar.specs.declared.state.Left.{Left}
use Rattle.jl_grammar.specs.declared.state.Levels.{Levels}
use Rattle.jl_grammar.specs.declared.state.Pending.{Pending}
use Rattle.jl_grammar.specs.declared.tree.Expr.{Expr}
use Rattle.jl_grammar.specs.declared.tree.Infix.{Infix}
use Rattle.jl_grammar.specs.declared.tree.Infix.TheVariants as In
use Rattle.jl_grammar.specs.Grammar.{PrefixOperator, ComparisonOperator, SumOperator, TermOperator, CalleeText, ParamText, ParamsText, ParensText, WhereText, HeadText, place, Atom, Brackets, Arguments, PieceText, Pieces, Post, Unary, Term, Sum, Comparison, Conjunction, Disjunction, Expression, Branches, Statement, Block, StmtsBefore, StmtsAfter, LongMethod, ShortMethod, Evaluated, EvalBlock, EvalsBefore, EvalsAfter, ParentText, TypeParamsText, HeaderText, FieldText, FieldsBefore, FieldsAfter, FieldsText, ItemText, ItemsBefore, ItemsAfter, ScriptText}
use Rattle.jl_grammar.specs.Grammar as Gr
use Rattle.jl_grammar.specs.Levels.{no_levels, with_levels, as_term, as_sum, as_comparison, as_and, as_or, expression, levels_after_term, levels_after_sum, levels_after_comparison, levels_after_type, levels_after_and, levels_after_or, no_left, no_prefix, is_comparison_start}
use Rattle.jl_grammar.specs.Turns as Tu
use Rattle.jl_grammar.specs.Turns.{at, is_return_allowed}
use Rattle.jl_grammar.specs.Texts.{Text, Spot, tok, opr, wrd, is_end}
use Rattle.jl_grammar.proofs.Standing.{Choice, Starts, no_prefixes, no_term, a_term, no_sum, a_sum, ComparisonPart, no_comparison, a_comparison, AndPart, no_and, an_and, OrPart, an_or, TopText, top_text, LevelsText, levels_text, in_then, Led}
use Rattle.jl_grammar.proofs.Points.{free_type, goal_isa, has_want, has_dot, has_index, has_type, HasSome}
use Rattle.jl_grammar.proofs.Closing.{starts_append, conjunction_text, term_of, sum_of, top_of, and_all, ComparedText, compared_text, ended_of, compared_of}
use Rattle.jl_grammar.proofs.KeptBlocks.{has_moved, has_no_pending}
use Rattle.jl_grammar.proofs.KeptCloses.{kept_operator_after_expr, kept_token_after_expr}

-- ---- a comparison that has ended

pub kept_operator_after_comparison : (x : Operator) (q : Spot) (p : Pending) (e : Form Expr) (K : List Frame) (xs : ItemsRead) (ts : Text) → ComparedText K xs p e ts →
    HasSome (Tu.operator_after_comparison x q.at p e K xs) (ts ++ opr x q ∷ [])
kept_operator_after_comparison op.And q _ _ _ _ _ (compared_text p e K xs d ts _ vs l (top_text _ _ os ns o a) c s) =
    has_moved (has_want (with_levels (levels_after_and p.levels e) p) K xs d ts ((os ++ ((ns ++ vs) ++ opr op.And q ∷ [])) ++ []) l
    (levels_text p.returns (levels_after_and p.levels e) (os ++ ((ns ++ vs) ++ opr op.And q ∷ [])) [] [] [] []
    (top_text p.returns (levels_after_and p.levels e) os ((ns ++ vs) ++ opr op.And q ∷ []) o
    (an_and p.returns (as_and p.levels e) q (ns ++ vs) (conjunction_text p.returns false p.levels.and ns e vs a c)))
    (no_comparison p.returns) (no_sum p.returns true) (no_term p.returns true) no_prefixes)
    (subst (Starts d) (simp (append_assoc, append-nil) refl) (starts_append d ((os ++ ns) ++ vs) (opr op.And q ∷ []) s))) (simp (append_assoc, append-nil) refl)
kept_operator_after_comparison op.Or q _ _ _ _ _ (compared_text p e K xs d ts us vs l t c s) =
    has_moved (has_want (with_levels (levels_after_or p.levels e) p) K xs d ts ((((us ++ vs) ++ opr op.Or q ∷ []) ++ []) ++ []) l
    (levels_text p.returns (levels_after_or p.levels e) (((us ++ vs) ++ opr op.Or q ∷ []) ++ []) [] [] [] []
    (top_text p.returns (levels_after_or p.levels e) ((us ++ vs) ++ opr op.Or q ∷ []) []
    (an_or p.returns (as_or p.levels e) q (us ++ vs) (top_of p.returns false p.levels us e vs t c)) (no_and p.returns))
    (no_comparison p.returns) (no_sum p.returns true) (no_term p.returns true) no_prefixes)
    (subst (Starts d) (simp (append_assoc, append-nil) refl) (starts_append d (us ++ vs) (opr op.Or q ∷ []) s))) (simp (append_assoc, append-nil) refl)
kept_operator_after_comparison op.Question q _ _ _ _ _ (compared_text p e K xs d ts us vs l t c s) =
    has_moved (has_no_pending (Fr.Then (with_levels no_levels p) (as_or p.levels e) ∷ K) xs ((ts ++ (us ++ vs)) ++ opr op.Question q ∷ []) tt
    (in_then (with_levels no_levels p) (as_or p.levels e) q K xs d ts (us ++ vs) l refl s (top_of p.returns false p.levels us e vs t c))) refl
kept_operator_after_comparison x q p e K xs ts c = kept_operator_after_expr x q p.lead (expression p e) K xs ts (ended_of p e K xs ts c)

pub kept_token_after_comparison : (s : Terminal) (q : Spot) (p : Pending) (e : Form Expr) (K : List Frame) (xs : ItemsRead) (ts : Text) → is_end s ≡ false → ComparedText K xs p e ts →
    HasSome (Tu.token_after_comparison s q.at p e K xs) (ts ++ tok s q ∷ [])
kept_token_after_comparison (sg.Operator x) q p e K xs ts n c = kept_operator_after_comparison x q p e K xs ts c
kept_token_after_comparison s q p e K xs ts n c = kept_token_after_expr s q p.lead (expression p e) K xs ts n (ended_of p e K xs ts c)

-- ---- the operators of terms, sums and comparisons

-- `||` and `&&` stay, whatever stands behind them
pub top_same : {r : Bool} {ls ms : Levels} {us : Text} → TopText r ls us → ls.or ≡ ms.or → ls.and ≡ ms.and → TopText r ms us
top_same {r} {ls} {ms} (top_text _ _ os ns o a) x y = top_text r ms os ns (subst (λ z. OrPart r z os) x o) (subst (λ z. AndPart r z ns) y a)

-- the same text, where its parts are cut in another place
behind_same : (ts hs rs xs us vs : Text) → hs ++ rs ≡ us ++ vs → ts ++ (hs ++ ((rs ++ xs) ++ [])) ≡ ((ts ++ us) ++ vs) ++ xs
behind_same ts hs rs xs us vs same =
    let left : ts ++ (hs ++ ((rs ++ xs) ++ [])) ≡ (ts ++ (hs ++ rs)) ++ xs = simp (append_assoc, append-nil) refl in
    let right : (ts ++ (us ++ vs)) ++ xs ≡ ((ts ++ us) ++ vs) ++ xs = simp append_assoc refl in
    left ∙ ap (λ z. (ts ++ z) ++ xs) same ∙ right

isa_same : (ts hs rs xs us vs : Text) → hs ++ rs ≡ us ++ vs → ((ts ++ hs) ++ (rs ++ xs)) ++ [] ≡ ((ts ++ us) ++ vs) ++ xs
isa_same ts hs rs xs us vs same =
    let left : ((ts ++ hs) ++ (rs ++ xs)) ++ [] ≡ (ts ++ (hs ++ rs)) ++ xs = simp (append_assoc, append-nil) refl in
    let right : (ts ++ (us ++ vs)) ++ xs ≡ ((ts ++ us) ++ vs) ++ xs = simp append_assoc refl in
    left ∙ ap (λ z. (ts ++ z) ++ xs) same ∙ right

unary_of : (r : Bool) (ls : Levels) (e : Form Expr) (ws : Text) → Post r false (is_comparison_start ls) e ws → Unary r false (((no_left ls.comparison && no_left ls.sum) && no_left ls.term) && no_prefix ls.prefixes) e ws
unary_of r ls e ws d =
    subst (λ x. Unary r false x e ws) (and_all (no_left ls.comparison) (no_left ls.sum) (no_left ls.term) (no_prefix ls.prefixes)) (Gr.post r false (is_comparison_start ls) e ws d)

pub kept_push_term : (x : Operator) (i : Infix) (q : Spot) (p : Pending) (e : Form Expr) (K : List Frame) (xs : ItemsRead) (d : Choice) (ts us vs : Text) → TermOperator x i →
    Led K xs p.lead p.outer p.returns d ts → LevelsText p.returns p.levels us → Starts d (us ++ vs) → Post p.returns false (is_comparison_start p.levels) e vs →
    HasSome (Tu.push_term i p e K xs) (((ts ++ us) ++ vs) ++ opr x q ∷ [])
kept_push_term x i q p e K xs d ts _ vs terminal l (levels_text _ _ hs cs ss ms ps t c s m f) st a =
    has_moved (has_want (with_levels (levels_after_term i p.levels e) p) K xs d ts (hs ++ (cs ++ (ss ++ (((ms ++ (ps ++ vs)) ++ opr x q ∷ []) ++ [])))) l
    (levels_text p.returns (levels_after_term i p.levels e) hs cs ss ((ms ++ (ps ++ vs)) ++ opr x q ∷ []) [] (top_same t refl refl) c s
    (a_term p.returns (no_left p.levels.comparison && no_left p.levels.sum) x i (as_term p.levels e) q (ms ++ (ps ++ vs)) terminal
    (term_of p.returns false (no_left p.levels.comparison && no_left p.levels.sum) p.levels.term p.levels.prefixes ms ps e vs m f (unary_of p.returns p.levels e vs a))) no_prefixes)
    (subst (Starts d) (simp (append_assoc, append-nil) refl) (starts_append d ((hs ++ (cs ++ (ss ++ (ms ++ ps)))) ++ vs) (opr x q ∷ []) st))) (simp (append_assoc, append-nil) refl)

pub kept_push_sum : (x : Operator) (i : Infix) (q : Spot) (p : Pending) (e : Form Expr) (K : List Frame) (xs : ItemsRead) (d : Choice) (ts us vs : Text) → SumOperator x i →
    Led K xs p.lead p.outer p.returns d ts → LevelsText p.returns p.levels us → Starts d (us ++ vs) → Post p.returns false (is_comparison_start p.levels) e vs →
    HasSome (Tu.push_sum i p e K xs) (((ts ++ us) ++ vs) ++ opr x q ∷ [])
kept_push_sum x i q p e K xs d ts _ vs terminal l (levels_text _ _ hs cs ss ms ps t c s m f) st a =
    has_moved (has_want (with_levels (levels_after_sum i p.levels e) p) K xs d ts (hs ++ (cs ++ (((ss ++ (ms ++ (ps ++ vs))) ++ opr x q ∷ []) ++ []))) l
    (levels_text p.returns (levels_after_sum i p.levels e) hs cs ((ss ++ (ms ++ (ps ++ vs))) ++ opr x q ∷ []) [] [] (top_same t refl refl) c
    (a_sum p.returns (no_left p.levels.comparison) x i (as_sum p.levels e) q (ss ++ (ms ++ (ps ++ vs))) terminal
    (sum_of p.returns false (no_left p.levels.comparison) p.levels.sum p.levels.term p.levels.prefixes ss ms ps e vs s m f (unary_of p.returns p.levels e vs a)))
    (no_term p.returns (no_left p.levels.comparison && false)) no_prefixes)
    (subst (Starts d) (simp (append_assoc, append-nil) refl) (starts_append d ((hs ++ (cs ++ (ss ++ (ms ++ ps)))) ++ vs) (opr x q ∷ []) st))) (simp (append_assoc, append-nil) refl)

-- the sum before the operator of a comparison
pub record SumSplit (r : Bool) (ls : Levels) (e : Form Expr) (us ws : Text) : Type 0 where
  pub top : Text
  pub rest : Text
  pub before : TopText r ls top
  pub whole : Sum r false true e rest
  pub same : top ++ rest ≡ us ++ ws

none_before : (r : Bool) (l : Option Left) (cs : Text) → ComparisonPart r l cs → no_left l ≡ true → cs ≡ []
none_before _ _ _ (no_comparison r) h = refl
none_before _ _ _ (a_comparison r x i e p ts s c) h = absurd cc

regrouped : (hs cs ss ms ps ws : Text) → cs ≡ [] → hs ++ (ss ++ (ms ++ (ps ++ ws))) ≡ (hs ++ (cs ++ (ss ++ (ms ++ ps)))) ++ ws
regrouped hs cs ss ms ps ws h = subst (λ z. hs ++ (ss ++ (ms ++ (ps ++ ws))) ≡ (hs ++ (z ++ (ss ++ (ms ++ ps)))) ++ ws) (sym h) (simp append_assoc refl)

pub sum_split : (r : Bool) (ls : Levels) (us : Text) (e : Form Expr) (ws : Text) → LevelsText r ls us → no_left ls.comparison ≡ true → Post r false (is_comparison_start ls) e ws → SumSplit r ls (as_sum ls e) us ws
sum_split _ _ _ e ws (levels_text r ls hs cs ss ms ps t c s m f) h a = record {
  top = hs;
  rest = ss ++ (ms ++ (ps ++ ws));
  before = t;
  whole = subst (λ z. Sum r false z (as_sum ls e) (ss ++ (ms ++ (ps ++ ws)))) h
      (sum_of r false (no_left ls.comparison) ls.sum ls.term ls.prefixes ss ms ps e ws s m f (unary_of r ls e ws a));
  same = regrouped hs cs ss ms ps ws (none_before r ls.comparison cs c h);
}

kept_push_first_comparison : (b : Bool) (x : Operator) (i : Infix) (q : Spot) (p : Pending) (e : Form Expr) (K : List Frame) (xs : ItemsRead) (d : Choice) (ts us vs : Text) → no_left p.levels.comparison ≡ b →
    ComparisonOperator x i → Led K xs p.lead p.outer p.returns d ts → LevelsText p.returns p.levels us → Starts d (us ++ vs) → Post p.returns false (is_comparison_start p.levels) e vs →
    HasSome (Tu.push_first_comparison b i p e K xs) (((ts ++ us) ++ vs) ++ opr x q ∷ [])
kept_push_first_comparison false x i q p e K xs d ts us vs h terminal l ls st a = tt
kept_push_first_comparison true x i q p e K xs d ts us vs h terminal l ls st a = let z = sum_split p.returns p.levels us e vs ls h a in
    has_moved (has_want (with_levels (levels_after_comparison i p.levels e) p) K xs d ts (z.top ++ ((z.rest ++ opr x q ∷ []) ++ [])) l
    (levels_text p.returns (levels_after_comparison i p.levels e) z.top (z.rest ++ opr x q ∷ []) [] [] [] (top_same z.before refl refl)
    (a_comparison p.returns x i (as_sum p.levels e) q z.rest terminal z.whole) (no_sum p.returns false) (no_term p.returns false) no_prefixes)
    (subst (Starts d) (simp (append_assoc, append-nil) refl) (starts_append d (z.top ++ z.rest) (opr x q ∷ []) (subst (Starts d) (sym z.same) st))))
    (behind_same ts z.top z.rest (opr x q ∷ []) us vs z.same)

kept_push_isa : (b : Bool) (q : Spot) (p : Pending) (e : Form Expr) (K : List Frame) (xs : ItemsRead) (d : Choice) (ts us vs : Text) → no_left p.levels.comparison ≡ b →
    Led K xs p.lead p.outer p.returns d ts → LevelsText p.returns p.levels us → Starts d (us ++ vs) → Post p.returns false (is_comparison_start p.levels) e vs →
    HasSome (Tu.push_isa b p e K xs) (((ts ++ us) ++ vs) ++ wrd wd.Isa q ∷ [])
kept_push_isa false q p e K xs d ts us vs h l ls st a = tt
kept_push_isa true q p e K xs d ts us vs h l ls st a = let z = sum_split p.returns p.levels us e vs ls h a in
    has_moved (has_type (Go.Isa (with_levels (levels_after_type p.levels) p) (as_sum p.levels e)) free_type Tu.type_start K xs ((ts ++ z.top) ++ (z.rest ++ wrd wd.Isa q ∷ [])) []
    (goal_isa (with_levels (levels_after_type p.levels) p) (as_sum p.levels e) q K xs d ts z.top z.rest l (top_same z.before refl refl) (subst (Starts d) (sym z.same) st) z.whole) tt (Y.has_want a_type [] [] Y.bottom))
    (isa_same ts z.top z.rest (wrd wd.Isa q ∷ []) us vs z.same)

-- ---- any token behind an operand

kept_behind : (s : Terminal) (q : Spot) (p : Pending) (e : Form Expr) (K : List Frame) (xs : ItemsRead) (d : Choice) (ts us vs : Text) → is_end s ≡ false →
    Led K xs p.lead p.outer p.returns d ts → LevelsText p.returns p.levels us → Starts d (us ++ vs) → Post p.returns false (is_comparison_start p.levels) e vs →
    HasSome (Tu.token_after_comparison s q.at p (as_comparison p.levels e) K xs) (((ts ++ us) ++ vs) ++ tok s q ∷ [])
kept_behind s q p e K xs d ts us vs n l ls st a = kept_token_after_comparison s q p (as_comparison p.levels e) K xs ((ts ++ us) ++ vs) n (compared_of p e K xs d ts us vs l ls st a)

pub kept_operator_after_operand : (x : Operator) (q : Spot) (p : Pending) (e : Form Expr) (K : List Frame) (xs : ItemsRead) (d : Choice) (ts us vs : Text) →
    Led K xs p.lead p.outer p.returns d ts → LevelsText p.returns p.levels us → Starts d (us ++ vs) → Post p.returns false (is_comparison_start p.levels) e vs →
    HasSome (Tu.operator_after_operand x q.at p e K xs) (((ts ++ us) ++ vs) ++ opr x q ∷ [])
kept_operator_after_operand op.Dot q p e K xs d ts us vs l ls st a = has_moved (has_dot p e q K xs d ts us vs l ls st a) (sym (append_assoc (ts ++ us) vs (opr op.Dot q ∷ [])))
kept_operator_after_operand op.OpenBracket q p e K xs d ts us vs l ls st a = has_moved (has_index p e q K xs d ts us vs l ls st a) (sym (append_assoc (ts ++ us) vs (opr op.OpenBracket q ∷ [])))
kept_operator_after_operand op.Times q p e K xs d ts us vs l ls st a = kept_push_term op.Times In.Times q p e K xs d ts us vs Gr.times l ls st a
kept_operator_after_operand op.Divide q p e K xs d ts us vs l ls st a = kept_push_term op.Divide In.Divide q p e K xs d ts us vs Gr.divide l ls st a
kept_operator_after_operand op.Remainder q p e K xs d ts us vs l ls st a = kept_push_term op.Remainder In.Remainder q p e K xs d ts us vs Gr.remainder l ls st a
kept_operator_after_operand op.Plus q p e K xs d ts us vs l ls st a = kept_push_sum op.Plus In.Plus q p e K xs d ts us vs Gr.plus l ls st a
kept_operator_after_operand op.Minus q p e K xs d ts us vs l ls st a = kept_push_sum op.Minus In.Minus q p e K xs d ts us vs Gr.minus l ls st a
kept_operator_after_operand op.Equal q p e K xs d ts us vs l ls st a = kept_push_first_comparison (no_left p.levels.comparison) op.Equal In.Equal q p e K xs d ts us vs refl Gr.equal l ls st a
kept_operator_after_operand op.NotEqual q p e K xs d ts us vs l ls st a = kept_push_first_comparison (no_left p.levels.comparison) op.NotEqual In.NotEqual q p e K xs d ts us vs refl Gr.not_equal l ls st a
kept_operator_after_operand op.Less q p e K xs d ts us vs l ls st a = kept_push_first_comparison (no_left p.levels.comparison) op.Less In.Less q p e K xs d ts us vs refl Gr.less l ls st a
kept_operator_after_operand op.LessEqual q p e K xs d ts us vs l ls st a = kept_push_first_comparison (no_left p.levels.comparison) op.LessEqual In.LessEqual q p e K xs d ts us vs refl Gr.less_equal l ls st a
kept_operator_after_operand op.Greater q p e K xs d ts us vs l ls st a = kept_push_first_comparison (no_left p.levels.comparison) op.Greater In.Greater q p e K xs d ts us vs refl Gr.greater l ls st a
kept_operator_after_operand op.GreaterEqual q p e K xs d ts us vs l ls st a = kept_push_first_comparison (no_left p.levels.comparison) op.GreaterEqual In.GreaterEqual q p e K xs d ts us vs refl Gr.greater_equal l ls st a
kept_operator_after_operand op.Identical q p e K xs d ts us vs l ls st a = kept_push_first_comparison (no_left p.levels.comparison) op.Identical In.Identical q p e K xs d ts us vs refl Gr.identical l ls st a
kept_operator_after_operand op.NotIdentical q p e K xs d ts us vs l ls st a = kept_push_first_comparison (no_left p.levels.comparison) op.NotIdentical In.NotIdentical q p e K xs d ts us vs refl Gr.not_identical l ls st a
kept_operator_after_operand x q p e K xs d ts us vs l ls st a = kept_behind (sg.Operator x) q p e K xs d ts us vs refl l ls st a

pub kept_word_after_operand : (v : Word) (q : Spot) (p : Pending) (e : Form Expr) (K : List Frame) (xs : ItemsRead) (d : Choice) (ts us vs : Text) →
    Led K xs p.lead p.outer p.returns d ts → LevelsText p.returns p.levels us → Starts d (us ++ vs) → Post p.returns false (is_comparison_start p.levels) e vs →
    HasSome (Tu.word_after_operand v q.at p e K xs) (((ts ++ us) ++ vs) ++ wrd v q ∷ [])
kept_word_after_operand wd.Isa q p e K xs d ts us vs l ls st a = kept_push_isa (no_left p.levels.comparison) q p e K xs d ts us vs refl l ls st a
kept_word_after_operand v q p e K xs d ts us vs l ls st a = kept_behind (sg.Word v) q p e K xs d ts us vs refl l ls st a

pub kept_token_after_operand : (s : Terminal) (q : Spot) (p : Pending) (e : Form Expr) (K : List Frame) (xs : ItemsRead) (d : Choice) (ts us vs : Text) → is_end s ≡ false →
    Led K xs p.lead p.outer p.returns d ts → LevelsText p.returns p.levels us → Starts d (us ++ vs) → Post p.returns false (is_comparison_start p.levels) e vs →
    HasSome (Tu.token_after_operand s q.at p e K xs) (((ts ++ us) ++ vs) ++ tok s q ∷ [])
kept_token_after_operand (sg.Operator x) q p e K xs d ts us vs n l ls st a = kept_operator_after_operand x q p e K xs d ts us vs l ls st a
kept_token_after_operand (sg.Word v) q p e K xs d ts us vs n l ls st a = kept_word_after_operand v q p e K xs d ts us vs l ls st a
kept_token_after_operand s q p e K xs d ts us vs n l ls st a = kept_behind s q p e K xs d ts us vs n l ls st a
