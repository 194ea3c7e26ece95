-- Expressions, level by level: that each is read, rule by rule, where its parts are.
use Rattle.std.proofs.Common.{ℕ, ℤ, Bool, true, false, List, [], ◌∷◌, ◌++◌, ◌≡◌, inl, inr, Some, None, refl, sym, ap, ◌∙◌}
use Rattle.std.specs.Prelude.{pos, int_le}
use Rattle.jl_token.specs.declared.token.Operator.{Operator}
use Rattle.jl_token.specs.declared.token.Operator.TheVariants as o
use Rattle.jl_typeread.specs.declared.terminal.Terminal.{Terminal}
use Rattle.jl_typeread.specs.declared.terminal.Terminal.TheVariants as S
use Rattle.jl_typeread.specs.declared.terminal.Word.TheVariants as w
use Rattle.jl_typeread.specs.declared.tree.TypeText.{TypeText}
use Rattle.jl_grammar.specs.declared.mark.Ahead.{Ahead}
use Rattle.jl_grammar.specs.declared.mark.Ahead.TheVariants as A
use Rattle.jl_grammar.specs.declared.mark.Marks.{Marks}
use Rattle.jl_grammar.specs.declared.state.Form.{Form}
use Rattle.jl_grammar.specs.declared.state.Frame.{Frame}
use Rattle.jl_grammar.specs.declared.state.Frame.TheVariants.{Then}
use Rattle.jl_grammar.specs.declared.state.Goal.TheVariants as G
use Rattle.jl_grammar.specs.declared.state.ItemsRead.{ItemsRead}
use Rattle.jl_grammar.specs.declared.state.Lead.TheVariants as L
use Rattle.jl_grammar.specs.declared.state.Outer.TheVariants as X
use Rattle.jl_grammar.specs.declared.state.Pending.{Pending}
use Rattle.jl_grammar.specs.declared.state.Point.TheVariants as P
use Rattle.jl_grammar.specs.declared.state.PrefixAt.{PrefixAt}
use Rattle.jl_grammar.specs.declared.tree.Expr.{Expr}
use Rattle.jl_grammar.specs.declared.tree.Infix.{Infix}
use Rattle.jl_grammar.specs.declared.tree.Infix.TheVariants as I
use Rattle.jl_grammar.specs.declared.tree.Prefix.{Prefix}
use Rattle.jl_grammar.specs.Forms as M
use Rattle.jl_grammar.specs.Grammar as GR
use Rattle.jl_grammar.specs.Levels as LV
use Rattle.jl_grammar.specs.Levels.{no_levels, pending_after, no_pending, push_outer, with_levels, is_comparison_start}
use Rattle.jl_grammar.specs.Machine.{step, step_by, step_all}
use Rattle.jl_grammar.specs.Texts as TX
use Rattle.jl_grammar.specs.Texts.{Text, Spot, tok, opr, wrd, nam, name_in, Sep, lexemes, is_left_type}
use Rattle.jl_grammar.specs.Turns as TU
use Rattle.jl_grammar.specs.Turns.{at, type_start}
use Rattle.jl_grammar.specs.Types.{type_as_read, IsType}
use Rattle.jl_grammar.proofs.Reading.{step_all_append, step_all_then_more, read_type, Alike, alike_step_all}
use Rattle.jl_grammar.proofs.Chains.{termed, summed, compared, joined, ends_weaker, ends_termed, ends_summed, ends_compared, ends_joined, closing_ends, joined_compared, compared_summed, summed_termed, compared_stops, levels, before, operand, is_comparison_start_prefix, is_comparison_start_term, is_comparison_start_sum, prefix_token_after_operand, term_token_after_operand, sum_token_after_operand, one_token_after_operand, levels_token_after_comparison, and_follows, or_follows, expression_token_after_expr, operand_token_after_expr}
use Rattle.jl_grammar.proofs.AreRead.{AtomRead, UnaryRead, TermRead, SumRead, ComparisonRead, ConjunctionRead, DisjunctionRead, ExpressionRead}

-- ---- chains and prefixes

pub field_read : (r b : Bool) (e : Form Expr) (n : List ℕ) (p q : Spot) (ts : Text) → AtomRead r false b e ts → AtomRead r false b (M.field e (name_in n q)) (ts ++ opr o.Dot p ∷ nam n q ∷ [])
field_read r b e n p q ts i z h ld K xs = step_all_append ts (opr o.Dot p ∷ nam n q ∷ []) (at (P.Want z) K xs) ∙ ap (step_all (opr o.Dot p ∷ nam n q ∷ [])) (i z h ld K xs)

pub part_read : (r b : Bool) (e : Form Expr) (n : ℤ) (p q s : Spot) (ts : Text) → int_le (pos 1) n ≡ true → AtomRead r false b e ts →
    AtomRead r false b (M.part e n) (ts ++ opr o.OpenBracket p ∷ tok (S.Number n) q ∷ opr o.CloseBracket s ∷ [])
part_read r b e n p q s ts is i z h ld K xs =
    step_all_append ts (opr o.OpenBracket p ∷ tok (S.Number n) q ∷ opr o.CloseBracket s ∷ []) (at (P.Want z) K xs)
    ∙ ap (step_all (opr o.OpenBracket p ∷ tok (S.Number n) q ∷ opr o.CloseBracket s ∷ [])) (i z h ld K xs)
    ∙ ap (λ x. step (opr o.CloseBracket s) (TU.push_index x n z e K xs)) is

pub post_read : (r k b : Bool) (e : Form Expr) (ts : Text) → AtomRead r k b e ts → UnaryRead r k b e ts
post_read r false b e ts i z h ld K xs t c = step_all_append ts (t ∷ []) (at (P.Want z) K xs) ∙ ap (step t) (i z h ld K xs)
post_read r true b e ts i z h ld K xs t c = i z h ld K xs t c ∙ sym (operand_token_after_expr t.lexeme.terminal t.lexeme.at z e K xs c)

prefix_begins : (x : Operator) (u : Prefix) → GR.PrefixOperator x u → (q : Spot) (p : Pending) (K : List Frame) (xs : ItemsRead) → step (opr x q) (at (P.Want p) K xs) ≡ TU.begin_prefix q.at u p K xs
prefix_begins _ _ GR.minus_prefix q p K xs = refl
prefix_begins _ _ GR.not_prefix q p K xs = refl

pub prefix_read : (r k b : Bool) (x : Operator) (u : Prefix) (e : Form Expr) (p : Spot) (ts : Text) → GR.PrefixOperator x u → UnaryRead r k false e ts →
    UnaryRead r k b (M.prefix_expr (record { at = p.at; prefix = u }) e) (opr x p ∷ ts)
prefix_read r k b x u e p ts is i z h ld K xs t c =
    let v : PrefixAt = record { at = p.at; prefix = u } in
    ap (step_all (ts ++ t ∷ [])) (prefix_begins x u is p z K xs)
    ∙ i (with_levels (LV.levels_after_prefix v z.levels) z) h (is_comparison_start_prefix v z.levels) K xs t c
    ∙ prefix_token_after_operand t.lexeme.terminal t.lexeme.at v z e K xs (ends_termed k t.lexeme.terminal c)

-- ---- terms and sums

pub unary_read : (r k b : Bool) (e : Form Expr) (ts : Text) → UnaryRead r k b e ts → TermRead r k b e ts
unary_read r k b e ts i l os v x y c d h ld K xs t n = i (before l os (levels x y c d None []) v) h ld K xs t n

term_goes : (x : Operator) (i : Infix) → GR.TermOperator x i → (b : ℕ) (p : Pending) (e : Form Expr) (K : List Frame) (xs : ItemsRead) → TU.token_after_operand (S.Operator x) b p e K xs ≡ TU.push_term i p e K xs
term_goes _ _ GR.times b p e K xs = refl
term_goes _ _ GR.divide b p e K xs = refl
term_goes _ _ GR.remainder b p e K xs = refl

term_ends : (x : Operator) (i : Infix) → GR.TermOperator x i → termed (S.Operator x) ≡ true
term_ends _ _ GR.times = refl
term_ends _ _ GR.divide = refl
term_ends _ _ GR.remainder = refl

pub term_read : (r k b : Bool) (x : Operator) (i : Infix) (e d : Form Expr) (p : Spot) (ts us : Text) → GR.TermOperator x i → TermRead r false b e ts → UnaryRead r k false d us →
    TermRead r k b (M.infix_expr e i d) (ts ++ opr x p ∷ us)
term_read r k b x i e d p ts us is f g l os v y z c a h ld K xs t n =
    let q : Pending = before l os (levels y z c a None []) v in
    step_all_then_more ts (opr x p) us (t ∷ []) (at (P.Want q) K xs)
    ∙ ap (step_all (us ++ t ∷ [])) (f l os v y z c a h ld K xs (opr x p) (term_ends x i is) ∙ term_goes x i is p.at q e K xs)
    ∙ g (with_levels (LV.levels_after_term i q.levels e) q) h (is_comparison_start_term i q.levels e) K xs t n
    ∙ term_token_after_operand t.lexeme.terminal t.lexeme.at l os v y z c a e i d K xs (ends_termed k t.lexeme.terminal n)

pub one_term_read : (r k b : Bool) (e : Form Expr) (ts : Text) → TermRead r k b e ts → SumRead r k b e ts
one_term_read r k b e ts i l os v x y c h ld K xs t n = i l os v x y c None h ld K xs t (ends_weaker k summed termed t.lexeme.terminal (summed_termed t.lexeme.terminal) n)

sum_goes : (x : Operator) (i : Infix) → GR.SumOperator x i → (b : ℕ) (p : Pending) (e : Form Expr) (K : List Frame) (xs : ItemsRead) → TU.token_after_operand (S.Operator x) b p e K xs ≡ TU.push_sum i p e K xs
sum_goes _ _ GR.plus b p e K xs = refl
sum_goes _ _ GR.minus b p e K xs = refl

sum_ends : (x : Operator) (i : Infix) → GR.SumOperator x i → summed (S.Operator x) ≡ true
sum_ends _ _ GR.plus = refl
sum_ends _ _ GR.minus = refl

pub sum_read : (r k b : Bool) (x : Operator) (i : Infix) (e d : Form Expr) (p : Spot) (ts us : Text) → GR.SumOperator x i → SumRead r false b e ts → TermRead r k false d us →
    SumRead r k b (M.infix_expr e i d) (ts ++ opr x p ∷ us)
sum_read r k b x i e d p ts us is f g l os v y z c h ld K xs t n =
    let q : Pending = before l os (levels y z c None None []) v in
    step_all_then_more ts (opr x p) us (t ∷ []) (at (P.Want q) K xs)
    ∙ ap (step_all (us ++ t ∷ [])) (f l os v y z c h ld K xs (opr x p) (sum_ends x i is) ∙ sum_goes x i is p.at q e K xs)
    ∙ g l os v y z c (operand e i) h (is_comparison_start_sum i q.levels e) K xs t (ends_weaker k summed termed t.lexeme.terminal (summed_termed t.lexeme.terminal) n)
    ∙ sum_token_after_operand t.lexeme.terminal t.lexeme.at l os v y z c e i d K xs (ends_summed k t.lexeme.terminal n)

-- ---- comparisons

pub one_sum_read : (r k : Bool) (e : Form Expr) (ts : Text) → SumRead r k true e ts → ComparisonRead r k e ts
one_sum_read r k e ts i l os v x y h K xs t n =
    i l os v x y None h refl K xs t (ends_weaker k compared summed t.lexeme.terminal (compared_summed t.lexeme.terminal) n)
    ∙ one_token_after_operand t.lexeme.terminal t.lexeme.at (before l os (levels x y None None None []) v) e K xs (ends_compared k t.lexeme.terminal n)

comparison_goes : (x : Operator) (i : Infix) → GR.ComparisonOperator x i → (b : ℕ) (p : Pending) (e : Form Expr) (K : List Frame) (xs : ItemsRead) → TU.token_after_operand (S.Operator x) b p e K xs ≡ TU.push_first_comparison (TU.has_no_comparison p.levels) i p e K xs
comparison_goes _ _ GR.equal b p e K xs = refl
comparison_goes _ _ GR.not_equal b p e K xs = refl
comparison_goes _ _ GR.less b p e K xs = refl
comparison_goes _ _ GR.less_equal b p e K xs = refl
comparison_goes _ _ GR.greater b p e K xs = refl
comparison_goes _ _ GR.greater_equal b p e K xs = refl
comparison_goes _ _ GR.identical b p e K xs = refl
comparison_goes _ _ GR.not_identical b p e K xs = refl

comparison_ends : (x : Operator) (i : Infix) → GR.ComparisonOperator x i → summed (S.Operator x) ≡ true
comparison_ends _ _ GR.equal = refl
comparison_ends _ _ GR.not_equal = refl
comparison_ends _ _ GR.less = refl
comparison_ends _ _ GR.less_equal = refl
comparison_ends _ _ GR.greater = refl
comparison_ends _ _ GR.greater_equal = refl
comparison_ends _ _ GR.identical = refl
comparison_ends _ _ GR.not_identical = refl

pub compare_read : (r k : Bool) (x : Operator) (i : Infix) (e d : Form Expr) (p : Spot) (ts us : Text) → GR.ComparisonOperator x i → SumRead r false true e ts → SumRead r k false d us →
    ComparisonRead r k (M.infix_expr e i d) (ts ++ opr x p ∷ us)
compare_read r k x i e d p ts us is f g l os v y z h K xs t n =
    let q : Pending = before l os (levels y z None None None []) v in
    let s : Pending = before l os (levels y z (operand e i) None None []) v in
    step_all_then_more ts (opr x p) us (t ∷ []) (at (P.Want q) K xs)
    ∙ ap (step_all (us ++ t ∷ [])) (f l os v y z None h refl K xs (opr x p) (comparison_ends x i is) ∙ comparison_goes x i is p.at q e K xs)
    ∙ g l os v y z (operand e i) h refl K xs t (ends_weaker k compared summed t.lexeme.terminal (compared_summed t.lexeme.terminal) n)
    ∙ one_token_after_operand t.lexeme.terminal t.lexeme.at s d K xs (ends_compared k t.lexeme.terminal n)
    ∙ levels_token_after_comparison t.lexeme.terminal t.lexeme.at l os v y z (operand e i) (M.infix_expr e i d) K xs

pub isa_expr_read : (r : Bool) (e : Form Expr) (t : TypeText) (p : Spot) (ts us : Text) → SumRead r false true e ts → IsType t us → ComparisonRead r false (M.isa_expr e (type_as_read t)) (ts ++ wrd w.Isa p ∷ us)
isa_expr_read r e c p ts us i d l os v x y h K xs t n =
    let q : Pending = before l os (levels x y None None None []) v in
    step_all_then_more ts (wrd w.Isa p) us (t ∷ []) (at (P.Want q) K xs)
    ∙ ap (step_all (us ++ t ∷ [])) (i l os v x y None h refl K xs (wrd w.Isa p) refl)
    ∙ read_type c us d (G.Isa q e) K xs t (compared_stops t.lexeme.terminal n)

-- the left type of `S <: T`, where a comparison begins
left_begins : (p : Pending) (x : Ahead) → is_comparison_start p.levels ≡ true → x ≡ A.Sub → is_left_type (is_comparison_start p.levels) x ≡ true
left_begins p x h e = ap (λ b. is_left_type b x) h ∙ ap TX.is_sub e

left_alike : (s : Terminal) (m : Marks) (a : ℕ) (p : Pending) (K : List Frame) (xs : ItemsRead) → is_left_type (is_comparison_start p.levels) m.ahead ≡ true →
    Alike (step_by s m a (P.Want p) K xs) (step_by s m a (P.Type (G.Left p a) type_start) K xs)
left_alike (S.Name n) m a p K xs h = inl (ap (λ c. TU.begin_name c m.opening n a p K xs) h)
left_alike (S.Operator o.OpenParen) m a p K xs h = inl (ap (λ c. TU.begin_paren c a p K xs) h)
left_alike s m a p K xs h = inr refl

left_read : (t : TypeText) (ts : Text) → IsType t ts → TX.IsSubStart ts → (p : Pending) → is_comparison_start p.levels ≡ true → (K : List Frame) (xs : ItemsRead) (q : Spot) →
    step_all (ts ++ opr o.Subtype q ∷ []) (at (P.Want p) K xs) ≡ at (P.Type (G.Right p (GR.place ts) (type_as_read t)) type_start) K xs
left_read t [] d is p h K xs q = absurd is
left_read t (u ∷ us) d is p h K xs q =
    alike_step_all (us ++ opr o.Subtype q ∷ []) (step u (at (P.Want p) K xs)) (step u (at (P.Type (G.Left p u.lexeme.at) type_start) K xs))
    (left_alike u.lexeme.terminal u.marks u.lexeme.at p K xs (left_begins p u.marks.ahead h is)) _
    (read_type t (u ∷ us) d (G.Left p u.lexeme.at) K xs (opr o.Subtype q) refl)

pub sub_expr_read : (r : Bool) (s t : TypeText) (p : Spot) (ts us : Text) → TX.IsSubStart ts → IsType s ts → IsType t us →
    ComparisonRead r false (M.sub_expr (GR.place ts) (type_as_read s) (type_as_read t)) (ts ++ opr o.Subtype p ∷ us)
sub_expr_read r s c p ts us is d e l os v x y h K xs t n =
    let q : Pending = before l os (levels x y None None None []) v in
    step_all_then_more ts (opr o.Subtype p) us (t ∷ []) (at (P.Want q) K xs)
    ∙ ap (step_all (us ++ t ∷ [])) (left_read s ts d is q refl K xs p)
    ∙ read_type c us e (G.Right q (GR.place ts) (type_as_read s)) K xs t (compared_stops t.lexeme.terminal n)

-- ---- conjunctions, disjunctions, conditionals

pub one_comparison_read : (r k : Bool) (e : Form Expr) (ts : Text) → ComparisonRead r k e ts → ConjunctionRead r k e ts
one_comparison_read r k e ts i l os v x h K xs t n = i l os v x None h K xs t n

pub both_read : (r k : Bool) (e d : Form Expr) (p : Spot) (ts us : Text) → ConjunctionRead r false e ts → ComparisonRead r k d us → ConjunctionRead r k (M.infix_expr e I.And d) (ts ++ opr o.And p ∷ us)
both_read r k e d p ts us f g l os v x h K xs t n =
    step_all_then_more ts (opr o.And p) us (t ∷ []) (at (P.Want (before l os (levels x None None None None []) v)) K xs)
    ∙ ap (step_all (us ++ t ∷ [])) (f l os v x h K xs (opr o.And p) refl)
    ∙ g l os v x (Some e) h K xs t n
    ∙ and_follows t.lexeme.terminal t.lexeme.at l os v x e d K xs

pub one_conjunction_read : (r k : Bool) (e : Form Expr) (ts : Text) → ConjunctionRead r k e ts → DisjunctionRead r k e ts
one_conjunction_read r k e ts i l os v h K xs t n = i l os v None h K xs t (ends_weaker k joined compared t.lexeme.terminal (joined_compared t.lexeme.terminal) n)

pub either_read : (r k : Bool) (e d : Form Expr) (p : Spot) (ts us : Text) → DisjunctionRead r false e ts → ConjunctionRead r k d us → DisjunctionRead r k (M.infix_expr e I.Or d) (ts ++ opr o.Or p ∷ us)
either_read r k e d p ts us f g l os v h K xs t n =
    step_all_then_more ts (opr o.Or p) us (t ∷ []) (at (P.Want (before l os no_levels v)) K xs)
    ∙ ap (step_all (us ++ t ∷ [])) (f l os v h K xs (opr o.Or p) refl)
    ∙ g l os v (Some e) h K xs t (ends_weaker k joined compared t.lexeme.terminal (joined_compared t.lexeme.terminal) n)
    ∙ or_follows t.lexeme.terminal t.lexeme.at l os v e d K xs (ends_joined k t.lexeme.terminal n)

pub one_disjunction_read : (r k : Bool) (e : Form Expr) (ts : Text) → DisjunctionRead r k e ts → ExpressionRead r e ts
one_disjunction_read r k e ts i l os v h K xs t n =
    i l os v h K xs t (closing_ends k t.lexeme.terminal n) ∙ expression_token_after_expr t.lexeme.terminal t.lexeme.at (before l os no_levels v) e K xs n

pub choice_read : (r : Bool) (c a b : Form Expr) (p q : Spot) (ts us vs : Text) → DisjunctionRead r false c ts → ExpressionRead r a us → ExpressionRead r b vs →
    ExpressionRead r (M.choose_expr c a b) ((ts ++ opr o.Question p ∷ us) ++ opr o.Colon q ∷ vs)
choice_read r c a b p q ts us vs f g i l os v h K xs t n =
    let z : Pending = before l os no_levels v in
    step_all_then_more (ts ++ opr o.Question p ∷ us) (opr o.Colon q) vs (t ∷ []) (at (P.Want z) K xs)
    ∙ ap (step_all (vs ++ t ∷ [])) (
    step_all_then_more ts (opr o.Question p) us (opr o.Colon q ∷ []) (at (P.Want z) K xs)
    ∙ ap (step_all (us ++ opr o.Colon q ∷ [])) (f l os v h K xs (opr o.Question p) refl)
    ∙ g L.Plain [] v h (Then z c ∷ K) xs (opr o.Colon q) refl
    )
    ∙ i l (X.Otherwise c a ∷ os) v h K xs t n
