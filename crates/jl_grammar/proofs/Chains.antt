-- What may follow at each level of an expression, and that a token behind an operand of a level is read as behind the whole.
use Rattle.std.proofs.Common.{ℕ, Bool, true, false, List, [], ◌≡◌, Option, Some, None, refl, ap, ◌∙◌}
use Rattle.std.specs.Prelude.{◌&&◌}
use Rattle.jl_token.specs.declared.token.Operator.TheVariants as o
use Rattle.jl_typeread.specs.declared.terminal.Terminal.{Terminal}
use Rattle.jl_typeread.specs.declared.terminal.Terminal.TheVariants as S
use Rattle.jl_typeread.specs.declared.terminal.Word.TheVariants as w
use Rattle.jl_typeread.specs.Machine as Y
use Rattle.jl_grammar.specs.declared.state.Form.{Form}
use Rattle.jl_grammar.specs.declared.state.Frame.{Frame}
use Rattle.jl_grammar.specs.declared.state.Goal.TheVariants as G
use Rattle.jl_grammar.specs.declared.state.ItemsRead.{ItemsRead}
use Rattle.jl_grammar.specs.declared.state.Lead.{Lead}
use Rattle.jl_grammar.specs.declared.state.Left.{Left}
use Rattle.jl_grammar.specs.declared.state.Levels.{Levels}
use Rattle.jl_grammar.specs.declared.state.Outer.{Outer}
use Rattle.jl_grammar.specs.declared.state.Pending.{Pending}
use Rattle.jl_grammar.specs.declared.state.Point.TheVariants as P
use Rattle.jl_grammar.specs.declared.state.PrefixAt.{PrefixAt}
use Rattle.jl_grammar.specs.declared.tree.Expr.{Expr}
use Rattle.jl_grammar.specs.declared.tree.Infix.{Infix}
use Rattle.jl_grammar.specs.declared.tree.Infix.TheVariants as I
use Rattle.jl_grammar.specs.Forms as M
use Rattle.jl_grammar.specs.Levels as LV
use Rattle.jl_grammar.specs.Levels.{no_levels, pending_after, no_pending, push_outer, with_levels, is_comparison_start}
use Rattle.jl_grammar.specs.Turns as TU
use Rattle.jl_grammar.specs.Turns.{at, type_start}
use Rattle.std.specs.Prelude.{length}
use Rattle.std.proofs.Math.Dec.{eqb-suc-zero}

-- ---- which tokens end a form of each level

-- a unary
abbrev pub termed : Terminal → Bool
termed (S.Operator o.Dot) = false
termed (S.Operator o.OpenBracket) = false
termed (S.Operator o.OpenBrace) = false
termed s = true

-- a term
abbrev pub summed : Terminal → Bool
summed (S.Operator o.Times) = false
summed (S.Operator o.Divide) = false
summed (S.Operator o.Remainder) = false
summed s = termed s

-- a comparison, and so a sum
abbrev pub compared : Terminal → Bool
compared (S.Operator o.Plus) = false
compared (S.Operator o.Minus) = false
compared (S.Operator o.Equal) = false
compared (S.Operator o.NotEqual) = false
compared (S.Operator o.Less) = false
compared (S.Operator o.LessEqual) = false
compared (S.Operator o.Greater) = false
compared (S.Operator o.GreaterEqual) = false
compared (S.Operator o.Identical) = false
compared (S.Operator o.NotIdentical) = false
compared (S.Word w.Isa) = false
compared s = summed s

-- a disjunction
abbrev pub joined : Terminal → Bool
joined (S.Operator o.And) = false
joined s = compared s

-- an expression
abbrev pub closing : Terminal → Bool
closing (S.Operator o.Or) = false
closing (S.Operator o.Question) = false
closing s = joined s

pub closing_joined : (s : Terminal) → closing s ≡ true → joined s ≡ true
closing_joined (S.Operator o.Or) h = refl
closing_joined (S.Operator o.Question) h = refl
closing_joined s h = h

pub joined_compared : (s : Terminal) → joined s ≡ true → compared s ≡ true
joined_compared (S.Operator o.And) h = refl
joined_compared s h = h

pub compared_summed : (s : Terminal) → compared s ≡ true → summed s ≡ true
compared_summed (S.Operator o.Plus) h = refl
compared_summed (S.Operator o.Minus) h = refl
compared_summed (S.Operator o.Equal) h = refl
compared_summed (S.Operator o.NotEqual) h = refl
compared_summed (S.Operator o.Less) h = refl
compared_summed (S.Operator o.LessEqual) h = refl
compared_summed (S.Operator o.Greater) h = refl
compared_summed (S.Operator o.GreaterEqual) h = refl
compared_summed (S.Operator o.Identical) h = refl
compared_summed (S.Operator o.NotIdentical) h = refl
compared_summed (S.Word w.Isa) h = refl
compared_summed s h = h

pub summed_termed : (s : Terminal) → summed s ≡ true → termed s ≡ true
summed_termed (S.Operator o.Times) h = refl
summed_termed (S.Operator o.Divide) h = refl
summed_termed (S.Operator o.Remainder) h = refl
summed_termed s h = h

pub compared_stops : (s : Terminal) → compared s ≡ true → Y.is_end_of_type s ≡ true
compared_stops (S.Operator o.OpenBrace) h = h
compared_stops s h = refl

-- a token that ends a form which may end with an expression of its own
abbrev pub Ends : Bool → (Terminal → Bool) → Terminal → Type 0
Ends false f s = f s ≡ true
Ends true f s = closing s ≡ true

pub ends_weaker : (k : Bool) (f g : Terminal → Bool) (s : Terminal) → (f s ≡ true → g s ≡ true) → Ends k f s → Ends k g s
ends_weaker false f g s h e = h e
ends_weaker true f g s h e = e

pub ends_joined : (k : Bool) (s : Terminal) → Ends k joined s → joined s ≡ true
ends_joined false s e = e
ends_joined true s e = closing_joined s e

pub ends_compared : (k : Bool) (s : Terminal) → Ends k compared s → compared s ≡ true
ends_compared false s e = e
ends_compared true s e = joined_compared s (closing_joined s e)

pub ends_summed : (k : Bool) (s : Terminal) → Ends k summed s → summed s ≡ true
ends_summed false s e = e
ends_summed true s e = compared_summed s (joined_compared s (closing_joined s e))

pub ends_termed : (k : Bool) (s : Terminal) → Ends k termed s → termed s ≡ true
ends_termed false s e = e
ends_termed true s e = summed_termed s (compared_summed s (joined_compared s (closing_joined s e)))

pub closing_ends : (k : Bool) (s : Terminal) → closing s ≡ true → Ends k joined s
closing_ends false s e = closing_joined s e
closing_ends true s e = e

-- ---- what stands before an operand

abbrev pub levels : Option (Form Expr) → Option (Form Expr) → Option Left → Option Left → Option Left → List PrefixAt → Levels
levels a b c d e ps = record { or = a; and = b; comparison = c; sum = d; term = e; prefixes = ps }

abbrev pub before : Lead → List Outer → Levels → Bool → Pending
before l os ls v = record { lead = l; outer = os; levels = ls; returns = v }

abbrev pub operand : Form Expr → Infix → Option Left
operand e i = Some (record { left = e; operator = i })

and_false : (b : Bool) → (b && false) ≡ false
and_false true = refl
and_false false = refl

pub is_comparison_start_prefix : (u : PrefixAt) (ls : Levels) → is_comparison_start (LV.levels_after_prefix u ls) ≡ false
is_comparison_start_prefix u ls =
    ap (λ b. LV.no_left ls.comparison && (LV.no_left ls.sum && (LV.no_left ls.term && b))) (eqb-suc-zero (length ls.prefixes))
    ∙ ap (λ b. LV.no_left ls.comparison && (LV.no_left ls.sum && b)) (and_false (LV.no_left ls.term))
    ∙ ap (λ b. LV.no_left ls.comparison && b) (and_false (LV.no_left ls.sum))
    ∙ and_false (LV.no_left ls.comparison)

pub is_comparison_start_term : (i : Infix) (ls : Levels) (e : Form Expr) → is_comparison_start (LV.levels_after_term i ls e) ≡ false
is_comparison_start_term i ls e = ap (λ b. LV.no_left ls.comparison && b) (and_false (LV.no_left ls.sum)) ∙ and_false (LV.no_left ls.comparison)

pub is_comparison_start_sum : (i : Infix) (ls : Levels) (e : Form Expr) → is_comparison_start (LV.levels_after_sum i ls e) ≡ false
is_comparison_start_sum i ls e = and_false (LV.no_left ls.comparison)

-- ---- behind an operand of a level as behind the whole

-- a comparison begins behind two operands alike where it would begin with the same
push_first_comparison_same : (t : Bool) (i : Infix) (p q : Pending) (e d : Form Expr) (K : List Frame) (xs : ItemsRead) →
    at (P.Want (with_levels (LV.levels_after_comparison i p.levels e) p)) K xs ≡ at (P.Want (with_levels (LV.levels_after_comparison i q.levels d) q)) K xs → TU.push_first_comparison t i p e K xs ≡ TU.push_first_comparison t i q d K xs
push_first_comparison_same true i p q e d K xs h = h
push_first_comparison_same false i p q e d K xs h = refl

push_isa_same : (t : Bool) (p q : Pending) (e d : Form Expr) (K : List Frame) (xs : ItemsRead) →
    at (P.Type (G.Isa (with_levels (LV.levels_after_type p.levels) p) (LV.as_sum p.levels e)) type_start) K xs ≡ at (P.Type (G.Isa (with_levels (LV.levels_after_type q.levels) q) (LV.as_sum q.levels d)) type_start) K xs →
    TU.push_isa t p e K xs ≡ TU.push_isa t q d K xs
push_isa_same true p q e d K xs h = h
push_isa_same false p q e d K xs h = refl

pub prefix_token_after_operand : (s : Terminal) (b : ℕ) (u : PrefixAt) (p : Pending) (e : Form Expr) (K : List Frame) (xs : ItemsRead) → termed s ≡ true →
    TU.token_after_operand s b (with_levels (LV.levels_after_prefix u p.levels) p) e K xs ≡ TU.token_after_operand s b p (M.prefix_expr u e) K xs
prefix_token_after_operand (S.Operator o.Dot) b u p e K xs h = cc
prefix_token_after_operand (S.Operator o.OpenBracket) b u p e K xs h = cc
prefix_token_after_operand (S.Operator o.Equal) b u p e K xs h = push_first_comparison_same (LV.no_left p.levels.comparison) I.Equal (with_levels (LV.levels_after_prefix u p.levels) p) (p) e (M.prefix_expr u e) K xs refl
prefix_token_after_operand (S.Operator o.NotEqual) b u p e K xs h = push_first_comparison_same (LV.no_left p.levels.comparison) I.NotEqual (with_levels (LV.levels_after_prefix u p.levels) p) (p) e (M.prefix_expr u e) K xs refl
prefix_token_after_operand (S.Operator o.Less) b u p e K xs h = push_first_comparison_same (LV.no_left p.levels.comparison) I.Less (with_levels (LV.levels_after_prefix u p.levels) p) (p) e (M.prefix_expr u e) K xs refl
prefix_token_after_operand (S.Operator o.LessEqual) b u p e K xs h = push_first_comparison_same (LV.no_left p.levels.comparison) I.LessEqual (with_levels (LV.levels_after_prefix u p.levels) p) (p) e (M.prefix_expr u e) K xs refl
prefix_token_after_operand (S.Operator o.Greater) b u p e K xs h = push_first_comparison_same (LV.no_left p.levels.comparison) I.Greater (with_levels (LV.levels_after_prefix u p.levels) p) (p) e (M.prefix_expr u e) K xs refl
prefix_token_after_operand (S.Operator o.GreaterEqual) b u p e K xs h = push_first_comparison_same (LV.no_left p.levels.comparison) I.GreaterEqual (with_levels (LV.levels_after_prefix u p.levels) p) (p) e (M.prefix_expr u e) K xs refl
prefix_token_after_operand (S.Operator o.Identical) b u p e K xs h = push_first_comparison_same (LV.no_left p.levels.comparison) I.Identical (with_levels (LV.levels_after_prefix u p.levels) p) (p) e (M.prefix_expr u e) K xs refl
prefix_token_after_operand (S.Operator o.NotIdentical) b u p e K xs h = push_first_comparison_same (LV.no_left p.levels.comparison) I.NotIdentical (with_levels (LV.levels_after_prefix u p.levels) p) (p) e (M.prefix_expr u e) K xs refl
prefix_token_after_operand (S.Word w.Isa) b u p e K xs h = push_isa_same (LV.no_left p.levels.comparison) (with_levels (LV.levels_after_prefix u p.levels) p) (p) e (M.prefix_expr u e) K xs refl
prefix_token_after_operand s b u p e K xs h = refl

pub term_token_after_operand : (s : Terminal) (b : ℕ) (l : Lead) (os : List Outer) (v : Bool) (x y : Option (Form Expr)) (c d : Option Left) (e : Form Expr) (i : Infix) (a : Form Expr) (K : List Frame) (xs : ItemsRead) →
    termed s ≡ true → TU.token_after_operand s b (before l os (levels x y c d (operand e i) []) v) a K xs ≡ TU.token_after_operand s b (before l os (levels x y c d None []) v) (M.infix_expr e i a) K xs
term_token_after_operand (S.Operator o.Dot) b l os v x y c d e i a K xs h = cc
term_token_after_operand (S.Operator o.OpenBracket) b l os v x y c d e i a K xs h = cc
term_token_after_operand (S.Operator o.Equal) b l os v x y c d e i a K xs h = push_first_comparison_same (LV.no_left c) I.Equal (before l os (levels x y c d (operand e i) []) v) (before l os (levels x y c d None []) v) a (M.infix_expr e i a) K xs refl
term_token_after_operand (S.Operator o.NotEqual) b l os v x y c d e i a K xs h = push_first_comparison_same (LV.no_left c) I.NotEqual (before l os (levels x y c d (operand e i) []) v) (before l os (levels x y c d None []) v) a (M.infix_expr e i a) K xs refl
term_token_after_operand (S.Operator o.Less) b l os v x y c d e i a K xs h = push_first_comparison_same (LV.no_left c) I.Less (before l os (levels x y c d (operand e i) []) v) (before l os (levels x y c d None []) v) a (M.infix_expr e i a) K xs refl
term_token_after_operand (S.Operator o.LessEqual) b l os v x y c d e i a K xs h = push_first_comparison_same (LV.no_left c) I.LessEqual (before l os (levels x y c d (operand e i) []) v) (before l os (levels x y c d None []) v) a (M.infix_expr e i a) K xs refl
term_token_after_operand (S.Operator o.Greater) b l os v x y c d e i a K xs h = push_first_comparison_same (LV.no_left c) I.Greater (before l os (levels x y c d (operand e i) []) v) (before l os (levels x y c d None []) v) a (M.infix_expr e i a) K xs refl
term_token_after_operand (S.Operator o.GreaterEqual) b l os v x y c d e i a K xs h = push_first_comparison_same (LV.no_left c) I.GreaterEqual (before l os (levels x y c d (operand e i) []) v) (before l os (levels x y c d None []) v) a (M.infix_expr e i a) K xs refl
term_token_after_operand (S.Operator o.Identical) b l os v x y c d e i a K xs h = push_first_comparison_same (LV.no_left c) I.Identical (before l os (levels x y c d (operand e i) []) v) (before l os (levels x y c d None []) v) a (M.infix_expr e i a) K xs refl
term_token_after_operand (S.Operator o.NotIdentical) b l os v x y c d e i a K xs h = push_first_comparison_same (LV.no_left c) I.NotIdentical (before l os (levels x y c d (operand e i) []) v) (before l os (levels x y c d None []) v) a (M.infix_expr e i a) K xs refl
term_token_after_operand (S.Word w.Isa) b l os v x y c d e i a K xs h = push_isa_same (LV.no_left c) (before l os (levels x y c d (operand e i) []) v) (before l os (levels x y c d None []) v) a (M.infix_expr e i a) K xs refl
term_token_after_operand s b l os v x y c d e i a K xs h = refl

pub sum_token_after_operand : (s : Terminal) (b : ℕ) (l : Lead) (os : List Outer) (v : Bool) (x y : Option (Form Expr)) (c : Option Left) (e : Form Expr) (i : Infix) (a : Form Expr) (K : List Frame) (xs : ItemsRead) →
    summed s ≡ true → TU.token_after_operand s b (before l os (levels x y c (operand e i) None []) v) a K xs ≡ TU.token_after_operand s b (before l os (levels x y c None None []) v) (M.infix_expr e i a) K xs
sum_token_after_operand (S.Operator o.Dot) b l os v x y c e i a K xs h = cc
sum_token_after_operand (S.Operator o.OpenBracket) b l os v x y c e i a K xs h = cc
sum_token_after_operand (S.Operator o.Times) b l os v x y c e i a K xs h = cc
sum_token_after_operand (S.Operator o.Divide) b l os v x y c e i a K xs h = cc
sum_token_after_operand (S.Operator o.Remainder) b l os v x y c e i a K xs h = cc
sum_token_after_operand (S.Operator o.Equal) b l os v x y c e i a K xs h = push_first_comparison_same (LV.no_left c) I.Equal (before l os (levels x y c (operand e i) None []) v) (before l os (levels x y c None None []) v) a (M.infix_expr e i a) K xs refl
sum_token_after_operand (S.Operator o.NotEqual) b l os v x y c e i a K xs h = push_first_comparison_same (LV.no_left c) I.NotEqual (before l os (levels x y c (operand e i) None []) v) (before l os (levels x y c None None []) v) a (M.infix_expr e i a) K xs refl
sum_token_after_operand (S.Operator o.Less) b l os v x y c e i a K xs h = push_first_comparison_same (LV.no_left c) I.Less (before l os (levels x y c (operand e i) None []) v) (before l os (levels x y c None None []) v) a (M.infix_expr e i a) K xs refl
sum_token_after_operand (S.Operator o.LessEqual) b l os v x y c e i a K xs h = push_first_comparison_same (LV.no_left c) I.LessEqual (before l os (levels x y c (operand e i) None []) v) (before l os (levels x y c None None []) v) a (M.infix_expr e i a) K xs refl
sum_token_after_operand (S.Operator o.Greater) b l os v x y c e i a K xs h = push_first_comparison_same (LV.no_left c) I.Greater (before l os (levels x y c (operand e i) None []) v) (before l os (levels x y c None None []) v) a (M.infix_expr e i a) K xs refl
sum_token_after_operand (S.Operator o.GreaterEqual) b l os v x y c e i a K xs h = push_first_comparison_same (LV.no_left c) I.GreaterEqual (before l os (levels x y c (operand e i) None []) v) (before l os (levels x y c None None []) v) a (M.infix_expr e i a) K xs refl
sum_token_after_operand (S.Operator o.Identical) b l os v x y c e i a K xs h = push_first_comparison_same (LV.no_left c) I.Identical (before l os (levels x y c (operand e i) None []) v) (before l os (levels x y c None None []) v) a (M.infix_expr e i a) K xs refl
sum_token_after_operand (S.Operator o.NotIdentical) b l os v x y c e i a K xs h = push_first_comparison_same (LV.no_left c) I.NotIdentical (before l os (levels x y c (operand e i) None []) v) (before l os (levels x y c None None []) v) a (M.infix_expr e i a) K xs refl
sum_token_after_operand (S.Word w.Isa) b l os v x y c e i a K xs h = push_isa_same (LV.no_left c) (before l os (levels x y c (operand e i) None []) v) (before l os (levels x y c None None []) v) a (M.infix_expr e i a) K xs refl
sum_token_after_operand s b l os v x y c e i a K xs h = refl

-- a sum as a comparison
pub one_token_after_operand : (s : Terminal) (b : ℕ) (p : Pending) (e : Form Expr) (K : List Frame) (xs : ItemsRead) → compared s ≡ true →
    TU.token_after_operand s b p e K xs ≡ TU.token_after_comparison s b p (LV.as_comparison p.levels e) K xs
one_token_after_operand (S.Operator o.Dot) b p e K xs h = cc
one_token_after_operand (S.Operator o.OpenBracket) b p e K xs h = cc
one_token_after_operand (S.Operator o.Times) b p e K xs h = cc
one_token_after_operand (S.Operator o.Divide) b p e K xs h = cc
one_token_after_operand (S.Operator o.Remainder) b p e K xs h = cc
one_token_after_operand (S.Operator o.Plus) b p e K xs h = cc
one_token_after_operand (S.Operator o.Minus) b p e K xs h = cc
one_token_after_operand (S.Operator o.Equal) b p e K xs h = cc
one_token_after_operand (S.Operator o.NotEqual) b p e K xs h = cc
one_token_after_operand (S.Operator o.Less) b p e K xs h = cc
one_token_after_operand (S.Operator o.LessEqual) b p e K xs h = cc
one_token_after_operand (S.Operator o.Greater) b p e K xs h = cc
one_token_after_operand (S.Operator o.GreaterEqual) b p e K xs h = cc
one_token_after_operand (S.Operator o.Identical) b p e K xs h = cc
one_token_after_operand (S.Operator o.NotIdentical) b p e K xs h = cc
one_token_after_operand (S.Word w.Isa) b p e K xs h = cc
one_token_after_operand s b p e K xs h = refl

-- the levels above a comparison are the same without what stands within it
pub levels_token_after_comparison : (s : Terminal) (b : ℕ) (l : Lead) (os : List Outer) (v : Bool) (x y : Option (Form Expr)) (c : Option Left) (e : Form Expr) (K : List Frame) (xs : ItemsRead) →
    TU.token_after_comparison s b (before l os (levels x y c None None []) v) e K xs ≡ TU.token_after_comparison s b (before l os (levels x y None None None []) v) e K xs
levels_token_after_comparison (S.Operator o.And) b l os v x y c e K xs = refl
levels_token_after_comparison (S.Operator o.Or) b l os v x y c e K xs = refl
levels_token_after_comparison (S.Operator o.Question) b l os v x y c e K xs = refl
levels_token_after_comparison s b l os v x y c e K xs = refl

pub and_follows : (s : Terminal) (b : ℕ) (l : Lead) (os : List Outer) (v : Bool) (x : Option (Form Expr)) (e a : Form Expr) (K : List Frame) (xs : ItemsRead) →
    TU.token_after_comparison s b (before l os (levels x (Some e) None None None []) v) a K xs ≡ TU.token_after_comparison s b (before l os (levels x None None None None []) v) (M.infix_expr e I.And a) K xs
and_follows (S.Operator o.And) b l os v x e a K xs = refl
and_follows (S.Operator o.Or) b l os v x e a K xs = refl
and_follows (S.Operator o.Question) b l os v x e a K xs = refl
and_follows s b l os v x e a K xs = refl

pub or_follows : (s : Terminal) (b : ℕ) (l : Lead) (os : List Outer) (v : Bool) (e a : Form Expr) (K : List Frame) (xs : ItemsRead) → joined s ≡ true →
    TU.token_after_comparison s b (before l os (levels (Some e) None None None None []) v) a K xs ≡ TU.token_after_comparison s b (before l os no_levels v) (M.infix_expr e I.Or a) K xs
or_follows (S.Operator o.And) b l os v e a K xs h = cc
or_follows (S.Operator o.Or) b l os v e a K xs h = refl
or_follows (S.Operator o.Question) b l os v e a K xs h = refl
or_follows s b l os v e a K xs h = refl

-- a disjunction as an expression
pub expression_token_after_expr : (s : Terminal) (b : ℕ) (p : Pending) (e : Form Expr) (K : List Frame) (xs : ItemsRead) → closing s ≡ true →
    TU.token_after_comparison s b p e K xs ≡ TU.token_after_expr s b p.lead (LV.expression p e) K xs
expression_token_after_expr (S.Operator o.And) b p e K xs h = cc
expression_token_after_expr (S.Operator o.Or) b p e K xs h = cc
expression_token_after_expr (S.Operator o.Question) b p e K xs h = cc
expression_token_after_expr s b p e K xs h = refl

-- the same for an operand
pub operand_token_after_expr : (s : Terminal) (b : ℕ) (p : Pending) (e : Form Expr) (K : List Frame) (xs : ItemsRead) → closing s ≡ true →
    TU.token_after_operand s b p e K xs ≡ TU.token_after_expr s b p.lead (LV.expression p (LV.as_comparison p.levels e)) K xs
operand_token_after_expr s b p e K xs h =
    one_token_after_operand s b p e K xs (joined_compared s (closing_joined s h)) ∙ expression_token_after_expr s b p (LV.as_comparison p.levels e) K xs h
