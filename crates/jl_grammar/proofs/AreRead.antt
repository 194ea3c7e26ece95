-- What it means that a form of the grammar is read, family by family. r says whether a return may stand there, k whether the form ends with an expression of its own, b whether a comparison begins there.
use Rattle.std.proofs.Common.{ℕ, Bool, true, false, List, [], ◌∷◌, ◌++◌, ◌≡◌, Option, Some, None}
use Rattle.jl_token.specs.declared.token.Operator.TheVariants as o
use Rattle.jl_typeread.specs.declared.terminal.Terminal.{Terminal}
use Rattle.jl_typeread.specs.declared.terminal.Terminal.TheVariants as S
use Rattle.jl_typeread.specs.declared.terminal.Word.TheVariants as w
use Rattle.jl_grammar.specs.declared.mark.Ahead.TheVariants as A
use Rattle.jl_grammar.specs.declared.mark.Marked.{Marked}
use Rattle.jl_grammar.specs.declared.state.BlockKind.{BlockKind}
use Rattle.jl_grammar.specs.declared.state.BlockKind.TheVariants as B
use Rattle.jl_grammar.specs.declared.state.Branched.{Branched}
use Rattle.jl_grammar.specs.declared.state.Called.{Called}
use Rattle.jl_grammar.specs.declared.state.EvalKind.{EvalKind}
use Rattle.jl_grammar.specs.declared.state.Form.{Form}
use Rattle.jl_grammar.specs.declared.state.Forms.{Forms}
use Rattle.jl_grammar.specs.declared.state.Frame.{Frame}
use Rattle.jl_grammar.specs.declared.state.Frame.TheVariants.{Paren, Tuple, Args, Print, Test, Block, Evals}
use Rattle.jl_grammar.specs.declared.state.ItemsRead.{ItemsRead}
use Rattle.jl_grammar.specs.declared.state.Lead.{Lead}
use Rattle.jl_grammar.specs.declared.state.Lead.TheVariants as L
use Rattle.jl_grammar.specs.declared.state.Left.{Left}
use Rattle.jl_grammar.specs.declared.state.Outer.{Outer}
use Rattle.jl_grammar.specs.declared.state.Pending.{Pending}
use Rattle.jl_grammar.specs.declared.state.Place.{Place}
use Rattle.jl_grammar.specs.declared.state.Place.TheVariants as H
use Rattle.jl_grammar.specs.declared.state.Point.TheVariants as P
use Rattle.jl_grammar.specs.declared.state.Purpose.TheVariants as R
use Rattle.jl_grammar.specs.declared.state.Start.{Start}
use Rattle.jl_grammar.specs.declared.state.State.{State}
use Rattle.jl_grammar.specs.declared.tree.Eval.{Eval}
use Rattle.jl_grammar.specs.declared.tree.Expr.{Expr}
use Rattle.jl_grammar.specs.declared.tree.Head.{Head}
use Rattle.jl_grammar.specs.declared.tree.Method.{Method}
use Rattle.jl_grammar.specs.declared.tree.Piece.{Piece}
use Rattle.jl_grammar.specs.declared.tree.Stmt.{Stmt}
use Rattle.jl_grammar.specs.Forms as M
use Rattle.jl_grammar.specs.Levels as LV
use Rattle.jl_grammar.specs.Levels.{no_levels, pending_after, no_pending, push_outer, with_levels, is_comparison_start}
use Rattle.jl_grammar.specs.Machine as MC
use Rattle.jl_grammar.specs.Machine.{step, step_by, step_all}
use Rattle.jl_grammar.specs.Texts.{Text, Spot, opr, wrd, nam}
use Rattle.jl_grammar.specs.Turns as TU
use Rattle.jl_grammar.specs.Turns.{at, type_start}
use Rattle.jl_grammar.proofs.Reading.{Covers}
use Rattle.jl_grammar.proofs.Chains.{termed, summed, compared, joined, closing, Ends, levels, before}

-- an operand, wherever one is wanted; one that ends with an expression of its own is read up to a token that ends that
abbrev pub AtomRead : Bool → Bool → Bool → Form Expr → Text → Type 0
AtomRead r false b e ts = (p : Pending) → p.returns ≡ r → is_comparison_start p.levels ≡ b → (K : List Frame) (xs : ItemsRead) → step_all ts (at (P.Want p) K xs) ≡ at (P.Have p e) K xs
AtomRead r true b e ts = (p : Pending) → p.returns ≡ r → is_comparison_start p.levels ≡ b → (K : List Frame) (xs : ItemsRead) (t : Marked) → closing t.lexeme.terminal ≡ true →
    step_all (ts ++ t ∷ []) (at (P.Want p) K xs) ≡ TU.token_after_expr t.lexeme.terminal t.lexeme.at p.lead (LV.expression p (LV.as_comparison p.levels e)) K xs

abbrev pub UnaryRead : Bool → Bool → Bool → Form Expr → Text → Type 0
UnaryRead r k b e ts = (p : Pending) → p.returns ≡ r → is_comparison_start p.levels ≡ b → (K : List Frame) (xs : ItemsRead) (t : Marked) → Ends k termed t.lexeme.terminal →
    step_all (ts ++ t ∷ []) (at (P.Want p) K xs) ≡ TU.token_after_operand t.lexeme.terminal t.lexeme.at p e K xs

abbrev pub TermRead : Bool → Bool → Bool → Form Expr → Text → Type 0
TermRead r k b e ts = (l : Lead) (os : List Outer) (v : Bool) (x y : Option (Form Expr)) (c d : Option Left) → v ≡ r → is_comparison_start (levels x y c d None []) ≡ b →
    (K : List Frame) (xs : ItemsRead) (t : Marked) → Ends k termed t.lexeme.terminal →
    step_all (ts ++ t ∷ []) (at (P.Want (before l os (levels x y c d None []) v)) K xs) ≡ TU.token_after_operand t.lexeme.terminal t.lexeme.at (before l os (levels x y c d None []) v) e K xs

abbrev pub SumRead : Bool → Bool → Bool → Form Expr → Text → Type 0
SumRead r k b e ts = (l : Lead) (os : List Outer) (v : Bool) (x y : Option (Form Expr)) (c : Option Left) → v ≡ r → is_comparison_start (levels x y c None None []) ≡ b →
    (K : List Frame) (xs : ItemsRead) (t : Marked) → Ends k summed t.lexeme.terminal →
    step_all (ts ++ t ∷ []) (at (P.Want (before l os (levels x y c None None []) v)) K xs) ≡ TU.token_after_operand t.lexeme.terminal t.lexeme.at (before l os (levels x y c None None []) v) e K xs

abbrev pub ComparisonRead : Bool → Bool → Form Expr → Text → Type 0
ComparisonRead r k e ts = (l : Lead) (os : List Outer) (v : Bool) (x y : Option (Form Expr)) → v ≡ r → (K : List Frame) (xs : ItemsRead) (t : Marked) → Ends k compared t.lexeme.terminal →
    step_all (ts ++ t ∷ []) (at (P.Want (before l os (levels x y None None None []) v)) K xs) ≡ TU.token_after_comparison t.lexeme.terminal t.lexeme.at (before l os (levels x y None None None []) v) e K xs

abbrev pub ConjunctionRead : Bool → Bool → Form Expr → Text → Type 0
ConjunctionRead r k e ts = (l : Lead) (os : List Outer) (v : Bool) (x : Option (Form Expr)) → v ≡ r → (K : List Frame) (xs : ItemsRead) (t : Marked) → Ends k compared t.lexeme.terminal →
    step_all (ts ++ t ∷ []) (at (P.Want (before l os (levels x None None None None []) v)) K xs) ≡ TU.token_after_comparison t.lexeme.terminal t.lexeme.at (before l os (levels x None None None None []) v) e K xs

abbrev pub DisjunctionRead : Bool → Bool → Form Expr → Text → Type 0
DisjunctionRead r k e ts = (l : Lead) (os : List Outer) (v : Bool) → v ≡ r → (K : List Frame) (xs : ItemsRead) (t : Marked) → Ends k joined t.lexeme.terminal →
    step_all (ts ++ t ∷ []) (at (P.Want (before l os no_levels v)) K xs) ≡ TU.token_after_comparison t.lexeme.terminal t.lexeme.at (before l os no_levels v) e K xs

-- an expression, up to a token that ends it
abbrev pub ExpressionRead : Bool → Form Expr → Text → Type 0
ExpressionRead r e ts = (l : Lead) (os : List Outer) (v : Bool) → v ≡ r → (K : List Frame) (xs : ItemsRead) (t : Marked) → closing t.lexeme.terminal ≡ true →
    step_all (ts ++ t ∷ []) (at (P.Want (before l os no_levels v)) K xs) ≡ TU.token_after_expr t.lexeme.terminal t.lexeme.at l (LV.end_all_outer os e) K xs

-- the same behind a comma or `)`
abbrev pub ArgumentsRead : Bool → Forms Expr → Text → Type 0
ArgumentsRead r es ts =
    ((p : Pending) (a : ℕ) (f : Called) (K : List Frame) (xs : ItemsRead) (s : Option State) → p.returns ≡ r → Covers s (at (P.Want (no_pending p.returns)) (Args p a f M.no_forms ∷ K) xs) →
    ((q : Spot) → step_all (ts ++ opr o.Comma q ∷ []) s ≡ at (P.Want (no_pending p.returns)) (Args p a f es ∷ K) xs)
    × ((q : Spot) → step_all (ts ++ opr o.CloseParen q ∷ []) s ≡ at (P.Have p (M.call_expr a f es)) K xs))
    × ((p : Pending) (a : ℕ) (K : List Frame) (xs : ItemsRead) → p.returns ≡ r → (q : Spot) →
    Covers (step_all (ts ++ opr o.Comma q ∷ []) (at (P.First p.returns) (Paren p a ∷ K) xs)) (at (P.Want (no_pending p.returns)) (Tuple p a es ∷ K) xs))

-- arguments with their brackets
abbrev pub BracketsRead : Bool → Forms Expr → Text → Type 0
BracketsRead r es ts = (q : Spot) × (us : Text) × (ts ≡ opr o.OpenParen q ∷ us)
    × ((p : Pending) (a : ℕ) (f : Called) (K : List Frame) (xs : ItemsRead) → p.returns ≡ r → step_all us (at (P.First p.returns) (Args p a f M.no_forms ∷ K) xs) ≡ at (P.Have p (M.call_expr a f es)) K xs)

abbrev pub PieceRead : Bool → Forms Piece → Forms Piece → Text → Type 0
PieceRead r ps qs ts = (p : Pending) (a : ℕ) (l : Bool) (K : List Frame) (xs : ItemsRead) (s : Option State) → p.returns ≡ r → Covers s (at (P.Piece p.returns) (Print p a l ps ∷ K) xs) →
    ((q : Spot) → step_all (ts ++ opr o.Comma q ∷ []) s ≡ at (P.Piece p.returns) (Print p a l qs ∷ K) xs)
    × ((q : Spot) → step_all (ts ++ opr o.CloseParen q ∷ []) s ≡ at (P.Have p (M.print_expr a l qs)) K xs)

abbrev pub PiecesRead : Bool → Forms Piece → Text → Type 0
PiecesRead r ps ts = PieceRead r M.no_forms ps ts

-- ---- blocks

-- a token behind a block's entries
abbrev pub block_closes : Terminal → ℕ → BlockKind → Forms Stmt → List Frame → ItemsRead → Option State
block_closes (S.Operator o.Semicolon) b k ss K xs = at P.Entry (Block k ss ∷ K) xs
block_closes S.Newline b k ss K xs = at P.Entry (Block k ss ∷ K) xs
block_closes (S.Word v) b k ss K xs = TU.block_word v b k ss K xs
block_closes s b k ss K xs = None

abbrev pub StatementRead : Bool → Stmt → ℕ → Text → Type 0
StatementRead r s d ts = (k : BlockKind) (ss : Forms Stmt) → TU.is_return_allowed k ≡ r → (K : List Frame) (xs : ItemsRead) (t : Marked) (v : State) →
    block_closes t.lexeme.terminal t.lexeme.at k (M.with_form ss s d) K xs ≡ Some v → step_all (ts ++ t ∷ []) (at P.Entry (Block k ss ∷ K) xs) ≡ Some v

abbrev pub StmtsBeforeRead : Bool → Forms Stmt → Text → Type 0
StmtsBeforeRead r ss ts = (k : BlockKind) → TU.is_return_allowed k ≡ r → (K : List Frame) (xs : ItemsRead) → step_all ts (at P.Entry (Block k M.no_forms ∷ K) xs) ≡ at P.Entry (Block k ss ∷ K) xs

-- up to a token that ends the last statement, or the block
abbrev pub BlockRead : Bool → Forms Stmt → Text → Type 0
BlockRead r ss ts = (k : BlockKind) → TU.is_return_allowed k ≡ r → (K : List Frame) (xs : ItemsRead) (t : Marked) (v : State) →
    block_closes t.lexeme.terminal t.lexeme.at k ss K xs ≡ Some v → step_all (ts ++ t ∷ []) (at P.Entry (Block k M.no_forms ∷ K) xs) ≡ Some v

-- the branches of an `if`, up to the word behind them
abbrev pub BranchesRead : Bool → Spot → Branched → Text → Type 0
BranchesRead r p x ts = (q : Pending) → q.returns ≡ r → (K : List Frame) (xs : ItemsRead) →
    ((z : Spot) → step_all (ts ++ wrd w.End z ∷ []) (at (P.Want q) K xs) ≡ at (P.Have q (M.if_expr p.at x)) K xs)
    × ((z : Spot) → step_all (ts ++ wrd w.Elseif z ∷ []) (at (P.Want q) K xs) ≡ at (P.Want (no_pending q.returns)) (Test q p.at x z.at ∷ K) xs)
    × ((z : Spot) → step_all (ts ++ wrd w.Else z ∷ []) (at (P.Want q) K xs) ≡ at P.Entry (Block (B.Else q p.at x) M.no_forms ∷ K) xs)

-- ---- methods

-- a method that `end` has ended
abbrev pub made : Place → Form Method → List Frame → ItemsRead → Option State
made H.Entry m K xs = at (P.MadeMethod m) K xs
made (H.Evaluated p a) m K xs = at (P.Have p (M.eval_method a m)) K xs

abbrev pub LongRead : Form Method → Text → Type 0
LongRead m ts = (l : Place) (K : List Frame) (xs : ItemsRead) (s : Option State) → ((p : Spot) → step (wrd w.Function p) s ≡ MC.begin_long l p.at K xs) → step_all ts s ≡ made l m K xs

-- what the token behind a short method makes of it
abbrev pub short_closes : Place → Terminal → ℕ → Form Head → Form Expr → List Frame → ItemsRead → Option State
short_closes H.Entry s b h e K xs = TU.token_after_expr s b (L.Short h) e K xs
short_closes (H.Evaluated p a) s b h e K xs = TU.token_after_expr s b p.lead (LV.expression p (LV.as_comparison p.levels (M.eval_method a (M.short_method h e)))) K xs

-- the start of a short method
abbrev pub short_start : Place → ℕ → Start
short_start l a = record { place = l; long = false; at = a }

abbrev pub ShortRead : Form Method → Text → Type 0
ShortRead m ts = (h : Form Head) × (e : Form Expr) × (M.short_method h e ≡ m)
    × ((l : Place) (K : List Frame) (xs : ItemsRead) (s : Option State) →
    ((n : List ℕ) (q : Spot) → q.marks.ahead ≡ A.Method → step (nam n q) s ≡ step (nam n q) (at (P.Function (R.Head (short_start l q.at))) K xs)) →
    (t : Marked) → closing t.lexeme.terminal ≡ true → step_all (ts ++ t ∷ []) s ≡ short_closes l t.lexeme.terminal t.lexeme.at h e K xs)

-- ---- evaluated blocks

abbrev pub evals_closes : Terminal → EvalKind → Forms Eval → List Frame → ItemsRead → Option State
evals_closes (S.Operator o.Semicolon) k vs K xs = at P.Entry (Evals k vs ∷ K) xs
evals_closes S.Newline k vs K xs = at P.Entry (Evals k vs ∷ K) xs
evals_closes (S.Word v) k vs K xs = TU.evals_word v k vs K xs
evals_closes s k vs K xs = None

abbrev pub EvaluatedRead : Eval → ℕ → Text → Type 0
EvaluatedRead x d ts = (k : EvalKind) (vs : Forms Eval) (K : List Frame) (xs : ItemsRead) (t : Marked) (v : State) →
    evals_closes t.lexeme.terminal k (M.with_form vs x d) K xs ≡ Some v → step_all (ts ++ t ∷ []) (at P.Entry (Evals k vs ∷ K) xs) ≡ Some v

abbrev pub EvalsBeforeRead : Forms Eval → Text → Type 0
EvalsBeforeRead vs ts = (k : EvalKind) (K : List Frame) (xs : ItemsRead) → step_all ts (at P.Entry (Evals k M.no_forms ∷ K) xs) ≡ at P.Entry (Evals k vs ∷ K) xs

abbrev pub EvalBlockRead : Forms Eval → Text → Type 0
EvalBlockRead vs ts = (k : EvalKind) (K : List Frame) (xs : ItemsRead) (t : Marked) (v : State) →
    evals_closes t.lexeme.terminal k vs K xs ≡ Some v → step_all (ts ++ t ∷ []) (at P.Entry (Evals k M.no_forms ∷ K) xs) ≡ Some v
