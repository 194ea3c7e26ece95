-- Statements, blocks, branches, methods and evaluated blocks: that each is read, rule by rule, where its parts are.
use Rattle.std.proofs.Common.{ℕ, Bool, true, false, List, [], ◌∷◌, ◌++◌, ◌≡◌, inl, inr, Option, Some, None, refl, sym, ap, subst, ◌∙◌}
use Rattle.jl_token.specs.declared.token.Operator.TheVariants as o
use Rattle.jl_typeread.specs.declared.terminal.Terminal.{Terminal}
use Rattle.jl_typeread.specs.declared.terminal.Terminal.TheVariants as S
use Rattle.jl_typeread.specs.declared.terminal.Word.TheVariants as w
use Rattle.jl_grammar.specs.declared.mark.Ahead.TheVariants as A
use Rattle.jl_grammar.specs.declared.mark.Marked.{Marked}
use Rattle.jl_grammar.specs.declared.mark.Marks.{Marks}
use Rattle.jl_grammar.specs.declared.mark.Opening.{Opening}
use Rattle.jl_grammar.specs.declared.mark.Opening.TheVariants as O
use Rattle.jl_grammar.specs.declared.state.BlockKind.{BlockKind}
use Rattle.jl_grammar.specs.declared.state.BlockKind.TheVariants as B
use Rattle.jl_grammar.specs.declared.state.Branched.{Branched}
use Rattle.jl_grammar.specs.declared.state.Form.{Form}
use Rattle.jl_grammar.specs.declared.state.Forms.{Forms}
use Rattle.jl_grammar.specs.declared.state.Frame.{Frame}
use Rattle.jl_grammar.specs.declared.state.Frame.TheVariants.{Test, Block}
use Rattle.jl_grammar.specs.declared.state.ItemsRead.{ItemsRead}
use Rattle.jl_grammar.specs.declared.state.Lead.{Lead}
use Rattle.jl_grammar.specs.declared.state.Lead.TheVariants as L
use Rattle.jl_grammar.specs.declared.state.Outer.TheVariants as X
use Rattle.jl_grammar.specs.declared.state.Pending.{Pending}
use Rattle.jl_grammar.specs.declared.state.Place.{Place}
use Rattle.jl_grammar.specs.declared.state.Place.TheVariants as H
use Rattle.jl_grammar.specs.declared.state.Point.TheVariants as P
use Rattle.jl_grammar.specs.declared.state.Purpose.TheVariants as R
use Rattle.jl_grammar.specs.declared.state.State.{State}
use Rattle.jl_grammar.specs.declared.tree.Expr.{Expr}
use Rattle.jl_grammar.specs.declared.tree.Head.{Head}
use Rattle.jl_grammar.specs.declared.tree.Stmt.{Stmt}
use Rattle.jl_grammar.specs.declared.tree.Stmt.TheVariants as Z
use Rattle.jl_grammar.specs.Forms as M
use Rattle.jl_grammar.specs.Grammar as GR
use Rattle.jl_grammar.specs.Levels.{no_pending}
use Rattle.jl_grammar.specs.Machine as MC
use Rattle.jl_grammar.specs.Machine.{step, step_by, step_all}
use Rattle.jl_grammar.specs.Texts as TX
use Rattle.jl_grammar.specs.Texts.{Text, Spot, tok, opr, wrd, nam, name_in, Sep, lexemes, is_left_type}
use Rattle.jl_grammar.specs.Turns as TU
use Rattle.jl_grammar.specs.Turns.{at, type_start}
use Rattle.jl_grammar.proofs.Reading.{step_all_append, step_all_then_more, step_all_append_more, none_step_all, none_is_some, Alike, alike_step_all, returned_covers}
use Rattle.jl_grammar.proofs.Chains.{closing}
use Rattle.jl_grammar.proofs.Heads.{read_head, starts_head, headed_ends}
use Rattle.jl_grammar.proofs.AreRead.{ExpressionRead, StatementRead, StmtsBeforeRead, BlockRead, BranchesRead, LongRead, ShortRead, block_closes, short_closes, short_start}

-- ---- statements

stmt_is_no_binding : (x : Opening) → TX.is_stmt_name x ≡ true → TX.is_binding x ≡ false
stmt_is_no_binding O.Binding h = sym h
stmt_is_no_binding x h = refl

stmt_alike : (s : Terminal) (m : Marks) → TX.is_stmt_terminal s m ≡ true → (a : ℕ) (k : BlockKind) (ss : Forms Stmt) (K : List Frame) (xs : ItemsRead) →
    Alike (step_by s m a P.Entry (Block k ss ∷ K) xs) (step_by s m a (P.Want (no_pending (TU.is_return_allowed k))) (Block k ss ∷ K) xs)
stmt_alike S.Newline m h a k ss K xs = inr refl
stmt_alike S.End m h a k ss K xs = inr refl
stmt_alike (S.Operator o.Semicolon) m h a k ss K xs = inr refl
stmt_alike (S.Word w.End) m h a k ss K xs = inr refl
stmt_alike (S.Word w.Elseif) m h a k ss K xs = inr refl
stmt_alike (S.Word w.Else) m h a k ss K xs = inr refl
stmt_alike (S.Word w.Return) m h a k ss K xs = inr refl
stmt_alike (S.Name n) m h a k ss K xs = inl (ap (λ x. MC.begin_stmt x (TU.is_return_allowed k) m n a (Block k ss ∷ K) xs) (stmt_is_no_binding m.opening h))
stmt_alike s m h a k ss K xs = inl refl

-- what ends an expression in a block ends the statement
token_after_expr_block : (s : Terminal) (b : ℕ) (k : BlockKind) (ss rs : Forms Stmt) (l : Lead) (e : Form Expr) (K : List Frame) (xs : ItemsRead) → TU.with_stmt ss l e ≡ Some rs →
    TU.token_after_expr s b l e (Block k ss ∷ K) xs ≡ block_closes s b k rs K xs
token_after_expr_block (S.Operator o.Semicolon) b k ss rs l e K xs h = ap (λ x. TU.end_stmt x k K xs) h
token_after_expr_block (S.Operator o.Comma) b k ss rs l e K xs h = refl
token_after_expr_block S.Newline b k ss rs l e K xs h = ap (λ x. TU.end_stmt x k K xs) h
token_after_expr_block (S.Word v) b k ss rs l e K xs h = ap (λ x. TU.word_after_stmts x v b k K xs) h
token_after_expr_block s b k ss rs l e K xs h = refl

block_closing : (s : Terminal) (b : ℕ) (k : BlockKind) (ss : Forms Stmt) (K : List Frame) (xs : ItemsRead) (v : State) → block_closes s b k ss K xs ≡ Some v → closing s ≡ true
block_closing S.Newline b k ss K xs v h = refl
block_closing (S.Operator o.Semicolon) b k ss K xs v h = refl
block_closing (S.Word w.End) b k ss K xs v h = refl
block_closing (S.Word w.Elseif) b k ss K xs v h = refl
block_closing (S.Word w.Else) b k ss K xs v h = refl
block_closing s b k ss K xs v h = absurd (none_is_some v h)

pub do_read : (r : Bool) (e : Form Expr) (ts : Text) → TX.is_stmt_start ts ≡ true → ExpressionRead r e ts → StatementRead r (Z.Do e.tree) e.depth ts
do_read r e [] is i k ss h K xs t v g = cc
do_read r e (u ∷ us) is i k ss h K xs t v g =
    alike_step_all (us ++ t ∷ []) (step u (at P.Entry (Block k ss ∷ K) xs)) (step u (at (P.Want (no_pending (TU.is_return_allowed k))) (Block k ss ∷ K) xs))
    (stmt_alike u.lexeme.terminal u.marks is u.lexeme.at k ss K xs) v (
    i L.Plain [] (TU.is_return_allowed k) h (Block k ss ∷ K) xs t (block_closing t.lexeme.terminal t.lexeme.at k (M.with_form ss (Z.Do e.tree) e.depth) K xs v g)
    ∙ token_after_expr_block t.lexeme.terminal t.lexeme.at k ss (M.with_form ss (Z.Do e.tree) e.depth) L.Plain e K xs refl
    ∙ g
    )

pub bind_read : (r : Bool) (n : List ℕ) (e : Form Expr) (p q : Spot) (ts : Text) → p.marks.opening ≡ O.Binding → ExpressionRead r e ts →
    StatementRead r (Z.Bind (name_in n p) e.tree) e.depth (nam n p ∷ opr o.Assign q ∷ ts)
bind_read r n e p q ts is i k ss h K xs t v g =
    ap (λ x. step_all ((opr o.Assign q ∷ ts) ++ t ∷ []) (MC.begin_stmt (TX.is_binding x) (TU.is_return_allowed k) p.marks n p.at (Block k ss ∷ K) xs)) is
    ∙ i (L.Bind (name_in n p)) [] (TU.is_return_allowed k) h (Block k ss ∷ K) xs t (block_closing t.lexeme.terminal t.lexeme.at k (M.with_form ss (Z.Bind (name_in n p) e.tree) e.depth) K xs v g)
    ∙ token_after_expr_block t.lexeme.terminal t.lexeme.at k ss (M.with_form ss (Z.Bind (name_in n p) e.tree) e.depth) (L.Bind (name_in n p)) e K xs refl
    ∙ g

pub return_read : (e : Form Expr) (p : Spot) (ts : Text) → ExpressionRead true e ts → StatementRead true (Z.Return p.at e.tree) e.depth (wrd w.Return p ∷ ts)
return_read e p ts i k ss h K xs t v g =
    ap (λ x. step_all (ts ++ t ∷ []) (MC.begin_return x p.at (Block k ss ∷ K) xs)) h
    ∙ returned_covers p.at (Block k ss ∷ K) xs ts t v (
    i (L.Return p.at) [] true refl (Block k ss ∷ K) xs t (block_closing t.lexeme.terminal t.lexeme.at k (M.with_form ss (Z.Return p.at e.tree) e.depth) K xs v g)
    ∙ token_after_expr_block t.lexeme.terminal t.lexeme.at k ss (M.with_form ss (Z.Return p.at e.tree) e.depth) (L.Return p.at) e K xs refl
    ∙ g
    )

nothing_returned : (s : Terminal) (m : Marks) (b a : ℕ) (k : BlockKind) (ss : Forms Stmt) (K : List Frame) (xs : ItemsRead) (v : State) →
    block_closes s b k (M.with_form ss (Z.ReturnNothing a) 0) K xs ≡ Some v → step_by s m b (P.Returned a) (Block k ss ∷ K) xs ≡ Some v
nothing_returned S.Newline m b a k ss K xs v h = h
nothing_returned (S.Operator o.Semicolon) m b a k ss K xs v h = h
nothing_returned (S.Word w.End) m b a k ss K xs v h = h
nothing_returned (S.Word w.Elseif) m b a k ss K xs v h = h
nothing_returned (S.Word w.Else) m b a k ss K xs v h = h
nothing_returned s m b a k ss K xs v h = absurd (none_is_some v h)

pub return_nothing_read : (p : Spot) → StatementRead true (Z.ReturnNothing p.at) 0 (wrd w.Return p ∷ [])
return_nothing_read p k ss h K xs t v g =
    ap (λ x. step t (MC.begin_return x p.at (Block k ss ∷ K) xs)) h ∙ nothing_returned t.lexeme.terminal t.marks t.lexeme.at p.at k ss K xs v g

-- ---- blocks

block_entry : (s : Terminal) (m : Marks) (b : ℕ) (k : BlockKind) (ss : Forms Stmt) (K : List Frame) (xs : ItemsRead) (v : State) →
    block_closes s b k ss K xs ≡ Some v → step_by s m b P.Entry (Block k ss ∷ K) xs ≡ Some v
block_entry S.Newline m b k ss K xs v h = h
block_entry (S.Operator o.Semicolon) m b k ss K xs v h = h
block_entry (S.Word w.End) m b k ss K xs v h = h
block_entry (S.Word w.Elseif) m b k ss K xs v h = h
block_entry (S.Word w.Else) m b k ss K xs v h = h
block_entry s m b k ss K xs v h = absurd (none_is_some v h)

sep_block : (t : Marked) → Sep t → (k : BlockKind) (ss : Forms Stmt) (K : List Frame) (xs : ItemsRead) → block_closes t.lexeme.terminal t.lexeme.at k ss K xs ≡ at P.Entry (Block k ss ∷ K) xs
sep_block _ (TX.semicolon p) k ss K xs = refl
sep_block _ (TX.newline p) k ss K xs = refl

sep_closing : (t : Marked) → Sep t → closing t.lexeme.terminal ≡ true
sep_closing _ (TX.semicolon p) = refl
sep_closing _ (TX.newline p) = refl

pub no_stmts_read : (r : Bool) → StmtsBeforeRead r M.no_forms []
no_stmts_read r k h K xs = refl

pub stmts_again_read : (r : Bool) (ss : Forms Stmt) (t : Marked) (ts : Text) → StmtsBeforeRead r ss ts → Sep t → StmtsBeforeRead r ss (ts ++ t ∷ [])
stmts_again_read r ss t ts i s k h K xs =
    step_all_append ts (t ∷ []) (at P.Entry (Block k M.no_forms ∷ K) xs)
    ∙ ap (step t) (i k h K xs)
    ∙ block_entry t.lexeme.terminal t.marks t.lexeme.at k ss K xs _ (sep_block t s k ss K xs)

pub stmts_apart_read : (r : Bool) (ss : Forms Stmt) (t : Marked) (ts : Text) → BlockRead r ss ts → Sep t → StmtsBeforeRead r ss (ts ++ t ∷ [])
stmts_apart_read r ss t ts i s k h K xs = i k h K xs t _ (sep_block t s k ss K xs)

pub stmts_one_read : (r : Bool) (ss : Forms Stmt) (s : Stmt) (d : ℕ) (ts us : Text) → StmtsBeforeRead r ss ts → StatementRead r s d us → BlockRead r (M.with_form ss s d) (ts ++ us)
stmts_one_read r ss s d ts us i j k h K xs t v g =
    step_all_append_more ts us (t ∷ []) (at P.Entry (Block k M.no_forms ∷ K) xs) ∙ ap (step_all (us ++ t ∷ [])) (i k h K xs) ∙ j k ss h K xs t v g

pub block_before_read : (r : Bool) (ss : Forms Stmt) (ts : Text) → StmtsBeforeRead r ss ts → BlockRead r ss ts
block_before_read r ss ts i k h K xs t v g =
    step_all_append ts (t ∷ []) (at P.Entry (Block k M.no_forms ∷ K) xs) ∙ ap (step t) (i k h K xs) ∙ block_entry t.lexeme.terminal t.marks t.lexeme.at k ss K xs v g

-- ---- branches

test_token_after_expr : (t : Marked) → Sep t → (c : Form Expr) (q : Pending) (a : ℕ) (x : Branched) (b : ℕ) (K : List Frame) (xs : ItemsRead) →
    TU.token_after_expr t.lexeme.terminal t.lexeme.at L.Plain c (Test q a x b ∷ K) xs ≡ at P.Entry (Block (B.Branch q a x b c) M.no_forms ∷ K) xs
test_token_after_expr _ (TX.semicolon p) c q a x b K xs = refl
test_token_after_expr _ (TX.newline p) c q a x b K xs = refl

-- the tokens of branches up to the last block
abbrev BranchesUpTo : Bool → Spot → Branched → Form Expr → ℕ → Text → Type 0
BranchesUpTo r p x c b ts = (q : Pending) → q.returns ≡ r → (K : List Frame) (xs : ItemsRead) → step_all ts (at (P.Want q) K xs) ≡ at P.Entry (Block (B.Branch q p.at x b c) M.no_forms ∷ K) xs

branches_end : (r : Bool) (p : Spot) (x : Branched) (c : Form Expr) (b : ℕ) (t : Marked) (ts us : Text) (ss : Forms Stmt) → BranchesUpTo r p x c b (ts ++ t ∷ []) → BlockRead r ss us →
    BranchesRead r p (M.with_branch x b c ss) (ts ++ t ∷ us)
branches_end r p x c b t ts us ss i j q h K xs = (
  λ z. step_all_then_more ts t us (wrd w.End z ∷ []) (at (P.Want q) K xs) ∙ ap (step_all (us ++ wrd w.End z ∷ [])) (i q h K xs) ∙ j (B.Branch q p.at x b c) h K xs (wrd w.End z) _ refl,
  λ z. step_all_then_more ts t us (wrd w.Elseif z ∷ []) (at (P.Want q) K xs) ∙ ap (step_all (us ++ wrd w.Elseif z ∷ [])) (i q h K xs) ∙ j (B.Branch q p.at x b c) h K xs (wrd w.Elseif z) _ refl,
  λ z. step_all_then_more ts t us (wrd w.Else z ∷ []) (at (P.Want q) K xs) ∙ ap (step_all (us ++ wrd w.Else z ∷ [])) (i q h K xs) ∙ j (B.Branch q p.at x b c) h K xs (wrd w.Else z) _ refl,
)

pub first_branch_read : (r : Bool) (c : Form Expr) (ss : Forms Stmt) (p : Spot) (t : Marked) (ts us : Text) → ExpressionRead r c ts → Sep t → BlockRead r ss us →
    BranchesRead r p (M.with_branch M.no_branches p.at c ss) ((wrd w.If p ∷ ts) ++ t ∷ us)
first_branch_read r c ss p t ts us i s j = branches_end r p M.no_branches c p.at t (wrd w.If p ∷ ts) us ss (λ q h K xs.
    i L.Plain [] q.returns h (Test q p.at M.no_branches p.at ∷ K) xs t (sep_closing t s) ∙ test_token_after_expr t s c q p.at M.no_branches p.at K xs) j

pub next_branch_read : (r : Bool) (x : Branched) (c : Form Expr) (ss : Forms Stmt) (p q : Spot) (t : Marked) (ts us vs : Text) → BranchesRead r p x ts → ExpressionRead r c us → Sep t → BlockRead r ss vs →
    BranchesRead r p (M.with_branch x q.at c ss) ((ts ++ wrd w.Elseif q ∷ us) ++ t ∷ vs)
next_branch_read r x c ss p z t ts us vs b i s j = branches_end r p x c z.at t (ts ++ wrd w.Elseif z ∷ us) vs ss (λ q h K xs.
    step_all_then_more ts (wrd w.Elseif z) us (t ∷ []) (at (P.Want q) K xs)
    ∙ ap (step_all (us ++ t ∷ [])) ((b q h K xs).1 z)
    ∙ i L.Plain [] q.returns h (Test q p.at x z.at ∷ K) xs t (sep_closing t s)
    ∙ test_token_after_expr t s c q p.at x z.at K xs) j

-- ---- methods

some_state : (ts : Text) (s : Option State) (v : State) → step_all ts s ≡ Some v → (u : State) × (s ≡ Some u)
some_state ts None v h = absurd (none_is_some v (sym (none_step_all ts) ∙ h))
some_state ts (Some u) v h = (u, refl)

-- a head that was begun by `function`, and the body behind it
body_read : (a : ℕ) (h : Form Head) (ts : Text) → GR.HeadText a h ts → (l : Place) (us : Text) (t : Marked) (K : List Frame) (xs : ItemsRead) (v : State) →
    step_all (us ++ t ∷ []) (at P.Entry (Block (B.Body l h) M.no_forms ∷ K) xs) ≡ Some v → step_all (ts ++ us ++ t ∷ []) (at (P.Function (R.Head (record { place = l; long = true; at = a }))) K xs) ≡ Some v
body_read a h ts d l [] t K xs v g =
    step_all_append_more ts [] (t ∷ []) (at (P.Function (R.Head (record { place = l; long = true; at = a }))) K xs)
    ∙ sym (step_all_append ts (t ∷ []) (at (P.Function (R.Head (record { place = l; long = true; at = a }))) K xs))
    ∙ read_head a h ts d (record { place = l; long = true; at = a }) refl K xs t (headed_ends true t.lexeme.terminal t.marks t.lexeme.at l h K xs v g)
    ∙ g
body_read a h ts d l (u ∷ us) t K xs v g =
    let w = some_state (us ++ t ∷ []) (step u (at P.Entry (Block (B.Body l h) M.no_forms ∷ K) xs)) v g in
    step_all_then_more ts u us (t ∷ []) (at (P.Function (R.Head (record { place = l; long = true; at = a }))) K xs)
    ∙ ap (step_all (us ++ t ∷ [])) (
    read_head a h ts d (record { place = l; long = true; at = a }) refl K xs u (headed_ends true u.lexeme.terminal u.marks u.lexeme.at l h K xs w.0 w.1)
    )
    ∙ g

long_reads : (h : Form Head) (ss : Forms Stmt) (p q : Spot) (ts us : Text) → GR.HeadText p.at h ts → BlockRead true ss us → (l : Place) (K : List Frame) (xs : ItemsRead) (s : Option State) →
    step (wrd w.Function p) s ≡ MC.begin_long l p.at K xs → (v : State) → TU.end_block (B.Body l h) ss K xs ≡ Some v → step_all ((wrd w.Function p ∷ ts ++ us) ++ wrd w.End q ∷ []) s ≡ Some v
long_reads h ss p q ts us d i l K xs s f v g =
    ap (step_all ((ts ++ us) ++ wrd w.End q ∷ [])) f ∙ body_read p.at h ts d l us (wrd w.End q) K xs v (i (B.Body l h) refl K xs (wrd w.End q) v g)

pub long_method_read : (h : Form Head) (ss : Forms Stmt) (p q : Spot) (ts us : Text) → GR.HeadText p.at h ts → BlockRead true ss us → LongRead (M.long_method h ss) ((wrd w.Function p ∷ ts ++ us) ++ wrd w.End q ∷ [])
long_method_read h ss p q ts us d i H.Entry K xs s f = long_reads h ss p q ts us d i H.Entry K xs s (f p) _ refl
long_method_read h ss p q ts us d i (H.Evaluated z a) K xs s f = long_reads h ss p q ts us d i (H.Evaluated z a) K xs s (f p) _ refl

begin_body_read : (h : Form Head) (e : Form Expr) (us : Text) → ExpressionRead true e us → (l : Place) (K : List Frame) (xs : ItemsRead) (t : Marked) → closing t.lexeme.terminal ≡ true →
    step_all (us ++ t ∷ []) (MC.begin_body l h K xs) ≡ short_closes l t.lexeme.terminal t.lexeme.at h e K xs
begin_body_read h e us i H.Entry K xs t c = i (L.Short h) [] true refl K xs t c
begin_body_read h e us i (H.Evaluated p a) K xs t c = i p.lead (X.Short p.levels a h ∷ p.outer) true refl K xs t c

short_begins : (h : Form Head) (ts : Text) → TX.IsMethodStart ts → GR.HeadText (GR.place ts) h ts → (q : Spot) (l : Place) (K : List Frame) (xs : ItemsRead) (s : Option State) →
    ((n : List ℕ) (q : Spot) → q.marks.ahead ≡ A.Method → step (nam n q) s ≡ step (nam n q) (at (P.Function (R.Head (short_start l q.at))) K xs)) →
    step_all (ts ++ opr o.Assign q ∷ []) s ≡ MC.begin_body l h K xs
short_begins h ts is d q l K xs s f =
    let r = starts_head (GR.place ts) h ts d in
    ap (λ x. step_all (x ++ opr o.Assign q ∷ []) s) r.3
    ∙ ap (step_all (r.2 ++ opr o.Assign q ∷ [])) (f r.0 r.1 (subst TX.IsMethodStart r.3 is))
    ∙ ap (λ x. step_all (x ++ opr o.Assign q ∷ []) (at (P.Function (R.Head (short_start l r.1.at))) K xs)) (sym r.3)
    ∙ read_head (GR.place ts) h ts d (short_start l r.1.at) (sym (ap GR.place r.3)) K xs (opr o.Assign q) refl

pub short_method_read : (h : Form Head) (e : Form Expr) (p : Spot) (ts us : Text) → TX.IsMethodStart ts → GR.HeadText (GR.place ts) h ts → ExpressionRead true e us → ShortRead (M.short_method h e) (ts ++ opr o.Assign p ∷ us)
short_method_read h e p ts us is d i = (
  h,
  e,
  refl,
  λ l K xs s f t c.
      step_all_then_more ts (opr o.Assign p) us (t ∷ []) s ∙ ap (step_all (us ++ t ∷ [])) (short_begins h ts is d p l K xs s f) ∙ begin_body_read h e us i l K xs t c,
)
