-- Operands: that each is read, rule by rule, where its parts are.
use Rattle.std.proofs.Common.{ℕ, ℤ, Bool, true, false, List, [], ◌∷◌, ◌++◌, ◌≡◌, ◌⊎◌, inl, inr, Option, None, refl, sym, ap, ◌∙◌}
use Rattle.std.specs.Prelude.{codes}
use Rattle.jl_token.specs.declared.token.Operator.TheVariants as o
use Rattle.jl_typeread.specs.declared.terminal.Terminal.{Terminal}
use Rattle.jl_typeread.specs.declared.terminal.Terminal.TheVariants as S
use Rattle.jl_typeread.specs.declared.terminal.Word.TheVariants as w
use Rattle.jl_typeread.specs.declared.tree.TypeText.{TypeText}
use Rattle.jl_grammar.specs.declared.mark.Ahead.{Ahead}
use Rattle.jl_grammar.specs.declared.mark.Ahead.TheVariants as A
use Rattle.jl_grammar.specs.declared.mark.Marked.{Marked}
use Rattle.jl_grammar.specs.declared.mark.Marks.{Marks}
use Rattle.jl_grammar.specs.declared.mark.Opening.{Opening}
use Rattle.jl_grammar.specs.declared.mark.Opening.TheVariants as O
use Rattle.jl_grammar.specs.declared.state.BlockKind.TheVariants as B
use Rattle.jl_grammar.specs.declared.state.Branched.{Branched}
use Rattle.jl_grammar.specs.declared.state.Called.TheVariants as C
use Rattle.jl_grammar.specs.declared.state.Due.TheVariants as D
use Rattle.jl_grammar.specs.declared.state.EvalKind.TheVariants as E
use Rattle.jl_grammar.specs.declared.state.Form.{Form}
use Rattle.jl_grammar.specs.declared.state.Forms.{Forms}
use Rattle.jl_grammar.specs.declared.state.Frame.{Frame}
use Rattle.jl_grammar.specs.declared.state.Frame.TheVariants.{Paren, Tuple, Args, Fetch, Print}
use Rattle.jl_grammar.specs.declared.state.Goal.TheVariants as G
use Rattle.jl_grammar.specs.declared.state.ItemsRead.{ItemsRead}
use Rattle.jl_grammar.specs.declared.state.Lead.TheVariants as L
use Rattle.jl_grammar.specs.declared.state.Outer.TheVariants as X
use Rattle.jl_grammar.specs.declared.state.Pending.{Pending}
use Rattle.jl_grammar.specs.declared.state.Place.TheVariants as H
use Rattle.jl_grammar.specs.declared.state.Point.TheVariants as P
use Rattle.jl_grammar.specs.declared.state.Purpose.TheVariants as R
use Rattle.jl_grammar.specs.declared.state.State.{State}
use Rattle.jl_grammar.specs.declared.tree.Callee.{Callee}
use Rattle.jl_grammar.specs.declared.tree.Eval.{Eval}
use Rattle.jl_grammar.specs.declared.tree.Expr.{Expr}
use Rattle.jl_grammar.specs.declared.tree.Method.{Method}
use Rattle.jl_grammar.specs.declared.tree.Piece.{Piece}
use Rattle.jl_grammar.specs.declared.tree.Stmt.{Stmt}
use Rattle.jl_grammar.specs.Forms as M
use Rattle.jl_grammar.specs.Grammar as GR
use Rattle.jl_grammar.specs.Levels as LV
use Rattle.jl_grammar.specs.Levels.{no_levels, pending_after, no_pending, push_outer, with_levels, is_comparison_start}
use Rattle.jl_grammar.specs.Machine as MC
use Rattle.jl_grammar.specs.Machine.{step, step_by, step_all}
use Rattle.jl_grammar.specs.Texts as TX
use Rattle.jl_grammar.specs.Texts.{Text, Spot, tok, opr, wrd, nam, name_in, Sep, lexemes, is_left_type}
use Rattle.jl_grammar.specs.Turns as TU
use Rattle.jl_grammar.specs.Turns.{at, type_start}
use Rattle.jl_grammar.specs.Types.{type_as_read, IsType}
use Rattle.jl_grammar.proofs.Reading.{step_all_then, step_all_then_more, none_step_all, none_is_some, Covers, covers_itself, first_covers, again_covers, piece_covers, first_piece_covers, read_type}
use Rattle.jl_grammar.proofs.Heads.{read_callee}
use Rattle.jl_grammar.proofs.AreRead.{AtomRead, ExpressionRead, ArgumentsRead, BracketsRead, PieceRead, PiecesRead, BlockRead, BranchesRead, LongRead, ShortRead, EvalBlockRead}

-- ---- the token that an operand begins with

not_type : (p : Pending) (b : Bool) (a : Ahead) → is_comparison_start p.levels ≡ b → is_left_type b a ≡ false → is_left_type (is_comparison_start p.levels) a ≡ false
not_type p b a h e = ap (λ x. is_left_type x a) h ∙ e

pub begin_opening_name : (x : Opening) (n : List ℕ) (q : Spot) (p : Pending) (b : Bool) → is_comparison_start p.levels ≡ b → is_left_type b q.marks.ahead ≡ false → q.marks.opening ≡ x →
    (K : List Frame) (xs : ItemsRead) → step (nam n q) (at (P.Want p) K xs) ≡ TU.begin_opening x n q.at p K xs
begin_opening_name x n q p b h e is K xs = ap (λ c. TU.begin_name c q.marks.opening n q.at p K xs) (not_type p b q.marks.ahead h e) ∙ ap (λ y. TU.begin_opening y n q.at p K xs) is

pub opens_paren : (q : Spot) (p : Pending) (b : Bool) → is_comparison_start p.levels ≡ b → is_left_type b q.marks.ahead ≡ false → (K : List Frame) (xs : ItemsRead) →
    step (opr o.OpenParen q) (at (P.Want p) K xs) ≡ at (P.First p.returns) (Paren p q.at ∷ K) xs
opens_paren q p b h e K xs = ap (λ c. TU.begin_paren c q.at p K xs) (not_type p b q.marks.ahead h e)

plain_begin_opening : (x : Opening) → TX.is_plain x ≡ true → (n : List ℕ) (a : ℕ) (p : Pending) (K : List Frame) (xs : ItemsRead) → TU.begin_opening x n a p K xs ≡ at (P.Have p (M.name a n)) K xs
plain_begin_opening O.Plain h n a p K xs = refl
plain_begin_opening O.Binding h n a p K xs = refl
plain_begin_opening x h n a p K xs = cc

-- ---- atoms

pub number_read : (r b : Bool) (n : ℤ) (p : Spot) → AtomRead r false b (M.number p.at n) (tok (S.Number n) p ∷ [])
number_read r b n p q h e K xs = refl

pub true_read : (r b : Bool) (p : Spot) → AtomRead r false b (M.truth p.at true) (wrd w.True p ∷ [])
true_read r b p q h e K xs = refl

pub false_read : (r b : Bool) (p : Spot) → AtomRead r false b (M.truth p.at false) (wrd w.False p ∷ [])
false_read r b p q h e K xs = refl

pub nothing_read : (r b : Bool) (p : Spot) → AtomRead r false b (M.nothing p.at) (wrd w.Nothing p ∷ [])
nothing_read r b p q h e K xs = refl

pub name_read : (r b : Bool) (n : List ℕ) (p : Spot) → TX.is_plain p.marks.opening ≡ true → is_left_type b p.marks.ahead ≡ false → AtomRead r false b (M.name p.at n) (nam n p ∷ [])
name_read r b n p is nt q h e K xs = begin_opening_name p.marks.opening n p q b e nt refl K xs ∙ plain_begin_opening p.marks.opening is n p.at q K xs

pub paren_read : (r b : Bool) (e : Form Expr) (p q : Spot) (ts : Text) → is_left_type b p.marks.ahead ≡ false → ExpressionRead r e ts →
    AtomRead r false b (M.paren p.at e) (opr o.OpenParen p ∷ ts ++ opr o.CloseParen q ∷ [])
paren_read r b e p q ts nt i z h ld K xs =
    ap (step_all (ts ++ opr o.CloseParen q ∷ [])) (opens_paren p z b ld nt K xs)
    ∙ first_covers z.returns (Paren z p.at ∷ K) xs ts (opr o.CloseParen q) _ (i L.Plain [] z.returns h (Paren z p.at ∷ K) xs (opr o.CloseParen q) refl)

pub tuple_none_read : (r b : Bool) (p q : Spot) → is_left_type b p.marks.ahead ≡ false → AtomRead r false b (M.tuple p.at M.no_forms) (opr o.OpenParen p ∷ opr o.CloseParen q ∷ [])
tuple_none_read r b p q nt z h ld K xs = ap (step (opr o.CloseParen q)) (opens_paren p z b ld nt K xs)

pub tuple_one_read : (r b : Bool) (e : Form Expr) (p q s : Spot) (ts : Text) → is_left_type b p.marks.ahead ≡ false → ExpressionRead r e ts →
    AtomRead r false b (M.tuple p.at (M.with_expr M.no_forms e)) (opr o.OpenParen p ∷ ts ++ opr o.Comma q ∷ opr o.CloseParen s ∷ [])
tuple_one_read r b e p q s ts nt i z h ld K xs =
    ap (step_all (ts ++ opr o.Comma q ∷ opr o.CloseParen s ∷ [])) (opens_paren p z b ld nt K xs)
    ∙ step_all_then ts (opr o.Comma q) (opr o.CloseParen s ∷ []) (at (P.First z.returns) (Paren z p.at ∷ K) xs)
    ∙ ap (step (opr o.CloseParen s)) (first_covers z.returns (Paren z p.at ∷ K) xs ts (opr o.Comma q) _ (i L.Plain [] z.returns h (Paren z p.at ∷ K) xs (opr o.Comma q) refl))

pub tuple_read : (r b : Bool) (e d : Form Expr) (es : Forms Expr) (p q s : Spot) (ts us : Text) → is_left_type b p.marks.ahead ≡ false → ArgumentsRead r es ts → ExpressionRead r d us →
    AtomRead r false b (M.tuple p.at (M.with_expr es d)) (opr o.OpenParen p ∷ (ts ++ opr o.Comma q ∷ us) ++ opr o.CloseParen s ∷ [])
tuple_read r b e d es p q s ts us nt i j z h ld K xs =
    ap (step_all ((ts ++ opr o.Comma q ∷ us) ++ opr o.CloseParen s ∷ [])) (opens_paren p z b ld nt K xs)
    ∙ step_all_then_more ts (opr o.Comma q) us (opr o.CloseParen s ∷ []) (at (P.First z.returns) (Paren z p.at ∷ K) xs)
    ∙ i.1 z p.at K xs h q us (opr o.CloseParen s) _ (j L.Plain [] z.returns h (Tuple z p.at es ∷ K) xs (opr o.CloseParen s) refl)

call_begins : (f : Callee) (ts : Text) → GR.CalleeText f ts → TX.OpensAs O.Call ts → (b : Bool) → TX.IsNoTypeStart b ts → (p : Pending) → is_comparison_start p.levels ≡ b → (us : Text) (K : List Frame) (xs : ItemsRead) →
    step_all (ts ++ us) (at (P.Want p) K xs) ≡ step_all (ts ++ us) (at (P.Function (R.Call p (GR.place ts))) K xs)
call_begins _ _ (GR.plain_name n q) is b nt p ld us K xs = ap (step_all us) (begin_opening_name O.Call n q p b ld nt is K xs)
call_begins _ _ (GR.base_name n q r s) is b nt p ld us K xs = ap (step_all (opr o.Dot r ∷ nam n s ∷ us)) (begin_opening_name O.Call (codes "Base") q p b ld nt is K xs)
call_begins _ _ (GR.base_operator x q r s t fn) is b nt p ld us K xs = ap (step_all (opr o.Dot r ∷ opr o.Colon s ∷ opr x t ∷ us)) (begin_opening_name O.Call (codes "Base") q p b ld nt is K xs)

pub call_read : (r b : Bool) (f : Callee) (es : Forms Expr) (ts us : Text) → TX.OpensAs O.Call ts → TX.IsNoTypeStart b ts → GR.CalleeText f ts → BracketsRead r es us →
    AtomRead r false b (M.call_expr (GR.place ts) (C.Function f) es) (ts ++ us)
call_read r b f es ts us is nt c i z h ld K xs =
    ap (λ x. step_all (ts ++ x) (at (P.Want z) K xs)) i.2
    ∙ step_all_then ts (opr o.OpenParen i.0) i.1 (at (P.Want z) K xs)
    ∙ ap (step_all i.1) (call_begins f ts c is b nt z ld (opr o.OpenParen i.0 ∷ []) K xs ∙ read_callee f ts c (R.Call z (GR.place ts)) K xs (opr o.OpenParen i.0) refl)
    ∙ i.3 z (GR.place ts) (C.Function f) K xs h

pub make_read : (r b : Bool) (n : List ℕ) (p : Spot) (t : TypeText) (es : Forms Expr) (ts us : Text) → p.marks.opening ≡ O.Make → is_left_type b p.marks.ahead ≡ false →
    IsType t (nam n p ∷ ts) → BracketsRead r es us → AtomRead r false b (M.call_expr p.at (C.Type (type_as_read t)) es) ((nam n p ∷ ts) ++ us)
make_read r b n p t es ts us is nt d i z h ld K xs =
    ap (λ x. step_all ((nam n p ∷ ts) ++ x) (at (P.Want z) K xs)) i.2
    ∙ step_all_then (nam n p ∷ ts) (opr o.OpenParen i.0) i.1 (at (P.Want z) K xs)
    ∙ ap (step_all i.1) (
    ap (step_all (ts ++ opr o.OpenParen i.0 ∷ [])) (begin_opening_name O.Make n p z b ld nt is K xs)
    ∙ read_type t (nam n p ∷ ts) d (G.Make z p.at) K xs (opr o.OpenParen i.0) refl
    )
    ∙ i.3 z p.at (C.Type (type_as_read t)) K xs h

pub if_end_read : (r b : Bool) (p q : Spot) (x : Branched) (ts : Text) → BranchesRead r p x ts → AtomRead r false b (M.if_expr p.at x) (ts ++ wrd w.End q ∷ [])
if_end_read r b p q x ts i z h ld K xs = (i z h K xs).0 q

pub if_else_read : (r b : Bool) (p q s : Spot) (x : Branched) (ss : Forms Stmt) (ts us : Text) → BranchesRead r p x ts → BlockRead r ss us →
    AtomRead r false b (M.if_else_expr p.at x ss) ((ts ++ wrd w.Else q ∷ us) ++ wrd w.End s ∷ [])
if_else_read r b p q s x ss ts us i j z h ld K xs =
    step_all_then_more ts (wrd w.Else q) us (wrd w.End s ∷ []) (at (P.Want z) K xs)
    ∙ ap (step_all (us ++ wrd w.End s ∷ [])) ((i z h K xs).2 q)
    ∙ j (B.Else z p.at x) h K xs (wrd w.End s) _ refl

pub begin_read : (r b : Bool) (p q : Spot) (ss : Forms Stmt) (ts : Text) → BlockRead r ss ts → AtomRead r false b (M.begin_expr p.at ss) ((wrd w.Begin p ∷ ts) ++ wrd w.End q ∷ [])
begin_read r b p q ss ts i z h ld K xs = i (B.Begin z p.at) h K xs (wrd w.End q) _ refl

pub latest_none_read : (r b : Bool) (n m : List ℕ) (f : Callee) (p q s v z : Spot) (ts : Text) → p.marks.opening ≡ O.Latest → is_left_type b p.marks.ahead ≡ false → GR.CalleeText f ts →
    AtomRead r false b (M.call_expr p.at (C.Latest f) M.no_forms) ((nam n p ∷ opr o.Dot q ∷ nam m s ∷ opr o.OpenParen v ∷ ts) ++ opr o.CloseParen z ∷ [])
latest_none_read r b n m f p q s v z ts is nt c y h ld K xs =
    ap (step_all ((opr o.Dot q ∷ nam m s ∷ opr o.OpenParen v ∷ ts) ++ opr o.CloseParen z ∷ [])) (begin_opening_name O.Latest n p y b ld nt is K xs)
    ∙ read_callee f ts c (R.Latest y p.at) K xs (opr o.CloseParen z) refl

pub latest_read : (r b : Bool) (n m : List ℕ) (f : Callee) (es : Forms Expr) (p q s v x z : Spot) (ts us : Text) → p.marks.opening ≡ O.Latest → is_left_type b p.marks.ahead ≡ false →
    GR.CalleeText f ts → ArgumentsRead r es us →
    AtomRead r false b (M.call_expr p.at (C.Latest f) es) (((nam n p ∷ opr o.Dot q ∷ nam m s ∷ opr o.OpenParen v ∷ ts) ++ opr o.Comma x ∷ us) ++ opr o.CloseParen z ∷ [])
latest_read r b n m f es p q s v x z ts us is nt c i y h ld K xs =
    step_all_then_more (nam n p ∷ opr o.Dot q ∷ nam m s ∷ opr o.OpenParen v ∷ ts) (opr o.Comma x) us (opr o.CloseParen z ∷ []) (at (P.Want y) K xs)
    ∙ ap (step_all (us ++ opr o.CloseParen z ∷ [])) (
    ap (step_all ((opr o.Dot q ∷ nam m s ∷ opr o.OpenParen v ∷ ts) ++ opr o.Comma x ∷ [])) (begin_opening_name O.Latest n p y b ld nt is K xs)
    ∙ read_callee f ts c (R.Latest y p.at) K xs (opr o.Comma x) refl
    )
    ∙ (i.0 y p.at (C.Latest f) K xs (at (P.Want (no_pending y.returns)) (Args y p.at (C.Latest f) M.no_forms ∷ K) xs) h (covers_itself (at (P.Want (no_pending y.returns)) (Args y p.at (C.Latest f) M.no_forms ∷ K) xs))).1 z

pub delete_read : (r b : Bool) (n m f : List ℕ) (t : TypeText) (p q s v x y z i k l : Spot) (ts : Text) → p.marks.opening ≡ O.Delete → is_left_type b p.marks.ahead ≡ false → IsType t ts →
    AtomRead r false b (M.delete_expr p.at (name_in f z) (type_as_read t))
    ((nam n p ∷ opr o.Dot q ∷ nam m s ∷ opr o.OpenParen v ∷ nam (codes "which") x ∷ opr o.OpenParen y ∷ nam f z ∷ opr o.Comma i ∷ ts) ++ opr o.CloseParen k ∷ opr o.CloseParen l ∷ [])
delete_read r b n m f t p q s v x y z i k l ts is nt d c h ld K xs =
    let us : Text = opr o.Dot q ∷ nam m s ∷ opr o.OpenParen v ∷ nam (codes "which") x ∷ opr o.OpenParen y ∷ nam f z ∷ opr o.Comma i ∷ ts in
    step_all_then (nam n p ∷ us) (opr o.CloseParen k) (opr o.CloseParen l ∷ []) (at (P.Want c) K xs)
    ∙ ap (step (opr o.CloseParen l)) (
    ap (step_all (us ++ opr o.CloseParen k ∷ [])) (begin_opening_name O.Delete n p c b ld nt is K xs)
    ∙ read_type t ts d (G.Delete c p.at (name_in f z)) K xs (opr o.CloseParen k) refl
    )

pub spawn_read : (r b : Bool) (n m : List ℕ) (e : Form Expr) (p q s : Spot) (ts : Text) → p.marks.opening ≡ O.Spawn → is_left_type b p.marks.ahead ≡ false → ExpressionRead false e ts →
    AtomRead r true b (M.spawn_expr p.at e) (nam n p ∷ opr o.Dot q ∷ tok (S.Macro m) s ∷ ts)
spawn_read r b n m e p q s ts is nt i z h ld K xs t c =
    ap (step_all ((opr o.Dot q ∷ tok (S.Macro m) s ∷ ts) ++ t ∷ [])) (begin_opening_name O.Spawn n p z b ld nt is K xs)
    ∙ i z.lead (X.Spawn z.levels p.at ∷ z.outer) false refl K xs t c

pub eval_long_read : (r b : Bool) (m : Form Method) (p : Spot) (ts : Text) → LongRead m ts → AtomRead r false b (M.eval_method p.at m) (tok (S.Macro (codes "eval")) p ∷ ts)
eval_long_read r b m p ts i z h ld K xs = i (H.Evaluated z p.at) K xs (at (P.AfterEval z p.at) K xs) (λ q. refl)

pub eval_short_read : (r b : Bool) (m : Form Method) (p : Spot) (ts : Text) → ShortRead m ts → AtomRead r true b (M.eval_method p.at m) (tok (S.Macro (codes "eval")) p ∷ ts)
eval_short_read r b m p ts i z h ld K xs t c =
    i.3 (H.Evaluated z p.at) K xs (at (P.AfterEval z p.at) K xs) (λ n q is. ap (λ x. MC.name_after_eval (TX.is_method x) q.marks n q.at z p.at K xs) is) t c
    ∙ ap (λ x. TU.token_after_expr t.lexeme.terminal t.lexeme.at z.lead (LV.expression z (LV.as_comparison z.levels (M.eval_method p.at x))) K xs) i.2

pub eval_block_read : (r b : Bool) (vs : Forms Eval) (p q s : Spot) (ts : Text) → EvalBlockRead vs ts →
    AtomRead r false b (M.eval_block p.at vs) ((tok (S.Macro (codes "eval")) p ∷ wrd w.Begin q ∷ ts) ++ wrd w.End s ∷ [])
eval_block_read r b vs p q s ts i z h ld K xs = i (E.Begin z p.at) K xs (wrd w.End s) _ refl

-- behind `@eval` an expression is read as an operand, and no method: a method begins otherwise
abbrev AlikeEval : Terminal → Marks → ℕ → Pending → ℕ → List Frame → ItemsRead → Type 0
AlikeEval s m a p b K xs = (step_by s m a (P.AfterEval p b) K xs ≡ step_by s m a (P.Want (MC.pending_of_eval p b)) K xs)
    ⊎ ((q : Pending) (k : List Frame) (ys : ItemsRead) → step_by s m a (P.Want q) k ys ≡ None)

eval_is_no_method : (x : Ahead) → TX.is_eval_name x ≡ true → TX.is_method x ≡ false
eval_is_no_method A.Method h = sym h
eval_is_no_method x h = refl

eval_alike : (s : Terminal) (m : Marks) → TX.is_evaluated_terminal s m ≡ true → (a : ℕ) (p : Pending) (b : ℕ) (K : List Frame) (xs : ItemsRead) → AlikeEval s m a p b K xs
eval_alike (S.Name n) m h a p b K xs = inl (ap (λ x. MC.name_after_eval x m n a p b K xs) (eval_is_no_method m.ahead h))
eval_alike (S.Word w.Begin) m h a p b K xs = inl (cc)
eval_alike (S.Word w.Function) m h a p b K xs = inr (λ q k ys. refl)
eval_alike s m h a p b K xs = inl refl

eval_begins : (e : Form Expr) (u : Marked) (us : Text) → ExpressionRead false e (u ∷ us) → (p : Pending) (b : ℕ) (K : List Frame) (xs : ItemsRead) (t : Marked) →
    AlikeEval u.lexeme.terminal u.marks u.lexeme.at p b K xs → step_all ((u ∷ us) ++ t ∷ []) (at (P.AfterEval p b) K xs) ≡ step_all ((u ∷ us) ++ t ∷ []) (at (P.Want (MC.pending_of_eval p b)) K xs)
eval_begins e u us i p b K xs t (inl h) = ap (step_all (us ++ t ∷ [])) h
eval_begins e u us i p b K xs t (inr h) =
    let l : Marked = tok S.Newline (record { at = 0; marks = u.marks }) in
    absurd (none_is_some (record { point = P.Entry; stack = []; script = M.with_item xs (M.expr_item e) }) (
    sym (none_step_all (us ++ l ∷ [])) ∙ ap (step_all (us ++ l ∷ [])) (sym (h (no_pending false) [] xs)) ∙ i L.Plain [] false refl [] xs l refl
    ))

pub eval_expr_read : (r b : Bool) (e : Form Expr) (p : Spot) (ts : Text) → TX.is_evaluated_start ts ≡ true → ExpressionRead false e ts →
    AtomRead r true b (M.eval_expr p.at e) (tok (S.Macro (codes "eval")) p ∷ ts)
eval_expr_read r b e p [] is i z h ld K xs t c = cc
eval_expr_read r b e p (u ∷ us) is i z h ld K xs t c =
    eval_begins e u us i z p.at K xs t (eval_alike u.lexeme.terminal u.marks is u.lexeme.at z p.at K xs)
    ∙ i z.lead (X.Eval z.levels p.at ∷ z.outer) false refl K xs t c

pub eval_quote_read : (r b : Bool) (n : List ℕ) (vs : Forms Eval) (p q s v z : Spot) (ts : Text) → p.marks.opening ≡ O.Quote → is_left_type b p.marks.ahead ≡ false → EvalBlockRead vs ts →
    AtomRead r false b (M.eval_quote p.at vs) ((nam n p ∷ opr o.OpenParen q ∷ wrd w.Quote s ∷ ts) ++ wrd w.End v ∷ opr o.CloseParen z ∷ [])
eval_quote_read r b n vs p q s v z ts is nt i y h ld K xs =
    step_all_then (nam n p ∷ opr o.OpenParen q ∷ wrd w.Quote s ∷ ts) (wrd w.End v) (opr o.CloseParen z ∷ []) (at (P.Want y) K xs)
    ∙ ap (step (opr o.CloseParen z)) (
    ap (step_all ((opr o.OpenParen q ∷ wrd w.Quote s ∷ ts) ++ wrd w.End v ∷ [])) (begin_opening_name O.Quote n p y b ld nt is K xs)
    ∙ i (E.Quote y p.at) K xs (wrd w.End v) _ refl
    )

pub fetch_read : (r b : Bool) (n : List ℕ) (e : Form Expr) (p q s : Spot) (ts : Text) → p.marks.opening ≡ O.Fetch → is_left_type b p.marks.ahead ≡ false → ExpressionRead r e ts →
    AtomRead r false b (M.fetch_expr p.at e) ((nam n p ∷ opr o.OpenParen q ∷ ts) ++ opr o.CloseParen s ∷ [])
fetch_read r b n e p q s ts is nt i z h ld K xs =
    ap (step_all ((opr o.OpenParen q ∷ ts) ++ opr o.CloseParen s ∷ [])) (begin_opening_name O.Fetch n p z b ld nt is K xs)
    ∙ i L.Plain [] z.returns h (Fetch z p.at ∷ K) xs (opr o.CloseParen s) refl

print_begin_opening : (x : Opening) (l : Bool) → TX.IsPrint x l → (n : List ℕ) (a : ℕ) (p : Pending) (K : List Frame) (xs : ItemsRead) → TU.begin_opening x n a p K xs ≡ at (P.Due p a (D.PrintOpen l)) K xs
print_begin_opening O.Println true h n a p K xs = refl
print_begin_opening O.Println false h n a p K xs = absurd h
print_begin_opening O.Print true h n a p K xs = absurd h
print_begin_opening O.Print false h n a p K xs = refl
print_begin_opening x l h n a p K xs = absurd h

pub print_none_read : (r b l : Bool) (n : List ℕ) (p q s : Spot) → TX.IsPrint p.marks.opening l → is_left_type b p.marks.ahead ≡ false →
    AtomRead r false b (M.print_expr p.at l M.no_forms) (nam n p ∷ opr o.OpenParen q ∷ opr o.CloseParen s ∷ [])
print_none_read r b l n p q s is nt z h ld K xs =
    ap (step_all (opr o.OpenParen q ∷ opr o.CloseParen s ∷ [])) (begin_opening_name p.marks.opening n p z b ld nt refl K xs ∙ print_begin_opening p.marks.opening l is n p.at z K xs)

pub print_read : (r b l : Bool) (n : List ℕ) (ps : Forms Piece) (p q s : Spot) (ts : Text) → TX.IsPrint p.marks.opening l → is_left_type b p.marks.ahead ≡ false → PiecesRead r ps ts →
    AtomRead r false b (M.print_expr p.at l ps) ((nam n p ∷ opr o.OpenParen q ∷ ts) ++ opr o.CloseParen s ∷ [])
print_read r b l n ps p q s ts is nt i z h ld K xs =
    ap (step_all ((opr o.OpenParen q ∷ ts) ++ opr o.CloseParen s ∷ [])) (begin_opening_name p.marks.opening n p z b ld nt refl K xs ∙ print_begin_opening p.marks.opening l is n p.at z K xs)
    ∙ (i z p.at l K xs (at (P.First z.returns) (Print z p.at l M.no_forms ∷ K) xs) h (first_piece_covers z.returns (Print z p.at l M.no_forms ∷ K) xs)).1 s

-- ---- arguments and pieces

pub no_arguments_read : (r : Bool) (p q : Spot) → BracketsRead r M.no_forms (opr o.OpenParen p ∷ opr o.CloseParen q ∷ [])
no_arguments_read r p q = (p, opr o.CloseParen q ∷ [], refl, λ z a f K xs h. refl)

pub some_arguments_read : (r : Bool) (es : Forms Expr) (p q : Spot) (ts : Text) → ArgumentsRead r es ts → BracketsRead r es (opr o.OpenParen p ∷ ts ++ opr o.CloseParen q ∷ [])
some_arguments_read r es p q ts i = (
  p,
  ts ++ opr o.CloseParen q ∷ [],
  refl,
  λ z a f K xs h. (i.0 z a f K xs (at (P.First z.returns) (Args z a f M.no_forms ∷ K) xs) h (first_covers z.returns (Args z a f M.no_forms ∷ K) xs)).1 q,
)

pub one_argument_read : (r : Bool) (e : Form Expr) (ts : Text) → ExpressionRead r e ts → ArgumentsRead r (M.with_expr M.no_forms e) ts
one_argument_read r e ts i = (
  λ p a f K xs s h c. (
    λ q. c ts (opr o.Comma q) _ (i L.Plain [] p.returns h (Args p a f M.no_forms ∷ K) xs (opr o.Comma q) refl),
    λ q. c ts (opr o.CloseParen q) _ (i L.Plain [] p.returns h (Args p a f M.no_forms ∷ K) xs (opr o.CloseParen q) refl),
  ),
  λ p a K xs h q us t v g.
      ap (step_all (us ++ t ∷ [])) (first_covers p.returns (Paren p a ∷ K) xs ts (opr o.Comma q) _ (i L.Plain [] p.returns h (Paren p a ∷ K) xs (opr o.Comma q) refl))
      ∙ again_covers p.returns (Tuple p a (M.with_expr M.no_forms e) ∷ K) xs us t v g,
)

pub more_arguments_read : (r : Bool) (es : Forms Expr) (e : Form Expr) (p : Spot) (ts us : Text) → ArgumentsRead r es ts → ExpressionRead r e us → ArgumentsRead r (M.with_expr es e) (ts ++ opr o.Comma p ∷ us)
more_arguments_read r es e y ts us i j = (
  λ p a f K xs s h c. (
    λ q. step_all_then_more ts (opr o.Comma y) us (opr o.Comma q ∷ []) s
        ∙ ap (step_all (us ++ opr o.Comma q ∷ [])) ((i.0 p a f K xs s h c).0 y)
        ∙ j L.Plain [] p.returns h (Args p a f es ∷ K) xs (opr o.Comma q) refl,
    λ q. step_all_then_more ts (opr o.Comma y) us (opr o.CloseParen q ∷ []) s
        ∙ ap (step_all (us ++ opr o.CloseParen q ∷ [])) ((i.0 p a f K xs s h c).0 y)
        ∙ j L.Plain [] p.returns h (Args p a f es ∷ K) xs (opr o.CloseParen q) refl,
  ),
  λ p a K xs h q vs t v g.
      ap (step_all (vs ++ t ∷ [])) (
      step_all_then_more ts (opr o.Comma y) us (opr o.Comma q ∷ []) (at (P.First p.returns) (Paren p a ∷ K) xs)
      ∙ i.1 p a K xs h y us (opr o.Comma q) _ (j L.Plain [] p.returns h (Tuple p a es ∷ K) xs (opr o.Comma q) refl)
      )
      ∙ g,
)

pub string_read : (r : Bool) (ps : Forms Piece) (n : List ℕ) (p : Spot) → PieceRead r ps (M.with_text ps p.at n) (tok (S.Text n) p ∷ [])
string_read r ps n p = λ z a l K xs s h c. (λ q. c (tok (S.Text n) p ∷ []) (opr o.Comma q) _ refl, λ q. c (tok (S.Text n) p ∷ []) (opr o.CloseParen q) _ refl)

pub show_read : (r : Bool) (ps : Forms Piece) (e : Form Expr) (ts : Text) → ExpressionRead r e ts → PieceRead r ps (M.with_show ps e) ts
show_read r ps e ts i = λ z a l K xs s h c. (
  λ q. c ts (opr o.Comma q) _ (piece_covers z.returns (Print z a l ps ∷ K) xs ts (opr o.Comma q) _ (i L.Plain [] z.returns h (Print z a l ps ∷ K) xs (opr o.Comma q) refl)),
  λ q. c ts (opr o.CloseParen q) _ (piece_covers z.returns (Print z a l ps ∷ K) xs ts (opr o.CloseParen q) _ (i L.Plain [] z.returns h (Print z a l ps ∷ K) xs (opr o.CloseParen q) refl)),
)

covers_is : (s r : Option State) → s ≡ r → Covers s r
covers_is s r e us t v h = ap (step_all (us ++ t ∷ [])) e ∙ h

pub more_pieces_read : (r : Bool) (ps qs : Forms Piece) (p : Spot) (ts us : Text) → PiecesRead r ps ts → PieceRead r ps qs us → PiecesRead r qs (ts ++ opr o.Comma p ∷ us)
more_pieces_read r ps qs y ts us i j = λ z a l K xs s h c.
    let m = j z a l K xs (step_all (ts ++ opr o.Comma y ∷ []) s) h (covers_is (step_all (ts ++ opr o.Comma y ∷ []) s) (at (P.Piece z.returns) (Print z a l ps ∷ K) xs) ((i z a l K xs s h c).0 y)) in (
      λ q. step_all_then_more ts (opr o.Comma y) us (opr o.Comma q ∷ []) s ∙ m.0 q,
      λ q. step_all_then_more ts (opr o.Comma y) us (opr o.CloseParen q ∷ []) s ∙ m.1 q,
    )
