-- Evaluated blocks: that each is read, rule by rule, where its parts are.
use Rattle.std.proofs.Common.{ℕ, true, false, List, [], ◌∷◌, ◌++◌, ◌≡◌, inl, inr, Some, refl, sym, ap, ◌∙◌}
use Rattle.jl_token.specs.declared.token.Operator.TheVariants as o
use Rattle.jl_typeread.specs.declared.terminal.Terminal.{Terminal}
use Rattle.jl_typeread.specs.declared.terminal.Terminal.TheVariants as S
use Rattle.jl_typeread.specs.declared.terminal.Word.TheVariants as w
use Rattle.jl_grammar.specs.declared.mark.Ahead.{Ahead}
use Rattle.jl_grammar.specs.declared.mark.Ahead.TheVariants as A
use Rattle.jl_grammar.specs.declared.mark.Marked.{Marked}
use Rattle.jl_grammar.specs.declared.mark.Marks.{Marks}
use Rattle.jl_grammar.specs.declared.state.EvalKind.{EvalKind}
use Rattle.jl_grammar.specs.declared.state.Form.{Form}
use Rattle.jl_grammar.specs.declared.state.Forms.{Forms}
use Rattle.jl_grammar.specs.declared.state.Frame.{Frame}
use Rattle.jl_grammar.specs.declared.state.Frame.TheVariants.{Evals}
use Rattle.jl_grammar.specs.declared.state.ItemsRead.{ItemsRead}
use Rattle.jl_grammar.specs.declared.state.Lead.{Lead}
use Rattle.jl_grammar.specs.declared.state.Lead.TheVariants as L
use Rattle.jl_grammar.specs.declared.state.Place.TheVariants as H
use Rattle.jl_grammar.specs.declared.state.Point.TheVariants as P
use Rattle.jl_grammar.specs.declared.state.State.{State}
use Rattle.jl_grammar.specs.declared.tree.Eval.{Eval}
use Rattle.jl_grammar.specs.declared.tree.Eval.TheVariants as V
use Rattle.jl_grammar.specs.declared.tree.Expr.{Expr}
use Rattle.jl_grammar.specs.declared.tree.Method.{Method}
use Rattle.jl_grammar.specs.Forms as M
use Rattle.jl_grammar.specs.Levels.{no_pending}
use Rattle.jl_grammar.specs.Machine as MC
use Rattle.jl_grammar.specs.Machine.{step, step_by, step_all}
use Rattle.jl_grammar.specs.Texts as TX
use Rattle.jl_grammar.specs.Texts.{Text, Spot, tok, opr, wrd, nam, name_in, Sep, lexemes, is_left_type}
use Rattle.jl_grammar.specs.Turns as TU
use Rattle.jl_grammar.specs.Turns.{at, type_start}
use Rattle.jl_grammar.proofs.Reading.{step_all_append, step_all_append_more, none_is_some, Alike, alike_step_all}
use Rattle.jl_grammar.proofs.Chains.{closing}
use Rattle.jl_grammar.proofs.AreRead.{ExpressionRead, LongRead, ShortRead, EvaluatedRead, EvalsBeforeRead, EvalBlockRead, evals_closes}

-- ---- evaluated blocks

eval_is_no_method : (x : Ahead) → TX.is_eval_name x ≡ true → TX.is_method x ≡ false
eval_is_no_method A.Method h = sym h
eval_is_no_method x h = refl

evals_alike : (s : Terminal) (m : Marks) → TX.is_eval_terminal s m ≡ true → (a : ℕ) (k : EvalKind) (vs : Forms Eval) (K : List Frame) (xs : ItemsRead) →
    Alike (step_by s m a P.Entry (Evals k vs ∷ K) xs) (step_by s m a (P.Want (no_pending false)) (Evals k vs ∷ K) xs)
evals_alike S.Newline m h a k vs K xs = inr refl
evals_alike S.End m h a k vs K xs = inr refl
evals_alike (S.Operator o.Semicolon) m h a k vs K xs = inr refl
evals_alike (S.Word w.End) m h a k vs K xs = inr refl
evals_alike (S.Word w.Function) m h a k vs K xs = inr refl
evals_alike (S.Name n) m h a k vs K xs = inl (ap (λ x. MC.begin_eval x m n a (Evals k vs ∷ K) xs) (eval_is_no_method m.ahead h))
evals_alike s m h a k vs K xs = inl refl

token_after_expr_evals : (s : Terminal) (b : ℕ) (k : EvalKind) (vs rs : Forms Eval) (l : Lead) (e : Form Expr) (K : List Frame) (xs : ItemsRead) → TU.with_eval vs l e ≡ Some rs →
    TU.token_after_expr s b l e (Evals k vs ∷ K) xs ≡ evals_closes s k rs K xs
token_after_expr_evals (S.Operator o.Semicolon) b k vs rs l e K xs h = ap (λ x. TU.end_eval x k K xs) h
token_after_expr_evals (S.Operator o.Comma) b k vs rs l e K xs h = refl
token_after_expr_evals S.Newline b k vs rs l e K xs h = ap (λ x. TU.end_eval x k K xs) h
token_after_expr_evals (S.Word v) b k vs rs l e K xs h = ap (λ x. TU.word_after_evals x v k K xs) h
token_after_expr_evals s b k vs rs l e K xs h = refl

evals_closing : (s : Terminal) (k : EvalKind) (vs : Forms Eval) (K : List Frame) (xs : ItemsRead) (v : State) → evals_closes s k vs K xs ≡ Some v → closing s ≡ true
evals_closing S.Newline k vs K xs v h = refl
evals_closing (S.Operator o.Semicolon) k vs K xs v h = refl
evals_closing (S.Word w.End) k vs K xs v h = refl
evals_closing s k vs K xs v h = absurd (none_is_some v h)

evals_entry : (s : Terminal) (m : Marks) (b : ℕ) (k : EvalKind) (vs : Forms Eval) (K : List Frame) (xs : ItemsRead) (v : State) →
    evals_closes s k vs K xs ≡ Some v → step_by s m b P.Entry (Evals k vs ∷ K) xs ≡ Some v
evals_entry S.Newline m b k vs K xs v h = h
evals_entry (S.Operator o.Semicolon) m b k vs K xs v h = h
evals_entry (S.Word w.End) m b k vs K xs v h = h
evals_entry s m b k vs K xs v h = absurd (none_is_some v h)

method_evals : (s : Terminal) (k : EvalKind) (vs : Forms Eval) (m : Form Method) (K : List Frame) (xs : ItemsRead) (v : State) →
    evals_closes s k (TU.with_method vs m) K xs ≡ Some v → MC.at_made_method s m (Evals k vs ∷ K) xs ≡ Some v
method_evals S.Newline k vs m K xs v h = h
method_evals (S.Operator o.Semicolon) k vs m K xs v h = h
method_evals (S.Word w.End) k vs m K xs v h = h
method_evals s k vs m K xs v h = absurd (none_is_some v h)

pub evaluated_long_read : (m : Form Method) (ts : Text) → LongRead m ts → EvaluatedRead (V.Method m.tree) m.depth ts
evaluated_long_read m ts i k vs K xs t v g =
    step_all_append ts (t ∷ []) (at P.Entry (Evals k vs ∷ K) xs)
    ∙ ap (step t) (i H.Entry (Evals k vs ∷ K) xs (at P.Entry (Evals k vs ∷ K) xs) (λ q. refl))
    ∙ method_evals t.lexeme.terminal k vs m K xs v g

pub evaluated_short_read : (m : Form Method) (ts : Text) → ShortRead m ts → EvaluatedRead (V.Method m.tree) m.depth ts
evaluated_short_read m ts i k vs K xs t v g =
    i.3 H.Entry (Evals k vs ∷ K) xs (at P.Entry (Evals k vs ∷ K) xs) (λ n q is. ap (λ x. MC.begin_eval (TX.is_method x) q.marks n q.at (Evals k vs ∷ K) xs) is)
    t (evals_closing t.lexeme.terminal k (TU.with_method vs m) K xs v g)
    ∙ token_after_expr_evals t.lexeme.terminal t.lexeme.at k vs (TU.with_method vs (M.short_method i.0 i.1)) (L.Short i.0) i.1 K xs refl
    ∙ ap (λ x. evals_closes t.lexeme.terminal k (TU.with_method vs x) K xs) i.2
    ∙ g

pub evaluated_expr_read : (e : Form Expr) (ts : Text) → TX.is_eval_start ts ≡ true → ExpressionRead false e ts → EvaluatedRead (V.Do e.tree) e.depth ts
evaluated_expr_read e [] is i k vs K xs t v g = cc
evaluated_expr_read e (u ∷ us) is i k vs K xs t v g =
    alike_step_all (us ++ t ∷ []) (step u (at P.Entry (Evals k vs ∷ K) xs)) (step u (at (P.Want (no_pending false)) (Evals k vs ∷ K) xs))
    (evals_alike u.lexeme.terminal u.marks is u.lexeme.at k vs K xs) v (
    i L.Plain [] false refl (Evals k vs ∷ K) xs t (evals_closing t.lexeme.terminal k (M.with_form vs (V.Do e.tree) e.depth) K xs v g)
    ∙ token_after_expr_evals t.lexeme.terminal t.lexeme.at k vs (M.with_form vs (V.Do e.tree) e.depth) L.Plain e K xs refl
    ∙ g
    )

sep_evals : (t : Marked) → Sep t → (k : EvalKind) (vs : Forms Eval) (K : List Frame) (xs : ItemsRead) → evals_closes t.lexeme.terminal k vs K xs ≡ at P.Entry (Evals k vs ∷ K) xs
sep_evals _ (TX.semicolon p) k vs K xs = refl
sep_evals _ (TX.newline p) k vs K xs = refl

pub no_evals_read : EvalsBeforeRead M.no_forms []
no_evals_read k K xs = refl

pub evals_again_read : (vs : Forms Eval) (t : Marked) (ts : Text) → EvalsBeforeRead vs ts → Sep t → EvalsBeforeRead vs (ts ++ t ∷ [])
evals_again_read vs t ts i s k K xs =
    step_all_append ts (t ∷ []) (at P.Entry (Evals k M.no_forms ∷ K) xs)
    ∙ ap (step t) (i k K xs)
    ∙ evals_entry t.lexeme.terminal t.marks t.lexeme.at k vs K xs _ (sep_evals t s k vs K xs)

pub evals_apart_read : (vs : Forms Eval) (t : Marked) (ts : Text) → EvalBlockRead vs ts → Sep t → EvalsBeforeRead vs (ts ++ t ∷ [])
evals_apart_read vs t ts i s k K xs = i k K xs t _ (sep_evals t s k vs K xs)

pub evals_one_read : (vs : Forms Eval) (x : Eval) (d : ℕ) (ts us : Text) → EvalsBeforeRead vs ts → EvaluatedRead x d us → EvalBlockRead (M.with_form vs x d) (ts ++ us)
evals_one_read vs x d ts us i j k K xs t v g =
    step_all_append_more ts us (t ∷ []) (at P.Entry (Evals k M.no_forms ∷ K) xs) ∙ ap (step_all (us ++ t ∷ [])) (i k K xs) ∙ j k vs K xs t v g

pub evals_before_read : (vs : Forms Eval) (ts : Text) → EvalsBeforeRead vs ts → EvalBlockRead vs ts
evals_before_read vs ts i k K xs t v g =
    step_all_append ts (t ∷ []) (at P.Entry (Evals k M.no_forms ∷ K) xs) ∙ ap (step t) (i k K xs) ∙ evals_entry t.lexeme.terminal t.marks t.lexeme.at k vs K xs v g
