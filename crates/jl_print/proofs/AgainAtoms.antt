-- Operands, printed anew.
use Rattle.std.proofs.Common.{◌≡◌, ℕ, ℤ, ◌≤◌, ◌-◌, max, Bool, true, false, List, [], ◌∷◌, ◌++◌, map, refl, sym, ap, ◌∙◌, subst, append_assoc, arith}
use Rattle.jl_token.specs.declared.token.Operator.TheVariants as o
use Rattle.jl_typeread.specs.declared.terminal.Terminal.TheVariants as S
use Rattle.jl_typeread.specs.declared.terminal.Word.TheVariants as w
use Rattle.jl_typeread.specs.declared.tree.TypeText.{TypeText}
use Rattle.jl_grammar.specs.declared.mark.Opening.{Opening}
use Rattle.jl_grammar.specs.declared.mark.Opening.TheVariants as O
use Rattle.jl_grammar.specs.declared.state.Called.TheVariants as C
use Rattle.jl_grammar.specs.declared.state.Form.{Form}
use Rattle.jl_grammar.specs.declared.state.Forms.{Forms}
use Rattle.jl_grammar.specs.declared.tree.Callee.{Callee}
use Rattle.jl_grammar.specs.declared.tree.Expr.{Expr}
use Rattle.jl_grammar.specs.declared.tree.Eval.TheViews as E
use Rattle.jl_grammar.specs.declared.tree.Expr.TheVariants as XV
use Rattle.jl_grammar.specs.Forms as M
use Rattle.jl_grammar.specs.Grammar as GR
use Rattle.jl_grammar.specs.Grammar.{place}
use Rattle.jl_grammar.specs.Texts.{Text, Spot, tok, opr, wrd, nam, is_left_type, is_plain, OpensAs, IsNoTypeStart, IsPrint}
use Rattle.jl_grammar.specs.Types.{type_as_read, IsType}
use Rattle.jl_print.specs.Printed.{in_parens, join, tuple_step, expr_terminals, type_terminals}
use Rattle.jl_print.specs.Placeless.{same_expr, same_callee, same_type}
use Rattle.jl_print.proofs.AgainChains.{ExprReplay}
use Rattle.jl_print.proofs.AgainFree.{free_replay, type_free}
use Rattle.jl_print.proofs.AgainHeads.{callee_free}
use Rattle.jl_print.proofs.AgainLikes.{LikeExpr, LikeForms, expr_form_like, made_terminals, type_as_read_depth, type_as_read_tree, type_as_read_same}
use Rattle.jl_print.proofs.Laid.{Headed, Replay, replay_two, replay_infix, replay_within, replay_as, replay_one, replay_empty, replay_printed, replay_text, replay_tokens}
use Rattle.jl_print.proofs.ListTerminals.{HasSome, printed_one, printed_more, same_more}
use Rattle.jl_print.proofs.TreeTerminals as T
use Rattle.jl_print.proofs.Wholes.{round}

-- ---- single tokens

fits-one : 1 ≤ 500
fits-one = omega arith

one-like : (a b : ℕ) (t u : Expr) → same_expr t ≡ same_expr u → LikeExpr (M.expr_form a 1 t) (M.expr_form b 1 u)
one-like a b t u e = expr_form_like a b 1 1 t u fits-one refl e

pub number_again : (h : ℕ → ℕ) (r b : Bool) (n : ℤ) (p : Spot) → ExprReplay (GR.Atom r false b) h (M.number p.at n) (tok (S.Number n) p ∷ [])
number_again h r b n p =
    replay_printed _ _ (made_terminals p.at 1 (XV.Number p.at n) _ fits-one (T.expr_number_terminals p.at n))
    (replay_one (S.Number n) p _ refl (λ q same. record { tree = M.number q.at n; derives = GR.number r b n q; like = one-like q.at p.at _ _ (T.expr_number_same q.at n ∙ sym (T.expr_number_same p.at n)) }))

pub true_again : (h : ℕ → ℕ) (r b : Bool) (p : Spot) → ExprReplay (GR.Atom r false b) h (M.truth p.at true) (wrd w.True p ∷ [])
true_again h r b p =
    replay_printed _ _ (made_terminals p.at 1 (XV.Bool p.at true) _ fits-one (T.expr_bool_terminals p.at true))
    (replay_one (S.Word w.True) p _ refl (λ q same. record { tree = M.truth q.at true; derives = GR.truth_true r b q; like = one-like q.at p.at _ _ (T.expr_bool_same q.at true ∙ sym (T.expr_bool_same p.at true)) }))

pub false_again : (h : ℕ → ℕ) (r b : Bool) (p : Spot) → ExprReplay (GR.Atom r false b) h (M.truth p.at false) (wrd w.False p ∷ [])
false_again h r b p =
    replay_printed _ _ (made_terminals p.at 1 (XV.Bool p.at false) _ fits-one (T.expr_bool_terminals p.at false))
    (replay_one (S.Word w.False) p _ refl (λ q same. record { tree = M.truth q.at false; derives = GR.truth_false r b q; like = one-like q.at p.at _ _ (T.expr_bool_same q.at false ∙ sym (T.expr_bool_same p.at false)) }))

pub nothing_again : (h : ℕ → ℕ) (r b : Bool) (p : Spot) → ExprReplay (GR.Atom r false b) h (M.nothing p.at) (wrd w.Nothing p ∷ [])
nothing_again h r b p =
    replay_printed _ _ (made_terminals p.at 1 (XV.Nothing p.at) _ fits-one (T.expr_nothing_terminals p.at))
    (replay_one (S.Word w.Nothing) p _ refl (λ q same. record { tree = M.nothing q.at; derives = GR.nothing r b q; like = one-like q.at p.at _ _ (T.expr_nothing_same q.at ∙ sym (T.expr_nothing_same p.at)) }))

-- ---- what the marks of a first token say, said of the printed one

pub same_type_mark : (b : Bool) (q p : Spot) → q.marks ≡ p.marks → is_left_type b p.marks.ahead ≡ false → is_left_type b q.marks.ahead ≡ false
same_type_mark b q p e n = ap (λ m. is_left_type b m.ahead) e ∙ n

pub same_opening : (x : Opening) (q p : Spot) → q.marks ≡ p.marks → p.marks.opening ≡ x → q.marks.opening ≡ x
same_opening x q p e n = ap (λ m. m.opening) e ∙ n

pub same_IsPrint : (l : Bool) (q p : Spot) → q.marks ≡ p.marks → IsPrint p.marks.opening l → IsPrint q.marks.opening l
same_IsPrint l q p e n = subst (λ m. IsPrint m.opening l) (sym e) n

same-IsNoTypeStart : (b : Bool) (ts us : Text) → Headed ts us → IsNoTypeStart b ts → IsNoTypeStart b us
same-IsNoTypeStart b [] us g n = absurd g
same-IsNoTypeStart b (t ∷ ts) [] g n = absurd g
same-IsNoTypeStart b (t ∷ ts) (u ∷ us) g n = ap (λ m. is_left_type b m.ahead) g.1 ∙ n

same-opens : (x : Opening) (ts us : Text) → Headed ts us → OpensAs x ts → OpensAs x us
same-opens x [] us g n = absurd g
same-opens x (t ∷ ts) [] g n = absurd g
same-opens x (t ∷ ts) (u ∷ us) g n = ap (λ m. m.opening) g.1 ∙ n

pub name_again : (h : ℕ → ℕ) (r b : Bool) (n : List ℕ) (p : Spot) → is_plain p.marks.opening ≡ true → is_left_type b p.marks.ahead ≡ false → ExprReplay (GR.Atom r false b) h (M.name p.at n) (nam n p ∷ [])
name_again h r b n p is nt =
    replay_printed _ _ (made_terminals p.at 1 (XV.Name p.at n) _ fits-one (T.expr_name_terminals p.at n))
    (replay_one (S.Name n) p _ refl (λ q same. record {
      tree = M.name q.at n;
      derives = GR.name r b n q (ap (λ m. is_plain m.opening) same ∙ is) (same_type_mark b q p same nt);
      like = one-like q.at p.at _ _ (T.expr_name_same q.at n ∙ sym (T.expr_name_same p.at n));
    }))

-- ---- parentheses and tuples

pub paren_again : {h : ℕ → ℕ} (r b : Bool) (e : Form Expr) (p q : Spot) (ts : Text) → is_left_type b p.marks.ahead ≡ false → (M.paren p.at e).depth ≤ 500 → ExprReplay (GR.Expression r) h e ts
    → ExprReplay (GR.Atom r false b) h (M.paren p.at e) (opr o.OpenParen p ∷ ts ++ opr o.CloseParen q ∷ [])
paren_again r b e p q ts nt fits f =
    replay_printed _ _ (made_terminals p.at (M.depth_around e.depth) (E.Paren p.at e.tree) _ fits (T.expr_paren_terminals p.at e.tree))
    (replay_within (S.Operator o.OpenParen) (S.Operator o.CloseParen) p q (M.paren p.at e) round f
    (λ k l a ps same d m g. record {
      tree = M.paren k.at a;
      derives = GR.paren r b a k l ps (same_type_mark b k p same nt) d;
      like = expr_form_like _ _ _ _ _ _ fits (ap M.depth_around m.1) (T.expr_paren_same k.at a.tree ∙ ap (E.Paren 0) m.0 ∙ sym (T.expr_paren_same p.at e.tree));
    }))

tuple-like : (a b : ℕ) (es ds : Forms Expr) → (M.tuple b ds).depth ≤ 500 → LikeForms same_expr es ds → LikeExpr (M.tuple a es) (M.tuple b ds)
tuple-like a b es ds fits l = expr_form_like _ _ _ _ _ _ fits (ap M.depth_around l.1) (T.expr_tuple_same a es.trees ∙ ap (E.Tuple 0) l.0 ∙ sym (T.expr_tuple_same b ds.trees))

pub tuple_none_again : (h : ℕ → ℕ) (r b : Bool) (p q : Spot) → is_left_type b p.marks.ahead ≡ false → ExprReplay (GR.Atom r false b) h (M.tuple p.at M.no_forms) (opr o.OpenParen p ∷ opr o.CloseParen q ∷ [])
tuple_none_again h r b p q nt =
    let fits : M.depth_around 0 ≤ 500 = omega arith in
    replay_printed _ _ (made_terminals p.at (M.depth_around 0) (E.Tuple p.at []) _ fits (T.expr_tuple_terminals p.at []))
    (replay_empty (S.Operator o.OpenParen) (S.Operator o.CloseParen) p q _ round
    (λ k l same. record { tree = M.tuple k.at M.no_forms; derives = GR.tuple_none r b k l (same_type_mark b k p same nt); like = tuple-like k.at p.at M.no_forms M.no_forms fits (refl, refl) }))

-- an expression and a comma
abbrev Trailing : Bool → Form Expr → Text → Type 0
Trailing r e l = (ps : Text) × (q : Spot) × (l ≡ ps ++ opr o.Comma q ∷ []) × GR.Expression r e ps

pub tuple_one_again : {h : ℕ → ℕ} (r b : Bool) (e : Form Expr) (p q s : Spot) (ts : Text) → is_left_type b p.marks.ahead ≡ false → (M.tuple p.at (M.with_expr M.no_forms e)).depth ≤ 500 → ExprReplay (GR.Expression r) h e ts
    → ExprReplay (GR.Atom r false b) h (M.tuple p.at (M.with_expr M.no_forms e)) (opr o.OpenParen p ∷ ts ++ opr o.Comma q ∷ opr o.CloseParen s ∷ [])
tuple_one_again {h} r b e p q s ts nt fits f =
    let es = M.with_expr M.no_forms e in
    replay_text _ _ (ap (λ l. opr o.OpenParen p ∷ l) (append_assoc ts (opr o.Comma q ∷ []) (opr o.CloseParen s ∷ [])))
    (replay_printed _ _ (made_terminals p.at (M.depth_around es.depth) (E.Tuple p.at es.trees) _ fits (T.expr_tuple_terminals p.at es.trees ∙ ap (λ l. S.Operator o.OpenParen ∷ l) (sym (append_assoc (expr_terminals e.tree) (S.Operator o.Comma ∷ []) (S.Operator o.CloseParen ∷ [])))))
    (replay_within {P = Trailing r} {R = LikeExpr} (S.Operator o.OpenParen) (S.Operator o.CloseParen) p s (M.tuple p.at es) round
    (replay_two {Q = Trailing r} {RQ = LikeExpr} e f (replay_tokens h (S.Operator o.Comma) [] (refl, tt) (q, tt))
    (λ a z ps qs d t l m u v. record { tree = a; derives = (ps, z.0, ap (λ x. ps ++ x) t, d); like = l }))
    (λ k l a ps same d m g. record {
      tree = M.tuple k.at (M.with_expr M.no_forms a);
      derives = subst (λ x. GR.Atom r false b (M.tuple k.at (M.with_expr M.no_forms a)) (opr o.OpenParen k ∷ x)) (sym (ap (λ x. x ++ opr o.CloseParen l ∷ []) d.2 ∙ append_assoc d.0 (opr o.Comma d.1 ∷ []) (opr o.CloseParen l ∷ [])))
          (GR.tuple_one r b a k d.1 l d.0 (same_type_mark b k p same nt) d.3);
      like = tuple-like k.at p.at (M.with_expr M.no_forms a) es fits (ap (λ x. x ∷ []) m.0, ap (max 0) m.1);
    })))

-- expressions, a comma and one more
abbrev Parts : Bool → Forms Expr × Form Expr → Text → Type 0
Parts r z l = (ps : Text) × (qs : Text) × (q : Spot) × (l ≡ ps ++ opr o.Comma q ∷ qs) × GR.Arguments r z.0 ps × GR.Expression r z.1 qs

abbrev LikeParts : Forms Expr × Form Expr → Forms Expr × Form Expr → Type 0
LikeParts y z = LikeForms same_expr y.0 z.0 × LikeExpr y.1 z.1

abbrev pub ExprsReplay : (Forms Expr → Text → Type 0) → (ℕ → ℕ) → Forms Expr → Text → Type 0
ExprsReplay P h es ts = Replay P (LikeForms same_expr) h es ts (join (map expr_terminals es.trees))

with-like : (es ds : Forms Expr) (a e : Form Expr) → LikeForms same_expr es ds → LikeExpr a e → LikeForms same_expr (M.with_expr es a) (M.with_expr ds e)
with-like es ds a e l m = (same_more same_expr es.trees ds.trees a.tree e.tree l.0 m.0, ap (λ n. max n a.depth) l.1 ∙ ap (max ds.depth) m.1)

-- a tuple of two parts or more is printed as arguments are
tuple-parts : (es : List Expr) (x : Expr) → HasSome es → tuple_step (map expr_terminals (es ++ x ∷ [])) ≡ in_parens (map expr_terminals (es ++ x ∷ []))
tuple-parts es x s = subst (λ l. tuple_step (map expr_terminals (l ++ x ∷ [])) ≡ in_parens (map expr_terminals (l ++ x ∷ []))) (sym s.2) (two s.1)
  where
    two : (ys : List Expr) → tuple_step (map expr_terminals ((s.0 ∷ ys) ++ x ∷ [])) ≡ in_parens (map expr_terminals ((s.0 ∷ ys) ++ x ∷ []))
    two [] = refl
    two (y ∷ ys) = refl

pub tuple_again : {h : ℕ → ℕ} (r b : Bool) (e : Form Expr) (es : Forms Expr) (p q s : Spot) (ts us : Text) → is_left_type b p.marks.ahead ≡ false → (M.tuple p.at (M.with_expr es e)).depth ≤ 500 → HasSome es.trees
    → ExprsReplay (GR.Arguments r) h es ts → ExprReplay (GR.Expression r) h e us → ExprReplay (GR.Atom r false b) h (M.tuple p.at (M.with_expr es e)) (opr o.OpenParen p ∷ (ts ++ opr o.Comma q ∷ us) ++ opr o.CloseParen s ∷ [])
tuple_again r b e es p q s ts us nt fits some f g =
    let ds = M.with_expr es e in
    replay_printed _ _ (made_terminals p.at (M.depth_around ds.depth) (E.Tuple p.at ds.trees) _ fits
    (T.expr_tuple_terminals p.at ds.trees ∙ tuple-parts es.trees e.tree some ∙ ap (λ l. S.Operator o.OpenParen ∷ l ++ S.Operator o.CloseParen ∷ []) (printed_more expr_terminals es.trees e.tree some)))
    (replay_within {P = Parts r} {R = LikeParts} (S.Operator o.OpenParen) (S.Operator o.CloseParen) p s (M.tuple p.at ds) round
    (replay_infix {Q = Parts r} {RQ = LikeParts} (S.Operator o.Comma) q (es, e) refl f g (λ k a z ps qs d c l m u v. record { tree = (a, z); derives = (ps, qs, k, refl, d, c); like = (l, m) }))
    (λ k l a ps same d m g. record {
      tree = M.tuple k.at (M.with_expr a.0 a.1);
      derives = subst (λ x. GR.Atom r false b (M.tuple k.at (M.with_expr a.0 a.1)) (opr o.OpenParen k ∷ x ++ opr o.CloseParen l ∷ [])) (sym d.3) (GR.tuple r b a.1 a.1 a.0 k d.2 l d.0 d.1 (same_type_mark b k p same nt) d.4 d.5);
      like = tuple-like k.at p.at (M.with_expr a.0 a.1) ds fits (with-like a.0 es a.1 e m.0 m.1);
    }))

-- ---- arguments

pub one_argument_again : {h : ℕ → ℕ} (r : Bool) (e : Form Expr) (ts : Text) → ExprReplay (GR.Expression r) h e ts → ExprsReplay (GR.Arguments r) h (M.with_expr M.no_forms e) ts
one_argument_again r e ts f =
    replay_printed _ _ (printed_one expr_terminals e.tree) (replay_as (M.with_expr M.no_forms e) f (λ a ps d l g. record { tree = M.with_expr M.no_forms a; derives = GR.one_argument r a ps d; like = (ap (λ x. x ∷ []) l.0, ap (max 0) l.1) }))

pub more_arguments_again : {h : ℕ → ℕ} (r : Bool) (es : Forms Expr) (e : Form Expr) (p : Spot) (ts us : Text) → HasSome es.trees → ExprsReplay (GR.Arguments r) h es ts → ExprReplay (GR.Expression r) h e us → ExprsReplay (GR.Arguments r) h (M.with_expr es e) (ts ++ opr o.Comma p ∷ us)
more_arguments_again r es e p ts us some f g =
    replay_printed _ _ (printed_more expr_terminals es.trees e.tree some)
    (replay_infix (S.Operator o.Comma) p (M.with_expr es e) refl f g (λ q a z ps qs d c l m u v. record { tree = M.with_expr a z; derives = GR.more_arguments r a z q ps qs d c; like = with-like a es z e l m }))

pub no_arguments_again : (h : ℕ → ℕ) (r : Bool) (p q : Spot) → Replay (GR.Brackets r) (LikeForms same_expr) h M.no_forms (opr o.OpenParen p ∷ opr o.CloseParen q ∷ []) (in_parens [])
no_arguments_again h r p q = replay_empty (S.Operator o.OpenParen) (S.Operator o.CloseParen) p q M.no_forms round (λ k l same. record { tree = M.no_forms; derives = GR.no_arguments r k l; like = (refl, refl) })

pub some_arguments_again : {h : ℕ → ℕ} (r : Bool) (es : Forms Expr) (p q : Spot) (ts : Text) → ExprsReplay (GR.Arguments r) h es ts → Replay (GR.Brackets r) (LikeForms same_expr) h es (opr o.OpenParen p ∷ ts ++ opr o.CloseParen q ∷ []) (in_parens (map expr_terminals es.trees))
some_arguments_again r es p q ts f =
    replay_within (S.Operator o.OpenParen) (S.Operator o.CloseParen) p q es round f (λ k l a ps same d m g. record { tree = a; derives = GR.some_arguments r a k l ps d; like = m })

-- ---- calls

pub call_again : {h : ℕ → ℕ} (r b : Bool) (f : Callee) (es : Forms Expr) (ts us : Text) → OpensAs O.Call ts → IsNoTypeStart b ts → GR.CalleeText f ts → (M.call_expr (place ts) (C.Function f) es).depth ≤ 500
    → Replay (GR.Brackets r) (LikeForms same_expr) h es us (in_parens (map expr_terminals es.trees)) → ExprReplay (GR.Atom r false b) h (M.call_expr (place ts) (C.Function f) es) (ts ++ us)
call_again {h} r b f es ts us is nt c fits g =
    replay_printed _ _ (made_terminals (place ts) (M.depth_around es.depth) (E.Call (place ts) f es.trees) _ fits (T.expr_call_terminals (place ts) f es.trees))
    (replay_two (M.call_expr (place ts) (C.Function f) es) (free_replay (callee_free h f ts c)) g
    (λ a z ps qs d e l m u v. record {
      tree = M.call_expr (place ps) (C.Function a) z;
      derives = GR.call r b a z ps qs (same-opens O.Call ts ps u is) (same-IsNoTypeStart b ts ps u nt) d e;
      like = expr_form_like _ _ _ _ _ _ fits (ap M.depth_around m.1)
          (T.expr_call_same (place ps) a z.trees ∙ ap (λ x. E.Call 0 x (map same_expr z.trees)) l ∙ ap (E.Call 0 (same_callee f)) m.0 ∙ sym (T.expr_call_same (place ts) f es.trees));
    }))

-- a text that begins with a name
headed-name : (n : List ℕ) (p : Spot) (ts us : Text) → Headed (nam n p ∷ ts) us → (q : Spot) × (vs : Text) × (us ≡ nam n q ∷ vs) × (q.marks ≡ p.marks)
headed-name n p ts [] g = absurd g
headed-name n p ts (u ∷ us) g = (record { at = u.lexeme.at; marks = u.marks }, us, (λ i. record { lexeme = record { terminal = g.0 i; at = u.lexeme.at }; marks = u.marks } ∷ us), g.1)

make-depth : (t e : ℕ) → M.depth_around (max (t - 1) e) ≤ 500 → t ≤ 500
make-depth t e l = omega (arith, l)

pub make_again : {h : ℕ → ℕ} (r b : Bool) (n : List ℕ) (p : Spot) (t : TypeText) (es : Forms Expr) (ts us : Text) → p.marks.opening ≡ O.Make → is_left_type b p.marks.ahead ≡ false → IsType t (nam n p ∷ ts)
    → (M.call_expr p.at (C.Type (type_as_read t)) es).depth ≤ 500 → Replay (GR.Brackets r) (LikeForms same_expr) h es us (in_parens (map expr_terminals es.trees))
    → ExprReplay (GR.Atom r false b) h (M.call_expr p.at (C.Type (type_as_read t)) es) ((nam n p ∷ ts) ++ us)
make_again {h} r b n p t es ts us is nt c fits g =
    let k : (type_as_read t).depth ≤ 500 = make-depth (type_as_read t).depth es.depth fits in
    replay_printed _ _ (made_terminals p.at (M.depth_around (max ((type_as_read t).depth - 1) es.depth)) (E.Make p.at (type_as_read t).tree es.trees) _ fits
    (T.expr_make_terminals p.at (type_as_read t).tree es.trees ∙ ap (λ x. type_terminals x ++ in_parens (map expr_terminals es.trees)) (type_as_read_tree t k)))
    (replay_two (M.call_expr p.at (C.Type (type_as_read t)) es) (free_replay (type_free h t (nam n p ∷ ts) c)) g
    (λ a z ps qs d e l m u v.
    let y = headed-name n p ts ps u in
    record {
      tree = M.call_expr y.0.at (C.Type (type_as_read a)) z;
      derives = subst (λ x. GR.Atom r false b (M.call_expr y.0.at (C.Type (type_as_read a)) z) (x ++ qs)) (sym y.2)
          (GR.make r b n y.0 a z y.1 qs (same_opening O.Make y.0 p y.3 is) (same_type_mark b y.0 p y.3 nt) (subst (IsType a) y.2 d) e);
      like = expr_form_like _ _ _ _ _ _ fits (ap (λ i. M.depth_around (max (i - 1) z.depth)) (type_as_read_depth a t l.depth) ∙ ap (λ i. M.depth_around (max ((type_as_read t).depth - 1) i)) m.1)
          (T.expr_make_same y.0.at (type_as_read a).tree z.trees ∙ ap (λ x. E.Make 0 x (map same_expr z.trees)) (type_as_read_same a t l k) ∙ ap (E.Make 0 (same_type (type_as_read t).tree)) m.0 ∙ sym (T.expr_make_same p.at (type_as_read t).tree es.trees));
    }))
