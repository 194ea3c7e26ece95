-- Chains of operators, printed anew.
use Rattle.std.proofs.Common.{◌≡◌, ℕ, ℤ, ◌≤◌, max, List, [], ◌∷◌, ◌++◌, refl, sym, ap, ◌∙◌, subst, append_assoc, arith}
use Rattle.jl_token.specs.declared.token.Operator.{Operator}
use Rattle.jl_token.specs.declared.token.Operator.TheVariants as o
use Rattle.jl_typeread.specs.declared.terminal.Terminal.{Terminal}
use Rattle.jl_typeread.specs.declared.terminal.Terminal.TheVariants as S
use Rattle.jl_typeread.specs.declared.terminal.Word.TheVariants as w
use Rattle.jl_typeread.specs.declared.tree.TypeText.{TypeText}
use Rattle.jl_grammar.specs.declared.mark.Mate.TheVariants.{Neither}
use Rattle.jl_grammar.specs.declared.state.Form.{Form}
use Rattle.jl_grammar.specs.declared.state.PrefixAt.{PrefixAt}
use Rattle.jl_grammar.specs.declared.tree.Expr.{Expr}
use Rattle.jl_grammar.specs.declared.tree.Infix.{Infix}
use Rattle.jl_grammar.specs.declared.tree.Prefix.{Prefix}
use Rattle.jl_grammar.specs.declared.tree.Eval.TheViews as E
use Rattle.jl_grammar.specs.declared.tree.Expr.TheVariants as XV
use Rattle.jl_grammar.specs.Forms as M
use Rattle.jl_grammar.specs.Grammar.{place}
use Rattle.jl_grammar.specs.Marks.{mate_of}
use Rattle.jl_grammar.specs.Texts.{Text, Spot, tok, opr, wrd, nam, name_in, IsSubStart}
use Rattle.jl_grammar.specs.Types.{type_as_read, IsType}
use Rattle.jl_print.specs.Printed.{expr_terminals, type_terminals, infix_terminal, prefix_terminal}
use Rattle.jl_print.specs.Placeless.{same_expr, same_type}
use Rattle.jl_print.proofs.AgainFree.{free_replay, type_free}
use Rattle.jl_print.proofs.AgainLikes.{LikeExpr, expr_form_like, made_terminals, left_fits, right_fits, type_as_read_depth, type_as_read_tree, type_as_read_same}
use Rattle.jl_print.proofs.Laid.{Headed, Replay, replay_two, replay_infix, replay_cons, replay_within, replay_as, replay_printed, replay_tokens, Tokens}
use Rattle.jl_print.proofs.TreeTerminals as T
use Rattle.jl_print.proofs.Wholes.{square}

abbrev pub ExprReplay : (Form Expr → Text → Type 0) → (ℕ → ℕ) → Form Expr → Text → Type 0
ExprReplay P h e ts = Replay P LikeExpr h e ts (expr_terminals e.tree)

-- a form of a wider kind with the same tree
pub widen : {P Q : Form Expr → Text → Type 0} {h : ℕ → ℕ} (e : Form Expr) (ts : Text) → ((f : Form Expr) (us : Text) → P f us → Headed ts us → Q f us) → ExprReplay P h e ts → ExprReplay Q h e ts
widen e ts rule f = replay_as e f (λ a ps d l g. record { tree = a; derives = rule a ps d g; like = l })

-- ---- operators with two operands

infix_expr-like : (a : ℕ) (e d f g : Form Expr) (i : Infix) → (M.infix_expr e i d).depth ≤ 500 → LikeExpr f e → LikeExpr g d → LikeExpr (M.infix_expr f i g) (M.infix_expr e i d)
infix_expr-like a e d f g i fits k l =
    expr_form_like _ _ _ _ _ _ fits (ap (λ n. M.depth_around (max n g.depth)) k.1 ∙ ap (λ n. M.depth_around (max e.depth n)) l.1)
    (T.expr_infix_same f.at i f.tree g.tree ∙ ap (λ x. E.Infix 0 i x (same_expr g.tree)) k.0 ∙ ap (λ x. E.Infix 0 i (same_expr e.tree) x) l.0 ∙ sym (T.expr_infix_same e.at i e.tree d.tree))

infixed-terminals : (e d : Form Expr) (i : Infix) (x : Operator) → S.Operator x ≡ infix_terminal i → (M.infix_expr e i d).depth ≤ 500 → expr_terminals (M.infix_expr e i d).tree ≡ expr_terminals e.tree ++ S.Operator x ∷ expr_terminals d.tree
infixed-terminals e d i x s fits =
    made_terminals e.at (M.depth_around (max e.depth d.depth)) (E.Infix e.at i e.tree d.tree) _ fits (T.expr_infix_terminals e.at i e.tree d.tree ∙ ap (λ k. expr_terminals e.tree ++ k ∷ expr_terminals d.tree) (sym s))

pub infix_again : {P P1 Q : Form Expr → Text → Type 0} {h : ℕ → ℕ} (x : Operator) (i : Infix) (e d : Form Expr) (p : Spot) (ts us : Text) → S.Operator x ≡ infix_terminal i → mate_of x ≡ Neither → (M.infix_expr e i d).depth ≤ 500
    → ExprReplay P h e ts → ExprReplay P1 h d us → ((f g : Form Expr) (q : Spot) (ps qs : Text) → P f ps → P1 g qs → Q (M.infix_expr f i g) (ps ++ opr x q ∷ qs)) → ExprReplay Q h (M.infix_expr e i d) (ts ++ opr x p ∷ us)
infix_again x i e d p ts us s n fits f g rule =
    replay_printed _ _ (infixed-terminals e d i x s fits)
    (replay_infix (S.Operator x) p (M.infix_expr e i d) n f g
    (λ q a b ps qs j k l m u v. record { tree = M.infix_expr a i b; derives = rule a b q ps qs j k; like = infix_expr-like 0 e d a b i fits l m }))

-- ---- operators with one operand

abbrev at_prefix : Spot → Prefix → PrefixAt
at_prefix p u = record { at = p.at; prefix = u }

pub prefix_again : {P Q : Form Expr → Text → Type 0} {h : ℕ → ℕ} (x : Operator) (u : Prefix) (e : Form Expr) (p : Spot) (ts : Text) → S.Operator x ≡ prefix_terminal u → mate_of x ≡ Neither → (M.prefix_expr (at_prefix p u) e).depth ≤ 500
    → ExprReplay P h e ts → ((f : Form Expr) (q : Spot) (ps : Text) → P f ps → Q (M.prefix_expr (at_prefix q u) f) (opr x q ∷ ps)) → ExprReplay Q h (M.prefix_expr (at_prefix p u) e) (opr x p ∷ ts)
prefix_again x u e p ts s n fits f rule =
    replay_printed _ _ (made_terminals p.at (M.depth_around e.depth) (E.Prefix p.at u e.tree) _ fits (T.expr_prefix_terminals p.at u e.tree ∙ ap (λ k. k ∷ expr_terminals e.tree) (sym s)))
    (replay_cons (S.Operator x) p (M.prefix_expr (at_prefix p u) e) n f
    (λ q a ps same d l g. record {
      tree = M.prefix_expr (at_prefix q u) a;
      derives = rule a q ps d;
      like = expr_form_like _ _ _ _ _ _ fits (ap M.depth_around l.1) (T.expr_prefix_same q.at u a.tree ∙ ap (E.Prefix 0 u) l.0 ∙ sym (T.expr_prefix_same p.at u e.tree));
    }))

-- ---- fields and parts

pub field_again : {P Q : Form Expr → Text → Type 0} {h : ℕ → ℕ} (e : Form Expr) (n : List ℕ) (p q : Spot) (ts : Text) → (M.field e (name_in n q)).depth ≤ 500
    → ExprReplay P h e ts → ((f : Form Expr) (k l : Spot) (ps : Text) → P f ps → Q (M.field f (name_in n l)) (ps ++ opr o.Dot k ∷ nam n l ∷ [])) → ExprReplay Q h (M.field e (name_in n q)) (ts ++ opr o.Dot p ∷ nam n q ∷ [])
field_again {Q = Q} {h = h} e n p q ts fits f rule =
    replay_printed _ _ (made_terminals e.at (M.depth_around e.depth) (E.Field e.at e.tree (name_in n q)) _ fits (T.expr_field_terminals e.at e.tree (name_in n q)))
    (replay_two (M.field e (name_in n q)) f (replay_tokens h (S.Operator o.Dot) (S.Name n ∷ []) (refl, (refl, tt)) (p, (q, tt)))
    (λ a b ps qs d t l m u v. record {
      tree = M.field a (name_in n b.1.0);
      derives = subst (λ z. Q (M.field a (name_in n b.1.0)) (ps ++ z)) (sym t) (rule a b.0 b.1.0 ps d);
      like = expr_form_like _ _ _ _ _ _ fits (ap M.depth_around l.1) (T.expr_field_same a.at a.tree (name_in n b.1.0) ∙ ap (λ z. E.Field 0 z (record { at = 0; bytes = n })) l.0 ∙ sym (T.expr_field_same e.at e.tree (name_in n q)));
    }))

-- `[`, a number and `]`
abbrev index_terminals : ℤ → List Terminal
index_terminals n = S.Operator o.OpenBracket ∷ S.Number n ∷ S.Operator o.CloseBracket ∷ []

index-replay : (h : ℕ → ℕ) (n : ℤ) (p q s : Spot) → Replay (Tokens (index_terminals n)) (λ a b. Unit {0}) h (p, (q, (s, tt))) (opr o.OpenBracket p ∷ tok (S.Number n) q ∷ opr o.CloseBracket s ∷ []) (index_terminals n)
index-replay h n p q s =
    replay_within (S.Operator o.OpenBracket) (S.Operator o.CloseBracket) p s (p, (q, (s, tt))) square (replay_tokens h (S.Number n) [] (refl, tt) (q, tt))
    (λ k l a ps same d e g. record { tree = (k, (a.0, (l, tt))); derives = ap (λ z. opr o.OpenBracket k ∷ z ++ opr o.CloseBracket l ∷ []) d; like = tt })

pub part_again : {P Q : Form Expr → Text → Type 0} {h : ℕ → ℕ} (e : Form Expr) (n : ℤ) (p q s : Spot) (ts : Text) → (M.part e n).depth ≤ 500
    → ExprReplay P h e ts → ((f : Form Expr) (k l m : Spot) (ps : Text) → P f ps → Q (M.part f n) (ps ++ opr o.OpenBracket k ∷ tok (S.Number n) l ∷ opr o.CloseBracket m ∷ []))
    → ExprReplay Q h (M.part e n) (ts ++ opr o.OpenBracket p ∷ tok (S.Number n) q ∷ opr o.CloseBracket s ∷ [])
part_again {Q = Q} {h = h} e n p q s ts fits f rule =
    replay_printed _ _ (made_terminals e.at (M.depth_around e.depth) (E.Part e.at e.tree n) _ fits (T.expr_part_terminals e.at e.tree n))
    (replay_two (M.part e n) f (index-replay h n p q s)
    (λ a b ps qs d t l m u v. record {
      tree = M.part a n;
      derives = subst (λ z. Q (M.part a n) (ps ++ z)) (sym t) (rule a b.0 b.1.0 b.1.1.0 ps d);
      like = expr_form_like _ _ _ _ _ _ fits (ap M.depth_around l.1) (T.expr_part_same a.at a.tree n ∙ ap (λ z. E.Part 0 z n) l.0 ∙ sym (T.expr_part_same e.at e.tree n));
    }))

-- ---- comparisons with types

pub isa_expr_again : {P Q : Form Expr → Text → Type 0} {h : ℕ → ℕ} (e : Form Expr) (t : TypeText) (p : Spot) (ts us : Text) → (M.isa_expr e (type_as_read t)).depth ≤ 500
    → ExprReplay P h e ts → IsType t us → ((f : Form Expr) (u : TypeText) (q : Spot) (ps qs : Text) → P f ps → IsType u qs → Q (M.isa_expr f (type_as_read u)) (ps ++ wrd w.Isa q ∷ qs)) → ExprReplay Q h (M.isa_expr e (type_as_read t)) (ts ++ wrd w.Isa p ∷ us)
isa_expr_again {h = h} e t p ts us fits f is rule =
    let k : (type_as_read t).depth ≤ 500 = right_fits e.depth (type_as_read t).depth fits in
    replay_printed _ _ (made_terminals e.at (M.depth_around (max e.depth (type_as_read t).depth)) (E.Isa e.at e.tree (type_as_read t).tree) _ fits
    (T.expr_isa_terminals e.at e.tree (type_as_read t).tree ∙ ap (λ x. expr_terminals e.tree ++ S.Word w.Isa ∷ type_terminals x) (type_as_read_tree t k)))
    (replay_infix (S.Word w.Isa) p (M.isa_expr e (type_as_read t)) refl f (free_replay (type_free h t us is))
    (λ q a b ps qs d g l m u v. record {
      tree = M.isa_expr a (type_as_read b);
      derives = rule a b q ps qs d g;
      like = expr_form_like _ _ _ _ _ _ fits (ap (λ n. M.depth_around (max n (type_as_read b).depth)) l.1 ∙ ap (λ n. M.depth_around (max e.depth n)) (type_as_read_depth b t m.depth))
          (T.expr_isa_same a.at a.tree (type_as_read b).tree ∙ ap (λ z. E.Isa 0 z (same_type (type_as_read b).tree)) l.0 ∙ ap (λ z. E.Isa 0 (same_expr e.tree) z) (type_as_read_same b t m k) ∙ sym (T.expr_isa_same e.at e.tree (type_as_read t).tree));
    }))

headed-sub : (ts us : Text) → Headed ts us → IsSubStart ts → IsSubStart us
headed-sub [] us g s = absurd g
headed-sub (t ∷ ts) [] g s = absurd g
headed-sub (t ∷ ts) (u ∷ us) g s = ap (λ m. m.ahead) g.1 ∙ s

pub sub_expr_again : {Q : Form Expr → Text → Type 0} {h : ℕ → ℕ} (s t : TypeText) (p : Spot) (ts us : Text) → (M.sub_expr (place ts) (type_as_read s) (type_as_read t)).depth ≤ 500 → IsSubStart ts → IsType s ts → IsType t us
    → ((x y : TypeText) (q : Spot) (ps qs : Text) → IsSubStart ps → IsType x ps → IsType y qs → Q (M.sub_expr (place ps) (type_as_read x) (type_as_read y)) (ps ++ opr o.Subtype q ∷ qs)) → ExprReplay Q h (M.sub_expr (place ts) (type_as_read s) (type_as_read t)) (ts ++ opr o.Subtype p ∷ us)
sub_expr_again {h = h} s t p ts us fits is ds dt rule =
    let j : (type_as_read s).depth ≤ 500 = left_fits (type_as_read s).depth (type_as_read t).depth fits in
    let k : (type_as_read t).depth ≤ 500 = right_fits (type_as_read s).depth (type_as_read t).depth fits in
    replay_printed _ _ (made_terminals (place ts) (M.depth_around (max (type_as_read s).depth (type_as_read t).depth)) (XV.Sub (place ts) (type_as_read s).tree (type_as_read t).tree) _ fits
    (T.expr_sub_terminals (place ts) (type_as_read s).tree (type_as_read t).tree ∙ ap (λ x. type_terminals x ++ S.Operator o.Subtype ∷ type_terminals (type_as_read t).tree) (type_as_read_tree s j) ∙ ap (λ x. type_terminals s ++ S.Operator o.Subtype ∷ type_terminals x) (type_as_read_tree t k)))
    (replay_infix (S.Operator o.Subtype) p (M.sub_expr (place ts) (type_as_read s) (type_as_read t)) refl (free_replay (type_free h s ts ds)) (free_replay (type_free h t us dt))
    (λ q a b ps qs d g l m u v. record {
      tree = M.sub_expr (place ps) (type_as_read a) (type_as_read b);
      derives = rule a b q ps qs (headed-sub ts ps u is) d g;
      like = expr_form_like _ _ _ _ _ _ fits (ap (λ n. M.depth_around (max n (type_as_read b).depth)) (type_as_read_depth a s l.depth) ∙ ap (λ n. M.depth_around (max (type_as_read s).depth n)) (type_as_read_depth b t m.depth))
          (T.expr_sub_same (place ps) (type_as_read a).tree (type_as_read b).tree ∙ ap (λ z. XV.Sub 0 z (same_type (type_as_read b).tree)) (type_as_read_same a s l j) ∙ ap (λ z. XV.Sub 0 (same_type (type_as_read s).tree) z) (type_as_read_same b t m k)
          ∙ sym (T.expr_sub_same (place ts) (type_as_read s).tree (type_as_read t).tree));
    }))

-- ---- `c ? a : b`

-- the test and what is taken where it holds
abbrev Tested : (Form Expr → Text → Type 0) → (Form Expr → Text → Type 0) → Form Expr × Form Expr → Text → Type 0
Tested P P1 z l = (ps : Text) × (qs : Text) × (q : Spot) × (l ≡ ps ++ opr o.Question q ∷ qs) × P z.0 ps × P1 z.1 qs

abbrev LikeTested : Form Expr × Form Expr → Form Expr × Form Expr → Type 0
LikeTested f e = LikeExpr f.0 e.0 × LikeExpr f.1 e.1

choose-parts : (a b c : ℕ) → M.depth_around (max a (max b c)) ≤ 500 → (a ≤ 500) × (b ≤ 500) × (c ≤ 500)
choose-parts a b c l = (omega (arith, l), omega (arith, l), omega (arith, l))

pub choice_again : {P P1 Q : Form Expr → Text → Type 0} {h : ℕ → ℕ} (c a b : Form Expr) (p q : Spot) (ts us vs : Text) → (M.choose_expr c a b).depth ≤ 500
    → ExprReplay P h c ts → ExprReplay P1 h a us → ExprReplay P1 h b vs
    → ((f g k : Form Expr) (x y : Spot) (ps qs rs : Text) → P f ps → P1 g qs → P1 k rs → Q (M.choose_expr f g k) ((ps ++ opr o.Question x ∷ qs) ++ opr o.Colon y ∷ rs))
    → ExprReplay Q h (M.choose_expr c a b) ((ts ++ opr o.Question p ∷ us) ++ opr o.Colon q ∷ vs)
choice_again {P} {P1} {Q} {h} c a b p q ts us vs fits f g k rule =
    replay_printed _ _ (made_terminals c.at (M.depth_around (max c.depth (max a.depth b.depth))) (E.Choose c.at c.tree a.tree b.tree) _ fits
    (T.expr_choose_terminals c.at c.tree a.tree b.tree ∙ sym (append_assoc (expr_terminals c.tree) (S.Operator o.Question ∷ expr_terminals a.tree) (S.Operator o.Colon ∷ expr_terminals b.tree))))
    (replay_infix {P = Tested P P1} {R = LikeTested} (S.Operator o.Colon) q (M.choose_expr c a b) refl
    (replay_infix {Q = Tested P P1} {RQ = LikeTested} (S.Operator o.Question) p (c, a) refl f g (λ x m n ps qs d e l r u v. record { tree = (m, n); derives = (ps, qs, x, refl, d, e); like = (l, r) }))
    k
    (λ y z n ps rs d e l r u v. record {
      tree = M.choose_expr z.0 z.1 n;
      derives = subst (λ m. Q (M.choose_expr z.0 z.1 n) (m ++ opr o.Colon y ∷ rs)) (sym d.3) (rule z.0 z.1 n d.2 y d.0 d.1 rs d.4 d.5 e);
      like = expr_form_like _ _ _ _ _ _ fits
          (ap (λ i. M.depth_around (max i (max z.1.depth n.depth))) l.0.1 ∙ ap (λ i. M.depth_around (max c.depth (max i n.depth))) l.1.1 ∙ ap (λ i. M.depth_around (max c.depth (max a.depth i))) r.1)
          (T.expr_choose_same z.0.at z.0.tree z.1.tree n.tree ∙ ap (λ i. E.Choose 0 i (same_expr z.1.tree) (same_expr n.tree)) l.0.0 ∙ ap (λ i. E.Choose 0 (same_expr c.tree) i (same_expr n.tree)) l.1.0
          ∙ ap (λ i. E.Choose 0 (same_expr c.tree) (same_expr a.tree) i) r.0 ∙ sym (T.expr_choose_same c.at c.tree a.tree b.tree));
    }))
