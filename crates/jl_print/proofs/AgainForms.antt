-- Special forms, statements and methods, printed anew.
use Rattle.std.proofs.Common.{◌≡◌, ℕ, ◌≤◌, Bool, true, false, codes, List, [], ◌∷◌, ◌++◌, map, refl, sym, ap, ◌∙◌, subst, append_assoc, arith}
use Rattle.std.proofs.lemmas.List.{append-nil}
use Rattle.jl_token.specs.declared.token.Operator.TheVariants as o
use Rattle.jl_typeread.specs.declared.terminal.Terminal.{Terminal}
use Rattle.jl_typeread.specs.declared.terminal.Terminal.TheVariants as S
use Rattle.jl_typeread.specs.declared.terminal.Word.TheVariants as w
use Rattle.jl_typeread.specs.declared.tree.TypeText.{TypeText}
use Rattle.jl_grammar.specs.declared.mark.Opening.TheVariants as O
use Rattle.jl_grammar.specs.declared.state.Called.TheVariants as C
use Rattle.jl_grammar.specs.declared.state.Form.{Form}
use Rattle.jl_grammar.specs.declared.state.Forms.{Forms}
use Rattle.jl_grammar.specs.declared.tree.Callee.{Callee}
use Rattle.jl_grammar.specs.declared.tree.Expr.{Expr}
use Rattle.jl_grammar.specs.declared.tree.Expr.TheVariants as XV
use Rattle.jl_grammar.specs.declared.tree.Piece.{Piece}
use Rattle.jl_grammar.specs.declared.tree.Stmt.{Stmt}
use Rattle.jl_grammar.specs.declared.tree.Stmt.TheVariants as SV
use Rattle.jl_grammar.specs.declared.tree.Eval.TheViews as E
use Rattle.jl_grammar.specs.Forms as M
use Rattle.jl_grammar.specs.Grammar as GR
use Rattle.jl_grammar.specs.Grammar.{place}
use Rattle.jl_grammar.specs.Texts.{Text, Spot, tok, opr, wrd, nam, name_in, is_left_type, is_stmt_start, is_stmt_terminal, IsPrint}
use Rattle.jl_grammar.specs.Types.{type_as_read, IsType}
use Rattle.jl_print.specs.Printed.{join, join_more, print_name, which_terminals, type_terminals, expr_terminals, piece_terminals, stmt_terminals, callee_terminals}
use Rattle.jl_print.specs.Placeless.{same_expr, same_piece, same_stmt, same_callee}
use Rattle.jl_print.proofs.AgainAtoms.{ExprsReplay, same_type_mark, same_opening, same_IsPrint}
use Rattle.jl_print.proofs.AgainChains.{ExprReplay}
use Rattle.jl_print.proofs.AgainFree.{free_replay, type_free}
use Rattle.jl_print.proofs.AgainHeads.{LikeCallee, callee_free}
use Rattle.jl_print.proofs.AgainLikes.{LikeExpr, LikeForms, LikeType, expr_form_like, made_terminals, depth_around_fits, type_as_read_depth, type_as_read_tree, type_as_read_same}
use Rattle.jl_print.proofs.Laid.{Headed, Replay, replay_two, replay_infix, replay_cons, replay_within, replay_as, replay_one, replay_empty, replay_printed, replay_text, replay_tokens}
use Rattle.jl_print.proofs.ListTerminals.{HasSome}
use Rattle.jl_print.proofs.TreeTerminals as T
use Rattle.jl_print.proofs.Wholes.{round}

-- ---- `Threads.@spawn`, `fetch` and `Base.invokelatest`

pub spawn_again : {h : ℕ → ℕ} (r b : Bool) (e : Form Expr) (p q s : Spot) (ts : Text) → p.marks.opening ≡ O.Spawn → is_left_type b p.marks.ahead ≡ false → (M.spawn_expr p.at e).depth ≤ 500 → ExprReplay (GR.Expression false) h e ts
    → ExprReplay (GR.Atom r true b) h (M.spawn_expr p.at e) (nam (codes "Threads") p ∷ opr o.Dot q ∷ tok (S.Macro (codes "spawn")) s ∷ ts)
spawn_again {h} r b e p q s ts is nt fits f =
    replay_printed _ _ (made_terminals p.at (M.depth_around e.depth) (E.Spawn p.at e.tree) _ fits (T.expr_spawn_terminals p.at e.tree))
    (replay_two (M.spawn_expr p.at e) (replay_tokens h (S.Name (codes "Threads")) (S.Operator o.Dot ∷ S.Macro (codes "spawn") ∷ []) (refl, (refl, (refl, tt))) (p, (q, (s, tt)))) f
    (λ a z ps qs d c l m u v. record {
      tree = M.spawn_expr a.0.at z;
      derives = subst (λ x. GR.Atom r true b (M.spawn_expr a.0.at z) (x ++ qs)) (sym d)
          (GR.spawn r b (codes "Threads") (codes "spawn") z a.0 a.1.0 a.1.1.0 qs (same_opening O.Spawn a.0 p l.0 is) (same_type_mark b a.0 p l.0 nt) c);
      like = expr_form_like _ _ _ _ _ _ fits (ap M.depth_around m.1) (T.expr_spawn_same a.0.at z.tree ∙ ap (E.Spawn 0) m.0 ∙ sym (T.expr_spawn_same p.at e.tree));
    }))

-- a form in parentheses
abbrev pub Held : {X : Type 0} → (X → Text → Type 0) → X → Text → Type 0
Held P x l = (k : Spot) × (m : Spot) × (ps : Text) × (l ≡ opr o.OpenParen k ∷ ps ++ opr o.CloseParen m ∷ []) × P x ps

pub held : {X : Type 0} {P : X → Text → Type 0} {R : X → X → Type 0} {h : ℕ → ℕ} {x : X} {ts : Text} {c : List Terminal} (p q : Spot) → Replay P R h x ts c
    → Replay (Held P) R h x (opr o.OpenParen p ∷ ts ++ opr o.CloseParen q ∷ []) (S.Operator o.OpenParen ∷ c ++ S.Operator o.CloseParen ∷ [])
held {x = x} p q f = replay_within (S.Operator o.OpenParen) (S.Operator o.CloseParen) p q x round f (λ k l a ps same d m g. record { tree = a; derives = (k, l, ps, refl, d); like = m })

pub fetch_again : {h : ℕ → ℕ} (r b : Bool) (e : Form Expr) (p q s : Spot) (ts : Text) → p.marks.opening ≡ O.Fetch → is_left_type b p.marks.ahead ≡ false → (M.fetch_expr p.at e).depth ≤ 500 → ExprReplay (GR.Expression r) h e ts
    → ExprReplay (GR.Atom r false b) h (M.fetch_expr p.at e) ((nam (codes "fetch") p ∷ opr o.OpenParen q ∷ ts) ++ opr o.CloseParen s ∷ [])
fetch_again r b e p q s ts is nt fits f =
    replay_printed _ _ (made_terminals p.at (M.depth_around e.depth) (E.Fetch p.at e.tree) _ fits (T.expr_fetch_terminals p.at e.tree))
    (replay_cons (S.Name (codes "fetch")) p (M.fetch_expr p.at e) refl (held q s f)
    (λ k a ps same d l g. record {
      tree = M.fetch_expr k.at a;
      derives = subst (λ x. GR.Atom r false b (M.fetch_expr k.at a) (nam (codes "fetch") k ∷ x)) (sym d.3) (GR.fetch r b (codes "fetch") a k d.0 d.1 d.2 (same_opening O.Fetch k p same is) (same_type_mark b k p same nt) d.4);
      like = expr_form_like _ _ _ _ _ _ fits (ap M.depth_around l.1) (T.expr_fetch_same k.at a.tree ∙ ap (E.Fetch 0) l.0 ∙ sym (T.expr_fetch_same p.at e.tree));
    }))

abbrev LatestSigns : List Terminal
LatestSigns = S.Name (codes "Base") ∷ S.Operator o.Dot ∷ S.Name (codes "invokelatest") ∷ []

pub latest_none_again : {h : ℕ → ℕ} (r b : Bool) (f : Callee) (p q s v z : Spot) (ts : Text) → p.marks.opening ≡ O.Latest → is_left_type b p.marks.ahead ≡ false → GR.CalleeText f ts
    → ExprReplay (GR.Atom r false b) h (M.call_expr p.at (C.Latest f) M.no_forms) ((nam (codes "Base") p ∷ opr o.Dot q ∷ nam (codes "invokelatest") s ∷ opr o.OpenParen v ∷ ts) ++ opr o.CloseParen z ∷ [])
latest_none_again {h} r b f p q s v z ts is nt c =
    let fits : M.depth_around 0 ≤ 500 = omega arith in
    replay_printed _ _ (made_terminals p.at (M.depth_around 0) (E.Latest p.at f []) _ fits (T.expr_latest_terminals p.at f [] ∙ ap (λ l. LatestSigns ++ S.Operator o.OpenParen ∷ l ++ S.Operator o.CloseParen ∷ []) (append-nil (callee_terminals f))))
    (replay_two (M.call_expr p.at (C.Latest f) M.no_forms) (replay_tokens h (S.Name (codes "Base")) (S.Operator o.Dot ∷ S.Name (codes "invokelatest") ∷ []) (refl, (refl, (refl, tt))) (p, (q, (s, tt)))) (held v z (free_replay (callee_free h f ts c)))
    (λ a y ps qs d e l m u t. record {
      tree = M.call_expr a.0.at (C.Latest y) M.no_forms;
      derives = subst (λ x. GR.Atom r false b (M.call_expr a.0.at (C.Latest y) M.no_forms) x) (sym (ap (λ x. x ++ qs) d ∙ ap (λ x. nam (codes "Base") a.0 ∷ opr o.Dot a.1.0 ∷ nam (codes "invokelatest") a.1.1.0 ∷ x) e.3))
          (GR.latest_none r b (codes "Base") (codes "invokelatest") y a.0 a.1.0 a.1.1.0 e.0 e.1 e.2 (same_opening O.Latest a.0 p l.0 is) (same_type_mark b a.0 p l.0 nt) e.4);
      like = expr_form_like a.0.at p.at (M.depth_around 0) (M.depth_around 0) _ _ fits refl (T.expr_latest_same a.0.at y [] ∙ ap (λ x. E.Latest 0 x []) m ∙ sym (T.expr_latest_same p.at f []));
    }))

-- what is called, and the arguments behind a comma
abbrev Given : Bool → Callee × Forms Expr → Text → Type 0
Given r z l = (ps : Text) × (qs : Text) × (q : Spot) × (l ≡ ps ++ opr o.Comma q ∷ qs) × GR.CalleeText z.0 ps × GR.Arguments r z.1 qs

abbrev LikeGiven : Callee × Forms Expr → Callee × Forms Expr → Type 0
LikeGiven y z = LikeCallee y.0 z.0 × LikeForms same_expr y.1 z.1

more-join : (xs : List (List Terminal)) (s : HasSome xs) → join_more xs ≡ S.Operator o.Comma ∷ join xs
more-join xs s = subst (λ l. join_more l ≡ S.Operator o.Comma ∷ join l) (sym s.2) refl

pub latest_again : {h : ℕ → ℕ} (r b : Bool) (f : Callee) (es : Forms Expr) (p q s v y z : Spot) (ts us : Text) → p.marks.opening ≡ O.Latest → is_left_type b p.marks.ahead ≡ false → GR.CalleeText f ts → (M.call_expr p.at (C.Latest f) es).depth ≤ 500
    → HasSome (map expr_terminals es.trees) → ExprsReplay (GR.Arguments r) h es us
    → ExprReplay (GR.Atom r false b) h (M.call_expr p.at (C.Latest f) es) (((nam (codes "Base") p ∷ opr o.Dot q ∷ nam (codes "invokelatest") s ∷ opr o.OpenParen v ∷ ts) ++ opr o.Comma y ∷ us) ++ opr o.CloseParen z ∷ [])
latest_again {h} r b f es p q s v y z ts us is nt c fits some g =
    replay_printed _ _ (made_terminals p.at (M.depth_around es.depth) (E.Latest p.at f es.trees) _ fits
    (T.expr_latest_terminals p.at f es.trees ∙ ap (λ l. LatestSigns ++ S.Operator o.OpenParen ∷ (callee_terminals f ++ l) ++ S.Operator o.CloseParen ∷ []) (more-join (map expr_terminals es.trees) some)))
    (replay_two (M.call_expr p.at (C.Latest f) es) (replay_tokens h (S.Name (codes "Base")) (S.Operator o.Dot ∷ S.Name (codes "invokelatest") ∷ []) (refl, (refl, (refl, tt))) (p, (q, (s, tt))))
    (held {P = Given r} {R = LikeGiven} v z (replay_infix {Q = Given r} {RQ = LikeGiven} (S.Operator o.Comma) y (f, es) refl (free_replay (callee_free h f ts c)) g
    (λ k a d ps qs i j l m u t. record { tree = (a, d); derives = (ps, qs, k, refl, i, j); like = (l, m) })))
    (λ a y ps qs d e l m u t. record {
      tree = M.call_expr a.0.at (C.Latest y.0) y.1;
      derives = subst (λ x. GR.Atom r false b (M.call_expr a.0.at (C.Latest y.0) y.1) x)
          (sym (ap (λ x. x ++ qs) d ∙ ap (λ x. nam (codes "Base") a.0 ∷ opr o.Dot a.1.0 ∷ nam (codes "invokelatest") a.1.1.0 ∷ x) (e.3 ∙ ap (λ x. opr o.OpenParen e.0 ∷ x ++ opr o.CloseParen e.1 ∷ []) e.4.3)))
          (GR.latest r b (codes "Base") (codes "invokelatest") y.0 y.1 a.0 a.1.0 a.1.1.0 e.0 e.4.2 e.1 e.4.0 e.4.1 (same_opening O.Latest a.0 p l.0 is) (same_type_mark b a.0 p l.0 nt) e.4.4 e.4.5);
      like = expr_form_like _ _ _ _ _ _ fits (ap M.depth_around m.1.1)
          (T.expr_latest_same a.0.at y.0 y.1.trees ∙ ap (λ x. E.Latest 0 x (map same_expr y.1.trees)) m.0 ∙ ap (E.Latest 0 (same_callee f)) m.1.0 ∙ sym (T.expr_latest_same p.at f es.trees));
    }))

-- ---- `Base.delete_method`

-- a function and a type behind a comma
abbrev Named : List ℕ → Spot × TypeText → Text → Type 0
Named f z l = (q : Spot) × (ps : Text) × (l ≡ nam f z.0 ∷ opr o.Comma q ∷ ps) × IsType z.1 ps

-- the same in the parentheses of `which`
abbrev Which : List ℕ → Spot × TypeText → Text → Type 0
Which f z l = (j : Spot) × (i : Spot) × (q : Spot) × (k : Spot) × (ps : Text) × (l ≡ nam (codes "which") j ∷ opr o.OpenParen i ∷ (nam f z.0 ∷ opr o.Comma q ∷ ps) ++ opr o.CloseParen k ∷ []) × IsType z.1 ps

abbrev LikeNamed : Spot × TypeText → Spot × TypeText → Type 0
LikeNamed y z = LikeType y.1 z.1

which_again : {h : ℕ → ℕ} (f : List ℕ) (t : TypeText) (x y z w k : Spot) (ts : Text) → IsType t ts
    → Replay (Which f) LikeNamed h (z, t) (nam (codes "which") x ∷ opr o.OpenParen y ∷ (nam f z ∷ opr o.Comma w ∷ ts) ++ opr o.CloseParen k ∷ []) (which_terminals f (type_terminals t))
which_again {h} f t x y z w k ts d =
    replay_cons {P = Held (Named f)} {R = LikeNamed} {Q = Which f} {RQ = LikeNamed} (S.Name (codes "which")) x (z, t) refl
    (held {P = Named f} {R = LikeNamed} y k (replay_two {Q = Named f} {RQ = LikeNamed} (z, t) (replay_tokens h (S.Name f) (S.Operator o.Comma ∷ []) (refl, (refl, tt)) (z, (w, tt))) (free_replay (type_free h t ts d))
    (λ a b ps qs e g l m u v. record { tree = (a.0, b); derives = (a.1.0, qs, ap (λ i. i ++ qs) e, g); like = m })))
    (λ j a ps same e l g. record {
      tree = a;
      derives = (j, e.0, e.4.0, e.1, e.4.1, ap (λ i. nam (codes "which") j ∷ i) (e.3 ∙ ap (λ i. opr o.OpenParen e.0 ∷ i ++ opr o.CloseParen e.1 ∷ []) e.4.2), e.4.3);
      like = l;
    })

pub delete_again : {h : ℕ → ℕ} (r b : Bool) (f : List ℕ) (t : TypeText) (p q s v x y z w k l : Spot) (ts : Text) → p.marks.opening ≡ O.Delete → is_left_type b p.marks.ahead ≡ false → IsType t ts
    → (M.delete_expr p.at (name_in f z) (type_as_read t)).depth ≤ 500
    → ExprReplay (GR.Atom r false b) h (M.delete_expr p.at (name_in f z) (type_as_read t))
    ((nam (codes "Base") p ∷ opr o.Dot q ∷ nam (codes "delete_method") s ∷ opr o.OpenParen v ∷ nam (codes "which") x ∷ opr o.OpenParen y ∷ nam f z ∷ opr o.Comma w ∷ ts) ++ opr o.CloseParen k ∷ opr o.CloseParen l ∷ [])
delete_again {h} r b f t p q s v x y z w k l ts is nt c fits =
    let deep : (type_as_read t).depth ≤ 500 = depth_around_fits (type_as_read t).depth fits in
    replay_text _ _ (ap (λ u. nam (codes "Base") p ∷ opr o.Dot q ∷ nam (codes "delete_method") s ∷ opr o.OpenParen v ∷ nam (codes "which") x ∷ opr o.OpenParen y ∷ nam f z ∷ opr o.Comma w ∷ u)
    (append_assoc ts (opr o.CloseParen k ∷ []) (opr o.CloseParen l ∷ [])))
    (replay_printed _ _ (made_terminals p.at (M.depth_around (type_as_read t).depth) (XV.Delete p.at (name_in f z) (type_as_read t).tree) _ fits
    (T.expr_delete_terminals p.at (name_in f z) (type_as_read t).tree
    ∙ ap (λ u. S.Name (codes "Base") ∷ S.Operator o.Dot ∷ S.Name (codes "delete_method") ∷ S.Operator o.OpenParen ∷ (which_terminals f (type_terminals u) ++ S.Operator o.CloseParen ∷ [])) (type_as_read_tree t deep)))
    (replay_two (M.delete_expr p.at (name_in f z) (type_as_read t)) (replay_tokens h (S.Name (codes "Base")) (S.Operator o.Dot ∷ S.Name (codes "delete_method") ∷ []) (refl, (refl, (refl, tt))) (p, (q, (s, tt))))
    (held {P = Which f} {R = LikeNamed} v l (which_again f t x y z w k ts c))
    (λ a i ps qs d e g m u n. record {
      tree = M.delete_expr a.0.at (name_in f i.0) (type_as_read i.1);
      derives = subst (λ j. GR.Atom r false b (M.delete_expr a.0.at (name_in f i.0) (type_as_read i.1)) j)
          (sym (ap (λ j. j ++ qs) d ∙ ap (λ j. nam (codes "Base") a.0 ∷ opr o.Dot a.1.0 ∷ nam (codes "delete_method") a.1.1.0 ∷ j) (e.3 ∙ ap (λ j. opr o.OpenParen e.0 ∷ j ++ opr o.CloseParen e.1 ∷ []) e.4.5
          ∙ ap (λ j. opr o.OpenParen e.0 ∷ nam (codes "which") e.4.0 ∷ opr o.OpenParen e.4.1 ∷ nam f i.0 ∷ opr o.Comma e.4.2 ∷ j) (append_assoc e.4.4 (opr o.CloseParen e.4.3 ∷ []) (opr o.CloseParen e.1 ∷ [])))))
          (GR.delete r b (codes "Base") (codes "delete_method") f i.1 a.0 a.1.0 a.1.1.0 e.0 e.4.0 e.4.1 i.0 e.4.2 e.4.3 e.1 e.4.4 (same_opening O.Delete a.0 p g.0 is) (same_type_mark b a.0 p g.0 nt) e.4.6);
      like = expr_form_like _ _ _ _ _ _ fits (ap M.depth_around (type_as_read_depth i.1 t m.depth))
          (T.expr_delete_same a.0.at (name_in f i.0) (type_as_read i.1).tree ∙ ap (XV.Delete 0 (record { at = 0; bytes = f })) (type_as_read_same i.1 t m deep) ∙ sym (T.expr_delete_same p.at (name_in f z) (type_as_read t).tree));
    })))

-- ---- pieces and `print`

abbrev pub PiecesReplay : (Forms Piece → Text → Type 0) → (ℕ → ℕ) → Forms Piece → Text → Type 0
PiecesReplay P h xs ts = Replay P (LikeForms same_piece) h xs ts (join (map piece_terminals xs.trees))

print_expr-like : (a b : ℕ) (l : Bool) (xs ys : Forms Piece) → (M.print_expr b l ys).depth ≤ 500 → LikeForms same_piece xs ys → LikeExpr (M.print_expr a l xs) (M.print_expr b l ys)
print_expr-like a b l xs ys fits e = expr_form_like _ _ _ _ _ _ fits (ap M.depth_around e.1) (T.expr_print_same a l xs.trees ∙ ap (E.Print 0 l) e.0 ∙ sym (T.expr_print_same b l ys.trees))

pub print_none_again : (h : ℕ → ℕ) (r b l : Bool) (p q s : Spot) → IsPrint p.marks.opening l → is_left_type b p.marks.ahead ≡ false
    → ExprReplay (GR.Atom r false b) h (M.print_expr p.at l M.no_forms) (nam (print_name l) p ∷ opr o.OpenParen q ∷ opr o.CloseParen s ∷ [])
print_none_again h r b l p q s is nt =
    let fits : M.depth_around 0 ≤ 500 = omega arith in
    replay_printed _ _ (made_terminals p.at (M.depth_around 0) (E.Print p.at l []) _ fits (T.expr_print_terminals p.at l []))
    (replay_cons {P = λ (k : Spot × Spot) x. x ≡ opr o.OpenParen k.0 ∷ opr o.CloseParen k.1 ∷ []} {R = λ x y. Unit {0}} (S.Name (print_name l)) p (M.print_expr p.at l M.no_forms) refl
    (replay_empty (S.Operator o.OpenParen) (S.Operator o.CloseParen) q s (q, s) round (λ k m same. record { tree = (k, m); derives = refl; like = tt }))
    (λ k a ps same d e g. record {
      tree = M.print_expr k.at l M.no_forms;
      derives = subst (λ x. GR.Atom r false b (M.print_expr k.at l M.no_forms) (nam (print_name l) k ∷ x)) (sym d) (GR.print_none r b l (print_name l) k a.0 a.1 (same_IsPrint l k p same is) (same_type_mark b k p same nt));
      like = print_expr-like k.at p.at l M.no_forms M.no_forms fits (refl, refl);
    }))

pub print_again : {h : ℕ → ℕ} (r b l : Bool) (xs : Forms Piece) (p q s : Spot) (ts : Text) → IsPrint p.marks.opening l → is_left_type b p.marks.ahead ≡ false → (M.print_expr p.at l xs).depth ≤ 500 → PiecesReplay (GR.Pieces r) h xs ts
    → ExprReplay (GR.Atom r false b) h (M.print_expr p.at l xs) ((nam (print_name l) p ∷ opr o.OpenParen q ∷ ts) ++ opr o.CloseParen s ∷ [])
print_again r b l xs p q s ts is nt fits f =
    replay_printed _ _ (made_terminals p.at (M.depth_around xs.depth) (E.Print p.at l xs.trees) _ fits (T.expr_print_terminals p.at l xs.trees))
    (replay_cons (S.Name (print_name l)) p (M.print_expr p.at l xs) refl (held q s f)
    (λ k a ps same d e g. record {
      tree = M.print_expr k.at l a;
      derives = subst (λ x. GR.Atom r false b (M.print_expr k.at l a) (nam (print_name l) k ∷ x)) (sym d.3) (GR.print r b l (print_name l) a k d.0 d.1 d.2 (same_IsPrint l k p same is) (same_type_mark b k p same nt) d.4);
      like = print_expr-like k.at p.at l a xs fits e;
    }))

-- ---- statements

abbrev pub StmtReplay : Bool → (ℕ → ℕ) → Stmt → ℕ → Text → Type 0
StmtReplay r h s d ts = Replay (λ (z : Stmt × ℕ) us. GR.Statement r z.0 z.1 us) (λ y z. (same_stmt y.0 ≡ same_stmt z.0) × (y.1 ≡ z.1)) h (s, d) ts (stmt_terminals s)

pub bind_again : {h : ℕ → ℕ} (r : Bool) (n : List ℕ) (e : Form Expr) (p q : Spot) (ts : Text) → p.marks.opening ≡ O.Binding → ExprReplay (GR.Expression r) h e ts → StmtReplay r h (SV.Bind (name_in n p) e.tree) e.depth (nam n p ∷ opr o.Assign q ∷ ts)
bind_again {h} r n e p q ts is f =
    replay_printed _ _ (T.stmt_bind_terminals (name_in n p) e.tree)
    (replay_two (SV.Bind (name_in n p) e.tree, e.depth) (replay_tokens h (S.Name n) (S.Operator o.Assign ∷ []) (refl, (refl, tt)) (p, (q, tt))) f
    (λ a z ps qs d c l m u v. record {
      tree = (SV.Bind (name_in n a.0) z.tree, z.depth);
      derives = subst (λ x. GR.Statement r (SV.Bind (name_in n a.0) z.tree) z.depth (x ++ qs)) (sym d) (GR.bind r n z a.0 a.1.0 qs (same_opening O.Binding a.0 p l.0 is) c);
      like = (T.stmt_bind_same (name_in n a.0) z.tree ∙ ap (SV.Bind (record { at = 0; bytes = n })) m.0 ∙ sym (T.stmt_bind_same (name_in n p) e.tree), m.1);
    }))

pub return_again : {h : ℕ → ℕ} (e : Form Expr) (p : Spot) (ts : Text) → ExprReplay (GR.Expression true) h e ts → StmtReplay true h (SV.Return p.at e.tree) e.depth (wrd w.Return p ∷ ts)
return_again e p ts f =
    replay_printed _ _ (T.stmt_return_terminals p.at e.tree)
    (replay_cons (S.Word w.Return) p (SV.Return p.at e.tree, e.depth) refl f
    (λ k a ps same d l g. record { tree = (SV.Return k.at a.tree, a.depth); derives = GR.return a k ps d; like = (T.stmt_return_same k.at a.tree ∙ ap (SV.Return 0) l.0 ∙ sym (T.stmt_return_same p.at e.tree), l.1) }))

pub return_nothing_again : (h : ℕ → ℕ) (p : Spot) → StmtReplay true h (SV.ReturnNothing p.at) 0 (wrd w.Return p ∷ [])
return_nothing_again h p =
    replay_printed _ _ (T.stmt_returnnothing_terminals p.at)
    (replay_one (S.Word w.Return) p (SV.ReturnNothing p.at, 0) refl
    (λ k same. record { tree = (SV.ReturnNothing k.at, 0); derives = GR.return_nothing k; like = (T.stmt_returnnothing_same k.at ∙ sym (T.stmt_returnnothing_same p.at), refl) }))

headed-stmt : (ts us : Text) → Headed ts us → is_stmt_start ts ≡ true → is_stmt_start us ≡ true
headed-stmt [] us g e = absurd g
headed-stmt (t ∷ ts) [] g e = absurd g
headed-stmt (t ∷ ts) (u ∷ us) g e = ap (λ x. is_stmt_terminal x u.marks) g.0 ∙ ap (is_stmt_terminal t.lexeme.terminal) g.1 ∙ e

pub do_again : {h : ℕ → ℕ} (r : Bool) (e : Form Expr) (ts : Text) → is_stmt_start ts ≡ true → ExprReplay (GR.Expression r) h e ts → StmtReplay r h (SV.Do e.tree) e.depth ts
do_again r e ts is f =
    replay_printed _ _ (T.stmt_do_terminals e.tree)
    (replay_as (SV.Do e.tree, e.depth) f (λ a ps d l g. record { tree = (SV.Do a.tree, a.depth); derives = GR.do_expr r a ps (headed-stmt ts ps g is) d; like = (T.stmt_do_same a.tree ∙ ap SV.Do l.0 ∙ sym (T.stmt_do_same e.tree), l.1) }))
