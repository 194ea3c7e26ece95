-- Forms with blocks, methods, evaluated statements and pieces, printed anew.
use Rattle.std.proofs.Common.{◌≡◌, ℕ, ◌≤◌, ◌-◌, max, Bool, true, false, codes, List, [], ◌∷◌, ◌++◌, map, refl, sym, ap, ◌∙◌, subst, append_assoc, inr}
use Rattle.jl_token.specs.declared.token.Operator.TheVariants as o
use Rattle.jl_typeread.specs.declared.terminal.Terminal.{Terminal}
use Rattle.jl_typeread.specs.declared.terminal.Terminal.TheVariants as S
use Rattle.jl_typeread.specs.declared.terminal.Word.{Word}
use Rattle.jl_typeread.specs.declared.terminal.Word.TheVariants as w
use Rattle.jl_grammar.specs.declared.mark.Opening.TheVariants as O
use Rattle.jl_grammar.specs.declared.state.Branched.{Branched}
use Rattle.jl_grammar.specs.declared.state.Form.{Form}
use Rattle.jl_grammar.specs.declared.state.Forms.{Forms}
use Rattle.jl_grammar.specs.declared.tree.Eval.{Eval}
use Rattle.jl_grammar.specs.declared.tree.Eval.TheVariants as EV
use Rattle.jl_grammar.specs.declared.tree.Expr.{Expr}
use Rattle.jl_grammar.specs.declared.tree.Head.{Head}
use Rattle.jl_grammar.specs.declared.tree.Method.{Method}
use Rattle.jl_grammar.specs.declared.tree.Piece.{Piece}
use Rattle.jl_grammar.specs.declared.tree.Piece.TheVariants as PV
use Rattle.jl_grammar.specs.declared.tree.Stmt.{Stmt}
use Rattle.jl_grammar.specs.declared.tree.Eval.TheViews as E
use Rattle.jl_grammar.specs.Forms as M
use Rattle.jl_grammar.specs.Grammar as GR
use Rattle.jl_grammar.specs.Grammar.{place}
use Rattle.jl_grammar.specs.Texts.{Text, Spot, tok, opr, wrd, nam, is_left_type, is_eval_start, is_evaluated_start, is_eval_terminal, is_evaluated_terminal, IsMethodStart}
use Rattle.jl_print.specs.Printed.{join, lines, block_step, piece_terminals, eval_terminals, stmt_terminals, method_terminals, head_terminals}
use Rattle.jl_print.specs.Placeless.{same_expr, same_piece, same_eval, same_stmt, same_branch, same_method, same_head}
use Rattle.jl_print.proofs.AgainAtoms.{same_type_mark, same_opening}
use Rattle.jl_print.proofs.AgainBlocks.{replay_block, word_skipped, BranchesAgain, branched_terminals, BlockAgain}
use Rattle.jl_print.proofs.AgainChains.{ExprReplay}
use Rattle.jl_print.proofs.AgainForms.{held, PiecesReplay}
use Rattle.jl_print.proofs.AgainFree.{Front, Free, free_replay, front_sim, front_headed}
use Rattle.jl_print.proofs.AgainHeads.{HeadP, LikeHead, front_append}
use Rattle.jl_print.proofs.AgainLikes.{LikeExpr, LikeForms, expr_form_like, made_terminals}
use Rattle.jl_print.proofs.AgainRows.{AfterAgain}
use Rattle.jl_print.proofs.Laid.{seen, seen-append, spot, laid, laid-append, right-append, Headed, Made, Replay, replay_infix, replay_cons, replay_as, replay_one, replay_printed, replay_text, text_spells}
use Rattle.jl_print.proofs.Likes.{dull_near}
use Rattle.jl_print.proofs.ListTerminals.{HasSome, printed_one, printed_more, same_more}
use Rattle.jl_print.proofs.TreeTerminals as T
use Rattle.jl_print.proofs.SpelledTerminals.{spells_as, spells_same, spells_cons, row_lead}
use Rattle.jl_print.proofs.Wholes.{Skipped, two_skipped}

-- ---- `begin .. end`

pub begin_again : {h : ℕ → ℕ} (r b : Bool) (p q : Spot) (ss : Forms Stmt) (ts : Text) → (M.begin_expr p.at ss).depth ≤ 500 → Skipped (seen ts) → BlockAgain r h ss ts
    → ExprReplay (GR.Atom r false b) h (M.begin_expr p.at ss) ((wrd w.Begin p ∷ ts) ++ wrd w.End q ∷ [])
begin_again r b p q ss ts fits old f =
    replay_printed _ _ (made_terminals p.at (M.depth_around (M.depth_around ss.depth)) (E.Begin p.at ss.trees) _ fits (T.expr_begin_terminals p.at ss.trees))
    (replay_block w.Begin p q ss ts (M.begin_expr p.at ss) old f
    (λ k l ys ps same d m. record {
      tree = M.begin_expr k.at ys;
      derives = GR.begin_end r b k l ys ps (GR.block_before r ys ps d);
      like = expr_form_like _ _ _ _ _ _ fits (ap (λ n. M.depth_around (M.depth_around n)) m.1) (T.expr_begin_same k.at ys.trees ∙ ap (E.Begin 0) m.0 ∙ sym (T.expr_begin_same p.at ss.trees));
    }))

-- ---- `if`

pub if_again : {h : ℕ → ℕ} (r b : Bool) (p q : Spot) (x : Branched) (ts : Text) → (M.if_expr p.at x).depth ≤ 500 → BranchesAgain h r p x ts → ExprReplay (GR.Atom r false b) h (M.if_expr p.at x) (ts ++ wrd w.End q ∷ [])
if_again {h} r b p q x ts fits f =
    let front : Front (seen (ts ++ wrd w.End q ∷ [])) (branched_terminals x ++ S.Word w.End ∷ []) =
    subst (λ l. Front l (branched_terminals x ++ S.Word w.End ∷ [])) (sym (seen-append ts (wrd w.End q ∷ []))) (front_append (seen ts) (S.Word w.End ∷ []) (branched_terminals x) (S.Word w.End ∷ []) f.front (λ u v e. refl)) in
    replay_printed _ _ (made_terminals p.at x.depth (E.If p.at x.branches) _ fits (T.expr_if_terminals p.at x.branches))
    (record {
      tidy = record {
        old = subst Skipped (sym (seen-append ts (wrd w.End q ∷ []))) (two_skipped (seen ts) (S.Word w.End ∷ []) f.old (word_skipped w.End));
        new = two_skipped (branched_terminals x) (S.Word w.End ∷ []) f.new (word_skipped w.End);
        spells = text_spells ts (wrd w.End q ∷ []) (branched_terminals x) (S.Word w.End ∷ []) f.spells (spells_same _);
        sim = front_sim _ _ front;
      };
      again = λ rest other right e.
          let n = f.again (S.Word w.End ∷ rest) (S.Word w.End ∷ other) (right-append ts (wrd w.End q ∷ []) rest right).0 (dull_near (S.Word w.End) rest refl) in
          record {
            made = subst (λ l. Made (GR.Atom r false b) LikeExpr (M.if_expr p.at x) l) (sym (laid-append h (branched_terminals x) (S.Word w.End ∷ []) other)) (record {
              tree = M.if_expr n.tree.0.at n.tree.1;
              derives = GR.if_end r b n.tree.0 (spot h (S.Word w.End ∷ other)) n.tree.1 _ n.derives;
              like = expr_form_like _ _ _ _ _ _ fits n.like.depth (T.expr_if_same n.tree.0.at n.tree.1.branches ∙ ap (E.If 0) n.like.branches ∙ sym (T.expr_if_same p.at x.branches));
            });
            headed = front_headed h (ts ++ wrd w.End q ∷ []) (branched_terminals x ++ S.Word w.End ∷ []) rest other front right e;
          };
    })

-- `else`, its block and `end`
abbrev Elsewise : Bool → Forms Stmt → Text → Type 0
Elsewise r ss l = (k : Spot) × (m : Spot) × (ps : Text) × (l ≡ wrd w.Else k ∷ ps ++ wrd w.End m ∷ []) × GR.StmtsBefore r ss ps

pub if_else_again : {h : ℕ → ℕ} (r b : Bool) (p q s : Spot) (x : Branched) (ss : Forms Stmt) (ts us : Text) → (M.if_else_expr p.at x ss).depth ≤ 500 → BranchesAgain h r p x ts → Skipped (seen us) → BlockAgain r h ss us
    → ExprReplay (GR.Atom r false b) h (M.if_else_expr p.at x ss) ((ts ++ wrd w.Else q ∷ us) ++ wrd w.End s ∷ [])
if_else_again {h} r b p q s x ss ts us fits f old g =
    let rear = wrd w.Else q ∷ us ++ wrd w.End s ∷ [] in
    let c = S.Word w.Else ∷ block_step (map stmt_terminals ss.trees) in
    let k : Replay (Elsewise r) (LikeForms same_stmt) h ss rear c = replay_block {Q = Elsewise r} {RQ = LikeForms same_stmt} w.Else q s ss us ss old g (λ k l ys ps same d m. record { tree = ys; derives = (k, l, ps, refl, d); like = m }) in
    let front : Front (seen (ts ++ rear)) (branched_terminals x ++ c) = subst (λ l. Front l (branched_terminals x ++ c)) (sym (seen-append ts rear)) (front_append (seen ts) (seen rear) (branched_terminals x) c f.front (λ u v e. refl)) in
    replay_text _ _ (sym (append_assoc ts (wrd w.Else q ∷ us) (wrd w.End s ∷ [])))
    (replay_printed _ _ (made_terminals p.at (max x.depth (M.depth_below (x.lowered - 2) (M.depth_around ss.depth))) (E.IfElse p.at x.branches ss.trees) _ fits (T.expr_ifelse_terminals p.at x.branches ss.trees))
    (record {
      tidy = record {
        old = subst Skipped (sym (seen-append ts rear)) (two_skipped (seen ts) (seen rear) f.old k.tidy.old);
        new = two_skipped (branched_terminals x) c f.new k.tidy.new;
        spells = text_spells ts rear (branched_terminals x) c f.spells k.tidy.spells;
        sim = front_sim _ _ front;
      };
      again = λ rest other right e.
          let z = right-append ts rear rest right in
          let m = k.again rest other z.1 e in
          let n = f.again (seen rear ++ rest) (c ++ other) z.0 (dull_near (S.Word w.Else) (seen (us ++ wrd w.End s ∷ []) ++ rest) refl) in
          let d = m.made.derives in
          record {
            made = subst (λ l. Made (GR.Atom r false b) LikeExpr (M.if_else_expr p.at x ss) l) (sym (laid-append h (branched_terminals x) c other)) (record {
              tree = M.if_else_expr n.tree.0.at n.tree.1 m.made.tree;
              derives = subst (GR.Atom r false b (M.if_else_expr n.tree.0.at n.tree.1 m.made.tree)) (append_assoc (laid h (branched_terminals x) (c ++ other)) (wrd w.Else d.0 ∷ d.2) (wrd w.End d.1 ∷ []) ∙ ap (λ l. laid h (branched_terminals x) (c ++ other) ++ l) (sym d.3))
                  (GR.if_else r b n.tree.0 d.0 d.1 n.tree.1 m.made.tree (laid h (branched_terminals x) (c ++ other)) d.2 n.derives (GR.block_before r m.made.tree d.2 d.4));
              like = expr_form_like _ _ _ _ _ _ fits (λ i. max (n.like.depth i) (M.depth_below (n.like.lowered i - 2) (M.depth_around (m.made.like.1 i))))
                  (T.expr_ifelse_same n.tree.0.at n.tree.1.branches m.made.tree.trees ∙ ap (λ y. E.IfElse 0 y (map same_stmt m.made.tree.trees)) n.like.branches ∙ ap (E.IfElse 0 (map same_branch x.branches)) m.made.like.0
                  ∙ sym (T.expr_ifelse_same p.at x.branches ss.trees));
            });
            headed = front_headed h (ts ++ rear) (branched_terminals x ++ c) rest other front right e;
          };
    }))

-- ---- methods

abbrev pub LikeMethod : Form Method → Form Method → Type 0
LikeMethod f e = (same_method f.tree ≡ same_method e.tree) × (f.depth ≡ e.depth)

abbrev pub MethodReplay : (Form Method → Text → Type 0) → (ℕ → ℕ) → Form Method → Text → Type 0
MethodReplay P h m ts = Replay P LikeMethod h m ts (method_terminals m.tree)

abbrev head_at : Form Head → ℕ → Form Head
head_at f a = record { tree = f.tree; at = a; depth = f.depth }

-- the head and the block of a method
abbrev long_terminals : Form Head → Forms Stmt → List Terminal
long_terminals hd ss = S.Word w.Function ∷ (head_terminals hd.tree ++ block_step (map stmt_terminals ss.trees))

pub long_method_again : {h : ℕ → ℕ} (hd : Form Head) (ss : Forms Stmt) (p q : Spot) (ts us : Text) → Skipped (seen ts) → Skipped (seen us) → Free HeadP LikeHead h hd ts (head_terminals hd.tree) → BlockAgain true h ss us
    → MethodReplay GR.LongMethod h (M.long_method hd ss) ((wrd w.Function p ∷ ts ++ us) ++ wrd w.End q ∷ [])
long_method_again {h} hd ss p q ts us olds old f g =
    replay_printed _ _ (T.method_long_terminals hd.at hd.tree ss.trees)
    (record {
      tidy = record {
        old = two_skipped (S.Word w.Function ∷ []) (seen ((ts ++ us) ++ wrd w.End q ∷ [])) (word_skipped w.Function) (subst Skipped (sym (seen-append (ts ++ us) (wrd w.End q ∷ []) ∙ ap (λ l. l ++ S.Word w.End ∷ []) (seen-append ts us)))
            (two_skipped (seen ts ++ seen us) (S.Word w.End ∷ []) (two_skipped (seen ts) (seen us) olds old) (word_skipped w.End)));
        new = two_skipped (S.Word w.Function ∷ []) (head_terminals hd.tree ++ block_step (map stmt_terminals ss.trees)) (word_skipped w.Function) (two_skipped (head_terminals hd.tree) (block_step (map stmt_terminals ss.trees)) f.tidy.new
            (two_skipped (S.Newline ∷ []) (lines (map stmt_terminals ss.trees) ++ S.Word w.End ∷ []) (λ c cs rest. refl) (two_skipped (lines (map stmt_terminals ss.trees)) (S.Word w.End ∷ []) g.skipped (word_skipped w.End))));
        spells = spells_cons (spells_as _ _ _ (sym (append_assoc (head_terminals hd.tree) (S.Newline ∷ lines (map stmt_terminals ss.trees)) (S.Word w.End ∷ [])))
            (text_spells (ts ++ us) (wrd w.End q ∷ []) (head_terminals hd.tree ++ S.Newline ∷ lines (map stmt_terminals ss.trees)) (S.Word w.End ∷ [])
            (text_spells ts us (head_terminals hd.tree) (S.Newline ∷ lines (map stmt_terminals ss.trees)) f.tidy.spells (row_lead (seen us) (lines (map stmt_terminals ss.trees)) g.spells)) (spells_same _)));
        sim = λ u v e. refl;
      };
      again = λ rest other right e.
          let r = right-append ts us (S.Word w.End ∷ rest) (right-append (ts ++ us) (wrd w.End q ∷ []) rest right.1).0 in
          let b = g.again (S.Newline ∷ []) (S.Word w.End ∷ rest) (S.Word w.End ∷ other) (inr refl) r.1 (dull_near (S.Word w.End) rest refl) in
          let u = f.puts (block_step (map stmt_terminals ss.trees) ++ other) in
          let k = spot h (long_terminals hd ss ++ other) in
          let x = head_at u.tree k.at in
          let m = spot h (S.Word w.End ∷ other) in
          let parts = laid-append h (head_terminals hd.tree) (block_step (map stmt_terminals ss.trees)) other
          ∙ ap (λ l. laid h (head_terminals hd.tree) (block_step (map stmt_terminals ss.trees) ++ other) ++ l) (laid-append h (S.Newline ∷ lines (map stmt_terminals ss.trees)) (S.Word w.End ∷ []) other)
          ∙ sym (append_assoc (laid h (head_terminals hd.tree) (block_step (map stmt_terminals ss.trees) ++ other)) (laid h (S.Newline ∷ lines (map stmt_terminals ss.trees)) (S.Word w.End ∷ other)) (wrd w.End m ∷ [])) in
          record {
            made = record {
              tree = M.long_method x b.tree;
              derives = subst (λ l. GR.LongMethod (M.long_method x b.tree) (wrd w.Function k ∷ l)) (sym parts) (GR.long x b.tree k m _ _ (u.derives k.at) (GR.block_before true b.tree _ b.derives));
              like = (
                T.method_long_same k.at u.tree.tree b.tree.trees ∙ ap (λ y. E.Long 0 y (map same_stmt b.tree.trees)) u.like.0 ∙ ap (E.Long 0 (same_head hd.tree)) b.like.0 ∙ sym (T.method_long_same hd.at hd.tree ss.trees),
                (λ i. M.depth_around (max (u.like.1 i) (M.depth_around (b.like.1 i)))),
              );
            };
            headed = (refl, sym right.0);
          };
    })

same-heads : (ts us : Text) → Headed ts us → IsMethodStart ts → IsMethodStart us
same-heads [] us g n = absurd g
same-heads (t ∷ ts) [] g n = absurd g
same-heads (t ∷ ts) (u ∷ us) g n = ap (λ m. m.ahead) g.1 ∙ n

pub short_method_again : {h : ℕ → ℕ} (hd : Form Head) (e : Form Expr) (p : Spot) (ts us : Text) → IsMethodStart ts → Free HeadP LikeHead h hd ts (head_terminals hd.tree) → ExprReplay (GR.Expression true) h e us
    → MethodReplay GR.ShortMethod h (M.short_method hd e) (ts ++ opr o.Assign p ∷ us)
short_method_again hd e p ts us is f g =
    replay_printed _ _ (T.method_short_terminals hd.at hd.tree e.tree)
    (replay_infix (S.Operator o.Assign) p (M.short_method hd e) refl (free_replay f) g
    (λ q a z ps qs d c l m u v.
    let x = head_at a (place ps) in
    record {
      tree = M.short_method x z;
      derives = GR.short x z q ps qs (same-heads ts ps u is) (d (place ps)) c;
      like = (
        T.method_short_same (place ps) a.tree z.tree ∙ ap (λ y. E.Short 0 y (same_expr z.tree)) l.0 ∙ ap (E.Short 0 (same_head hd.tree)) m.0 ∙ sym (T.method_short_same hd.at hd.tree e.tree),
        (λ i. M.depth_around (max (l.1 i) (m.1 i))),
      );
    }))

-- ---- `@eval` and `eval`

abbrev eval_word : Terminal
eval_word = S.Macro (codes "eval")

pub eval_method_again : {Q : Form Expr → Text → Type 0} {PM : Form Method → Text → Type 0} {h : ℕ → ℕ} (m : Form Method) (p : Spot) (ts : Text) → (M.eval_method p.at m).depth ≤ 500 → MethodReplay PM h m ts
    → ((f : Form Method) (q : Spot) (ps : Text) → PM f ps → Q (M.eval_method q.at f) (tok (S.Macro (codes "eval")) q ∷ ps)) → ExprReplay Q h (M.eval_method p.at m) (tok (S.Macro (codes "eval")) p ∷ ts)
eval_method_again m p ts fits f rule =
    replay_printed _ _ (made_terminals p.at (M.depth_around m.depth) (E.EvalMethod p.at m.tree) _ fits (T.expr_evalmethod_terminals p.at m.tree))
    (replay_cons (S.Macro (codes "eval")) p (M.eval_method p.at m) refl f
    (λ k a ps same d l g. record {
      tree = M.eval_method k.at a;
      derives = rule a k ps d;
      like = expr_form_like _ _ _ _ _ _ fits (ap M.depth_around l.1) (T.expr_evalmethod_same k.at a.tree ∙ ap (E.EvalMethod 0) l.0 ∙ sym (T.expr_evalmethod_same p.at m.tree));
    }))

same-evaluated : (ts us : Text) → Headed ts us → is_evaluated_start ts ≡ true → is_evaluated_start us ≡ true
same-evaluated [] us g n = absurd g
same-evaluated (t ∷ ts) [] g n = absurd g
same-evaluated (t ∷ ts) (u ∷ us) g n = ap (λ x. is_evaluated_terminal x u.marks) g.0 ∙ ap (is_evaluated_terminal t.lexeme.terminal) g.1 ∙ n

pub eval_expr_again : {h : ℕ → ℕ} (r b : Bool) (e : Form Expr) (p : Spot) (ts : Text) → is_evaluated_start ts ≡ true → (M.eval_expr p.at e).depth ≤ 500 → ExprReplay (GR.Expression false) h e ts
    → ExprReplay (GR.Atom r true b) h (M.eval_expr p.at e) (tok (S.Macro (codes "eval")) p ∷ ts)
eval_expr_again r b e p ts is fits f =
    replay_printed _ _ (made_terminals p.at (M.depth_around e.depth) (E.EvalExpr p.at e.tree) _ fits (T.expr_evalexpr_terminals p.at e.tree))
    (replay_cons (S.Macro (codes "eval")) p (M.eval_expr p.at e) refl f
    (λ k a ps same d l g. record {
      tree = M.eval_expr k.at a;
      derives = GR.eval_expr r b a k ps (same-evaluated ts ps g is) d;
      like = expr_form_like _ _ _ _ _ _ fits (ap M.depth_around l.1) (T.expr_evalexpr_same k.at a.tree ∙ ap (E.EvalExpr 0) l.0 ∙ sym (T.expr_evalexpr_same p.at e.tree));
    }))

abbrev pub EvalsAgain : (ℕ → ℕ) → Forms Eval → Text → Type 0
EvalsAgain h xs ts = AfterAgain same_eval eval_terminals GR.EvalsBefore GR.EvalsAfter (λ (z : Eval × ℕ) us. GR.Evaluated z.0 z.1 us) h xs ts

-- a word, an evaluated block and `end`
abbrev Closed : Word → Forms Eval → Text → Type 0
Closed x xs l = (k : Spot) × (m : Spot) × (ps : Text) × (l ≡ wrd x k ∷ ps ++ wrd w.End m ∷ []) × GR.EvalsBefore xs ps

closed : {h : ℕ → ℕ} (x : Word) (p q : Spot) (xs : Forms Eval) (ts : Text) → Skipped (seen ts) → EvalsAgain h xs ts
    → Replay (Closed x) (LikeForms same_eval) h xs (wrd x p ∷ ts ++ wrd w.End q ∷ []) (S.Word x ∷ block_step (map eval_terminals xs.trees))
closed x p q xs ts old f = replay_block {Q = Closed x} {RQ = LikeForms same_eval} x p q xs ts xs old f (λ k l ys ps same d m. record { tree = ys; derives = (k, l, ps, refl, d); like = m })

pub eval_block_again : {h : ℕ → ℕ} (r b : Bool) (xs : Forms Eval) (p q s : Spot) (ts : Text) → (M.eval_block p.at xs).depth ≤ 500 → Skipped (seen ts) → EvalsAgain h xs ts
    → ExprReplay (GR.Atom r false b) h (M.eval_block p.at xs) ((tok (S.Macro (codes "eval")) p ∷ wrd w.Begin q ∷ ts) ++ wrd w.End s ∷ [])
eval_block_again r b xs p q s ts fits old f =
    replay_printed _ _ (made_terminals p.at (M.depth_around (M.depth_around xs.depth)) (E.EvalBlock p.at xs.trees) _ fits (T.expr_evalblock_terminals p.at xs.trees))
    (replay_cons (S.Macro (codes "eval")) p (M.eval_block p.at xs) refl (closed w.Begin q s xs ts old f)
    (λ k a ps same d l g. record {
      tree = M.eval_block k.at a;
      derives = subst (λ x. GR.Atom r false b (M.eval_block k.at a) (tok (S.Macro (codes "eval")) k ∷ x)) (sym d.3) (GR.eval_block r b a k d.0 d.1 d.2 (GR.evals_before a d.2 d.4));
      like = expr_form_like _ _ _ _ _ _ fits (ap (λ n. M.depth_around (M.depth_around n)) l.1) (T.expr_evalblock_same k.at a.trees ∙ ap (E.EvalBlock 0) l.0 ∙ sym (T.expr_evalblock_same p.at xs.trees));
    }))

pub eval_quote_again : {h : ℕ → ℕ} (r b : Bool) (xs : Forms Eval) (p q s v z : Spot) (ts : Text) → p.marks.opening ≡ O.Quote → is_left_type b p.marks.ahead ≡ false → (M.eval_quote p.at xs).depth ≤ 500 → Skipped (seen ts) → EvalsAgain h xs ts
    → ExprReplay (GR.Atom r false b) h (M.eval_quote p.at xs) ((nam (codes "eval") p ∷ opr o.OpenParen q ∷ wrd w.Quote s ∷ ts) ++ wrd w.End v ∷ opr o.CloseParen z ∷ [])
eval_quote_again r b xs p q s v z ts is nt fits old f =
    replay_text _ _ (ap (λ l. nam (codes "eval") p ∷ opr o.OpenParen q ∷ wrd w.Quote s ∷ l) (append_assoc ts (wrd w.End v ∷ []) (opr o.CloseParen z ∷ [])))
    (replay_printed _ _ (made_terminals p.at (M.depth_around (M.depth_around xs.depth)) (E.EvalQuote p.at xs.trees) _ fits (T.expr_evalquote_terminals p.at xs.trees))
    (replay_cons (S.Name (codes "eval")) p (M.eval_quote p.at xs) refl (held {P = Closed w.Quote} {R = LikeForms same_eval} q z (closed w.Quote s v xs ts old f))
    (λ k a ps same d l g. record {
      tree = M.eval_quote k.at a;
      derives = subst (λ x. GR.Atom r false b (M.eval_quote k.at a) (nam (codes "eval") k ∷ x))
          (sym (d.3 ∙ ap (λ x. opr o.OpenParen d.0 ∷ x ++ opr o.CloseParen d.1 ∷ []) d.4.3 ∙ ap (λ x. opr o.OpenParen d.0 ∷ wrd w.Quote d.4.0 ∷ x) (append_assoc d.4.2 (wrd w.End d.4.1 ∷ []) (opr o.CloseParen d.1 ∷ []))))
          (GR.eval_quote r b (codes "eval") a k d.0 d.4.0 d.4.1 d.1 d.4.2 (same_opening O.Quote k p same is) (same_type_mark b k p same nt) (GR.evals_before a d.4.2 d.4.4));
      like = expr_form_like _ _ _ _ _ _ fits (ap (λ n. M.depth_around (M.depth_around n)) l.1) (T.expr_evalquote_same k.at a.trees ∙ ap (E.EvalQuote 0) l.0 ∙ sym (T.expr_evalquote_same p.at xs.trees));
    })))

-- ---- evaluated statements

abbrev pub EvalReplay : (ℕ → ℕ) → Eval → ℕ → Text → Type 0
EvalReplay h x d ts = Replay (λ (z : Eval × ℕ) us. GR.Evaluated z.0 z.1 us) (λ y z. (same_eval y.0 ≡ same_eval z.0) × (y.1 ≡ z.1)) h (x, d) ts (eval_terminals x)

pub evaluated_method_again : {PM : Form Method → Text → Type 0} {h : ℕ → ℕ} (m : Form Method) (ts : Text) → MethodReplay PM h m ts → ((f : Form Method) (ps : Text) → PM f ps → GR.Evaluated (EV.Method f.tree) f.depth ps) → EvalReplay h (EV.Method m.tree) m.depth ts
evaluated_method_again m ts f rule =
    replay_printed _ _ (T.eval_method_terminals m.tree)
    (replay_as (EV.Method m.tree, m.depth) f (λ a ps d l g. record { tree = (EV.Method a.tree, a.depth); derives = rule a ps d; like = (T.eval_method_same a.tree ∙ ap EV.Method l.0 ∙ sym (T.eval_method_same m.tree), l.1) }))

same-eval : (ts us : Text) → Headed ts us → is_eval_start ts ≡ true → is_eval_start us ≡ true
same-eval [] us g n = absurd g
same-eval (t ∷ ts) [] g n = absurd g
same-eval (t ∷ ts) (u ∷ us) g n = ap (λ x. is_eval_terminal x u.marks) g.0 ∙ ap (is_eval_terminal t.lexeme.terminal) g.1 ∙ n

pub evaluated_expr_again : {h : ℕ → ℕ} (e : Form Expr) (ts : Text) → is_eval_start ts ≡ true → ExprReplay (GR.Expression false) h e ts → EvalReplay h (EV.Do e.tree) e.depth ts
evaluated_expr_again e ts is f =
    replay_printed _ _ (T.eval_do_terminals e.tree)
    (replay_as (EV.Do e.tree, e.depth) f (λ a ps d l g. record { tree = (EV.Do a.tree, a.depth); derives = GR.evaluated_expr a ps (same-eval ts ps g is) d; like = (T.eval_do_same a.tree ∙ ap EV.Do l.0 ∙ sym (T.eval_do_same e.tree), l.1) }))

-- ---- pieces

-- a piece, as what it makes of the pieces before it
abbrev pub PieceAt : Bool → (Forms Piece → Forms Piece) → Text → Type 0
PieceAt r g ts = (xs : Forms Piece) → GR.PieceText r xs (g xs) ts

abbrev pub LikePiece : (Forms Piece → Forms Piece) → (Forms Piece → Forms Piece) → Type 0
LikePiece f g = (xs ys : Forms Piece) → LikeForms same_piece xs ys → LikeForms same_piece (f xs) (g ys)

pub record PieceAgain (h : ℕ → ℕ) (r : Bool) (xs ys : Forms Piece) (ts : Text) : Type 0 where
  pub more : Forms Piece → Forms Piece
  pub piece : Piece
  pub is : ys ≡ more xs
  pub trees : (zs : Forms Piece) → (more zs).trees ≡ zs.trees ++ piece ∷ []
  pub replay : Replay (PieceAt r) LikePiece h more ts (piece_terminals piece)

pub string_again : (h : ℕ → ℕ) (r : Bool) (xs : Forms Piece) (n : List ℕ) (p : Spot) → PieceAgain h r xs (M.with_text xs p.at n) (tok (S.Text n) p ∷ [])
string_again h r xs n p = record {
  more = λ zs. M.with_text zs p.at n;
  piece = PV.Text p.at n;
  is = refl;
  trees = λ zs. refl;
  replay = replay_printed _ _ (T.piece_text_terminals p.at n)
      (replay_one (S.Text n) p _ refl (λ q same. record {
        tree = λ zs. M.with_text zs q.at n;
        derives = λ zs. GR.string r zs n q;
        like = λ us vs e. (same_more same_piece us.trees vs.trees _ _ e.0 (T.piece_text_same q.at n ∙ sym (T.piece_text_same p.at n)), ap (λ d. max d 0) e.1);
      }));
}

pub show_again : {h : ℕ → ℕ} (r : Bool) (xs : Forms Piece) (e : Form Expr) (ts : Text) → ExprReplay (GR.Expression r) h e ts → PieceAgain h r xs (M.with_show xs e) ts
show_again r xs e ts f = record {
  more = λ zs. M.with_show zs e;
  piece = PV.Show e.tree;
  is = refl;
  trees = λ zs. refl;
  replay = replay_printed _ _ (T.piece_show_terminals e.tree)
      (replay_as _ f (λ a ps d l g. record {
        tree = λ zs. M.with_show zs a;
        derives = λ zs. GR.show r zs a ps d;
        like = λ us vs k. (same_more same_piece us.trees vs.trees _ _ k.0 (T.piece_show_same a.tree ∙ ap PV.Show l.0 ∙ sym (T.piece_show_same e.tree)), ap (λ n. max n a.depth) k.1 ∙ ap (max vs.depth) l.1);
      }));
}

pub one_piece_again : {h : ℕ → ℕ} (r : Bool) (xs : Forms Piece) (ts : Text) → PieceAgain h r M.no_forms xs ts → PiecesReplay (GR.Pieces r) h xs ts
one_piece_again {h} r xs ts f =
    subst (λ y. PiecesReplay (GR.Pieces r) h y ts) (sym f.is)
    (replay_printed _ _ (ap (λ l. join (map piece_terminals l)) (f.trees M.no_forms) ∙ printed_one piece_terminals f.piece)
    (replay_as (f.more M.no_forms) f.replay (λ a ps d l g. record { tree = a M.no_forms; derives = GR.one_piece r (a M.no_forms) ps (d M.no_forms); like = l M.no_forms M.no_forms (refl, refl) })))

pub more_pieces_again : {h : ℕ → ℕ} (r : Bool) (xs ys : Forms Piece) (p : Spot) (ts us : Text) → HasSome xs.trees → PiecesReplay (GR.Pieces r) h xs ts → PieceAgain h r xs ys us → PiecesReplay (GR.Pieces r) h ys (ts ++ opr o.Comma p ∷ us)
more_pieces_again {h} r xs ys p ts us some f g =
    subst (λ y. PiecesReplay (GR.Pieces r) h y (ts ++ opr o.Comma p ∷ us)) (sym g.is)
    (replay_printed _ _ (ap (λ l. join (map piece_terminals l)) (g.trees xs) ∙ printed_more piece_terminals xs.trees g.piece some)
    (replay_infix (S.Operator o.Comma) p (g.more xs) refl f g.replay (λ q a z ps qs d c l m u v. record { tree = z a; derives = GR.more_pieces r a (z a) q ps qs d (c a); like = m a xs l })))
