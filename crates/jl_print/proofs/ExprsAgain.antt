-- What an expression, a block and a method are printed by is one that is the same, places aside: one line a rule.
use Rattle.std.proofs.Common.{◌≡◌, ℕ, ◌≤◌, ◌-◌, max, Bool, true, false, codes, List, [], ◌∷◌, ◌++◌, map, refl, sym, ap, ◌∙◌, subst, arith}
use Rattle.jl_token.specs.declared.token.Operator.{Operator}
use Rattle.jl_token.specs.declared.token.Operator.TheVariants as o
use Rattle.jl_typeread.specs.declared.terminal.Terminal.{Terminal}
use Rattle.jl_typeread.specs.declared.terminal.Terminal.TheVariants as S
use Rattle.jl_typeread.specs.declared.terminal.Word.TheVariants as w
use Rattle.jl_grammar.specs.declared.mark.Marks.{Marks}
use Rattle.jl_grammar.specs.declared.mark.Mate.TheVariants.{Neither}
use Rattle.jl_grammar.specs.declared.mark.Opening.{Opening}
use Rattle.jl_grammar.specs.declared.mark.Opening.TheVariants as O
use Rattle.jl_grammar.specs.declared.state.Branched.{Branched}
use Rattle.jl_grammar.specs.declared.state.Called.TheVariants as C
use Rattle.jl_grammar.specs.declared.state.Form.{Form}
use Rattle.jl_grammar.specs.declared.state.Forms.{Forms}
use Rattle.jl_grammar.specs.declared.tree.Eval.{Eval}
use Rattle.jl_grammar.specs.declared.tree.Expr.{Expr}
use Rattle.jl_grammar.specs.declared.tree.Infix.{Infix}
use Rattle.jl_grammar.specs.declared.tree.Method.{Method}
use Rattle.jl_grammar.specs.declared.tree.Piece.{Piece}
use Rattle.jl_grammar.specs.declared.tree.Prefix.{Prefix}
use Rattle.jl_grammar.specs.declared.tree.Stmt.{Stmt}
use Rattle.jl_grammar.specs.Forms as M
use Rattle.jl_grammar.specs.Grammar as GR
use Rattle.jl_grammar.specs.Grammar.{place}
use Rattle.jl_grammar.specs.Marks.{mate_of, opening, marks_of}
use Rattle.jl_grammar.specs.Texts.{Text, Spot, tok, opr, wrd, nam, lexemes, IsPrint, name_in}
use Rattle.jl_grammar.specs.Types.{type_as_read}
use Rattle.jl_print.specs.Printed.{infix_terminal, prefix_terminal, expr_terminals, eval_terminals, stmt_terminals, in_parens}
use Rattle.jl_print.specs.Placeless.{same_eval, same_stmt, same_expr}
use Rattle.jl_print.proofs.AgainAtoms as A1
use Rattle.jl_print.proofs.AgainAtoms.{ExprsReplay}
use Rattle.jl_print.proofs.AgainBlocks as A2
use Rattle.jl_print.proofs.AgainBlocks.{BranchesAgain, BlockAgain, StmtsBeforeAgain, after_before}
use Rattle.jl_print.proofs.AgainChains as A3
use Rattle.jl_print.proofs.AgainChains.{ExprReplay, widen}
use Rattle.jl_print.proofs.AgainForms as A4
use Rattle.jl_print.proofs.AgainForms.{PiecesReplay, StmtReplay}
use Rattle.jl_print.proofs.AgainHeads.{head_free}
use Rattle.jl_print.proofs.AgainLikes.{LikeForms, depth_around_fits, left_fits, right_fits}
use Rattle.jl_print.proofs.AgainMethods as A5
use Rattle.jl_print.proofs.AgainMethods.{MethodReplay, EvalReplay, EvalsAgain, PieceAgain}
use Rattle.jl_print.proofs.AgainRows as A6
use Rattle.jl_print.proofs.AgainRows.{BeforeAgain, AfterAgain}
use Rattle.jl_print.proofs.AgainWords.{quote_word, fetch_word, print_word, latest_words, delete_words, spawn_words}
use Rattle.jl_print.proofs.Laid.{seen, Right, right-append, Replay}
use Rattle.jl_print.proofs.ListTerminals.{HasSome, some_one, some_more, some_map}
use Rattle.jl_print.proofs.WholeTexts.{Opened, whole_branches, whole_block, whole_eval_block, whole_head}
use Rattle.jl_print.proofs.Wholes.{Skipped, whole_skipped, rows_skipped, two_skipped}

-- ---- operators

prefix-terminal : (x : Operator) (u : Prefix) → GR.PrefixOperator x u → (S.Operator x ≡ prefix_terminal u) × (mate_of x ≡ Neither)
prefix-terminal _ _ GR.minus_prefix = (refl, refl)
prefix-terminal _ _ GR.not_prefix = (refl, refl)

comparison-terminal : (x : Operator) (i : Infix) → GR.ComparisonOperator x i → (S.Operator x ≡ infix_terminal i) × (mate_of x ≡ Neither)
comparison-terminal _ _ GR.equal = (refl, refl)
comparison-terminal _ _ GR.not_equal = (refl, refl)
comparison-terminal _ _ GR.less = (refl, refl)
comparison-terminal _ _ GR.less_equal = (refl, refl)
comparison-terminal _ _ GR.greater = (refl, refl)
comparison-terminal _ _ GR.greater_equal = (refl, refl)
comparison-terminal _ _ GR.identical = (refl, refl)
comparison-terminal _ _ GR.not_identical = (refl, refl)

sum-terminal : (x : Operator) (i : Infix) → GR.SumOperator x i → (S.Operator x ≡ infix_terminal i) × (mate_of x ≡ Neither)
sum-terminal _ _ GR.plus = (refl, refl)
sum-terminal _ _ GR.minus = (refl, refl)

term-terminal : (x : Operator) (i : Infix) → GR.TermOperator x i → (S.Operator x ≡ infix_terminal i) × (mate_of x ≡ Neither)
term-terminal _ _ GR.times = (refl, refl)
term-terminal _ _ GR.divide = (refl, refl)
term-terminal _ _ GR.remainder = (refl, refl)

-- ---- lists have an element

arguments-some : (r : Bool) (es : Forms Expr) (ts : Text) → GR.Arguments r es ts → HasSome es.trees
arguments-some _ _ _ (GR.one_argument r e ts d) = some_one e.tree
arguments-some _ _ _ (GR.more_arguments r es e p ts us c d) = some_more es.trees e.tree (arguments-some r es ts c)

snoc-some : {A : Type 0} (xs : List A) (x : A) → HasSome (xs ++ x ∷ [])
snoc-some [] x = some_one x
snoc-some (y ∷ xs) x = (y, xs ++ x ∷ [], refl)

piece-some : (r : Bool) (xs ys : Forms Piece) (ts : Text) → GR.PieceText r xs ys ts → HasSome ys.trees
piece-some _ _ _ _ (GR.string r xs n p) = snoc-some xs.trees _
piece-some _ _ _ _ (GR.show r xs e ts d) = snoc-some xs.trees _

pieces-some : (r : Bool) (xs : Forms Piece) (ts : Text) → GR.Pieces r xs ts → HasSome xs.trees
pieces-some _ _ _ (GR.one_piece r xs ts d) = piece-some r M.no_forms xs ts d
pieces-some _ _ _ (GR.more_pieces r xs ys p ts us c d) = piece-some r xs ys us d

opened-skipped : (p : Spot) (ts : Text) → Opened p ts → Skipped (seen ts)
opened-skipped p ts d = subst (λ l. Skipped (seen l)) (sym d.is) (two_skipped (S.Word w.If ∷ []) (seen d.body) (λ c cs rest. refl) (rows_skipped (lexemes d.body) d.inner))

-- ---- depths

else-fits : (x l d : ℕ) → max x (M.depth_below l (M.depth_around d)) ≤ 500 → (x ≤ 500) × (d ≤ 500)
else-fits x l d e = (omega (arith, e), omega (arith, e))

branch-fits : (x l c d : ℕ) → max x (M.depth_below l (max c (M.depth_around d))) ≤ 500 → (x ≤ 500) × (c ≤ 500) × (d ≤ 500)
branch-fits x l c d e = (omega (arith, e), omega (arith, e), omega (arith, e))

block-fits : (d : ℕ) → M.depth_around (M.depth_around d) ≤ 500 → d ≤ 500
block-fits d e = omega (arith, e)

long-fits : (a d : ℕ) → M.depth_around (max a (M.depth_around d)) ≤ 500 → (a ≤ 500) × (d ≤ 500)
long-fits a d e = (omega (arith, e), omega (arith, e))

both-fit : (a d : ℕ) → max a d ≤ 500 → (a ≤ 500) × (d ≤ 500)
both-fit a d e = (omega (arith, e), omega (arith, e))

choose-fits : (a b c : ℕ) → M.depth_around (max a (max b c)) ≤ 500 → (a ≤ 500) × (b ≤ 500) × (c ≤ 500)
choose-fits a b c l = (omega (arith, l), omega (arith, l), omega (arith, l))

piece-fits : (r : Bool) (xs ys : Forms Piece) (ts : Text) → GR.PieceText r xs ys ts → ys.depth ≤ 500 → xs.depth ≤ 500
piece-fits _ _ _ _ (GR.string r xs n p) l = (both-fit xs.depth 0 l).0
piece-fits _ _ _ _ (GR.show r xs e ts d) l = (both-fit xs.depth e.depth l).0

-- the mark of a name's token is that of its signs
marked-as : (x : Opening) (m : Marks) (ss : List Terminal) → m ≡ marks_of ss → m.opening ≡ x → opening ss ≡ x
marked-as x m ss e f = sym (ap (λ k. k.opening) e) ∙ f

marked-IsPrint : (l : Bool) (m : Marks) (ss : List Terminal) → m ≡ marks_of ss → IsPrint m.opening l → IsPrint (opening ss) l
marked-IsPrint l m ss e f = subst (λ k. IsPrint k.opening l) e f

module _ (h : ℕ → ℕ) where
  abbrev StmtAt : Bool → Stmt × ℕ → Text → Type 0
  StmtAt r z us = GR.Statement r z.0 z.1 us

  abbrev EvalAt : Eval × ℕ → Text → Type 0
  EvalAt z us = GR.Evaluated z.0 z.1 us

  abbrev EvalsBeforeAgain : Forms Eval → Text → Type 0
  EvalsBeforeAgain xs ts = BeforeAgain same_eval eval_terminals GR.EvalsBefore GR.EvalsAfter EvalAt h xs ts

  mutual
    pub again_atom : (r k b : Bool) (e : Form Expr) (ts : Text) → GR.Atom r k b e ts → (rest : List Terminal) → Right ts rest → e.depth ≤ 500 → ExprReplay (GR.Atom r k b) h e ts
    again_atom _ _ _ _ _ (GR.number r b n p) rest m l = A1.number_again h r b n p
    again_atom _ _ _ _ _ (GR.truth_true r b p) rest m l = A1.true_again h r b p
    again_atom _ _ _ _ _ (GR.truth_false r b p) rest m l = A1.false_again h r b p
    again_atom _ _ _ _ _ (GR.nothing r b p) rest m l = A1.nothing_again h r b p
    again_atom _ _ _ _ _ (GR.name r b n p is nt) rest m l = A1.name_again h r b n p is nt
    again_atom _ _ _ _ _ (GR.paren r b e p q ts nt d) rest m l = A1.paren_again r b e p q ts nt l (again_expression r e ts d _ (right-append ts (opr o.CloseParen q ∷ []) rest m.1).0 (depth_around_fits e.depth l))
    again_atom _ _ _ _ _ (GR.tuple_none r b p q nt) rest m l = A1.tuple_none_again h r b p q nt
    again_atom _ _ _ _ _ (GR.tuple_one r b e p q s ts nt d) rest m l =
        A1.tuple_one_again r b e p q s ts nt l (again_expression r e ts d _ (right-append ts (opr o.Comma q ∷ opr o.CloseParen s ∷ []) rest m.1).0 (right_fits 0 e.depth l))
    again_atom _ _ _ _ _ (GR.tuple r b e d es p q s ts us nt a c) rest m l =
        let x = right-append ts (opr o.Comma q ∷ us) _ (right-append (ts ++ opr o.Comma q ∷ us) (opr o.CloseParen s ∷ []) rest m.1).0 in
        A1.tuple_again r b d es p q s ts us nt l (arguments-some r es ts a) (again_arguments r es ts a _ x.0 (left_fits es.depth d.depth l)) (again_expression r d us c _ x.1.1 (right_fits es.depth d.depth l))
    again_atom _ _ _ _ _ (GR.call r b f es ts us is nt c d) rest m l = A1.call_again r b f es ts us is nt c l (again_brackets r es us d rest (right-append ts us rest m).1 (depth_around_fits es.depth l))
    again_atom _ _ _ _ _ (GR.make r b n p t es ts us is nt c d) rest m l =
        A1.make_again r b n p t es ts us is nt c l (again_brackets r es us d rest (right-append (nam n p ∷ ts) us rest m).1 (right_fits ((type_as_read t).depth - 1) es.depth l))
    again_atom _ _ _ _ _ (GR.if_end r b p q x ts d) rest m l = A5.if_again r b p q x ts l (again_branches r p x ts d _ (right-append ts (wrd w.End q ∷ []) rest m).0 l)
    again_atom _ _ _ _ _ (GR.if_else r b p q s x ss ts us c d) rest m l =
        let y = right-append ts (wrd w.Else q ∷ us) _ (right-append (ts ++ wrd w.Else q ∷ us) (wrd w.End s ∷ []) rest m).0 in
        let f = else-fits x.depth (x.lowered - 2) ss.depth l in
        A5.if_else_again r b p q s x ss ts us l (again_branches r p x ts c _ y.0 f.0) (rows_skipped (lexemes us) (whole_block r ss us d)) (again_block r ss us d _ y.1.1 f.1)
    again_atom _ _ _ _ _ (GR.begin_end r b p q ss ts d) rest m l =
        A5.begin_again r b p q ss ts l (rows_skipped (lexemes ts) (whole_block r ss ts d)) (again_block r ss ts d _ (right-append ts (wrd w.End q ∷ []) rest m.1).0 (block-fits ss.depth l))
    again_atom _ _ _ _ _ (GR.latest_none r b n k f p q s v z ts is nt c) rest m l =
        let y = latest_words n k (seen (ts ++ opr o.CloseParen z ∷ []) ++ rest) (marked-as O.Latest p.marks (S.Name n ∷ S.Operator o.Dot ∷ S.Name k ∷ S.Operator o.OpenParen ∷ seen (ts ++ opr o.CloseParen z ∷ []) ++ rest) m.0 is) in
        subst (λ i. ExprReplay (GR.Atom r false b) h (M.call_expr p.at (C.Latest f) M.no_forms) ((nam i p ∷ opr o.Dot q ∷ nam k s ∷ opr o.OpenParen v ∷ ts) ++ opr o.CloseParen z ∷ [])) (sym y.0)
        (subst (λ i. ExprReplay (GR.Atom r false b) h (M.call_expr p.at (C.Latest f) M.no_forms) ((nam (codes "Base") p ∷ opr o.Dot q ∷ nam i s ∷ opr o.OpenParen v ∷ ts) ++ opr o.CloseParen z ∷ [])) (sym y.1)
        (A4.latest_none_again r b f p q s v z ts is nt c))
    again_atom _ _ _ _ _ (GR.latest r b n k f es p q s v j z ts us is nt c d) rest m l =
        let y = latest_words n k (seen ((ts ++ opr o.Comma j ∷ us) ++ opr o.CloseParen z ∷ []) ++ rest) (marked-as O.Latest p.marks (S.Name n ∷ S.Operator o.Dot ∷ S.Name k ∷ S.Operator o.OpenParen ∷ seen ((ts ++ opr o.Comma j ∷ us) ++ opr o.CloseParen z ∷ []) ++ rest) m.0 is) in
        let x = right-append ts (opr o.Comma j ∷ us) _ (right-append (ts ++ opr o.Comma j ∷ us) (opr o.CloseParen z ∷ []) rest m.1.1.1.1).0 in
        subst (λ i. ExprReplay (GR.Atom r false b) h (M.call_expr p.at (C.Latest f) es) (((nam i p ∷ opr o.Dot q ∷ nam k s ∷ opr o.OpenParen v ∷ ts) ++ opr o.Comma j ∷ us) ++ opr o.CloseParen z ∷ [])) (sym y.0)
        (subst (λ i. ExprReplay (GR.Atom r false b) h (M.call_expr p.at (C.Latest f) es) (((nam (codes "Base") p ∷ opr o.Dot q ∷ nam i s ∷ opr o.OpenParen v ∷ ts) ++ opr o.Comma j ∷ us) ++ opr o.CloseParen z ∷ [])) (sym y.1)
        (A4.latest_again r b f es p q s v j z ts us is nt c l (some_map expr_terminals es.trees (arguments-some r es us d)) (again_arguments r es us d _ x.1.1 (depth_around_fits es.depth l))))
    again_atom _ _ _ _ _ (GR.delete r b n k f t p q s v x y z w i j ts is nt d) rest m l =
        let g = delete_words n k (S.Name (codes "which") ∷ S.Operator o.OpenParen ∷ S.Name f ∷ S.Operator o.Comma ∷ seen (ts ++ opr o.CloseParen i ∷ opr o.CloseParen j ∷ []) ++ rest) (marked-as O.Delete p.marks (S.Name n ∷ S.Operator o.Dot ∷ S.Name k ∷ S.Operator o.OpenParen
        ∷ S.Name (codes "which") ∷ S.Operator o.OpenParen ∷ S.Name f ∷ S.Operator o.Comma ∷ seen (ts ++ opr o.CloseParen i ∷ opr o.CloseParen j ∷ []) ++ rest) m.0 is) in
        let us : Text = opr o.OpenParen v ∷ nam (codes "which") x ∷ opr o.OpenParen y ∷ nam f z ∷ opr o.Comma w ∷ ts in
        subst (λ u. ExprReplay (GR.Atom r false b) h (M.delete_expr p.at (name_in f z) (type_as_read t)) ((nam u p ∷ opr o.Dot q ∷ nam k s ∷ us) ++ opr o.CloseParen i ∷ opr o.CloseParen j ∷ [])) (sym g.0)
        (subst (λ u. ExprReplay (GR.Atom r false b) h (M.delete_expr p.at (name_in f z) (type_as_read t)) ((nam (codes "Base") p ∷ opr o.Dot q ∷ nam u s ∷ us) ++ opr o.CloseParen i ∷ opr o.CloseParen j ∷ [])) (sym g.1)
        (A4.delete_again r b f t p q s v x y z w i j ts is nt d l))
    again_atom _ _ _ _ _ (GR.spawn r b n k e p q s ts is nt d) rest m l =
        let y = spawn_words n k (seen ts ++ rest) (marked-as O.Spawn p.marks (S.Name n ∷ S.Operator o.Dot ∷ S.Macro k ∷ seen ts ++ rest) m.0 is) in
        subst (λ i. ExprReplay (GR.Atom r true b) h (M.spawn_expr p.at e) (nam i p ∷ opr o.Dot q ∷ tok (S.Macro k) s ∷ ts)) (sym y.0)
        (subst (λ i. ExprReplay (GR.Atom r true b) h (M.spawn_expr p.at e) (nam (codes "Threads") p ∷ opr o.Dot q ∷ tok (S.Macro i) s ∷ ts)) (sym y.1)
        (A4.spawn_again r b e p q s ts is nt l (again_expression false e ts d rest m.1.1.1 (depth_around_fits e.depth l))))
    again_atom _ _ _ _ _ (GR.eval_long r b x p ts d) rest m l = A5.eval_method_again x p ts l (again_long x ts d rest m.1 (depth_around_fits x.depth l)) (λ f q ps c. GR.eval_long r b f q ps c)
    again_atom _ _ _ _ _ (GR.eval_short r b x p ts d) rest m l = A5.eval_method_again x p ts l (again_short x ts d rest m.1 (depth_around_fits x.depth l)) (λ f q ps c. GR.eval_short r b f q ps c)
    again_atom _ _ _ _ _ (GR.eval_block r b xs p q s ts d) rest m l =
        A5.eval_block_again r b xs p q s ts l (rows_skipped (lexemes ts) (whole_eval_block xs ts d)) (again_eval_block xs ts d _ (right-append ts (wrd w.End s ∷ []) rest m.1.1).0 (block-fits xs.depth l))
    again_atom _ _ _ _ _ (GR.eval_expr r b e p ts is d) rest m l = A5.eval_expr_again r b e p ts is l (again_expression false e ts d rest m.1 (depth_around_fits e.depth l))
    again_atom _ _ _ _ _ (GR.eval_quote r b n xs p q s v z ts is nt d) rest m l =
        subst (λ i. ExprReplay (GR.Atom r false b) h (M.eval_quote p.at xs) ((nam i p ∷ opr o.OpenParen q ∷ wrd w.Quote s ∷ ts) ++ wrd w.End v ∷ opr o.CloseParen z ∷ [])) (sym (quote_word n (marked-as O.Quote p.marks (S.Name n ∷ S.Operator o.OpenParen ∷ S.Word w.Quote ∷ seen (ts ++ wrd w.End v ∷ opr o.CloseParen z ∷ []) ++ rest) m.0 is)))
        (A5.eval_quote_again r b xs p q s v z ts is nt l (rows_skipped (lexemes ts) (whole_eval_block xs ts d)) (again_eval_block xs ts d _ (right-append ts (wrd w.End v ∷ opr o.CloseParen z ∷ []) rest m.1.1.1).0 (block-fits xs.depth l)))
    again_atom _ _ _ _ _ (GR.fetch r b n e p q s ts is nt d) rest m l =
        subst (λ i. ExprReplay (GR.Atom r false b) h (M.fetch_expr p.at e) ((nam i p ∷ opr o.OpenParen q ∷ ts) ++ opr o.CloseParen s ∷ [])) (sym (fetch_word n (marked-as O.Fetch p.marks (S.Name n ∷ S.Operator o.OpenParen ∷ seen (ts ++ opr o.CloseParen s ∷ []) ++ rest) m.0 is)))
        (A4.fetch_again r b e p q s ts is nt l (again_expression r e ts d _ (right-append ts (opr o.CloseParen s ∷ []) rest m.1.1).0 (depth_around_fits e.depth l)))
    again_atom _ _ _ _ _ (GR.print_none r b y n p q s is nt) rest m l =
        subst (λ i. ExprReplay (GR.Atom r false b) h (M.print_expr p.at y M.no_forms) (nam i p ∷ opr o.OpenParen q ∷ opr o.CloseParen s ∷ [])) (sym (print_word n y (marked-IsPrint y p.marks (S.Name n ∷ S.Operator o.OpenParen ∷ S.Operator o.CloseParen ∷ rest) m.0 is))) (A4.print_none_again h r b y p q s is nt)
    again_atom _ _ _ _ _ (GR.print r b y n xs p q s ts is nt d) rest m l =
        subst (λ i. ExprReplay (GR.Atom r false b) h (M.print_expr p.at y xs) ((nam i p ∷ opr o.OpenParen q ∷ ts) ++ opr o.CloseParen s ∷ [])) (sym (print_word n y (marked-IsPrint y p.marks (S.Name n ∷ S.Operator o.OpenParen ∷ seen (ts ++ opr o.CloseParen s ∷ []) ++ rest) m.0 is)))
        (A4.print_again r b y xs p q s ts is nt l (again_pieces r xs ts d _ (right-append ts (opr o.CloseParen s ∷ []) rest m.1.1).0 (depth_around_fits xs.depth l)))

    pub again_brackets : (r : Bool) (es : Forms Expr) (ts : Text) → GR.Brackets r es ts → (rest : List Terminal) → Right ts rest → es.depth ≤ 500 → Replay (GR.Brackets r) (LikeForms same_expr) h es ts (in_parens (map expr_terminals es.trees))
    again_brackets _ _ _ (GR.no_arguments r p q) rest m l = A1.no_arguments_again h r p q
    again_brackets _ _ _ (GR.some_arguments r es p q ts d) rest m l = A1.some_arguments_again r es p q ts (again_arguments r es ts d _ (right-append ts (opr o.CloseParen q ∷ []) rest m.1).0 l)

    pub again_arguments : (r : Bool) (es : Forms Expr) (ts : Text) → GR.Arguments r es ts → (rest : List Terminal) → Right ts rest → es.depth ≤ 500 → ExprsReplay (GR.Arguments r) h es ts
    again_arguments _ _ _ (GR.one_argument r e ts d) rest m l = A1.one_argument_again r e ts (again_expression r e ts d rest m (both-fit 0 e.depth l).1)
    again_arguments _ _ _ (GR.more_arguments r es e p ts us c d) rest m l =
        let x = right-append ts (opr o.Comma p ∷ us) rest m in
        let f = both-fit es.depth e.depth l in
        A1.more_arguments_again r es e p ts us (arguments-some r es ts c) (again_arguments r es ts c _ x.0 f.0) (again_expression r e us d rest x.1.1 f.1)

    pub again_piece : (r : Bool) (xs ys : Forms Piece) (ts : Text) → GR.PieceText r xs ys ts → (rest : List Terminal) → Right ts rest → ys.depth ≤ 500 → PieceAgain h r xs ys ts
    again_piece _ _ _ _ (GR.string r xs n p) rest m l = A5.string_again h r xs n p
    again_piece _ _ _ _ (GR.show r xs e ts d) rest m l = A5.show_again r xs e ts (again_expression r e ts d rest m (both-fit xs.depth e.depth l).1)

    pub again_pieces : (r : Bool) (xs : Forms Piece) (ts : Text) → GR.Pieces r xs ts → (rest : List Terminal) → Right ts rest → xs.depth ≤ 500 → PiecesReplay (GR.Pieces r) h xs ts
    again_pieces _ _ _ (GR.one_piece r xs ts d) rest m l = A5.one_piece_again r xs ts (again_piece r M.no_forms xs ts d rest m l)
    again_pieces _ _ _ (GR.more_pieces r xs ys p ts us c d) rest m l =
        let x = right-append ts (opr o.Comma p ∷ us) rest m in
        A5.more_pieces_again r xs ys p ts us (pieces-some r xs ts c) (again_pieces r xs ts c _ x.0 (piece-fits r xs ys us d l)) (again_piece r xs ys us d rest x.1.1 l)

    pub again_post : (r k b : Bool) (e : Form Expr) (ts : Text) → GR.Post r k b e ts → (rest : List Terminal) → Right ts rest → e.depth ≤ 500 → ExprReplay (GR.Post r k b) h e ts
    again_post _ _ _ _ _ (GR.atom r k b e ts d) rest m l = widen e ts (λ f us c g. GR.atom r k b f us c) (again_atom r k b e ts d rest m l)
    again_post _ _ _ _ _ (GR.field r b e n p q ts d) rest m l =
        A3.field_again e n p q ts l (again_post r false b e ts d _ (right-append ts (opr o.Dot p ∷ nam n q ∷ []) rest m).0 (depth_around_fits e.depth l)) (λ f x y ps c. GR.field r b f n x y ps c)
    again_post _ _ _ _ _ (GR.part r b e n p q s ts is d) rest m l =
        A3.part_again e n p q s ts l (again_post r false b e ts d _ (right-append ts (opr o.OpenBracket p ∷ tok (S.Number n) q ∷ opr o.CloseBracket s ∷ []) rest m).0 (depth_around_fits e.depth l)) (λ f x y z ps c. GR.part r b f n x y z ps is c)

    pub again_unary : (r k b : Bool) (e : Form Expr) (ts : Text) → GR.Unary r k b e ts → (rest : List Terminal) → Right ts rest → e.depth ≤ 500 → ExprReplay (GR.Unary r k b) h e ts
    again_unary _ _ _ _ _ (GR.post r k b e ts d) rest m l = widen e ts (λ f us c g. GR.post r k b f us c) (again_post r k b e ts d rest m l)
    again_unary _ _ _ _ _ (GR.prefix r k b x u e p ts is d) rest m l =
        let s = prefix-terminal x u is in
        A3.prefix_again x u e p ts s.0 s.1 l (again_unary r k false e ts d rest m.1 (depth_around_fits e.depth l)) (λ f q ps c. GR.prefix r k b x u f q ps is c)

    pub again_term : (r k b : Bool) (e : Form Expr) (ts : Text) → GR.Term r k b e ts → (rest : List Terminal) → Right ts rest → e.depth ≤ 500 → ExprReplay (GR.Term r k b) h e ts
    again_term _ _ _ _ _ (GR.unary r k b e ts d) rest m l = widen e ts (λ f us c g. GR.unary r k b f us c) (again_unary r k b e ts d rest m l)
    again_term _ _ _ _ _ (GR.term r k b x i e d p ts us is c a) rest m l =
        let s = term-terminal x i is in
        let y = right-append ts (opr x p ∷ us) rest m in
        A3.infix_again x i e d p ts us s.0 s.1 l (again_term r false b e ts c _ y.0 (left_fits e.depth d.depth l)) (again_unary r k false d us a rest y.1.1 (right_fits e.depth d.depth l)) (λ f g q ps qs u v. GR.term r k b x i f g q ps qs is u v)

    pub again_sum : (r k b : Bool) (e : Form Expr) (ts : Text) → GR.Sum r k b e ts → (rest : List Terminal) → Right ts rest → e.depth ≤ 500 → ExprReplay (GR.Sum r k b) h e ts
    again_sum _ _ _ _ _ (GR.one_term r k b e ts d) rest m l = widen e ts (λ f us c g. GR.one_term r k b f us c) (again_term r k b e ts d rest m l)
    again_sum _ _ _ _ _ (GR.sum r k b x i e d p ts us is c a) rest m l =
        let s = sum-terminal x i is in
        let y = right-append ts (opr x p ∷ us) rest m in
        A3.infix_again x i e d p ts us s.0 s.1 l (again_sum r false b e ts c _ y.0 (left_fits e.depth d.depth l)) (again_term r k false d us a rest y.1.1 (right_fits e.depth d.depth l)) (λ f g q ps qs u v. GR.sum r k b x i f g q ps qs is u v)

    pub again_comparison : (r k : Bool) (e : Form Expr) (ts : Text) → GR.Comparison r k e ts → (rest : List Terminal) → Right ts rest → e.depth ≤ 500 → ExprReplay (GR.Comparison r k) h e ts
    again_comparison _ _ _ _ (GR.sub r s t p ts us is c d) rest m l = A3.sub_expr_again s t p ts us l is c d (λ x y q ps qs i j k. GR.sub r x y q ps qs i j k)
    again_comparison _ _ _ _ (GR.isa r e t p ts us c d) rest m l =
        A3.isa_expr_again e t p ts us l (again_sum r false true e ts c _ (right-append ts (wrd w.Isa p ∷ us) rest m).0 (left_fits e.depth (type_as_read t).depth l)) d (λ f u q ps qs i j. GR.isa r f u q ps qs i j)
    again_comparison _ _ _ _ (GR.one_sum r k e ts d) rest m l = widen e ts (λ f us c g. GR.one_sum r k f us c) (again_sum r k true e ts d rest m l)
    again_comparison _ _ _ _ (GR.compare r k x i e d p ts us is c a) rest m l =
        let s = comparison-terminal x i is in
        let y = right-append ts (opr x p ∷ us) rest m in
        A3.infix_again x i e d p ts us s.0 s.1 l (again_sum r false true e ts c _ y.0 (left_fits e.depth d.depth l)) (again_sum r k false d us a rest y.1.1 (right_fits e.depth d.depth l)) (λ f g q ps qs u v. GR.compare r k x i f g q ps qs is u v)

    pub again_conjunction : (r k : Bool) (e : Form Expr) (ts : Text) → GR.Conjunction r k e ts → (rest : List Terminal) → Right ts rest → e.depth ≤ 500 → ExprReplay (GR.Conjunction r k) h e ts
    again_conjunction _ _ _ _ (GR.one_comparison r k e ts d) rest m l = widen e ts (λ f us c g. GR.one_comparison r k f us c) (again_comparison r k e ts d rest m l)
    again_conjunction _ _ _ _ (GR.both r k e d p ts us c a) rest m l =
        let y = right-append ts (opr o.And p ∷ us) rest m in
        A3.infix_again o.And _ e d p ts us refl refl l (again_conjunction r false e ts c _ y.0 (left_fits e.depth d.depth l)) (again_comparison r k d us a rest y.1.1 (right_fits e.depth d.depth l)) (λ f g q ps qs u v. GR.both r k f g q ps qs u v)

    pub again_disjunction : (r k : Bool) (e : Form Expr) (ts : Text) → GR.Disjunction r k e ts → (rest : List Terminal) → Right ts rest → e.depth ≤ 500 → ExprReplay (GR.Disjunction r k) h e ts
    again_disjunction _ _ _ _ (GR.one_conjunction r k e ts d) rest m l = widen e ts (λ f us c g. GR.one_conjunction r k f us c) (again_conjunction r k e ts d rest m l)
    again_disjunction _ _ _ _ (GR.either r k e d p ts us c a) rest m l =
        let y = right-append ts (opr o.Or p ∷ us) rest m in
        A3.infix_again o.Or _ e d p ts us refl refl l (again_disjunction r false e ts c _ y.0 (left_fits e.depth d.depth l)) (again_conjunction r k d us a rest y.1.1 (right_fits e.depth d.depth l)) (λ f g q ps qs u v. GR.either r k f g q ps qs u v)

    pub again_expression : (r : Bool) (e : Form Expr) (ts : Text) → GR.Expression r e ts → (rest : List Terminal) → Right ts rest → e.depth ≤ 500 → ExprReplay (GR.Expression r) h e ts
    again_expression _ _ _ (GR.one_disjunction r k e ts d) rest m l = widen e ts (λ f us c g. GR.one_disjunction r k f us c) (again_disjunction r k e ts d rest m l)
    again_expression _ _ _ (GR.choice r c a b p q ts us vs d f g) rest m l =
        let y = right-append (ts ++ opr o.Question p ∷ us) (opr o.Colon q ∷ vs) rest m in
        let z = right-append ts (opr o.Question p ∷ us) _ y.0 in
        let k = choose-fits c.depth a.depth b.depth l in
        A3.choice_again c a b p q ts us vs l (again_disjunction r false c ts d _ z.0 k.0) (again_expression r a us f _ z.1.1 k.1) (again_expression r b vs g rest y.1.1 k.2) (λ x y z u v ps qs rs i j n. GR.choice r x y z u v ps qs rs i j n)

    pub again_branches : (r : Bool) (p : Spot) (x : Branched) (ts : Text) → GR.Branches r p x ts → (rest : List Terminal) → Right ts rest → x.depth ≤ 500 → BranchesAgain h r p x ts
    again_branches _ _ _ _ (GR.first_branch r c ss p t ts us d s f) rest m l =
        let y = right-append ts (t ∷ us) rest m.1 in
        let k = branch-fits 0 1 c.depth ss.depth l in
        A2.first_branch_again h r c ss p t ts us (opened-skipped p _ (whole_branches r p _ _ (GR.first_branch r c ss p t ts us d s f))) (again_expression r c ts d _ y.0 k.1) s (again_block r ss us f rest y.1.1 k.2)
    again_branches _ _ _ _ (GR.next_branch r x c ss p q t ts us vs a d s f) rest m l =
        let y = right-append (ts ++ wrd w.Elseif q ∷ us) (t ∷ vs) rest m in
        let z = right-append ts (wrd w.Elseif q ∷ us) _ y.0 in
        let k = branch-fits x.depth x.lowered c.depth ss.depth l in
        A2.next_branch_again h r x c ss p q t ts us vs (opened-skipped p _ (whole_branches r p _ _ (GR.next_branch r x c ss p q t ts us vs a d s f))) (again_branches r p x ts a _ z.0 k.0) (again_expression r c us d _ z.1.1 k.1) s
        (again_block r ss vs f rest y.1.1 k.2)

    pub again_statement : (r : Bool) (s : Stmt) (d : ℕ) (ts : Text) → GR.Statement r s d ts → (rest : List Terminal) → Right ts rest → d ≤ 500 → StmtReplay r h s d ts
    again_statement _ _ _ _ (GR.bind r n e p q ts is d) rest m l = A4.bind_again r n e p q ts is (again_expression r e ts d rest m.1.1 l)
    again_statement _ _ _ _ (GR.return e p ts d) rest m l = A4.return_again e p ts (again_expression true e ts d rest m.1 l)
    again_statement _ _ _ _ (GR.return_nothing p) rest m l = A4.return_nothing_again h p
    again_statement _ _ _ _ (GR.do_expr r e ts is d) rest m l = A4.do_again r e ts is (again_expression r e ts d rest m l)

    pub again_block : (r : Bool) (ss : Forms Stmt) (ts : Text) → GR.Block r ss ts → (rest : List Terminal) → Right ts rest → ss.depth ≤ 500 → BlockAgain r h ss ts
    again_block _ _ _ (GR.block_before r ss ts d) rest m l = after_before ss ts (again_stmts_before r ss ts d rest m l)
    again_block _ _ _ (GR.block_after r ss ts d) rest m l = again_stmts_after r ss ts d rest m l

    pub again_stmts_before : (r : Bool) (ss : Forms Stmt) (ts : Text) → GR.StmtsBefore r ss ts → (rest : List Terminal) → Right ts rest → ss.depth ≤ 500 → StmtsBeforeAgain r h ss ts
    again_stmts_before _ _ _ (GR.no_stmts r) rest m l = A6.no_forms_again same_stmt stmt_terminals (GR.StmtsBefore r) (GR.StmtsAfter r) (StmtAt r) h (GR.no_stmts r) (GR.stmts_again r) (GR.stmts_apart r) (GR.stmts_one r)
    again_stmts_before _ _ _ (GR.stmts_again r ss t ts d s) rest m l =
        A6.more_again same_stmt stmt_terminals (GR.StmtsBefore r) (GR.StmtsAfter r) (StmtAt r) h (GR.no_stmts r) (GR.stmts_again r) (GR.stmts_apart r) (GR.stmts_one r) ss t ts (again_stmts_before r ss ts d _ (right-append ts (t ∷ []) rest m).0 l) s
    again_stmts_before _ _ _ (GR.stmts_apart r ss t ts d s) rest m l =
        A6.apart_again same_stmt stmt_terminals (GR.StmtsBefore r) (GR.StmtsAfter r) (StmtAt r) h (GR.no_stmts r) (GR.stmts_again r) (GR.stmts_apart r) (GR.stmts_one r) ss t ts (again_stmts_after r ss ts d _ (right-append ts (t ∷ []) rest m).0 l) s

    pub again_stmts_after : (r : Bool) (ss : Forms Stmt) (ts : Text) → GR.StmtsAfter r ss ts → (rest : List Terminal) → Right ts rest → ss.depth ≤ 500 → BlockAgain r h ss ts
    again_stmts_after _ _ _ (GR.stmts_one r ss s d ts us a c) rest m l =
        let y = right-append ts us rest m in
        let k = both-fit ss.depth d l in
        A6.one_again same_stmt stmt_terminals (GR.StmtsBefore r) (GR.StmtsAfter r) (StmtAt r) h (GR.no_stmts r) (GR.stmts_again r) (GR.stmts_apart r) (GR.stmts_one r) ss s d ts us (again_stmts_before r ss ts a _ y.0 k.0) (again_statement r s d us c rest y.1 k.1)

    pub again_long : (x : Form Method) (ts : Text) → GR.LongMethod x ts → (rest : List Terminal) → Right ts rest → x.depth ≤ 500 → MethodReplay GR.LongMethod h x ts
    again_long _ _ (GR.long hd ss p q ts us c d) rest m l =
        let y = right-append ts us _ (right-append (ts ++ us) (wrd w.End q ∷ []) rest m.1).0 in
        let k = long-fits hd.depth ss.depth l in
        A5.long_method_again hd ss p q ts us (whole_skipped (lexemes ts) (whole_head p.at hd ts c).0) (rows_skipped (lexemes us) (whole_block true ss us d)) (head_free h p.at hd ts c k.0) (again_block true ss us d _ y.1 k.1)

    pub again_short : (x : Form Method) (ts : Text) → GR.ShortMethod x ts → (rest : List Terminal) → Right ts rest → x.depth ≤ 500 → MethodReplay GR.ShortMethod h x ts
    again_short _ _ (GR.short hd e p ts us is c d) rest m l =
        A5.short_method_again hd e p ts us is (head_free h (place ts) hd ts c (left_fits hd.depth e.depth l)) (again_expression true e us d rest (right-append ts (opr o.Assign p ∷ us) rest m).1.1 (right_fits hd.depth e.depth l))

    pub again_evaluated : (x : Eval) (d : ℕ) (ts : Text) → GR.Evaluated x d ts → (rest : List Terminal) → Right ts rest → d ≤ 500 → EvalReplay h x d ts
    again_evaluated _ _ _ (GR.evaluated_long x ts d) rest m l = A5.evaluated_method_again x ts (again_long x ts d rest m l) (λ f ps c. GR.evaluated_long f ps c)
    again_evaluated _ _ _ (GR.evaluated_short x ts d) rest m l = A5.evaluated_method_again x ts (again_short x ts d rest m l) (λ f ps c. GR.evaluated_short f ps c)
    again_evaluated _ _ _ (GR.evaluated_expr e ts is d) rest m l = A5.evaluated_expr_again e ts is (again_expression false e ts d rest m l)

    pub again_eval_block : (xs : Forms Eval) (ts : Text) → GR.EvalBlock xs ts → (rest : List Terminal) → Right ts rest → xs.depth ≤ 500 → EvalsAgain h xs ts
    again_eval_block _ _ (GR.evals_before xs ts d) rest m l = after_before xs ts (again_evals_before xs ts d rest m l)
    again_eval_block _ _ (GR.evals_after xs ts d) rest m l = again_evals_after xs ts d rest m l

    pub again_evals_before : (xs : Forms Eval) (ts : Text) → GR.EvalsBefore xs ts → (rest : List Terminal) → Right ts rest → xs.depth ≤ 500 → EvalsBeforeAgain xs ts
    again_evals_before _ _ GR.no_evals rest m l = A6.no_forms_again same_eval eval_terminals GR.EvalsBefore GR.EvalsAfter EvalAt h GR.no_evals GR.evals_again GR.evals_apart GR.evals_one
    again_evals_before _ _ (GR.evals_again xs t ts d s) rest m l =
        A6.more_again same_eval eval_terminals GR.EvalsBefore GR.EvalsAfter EvalAt h GR.no_evals GR.evals_again GR.evals_apart GR.evals_one xs t ts (again_evals_before xs ts d _ (right-append ts (t ∷ []) rest m).0 l) s
    again_evals_before _ _ (GR.evals_apart xs t ts d s) rest m l =
        A6.apart_again same_eval eval_terminals GR.EvalsBefore GR.EvalsAfter EvalAt h GR.no_evals GR.evals_again GR.evals_apart GR.evals_one xs t ts (again_evals_after xs ts d _ (right-append ts (t ∷ []) rest m).0 l) s

    pub again_evals_after : (xs : Forms Eval) (ts : Text) → GR.EvalsAfter xs ts → (rest : List Terminal) → Right ts rest → xs.depth ≤ 500 → EvalsAgain h xs ts
    again_evals_after _ _ (GR.evals_one xs x d ts us a c) rest m l =
        let y = right-append ts us rest m in
        let k = both-fit xs.depth d l in
        A6.one_again same_eval eval_terminals GR.EvalsBefore GR.EvalsAfter EvalAt h GR.no_evals GR.evals_again GR.evals_apart GR.evals_one xs x d ts us (again_evals_before xs ts a _ y.0 k.0) (again_evaluated x d us c rest y.1 k.1)
