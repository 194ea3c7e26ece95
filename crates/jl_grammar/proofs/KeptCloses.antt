-- An expression that has ended: brackets, separators and blocks behind it.
use Rattle.std.proofs.Common.{ℕ, Bool, true, false, List, [], ◌∷◌, ◌++◌, ◌≡◌, Option, Some, None, refl, sym, subst}
use Rattle.std.proofs.lemmas.List.{append_assoc, append-nil}
use Rattle.jl_token.specs.declared.token.Operator.{Operator}
use Rattle.jl_token.specs.declared.token.Operator.TheVariants as op
use Rattle.jl_typeread.specs.declared.terminal.Terminal.{Terminal}
use Rattle.jl_typeread.specs.declared.terminal.Terminal.TheVariants as sg
use Rattle.jl_typeread.specs.declared.terminal.Word.{Word}
use Rattle.jl_grammar.specs.declared.mark.Marked.{Marked}
use Rattle.jl_grammar.specs.declared.state.BlockKind.{BlockKind}
use Rattle.jl_grammar.specs.declared.state.BlockKind.TheVariants as Bl
use Rattle.jl_grammar.specs.declared.state.Called.{Called}
use Rattle.jl_grammar.specs.declared.state.Called.TheVariants as Ca
use Rattle.jl_grammar.specs.declared.state.EvalKind.{EvalKind}
use Rattle.jl_grammar.specs.declared.state.Form.{Form}
use Rattle.jl_grammar.specs.declared.state.Forms.{Forms}
use Rattle.jl_grammar.specs.declared.state.Frame.{Frame}
use Rattle.jl_grammar.specs.declared.state.Frame.TheVariants as Fr
use Rattle.jl_grammar.specs.declared.state.ItemsRead.{ItemsRead}
use Rattle.jl_grammar.specs.declared.state.Lead.{Lead}
use Rattle.jl_grammar.specs.declared.state.Outer.{Outer}
use Rattle.jl_grammar.specs.declared.state.Outer.TheVariants as Ou
use Rattle.jl_grammar.specs.declared.state.State.{State}
use Rattle.jl_grammar.specs.declared.tree.Eval.{Eval}
use Rattle.jl_grammar.specs.declared.tree.Expr.{Expr}
use Rattle.jl_grammar.specs.declared.tree.Item.{Item}
use Rattle.jl_grammar.specs.declared.tree.Piece.{Piece}
use Rattle.jl_grammar.specs.declared.tree.Stmt.{Stmt}
use Rattle.jl_grammar.specs.Forms as M
use Rattle.jl_grammar.specs.Grammar.{PrefixOperator, ComparisonOperator, SumOperator, TermOperator, CalleeText, ParamText, ParamsText, ParensText, WhereText, HeadText, place, Atom, Brackets, Arguments, PieceText, Pieces, Post, Unary, Term, Sum, Comparison, Conjunction, Disjunction, Expression, Branches, Statement, Block, StmtsBefore, StmtsAfter, LongMethod, ShortMethod, Evaluated, EvalBlock, EvalsBefore, EvalsAfter, ParentText, TypeParamsText, HeaderText, FieldText, FieldsBefore, FieldsAfter, FieldsText, ItemText, ItemsBefore, ItemsAfter, ScriptText}
use Rattle.jl_grammar.specs.Grammar as Gr
use Rattle.jl_grammar.specs.Levels.{push_outer, is_comparison_start}
use Rattle.jl_grammar.specs.Turns as Tu
use Rattle.jl_grammar.specs.Turns.{at, is_return_allowed}
use Rattle.jl_grammar.specs.Texts as Tx
use Rattle.jl_grammar.specs.Texts.{Text, Spot, tok, opr, wrd, nam, name_in, Sep, lexemes, is_method, is_sub, is_binding, is_plain, is_left_type, is_item_name, is_item_terminal, is_item_start, is_stmt_name, is_stmt_terminal, is_stmt_start, is_eval_name, is_eval_terminal, is_eval_start, is_evaluated_terminal, is_evaluated_start, OpensAs, IsMethodStart, IsSubStart, IsPrint, IsBindingName, is_end}
use Rattle.jl_grammar.specs.Types.{type_as_read}
use Rattle.jl_grammar.proofs.Standing.{Choice, any_form, Starts, in_otherwise, CalledText, called_function, called_type, called_latest, ArgumentsPart, no_arguments_yet, some_arguments_yet, PiecesPart, no_pieces_yet, some_pieces_yet, PrintText, print_text, bottom, in_paren, in_tuple, in_args, in_fetch, in_print, in_then, in_test, in_block, in_evals, Led, led_text, KindText, branch_kind, EvalText}
use Rattle.jl_grammar.proofs.Points.{has_entry, has_want, has_again, has_piece, HasSome}
use Rattle.jl_grammar.proofs.Closing.{starts_more, bare_levels, EndedText, ended_text}
use Rattle.jl_grammar.proofs.KeptBlocks.{has_moved, has_atom, has_no_pending, plain_lead, ItemOf, item_text, StmtsOf, stmts_text, EvalsOf, evals_text, kept_block_word, kept_evals_word}

pub some_moved : (o : Option State) (a b : Text) → HasSome o a → a ≡ b → HasSome o b
some_moved o a b h same = subst (HasSome o) same h

-- ---- arguments and pieces

pub arguments_text : (r : Bool) (es : Forms Expr) (us : Text) (e : Form Expr) (ws : Text) → ArgumentsPart r es us → Expression r e ws → Arguments r (M.with_expr es e) (us ++ ws)
arguments_text _ _ _ e ws (no_arguments_yet r) d = Gr.one_argument r e ws d
arguments_text _ _ _ e ws (some_arguments_yet r es p ts c) d =
    subst (Arguments r (M.with_expr es e)) (sym (append_assoc ts (opr op.Comma p ∷ []) ws)) (Gr.more_arguments r es e p ts ws c d)

pub call_expr_text : (r k b : Bool) (a : ℕ) (f : Called) (vs : Text) (es : Forms Expr) (ws : Text) (z : Spot) → CalledText k b a f vs → Arguments r es ws →
    Atom r false b (M.call_expr a f es) ((vs ++ ws) ++ opr op.CloseParen z ∷ [])
call_expr_text r _ _ _ _ _ es ws z (called_function b f q ts o l c) d =
    subst (Atom r false b (M.call_expr (place ts) (Ca.Function f) es)) (simp append_assoc refl)
    (Gr.call r b f es ts ((opr op.OpenParen q ∷ ws) ++ opr op.CloseParen z ∷ []) o l c (Gr.some_arguments r es q z ws d))
call_expr_text r _ _ _ _ _ es ws z (called_type b n t p q ts o l c) d =
    subst (Atom r false b (M.call_expr p.at (Ca.Type (type_as_read t)) es)) (simp append_assoc refl)
    (Gr.make r b n p t es ts ((opr op.OpenParen q ∷ ws) ++ opr op.CloseParen z ∷ []) o l c (Gr.some_arguments r es q z ws d))
call_expr_text r _ _ _ _ _ es ws z (called_latest b n m f p q s v y ts o l c) d =
    subst (Atom r false b (M.call_expr p.at (Ca.Latest f) es)) (simp append_assoc refl) (Gr.latest r b n m f es p q s v y z ts ws o l c d)

pub call_expr_empty : (r b : Bool) (a : ℕ) (f : Called) (vs : Text) (z : Spot) → CalledText true b a f vs → Atom r false b (M.call_expr a f M.no_forms) (vs ++ opr op.CloseParen z ∷ [])
call_expr_empty r _ _ _ _ z (called_function b f q ts o l c) =
    subst (Atom r false b (M.call_expr (place ts) (Ca.Function f) M.no_forms)) (sym (append_assoc ts (opr op.OpenParen q ∷ []) (opr op.CloseParen z ∷ [])))
    (Gr.call r b f M.no_forms ts (opr op.OpenParen q ∷ opr op.CloseParen z ∷ []) o l c (Gr.no_arguments r q z))
call_expr_empty r _ _ _ _ z (called_type b n t p q ts o l c) =
    subst (Atom r false b (M.call_expr p.at (Ca.Type (type_as_read t)) M.no_forms)) (sym (append_assoc (nam n p ∷ ts) (opr op.OpenParen q ∷ []) (opr op.CloseParen z ∷ [])))
    (Gr.make r b n p t M.no_forms ts (opr op.OpenParen q ∷ opr op.CloseParen z ∷ []) o l c (Gr.no_arguments r q z))

pub pieces_text : (r : Bool) (ps ys : Forms Piece) (us ws : Text) → PiecesPart r ps us → PieceText r ps ys ws → Pieces r ys (us ++ ws)
pieces_text _ _ ys _ ws (no_pieces_yet r) d = Gr.one_piece r ys ws d
pieces_text _ _ ys _ ws (some_pieces_yet r ps p ts c) d =
    subst (Pieces r ys) (sym (append_assoc ts (opr op.Comma p ∷ []) ws)) (Gr.more_pieces r ps ys p ts ws c d)

pub print_expr_text : (r b : Bool) (a : ℕ) (l : Bool) (vs : Text) (ps : Forms Piece) (ws : Text) (z : Spot) → PrintText b a l vs → Pieces r ps ws →
    Atom r false b (M.print_expr a l ps) ((vs ++ ws) ++ opr op.CloseParen z ∷ [])
print_expr_text r _ _ _ _ ps ws z (print_text b l n p q o e) d = Gr.print r b l n ps p q z ws o e d

pub print_expr_empty : (r b : Bool) (a : ℕ) (l : Bool) (vs : Text) (z : Spot) → PrintText b a l vs → Atom r false b (M.print_expr a l M.no_forms) (vs ++ opr op.CloseParen z ∷ [])
print_expr_empty r _ _ _ _ z (print_text b l n p q o e) = Gr.print_none r b l n p q z o e

-- ---- separators

kept_item : (o : Option (Form Item)) (xs : ItemsRead) (ts us : Text) (t : Marked) → Sep t → ItemsBefore xs ts → ItemOf o us → HasSome (Tu.end_item o xs) ((ts ++ us) ++ t ∷ [])
kept_item None xs ts us t sep b i = tt
kept_item (Some x) xs ts us t sep b i =
    has_entry [] (M.with_item xs x) ((ts ++ us) ++ t ∷ []) tt
    (bottom (M.with_item xs x) ((ts ++ us) ++ t ∷ []) (Gr.items_apart (M.with_item xs x) t (ts ++ us) (Gr.items_one xs x ts us b i) sep))

kept_stmt : (o : Option (Forms Stmt)) (k : BlockKind) (K : List Frame) (xs : ItemsRead) (ts us : Text) (t : Marked) → Sep t → KindText K xs k ts → StmtsOf (is_return_allowed k) o us →
    HasSome (Tu.end_stmt o k K xs) ((ts ++ us) ++ t ∷ [])
kept_stmt None k K xs ts us t sep b i = tt
kept_stmt (Some ss) k K xs ts us t sep b i =
    has_moved (has_entry (Fr.Block k ss ∷ K) xs (ts ++ (us ++ t ∷ [])) tt (in_block k ss K xs ts (us ++ t ∷ []) b (Gr.stmts_apart (is_return_allowed k) ss t us i sep))) (sym (append_assoc ts us (t ∷ [])))

kept_eval : (o : Option (Forms Eval)) (k : EvalKind) (K : List Frame) (xs : ItemsRead) (ts us : Text) (t : Marked) → Sep t → EvalText K xs k ts → EvalsOf o us →
    HasSome (Tu.end_eval o k K xs) ((ts ++ us) ++ t ∷ [])
kept_eval None k K xs ts us t sep b i = tt
kept_eval (Some ys) k K xs ts us t sep b i =
    has_moved (has_entry (Fr.Evals k ys ∷ K) xs (ts ++ (us ++ t ∷ [])) tt (in_evals k ys K xs ts (us ++ t ∷ []) b (Gr.evals_apart ys t us i sep))) (sym (append_assoc ts us (t ∷ [])))

pub kept_separator_after_expr : (t : Marked) (l : Lead) (e : Form Expr) (K : List Frame) (xs : ItemsRead) (ts : Text) → Sep t → EndedText K xs l e ts → HasSome (Tu.separator_after_expr l e K xs) (ts ++ t ∷ [])
kept_separator_after_expr t _ _ _ _ _ sep (ended_text _ _ l e y c _ us vs (bottom xs ts b) lt x s) = kept_item (Tu.item_of l e) xs ts (us ++ vs) t sep b (item_text l c y e us vs lt x s)
kept_separator_after_expr t _ _ _ _ _ sep (ended_text _ _ l e y c _ us vs (in_paren p q K xs d ts ws g ls st n) lt x s) = tt
kept_separator_after_expr t _ _ _ _ _ sep (ended_text _ _ l e y c _ us vs (in_tuple p q v es K xs d ts ws zs g ls st n r) lt x s) = tt
kept_separator_after_expr t _ _ _ _ _ sep (ended_text _ _ l e y c _ us vs (in_args p k a f es K xs d ts ws zs ns g ls st m n) lt x s) = tt
kept_separator_after_expr t _ _ _ _ _ sep (ended_text _ _ l e y c _ us vs (in_fetch p n q v K xs d ts ws g ls st m k) lt x s) = tt
kept_separator_after_expr t _ _ _ _ _ sep (ended_text _ _ l e y c _ us vs (in_print p a f ps K xs d ts ws zs ns g ls st m n) lt x s) = tt
kept_separator_after_expr t _ _ _ _ _ sep (ended_text _ _ l e y c _ us vs (in_then p f q K xs d ts ws g n st m) lt x s) = tt
kept_separator_after_expr t _ _ _ _ _ sep (ended_text _ _ l e y c _ us vs (in_test p a f b K xs d ts ws zs g ls st m) lt x s) =
    has_moved (has_entry (Fr.Block (Bl.Branch p a f b e) M.no_forms ∷ K) xs (((ts ++ ws) ++ ((zs ++ (us ++ vs)) ++ t ∷ [])) ++ []) tt
    (in_block (Bl.Branch p a f b e) M.no_forms K xs ((ts ++ ws) ++ ((zs ++ (us ++ vs)) ++ t ∷ [])) []
    (branch_kind p a f b e t K xs d ts ws zs (us ++ vs) g ls st m (plain_lead p.returns l c y e us vs lt x) sep) (Gr.no_stmts p.returns))) (simp (append_assoc, append-nil) refl)
kept_separator_after_expr t _ _ _ _ _ sep (ended_text _ _ l e y c _ us vs (in_block k ss K xs ts ws m b) lt x s) =
    some_moved (Tu.end_stmt (Tu.with_stmt ss l e) k K xs) ((ts ++ (ws ++ (us ++ vs))) ++ t ∷ []) (((ts ++ ws) ++ (us ++ vs)) ++ t ∷ [])
    (kept_stmt (Tu.with_stmt ss l e) k K xs ts (ws ++ (us ++ vs)) t sep m (stmts_text (is_return_allowed k) l c y e ss ws us vs b lt x s)) (simp append_assoc refl)
kept_separator_after_expr t _ _ _ _ _ sep (ended_text _ _ l e y c _ us vs (in_evals k ys K xs ts ws m b) lt x s) =
    some_moved (Tu.end_eval (Tu.with_eval ys l e) k K xs) ((ts ++ (ws ++ (us ++ vs))) ++ t ∷ []) (((ts ++ ws) ++ (us ++ vs)) ++ t ∷ [])
    (kept_eval (Tu.with_eval ys l e) k K xs ts (ws ++ (us ++ vs)) t sep m (evals_text l c y e ys ws us vs b lt x s)) (simp append_assoc refl)

-- ---- reserved words

kept_word_after_stmts : (o : Option (Forms Stmt)) (v : Word) (k : BlockKind) (K : List Frame) (xs : ItemsRead) (ts us : Text) (q : Spot) → KindText K xs k ts → StmtsOf (is_return_allowed k) o us →
    HasSome (Tu.word_after_stmts o v q.at k K xs) ((ts ++ us) ++ wrd v q ∷ [])
kept_word_after_stmts None v k K xs ts us q t i = tt
kept_word_after_stmts (Some ss) v k K xs ts us q t i = kept_block_word v k ss K xs ts us q t (Gr.block_after (is_return_allowed k) ss us i)

kept_word_after_evals : (o : Option (Forms Eval)) (v : Word) (k : EvalKind) (K : List Frame) (xs : ItemsRead) (ts us : Text) (q : Spot) → EvalText K xs k ts → EvalsOf o us →
    HasSome (Tu.word_after_evals o v k K xs) ((ts ++ us) ++ wrd v q ∷ [])
kept_word_after_evals None v k K xs ts us q t i = tt
kept_word_after_evals (Some ys) v k K xs ts us q t i = kept_evals_word v k ys K xs ts us q t (Gr.evals_after ys us i)

pub kept_word_after_expr : (v : Word) (q : Spot) (l : Lead) (e : Form Expr) (K : List Frame) (xs : ItemsRead) (ts : Text) → EndedText K xs l e ts → HasSome (Tu.word_after_expr v q.at l e K xs) (ts ++ wrd v q ∷ [])
kept_word_after_expr v z _ _ _ _ _ (ended_text _ _ l e y c _ us vs (bottom xs ts b) lt x s) = tt
kept_word_after_expr v z _ _ _ _ _ (ended_text _ _ l e y c _ us vs (in_paren p q K xs d ts ws g ls st n) lt x s) = tt
kept_word_after_expr v z _ _ _ _ _ (ended_text _ _ l e y c _ us vs (in_tuple p q w es K xs d ts ws zs g ls st n r) lt x s) = tt
kept_word_after_expr v z _ _ _ _ _ (ended_text _ _ l e y c _ us vs (in_args p k a f es K xs d ts ws zs ns g ls st m n) lt x s) = tt
kept_word_after_expr v z _ _ _ _ _ (ended_text _ _ l e y c _ us vs (in_fetch p n q w K xs d ts ws g ls st m k) lt x s) = tt
kept_word_after_expr v z _ _ _ _ _ (ended_text _ _ l e y c _ us vs (in_print p a f ps K xs d ts ws zs ns g ls st m n) lt x s) = tt
kept_word_after_expr v z _ _ _ _ _ (ended_text _ _ l e y c _ us vs (in_then p f q K xs d ts ws g n st m) lt x s) = tt
kept_word_after_expr v z _ _ _ _ _ (ended_text _ _ l e y c _ us vs (in_test p a f b K xs d ts ws zs g ls st m) lt x s) = tt
kept_word_after_expr v z _ _ _ _ _ (ended_text _ _ l e y c _ us vs (in_block k ss K xs ts ws m b) lt x s) =
    some_moved (Tu.word_after_stmts (Tu.with_stmt ss l e) v z.at k K xs) ((ts ++ (ws ++ (us ++ vs))) ++ wrd v z ∷ []) (((ts ++ ws) ++ (us ++ vs)) ++ wrd v z ∷ [])
    (kept_word_after_stmts (Tu.with_stmt ss l e) v k K xs ts (ws ++ (us ++ vs)) z m (stmts_text (is_return_allowed k) l c y e ss ws us vs b lt x s)) (simp append_assoc refl)
kept_word_after_expr v z _ _ _ _ _ (ended_text _ _ l e y c _ us vs (in_evals k ys K xs ts ws m b) lt x s) =
    some_moved (Tu.word_after_evals (Tu.with_eval ys l e) v k K xs) ((ts ++ (ws ++ (us ++ vs))) ++ wrd v z ∷ []) (((ts ++ ws) ++ (us ++ vs)) ++ wrd v z ∷ [])
    (kept_word_after_evals (Tu.with_eval ys l e) v k K xs ts (ws ++ (us ++ vs)) z m (evals_text l c y e ys ws us vs b lt x s)) (simp append_assoc refl)

-- ---- brackets

pub kept_paren_after_expr : (z : Spot) (l : Lead) (e : Form Expr) (K : List Frame) (xs : ItemsRead) (ts : Text) → EndedText K xs l e ts → HasSome (Tu.paren_after_expr e K xs) (ts ++ opr op.CloseParen z ∷ [])
kept_paren_after_expr z _ _ _ _ _ (ended_text _ _ l e y c _ us vs (bottom xs ts b) lt x s) = tt
kept_paren_after_expr z _ _ _ _ _ (ended_text _ _ l e y c _ us vs (in_paren p q K xs d ts ws g ls st n) lt x s) =
    has_moved (has_atom p (M.paren q.at e) K xs d ts ws ((opr op.OpenParen q ∷ (us ++ vs)) ++ opr op.CloseParen z ∷ []) g ls
    (starts_more d ws (opr op.OpenParen q ∷ []) ((us ++ vs) ++ opr op.CloseParen z ∷ []) st)
    (Gr.paren p.returns (is_comparison_start p.levels) e q z (us ++ vs) n (plain_lead p.returns l c y e us vs lt x))) (simp append_assoc refl)
kept_paren_after_expr z _ _ _ _ _ (ended_text _ _ l e y c _ us vs (in_tuple p q w es K xs d ts ws zs g ls st n r) lt x s) =
    has_moved (has_atom p (M.tuple q.at (M.with_expr es e)) K xs d ts ws (opr op.OpenParen q ∷ ((zs ++ opr op.Comma w ∷ (us ++ vs)) ++ opr op.CloseParen z ∷ [])) g ls
    (starts_more d ws (opr op.OpenParen q ∷ []) ((zs ++ opr op.Comma w ∷ (us ++ vs)) ++ opr op.CloseParen z ∷ []) st)
    (Gr.tuple p.returns (is_comparison_start p.levels) e e es q w z zs (us ++ vs) n r (plain_lead p.returns l c y e us vs lt x))) (simp append_assoc refl)
kept_paren_after_expr z _ _ _ _ _ (ended_text _ _ l e y c _ us vs (in_args p k a f es K xs d ts ws zs ns g ls st m n) lt x s) =
    has_moved (has_atom p (M.call_expr a f (M.with_expr es e)) K xs d ts ws ((zs ++ (ns ++ (us ++ vs))) ++ opr op.CloseParen z ∷ []) g ls
    (subst (Starts d) (simp append_assoc refl) (starts_more d ws zs ((ns ++ (us ++ vs)) ++ opr op.CloseParen z ∷ []) st))
    (call_expr_text p.returns k (is_comparison_start p.levels) a f zs (M.with_expr es e) (ns ++ (us ++ vs)) z m
    (arguments_text p.returns es ns e (us ++ vs) n (plain_lead p.returns l c y e us vs lt x)))) (simp append_assoc refl)
kept_paren_after_expr z _ _ _ _ _ (ended_text _ _ l e y c _ us vs (in_fetch p n q w K xs d ts ws g ls st m k) lt x s) =
    has_moved (has_atom p (M.fetch_expr q.at e) K xs d ts ws ((nam n q ∷ opr op.OpenParen w ∷ (us ++ vs)) ++ opr op.CloseParen z ∷ []) g ls
    (starts_more d ws (nam n q ∷ []) ((opr op.OpenParen w ∷ (us ++ vs)) ++ opr op.CloseParen z ∷ []) st)
    (Gr.fetch p.returns (is_comparison_start p.levels) n e q w z (us ++ vs) m k (plain_lead p.returns l c y e us vs lt x))) (simp append_assoc refl)
kept_paren_after_expr z _ _ _ _ _ (ended_text _ _ l e y c _ us vs (in_print p a f ps K xs d ts ws zs ns g ls st m n) lt x s) =
    has_moved (has_atom p (M.print_expr a f (M.with_show ps e)) K xs d ts ws ((zs ++ (ns ++ (us ++ vs))) ++ opr op.CloseParen z ∷ []) g ls
    (subst (Starts d) (simp append_assoc refl) (starts_more d ws zs ((ns ++ (us ++ vs)) ++ opr op.CloseParen z ∷ []) st))
    (print_expr_text p.returns (is_comparison_start p.levels) a f zs (M.with_show ps e) (ns ++ (us ++ vs)) z m
    (pieces_text p.returns ps (M.with_show ps e) ns (us ++ vs) n (Gr.show p.returns ps e (us ++ vs) (plain_lead p.returns l c y e us vs lt x))))) (simp append_assoc refl)
kept_paren_after_expr z _ _ _ _ _ (ended_text _ _ l e y c _ us vs (in_then p f q K xs d ts ws g n st m) lt x s) = tt
kept_paren_after_expr z _ _ _ _ _ (ended_text _ _ l e y c _ us vs (in_test p a f b K xs d ts ws zs g ls st m) lt x s) = tt
kept_paren_after_expr z _ _ _ _ _ (ended_text _ _ l e y c _ us vs (in_block k ss K xs ts ws m b) lt x s) = tt
kept_paren_after_expr z _ _ _ _ _ (ended_text _ _ l e y c _ us vs (in_evals k ys K xs ts ws m b) lt x s) = tt

pub kept_comma_after_expr : (z : Spot) (l : Lead) (e : Form Expr) (K : List Frame) (xs : ItemsRead) (ts : Text) → EndedText K xs l e ts → HasSome (Tu.comma_after_expr e K xs) (ts ++ opr op.Comma z ∷ [])
kept_comma_after_expr z _ _ _ _ _ (ended_text _ _ l e y c _ us vs (bottom xs ts b) lt x s) = tt
kept_comma_after_expr z _ _ _ _ _ (ended_text _ _ l e y c _ us vs (in_paren p q K xs d ts ws g ls st n) lt x s) =
    has_moved (has_again p q z e K xs d ts ws (us ++ vs) g ls st n (plain_lead p.returns l c y e us vs lt x)) (simp append_assoc refl)
kept_comma_after_expr z _ _ _ _ _ (ended_text _ _ l e y c _ us vs (in_tuple p q w es K xs d ts ws zs g ls st n r) lt x s) =
    has_moved (has_no_pending (Fr.Tuple p q.at (M.with_expr es e) ∷ K) xs ((ts ++ ws) ++ ((opr op.OpenParen q ∷ (zs ++ opr op.Comma w ∷ (us ++ vs))) ++ opr op.Comma z ∷ [])) tt
    (in_tuple p q z (M.with_expr es e) K xs d ts ws (zs ++ opr op.Comma w ∷ (us ++ vs)) g ls st n
    (Gr.more_arguments p.returns es e w zs (us ++ vs) r (plain_lead p.returns l c y e us vs lt x)))) (simp append_assoc refl)
kept_comma_after_expr z _ _ _ _ _ (ended_text _ _ l e y c _ us vs (in_args p k a f es K xs d ts ws zs ns g ls st m n) lt x s) =
    has_moved (has_no_pending (Fr.Args p a f (M.with_expr es e) ∷ K) xs ((ts ++ ws) ++ (zs ++ ((ns ++ (us ++ vs)) ++ opr op.Comma z ∷ []))) tt
    (in_args p k a f (M.with_expr es e) K xs d ts ws zs ((ns ++ (us ++ vs)) ++ opr op.Comma z ∷ []) g ls st m
    (some_arguments_yet p.returns (M.with_expr es e) z (ns ++ (us ++ vs)) (arguments_text p.returns es ns e (us ++ vs) n (plain_lead p.returns l c y e us vs lt x))))) (simp append_assoc refl)
kept_comma_after_expr z _ _ _ _ _ (ended_text _ _ l e y c _ us vs (in_fetch p n q w K xs d ts ws g ls st m k) lt x s) = tt
kept_comma_after_expr z _ _ _ _ _ (ended_text _ _ l e y c _ us vs (in_print p a f ps K xs d ts ws zs ns g ls st m n) lt x s) =
    has_moved (has_piece p a f (M.with_show ps e) K xs ((ts ++ ws) ++ (zs ++ ((ns ++ (us ++ vs)) ++ opr op.Comma z ∷ [])))
    (in_print p a f (M.with_show ps e) K xs d ts ws zs ((ns ++ (us ++ vs)) ++ opr op.Comma z ∷ []) g ls st m
    (some_pieces_yet p.returns (M.with_show ps e) z (ns ++ (us ++ vs))
    (pieces_text p.returns ps (M.with_show ps e) ns (us ++ vs) n (Gr.show p.returns ps e (us ++ vs) (plain_lead p.returns l c y e us vs lt x)))))) (simp append_assoc refl)
kept_comma_after_expr z _ _ _ _ _ (ended_text _ _ l e y c _ us vs (in_then p f q K xs d ts ws g n st m) lt x s) = tt
kept_comma_after_expr z _ _ _ _ _ (ended_text _ _ l e y c _ us vs (in_test p a f b K xs d ts ws zs g ls st m) lt x s) = tt
kept_comma_after_expr z _ _ _ _ _ (ended_text _ _ l e y c _ us vs (in_block k ss K xs ts ws m b) lt x s) = tt
kept_comma_after_expr z _ _ _ _ _ (ended_text _ _ l e y c _ us vs (in_evals k ys K xs ts ws m b) lt x s) = tt

-- ---- the `:` of a conditional

led_otherwise : (K : List Frame) (xs : ItemsRead) (l : Lead) (os : List Outer) (r : Bool) (d : Choice) (ts : Text) (f a : Form Expr) (us vs : Text) (q z : Spot) → Led K xs l os r d ts →
    Disjunction r false f us → Starts d us → Expression r a vs → Led K xs l (Ou.Otherwise f a ∷ os) r any_form (ts ++ ((us ++ (opr op.Question q ∷ vs)) ++ opr op.Colon z ∷ []))
led_otherwise _ _ _ _ _ _ _ f a us vs q z (led_text K xs l os y r c d ts ws ns o lt ot) g s x =
    subst (Led K xs l (Ou.Otherwise f a ∷ os) r any_form) (simp append_assoc refl)
    (led_text K xs l (Ou.Otherwise f a ∷ os) y r c any_form ts ws (ns ++ ((us ++ (opr op.Question q ∷ vs)) ++ opr op.Colon z ∷ [])) o lt
    (in_otherwise c d y r os f a q z ns us vs ot g s x))

pub kept_colon_after_expr : (z : Spot) (l : Lead) (e : Form Expr) (K : List Frame) (xs : ItemsRead) (ts : Text) → EndedText K xs l e ts → HasSome (Tu.colon_after_expr e K xs) (ts ++ opr op.Colon z ∷ [])
kept_colon_after_expr z _ _ _ _ _ (ended_text _ _ l e y c _ us vs (bottom xs ts b) lt x s) = tt
kept_colon_after_expr z _ _ _ _ _ (ended_text _ _ l e y c _ us vs (in_paren p q K xs d ts ws g ls st n) lt x s) = tt
kept_colon_after_expr z _ _ _ _ _ (ended_text _ _ l e y c _ us vs (in_tuple p q w es K xs d ts ws zs g ls st n r) lt x s) = tt
kept_colon_after_expr z _ _ _ _ _ (ended_text _ _ l e y c _ us vs (in_args p k a f es K xs d ts ws zs ns g ls st m n) lt x s) = tt
kept_colon_after_expr z _ _ _ _ _ (ended_text _ _ l e y c _ us vs (in_fetch p n q w K xs d ts ws g ls st m k) lt x s) = tt
kept_colon_after_expr z _ _ _ _ _ (ended_text _ _ l e y c _ us vs (in_print p a f ps K xs d ts ws zs ns g ls st m n) lt x s) = tt
kept_colon_after_expr z _ _ _ _ _ (ended_text _ _ l e y c _ us vs (in_then p f q K xs d ts ws g n st m) lt x s) =
    has_moved (has_want (push_outer (Ou.Otherwise f e) p.returns p) K xs any_form (ts ++ ((ws ++ (opr op.Question q ∷ (us ++ vs))) ++ opr op.Colon z ∷ [])) []
    (led_otherwise K xs p.lead p.outer p.returns d ts f e ws (us ++ vs) q z g m st (plain_lead p.returns l c y e us vs lt x)) (bare_levels p.returns) tt) (simp (append_assoc, append-nil) refl)
kept_colon_after_expr z _ _ _ _ _ (ended_text _ _ l e y c _ us vs (in_test p a f b K xs d ts ws zs g ls st m) lt x s) = tt
kept_colon_after_expr z _ _ _ _ _ (ended_text _ _ l e y c _ us vs (in_block k ss K xs ts ws m b) lt x s) = tt
kept_colon_after_expr z _ _ _ _ _ (ended_text _ _ l e y c _ us vs (in_evals k ys K xs ts ws m b) lt x s) = tt

-- ---- any token

pub kept_operator_after_expr : (o : Operator) (z : Spot) (l : Lead) (e : Form Expr) (K : List Frame) (xs : ItemsRead) (ts : Text) → EndedText K xs l e ts → HasSome (Tu.operator_after_expr o l e K xs) (ts ++ opr o z ∷ [])
kept_operator_after_expr op.Comma z l e K xs ts d = kept_comma_after_expr z l e K xs ts d
kept_operator_after_expr op.CloseParen z l e K xs ts d = kept_paren_after_expr z l e K xs ts d
kept_operator_after_expr op.Colon z l e K xs ts d = kept_colon_after_expr z l e K xs ts d
kept_operator_after_expr op.Semicolon z l e K xs ts d = kept_separator_after_expr (opr op.Semicolon z) l e K xs ts (Tx.semicolon z) d
kept_operator_after_expr _ z l e K xs ts d = tt

pub kept_token_after_expr : (s : Terminal) (z : Spot) (l : Lead) (e : Form Expr) (K : List Frame) (xs : ItemsRead) (ts : Text) → is_end s ≡ false → EndedText K xs l e ts →
    HasSome (Tu.token_after_expr s z.at l e K xs) (ts ++ tok s z ∷ [])
kept_token_after_expr (sg.Operator o) z l e K xs ts n d = kept_operator_after_expr o z l e K xs ts d
kept_token_after_expr (sg.Word v) z l e K xs ts n d = kept_word_after_expr v z l e K xs ts d
kept_token_after_expr sg.Newline z l e K xs ts n d = kept_separator_after_expr (tok sg.Newline z) l e K xs ts (Tx.newline z) d
kept_token_after_expr sg.End z l e K xs ts n d = absurd cc
kept_token_after_expr _ z l e K xs ts n d = tt
