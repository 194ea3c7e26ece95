-- Brackets, what stands behind an operand, special forms, and names of functions.
use Rattle.std.proofs.Common.{ℕ, ℤ, pos, int_le, Bool, true, false, codes, bytes_eq, List, [], ◌∷◌, ◌++◌, ◌≡◌, refl, sym, ap, subst}
use Rattle.std.proofs.lemmas.List.{append_assoc, append-nil}
use Rattle.jl_token.specs.declared.token.Operator.{Operator}
use Rattle.jl_token.specs.declared.token.Operator.TheVariants as op
use Rattle.jl_typeread.specs.declared.terminal.Terminal.{Terminal}
use Rattle.jl_typeread.specs.declared.terminal.Terminal.TheVariants as sg
use Rattle.jl_typeread.specs.declared.terminal.Word.TheVariants as wd
use Rattle.jl_typeread.specs.declared.tree.TypeText.{TypeText}
use Rattle.jl_grammar.specs.declared.mark.Marked.{Marked}
use Rattle.jl_grammar.specs.declared.mark.Opening.TheVariants as Op
use Rattle.jl_grammar.specs.declared.state.Called.{Called}
use Rattle.jl_grammar.specs.declared.state.Called.TheVariants as Ca
use Rattle.jl_grammar.specs.declared.state.Due.{Due}
use Rattle.jl_grammar.specs.declared.state.Due.TheVariants as Du
use Rattle.jl_grammar.specs.declared.state.EvalKind.TheVariants as Ev
use Rattle.jl_grammar.specs.declared.state.Form.{Form}
use Rattle.jl_grammar.specs.declared.state.Forms.{Forms}
use Rattle.jl_grammar.specs.declared.state.Frame.{Frame}
use Rattle.jl_grammar.specs.declared.state.Frame.TheVariants as Fr
use Rattle.jl_grammar.specs.declared.state.Goal.TheVariants as Go
use Rattle.jl_grammar.specs.declared.state.ItemsRead.{ItemsRead}
use Rattle.jl_grammar.specs.declared.state.Lead.{Lead}
use Rattle.jl_grammar.specs.declared.state.Levels.{Levels}
use Rattle.jl_grammar.specs.declared.state.Outer.{Outer}
use Rattle.jl_grammar.specs.declared.state.Outer.TheVariants as Ou
use Rattle.jl_grammar.specs.declared.state.Pending.{Pending}
use Rattle.jl_grammar.specs.declared.state.Point.TheVariants as Po
use Rattle.jl_grammar.specs.declared.state.Purpose.{Purpose}
use Rattle.jl_grammar.specs.declared.state.Purpose.TheVariants as Pu
use Rattle.jl_grammar.specs.declared.tree.Callee.{Callee}
use Rattle.jl_grammar.specs.declared.tree.Callee.TheVariants as Cl
use Rattle.jl_grammar.specs.declared.tree.Eval.{Eval}
use Rattle.jl_grammar.specs.declared.tree.Expr.{Expr}
use Rattle.jl_grammar.specs.declared.tree.Name.{Name}
use Rattle.jl_grammar.specs.declared.tree.Piece.{Piece}
use Rattle.jl_grammar.specs.Forms as M
use Rattle.jl_grammar.specs.Grammar.{PrefixOperator, ComparisonOperator, SumOperator, TermOperator, CalleeText, ParamText, ParamsText, ParensText, WhereText, HeadText, place, Atom, Brackets, Arguments, PieceText, Pieces, Post, Unary, Term, Sum, Comparison, Conjunction, Disjunction, Expression, Branches, Statement, Block, StmtsBefore, StmtsAfter, LongMethod, ShortMethod, Evaluated, EvalBlock, EvalsBefore, EvalsAfter, ParentText, TypeParamsText, HeaderText, FieldText, FieldsBefore, FieldsAfter, FieldsText, ItemText, ItemsBefore, ItemsAfter, ScriptText}
use Rattle.jl_grammar.specs.Grammar as Gr
use Rattle.jl_grammar.specs.Levels.{no_pending, push_outer, is_comparison_start}
use Rattle.jl_grammar.specs.Machine as Mc
use Rattle.jl_grammar.specs.Turns as Tu
use Rattle.jl_grammar.specs.Turns.{at, is_return_allowed}
use Rattle.jl_grammar.specs.Texts.{Text, Spot, tok, opr, wrd, nam, name_in, is_left_type}
use Rattle.jl_grammar.proofs.Standing.{Choice, any_form, item_form, stmt_form, eval_form, evaluated_form, Starts, LevelsText, in_spawn, CalledText, called_function, called_latest, no_arguments_yet, no_pieces_yet, some_pieces_yet, PrintText, print_text, Opened, in_paren, in_tuple, in_args, in_fetch, in_print, in_evals, Led, led_text, EvalText, quote_begin}
use Rattle.jl_grammar.proofs.Points.{Naming, free_name, called_name, method_name, Names, PurposeText, for_call, for_latest, for_head, DeletingText, deleting_text, goal_delete, DueText, spawn_dot, spawn_macro, latest_dot, latest_name, latest_open, delete_dot, delete_name, delete_open, which_word, which_open, which_name, fetch_open, print_open, quote_open, quote_word, Has, has_entry, has_want, has_first_args, has_first_print, has_piece, has_texted, has_have, has_indexed, has_due, has_deleting, has_function, has_named, has_dotted, has_colon, has_known, has_first_param, HasSome}
use Rattle.jl_grammar.proofs.Closing.{starts_more, bare_levels}
use Rattle.jl_grammar.proofs.KeptBlocks.{has_moved, has_atom, has_no_pending}
use Rattle.jl_grammar.proofs.KeptCloses.{some_moved, call_expr_empty, pieces_text, print_expr_text, print_expr_empty}
use Rattle.jl_grammar.proofs.KeptBegins.{kept_no_pending}
use Rattle.jl_grammar.proofs.KeptHeads.{type_begins}
use Rattle.jl_grammar.specs.Types.{type_as_read, IsType}
use Rattle.std.proofs.lemmas.Slice.Eq.{bytes_eq-Decides}
use Rattle.jl_grammar.specs.Marks.{is_function}

-- only the first token tells
pub starts_same : (d : Choice) (us : Text) (t : Marked) (vs ws : Text) → Starts d (us ++ t ∷ vs) → Starts d (us ++ t ∷ ws)
starts_same any_form us t vs ws h = tt
starts_same item_form [] t vs ws h = h
starts_same item_form (u ∷ us) t vs ws h = h
starts_same stmt_form [] t vs ws h = h
starts_same stmt_form (u ∷ us) t vs ws h = h
starts_same eval_form [] t vs ws h = h
starts_same eval_form (u ∷ us) t vs ws h = h
starts_same evaluated_form [] t vs ws h = h
starts_same evaluated_form (u ∷ us) t vs ws h = h

-- ---- directly behind a bracket

pub kept_first_paren : (s : Terminal) (z : Spot) (p : Pending) (a : ℕ) (K : List Frame) (xs : ItemsRead) (ts : Text) → Opened (Fr.Paren p a ∷ K) xs ts →
    HasSome (Tu.at_first s z.marks z.at p.returns (Fr.Paren p a ∷ K) xs) (ts ++ tok s z ∷ [])
kept_first_paren (sg.Operator op.CloseParen) z _ _ _ _ _ (in_paren p q K xs d ts us l ls st n) =
    has_moved (has_atom p (M.tuple q.at M.no_forms) K xs d ts us (opr op.OpenParen q ∷ opr op.CloseParen z ∷ []) l ls (starts_same d us (opr op.OpenParen q) [] (opr op.CloseParen z ∷ []) st)
    (Gr.tuple_none p.returns (is_comparison_start p.levels) q z n)) (simp append_assoc refl)
kept_first_paren (sg.Text n) z p a K xs ts o = tt
kept_first_paren s z p a K xs ts o = kept_no_pending s z (Fr.Paren p a ∷ K) xs ts o tt

pub kept_first_args : (s : Terminal) (z : Spot) (p : Pending) (a : ℕ) (f : Called) (K : List Frame) (xs : ItemsRead) (d : Choice) (ts us vs : Text) → Led K xs p.lead p.outer p.returns d ts →
    LevelsText p.returns p.levels us → Starts d (us ++ vs) → CalledText true (is_comparison_start p.levels) a f vs →
    HasSome (Tu.at_first s z.marks z.at p.returns (Fr.Args p a f M.no_forms ∷ K) xs) (((ts ++ us) ++ vs) ++ tok s z ∷ [])
kept_first_args (sg.Operator op.CloseParen) z p a f K xs d ts us vs l ls st c =
    has_moved (has_atom p (M.call_expr a f M.no_forms) K xs d ts us (vs ++ opr op.CloseParen z ∷ []) l ls (starts_more d us vs (opr op.CloseParen z ∷ []) st)
    (call_expr_empty p.returns (is_comparison_start p.levels) a f vs z c)) (simp append_assoc refl)
kept_first_args (sg.Text n) z p a f K xs d ts us vs l ls st c = tt
kept_first_args s z p a f K xs d ts us vs l ls st c =
    some_moved (Tu.begin_operand s z.marks z.at (no_pending p.returns) (Fr.Args p a f M.no_forms ∷ K) xs) (((ts ++ us) ++ (vs ++ [])) ++ tok s z ∷ []) (((ts ++ us) ++ vs) ++ tok s z ∷ [])
    (kept_no_pending s z (Fr.Args p a f M.no_forms ∷ K) xs ((ts ++ us) ++ (vs ++ [])) (in_args p true a f M.no_forms K xs d ts us vs [] l ls st c (no_arguments_yet p.returns)) tt)
    (ap (λ x. ((ts ++ us) ++ x) ++ tok s z ∷ []) (append-nil vs))

-- a string in a print
pub kept_push_string : (n : List ℕ) (z : Spot) (p : Pending) (a : ℕ) (l : Bool) (ps : Forms Piece) (K : List Frame) (xs : ItemsRead) (ts : Text) → Opened (Fr.Print p a l ps ∷ K) xs ts →
    HasSome (Tu.push_string z.at n (Fr.Print p a l ps ∷ K) xs) (ts ++ tok (sg.Text n) z ∷ [])
kept_push_string n z _ _ _ _ _ _ _ (in_print p a f ps K xs d ts us vs ws l ls st m c) =
    has_moved (has_texted p a f (M.with_text ps z.at n) K xs d ts us vs (ws ++ tok (sg.Text n) z ∷ []) l ls st m
    (pieces_text p.returns ps (M.with_text ps z.at n) ws (tok (sg.Text n) z ∷ []) c (Gr.string p.returns ps n z))) (simp append_assoc refl)

pub kept_first_print : (s : Terminal) (z : Spot) (p : Pending) (a : ℕ) (f : Bool) (K : List Frame) (xs : ItemsRead) (d : Choice) (ts us vs : Text) → Led K xs p.lead p.outer p.returns d ts →
    LevelsText p.returns p.levels us → Starts d (us ++ vs) → PrintText (is_comparison_start p.levels) a f vs →
    HasSome (Tu.at_first s z.marks z.at p.returns (Fr.Print p a f M.no_forms ∷ K) xs) (((ts ++ us) ++ vs) ++ tok s z ∷ [])
kept_first_print (sg.Operator op.CloseParen) z p a f K xs d ts us vs l ls st c =
    has_moved (has_atom p (M.print_expr a f M.no_forms) K xs d ts us (vs ++ opr op.CloseParen z ∷ []) l ls (starts_more d us vs (opr op.CloseParen z ∷ []) st)
    (print_expr_empty p.returns (is_comparison_start p.levels) a f vs z c)) (simp append_assoc refl)
kept_first_print (sg.Text n) z p a f K xs d ts us vs l ls st c =
    some_moved (Tu.push_string z.at n (Fr.Print p a f M.no_forms ∷ K) xs) (((ts ++ us) ++ (vs ++ [])) ++ tok (sg.Text n) z ∷ []) (((ts ++ us) ++ vs) ++ tok (sg.Text n) z ∷ [])
    (kept_push_string n z p a f M.no_forms K xs ((ts ++ us) ++ (vs ++ [])) (in_print p a f M.no_forms K xs d ts us vs [] l ls st c (no_pieces_yet p.returns)))
    (ap (λ x. ((ts ++ us) ++ x) ++ tok (sg.Text n) z ∷ []) (append-nil vs))
kept_first_print s z p a f K xs d ts us vs l ls st c =
    some_moved (Tu.begin_operand s z.marks z.at (no_pending p.returns) (Fr.Print p a f M.no_forms ∷ K) xs) (((ts ++ us) ++ (vs ++ [])) ++ tok s z ∷ []) (((ts ++ us) ++ vs) ++ tok s z ∷ [])
    (kept_no_pending s z (Fr.Print p a f M.no_forms ∷ K) xs ((ts ++ us) ++ (vs ++ [])) (in_print p a f M.no_forms K xs d ts us vs [] l ls st c (no_pieces_yet p.returns)) tt)
    (ap (λ x. ((ts ++ us) ++ x) ++ tok s z ∷ []) (append-nil vs))

pub kept_again : (s : Terminal) (z : Spot) (p : Pending) (q y : Spot) (e : Form Expr) (K : List Frame) (xs : ItemsRead) (d : Choice) (ts us vs : Text) → Led K xs p.lead p.outer p.returns d ts →
    LevelsText p.returns p.levels us → Starts d (us ++ opr op.OpenParen q ∷ []) → is_left_type (is_comparison_start p.levels) q.marks.ahead ≡ false → Expression p.returns e vs →
    HasSome (Tu.at_again s z.marks z.at p.returns (Fr.Tuple p q.at (M.with_expr M.no_forms e) ∷ K) xs) (((ts ++ us) ++ ((opr op.OpenParen q ∷ vs) ++ opr op.Comma y ∷ [])) ++ tok s z ∷ [])
kept_again (sg.Operator op.CloseParen) z p q y e K xs d ts us vs l ls st n x =
    has_moved (has_atom p (M.tuple q.at (M.with_expr M.no_forms e)) K xs d ts us ((opr op.OpenParen q ∷ vs) ++ opr op.Comma y ∷ opr op.CloseParen z ∷ []) l ls
    (starts_same d us (opr op.OpenParen q) [] (vs ++ opr op.Comma y ∷ opr op.CloseParen z ∷ []) st)
    (Gr.tuple_one p.returns (is_comparison_start p.levels) e q y z vs n x)) (simp append_assoc refl)
kept_again s z p q y e K xs d ts us vs l ls st n x =
    kept_no_pending s z (Fr.Tuple p q.at (M.with_expr M.no_forms e) ∷ K) xs ((ts ++ us) ++ ((opr op.OpenParen q ∷ vs) ++ opr op.Comma y ∷ []))
    (in_tuple p q y (M.with_expr M.no_forms e) K xs d ts us vs l ls st n (Gr.one_argument p.returns e vs x)) tt

pub kept_piece : (s : Terminal) (z : Spot) (p : Pending) (a : ℕ) (l : Bool) (ps : Forms Piece) (K : List Frame) (xs : ItemsRead) (ts : Text) → Opened (Fr.Print p a l ps ∷ K) xs ts →
    HasSome (Tu.at_piece s z.marks z.at p.returns (Fr.Print p a l ps ∷ K) xs) (ts ++ tok s z ∷ [])
kept_piece (sg.Text n) z p a l ps K xs ts o = kept_push_string n z p a l ps K xs ts o
kept_piece s z p a l ps K xs ts o = kept_no_pending s z (Fr.Print p a l ps ∷ K) xs ts o tt

pub kept_texted : (s : Terminal) (z : Spot) (p : Pending) (a : ℕ) (f : Bool) (ps : Forms Piece) (K : List Frame) (xs : ItemsRead) (d : Choice) (ts us vs ws : Text) → Led K xs p.lead p.outer p.returns d ts →
    LevelsText p.returns p.levels us → Starts d (us ++ vs) → PrintText (is_comparison_start p.levels) a f vs → Pieces p.returns ps ws →
    HasSome (Tu.at_texted s (Fr.Print p a f ps ∷ K) xs) (((ts ++ us) ++ (vs ++ ws)) ++ tok s z ∷ [])
kept_texted (sg.Operator op.CloseParen) z p a f ps K xs d ts us vs ws l ls st m c =
    has_moved (has_atom p (M.print_expr a f ps) K xs d ts us ((vs ++ ws) ++ opr op.CloseParen z ∷ []) l ls
    (subst (Starts d) (simp append_assoc refl) (starts_more d us vs (ws ++ opr op.CloseParen z ∷ []) st))
    (print_expr_text p.returns (is_comparison_start p.levels) a f vs ps ws z m c)) (simp append_assoc refl)
kept_texted (sg.Operator op.Comma) z p a f ps K xs d ts us vs ws l ls st m c =
    has_moved (has_piece p a f ps K xs ((ts ++ us) ++ (vs ++ (ws ++ opr op.Comma z ∷ [])))
    (in_print p a f ps K xs d ts us vs (ws ++ opr op.Comma z ∷ []) l ls st m (some_pieces_yet p.returns ps z ws c))) (simp append_assoc refl)
kept_texted _ z p a f ps K xs d ts us vs ws l ls st m c = tt

-- ---- behind an operand

pub kept_dot : (s : Terminal) (z : Spot) (p : Pending) (e : Form Expr) (q : Spot) (K : List Frame) (xs : ItemsRead) (d : Choice) (ts us vs : Text) → Led K xs p.lead p.outer p.returns d ts →
    LevelsText p.returns p.levels us → Starts d (us ++ vs) → Post p.returns false (is_comparison_start p.levels) e vs →
    HasSome (Tu.at_dot s z.at p e K xs) (((ts ++ us) ++ (vs ++ opr op.Dot q ∷ [])) ++ tok s z ∷ [])
kept_dot (sg.Name n) z p e q K xs d ts us vs l ls st a =
    has_moved (has_have p (M.field e (name_in n z)) K xs d ts us (vs ++ opr op.Dot q ∷ nam n z ∷ []) l ls (starts_more d us vs (opr op.Dot q ∷ nam n z ∷ []) st)
    (Gr.field p.returns (is_comparison_start p.levels) e n q z vs a)) (simp append_assoc refl)
kept_dot _ z p e q K xs d ts us vs l ls st a = tt

pub kept_push_index : (b : Bool) (n : ℤ) (z : Spot) (p : Pending) (e : Form Expr) (q : Spot) (K : List Frame) (xs : ItemsRead) (d : Choice) (ts us vs : Text) → int_le (pos 1) n ≡ b →
    Led K xs p.lead p.outer p.returns d ts → LevelsText p.returns p.levels us → Starts d (us ++ vs) → Post p.returns false (is_comparison_start p.levels) e vs →
    HasSome (Tu.push_index b n p e K xs) (((ts ++ us) ++ (vs ++ opr op.OpenBracket q ∷ [])) ++ tok (sg.Number n) z ∷ [])
kept_push_index false n z p e q K xs d ts us vs h l ls st a = tt
kept_push_index true n z p e q K xs d ts us vs h l ls st a = has_moved (has_indexed p e n q z K xs d ts us vs l ls st a h) (simp append_assoc refl)

pub kept_index : (s : Terminal) (z : Spot) (p : Pending) (e : Form Expr) (q : Spot) (K : List Frame) (xs : ItemsRead) (d : Choice) (ts us vs : Text) → Led K xs p.lead p.outer p.returns d ts →
    LevelsText p.returns p.levels us → Starts d (us ++ vs) → Post p.returns false (is_comparison_start p.levels) e vs →
    HasSome (Tu.at_index s p e K xs) (((ts ++ us) ++ (vs ++ opr op.OpenBracket q ∷ [])) ++ tok s z ∷ [])
kept_index (sg.Number n) z p e q K xs d ts us vs l ls st a = kept_push_index (int_le (pos 1) n) n z p e q K xs d ts us vs refl l ls st a
kept_index _ z p e q K xs d ts us vs l ls st a = tt

pub kept_indexed : (s : Terminal) (z : Spot) (p : Pending) (e : Form Expr) (n : ℤ) (q y : Spot) (K : List Frame) (xs : ItemsRead) (d : Choice) (ts us vs : Text) → Led K xs p.lead p.outer p.returns d ts →
    LevelsText p.returns p.levels us → Starts d (us ++ vs) → Post p.returns false (is_comparison_start p.levels) e vs → int_le (pos 1) n ≡ true →
    HasSome (Tu.at_indexed s p e n K xs) (((ts ++ us) ++ (vs ++ (opr op.OpenBracket q ∷ tok (sg.Number n) y ∷ []))) ++ tok s z ∷ [])
kept_indexed (sg.Operator op.CloseBracket) z p e n q y K xs d ts us vs l ls st a h =
    has_moved (has_have p (M.part e n) K xs d ts us (vs ++ opr op.OpenBracket q ∷ tok (sg.Number n) y ∷ opr op.CloseBracket z ∷ []) l ls
    (starts_more d us vs (opr op.OpenBracket q ∷ tok (sg.Number n) y ∷ opr op.CloseBracket z ∷ []) st)
    (Gr.part p.returns (is_comparison_start p.levels) e n q y z vs h a)) (simp append_assoc refl)
kept_indexed _ z p e n q y K xs d ts us vs l ls st a h = tt

pub kept_quoted : (s : Terminal) (z : Spot) (p : Pending) (a : ℕ) (ys : Forms Eval) (v : Spot) (K : List Frame) (xs : ItemsRead) (ts us : Text) → EvalText K xs (Ev.Quote p a) ts → EvalBlock ys us →
    HasSome (Tu.at_ending s p (M.eval_quote a ys) K xs) ((ts ++ (us ++ wrd wd.End v ∷ [])) ++ tok s z ∷ [])
kept_quoted (sg.Operator op.CloseParen) z _ _ ys v _ _ _ us (quote_begin p n q w y K xs d ts vs l ls st mk le) b =
    has_moved (has_atom p (M.eval_quote q.at ys) K xs d ts vs ((nam n q ∷ opr op.OpenParen w ∷ wrd wd.Quote y ∷ us) ++ wrd wd.End v ∷ opr op.CloseParen z ∷ []) l ls
    (starts_same d vs (nam n q) [] ((opr op.OpenParen w ∷ wrd wd.Quote y ∷ us) ++ wrd wd.End v ∷ opr op.CloseParen z ∷ []) st)
    (Gr.eval_quote p.returns (is_comparison_start p.levels) n ys q w y v z us mk le b)) (simp append_assoc refl)
kept_quoted _ z p a ys v K xs ts us o b = tt

-- ---- deletions

pub kept_deleting : (s : Terminal) (z : Spot) (p : Pending) (a : ℕ) (f : Name) (K : List Frame) (xs : ItemsRead) (d : Choice) (ts us vs : Text) → Led K xs p.lead p.outer p.returns d ts →
    LevelsText p.returns p.levels us → Starts d (us ++ vs) → DeletingText (is_comparison_start p.levels) a f vs → HasSome (Mc.at_deleting s p a f K xs) (((ts ++ us) ++ vs) ++ tok s z ∷ [])
kept_deleting (sg.Operator op.Comma) z p a f K xs d ts us vs l ls st c =
    has_moved (type_begins (Go.Delete p a f) K xs ((ts ++ us) ++ (vs ++ opr op.Comma z ∷ [])) (goal_delete p a f z K xs d ts us vs l ls st c)) (sym (append_assoc (ts ++ us) vs (opr op.Comma z ∷ [])))
kept_deleting _ z p a f K xs d ts us vs l ls st c = tt

pub kept_deleted : (s : Terminal) (z : Spot) (p : Pending) (a : ℕ) (f : Name) (t : TypeText) (q y : Spot) (K : List Frame) (xs : ItemsRead) (d : Choice) (ts us vs ws : Text) → Led K xs p.lead p.outer p.returns d ts →
    LevelsText p.returns p.levels us → Starts d (us ++ vs) → DeletingText (is_comparison_start p.levels) a f vs → IsType t ws →
    HasSome (Tu.at_ending s p (M.delete_expr a f (type_as_read t)) K xs) (((ts ++ us) ++ ((vs ++ opr op.Comma q ∷ ws) ++ opr op.CloseParen y ∷ [])) ++ tok s z ∷ [])
kept_deleted (sg.Operator op.CloseParen) z p _ _ t k y K xs d ts us _ ws l ls st (deleting_text b n m f q w v x i j h mk le) c =
    has_moved (has_atom p (M.delete_expr q.at (name_in f h) (type_as_read t)) K xs d ts us
    ((nam n q ∷ opr op.Dot w ∷ nam m v ∷ opr op.OpenParen x ∷ nam (codes "which") i ∷ opr op.OpenParen j ∷ nam f h ∷ opr op.Comma k ∷ ws) ++ opr op.CloseParen y ∷ opr op.CloseParen z ∷ []) l ls
    (starts_same d us (nam n q) (opr op.Dot w ∷ nam m v ∷ opr op.OpenParen x ∷ nam (codes "which") i ∷ opr op.OpenParen j ∷ nam f h ∷ [])
    ((opr op.Dot w ∷ nam m v ∷ opr op.OpenParen x ∷ nam (codes "which") i ∷ opr op.OpenParen j ∷ nam f h ∷ opr op.Comma k ∷ ws) ++ opr op.CloseParen y ∷ opr op.CloseParen z ∷ []) st)
    (Gr.delete p.returns (is_comparison_start p.levels) n m f t q w v x i j h k y z ws mk le c)) (simp append_assoc refl)
kept_deleted _ z p a f t q y K xs d ts us vs ws l ls st x c = tt

kept_due_which : (c : Bool) (g n m : List ℕ) (z q w v y : Spot) (p : Pending) (K : List Frame) (xs : ItemsRead) (d : Choice) (ts us : Text) → bytes_eq g (codes "which") ≡ c →
    Led K xs p.lead p.outer p.returns d ts → LevelsText p.returns p.levels us → Starts d (us ++ (nam n q ∷ opr op.Dot w ∷ nam m v ∷ opr op.OpenParen y ∷ [])) →
    q.marks.opening ≡ Op.Delete → is_left_type (is_comparison_start p.levels) q.marks.ahead ≡ false →
    HasSome (Mc.due_which c p q.at K xs) (((ts ++ us) ++ (nam n q ∷ opr op.Dot w ∷ nam m v ∷ opr op.OpenParen y ∷ [])) ++ nam g z ∷ [])
kept_due_which false g n m z q w v y p K xs d ts us h l ls st mk le = tt
kept_due_which true g n m z q w v y p K xs d ts us h l ls st mk le = let same = (bytes_eq-Decides g (codes "which")).0 h in
    subst (λ i. Has (Po.Due p q.at Du.WhichOpen) K xs (((ts ++ us) ++ (nam n q ∷ opr op.Dot w ∷ nam m v ∷ opr op.OpenParen y ∷ [])) ++ nam i z ∷ [])) (sym same)
    (has_moved (has_due p q.at Du.WhichOpen K xs d ts us (nam n q ∷ opr op.Dot w ∷ nam m v ∷ opr op.OpenParen y ∷ nam (codes "which") z ∷ []) l ls
    (starts_same d us (nam n q) (opr op.Dot w ∷ nam m v ∷ opr op.OpenParen y ∷ []) (opr op.Dot w ∷ nam m v ∷ opr op.OpenParen y ∷ nam (codes "which") z ∷ []) st)
    (which_open (is_comparison_start p.levels) n m q w v y z mk le)) (simp append_assoc refl))

-- ---- the fixed tokens of special forms

led_spawn : (K : List Frame) (xs : ItemsRead) (l : Lead) (os : List Outer) (r : Bool) (d : Choice) (ts : Text) (ls : Levels) (us : Text) (n m : List ℕ) (p q s : Spot) → Led K xs l os r d ts →
    LevelsText r ls us → Starts d (us ++ nam n p ∷ []) → p.marks.opening ≡ Op.Spawn → is_left_type (is_comparison_start ls) p.marks.ahead ≡ false →
    Led K xs l (Ou.Spawn ls p.at ∷ os) false any_form (ts ++ (us ++ nam n p ∷ opr op.Dot q ∷ tok (sg.Macro m) s ∷ []))
led_spawn _ _ _ _ _ _ _ ls us n m p q s (led_text K xs l os y r c d ts ws vs o lt ot) lv st mk le =
    subst (Led K xs l (Ou.Spawn ls p.at ∷ os) false any_form) (simp append_assoc refl)
    (led_text K xs l (Ou.Spawn ls p.at ∷ os) y false c any_form ts ws (vs ++ (us ++ nam n p ∷ opr op.Dot q ∷ tok (sg.Macro m) s ∷ [])) o lt
    (in_spawn c d y r os ls n m p q s vs us ot lv st mk le))

pub kept_due : (s : Terminal) (z : Spot) (p : Pending) (a : ℕ) (x : Due) (K : List Frame) (xs : ItemsRead) (d : Choice) (ts us vs : Text) → Led K xs p.lead p.outer p.returns d ts →
    LevelsText p.returns p.levels us → Starts d (us ++ vs) → DueText (is_comparison_start p.levels) a x vs → HasSome (Mc.at_due s z.at p a x K xs) (((ts ++ us) ++ vs) ++ tok s z ∷ [])
kept_due (sg.Operator op.Dot) z p _ _ K xs d ts us _ l ls st (spawn_dot b n q mk le) =
    has_moved (has_due p q.at Du.SpawnMacro K xs d ts us (nam n q ∷ opr op.Dot z ∷ []) l ls (starts_same d us (nam n q) [] (opr op.Dot z ∷ []) st) (spawn_macro b n q z mk le)) (simp append_assoc refl)
kept_due (sg.Operator op.Dot) z p _ _ K xs d ts us _ l ls st (latest_dot b n q mk le) =
    has_moved (has_due p q.at Du.LatestName K xs d ts us (nam n q ∷ opr op.Dot z ∷ []) l ls (starts_same d us (nam n q) [] (opr op.Dot z ∷ []) st) (latest_name b n q z mk le)) (simp append_assoc refl)
kept_due (sg.Operator op.Dot) z p _ _ K xs d ts us _ l ls st (spawn_macro b n q w mk le) = tt
kept_due (sg.Operator op.Dot) z p _ _ K xs d ts us _ l ls st (latest_name b n q w mk le) = tt
kept_due (sg.Operator op.Dot) z p _ _ K xs d ts us _ l ls st (latest_open b n m q w v mk le) = tt
kept_due (sg.Operator op.Dot) z p _ _ K xs d ts us _ l ls st (delete_dot b n q mk le) =
    has_moved (has_due p q.at Du.DeleteName K xs d ts us (nam n q ∷ opr op.Dot z ∷ []) l ls (starts_same d us (nam n q) [] (opr op.Dot z ∷ []) st) (delete_name b n q z mk le))
    (simp append_assoc refl)
kept_due (sg.Operator op.Dot) z p _ _ K xs d ts us _ l ls st (delete_name b n q w mk le) = tt
kept_due (sg.Operator op.Dot) z p _ _ K xs d ts us _ l ls st (delete_open b n m q w v mk le) = tt
kept_due (sg.Operator op.Dot) z p _ _ K xs d ts us _ l ls st (which_word b n m q w v y mk le) = tt
kept_due (sg.Operator op.Dot) z p _ _ K xs d ts us _ l ls st (which_open b n m q w v y i mk le) = tt
kept_due (sg.Operator op.Dot) z p _ _ K xs d ts us _ l ls st (which_name b n m q w v y i j mk le) = tt
kept_due (sg.Operator op.Dot) z p _ _ K xs d ts us _ l ls st (fetch_open b n q mk le) = tt
kept_due (sg.Operator op.Dot) z p _ _ K xs d ts us _ l ls st (print_open b f n q mk le) = tt
kept_due (sg.Operator op.Dot) z p _ _ K xs d ts us _ l ls st (quote_open b n q mk le) = tt
kept_due (sg.Operator op.Dot) z p _ _ K xs d ts us _ l ls st (quote_word b n q w mk le) = tt
kept_due (sg.Operator op.OpenParen) z p _ _ K xs d ts us _ l ls st (latest_open b n m q w v mk le) =
    has_moved (has_function (Pu.Latest p q.at) K xs ((ts ++ us) ++ (nam n q ∷ opr op.Dot w ∷ nam m v ∷ opr op.OpenParen z ∷ []))
    (for_latest p n m q w v z K xs d ts us l ls (starts_same d us (nam n q) (opr op.Dot w ∷ nam m v ∷ []) [] st) mk le)) (simp append_assoc refl)
kept_due (sg.Operator op.OpenParen) z p _ _ K xs d ts us _ l ls st (delete_dot b n q mk le) = tt
kept_due (sg.Operator op.OpenParen) z p _ _ K xs d ts us _ l ls st (delete_name b n q w mk le) = tt
kept_due (sg.Operator op.OpenParen) z p _ _ K xs d ts us _ l ls st (delete_open b n m q w v mk le) =
    has_moved (has_due p q.at Du.WhichWord K xs d ts us (nam n q ∷ opr op.Dot w ∷ nam m v ∷ opr op.OpenParen z ∷ []) l ls (starts_same d us (nam n q) (opr op.Dot w ∷ nam m v ∷ []) (opr op.Dot w ∷ nam m v ∷ opr op.OpenParen z ∷ []) st) (which_word b n m q w v z mk le))
    (simp append_assoc refl)
kept_due (sg.Operator op.OpenParen) z p _ _ K xs d ts us _ l ls st (which_word b n m q w v y mk le) = tt
kept_due (sg.Operator op.OpenParen) z p _ _ K xs d ts us _ l ls st (which_open b n m q w v y i mk le) =
    has_moved (has_due p q.at Du.WhichName K xs d ts us (nam n q ∷ opr op.Dot w ∷ nam m v ∷ opr op.OpenParen y ∷ nam (codes "which") i ∷ opr op.OpenParen z ∷ []) l ls (starts_same d us (nam n q) (opr op.Dot w ∷ nam m v ∷ opr op.OpenParen y ∷ nam (codes "which") i ∷ []) (opr op.Dot w ∷ nam m v ∷ opr op.OpenParen y ∷ nam (codes "which") i ∷ opr op.OpenParen z ∷ []) st) (which_name b n m q w v y i z mk le))
    (simp append_assoc refl)
kept_due (sg.Operator op.OpenParen) z p _ _ K xs d ts us _ l ls st (which_name b n m q w v y i j mk le) = tt
kept_due (sg.Operator op.OpenParen) z p _ _ K xs d ts us _ l ls st (fetch_open b n q mk le) =
    has_moved (has_no_pending (Fr.Fetch p q.at ∷ K) xs ((ts ++ us) ++ (nam n q ∷ opr op.OpenParen z ∷ [])) tt (in_fetch p n q z K xs d ts us l ls st mk le)) (simp append_assoc refl)
kept_due (sg.Operator op.OpenParen) z p _ _ K xs d ts us _ l ls st (print_open b f n q mk le) =
    has_moved (has_first_print p q.at f K xs d ts us (nam n q ∷ opr op.OpenParen z ∷ []) l ls (starts_same d us (nam n q) [] (opr op.OpenParen z ∷ []) st) (print_text b f n q z mk le)) (simp append_assoc refl)
kept_due (sg.Operator op.OpenParen) z p _ _ K xs d ts us _ l ls st (quote_open b n q mk le) =
    has_moved (has_due p q.at Du.QuoteWord K xs d ts us (nam n q ∷ opr op.OpenParen z ∷ []) l ls (starts_same d us (nam n q) [] (opr op.OpenParen z ∷ []) st) (quote_word b n q z mk le)) (simp append_assoc refl)
kept_due (sg.Operator op.OpenParen) z p _ _ K xs d ts us _ l ls st (spawn_dot b n q mk le) = tt
kept_due (sg.Operator op.OpenParen) z p _ _ K xs d ts us _ l ls st (spawn_macro b n q w mk le) = tt
kept_due (sg.Operator op.OpenParen) z p _ _ K xs d ts us _ l ls st (latest_dot b n q mk le) = tt
kept_due (sg.Operator op.OpenParen) z p _ _ K xs d ts us _ l ls st (latest_name b n q w mk le) = tt
kept_due (sg.Operator op.OpenParen) z p _ _ K xs d ts us _ l ls st (quote_word b n q w mk le) = tt
kept_due (sg.Name m) z p _ _ K xs d ts us _ l ls st (latest_name b n q w mk le) =
    has_moved (has_due p q.at Du.LatestOpen K xs d ts us (nam n q ∷ opr op.Dot w ∷ nam m z ∷ []) l ls (starts_same d us (nam n q) (opr op.Dot w ∷ []) (opr op.Dot w ∷ nam m z ∷ []) st) (latest_open b n m q w z mk le))
    (simp append_assoc refl)
kept_due (sg.Name m) z p _ _ K xs d ts us _ l ls st (spawn_dot b n q mk le) = tt
kept_due (sg.Name m) z p _ _ K xs d ts us _ l ls st (spawn_macro b n q w mk le) = tt
kept_due (sg.Name m) z p _ _ K xs d ts us _ l ls st (latest_dot b n q mk le) = tt
kept_due (sg.Name m) z p _ _ K xs d ts us _ l ls st (latest_open b n v q w y mk le) = tt
kept_due (sg.Name m) z p _ _ K xs d ts us _ l ls st (delete_dot b n q mk le) = tt
kept_due (sg.Name m) z p _ _ K xs d ts us _ l ls st (delete_name b n q w mk le) =
    has_moved (has_due p q.at Du.DeleteOpen K xs d ts us (nam n q ∷ opr op.Dot w ∷ nam m z ∷ []) l ls (starts_same d us (nam n q) (opr op.Dot w ∷ []) (opr op.Dot w ∷ nam m z ∷ []) st) (delete_open b n m q w z mk le))
    (simp append_assoc refl)
kept_due (sg.Name m) z p _ _ K xs d ts us _ l ls st (delete_open b n e q w v mk le) = tt
kept_due (sg.Name g) z p _ _ K xs d ts us _ l ls st (which_word b n m q w v y mk le) =
    kept_due_which (bytes_eq g (codes "which")) g n m z q w v y p K xs d ts us refl l ls st mk le
kept_due (sg.Name m) z p _ _ K xs d ts us _ l ls st (which_open b n e q w v y i mk le) = tt
kept_due (sg.Name g) z p _ _ K xs d ts us _ l ls st (which_name b n m q w v y i j mk le) =
    has_moved (has_deleting p q.at (name_in g z) K xs d ts us (nam n q ∷ opr op.Dot w ∷ nam m v ∷ opr op.OpenParen y ∷ nam (codes "which") i ∷ opr op.OpenParen j ∷ nam g z ∷ []) l ls
    (starts_same d us (nam n q) (opr op.Dot w ∷ nam m v ∷ opr op.OpenParen y ∷ nam (codes "which") i ∷ opr op.OpenParen j ∷ []) (opr op.Dot w ∷ nam m v ∷ opr op.OpenParen y ∷ nam (codes "which") i ∷ opr op.OpenParen j ∷ nam g z ∷ []) st)
    (deleting_text (is_comparison_start p.levels) n m g q w v y i j z mk le)) (simp append_assoc refl)
kept_due (sg.Name m) z p _ _ K xs d ts us _ l ls st (fetch_open b n q mk le) = tt
kept_due (sg.Name m) z p _ _ K xs d ts us _ l ls st (print_open b f n q mk le) = tt
kept_due (sg.Name m) z p _ _ K xs d ts us _ l ls st (quote_open b n q mk le) = tt
kept_due (sg.Name m) z p _ _ K xs d ts us _ l ls st (quote_word b n q w mk le) = tt
kept_due (sg.Macro m) z p _ _ K xs d ts us _ l ls st (spawn_macro b n q w mk le) =
    has_moved (has_want (push_outer (Ou.Spawn p.levels q.at) false p) K xs any_form (ts ++ (us ++ nam n q ∷ opr op.Dot w ∷ tok (sg.Macro m) z ∷ [])) []
    (led_spawn K xs p.lead p.outer p.returns d ts p.levels us n m q w z l ls (starts_same d us (nam n q) (opr op.Dot w ∷ []) [] st) mk le) (bare_levels false) tt) (simp (append_assoc, append-nil) refl)
kept_due (sg.Macro m) z p _ _ K xs d ts us _ l ls st (spawn_dot b n q mk le) = tt
kept_due (sg.Macro m) z p _ _ K xs d ts us _ l ls st (latest_dot b n q mk le) = tt
kept_due (sg.Macro m) z p _ _ K xs d ts us _ l ls st (latest_name b n q w mk le) = tt
kept_due (sg.Macro m) z p _ _ K xs d ts us _ l ls st (latest_open b n v q w y mk le) = tt
kept_due (sg.Macro m) z p _ _ K xs d ts us _ l ls st (delete_dot b n q mk le) = tt
kept_due (sg.Macro m) z p _ _ K xs d ts us _ l ls st (delete_name b n q w mk le) = tt
kept_due (sg.Macro m) z p _ _ K xs d ts us _ l ls st (delete_open b n e q w v mk le) = tt
kept_due (sg.Macro m) z p _ _ K xs d ts us _ l ls st (which_word b n e q w v y mk le) = tt
kept_due (sg.Macro m) z p _ _ K xs d ts us _ l ls st (which_open b n e q w v y i mk le) = tt
kept_due (sg.Macro m) z p _ _ K xs d ts us _ l ls st (which_name b n e q w v y i j mk le) = tt
kept_due (sg.Macro m) z p _ _ K xs d ts us _ l ls st (fetch_open b n q mk le) = tt
kept_due (sg.Macro m) z p _ _ K xs d ts us _ l ls st (print_open b f n q mk le) = tt
kept_due (sg.Macro m) z p _ _ K xs d ts us _ l ls st (quote_open b n q mk le) = tt
kept_due (sg.Macro m) z p _ _ K xs d ts us _ l ls st (quote_word b n q w mk le) = tt
kept_due (sg.Word wd.Quote) z p _ _ K xs d ts us _ l ls st (quote_word b n q w mk le) =
    has_moved (has_entry (Fr.Evals (Ev.Quote p q.at) M.no_forms ∷ K) xs (((ts ++ us) ++ (nam n q ∷ opr op.OpenParen w ∷ wrd wd.Quote z ∷ [])) ++ []) tt
    (in_evals (Ev.Quote p q.at) M.no_forms K xs ((ts ++ us) ++ (nam n q ∷ opr op.OpenParen w ∷ wrd wd.Quote z ∷ [])) []
    (quote_begin p n q w z K xs d ts us l ls (starts_same d us (nam n q) (opr op.OpenParen w ∷ []) [] st) mk le) Gr.no_evals)) (simp (append_assoc, append-nil) refl)
kept_due (sg.Word wd.Quote) z p _ _ K xs d ts us _ l ls st (spawn_dot b n q mk le) = tt
kept_due (sg.Word wd.Quote) z p _ _ K xs d ts us _ l ls st (spawn_macro b n q w mk le) = tt
kept_due (sg.Word wd.Quote) z p _ _ K xs d ts us _ l ls st (latest_dot b n q mk le) = tt
kept_due (sg.Word wd.Quote) z p _ _ K xs d ts us _ l ls st (latest_name b n q w mk le) = tt
kept_due (sg.Word wd.Quote) z p _ _ K xs d ts us _ l ls st (latest_open b n v q w y mk le) = tt
kept_due (sg.Word wd.Quote) z p _ _ K xs d ts us _ l ls st (delete_dot b n q mk le) = tt
kept_due (sg.Word wd.Quote) z p _ _ K xs d ts us _ l ls st (delete_name b n q w mk le) = tt
kept_due (sg.Word wd.Quote) z p _ _ K xs d ts us _ l ls st (delete_open b n m q w v mk le) = tt
kept_due (sg.Word wd.Quote) z p _ _ K xs d ts us _ l ls st (which_word b n m q w v y mk le) = tt
kept_due (sg.Word wd.Quote) z p _ _ K xs d ts us _ l ls st (which_open b n m q w v y i mk le) = tt
kept_due (sg.Word wd.Quote) z p _ _ K xs d ts us _ l ls st (which_name b n m q w v y i j mk le) = tt
kept_due (sg.Word wd.Quote) z p _ _ K xs d ts us _ l ls st (fetch_open b n q mk le) = tt
kept_due (sg.Word wd.Quote) z p _ _ K xs d ts us _ l ls st (print_open b f n q mk le) = tt
kept_due (sg.Word wd.Quote) z p _ _ K xs d ts us _ l ls st (quote_open b n q mk le) = tt
kept_due _ z p a x K xs d ts us vs l ls st c = tt

-- ---- names of functions

pub names_append : (c : Naming) (ts us : Text) → Names c ts → Names c (ts ++ us)
names_append free_name ts us h = tt
names_append (called_name b a d vs) [] us h = absurd h.0
names_append (called_name b a d vs) (t ∷ ts) us h = (h.0, h.1, h.2, starts_more d vs (t ∷ ts) us h.3)
names_append (method_name a) [] us h = absurd h.0
names_append (method_name a) (t ∷ ts) us h = (h.0, h.1)

pub kept_open_known : (z : Spot) (g : Purpose) (c : Naming) (f : Callee) (K : List Frame) (xs : ItemsRead) (ts us : Text) → PurposeText K xs g c ts → Names c us → CalleeText f us →
    HasSome (Mc.open_known g f K xs) ((ts ++ us) ++ opr op.OpenParen z ∷ [])
kept_open_known z _ _ f _ _ _ us (for_call p a K xs d ts vs l ls) n m =
    has_moved (has_first_args p a (Ca.Function f) K xs d ts vs (us ++ opr op.OpenParen z ∷ []) l ls (starts_more d vs us (opr op.OpenParen z ∷ []) n.3)
    (subst (λ x. CalledText true (is_comparison_start p.levels) x (Ca.Function f) (us ++ opr op.OpenParen z ∷ [])) n.2 (called_function (is_comparison_start p.levels) f z us n.0 n.1 m))) (simp append_assoc refl)
kept_open_known z _ _ f _ _ _ us (for_latest p i j q w v y K xs d ts vs l ls st mk le) n m = tt
kept_open_known z _ _ f _ _ _ us (for_head s c K xs ts t) n m = has_moved (has_first_param s f c z K xs ts us t m n) (sym (append_assoc ts us (opr op.OpenParen z ∷ [])))

pub kept_known_comma : (z : Spot) (g : Purpose) (c : Naming) (f : Callee) (K : List Frame) (xs : ItemsRead) (ts us : Text) → PurposeText K xs g c ts → Names c us → CalleeText f us →
    HasSome (Mc.known_comma g f K xs) ((ts ++ us) ++ opr op.Comma z ∷ [])
kept_known_comma z _ _ f _ _ _ us (for_call p a K xs d ts vs l ls) n m = tt
kept_known_comma z _ _ f _ _ _ us (for_head s c K xs ts t) n m = tt
kept_known_comma z _ _ f _ _ _ us (for_latest p i j q w v y K xs d ts vs l ls st mk le) n m =
    has_moved (has_no_pending (Fr.Args p q.at (Ca.Latest f) M.no_forms ∷ K) xs ((ts ++ vs) ++ (((nam i q ∷ opr op.Dot w ∷ nam j v ∷ opr op.OpenParen y ∷ us) ++ opr op.Comma z ∷ []) ++ [])) tt
    (in_args p false q.at (Ca.Latest f) M.no_forms K xs d ts vs ((nam i q ∷ opr op.Dot w ∷ nam j v ∷ opr op.OpenParen y ∷ us) ++ opr op.Comma z ∷ []) [] l ls
    (starts_same d vs (nam i q) [] ((opr op.Dot w ∷ nam j v ∷ opr op.OpenParen y ∷ us) ++ opr op.Comma z ∷ []) st)
    (called_latest (is_comparison_start p.levels) i j f q w v y z us mk le m) (no_arguments_yet p.returns))) (simp (append_assoc, append-nil) refl)

pub kept_close_known : (z : Spot) (g : Purpose) (c : Naming) (f : Callee) (K : List Frame) (xs : ItemsRead) (ts us : Text) → PurposeText K xs g c ts → Names c us → CalleeText f us →
    HasSome (Mc.close_known g f K xs) ((ts ++ us) ++ opr op.CloseParen z ∷ [])
kept_close_known z _ _ f _ _ _ us (for_call p a K xs d ts vs l ls) n m = tt
kept_close_known z _ _ f _ _ _ us (for_head s c K xs ts t) n m = tt
kept_close_known z _ _ f _ _ _ us (for_latest p i j q w v y K xs d ts vs l ls st mk le) n m =
    has_moved (has_atom p (M.call_expr q.at (Ca.Latest f) M.no_forms) K xs d ts vs ((nam i q ∷ opr op.Dot w ∷ nam j v ∷ opr op.OpenParen y ∷ us) ++ opr op.CloseParen z ∷ []) l ls
    (starts_same d vs (nam i q) [] ((opr op.Dot w ∷ nam j v ∷ opr op.OpenParen y ∷ us) ++ opr op.CloseParen z ∷ []) st)
    (Gr.latest_none p.returns (is_comparison_start p.levels) i j f q w v y z us mk le m)) (simp append_assoc refl)

pub kept_known : (s : Terminal) (z : Spot) (g : Purpose) (c : Naming) (f : Callee) (K : List Frame) (xs : ItemsRead) (ts us : Text) → PurposeText K xs g c ts → Names c us → CalleeText f us →
    HasSome (Mc.at_known s g f K xs) ((ts ++ us) ++ tok s z ∷ [])
kept_known (sg.Operator op.OpenParen) z g c f K xs ts us t n m = kept_open_known z g c f K xs ts us t n m
kept_known (sg.Operator op.Comma) z g c f K xs ts us t n m = kept_known_comma z g c f K xs ts us t n m
kept_known (sg.Operator op.CloseParen) z g c f K xs ts us t n m = kept_close_known z g c f K xs ts us t n m
kept_known _ z g c f K xs ts us t n m = tt

pub kept_function : (s : Terminal) (z : Spot) (g : Purpose) (K : List Frame) (xs : ItemsRead) (ts : Text) → PurposeText K xs g free_name ts → HasSome (Mc.at_function s z.at g K xs) (ts ++ tok s z ∷ [])
kept_function (sg.Name n) z g K xs ts t = has_named g free_name n z K xs ts t tt
kept_function _ z g K xs ts t = tt

pub kept_dot_after_base : (b : Bool) (z : Spot) (g : Purpose) (c : Naming) (n : List ℕ) (q : Spot) (K : List Frame) (xs : ItemsRead) (ts : Text) → bytes_eq n (codes "Base") ≡ b → PurposeText K xs g c ts →
    Names c (nam n q ∷ []) → HasSome (Mc.dot_after_base b g q.at K xs) ((ts ++ nam n q ∷ []) ++ opr op.Dot z ∷ [])
kept_dot_after_base false z g c n q K xs ts h t m = tt
kept_dot_after_base true z g c n q K xs ts h t m = let same = (bytes_eq-Decides n (codes "Base")).0 h in
    subst (λ x. Has (Po.Dotted g q.at) K xs ((ts ++ nam x q ∷ []) ++ opr op.Dot z ∷ [])) (sym same)
    (has_moved (has_dotted g c q z K xs ts t (subst (λ x. Names c (nam x q ∷ opr op.Dot z ∷ [])) same (names_append c (nam n q ∷ []) (opr op.Dot z ∷ []) m))) (sym (append_assoc ts (nam (codes "Base") q ∷ []) (opr op.Dot z ∷ []))))

pub kept_named : (s : Terminal) (z : Spot) (g : Purpose) (c : Naming) (n : List ℕ) (q : Spot) (K : List Frame) (xs : ItemsRead) (ts : Text) → PurposeText K xs g c ts → Names c (nam n q ∷ []) →
    HasSome (Mc.at_named s g (name_in n q) K xs) ((ts ++ nam n q ∷ []) ++ tok s z ∷ [])
kept_named (sg.Operator op.Dot) z g c n q K xs ts t m = kept_dot_after_base (bytes_eq n (codes "Base")) z g c n q K xs ts refl t m
kept_named s z g c n q K xs ts t m = kept_known s z g c (Cl.Plain (name_in n q)) K xs ts (nam n q ∷ []) t m (Gr.plain_name n q)

pub kept_dotted : (s : Terminal) (z : Spot) (g : Purpose) (c : Naming) (q w : Spot) (K : List Frame) (xs : ItemsRead) (ts : Text) → PurposeText K xs g c ts → Names c (nam (codes "Base") q ∷ opr op.Dot w ∷ []) →
    HasSome (Mc.at_dotted s z.at g q.at K xs) ((ts ++ (nam (codes "Base") q ∷ opr op.Dot w ∷ [])) ++ tok s z ∷ [])
kept_dotted (sg.Name n) z g c q w K xs ts t m =
    has_moved (has_known g c (Cl.Base q.at (name_in n z)) K xs ts (nam (codes "Base") q ∷ opr op.Dot w ∷ nam n z ∷ []) t
    (names_append c (nam (codes "Base") q ∷ opr op.Dot w ∷ []) (nam n z ∷ []) m) (Gr.base_name n q w z)) (sym (append_assoc ts (nam (codes "Base") q ∷ opr op.Dot w ∷ []) (nam n z ∷ [])))
kept_dotted (sg.Operator op.Colon) z g c q w K xs ts t m =
    has_moved (has_colon g c q w z K xs ts t (names_append c (nam (codes "Base") q ∷ opr op.Dot w ∷ []) (opr op.Colon z ∷ []) m))
    (sym (append_assoc ts (nam (codes "Base") q ∷ opr op.Dot w ∷ []) (opr op.Colon z ∷ [])))
kept_dotted _ z g c q w K xs ts t m = tt

pub kept_operator_after_base : (b : Bool) (x : Operator) (z : Spot) (g : Purpose) (c : Naming) (q w v : Spot) (K : List Frame) (xs : ItemsRead) (ts : Text) → is_function x ≡ b → PurposeText K xs g c ts →
    Names c (nam (codes "Base") q ∷ opr op.Dot w ∷ opr op.Colon v ∷ []) →
    HasSome (Mc.operator_after_base b x g q.at K xs) ((ts ++ (nam (codes "Base") q ∷ opr op.Dot w ∷ opr op.Colon v ∷ [])) ++ opr x z ∷ [])
kept_operator_after_base false x z g c q w v K xs ts h t m = tt
kept_operator_after_base true x z g c q w v K xs ts h t m =
    has_moved (has_known g c (Cl.Operator q.at x) K xs ts (nam (codes "Base") q ∷ opr op.Dot w ∷ opr op.Colon v ∷ opr x z ∷ []) t
    (names_append c (nam (codes "Base") q ∷ opr op.Dot w ∷ opr op.Colon v ∷ []) (opr x z ∷ []) m) (Gr.base_operator x q w v z h))
    (sym (append_assoc ts (nam (codes "Base") q ∷ opr op.Dot w ∷ opr op.Colon v ∷ []) (opr x z ∷ [])))

pub kept_colon_name : (s : Terminal) (z : Spot) (g : Purpose) (c : Naming) (q w v : Spot) (K : List Frame) (xs : ItemsRead) (ts : Text) → PurposeText K xs g c ts →
    Names c (nam (codes "Base") q ∷ opr op.Dot w ∷ opr op.Colon v ∷ []) →
    HasSome (Mc.at_colon s g q.at K xs) ((ts ++ (nam (codes "Base") q ∷ opr op.Dot w ∷ opr op.Colon v ∷ [])) ++ tok s z ∷ [])
kept_colon_name (sg.Operator x) z g c q w v K xs ts t m = kept_operator_after_base (is_function x) x z g c q w v K xs ts refl t m
kept_colon_name _ z g c q w v K xs ts t m = tt
