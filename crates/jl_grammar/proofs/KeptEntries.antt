-- Entries of scripts and of blocks.
use Rattle.std.proofs.Common.{ℕ, ℤ, Bool, true, false, codes, List, [], ◌∷◌, ◌++◌, ◌≡◌, refl, sym, ap, subst}
use Rattle.std.proofs.lemmas.List.{append_assoc, append-nil}
use Rattle.jl_token.specs.declared.token.Operator.{Operator}
use Rattle.jl_token.specs.declared.token.Operator.TheVariants as op
use Rattle.jl_typeread.specs.declared.terminal.Terminal.{Terminal}
use Rattle.jl_typeread.specs.declared.terminal.Terminal.TheVariants as sg
use Rattle.jl_typeread.specs.declared.terminal.Word.{Word}
use Rattle.jl_typeread.specs.declared.terminal.Word.TheVariants as wd
use Rattle.jl_grammar.specs.declared.mark.Ahead.{Ahead}
use Rattle.jl_grammar.specs.declared.mark.Ahead.TheVariants as Ah
use Rattle.jl_grammar.specs.declared.mark.Marked.{Marked}
use Rattle.jl_grammar.specs.declared.mark.Opening.{Opening}
use Rattle.jl_grammar.specs.declared.mark.Opening.TheVariants as Op
use Rattle.jl_grammar.specs.declared.state.BlockKind.{BlockKind}
use Rattle.jl_grammar.specs.declared.state.EvalKind.{EvalKind}
use Rattle.jl_grammar.specs.declared.state.EvalKind.TheVariants as Ev
use Rattle.jl_grammar.specs.declared.state.Forms.{Forms}
use Rattle.jl_grammar.specs.declared.state.Frame.{Frame}
use Rattle.jl_grammar.specs.declared.state.Frame.TheVariants as Fr
use Rattle.jl_grammar.specs.declared.state.ItemsRead.{ItemsRead}
use Rattle.jl_grammar.specs.declared.state.Lead.{Lead}
use Rattle.jl_grammar.specs.declared.state.Lead.TheVariants as Le
use Rattle.jl_grammar.specs.declared.state.Levels.{Levels}
use Rattle.jl_grammar.specs.declared.state.Outer.{Outer}
use Rattle.jl_grammar.specs.declared.state.Outer.TheVariants as Ou
use Rattle.jl_grammar.specs.declared.state.Pending.{Pending}
use Rattle.jl_grammar.specs.declared.state.Place.TheVariants as Pl
use Rattle.jl_grammar.specs.declared.state.Point.TheVariants as Po
use Rattle.jl_grammar.specs.declared.state.Purpose.TheVariants as Pu
use Rattle.jl_grammar.specs.declared.tree.Eval.{Eval}
use Rattle.jl_grammar.specs.declared.tree.Stmt.{Stmt}
use Rattle.jl_grammar.specs.declared.tree.Stmt.TheVariants as St
use Rattle.jl_grammar.specs.Forms as M
use Rattle.jl_grammar.specs.Grammar.{PrefixOperator, ComparisonOperator, SumOperator, TermOperator, CalleeText, ParamText, ParamsText, ParensText, WhereText, HeadText, place, Atom, Brackets, Arguments, PieceText, Pieces, Post, Unary, Term, Sum, Comparison, Conjunction, Disjunction, Expression, Branches, Statement, Block, StmtsBefore, StmtsAfter, LongMethod, ShortMethod, Evaluated, EvalBlock, EvalsBefore, EvalsAfter, ParentText, TypeParamsText, HeaderText, FieldText, FieldsBefore, FieldsAfter, FieldsText, ItemText, ItemsBefore, ItemsAfter, ScriptText}
use Rattle.jl_grammar.specs.Grammar as Gr
use Rattle.jl_grammar.specs.Levels.{pending_after, no_pending}
use Rattle.jl_grammar.specs.Machine as Mc
use Rattle.jl_grammar.specs.Turns as Tu
use Rattle.jl_grammar.specs.Turns.{at, is_return_allowed}
use Rattle.jl_grammar.specs.Texts as Tx
use Rattle.jl_grammar.specs.Texts.{Text, Spot, tok, opr, wrd, nam, name_in, Sep, lexemes, is_method, is_sub, is_binding, is_plain, is_left_type, is_item_name, is_item_terminal, is_item_start, is_stmt_name, is_stmt_terminal, is_stmt_start, is_eval_name, is_eval_terminal, is_eval_start, is_evaluated_terminal, is_evaluated_start, OpensAs, IsMethodStart, IsSubStart, IsPrint, IsBindingName, is_end}
use Rattle.jl_grammar.proofs.Standing.{Choice, any_form, item_form, stmt_form, eval_form, evaluated_form, Starts, LevelsText, no_outer, in_eval, Binds, LeadText, lead_bind, lead_return, choice_in, return_in, Enters, Methods, Opened, bottom, in_paren, in_tuple, in_args, in_fetch, in_print, in_then, in_test, in_block, in_evals, Led, led_text, KindText, EvalText, begin_evaluated}
use Rattle.jl_grammar.proofs.Points.{free_name, method_name, entry_long, entry_short, evaluated_long, evaluated_short, for_head, struct_decl, Has, has_entry, has_bound, has_returned, has_want, has_function, has_named, has_abstract, has_decl_name, HasSome}
use Rattle.jl_grammar.proofs.Closing.{bare_levels}
use Rattle.jl_grammar.proofs.KeptBlocks.{has_moved, kept_end_block, kept_block_elseif, kept_block_else, kept_block_word, kept_end_evals}
use Rattle.jl_grammar.proofs.KeptCloses.{some_moved}
use Rattle.jl_grammar.proofs.KeptBegins.{kept_begin_operand, kept_no_pending}

-- ---- separators

pub kept_apart : (t : Marked) (K : List Frame) (xs : ItemsRead) (ts : Text) → Sep t → Enters K → Opened K xs ts → Has Po.Entry K xs (ts ++ t ∷ [])
kept_apart t _ _ _ sep h (bottom xs ts b) = has_entry [] xs (ts ++ t ∷ []) tt (bottom xs (ts ++ t ∷ []) (Gr.items_again xs t ts b sep))
kept_apart t _ _ _ sep h (in_paren p q K xs d ts ws g ls st n) = absurd h
kept_apart t _ _ _ sep h (in_tuple p q v es K xs d ts ws zs g ls st n r) = absurd h
kept_apart t _ _ _ sep h (in_args p k a f es K xs d ts ws zs ns g ls st m n) = absurd h
kept_apart t _ _ _ sep h (in_fetch p n q v K xs d ts ws g ls st m k) = absurd h
kept_apart t _ _ _ sep h (in_print p a f ps K xs d ts ws zs ns g ls st m n) = absurd h
kept_apart t _ _ _ sep h (in_then p f q K xs d ts ws g n st m) = absurd h
kept_apart t _ _ _ sep h (in_test p a f b K xs d ts ws zs g ls st m) = absurd h
kept_apart t _ _ _ sep h (in_block k ss K xs ts us m b) =
    has_moved (has_entry (Fr.Block k ss ∷ K) xs (ts ++ (us ++ t ∷ [])) tt (in_block k ss K xs ts (us ++ t ∷ []) m (Gr.stmts_again (is_return_allowed k) ss t us b sep))) (sym (append_assoc ts us (t ∷ [])))
kept_apart t _ _ _ sep h (in_evals k ys K xs ts us m b) =
    has_moved (has_entry (Fr.Evals k ys ∷ K) xs (ts ++ (us ++ t ∷ [])) tt (in_evals k ys K xs ts (us ++ t ∷ []) m (Gr.evals_again ys t us b sep))) (sym (append_assoc ts us (t ∷ [])))

-- ---- whether a `return` may stand in an entry

returns_same : (K : List Frame) → Enters K → Tu.is_return_allowed_in K ≡ return_in K
returns_same [] h = refl
returns_same (Fr.Block k ss ∷ K) h = refl
returns_same (Fr.Evals k ys ∷ K) h = refl
returns_same (Fr.Paren p a ∷ K) h = absurd h
returns_same (Fr.Tuple p a es ∷ K) h = absurd h
returns_same (Fr.Args p a f es ∷ K) h = absurd h
returns_same (Fr.Fetch p a ∷ K) h = absurd h
returns_same (Fr.Print p a l ps ∷ K) h = absurd h
returns_same (Fr.Then p c ∷ K) h = absurd h
returns_same (Fr.Test p a x b ∷ K) h = absurd h

-- a token that is no name and no word begins any entry
pub data IsOther : Terminal → Type 0 where
  other_operator : (x : Operator) → IsOther (sg.Operator x)
  other_number : (n : ℤ) → IsOther (sg.Number n)
  other_text : (n : List ℕ) → IsOther (sg.Text n)
  other_macro : (n : List ℕ) → IsOther (sg.Macro n)

pub starts_other : (d : Choice) (s : Terminal) (z : Spot) → IsOther s → Starts d (tok s z ∷ [])
starts_other any_form _ z h = tt
starts_other item_form _ z (other_operator x) = refl
starts_other item_form _ z (other_number n) = refl
starts_other item_form _ z (other_text n) = refl
starts_other item_form _ z (other_macro n) = refl
starts_other stmt_form _ z (other_operator x) = refl
starts_other stmt_form _ z (other_number n) = refl
starts_other stmt_form _ z (other_text n) = refl
starts_other stmt_form _ z (other_macro n) = refl
starts_other eval_form _ z (other_operator x) = refl
starts_other eval_form _ z (other_number n) = refl
starts_other eval_form _ z (other_text n) = refl
starts_other eval_form _ z (other_macro n) = refl
starts_other evaluated_form _ z (other_operator x) = refl
starts_other evaluated_form _ z (other_number n) = refl
starts_other evaluated_form _ z (other_text n) = refl
starts_other evaluated_form _ z (other_macro n) = refl

kept_other : (s : Terminal) (z : Spot) (K : List Frame) (xs : ItemsRead) (ts : Text) → IsOther s → Enters K → Opened K xs ts →
    HasSome (Tu.begin_operand s z.marks z.at (no_pending (Tu.is_return_allowed_in K)) K xs) (ts ++ tok s z ∷ [])
kept_other s z K xs ts i h o =
    subst (λ r. HasSome (Tu.begin_operand s z.marks z.at (no_pending r) K xs) (ts ++ tok s z ∷ [])) (sym (returns_same K h)) (kept_no_pending s z K xs ts o (starts_other (choice_in K) s z i))

pub kept_entry_operator : (x : Operator) (z : Spot) (K : List Frame) (xs : ItemsRead) (ts : Text) → Enters K → Opened K xs ts →
    HasSome (Mc.entry_operator x z.marks z.at K xs) (ts ++ opr x z ∷ [])
kept_entry_operator op.Semicolon z K xs ts h o = kept_apart (opr op.Semicolon z) K xs ts (Tx.semicolon z) h o
kept_entry_operator x z K xs ts h o = kept_other (sg.Operator x) z K xs ts (other_operator x) h o

-- ---- reserved words

long_begins : (z : Spot) (K : List Frame) (xs : ItemsRead) (ts : Text) → Methods K → Opened K xs ts → Has (Po.Function (Pu.Head (record { place = Pl.Entry; long = true; at = z.at }))) K xs (ts ++ wrd wd.Function z ∷ [])
long_begins z K xs ts m o =
    has_function (Pu.Head (record { place = Pl.Entry; long = true; at = z.at })) K xs (ts ++ wrd wd.Function z ∷ [])
    (for_head (record { place = Pl.Entry; long = true; at = z.at }) free_name K xs (ts ++ wrd wd.Function z ∷ []) (entry_long z K xs ts m o))

pub kept_item_word : (v : Word) (z : Spot) (xs : ItemsRead) (ts : Text) → ItemsBefore xs ts → HasSome (Mc.item_word v z.at [] xs) (ts ++ wrd v z ∷ [])
kept_item_word wd.Abstract z xs ts b = has_abstract z xs ts b
kept_item_word wd.Struct z xs ts b = has_decl_name true z.at xs ts (wrd wd.Struct z ∷ []) b (struct_decl z)
kept_item_word wd.Function z xs ts b = long_begins z [] xs ts tt (bottom xs ts b)
kept_item_word v z xs ts b = kept_no_pending (sg.Word v) z [] xs ts (bottom xs ts b) refl

kept_begin_return : (r : Bool) (z : Spot) (k : BlockKind) (ss : Forms Stmt) (K : List Frame) (xs : ItemsRead) (ts : Text) → is_return_allowed k ≡ r → Opened (Fr.Block k ss ∷ K) xs ts →
    HasSome (Mc.begin_return r z.at (Fr.Block k ss ∷ K) xs) (ts ++ wrd wd.Return z ∷ [])
kept_begin_return false z k ss K xs ts h o = tt
kept_begin_return true z k ss K xs ts h o = has_returned z k ss K xs ts o h

pub kept_stmt_word : (v : Word) (z : Spot) (k : BlockKind) (ss : Forms Stmt) (K : List Frame) (xs : ItemsRead) (ts us : Text) → KindText K xs k ts → StmtsBefore (is_return_allowed k) ss us →
    HasSome (Mc.stmt_word v z.at k ss K xs) ((ts ++ us) ++ wrd v z ∷ [])
kept_stmt_word wd.End z k ss K xs ts us m b = kept_end_block k ss K xs ts us z m (Gr.block_before (is_return_allowed k) ss us b)
kept_stmt_word wd.Elseif z k ss K xs ts us m b = kept_block_elseif k ss K xs ts us z m (Gr.block_before (is_return_allowed k) ss us b)
kept_stmt_word wd.Else z k ss K xs ts us m b = kept_block_else k ss K xs ts us z m (Gr.block_before (is_return_allowed k) ss us b)
kept_stmt_word wd.Return z k ss K xs ts us m b = kept_begin_return (is_return_allowed k) z k ss K xs (ts ++ us) refl (in_block k ss K xs ts us m b)
kept_stmt_word v z k ss K xs ts us m b = kept_no_pending (sg.Word v) z (Fr.Block k ss ∷ K) xs (ts ++ us) (in_block k ss K xs ts us m b) refl

pub kept_eval_word : (v : Word) (z : Spot) (k : EvalKind) (ys : Forms Eval) (K : List Frame) (xs : ItemsRead) (ts us : Text) → EvalText K xs k ts → EvalsBefore ys us →
    HasSome (Mc.eval_word v z.at k ys K xs) ((ts ++ us) ++ wrd v z ∷ [])
kept_eval_word wd.End z k ys K xs ts us m b = kept_end_evals k ys K xs ts us z m (Gr.evals_before ys us b)
kept_eval_word wd.Function z k ys K xs ts us m b = long_begins z (Fr.Evals k ys ∷ K) xs (ts ++ us) tt (in_evals k ys K xs ts us m b)
kept_eval_word v z k ys K xs ts us m b = kept_no_pending (sg.Word v) z (Fr.Evals k ys ∷ K) xs (ts ++ us) (in_evals k ys K xs ts us m b) refl

pub kept_entry_word : (v : Word) (z : Spot) (K : List Frame) (xs : ItemsRead) (ts : Text) → Enters K → Opened K xs ts → HasSome (Mc.entry_word v z.at K xs) (ts ++ wrd v z ∷ [])
kept_entry_word v z _ _ _ h (bottom xs ts b) = kept_item_word v z xs ts b
kept_entry_word v z _ _ _ h (in_paren p q K xs d ts ws g ls st n) = absurd h
kept_entry_word v z _ _ _ h (in_tuple p q w es K xs d ts ws zs g ls st n r) = absurd h
kept_entry_word v z _ _ _ h (in_args p k a f es K xs d ts ws zs ns g ls st m n) = absurd h
kept_entry_word v z _ _ _ h (in_fetch p n q w K xs d ts ws g ls st m k) = absurd h
kept_entry_word v z _ _ _ h (in_print p a f ps K xs d ts ws zs ns g ls st m n) = absurd h
kept_entry_word v z _ _ _ h (in_then p f q K xs d ts ws g n st m) = absurd h
kept_entry_word v z _ _ _ h (in_test p a f b K xs d ts ws zs g ls st m) = absurd h
kept_entry_word v z _ _ _ h (in_block k ss K xs ts us m b) = kept_stmt_word v z k ss K xs ts us m b
kept_entry_word v z _ _ _ h (in_evals k ys K xs ts us m b) = kept_eval_word v z k ys K xs ts us m b

-- ---- names

method_marked : (a : Ahead) → is_method a ≡ true → a ≡ Ah.Method
method_marked Ah.Method h = refl
method_marked Ah.Nothing h = absurd cc
method_marked Ah.Sub h = absurd cc

binding_marked : (x : Opening) → is_binding x ≡ true → x ≡ Op.Binding
binding_marked Op.Binding h = refl
binding_marked Op.Plain h = absurd cc
binding_marked Op.Call h = absurd cc
binding_marked Op.Make h = absurd cc
binding_marked Op.Latest h = absurd cc
binding_marked Op.Delete h = absurd cc
binding_marked Op.Spawn h = absurd cc
binding_marked Op.Quote h = absurd cc
binding_marked Op.Fetch h = absurd cc
binding_marked Op.Print h = absurd cc
binding_marked Op.Println h = absurd cc

no_binding : (x : Opening) → is_binding x ≡ false → is_stmt_name x ≡ true
no_binding Op.Binding h = absurd cc
no_binding Op.Plain h = refl
no_binding Op.Call h = refl
no_binding Op.Make h = refl
no_binding Op.Latest h = refl
no_binding Op.Delete h = refl
no_binding Op.Spawn h = refl
no_binding Op.Quote h = refl
no_binding Op.Fetch h = refl
no_binding Op.Print h = refl
no_binding Op.Println h = refl

pub no_method : (a : Ahead) → is_method a ≡ false → is_eval_name a ≡ true
no_method Ah.Method h = absurd cc
no_method Ah.Nothing h = refl
no_method Ah.Sub h = refl

no_either : (x : Opening) (a : Ahead) → is_method a ≡ false → is_binding x ≡ false → is_item_name x a ≡ true
no_either Op.Binding a m h = absurd cc
no_either Op.Plain Ah.Method m h = absurd cc
no_either Op.Plain Ah.Nothing m h = refl
no_either Op.Plain Ah.Sub m h = refl
no_either Op.Call Ah.Method m h = absurd cc
no_either Op.Call Ah.Nothing m h = refl
no_either Op.Call Ah.Sub m h = refl
no_either Op.Make Ah.Method m h = absurd cc
no_either Op.Make Ah.Nothing m h = refl
no_either Op.Make Ah.Sub m h = refl
no_either Op.Latest Ah.Method m h = absurd cc
no_either Op.Latest Ah.Nothing m h = refl
no_either Op.Latest Ah.Sub m h = refl
no_either Op.Delete Ah.Method m h = absurd cc
no_either Op.Delete Ah.Nothing m h = refl
no_either Op.Delete Ah.Sub m h = refl
no_either Op.Spawn Ah.Method m h = absurd cc
no_either Op.Spawn Ah.Nothing m h = refl
no_either Op.Spawn Ah.Sub m h = refl
no_either Op.Quote Ah.Method m h = absurd cc
no_either Op.Quote Ah.Nothing m h = refl
no_either Op.Quote Ah.Sub m h = refl
no_either Op.Fetch Ah.Method m h = absurd cc
no_either Op.Fetch Ah.Nothing m h = refl
no_either Op.Fetch Ah.Sub m h = refl
no_either Op.Print Ah.Method m h = absurd cc
no_either Op.Print Ah.Nothing m h = refl
no_either Op.Print Ah.Sub m h = refl
no_either Op.Println Ah.Method m h = absurd cc
no_either Op.Println Ah.Nothing m h = refl
no_either Op.Println Ah.Sub m h = refl

short_begins : (n : List ℕ) (z : Spot) (K : List Frame) (xs : ItemsRead) (ts : Text) → Methods K → is_method z.marks.ahead ≡ true → Opened K xs ts →
    Has (Po.Named (Pu.Head (record { place = Pl.Entry; long = false; at = z.at })) (name_in n z)) K xs (ts ++ nam n z ∷ [])
short_begins n z K xs ts m h o =
    has_named (Pu.Head (record { place = Pl.Entry; long = false; at = z.at })) (method_name z.at) n z K xs ts
    (for_head (record { place = Pl.Entry; long = false; at = z.at }) (method_name z.at) K xs ts (entry_short z.at K xs ts m o)) (method_marked z.marks.ahead h, refl)

kept_begin_item : (m b : Bool) (n : List ℕ) (z : Spot) (xs : ItemsRead) (ts : Text) → is_method z.marks.ahead ≡ m → is_binding z.marks.opening ≡ b → ItemsBefore xs ts →
    HasSome (Mc.begin_item m b z.marks n z.at [] xs) (ts ++ nam n z ∷ [])
kept_begin_item true b n z xs ts h i o = short_begins n z [] xs ts tt h (bottom xs ts o)
kept_begin_item false true n z xs ts h i o = has_bound n z [] xs ts (bottom xs ts o) (binding_marked z.marks.opening i, h)
kept_begin_item false false n z xs ts h i o = kept_no_pending (sg.Name n) z [] xs ts (bottom xs ts o) (no_either z.marks.opening z.marks.ahead h i)

kept_begin_stmt : (b : Bool) (n : List ℕ) (z : Spot) (k : BlockKind) (ss : Forms Stmt) (K : List Frame) (xs : ItemsRead) (ts : Text) → is_binding z.marks.opening ≡ b → Opened (Fr.Block k ss ∷ K) xs ts →
    HasSome (Mc.begin_stmt b (is_return_allowed k) z.marks n z.at (Fr.Block k ss ∷ K) xs) (ts ++ nam n z ∷ [])
kept_begin_stmt true n z k ss K xs ts i o = has_bound n z (Fr.Block k ss ∷ K) xs ts o (binding_marked z.marks.opening i)
kept_begin_stmt false n z k ss K xs ts i o = kept_no_pending (sg.Name n) z (Fr.Block k ss ∷ K) xs ts o (no_binding z.marks.opening i)

kept_begin_eval : (m : Bool) (n : List ℕ) (z : Spot) (k : EvalKind) (ys : Forms Eval) (K : List Frame) (xs : ItemsRead) (ts : Text) → is_method z.marks.ahead ≡ m → Opened (Fr.Evals k ys ∷ K) xs ts →
    HasSome (Mc.begin_eval m z.marks n z.at (Fr.Evals k ys ∷ K) xs) (ts ++ nam n z ∷ [])
kept_begin_eval true n z k ys K xs ts h o = short_begins n z (Fr.Evals k ys ∷ K) xs ts tt h o
kept_begin_eval false n z k ys K xs ts h o = kept_no_pending (sg.Name n) z (Fr.Evals k ys ∷ K) xs ts o (no_method z.marks.ahead h)

pub kept_entry_name : (n : List ℕ) (z : Spot) (K : List Frame) (xs : ItemsRead) (ts : Text) → Enters K → Opened K xs ts → HasSome (Mc.entry_name z.marks n z.at K xs) (ts ++ nam n z ∷ [])
kept_entry_name n z _ _ _ h (bottom xs ts b) = kept_begin_item (is_method z.marks.ahead) (is_binding z.marks.opening) n z xs ts refl refl b
kept_entry_name n z _ _ _ h (in_paren p q K xs d ts ws g ls st k) = absurd h
kept_entry_name n z _ _ _ h (in_tuple p q w es K xs d ts ws zs g ls st k r) = absurd h
kept_entry_name n z _ _ _ h (in_args p k a f es K xs d ts ws zs ns g ls st m i) = absurd h
kept_entry_name n z _ _ _ h (in_fetch p i q w K xs d ts ws g ls st m k) = absurd h
kept_entry_name n z _ _ _ h (in_print p a f ps K xs d ts ws zs ns g ls st m i) = absurd h
kept_entry_name n z _ _ _ h (in_then p f q K xs d ts ws g i st m) = absurd h
kept_entry_name n z _ _ _ h (in_test p a f b K xs d ts ws zs g ls st m) = absurd h
kept_entry_name n z _ _ _ h (in_block k ss K xs ts us m b) = kept_begin_stmt (is_binding z.marks.opening) n z k ss K xs (ts ++ us) refl (in_block k ss K xs ts us m b)
kept_entry_name n z _ _ _ h (in_evals k ys K xs ts us m b) = kept_begin_eval (is_method z.marks.ahead) n z k ys K xs (ts ++ us) refl (in_evals k ys K xs ts us m b)

pub kept_entry : (s : Terminal) (z : Spot) (K : List Frame) (xs : ItemsRead) (ts : Text) → is_end s ≡ false → Enters K → Opened K xs ts → HasSome (Mc.at_entry s z.marks z.at K xs) (ts ++ tok s z ∷ [])
kept_entry sg.Newline z K xs ts n h o = kept_apart (tok sg.Newline z) K xs ts (Tx.newline z) h o
kept_entry (sg.Operator x) z K xs ts n h o = kept_entry_operator x z K xs ts h o
kept_entry (sg.Word v) z K xs ts n h o = kept_entry_word v z K xs ts h o
kept_entry (sg.Name m) z K xs ts n h o = kept_entry_name m z K xs ts h o
kept_entry sg.End z K xs ts n h o = absurd cc
kept_entry (sg.Number m) z K xs ts n h o = kept_other (sg.Number m) z K xs ts (other_number m) h o
kept_entry (sg.Text m) z K xs ts n h o = kept_other (sg.Text m) z K xs ts (other_text m) h o
kept_entry (sg.Macro m) z K xs ts n h o = kept_other (sg.Macro m) z K xs ts (other_macro m) h o

-- ---- behind the name of a binding, and behind `return`

returns_bound : (K : List Frame) (q : Spot) → Binds (choice_in K) q → Tu.is_return_allowed_in K ≡ return_in K
returns_bound [] q h = refl
returns_bound (Fr.Block k ss ∷ K) q h = refl
returns_bound (Fr.Evals k ys ∷ K) q h = absurd h
returns_bound (Fr.Paren p a ∷ K) q h = absurd h
returns_bound (Fr.Tuple p a es ∷ K) q h = absurd h
returns_bound (Fr.Args p a f es ∷ K) q h = absurd h
returns_bound (Fr.Fetch p a ∷ K) q h = absurd h
returns_bound (Fr.Print p a l ps ∷ K) q h = absurd h
returns_bound (Fr.Then p c ∷ K) q h = absurd h
returns_bound (Fr.Test p a x b ∷ K) q h = absurd h

pub kept_bound : (s : Terminal) (z : Spot) (n : List ℕ) (q : Spot) (K : List Frame) (xs : ItemsRead) (ts : Text) → Opened K xs ts → Binds (choice_in K) q →
    HasSome (Mc.at_bound s (name_in n q) K xs) ((ts ++ nam n q ∷ []) ++ tok s z ∷ [])
kept_bound (sg.Operator op.Assign) z n q K xs ts o h =
    subst (λ r. Has (Po.Want (pending_after (Le.Bind (name_in n q)) r)) K xs ((ts ++ nam n q ∷ []) ++ opr op.Assign z ∷ [])) (sym (returns_bound K q h))
    (has_moved (has_want (pending_after (Le.Bind (name_in n q)) (return_in K)) K xs any_form (ts ++ (nam n q ∷ opr op.Assign z ∷ [])) []
    (led_text K xs (Le.Bind (name_in n q)) [] (return_in K) (return_in K) any_form any_form ts (nam n q ∷ opr op.Assign z ∷ []) [] o
    (lead_bind (choice_in K) (return_in K) n q z h) (no_outer any_form (return_in K))) (bare_levels (return_in K)) tt) (simp (append_assoc, append-nil) refl))
kept_bound _ z n q K xs ts o h = tt

led_return : (q : Spot) (k : BlockKind) (ss : Forms Stmt) (K : List Frame) (xs : ItemsRead) (ts : Text) → Opened (Fr.Block k ss ∷ K) xs ts → is_return_allowed k ≡ true →
    Led (Fr.Block k ss ∷ K) xs (Le.Return q.at) [] true any_form (ts ++ wrd wd.Return q ∷ [])
led_return q k ss K xs ts o h =
    led_text (Fr.Block k ss ∷ K) xs (Le.Return q.at) [] true true any_form any_form ts (wrd wd.Return q ∷ []) [] o
    (subst (λ r. LeadText stmt_form r (Le.Return q.at) any_form true (wrd wd.Return q ∷ [])) (sym h) (lead_return q)) (no_outer any_form true)

kept_pending_after : (s : Terminal) (z q : Spot) (k : BlockKind) (ss : Forms Stmt) (K : List Frame) (xs : ItemsRead) (ts : Text) → Opened (Fr.Block k ss ∷ K) xs ts → is_return_allowed k ≡ true →
    HasSome (Tu.begin_operand s z.marks z.at (pending_after (Le.Return q.at) true) (Fr.Block k ss ∷ K) xs) ((ts ++ wrd wd.Return q ∷ []) ++ tok s z ∷ [])
kept_pending_after s z q k ss K xs ts o h =
    some_moved (Tu.begin_operand s z.marks z.at (pending_after (Le.Return q.at) true) (Fr.Block k ss ∷ K) xs) (((ts ++ wrd wd.Return q ∷ []) ++ []) ++ tok s z ∷ []) ((ts ++ wrd wd.Return q ∷ []) ++ tok s z ∷ [])
    (kept_begin_operand s z (pending_after (Le.Return q.at) true) (Fr.Block k ss ∷ K) xs any_form (ts ++ wrd wd.Return q ∷ []) [] (led_return q k ss K xs ts o h) (bare_levels true) tt)
    (ap (λ x. x ++ tok s z ∷ []) (append-nil (ts ++ wrd wd.Return q ∷ [])))

returned : (r : Bool) (ss : Forms Stmt) (us : Text) (q : Spot) → r ≡ true → StmtsBefore r ss us → StmtsAfter r (M.with_form ss (St.ReturnNothing q.at) 0) (us ++ wrd wd.Return q ∷ [])
returned r ss us q h b = Gr.stmts_one r ss (St.ReturnNothing q.at) 0 us (wrd wd.Return q ∷ []) b (subst (λ x. Statement x (St.ReturnNothing q.at) 0 (wrd wd.Return q ∷ [])) (sym h) (Gr.return_nothing q))

kept_separator_after_return : (t : Marked) (q : Spot) (k : BlockKind) (ss : Forms Stmt) (K : List Frame) (xs : ItemsRead) (ts : Text) → Sep t → Opened (Fr.Block k ss ∷ K) xs ts → is_return_allowed k ≡ true →
    HasSome (Mc.separator_after_return q.at (Fr.Block k ss ∷ K) xs) ((ts ++ wrd wd.Return q ∷ []) ++ t ∷ [])
kept_separator_after_return t q _ _ _ _ _ sep (in_block k ss K xs ts us m b) h =
    has_moved (has_entry (Fr.Block k (M.with_form ss (St.ReturnNothing q.at) 0) ∷ K) xs (ts ++ ((us ++ wrd wd.Return q ∷ []) ++ t ∷ [])) tt
    (in_block k (M.with_form ss (St.ReturnNothing q.at) 0) K xs ts ((us ++ wrd wd.Return q ∷ []) ++ t ∷ []) m
    (Gr.stmts_apart (is_return_allowed k) (M.with_form ss (St.ReturnNothing q.at) 0) t (us ++ wrd wd.Return q ∷ []) (returned (is_return_allowed k) ss us q h b) sep))) (simp append_assoc refl)

kept_end_return : (v : Word) (z q : Spot) (k : BlockKind) (ss : Forms Stmt) (K : List Frame) (xs : ItemsRead) (ts : Text) → Opened (Fr.Block k ss ∷ K) xs ts → is_return_allowed k ≡ true →
    HasSome (Mc.end_return v z.at q.at (Fr.Block k ss ∷ K) xs) ((ts ++ wrd wd.Return q ∷ []) ++ wrd v z ∷ [])
kept_end_return v z q _ _ _ _ _ (in_block k ss K xs ts us m b) h =
    some_moved (Tu.block_word v z.at k (M.with_form ss (St.ReturnNothing q.at) 0) K xs) ((ts ++ (us ++ wrd wd.Return q ∷ [])) ++ wrd v z ∷ []) (((ts ++ us) ++ wrd wd.Return q ∷ []) ++ wrd v z ∷ [])
    (kept_block_word v k (M.with_form ss (St.ReturnNothing q.at) 0) K xs ts (us ++ wrd wd.Return q ∷ []) z m
    (Gr.block_after (is_return_allowed k) (M.with_form ss (St.ReturnNothing q.at) 0) (us ++ wrd wd.Return q ∷ []) (returned (is_return_allowed k) ss us q h b))) (simp append_assoc refl)

kept_return_word : (v : Word) (z q : Spot) (k : BlockKind) (ss : Forms Stmt) (K : List Frame) (xs : ItemsRead) (ts : Text) → Opened (Fr.Block k ss ∷ K) xs ts → is_return_allowed k ≡ true →
    HasSome (Mc.return_word v z.at q.at (Fr.Block k ss ∷ K) xs) ((ts ++ wrd wd.Return q ∷ []) ++ wrd v z ∷ [])
kept_return_word wd.End z q k ss K xs ts o h = kept_end_return wd.End z q k ss K xs ts o h
kept_return_word wd.Elseif z q k ss K xs ts o h = kept_end_return wd.Elseif z q k ss K xs ts o h
kept_return_word wd.Else z q k ss K xs ts o h = kept_end_return wd.Else z q k ss K xs ts o h
kept_return_word v z q k ss K xs ts o h = kept_pending_after (sg.Word v) z q k ss K xs ts o h

kept_return_operator : (x : Operator) (z q : Spot) (k : BlockKind) (ss : Forms Stmt) (K : List Frame) (xs : ItemsRead) (ts : Text) → Opened (Fr.Block k ss ∷ K) xs ts → is_return_allowed k ≡ true →
    HasSome (Mc.return_operator x z.marks z.at q.at (Fr.Block k ss ∷ K) xs) ((ts ++ wrd wd.Return q ∷ []) ++ opr x z ∷ [])
kept_return_operator op.Semicolon z q k ss K xs ts o h = kept_separator_after_return (opr op.Semicolon z) q k ss K xs ts (Tx.semicolon z) o h
kept_return_operator x z q k ss K xs ts o h = kept_pending_after (sg.Operator x) z q k ss K xs ts o h

pub kept_returned : (s : Terminal) (z q : Spot) (k : BlockKind) (ss : Forms Stmt) (K : List Frame) (xs : ItemsRead) (ts : Text) → Opened (Fr.Block k ss ∷ K) xs ts → is_return_allowed k ≡ true →
    HasSome (Mc.at_returned s z.marks z.at q.at (Fr.Block k ss ∷ K) xs) ((ts ++ wrd wd.Return q ∷ []) ++ tok s z ∷ [])
kept_returned sg.Newline z q k ss K xs ts o h = kept_separator_after_return (tok sg.Newline z) q k ss K xs ts (Tx.newline z) o h
kept_returned (sg.Operator x) z q k ss K xs ts o h = kept_return_operator x z q k ss K xs ts o h
kept_returned (sg.Word v) z q k ss K xs ts o h = kept_return_word v z q k ss K xs ts o h
kept_returned s z q k ss K xs ts o h = kept_pending_after s z q k ss K xs ts o h

-- ---- behind `@eval`

led_eval : (K : List Frame) (xs : ItemsRead) (l : Lead) (os : List Outer) (r : Bool) (d : Choice) (ts : Text) (ls : Levels) (us : Text) (q : Spot) → Led K xs l os r d ts → LevelsText r ls us →
    Starts d (us ++ tok (sg.Macro (codes "eval")) q ∷ []) → Led K xs l (Ou.Eval ls q.at ∷ os) false evaluated_form (ts ++ (us ++ tok (sg.Macro (codes "eval")) q ∷ []))
led_eval _ _ _ _ _ _ _ ls us q (led_text K xs l os y r c d ts ws vs o lt ot) lv st =
    subst (Led K xs l (Ou.Eval ls q.at ∷ os) false evaluated_form) (simp append_assoc refl)
    (led_text K xs l (Ou.Eval ls q.at ∷ os) y false c evaluated_form ts ws (vs ++ (us ++ tok (sg.Macro (codes "eval")) q ∷ [])) o lt (in_eval c d y r os ls q vs us ot lv st))

kept_pending_of_eval : (s : Terminal) (z : Spot) (p : Pending) (q : Spot) (K : List Frame) (xs : ItemsRead) (d : Choice) (ts us : Text) → Led K xs p.lead p.outer p.returns d ts → LevelsText p.returns p.levels us →
    Starts d (us ++ tok (sg.Macro (codes "eval")) q ∷ []) → Starts evaluated_form (tok s z ∷ []) →
    HasSome (Tu.begin_operand s z.marks z.at (Mc.pending_of_eval p q.at) K xs) (((ts ++ us) ++ tok (sg.Macro (codes "eval")) q ∷ []) ++ tok s z ∷ [])
kept_pending_of_eval s z p q K xs d ts us l ls st h =
    some_moved (Tu.begin_operand s z.marks z.at (Mc.pending_of_eval p q.at) K xs) (((ts ++ (us ++ tok (sg.Macro (codes "eval")) q ∷ [])) ++ []) ++ tok s z ∷ []) (((ts ++ us) ++ tok (sg.Macro (codes "eval")) q ∷ []) ++ tok s z ∷ [])
    (kept_begin_operand s z (Mc.pending_of_eval p q.at) K xs evaluated_form (ts ++ (us ++ tok (sg.Macro (codes "eval")) q ∷ [])) []
    (led_eval K xs p.lead p.outer p.returns d ts p.levels us q l ls st) (bare_levels false) h) (simp (append_assoc, append-nil) refl)

kept_name_after_eval : (b : Bool) (n : List ℕ) (z : Spot) (p : Pending) (q : Spot) (K : List Frame) (xs : ItemsRead) (d : Choice) (ts us : Text) → is_method z.marks.ahead ≡ b →
    Led K xs p.lead p.outer p.returns d ts → LevelsText p.returns p.levels us → Starts d (us ++ tok (sg.Macro (codes "eval")) q ∷ []) →
    HasSome (Mc.name_after_eval b z.marks n z.at p q.at K xs) (((ts ++ us) ++ tok (sg.Macro (codes "eval")) q ∷ []) ++ nam n z ∷ [])
kept_name_after_eval true n z p q K xs d ts us h l ls st =
    has_named (Pu.Head (record { place = Pl.Evaluated p q.at; long = false; at = z.at })) (method_name z.at) n z K xs ((ts ++ us) ++ tok (sg.Macro (codes "eval")) q ∷ [])
    (for_head (record { place = Pl.Evaluated p q.at; long = false; at = z.at }) (method_name z.at) K xs ((ts ++ us) ++ tok (sg.Macro (codes "eval")) q ∷ [])
    (evaluated_short p q z.at K xs d ts us l ls st)) (method_marked z.marks.ahead h, refl)
kept_name_after_eval false n z p q K xs d ts us h l ls st = kept_pending_of_eval (sg.Name n) z p q K xs d ts us l ls st (no_method z.marks.ahead h)

kept_word_after_eval : (v : Word) (z : Spot) (p : Pending) (q : Spot) (K : List Frame) (xs : ItemsRead) (d : Choice) (ts us : Text) →
    Led K xs p.lead p.outer p.returns d ts → LevelsText p.returns p.levels us → Starts d (us ++ tok (sg.Macro (codes "eval")) q ∷ []) →
    HasSome (Mc.word_after_eval v z.at p q.at K xs) (((ts ++ us) ++ tok (sg.Macro (codes "eval")) q ∷ []) ++ wrd v z ∷ [])
kept_word_after_eval wd.Begin z p q K xs d ts us l ls st =
    has_moved (has_entry (Fr.Evals (Ev.Begin p q.at) M.no_forms ∷ K) xs (((ts ++ us) ++ (tok (sg.Macro (codes "eval")) q ∷ wrd wd.Begin z ∷ [])) ++ []) tt
    (in_evals (Ev.Begin p q.at) M.no_forms K xs ((ts ++ us) ++ (tok (sg.Macro (codes "eval")) q ∷ wrd wd.Begin z ∷ [])) [] (begin_evaluated p q z K xs d ts us l ls st) Gr.no_evals)) (simp (append_assoc, append-nil) refl)
kept_word_after_eval wd.Function z p q K xs d ts us l ls st =
    has_moved (has_function (Pu.Head (record { place = Pl.Evaluated p q.at; long = true; at = z.at })) K xs ((ts ++ us) ++ (tok (sg.Macro (codes "eval")) q ∷ wrd wd.Function z ∷ []))
    (for_head (record { place = Pl.Evaluated p q.at; long = true; at = z.at }) free_name K xs ((ts ++ us) ++ (tok (sg.Macro (codes "eval")) q ∷ wrd wd.Function z ∷ []))
    (evaluated_long p q z K xs d ts us l ls st))) (simp append_assoc refl)
kept_word_after_eval v z p q K xs d ts us l ls st = kept_pending_of_eval (sg.Word v) z p q K xs d ts us l ls st refl

pub kept_token_after_eval : (s : Terminal) (z : Spot) (p : Pending) (q : Spot) (K : List Frame) (xs : ItemsRead) (d : Choice) (ts us : Text) →
    Led K xs p.lead p.outer p.returns d ts → LevelsText p.returns p.levels us → Starts d (us ++ tok (sg.Macro (codes "eval")) q ∷ []) →
    HasSome (Mc.token_after_eval s z.marks z.at p q.at K xs) (((ts ++ us) ++ tok (sg.Macro (codes "eval")) q ∷ []) ++ tok s z ∷ [])
kept_token_after_eval (sg.Name n) z p q K xs d ts us l ls st = kept_name_after_eval (is_method z.marks.ahead) n z p q K xs d ts us refl l ls st
kept_token_after_eval (sg.Word v) z p q K xs d ts us l ls st = kept_word_after_eval v z p q K xs d ts us l ls st
kept_token_after_eval s z p q K xs d ts us l ls st = kept_pending_of_eval s z p q K xs d ts us l ls st refl
