-- What is read so far is in the grammar: each token that a state takes belongs to the text of the next one, and what is read
-- before the source's end is a script.
use Rattle.std.proofs.Common.{false, List, [], ◌∷◌, ◌++◌, ◌≡◌, Option, Some, None, sym, subst}
use Rattle.std.proofs.lemmas.List.{append_assoc, append-nil}
use Rattle.jl_typeread.specs.declared.terminal.Terminal.{Terminal}
use Rattle.jl_grammar.specs.declared.mark.Marked.{Marked}
use Rattle.jl_grammar.specs.declared.state.Frame.{Frame}
use Rattle.jl_grammar.specs.declared.state.ItemsRead.{ItemsRead}
use Rattle.jl_grammar.specs.declared.state.Point.{Point}
use Rattle.jl_grammar.specs.declared.state.Point.TheVariants as Po
use Rattle.jl_grammar.specs.declared.state.State.{State}
use Rattle.jl_grammar.specs.Forms as M
use Rattle.jl_grammar.specs.Grammar.{PrefixOperator, ComparisonOperator, SumOperator, TermOperator, CalleeText, ParamText, ParamsText, ParensText, WhereText, HeadText, place, Atom, Brackets, Arguments, PieceText, Pieces, Post, Unary, Term, Sum, Comparison, Conjunction, Disjunction, Expression, Branches, Statement, Block, StmtsBefore, StmtsAfter, LongMethod, ShortMethod, Evaluated, EvalBlock, EvalsBefore, EvalsAfter, ParentText, TypeParamsText, HeaderText, FieldText, FieldsBefore, FieldsAfter, FieldsText, ItemText, ItemsBefore, ItemsAfter, ScriptText}
use Rattle.jl_grammar.specs.Grammar as Gr
use Rattle.jl_grammar.specs.Machine as Mc
use Rattle.jl_grammar.specs.Texts.{Text, Spot, tok, NoEnd, is_end}
use Rattle.jl_grammar.proofs.Standing.{bottom}
use Rattle.jl_grammar.proofs.Points.{Has, has_entry, has_bound, has_returned, has_want, has_first_paren, has_first_args, has_first_print, has_again, has_piece, has_texted, has_have, has_dot, has_index, has_indexed, has_due, has_quoted, has_deleting, has_deleted, has_after_eval, has_function, has_named, has_dotted, has_colon, has_known, has_first_param, has_next_param, has_param, has_headed, has_where, has_type, has_abstract, has_decl_name, has_declared, has_params, has_fields, has_field, has_made, has_made_method, HasSome}
use Rattle.jl_grammar.proofs.Closing.{starts_append}
use Rattle.jl_grammar.proofs.KeptFollows.{kept_token_after_operand}
use Rattle.jl_grammar.proofs.KeptBegins.{kept_begin_operand}
use Rattle.jl_grammar.proofs.KeptForms.{kept_first_paren, kept_first_args, kept_first_print, kept_again, kept_piece, kept_texted, kept_dot, kept_index, kept_indexed, kept_quoted, kept_deleting, kept_deleted, kept_due, kept_known, kept_function, kept_named, kept_dotted, kept_colon_name}
use Rattle.jl_grammar.proofs.KeptEntries.{kept_entry, kept_bound, kept_returned, kept_token_after_eval}
use Rattle.jl_grammar.proofs.KeptHeads.{kept_next_param, kept_first_param, kept_param, kept_at_headed, kept_where}
use Rattle.jl_grammar.proofs.KeptTypes.{kept_abstract, kept_decl, kept_at_declared, kept_params, kept_fields, kept_field, kept_made, kept_made_method, kept_type}

-- ---- one token

kept_by : (s : Terminal) (z : Spot) (w : Point) (K : List Frame) (xs : ItemsRead) (ts : Text) → is_end s ≡ false → Has w K xs ts → HasSome (Mc.step_by s z.marks z.at w K xs) (ts ++ tok s z ∷ [])
kept_by s z _ _ _ _ n (has_entry K xs ts h o) = kept_entry s z K xs ts n h o
kept_by s z _ _ _ _ n (has_bound m q K xs ts o h) = kept_bound s z m q K xs ts o h
kept_by s z _ _ _ _ n (has_returned q k ss K xs ts o h) = kept_returned s z q k ss K xs ts o h
kept_by s z _ _ _ _ n (has_want p K xs d ts us l ls st) = kept_begin_operand s z p K xs d ts us l ls (starts_append d us (tok s z ∷ []) st)
kept_by s z _ _ _ _ n (has_first_paren p a K xs ts o) = kept_first_paren s z p a K xs ts o
kept_by s z _ _ _ _ n (has_first_args p a f K xs d ts us vs l ls st c) = kept_first_args s z p a f K xs d ts us vs l ls st c
kept_by s z _ _ _ _ n (has_first_print p a f K xs d ts us vs l ls st c) = kept_first_print s z p a f K xs d ts us vs l ls st c
kept_by s z _ _ _ _ n (has_again p q y e K xs d ts us vs l ls st m x) = kept_again s z p q y e K xs d ts us vs l ls st m x
kept_by s z _ _ _ _ n (has_piece p a l ps K xs ts o) = kept_piece s z p a l ps K xs ts o
kept_by s z _ _ _ _ n (has_texted p a f ps K xs d ts us vs ws l ls st m c) = kept_texted s z p a f ps K xs d ts us vs ws l ls st m c
kept_by s z _ _ _ _ n (has_have p e K xs d ts us vs l ls st a) = kept_token_after_operand s z p e K xs d ts us vs n l ls st a
kept_by s z _ _ _ _ n (has_dot p e q K xs d ts us vs l ls st a) = kept_dot s z p e q K xs d ts us vs l ls st a
kept_by s z _ _ _ _ n (has_index p e q K xs d ts us vs l ls st a) = kept_index s z p e q K xs d ts us vs l ls st a
kept_by s z _ _ _ _ n (has_indexed p e m q y K xs d ts us vs l ls st a h) = kept_indexed s z p e m q y K xs d ts us vs l ls st a h
kept_by s z _ _ _ _ n (has_due p a x K xs d ts us vs l ls st c) = kept_due s z p a x K xs d ts us vs l ls st c
kept_by s z _ _ _ _ n (has_quoted p ys v K xs ts us q o b) = kept_quoted s z p q ys v K xs ts us o b
kept_by s z _ _ _ _ n (has_deleting p a f K xs d ts us vs l ls st c) = kept_deleting s z p a f K xs d ts us vs l ls st c
kept_by s z _ _ _ _ n (has_deleted p a f t q y K xs d ts us vs ws l ls st c i) = kept_deleted s z p a f t q y K xs d ts us vs ws l ls st c i
kept_by s z _ _ _ _ n (has_after_eval p q K xs d ts us l ls st) = kept_token_after_eval s z p q K xs d ts us l ls st
kept_by s z _ _ _ _ n (has_function g K xs ts t) = kept_function s z g K xs ts t
kept_by s z _ _ _ _ n (has_named g c m q K xs ts t k) = kept_named s z g c m q K xs ts t k
kept_by s z _ _ _ _ n (has_dotted g c q w K xs ts t k) = kept_dotted s z g c q w K xs ts t k
kept_by s z _ _ _ _ n (has_colon g c q w v K xs ts t k) = kept_colon_name s z g c q w v K xs ts t k
kept_by s z _ _ _ _ n (has_known g c f K xs ts us t k m) = kept_known s z g c f K xs ts us t k m
kept_by s z _ _ _ _ n (has_first_param y f c q K xs ts us t m k) = kept_first_param s z y f c q K xs ts us t m k
kept_by s z _ _ _ _ n (has_next_param h K xs ts t) = kept_next_param s z h K xs ts t
kept_by s z _ _ _ _ n (has_param h m q K xs ts t) = kept_param s z h m q K xs ts t
kept_by s z _ _ _ _ n (has_headed h K xs ts t) = kept_at_headed s z h K xs ts n t
kept_by s z _ _ _ _ n (has_where h y K xs ts us t x) = kept_where s z h y K xs ts us n t x
kept_by s z _ _ _ _ n (has_type g c y K xs ts us t f x) = kept_type s z g c y K xs ts us n t f x
kept_by s z _ _ _ _ n (has_abstract q xs ts b) = kept_abstract s z q xs ts b
kept_by s z _ _ _ _ n (has_decl_name k a xs ts us b d) = kept_decl s z k a xs ts us b d
kept_by s z _ _ _ _ n (has_declared k a m q xs ts us b d) = kept_at_declared s z k a m q xs ts us b d
kept_by s z _ _ _ _ n (has_params k a m q y xs ts us vs b d x) = kept_params s z k a m q y xs ts us vs b d x
kept_by s z _ _ _ _ n (has_fields f xs ts t) = kept_fields s z f xs ts t
kept_by s z _ _ _ _ n (has_field f m q xs ts t) = kept_field s z f m q xs ts t
kept_by s z _ _ _ _ n (has_made x xs ts us b i) = kept_made s z x xs ts us n b i
kept_by s z _ _ _ _ n (has_made_method m K xs ts us h o x) = kept_made_method s z m K xs ts us n h o x

pub kept : (t : Marked) (w : Point) (K : List Frame) (xs : ItemsRead) (ts : Text) → is_end t.lexeme.terminal ≡ false → Has w K xs ts → HasSome (Mc.step_at t w K xs) (ts ++ t ∷ [])
kept t w K xs ts n h = kept_by t.lexeme.terminal (record { at = t.lexeme.at; marks = t.marks }) w K xs ts n h

-- ---- all tokens

pub kept_one : (t : Marked) (o : Option State) (ts : Text) → is_end t.lexeme.terminal ≡ false → HasSome o ts → HasSome (Mc.step t o) (ts ++ t ∷ [])
kept_one t None ts n h = tt
kept_one t (Some s) ts n h = kept t s.point s.stack s.script ts n h

pub kept_all : (us : Text) (o : Option State) (ts : Text) → NoEnd us → HasSome o ts → HasSome (Mc.step_all us o) (ts ++ us)
kept_all [] o ts n h = subst (HasSome o) (sym (append-nil ts)) h
kept_all (u ∷ us) o ts n h = subst (HasSome (Mc.step_all us (Mc.step u o))) (append_assoc ts (u ∷ []) us) (kept_all us (Mc.step u o) (ts ++ u ∷ []) n.1 (kept_one u o ts n.0 h))

pub has_start : Has Po.Entry [] M.no_items []
has_start = has_entry [] M.no_items [] tt (bottom M.no_items [] Gr.no_items)

-- the text of the state that these tokens lead to
pub has_all : (ts : Text) → NoEnd ts → HasSome (Mc.step_all ts Mc.start) ts
has_all ts n = kept_all ts Mc.start [] n has_start
