-- A type must stand exactly where the machine says so.
use Rattle.std.proofs.Common.{ℕ, Bool, true, false, true≢false, List, [], ◌∷◌, ◌++◌, ◌≡◌, ◌⊎◌, inl, inr, Option, Some, None, refl, sym, ap, subst, ◌∙◌}
use Rattle.std.specs.Prelude.{pos}
use Rattle.jl_token.specs.declared.token.Operator.TheVariants as o
use Rattle.jl_typeread.specs.declared.deep.Deep.{Deep}
use Rattle.jl_typeread.specs.declared.terminal.Lexeme.{Lexeme}
use Rattle.jl_typeread.specs.declared.terminal.Terminal.{Terminal}
use Rattle.jl_typeread.specs.declared.terminal.Terminal.TheVariants as S
use Rattle.jl_typeread.specs.declared.state.TypeSoFar.{TypeSoFar}
use Rattle.jl_typeread.specs.declared.state.TypeSoFar.TheVariants.{Plain}
use Rattle.jl_typeread.specs.declared.state.Bound.TheVariants as B
use Rattle.jl_typeread.specs.declared.state.Frame.{Frame as TypeFrame}
use Rattle.jl_typeread.specs.declared.state.Frame.TheVariants.{Variable}
use Rattle.jl_typeread.specs.declared.state.Enclosure.TheVariants.{One}
use Rattle.jl_typeread.specs.declared.state.Point.{Point as TypePoint}
use Rattle.jl_typeread.specs.declared.state.Point.TheVariants as Q
use Rattle.jl_typeread.specs.declared.state.State.{State as TypeState}
use Rattle.jl_typeread.specs.declared.state.Turn.{Turn}
use Rattle.jl_typeread.specs.declared.state.Turn.TheVariants as T
use Rattle.jl_typeread.specs.declared.tree.ArgText.{ArgText}
use Rattle.jl_typeread.specs.declared.tree.ArgText.TheVariants as A
use Rattle.jl_typeread.specs.declared.tree.TypeText.{TypeText}
use Rattle.jl_typeread.specs.declared.tree.TypeText.TheVariants as X
use Rattle.jl_typeread.specs.declared.tree.VarText.{VarText}
use Rattle.jl_typeread.specs.declared.tree.ArgText.TheViews as W
use Rattle.jl_typeread.specs.Grammar.{name, mark, IsArgument}
use Rattle.jl_typeread.specs.Grammar as YG
use Rattle.jl_typeread.specs.Machine as Y
use Rattle.jl_typeread.proofs.Kept as YK
use Rattle.jl_typeread.proofs.Spelled.{BeginsType, by_name, by_paren, starts_type, starts_alike, first_as_next, next_as_want}
use Rattle.jl_typeread.proofs.Spelled as YS
use Rattle.jl_grammar.specs.declared.mark.Marked.{Marked}
use Rattle.jl_grammar.specs.declared.mark.Marks.{Marks}
use Rattle.jl_grammar.specs.declared.state.Declaring.{Declaring}
use Rattle.jl_grammar.specs.declared.state.Due.{Due}
use Rattle.jl_grammar.specs.declared.state.Due.TheVariants as D
use Rattle.jl_grammar.specs.declared.state.Form.{Form}
use Rattle.jl_grammar.specs.declared.state.Frame.{Frame}
use Rattle.jl_grammar.specs.declared.state.Goal.{Goal}
use Rattle.jl_grammar.specs.declared.state.Goal.TheVariants as G
use Rattle.jl_grammar.specs.declared.state.Heading.{Heading}
use Rattle.jl_grammar.specs.declared.state.ItemsRead.{ItemsRead}
use Rattle.jl_grammar.specs.declared.state.Pending.{Pending}
use Rattle.jl_grammar.specs.declared.state.Place.{Place}
use Rattle.jl_grammar.specs.declared.state.Point.{Point}
use Rattle.jl_grammar.specs.declared.state.Point.TheVariants as P
use Rattle.jl_grammar.specs.declared.state.State.{State}
use Rattle.jl_grammar.specs.declared.state.TypeForm.{TypeForm}
use Rattle.jl_grammar.specs.declared.tree.Head.{Head}
use Rattle.jl_grammar.specs.declared.tree.Header.{Header}
use Rattle.jl_grammar.specs.Machine as MC
use Rattle.jl_grammar.specs.Machine.{step, step_at, step_by, step_all, start, is_type_wanted}
use Rattle.jl_grammar.specs.Reads.{Begins}
use Rattle.jl_grammar.specs.Texts.{Text, Spot, tok, opr, nam, lexemes, NoEnd, is_end}
use Rattle.jl_grammar.specs.Turns.{at}
use Rattle.jl_grammar.specs.Types.{IsType}
use Rattle.jl_grammar.proofs.Ended.{nowhere}
use Rattle.jl_grammar.proofs.Points.{Has, HasSome, has_entry, has_bound, has_returned, has_want, has_first_paren, has_first_args, has_first_print, has_again, has_piece, has_texted, has_have, has_dot, has_index, has_indexed, has_due, has_quoted, has_deleting, has_deleted, has_after_eval, has_function, has_named, has_dotted, has_colon, has_known, has_first_param, has_next_param, has_param, has_headed, has_where, has_type, has_abstract, has_decl_name, has_declared, has_params, has_fields, has_field, has_made, has_made_method}
use Rattle.jl_grammar.proofs.Kept.{has_all}
use Rattle.jl_grammar.proofs.Reading.{step_all_append, none_is_some}
use Rattle.jl_grammar.proofs.Completed.{read_begins, none_begins}
use Rattle.jl_grammar_laws.specs.Must.{IsFirst, TypeMust}
use Rattle.jl_grammar_laws.proofs.SettledTypes.{IsNamed, SettledAt}
use Rattle.jl_grammar_laws.proofs.Settled.{Settled, SettledPoint, settled_all}

-- ---- what a text goes on with

no_end_append : (ts us : Text) → NoEnd ts → NoEnd us → NoEnd (ts ++ us)
no_end_append [] us n m = m
no_end_append (t ∷ ts) us n m = (n.0, no_end_append ts us n.1 m)

abbrev IsSome : Option State → Type 0
IsSome None = ⊥
IsSome (Some s) = Unit {0}

some_of : (r : Option State) → IsSome r → (s : State) × (r ≡ Some s)
some_of None i = absurd i
some_of (Some s) i = (s, refl)

can : (ts us : Text) (s : State) → NoEnd ts → NoEnd us → step_all ts start ≡ Some s → IsSome (step_all us (Some s)) → Begins (ts ++ us)
can ts us s n m e i =
    let r = some_of (step_all us (Some s)) i in
    let c = read_begins (ts ++ us) r.0 (no_end_append ts us n m) (step_all_append ts us start ∙ ap (step_all us) e ∙ r.1) in (c.1, c.0, c.2)

cannot : (ts us : Text) (s : State) → step_all ts start ≡ Some s → step_all us (Some s) ≡ None → Begins (ts ++ us) → ⊥
cannot ts us s e h b = none_begins (ts ++ us) (step_all_append ts us start ∙ ap (step_all us) e ∙ h) (b.1, b.0, b.2)

-- ---- the tokens that may be first

-- the signs of the tokens that begin an argument of a type, and `}`
abbrev first_terminal : Terminal → Bool
first_terminal (S.Name n) = true
first_terminal (S.Operator o.OpenParen) = true
first_terminal (S.Operator o.Subtype) = true
first_terminal (S.Operator o.Supertype) = true
first_terminal (S.Operator o.CloseBrace) = true
first_terminal s = false

abbrev head_terminal : List Lexeme → Bool
head_terminal [] = false
head_terminal (l ∷ ls) = first_terminal l.terminal

begins_head : (l : Lexeme) (ls : List Lexeme) → BeginsType l → head_terminal (l ∷ ls) ≡ true
begins_head _ ls (by_name a n) = refl
begins_head _ ls (by_paren a) = refl

argument_head : (x : ArgText) (ls : List Lexeme) → IsArgument x ls → head_terminal ls ≡ true
argument_head _ _ (YG.exact t ts d) = let s = starts_type t ts d in ap head_terminal (sym s.3) ∙ begins_head s.0 s.1 s.2
argument_head _ _ (YG.below a t ts d) = refl
argument_head _ _ (YG.above a t ts d) = refl

first_is : (l : Lexeme) → IsFirst l → first_terminal l.terminal ≡ true
first_is l (inl b) = argument_head b.0 (l ∷ b.1) b.2
first_is l (inr e) = ap first_terminal e

-- ---- at a point of the reading of a type where one must stand

-- what a token makes of a reading where a type must stand: it is one of these, or it is wrong
abbrev Opens : Terminal → ℕ → TypePoint → List TypeFrame → Type 0
Opens s a p K = IsFirst (record { terminal = s; at = a }) ⊎ (Y.step_at s a p K ≡ T.Wrong)

want_opens : (s : Terminal) (a : ℕ) (K : List TypeFrame) → IsFirst (record { terminal = s; at = a }) ⊎ (Y.begin_type s a K ≡ T.Wrong)
want_opens (S.Name n) a K = inl (inl (A.Exact (X.Name a n), [], YG.exact (X.Name a n) (name a n ∷ []) (YG.plain a n)))
want_opens (S.Operator o.OpenParen) a K = inl (inl (
  A.Exact (W.Paren a (X.Name 0 []) []),
  name 0 [] ∷ mark o.CloseParen 0 ∷ [],
  YG.exact (W.Paren a (X.Name 0 []) []) (mark o.OpenParen a ∷ name 0 [] ∷ mark o.CloseParen 0 ∷ []) (YG.paren a 0 (X.Name 0 []) (name 0 [] ∷ []) (YG.plain 0 [])),
))
want_opens s a K = inr refl

next_opens : (s : Terminal) (a : ℕ) (K : List TypeFrame) → IsFirst (record { terminal = s; at = a }) ⊎ (Y.at_next s a K ≡ T.Wrong)
next_opens (S.Operator o.Subtype) a K = inl (inl (A.Below a (X.Name 0 []), name 0 [] ∷ [], YG.below a (X.Name 0 []) (name 0 [] ∷ []) (YG.plain 0 [])))
next_opens (S.Operator o.Supertype) a K = inl (inl (A.Above a (X.Name 0 []), name 0 [] ∷ [], YG.above a (X.Name 0 []) (name 0 [] ∷ []) (YG.plain 0 [])))
next_opens s a K = want_opens s a K

first_opens : (s : Terminal) (a : ℕ) (K : List TypeFrame) → IsFirst (record { terminal = s; at = a }) ⊎ (Y.at_first s a K ≡ T.Wrong)
first_opens (S.Operator o.CloseBrace) a K = inl (inr refl)
first_opens s a K = next_opens s a K

opens : (s : Terminal) (a : ℕ) (p : TypePoint) (K : List TypeFrame) → Y.is_type_wanted p ≡ true → Opens s a p K
opens s a Q.Want K w = want_opens s a K
opens s a Q.First K w = first_opens s a K
opens s a Q.Next K w = next_opens s a K
opens s a Q.Variable K w = absurd (true≢false (sym w))
opens s a (Q.Have h) K w = absurd (true≢false (sym w))
opens s a Q.Where K w = absurd (true≢false (sym w))
opens s a (Q.Low t) K w = absurd (true≢false (sym w))
opens s a (Q.Named t b n) K w = absurd (true≢false (sym w))
opens s a (Q.Closed vs) K w = absurd (true≢false (sym w))

-- a whole type is read there
whole_type : (t : TypeText) (ls : List Lexeme) → YG.IsType t ls → (p : TypePoint) (K : List TypeFrame) → Y.is_type_wanted p ≡ true → (h : TypeSoFar) × (Y.step_all ls (Y.at p K) ≡ Y.at (Q.Have h) K)
whole_type t ls d Q.Want K w = let r = YS.read_type t ls d in (r.0, r.2 K)
whole_type t ls d Q.First K w = let r = YS.read_type t ls d in
    (r.0, starts_alike ls (starts_type t ls d) (Y.at Q.First K) (Y.at Q.Next K) (first_as_next K) ∙ starts_alike ls (starts_type t ls d) (Y.at Q.Next K) (Y.at Q.Want K) (next_as_want K) ∙ r.2 K)
whole_type t ls d Q.Next K w = let r = YS.read_type t ls d in (r.0, starts_alike ls (starts_type t ls d) (Y.at Q.Next K) (Y.at Q.Want K) (next_as_want K) ∙ r.2 K)
whole_type t ls d Q.Variable K w = absurd (true≢false (sym w))
whole_type t ls d (Q.Have h) K w = absurd (true≢false (sym w))
whole_type t ls d Q.Where K w = absurd (true≢false (sym w))
whole_type t ls d (Q.Low u) K w = absurd (true≢false (sym w))
whole_type t ls d (Q.Named u b n) K w = absurd (true≢false (sym w))
whole_type t ls d (Q.Closed vs) K w = absurd (true≢false (sym w))

-- a name is
name_goes : (p : TypePoint) (K : List TypeFrame) → Y.is_type_wanted p ≡ true → (n : List ℕ) (a : ℕ) → Y.step_at (S.Name n) a p K ≡ Y.at (Q.Have (Plain a n)) K
name_goes Q.Want K w n a = refl
name_goes Q.First K w n a = refl
name_goes Q.Next K w n a = refl
name_goes Q.Variable K w n a = absurd (true≢false (sym w))
name_goes (Q.Have h) K w n a = absurd (true≢false (sym w))
name_goes Q.Where K w n a = absurd (true≢false (sym w))
name_goes (Q.Low t) K w n a = absurd (true≢false (sym w))
name_goes (Q.Named t b m) K w n a = absurd (true≢false (sym w))
name_goes (Q.Closed vs) K w n a = absurd (true≢false (sym w))

named_at : (p : TypePoint) (K : List TypeFrame) → Y.is_type_wanted p ≡ true → SettledAt p K → IsNamed K
named_at Q.Want K w s = s
named_at Q.First K w s = s
named_at Q.Next K w s = s
named_at Q.Variable K w s = absurd (true≢false (sym w))
named_at (Q.Have h) K w s = absurd (true≢false (sym w))
named_at Q.Where K w s = absurd (true≢false (sym w))
named_at (Q.Low t) K w s = absurd (true≢false (sym w))
named_at (Q.Named t b m) K w s = absurd (true≢false (sym w))
named_at (Q.Closed vs) K w s = absurd (true≢false (sym w))

-- ---- turns that do not go on

abbrev IsGoes : Turn → Type 0
IsGoes (T.Goes y) = Unit {0}
IsGoes t = ⊥

end_of_variable_stops : (v : Option (Deep VarText)) (K : List TypeFrame) → IsGoes (Y.end_of_variable v K) → ⊥
end_of_variable_stops (Some v) [] i = i
end_of_variable_stops (Some v) (k ∷ K) i = i
end_of_variable_stops None K i = i

end_of_type_stops : (h : TypeSoFar) (K : List TypeFrame) → IsGoes (Y.end_of_type h K) → ⊥
end_of_type_stops h [] i = i
end_of_type_stops h (Variable v One ∷ K) i = end_of_variable_stops (Y.variable v h) K i
end_of_type_stops h K i = i

closed_stops : (vs : Deep (List VarText)) (K : List TypeFrame) → IsGoes (Y.end_of_variables vs K) → ⊥
closed_stops vs [] i = i
closed_stops vs (k ∷ K) i = i

-- `>:` is not of a type behind which no variable's name may stand
not_raised : (a : ℕ) (n : List ℕ) (K : List TypeFrame) → IsNamed K → Y.after_supertype (Plain a n) K ≡ Y.end_of_type (Plain a n) K
not_raised a n (Variable B.First l ∷ K) i = absurd i
not_raised a n K i = refl

end_stops : (a : ℕ) (p : TypePoint) (K : List TypeFrame) → IsGoes (Y.step_at S.End a p K) → ⊥
end_stops a Q.Want K i = i
end_stops a Q.First K i = i
end_stops a Q.Next K i = i
end_stops a Q.Variable K i = i
end_stops a (Q.Have h) K i = end_of_type_stops h K i
end_stops a Q.Where K i = i
end_stops a (Q.Low t) K i = i
end_stops a (Q.Named t b n) K i = i
end_stops a (Q.Closed vs) K i = closed_stops vs K i

not_end : (s : Terminal) (a : ℕ) (p : TypePoint) (K : List TypeFrame) → IsGoes (Y.step_at s a p K) → is_end s ≡ false
not_end S.End a p K i = absurd (end_stops a p K i)
not_end _ a p K i = refl

-- ---- a text that a type's reading takes, within the reading of a script

stays : (us : Text) (v : Turn) → (IsGoes v → ⊥) → IsGoes (Y.step_all (lexemes us) v) → ⊥
stays [] v n i = n i
stays (u ∷ us) (T.Goes y) n i = absurd (n tt)
stays (u ∷ us) (T.Type t) n i = stays us T.Wrong (λ x. x) i
stays (u ∷ us) (T.Variables vs) n i = stays us T.Wrong (λ x. x) i
stays (u ∷ us) T.Wrong n i = stays us T.Wrong (λ x. x) i

abbrev state_of : TypeState → Turn → TypeState
state_of y (T.Goes z) = z
state_of y t = y

goes_is : (v : Turn) (z : TypeState) → v ≡ T.Goes z → IsGoes v
goes_is v z e = subst IsGoes (sym e) tt

taken_on : (q : TypeState → Option State) (f : Marked → Turn → Option State) → ((u : Marked) (y : TypeState) → f u (T.Goes y) ≡ q y) → (us : Text) (u : Marked) (v : Turn) (z : TypeState) →
    ((y : TypeState) → Y.step_all (lexemes us) (T.Goes y) ≡ T.Goes z → (step_all us (q y) ≡ q z) × NoEnd us) → Y.step_all (lexemes us) v ≡ T.Goes z → IsGoes v × (step_all us (f u v) ≡ q z) × NoEnd us
taken_on q f on us u (T.Goes y) z again e = let r = again y e in (tt, ap (step_all us) (on u y) ∙ r.0, r.1)
taken_on q f on us u (T.Type t) z again e = absurd (stays us (T.Type t) (λ x. x) (goes_is (Y.step_all (lexemes us) (T.Type t)) z e))
taken_on q f on us u (T.Variables vs) z again e = absurd (stays us (T.Variables vs) (λ x. x) (goes_is (Y.step_all (lexemes us) (T.Variables vs)) z e))
taken_on q f on us u T.Wrong z again e = absurd (stays us T.Wrong (λ x. x) (goes_is (Y.step_all (lexemes us) T.Wrong) z e))

taken : (q : TypeState → Option State) (f : Marked → Turn → Option State) → ((u : Marked) (y : TypeState) → step u (q y) ≡ f u (Y.step_at u.lexeme.terminal u.lexeme.at y.point y.stack)) →
    ((u : Marked) (y : TypeState) → f u (T.Goes y) ≡ q y) → (us : Text) (y z : TypeState) → Y.step_all (lexemes us) (T.Goes y) ≡ T.Goes z → (step_all us (q y) ≡ q z) × NoEnd us
taken q f by on [] y z e = (ap (λ v. q (state_of y v)) e, tt)
taken q f by on (u ∷ us) y z e =
    let v : Turn = Y.step_at u.lexeme.terminal u.lexeme.at y.point y.stack in
    let r = taken_on q f on us u v z (λ x h. taken q f by on us x z h) e in
    (ap (step_all us) (by u y) ∙ r.1, (not_end u.lexeme.terminal u.lexeme.at y.point y.stack r.0, r.2))

-- ---- tokens that follow no type, in any form that a type ends

-- a name and `>:`
data IsForeign : Terminal → Type 0 where
  a_name : (n : List ℕ) → IsForeign (S.Name n)
  a_bound : IsForeign (S.Operator o.Supertype)

header_stops : (k : Bool) (s : Terminal) → IsForeign s → (h : Form Header) (K : List Frame) (xs : ItemsRead) → MC.token_after_header k s h K xs ≡ None
header_stops true _ (a_name n) h K xs = refl
header_stops true _ a_bound h K xs = refl
header_stops false _ (a_name n) h K xs = refl
header_stops false _ a_bound h K xs = refl

type_stops : (s : Terminal) → IsForeign s → (b : ℕ) (g : Goal) (t : TypeForm) (K : List Frame) (xs : ItemsRead) → MC.token_after_type s b g t K xs ≡ None
type_stops _ (a_name n) b (G.Isa p e) t K xs = refl
type_stops _ (a_name n) b (G.Left p a) t K xs = refl
type_stops _ (a_name n) b (G.Right p a l) t K xs = refl
type_stops _ (a_name n) b (G.Make p a) t K xs = refl
type_stops _ (a_name n) b (G.Delete p a m) t K xs = refl
type_stops _ (a_name n) b (G.Param h x a) t K xs = refl
type_stops _ (a_name n) b (G.Parent d) t K xs = header_stops d.is_struct (S.Name n) (a_name n) _ K xs
type_stops _ (a_name n) b (G.Field f m) t K xs = refl
type_stops _ a_bound b (G.Isa p e) t K xs = refl
type_stops _ a_bound b (G.Left p a) t K xs = refl
type_stops _ a_bound b (G.Right p a l) t K xs = refl
type_stops _ a_bound b (G.Make p a) t K xs = refl
type_stops _ a_bound b (G.Delete p a m) t K xs = refl
type_stops _ a_bound b (G.Param h x a) t K xs = refl
type_stops _ a_bound b (G.Parent d) t K xs = header_stops d.is_struct (S.Operator o.Supertype) a_bound _ K xs
type_stops _ a_bound b (G.Field f m) t K xs = refl

-- a turn that does not go on, with such a token
type_over : (v : Turn) → (IsGoes v → ⊥) → (s : Terminal) → IsForeign s → (b : ℕ) (g : Goal) (K : List Frame) (xs : ItemsRead) → MC.type_step v s b g K xs ≡ None
type_over (T.Goes y) n s f b g K xs = absurd (n tt)
type_over (T.Type t) n s f b g K xs = type_stops s f b g _ K xs
type_over (T.Variables vs) n s f b g K xs = refl
type_over T.Wrong n s f b g K xs = refl

token_after_params_stops : (s : Terminal) → IsForeign s → (d : Declaring) (K : List Frame) (xs : ItemsRead) → MC.token_after_params s d K xs ≡ None
token_after_params_stops _ (a_name n) d K xs = header_stops d.is_struct (S.Name n) (a_name n) _ K xs
token_after_params_stops _ a_bound d K xs = header_stops d.is_struct (S.Operator o.Supertype) a_bound _ K xs

params_over : (v : Turn) → (IsGoes v → ⊥) → (s : Terminal) → IsForeign s → (d : Declaring) (K : List Frame) (xs : ItemsRead) → MC.params_turn v s d K xs ≡ None
params_over (T.Goes y) n s f d K xs = absurd (n tt)
params_over (T.Type t) n s f d K xs = refl
params_over (T.Variables vs) n s f d K xs = token_after_params_stops s f _ K xs
params_over T.Wrong n s f d K xs = refl

-- behind the variables of a method no bound follows; and either `;` may, or no name may
bound_stops : (k : Bool) (m : Marks) (a : ℕ) (l : Place) (h : Form Head) (K : List Frame) (xs : ItemsRead) → MC.token_after_head k (S.Operator o.Supertype) m a l h K xs ≡ None
bound_stops true m a l h K xs = refl
bound_stops false m a l h K xs = refl

where_over : (v : Turn) → (IsGoes v → ⊥) → (m : Marks) (a : ℕ) (h : Heading) (K : List Frame) (xs : ItemsRead) → MC.where_turn v (S.Operator o.Supertype) m a h K xs ≡ None
where_over (T.Goes y) n m a h K xs = absurd (n tt)
where_over (T.Type t) n m a h K xs = refl
where_over (T.Variables vs) n m a h K xs = bound_stops h.start.long m a h.start.place _ K xs
where_over T.Wrong n m a h K xs = refl

body_or_none : (k : Bool) (m : Marks) (a : ℕ) (l : Place) (h : Form Head) (K : List Frame) (xs : ItemsRead) →
    IsSome (MC.token_after_head k (S.Operator o.Semicolon) m a l h K xs) ⊎ (MC.token_after_head k (S.Name []) m a l h K xs ≡ None)
body_or_none true m a l h K xs = inl tt
body_or_none false m a l h K xs = inr refl

where_or_none : (v : Turn) → (IsGoes v → ⊥) → (m : Marks) (a : ℕ) (h : Heading) (K : List Frame) (xs : ItemsRead) →
    IsSome (MC.where_turn v (S.Operator o.Semicolon) m a h K xs) ⊎ (MC.where_turn v (S.Name []) m a h K xs ≡ None)
where_or_none (T.Goes y) n m a h K xs = absurd (n tt)
where_or_none (T.Type t) n m a h K xs = inr refl
where_or_none (T.Variables vs) n m a h K xs = body_or_none h.start.long m a h.start.place _ K xs
where_or_none T.Wrong n m a h K xs = inr refl

-- ---- where the machine says so, a type must stand

-- what is asked of a form that is read around a type
record Around (q : TypeState → Option State) : Type 0 where
  turn : Marked → Turn → Option State
  by : (u : Marked) (y : TypeState) → step u (q y) ≡ turn u (Y.step_at u.lexeme.terminal u.lexeme.at y.point y.stack)
  on : (u : Marked) (y : TypeState) → turn u (T.Goes y) ≡ q y
  wrong : (u : Marked) → turn u T.Wrong ≡ None
  over : (v : Turn) → (IsGoes v → ⊥) → (q : Spot) → turn (opr o.Supertype q) v ≡ None

around_type : (g : Goal) (K : List Frame) (xs : ItemsRead) → Around (λ y. at (P.Type g y) K xs)
around_type g K xs = record {
  turn = λ u v. MC.type_step v u.lexeme.terminal u.lexeme.at g K xs;
  by = λ u y. refl;
  on = λ u y. refl;
  wrong = λ u. refl;
  over = λ v n q. type_over v n (S.Operator o.Supertype) a_bound q.at g K xs;
}

around_where : (h : Heading) (K : List Frame) (xs : ItemsRead) → Around (λ y. at (P.Where h y) K xs)
around_where h K xs = record {
  turn = λ u v. MC.where_turn v u.lexeme.terminal u.marks u.lexeme.at h K xs;
  by = λ u y. refl;
  on = λ u y. refl;
  wrong = λ u. refl;
  over = λ v n q. where_over v n q.marks q.at h K xs;
}

around_params : (d : Declaring) (K : List Frame) (xs : ItemsRead) → Around (λ y. at (P.Params d y) K xs)
around_params d K xs = record {
  turn = λ u v. MC.params_turn v u.lexeme.terminal d K xs;
  by = λ u y. refl;
  on = λ u y. refl;
  wrong = λ u. refl;
  over = λ v n q. params_over v n (S.Operator o.Supertype) a_bound d K xs;
}

first_or_none : (q : TypeState → Option State) → Around q → (y : TypeState) → Y.is_type_wanted y.point ≡ true → (t : Marked) → IsFirst t.lexeme ⊎ (step_all (t ∷ []) (q y) ≡ None)
first_or_none q a y w t = chosen (opens t.lexeme.terminal t.lexeme.at y.point y.stack w)
  where
    chosen : Opens t.lexeme.terminal t.lexeme.at y.point y.stack → IsFirst t.lexeme ⊎ (step_all (t ∷ []) (q y) ≡ None)
    chosen (inl f) = inl f
    chosen (inr e) = inr (a.by t y ∙ ap (a.turn t) e ∙ a.wrong t)

no_bound : (q : TypeState → Option State) → Around q → (y : TypeState) → Y.is_type_wanted y.point ≡ true → SettledAt y.point y.stack → (n : List ℕ) (x z : Spot) →
    step_all (nam n x ∷ opr o.Supertype z ∷ []) (q y) ≡ None
no_bound q a y w s n x z =
    let h : TypeState = record { point = Q.Have (Plain x.at n); stack = y.stack } in
    ap (step (opr o.Supertype z)) (a.by (nam n x) y ∙ ap (a.turn (nam n x)) (name_goes y.point y.stack w n x.at) ∙ a.on (nam n x) h)
    ∙ a.by (opr o.Supertype z) h
    ∙ ap (a.turn (opr o.Supertype z)) (not_raised x.at n y.stack (named_at y.point y.stack w s))
    ∙ a.over (Y.end_of_type (Plain x.at n) y.stack) (end_of_type_stops (Plain x.at n) y.stack) z

some_is : (o : Option State) (s : State) → o ≡ Some s → IsSome o
some_is None s e = absurd (none_is_some s e)
some_is (Some r) s e = tt

must_at : (q : TypeState → State) → Around (λ y. Some (q y)) → (y : TypeState) → Y.is_type_wanted y.point ≡ true → SettledAt y.point y.stack → (ts : Text) → NoEnd ts → step_all ts start ≡ Some (q y) → TypeMust ts
must_at q a y w s ts n e = record {
  each = λ t us d.
      let r = whole_type t (lexemes us) d y.point y.stack w in
      let g = taken (λ x. Some (q x)) a.turn a.by a.on us y (record { point = Q.Have r.0; stack = y.stack }) r.1 in
      can ts us (q y) n g.1 e (some_is (step_all us (Some (q y))) _ g.0);
  only = λ t b. allowed t b (first_or_none (λ x. Some (q x)) a y w t);
  no_variable = λ m x z b. cannot ts (nam m x ∷ opr o.Supertype z ∷ []) (q y) e (no_bound (λ x. Some (q x)) a y w s m x z) b;
}
  where
    allowed : (t : Marked) → Begins (ts ++ t ∷ []) → IsFirst t.lexeme ⊎ (step_all (t ∷ []) (Some (q y)) ≡ None) → IsFirst t.lexeme
    allowed t b (inl f) = f
    allowed t b (inr h) = absurd (cannot ts (t ∷ []) (q y) e h b)

must_by : (p : Point) (K : List Frame) (xs : ItemsRead) (ts : Text) → NoEnd ts → step_all ts start ≡ at p K xs → is_type_wanted p ≡ true → SettledPoint p → TypeMust ts
must_by (P.Type g y) K xs ts n e w s = must_at (λ x. record { point = P.Type g x; stack = K; script = xs }) (around_type g K xs) y w s ts n e
must_by (P.Where h y) K xs ts n e w s = must_at (λ x. record { point = P.Where h x; stack = K; script = xs }) (around_where h K xs) y w s ts n e
must_by (P.Params d y) K xs ts n e w s = must_at (λ x. record { point = P.Params d x; stack = K; script = xs }) (around_params d K xs) y w s ts n e
must_by p K xs ts n e w s = absurd (true≢false (sym w))

pub type_must : (ts : Text) (s : State) → NoEnd ts → step_all ts start ≡ Some s → is_type_wanted s.point ≡ true → TypeMust ts
type_must ts s n e w = must_by s.point s.stack s.script ts n e w (subst Settled e (settled_all ts))

-- ---- and where it does not, none must

-- the innermost form is a variable of which nothing was read
abbrev InVariable : List TypeFrame → Type 0
InVariable (Variable B.First l ∷ K) = Unit {0}
InVariable K = ⊥

abbrev InVariableAt : TypePoint → List TypeFrame → Type 0
InVariableAt Q.Variable K = InVariable K
InVariableAt p K = Unit {0}

stack_of : (g : YK.Goal) (p : TypePoint) (K : List TypeFrame) (ls : List Lexeme) → YK.Has g p K ls → InVariableAt p K
stack_of _ _ _ _ (YK.has_want g k ts o) = tt
stack_of _ _ _ _ (YK.has_variable g l k ts p) = tt
stack_of _ _ _ _ (YK.has_first g k ts a n b o) = tt
stack_of _ _ _ _ (YK.has_next g k ts us a n b xs o p) = tt
stack_of _ _ _ _ (YK.has_have g k ts us h o d) = tt
stack_of _ _ _ _ (YK.has_where g k ts l) = tt
stack_of _ _ _ _ (YK.has_low g l k ts us t b p d) = tt
stack_of _ _ _ _ (YK.has_named g l k ts us t b a n p d) = tt
stack_of _ _ _ _ (YK.has_closed g k ts us b e vs l d) = tt

abbrev VariableAt : Point → Type 0
VariableAt (P.Type g y) = InVariableAt y.point y.stack
VariableAt (P.Where h y) = InVariableAt y.point y.stack
VariableAt (P.Params d y) = InVariableAt y.point y.stack
VariableAt p = Unit {0}

has_variable : (p : Point) (K : List Frame) (xs : ItemsRead) (ts : Text) → Has p K xs ts → VariableAt p
has_variable _ _ _ _ (has_entry K xs ts h o) = tt
has_variable _ _ _ _ (has_bound m q K xs ts o h) = tt
has_variable _ _ _ _ (has_returned q k ss K xs ts o h) = tt
has_variable _ _ _ _ (has_want p K xs d ts us l ls st) = tt
has_variable _ _ _ _ (has_first_paren p a K xs ts o) = tt
has_variable _ _ _ _ (has_first_args p a f K xs d ts us vs l ls st c) = tt
has_variable _ _ _ _ (has_first_print p a f K xs d ts us vs l ls st c) = tt
has_variable _ _ _ _ (has_again p q y e K xs d ts us vs l ls st m x) = tt
has_variable _ _ _ _ (has_piece p a l ps K xs ts o) = tt
has_variable _ _ _ _ (has_texted p a f ps K xs d ts us vs ws l ls st m c) = tt
has_variable _ _ _ _ (has_have p e K xs d ts us vs l ls st a) = tt
has_variable _ _ _ _ (has_dot p e q K xs d ts us vs l ls st a) = tt
has_variable _ _ _ _ (has_index p e q K xs d ts us vs l ls st a) = tt
has_variable _ _ _ _ (has_indexed p e m q y K xs d ts us vs l ls st a h) = tt
has_variable _ _ _ _ (has_due p a x K xs d ts us vs l ls st c) = tt
has_variable _ _ _ _ (has_quoted p ys v K xs ts us q o b) = tt
has_variable _ _ _ _ (has_deleting p a f K xs d ts us vs l ls st c) = tt
has_variable _ _ _ _ (has_deleted p a f t q y K xs d ts us vs ws l ls st c i) = tt
has_variable _ _ _ _ (has_after_eval p q K xs d ts us l ls st) = tt
has_variable _ _ _ _ (has_function g K xs ts t) = tt
has_variable _ _ _ _ (has_named g c m q K xs ts t k) = tt
has_variable _ _ _ _ (has_dotted g c q w K xs ts t k) = tt
has_variable _ _ _ _ (has_colon g c q w v K xs ts t k) = tt
has_variable _ _ _ _ (has_known g c f K xs ts us t k m) = tt
has_variable _ _ _ _ (has_first_param y f c q K xs ts us t m k) = tt
has_variable _ _ _ _ (has_next_param h K xs ts t) = tt
has_variable _ _ _ _ (has_param h m q K xs ts t) = tt
has_variable _ _ _ _ (has_headed h K xs ts t) = tt
has_variable _ _ _ _ (has_where h y K xs ts us t x) = stack_of YK.a_where y.point y.stack (lexemes us) x
has_variable _ _ _ _ (has_type g c y K xs ts us t f x) = stack_of YK.a_type y.point y.stack (lexemes us) x
has_variable _ _ _ _ (has_abstract q xs ts b) = tt
has_variable _ _ _ _ (has_decl_name k a xs ts us b d) = tt
has_variable _ _ _ _ (has_declared k a m q xs ts us b d) = tt
has_variable _ _ _ _ (has_params k a m q y xs ts us vs b d x) = stack_of YK.a_header y.point y.stack (lexemes vs) x
has_variable _ _ _ _ (has_fields f xs ts t) = tt
has_variable _ _ _ _ (has_field f m q xs ts t) = tt
has_variable _ _ _ _ (has_made x xs ts us b i) = tt
has_variable _ _ _ _ (has_made_method m K xs ts us h o x) = tt

variable_in : (o : Option State) (s : State) (ts : Text) → o ≡ Some s → HasSome o ts → VariableAt s.point
variable_in None s ts e h = absurd (none_is_some s e)
variable_in (Some r) s ts e h = has_variable s.point s.stack s.script ts (subst (λ x. HasSome x ts) e h)

-- a point where no type must stand: another token may follow, or not each type may, or a variable with its bound may
data Differs : Option State → Type 0 where
  by_token : (q : Option State) (t : Marked) → is_end t.lexeme.terminal ≡ false → first_terminal t.lexeme.terminal ≡ false → IsSome (step_all (t ∷ []) q) → Differs q
  by_type : (q : Option State) (t : TypeText) (us : Text) → IsType t us → step_all us q ≡ None → Differs q
  by_variable : (q : Option State) → IsSome (step_all (nam [] nowhere ∷ opr o.Supertype nowhere ∷ []) q) → Differs q

-- not each name may follow, or not each type in brackets
no_name : (q : Option State) → step_all (nam [] nowhere ∷ []) q ≡ None → Differs q
no_name q e = by_type q (X.Name 0 []) (nam [] nowhere ∷ []) (YG.plain 0 []) e

no_brackets : (q : Option State) → step_all (opr o.OpenParen nowhere ∷ nam [] nowhere ∷ opr o.CloseParen nowhere ∷ []) q ≡ None → Differs q
no_brackets q e = by_type q (W.Paren 0 (X.Name 0 []) []) (opr o.OpenParen nowhere ∷ nam [] nowhere ∷ opr o.CloseParen nowhere ∷ []) (YG.paren 0 0 (X.Name 0 []) (name 0 [] ∷ []) (YG.plain 0 [])) e

-- a number, `;` and `{` are no first tokens
number_step_all : (q : Option State) → IsSome (step_all (tok (S.Number (pos 1)) nowhere ∷ []) q) → Differs q
number_step_all q i = by_token q (tok (S.Number (pos 1)) nowhere) refl refl i

semicolon_step_all : (q : Option State) → IsSome (step_all (opr o.Semicolon nowhere ∷ []) q) → Differs q
semicolon_step_all q i = by_token q (opr o.Semicolon nowhere) refl refl i

brace_step_all : (q : Option State) → IsSome (step_all (opr o.OpenBrace nowhere ∷ []) q) → Differs q
brace_step_all q i = by_token q (opr o.OpenBrace nowhere) refl refl i

type_differs : (g : Goal) (p : TypePoint) (k : List TypeFrame) (K : List Frame) (xs : ItemsRead) → InVariableAt p k → Y.is_type_wanted p ≡ false → Differs (at (P.Type g (record { point = p; stack = k })) K xs)
type_differs g Q.Want k K xs v w = absurd (true≢false w)
type_differs g Q.First k K xs v w = absurd (true≢false w)
type_differs g Q.Next k K xs v w = absurd (true≢false w)
type_differs g Q.Variable [] K xs v w = absurd v
type_differs g Q.Variable (Variable B.First l ∷ k) K xs v w = by_variable _ tt
type_differs g Q.Variable (f ∷ k) K xs v w = absurd v
type_differs g (Q.Have h) k K xs v w = no_name _ (type_over (Y.end_of_type h k) (end_of_type_stops h k) (S.Name []) (a_name []) 0 g K xs)
type_differs g Q.Where k K xs v w = brace_step_all _ tt
type_differs g (Q.Low t) k K xs v w = no_brackets _ refl
type_differs g (Q.Named t b n) k K xs v w = no_name _ refl
type_differs g (Q.Closed vs) k K xs v w = no_name _ (type_over (Y.end_of_variables vs k) (closed_stops vs k) (S.Name []) (a_name []) 0 g K xs)

params_differs : (d : Declaring) (p : TypePoint) (k : List TypeFrame) (K : List Frame) (xs : ItemsRead) → InVariableAt p k → Y.is_type_wanted p ≡ false → Differs (at (P.Params d (record { point = p; stack = k })) K xs)
params_differs d Q.Want k K xs v w = absurd (true≢false w)
params_differs d Q.First k K xs v w = absurd (true≢false w)
params_differs d Q.Next k K xs v w = absurd (true≢false w)
params_differs d Q.Variable [] K xs v w = absurd v
params_differs d Q.Variable (Variable B.First l ∷ k) K xs v w = by_variable _ tt
params_differs d Q.Variable (f ∷ k) K xs v w = absurd v
params_differs d (Q.Have h) k K xs v w = no_name _ (params_over (Y.end_of_type h k) (end_of_type_stops h k) (S.Name []) (a_name []) d K xs)
params_differs d Q.Where k K xs v w = brace_step_all _ tt
params_differs d (Q.Low t) k K xs v w = no_brackets _ refl
params_differs d (Q.Named t b n) k K xs v w = no_name _ refl
params_differs d (Q.Closed vs) k K xs v w = no_name _ (params_over (Y.end_of_variables vs k) (closed_stops vs k) (S.Name []) (a_name []) d K xs)

-- behind a `where`, by what the token over its variables makes of it
where_either : (q : Option State) → IsSome (step_all (opr o.Semicolon nowhere ∷ []) q) ⊎ (step_all (nam [] nowhere ∷ []) q ≡ None) → Differs q
where_either q (inl i) = semicolon_step_all q i
where_either q (inr e) = no_name q e

where_differs : (h : Heading) (p : TypePoint) (k : List TypeFrame) (K : List Frame) (xs : ItemsRead) → InVariableAt p k → Y.is_type_wanted p ≡ false → Differs (at (P.Where h (record { point = p; stack = k })) K xs)
where_differs h Q.Want k K xs v w = absurd (true≢false w)
where_differs h Q.First k K xs v w = absurd (true≢false w)
where_differs h Q.Next k K xs v w = absurd (true≢false w)
where_differs h Q.Variable [] K xs v w = absurd v
where_differs h Q.Variable (Variable B.First l ∷ k) K xs v w = by_variable _ tt
where_differs h Q.Variable (f ∷ k) K xs v w = absurd v
where_differs h (Q.Have g) k K xs v w = where_either _ (where_or_none (Y.end_of_type g k) (end_of_type_stops g k) nowhere.marks 0 h K xs)
where_differs h Q.Where k K xs v w = brace_step_all _ tt
where_differs h (Q.Low t) k K xs v w = no_brackets _ refl
where_differs h (Q.Named t b n) k K xs v w = no_name _ refl
where_differs h (Q.Closed vs) k K xs v w = where_either _ (where_or_none (Y.end_of_variables vs k) (closed_stops vs k) nowhere.marks 0 h K xs)

headed_differs : (h : Heading) (K : List Frame) (xs : ItemsRead) → IsSome (step_all (opr o.Semicolon nowhere ∷ []) (at (P.Headed h) K xs)) ⊎ (step_all (nam [] nowhere ∷ []) (at (P.Headed h) K xs) ≡ None)
headed_differs h K xs = body_or_none h.start.long nowhere.marks 0 h.start.place _ K xs

due_differs : (p : Pending) (b : ℕ) (d : Due) (K : List Frame) (xs : ItemsRead) → Differs (at (P.Due p b d) K xs)
due_differs p b D.LatestName K xs = no_brackets _ refl
due_differs p b D.DeleteName K xs = no_brackets _ refl
due_differs p b D.WhichName K xs = no_brackets _ refl
due_differs p b D.SpawnDot K xs = no_name _ refl
due_differs p b D.SpawnMacro K xs = no_name _ refl
due_differs p b D.LatestDot K xs = no_name _ refl
due_differs p b D.LatestOpen K xs = no_name _ refl
due_differs p b D.DeleteDot K xs = no_name _ refl
due_differs p b D.DeleteOpen K xs = no_name _ refl
due_differs p b D.WhichWord K xs = no_name _ refl
due_differs p b D.WhichOpen K xs = no_name _ refl
due_differs p b D.FetchOpen K xs = no_name _ refl
due_differs p b (D.PrintOpen l) K xs = no_name _ refl
due_differs p b D.QuoteOpen K xs = no_name _ refl
due_differs p b D.QuoteWord K xs = no_name _ refl

declared_name : (d : Declaring) (K : List Frame) (xs : ItemsRead) → step_all (nam [] nowhere ∷ []) (at (P.Declared d) K xs) ≡ None
declared_name d K xs = token_after_params_stops (S.Name []) (a_name []) d K xs

differs : (p : Point) (K : List Frame) (xs : ItemsRead) → VariableAt p → is_type_wanted p ≡ false → Differs (at p K xs)
differs P.Entry K xs v w = semicolon_step_all _ tt
differs (P.Bound n) K xs v w = no_name _ refl
differs (P.Returned b) K xs v w = number_step_all _ tt
differs (P.Want p) K xs v w = number_step_all _ tt
differs (P.First r) K xs v w = number_step_all _ tt
differs (P.Again r) K xs v w = number_step_all _ tt
differs (P.Piece r) K xs v w = number_step_all _ tt
differs P.Texted K xs v w = no_name _ refl
differs (P.Have p e) K xs v w = no_name _ refl
differs (P.Dot p e) K xs v w = no_brackets _ refl
differs (P.Index p e) K xs v w = no_name _ refl
differs (P.Indexed p e n) K xs v w = no_name _ refl
differs (P.Due p b d) K xs v w = due_differs p b d K xs
differs (P.Deleting p b n) K xs v w = no_name _ refl
differs (P.Ending p e) K xs v w = no_name _ refl
differs (P.AfterEval p b) K xs v w = number_step_all _ tt
differs (P.Function g) K xs v w = no_brackets _ refl
differs (P.Named g n) K xs v w = no_name _ refl
differs (P.Dotted g b) K xs v w = no_brackets _ refl
differs (P.Colon g b) K xs v w = no_name _ refl
differs (P.Known g f) K xs v w = no_name _ refl
differs (P.FirstParam h) K xs v w = no_brackets _ refl
differs (P.NextParam h) K xs v w = no_brackets _ refl
differs (P.Param h n) K xs v w = no_name _ refl
differs (P.Headed h) K xs v w = where_either _ (headed_differs h K xs)
differs (P.Where h y) K xs v w = where_differs h y.point y.stack K xs v w
differs (P.Type g y) K xs v w = type_differs g y.point y.stack K xs v w
differs (P.AbstractWord b) K xs v w = no_brackets _ refl
differs (P.DeclName b k) K xs v w = no_brackets _ refl
differs (P.Declared d) K xs v w = no_name _ (declared_name d K xs)
differs (P.Params d y) K xs v w = params_differs d y.point y.stack K xs v w
differs (P.Fields f) K xs v w = no_brackets _ refl
differs (P.Field f n) K xs v w = no_name _ refl
differs (P.Made x) K xs v w = no_name _ refl
differs (P.MadeMethod x) K xs v w = no_name _ refl

-- no type must stand where a point differs
not_must : (ts : Text) (s : State) → NoEnd ts → step_all ts start ≡ Some s → Differs (Some s) → TypeMust ts → ⊥
not_must ts s n e (by_token _ t m f i) h = true≢false (sym (first_is t.lexeme (h.only t (can ts (t ∷ []) s n (m, tt) e i))) ∙ f)
not_must ts s n e (by_type _ t us d i) h = cannot ts us s e i (h.each t us d)
not_must ts s n e (by_variable _ i) h = h.no_variable [] nowhere nowhere (can ts (nam [] nowhere ∷ opr o.Supertype nowhere ∷ []) s n (refl, (refl, tt)) e i)

decided : (b : Bool) → (b ≡ false → ⊥) → b ≡ true
decided true n = refl
decided false n = absurd (n refl)

pub must_type : (ts : Text) (s : State) → NoEnd ts → step_all ts start ≡ Some s → TypeMust ts → is_type_wanted s.point ≡ true
must_type ts s n e h = decided (is_type_wanted s.point) (λ w. not_must ts s n e (differs s.point s.stack s.script (variable_in (step_all ts start) s ts e (has_all ts n)) w) h)
