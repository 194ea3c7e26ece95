-- What is read so far is in the grammar: the text that a state stands for, and that each token that a state takes belongs to
-- the text of the next one.
use Rattle.std.proofs.Common.{ℕ, List, [], ◌∷◌, ◌++◌, ◌≡◌, Option, Some, None, refl, sym, ap, subst, ◌∙◌}
use Rattle.std.proofs.lemmas.List.{append_assoc, append-nil}
use Rattle.jl_token.specs.declared.token.Operator.TheVariants as op
use Rattle.jl_typeread.specs.declared.terminal.Word.TheVariants as words
use Rattle.jl_typeread.specs.declared.terminal.Terminal.{Terminal}
use Rattle.jl_typeread.specs.declared.terminal.Terminal.TheVariants as S
use Rattle.jl_typeread.specs.declared.terminal.Lexeme.{Lexeme}
use Rattle.jl_typeread.specs.declared.tree.TypeText.{TypeText}
use Rattle.jl_typeread.specs.declared.tree.ArgText.{ArgText}
use Rattle.jl_typeread.specs.declared.tree.VarText.{VarText}
use Rattle.jl_typeread.specs.declared.tree.TypeText.TheVariants as T
use Rattle.jl_typeread.specs.declared.tree.VarText.TheVariants as V
use Rattle.jl_typeread.specs.declared.tree.ArgText.TheViews as W
use Rattle.jl_typeread.specs.declared.deep.Deep.{Deep}
use Rattle.jl_typeread.specs.declared.deep.Mark.{Mark}
use Rattle.jl_typeread.specs.declared.deep.Mark.TheVariants as marks
use Rattle.jl_typeread.specs.declared.state.TypeSoFar.{TypeSoFar}
use Rattle.jl_typeread.specs.declared.state.TypeSoFar.TheVariants.{Plain, Whole}
use Rattle.jl_typeread.specs.declared.state.Bound.{Bound}
use Rattle.jl_typeread.specs.declared.state.Bound.TheVariants as B
use Rattle.jl_typeread.specs.declared.state.Enclosure.{Enclosure}
use Rattle.jl_typeread.specs.declared.state.Enclosure.TheVariants.{One, Braces}
use Rattle.jl_typeread.specs.declared.state.Frame.{Frame}
use Rattle.jl_typeread.specs.declared.state.Frame.TheVariants as K
use Rattle.jl_typeread.specs.declared.state.Point.{Point}
use Rattle.jl_typeread.specs.declared.state.Point.TheVariants as P
use Rattle.jl_typeread.specs.declared.state.Turn.{Turn}
use Rattle.jl_typeread.specs.declared.state.Turn.TheVariants.{Goes, Wrong}
use Rattle.jl_typeread.specs.declared.state.Turn.TheVariants as turn
use Rattle.jl_typeread.specs.Depth.{held_type, held_arguments, held_variable, held_variables, no_arguments, no_variables, argument, with_argument, with_variable, below_bound, above_bound, between_bound}
use Rattle.jl_typeread.specs.Depth as D
use Rattle.jl_typeread.specs.Grammar.{name, mark, word, IsType, IsArguments, IsArgument, IsWhere, IsVariables, IsVariable, IsHeader}
use Rattle.jl_typeread.specs.Grammar as G
use Rattle.jl_typeread.specs.Machine.{at, tree_of, variable, step_at, step, step_all}
use Rattle.jl_typeread.specs.Machine as M
use Rattle.jl_typeread.proofs.HeldLemmas.{held_plain_type, held_applied_type, held_paren, held_argument, held_one_more, held_free, held_below, held_above, held_between}

-- what a reading is of: a type, the variables of a `where`, or the variables of a declaration in their braces
pub data Goal : Type 0 where
  a_type : Goal
  a_where : Goal
  a_header : Goal

-- ---- the text that a state stands for

-- a mark before an argument
pub data MarkText : Mark → List Lexeme → Type 0 where
  exact : MarkText marks.Exact []
  below : (a : ℕ) → MarkText (marks.Below a) (mark op.Subtype a ∷ [])
  above : (a : ℕ) → MarkText (marks.Above a) (mark op.Supertype a ∷ [])

-- arguments, each with the comma behind it
pub data ArgumentsText : Deep (List ArgText) → List Lexeme → Type 0 where
  no_arguments_yet : ArgumentsText no_arguments []
  some_arguments : (xs : List ArgText) (ts : List Lexeme) (c : ℕ) → IsArguments xs ts → ArgumentsText (held_arguments xs) (ts ++ mark op.Comma c ∷ [])

-- variables, each with the comma behind it
pub data VariablesText : Deep (List VarText) → List Lexeme → Type 0 where
  no_variables_yet : VariablesText no_variables []
  some_variables : (vs : List VarText) (ts : List Lexeme) (c : ℕ) → IsVariables vs ts → VariablesText (held_variables vs) (ts ++ mark op.Comma c ∷ [])

-- what of a variable stands before the type that is being read
pub data BoundText : Bound → List Lexeme → Type 0 where
  first : BoundText B.First []
  below_name : (a : ℕ) (n : List ℕ) (b : ℕ) → BoundText (B.Below a n) (name a n ∷ mark op.Subtype b ∷ [])
  above_name : (a : ℕ) (n : List ℕ) (b : ℕ) → BoundText (B.Above a n) (name a n ∷ mark op.Supertype b ∷ [])
  between_types : (low : TypeText) (ts : List Lexeme) (b a : ℕ) (n : List ℕ) (c : ℕ) → IsType low ts →
      BoundText (B.Between (held_type low) a n) (ts ++ mark op.Subtype b ∷ name a n ∷ mark op.Subtype c ∷ [])

-- a type that was read
pub data BegunText : TypeSoFar → List Lexeme → Type 0 where
  a_name : (a : ℕ) (n : List ℕ) → BegunText (Plain a n) (name a n ∷ [])
  whole_type : (t : TypeText) (ts : List Lexeme) → IsType t ts → BegunText (Whole (held_type t)) ts

mutual
  -- the text before a type
  pub data Opened : Goal → List Frame → List Lexeme → Type 0 where
    bottom : Opened a_type [] []
    in_paren : (g : Goal) (k : List Frame) (ts : List Lexeme) (a : ℕ) → Opened g k ts → Opened g (K.Paren a ∷ k) (ts ++ mark op.OpenParen a ∷ [])
    in_braces : (g : Goal) (k : List Frame) (ts us ws : List Lexeme) (a : ℕ) (n : List ℕ) (b : ℕ) (xs : Deep (List ArgText)) (m : Mark) →
        Opened g k ts → ArgumentsText xs us → MarkText m ws → Opened g (K.Argument a n xs m ∷ k) (ts ++ (name a n ∷ mark op.OpenBrace b ∷ us) ++ ws)
    in_variable : (g : Goal) (l : Enclosure) (k : List Frame) (v : Bound) (ts us : List Lexeme) → Before g l k ts → BoundText v us → Opened g (K.Variable v l ∷ k) (ts ++ us)

  -- the text before a variable
  pub data Before : Goal → Enclosure → List Frame → List Lexeme → Type 0 where
    one_variable : (g : Goal) (k : List Frame) (ts : List Lexeme) → Limited g k ts → Before g One k ts
    in_list : (g : Goal) (k : List Frame) (ts us : List Lexeme) (b : ℕ) (vs : Deep (List VarText)) → Headed g k ts → VariablesText vs us → Before g (Braces vs) k (ts ++ mark op.OpenBrace b ∷ us)

  -- the text up to a `where`, with it
  pub data Limited : Goal → List Frame → List Lexeme → Type 0 where
    where_alone : (b : ℕ) → Limited a_where [] (word words.Where b ∷ [])
    where_of : (g : Goal) (k : List Frame) (ts us : List Lexeme) (a : ℕ) (t : TypeText) (b : ℕ) → Opened g k ts → IsType t us →
        Limited g (K.Where a (held_type t) ∷ k) (ts ++ (mark op.OpenParen a ∷ us) ++ word words.Where b ∷ [])

  -- the text before the braces of variables
  pub data Headed : Goal → List Frame → List Lexeme → Type 0 where
    header_alone : Headed a_header [] []
    after_where : (g : Goal) (k : List Frame) (ts : List Lexeme) → Limited g k ts → Headed g k ts

-- the text of a state
pub data Has : Goal → Point → List Frame → List Lexeme → Type 0 where
  has_want : (g : Goal) (k : List Frame) (ts : List Lexeme) → Opened g k ts → Has g P.Want k ts
  has_variable : (g : Goal) (l : Enclosure) (k : List Frame) (ts : List Lexeme) → Before g l k ts → Has g P.Variable (K.Variable B.First l ∷ k) ts
  has_first : (g : Goal) (k : List Frame) (ts : List Lexeme) (a : ℕ) (n : List ℕ) (b : ℕ) → Opened g k ts →
      Has g P.First (K.Argument a n no_arguments marks.Exact ∷ k) (ts ++ name a n ∷ mark op.OpenBrace b ∷ [])
  has_next : (g : Goal) (k : List Frame) (ts us : List Lexeme) (a : ℕ) (n : List ℕ) (b : ℕ) (xs : Deep (List ArgText)) → Opened g k ts → ArgumentsText xs us →
      Has g P.Next (K.Argument a n xs marks.Exact ∷ k) (ts ++ name a n ∷ mark op.OpenBrace b ∷ us)
  has_have : (g : Goal) (k : List Frame) (ts us : List Lexeme) (h : TypeSoFar) → Opened g k ts → BegunText h us → Has g (P.Have h) k (ts ++ us)
  has_where : (g : Goal) (k : List Frame) (ts : List Lexeme) → Limited g k ts → Has g P.Where k ts
  has_low : (g : Goal) (l : Enclosure) (k : List Frame) (ts us : List Lexeme) (t : TypeText) (b : ℕ) → Before g l k ts → IsType t us →
      Has g (P.Low (held_type t)) (K.Variable B.First l ∷ k) (ts ++ us ++ mark op.Subtype b ∷ [])
  has_named : (g : Goal) (l : Enclosure) (k : List Frame) (ts us : List Lexeme) (t : TypeText) (b a : ℕ) (n : List ℕ) → Before g l k ts → IsType t us →
      Has g (P.Named (held_type t) a n) (K.Variable B.First l ∷ k) (ts ++ us ++ mark op.Subtype b ∷ name a n ∷ [])
  has_closed : (g : Goal) (k : List Frame) (ts us : List Lexeme) (b c : ℕ) (vs : List VarText) → Headed g k ts → IsVariables vs us →
      Has g (P.Closed (held_variables vs)) k (ts ++ (mark op.OpenBrace b ∷ us) ++ mark op.CloseBrace c ∷ [])

-- whole variables
abbrev pub WholeVariables : Goal → List VarText → List Lexeme → Type 0
WholeVariables a_type vs ts = ⊥
WholeVariables a_where vs ts = IsWhere vs ts
WholeVariables a_header vs ts = IsHeader vs ts

-- a whole type
abbrev pub WholeType : Goal → TypeText → List Lexeme → Type 0
WholeType a_type t ts = IsType t ts
WholeType a_where t ts = ⊥
WholeType a_header t ts = ⊥

-- what a token behind this text makes of it, with the token
abbrev pub HasTurn : Goal → Turn → List Lexeme → List Lexeme → Type 0
HasTurn g (Goes s) before with = Has g s.point s.stack with
HasTurn g (turn.Type d) before with = (t : TypeText) × (d ≡ held_type t) × WholeType g t before
HasTurn g (turn.Variables d) before with = (vs : List VarText) × (d ≡ held_variables vs) × WholeVariables g vs before
HasTurn g Wrong before with = Unit {0}

-- ---- each token that a state takes belongs to the text of the next one

moved : (g : Goal) (o : Turn) (before a b : List Lexeme) → a ≡ b → HasTurn g o before a → HasTurn g o before b
moved g o before a b e h = subst (HasTurn g o before) e h

pub as_type : (h : TypeSoFar) (ts : List Lexeme) → BegunText h ts → (t : TypeText) × (tree_of h ≡ held_type t) × IsType t ts
as_type _ _ (a_name a n) = (T.Name a n, sym (held_plain_type a n), G.plain a n)
as_type _ _ (whole_type t ts d) = (t, refl, d)

-- a whole type at the place of a type
whole_have : (g : Goal) (k : List Frame) (ts us : List Lexeme) (t : TypeText) (d : Deep TypeText) → Opened g k ts → IsType t us → held_type t ≡ d → Has g (P.Have (Whole d)) k (ts ++ us)
whole_have g k ts us t d o i e = subst (λ x. Has g (P.Have (Whole x)) k (ts ++ us)) e (has_have g k ts us (Whole (held_type t)) o (whole_type t us i))

kept_begin_type : (g : Goal) (s : Terminal) (a : ℕ) (k : List Frame) (ts : List Lexeme) → Opened g k ts → HasTurn g (M.begin_type s a k) ts (ts ++ record { terminal = s; at = a } ∷ [])
kept_begin_type g (S.Name n) a k ts o = has_have g k ts (name a n ∷ []) (Plain a n) o (a_name a n)
kept_begin_type g (S.Operator op.OpenParen) a k ts o = has_want g (K.Paren a ∷ k) (ts ++ mark op.OpenParen a ∷ []) (in_paren g k ts a o)
kept_begin_type g _ a k ts o = tt

-- a variable that may have ended
abbrev pub MaybeVariable : Option (Deep VarText) → List Lexeme → Type 0
MaybeVariable None ts = Unit {0}
MaybeVariable (Some d) ts = (v : VarText) × (d ≡ held_variable v) × IsVariable v ts

pub variable_text : (v : Bound) (us : List Lexeme) (h : TypeSoFar) (ws : List Lexeme) → BoundText v us → BegunText h ws → MaybeVariable (variable v h) (us ++ ws)
variable_text _ _ _ _ first (a_name a n) = (V.Free a n, sym (held_free a n), G.free a n)
variable_text _ _ _ _ first (whole_type t ts d) = tt
variable_text _ _ h ws (below_name a n b) d = let t = as_type h ws d in
    (V.Below a n t.0, ap (below_bound a n) t.1 ∙ sym (held_below a n t.0), G.upper a n b t.0 ws t.2)
variable_text _ _ h ws (above_name a n b) d = let t = as_type h ws d in
    (V.Above a n t.0, ap (above_bound a n) t.1 ∙ sym (held_above a n t.0), G.lower a n b t.0 ws t.2)
variable_text _ _ h ws (between_types low ts b a n c i) d = let t = as_type h ws d in (
  V.Between low a n t.0,
  ap (between_bound (held_type low) a n) t.1 ∙ sym (held_between low a n t.0),
  subst (IsVariable (V.Between low a n t.0)) (sym (append_assoc ts (mark op.Subtype b ∷ name a n ∷ mark op.Subtype c ∷ []) ws)) (G.between low b a n c t.0 ts ws i t.2),
)

argument_text : (m : Mark) (ws : List Lexeme) (t : TypeText) (vs : List Lexeme) → MarkText m ws → IsType t vs → IsArgument (argument m t) (ws ++ vs)
argument_text _ _ t vs exact d = G.exact t vs d
argument_text _ _ t vs (below a) d = G.below a t vs d
argument_text _ _ t vs (above a) d = G.above a t vs d

pub arguments_text : (xs : Deep (List ArgText)) (us : List Lexeme) (m : Mark) (ws : List Lexeme) (h : TypeSoFar) (vs : List Lexeme) → ArgumentsText xs us → MarkText m ws → BegunText h vs →
    (ys : List ArgText) × (with_argument xs m (tree_of h) ≡ held_arguments ys) × IsArguments ys (us ++ (ws ++ vs))
arguments_text _ _ m ws h vs no_arguments_yet q d = let t = as_type h vs d in
    (argument m t.0 ∷ [], ap (with_argument no_arguments m) t.1 ∙ held_argument [] m t.0, G.one (argument m t.0) (ws ++ vs) (argument_text m ws t.0 vs q t.2))
arguments_text _ _ m ws h vs (some_arguments xs ts c i) q d = let t = as_type h vs d in (
  xs ++ argument m t.0 ∷ [],
  ap (with_argument (held_arguments xs) m) t.1 ∙ held_argument xs m t.0,
  subst (IsArguments (xs ++ argument m t.0 ∷ [])) (sym (append_assoc ts (mark op.Comma c ∷ []) (ws ++ vs))) (G.more xs (argument m t.0) c ts (ws ++ vs) i (argument_text m ws t.0 vs q t.2)),
)

pub variables_text : (vs : Deep (List VarText)) (us : List Lexeme) (v : VarText) (ws : List Lexeme) → VariablesText vs us → IsVariable v ws →
    (ys : List VarText) × (with_variable vs (held_variable v) ≡ held_variables ys) × IsVariables ys (us ++ ws)
variables_text _ _ v ws no_variables_yet i = (v ∷ [], held_one_more [] v, G.first v ws i)
variables_text _ _ v ws (some_variables vs ts c j) i =
    (vs ++ v ∷ [], held_one_more vs v, subst (IsVariables (vs ++ v ∷ [])) (sym (append_assoc ts (mark op.Comma c ∷ []) ws)) (G.next vs v c ts ws j i))

moved_before : (g : Goal) (o : Turn) (a b with : List Lexeme) → a ≡ b → HasTurn g o a with → HasTurn g o b with
moved_before g o a b with e h = subst (λ x. HasTurn g o x with) e h

kept_end_of_variable : (g : Goal) (o : Option (Deep VarText)) (k : List Frame) (ts ws with : List Lexeme) → Limited g k ts → MaybeVariable o ws → HasTurn g (M.end_of_variable o k) (ts ++ ws) with
kept_end_of_variable g None k ts ws with l m = tt
kept_end_of_variable _ (Some d) _ _ ws with (where_alone b) m = (m.0 ∷ [], ap (with_variable no_variables) m.1 ∙ held_one_more [] m.0, G.alone b m.0 ws m.2)
kept_end_of_variable _ (Some d) _ _ ws with (where_of g k ts us a t b o i) m = tt

kept_end_of_type : (g : Goal) (h : TypeSoFar) (k : List Frame) (ts us with : List Lexeme) → Opened g k ts → BegunText h us → HasTurn g (M.end_of_type h k) (ts ++ us) with
kept_end_of_type _ h _ _ us with bottom d = as_type h us d
kept_end_of_type _ h _ _ us with (in_paren g k ts a o) d = tt
kept_end_of_type _ h _ _ us with (in_braces g k ts ws vs a n b xs m o p q) d = tt
kept_end_of_type _ h _ _ us with (in_variable _ _ _ v _ ws (one_variable g k ts l) q) d =
    moved_before g (M.end_of_variable (variable v h) k) (ts ++ (ws ++ us)) ((ts ++ ws) ++ us) with (sym (append_assoc ts ws us)) (kept_end_of_variable g (variable v h) k ts (ws ++ us) with l (variable_text v ws h us q d))
kept_end_of_type _ h _ _ us with (in_variable _ _ _ v _ ws (in_list g k ts vs b xs l p) q) d = tt

kept_open_brace : (g : Goal) (h : TypeSoFar) (k : List Frame) (ts us : List Lexeme) (c : ℕ) → Opened g k ts → BegunText h us → HasTurn g (M.open_brace h k) (ts ++ us) ((ts ++ us) ++ mark op.OpenBrace c ∷ [])
kept_open_brace g _ k ts _ c o (a_name a n) =
    moved g (M.open_brace (Plain a n) k) (ts ++ name a n ∷ []) (ts ++ name a n ∷ mark op.OpenBrace c ∷ []) ((ts ++ name a n ∷ []) ++ mark op.OpenBrace c ∷ []) (simp append_assoc refl) (has_first g k ts a n c o)
kept_open_brace g _ k ts us c o (whole_type t _ d) = kept_end_of_type g (Whole (held_type t)) k ts us ((ts ++ us) ++ mark op.OpenBrace c ∷ []) o (whole_type t us d)

-- `}` behind variables in their braces
closed_text : (g : Goal) (o : Option (Deep VarText)) (k : List Frame) (ts us ws before : List Lexeme) (b c : ℕ) (vs : Deep (List VarText)) → Headed g k ts → VariablesText vs us → MaybeVariable o ws →
    HasTurn g (M.close_variables o vs k) before (ts ++ (mark op.OpenBrace b ∷ (us ++ ws)) ++ mark op.CloseBrace c ∷ [])
closed_text g None k ts us ws before b c vs l p m = tt
closed_text g (Some d) k ts us ws before b c vs l p m = let r = variables_text vs us m.0 ws p m.2 in
    subst (λ x. Has g (P.Closed x) k (ts ++ (mark op.OpenBrace b ∷ (us ++ ws)) ++ mark op.CloseBrace c ∷ [])) (sym (ap (with_variable vs) m.1 ∙ r.1)) (has_closed g k ts (us ++ ws) b c r.0 l r.2)

kept_close_brace : (g : Goal) (h : TypeSoFar) (k : List Frame) (ts us : List Lexeme) (c : ℕ) → Opened g k ts → BegunText h us → HasTurn g (M.close_brace h k) (ts ++ us) ((ts ++ us) ++ mark op.CloseBrace c ∷ [])
kept_close_brace _ h _ _ us c bottom d = kept_end_of_type a_type h [] [] us (us ++ mark op.CloseBrace c ∷ []) bottom d
kept_close_brace _ h _ _ us c (in_paren g k ts a o) d = tt
kept_close_brace _ h _ _ us c (in_braces g k ts vs ws a n b xs m o p q) d = let r = arguments_text xs vs m ws h us p q d in
    moved g (M.close_brace h (K.Argument a n xs m ∷ k)) ((ts ++ (name a n ∷ mark op.OpenBrace b ∷ vs) ++ ws) ++ us) (ts ++ ((name a n ∷ mark op.OpenBrace b ∷ (vs ++ (ws ++ us))) ++ mark op.CloseBrace c ∷ []))
    (((ts ++ (name a n ∷ mark op.OpenBrace b ∷ vs) ++ ws) ++ us) ++ mark op.CloseBrace c ∷ []) (simp append_assoc refl)
    (whole_have g k ts ((name a n ∷ mark op.OpenBrace b ∷ (vs ++ (ws ++ us))) ++ mark op.CloseBrace c ∷ []) (W.Applied a n r.0) (D.applied_type a n (with_argument xs m (tree_of h))) o
    (G.applied a n b c r.0 (vs ++ (ws ++ us)) r.2) (held_applied_type a n r.0 ∙ ap (D.applied_type a n) (sym r.1)))
kept_close_brace _ h _ _ us c (in_variable _ _ _ v _ ws (one_variable g k ts l) q) d =
    kept_end_of_type g h (K.Variable v One ∷ k) (ts ++ ws) us (((ts ++ ws) ++ us) ++ mark op.CloseBrace c ∷ []) (in_variable g One k v ts ws (one_variable g k ts l) q) d
kept_close_brace _ h _ _ us c (in_variable _ _ _ v _ ws (in_list g k ts vs b xs l p) q) d =
    moved g (M.close_variables (variable v h) xs k) (((ts ++ mark op.OpenBrace b ∷ vs) ++ ws) ++ us) (ts ++ (mark op.OpenBrace b ∷ (vs ++ (ws ++ us))) ++ mark op.CloseBrace c ∷ [])
    ((((ts ++ mark op.OpenBrace b ∷ vs) ++ ws) ++ us) ++ mark op.CloseBrace c ∷ []) (simp append_assoc refl)
    (closed_text g (variable v h) k ts vs (ws ++ us) (((ts ++ mark op.OpenBrace b ∷ vs) ++ ws) ++ us) b c xs l p (variable_text v ws h us q d))

-- `,` behind variables in their braces
next_text : (g : Goal) (o : Option (Deep VarText)) (k : List Frame) (ts us ws before : List Lexeme) (b c : ℕ) (vs : Deep (List VarText)) → Headed g k ts → VariablesText vs us → MaybeVariable o ws →
    HasTurn g (M.next_variable o vs k) before (ts ++ mark op.OpenBrace b ∷ ((us ++ ws) ++ mark op.Comma c ∷ []))
next_text g None k ts us ws before b c vs l p m = tt
next_text g (Some d) k ts us ws before b c vs l p m = let r = variables_text vs us m.0 ws p m.2 in
    subst (λ x. Has g P.Variable (K.Variable B.First (Braces x) ∷ k) (ts ++ mark op.OpenBrace b ∷ ((us ++ ws) ++ mark op.Comma c ∷ []))) (sym (ap (with_variable vs) m.1 ∙ r.1))
    (has_variable g (Braces (held_variables r.0)) k (ts ++ mark op.OpenBrace b ∷ ((us ++ ws) ++ mark op.Comma c ∷ []))
    (in_list g k ts ((us ++ ws) ++ mark op.Comma c ∷ []) b (held_variables r.0) l (some_variables r.0 (us ++ ws) c r.2)))

kept_after_comma : (g : Goal) (h : TypeSoFar) (k : List Frame) (ts us : List Lexeme) (c : ℕ) → Opened g k ts → BegunText h us → HasTurn g (M.after_comma h k) (ts ++ us) ((ts ++ us) ++ mark op.Comma c ∷ [])
kept_after_comma _ h _ _ us c bottom d = kept_end_of_type a_type h [] [] us (us ++ mark op.Comma c ∷ []) bottom d
kept_after_comma _ h _ _ us c (in_paren g k ts a o) d = tt
kept_after_comma _ h _ _ us c (in_braces g k ts vs ws a n b xs m o p q) d = let r = arguments_text xs vs m ws h us p q d in
    moved g (M.after_comma h (K.Argument a n xs m ∷ k)) ((ts ++ (name a n ∷ mark op.OpenBrace b ∷ vs) ++ ws) ++ us) (ts ++ name a n ∷ mark op.OpenBrace b ∷ ((vs ++ (ws ++ us)) ++ mark op.Comma c ∷ []))
    (((ts ++ (name a n ∷ mark op.OpenBrace b ∷ vs) ++ ws) ++ us) ++ mark op.Comma c ∷ []) (simp append_assoc refl)
    (subst (λ x. Has g P.Next (K.Argument a n x marks.Exact ∷ k) (ts ++ name a n ∷ mark op.OpenBrace b ∷ ((vs ++ (ws ++ us)) ++ mark op.Comma c ∷ []))) (sym r.1)
    (has_next g k ts ((vs ++ (ws ++ us)) ++ mark op.Comma c ∷ []) a n b (held_arguments r.0) o (some_arguments r.0 (vs ++ (ws ++ us)) c r.2)))
kept_after_comma _ h _ _ us c (in_variable _ _ _ v _ ws (one_variable g k ts l) q) d =
    kept_end_of_type g h (K.Variable v One ∷ k) (ts ++ ws) us (((ts ++ ws) ++ us) ++ mark op.Comma c ∷ []) (in_variable g One k v ts ws (one_variable g k ts l) q) d
kept_after_comma _ h _ _ us c (in_variable _ _ _ v _ ws (in_list g k ts vs b xs l p) q) d =
    moved g (M.next_variable (variable v h) xs k) (((ts ++ mark op.OpenBrace b ∷ vs) ++ ws) ++ us) (ts ++ mark op.OpenBrace b ∷ ((vs ++ (ws ++ us)) ++ mark op.Comma c ∷ []))
    ((((ts ++ mark op.OpenBrace b ∷ vs) ++ ws) ++ us) ++ mark op.Comma c ∷ []) (simp append_assoc refl)
    (next_text g (variable v h) k ts vs (ws ++ us) (((ts ++ mark op.OpenBrace b ∷ vs) ++ ws) ++ us) b c xs l p (variable_text v ws h us q d))

-- `)` behind the one variable of a `where`
kept_close_where : (g : Goal) (o : Option (Deep VarText)) (k : List Frame) (ts ws : List Lexeme) (c : ℕ) → Limited g k ts → MaybeVariable o ws → HasTurn g (M.close_where o k) (ts ++ ws) ((ts ++ ws) ++ mark op.CloseParen c ∷ [])
kept_close_where g None k ts ws c l m = tt
kept_close_where _ (Some d) _ _ ws c (where_alone b) m = kept_end_of_variable a_where (Some d) [] (word words.Where b ∷ []) ws ((word words.Where b ∷ ws) ++ mark op.CloseParen c ∷ []) (where_alone b) m
kept_close_where _ (Some d) _ _ ws c (where_of g k ts us a t b o i) m =
    moved g (M.close_where (Some d) (K.Where a (held_type t) ∷ k)) ((ts ++ (mark op.OpenParen a ∷ us) ++ word words.Where b ∷ []) ++ ws) (ts ++ (((mark op.OpenParen a ∷ us) ++ (word words.Where b ∷ ws)) ++ mark op.CloseParen c ∷ []))
    (((ts ++ (mark op.OpenParen a ∷ us) ++ word words.Where b ∷ []) ++ ws) ++ mark op.CloseParen c ∷ []) (simp append_assoc refl)
    (whole_have g k ts (((mark op.OpenParen a ∷ us) ++ (word words.Where b ∷ ws)) ++ mark op.CloseParen c ∷ []) (W.Paren a t (m.0 ∷ [])) (D.paren a (held_type t) (with_variable no_variables d)) o
    (G.limited a c t (m.0 ∷ []) us (word words.Where b ∷ ws) i (G.alone b m.0 ws m.2)) (held_paren a t (m.0 ∷ []) ∙ ap (D.paren a (held_type t)) (sym (ap (with_variable no_variables) m.1 ∙ held_one_more [] m.0))))

kept_close_paren : (g : Goal) (h : TypeSoFar) (k : List Frame) (ts us : List Lexeme) (c : ℕ) → Opened g k ts → BegunText h us → HasTurn g (M.close_paren h k) (ts ++ us) ((ts ++ us) ++ mark op.CloseParen c ∷ [])
kept_close_paren _ h _ _ us c bottom d = kept_end_of_type a_type h [] [] us (us ++ mark op.CloseParen c ∷ []) bottom d
kept_close_paren _ h _ _ us c (in_paren g k ts a o) d = let t = as_type h us d in
    moved g (M.close_paren h (K.Paren a ∷ k)) ((ts ++ mark op.OpenParen a ∷ []) ++ us) (ts ++ ((mark op.OpenParen a ∷ us) ++ mark op.CloseParen c ∷ [])) (((ts ++ mark op.OpenParen a ∷ []) ++ us) ++ mark op.CloseParen c ∷ []) (simp append_assoc refl)
    (whole_have g k ts ((mark op.OpenParen a ∷ us) ++ mark op.CloseParen c ∷ []) (W.Paren a t.0 []) (D.paren a (tree_of h) no_variables) o (G.paren a c t.0 us t.2) (held_paren a t.0 [] ∙ ap (λ x. D.paren a x no_variables) (sym t.1)))
kept_close_paren _ h _ _ us c (in_braces g k ts vs ws a n b xs m o p q) d = tt
kept_close_paren _ h _ _ us c (in_variable _ _ _ v _ ws (one_variable g k ts l) q) d =
    moved g (M.close_where (variable v h) k) ((ts ++ ws) ++ us) ((ts ++ (ws ++ us)) ++ mark op.CloseParen c ∷ []) (((ts ++ ws) ++ us) ++ mark op.CloseParen c ∷ []) (ap (λ x. x ++ mark op.CloseParen c ∷ []) (sym (append_assoc ts ws us)))
    (moved_before g (M.close_where (variable v h) k) (ts ++ (ws ++ us)) ((ts ++ ws) ++ us) ((ts ++ (ws ++ us)) ++ mark op.CloseParen c ∷ []) (sym (append_assoc ts ws us))
    (kept_close_where g (variable v h) k ts (ws ++ us) c l (variable_text v ws h us q d)))
kept_close_paren _ h _ _ us c (in_variable _ _ _ v _ ws (in_list g k ts vs b xs l p) q) d = tt

kept_after_where : (g : Goal) (h : TypeSoFar) (k : List Frame) (ts us : List Lexeme) (c : ℕ) → Opened g k ts → BegunText h us → HasTurn g (M.after_where h k) (ts ++ us) ((ts ++ us) ++ word words.Where c ∷ [])
kept_after_where _ h _ _ us c bottom d = kept_end_of_type a_type h [] [] us (us ++ word words.Where c ∷ []) bottom d
kept_after_where _ h _ _ us c (in_paren g k ts a o) d = let t = as_type h us d in
    moved g (M.after_where h (K.Paren a ∷ k)) ((ts ++ mark op.OpenParen a ∷ []) ++ us) (ts ++ (mark op.OpenParen a ∷ us) ++ word words.Where c ∷ []) (((ts ++ mark op.OpenParen a ∷ []) ++ us) ++ word words.Where c ∷ []) (simp append_assoc refl)
    (subst (λ x. Has g P.Where (K.Where a x ∷ k) (ts ++ (mark op.OpenParen a ∷ us) ++ word words.Where c ∷ [])) (sym t.1)
    (has_where g (K.Where a (held_type t.0) ∷ k) (ts ++ (mark op.OpenParen a ∷ us) ++ word words.Where c ∷ []) (where_of g k ts us a t.0 c o t.2)))
kept_after_where _ h _ _ us c (in_braces g k ts vs ws a n b xs m o p q) d = tt
kept_after_where _ h _ _ us c (in_variable g l k v ts ws p q) d =
    kept_end_of_type g h (K.Variable v l ∷ k) (ts ++ ws) us (((ts ++ ws) ++ us) ++ word words.Where c ∷ []) (in_variable g l k v ts ws p q) d

-- `<:` behind a type of a variable
kept_subtype_in_variable : (g : Goal) (v : Bound) (h : TypeSoFar) (l : Enclosure) (k : List Frame) (ts ws us : List Lexeme) (c : ℕ) → Before g l k ts → BoundText v ws → BegunText h us →
    HasTurn g (M.subtype_in_variable v h l k) ((ts ++ ws) ++ us) (((ts ++ ws) ++ us) ++ mark op.Subtype c ∷ [])
kept_subtype_in_variable g _ _ l k ts _ _ c p first (a_name a n) =
    moved g (M.subtype_in_variable B.First (Plain a n) l k) ((ts ++ []) ++ name a n ∷ []) (ts ++ name a n ∷ mark op.Subtype c ∷ []) (((ts ++ []) ++ name a n ∷ []) ++ mark op.Subtype c ∷ []) (simp (append_assoc, append-nil) refl)
    (has_want g (K.Variable (B.Below a n) l ∷ k) (ts ++ name a n ∷ mark op.Subtype c ∷ []) (in_variable g l k (B.Below a n) ts (name a n ∷ mark op.Subtype c ∷ []) p (below_name a n c)))
kept_subtype_in_variable g _ _ l k ts _ us c p first (whole_type t _ d) =
    moved g (M.subtype_in_variable B.First (Whole (held_type t)) l k) ((ts ++ []) ++ us) (ts ++ us ++ mark op.Subtype c ∷ []) (((ts ++ []) ++ us) ++ mark op.Subtype c ∷ []) (simp (append_assoc, append-nil) refl)
    (has_low g l k ts us t c p d)
kept_subtype_in_variable g _ _ l k ts _ _ c p (below_name a n b) (a_name e m) =
    moved g (M.subtype_in_variable (B.Below a n) (Plain e m) l k) ((ts ++ name a n ∷ mark op.Subtype b ∷ []) ++ name e m ∷ []) (ts ++ name a n ∷ mark op.Subtype b ∷ name e m ∷ mark op.Subtype c ∷ [])
    (((ts ++ name a n ∷ mark op.Subtype b ∷ []) ++ name e m ∷ []) ++ mark op.Subtype c ∷ []) (simp append_assoc refl)
    (subst (λ x. Has g P.Want (K.Variable (B.Between x e m) l ∷ k) (ts ++ name a n ∷ mark op.Subtype b ∷ name e m ∷ mark op.Subtype c ∷ [])) (held_plain_type a n)
    (has_want g (K.Variable (B.Between (held_type (T.Name a n)) e m) l ∷ k) (ts ++ name a n ∷ mark op.Subtype b ∷ name e m ∷ mark op.Subtype c ∷ [])
    (in_variable g l k (B.Between (held_type (T.Name a n)) e m) ts (name a n ∷ mark op.Subtype b ∷ name e m ∷ mark op.Subtype c ∷ []) p
    (between_types (T.Name a n) (name a n ∷ []) b e m c (G.plain a n)))))
kept_subtype_in_variable g _ _ l k ts _ us c p (below_name a n b) (whole_type t _ d) =
    kept_end_of_type g (Whole (held_type t)) (K.Variable (B.Below a n) l ∷ k) (ts ++ name a n ∷ mark op.Subtype b ∷ []) us (((ts ++ name a n ∷ mark op.Subtype b ∷ []) ++ us) ++ mark op.Subtype c ∷ [])
    (in_variable g l k (B.Below a n) ts (name a n ∷ mark op.Subtype b ∷ []) p (below_name a n b)) (whole_type t us d)
kept_subtype_in_variable g _ h l k ts ws us c p (above_name a n b) d =
    kept_end_of_type g h (K.Variable (B.Above a n) l ∷ k) (ts ++ ws) us (((ts ++ ws) ++ us) ++ mark op.Subtype c ∷ []) (in_variable g l k (B.Above a n) ts ws p (above_name a n b)) d
kept_subtype_in_variable g _ h l k ts ws us c p (between_types low vs b a n e i) d =
    kept_end_of_type g h (K.Variable (B.Between (held_type low) a n) l ∷ k) (ts ++ ws) us (((ts ++ ws) ++ us) ++ mark op.Subtype c ∷ []) (in_variable g l k (B.Between (held_type low) a n) ts ws p (between_types low vs b a n e i)) d

kept_after_subtype : (g : Goal) (h : TypeSoFar) (k : List Frame) (ts us : List Lexeme) (c : ℕ) → Opened g k ts → BegunText h us → HasTurn g (M.after_subtype h k) (ts ++ us) ((ts ++ us) ++ mark op.Subtype c ∷ [])
kept_after_subtype _ h _ _ us c bottom d = kept_end_of_type a_type h [] [] us (us ++ mark op.Subtype c ∷ []) bottom d
kept_after_subtype _ h _ _ us c (in_paren g k ts a o) d = tt
kept_after_subtype _ h _ _ us c (in_braces g k ts vs ws a n b xs m o p q) d = tt
kept_after_subtype _ h _ _ us c (in_variable g l k v ts ws p q) d = kept_subtype_in_variable g v h l k ts ws us c p q d

-- `>:` behind the first type of a variable
kept_lower_bound : (g : Goal) (h : TypeSoFar) (l : Enclosure) (k : List Frame) (ts us : List Lexeme) (c : ℕ) → Before g l k ts → BegunText h us → HasTurn g (M.lower_bound h l k) ((ts ++ []) ++ us) (((ts ++ []) ++ us) ++ mark op.Supertype c ∷ [])
kept_lower_bound g _ l k ts _ c p (a_name a n) =
    moved g (M.lower_bound (Plain a n) l k) ((ts ++ []) ++ name a n ∷ []) (ts ++ name a n ∷ mark op.Supertype c ∷ []) (((ts ++ []) ++ name a n ∷ []) ++ mark op.Supertype c ∷ []) (simp (append_assoc, append-nil) refl)
    (has_want g (K.Variable (B.Above a n) l ∷ k) (ts ++ name a n ∷ mark op.Supertype c ∷ []) (in_variable g l k (B.Above a n) ts (name a n ∷ mark op.Supertype c ∷ []) p (above_name a n c)))
kept_lower_bound g _ l k ts us c p (whole_type t _ d) =
    kept_end_of_type g (Whole (held_type t)) (K.Variable B.First l ∷ k) (ts ++ []) us (((ts ++ []) ++ us) ++ mark op.Supertype c ∷ []) (in_variable g l k B.First ts [] p first) (whole_type t us d)

kept_after_supertype : (g : Goal) (h : TypeSoFar) (k : List Frame) (ts us : List Lexeme) (c : ℕ) → Opened g k ts → BegunText h us → HasTurn g (M.after_supertype h k) (ts ++ us) ((ts ++ us) ++ mark op.Supertype c ∷ [])
kept_after_supertype _ h _ _ us c bottom d = kept_end_of_type a_type h [] [] us (us ++ mark op.Supertype c ∷ []) bottom d
kept_after_supertype _ h _ _ us c (in_paren g k ts a o) d = tt
kept_after_supertype _ h _ _ us c (in_braces g k ts vs ws a n b xs m o p q) d = tt
kept_after_supertype _ h _ _ us c (in_variable g l k _ ts _ p first) d = kept_lower_bound g h l k ts us c p d
kept_after_supertype _ h _ _ us c (in_variable g l k _ ts ws p (below_name a n b)) d =
    kept_end_of_type g h (K.Variable (B.Below a n) l ∷ k) (ts ++ ws) us (((ts ++ ws) ++ us) ++ mark op.Supertype c ∷ []) (in_variable g l k (B.Below a n) ts ws p (below_name a n b)) d
kept_after_supertype _ h _ _ us c (in_variable g l k _ ts ws p (above_name a n b)) d =
    kept_end_of_type g h (K.Variable (B.Above a n) l ∷ k) (ts ++ ws) us (((ts ++ ws) ++ us) ++ mark op.Supertype c ∷ []) (in_variable g l k (B.Above a n) ts ws p (above_name a n b)) d
kept_after_supertype _ h _ _ us c (in_variable g l k _ ts ws p (between_types low vs b a n e i)) d =
    kept_end_of_type g h (K.Variable (B.Between (held_type low) a n) l ∷ k) (ts ++ ws) us (((ts ++ ws) ++ us) ++ mark op.Supertype c ∷ []) (in_variable g l k (B.Between (held_type low) a n) ts ws p (between_types low vs b a n e i)) d

kept_after_type : (g : Goal) (s : Terminal) (c : ℕ) (h : TypeSoFar) (k : List Frame) (ts us : List Lexeme) → Opened g k ts → BegunText h us → HasTurn g (M.after_type s h k) (ts ++ us) ((ts ++ us) ++ record { terminal = s; at = c } ∷ [])
kept_after_type g (S.Operator op.OpenBrace) c h k ts us o d = kept_open_brace g h k ts us c o d
kept_after_type g (S.Operator op.CloseBrace) c h k ts us o d = kept_close_brace g h k ts us c o d
kept_after_type g (S.Operator op.Comma) c h k ts us o d = kept_after_comma g h k ts us c o d
kept_after_type g (S.Operator op.CloseParen) c h k ts us o d = kept_close_paren g h k ts us c o d
kept_after_type g (S.Operator op.Subtype) c h k ts us o d = kept_after_subtype g h k ts us c o d
kept_after_type g (S.Operator op.Supertype) c h k ts us o d = kept_after_supertype g h k ts us c o d
kept_after_type g (S.Word words.Where) c h k ts us o d = kept_after_where g h k ts us c o d
kept_after_type g s c h k ts us o d = kept_end_of_type g h k ts us ((ts ++ us) ++ record { terminal = s; at = c } ∷ []) o d

kept_next : (g : Goal) (s : Terminal) (c : ℕ) (k : List Frame) (ts us : List Lexeme) (a : ℕ) (n : List ℕ) (b : ℕ) (xs : Deep (List ArgText)) → Opened g k ts → ArgumentsText xs us →
    HasTurn g (M.at_next s c (K.Argument a n xs marks.Exact ∷ k)) (ts ++ name a n ∷ mark op.OpenBrace b ∷ us) ((ts ++ name a n ∷ mark op.OpenBrace b ∷ us) ++ record { terminal = s; at = c } ∷ [])
kept_next g (S.Operator op.Subtype) c k ts us a n b xs o p =
    moved g (at P.Want (K.Argument a n xs (marks.Below c) ∷ k)) (ts ++ name a n ∷ mark op.OpenBrace b ∷ us) (ts ++ (name a n ∷ mark op.OpenBrace b ∷ us) ++ mark op.Subtype c ∷ []) ((ts ++ name a n ∷ mark op.OpenBrace b ∷ us) ++ mark op.Subtype c ∷ []) (simp append_assoc refl)
    (has_want g (K.Argument a n xs (marks.Below c) ∷ k) (ts ++ (name a n ∷ mark op.OpenBrace b ∷ us) ++ mark op.Subtype c ∷ []) (in_braces g k ts us (mark op.Subtype c ∷ []) a n b xs (marks.Below c) o p (below c)))
kept_next g (S.Operator op.Supertype) c k ts us a n b xs o p =
    moved g (at P.Want (K.Argument a n xs (marks.Above c) ∷ k)) (ts ++ name a n ∷ mark op.OpenBrace b ∷ us) (ts ++ (name a n ∷ mark op.OpenBrace b ∷ us) ++ mark op.Supertype c ∷ []) ((ts ++ name a n ∷ mark op.OpenBrace b ∷ us) ++ mark op.Supertype c ∷ []) (simp append_assoc refl)
    (has_want g (K.Argument a n xs (marks.Above c) ∷ k) (ts ++ (name a n ∷ mark op.OpenBrace b ∷ us) ++ mark op.Supertype c ∷ []) (in_braces g k ts us (mark op.Supertype c ∷ []) a n b xs (marks.Above c) o p (above c)))
kept_next g s c k ts us a n b xs o p =
    subst (λ x. HasTurn g (M.begin_type s c (K.Argument a n xs marks.Exact ∷ k)) x (x ++ record { terminal = s; at = c } ∷ [])) (append-nil (ts ++ name a n ∷ mark op.OpenBrace b ∷ us))
    (kept_begin_type g s c (K.Argument a n xs marks.Exact ∷ k) (ts ++ (name a n ∷ mark op.OpenBrace b ∷ us) ++ []) (in_braces g k ts us [] a n b xs marks.Exact o p exact))

kept_first : (g : Goal) (s : Terminal) (c : ℕ) (k : List Frame) (ts : List Lexeme) (a : ℕ) (n : List ℕ) (b : ℕ) → Opened g k ts →
    HasTurn g (M.at_first s c (K.Argument a n no_arguments marks.Exact ∷ k)) (ts ++ name a n ∷ mark op.OpenBrace b ∷ []) ((ts ++ name a n ∷ mark op.OpenBrace b ∷ []) ++ record { terminal = s; at = c } ∷ [])
kept_first g (S.Operator op.CloseBrace) c k ts a n b o =
    moved g (at (P.Have (Whole (D.applied_type a n no_arguments))) k) (ts ++ name a n ∷ mark op.OpenBrace b ∷ []) (ts ++ name a n ∷ mark op.OpenBrace b ∷ mark op.CloseBrace c ∷ []) ((ts ++ name a n ∷ mark op.OpenBrace b ∷ []) ++ mark op.CloseBrace c ∷ []) (simp append_assoc refl)
    (whole_have g k ts (name a n ∷ mark op.OpenBrace b ∷ mark op.CloseBrace c ∷ []) (W.Applied a n []) (D.applied_type a n no_arguments) o (G.empty a n b c) (held_applied_type a n []))
kept_first g s c k ts a n b o = kept_next g s c k ts [] a n b no_arguments o no_arguments_yet

kept_variable : (g : Goal) (s : Terminal) (c : ℕ) (l : Enclosure) (k : List Frame) (ts : List Lexeme) → Before g l k ts → HasTurn g (M.begin_type s c (K.Variable B.First l ∷ k)) ts (ts ++ record { terminal = s; at = c } ∷ [])
kept_variable g s c l k ts p =
    subst (λ x. HasTurn g (M.begin_type s c (K.Variable B.First l ∷ k)) x (x ++ record { terminal = s; at = c } ∷ [])) (append-nil ts)
    (kept_begin_type g s c (K.Variable B.First l ∷ k) (ts ++ []) (in_variable g l k B.First ts [] p first))

kept_where : (g : Goal) (s : Terminal) (c : ℕ) (k : List Frame) (ts : List Lexeme) → Limited g k ts → HasTurn g (M.at_where s c k) ts (ts ++ record { terminal = s; at = c } ∷ [])
kept_where g (S.Operator op.OpenBrace) c k ts l =
    has_variable g (Braces no_variables) k (ts ++ mark op.OpenBrace c ∷ []) (in_list g k ts [] c no_variables (after_where g k ts l) no_variables_yet)
kept_where g s c k ts l = kept_variable g s c One k ts (one_variable g k ts l)

kept_low : (g : Goal) (s : Terminal) (c : ℕ) (l : Enclosure) (k : List Frame) (ts us : List Lexeme) (t : TypeText) (b : ℕ) → Before g l k ts → IsType t us →
    HasTurn g (M.at_low s c (held_type t) (K.Variable B.First l ∷ k)) (ts ++ us ++ mark op.Subtype b ∷ []) ((ts ++ us ++ mark op.Subtype b ∷ []) ++ record { terminal = s; at = c } ∷ [])
kept_low g (S.Name n) c l k ts us t b p d =
    moved g (at (P.Named (held_type t) c n) (K.Variable B.First l ∷ k)) (ts ++ us ++ mark op.Subtype b ∷ []) (ts ++ us ++ mark op.Subtype b ∷ name c n ∷ []) ((ts ++ us ++ mark op.Subtype b ∷ []) ++ name c n ∷ []) (simp append_assoc refl)
    (has_named g l k ts us t b c n p d)
kept_low g _ c l k ts us t b p d = tt

kept_named : (g : Goal) (s : Terminal) (c : ℕ) (l : Enclosure) (k : List Frame) (ts us : List Lexeme) (t : TypeText) (b a : ℕ) (n : List ℕ) → Before g l k ts → IsType t us →
    HasTurn g (M.at_named s (held_type t) a n (K.Variable B.First l ∷ k)) (ts ++ us ++ mark op.Subtype b ∷ name a n ∷ []) ((ts ++ us ++ mark op.Subtype b ∷ name a n ∷ []) ++ record { terminal = s; at = c } ∷ [])
kept_named g (S.Operator op.Subtype) c l k ts us t b a n p d =
    moved g (at P.Want (K.Variable (B.Between (held_type t) a n) l ∷ k)) (ts ++ us ++ mark op.Subtype b ∷ name a n ∷ []) (ts ++ (us ++ mark op.Subtype b ∷ name a n ∷ mark op.Subtype c ∷ []))
    ((ts ++ us ++ mark op.Subtype b ∷ name a n ∷ []) ++ mark op.Subtype c ∷ []) (simp append_assoc refl)
    (has_want g (K.Variable (B.Between (held_type t) a n) l ∷ k) (ts ++ (us ++ mark op.Subtype b ∷ name a n ∷ mark op.Subtype c ∷ []))
    (in_variable g l k (B.Between (held_type t) a n) ts (us ++ mark op.Subtype b ∷ name a n ∷ mark op.Subtype c ∷ []) p (between_types t us b a n c d)))
kept_named g _ c l k ts us t b a n p d = tt

kept_end_of_variables : (g : Goal) (k : List Frame) (ts us with : List Lexeme) (b c : ℕ) (vs : List VarText) → Headed g k ts → IsVariables vs us →
    HasTurn g (M.end_of_variables (held_variables vs) k) (ts ++ (mark op.OpenBrace b ∷ us) ++ mark op.CloseBrace c ∷ []) with
kept_end_of_variables _ _ _ us with b c vs header_alone d = (vs, refl, G.header b c vs us d)
kept_end_of_variables _ _ _ us with b c vs (after_where _ _ _ (where_alone e)) d = (vs, refl, G.braces e b c vs us d)
kept_end_of_variables _ _ _ us with b c vs (after_where _ _ _ (where_of g k ts ws a t e o i)) d = tt

pub regrouped : (ts p ws w b us c e : List Lexeme) → ts ++ (((p ++ ws) ++ (((w ++ b) ++ us) ++ c)) ++ e) ≡ ((((ts ++ (p ++ ws)) ++ w) ++ (b ++ us)) ++ c) ++ e
regrouped ts p ws w b us c e = simp append_assoc refl

kept_close_after_variables : (g : Goal) (k : List Frame) (ts us : List Lexeme) (b c e : ℕ) (vs : List VarText) → Headed g k ts → IsVariables vs us →
    HasTurn g (M.close_after_variables (held_variables vs) k) (ts ++ (mark op.OpenBrace b ∷ us) ++ mark op.CloseBrace c ∷ []) ((ts ++ (mark op.OpenBrace b ∷ us) ++ mark op.CloseBrace c ∷ []) ++ mark op.CloseParen e ∷ [])
kept_close_after_variables _ _ _ us b c e vs header_alone d = kept_end_of_variables a_header [] [] us (((mark op.OpenBrace b ∷ us) ++ mark op.CloseBrace c ∷ []) ++ mark op.CloseParen e ∷ []) b c vs header_alone d
kept_close_after_variables _ _ _ us b c e vs (after_where _ _ _ (where_alone f)) d =
    kept_end_of_variables a_where [] (word words.Where f ∷ []) us ((word words.Where f ∷ (mark op.OpenBrace b ∷ us) ++ mark op.CloseBrace c ∷ []) ++ mark op.CloseParen e ∷ []) b c vs (after_where a_where [] (word words.Where f ∷ []) (where_alone f)) d
kept_close_after_variables _ _ _ us b c e vs (after_where _ _ _ (where_of g k ts ws a t f o i)) d =
    moved g (at (P.Have (Whole (D.paren a (held_type t) (held_variables vs)))) k) ((ts ++ (mark op.OpenParen a ∷ ws) ++ word words.Where f ∷ []) ++ (mark op.OpenBrace b ∷ us) ++ mark op.CloseBrace c ∷ [])
    (ts ++ (((mark op.OpenParen a ∷ ws) ++ ((word words.Where f ∷ mark op.OpenBrace b ∷ us) ++ mark op.CloseBrace c ∷ [])) ++ mark op.CloseParen e ∷ []))
    (((ts ++ (mark op.OpenParen a ∷ ws) ++ word words.Where f ∷ []) ++ (mark op.OpenBrace b ∷ us) ++ mark op.CloseBrace c ∷ []) ++ mark op.CloseParen e ∷ [])
    (regrouped ts (mark op.OpenParen a ∷ []) ws (word words.Where f ∷ []) (mark op.OpenBrace b ∷ []) us (mark op.CloseBrace c ∷ []) (mark op.CloseParen e ∷ []))
    (whole_have g k ts (((mark op.OpenParen a ∷ ws) ++ ((word words.Where f ∷ mark op.OpenBrace b ∷ us) ++ mark op.CloseBrace c ∷ [])) ++ mark op.CloseParen e ∷ []) (W.Paren a t vs) (D.paren a (held_type t) (held_variables vs)) o
    (G.limited a e t vs ws ((word words.Where f ∷ mark op.OpenBrace b ∷ us) ++ mark op.CloseBrace c ∷ []) i (G.braces f b c vs us d)) (held_paren a t vs))

kept_closed : (g : Goal) (s : Terminal) (e : ℕ) (k : List Frame) (ts us : List Lexeme) (b c : ℕ) (vs : List VarText) → Headed g k ts → IsVariables vs us →
    HasTurn g (M.at_closed s (held_variables vs) k) (ts ++ (mark op.OpenBrace b ∷ us) ++ mark op.CloseBrace c ∷ []) ((ts ++ (mark op.OpenBrace b ∷ us) ++ mark op.CloseBrace c ∷ []) ++ record { terminal = s; at = e } ∷ [])
kept_closed g (S.Operator op.CloseParen) e k ts us b c vs l d = kept_close_after_variables g k ts us b c e vs l d
kept_closed g s e k ts us b c vs l d = kept_end_of_variables g k ts us ((ts ++ (mark op.OpenBrace b ∷ us) ++ mark op.CloseBrace c ∷ []) ++ record { terminal = s; at = e } ∷ []) b c vs l d

pub kept : (g : Goal) (s : Terminal) (c : ℕ) (p : Point) (k : List Frame) (ts : List Lexeme) → Has g p k ts → HasTurn g (step_at s c p k) ts (ts ++ record { terminal = s; at = c } ∷ [])
kept _ s c _ _ _ (has_want g k ts o) = kept_begin_type g s c k ts o
kept _ s c _ _ _ (has_variable g l k ts p) = kept_variable g s c l k ts p
kept _ s c _ _ _ (has_first g k ts a n b o) = kept_first g s c k ts a n b o
kept _ s c _ _ _ (has_next g k ts us a n b xs o p) = kept_next g s c k ts us a n b xs o p
kept _ s c _ _ _ (has_have g k ts us h o d) = kept_after_type g s c h k ts us o d
kept _ s c _ _ _ (has_where g k ts l) = kept_where g s c k ts l
kept _ s c _ _ _ (has_low g l k ts us t b p d) = kept_low g s c l k ts us t b p d
kept _ s c _ _ _ (has_named g l k ts us t b a n p d) = kept_named g s c l k ts us t b a n p d
kept _ s c _ _ _ (has_closed g k ts us b e vs l d) = kept_closed g s c k ts us b e vs l d

-- ---- the text at the beginning of each reading

pub type_begins : Has a_type P.Want [] []
type_begins = has_want a_type [] [] bottom

pub where_begins : (b : ℕ) → Has a_where P.Where [] (word words.Where b ∷ [])
where_begins b = has_where a_where [] (word words.Where b ∷ []) (where_alone b)

pub header_begins : (b : ℕ) → Has a_header P.Variable (K.Variable B.First (Braces no_variables) ∷ []) (mark op.OpenBrace b ∷ [])
header_begins b = has_variable a_header (Braces no_variables) [] (mark op.OpenBrace b ∷ []) (in_list a_header [] [] [] b no_variables header_alone no_variables_yet)
