-- What the grammar spells is read, and no otherwise.
use Rattle.std.proofs.Common.{ℕ, List, [], ◌∷◌, ◌++◌, ◌≡◌, Some, refl, sym, ap, ◌∙◌}
use Rattle.jl_token.specs.declared.token.Operator.TheVariants as op
use Rattle.jl_typeread.specs.declared.terminal.Word.TheVariants as words
use Rattle.jl_typeread.specs.declared.terminal.Lexeme.{Lexeme}
use Rattle.jl_typeread.specs.declared.tree.TypeText.{TypeText}
use Rattle.jl_typeread.specs.declared.tree.ArgText.{ArgText}
use Rattle.jl_typeread.specs.declared.tree.VarText.{VarText}
use Rattle.jl_typeread.specs.declared.deep.Deep.{Deep}
use Rattle.jl_typeread.specs.declared.deep.Mark.{Mark}
use Rattle.jl_typeread.specs.declared.deep.Mark.TheVariants as marks
use Rattle.jl_typeread.specs.declared.state.TypeSoFar.{TypeSoFar}
use Rattle.jl_typeread.specs.declared.state.TypeSoFar.TheVariants.{Plain, Whole}
use Rattle.jl_typeread.specs.declared.state.Bound.{Bound}
use Rattle.jl_typeread.specs.declared.state.Bound.TheVariants as B
use Rattle.jl_typeread.specs.declared.state.Enclosure.{Enclosure}
use Rattle.jl_typeread.specs.declared.state.Enclosure.TheVariants.{One, Braces}
use Rattle.jl_typeread.specs.declared.state.Frame.{Frame}
use Rattle.jl_typeread.specs.declared.state.Frame.TheVariants.{Argument, Paren, Where, Variable}
use Rattle.jl_typeread.specs.declared.state.Point.TheVariants as P
use Rattle.jl_typeread.specs.declared.state.Turn.{Turn}
use Rattle.jl_typeread.specs.Depth.{held_type, held_arguments, held_variable, held_variables, no_arguments, no_variables, with_argument, with_variable, below_bound, above_bound, between_bound}
use Rattle.jl_typeread.specs.Depth as D
use Rattle.jl_typeread.specs.Grammar.{name, mark, word, IsType, IsArguments, IsArgument, IsWhere, IsVariables, IsVariable, IsHeader}
use Rattle.jl_typeread.specs.Grammar as G
use Rattle.jl_typeread.specs.Machine.{at, tree_of, variable, close_variables, next_variable, close_where, step, step_all}
use Rattle.jl_typeread.proofs.HeldLemmas.{held_plain_type, held_applied_type, held_paren, held_argument, held_one_more, held_free, held_below, held_above, held_between}

pub step_all_append : (ts us : List Lexeme) (t : Turn) → step_all (ts ++ us) t ≡ step_all us (step_all ts t)
step_all_append [] us t = refl
step_all_append (l ∷ ts) us t = step_all_append ts us (step l t)

-- ---- how each form begins

-- a token that begins a type
pub data BeginsType : Lexeme → Type 0 where
  by_name : (a : ℕ) (n : List ℕ) → BeginsType (name a n)
  by_paren : (a : ℕ) → BeginsType (mark op.OpenParen a)

abbrev pub StartsType : List Lexeme → Type 0
StartsType ts = (l : Lexeme) × (us : List Lexeme) × BeginsType l × (l ∷ us ≡ ts)

pub starts_append : (ts us : List Lexeme) → StartsType ts → StartsType (ts ++ us)
starts_append ts us s = (s.0, s.1 ++ us, s.2, ap (λ x. x ++ us) s.3)

pub starts_type : (t : TypeText) (ts : List Lexeme) → IsType t ts → StartsType ts
starts_type _ _ (G.plain a n) = (name a n, [], by_name a n, refl)
starts_type _ _ (G.empty a n b c) = (name a n, mark op.OpenBrace b ∷ mark op.CloseBrace c ∷ [], by_name a n, refl)
starts_type _ _ (G.applied a n b c xs ts d) = (name a n, (mark op.OpenBrace b ∷ ts) ++ mark op.CloseBrace c ∷ [], by_name a n, refl)
starts_type _ _ (G.paren a c t ts d) = (mark op.OpenParen a, ts ++ mark op.CloseParen c ∷ [], by_paren a, refl)
starts_type _ _ (G.limited a c t vs ts us d e) = (mark op.OpenParen a, (ts ++ us) ++ mark op.CloseParen c ∷ [], by_paren a, refl)

pub starts_variable : (v : VarText) (ts : List Lexeme) → IsVariable v ts → StartsType ts
starts_variable _ _ (G.free a n) = (name a n, [], by_name a n, refl)
starts_variable _ _ (G.upper a n b t ts d) = (name a n, mark op.Subtype b ∷ ts, by_name a n, refl)
starts_variable _ _ (G.lower a n b t ts d) = (name a n, mark op.Supertype b ∷ ts, by_name a n, refl)
starts_variable _ _ (G.between low b a n c high ts us d e) = starts_append ts (mark op.Subtype b ∷ name a n ∷ mark op.Subtype c ∷ us) (starts_type low ts d)

-- where two states agree on the tokens that begin a type, they agree on texts that begin so
pub starts_alike : (ts : List Lexeme) → StartsType ts → (f g : Turn) → ((l : Lexeme) → BeginsType l → step l f ≡ step l g) → step_all ts f ≡ step_all ts g
starts_alike ts s f g same = ap (λ x. step_all x f) (sym s.3) ∙ ap (step_all s.1) (same s.0 s.2) ∙ ap (λ x. step_all x g) s.3

pub first_as_next : (K : List Frame) (l : Lexeme) → BeginsType l → step l (at P.First K) ≡ step l (at P.Next K)
first_as_next K _ (by_name a n) = refl
first_as_next K _ (by_paren a) = refl

pub next_as_want : (K : List Frame) (l : Lexeme) → BeginsType l → step l (at P.Next K) ≡ step l (at P.Want K)
next_as_want K _ (by_name a n) = refl
next_as_want K _ (by_paren a) = refl

pub where_as_variable : (K : List Frame) (l : Lexeme) → BeginsType l → step l (at P.Where K) ≡ step l (at P.Variable (Variable B.First One ∷ K))
where_as_variable K _ (by_name a n) = refl
where_as_variable K _ (by_paren a) = refl

pub variable_as_want : (K : List Frame) (l : Lexeme) → BeginsType l → step l (at P.Variable K) ≡ step l (at P.Want K)
variable_as_want K _ (by_name a n) = refl
variable_as_want K _ (by_paren a) = refl

pub first_is_next : (x : ArgText) (ts : List Lexeme) → IsArgument x ts → (K : List Frame) → step_all ts (at P.First K) ≡ step_all ts (at P.Next K)
first_is_next _ _ (G.exact t ts d) K = starts_alike ts (starts_type t ts d) (at P.First K) (at P.Next K) (first_as_next K)
first_is_next _ _ (G.below a t ts d) K = refl
first_is_next _ _ (G.above a t ts d) K = refl

-- ---- how each form is read

abbrev pub TypeRead : TypeText → List Lexeme → Type 0
TypeRead t ts = (h : TypeSoFar) × (tree_of h ≡ held_type t) × ((K : List Frame) → step_all ts (at P.Want K) ≡ at (P.Have h) K)

abbrev pub ArgumentRead : ArgText → List Lexeme → Type 0
ArgumentRead x ts = (m : Mark) × (h : TypeSoFar) × ((xs : List ArgText) → with_argument (held_arguments xs) m (tree_of h) ≡ held_arguments (xs ++ x ∷ [])) ×
    ((a : ℕ) (n : List ℕ) (xs : Deep (List ArgText)) (K : List Frame) → step_all ts (at P.Next (Argument a n xs marks.Exact ∷ K)) ≡ at (P.Have h) (Argument a n xs m ∷ K))

-- the arguments behind `{`, the last of which stands at the end
abbrev pub ArgumentsRead : List ArgText → List Lexeme → Type 0
ArgumentsRead xs ts = (ds : Deep (List ArgText)) × (m : Mark) × (h : TypeSoFar) × (with_argument ds m (tree_of h) ≡ held_arguments xs) ×
    ((a : ℕ) (n : List ℕ) (K : List Frame) → step_all ts (at P.First (Argument a n no_arguments marks.Exact ∷ K)) ≡ at (P.Have h) (Argument a n ds m ∷ K))

abbrev pub VariableRead : VarText → List Lexeme → Type 0
VariableRead v ts = (b : Bound) × (h : TypeSoFar) × (variable b h ≡ Some (held_variable v)) ×
    ((l : Enclosure) (K : List Frame) → step_all ts (at P.Variable (Variable B.First l ∷ K)) ≡ at (P.Have h) (Variable b l ∷ K))

abbrev pub VariablesRead : List VarText → List Lexeme → Type 0
VariablesRead vs ts = (ds : Deep (List VarText)) × (b : Bound) × (h : TypeSoFar) × (v : Deep VarText) × (variable b h ≡ Some v) × (with_variable ds v ≡ held_variables vs) ×
    ((K : List Frame) → step_all ts (at P.Variable (Variable B.First (Braces no_variables) ∷ K)) ≡ at (P.Have h) (Variable b (Braces ds) ∷ K))

-- the variables behind a `where`: one, or several in braces
pub data WhereRead : List VarText → List Lexeme → Type 0 where
  alone : (a : ℕ) (vs : List VarText) (ts : List Lexeme) (b : Bound) (h : TypeSoFar) (v : Deep VarText) → variable b h ≡ Some v → with_variable no_variables v ≡ held_variables vs →
      ((K : List Frame) → step_all ts (at P.Where K) ≡ at (P.Have h) (Variable b One ∷ K)) → WhereRead vs (word words.Where a ∷ ts)
  braces : (a : ℕ) (vs : List VarText) (ts : List Lexeme) → ((K : List Frame) → step_all ts (at P.Where K) ≡ at (P.Closed (held_variables vs)) K) → WhereRead vs (word words.Where a ∷ ts)

-- in a variable, a type that was read, `<:`, a name and `<:`
pub low_read : (h : TypeSoFar) (b a : ℕ) (n : List ℕ) (c : ℕ) (l : Enclosure) (K : List Frame) →
    step_all (mark op.Subtype b ∷ name a n ∷ mark op.Subtype c ∷ []) (at (P.Have h) (Variable B.First l ∷ K)) ≡ at P.Want (Variable (B.Between (tree_of h) a n) l ∷ K)
low_read (Plain e m) b a n c l K = refl
low_read (Whole t) b a n c l K = refl

-- `)` behind the variables of a `where` in a type
pub where_closes : (vs : List VarText) (us : List Lexeme) → WhereRead vs us → (h : TypeSoFar) (a c : ℕ) (K : List Frame) →
    step_all (mark op.CloseParen c ∷ []) (step_all us (at (P.Have h) (Paren a ∷ K))) ≡ at (P.Have (Whole (D.paren a (tree_of h) (held_variables vs)))) K
where_closes _ _ (alone w vs ts b h v is more reads) g a c K =
    ap (step_all (mark op.CloseParen c ∷ [])) (reads (Where a (tree_of g) ∷ K))
    ∙ ap (λ x. close_where x (Where a (tree_of g) ∷ K)) is
    ∙ ap (λ x. at (P.Have (Whole (D.paren a (tree_of g) x))) K) more
where_closes _ _ (braces w vs ts reads) g a c K = ap (step_all (mark op.CloseParen c ∷ [])) (reads (Where a (tree_of g) ∷ K))

-- `}` behind variables
pub variables_close : (vs : List VarText) (ts : List Lexeme) → VariablesRead vs ts → (c : ℕ) (K : List Frame) →
    step_all (ts ++ mark op.CloseBrace c ∷ []) (at P.Variable (Variable B.First (Braces no_variables) ∷ K)) ≡ at (P.Closed (held_variables vs)) K
variables_close vs ts r c K =
    step_all_append ts (mark op.CloseBrace c ∷ []) (at P.Variable (Variable B.First (Braces no_variables) ∷ K))
    ∙ ap (step_all (mark op.CloseBrace c ∷ [])) (r.6 K)
    ∙ ap (λ x. close_variables x r.0 K) r.4
    ∙ ap (λ x. at (P.Closed x) K) r.5

mutual
  pub read_type : (t : TypeText) (ts : List Lexeme) → IsType t ts → TypeRead t ts
  read_type _ _ (G.plain a n) = (Plain a n, sym (held_plain_type a n), λ K. refl)
  read_type _ _ (G.empty a n b c) = (Whole (D.applied_type a n no_arguments), sym (held_applied_type a n []), λ K. refl)
  read_type _ _ (G.applied a n b c xs ts d) = let r = read_arguments xs ts d in (
    Whole (D.applied_type a n (held_arguments xs)),
    sym (held_applied_type a n xs),
    λ K.
        step_all_append (name a n ∷ mark op.OpenBrace b ∷ ts) (mark op.CloseBrace c ∷ []) (at P.Want K)
        ∙ ap (step_all (mark op.CloseBrace c ∷ [])) (r.4 a n K)
        ∙ ap (λ x. at (P.Have (Whole (D.applied_type a n x))) K) r.3,
  )
  read_type _ _ (G.paren a c t ts d) = let r = read_type t ts d in (
    Whole (D.paren a (held_type t) no_variables),
    sym (held_paren a t []),
    λ K.
        step_all_append (mark op.OpenParen a ∷ ts) (mark op.CloseParen c ∷ []) (at P.Want K)
        ∙ ap (step_all (mark op.CloseParen c ∷ [])) (r.2 (Paren a ∷ K))
        ∙ ap (λ x. at (P.Have (Whole (D.paren a x no_variables))) K) r.1,
  )
  read_type _ _ (G.limited a c t vs ts us d e) = let r = read_type t ts d in let w = read_where vs us e in (
    Whole (D.paren a (held_type t) (held_variables vs)),
    sym (held_paren a t vs),
    λ K.
        step_all_append ((mark op.OpenParen a ∷ ts) ++ us) (mark op.CloseParen c ∷ []) (at P.Want K)
        ∙ ap (step_all (mark op.CloseParen c ∷ [])) (step_all_append (mark op.OpenParen a ∷ ts) us (at P.Want K) ∙ ap (step_all us) (r.2 (Paren a ∷ K)))
        ∙ where_closes vs us w r.0 a c K
        ∙ ap (λ x. at (P.Have (Whole (D.paren a x (held_variables vs)))) K) r.1,
  )

  pub read_argument : (x : ArgText) (ts : List Lexeme) → IsArgument x ts → ArgumentRead x ts
  read_argument _ _ (G.exact t ts d) = let r = read_type t ts d in (
    marks.Exact,
    r.0,
    λ xs. ap (with_argument (held_arguments xs) marks.Exact) r.1 ∙ held_argument xs marks.Exact t,
    λ a n xs K.
        starts_alike ts (starts_type t ts d) (at P.Next (Argument a n xs marks.Exact ∷ K)) (at P.Want (Argument a n xs marks.Exact ∷ K)) (next_as_want (Argument a n xs marks.Exact ∷ K))
        ∙ r.2 (Argument a n xs marks.Exact ∷ K),
  )
  read_argument _ _ (G.below b t ts d) = let r = read_type t ts d in
      (marks.Below b, r.0, λ xs. ap (with_argument (held_arguments xs) (marks.Below b)) r.1 ∙ held_argument xs (marks.Below b) t, λ a n xs K. r.2 (Argument a n xs (marks.Below b) ∷ K))
  read_argument _ _ (G.above b t ts d) = let r = read_type t ts d in
      (marks.Above b, r.0, λ xs. ap (with_argument (held_arguments xs) (marks.Above b)) r.1 ∙ held_argument xs (marks.Above b) t, λ a n xs K. r.2 (Argument a n xs (marks.Above b) ∷ K))

  pub read_arguments : (xs : List ArgText) (ts : List Lexeme) → IsArguments xs ts → ArgumentsRead xs ts
  read_arguments _ _ (G.one x ts d) = let r = read_argument x ts d in (
    no_arguments,
    r.0,
    r.1,
    r.2 [],
    λ a n K.
        first_is_next x ts d (Argument a n no_arguments marks.Exact ∷ K) ∙ r.3 a n no_arguments K,
  )
  read_arguments _ _ (G.more xs x c ts us d e) = let r = read_arguments xs ts d in let s = read_argument x us e in (
    held_arguments xs,
    s.0,
    s.1,
    s.2 xs,
    λ a n K.
        step_all_append ts (mark op.Comma c ∷ us) (at P.First (Argument a n no_arguments marks.Exact ∷ K))
        ∙ ap (step_all (mark op.Comma c ∷ us)) (r.4 a n K)
        ∙ ap (λ x. step_all us (at P.Next (Argument a n x marks.Exact ∷ K))) r.3
        ∙ s.3 a n (held_arguments xs) K,
  )

  pub read_where : (vs : List VarText) (ts : List Lexeme) → IsWhere vs ts → WhereRead vs ts
  read_where _ _ (G.alone a v ts d) = let r = read_variable v ts d in
      alone a (v ∷ []) ts r.0 r.1 (held_variable v) r.2 (held_one_more [] v) (λ K.
      starts_alike ts (starts_variable v ts d) (at P.Where K) (at P.Variable (Variable B.First One ∷ K)) (where_as_variable K) ∙ r.3 One K)
  read_where _ _ (G.braces a b c vs ts d) = let r = read_variables vs ts d in
      braces a vs ((mark op.OpenBrace b ∷ ts) ++ mark op.CloseBrace c ∷ []) (λ K. variables_close vs ts r c K)

  pub read_variables : (vs : List VarText) (ts : List Lexeme) → IsVariables vs ts → VariablesRead vs ts
  read_variables _ _ (G.first v ts d) = let r = read_variable v ts d in
      (no_variables, r.0, r.1, held_variable v, r.2, held_one_more [] v, λ K. r.3 (Braces no_variables) K)
  read_variables _ _ (G.next vs v c ts us d e) = let r = read_variables vs ts d in let s = read_variable v us e in (
    held_variables vs,
    s.0,
    s.1,
    held_variable v,
    s.2,
    held_one_more vs v,
    λ K.
        step_all_append ts (mark op.Comma c ∷ us) (at P.Variable (Variable B.First (Braces no_variables) ∷ K))
        ∙ ap (step_all (mark op.Comma c ∷ us)) (r.6 K)
        ∙ ap (λ x. step_all us (next_variable x r.0 K)) r.4
        ∙ ap (λ x. step_all us (at P.Variable (Variable B.First (Braces x) ∷ K))) r.5
        ∙ s.3 (Braces (held_variables vs)) K,
  )

  pub read_variable : (v : VarText) (ts : List Lexeme) → IsVariable v ts → VariableRead v ts
  read_variable _ _ (G.free a n) = (B.First, Plain a n, ap (λ x. Some x) (sym (held_free a n)), λ l K. refl)
  read_variable _ _ (G.upper a n b t ts d) = let r = read_type t ts d in
      (B.Below a n, r.0, ap (λ x. Some (below_bound a n x)) r.1 ∙ ap (λ x. Some x) (sym (held_below a n t)), λ l K. r.2 (Variable (B.Below a n) l ∷ K))
  read_variable _ _ (G.lower a n b t ts d) = let r = read_type t ts d in
      (B.Above a n, r.0, ap (λ x. Some (above_bound a n x)) r.1 ∙ ap (λ x. Some x) (sym (held_above a n t)), λ l K. r.2 (Variable (B.Above a n) l ∷ K))
  read_variable _ _ (G.between low b a n c high ts us d e) = let r = read_type low ts d in let s = read_type high us e in (
    B.Between (tree_of r.0) a n,
    s.0,
    ap (λ x. Some (between_bound x a n (tree_of s.0))) r.1 ∙ ap (λ x. Some (between_bound (held_type low) a n x)) s.1 ∙ ap (λ x. Some x) (sym (held_between low a n high)),
    λ l K.
        step_all_append ts (mark op.Subtype b ∷ name a n ∷ mark op.Subtype c ∷ us) (at P.Variable (Variable B.First l ∷ K))
        ∙ ap (step_all (mark op.Subtype b ∷ name a n ∷ mark op.Subtype c ∷ us))
        (starts_alike ts (starts_type low ts d) (at P.Variable (Variable B.First l ∷ K)) (at P.Want (Variable B.First l ∷ K)) (variable_as_want (Variable B.First l ∷ K)) ∙ r.2 (Variable B.First l ∷ K))
        ∙ ap (step_all us) (low_read r.0 b a n c l K)
        ∙ s.2 (Variable (B.Between (tree_of r.0) a n) l ∷ K),
  )
