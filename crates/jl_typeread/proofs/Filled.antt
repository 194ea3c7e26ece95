-- What is read so far can be completed.
use Rattle.std.proofs.Common.{ℕ, List, [], ◌∷◌, ◌++◌, ◌≡◌, codes, refl, sym, subst}
use Rattle.std.proofs.lemmas.List.{append_assoc, append-nil}
use Rattle.jl_token.specs.declared.token.Operator.TheVariants as op
use Rattle.jl_typeread.specs.declared.terminal.Word.TheVariants as words
use Rattle.jl_typeread.specs.declared.terminal.Lexeme.{Lexeme}
use Rattle.jl_typeread.specs.declared.tree.TypeText.{TypeText}
use Rattle.jl_typeread.specs.declared.tree.VarText.{VarText}
use Rattle.jl_typeread.specs.declared.tree.TypeText.TheVariants as T
use Rattle.jl_typeread.specs.declared.tree.VarText.TheVariants as V
use Rattle.jl_typeread.specs.declared.tree.ArgText.TheViews as W
use Rattle.jl_typeread.specs.declared.deep.Mark.TheVariants as marks
use Rattle.jl_typeread.specs.declared.state.TypeSoFar.TheVariants.{Whole}
use Rattle.jl_typeread.specs.declared.state.Bound.TheVariants as B
use Rattle.jl_typeread.specs.declared.state.Enclosure.{Enclosure}
use Rattle.jl_typeread.specs.declared.state.Enclosure.TheVariants.{One}
use Rattle.jl_typeread.specs.declared.state.Frame.{Frame}
use Rattle.jl_typeread.specs.declared.state.Frame.TheVariants as K
use Rattle.jl_typeread.specs.declared.state.Point.{Point}
use Rattle.jl_typeread.specs.Depth.{held_type}
use Rattle.jl_typeread.specs.Grammar.{name, mark, word, IsType, IsArguments, IsWhere, IsVariables, IsVariable, IsHeader}
use Rattle.jl_typeread.specs.Grammar as G
use Rattle.jl_typeread.proofs.Kept.{Goal, a_type, a_where, a_header, exact, first, below_name, above_name, between_types, whole_type, Opened, bottom, in_paren, in_braces, in_variable, Before, one_variable, in_list, where_alone, where_of, Headed, header_alone, after_where, Has, has_want, has_variable, has_first, has_next, has_have, has_where, has_low, has_named, has_closed, as_type, variable_text, arguments_text, variables_text, regrouped}

-- the tokens that complete a text: names, closing brackets and `<:`
pub data IsPlain : Lexeme → Type 0 where
  plain_name : (a : ℕ) (n : List ℕ) → IsPlain (name a n)
  plain_paren : (a : ℕ) → IsPlain (mark op.CloseParen a)
  plain_brace : (a : ℕ) → IsPlain (mark op.CloseBrace a)
  plain_subtype : (a : ℕ) → IsPlain (mark op.Subtype a)

abbrev pub ArePlain : List Lexeme → Type 0
ArePlain [] = Unit {0}
ArePlain (l ∷ ls) = IsPlain l × ArePlain ls

-- the text of the whole
abbrev pub Complete : Goal → List Lexeme → Type 0
Complete a_type ts = (t : TypeText) × IsType t ts
Complete a_where ts = (vs : List VarText) × IsWhere vs ts
Complete a_header ts = (vs : List VarText) × IsHeader vs ts

-- the text is the beginning of a whole
abbrev pub Fills : Goal → List Lexeme → Type 0
Fills g ts = (more : List Lexeme) × Complete g (ts ++ more) × ArePlain more

fills_none : (g : Goal) (ts : List Lexeme) → Complete g ts → Fills g ts
fills_none g ts c = ([], subst (Complete g) (sym (append-nil ts)) c, tt)

fills_by : (g : Goal) (ts : List Lexeme) (l : Lexeme) → IsPlain l → Fills g (ts ++ l ∷ []) → Fills g ts
fills_by g ts l p f = (l ∷ f.0, subst (Complete g) (append_assoc ts (l ∷ []) f.0) f.1, (p, f.2))

-- a name that completes a text
abbrev some_name : List ℕ
some_name = codes "T"

-- a name, which is a type, behind this text
named_fills : (g : Goal) (ts : List Lexeme) → Fills g (ts ++ name 0 some_name ∷ []) → Fills g ts
named_fills g ts f = fills_by g ts (name 0 some_name) (plain_name 0 some_name) f

-- `<:` and a name behind this text
bound_fills : (g : Goal) (ts : List Lexeme) → Fills g (ts ++ mark op.Subtype 0 ∷ name 0 some_name ∷ []) → Fills g ts
bound_fills g ts f =
    fills_by g ts (mark op.Subtype 0) (plain_subtype 0) (named_fills g (ts ++ mark op.Subtype 0 ∷ [])
    (subst (Fills g) (sym (append_assoc ts (mark op.Subtype 0 ∷ []) (name 0 some_name ∷ []))) f))

mutual
  -- a type ends where one may stand
  pub fills_type : (g : Goal) (k : List Frame) (ts : List Lexeme) → Opened g k ts → (t : TypeText) (us : List Lexeme) → IsType t us → Fills g (ts ++ us)
  fills_type _ _ _ bottom t us d = fills_none a_type us (t, d)
  fills_type _ _ _ (in_paren g k ts a o) t us d =
      fills_by g (ts ++ mark op.OpenParen a ∷ [] ++ us) (mark op.CloseParen 0) (plain_paren 0)
      (let same : ts ++ ((mark op.OpenParen a ∷ us) ++ mark op.CloseParen 0 ∷ []) ≡ (ts ++ mark op.OpenParen a ∷ [] ++ us) ++ mark op.CloseParen 0 ∷ [] = simp append_assoc refl in
      subst (Fills g) same (fills_type g k ts o (W.Paren a t []) ((mark op.OpenParen a ∷ us) ++ mark op.CloseParen 0 ∷ []) (G.paren a 0 t us d)))
  fills_type _ _ _ (in_braces g k ts vs ws a n b xs m o p q) t us d = let r = arguments_text xs vs m ws (Whole (held_type t)) us p q (whole_type t us d) in
      fills_by g ((ts ++ (name a n ∷ mark op.OpenBrace b ∷ vs) ++ ws) ++ us) (mark op.CloseBrace 0) (plain_brace 0)
      (let same : ts ++ ((name a n ∷ mark op.OpenBrace b ∷ (vs ++ (ws ++ us))) ++ mark op.CloseBrace 0 ∷ []) ≡ ((ts ++ (name a n ∷ mark op.OpenBrace b ∷ vs) ++ ws) ++ us) ++ mark op.CloseBrace 0 ∷ [] = simp append_assoc refl in
      subst (Fills g) same (fills_type g k ts o (W.Applied a n r.0) ((name a n ∷ mark op.OpenBrace b ∷ (vs ++ (ws ++ us))) ++ mark op.CloseBrace 0 ∷ []) (G.applied a n b 0 r.0 (vs ++ (ws ++ us)) r.2)))
  fills_type _ _ _ (in_variable g l k _ ts _ p first) t us d =
      bound_fills g (ts ++ [] ++ us) (bound_fills g ((ts ++ [] ++ us) ++ mark op.Subtype 0 ∷ name 0 some_name ∷ [])
      (let same : ts ++ (us ++ mark op.Subtype 0 ∷ name 0 some_name ∷ mark op.Subtype 0 ∷ name 0 some_name ∷ []) ≡ ((ts ++ [] ++ us) ++ mark op.Subtype 0 ∷ name 0 some_name ∷ []) ++ mark op.Subtype 0 ∷ name 0 some_name ∷ [] = simp (append_assoc, append-nil) refl in
      subst (Fills g) same (fills_variable g l k ts p (V.Between t 0 some_name (T.Name 0 some_name)) (us ++ mark op.Subtype 0 ∷ name 0 some_name ∷ mark op.Subtype 0 ∷ name 0 some_name ∷ [])
      (G.between t 0 0 some_name 0 (T.Name 0 some_name) us (name 0 some_name ∷ []) d (G.plain 0 some_name)))))
  fills_type _ _ _ (in_variable g l k _ ts ws p (below_name a n b)) t us d =
      let v = variable_text (B.Below a n) (name a n ∷ mark op.Subtype b ∷ []) (Whole (held_type t)) us (below_name a n b) (whole_type t us d) in
      subst (Fills g) (sym (append_assoc ts (name a n ∷ mark op.Subtype b ∷ []) us)) (fills_variable g l k ts p v.0 (name a n ∷ mark op.Subtype b ∷ us) v.2)
  fills_type _ _ _ (in_variable g l k _ ts ws p (above_name a n b)) t us d =
      let v = variable_text (B.Above a n) (name a n ∷ mark op.Supertype b ∷ []) (Whole (held_type t)) us (above_name a n b) (whole_type t us d) in
      subst (Fills g) (sym (append_assoc ts (name a n ∷ mark op.Supertype b ∷ []) us)) (fills_variable g l k ts p v.0 (name a n ∷ mark op.Supertype b ∷ us) v.2)
  fills_type _ _ _ (in_variable g l k _ ts ws p (between_types low vs b a n c i)) t us d =
      let v = variable_text (B.Between (held_type low) a n) ws (Whole (held_type t)) us (between_types low vs b a n c i) (whole_type t us d) in
      subst (Fills g) (sym (append_assoc ts ws us)) (fills_variable g l k ts p v.0 (ws ++ us) v.2)

  -- a variable ends where one may stand
  pub fills_variable : (g : Goal) (l : Enclosure) (k : List Frame) (ts : List Lexeme) → Before g l k ts → (v : VarText) (us : List Lexeme) → IsVariable v us → Fills g (ts ++ us)
  fills_variable _ _ _ _ (one_variable _ _ _ (where_alone b)) v us d = fills_none a_where (word words.Where b ∷ us) (v ∷ [], G.alone b v us d)
  fills_variable _ _ _ _ (one_variable _ _ _ (where_of g k ts ws a t b o i)) v us d =
      fills_by g ((ts ++ (mark op.OpenParen a ∷ ws) ++ word words.Where b ∷ []) ++ us) (mark op.CloseParen 0) (plain_paren 0)
      (let same : ts ++ (((mark op.OpenParen a ∷ ws) ++ (word words.Where b ∷ us)) ++ mark op.CloseParen 0 ∷ []) ≡ ((ts ++ (mark op.OpenParen a ∷ ws) ++ word words.Where b ∷ []) ++ us) ++ mark op.CloseParen 0 ∷ [] = simp append_assoc refl in
      subst (Fills g) same (fills_type g k ts o (W.Paren a t (v ∷ [])) (((mark op.OpenParen a ∷ ws) ++ (word words.Where b ∷ us)) ++ mark op.CloseParen 0 ∷ [])
      (G.limited a 0 t (v ∷ []) ws (word words.Where b ∷ us) i (G.alone b v us d))))
  fills_variable _ _ _ _ (in_list g k ts vs b xs l p) v us d = let r = variables_text xs vs v us p d in
      fills_by g ((ts ++ mark op.OpenBrace b ∷ vs) ++ us) (mark op.CloseBrace 0) (plain_brace 0)
      (let same : ts ++ (mark op.OpenBrace b ∷ (vs ++ us)) ++ mark op.CloseBrace 0 ∷ [] ≡ ((ts ++ mark op.OpenBrace b ∷ vs) ++ us) ++ mark op.CloseBrace 0 ∷ [] = simp append_assoc refl in
      subst (Fills g) same (fills_closed g k ts l b 0 r.0 (vs ++ us) r.2))

  -- variables end in their braces
  pub fills_closed : (g : Goal) (k : List Frame) (ts : List Lexeme) → Headed g k ts → (b c : ℕ) (vs : List VarText) (us : List Lexeme) → IsVariables vs us → Fills g (ts ++ (mark op.OpenBrace b ∷ us) ++ mark op.CloseBrace c ∷ [])
  fills_closed _ _ _ header_alone b c vs us d = fills_none a_header ((mark op.OpenBrace b ∷ us) ++ mark op.CloseBrace c ∷ []) (vs, G.header b c vs us d)
  fills_closed _ _ _ (after_where _ _ _ (where_alone e)) b c vs us d = fills_none a_where ((word words.Where e ∷ mark op.OpenBrace b ∷ us) ++ mark op.CloseBrace c ∷ []) (vs, G.braces e b c vs us d)
  fills_closed _ _ _ (after_where _ _ _ (where_of g k ts ws a t e o i)) b c vs us d =
      fills_by g ((ts ++ (mark op.OpenParen a ∷ ws) ++ word words.Where e ∷ []) ++ (mark op.OpenBrace b ∷ us) ++ mark op.CloseBrace c ∷ []) (mark op.CloseParen 0) (plain_paren 0)
      (subst (Fills g) (regrouped ts (mark op.OpenParen a ∷ []) ws (word words.Where e ∷ []) (mark op.OpenBrace b ∷ []) us (mark op.CloseBrace c ∷ []) (mark op.CloseParen 0 ∷ []))
      (fills_type g k ts o (W.Paren a t vs) (((mark op.OpenParen a ∷ ws) ++ ((word words.Where e ∷ mark op.OpenBrace b ∷ us) ++ mark op.CloseBrace c ∷ [])) ++ mark op.CloseParen 0 ∷ [])
      (G.limited a 0 t vs ws ((word words.Where e ∷ mark op.OpenBrace b ∷ us) ++ mark op.CloseBrace c ∷ []) i (G.braces e b c vs us d))))

pub fills : (g : Goal) (p : Point) (k : List Frame) (ts : List Lexeme) → Has g p k ts → Fills g ts
fills _ _ _ _ (has_want g k ts o) = named_fills g ts (fills_type g k ts o (T.Name 0 some_name) (name 0 some_name ∷ []) (G.plain 0 some_name))
fills _ _ _ _ (has_variable g l k ts p) = named_fills g ts (fills_variable g l k ts p (V.Free 0 some_name) (name 0 some_name ∷ []) (G.free 0 some_name))
fills _ _ _ _ (has_first g k ts a n b o) =
    fills_by g (ts ++ name a n ∷ mark op.OpenBrace b ∷ []) (mark op.CloseBrace 0) (plain_brace 0)
    (subst (Fills g) (sym (append_assoc ts (name a n ∷ mark op.OpenBrace b ∷ []) (mark op.CloseBrace 0 ∷ [])))
    (fills_type g k ts o (W.Applied a n []) (name a n ∷ mark op.OpenBrace b ∷ mark op.CloseBrace 0 ∷ []) (G.empty a n b 0)))
fills _ _ _ _ (has_next g k ts us a n b xs o p) =
    named_fills g (ts ++ name a n ∷ mark op.OpenBrace b ∷ us)
    (subst (λ x. Fills g (x ++ name 0 some_name ∷ [])) (append-nil (ts ++ name a n ∷ mark op.OpenBrace b ∷ us))
    (fills_type g (K.Argument a n xs marks.Exact ∷ k) (ts ++ (name a n ∷ mark op.OpenBrace b ∷ us) ++ []) (in_braces g k ts us [] a n b xs marks.Exact o p exact) (T.Name 0 some_name) (name 0 some_name ∷ []) (G.plain 0 some_name)))
fills _ _ _ _ (has_have g k ts us h o d) = let t = as_type h us d in fills_type g k ts o t.0 us t.2
fills _ _ _ _ (has_where g k ts l) = named_fills g ts (fills_variable g One k ts (one_variable g k ts l) (V.Free 0 some_name) (name 0 some_name ∷ []) (G.free 0 some_name))
fills _ _ _ _ (has_low g l k ts us t b p d) =
    named_fills g (ts ++ us ++ mark op.Subtype b ∷ []) (bound_fills g ((ts ++ us ++ mark op.Subtype b ∷ []) ++ name 0 some_name ∷ [])
    (let same : ts ++ (us ++ mark op.Subtype b ∷ name 0 some_name ∷ mark op.Subtype 0 ∷ name 0 some_name ∷ []) ≡ ((ts ++ us ++ mark op.Subtype b ∷ []) ++ name 0 some_name ∷ []) ++ mark op.Subtype 0 ∷ name 0 some_name ∷ [] = simp append_assoc refl in
    subst (Fills g) same (fills_variable g l k ts p (V.Between t 0 some_name (T.Name 0 some_name)) (us ++ mark op.Subtype b ∷ name 0 some_name ∷ mark op.Subtype 0 ∷ name 0 some_name ∷ [])
    (G.between t b 0 some_name 0 (T.Name 0 some_name) us (name 0 some_name ∷ []) d (G.plain 0 some_name)))))
fills _ _ _ _ (has_named g l k ts us t b a n p d) =
    bound_fills g (ts ++ us ++ mark op.Subtype b ∷ name a n ∷ [])
    (let same : ts ++ (us ++ mark op.Subtype b ∷ name a n ∷ mark op.Subtype 0 ∷ name 0 some_name ∷ []) ≡ (ts ++ us ++ mark op.Subtype b ∷ name a n ∷ []) ++ mark op.Subtype 0 ∷ name 0 some_name ∷ [] = simp append_assoc refl in
    subst (Fills g) same (fills_variable g l k ts p (V.Between t a n (T.Name 0 some_name)) (us ++ mark op.Subtype b ∷ name a n ∷ mark op.Subtype 0 ∷ name 0 some_name ∷ [])
    (G.between t b a n 0 (T.Name 0 some_name) us (name 0 some_name ∷ []) d (G.plain 0 some_name))))
fills _ _ _ _ (has_closed g k ts us b c vs l d) = fills_closed g k ts l b c vs us d
