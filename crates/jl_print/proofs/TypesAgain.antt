-- What a type is printed by is a type that is the same, places aside.
use Rattle.std.proofs.Common.{◌≡◌, ℕ, List, [], ◌∷◌, ◌++◌, map, length, refl, sym, ap, ◌∙◌, subst, append_assoc}
use Rattle.std.proofs.lemmas.List.{map-append}
use Rattle.jl_token.specs.declared.token.Operator.TheVariants as o
use Rattle.jl_typeread.specs.declared.terminal.Lexeme.{Lexeme}
use Rattle.jl_typeread.specs.declared.terminal.Terminal.{Terminal}
use Rattle.jl_typeread.specs.declared.terminal.Terminal.TheVariants as S
use Rattle.jl_typeread.specs.declared.terminal.Word.TheVariants as w
use Rattle.jl_typeread.specs.declared.tree.TypeText.{TypeText}
use Rattle.jl_typeread.specs.declared.tree.ArgText.{ArgText}
use Rattle.jl_typeread.specs.declared.tree.VarText.{VarText}
use Rattle.jl_typeread.specs.declared.tree.TypeText.TheVariants as TV
use Rattle.jl_typeread.specs.declared.tree.ArgText.TheVariants as AV
use Rattle.jl_typeread.specs.declared.tree.VarText.TheVariants as VV
use Rattle.jl_typeread.specs.declared.tree.ArgText.TheViews as V
use Rattle.jl_typeread.specs.Grammar as G
use Rattle.jl_grammar.specs.Texts.{lexemes}
use Rattle.jl_print.specs.Printed.{join, in_braces, type_terminals, argument_terminals, variable_terminals, where_terminals, params_terminals}
use Rattle.jl_print.specs.Placeless.{same_type, same_argument, same_variable}
use Rattle.jl_print.proofs.Laid.{laid, laid-append}
use Rattle.jl_print.proofs.ListTerminals.{HasSome, some_one, some_more, printed_one, printed_more, same_more}
use Rattle.jl_print.proofs.TreeTerminals as T

-- ---- tokens of these signs

abbrev pub put : (ℕ → ℕ) → List Terminal → List Terminal → List Lexeme
put h c rest = lexemes (laid h c rest)

pub put-append : (h : ℕ → ℕ) (a b rest : List Terminal) → put h (a ++ b) rest ≡ put h a (b ++ rest) ++ put h b rest
put-append h a b rest = ap lexemes (laid-append h a b rest) ∙ map-append _ (laid h a (b ++ rest)) (laid h b rest)

-- the tokens of these signs stand for a tree that is the same
abbrev pub Puts : {X Y : Type 0} → (X → List Lexeme → Type 0) → (X → Y) → (ℕ → ℕ) → X → List Terminal → Type 0
Puts {X} P same h x c = (rest : List Terminal) → (y : X) × P y (put h c rest) × (same y ≡ same x)

pub puts_moved : {X Y : Type 0} (P : X → List Lexeme → Type 0) (same : X → Y) (h : ℕ → ℕ) (x : X) (c d : List Terminal) → d ≡ c → Puts P same h x c → Puts P same h x d
puts_moved P same h x c d e f = subst (Puts P same h x) (sym e) f

-- ---- lists have an element

pub arguments_some : (xs : List ArgText) (ls : List Lexeme) → G.IsArguments xs ls → HasSome xs
arguments_some _ _ (G.one x ts d) = some_one x
arguments_some _ _ (G.more xs x c ts us d e) = some_more xs x (arguments_some xs ts d)

pub variables_some : (vs : List VarText) (ls : List Lexeme) → G.IsVariables vs ls → HasSome vs
variables_some _ _ (G.first v ts d) = some_one v
variables_some _ _ (G.next vs v c ts us d e) = some_more vs v (variables_some vs ts d)

pub where_some : (vs : List VarText) (ls : List Lexeme) → G.IsWhere vs ls → HasSome vs
where_some _ _ (G.alone a v ts d) = some_one v
where_some _ _ (G.braces a b c vs ts d) = variables_some vs ts d

pub where_braces : (vs : List VarText) → HasSome vs → where_terminals vs ≡ S.Word w.Where ∷ in_braces (map variable_terminals vs)
where_braces vs s = subst (λ l. where_terminals l ≡ S.Word w.Where ∷ in_braces (map variable_terminals l)) (sym s.2) refl

pub params_braces : (vs : List VarText) → HasSome vs → params_terminals vs ≡ in_braces (map variable_terminals vs)
params_braces vs s = subst (λ l. params_terminals l ≡ in_braces (map variable_terminals l)) (sym s.2) refl

-- ---- rules by how their tokens end

applied-by : (a b k : ℕ) (n : List ℕ) (xs : List ArgText) (ls ms : List Lexeme) → ms ≡ ls ++ G.mark o.CloseBrace k ∷ [] → G.IsArguments xs ls → G.IsType (V.Applied a n xs) (G.name a n ∷ G.mark o.OpenBrace b ∷ ms)
applied-by a b k n xs ls ms e d = subst (λ l. G.IsType (V.Applied a n xs) (G.name a n ∷ G.mark o.OpenBrace b ∷ l)) (sym e) (G.applied a n b k xs ls d)

paren-by : (a k : ℕ) (t : TypeText) (ls ms : List Lexeme) → ms ≡ ls ++ G.mark o.CloseParen k ∷ [] → G.IsType t ls → G.IsType (V.Paren a t []) (G.mark o.OpenParen a ∷ ms)
paren-by a k t ls ms e d = subst (λ l. G.IsType (V.Paren a t []) (G.mark o.OpenParen a ∷ l)) (sym e) (G.paren a k t ls d)

limited-by : (a k : ℕ) (t : TypeText) (vs : List VarText) (ls us ns ms : List Lexeme) → ms ≡ ls ++ ns → ns ≡ us ++ G.mark o.CloseParen k ∷ [] → G.IsType t ls → G.IsWhere vs us → G.IsType (V.Paren a t vs) (G.mark o.OpenParen a ∷ ms)
limited-by a k t vs ls us ns ms e f d g =
    subst (λ l. G.IsType (V.Paren a t vs) (G.mark o.OpenParen a ∷ l)) (sym (e ∙ ap (λ l. ls ++ l) f ∙ sym (append_assoc ls us (G.mark o.CloseParen k ∷ [])))) (G.limited a k t vs ls us d g)

braces-by : (a b k : ℕ) (vs : List VarText) (ls ms : List Lexeme) → ms ≡ ls ++ G.mark o.CloseBrace k ∷ [] → G.IsVariables vs ls → G.IsWhere vs (G.word w.Where a ∷ G.mark o.OpenBrace b ∷ ms)
braces-by a b k vs ls ms e d = subst (λ l. G.IsWhere vs (G.word w.Where a ∷ G.mark o.OpenBrace b ∷ l)) (sym e) (G.braces a b k vs ls d)

header-by : (b k : ℕ) (vs : List VarText) (ls ms : List Lexeme) → ms ≡ ls ++ G.mark o.CloseBrace k ∷ [] → G.IsVariables vs ls → G.IsHeader vs (G.mark o.OpenBrace b ∷ ms)
header-by b k vs ls ms e d = subst (λ l. G.IsHeader vs (G.mark o.OpenBrace b ∷ l)) (sym e) (G.header b k vs ls d)

-- ---- one line a rule

module _ (h : ℕ → ℕ) where
  mutual
    pub type_puts : (t : TypeText) (ls : List Lexeme) → G.IsType t ls → Puts G.IsType same_type h t (type_terminals t)
    type_puts _ _ (G.plain a n) = puts_moved G.IsType same_type h (TV.Name a n) _ _ (T.type_name_terminals a n)
        (λ rest. (TV.Name (h (length (S.Name n ∷ rest))) n, G.plain _ n, T.type_name_same _ n ∙ sym (T.type_name_same a n)))
    type_puts _ _ (G.empty a n b c) = puts_moved G.IsType same_type h (V.Applied a n []) _ _ (T.type_applied_terminals a n [])
        (λ rest. (V.Applied _ n [], G.empty _ n _ _, T.type_applied_same _ n [] ∙ sym (T.type_applied_same a n [])))
    type_puts _ _ (G.applied a n b c xs ts d) = puts_moved G.IsType same_type h (V.Applied a n xs) _ _ (T.type_applied_terminals a n xs)
        (λ rest.
        let f = arguments_put xs ts d (S.Operator o.CloseBrace ∷ rest) in (
          V.Applied _ n f.0,
          applied-by _ _ _ n f.0 _ _ (put-append h (join (map argument_terminals xs)) (S.Operator o.CloseBrace ∷ []) rest) f.1,
          T.type_applied_same _ n f.0 ∙ ap (V.Applied 0 n) f.2 ∙ sym (T.type_applied_same a n xs),
        ))
    type_puts _ _ (G.paren a c t ts d) = puts_moved G.IsType same_type h (V.Paren a t []) _ _ (T.type_paren_terminals a t [])
        (λ rest.
        let f = type_puts t ts d (S.Operator o.CloseParen ∷ rest) in (
          V.Paren _ f.0 [],
          paren-by _ _ f.0 _ _ (put-append h (type_terminals t) (S.Operator o.CloseParen ∷ []) rest) f.1,
          T.type_paren_same _ f.0 [] ∙ ap (λ x. V.Paren 0 x []) f.2 ∙ sym (T.type_paren_same a t []),
        ))
    type_puts _ _ (G.limited a c t vs ts us d e) = puts_moved G.IsType same_type h (V.Paren a t vs) _ _ (T.type_paren_terminals a t vs)
        (λ rest.
        let f = type_puts t ts d ((where_terminals vs ++ S.Operator o.CloseParen ∷ []) ++ rest) in
        let g = where_puts vs us e (S.Operator o.CloseParen ∷ rest) in (
          V.Paren _ f.0 g.0,
          limited-by _ _ f.0 g.0 _ _ _ _ (put-append h (type_terminals t) (where_terminals vs ++ S.Operator o.CloseParen ∷ []) rest) (put-append h (where_terminals vs) (S.Operator o.CloseParen ∷ []) rest) f.1 g.1,
          T.type_paren_same _ f.0 g.0 ∙ ap (λ x. V.Paren 0 x (map same_variable g.0)) f.2 ∙ ap (λ x. V.Paren 0 (same_type t) x) g.2 ∙ sym (T.type_paren_same a t vs),
        ))

    pub arguments_put : (xs : List ArgText) (ls : List Lexeme) → G.IsArguments xs ls → Puts G.IsArguments (map same_argument) h xs (join (map argument_terminals xs))
    arguments_put _ _ (G.one x ts d) = puts_moved G.IsArguments (map same_argument) h (x ∷ []) _ _ (printed_one argument_terminals x)
        (λ rest. let f = argument_puts x ts d rest in (f.0 ∷ [], G.one f.0 _ f.1, ap (λ y. y ∷ []) f.2))
    arguments_put _ _ (G.more xs x c ts us d e) = puts_moved G.IsArguments (map same_argument) h (xs ++ x ∷ []) _ _ (printed_more argument_terminals xs x (arguments_some xs ts d))
        (λ rest.
        let f = arguments_put xs ts d (S.Operator o.Comma ∷ argument_terminals x ++ rest) in
        let g = argument_puts x us e rest in (
          f.0 ++ g.0 ∷ [],
          subst (G.IsArguments (f.0 ++ g.0 ∷ [])) (sym (put-append h (join (map argument_terminals xs)) (S.Operator o.Comma ∷ argument_terminals x) rest)) (G.more f.0 g.0 _ _ _ f.1 g.1),
          same_more same_argument f.0 xs g.0 x f.2 g.2,
        ))

    pub argument_puts : (x : ArgText) (ls : List Lexeme) → G.IsArgument x ls → Puts G.IsArgument same_argument h x (argument_terminals x)
    argument_puts _ _ (G.exact t ts d) = puts_moved G.IsArgument same_argument h (AV.Exact t) _ _ (T.argument_exact_terminals t)
        (λ rest. let f = type_puts t ts d rest in (AV.Exact f.0, G.exact f.0 _ f.1, T.argument_exact_same f.0 ∙ ap AV.Exact f.2 ∙ sym (T.argument_exact_same t)))
    argument_puts _ _ (G.below a t ts d) = puts_moved G.IsArgument same_argument h (AV.Below a t) _ _ (T.argument_below_terminals a t)
        (λ rest. let f = type_puts t ts d rest in (AV.Below _ f.0, G.below _ f.0 _ f.1, T.argument_below_same _ f.0 ∙ ap (AV.Below 0) f.2 ∙ sym (T.argument_below_same a t)))
    argument_puts _ _ (G.above a t ts d) = puts_moved G.IsArgument same_argument h (AV.Above a t) _ _ (T.argument_above_terminals a t)
        (λ rest. let f = type_puts t ts d rest in (AV.Above _ f.0, G.above _ f.0 _ f.1, T.argument_above_same _ f.0 ∙ ap (AV.Above 0) f.2 ∙ sym (T.argument_above_same a t)))

    pub where_puts : (vs : List VarText) (ls : List Lexeme) → G.IsWhere vs ls → Puts G.IsWhere (map same_variable) h vs (where_terminals vs)
    where_puts _ _ (G.alone a v ts d) = puts_moved G.IsWhere (map same_variable) h (v ∷ []) _ _ (ap (λ l. S.Word w.Where ∷ S.Operator o.OpenBrace ∷ l ++ S.Operator o.CloseBrace ∷ []) (printed_one variable_terminals v))
        (λ rest.
        let f = variable_puts v ts d (S.Operator o.CloseBrace ∷ rest) in (
          f.0 ∷ [],
          braces-by _ _ _ (f.0 ∷ []) _ _ (put-append h (variable_terminals v) (S.Operator o.CloseBrace ∷ []) rest) (G.first f.0 _ f.1),
          ap (λ y. y ∷ []) f.2,
        ))
    where_puts _ _ (G.braces a b c vs ts d) = puts_moved G.IsWhere (map same_variable) h vs _ _ (where_braces vs (variables_some vs ts d))
        (λ rest.
        let f = variables_put vs ts d (S.Operator o.CloseBrace ∷ rest) in (
          f.0,
          braces-by _ _ _ f.0 _ _ (put-append h (join (map variable_terminals vs)) (S.Operator o.CloseBrace ∷ []) rest) f.1,
          f.2,
        ))

    pub variables_put : (vs : List VarText) (ls : List Lexeme) → G.IsVariables vs ls → Puts G.IsVariables (map same_variable) h vs (join (map variable_terminals vs))
    variables_put _ _ (G.first v ts d) = puts_moved G.IsVariables (map same_variable) h (v ∷ []) _ _ (printed_one variable_terminals v)
        (λ rest. let f = variable_puts v ts d rest in (f.0 ∷ [], G.first f.0 _ f.1, ap (λ y. y ∷ []) f.2))
    variables_put _ _ (G.next vs v c ts us d e) = puts_moved G.IsVariables (map same_variable) h (vs ++ v ∷ []) _ _ (printed_more variable_terminals vs v (variables_some vs ts d))
        (λ rest.
        let f = variables_put vs ts d (S.Operator o.Comma ∷ variable_terminals v ++ rest) in
        let g = variable_puts v us e rest in (
          f.0 ++ g.0 ∷ [],
          subst (G.IsVariables (f.0 ++ g.0 ∷ [])) (sym (put-append h (join (map variable_terminals vs)) (S.Operator o.Comma ∷ variable_terminals v) rest)) (G.next f.0 g.0 _ _ _ f.1 g.1),
          same_more same_variable f.0 vs g.0 v f.2 g.2,
        ))

    pub variable_puts : (v : VarText) (ls : List Lexeme) → G.IsVariable v ls → Puts G.IsVariable same_variable h v (variable_terminals v)
    variable_puts _ _ (G.free a n) = puts_moved G.IsVariable same_variable h (VV.Free a n) _ _ (T.variable_free_terminals a n)
        (λ rest. (VV.Free _ n, G.free _ n, T.variable_free_same _ n ∙ sym (T.variable_free_same a n)))
    variable_puts _ _ (G.upper a n b t ts d) = puts_moved G.IsVariable same_variable h (VV.Below a n t) _ _ (T.variable_below_terminals a n t)
        (λ rest. let f = type_puts t ts d rest in (VV.Below _ n f.0, G.upper _ n _ f.0 _ f.1, T.variable_below_same _ n f.0 ∙ ap (VV.Below 0 n) f.2 ∙ sym (T.variable_below_same a n t)))
    variable_puts _ _ (G.lower a n b t ts d) = puts_moved G.IsVariable same_variable h (VV.Above a n t) _ _ (T.variable_above_terminals a n t)
        (λ rest. let f = type_puts t ts d rest in (VV.Above _ n f.0, G.lower _ n _ f.0 _ f.1, T.variable_above_same _ n f.0 ∙ ap (VV.Above 0 n) f.2 ∙ sym (T.variable_above_same a n t)))
    variable_puts _ _ (G.between low b a n c high ts us d e) = puts_moved G.IsVariable same_variable h (VV.Between low a n high) _ _ (T.variable_between_terminals low a n high)
        (λ rest.
        let f = type_puts low ts d (S.Operator o.Subtype ∷ S.Name n ∷ S.Operator o.Subtype ∷ type_terminals high ++ rest) in
        let g = type_puts high us e rest in (
          VV.Between f.0 _ n g.0,
          subst (G.IsVariable (VV.Between f.0 _ n g.0)) (sym (put-append h (type_terminals low) (S.Operator o.Subtype ∷ S.Name n ∷ S.Operator o.Subtype ∷ type_terminals high) rest)) (G.between f.0 _ _ n _ g.0 _ _ f.1 g.1),
          T.variable_between_same f.0 _ n g.0 ∙ ap (λ x. VV.Between x 0 n (same_type g.0)) f.2 ∙ ap (λ x. VV.Between (same_type low) 0 n x) g.2 ∙ sym (T.variable_between_same low a n high),
        ))

  pub header_puts : (vs : List VarText) (ls : List Lexeme) → G.IsHeader vs ls → Puts G.IsHeader (map same_variable) h vs (params_terminals vs)
  header_puts _ _ (G.header b c vs ts d) = puts_moved G.IsHeader (map same_variable) h vs _ _ (params_braces vs (variables_some vs ts d))
      (λ rest.
      let f = variables_put vs ts d (S.Operator o.CloseBrace ∷ rest) in
      (f.0, header-by _ _ f.0 _ _ (put-append h (join (map variable_terminals vs)) (S.Operator o.CloseBrace ∷ []) rest) f.1, f.2))
