-- The tokens that a type is printed by have spellings, where those that were have.
use Rattle.std.proofs.Common.{◌≡◌, Bool, true, false, not, ◌&&◌, List, [], ◌∷◌, ◌++◌, map, refl, sym, ap, ◌∙◌, subst, append_assoc}
use Rattle.std.proofs.lemmas.List.{map-append}
use Rattle.jl_token.specs.declared.token.Operator.TheVariants as o
use Rattle.jl_typeread.specs.declared.terminal.Lexeme.{Lexeme}
use Rattle.jl_typeread.specs.declared.terminal.Terminal.{Terminal}
use Rattle.jl_typeread.specs.declared.terminal.Terminal.TheVariants as S
use Rattle.jl_typeread.specs.declared.terminal.Word.TheVariants as w
use Rattle.jl_typeread.specs.declared.tree.TypeText.{TypeText}
use Rattle.jl_typeread.specs.declared.tree.ArgText.{ArgText}
use Rattle.jl_typeread.specs.declared.tree.VarText.{VarText}
use Rattle.jl_typeread.specs.Grammar as G
use Rattle.jl_grammar.specs.Marks.{terminals}
use Rattle.jl_print.specs.Printed.{join, type_terminals, argument_terminals, variable_terminals, where_terminals, params_terminals}
use Rattle.jl_grammar.specs.declared.mark.Around.{Around}
use Rattle.jl_grammar.specs.declared.mark.Around.TheVariants.{Bracket}
use Rattle.jl_grammar.specs.Newlines.{around_after, in_bracket}
use Rattle.jl_print.specs.Spelling.{is_negative, is_prefix}
use Rattle.jl_print.proofs.SpelledTerminals.{all_two, free_behind, free_append, Guarded, guarded_two, Spells, spells_as, spells_of, spells_two, spells_same, spells_cons}
use Rattle.jl_print.proofs.WholeTypes.{whole_variable}
use Rattle.jl_print.proofs.Wholes.{Kept, whole_kept, all_inside, all-inside-append}
use Rattle.jl_print.proofs.ListTerminals.{printed_one, printed_more}
use Rattle.jl_print.proofs.TreeTerminals as T
use Rattle.jl_print.proofs.TypesAgain.{arguments_some, variables_some, where_braces, params_braces}

never : false ≡ true → ⊥
never e = absurd cc

-- tokens that were a list of two
pub lexemes_two : (a b : List Lexeme) (c d : List Terminal) → Spells (terminals a) c → Spells (terminals b) d → Spells (terminals (a ++ b)) (c ++ d)
lexemes_two a b c d f g = spells_of _ _ _ (map-append _ a b) (spells_two (terminals a) (terminals b) c d f g)

-- ---- types have no negative numbers, and no prefix place is behind them

record Inert (ls : List Lexeme) : Type 0 where
  pub guarded : (f : Bool) (ns : List Around) → Guarded f ns (terminals ls)
  pub ends : (f : Bool) → free_behind f (terminals ls) ≡ false

inert-last : (l : Lexeme) → is_negative l.terminal ≡ false → is_prefix l.terminal ≡ false → Inert (l ∷ [])
inert-last l n e = record { guarded = λ f ns. (ap (λ b. (b && not f) && not (in_bracket ns)) n, tt); ends = λ f. e }

inert-cons : (l : Lexeme) (ls : List Lexeme) → is_negative l.terminal ≡ false → Inert ls → Inert (l ∷ ls)
inert-cons l ls n d = record { guarded = λ f ns. (ap (λ b. (b && not f) && not (in_bracket ns)) n, d.guarded (is_prefix l.terminal) (around_after l.terminal ns)); ends = λ f. d.ends (is_prefix l.terminal) }

inert-two : (a b : List Lexeme) → Inert a → Inert b → Inert (a ++ b)
inert-two a b d e = record {
  guarded = λ f ns. subst (Guarded f ns) (sym (map-append _ a b)) (guarded_two (terminals a) (terminals b) f ns (d.guarded f ns) (e.guarded (free_behind f (terminals a)) (all_inside ns (terminals a))));
  ends = λ f. ap (free_behind f) (map-append _ a b) ∙ free_append (terminals a) (terminals b) f ∙ e.ends (free_behind f (terminals a));
}

inert-within : (l m : Lexeme) (ls : List Lexeme) → is_negative l.terminal ≡ false → is_negative m.terminal ≡ false → is_prefix m.terminal ≡ false → Inert ls → Inert (l ∷ ls ++ m ∷ [])
inert-within l m ls n k e d = inert-cons l (ls ++ m ∷ []) n (inert-two ls (m ∷ []) d (inert-last m k e))

mutual
  inert_type : (t : TypeText) (ls : List Lexeme) → G.IsType t ls → Inert ls
  inert_type _ _ (G.plain a n) = inert-last (G.name a n) refl refl
  inert_type _ _ (G.empty a n b c) = inert-cons (G.name a n) _ refl (inert-cons (G.mark o.OpenBrace b) _ refl (inert-last (G.mark o.CloseBrace c) refl refl))
  inert_type _ _ (G.applied a n b c xs ts d) = inert-cons (G.name a n) _ refl (inert-within (G.mark o.OpenBrace b) (G.mark o.CloseBrace c) ts refl refl refl (inert_arguments xs ts d))
  inert_type _ _ (G.paren a c t ts d) = inert-within (G.mark o.OpenParen a) (G.mark o.CloseParen c) ts refl refl refl (inert_type t ts d)
  inert_type _ _ (G.limited a c t vs ts us d e) = inert-within (G.mark o.OpenParen a) (G.mark o.CloseParen c) (ts ++ us) refl refl refl (inert-two ts us (inert_type t ts d) (inert_where vs us e))

  inert_arguments : (xs : List ArgText) (ls : List Lexeme) → G.IsArguments xs ls → Inert ls
  inert_arguments _ _ (G.one x ts d) = inert_argument x ts d
  inert_arguments _ _ (G.more xs x c ts us d e) = inert-two ts (G.mark o.Comma c ∷ us) (inert_arguments xs ts d) (inert-cons (G.mark o.Comma c) us refl (inert_argument x us e))

  inert_argument : (x : ArgText) (ls : List Lexeme) → G.IsArgument x ls → Inert ls
  inert_argument _ _ (G.exact t ts d) = inert_type t ts d
  inert_argument _ _ (G.below a t ts d) = inert-cons (G.mark o.Subtype a) ts refl (inert_type t ts d)
  inert_argument _ _ (G.above a t ts d) = inert-cons (G.mark o.Supertype a) ts refl (inert_type t ts d)

  inert_where : (vs : List VarText) (ls : List Lexeme) → G.IsWhere vs ls → Inert ls
  inert_where _ _ (G.alone a v ts d) = inert-cons (G.word w.Where a) ts refl (inert_variable v ts d)
  inert_where _ _ (G.braces a b c vs ts d) = inert-cons (G.word w.Where a) _ refl (inert-within (G.mark o.OpenBrace b) (G.mark o.CloseBrace c) ts refl refl refl (inert_variables vs ts d))

  inert_variables : (vs : List VarText) (ls : List Lexeme) → G.IsVariables vs ls → Inert ls
  inert_variables _ _ (G.first v ts d) = inert_variable v ts d
  inert_variables _ _ (G.next vs v c ts us d e) = inert-two ts (G.mark o.Comma c ∷ us) (inert_variables vs ts d) (inert-cons (G.mark o.Comma c) us refl (inert_variable v us e))

  inert_variable : (v : VarText) (ls : List Lexeme) → G.IsVariable v ls → Inert ls
  inert_variable _ _ (G.free a n) = inert-last (G.name a n) refl refl
  inert_variable _ _ (G.upper a n b t ts d) = inert-cons (G.name a n) _ refl (inert-cons (G.mark o.Subtype b) ts refl (inert_type t ts d))
  inert_variable _ _ (G.lower a n b t ts d) = inert-cons (G.name a n) _ refl (inert-cons (G.mark o.Supertype b) ts refl (inert_type t ts d))
  inert_variable _ _ (G.between low b a n c high ts us d e) =
      inert-two ts _ (inert_type low ts d) (inert-cons (G.mark o.Subtype b) _ refl (inert-cons (G.name a n) _ refl (inert-cons (G.mark o.Subtype c) us refl (inert_type high us e))))

-- a variable behind `where` that had no braces
braced : (ts : List Lexeme) (c d : List Terminal) → d ≡ c → Kept (terminals ts) → Inert ts → Spells (terminals ts) c → Spells (S.Word w.Where ∷ terminals ts) (S.Word w.Where ∷ S.Operator o.OpenBrace ∷ (d ++ S.Operator o.CloseBrace ∷ []))
braced ts c d e k n f =
    spells_as _ _ _ (ap (λ l. S.Word w.Where ∷ S.Operator o.OpenBrace ∷ (l ++ S.Operator o.CloseBrace ∷ [])) e)
    (record {
      of = λ s. (s.0, (tt, all_two c (S.Operator o.CloseBrace ∷ []) (f.of s.1) (tt, tt)));
      alike = λ ns. k ns ∙ sym (all-inside-append (Bracket ∷ ns) c (S.Operator o.CloseBrace ∷ []) ∙ ap (around_after (S.Operator o.CloseBrace)) (sym (f.alike (Bracket ∷ ns)) ∙ k (Bracket ∷ ns)));
      frees = λ i j h s. absurd (never (sym (n.ends true) ∙ s));
      guards = λ i j ns h s. (refl, (refl, guarded_two c (S.Operator o.CloseBrace ∷ []) true (Bracket ∷ ns) (f.guards true true (Bracket ∷ ns) (λ x. x) (n.guarded true (Bracket ∷ ns))) (refl, tt)));
    })

mutual
  pub type_spells : (t : TypeText) (ls : List Lexeme) → G.IsType t ls → Spells (terminals ls) (type_terminals t)
  type_spells _ _ (G.plain a n) = spells_as _ _ _ (T.type_name_terminals a n) (spells_same _)
  type_spells _ _ (G.empty a n b c) = spells_as _ _ _ (T.type_applied_terminals a n []) (spells_same _)
  type_spells _ _ (G.applied a n b c xs ts d) = spells_as _ _ _ (T.type_applied_terminals a n xs)
      (spells_cons (spells_cons (lexemes_two ts (G.mark o.CloseBrace c ∷ []) (join (map argument_terminals xs)) (S.Operator o.CloseBrace ∷ []) (arguments_spell xs ts d) (spells_same _))))
  type_spells _ _ (G.paren a c t ts d) = spells_as _ _ _ (T.type_paren_terminals a t [])
      (spells_cons (lexemes_two ts (G.mark o.CloseParen c ∷ []) (type_terminals t) (S.Operator o.CloseParen ∷ []) (type_spells t ts d) (spells_same _)))
  type_spells _ _ (G.limited a c t vs ts us d f) = spells_as _ _ _ (T.type_paren_terminals a t vs ∙ ap (λ l. S.Operator o.OpenParen ∷ l) (sym (append_assoc (type_terminals t) (where_terminals vs) (S.Operator o.CloseParen ∷ []))))
      (spells_cons (lexemes_two (ts ++ us) (G.mark o.CloseParen c ∷ []) (type_terminals t ++ where_terminals vs) (S.Operator o.CloseParen ∷ []) (lexemes_two ts us (type_terminals t) (where_terminals vs) (type_spells t ts d) (where_spells vs us f)) (spells_same _)))

  pub arguments_spell : (xs : List ArgText) (ls : List Lexeme) → G.IsArguments xs ls → Spells (terminals ls) (join (map argument_terminals xs))
  arguments_spell _ _ (G.one x ts d) = spells_as _ _ _ (printed_one argument_terminals x) (argument_spells x ts d)
  arguments_spell _ _ (G.more xs x c ts us d e) = spells_as _ _ _ (printed_more argument_terminals xs x (arguments_some xs ts d))
      (lexemes_two ts (G.mark o.Comma c ∷ us) (join (map argument_terminals xs)) (S.Operator o.Comma ∷ argument_terminals x) (arguments_spell xs ts d) (spells_cons (argument_spells x us e)))

  pub argument_spells : (x : ArgText) (ls : List Lexeme) → G.IsArgument x ls → Spells (terminals ls) (argument_terminals x)
  argument_spells _ _ (G.exact t ts d) = spells_as _ _ _ (T.argument_exact_terminals t) (type_spells t ts d)
  argument_spells _ _ (G.below a t ts d) = spells_as _ _ _ (T.argument_below_terminals a t) (spells_cons (type_spells t ts d))
  argument_spells _ _ (G.above a t ts d) = spells_as _ _ _ (T.argument_above_terminals a t) (spells_cons (type_spells t ts d))

  pub where_spells : (vs : List VarText) (ls : List Lexeme) → G.IsWhere vs ls → Spells (terminals ls) (where_terminals vs)
  where_spells _ _ (G.alone a v ts d) = braced ts (variable_terminals v) (join (map variable_terminals (v ∷ []))) (printed_one variable_terminals v) (whole_kept ts (whole_variable v ts d).0) (inert_variable v ts d) (variable_spells v ts d)
  where_spells _ _ (G.braces a b c vs ts d) = spells_as _ _ _ (where_braces vs (variables_some vs ts d))
      (spells_cons (spells_cons (lexemes_two ts (G.mark o.CloseBrace c ∷ []) (join (map variable_terminals vs)) (S.Operator o.CloseBrace ∷ []) (variables_spell vs ts d) (spells_same _))))

  pub variables_spell : (vs : List VarText) (ls : List Lexeme) → G.IsVariables vs ls → Spells (terminals ls) (join (map variable_terminals vs))
  variables_spell _ _ (G.first v ts d) = spells_as _ _ _ (printed_one variable_terminals v) (variable_spells v ts d)
  variables_spell _ _ (G.next vs v c ts us d e) = spells_as _ _ _ (printed_more variable_terminals vs v (variables_some vs ts d))
      (lexemes_two ts (G.mark o.Comma c ∷ us) (join (map variable_terminals vs)) (S.Operator o.Comma ∷ variable_terminals v) (variables_spell vs ts d) (spells_cons (variable_spells v us e)))

  pub variable_spells : (v : VarText) (ls : List Lexeme) → G.IsVariable v ls → Spells (terminals ls) (variable_terminals v)
  variable_spells _ _ (G.free a n) = spells_as _ _ _ (T.variable_free_terminals a n) (spells_same _)
  variable_spells _ _ (G.upper a n b t ts d) = spells_as _ _ _ (T.variable_below_terminals a n t) (spells_cons (spells_cons (type_spells t ts d)))
  variable_spells _ _ (G.lower a n b t ts d) = spells_as _ _ _ (T.variable_above_terminals a n t) (spells_cons (spells_cons (type_spells t ts d)))
  variable_spells _ _ (G.between low b a n c high ts us d f) = spells_as _ _ _ (T.variable_between_terminals low a n high)
      (lexemes_two ts (G.mark o.Subtype b ∷ G.name a n ∷ G.mark o.Subtype c ∷ us) (type_terminals low) (S.Operator o.Subtype ∷ S.Name n ∷ S.Operator o.Subtype ∷ type_terminals high) (type_spells low ts d)
      (spells_cons (spells_cons (spells_cons (type_spells high us f)))))

pub header_spells : (vs : List VarText) (ls : List Lexeme) → G.IsHeader vs ls → Spells (terminals ls) (params_terminals vs)
header_spells _ _ (G.header b c vs ts d) = spells_as _ _ _ (params_braces vs (variables_some vs ts d))
    (spells_cons (lexemes_two ts (G.mark o.CloseBrace c ∷ []) (join (map variable_terminals vs)) (S.Operator o.CloseBrace ∷ []) (variables_spell vs ts d) (spells_same _)))
