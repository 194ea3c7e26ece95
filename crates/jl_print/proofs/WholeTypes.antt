-- In the text of a type each bracket that begins also ends.
use Rattle.std.proofs.Common.{List, [], ◌∷◌, ◌++◌, refl}
use Rattle.jl_token.specs.declared.token.Operator.TheVariants as o
use Rattle.jl_typeread.specs.declared.terminal.Lexeme.{Lexeme}
use Rattle.jl_typeread.specs.declared.terminal.Word.TheVariants as w
use Rattle.jl_typeread.specs.declared.tree.TypeText.{TypeText}
use Rattle.jl_typeread.specs.declared.tree.ArgText.{ArgText}
use Rattle.jl_typeread.specs.declared.tree.VarText.{VarText}
use Rattle.jl_typeread.specs.Grammar as G
use Rattle.jl_typeread.specs.Grammar.{name, mark, word}
use Rattle.jl_print.proofs.Wholes.{none, two, round, curly, Closed, closed-one, closed-cons, closed-two, closed-within}

mutual
  pub whole_type : (t : TypeText) (ls : List Lexeme) → G.IsType t ls → Closed ls
  whole_type _ _ (G.plain a n) = closed-one (name a n) refl refl
  whole_type _ _ (G.empty a n b c) = closed-cons (name a n) _ refl (closed-within (mark o.OpenBrace b) (mark o.CloseBrace c) [] curly none)
  whole_type _ _ (G.applied a n b c xs ts d) = closed-cons (name a n) _ refl (closed-within (mark o.OpenBrace b) (mark o.CloseBrace c) ts curly (whole_arguments xs ts d).0)
  whole_type _ _ (G.paren a c t ts d) = closed-within (mark o.OpenParen a) (mark o.CloseParen c) ts round (whole_type t ts d).0
  whole_type _ _ (G.limited a c t vs ts us d e) = closed-within (mark o.OpenParen a) (mark o.CloseParen c) (ts ++ us) round (two ts us (whole_type t ts d).0 (whole_where vs us e).0)

  pub whole_arguments : (xs : List ArgText) (ls : List Lexeme) → G.IsArguments xs ls → Closed ls
  whole_arguments _ _ (G.one x ts d) = whole_argument x ts d
  whole_arguments _ _ (G.more xs x c ts us d e) = closed-two ts (mark o.Comma c ∷ us) (whole_arguments xs ts d).0 (closed-cons (mark o.Comma c) us refl (whole_argument x us e))

  pub whole_argument : (x : ArgText) (ls : List Lexeme) → G.IsArgument x ls → Closed ls
  whole_argument _ _ (G.exact t ts d) = whole_type t ts d
  whole_argument _ _ (G.below a t ts d) = closed-cons (mark o.Subtype a) ts refl (whole_type t ts d)
  whole_argument _ _ (G.above a t ts d) = closed-cons (mark o.Supertype a) ts refl (whole_type t ts d)

  pub whole_where : (vs : List VarText) (ls : List Lexeme) → G.IsWhere vs ls → Closed ls
  whole_where _ _ (G.alone a v ts d) = closed-cons (word w.Where a) ts refl (whole_variable v ts d)
  whole_where _ _ (G.braces a b c vs ts d) = closed-cons (word w.Where a) _ refl (closed-within (mark o.OpenBrace b) (mark o.CloseBrace c) ts curly (whole_variables vs ts d).0)

  pub whole_variables : (vs : List VarText) (ls : List Lexeme) → G.IsVariables vs ls → Closed ls
  whole_variables _ _ (G.first v ts d) = whole_variable v ts d
  whole_variables _ _ (G.next vs v c ts us d e) = closed-two ts (mark o.Comma c ∷ us) (whole_variables vs ts d).0 (closed-cons (mark o.Comma c) us refl (whole_variable v us e))

  pub whole_variable : (v : VarText) (ls : List Lexeme) → G.IsVariable v ls → Closed ls
  whole_variable _ _ (G.free a n) = closed-one (name a n) refl refl
  whole_variable _ _ (G.upper a n b t ts d) = closed-cons (name a n) _ refl (closed-cons (mark o.Subtype b) ts refl (whole_type t ts d))
  whole_variable _ _ (G.lower a n b t ts d) = closed-cons (name a n) _ refl (closed-cons (mark o.Supertype b) ts refl (whole_type t ts d))
  whole_variable _ _ (G.between low b a n c high ts us d e) =
      closed-two ts _ (whole_type low ts d).0 (closed-cons (mark o.Subtype b) _ refl (closed-cons (name a n) _ refl (closed-cons (mark o.Subtype c) us refl (whole_type high us e))))

pub whole_header : (vs : List VarText) (ls : List Lexeme) → G.IsHeader vs ls → Closed ls
whole_header _ _ (G.header b c vs ts d) = closed-within (mark o.OpenBrace b) (mark o.CloseBrace c) ts curly (whole_variables vs ts d).0
