-- A type that is read is well formed.
use Rattle.std.proofs.Common.{◌≡◌, ◌≤◌, Bool, true, false, nat_le, cond, List, [], ◌∷◌, ◌++◌, refl, arith}
use Rattle.jl_token.specs.declared.token.Operator.TheVariants as op
use Rattle.jl_typeread.specs.declared.terminal.Lexeme.{Lexeme}
use Rattle.jl_typeread.specs.declared.tree.TypeText.{TypeText}
use Rattle.jl_typeread.specs.declared.tree.ArgText.{ArgText}
use Rattle.jl_typeread.specs.declared.tree.VarText.{VarText}
use Rattle.jl_typeread.specs.declared.deep.Deep.TheVariants as D
use Rattle.jl_typeread.specs.Depth.{type_depth, variables_depth, depth_limit}
use Rattle.jl_typeread.specs.Grammar as G
use Rattle.jl_typeread.specs.Grammar.{name, mark, word}
use Rattle.jl_grammar.specs.Forms as M
use Rattle.jl_grammar.specs.Types.{type_as_read, vars_as_read}
use Rattle.jl_formed.specs.Formed as F
use Rattle.jl_formed.specs.Formed.{FormedType, FormedArg, FormedArgs, FormedVar, FormedVars}
use Rattle.jl_formed.proofs.Sound.{AreSound, sound_split}

-- one more argument, and one more variable, behind others

args-behind : (xs : List ArgText) (x : ArgText) → FormedArgs xs → FormedArg x → FormedArgs (xs ++ x ∷ [])
args-behind _ x F.no_args g = F.more_args x [] g F.no_args
args-behind _ x (F.more_args y ys f fs) g = F.more_args y (ys ++ x ∷ []) f (args-behind ys x fs g)

vars-behind : (vs : List VarText) (v : VarText) → FormedVars vs → FormedVar v → FormedVars (vs ++ v ∷ [])
vars-behind _ v F.no_vars g = F.more_vars v [] g F.no_vars
vars-behind _ v (F.more_vars w ws f fs) g = F.more_vars w (ws ++ v ∷ []) f (vars-behind ws v fs g)

mutual
  pub formed_type : (t : TypeText) (ts : List Lexeme) → G.IsType t ts → AreSound ts → FormedType t
  formed_type _ _ (G.plain a n) s = F.plain_type a n s.0
  formed_type _ _ (G.empty a n b c) s = F.applied_type a n [] s.0 F.no_args
  formed_type _ _ (G.applied a n b c xs ts d) s = F.applied_type a n xs s.0 (formed_arguments xs ts d (sound_split ts (mark op.CloseBrace c ∷ []) s.1.1).0)
  formed_type _ _ (G.paren a c t ts d) s = F.paren_type a t [] (formed_type t ts d (sound_split ts (mark op.CloseParen c ∷ []) s.1).0) F.no_vars
  formed_type _ _ (G.limited a c t vs ts us d e) s =
      let x = sound_split (ts ++ us) (mark op.CloseParen c ∷ []) s.1 in
      let y = sound_split ts us x.0 in
      F.paren_type a t vs (formed_type t ts d y.0) (formed_where vs us e y.1)

  formed_arguments : (xs : List ArgText) (ts : List Lexeme) → G.IsArguments xs ts → AreSound ts → FormedArgs xs
  formed_arguments _ _ (G.one x ts d) s = F.more_args x [] (formed_argument x ts d s) F.no_args
  formed_arguments _ _ (G.more xs x c ts us d e) s =
      let y = sound_split ts (mark op.Comma c ∷ us) s in
      args-behind xs x (formed_arguments xs ts d y.0) (formed_argument x us e y.1.1)

  formed_argument : (x : ArgText) (ts : List Lexeme) → G.IsArgument x ts → AreSound ts → FormedArg x
  formed_argument _ _ (G.exact t ts d) s = F.exact_arg t (formed_type t ts d s)
  formed_argument _ _ (G.below a t ts d) s = F.below_arg a t (formed_type t ts d s.1)
  formed_argument _ _ (G.above a t ts d) s = F.above_arg a t (formed_type t ts d s.1)

  pub formed_where : (vs : List VarText) (ts : List Lexeme) → G.IsWhere vs ts → AreSound ts → FormedVars vs
  formed_where _ _ (G.alone a v ts d) s = F.more_vars v [] (formed_variable v ts d s.1) F.no_vars
  formed_where _ _ (G.braces a b c vs ts d) s = formed_variables vs ts d (sound_split ts (mark op.CloseBrace c ∷ []) s.1.1).0

  formed_variables : (vs : List VarText) (ts : List Lexeme) → G.IsVariables vs ts → AreSound ts → FormedVars vs
  formed_variables _ _ (G.first v ts d) s = F.more_vars v [] (formed_variable v ts d s) F.no_vars
  formed_variables _ _ (G.next vs v c ts us d e) s =
      let y = sound_split ts (mark op.Comma c ∷ us) s in
      vars-behind vs v (formed_variables vs ts d y.0) (formed_variable v us e y.1.1)

  formed_variable : (v : VarText) (ts : List Lexeme) → G.IsVariable v ts → AreSound ts → FormedVar v
  formed_variable _ _ (G.free a n) s = F.free_var a n s.0
  formed_variable _ _ (G.upper a n b t ts d) s = F.below_var a n t s.0 (formed_type t ts d s.1.1)
  formed_variable _ _ (G.lower a n b t ts d) s = F.above_var a n t s.0 (formed_type t ts d s.1.1)
  formed_variable _ _ (G.between low b a n c high ts us d e) s =
      let y = sound_split ts (mark op.Subtype b ∷ name a n ∷ mark op.Subtype c ∷ us) s in
      F.between_var low a n high (formed_type low ts d y.0) y.1.1.0 (formed_type high us e y.1.1.1.1)

pub formed_header : (vs : List VarText) (ts : List Lexeme) → G.IsHeader vs ts → AreSound ts → FormedVars vs
formed_header _ _ (G.header b c vs ts d) s = formed_variables vs ts d (sound_split ts (mark op.CloseBrace c ∷ []) s.1).0

-- ---- with their depth: a type that is too deep is not kept, and its form is too deep itself

pub formed_type_as_read : (t : TypeText) → FormedType t → (type_as_read t).depth ≤ 500 → FormedType (type_as_read t).tree
formed_type_as_read t f l = by (nat_le (type_depth t) depth_limit) refl l
  where
    by : (b : Bool) → nat_le (type_depth t) depth_limit ≡ b → (M.type_form (cond b (D.Built t (type_depth t)) D.TooDeep)).depth ≤ 500 → FormedType (M.type_form (cond b (D.Built t (type_depth t)) D.TooDeep)).tree
    by true e l = f
    by false e l = absurd (omega (arith, l))

pub formed_vars_as_read : (vs : List VarText) → FormedVars vs → FormedVars (vars_as_read vs).vars
formed_vars_as_read vs f = by (nat_le (variables_depth vs) depth_limit)
  where
    by : (b : Bool) → FormedVars (M.vars_form (cond b (D.Built vs (variables_depth vs)) D.TooDeep)).vars
    by true = f
    by false = F.no_vars
