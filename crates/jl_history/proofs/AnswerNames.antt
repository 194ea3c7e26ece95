-- What the operations of a valid program answer has names that may stand in a line.
use Rattle.std.proofs.Common.{sym, subst, ℕ, ℤ, pos, Bool, true, false, cond, inl, inr, List, map, int_div, int_rem, Option, None, Some}
use Rattle.std.specs.Ordering.{int_eq}
use Rattle.jl_model.specs.declared.ty.Ty.{Ty, out-Ty}
use Rattle.jl_model.specs.declared.ty.Ty.TheOpen.{Ty-F, Any, Union, Tuple, Nominal, Var}
use Rattle.jl_model.specs.declared.ty.Decl.{Decl}
use Rattle.jl_model.specs.declared.ty.Field.{Field}
use Rattle.jl_model.specs.declared.ty.Written.{Written}
use Rattle.jl_program.specs.declared.datum.Datum.{Datum}
use Rattle.jl_program.specs.declared.value.Value.{Value}
use Rattle.jl_program.specs.declared.fault.Fault.{Fault}
use Rattle.jl_program.specs.declared.fault.Fault.TheVariants as F
use Rattle.jl_program.specs.declared.prelude.Operation.{Operation}
use Rattle.jl_program.specs.declared.prelude.Operation.TheVariants as P
use Rattle.jl_program.specs.declared.tree.Program.{Program}
use Rattle.jl_program.specs.Prelude.{operation_of}
use Rattle.jl_program.specs.Scope.{all_types}
use Rattle.jl_program.specs.Valid.{IsValid}
use Rattle.jl_calculus.specs.declared.history.Outcome.{Outcome}
use Rattle.jl_calculus.specs.declared.history.Outcome.TheVariants as O
use Rattle.jl_calculus.specs.Answers.{Refusal, Answer, fault_where, refuse, give, tell}
use Rattle.jl_calculus.specs.Host.{overflows, number, meaning, meaning_if}
use Rattle.jl_calculus.specs.Operations.{part_or, fields_step, fields_at, field_of, part_of, within_limits, make_tuple, is_field_type, make_struct, with_type, make_written, make_inferred, test_type, test_order, test_same}
use Rattle.jl_calculus.specs.Run.{operates}
use Rattle.jl_calculus.specs.Statics.{is_bad_parameter}
use Rattle.jl_history.proofs.LineTexts.{IsLine, AreLines, line_at}
use Rattle.jl_history.proofs.NameTexts.{names_of_fields}
use Rattle.jl_history.proofs.ValueTexts.{IsNamed, IsTold}

-- each outcome that an operation may have
abbrev pub Tells : Answer → Type 0
Tells A = (o : Outcome) → A o → IsTold o

abbrev Names : Refusal → Type 0
Names row = (e : Fault) → row e → IsNamed e

refuse_tells : (row : Refusal) (rest : Answer) → Names row → Tells rest → Tells (refuse row rest)
refuse_tells row rest h k o (inl (e, r, is)) = subst IsTold (sym is) (h e r)
refuse_tells row rest h k o (inr (none_is, r)) = k o r

fault_names : (e : Fault) (A : Type 0) → IsNamed e → Names (fault_where e A)
fault_names e A h f r = subst IsNamed (sym r.0) h

give_tells : (x : Value) → Tells (give x)
give_tells x o r = subst IsTold (sym r) tt

tell_tells : (A : Type 0) → Tells (tell A)
tell_tells A o (b, i, e) = subst IsTold (sym e) tt

bad_names : (ds : List Decl) (ts : List Ty) → Names (is_bad_parameter ds ts)
bad_names ds ts e (t, u, broken, settled, is) = subst IsNamed (sym is) tt

part_tells : (o : Option Datum) (e : Fault) → IsNamed e → IsTold (part_or o e)
part_tells None e h = h
part_tells (Some d) e h = tt

limit_tells : (ds : List Decl) (x : Value) → Tells (within_limits ds x)
limit_tells ds x = refuse_tells _ _ (fault_names F.ValueLimit _ tt) (give_tells x)

pub tuple_tells : (ds : List Decl) (vs : List Value) → Tells (make_tuple ds vs)
tuple_tells ds vs = refuse_tells _ _ (fault_names F.TypeLimit _ tt) (limit_tells ds _)

pub field_tells : (ds : List Decl) (name : List ℕ) (x : Value) → IsLine name → IsTold (field_of ds name x)
field_tells ds name x h = part_tells _ _ h

pub part_of_tells : (ds : List Decl) (number : ℕ) (x : Value) → IsTold (part_of ds number x)
part_of_tells ds number x = part_tells _ _ tt

type_tells : (ds : List Decl) (t : Written) (rest : Answer) → Tells rest → Tells (with_type ds t rest)
type_tells ds t rest h = refuse_tells _ _ (fault_names F.TypeLimit _ tt) (refuse_tells _ _ (bad_names ds _) h)

pub test_tells : (ds : List Decl) (statics : List Ty) (x : Value) (t : Written) → Tells (test_type ds statics x t)
test_tells ds statics x t = type_tells ds _ _ (tell_tells _)

pub order_tells : (ds : List Decl) (statics : List Ty) (t u : Written) → Tells (test_order ds statics t u)
order_tells ds statics t u = refuse_tells _ _ (fault_names F.TypeLimit _ tt) (refuse_tells _ _ (bad_names ds _) (tell_tells _))

pub same_tells : (negated : Bool) (x y : Value) → Tells (test_same negated x y)
same_tells negated x y = tell_tells _

pub inferred_tells : (ds : List Decl) (name : ℕ) (vs : List Value) → Tells (make_inferred ds name vs)
inferred_tells ds name vs = refuse_tells _ _ (fault_names _ _ tt) (refuse_tells _ _ (fault_names F.TypeLimit _ tt) (limit_tells ds _))

module _ (P : Program) (v : IsValid P) where
  names_at : (y : Ty-F Ty) → AreLines (map (λ (f : Field). f.name) (fields_step (all_types P) y))
  names_at Any = tt
  names_at (Union ts) = tt
  names_at (Tuple ts) = tt
  names_at (Nominal k ts) = names_of_fields P v k
  names_at (Var n) = tt

  field_names : (t : Ty) (vs : List Value) → Names (is_field_type (all_types P) t vs)
  field_names t vs e (i, is_first, is) = subst IsNamed (sym is) (line_at (map (λ (f : Field). f.name) (fields_at (all_types P) t)) (names_at (out-Ty t)) i)

  struct_tells : (t : Ty) (vs : List Value) → Tells (make_struct (all_types P) t vs)
  struct_tells t vs = refuse_tells _ _ (fault_names _ _ tt) (refuse_tells _ _ (field_names t vs) (limit_tells (all_types P) _))

  pub written_tells : (statics : List Ty) (t : Written) (vs : List Value) → Tells (make_written (all_types P) statics t vs)
  written_tells statics t vs = type_tells (all_types P) _ _ (refuse_tells _ _ (fault_names F.TypeLimit _ tt) (λ o r. struct_tells r.0 vs o r.2))

-- ---- the operations of the prelude

choose_told : (b : Bool) (o p : Outcome) → IsTold o → IsTold p → IsTold (cond b o p)
choose_told true o p h k = h
choose_told false o p h k = k

meaning_told : (x : Operation) (a b : ℤ) → IsTold (meaning x a b)
meaning_told P.Add a b = tt
meaning_told P.Subtract a b = tt
meaning_told P.Multiply a b = tt
meaning_told P.Divide a b =
    choose_told (int_eq b (pos 0)) (O.Error F.DivideError) (cond (overflows a b) (O.Error F.DivideError) (number (int_div a b))) tt
    (choose_told (overflows a b) (O.Error F.DivideError) (number (int_div a b)) tt tt)
meaning_told P.Remainder a b = choose_told (int_eq b (pos 0)) (O.Error F.DivideError) (number (int_rem a b)) tt tt
meaning_told P.Negate a b = tt
meaning_told P.Equal a b = tt
meaning_told P.NotEqual a b = tt
meaning_told P.Less a b = tt
meaning_told P.LessEqual a b = tt
meaning_told P.Greater a b = tt
meaning_told P.GreaterEqual a b = tt
meaning_told P.Not a b = tt
meaning_told P.EqualTruths a b = tt

option_told : (o : Option Operation) (a b : ℤ) → IsTold (meaning_if o a b)
option_told None a b = tt
option_told (Some x) a b = meaning_told x a b

pub operates_told : (n : ℕ) (vs : List Value) → IsTold (operates n vs)
operates_told n vs = option_told (operation_of n) _ _
