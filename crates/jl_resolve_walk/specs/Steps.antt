-- The steps of forms that go over other parts in their midst: what is done before the parts are read, and behind them.
use Rattle.std.specs.Prelude.{◌≡◌, ℕ, ◌+◌, List, ◌++◌, Option, Some, None, Result, Ok, IfOk}
use Rattle.jl_model.specs.declared.ty.Written.{Written}
use Rattle.jl_program.specs.declared.tree.Expr.{Expr as Code}
use Rattle.jl_program.specs.declared.tree.Expr.TheVariants as W
use Rattle.jl_program.specs.declared.tree.Expr.TheViews as X
use Rattle.jl_program.specs.declared.tree.Program.{Program}
use Rattle.jl_typeread.specs.declared.tree.TypeText.{TypeText}
use Rattle.jl_typeread.specs.declared.tree.ArgText.TheViews.{out-TypeText}
use Rattle.jl_written.specs.declared.fault.Fault.{Fault}
use Rattle.jl_written.specs.declared.fault.StaticKind.TheVariants as kind
use Rattle.jl_resolve_forms.specs.declared.known.Known.{Known}
use Rattle.jl_resolve_forms.specs.declared.state.Scope.{Scope}
use Rattle.jl_resolve_forms.specs.Resolver.{Resolution, Resolver, resolution, pure, modify, ◌>>=◌, ◌>>◌}
use Rattle.jl_resolve_forms.specs.Scopes.{note}
use Rattle.jl_resolve_forms.specs.TypesIn.{Tests, start_of, type_in_body, make_at}
use Rattle.jl_resolve_forms.specs.Top.{Resolved}
use Rattle.jl_resolve_forms.specs.Expressions.{make_struct, make_args}

-- something is made only of what was made
abbrev pub Gives : {A B E : Type 0} → Result A E → Result B E → (A → B → Type 0) → Type 0
Gives {A} made result P = IfOk result (λ b. (a : A) × (made ≡ Ok a) × P a b)

-- the type of an explicit constructor, where its name is that of a struct
abbrev pub begin_make_at : Tests → Known → TypeText → Option ℕ → Scope → Resolver (Option Written)
begin_make_at t k ty None c = pure None
begin_make_at t k ty (Some p) c = do
  w ← make_at t k (start_of ty) p (make_args (out-TypeText ty)) c
  pure (Some w)

abbrev pub begin_make : Tests → Known → TypeText → Scope → Resolver (Option Written)
begin_make t k ty c = begin_make_at t k ty (make_struct k (out-TypeText ty) c) c

-- an explicit constructor, whose arguments are read
abbrev pub end_make : ℕ → Option Written → List Code → Resolver Code
end_make at None xs = do
  modify (note at kind.UnknownFunction)
  pure W.Nothing
end_make at (Some w) xs = pure (X.Make w xs)

-- a test of a value's type, whose value is read
abbrev pub test_type : Tests → Known → Code → TypeText → Scope → Resolver Code
test_type t k y ty c = do
  w ← type_in_body t k ty c
  pure (X.Isa y w)

-- parts behind others
abbrev pub parts_behind : {A : Type 0} → List A → Resolution (List A) → Resolution (List A)
parts_behind done r = resolution (done ++ r.value) r.after

-- the same with what is visible after them
abbrev pub scoped_behind : {A : Type 0} → List A → Resolution (List A × Scope) → Resolution (List A × Scope)
scoped_behind done r = resolution (done ++ r.value.0, r.value.1) r.after

-- behind a declaration one type more is declared
abbrev pub one_type_more : Scope → Scope
one_type_more c = record c { types = c.types + 1 }

-- a program, and the first fault of its text
abbrev pub resolved_as : Program → Option Fault → Resolved
resolved_as p f = record { program = p; fault = f }
