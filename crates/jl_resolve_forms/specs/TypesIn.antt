-- Types that are written in bodies, and in explicit constructors.
use Rattle.std.specs.Prelude.{ℕ, Bool, ◌||◌, not, if◌then◌else◌, nat_eq, List, [], ◌∷◌, take, length, Option, Some, None, slice_get}
use Rattle.jl_model.specs.declared.ty.Ty.{Ty}
use Rattle.jl_model.specs.declared.ty.Bound.{Bound}
use Rattle.jl_model.specs.declared.ty.Decl.{Decl}
use Rattle.jl_model.specs.declared.ty.Written.{Written}
use Rattle.jl_model.specs.Valid.{params_of}
use Rattle.jl_typeread.specs.declared.tree.ArgText.{ArgText}
use Rattle.jl_typeread.specs.declared.tree.TypeText.{TypeText}
use Rattle.jl_typeread.specs.declared.tree.VarText.{VarText}
use Rattle.jl_typeread.specs.declared.tree.ArgText.TheOpen as F
use Rattle.jl_typeread.specs.declared.tree.ArgText.TheOpen.{TypeText-F}
use Rattle.jl_typeread.specs.declared.tree.ArgText.TheViews.{out-TypeText}
use Rattle.jl_written.specs.declared.fault.StaticKind.{StaticKind}
use Rattle.jl_written.specs.declared.fault.StaticKind.TheVariants as kind
use Rattle.jl_written.specs.declared.reading.Reading.{Reading}
use Rattle.jl_written.specs.Reads.{Typed}
use Rattle.jl_written.specs.Signatures.{adopt_bounds, body_type, constructor_type}
use Rattle.jl_resolve_forms.specs.declared.known.Known.{Known}
use Rattle.jl_resolve_forms.specs.declared.state.Scope.{Scope}
use Rattle.jl_resolve_forms.specs.Resolver.{Resolver, pure, modify, ◌>>◌}
use Rattle.jl_resolve_forms.specs.Scopes.{note_if, merge_fault}

-- What is asked of the table of declarations: whether a declared upper bound is below a bound; what refuses a signature, and a
-- type in a body; and whether the signature of a struct's fields is too large.
pub record Tests : Type 0 where
  pub below : Ty → Ty → Bool
  pub signature : Written → Option StaticKind
  pub body : Written → Option StaticKind
  pub wide : ℕ → Bool

-- the types that are declared before a place
abbrev pub declared_at : Known → ℕ → List Decl
declared_at k types = take types k.decls

-- What refuses a written type or signature: a variable that is brought in an invariant place of another nominal type, which
-- the text tells alone; or, where each name in it means something, what refuses it as a term.
abbrev pub refusal : (Written → Option StaticKind) → Reading → Written → Option StaticKind
refusal test r w = if r.misplaced then Some kind.VariablePlace else (if r.unclear then None else test w)

-- where a type begins
abbrev pub start_of_layer : TypeText-F ArgText TypeText VarText → ℕ
start_of_layer (F.Name at n) = at
start_of_layer (F.Applied at n xs) = at
start_of_layer (F.Paren at t vs) = at

abbrev pub start_of : TypeText → ℕ
start_of t = start_of_layer (out-TypeText t)

abbrev pub one_type : Ty → List Bound → Written
one_type t vars = record { vars = vars; parts = t ∷ [] }

-- in an explicit constructor all arguments are written, and none is a fresh variable
abbrev pub make_refusal : (Written → Option StaticKind) → Bool → Reading → Written → Option StaticKind
make_refusal test counted r w =
    if r.misplaced then Some kind.VariablePlace
    else (if not (nat_eq (length r.vars) 0) || not counted then Some kind.WrongParameterCount else (if r.unclear then None else test w))

-- a type in a body, which begins here
abbrev pub type_at : Tests → ℕ → Typed → Resolver Written
type_at t at ty = do
  let w = one_type ty.ty (adopt_bounds t.below ty.after.places ty.after.vars)
  modify (merge_fault ty.after.fault)
  modify (note_if at (refusal t.body ty.after w))
  pure w

-- the type of an explicit constructor, which begins here, where its arguments are as many as declared or not
abbrev pub make_type : Tests → ℕ → Typed → Bool → Resolver Written
make_type t at ty counted = do
  let w = one_type ty.ty []
  modify (merge_fault ty.after.fault)
  modify (note_if at (make_refusal t.body counted ty.after w))
  pure w

module _ (t : Tests) (k : Known) where
  -- a type in a body
  unfoldable pub type_in_body : TypeText → Scope → Resolver Written
  type_in_body text c = type_at t (start_of text) (body_type (declared_at k c.types) c.statics text)

  -- the type of an explicit constructor, whose struct has number p
  unfoldable pub make_at : ℕ → ℕ → List ArgText → Scope → Resolver Written
  make_at at p xs c =
      let bs = params_of (slice_get k.decls p) in
      make_type t at (constructor_type (declared_at k c.types) p bs c.statics xs) (nat_eq (length xs) (length bs))
