-- What is said of the types that stand in the bodies and signatures of a script where no fault stands.
use Rattle.std.specs.Prelude.{◌≡◌, Bool, true, false, nat_lt, IsTrue, List, length, get_or, None}
use Rattle.std.specs.List.{flat_map, list_all}
use Rattle.jl_model.specs.declared.ty.Decl.{Decl}
use Rattle.jl_model.specs.Refusals.{bound_types}
use Rattle.jl_model.specs.Rows.{vars_in}
use Rattle.jl_model.specs.SigRefusals.{types_in}
use Rattle.jl_model.specs.Valid.{is_known}
use Rattle.jl_program.specs.BodyTypes.{is_seen, is_made}
use Rattle.jl_program.specs.Scope.{in_body}
use Rattle.jl_grammar.specs.declared.tree.Head.{Head}
use Rattle.jl_model.specs.declared.ty.Written.{Written}
use Rattle.jl_written.specs.declared.reading.TypeVar.{TypeVar}
use Rattle.jl_resolve_forms.specs.declared.state.Signed.{Signed}
use Rattle.jl_resolve_forms.specs.declared.state.State.{State}
use Rattle.jl_resolve_forms.specs.Expressions.{static_parameters}
use Rattle.jl_resolve_forms.specs.Resolver.{Resolution}
use Rattle.jl_resolve_forms.specs.TypesIn.{Tests}
use Rattle.jl_type_laws.specs.Carried.{Visible, WhereUsable}

-- each static parameter that a body may use is flagged
abbrev pub StaticsFit : List Bool → List TypeVar → Type 0
StaticsFit flags vs = Visible (WhereUsable (λ n. get_or flags n false ≡ true)) vs

-- A type in a body, read from the state s on: no fault stands before it, it may stand where these static parameters are
-- visible, and nothing refuses it.
pub record IsSeenType (t : Tests) (ds : List Decl) (flags : List Bool) (s : State) (w : Resolution Written) : Type 0 where
  pub unfaulted : s.fault ≡ None
  pub seen : IsTrue (is_seen ds flags w.value)
  pub allowed : t.body w.value ≡ None

-- the type of an explicit constructor: such a type, and one of a declared struct without variables of its own
pub record IsMadeType (t : Tests) (ds : List Decl) (flags : List Bool) (s : State) (w : Resolution Written) : Type 0 where
  pub type : IsSeenType t ds flags s w
  pub made : IsTrue (is_made ds w.value)

-- The signature of a deletion: it has no variables but its own, names types of the program, and nothing refuses it.
pub record IsGoodDeletion (t : Tests) (ds : List Decl) (g : Signed) : Type 0 where
  pub own : IsTrue (list_all (λ v. nat_lt v (length g.sig.vars)) (flat_map vars_in g.sig.parts))
  pub own_bounds : IsTrue (list_all (λ v. nat_lt v (length g.sig.vars)) (flat_map vars_in (bound_types g.sig.vars)))
  pub known : IsTrue (list_all (is_known (length ds)) (types_in g.sig))
  pub allowed : t.signature g.sig ≡ None

-- A signature: it has no variables but its own, names types of the program, nothing refuses it, it has a type for each
-- parameter, and what a body may use of its variables is flagged there.
pub record IsGoodSignature (t : Tests) (ds : List Decl) (h : Head) (g : Signed) : Type 0 where
  pub own : IsTrue (list_all (λ v. nat_lt v (length g.sig.vars)) (flat_map vars_in g.sig.parts))
  pub own_bounds : IsTrue (list_all (λ v. nat_lt v (length g.sig.vars)) (flat_map vars_in (bound_types g.sig.vars)))
  pub known : IsTrue (list_all (is_known (length ds)) (types_in g.sig))
  pub allowed : t.signature g.sig ≡ None
  pub counted : length h.params ≡ length g.sig.parts
  pub statics : StaticsFit (in_body g.sig).view.statics (static_parameters g.sig g.vars)
