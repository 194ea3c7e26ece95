-- Rows of types in the table of static faults: what refuses a signature, a type in a body and a constructor, and which type variables a
-- body may not use (docs/LANGUAGE.md, Faults of a script).
use Rattle.std.specs.Prelude.{ℕ, Bool, false, ◌&&◌, ◌||◌, not, if◌then◌else◌, nat_eq, List, [], ◌∷◌, ◌++◌, map, take, length, Option, Some, None, slice_get, ◌≡◌}
use Rattle.jl_model.specs.declared.ty.Decl.{Decl}
use Rattle.jl_model.specs.Valid.{params_of}
use Rattle.jl_program.specs.Names.{is_among}
use Rattle.jl_typeread.specs.declared.tree.ArgText.{ArgText}
use Rattle.jl_typeread.specs.declared.tree.TypeText.{TypeText}
use Rattle.jl_typeread.specs.declared.tree.VarText.{VarText}
use Rattle.jl_typeread.specs.declared.tree.ArgText.TheOpen as T
use Rattle.jl_typeread.specs.declared.tree.ArgText.TheOpen.{TypeText-F}
use Rattle.jl_typeread.specs.declared.tree.ArgText.TheViews.{out-TypeText}
use Rattle.jl_grammar.specs.declared.tree.Callee.{Callee}
use Rattle.jl_grammar.specs.declared.tree.Callee.TheVariants as C
use Rattle.jl_grammar.specs.declared.tree.Head.{Head}
use Rattle.jl_grammar.specs.declared.tree.Item.{Item}
use Rattle.jl_written.specs.declared.fault.Fault.{Fault}
use Rattle.jl_written.specs.declared.fault.StaticKind.{StaticKind}
use Rattle.jl_written.specs.declared.fault.StaticKind.TheVariants as kind
use Rattle.jl_written.specs.declared.reading.TypeVar.{TypeVar}
use Rattle.jl_written.specs.Meaning.{place_of, var_of}
use Rattle.jl_written.specs.Signatures.{Signature, adopt_bounds, written_of, signature, tuple_signature, body_type, constructor_type}
use Rattle.jl_resolve_forms.specs.declared.known.Known.{Known}
use Rattle.jl_resolve_forms.specs.declared.state.Signed.{Signed}
use Rattle.jl_resolve_forms.specs.Expressions.{type_of, make_args, is_signature, signature_args, signature_vars, judge_signature, static_parameters, inferred_refusal}
use Rattle.jl_resolve_forms.specs.Functions.{if_struct}
use Rattle.jl_resolve_forms.specs.TypesIn.{Tests, one_type}
use Rattle.jl_fault_laws.specs.Uses.{Names, Visible, How, called, built, defined, plain_type, written, deleted_by, Use, names_told, type_names, alone_uses, args_uses, tuple_uses, signature_uses, uses_of}
use Rattle.jl_fault_laws.specs.Rows.{unknown_type, rebound}

-- the first declared types, as many as have a visible name
abbrev pub declared_before : Known → Names → List Decl
declared_before k types = take (length types) k.decls

-- the struct of a name that no variable hides
abbrev pub struct_at : Known → List ℕ → Names → Option ℕ
struct_at k n vs = if is_among n vs then None else if_struct k.decls (place_of (type_names k.decls) n)

-- the struct that a call names
abbrev pub struct_called : Known → Callee → Names → Option ℕ
struct_called k (C.Plain n) vs = struct_at k n.bytes vs
struct_called k (C.Base at n) vs = None
struct_called k (C.Operator at o) vs = None

-- the struct that a call with braces names
abbrev pub struct_built : Known → TypeText-F ArgText TypeText VarText → Names → Option ℕ
struct_built k (T.Name at n) vs = struct_at k n vs
struct_built k (T.Applied at n xs) vs = struct_at k n vs
struct_built k (T.Paren at t ws) vs = None

-- not every call gives it a value
abbrev pub is_idle : Option TypeVar → Bool
is_idle None = false
is_idle (Some x) = not x.usable

-- A name that means no type, or a type variable that is bound twice, hides what else refuses the text around it.
abbrev pub hides : Use → Bool
hides u = unknown_type u.how u.visible || rebound u.how u.visible

-- one of these does
abbrev pub any_hides : List Use → Bool
any_hides [] = false
any_hides (u ∷ us) = hides u || any_hides us

-- what is answered, where none of these uses hides it
abbrev pub unless_hidden : List Use → Option StaticKind → Option StaticKind
unless_hidden us o = if any_hides us then None else o

-- a variable that is brought where none may be comes first
abbrev pub unless_misplaced : Bool → Option StaticKind → Option StaticKind
unless_misplaced misplaced o = if misplaced then Some kind.VariablePlace else o

-- what the type of a deletion means as a signature after these types
unfoldable pub deleted_at : Known → TypeText → Names → Signature
deleted_at k text types = tuple_signature (declared_before k types) (signature_args (out-TypeText text)) (signature_vars (out-TypeText text))

module _ (t : Tests) (k : Known) where
  -- what the signature of a method means after these types
  unfoldable pub signature_at : Head → Names → Signed
  signature_at h types = judge_signature t (signature (declared_before k types) (map type_of h.params) h.vars)

  -- the type variables of a method, with whether its body may use them
  unfoldable pub statics_of : Head → Names → List TypeVar
  statics_of h types = let g = signature_at h types in static_parameters g.sig g.vars

  -- outside of a method's body there are none
  abbrev pub statics_in : Option Head → Names → List TypeVar
  statics_in None types = []
  statics_in (Some h) types = statics_of h types

  -- those that a place sees
  abbrev pub statics_at : Visible → List TypeVar
  statics_at v = statics_in v.method v.types

  -- a type variable of the method, which none of the type hides, and which its body may not use
  abbrev pub is_barred : List ℕ → Visible → Bool
  is_barred n v = not (is_among n v.inner) && is_idle (var_of (statics_at v) n)

  -- what refuses the signature of a method
  unfoldable pub signature_refusal : Head → Visible → Option StaticKind
  signature_refusal h v =
      let ts = (signature (declared_before k v.types) (map type_of h.params) h.vars).types in
      unless_misplaced ts.after.misplaced (unless_hidden (signature_uses h v) (t.signature (written_of t.below ts)))

  -- what refuses a type in a body
  unfoldable pub type_refusal : TypeText → Visible → Option StaticKind
  type_refusal text v =
      let ty = body_type (declared_before k v.types) (statics_at v) text in
      unless_misplaced ty.after.misplaced (unless_hidden (alone_uses text v) (t.body (one_type ty.ty (adopt_bounds t.below ty.after.places ty.after.vars))))

  -- what refuses the type of a struct with these arguments in braces: they must be as many as declared, and bring no variable
  unfoldable pub built_refusal : Option ℕ → List ArgText → Visible → Option StaticKind
  built_refusal None xs v = None
  built_refusal (Some p) xs v =
      let bs = params_of (slice_get k.decls p) in
      let ty = constructor_type (declared_before k v.types) p bs (statics_at v) xs in
      unless_misplaced ty.after.misplaced
      (if not (nat_eq (length ty.after.vars) 0) || not (nat_eq (length xs) (length bs)) then Some kind.WrongParameterCount
      else unless_hidden (args_uses xs v) (t.body (one_type ty.ty [])))

  -- what refuses a struct that is called without braces: where it has parameters, these are inferred
  abbrev pub call_refusal : Option ℕ → Option StaticKind
  call_refusal None = None
  call_refusal (Some p) = if nat_eq (length (params_of (slice_get k.decls p))) 0 then None else inferred_refusal t k p

  -- what refuses the type of a deletion: it must be a tuple, and its signature one that is allowed
  unfoldable pub deleted_refusal : TypeText → Visible → Option StaticKind
  deleted_refusal text v =
      let ts = (deleted_at k text v.types).types in
      if is_signature (out-TypeText text)
      then unless_misplaced ts.after.misplaced (unless_hidden (tuple_uses (signature_args (out-TypeText text)) (signature_vars (out-TypeText text)) v) (t.signature (written_of t.below ts)))
      else Some kind.BadType

  -- what refuses a use for its types
  abbrev pub refused_by : How → Visible → Option StaticKind
  refused_by (called f n) v = call_refusal (struct_called k f v.names)
  refused_by (built text) v = built_refusal (struct_built k (out-TypeText text) v.names) (make_args (out-TypeText text)) v
  refused_by (defined h) v = signature_refusal h v
  refused_by (plain_type n) v = if is_barred n v then Some kind.StaticParameterUse else None
  refused_by (written text) v = type_refusal text v
  refused_by (deleted_by text) v = deleted_refusal text v
  refused_by _ v = None

-- one of these uses is refused for its types, and the fault stands there
pub record RefusedIn (t : Tests) (k : Known) (us : List Use) (f : Fault) : Type 0 where
  pub before : List Use
  pub use_ : Use
  pub behind : List Use
  pub is : us ≡ before ++ use_ ∷ behind
  pub place : use_.at ≡ f.at
  pub row : refused_by t k use_.how use_.visible ≡ Some f.kind

-- a use in items is refused for its types
abbrev pub RefusedAt : Tests → Known → List Item → Fault → Type 0
RefusedAt t k items f = RefusedIn t k (uses_of (names_told k) items) f
