-- The types of explicit constructors: where no fault stands they are struct types that may stand there.
use Rattle.std.proofs.Common.{◌≡◌, ◌∙◌, ap, refl, ℕ, zero, suc, ◌<◌, arith, Bool, true, false, ◌||◌, not, cond, nat_eq, nat_le, nat_lt, List, [], ◌∷◌, map, length, Option, None, Some, slice_get}
use Rattle.std.specs.List.{list_all}
use Rattle.jl_model.specs.declared.ty.Ty.TheViews.{out-Ty, outs-Nominal}
use Rattle.jl_model.specs.declared.ty.Decl.{Decl}
use Rattle.jl_model.specs.Ancestors.{is_struct_kind}
use Rattle.std.specs.List.{flat_map}
use Rattle.jl_model.specs.Rows.{vars_in}
use Rattle.jl_model.specs.SigRefusals.{types_in}
use Rattle.jl_model.specs.Valid.{is_known, params_of}
use Rattle.jl_model.proofs.FormLemmas.{vars-nominal}
use Rattle.jl_model.proofs.KnownLemmas.{known-nominal}
use Rattle.jl_model.proofs.PutLemmas.{and_r, both_true}
use Rattle.jl_program.specs.BodyTypes.{may_stand, is_struct, is_struct_type}
use Rattle.jl_typeread.specs.declared.tree.ArgText.{ArgText}
use Rattle.jl_written.specs.declared.fault.StaticKind.{StaticKind}
use Rattle.jl_written.specs.declared.fault.StaticKind.TheVariants as kind
use Rattle.jl_written.specs.declared.reading.Reading.{Reading}
use Rattle.jl_written.specs.Reads.{seen, no_reading, arg_reads, read_arguments}
use Rattle.jl_written.specs.Signatures.{shifted, constructor_type}
use Rattle.jl_resolve_forms.specs.declared.known.Known.{Known}
use Rattle.jl_resolve_forms.specs.declared.state.Scope.{Scope}
use Rattle.jl_resolve_forms.specs.declared.state.State.{State}
use Rattle.jl_resolve_forms.specs.Scopes.{merge_fault}
use Rattle.jl_resolve_forms.specs.TypesIn.{Tests, declared_at, make_refusal, one_type, make_type, make_at}
use Rattle.jl_type_laws.specs.Carried.{vars_pass}
use Rattle.jl_type_laws.specs.Scripts.{DeclsKnown}
use Rattle.jl_type_laws.specs.Told.{StaticsFit, IsMadeType}
use Rattle.jl_type_laws.proofs.CarryLemmas.{lt_true, all_pass, params_have, all_flat, closed_params}
use Rattle.jl_type_laws.proofs.ReadLemmas.{read_arguments_law}
use Rattle.jl_type_laws.proofs.BodyLemmas.{note_if_none, merge_fault_none, known_at, vars_at, shifted_fit, all_visible, nothing_has}

-- what a constructor's type is not refused by
record Untold (r : Reading) (o : Option StaticKind) : Type 0 where
  pub none : length r.vars ≡ 0
  pub right : o ≡ None

zero_of : (n : ℕ) (counted : Bool) → (not (nat_eq n 0) || not counted) ≡ false → n ≡ 0
zero_of zero counted e = refl
zero_of (suc n) counted e = absurd (wrong (nat_eq (suc n) 0) counted (grind arith) e)
  where
    wrong : (a b : Bool) → a ≡ false → (not a || not b) ≡ false → ⊥
    wrong true b f g = cc
    wrong false b f g = cc

three : (misplaced other unclear : Bool) (a b : StaticKind) (o : Option StaticKind) → unclear ≡ false → cond misplaced (Some a) (cond other (Some b) (cond unclear None o)) ≡ None → (other ≡ false) × (o ≡ None)
three true other unclear a b o u e = cc
three false true unclear a b o u e = cc
three false false true a b o u e = cc
three false false false a b o u e = (refl, e)

struct_kind_below : (ds : List Decl) (p : ℕ) → is_struct_kind (slice_get ds p) ≡ true → p < length ds
struct_kind_below [] p e = cc
struct_kind_below (d ∷ ds) zero e = omega arith
struct_kind_below (d ∷ ds) (suc p) e = let h = struct_kind_below ds p e in omega (arith, h)

pub struct_below : (ds : List Decl) (p : ℕ) → is_struct ds p ≡ true → p < length ds
struct_below ds p e = struct_kind_below ds p (and_r (nat_le 8 p) (is_struct_kind (slice_get ds p)) e)

module _ (t : Tests) (k : Known) (declared : DeclsKnown k.decls) (flags : List Bool) (c : Scope) (s : State) (fit : StaticsFit flags c.statics) where
  abbrev Decls : List Decl
  Decls = declared_at k c.types

  made_step : (at p : ℕ) → is_struct k.decls p ≡ true → (xs : List ArgText) (counted : Bool)
      → (make_type t at (constructor_type Decls p (params_of (slice_get k.decls p)) c.statics xs) counted s).after.fault ≡ None
      → IsMadeType t k.decls flags s (make_type t at (constructor_type Decls p (params_of (slice_get k.decls p)) c.statics xs) counted s)
  made_step at p struct xs counted e =
      let bs = params_of (slice_get k.decls p) in
      let ty = constructor_type Decls p bs c.statics xs in
      let r = ty.after in
      let w = one_type ty.ty [] in
      let n = note_if_none at (make_refusal t.body counted r w) (merge_fault r.fault s) e in
      let m = merge_fault_none r.fault s n.1 in
      let vars = shifted 0 c.statics in
      let ts = (read_arguments bs (map (arg_reads Decls) xs) (seen vars [] false) false no_reading).tys in
      let q = may_stand 0 flags in
      let ck = known_at k.decls declared c.types in
      let cv = vars_at k.decls declared c.types q in
      let lk = read_arguments_law Decls _ _ _ _ ck bs (params_have (is_known (length k.decls)) k.decls declared.known p) xs vars false no_reading in
      let lv = read_arguments_law Decls _ _ _ _ cv bs (params_have (vars_pass q) k.decls (closed_params q k.decls declared.closed) p) xs vars false no_reading in
      let h = three r.misplaced (not (nat_eq (length r.vars) 0) || not counted) r.unclear kind.VariablePlace kind.WrongParameterCount (t.body w) (lv.grows.told m.0) n.0 in
      let none = zero_of (length r.vars) counted h.0 in
      let below : p < length k.decls = struct_below k.decls p struct in
      let known = lk.holds tt (λ v l. tt) (all_visible vars) (nothing_has _) in
      let own = lv.holds m.0 (λ v l. absurd (omega (arith, none, l))) (shifted_fit 0 0 flags c.statics refl fit) (nothing_has _) in
      let known_ty : is_known (length k.decls) ty.ty ≡ true
      = known-nominal (length k.decls) p ts
      ∙ both_true (nat_lt p (length k.decls)) (list_all (is_known (length k.decls)) ts) (lt_true p (length k.decls) below) (all_pass (is_known (length k.decls)) ts known.0) in
      let own_ty : vars_pass q ty.ty ≡ true = ap (list_all q) (vars-nominal p ts) ∙ all_flat q ts ∙ all_pass (vars_pass q) ts own.0 in
      let is_one : is_struct_type k.decls (out-Ty ty.ty) ≡ true = ap (is_struct_type k.decls) (outs-Nominal p ts) ∙ struct in
      record {
        type = record {
          unfaulted = m.1;
          seen = both_true (list_all (is_known (length k.decls)) (types_in w)) (list_all q (flat_map vars_in (types_in w)))
              (both_true (is_known (length k.decls) ty.ty) true known_ty refl)
              (all_flat q (types_in w) ∙ both_true (vars_pass q ty.ty) true own_ty refl);
          allowed = h.1;
        };
        made = both_true (is_struct_type k.decls (out-Ty ty.ty)) true is_one refl;
      }

  pub made_seen : (at p : ℕ) → is_struct k.decls p ≡ true → (xs : List ArgText) → (make_at t k at p xs c s).after.fault ≡ None → IsMadeType t k.decls flags s (make_at t k at p xs c s)
  unfolding make_at
  made_seen at p struct xs e = made_step at p struct xs (nat_eq (length xs) (length (params_of (slice_get k.decls p)))) e
