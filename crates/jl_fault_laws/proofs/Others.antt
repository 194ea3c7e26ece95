-- Where tests answer by faults of types, no use is refused for its types by a fault of the rows of names.
use Rattle.std.proofs.Common.{ℕ, Bool, true, false, cond, not, ◌||◌, nat_eq, List, [], map, length, ◌≡◌, Option, Some, None, refl, subst, slice_get}
use Rattle.jl_model.specs.Valid.{params_of}
use Rattle.jl_typeread.specs.declared.tree.ArgText.{ArgText}
use Rattle.jl_typeread.specs.declared.tree.TypeText.{TypeText}
use Rattle.jl_typeread.specs.declared.tree.ArgText.TheViews.{out-TypeText}
use Rattle.jl_grammar.specs.declared.tree.Head.{Head}
use Rattle.jl_written.specs.declared.fault.StaticKind.{StaticKind}
use Rattle.jl_written.specs.declared.fault.StaticKind.TheVariants as kind
use Rattle.jl_written.specs.Signatures.{adopt_bounds, written_of, signature, tuple_signature, body_type, constructor_type}
use Rattle.jl_resolve_forms.specs.declared.known.Known.{Known}
use Rattle.jl_resolve_forms.specs.Expressions.{type_of, make_args, is_signature, signature_args, signature_vars, inferred_refusal}
use Rattle.jl_resolve_forms.specs.Parameters.{has_usable_parameters_at}
use Rattle.jl_resolve_forms.specs.TypesIn.{Tests, one_type}
use Rattle.jl_fault_laws.specs.Uses.{Visible, How, called, built, defined, plain_type, written, deleted_by, Use, alone_uses, args_uses, tuple_uses, signature_uses}
use Rattle.jl_fault_laws.specs.Rows.{has_row, IsOtherKind, TellTypes}
use Rattle.jl_fault_laws.specs.TypeRows.{declared_before, struct_called, struct_built, statics_at, is_barred, any_hides, unless_hidden, unless_misplaced, deleted_at, deleted_refusal, signature_refusal, type_refusal, built_refusal, call_refusal, refused_by}

misplaced_other : (b : Bool) (o : Option StaticKind) → IsOtherKind o → IsOtherKind (unless_misplaced b o)
misplaced_other true o h = refl
misplaced_other false o h = h

hidden_other : (us : List Use) (o : Option StaticKind) → IsOtherKind o → IsOtherKind (unless_hidden us o)
hidden_other us o h = by (any_hides us)
  where
    by : (b : Bool) → IsOtherKind (cond b None o)
    by true = tt
    by false = h

counted_other : (b : Bool) (o : Option StaticKind) → IsOtherKind o → IsOtherKind (cond b (Some kind.WrongParameterCount) o)
counted_other true o h = refl
counted_other false o h = h

module _ (t : Tests) (k : Known) (q : TellTypes t) where
  signature_other : (h : Head) (v : Visible) → IsOtherKind (signature_refusal t k h v)
  unfolding signature_refusal
  signature_other h v =
      let ts = (signature (declared_before k v.types) (map type_of h.params) h.vars).types in
      let w = written_of t.below ts in
      misplaced_other ts.after.misplaced (unless_hidden (signature_uses h v) (t.signature w)) (hidden_other (signature_uses h v) (t.signature w) (q.signature w))

  deleted_other : (text : TypeText) (v : Visible) → IsOtherKind (deleted_refusal t k text v)
  unfolding deleted_refusal deleted_at
  deleted_other text v =
      let l = out-TypeText text in
      let ts = (tuple_signature (declared_before k v.types) (signature_args l) (signature_vars l)).types in
      let w = written_of t.below ts in
      let us = tuple_uses (signature_args l) (signature_vars l) v in
      by (is_signature l) (unless_misplaced ts.after.misplaced (unless_hidden us (t.signature w)))
      (misplaced_other ts.after.misplaced (unless_hidden us (t.signature w)) (hidden_other us (t.signature w) (q.signature w)))
    where
      by : (b : Bool) (o : Option StaticKind) → IsOtherKind o → IsOtherKind (cond b o (Some kind.BadType))
      by true o h = h
      by false o h = refl

  type_other : (text : TypeText) (v : Visible) → IsOtherKind (type_refusal t k text v)
  unfolding type_refusal
  type_other text v =
      let ty = body_type (declared_before k v.types) (statics_at t k v) text in
      let w = one_type ty.ty (adopt_bounds t.below ty.after.places ty.after.vars) in
      misplaced_other ty.after.misplaced (unless_hidden (alone_uses text v) (t.body w)) (hidden_other (alone_uses text v) (t.body w) (q.body w))

  built_other : (p : Option ℕ) (xs : List ArgText) (v : Visible) → IsOtherKind (built_refusal t k p xs v)
  unfolding built_refusal
  built_other None xs v = tt
  built_other (Some p) xs v =
      let bs = params_of (slice_get k.decls p) in
      let ty = constructor_type (declared_before k v.types) p bs (statics_at t k v) xs in
      let w = one_type ty.ty [] in
      let us = args_uses xs v in
      let b = not (nat_eq (length ty.after.vars) 0) || not (nat_eq (length xs) (length bs)) in
      misplaced_other ty.after.misplaced (cond b (Some kind.WrongParameterCount) (unless_hidden us (t.body w)))
      (counted_other b (unless_hidden us (t.body w)) (hidden_other us (t.body w) (q.body w)))

  inferred_other : (p : ℕ) → IsOtherKind (inferred_refusal t k p)
  inferred_other p = by (has_usable_parameters_at (slice_get k.decls p))
    where
      last : (b : Bool) → IsOtherKind (cond b (Some kind.TypeLimit) None)
      last true = refl
      last false = tt

      by : (b : Bool) → IsOtherKind (cond b (cond (t.wide p) (Some kind.TypeLimit) None) (Some kind.StaticParameterUse))
      by true = last (t.wide p)
      by false = refl

  call_other : (p : Option ℕ) → IsOtherKind (call_refusal t k p)
  call_other None = tt
  call_other (Some p) = by (nat_eq (length (params_of (slice_get k.decls p))) 0)
    where
      by : (b : Bool) → IsOtherKind (cond b None (inferred_refusal t k p))
      by true = tt
      by false = inferred_other p

  barred_other : (b : Bool) → IsOtherKind (cond b (Some kind.StaticParameterUse) None)
  barred_other true = refl
  barred_other false = tt

  by_use : (h : How) (v : Visible) → IsOtherKind (refused_by t k h v)
  by_use (called f n) v = call_other (struct_called k f v.names)
  by_use (built text) v = built_other (struct_built k (out-TypeText text) v.names) (make_args (out-TypeText text)) v
  by_use (defined h) v = signature_other h v
  by_use (plain_type n) v = barred_other (is_barred t k n v)
  by_use (written text) v = type_other text v
  by_use (deleted_by text) v = deleted_other text v
  by_use _ v = tt

  pub refused_other : (h : How) (v : Visible) (x : StaticKind) → refused_by t k h v ≡ Some x → has_row x ≡ false
  refused_other h v x e = subst IsOtherKind e (by_use h v)
