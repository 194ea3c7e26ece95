-- What is told of a written type are the faults of the uses of names in it.
use Rattle.std.proofs.Common.{ℕ, Bool, true, false, cond, not, ◌||◌, ◌&&◌, codes, nat_eq, nat_lt, List, [], ◌∷◌, ◌++◌, map, drop, length, ◌≡◌, Option, Some, None, is_some, refl, sym, ap, subst, ◌∙◌, append-nil, slice_get}
use Rattle.jl_model.specs.declared.builtin.TheConstants.{INT64}
use Rattle.jl_model.specs.declared.ty.Ty.{Ty, out-Ty}
use Rattle.jl_model.specs.declared.ty.Ty.TheOpen.{Ty-F}
use Rattle.jl_model.specs.declared.ty.Ty.TheOpen as L
use Rattle.jl_model.specs.declared.ty.Bound.{Bound}
use Rattle.jl_model.specs.declared.ty.Decl.{Decl}
use Rattle.jl_model.specs.Valid.{params_of}
use Rattle.jl_program.specs.Names.{same_text, is_among, builtin_names}
use Rattle.jl_typeread.specs.declared.tree.TypeText.{TypeText}
use Rattle.jl_typeread.specs.declared.tree.ArgText.{ArgText}
use Rattle.jl_typeread.specs.declared.tree.VarText.{VarText}
use Rattle.jl_typeread.specs.declared.tree.ArgText.TheOpen as F
use Rattle.jl_typeread.specs.declared.tree.ArgText.TheOpen.{ArgText-F, TypeText-F, VarText-F}
use Rattle.jl_typeread.specs.declared.tree.ArgText.TheFolds.{map-ArgText, map-TypeText, map-VarText, fold-roll-TypeText, fold-roll-ArgText, fold-roll-VarText}
use Rattle.jl_typeread.specs.declared.tree.ArgText.TheViews.{out-TypeText, roll-ArgText, roll-TypeText, roll-VarText}
use Rattle.jl_grammar.specs.declared.tree.Head.{Head}
use Rattle.jl_written.specs.declared.fault.Fault.{Fault}
use Rattle.jl_written.specs.declared.fault.StaticKind.{StaticKind}
use Rattle.jl_written.specs.declared.fault.StaticKind.TheVariants as kind
use Rattle.jl_written.specs.declared.reading.Named.TheVariants as N
use Rattle.jl_written.specs.declared.reading.Reading.{Reading}
use Rattle.jl_written.specs.declared.reading.Swap.{Swap}
use Rattle.jl_written.specs.declared.reading.TypeVar.{TypeVar}
use Rattle.jl_written.specs.Meaning.{place_of, var_of, var_or, meaning_of}
use Rattle.jl_written.specs.Meaning as M
use Rattle.jl_written.specs.Reads.{Typed, Types, TypeReads, ArgReads, VarReads, Seen, seen, visible, with_own, in_bound, without_places, places_behind, no_reading, note, note_unknown, missing_arguments, fresh_variable, note_place_of, note_place, read_arguments, read_members, rebound, note_builtin, bind, bind_all, bind_where, within, read_plain, read_applied, type_reads, arg_reads, var_reads}
use Rattle.jl_written.specs.Reads as R
use Rattle.jl_written.specs.Signatures.{option_reads, all_read, all_bound, parts_read, adopt_bounds, written_of, signature, tuple_signature, shifted, body_type, constructor_type, width_of}
use Rattle.jl_written.specs.TextOrder.{reorder_types, reorder_type}
use Rattle.jl_resolve_forms.specs.declared.known.Known.{Known}
use Rattle.jl_resolve_forms.specs.declared.state.Scope.{Scope}
use Rattle.jl_resolve_forms.specs.declared.state.State.{State}
use Rattle.jl_resolve_forms.specs.Scopes.{note as note_at, note_if, merge_fault}
use Rattle.jl_resolve_forms.specs.TypesIn.{Tests, declared_at, refusal, start_of, one_type, make_refusal, type_in_body, make_at}
use Rattle.jl_resolve_forms.specs.Expressions.{type_of, make_args, is_signature, signature_args, signature_vars, judge_signature, method_signature, deleted_signature, delete_signed, delete_of}
use Rattle.jl_type_laws.proofs.TextInduction.{TextCases, by_type, by_arg, by_var}
use Rattle.jl_fault_laws.specs.Uses.{Visible, Uses, Brings, type_variable, plain_type, braced_type, written, built, deleted_by, used, each, if_read, with_var, with_vars, brought, brought_by, bare, in_type, type_names, type_uses, alone_uses, args_uses, arg_uses, var_uses, option_uses, options_uses, body_uses, built_uses, tuple_uses, deleted_uses, in_head, signature_uses}
use Rattle.jl_fault_laws.specs.Uses as U
use Rattle.jl_fault_laws.specs.TypeRows.{declared_before, struct_built, is_idle, statics_at, signature_at, deleted_at, any_hides, unless_hidden, unless_misplaced, deleted_refusal, signature_refusal, type_refusal, built_refusal}
use Rattle.jl_fault_laws.proofs.Firsts.{Tells, nothing, two, same, swapped, one_fault, given, note_if_told}
use Rattle.jl_fault_laws.proofs.Faults.{one, all_faults, Pairs, TellsOf, joined, then_other}
use Rattle.jl_fault_laws.proofs.Adds.{Adds, adds_alike, note_if_same, merge_fault_same}
use Rattle.jl_fault_laws.proofs.Plain.{each_all, type_plain, args_plain, tuple_plain}
use Rattle.jl_fault_laws.proofs.Merged.{merge_fault_told}
use Rattle.jl_fault_laws.proofs.Names.{Knows, KnowsSeen, Sees, type_knows, bound_knows, none_of_own, one_seen, shifted_knows, declared_is, two_of, place_found}
use Rattle.jl_fault_laws.proofs.Hiding.{each_pairs, both_clear, ordered_clear, one_ordered_clear, alone_clear, options_clear, bound_clear, parts_clear, args_clear}
use Rattle.jl_fault_laws.proofs.Told.{AreTold, SignedTold}

-- ---- readings

missing_arguments_told : (bs : List Bound) (inside : Bool) (r : Reading) → Tells [] r.fault (missing_arguments bs inside r).after.fault
missing_arguments_told [] inside r = nothing r.fault
missing_arguments_told (b ∷ bs) inside r = missing_arguments_told bs inside (fresh_variable b inside r).after

layer_told : (high : Ty) (l : Ty-F Ty) (r : Reading) → Tells [] r.fault (note_place_of high l r).fault
layer_told high (L.Var v) r = nothing r.fault
layer_told high _ r = nothing r.fault

note_place_told : (bs : List Bound) (t : Ty) (r : Reading) → Tells [] r.fault (note_place bs t r).fault
note_place_told [] t r = nothing r.fault
note_place_told (b ∷ bs) t r = layer_told b.high (out-Ty t) r

idle_told : (at : ℕ) (b : Bool) (r : Reading) → Tells ((given (cond (not b) (Some kind.StaticParameterUse) None) at ++ []) ++ []) r.fault (R.note_use at b r).fault
idle_told at true r = nothing r.fault
idle_told at false r = one_fault (record { at = at; kind = kind.StaticParameterUse }) r.fault

note_unknown_told : (at : ℕ) (r : Reading) → Tells (record { at = at; kind = kind.UnknownType } ∷ []) r.fault (note_unknown at r).after.fault
note_unknown_told at r = one_fault (record { at = at; kind = kind.UnknownType }) r.fault

note_builtin_told : (at : ℕ) (name : List ℕ) (r : Reading) → Tells (one (is_among name builtin_names) kind.NameClash at) r.fault (note_builtin at name r).fault
note_builtin_told at name r = by (is_among name builtin_names)
  where
    by : (b : Bool) → Tells (one b kind.NameClash at) r.fault (cond b (note at kind.NameClash r) r).fault
    by true = one_fault (record { at = at; kind = kind.NameClash }) r.fault
    by false = nothing r.fault

rebound_told : (at : ℕ) (o : Option TypeVar) (r : Reading) → Tells (one (is_some o) kind.Rebound at) r.fault (rebound at o r).fault
rebound_told at None r = nothing r.fault
rebound_told at (Some v) r = one_fault (record { at = at; kind = kind.Rebound }) r.fault

where_told : (vs : List VarReads) (inside : Bool) (r : Reading) → Tells [] r.fault (bind_where vs inside r).fault
where_told [] inside r = nothing r.fault
where_told (v ∷ vs) inside r = nothing r.fault

-- the order of the text changes no fault

swap_told : (b : Bool) (s : Swap) (fs : List Fault) (o : Option Fault) (r : Reading) → Tells fs o r.fault → Tells fs o (cond b (record r { swaps = r.swaps ++ s ∷ [] }) r).fault
swap_told true s fs o r h = h
swap_told false s fs o r h = h

swapped_told : (start middle : ℕ) (fs : List Fault) (o : Option Fault) (r : Reading) → Tells fs o r.fault → Tells fs o (R.swap start middle r).fault
swapped_told start middle fs o r h = swap_told (nat_lt start middle && nat_lt middle (length r.vars)) (record { start = start; middle = middle; stop = length r.vars }) fs o r h

ordered_told : (ss : List Swap) (ts : Types) (fs : List Fault) (o : Option Fault) → Tells fs o ts.after.fault → Tells fs o (reorder_types ss ts).after.fault
ordered_told [] ts fs o h = h
ordered_told (s ∷ ss) ts fs o h = h

one_ordered_told : (ss : List Swap) (t : Typed) (fs : List Fault) (o : Option Fault) → Tells fs o t.after.fault → Tells fs o (reorder_type ss t).after.fault
one_ordered_told [] t fs o h = h
one_ordered_told (s ∷ ss) t fs o h = h

module _ (tests : Tests) (k : Known) (ds : List Decl) where
  abbrev IsType : Uses → TypeReads → Type 0
  IsType u t = (s : Seen) (v : Visible) (inside : Bool) (r : Reading) → KnowsSeen tests k s v → type_names ds ≡ v.types → TellsOf tests k (u v) r.fault (t s inside r).after.fault

  abbrev IsArg : Uses → ArgReads → Type 0
  IsArg u x = (s : Seen) (v : Visible) (outer inner : Bool) (r : Reading) → KnowsSeen tests k s v → type_names ds ≡ v.types → TellsOf tests k (u v) r.fault (x s outer inner r).after.fault

  pub record IsVar (b : Brings) (x : VarReads) : Type 0 where
    pub at : b.at ≡ x.at
    pub name : b.name ≡ x.name
    pub bounds : (s : Seen) (v : Visible) (r : Reading) → KnowsSeen tests k s v → type_names ds ≡ v.types → TellsOf tests k (b.uses v) r.fault (x.bounds s r).after.fault

  read_arguments_told : (us : List Uses) (xs : List ArgReads) → Pairs IsArg us xs → (bs : List Bound) (s : Seen) (v : Visible) (inside : Bool) (r : Reading) → KnowsSeen tests k s v → type_names ds ≡ v.types
      → TellsOf tests k (each us v) r.fault (read_arguments bs xs s inside r).after.fault
  read_arguments_told [] [] p bs s v inside r h e = λ n. missing_arguments_told bs inside r
  read_arguments_told [] (x ∷ xs) p bs s v inside r h e = absurd p
  read_arguments_told (u ∷ us) [] p bs s v inside r h e = absurd p
  read_arguments_told (u ∷ us) (x ∷ xs) p bs s v inside r h e =
      let t = x s inside true r in
      let z = note_place bs t.ty t.after in
      joined tests k (u v) (each us v) r.fault z.fault (read_arguments (drop 1 bs) xs s inside z).after.fault
      (λ n. then_other (all_faults tests k n (u v)) r.fault t.after.fault z.fault (p.0 s v inside true r h e n) (note_place_told bs t.ty t.after))
      (read_arguments_told us xs p.1 (drop 1 bs) s v inside z h e)

  read_members_told : (us : List Uses) (xs : List ArgReads) → Pairs IsArg us xs → (s : Seen) (v : Visible) (inside : Bool) (r : Reading) → KnowsSeen tests k s v → type_names ds ≡ v.types
      → TellsOf tests k (each us v) r.fault (read_members xs s inside r).after.fault
  read_members_told [] [] p s v inside r h e = λ n. nothing r.fault
  read_members_told [] (x ∷ xs) p s v inside r h e = absurd p
  read_members_told (u ∷ us) [] p s v inside r h e = absurd p
  read_members_told (u ∷ us) (x ∷ xs) p s v inside r h e =
      let t = x s inside inside r in
      joined tests k (u v) (each us v) r.fault t.after.fault (read_members xs s inside t.after).after.fault (p.0 s v inside inside r h e) (read_members_told us xs p.1 s v inside t.after h e)

  -- by what the name is: a variable, one of the four words, or the place of a declared type
  read_plain_by : (at : ℕ) (o : Option TypeVar) (a b c d : Bool) (p : Option ℕ) (inside : Bool) (r : Reading) →
      Tells ((given (cond (is_idle o) (Some kind.StaticParameterUse) None) at ++ (one (not (is_some o || (a || (not (b || c) && (d || is_some p))))) kind.UnknownType at ++ [])) ++ []) r.fault
      (read_plain ds at (var_or o (cond a N.Any (cond b N.Union (cond c N.Tuple (cond d (N.Nominal INT64) (M.nominal_of p)))))) inside r).after.fault
  read_plain_by at (Some x) a b c d p inside r = idle_told at x.usable r
  read_plain_by at None true b c d p inside r = nothing r.fault
  read_plain_by at None false true c d p inside r = note_unknown_told at r
  read_plain_by at None false false true d p inside r = note_unknown_told at r
  read_plain_by at None false false false true p inside r = missing_arguments_told (params_of (slice_get ds INT64)) inside r
  read_plain_by at None false false false false (Some n) inside r = missing_arguments_told (params_of (slice_get ds n)) inside r
  read_plain_by at None false false false false None inside r = note_unknown_told at r

  read_plain_told : (at : ℕ) (n : List ℕ) → IsType (λ v. used at (plain_type n) v ∷ []) (λ s inside r. read_plain ds at (meaning_of ds (visible s) n) inside r)
  read_plain_told at n s v inside r h e m =
      let a = same_text n (codes "Any") in
      let b = same_text n (codes "Union") in
      let c = same_text n (codes "Tuple") in
      let d = same_text n (codes "Int") in
      let p = place_of (type_names ds) n in
      let q = place_found 0 (type_names ds) n ∙ ap (λ ns. is_among n ns) e in
      same _ _ r.fault (read_plain ds at (meaning_of ds (visible s) n) inside r).after.fault
      (λ i. (given (cond (h.now.idle n i) (Some kind.StaticParameterUse) None) at ++ (one (not (h.now.names n i || (a || (not (b || c) && (d || q i))))) kind.UnknownType at ++ [])) ++ []) (read_plain_by at (var_of (visible s) n) a b c d p inside r)

  read_applied_by : (at : ℕ) (us : List Uses) (xs : List ArgReads) → Pairs IsArg us xs → (o : Option TypeVar) (a b c d : Bool) (p : Option ℕ) (s : Seen) (v : Visible) (inside : Bool) (r : Reading)
      → KnowsSeen tests k s v → type_names ds ≡ v.types → (m : ℕ)
      → Tells ((one (not (not (is_some o) && (not a && (b || (c || (d || is_some p)))))) kind.UnknownType at ++ []) ++ all_faults tests k m (if_read (not (is_some o) && (not a && (b || (c || (d || is_some p))))) (each us v))) r.fault
      (read_applied ds at (var_or o (cond a N.Any (cond b N.Union (cond c N.Tuple (cond d (N.Nominal INT64) (M.nominal_of p)))))) xs s inside r).after.fault
  read_applied_by at us xs l (Some x) a b c d p s v inside r h e m = note_unknown_told at r
  read_applied_by at us xs l None true b c d p s v inside r h e m = note_unknown_told at r
  read_applied_by at us xs l None false true c d p s v inside r h e m = read_members_told us xs l s v inside r h e m
  read_applied_by at us xs l None false false true d p s v inside r h e m = read_members_told us xs l s v inside r h e m
  read_applied_by at us xs l None false false false true p s v inside r h e m = read_arguments_told us xs l (params_of (slice_get ds INT64)) s v inside r h e m
  read_applied_by at us xs l None false false false false (Some n) s v inside r h e m = read_arguments_told us xs l (params_of (slice_get ds n)) s v inside r h e m
  read_applied_by at us xs l None false false false false None s v inside r h e m = note_unknown_told at r

  read_applied_told : (at : ℕ) (n : List ℕ) (us : List Uses) (xs : List ArgReads) → Pairs IsArg us xs
      → IsType (λ v. used at (braced_type n) v ∷ if_read (U.takes_braces n v) (each us v)) (λ s inside r. read_applied ds at (meaning_of ds (visible s) n) xs s inside r)
  read_applied_told at n us xs l s v inside r h e m =
      let a = same_text n (codes "Any") in
      let b = same_text n (codes "Union") in
      let c = same_text n (codes "Tuple") in
      let d = same_text n (codes "Int") in
      let p = place_of (type_names ds) n in
      let q = place_found 0 (type_names ds) n ∙ ap (λ ns. is_among n ns) e in
      same _ _ r.fault (read_applied ds at (meaning_of ds (visible s) n) xs s inside r).after.fault
      (λ i. (one (not (not (h.now.names n i) && (not a && (b || (c || (d || q i)))))) kind.UnknownType at ++ []) ++ all_faults tests k m (if_read (not (h.now.names n i) && (not a && (b || (c || (d || q i))))) (each us v)))
      (read_applied_by at us xs l (var_of (visible s) n) a b c d p s v inside r h e m)

  -- ---- variables

  variable_told : (at : ℕ) (name : List ℕ) (o : Option TypeVar) (r : Reading) (v : Visible) → is_some o ≡ is_among name v.vars → TellsOf tests k (used at (type_variable name) v ∷ []) r.fault (rebound at o (note_builtin at name r)).fault
  variable_told at name o r v e m =
      let a = is_among name builtin_names in
      let z = note_builtin at name r in
      same _ _ r.fault (rebound at o z).fault ((λ i. one a kind.NameClash at ++ one (e i) kind.Rebound at) ∙ two_of at a (is_among name v.vars))
      (two (one a kind.NameClash at) (one (is_some o) kind.Rebound at) r.fault z.fault (rebound at o z).fault (note_builtin_told at name r) (rebound_told at o z))

  bind_told : (b : Brings) (x : VarReads) → IsVar b x → (s : Seen) (own : List TypeVar) (w v : Visible) (r : Reading) → KnowsSeen tests k (with_own own (in_bound s)) w → KnowsSeen tests k (with_own own s) v
      → type_names ds ≡ w.types → type_names ds ≡ v.types
      → TellsOf tests k (b.uses w ++ used b.at (type_variable b.name) v ∷ []) r.fault (bind x s own r).after.fault
      × (KnowsSeen tests k (with_own (bind x s own r).vars (in_bound s)) (with_var b.name w) × KnowsSeen tests k (with_own (bind x s own r).vars s) (with_var b.name v))
  bind_told b x l s own w v r g h d e =
      let y = x.bounds (with_own own (in_bound s)) r in
      let o = var_of (visible (with_own own s)) x.name in
      let n = note_builtin x.at x.name y.after in
      let z = rebound x.at o n in
      let one : TypeVar = record { name = x.name; number = length n.vars; usable = true } in
      let more = (bind x s own r).vars in (
        λ m. same _ _ r.fault z.fault (λ i. all_faults tests k m (b.uses w ++ used (sym l.at i) (type_variable (sym l.name i)) v ∷ []))
            (joined tests k (b.uses w) (used x.at (type_variable x.name) v ∷ []) r.fault y.after.fault z.fault (l.bounds (with_own own (in_bound s)) w r g d) (variable_told x.at x.name o y.after v (h.now.names x.name)) m),
        (
          subst (λ m. KnowsSeen tests k (with_own more (in_bound s)) (with_var m w)) (sym l.name) (one_seen tests k (in_bound s) own w one refl g),
          subst (λ m. KnowsSeen tests k (with_own more s) (with_var m v)) (sym l.name) (one_seen tests k s own v one refl h),
        ),
      )

  brought_told : (bs : List Brings) (xs : List VarReads) → Pairs IsVar bs xs → (s : Seen) (own : List TypeVar) (w v : Visible) (r : Reading) → KnowsSeen tests k (with_own own (in_bound s)) w → KnowsSeen tests k (with_own own s) v
      → type_names ds ≡ w.types → type_names ds ≡ v.types
      → TellsOf tests k (brought_by bs w v) r.fault (bind_all xs s own r).after.fault × KnowsSeen tests k (with_own (bind_all xs s own r).vars s) (with_vars bs v)
  brought_told [] [] p s own w v r g h d e = (λ n. nothing r.fault, h)
  brought_told [] (x ∷ xs) p s own w v r g h d e = absurd p
  brought_told (b ∷ bs) [] p s own w v r g h d e = absurd p
  brought_told (b ∷ bs) (x ∷ xs) p s own w v r g h d e =
      let z = bind x s own r in
      let here = bind_told b x p.0 s own w v r g h d e in
      let rest = brought_told bs xs p.1 s z.vars (with_var b.name w) (with_var b.name v) z.after here.1.0 here.1.1 d e in
      (joined tests k (b.uses w ++ used b.at (type_variable b.name) v ∷ []) (brought_by bs (with_var b.name w) (with_var b.name v)) r.fault z.after.fault (bind_all xs s z.vars z.after).after.fault here.0 rest.0, rest.1)

  within_told : (u : Uses) (t : TypeReads) → IsType u t → (bs : List Brings) (xs : List VarReads) → Pairs IsVar bs xs → IsType (λ v. brought bs v ++ u (with_vars bs v)) (within t xs)
  within_told u t l bs xs p s v inside r h e =
      let w = bind_where xs inside r in
      let d = bind_all xs s [] (without_places w) in
      let q = brought_told bs xs p s [] (U.in_bound v) v (without_places w) (subst (λ x. KnowsSeen tests k x (U.in_bound v)) (sym (none_of_own (in_bound s))) (bound_knows tests k s v h)) (subst (λ x. KnowsSeen tests k x v) (sym (none_of_own s)) h) e e in
      let z = t (with_own d.vars s) inside (record d.after { places = r.places }) in
      λ n. swapped_told (length r.vars) (length d.after.vars) (all_faults tests k n (brought bs v ++ u (with_vars bs v))) r.fault (places_behind d.after.places z.after)
      (joined tests k (brought bs v) (u (with_vars bs v)) r.fault d.after.fault z.after.fault
      (λ m. two [] (all_faults tests k m (brought bs v)) r.fault w.fault d.after.fault (where_told xs inside r) (q.0 m))
      (l (with_own d.vars s) (with_vars bs v) inside (record d.after { places = r.places }) q.1 e) n)

  -- ---- a text tells what its layer does

  text_at : (l : TypeText-F ArgText TypeText VarText)
      → IsType (U.type_step (map-TypeText ArgText TypeText VarText Uses Uses Brings arg_uses type_uses var_uses l)) (R.type_step ds (map-TypeText ArgText TypeText VarText ArgReads TypeReads VarReads (arg_reads ds) (type_reads ds) (var_reads ds) l))
      → IsType (type_uses (roll-TypeText l)) (type_reads ds (roll-TypeText l))
  text_at l h =
      subst (λ u. IsType u (type_reads ds (roll-TypeText l))) (sym (fold-roll-TypeText Uses Uses Brings U.arg_step U.type_step U.var_step l))
      (subst (λ x. IsType (U.type_step (map-TypeText ArgText TypeText VarText Uses Uses Brings arg_uses type_uses var_uses l)) x) (sym (fold-roll-TypeText ArgReads TypeReads VarReads (R.arg_step ds) (R.type_step ds) (R.var_step ds) l)) h)

  arg_at : (l : ArgText-F ArgText TypeText VarText)
      → IsArg (U.arg_step (map-ArgText ArgText TypeText VarText Uses Uses Brings arg_uses type_uses var_uses l)) (R.arg_step ds (map-ArgText ArgText TypeText VarText ArgReads TypeReads VarReads (arg_reads ds) (type_reads ds) (var_reads ds) l))
      → IsArg (arg_uses (roll-ArgText l)) (arg_reads ds (roll-ArgText l))
  arg_at l h =
      subst (λ u. IsArg u (arg_reads ds (roll-ArgText l))) (sym (fold-roll-ArgText Uses Uses Brings U.arg_step U.type_step U.var_step l))
      (subst (λ x. IsArg (U.arg_step (map-ArgText ArgText TypeText VarText Uses Uses Brings arg_uses type_uses var_uses l)) x) (sym (fold-roll-ArgText ArgReads TypeReads VarReads (R.arg_step ds) (R.type_step ds) (R.var_step ds) l)) h)

  var_at : (l : VarText-F ArgText TypeText VarText)
      → IsVar (U.var_step (map-VarText ArgText TypeText VarText Uses Uses Brings arg_uses type_uses var_uses l)) (R.var_step ds (map-VarText ArgText TypeText VarText ArgReads TypeReads VarReads (arg_reads ds) (type_reads ds) (var_reads ds) l))
      → IsVar (var_uses (roll-VarText l)) (var_reads ds (roll-VarText l))
  var_at l h =
      subst (λ u. IsVar u (var_reads ds (roll-VarText l))) (sym (fold-roll-VarText Uses Uses Brings U.arg_step U.type_step U.var_step l))
      (subst (λ x. IsVar (U.var_step (map-VarText ArgText TypeText VarText Uses Uses Brings arg_uses type_uses var_uses l)) x) (sym (fold-roll-VarText ArgReads TypeReads VarReads (R.arg_step ds) (R.type_step ds) (R.var_step ds) l)) h)

  cases : TextCases (λ t. IsArg (arg_uses t) (arg_reads ds t)) (λ t. IsType (type_uses t) (type_reads ds t)) (λ t. IsVar (var_uses t) (var_reads ds t))
  cases = record {
    name = λ at n. text_at (F.Name at n) (read_plain_told at n);
    applied = λ at n xs l. text_at (F.Applied at n xs) (read_applied_told at n (map arg_uses xs) (map (arg_reads ds) xs) (each_pairs IsArg arg_uses (arg_reads ds) xs l));
    paren = λ at t vs l p. text_at (F.Paren at t vs) (within_told (type_uses t) (type_reads ds t) l (map var_uses vs) (map (var_reads ds) vs) (each_pairs IsVar var_uses (var_reads ds) vs p));
    exact = λ t l. arg_at (F.Exact t) (λ s v outer inner r h e. l s v inner r h e);
    below_ = λ at t l. arg_at (F.ArgText::Below at t) (λ s v outer inner r h e. l (in_bound s) (U.in_bound v) true r (bound_knows tests k s v h) e);
    above = λ at t l. arg_at (F.ArgText::Above at t) (λ s v outer inner r h e. l (in_bound s) (U.in_bound v) true r (bound_knows tests k s v h) e);
    free = λ at n. var_at (F.Free at n) (record { at = refl; name = refl; bounds = λ s v r h e n. nothing r.fault });
    upper = λ at n t l. var_at (F.VarText::Below at n t) (record { at = refl; name = refl; bounds = λ s v r h e. l s v true r h e });
    lower = λ at n t l. var_at (F.VarText::Above at n t) (record { at = refl; name = refl; bounds = λ s v r h e. l s v true r h e });
    between = λ t at n u l p. var_at (F.Between t at n u)
        (record {
          at = refl;
          name = refl;
          bounds = λ s v r h e.
              let b = type_reads ds t s true r in
              joined tests k (type_uses t v) (type_uses u v) r.fault b.after.fault (type_reads ds u s true b.after).after.fault (l s v true r h e) (p s v true b.after h e);
        });
  }

  pub type_told : (t : TypeText) → IsType (type_uses t) (type_reads ds t)
  type_told = by_type _ _ _ cases

  arg_told : (x : ArgText) → IsArg (arg_uses x) (arg_reads ds x)
  arg_told = by_arg _ _ _ cases

  var_told : (x : VarText) → IsVar (var_uses x) (var_reads ds x)
  var_told = by_var _ _ _ cases

  -- a type that is no part of another one
  pub alone_told : (t : TypeText) (vars : List TypeVar) (v : Visible) (r : Reading) → Knows tests k vars v → type_names ds ≡ v.types → TellsOf tests k (alone_uses t v) r.fault (type_reads ds t (seen vars [] false) false r).after.fault
  alone_told t vars v r h e = type_told t (seen vars [] false) (in_type v) false r (type_knows tests k vars v h) e

  pub option_told : (t : Option TypeText) (vars : List TypeVar) (v : Visible) (r : Reading) → Knows tests k vars v → type_names ds ≡ v.types → TellsOf tests k (option_uses t v) r.fault (option_reads ds t vars r).after.fault
  option_told None vars v r h e = λ n. nothing r.fault
  option_told (Some t) vars v r h e = alone_told t vars v r h e

  pub options_told : (ts : List (Option TypeText)) (vars : List TypeVar) (v : Visible) (r : Reading) → Knows tests k vars v → type_names ds ≡ v.types → TellsOf tests k (options_uses ts v) r.fault (all_read ds ts vars r).after.fault
  options_told [] vars v r h e = λ n. nothing r.fault
  options_told (t ∷ ts) vars v r h e =
      let u = option_reads ds t vars r in
      joined tests k (option_uses t v) (options_uses ts v) r.fault u.after.fault (all_read ds ts vars u.after).after.fault (option_told t vars v r h e) (options_told ts vars v u.after h e)

  pub bound_told : (vs : List VarText) (v : Visible) (r : Reading) → KnowsSeen tests k (seen [] [] true) v → type_names ds ≡ v.types
      → TellsOf tests k (brought (map var_uses vs) v) r.fault (all_bound ds vs r).after.fault × Knows tests k (all_bound ds vs r).vars (with_vars (map var_uses vs) v)
  bound_told vs v r h e =
      let nothing_seen = seen [] [] true in
      let q = brought_told (map var_uses vs) (map (var_reads ds) vs) (each_pairs IsVar var_uses (var_reads ds) vs (each_all (λ x. IsVar (var_uses x) (var_reads ds x)) var_told vs)) nothing_seen [] (U.in_bound v) v r (bound_knows tests k nothing_seen v h) h e e in
      (q.0, q.1.now)

  -- the parts of a tuple that is read as a signature
  pub parts_told : (xs : List ArgText) (vars : List TypeVar) (v : Visible) (r : Reading) → Knows tests k vars v → type_names ds ≡ v.types
      → TellsOf tests k (args_uses xs v) r.fault (parts_read ds xs vars r).after.fault
  parts_told xs vars v r h e =
      read_members_told (map arg_uses xs) (map (arg_reads ds) xs) (each_pairs IsArg arg_uses (arg_reads ds) xs (each_all (λ x. IsArg (arg_uses x) (arg_reads ds x)) arg_told xs)) (seen vars [] false) (in_type v) false r (type_knows tests k vars v h) e

  made_told : (xs : List ArgText) (p : ℕ) (bs : List Bound) (statics : List TypeVar) (v : Visible) → Knows tests k statics v → type_names ds ≡ v.types
      → TellsOf tests k (args_uses xs v) None (constructor_type ds p bs statics xs).after.fault
  made_told xs p bs statics v h e =
      read_arguments_told (map arg_uses xs) (map (arg_reads ds) xs) (each_pairs IsArg arg_uses (arg_reads ds) xs (each_all (λ x. IsArg (arg_uses x) (arg_reads ds x)) arg_told xs)) bs (seen (shifted 0 statics) [] false) (in_type v) false no_reading
      (type_knows tests k (shifted 0 statics) v (shifted_knows tests k 0 statics v h)) e

-- ---- types in bodies and signatures

-- a refusal behind the faults of a text
module _ (t : Tests) (k : Known) where
  refused_last : (at : ℕ) (o p : Option StaticKind) (fs : List Fault) (q : Option Fault) (s : State) → o ≡ p → Tells fs None q → Tells ((given p at ++ []) ++ fs) s.fault (note_if at o (merge_fault q s)).fault
  refused_last at o p fs q s e h =
      let z = merge_fault q s in
      same (given o at ++ fs) ((given p at ++ []) ++ fs) s.fault (note_if at o z).fault
      (ap (λ xs. xs ++ fs) (sym (append-nil (given o at))) ∙ ap (λ x. (given x at ++ []) ++ fs) e)
      (swapped fs (given o at) s.fault (note_if at o z).fault (two fs (given o at) s.fault z.fault (note_if at o z).fault (merge_fault_told fs q s h) (note_if_told at o z)))

  type_refusal_is : (text : TypeText) (ds : List Decl) (statics : List TypeVar) (v : Visible) → ds ≡ declared_before k v.types → statics ≡ statics_at t k v
      → (body_type ds statics text).after.unclear ≡ any_hides (alone_uses text v)
      → (let ty = body_type ds statics text in refusal t.body ty.after (one_type ty.ty (adopt_bounds t.below ty.after.places ty.after.vars))) ≡ type_refusal t k text v
  unfolding type_refusal
  type_refusal_is text ds statics v e f c =
      ap (λ b. let ty = body_type ds statics text in cond ty.after.misplaced (Some kind.VariablePlace) (cond b None (t.body (one_type ty.ty (adopt_bounds t.below ty.after.places ty.after.vars))))) c
      ∙ (λ i. let ty = body_type (e i) (f i) text in cond ty.after.misplaced (Some kind.VariablePlace) (cond (any_hides (alone_uses text v)) None (t.body (one_type ty.ty (adopt_bounds t.below ty.after.places ty.after.vars)))))

  type_in_body_told : (text : TypeText) (c : Scope) (v : Visible) (s : State) → Sees t k c v → Adds t k (body_uses text v) s (type_in_body t k text c s).after
  unfolding type_in_body
  type_in_body_told text c v s h =
      let ds = declared_at k c.types in
      let ty = body_type ds c.statics text in
      let w = one_type ty.ty (adopt_bounds t.below ty.after.places ty.after.vars) in
      let o = refusal t.body ty.after w in
      let n = width_of ds c.statics text in
      let raw = type_reads ds text (seen (shifted n c.statics) [] false) false no_reading in
      adds_alike t k (body_uses text v) s (note_if (start_of text) o (merge_fault ty.after.fault s)) (type_plain text (in_type v)) (note_if_same (start_of text) o (merge_fault ty.after.fault s) ∙ merge_fault_same ty.after.fault s)
      (λ m.
      let fs = all_faults t k m (alone_uses text v) in
      refused_last (start_of text) o (type_refusal t k text v) fs ty.after.fault s
      (type_refusal_is text ds c.statics v (declared_is k c.types v.types h.types) h.statics (one_ordered_clear raw.after.swaps raw ∙ alone_clear t k ds text (shifted n c.statics) v no_reading (shifted_knows t k n c.statics v h.vars) h.types))
      (one_ordered_told raw.after.swaps raw fs None (alone_told t k ds text (shifted n c.statics) v no_reading (shifted_knows t k n c.statics v h.vars) h.types m)))

  built_refusal_is : (p : ℕ) (xs : List ArgText) (ds : List Decl) (statics : List TypeVar) (v : Visible) (q : Option ℕ) → ds ≡ declared_before k v.types → statics ≡ statics_at t k v → q ≡ Some p
      → (constructor_type ds p (params_of (slice_get k.decls p)) statics xs).after.unclear ≡ any_hides (args_uses xs v)
      → (let bs = params_of (slice_get k.decls p) in
      let ty = constructor_type ds p bs statics xs in
      make_refusal t.body (nat_eq (length xs) (length bs)) ty.after (one_type ty.ty [])) ≡ built_refusal t k q xs v
  unfolding built_refusal
  built_refusal_is p xs ds statics v q e f g c =
      ap (λ b. let bs = params_of (slice_get k.decls p) in
      let ty = constructor_type ds p bs statics xs in
      cond ty.after.misplaced (Some kind.VariablePlace)
      (cond (not (nat_eq (length ty.after.vars) 0) || not (nat_eq (length xs) (length bs))) (Some kind.WrongParameterCount) (cond b None (t.body (one_type ty.ty []))))) c
      ∙ (λ i. let bs = params_of (slice_get k.decls p) in
      let ty = constructor_type (e i) p bs (f i) xs in
      cond ty.after.misplaced (Some kind.VariablePlace)
      (cond (not (nat_eq (length ty.after.vars) 0) || not (nat_eq (length xs) (length bs))) (Some kind.WrongParameterCount) (cond (any_hides (args_uses xs v)) None (t.body (one_type ty.ty [])))))
      ∙ ap (λ o. built_refusal t k o xs v) (sym g)

  make_at_told : (text : TypeText) (p : ℕ) (c : Scope) (v : Visible) (s : State) → Sees t k c v → struct_built k (out-TypeText text) v.names ≡ Some p
      → Adds t k (built_uses text v) s (make_at t k (start_of text) p (make_args (out-TypeText text)) c s).after
  unfolding make_at
  make_at_told text p c v s h e =
      let at = start_of text in
      let xs = make_args (out-TypeText text) in
      let bs = params_of (slice_get k.decls p) in
      let ds = declared_at k c.types in
      let ty = constructor_type ds p bs c.statics xs in
      let o = make_refusal t.body (nat_eq (length xs) (length bs)) ty.after (one_type ty.ty []) in
      let q = struct_built k (out-TypeText text) v.names in
      adds_alike t k (built_uses text v) s (note_if at o (merge_fault ty.after.fault s)) (args_plain xs (in_type v)) (note_if_same at o (merge_fault ty.after.fault s) ∙ merge_fault_same ty.after.fault s)
      (λ m. refused_last at o (built_refusal t k q xs v) (all_faults t k m (args_uses xs v)) ty.after.fault s (built_refusal_is p xs ds c.statics v q (declared_is k c.types v.types h.types) h.statics e
      (args_clear t k ds xs bs (shifted 0 c.statics) v no_reading (shifted_knows t k 0 c.statics v h.vars) h.types))
      (made_told t k ds xs p bs c.statics v h.vars h.types m))

  -- ---- the type of a deletion

  no_tuple : (text : TypeText) (v : Visible) → is_signature (out-TypeText text) ≡ false → Some kind.BadType ≡ deleted_refusal t k text (bare v)
  unfolding deleted_refusal
  no_tuple text v e =
      let ts = (deleted_at k text v.types).types in
      let us = tuple_uses (signature_args (out-TypeText text)) (signature_vars (out-TypeText text)) (bare v) in
      let o = unless_misplaced ts.after.misplaced (unless_hidden us (t.signature (written_of t.below ts))) in
      ap (λ b. let x : Option StaticKind = cond b o (Some kind.BadType) in x) (sym e)

  deleted_refusal_is : (types : ℕ) (text : TypeText) (v : Visible) → type_names (declared_at k types) ≡ v.types → is_signature (out-TypeText text) ≡ true
      → (let l = out-TypeText text in
      (tuple_signature (declared_at k types) (signature_args l) (signature_vars l)).types.after.unclear ≡ any_hides (tuple_uses (signature_args l) (signature_vars l) v))
      → (deleted_signature t k types text).refusal ≡ deleted_refusal t k text (bare v)
  unfolding deleted_refusal deleted_at
  deleted_refusal_is types text v e b c =
      let xs = signature_args (out-TypeText text) in
      let ws = signature_vars (out-TypeText text) in
      let us = tuple_uses xs ws v in
      let ts : List Decl → Types = λ ds. (tuple_signature ds xs ws).types in
      let o : Option StaticKind = let q = ts (declared_before k v.types) in cond q.after.misplaced (Some kind.VariablePlace) (cond (any_hides us) None (t.signature (written_of t.below q))) in
      ap (λ z. let q = ts (declared_at k types) in cond q.after.misplaced (Some kind.VariablePlace) (cond z None (t.signature (written_of t.below q)))) c
      ∙ ap (λ ds. let q = ts ds in cond q.after.misplaced (Some kind.VariablePlace) (cond (any_hides us) None (t.signature (written_of t.below q)))) (declared_is k types v.types e)
      ∙ ap (λ z. let x : Option StaticKind = cond z o (Some kind.BadType) in x) (sym b)

  -- nothing is visible before a signature
  nothing_known : (v : Visible) → KnowsSeen t k (seen [] [] true) (bare v)
  nothing_known v = record { now = record { names = λ name. refl; idle = λ name. refl }; bound = refl; first = record { names = λ name. refl; idle = λ name. refl } }

  tuple_told : (text : TypeText) (f types : ℕ) (v : Visible) (s : State) (b : Bool) → is_signature (out-TypeText text) ≡ b → type_names (declared_at k types) ≡ v.types
      → Adds t k (used (start_of text) (deleted_by text) (bare v) ∷ if_read b (tuple_uses (signature_args (out-TypeText text)) (signature_vars (out-TypeText text)) v)) s (delete_of t k b f text types s).after
  tuple_told text f types v s false b e =
      let at = start_of text in
      let bad : Fault = record { at = at; kind = kind.BadType } in
      let z = note_at at kind.BadType s in
      adds_alike t k (used at (deleted_by text) (bare v) ∷ []) s z refl refl
      (λ m. same (bad ∷ []) _ s.fault z.fault (ap (λ o. (given o at ++ []) ++ []) (no_tuple text v b)) (one_fault bad s.fault))
  tuple_told text f types v s true b e =
      let at = start_of text in
      let ds = declared_at k types in
      let xs = signature_args (out-TypeText text) in
      let ws = signature_vars (out-TypeText text) in
      let inside = with_vars (map var_uses ws) (bare v) in
      let us = brought (map var_uses ws) (bare v) in
      let vs = args_uses xs inside in
      let r = all_bound ds ws no_reading in
      let raw = parts_read ds xs r.vars (without_places r.after) in
      let ts : Types = record { tys = raw.tys; after = places_behind r.after.places raw.after } in
      let g = deleted_signature t k types text in
      let here = bound_told t k ds ws (bare v) no_reading (nothing_known v) e in
      let c = bound_clear t k ds ws (bare v) no_reading (nothing_known v) e in
      let clear = ordered_clear ts.after.swaps ts ∙ both_clear us vs no_reading r.after ts.after c.0 (parts_clear t k ds xs r.vars inside (without_places r.after) c.1 e) in
      let z = (delete_signed f at g s).after in
      adds_alike t k (used at (deleted_by text) (bare v) ∷ tuple_uses xs ws v) s z (tuple_plain xs ws v) (note_if_same at g.refusal (merge_fault g.fault s) ∙ merge_fault_same g.fault s)
      (λ m. refused_last at g.refusal (deleted_refusal t k text (bare v)) (all_faults t k m (tuple_uses xs ws v)) g.fault s (deleted_refusal_is types text v e b clear)
      (joined t k us vs None r.after.fault g.fault here.0 (λ n. ordered_told ts.after.swaps ts (all_faults t k n vs) r.after.fault (parts_told t k ds xs r.vars inside (without_places r.after) here.1 e n)) m))

  deletion_told : (text : TypeText) (f types : ℕ) (v : Visible) (s : State) → type_names (declared_at k types) ≡ v.types
      → Adds t k (deleted_uses text v) s (delete_of t k (is_signature (out-TypeText text)) f text types s).after
  deletion_told text f types v s e = tuple_told text f types v s (is_signature (out-TypeText text)) refl e

  signature_is : (types : ℕ) (h : Head) (ts : List (List ℕ)) → type_names (declared_at k types) ≡ ts → method_signature t k types h ≡ signature_at t k h ts
  unfolding signature_at
  signature_is types h ts e = ap (λ ds. judge_signature t (signature ds (map type_of h.params) h.vars)) (declared_is k types ts e)

  signature_refusal_is : (types : ℕ) (h : Head) (v : Visible) → type_names (declared_at k types) ≡ v.types
      → (signature (declared_at k types) (map type_of h.params) h.vars).types.after.unclear ≡ any_hides (signature_uses h v) → (method_signature t k types h).refusal ≡ signature_refusal t k h (bare v)
  unfolding signature_refusal
  signature_refusal_is types h v e c =
      ap (λ b. let ts = (signature (declared_at k types) (map type_of h.params) h.vars).types in cond ts.after.misplaced (Some kind.VariablePlace) (cond b None (t.signature (written_of t.below ts)))) c
      ∙ ap (λ ds. let ts = (signature ds (map type_of h.params) h.vars).types in cond ts.after.misplaced (Some kind.VariablePlace) (cond (any_hides (signature_uses h v)) None (t.signature (written_of t.below ts)))) (declared_is k types v.types e)

  signed_told : (types : ℕ) (h : Head) (v : Visible) → type_names (declared_at k types) ≡ v.types → SignedTold t k types h v
  signed_told types h v e =
      let ds = declared_at k types in
      let s = all_bound ds h.vars no_reading in
      let raw = all_read ds (map type_of h.params) s.vars (without_places s.after) in
      let ts : Types = record { tys = raw.tys; after = places_behind s.after.places raw.after } in
      let g = signature ds (map type_of h.params) h.vars in
      let b = bound_told t k ds h.vars (bare v) no_reading (nothing_known v) e in
      let us = brought (map var_uses h.vars) (bare v) in
      let vs = options_uses (map type_of h.params) (in_head h v) in
      let c = bound_clear t k ds h.vars (bare v) no_reading (nothing_known v) e in
      record {
        tells = joined t k us vs None s.after.fault g.types.after.fault b.0
            (λ m. ordered_told ts.after.swaps ts (all_faults t k m vs) s.after.fault (options_told t k ds (map type_of h.params) s.vars (in_head h v) (without_places s.after) b.1 e m));
        knows = b.1;
        is = signature_is types h v.types e;
        refusal = signature_refusal_is types h v e (ordered_clear ts.after.swaps ts ∙ both_clear us vs no_reading s.after ts.after c.0 (options_clear t k ds (map type_of h.params) s.vars (in_head h v) (without_places s.after) c.1 e));
      }

pub are_told : (t : Tests) (k : Known) → AreTold t k
are_told t k = record { body = type_in_body_told t k; made_of = make_at_told t k; deletion = deletion_told t k; of_head = signed_told t k }
