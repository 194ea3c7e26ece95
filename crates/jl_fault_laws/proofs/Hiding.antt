-- A text is unclear exactly where a name in it means no type, or a type variable in it is bound twice.
use Rattle.std.proofs.Common.{ℕ, Bool, true, false, cond, not, ◌||◌, ◌&&◌, codes, nat_lt, List, [], ◌∷◌, ◌++◌, map, drop, length, ◌≡◌, Option, Some, None, is_some, refl, sym, ap, subst, ◌∙◌, slice_get}
use Rattle.jl_model.specs.declared.builtin.TheConstants.{INT64}
use Rattle.jl_model.specs.declared.ty.Ty.{Ty, out-Ty}
use Rattle.jl_model.specs.declared.ty.Ty.TheOpen.{Ty-F}
use Rattle.jl_model.specs.declared.ty.Ty.TheOpen as L
use Rattle.jl_model.specs.declared.ty.Bound.{Bound}
use Rattle.jl_model.specs.declared.ty.Decl.{Decl}
use Rattle.jl_model.specs.Valid.{params_of}
use Rattle.jl_program.specs.Names.{same_text, is_among, builtin_names}
use Rattle.jl_typeread.specs.declared.tree.TypeText.{TypeText}
use Rattle.jl_typeread.specs.declared.tree.ArgText.{ArgText}
use Rattle.jl_typeread.specs.declared.tree.VarText.{VarText}
use Rattle.jl_typeread.specs.declared.tree.ArgText.TheOpen as F
use Rattle.jl_typeread.specs.declared.tree.ArgText.TheOpen.{ArgText-F, TypeText-F, VarText-F}
use Rattle.jl_typeread.specs.declared.tree.ArgText.TheFolds.{map-ArgText, map-TypeText, map-VarText, fold-roll-TypeText, fold-roll-ArgText, fold-roll-VarText}
use Rattle.jl_typeread.specs.declared.tree.ArgText.TheViews.{roll-ArgText, roll-TypeText, roll-VarText}
use Rattle.jl_written.specs.declared.fault.StaticKind.TheVariants as kind
use Rattle.jl_written.specs.declared.reading.Named.TheVariants as N
use Rattle.jl_written.specs.declared.reading.Reading.{Reading}
use Rattle.jl_written.specs.declared.reading.Swap.{Swap}
use Rattle.jl_written.specs.declared.reading.TypeVar.{TypeVar}
use Rattle.jl_written.specs.Meaning.{place_of, var_of, var_or, meaning_of}
use Rattle.jl_written.specs.Meaning as M
use Rattle.jl_written.specs.Reads.{Typed, Types, TypeReads, ArgReads, VarReads, Seen, seen, visible, with_own, in_bound, without_places, places_behind, note, note_unknown, missing_arguments, fresh_variable, note_place_of, note_place, read_arguments, read_members, rebound, note_builtin, bind, bind_all, bind_where, within, read_plain, read_applied, type_reads, arg_reads, var_reads}
use Rattle.jl_written.specs.Reads as R
use Rattle.jl_written.specs.Signatures.{option_reads, all_read, all_bound, parts_read}
use Rattle.jl_written.specs.TextOrder.{reorder_types, reorder_type}
use Rattle.jl_resolve_forms.specs.declared.known.Known.{Known}
use Rattle.jl_resolve_forms.specs.TypesIn.{Tests}
use Rattle.jl_type_laws.proofs.TextInduction.{EachText, TextCases, by_type, by_arg, by_var}
use Rattle.jl_fault_laws.specs.Uses.{Visible, Use, Uses, Brings, type_variable, plain_type, braced_type, used, each, if_read, with_var, with_vars, brought, brought_by, in_type, type_names, type_uses, alone_uses, args_uses, arg_uses, var_uses, option_uses, options_uses}
use Rattle.jl_fault_laws.specs.Uses as U
use Rattle.jl_fault_laws.specs.TypeRows.{hides, any_hides}
use Rattle.jl_fault_laws.proofs.Faults.{Pairs}
use Rattle.jl_fault_laws.proofs.Plain.{each_all}
use Rattle.jl_fault_laws.proofs.Names.{Knows, KnowsSeen, type_knows, bound_knows, none_of_own, one_seen, place_found}

pub each_pairs : {A B C : Type 0} (P : B → C → Type 0) (f : A → B) (g : A → C) (xs : List A) → EachText (λ x. P (f x) (g x)) xs → Pairs P (map f xs) (map g xs)
each_pairs P f g [] h = tt
each_pairs P f g (x ∷ xs) h = (h.0, each_pairs P f g xs h.1)

or_false : (b : Bool) → b ≡ (b || false)
or_false true = refl
or_false false = refl

or_true : (b : Bool) → true ≡ (b || true)
or_true true = refl
or_true false = refl

or_or : (a b c : Bool) → ((a || b) || c) ≡ (a || (b || c))
or_or true b c = refl
or_or false b c = refl

any_append : (us vs : List Use) → any_hides (us ++ vs) ≡ (any_hides us || any_hides vs)
any_append [] vs = refl
any_append (u ∷ us) vs = ap (λ b. hides u || b) (any_append us vs) ∙ sym (or_or (hides u) (any_hides us) (any_hides vs))

-- ---- readings

-- what comes after these uses is unclear where it was so before, or where one of them hides the rest
abbrev pub Clears : List Use → Reading → Reading → Type 0
Clears us r z = z.unclear ≡ (r.unclear || any_hides us)

same_clear : (r z : Reading) → z.unclear ≡ r.unclear → Clears [] r z
same_clear r z e = e ∙ or_false r.unclear

pub both_clear : (us vs : List Use) (r y z : Reading) → Clears us r y → Clears vs y z → Clears (us ++ vs) r z
both_clear us vs r y z a b = b ∙ ap (λ x. x || any_hides vs) a ∙ or_or r.unclear (any_hides us) (any_hides vs) ∙ ap (λ x. r.unclear || x) (sym (any_append us vs))

missing_arguments_clear : (bs : List Bound) (inside : Bool) (r : Reading) → (missing_arguments bs inside r).after.unclear ≡ r.unclear
missing_arguments_clear [] inside r = refl
missing_arguments_clear (b ∷ bs) inside r = missing_arguments_clear bs inside (fresh_variable b inside r).after

layer_clear : (high : Ty) (l : Ty-F Ty) (r : Reading) → (note_place_of high l r).unclear ≡ r.unclear
layer_clear high (L.Var v) r = refl
layer_clear high _ r = refl

note_place_clear : (bs : List Bound) (t : Ty) (r : Reading) → (note_place bs t r).unclear ≡ r.unclear
note_place_clear [] t r = refl
note_place_clear (b ∷ bs) t r = layer_clear b.high (out-Ty t) r

note_use_clear : (at : ℕ) (b : Bool) (r : Reading) → (R.note_use at b r).unclear ≡ r.unclear
note_use_clear at true r = refl
note_use_clear at false r = refl

note_builtin_clear : (at : ℕ) (name : List ℕ) (r : Reading) → (note_builtin at name r).unclear ≡ r.unclear
note_builtin_clear at name r = by (is_among name builtin_names)
  where
    by : (b : Bool) → (cond b (note at kind.NameClash r) r).unclear ≡ r.unclear
    by true = refl
    by false = refl

rebound_clear : (at : ℕ) (o : Option TypeVar) (r : Reading) → (rebound at o r).unclear ≡ (r.unclear || is_some o)
rebound_clear at None r = or_false r.unclear
rebound_clear at (Some v) r = or_true r.unclear

where_clear : (vs : List VarReads) (inside : Bool) (r : Reading) → (bind_where vs inside r).unclear ≡ r.unclear
where_clear [] inside r = refl
where_clear (v ∷ vs) inside r = refl

swap_clear : (start middle : ℕ) (r : Reading) → (R.swap start middle r).unclear ≡ r.unclear
swap_clear start middle r = by (nat_lt start middle && nat_lt middle (length r.vars)) (record { start = start; middle = middle; stop = length r.vars })
  where
    by : (b : Bool) (s : Swap) → (cond b (record r { swaps = r.swaps ++ s ∷ [] }) r).unclear ≡ r.unclear
    by true s = refl
    by false s = refl

pub ordered_clear : (ss : List Swap) (ts : Types) → (reorder_types ss ts).after.unclear ≡ ts.after.unclear
ordered_clear [] ts = refl
ordered_clear (s ∷ ss) ts = refl

pub one_ordered_clear : (ss : List Swap) (t : Typed) → (reorder_type ss t).after.unclear ≡ t.after.unclear
one_ordered_clear [] t = refl
one_ordered_clear (s ∷ ss) t = refl

module _ (tests : Tests) (k : Known) (ds : List Decl) where
  abbrev IsType : Uses → TypeReads → Type 0
  IsType u t = (s : Seen) (v : Visible) (inside : Bool) (r : Reading) → KnowsSeen tests k s v → type_names ds ≡ v.types → Clears (u v) r (t s inside r).after

  abbrev IsArg : Uses → ArgReads → Type 0
  IsArg u x = (s : Seen) (v : Visible) (outer inner : Bool) (r : Reading) → KnowsSeen tests k s v → type_names ds ≡ v.types → Clears (u v) r (x s outer inner r).after

  pub record IsVar (b : Brings) (x : VarReads) : Type 0 where
    pub name : b.name ≡ x.name
    pub bounds : (s : Seen) (v : Visible) (r : Reading) → KnowsSeen tests k s v → type_names ds ≡ v.types → Clears (b.uses v) r (x.bounds s r).after

  read_arguments_clear : (us : List Uses) (xs : List ArgReads) → Pairs IsArg us xs → (bs : List Bound) (s : Seen) (v : Visible) (inside : Bool) (r : Reading) → KnowsSeen tests k s v → type_names ds ≡ v.types
      → Clears (each us v) r (read_arguments bs xs s inside r).after
  read_arguments_clear [] [] p bs s v inside r h e = same_clear r (missing_arguments bs inside r).after (missing_arguments_clear bs inside r)
  read_arguments_clear [] (x ∷ xs) p bs s v inside r h e = absurd p
  read_arguments_clear (u ∷ us) [] p bs s v inside r h e = absurd p
  read_arguments_clear (u ∷ us) (x ∷ xs) p bs s v inside r h e =
      let t = x s inside true r in
      let z = note_place bs t.ty t.after in
      both_clear (u v) (each us v) r z (read_arguments (drop 1 bs) xs s inside z).after (note_place_clear bs t.ty t.after ∙ p.0 s v inside true r h e) (read_arguments_clear us xs p.1 (drop 1 bs) s v inside z h e)

  read_members_clear : (us : List Uses) (xs : List ArgReads) → Pairs IsArg us xs → (s : Seen) (v : Visible) (inside : Bool) (r : Reading) → KnowsSeen tests k s v → type_names ds ≡ v.types
      → Clears (each us v) r (read_members xs s inside r).after
  read_members_clear [] [] p s v inside r h e = same_clear r r refl
  read_members_clear [] (x ∷ xs) p s v inside r h e = absurd p
  read_members_clear (u ∷ us) [] p s v inside r h e = absurd p
  read_members_clear (u ∷ us) (x ∷ xs) p s v inside r h e =
      let t = x s inside inside r in
      both_clear (u v) (each us v) r t.after (read_members xs s inside t.after).after (p.0 s v inside inside r h e) (read_members_clear us xs p.1 s v inside t.after h e)

  -- by what the name is, as in `Texts`
  read_plain_by : (at : ℕ) (o : Option TypeVar) (a b c d : Bool) (p : Option ℕ) (inside : Bool) (r : Reading) →
      (read_plain ds at (var_or o (cond a N.Any (cond b N.Union (cond c N.Tuple (cond d (N.Nominal INT64) (M.nominal_of p)))))) inside r).after.unclear
      ≡ (r.unclear || ((not (is_some o || (a || (not (b || c) && (d || is_some p)))) || false) || false))
  read_plain_by at (Some x) a b c d p inside r = note_use_clear at x.usable r ∙ or_false r.unclear
  read_plain_by at None true b c d p inside r = or_false r.unclear
  read_plain_by at None false true c d p inside r = or_true r.unclear
  read_plain_by at None false false true d p inside r = or_true r.unclear
  read_plain_by at None false false false true p inside r = missing_arguments_clear (params_of (slice_get ds INT64)) inside r ∙ or_false r.unclear
  read_plain_by at None false false false false (Some n) inside r = missing_arguments_clear (params_of (slice_get ds n)) inside r ∙ or_false r.unclear
  read_plain_by at None false false false false None inside r = or_true r.unclear

  read_plain_clear : (at : ℕ) (n : List ℕ) → IsType (λ v. used at (plain_type n) v ∷ []) (λ s inside r. read_plain ds at (meaning_of ds (visible s) n) inside r)
  read_plain_clear at n s v inside r h e =
      let a = same_text n (codes "Any") in
      let b = same_text n (codes "Union") in
      let c = same_text n (codes "Tuple") in
      let d = same_text n (codes "Int") in
      let p = place_of (type_names ds) n in
      let q = place_found 0 (type_names ds) n ∙ ap (λ ns. is_among n ns) e in
      read_plain_by at (var_of (visible s) n) a b c d p inside r ∙ (λ i. r.unclear || ((not (h.now.names n i || (a || (not (b || c) && (d || q i)))) || false) || false))

  read_applied_by : (at : ℕ) (us : List Uses) (xs : List ArgReads) → Pairs IsArg us xs → (o : Option TypeVar) (a b c d : Bool) (p : Option ℕ) (s : Seen) (v : Visible) (inside : Bool) (r : Reading)
      → KnowsSeen tests k s v → type_names ds ≡ v.types
      → (read_applied ds at (var_or o (cond a N.Any (cond b N.Union (cond c N.Tuple (cond d (N.Nominal INT64) (M.nominal_of p)))))) xs s inside r).after.unclear
      ≡ (r.unclear || ((not (not (is_some o) && (not a && (b || (c || (d || is_some p))))) || false) || any_hides (if_read (not (is_some o) && (not a && (b || (c || (d || is_some p))))) (each us v))))
  read_applied_by at us xs l (Some x) a b c d p s v inside r h e = or_true r.unclear
  read_applied_by at us xs l None true b c d p s v inside r h e = or_true r.unclear
  read_applied_by at us xs l None false true c d p s v inside r h e = read_members_clear us xs l s v inside r h e
  read_applied_by at us xs l None false false true d p s v inside r h e = read_members_clear us xs l s v inside r h e
  read_applied_by at us xs l None false false false true p s v inside r h e = read_arguments_clear us xs l (params_of (slice_get ds INT64)) s v inside r h e
  read_applied_by at us xs l None false false false false (Some n) s v inside r h e = read_arguments_clear us xs l (params_of (slice_get ds n)) s v inside r h e
  read_applied_by at us xs l None false false false false None s v inside r h e = or_true r.unclear

  read_applied_clear : (at : ℕ) (n : List ℕ) (us : List Uses) (xs : List ArgReads) → Pairs IsArg us xs
      → IsType (λ v. used at (braced_type n) v ∷ if_read (U.takes_braces n v) (each us v)) (λ s inside r. read_applied ds at (meaning_of ds (visible s) n) xs s inside r)
  read_applied_clear at n us xs l s v inside r h e =
      let a = same_text n (codes "Any") in
      let b = same_text n (codes "Union") in
      let c = same_text n (codes "Tuple") in
      let d = same_text n (codes "Int") in
      let p = place_of (type_names ds) n in
      let q = place_found 0 (type_names ds) n ∙ ap (λ ns. is_among n ns) e in
      read_applied_by at us xs l (var_of (visible s) n) a b c d p s v inside r h e
      ∙ (λ i. r.unclear || ((not (not (h.now.names n i) && (not a && (b || (c || (d || q i))))) || false) || any_hides (if_read (not (h.now.names n i) && (not a && (b || (c || (d || q i))))) (each us v))))

  -- ---- variables

  bind_clear : (b : Brings) (x : VarReads) → IsVar b x → (s : Seen) (own : List TypeVar) (w v : Visible) (r : Reading) → KnowsSeen tests k (with_own own (in_bound s)) w → KnowsSeen tests k (with_own own s) v
      → type_names ds ≡ w.types → type_names ds ≡ v.types
      → Clears (b.uses w ++ used b.at (type_variable b.name) v ∷ []) r (bind x s own r).after
      × (KnowsSeen tests k (with_own (bind x s own r).vars (in_bound s)) (with_var b.name w) × KnowsSeen tests k (with_own (bind x s own r).vars s) (with_var b.name v))
  bind_clear b x l s own w v r g h d e =
      let y = x.bounds (with_own own (in_bound s)) r in
      let o = var_of (visible (with_own own s)) x.name in
      let n = note_builtin x.at x.name y.after in
      let z = rebound x.at o n in
      let mine = used b.at (type_variable b.name) v ∷ [] in
      let last : z.unclear ≡ (y.after.unclear || any_hides mine) =
      rebound_clear x.at o n ∙ (λ i. note_builtin_clear x.at x.name y.after i || h.now.names x.name i) ∙ ap (λ m. y.after.unclear || is_among m v.vars) (sym l.name)
      ∙ ap (λ c. y.after.unclear || c) (or_false (is_among b.name v.vars)) in
      let one : TypeVar = record { name = x.name; number = length n.vars; usable = true } in
      let more = (bind x s own r).vars in (
        both_clear (b.uses w) mine r y.after z (l.bounds (with_own own (in_bound s)) w r g d) last,
        (
          subst (λ m. KnowsSeen tests k (with_own more (in_bound s)) (with_var m w)) (sym l.name) (one_seen tests k (in_bound s) own w one refl g),
          subst (λ m. KnowsSeen tests k (with_own more s) (with_var m v)) (sym l.name) (one_seen tests k s own v one refl h),
        ),
      )

  brought_clear : (bs : List Brings) (xs : List VarReads) → Pairs IsVar bs xs → (s : Seen) (own : List TypeVar) (w v : Visible) (r : Reading) → KnowsSeen tests k (with_own own (in_bound s)) w → KnowsSeen tests k (with_own own s) v
      → type_names ds ≡ w.types → type_names ds ≡ v.types
      → Clears (brought_by bs w v) r (bind_all xs s own r).after × KnowsSeen tests k (with_own (bind_all xs s own r).vars s) (with_vars bs v)
  brought_clear [] [] p s own w v r g h d e = (same_clear r r refl, h)
  brought_clear [] (x ∷ xs) p s own w v r g h d e = absurd p
  brought_clear (b ∷ bs) [] p s own w v r g h d e = absurd p
  brought_clear (b ∷ bs) (x ∷ xs) p s own w v r g h d e =
      let z = bind x s own r in
      let here = bind_clear b x p.0 s own w v r g h d e in
      let rest = brought_clear bs xs p.1 s z.vars (with_var b.name w) (with_var b.name v) z.after here.1.0 here.1.1 d e in
      (both_clear (b.uses w ++ used b.at (type_variable b.name) v ∷ []) (brought_by bs (with_var b.name w) (with_var b.name v)) r z.after (bind_all xs s z.vars z.after).after here.0 rest.0, rest.1)

  within_clear : (u : Uses) (t : TypeReads) → IsType u t → (bs : List Brings) (xs : List VarReads) → Pairs IsVar bs xs → IsType (λ v. brought bs v ++ u (with_vars bs v)) (within t xs)
  within_clear u t l bs xs p s v inside r h e =
      let w = bind_where xs inside r in
      let d = bind_all xs s [] (without_places w) in
      let q = brought_clear bs xs p s [] (U.in_bound v) v (without_places w) (subst (λ x. KnowsSeen tests k x (U.in_bound v)) (sym (none_of_own (in_bound s))) (bound_knows tests k s v h)) (subst (λ x. KnowsSeen tests k x v) (sym (none_of_own s)) h) e e in
      let z = t (with_own d.vars s) inside (record d.after { places = r.places }) in
      swap_clear (length r.vars) (length d.after.vars) (places_behind d.after.places z.after)
      ∙ both_clear (brought bs v) (u (with_vars bs v)) r d.after z.after (q.0 ∙ ap (λ b. b || any_hides (brought bs v)) (where_clear xs inside r)) (l (with_own d.vars s) (with_vars bs v) inside (record d.after { places = r.places }) q.1 e)

  -- ---- a text is clear where its layer is

  text_at : (l : TypeText-F ArgText TypeText VarText)
      → IsType (U.type_step (map-TypeText ArgText TypeText VarText Uses Uses Brings arg_uses type_uses var_uses l)) (R.type_step ds (map-TypeText ArgText TypeText VarText ArgReads TypeReads VarReads (arg_reads ds) (type_reads ds) (var_reads ds) l))
      → IsType (type_uses (roll-TypeText l)) (type_reads ds (roll-TypeText l))
  text_at l h =
      subst (λ u. IsType u (type_reads ds (roll-TypeText l))) (sym (fold-roll-TypeText Uses Uses Brings U.arg_step U.type_step U.var_step l))
      (subst (λ x. IsType (U.type_step (map-TypeText ArgText TypeText VarText Uses Uses Brings arg_uses type_uses var_uses l)) x) (sym (fold-roll-TypeText ArgReads TypeReads VarReads (R.arg_step ds) (R.type_step ds) (R.var_step ds) l)) h)

  arg_at : (l : ArgText-F ArgText TypeText VarText)
      → IsArg (U.arg_step (map-ArgText ArgText TypeText VarText Uses Uses Brings arg_uses type_uses var_uses l)) (R.arg_step ds (map-ArgText ArgText TypeText VarText ArgReads TypeReads VarReads (arg_reads ds) (type_reads ds) (var_reads ds) l))
      → IsArg (arg_uses (roll-ArgText l)) (arg_reads ds (roll-ArgText l))
  arg_at l h =
      subst (λ u. IsArg u (arg_reads ds (roll-ArgText l))) (sym (fold-roll-ArgText Uses Uses Brings U.arg_step U.type_step U.var_step l))
      (subst (λ x. IsArg (U.arg_step (map-ArgText ArgText TypeText VarText Uses Uses Brings arg_uses type_uses var_uses l)) x) (sym (fold-roll-ArgText ArgReads TypeReads VarReads (R.arg_step ds) (R.type_step ds) (R.var_step ds) l)) h)

  var_at : (l : VarText-F ArgText TypeText VarText)
      → IsVar (U.var_step (map-VarText ArgText TypeText VarText Uses Uses Brings arg_uses type_uses var_uses l)) (R.var_step ds (map-VarText ArgText TypeText VarText ArgReads TypeReads VarReads (arg_reads ds) (type_reads ds) (var_reads ds) l))
      → IsVar (var_uses (roll-VarText l)) (var_reads ds (roll-VarText l))
  var_at l h =
      subst (λ u. IsVar u (var_reads ds (roll-VarText l))) (sym (fold-roll-VarText Uses Uses Brings U.arg_step U.type_step U.var_step l))
      (subst (λ x. IsVar (U.var_step (map-VarText ArgText TypeText VarText Uses Uses Brings arg_uses type_uses var_uses l)) x) (sym (fold-roll-VarText ArgReads TypeReads VarReads (R.arg_step ds) (R.type_step ds) (R.var_step ds) l)) h)

  cases : TextCases (λ t. IsArg (arg_uses t) (arg_reads ds t)) (λ t. IsType (type_uses t) (type_reads ds t)) (λ t. IsVar (var_uses t) (var_reads ds t))
  cases = record {
    name = λ at n. text_at (F.Name at n) (read_plain_clear at n);
    applied = λ at n xs l. text_at (F.Applied at n xs) (read_applied_clear at n (map arg_uses xs) (map (arg_reads ds) xs) (each_pairs IsArg arg_uses (arg_reads ds) xs l));
    paren = λ at t vs l p. text_at (F.Paren at t vs) (within_clear (type_uses t) (type_reads ds t) l (map var_uses vs) (map (var_reads ds) vs) (each_pairs IsVar var_uses (var_reads ds) vs p));
    exact = λ t l. arg_at (F.Exact t) (λ s v outer inner r h e. l s v inner r h e);
    below_ = λ at t l. arg_at (F.ArgText::Below at t) (λ s v outer inner r h e. l (in_bound s) (U.in_bound v) true r (bound_knows tests k s v h) e);
    above = λ at t l. arg_at (F.ArgText::Above at t) (λ s v outer inner r h e. l (in_bound s) (U.in_bound v) true r (bound_knows tests k s v h) e);
    free = λ at n. var_at (F.Free at n) (record { name = refl; bounds = λ s v r h e. same_clear r r refl });
    upper = λ at n t l. var_at (F.VarText::Below at n t) (record { name = refl; bounds = λ s v r h e. l s v true r h e });
    lower = λ at n t l. var_at (F.VarText::Above at n t) (record { name = refl; bounds = λ s v r h e. l s v true r h e });
    between = λ t at n u l p. var_at (F.Between t at n u)
        (record {
          name = refl;
          bounds = λ s v r h e.
              let b = type_reads ds t s true r in
              both_clear (type_uses t v) (type_uses u v) r b.after (type_reads ds u s true b.after).after (l s v true r h e) (p s v true b.after h e);
        });
  }

  pub type_clear : (t : TypeText) → IsType (type_uses t) (type_reads ds t)
  type_clear = by_type _ _ _ cases

  arg_clear : (x : ArgText) → IsArg (arg_uses x) (arg_reads ds x)
  arg_clear = by_arg _ _ _ cases

  var_clear : (x : VarText) → IsVar (var_uses x) (var_reads ds x)
  var_clear = by_var _ _ _ cases

  -- a type that is no part of another one
  pub alone_clear : (t : TypeText) (vars : List TypeVar) (v : Visible) (r : Reading) → Knows tests k vars v → type_names ds ≡ v.types → Clears (alone_uses t v) r (type_reads ds t (seen vars [] false) false r).after
  alone_clear t vars v r h e = type_clear t (seen vars [] false) (in_type v) false r (type_knows tests k vars v h) e

  option_clear : (t : Option TypeText) (vars : List TypeVar) (v : Visible) (r : Reading) → Knows tests k vars v → type_names ds ≡ v.types → Clears (option_uses t v) r (option_reads ds t vars r).after
  option_clear None vars v r h e = same_clear r r refl
  option_clear (Some t) vars v r h e = alone_clear t vars v r h e

  pub options_clear : (ts : List (Option TypeText)) (vars : List TypeVar) (v : Visible) (r : Reading) → Knows tests k vars v → type_names ds ≡ v.types → Clears (options_uses ts v) r (all_read ds ts vars r).after
  options_clear [] vars v r h e = same_clear r r refl
  options_clear (t ∷ ts) vars v r h e =
      let u = option_reads ds t vars r in
      both_clear (option_uses t v) (options_uses ts v) r u.after (all_read ds ts vars u.after).after (option_clear t vars v r h e) (options_clear ts vars v u.after h e)

  pub bound_clear : (vs : List VarText) (v : Visible) (r : Reading) → KnowsSeen tests k (seen [] [] true) v → type_names ds ≡ v.types
      → Clears (brought (map var_uses vs) v) r (all_bound ds vs r).after × Knows tests k (all_bound ds vs r).vars (with_vars (map var_uses vs) v)
  bound_clear vs v r h e =
      let nothing_seen = seen [] [] true in
      let q = brought_clear (map var_uses vs) (map (var_reads ds) vs) (each_pairs IsVar var_uses (var_reads ds) vs (each_all (λ x. IsVar (var_uses x) (var_reads ds x)) var_clear vs)) nothing_seen [] (U.in_bound v) v r (bound_knows tests k nothing_seen v h) h e e in
      (q.0, q.1.now)

  -- the parts of a tuple that is read as a signature
  pub parts_clear : (xs : List ArgText) (vars : List TypeVar) (v : Visible) (r : Reading) → Knows tests k vars v → type_names ds ≡ v.types
      → Clears (args_uses xs v) r (parts_read ds xs vars r).after
  parts_clear xs vars v r h e =
      read_members_clear (map arg_uses xs) (map (arg_reads ds) xs) (each_pairs IsArg arg_uses (arg_reads ds) xs (each_all (λ x. IsArg (arg_uses x) (arg_reads ds x)) arg_clear xs)) (seen vars [] false) (in_type v) false r (type_knows tests k vars v h) e

  pub args_clear : (xs : List ArgText) (bs : List Bound) (vars : List TypeVar) (v : Visible) (r : Reading) → Knows tests k vars v → type_names ds ≡ v.types
      → Clears (args_uses xs v) r (read_arguments bs (map (arg_reads ds) xs) (seen vars [] false) false r).after
  args_clear xs bs vars v r h e =
      read_arguments_clear (map arg_uses xs) (map (arg_reads ds) xs) (each_pairs IsArg arg_uses (arg_reads ds) xs (each_all (λ x. IsArg (arg_uses x) (arg_reads ds x)) arg_clear xs)) bs (seen vars [] false) (in_type v) false r (type_knows tests k vars v h) e
