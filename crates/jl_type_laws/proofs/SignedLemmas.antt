-- The signatures of methods and deletions: where no fault stands they are good, and those of methods fit what their bodies see.
use Rattle.std.proofs.Common.{◌≡◌, ◌∙◌, sym, ap, refl, ℕ, suc, ◌+◌, ◌<◌, arith, Bool, true, false, nat_lt, List, [], ◌∷◌, ◌++◌, map, length, Option, None}
use Rattle.std.specs.List.{flat_map, list_all}
use Rattle.jl_model.specs.declared.ty.Bound.{Bound}
use Rattle.jl_model.specs.declared.ty.Decl.{Decl}
use Rattle.jl_model.specs.declared.ty.Ty.{Ty}
use Rattle.jl_model.specs.declared.ty.Written.{Written}
use Rattle.jl_model.specs.AllRows.{each_var}
use Rattle.jl_model.specs.Refusals.{bound_types}
use Rattle.jl_model.specs.Rows.{vars_in}
use Rattle.jl_model.specs.Usable.{is_usable}
use Rattle.jl_model.specs.Valid.{is_known}
use Rattle.jl_typeread.specs.declared.tree.TypeText.{TypeText}
use Rattle.jl_typeread.specs.declared.tree.VarText.{VarText}
use Rattle.jl_typeread.specs.declared.tree.ArgText.TheViews.{out-TypeText}
use Rattle.jl_grammar.specs.declared.tree.Head.{Head}
use Rattle.jl_grammar.specs.declared.tree.Param.{Param}
use Rattle.jl_written.specs.declared.fault.StaticKind.TheVariants as kind
use Rattle.jl_written.specs.declared.reading.Reading.{Reading}
use Rattle.jl_written.specs.declared.reading.TypeVar.{TypeVar}
use Rattle.jl_written.specs.Meaning.{var_of}
use Rattle.jl_written.specs.Reads.{Types, Scoped, VarReads, Seen, seen, visible, with_own, in_bound, without_places, places_behind, no_reading, bind_name, note_builtin, bind, bind_all, var_reads}
use Rattle.jl_written.specs.Signatures.{all_bound, all_read, parts_read, option_reads, signature_with, written_of}
use Rattle.jl_written.specs.TextOrder.{in_text_order, text_places, number_in}
use Rattle.jl_resolve_forms.specs.declared.known.Known.{Known}
use Rattle.jl_resolve_forms.specs.declared.state.Signed.{Signed}
use Rattle.jl_resolve_forms.specs.Expressions.{type_of, static_parameters, judge_signature, method_signature, deleted_signature, signature_args, signature_vars}
use Rattle.jl_resolve_forms.specs.TypesIn.{Tests, declared_at}
use Rattle.jl_resolve_forms.proofs.FlagLemmas.{each_var_at}
use Rattle.jl_type_laws.specs.Carried.{Passes, vars_pass, AllHave, Visible, WhereUsable, IsCarried}
use Rattle.jl_type_laws.specs.Scripts.{DeclsKnown}
use Rattle.jl_type_laws.specs.Told.{StaticsFit, IsGoodDeletion, IsGoodSignature}
use Rattle.jl_type_laws.proofs.GrowLemmas.{grows_trans}
use Rattle.jl_type_laws.proofs.CarryLemmas.{lt_true, all_pass, bounds_pass, all_flat}
use Rattle.jl_type_laws.proofs.AdoptLemmas.{adopt_bounds_length, adopt_bounds_has}
use Rattle.jl_type_laws.proofs.OrderLemmas.{number_below, known_kept, vars_kept, ordered_passes, ordered_told, ordered_count}
use Rattle.jl_type_laws.proofs.ReadLemmas.{all_law, parts_law, bound_law}
use Rattle.jl_type_laws.proofs.StepLemmas.{Steps, then_, keep, before, note_places, without_steps, behind_steps}
use Rattle.jl_type_laws.proofs.BodyLemmas.{untold, known_at, vars_at, types_pass, nothing_has}

-- ---- the variables of a `where` at the end may all stand behind it

abbrev pub AllUsable : List TypeVar → Type 0
AllUsable [] = Unit {0}
AllUsable (v ∷ vs) = (v.usable ≡ true) × AllUsable vs

usable_append : (vs : List TypeVar) (v : TypeVar) → AllUsable vs → v.usable ≡ true → AllUsable (vs ++ v ∷ [])
usable_append [] v h g = (g, tt)
usable_append (u ∷ vs) v h g = (h.0, usable_append vs v h.1 g)

bound_usable : (at : ℕ) (name : List ℕ) (b : Bound) (vars : List TypeVar) (r : Reading) (o : Option TypeVar) → AllUsable vars → AllUsable (bind_name at name b vars r o).vars
bound_usable at name b vars r o h = usable_append vars (record { name = name; number = length r.vars; usable = true }) h refl

pub all_usable : (vs : List VarReads) (s : Seen) (own : List TypeVar) (r : Reading) → AllUsable own → AllUsable (bind_all vs s own r).vars
all_usable [] s own r h = h
all_usable (v ∷ vs) s own r h =
    let b = v.bounds (with_own own (in_bound s)) r in
    let d = bind v s own r in
    all_usable vs s d.vars d.after (bound_usable v.at v.name b.bound own (note_builtin v.at v.name b.after) (var_of (visible (with_own own s)) v.name) h)

-- ---- static parameters

lt_of : (v n : ℕ) → nat_lt v n ≡ true → v < n
lt_of v n e = grind (arith, e)

pub statics_fit : (w : Written) (vs : List TypeVar) → Visible (WhereUsable (λ v. nat_lt v (length w.vars) ≡ true)) vs → AllUsable vs → StaticsFit (each_var (is_usable w) 0 w.vars) (static_parameters w vs)
statics_fit w [] h g = tt
statics_fit w (v ∷ vs) h g = (
  (λ u. each_var_at (is_usable w) w.vars 0 v.number false (lt_of v.number (length w.vars) (h.0 g.0)) ∙ ap (is_usable w) (let e : 0 + v.number ≡ v.number = omega arith in e) ∙ u),
  statics_fit w vs h.1 g.1,
)

-- ---- as many types as parameters

read_length : (ds : List Decl) (ts : List (Option TypeText)) (vars : List TypeVar) (r : Reading) → length (all_read ds ts vars r).tys ≡ length ts
read_length ds [] vars r = refl
read_length ds (t ∷ ts) vars r = ap suc (read_length ds ts vars (option_reads ds t vars r).after)

types_length : (ps : List Param) → length (map type_of ps) ≡ length ps
types_length [] = refl
types_length (p ∷ ps) = ap suc (types_length ps)

-- the places in the bounds of a `where` are put aside while the types in front of it are read
module _ (ds : List Decl) (P : Ty → Type 0) (N : ℕ → Type 0) (S : ℕ → Bool → Type 0) (Ok : Reading → Type 0) (c : IsCarried ds P N S Ok) where
  behind_where : (vars : List TypeVar) (r : Reading) (ts : Types) → Steps ds P N S Ok c (without_places r) ts.after (Visible S vars) (AllHave P ts.tys)
      → Steps ds P N S Ok c r (places_behind r.places ts.after) (Visible S vars) (AllHave P ts.tys)
  behind_where vars r ts l =
      then_ ds P N S Ok c (note_places ds P N S Ok c r)
      (then_ ds P N S Ok c (without_steps ds P N S Ok c r)
      (then_ ds P N S Ok c (keep ds P N S Ok c (before ds P N S Ok c (λ g. g.1) l)) (behind_steps ds P N S Ok c r.places ts.after)))

-- ---- types that are read behind the variables of a `where`

module _ (t : Tests) (k : Known) (declared : DeclsKnown k.decls) (types : ℕ) (vs : List VarText) (read : List TypeVar → Reading → Types)
    (law :
    (P : Ty → Type 0) (N : ℕ → Type 0) (S : ℕ → Bool → Type 0) (Ok : Reading → Type 0) (c : IsCarried (declared_at k types) P N S Ok) (vars : List TypeVar) (r : Reading)
    → Steps (declared_at k types) P N S Ok c r (read vars r).after (Visible S vars) (AllHave P (read vars r).tys)) where
  abbrev Bounds : Scoped
  Bounds = all_bound (declared_at k types) vs no_reading

  abbrev Sig : Signed
  Sig = judge_signature t (signature_with (declared_at k types) vs read)

  -- the signature is good, and the variables of the `where` are among its own
  pub record Signs : Type 0 where
    pub good : IsGoodDeletion t k.decls Sig
    pub vars : Visible (WhereUsable (λ v. nat_lt v (length Sig.sig.vars) ≡ true)) Bounds.vars

  pub signs : Sig.fault ≡ None → Sig.refusal ≡ None → Signs
  signs e n =
      let ds = declared_at k types in
      let s = Bounds in
      let begun = without_places s.after in
      let raw = read s.vars begun in
      let r = places_behind s.after.places raw.after in
      let ts : Types = record { tys = raw.tys; after = r } in
      let us = in_text_order ts in
      let w = written_of t.below us in
      let as_it_was = ordered_told ts r.swaps in
      let f = sym as_it_was.fault_is ∙ e in
      let q : ℕ → Bool = λ v. nat_lt v (length r.vars) in
      let ck = known_at k.decls declared types in
      let cv = vars_at k.decls declared types q in
      let bk = bound_law ds _ _ _ _ ck vs no_reading in
      let bv = bound_law ds _ _ _ _ cv vs no_reading in
      let lk = behind_where ds _ _ _ _ ck s.vars s.after raw (law _ _ _ _ ck s.vars begun) in
      let lv = behind_where ds _ _ _ _ cv s.vars s.after raw (law _ _ _ _ cv s.vars begun) in
      let long = lv.grows.longer in
      let grown = grows_trans no_reading s.after r bv.grows lv.grows in
      let known_vars = bk.holds tt (λ v l. tt) tt (nothing_has _) in
      let known_types = lk.holds tt (λ v l. tt) known_vars.0 known_vars.1 in
      let known = ordered_passes (is_known (length k.decls)) ts (known_kept (length k.decls) (text_places r)) r.swaps known_types.0 known_types.1 in
      let own_vars = bv.holds (lv.grows.faultless f) (λ v l. lt_true v (length r.vars) (omega (arith, l, long))) tt (nothing_has _) in
      let owned = lv.holds f (λ v l. lt_true v (length r.vars) l) own_vars.0 own_vars.1 in
      let stays : (v : ℕ) → q v ≡ true → q (number_in (text_places r) v) ≡ true = λ v h. lt_true (number_in (text_places r) v) (length r.vars) (number_below r (grown.fits tt) v (lt_of v (length r.vars) h)) in
      let own = ordered_passes (vars_pass q) ts (vars_kept q (text_places r) stays) r.swaps owned.0 owned.1 in
      let same : length w.vars ≡ length r.vars = adopt_bounds_length t.below us.after.places us.after.vars ∙ as_it_was.length_is in
      record {
        good = record {
          own = ap (λ z. list_all (λ v. nat_lt v z) (flat_map vars_in us.tys)) same ∙ all_flat q us.tys ∙ all_pass (vars_pass q) us.tys own.0;
          own_bounds = ap (λ z. list_all (λ v. nat_lt v z) (flat_map vars_in (bound_types w.vars))) same ∙ all_flat q (bound_types w.vars)
              ∙ bounds_pass (vars_pass q) w.vars (adopt_bounds_has (Passes (vars_pass q)) t.below us.after.places us.after.vars (cv.union [] tt) cv.any own.1.bounds own.1.places);
          known = types_pass (is_known (length k.decls)) t.below us.after us.tys (ck.union [] tt) ck.any known.1 known.0;
          allowed = untold us.after.misplaced us.after.unclear kind.VariablePlace (t.signature w) (as_it_was.unclear_is ∙ grown.told f) n;
        };
        vars = widened w.vars s.vars (sym same) own_vars.0;
      }
    where
      widened : {n : ℕ} (bs : List Bound) (vs : List TypeVar) → n ≡ length bs → Visible (WhereUsable (λ v. nat_lt v n ≡ true)) vs → Visible (WhereUsable (λ v. nat_lt v (length bs) ≡ true)) vs
      widened bs [] e h = tt
      widened bs (v ∷ vs) e h = ((λ u. ap (λ z. nat_lt v.number z) (sym e) ∙ h.0 u), widened bs vs e h.1)

-- ---- methods and deletions

module _ (t : Tests) (k : Known) (declared : DeclsKnown k.decls) (types : ℕ) where
  pub method_signature_good : (head : Head) → (method_signature t k types head).fault ≡ None → (method_signature t k types head).refusal ≡ None
      → IsGoodSignature t k.decls head (method_signature t k types head)
  method_signature_good head e n =
      let ds = declared_at k types in
      let texts = map type_of head.params in
      let s = all_bound ds head.vars no_reading in
      let raw = all_read ds texts s.vars (without_places s.after) in
      let ts : Types = record { tys = raw.tys; after = places_behind s.after.places raw.after } in
      let g = signs t k declared types head.vars (all_read ds texts) (λ P N S Ok c vars r. all_law ds P N S Ok c texts vars r) e n in
      record {
        own = g.good.own;
        own_bounds = g.good.own_bounds;
        known = g.good.known;
        allowed = g.good.allowed;
        counted = sym (ordered_count ts ts.after.swaps ∙ read_length ds texts s.vars (without_places s.after) ∙ types_length head.params);
        statics = statics_fit (method_signature t k types head).sig s.vars g.vars (all_usable (map (var_reads ds) head.vars) (seen [] [] true) [] no_reading tt);
      }

  pub deleted_signature_good : (text : TypeText) → (deleted_signature t k types text).fault ≡ None → (deleted_signature t k types text).refusal ≡ None
      → IsGoodDeletion t k.decls (deleted_signature t k types text)
  deleted_signature_good text e n =
      let ds = declared_at k types in
      let xs = signature_args (out-TypeText text) in
      let g = signs t k declared types (signature_vars (out-TypeText text)) (parts_read ds xs) (λ P N S Ok c vars r. parts_law ds P N S Ok c xs vars r) e n in
      g.good
