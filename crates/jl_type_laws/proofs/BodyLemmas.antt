-- The types in bodies, and of explicit constructors: where no fault stands they may stand there.
use Rattle.std.proofs.Common.{◌≡◌, ◌∙◌, sym, ap, subst, refl, ℕ, ◌+◌, ◌-◌, ◌<◌, ◌≤◌, arith, Bool, true, false, ◌||◌, cond, nat_lt, List, [], ◌∷◌, length, length-take, take, get_or, Option, None, Some}
use Rattle.std.specs.List.{flat_map, list_all}
use Rattle.jl_model.specs.declared.ty.Ty.{Ty}
use Rattle.jl_model.specs.declared.ty.Ty.TheViews as V
use Rattle.jl_model.specs.declared.ty.Ty.TheViews.{out-Ty, outs-Nominal}
use Rattle.jl_model.specs.declared.ty.Ty.TheVariants as W
use Rattle.jl_model.specs.declared.ty.Decl.{Decl}
use Rattle.jl_model.specs.declared.ty.Written.{Written}
use Rattle.jl_model.specs.Refusals.{bound_types}
use Rattle.jl_model.specs.Rows.{vars_in}
use Rattle.jl_model.specs.SigRefusals.{types_in}
use Rattle.jl_model.specs.Valid.{is_known}
use Rattle.jl_model.proofs.PutLemmas.{both_true}
use Rattle.jl_program.specs.BodyTypes.{may_stand, is_seen}
use Rattle.jl_typeread.specs.declared.tree.TypeText.{TypeText}
use Rattle.jl_written.specs.declared.fault.Fault.{Fault}
use Rattle.jl_written.specs.declared.fault.StaticKind.{StaticKind}
use Rattle.jl_written.specs.declared.fault.StaticKind.TheVariants as kind
use Rattle.jl_written.specs.declared.reading.Reading.{Reading}
use Rattle.jl_written.specs.declared.reading.TypeVar.{TypeVar}
use Rattle.jl_written.specs.Reads.{seen, no_reading, type_reads}
use Rattle.jl_written.specs.Signatures.{adopt_bounds, shifted, width_of, body_type}
use Rattle.jl_written.specs.TextOrder.{text_places, number_in}
use Rattle.jl_resolve_forms.specs.declared.known.Known.{Known}
use Rattle.jl_resolve_forms.specs.declared.state.Scope.{Scope}
use Rattle.jl_resolve_forms.specs.declared.state.State.{State}
use Rattle.jl_resolve_forms.specs.Scopes.{note_if, merge_fault}
use Rattle.jl_resolve_forms.specs.TypesIn.{Tests, declared_at, refusal, start_of, one_type, type_at, type_in_body}
use Rattle.jl_type_laws.specs.Carried.{Passes, vars_pass, AllHave, ReadingHas, Visible, WhereUsable, NumbersHave, IsCarried}
use Rattle.jl_type_laws.specs.Scripts.{DeclsKnown}
use Rattle.jl_type_laws.specs.Told.{StaticsFit, IsSeenType}
use Rattle.jl_type_laws.proofs.GrowLemmas.{never_none, fault_at, or_left}
use Rattle.jl_type_laws.proofs.CarryLemmas.{lt_true, all_pass, bounds_pass, all_join, all_flat, all_take, closed_params, known_carried, vars_carried, all_carried}
use Rattle.jl_type_laws.proofs.AdoptLemmas.{adopt_bounds_length, adopt_bounds_has}
use Rattle.jl_type_laws.specs.Grown.{SwapsFit}
use Rattle.jl_type_laws.proofs.OrderLemmas.{number_below, number_kept, known_kept, vars_kept, one_ordered_passes, one_ordered_told}
use Rattle.jl_type_laws.proofs.ReadLemmas.{alone_law}
use Rattle.jl_type_laws.proofs.WideLemmas.{width_is}

-- ---- faults

pub note_if_none : (at : ℕ) (o : Option StaticKind) (s : State) → (note_if at o s).fault ≡ None → (o ≡ None) × (s.fault ≡ None)
note_if_none at None s e = (refl, e)
note_if_none at (Some k) s e = absurd (never_none s.fault (fault_at at k) e)

pub merge_fault_none : (f : Option Fault) (s : State) → (merge_fault f s).fault ≡ None → (f ≡ None) × (s.fault ≡ None)
merge_fault_none None s e = (refl, e)
merge_fault_none (Some f) s e = absurd (never_none s.fault (fault_at f.at f.kind) e)

pub untold : (misplaced unclear : Bool) (k : StaticKind) (o : Option StaticKind) → unclear ≡ false → cond misplaced (Some k) (cond unclear None o) ≡ None → o ≡ None
untold true unclear k o u e = cc
untold false true k o u e = cc
untold false false k o u e = e

-- ---- what is carried where some of the declarations are seen

pub taken : (types : ℕ) (ds : List Decl) → length (take types ds) ≤ length ds
taken types ds = let e = length-take types ds in omega (arith, e)

pub known_at : (ds : List Decl) → DeclsKnown ds → (types : ℕ) → IsCarried (take types ds) (Passes (is_known (length ds))) (λ v. Unit {0}) (λ v u. Unit {0}) (λ r. Unit {0})
known_at ds k types =
    known_carried (take types ds) (length ds) (taken types ds) k.builtins (all_take (λ (d : Decl). list_all (is_known (length ds)) (bound_types d.params)) types ds k.known)

pub vars_at : (ds : List Decl) → DeclsKnown ds → (types : ℕ) (q : ℕ → Bool) → IsCarried (take types ds) (Passes (vars_pass q)) (λ v. q v ≡ true) (WhereUsable (λ v. q v ≡ true)) (λ r. r.fault ≡ None)
vars_at ds k types q = vars_carried (take types ds) q (all_take (λ (d : Decl). list_all (vars_pass q) (bound_types d.params)) types ds (closed_params q ds k.closed))

pub every_at : (ds : List Decl) → DeclsKnown ds → (types : ℕ) (q : ℕ → Bool) → IsCarried (take types ds) (Passes (vars_pass q)) (λ v. q v ≡ true) (λ v u. q v ≡ true) (λ r. Unit {0})
every_at ds k types q = all_carried (take types ds) q (all_take (λ (d : Decl). list_all (vars_pass q) (bound_types d.params)) types ds (closed_params q ds k.closed))

-- all types in a signature whose variables have the bounds that they have behind the step for the declared bounds
pub types_pass : (p : Ty → Bool) (below : Ty → Ty → Bool) (r : Reading) (ts : List Ty) → p (V.Union []) ≡ true → p W.Any ≡ true → ReadingHas (Passes p) r → AllHave (Passes p) ts
    → list_all p (types_in (record { vars = adopt_bounds below r.places r.vars; parts = ts })) ≡ true
types_pass p below r ts l u h g =
    let a = adopt_bounds below r.places r.vars in
    all_join p (bound_types a) ts (bounds_pass p a (adopt_bounds_has (Passes p) below r.places r.vars l u h.bounds h.places)) (all_pass p ts g)

-- ---- static parameters

or_right : (a b : Bool) → b ≡ true → (a || b) ≡ true
or_right true b e = refl
or_right false b e = e

behind_own : (w n v : ℕ) → w ≡ n → (w + v) - n ≡ v
behind_own w n v e = omega (arith, e)

pub shifted_fit : (w n : ℕ) (flags : List Bool) (vs : List TypeVar) → w ≡ n → StaticsFit flags vs → Visible (WhereUsable (λ v. may_stand n flags v ≡ true)) (shifted w vs)
shifted_fit w n flags [] e f = tt
shifted_fit w n flags (v ∷ vs) e f = (
  (λ u. or_right (nat_lt (w + v.number) n) (get_or flags ((w + v.number) - n) false) (ap (λ z. get_or flags z false) (behind_own w n v.number e) ∙ f.0 u)),
  shifted_fit w n flags vs e f.1,
)

own_stand : (flags : List Bool) (r : Reading) → NumbersHave (λ v. may_stand (length r.vars) flags v ≡ true) r
own_stand flags r n l = or_left (nat_lt n (length r.vars)) (get_or flags (n - length r.vars) false) (lt_true n (length r.vars) l)

stays_by : (flags : List Bool) (n v w : ℕ) (b : Bool) → nat_lt v n ≡ b → (v < n → w < n) → (n ≤ v → w ≡ v) → may_stand n flags v ≡ true → may_stand n flags w ≡ true
stays_by flags n v w true e l k h = or_left (nat_lt w n) (get_or flags (w - n) false) (lt_true w n (l (grind (arith, e))))
stays_by flags n v w false e l k h = ap (λ z. may_stand n flags z) (k (grind (arith, e))) ∙ h

-- with its number in the text a variable may stand where it may without
stays_seen : (flags : List Bool) (r : Reading) → SwapsFit (length r.vars) r.swaps → (v : ℕ) → may_stand (length r.vars) flags v ≡ true → may_stand (length r.vars) flags (number_in (text_places r) v) ≡ true
stays_seen flags r f v h = stays_by flags (length r.vars) v (number_in (text_places r) v) (nat_lt v (length r.vars)) refl (number_below r f v) (number_kept r v) h

-- nothing is asked of the visible variables
pub all_visible : (vs : List TypeVar) → Visible (λ v u. Unit {0}) vs
all_visible [] = tt
all_visible (v ∷ vs) = (tt, all_visible vs)

pub nothing_has : (P : Ty → Type 0) → ReadingHas P no_reading
nothing_has P = record { bounds = tt; places = tt }

module _ (ds : List Decl) (flags : List Bool) (below : Ty → Ty → Bool) (ty : Ty) (r : Reading) where
  abbrev Seen : Written
  Seen = one_type ty (adopt_bounds below r.places r.vars)

  pub seen_of : (Passes (is_known (length ds)) ty × ReadingHas (Passes (is_known (length ds))) r) → is_known (length ds) (V.Union []) ≡ true → is_known (length ds) W.Any ≡ true
      → (Passes (vars_pass (may_stand (length r.vars) flags)) ty × ReadingHas (Passes (vars_pass (may_stand (length r.vars) flags))) r)
      → vars_pass (may_stand (length r.vars) flags) (V.Union []) ≡ true → vars_pass (may_stand (length r.vars) flags) W.Any ≡ true
      → is_seen ds flags Seen ≡ true
  seen_of k kl ku v vl vu =
      let q = may_stand (length r.vars) flags in
      let known = types_pass (is_known (length ds)) below r (ty ∷ []) kl ku k.1 (k.0, tt) in
      let vars = all_flat q (types_in Seen) ∙ types_pass (vars_pass q) below r (ty ∷ []) vl vu v.1 (v.0, tt) in
      let own = ap (λ z. list_all (may_stand z flags) (flat_map vars_in (types_in Seen))) (adopt_bounds_length below r.places r.vars) ∙ vars in
      both_true (list_all (is_known (length ds)) (types_in Seen)) (list_all (may_stand (length Seen.vars) flags) (flat_map vars_in (types_in Seen))) known own

module _ (t : Tests) (k : Known) (declared : DeclsKnown k.decls) (flags : List Bool) (c : Scope) (s : State) (fit : StaticsFit flags c.statics) where
  abbrev Decls : List Decl
  Decls = declared_at k c.types

  body_step : (text : TypeText) → (type_at t (start_of text) (body_type Decls c.statics text) s).after.fault ≡ None
      → IsSeenType t k.decls flags s (type_at t (start_of text) (body_type Decls c.statics text) s)
  body_step text e =
      let ty = body_type Decls c.statics text in
      let r = ty.after in
      let w = one_type ty.ty (adopt_bounds t.below r.places r.vars) in
      let n = note_if_none (start_of text) (refusal t.body r w) (merge_fault r.fault s) e in
      let m = merge_fault_none r.fault s n.1 in
      let vars = shifted (width_of Decls c.statics text) c.statics in
      let raw = type_reads Decls text (seen vars [] false) false no_reading in
      let as_it_was = one_ordered_told raw raw.after.swaps in
      let ck = known_at k.decls declared c.types in
      let q = may_stand (length raw.after.vars) flags in
      let cv = vars_at k.decls declared c.types q in
      let cw = vars_at k.decls declared c.types (may_stand (length r.vars) flags) in
      let wide = sym (width_is Decls c.statics text (width_of Decls c.statics text)) in
      let lk = alone_law Decls _ _ _ _ ck text vars no_reading in
      let lv = alone_law Decls _ _ _ _ cv text vars no_reading in
      let f = sym as_it_was.fault_is ∙ m.0 in
      let read = lk.holds tt (λ v l. tt) (all_visible vars) (nothing_has _) in
      let known = one_ordered_passes (is_known (length k.decls)) raw (known_kept (length k.decls) (text_places raw.after)) raw.after.swaps read.0 read.1 in
      let owned = lv.holds f (own_stand flags raw.after) (shifted_fit (width_of Decls c.statics text) (length raw.after.vars) flags c.statics wide fit) (nothing_has _) in
      let stand = one_ordered_passes (vars_pass q) raw (vars_kept q (text_places raw.after) (stays_seen flags raw.after (lv.grows.fits tt))) raw.after.swaps owned.0 owned.1 in
      let own = subst (λ n. Passes (vars_pass (may_stand n flags)) ty.ty × ReadingHas (Passes (vars_pass (may_stand n flags))) r) (sym as_it_was.length_is) stand in
      record {
        unfaulted = m.1;
        seen = seen_of k.decls flags t.below ty.ty r known (ck.union [] tt) ck.any own (cw.union [] tt) cw.any;
        allowed = untold r.misplaced r.unclear kind.VariablePlace (t.body w) (as_it_was.unclear_is ∙ lv.grows.told f) n.0;
      }

  pub body_seen : (text : TypeText) → (type_in_body t k text c s).after.fault ≡ None → IsSeenType t k.decls flags s (type_in_body t k text c s)
  unfolding type_in_body
  body_seen text e = body_step text e
