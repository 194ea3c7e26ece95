-- Expressions with types that are written in them, and calls: where the types and the parts are good, the form is.
use Rattle.std.proofs.Common.{◌≡◌, ◌∙◌, ap, sym, refl, subst, ℕ, zero, suc, ◌<◌, ◌≤◌, arith, Bool, true, false, cond, nat_lt, nat_le, nat_eq, List, [], ◌∷◌, ◌++◌, map, length, drop, take-append-drop, Option, Some, None, slice_get, lt-ltb, le-leb, ltb-false, true≢false}
use Rattle.std.specs.List.{list_all, flat_map}
use Rattle.jl_model.specs.declared.ty.Ty.TheOpen.{Nominal}
use Rattle.jl_model.specs.declared.ty.Ty.TheFolds.{fold-roll-Ty}
use Rattle.jl_model.specs.declared.ty.Ty.TheViews.{out-Ty, rolls-Nominal, outs-Nominal}
use Rattle.jl_model.specs.declared.ty.Decl.{Decl}
use Rattle.jl_model.specs.declared.ty.Written.{Written}
use Rattle.jl_model.specs.Ancestors.{named as nominal, is_struct_kind}
use Rattle.jl_model.specs.Rows.{vars_in, vars_step}
use Rattle.jl_model.specs.Valid.{names_in, names_step, is_known, params_of}
use Rattle.jl_program.specs.declared.tree.Expr.{Expr as Code}
use Rattle.jl_program.specs.declared.tree.Expr.TheOpen as V
use Rattle.jl_program.specs.declared.tree.Expr.TheVariants as W
use Rattle.jl_program.specs.declared.tree.Expr.TheViews as X
use Rattle.jl_program.specs.declared.tree.Program.{Program}
use Rattle.jl_program.specs.BodyTypes.{IsSmallStruct, is_seen, is_made, is_struct, is_struct_type, is_inferable, finds_variables, may_stand, fields_signature as fields_of}
use Rattle.jl_program.specs.declared.prelude.TheConstants.{PRELUDE_FUNCTIONS}
use Rattle.jl_program.specs.Prelude.{prelude_functions}
use Rattle.jl_program.specs.Scope.{View, is_valid_expr, all_types, expr_step as valid_step}
use Rattle.jl_program.proofs.ValidLayers.{valid-make, valid-infer, valid-isa, valid-sub}
use Rattle.jl_token.specs.declared.token.Operator.{Operator}
use Rattle.jl_token.specs.declared.token.Operator.TheVariants as O
use Rattle.jl_typeread.specs.declared.tree.ArgText.{ArgText}
use Rattle.jl_typeread.specs.declared.tree.TypeText.{TypeText}
use Rattle.jl_typeread.specs.declared.tree.ArgText.TheViews.{out-TypeText}
use Rattle.jl_typeread.specs.declared.tree.VarText.{VarText}
use Rattle.jl_typeread.specs.declared.tree.ArgText.TheOpen as T
use Rattle.jl_grammar.specs.declared.tree.Eval.TheOpen as F
use Rattle.jl_grammar.specs.declared.tree.Callee.{Callee}
use Rattle.jl_grammar.specs.declared.tree.Callee.TheVariants as C
use Rattle.jl_grammar.specs.declared.tree.Name.{Name}
use Rattle.jl_written.specs.declared.fault.StaticKind.{StaticKind}
use Rattle.jl_written.specs.declared.fault.StaticKind.TheVariants as kind
use Rattle.jl_written.specs.Meaning.{place_of}
use Rattle.jl_written.specs.Reads.{Typed}
use Rattle.jl_written.specs.Signatures.{adopt_bounds, body_type, constructor_type}
use Rattle.jl_resolve_forms.specs.declared.known.Known.{Known}
use Rattle.jl_resolve_forms.specs.declared.known.Called.{Called}
use Rattle.jl_resolve_forms.specs.declared.known.Called.TheVariants as D
use Rattle.jl_resolve_forms.specs.declared.state.Scope.{Scope}
use Rattle.jl_resolve_forms.specs.declared.state.State.{State}
use Rattle.jl_resolve_forms.specs.Resolver.{Resolution}
use Rattle.jl_resolve_forms.specs.Scopes.{slot_of, note_if, merge_fault}
use Rattle.jl_resolve_forms.specs.Functions.{function_of_operator, place_of_callee, unless_taken, function_of, own_function, if_struct, struct_named, struct_of, constructor, callee_from, callee_of}
use Rattle.jl_resolve_forms.specs.Parameters.{has_usable_parameters_at}
use Rattle.jl_resolve_forms.specs.TypesIn.{Tests, declared_at, refusal, start_of, one_type, make_refusal, type_at, make_type, type_in_body, make_at}
use Rattle.jl_resolve_forms.specs.Expressions.{Reads, all_coded, count_call, latest, inferred_refusal, call, make_struct, make_args, made, expr_step}
use Rattle.jl_valid.specs.Adds.{got, no_got, got_both, got_in, got_codes, Fits, Adds}
use Rattle.jl_valid.specs.Parts.{Sees, standing, Passes, IsCode, IsGood, Each, IsKnown, IsGoodType, AreGoodArgs}
use Rattle.jl_valid.proofs.FaultLemmas.{no_note, note_if_none, note_if_same, merge_fault_same, test_false, test_same, clean}
use Rattle.jl_valid.proofs.AddsLemmas.{formed, got_is, with_own, and, right, nothing, ends_at, by_layer}
use Rattle.jl_valid.proofs.BareType.{bare_allowed}
use Rattle.jl_valid.proofs.FormLemmas.{got_at, codes_pass, all_good, call_passes, latest_passes}
use Rattle.jl_valid.proofs.ScopeLemmas.{same_number, no_number, place_there, place_past}

-- ---- what a called name may be

operator_small : (o : Operator) (f : ℕ) → function_of_operator o ≡ Some f → f < 12
operator_small O.Plus f e = omega (arith, same_number 0 f e)
operator_small O.Minus f e = omega (arith, same_number 1 f e)
operator_small O.Times f e = omega (arith, same_number 2 f e)
operator_small O.Divide f e = omega (arith, same_number 3 f e)
operator_small O.Remainder f e = omega (arith, same_number 4 f e)
operator_small O.Equal f e = omega (arith, same_number 5 f e)
operator_small O.NotEqual f e = omega (arith, same_number 6 f e)
operator_small O.Less f e = omega (arith, same_number 7 f e)
operator_small O.LessEqual f e = omega (arith, same_number 8 f e)
operator_small O.Greater f e = omega (arith, same_number 9 f e)
operator_small O.GreaterEqual f e = omega (arith, same_number 10 f e)
operator_small O.Not f e = omega (arith, same_number 11 f e)
operator_small _ f e = absurd (no_number f e)

unless_some : (a b : Option ℕ) (f : ℕ) → unless_taken a b ≡ Some f → b ≡ Some f
unless_some None b f e = e
unless_some (Some i) b f e = absurd (no_number f e)

pub function_there : (k : Known) → IsKnown k → (g : Callee) (c : Scope) (f : ℕ) → function_of k g c ≡ Some f → f < length k.functions
unfolding function_of
function_there k h (C.Plain n) c f e = place_there k.functions n.bytes f (unless_some (slot_of c.slots n.bytes) _ f e)
function_there k h (C.Base at n) c f e = let twelve : length prelude_functions ≡ 12 = refl in omega (arith, h.functions, twelve, place_there prelude_functions n.bytes f e)
function_there k h (C.Operator at o) c f e = omega (arith, h.functions, operator_small o f e)

unless_none : (a b : Option ℕ) (f : ℕ) → unless_taken a b ≡ Some f → a ≡ None
unless_none None b f e = refl
unless_none (Some i) b f e = absurd (no_number f e)

-- a function of the script comes after those of the prelude
pub own_there : (k : Known) → IsKnown k → (n : Name) (c : Scope) (f : ℕ) → own_function k n c ≡ Some f → (f < length k.functions) × (PRELUDE_FUNCTIONS ≤ f)
unfolding own_function
own_there k h n c f e =
    let past = unless_some (slot_of c.slots n.bytes) _ f e in
    let named = unless_some (place_of prelude_functions n.bytes) (place_of k.functions n.bytes) f past in
    let twelve : length prelude_functions ≡ 12 = refl in
    let begins : k.functions ≡ prelude_functions ++ drop 12 k.functions = sym (ap (λ ns. ns ++ drop 12 k.functions) (sym h.prelude) ∙ take-append-drop 12 k.functions) in
    let least = place_past prelude_functions (drop 12 k.functions) 0 n.bytes f (unless_none (place_of prelude_functions n.bytes) (place_of k.functions n.bytes) f past) (ap (λ ns. place_of ns n.bytes) (sym begins) ∙ named) in (
      place_there k.functions n.bytes f named,
      omega (arith, twelve, least),
    )

struct_from : (ds : List Decl) (o : Option ℕ) (p : ℕ) → if_struct ds o ≡ Some p → is_struct ds p ≡ true
struct_from ds None p e = absurd (no_number p e)
struct_from ds (Some q) p e = by (is_struct ds q) refl e
  where
    by : (b : Bool) → is_struct ds q ≡ b → cond b (Some q) None ≡ Some p → is_struct ds p ≡ true
    by true is h = subst (λ z. is_struct ds z ≡ true) (same_number q p h) is
    by false is h = absurd (no_number p h)

pub named_struct : (k : Known) (name : List ℕ) (c : Scope) (p : ℕ) → struct_named k name c ≡ Some p → is_struct k.decls p ≡ true
unfolding struct_named
named_struct k name c p e = struct_from k.decls (place_of (map (λ (d : Decl). d.name) k.decls) name) p (unless_some (slot_of c.slots name) _ p e)

callee_struct : (k : Known) (g : Callee) (c : Scope) (p : ℕ) → struct_of k g c ≡ Some p → is_struct k.decls p ≡ true
callee_struct k (C.Plain n) c p e = named_struct k n.bytes c p e
callee_struct k (C.Base at n) c p e = absurd (no_number p e)
callee_struct k (C.Operator at o) c p e = absurd (no_number p e)

-- what is called is there
abbrev pub IsThere : Known → Called → Type 0
IsThere k (D.Function f) = f < length k.functions
IsThere k (D.Bare p) = (is_struct k.decls p ≡ true) × (nat_eq (length (params_of (slice_get k.decls p))) 0 ≡ true)
IsThere k (D.Inferred p) = (is_struct k.decls p ≡ true) × (nat_eq (length (params_of (slice_get k.decls p))) 0 ≡ false)
IsThere k D.Unknown = Unit {0}

constructor_there : (k : Known) (p : ℕ) → is_struct k.decls p ≡ true → IsThere k (constructor k.decls p)
constructor_there k p h = by (nat_eq (length (params_of (slice_get k.decls p))) 0) refl
  where
    by : (b : Bool) → nat_eq (length (params_of (slice_get k.decls p))) 0 ≡ b → IsThere k (cond b (D.Bare p) (D.Inferred p))
    by true e = (h, e)
    by false e = (h, e)

called_there : (k : Known) (a b : Option ℕ) → ((p : ℕ) → a ≡ Some p → is_struct k.decls p ≡ true) → ((f : ℕ) → b ≡ Some f → f < length k.functions) → IsThere k (callee_from k.decls a b)
called_there k (Some p) b s f = constructor_there k p (s p refl)
called_there k None (Some i) s f = f i refl
called_there k None None s f = tt

pub callee_there : (k : Known) → IsKnown k → (g : Callee) (c : Scope) → IsThere k (callee_of k g c)
unfolding callee_of
callee_there k h g c = called_there k (struct_of k g c) (function_of k g c) (callee_struct k g c) (function_there k h g c)

-- ---- structs without parameters

names_of : (p : ℕ) → names_in (nominal p) ≡ p ∷ []
names_of p = ap names_in (sym (rolls-Nominal p [])) ∙ fold-roll-Ty (List ℕ) names_step (Nominal p [])

vars_of : (p : ℕ) → vars_in (nominal p) ≡ []
vars_of p = ap vars_in (sym (rolls-Nominal p [])) ∙ fold-roll-Ty (List ℕ) vars_step (Nominal p [])

some_struct : (ds : List Decl) (p : ℕ) → is_struct_kind (slice_get ds p) ≡ true → p < length ds
some_struct [] p e = absurd (true≢false (sym e))
some_struct (d ∷ ds) zero e = omega arith
some_struct (d ∷ ds) (suc p) e = omega (arith, some_struct ds p e)

struct_known : (ds : List Decl) (p : ℕ) → is_struct ds p ≡ true → is_known (length ds) (nominal p) ≡ true
struct_known ds p e =
    ap (list_all (λ j. nat_lt j (length ds))) (names_of p)
    ∙ and (nat_lt p (length ds)) true (lt-ltb p (length ds) (some_struct ds p (right (nat_le 8 p) (is_struct_kind (slice_get ds p)) e))) refl

pub bare_seen : (ds : List Decl) (flags : List Bool) (p : ℕ) → is_struct ds p ≡ true → is_seen ds flags (one_type (nominal p) []) ≡ true
bare_seen ds flags p e =
    and (list_all (is_known (length ds)) (nominal p ∷ [])) _ (and (is_known (length ds) (nominal p)) true (struct_known ds p e) refl)
    (ap (λ vs. list_all (may_stand 0 flags) (vs ++ [])) (vars_of p))

pub bare_made : (ds : List Decl) (p : ℕ) → is_struct ds p ≡ true → is_made ds (one_type (nominal p) []) ≡ true
bare_made ds p e = and (is_struct_type ds (out-Ty (nominal p))) true (ap (is_struct_type ds) (outs-Nominal p []) ∙ e) refl

-- ---- structs whose parameters are found

some_parameter : (n : ℕ) → nat_eq n 0 ≡ false → nat_le 1 n ≡ true
some_parameter zero e = absurd (true≢false e)
some_parameter (suc n) e = le-leb 1 (suc n) (omega arith)

finds : (o : Option Decl) → nat_eq (length (params_of o)) 0 ≡ false → has_usable_parameters_at o ≡ true → finds_variables (fields_of o) ≡ true
finds None e f = absurd (true≢false (sym f))
finds (Some d) e f = and (nat_le 1 (length d.params)) _ (some_parameter (length d.params) e) f

abbrev pub is_kind : Option StaticKind → Bool
is_kind None = false
is_kind (Some z) = true

pub no_kind : (k : StaticKind) → Some k ≡ None → ⊥
no_kind k e = true≢false (ap is_kind e)

finds_from : (b : Bool) (o : Option StaticKind) → cond b o (Some kind.StaticParameterUse) ≡ None → b ≡ true
finds_from true o e = refl
finds_from false o e = absurd (no_kind kind.StaticParameterUse e)

narrow_from : (b z : Bool) → b ≡ true → cond b (cond z (Some kind.TypeLimit) None) (Some kind.StaticParameterUse) ≡ None → z ≡ false
narrow_from true true is e = absurd (no_kind kind.TypeLimit e)
narrow_from true false is e = refl
narrow_from false z is e = absurd (no_kind kind.StaticParameterUse e)

-- ---- written types

at_same : (t : Tests) (at : ℕ) (ty : Typed) (s : State) → (type_at t at ty s).after.fault ≡ None → (type_at t at ty s).after ≡ s
at_same t at ty s e =
    let w = one_type ty.ty (adopt_bounds t.below ty.after.places ty.after.vars) in
    let m = merge_fault ty.after.fault s in
    let first = note_if_same at (refusal t.body ty.after w) m e in
    first ∙ merge_fault_same ty.after.fault s (clean m (type_at t at ty s).after e first)

pub body_same : (t : Tests) (k : Known) (text : TypeText) (c : Scope) (s : State) → (type_in_body t k text c s).after.fault ≡ None → (type_in_body t k text c s).after ≡ s
unfolding type_in_body
body_same t k text c s e = at_same t (start_of text) (body_type (declared_at k c.types) c.statics text) s e

make_type_same : (t : Tests) (at : ℕ) (ty : Typed) (counts : Bool) (s : State) → (make_type t at ty counts s).after.fault ≡ None → (make_type t at ty counts s).after ≡ s
make_type_same t at ty counts s e =
    let w = one_type ty.ty [] in
    let m = merge_fault ty.after.fault s in
    let first = note_if_same at (make_refusal t.body counts ty.after w) m e in
    first ∙ merge_fault_same ty.after.fault s (clean m (make_type t at ty counts s).after e first)

pub made_same : (t : Tests) (k : Known) (at p : ℕ) (xs : List ArgText) (c : Scope) (s : State) → (make_at t k at p xs c s).after.fault ≡ None → (make_at t k at p xs c s).after ≡ s
unfolding make_at
made_same t k at p xs c s e =
    let bs = params_of (slice_get k.decls p) in
    make_type_same t at (constructor_type (declared_at k c.types) p bs c.statics xs) (nat_eq (length xs) (length bs)) s e

module _ (t : Tests) (k : Known) where
  -- ---- forms with types

  make_passes :
      (P : Program) (all : List View) (v : View) (r : Bool) (n m : ℕ) (w : Written) (xs : List Code) → Fits k m P → is_seen k.decls v.statics w ≡ true → is_made k.decls w ≡ true
      → Passes v r n (codes_pass P all xs) → IsCode v r n (X.Make w xs) P all
  make_passes P all v r n m w xs f s d a =
      by_layer v r n (is_valid_expr P all (X.Make w xs)) (valid_step P all (V.Make w (map (is_valid_expr P all) xs))) (valid-make P all w xs)
      (λ least l. and (is_seen (all_types P) v.statics w) _ (ap (λ ds. is_seen ds v.statics w) f.types ∙ s)
      (and (is_made (all_types P) w) _ (ap (λ ds. is_made ds w) f.types ∙ d) (a least l)))

  infer_passes :
      (P : Program) (all : List View) (v : View) (r : Bool) (n m p : ℕ) (xs : List Code) → Fits k m P → is_inferable k.decls p ≡ true
      → Passes v r n (codes_pass P all xs) → IsCode v r n (X.Infer p xs) P all
  infer_passes P all v r n m p xs f s a =
      by_layer v r n (is_valid_expr P all (X.Infer p xs)) (valid_step P all (V.Infer p (map (is_valid_expr P all) xs))) (valid-infer P all p xs)
      (λ least l. and (is_inferable (all_types P) p) _ (ap (λ ds. is_inferable ds p) f.types ∙ s) (a least l))

  pub isa : (r : Bool) (at : ℕ) (ns : List Name) (x : Reads) (ty : TypeText) → IsGood k r ns x → IsGoodType k t ty → IsGood k r ns (expr_step t k (F.Isa at x ty))
  isa r at ns x ty good typed c v s see e =
      let y = x c s in
      let w = type_in_body t k ty c y.after in
      let same = body_same t k ty c y.after e in
      let seen = typed c v y.after see e in
      let own = got [] (w.value ∷ []) [] in
      ends_at k s y.after w.after ns (got_in (X.Isa y.value w.value)) (IsCode v r (length s.spawns) (X.Isa y.value w.value)) same
      (formed k s y.after ns (got_both own (got_in y.value)) (X.Isa y.value w.value) (IsCode v r (length s.spawns) y.value) (IsCode v r (length s.spawns) (X.Isa y.value w.value))
      (got_at (V.Isa y.value w.value) (X.Isa y.value w.value) (X.rolls-Isa y.value w.value))
      (with_own k s y.after ns own (got_in y.value) (IsCode v r (length s.spawns) y.value) refl (record { types = (seen.allowed, tt); structs = tt }) (good c v s see (clean y.after w.after e same)))
      (λ P all f a. by_layer v r (length s.spawns) (is_valid_expr P all (X.Isa y.value w.value)) (valid_step P all (V.Isa (is_valid_expr P all y.value) w.value)) (valid-isa P all y.value w.value)
      (λ least l. and (is_valid_expr P all y.value (standing v r least)) _ (a least l) (ap (λ ds. is_seen ds v.statics w.value) f.types ∙ seen.seen))))

  pub sub : (r : Bool) (at : ℕ) (a b : TypeText) → IsGoodType k t a → IsGoodType k t b → IsGood k r [] (expr_step t k (F.Sub at a b))
  sub r at a b good other c v s see e =
      let y = type_in_body t k a c s in
      let w = type_in_body t k b c y.after in
      let same = body_same t k b c y.after e in
      let none = clean y.after w.after e same in
      let first = body_same t k a c s none in
      let low = good c v s see none in
      let high = other c v y.after see e in
      let own = got [] (y.value ∷ w.value ∷ []) [] in
      let Holds = IsCode v r (length s.spawns) (W.Sub y.value w.value) in
      ends_at k s s w.after [] (got_in (W.Sub y.value w.value)) Holds (same ∙ first)
      (got_is k s s [] (got_both own no_got) (got_in (W.Sub y.value w.value)) Holds (got_at (V.Sub y.value w.value) (W.Sub y.value w.value) (X.rolls-Sub y.value w.value))
      (with_own k s s [] own no_got Holds refl (record { types = (low.allowed, (high.allowed, tt)); structs = tt })
      (nothing k s Holds (clean s y.after none first)
      (λ P all f. by_layer v r (length s.spawns) (is_valid_expr P all (W.Sub y.value w.value)) (valid_step P all (V.Sub y.value w.value)) (valid-sub P all y.value w.value)
      (λ least l. and (is_seen (all_types P) v.statics y.value) _ (ap (λ ds. is_seen ds v.statics y.value) f.types ∙ low.seen)
      (ap (λ ds. is_seen ds v.statics w.value) f.types ∙ high.seen))))))

  -- ---- calls

  module _ (r : Bool) (ns : List Name) (v : View) (s : State) (ys : Resolution (List Code)) where
    abbrev Given : Type 0
    Given = ys.after.fault ≡ None → Adds k s ys.after ns (got_codes ys.value) (λ P all. Passes v r (length s.spawns) (codes_pass P all ys.value))

    -- a counted call has at most 8 arguments
    count_call_adds :
        (at : ℕ) (x : Code) → got_in x ≡ got_codes ys.value → Given → (count_call at ys.value ys.after).fault ≡ None
        → ((P : Program) (all : List View) → Fits k (length ys.after.sites) P → length ys.value ≤ 8 → Passes v r (length s.spawns) (codes_pass P all ys.value) → IsCode v r (length s.spawns) x P all)
        → Adds k s (count_call at ys.value ys.after) ns (got_in x) (IsCode v r (length s.spawns) x)
    count_call_adds at x stands g e h =
        let same = test_same (nat_lt 8 (length ys.value)) at kind.TooManyArguments ys.after e in
        let few = ltb-false 8 (length ys.value) (test_false (nat_lt 8 (length ys.value)) at kind.TooManyArguments ys.after e) in
        ends_at k s ys.after (count_call at ys.value ys.after) ns (got_in x) (IsCode v r (length s.spawns) x) same
        (formed k s ys.after ns (got_codes ys.value) x (λ P all. Passes v r (length s.spawns) (codes_pass P all ys.value)) (IsCode v r (length s.spawns) x) stands (g (clean ys.after (count_call at ys.value ys.after) e same))
        (λ P all f a. h P all f few a))

    call_adds : ((p : ℕ) → is_struct k.decls p ≡ true → t.wide p ≡ false → IsSmallStruct k.decls p) → (at : ℕ) (d : Called) → IsThere k d → Given → (call t k at d ys.value ys.after).after.fault ≡ None → Adds k s (call t k at d ys.value ys.after).after ns (got_in (call t k at d ys.value ys.after).value) (IsCode v r (length s.spawns) (call t k at d ys.value ys.after).value)
    unfolding call
    call_adds small at (D.Function f) there g e = count_call_adds at (X.Call f ys.value) (got_at (V.Call f ys.value) (X.Call f ys.value) (X.rolls-Call f ys.value)) g e (λ P all fit few a. call_passes t k P all v r (length s.spawns) (length ys.after.sites) f ys.value fit there few a)
    call_adds small at (D.Bare p) there g e =
        let w = one_type (nominal p) [] in
        let own = got [] (w ∷ []) [] in
        let Before : Program → List View → Type 0 = λ P all. Passes v r (length s.spawns) (codes_pass P all ys.value) in
        formed k s ys.after ns (got_both own (got_codes ys.value)) (X.Make w ys.value) Before (IsCode v r (length s.spawns) (X.Make w ys.value))
        (got_at (V.Make w ys.value) (X.Make w ys.value) (X.rolls-Make w ys.value))
        (with_own k s ys.after ns own (got_codes ys.value) Before refl (record { types = (bare_allowed k.decls p there.1, tt); structs = tt }) (g e))
        (λ P all f a. make_passes P all v r (length s.spawns) (length ys.after.sites) (one_type (nominal p) []) ys.value f (bare_seen k.decls v.statics p there.0) (bare_made k.decls p there.0) a)
    call_adds small at (D.Inferred p) there g e =
        let o = inferred_refusal t k p in
        let same = note_if_same at o ys.after e in
        let found = finds_from (has_usable_parameters_at (slice_get k.decls p)) (cond (t.wide p) (Some kind.TypeLimit) None) (note_if_none at o ys.after e) in
        let inferable = and (is_struct k.decls p) (finds_variables (fields_of (slice_get k.decls p))) there.0 (finds (slice_get k.decls p) there.1 found) in
        let narrow = narrow_from (has_usable_parameters_at (slice_get k.decls p)) (t.wide p) found (note_if_none at o ys.after e) in
        let own = got [] [] (p ∷ []) in
        let Before : Program → List View → Type 0 = λ P all. Passes v r (length s.spawns) (codes_pass P all ys.value) in
        ends_at k s ys.after (note_if at o ys.after) ns (got_in (X.Infer p ys.value)) (IsCode v r (length s.spawns) (X.Infer p ys.value)) same
        (formed k s ys.after ns (got_both own (got_codes ys.value)) (X.Infer p ys.value) Before (IsCode v r (length s.spawns) (X.Infer p ys.value))
        (got_at (V.Infer p ys.value) (X.Infer p ys.value) (X.rolls-Infer p ys.value))
        (with_own k s ys.after ns own (got_codes ys.value) Before refl (record { types = tt; structs = (small p there.0 narrow, tt) }) (g (clean ys.after (note_if at o ys.after) e same)))
        (λ P all f a. infer_passes P all v r (length s.spawns) (length ys.after.sites) p ys.value f inferable a))
    call_adds small at D.Unknown there g e = absurd (no_note at kind.UnknownFunction ys.after e)

    latest_adds : (at : ℕ) (o : Option ℕ) → ((f : ℕ) → o ≡ Some f → f < length k.functions) → Given → (latest at o ys.value ys.after).after.fault ≡ None → Adds k s (latest at o ys.value ys.after).after ns (got_in (latest at o ys.value ys.after).value) (IsCode v r (length s.spawns) (latest at o ys.value ys.after).value)
    unfolding latest
    latest_adds at (Some f) there g e = count_call_adds at (X.Latest f ys.value) (got_at (V.Latest f ys.value) (X.Latest f ys.value) (X.rolls-Latest f ys.value)) g e (λ P all fit few a. latest_passes t k P all v r (length s.spawns) (length ys.after.sites) f ys.value fit (there f refl) few a)
    latest_adds at None there g e = absurd (no_note at kind.UnknownFunction ys.after e)

  pub call_good : IsKnown k → ((p : ℕ) → is_struct k.decls p ≡ true → t.wide p ≡ false → IsSmallStruct k.decls p) → (r : Bool) (at : ℕ) (f : Callee) (nss : List (List Name)) (xs : List Reads) → Each (IsGood k r) nss xs → IsGood k r (flat_map (λ n. n) nss) (expr_step t k (F.Call at f xs))
  call_good h small r at f nss xs good c v s see e =
      call_adds r (flat_map (λ n. n) nss) v s (all_coded xs c s) small (place_of_callee f) (callee_of k f c) (callee_there k h f c) (all_good t k r nss xs good c v s see) e

  pub latest_good : IsKnown k → (r : Bool) (at : ℕ) (f : Callee) (nss : List (List Name)) (xs : List Reads) → Each (IsGood k r) nss xs → IsGood k r (flat_map (λ n. n) nss) (expr_step t k (F.Latest at f xs))
  latest_good h r at f nss xs good c v s see e =
      latest_adds r (flat_map (λ n. n) nss) v s (all_coded xs c s) (place_of_callee f) (function_of k f c) (function_there k h f c) (all_good t k r nss xs good c v s see) e

  -- ---- explicit constructors

  made_adds :
      (r : Bool) (at : ℕ) (o : Option ℕ) (args : List ArgText) (nss : List (List Name)) (xs : List Reads) (c : Scope) (v : View) (s : State)
      → ((p : ℕ) → o ≡ Some p → is_struct k.decls p ≡ true) → AreGoodArgs k t args → Each (IsGood k r) nss xs → Sees c v → (made t k at o args xs c s).after.fault ≡ None
      → Adds k s (made t k at o args xs c s).after (flat_map (λ n. n) nss) (got_in (made t k at o args xs c s).value) (IsCode v r (length s.spawns) (made t k at o args xs c s).value)
  unfolding made
  made_adds r at None args nss xs c v s there typed good see e = absurd (no_note at kind.UnknownFunction (all_coded xs c s).after e)
  made_adds r at (Some p) args nss xs c v s there typed good see e =
      let w = make_at t k at p args c s in
      let ys = all_coded xs c w.after in
      let rest = all_good t k r nss xs good c v w.after see e in
      let same = made_same t k at p args c s rest.clean in
      let given = typed at p c v s see (there p refl) rest.clean in
      let from : Adds k s ys.after (flat_map (λ n. n) nss) (got_codes ys.value) (λ P all. Passes v r (length s.spawns) (codes_pass P all ys.value)) =
      subst (λ (z : State). Adds k z ys.after (flat_map (λ n. n) nss) (got_codes ys.value) (λ P all. Passes v r (length z.spawns) (codes_pass P all ys.value))) same rest in
      let own = got [] (w.value ∷ []) [] in
      let Before : Program → List View → Type 0 = λ P all. Passes v r (length s.spawns) (codes_pass P all ys.value) in
      formed k s ys.after (flat_map (λ n. n) nss) (got_both own (got_codes ys.value)) (X.Make w.value ys.value) Before (IsCode v r (length s.spawns) (X.Make w.value ys.value))
      (got_at (V.Make w.value ys.value) (X.Make w.value ys.value) (X.rolls-Make w.value ys.value))
      (with_own k s ys.after (flat_map (λ n. n) nss) own (got_codes ys.value) Before refl (record { types = (given.allowed, tt); structs = tt }) from)
      (λ P all f a. make_passes P all v r (length s.spawns) (length ys.after.sites) w.value ys.value f given.seen given.made a)

  struct_there : (l : T.TypeText-F ArgText TypeText VarText) (c : Scope) (p : ℕ) → make_struct k l c ≡ Some p → is_struct k.decls p ≡ true
  struct_there (T.Name at name) c p e = named_struct k name c p e
  struct_there (T.Applied at name args) c p e = named_struct k name c p e
  struct_there (T.Paren at ty vs) c p e = absurd (no_number p e)

  pub make_good :
      (r : Bool) (at : ℕ) (ty : TypeText) (nss : List (List Name)) (xs : List Reads) → AreGoodArgs k t (make_args (out-TypeText ty)) → Each (IsGood k r) nss xs
      → IsGood k r (flat_map (λ n. n) nss) (expr_step t k (F.Make at ty xs))
  make_good r at ty nss xs typed good c v s see e =
      made_adds r (start_of ty) (make_struct k (out-TypeText ty) c) (make_args (out-TypeText ty)) nss xs c v s (struct_there (out-TypeText ty) c) typed good see e
