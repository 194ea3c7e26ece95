-- Where an operation of the prelude is chosen for values, they are values that it takes.
use Rattle.std.proofs.Common.{◌≡◌, ◌∙◌, inl, inr, refl, sym, ap, subst, ℕ, ℤ, zero, suc, ◌<◌, arith, Bool, true, false, nat_le, IsTrue, List, [], ◌∷◌, map, length, take, get_or, Option, None, Some, slice_get}
use Rattle.std.specs.Int.{w64}
use Rattle.std.specs.Prelude.{FitsSigned}
use Rattle.std.specs.List.{Contains}
use Rattle.jl_model.specs.declared.ty.Ty.{Ty, out-Ty}
use Rattle.jl_model.specs.declared.ty.Ty.TheOpen as L
use Rattle.jl_model.specs.declared.ty.Ty.TheViews.{rolls-Nominal, outs-Nominal, outs-Tuple}
use Rattle.jl_model.specs.declared.ty.Ty.TheFolds.{para-roll-Ty}
use Rattle.jl_model.specs.declared.ty.Decl.{Decl}
use Rattle.jl_model.specs.Ancestors.{named, table_of}
use Rattle.jl_model.specs.Normal.{IsNormal, nominal, none}
use Rattle.jl_model.specs.Refusals.{Declared}
use Rattle.jl_model.specs.Rows.{choices, forms, forms_step, place_of, kind, root}
use Rattle.jl_model.specs.Signature.{Applicable, Both, both_end, both_more}
use Rattle.jl_model.specs.Subtype.{opaque, put, Below}
use Rattle.jl_model.proofs.DeclaredLemmas.{declared_lawful}
use Rattle.jl_model.proofs.FormLemmas.{put-nominal}
use Rattle.jl_model.proofs.NormalLemmas.{normal_same}
use Rattle.jl_match.proofs.ConcreteLemmas.{concrete-nominal, concrete_turns}
use Rattle.jl_program.specs.declared.datum.Datum.{Datum, out-Datum}
use Rattle.jl_program.specs.declared.datum.Datum.TheOpen as D
use Rattle.jl_program.specs.declared.datum.Datum.TheViews.{out-roll-Datum}
use Rattle.jl_program.specs.declared.prelude.Shape.{Shape}
use Rattle.jl_program.specs.declared.prelude.Shape.TheVariants.{Integer, Integers, Truth, Truths}
use Rattle.jl_program.specs.declared.tree.Program.{Program}
use Rattle.jl_program.specs.declared.tree.Site.{Site}
use Rattle.jl_program.specs.declared.value.Value.{Value}
use Rattle.jl_program.specs.declared.value.Value.TheVariants as V
use Rattle.jl_program.specs.Meaning.{datum}
use Rattle.jl_program.specs.Prelude.{OperationRow, operations, plain, shape_types, site_of_row, prelude_sites}
use Rattle.jl_program.specs.Scope.{all_types, types_of}
use Rattle.jl_program.specs.TypeOf.{type_of}
use Rattle.jl_program.specs.Valid.{IsValid}
use Rattle.jl_program.specs.ValidValue.{IsValueType, is_declared_step, int, truth, nothing, task, tuple, made}
use Rattle.jl_program.specs.ValidValue as values
use Rattle.jl_calculus.specs.Run.{number_of}
use Rattle.jl_host.specs.Replies.{IsTruth, AreShown, shown_by, IsShown}
use Rattle.jl_task.specs.declared.point.Work.TheVariants as W
use Rattle.jl_calculus.specs.ValidHistory.{IsValidValue}
use Rattle.jl_task.specs.ValidPoint.{AreValidValues}
use Rattle.jl_task.proofs.AskedLemmas.{call_is}
use Rattle.jl_task.proofs.SelectedLemmas.{IsSelected}
use Rattle.jl_task.proofs.ValueTypes.{type_is_value_type}
use Rattle.jl_task.specs.Knows.{Knows, IsMethod}
use Rattle.jl_task.specs.Fits.{Fitting, Progress}
use Rattle.jl_machine.specs.Taken.{AreOfShape, taken_by, IsTakenBy, MayPerform}
use Rattle.jl_machine.proofs.Stepping.{method_there}

-- ---- what is taken can be shown

truth_is : (b : Bool) (a : ℤ) → a ≡ number_of (V.Bool b) → IsTruth a
truth_is true a e = inr e
truth_is false a e = inl e

shown_as : (shape : Shape) (vs : List Value) (a b : ℤ) → AreOfShape shape vs → a ≡ number_of (get_or vs 0 V.Nothing) → b ≡ number_of (get_or vs 1 V.Nothing) → FitsSigned w64 a → FitsSigned w64 b → AreShown shape a b
shown_as Integer vs a b (n, is) e f fa fb = (fa, f ∙ ap (λ xs. number_of (get_or xs 1 V.Nothing)) is)
shown_as Integers vs a b t e f fa fb = (fa, fb)
shown_as Truth vs a b (x, is) e f fa fb = (truth_is x a (e ∙ ap (λ xs. number_of (get_or xs 0 V.Nothing)) is), f ∙ ap (λ xs. number_of (get_or xs 1 V.Nothing)) is)
shown_as Truths vs a b (x, y, is) e f fa fb = (truth_is x a (e ∙ ap (λ xs. number_of (get_or xs 0 V.Nothing)) is), truth_is y b (f ∙ ap (λ xs. number_of (get_or xs 1 V.Nothing)) is))

shown_row : (row : Option OperationRow) (vs : List Value) (a b : ℤ) → taken_by row vs → a ≡ number_of (get_or vs 0 V.Nothing) → b ≡ number_of (get_or vs 1 V.Nothing) → FitsSigned w64 a → FitsSigned w64 b → shown_by row a b
shown_row None vs a b t e f fa fb = absurd t
shown_row (Some (o, g, shape)) vs a b t e f fa fb = shown_as shape vs a b t e f fa fb

pub shown_to : (site : ℕ) (vs : List Value) (a b : ℤ) → IsTakenBy site vs → a ≡ number_of (get_or vs 0 V.Nothing) → b ≡ number_of (get_or vs 1 V.Nothing) → FitsSigned w64 a → FitsSigned w64 b → IsShown site a b
shown_to site vs a b t e f fa fb = shown_row (slice_get operations site) vs a b t e f fa fb

-- ---- values whose type is built in

tuple_named : (ds : List Decl) (t : Ty) (parts : List Datum) (k : ℕ) (d : Datum) → values.IsValid ds d → out-Datum d ≡ D.Tuple t parts → t ≡ named k → ⊥
tuple_named ds t parts k d (int a n o) e is = let f : D.Int n ≡ D.Tuple t parts = sym o ∙ e in cc
tuple_named ds t parts k d (truth a b o) e is = let f : D.Bool b ≡ D.Tuple t parts = sym o ∙ e in cc
tuple_named ds t parts k d (nothing a o) e is = let f : D.Nothing ≡ D.Tuple t parts = sym o ∙ e in cc
tuple_named ds t parts k d (task a n o) e is = let f : D.Task n ≡ D.Tuple t parts = sym o ∙ e in cc
tuple_named ds t parts k d (tuple a u ps o all made_of few small) e is =
    let f : D.Tuple u ps ≡ D.Tuple t parts = sym o ∙ e in
    let g : u ≡ t = cc in
    let x : L.Tuple (map values.kept_type ps) ≡ L.Nominal k [] = sym (outs-Tuple (map values.kept_type ps)) ∙ ap out-Ty (sym made_of ∙ g ∙ is) ∙ outs-Nominal k [] in
    cc
tuple_named ds t parts k d (made a u ps o all s of small) e is = let f : D.Struct u ps ≡ D.Tuple t parts = sym o ∙ e in cc

struct_named : (ds : List Decl) (t : Ty) (parts : List Datum) (k : ℕ) → k < 8 → (d : Datum) → values.IsValid ds d → out-Datum d ≡ D.Struct t parts → t ≡ named k → ⊥
struct_named ds t parts k low d (int a n o) e is = let f : D.Int n ≡ D.Struct t parts = sym o ∙ e in cc
struct_named ds t parts k low d (truth a b o) e is = let f : D.Bool b ≡ D.Struct t parts = sym o ∙ e in cc
struct_named ds t parts k low d (nothing a o) e is = let f : D.Nothing ≡ D.Struct t parts = sym o ∙ e in cc
struct_named ds t parts k low d (task a n o) e is = let f : D.Task n ≡ D.Struct t parts = sym o ∙ e in cc
struct_named ds t parts k low d (tuple a u ps o all made_of few small) e is = let f : D.Tuple u ps ≡ D.Struct t parts = sym o ∙ e in cc
struct_named ds t parts k low d (made a u ps o all s of small) e is =
    let f : D.Struct u ps ≡ D.Struct t parts = sym o ∙ e in
    let g : u ≡ t = cc in
    let h : IsTrue (nat_le 8 k) = subst (λ x. IsTrue (is_declared_step x)) (ap out-Ty (g ∙ is) ∙ outs-Nominal k []) s.declared in
    absurd (grind (arith, h, low))

module _ (P : Program) where
  other_name : (j k : ℕ) → named j ≡ named k → j ≡ k
  other_name j k e = let f : L.Nominal j [] ≡ L.Nominal k [] = sym (outs-Nominal j []) ∙ ap out-Ty e ∙ outs-Nominal k [] in cc

  int_is : (v : Value) → IsValidValue P v → type_of v ≡ named 4 → (n : ℤ) × (v ≡ V.Int n)
  int_is (V.Int n) h e = (n, refl)
  int_is (V.Bool b) h e = absurd (omega (arith, other_name 5 4 e))
  int_is V.Nothing h e = absurd (omega (arith, other_name 6 4 e))
  int_is (V.Task n) h e = absurd (omega (arith, other_name 7 4 e))
  int_is (V.Tuple c) h e = absurd (tuple_named (all_types P) c.ty c.parts 4 (datum (V.Tuple c)) h (out-roll-Datum (D.Tuple c.ty c.parts)) e)
  int_is (V.Struct c) h e = absurd (struct_named (all_types P) c.ty c.parts 4 (omega arith) (datum (V.Struct c)) h (out-roll-Datum (D.Struct c.ty c.parts)) e)

  truth_value : (v : Value) → IsValidValue P v → type_of v ≡ named 5 → (b : Bool) × (v ≡ V.Bool b)
  truth_value (V.Bool b) h e = (b, refl)
  truth_value (V.Int n) h e = absurd (omega (arith, other_name 4 5 e))
  truth_value V.Nothing h e = absurd (omega (arith, other_name 6 5 e))
  truth_value (V.Task n) h e = absurd (omega (arith, other_name 7 5 e))
  truth_value (V.Tuple c) h e = absurd (tuple_named (all_types P) c.ty c.parts 5 (datum (V.Tuple c)) h (out-roll-Datum (D.Tuple c.ty c.parts)) e)
  truth_value (V.Struct c) h e = absurd (struct_named (all_types P) c.ty c.parts 5 (omega arith) (datum (V.Struct c)) h (out-roll-Datum (D.Struct c.ty c.parts)) e)

  -- ---- a signature of built-in types

  named_form : (at : ℕ → List Ty) (k : ℕ) → forms at (named k) ≡ named k ∷ []
  named_form at k = ap (forms at) (sym (rolls-Nominal k [])) ∙ para-roll-Ty (List Ty) (forms_step at) (L.Nominal k [])

  one_row : (at : ℕ → List Ty) (ks : List ℕ) → choices (map (forms at) (map named ks)) ≡ map named ks ∷ []
  one_row at [] = refl
  one_row at (k ∷ ks) = rw (named_form at k, one_row at ks) refl

  only_one : (xs ys : List Ty) → Contains (xs ∷ []) ys → xs ≡ ys
  only_one xs ys (zero, l, e) = e
  only_one xs ys (suc i, l, e) = absurd (omega (arith, l))

  named_put : (f : ℕ → Ty) (k : ℕ) → put f (named k) ≡ named k
  named_put f k = put-nominal f k []

  -- built-in struct types
  abbrev AreStructs : List ℕ → Type 0
  AreStructs [] = Unit {0}
  AreStructs (k ∷ ks) = ((table_of (all_types P)).is_struct k ≡ true) × AreStructs ks

  int_struct : (table_of (all_types P)).is_struct 4 ≡ true
  unfolding table_of
  int_struct = refl

  bool_struct : (table_of (all_types P)).is_struct 5 ≡ true
  unfolding table_of
  bool_struct = refl

  module _ (declared : Declared (all_types P)) where
    -- the type of a value that is below one of them is that one
    same_name : (k : ℕ) → (table_of (all_types P)).is_struct k ≡ true → (t : Ty) → IsValueType (all_types P) t → Below (table_of (all_types P)) opaque t (named k) → t ≡ named k
    same_name k s t v b =
        let n = table_of (all_types P) in
        let normal : IsNormal n (named k) = nominal (named k) k [] (outs-Nominal k []) none in
        normal_same n (declared_lawful (all_types P) declared) t v.normal (named k) normal
        (b, concrete_turns (all_types P) declared (named k) (concrete-nominal n k [] ∙ s) t v.concrete b)

    same_names : (f : ℕ → Ty) (ks : List ℕ) → AreStructs ks → (vs : List Value) → AreValidValues P vs → (ts us : List Ty) → ts ≡ map type_of vs → us ≡ map named ks
        → Both (λ t u. Below (table_of (all_types P)) opaque t (put f u)) ts us → map type_of vs ≡ map named ks
    same_names f [] s [] h ts us e g b = refl
    same_names f [] s (v ∷ vs) h _ _ e g both_end = cc
    same_names f [] s (v ∷ vs) h _ _ e g (both_more t u ts us p b) = cc
    same_names f (k ∷ ks) s [] h _ _ e g both_end = cc
    same_names f (k ∷ ks) s [] h _ _ e g (both_more t u ts us p b) = cc
    same_names f (k ∷ ks) s (v ∷ vs) h _ _ e g both_end = cc
    same_names f (k ∷ ks) s (v ∷ vs) h _ _ e g (both_more t u ts us p b) =
        let et : t ≡ type_of v = cc in
        let eu : u ≡ named k = cc in
        let ets : ts ≡ map type_of vs = cc in
        let eus : us ≡ map named ks = cc in
        let n = table_of (all_types P) in
        let below : Below n opaque (type_of v) (named k) = subst (λ x. Below n opaque (type_of v) x) (ap (put f) eu ∙ named_put f k) (subst (λ x. Below n opaque x (put f u)) et p) in
        let here = same_name k s.0 (type_of v) (type_is_value_type P declared v h.0) below in
        let rest = same_names f ks s.1 vs h.1 ts us ets eus b in
        (λ i. here i ∷ rest i)

    names_are : (ks : List ℕ) → AreStructs ks → (vs : List Value) → AreValidValues P vs → Applicable (table_of (all_types P)) (plain (map named ks)) (map type_of vs) → map type_of vs ≡ map named ks
    names_are ks s vs h (r, f, row, serves, closed, b) =
        let sig = plain (map named ks) in
        let us : map named ks ≡ r.parts = only_one (map named ks) r.parts (subst (λ cs. Contains cs r.parts) (one_row (λ v. place_of sig v (kind sig v)) ks) row.parts) in
        same_names (λ v. f (root sig v)) ks s vs h (map type_of vs) r.parts refl (sym us) b

    of_shape : (shape : Shape) (vs : List Value) → AreValidValues P vs → Applicable (table_of (all_types P)) (plain (shape_types shape)) (map type_of vs) → AreOfShape shape vs
    of_shape Integer vs h a = one vs h (names_are (4 ∷ []) (int_struct, tt) vs h a)
      where
        one : (vs : List Value) → AreValidValues P vs → map type_of vs ≡ named 4 ∷ [] → AreOfShape Integer vs
        one [] h e = cc
        one (v ∷ []) h e = let f : type_of v ≡ named 4 = cc in let (n, is) = int_is v h.0 f in (n, ap (λ x. x ∷ []) is)
        one (v ∷ u ∷ vs) h e = cc
    of_shape Integers vs h a = two vs h (names_are (4 ∷ 4 ∷ []) (int_struct, (int_struct, tt)) vs h a)
      where
        two : (vs : List Value) → AreValidValues P vs → map type_of vs ≡ named 4 ∷ named 4 ∷ [] → AreOfShape Integers vs
        two [] h e = cc
        two (v ∷ []) h e = cc
        two (v ∷ u ∷ []) h e =
            let f : type_of v ≡ named 4 = cc in
            let g : type_of u ≡ named 4 = cc in
            let (n, is) = int_is v h.0 f in
            let (m, at) = int_is u h.1.0 g in
            (n, m, λ i. is i ∷ at i ∷ [])
        two (v ∷ u ∷ w ∷ vs) h e = cc
    of_shape Truth vs h a = one vs h (names_are (5 ∷ []) (bool_struct, tt) vs h a)
      where
        one : (vs : List Value) → AreValidValues P vs → map type_of vs ≡ named 5 ∷ [] → AreOfShape Truth vs
        one [] h e = cc
        one (v ∷ []) h e = let f : type_of v ≡ named 5 = cc in let (n, is) = truth_value v h.0 f in (n, ap (λ x. x ∷ []) is)
        one (v ∷ u ∷ vs) h e = cc
    of_shape Truths vs h a = two vs h (names_are (5 ∷ 5 ∷ []) (bool_struct, (bool_struct, tt)) vs h a)
      where
        two : (vs : List Value) → AreValidValues P vs → map type_of vs ≡ named 5 ∷ named 5 ∷ [] → AreOfShape Truths vs
        two [] h e = cc
        two (v ∷ []) h e = cc
        two (v ∷ u ∷ []) h e =
            let f : type_of v ≡ named 5 = cc in
            let g : type_of u ≡ named 5 = cc in
            let (n, is) = truth_value v h.0 f in
            let (m, at) = truth_value u h.1.0 g in
            (n, m, λ i. is i ∷ at i ∷ [])
        two (v ∷ u ∷ w ∷ vs) h e = cc

  -- ---- the operation of a site

  taken_same : (n i : ℕ) (xs : List Site) → i < n → slice_get (take n xs) i ≡ slice_get xs i
  taken_same zero i xs l = absurd (omega (arith, l))
  taken_same (suc n) i [] l = refl
  taken_same (suc n) zero (x ∷ xs) l = refl
  taken_same (suc n) (suc i) (x ∷ xs) l = taken_same n i xs (omega (arith, l))

  row_at : (rows : List OperationRow) (i : ℕ) (site : Site) → slice_get (map site_of_row rows) i ≡ Some site → (row : OperationRow) × (slice_get rows i ≡ Some row) × (site_of_row row ≡ site)
  row_at [] i site e = absurd (cc)
  row_at (row ∷ rows) zero site e = (row, refl, cc)
  row_at (row ∷ rows) (suc i) site e = row_at rows i site e

  taken_row : (v : IsValid P) (site : ℕ) (x : Site) (vs : List Value) → AreValidValues P vs → Applicable (types_of P) x.sig (map type_of vs) → (row : OperationRow) → slice_get operations site ≡ Some row → site_of_row row ≡ x → IsTakenBy site vs
  taken_row v site x vs h a (o, f, shape) there is =
      let applies : Applicable (types_of P) (plain (shape_types shape)) (map type_of vs) = subst (λ (s : Site). Applicable (types_of P) s.sig (map type_of vs)) (sym is) a in
      subst (λ row. taken_by row vs) (sym there) (of_shape v.decls shape vs h applies)

  pub selected_taken : (v : IsValid P) (f site : ℕ) (vs : List Value) → AreValidValues P vs → IsSelected P f site (map type_of vs) → MayPerform site vs
  selected_taken v f site vs h s low =
      let there : slice_get prelude_sites site ≡ Some s.site = ap (λ xs. slice_get xs site) (sym v.prelude) ∙ taken_same (length prelude_sites) site P.sites low ∙ s.there in
      let (row, at, is) = row_at operations site s.site there in
      taken_row v site s.site vs h s.applies row at is

-- the values of a call are taken by the operation that is chosen for it
pub chosen_taken : (k : Knows) (p : Progress) (P : Program) (f w site : ℕ) (vs : List Value) (ts : List Ty) → P ≡ k.program → ts ≡ map type_of vs → Fitting k (W.Calling f w vs) p → IsSelected P f site ts → MayPerform site vs
chosen_taken k p P f w site vs ts eP types h s =
    let here = call_is k.program h.valid.views f w vs p.now h.good in
    let own : IsSelected k.program f site (map type_of vs) = subst (λ us. IsSelected k.program f site us) types (subst (λ Q. IsSelected Q f site ts) eP s) in
    selected_taken k.program h.valid f site vs here.2 own

-- so are they by one that is remembered
pub recalled_taken : (k : Knows) (p : Progress) (f w site : ℕ) (vs us : List Value) (ts : List Ty) → us ≡ vs → Fitting k (W.Calling f w vs) p → IsMethod k f (map type_of us) w site ts → MayPerform site vs
recalled_taken k p f w site vs us ts open_ h m = chosen_taken k p k.program f w site vs (map type_of us) refl (ap (map type_of) open_) h (method_there k f w site (map type_of us) m.right)
