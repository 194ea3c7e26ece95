-- Values are found, with bounds that mention variables: where some types serve for a row, the types found serve.
use Rattle.std.proofs.Common.{◌≡◌, ◌∙◌, sym, ap, subst, refl, ℕ, zero, suc, ◌+◌, ◌<◌, ◌≤◌, arith, true, false, cond, List, [], ◌∷◌, map, length, get_or, Option, None, Some, ◌⊎◌, inl, inr}
use Rattle.std.specs.List.{flat_map}
use Rattle.jl_model.specs.declared.ty.Ty.{Ty}
use Rattle.jl_model.specs.declared.ty.Ty.TheOpen.{Ty-F, Any, Union, Tuple, Nominal, Var}
use Rattle.jl_model.specs.declared.ty.Ty.TheViews.{out-Ty, outs-Nominal}
use Rattle.jl_model.specs.declared.ty.Ty.TheViews as V
use Rattle.jl_model.specs.declared.ty.Ty.TheVariants as W
use Rattle.jl_model.specs.declared.ty.Decl.{Decl}
use Rattle.jl_model.specs.declared.ty.Bound.{Bound}
use Rattle.jl_model.specs.declared.ty.Written.{Written}
use Rattle.jl_model.specs.Ancestors.{table_of}
use Rattle.jl_model.specs.Kinds.{Kind, unused, once, diagonal, bound}
use Rattle.jl_model.specs.Rows.{free, width, low, high, kind, root, atom, vars_in, Stands, Occurs, standing, bounding}
use Rattle.jl_model.specs.Subtype.{Table, Fixed, put, Below, Equals, Equal, is_concrete}
use Rattle.jl_model.specs.Normal.{AllNormal}
use Rattle.jl_model.specs.Signature.{Row, top, Serves, Meet, is_diagonal}
use Rattle.jl_model.specs.Refusals.{Declared}
use Rattle.jl_model.specs.Found.{first, rising, first_form, ancestor, find_arg, find_inner, find_outer, find_bound, find_bound_form, then_find, at_atom, witness, in_bounds, hit, hits, or_else, or_type, outer, inner, found}
use Rattle.jl_model.proofs.TypeInduction.{Each, by_cases}
use Rattle.jl_model.proofs.FormLemmas.{is_nominal, put-any, put-union, put-tuple, put-nominal, put-var, vars-any, vars-union, vars-tuple, vars-var, vars-nominal}
use Rattle.jl_model.proofs.PutLemmas.{put-closed}
use Rattle.jl_search.specs.Open.{AreOpen}
use Rattle.jl_search.proofs.HasLemmas.{Has, has_left, has_right, has_split, of_has, has_of, has_none}
use Rattle.jl_search.proofs.GoodLemmas.{Good, absent, each_of}
use Rattle.jl_search.proofs.EqualLemmas.{nominals, args_agree}
use Rattle.jl_search.proofs.OpenFound.{args_good}
use Rattle.jl_search.proofs.MeetLemmas.{LeftForms, Laws, too_all}
use Rattle.jl_search.proofs.FoundLemmas.{RightRow, inners_good, diagonals_good, atoms_good}
use Rattle.jl_search.proofs.SeekLemmas.{args_in, inners_in, outers_in}
use Rattle.jl_search.proofs.FillLemmas.{fill_at, long_hits}

-- the arguments of the ancestor m in which a type below m{us} is found
abbrev pub Leads : Table → Fixed → (Ty → Type 0) → Ty → ℕ → List Ty → Type 0
Leads n g q t m us = (zs : List Ty) × (ancestor n m (first_form (rising g t)) ≡ zs) × Equals n zs us × AllNormal n zs × Each q zs

-- a type without alternatives
abbrev pub IsEmpty : Table → Fixed → Ty → ℕ → Type 0
IsEmpty n g t m = (rising g t ≡ []) × ((z : Ty) → Below n g t z)

-- what is below a nominal type: a left part, and a type found
pub record BoundForms (n : Table) (g : Fixed) (p q : Ty → Type 0) : Type 0 where
  pub part : (t : Ty) → p t → (m : ℕ) (us : List Ty) → Below n g t (V.Nominal m us) → Leads n g q t m us
  pub value : (t : Ty) → q t → (m : ℕ) (us : List Ty) → Below n g t (V.Nominal m us) → Leads n g q t m us ⊎ IsEmpty n g t m

-- an upper bound with variables
pub record IsNamed (s : Written) (r : Row) (v : ℕ) : Type 0 where
  pub number : ℕ
  pub args : List Ty
  pub is_high : high s v ≡ V.Nominal number args
  pub is_top : top s r v ≡ high s v
  pub is_low : low s v ≡ V.Union []
  pub opened : AreOpen args
  pub before : (w : ℕ) → Has (flat_map vars_in args) w → w < v
  pub kinds : (w : ℕ) → Has (flat_map vars_in args) w → kind s w ≡ bound
  -- it has one alternative, so its variable has one atom
  pub atom_root : root s (atom s v 0) ≡ v
  pub atom_kind : kind s (atom s v 0) ≡ diagonal → ⊥
  pub one_atom : (w : ℕ) → Has (flat_map outer r.parts) w → root s w ≡ v → kind s v ≡ bound → w ≡ atom s v 0

-- bounds without variables
pub record IsBare (s : Written) (r : Row) (v : ℕ) : Type 0 where
  pub high_none : vars_in (high s v) ≡ []
  pub top_none : vars_in (top s r v) ≡ []
  pub low_none : vars_in (low s v) ≡ []

-- a variable that is none of the row
pub record IsOut (s : Written) (r : Row) (v : ℕ) : Type 0 where
  pub absent : Occurs s v r.parts → ⊥
  pub top_none : vars_in (top s r v) ≡ []
  pub low_none : vars_in (low s v) ≡ []
  pub atom_root : root s (atom s v 0) ≡ v

diag_is : (k : Kind) → k ≡ diagonal → is_diagonal k ≡ true
diag_is k e = ap is_diagonal e

bound_is : (k : Kind) → k ≡ bound → is_diagonal k ≡ false
bound_is k e = ap is_diagonal e

-- diagonal, or not
which : (k : Kind) → (k ≡ diagonal) ⊎ (is_diagonal k ≡ false)
which unused = inr refl
which once = inr refl
which diagonal = inl refl
which bound = inr refl

some_none : {A : Type 0} (y : A) → Some y ≡ None → ⊥
some_none y e = cc

or_none : (a b : Option Ty) → or_else a b ≡ None → (a ≡ None) × (b ≡ None)
or_none None b e = (refl, e)
or_none (Some y) b e = absurd (some_none y e)

good_some : (P : Ty → Type 0) (v : ℕ) (o : Option Ty) (ns : List ℕ) (y : Ty) → Good P v o ns → o ≡ Some y → P y
good_some P v o ns y g e = let Q : Option Ty → Type 0 = λ z. Good P v z ns in subst Q e g

good_none : (P : Ty → Type 0) (v : ℕ) (o : Option Ty) (ns : List ℕ) → Good P v o ns → o ≡ None → Has ns v → ⊥
good_none P v o ns g e i = let Q : Option Ty → Type 0 = λ z. Good P v z ns in absent v ns (subst Q e g) i

none_first : (v : ℕ) (us : List Ty) → first (map (find_arg v) us) [] ≡ None
none_first v [] = refl
none_first v (u ∷ us) = refl

module _ (ds : List Decl) (declared : Declared ds) (g : Fixed) (p q : Ty → Type 0) (s : Written) (r : Row) (ts : List Ty) (f : ℕ → Ty) (laws : Laws (table_of ds) g p)
    (left : LeftForms (table_of ds) g p q) (below : BoundForms (table_of ds) g p q) (right : RightRow s r) (lefts : Each p ts)
    (bounds_of : (v : ℕ) → v < width s → (IsNamed s r v ⊎ IsBare s r v) ⊎ IsOut s r v) (range : (v : ℕ) → Occurs s v r.parts → v < width s)
    (serves : Serves (table_of ds) g s r f) (meet : Meet (table_of ds) g s f ts r.parts) where
  abbrev n : Table
  n = table_of ds

  abbrev B : Ty → Ty → Type 0
  B = Below n g

  abbrev hs : List (Option Ty)
  hs = hits n g s r ts 0 s.vars

  abbrev H : ℕ → Option Ty
  H v = get_or hs v None

  abbrev inner_hit : ℕ → Option Ty
  inner_hit v = first (map (find_inner n g v) r.parts) ts

  abbrev outer_hit : ℕ → Option Ty
  outer_hit v = first (map (find_outer g v) r.parts) ts

  abbrev Same : ℕ → Ty → Type 0
  Same v y = Equal n y (f v) × q y

  abbrev Result : ℕ → Ty → Type 0
  Result v y = Occurs s v r.parts × Equal n y (f v) × q y × (kind s v ≡ diagonal → is_concrete n g y ≡ true)

  abbrev Sound : ℕ → Type 0
  Sound v = (y : Ty) → H v ≡ Some y → Result v y

  -- the bounds from v on, and what is found from v on
  abbrev AllHigh : ℕ → List Bound → Type 0
  AllHigh v [] = Unit {0}
  AllHigh v (b ∷ bs) = (v < width s) × (b.high ≡ high s v) × AllHigh (v + 1) bs

  abbrev Agrees : ℕ → List (Option Ty) → Type 0
  Agrees v [] = Unit {0}
  Agrees v (o ∷ os) = (o ≡ H v) × Agrees (v + 1) os

  apart : (v : ℕ) → kind s v ≡ diagonal → kind s v ≡ bound → ⊥
  apart v d b = let c : diagonal ≡ bound = sym d ∙ b in cc

  inner_found : (v : ℕ) → Good (Same v) v (inner_hit v) (flat_map inner r.parts)
  inner_found v = inners_good ds declared g s f v p q left ts r.parts right.forms lefts meet

  outer_found : (v : ℕ) → kind s v ≡ diagonal → Good (λ y. Equal n y (f v) × (is_concrete n g y ≡ true) × q y) v (outer_hit v) (flat_map outer r.parts)
  outer_found v d =
      diagonals_good ds declared g s f v p q left d ts r.parts right.forms lefts
      (each_of (λ w. v ≡ w → (is_concrete n g (f w) ≡ true) × (root s w ≡ w)) (flat_map outer r.parts)
      (λ w i e.
      let b : kind s w ≡ diagonal = ap (kind s) (sym e) ∙ d in
      let k : root s w ≡ w = right.diagonal_root w i b in
      let o : Occurs s w r.parts = standing w r.parts (subst (λ z. Stands s z r.parts) k (right.occur w i)) in
      (serves.sure w o b, k)))
      meet

  atom_found : (w : ℕ) → IsNamed s r w → Good (λ y. B y (f w) × p y) (atom s w 0) (at_atom n g s r ts w) (flat_map outer r.parts)
  atom_found w i =
      atoms_good ds declared g s f (atom s w 0) p q left w ts r.parts right.forms lefts
      (each_of (λ z. atom s w 0 ≡ z → (kind s z ≡ diagonal → ⊥) × (root s z ≡ w)) (flat_map outer r.parts)
      (λ z h e. ((λ d. i.atom_kind (ap (kind s) e ∙ d)), ap (root s) (sym e) ∙ i.atom_root)))
      meet

  -- a bound with variables, with types put in
  put_high : (w : ℕ) (i : IsNamed s r w) (h : ℕ → Ty) → put h (high s w) ≡ V.Nominal i.number (map (put h) i.args)
  put_high w i h = ap (put h) i.is_high ∙ put-nominal h i.number i.args

  high_vars : (w : ℕ) (i : IsNamed s r w) → vars_in (high s w) ≡ flat_map vars_in i.args
  high_vars w i = ap vars_in i.is_high ∙ vars-nominal i.number i.args

  search_at : (v w : ℕ) (i : IsNamed s r w) (t : Ty) → find_bound n g v (high s w) t ≡ first (map (find_arg v) i.args) (ancestor n i.number (first_form (rising g t)))
  search_at v w i t = ap (λ z. find_bound_form n g v z t) (ap out-Ty i.is_high ∙ outs-Nominal i.number i.args)

  -- nothing is found in a bound without variables
  bare_form : (v : ℕ) (u t : Ty) (x : Ty-F Ty) → out-Ty u ≡ x → vars_in u ≡ [] → (y : Ty) → find_bound_form n g v x t ≡ Some y → ⊥
  bare_form v u t Any i e y h = let z : None ≡ Some y = h in some_none y (sym z)
  bare_form v u t (Union us) i e y h = let z : None ≡ Some y = h in some_none y (sym z)
  bare_form v u t (Tuple us) i e y h = let z : None ≡ Some y = h in some_none y (sym z)
  bare_form v u t (Var w) i e y h = let z : None ≡ Some y = h in some_none y (sym z)
  bare_form v u t (Nominal m us) i e y h =
      has_none (flat_map vars_in us) v (sym (ap vars_in (is_nominal u m us i) ∙ vars-nominal m us) ∙ e) (args_in v us (ancestor n m (first_form (rising g t))) y h)

  bare_bound : (v : ℕ) (u : Ty) → vars_in u ≡ [] → (o : Option Ty) (y : Ty) → then_find (find_bound n g v u) o ≡ Some y → ⊥
  bare_bound v u e None y h = let z : None ≡ Some y = h in some_none y (sym z)
  bare_bound v u e (Some t) y h = bare_form v u t (out-Ty u) refl e y h

  -- what is found in the bound of w equals what was put
  leads_good : (v w : ℕ) (i : IsNamed s r w) (t : Ty) → Leads n g q t i.number (map (put f) i.args) → Good (Same v) v (find_bound n g v (high s w) t) (flat_map vars_in i.args)
  leads_good v w i t c =
      let e : find_bound n g v (high s w) t ≡ first (map (find_arg v) i.args) c.0 = search_at v w i t ∙ ap (first (map (find_arg v) i.args)) c.1 in
      let Q : Option Ty → Type 0 = λ z. Good (Same v) v z (flat_map vars_in i.args) in
      subst Q (sym e) (args_good ds declared f v q left.inside i.args i.opened c.0 c.3 c.4 c.2)

  -- a witness of w is below the bound
  record Stated (w : ℕ) (t : Ty) : Type 0 where
    occurs : Occurs s w r.parts
    lower : B t (put f (high s w))
    form : q t ⊎ p t

  state : (w : ℕ) → w < width s → Sound w → IsNamed s r w → (t : Ty) → witness n g s r ts w (H w) ≡ Some t → Stated w t
  state w l c i t e = pick (H w) refl e
    where
      pick : (o : Option Ty) → H w ≡ o → or_else o (at_atom n g s r ts w) ≡ Some t → Stated w t
      pick (Some y) h k =
          let j : y ≡ t = cc in
          let d : Result w t = subst (Result w) j (c y h) in
          record { occurs = d.0; lower = laws.before t (f w) (put f (high s w)) d.1.0 (subst (λ z. B (f w) (put f z)) i.is_top (serves.most w d.0)); form = inl d.2 }
      pick None h k =
          let a = good_some (λ y. B y (f w) × p y) (atom s w 0) (at_atom n g s r ts w) (flat_map outer r.parts) t (atom_found w i) k in
          let j : Has (flat_map outer r.parts) (atom s w 0) = outers_in (atom s w 0) g r.parts ts t k in
          let o : Occurs s w r.parts = standing w r.parts (subst (λ z. Stands s z r.parts) i.atom_root (right.occur (atom s w 0) j)) in
          record { occurs = o; lower = laws.trans t (f w) (put f (high s w)) a.1 a.0 (subst (λ z. B (f w) (put f z)) i.is_top (serves.most w o)); form = inr a.1 }

  leads : (w : ℕ) (i : IsNamed s r w) (t : Ty) → Stated w t → Leads n g q t i.number (map (put f) i.args) ⊎ IsEmpty n g t i.number
  leads w i t st =
      let b : B t (V.Nominal i.number (map (put f) i.args)) = subst (λ z. B t z) (put_high w i f) st.lower in
      elim st.form [ inl a ↦ below.value t a i.number (map (put f) i.args) b | inr a ↦ inl (below.part t a i.number (map (put f) i.args) b) ]

  bound_sound : (v w : ℕ) → w < width s → Sound w → (y : Ty) → then_find (find_bound n g v (high s w)) (witness n g s r ts w (H w)) ≡ Some y → Result v y
  bound_sound v w l c y e = elim (bounds_of w l) [
    | inr j ↦ absurd (out_bound j (witness n g s r ts w (H w)) refl e)
    | inl b ↦ elim b [
      | inr j ↦ absurd (bare_bound v (high s w) j.high_none (witness n g s r ts w (H w)) y e)
      | inl i ↦ pick i (witness n g s r ts w (H w)) refl e
    ]
  ]
    where
      no_witness : IsOut s r w → (t : Ty) → (o : Option Ty) → H w ≡ o → or_else o (at_atom n g s r ts w) ≡ Some t → ⊥
      no_witness j t (Some z) h k = j.absent (c z h).0
      no_witness j t None h k =
          j.absent (standing w r.parts (subst (λ z. Stands s z r.parts) j.atom_root (right.occur (atom s w 0) (outers_in (atom s w 0) g r.parts ts t k))))

      out_bound : IsOut s r w → (o : Option Ty) → witness n g s r ts w (H w) ≡ o → then_find (find_bound n g v (high s w)) o ≡ Some y → ⊥
      out_bound j None h k = let z : None ≡ Some y = k in some_none y (sym z)
      out_bound j (Some t) h k = no_witness j t (H w) refl h

      pick : IsNamed s r w → (o : Option Ty) → witness n g s r ts w (H w) ≡ o → then_find (find_bound n g v (high s w)) o ≡ Some y → Result v y
      pick i None h k = let z : None ≡ Some y = k in absurd (some_none y (sym z))
      pick i (Some t) h k =
          let st = state w l c i t h in
          elim (leads w i t st) [
            | inl d ↦
                let m = good_some (Same v) v (find_bound n g v (high s w) t) (flat_map vars_in i.args) y (leads_good v w i t d) k in
                let j : Has (flat_map vars_in i.args) v = args_in v i.args (ancestor n i.number (first_form (rising g t))) y (sym (search_at v w i t) ∙ k) in
                (bounding v w r.parts st.occurs (of_has (vars_in (high s w)) v (subst (λ z. Has z v) (sym (high_vars w i)) j)), m.0, m.1, λ d. absurd (apart v d (i.kinds v j)))
            | inr d ↦
                let none : find_bound n g v (high s w) t ≡ None = search_at v w i t ∙ ap (λ z. first (map (find_arg v) i.args) (ancestor n i.number (first_form z))) d.0 ∙ none_first v i.args in
                absurd (some_none y (sym k ∙ none))
          ]

  or_some : (a b : Option Ty) (y : Ty) (P : Type 0) → (a ≡ Some y → P) → (b ≡ Some y → P) → or_else a b ≡ Some y → P
  or_some None b y P h k e = k e
  or_some (Some x) b y P h k e = h e

  ins_sound : (v w : ℕ) (bs : List Bound) (os : List (Option Ty)) → AllHigh w bs → Agrees w os → ((x : ℕ) → w ≤ x → x < w + length bs → Sound x)
      → (y : Ty) → in_bounds n g s r ts v w bs os ≡ Some y → Result v y
  ins_sound v w [] os a c d y e = let z : None ≡ Some y = e in absurd (some_none y (sym z))
  ins_sound v w (b ∷ bs) [] a c d y e = let z : None ≡ Some y = e in absurd (some_none y (sym z))
  ins_sound v w (b ∷ bs) (o ∷ os) a c d y e =
      or_some (then_find (find_bound n g v b.high) (witness n g s r ts w o)) (in_bounds n g s r ts v (w + 1) bs os) y (Result v y)
      (λ k. bound_sound v w a.0 (d w (omega arith) (omega arith)) y (subst (λ z. then_find (find_bound n g v z) (witness n g s r ts w (H w)) ≡ Some y) a.1 (subst (λ z. then_find (find_bound n g v b.high) (witness n g s r ts w z) ≡ Some y) c.0 k)))
      (λ k. ins_sound v (w + 1) bs os a.2 c.1 (λ x i j. d x (omega (arith, i)) (omega (arith, j))) y k)
      e

  hit_sound : (v : ℕ) (bs : List Bound) (os : List (Option Ty)) → AllHigh (v + 1) bs → Agrees (v + 1) os → ((x : ℕ) → v + 1 ≤ x → x < v + 1 + length bs → Sound x)
      → (y : Ty) → hit n g s r ts v bs os ≡ Some y → Result v y
  hit_sound v bs os a c d y e = elim (which (kind s v)) [
    | inl k ↦
        let e2 : outer_hit v ≡ Some y = sym (ap (λ z. cond z (outer_hit v) (or_else (inner_hit v) (in_bounds n g s r ts v (v + 1) bs os))) (diag_is (kind s v) k)) ∙ e in
        let m = good_some (λ y. Equal n y (f v) × (is_concrete n g y ≡ true) × q y) v (outer_hit v) (flat_map outer r.parts) y (outer_found v k) e2 in
        let j : Has (flat_map outer r.parts) v = outers_in v g r.parts ts y e2 in
        (standing v r.parts (subst (λ z. Stands s z r.parts) (right.diagonal_root v j k) (right.occur v j)), m.0, m.2, λ d. m.1)
    | inr k ↦
        let e2 : or_else (inner_hit v) (in_bounds n g s r ts v (v + 1) bs os) ≡ Some y = sym (ap (λ z. cond z (outer_hit v) (or_else (inner_hit v) (in_bounds n g s r ts v (v + 1) bs os))) k) ∙ e in
        or_some (inner_hit v) (in_bounds n g s r ts v (v + 1) bs os) y (Result v y)
        (λ h. (let m = good_some (Same v) v (inner_hit v) (flat_map inner r.parts) y (inner_found v) h in let j = inners_in v n g r.parts ts y h in (standing v r.parts (right.occur_inner v j), m.0, m.1, λ d. absurd (apart v d (right.inner_kind v j).0))))
        (λ h. ins_sound v (v + 1) bs os a c d y h)
        e2
  ]

  equal_or_more : (v x : ℕ) → v ≤ x → (v ≡ x) ⊎ (v + 1 ≤ x)
  equal_or_more zero zero l = inl refl
  equal_or_more zero (suc x) l = inr (omega arith)
  equal_or_more (suc v) zero l = absurd (omega (arith, l))
  equal_or_more (suc v) (suc x) l = elim (equal_or_more v x (omega (arith, l))) [ inl e ↦ inl (ap suc e) | inr k ↦ inr (omega (arith, k)) ]

  all_sound : (v : ℕ) (bs : List Bound) → AllHigh v bs → Agrees v (hits n g s r ts v bs) → (x : ℕ) → v ≤ x → x < v + length bs → Sound x
  all_sound v [] a c x i j = absurd (omega (arith, i, j))
  all_sound v (b ∷ bs) a c x i j = here (all_sound (v + 1) bs a.2 c.1) (equal_or_more v x i)
    where
      here : ((x : ℕ) → v + 1 ≤ x → x < v + 1 + length bs → Sound x) → (v ≡ x) ⊎ (v + 1 ≤ x) → Sound x
      here later (inl e) = subst Sound e (λ y h. hit_sound v bs (hits n g s r ts (v + 1) bs) a.2 c.1 later y (c.0 ∙ h))
      here later (inr k) = later x k (omega (arith, j))

  -- where nothing is found for v, nothing was found for it in a later bound
  ins_none : (v w : ℕ) (bs : List Bound) (os : List (Option Ty)) → AllHigh w bs → Agrees w os → length os ≡ length bs → in_bounds n g s r ts v w bs os ≡ None
      → (x : ℕ) → w ≤ x → x < w + length bs → then_find (find_bound n g v (high s x)) (witness n g s r ts x (H x)) ≡ None
  ins_none v w [] os a c l e x i j = absurd (omega (arith, i, j))
  ins_none v w (b ∷ bs) [] a c l e x i j = let k : length {A = Option Ty} [] ≡ suc (length bs) = l in cc
  ins_none v w (b ∷ bs) (o ∷ os) a c l e x i j =
      let k = or_none (then_find (find_bound n g v b.high) (witness n g s r ts w o)) (in_bounds n g s r ts v (w + 1) bs os) e in
      here k.0 (λ x i j. ins_none v (w + 1) bs os a.2 c.1 (omega (arith, l)) k.1 x i j) (equal_or_more w x i)
    where
      here : then_find (find_bound n g v b.high) (witness n g s r ts w o) ≡ None
          → ((x : ℕ) → w + 1 ≤ x → x < w + 1 + length bs → then_find (find_bound n g v (high s x)) (witness n g s r ts x (H x)) ≡ None)
          → (w ≡ x) ⊎ (w + 1 ≤ x) → then_find (find_bound n g v (high s x)) (witness n g s r ts x (H x)) ≡ None
      here h later (inl q) =
          subst (λ z. then_find (find_bound n g v (high s z)) (witness n g s r ts z (H z)) ≡ None) q
          (subst (λ z. then_find (find_bound n g v z) (witness n g s r ts w (H w)) ≡ None) a.1 (subst (λ z. then_find (find_bound n g v b.high) (witness n g s r ts w z) ≡ None) c.0 h))
      here h later (inr q) = later x q (omega (arith, j))

  record Missed (x m : ℕ) : Type 0 where
    covariant : kind s x ≡ diagonal → outer_hit x ≡ None
    invariant : is_diagonal (kind s x) ≡ false → inner_hit x ≡ None
    later : is_diagonal (kind s x) ≡ false → (w : ℕ) → x < w → w < m → then_find (find_bound n g x (high s w)) (witness n g s r ts w (H w)) ≡ None

  hit_none : (v m : ℕ) (bs : List Bound) (os : List (Option Ty)) → m ≡ v + 1 + length bs → AllHigh (v + 1) bs → Agrees (v + 1) os → length os ≡ length bs → hit n g s r ts v bs os ≡ None → Missed v m
  hit_none v m bs os k a c l e = record {
    covariant = λ d. sym (ap (λ z. cond z (outer_hit v) (or_else (inner_hit v) (in_bounds n g s r ts v (v + 1) bs os))) (diag_is (kind s v) d)) ∙ e;
    invariant = λ d. (or_none (inner_hit v) (in_bounds n g s r ts v (v + 1) bs os) (inner_none d)).0;
    later = λ d w i j. ins_none v (v + 1) bs os a c l (or_none (inner_hit v) (in_bounds n g s r ts v (v + 1) bs os) (inner_none d)).1 w (omega (arith, i)) (omega (arith, j, k));
  }
    where
      inner_none : is_diagonal (kind s v) ≡ false → or_else (inner_hit v) (in_bounds n g s r ts v (v + 1) bs os) ≡ None
      inner_none d = sym (ap (λ z. cond z (outer_hit v) (or_else (inner_hit v) (in_bounds n g s r ts v (v + 1) bs os))) d) ∙ e

  all_none : (v m : ℕ) (bs : List Bound) → m ≡ v + length bs → AllHigh v bs → Agrees v (hits n g s r ts v bs) → (x : ℕ) → v ≤ x → x < m → H x ≡ None → Missed x m
  all_none v m [] k a c x i j h = absurd (omega (arith, i, j, k))
  all_none v m (b ∷ bs) k a c x i j h = here (λ x i j h. all_none (v + 1) m bs (omega (arith, k)) a.2 c.1 x i j h) (equal_or_more v x i)
    where
      here : ((x : ℕ) → v + 1 ≤ x → x < m → H x ≡ None → Missed x m) → (v ≡ x) ⊎ (v + 1 ≤ x) → Missed x m
      here later (inl e) =
          subst (λ z. Missed z m) e
          (hit_none v m bs (hits n g s r ts (v + 1) bs) (omega (arith, k)) a.2 c.1 (long_hits n g s r ts (v + 1) bs) (c.0 ∙ ap H e ∙ h))
      here later (inr e) = later x e j h

  -- FOR ALL VARIABLES.
  high_from : (v : ℕ) (bs : List Bound) → ((i : ℕ) → i < length bs → (v + i < width s) × ((get_or bs i free).high ≡ high s (v + i))) → AllHigh v bs
  high_from v [] k = tt
  high_from v (b ∷ bs) k =
      let z = k 0 (omega arith) in
      let e : v + 0 ≡ v = omega arith in
      (omega (arith, z.0), subst (λ i. b.high ≡ high s i) e z.1, high_from (v + 1) bs (λ i l. (let q = k (suc i) (omega (arith, l)) in let d : v + suc i ≡ v + 1 + i = omega arith in (omega (arith, q.0), subst (λ j. (get_or bs i free).high ≡ high s j) d q.1))))

  agree_from : (v : ℕ) (os : List (Option Ty)) → ((i : ℕ) → i < length os → get_or os i None ≡ H (v + i)) → Agrees v os
  agree_from v [] k = tt
  agree_from v (o ∷ os) k =
      let e : v + 0 ≡ v = omega arith in
      (subst (λ i. o ≡ H i) e (k 0 (omega arith)), agree_from (v + 1) os (λ i l. (let d : v + suc i ≡ v + 1 + i = omega arith in subst (λ j. get_or os i None ≡ H j) d (k (suc i) (omega (arith, l))))))

  highs : AllHigh 0 s.vars
  highs = high_from 0 s.vars (λ i l. (let e : i ≡ 0 + i = omega arith in (omega (arith, l), ap (high s) e)))

  agree : Agrees 0 hs
  agree = agree_from 0 hs (λ i l. (let e : i ≡ 0 + i = omega arith in ap H e))

  sound : (v : ℕ) → v < width s → Sound v
  sound v l = all_sound 0 s.vars highs agree v (omega arith) (omega (arith, l))

  missed : (v : ℕ) → v < width s → H v ≡ None → Missed v (width s)
  missed v l e = all_none 0 (width s) s.vars (omega arith) highs agree v (omega arith) l e

  abbrev h : ℕ → Ty
  h = found n g s r ts

  -- an upper bound mentions only variables before its own
  tops_before : (v : ℕ) → v < width s → (w : ℕ) → Has (vars_in (top s r v)) w → w < v
  tops_before v l w k = elim (bounds_of v l) [
    | inl b ↦ elim b [
      | inl i ↦ i.before w (subst (λ z. Has z w) (ap vars_in i.is_top ∙ high_vars v i) k)
      | inr i ↦ absurd (has_none (vars_in (top s r v)) w i.top_none k)
    ]
    | inr i ↦ absurd (has_none (vars_in (top s r v)) w i.top_none k)
  ]

  value : (v : ℕ) → v < width s → h v ≡ or_type (H v) (put h (top s r v))
  value v l =
      let e : 0 + v ≡ v = omega arith in
      subst (λ i. h i ≡ or_type (H v) (put h (top s r i))) e
      (fill_at n g s r ts [] hs v (omega (arith, l, long_hits n g s r ts 0 s.vars))
      (λ w k. (let a = tops_before v l w (subst (λ i. Has (vars_in (top s r i)) w) e k) in omega (arith, a))))

  value_some : (v : ℕ) → v < width s → (y : Ty) → H v ≡ Some y → h v ≡ y
  value_some v l y e = value v l ∙ ap (λ z. or_type z (put h (top s r v))) e

  value_none : (v : ℕ) → v < width s → H v ≡ None → h v ≡ put h (top s r v)
  value_none v l e = value v l ∙ ap (λ z. or_type z (put h (top s r v))) e

  found_or : (v : ℕ) → ((y : Ty) × (H v ≡ Some y)) ⊎ (H v ≡ None)
  found_or v = pick (H v) refl
    where
      pick : (o : Option Ty) → H v ≡ o → ((y : Ty) × (H v ≡ Some y)) ⊎ (H v ≡ None)
      pick None e = inr e
      pick (Some y) e = inl (y, e)

  -- where something is found, it equals what was put
  hit_equal : (v : ℕ) → v < width s → (y : Ty) → H v ≡ Some y → Equal n (h v) (f v) × q (h v)
  hit_equal v l y e = let d = sound v l y e in let Q : Ty → Type 0 = λ z. Equal n z (f v) × q z in subst Q (sym (value_some v l y e)) (d.1, d.2)

  -- a variable in a bound that is met is found
  met : (w : ℕ) → w < width s → (i : IsNamed s r w) (t : Ty) → witness n g s r ts w (H w) ≡ Some t → Leads n g q t i.number (map (put f) i.args)
      → (x : ℕ) → Has (flat_map vars_in i.args) x → Equal n (f x) (h x)
  met w l i t e c x k =
      let small : x < w = i.before x k in
      let xl : x < width s = omega (arith, small, l) in
      elim (found_or x) [
        | inl y ↦ let a = (hit_equal x xl y.0 y.1).0 in (a.1, a.0)
        | inr o ↦
            let d : is_diagonal (kind s x) ≡ false = bound_is (kind s x) (i.kinds x k) in
            let a : then_find (find_bound n g x (high s w)) (witness n g s r ts w (H w)) ≡ None = (missed x xl o).later d w small l in
            let b : find_bound n g x (high s w) t ≡ None = ap (then_find (find_bound n g x (high s w))) (sym e) ∙ a in
            absurd (good_none (Same x) x (find_bound n g x (high s w) t) (flat_map vars_in i.args) (leads_good x w i t c) b k)
      ]

  -- and then the bound is the same
  top_same : (w : ℕ) → w < width s → (i : IsNamed s r w) → ((x : ℕ) → Has (flat_map vars_in i.args) x → Equal n (f x) (h x)) → Equal n (put f (top s r w)) (put h (top s r w))
  top_same w l i k =
      let a = args_agree n f h i.args i.opened (each_of (λ x. Equal n (f x) (h x)) (flat_map vars_in i.args) k) in
      let b = nominals n i.number (map (put f) i.args) (map (put h) i.args) a in
      let cf : put f (top s r w) ≡ V.Nominal i.number (map (put f) i.args) = ap (put f) i.is_top ∙ put_high w i f in
      let ch : put h (top s r w) ≡ V.Nominal i.number (map (put h) i.args) = ap (put h) i.is_top ∙ put_high w i h in
      rw (cf, ch) b

  -- low bounds
  low_of : (v : ℕ) → (o : Occurs s v r.parts) → B (put f (low s v)) (f v)
  low_of v o = serves.least v o

  low_none : (v : ℕ) → v < width s → vars_in (low s v) ≡ []
  low_none v l = elim (bounds_of v l) [ inl b ↦ elim b [ inl i ↦ ap vars_in i.is_low ∙ vars-union [] | inr i ↦ i.low_none ] | inr i ↦ i.low_none ]

  -- of a variable of the row
  bounds : (v : ℕ) → Occurs s v r.parts → IsNamed s r v ⊎ IsBare s r v
  bounds v o = elim (bounds_of v (range v o)) [ inl b ↦ b | inr i ↦ absurd (i.absent o) ]

  low_below : (v : ℕ) → Occurs s v r.parts → B (f v) (h v) → B (put h (low s v)) (h v)
  low_below v o b =
      let e = low_none v (range v o) in
      subst (λ z. B z (h v)) (sym (put-closed h (low s v) e))
      (laws.trans_closed (low s v) (f v) (h v) e (subst (λ z. B z (f v)) (put-closed f (low s v) e) (serves.least v o)) b)

  -- what is between: above what was put, and below the upper bound with the values put in
  record Between (v : ℕ) : Type 0 where
    most : B (h v) (put h (top s r v))
    least : B (put h (low s v)) (h v)

  self : (t : Ty) → B t t
  self t = laws.lift t t (laws.self t)

  -- something is found
  found_between : (v : ℕ) → Occurs s v r.parts → (y : Ty) → H v ≡ Some y → Between v
  found_between v o y e = record { most = under_top (bounds v o); least = low_below v o (laws.lift (f v) (h v) a.0.1) }
    where
      l : v < width s
      l = range v o

      a : Equal n (h v) (f v) × q (h v)
      a = hit_equal v l y e

      under_top : IsNamed s r v ⊎ IsBare s r v → B (h v) (put h (top s r v))
      under_top (inr i) =
          subst (λ z. B (h v) z) (sym (put-closed h (top s r v) i.top_none))
          (laws.before (h v) (f v) (top s r v) a.0.0 (subst (λ z. B (f v) z) (put-closed f (top s r v) i.top_none) (serves.most v o)))
      under_top (inl i) =
          let w : witness n g s r ts v (H v) ≡ Some (h v) = ap (witness n g s r ts v) e ∙ ap (λ z. Some z) (sym (value_some v l y e)) in
          let b : B (h v) (V.Nominal i.number (map (put f) i.args)) = subst (λ z. B (h v) z) (ap (put f) i.is_top ∙ put_high v i f) (laws.before (h v) (f v) (put f (top s r v)) a.0.0 (serves.most v o)) in
          elim (below.value (h v) a.1 i.number (map (put f) i.args) b) [
            | inr d ↦ d.1 (put h (top s r v))
            | inl d ↦
                let m = top_same v l i (met v l i (h v) w d) in
                laws.before (h v) (f v) (put h (top s r v)) a.0.0 (laws.after (f v) (put f (top s r v)) (put h (top s r v)) (serves.most v o) m.0)
          ]

  -- nothing is found
  put_low : (v : ℕ) → v < width s → (h : ℕ → Ty) → put h (low s v) ≡ low s v
  put_low v l h = put-closed h (low s v) (low_none v l)

  none_between : (v : ℕ) → Occurs s v r.parts → H v ≡ None → Between v
  none_between v o e = record { most = subst (λ z. B (h v) z) (value_none v l e) (self (h v)); least = low_under (bounds v o) }
    where
      l : v < width s
      l = range v o

      low_under : IsNamed s r v ⊎ IsBare s r v → B (put h (low s v)) (h v)
      low_under (inl i) = subst (λ z. B z (h v)) (sym (put_low v l h ∙ i.is_low)) (laws.lift (V.Union []) (h v) (laws.none (h v)))
      low_under (inr i) = low_below v o (subst (λ z. B (f v) z) (put-closed f (top s r v) i.top_none ∙ sym (put-closed h (top s r v) i.top_none) ∙ sym (value_none v l e)) (serves.most v o))

  between : (v : ℕ) → Occurs s v r.parts → Between v
  between v o = elim (found_or v) [ inl y ↦ found_between v o y.0 y.1 | inr e ↦ none_between v o e ]

  -- a diagonal variable stands at a covariant place
  diag_outer : (v : ℕ) (row : List Ty) → row ≡ r.parts → kind s v ≡ diagonal → Occurs s v row → Has (flat_map outer r.parts) v
  diag_outer v row e d (standing x y c) = elim (right.places v (subst (λ z. Stands s v z) e c)) [
    | inl i ↦ absurd (apart v d (right.inner_kind v i).0)
    | inr z ↦
        let k : kind s (root s z.0) ≡ diagonal = ap (kind s) z.2 ∙ d in
        let i : z.0 ≡ v = sym (right.outer_kind z.0 z.1 k) ∙ z.2 in
        subst (λ j. Has (flat_map outer r.parts) j) i z.1
  ]
  diag_outer v row e d (bounding x w y o c) =
      let j : Has (vars_in (high s w)) v = has_of (vars_in (high s w)) v c in
      elim (bounds w (subst (λ z. Occurs s w z) e o)) [
        | inl i ↦ absurd (apart v d (i.kinds v (subst (λ z. Has z v) (high_vars w i) j)))
        | inr i ↦ absurd (has_none (vars_in (high s w)) v i.high_none j)
      ]

  diag_found : (v : ℕ) → kind s v ≡ diagonal → Occurs s v r.parts → (y : Ty) × (H v ≡ Some y)
  diag_found v d o = elim (found_or v) [
    | inl y ↦ y
    | inr e ↦
        absurd (good_none (λ y. Equal n y (f v) × (is_concrete n g y ≡ true) × q y) v (outer_hit v) (flat_map outer r.parts) (outer_found v d) ((missed v (range v o) e).covariant d)
        (diag_outer v r.parts refl d o))
  ]

  diag_equal : (v : ℕ) → kind s v ≡ diagonal → Occurs s v r.parts → Equal n (f v) (h v)
  diag_equal v d o = let y = diag_found v d o in let a = (hit_equal v (range v o) y.0 y.1).0 in (a.1, a.0)

  sure_found : (v : ℕ) → Occurs s v r.parts → kind s v ≡ diagonal → is_concrete n g (h v) ≡ true
  sure_found v o d =
      let y = diag_found v d o in
      ap (is_concrete n g) (value_some v (range v o) y.0 y.1) ∙ (sound v (range v o) y.0 y.1).3 d

  -- at an invariant place
  inner_equal : (v : ℕ) → Has (flat_map inner r.parts) v → Equal n (f v) (h v)
  inner_equal v i =
      let o : Occurs s v r.parts = standing v r.parts (right.occur_inner v i) in
      let l = range v o in
      elim (found_or v) [
        | inl y ↦ let a = (hit_equal v l y.0 y.1).0 in (a.1, a.0)
        | inr e ↦ absurd (good_none (Same v) v (inner_hit v) (flat_map inner r.parts) (inner_found v) ((missed v l e).invariant (bound_is (kind s v) (right.inner_kind v i).0)) i)
      ]

  -- at an atom
  atom_rises : (w : ℕ) → Has (flat_map outer r.parts) w → kind s (root s w) ≡ bound → B (f (root s w)) (h (root s w))
  atom_rises w k b = rise (found_or v)
    where
      v : ℕ
      v = root s w

      o : Occurs s v r.parts
      o = standing v r.parts (right.occur w k)

      l : v < width s
      l = range v o

      at_named : (i : IsNamed s r v) → H v ≡ None → (z : Option Ty) → at_atom n g s r ts v ≡ z → B (f v) (put h (top s r v))
      at_named i e None a =
          absurd (good_none (λ y. B y (f v) × p y) (atom s v 0) (at_atom n g s r ts v) (flat_map outer r.parts) (atom_found v i) a
          (subst (λ j. Has (flat_map outer r.parts) j) (i.one_atom w k refl b) k))
      at_named i e (Some t) a =
          let m = good_some (λ y. B y (f v) × p y) (atom s v 0) (at_atom n g s r ts v) (flat_map outer r.parts) t (atom_found v i) a in
          let c : B t (V.Nominal i.number (map (put f) i.args)) = subst (λ z. B t z) (ap (put f) i.is_top ∙ put_high v i f) (laws.trans t (f v) (put f (top s r v)) m.1 m.0 (serves.most v o)) in
          let d = below.part t m.1 i.number (map (put f) i.args) c in
          let j : witness n g s r ts v (H v) ≡ Some t = ap (witness n g s r ts v) e ∙ a in
          laws.after (f v) (put f (top s r v)) (put h (top s r v)) (serves.most v o) (top_same v l i (met v l i t j d)).0

      at_bound : H v ≡ None → IsNamed s r v ⊎ IsBare s r v → B (f v) (put h (top s r v))
      at_bound e (inl i) = at_named i e (at_atom n g s r ts v) refl
      at_bound e (inr i) = subst (λ z. B (f v) z) (put-closed f (top s r v) i.top_none ∙ sym (put-closed h (top s r v) i.top_none)) (serves.most v o)

      rise : ((y : Ty) × (H v ≡ Some y)) ⊎ (H v ≡ None) → B (f v) (h v)
      rise (inl y) = laws.lift (f v) (h v) (hit_equal v l y.0 y.1).0.1
      rise (inr e) = subst (λ z. B (f v) z) (sym (value_none v l e)) (at_bound e (bounds v o))

  -- THE LAW.
  pub values : Serves n g s r h × Meet n g s h ts r.parts
  values = (
    record { least = λ v o. (between v o).least; most = λ v o. (between v o).most; sure = λ v o d. sure_found v o d },
    too_all ds declared g p q laws left s f h ts r.parts right.forms lefts (each_of (λ w. Equal n (f w) (h w)) (flat_map inner r.parts) (λ w i. inner_equal w i))
        (each_of (λ w. (kind s w ≡ diagonal → Equal n (f w) (h w)) × (kind s (root s w) ≡ bound → B (f (root s w)) (h (root s w)))) (flat_map outer r.parts)
        (λ w i. (
          (λ d. (let k : root s w ≡ w = right.diagonal_root w i d in diag_equal w d (standing w r.parts (subst (λ z. Stands s z r.parts) k (right.occur w i))))),
          (λ b. atom_rises w i b),
        )))
        meet,
  )

  -- and what is found is over the variables of the left row
  module _ (D : ℕ → Type 0) (over : (t : Ty) → q t → (w : ℕ) → Has (vars_in t) w → D w) where
    put_each : (ts : List Ty) → Each (λ t. ((v : ℕ) → Has (vars_in t) v → (w : ℕ) → Has (vars_in (h v)) w → D w) → (w : ℕ) → Has (vars_in (put h t)) w → D w) ts
        → ((v : ℕ) → Has (flat_map vars_in ts) v → (w : ℕ) → Has (vars_in (h v)) w → D w) → (w : ℕ) → Has (flat_map vars_in (map (put h) ts)) w → D w
    put_each [] e k w i = absurd i
    put_each (t ∷ ts) e k w i = elim (has_split (vars_in (put h t)) (flat_map vars_in (map (put h) ts)) w i) [
      | inl j ↦ e.0 (λ v l. k v (has_left (vars_in t) (flat_map vars_in ts) v l)) w j
      | inr j ↦ put_each ts e.1 (λ v l. k v (has_right (vars_in t) (flat_map vars_in ts) v l)) w j
    ]

    put_over : (t : Ty) → ((v : ℕ) → Has (vars_in t) v → (w : ℕ) → Has (vars_in (h v)) w → D w) → (w : ℕ) → Has (vars_in (put h t)) w → D w
    put_over = by_cases (λ t. ((v : ℕ) → Has (vars_in t) v → (w : ℕ) → Has (vars_in (h v)) w → D w) → (w : ℕ) → Has (vars_in (put h t)) w → D w) (record {
      any = λ k w i. absurd (has_none (vars_in (put h W.Any)) w (ap vars_in (put-any h) ∙ vars-any) i);
      union = λ ts e k w i. put_each ts e (λ v j. k v (subst (λ z. Has z v) (sym (vars-union ts)) j)) w (subst (λ z. Has z w) (ap vars_in (put-union h ts) ∙ vars-union (map (put h) ts)) i);
      tuple = λ ts e k w i. put_each ts e (λ v j. k v (subst (λ z. Has z v) (sym (vars-tuple ts)) j)) w (subst (λ z. Has z w) (ap vars_in (put-tuple h ts) ∙ vars-tuple (map (put h) ts)) i);
      nominal = λ m ts e k w i. put_each ts e (λ v j. k v (subst (λ z. Has z v) (sym (vars-nominal m ts)) j)) w (subst (λ z. Has z w) (ap vars_in (put-nominal h m ts) ∙ vars-nominal m (map (put h) ts)) i);
      var = λ v k w i. k v (subst (λ z. Has z v) (sym (vars-var v)) (inl refl)) w (subst (λ z. Has z w) (ap vars_in (put-var h v)) i);
    })

    over_below : (m v : ℕ) → v < m → v < width s → (w : ℕ) → Has (vars_in (h v)) w → D w
    over_below zero v i l w k = absurd (omega (arith, i))
    over_below (suc m) v i l w k = elim (found_or v) [
      | inl y ↦ over (h v) (hit_equal v l y.0 y.1).1 w k
      | inr e ↦
          put_over (top s r v) (λ x j. (let a = tops_before v l x j in over_below m x (omega (arith, a, i)) (omega (arith, a, l)))) w (subst (λ z. Has (vars_in z) w) (value_none v l e) k)
    ]

    pub values_over : (v : ℕ) → v < width s → (w : ℕ) → Has (vars_in (h v)) w → D w
    values_over v l w k = over_below (v + 1) v (omega arith) l w k
