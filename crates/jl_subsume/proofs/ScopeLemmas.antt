-- Signatures whose variables are their own: variables, atoms and bounds in their rows.
use Rattle.std.proofs.Common.{◌≡◌, ◌∙◌, sym, ap, subst, refl, ℕ, zero, suc, ◌+◌, ◌-◌, ◌*◌, ◌<◌, ◌≤◌, ◌/◌, arith, Bool, true, false, ◌&&◌, ◌||◌, not, ◌++◌, cond, nat_eq, nat_lt, eqb-true, List, [], ◌∷◌, map, length, get_or, ◌⊎◌, inl, inr}
use Rattle.std.proofs.lemmas.Nat.{mod-mul-add, div-mul-add}
use Rattle.std.specs.List.{flat_map, list_all}
use Rattle.jl_model.specs.declared.ty.Ty.{Ty}
use Rattle.jl_model.specs.declared.ty.Ty.TheOpen.{Ty-F, Any, Union, Tuple, Nominal, Var}
use Rattle.jl_model.specs.declared.ty.Ty.TheViews.{out-Ty, outs-Any, outs-Var, outs-Nominal, rolls-Any, rolls-Union, rolls-Tuple, rolls-Nominal, rolls-Var}
use Rattle.jl_model.specs.declared.ty.Ty.TheViews as V
use Rattle.jl_model.specs.declared.ty.Ty.TheVariants as W
use Rattle.jl_model.specs.declared.ty.Ty.TheFolds.{fold-roll-Ty}
use Rattle.jl_model.specs.declared.ty.Bound.{Bound}
use Rattle.jl_model.specs.declared.ty.Written.{Written}
use Rattle.jl_model.specs.Kinds.{Places, Kind, unused, once, diagonal, bound, nowhere, plus, plus_all, below_nominal, places, places_step, kind_of}
use Rattle.jl_model.specs.Rows.{forms, alts, width, free, low, high, kind, atom, root, atoms, place_of, components, vars_in, part_places, bound_places, Stands, Occurs, standing, bounding}
use Rattle.jl_model.specs.Subtype.{Table}
use Rattle.jl_model.specs.Signature.{Row, IsRow, by_kind, top, fixed}
use Rattle.jl_model.specs.Valid.{is_closed}
use Rattle.jl_model.specs.Refusals.{bound_types}
use Rattle.jl_model.specs.SigRefusals.{is_argument, is_bottom, named_form, is_bound, are_bounds}
use Rattle.jl_model.proofs.TypeInduction.{Each, by_cases}
use Rattle.jl_model.proofs.PutLemmas.{and_l, and_r}
use Rattle.jl_model.proofs.FormLemmas.{is_any, is_tuple, is_nominal, is_var, vars-any, vars-union, vars-tuple, vars-nominal, vars-var}
use Rattle.jl_subsume.specs.Scoped.{IsScoped}
use Rattle.jl_search.proofs.HasLemmas.{Has, Picks, has_left, has_right, has_split, map_has, has_flat, has_of, of_has, all_has, none_has, has_none}
use Rattle.jl_subsume.proofs.FormsLemmas.{any_form, union_form, tuple_form, nominal_form, var_form}
use Rattle.jl_search.proofs.PickLemmas.{choices_has}
use Rattle.jl_search.proofs.PartLemmas.{Plain, plain_any, plain_tuple, plain_nominal, plain_var, AllPlain, all_end, all_more, all_map, plain_map}
use Rattle.jl_subsume.proofs.MadeLemmas.{Seeds, seeds_both, made, all_parts}

less : (a b : ℕ) → nat_lt a b ≡ true → a < b
less a b h = grind (arith, h)

pub is_less : (a b : ℕ) → a < b → nat_lt a b ≡ true
is_less a b h = grind (arith, h)

no_length : (ns : List ℕ) → nat_eq (length ns) 0 ≡ true → ns ≡ []
no_length [] h = refl
no_length (n ∷ ns) h = let e : length (n ∷ ns) ≡ 0 = grind (arith, h) in absurd (omega arith)

-- the variables of an alternative are variables of the type
module _ (at : ℕ → List Ty) (E : ℕ → Type 0) (each_at : (v : ℕ) (x : Ty) (k : ℕ) → Has (at v) x → Has (vars_in x) k → (v ≡ k) ⊎ E k) where
  abbrev Within : Ty → Type 0
  Within t = (x : Ty) → Has (forms at t) x → (k : ℕ) → Has (vars_in x) k → Has (vars_in t) k ⊎ E k

  weak : (t : Ty) (ns : List ℕ) (k : ℕ) → vars_in t ≡ ns → Has ns k ⊎ E k → Has (vars_in t) k ⊎ E k
  weak t ns k e h = subst (λ z. Has z k ⊎ E k) (sym e) h

  widen : (ts : List Ty) (t : Ty) (k : ℕ) → Has ts t → Has (vars_in t) k ⊎ E k → Has (flat_map vars_in ts) k ⊎ E k
  widen ts t k h (inl i) = inl (has_flat vars_in ts t k h i)
  widen ts t k h (inr e) = inr e

  member_within : (ts : List Ty) → Each Within ts → (t : Ty) → Has ts t → Within t
  member_within [] e t h = absurd h
  member_within (u ∷ us) e t (inl i) = subst Within i e.0
  member_within (u ∷ us) e t (inr i) = member_within us e.1 t i

  picks_within : (ts : List Ty) → Each Within ts → (us : List Ty) → Picks us (map (forms at) ts) → (k : ℕ) → Has (flat_map vars_in us) k → Has (flat_map vars_in ts) k ⊎ E k
  picks_within [] e [] p k h = inl h
  picks_within [] e (u ∷ us) p k h = absurd p
  picks_within (t ∷ ts) e [] p k h = absurd p
  picks_within (t ∷ ts) e (u ∷ us) p k h = elim (has_split (vars_in u) (flat_map vars_in us) k h) [
    | inl i ↦ elim (e.0 u p.0 k i) [ inl j ↦ inl (has_left (vars_in t) (flat_map vars_in ts) k j) | inr j ↦ inr j ]
    | inr i ↦ elim (picks_within ts e.1 us p.1 k i) [ inl j ↦ inl (has_right (vars_in t) (flat_map vars_in ts) k j) | inr j ↦ inr j ]
  ]

  pub within : (t : Ty) → Within t
  within = by_cases Within (record {
    any = λ x h k i. inl (subst (λ z. Has (vars_in z) k) (sym (any_form at x h)) i);
    union = λ ts e x h k i. let r = union_form at ts x h in
        weak (V.Union ts) (flat_map vars_in ts) k (vars-union ts) (widen ts r.0 k r.1 (member_within ts e r.0 r.1 x r.2 k i));
    tuple = λ ts e x h k i. let r = tuple_form at ts x h in
        weak (V.Tuple ts) (flat_map vars_in ts) k (vars-tuple ts)
        (picks_within ts e r.0 r.1 k (subst (λ z. Has z k) (vars-tuple r.0) (subst (λ z. Has (vars_in z) k) (sym r.2) i)));
    nominal = λ m ts e x h k i. inl (subst (λ z. Has (vars_in z) k) (sym (nominal_form at m ts x h)) i);
    var = λ v x h k i. elim (each_at v x k (var_form at v x h) i) [ inl j ↦ inl (subst (λ z. Has z k) (sym (vars-var v)) (inl j)) | inr j ↦ inr j ];
  })

var_at : (v : ℕ) (x : Ty) (k : ℕ) → Has (W.Var v ∷ []) x → Has (vars_in x) k → (v ≡ k) ⊎ ⊥
var_at v x k (inl e) i = elim (subst (λ z. Has z k) (vars-var v) (subst (λ z. Has (vars_in z) k) (sym e) i)) [ inl j ↦ inl j | inr j ↦ absurd j ]
var_at v x k (inr h) i = absurd h

pub alts_within : (t x : Ty) → Has (alts t) x → (k : ℕ) → Has (vars_in x) k → Has (vars_in t) k
alts_within t x h k i = elim (within (λ v. W.Var v ∷ []) (λ k. ⊥) var_at t x h k i) [ inl j ↦ j | inr j ↦ absurd j ]

pub alts_closed : (t x : Ty) → vars_in t ≡ [] → Has (alts t) x → vars_in x ≡ []
alts_closed t x e h = none_has (vars_in x) (λ k i. has_none (vars_in t) k e (alts_within t x h k i))

-- places
module _ (v : ℕ) where
  pub places-any : places v W.Any ≡ nowhere
  places-any = ap (places v) (sym rolls-Any) ∙ fold-roll-Ty Places (places_step v) Any

  pub places-union : (ts : List Ty) → places v (V.Union ts) ≡ plus_all (map (places v) ts)
  places-union ts = ap (places v) (sym (rolls-Union ts)) ∙ fold-roll-Ty Places (places_step v) (Union ts)

  pub places-tuple : (ts : List Ty) → places v (V.Tuple ts) ≡ plus_all (map (places v) ts)
  places-tuple ts = ap (places v) (sym (rolls-Tuple ts)) ∙ fold-roll-Ty Places (places_step v) (Tuple ts)

  pub places-nominal : (k : ℕ) (ts : List Ty) → places v (V.Nominal k ts) ≡ below_nominal (plus_all (map (places v) ts))
  places-nominal k ts = ap (places v) (sym (rolls-Nominal k ts)) ∙ fold-roll-Ty Places (places_step v) (Nominal k ts)

  pub places-var : (w : ℕ) → places v (W.Var w) ≡ cond (nat_eq v w) (record { covariant = 1; invariant = 0 }) nowhere
  places-var w = ap (places v) (sym (rolls-Var w)) ∙ fold-roll-Ty Places (places_step v) (Var w)

  abbrev Lacks : Ty → Type 0
  Lacks t = (Has (vars_in t) v → ⊥) → places v t ≡ nowhere

  all_nowhere : (ts : List Ty) → Each Lacks ts → (Has (flat_map vars_in ts) v → ⊥) → plus_all (map (places v) ts) ≡ nowhere
  all_nowhere [] e h = refl
  all_nowhere (t ∷ ts) e h =
      let p = e.0 (λ i. h (has_left (vars_in t) (flat_map vars_in ts) v i)) in
      let q = all_nowhere ts e.1 (λ i. h (has_right (vars_in t) (flat_map vars_in ts) v i)) in
      ap (λ z. plus z (plus_all (map (places v) ts))) p ∙ ap (λ z. plus nowhere z) q

  other_place : (w : ℕ) (b : Bool) → nat_eq v w ≡ b → (Has (vars_in (W.Var w)) v → ⊥) → cond b (record { covariant = 1; invariant = 0 }) nowhere ≡ nowhere
  other_place w true e h = absurd (h (subst (λ z. Has z v) (sym (vars-var w)) (inl (sym (eqb-true v w e)))))
  other_place w false e h = refl

  pub lacks : (t : Ty) → Lacks t
  lacks = by_cases Lacks (record {
    any = λ h. places-any;
    union = λ ts e h. places-union ts ∙ all_nowhere ts e (λ i. h (subst (λ z. Has z v) (sym (vars-union ts)) i));
    tuple = λ ts e h. places-tuple ts ∙ all_nowhere ts e (λ i. h (subst (λ z. Has z v) (sym (vars-tuple ts)) i));
    nominal = λ k ts e h. places-nominal k ts ∙ ap below_nominal (all_nowhere ts e (λ i. h (subst (λ z. Has z v) (sym (vars-nominal k ts)) i)));
    var = λ w h. places-var w ∙ other_place w (nat_eq v w) refl h;
  })

  each_lacks : (ts : List Ty) → Each Lacks ts
  each_lacks [] = tt
  each_lacks (t ∷ ts) = (lacks t, each_lacks ts)

-- numbers of variables and atoms
module _ (s : Written) where
  pub root_own : (v : ℕ) → v < width s → root s v ≡ v
  root_own v l =
      let e : 0 * width s + v ≡ v = grind arith in
      sym (ap (root s) e) ∙ mod-mul-add 0 (width s) v l

  pub root_atom : (v i : ℕ) → v < width s → root s (atom s v i) ≡ v
  root_atom v i l =
      let e : atom s v i ≡ (i + 1) * width s + v = grind arith in
      ap (root s) e ∙ mod-mul-add (i + 1) (width s) v l

  pub number_atom : (v i : ℕ) → v < width s → (atom s v i / width s - 1) ≡ i
  number_atom v i l =
      let e : atom s v i ≡ (i + 1) * width s + v = grind arith in
      let f : atom s v i / width s ≡ i + 1 = ap (λ z. z / width s) e ∙ div-mul-add (i + 1) (width s) v l in
      let g : (i + 1) - 1 ≡ i = grind arith in
      ap (λ z. z - 1) f ∙ g

  pub atom_past : (v i : ℕ) → v < width s → nat_lt (atom s v i) (width s) ≡ false
  atom_past v i l =
      let e : atom s v i ≡ i * width s + (width s + v) = grind arith in
      let f : width s ≤ atom s v i = omega (arith, e) in grind (arith, f)

-- what stands at a covariant place of a variable
pub data IsSlot (s : Written) : ℕ → Type 0 where
  slot_diagonal : (v : ℕ) → v < width s → kind s v ≡ diagonal → IsSlot s v
  slot_atom : (v i : ℕ) → v < width s → kind s v ≡ bound → Has (alts (high s v)) (get_or (alts (high s v)) i W.Any) → IsSlot s (atom s v i)

-- an atom tells its alternative
pub atoms_has : (s : Written) (v j : ℕ) (us : List Ty) (x : Ty) → Has (atoms s v j us) x → (i : ℕ) × (x ≡ W.Var (atom s v (j + i))) × Has us (get_or us i W.Any)
atoms_has s v j [] x h = absurd h
atoms_has s v j (u ∷ us) x (inl e) = let d : j ≡ j + 0 = omega arith in (0, sym e ∙ ap (λ z. W.Var (atom s v z)) d, inl refl)
atoms_has s v j (u ∷ us) x (inr h) =
    let r = atoms_has s v (j + 1) us x h in
    let e : j + 1 + r.0 ≡ j + suc r.0 = omega arith in
    (suc r.0, r.1 ∙ ap (λ z. W.Var (atom s v z)) e, inr r.2)

pub has_atoms : (s : Written) (v j : ℕ) (us : List Ty) (u : Ty) → Has us u → (i : ℕ) × Has (atoms s v j us) (W.Var (atom s v (j + i))) × (get_or us i W.Any ≡ u)
has_atoms s v j [] u h = absurd h
has_atoms s v j (w ∷ us) u (inl e) = let d : j ≡ j + 0 = omega arith in (0, inl (ap (λ z. W.Var (atom s v z)) d), e)
has_atoms s v j (w ∷ us) u (inr h) =
    let r = has_atoms s v (j + 1) us u h in
    let e : j + 1 + r.0 ≡ j + suc r.0 = omega arith in
    (suc r.0, inr (subst (λ z. Has (atoms s v (j + 1) us) (W.Var (atom s v z))) e r.1), r.2)

pub at_atoms : (s : Written) (v : ℕ) (us : List Ty) (x : Ty) → Has (atoms s v 0 us) x → (i : ℕ) × (x ≡ W.Var (atom s v i)) × Has us (get_or us i W.Any)
at_atoms s v us x h =
    let r = atoms_has s v 0 us x h in
    let e : 0 + r.0 ≡ r.0 = omega arith in
    (r.0, r.1 ∙ ap (λ z. W.Var (atom s v z)) e, r.2)

pub an_atom : (s : Written) (v : ℕ) (us : List Ty) (u : Ty) → Has us u → (i : ℕ) × Has (atoms s v 0 us) (W.Var (atom s v i)) × (get_or us i W.Any ≡ u)
an_atom s v us u h =
    let r = has_atoms s v 0 us u h in
    let e : 0 + r.0 ≡ r.0 = omega arith in
    (r.0, subst (λ z. Has (atoms s v 0 us) (W.Var (atom s v z))) e r.1, r.2)

-- no variable, and arguments without variables
abbrev pub Never : ℕ → Type 0
Never k = ⊥

abbrev pub Bare : List Ty → Type 0
Bare xs = flat_map vars_in xs ≡ []

-- the shape of a bound: it has no variables, or it is a nominal type over variables before its own
pub record Shape (v : ℕ) (b : Bound) : Type 0 where
  pub low_none : vars_in b.low ≡ []
  pub high : (vars_in b.high ≡ []) ⊎ ((k : ℕ) × (ts : List Ty) × (out-Ty b.high ≡ Nominal k ts) × ((w : ℕ) → Has (vars_in b.high) w → w < v) × (is_bottom b.low ≡ true) × (list_all is_argument ts ≡ true))

named_shape : (x : Ty-F Ty) → named_form x ≡ true → (k : ℕ) × (ts : List Ty) × (x ≡ Nominal k ts) × (list_all is_argument ts ≡ true)
named_shape Any h = let e : false ≡ true = h in cc
named_shape (Union ts) h = let e : false ≡ true = h in cc
named_shape (Tuple ts) h = let e : false ≡ true = h in cc
named_shape (Nominal k ts) h = (k, ts, refl, h)
named_shape (Var v) h = let e : false ≡ true = h in cc

or_true : (b c : Bool) → (b || c) ≡ true → (b ≡ true) ⊎ (c ≡ true)
or_true true c h = inl refl
or_true false c h = inr h

-- a number of one of m variables that is before v or from m on is before v
before_or : (m v w : ℕ) → w < m → (nat_lt w v || not (nat_lt w m)) ≡ true → w < v
before_or m v w l h = elim (or_true (nat_lt w v) (not (nat_lt w m)) h) [
  | inl e ↦ less w v e
  | inr e ↦ let i = is_less w m l in let c : false ≡ true = sym (ap not i) ∙ e in cc
]

shape : (m v : ℕ) (b : Bound) → ((w : ℕ) → Has (vars_in b.high) w → w < m) → is_bound m v b ≡ true → Shape v b
shape m v b own h =
    let first : Bool = is_bottom b.low && named_form (out-Ty b.high) in
    let mine : Bool = list_all (λ w. nat_lt w v || not (nat_lt w m)) (vars_in b.high) in
    let named : Bool = first && mine in
    record {
      low_none = no_length (vars_in b.low) (and_l (is_closed b.low) (is_closed b.high || named) h);
      high = elim (or_true (is_closed b.high) named (and_r (is_closed b.low) (is_closed b.high || named) h)) [
        | inl c ↦ inl (no_length (vars_in b.high) c)
        | inr c ↦
            let d : first ≡ true = and_l first mine c in
            let r = named_shape (out-Ty b.high) (and_r (is_bottom b.low) (named_form (out-Ty b.high)) d) in
            inr (
              r.0,
              r.1,
              r.2,
              (λ w i. before_or m v w (own w i) (all_has (λ w. nat_lt w v || not (nat_lt w m)) (vars_in b.high) w (and_r first mine c) i)),
              and_l (is_bottom b.low) (named_form (out-Ty b.high)) d,
              r.3,
            )
      ];
    }

abbrev Owns : ℕ → List Bound → Type 0
Owns m bs = (w : ℕ) → Has (flat_map vars_in (bound_types bs)) w → w < m

owns_high : (m : ℕ) (b : Bound) (bs : List Bound) → Owns m (b ∷ bs) → (w : ℕ) → Has (vars_in b.high) w → w < m
owns_high m b bs o w h = o w (has_right (vars_in b.low) (vars_in b.high ++ flat_map vars_in (bound_types bs)) w (has_left (vars_in b.high) (flat_map vars_in (bound_types bs)) w h))

owns_rest : (m : ℕ) (b : Bound) (bs : List Bound) → Owns m (b ∷ bs) → Owns m bs
owns_rest m b bs o w h = o w (has_right (vars_in b.low) (vars_in b.high ++ flat_map vars_in (bound_types bs)) w (has_right (vars_in b.high) (flat_map vars_in (bound_types bs)) w h))

shapes : (m v : ℕ) (bs : List Bound) → Owns m bs → are_bounds m v bs ≡ true → (i : ℕ) → Shape (v + i) (get_or bs i free)
shapes m v [] o h i = record { low_none = vars-union []; high = inl vars-any }
shapes m v (b ∷ bs) o h zero = let e : v ≡ v + 0 = omega arith in subst (λ k. Shape k b) e (shape m v b (owns_high m b bs o) (and_l (is_bound m v b) (are_bounds m (v + 1) bs) h))
shapes m v (b ∷ bs) o h (suc i) =
    let e : v + 1 + i ≡ v + suc i = omega arith in
    subst (λ k. Shape k (get_or bs i free)) e (shapes m (v + 1) bs (owns_rest m b bs o) (and_r (is_bound m v b) (are_bounds m (v + 1) bs) h) i)

-- a number past the variables stands in no bound
lack_bound : (v k : ℕ) (b : Bound) → Shape k b → k ≤ v → plus (places v b.low) (places v b.high) ≡ nowhere
lack_bound v k b sh l =
    let p : places v b.low ≡ nowhere = lacks v b.low (λ i. has_none (vars_in b.low) v sh.low_none i) in
    let q : places v b.high ≡ nowhere = lacks v b.high (λ i. elim sh.high [ inl e ↦ has_none (vars_in b.high) v e i | inr r ↦ (let z = r.3 v i in absurd (omega (arith, z, l))) ]) in
    ap (λ z. plus z (places v b.high)) p ∙ ap (λ z. plus nowhere z) q

lack_bounds : (m v i : ℕ) (bs : List Bound) → Owns m bs → are_bounds m i bs ≡ true → i + length bs ≤ v → bound_places v bs ≡ nowhere
lack_bounds m v i [] o h l = refl
lack_bounds m v i (b ∷ bs) o h l =
    let p = lack_bound v i b (shape m i b (owns_high m b bs o) (and_l (is_bound m i b) (are_bounds m (i + 1) bs) h)) (omega (arith, l)) in
    let q = lack_bounds m v (i + 1) bs (owns_rest m b bs o) (and_r (is_bound m i b) (are_bounds m (i + 1) bs) h) (omega (arith, l)) in
    ap (λ z. plus z (bound_places v bs)) p ∙ ap (λ z. plus nowhere z) q

module _ (s : Written) (scope : IsScoped s) where
  owns : Owns (width s) s.vars
  owns w h = less w (width s) (all_has (λ v. nat_lt v (width s)) (flat_map vars_in (bound_types s.vars)) w scope.own_bounds h)

  pub own_shape : (v : ℕ) → Shape v (get_or s.vars v free)
  own_shape v = let e : 0 + v ≡ v = omega arith in subst (λ k. Shape k (get_or s.vars v free)) e (shapes (width s) 0 s.vars owns scope.bounds v)

  pub low_none : (v : ℕ) → vars_in (low s v) ≡ []
  low_none v = (own_shape v).low_none

  pub own_small : (v : ℕ) → Has (flat_map vars_in s.parts) v → v < width s
  own_small v h = less v (width s) (all_has (λ v. nat_lt v (width s)) (flat_map vars_in s.parts) v scope.own h)

  -- an upper bound mentions variables before its own
  pub high_before : (v w : ℕ) → Has (vars_in (high s v)) w → w < v
  high_before v w h = elim (own_shape v).high [ inl e ↦ absurd (has_none (vars_in (high s v)) w e h) | inr r ↦ r.3 w h ]

  get_past : (bs : List Bound) (v : ℕ) → length bs ≤ v → get_or bs v free ≡ free
  get_past [] v l = refl
  get_past (b ∷ bs) zero l = absurd (omega (arith, l))
  get_past (b ∷ bs) (suc v) l = get_past bs v (omega (arith, l))

  small_or : (v : ℕ) → (v < width s) ⊎ (width s ≤ v)
  small_or v = by_test (nat_lt v (width s)) refl
    where
      by_test : (b : Bool) → nat_lt v (width s) ≡ b → (v < width s) ⊎ (width s ≤ v)
      by_test true e = inl (grind (arith, e))
      by_test false e = inr (grind (arith, e))

  pub high_small : (v w : ℕ) → Has (vars_in (high s v)) w → w < width s
  high_small v w h = elim (small_or v) [
    | inl l ↦ let k = high_before v w h in omega (arith, k, l)
    | inr l ↦ absurd (has_none (vars_in (high s v)) w (ap (λ b. vars_in b.high) (get_past s.vars v l) ∙ vars-any) h)
  ]

  -- a variable that is not its own has no kind but `unused`
  pub foreign : (v : ℕ) → (v < width s → ⊥) → kind s v ≡ unused
  foreign v f =
      let l : width s ≤ v = elim (small_or v) [ inl l ↦ absurd (f l) | inr l ↦ l ] in
      let p : part_places s v ≡ nowhere = all_nowhere v s.parts (each_lacks v s.parts) (λ h. f (own_small v h)) in
      let q : bound_places v s.vars ≡ nowhere = lack_bounds (width s) v 0 s.vars owns scope.bounds (omega (arith, l)) in
      ap (λ z. kind_of (plus z (below_nominal (bound_places v s.vars)))) p ∙ ap (λ z. kind_of (plus nowhere (below_nominal z))) q

  used_small : (v : ℕ) (k : Kind) → (k ≡ unused → ⊥) → kind s v ≡ k → v < width s
  used_small v k f e = elim (small_or v) [ inl l ↦ l | inr l ↦ absurd (f (sym e ∙ foreign v (λ i. (let z : ⊥ = omega (arith, i, l) in z)))) ]

  pub diagonal_small : (v : ℕ) → kind s v ≡ diagonal → v < width s
  diagonal_small v e = used_small v diagonal (λ (i : diagonal ≡ unused). cc) e

  pub bound_small : (v : ℕ) → kind s v ≡ bound → v < width s
  bound_small v e = used_small v bound (λ (i : bound ≡ unused). cc) e

  -- the parts of its rows
  abbrev pub Small : List Ty → Type 0
  Small xs = (v : ℕ) → Has (flat_map vars_in xs) v → v < width s

  abbrev Own : Ty → Type 0
  Own t = (v : ℕ) → Has (vars_in t) v → v < width s

  abbrev Closed : Ty → Type 0
  Closed t = vars_in t ≡ []

  bare_small : (xs : List Ty) → Bare xs → Small xs
  bare_small xs e v h = absurd (has_none (flat_map vars_in xs) v e h)

  closed_member : (t : Ty) (ts : List Ty) → vars_in t ≡ flat_map vars_in ts → Closed t → (u : Ty) → Has ts u → Closed u
  closed_member t ts e c u h = none_has (vars_in u) (λ k i. has_none (vars_in t) k c (subst (λ z. Has z k) (sym e) (has_flat vars_in ts u k h i)))

  own_member : (t : Ty) (ts : List Ty) → vars_in t ≡ flat_map vars_in ts → Own t → (u : Ty) → Has ts u → Own u
  own_member t ts e o u h v i = o v (subst (λ z. Has z v) (sym e) (has_flat vars_in ts u v h i))

  closed_seeds : Seeds Closed Bare
  closed_seeds = record {
    union = λ ts c u h. closed_member (V.Union ts) ts (vars-union ts) c u h;
    tuple = λ ts c u h. closed_member (V.Tuple ts) ts (vars-tuple ts) c u h;
    nominal = λ k ts c. sym (vars-nominal k ts) ∙ c;
  }

  own_seeds : Seeds Own Small
  own_seeds = record {
    union = λ ts c u h. own_member (V.Union ts) ts (vars-union ts) c u h;
    tuple = λ ts c u h. own_member (V.Tuple ts) ts (vars-tuple ts) c u h;
    nominal = λ k ts c v h. c v (subst (λ z. Has z v) (sym (vars-nominal k ts)) h);
  }

  has_var : (v : ℕ) → Has (vars_in (W.Var v)) v
  has_var v = subst (λ z. Has z v) (sym (vars-var v)) (inl refl)

  pub closed_plain : (t : Ty) → vars_in t ≡ [] → (x : Ty) → Has (alts t) x → Plain Never Bare x
  closed_plain t e x h = made (λ v. W.Var v ∷ []) Never Bare Closed closed_seeds (λ v c y i. absurd (has_none (vars_in (W.Var v)) v c (has_var v))) t e x h

  -- an alternative of an upper bound: no variable stands at a covariant place. N holds besides of the arguments, where M holds of the
  -- bounds and of the components
  module _ (N : List Ty → Type 0) (M : Ty → Type 0) (seeds : Seeds M N) (bounds : (v : ℕ) → M (high s v)) where
    abbrev pub SmallN : List Ty → Type 0
    SmallN xs = Small xs × N xs

    pub bound_plain_n : (v : ℕ) (x : Ty) → Has (alts (high s v)) x → Plain Never SmallN x
    bound_plain_n v x h = elim (own_shape v).high [
      | inl e ↦
          plain_map Never Never (λ xs. Bare xs × N xs) SmallN (λ k b. b) (λ xs q. (bare_small xs q.0, q.1)) x
          (made (λ v. W.Var v ∷ []) Never (λ xs. Bare xs × N xs) (λ t. Closed t × M t) (seeds_both Closed M Bare N closed_seeds seeds)
          (λ v c y i. absurd (has_none (vars_in (W.Var v)) v c.0 (has_var v))) (high s v) (e, bounds v) x h)
      | inr r ↦
          let is : high s v ≡ V.Nominal r.0 r.1 = is_nominal (high s v) r.0 r.1 r.2 in
          let j : V.Nominal r.0 r.1 ≡ x = nominal_form (λ v. W.Var v ∷ []) r.0 r.1 x (subst (λ z. Has (alts z) x) is h) in
          plain_nominal x r.0 r.1 (ap out-Ty (sym j) ∙ outs-Nominal r.0 r.1)
          ((λ w i. high_small v w (subst (λ z. Has z w) (sym (ap vars_in is ∙ vars-nominal r.0 r.1)) i)), seeds.nominal r.0 r.1 (subst M is (bounds v)))
    ]

    pub rigid_plain_n : (x : Ty) → Plain Never SmallN x → Plain (IsSlot s) SmallN x
    rigid_plain_n x p = plain_map Never (IsSlot s) SmallN SmallN (λ k b. absurd b) (λ xs q. q) x p

    slot_plain : (v : ℕ) → v < width s → (k : Kind) → kind s v ≡ k → (x : Ty) → Has (place_of s v k) x → Plain (IsSlot s) SmallN x
    slot_plain v l unused e x h = absurd h
    slot_plain v l once e x h = rigid_plain_n x (bound_plain_n v x h)
    slot_plain v l diagonal e x (inl i) = plain_var x v (ap out-Ty (sym i) ∙ outs-Var v) (slot_diagonal v l e)
    slot_plain v l diagonal e x (inr i) = absurd i
    slot_plain v l bound e x h =
        let r = at_atoms s v (alts (high s v)) x h in
        plain_var x (atom s v r.0) (ap out-Ty r.1 ∙ outs-Var (atom s v r.0)) (slot_atom v r.0 l e r.2)

    pub components_plain_n : (ts : List Ty) → Has (components s) ts → ((t : Ty) → Has s.parts t → M t) → AllPlain (IsSlot s) SmallN ts
    components_plain_n ts h m =
        all_parts (λ v. place_of s v (kind s v)) (IsSlot s) SmallN (λ t. Own t × M t) (seeds_both Own M Small N own_seeds seeds)
        (λ v o x i. slot_plain v (o.0 v (has_var v)) (kind s v) refl x i) s.parts
        (λ t i. ((λ v j. own_small v (has_flat vars_in s.parts t v i j)), m t i)) ts
        (choices_has (map (forms (λ v. place_of s v (kind s v))) s.parts) ts h)

    pub row_plain_n : (n : Table) (r : Row) → IsRow n s r → ((t : Ty) → Has s.parts t → M t) → AllPlain (IsSlot s) SmallN r.parts
    row_plain_n n r row m = components_plain_n r.parts (has_of (components s) r.parts row.parts) m

  -- nothing besides
  abbrev Nothing : List Ty → Type 0
  Nothing xs = Unit {0}

  abbrev Whatever : Ty → Type 0
  Whatever t = Unit {0}

  nothing_seeds : Seeds Whatever Nothing
  nothing_seeds = record { union = λ ts c u h. tt; tuple = λ ts c u h. tt; nominal = λ k ts c. tt }

  pub bound_plain : (v : ℕ) (x : Ty) → Has (alts (high s v)) x → Plain Never Small x
  bound_plain v x h =
      plain_map Never Never (λ xs. Small xs × Nothing xs) Small (λ k b. b) (λ xs q. q.0) x (bound_plain_n Nothing Whatever nothing_seeds (λ v. tt) v x h)

  pub rigid_plain : (x : Ty) → Plain Never Small x → Plain (IsSlot s) Small x
  rigid_plain x p = plain_map Never (IsSlot s) Small Small (λ k b. absurd b) (λ xs q. q) x p

  pub row_plain : (n : Table) (r : Row) → IsRow n s r → AllPlain (IsSlot s) Small r.parts
  row_plain n r row =
      all_map (IsSlot s) (IsSlot s) (λ xs. Small xs × Nothing xs) Small (λ k b. b) (λ xs q. q.0) r.parts
      (row_plain_n Nothing Whatever nothing_seeds (λ v. tt) n r row (λ t h. tt))

  -- the roots of variables in a row are its own
  pub slot_small : (k : ℕ) → IsSlot s k → root s k < width s
  slot_small k (slot_diagonal v l e) = subst (λ z. z < width s) (sym (root_own s v l)) l
  slot_small k (slot_atom v i l e h) = subst (λ z. z < width s) (sym (root_atom s v i l)) l

  mutual
    plain_small : (x : Ty) → Plain (IsSlot s) Small x → (k : ℕ) → Has (vars_in x) k → root s k < width s
    plain_small x (plain_any y e) k h = absurd (has_none (vars_in x) k (ap vars_in (is_any x e) ∙ vars-any) h)
    plain_small x (plain_tuple y us e p) k h = all_small us p k (subst (λ z. Has z k) (ap vars_in (is_tuple x us e) ∙ vars-tuple us) h)
    plain_small x (plain_nominal y m xs e q) k h =
        let l = q k (subst (λ z. Has z k) (ap vars_in (is_nominal x m xs e) ∙ vars-nominal m xs) h) in subst (λ z. z < width s) (sym (root_own s k l)) l
    plain_small x (plain_var y m e d) k h = elim (subst (λ z. Has z k) (ap vars_in (is_var x m e) ∙ vars-var m) h) [
      | inl i ↦ subst (λ z. root s z < width s) i (slot_small m d)
      | inr i ↦ absurd i
    ]

    pub all_small : (us : List Ty) → AllPlain (IsSlot s) Small us → (k : ℕ) → Has (flat_map vars_in us) k → root s k < width s
    all_small us all_end k h = absurd h
    all_small us (all_more x xs p r) k h = elim (has_split (vars_in x) (flat_map vars_in xs) k h) [ inl i ↦ plain_small x p k i | inr i ↦ all_small xs r k i ]

  occurs_in : (us : List Ty) → AllPlain (IsSlot s) Small us → (v : ℕ) (row : List Ty) → row ≡ us → Occurs s v row → v < width s
  occurs_in us p v row e (standing x y o) =
      let q = map_has (root s) (flat_map vars_in us) v (has_of (map (root s) (flat_map vars_in us)) v (subst (λ z. Stands s v z) e o)) in
      subst (λ z. z < width s) q.2 (all_small us p q.0 q.1)
  occurs_in us p v row e (bounding x w y o c) = high_small w v (has_of (vars_in (high s w)) v c)

  pub occurs_small : (n : Table) (r : Row) → IsRow n s r → (v : ℕ) → Occurs s v r.parts → v < width s
  occurs_small n r row v o = occurs_in r.parts (row_plain n r row) v r.parts refl o

-- what is known of the variables of a row, held fixed
pub has_or : (ns : List ℕ) (v : ℕ) → Has ns v ⊎ (Has ns v → ⊥)
has_or [] v = inr (λ h. h)
has_or (m ∷ ns) v = by_test (has_or ns v) (nat_eq m v) refl
  where
    by_test : Has ns v ⊎ (Has ns v → ⊥) → (b : Bool) → nat_eq m v ≡ b → Has (m ∷ ns) v ⊎ (Has (m ∷ ns) v → ⊥)
    by_test r true e = inl (inl (eqb-true m v e))
    by_test r false e = elim r [
      | inl h ↦ inl (inr h)
      | inr f ↦ inr (λ h. elim h [ inl i ↦ (let g : nat_eq m v ≡ true = grind (arith, i) in let k : true ≡ false = sym g ∙ e in cc) | inr j ↦ f j ])
    ]

pub which : (k : Kind) → (k ≡ diagonal) ⊎ ((t u : Ty) → by_kind k t u ≡ u)
which unused = inr (λ t u. refl)
which once = inr (λ t u. refl)
which diagonal = inl refl
which bound = inr (λ t u. refl)

module _ (n : Table) (s : Written) (r : Row) where
  pub low_at : (v : ℕ) → v < width s → (fixed s r).low v ≡ low s v
  low_at v l = let e = is_less v (width s) l in rw e refl

  pub high_at : (v : ℕ) → v < width s → (fixed s r).high v ≡ top s r v
  high_at v l = let e = is_less v (width s) l in rw e refl

  pub high_atom : (v i : ℕ) → v < width s → (fixed s r).high (atom s v i) ≡ get_or (alts (high s v)) i W.Any
  high_atom v i l =
      let e = atom_past s v i l in
      let f = root_atom s v i l in
      let g = number_atom s v i l in
      rw (e, f, g) refl

  pub top_diagonal : (v : ℕ) → kind s v ≡ diagonal → top s r v ≡ r.chosen v
  top_diagonal v e = ap (λ k. by_kind k (r.chosen v) (high s v)) e

  pub top_other : (v : ℕ) → ((t u : Ty) → by_kind (kind s v) t u ≡ u) → top s r v ≡ high s v
  top_other v f = f (r.chosen v) (high s v)

  module _ (scope : IsScoped s) (row : IsRow n s r) where
    -- what bounds a variable in a row has no other variables than its upper bound
    chosen_within : (v : ℕ) → kind s v ≡ diagonal → (w : ℕ) → Has (vars_in (r.chosen v)) w → Has (vars_in (high s v)) w
    chosen_within v e w i = elim (has_or (map (root s) (flat_map vars_in r.parts)) v) [
      | inl h ↦
          let c = row.chosen v e (of_has (map (root s) (flat_map vars_in r.parts)) v h) in
          alts_within (high s v) (r.chosen v) (has_of (alts (high s v)) (r.chosen v) c.0) w i
      | inr f ↦ absurd (has_none (vars_in (r.chosen v)) w (ap vars_in (row.other v (λ o. f (has_of (map (root s) (flat_map vars_in r.parts)) v o))) ∙ vars-any) i)
    ]

    pub top_within : (v w : ℕ) → Has (vars_in (top s r v)) w → Has (vars_in (high s v)) w
    top_within v w i = elim (which (kind s v)) [
      | inl e ↦ chosen_within v e w (subst (λ z. Has (vars_in z) w) (top_diagonal v e) i)
      | inr f ↦ subst (λ z. Has (vars_in z) w) (top_other v f) i
    ]

    pub top_small : (v w : ℕ) → Has (vars_in (top s r v)) w → w < width s
    top_small v w i = high_small s scope v w (top_within v w i)

    module _ (Q : List Ty → Type 0) (plain : (v : ℕ) (x : Ty) → Has (alts (high s v)) x → Plain Never Q x) where
      pub chosen_plain : (v : ℕ) → kind s v ≡ diagonal → Plain Never Q (r.chosen v)
      chosen_plain v e = elim (has_or (map (root s) (flat_map vars_in r.parts)) v) [
        | inl h ↦
            let c = row.chosen v e (of_has (map (root s) (flat_map vars_in r.parts)) v h) in
            plain v (r.chosen v) (has_of (alts (high s v)) (r.chosen v) c.0)
        | inr f ↦ plain_any (r.chosen v) (ap out-Ty (row.other v (λ o. f (has_of (map (root s) (flat_map vars_in r.parts)) v o))) ∙ outs-Any)
      ]

      pub slot_high_by : (k : ℕ) → IsSlot s k → Plain Never Q ((fixed s r).high k)
      slot_high_by k (slot_diagonal v l e) = subst (λ z. Plain Never Q z) (sym (high_at v l ∙ top_diagonal v e)) (chosen_plain v e)
      slot_high_by k (slot_atom v i l e h) = subst (λ z. Plain Never Q z) (sym (high_atom v i l)) (plain v (get_or (alts (high s v)) i W.Any) h)

    -- the bound of what stands in a row is an alternative, without variables at covariant places
    pub slot_high : (k : ℕ) → IsSlot s k → Plain Never (Small s scope) ((fixed s r).high k)
    slot_high k d = slot_high_by (Small s scope) (bound_plain s scope) k d

    -- and its variables are variables of the row
    pub slot_occurs : (k : ℕ) → IsSlot s k → Occurs s (root s k) r.parts → (w : ℕ) → Has (vars_in ((fixed s r).high k)) w → Occurs s w r.parts
    slot_occurs k (slot_diagonal v l e) o w i =
        bounding w v r.parts (subst (λ z. Occurs s z r.parts) (root_own s v l) o) (of_has (vars_in (high s v)) w (top_within v w (subst (λ z. Has (vars_in z) w) (high_at v l) i)))
    slot_occurs k (slot_atom v j l e h) o w i =
        bounding w v r.parts (subst (λ z. Occurs s z r.parts) (root_atom s v j l) o)
        (of_has (vars_in (high s v)) w (alts_within (high s v) (get_or (alts (high s v)) j W.Any) h w (subst (λ z. Has (vars_in z) w) (high_atom v j l) i)))
