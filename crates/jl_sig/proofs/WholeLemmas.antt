-- The rows that the code builds are all rows of the signature.
use Rattle.std.proofs.Common.{◌≡◌, ◌∙◌, sym, ap, subst, refl, ℕ, zero, suc, ◌+◌, ◌*◌, ◌%◌, ◌<◌, ◌≤◌, arith, Bool, true, false, ◌&&◌, ◌||◌, not, cond, nat_eq, nat_lt, List, [], ◌∷◌, ◌++◌, map, length, get_or, ◌⊎◌, inl, inr}
use Rattle.std.specs.List.{flat_map, list_all, list_any}
use Rattle.std.proofs.lemmas.List.{length-map}
use Rattle.std.proofs.lemmas.Nat.{mod-mul-add}
use Rattle.std.proofs.Math.Nat.{mul_comm, zero-mul}
use Rattle.jl_model.specs.declared.ty.Ty.{Ty}
use Rattle.jl_model.specs.declared.ty.Ty.TheViews as V
use Rattle.jl_model.specs.declared.ty.Ty.TheVariants as W
use Rattle.jl_model.specs.declared.ty.Bound.{Bound}
use Rattle.jl_model.specs.declared.ty.Written.{Written}
use Rattle.jl_model.specs.Kinds as model
use Rattle.jl_model.specs.Kinds.{places, plus_all, unused, once, diagonal, bound}
use Rattle.jl_model.specs.Rows.{alts, atom, atoms, choices, components, forms, high, kind, place_of, root, vars_in, width}
use Rattle.jl_model.specs.Subtype.{Table}
use Rattle.jl_model.specs.Signature.{is_diagonal}
use Rattle.jl_model.specs.Refusals.{bound_types}
use Rattle.jl_model.specs.AllRows.{Above, above_end, taken, passed, ArePicks, Listed, all_rows, each_var, occurs, rows_with, slot}
use Rattle.jl_model.specs.Usable.{stands_in}
use Rattle.jl_model.proofs.TypeInduction.{Each, by_cases}
use Rattle.jl_model.proofs.PutLemmas.{and_l, and_r, both_true}
use Rattle.jl_model.proofs.FormLemmas.{vars-var}
use Rattle.jl_sig.specs.Built.{placed, picked, place_by, place_in, ArePicked, rows_from}
use Rattle.jl_sig.specs.Prepared.{HasOwnVariables}
use Rattle.jl_sig.proofs.OwnLemmas.{all_split, own_bounds, own_parts, own_high}
use Rattle.jl_sig.proofs.StandLemmas.{all_hidden, unused_places, kind_parts, kind_below, kind_stands, high_stands}
use Rattle.jl_types.proofs.FormEquations.{forms-any, forms-union, forms-tuple, forms-nominal, forms-var}
use Rattle.jl_sig.proofs.LiveLemmas.{sift, sift-flat, sift_long, live, live_row, live-cons, live-union, live-tuple, live_rows}
use Rattle.jl_sig.proofs.RowLemmas.{each-get, each-long}

-- a picked list is one
pub above_same : (n : Table) (t : Ty) (us vs ws : List Ty) → Above n t us vs → Above n t us ws → vs ≡ ws
above_same n t us vs ws above_end above_end = refl
above_same n t us vs ws (taken u as_ bs b p) (taken x cs ds c q) = ap (λ z. u ∷ z) (above_same n t as_ bs ds p q)
above_same n t us vs ws (taken u as_ bs b p) (passed x cs ds c q) = absurd (c b)
above_same n t us vs ws (passed u as_ bs b p) (taken x cs ds c q) = absurd (b c)
above_same n t us vs ws (passed u as_ bs b p) (passed x cs ds c q) = above_same n t as_ vs ws p q

-- choices among lists
each_nil : (f : ℕ → List Ty) (j v : ℕ) (bs : List Bound) → v < length bs → f (j + v) ≡ [] → choices (each_var f j bs) ≡ []
each_nil f j v [] l e = absurd (omega arith)
each_nil f j zero (b ∷ bs) l e = let g : j + 0 ≡ j = omega arith in let h : f j ≡ [] = ap f (sym g) ∙ e in rw h refl
each_nil f j (suc v) (b ∷ bs) l e =
    let g : j + suc v ≡ (j + 1) + v = omega arith in
    ap (λ z. flat_map (λ t. map (λ us. t ∷ us) z) (f j)) (each_nil f (j + 1) v bs (omega arith) (ap f (sym g) ∙ e)) ∙ none_from (f j)
  where
    none_from : (ts : List Ty) → flat_map (λ t. map (λ us. t ∷ us) []) ts ≡ []
    none_from [] = refl
    none_from (t ∷ ts) = none_from ts

some_from : (ts : List Ty) (rows : List (List Ty)) → (ts ≡ [] → ⊥) → 1 ≤ length rows → 1 ≤ length (flat_map (λ t. map (λ us. t ∷ us) rows) ts)
some_from [] rows h l = absurd (h refl)
some_from (t ∷ ts) [] h l = absurd (omega arith)
some_from (t ∷ ts) (r ∷ rs) h l = omega arith

each_some : (f : ℕ → List Ty) (j : ℕ) (bs : List Bound) → ((v : ℕ) → f v ≡ [] → ⊥) → 1 ≤ length (choices (each_var f j bs))
each_some f j [] h = omega arith
each_some f j (b ∷ bs) h = some_from (f j) (choices (each_var f (j + 1) bs)) (h j) (each_some f (j + 1) bs h)

pub each_same : (f g : ℕ → List Ty) (j : ℕ) (bs : List Bound) → ((v : ℕ) → f v ≡ g v) → each_var f j bs ≡ each_var g j bs
each_same f g j [] h = refl
each_same f g j (b ∷ bs) h = ap (λ z. z ∷ each_var f (j + 1) bs) (h j) ∙ ap (λ z. g j ∷ z) (each_same f g (j + 1) bs h)

-- a property of a type that its forms have
pub record Carries (P : Ty → Type 0) (at : ℕ → List Ty) : Type 0 where
  pub union : (ts : List Ty) → P (V.Union ts) → Each P ts
  pub tuple : (ts : List Ty) → P (V.Tuple ts) → Each P ts
  pub join : (us : List Ty) → Each P us → P (V.Tuple us)
  pub var : (v : ℕ) → P (W.Var v) → Each P (at v)

-- each member of each list
abbrev pub Rows : (Ty → Type 0) → List (List Ty) → Type 0
Rows P [] = Unit {0}
Rows P (r ∷ rs) = Each P r × Rows P rs

-- choices among lists whose members have a property have it
module _ (P : Ty → Type 0) where
  pub chosen_have : (ls : List (List Ty)) → Rows P ls → Rows P (choices ls)
  chosen_have [] e = (tt, tt)
  chosen_have (l ∷ ls) e = flat (choices ls) l e.0 (chosen_have ls e.1)
    where
      join : (rs ss : List (List Ty)) → Rows P rs → Rows P ss → Rows P (rs ++ ss)
      join [] ss f g = g
      join (r ∷ rs) ss f g = (f.0, join rs ss f.1 g)

      cons : (t : Ty) (rs : List (List Ty)) → P t → Rows P rs → Rows P (map (λ us. t ∷ us) rs)
      cons t [] p f = tt
      cons t (r ∷ rs) p f = ((p, f.0), cons t rs p f.1)

      flat : (rs : List (List Ty)) (ts : List Ty) → Each P ts → Rows P rs → Rows P (flat_map (λ t. map (λ us. t ∷ us) rs) ts)
      flat rs [] f g = tt
      flat rs (t ∷ ts) f g = join (map (λ us. t ∷ us) rs) (flat_map (λ u. map (λ us. u ∷ us) rs) ts) (cons t rs f.0 g) (flat rs ts f.1 g)

module _ (P : Ty → Type 0) (at : ℕ → List Ty) (h : Carries P at) where
  joined : (ts us : List Ty) → Each P ts → Each P us → Each P (ts ++ us)
  joined [] us e f = f
  joined (t ∷ ts) us e f = (e.0, joined ts us e.1 f)

  tuples_have : (rs : List (List Ty)) → Rows P rs → Each P (map (λ us. V.Tuple us) rs)
  tuples_have [] e = tt
  tuples_have (r ∷ rs) e = (h.join r e.0, tuples_have rs e.1)

  flat_have : (ts : List Ty) → Each (λ t. P t → Each P (forms at t)) ts → Each P ts → Each P (flat_map (forms at) ts)
  flat_have [] e f = tt
  flat_have (t ∷ ts) e f = joined (forms at t) (flat_map (forms at) ts) (e.0 f.0) (flat_have ts e.1 f.1)

  forms_rows : (ts : List Ty) → Each (λ t. P t → Each P (forms at t)) ts → Each P ts → Rows P (map (forms at) ts)
  forms_rows [] e f = tt
  forms_rows (t ∷ ts) e f = (e.0 f.0, forms_rows ts e.1 f.1)

  pub forms_have : (t : Ty) → P t → Each P (forms at t)
  forms_have = by_cases (λ t. P t → Each P (forms at t)) (record {
    any = λ p. subst (Each P) (sym (forms-any at)) (p, tt);
    union = λ ts e p. subst (Each P) (sym (forms-union at ts)) (flat_have ts e (h.union ts p));
    tuple = λ ts e p. subst (Each P) (sym (forms-tuple at ts)) (tuples_have (choices (map (forms at) ts)) (chosen_have P (map (forms at) ts) (forms_rows ts e (h.tuple ts p))));
    nominal = λ k ts e p. subst (Each P) (sym (forms-nominal at k ts)) (p, tt);
    var = λ v p. subst (Each P) (sym (forms-var at v)) (h.var v p);
  })

abbrev is_nil : List Ty → Bool
is_nil [] = true
is_nil (t ∷ ts) = false

lt_cases : (v m : ℕ) → (v < m) ⊎ (m ≤ v)
lt_cases zero zero = inr (omega arith)
lt_cases zero (suc m) = inl (omega arith)
lt_cases (suc v) zero = inr (omega arith)
lt_cases (suc v) (suc m) = elim (lt_cases v m) [ inl a ↦ inl (omega arith) | inr b ↦ inr (omega arith) ]

away : (ns : List ℕ) (m v : ℕ) → list_all (λ w. nat_lt w m) ns ≡ true → m ≤ v → list_any (nat_eq v) ns ≡ false
away [] m v h l = refl
away (n ∷ ns) m v h l =
    let p : nat_lt n m ≡ true = and_l (nat_lt n m) (list_all (λ w. nat_lt w m) ns) h in
    let q : nat_eq v n ≡ false = grind (arith, p, l) in
    ap (λ b. b || list_any (nat_eq v) ns) q ∙ away ns m v (and_r (nat_lt n m) (list_all (λ w. nat_lt w m) ns) h) l

not_there : (ts : List Ty) (m v : ℕ) → list_all (λ w. nat_lt w m) (flat_map vars_in ts) ≡ true → m ≤ v → list_any (stands_in v) ts ≡ false
not_there [] m v h l = refl
not_there (t ∷ ts) m v h l =
    let r = all_split (λ w. nat_lt w m) (vars_in t) (flat_map vars_in ts) h in
    ap (λ b. b || list_any (stands_in v) ts) (away (vars_in t) m v r.0 l) ∙ not_there ts m v r.1 l

-- a diagonal variable has no invariant place in a component
diagonal_places : (s : Written) (w : ℕ) → kind s w ≡ diagonal → (plus_all (map (places w) s.parts)).invariant ≡ 0
diagonal_places s w h = elim (lt_cases 0 (plus_all (map (places w) s.parts)).invariant) [
  | inl a ↦ absurd (let f : bound ≡ diagonal = sym (kind_below s w a) ∙ h in cc)
  | inr b ↦ omega (arith, b)
]

-- ROWS
module _ (n : Table) (s : Written) (ps : List (List Ty)) (own : HasOwnVariables s) where
  has_own : list_all (λ v. nat_lt v (width s)) (flat_map vars_in s.parts) ≡ true
  has_own = own_parts s own

  past_unused : (v : ℕ) → width s ≤ v → kind s v ≡ unused
  past_unused v l =
      let h = all_hidden v s.parts (not_there s.parts (width s) v has_own l) in
      kind_parts s v (not_there (bound_types s.vars) (width s) v (own_bounds s own) l) ∙ unused_places (plus_all (map (places v) s.parts)) h.0 h.1

  pub diagonal_below : (v : ℕ) → kind s v ≡ diagonal → v < width s
  diagonal_below v k = elim (lt_cases v (width s)) [ inl a ↦ a | inr b ↦ absurd (let f : unused ≡ diagonal = sym (past_unused v b) ∙ k in cc) ]

  abbrev dead : ℕ → Bool
  dead v = is_diagonal (kind s v) && is_nil (picked ps v)

  dead_diagonal : (k : model.Kind) (b : Bool) → (is_diagonal k && b) ≡ true → k ≡ diagonal
  dead_diagonal unused b h = absurd (let f : false ≡ true = h in cc)
  dead_diagonal once b h = absurd (let f : false ≡ true = h in cc)
  dead_diagonal diagonal b h = refl
  dead_diagonal bound b h = absurd (let f : false ≡ true = h in cc)

  root_of : (v : ℕ) → v < width s → root s v ≡ v
  root_of v l = let z = zero-mul (width s) in let e : v ≡ 0 * width s + v = omega (arith, z) in ap (λ y. y % width s) e ∙ mod-mul-add 0 (width s) v l

  root_atom : (v i : ℕ) → v < width s → root s (atom s v i) ≡ v
  root_atom v i l =
      let c = mul_comm (width s) (i + 1) in
      let e : v + width s * (i + 1) ≡ (i + 1) * width s + v = omega (arith, c) in
      ap (λ y. y % width s) e ∙ mod-mul-add (i + 1) (width s) v l

  clear : (w : ℕ) → dead (root s w) ≡ true → (plus_all (map (places w) s.parts)).invariant ≡ 0
  clear w d = elim (lt_cases w (width s)) [
    | inl a ↦
        (let k : kind s w ≡ diagonal = dead_diagonal (kind s w) (is_nil (picked ps w)) (sym (ap dead (root_of w a)) ∙ d) in
        diagonal_places s w k)
    | inr b ↦ (all_hidden w s.parts (not_there s.parts (width s) w has_own b)).1
  ]

  -- what stays
  abbrev alive : Ty → Bool
  alive = live dead (root s)

  -- a variable in an upper bound is bound, and so it is not dead
  bound_alive : (ns : List ℕ) → list_all (λ v. nat_lt v (width s)) ns ≡ true → ((w : ℕ) → list_any (nat_eq w) ns ≡ true → kind s w ≡ bound) → list_any dead (map (root s) ns) ≡ false
  bound_alive [] l h = refl
  bound_alive (m ∷ ns) l h =
      let p : nat_lt m (width s) ≡ true = and_l (nat_lt m (width s)) (list_all (λ v. nat_lt v (width s)) ns) l in
      let q : nat_eq m m ≡ true = grind arith in
      let k : kind s m ≡ bound = h m (ap (λ z. z || list_any (nat_eq m) ns) q) in
      let d : dead (root s m) ≡ false = ap dead (root_of m (grind (arith, p))) ∙ ap (λ z. is_diagonal z && is_nil (picked ps m)) k in
      ap (λ z. z || list_any dead (map (root s) ns)) d ∙ bound_alive ns (and_r (nat_lt m (width s)) (list_all (λ v. nat_lt v (width s)) ns) l) (λ w e. h w (later (nat_eq w m) (list_any (nat_eq w) ns) e))
    where
      later : (a b : Bool) → b ≡ true → (a || b) ≡ true
      later true b g = refl
      later false b g = g

  high_alive : (v : ℕ) → v < width s → alive (high s v) ≡ true
  high_alive v l = ap not (bound_alive (vars_in (high s v)) (own_high s own v) (λ w e. kind_stands s w (high_stands v w s.vars l e)))

  -- and so are the alternatives
  alive_carries : Carries (λ t. alive t ≡ true) (λ v. W.Var v ∷ [])
  alive_carries = record {
    union = λ ts p. row_alive ts (sym (live-union dead (root s) ts) ∙ p);
    tuple = λ ts p. row_alive ts (sym (live-tuple dead (root s) ts) ∙ p);
    join = λ us e. live-tuple dead (root s) us ∙ alive_row us e;
    var = λ v p. (p, tt);
  }
    where
      row_alive : (ts : List Ty) → live_row dead (root s) ts ≡ true → Each (λ t. alive t ≡ true) ts
      row_alive [] h = tt
      row_alive (t ∷ ts) h =
          let g = sym (live-cons dead (root s) t ts) ∙ h in
          (and_l (alive t) (live_row dead (root s) ts) g, row_alive ts (and_r (alive t) (live_row dead (root s) ts) g))

      alive_row : (ts : List Ty) → Each (λ t. alive t ≡ true) ts → live_row dead (root s) ts ≡ true
      alive_row [] e = refl
      alive_row (t ∷ ts) e = live-cons dead (root s) t ts ∙ both_true (alive t) (live_row dead (root s) ts) e.0 (alive_row ts e.1)

  all_alive : (ts : List Ty) → Each (λ u. alive u ≡ true) ts → sift alive ts ≡ ts
  all_alive [] e = refl
  all_alive (t ∷ ts) e = ap (λ b. cond b (t ∷ sift alive ts) (sift alive ts)) e.0 ∙ ap (λ z. t ∷ z) (all_alive ts e.1)

  alive_var : (m v : ℕ) → root s m ≡ v → alive (W.Var m) ≡ not (dead v)
  alive_var m v e = ap (λ z. not (list_any dead (map (root s) z))) (vars-var m) ∙ ap (λ z. not (dead z || false)) e ∙ ap not (or_false (dead v))
    where
      or_false : (b : Bool) → (b || false) ≡ b
      or_false true = refl
      or_false false = refl

  atoms_alive : (v i : ℕ) (us : List Ty) → v < width s → dead v ≡ false → sift alive (atoms s v i us) ≡ atoms s v i us
  atoms_alive v i [] l d = refl
  atoms_alive v i (u ∷ us) l d =
      ap (λ b. cond b (W.Var (atom s v i) ∷ sift alive (atoms s v (i + 1) us)) (sift alive (atoms s v (i + 1) us))) (alive_var (atom s v i) v (root_atom v i l) ∙ ap not d)
      ∙ ap (λ z. W.Var (atom s v i) ∷ z) (atoms_alive v (i + 1) us l d)

  place_alive : (v : ℕ) (k : model.Kind) (us : List Ty) → v < width s → kind s v ≡ k → picked ps v ≡ us → place_by s v k (alts (high s v)) us ≡ sift alive (place_of s v k)
  place_alive v unused us l e p = refl
  place_alive v once us l e p = sym (all_alive (alts (high s v)) (forms_have (λ t. alive t ≡ true) (λ v. W.Var v ∷ []) alive_carries (high s v) (high_alive v l)))
  place_alive v diagonal [] l e p =
      let d : dead v ≡ true = ap (λ z. is_diagonal z && is_nil (picked ps v)) e ∙ ap is_nil p in
      sym (ap (λ b. cond b (W.Var v ∷ []) []) (alive_var v v (root_of v l) ∙ ap not d))
  place_alive v diagonal (u ∷ us) l e p =
      let d : dead v ≡ false = ap (λ z. is_diagonal z && is_nil (picked ps v)) e ∙ ap is_nil p in
      sym (ap (λ b. cond b (W.Var v ∷ []) []) (alive_var v v (root_of v l) ∙ ap not d))
  place_alive v bound us l e p =
      let d : dead v ≡ false = ap (λ z. is_diagonal z && is_nil (picked ps v)) e in
      sym (atoms_alive v 0 (alts (high s v)) l d)

  abbrev where_they_stand : List (List Ty)
  where_they_stand = each_var (place_in s ps) 0 s.vars

  get_past : (xs : List (List Ty)) (v : ℕ) → length xs ≤ v → get_or xs v [] ≡ []
  get_past [] zero l = refl
  get_past [] (suc v) l = refl
  get_past (x ∷ xs) zero l = absurd (omega arith)
  get_past (x ∷ xs) (suc v) l = get_past xs v (omega arith)

  thin_is : (v : ℕ) → placed where_they_stand v ≡ sift alive (place_of s v (kind s v))
  thin_is v = elim (lt_cases v (width s)) [
    | inl a ↦ (let z : 0 + v ≡ v = omega arith in each-get (place_in s ps) 0 v s.vars [] a ∙ ap (place_in s ps) z ∙ place_alive v (kind s v) (picked ps v) a refl refl)
    | inr b ↦
        (let e = each-long (place_in s ps) 0 s.vars in
        get_past where_they_stand v (omega (arith, e, b)) ∙ sym (ap (λ k. sift alive (place_of s v k)) (past_unused v b)))
  ]

  abbrev F : List Ty → List Listed
  F = rows_with s (picked ps)

  -- a row with a dead variable is none
  dead_in : (ns : List ℕ) → list_any dead ns ≡ true → (u : ℕ) × (list_any (nat_eq u) ns ≡ true) × (dead u ≡ true)
  dead_in [] h = absurd (let f : false ≡ true = h in cc)
  dead_in (m ∷ ns) h = first (dead m) refl (λ g. dead_in ns g)
    where
      first : (b : Bool) → dead m ≡ b → (list_any dead ns ≡ true → (u : ℕ) × (list_any (nat_eq u) ns ≡ true) × (dead u ≡ true)) → (u : ℕ) × (list_any (nat_eq u) (m ∷ ns) ≡ true) × (dead u ≡ true)
      first true e r = let q : nat_eq m m ≡ true = grind arith in (m, ap (λ z. z || list_any (nat_eq m) ns) q, e)
      first false e r =
          let f = r (sym (ap (λ z. z || list_any dead ns) e) ∙ h) in
          (f.0, or_right (nat_eq f.0 m) (list_any (nat_eq f.0) ns) f.1, f.2)
        where
          or_right : (a b : Bool) → b ≡ true → (a || b) ≡ true
          or_right true b g = refl
          or_right false b g = g

  not_true : (b : Bool) → not b ≡ false → b ≡ true
  not_true true h = refl
  not_true false h = absurd (let f : true ≡ false = h in cc)

  nil_is : (us : List Ty) → is_nil us ≡ true → us ≡ []
  nil_is [] h = refl
  nil_is (u ∷ us) h = absurd (let f : false ≡ true = h in cc)

  gone : (r : List Ty) → live_row dead (root s) r ≡ false → F r ≡ []
  gone r h =
      let d = dead_in (map (root s) (flat_map vars_in r)) (not_true (list_any dead (map (root s) (flat_map vars_in r))) h) in
      let k : kind s d.0 ≡ diagonal = dead_diagonal (kind s d.0) (is_nil (picked ps d.0)) d.2 in
      let p : picked ps d.0 ≡ [] = nil_is (picked ps d.0) (and_r (is_diagonal (kind s d.0)) (is_nil (picked ps d.0)) d.2) in
      let e : slot s (picked ps) r d.0 ≡ [] = ap (λ z. cond (is_diagonal z && occurs s d.0 r) (picked ps d.0) (W.Any ∷ [])) k ∙ ap (λ b. cond b (picked ps d.0) (W.Any ∷ [])) d.1 ∙ p in
      ap (map (λ us. record { parts = r; chosen = us })) (each_nil (slot s (picked ps) r) 0 d.0 s.vars (diagonal_below d.0 k) (let z : 0 + d.0 ≡ d.0 = omega arith in ap (slot s (picked ps) r) z ∙ e))

  -- and one without has a choice
  found_dead : (ns : List ℕ) (v : ℕ) → list_any (nat_eq v) ns ≡ true → dead v ≡ true → list_any dead ns ≡ true
  found_dead [] v h d = absurd (let f : false ≡ true = h in cc)
  found_dead (m ∷ ns) v h d = first (nat_eq v m) refl (λ g. found_dead ns v g d)
    where
      first : (b : Bool) → nat_eq v m ≡ b → (list_any (nat_eq v) ns ≡ true → list_any dead ns ≡ true) → list_any dead (m ∷ ns) ≡ true
      first true e r = let q : v ≡ m = grind (arith, e) in ap (λ z. z || list_any dead ns) (ap dead (sym q) ∙ d)
      first false e r = or_right (dead m) (list_any dead ns) (r (sym (ap (λ z. z || list_any (nat_eq v) ns) e) ∙ h))
        where
          or_right : (a b : Bool) → b ≡ true → (a || b) ≡ true
          or_right true b g = refl
          or_right false b g = g

  slot_some : (r : List Ty) (v : ℕ) (k o : Bool) (us : List Ty) → is_diagonal (kind s v) ≡ k → occurs s v r ≡ o → picked ps v ≡ us → live_row dead (root s) r ≡ true → cond (k && o) us (W.Any ∷ []) ≡ [] → ⊥
  slot_some r v true true [] ke oe pe h e =
      let d : dead v ≡ true = ap (λ z. z && is_nil (picked ps v)) ke ∙ ap is_nil pe in
      let f = found_dead (map (root s) (flat_map vars_in r)) v oe d in
      let g : false ≡ true = sym (ap not f) ∙ h in cc
  slot_some r v true true (u ∷ us) ke oe pe h e = let g : u ∷ us ≡ [] = e in cc
  slot_some r v true false us ke oe pe h e = let g : W.Any ∷ [] ≡ [] = e in cc
  slot_some r v false o us ke oe pe h e = let g : W.Any ∷ [] ≡ [] = e in cc

  here : (r : List Ty) → live_row dead (root s) r ≡ true → 1 ≤ length (F r)
  here r h =
      let l = length-map (choices (each_var (slot s (picked ps) r) 0 s.vars)) (λ us. let x : Listed = record { parts = r; chosen = us } in x) in
      let c = each_some (slot s (picked ps) r) 0 s.vars (λ v e. slot_some r v (is_diagonal (kind s v)) (occurs s v r) (picked ps v) refl refl refl h e) in
      omega (arith, l, c)

  abbrev at_places : ℕ → List Ty
  at_places = λ v. place_of s v (kind s v)

  thinned : sift (live_row dead (root s)) (components s) ≡ choices (map (forms (placed where_they_stand)) s.parts)
  thinned =
      live_rows dead (root s) at_places s.parts clear
      ∙ ap (λ z. choices (map (forms z) s.parts)) (let e : (λ v. sift alive (at_places v)) ≡ placed where_they_stand = λ i v. (sym (thin_is v)) i in e)

  -- the rows that are built are all rows
  pub rows_are : rows_from s ps (choices (map (forms (placed where_they_stand)) s.parts)) ≡ all_rows s (picked ps)
  rows_are = ap (rows_from s ps) (sym thinned) ∙ sift-flat (live_row dead (root s)) F gone (components s)

  -- and there are at least as many as choices of parts
  pub rows_are_many : length (choices (map (forms (placed where_they_stand)) s.parts)) ≤ length (all_rows s (picked ps))
  rows_are_many =
      let l = sift_long (live_row dead (root s)) F here (components s) in
      let a = ap (λ z. length z) thinned in
      let b = ap (λ z. length z) (sift-flat (live_row dead (root s)) F gone (components s)) in
      omega (arith, l, a, b)

  pub picks_hold : ArePicked n s (length s.vars) ps → ArePicks n s (picked ps)
  picks_hold a v k = a v (diagonal_below v k) k
