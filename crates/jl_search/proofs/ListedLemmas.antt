-- All rows of a signature, listed, are its rows.
use Rattle.std.proofs.Common.{◌≡◌, ◌∙◌, sym, ap, subst, refl, ℕ, zero, suc, ◌+◌, ◌<◌, ◌≤◌, arith, Bool, true, false, ◌&&◌, ◌||◌, cond, nat_eq, eqb-true, List, [], ◌∷◌, map, length, inl, inr}
use Rattle.std.specs.List.{flat_map, list_any}
use Rattle.jl_model.specs.declared.ty.Ty.{Ty}
use Rattle.jl_model.specs.declared.ty.Ty.TheVariants as W
use Rattle.jl_model.specs.declared.ty.Bound.{Bound}
use Rattle.jl_model.specs.declared.ty.Written.{Written}
use Rattle.jl_model.specs.Kinds.{diagonal}
use Rattle.jl_model.specs.Rows.{choices, alts, width, low, high, kind, root, components, vars_in, Stands}
use Rattle.jl_model.specs.Subtype.{Table, opaque, at, Below}
use Rattle.jl_model.specs.Signature.{Row, IsRow, is_diagonal}
use Rattle.jl_model.specs.AllRows.{Above, above_end, taken, passed, ArePicks, occurs, slot, each_var, Listed, rows_with, all_rows}
use Rattle.jl_search.proofs.HasLemmas.{Has, Picks, has_map, map_has, has_flat, flat_has, has_of, of_has}
use Rattle.jl_search.proofs.PickLemmas.{has_choices, choices_has}
use Rattle.jl_search.proofs.KindLemmas.{less_or, is_diag}

abbrev pub listed_row : Listed → Row
listed_row l = record { parts = l.parts; chosen = at l.chosen }

-- one choice for each variable
chosen_at : (g : ℕ → List Ty) (i : ℕ) (bs : List Bound) (us : List Ty) → Picks us (each_var g i bs) → (v : ℕ) → v < length bs → Has (g (i + v)) (at us v)
chosen_at g i [] us p v l = absurd (omega arith)
chosen_at g i (b ∷ bs) [] p v l = absurd p
chosen_at g i (b ∷ bs) (u ∷ us) p zero l = let e : i ≡ i + 0 = omega arith in subst (λ k. Has (g k) u) e p.0
chosen_at g i (b ∷ bs) (u ∷ us) p (suc v) l = let e : i + 1 + v ≡ i + suc v = omega arith in subst (λ k. Has (g k) (at us v)) e (chosen_at g (i + 1) bs us p.1 v (omega arith))

chosen_long : (g : ℕ → List Ty) (i : ℕ) (bs : List Bound) (us : List Ty) → Picks us (each_var g i bs) → length us ≡ length bs
chosen_long g i [] [] p = refl
chosen_long g i [] (u ∷ us) p = absurd p
chosen_long g i (b ∷ bs) [] p = absurd p
chosen_long g i (b ∷ bs) (u ∷ us) p = ap suc (chosen_long g (i + 1) bs us p.1)

choose_each : (g : ℕ → List Ty) (h : ℕ → Ty) → ((v : ℕ) → Has (g v) (h v)) → (i : ℕ) (bs : List Bound) → Picks (each_var h i bs) (each_var g i bs)
choose_each g h k i [] = tt
choose_each g h k i (b ∷ bs) = (k i, choose_each g h k (i + 1) bs)

at_each : (h : ℕ → Ty) (i : ℕ) (bs : List Bound) (v : ℕ) → v < length bs → at (each_var h i bs) v ≡ h (i + v)
at_each h i [] v l = absurd (omega arith)
at_each h i (b ∷ bs) zero l = ap h (omega arith)
at_each h i (b ∷ bs) (suc v) l = let e : i + 1 + v ≡ i + suc v = omega arith in at_each h (i + 1) bs v (omega arith) ∙ ap h e

at_past : (us : List Ty) (v : ℕ) → length us ≤ v → at us v ≡ W.Any
at_past [] v l = refl
at_past (u ∷ us) zero l = absurd (omega arith)
at_past (u ∷ us) (suc v) l = at_past us v (omega arith)

-- the test of occurrence
any_in : (v : ℕ) (ns : List ℕ) → list_any (nat_eq v) ns ≡ true → Has ns v
any_in v [] h = let f : false ≡ true = h in cc
any_in v (k ∷ ks) h = pick (nat_eq v k) refl h (λ g. any_in v ks g)
  where
    pick : (b : Bool) → nat_eq v k ≡ b → (b || list_any (nat_eq v) ks) ≡ true → (list_any (nat_eq v) ks ≡ true → Has ks v) → Has (k ∷ ks) v
    pick true e g r = inl (sym (eqb-true v k e))
    pick false e g r = inr (r g)

in_any : (v : ℕ) (ns : List ℕ) → Has ns v → list_any (nat_eq v) ns ≡ true
in_any v [] i = absurd i
in_any v (k ∷ ks) (inl e) = let f : nat_eq v k ≡ true = grind (arith, e) in rw f refl
in_any v (k ∷ ks) (inr i) = let h = in_any v ks i in either (nat_eq v k) (list_any (nat_eq v) ks) h
  where
    either : (b c : Bool) → c ≡ true → (b || c) ≡ true
    either true c h = refl
    either false c h = h

not_true : (b : Bool) → (b ≡ true → ⊥) → b ≡ false
not_true true h = absurd (h refl)
not_true false h = refl

and_false : (b c : Bool) → c ≡ false → (b && c) ≡ false
and_false true c h = h
and_false false c h = refl

pub left_true : (b c : Bool) → (b && c) ≡ true → b ≡ true
left_true true c h = refl
left_true false c h = cc

right_true : (b c : Bool) → (b && c) ≡ true → c ≡ true
right_true true c h = h
right_true false c h = cc

pub above_in : (n : Table) (t x : Ty) (us vs : List Ty) → Above n t us vs → Has vs x → Has us x × Below n opaque t x
above_in n t x us vs above_end i = absurd i
above_in n t x us vs (taken u ws zs b a) (inl e) = (inl e, subst (Below n opaque t) e b)
above_in n t x us vs (taken u ws zs b a) (inr i) = let r = above_in n t x ws zs a i in (inr r.0, r.1)
above_in n t x us vs (passed u ws zs b a) i = let r = above_in n t x ws zs a i in (inr r.0, r.1)

in_above : (n : Table) (t x : Ty) (us vs : List Ty) → Above n t us vs → Has us x → Below n opaque t x → Has vs x
in_above n t x us vs above_end i b = absurd i
in_above n t x us vs (taken u ws zs c a) (inl e) b = inl e
in_above n t x us vs (taken u ws zs c a) (inr i) b = inr (in_above n t x ws zs a i b)
in_above n t x us vs (passed u ws zs c a) (inl e) b = absurd (c (subst (Below n opaque t) (sym e) b))
in_above n t x us vs (passed u ws zs c a) (inr i) b = in_above n t x ws zs a i b

pub only_any : (x : Ty) → Has (W.Any ∷ []) x → x ≡ W.Any
only_any x (inl e) = sym e
only_any x (inr i) = absurd i

-- the diagonal variables of the signature are its own
module _ (n : Table) (s : Written) (small : (v : ℕ) → kind s v ≡ diagonal → v < width s) (picks : ℕ → List Ty) (are : ArePicks n s picks) where
  occurs_true : (row : List Ty) (v : ℕ) → Stands s v row → occurs s v row ≡ true
  occurs_true row v o = in_any v (map (root s) (flat_map vars_in row)) (has_of (map (root s) (flat_map vars_in row)) v o)

  true_occurs : (row : List Ty) (v : ℕ) → occurs s v row ≡ true → Stands s v row
  true_occurs row v h = of_has (map (root s) (flat_map vars_in row)) v (any_in v (map (root s) (flat_map vars_in row)) h)

  -- a listed row
  pub record IsListed (l : Listed) : Type 0 where
    pub among : Has (components s) l.parts
    pub choice : Picks l.chosen (each_var (slot s picks l.parts) 0 s.vars)

  pub listed : (l : Listed) → Has (all_rows s picks) l → IsListed l
  listed l i =
      let r = flat_has (rows_with s picks) (components s) l i in
      let with : List Ty → Listed = λ us. record { parts = r.0; chosen = us } in
      let q = map_has with (choices (each_var (slot s picks r.0) 0 s.vars)) l r.2 in
      subst IsListed q.2 (record { among = r.1; choice = choices_has (each_var (slot s picks r.0) 0 s.vars) q.0 q.1 })

  pub slot_at : (l : Listed) → IsListed l → (v : ℕ) → v < width s → Has (slot s picks l.parts v) (at l.chosen v)
  slot_at l h v i = let e : 0 + v ≡ v = omega arith in subst (λ k. Has (slot s picks l.parts k) (at l.chosen v)) e (chosen_at (slot s picks l.parts) 0 s.vars l.chosen h.choice v i)

  pub long_row : (l : Listed) → IsListed l → length l.chosen ≡ width s
  long_row l h = chosen_long (slot s picks l.parts) 0 s.vars l.chosen h.choice

  -- what stands for a variable that takes nothing
  no_choice : (l : Listed) → IsListed l → (v : ℕ) → (is_diagonal (kind s v) && occurs s v l.parts) ≡ false → at l.chosen v ≡ W.Any
  no_choice l h v e = elim (less_or v (width s)) [
    | inl i ↦ only_any (at l.chosen v) (subst (λ c. Has (cond c (picks v) (W.Any ∷ [])) (at l.chosen v)) e (slot_at l h v i))
    | inr f ↦ at_past l.chosen v (let k : width s ≤ v = grind (arith, f) in omega (arith, k, long_row l h))
  ]

  pub other_any : (l : Listed) → IsListed l → (v : ℕ) → (kind s v ≡ diagonal → ⊥) → at l.chosen v ≡ W.Any
  other_any l h v f = no_choice l h v (ap (λ b. b && occurs s v l.parts) (not_true (is_diagonal (kind s v)) (λ d. f (is_diag (kind s v) d))))

  pub is_row : (l : Listed) → IsListed l → IsRow n s (listed_row l)
  is_row l h = record {
    parts = of_has (components s) l.parts h.among;
    chosen = λ v d o.
        let e : (is_diagonal (kind s v) && occurs s v l.parts) ≡ true = ap (λ k. is_diagonal k && occurs s v l.parts) d ∙ occurs_true l.parts v o in
        let b : Has (picks v) (at l.chosen v) = subst (λ c. Has (cond c (picks v) (W.Any ∷ [])) (at l.chosen v)) e (slot_at l h v (small v d)) in
        let r = above_in n (low s v) (at l.chosen v) (alts (high s v)) (picks v) (are v d) b in
        (of_has (alts (high s v)) (at l.chosen v) r.0, r.1);
    other = λ v f. no_choice l h v (and_false (is_diagonal (kind s v)) (occurs s v l.parts) (not_true (occurs s v l.parts) (λ t. f (true_occurs l.parts v t))));
  }

  -- each row is listed, as far as its choices count
  pick_of : Row → ℕ → Ty
  pick_of r v = cond (is_diagonal (kind s v) && occurs s v r.parts) (r.chosen v) W.Any

  picked : (r : Row) → IsRow n s r → (v : ℕ) (b : Bool) → (is_diagonal (kind s v) && occurs s v r.parts) ≡ b → Has (cond b (picks v) (W.Any ∷ [])) (cond b (r.chosen v) W.Any)
  picked r row v true e =
      let d = is_diag (kind s v) (left_true (is_diagonal (kind s v)) (occurs s v r.parts) e) in
      let o = true_occurs r.parts v (right_true (is_diagonal (kind s v)) (occurs s v r.parts) e) in
      let c = row.chosen v d o in
      in_above n (low s v) (r.chosen v) (alts (high s v)) (picks v) (are v d) (has_of (alts (high s v)) (r.chosen v) c.0) c.1
  picked r row v false e = inl refl

  pub record InList (r : Row) : Type 0 where
    pub item : Listed
    pub has : Has (all_rows s picks) item
    pub parts : item.parts ≡ r.parts
    pub chosen : (v : ℕ) → kind s v ≡ diagonal → at item.chosen v ≡ r.chosen v

  pub row_listed : (r : Row) → IsRow n s r → InList r
  row_listed r row =
      let us = each_var (λ v. cond (is_diagonal (kind s v) && occurs s v r.parts) (r.chosen v) W.Any) 0 s.vars in
      let with : List Ty → Listed = λ us. record { parts = r.parts; chosen = us } in
      let p = choose_each (slot s picks r.parts) (λ v. cond (is_diagonal (kind s v) && occurs s v r.parts) (r.chosen v) W.Any) (λ v. picked r row v (is_diagonal (kind s v) && occurs s v r.parts) refl) 0 s.vars in
      record {
        item = record { parts = r.parts; chosen = us };
        has = has_flat (rows_with s picks) (components s) r.parts (record { parts = r.parts; chosen = us }) (has_of (components s) r.parts row.parts)
            (has_map with (choices (each_var (slot s picks r.parts) 0 s.vars)) us (has_choices (each_var (slot s picks r.parts) 0 s.vars) us p));
        parts = refl;
        chosen = λ v d.
            let e : 0 + v ≡ v = omega arith in
            let f : ℕ → Ty = λ v. cond (is_diagonal (kind s v) && occurs s v r.parts) (r.chosen v) W.Any in
            at_each f 0 s.vars v (small v d) ∙ ap f e ∙ taken_one r row v d (occurs s v r.parts) refl;
      }
    where
      taken_one : (r : Row) → IsRow n s r → (v : ℕ) → kind s v ≡ diagonal → (b : Bool) → occurs s v r.parts ≡ b → cond (is_diagonal (kind s v) && occurs s v r.parts) (r.chosen v) W.Any ≡ r.chosen v
      taken_one r row v d true e = ap (λ c. cond c (r.chosen v) W.Any) (ap (λ k. is_diagonal k && occurs s v r.parts) d ∙ e)
      taken_one r row v d false e =
          ap (λ c. cond c (r.chosen v) W.Any) (ap (λ k. is_diagonal k && occurs s v r.parts) d ∙ e) ∙ sym (row.other v (λ o. (let c : true ≡ false = sym (occurs_true r.parts v o) ∙ e in cc)))
