-- A signature with what is kept of it has the kept rows that the walk asks for.
use Rattle.std.proofs.Common.{◌≡◌, ◌∙◌, sym, ap, subst, refl, ℕ, zero, suc, ◌+◌, ◌<◌, ◌≤◌, arith, Bool, true, false, ◌&&◌, ◌||◌, not, nat_lt, List, [], ◌∷◌, ◌++◌, map, length, get_or, ◌⊎◌, inl, inr}
use Rattle.std.specs.List.{flat_map, list_all}
use Rattle.jl_model.specs.declared.ty.Ty.{Ty}
use Rattle.jl_model.specs.declared.ty.Ty.TheOpen.{Any, Union, Tuple, Nominal, Var}
use Rattle.jl_model.specs.declared.ty.Ty.TheViews.{out-Ty, outs-Union, outs-Nominal}
use Rattle.jl_model.specs.declared.ty.Ty.TheViews as V
use Rattle.jl_model.specs.declared.ty.Bound.{Bound}
use Rattle.jl_model.specs.declared.ty.Decl.{Decl}
use Rattle.jl_model.specs.declared.ty.Written.{Written}
use Rattle.jl_model.specs.Ancestors.{table_of}
use Rattle.jl_model.specs.Rows.{free, width, kind, vars_in}
use Rattle.jl_model.specs.Subtype.{Table}
use Rattle.jl_model.specs.Normal.{IsNormalForm, union as normal_union, none as normal_none}
use Rattle.jl_model.specs.Signature.{Both, both_more, is_diagonal}
use Rattle.jl_model.specs.Valid.{is_known, is_closed}
use Rattle.jl_model.specs.Refusals.{Declared, bound_types}
use Rattle.jl_model.specs.SigRefusals.{is_bound, types_in}
use Rattle.jl_model.specs.Counts.{total, nodes}
use Rattle.jl_types.proofs.ExpandLemmas.{nodes-positive}
use Rattle.jl_model.specs.AllRows.{Listed, all_rows, each_var}
use Rattle.jl_model.proofs.PutLemmas.{and_l, and_r}
use Rattle.jl_model.proofs.FormLemmas.{is_nominal, vars-nominal}
use Rattle.jl_model.proofs.SelfLemmas.{equal_self}
use Rattle.jl_types.specs.Form.{Settles, any, var, union, tuple, nominal}
use Rattle.jl_types.proofs.ExistLemmas.{exists}
use Rattle.jl_types.proofs.PartsLemmas.{closed_parts}
use Rattle.jl_sig.specs.declared.sig.Sig.{Sig}
use Rattle.jl_sig.specs.Forms.{IsBoundForm}
use Rattle.jl_sig.specs.Fit.{AreKeptRows as AreKeptListed}
use Rattle.jl_sig.specs.Prepared.{IsKeptOf}
use Rattle.jl_sig.specs.SigParts.{written_of, bounded_of, diagonals_of, rows_of as kept_rows_of}
use Rattle.jl_sig.proofs.BoundLemmas.{low_closed, high_named, bound_at, placed_bounds, placed_parts, bottom_is, named_is, one_form}
use Rattle.jl_sig.proofs.OwnLemmas.{own_high}
use Rattle.jl_match.specs.KeptRow.{AreDiagonals, with_bounds, IsPlainForm, IsNamedForm, IsKeptBound}
use Rattle.jl_match.specs.Listed.{IsKeptSig}
use Rattle.jl_match.specs.SigRows.{AreKeptRows, AreRowsOf}
use Rattle.jl_match.proofs.ComponentLemmas.{none_of, open_args}
use Rattle.jl_match.proofs.KeepLemmas.{kept_kinds}
use Rattle.jl_match.proofs.ListLemmas.{In, in_of}
use Rattle.jl_match.proofs.RowLemmas.{below_or}
use Rattle.jl_match.proofs.RowsLemmas.{rows_of, rows_kept}

pub not_false : (b : Bool) → (b ≡ false → ⊥) → b ≡ true
not_false true h = refl
not_false false h = absurd (h refl)

left_all : (p : Ty → Bool) (ts us : List Ty) → list_all p (ts ++ us) ≡ true → list_all p ts ≡ true
left_all p [] us h = refl
left_all p (t ∷ ts) us h = both (p t) (list_all p ts) (list_all p (ts ++ us)) h (left_all p ts us)
  where
    both : (a b c : Bool) → (a && c) ≡ true → (c ≡ true → b ≡ true) → (a && b) ≡ true
    both true b c h k = k h
    both false b c h k = h

-- a test that all bounds pass the upper bound of a variable passes
pub high_passes : (p : Ty → Bool) (bs : List Bound) → list_all p (bound_types bs) ≡ true → (v : ℕ) → v < length bs → p (get_or bs v free).high ≡ true
high_passes p [] h v l = absurd (omega arith)
high_passes p (b ∷ bs) h v l =
    let r = and_r (p b.low) (p b.high && list_all p (bound_types bs)) h in
    pick v l (and_l (p b.high) (list_all p (bound_types bs)) r) (λ w m. high_passes p bs (and_r (p b.high) (list_all p (bound_types bs)) r) w m)
  where
    pick : (v : ℕ) → v < length (b ∷ bs) → p b.high ≡ true → ((w : ℕ) → w < length bs → p (get_or bs w free).high ≡ true) → p (get_or (b ∷ bs) v free).high ≡ true
    pick zero l e f = e
    pick (suc w) l e f = f w (omega arith)

-- what is put together for the bounds of two signatures
long_bounds : (P : Ty → Ty → Type 0) (bs cs : List Bound) → Both P (bound_types bs) (bound_types cs) → length cs ≡ length bs
long_bounds P [] [] h = refl
long_bounds P [] (c ∷ cs) h = elim h [ ]
long_bounds P (b ∷ bs) [] h = elim h [ ]
long_bounds P (b ∷ bs) (c ∷ cs) (both_more x y xs ys p (both_more u w us ws q h)) = ap suc (long_bounds P bs cs h)

both_bounds : (P : Ty → Ty → Type 0) (bs cs : List Bound) → Both P (bound_types bs) (bound_types cs) → (v : ℕ) → v < length bs
    → P (get_or bs v free).low (get_or cs v free).low × P (get_or bs v free).high (get_or cs v free).high
both_bounds P [] cs h v l = absurd (omega arith)
both_bounds P (b ∷ bs) [] h v l = elim h [ ]
both_bounds P (b ∷ bs) (c ∷ cs) (both_more x y xs ys p (both_more u w us ws q h)) zero l = (p, q)
both_bounds P (b ∷ bs) (c ∷ cs) (both_more x y xs ys p (both_more u w us ws q h)) (suc v) l = both_bounds P bs cs h v (omega arith)

-- variables before one, and none from the count of all on
before_in : (v m : ℕ) (ns : List ℕ) → list_all (λ w. nat_lt w v || not (nat_lt w m)) ns ≡ true → list_all (λ w. nat_lt w m) ns ≡ true → (w : ℕ) → In w ns → w < v
before_in v m [] h k w i = absurd i
before_in v m (n ∷ ns) h k w (inr i) =
    before_in v m ns (and_r (nat_lt n v || not (nat_lt n m)) (list_all (λ w. nat_lt w v || not (nat_lt w m)) ns) h) (and_r (nat_lt n m) (list_all (λ w. nat_lt w m) ns) k) w i
before_in v m (n ∷ ns) h k w (inl e) =
    let a = and_l (nat_lt n v || not (nat_lt n m)) (list_all (λ w. nat_lt w v || not (nat_lt w m)) ns) h in
    let b = and_l (nat_lt n m) (list_all (λ w. nat_lt w m) ns) k in
    let c = either (nat_lt n v) (nat_lt n m) a b in
    subst (λ z. z < v) (sym e) (grind (arith, c))
  where
    either : (x y : Bool) → (x || not y) ≡ true → y ≡ true → x ≡ true
    either true y f g = refl
    either false true f g = let z : false ≡ true = f in cc
    either false false f g = let z : false ≡ true = g in cc

module _ (ds : List Decl) (declared : Declared ds) where
  abbrev n : Table
  n = table_of ds

  -- a bound without variables
  plain_form : (a u : Ty) → IsBoundForm ds a u → is_closed a ≡ true → IsPlainForm ds a u
  plain_form a u f c =
      let r = exists ds declared a in
      let e : r.0 ≡ u = one_form ds declared a r.0 u r.1.form f.form in
      let k : is_closed u ≡ true = subst (λ z. is_closed z ≡ true) e (r.1.kept is_closed closed_parts c) in
      record { closed = none_of (vars_in a) c; plain = record { normal = f.form.normal; known = f.known; closed = none_of (vars_in u) k }; equal = f.form.equal }

  -- one that mentions variables
  bottom_form : (u : Ty) → IsNormalForm n (V.Union []) u → u ≡ V.Union []
  bottom_form u f =
      one_form ds declared (V.Union []) u (V.Union []) f
      (record { normal = normal_union (V.Union []) [] (outs-Union []) normal_none refl tt (λ e. absurd (omega (arith, e))); equal = equal_self n (V.Union []) })

  settled_args : (k : ℕ) (ts : List Ty) (t u : Ty) → t ≡ V.Nominal k ts → Settles (IsNormalForm n) t u → (us : List Ty) × (u ≡ V.Nominal k us) × Both (IsNormalForm n) ts us
  settled_args k ts t u e (any x o) = let f : Nominal k ts ≡ Any = sym (ap out-Ty e ∙ outs-Nominal k ts) ∙ o in cc
  settled_args k ts t u e (var x w o) = let f : Nominal k ts ≡ Var w = sym (ap out-Ty e ∙ outs-Nominal k ts) ∙ o in cc
  settled_args k ts t u e (union x y qs ws o f h) = let g : Nominal k ts ≡ Union qs = sym (ap out-Ty e ∙ outs-Nominal k ts) ∙ o in cc
  settled_args k ts t u e (tuple x y qs ws o f h) = let g : Nominal k ts ≡ Tuple qs = sym (ap out-Ty e ∙ outs-Nominal k ts) ∙ o in cc
  settled_args k ts t u e (nominal x y j qs ws o f h) =
      let g : Nominal k ts ≡ Nominal j qs = sym (ap out-Ty e ∙ outs-Nominal k ts) ∙ o in
      let a : j ≡ k = cc in
      let b : qs ≡ ts = cc in
      (ws, is_nominal u j ws f ∙ ap (λ z. V.Nominal z ws) a, subst (λ z. Both (IsNormalForm n) z ws) b h)

  named_form : (m v : ℕ) (b c : Bound) → is_bound m v b ≡ true → is_closed b.high ≡ false → list_all (λ w. nat_lt w m) (vars_in b.high) ≡ true
      → IsBoundForm ds b.low c.low → IsBoundForm ds b.high c.high → IsNamedForm ds v b c
  named_form m v b c h f own p q =
      let i = high_named m v b h f in
      let low = bottom_is b.low i.bottom in
      let high = named_is b.high i.named in
      let args = settled_args high.0 high.1 b.high c.high high.2 (q.named f) in
      record {
        number = high.0;
        args = high.1;
        forms = args.0;
        is_low = low;
        is_high = high.2;
        kept_low = bottom_form c.low (subst (λ z. IsNormalForm n z c.low) low p.form);
        kept_high = args.1;
        opened = open_args high.1 high.3;
        settled = args.2;
        known = q.known;
        before = λ w d. before_in v m (vars_in b.high) i.before own w (subst (In w) (sym (ap vars_in high.2 ∙ vars-nominal high.0 high.1)) (in_of (flat_map vars_in high.1) w d));
      }

  kept_bound : (m v : ℕ) (b c : Bound) → is_bound m v b ≡ true → list_all (λ w. nat_lt w m) (vars_in b.high) ≡ true → IsBoundForm ds b.low c.low → IsBoundForm ds b.high c.high → IsKeptBound ds v b c
  kept_bound m v b c h own p q = record { low = plain_form b.low c.low p (low_closed m v b h); high = upper (is_closed b.high) refl }
    where
      upper : (d : Bool) → is_closed b.high ≡ d → IsPlainForm ds b.high c.high ⊎ IsNamedForm ds v b c
      upper true e = inl (plain_form b.high c.high q e)
      upper false e = inr (named_form m v b c h e own p q)

  module _ (g : Sig) (h : IsKeptOf ds g) where
    abbrev s : Written
    s = (written_of g)

    bounds_at : (v : ℕ) → v < width s → IsKeptBound ds v (get_or s.vars v free) (get_or (bounded_of g).vars v free)
    bounds_at v l =
        let f = both_bounds (IsBoundForm ds) s.vars (bounded_of g).vars h.bounds v l in
        let e : 0 + v ≡ v = omega arith in
        let b = subst (λ z. is_bound (width s) z (get_or s.vars v free) ≡ true) e (bound_at (width s) 0 s.vars v free (placed_bounds s h.placed.placed) l) in
        kept_bound (width s) v (get_or s.vars v free) (get_or (bounded_of g).vars v free) b (own_high s h.placed.own v) f.0 f.1

    pub kept_sig : IsKeptSig ds s (bounded_of g).vars
    kept_sig = record {
      own = h.placed.own;
      placed = placed_parts s h.placed.placed;
      long = long_bounds (IsBoundForm ds) s.vars (bounded_of g).vars h.bounds;
      known = λ v l. high_passes (is_known (length ds)) s.vars (left_all (is_known (length ds)) (bound_types s.vars) s.parts h.placed.known) v l;
      bounds = bounds_at;
    }

    bounded : with_bounds s (bounded_of g).vars ≡ (bounded_of g)
    bounded = ap (λ (ts : List Ty). let w : Written = record { vars = (bounded_of g).vars; parts = ts } in w) (sym h.parts)

    pub same_kinds : (v : ℕ) → kind (bounded_of g) v ≡ kind s v
    same_kinds v = ap (λ (w : Written). kind w v) (sym bounded) ∙ kept_kinds ds declared s (bounded_of g).vars kept_sig.long bounds_at v

    kept_listed : AreKeptListed ds (all_rows s h.rows.1.picks) (kept_rows_of g)
    kept_listed = subst (λ (rs : List Listed). AreKeptListed ds rs (kept_rows_of g)) h.rows.1.are h.rows.2

    pub sig_rows_kept : AreKeptRows ds (bounded_of g) (kept_rows_of g)
    sig_rows_kept = subst (λ (w : Written). AreKeptRows ds w (kept_rows_of g)) bounded (rows_kept ds declared s (bounded_of g).vars h.rows.1.picks kept_sig h.rows.1.hold (kept_rows_of g) kept_listed)

    pub sig_rows_of : AreRowsOf (table_of ds) s (bounded_of g) (kept_rows_of g)
    sig_rows_of = subst (λ (w : Written). AreRowsOf (table_of ds) s w (kept_rows_of g)) bounded (rows_of ds declared s (bounded_of g).vars h.rows.1.picks kept_sig h.rows.1.hold (kept_rows_of g) kept_listed)

each_long : {A : Type 0} (f : ℕ → A) (i : ℕ) (bs : List Bound) → length (each_var f i bs) ≡ length bs
each_long f i [] = refl
each_long f i (b ∷ bs) = ap suc (each_long f (i + 1) bs)

each_at : {A : Type 0} (f : ℕ → A) (i : ℕ) (bs : List Bound) (d : A) (v : ℕ) → v < length bs → get_or (each_var f i bs) v d ≡ f (i + v)
each_at f i [] d v l = absurd (omega arith)
each_at f i (b ∷ bs) d zero l = ap f (omega arith)
each_at f i (b ∷ bs) d (suc v) l = let e : i + 1 + v ≡ i + suc v = omega arith in each_at f (i + 1) bs d v (omega arith) ∙ ap f e

pub sig_diagonals : (ds : List Decl) (declared : Declared ds) (g : Sig) → IsKeptOf ds g → AreDiagonals (bounded_of g) (diagonals_of g)
sig_diagonals ds declared g h =
    let long = (kept_sig ds declared g h).long in
    let f : ℕ → Bool = λ v. is_diagonal (kind (written_of g) v) in
    let d = h.diagonals in
    record {
      long = ap length d ∙ each_long f 0 (written_of g).vars ∙ sym long;
      kinds = λ v l.
          let z : 0 + v ≡ v = omega arith in
          ap (λ bs. get_or bs v false) d ∙ each_at f 0 (written_of g).vars false v (omega (arith, l, long)) ∙ ap f z ∙ ap is_diagonal (sym (same_kinds ds declared g h v));
    }

bounds_nodes : (bs : List Bound) → length bs ≤ total (map nodes (bound_types bs))
bounds_nodes [] = omega arith
bounds_nodes (b ∷ bs) = let h = bounds_nodes bs in let p = nodes-positive b.low in omega (arith, h, p)

total_append : (ts us : List Ty) → total (map nodes ts) ≤ total (map nodes (ts ++ us))
total_append [] us = omega arith
total_append (t ∷ ts) us = let h = total_append ts us in omega (arith, h)

-- it has few variables
pub few_variables : (ds : List Decl) (g : Sig) → IsKeptOf ds g → length (written_of g).vars ≤ 1024
few_variables ds g h =
    let a = bounds_nodes (written_of g).vars in
    let b = total_append (bound_types (written_of g).vars) (written_of g).parts in
    elim (below_or 1024 (total (map nodes (types_in (written_of g))))) [
      | inl l ↦ absurd (h.small (inl l))
      | inr l ↦ omega (arith, a, b, l)
    ]
