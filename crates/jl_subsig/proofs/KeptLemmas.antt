-- Signatures that differ in equal arguments alone have rows that do, and the same order.
use Rattle.std.proofs.Common.{◌≡◌, ◌∙◌, sym, ap, subst, refl, ℕ, ◌-◌, ◌%◌, ◌/◌, Bool, true, false, cond, nat_lt, List, [], ◌∷◌, map, get_or, ◌⊎◌, inl, inr}
use Rattle.std.specs.List.{flat_map, Contains}
use Rattle.jl_model.specs.declared.ty.Ty.{Ty}
use Rattle.jl_model.specs.declared.ty.Ty.TheOpen.{Any, Union}
use Rattle.jl_model.specs.declared.ty.Ty.TheViews.{out-Ty, outs-Any, outs-Union}
use Rattle.jl_model.specs.declared.ty.Ty.TheViews as V
use Rattle.jl_model.specs.declared.ty.Ty.TheVariants as W
use Rattle.jl_model.specs.declared.ty.Written.{Written}
use Rattle.jl_model.specs.Kinds.{diagonal}
use Rattle.jl_model.specs.Rows.{alts, width, low, high, kind, root, components, vars_in, Stands, Occurs, standing, bounding}
use Rattle.jl_model.specs.Signature.{Row, IsRow, by_kind, top, fixed, is_diagonal, Serves, Both, both_end, both_more, Applicable, RowBelow, SigBelow}
use Rattle.jl_model.specs.Subtype.{Table, Fixed, opaque, put, Below, Equal, is_concrete}
use Rattle.jl_model.proofs.SelfLemmas.{equal_self}
use Rattle.jl_model.proofs.AncestorLemmas.{Lawful}
use Rattle.jl_model.proofs.TransLemmas.{below_trans}
use Rattle.jl_subsig.specs.Alike.{EqualArguments, Alike, AreAlike}
use Rattle.jl_subsig.proofs.MatchLemmas.{Matches, matches_of}
use Rattle.jl_search.proofs.HasLemmas.{has_of, of_has}
use Rattle.jl_subsume.proofs.ScopeLemmas.{has_or, which}
use Rattle.jl_subsume.proofs.SureLemmas.{Sure, AllSure, sure_end, sure_more, sure_tuple, sure_nominal, sure_var, sure_of, of_sure}
use Rattle.jl_subsig.proofs.OrderLemmas.{before, after}
use Rattle.jl_subsume.proofs.PutBelowLemmas.{put_opaque}
use Rattle.jl_subsig.proofs.PairLemmas.{pairs_end, pairs_more, TyPairs, RowPairs, pairs_right, pairs_get, all_of_pairs, alts_pairs}
use Rattle.jl_subsig.proofs.RowPairLemmas.{row_component_pairs}
use Rattle.jl_subsig.proofs.AlikeLemmas.{alike_equal, alike_vars, alike_self, alike_turned, pairs_vars, pairs_turned, SameFixed, below_there, meet_alike}

module _ (n : Table) where
  both_alike_turned : (ts us : List Ty) → Both (Alike n) ts us → Both (Alike n) us ts
  both_alike_turned ts us both_end = both_end
  both_alike_turned ts us (both_more t u vs ws p r) = both_more u t ws vs (alike_turned n t u p) (both_alike_turned vs ws r)

  pub turned_signatures : (a b : Written) → Matches n a b → Matches n b a
  turned_signatures a b h = record {
    width = sym h.width;
    low = λ v. alike_turned n (low a v) (low b v) (h.low v);
    high = λ v. alike_turned n (high a v) (high b v) (h.high v);
    kinds = λ v. sym (h.kinds v);
    parts = both_alike_turned a.parts b.parts h.parts;
  }

  component_pairs : (a b : Written) → Matches n a b → RowPairs (Alike n) (components a) (components b)
  component_pairs a b h = row_component_pairs (EqualArguments n) a b h.width h.high h.kinds h.parts

  root_same : (a b : Written) → Matches n a b → (v : ℕ) → root a v ≡ root b v
  root_same a b h v = ap (λ z. v % z) h.width

  -- two rows that differ in equal arguments alone
  pub record RowsAlike (a b : Written) (r q : Row) : Type 0 where
    pub parts : TyPairs (Alike n) r.parts q.parts
    pub chosen : (v : ℕ) → Alike n (r.chosen v) (q.chosen v)

  module _ (a b : Written) (h : Matches n a b) where
    names_same : (ts us : List Ty) → TyPairs (Alike n) ts us → map (root a) (flat_map vars_in ts) ≡ map (root b) (flat_map vars_in us)
    names_same ts us p = ap (map (root a)) (pairs_vars n ts us p) ∙ roots_same (flat_map vars_in us)
      where
        roots_same : (ns : List ℕ) → map (root a) ns ≡ map (root b) ns
        roots_same [] = refl
        roots_same (m ∷ ns) = let e = root_same a b h m in let f = roots_same ns in rw (e, f) refl

    stands_there : (ts us : List Ty) → TyPairs (Alike n) ts us → (v : ℕ) → Stands a v ts → Stands b v us
    stands_there ts us p v o = subst (λ z. Contains z v) (names_same ts us p) o

    stands_back : (ts us : List Ty) → TyPairs (Alike n) ts us → (v : ℕ) → Stands b v us → Stands a v ts
    stands_back ts us p v o = subst (λ z. Contains z v) (sym (names_same ts us p)) o

    high_vars : (w : ℕ) → vars_in (high a w) ≡ vars_in (high b w)
    high_vars w = alike_vars n (high a w) (high b w) (h.high w)

    pub occurs_there : (ts us : List Ty) → TyPairs (Alike n) ts us → (v : ℕ) → Occurs a v ts → Occurs b v us
    occurs_there ts us p v (standing x row o) = standing v us (stands_there ts us p v o)
    occurs_there ts us p v (bounding x w row o c) = bounding v w us (occurs_there ts us p w o) (subst (λ z. Contains z v) (high_vars w) c)

    pub occurs_back : (ts us : List Ty) → TyPairs (Alike n) ts us → (v : ℕ) → Occurs b v us → Occurs a v ts
    occurs_back ts us p v (standing x row o) = standing v ts (stands_back ts us p v o)
    occurs_back ts us p v (bounding x w row o c) = bounding v w ts (occurs_back ts us p w o) (subst (λ z. Contains z v) (sym (high_vars w)) c)

    -- what a diagonal variable takes
    record Taken (r : Row) (us : List Ty) (v : ℕ) : Type 0 where
      pub ty : Ty
      pub alike : Alike n (r.chosen v) ty
      pub choice : kind b v ≡ diagonal → Stands b v us → Contains (alts (high b v)) ty × Below n opaque (low b v) ty
      pub other : (Stands b v us → ⊥) → ty ≡ W.Any

    module _ (law : Lawful n) (r : Row) (row : IsRow n a r) (us : List Ty) (p : TyPairs (Alike n) r.parts us) where
      takes : (v : ℕ) → Taken r us v
      takes v = elim (has_or (map (root b) (flat_map vars_in us)) v) [
        | inr f ↦
            let none_there : Stands b v us → ⊥ = λ o. f (has_of (map (root b) (flat_map vars_in us)) v o) in
            let e : r.chosen v ≡ W.Any = row.other v (λ o. none_there (stands_there r.parts us p v o)) in
            record { ty = W.Any; alike = subst (λ z. Alike n z W.Any) (sym e) (alike_self n W.Any); choice = λ d o. absurd (none_there o); other = λ g. refl }
        | inl i ↦
            let o : Stands b v us = of_has (map (root b) (flat_map vars_in us)) v i in
            by_which v o (which (kind a v))
      ]
        where
          by_which : (v : ℕ) → Stands b v us → (kind a v ≡ diagonal) ⊎ ((t u : Ty) → by_kind (kind a v) t u ≡ u) → Taken r us v
          by_which v o (inr f) = record {
            ty = r.chosen v;
            alike = alike_self n (r.chosen v);
            choice = λ d c.
                let k : kind a v ≡ diagonal = h.kinds v ∙ d in
                let e : W.Any ≡ V.Union [] = ap (λ z. by_kind z W.Any (V.Union [])) (sym k) ∙ f W.Any (V.Union []) in
                absurd (differ e);
            other = λ g. absurd (g o);
          }
            where
              differ : W.Any ≡ V.Union [] → ⊥
              differ e = let i : Any ≡ Union [] = sym outs-Any ∙ ap out-Ty e ∙ outs-Union [] in cc
          by_which v o (inl d) =
              let c = row.chosen v d (stands_back r.parts us p v o) in
              let q = pairs_right Ty Ty (Alike n) (alts (high a v)) (alts (high b v)) (r.chosen v) (alts_pairs (EqualArguments n) (high a v) (high b v) (h.high v)) (has_of (alts (high a v)) (r.chosen v) c.0) in
              let below_there : Below n opaque (low b v) q.0 =
              below_trans n law (low b v) (low a v) q.0 (alike_equal n (low a v) (low b v) (h.low v)).1
              (below_trans n law (low a v) (r.chosen v) q.0 c.1 (alike_equal n (r.chosen v) q.0 q.2).0) in
              record { ty = q.0; alike = q.2; choice = λ e i. (of_has (alts (high b v)) q.0 q.1, below_there); other = λ g. absurd (g o) }

    -- a row of the one, and a row of the other
    pub row_there : Lawful n → (r : Row) → IsRow n a r → (q : Row) × IsRow n b q × RowsAlike a b r q
    row_there law r row =
        let c = pairs_right (List Ty) (List Ty) (TyPairs (Alike n)) (components a) (components b) r.parts (component_pairs a b h) (has_of (components a) r.parts row.parts) in
        let t = takes law r row c.0 c.2 in (
          record { parts = c.0; chosen = λ v. (t v).ty },
          record { parts = of_has (components b) c.0 c.1; chosen = λ v d o. (t v).choice d o; other = λ v g. (t v).other g },
          record { parts = c.2; chosen = λ v. (t v).alike },
        )

    top_alike : (r q : Row) → RowsAlike a b r q → (v : ℕ) → Alike n (top a r v) (top b q v)
    top_alike r q x v = subst (λ k. Alike n (top a r v) (by_kind k (q.chosen v) (high b v))) (h.kinds v) (by_which (which (kind a v)))
      where
        by_which : (kind a v ≡ diagonal) ⊎ ((t u : Ty) → by_kind (kind a v) t u ≡ u) → Alike n (top a r v) (by_kind (kind a v) (q.chosen v) (high b v))
        by_which (inl d) = rw d (x.chosen v)
        by_which (inr f) = let e = f (r.chosen v) (high a v) in let g = f (q.chosen v) (high b v) in rw (e, g) (h.high v)

    -- the rows' variables, held fixed
    pub fixed_same : (r q : Row) → RowsAlike a b r q → SameFixed n (fixed a r) (fixed b q)
    fixed_same r q x = record { low = lows; high = highs; root = root_same a b h }
      where
        lows : (v : ℕ) → Equal n ((fixed a r).low v) ((fixed b q).low v)
        lows v =
            let w = h.width in
            subst (λ z. Equal n ((fixed a r).low v) (cond (nat_lt v z) (low b v) (V.Union []))) w (by_test (nat_lt v (width a)))
          where
            by_test : (c : Bool) → Equal n (cond c (low a v) (V.Union [])) (cond c (low b v) (V.Union []))
            by_test true = alike_equal n (low a v) (low b v) (h.low v)
            by_test false = equal_self n (V.Union [])

        highs : (k : ℕ) → Alike n ((fixed a r).high k) ((fixed b q).high k)
        highs k =
            let w = h.width in
            subst (λ z. Alike n ((fixed a r).high k) (cond (nat_lt k z) (top b q k) (get_or (alts (high b (k % z))) (k / z - 1) W.Any))) w (by_test (nat_lt k (width a)))
          where
            by_test : (c : Bool) → Alike n (cond c (top a r k) (get_or (alts (high a (k % width a))) (k / width a - 1) W.Any)) (cond c (top b q k) (get_or (alts (high b (k % width a))) (k / width a - 1) W.Any))
            by_test true = top_alike r q x k
            by_test false =
                let v = k % width a in
                pairs_get Ty Ty (Alike n) (alts (high a v)) (alts (high b v)) (k / width a - 1) W.Any W.Any (alike_self n W.Any) (alts_pairs (EqualArguments n) (high a v) (high b v) (h.high v))

-- concrete over variables that are concrete alike
module _ (n : Table) (g h : Fixed) (sures : (k : ℕ) → g.sure k ≡ h.sure k) where
  mutual
    sure_there : (t : Ty) → Sure n g t → Sure n h t
    sure_there t (sure_tuple s ts e p) = sure_tuple t ts e (all_there ts p)
    sure_there t (sure_nominal s k xs e p) = sure_nominal t k xs e p
    sure_there t (sure_var s v e p) = sure_var t v e (sym (sures v) ∙ p)

    all_there : (ts : List Ty) → AllSure n g ts → AllSure n h ts
    all_there ts sure_end = sure_end
    all_there ts (sure_more t us p r) = sure_more t us (sure_there t p) (all_there us r)

  pub concrete_there : (t : Ty) → is_concrete n g t ≡ true → is_concrete n h t ≡ true
  concrete_there t e = of_sure n h t (sure_there t (sure_of n g t e))

module _ (n : Table) (law : Lawful n) where
  -- what serves for a row serves for the other
  serves_there : (b b2 : Written) → Matches n b b2 → (r r2 : Row) → RowsAlike n b b2 r r2 → (g h : Fixed) → SameFixed n g h → ((k : ℕ) → g.sure k ≡ h.sure k) → (f : ℕ → Ty) → Serves n g b r f → Serves n h b2 r2 f
  serves_there b b2 x r r2 y g h s sures f w = record {
    least = λ v o.
        let c = below_there n law g h s (put f (low b v)) (f v) (w.least v (occurs_back n b b2 x r.parts r2.parts y.parts v o)) in
        before n law h (put f (low b2 v)) (put f (low b v)) (f v) (put_opaque n law f (low b2 v) (low b v) (alike_equal n (low b v) (low b2 v) (x.low v)).1) c;
    most = λ v o.
        let c = below_there n law g h s (f v) (put f (top b r v)) (w.most v (occurs_back n b b2 x r.parts r2.parts y.parts v o)) in
        after n law h (f v) (put f (top b r v)) (put f (top b2 r2 v)) c
        (put_opaque n law f (top b r v) (top b2 r2 v) (alike_equal n (top b r v) (top b2 r2 v) (top_alike n b b2 x r r2 y v)).0);
    sure = λ v o d. concrete_there n g h sures (f v) (w.sure v (occurs_back n b b2 x r.parts r2.parts y.parts v o) (x.kinds v ∙ d));
  }

  pub sig_below_alike : (a a2 b b2 : Written) → Matches n a a2 → Matches n b b2 → SigBelow n a b → SigBelow n a2 b2
  sig_below_alike a a2 b b2 x y order l2 row2 =
      let back = turned_signatures n a a2 x in
      let q = row_there n a2 a back law l2 row2 in
      let rows : RowsAlike n a a2 q.0 l2 = record { parts = pairs_turned n l2.parts q.0.parts q.2.parts; chosen = λ v. alike_turned n (l2.chosen v) (q.0.chosen v) (q.2.chosen v) } in
      let s = order q.0 q.1 in
      let w : RowBelow n a q.0 b s.0 = s.2 in
      let t = row_there n b b2 y law s.0 s.1 in
      let same = fixed_same n a a2 x q.0 l2 rows in
      let sures : (k : ℕ) → is_diagonal (kind a k) ≡ is_diagonal (kind a2 k) = λ k. ap is_diagonal (x.kinds k) in (
        t.0,
        t.1,
        (
          w.0,
          serves_there b b2 y s.0 t.0 t.2 (fixed a q.0) (fixed a2 l2) same sures w.0 w.1,
          λ v m c. occurs_there n a a2 x q.0.parts l2.parts rows.parts m (w.2 v m c),
          meet_alike n law (fixed a q.0) (fixed a2 l2) same b b2 y.kinds (root_same n b b2 y) w.0 q.0.parts s.0.parts l2.parts t.0.parts (all_of_pairs (EqualArguments n) q.0.parts l2.parts rows.parts) (all_of_pairs (EqualArguments n) s.0.parts t.0.parts t.2.parts) w.3,
        ),
      )

  same_opaque : SameFixed n opaque opaque
  same_opaque = record { low = λ v. equal_self n (V.Union []); high = λ v. alike_self n W.Any; root = λ v. refl }

  both_there : (a a2 : Written) → Matches n a a2 → (f : ℕ → Ty) (ts us us2 : List Ty) → TyPairs (Alike n) us us2 → Both (λ t u. Below n opaque t (put (λ v. f (root a v)) u)) ts us → Both (λ t u. Below n opaque t (put (λ v. f (root a2 v)) u)) ts us2
  both_there a a2 x f ts us us2 pairs_end both_end = both_end
  both_there a a2 x f ts us us2 (pairs_more u u2 vs ws p r) (both_more t u3 ss us3 c b) =
      let F : ℕ → Ty = λ v. f (root a v) in
      let d : Below n opaque t (put F u2) = below_trans n law t (put F u) (put F u2) c (put_opaque n law F u u2 (alike_equal n u u2 p).0) in
      let roots : F ≡ (λ v. f (root a2 v)) = λ i v. ap f (root_same n a a2 x v) i in
      both_more t u2 ss ws (subst (λ z. Below n opaque t (put z u2)) roots d) (both_there a a2 x f ss vs ws r b)

  pub applicable_alike : (a a2 : Written) (ts : List Ty) → Matches n a a2 → Applicable n a ts → Applicable n a2 ts
  applicable_alike a a2 ts x (r, f, row, serves, closed, both) =
      let t = row_there n a a2 x law r row in (
        t.0,
        f,
        t.1,
        serves_there a a2 x r t.0 t.2 opaque opaque same_opaque (λ k. refl) f serves,
        closed,
        both_there a a2 x f ts r.parts t.0.parts t.2.parts both,
      )

-- THE LAWS.

pub order_alike : (n : Table) → Lawful n → (a a2 b b2 : Written) → AreAlike n a a2 → AreAlike n b b2 → SigBelow n a b → SigBelow n a2 b2
order_alike n law a a2 b b2 x y = sig_below_alike n law a a2 b b2 (matches_of n a a2 x) (matches_of n b b2 y)

pub types_alike : (n : Table) → Lawful n → (a a2 : Written) (ts : List Ty) → AreAlike n a a2 → Applicable n a ts → Applicable n a2 ts
types_alike n law a a2 ts x = applicable_alike n law a a2 ts (matches_of n a a2 x)
