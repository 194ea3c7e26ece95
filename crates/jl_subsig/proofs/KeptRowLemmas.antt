-- The rows of a signature's kept form are its rows, kept.
use Rattle.std.proofs.Common.{◌≡◌, ◌∙◌, sym, ap, subst, refl, ℕ, ◌%◌, List, [], ◌∷◌, ◌++◌, map, ◌⊎◌, inl, inr}
use Rattle.std.specs.List.{flat_map, Contains}
use Rattle.jl_model.specs.declared.ty.Ty.{Ty}
use Rattle.jl_model.specs.declared.ty.Ty.TheViews.{outs-Any, outs-Union}
use Rattle.jl_model.specs.declared.ty.Ty.TheViews as V
use Rattle.jl_model.specs.declared.ty.Ty.TheVariants as W
use Rattle.jl_model.specs.declared.ty.Decl.{Decl}
use Rattle.jl_model.specs.declared.ty.Written.{Written}
use Rattle.jl_model.specs.Ancestors.{table_of}
use Rattle.jl_model.specs.Kinds.{Kind, unused, once, diagonal, bound}
use Rattle.jl_model.specs.Rows.{alts, low, high, kind, root, components, vars_in, Stands}
use Rattle.jl_model.specs.Signature.{Row, IsRow, Both, both_end, both_more}
use Rattle.jl_model.specs.Subtype.{Table, opaque, Below, Equal}
use Rattle.jl_model.specs.Normal.{IsNormalForm}
use Rattle.jl_model.specs.Refusals.{Declared}
use Rattle.jl_model.proofs.FormLemmas.{is_any, is_union, is_tuple, is_nominal, is_var, vars-tuple, vars-nominal}
use Rattle.jl_model.proofs.AncestorLemmas.{Lawful}
use Rattle.jl_model.proofs.TransLemmas.{below_trans, equal_trans}
use Rattle.jl_model.proofs.NormalLemmas.{normal_same}
use Rattle.jl_model.proofs.DeclaredLemmas.{declared_lawful}
use Rattle.jl_types.specs.Form.{Settles, AllSettle, any, var, union, tuple, nominal, none, more}
use Rattle.jl_types.proofs.SettleLemmas.{Grows, settles_equal}
use Rattle.jl_subsume.specs.Scoped.{IsScoped, IsPlaced}
use Rattle.jl_model.specs.SigRefusals.{is_component}
use Rattle.jl_subsig.specs.Alike.{IsKeptForm, IsKeptRow}
use Rattle.jl_search.proofs.HasLemmas.{Has, has_of, of_has, all_has}
use Rattle.jl_subsume.proofs.ScopeLemmas.{IsSlot, SmallN, components_plain_n, has_or}
use Rattle.jl_subsig.proofs.PairLemmas.{pairs_end, pairs_more, TyPairs, RowPairs, pairs_left, pairs_right, all_of_pairs, alts_pairs, settle_any, settle_var, settle_union, settle_tuple, settle_nominal}
use Rattle.jl_subsig.proofs.RowPairLemmas.{row_component_pairs}
use Rattle.jl_subsig.proofs.MatchLemmas.{Matches, matches_of, lows, highs}
use Rattle.jl_search.proofs.PartLemmas.{Plain, plain_any, plain_tuple, plain_nominal, plain_var, AllPlain, all_end, all_more}
use Rattle.jl_search.specs.Open.{AreOpen}
use Rattle.jl_subsig.proofs.RightLemmas.{Allowed, allowed_seeds, allowed_bound}
use Rattle.jl_subsig.proofs.KeptFormLemmas.{kept_is_alike, forms_vars}

diagonal_or : (k : Kind) → (k ≡ diagonal) ⊎ (k ≡ diagonal → ⊥)
diagonal_or unused = inr (λ e. cc)
diagonal_or once = inr (λ e. cc)
diagonal_or diagonal = inl refl
diagonal_or bound = inr (λ e. cc)

module _ (n : Table) (law : Lawful n) where
  abbrev Form : Ty → Ty → Type 0
  Form = IsNormalForm n

  abbrev A : Ty → Ty → Type 0
  A = Settles Form

  same_form : (t u w : Ty) → Form t u → Form t w → u ≡ w
  same_form t u w p q = normal_same n law u p.normal w q.normal (equal_trans n law u t w (p.equal.1, p.equal.0) q.equal)

  both_same : (ts us ws : List Ty) → Both Form ts us → Both Form ts ws → us ≡ ws
  both_same ts us ws both_end both_end = refl
  both_same ts us ws (both_more t u vs xs p r) (both_more t2 w vs2 ys q s) = let e = same_form t u w p q in let f = both_same vs xs ys r s in rw (e, f) refl

  mutual
    -- a type is kept as one type
    pub kept_once : (t u w : Ty) → A t u → A t w → u ≡ w
    kept_once t u w (any s e) q = sym (is_any w (settle_any Form t w e q) ∙ sym (is_any t e))
    kept_once t u w (var s v e) q = sym (is_var w v (settle_var Form t w v e q) ∙ sym (is_var t v e))
    kept_once t u w (union s x ts us e f p) q = let r = settle_union Form t w ts e q in is_union u us f ∙ ap (λ z. V.Union z) (all_once ts us r.0 p r.2) ∙ sym (is_union w r.0 r.1)
    kept_once t u w (tuple s x ts us e f p) q = let r = settle_tuple Form t w ts e q in is_tuple u us f ∙ ap (λ z. V.Tuple z) (all_once ts us r.0 p r.2) ∙ sym (is_tuple w r.0 r.1)
    kept_once t u w (nominal s x k ts us e f p) q = let r = settle_nominal Form t w k ts e q in is_nominal u k us f ∙ ap (λ z. V.Nominal k z) (both_same ts us r.0 p r.2) ∙ sym (is_nominal w k r.0 r.1)

    all_once : (ts us ws : List Ty) → AllSettle Form ts us → AllSettle Form ts ws → us ≡ ws
    all_once ts us ws none none = refl
    all_once ts us ws (more t u vs xs p r) (more t2 w vs2 ys q s) = let e = kept_once t u w p q in let f = all_once vs xs ys r s in rw (e, f) refl

  pairs_once : (ts us ws : List Ty) → TyPairs A ts us → Both A ts ws → us ≡ ws
  pairs_once ts us ws pairs_end both_end = refl
  pairs_once ts us ws (pairs_more t u vs xs p r) (both_more t2 w vs2 ys q s) = let e = kept_once t u w p q in let f = pairs_once vs xs ys r s in rw (e, f) refl

  both_of_pairs : (ts us : List Ty) → TyPairs A ts us → Both A ts us
  both_of_pairs ts us pairs_end = both_end
  both_of_pairs ts us (pairs_more t u vs xs p r) = both_more t u vs xs p (both_of_pairs vs xs r)

  grown : Grows Form (λ t. Unit {0})
  grown = record { any = tt; var = λ v. tt; nominal = λ k ts us b. tt; tuple = λ us e. tt }

  kept_equal : (t u : Ty) → A t u → Equal n t u
  kept_equal t u h = settles_equal n Form (λ x y q. q.equal) (λ t. Unit {0}) grown t u h

  module _ (s k : Written) (match : Matches n s k) (kept : IsKeptForm n s k) (same_vars : (ts us : List Ty) → Has (components s) ts → TyPairs A ts us → flat_map vars_in ts ≡ flat_map vars_in us) where
    kept_low : (v : ℕ) → A (low s v) (low k v)
    kept_low = lows A (union (V.Union []) (V.Union []) [] [] (outs-Union []) (outs-Union []) none) s.vars k.vars kept.bounds

    kept_high : (v : ℕ) → A (high s v) (high k v)
    kept_high = highs A (any W.Any outs-Any) s.vars k.vars kept.bounds

    rows : RowPairs A (components s) (components k)
    rows = row_component_pairs Form s k match.width kept_high match.kinds kept.parts

    names_same : (ts us : List Ty) → Has (components s) ts → TyPairs A ts us → map (root s) (flat_map vars_in ts) ≡ map (root k) (flat_map vars_in us)
    names_same ts us h p = ap (map (root s)) (same_vars ts us h p) ∙ roots_same (flat_map vars_in us)
      where
        roots_same : (ns : List ℕ) → map (root s) ns ≡ map (root k) ns
        roots_same [] = refl
        roots_same (m ∷ ns) = let e : root s m ≡ root k m = ap (λ z. m % z) match.width in let f = roots_same ns in rw (e, f) refl

    below_kept : (v : ℕ) (t u : Ty) → A t u → Below n opaque (low s v) t → Below n opaque (low k v) u
    below_kept v t u p b = below_trans n law (low k v) (low s v) u (kept_equal (low s v) (low k v) (kept_low v)).1 (below_trans n law (low s v) t u b (kept_equal t u p).0)

    below_back : (v : ℕ) (t u : Ty) → A t u → Below n opaque (low k v) u → Below n opaque (low s v) t
    below_back v t u p b = below_trans n law (low s v) (low k v) t (kept_equal (low s v) (low k v) (kept_low v)).0 (below_trans n law (low k v) u t b (kept_equal t u p).1)

    -- a row, kept, is a row of the kept form
    pub row_kept : (r q : Row) → IsRow n s r → IsKeptRow n s r q → IsRow n k q
    row_kept r q row h =
        let c = pairs_right (List Ty) (List Ty) (TyPairs A) (components s) (components k) r.parts rows (has_of (components s) r.parts row.parts) in
        let e : c.0 ≡ q.parts = pairs_once r.parts c.0 q.parts c.2 h.parts in
        let names = subst (λ z. map (root s) (flat_map vars_in r.parts) ≡ map (root k) (flat_map vars_in z)) e (names_same r.parts c.0 (has_of (components s) r.parts row.parts) c.2) in
        record {
          parts = of_has (components k) q.parts (subst (λ z. Has (components k) z) e c.1);
          chosen = λ v d o.
              let g = row.chosen v (match.kinds v ∙ d) (subst (λ z. Contains z v) (sym names) o) in
              let u = pairs_right Ty Ty A (alts (high s v)) (alts (high k v)) (r.chosen v) (alts_pairs Form (high s v) (high k v) (kept_high v)) (has_of (alts (high s v)) (r.chosen v) g.0) in
              let e : kind s v ≡ diagonal = match.kinds v ∙ d in
              let i : u.0 ≡ q.chosen v = kept_once (r.chosen v) u.0 (q.chosen v) u.2 (h.chosen v e) in
              (of_has (alts (high k v)) (q.chosen v) (subst (λ z. Has (alts (high k v)) z) i u.1), below_kept v (r.chosen v) (q.chosen v) (h.chosen v e) g.1);
          other = λ v f.
              let g : r.chosen v ≡ W.Any = row.other v (λ o. f (subst (λ z. Contains z v) names o)) in
              elim (diagonal_or (kind s v)) [
                | inl d ↦ is_any (q.chosen v) (settle_any Form W.Any (q.chosen v) outs-Any (subst (λ z. A z (q.chosen v)) g (h.chosen v d)))
                | inr j ↦ sym (h.others v j) ∙ g
              ];
        }

    -- what stood for a variable
    record Took (r : List Ty) (q : Row) (v : ℕ) : Type 0 where
      pub ty : Ty
      pub stays : kind s v ≡ diagonal → A ty (q.chosen v)
      pub others : (kind s v ≡ diagonal → ⊥) → ty ≡ q.chosen v
      pub choice : kind s v ≡ diagonal → Stands s v r → Contains (alts (high s v)) ty × Below n opaque (low s v) ty
      pub other : (Stands s v r → ⊥) → ty ≡ W.Any

    module _ (q : Row) (row : IsRow n k q) (ts : List Ty) (names : map (root s) (flat_map vars_in ts) ≡ map (root k) (flat_map vars_in q.parts)) where
      took_none : (v : ℕ) → (Stands s v ts → ⊥) → Took ts q v
      took_none v f =
          let e : q.chosen v ≡ W.Any = row.other v (λ o. f (subst (λ z. Contains z v) (sym names) o)) in
          record { ty = W.Any; stays = λ d. subst (λ z. A W.Any z) (sym e) (any W.Any outs-Any); others = λ g. sym e; choice = λ d o. absurd (f o); other = λ g. refl }

      took_same : (v : ℕ) → Stands s v ts → (kind s v ≡ diagonal → ⊥) → Took ts q v
      took_same v o f = record { ty = q.chosen v; stays = λ d. absurd (f d); others = λ g. refl; choice = λ d i. absurd (f d); other = λ g. absurd (g o) }

      took_one : (v : ℕ) → Stands s v ts → kind s v ≡ diagonal → Took ts q v
      took_one v o d =
          let g = row.chosen v (sym (match.kinds v) ∙ d) (subst (λ z. Contains z v) names o) in
          let u = pairs_left Ty Ty A (alts (high s v)) (alts (high k v)) (q.chosen v) (alts_pairs Form (high s v) (high k v) (kept_high v)) (has_of (alts (high k v)) (q.chosen v) g.0) in
          record { ty = u.0; stays = λ e. u.2; others = λ f. absurd (f d); choice = λ e i. (of_has (alts (high s v)) u.0 u.1, below_back v u.0 (q.chosen v) u.2 g.1); other = λ f. absurd (f o) }

      took : (v : ℕ) → Took ts q v
      took v = elim (has_or (map (root s) (flat_map vars_in ts)) v) [
        | inl h ↦ let o = of_has (map (root s) (flat_map vars_in ts)) v h in elim (diagonal_or (kind s v)) [ inl d ↦ took_one v o d | inr f ↦ took_same v o f ]
        | inr f ↦ took_none v (λ o. f (has_of (map (root s) (flat_map vars_in ts)) v o))
      ]

    -- and each row of the kept form is a row, kept
    pub row_back : (q : Row) → IsRow n k q → (r : Row) × IsRow n s r × IsKeptRow n s r q
    row_back q row =
        let c = pairs_left (List Ty) (List Ty) (TyPairs A) (components s) (components k) q.parts rows (has_of (components k) q.parts row.parts) in
        let t = took q row c.0 (names_same c.0 q.parts c.1 c.2) in (
          record { parts = c.0; chosen = λ v. (t v).ty },
          record { parts = of_has (components s) c.0 c.1; chosen = λ v d o. (t v).choice d o; other = λ v f. (t v).other f },
          record { parts = both_of_pairs c.0 q.parts c.2; chosen = λ v d. (t v).stays d; others = λ v f. (t v).others f },
        )

-- IN THE TABLE OF VALID DECLARATIONS the variables of a kept row are those of the row.
module _ (ds : List Decl) (declared : Declared ds) (D : ℕ → Type 0) (Q : List Ty → Type 0) (arguments : (xs : List Ty) → Q xs → AreOpen xs) where
  mutual
    kept_vars : (t u : Ty) → Plain D Q t → Settles (IsNormalForm (table_of ds)) t u → vars_in t ≡ vars_in u
    kept_vars t u (plain_any x e) h = ap vars_in (is_any t e ∙ sym (is_any u (settle_any (IsNormalForm (table_of ds)) t u e h)))
    kept_vars t u (plain_tuple x ts e p) h =
        let r = settle_tuple (IsNormalForm (table_of ds)) t u ts e h in
        ap vars_in (is_tuple t ts e) ∙ vars-tuple ts ∙ all_kept_vars ts r.0 p r.2 ∙ sym (ap vars_in (is_tuple u r.0 r.1) ∙ vars-tuple r.0)
    kept_vars t u (plain_nominal x k xs e q) h =
        let r = settle_nominal (IsNormalForm (table_of ds)) t u k xs e h in
        ap vars_in (is_nominal t k xs e) ∙ vars-nominal k xs ∙ forms_vars ds declared xs r.0 (arguments xs q) r.2 ∙ sym (ap vars_in (is_nominal u k r.0 r.1) ∙ vars-nominal k r.0)
    kept_vars t u (plain_var x v e d) h = ap vars_in (is_var t v e ∙ sym (is_var u v (settle_var (IsNormalForm (table_of ds)) t u v e h)))

    all_kept_vars : (ts us : List Ty) → AllPlain D Q ts → AllSettle (IsNormalForm (table_of ds)) ts us → flat_map vars_in ts ≡ flat_map vars_in us
    all_kept_vars ts us all_end none = refl
    all_kept_vars ts us (all_more t vs p q) (more t2 u vs2 ws h r) = ap (λ z. z ++ flat_map vars_in vs) (kept_vars t u p h) ∙ ap (λ z. vars_in u ++ z) (all_kept_vars vs ws q r)

module _ (ds : List Decl) (declared : Declared ds) (s k : Written) (scope : IsScoped s) (placed : IsPlaced s) (kept : IsKeptForm (table_of ds) s k) where
  abbrev order : Table
  order = table_of ds

  match : Matches order s k
  match = matches_of order s k (kept_is_alike ds declared s k scope placed kept)

  abbrev Shape : List Ty → Type 0
  Shape = SmallN s scope AreOpen Allowed allowed_seeds (allowed_bound s scope)

  same_vars : (ts us : List Ty) → Has (components s) ts → TyPairs (Settles (IsNormalForm order)) ts us → flat_map vars_in ts ≡ flat_map vars_in us
  same_vars ts us h p =
      all_kept_vars ds declared (IsSlot s) Shape (λ xs q. q.1) ts us
      (components_plain_n s scope AreOpen Allowed allowed_seeds (allowed_bound s scope) ts h (λ t i. inl (all_has is_component s.parts t placed i))) (all_of_pairs (IsNormalForm order) ts us p)

  pub kept_row : (r q : Row) → IsRow order s r → IsKeptRow order s r q → IsRow order k q
  kept_row r q row h = row_kept order (declared_lawful ds declared) s k match kept same_vars r q row h

  pub row_of_kept : (q : Row) → IsRow order k q → (r : Row) × IsRow order s r × IsKeptRow order s r q
  row_of_kept q row = row_back order (declared_lawful ds declared) s k match kept same_vars q row
