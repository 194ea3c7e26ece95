-- The listed rows of a signature, as they are kept, are its rows.
use Rattle.std.proofs.Common.{◌≡◌, ◌∙◌, sym, ap, subst, refl, ℕ, zero, suc, ◌<◌, arith, Bool, true, false, ◌&&◌, cond, nat_eq, List, [], ◌∷◌, length, get_or, ◌⊎◌, inl, inr}
use Rattle.jl_model.specs.declared.ty.Ty.{Ty}
use Rattle.jl_model.specs.declared.ty.Ty.TheViews.{outs-Any}
use Rattle.jl_model.specs.declared.ty.Ty.TheViews as V
use Rattle.jl_model.specs.declared.ty.Ty.TheVariants as W
use Rattle.jl_model.specs.declared.ty.Decl.{Decl}
use Rattle.jl_model.specs.declared.ty.Bound.{Bound}
use Rattle.jl_model.specs.declared.ty.Written.{Written}
use Rattle.jl_model.specs.Ancestors.{table_of}
use Rattle.jl_model.specs.Kinds.{Kind, unused, once, diagonal, bound}
use Rattle.jl_model.specs.Rows.{alts, free, width, low, high, kind, vars_in}
use Rattle.jl_model.specs.Subtype.{Table, at, Equal}
use Rattle.jl_model.specs.Signature.{Row, by_kind, top, is_diagonal, Both, both_end, both_more}
use Rattle.jl_model.specs.Normal.{IsNormalForm}
use Rattle.jl_model.specs.Valid.{is_known, is_closed}
use Rattle.jl_model.specs.Refusals.{Declared}
use Rattle.jl_model.specs.AllRows.{ArePicks, occurs, Listed, all_rows}
use Rattle.jl_model.proofs.FormLemmas.{alts-nominal, vars-any}
use Rattle.jl_model.proofs.KnownLemmas.{known-any}
use Rattle.jl_model.proofs.TransLemmas.{equal_trans}
use Rattle.jl_model.proofs.NormalLemmas.{In as Among, first, later, normal_same}
use Rattle.jl_model.proofs.DeclaredLemmas.{declared_lawful}
use Rattle.jl_types.specs.Form.{Settles}
use Rattle.jl_types.proofs.SettleLemmas.{settles_pass}
use Rattle.jl_types.proofs.ExistLemmas.{exists}
use Rattle.jl_types.proofs.KeptLemmas.{alts_pass}
use Rattle.jl_types.proofs.PartsLemmas.{known_parts, closed_parts}
use Rattle.jl_match.specs.KeptRow.{row_of, AreKept, StandsFor, with_bounds}
use Rattle.jl_search.specs.Serving.{IsPlain}
use Rattle.jl_match.specs.SigRows.{kept_row, AreKeptRows, AllStand, SomeStands, AreRowsOf}
use Rattle.jl_match.specs.Listed.{IsKeptSig}
use Rattle.jl_sig.specs.Fit.{IsKeptRow as IsKeptListed, AreKeptRows as AreKeptListed, rows_end as listed_end, rows_more as listed_more}
use Rattle.jl_sig.specs.declared.row.SigRow.{SigRow}
use Rattle.jl_search.proofs.HasLemmas.{Has}
use Rattle.jl_search.proofs.KindLemmas.{is_diag}
use Rattle.jl_search.proofs.ListedLemmas.{IsListed, listed, is_row, row_listed, slot_at, long_row, above_in, only_any, left_true}
use Rattle.jl_match.proofs.TupleLemmas.{each_in}
use Rattle.jl_match.proofs.RowForms.{Form, form_any, plain_alts, only}
use Rattle.jl_match.proofs.KeepLemmas as K
use Rattle.jl_match.proofs.ComponentLemmas.{components_of, none_of}
use Rattle.jl_match.proofs.KindLemmas.{own_only}
use Rattle.jl_match.proofs.RowLemmas.{below_or}

both_long : (P : Ty → Ty → Type 0) (xs ys : List Ty) → Both P xs ys → length xs ≡ length ys
both_long P xs ys both_end = refl
both_long P xs ys (both_more x y vs ws p r) = ap suc (both_long P vs ws r)

at_both : (P : Ty → Ty → Type 0) (xs ys : List Ty) (v : ℕ) → Both P xs ys → v < length xs → P (at xs v) (at ys v)
at_both P xs ys v both_end l = absurd (omega arith)
at_both P xs ys zero (both_more x y vs ws p r) l = p
at_both P xs ys (suc v) (both_more x y vs ws p r) l = at_both P vs ws v r (omega arith)

among_of : (xs : List Ty) (x : Ty) → Has xs x → Among x xs
among_of [] x h = absurd h
among_of (y ∷ ys) x (inl e) = first y ys (sym e)
among_of (y ∷ ys) x (inr h) = later y ys (among_of ys x h)

module _ (ds : List Decl) (declared : Declared ds) (s : Written) (bs : List Bound) (picks : ℕ → List Ty) (sig : IsKeptSig ds s bs) (are : ArePicks (table_of ds) s picks) where
  abbrev n : Table
  n = table_of ds

  abbrev t : Written
  t = with_bounds s bs

  small : (v : ℕ) → kind s v ≡ diagonal → v < width s
  small v d = elim (below_or v (width s)) [ inl l ↦ l | inr g ↦ let e : unused ≡ diagonal = sym (own_only s sig.own v g) ∙ d in cc ]

  -- the normal form of a known type is known
  known_form : (a u : Ty) → IsNormalForm n a u → is_known (length ds) a ≡ true → is_known (length ds) u ≡ true
  known_form a u f h =
      let r = exists ds declared a in
      let law = declared_lawful ds declared in
      let e : r.0 ≡ u = normal_same n law r.0 r.1.form.normal u f.normal (equal_trans n law r.0 a u (r.1.form.equal.1, r.1.form.equal.0) f.equal) in
      subst (λ z. is_known (length ds) z ≡ true) e (r.1.kept (is_known (length ds)) (known_parts (length ds)) h)

  plain_of : (a u : Ty) → Form s a → vars_in a ≡ [] → is_known (length ds) a ≡ true → Settles (IsNormalForm n) a u → IsPlain ds u
  plain_of a u f c h k =
      let p = K.part_kept ds declared s a f u k in
      record { normal = p.normal; known = settles_pass (IsNormalForm n) (is_known (length ds)) (known_parts (length ds)) known_form a u k h; closed = p.vars ∙ c }

  closed_test : (a : Ty) → vars_in a ≡ [] → is_closed a ≡ true
  closed_test a e = ap (λ (ns : List ℕ). nat_eq (length ns) 0) e

  alternative_plain : (v : ℕ) (a u : Ty) → v < width s → vars_in (high s v) ≡ [] → Among a (alts (high s v)) → Settles (IsNormalForm n) a u → IsPlain ds u
  alternative_plain v a u l e i k =
      let x = high s v in
      let c : is_closed a ≡ true = each_in (λ z. is_closed z ≡ true) a (alts x) (alts_pass is_closed closed_parts x (closed_test x e)) i in
      let h : is_known (length ds) a ≡ true = each_in (λ z. is_known (length ds) z ≡ true) a (alts x) (alts_pass (is_known (length ds)) (known_parts (length ds)) x (sig.known v l)) i in
      plain_of a u (plain_alts s x e a i) (none_of (vars_in a) c) h k

  -- what is kept of an alternative of an upper bound: plain, or of a bound that mentions variables what is kept of it
  abbrev IsTaken : ℕ → Ty → Type 0
  IsTaken v u = IsPlain ds u ⊎ (u ≡ (get_or bs v free).high)

  alternative_taken : (v : ℕ) (a u : Ty) → v < width s → Among a (alts (high s v)) → Settles (IsNormalForm n) a u → IsTaken v u
  alternative_taken v a u l i k = elim (sig.bounds v l).high [
    | inl p ↦ inl (alternative_plain v a u l p.closed i k)
    | inr m ↦
        let e : a ≡ high s v = only a (V.Nominal m.number m.args) (subst (Among a) (ap alts m.is_high ∙ alts-nominal m.number m.args) i) ∙ sym m.is_high in
        inr (K.settled_named ds declared v (get_or s.vars v free) (get_or bs v free) m u (subst (λ z. Settles (IsNormalForm n) z u) e k))
  ]

  any_plain : (a u : Ty) → a ≡ W.Any → Settles (IsNormalForm n) a u → IsPlain ds u
  any_plain a u e k =
      plain_of W.Any u (form_any W.Any outs-Any) vars-any (known-any (length ds)) (subst (λ z. Settles (IsNormalForm n) z u) e k)

  slot_taken : (row : List Ty) (v : ℕ) (b : Bool) (a u : Ty) → (is_diagonal (kind s v) && occurs s v row) ≡ b → v < width s → Has (cond b (picks v) (W.Any ∷ [])) a → Settles (IsNormalForm n) a u → IsTaken v u
  slot_taken row v true a u e l i k =
      let d = is_diag (kind s v) (left_true (is_diagonal (kind s v)) (occurs s v row) e) in
      alternative_taken v a u l (among_of (alts (high s v)) a (above_in n (low s v) a (alts (high s v)) (picks v) (are v d) i).0) k
  slot_taken row v false a u e l i k = inl (any_plain a u (only_any a i) k)

  kept_of : (l : Listed) (k : SigRow) → IsListed n s small picks are l → IsKeptListed ds l k → AreKept ds s (row_of l.parts l.chosen) bs k.parts k.chosen
  kept_of l k h q = record {
    own = sig.own;
    placed = components_of s.parts sig.placed;
    long = sig.long;
    bounds = sig.bounds;
    plain = λ v i.
        slot_taken l.parts v (is_diagonal (kind s v) && occurs s v l.parts) (at l.chosen v) (at k.chosen v) refl i
        (slot_at n s small picks are l h v i)
        (at_both (Settles (IsNormalForm n)) l.chosen k.chosen v q.chosen (omega (arith, i, long_row n s small picks are l h)));
    chosen = λ v d o.
        let i = small v d in
        K.settled_equal ds declared (at l.chosen v) (at k.chosen v) (at_both (Settles (IsNormalForm n)) l.chosen k.chosen v q.chosen (omega (arith, i, long_row n s small picks are l h)));
    parts = q.parts;
  }

  row_stands : (l : Listed) (k : SigRow) → IsListed n s small picks are l → IsKeptListed ds l k → StandsFor n s t (row_of l.parts l.chosen) (kept_row k)
  row_stands l k h q = K.stands ds declared s (row_of l.parts l.chosen) bs k.parts k.chosen (is_row n s small picks are l h) (kept_of l k h q)

  all_stand : (ls : List Listed) (ks : List SigRow) → ((l : Listed) → Has ls l → IsListed n s small picks are l) → AreKeptListed ds ls ks → AllStand n s t ks
  all_stand ls ks h listed_end = tt
  all_stand ls ks h (listed_more l k ms js q r) =
      let i = h l (inl refl) in
      ((row_of l.parts l.chosen, is_row n s small picks are l i, row_stands l k i q), all_stand ms js (λ m j. h m (inr j)) r)

  all_kept : (ls : List Listed) (ks : List SigRow) → ((l : Listed) → Has ls l → IsListed n s small picks are l) → AreKeptListed ds ls ks → AreKeptRows ds t ks
  all_kept ls ks h listed_end = tt
  all_kept ls ks h (listed_more l k ms js q r) =
      let i = h l (inl refl) in (
        sym (both_long (Settles (IsNormalForm n)) l.chosen k.chosen q.chosen) ∙ long_row n s small picks are l i ∙ sym sig.long,
        K.kept_row ds declared s (row_of l.parts l.chosen) bs k.parts k.chosen (is_row n s small picks are l i) (kept_of l k i q),
        all_kept ms js (λ m j. h m (inr j)) r,
      )

  -- a row with the same parts, and the same alternatives where they count
  abbrev Agrees : Row → List Ty → Type 0
  Agrees r us = (v : ℕ) → kind s v ≡ diagonal → at us v ≡ r.chosen v

  same_top : (r : Row) (us : List Ty) (v : ℕ) (k : Kind) → kind s v ≡ k → Agrees r us → by_kind k (at us v) (high s v) ≡ by_kind k (r.chosen v) (high s v)
  same_top r us v unused e h = refl
  same_top r us v once e h = refl
  same_top r us v diagonal e h = h v e
  same_top r us v bound e h = refl

  stands_too : (r : Row) (us : List Ty) (k : SigRow) → Agrees r us → StandsFor n s t (row_of r.parts us) (kept_row k) → StandsFor n s t r (kept_row k)
  stands_too r us k a h = record {
    width = h.width;
    kinds = h.kinds;
    parts = h.parts;
    low = h.low;
    top = λ v o. subst (λ z. Equal n z (top t (kept_row k) v)) (same_top r us v (kind s v) refl a) (h.top v o);
    stays = h.stays;
    comes = h.comes;
  }

  some_stands : (r : Row) (l : Listed) → l.parts ≡ r.parts → Agrees r l.chosen → (ls : List Listed) (ks : List SigRow) → ((l : Listed) → Has ls l → IsListed n s small picks are l) → AreKeptListed ds ls ks → Has ls l → SomeStands n s t r ks
  some_stands r l e a ls ks h listed_end i = absurd i
  some_stands r l e a ls ks h (listed_more m k ms js q p) (inl f) =
      let b = subst (λ (z : Listed). StandsFor n s t (row_of z.parts z.chosen) (kept_row k)) f (row_stands m k (h m (inl refl)) q) in
      inl (stands_too r l.chosen k a (subst (λ z. StandsFor n s t (row_of z l.chosen) (kept_row k)) e b))
  some_stands r l e a ls ks h (listed_more m k ms js q p) (inr i) = inr (some_stands r l e a ms js (λ z j. h z (inr j)) p i)

  pub rows_of : (ks : List SigRow) → AreKeptListed ds (all_rows s picks) ks → AreRowsOf n s t ks
  rows_of ks h = record {
    each = all_stand (all_rows s picks) ks (listed n s small picks are) h;
    all = λ r row. (let i = row_listed n s small picks are r row in some_stands r i.item i.parts i.chosen (all_rows s picks) ks (listed n s small picks are) h i.has);
  }

  pub rows_kept : (ks : List SigRow) → AreKeptListed ds (all_rows s picks) ks → AreKeptRows ds t ks
  rows_kept ks h = all_kept (all_rows s picks) ks (listed n s small picks are) h
