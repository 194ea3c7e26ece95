-- The test of a left row against a right row, with the types found, decides whether it is below.
use Rattle.std.proofs.Common.{◌≡◌, ◌∙◌, sym, ap, subst, refl, ℕ, zero, suc, ◌+◌, ◌*◌, ◌<◌, ◌≤◌, arith, true, false, nat_lt, List, [], ◌∷◌, length, ◌⊎◌, inl, inr}
use Rattle.jl_model.specs.declared.ty.Ty.{Ty}
use Rattle.jl_model.specs.declared.ty.Ty.TheViews as V
use Rattle.jl_model.specs.declared.ty.Ty.TheVariants as W
use Rattle.jl_model.specs.declared.ty.Decl.{Decl}
use Rattle.jl_model.specs.declared.ty.Written.{Written}
use Rattle.jl_model.specs.Ancestors.{table_of}
use Rattle.jl_model.specs.Kinds.{diagonal, bound}
use Rattle.jl_model.specs.Rows.{width, low, high, kind, root, atom, vars_in, Stands, Occurs}
use Rattle.jl_model.specs.Signature.{Row, top, by_kind, is_diagonal, Serves, Meets, Meet, any, tuple, nominal, same, atom as at_atom, raise_tuple, raise_nominal, meet_end, meet_more, RowBelow}
use Rattle.jl_model.specs.Subtype.{Table, Fixed, at, put, Below, Equal}
use Rattle.jl_model.specs.Refusals.{Declared}
use Rattle.jl_model.specs.Found.{found, filled, hits}
use Rattle.jl_model.proofs.TypeInduction.{Each}
use Rattle.jl_model.proofs.FormLemmas.{vars-any}
use Rattle.jl_model.proofs.PutLemmas.{put-closed}
use Rattle.jl_model.proofs.AncestorLemmas.{Lawful}
use Rattle.jl_model.proofs.NormalLemmas.{normal_same}
use Rattle.jl_model.proofs.DeclaredLemmas.{declared_lawful}
use Rattle.jl_sig.specs.declared.row.SigRow.{SigRow}
use Rattle.jl_sig.specs.declared.sig.Sig.{Sig}
use Rattle.jl_sig.specs.SigParts.{kept_of}
use Rattle.jl_search.proofs.KindLemmas.{is_diag, less_or}
use Rattle.jl_search.proofs.HasLemmas.{Has, has_of, has_none}
use Rattle.jl_search.proofs.MeetLemmas.{LeftForms, Laws}
use Rattle.jl_search.proofs.FoundLemmas.{RightRow}
use Rattle.jl_search.proofs.FillLemmas.{long_fill, long_hits}
use Rattle.jl_search.proofs.ValueLaw.{BoundForms, IsNamed, IsBare, IsOut, values, values_over}
use Rattle.jl_subsume.proofs.ScopeLemmas.{occurs_small}
use Rattle.jl_subsig.specs.Side.{row_of, held, sided, IsHighForm, form_plain, form_named, IsSide}
use Rattle.jl_subsig.proofs.OrderLemmas.{before, after}
use Rattle.jl_subsig.proofs.RightLemmas.{right_row, right_bounds}
use Rattle.jl_subsig.proofs.LeftLemmas.{IsLeft, IsValue, lefts, left_forms, left_laws, left_bounds}
use Rattle.jl_subsig.proofs.GroundNone.{none_ground}
use Rattle.jl_subsig.proofs.SideLemmas as S
use Rattle.jl_subsig.proofs.HeldLemmas as H

-- a signature with other bounds
module _ (n : Table) (g : Fixed) (b c : Written) (roots : root b ≡ root c) (kinds : (v : ℕ) → kind b v ≡ kind c v) (f : ℕ → Ty) where
  mutual
    meets_move : (t u : Ty) → Meets n g b f t u → Meets n g c f t u
    meets_move t u (any x y e) = any t u e
    meets_move t u (tuple x y xs ys d e m) = tuple t u xs ys d e (meet_move xs ys m)
    meets_move t u (nominal x y k m xs zs ys d e l q) = nominal t u k m xs zs ys d e l q
    meets_move t u (same x y v e d q) = same t u v e (sym (kinds v) ∙ d) q
    meets_move t u (at_atom x y v e d q) =
        let i : root b v ≡ root c v = ap (λ (h : ℕ → ℕ). h v) roots in
        at_atom t u v e (subst (λ z. kind c z ≡ bound) i (sym (kinds (root b v)) ∙ d)) (subst (λ z. Below n g t (f z)) i q)
    meets_move t u (raise_tuple x y v ys d e m) = raise_tuple t u v ys d e (meets_move (g.high v) u m)
    meets_move t u (raise_nominal x y v k ys d e m) = raise_nominal t u v k ys d e (meets_move (g.high v) u m)

    pub meet_move : (ts us : List Ty) → Meet n g b f ts us → Meet n g c f ts us
    meet_move ts us meet_end = meet_end
    meet_move ts us (meet_more x y xs ys p q) = meet_more x y xs ys (meets_move x y p) (meet_move xs ys q)

-- equal bounds without variables
pub record Same (n : Table) (t u : Ty) : Type 0 where
  pub left : vars_in t ≡ []
  pub right : vars_in u ≡ []
  pub equal : Equal n t u

turn : (n : Table) (t u : Ty) → Same n t u → Same n u t
turn n t u h = record { left = h.right; right = h.left; equal = (h.equal.1, h.equal.0) }

-- such bounds, or one bound
abbrev pub Alike : Table → Ty → Ty → Type 0
Alike n t u = Same n t u ⊎ (t ≡ u)

turned : (n : Table) (t u : Ty) → Alike n t u → Alike n u t
turned n t u (inl h) = inl (turn n t u h)
turned n t u (inr e) = inr (sym e)

module _ (n : Table) (law : Lawful n) (g : Fixed) (b c : Written) (m : Row) (kinds : (v : ℕ) → kind b v ≡ kind c v) (f : ℕ → Ty) where
  below_move : (v : ℕ) (t u : Ty) → Alike n t u → Below n g (f v) (put f t) → Below n g (f v) (put f u)
  below_move v t u (inl e) p = subst (λ z. Below n g (f v) z) (sym (put-closed f u e.right)) (after n law g (f v) t u (subst (λ z. Below n g (f v) z) (put-closed f t e.left) p) e.equal.0)
  below_move v t u (inr e) p = subst (λ z. Below n g (f v) (put f z)) e p

  pub serves_move : ((v : ℕ) → Occurs c v m.parts → Occurs b v m.parts) → ((v : ℕ) → Occurs c v m.parts → Same n (low b v) (low c v)) → ((v : ℕ) → Occurs c v m.parts → Alike n (top b m v) (top c m v)) → Serves n g b m f
      → Serves n g c m f
  serves_move o lows tops h = record {
    least = λ v i.
        let e = lows v i in
        subst (λ z. Below n g z (f v)) (sym (put-closed f (low c v) e.right)) (before n law g (low c v) (low b v) (f v) e.equal.1 (subst (λ z. Below n g z (f v)) (put-closed f (low b v) e.left) (h.least v (o v i))));
    most = λ v i. below_move v (top b m v) (top c m v) (tops v i) (h.most v (o v i));
    sure = λ v i d. h.sure v (o v i) (kinds v ∙ d);
  }

module _ (ds : List Decl) (declared : Declared ds) (s : Sig) (r : SigRow) (side : IsSide ds s r) (o : Sig) (q : SigRow) (other : IsSide ds o q) where
  abbrev pub f : ℕ → Ty
  f = found (table_of ds) (held s r) (sided o) (row_of q) r.parts

  law : Lawful (table_of ds)
  law = declared_lawful ds declared

  -- with the bounds of the right signature in normal form
  abbrev b : Written
  b = kept_of o

  abbrev c : Written
  c = sided o

  abbrev m : Row
  m = row_of q

  roots : root c ≡ root b
  roots = S.root_same ds declared o q other

  root_at : (v : ℕ) → root c v ≡ root b v
  root_at v = ap (λ (h : ℕ → ℕ). h v) roots

  kinds : (v : ℕ) → kind c v ≡ kind b v
  kinds = other.held.kinds

  atom_at : (v : ℕ) → atom c v 0 ≡ atom b v 0
  atom_at v = ap (λ w. v + w * (0 + 1)) other.held.wide

  small : (v : ℕ) → Occurs b v q.parts → v < width b
  small v i = occurs_small b other.scoped (table_of ds) m other.row v i

  lows : (v : ℕ) → Occurs b v q.parts → Same (table_of ds) (low b v) (low c v)
  lows v i = let p = other.held.lows v (small v i) in record { left = p.closed; right = p.plain.closed; equal = p.equal }

  high_alike : (t u : Ty) → IsHighForm ds t u → Alike (table_of ds) t u
  high_alike t u (form_plain x y p) = inl (record { left = p.closed; right = p.plain.closed; equal = p.equal })
  high_alike t u (form_named x p) = inr refl

  -- what stands for a variable in the row, else its upper bound
  diagonal_tops : (v : ℕ) → kind b v ≡ diagonal → top b m v ≡ top c m v
  diagonal_tops v k = ap (λ z. by_kind z (at q.chosen v) (high b v)) k ∙ sym (ap (λ z. by_kind z (at q.chosen v) (high c v)) (kinds v ∙ k))

  other_top : (s2 : Written) (v : ℕ) → is_diagonal (kind s2 v) ≡ false → top s2 m v ≡ high s2 v
  other_top s2 v d = H.other_kind (kind s2 v) (at q.chosen v) (high s2 v) d

  not_diagonal : (v : ℕ) → is_diagonal (kind b v) ≡ false → is_diagonal (kind c v) ≡ false
  not_diagonal v d = ap is_diagonal (kinds v) ∙ d

  tops_by : (v : ℕ) → v < width b → Alike (table_of ds) (top b m v) (top c m v)
  tops_by v l = elim (H.true_or (is_diagonal (kind b v))) [
    | inl d ↦ inr (diagonal_tops v (is_diag (kind b v) d))
    | inr d ↦
        subst (λ z. Alike (table_of ds) z (top c m v)) (sym (other_top b v d))
        (subst (λ z. Alike (table_of ds) (high b v) z) (sym (other_top c v (not_diagonal v d))) (high_alike (high b v) (high c v) (other.held.highs v l)))
  ]

  tops : (v : ℕ) → Occurs b v q.parts → Alike (table_of ds) (top b m v) (top c m v)
  tops v i = tops_by v (small v i)

  top_vars : (v : ℕ) → vars_in (top c m v) ≡ vars_in (top b m v)
  top_vars v = elim (H.true_or (is_diagonal (kind b v))) [
    | inl d ↦ ap vars_in (sym (diagonal_tops v (is_diag (kind b v) d)))
    | inr d ↦ ap vars_in (other_top c v (not_diagonal v d)) ∙ S.high_vars ds declared o q other v ∙ sym (ap vars_in (other_top b v d))
  ]

  occurs_kept : (v : ℕ) → Occurs c v q.parts → Occurs b v q.parts
  occurs_kept = S.occurs_kept ds declared o q other

  occurs_sided : (v : ℕ) → Occurs b v q.parts → Occurs c v q.parts
  occurs_sided = S.occurs_sided ds declared o q other

  there : (h : ℕ → Ty) → Serves (table_of ds) (held s r) b m h → Serves (table_of ds) (held s r) c m h
  there h x = serves_move (table_of ds) law (held s r) b c m (λ v. sym (kinds v)) h occurs_kept (λ v i. lows v (occurs_kept v i)) (λ v i. tops v (occurs_kept v i)) x

  back : (h : ℕ → Ty) → Serves (table_of ds) (held s r) c m h → Serves (table_of ds) (held s r) b m h
  back h x = serves_move (table_of ds) law (held s r) c b m kinds h occurs_sided (λ v i. turn (table_of ds) (low b v) (low c v) (lows v i)) (λ v i. turned (table_of ds) (top b m v) (top c m v) (tops v i)) x

  -- the right row
  kept_right : RightRow b m
  kept_right = right_row (table_of ds) b other.scoped other.placed m other.row

  right : RightRow c m
  right = record {
    forms = kept_right.forms;
    inner_kind = λ v h. (let p = kept_right.inner_kind v h in (kinds v ∙ p.0, root_at v ∙ p.1));
    places = λ v i. elim (kept_right.places v (S.stands_kept ds declared o q other v i)) [ inl h ↦ inl h | inr w ↦ inr (w.0, w.1, root_at w.0 ∙ w.2) ];
    occur = λ w h. subst (λ z. Stands c z q.parts) (sym (root_at w)) (S.stands_sided ds declared o q other (root b w) (kept_right.occur w h));
    occur_inner = λ v h. S.stands_sided ds declared o q other v (kept_right.occur_inner v h);
    outer_kind = λ w h k. root_at w ∙ kept_right.outer_kind w h (subst (λ z. kind b z ≡ diagonal) (root_at w) (sym (kinds (root c w)) ∙ k));
    diagonal_root = λ w h k. root_at w ∙ kept_right.diagonal_root w h (sym (kinds w) ∙ k);
    range = λ v i. subst (λ z. nat_lt v z ≡ true) (sym other.held.wide) (kept_right.range v (occurs_kept v i));
  }

  low_none : (v : ℕ) → vars_in (low c v) ≡ []
  low_none v = (S.low_sided ds declared o q other v).closed

  atom_root : (v : ℕ) → root b (atom b v 0) ≡ v → root c (atom c v 0) ≡ v
  atom_root v e = root_at (atom c v 0) ∙ ap (root b) (atom_at v) ∙ e

  bare_at : (v : ℕ) → vars_in (high c v) ≡ [] → vars_in (top b m v) ≡ [] → IsBare c m v
  bare_at v h t = record { high_none = h; top_none = top_vars v ∙ t; low_none = low_none v }

  bottom_at : (v : ℕ) → v < width b → low b v ≡ V.Union [] → low c v ≡ V.Union []
  bottom_at v l e =
      let p = other.held.lows v l in
      normal_same (table_of ds) law (low c v) p.plain.normal (V.Union []) (none_ground ds [] refl).normal (subst (λ z. Equal (table_of ds) (low c v) z) e (p.equal.1, p.equal.0))

  named_at : (v : ℕ) → v < width b → IsNamed b m v → high b v ≡ high c v → IsNamed c m v
  named_at v l h e = record {
    number = h.number;
    args = h.args;
    is_high = sym e ∙ h.is_high;
    is_top = elim (H.true_or (is_diagonal (kind b v))) [ inl d ↦ sym (diagonal_tops v (is_diag (kind b v) d)) ∙ h.is_top ∙ e | inr d ↦ other_top c v (not_diagonal v d) ];
    is_low = bottom_at v l h.is_low;
    opened = h.opened;
    before = h.before;
    kinds = λ w i. kinds w ∙ h.kinds w i;
    atom_root = atom_root v h.atom_root;
    atom_kind = λ k. h.atom_kind (subst (λ z. kind b z ≡ diagonal) (atom_at v) (sym (kinds (atom c v 0)) ∙ k));
    one_atom = λ w i j k. h.one_atom w i (sym (root_at w) ∙ j) (sym (kinds v) ∙ k) ∙ sym (atom_at v);
  }

  named_by : (v : ℕ) → v < width b → IsNamed b m v → (t u : Ty) → t ≡ high b v → u ≡ high c v → IsHighForm ds t u → IsNamed c m v ⊎ IsBare c m v
  named_by v l h t u d e (form_plain x y p) =
      inr (bare_at v (ap vars_in (sym e) ∙ p.plain.closed) (ap vars_in (h.is_top ∙ sym d) ∙ p.closed))
  named_by v l h t u d e (form_named x p) = inl (named_at v l h (sym d ∙ e))

  bounds : (v : ℕ) → v < width c → (IsNamed c m v ⊎ IsBare c m v) ⊎ IsOut c m v
  bounds v i =
      let l : v < width b = subst (λ z. v < z) other.held.wide i in
      elim (right_bounds (table_of ds) b other.scoped other.placed m other.row v l) [
        | inl x ↦ inl (elim x [
          | inl h ↦ named_by v l h (high b v) (high c v) refl refl (other.held.highs v l)
          | inr h ↦ inr (bare_at v (S.high_vars ds declared o q other v ∙ h.high_none) h.top_none)
        ])
        | inr h ↦ inr (record { absent = λ y. h.absent (occurs_kept v y); top_none = top_vars v ∙ h.top_none; low_none = low_none v; atom_root = atom_root v h.atom_root })
      ]

  range : (v : ℕ) → Occurs c v q.parts → v < width c
  range v i = subst (λ z. v < z) (sym other.held.wide) (small v (occurs_kept v i))

  -- the left row
  abbrev P : Ty → Type 0
  P = IsLeft ds declared (kept_of s) side.scoped side.ordered side.normal (row_of r) side.row

  abbrev Q : Ty → Type 0
  Q = IsValue ds declared (kept_of s) side.scoped side.ordered side.normal (row_of r) side.row

  abbrev laws : Laws (table_of ds) (held s r) P
  laws = left_laws ds declared (kept_of s) side.scoped side.ordered side.normal (row_of r) side.row

  abbrev forms : LeftForms (table_of ds) (held s r) P Q
  forms = left_forms ds declared (kept_of s) side.scoped side.ordered side.normal (row_of r) side.row

  abbrev leads : BoundForms (table_of ds) (held s r) P Q
  leads = left_bounds ds declared (kept_of s) side.scoped side.ordered side.normal (row_of r) side.row

  abbrev parts : Each P r.parts
  parts = lefts ds declared (kept_of s) side.scoped side.ordered side.normal (row_of r) side.row

  -- where some types serve, those found serve
  pub complete : RowBelow (table_of ds) (kept_of s) (row_of r) b m → Serves (table_of ds) (held s r) c m f × Meet (table_of ds) (held s r) c f r.parts q.parts
  complete (h, serves, over, meet) =
      values ds declared (held s r) P Q c m r.parts h laws forms leads right parts bounds range (there h serves)
      (meet_move (table_of ds) (held s r) b c (sym roots) (λ v. sym (kinds v)) h r.parts q.parts meet)

  -- what is found is over the left row
  past : (xs : List Ty) (v : ℕ) → length xs ≤ v → at xs v ≡ W.Any
  past [] v l = refl
  past (x ∷ xs) zero l = absurd (omega (arith, l))
  past (x ∷ xs) (suc v) l = past xs v (omega (arith, l))

  over_found : Serves (table_of ds) (held s r) c m f → Meet (table_of ds) (held s r) c f r.parts q.parts → (v : ℕ) → (v < width c) ⊎ (nat_lt v (width c) ≡ false) → (w : ℕ) → Has (vars_in (f v)) w → Occurs (kept_of s) w r.parts
  over_found serves meet v (inl l) w i =
      values_over ds declared (held s r) P Q c m r.parts f laws forms leads right parts bounds range serves meet (λ w. Occurs (kept_of s) w r.parts) (λ t h w i. h.over w i) v l w i
  over_found serves meet v (inr e) w i =
      let hs = hits (table_of ds) (held s r) c m r.parts 0 c.vars in
      let k : width c ≤ v = grind (arith, e) in
      let x : f v ≡ W.Any = past (filled (table_of ds) (held s r) c m r.parts [] hs) v (omega (arith, k, long_fill (table_of ds) (held s r) c m r.parts [] hs, long_hits (table_of ds) (held s r) c m r.parts 0 c.vars)) in
      absurd (has_none (vars_in (f v)) w (ap vars_in x ∙ vars-any) i)

  pub sound : Serves (table_of ds) (held s r) c m f → Meet (table_of ds) (held s r) c f r.parts q.parts → RowBelow (table_of ds) (kept_of s) (row_of r) b m
  sound serves meet = (
    f,
    back f serves,
    (λ v w i. over_found serves meet v (less_or v (width c)) w (has_of (vars_in (f v)) w i)),
    meet_move (table_of ds) (held s r) c b roots kinds f r.parts q.parts meet,
  )
