-- Each kept row below some kept row is each row below some row.
use Rattle.std.proofs.Common.{◌≡◌, ◌∙◌, sym, ap, subst, refl, ℕ, zero, suc, ◌+◌, ◌<◌, ◌/◌, ◌-◌, arith, add-one, cond, nat_lt, List, [], ◌∷◌, length, drop, get_or, inl, inr}
use Rattle.jl_model.specs.declared.ty.Ty.TheVariants as W
use Rattle.jl_model.specs.declared.ty.Decl.{Decl}
use Rattle.jl_model.specs.declared.ty.Written.{Written}
use Rattle.jl_model.specs.Ancestors.{table_of}
use Rattle.jl_model.specs.Kinds.{diagonal}
use Rattle.jl_model.specs.Rows.{alts, width, high, kind, root, Occurs}
use Rattle.jl_model.specs.Signature.{Row, top, by_kind, fixed, is_diagonal, Serves, Meet, RowBelow, SigBelow}
use Rattle.jl_model.specs.Subtype.{Table, put, Below}
use Rattle.jl_model.specs.Refusals.{Declared}
use Rattle.jl_model.proofs.DeclaredLemmas.{declared_lawful}
use Rattle.jl_sig.specs.declared.row.SigRow.{SigRow}
use Rattle.jl_sig.specs.declared.sig.Sig.{Sig}
use Rattle.jl_sig.specs.SigParts.{written_of, kept_of, rows_of}
use Rattle.jl_sig.specs.Prepared.{IsSigOf}
use Rattle.jl_search.proofs.KindLemmas.{is_diag}
use Rattle.jl_subsig.specs.Side.{row_of, IsSide, Every, AnyOf}
use Rattle.jl_search.proofs.HasLemmas.{Has}
use Rattle.jl_subsig.proofs.KeptLemmas.{order_alike, sig_below_alike, turned_signatures}
use Rattle.jl_subsig.proofs.KeptFormLemmas.{kept_is_alike}
use Rattle.jl_subsig.proofs.SigSides as S
use Rattle.jl_subsig.proofs.HeldLemmas as H

-- rows that differ in choices of no account
module _ (a : Written) (l m : Row) (chosen : (v : ℕ) → kind a v ≡ diagonal → l.chosen v ≡ m.chosen v) where
  pub top_same : (v : ℕ) → top a l v ≡ top a m v
  top_same v = elim (H.true_or (is_diagonal (kind a v))) [
    | inl d ↦
        let k = is_diag (kind a v) d in
        ap (λ z. by_kind z (l.chosen v) (high a v)) k ∙ chosen v k ∙ sym (ap (λ z. by_kind z (m.chosen v) (high a v)) k)
    | inr d ↦ H.other_kind (kind a v) (l.chosen v) (high a v) d ∙ sym (H.other_kind (kind a v) (m.chosen v) (high a v) d)
  ]

  fixed_same : fixed a l ≡ fixed a m
  fixed_same = λ i. record { low = (fixed a l).low; high = λ k. cond (nat_lt k (width a)) (top_same k i) (get_or (alts (high a (root a k))) (k / width a - 1) W.Any); root = root a; sure = (fixed a l).sure }

  -- on the left
  pub left_same : (n : Table) (b : Written) (r : Row) → l.parts ≡ m.parts → RowBelow n a l b r → RowBelow n a m b r
  left_same n b r e (f, serves, over, meet) = (
    f,
    subst (λ g. Serves n g b r f) fixed_same serves,
    (λ v w c. subst (λ z. Occurs a w z) e (over v w c)),
    subst (λ z. Meet n (fixed a m) b f z r.parts) e (subst (λ g. Meet n g b f l.parts r.parts) fixed_same meet),
  )

  -- on the right
  pub right_same : (n : Table) (c : Written) (r : Row) → l.parts ≡ m.parts → RowBelow n c r a l → RowBelow n c r a m
  right_same n c r e (f, serves, over, meet) = (
    f,
    record {
      least = λ v o. serves.least v (subst (λ z. Occurs a v z) (sym e) o);
      most = λ v o. subst (λ z. Below n (fixed c r) (f v) (put f z)) (top_same v) (serves.most v (subst (λ z. Occurs a v z) (sym e) o));
      sure = λ v o d. serves.sure v (subst (λ z. Occurs a v z) (sym e) o) d;
    },
    over,
    subst (λ z. Meet n (fixed c r) a f r.parts z) e meet,
  )

-- lists
has_every : {A : Type 0} (P : A → Type 0) (xs : List A) → Every P xs → (x : A) → Has xs x → P x
has_every P [] e x h = absurd h
has_every P (y ∷ ys) e x (inl i) = subst P i e.0
has_every P (y ∷ ys) e x (inr h) = has_every P ys e.1 x h

pub every_has : {A : Type 0} (P : A → Type 0) (xs : List A) → ((x : A) → Has xs x → P x) → Every P xs
every_has P [] h = tt
every_has P (y ∷ ys) h = (h y (inl refl), every_has P ys (λ x i. h x (inr i)))

any_of : {A : Type 0} (P : A → Type 0) (xs : List A) → AnyOf P xs → (x : A) × Has xs x × P x
any_of P [] h = absurd h
any_of P (y ∷ ys) (inl p) = (y, inl refl, p)
any_of P (y ∷ ys) (inr h) = let r = any_of P ys h in (r.0, inr r.1, r.2)

of_any : {A : Type 0} (P : A → Type 0) (xs : List A) (x : A) → Has xs x → P x → AnyOf P xs
of_any P [] x h p = absurd h
of_any P (y ∷ ys) x (inl i) p = inl (subst P (sym i) p)
of_any P (y ∷ ys) x (inr h) p = inr (of_any P ys x h p)

-- one of a list, by its place
pub row-at : (P : SigRow → Type 0) (xs : List SigRow) (i : ℕ) (x : SigRow) → Every P xs → i < length xs → x ≡ get_or xs i x → P x
row-at P [] i x e l f = absurd (omega arith)
row-at P (y ∷ ys) zero x e l f = subst P (sym f) e.0
row-at P (y ∷ ys) (suc i) x e l f = row-at P ys i x e.1 (omega arith) f

pub some_row : (P : SigRow → Type 0) (xs : List SigRow) (i : ℕ) (x : SigRow) → P x → i < length xs → x ≡ get_or xs i x → AnyOf P xs
some_row P [] i x p l f = absurd (omega arith)
some_row P (y ∷ ys) zero x p l f = inl (subst P f p)
some_row P (y ∷ ys) (suc i) x p l f = inr (some_row P ys i x p (omega arith) f)

-- from a place on
pub any_on : (P : SigRow → Type 0) (xs : List SigRow) (i : ℕ) (x : SigRow) → (P x → ⊥) → i < length xs → x ≡ get_or xs i x → AnyOf P (drop i xs) → AnyOf P (drop (i + 1) xs)
any_on P [] i x f l e h = absurd (omega arith)
any_on P (y ∷ ys) zero x f l e (inl p) = absurd (f (subst P (sym e) p))
any_on P (y ∷ ys) zero x f l e (inr h) = h
any_on P (y ∷ ys) (suc i) x f l e h = rw add-one (rw add-one at (any_on P ys i x f (omega arith) e h))

pub every_on : {A : Type 0} (P : A → Type 0) (xs : List A) (i : ℕ) (x : A) → P x → i < length xs → x ≡ get_or xs i x → Every P (drop (i + 1) xs) → Every P (drop i xs)
every_on P [] i x p l e h = absurd (omega arith)
every_on P (y ∷ ys) zero x p l e h = (subst P e p, h)
every_on P (y ∷ ys) (suc i) x p l e h = every_on P ys i x p (omega arith) e (rw add-one (rw add-one at h))

module _ (ds : List Decl) (declared : Declared ds) (g : Sig) (kept : IsSigOf ds g) where
  pub sides : Every (IsSide ds g) (rows_of g)
  sides = every_has (IsSide ds g) (rows_of g) (λ q h. S.side ds declared g kept q h)

module _ (ds : List Decl) (declared : Declared ds) (a : Sig) (akept : IsSigOf ds a) (b : Sig) (bkept : IsSigOf ds b) where
  abbrev pub Rows : Type 0
  Rows = Every (λ k. AnyOf (λ q. RowBelow (table_of ds) (kept_of a) (row_of k) (kept_of b) (row_of q)) (rows_of b)) (rows_of a)

  kept_order : Rows → SigBelow (table_of ds) (kept_of a) (kept_of b)
  kept_order h l row =
      let k = S.all_kept ds declared a akept l row in
      let q = any_of (λ q. RowBelow (table_of ds) (kept_of a) (row_of k.item) (kept_of b) (row_of q)) (rows_of b)
      (has_every (λ k. AnyOf (λ q. RowBelow (table_of ds) (kept_of a) (row_of k) (kept_of b) (row_of q)) (rows_of b)) (rows_of a) h k.item k.has) in
      (row_of q.0, (S.side ds declared b bkept q.0 q.1).row, left_same (kept_of a) (row_of k.item) l k.chosen (table_of ds) (kept_of b) (row_of q.0) k.parts q.2)

  rows_of_order : SigBelow (table_of ds) (kept_of a) (kept_of b) → Rows
  rows_of_order h = every_has (λ k. AnyOf (λ q. RowBelow (table_of ds) (kept_of a) (row_of k) (kept_of b) (row_of q)) (rows_of b)) (rows_of a) (λ k i.
      let r = h (row_of k) (S.side ds declared a akept k i).row in
      let q = S.all_kept ds declared b bkept r.0 r.1 in
      of_any (λ q. RowBelow (table_of ds) (kept_of a) (row_of k) (kept_of b) (row_of q)) (rows_of b) q.item q.has
      (right_same (kept_of b) r.0 (row_of q.item) (λ v d. sym (q.chosen v d)) (table_of ds) (kept_of a) (row_of k) (sym q.parts) r.2))

  pub order_told : Rows → SigBelow (table_of ds) (written_of a) (written_of b)
  order_told h =
      let n = table_of ds in
      sig_below_alike n (declared_lawful ds declared) (kept_of a) (written_of a) (kept_of b) (written_of b) (turned_signatures n (written_of a) (kept_of a) (S.match ds declared a akept))
      (turned_signatures n (written_of b) (kept_of b) (S.match ds declared b bkept)) (kept_order h)

  pub tells_order : SigBelow (table_of ds) (written_of a) (written_of b) → Rows
  tells_order h =
      let n = table_of ds in
      rows_of_order (order_alike n (declared_lawful ds declared) (written_of a) (kept_of a) (written_of b) (kept_of b)
      (kept_is_alike ds declared (written_of a) (kept_of a) (S.scoped ds declared a akept) (S.placed ds declared a akept) (S.form ds declared a akept))
      (kept_is_alike ds declared (written_of b) (kept_of b) (S.scoped ds declared b bkept) (S.placed ds declared b bkept) (S.form ds declared b bkept)) h)
