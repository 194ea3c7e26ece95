-- From the rows that the code builds to all rows.
use Rattle.std.proofs.Common.{◌≡◌, ◌∙◌, sym, ap, refl, ℕ, zero, suc, ◌+◌, Bool, true, false, ◌&&◌, ◌||◌, not, IsTrue, ◌↔◌, cond, [], ◌∷◌, ◌++◌, ◌<◌, ◌≤◌, min, arith, MatchOption, Option, None, Some, List, map, length, length-append}
use Rattle.std.proofs.lemmas.List.{length-map}
use Rattle.jl_model.specs.declared.ty.Ty.{Ty}
use Rattle.jl_model.specs.declared.ty.Bound.{Bound}
use Rattle.jl_model.specs.declared.ty.Decl.{Decl}
use Rattle.jl_model.specs.declared.ty.Written.{Written}
use Rattle.jl_model.specs.Ancestors.{table_of}
use Rattle.std.specs.List.{flat_map, list_any}
use Rattle.std.specs.Option.{is_some}
use Rattle.jl_model.specs.declared.ty.Ty.TheVariants as W
use Rattle.jl_model.specs.Kinds as model
use Rattle.jl_model.specs.Kinds.{unused, once, diagonal, bound}
use Rattle.jl_model.specs.Signature.{is_diagonal}
use Rattle.jl_model.specs.Rows.{alts, choices, components, forms, high, kind, low}
use Rattle.jl_model.specs.Subtype.{Table}
use Rattle.jl_model.specs.SigRefusals.{ManyRows}
use Rattle.jl_model.specs.AllRows.{Listed, ArePicks, all_rows, each_var, occurs, rows_with, slot}
use Rattle.jl_sig.specs.declared.kind.Kind.{Kind}
use Rattle.jl_sig.specs.declared.row.SigRow.{SigRow}
use Rattle.jl_sig.specs.KindIn.{kind_in}
use Rattle.jl_sig.specs.Built.{placed, picked, place_in, listed, rows_from, ArePicked, AreKinds}
use Rattle.jl_sig.specs.Prepared.{IsExpandable, AreAllRows}
use Rattle.jl_sig.proofs.WholeLemmas.{rows_are, rows_are_many, picks_hold, above_same, each_same}

pub match_map : {A : Type 0} (o : Option A) (P Q : Type 0) (R S : A → Type 0) → (P → Q) → ((x : A) → R x → S x) → MatchOption o P R → MatchOption o Q S
match_map None P Q R S f g m = f m
match_map (Some x) P Q R S f g m = g x m

module _ (ds : List Decl) (s : Written) (bounds : List Bound) (b : IsExpandable ds s bounds) (ps pl : List (List Ty)) (a : ArePicked (table_of ds) s (length s.vars) ps) (pe : pl ≡ each_var (place_in s ps) 0 s.vars) where
  n : Table
  n = table_of ds

  held : ArePicks (table_of ds) s (picked ps)
  held = picks_hold (table_of ds) s ps b.own a

  are : rows_from s ps (choices (map (forms (placed pl)) s.parts)) ≡ all_rows s (picked ps)
  are = ap (λ z. rows_from s ps (choices (map (forms (placed z)) s.parts))) pe ∙ rows_are (table_of ds) s ps b.own

  pub many_components : (c : ℕ) (parts : List Ty) → parts ≡ s.parts → c ≡ min (length (choices (map (forms (placed pl)) parts))) 257 → 256 < c → ManyRows (table_of ds) s
  many_components c parts q e l =
      let m = rows_are_many (table_of ds) s ps b.own in
      let f : length (choices (map (forms (placed pl)) parts)) ≡ length (choices (map (forms (placed (each_var (place_in s ps) 0 s.vars))) s.parts)) =
      ap (λ z. length (choices (map (forms (placed pl)) z))) q ∙ ap (λ z. length (choices (map (forms (placed z)) s.parts))) pe in
      (picked ps, held, omega (arith, m, f, e, l))

  pub many_rows : (cs parts : List (List Ty)) (us : List Ty) → us ≡ s.parts → cs ≡ parts → parts ≡ choices (map (forms (placed pl)) us) → 256 < length (rows_from s ps cs) → ManyRows (table_of ds) s
  many_rows cs parts us q c e l =
      let f : rows_from s ps cs ≡ all_rows s (picked ps) = ap (rows_from s ps) (c ∙ e ∙ ap (λ z. choices (map (forms (placed pl)) z)) q) ∙ are in
      let g = ap (λ z. length z) f in
      (picked ps, held, omega (arith, g, l))

  pub these_rows : (cs parts : List (List Ty)) (us : List Ty) (rows : List SigRow) → us ≡ s.parts → cs ≡ parts → parts ≡ choices (map (forms (placed pl)) us) → (map listed rows ≡ rows_from s ps cs) × (length rows ≤ 256)
      → AreAllRows (table_of ds) s (map listed rows)
  these_rows cs parts us rows q c e h =
      let k = length-map rows listed in
      record {
        picks = picked ps;
        hold = held;
        are = h.0 ∙ ap (rows_from s ps) (c ∙ e ∙ ap (λ z. choices (map (forms (placed pl)) z)) q) ∙ are;
        few = omega (arith, k, h.1);
      }

-- where no variable is diagonal each choice of parts is one row
not_any : (f : ℕ → model.Kind) (j : ℕ) (bs : List Bound) → list_any is_diagonal (each_var f j bs) ≡ false → (i : ℕ) → i < length bs → is_diagonal (f (j + i)) ≡ false
not_any f j [] h i l = absurd (omega arith)
not_any f j (b ∷ bs) h zero l = let e : j + 0 ≡ j = omega arith in ap (λ z. is_diagonal (f z)) e ∙ or_l (is_diagonal (f j)) (list_any is_diagonal (each_var f (j + 1) bs)) h
  where
    or_l : (x y : Bool) → (x || y) ≡ false → x ≡ false
    or_l true y g = g
    or_l false y g = refl
not_any f j (b ∷ bs) h (suc i) l =
    let e : j + suc i ≡ (j + 1) + i = omega arith in
    ap (λ z. is_diagonal (f z)) e ∙ not_any f (j + 1) bs (or_r (is_diagonal (f j)) (list_any is_diagonal (each_var f (j + 1) bs)) h) i (omega arith)
  where
    or_r : (x y : Bool) → (x || y) ≡ false → y ≡ false
    or_r true y g = absurd (let f : true ≡ false = g in cc)
    or_r false y g = g

any_kind : (ks : List Kind) → list_any is_diagonal (map kind_in ks) ≡ list_any (λ k. is_diagonal (kind_in k)) ks
any_kind [] = refl
any_kind (k ∷ ks) = ap (λ z. is_diagonal (kind_in k) || z) (any_kind ks)

one_choice : (f : ℕ → List Ty) (j : ℕ) (bs : List Bound) → ((i : ℕ) → i < length bs → f (j + i) ≡ W.Any ∷ []) → (us : List Ty) × (choices (each_var f j bs) ≡ us ∷ [])
one_choice f j [] h = ([], refl)
one_choice f j (b ∷ bs) h =
    let z : j + 0 ≡ j = omega arith in
    let e : f j ≡ W.Any ∷ [] = ap f (sym z) ∙ h 0 (omega arith) in
    let r = one_choice f (j + 1) bs (λ i l. (let y : (j + 1) + i ≡ j + suc i = omega arith in ap f y ∙ h (suc i) (omega (arith, l)))) in
    (W.Any ∷ r.0, ap (λ x. flat_map (λ t. map (λ us. t ∷ us) (choices (each_var f (j + 1) bs))) x) e ∙ ap (λ x. flat_map (λ t. map (λ us. t ∷ us) x) (W.Any ∷ [])) r.1)

module _ (s : Written) (f : ℕ → List Ty) (h : (v : ℕ) → v < length s.vars → is_diagonal (kind s v) ≡ false) where
  one_row : (r : List Ty) → length (rows_with s f r) ≡ 1
  one_row r =
      let c = one_choice (slot s f r) 0 s.vars (λ i l. (let z : 0 + i ≡ i = omega arith in ap (slot s f r) z ∙ ap (λ k. cond (k && occurs s i r) (f i) (W.Any ∷ [])) (h i l))) in
      ap (λ z. length (map (λ us. let x : Listed = record { parts = r; chosen = us } in x) z)) c.1

  row_each : (rs : List (List Ty)) → length (flat_map (rows_with s f) rs) ≡ length rs
  row_each [] = refl
  row_each (r ∷ rs) =
      let a = length-append (rows_with s f r) (flat_map (rows_with s f) rs) in
      let p = one_row r in
      let q = row_each rs in
      omega (arith, a, p, q)

-- all picks give the same rows
pub is_diagonal_kind : (k : model.Kind) → is_diagonal k ≡ true → k ≡ diagonal
is_diagonal_kind unused h = absurd (let f : false ≡ true = h in cc)
is_diagonal_kind once h = absurd (let f : false ≡ true = h in cc)
is_diagonal_kind diagonal h = refl
is_diagonal_kind bound h = absurd (let f : false ≡ true = h in cc)

module _ (t : Table) (s : Written) (f g : ℕ → List Ty) (a : ArePicks t s f) (b : ArePicks t s g) where
  slots_alike : (r : List Ty) (v : ℕ) (k : Bool) → is_diagonal (kind s v) ≡ k → cond (k && occurs s v r) (f v) (W.Any ∷ []) ≡ cond (k && occurs s v r) (g v) (W.Any ∷ [])
  slots_alike r v true e =
      let d : kind s v ≡ diagonal = is_diagonal_kind (kind s v) e in
      ap (λ z. cond (occurs s v r) z (W.Any ∷ [])) (above_same t (low s v) (alts (high s v)) (f v) (g v) (a v d) (b v d))
  slots_alike r v false e = refl

  flat_alike : (rs : List (List Ty)) → flat_map (rows_with s f) rs ≡ flat_map (rows_with s g) rs
  flat_alike [] = refl
  flat_alike (r ∷ rs) =
      ap (λ z. map (λ us. record { parts = r; chosen = us }) (choices z) ++ flat_map (rows_with s f) rs)
      (each_same (slot s f r) (slot s g r) 0 s.vars (λ v. slots_alike r v (is_diagonal (kind s v)) refl))
      ∙ ap (λ z. rows_with s g r ++ z) (flat_alike rs)

  rows_alike : all_rows s f ≡ all_rows s g
  rows_alike = flat_alike (components s)

-- where these are all rows there are not too many
pub not_many : (t : Table) (s : Written) (rs : List Listed) → AreAllRows t s rs → ManyRows t s → ⊥
not_many t s rs h m =
    let e = ap (λ z. length z) (rows_alike t s m.0 h.picks m.1 h.hold) in
    let f = ap (λ z. length z) h.are in
    let l = h.few in
    omega (arith, e, f, l, m.2)

-- the rows are counted by the choices of parts
module _ (ds : List Decl) (s : Written) (bounds : List Bound) (b : IsExpandable ds s bounds) (ps pl : List (List Ty)) (a : ArePicked (table_of ds) s (length s.vars) ps) (pe : pl ≡ each_var (place_in s ps) 0 s.vars)
    (ks : List Kind) (kinds : AreKinds s ks) (none : list_any (λ k. is_diagonal (kind_in k)) ks ≡ false) where
  pub few_choices : (c : ℕ) (parts : List Ty) → parts ≡ s.parts → c ≡ min (length (choices (map (forms (placed pl)) parts))) 257 → c ≤ 256 → ManyRows (table_of ds) s → ⊥
  few_choices c parts q e l m =
      let k : (v : ℕ) → v < length s.vars → is_diagonal (kind s v) ≡ false = λ v lt. (let z : 0 + v ≡ v = omega arith in ap (λ x. is_diagonal (kind s x)) (sym z) ∙ not_any (kind s) 0 s.vars (ap (list_any is_diagonal) (sym kinds) ∙ any_kind ks ∙ none) v lt) in
      let f = ap (λ z. length z) (are ds s bounds b ps pl a pe) in
      let g = row_each s (picked ps) k (choices (map (forms (placed pl)) s.parts)) in
      let r = ap (λ z. length z) (rows_alike (table_of ds) s m.0 (picked ps) m.1 (held ds s bounds b ps pl a pe)) in
      let p = ap (λ z. length (choices (map (forms (placed pl)) z))) q in
      omega (arith, e, l, f, g, r, p, m.2)

-- whether there are more rows than the code makes
pub many_told : (t : Table) (s : Written) {A : Type 0} (o : Option A) (R : A → List Listed) (r : Bool) → MatchOption o (ManyRows t s) (λ rows. AreAllRows t s (R rows)) → is_some o ≡ not r → IsTrue r ↔ ManyRows t s
many_told t s None R true h e = ((λ f. h), (λ m. refl))
many_told t s None R false h e = absurd (let f : false ≡ true = e in cc)
many_told t s (Some x) R true h e = absurd (let f : true ≡ false = e in cc)
many_told t s (Some x) R false h e = ((λ f. absurd (let g : false ≡ true = f in cc)), (λ m. absurd (not_many t s (R x) h m)))
