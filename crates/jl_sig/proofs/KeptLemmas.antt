-- What the code that keeps a signature needs.
use Rattle.std.proofs.Common.{◌≡◌, ◌∙◌, sym, ap, subst, refl, ℕ, zero, suc, ◌+◌, ◌<◌, arith, Bool, true, false, List, [], ◌∷◌, ◌++◌, map, length, drop, get_or, append_assoc, append-nil}
use Rattle.jl_model.specs.declared.ty.Ty.TheViews.{out-Ty}
use Rattle.jl_model.specs.declared.ty.Bound.{Bound}
use Rattle.jl_model.specs.declared.ty.Decl.{Decl}
use Rattle.jl_model.specs.declared.ty.Written.{Written}
use Rattle.jl_model.specs.Kinds as model
use Rattle.jl_model.specs.Rows.{free, high, kind, width}
use Rattle.jl_model.specs.Signature.{Both, both_more, is_diagonal}
use Rattle.jl_model.specs.Refusals.{Declared, bound_types}
use Rattle.jl_model.specs.SigRefusals.{is_bound, are_bounds, named_form, VariablePlace}
use Rattle.jl_model.specs.Valid.{is_closed}
use Rattle.jl_model.specs.AllRows.{each_var}
use Rattle.jl_sig.specs.declared.kind.Kind.{Kind}
use Rattle.jl_sig.specs.declared.row.SigRow.{SigRow}
use Rattle.jl_sig.specs.KindIn.{kind_in}
use Rattle.jl_sig.specs.Built.{listed, AreKinds}
use Rattle.jl_model.proofs.PutLemmas.{and_l, and_r}
use Rattle.jl_types.proofs.PartsLemmas.{closed-any}
use Rattle.jl_sig.specs.Forms.{IsBoundForm}
use Rattle.jl_sig.specs.Fit.{IsFit, AllFit, AllRowsFit, IsKeptAs, IsKeptRow, AreKeptRows, rows_end, rows_more}
use Rattle.jl_sig.specs.Prepared.{AreDiagonals}
use Rattle.jl_sig.proofs.BoundLemmas.{bound_at, low_closed, high_named, placed_bounds, named_normal, one_form}
use Rattle.jl_sig.proofs.FormSteps.{drop_at}

pub bounds_fit : (ds : List Decl) (bs : List Bound) (i : ℕ) (b : Bound) → AllFit ds (bound_types bs) → i < length bs → b ≡ get_or bs i b → IsFit ds b.low × IsFit ds b.high
bounds_fit ds [] i b f l e = absurd (omega arith)
bounds_fit ds (x ∷ xs) zero b f l e = subst (λ (z : Bound). IsFit ds z.low × IsFit ds z.high) (sym e) (f.0, f.1.0)
bounds_fit ds (x ∷ xs) (suc i) b f l e = bounds_fit ds xs i b f.1.1 (omega arith) e

-- the bounds of the variable of this number
bound_placed : (bs : List Bound) (i : ℕ) (b : Bound) → are_bounds (length bs) 0 bs ≡ true → i < length bs → b ≡ get_or bs i b → is_bound (length bs) i b ≡ true
bound_placed bs i b h l e = let z : 0 + i ≡ i = omega arith in ap (is_bound (length bs) i) e ∙ ap (λ j. is_bound (length bs) j (get_or bs i b)) (sym z) ∙ bound_at (length bs) 0 bs i b h l

pub bound_low : (bs : List Bound) (i : ℕ) (b : Bound) → are_bounds (length bs) 0 bs ≡ true → i < length bs → b ≡ get_or bs i b → is_closed b.low ≡ true
bound_low bs i b h l e = low_closed (length bs) i b (bound_placed bs i b h l e)

pub bound_named : (bs : List Bound) (i : ℕ) (b : Bound) → are_bounds (length bs) 0 bs ≡ true → i < length bs → b ≡ get_or bs i b → is_closed b.high ≡ false → named_form (out-Ty b.high) ≡ true
bound_named bs i b h l e c = (high_named (length bs) i b (bound_placed bs i b h l e) c).named

pub row_fit : (ds : List Decl) (rs : List SigRow) (i : ℕ) (r : SigRow) → AllRowsFit ds (map listed rs) → i < length rs → r ≡ get_or rs i r → AllFit ds r.parts × AllFit ds r.chosen
row_fit ds [] i r f l e = absurd (omega arith)
row_fit ds (x ∷ xs) zero r f l e = subst (λ (z : SigRow). AllFit ds z.parts × AllFit ds z.chosen) (sym e) f.0
row_fit ds (x ∷ xs) (suc i) r f l e = row_fit ds xs i r f.1 (omega arith) e

-- one more row
pub kept_step : (ds : List Decl) (rs : List SigRow) (i : ℕ) (r k : SigRow) (old new : List SigRow) → i < length rs → r ≡ get_or rs i r → IsKeptRow ds (listed r) k → new ≡ old ++ k ∷ []
    → ((ks : List SigRow) → AreKeptRows ds (map listed (drop i rs)) ks → AreKeptRows ds (map listed rs) (old ++ ks))
    → (ks : List SigRow) → AreKeptRows ds (map listed (drop (i + 1) rs)) ks → AreKeptRows ds (map listed rs) (new ++ ks)
kept_step ds rs i r k old new l e h n f ks g =
    subst (AreKeptRows ds (map listed rs)) (sym (ap (λ z. z ++ ks) n ∙ append_assoc old (k ∷ []) ks))
    (f (k ∷ ks) (subst (λ z. AreKeptRows ds (map listed z) (k ∷ ks)) (sym (drop_at rs i r l e)) (rows_more (listed r) k (map listed (drop (i + 1) rs)) ks h g)))

pub kept_done : (ds : List Decl) (rs items : List SigRow) (i : ℕ) → drop i rs ≡ [] → ((ks : List SigRow) → AreKeptRows ds (map listed (drop i rs)) ks → AreKeptRows ds (map listed rs) (items ++ ks)) → AreKeptRows ds (map listed rs) items
kept_done ds rs items i e f = subst (AreKeptRows ds (map listed rs)) (append-nil items) (f [] (subst (λ z. AreKeptRows ds (map listed z) []) (sym e) rows_end))

-- which variables are diagonal
map_each : (f : ℕ → model.Kind) (j : ℕ) (bs : List Bound) → map is_diagonal (each_var f j bs) ≡ each_var (λ v. is_diagonal (f v)) j bs
map_each f j [] = refl
map_each f j (b ∷ bs) = ap (λ z. is_diagonal (f j) ∷ z) (map_each f (j + 1) bs)

map_twice : (ks : List Kind) → map (λ k. is_diagonal (kind_in k)) ks ≡ map is_diagonal (map kind_in ks)
map_twice [] = refl
map_twice (k ∷ ks) = ap (λ z. is_diagonal (kind_in k) ∷ z) (map_twice ks)

pub diagonals_are : (s : Written) (ks : List Kind) (bs : List Bool) → AreKinds s ks → bs ≡ map (λ k. is_diagonal (kind_in k)) ks → AreDiagonals s bs
diagonals_are s ks bs a e = e ∙ map_twice ks ∙ ap (map is_diagonal) a ∙ map_each (kind s) 0 s.vars

-- an upper bound with variables is the same, kept and in normal form
named_at : (ds : List Decl) → Declared ds → (m j : ℕ) (bs cs ks : List Bound) → are_bounds m j bs ≡ true → Both (IsBoundForm ds) (bound_types bs) (bound_types cs) → Both (IsKeptAs ds) (bound_types bs) (bound_types ks) → (v : ℕ)
    → is_closed (get_or bs v free).high ≡ false → (get_or cs v free).high ≡ (get_or ks v free).high
named_at ds declared m j [] cs ks h f k zero e = absurd (let g : true ≡ false = sym closed-any ∙ e in cc)
named_at ds declared m j [] cs ks h f k (suc v) e = absurd (let g : true ≡ false = sym closed-any ∙ e in cc)
named_at ds declared m j (b ∷ bs) [] ks h f k v e = elim f [ ]
named_at ds declared m j (b ∷ bs) (c ∷ cs) [] h f k v e = elim k [ ]
named_at ds declared m j (b ∷ bs) (c ∷ cs) (x ∷ xs) h (both_more t u vs ws p (both_more t2 u2 vs2 ws2 q r)) (both_more t3 u3 vs3 ws3 o (both_more t4 u4 vs4 ws4 d g)) zero e =
    let n = high_named m j b (and_l (is_bound m j b) (are_bounds m (j + 1) bs) h) e in
    one_form ds declared b.high c.high x.high q.form (named_normal ds b.high x.high n.named d)
named_at ds declared m j (b ∷ bs) (c ∷ cs) (x ∷ xs) h (both_more t u vs ws p (both_more t2 u2 vs2 ws2 q r)) (both_more t3 u3 vs3 ws3 o (both_more t4 u4 vs4 ws4 d g)) (suc v) e =
    named_at ds declared m (j + 1) bs cs xs (and_r (is_bound m j b) (are_bounds m (j + 1) bs) h) r g v e

pub named_same : (ds : List Decl) → Declared ds → (s : Written) (cs ks : List Bound) → (VariablePlace s → ⊥) → Both (IsBoundForm ds) (bound_types s.vars) (bound_types cs) → Both (IsKeptAs ds) (bound_types s.vars) (bound_types ks)
    → (v : ℕ) → is_closed (high s v) ≡ false → (get_or cs v free).high ≡ (get_or ks v free).high
named_same ds declared s cs ks p f k v e = named_at ds declared (width s) 0 s.vars cs ks (placed_bounds s p) f k v e
