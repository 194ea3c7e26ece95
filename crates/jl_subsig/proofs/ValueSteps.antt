-- The types found, one by one.
use Rattle.std.proofs.Common.{◌≡◌, ◌∙◌, sym, ap, subst, refl, ℕ, zero, suc, ◌+◌, ◌-◌, ◌<◌, ◌≤◌, arith, Bool, true, false, ◌||◌, not, cond, nat_eq, List, [], ◌∷◌, ◌++◌, map, length, drop, get_or, slice_set, Option, None, Some, Result, Ok, Err, IfOk, IfSome}
use Rattle.std.specs.List.{list_any}
use Rattle.jl_model.specs.declared.ty.Ty.{Ty}
use Rattle.jl_model.specs.declared.ty.Ty.TheViews.{out-Ty, outs-Nominal}
use Rattle.jl_model.specs.declared.ty.Ty.TheViews as V
use Rattle.jl_model.specs.declared.ty.Ty.TheVariants as W
use Rattle.jl_model.specs.declared.ty.Bound.{Bound}
use Rattle.jl_model.specs.declared.ty.Decl.{Decl}
use Rattle.jl_model.specs.Ancestors.{table_of}
use Rattle.jl_model.specs.Rows.{free, width, high, kind, atom, vars_in}
use Rattle.jl_model.specs.Signature.{top, is_diagonal}
use Rattle.jl_model.specs.Subtype.{put, at}
use Rattle.jl_model.specs.Valid.{is_closed}
use Rattle.jl_model.specs.Refusals.{Declared}
use Rattle.jl_model.specs.Found.{first, first_form, ancestor, rising, find_inner, find_outer, or_else, or_type, hit, hits, filled, witness, found}
use Rattle.jl_model.proofs.FormLemmas.{vars-any, put-any}
use Rattle.jl_model.proofs.AncestorLemmas.{long-snoc}
use Rattle.jl_sig.specs.declared.row.SigRow.{SigRow}
use Rattle.jl_sig.specs.declared.sig.Sig.{Sig}
use Rattle.jl_sig.specs.SigParts.{kept_of, bounded_of, diagonals_of}
use Rattle.jl_search.specs.Walk.{in_above, TellsBound}
use Rattle.jl_search.proofs.HasLemmas.{none_has, has_none}
use Rattle.jl_search.proofs.FillLemmas.{long_hits}
use Rattle.jl_search.proofs.ValueLemmas.{Gives}
use Rattle.jl_search.proofs.WalkLemmas.{tells_closed, tells_nothing, tells_some, found_row, Walked, hit_above, walk_step, fill_step, fill_end, values_found}
use Rattle.jl_subsig.specs.Side.{row_of, held, sided, tops, IsItem, IsTold, IsSide}
use Rattle.jl_subsig.proofs.HitLemmas.{Hit}
use Rattle.jl_subsig.proofs.FoundItems.{Lefty, Value, value_item, outers, hit_hit, hits_hit}
use Rattle.jl_subsig.proofs.ServeSteps.{top_sided}
use Rattle.jl_subsig.proofs.SideLemmas as S

-- bounds without variables
none_length : (ns : List ℕ) → nat_eq (length ns) 0 ≡ true → ns ≡ []
none_length [] h = refl
none_length (n ∷ ns) h = let e : length (n ∷ ns) ≡ 0 = grind (arith, h) in absurd (omega arith)

neither : (b c : Bool) → (not b || c) ≡ false → (b ≡ true) × (c ≡ false)
neither true c h = (refl, h)
neither false c h = let e : true ≡ false = h in absurd (apart e)
  where
    apart : true ≡ false → ⊥
    apart e = cc

closed_at : (bs : List Bound) → list_any (λ b. not (is_closed b.high)) bs ≡ false → (v : ℕ) → vars_in (get_or bs v free).high ≡ []
closed_at [] h v = vars-any
closed_at (b ∷ bs) h zero = none_length (vars_in b.high) (neither (is_closed b.high) (list_any (λ b. not (is_closed b.high)) bs) h).0
closed_at (b ∷ bs) h (suc v) = closed_at bs (neither (is_closed b.high) (list_any (λ b. not (is_closed b.high)) bs) h).1 v

get_same : {A : Type 0} (xs : List A) (i : ℕ) (d e : A) → i < length xs → get_or xs i d ≡ get_or xs i e
get_same [] i d e l = absurd (omega (arith, l))
get_same (x ∷ xs) zero d e l = refl
get_same (x ∷ xs) (suc i) d e l = get_same xs i d e (omega (arith, l))

-- the upper bound of a variable in the list
pub bound_high : (s : Sig) (bs : List Bound) (v : ℕ) (b : Bound) → bs ≡ (bounded_of s).vars → length (bounded_of s).vars ≡ width (kept_of s) → v < width (kept_of s) → (get_or bs v b).high ≡ high (sided s) v
bound_high s bs v b e w l =
    let k : v < length bs = omega (arith, l, w, (let i : length bs ≡ length (bounded_of s).vars = ap length e in i)) in
    ap (λ (c : Bound). c.high) (get_same bs v b free k ∙ ap (λ z. get_or z v free) e)

-- a result
pub ok_same : {E : Type 0} (x : Result Ty E) (t u : Ty) → t ≡ u → IfOk x (λ r. r ≡ t) → IfOk x (λ r. r ≡ u)
ok_same (Err a) t u e h = tt
ok_same (Ok r) t u e h = h ∙ e

pub or_top : (o : Option Ty) (t : Ty) → o ≡ None → t ≡ or_type o t
or_top o t e = sym (ap (λ z. or_type z t) e)

-- the upper bound of a variable in the row
pub top_at : (s : Sig) (r : SigRow) → IsTold s r → length (bounded_of s).vars ≡ width (kept_of s) → ((v : ℕ) → kind (sided s) v ≡ kind (kept_of s) v) → (bs : List Bound) (v : ℕ) (t : Ty) → bs ≡ (bounded_of s).vars
    → v < width (kept_of s) → tops bs s r v ≡ t → t ≡ top (sided s) (row_of r) v
top_at s r told wide kinds bs v t e l h = sym (ap (λ z. tops z s r v) (sym e) ∙ h) ∙ top_sided s r told wide kinds v l

-- where nothing is found, the upper bound with the values put in
pub filled_high : {E : Type 0} (x : Result Ty E) (o : Option Ty) (f : ℕ → Ty) (t u : Ty) → o ≡ None → t ≡ u → IfOk x (λ z. z ≡ put f t) → IfOk x (λ z. z ≡ or_type o (put f u))
filled_high x o f t u e i h = ok_same x (put f t) (or_type o (put f u)) (ap (put f) i ∙ or_top o (put f u) e) h

pub filled_any : (o : Option Ty) (f : ℕ → Ty) (u : Ty) → o ≡ None → W.Any ≡ u → W.Any ≡ or_type o (put f u)
filled_any o f u e i = sym (put-any f) ∙ ap (put f) i ∙ or_top o (put f u) e

module _ (ds : List Decl) (declared : Declared ds) (s : Sig) (r : SigRow) (side : IsSide ds s r) (o : Sig) (q : SigRow) (other : IsSide ds o q) where
  abbrev outer_in : List Ty → List Ty → ℕ → Option Ty
  outer_in us ws v = first (map (find_outer (held s r) v) us) ws

  abbrev outer_hit : List Ty → ℕ → Option Ty
  outer_hit us v = outer_in us r.parts v

  abbrev inner_hit : List Ty → ℕ → Option Ty
  inner_hit us v = first (map (find_inner (table_of ds) (held s r) v) us) r.parts

  pub top_is : (bs : List Bound) (v : ℕ) (t : Ty) → bs ≡ (bounded_of o).vars → v < width (kept_of o) → tops bs o q v ≡ t → t ≡ top (sided o) (row_of q) v
  top_is = top_at o q other.held.told other.held.wide other.held.kinds

  diagonal_is : (v : ℕ) (b : Bool) → b ≡ get_or (diagonals_of o) v false → b ≡ is_diagonal (kind (sided o) v)
  diagonal_is v b e = e ∙ other.held.told.diagonals v ∙ ap is_diagonal (sym (other.held.kinds v))

  -- where no bound mentions variables
  pub row_value : list_any (λ b. not (is_closed b.high)) (bounded_of o).vars ≡ false → (v : ℕ) → v < width (kept_of o) → (b : Bool) (us : List Ty) (h : Option Ty) → b ≡ get_or (diagonals_of o) v false → us ≡ q.parts
      → h ≡ cond b (outer_hit us v) (inner_hit us v) → found (table_of ds) (held s r) (sided o) (row_of q) r.parts v ≡ or_type h (top (sided o) (row_of q) v)
  row_value c v l b us h d e i =
      let high_none : (w : ℕ) → vars_in (high (sided o) w) ≡ [] = closed_at (bounded_of o).vars c in
      found_row (table_of ds) (held s r) (sided o) (row_of q) r.parts (λ w k. high_none w)
      (λ w k. none_has (vars_in (top (sided o) (row_of q) w)) (λ j p. has_none (vars_in (high (sided o) w)) j (high_none w) (S.top_in ds declared o q other w j p))) v (subst (λ z. v < z) (sym other.held.wide) l)
      ∙ ap (λ z. or_type z (top (sided o) (row_of q) v)) (ap (λ z. cond z (outer_hit q.parts v) (inner_hit q.parts v)) (sym (diagonal_is v b d)) ∙ ap (λ z. cond b (outer_hit z v) (inner_hit z v)) (sym e) ∙ sym i)

  -- WHERE ONE DOES, in the arguments of what is known to be below it
  abbrev Tells : ℕ → Option Ty → List Ty → Type 0
  Tells v h zs = TellsBound (table_of ds) (held s r) (sided o) (row_of q) r.parts v (high (sided o) v) h zs

  pub closed_tells : (v : ℕ) (h : Option Ty) (t : Ty) (zs : List Ty) → t ≡ high (sided o) v → is_closed t ≡ true → zs ≡ [] → Tells v h zs
  closed_tells v h t zs e c i =
      subst (Tells v h) (sym i) (tells_closed (table_of ds) (held s r) (sided o) (row_of q) r.parts v (high (sided o) v) h (none_length (vars_in (high (sided o) v)) (sym (ap is_closed e) ∙ c)))

  atom_is : (v k : ℕ) → k ≡ length (bounded_of o).vars → v + k ≡ atom (sided o) v 0
  atom_is v k e = omega (arith, e)

  -- the left part at its first atom
  parts_are : (us ws : List Ty) (v : ℕ) (x : Option Ty) → us ≡ q.parts → ws ≡ r.parts → x ≡ outer_in us ws v → outer_hit q.parts v ≡ x
  parts_are us ws v x p e i = ap (λ z. outer_in z r.parts v) (sym p) ∙ ap (λ z. outer_in us z v) (sym e) ∙ sym i

  witness_is : (v k : ℕ) (us ws : List Ty) (h x : Option Ty) → h ≡ None → k ≡ length (bounded_of o).vars → us ≡ q.parts → ws ≡ r.parts → x ≡ outer_in us ws (v + k) → witness (table_of ds) (held s r) (sided o) (row_of q) r.parts v h ≡ x
  witness_is v k us ws h x e w p d i =
      ap (λ z. or_else z (outer_hit q.parts (atom (sided o) v 0))) e ∙ ap (λ z. outer_hit q.parts z) (sym (atom_is v k w)) ∙ parts_are us ws (v + k) x p d i

  pub atom_item : (v : ℕ) (us ws : List Ty) (x : Option Ty) (t : Ty) → us ≡ q.parts → ws ≡ r.parts → x ≡ outer_in us ws v → x ≡ Some t → IsItem ds t
  atom_item v us ws x t p d i e =
      let Q : Option Ty → Type 0 = Hit (λ y. IsItem ds y) in
      subst Q (parts_are us ws v x p d i ∙ e) (items (outer_hit q.parts v) (outers ds declared s r side o q other v))
    where
      items : (a : Option Ty) → Hit (Lefty ds declared s r side) a → Hit (λ y. IsItem ds y) a
      items None h = tt
      items (Some y) h = h.part.item

  pub atom_tells : {E : Type 0} (v k m : ℕ) (us ws ts : List Ty) (h x : Option Ty) (u t : Ty) (l : Result (List Ty) E) → u ≡ high (sided o) v → u ≡ V.Nominal m ts → h ≡ None → k ≡ length (bounded_of o).vars → us ≡ q.parts
      → ws ≡ r.parts → x ≡ outer_in us ws (v + k) → x ≡ Some t → IfOk l (λ zs. zs ≡ ancestor (table_of ds) m (first_form (rising (held s r) t))) → IfOk l (λ zs. Tells v h zs)
  atom_tells v k m us ws ts h x u t (Err a) e c f w p d i j g = tt
  atom_tells v k m us ws ts h x u t (Ok zs) e c f w p d i j g =
      tells_some (table_of ds) (held s r) (sided o) (row_of q) r.parts v m (high (sided o) v) t ts zs h (ap out-Ty (sym e ∙ c) ∙ outs-Nominal m ts) (witness_is v k us ws h x f w p d i ∙ j) g

  pub nothing_tells : (v k : ℕ) (us ws zs : List Ty) (h x : Option Ty) → h ≡ None → k ≡ length (bounded_of o).vars → us ≡ q.parts → ws ≡ r.parts → x ≡ outer_in us ws (v + k) → x ≡ None → zs ≡ [] → Tells v h zs
  nothing_tells v k us ws zs h x e w p d i j f =
      subst (Tells v h) (sym f) (tells_nothing (table_of ds) (held s r) (sided o) (row_of q) r.parts v (high (sided o) v) h (witness_is v k us ws h x e w p d i ∙ j))

  -- FROM THE LAST VARIABLE TO THE FIRST.
  abbrev WalkedTo : ℕ → List (Option Ty) → List (List Ty) → Type 0
  WalkedTo v os zss = Walked (table_of ds) (held s r) (sided o) (row_of q) r.parts v os zss

  abbrev hit_by : ℕ → List (List Ty) → Option Ty
  hit_by v zss = cond (is_diagonal (kind (sided o) v)) (outer_hit q.parts v) (or_else (inner_hit q.parts v) (in_above v (drop (v + 1) (sided o).vars) (drop (v + 1) zss)))

  abbrev hit_at : ℕ → List (Option Ty) → Option Ty
  hit_at v os = hit (table_of ds) (held s r) (sided o) (row_of q) r.parts v (drop (v + 1) (sided o).vars) (drop (v + 1) os)

  hit_is : (v : ℕ) (os : List (Option Ty)) (zss vs : List (List Ty)) (h : Option Ty) → WalkedTo (v + 1) os zss → vs ≡ zss → h ≡ hit_by v vs → h ≡ hit_at v os
  hit_is v os zss vs h w e i = i ∙ ap (hit_by v) e ∙ hit_above (table_of ds) (held s r) (sided o) (row_of q) r.parts v os zss w

  item_of : (h : Option Ty) → Hit (Value ds declared s r side) h → IfSome h (IsItem ds)
  item_of None k = tt
  item_of (Some y) k = value_item ds declared s r side y k

  -- the next variable, of w of which the last have been taken
  last_step : (w step : ℕ) → step < w → w - step ≡ w - 1 - step + 1
  last_step w step l = grind (arith, l)

  next_step : (w step : ℕ) → step < w → w - 1 - step ≡ w - (step + 1)
  next_step w step l = grind (arith, l)

  small_step : (w step : ℕ) → step < w → w - 1 - step < w
  small_step w step l = grind (arith, l)

  walked_to : (w step : ℕ) (os : List (Option Ty)) (zss : List (List Ty)) → step < w → WalkedTo (w - step) os zss → WalkedTo (w - 1 - step + 1) os zss
  walked_to w step os zss l h = subst (λ z. WalkedTo z os zss) (last_step w step l) h

  pub hit_item : (w step : ℕ) (os : List (Option Ty)) (zss vs : List (List Ty)) (h : Option Ty) → step < w → WalkedTo (w - step) os zss → vs ≡ zss → h ≡ hit_by (w - 1 - step) vs → IfSome h (IsItem ds)
  hit_item w step os zss vs h l k e i =
      let v = w - 1 - step in
      let bs = drop (v + 1) (sided o).vars in
      let walked = walked_to w step os zss l k in
      let x : h ≡ hit (table_of ds) (held s r) (sided o) (row_of q) r.parts v bs (hits (table_of ds) (held s r) (sided o) (row_of q) r.parts (v + 1) bs) =
      hit_is v os zss vs h walked e i ∙ ap (λ z. hit (table_of ds) (held s r) (sided o) (row_of q) r.parts v bs z) walked.are in
      let Q : Option Ty → Type 0 = Hit (Value ds declared s r side) in
      item_of h (subst Q (sym x) (hit_hit ds declared s r side o q other v bs (hits (table_of ds) (held s r) (sided o) (row_of q) r.parts (v + 1) bs) (hits_hit ds declared s r side o q other (v + 1) bs)))

  pub walk_on : (w step : ℕ) (os : List (Option Ty)) (zss vs : List (List Ty)) (h : Option Ty) (zs : List Ty) → w ≡ width (sided o) → step < w → WalkedTo (w - step) os zss → vs ≡ zss → h ≡ hit_by (w - 1 - step) vs → Tells (w - 1 - step) h zs
      → WalkedTo (w - (step + 1)) (slice_set os (w - 1 - step) h) (slice_set zss (w - 1 - step) zs)
  walk_on w step os zss vs h zs m l k e i t =
      let v = w - 1 - step in
      let walked = walked_to w step os zss l k in
      subst (λ z. WalkedTo z (slice_set os v h) (slice_set zss v zs)) (next_step w step l)
      (walk_step (table_of ds) (held s r) (sided o) (row_of q) r.parts v os zss h zs (subst (λ z. v < z) m (small_step w step l)) walked (hit_is v os zss vs h walked e i) t)

  -- FROM THE FIRST VARIABLE ON.
  abbrev filled_by : List Ty → List (Option Ty) → List Ty
  filled_by = filled (table_of ds) (held s r) (sided o) (row_of q) r.parts

  abbrev all_hits : List (Option Ty)
  all_hits = hits (table_of ds) (held s r) (sided o) (row_of q) r.parts 0 (sided o).vars

  pub hits_long : (os : List (Option Ty)) → os ≡ all_hits → length os ≡ width (kept_of o)
  hits_long os e = ap length e ∙ long_hits (table_of ds) (held s r) (sided o) (row_of q) r.parts 0 (sided o).vars ∙ other.held.wide

  pub fill_on : (done vs new : List Ty) (os : List (Option Ty)) (i : ℕ) (h : Option Ty) (t : Ty) → length done ≡ i → i < length os → h ≡ get_or os i h → vs ≡ done → t ≡ or_type h (put (at vs) (top (sided o) (row_of q) (length vs)))
      → new ≡ done ++ t ∷ [] → filled_by done (drop (length done) os) ≡ filled_by [] os → filled_by new (drop (length new) os) ≡ filled_by [] os
  fill_on done vs new os i h t m l d e f g k =
      let n : length new ≡ length done + 1 = ap length g ∙ long-snoc done t in
      subst (λ z. filled_by new (drop z os) ≡ filled_by [] os) (sym n)
      (fill_step (table_of ds) (held s r) (sided o) (row_of q) r.parts done os h t new (filled_by [] os) (omega (arith, m, l)) (subst (λ z. h ≡ get_or os z h) (sym m) d)
      (f ∙ ap (λ z. or_type h (put (at z) (top (sided o) (row_of q) (length z)))) e) g k)

  pub filled_found : (vs : List Ty) (os : List (Option Ty)) → os ≡ all_hits → length os ≤ length vs → filled_by vs (drop (length vs) os) ≡ filled_by [] os → at vs ≡ found (table_of ds) (held s r) (sided o) (row_of q) r.parts
  filled_found vs os e l h = ap at (fill_end (table_of ds) (held s r) (sided o) (row_of q) r.parts vs os (filled_by [] os) l h ∙ ap (filled_by []) e)

  pub gives_found : (vs : List Ty) → length vs ≡ width (sided o) → Gives (found (table_of ds) (held s r) (sided o) (row_of q) r.parts) vs → at vs ≡ found (table_of ds) (held s r) (sided o) (row_of q) r.parts
  gives_found vs l h = values_found (table_of ds) (held s r) (sided o) (row_of q) r.parts vs l h
