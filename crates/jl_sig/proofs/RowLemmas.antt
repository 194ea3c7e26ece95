-- What the code that builds rows needs.
use Rattle.std.proofs.Common.{◌≡◌, ◌∙◌, sym, ap, refl, ℕ, zero, suc, ◌+◌, ◌%◌, ◌<◌, ◌≤◌, min, arith, add-one, Bool, true, false, ◌&&◌, ◌||◌, cond, nat_eq, List, [], ◌∷◌, ◌++◌, map, length, drop, get_or, append_assoc, append-nil, length-append}
use Rattle.std.specs.List.{flat_map, list_any}
use Rattle.std.proofs.lemmas.List.{length-map}
use Rattle.jl_model.specs.declared.ty.Ty.{Ty}
use Rattle.jl_model.specs.declared.ty.Ty.TheViews as V
use Rattle.jl_model.specs.declared.ty.Ty.TheVariants as W
use Rattle.jl_model.specs.declared.ty.Bound.{Bound}
use Rattle.jl_model.specs.declared.ty.Written.{Written}
use Rattle.jl_model.specs.Rows.{choices, kind, vars_in}
use Rattle.jl_model.specs.Signature.{is_diagonal}
use Rattle.jl_model.specs.AllRows.{Listed, occurs, slot, each_var, rows_with}
use Rattle.jl_model.proofs.FormLemmas.{vars-any, vars-var, vars-union, vars-tuple, vars-nominal}
use Rattle.jl_sig.specs.declared.kind.Kind.{Kind}
use Rattle.jl_sig.specs.declared.row.SigRow.{SigRow}
use Rattle.jl_sig.specs.KindIn.{kind_in}
use Rattle.jl_sig.specs.Built.{picked, has_root, listed, rows_from, AreKinds}
use Rattle.jl_sig.proofs.FormSteps.{drop_at}

-- ROOTS
module _ (w v : ℕ) where
  abbrev rooted : List ℕ → Bool
  rooted ns = list_any (nat_eq v) (map (λ n. n % w) ns)

  rooted-append : (ms ns : List ℕ) → rooted (ms ++ ns) ≡ (rooted ms || rooted ns)
  rooted-append [] ns = refl
  rooted-append (m ∷ ms) ns = ap (λ z. nat_eq v (m % w) || z) (rooted-append ms ns) ∙ assoc (nat_eq v (m % w)) (rooted ms) (rooted ns)
    where
      assoc : (a b c : Bool) → (a || (b || c)) ≡ ((a || b) || c)
      assoc true b c = refl
      assoc false b c = refl

  pub rooted-flat : (ts : List Ty) → rooted (flat_map vars_in ts) ≡ list_any (has_root w v) ts
  rooted-flat [] = refl
  rooted-flat (t ∷ ts) = rooted-append (vars_in t) (flat_map vars_in ts) ∙ ap (λ z. has_root w v t || z) (rooted-flat ts)

  pub root-any : (t : Ty) → t ≡ W.Any → false ≡ has_root w v t
  root-any t e = sym (ap (has_root w v) e ∙ ap rooted vars-any)

  pub root-union : (t : Ty) (ts us : List Ty) (r : Bool) → t ≡ V.Union ts → us ≡ ts → r ≡ list_any (has_root w v) us → r ≡ has_root w v t
  root-union t ts us r e f h = h ∙ ap (list_any (has_root w v)) f ∙ sym (ap (has_root w v) e ∙ ap rooted (vars-union ts) ∙ rooted-flat ts)

  pub root-tuple : (t : Ty) (ts us : List Ty) (r : Bool) → t ≡ V.Tuple ts → us ≡ ts → r ≡ list_any (has_root w v) us → r ≡ has_root w v t
  root-tuple t ts us r e f h = h ∙ ap (list_any (has_root w v)) f ∙ sym (ap (has_root w v) e ∙ ap rooted (vars-tuple ts) ∙ rooted-flat ts)

  pub root-nominal : (t : Ty) (k : ℕ) (ts us : List Ty) (r : Bool) → t ≡ V.Nominal k ts → us ≡ ts → r ≡ list_any (has_root w v) us → r ≡ has_root w v t
  root-nominal t k ts us r e f h = h ∙ ap (list_any (has_root w v)) f ∙ sym (ap (has_root w v) e ∙ ap rooted (vars-nominal k ts) ∙ rooted-flat ts)

  pub root-var : (t : Ty) (n : ℕ) → t ≡ W.Var n → has_root w v t ≡ nat_eq v (n % w)
  root-var t n e = ap (has_root w v) e ∙ ap rooted (vars-var n) ∙ or_false (nat_eq v (n % w))
    where
      or_false : (b : Bool) → (b || false) ≡ b
      or_false true = refl
      or_false false = refl

-- VARIABLES
drop_some : (bs : List Bound) (i : ℕ) → i < length bs → (b : Bound) × (drop i bs ≡ b ∷ drop (i + 1) bs)
drop_some [] i l = absurd (omega arith)
drop_some (b ∷ bs) zero l = (b, refl)
drop_some (b ∷ bs) (suc i) l = let r = drop_some bs i (omega arith) in (r.0, rw add-one (rw add-one at r.1))

pub each-here : {A : Type 0} (f : ℕ → A) (i : ℕ) (bs : List Bound) → i < length bs → each_var f i (drop i bs) ≡ f i ∷ each_var f (i + 1) (drop (i + 1) bs)
each-here f i bs l = let r = drop_some bs i l in ap (each_var f i) r.1

pub each-get : {A : Type 0} (f : ℕ → A) (j i : ℕ) (bs : List Bound) (d : A) → i < length bs → get_or (each_var f j bs) i d ≡ f (j + i)
each-get f j i [] d l = absurd (omega arith)
each-get f j zero (b ∷ bs) d l = let e : j + 0 ≡ j = omega arith in rw e refl
each-get f j (suc i) (b ∷ bs) d l = let e : j + suc i ≡ (j + 1) + i = omega arith in rw e (each-get f (j + 1) i bs d (omega arith))

pub each-long : {A : Type 0} (f : ℕ → A) (j : ℕ) (bs : List Bound) → length (each_var f j bs) ≡ length bs
each-long f j [] = refl
each-long f j (b ∷ bs) = ap suc (each-long f (j + 1) bs)

get-map : {A B : Type 0} (f : A → B) (xs : List A) (i : ℕ) (d : A) → get_or (map f xs) i (f d) ≡ f (get_or xs i d)
get-map f [] zero d = refl
get-map f [] (suc i) d = refl
get-map f (y ∷ ys) zero d = refl
get-map f (y ∷ ys) (suc i) d = get-map f ys i d

pub kinds_long : (s : Written) (ks : List Kind) → AreKinds s ks → length ks ≡ length s.vars
kinds_long s ks h = sym (length-map ks kind_in) ∙ ap (λ z. length z) h ∙ each-long (kind s) 0 s.vars

pub kind_at : (s : Written) (ks : List Kind) (i : ℕ) (d : Kind) → AreKinds s ks → i < length s.vars → kind_in (get_or ks i d) ≡ kind s i
kind_at s ks i d h l =
    let e : 0 + i ≡ i = omega arith in
    sym (get-map kind_in ks i d) ∙ ap (λ z. get_or z i (kind_in d)) h ∙ each-get (kind s) 0 i s.vars (kind_in d) l ∙ ap (kind s) e

pub picked_at : (ps : List (List Ty)) (i : ℕ) (p : List Ty) → i < length ps → p ≡ get_or ps i p → picked ps i ≡ p
picked_at [] i p l e = absurd (omega arith)
picked_at (x ∷ xs) zero p l e = sym e
picked_at (x ∷ xs) (suc i) p l e = picked_at xs i p (omega arith) e

-- one more slot
pub slot_step : (s : Written) (ks : List Kind) (ps : List (List Ty)) (row : List Ty) (i : ℕ) (d : Kind) (p l : List Ty) (old new : List (List Ty)) → AreKinds s ks → length ps ≡ length s.vars → i < length s.vars
    → p ≡ get_or ps i p → l ≡ cond (is_diagonal (kind_in (get_or ks i d)) && list_any (has_root (length s.vars) i) row) p (W.Any ∷ []) → new ≡ old ++ l ∷ []
    → (old ++ each_var (slot s (picked ps) row) i (drop i s.vars)) ≡ each_var (slot s (picked ps) row) 0 s.vars
    → (new ++ each_var (slot s (picked ps) row) (i + 1) (drop (i + 1) s.vars)) ≡ each_var (slot s (picked ps) row) 0 s.vars
slot_step s ks ps row i d p l old new a n lt ep el en h =
    let f = slot s (picked ps) row in
    let is : l ≡ f i = el
    ∙ ap (λ z. cond (is_diagonal z && list_any (has_root (length s.vars) i) row) p (W.Any ∷ [])) (kind_at s ks i d a lt)
    ∙ ap (λ z. cond (is_diagonal (kind s i) && z) p (W.Any ∷ [])) (sym (rooted-flat (length s.vars) i row))
    ∙ ap (λ z. cond (is_diagonal (kind s i) && occurs s i row) z (W.Any ∷ [])) (sym (picked_at ps i p (omega arith) ep)) in
    ap (λ z. z ++ each_var f (i + 1) (drop (i + 1) s.vars)) (en ∙ ap (λ z. old ++ z ∷ []) is) ∙ append_assoc old (f i ∷ []) (each_var f (i + 1) (drop (i + 1) s.vars))
    ∙ ap (λ z. old ++ z) (sym (each-here f i s.vars lt)) ∙ h

pub slots_done : (s : Written) (f : ℕ → List Ty) (i : ℕ) (old : List (List Ty)) → length s.vars ≤ i → (old ++ each_var f i (drop i s.vars)) ≡ each_var f 0 s.vars → old ≡ each_var f 0 s.vars
slots_done s f i old l h = sym (append-nil old) ∙ ap (λ z. old ++ each_var f i z) (sym (past s.vars i l)) ∙ h
  where
    past : (bs : List Bound) (j : ℕ) → length bs ≤ j → drop j bs ≡ []
    past [] zero m = refl
    past [] (suc j) m = refl
    past (b ∷ bs) zero m = absurd (omega arith)
    past (b ∷ bs) (suc j) m = past bs j (omega arith)

-- ROWS
listed_append : (xs ys : List SigRow) → map listed (xs ++ ys) ≡ map listed xs ++ map listed ys
listed_append [] ys = refl
listed_append (x ∷ xs) ys = ap (λ z. listed x ∷ z) (listed_append xs ys)

abbrev pub with_parts : List Ty → List (List Ty) → List Listed
with_parts ps cs = map (λ us. record { parts = ps; chosen = us }) cs

pub push_step : (ps qs : List Ty) (cs : List (List Ty)) (i : ℕ) (c d : List Ty) (old new : List SigRow) (whole : List Listed) → i < length cs → c ≡ get_or cs i c → qs ≡ ps → d ≡ c → new ≡ old ++ record { parts = qs; chosen = d } ∷ []
    → (map listed old ++ with_parts ps (drop i cs)) ≡ whole → (map listed new ++ with_parts ps (drop (i + 1) cs)) ≡ whole
push_step ps qs cs i c d old new whole l e q r n h =
    let k : map listed new ≡ map listed old ++ record { parts = ps; chosen = c } ∷ [] =
    ap (map listed) n ∙ listed_append old (record { parts = qs; chosen = d } ∷ []) ∙ ap (λ z. map listed old ++ record { parts = z; chosen = d } ∷ []) q ∙ ap (λ z. map listed old ++ record { parts = ps; chosen = z } ∷ []) r in
    ap (λ z. z ++ with_parts ps (drop (i + 1) cs)) k ∙ append_assoc (map listed old) (record { parts = ps; chosen = c } ∷ []) (with_parts ps (drop (i + 1) cs))
    ∙ ap (λ z. map listed old ++ z) (sym (ap (with_parts ps) (drop_at cs i c l e))) ∙ h

pub push_done : (ps : List Ty) (cs : List (List Ty)) (i : ℕ) (old : List SigRow) (whole : List Listed) → drop i cs ≡ [] → (map listed old ++ with_parts ps (drop i cs)) ≡ whole → map listed old ≡ whole
push_done ps cs i old whole e h = sym (append-nil (map listed old)) ∙ ap (λ z. map listed old ++ with_parts ps z) (sym e) ∙ h

module _ (s : Written) (picks : List (List Ty)) where
  abbrev F : List Ty → List Listed
  F = rows_with s (picked picks)

  rows-suc : (cs : List (List Ty)) (i : ℕ) (c : List Ty) → i < length cs → c ≡ get_or cs i c → rows_from s picks (drop i cs) ≡ F c ++ rows_from s picks (drop (i + 1) cs)
  rows-suc cs i c l e = ap (rows_from s picks) (drop_at cs i c l e)

  -- one more row of parts
  pub rows_step : (cs : List (List Ty)) (i : ℕ) (c : List Ty) (ls us vs : List (List Ty)) (old new : List SigRow) (whole : List Listed) → i < length cs → c ≡ get_or cs i c
      → us ≡ each_var (slot s (picked picks) c) 0 s.vars → ls ≡ us → vs ≡ choices ls → map listed new ≡ map listed old ++ with_parts c vs
      → (map listed old ++ rows_from s picks (drop i cs)) ≡ whole → (map listed new ++ rows_from s picks (drop (i + 1) cs)) ≡ whole
  rows_step cs i c ls us vs old new whole l e u f v n h =
      let g : vs ≡ choices (each_var (slot s (picked picks) c) 0 s.vars) = v ∙ ap choices (f ∙ u) in
      ap (λ z. z ++ rows_from s picks (drop (i + 1) cs)) (n ∙ ap (λ z. map listed old ++ with_parts c z) g) ∙ append_assoc (map listed old) (F c) (rows_from s picks (drop (i + 1) cs))
      ∙ ap (λ z. map listed old ++ z) (sym (rows-suc cs i c l e)) ∙ h

  -- too many rows
  pub rows_many : (cs : List (List Ty)) (i : ℕ) (c : List Ty) (ls us : List (List Ty)) (old : List SigRow) (n : ℕ) (whole : List Listed) → i < length cs → c ≡ get_or cs i c
      → us ≡ each_var (slot s (picked picks) c) 0 s.vars → ls ≡ us → n ≡ min (length (choices ls)) 257 → 256 < length old + n
      → (map listed old ++ rows_from s picks (drop i cs)) ≡ whole → 256 < length whole
  rows_many cs i c ls us old n whole l e u f m b h =
      let g : choices ls ≡ choices (each_var (slot s (picked picks) c) 0 s.vars) = ap choices (f ∙ u) in
      let k : length (F c) ≡ length (choices ls) = length-map (choices (each_var (slot s (picked picks) c) 0 s.vars)) (λ us. record { parts = c; chosen = us }) ∙ sym (ap (λ z. length z) g) in
      let a : length whole ≡ length (map listed old) + length (rows_from s picks (drop i cs)) = sym (ap (λ z. length z) h) ∙ length-append (map listed old) (rows_from s picks (drop i cs)) in
      let d : length (rows_from s picks (drop i cs)) ≡ length (F c) + length (rows_from s picks (drop (i + 1) cs)) = ap (λ z. length z) (rows-suc cs i c l e) ∙ length-append (F c) (rows_from s picks (drop (i + 1) cs)) in
      let q : length (map listed old) ≡ length old = length-map old listed in
      omega (arith, a, d, k, m, b, q)

  -- not too many
  pub rows_few : (c : List Ty) (ls us vs : List (List Ty)) (old new : List SigRow) (n : ℕ) → us ≡ each_var (slot s (picked picks) c) 0 s.vars → ls ≡ us → n ≡ min (length (choices ls)) 257 → length old + n ≤ 256
      → vs ≡ choices ls → map listed new ≡ map listed old ++ with_parts c vs → length new ≤ 256
  rows_few c ls us vs old new n u f m b v h =
      let p : length new ≡ length (map listed old) + length (with_parts c vs) = sym (length-map new listed) ∙ ap (λ z. length z) h ∙ length-append (map listed old) (with_parts c vs) in
      let q : length (map listed old) ≡ length old = length-map old listed in
      let r : length (with_parts c vs) ≡ length (choices ls) = length-map vs (λ us. record { parts = c; chosen = us }) ∙ ap (λ z. length z) v in
      omega (arith, p, q, r, m, b)

  pub rows_done : (cs : List (List Ty)) (i : ℕ) (old : List SigRow) (whole : List Listed) → drop i cs ≡ [] → (map listed old ++ rows_from s picks (drop i cs)) ≡ whole → map listed old ≡ whole
  rows_done cs i old whole e h = sym (append-nil (map listed old)) ∙ ap (λ z. map listed old ++ rows_from s picks z) (sym e) ∙ h

-- one more kind
pub kinds_step : (s : Written) (v : ℕ) (k : Kind) (old new : List Kind) → v < length s.vars → kind_in k ≡ kind s v → new ≡ old ++ k ∷ []
    → (map kind_in old ++ each_var (kind s) v (drop v s.vars)) ≡ each_var (kind s) 0 s.vars → (map kind_in new ++ each_var (kind s) (v + 1) (drop (v + 1) s.vars)) ≡ each_var (kind s) 0 s.vars
kinds_step s v k old new l e n h =
    ap (λ z. z ++ each_var (kind s) (v + 1) (drop (v + 1) s.vars)) (ap (map kind_in) n ∙ kinds_append old (k ∷ []) ∙ ap (λ z. map kind_in old ++ z ∷ []) e)
    ∙ append_assoc (map kind_in old) (kind s v ∷ []) (each_var (kind s) (v + 1) (drop (v + 1) s.vars)) ∙ ap (λ z. map kind_in old ++ z) (sym (each-here (kind s) v s.vars l)) ∙ h
  where
    kinds_append : (xs ys : List Kind) → map kind_in (xs ++ ys) ≡ map kind_in xs ++ map kind_in ys
    kinds_append [] ys = refl
    kinds_append (x ∷ xs) ys = ap (λ z. kind_in x ∷ z) (kinds_append xs ys)
