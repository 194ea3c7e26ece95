-- The walk over a row where an upper bound mentions variables, step by step.
use Rattle.std.proofs.Common.{◌≡◌, ◌∙◌, sym, ap, ap₂, subst, refl, ℕ, ◌+◌, ◌*◌, ◌<◌, ◌≤◌, ◌-◌, arith, Bool, true, cond, List, [], ◌∷◌, ◌++◌, map, length, drop, get_or, Option, None, Some}
use Rattle.std.specs.List.{flat_map, list_all}
use Rattle.jl_model.specs.declared.ty.Ty.{Ty}
use Rattle.jl_model.specs.declared.ty.Ty.TheViews.{out-Ty, outs-Nominal}
use Rattle.jl_model.specs.declared.ty.Ty.TheViews as V
use Rattle.jl_model.specs.declared.ty.Bound.{Bound}
use Rattle.jl_model.specs.declared.ty.Decl.{Decl}
use Rattle.jl_model.specs.declared.ty.Written.{Written}
use Rattle.jl_model.specs.Ancestors.{table_of}
use Rattle.jl_model.specs.Rows.{free, width, high, kind, vars_in}
use Rattle.jl_model.specs.Signature.{Row, is_diagonal}
use Rattle.jl_model.specs.Subtype.{Table, opaque}
use Rattle.jl_model.specs.Valid.{is_closed}
use Rattle.jl_model.specs.Refusals.{Declared}
use Rattle.jl_model.specs.Found.{first, first_form, rising, ancestor, find_inner, find_outer, or_else, hit}
use Rattle.jl_model.proofs.FormLemmas.{vars-nominal}
use Rattle.jl_model.proofs.PutLemmas.{and_l, and_r}
use Rattle.jl_search.specs.Walk.{in_above, TellsBound}
use Rattle.jl_search.specs.Serving.{IsPlain}
use Rattle.jl_search.proofs.WalkLemmas.{Walked, get_any, tells_closed, tells_nothing, tells_some, hit_above}
use Rattle.jl_match.specs.KeptRow.{AreConcrete}
use Rattle.jl_match.specs.Hits.{IsPlainHit}
use Rattle.jl_match.proofs.ComponentLemmas.{none_of}
use Rattle.jl_match.proofs.PlainLemmas.{AllHits, types_plain, else_hit, outers_hit, one_hit, all_hits}

pub empty_of : {A : Type 0} (xs : List A) → length xs < 1 → xs ≡ []
empty_of [] l = refl
empty_of (x ∷ xs) l = absurd (omega (arith, l))

pub head_of : {A : Type 0} (xs : List A) (x : A) → 1 ≤ length xs → x ≡ get_or xs 0 x → xs ≡ x ∷ drop 1 xs
head_of [] x l e = absurd (omega (arith, l))
head_of (y ∷ ys) x l e = ap (λ z. z ∷ ys) (sym e)

pub high_is : (s : Written) (bs : List Bound) (v : ℕ) (b : Bound) → bs ≡ s.vars → v < length bs → b ≡ get_or bs v b → b.high ≡ high s v
high_is s bs v b e l i = ap (λ (z : Bound). z.high) (get_any bs v b free l i ∙ ap (λ z. get_or z v free) e)

closed_all : (us : List Ty) → list_all is_closed us ≡ true → flat_map vars_in us ≡ []
closed_all [] h = refl
closed_all (u ∷ us) h =
    let a = none_of (vars_in u) (and_l (is_closed u) (list_all is_closed us) h) in
    let b = closed_all us (and_r (is_closed u) (list_all is_closed us) h) in
    ap₂ (λ x y. x ++ y) a b

-- an upper bound without variables
pub closed_bound : (n : Table) (s : Written) (r : Row) (ts : List Ty) (w m : ℕ) (o : Option Ty) (u : Ty) (us vs zs : List Ty) → u ≡ high s w → u ≡ V.Nominal m us → vs ≡ us → list_all is_closed vs ≡ true → zs ≡ []
    → TellsBound n opaque s r ts w (high s w) o zs
closed_bound n s r ts w m o u us vs zs e i f c z =
    let k : vars_in (high s w) ≡ [] = ap vars_in (sym e ∙ i) ∙ vars-nominal m us ∙ closed_all us (ap (list_all is_closed) (sym f) ∙ c) in
    subst (TellsBound n opaque s r ts w (high s w) o) (sym z) (tells_closed n opaque s r ts w (high s w) o k)

-- one below which nothing is known
pub unknown_bound : (n : Table) (s : Written) (r : Row) (ts : List Ty) (w k : ℕ) (o x : Option Ty) (zs : List Ty) → k ≡ w + width s * (0 + 1) → x ≡ or_else o (first (map (find_outer opaque k) r.parts) ts) → x ≡ None → zs ≡ []
    → TellsBound n opaque s r ts w (high s w) o zs
unknown_bound n s r ts w k o x zs a e i z =
    subst (TellsBound n opaque s r ts w (high s w) o) (sym z)
    (tells_nothing n opaque s r ts w (high s w) o (sym (ap (λ j. or_else o (first (map (find_outer opaque j) r.parts) ts)) a) ∙ sym e ∙ i))

-- one that something is known to be below
pub some_bound : (n : Table) (s : Written) (r : Row) (ts : List Ty) (w k m : ℕ) (o x : Option Ty) (u t : Ty) (us zs : List Ty) → u ≡ high s w → u ≡ V.Nominal m us → k ≡ w + width s * (0 + 1) → x ≡ or_else o (first (map (find_outer opaque k) r.parts) ts) → x ≡ Some t
    → zs ≡ ancestor n m (first_form (rising opaque t)) → TellsBound n opaque s r ts w (high s w) o zs
some_bound n s r ts w k m o x u t us zs e i a f g z =
    tells_some n opaque s r ts w m (high s w) t us zs o (ap out-Ty (sym e ∙ i) ∙ outs-Nominal m us) (sym (ap (λ j. or_else o (first (map (find_outer opaque j) r.parts) ts)) a) ∙ sym f ∙ g) z

module _ (ds : List Decl) (declared : Declared ds) where
  abbrev n : Table
  n = table_of ds

  pub witness_plain : (parts ts : List Ty) (k : ℕ) (o x : Option Ty) (t : Ty) → AreConcrete ds ts → IsPlainHit ds o → x ≡ or_else o (first (map (find_outer opaque k) parts) ts) → x ≡ Some t → IsPlain ds t
  witness_plain parts ts k o x t types h e i =
      let p : IsPlainHit ds (or_else o (first (map (find_outer opaque k) parts) ts)) =
      else_hit ds declared o (first (map (find_outer opaque k) parts) ts) h (outers_hit ds declared parts ts (types_plain ds declared ts types) k) in
      subst (IsPlainHit ds) (sym e ∙ i) p

  module _ (s : Written) (r : Row) (ts : List Ty) (os : List (Option Ty)) (zss : List (List Ty)) (types : AreConcrete ds ts) (v : ℕ) (o : Option Ty) (b : Bool)
      (xss : List (List Ty)) (same : xss ≡ zss) (walked : Walked n opaque s r ts (v + 1) os zss) (diagonal : b ≡ is_diagonal (kind s v))
      (is : o ≡ cond b (first (map (find_outer opaque v) r.parts) ts) (or_else (first (map (find_inner n opaque v) r.parts) ts) (in_above v (drop (v + 1) s.vars) (drop (v + 1) xss)))) where
    pub hit_is : o ≡ hit n opaque s r ts v (drop (v + 1) s.vars) (drop (v + 1) os)
    hit_is =
        is
        ∙ ap (λ z. cond b (first (map (find_outer opaque v) r.parts) ts) (or_else (first (map (find_inner n opaque v) r.parts) ts) (in_above v (drop (v + 1) s.vars) (drop (v + 1) z)))) same
        ∙ ap (λ c. cond c (first (map (find_outer opaque v) r.parts) ts) (or_else (first (map (find_inner n opaque v) r.parts) ts) (in_above v (drop (v + 1) s.vars) (drop (v + 1) zss)))) diagonal
        ∙ hit_above n opaque s r ts v os zss walked

    pub hit_plain : IsPlainHit ds o
    hit_plain =
        let plain = types_plain ds declared ts types in
        let k : AllHits ds declared (drop (v + 1) os) = subst (AllHits ds declared) (sym walked.are) (all_hits ds declared s r ts plain (v + 1) (drop (v + 1) s.vars)) in
        subst (IsPlainHit ds) (sym hit_is) (one_hit ds declared s r ts plain v (drop (v + 1) s.vars) (drop (v + 1) os) k)

-- from the last variable on
pub walked_before : (n : Table) (s : Written) (r : Row) (ts : List Ty) (m i : ℕ) (os : List (Option Ty)) (zss : List (List Ty)) → i < m → Walked n opaque s r ts (m - i) os zss → Walked n opaque s r ts (m - 1 - i + 1) os zss
walked_before n s r ts m i os zss l h = let e : m - i ≡ m - 1 - i + 1 = omega (arith, l) in subst (λ z. Walked n opaque s r ts z os zss) e h

pub walked_after : (n : Table) (s : Written) (r : Row) (ts : List Ty) (m i : ℕ) (os : List (Option Ty)) (zss : List (List Ty)) → Walked n opaque s r ts (m - 1 - i) os zss → Walked n opaque s r ts (m - (i + 1)) os zss
walked_after n s r ts m i os zss h = let e : m - 1 - i ≡ m - (i + 1) = omega arith in subst (λ z. Walked n opaque s r ts z os zss) e h
