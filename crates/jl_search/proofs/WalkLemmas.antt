-- The two loops of a walk: from the last variable to the first, which lists what is found, and from the first on, which puts the upper
-- bounds where nothing is.
use Rattle.std.proofs.Common.{◌≡◌, ◌∙◌, sym, ap, ap₂, subst, refl, ℕ, zero, suc, ◌+◌, ◌<◌, ◌≤◌, arith, add-one, cond, List, [], ◌∷◌, ◌++◌, map, length, drop, get_or, slice_set, Option, None, Some}
use Rattle.std.proofs.lemmas.List.{drop_all, drop-set, length-set}
use Rattle.std.specs.List.{flat_map}
use Rattle.jl_model.specs.declared.ty.Ty.{Ty}
use Rattle.jl_model.specs.declared.ty.Ty.TheOpen.{Ty-F, Any, Union, Tuple, Nominal, Var}
use Rattle.jl_model.specs.declared.ty.Ty.TheViews.{out-Ty}
use Rattle.jl_model.specs.declared.ty.Ty.TheVariants as W
use Rattle.jl_model.specs.declared.ty.Bound.{Bound}
use Rattle.jl_model.specs.declared.ty.Written.{Written}
use Rattle.jl_model.specs.Rows.{free, width, kind, vars_in, high}
use Rattle.jl_model.specs.Signature.{Row, top, is_diagonal}
use Rattle.jl_model.specs.Subtype.{Table, Fixed, put, at}
use Rattle.jl_model.specs.Found.{first, rising, first_form, find_arg, find_inner, find_outer, find_bound, find_bound_form, arguments_of, ancestor, or_else, or_type, then_find, witness, in_bounds, hit, hits, filled, found}
use Rattle.jl_model.proofs.FormLemmas.{is_nominal, vars-nominal}
use Rattle.jl_model.proofs.PutLemmas.{put-closed}
use Rattle.jl_types.proofs.TableLemmas.{get-past}
use Rattle.jl_search.specs.Walk.{in_above, TellsBound, TellBounds}
use Rattle.jl_search.proofs.HasLemmas.{has_none}
use Rattle.jl_search.proofs.SeekLemmas.{args_in}
use Rattle.jl_search.proofs.FillLemmas.{fill_at, long_fill, long_hits}
use Rattle.jl_search.proofs.ValueLemmas.{Gives, gives_all}

-- a list from a place on
pub drop_at : {A : Type 0} (xs : List A) (i : ℕ) (x : A) → i < length xs → x ≡ get_or xs i x → drop i xs ≡ x ∷ drop (i + 1) xs
drop_at [] i x l e = absurd (omega (arith, l))
drop_at (y ∷ ys) zero x l e = ap (λ z. z ∷ ys) (sym e)
drop_at (y ∷ ys) (suc i) x l e = rw add-one (rw add-one at (drop_at ys i x (omega (arith, l)) e))

pub get_any : {A : Type 0} (xs : List A) (i : ℕ) (x d : A) → i < length xs → x ≡ get_or xs i x → x ≡ get_or xs i d
get_any [] i x d l e = absurd (omega (arith, l))
get_any (y ∷ ys) zero x d l e = e
get_any (y ∷ ys) (suc i) x d l e = get_any ys i x d (omega (arith, l)) e

own_at : {A : Type 0} (xs : List A) (i : ℕ) (d : A) → i < length xs → get_or xs i d ≡ get_or xs i (get_or xs i d)
own_at [] i d l = absurd (omega (arith, l))
own_at (y ∷ ys) zero d l = refl
own_at (y ∷ ys) (suc i) d l = own_at ys i d (omega (arith, l))

-- a search through upper bounds, one after another
pub above_at : (v : ℕ) (bs : List Bound) (zss : List (List Ty)) (i : ℕ) (b : Bound) (zs : List Ty) → i < length bs → i < length zss → b ≡ get_or bs i b → zs ≡ get_or zss i zs
    → in_above v (drop i bs) (drop i zss) ≡ or_else (first (map (find_arg v) (arguments_of (out-Ty b.high))) zs) (in_above v (drop (i + 1) bs) (drop (i + 1) zss))
above_at v bs zss i b zs l m e f = ap₂ (in_above v) (drop_at bs i b l e) (drop_at zss i zs m f)

pub above_past : (v : ℕ) (bs : List Bound) (zss : List (List Ty)) (i : ℕ) → length bs ≤ i → in_above v (drop i bs) zss ≡ None
above_past v bs zss i l = ap (λ z. in_above v z zss) (drop_all i bs l)

some_or_none : {A : Type 0} (P : Option A → Type 0) → P None → ((y : A) → P (Some y)) → (o : Option A) → P o
some_or_none P a b None = a
some_or_none P a b (Some y) = b y

-- in what has no variables none is found
nothing_in : (v : ℕ) (us zs : List Ty) → flat_map vars_in us ≡ [] → first (map (find_arg v) us) zs ≡ None
nothing_in v us zs e = pick (first (map (find_arg v) us) zs) refl
  where
    pick : (o : Option Ty) → first (map (find_arg v) us) zs ≡ o → o ≡ None
    pick None i = refl
    pick (Some y) i = absurd (has_none (flat_map vars_in us) v e (args_in v us zs y i))

nothing_form : (n : Table) (g : Fixed) (v : ℕ) (u t : Ty) (x : Ty-F Ty) → out-Ty u ≡ x → vars_in u ≡ [] → find_bound_form n g v x t ≡ None
nothing_form n g v u t Any i e = refl
nothing_form n g v u t (Union us) i e = refl
nothing_form n g v u t (Tuple us) i e = refl
nothing_form n g v u t (Var w) i e = refl
nothing_form n g v u t (Nominal m us) i e = nothing_in v us (ancestor n m (first_form (rising g t))) (sym (ap vars_in (is_nominal u m us i) ∙ vars-nominal m us) ∙ e)

nothing_found : (n : Table) (g : Fixed) (v : ℕ) (u : Ty) (o : Option Ty) → vars_in u ≡ [] → then_find (find_bound n g v u) o ≡ None
nothing_found n g v u None e = refl
nothing_found n g v u (Some t) e = nothing_form n g v u t (out-Ty u) refl e

no_arguments : (v : ℕ) (us : List Ty) → first (map (find_arg v) us) [] ≡ None
no_arguments v [] = refl
no_arguments v (u ∷ us) = refl

module _ (n : Table) (g : Fixed) (s : Written) (r : Row) (ts : List Ty) where
  -- an upper bound in which nothing is found
  pub tells_none : (w : ℕ) (u : Ty) (o : Option Ty) → ((v : ℕ) → then_find (find_bound n g v u) (witness n g s r ts w o) ≡ None) → TellsBound n g s r ts w u o []
  tells_none w u o h v = no_arguments v (arguments_of (out-Ty u)) ∙ sym (h v)

  pub tells_closed : (w : ℕ) (u : Ty) (o : Option Ty) → vars_in u ≡ [] → TellsBound n g s r ts w u o []
  tells_closed w u o e = tells_none w u o (λ v. nothing_found n g v u (witness n g s r ts w o) e)

  -- one without a nominal type
  pub tells_other : (w : ℕ) (u : Ty) (o : Option Ty) → ((v : ℕ) (t : Ty) → find_bound n g v u t ≡ None) → TellsBound n g s r ts w u o []
  tells_other w u o h = tells_none w u o (λ v. some_or_none (λ x. then_find (find_bound n g v u) x ≡ None) refl (λ t. h v t) (witness n g s r ts w o))

  -- one of which nothing is known
  pub tells_nothing : (w : ℕ) (u : Ty) (o : Option Ty) → witness n g s r ts w o ≡ None → TellsBound n g s r ts w u o []
  tells_nothing w u o e = tells_none w u o (λ v. ap (then_find (find_bound n g v u)) e)

  -- a nominal type that something is known to be below
  pub tells_some : (w m : ℕ) (u t : Ty) (us zs : List Ty) (o : Option Ty) → out-Ty u ≡ Nominal m us → witness n g s r ts w o ≡ Some t → zs ≡ ancestor n m (first_form (rising g t)) → TellsBound n g s r ts w u o zs
  tells_some w m u t us zs o i e z v =
      ap₂ (λ x y. first (map (find_arg v) (arguments_of x)) y) i z
      ∙ sym (ap (then_find (find_bound n g v u)) e ∙ ap (λ x. find_bound_form n g v x t) i)

  pub above_is : (v w : ℕ) (bs : List Bound) (os : List (Option Ty)) (zss : List (List Ty)) → TellBounds n g s r ts w bs os zss → in_above v bs zss ≡ in_bounds n g s r ts v w bs os
  above_is v w [] os zss h = refl
  above_is v w (b ∷ bs) [] zss h = absurd h
  above_is v w (b ∷ bs) (o ∷ os) [] h = absurd h
  above_is v w (b ∷ bs) (o ∷ os) (zs ∷ zss) h = ap₂ or_else (h.0 v) (above_is v (w + 1) bs os zss h.1)

  -- the lists from v on are made
  pub record Walked (v : ℕ) (os : List (Option Ty)) (zss : List (List Ty)) : Type 0 where
    pub long : length os ≡ width s
    pub wide : length zss ≡ width s
    pub are : drop v os ≡ hits n g s r ts v (drop v s.vars)
    pub tell : TellBounds n g s r ts v (drop v s.vars) (drop v os) (drop v zss)

  pub walk_start : (os : List (Option Ty)) (zss : List (List Ty)) → length os ≡ width s → length zss ≡ width s → Walked (width s) os zss
  walk_start os zss l m = record {
    long = l;
    wide = m;
    are = drop_all (width s) os (omega (arith, l)) ∙ sym (ap (hits n g s r ts (width s)) (drop_all (width s) s.vars (omega arith)));
    tell = subst (λ z. TellBounds n g s r ts (width s) z (drop (width s) os) (drop (width s) zss)) (sym (drop_all (width s) s.vars (omega arith))) tt;
  }

  -- what is found for v by the lists from the next on
  pub hit_above : (v : ℕ) (os : List (Option Ty)) (zss : List (List Ty)) → Walked (v + 1) os zss
      → cond (is_diagonal (kind s v)) (first (map (find_outer g v) r.parts) ts) (or_else (first (map (find_inner n g v) r.parts) ts) (in_above v (drop (v + 1) s.vars) (drop (v + 1) zss)))
      ≡ hit n g s r ts v (drop (v + 1) s.vars) (drop (v + 1) os)
  hit_above v os zss h =
      ap (λ z. cond (is_diagonal (kind s v)) (first (map (find_outer g v) r.parts) ts) (or_else (first (map (find_inner n g v) r.parts) ts) z))
      (above_is v (v + 1) (drop (v + 1) s.vars) (drop (v + 1) os) (drop (v + 1) zss) h.tell)

  pub walk_step : (v : ℕ) (os : List (Option Ty)) (zss : List (List Ty)) (o : Option Ty) (zs : List Ty) → v < width s → Walked (v + 1) os zss
      → o ≡ hit n g s r ts v (drop (v + 1) s.vars) (drop (v + 1) os) → TellsBound n g s r ts v (high s v) o zs → Walked v (slice_set os v o) (slice_set zss v zs)
  walk_step v os zss o zs l h e t = record {
    long = length-set os v o ∙ h.long;
    wide = length-set zss v zs ∙ h.wide;
    are = front ∙ ap₂ (λ x y. x ∷ y) e h.are ∙ ap (λ z. hit n g s r ts v (drop (v + 1) s.vars) z ∷ hits n g s r ts (v + 1) (drop (v + 1) s.vars)) h.are ∙ sym (ap (hits n g s r ts v) back);
    tell = subst (λ z. TellBounds n g s r ts v z (drop v (slice_set os v o)) (drop v (slice_set zss v zs))) (sym back)
        (subst (λ z. TellBounds n g s r ts v (get_or s.vars v free ∷ drop (v + 1) s.vars) z (drop v (slice_set zss v zs))) (sym front)
        (subst (TellBounds n g s r ts v (get_or s.vars v free ∷ drop (v + 1) s.vars) (o ∷ drop (v + 1) os)) (sym (drop-set zss v zs (omega (arith, l, h.wide)))) (t, h.tell)));
  }
    where
      front : drop v (slice_set os v o) ≡ o ∷ drop (v + 1) os
      front = drop-set os v o (omega (arith, l, h.long))

      back : drop v s.vars ≡ get_or s.vars v free ∷ drop (v + 1) s.vars
      back = drop_at s.vars v (get_or s.vars v free) l (own_at s.vars v free l)

  -- one value more
  pub fill_step : (done : List Ty) (os : List (Option Ty)) (o : Option Ty) (t : Ty) (new : List Ty) (whole : List Ty) → length done < length os → o ≡ get_or os (length done) o
      → t ≡ or_type o (put (at done) (top s r (length done))) → new ≡ done ++ t ∷ [] → filled n g s r ts done (drop (length done) os) ≡ whole
      → filled n g s r ts new (drop (length done + 1) os) ≡ whole
  fill_step done os o t new whole l e f q h =
      ap (λ z. filled n g s r ts z (drop (length done + 1) os)) (q ∙ ap (λ z. done ++ z ∷ []) f) ∙ sym (ap (filled n g s r ts done) (drop_at os (length done) o l e)) ∙ h

  pub fill_end : (done : List Ty) (os : List (Option Ty)) (whole : List Ty) → length os ≤ length done → filled n g s r ts done (drop (length done) os) ≡ whole → done ≡ whole
  fill_end done os whole l h = sym (ap (filled n g s r ts done) (drop_all (length done) os l)) ∙ h

  -- WHERE NO BOUND MENTIONS VARIABLES each value is what is found in the row, else the upper bound
  module _ (closed : (v : ℕ) → v < width s → vars_in (high s v) ≡ []) (tops : (v : ℕ) → v < width s → vars_in (top s r v) ≡ []) where
    abbrev row_hit : ℕ → Option Ty
    row_hit v = cond (is_diagonal (kind s v)) (first (map (find_outer g v) r.parts) ts) (first (map (find_inner n g v) r.parts) ts)

    abbrev AllClosed : List Bound → Type 0
    AllClosed [] = Unit {0}
    AllClosed (b ∷ bs) = (vars_in b.high ≡ []) × AllClosed bs

    closed_from : (bs : List Bound) → ((i : ℕ) → i < length bs → vars_in (get_or bs i free).high ≡ []) → AllClosed bs
    closed_from [] h = tt
    closed_from (b ∷ bs) h = (h 0 (omega arith), closed_from bs (λ i l. h (suc i) (omega (arith, l))))

    none_in_bounds : (v w : ℕ) (bs : List Bound) (os : List (Option Ty)) → AllClosed bs → in_bounds n g s r ts v w bs os ≡ None
    none_in_bounds v w [] os h = refl
    none_in_bounds v w (b ∷ bs) [] h = refl
    none_in_bounds v w (b ∷ bs) (o ∷ os) h = ap₂ or_else (nothing_found n g v b.high (witness n g s r ts w o) h.0) (none_in_bounds v (w + 1) bs os h.1)

    or_else_none : (o : Option Ty) → or_else o None ≡ o
    or_else_none None = refl
    or_else_none (Some y) = refl

    hit_row : (v : ℕ) (bs : List Bound) (os : List (Option Ty)) → AllClosed bs → hit n g s r ts v bs os ≡ row_hit v
    hit_row v bs os h =
        ap (λ z. cond (is_diagonal (kind s v)) (first (map (find_outer g v) r.parts) ts) z)
        (ap (or_else (first (map (find_inner n g v) r.parts) ts)) (none_in_bounds v (v + 1) bs os h) ∙ or_else_none (first (map (find_inner n g v) r.parts) ts))

    hits_row : (v : ℕ) (bs : List Bound) → AllClosed bs → (i : ℕ) → i < length bs → get_or (hits n g s r ts v bs) i None ≡ row_hit (v + i)
    hits_row v [] h i l = absurd (omega (arith, l))
    hits_row v (b ∷ bs) h zero l = hit_row v bs (hits n g s r ts (v + 1) bs) h.1 ∙ ap row_hit (omega arith)
    hits_row v (b ∷ bs) h (suc i) l = hits_row (v + 1) bs h.1 i (omega (arith, l)) ∙ ap row_hit (omega arith)

    abbrev hs : List (Option Ty)
    hs = hits n g s r ts 0 s.vars

    pub found_row : (v : ℕ) → v < width s → found n g s r ts v ≡ or_type (row_hit v) (top s r v)
    found_row v l =
        let e : 0 + v ≡ v = omega arith in
        let c : vars_in (top s r (0 + v)) ≡ [] = ap (λ z. vars_in (top s r z)) e ∙ tops v l in
        let a = fill_at n g s r ts [] hs v (omega (arith, l, long_hits n g s r ts 0 s.vars)) (λ w k. absurd (has_none (vars_in (top s r (0 + v))) w c k)) in
        ap (found n g s r ts) (sym e) ∙ a
        ∙ ap₂ or_type (hits_row 0 s.vars (closed_from s.vars closed) v l ∙ ap row_hit e) (put-closed (found n g s r ts) (top s r (0 + v)) c ∙ ap (top s r) e)

  pub long_found : length (filled n g s r ts [] (hits n g s r ts 0 s.vars)) ≡ width s
  long_found = omega (arith, long_fill n g s r ts [] (hits n g s r ts 0 s.vars), long_hits n g s r ts 0 s.vars)

  -- past the last variable nothing is found
  pub found_past : (v : ℕ) → width s ≤ v → found n g s r ts v ≡ W.Any
  found_past v l = get-past (filled n g s r ts [] (hits n g s r ts 0 s.vars)) v W.Any (omega (arith, l, long_found))

  pub values_found : (vs : List Ty) → length vs ≡ width s → Gives (found n g s r ts) vs → at vs ≡ found n g s r ts
  values_found vs l h = gives_all (found n g s r ts) vs h (λ v k. found_past v (omega (arith, l, k)))

pub ruleset going_on = (above_at, above_past)
