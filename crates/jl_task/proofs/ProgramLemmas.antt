-- The parts of a valid program are good where they stand: the bodies of its sites, the expressions of its spawn places, and the statements at the top.
use Rattle.std.proofs.Common.{◌≡◌, ◌∙◌, refl, sym, ap, subst, ℕ, zero, suc, ◌+◌, ◌-◌, ◌<◌, ◌≤◌, arith, Bool, true, false, ◌||◌, nat_eq, All, List, [], ◌∷◌, ◌++◌, length, drop, get_or, Some, slice_get, append_assoc}
use Rattle.std.specs.List.{flat_map, list_any}
use Rattle.std.proofs.lemmas.List.Elements.{All-head, All-tail}
use Rattle.std.proofs.lemmas.List.Folds.{list_any-append}
use Rattle.jl_model.specs.declared.ty.Written.{Written}
use Rattle.jl_program.specs.declared.tree.Expr.{Expr}
use Rattle.jl_program.specs.declared.tree.Site.{Site}
use Rattle.jl_program.specs.declared.tree.Program.{Program}
use Rattle.jl_program.specs.BodyTypes.{IsAllowedType, IsSmallStruct}
use Rattle.jl_program.specs.Gathered.{of_expr, of_item, own_types, own_struct, written_types, inferred_structs}
use Rattle.jl_program.specs.Prelude.{prelude_count}
use Rattle.jl_program.specs.Scope.{View, nothing_seen, at_top, in_body, in_task, all_types, is_valid_expr, are_valid_tasks}
use Rattle.jl_program.specs.Valid.{IsValid, IsValidSite}
use Rattle.jl_calculus.specs.Views.{view_at, views_from}
use Rattle.jl_calculus.proofs.ViewLemmas.{views_are}
use Rattle.jl_task.specs.ValidPoint.{Every, IsInferred, IsClean, IsGood, AreGoodItems}
use Rattle.jl_task.proofs.GoodLayers.{both_true, clean_split, turns_are_good}

-- ---- each of a list

pub all_every : {X : Type 0} (A : X → Type 0) (xs : List X) → All A xs → Every A xs
all_every A [] h = tt
all_every A (x ∷ xs) h = (All-head A x xs h, all_every A xs (All-tail A x xs h))

every_at : {X : Type 0} (A : X → Type 0) (xs : List X) (i : ℕ) (x : X) → Every A xs → slice_get xs i ≡ Some x → A x
every_at A [] i x h e = cc
every_at A (y ∷ ys) zero x h e = let f : y ≡ x = cc in subst A f h.0
every_at A (y ∷ ys) (suc i) x h e = every_at A ys i x h.1 e

get_drop : {X : Type 0} (k i : ℕ) (xs : List X) → slice_get (drop k xs) i ≡ slice_get xs (k + i)
get_drop zero i xs = ap (slice_get xs) (let z : i ≡ 0 + i = omega arith in z)
get_drop (suc k) i [] = refl
get_drop (suc k) i (x ∷ xs) = get_drop k i xs ∙ sym (ap (slice_get (x ∷ xs)) (let z : suc k + i ≡ suc (k + i) = omega arith in z))

or_right : (a b : Bool) → b ≡ true → (a || b) ≡ true
or_right true b h = refl
or_right false b h = h

or_left : (a b : Bool) → a ≡ true → (a || b) ≡ true
or_left true b h = refl
or_left false b h = cc

-- each of these is among them
are_among : (before ns : List ℕ) → Every (λ n. list_any (nat_eq n) (before ++ ns) ≡ true) ns
are_among before [] = tt
are_among before (n ∷ ns) =
    let same : nat_eq n n ≡ true = grind arith in
    let first : list_any (nat_eq n) (n ∷ ns) ≡ true = or_left (nat_eq n n) (list_any (nat_eq n) ns) same in
    let here : list_any (nat_eq n) (before ++ n ∷ ns) ≡ true = list_any-append (nat_eq n) before (n ∷ ns) ∙ or_right (list_any (nat_eq n) before) (list_any (nat_eq n) (n ∷ ns)) first in
    (here, subst (λ ms. Every (λ m. list_any (nat_eq m) ms ≡ true) ns) (append_assoc before (n ∷ []) ns) (are_among (before ++ n ∷ []) ns))

module _ (P : Program) where
  inferred_of : (ns : List ℕ) → Every (λ n. list_any (nat_eq n) (inferred_structs P) ≡ true) ns → Every (IsSmallStruct (all_types P)) ns → Every (IsInferred P) ns
  inferred_of [] h k = tt
  inferred_of (n ∷ ns) h k = (record { called = h.0; small = k.0 }, inferred_of ns h.1 k.1)

  abbrev Clean : List Written → List ℕ → Type 0
  Clean ts ns = IsClean P ts ns

  -- what is written in one of a list of parts
  clean_at : {X : Type 0} (f : X → List Written) (g : X → List ℕ) (views : List View) (xs : List X) (i : ℕ) (x : X) → Clean (flat_map f xs) (flat_map g xs) → slice_get xs i ≡ Some x → Clean (f x) (g x)
  clean_at f g views [] i x c e = cc
  clean_at f g views (y ∷ ys) zero x c e =
      let is : y ≡ x = cc in
      subst (λ z. Clean (f z) (g z)) is (clean_split P views (f y) (flat_map f ys) (g y) (flat_map g ys) c).0
  clean_at f g views (y ∷ ys) (suc i) x c e = clean_at f g views ys i x (clean_split P views (f y) (flat_map f ys) (g y) (flat_map g ys) c).1 e

  module _ (v : IsValid P) where
    all_clean : Clean (written_types P) (inferred_structs P)
    all_clean = record {
      written = all_every (IsAllowedType (all_types P)) (written_types P) v.written;
      inferred = inferred_of (inferred_structs P) (are_among [] (inferred_structs P)) (all_every (IsSmallStruct (all_types P)) (inferred_structs P) v.inferred);
    }

    abbrev site_types : Site → List Written
    site_types x = of_expr own_types x.body

    abbrev site_structs : Site → List ℕ
    site_structs x = of_expr own_struct x.body

    abbrev TS : List Written
    TS = flat_map site_types P.sites

    abbrev US : List Written
    US = flat_map (of_expr own_types) P.spawns

    abbrev NS : List ℕ
    NS = flat_map site_structs P.sites

    abbrev MS : List ℕ
    MS = flat_map (of_expr own_struct) P.spawns

    outer_clean : Clean (TS ++ US) (NS ++ MS) × Clean (flat_map (of_item own_types) P.top) (flat_map (of_item own_struct) P.top)
    outer_clean = clean_split P v.views (TS ++ US) (flat_map (of_item own_types) P.top) (NS ++ MS) (flat_map (of_item own_struct) P.top) all_clean

    inner_clean : Clean TS NS × Clean US MS
    inner_clean = clean_split P v.views TS US NS MS outer_clean.0

    -- ---- the bodies of the sites of the script

    pub valid_site : (site : ℕ) (x : Site) → slice_get P.sites site ≡ Some x → prelude_count ≤ site → IsValidSite P v.views x
    valid_site site x e low =
        let is : prelude_count + (site - prelude_count) ≡ site = omega (arith, low) in
        every_at (IsValidSite P v.views) (drop prelude_count P.sites) (site - prelude_count) x (all_every (IsValidSite P v.views) (drop prelude_count P.sites) v.sites)
        (get_drop prelude_count (site - prelude_count) P.sites ∙ ap (slice_get P.sites) is ∙ e)

    pub body_good : (site : ℕ) (x : Site) → slice_get P.sites site ≡ Some x → prelude_count ≤ site → IsGood P v.views x.body (in_body x.sig)
    body_good site x e low = record { valid = (valid_site site x e low).body; clean = clean_at site_types site_structs v.views P.sites site x inner_clean.0 e }

    -- ---- the expressions of the spawn places

    tasks_at : (place : ℕ) (vs : List View) (es : List Expr) (i : ℕ) (e : Expr) → are_valid_tasks P v.views place vs es ≡ true → slice_get es i ≡ Some e
        → is_valid_expr P v.views e (in_task (place + i) (get_or vs i nothing_seen)) ≡ true
    tasks_at place [] [] i e h g = cc
    tasks_at place [] (x ∷ es) i e h g = cc
    tasks_at place (w ∷ vs) [] i e h g = cc
    tasks_at place (w ∷ vs) (x ∷ es) zero e h g =
        let is : x ≡ e = cc in
        let same : place ≡ place + 0 = omega arith in
        subst (λ k. is_valid_expr P v.views e (in_task k w) ≡ true) same
        (subst (λ z. is_valid_expr P v.views z (in_task place w) ≡ true) is (both_true (is_valid_expr P v.views x (in_task place w)) (are_valid_tasks P v.views (place + 1) vs es) h).0)
    tasks_at place (w ∷ vs) (x ∷ es) (suc i) e h g =
        let same : place + 1 + i ≡ place + suc i = omega arith in
        subst (λ k. is_valid_expr P v.views e (in_task k (get_or vs i nothing_seen)) ≡ true) same
        (tasks_at (place + 1) vs es i e (both_true (is_valid_expr P v.views x (in_task place w)) (are_valid_tasks P v.views (place + 1) vs es) h).1 g)

    tasks_long : (place : ℕ) (vs : List View) (es : List Expr) → are_valid_tasks P v.views place vs es ≡ true → length vs ≡ length es
    tasks_long place [] [] h = refl
    tasks_long place [] (e ∷ es) h = cc
    tasks_long place (w ∷ vs) [] h = cc
    tasks_long place (w ∷ vs) (e ∷ es) h = ap suc (tasks_long (place + 1) vs es (both_true (is_valid_expr P v.views e (in_task place w)) (are_valid_tasks P v.views (place + 1) vs es) h).1)

    -- as many views as spawn places
    pub views_long : length v.views ≡ length P.spawns
    views_long = tasks_long 0 v.views P.spawns v.tasks

    seen_from : (place i : ℕ) (es : List Expr) → i < length es → get_or (views_from P place es) i nothing_seen ≡ view_at P (place + i)
    seen_from place i [] l = absurd (omega (arith, l))
    seen_from place zero (e ∷ es) l = ap (view_at P) (let z : place ≡ place + 0 = omega arith in z)
    seen_from place (suc i) (e ∷ es) l = seen_from (place + 1) i es (omega (arith, l)) ∙ ap (view_at P) (let z : place + 1 + i ≡ place + suc i = omega arith in z)

    -- what is visible at a spawn place
    pub seen_at : (place : ℕ) → place < length P.spawns → get_or v.views place nothing_seen ≡ view_at P place
    seen_at place l =
        ap (λ vs. get_or vs place nothing_seen) (sym (views_are P v)) ∙ seen_from 0 place P.spawns l ∙ ap (view_at P) (let z : 0 + place ≡ place = omega arith in z)

    pub spawned_good : (place : ℕ) (e : Expr) → place < length P.spawns → slice_get P.spawns place ≡ Some e → IsGood P v.views e (in_task place (view_at P place))
    spawned_good place e l g =
        let same : 0 + place ≡ place = omega arith in
        let valid : is_valid_expr P v.views e (in_task place (get_or v.views place nothing_seen)) ≡ true
        = subst (λ k. is_valid_expr P v.views e (in_task k (get_or v.views place nothing_seen)) ≡ true) same (tasks_at 0 v.views P.spawns place e v.tasks g) in
        record {
          valid = subst (λ w. is_valid_expr P v.views e (in_task place w) ≡ true) (seen_at place l) valid;
          clean = clean_at (of_expr own_types) (of_expr own_struct) v.views P.spawns place e inner_clean.1 g;
        }

    -- ---- the statements at the top

    pub top_good : AreGoodItems P v.views false P.top at_top
    top_good = turns_are_good P v.views P.top at_top v.top outer_clean.1
