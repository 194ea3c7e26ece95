-- What parts add comes together as the parts do.
use Rattle.std.proofs.Common.{cond, nat_eq, nat_lt, ltb-true, ltb-false, ◌≡◌, ◌∙◌, ap, sym, refl, subst, ℕ, ◌+◌, ◌≤◌, ◌<◌, arith, Bool, true, false, ◌&&◌, List, [], ◌∷◌, ◌++◌, length, get_or, None, append_assoc, length-append, append-nil}
use Rattle.std.proofs.Math.Seq.{get_or-append_seam}
use Rattle.std.proofs.lemmas.List.{map-append}
use Rattle.jl_program.specs.declared.tree.Expr.{Expr as Code}
use Rattle.jl_program.specs.declared.tree.Program.{Program}
use Rattle.jl_program.specs.declared.tree.Site.{Site}
use Rattle.jl_program.specs.BodyTypes.{IsAllowedType, IsSmallStruct}
use Rattle.jl_program.specs.Gathered.{Layer, of_expr, own_place, own_types, own_struct, times}
use Rattle.jl_program.specs.Scope.{View, Scope as Standing, in_task, is_valid_expr, are_valid_tasks, nothing_seen}
use Rattle.jl_program.specs.Valid.{IsValidSite}
use Rattle.jl_grammar.specs.declared.tree.Name.{Name}
use Rattle.jl_resolve_forms.specs.declared.known.Known.{Known}
use Rattle.jl_resolve_forms.specs.declared.state.State.{State}
use Rattle.jl_valid.specs.Adds.{Got, got, no_got, got_both, got_in, got_codes, gathered, bodies, AreAllowed, stands, Gathers, Every, IsFree, IsGoodDelete, Fits, Views, Within, Adds}
use Rattle.jl_valid.specs.Parts.{standing, Passes}

-- tests
pub and : (a b : Bool) → a ≡ true → b ≡ true → (a && b) ≡ true
and true b p q = q
and false b p q = cc

pub left : (a b : Bool) → (a && b) ≡ true → a ≡ true
left true b e = refl
left false b e = cc

pub right : (a b : Bool) → (a && b) ≡ true → b ≡ true
right true b e = e
right false b e = cc

-- members
pub every_append : {X : Type 0} (Is : X → Type 0) (xs ys : List X) → Every Is xs → Every Is ys → Every Is (xs ++ ys)
every_append Is [] ys p q = q
every_append Is (x ∷ xs) ys p q = (p.0, every_append Is xs ys p.1 q)

-- lengths behind a part
pub longer : {X : Type 0} (a b more : List X) → b ≡ a ++ more → length b ≡ length a + length more
longer a b more e = ap length e ∙ length-append a more

pub not_shorter : {X : Type 0} (a b more : List X) → b ≡ a ++ more → length a ≤ length b
not_shorter a b more e = omega (arith, longer a b more e)

-- views
pub first_views : (all : List View) (n : ℕ) (a b : List View) → Views all n (a ++ b) → Views all n a
first_views all n a b h = record {
  before = h.before;
  behind = b ++ h.behind;
  is = h.is ∙ ap (λ z. h.before ++ z) (append_assoc a b h.behind);
  at = h.at;
}

pub last_views : (all : List View) (n m : ℕ) (a b : List View) → m ≡ n + length a → Views all n (a ++ b) → Views all m b
last_views all n m a b e h = record {
  before = h.before ++ a;
  behind = h.behind;
  is = h.is ∙ ap (λ z. h.before ++ z) (append_assoc a b h.behind) ∙ sym (append_assoc h.before a (b ++ h.behind));
  at = length-append h.before a ∙ ap (λ z. z + length a) h.at ∙ sym e;
}

pub view_at : (all : List View) (n : ℕ) (v : View) (more : List View) → Views all n (v ∷ more) → get_or all n nothing_seen ≡ v
view_at all n v more h =
    ap (λ z. get_or all z nothing_seen) (sym h.at)
    ∙ ap (λ z. get_or z (length h.before) nothing_seen) h.is
    ∙ get_or-append_seam h.before v (more ++ h.behind) nothing_seen

pub view_within : (all : List View) (n : ℕ) (v : View) (more : List View) → Views all n (v ∷ more) → n < length all
view_within all n v more h = omega (arith, h.at, ap length h.is, length-append h.before ((v ∷ more) ++ h.behind), length-append (v ∷ more) h.behind)

-- tasks
pub tasks_append :
    (P : Program) (all : List View) (n m : ℕ) (vs ws : List View) (xs ys : List Code) → length vs ≡ length xs → m ≡ n + length xs
    → are_valid_tasks P all n vs xs ≡ true → are_valid_tasks P all m ws ys ≡ true → are_valid_tasks P all n (vs ++ ws) (xs ++ ys) ≡ true
tasks_append P all n m [] ws [] ys l e p q = subst (λ z. are_valid_tasks P all z ws ys ≡ true) (omega (arith, e)) q
tasks_append P all n m [] ws (x ∷ xs) ys l e p q = absurd (omega (arith, l))
tasks_append P all n m (v ∷ vs) ws [] ys l e p q = absurd (omega (arith, l))
tasks_append P all n m (v ∷ vs) ws (x ∷ xs) ys l e p q =
    let one = is_valid_expr P all x (in_task n v) in
    let rest = are_valid_tasks P all (n + 1) vs xs in
    and one (are_valid_tasks P all (n + 1) (vs ++ ws) (xs ++ ys)) (left one rest p)
    (tasks_append P all (n + 1) m vs ws xs ys (omega (arith, l)) (omega (arith, e)) (right one rest p) q)

-- a program that fits a later state fits an earlier one
pub fits_before : (k : Known) (n m : ℕ) (P : Program) → n ≤ m → Fits k m P → Fits k n P
fits_before k n m P l h = record { functions = h.functions; types = h.types; count = omega (arith, l, h.count) }

-- ---- what stands in a part

pub times_append : (p : ℕ) (xs ys : List ℕ) → times p (xs ++ ys) ≡ times p xs + times p ys
times_append p [] ys = omega arith
times_append p (x ∷ xs) ys = by (nat_eq p x) (times_append p xs ys)
  where
    by : (b : Bool) → times p (xs ++ ys) ≡ times p xs + times p ys → cond b (1 + times p (xs ++ ys)) (times p (xs ++ ys)) ≡ cond b (1 + times p xs) (times p xs) + times p ys
    by true h = omega (arith, h)
    by false h = h

pub gathered_append : {A : Type 0} (own : Layer A → List A) (xs ys : List Code) → gathered own (xs ++ ys) ≡ gathered own xs ++ gathered own ys
gathered_append own [] ys = refl
gathered_append own (x ∷ xs) ys = ap (λ z. of_expr own x ++ z) (gathered_append own xs ys) ∙ sym (append_assoc (of_expr own x) (gathered own xs) (gathered own ys))

pub codes_append : (xs ys : List Code) → got_codes (xs ++ ys) ≡ got_both (got_codes xs) (got_codes ys)
codes_append xs ys = λ i. got (gathered_append own_place xs ys i) (gathered_append own_types xs ys i) (gathered_append own_struct xs ys i)

module _ (k : Known) where
  pub none_allowed : AreAllowed k no_got
  none_allowed = record { types = tt; structs = tt }

  pub both_allowed : (a b : Got) → AreAllowed k a → AreAllowed k b → AreAllowed k (got_both a b)
  both_allowed a b h g = record {
    types = every_append (IsAllowedType k.decls) a.types b.types h.types g.types;
    structs = every_append (IsSmallStruct k.decls) a.structs b.structs h.structs g.structs;
  }

  pub codes_allowed : (xs ys : List Code) → AreAllowed k (got_codes xs) → AreAllowed k (got_codes ys) → AreAllowed k (got_codes (xs ++ ys))
  codes_allowed xs ys h g = subst (λ a. AreAllowed k a) (sym (codes_append xs ys)) (both_allowed (got_codes xs) (got_codes ys) h g)

  -- two parts one after another
  module _ (n m l : ℕ) (sites more : List Site) (spawns later : List Code) (a b : Got) (first : n ≤ m) (last : m ≤ l) (h : Gathers k n m sites spawns a) (g : Gathers k m l more later b) where
    bodies_append : bodies (sites ++ more) ≡ bodies sites ++ bodies more
    bodies_append = map-append (λ (site : Site). site.body) sites more

    in_codes : (p : ℕ) (xs ys : List Code) → times p (got_codes (xs ++ ys)).places ≡ times p (got_codes xs).places + times p (got_codes ys).places
    in_codes p xs ys = ap (times p) (gathered_append own_place xs ys) ∙ times_append p (got_codes xs).places (got_codes ys).places

    sum : (p : ℕ) → stands p (sites ++ more) (spawns ++ later) (got_both a b) ≡ stands p sites spawns a + stands p more later b
    sum p =
        let in_bodies = ap (λ z. times p (got_codes z).places) bodies_append ∙ in_codes p (bodies sites) (bodies more) in
        omega (arith, in_bodies, in_codes p spawns later, times_append p a.places b.places)

    once : (p : ℕ) → n ≤ p → p < l → stands p (sites ++ more) (spawns ++ later) (got_both a b) ≡ 1
    once p low high = by (nat_lt p m) refl
      where
        by : (x : Bool) → nat_lt p m ≡ x → stands p (sites ++ more) (spawns ++ later) (got_both a b) ≡ 1
        by true e = let here = ltb-true p m e in omega (arith, sum p, h.once p low here, g.before p here)
        by false e = let here = ltb-false p m e in omega (arith, sum p, h.behind p here, g.once p here high)

    pub gathers_both : Gathers k n l (sites ++ more) (spawns ++ later) (got_both a b)
    gathers_both = record {
      once = once;
      before = λ p low. omega (arith, sum p, h.before p low, g.before p (omega (arith, low, first)));
      behind = λ p high. omega (arith, sum p, h.behind p (omega (arith, last, high)), g.behind p high);
      in_sites = subst (λ z. AreAllowed k (got_codes z)) (sym bodies_append) (codes_allowed (bodies sites) (bodies more) h.in_sites g.in_sites);
      in_spawns = codes_allowed spawns later h.in_spawns g.in_spawns;
      here = both_allowed a b h.here g.here;
    }

  pub gathers_none : (n : ℕ) → Gathers k n n [] [] no_got
  gathers_none n = record {
    once = λ p low high. absurd (omega (arith, low, high));
    before = λ p l. refl;
    behind = λ p l. refl;
    in_sites = none_allowed;
    in_spawns = none_allowed;
    here = none_allowed;
  }

  -- what is allowed and has no place may stand in front
  pub gathers_more : (n m : ℕ) (sites : List Site) (spawns : List Code) (own a : Got) → own.places ≡ [] → AreAllowed k own → Gathers k n m sites spawns a → Gathers k n m sites spawns (got_both own a)
  gathers_more n m sites spawns own a e h g =
      let same : (p : ℕ) → times p (own.places ++ a.places) ≡ times p a.places = λ p. ap (λ z. times p (z ++ a.places)) e in
      record {
        once = λ p low high. omega (arith, same p, g.once p low high);
        before = λ p low. omega (arith, same p, g.before p low);
        behind = λ p high. omega (arith, same p, g.behind p high);
        in_sites = g.in_sites;
        in_spawns = g.in_spawns;
        here = both_allowed own a h g.here;
      }

module _ (k : Known) where
  -- a part that adds nothing
  pub nothing : (s : State) (Holds : Program → List View → Type 0) → s.fault ≡ None → ((P : Program) (all : List View) → Fits k (length s.sites) P → Holds P all) → Adds k s s [] no_got Holds
  nothing s Holds e h = record {
    clean = e;
    sites = [];
    spawns = [];
    deletes = [];
    views = [];
    sites_are = sym (append-nil s.sites);
    spawns_are = sym (append-nil s.spawns);
    deletes_are = sym (append-nil s.deletes);
    as_many = refl;
    free = tt;
    deletions = tt;
    gathers = gathers_none k (length s.spawns);
    valid = λ P all w. tt;
    tasks = λ P all w. refl;
    holds = λ P all w. h P all w.fits;
  }

  -- what holds may be said otherwise
  pub told : (s z : State) (ns : List Name) (a : Got) (A B : Program → List View → Type 0) → Adds k s z ns a A → ((P : Program) (all : List View) → Fits k (length z.sites) P → A P all → B P all) → Adds k s z ns a B
  told s z ns a A B h f = record {
    clean = h.clean;
    sites = h.sites;
    spawns = h.spawns;
    deletes = h.deletes;
    views = h.views;
    sites_are = h.sites_are;
    spawns_are = h.spawns_are;
    deletes_are = h.deletes_are;
    as_many = h.as_many;
    free = h.free;
    deletions = h.deletions;
    gathers = h.gathers;
    valid = h.valid;
    tasks = h.tasks;
    holds = λ P all w. f P all w.fits (h.holds P all w);
  }

  module _ (s m z : State) (ns ms : List Name) (a b : Got) (A B : Program → List View → Type 0) (h : Adds k s m ns a A) (g : Adds k m z ms b B) where
    places : length m.spawns ≡ length s.spawns + length h.views
    places = longer s.spawns m.spawns h.spawns h.spawns_are ∙ ap (λ z. length s.spawns + z) (sym h.as_many)

    first_within : (P : Program) (all : List View) → Within k s z (h.views ++ g.views) P all → Within k s m h.views P all
    first_within P all w = record {
      fits = fits_before k (length m.sites) (length z.sites) P (not_shorter m.sites z.sites g.sites g.sites_are) w.fits;
      seen = first_views all (length s.spawns) h.views g.views w.seen;
      prelude = w.prelude;
      deletes = omega (arith, w.deletes, not_shorter m.deletes z.deletes g.deletes g.deletes_are);
    }

    last_within : (P : Program) (all : List View) → Within k s z (h.views ++ g.views) P all → Within k m z g.views P all
    last_within P all w = record {
      fits = w.fits;
      seen = last_views all (length s.spawns) (length m.spawns) h.views g.views places w.seen;
      prelude = omega (arith, w.prelude, not_shorter s.sites m.sites h.sites h.sites_are);
      deletes = w.deletes;
    }

    -- two parts one after another
    pub both : Adds k s z (ns ++ ms) (got_both a b) (λ P all. A P all × B P all)
    both = record {
      clean = h.clean;
      sites = h.sites ++ g.sites;
      spawns = h.spawns ++ g.spawns;
      deletes = h.deletes ++ g.deletes;
      views = h.views ++ g.views;
      sites_are = g.sites_are ∙ ap (λ y. y ++ g.sites) h.sites_are ∙ append_assoc s.sites h.sites g.sites;
      spawns_are = g.spawns_are ∙ ap (λ y. y ++ g.spawns) h.spawns_are ∙ append_assoc s.spawns h.spawns g.spawns;
      deletes_are = g.deletes_are ∙ ap (λ y. y ++ g.deletes) h.deletes_are ∙ append_assoc s.deletes h.deletes g.deletes;
      as_many = length-append h.views g.views ∙ ap (λ y. y + length g.views) h.as_many ∙ ap (λ y. length h.spawns + y) g.as_many ∙ sym (length-append h.spawns g.spawns);
      free = every_append IsFree ns ms h.free g.free;
      deletions = every_append (IsGoodDelete k) h.deletes g.deletes h.deletions g.deletions;
      gathers = gathers_both k (length s.spawns) (length m.spawns) (length z.spawns) h.sites g.sites h.spawns g.spawns a b
          (not_shorter s.spawns m.spawns h.spawns h.spawns_are) (not_shorter m.spawns z.spawns g.spawns g.spawns_are) h.gathers g.gathers;
      valid = λ P all w. every_append (IsValidSite P all) h.sites g.sites (h.valid P all (first_within P all w)) (g.valid P all (last_within P all w));
      tasks = λ P all w. tasks_append P all (length s.spawns) (length m.spawns) h.views g.views h.spawns g.spawns h.as_many
          (longer s.spawns m.spawns h.spawns h.spawns_are) (h.tasks P all (first_within P all w)) (g.tasks P all (last_within P all w));
      holds = λ P all w. (h.holds P all (first_within P all w), g.holds P all (last_within P all w));
    }

  -- a state may be written otherwise
  pub ends_at : (s z y : State) (ns : List Name) (a : Got) (A : Program → List View → Type 0) → y ≡ z → Adds k s z ns a A → Adds k s y ns a A
  ends_at s z y ns a A e h = subst (λ (w : State). Adds k s w ns a A) (sym e) h

  pub names_are : (s z : State) (ns ms : List Name) (a : Got) (A : Program → List View → Type 0) → ms ≡ ns → Adds k s z ns a A → Adds k s z ms a A
  names_are s z ns ms a A e h = subst (λ (w : List Name). Adds k s z w a A) (sym e) h

  pub got_is : (s z : State) (ns : List Name) (a b : Got) (A : Program → List View → Type 0) → b ≡ a → Adds k s z ns a A → Adds k s z ns b A
  got_is s z ns a b A e h = subst (λ (w : Got). Adds k s z ns w A) (sym e) h

  -- what has no place may stand in front, where it is allowed
  pub with_own : (s z : State) (ns : List Name) (own a : Got) (A : Program → List View → Type 0) → own.places ≡ [] → AreAllowed k own → Adds k s z ns a A → Adds k s z ns (got_both own a) A
  with_own s z ns own a A e allowed h = record {
    clean = h.clean;
    sites = h.sites;
    spawns = h.spawns;
    deletes = h.deletes;
    views = h.views;
    sites_are = h.sites_are;
    spawns_are = h.spawns_are;
    deletes_are = h.deletes_are;
    as_many = h.as_many;
    free = h.free;
    deletions = h.deletions;
    gathers = gathers_more k (length s.spawns) (length z.spawns) h.sites h.spawns own a e allowed h.gathers;
    valid = h.valid;
    tasks = h.tasks;
    holds = h.holds;
  }

  -- a form of what was read
  pub formed :
      (s z : State) (ns : List Name) (a : Got) (x : Code) (A B : Program → List View → Type 0) → got_in x ≡ a → Adds k s z ns a A
      → ((P : Program) (all : List View) → Fits k (length z.sites) P → A P all → B P all) → Adds k s z ns (got_in x) B
  formed s z ns a x A B e h f = got_is s z ns a (got_in x) B e (told s z ns a A B h f)

  pub more_spawns : (s z : State) (ns : List Name) (a : Got) (A : Program → List View → Type 0) → Adds k s z ns a A → length s.spawns ≤ length z.spawns
  more_spawns s z ns a A h = not_shorter s.spawns z.spawns h.spawns h.spawns_are

  -- a test passes at a part, and another one at the part behind it
  module _ (v : View) (r : Bool) (s m z : State) (ns ms : List Name) (a b : Got) (x y : Program → List View → Standing → Bool) where
    pub two :
        Adds k s m ns a (λ P all. Passes v r (length s.spawns) (x P all)) → Adds k m z ms b (λ P all. Passes v r (length m.spawns) (y P all))
        → Adds k s z (ns ++ ms) (got_both a b) (λ P all. Passes v r (length s.spawns) (λ p. x P all p && y P all p))
    two h g =
        let A : Program → List View → Type 0 = λ P all. Passes v r (length s.spawns) (x P all) in
        let B : Program → List View → Type 0 = λ P all. Passes v r (length m.spawns) (y P all) in
        told s z (ns ++ ms) (got_both a b) (λ P all. A P all × B P all) (λ P all. Passes v r (length s.spawns) (λ p. x P all p && y P all p)) (both s m z ns ms a b A B h g)
        (λ P all f q least l. and (x P all (standing v r least)) (y P all (standing v r least)) (q.0 least l) (q.1 least (omega (arith, l, more_spawns s m ns a A h))))

-- a test of a form is that of its layer
pub by_layer : (v : View) (r : Bool) (n : ℕ) (f g : Standing → Bool) → f ≡ g → Passes v r n g → Passes v r n f
by_layer v r n f g e h least l = ap (λ (z : Standing → Bool). z (standing v r least)) e ∙ h least l
