-- A property that goes by the parts is carried through each step of reading.
use Rattle.std.proofs.Common.{◌≡◌, ap, refl, ℕ, suc, ◌+◌, ◌≤◌, ◌<◌, arith, Bool, true, false, ◌&&◌, cond, nat_lt, List, [], ◌∷◌, ◌++◌, map, length, drop, Option, None, Some, ◌⊎◌, inl, inr, codes, slice_get}
use Rattle.jl_model.specs.declared.ty.Ty.{Ty, out-Ty}
use Rattle.jl_model.specs.declared.ty.Ty.TheOpen.{Ty-F}
use Rattle.jl_model.specs.declared.ty.Ty.TheOpen as L
use Rattle.jl_model.specs.declared.ty.Ty.TheViews as V
use Rattle.jl_model.specs.declared.ty.Ty.TheVariants as W
use Rattle.jl_model.specs.declared.ty.Bound.{Bound}
use Rattle.jl_model.specs.declared.ty.Decl.{Decl}
use Rattle.jl_model.specs.Valid.{params_of}
use Rattle.jl_program.specs.Names.{same_text, is_among, builtin_names}
use Rattle.jl_written.specs.declared.fault.StaticKind.TheVariants as kind
use Rattle.jl_written.specs.declared.reading.Named.{Named}
use Rattle.jl_written.specs.declared.reading.Named.TheVariants as M
use Rattle.jl_written.specs.declared.reading.Place.{Place}
use Rattle.jl_written.specs.declared.reading.Reading.{Reading}
use Rattle.jl_written.specs.declared.reading.Swap.{Swap}
use Rattle.jl_written.specs.declared.reading.TypeVar.{TypeVar}
use Rattle.jl_written.specs.Meaning.{place_from, place_of, later, var_of, nominal_of, word_of, var_or, meaning_of}
use Rattle.jl_written.specs.Reads.{TypeReads, ArgReads, VarReads, Seen, visible, with_own, in_bound, without_places, places_behind, note, note_unknown, note_use, fresh_variable, missing_arguments, note_place, note_place_of, read_arguments, read_members, rebound, bind_name, note_builtin, bind, bind_all, bind_where, swap, within, read_plain, read_applied}
use Rattle.jl_type_laws.specs.Grown.{Grows}
use Rattle.jl_type_laws.specs.Carried.{AllHave, BoundHas, BoundsHave, PlacesHave, ReadingHas, Visible, SeenHave, NumbersHave, IsCarried}
use Rattle.jl_type_laws.proofs.GrowLemmas.{one_longer, grows_refl, grows_trans, grows_note, grows_unknown, grows_unclear, grows_note_brought, grows_bound, grows_fresh_variable, grows_swap}
use Rattle.jl_type_laws.proofs.TextInduction.{EachText}

pub bounds_append : (P : Ty → Type 0) (bs : List Bound) (b : Bound) → BoundsHave P bs → BoundHas P b → BoundsHave P (bs ++ b ∷ [])
bounds_append P [] b h g = (g, tt)
bounds_append P (a ∷ bs) b h g = (h.0, bounds_append P bs b h.1 g)

pub places_append : (P : Ty → Type 0) (ps : List Place) (p : Place) → PlacesHave P ps → P p.high → PlacesHave P (ps ++ p ∷ [])
places_append P [] p h g = (g, tt)
places_append P (a ∷ ps) p h g = (h.0, places_append P ps p h.1 g)

pub bounds_drop : (P : Ty → Type 0) (bs : List Bound) → BoundsHave P bs → BoundsHave P (drop 1 bs)
bounds_drop P [] h = tt
bounds_drop P (b ∷ bs) h = h.1

pub places_join : (P : Ty → Type 0) (ps qs : List Place) → PlacesHave P ps → PlacesHave P qs → PlacesHave P (ps ++ qs)
places_join P [] qs h g = g
places_join P (p ∷ ps) qs h g = (h.0, places_join P ps qs h.1 g)

pub visible_join : (S : ℕ → Bool → Type 0) (vs us : List TypeVar) → Visible S vs → Visible S us → Visible S (vs ++ us)
visible_join S [] us h g = g
visible_join S (v ∷ vs) us h g = (h.0, visible_join S vs us h.1 g)

pub visible_append : (S : ℕ → Bool → Type 0) (vs : List TypeVar) (v : TypeVar) → Visible S vs → S v.number v.usable → Visible S (vs ++ v ∷ [])
visible_append S vs v h g = visible_join S vs (v ∷ []) h (g, tt)

-- ---- what is visible

pub seen_have : (S : ℕ → Bool → Type 0) (s : Seen) → SeenHave S s → Visible S (visible s)
seen_have S s h = visible_join S s.first s.own h.0 h.1

pub more_have : (S : ℕ → Bool → Type 0) (vs : List TypeVar) (s : Seen) → SeenHave S s → Visible S vs → SeenHave S (with_own vs s)
more_have S vs s h g = (h.0, visible_join S s.own vs h.1 g)

pub bound_have : (S : ℕ → Bool → Type 0) (s : Seen) → SeenHave S s → SeenHave S (in_bound s)
bound_have S s h = (h.0, by s.bound)
  where
    by : (b : Bool) → Visible S (cond b s.own [])
    by true = h.1
    by false = tt

module _ (ds : List Decl) (P : Ty → Type 0) (N : ℕ → Type 0) (S : ℕ → Bool → Type 0) (Ok : Reading → Type 0) (c : IsCarried ds P N S Ok) where
  -- a step from r to s, which gives H where G is given
  pub record Steps (r s : Reading) (G H : Type 0) : Type 0 where
    pub grows : Grows r s
    pub holds : Ok s → NumbersHave N s → G → ReadingHas P r → H × ReadingHas P s

  numbers_back : (r s : Reading) → Grows r s → NumbersHave N s → NumbersHave N r
  numbers_back r s g h n l = h n (let a = g.longer in omega (arith, a, l))

  -- nothing is added
  pub still : {G H : Type 0} (r : Reading) → (G → H) → Steps r r G H
  still r f = record { grows = grows_refl r; holds = λ e n g h. (f g, h) }

  -- two steps, and what the first gives is what the second is given
  pub then_ : {r s t : Reading} {F G H : Type 0} → Steps r s F G → Steps s t G H → Steps r t F H
  then_ {r} {s} {t} a b = record {
    grows = grows_trans r s t a.grows b.grows;
    holds = λ e n g h.
        let x = a.holds (c.back s t b.grows e) (numbers_back s t b.grows n) g h in
        b.holds e n x.0 x.1;
  }

  -- two steps, which are given the same, and both give something
  pub pair : {r s t : Reading} {F G H : Type 0} → Steps r s F G → Steps s t F H → Steps r t F (G × H)
  pair {r} {s} {t} a b = record {
    grows = grows_trans r s t a.grows b.grows;
    holds = λ e n g h.
        let x = a.holds (c.back s t b.grows e) (numbers_back s t b.grows n) g h in
        let y = b.holds e n g x.1 in
        ((x.0, y.0), y.1);
  }

  -- what is given is kept
  pub keep : {r s : Reading} {F G : Type 0} → Steps r s F G → Steps r s F (G × F)
  keep a = record { grows = a.grows; holds = λ e n g h. let x = a.holds e n g h in ((x.0, g), x.1) }

  pub before : {r s : Reading} {F G H : Type 0} → (F → G) → Steps r s G H → Steps r s F H
  before f a = record { grows = a.grows; holds = λ e n g h. a.holds e n (f g) h }

  pub behind_ : {r s : Reading} {F G H : Type 0} → (G → H) → Steps r s F G → Steps r s F H
  behind_ f a = record { grows = a.grows; holds = λ e n g h. let x = a.holds e n g h in (f x.0, x.1) }

  -- ---- single steps

  pub note_unknown_steps : {F : Type 0} (at : ℕ) (r : Reading) → Steps r (note_unknown at r).after F (P W.Any)
  note_unknown_steps at r = record { grows = grows_unknown at kind.UnknownType r; holds = λ e n g h. (c.any, record { bounds = h.bounds; places = h.places }) }

  note_use_grows : (at : ℕ) (usable : Bool) (r : Reading) → Grows r (note_use at usable r)
  note_use_grows at true r = grows_refl r
  note_use_grows at false r = grows_note at kind.StaticParameterUse r

  note_use_has : (at : ℕ) (usable : Bool) (r : Reading) → ReadingHas P r → ReadingHas P (note_use at usable r)
  note_use_has at true r h = h
  note_use_has at false r h = record { bounds = h.bounds; places = h.places }

  pub note_use_steps : {F : Type 0} (at : ℕ) (usable : Bool) (v : ℕ) (r : Reading) → (F → S v usable) → Steps r (note_use at usable r) F (P (W.Var v))
  note_use_steps at usable v r f = record { grows = note_use_grows at usable r; holds = λ e n g h. (c.variable v (c.visible at r v usable (f g) e), note_use_has at usable r h) }

  pub fresh_variable_steps : (b : Bound) (inside : Bool) (r : Reading) → Steps r (fresh_variable b inside r).after (BoundHas P b) (P (W.Var (length r.vars)))
  fresh_variable_steps b inside r = record {
    grows = grows_fresh_variable b inside r;
    holds = λ e n g h. (c.variable (length r.vars) (n (length r.vars) (one_longer r.vars b)), record { bounds = bounds_append P r.vars b h.bounds g; places = h.places });
  }

  pub missing_arguments_steps : {F : Type 0} (bs : List Bound) → BoundsHave P bs → (inside : Bool) (r : Reading) → Steps r (missing_arguments bs inside r).after F (AllHave P (missing_arguments bs inside r).tys)
  missing_arguments_steps [] h inside r = still r (λ g. tt)
  missing_arguments_steps (b ∷ bs) h inside r = pair (before (λ g. h.0) (fresh_variable_steps b inside r)) (missing_arguments_steps bs h.1 inside (fresh_variable b inside r).after)

  note_place_of_steps : {F : Type 0} (high : Ty) (y : Ty-F Ty) (r : Reading) → P high → Steps r (note_place_of high y r) F F
  note_place_of_steps high (L.Var v) r p = record {
    grows = let g = grows_refl r in record { longer = g.longer; fits = g.fits; faultless = g.faultless; named = g.named; told = g.told; unclear = g.unclear; misplaced = g.misplaced };
    holds = λ e n g h. (g, record { bounds = h.bounds; places = places_append P r.places (record { var = v; high = high }) h.places p });
  }
  note_place_of_steps high L.Any r p = still r (λ g. g)
  note_place_of_steps high (L.Union ts) r p = still r (λ g. g)
  note_place_of_steps high (L.Tuple ts) r p = still r (λ g. g)
  note_place_of_steps high (L.Nominal k ts) r p = still r (λ g. g)

  pub note_place_steps : {F : Type 0} (bs : List Bound) → BoundsHave P bs → (t : Ty) (r : Reading) → Steps r (note_place bs t r) F F
  note_place_steps [] h t r = still r (λ g. g)
  note_place_steps (b ∷ bs) h t r = note_place_of_steps b.high (out-Ty t) r h.0.1

  -- ---- what is said of a text

  abbrev pub TypeLaw : TypeReads → Type 0
  TypeLaw t = (s : Seen) (inside : Bool) (r : Reading) → Steps r (t s inside r).after (SeenHave S s) (P (t s inside r).ty)

  abbrev pub ArgLaw : ArgReads → Type 0
  ArgLaw x = (s : Seen) (outer inner : Bool) (r : Reading) → Steps r (x s outer inner r).after (SeenHave S s) (P (x s outer inner r).ty)

  abbrev pub VarLaw : VarReads → Type 0
  VarLaw v = (s : Seen) (r : Reading) → Steps r (v.bounds s r).after (SeenHave S s) (BoundHas P (v.bounds s r).bound)

  pub read_arguments_steps : (bs : List Bound) → BoundsHave P bs → (xs : List ArgReads) → EachText ArgLaw xs → (s : Seen) (inside : Bool) (r : Reading)
      → Steps r (read_arguments bs xs s inside r).after (SeenHave S s) (AllHave P (read_arguments bs xs s inside r).tys)
  read_arguments_steps bs h [] l s inside r = missing_arguments_steps bs h inside r
  read_arguments_steps bs h (x ∷ xs) l s inside r =
      let t = x s inside true r in
      let z = note_place bs t.ty t.after in
      pair (l.0 s inside true r) (then_ (note_place_steps bs h t.ty t.after) (read_arguments_steps (drop 1 bs) (bounds_drop P bs h) xs l.1 s inside z))

  pub read_members_steps : (xs : List ArgReads) → EachText ArgLaw xs → (s : Seen) (inside : Bool) (r : Reading)
      → Steps r (read_members xs s inside r).after (SeenHave S s) (AllHave P (read_members xs s inside r).tys)
  read_members_steps [] l s inside r = still r (λ g. tt)
  read_members_steps (x ∷ xs) l s inside r = pair (l.0 s inside inside r) (read_members_steps xs l.1 s inside (x s inside inside r).after)

  -- ---- variables

  rebound_grows : (at : ℕ) (o : Option TypeVar) (r : Reading) → Grows r (rebound at o r)
  rebound_grows at None r = grows_refl r
  rebound_grows at (Some v) r = grows_unclear at kind.Rebound r

  bound_grows : (at : ℕ) (o : Option TypeVar) (b : Bound) (r : Reading) → Grows (rebound at o r) (record (rebound at o r) { vars = r.vars ++ b ∷ [] })
  bound_grows at None b r = grows_bound b r
  bound_grows at (Some v) b r = grows_bound b (rebound at (Some v) r)

  bound_has : (at : ℕ) (o : Option TypeVar) (bs : List Bound) (r : Reading) → BoundsHave P bs → PlacesHave P r.places → ReadingHas P (record (rebound at o r) { vars = bs })
  bound_has at None bs r h g = record { bounds = h; places = g }
  bound_has at (Some v) bs r h g = record { bounds = h; places = g }

  bind_name_steps : {F : Type 0} (at : ℕ) (name : List ℕ) (b : Bound) (own : List TypeVar) (r : Reading) (o : Option TypeVar)
      → Steps r (bind_name at name b own r o).after (BoundHas P b × (F × Visible S own)) (Visible S (bind_name at name b own r o).vars)
  bind_name_steps at name b own r o = record {
    grows = grows_trans r (rebound at o r) (bind_name at name b own r o).after (rebound_grows at o r) (bound_grows at o b r);
    holds = λ e n g h. (visible_append S own (record { name = name; number = length r.vars; usable = true }) g.1.1 (c.bound (length r.vars) (n (length r.vars) (one_longer r.vars b))), bound_has at o (r.vars ++ b ∷ []) r (bounds_append P r.vars b h.bounds g.0) h.places);
  }

  guarded_case : {G : Type 0} (at : ℕ) (b : Bool) (r : Reading) → Steps r (cond b (note at kind.NameClash r) r) G G
  guarded_case at true r = record { grows = grows_note at kind.NameClash r; holds = λ e n g h. (g, record { bounds = h.bounds; places = h.places }) }
  guarded_case at false r = still r (λ g. g)

  pub bind_steps : (v : VarReads) → VarLaw v → (s : Seen) (own : List TypeVar) (r : Reading) → Steps r (bind v s own r).after (SeenHave S s × Visible S own) (Visible S (bind v s own r).vars)
  bind_steps v l s own r =
      let seen = with_own own (in_bound s) in
      let b = v.bounds seen r in
      then_ (keep (before (λ g. more_have S own (in_bound s) (bound_have S s g.0) g.1) (l seen r)))
      (then_ (guarded_case v.at (is_among v.name builtin_names) b.after) (bind_name_steps v.at v.name b.bound own (note_builtin v.at v.name b.after) (var_of (visible (with_own own s)) v.name)))

  pub bind_all_steps : (vs : List VarReads) → EachText VarLaw vs → (s : Seen) (own : List TypeVar) (r : Reading)
      → Steps r (bind_all vs s own r).after (SeenHave S s × Visible S own) (Visible S (bind_all vs s own r).vars)
  bind_all_steps [] l s own r = still r (λ g. g.1)
  bind_all_steps (v ∷ vs) l s own r =
      let d = bind v s own r in
      then_ (keep (bind_steps v l.0 s own r)) (before (λ g. (g.1.0, g.0)) (bind_all_steps vs l.1 s d.vars d.after))

  where_steps : {F : Type 0} (vs : List VarReads) (inside : Bool) (r : Reading) → Steps r (bind_where vs inside r) F F
  where_steps [] inside r = still r (λ g. g)
  where_steps (v ∷ vs) inside r = record { grows = grows_note_brought inside r; holds = λ e n g h. (g, record { bounds = h.bounds; places = h.places }) }

  swapped_has : (b : Bool) (s : Swap) (r : Reading) → ReadingHas P r → ReadingHas P (cond b (record r { swaps = r.swaps ++ s ∷ [] }) r)
  swapped_has true s r h = record { bounds = h.bounds; places = h.places }
  swapped_has false s r h = h

  swap_steps : {F : Type 0} (start middle : ℕ) (r : Reading) → Steps r (swap start middle r) F F
  swap_steps start middle r = record {
    grows = grows_swap start middle r;
    holds = λ e n g h. (g, swapped_has (nat_lt start middle && nat_lt middle (length r.vars)) (record { start = start; middle = middle; stop = length r.vars }) r h);
  }

  -- ---- places of declared bounds are put aside and come back

  placed_grows : (ps : List Place) (r : Reading) → Grows r (record r { places = ps })
  placed_grows ps r = let g = grows_refl r in record { longer = g.longer; fits = g.fits; faultless = g.faultless; named = g.named; told = g.told; unclear = g.unclear; misplaced = g.misplaced }

  pub note_places : {F : Type 0} (r : Reading) → Steps r r F (PlacesHave P r.places × F)
  note_places r = record { grows = grows_refl r; holds = λ e n g h. ((h.places, g), h) }

  pub without_steps : {F : Type 0} (r : Reading) → Steps r (without_places r) F F
  without_steps r = record { grows = placed_grows [] r; holds = λ e n g h. (g, record { bounds = h.bounds; places = tt }) }

  put_back_steps : {F G : Type 0} (ps : List Place) (r : Reading) → Steps r (record r { places = ps }) (F × (PlacesHave P ps × G)) (PlacesHave P r.places × (F × G))
  put_back_steps ps r = record { grows = placed_grows ps r; holds = λ e n g h. ((h.places, (g.0, g.1.1)), record { bounds = h.bounds; places = g.1.0 }) }

  pub behind_steps : {F G : Type 0} (ps : List Place) (r : Reading) → Steps r (places_behind ps r) (F × (PlacesHave P ps × G)) F
  behind_steps ps r = record { grows = placed_grows (r.places ++ ps) r; holds = λ e n g h. (g.0, record { bounds = h.bounds; places = places_join P r.places ps h.places g.1.0 }) }

  pub within_law : (t : TypeReads) → TypeLaw t → (vs : List VarReads) → EachText VarLaw vs → TypeLaw (within t vs)
  within_law t k vs l s inside r =
      let w = bind_where vs inside r in
      let d = bind_all vs s [] (without_places w) in
      let u = t (with_own d.vars s) inside (record d.after { places = r.places }) in
      then_ (note_places r)
      (then_ (where_steps vs inside r)
      (then_ (without_steps w)
      (then_ (keep (before (λ g. (g.1, tt)) (bind_all_steps vs l s [] (without_places w))))
      (then_ (put_back_steps r.places d.after)
      (then_ (keep (before (λ g. more_have S d.vars s g.1.1 g.1.0) (k (with_own d.vars s) inside (record d.after { places = r.places }))))
      (then_ (behind_steps d.after.places u.after) (swap_steps (length r.vars) (length d.after.vars) (places_behind d.after.places u.after))))))))

  -- ---- names

  abbrev pub Fits : List TypeVar → Named → Type 0
  Fits vars (M.Variable v usable) = Visible S vars → S v usable
  Fits vars (M.Nominal k) = (k < length ds) ⊎ (k ≡ 4)
  Fits vars M.Any = Unit {0}
  Fits vars M.Union = Unit {0}
  Fits vars M.Tuple = Unit {0}
  Fits vars M.Unknown = Unit {0}

  choose : (vars : List TypeVar) (b : Bool) (x y : Named) → Fits vars x → Fits vars y → Fits vars (cond b x y)
  choose vars true x y f g = f
  choose vars false x y f g = g

  place_case : (vars : List TypeVar) (b : Bool) (i : ℕ) (o : Option ℕ) → i < length ds → Fits vars (nominal_of o) → Fits vars (nominal_of (cond b (Some i) o))
  place_case vars true i o l f = inl l
  place_case vars false i o l f = f

  place_fits : (vars : List TypeVar) (ns : List (List ℕ)) (i : ℕ) (name : List ℕ) → i + length ns ≤ length ds → Fits vars (nominal_of (place_from i ns name))
  place_fits vars [] i name l = tt
  place_fits vars (n ∷ ns) i name l = place_case vars (same_text name n) i (place_from (i + 1) ns name) (omega (arith, l)) (place_fits vars ns (i + 1) name (omega (arith, l)))

  length_names : (es : List Decl) → length (map (λ (d : Decl). d.name) es) ≡ length es
  length_names [] = refl
  length_names (e ∷ es) = ap suc (length_names es)

  word_fits : (vars : List TypeVar) (name : List ℕ) → Fits vars (word_of ds name)
  word_fits vars name =
      let names = map (λ (d : Decl). d.name) ds in
      let place : Fits vars (nominal_of (place_of names name)) = place_fits vars names 0 name (let e = length_names ds in omega (arith, e)) in
      let far = nominal_of (place_of names name) in
      let four : Fits vars (M.Nominal 4) = inr refl in
      choose vars (same_text name (codes "Any")) M.Any _ tt
      (choose vars (same_text name (codes "Union")) M.Union _ tt
      (choose vars (same_text name (codes "Tuple")) M.Tuple _ tt
      (choose vars (same_text name (codes "Int")) (M.Nominal 4) far four place)))

  var_case : (vars : List TypeVar) (b : Bool) (v : TypeVar) (o : Option TypeVar) (w : Named) → (Visible S vars → S v.number v.usable) → Fits vars w → Fits vars (var_or o w) → Fits vars (var_or (later (cond b (Some v) None) o) w)
  var_case vars true v None w f g h = f
  var_case vars false v None w f g h = g
  var_case vars b v (Some u) w f g h = h

  var_fits : (vars vs : List TypeVar) (name : List ℕ) (w : Named) → (Visible S vars → Visible S vs) → Fits vars w → Fits vars (var_or (var_of vs name) w)
  var_fits vars [] name w f g = g
  var_fits vars (v ∷ vs) name w f g = var_case vars (same_text name v.name) v (var_of vs name) w (λ h. (f h).0) g (var_fits vars vs name w (λ h. (f h).1) g)

  meaning_of_fits : (vars : List TypeVar) (name : List ℕ) → Fits vars (meaning_of ds vars name)
  meaning_of_fits vars name = var_fits vars vars name (word_of ds name) (λ h. h) (word_fits vars name)

  nominal_have : (k : ℕ) → (k < length ds) ⊎ (k ≡ 4) → (ts : List Ty) → AllHave P ts → P (V.Nominal k ts)
  nominal_have k (inl l) ts h = c.declared k ts l h
  nominal_have k (inr e) ts h = rw e (c.int ts h)

  read_plain_steps : (at : ℕ) (n : Named) (vars : List TypeVar) → Fits vars n → (inside : Bool) (r : Reading) → Steps r (read_plain ds at n inside r).after (Visible S vars) (P (read_plain ds at n inside r).ty)
  read_plain_steps at (M.Variable v usable) vars f inside r = note_use_steps at usable v r f
  read_plain_steps at M.Any vars f inside r = still r (λ g. c.any)
  read_plain_steps at M.Union vars f inside r = note_unknown_steps at r
  read_plain_steps at M.Tuple vars f inside r = note_unknown_steps at r
  read_plain_steps at (M.Nominal k) vars f inside r =
      let bs = params_of (slice_get ds k) in
      behind_ (nominal_have k f (missing_arguments bs inside r).tys) (missing_arguments_steps bs (c.params k) inside r)
  read_plain_steps at M.Unknown vars f inside r = note_unknown_steps at r

  read_applied_steps : (at : ℕ) (n : Named) (xs : List ArgReads) → EachText ArgLaw xs → (s : Seen) → Fits (visible s) n → (inside : Bool) (r : Reading)
      → Steps r (read_applied ds at n xs s inside r).after (SeenHave S s) (P (read_applied ds at n xs s inside r).ty)
  read_applied_steps at (M.Variable v usable) xs l s f inside r = note_unknown_steps at r
  read_applied_steps at M.Any xs l s f inside r = note_unknown_steps at r
  read_applied_steps at M.Union xs l s f inside r = behind_ (c.union (read_members xs s inside r).tys) (read_members_steps xs l s inside r)
  read_applied_steps at M.Tuple xs l s f inside r = behind_ (c.tuple (read_members xs s inside r).tys) (read_members_steps xs l s inside r)
  read_applied_steps at (M.Nominal k) xs l s f inside r =
      let bs = params_of (slice_get ds k) in
      behind_ (nominal_have k f (read_arguments bs xs s inside r).tys) (read_arguments_steps bs (c.params k) xs l s inside r)
  read_applied_steps at M.Unknown xs l s f inside r = note_unknown_steps at r

  pub name_law : (at : ℕ) (name : List ℕ) (s : Seen) (inside : Bool) (r : Reading)
      → Steps r (read_plain ds at (meaning_of ds (visible s) name) inside r).after (SeenHave S s) (P (read_plain ds at (meaning_of ds (visible s) name) inside r).ty)
  name_law at name s inside r = before (seen_have S s) (read_plain_steps at (meaning_of ds (visible s) name) (visible s) (meaning_of_fits (visible s) name) inside r)

  pub read_applied_law : (at : ℕ) (name : List ℕ) (xs : List ArgReads) → EachText ArgLaw xs → (s : Seen) (inside : Bool) (r : Reading)
      → Steps r (read_applied ds at (meaning_of ds (visible s) name) xs s inside r).after (SeenHave S s) (P (read_applied ds at (meaning_of ds (visible s) name) xs s inside r).ty)
  read_applied_law at name xs l s inside r = read_applied_steps at (meaning_of ds (visible s) name) xs l s (meaning_of_fits (visible s) name) inside r
