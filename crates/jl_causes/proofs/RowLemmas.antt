-- Keys and rows, as the index and the first worlds tell them.
use Rattle.std.proofs.Common.{◌≡◌, ◌∙◌, ap, sym, subst, refl, ℕ, zero, suc, ◌+◌, ◌<◌, ◌≤◌, ◌⊎◌, inl, inr, arith, Bool, true, false, IsTrue, nat_eq, List, [], ◌∷◌, ◌++◌, map, length, take, get_or, slice_get, append-nil, None, Some, IsSome, Result, Ok, OnOk}
use Rattle.std.specs.Prelude.{◌↔◌}
use Rattle.std.specs.Bool.{Decides}
use Rattle.std.specs.List.{Contains}
use Rattle.std.proofs.lemmas.Bool.{eqb-true, eq-eqb}
use Rattle.std.proofs.lemmas.List.{length_push}
use Rattle.std.proofs.lemmas.List.Elements.{Contains-get_or}
use Rattle.std.proofs.lemmas.Option.{slice_get-get_or, slice_get_within}
use Rattle.jl_model.specs.declared.limits.TheConstants.{MOST_CACHE_ROWS}
use Rattle.jl_model.specs.declared.ty.Key.{Key}
use Rattle.jl_model.specs.declared.ty.Ty.{Ty}
use Rattle.jl_model.specs.Choice.{Method}
use Rattle.jl_program.specs.declared.choice.Choice.{Choice}
use Rattle.jl_program.specs.declared.choice.Choice.TheVariants as Ch
use Rattle.jl_program.specs.declared.tree.Program.{Program}
use Rattle.jl_program.specs.Prelude.{prelude_count}
use Rattle.jl_calculus.specs.declared.history.Change.{Change}
use Rattle.jl_calculus.specs.declared.history.Change.TheVariants as C
use Rattle.jl_calculus.specs.declared.history.Event.{Event}
use Rattle.jl_calculus.specs.declared.history.Event.TheVariants as Ev
use Rattle.jl_calculus.specs.Ranges.{CacheRow, keys_of, rows_of, Touches, MayBegin, SelectsSite}
use Rattle.jl_calculus.specs.World.{changed, changes, site_of, Selects}
use Rattle.jl_calculus.proofs.BetweenLemmas.{is_of, taken_below}
use Rattle.jl_calculus.proofs.GrowthLemmas.{changes_append, keys_append, rows_append}
use Rattle.jl_calculus.proofs.SelectLemmas.{selects_one}
use Rattle.jl_methods.specs.Filters.{is_row_of, row_numbers, IsDefinition, change_in}
use Rattle.jl_methods.specs.declared.newest.NewestRow.{NewestRow}
use Rattle.jl_methods.specs.Indexed.{IsIndexOf, noted_in}
use Rattle.jl_methods.specs.Links.{IsLast}
use Rattle.jl_methods.specs.Newest.{IsNewest, IsNewestOf}
use Rattle.jl_methods.proofs.TouchLemmas.{number_of, number_there}
use Rattle.jl_causes.specs.declared.rows.Rows.{Rows}
use Rattle.jl_causes.specs.declared.standing.Standing.{Standing}
use Rattle.jl_causes.specs.Causes.{IsNextFill}
use Rattle.jl_causes.specs.Stands.{AreStanding}
use Rattle.jl_causes.specs.State.{HasRow, AreRows}

-- ---- an answer that is there

pub on_ok_at : {X E A : Type 0} (r : Result X E) {x : X} → r ≡ Ok x → OnOk r A → A
on_ok_at {X} {E} {A} r {x} is h = subst (λ (q : Result X E). OnOk q A) is h

-- ---- lists

pub some_at : {X : Type 0} (xs : List X) (n : ℕ) → n < length xs → IsSome (slice_get xs n)
some_at [] n l = absurd (omega (arith, l))
some_at (x ∷ xs) zero l = refl
some_at (x ∷ xs) (suc n) l = some_at xs n (omega (arith, l))

pub known_at : {X : Type 0} (xs : List X) (n : ℕ) → IsSome (slice_get xs n) → n < length xs
known_at [] zero h = absurd (cc h)
known_at [] (suc n) h = absurd (cc h)
known_at (x ∷ xs) zero h = omega arith
known_at (x ∷ xs) (suc n) h = omega (arith, known_at xs n h)

pub member_at : {X : Type 0} (xs : List X) (n : ℕ) (x : X) → slice_get xs n ≡ Some x → Contains xs x
member_at [] zero x h = absurd (cc h)
member_at [] (suc n) x h = absurd (cc h)
member_at (y ∷ xs) zero x h = (0, omega arith, cc h)
member_at (y ∷ xs) (suc n) x h = let (i, l, e) = member_at xs n x h in (suc i, omega (arith, l), e)

-- the place of a member
pub place_of : {X : Type 0} (xs : List X) (x : X) → Contains xs x → (n : ℕ) × (n < length xs) × (slice_get xs n ≡ Some x)
place_of xs x (n, l, e) = (n, l, slice_get-get_or xs n x l ∙ ap Some e)

-- ---- the rows of a key

firsts_at : (rows : List CacheRow) (firsts : List ℕ) (n : ℕ) (row : CacheRow) → firsts ≡ map (λ (r : CacheRow). r.first) rows → slice_get rows n ≡ Some row → get_or firsts n 0 ≡ row.first
firsts_at [] firsts zero row e g = absurd (cc g)
firsts_at [] firsts (suc n) row e g = absurd (cc g)
firsts_at (r ∷ rows) firsts zero row e g =
    let is : r ≡ row = cc g in
    ap (λ xs. get_or xs 0 0) e ∙ ap (λ (q : CacheRow). q.first) is
firsts_at (r ∷ rows) firsts (suc n) row e g = ap (λ xs. get_or xs (suc n) 0) e ∙ firsts_at rows (map (λ (q : CacheRow). q.first) rows) n row refl g

pub row_known : (P : Program) (es : List Event) (r : Rows) (key i : ℕ) (ns : List ℕ) → AreRows P es r → ns ≡ row_numbers es key → i < length ns → get_or ns i 0 < length r.firsts.items
row_known P es r key i ns h e l =
    let (j, row, at, got, is) = number_of (is_row_of key) 0 (rows_of es) (get_or ns i 0) (subst (λ ms. Contains ms (get_or ns i 0)) e (Contains-get_or ns i 0 l)) in
    omega (arith, at, slice_get_within (rows_of es) j row got, ap length h.beginnings, length_map (rows_of es))
  where
    length_map : (rows : List CacheRow) → length (map (λ (q : CacheRow). q.first) rows) ≡ length rows
    length_map [] = refl
    length_map (q ∷ rows) = ap suc (length_map rows)

pub row_found : (P : Program) (es : List Event) (r : Rows) (key i first : ℕ) (ns : List ℕ) → AreRows P es r → ns ≡ row_numbers es key → i < length ns → get_or r.firsts.items (get_or ns i 0) 0 ≡ first → HasRow es key first
row_found P es r key i first ns h e l f =
    let (j, row, at, got, is) = number_of (is_row_of key) 0 (rows_of es) (get_or ns i 0) (subst (λ ms. Contains ms (get_or ns i 0)) e (Contains-get_or ns i 0 l)) in
    let same : get_or ns i 0 ≡ j = omega (arith, at) in
    (row, member_at (rows_of es) j row got, (let q : row.key ≡ key = grind (arith, is) in q), sym (firsts_at (rows_of es) r.firsts.items j row h.beginnings got) ∙ ap (λ k. get_or r.firsts.items k 0) (sym same) ∙ f)

pub no_row : (P : Program) (es : List Event) (r : Rows) (key first : ℕ) (ns : List ℕ) → AreRows P es r → ns ≡ row_numbers es key → ((j : ℕ) → j < length ns → get_or r.firsts.items (get_or ns j 0) 0 ≡ first → ⊥) → HasRow es key first → ⊥
no_row P es r key first ns h e none (row, stands, of_key, begins) =
    let (n, l, got) = place_of (rows_of es) row stands in
    let test : nat_eq row.key key ≡ true = grind (arith, of_key) in
    let there = number_there (is_row_of key) 0 (rows_of es) n row got test in
    let (j, within, at) = subst (λ ms. Contains ms (0 + n)) (sym e) there in
    let number : get_or ns j 0 ≡ n = omega (arith, default ns j (0 + n) within, at) in
    none j within (ap (λ k. get_or r.firsts.items k 0) number ∙ firsts_at (rows_of es) r.firsts.items n row h.beginnings got ∙ begins)
  where
    default : (xs : List ℕ) (j d : ℕ) → j < length xs → get_or xs j 0 ≡ get_or xs j d
    default [] j d l = absurd (omega (arith, l))
    default (x ∷ xs) zero d l = refl
    default (x ∷ xs) (suc j) d l = default xs j d (omega (arith, l))

-- ---- the next fill

long_firsts : (P : Program) (es : List Event) (r : Rows) → AreRows P es r → length r.firsts.items ≡ length (rows_of es)
long_firsts P es r h = ap length h.beginnings ∙ many (rows_of es)
  where
    many : (rows : List CacheRow) → length (map (λ (q : CacheRow). q.first) rows) ≡ length rows
    many [] = refl
    many (q ∷ rows) = ap suc (many rows)

pub next_fill : (P : Program) (es : List Event) (r : Rows) (key first : ℕ) → AreRows P es r → key < r.keys → length r.firsts.items < MOST_CACHE_ROWS → (HasRow es key first → ⊥) → IsNextFill es key first
next_fill P es r key first h known room none = record {
  known = some_at (keys_of es) key (omega (arith, known, h.counted));
  new = λ row stands of_key begins. none (row, stands, of_key, begins);
  room = omega (arith, room, long_firsts P es r h);
}

pub fill_known : (P : Program) (es : List Event) (r : Rows) (key first : ℕ) → AreRows P es r → IsNextFill es key first → (key < r.keys) × (length r.firsts.items < MOST_CACHE_ROWS)
fill_known P es r key first h n = (omega (arith, known_at (keys_of es) key n.known, h.counted), omega (arith, n.room, long_firsts P es r h))

pub has_no_row : (es : List Event) (key first : ℕ) → IsNextFill es key first → HasRow es key first → ⊥
has_no_row es key first n (row, stands, of_key, begins) = n.new row stands of_key begins

-- ---- one more event

pub stands_more : (P : Program) (es : List Event) (e : Event) (c : Change) (s : Standing) → changed (e ∷ []) ≡ c ∷ [] → AreStanding P (changes es ++ c ∷ []) s → AreStanding P (changes (es ++ e ∷ [])) s
stands_more P es e c s is h = subst (λ cs. AreStanding P cs s) (sym (changes_append es (e ∷ []) ∙ ap (λ cs. changes es ++ cs) is)) h

module _ (P : Program) (es : List Event) (r q : Rows) (h : AreRows P es r) where
  stands_on : (e : Event) → changed (e ∷ []) ≡ [] → q.standing ≡ r.standing → AreStanding P (changes (es ++ e ∷ [])) q.standing
  stands_on e none same =
      subst (λ cs. AreStanding P cs q.standing) (sym (changes_append es (e ∷ []) ∙ ap (λ cs. changes es ++ cs) none ∙ append-nil (changes es)))
      (subst (AreStanding P (changes es)) (sym same) h.standing)

  pub rows_with_key : (key : Key) → IsIndexOf P (es ++ Ev.Key key ∷ []) q.index → q.keys ≡ r.keys + 1 → q.firsts.items ≡ r.firsts.items → q.standing ≡ r.standing → AreRows P (es ++ Ev.Key key ∷ []) q
  rows_with_key key i n f s = record {
    indexed = i;
    counted = omega (arith, n, h.counted, ap length (keys_append es (Ev.Key key ∷ [])), length_push (keys_of es) key);
    beginnings = f ∙ h.beginnings ∙ ap (map (λ (row : CacheRow). row.first)) (sym (rows_append es (Ev.Key key ∷ []) ∙ append-nil (rows_of es)));
    standing = stands_on (Ev.Key key) refl s;
  }

  pub rows_with_fill : (key site first : ℕ) → IsIndexOf P (es ++ Ev.Fill key site first ∷ []) q.index → q.keys ≡ r.keys → q.firsts.items ≡ r.firsts.items ++ first ∷ [] → q.standing ≡ r.standing
      → AreRows P (es ++ Ev.Fill key site first ∷ []) q
  rows_with_fill key site first i n f s = record {
    indexed = i;
    counted = n ∙ h.counted ∙ ap length (sym (keys_append es (Ev.Fill key site first ∷ []) ∙ append-nil (keys_of es)));
    beginnings = f ∙ ap (λ xs. xs ++ first ∷ []) h.beginnings ∙ sym (ap (map (λ (row : CacheRow). row.first)) (rows_append es (Ev.Fill key site first ∷ [])) ∙ map_push (rows_of es));
    standing = stands_on (Ev.Fill key site first) refl s;
  }
    where
      map_push : (rows : List CacheRow) → map (λ (row : CacheRow). row.first) (rows ++ record { key = key; site = site; first = first } ∷ []) ≡ map (λ (row : CacheRow). row.first) rows ++ first ∷ []
      map_push [] = refl
      map_push (x ∷ rows) = ap (λ xs. x.first ∷ xs) (map_push rows)

  -- an event that is no key and no fill
  pub rows_with_other : (e : Event) → keys_of (e ∷ []) ≡ [] → rows_of (e ∷ []) ≡ [] → IsIndexOf P (es ++ e ∷ []) q.index → q.keys ≡ r.keys → q.firsts.items ≡ r.firsts.items → AreStanding P (changes (es ++ e ∷ [])) q.standing
      → AreRows P (es ++ e ∷ []) q
  rows_with_other e keys rows i n f s = record {
    indexed = i;
    counted = n ∙ h.counted ∙ ap length (sym (keys_append es (e ∷ []) ∙ ap (λ ks. keys_of es ++ ks) keys ∙ append-nil (keys_of es)));
    beginnings = f ∙ h.beginnings ∙ ap (map (λ (row : CacheRow). row.first)) (sym (rows_append es (e ∷ []) ∙ ap (λ rs. rows_of es ++ rs) rows ∙ append-nil (rows_of es)));
    standing = s;
  }

-- ---- whether a key is there

pub key_found : (es : List Event) (n : ℕ) (other key : Key) → slice_get (keys_of es) n ≡ Some other → other ≡ key → IsTrue true ↔ Contains (keys_of es) key
key_found es n other key at is = ((λ yes. member_at (keys_of es) n key (at ∙ ap Some is)), (λ stands. refl))

pub key_missing : (es : List Event) (n : ℕ) (key : Key) → length (keys_of es) ≤ n → ((j : ℕ) → j < n → slice_get (keys_of es) j ≡ Some key → ⊥) → IsTrue false ↔ Contains (keys_of es) key
key_missing es n key l none = ((λ yes. absurd (cc yes)), (λ stands. (let (j, within, at) = place_of (keys_of es) key stands in absurd (none j (omega (arith, within, l)) at))))

pub key_next : (es : List Event) (n : ℕ) (other key : Key) → slice_get (keys_of es) n ≡ Some other → (other ≡ key → ⊥) → ((j : ℕ) → j < n → slice_get (keys_of es) j ≡ Some key → ⊥) → (j : ℕ) → j < n + 1 → slice_get (keys_of es) j ≡ Some key → ⊥
key_next es n other key at differs none j l got = by (nat_eq j n) refl
  where
    by : (b : Bool) → nat_eq j n ≡ b → ⊥
    by true q =
        let is : j ≡ n = grind (arith, q) in
        let same : other ≡ key = cc (sym at ∙ ap (slice_get (keys_of es)) (sym is) ∙ got) in
        differs same
    by false q =
        let before : j < n = grind (arith, q, l) in
        none j before got

-- ---- the choice

pub no_site : (P : Program) (es : List Event) (k : Key) (site first : ℕ) (c : Choice) → Selects P es k.function k.types first c → ((d : ℕ) → c ≡ Ch.Method d → ⊥) → Decides false (SelectsSite P es k first site)
no_site P es k site first c s none = ((λ yes. absurd (cc yes)), (λ (d, t, e). absurd (none d (selects_one P es k.function k.types first c (Ch.Method d) s t))))

pub site_chosen : (P : Program) (es : List Event) (k : Key) (site first d made : ℕ) → Selects P es k.function k.types first (Ch.Method d) → made ≡ site_of es d → Decides (nat_eq made site) (SelectsSite P es k first site)
site_chosen P es k site first d made s is = (
  (λ yes. (let same : made ≡ site = grind (arith, yes) in (d, s, sym is ∙ same))),
  (λ (o, t, e). (
      let one : d ≡ o = cc (selects_one P es k.function k.types first (Ch.Method d) (Ch.Method o) s t) in
      let same : made ≡ site = is ∙ ap (site_of es) one ∙ e in
      let yes : nat_eq made site ≡ true = grind (arith, same) in yes)),
)

-- the chosen method is a definition
pub chosen_definition : (P : Program) (es : List Event) (f : ℕ) (ts : List Ty) (w d : ℕ) → Selects P es f ts w (Ch.Method d) → IsDefinition (change_in (changes es) d)
chosen_definition P es f ts w d (ms, are, (m, best, is)) =
    let a = best.candidate.applies in
    let o = is_of P f 1 (take w (changes es)) m ((are m a.below).0 a.stands).made in
    let at = taken_below w (changes es) o.place (C.Def o.number) o.stands in
    let made : 1 + o.place ≡ m.number = ap (λ (z : Method). z.number) o.is in
    let next : suc o.place ≡ d = omega (arith, made, is) in
    subst (λ n. IsDefinition (change_in (changes es) n)) next (subst IsDefinition (sym at.1) tt)

pub row_next : (firsts ns : List ℕ) (i first begins : ℕ) → begins ≡ get_or firsts (get_or ns i 0) 0 → (begins ≡ first → ⊥) → ((j : ℕ) → j < i → get_or firsts (get_or ns j 0) 0 ≡ first → ⊥) → (j : ℕ) → j < i + 1 → get_or firsts (get_or ns j 0) 0 ≡ first → ⊥
row_next firsts ns i first begins at differs none j l got = by (nat_eq j i) refl
  where
    by : (b : Bool) → nat_eq j i ≡ b → ⊥
    by true q =
        let is : j ≡ i = grind (arith, q) in
        differs (at ∙ ap (λ k. get_or firsts (get_or ns k 0) 0) (sym is) ∙ got)
    by false q =
        let before : j < i = grind (arith, q, l) in
        none j before got

pub known_key : (P : Program) (es : List Event) (r : Rows) (key : ℕ) (k : Key) → AreRows P es r → slice_get (keys_of es) key ≡ Some k → key < length (noted_in r.index).keys
known_key P es r key k h at = omega (arith, slice_get_within (keys_of es) key k at, ap length h.indexed.known_keys)

-- ---- answers that decide

pub no_next_fill : (es : List Event) (key first : ℕ) → (IsNextFill es key first → ⊥) → Decides false (IsNextFill es key first)
no_next_fill es key first fails = ((λ yes. absurd (cc yes)), (λ n. absurd (fails n)))

pub begins_low : (P : Program) (es : List Event) (k : Key) (first : ℕ) → first ≤ prelude_count → Decides (nat_eq first prelude_count) (MayBegin P es k first)
begins_low P es k first low = (
  (λ yes. (let e : first ≡ prelude_count = grind (arith, yes) in inl e)),
  (λ b. by b),
)
  where
    by : MayBegin P es k first → nat_eq first prelude_count ≡ true
    by (inl e) = let yes : nat_eq first prelude_count ≡ true = grind (arith, e) in yes
    by (inr (high, t)) = absurd (omega (arith, low, high))

pub begins_high : (P : Program) (es : List Event) (k : Key) (first last : ℕ) → prelude_count < first → IsLast (λ w. Touches P es w k) first last → Decides (nat_eq last first) (MayBegin P es k first)
begins_high P es k first last high h = (λ yes. inr (high, to (eqb-true last first yes) h.there), by)
  where
    to : last ≡ first → (last ≡ 0) ⊎ Touches P es last k → Touches P es first k
    to e (inl z) = absurd (omega (arith, high, e, z))
    to e (inr t) = subst (λ w. Touches P es w k) e t

    by : MayBegin P es k first → nat_eq last first ≡ true
    by (inl e) = absurd (omega (arith, high, e))
    by (inr (low, t)) =
        let up = h.none_later first t (omega arith) in
        let down = h.low in
        eq-eqb last first (omega (arith, up, down))

-- ---- the newest row of a key

pub no_newest : (es : List Event) (key first : ℕ) → IsNewestOf (rows_of es) key None → IsTrue false ↔ HasRow es key first
no_newest es key first none = ((λ yes. absurd (cc yes)), (λ (row, stands, of_key, begins). absurd (none row stands of_key)))

pub row_newest : (es : List Event) (key first : ℕ) (newest : NewestRow) → IsNewest (rows_of es) key newest → newest.first ≤ first → IsTrue (nat_eq newest.first first) ↔ HasRow es key first
row_newest es key first newest n le = (
  λ yes. (let is : newest.first ≡ first = grind (arith, yes) in (n.row, member_at (rows_of es) newest.number n.row n.stands, n.of_key, n.begins ∙ is)),
  λ (row, stands, of_key, begins). (let most = n.latest row stands of_key in let yes : nat_eq newest.first first ≡ true = grind (arith, le, most, begins) in yes),
)
