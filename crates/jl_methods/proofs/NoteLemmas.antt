-- An index of some events becomes that of one more.
use Rattle.std.proofs.Common.{◌≡◌, ◌∙◌, ap, sym, subst, refl, ℕ, suc, ◌+◌, ◌<◌, ◌⊎◌, inl, inr, arith, Bool, true, false, nat_eq, cond, List, [], ◌∷◌, ◌++◌, append_assoc, map, length, get_or, slice_get, Option, None, Some}
use Rattle.std.specs.List.{All, Contains}
use Rattle.std.proofs.lemmas.Bool.{eqb-true, eqb-false}
use Rattle.std.proofs.lemmas.List.{append-nil, length-set, length_push}
use Rattle.std.proofs.lemmas.List.Elements.{All-push, All-weaker, Contains-append_left, Contains-append_right, Contains-append_cases}
use Rattle.jl_model.specs.declared.ty.Key.{Key}
use Rattle.jl_program.specs.declared.tree.Delete.{Delete}
use Rattle.jl_program.specs.declared.tree.Site.{Site}
use Rattle.jl_program.specs.declared.tree.Program.{Program}
use Rattle.jl_program.specs.Prelude.{prelude_numbers}
use Rattle.jl_program.specs.Valid.{IsValid}
use Rattle.jl_calculus.specs.declared.history.Change.{Change}
use Rattle.jl_calculus.specs.declared.history.Change.TheVariants as Ch
use Rattle.jl_calculus.specs.declared.history.Def.{Def}
use Rattle.jl_calculus.specs.declared.history.Del.{Del}
use Rattle.jl_calculus.specs.declared.history.Event.{Event}
use Rattle.jl_calculus.specs.declared.history.Event.TheVariants as Ev
use Rattle.jl_calculus.specs.Definitions.{AppliesTo, defs_from, del_at, dels_from}
use Rattle.jl_calculus.specs.Legal.{IsKeyOf, MayCome}
use Rattle.jl_calculus.specs.Ranges.{CacheRow, head_of, head_of_site, head_of_place, keys_of, rows_of, HeadTouches, ChangeTouches}
use Rattle.jl_calculus.specs.World.{changed, changes, world_of, HasMethodAt, FindsMethod}
use Rattle.jl_calculus.proofs.GrowthLemmas.{keys_append, rows_append, changed_append}
use Rattle.jl_methods.specs.Filters.{numbers_from, is_key_of, is_row_of}
use Rattle.jl_methods.specs.Indexed.{AreFilters}
use Rattle.jl_methods.specs.declared.newest.NewestRow.{NewestRow}
use Rattle.jl_methods.specs.Latest.{AreLatestOfPlaces, renewed, place_number}
use Rattle.jl_methods.specs.Links.{AreApplying}
use Rattle.jl_methods.specs.Newest.{IsNewestOf, newer}
use Rattle.jl_methods.specs.Noted.{Applying, Noted, with_key, with_row, with_def, with_del, with_event, next_world, function_in, function_of}
use Rattle.jl_methods.specs.Numbered.{nth, put_at, change_at}
use Rattle.jl_methods.proofs.ChangeLemmas.{def, del, defs_push, dels_push, def_of, del_of}
use Rattle.jl_methods.proofs.FilterLemmas.{numbers_push}
use Rattle.jl_methods.proofs.LinkLemmas.{linked_key, linked_other, linked_world, site_bound, place_bound, def_once, del_once, def_no_del, del_no_def}
use Rattle.jl_methods.proofs.FunctionLemmas.{get_there, function_known, place_known}
use Rattle.jl_methods.proofs.PreludeLemmas.{one_def}
use Rattle.jl_methods.proofs.PutLemmas.{only_if, nth_put_at, nth_add_none, nth_change_at, get_known, get_add_default}
use Rattle.jl_methods.proofs.LatestLemmas.{latest_more}
use Rattle.jl_methods.proofs.NewestLemmas.{newest_each}

-- ---- what the events add

changes_append : (es more : List Event) → changes (es ++ more) ≡ changes es ++ changed more
changes_append es more = ap (λ cs. map Ch.Def prelude_numbers ++ cs) (changed_append es more) ∙ sym (append_assoc (map Ch.Def prelude_numbers) (changed es) (changed more))

pub moved : (P : Program) (es : List Event) (e : Event) (v : Noted)
    → AreFilters P (changes es ++ changed (e ∷ [])) (keys_of es ++ keys_of (e ∷ [])) (rows_of es ++ rows_of (e ∷ [])) v
    → AreFilters P (changes (es ++ e ∷ [])) (keys_of (es ++ e ∷ [])) (rows_of (es ++ e ∷ [])) v
moved P es e v h =
    subst (λ cs. AreFilters P cs (keys_of (es ++ e ∷ [])) (rows_of (es ++ e ∷ [])) v) (sym (changes_append es (e ∷ [])))
    (subst (λ keys. AreFilters P (changes es ++ changed (e ∷ [])) keys (rows_of (es ++ e ∷ [])) v) (sym (keys_append es (e ∷ [])))
    (subst (λ rows. AreFilters P (changes es ++ changed (e ∷ [])) (keys_of es ++ keys_of (e ∷ [])) rows v) (sym (rows_append es (e ∷ []))) h))

module _ (P : Program) (cs : List Change) (keys : List Key) (rows : List CacheRow) (v : Noted) where
  pub no_change : AreFilters P cs keys rows v → AreFilters P (cs ++ []) keys rows v
  no_change h = subst (λ cs. AreFilters P cs keys rows v) (sym (append-nil cs)) h

  pub no_key : AreFilters P cs keys rows v → AreFilters P cs (keys ++ []) rows v
  no_key h = subst (λ keys. AreFilters P cs keys rows v) (sym (append-nil keys)) h

  pub no_row : AreFilters P cs keys rows v → AreFilters P cs keys (rows ++ []) v
  no_row h = subst (λ rows. AreFilters P cs keys rows v) (sym (append-nil rows)) h

-- ---- a key, a row and a change

module _ (P : Program) (cs : List Change) (keys : List Key) (rows : List CacheRow) (v : Noted) (h : AreFilters P cs keys rows v) where
  module _ (key : Key) (those : Applying) (proper : IsKeyOf P key) (at_sites : AreApplying P Ch.Def key those.sites) (at_places : AreApplying P Ch.Del key those.places) where
    key_numbers : (f : ℕ) → nth (put_at v.numbers key.function (length v.keys)) f ≡ numbers_from (is_key_of f) 0 (keys ++ key ∷ [])
    key_numbers f =
        let many : length v.keys ≡ 0 + length keys = omega (arith, ap length h.known_keys) in
        nth_put_at v.numbers key.function (length v.keys) f (omega (arith, h.all_numbers, proper.function))
        ∙ ap (λ xs. xs ++ only_if (nat_eq key.function f) (length v.keys)) (h.each_numbers f)
        ∙ ap (λ n. numbers_from (is_key_of f) 0 keys ++ only_if (nat_eq key.function f) n) many
        ∙ sym (numbers_push (is_key_of f) 0 keys key)

    pub key_added : AreFilters P cs (keys ++ key ∷ []) rows (with_key key those v)
    key_added =
        record {
          known_keys = ap (λ ks. ks ++ key ∷ []) h.known_keys;
          proper_keys = All-push (IsKeyOf P) keys key h.proper_keys proper;
          known_changes = h.known_changes;
          filled = h.filled;
          all_defs = h.all_defs;
          all_dels = h.all_dels;
          all_latest_dels = h.all_latest_dels;
          all_numbers = length-set v.numbers key.function (nth v.numbers key.function ++ length v.keys ∷ []) ∙ h.all_numbers;
          all_rows = omega (arith, h.all_rows, length_push v.rows [], length_push keys key);
          all_newest = omega (arith, h.all_newest, length_push v.newest None, length_push keys key);
          each_defs = h.each_defs;
          each_dels = h.each_dels;
          each_latest_dels = h.each_latest_dels;
          each_numbers = key_numbers;
          each_rows = λ n. nth_add_none v.rows n ∙ h.each_rows n;
          sites = linked_key P Ch.Def (length P.sites) (site_bound P) cs keys v.sites h.sites key those.sites at_sites (length v.keys) (ap length h.known_keys);
          places = linked_key P Ch.Del (length P.deletes) (place_bound P) cs keys v.places h.places key those.places at_places (length v.keys) (ap length h.known_keys);
          each_newest = λ n. subst (IsNewestOf rows n) (sym (get_add_default v.newest None n)) (h.each_newest n);
        }

  module _ (row : CacheRow) (known : row.key < length keys) where
    row_numbers : (n : ℕ) → nth (put_at v.rows row.key v.fills) n ≡ numbers_from (is_row_of n) 0 (rows ++ row ∷ [])
    row_numbers n =
        let many : v.fills ≡ 0 + length rows = omega (arith, h.filled) in
        nth_put_at v.rows row.key v.fills n (omega (arith, h.all_rows, known))
        ∙ ap (λ xs. xs ++ only_if (nat_eq row.key n) v.fills) (h.each_rows n)
        ∙ ap (λ m. numbers_from (is_row_of n) 0 rows ++ only_if (nat_eq row.key n) m) many
        ∙ sym (numbers_push (is_row_of n) 0 rows row)

    abbrev linked : NewestRow
    linked = record { number = v.fills; first = row.first }

    pub row_added : AreFilters P cs keys (rows ++ row ∷ []) (with_row row.key row.first v)
    row_added =
        record {
          known_keys = h.known_keys;
          proper_keys = h.proper_keys;
          known_changes = h.known_changes;
          filled = omega (arith, h.filled, length_push rows row);
          all_defs = h.all_defs;
          all_dels = h.all_dels;
          all_latest_dels = h.all_latest_dels;
          all_numbers = h.all_numbers;
          all_rows = length-set v.rows row.key (nth v.rows row.key ++ v.fills ∷ []) ∙ h.all_rows;
          all_newest = length-set v.newest row.key (Some (newer (get_or v.newest row.key None) linked)) ∙ h.all_newest;
          each_defs = h.each_defs;
          each_dels = h.each_dels;
          each_latest_dels = h.each_latest_dels;
          each_numbers = h.each_numbers;
          each_rows = row_numbers;
          sites = h.sites;
          places = h.places;
          each_newest = newest_each rows row linked h.filled refl v.newest (omega (arith, h.all_newest, known)) h.each_newest;
        }

  -- ---- a change

  newest : next_world v ≡ 1 + length cs
  newest = omega (arith, ap length h.known_changes)

  next_is : next_world v ≡ suc (length cs)
  next_is = omega (arith, newest)

  module _ (site : ℕ) (s : Site) (stands : slice_get P.sites site ≡ Some s) (known : s.function < length P.functions) where
    function_is : function_of P (Ch.Def site) ≡ s.function
    function_is = ap (λ o. function_in (head_of_site o)) stands

    defs_more : (f : ℕ) → defs_from P f 1 (cs ++ Ch.Def site ∷ []) ≡ defs_from P f 1 cs ++ only_if (nat_eq (function_of P (Ch.Def site)) f) (def (next_world v) site)
    defs_more f = one_def P f cs site (next_world v) (get_known P.sites site s stands) newest

    def_defs : (f : ℕ) → nth (put_at v.defs (function_of P (Ch.Def site)) (def (next_world v) site)) f ≡ defs_from P f 1 (cs ++ Ch.Def site ∷ [])
    def_defs f =
        nth_put_at v.defs (function_of P (Ch.Def site)) (def (next_world v) site) f (omega (arith, h.all_defs, function_is, known))
        ∙ ap (λ xs. xs ++ only_if (nat_eq (function_of P (Ch.Def site)) f) (def (next_world v) site)) (h.each_defs f)
        ∙ sym (defs_more f)

    -- no deletion more
    def_dels : (f : ℕ) → dels_from P f 1 (cs ++ Ch.Def site ∷ []) ≡ dels_from P f 1 cs
    def_dels f = dels_push P f 1 cs (Ch.Def site) ∙ append-nil (dels_from P f 1 cs)

    pub def_added : AreFilters P (cs ++ Ch.Def site ∷ []) keys rows (with_def (function_of P (Ch.Def site)) site v)
    def_added =
        record {
          known_keys = h.known_keys;
          proper_keys = h.proper_keys;
          known_changes = ap (λ xs. xs ++ Ch.Def site ∷ []) h.known_changes;
          filled = h.filled;
          all_defs = length-set v.defs (function_of P (Ch.Def site)) (nth v.defs (function_of P (Ch.Def site)) ++ def (next_world v) site ∷ []) ∙ h.all_defs;
          all_dels = h.all_dels;
          all_latest_dels = h.all_latest_dels;
          all_numbers = h.all_numbers;
          all_rows = h.all_rows;
          all_newest = h.all_newest;
          each_defs = def_defs;
          each_dels = λ f. h.each_dels f ∙ sym (def_dels f);
          each_latest_dels = λ f. subst (λ ds. AreLatestOfPlaces ds (nth v.latest_dels f)) (sym (def_dels f)) (h.each_latest_dels f);
          each_numbers = h.each_numbers;
          each_rows = h.each_rows;
          sites = linked_world P Ch.Def (length P.sites) (site_bound P) cs keys v.sites h.sites def_once site (get_known P.sites site s stands) (next_world v) next_is;
          places = linked_other P Ch.Del (length P.deletes) (place_bound P) cs keys v.places h.places (Ch.Def site) (λ n e. def_no_del site n e);
          each_newest = h.each_newest;
        }

  module _ (place : ℕ) (p : Delete) (stands : slice_get P.deletes place ≡ Some p) (known : p.function < length P.functions) where
    place_function : function_of P (Ch.Del place) ≡ p.function
    place_function = ap (λ o. function_in (head_of_place o)) stands

    dels_more : (f : ℕ) → dels_from P f 1 (cs ++ Ch.Del place ∷ []) ≡ dels_from P f 1 cs ++ only_if (nat_eq (function_of P (Ch.Del place)) f) (del (next_world v) place)
    dels_more f =
        dels_push P f 1 cs (Ch.Del place)
        ∙ ap (λ o. dels_from P f 1 cs ++ del_at o f (1 + length cs) place []) stands
        ∙ ap (λ n. dels_from P f 1 cs ++ only_if (nat_eq n f) (del (1 + length cs) place)) (sym place_function)
        ∙ ap (λ w. dels_from P f 1 cs ++ only_if (nat_eq (function_of P (Ch.Del place)) f) (del w place)) (sym newest)

    del_dels : (f : ℕ) → nth (put_at v.dels (function_of P (Ch.Del place)) (del (next_world v) place)) f ≡ dels_from P f 1 (cs ++ Ch.Del place ∷ [])
    del_dels f =
        nth_put_at v.dels (function_of P (Ch.Del place)) (del (next_world v) place) f (omega (arith, h.all_dels, place_function, known))
        ∙ ap (λ xs. xs ++ only_if (nat_eq (function_of P (Ch.Del place)) f) (del (next_world v) place)) (h.each_dels f)
        ∙ sym (dels_more f)

    -- no definition more
    del_defs : (f : ℕ) → defs_from P f 1 (cs ++ Ch.Del place ∷ []) ≡ defs_from P f 1 cs
    del_defs f = defs_push P f 1 cs (Ch.Del place) ∙ append-nil (defs_from P f 1 cs)

    -- the others were made before
    deleted_before : (f : ℕ) (x : Del) → Contains (dels_from P f 1 cs) x → x.world < next_world v
    deleted_before f x c =
        let i = del_of P f 1 cs x c in
        omega (arith, i.world_is, get_known cs i.place (Ch.Del x.place) i.change_is, newest)

    repeated_if : (f : ℕ) (a b : Bool) → nat_eq (function_of P (Ch.Del place)) f ≡ a → nat_eq f (function_of P (Ch.Del place)) ≡ b → AreLatestOfPlaces (dels_from P f 1 cs) (nth v.latest_dels f)
        → AreLatestOfPlaces (dels_from P f 1 cs ++ only_if a (del (next_world v) place)) (cond b (renewed place_number (nth v.latest_dels f) (del (next_world v) place)) (nth v.latest_dels f))
    repeated_if f true true i j past =
        latest_more place_number (λ (d : Del). d.world) (λ d. Unit {0}) (dels_from P f 1 cs) (nth v.latest_dels f) past (del (next_world v) place) tt (deleted_before f)
    repeated_if f true false i j past = absurd (eqb-false f (function_of P (Ch.Del place)) j (sym (eqb-true (function_of P (Ch.Del place)) f i)))
    repeated_if f false true i j past = absurd (eqb-false (function_of P (Ch.Del place)) f i (sym (eqb-true f (function_of P (Ch.Del place)) j)))
    repeated_if f false false i j past = subst (λ ds. AreLatestOfPlaces ds (nth v.latest_dels f)) (sym (append-nil (dels_from P f 1 cs))) past

    del_latest : (f : ℕ) → AreLatestOfPlaces (dels_from P f 1 (cs ++ Ch.Del place ∷ [])) (nth (change_at (λ ds. renewed place_number ds (del (next_world v) place)) v.latest_dels (function_of P (Ch.Del place))) f)
    del_latest f =
        subst (λ ds. AreLatestOfPlaces ds (nth (change_at (λ ds. renewed place_number ds (del (next_world v) place)) v.latest_dels (function_of P (Ch.Del place))) f)) (sym (dels_more f))
        (subst (AreLatestOfPlaces (dels_from P f 1 cs ++ only_if (nat_eq (function_of P (Ch.Del place)) f) (del (next_world v) place)))
        (sym (nth_change_at (λ ds. renewed place_number ds (del (next_world v) place)) v.latest_dels (function_of P (Ch.Del place)) f (omega (arith, h.all_latest_dels, place_function, known))))
        (repeated_if f (nat_eq (function_of P (Ch.Del place)) f) (nat_eq f (function_of P (Ch.Del place))) refl refl (h.each_latest_dels f)))

    pub del_added : AreFilters P (cs ++ Ch.Del place ∷ []) keys rows (with_del (function_of P (Ch.Del place)) place v)
    del_added =
        record {
          known_keys = h.known_keys;
          proper_keys = h.proper_keys;
          known_changes = ap (λ xs. xs ++ Ch.Del place ∷ []) h.known_changes;
          filled = h.filled;
          all_defs = h.all_defs;
          all_dels = length-set v.dels (function_of P (Ch.Del place)) (nth v.dels (function_of P (Ch.Del place)) ++ del (next_world v) place ∷ []) ∙ h.all_dels;
          all_latest_dels =
              length-set v.latest_dels (function_of P (Ch.Del place)) (renewed place_number (nth v.latest_dels (function_of P (Ch.Del place))) (del (next_world v) place)) ∙ h.all_latest_dels;
          all_numbers = h.all_numbers;
          all_rows = h.all_rows;
          all_newest = h.all_newest;
          each_defs = λ f. h.each_defs f ∙ sym (del_defs f);
          each_dels = del_dels;
          each_latest_dels = del_latest;
          each_numbers = h.each_numbers;
          each_rows = h.each_rows;
          sites = linked_other P Ch.Def (length P.sites) (site_bound P) cs keys v.sites h.sites (Ch.Del place) (λ n e. del_no_def place n e);
          places = linked_world P Ch.Del (length P.deletes) (place_bound P) cs keys v.places h.places del_once place (get_known P.deletes place p stands) (next_world v) next_is;
          each_newest = h.each_newest;
        }

-- ---- an event

noted_def : (P : Program) (valid : IsValid P) (es : List Event) (task site : ℕ) (v : Noted) → AreFilters P (changes es) (keys_of es) (rows_of es) v
    → site < length P.sites
    → AreFilters P (changes (es ++ Ev.Def task site ∷ [])) (keys_of (es ++ Ev.Def task site ∷ [])) (rows_of (es ++ Ev.Def task site ∷ [])) (with_def (function_of P (Ch.Def site)) site v)
noted_def P valid es task site v h l =
    let (s, stands) = get_there P.sites site l in
    let after = with_def (function_of P (Ch.Def site)) site v in
    moved P es (Ev.Def task site) after
    (no_key P (changes es ++ Ch.Def site ∷ []) (keys_of es) (rows_of es ++ []) after
    (no_row P (changes es ++ Ch.Def site ∷ []) (keys_of es) (rows_of es) after
    (def_added P (changes es) (keys_of es) (rows_of es) v h site s stands (function_known P valid site s stands))))

-- a deletion that finds a method has a place
place_there : (P : Program) (es : List Event) (w : ℕ) (o : Option Delete) → HasMethodAt P es w o → (p : Delete) × (o ≡ Some p)
place_there P es w None f = absurd f
place_there P es w (Some p) f = (p, refl)

noted_del : (P : Program) (valid : IsValid P) (es : List Event) (task place : ℕ) (v : Noted) → AreFilters P (changes es) (keys_of es) (rows_of es) v
    → FindsMethod P es place
    → AreFilters P (changes (es ++ Ev.Del task place ∷ [])) (keys_of (es ++ Ev.Del task place ∷ [])) (rows_of (es ++ Ev.Del task place ∷ [])) (with_del (function_of P (Ch.Del place)) place v)
noted_del P valid es task place v h finds =
    let (p, stands) = place_there P es (world_of es) (slice_get P.deletes place) finds in
    let after = with_del (function_of P (Ch.Del place)) place v in
    moved P es (Ev.Del task place) after
    (no_key P (changes es ++ Ch.Del place ∷ []) (keys_of es) (rows_of es ++ []) after
    (no_row P (changes es ++ Ch.Del place ∷ []) (keys_of es) (rows_of es) after
    (del_added P (changes es) (keys_of es) (rows_of es) v h place p stands (place_known P valid place p stands))))

noted_key : (P : Program) (es : List Event) (key : Key) (those : Applying) (v : Noted) → AreFilters P (changes es) (keys_of es) (rows_of es) v
    → IsKeyOf P key → AreApplying P Ch.Def key those.sites → AreApplying P Ch.Del key those.places
    → AreFilters P (changes (es ++ Ev.Key key ∷ [])) (keys_of (es ++ Ev.Key key ∷ [])) (rows_of (es ++ Ev.Key key ∷ [])) (with_key key those v)
noted_key P es key those v h proper sites places =
    let after = with_key key those v in
    moved P es (Ev.Key key) after
    (no_change P (changes es) (keys_of es ++ key ∷ []) (rows_of es ++ []) after
    (no_row P (changes es) (keys_of es ++ key ∷ []) (rows_of es) after
    (key_added P (changes es) (keys_of es) (rows_of es) v h key those proper sites places)))

noted_row : (P : Program) (es : List Event) (key site first : ℕ) (v : Noted) → AreFilters P (changes es) (keys_of es) (rows_of es) v → key < length (keys_of es)
    → AreFilters P (changes (es ++ Ev.Fill key site first ∷ [])) (keys_of (es ++ Ev.Fill key site first ∷ [])) (rows_of (es ++ Ev.Fill key site first ∷ [])) (with_row key first v)
noted_row P es key site first v h l =
    let row : CacheRow = record { key = key; site = site; first = first } in
    let after = with_row key first v in
    moved P es (Ev.Fill key site first) after
    (no_change P (changes es) (keys_of es ++ []) (rows_of es ++ row ∷ []) after
    (no_key P (changes es) (keys_of es) (rows_of es ++ row ∷ []) after
    (row_added P (changes es) (keys_of es) (rows_of es) v h row l)))

none_added : (P : Program) (es : List Event) (v : Noted) → AreFilters P (changes es) (keys_of es) (rows_of es) v → AreFilters P (changes es ++ []) (keys_of es ++ []) (rows_of es ++ []) v
none_added P es v h =
    no_change P (changes es) (keys_of es ++ []) (rows_of es ++ []) v
    (no_key P (changes es) (keys_of es) (rows_of es ++ []) v (no_row P (changes es) (keys_of es) (rows_of es) v h))

-- what applies to a key was found
abbrev pub IsFound : Program → Event → Applying → Type 0
IsFound P (Ev.Key key) those = AreApplying P Ch.Def key those.sites × AreApplying P Ch.Del key those.places
IsFound P (Ev.Fill key site first) those = Unit {0}
IsFound P (Ev.Def task site) those = Unit {0}
IsFound P (Ev.Del task place) those = Unit {0}
IsFound P (Ev.Begin fuel) those = Unit {0}
IsFound P (Ev.Spawn task child start) those = Unit {0}
IsFound P (Ev.Done task ended) those = Unit {0}

pub noted : (P : Program) → IsValid P → (es : List Event) (e : Event) (those : Applying) (v : Noted) → IsFound P e those → AreFilters P (changes es) (keys_of es) (rows_of es) v
    → MayCome P es e → AreFilters P (changes (es ++ e ∷ [])) (keys_of (es ++ e ∷ [])) (rows_of (es ++ e ∷ [])) (with_event P e those v)
noted P valid es (Ev.Key key) those v found h may = noted_key P es key those v h may.proper found.0 found.1
noted P valid es (Ev.Fill key site first) those v found h may = noted_row P es key site first v h (get_known (keys_of es) key may.key may.named)
noted P valid es (Ev.Def task site) those v found h may = noted_def P valid es task site v h may.may.1
noted P valid es (Ev.Del task place) those v found h may = noted_del P valid es task place v h may.may
noted P valid es (Ev.Begin fuel) those v found h may = moved P es (Ev.Begin fuel) v (none_added P es v h)
noted P valid es (Ev.Spawn task child start) those v found h may = moved P es (Ev.Spawn task child start) v (none_added P es v h)
noted P valid es (Ev.Done task ended) those v found h may = moved P es (Ev.Done task ended) v (none_added P es v h)

pub noted_is : (P : Program) → IsValid P → (es : List Event) (e : Event) (those : Applying) (v w : Noted) → w ≡ with_event P e those v → IsFound P e those → AreFilters P (changes es) (keys_of es) (rows_of es) v
    → MayCome P es e → AreFilters P (changes (es ++ e ∷ [])) (keys_of (es ++ e ∷ [])) (rows_of (es ++ e ∷ [])) w
noted_is P valid es e those v w q found h may =
    subst (AreFilters P (changes (es ++ e ∷ [])) (keys_of (es ++ e ∷ [])) (rows_of (es ++ e ∷ []))) (sym q) (noted P valid es e those v found h may)
