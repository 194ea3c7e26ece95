-- The statements at the top, and the program of a script.
use Rattle.std.proofs.Common.{flat_map, suc, ◌+◌, append_assoc, replicate, zero, take-append-drop, ◌≡◌, ◌∙◌, ap, sym, refl, subst, ℕ, ◌≤◌, arith, true, false, cond, ◌&&◌, max, nat_lt, nat_le, nat_eq, All, List, [], ◌∷◌, ◌++◌, map, length, take, drop, Option, Some, None, lt-ltb, le-leb, eq-eqb, append-nil}
use Rattle.std.specs.List.{list_all}
use Rattle.std.proofs.lemmas.List.{map-append}
use Rattle.std.proofs.Math.Seq.{take-append_seam, drop-append_seam}
use Rattle.jl_program.specs.declared.tree.Expr.TheOpen as V
use Rattle.jl_program.specs.declared.tree.Item.{Item as Code}
use Rattle.jl_program.specs.declared.tree.Item.TheVariants as I
use Rattle.jl_program.specs.declared.tree.Program.{Program}
use Rattle.jl_program.specs.declared.tree.Expr.TheVariants as W
use Rattle.jl_program.specs.declared.tree.Delete.{Delete}
use Rattle.jl_program.specs.declared.tree.Site.{Site}
use Rattle.jl_program.specs.BodyTypes.{IsAllowedType, IsSmallStruct}
use Rattle.jl_program.specs.Gathered.{Layer, of_expr, of_item, own_place, own_types, own_struct, in_program, spawned_places, written_types, inferred_structs, times}
use Rattle.jl_program.specs.Names.{is_free_name, are_distinct}
use Rattle.jl_model.specs.Refusals.{Declared}
use Rattle.jl_program.specs.Prelude.{prelude_count, prelude_functions, prelude_sites}
use Rattle.jl_program.specs.Scope.{all_types, View, Statement, nothing_seen, bound, in_turn, item_of, is_valid_expr, are_valid_items, are_valid_tasks, item_step as valid_item}
use Rattle.jl_program.specs.Valid.{IsValid, IsValidDelete, IsValidSig, IsValidSite}
use Rattle.jl_program.proofs.ValidLayers.{in-nothing, valid-define, valid-top-bind, valid-top-do}
use Rattle.jl_grammar.specs.declared.tree.Item.{Item}
use Rattle.jl_grammar.specs.declared.tree.Item.TheVariants as N
use Rattle.jl_grammar.specs.declared.tree.Name.{Name}
use Rattle.jl_formed.specs.Formed as G
use Rattle.jl_formed.specs.Formed.{FormedItem, FormedItems, FormedScript}
use Rattle.jl_written.specs.declared.fault.Fault.{Fault}
use Rattle.jl_written.specs.declared.fault.StaticKind.TheVariants as kind
use Rattle.jl_resolve_forms.specs.declared.known.Known.{Known}
use Rattle.jl_resolve_forms.specs.declared.state.Scope.{Scope}
use Rattle.jl_resolve_forms.specs.declared.state.State.{State}
use Rattle.jl_resolve_forms.specs.Defined.{methods_of, in_item, in_expr, in_method}
use Rattle.jl_resolve_forms.specs.Expressions.{expr_reads, method_reads, bare_scope}
use Rattle.jl_resolve_forms.specs.Scopes.{bind}
use Rattle.jl_resolve_forms.specs.Top.{resolve, first_at, clash, note_clash, top_bind, one_top, all_top, beginning}
use Rattle.jl_resolve_forms.specs.TypesIn.{Tests}
use Rattle.jl_valid.specs.Asked.{IsKnownOf, AreTold}
use Rattle.jl_valid.specs.Adds.{got, no_got, got_both, got_in, got_codes, gathered, bodies, stands, Every, IsGoodDelete, Fits, Views, Within, Adds}
use Rattle.jl_valid.specs.Parts.{Sees, standing, Passes, IsCode, IsSite, IsKnown}
use Rattle.jl_valid.specs.TypeLaws.{TypeLaws}
use Rattle.jl_valid.proofs.FaultLemmas.{no_note, clean}
use Rattle.jl_valid.proofs.AddsLemmas.{every_append, times_append, gathered_append, got_is, and, nothing, told, both, ends_at, more_spawns}
use Rattle.jl_valid.proofs.NameLemmas.{all_of, adds_names, functions_begin, functions_end, begins_known, begins_with}
use Rattle.jl_valid.proofs.BlockForms.{got_item, got_items, define_got, top_bind_got, top_do_got}
use Rattle.jl_valid.proofs.FormLemmas.{nil_behind}
use Rattle.jl_valid.proofs.LawLemmas.{laws_hold}
use Rattle.jl_valid.proofs.ScopeLemmas.{one_more, bind_sees, bind_same}
use Rattle.jl_valid.proofs.TreeLemmas.{expr_good, method_good}

-- a name at the top that clashes is a fault
clash_same : (at : ℕ) (o : Option ℕ) (s : State) → (clash at o s).fault ≡ None → clash at o s ≡ s
clash_same at None s e = refl
clash_same at (Some other) s e = absurd (no_note (max at other) kind.Rebound s e)

note_clash_same : (k : Known) (n : Name) (s : State) → (note_clash k n s).fault ≡ None → note_clash k n s ≡ s
note_clash_same k n s e =
    let m = clash n.at (first_at k.methods n.bytes) s in
    let outer = clash_same n.at (first_at k.types n.bytes) m e in
    outer ∙ clash_same n.at (first_at k.methods n.bytes) s (clean m (note_clash k n s) e outer)

pub top_bind_same : (k : Known) (n : Name) (c : Scope) (s : State) → (top_bind k n c s).after.fault ≡ None → (top_bind k n c s).after ≡ s
top_bind_same k n c s e =
    let b = bind n c s in
    let outer = note_clash_same k n b.after e in
    outer ∙ bind_same n c s (clean b.after (note_clash k n b.after) e outer)

-- what is visible behind an item
abbrev pub view_behind : Item → View → View
view_behind (N.Abstract a) v = v
view_behind (N.Struct x) v = v
view_behind (N.Method m) v = v
view_behind (N.Bind n x) v = one_more v
view_behind (N.Do x) v = v

-- items are valid one after another, and behind them what follows
abbrev Leads : View → View → ℕ → List Code → Program → List View → Type 0
Leads v w n xs P all = (least : ℕ) → least ≤ n → (rest : List Statement) → in_turn rest (standing w false least) ≡ true → in_turn (map (item_of P all) xs ++ rest) (standing v false least) ≡ true

flat_append : {A : Type 0} (f : Code → List A) (xs ys : List Code) → flat_map (λ z. z) (map f (xs ++ ys)) ≡ flat_map (λ z. z) (map f xs) ++ flat_map (λ z. z) (map f ys)
flat_append f [] ys = refl
flat_append f (x ∷ xs) ys = ap (λ z. f x ++ z) (flat_append f xs ys) ∙ sym (append_assoc (f x) (flat_map (λ z. z) (map f xs)) (flat_map (λ z. z) (map f ys)))

items_append : (xs ys : List Code) → got_items (xs ++ ys) ≡ got_both (got_items xs) (got_items ys)
items_append xs ys = λ i. got (flat_append (of_item own_place) xs ys i) (flat_append (of_item own_types) xs ys i) (flat_append (of_item own_struct) xs ys i)

module _ (t : Tests) (k : Known) (known : IsKnown k) (laws : TypeLaws t k) where
  item_sees : (x : Item) (c : Scope) (s : State) (v : View) → Sees c v → Sees (one_top t k x c s).value.1 (view_behind x v)
  item_sees (N.Abstract a) c s v see = record { slots = see.slots; statics = see.statics }
  item_sees (N.Struct x) c s v see = record { slots = see.slots; statics = see.statics }
  item_sees (N.Method m) c s v see = see
  item_sees (N.Bind n x) c s v see = bind_sees n c (expr_reads t k x c s).after v see
  item_sees (N.Do x) c s v see = see

  -- one item in front of others
  leads_one :
      (P : Program) (all : List View) (i : Code) (a : Statement) (v w : View) (n : ℕ) → item_of P all i ≡ a → Passes v false n a.valid
      → ((least : ℕ) → cond a.binds (bound (standing v false least)) (standing v false least) ≡ standing w false least) → Leads v w n (i ∷ []) P all
  leads_one P all i a v w n e h g least l rest r =
      let here = standing v false least in
      ap (λ (z : Statement). z.valid here && in_turn rest (cond z.binds (bound here) here)) e
      ∙ and (a.valid here) (in_turn rest (cond a.binds (bound here) here)) (h least l) (ap (in_turn rest) (g least) ∙ r)

  one_top_good :
      (x : Item) → FormedItem x → (c : Scope) (v : View) (s : State) → Sees c v → (one_top t k x c s).after.fault ≡ None
      → Adds k s (one_top t k x c s).after (in_item x) (got_items (one_top t k x c s).value.0) (Leads v (view_behind x v) (length s.spawns) (one_top t k x c s).value.0)
  one_top_good _ (G.abstract_item h f) c v s see e = nothing k s (Leads v v (length s.spawns) []) e (λ P all f least l rest r. r)
  one_top_good _ (G.struct_item h fs f g) c v s see e = nothing k s (Leads v v (length s.spawns) []) e (λ P all f least l rest r. r)
  one_top_good _ (G.method_item m f) c v s see e =
      let y = method_reads t k m c.types s in
      let Holds = Leads v v (length s.spawns) (I.Define y.value ∷ []) in
      got_is k s y.after (in_method m) no_got (got_items (I.Define y.value ∷ [])) Holds (nil_behind (got_item (I.Define y.value)) ∙ define_got y.value)
      (told k s y.after (in_method m) no_got (IsSite k y.value) Holds (method_good t k known laws m f c.types s e)
      (λ P all fit a. leads_one P all (I.Define y.value) (valid_item P all (V.Define y.value)) v v (length s.spawns) (valid-define P all y.value)
      (λ least l. and (nat_le prelude_count y.value) (nat_lt y.value (length P.sites)) (le-leb prelude_count y.value a.0) (lt-ltb y.value (length P.sites) a.1))
      (λ least. refl)))
  one_top_good _ (G.bind_item n x is f) c v s see e =
      let y = expr_reads t k x c s in
      let b = top_bind k n c y.after in
      let same = top_bind_same k n c y.after e in
      let Holds = Leads v (one_more v) (length s.spawns) (I.Bind (length c.slots) y.value ∷ []) in
      let i = I.Bind (length c.slots) y.value in
      ends_at k s y.after b.after (in_expr x) (got_items (i ∷ [])) Holds same
      (got_is k s y.after (in_expr x) (got_in y.value) (got_items (i ∷ [])) Holds (nil_behind (got_item i) ∙ top_bind_got (length c.slots) y.value)
      (told k s y.after (in_expr x) (got_in y.value) (IsCode v false (length s.spawns) y.value) Holds (expr_good t k known laws false x f c v s see (clean y.after b.after e same))
      (λ P all fit a. leads_one P all (I.Bind (length c.slots) y.value) (valid_item P all (V.Item::Bind (length c.slots) (is_valid_expr P all y.value))) v (one_more v) (length s.spawns)
      (valid-top-bind P all (length c.slots) y.value)
      (λ least l. and (nat_eq (length c.slots) v.slots) _ (eq-eqb (length c.slots) v.slots see.slots) (a least l))
      (λ least. refl))))
  one_top_good _ (G.do_item x f) c v s see e =
      let y = expr_reads t k x c s in
      let Holds = Leads v v (length s.spawns) (I.Do y.value ∷ []) in
      got_is k s y.after (in_expr x) (got_in y.value) (got_items (I.Do y.value ∷ [])) Holds (nil_behind (got_item (I.Do y.value)) ∙ top_do_got y.value)
      (told k s y.after (in_expr x) (got_in y.value) (IsCode v false (length s.spawns) y.value) Holds (expr_good t k known laws false x f c v s see e)
      (λ P all fit a. leads_one P all (I.Do y.value) (valid_item P all (V.Item::Do (is_valid_expr P all y.value))) v v (length s.spawns) (valid-top-do P all y.value) a (λ least. refl)))

  pub all_top_good :
      (xs : List Item) → FormedItems xs → (c : Scope) (v : View) (s : State) → Sees c v → (all_top t k xs c s).after.fault ≡ None
      → Adds k s (all_top t k xs c s).after (methods_of xs) (got_items (all_top t k xs c s).value.0) (λ P all. Passes v false (length s.spawns) (are_valid_items P all (all_top t k xs c s).value.0))
  all_top_good _ G.no_items c v s see e = nothing k s (λ P all. Passes v false (length s.spawns) (are_valid_items P all [])) e (λ P all f least l. refl)
  all_top_good _ (G.more_items x xs f fs) c v s see e =
      let y = one_top t k x c s in
      let ys = all_top t k xs y.value.1 y.after in
      let w = view_behind x v in
      let A = Leads v w (length s.spawns) y.value.0 in
      let B : Program → List View → Type 0 = λ P all. Passes w false (length y.after.spawns) (are_valid_items P all ys.value.0) in
      let rest = all_top_good xs fs y.value.1 w y.after (item_sees x c s v see) e in
      let first = one_top_good x f c v s see rest.clean in
      let Holds : Program → List View → Type 0 = λ P all. Passes v false (length s.spawns) (are_valid_items P all (y.value.0 ++ ys.value.0)) in
      got_is k s ys.after (in_item x ++ methods_of xs) (got_both (got_items y.value.0) (got_items ys.value.0)) (got_items (y.value.0 ++ ys.value.0)) Holds (items_append y.value.0 ys.value.0)
      (told k s ys.after (in_item x ++ methods_of xs) (got_both (got_items y.value.0) (got_items ys.value.0)) (λ P all. A P all × B P all) Holds
      (both k s y.after ys.after (in_item x) (methods_of xs) (got_items y.value.0) (got_items ys.value.0) A B first rest)
      (λ P all fit a least l.
      ap (λ (zs : List Statement). in_turn zs (standing v false least)) (map-append (item_of P all) y.value.0 ys.value.0)
      ∙ a.0 least l (map (item_of P all) ys.value.0) (a.1 least (omega (arith, l, more_spawns k s y.after (in_item x) (got_items y.value.0) A first)))))

-- ---- the program

-- what stands in the bodies of the prelude is nothing
nothings : {A : Type 0} (own : Layer A → List A) → own V.Nothing ≡ [] → (n : ℕ) → gathered own (replicate n W.Nothing) ≡ []
nothings own e zero = refl
nothings own e (suc n) = ap (λ z. z ++ gathered own (replicate n W.Nothing)) (in-nothing own ∙ ap (λ z. z ++ []) e) ∙ nothings own e n

flat : {X A : Type 0} (f : X → List A) (xs : List X) → flat_map f xs ≡ flat_map (λ z. z) (map f xs)
flat f [] = refl
flat f (x ∷ xs) = ap (λ z. f x ++ z) (flat f xs)

flat_bodies : {A : Type 0} (own : Layer A → List A) (sites : List Site) → flat_map (λ (site : Site). of_expr own site.body) sites ≡ gathered own (bodies sites)
flat_bodies own [] = refl
flat_bodies own (x ∷ xs) = ap (λ z. of_expr own x.body ++ z) (flat_bodies own xs)

-- what stands in a program, by its new sites, its spawn places and its items
in_all : {A : Type 0} (own : Layer A → List A) → own V.Nothing ≡ [] → (P : Program) (sites : List Site) → P.sites ≡ prelude_sites ++ sites
    → in_program own P ≡ (gathered own (bodies sites) ++ gathered own P.spawns) ++ flat_map (λ z. z) (map (of_item own) P.top)
in_all own e P sites is =
    let fourteen : bodies prelude_sites ≡ replicate 14 W.Nothing = refl in
    let prelude = ap (gathered own) fourteen ∙ nothings own e 14 in
    let all = flat_bodies own P.sites ∙ ap (λ z. gathered own (bodies z)) is ∙ ap (gathered own) (map-append (λ (site : Site). site.body) prelude_sites sites)
    ∙ gathered_append own (bodies prelude_sites) (bodies sites) ∙ ap (λ z. z ++ gathered own (bodies sites)) prelude in
    λ i. (all i ++ flat (of_expr own) P.spawns i) ++ flat (of_item own) P.top i

all_valid : (k : Known) (P : Program) → P.functions ≡ k.functions → all_types P ≡ k.decls → (xs : List Delete) → Every (IsGoodDelete k) xs → Every (IsValidDelete P) xs
all_valid k P f d [] h = tt
all_valid k P f d (x ∷ xs) h =
    let twelve : length prelude_functions ≡ 12 = refl in
    let one : IsValidDelete P x = record {
      function = omega (arith, h.0.function, ap length f);
      past_prelude = omega (arith, twelve, h.0.past_prelude);
      signature = subst (λ ds. IsValidSig ds x.sig) (sym d) h.0.signature;
    } in (one, all_valid k P f d xs h.1)

pub valid :
    (t : Tests) (k : Known) (items : List Item) (f : Option Fault) → FormedItems items → IsKnownOf items k → AreTold k.decls t
    → (resolve t k items f).fault ≡ None → IsValid (resolve t k items f).program
valid t k items f formed of told_all e =
    let laws = laws_hold t k items of told_all in
    let twelve : length prelude_functions ≡ 12 = refl in
    let begun = begins_with prelude_functions (methods_of items) in
    let known : IsKnown k = record {
      functions = omega (arith, twelve, begins_known prelude_functions (methods_of items), ap length of.functions);
      prelude = ap (take (length prelude_functions)) of.functions ∙ functions_begin (methods_of items) begun.0 begun.1;
    } in
    let start = beginning f in
    let top = all_top t k items (bare_scope 8) start in
    let adds = all_top_good t k known laws items formed (bare_scope 8) nothing_seen start (record { slots = refl; statics = tt }) e in
    let P = (resolve t k items f).program in
    let names = adds_names prelude_functions (methods_of items) adds.free in
    let types : all_types P ≡ k.decls = ap (λ ds. ds ++ drop 8 k.decls) (sym of.builtins) ∙ take-append-drop 8 k.decls in
    let fits : Fits k (length top.after.sites) P = record { functions = refl; types = types; count = omega arith } in
    let seen : Views adds.views 0 adds.views = record { before = []; behind = []; is = sym (append-nil adds.views); at = refl } in
    let within : Within k start top.after adds.views P adds.views = record { fits = fits; seen = seen; prelude = omega arith; deletes = omega arith } in
    let g = adds.gathers in
    let got_top = got_items P.top in
    let sites = got_codes (bodies adds.sites) in
    let spawns = adds.spawns_are in
    let places : (p : ℕ) → times p (spawned_places P) ≡ stands p adds.sites adds.spawns got_top = λ p.
    ap (times p) (in_all own_place refl P adds.sites adds.sites_are)
    ∙ times_append p (sites.places ++ gathered own_place P.spawns) got_top.places
    ∙ ap (λ z. z + times p got_top.places) (times_append p sites.places (gathered own_place P.spawns))
    ∙ ap (λ z. times p sites.places + times p (gathered own_place z) + times p got_top.places) spawns in
    let allowed = every_append (IsAllowedType k.decls) (sites.types ++ gathered own_types adds.spawns) got_top.types (every_append (IsAllowedType k.decls) sites.types (gathered own_types adds.spawns) g.in_sites.types g.in_spawns.types) g.here.types in
    let small = every_append (IsSmallStruct k.decls) (sites.structs ++ gathered own_struct adds.spawns) got_top.structs (every_append (IsSmallStruct k.decls) sites.structs (gathered own_struct adds.spawns) g.in_sites.structs g.in_spawns.structs) g.here.structs in
    let all_written : written_types P ≡ (sites.types ++ gathered own_types adds.spawns) ++ got_top.types = in_all own_types refl P adds.sites adds.sites_are ∙ ap (λ z. (sites.types ++ gathered own_types z) ++ got_top.types) spawns in
    let all_inferred : inferred_structs P ≡ (sites.structs ++ gathered own_struct adds.spawns) ++ got_top.structs = in_all own_struct refl P adds.sites adds.sites_are ∙ ap (λ z. (sites.structs ++ gathered own_struct z) ++ got_top.structs) spawns in
    record {
      decls = subst Declared (sym types) of.declared;
      named = of.named;
      prelude_names = ap (take (length prelude_functions)) of.functions ∙ functions_begin (methods_of items) names.fresh names.is;
      names = ap (list_all is_free_name) (ap (drop (length prelude_functions)) of.functions ∙ functions_end (methods_of items) names.fresh names.is) ∙ names.free;
      distinct = ap are_distinct of.functions ∙ names.distinct refl;
      views = adds.views;
      tasks = ap (are_valid_tasks P adds.views 0 adds.views) spawns ∙ adds.tasks P adds.views within;
      once = λ p l. places p ∙ g.once p (omega arith) l;
      prelude = ap (take (length prelude_sites)) adds.sites_are ∙ take-append_seam prelude_sites adds.sites;
      sites = subst (λ xs. All (IsValidSite P adds.views) xs) (sym (ap (drop (length prelude_sites)) adds.sites_are ∙ drop-append_seam prelude_sites adds.sites))
          (all_of (IsValidSite P adds.views) adds.sites (adds.valid P adds.views within));
      deletes = subst (λ xs. All (IsValidDelete P) xs) (sym adds.deletes_are) (all_of (IsValidDelete P) adds.deletes (all_valid k P refl types adds.deletes adds.deletions));
      top = adds.holds P adds.views within 0 (omega arith);
      written = subst (λ ds. All (IsAllowedType ds) (written_types P)) (sym types) (subst (λ xs. All (IsAllowedType k.decls) xs) (sym all_written) (all_of (IsAllowedType k.decls) ((sites.types ++ gathered own_types adds.spawns) ++ got_top.types) allowed));
      inferred = subst (λ ds. All (IsSmallStruct ds) (inferred_structs P)) (sym types) (subst (λ xs. All (IsSmallStruct k.decls) xs) (sym all_inferred) (all_of (IsSmallStruct k.decls) ((sites.structs ++ gathered own_struct adds.spawns) ++ got_top.structs) small));
    }
