-- Spawn places and methods: what is read in them gets a number of its own before it is read.
use Rattle.std.proofs.Common.{◌≤◌, eq-or-lt_of_le, inl, inr, ◌⊎◌, eqb-true, true≢false, ◌≡◌, ◌∙◌, ap, sym, refl, subst, ℕ, suc, ◌+◌, ◌<◌, arith, Bool, true, false, cond, not, nat_lt, nat_le, nat_eq, List, [], ◌∷◌, ◌++◌, map, length, slice_set, Option, Some, None, lt-ltb, le-leb, eq-eqb, append_assoc, length-append}
use Rattle.std.specs.List.{flat_map}
use Rattle.std.proofs.lemmas.List.{length-map}
use Rattle.jl_model.specs.declared.ty.Decl.{Decl}
use Rattle.jl_program.specs.declared.tree.Expr.TheOpen as V
use Rattle.jl_program.specs.declared.tree.Expr.TheVariants as W
use Rattle.jl_program.specs.declared.tree.Expr.{Expr as Code}
use Rattle.jl_program.specs.declared.tree.Program.{Program}
use Rattle.jl_program.specs.declared.tree.Site.{Site}
use Rattle.jl_program.specs.Gathered.{times}
use Rattle.jl_program.specs.declared.tree.Expr.TheViews as X
use Rattle.jl_program.specs.Names.{is_among, builtin_names, reserved_words, is_identifier}
use Rattle.jl_program.specs.Scope.{View, in_body, in_task, same_flags, same_view, is_valid_expr, are_valid_tasks, expr_step as valid_step}
use Rattle.jl_program.specs.Valid.{IsValidSig, IsValidSite}
use Rattle.jl_program.proofs.ValidLayers.{valid-spawn}
use Rattle.jl_typeread.specs.declared.tree.TypeText.{TypeText}
use Rattle.jl_grammar.specs.declared.tree.Callee.{Callee}
use Rattle.jl_grammar.specs.declared.tree.Callee.TheVariants as C
use Rattle.jl_grammar.specs.declared.tree.Eval.TheOpen as F
use Rattle.jl_grammar.specs.declared.tree.Head.{Head}
use Rattle.jl_grammar.specs.declared.tree.Name.{Name}
use Rattle.jl_grammar.specs.declared.tree.Param.{Param}
use Rattle.jl_grammar.specs.declared.tree.Param.TheVariants as A
use Rattle.jl_written.specs.declared.fault.StaticKind.TheVariants as kind
use Rattle.jl_written.specs.declared.reading.Reading.{Reading}
use Rattle.jl_written.specs.declared.reading.TypeVar.{TypeVar}
use Rattle.jl_written.specs.Reads.{Types, no_reading, without_places, places_behind}
use Rattle.jl_written.specs.Signatures.{all_bound, all_read, option_reads}
use Rattle.jl_resolve_forms.specs.declared.known.Known.{Known}
use Rattle.jl_resolve_forms.specs.declared.state.Opening.{Opening}
use Rattle.jl_resolve_forms.specs.declared.state.Scope.{Scope}
use Rattle.jl_resolve_forms.specs.declared.state.Signed.{Signed}
use Rattle.jl_resolve_forms.specs.declared.state.State.{State}
use Rattle.jl_resolve_forms.specs.Resolver.{Resolution}
use Rattle.jl_resolve_forms.specs.Defined.{own_name}
use Rattle.jl_resolve_forms.specs.Functions.{place_of_callee, function_of}
use Rattle.jl_resolve_forms.specs.Scopes.{note_if, merge_fault, with_slot, bind}
use Rattle.jl_resolve_forms.specs.TypesIn.{Tests, declared_at}
use Rattle.jl_resolve_forms.specs.Expressions.{Reads, Says, block_of, bare_scope, spawned, type_of, parameters, static_parameters, names_in, may_define, defined_function, if_unknown, too_many, site_of, reserve_site, close_site, method_signature, check_name, open_method, method, method_step, expr_step}
use Rattle.jl_type_laws.proofs.OrderLemmas.{ordered_count}
use Rattle.jl_valid.specs.Adds.{got, no_got, got_in, got_codes, bodies, stands, Gathers, Every, IsFree, Views, Within, Adds}
use Rattle.jl_valid.specs.Parts.{Sees, IsCode, flags_of, IsGood, IsSite, IsGoodMethod, IsGoodStmt, Each, IsKnown, IsGoodName, IsGoodHead}
use Rattle.jl_valid.proofs.FaultLemmas.{note_if_none, note_if_same, merge_fault_none, merge_fault_same, clean}
use Rattle.jl_valid.proofs.AddsLemmas.{got_is, times_append, both_allowed, none_allowed, and, left, right, every_append, last_views, view_at, view_within, by_layer}
use Rattle.jl_valid.proofs.FormLemmas.{got_at, clean_of}
use Rattle.jl_valid.proofs.BlockForms.{block_good}
use Rattle.jl_valid.proofs.TypeUses.{function_there, no_kind}
use Rattle.jl_valid.proofs.ScopeLemmas.{one_more, sees_slot, bind_sees, bind_same}

-- the same is visible as itself
same_flags_self : (xs : List Bool) → same_flags xs xs ≡ true
same_flags_self [] = refl
same_flags_self (true ∷ xs) = same_flags_self xs
same_flags_self (false ∷ xs) = same_flags_self xs

same_view_self : (v : View) → same_view v v ≡ true
same_view_self v = and (nat_eq v.slots v.slots) (same_flags v.statics v.statics) (eq-eqb v.slots v.slots refl) (same_flags_self v.statics)

-- the member behind a list, set
set_seam : {X : Type 0} (xs : List X) (y z : X) (ys : List X) → slice_set (xs ++ y ∷ ys) (length xs) z ≡ xs ++ z ∷ ys
set_seam [] y z ys = refl
set_seam (x ∷ xs) y z ys = ap (λ zs. x ∷ zs) (set_seam xs y z ys)

set_placed : {X : Type 0} (xs ys all : List X) (y z : X) → all ≡ (xs ++ y ∷ []) ++ ys → slice_set all (length xs) z ≡ xs ++ z ∷ ys
set_placed xs ys all y z e = ap (λ zs. slice_set zs (length xs) z) (e ∙ append_assoc xs (y ∷ []) ys) ∙ set_seam xs y z ys

not_same : (p n : ℕ) → n ≤ p → (p ≡ n → ⊥) → n + 1 ≤ p
not_same p n l h = by (eq-or-lt_of_le l)
  where
    by : (n ≡ p) ⊎ (n < p) → n + 1 ≤ p
    by (inl e) = absurd (h (sym e))
    by (inr less) = omega (arith, less)

pub one_longer : {X : Type 0} (xs : List X) (y : X) → length (xs ++ y ∷ []) ≡ length xs + 1
one_longer xs y = length-append xs (y ∷ [])

-- ---- places that stand once

times_here : (n : ℕ) → times n (n ∷ []) ≡ 1
times_here n = ap (λ b. cond {A = ℕ} b 1 0) (eq-eqb n n refl)

times_apart : (p n : ℕ) → (p ≡ n → ⊥) → times p (n ∷ []) ≡ 0
times_apart p n h = by (nat_eq p n) (λ e. h (eqb-true p n e))
  where
    by : (b : Bool) → (b ≡ true → ⊥) → cond {A = ℕ} b 1 0 ≡ 0
    by true f = absurd (f refl)
    by false f = refl

spawn_got : (n : ℕ) → got_in (W.Spawn n) ≡ got (n ∷ []) [] []
spawn_got n = got_at (V.Spawn n) (W.Spawn n) (X.rolls-Spawn n)

-- what was read is the expression of a new spawn place
gathers_spawn :
    (k : Known) (n m : ℕ) (sites : List Site) (spawns : List Code) (x : Code) → n < m → Gathers k (n + 1) m sites spawns (got_in x) → Gathers k n m sites (x ∷ spawns) (got (n ∷ []) [] [])
gathers_spawn k n m sites spawns x l h =
    let a = got_codes (bodies sites) in
    let b = got_codes spawns in
    let sum : (p : ℕ) → stands p sites (x ∷ spawns) (got (n ∷ []) [] []) ≡ stands p sites spawns (got_in x) + times p (n ∷ []) =
    λ p. let apart = times_append p (got_in x).places b.places in omega (arith, apart) in
    record {
      once = λ p low high. once p (nat_eq p n) refl (sum p) low high;
      before = λ p low. omega (arith, sum p, h.before p (omega (arith, low)), times_apart p n (λ e. omega (arith, e, low)));
      behind = λ p high. omega (arith, sum p, h.behind p high, times_apart p n (λ e. omega (arith, e, high, l)));
      in_sites = h.in_sites;
      in_spawns = both_allowed k (got_in x) b h.here h.in_spawns;
      here = record { types = tt; structs = tt };
    }
  where
    once :
        (p : ℕ) (b : Bool) → nat_eq p n ≡ b → stands p sites (x ∷ spawns) (got (n ∷ []) [] []) ≡ stands p sites spawns (got_in x) + times p (n ∷ []) → n ≤ p → p < m
        → stands p sites (x ∷ spawns) (got (n ∷ []) [] []) ≡ 1
    once p true e sum low high =
        let is = eqb-true p n e in
        let one = ap (λ z. times z (n ∷ [])) is ∙ times_here n in
        omega (arith, sum, h.before p (omega (arith, is)), one)
    once p false e sum low high =
        let apart : p ≡ n → ⊥ = λ is. true≢false (sym (eq-eqb p n is) ∙ e) in
        let low2 : n + 1 ≤ p = not_same p n low apart in
        omega (arith, sum, h.once p low2 high, times_apart p n apart)

-- what was read is the body of a new site
gathers_site : (k : Known) (n m : ℕ) (sites : List Site) (spawns : List Code) (site : Site) → Gathers k n m sites spawns (got_in site.body) → Gathers k n m (site ∷ sites) spawns no_got
gathers_site k n m sites spawns site h =
    let a = got_codes (bodies sites) in
    let sum : (p : ℕ) → stands p (site ∷ sites) spawns no_got ≡ stands p sites spawns (got_in site.body) = λ p. let apart = times_append p (got_in site.body).places a.places in omega (arith, apart) in
    record {
      once = λ p low high. sum p ∙ h.once p low high;
      before = λ p low. sum p ∙ h.before p low;
      behind = λ p high. sum p ∙ h.behind p high;
      in_sites = both_allowed k (got_in site.body) a h.here h.in_sites;
      in_spawns = h.in_spawns;
      here = none_allowed k;
    }

module _ (t : Tests) (k : Known) where
  -- ---- spawn places

  module _ (r : Bool) (ns : List Name) (x : Reads) (good : IsGood k false ns x) (c : Scope) (v : View) (s : State) (see : Sees c v) where
    abbrev begun : State
    begun = record s { spawns = s.spawns ++ W.Nothing ∷ [] }

    abbrev read : Resolution Code
    read = x c begun

    abbrev ended : State
    ended = record read.after { spawns = slice_set read.after.spawns (length s.spawns) read.value }

    module _ (e : read.after.fault ≡ None) where
      inner : Adds k begun read.after ns (got_in read.value) (IsCode v false (length begun.spawns) read.value)
      inner = good c v begun see e

      next : length begun.spawns ≡ length s.spawns + 1
      next = one_longer s.spawns W.Nothing

      within : (P : Program) (all : List View) → Within k s ended (v ∷ inner.views) P all → Within k begun read.after inner.views P all
      within P all w = record { fits = w.fits; seen = last_views all (length s.spawns) (length begun.spawns) (v ∷ []) inner.views next w.seen; prelude = w.prelude; deletes = w.deletes }

      place_passes : (P : Program) (all : List View) → Views all (length s.spawns) (v ∷ inner.views) → IsCode v r (length s.spawns) (W.Spawn (length s.spawns)) P all
      place_passes P all w =
          let n = length s.spawns in
          by_layer v r n (is_valid_expr P all (W.Spawn n)) (valid_step P all (V.Spawn n)) (valid-spawn P all n)
          (λ least l. and (nat_lt n (length all)) _ (lt-ltb n (length all) (view_within all n v inner.views w))
          (and (nat_le least n) _ (le-leb least n l) (ap (λ u. same_view u v) (view_at all n v inner.views w) ∙ same_view_self v)))

      spawns_set : ended.spawns ≡ s.spawns ++ read.value ∷ inner.spawns
      spawns_set = set_placed s.spawns inner.spawns read.after.spawns W.Nothing read.value inner.spawns_are

      same_spawns : length ended.spawns ≡ length read.after.spawns
      same_spawns = omega (arith, ap length spawns_set, length-append s.spawns (read.value ∷ inner.spawns), ap length inner.spawns_are, length-append begun.spawns inner.spawns, next)

      some_spawn : length s.spawns < length ended.spawns
      some_spawn = omega (arith, ap length spawns_set, length-append s.spawns (read.value ∷ inner.spawns))

      stands_once : Gathers k (length s.spawns) (length ended.spawns) inner.sites (read.value ∷ inner.spawns) (got (length s.spawns ∷ []) [] [])
      stands_once = gathers_spawn k (length s.spawns) (length ended.spawns) inner.sites inner.spawns read.value some_spawn
          (subst (λ m. Gathers k (length s.spawns + 1) m inner.sites inner.spawns (got_in read.value)) (sym same_spawns)
          (subst (λ n. Gathers k n (length read.after.spawns) inner.sites inner.spawns (got_in read.value)) next inner.gathers))

      pub spawn_adds : Adds k s ended ns (got (length s.spawns ∷ []) [] []) (IsCode v r (length s.spawns) (W.Spawn (length s.spawns)))
      spawn_adds = record {
        clean = inner.clean;
        sites = inner.sites;
        spawns = read.value ∷ inner.spawns;
        deletes = inner.deletes;
        views = v ∷ inner.views;
        sites_are = inner.sites_are;
        spawns_are = spawns_set;
        deletes_are = inner.deletes_are;
        as_many = omega (arith, inner.as_many);
        free = inner.free;
        deletions = inner.deletions;
        gathers = stands_once;
        valid = λ P all w. inner.valid P all (within P all w);
        tasks = λ P all w. and (is_valid_expr P all read.value (in_task (length s.spawns) v)) (are_valid_tasks P all (length s.spawns + 1) inner.views inner.spawns)
            (inner.holds P all (within P all w) (length s.spawns + 1) (omega (arith, next)))
            (subst (λ n. are_valid_tasks P all n inner.views inner.spawns ≡ true) next (inner.tasks P all (within P all w)));
        holds = λ P all w. place_passes P all w.seen;
      }

  pub spawn : (r : Bool) (at : ℕ) (ns : List Name) (x : Reads) → IsGood k false ns x → IsGood k r ns (expr_step t k (F.Spawn at x))
  unfolding spawned
  spawn r at ns x good c v s see e =
      let n = length s.spawns in
      got_is k s (ended r ns x good c v s see) ns (got (n ∷ []) [] []) (got_in (W.Spawn n)) (IsCode v r n (W.Spawn n)) (spawn_got n) (spawn_adds r ns x good c v s see e)

  -- ---- the parameters of a method

  pub parameters_same : (ps : List Param) (c : Scope) (s : State) → (parameters ps c s).after.fault ≡ None → (parameters ps c s).after ≡ s
  parameters_same [] c s e = refl
  parameters_same (A.Name n ∷ ps) c s e =
      let b = bind n c s in
      let rest = parameters_same ps b.value b.after e in
      rest ∙ bind_same n c s (clean b.after (parameters ps b.value b.after).after e rest)
  parameters_same (A.Typed n ty ∷ ps) c s e =
      let b = bind n c s in
      let rest = parameters_same ps b.value b.after e in
      rest ∙ bind_same n c s (clean b.after (parameters ps b.value b.after).after e rest)
  parameters_same (A.Unnamed at ty ∷ ps) c s e = parameters_same ps (with_slot None c) s e

  abbrev more_slots : View → ℕ → View
  more_slots v n = record { slots = v.slots + n; statics = v.statics }

  same_slots : (c : Scope) (v : View) (n m : ℕ) → n ≡ m → Sees c (record { slots = n; statics = v.statics }) → Sees c (record { slots = m; statics = v.statics })
  same_slots c v n m e h = record { slots = h.slots ∙ e; statics = h.statics }

  parameters_see : (ps : List Param) (c : Scope) (s : State) (v : View) → Sees c v → Sees (parameters ps c s).value (more_slots v (length ps))
  parameters_see [] c s v see = same_slots c v v.slots (v.slots + 0) (omega arith) see
  parameters_see (A.Name n ∷ ps) c s v see =
      let b = bind n c s in
      same_slots (parameters ps b.value b.after).value v (v.slots + 1 + length ps) (v.slots + suc (length ps)) (omega arith) (parameters_see ps b.value b.after (one_more v) (bind_sees n c s v see))
  parameters_see (A.Typed n ty ∷ ps) c s v see =
      let b = bind n c s in
      same_slots (parameters ps b.value b.after).value v (v.slots + 1 + length ps) (v.slots + suc (length ps)) (omega arith) (parameters_see ps b.value b.after (one_more v) (bind_sees n c s v see))
  parameters_see (A.Unnamed at ty ∷ ps) c s v see =
      same_slots (parameters ps (with_slot None c) s).value v (v.slots + 1 + length ps) (v.slots + suc (length ps)) (omega arith) (parameters_see ps (with_slot None c) s (one_more v) (sees_slot None c v see))

  -- a signature has a type for each parameter
  as_many_types : (ds : List Decl) (ts : List (Option TypeText)) (vs : List TypeVar) (r : Reading) → length (all_read ds ts vs r).tys ≡ length ts
  as_many_types ds [] vs r = refl
  as_many_types ds (ty ∷ ts) vs r = ap suc (as_many_types ds ts vs (option_reads ds ty vs r).after)

  as_many_parts : (types : ℕ) (h : Head) → length (method_signature t k types h).sig.parts ≡ length h.params
  as_many_parts types h =
      let ds = declared_at k types in
      let s = all_bound ds h.vars no_reading in
      let begun = without_places s.after in
      let read = all_read ds (map type_of h.params) s.vars begun in
      let ts : Types = record { tys = read.tys; after = places_behind s.after.places read.after } in
      ordered_count ts ts.after.swaps ∙ as_many_types ds (map type_of h.params) s.vars begun ∙ length-map h.params type_of

  -- ---- the head of a method

  not_among : (b z : Bool) → cond b (Some kind.NameClash) (cond z (Some kind.NameClash) None) ≡ None → b ≡ false
  not_among true z e = absurd (no_kind kind.NameClash e)
  not_among false z e = refl

  negated : (b : Bool) → b ≡ false → not b ≡ true
  negated b e = ap not e

  own_free : (f : Callee) → may_define k f ≡ None → Every IsGoodName (own_name f) → Every IsFree (own_name f)
  own_free (C.Plain n) e h =
      let other = not_among (is_among n.bytes builtin_names) (is_among n.bytes (names_in k.types)) e in (
        and (is_identifier n.bytes) _ (left (is_identifier n.bytes) (not (is_among n.bytes reserved_words)) h.0)
            (and (not (is_among n.bytes reserved_words)) _ (right (is_identifier n.bytes) (not (is_among n.bytes reserved_words)) h.0) (negated (is_among n.bytes builtin_names) other)),
        tt,
      )
  own_free (C.Base at n) e h = tt
  own_free (C.Operator at o) e h = tt

  function_within : (o : Option ℕ) → if_unknown o ≡ None → ((f : ℕ) → o ≡ Some f → f < length k.functions) → defined_function o < length k.functions
  function_within None e h = absurd (no_kind kind.UnknownFunction e)
  function_within (Some f) e h = h f refl

  -- no fault stands at the name of a method
  pub record Names (at : ℕ) (callee : Callee) (f : Option ℕ) (g : Signed) (s : State) : Type 0 where
    pub same : check_name k at callee f g s ≡ s
    pub may : may_define k callee ≡ None
    pub found : if_unknown f ≡ None
    pub read : g.fault ≡ None
    pub allowed : g.refusal ≡ None

  pub names_none : (at : ℕ) (callee : Callee) (f : Option ℕ) (g : Signed) (s : State) → (check_name k at callee f g s).fault ≡ None → Names at callee f g s
  names_none at callee f g s e =
      let s0 = note_if at (if_unknown f) s in
      let s1 = note_if at (may_define k callee) s0 in
      let m = merge_fault g.fault s1 in
      let s2 = note_if at g.refusal m in
      let s3 = note_if at (too_many s2) s2 in
      let same3 = note_if_same at (too_many s2) s2 e in
      let e2 = clean s2 s3 e same3 in
      let same2 = note_if_same at g.refusal m e2 in
      let em = clean m s2 e2 same2 in
      let same1 = merge_fault_same g.fault s1 em in
      let e1 = clean s1 m em same1 in
      let same0 = note_if_same at (may_define k callee) s0 e1 in
      let e0 = clean s0 s1 e1 same0 in
      record {
        same = same3 ∙ same2 ∙ same1 ∙ same0 ∙ note_if_same at (if_unknown f) s e0;
        may = note_if_none at (may_define k callee) s0 e1;
        found = note_if_none at (if_unknown f) s e0;
        read = merge_fault_none g.fault s1 em;
        allowed = note_if_none at g.refusal m e2;
      }

  -- a method up to its body
  record Opens (h : Head) (types : ℕ) (s : State) : Type 0 where
    same : (open_method t k h types s).after ≡ s
    function : (open_method t k h types s).value.function < length k.functions
    signature : IsValidSig k.decls (open_method t k h types s).value.sig
    sees : Sees (open_method t k h types s).value.scope (in_body (open_method t k h types s).value.sig).view
    free : Every IsFree (own_name h.callee)

  opens : IsKnown k → (h : Head) → IsGoodHead k t h → (types : ℕ) (s : State) → (open_method t k h types s).after.fault ≡ None → Opens h types s
  unfolding open_method
  opens known h head types s e =
      let f = function_of k h.callee (bare_scope types) in
      let g = method_signature t k types h in
      let z = check_name k (place_of_callee h.callee) h.callee f g s in
      let c : Scope = record { slots = []; statics = static_parameters g.sig g.vars; types = types } in
      let none : View = record { slots = 0; statics = flags_of g.sig } in
      let b = parameters h.params c z in
      let first = parameters_same h.params c z e in
      let names = names_none (place_of_callee h.callee) h.callee f g s (clean z b.after e first) in
      let sig = head.signed_by types names.read names.allowed in
      let starts : Sees c none = record { slots = refl; statics = sig.statics } in
      record {
        same = first ∙ names.same;
        function = function_within f names.found (function_there k known h.callee (bare_scope types));
        signature = sig.valid;
        sees = same_slots b.value none (0 + length h.params) (length g.sig.parts) (omega (arith, as_many_parts types h)) (parameters_see h.params c z none starts);
        free = own_free h.callee names.may head.name;
      }

  -- ---- the body of a method

  module _ (ns : List Name) (x : Reads) (good : IsGood k true ns x) (o : Opening) (s : State) (function : o.function < length k.functions) (signature : IsValidSig k.decls o.sig) (see : Sees o.scope (in_body o.sig).view) where
    abbrev opening : State
    opening = record s { sites = s.sites ++ site_of o W.Nothing ∷ [] }

    abbrev body : Resolution Code
    body = x o.scope opening

    abbrev closing : State
    closing = record body.after { sites = slice_set body.after.sites (length s.sites) (site_of o body.value) }

    module _ (e : body.after.fault ≡ None) where
      held : Adds k opening body.after ns (got_in body.value) (IsCode (in_body o.sig).view true (length s.spawns) body.value)
      held = good o.scope (in_body o.sig).view opening see e

      sites_set : closing.sites ≡ s.sites ++ site_of o body.value ∷ held.sites
      sites_set = set_placed s.sites held.sites body.after.sites (site_of o W.Nothing) (site_of o body.value) held.sites_are

      same_count : length closing.sites ≡ length body.after.sites
      same_count = omega (arith, ap length sites_set, length-append s.sites (site_of o body.value ∷ held.sites), ap length held.sites_are, length-append (s.sites ++ site_of o W.Nothing ∷ []) held.sites, length-append s.sites (site_of o W.Nothing ∷ []))

      inside : (P : Program) (all : List View) → Within k s closing held.views P all → Within k opening body.after held.views P all
      inside P all w = record {
        fits = record { functions = w.fits.functions; types = w.fits.types; count = omega (arith, same_count, w.fits.count) };
        seen = w.seen;
        prelude = omega (arith, w.prelude, one_longer s.sites (site_of o W.Nothing));
        deletes = w.deletes;
      }

      site_valid : (P : Program) (all : List View) → Within k s closing held.views P all → IsValidSite P all (site_of o body.value)
      site_valid P all w = record {
        function = omega (arith, function, ap length w.fits.functions);
        signature = subst (λ ds. IsValidSig ds o.sig) (sym w.fits.types) signature;
        body = held.holds P all (inside P all w) 0 (omega arith);
      }

      site_there : (P : Program) (all : List View) → Within k s closing held.views P all → IsSite k (length s.sites) P all
      site_there P all w = (w.prelude, omega (arith, w.fits.count, ap length sites_set, length-append s.sites (site_of o body.value ∷ held.sites)))

      body_adds : (own : List Name) → Every IsFree own → Adds k s closing (own ++ ns) no_got (IsSite k (length s.sites))
      body_adds own free = record {
        clean = held.clean;
        sites = site_of o body.value ∷ held.sites;
        spawns = held.spawns;
        deletes = held.deletes;
        views = held.views;
        sites_are = sites_set;
        spawns_are = held.spawns_are;
        deletes_are = held.deletes_are;
        as_many = held.as_many;
        free = every_append IsFree own ns free held.free;
        deletions = held.deletions;
        gathers = gathers_site k (length s.spawns) (length closing.spawns) held.sites held.spawns (site_of o body.value) held.gathers;
        valid = λ P all w. (site_valid P all w, held.valid P all (inside P all w));
        tasks = λ P all w. held.tasks P all (inside P all w);
        holds = λ P all w. site_there P all w;
      }

  pub method_good : IsKnown k → (h : Head) → IsGoodHead k t h → (ns : List Name) (x : Reads) → IsGood k true ns x → IsGoodMethod k (own_name h.callee ++ ns) (method t k h x)
  unfolding reserve_site close_site
  method_good known h head ns x good types s e =
      let o = open_method t k h types s in
      let first = clean_of k true ns x good o.value.scope (reserve_site o.value o.after) e in
      let facts = opens known h head types s first in
      let adds = body_adds ns x good o.value o.after facts.function facts.signature facts.sees e (own_name h.callee) facts.free in
      subst (λ (z : State). Adds k z (method t k h x types s).after (own_name h.callee ++ ns) no_got (IsSite k (method t k h x types s).value)) facts.same adds

  pub long : IsKnown k → (at : ℕ) (h : Head) → IsGoodHead k t h → (nss : List (List Name)) (xs : List Says) → Each (IsGoodStmt k true) nss xs → IsGoodMethod k (own_name h.callee ++ flat_map (λ n. n) nss) (method_step t k (F.Long at h xs))
  long known at h head nss xs good = method_good known h head (flat_map (λ n. n) nss) (block_of xs) (block_good t k true nss xs good)

  pub short : IsKnown k → (at : ℕ) (h : Head) → IsGoodHead k t h → (ns : List Name) (x : Reads) → IsGood k true ns x → IsGoodMethod k (own_name h.callee ++ ns) (method_step t k (F.Short at h x))
  short known at h head ns x good = method_good known h head ns x good
