-- How many variables a text brings does not depend on the numbers of the visible variables.
use Rattle.std.proofs.Common.{◌≡◌, ◌∙◌, sym, ap, subst, refl, ℕ, arith, Bool, true, false, ◌&&◌, cond, nat_lt, List, [], ◌∷◌, ◌++◌, map, length, length-append, drop, Option, None, Some, slice_get}
use Rattle.jl_model.specs.declared.ty.Ty.{Ty, out-Ty}
use Rattle.jl_model.specs.declared.ty.Ty.TheOpen.{Ty-F}
use Rattle.jl_model.specs.declared.ty.Ty.TheOpen as L
use Rattle.jl_model.specs.declared.ty.Bound.{Bound}
use Rattle.jl_model.specs.declared.ty.Decl.{Decl}
use Rattle.jl_model.specs.Valid.{params_of}
use Rattle.jl_program.specs.Names.{same_text, is_among, builtin_names}
use Rattle.jl_typeread.specs.declared.tree.TypeText.{TypeText}
use Rattle.jl_typeread.specs.declared.tree.ArgText.TheOpen as F
use Rattle.jl_typeread.specs.declared.tree.ArgText.TheFolds.{fold-roll-TypeText, fold-roll-ArgText, fold-roll-VarText}
use Rattle.jl_written.specs.declared.fault.StaticKind.TheVariants as kind
use Rattle.jl_written.specs.declared.reading.Named.{Named}
use Rattle.jl_written.specs.declared.reading.Named.TheVariants as M
use Rattle.jl_written.specs.declared.reading.Reading.{Reading}
use Rattle.jl_written.specs.declared.reading.Swap.{Swap}
use Rattle.jl_written.specs.declared.reading.TypeVar.{TypeVar}
use Rattle.jl_written.specs.Meaning.{names_of, later, var_of, word_of, var_or}
use Rattle.jl_written.specs.Reads.{TypeReads, ArgReads, VarReads, Seen, seen, visible, with_own, in_bound, without_places, places_behind, note, no_reading, note_use, fresh_variable, missing_arguments, note_place, note_place_of, read_arguments, read_members, bind_name, note_builtin, bind, bind_all, bind_where, swap, within, read_plain, read_applied, type_step, arg_step, var_step, type_reads, arg_reads, var_reads}
use Rattle.jl_written.specs.Signatures.{shifted, width_of}
use Rattle.jl_type_laws.proofs.TextInduction.{EachText, TextCases, by_type}
use Rattle.jl_type_laws.proofs.ReadLemmas.{each_map}

abbrev Same : Reading → Reading → Type 0
Same r q = length r.vars ≡ length q.vars

longer : (r q : Reading) (b d : Bound) → Same r q → length (r.vars ++ b ∷ []) ≡ length (q.vars ++ d ∷ [])
longer r q b d h = let e = length-append r.vars (b ∷ []) in let f = length-append q.vars (d ∷ []) in omega (arith, e, f, h)

note_use_same : (at : ℕ) (usable : Bool) (r : Reading) → (note_use at usable r).vars ≡ r.vars
note_use_same at true r = refl
note_use_same at false r = refl

missing_arguments_wide : (bs : List Bound) (i : Bool) (r q : Reading) → Same r q → Same (missing_arguments bs i r).after (missing_arguments bs i q).after
missing_arguments_wide [] i r q h = h
missing_arguments_wide (b ∷ bs) i r q h = missing_arguments_wide bs i (fresh_variable b i r).after (fresh_variable b i q).after (longer r q b b h)

layer_same : (high : Ty) (y : Ty-F Ty) (r : Reading) → (note_place_of high y r).vars ≡ r.vars
layer_same high (L.Var v) r = refl
layer_same high L.Any r = refl
layer_same high (L.Union ts) r = refl
layer_same high (L.Tuple ts) r = refl
layer_same high (L.Nominal k ts) r = refl

note_place_same : (bs : List Bound) (t : Ty) (r : Reading) → (note_place bs t r).vars ≡ r.vars
note_place_same [] t r = refl
note_place_same (b ∷ bs) t r = layer_same b.high (out-Ty t) r

pub guarded_same : (at : ℕ) (b : Bool) (r : Reading) → (cond b (note at kind.NameClash r) r).vars ≡ r.vars
guarded_same at true r = refl
guarded_same at false r = refl

where_same : (vs : List VarReads) (i : Bool) (r : Reading) → (bind_where vs i r).vars ≡ r.vars
where_same [] i r = refl
where_same (v ∷ vs) i r = refl

swap_same : (b : Bool) (s : Swap) (r : Reading) → (cond b (record r { swaps = r.swaps ++ s ∷ [] }) r).vars ≡ r.vars
swap_same true s r = refl
swap_same false s r = refl

swapped_same : (start middle : ℕ) (r : Reading) → (swap start middle r).vars ≡ r.vars
swapped_same start middle r = swap_same (nat_lt start middle && nat_lt middle (length r.vars)) (record { start = start; middle = middle; stop = length r.vars }) r

-- ---- what is visible, by its names

-- variables of the same names are visible
pub record Alike (a b : Seen) : Type 0 where
  pub first : names_of a.first ≡ names_of b.first
  pub own : names_of a.own ≡ names_of b.own
  pub bound : a.bound ≡ b.bound

names_join : (vs us : List TypeVar) → names_of (vs ++ us) ≡ names_of vs ++ names_of us
names_join [] us = refl
names_join (v ∷ vs) us = ap (λ z. v.name ∷ z) (names_join vs us)

joined_alike : (a b c d : List TypeVar) → names_of a ≡ names_of b → names_of c ≡ names_of d → names_of (a ++ c) ≡ names_of (b ++ d)
joined_alike a b c d h g = names_join a c ∙ ap (λ z. z ++ names_of c) h ∙ ap (λ z. names_of b ++ z) g ∙ sym (names_join b d)

visible_alike : (a b : Seen) → Alike a b → names_of (visible a) ≡ names_of (visible b)
visible_alike a b h = joined_alike a.first b.first a.own b.own h.first h.own

with_alike : (vs us : List TypeVar) (a b : Seen) → names_of vs ≡ names_of us → Alike a b → Alike (with_own vs a) (with_own us b)
with_alike vs us a b n h = record { first = h.first; own = joined_alike a.own b.own vs us h.own n; bound = h.bound }

bound_alike : (a b : Seen) → Alike a b → Alike (in_bound a) (in_bound b)
bound_alike a b h = record { first = h.first; own = ap (λ z. names_of (cond z a.own [])) h.bound ∙ by b.bound; bound = refl }
  where
    by : (z : Bool) → names_of (cond z a.own []) ≡ names_of (cond z b.own [])
    by true = h.own
    by false = refl

abbrev TypeWide : TypeReads → Type 0
TypeWide t = (a b : Seen) → Alike a b → (i : Bool) (r q : Reading) → Same r q → Same (t a i r).after (t b i q).after

abbrev ArgWide : ArgReads → Type 0
ArgWide x = (a b : Seen) → Alike a b → (o i : Bool) (r q : Reading) → Same r q → Same (x a o i r).after (x b o i q).after

abbrev VarWide : VarReads → Type 0
VarWide v = (a b : Seen) → Alike a b → (r q : Reading) → Same r q → Same (v.bounds a r).after (v.bounds b q).after

read_arguments_wide : (bs : List Bound) (xs : List ArgReads) → EachText ArgWide xs → (a b : Seen) → Alike a b → (i : Bool) (r q : Reading) → Same r q
    → Same (read_arguments bs xs a i r).after (read_arguments bs xs b i q).after
read_arguments_wide bs [] l a b n i r q h = missing_arguments_wide bs i r q h
read_arguments_wide bs (x ∷ xs) l a b n i r q h =
    let t = x a i true r in
    let u = x b i true q in
    let e = ap (λ z. length z) (note_place_same bs t.ty t.after) in
    let f = ap (λ z. length z) (note_place_same bs u.ty u.after) in
    read_arguments_wide (drop 1 bs) xs l.1 a b n i (note_place bs t.ty t.after) (note_place bs u.ty u.after) (e ∙ l.0 a b n i true r q h ∙ sym f)

read_members_wide : (xs : List ArgReads) → EachText ArgWide xs → (a b : Seen) → Alike a b → (i : Bool) (r q : Reading) → Same r q
    → Same (read_members xs a i r).after (read_members xs b i q).after
read_members_wide [] l a b n i r q h = h
read_members_wide (x ∷ xs) l a b n i r q h = read_members_wide xs l.1 a b n i (x a i i r).after (x b i i q).after (l.0 a b n i i r q h)

-- ---- names

has : Option TypeVar → Bool
has None = false
has (Some v) = true

found : List (List ℕ) → List ℕ → Bool
found [] name = false
found (n ∷ ns) name = cond (same_text name n) true (found ns name)

has_cond : (b : Bool) (v : TypeVar) (o : Option TypeVar) → has (later (cond b (Some v) None) o) ≡ cond b true (has o)
unfolding has
has_cond true v None = refl
has_cond true v (Some u) = refl
has_cond false v None = refl
has_cond false v (Some u) = refl

has_found : (vs : List TypeVar) (name : List ℕ) → has (var_of vs name) ≡ found (names_of vs) name
unfolding has found
has_found [] name = refl
has_found (v ∷ vs) name = has_cond (same_text name v.name) v (var_of vs name) ∙ ap (λ z. cond (same_text name v.name) true z) (has_found vs name)

alike : (a b : List TypeVar) (name : List ℕ) → names_of a ≡ names_of b → has (var_of a name) ≡ has (var_of b name)
alike a b name n = has_found a name ∙ ap (λ z. found z name) n ∙ sym (has_found b name)

module _ (ds : List Decl) where
  word_wide : (at : ℕ) (w : Named) (i : Bool) (r q : Reading) → Same r q → Same (read_plain ds at w i r).after (read_plain ds at w i q).after
  word_wide at (M.Variable v usable) i r q h = ap (λ z. length z) (note_use_same at usable r) ∙ h ∙ sym (ap (λ z. length z) (note_use_same at usable q))
  word_wide at M.Any i r q h = h
  word_wide at M.Union i r q h = h
  word_wide at M.Tuple i r q h = h
  word_wide at (M.Nominal k) i r q h = missing_arguments_wide (params_of (slice_get ds k)) i r q h
  word_wide at M.Unknown i r q h = h

  read_plain_wide : (at : ℕ) (o p : Option TypeVar) (w : Named) → has o ≡ has p → (i : Bool) (r q : Reading) → Same r q → Same (read_plain ds at (var_or o w) i r).after (read_plain ds at (var_or p w) i q).after
  unfolding has
  read_plain_wide at None None w e i r q h = word_wide at w i r q h
  read_plain_wide at (Some v) (Some u) w e i r q h = ap (λ z. length z) (note_use_same at v.usable r) ∙ h ∙ sym (ap (λ z. length z) (note_use_same at u.usable q))
  read_plain_wide at None (Some u) w e i r q h = cc
  read_plain_wide at (Some v) None w e i r q h = cc

  braces_wide : (at : ℕ) (w : Named) (xs : List ArgReads) → EachText ArgWide xs → (a b : Seen) → Alike a b → (i : Bool) (r q : Reading) → Same r q
      → Same (read_applied ds at w xs a i r).after (read_applied ds at w xs b i q).after
  braces_wide at (M.Variable v usable) xs l a b n i r q h = h
  braces_wide at M.Any xs l a b n i r q h = h
  braces_wide at M.Union xs l a b n i r q h = read_members_wide xs l a b n i r q h
  braces_wide at M.Tuple xs l a b n i r q h = read_members_wide xs l a b n i r q h
  braces_wide at (M.Nominal k) xs l a b n i r q h = read_arguments_wide (params_of (slice_get ds k)) xs l a b n i r q h
  braces_wide at M.Unknown xs l a b n i r q h = h

  read_applied_wide : (at : ℕ) (o p : Option TypeVar) (w : Named) → has o ≡ has p → (xs : List ArgReads) → EachText ArgWide xs → (a b : Seen) → Alike a b → (i : Bool) (r q : Reading) → Same r q
      → Same (read_applied ds at (var_or o w) xs a i r).after (read_applied ds at (var_or p w) xs b i q).after
  unfolding has
  read_applied_wide at None None w e xs l a b n i r q h = braces_wide at w xs l a b n i r q h
  read_applied_wide at (Some v) (Some u) w e xs l a b n i r q h = h
  read_applied_wide at None (Some u) w e xs l a b n i r q h = cc
  read_applied_wide at (Some v) None w e xs l a b n i r q h = cc

-- ---- variables

abbrev VarsAlike : (a b : List TypeVar) (r q : Reading) → Type 0
VarsAlike a b r q = (names_of a ≡ names_of b) × Same r q

bound_wide : (at : ℕ) (name : List ℕ) (c d : Bound) (a b : List TypeVar) → names_of a ≡ names_of b → (r q : Reading) → Same r q → (o p : Option TypeVar) → has o ≡ has p
    → VarsAlike (bind_name at name c a r o).vars (bind_name at name d b q p).vars (bind_name at name c a r o).after (bind_name at name d b q p).after
bound_wide at name c d a b n r q h o p e =
    let v : TypeVar = record { name = name; number = length r.vars; usable = true } in
    let u : TypeVar = record { name = name; number = length q.vars; usable = true } in
    (joined_alike a b (v ∷ []) (u ∷ []) n refl, longer r q c d h)

bind_wide : (v : VarReads) → VarWide v → (a b : Seen) → Alike a b → (c d : List TypeVar) → names_of c ≡ names_of d → (r q : Reading) → Same r q
    → VarsAlike (bind v a c r).vars (bind v b d q).vars (bind v a c r).after (bind v b d q).after
bind_wide v l a b n c d m r q h =
    let s = with_own c (in_bound a) in
    let u = with_own d (in_bound b) in
    let x = v.bounds s r in
    let y = v.bounds u q in
    let e = ap (λ z. length z) (guarded_same v.at (is_among v.name builtin_names) x.after) in
    let f = ap (λ z. length z) (guarded_same v.at (is_among v.name builtin_names) y.after) in
    let k = l s u (with_alike c d (in_bound a) (in_bound b) m (bound_alike a b n)) r q h in
    bound_wide v.at v.name x.bound y.bound c d m (note_builtin v.at v.name x.after) (note_builtin v.at v.name y.after) (e ∙ k ∙ sym f) (var_of (visible (with_own c a)) v.name) (var_of (visible (with_own d b)) v.name)
    (alike (visible (with_own c a)) (visible (with_own d b)) v.name (visible_alike (with_own c a) (with_own d b) (with_alike c d a b m n)))

bind_all_wide : (vs : List VarReads) → EachText VarWide vs → (a b : Seen) → Alike a b → (c d : List TypeVar) → names_of c ≡ names_of d → (r q : Reading) → Same r q
    → VarsAlike (bind_all vs a c r).vars (bind_all vs b d q).vars (bind_all vs a c r).after (bind_all vs b d q).after
bind_all_wide [] l a b n c d m r q h = (m, h)
bind_all_wide (v ∷ vs) l a b n c d m r q h =
    let s = bind v a c r in
    let u = bind v b d q in
    let w = bind_wide v l.0 a b n c d m r q h in
    bind_all_wide vs l.1 a b n s.vars u.vars w.0 s.after u.after w.1

within_wide : (t : TypeReads) → TypeWide t → (vs : List VarReads) → EachText VarWide vs → TypeWide (within t vs)
within_wide t k vs l a b n i r q h =
    let e = ap (λ z. length z) (where_same vs i r) in
    let f = ap (λ z. length z) (where_same vs i q) in
    let g = without_places (bind_where vs i r) in
    let j = without_places (bind_where vs i q) in
    let s = bind_all vs a [] g in
    let u = bind_all vs b [] j in
    let w = bind_all_wide vs l a b n [] [] refl g j (e ∙ h ∙ sym f) in
    let x = t (with_own s.vars a) i (record s.after { places = r.places }) in
    let y = t (with_own u.vars b) i (record u.after { places = q.places }) in
    ap (λ z. length z) (swapped_same (length r.vars) (length s.after.vars) (places_behind s.after.places x.after))
    ∙ k (with_own s.vars a) (with_own u.vars b) (with_alike s.vars u.vars a b w.0 n) i (record s.after { places = r.places }) (record u.after { places = q.places }) w.1
    ∙ sym (ap (λ z. length z) (swapped_same (length q.vars) (length u.after.vars) (places_behind u.after.places y.after)))

module _ (ds : List Decl) where
  cases : TextCases (λ t. ArgWide (arg_reads ds t)) (λ t. TypeWide (type_reads ds t)) (λ t. VarWide (var_reads ds t))
  cases = record {
    name = λ at n. subst TypeWide (sym (fold-roll-TypeText ArgReads TypeReads VarReads (arg_step ds) (type_step ds) (var_step ds) (F.Name at n)))
        (λ a b m i r q h. read_plain_wide ds at (var_of (visible a) n) (var_of (visible b) n) (word_of ds n) (alike (visible a) (visible b) n (visible_alike a b m)) i r q h);
    applied = λ at n xs l. subst TypeWide (sym (fold-roll-TypeText ArgReads TypeReads VarReads (arg_step ds) (type_step ds) (var_step ds) (F.Applied at n xs)))
        (λ a b m i r q h. read_applied_wide ds at (var_of (visible a) n) (var_of (visible b) n) (word_of ds n) (alike (visible a) (visible b) n (visible_alike a b m)) (map (arg_reads ds) xs) (each_map ArgWide (arg_reads ds) xs l) a b m i r q h);
    paren = λ at t vs k l. subst TypeWide (sym (fold-roll-TypeText ArgReads TypeReads VarReads (arg_step ds) (type_step ds) (var_step ds) (F.Paren at t vs)))
        (within_wide (type_reads ds t) k (map (var_reads ds) vs) (each_map VarWide (var_reads ds) vs l));
    exact = λ t l. subst ArgWide (sym (fold-roll-ArgText ArgReads TypeReads VarReads (arg_step ds) (type_step ds) (var_step ds) (F.Exact t))) (λ a b n o i r q h. l a b n i r q h);
    below_ = λ at t l. subst ArgWide (sym (fold-roll-ArgText ArgReads TypeReads VarReads (arg_step ds) (type_step ds) (var_step ds) (F.ArgText::Below at t)))
        (λ a b n o i r q h. longer (type_reads ds t (in_bound a) true r).after (type_reads ds t (in_bound b) true q).after _ _ (l (in_bound a) (in_bound b) (bound_alike a b n) true r q h));
    above = λ at t l. subst ArgWide (sym (fold-roll-ArgText ArgReads TypeReads VarReads (arg_step ds) (type_step ds) (var_step ds) (F.ArgText::Above at t)))
        (λ a b n o i r q h. longer (type_reads ds t (in_bound a) true r).after (type_reads ds t (in_bound b) true q).after _ _ (l (in_bound a) (in_bound b) (bound_alike a b n) true r q h));
    free = λ at n. subst VarWide (sym (fold-roll-VarText ArgReads TypeReads VarReads (arg_step ds) (type_step ds) (var_step ds) (F.Free at n))) (λ a b m r q h. h);
    upper = λ at n t l. subst VarWide (sym (fold-roll-VarText ArgReads TypeReads VarReads (arg_step ds) (type_step ds) (var_step ds) (F.VarText::Below at n t))) (λ a b m r q h. l a b m true r q h);
    lower = λ at n t l. subst VarWide (sym (fold-roll-VarText ArgReads TypeReads VarReads (arg_step ds) (type_step ds) (var_step ds) (F.VarText::Above at n t))) (λ a b m r q h. l a b m true r q h);
    between = λ t at n u l k. subst VarWide (sym (fold-roll-VarText ArgReads TypeReads VarReads (arg_step ds) (type_step ds) (var_step ds) (F.Between t at n u)))
        (λ a b m r q h. k a b m true (type_reads ds t a true r).after (type_reads ds t b true q).after (l a b m true r q h));
  }

  pub type_wide : (t : TypeText) → TypeWide (type_reads ds t)
  type_wide = by_type _ _ _ cases

shifted_names : (n : ℕ) (vs : List TypeVar) → names_of (shifted n vs) ≡ names_of vs
shifted_names n [] = refl
shifted_names n (v ∷ vs) = ap (λ z. v.name ∷ z) (shifted_names n vs)

-- a type in a body brings as many variables as are counted before its static parameters
pub width_is : (ds : List Decl) (statics : List TypeVar) (t : TypeText) (n : ℕ) → length (type_reads ds t (seen (shifted n statics) [] false) false no_reading).after.vars ≡ width_of ds statics t
width_is ds statics t n =
    type_wide ds t (seen (shifted n statics) [] false) (seen (shifted 0 statics) [] false)
    (record { first = shifted_names n statics ∙ sym (shifted_names 0 statics); own = refl; bound = refl }) false no_reading no_reading refl
