-- The types that functions are asked with are types of values.
use Rattle.std.proofs.Common.{◌≡◌, ◌∙◌, sym, ap, subst, refl, ℕ, zero, suc, ◌+◌, ◌<◌, ◌≤◌, ◌⊎◌, inl, inr, arith, Bool, true, false, ◌&&◌, cond, nat_eq, List, [], ◌∷◌, ◌++◌, append_assoc, length, take, drop, get_or, slice_get, Some}
use Rattle.std.specs.List.{All, Contains, flat_map}
use Rattle.std.proofs.Math.Seq.{drop-cons}
use Rattle.std.proofs.lemmas.List.{take_more}
use Rattle.std.proofs.lemmas.List.Elements.{All-contains, Contains-append_cases}
use Rattle.std.proofs.lemmas.Option.{slice_get-get_or, same_Some}
use Rattle.jl_model.specs.declared.ty.Decl.{Decl}
use Rattle.jl_model.specs.declared.ty.Key.{Key}
use Rattle.jl_model.specs.declared.ty.Ty.{Ty}
use Rattle.jl_model.specs.declared.ty.Ty.TheOpen.{Nominal}
use Rattle.jl_model.specs.declared.ty.Ty.TheViews.{outs-Nominal, rolls-Nominal}
use Rattle.jl_model.specs.declared.ty.Ty.TheViews as V
use Rattle.jl_model.specs.declared.ty.Ty.TheFolds.{fold-roll-Ty}
use Rattle.jl_model.specs.Ancestors.{table_of, named, builtin_types, is_struct_kind}
use Rattle.jl_model.specs.Normal.{nominal as normal_nominal, none as no_normal}
use Rattle.jl_model.specs.Valid.{is_counted, counted_step, params_of}
use Rattle.jl_model.proofs.CountLemmas.{nodes-nominal, raw-nominal}
use Rattle.jl_model.proofs.FormLemmas.{vars-nominal}
use Rattle.jl_model.proofs.KnownLemmas.{known_nominal}
use Rattle.jl_program.specs.declared.tree.Program.{Program}
use Rattle.jl_program.specs.Scope.{all_types}
use Rattle.jl_program.specs.ValidValue.{IsValueType}
use Rattle.jl_calculus.specs.declared.history.Event.{Event}
use Rattle.jl_calculus.specs.Legal.{MayStand}
use Rattle.jl_calculus.specs.Ranges.{keys_of}
use Rattle.jl_calculus.proofs.GrowthLemmas.{keys_append}
use Rattle.jl_calculus.proofs.KeyLemmas.{key_proper}
use Rattle.jl_methods.proofs.FilterLemmas.{here_or_there}
use Rattle.jl_methods.proofs.PutLemmas.{get_known}
use Rattle.jl_value.proofs.KeptLemmas.{closed_of, concrete-nominal}
use Rattle.jl_ambig.specs.Asked.{AreTypes}
use Rattle.jl_ambig.specs.Probes.{is_plain_struct, plain_structs, candidates, AreFirst, AreProbeTypes, lists_of}
use Rattle.jl_ambig.proofs.ListLemmas.{of_lists}
use Rattle.jl_ambig.proofs.Members.{empty, of_flat}
use Rattle.jl_ambig.proofs.Sorted.{every_index}

-- ---- a struct without parameters

both : (a b : Bool) → a && b ≡ true → (a ≡ true) × (b ≡ true)
both true b e = (refl, e)
both false b e = cc

counted-named : (ds : List Decl) (k : ℕ) → is_counted ds (V.Nominal k []) ≡ (nat_eq 0 (length (params_of (slice_get ds k))) && true)
counted-named ds k = ap (is_counted ds) (sym (rolls-Nominal k [])) ∙ fold-roll-Ty Bool (counted_step ds) (Nominal k [])

plain_type : (ds : List Decl) (k : ℕ) (d : Decl) → slice_get ds k ≡ Some d → is_plain_struct d ≡ true → IsValueType ds (named k)
unfolding table_of
plain_type ds k d e p =
    let n = table_of ds in
    let (kind, few) = both (is_struct_kind (Some d)) (nat_eq (length d.params) 0) p in
    let s : n.is_struct k ≡ true = ap is_struct_kind e ∙ kind in
    let lt = get_known ds k d e in
    let none_ : length d.params ≡ 0 = grind (arith, few) in
    record {
      normal = normal_nominal (named k) k [] (outs-Nominal k []) no_normal;
      valid = record {
        known = known_nominal (length ds) k [] (grind (arith, lt)) tt;
        counted = counted-named ds k ∙ ap (λ o. nat_eq 0 (length (params_of o)) && true) e ∙ ap (λ m. nat_eq 0 m && true) none_;
      };
      closed = closed_of (named k) (vars-nominal k []);
      concrete = concrete-nominal n k [] ∙ s;
      small = record {
        nodes = omega (arith, nodes-nominal k []);
        alternatives = let w = ap (λ r. r.widest) (raw-nominal k []) in omega (arith, w);
      };
    }

-- ---- all that there are

record IsPlainAt (k : ℕ) (ds : List Decl) (t : Ty) : Type 0 where
  pub place : ℕ
  pub decl : Decl
  pub is : slice_get ds place ≡ Some decl
  pub plain : is_plain_struct decl ≡ true
  pub named_is : named (k + place) ≡ t

plain_at : (k : ℕ) (ds : List Decl) (t : Ty) → Contains (plain_structs k ds) t → IsPlainAt k ds t
plain_at k [] t c = absurd (empty t c)
plain_at k (d ∷ ds) t c = by (plain_at (k + 1) ds t) (is_plain_struct d) refl c
  where
    later : IsPlainAt (k + 1) ds t → IsPlainAt k (d ∷ ds) t
    later h =
        let at : k + suc h.place ≡ (k + 1) + h.place = omega arith in
        record { place = suc h.place; decl = h.decl; is = h.is; plain = h.plain; named_is = ap named at ∙ h.named_is }

    first : is_plain_struct d ≡ true → (Contains (plain_structs (k + 1) ds) t → IsPlainAt (k + 1) ds t) → (named k ≡ t) ⊎ Contains (plain_structs (k + 1) ds) t → IsPlainAt k (d ∷ ds) t
    first p more (inl e) = let at : k + 0 ≡ k = omega arith in record { place = 0; decl = d; is = refl; plain = p; named_is = ap named at ∙ e }
    first p more (inr m) = later (more m)

    by : (Contains (plain_structs (k + 1) ds) t → IsPlainAt (k + 1) ds t) → (b : Bool) → is_plain_struct d ≡ b → Contains (cond b (named k ∷ plain_structs (k + 1) ds) (plain_structs (k + 1) ds)) t → IsPlainAt k (d ∷ ds) t
    by more true p m = first p more (here_or_there (named k) t (plain_structs (k + 1) ds) m)
    by more false p m = later (more m)

past_first : (xs ys : List Decl) (j : ℕ) → slice_get (xs ++ ys) (length xs + j) ≡ slice_get ys j
past_first [] ys j = let e : 0 + j ≡ j = omega arith in ap (slice_get ys) e
past_first (x ∷ xs) ys j = let e : suc (length xs) + j ≡ suc (length xs + j) = omega arith in ap (slice_get (x ∷ xs ++ ys)) e ∙ past_first xs ys j

module _ (P : Program) (es : List Event) (stand : MayStand P es) where
  pub candidate_type : (t : Ty) → Contains (candidates P es) t → IsValueType (all_types P) t
  candidate_type t c =
      by (Contains-append_cases ((named 4 ∷ named 5 ∷ named 6 ∷ named 7 ∷ []) ++ plain_structs 8 P.decls) (flat_map (λ (k : Key). k.types) (keys_of es)) t c)
    where
      builtin : (n : ℕ) → IsValueType (all_types P) (named n) → named n ≡ t → IsValueType (all_types P) t
      builtin n v e = subst (IsValueType (all_types P)) e v

      fourth : (named 7 ≡ t) ⊎ Contains [] t → IsValueType (all_types P) t
      fourth (inl e) = builtin 7 (plain_type (all_types P) 7 _ refl refl) e
      fourth (inr m) = absurd (empty t m)

      third : (named 6 ≡ t) ⊎ Contains (named 7 ∷ []) t → IsValueType (all_types P) t
      third (inl e) = builtin 6 (plain_type (all_types P) 6 _ refl refl) e
      third (inr m) = fourth (here_or_there (named 7) t [] m)

      second : (named 5 ≡ t) ⊎ Contains (named 6 ∷ named 7 ∷ []) t → IsValueType (all_types P) t
      second (inl e) = builtin 5 (plain_type (all_types P) 5 _ refl refl) e
      second (inr m) = third (here_or_there (named 6) t (named 7 ∷ []) m)

      first : (named 4 ≡ t) ⊎ Contains (named 5 ∷ named 6 ∷ named 7 ∷ []) t → IsValueType (all_types P) t
      first (inl e) = builtin 4 (plain_type (all_types P) 4 _ refl refl) e
      first (inr m) = second (here_or_there (named 5) t (named 6 ∷ named 7 ∷ []) m)

      declared : IsPlainAt 8 P.decls t → IsValueType (all_types P) t
      declared h = subst (IsValueType (all_types P)) h.named_is (plain_type (all_types P) (8 + h.place) h.decl (past_first builtin_types P.decls h.place ∙ h.is) h.plain)

      of_key : (key : Key) × Contains (keys_of es) key × Contains key.types t → IsValueType (all_types P) t
      of_key (key, (k, l, e), m) =
          let proper = key_proper P es k key stand (slice_get-get_or (keys_of es) k key l ∙ ap Some e) in
          All-contains (IsValueType (all_types P)) key.types t proper.types m

      early : Contains (named 4 ∷ named 5 ∷ named 6 ∷ named 7 ∷ []) t ⊎ Contains (plain_structs 8 P.decls) t → IsValueType (all_types P) t
      early (inl m) = first (here_or_there (named 4) t (named 5 ∷ named 6 ∷ named 7 ∷ []) m)
      early (inr m) = declared (plain_at 8 P.decls t m)

      by : Contains ((named 4 ∷ named 5 ∷ named 6 ∷ named 7 ∷ []) ++ plain_structs 8 P.decls) t ⊎ Contains (flat_map (λ (k : Key). k.types) (keys_of es)) t → IsValueType (all_types P) t
      by (inl m) = early (Contains-append_cases (named 4 ∷ named 5 ∷ named 6 ∷ named 7 ∷ []) (plain_structs 8 P.decls) t m)
      by (inr m) = of_key (of_flat (λ (k : Key). k.types) (keys_of es) t m)

  -- so are all lists of them
  pub lists_types : (types : List Ty) → AreProbeTypes P es types → (n : ℕ) → All (AreTypes P) (lists_of types n)
  lists_types types h n =
      every_index (AreTypes P) (lists_of types n)
      (λ ts c. every_index (IsValueType (all_types P)) ts (λ t m. candidate_type t (h.each t ((of_lists types n ts c).0 t m))))

pub lists_long : (types : List Ty) (n : ℕ) → All (λ ts. length ts ≡ n) (lists_of types n)
lists_long types n = every_index (λ ts. length ts ≡ n) (lists_of types n) (λ ts c. (of_lists types n ts c).1)

-- ---- one more

-- some types are added, and these are left
abbrev pub IsUpTo : List Ty → List Ty → List Ty → List Ty → Type 0
IsUpTo all types rest whole = (done : List Ty) × AreFirst done types × (done ++ rest ≡ all ++ whole)

module _ (ds : List Decl) (k : ℕ) (d : Decl) (at : slice_get ds k ≡ Some d) where
  split : drop k ds ≡ d ∷ drop (k + 1) ds
  split =
      let l = get_known ds k d at in
      let one : get_or ds k d ≡ d = same_Some (get_or ds k d) d (sym (slice_get-get_or ds k d l) ∙ at) in
      let next : suc k ≡ k + 1 = omega arith in
      drop-cons ds k d l ∙ ap (λ n. get_or ds k d ∷ drop n ds) next ∙ ap (λ x. x ∷ drop (k + 1) ds) one

  pub struct_no : is_plain_struct d ≡ false → plain_structs k (drop k ds) ≡ plain_structs (k + 1) (drop (k + 1) ds)
  struct_no p = ap (plain_structs k) split ∙ ap (λ b. cond b (named k ∷ plain_structs (k + 1) (drop (k + 1) ds)) (plain_structs (k + 1) (drop (k + 1) ds))) p

  pub struct_yes : is_plain_struct d ≡ true → plain_structs k (drop k ds) ≡ named k ∷ plain_structs (k + 1) (drop (k + 1) ds)
  struct_yes p = ap (plain_structs k) split ∙ ap (λ b. cond b (named k ∷ plain_structs (k + 1) (drop (k + 1) ds)) (plain_structs (k + 1) (drop (k + 1) ds))) p

pub up_same : (all types rest other whole : List Ty) → rest ≡ other → IsUpTo all types rest whole → IsUpTo all types other whole
up_same all types rest other whole e (done, h, q) = (done, h, ap (λ r. done ++ r) (sym e) ∙ q)

pub up_more : (all types new : List Ty) (t : Ty) (rest other whole : List Ty) → rest ≡ t ∷ other → ((done : List Ty) → AreFirst done types → AreFirst (done ++ t ∷ []) new)
    → IsUpTo all types rest whole → IsUpTo all new other whole
up_more all types new t rest other whole e more (done, h, q) = (done ++ t ∷ [], more done h, append_assoc done (t ∷ []) other ∙ ap (λ r. done ++ r) (sym e) ∙ q)

pub structs_done : (k : ℕ) (ds : List Decl) → length ds ≤ k → plain_structs k (drop k ds) ≡ []
structs_done k ds l = ap (plain_structs k) (none_left k ds l)
  where
    none_left : (n : ℕ) (xs : List Decl) → length xs ≤ n → drop n xs ≡ []
    none_left zero [] m = refl
    none_left zero (x ∷ xs) m = absurd (omega (arith, m))
    none_left (suc n) [] m = refl
    none_left (suc n) (x ∷ xs) m = none_left n xs (omega (arith, m))

pub append_none : (xs : List Ty) → xs ++ [] ≡ xs
append_none [] = refl
append_none (x ∷ xs) = ap (λ zs. x ∷ zs) (append_none xs)

pub up_end : (all types rest whole : List Ty) → rest ≡ [] → IsUpTo all types rest whole → AreFirst (all ++ whole) types
up_end all types rest whole e (done, h, q) = subst (λ z. AreFirst z types) (sym (append_none done) ∙ ap (λ r. done ++ r) (sym e) ∙ q) h

-- one more of some types
pub all_more : (all more types new : List Ty) (i : ℕ) (t : Ty) → i < length more → t ≡ get_or more i t → ((z : List Ty) → AreFirst z types → AreFirst (z ++ t ∷ []) new) → AreFirst (all ++ take i more) types
    → AreFirst (all ++ take (i + 1) more) new
all_more all more types new i t l e add h =
    subst (λ z. AreFirst z new) (append_assoc all (take i more) (t ∷ []) ∙ ap (λ z. all ++ (take i more ++ z ∷ [])) e ∙ ap (λ z. all ++ z) (sym (take_more more i t l))) (add (all ++ take i more) h)

-- the keys of one more event
abbrev types_of_keys : List Key → List Ty
types_of_keys ks = flat_map (λ (k : Key). k.types) ks

flat_append : (ks ls : List Key) → types_of_keys (ks ++ ls) ≡ types_of_keys ks ++ types_of_keys ls
flat_append [] ls = refl
flat_append (k ∷ ks) ls = ap (λ z. k.types ++ z) (flat_append ks ls) ∙ sym (append_assoc k.types (types_of_keys ks) (types_of_keys ls))

keys_next : (es : List Event) (i : ℕ) (e : Event) → i < length es → e ≡ get_or es i e → types_of_keys (keys_of (take (i + 1) es)) ≡ types_of_keys (keys_of (take i es)) ++ types_of_keys (keys_of (e ∷ []))
keys_next es i e l q =
    ap (λ z. types_of_keys (keys_of z)) (take_more es i e l) ∙ ap (λ x. types_of_keys (keys_of (take i es ++ x ∷ []))) (sym q) ∙ ap types_of_keys (keys_append (take i es) (e ∷ []))
    ∙ flat_append (keys_of (take i es)) (keys_of (e ∷ []))

pub no_key : (all types : List Ty) (es : List Event) (i : ℕ) (e : Event) → i < length es → e ≡ get_or es i e → keys_of (e ∷ []) ≡ [] → AreFirst (all ++ types_of_keys (keys_of (take i es))) types
    → AreFirst (all ++ types_of_keys (keys_of (take (i + 1) es))) types
no_key all types es i e l q none_ h =
    subst (λ z. AreFirst z types)
    (ap (λ z. all ++ z) (sym (append_none (types_of_keys (keys_of (take i es)))) ∙ ap (λ z. types_of_keys (keys_of (take i es)) ++ types_of_keys z) (sym none_) ∙ sym (keys_next es i e l q))) h

pub one_key : (all types new : List Ty) (es : List Event) (i : ℕ) (e : Event) (key : Key) → i < length es → e ≡ get_or es i e → keys_of (e ∷ []) ≡ key ∷ []
    → ((z : List Ty) → AreFirst z types → AreFirst (z ++ key.types) new) → AreFirst (all ++ types_of_keys (keys_of (take i es))) types → AreFirst (all ++ types_of_keys (keys_of (take (i + 1) es))) new
one_key all types new es i e key l q one add h =
    subst (λ z. AreFirst z new)
    (append_assoc all (types_of_keys (keys_of (take i es))) key.types
    ∙ ap (λ z. all ++ (types_of_keys (keys_of (take i es)) ++ z)) (sym (append_none key.types))
    ∙ ap (λ z. all ++ (types_of_keys (keys_of (take i es)) ++ types_of_keys z)) (sym one)
    ∙ ap (λ z. all ++ z) (sym (keys_next es i e l q)))
    (add (all ++ types_of_keys (keys_of (take i es))) h)
