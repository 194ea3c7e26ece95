-- What is read of a declaration: its types name those before it and itself, and have no variables but its parameters.
use Rattle.std.proofs.Common.{◌≡◌, ◌∙◌, ap, refl, ℕ, suc, ◌+◌, ◌≤◌, arith, Bool, true, false, nat_lt, List, [], ◌∷◌, ◌++◌, map, length, length-append, Option, None}
use Rattle.std.specs.List.{flat_map, list_all}
use Rattle.jl_model.specs.declared.ty.Ty.{Ty}
use Rattle.jl_model.specs.declared.ty.Bound.{Bound}
use Rattle.jl_model.specs.declared.ty.Decl.{Decl}
use Rattle.jl_model.specs.Refusals.{bound_types}
use Rattle.jl_model.specs.Rows.{vars_in}
use Rattle.jl_model.specs.Valid.{is_known}
use Rattle.jl_model.proofs.PutLemmas.{both_true}
use Rattle.jl_typeread.specs.declared.tree.TypeText.{TypeText}
use Rattle.jl_typeread.specs.declared.tree.VarText.{VarText}
use Rattle.jl_program.specs.Names.{is_among, builtin_names}
use Rattle.jl_written.specs.declared.reading.Reading.{Reading}
use Rattle.jl_written.specs.declared.reading.TypeVar.{TypeVar}
use Rattle.jl_written.specs.Meaning.{var_of}
use Rattle.jl_written.specs.Reads.{Typed, Types, Scoped, VarReads, Seen, seen, visible, with_own, in_bound, no_reading, bind_name, note_builtin, bind, bind_all, var_reads}
use Rattle.jl_written.specs.Signatures.{all_bound, all_read, option_reads}
use Rattle.jl_type_laws.specs.Carried.{Passes, vars_pass, ReadingHas, Visible}
use Rattle.jl_type_laws.specs.Grown.{Grows}
use Rattle.jl_type_laws.specs.Scripts.{DeclsKnown}
use Rattle.jl_type_laws.proofs.TextInduction.{EachText}
use Rattle.jl_type_laws.proofs.GrowLemmas.{one_longer, grows_trans}
use Rattle.jl_type_laws.proofs.CarryLemmas.{lt_true, all_pass, bounds_pass, all_join, all_flat, closed_params, known_carried, all_carried, nothing_carried}
use Rattle.jl_type_laws.proofs.ReadLemmas.{each_map, each_all, var_law, bound_law, option_law, all_law}
use Rattle.jl_type_laws.proofs.KnownMore.{decls_more, all_more, reading_more}
use Rattle.jl_type_laws.proofs.WideLemmas.{guarded_same}
use Rattle.jl_type_laws.proofs.BodyLemmas.{all_visible, nothing_has}

-- ---- each variable of a list is one more

abbrev VarGrows : VarReads → Type 0
VarGrows v = (s : Seen) (r : Reading) → length r.vars ≤ length (v.bounds s r).after.vars

bound_more : (at : ℕ) (name : List ℕ) (b : Bound) (vars : List TypeVar) (r : Reading) (o : Option TypeVar) → length r.vars + 1 ≤ length (bind_name at name b vars r o).after.vars
bound_more at name b vars r o = let h = one_longer r.vars b in omega (arith, h)

pub bound_count : (vs : List VarReads) → EachText VarGrows vs → (s : Seen) (own : List TypeVar) (r : Reading) → length r.vars + length vs ≤ length (bind_all vs s own r).after.vars
bound_count [] l s own r = omega arith
bound_count (v ∷ vs) l s own r =
    let b = v.bounds (with_own own (in_bound s)) r in
    let d = bind v s own r in
    let g = ap (λ z. length z) (guarded_same v.at (is_among v.name builtin_names) b.after) in
    let one = bound_more v.at v.name b.bound own (note_builtin v.at v.name b.after) (var_of (visible (with_own own s)) v.name) in
    let rest = bound_count vs l.1 s d.vars d.after in
    let first = l.0 (with_own own (in_bound s)) r in
    omega (arith, g, one, rest, first)

map_length : {A B : Type 0} (f : A → B) (xs : List A) → length (map f xs) ≡ length xs
map_length f [] = refl
map_length f (x ∷ xs) = ap suc (map_length f xs)

module _ (ds : List Decl) (k : DeclsKnown ds) (params : List VarText) (parent : Option TypeText) (make : List Bound → Ty → Decl)
    (is : (bs : List Bound) (p : Ty) → (make bs p).params ≡ bs) (fields : List (Option TypeText)) where
  abbrev Bounds : Scoped
  Bounds = all_bound ds params no_reading

  abbrev Parent : Typed
  Parent = option_reads ds parent Bounds.vars Bounds.after

  abbrev Own : Decl
  Own = make Bounds.after.vars Parent.ty

  abbrev Fields : Types
  Fields = all_read (ds ++ Own ∷ []) fields Bounds.vars Parent.after

  at_least : length params ≤ length Bounds.after.vars
  at_least =
      let c = nothing_carried ds in
      let h = bound_count (map (var_reads ds) params)
      (each_map VarGrows (var_reads ds) params (each_all (λ v. VarGrows (var_reads ds v)) (λ v s r. (var_law ds _ _ _ _ c v s r).grows.longer) params)) (seen [] [] true) [] no_reading in
      let e = map_length (var_reads ds) params in
      omega (arith, h, e)

  abbrev Number : ℕ → Bool
  Number v = nat_lt v (length Bounds.after.vars)

  few : length Fields.after.vars ≡ length params → length Parent.after.vars ≤ length Bounds.after.vars
  few whole =
      let long = (all_law (ds ++ Own ∷ []) _ _ _ _ (nothing_carried (ds ++ Own ∷ [])) fields Bounds.vars Parent.after).grows.longer in
      let least = at_least in
      omega (arith, long, least, whole)

  -- what is known up to the parent
  bounds_read : Visible (λ v u. Number v ≡ true) Bounds.vars × ReadingHas (Passes (vars_pass Number)) Bounds.after
  bounds_read = (bound_law ds _ _ _ _ (all_carried ds Number (closed_params Number ds k.closed)) params no_reading).holds tt (λ v i. lt_true v (length Bounds.after.vars) i) tt (nothing_has _)

  parent_has : length Fields.after.vars ≡ length params → (vars_pass Number Parent.ty ≡ true) × ReadingHas (Passes (vars_pass Number)) Parent.after
  parent_has whole =
      let l = few whole in
      (option_law ds _ _ _ _ (all_carried ds Number (closed_params Number ds k.closed)) parent Bounds.vars Bounds.after).holds tt (λ v i. lt_true v (length Bounds.after.vars) (omega (arith, i, l))) bounds_read.0 bounds_read.1

  own_bounds : list_all (vars_pass Number) (bound_types Bounds.after.vars) ≡ true
  own_bounds = bounds_pass (vars_pass Number) Bounds.after.vars bounds_read.1.bounds

  all_bounds : list_all (λ (d : Decl). list_all (vars_pass Number) (bound_types d.params)) (ds ++ Own ∷ []) ≡ true
  all_bounds =
      all_join (λ (d : Decl). list_all (vars_pass Number) (bound_types d.params)) ds (Own ∷ []) (closed_params Number ds k.closed)
      (both_true (list_all (vars_pass Number) (bound_types Own.params)) true (ap (λ z. list_all (vars_pass Number) (bound_types z)) (is Bounds.after.vars Parent.ty) ∙ own_bounds) refl)

  -- the bounds, the parent and the fields have no variables but the parameters, where all its arguments are written
  pub own_parts : length Fields.after.vars ≡ length params
      → (list_all (vars_pass Number) (bound_types Bounds.after.vars) ≡ true) × (vars_pass Number Parent.ty ≡ true) × (list_all (vars_pass Number) Fields.tys ≡ true)
  own_parts whole =
      let least = at_least in
      let a = parent_has whole in
      let f = (all_law (ds ++ Own ∷ []) _ _ _ _ (all_carried (ds ++ Own ∷ []) Number all_bounds) fields Bounds.vars Parent.after).holds
      tt (λ v i. lt_true v (length Bounds.after.vars) (omega (arith, i, least, whole))) bounds_read.0 a.1 in
      (own_bounds, a.0, all_pass (vars_pass Number) Fields.tys f.0)

  pub own_variables : length Fields.after.vars ≡ length params → list_all Number (flat_map vars_in (bound_types Bounds.after.vars ++ Parent.ty ∷ Fields.tys)) ≡ true
  own_variables whole =
      let p = vars_pass Number in
      let o = own_parts whole in
      all_flat Number (bound_types Bounds.after.vars ++ Parent.ty ∷ Fields.tys)
      ∙ all_join p (bound_types Bounds.after.vars) (Parent.ty ∷ Fields.tys) o.0 (both_true (p Parent.ty) (list_all p Fields.tys) o.1 o.2)

  pub bounds_known : list_all (is_known (length ds)) (bound_types Bounds.after.vars) ≡ true
  bounds_known =
      let c = known_carried ds (length ds) (omega arith) k.builtins k.known in
      let b = (bound_law ds _ _ _ _ c params no_reading).holds tt (λ v i. tt) tt (nothing_has _) in
      bounds_pass (is_known (length ds)) Bounds.after.vars b.1.bounds

  parent_read : (is_known (length ds) Parent.ty ≡ true) × ReadingHas (Passes (is_known (length ds))) Parent.after
  parent_read =
      let c = known_carried ds (length ds) (omega arith) k.builtins k.known in
      let b = (bound_law ds _ _ _ _ c params no_reading).holds tt (λ v i. tt) tt (nothing_has _) in
      (option_law ds _ _ _ _ c parent Bounds.vars Bounds.after).holds tt (λ v i. tt) b.0 b.1

  pub parent_known : is_known (length ds) Parent.ty ≡ true
  parent_known = parent_read.0

  -- a field may name the type itself
  pub fields_known : list_all (is_known (length ds + 1)) Fields.tys ≡ true
  fields_known =
      let m = length ds + 1 in
      let l : length ds ≤ m = omega arith in
      let e = length-append ds (Own ∷ []) in
      let own : list_all (is_known m) (bound_types Own.params) ≡ true = ap (λ z. list_all (is_known m) (bound_types z)) (is Bounds.after.vars Parent.ty) ∙ all_more (length ds) m l (bound_types Bounds.after.vars) bounds_known in
      let all = all_join (λ (d : Decl). list_all (is_known m) (bound_types d.params)) ds (Own ∷ []) (decls_more (length ds) m l ds k.known) (both_true (list_all (is_known m) (bound_types Own.params)) true own refl) in
      let c = known_carried (ds ++ Own ∷ []) m (omega (arith, e)) (let b = k.builtins in omega (arith, b)) all in
      let f = (all_law (ds ++ Own ∷ []) _ _ _ _ c fields Bounds.vars Parent.after).holds tt (λ v i. tt) (all_visible Bounds.vars) (reading_more (length ds) m l Parent.after parent_read.1) in
      all_pass (is_known m) Fields.tys f.0

  grows : Grows no_reading Fields.after
  grows =
      let lb = (bound_law ds _ _ _ _ (nothing_carried ds) params no_reading).grows in
      let lp = (option_law ds _ _ _ _ (nothing_carried ds) parent Bounds.vars Bounds.after).grows in
      let lf = (all_law (ds ++ Own ∷ []) _ _ _ _ (nothing_carried (ds ++ Own ∷ [])) fields Bounds.vars Parent.after).grows in
      grows_trans no_reading Parent.after Fields.after (grows_trans no_reading Bounds.after Parent.after lb lp) lf

  -- without a fault each name means something
  pub named : Fields.after.fault ≡ None → Fields.after.unknown ≡ false
  named e = grows.named e

  -- and none is bound twice
  pub clear : Fields.after.fault ≡ None → Fields.after.unclear ≡ false
  clear e = grows.told e
