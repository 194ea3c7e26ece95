-- A signature of at most 8 parts, each `Any` or a built-in type, is valid.
use Rattle.std.proofs.Common.{◌≡◌, ◌∙◌, refl, sym, ap, subst, ℕ, zero, suc, ◌+◌, ◌<◌, ◌≤◌, arith, Bool, true, true≢false, ◌&&◌, nat_eq, nat_lt, lt-ltb, List, [], ◌∷◌, ◌++◌, map, length, slice_get, inl, inr}
use Rattle.std.specs.List.{Contains, flat_map, list_all}
use Rattle.std.proofs.lemmas.List.{length-append}
use Rattle.jl_model.specs.declared.ty.Ty.{Ty}
use Rattle.jl_model.specs.declared.ty.Ty.TheOpen.{Any, Nominal}
use Rattle.jl_model.specs.declared.ty.Ty.TheVariants as T
use Rattle.jl_model.specs.declared.ty.Ty.TheViews.{rolls-Any, rolls-Nominal}
use Rattle.jl_model.specs.declared.ty.Ty.TheFolds.{fold-roll-Ty, para-roll-Ty}
use Rattle.jl_model.specs.declared.ty.Decl.{Decl}
use Rattle.jl_model.specs.Ancestors.{named, builtin_types}
use Rattle.jl_model.specs.Counts.{total, nodes, nodes_step, Raw, raw, raw_step}
use Rattle.jl_model.specs.Rows.{forms, forms_step, choices, place_of, kind, vars_in, vars_step}
use Rattle.jl_model.specs.Valid.{names_in, names_step, is_known, is_counted, counted_step, params_of}
use Rattle.jl_model.specs.Refusals.{Given, given_in, given_step}
use Rattle.jl_model.specs.AllRows.{rows_with}
use Rattle.jl_model.specs.SigRefusals.{is_component, component_step, TypeLimit}
use Rattle.jl_program.specs.Prelude.{plain}
use Rattle.jl_program.specs.Valid.{IsValidSig}

-- `Any`, or a built-in type
pub data Plain : Ty → Type 0 where
  any : Plain T.Any
  builtin : (n : ℕ) → n < 8 → Plain (named n)

abbrev pub AllPlain : List Ty → Type 0
AllPlain [] = Unit {0}
AllPlain (t ∷ ts) = Plain t × AllPlain ts

-- what its parts are
record Facts (ds : List Decl) (t : Ty) : Type 0 where
  pub nodes : nodes t ≡ 1
  pub widest : (raw t).widest ≡ 1
  pub component : is_component t ≡ true
  pub counted : is_counted (builtin_types ++ ds) t ≡ true
  pub known : is_known (length (builtin_types ++ ds)) t ≡ true
  pub vars : vars_in t ≡ []
  pub given : given_in t ≡ []
  pub form : (at : ℕ → List Ty) → forms at t ≡ t ∷ []

no_params : (ds : List Decl) (n : ℕ) → n < 8 → params_of (slice_get (builtin_types ++ ds) n) ≡ []
no_params ds zero l = refl
no_params ds (suc zero) l = refl
no_params ds (suc (suc zero)) l = refl
no_params ds (suc (suc (suc zero))) l = refl
no_params ds (suc (suc (suc (suc zero)))) l = refl
no_params ds (suc (suc (suc (suc (suc zero))))) l = refl
no_params ds (suc (suc (suc (suc (suc (suc zero)))))) l = refl
no_params ds (suc (suc (suc (suc (suc (suc (suc zero))))))) l = refl
no_params ds (suc (suc (suc (suc (suc (suc (suc (suc n)))))))) l = absurd (omega (arith, l))

many : (ds : List Decl) → length (builtin_types ++ ds) ≡ 8 + length ds
many ds = length-append builtin_types ds

facts : (ds : List Decl) (t : Ty) → Plain t → Facts ds t
facts ds T.Any any = record {
  nodes = ap nodes (sym rolls-Any) ∙ fold-roll-Ty ℕ nodes_step Any;
  widest = ap (λ t. (raw t).widest) (sym rolls-Any) ∙ ap (λ r. r.widest) (fold-roll-Ty Raw raw_step Any);
  component = ap is_component (sym rolls-Any) ∙ para-roll-Ty Bool component_step Any;
  counted = ap (is_counted (builtin_types ++ ds)) (sym rolls-Any) ∙ fold-roll-Ty Bool (counted_step (builtin_types ++ ds)) Any;
  known = ap (list_all (λ k. nat_lt k (length (builtin_types ++ ds)))) (ap names_in (sym rolls-Any) ∙ fold-roll-Ty (List ℕ) names_step Any);
  vars = ap vars_in (sym rolls-Any) ∙ fold-roll-Ty (List ℕ) vars_step Any;
  given = ap given_in (sym rolls-Any) ∙ para-roll-Ty (List Given) given_step Any;
  form = λ at. ap (forms at) (sym rolls-Any) ∙ para-roll-Ty (List Ty) (forms_step at) Any;
}
facts ds _ (builtin n l) =
    let all : List Decl = builtin_types ++ ds in
    let more = many ds in
    let low : nat_lt n (length all) ≡ true = lt-ltb n (length all) (omega arith) in
    record {
      nodes = ap nodes (sym (rolls-Nominal n [])) ∙ fold-roll-Ty ℕ nodes_step (Nominal n []);
      widest = ap (λ t. (raw t).widest) (sym (rolls-Nominal n [])) ∙ ap (λ r. r.widest) (fold-roll-Ty Raw raw_step (Nominal n []));
      component = ap is_component (sym (rolls-Nominal n [])) ∙ para-roll-Ty Bool component_step (Nominal n []);
      counted = ap (is_counted all) (sym (rolls-Nominal n [])) ∙ fold-roll-Ty Bool (counted_step all) (Nominal n [])
          ∙ ap (λ bs. nat_eq 0 (length bs) && true) (no_params ds n l);
      known = ap (list_all (λ k. nat_lt k (length all))) (ap names_in (sym (rolls-Nominal n [])) ∙ fold-roll-Ty (List ℕ) names_step (Nominal n []))
          ∙ ap (λ b. b && true) low;
      vars = ap vars_in (sym (rolls-Nominal n [])) ∙ fold-roll-Ty (List ℕ) vars_step (Nominal n []);
      given = ap given_in (sym (rolls-Nominal n [])) ∙ para-roll-Ty (List Given) given_step (Nominal n []);
      form = λ at. ap (forms at) (sym (rolls-Nominal n [])) ∙ para-roll-Ty (List Ty) (forms_step at) (Nominal n []);
    }

both : (a b : Bool) → a ≡ true → b ≡ true → (a && b) ≡ true
both a b p q = rw (p, q) refl

-- a test that each passes
passes : (p : Ty → Bool) → ((t : Ty) → Plain t → p t ≡ true) → (ts : List Ty) → AllPlain ts → list_all p ts ≡ true
passes p h [] a = refl
passes p h (t ∷ ts) a = both (p t) (list_all p ts) (h t a.0) (passes p h ts a.1)

-- a list that each has none of
gives : {X : Type 0} (f : Ty → List X) → ((t : Ty) → Plain t → f t ≡ []) → (ts : List Ty) → AllPlain ts → flat_map f ts ≡ []
gives f h [] a = refl
gives f h (t ∷ ts) a = ap (λ xs. xs ++ flat_map f ts) (h t a.0) ∙ gives f h ts a.1

one_each : (ds : List Decl) (ts : List Ty) → AllPlain ts → total (map nodes ts) ≡ length ts
one_each ds [] a = refl
one_each ds (t ∷ ts) a = let one = (facts ds t a.0).nodes in let more = one_each ds ts a.1 in omega arith

one_choice : (ds : List Decl) (at : ℕ → List Ty) (ts : List Ty) → AllPlain ts → choices (map (forms at) ts) ≡ ts ∷ []
one_choice ds at [] a = refl
one_choice ds at (t ∷ ts) a =
    ap (λ fs. choices (fs ∷ map (forms at) ts)) ((facts ds t a.0).form at)
    ∙ ap (λ us. map (λ vs. t ∷ vs) us ++ []) (one_choice ds at ts a.1)

of_contained : (ts : List Ty) (t : Ty) → AllPlain ts → Contains ts t → Plain t
of_contained [] t a (k, l, e) = absurd (omega (arith, l))
of_contained (u ∷ us) t a (zero, l, e) = subst Plain e a.0
of_contained (u ∷ us) t a (suc k, l, e) = of_contained us t a.1 (k, omega (arith, l), e)

none_in : {X : Type 0} (x : X) (xs : List X) → xs ≡ [] → Contains xs x → ⊥
none_in x [] e (k, l, d) = absurd (omega (arith, l))
none_in x (y ∷ ys) e c = cc

module _ (ds : List Decl) (ts : List Ty) (a : AllPlain ts) (few : length ts ≤ 8) where
  no_given : flat_map given_in ts ≡ []
  no_given = gives given_in (λ t p. (facts ds t p).given) ts a

  small : TypeLimit (builtin_types ++ ds) (plain ts) → ⊥
  small (inl many_nodes) = omega (arith, many_nodes, one_each ds ts a, few)
  small (inr (inl (t, c, wide))) = omega (arith, wide, (facts ds t (of_contained ts t a c)).widest)
  small (inr (inr (inl (t, u, (inl c, closed), form, large)))) = none_in t [] refl c
  small (inr (inr (inl (t, u, (inr (g, c, e), closed), form, large)))) = none_in g (flat_map given_in ts) no_given c
  small (inr (inr (inr (picks, hold, rows)))) =
      absurd (omega (
        arith,
        subst (λ (rs : List (List Ty)). 256 < length (flat_map (rows_with (plain ts) picks) rs))
            (one_choice ds (λ v. place_of (plain ts) v (kind (plain ts) v)) ts a) rows,
      ))

pub plain_valid : (ds : List Decl) (ts : List Ty) → AllPlain ts → length ts ≤ 8 → IsValidSig (builtin_types ++ ds) (plain ts)
plain_valid ds ts a few =
    let f = λ (t : Ty) (p : Plain t). facts ds t p in
    let no_vars : flat_map vars_in ts ≡ [] = gives vars_in (λ t p. (f t p).vars) ts a in
    record {
      own = ap (list_all (λ v. nat_lt v 0)) no_vars;
      own_bounds = refl;
      known = passes (is_known (length (builtin_types ++ ds))) (λ t p. (f t p).known) ts a;
      allowed = record {
        placed = λ e. true≢false (sym (passes is_component (λ t p. (f t p).component) ts a) ∙ e);
        used = λ u. omega (arith, u.1);
        few = λ l. omega (arith, l);
        counted = λ e. true≢false (sym (passes (is_counted (builtin_types ++ ds)) (λ t p. (f t p).counted) ts a) ∙ e);
        small = small ds ts a few;
        ordered = λ b. none_in b.0 [] refl b.1;
        within = λ b. none_in b.0 (flat_map given_in ts) (no_given ds ts a few) b.1;
      };
    }
