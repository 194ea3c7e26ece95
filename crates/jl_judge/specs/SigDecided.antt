-- Each refusal of a signature, and of a type in a body, is decided.
use Rattle.std.proofs.Common.{◌≡◌, sym, subst, refl, ℕ, ◌<◌, true, List, [], ◌∷◌, map, length, get_or, slice_get, ◌⊎◌, inl, inr}
use Rattle.std.specs.List.{Contains, list_all}
use Rattle.jl_model.specs.declared.limits.TheConstants.{MOST_TYPE_NODES, MOST_ALTERNATIVES, MOST_SIGNATURE_ROWS, MOST_ARGUMENTS}
use Rattle.jl_model.specs.declared.ty.Ty.{Ty}
use Rattle.jl_model.specs.declared.ty.Bound.{Bound}
use Rattle.jl_model.specs.declared.ty.Decl.{Decl}
use Rattle.jl_model.specs.declared.ty.Written.{Written}
use Rattle.jl_model.specs.AllRows.{Above, above_end, taken, passed, ArePicks, all_rows}
use Rattle.jl_model.specs.Ancestors.{table_of}
use Rattle.jl_model.specs.Counts.{total, nodes, raw}
use Rattle.jl_model.specs.Kinds as model
use Rattle.jl_model.specs.Kinds.{unused, once, diagonal, bound}
use Rattle.jl_model.specs.Normal.{IsNormalForm}
use Rattle.jl_model.specs.Refusals.{Declared, bound_types, Given, Between}
use Rattle.jl_model.specs.Rows.{alts, free, high, kind, low, width}
use Rattle.jl_model.specs.SigRefusals.{types_in, arguments_in, ManyNodes, ManyAlternatives, LargeForm, ManyRows, VariablePlace, UnusedVariable, TooManyParameters, WrongParameterCount, TypeLimit, BoundsCrossed, BoundBroken, are_placed}
use Rattle.jl_model.specs.Subtype.{Table, opaque, Below}
use Rattle.jl_model.specs.Valid.{is_closed, is_counted, params_of}
use Rattle.jl_program.specs.BodyTypes.{without_any_statics}
use Rattle.jl_types.proofs.DecideLemmas.{Decided}
use Rattle.jl_sig.proofs.BuildLemmas.{not_many}
use Rattle.jl_sig.proofs.SearchLemmas.{Some}
use Rattle.jl_body.specs.TypeRefused.{BodyTypeLimit}
use Rattle.jl_judge.specs.Decision.{decided_by, both_decided, either_decided, not_decided, true_decided, false_decided, at_most, less_decided, some_decided, until_decided}
use Rattle.jl_judge.specs.BelowDecided.{below_decided, form_decided}

-- THE REFUSALS THAT ASK FOR NO ORDER OF TYPES
pub place_decided : (s : Written) → Decided (VariablePlace s)
place_decided s = false_decided (are_placed s)

unused_kind : (k : model.Kind) → Decided (k ≡ unused)
unused_kind unused = inl refl
unused_kind once = inr (λ e. let f : once ≡ unused = e in cc)
unused_kind diagonal = inr (λ e. let f : diagonal ≡ unused = e in cc)
unused_kind bound = inr (λ e. let f : bound ≡ unused = e in cc)

pub unused_decided : (s : Written) → Decided (UnusedVariable s)
unused_decided s = until_decided (λ v. kind s v ≡ unused) (λ v. unused_kind (kind s v)) (width s)

pub many_decided : (s : Written) → Decided (TooManyParameters s)
many_decided s = less_decided MOST_ARGUMENTS (length s.parts)

pub count_decided : (ds : List Decl) (s : Written) → Decided (WrongParameterCount ds s)
count_decided ds s = false_decided (list_all (is_counted ds) (types_in s))

nodes_decided : (s : Written) → Decided (ManyNodes s)
nodes_decided s = less_decided MOST_TYPE_NODES (total (map nodes (types_in s)))

alternatives_decided : (s : Written) → Decided (ManyAlternatives s)
alternatives_decided s = some_decided (λ (t : Ty). MOST_ALTERNATIVES < (raw t).widest) (λ t. less_decided MOST_ALTERNATIVES (raw t).widest) (types_in s)

module _ (ds : List Decl) (declared : Declared ds) where
  abbrev n : Table
  n = table_of ds

  -- its normal form is too large
  abbrev HasLarge : Ty → Type 0
  HasLarge t = (u : Ty) × IsNormalForm n t u × (MOST_TYPE_NODES < nodes u)

  -- it has no variables, and its normal form is too large
  abbrev ClosedLarge : Ty → Type 0
  ClosedLarge t = (is_closed t ≡ true) × HasLarge t

  closed_decided : (t : Ty) → Decided (ClosedLarge t)
  closed_decided t = both_decided (is_closed t ≡ true) (HasLarge t) (true_decided (is_closed t)) (form_decided ds declared (λ u. MOST_TYPE_NODES < nodes u) (λ u. less_decided MOST_TYPE_NODES (nodes u)) t)

  form_large : (s : Written) → Some ClosedLarge (bound_types s.vars) ⊎ Some (λ (a : Given). ClosedLarge a.ty) (arguments_in s) → LargeForm n s
  form_large s (inl h) = (h.0, h.2.1.0, (inl h.1, h.2.0), h.2.1.1, h.2.1.2)
  form_large s (inr h) = (h.0.ty, h.2.1.0, (inr (h.0, h.1, refl), h.2.0), h.2.1.1, h.2.1.2)

  large_form : (s : Written) (t u : Ty) → Contains (bound_types s.vars) t ⊎ ((a : Given) × Contains (arguments_in s) a × (a.ty ≡ t)) → is_closed t ≡ true → IsNormalForm n t u → MOST_TYPE_NODES < nodes u
      → Some ClosedLarge (bound_types s.vars) ⊎ Some (λ (a : Given). ClosedLarge a.ty) (arguments_in s)
  large_form s t u (inl i) c f l = inl (t, i, (c, (u, f, l)))
  large_form s t u (inr a) c f l = inr (a.0, a.1, subst ClosedLarge (sym a.2) (c, (u, f, l)))

  forms_decided : (s : Written) → Decided (LargeForm n s)
  forms_decided s =
      let P = Some ClosedLarge (bound_types s.vars) in
      let Q = Some (λ (a : Given). ClosedLarge a.ty) (arguments_in s) in
      decided_by (P ⊎ Q) (LargeForm n s) (form_large s) (λ h. large_form s h.0 h.1 h.2.0 h.2.1 h.3 h.4)
      (either_decided P Q (some_decided ClosedLarge closed_decided (bound_types s.vars)) (some_decided (λ (a : Given). ClosedLarge a.ty) (λ a. closed_decided a.ty) (arguments_in s)))

  -- the alternatives that a type is below
  pick : (t : Ty) (us : List Ty) → (vs : List Ty) × Above n t us vs
  pick t [] = ([], above_end)
  pick t (u ∷ us) = step (below_decided ds declared t u) (pick t us)
    where
      step : Decided (Below n opaque t u) → (vs : List Ty) × Above n t us vs → (ws : List Ty) × Above n t (u ∷ us) ws
      step (inl b) r = (u ∷ r.0, taken u us r.0 b r.1)
      step (inr d) r = (r.0, passed u us r.0 d r.1)

  -- what each variable may take
  picked : Written → ℕ → List Ty
  picked s v = (pick (low s v) (alts (high s v))).0

  picked_hold : (s : Written) → ArePicks n s (picked s)
  unfolding picked
  picked_hold s v k = (pick (low s v) (alts (high s v))).1

  rows_decided : (s : Written) → Decided (ManyRows n s)
  rows_decided s = step (less_decided MOST_SIGNATURE_ROWS (length (all_rows s (picked s))))
    where
      step : Decided (MOST_SIGNATURE_ROWS < length (all_rows s (picked s))) → Decided (ManyRows n s)
      step (inl l) = inl (picked s, picked_hold s, l)
      step (inr d) = inr (λ m. not_many n s (all_rows s (picked s)) (record { picks = picked s; hold = picked_hold s; are = refl; few = at_most (length (all_rows s (picked s))) MOST_SIGNATURE_ROWS d }) m)

  -- the four ways of being too large, where the rows may be those of another
  limit_by : (s r : Written) → Decided (ManyNodes s ⊎ ManyAlternatives s ⊎ LargeForm n s ⊎ ManyRows n r)
  limit_by s r =
      let P = ManyNodes s in
      let Q = ManyAlternatives s in
      let R = LargeForm n s in
      let T = ManyRows n r in
      either_decided P (Q ⊎ R ⊎ T) (nodes_decided s) (either_decided Q (R ⊎ T) (alternatives_decided s) (either_decided R T (forms_decided s) (rows_decided r)))

  pub limit_decided : (s : Written) → Decided (TypeLimit ds s)
  limit_decided s = limit_by s s

  pub body_limit_decided : (s : Written) → Decided (BodyTypeLimit ds s)
  body_limit_decided s = limit_by s (without_any_statics s)

  -- the low bound is not below the high bound
  abbrev Crossed : Bound → Type 0
  Crossed b = Below n opaque b.low b.high → ⊥

  pub crossed_decided : (s : Written) → Decided (BoundsCrossed ds s)
  crossed_decided s = some_decided Crossed (λ b. not_decided (Below n opaque b.low b.high) (below_decided ds declared b.low b.high)) s.vars

  -- the declared bound of an argument
  abbrev bound_of : Given → Bound
  bound_of a = get_or (params_of (slice_get ds a.of)) a.place free

  -- an argument without variables outside its bound
  abbrev Broken : Given → Type 0
  Broken a = (is_closed a.ty ≡ true) × (Between n (bound_of a) a.ty → ⊥)

  broken_at : (a : Given) → Decided (Broken a)
  broken_at a =
      let b = bound_of a in
      both_decided (is_closed a.ty ≡ true) (Between n b a.ty → ⊥) (true_decided (is_closed a.ty))
      (not_decided (Between n b a.ty) (both_decided (Below n opaque b.low a.ty) (Below n opaque a.ty b.high) (below_decided ds declared b.low a.ty) (below_decided ds declared a.ty b.high)))

  pub broken_decided : (s : Written) → Decided (BoundBroken ds s)
  broken_decided s =
      decided_by (Some Broken (arguments_in s)) (BoundBroken ds s) (λ h. (h.0, h.1, h.2.0, h.2.1)) (λ h. (h.0, h.1, (h.2, h.3))) (some_decided Broken broken_at (arguments_in s))
