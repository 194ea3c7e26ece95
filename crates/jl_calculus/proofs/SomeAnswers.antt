-- Each question of the rules has one answer.
use Rattle.std.proofs.Common.{◌≡◌, ap, subst, refl, ℕ, zero, suc, ◌+◌, ◌-◌, ◌<◌, ◌≤◌, inl, inr, arith, Bool, true, false, nat_eq, List, [], ◌∷◌, length}
use Rattle.jl_model.specs.declared.ty.Ty.{Ty}
use Rattle.jl_model.specs.declared.ty.Key.{Key}
use Rattle.jl_model.specs.declared.ty.Bound.{Bound}
use Rattle.jl_model.specs.declared.ty.Decl.{Decl}
use Rattle.jl_model.specs.declared.ty.Written.{Written}
use Rattle.jl_model.specs.AllRows.{each_var}
use Rattle.jl_model.specs.Ancestors.{table_of}
use Rattle.jl_model.specs.Bindings.{binding, bindings}
use Rattle.jl_model.specs.Normal.{IsNormalForm}
use Rattle.jl_model.specs.Refusals.{Declared}
use Rattle.jl_model.specs.Subtype.{Table}
use Rattle.jl_types.proofs.ExistLemmas.{exists}
use Rattle.jl_program.specs.declared.choice.Choice.{Choice}
use Rattle.jl_program.specs.declared.choice.Choice.TheVariants as C
use Rattle.jl_program.specs.declared.fault.Fault.{Fault}
use Rattle.jl_program.specs.declared.tree.Program.{Program}
use Rattle.jl_program.specs.declared.value.Value.{Value}
use Rattle.jl_program.specs.declared.value.Value.TheVariants as V
use Rattle.jl_program.specs.Prelude.{prelude_count}
use Rattle.jl_calculus.specs.declared.history.Event.{Event}
use Rattle.jl_calculus.specs.declared.history.Outcome.{Outcome}
use Rattle.jl_calculus.specs.declared.history.Outcome.TheVariants as O
use Rattle.jl_calculus.specs.AnswerLaws.{HasOne, AreDecided, HasSiteOrNone}
use Rattle.jl_calculus.specs.Answers.{Refusal, Answer, refuse, give, tell}
use Rattle.jl_calculus.specs.Operations.{within_limits, make_tuple, make_struct, make_written, make_inferred, test_type, test_order, test_same}
use Rattle.jl_calculus.specs.Ranges.{Touches, Covers, MayBegin, IsRightFill}
use Rattle.jl_calculus.specs.World.{methods_made, Selects}
use Rattle.jl_calculus.proofs.AnswerLemmas.{struct_once, tuple_once, written_once, inferred_once, test_once, order_once, same_once}
use Rattle.jl_calculus.proofs.RowLemmas.{one_first}
use Rattle.jl_calculus.proofs.SureLemmas.{Sure, Known, sure_known, contains_of}
use Rattle.jl_calculus.proofs.SelectLemmas.{selects_one}
use Rattle.jl_calculus.proofs.SomeChoice.{selected_there, selected_sure}

-- ---- the choice

pub choice_one : (P : Program) (es : List Event) (f : ℕ) (ts : List Ty) (w : ℕ) → HasOne (Selects P es f ts w)
choice_one P es f ts w = record { some = λ h. selected_sure P es f ts w (λ r. h r.0 r.1); one = selects_one P es f ts w }

pub choice_is_there : (P : Program) (es : List Event) (f : ℕ) (ts : List Ty) (w : ℕ) → AreDecided P es f ts w (methods_made P es f w) → (c : Choice) × Selects P es f ts w c
choice_is_there P es f ts w d =
    selected_there P es f ts w (λ m i. d.stands m (contains_of (methods_made P es f w) m i)) (λ m i. d.applies m (contains_of (methods_made P es f w) m i))
    (λ a b i j. d.below a b (contains_of (methods_made P es f w) a i) (contains_of (methods_made P es f w) b j))

each_long : (f : ℕ → Ty) (i : ℕ) (vars : List Bound) → length (each_var f i vars) ≡ length vars
each_long f i [] = refl
each_long f i (b ∷ vars) = ap suc (each_long f (i + 1) vars)

pub bindings_long : (n : Table) (s : Written) (ts : List Ty) → length (bindings n s ts) ≡ length s.vars
bindings_long n s ts = each_long (binding n s ts) 0 s.vars

-- ---- operations

-- it can't be that an operation has no answer
abbrev Answered : Answer → Type 0
Answered A = ((o : Outcome) → A o → ⊥) → ⊥

refuse_some : (row : Refusal) (rest : Answer) → Answered rest → Answered (refuse row rest)
refuse_some row rest r h =
    let none : (e : Fault) → row e → ⊥ = λ e p. h (O.Error e) (inl (e, p, refl)) in
    r (λ o p. h o (inr (none, p)))

give_some : (v : Value) → Answered (give v)
give_some v h = h (O.Value v) refl

tell_some : (A : Type 0) → Answered (tell A)
tell_some A h = sure_known A by
  where
    by : Known A → ⊥
    by (inl a) = h (O.Value (V.Bool true)) (true, ((λ t. a), (λ b. refl)), refl)
    by (inr n) = h (O.Value (V.Bool false)) (false, ((λ t. let z : false ≡ true = t in cc), (λ a. absurd (n a))), refl)

module _ (ds : List Decl) where
  limits_some : (v : Value) → Answered (within_limits ds v)
  limits_some v = refuse_some _ _ (give_some v)

  pub tuple_one : (vs : List Value) → HasOne (make_tuple ds vs)
  tuple_one vs = record { some = refuse_some _ _ (limits_some _); one = tuple_once ds vs }

  struct_some : (t : Ty) (vs : List Value) → Answered (make_struct ds t vs)
  struct_some t vs = refuse_some _ _ (refuse_some _ _ (limits_some _))

  pub struct_one : (t : Ty) (vs : List Value) → HasOne (make_struct ds t vs)
  struct_one t vs = record { some = struct_some t vs; one = struct_once ds t vs }

  pub inferred_one : (name : ℕ) (vs : List Value) → HasOne (make_inferred ds name vs)
  inferred_one name vs = record { some = refuse_some _ _ (refuse_some _ _ (limits_some _)); one = inferred_once ds name vs }

  module _ (d : Declared ds) where
    made_some : (t : Ty) (vs : List Value) → Answered (λ o. (m : Ty) × IsNormalForm (table_of ds) t m × make_struct ds m vs o)
    made_some t vs h = let r = exists ds d t in struct_some r.0 vs (λ o p. h o (r.0, r.1.form, p))

    pub written_one : (statics : List Ty) (t : Written) (vs : List Value) → HasOne (make_written ds statics t vs)
    written_one statics t vs = record { some = refuse_some _ _ (refuse_some _ _ (refuse_some _ _ (made_some _ vs))); one = written_once ds d statics t vs }

    pub test_one : (statics : List Ty) (v : Value) (t : Written) → HasOne (test_type ds statics v t)
    test_one statics v t = record { some = refuse_some _ _ (refuse_some _ _ (tell_some _)); one = test_once ds d statics v t }

    pub order_one : (statics : List Ty) (t u : Written) → HasOne (test_order ds statics t u)
    order_one statics t u = record { some = refuse_some _ _ (refuse_some _ _ (tell_some _)); one = order_once ds d statics t u }

pub same_one : (negated : Bool) (u v : Value) → HasOne (test_same negated u v)
same_one negated u v = record { some = tell_some _; one = same_once negated u v }

-- ---- rows

module _ (P : Program) (es : List Event) (key : Key) where
  abbrev Row : ℕ → Type 0
  Row w = (first : ℕ) × MayBegin P es key first × Covers P es key first w

  no_later : (w d : ℕ) → w < d → d ≤ w → Touches P es d key → ⊥
  no_later w d l m t = absurd (omega (arith, l, m))

  -- the row that covers a world covers the next one, or another row begins there
  next_row : (w : ℕ) → prelude_count ≤ w → Row w → Known (Touches P es (suc w) key) → Row (suc w)
  next_row w low r (inl t) = (suc w, inr (omega (arith, low), t), record { begun = omega arith; going = no_later (suc w) })
  next_row w low (first, b, c) (inr n) = (first, b, record { begun = omega (arith, c.begun); going = λ d l m t. by d l m t (nat_eq d (suc w)) refl })
    where
      by : (d : ℕ) → first < d → d ≤ suc w → Touches P es d key → (b : Bool) → nat_eq d (suc w) ≡ b → ⊥
      by d l m t true e = let q : d ≡ suc w = grind (arith, e) in n (subst (λ (z : ℕ). Touches P es z key) q t)
      by d l m t false e = c.going d l (grind (arith, m, e)) t

  rows_up : (k : ℕ) → Sure (Row (k + prelude_count))
  rows_up zero h = h (prelude_count, inl refl, record { begun = omega arith; going = no_later prelude_count })
  rows_up (suc k) h =
      let e : suc (k + prelude_count) ≡ suc k + prelude_count = omega arith in
      rows_up k (λ r. sure_known (Touches P es (suc (k + prelude_count)) key) (λ t. h (subst Row e (next_row (k + prelude_count) (omega arith) r t))))

  pub cover_one : (w : ℕ) → prelude_count ≤ w → HasOne (λ (first : ℕ). MayBegin P es key first × Covers P es key first w)
  cover_one w low = record {
    some = λ h. let e : (w - prelude_count) + prelude_count ≡ w = omega (arith, low) in rows_up (w - prelude_count) (λ r. h r.0 (r.1, subst (λ (z : ℕ). Covers P es key r.0 z) e r.2));
    one = λ a b h k. one_first P es key a b w h.0 k.0 h.1 k.1;
  }

  not_method : (first : ℕ) (c : Choice) → Selects P es key.function key.types first c → ((d : ℕ) → C.Method d ≡ c → ⊥) → (site : ℕ) → IsRightFill P es key site first → ⊥
  not_method first c h n site r = n r.choice.0 (selects_one P es key.function key.types first (C.Method r.choice.0) c r.choice.1 h)

  pub site_there : (first : ℕ) (c : Choice) → MayBegin P es key first → Selects P es key.function key.types first c → HasSiteOrNone P es key first c
  site_there first (C.Method d) b h = record { begun = b; choice = (d, h, refl) }
  site_there first C.None b h = not_method first C.None h (λ d e. cc)
  site_there first (C.Ambiguous x y) b h = not_method first (C.Ambiguous x y) h (λ d e. cc)
