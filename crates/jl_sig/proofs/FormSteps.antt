-- One more bound, and one more argument, in normal form.
use Rattle.std.proofs.Common.{◌≡◌, ◌∙◌, sym, ap, subst, refl, ℕ, zero, suc, ◌+◌, ◌<◌, arith, add-one, true, false, IsTrue, List, [], ◌∷◌, ◌++◌, length, drop, get_or, append_assoc, append-nil, ◌⊎◌, inl, inr}
use Rattle.std.specs.List.{list_all}
use Rattle.jl_model.specs.declared.ty.Ty.{Ty}
use Rattle.jl_model.specs.declared.ty.Bound.{Bound}
use Rattle.jl_model.specs.declared.ty.Decl.{Decl}
use Rattle.jl_model.specs.Signature.{Both, both_end, both_more}
use Rattle.jl_model.specs.Valid.{is_known, is_closed}
use Rattle.jl_model.specs.Refusals.{bound_types, Given}
use Rattle.jl_model.proofs.PutLemmas.{and_l, and_r}
use Rattle.jl_types.specs.Form.{IsTooLarge}
use Rattle.jl_types.specs.Ground.{IsGround}
use Rattle.jl_sig.specs.declared.arguments.Argument.{Argument}
use Rattle.jl_sig.specs.Parts.{given, all_given}
use Rattle.jl_sig.specs.Forms.{IsSmallForm, HasTooLarge, AreFormed, formed_end, formed_open, formed_closed, HasTooLargeGiven, AllGround}
use Rattle.jl_sig.proofs.SearchLemmas.{Some, some_first, some_cons, some_rest}

pub drop_at : {A : Type 0} (xs : List A) (i : ℕ) (x : A) → i < length xs → x ≡ get_or xs i x → drop i xs ≡ x ∷ drop (i + 1) xs
drop_at [] i x lt e = absurd (omega arith)
drop_at (y ∷ xs) zero x lt e = ap (λ z. z ∷ xs) (sym e)
drop_at (y ∷ xs) (suc i) x lt e = rw add-one (rw add-one at (drop_at xs i x (omega arith) e))

-- bounds
module _ (R : Ty → Ty → Type 0) where
  abbrev B : List Bound → List Bound → Type 0
  B bs cs = Both R (bound_types bs) (bound_types cs)

  pub bounds_step : (bs : List Bound) (i : ℕ) (b c : Bound) (old new : List Bound) → i < length bs → b ≡ get_or bs i b → R b.low c.low → R b.high c.high → new ≡ old ++ c ∷ []
      → ((cs : List Bound) → B (drop i bs) cs → B bs (old ++ cs)) → (cs : List Bound) → B (drop (i + 1) bs) cs → B bs (new ++ cs)
  bounds_step bs i b c old new lt e l u s k cs r =
      subst (B bs) (sym (ap (λ z. z ++ cs) s ∙ append_assoc old (c ∷ []) cs))
      (k (c ∷ cs) (subst (λ z. B z (c ∷ cs)) (sym (drop_at bs i b lt e))
      (both_more b.low c.low (b.high ∷ bound_types (drop (i + 1) bs)) (c.high ∷ bound_types cs) l (both_more b.high c.high (bound_types (drop (i + 1) bs)) (bound_types cs) u r))))

  pub bounds_done : (bs items : List Bound) (i : ℕ) → drop i bs ≡ [] → ((cs : List Bound) → B (drop i bs) cs → B bs (items ++ cs)) → B bs items
  bounds_done bs items i e k = subst (B bs) (append-nil items) (k [] (subst (λ z. B z []) (sym e) both_end))

module _ (ds : List Decl) where
  -- one without variables that is too large
  abbrev TooLarge : Ty → Type 0
  TooLarge t = IsTrue (is_closed t) × IsTooLarge ds t

  pub bound_large : (bs : List Bound) (i : ℕ) (b : Bound) → i < length bs → b ≡ get_or bs i b → (IsTrue (is_closed b.low) × IsTooLarge ds b.low) ⊎ (IsTrue (is_closed b.high) × IsTooLarge ds b.high) → HasTooLarge ds (bound_types bs)
  bound_large [] i b lt e l = absurd (omega arith)
  bound_large (x ∷ xs) zero b lt e (inl l) = some_first TooLarge x.low (x.high ∷ bound_types xs) (subst (λ (z : Bound). TooLarge z.low) e l)
  bound_large (x ∷ xs) zero b lt e (inr l) = some_cons TooLarge x.low (x.high ∷ bound_types xs) (some_first TooLarge x.high (bound_types xs) (subst (λ (z : Bound). TooLarge z.high) e l))
  bound_large (x ∷ xs) (suc i) b lt e l = some_cons TooLarge x.low (x.high ∷ bound_types xs) (some_cons TooLarge x.high (bound_types xs) (bound_large xs i b (omega arith) e l))

  pub ground_at : (bs : List Bound) (i : ℕ) (b : Bound) → AllGround ds bs → i < length bs → b ≡ get_or bs i b → IsGround ds b.low × IsGround ds b.high
  ground_at [] i b g lt e = absurd (omega arith)
  ground_at (x ∷ xs) zero b g lt e = subst (λ (z : Bound). IsGround ds z.low × IsGround ds z.high) (sym e) (g.0, g.1)
  ground_at (x ∷ xs) (suc i) b g lt e = ground_at xs i b g.2 (omega arith) e

  -- arguments
  abbrev F : List Given → List Given → Type 0
  F = AreFormed ds

  pub given_append : (as_ bs : List Argument) → all_given (as_ ++ bs) ≡ all_given as_ ++ all_given bs
  given_append [] bs = refl
  given_append (a ∷ as_) bs = ap (λ z. given a ∷ z) (given_append as_ bs)

  pub argument_known : (as_ : List Argument) (i : ℕ) (a : Argument) → i < length as_ → a ≡ get_or as_ i a → list_all (λ (g : Given). is_known (length ds) g.ty) (all_given as_) ≡ true → is_known (length ds) a.ty ≡ true
  argument_known [] i a lt e h = absurd (omega arith)
  argument_known (x ∷ xs) zero a lt e h = ap (λ (z : Argument). is_known (length ds) z.ty) e ∙ and_l (is_known (length ds) x.ty) (list_all (λ (g : Given). is_known (length ds) g.ty) (all_given xs)) h
  argument_known (x ∷ xs) (suc i) a lt e h = argument_known xs i a (omega arith) e (and_r (is_known (length ds) x.ty) (list_all (λ (g : Given). is_known (length ds) g.ty) (all_given xs)) h)

  pub closed_step : (as_ : List Argument) (i : ℕ) (a c : Argument) (old new : List Argument) → i < length as_ → a ≡ get_or as_ i a → is_closed a.ty ≡ true → IsSmallForm ds a.ty c.ty → c.of ≡ a.of → c.place ≡ a.place → new ≡ old ++ c ∷ []
      → ((hs : List Given) → F (all_given (drop i as_)) hs → F (all_given as_) (all_given old ++ hs)) → (hs : List Given) → F (all_given (drop (i + 1) as_)) hs → F (all_given as_) (all_given new ++ hs)
  closed_step as_ i a c old new lt e h f o p s k hs r =
      let g : all_given new ≡ all_given old ++ given c ∷ [] = ap all_given s ∙ given_append old (c ∷ []) in
      let m : record { of = a.of; place = a.place; ty = c.ty } ≡ given c = ap (λ z. record { of = z; place = a.place; ty = c.ty }) (sym o) ∙ ap (λ z. record { of = c.of; place = z; ty = c.ty }) (sym p) in
      subst (F (all_given as_)) (sym (ap (λ z. z ++ hs) g ∙ append_assoc (all_given old) (given c ∷ []) hs))
      (k (given c ∷ hs) (subst (λ z. F z (given c ∷ hs)) (sym (ap all_given (drop_at as_ i a lt e)))
      (subst (λ z. F (given a ∷ all_given (drop (i + 1) as_)) (z ∷ hs)) m (formed_closed (given a) c.ty (all_given (drop (i + 1) as_)) hs h f r))))

  pub open_step : (as_ : List Argument) (i : ℕ) (a : Argument) (old : List Argument) → i < length as_ → a ≡ get_or as_ i a → is_closed a.ty ≡ false
      → ((hs : List Given) → F (all_given (drop i as_)) hs → F (all_given as_) (all_given old ++ hs)) → (hs : List Given) → F (all_given (drop (i + 1) as_)) hs → F (all_given as_) (all_given old ++ hs)
  open_step as_ i a old lt e h k hs r =
      k hs (subst (λ z. F z hs) (sym (ap all_given (drop_at as_ i a lt e))) (formed_open (given a) (all_given (drop (i + 1) as_)) hs h r))

  pub formed_done : (as_ items : List Argument) (i : ℕ) → drop i as_ ≡ [] → ((hs : List Given) → F (all_given (drop i as_)) hs → F (all_given as_) (all_given items ++ hs)) → F (all_given as_) (all_given items)
  formed_done as_ items i e k = subst (F (all_given as_)) (append-nil (all_given items)) (k [] (subst (λ z. F (all_given z) []) (sym e) formed_end))

  abbrev L : Given → Type 0
  L a = IsTrue (is_closed a.ty) × IsTooLarge ds a.ty

  pub argument_large : (as_ : List Argument) (i : ℕ) (a : Argument) → i < length as_ → a ≡ get_or as_ i a → is_closed a.ty ≡ true → IsTooLarge ds a.ty → HasTooLargeGiven ds (all_given as_)
  argument_large [] i a lt e h l = absurd (omega arith)
  argument_large (x ∷ xs) zero a lt e h l = some_first L (given x) (all_given xs) (subst (λ (z : Argument). L (given z)) e (h, l))
  argument_large (x ∷ xs) (suc i) a lt e h l = some_cons L (given x) (all_given xs) (argument_large xs i a (omega arith) e h l)

  -- arguments within the bounds
  module _ (P : Given → Type 0) where
    pub given_some : (as_ : List Argument) (i : ℕ) (a : Argument) → i < length as_ → a ≡ get_or as_ i a → P (given a) → Some P (all_given as_)
    given_some [] i a lt e p = absurd (omega arith)
    given_some (x ∷ xs) zero a lt e p = some_first P (given x) (all_given xs) (subst (λ (z : Argument). P (given z)) e p)
    given_some (x ∷ xs) (suc i) a lt e p = some_cons P (given x) (all_given xs) (given_some xs i a (omega arith) e p)

    pub given_later : (as_ : List Argument) (i : ℕ) (a : Argument) → i < length as_ → a ≡ get_or as_ i a → (P (given a) → ⊥) → Some P (all_given (drop i as_)) → Some P (all_given (drop (i + 1) as_))
    given_later [] i a lt e h s = absurd (omega arith)
    given_later (x ∷ xs) zero a lt e h s = some_rest P (given x) (all_given xs) (subst (λ (z : Argument). P (given z) → ⊥) e h) s
    given_later (x ∷ xs) (suc i) a lt e h s = rw add-one (rw add-one at (given_later xs i a (omega arith) e h s))
