-- Each question of the rules has at most one answer.
use Rattle.std.proofs.Common.{◌≡◌, ◌∙◌, refl, sym, ap, subst, ℕ, zero, suc, ◌<◌, arith, Bool, true, false, inl, inr, nat_lt, List, [], ◌∷◌, map, length, take, get_or, Some, slice_get, IsTrue}
use Rattle.jl_model.specs.declared.ty.Ty.{Ty}
use Rattle.jl_model.specs.declared.ty.Ty.TheVariants as W
use Rattle.jl_model.specs.declared.ty.Decl.{Decl}
use Rattle.jl_model.specs.declared.ty.Written.{Written}
use Rattle.jl_model.specs.Ancestors.{table_of}
use Rattle.jl_model.specs.Kept.{Settled}
use Rattle.jl_model.specs.Normal.{IsNormalForm}
use Rattle.jl_model.specs.Refusals.{Declared}
use Rattle.jl_model.specs.Signature.{Both, both_more}
use Rattle.jl_model.specs.Subtype.{opaque, Below}
use Rattle.jl_model.proofs.DeclaredLemmas.{declared_lawful}
use Rattle.jl_model.proofs.NormalLemmas.{normal_same}
use Rattle.jl_model.proofs.TransLemmas.{equal_trans}
use Rattle.jl_types.proofs.KeptOnceLemmas.{settled_same}
use Rattle.jl_program.specs.declared.fault.Fault.{Fault}
use Rattle.jl_program.specs.declared.fault.Fault.TheVariants as F
use Rattle.jl_program.specs.declared.value.Value.{Value}
use Rattle.jl_program.specs.declared.value.Value.TheVariants as V
use Rattle.jl_program.specs.Making.{IsFirstOther}
use Rattle.jl_program.specs.TypeOf.{type_of}
use Rattle.jl_program.specs.ValidValue.{fields_in}
use Rattle.jl_calculus.specs.declared.history.Outcome.TheVariants as O
use Rattle.jl_calculus.specs.Answers.{Refusal, Answer, fault_where, refuse, give, tell, IsSingle}
use Rattle.jl_calculus.specs.Statics.{IsFirstBroken, is_bad_parameter}
use Rattle.jl_calculus.specs.Operations.{fields_at, within_limits, make_tuple, is_field_type, make_struct, with_type, make_written, make_inferred, test_type, test_order, test_same}

-- a row has at most one fault
abbrev IsOneFault : Refusal → Type 0
IsOneFault row = (e f : Fault) → row e → row f → e ≡ f

pub fault_once : (e : Fault) (A : Type 0) → IsOneFault (fault_where e A)
fault_once e A f g h k = h.0 ∙ sym k.0

pub refuse_once : (row : Refusal) (rest : Answer) → IsOneFault row → IsSingle rest → IsSingle (refuse row rest)
refuse_once row rest one single o p (inl (e, h, i)) (inl (f, k, j)) = i ∙ ap O.Error (one e f h k) ∙ sym j
refuse_once row rest one single o p (inl (e, h, i)) (inr (none, k)) = absurd (none e h)
refuse_once row rest one single o p (inr (none, k)) (inl (e, h, i)) = absurd (none e h)
refuse_once row rest one single o p (inr (none, h)) (inr (neither, k)) = single o p h k

pub give_once : (v : Value) → IsSingle (give v)
give_once v o p h k = h ∙ sym k

same_truth : (A : Type 0) (b c : Bool) → (IsTrue b → A) → (A → IsTrue b) → (IsTrue c → A) → (A → IsTrue c) → b ≡ c
same_truth A true c f g h k = sym (k (f refl))
same_truth A false true f g h k = g (h refl)
same_truth A false false f g h k = refl

pub tell_once : (A : Type 0) → IsSingle (tell A)
tell_once A o p (b, i, e) (c, j, f) = e ∙ ap (λ (t : Bool). O.Value (V.Bool t)) (same_truth A b c i.0 i.1 j.0 j.1) ∙ sym f

-- two places that are each the first are one
same_place : (i j : ℕ) → (i < j → ⊥) → (j < i → ⊥) → i ≡ j
same_place i j h k = cases (nat_lt i j) refl (nat_lt j i) refl
  where
    cases : (b : Bool) → nat_lt i j ≡ b → (c : Bool) → nat_lt j i ≡ c → i ≡ j
    cases true p c q = absurd (h (grind (arith, p)))
    cases false p true q = absurd (k (grind (arith, q)))
    cases false p false q = grind (arith, p, q)

same_some : (t u : Ty) → Some t ≡ Some u → t ≡ u
same_some t u e = cc

module _ (ds : List Decl) where
  broken_once : (ts : List Ty) (t u : Ty) → IsFirstBroken ds ts t → IsFirstBroken ds ts u → t ≡ u
  broken_once ts t u h k =
      let e : h.place ≡ k.place = same_place h.place k.place (λ l. k.first h.place t l h.there h.broken) (λ l. h.first k.place u l k.there k.broken) in
      same_some t u (sym h.there ∙ ap (slice_get ts) e ∙ k.there)

  bad_once : Declared ds → (ts : List Ty) → IsOneFault (is_bad_parameter ds ts)
  bad_once d ts e f (t, u, h, s, i) (x, y, k, r, j) =
      let same : t ≡ x = broken_once ts t x h k in
      let shown : u ≡ y = settled_same (table_of ds) (declared_lawful ds d) x u y (subst (λ z. Settled (table_of ds) z u) same s) r in
      i ∙ ap F.BadParameter shown ∙ sym j

  -- what stands at a place of two lists that agree one by one
  at_place : (R : Ty → Ty → Type 0) (ts us : List Ty) (i j : ℕ) → i < j → i < length us → Both R (take j ts) (take j us) → R (get_or ts i W.Any) (get_or us i W.Any)
  at_place R ts [] i j l m h = absurd (omega (arith, m))
  at_place R ts (u ∷ us) i zero l m h = absurd (omega (arith, l))
  at_place R [] (u ∷ us) i (suc j) l m h = elim h [ ]
  at_place R (t ∷ ts) (u ∷ us) zero (suc j) l m (both_more x y xs ys p q) = p
  at_place R (t ∷ ts) (u ∷ us) (suc i) (suc j) l m (both_more x y xs ys p q) = at_place R ts us i j (omega (arith, l)) (omega (arith, m)) q

  other_once : (ts us : List Ty) (i j : ℕ) → IsFirstOther ds ts us i → IsFirstOther ds ts us j → i ≡ j
  other_once ts us i j h k =
      same_place i j (λ l. h.other (at_place (Below (table_of ds) opaque) ts us i j l h.inside k.before)) (λ l. k.other (at_place (Below (table_of ds) opaque) ts us j i l k.inside h.before))

  field_once : (t : Ty) (vs : List Value) → IsOneFault (is_field_type ds t vs)
  field_once t vs e f (i, h, p) (j, k, q) =
      let same : i ≡ j = other_once (map type_of vs) (fields_in ds t) i j h k in
      p ∙ ap (λ (n : ℕ). F.FieldType t (get_or (map (λ x. x.name) (fields_at ds t)) n []) (get_or (map type_of vs) n W.Any)) same ∙ sym q

  pub limits_once : (v : Value) → IsSingle (within_limits ds v)
  limits_once v = refuse_once _ _ (fault_once _ _) (give_once v)

  pub tuple_once : (vs : List Value) → IsSingle (make_tuple ds vs)
  tuple_once vs = refuse_once _ _ (fault_once _ _) (limits_once _)

  pub struct_once : (t : Ty) (vs : List Value) → IsSingle (make_struct ds t vs)
  struct_once t vs = refuse_once _ _ (fault_once _ _) (refuse_once _ _ (field_once t vs) (limits_once _))

  pub inferred_once : (name : ℕ) (vs : List Value) → IsSingle (make_inferred ds name vs)
  inferred_once name vs = refuse_once _ _ (fault_once _ _) (refuse_once _ _ (fault_once _ _) (limits_once _))

  module _ (d : Declared ds) where
    form_once : (t m o : Ty) → IsNormalForm (table_of ds) t m → IsNormalForm (table_of ds) t o → m ≡ o
    form_once t m o h k =
        let law = declared_lawful ds d in
        normal_same (table_of ds) law m h.normal o k.normal (equal_trans (table_of ds) law m t o (h.equal.1, h.equal.0) k.equal)

    made_once : (t : Ty) (vs : List Value) → IsSingle (λ o. (m : Ty) × IsNormalForm (table_of ds) t m × make_struct ds m vs o)
    made_once t vs o p (m, h, i) (l, k, j) =
        let same : m ≡ l = form_once t m l h k in
        struct_once l vs o p (subst (λ z. make_struct ds z vs o) same i) j

    type_once : (t : Written) (rest : Answer) → IsSingle rest → IsSingle (with_type ds t rest)
    type_once t rest single = refuse_once _ _ (fault_once _ _) (refuse_once _ _ (bad_once d _) single)

    pub written_once : (statics : List Ty) (t : Written) (vs : List Value) → IsSingle (make_written ds statics t vs)
    written_once statics t vs = type_once _ _ (refuse_once _ _ (fault_once _ _) (made_once _ vs))

    pub test_once : (statics : List Ty) (v : Value) (t : Written) → IsSingle (test_type ds statics v t)
    test_once statics v t = type_once _ _ (tell_once _)

    pub order_once : (statics : List Ty) (t u : Written) → IsSingle (test_order ds statics t u)
    order_once statics t u = refuse_once _ _ (fault_once _ _) (refuse_once _ _ (bad_once d _) (tell_once _))

pub same_once : (negated : Bool) (u v : Value) → IsSingle (test_same negated u v)
same_once negated u v = tell_once _
