-- Tests of a list of types, put together.
use Rattle.std.proofs.Common.{◌≡◌, ◌∙◌, sym, refl, ap, subst, ℕ, ◌+◌, ◌<◌, ◌≤◌, inl, inr, arith, Bool, true, false, ◌&&◌, IsTrue, List, [], ◌∷◌, length, drop, get_or, Option, Some, None}
use Rattle.std.specs.Prelude.{◌↔◌}
use Rattle.std.specs.Bool.{Decides}
use Rattle.std.specs.List.{list_all, AllByRecursion}
use Rattle.std.proofs.lemmas.List.{drop_more, drop_all}
use Rattle.jl_model.specs.declared.limits.TheConstants.{MOST_ARGUMENTS, MOST_TYPE_NODES}
use Rattle.jl_model.specs.declared.ty.Decl.{Decl}
use Rattle.jl_model.specs.declared.ty.Ty.{Ty}
use Rattle.jl_model.specs.Ancestors.{table_of}
use Rattle.jl_model.specs.Counts.{IsWithinLimits, nodes}
use Rattle.jl_model.specs.Normal.{IsNormal, IsNormalForm}
use Rattle.jl_model.specs.Refusals.{Declared}
use Rattle.jl_model.specs.Valid.{is_known, is_counted, is_closed}
use Rattle.jl_model.proofs.DeclaredLemmas.{declared_lawful}
use Rattle.jl_model.proofs.NormalLemmas.{normal_same}
use Rattle.jl_model.proofs.SelfLemmas.{equal_self}
use Rattle.jl_types.specs.Form.{IsTooLarge}
use Rattle.jl_program.specs.declared.tree.Program.{Program}
use Rattle.jl_program.specs.Text.{type_names}
use Rattle.jl_program.specs.Valid.{IsValid}
use Rattle.jl_program.specs.ValidValue.{IsValueType}
use Rattle.jl_causes.specs.KeyTypes.{IsKept, AreKeyTypes, AreFound, AreTaken}
use Rattle.jl_causes.specs.KeyTexts.{tuple_in}
use Rattle.jl_causes.proofs.TypeLemmas.{and_both}
use Rattle.jl_causes.proofs.KeyLemmas.{types_again}

-- ---- a test that says no

pub no_of : {A : Type 0} → (A → ⊥) → Decides false A
no_of h = ((λ yes. absurd (cc yes)), (λ a. absurd (h a)))

pub fails_with : (b c : Bool) → b ≡ c → b ≡ false → c ≡ true → ⊥
fails_with b c e f g = let z : true ≡ false = sym g ∙ sym e ∙ f in cc

-- ---- normal

pub normal_by : (ds : List Decl) → Declared ds → (t u : Ty) (b : Bool) → IsNormalForm (table_of ds) t u → (IsTrue b ↔ (u ≡ t)) → Decides b (IsNormal (table_of ds) t)
normal_by ds d t u b f h = (
  (λ yes. subst (IsNormal (table_of ds)) (h.0 yes) f.normal),
  (λ n. h.1 (normal_same (table_of ds) (declared_lawful ds d) u f.normal t n (f.equal.1, f.equal.0))),
)

-- a type within the limits is not too large for a normal form where it is one
pub large_not_normal : (ds : List Decl) (t : Ty) → IsWithinLimits t → IsTooLarge ds t → IsNormal (table_of ds) t → ⊥
large_not_normal ds t small (inl not_small) n = not_small small
large_not_normal ds t small (inr large) n =
    let more : MOST_TYPE_NODES < nodes t = large t (record { normal = n; equal = equal_self (table_of ds) t }) in
    omega (arith, more, small.nodes)

-- ---- of each type

-- one more from the rest
pub rest_more : {X : Type 0} (Q : X → Type 0) (xs : List X) (i : ℕ) (x : X) → i < length xs → get_or xs i x ≡ x → Q x → (AllByRecursion Q (drop i xs) → AllByRecursion Q xs) → AllByRecursion Q (drop (i + 1) xs) → AllByRecursion Q xs
rest_more Q xs i x l is h so_far rest =
    let cut : drop i xs ≡ x ∷ drop (i + 1) xs = drop_more xs i x l ∙ ap (λ z. z ∷ drop (i + 1) xs) is in
    so_far (subst (AllByRecursion Q) (sym cut) (h, rest))

pub rest_none : {X : Type 0} (Q : X → Type 0) (xs : List X) (i : ℕ) → length xs ≤ i → (AllByRecursion Q (drop i xs) → AllByRecursion Q xs) → AllByRecursion Q xs
rest_none Q xs i l so_far = so_far (subst (AllByRecursion Q) (sym (drop_all i xs l)) tt)

module _ (ds : List Decl) where
  pub value_types : (ts : List Ty) → list_all (is_known (length ds)) ts ≡ true → list_all (is_counted ds) ts ≡ true → list_all is_closed ts ≡ true → AllByRecursion (IsKept ds) ts → AllByRecursion (IsValueType ds) ts
  value_types [] k c o h = tt
  value_types (t ∷ ts) k c o (h, hs) =
      let ks = and_both (is_known (length ds) t) (list_all (is_known (length ds)) ts) k in
      let cs = and_both (is_counted ds t) (list_all (is_counted ds) ts) c in
      let os = and_both (is_closed t) (list_all is_closed ts) o in (
        record { normal = h.normal; valid = record { known = ks.0; counted = cs.0 }; closed = os.0; concrete = h.concrete; small = h.small },
        value_types ts ks.1 cs.1 os.1 hs,
      )

  both : (a b : Bool) → a ≡ true → b ≡ true → a && b ≡ true
  both a b h k = ap (λ z. z && b) h ∙ k

  pub values_known : (ts : List Ty) → AllByRecursion (IsValueType ds) ts → list_all (is_known (length ds)) ts ≡ true
  values_known [] h = refl
  values_known (t ∷ ts) (h, hs) = both (is_known (length ds) t) (list_all (is_known (length ds)) ts) h.valid.known (values_known ts hs)

  pub values_counted : (ts : List Ty) → AllByRecursion (IsValueType ds) ts → list_all (is_counted ds) ts ≡ true
  values_counted [] h = refl
  values_counted (t ∷ ts) (h, hs) = both (is_counted ds t) (list_all (is_counted ds) ts) h.valid.counted (values_counted ts hs)

  pub values_closed : (ts : List Ty) → AllByRecursion (IsValueType ds) ts → list_all is_closed ts ≡ true
  values_closed [] h = refl
  values_closed (t ∷ ts) (h, hs) = both (is_closed t) (list_all is_closed ts) h.closed (values_closed ts hs)

-- ---- the types of a text

module _ (P : Program) (text : List ℕ) (valid : IsValid P) where
  read_so : (ts : List Ty) → AreKeyTypes P text ts → tuple_in (type_names P) MOST_ARGUMENTS MOST_TYPE_NODES text ≡ Some ts
  read_so ts k = ap (tuple_in (type_names P) MOST_ARGUMENTS MOST_TYPE_NODES) (sym k.spelled) ∙ types_again P valid ts k.few k.each

  -- nothing is read
  pub read_none : tuple_in (type_names P) MOST_ARGUMENTS MOST_TYPE_NODES text ≡ None → AreFound P text None
  read_none none = λ ts k. (let clash : None ≡ Some ts = sym none ∙ read_so ts k in cc)

  pub read_some : (us : List Ty) (found : Option (List Ty)) → tuple_in (type_names P) MOST_ARGUMENTS MOST_TYPE_NODES text ≡ Some us → AreTaken P text us found → AreFound P text found
  read_some us (Some ts) is h = h
  read_some us None is h = λ ts k. (let same : ts ≡ us = cc (sym (read_so ts k) ∙ is) in h (subst (AreKeyTypes P text) same k))

-- the test with the number of types of the table
pub known_of : (ds : List Decl) (ts : List Ty) (n : ℕ) (b : Bool) → n ≡ length ds → b ≡ list_all (is_known n) ts → b ≡ list_all (is_known (length ds)) ts
known_of ds ts n b e h = h ∙ ap (λ m. list_all (is_known m) ts) e
