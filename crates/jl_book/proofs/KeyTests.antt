-- The test of keys that is derived is whether they are the same.
use Rattle.std.proofs.Common.{◌≡◌, ◌∙◌, refl, sym, ap, subst, ℕ, arith, Bool, true, false, ◌&&◌, nat_eq, List, [], ◌∷◌, inl, inr}
use Rattle.std.specs.Cmp.Lexicographic.{pointwise}
use Rattle.jl_model.specs.declared.ty.Key.{Key}
use Rattle.jl_model.specs.declared.ty.Ty.{Ty}
use Rattle.jl_model.specs.contracts.ty.Ty.{the_parts, as_values, the_make, the_eta, the_beta}
use Rattle.jl_model.specs.contracts.ty.TyPartialEq.TheImpl as ty
use Rattle.jl_model.specs.contracts.ty.TyPartialEq.TheImpl.Laws as laws
use Rattle.jl_model.specs.contracts.ty.KeyPartialEq.TheImpl as key
use Rattle.jl_model.specs.contracts.ty.KeyEq.TheImpl.Laws as key_laws
use Rattle.jl_model.proofs.TypeInduction.{Each, by_cases}
use denote.Enum.Compared.{Each as Tests, by}
use denote.Enum.Declared.{Choice}
use denote.Struct.Field.{Field}
use denote.Struct.Values.{Values}

first : (s t : Bool) → (s && t) ≡ true → s ≡ true
first true t h = refl
first false t h = absurd cc

second : (s t : Bool) → (s && t) ≡ true → t ≡ true
second true t h = h
second false t h = absurd cc

numbers_same : (m n : ℕ) → nat_eq m n ≡ true → m ≡ n
numbers_same m n h = grind (arith, h)

-- the test of the variant that was chosen holds only of equal values
abbrev AreTold : (Fss : List (List Field)) → Tests Bool Fss → Choice Fss → Type 0
AreTold [] each c = Unit {0}
AreTold (Fs ∷ Fss) each (inl x) = (y : Values Fs) → each.0 x y ≡ true → x ≡ y
AreTold (Fs ∷ Fss) each (inr c) = AreTold Fss each.1 c

choices_same : (Fss : List (List Field)) (each : Tests Bool Fss) (c d : Choice Fss) → AreTold Fss each c → by false false Fss each c d ≡ true → c ≡ d
choices_same [] each c d s h = absurd c
choices_same (Fs ∷ Fss) each (inl x) (inl y) s h = ap inl (s y h)
choices_same (Fs ∷ Fss) each (inl x) (inr y) s h = absurd (let f : false ≡ true = h in cc)
choices_same (Fs ∷ Fss) each (inr x) (inl y) s h = absurd (let f : false ≡ true = h in cc)
choices_same (Fs ∷ Fss) each (inr x) (inr y) s h = ap inr (choices_same Fss each.1 x y s h)

-- the test of types
abbrev test : Ty → Ty → Bool
test = ty.ghosts.eq

abbrev IsTold : Ty → Type 0
IsTold t = (u : Ty) → test t u ≡ true → t ≡ u

all_same : (ts us : List Ty) → Each IsTold ts → pointwise test ts us ≡ true → ts ≡ us
all_same [] [] each h = refl
all_same [] (u ∷ us) each h = absurd (let f : false ≡ true = h in cc)
all_same (t ∷ ts) [] each h = absurd (let f : false ≡ true = h in cc)
all_same (t ∷ ts) (u ∷ us) each h = λ i. each.0 u (first (test t u) (pointwise test ts us) h) i ∷ all_same ts us each.1 (second (test t u) (pointwise test ts us) h) i

abbrev tests : Tests Bool the_parts
tests = (λ a b. true, (λ a b. pointwise test a.0 b.0, (λ a b. pointwise test a.0 b.0, (λ a b. nat_eq a.0 b.0 && pointwise test a.1.0 b.1.0, (λ a b. nat_eq a.0 b.0, tt)))))

told : (c : Choice the_parts) → AreTold the_parts tests c → IsTold (the_make c)
told c s u h =
    let is : by false false the_parts tests (as_values (the_make c)) (as_values u) ≡ true = sym (laws.is (the_make c) u) ∙ h in
    let at : as_values (the_make c) ≡ as_values u = choices_same the_parts tests (as_values (the_make c)) (as_values u) (subst (AreTold the_parts tests) (sym (the_beta c)) s) is in
    sym (the_eta (the_make c)) ∙ ap the_make at ∙ the_eta u

types_same : (t : Ty) → IsTold t
types_same = by_cases IsTold (record {
  any = told (inl tt) (λ y h. refl);
  union = λ ts each. told (inr (inl (ts, tt))) (λ y h. λ i. (all_same ts y.0 each h i, tt));
  tuple = λ ts each. told (inr (inr (inl (ts, tt)))) (λ y h. λ i. (all_same ts y.0 each h i, tt));
  nominal = λ n ts each. told (inr (inr (inr (inl (n, (ts, tt)))))) (λ y h. λ i. (numbers_same n y.0 (first (nat_eq n y.0) (pointwise test ts y.1.0) h) i, (all_same ts y.1.0 each (second (nat_eq n y.0) (pointwise test ts y.1.0) h) i, tt)));
  var = λ n. told (inr (inr (inr (inr (inl (n, tt)))))) (λ y h. λ i. (numbers_same n y.0 h i, tt));
})

lists_same : (ts : List Ty) → Each IsTold ts
lists_same [] = tt
lists_same (t ∷ ts) = (types_same t, lists_same ts)

-- the test of keys
abbrev pub key_test : Key → Key → Bool
key_test = key.ghosts.eq

pub keys_same : (k l : Key) → key_test k l ≡ true → k ≡ l
keys_same k l h = λ i. record {
  function = numbers_same k.function l.function (first (nat_eq k.function l.function) (pointwise test k.types l.types) h) i;
  types = all_same k.types l.types (lists_same k.types) (second (nat_eq k.function l.function) (pointwise test k.types l.types) h) i;
}

pub key_own : (k : Key) → key_test k k ≡ true
key_own k = key_laws.laws-law.refl k
