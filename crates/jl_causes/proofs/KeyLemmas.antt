-- Keys with the same texts.
use Rattle.std.proofs.Common.{◌≡◌, ◌∙◌, sym, refl, ap, ℕ, suc, ◌≤◌, arith, Bool, true, ◌&&◌, nat_eq, nat_lt, List, [], ◌∷◌, ◌++◌, length, map, get_or, Some}
use Rattle.std.specs.List.{list_all, flat_map, AllByRecursion}
use Rattle.std.proofs.lemmas.Option.{same_Some}
use Rattle.std.proofs.lemmas.List.Elements.{recursion_from_All}
use Rattle.jl_model.specs.declared.limits.TheConstants.{MOST_ARGUMENTS, MOST_TYPE_NODES}
use Rattle.jl_model.specs.declared.ty.Decl.{Decl}
use Rattle.jl_model.specs.declared.ty.Key.{Key}
use Rattle.jl_model.specs.declared.ty.Ty.{Ty}
use Rattle.jl_model.specs.declared.ty.Ty.TheViews.{out-Ty, outs-Tuple}
use Rattle.jl_model.specs.declared.ty.Ty.TheViews as V
use Rattle.jl_model.specs.Rows.{vars_in}
use Rattle.jl_model.specs.Valid.{names_in}
use Rattle.jl_program.specs.declared.tree.Program.{Program}
use Rattle.jl_program.specs.Scope.{all_types}
use Rattle.jl_program.specs.Text.{type_text, type_names}
use Rattle.jl_program.specs.Valid.{IsValid}
use Rattle.jl_program.specs.ValidValue.{IsValueType}
use Rattle.jl_calculus.specs.Legal.{IsKeyOf}
use Rattle.jl_causes.specs.KeyTexts.{place_of, tuple_in}
use Rattle.jl_causes.specs.KeyLaws.{KeysApart, TypesAreRead}
use Rattle.jl_causes.proofs.TypeLemmas.{and_both, are_of, AreSmall, tuple_again}
use Rattle.jl_causes.proofs.NameLemmas.{place_again, table_is}

-- ---- the types of a key

length_map : (ds : List Decl) → length (map (λ (d : Decl). d.name) ds) ≡ length ds
length_map [] = refl
length_map (d ∷ ds) = ap suc (length_map ds)

no_vars : (vs : List ℕ) → nat_eq (length vs) 0 ≡ true → vs ≡ []
no_vars [] h = refl
no_vars (v ∷ vs) h = absurd (let n : length (v ∷ vs) ≡ 0 = grind (arith, h) in omega (arith, n))

all_append : (p : ℕ → Bool) (a b : List ℕ) → list_all p a ≡ true → list_all p b ≡ true → list_all p (a ++ b) ≡ true
all_append p [] b h k = k
all_append p (c ∷ a) b h k = let q = and_both (p c) (list_all p a) h in ap (λ z. z && list_all p (a ++ b)) q.0 ∙ all_append p a b q.1 k

module _ (ds : List Decl) where
  known_all : (ts : List Ty) → AllByRecursion (IsValueType ds) ts → are_of (length ds) (flat_map names_in ts) ≡ true
  known_all [] h = refl
  known_all (t ∷ ts) (h, hs) = all_append (λ k. nat_lt k (length ds)) (names_in t) (flat_map names_in ts) h.valid.known (known_all ts hs)

  closed_all : (ts : List Ty) → AllByRecursion (IsValueType ds) ts → flat_map vars_in ts ≡ []
  closed_all [] h = refl
  closed_all (t ∷ ts) (h, hs) = ap (λ z. z ++ flat_map vars_in ts) (no_vars (vars_in t) h.closed) ∙ closed_all ts hs

  small_all : (ts : List Ty) → AllByRecursion (IsValueType ds) ts → AreSmall MOST_TYPE_NODES ts
  small_all [] h = tt
  small_all (t ∷ ts) (h, hs) = (omega (arith, h.small.nodes), small_all ts hs)

-- types that a key may have are read from the text of their tuple
pub types_again : (P : Program) → IsValid P → (ts : List Ty) → length ts ≤ MOST_ARGUMENTS → AllByRecursion (IsValueType (all_types P)) ts
    → tuple_in (type_names P) MOST_ARGUMENTS MOST_TYPE_NODES (type_text P (V.Tuple ts)) ≡ Some ts
types_again P valid ts few each =
    tuple_again P (table_is P valid) ts MOST_ARGUMENTS MOST_TYPE_NODES
    (ap (λ n. are_of n (flat_map names_in ts)) (length_map (all_types P)) ∙ known_all (all_types P) ts each)
    (closed_all (all_types P) ts each) few (small_all (all_types P) ts each)

-- the types of a key of the program are read from their text
pub key_again : (P : Program) → IsValid P → (key : Key) → IsKeyOf P key → tuple_in (type_names P) MOST_ARGUMENTS MOST_TYPE_NODES (type_text P (V.Tuple key.types)) ≡ Some key.types
key_again P valid key h = types_again P valid key.types h.few (recursion_from_All (IsValueType (all_types P)) key.types h.types)

pub types_are_read : TypesAreRead
types_are_read P valid key h = key_again P valid key h

-- ---- keys

number_is : (names : List (List ℕ)) (i j : ℕ) → place_of names (get_or names i []) ≡ Some i → place_of names (get_or names j []) ≡ Some j → get_or names i [] ≡ get_or names j [] → i ≡ j
number_is names i j h k e = same_Some i j (sym h ∙ ap (place_of names) e ∙ k)

pub keys_apart : KeysApart
keys_apart P valid a b ha hb f t =
    let function : a.function ≡ b.function =
    number_is P.functions a.function b.function (place_again P.functions valid.distinct a.function ha.function) (place_again P.functions valid.distinct b.function hb.function) f in
    let types : a.types ≡ b.types =
    same_Some a.types b.types (sym (key_again P valid a ha) ∙ ap (tuple_in (type_names P) MOST_ARGUMENTS MOST_TYPE_NODES) t ∙ key_again P valid b hb) in
    (λ i. record { function = function i; types = types i })
