-- The key that two texts name.
use Rattle.std.proofs.Common.{◌≡◌, ◌∙◌, sym, refl, ap, ℕ, suc, ◌<◌, arith, Bool, true, false, cond, List, [], ◌∷◌, length, get_or, bytes_eq, Option, None, Some}
use Rattle.std.proofs.lemmas.Slice.Eq.{bytes_eq-Decides}
use Rattle.std.proofs.lemmas.List.Elements.{All-from_recursion, recursion_from_All}
use Rattle.jl_model.specs.declared.ty.Key.{Key}
use Rattle.jl_model.specs.declared.ty.Ty.{Ty}
use Rattle.jl_program.specs.declared.tree.Program.{Program}
use Rattle.jl_program.specs.Scope.{all_types}
use Rattle.jl_program.specs.Valid.{IsValid}
use Rattle.jl_program.specs.ValidValue.{IsValueType}
use Rattle.jl_calculus.specs.Legal.{IsKeyOf}
use Rattle.jl_causes.specs.Sketch.{Names}
use Rattle.jl_causes.specs.Judged.{IsReadAs}
use Rattle.jl_causes.specs.KeyTypes.{AreKeyTypes, AreFound}
use Rattle.jl_causes.specs.KeyTexts.{after, place_of}
use Rattle.jl_causes.proofs.NameLemmas.{place_again}
use Rattle.jl_causes.proofs.KeyLemmas.{keys_apart}

-- a place that is found has the name
pub place_has : (names : List (List ℕ)) (name : List ℕ) (k : ℕ) → place_of names name ≡ Some k → (k < length names) × (get_or names k [] ≡ name)
place_has [] name k h = absurd (cc h)
place_has (n ∷ ns) name k h = by (bytes_eq name n) refl (place_of ns name) refl (place_has ns name)
  where
    by : (b : Bool) → bytes_eq name n ≡ b → (o : Option ℕ) → place_of ns name ≡ o → ((j : ℕ) → place_of ns name ≡ Some j → (j < length ns) × (get_or ns j [] ≡ name)) → (k < suc (length ns)) × (get_or (n ∷ ns) k [] ≡ name)
    by true e o f rest =
        let is : Some 0 ≡ Some k = sym (ap (λ b. cond b (Some 0) (after (place_of ns name))) e) ∙ h in
        let zero_is : 0 ≡ k = cc in
        (omega (arith, zero_is), ap (λ j. get_or (n ∷ ns) j []) (sym zero_is) ∙ sym ((bytes_eq-Decides name n).0 e))
    by false e None f rest =
        let is : None ≡ Some k = sym (ap after f) ∙ sym (ap (λ b. cond b (Some 0) (after (place_of ns name))) e) ∙ h in
        absurd (cc is)
    by false e (Some j) f rest =
        let is : Some (suc j) ≡ Some k = sym (ap after f) ∙ sym (ap (λ b. cond b (Some 0) (after (place_of ns name))) e) ∙ h in
        let next : suc j ≡ k = cc in
        let q = rest j f in
        (omega (arith, next, q.0), ap (λ i. get_or (n ∷ ns) i []) (sym next) ∙ q.1)

module _ (P : Program) (valid : IsValid P) (function tuple : List ℕ) where
  key_types : (key : Key) → Names P function tuple key → AreKeyTypes P tuple key.types
  key_types key n = record { few = n.proper.few; each = recursion_from_All (IsValueType (all_types P)) key.types n.proper.types; spelled = n.by_types }

  pub no_function : place_of P.functions function ≡ None → IsReadAs P function tuple None
  no_function none = λ key n.
      let again : place_of P.functions function ≡ Some key.function = ap (place_of P.functions) (sym n.by_function) ∙ place_again P.functions valid.distinct key.function n.proper.function in
      let clash : None ≡ Some key.function = sym none ∙ again in
      cc

  pub no_types : AreFound P tuple None → IsReadAs P function tuple None
  no_types none = λ key n. none key.types (key_types key n)

  pub named : (number : ℕ) (ts : List Ty) → place_of P.functions function ≡ Some number → AreFound P tuple (Some ts) → IsReadAs P function tuple (Some (record { function = number; types = ts }))
  named number ts at found =
      let place = place_has P.functions function number at in
      let key : Key = record { function = number; types = ts } in
      let proper : IsKeyOf P key = record { function = place.0; few = found.few; types = All-from_recursion (IsValueType (all_types P)) ts found.each } in (
        record { proper = proper; by_function = place.1; by_types = found.spelled },
        (λ other n. keys_apart P valid other key n.proper proper (n.by_function ∙ sym place.1) (n.by_types ∙ sym found.spelled)),
      )
