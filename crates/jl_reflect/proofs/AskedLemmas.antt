-- Functions by their names, and the key as a whole.
use Rattle.std.proofs.Common.{◌≡◌, ◌∙◌, ap, sym, refl, subst, arith, ℕ, zero, suc, ◌+◌, ◌≤◌, ◌<◌, Bool, true, false, not, ◌&&◌, ◌||◌, nat_eq, List, [], ◌∷◌, length, drop, get_or, slice_get, Option, Some, None}
use Rattle.std.specs.List.{All}
use Rattle.std.proofs.lemmas.List.{drop_more, drop_all}
use Rattle.std.proofs.lemmas.Option.{slice_get_within}
use Rattle.jl_model.specs.declared.limits.TheConstants.{MOST_ARGUMENTS}
use Rattle.jl_model.specs.declared.ty.Decl.{Decl}
use Rattle.jl_model.specs.declared.ty.Key.{Key}
use Rattle.jl_model.specs.declared.ty.Ty.{Ty}
use Rattle.jl_model.specs.Refusals.{Declared}
use Rattle.jl_program.specs.declared.tree.Program.{Program}
use Rattle.jl_program.specs.declared.tree.Site.{Site}
use Rattle.jl_program.specs.Names.{same_text, is_among, are_distinct}
use Rattle.jl_program.specs.Scope.{all_types}
use Rattle.jl_program.specs.Valid.{IsValid}
use Rattle.jl_program.specs.ValidValue.{IsValueType}
use Rattle.jl_calculus.specs.Legal.{IsKeyOf}
use Rattle.jl_typeread.specs.declared.tree.TypeText.{TypeText}
use Rattle.jl_reflect.specs.Asked.{is_defined, IsFunction, IsText, Means, AreValueForms, MeansTypes, TypeMeans, TextMeans, MeansKey, Finds}
use Rattle.jl_reflect.proofs.TextSteps.{text_once}
use Rattle.jl_reflect.proofs.FormLemmas.{types_once}

-- ---- functions

same_self : (a : List ℕ) → same_text a a ≡ true
same_self [] = refl
same_self (x ∷ a) = let e : nat_eq x x ≡ true = grind arith in ap (λ b. b && same_text a a) e ∙ same_self a

or_true : (a b : Bool) → b ≡ true → a || b ≡ true
or_true true b h = refl
or_true false b h = h

among : (names : List (List ℕ)) (k : ℕ) (name : List ℕ) → slice_get names k ≡ Some name → is_among name names ≡ true
among [] k name e = absurd (omega (arith, slice_get_within [] k name e))
among (n ∷ ns) zero name e = let same : name ≡ n = cc in ap (λ z. same_text name z || is_among name ns) (sym same) ∙ ap (λ b. b || is_among name ns) (same_self name)
among (n ∷ ns) (suc k) name e = or_true (same_text name n) (is_among name ns) (among ns k name e)

apart : (n : List ℕ) (ns : List (List ℕ)) (k : ℕ) → not (is_among n ns) && are_distinct ns ≡ true → slice_get ns k ≡ Some n → ⊥
apart n ns k d e = by (is_among n ns) (among ns k n e) d
  where
    by : (b : Bool) → b ≡ true → not b && are_distinct ns ≡ true → ⊥
    by true h z = cc
    by false h z = cc

rest_distinct : (a b : Bool) → a && b ≡ true → b ≡ true
rest_distinct true b h = h
rest_distinct false b h = absurd cc

name_once : (names : List (List ℕ)) → are_distinct names ≡ true → (name : List ℕ) (j k : ℕ) → slice_get names j ≡ Some name → slice_get names k ≡ Some name → j ≡ k
name_once [] d name j k e f = absurd (omega (arith, slice_get_within [] j name e))
name_once (n ∷ ns) d name zero zero e f = refl
name_once (n ∷ ns) d name zero (suc k) e f = let same : n ≡ name = cc in absurd (apart n ns k d (f ∙ ap (λ z. Some z) (sym same)))
name_once (n ∷ ns) d name (suc j) zero e f = let same : n ≡ name = cc in absurd (apart n ns j d (e ∙ ap (λ z. Some z) (sym same)))
name_once (n ∷ ns) d name (suc j) (suc k) e f = ap suc (name_once ns (rest_distinct (not (is_among n ns)) (are_distinct ns) d) name j k e f)

-- a site of another function
pub site_passed : (sites : List Site) (i : ℕ) (site : Site) (f : ℕ) → i < length sites → get_or sites i site ≡ site → (site.function ≡ f → ⊥) → is_defined f (drop i sites) ≡ true → is_defined f (drop (i + 1) sites) ≡ true
site_passed sites i site f l e other h =
    let cut : drop i sites ≡ site ∷ drop (i + 1) sites = drop_more sites i site l ∙ ap (λ z. z ∷ drop (i + 1) sites) e in
    by (nat_eq site.function f) refl (sym (ap (is_defined f) cut) ∙ h)
  where
    by : (b : Bool) → nat_eq site.function f ≡ b → b || is_defined f (drop (i + 1) sites) ≡ true → is_defined f (drop (i + 1) sites) ≡ true
    by true q z = let same : site.function ≡ f = grind (arith, q) in absurd (other same)
    by false q z = z

-- the site of a function
pub site_found : (sites : List Site) (i : ℕ) (site : Site) → i < length sites → get_or sites i site ≡ site → is_defined site.function sites ≡ true
site_found [] i site l e = absurd (omega (arith, l))
site_found (s ∷ sites) zero site l e = let same : nat_eq s.function site.function ≡ true = grind (arith, ap (λ (z : Site). z.function) e) in ap (λ b. b || is_defined site.function sites) same
site_found (s ∷ sites) (suc i) site l e = or_true (nat_eq s.function site.function) (is_defined site.function sites) (site_found sites i site (omega (arith, l)) e)

pub no_site : (sites : List Site) (i f : ℕ) → length sites ≤ i → is_defined f (drop i sites) ≡ true → ⊥
no_site sites i f l h = let none : false ≡ true = sym (ap (is_defined f) (drop_all i sites l)) ∙ h in cc

-- ---- types

module _ (ds : List Decl) where
  pub type_found : (text : TypeText) (t : Ty) → Means ds text t → (o : Option (List Ty)) → Finds (MeansTypes ds t) o → Finds (TypeMeans ds text) o
  type_found text t m None h = λ us n. h us (subst (λ z. MeansTypes ds z us) (n.means.is ∙ sym m.is) n.types)
  type_found text t m (Some us) h = record { type = t; means = m; types = h }

  pub text_found : (bytes : List ℕ) (text : TypeText) → IsText bytes text → (o : Option (List Ty)) → Finds (TypeMeans ds text) o → Finds (TextMeans ds bytes) o
  text_found bytes text i None h = λ us m. h us (subst (λ z. TypeMeans ds z us) (text_once bytes m.written text m.read i) m.means)
  text_found bytes text i (Some us) h = record { written = text; read = i; means = h }

  text_types_once : Declared ds → (bytes : List ℕ) (us vs : List Ty) → TextMeans ds bytes us → TextMeans ds bytes vs → us ≡ vs
  text_types_once declared bytes us vs m n =
      let text : n.written ≡ m.written = text_once bytes n.written m.written n.read m.read in
      let same : TypeMeans ds m.written vs = subst (λ z. TypeMeans ds z vs) text n.means in
      types_once ds declared m.means.type us vs m.means.types (subst (λ z. MeansTypes ds z vs) (same.means.is ∙ sym m.means.means.is) same.types)

  forms_length : (ts us : List Ty) → AreValueForms ds ts us → length us ≡ length ts
  forms_length [] [] h = refl
  forms_length [] (u ∷ us) h = absurd h
  forms_length (t ∷ ts) [] h = absurd h
  forms_length (t ∷ ts) (u ∷ us) h = ap suc (forms_length ts us h.1)

  forms_values : (ts us : List Ty) → AreValueForms ds ts us → All (IsValueType ds) us
  forms_values ts [] h k d l = absurd (omega (arith, l))
  forms_values [] (u ∷ us) h k d l = absurd h
  forms_values (t ∷ ts) (u ∷ us) h zero d l = h.0.value
  forms_values (t ∷ ts) (u ∷ us) h (suc k) d l = forms_values ts us h.1 k d (omega (arith, l))

-- ---- the key

module _ (P : Program) (name text : List ℕ) where
  pub key_found : (f : ℕ) → IsFunction P name f → (us : List Ty) → TextMeans (all_types P) text us → MeansKey P name text (record { function = f; types = us })
  key_found f h us m = record { function = h; types = m }

  pub key_once : IsValid P → (a b : Key) → MeansKey P name text a → MeansKey P name text b → a ≡ b
  key_once valid a b m n =
      let f : a.function ≡ b.function = name_once P.functions valid.distinct name a.function b.function m.function.named n.function.named in
      let ts : a.types ≡ b.types = text_types_once (all_types P) valid.decls text a.types b.types m.types n.types in
      λ i. record { function = f i; types = ts i }

  pub key_proper : (key : Key) → MeansKey P name text key → IsKeyOf P key
  key_proper key m =
      let t = m.types.means.types in
      record {
        function = slice_get_within P.functions key.function name m.function.named;
        few = subst (λ n. n ≤ MOST_ARGUMENTS) (sym (forms_length (all_types P) t.parts key.types t.types.each)) t.types.few;
        types = forms_values (all_types P) t.parts key.types t.types.each;
      }
