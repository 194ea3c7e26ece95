-- Arguments that are judged one by one.
use Rattle.std.proofs.Common.{◌≡◌, ◌∙◌, sym, ap, subst, refl, zero, suc, arith, Bool, true, false, ◌||◌, ◌⊎◌, List, [], ◌∷◌, ◌++◌, inl, inr}
use Rattle.std.specs.List.{Contains}
use Rattle.std.proofs.lemmas.List.Elements.{Contains-append_cases}
use Rattle.jl_model.specs.declared.ty.Decl.{Decl}
use Rattle.jl_model.specs.Valid.{is_closed}
use Rattle.jl_model.specs.Refusals.{table_with, Given, Between, HasLargeForm}
use Rattle.jl_norm.specs.Judged.{SomeLarge, HasSmallForm, Judged, IsJudged, bound_at}

contains_left : (gs hs : List Given) (a : Given) → Contains gs a → Contains (gs ++ hs) a
contains_left [] hs a c = absurd (omega (arith, c.1))
contains_left (g ∷ gs) hs a (zero, l, e) = (zero, omega arith, e)
contains_left (g ∷ gs) hs a (suc i, l, e) = let r = contains_left gs hs a (i, omega arith, e) in (suc r.0, omega (arith, r.1), r.2)

contains_right : (gs hs : List Given) (a : Given) → Contains hs a → Contains (gs ++ hs) a
contains_right [] hs a c = c
contains_right (g ∷ gs) hs a c = let r = contains_right gs hs a c in (suc r.0, omega (arith, r.1), r.2)

contains_one : (a b : Given) → Contains (a ∷ []) b → a ≡ b
contains_one a b (zero, l, e) = e
contains_one a b (suc i, l, e) = absurd (omega arith)

or_true : (b c : Bool) → (b || c) ≡ true → (b ≡ true) ⊎ (c ≡ true)
or_true true c e = inl refl
or_true false c e = inr e

or_left : (b c : Bool) → (b || c) ≡ false → b ≡ false
or_left true c e = e
or_left false c e = refl

or_right : (b c : Bool) → (b || c) ≡ false → c ≡ false
or_right true c e = let f : true ≡ false = e in cc
or_right false c e = e

module _ (ds : List Decl) (d : Decl) where
  pub judged_none : Judged ds d [] false
  judged_none = record {
    small = λ a c q. absurd (omega (arith, c.1));
    outside = λ e. let f : false ≡ true = e in cc;
    inside = λ e a c q. absurd (omega (arith, c.1));
  }

  pub judged_join : (gs hs : List Given) (b c : Bool) → Judged ds d gs b → Judged ds d hs c → Judged ds d (gs ++ hs) (b || c)
  judged_join gs hs b c p q = record {
    small = λ a i k. elim (Contains-append_cases gs hs a i) [ inl l ↦ p.small a l k | inr r ↦ q.small a r k ];
    outside = λ e. elim (or_true b c e) [
      | inl f ↦ (let o = p.outside f in (o.0, contains_left gs hs o.0 o.1, o.2, o.3))
      | inr f ↦ (let o = q.outside f in (o.0, contains_right gs hs o.0 o.1, o.2, o.3))
    ];
    inside = λ e a i k. elim (Contains-append_cases gs hs a i) [ inl l ↦ p.inside (or_left b c e) a l k | inr r ↦ q.inside (or_right b c e) a r k ];
  }

  pub large_left : (gs hs : List Given) → SomeLarge ds d gs → SomeLarge ds d (gs ++ hs)
  large_left gs hs l = (l.0, contains_left gs hs l.0 l.1, l.2, l.3)

  pub large_right : (gs hs : List Given) → SomeLarge ds d hs → SomeLarge ds d (gs ++ hs)
  large_right gs hs l = (l.0, contains_right gs hs l.0 l.1, l.2, l.3)

  -- one argument
  pub judged_open : (a : Given) → is_closed a.ty ≡ false → Judged ds d (a ∷ []) false
  judged_open a h = record {
    small = λ b c q. let f : true ≡ false = sym q ∙ ap (λ (z : Given). is_closed z.ty) (sym (contains_one a b c)) ∙ h in cc;
    outside = λ e. let f : false ≡ true = e in cc;
    inside = λ e b c q. let f : true ≡ false = sym q ∙ ap (λ (z : Given). is_closed z.ty) (sym (contains_one a b c)) ∙ h in cc;
  }

  pub judged_one : (a : Given) (r : Bool) → is_closed a.ty ≡ true → IsJudged ds d (bound_at ds d a) a.ty r → Judged ds d (a ∷ []) r
  judged_one a r h j = record {
    small = λ b c q. subst (λ (z : Given). HasSmallForm ds d z.ty) (contains_one a b c) j.small;
    outside = λ e. (a, (zero, omega arith, refl), h, j.outside e);
    inside = λ e b c q. subst (λ (z : Given). Between (table_with ds d) (bound_at ds d z) z.ty) (contains_one a b c) (j.inside e);
  }

  pub large_one : (a : Given) → is_closed a.ty ≡ true → HasLargeForm (table_with ds d) a.ty → SomeLarge ds d (a ∷ [])
  large_one a h l = (a, (zero, omega arith, refl), h, l)
