-- A type equals the union of some of its alternatives that cover them all.
use Rattle.std.proofs.Common.{◌≡◌, ◌∙◌, sym, subst, refl, Bool, true, List, [], ◌∷◌}
use Rattle.std.specs.List.{flat_map, list_all}
use Rattle.jl_model.specs.declared.ty.Ty.{Ty}
use Rattle.jl_model.specs.declared.ty.Ty.TheViews as V
use Rattle.jl_model.specs.Rows.{alts}
use Rattle.jl_model.specs.Subtype.{Table, opaque, Below, Part, Equal}
use Rattle.jl_model.specs.Members.{EachBelow, BelowSome}
use Rattle.jl_model.specs.Normal.{IsNormal, AllNormal, none, more}
use Rattle.jl_model.proofs.TypeInduction.{Each}
use Rattle.jl_model.proofs.FormLemmas.{alts-union}
use Rattle.jl_model.proofs.PutLemmas.{both_true}
use Rattle.jl_model.proofs.SelfLemmas.{below_self}
use Rattle.jl_model.proofs.HeightLemmas.{CoverBy, below_of}
use Rattle.jl_model.proofs.BelowLemmas.{covers, union_below, some_below}
use Rattle.jl_model.proofs.TransLemmas.{equal_trans}
use Rattle.jl_model.proofs.NormalLemmas.{In, first, later}
use Rattle.jl_model.proofs.AncestorLemmas.{Lawful}
use Rattle.jl_types.proofs.FinalLemmas.{below_in}

-- members of lists
pub each_in : (P : Ty → Type 0) (x : Ty) (cs : List Ty) → Each P cs → In x cs → P x
each_in P x cs h (first y ys e) = subst P (sym e) h.0
each_in P x cs h (later y ys i) = each_in P x ys h.1 i

pub all_from : (p : Ty → Bool) (us : List Ty) → ((x : Ty) → In x us → p x ≡ true) → list_all p us ≡ true
all_from p [] f = refl
all_from p (u ∷ us) f = both_true (p u) (list_all p us) (f u (first u us refl)) (all_from p us (λ x i. f x (later u us i)))

pub normal_from : (n : Table) (us : List Ty) → ((x : Ty) → In x us → IsNormal n x) → AllNormal n us
normal_from n [] f = none
normal_from n (u ∷ us) f = more u us (f u (first u us refl)) (normal_from n us (λ x i. f x (later u us i)))

each_below : (n : Table) (xs : List Ty) (u : Ty) → ((x : Ty) → In x xs → Below n opaque x u) → EachBelow n xs u
each_below n [] u f = tt
each_below n (x ∷ xs) u f = (f x (first x xs refl), each_below n xs u (λ y i. f y (later x xs i)))

flat_single : (cs : List Ty) → ((x : Ty) → In x cs → alts x ≡ x ∷ []) → flat_map alts cs ≡ cs
flat_single [] h = refl
flat_single (c ∷ cs) h = let e = h c (first c cs refl) in let f = flat_single cs (λ x i. h x (later c cs i)) in rw (e, f) refl

module _ (n : Table) where
  -- types of the same alternatives
  pub alike : (a b : Ty) → alts a ≡ alts b → Below n opaque a b
  alike a b e = below_of n a b (subst (CoverBy (Part n opaque) (alts a)) e (covers n a a (below_self n a)))

  -- unions of which each member is below some of the other's
  pub union_under : (xs ys : List Ty) → ((x : Ty) → In x xs → alts x ≡ x ∷ []) → ((x : Ty) → In x xs → BelowSome n x ys) → Below n opaque (V.Union xs) (V.Union ys)
  union_under xs ys single some = union_below n xs (V.Union ys) (each_below n xs (V.Union ys) (λ x i. some_below n x ys (single x i) (some x i)))

  pub union_inside : (xs ys : List Ty) → ((x : Ty) → In x xs → alts x ≡ x ∷ []) → ((x : Ty) → In x xs → In x ys) → Below n opaque (V.Union xs) (V.Union ys)
  union_inside xs ys single into = union_under xs ys single (λ x i. below_in n x x ys (into x i) (below_self n x))

  pub union_equal : Lawful n → (s : Ty) (cs ks : List Ty) → cs ≡ alts s → ((x : Ty) → In x cs → alts x ≡ x ∷ []) → ((x : Ty) → In x ks → In x cs) → ((x : Ty) → In x cs → BelowSome n x ks) → Equal n s (V.Union ks)
  union_equal law s cs ks is single into some =
      let e : alts (V.Union cs) ≡ alts s = alts-union cs ∙ flat_single cs single ∙ is in
      let a : Equal n s (V.Union cs) = (alike s (V.Union cs) (sym e), alike (V.Union cs) s e) in
      equal_trans n law s (V.Union cs) (V.Union ks) a (union_under cs ks single some, union_inside ks cs (λ x i. single x (into x i)) into)
