-- Every type equals itself, and each of its alternatives is its own single one.
use Rattle.std.proofs.Common.{◌≡◌, ◌∙◌, sym, ap, subst, refl, ℕ, true, nat_eq, List, [], ◌∷◌, ◌++◌, map, Some, arith}
use Rattle.std.specs.List.{flat_map}
use Rattle.jl_model.specs.declared.ty.Ty.{Ty}
use Rattle.jl_model.specs.declared.ty.Ty.TheViews.{out-Ty, outs-Any, outs-Tuple, outs-Nominal, outs-Var}
use Rattle.jl_model.specs.declared.ty.Ty.TheViews as V
use Rattle.jl_model.specs.declared.ty.Ty.TheVariants as W
use Rattle.jl_model.specs.Rows.{alts, choices}
use Rattle.jl_model.specs.Subtype.{Table, opaque, lifted, Below, Covered, Found, Part, Parts, Equals, below, none, more, here, there, any, tuple, nominal, self, parts_end, parts_more, equals_end, equals_more, Equal}
use Rattle.jl_model.proofs.TypeInduction.{Each, by_cases}
use Rattle.jl_model.proofs.FormLemmas.{alts-any, alts-var, alts-union, alts-tuple, alts-nominal}

module _ (n : Table) where
  pub own_arguments : (k : ℕ) (xs : List Ty) → lifted n k xs k ≡ Some xs
  own_arguments k xs = let e : nat_eq k k ≡ true = grind arith in rw e refl

  -- an alternative is its own single one, and below itself
  abbrev pub Fine : Ty → Type 0
  Fine a = (alts a ≡ a ∷ []) × Part n opaque a a

  append : (ts us : List Ty) → Each Fine ts → Each Fine us → Each Fine (ts ++ us)
  append [] us e f = f
  append (t ∷ ts) us e f = (e.0, append ts us e.1 f)

  cover : (ts us : List Ty) → Each Fine ts → ((a : Ty) → Found n opaque a ts → Found n opaque a us) → Covered n opaque ts us
  cover [] us e k = none opaque us
  cover (t ∷ ts) us e k = more opaque t ts us (k t (here opaque t t ts e.0.1)) (cover ts us e.1 (λ a f. k a (there opaque a t ts f)))

  abbrev AltsFine : Ty → Type 0
  AltsFine t = Each Fine (alts t)

  self_below : (t : Ty) → AltsFine t → Below n opaque t t
  self_below t e = below opaque t t (cover (alts t) (alts t) e (λ a f. f))

  one_below : (a : Ty) → Fine a → Below n opaque a a
  one_below a e = self_below a (subst (Each Fine) (sym e.0) (e, tt))

  flat : (ts : List Ty) → Each AltsFine ts → Each Fine (flat_map alts ts)
  flat [] e = tt
  flat (t ∷ ts) e = append (alts t) (flat_map alts ts) e.0 (flat ts e.1)

  args : (ts : List Ty) → Each AltsFine ts → Equals n ts ts
  args [] e = equals_end
  args (t ∷ ts) e = let b = self_below t e.0 in equals_more t t ts ts b b (args ts e.1)

  abbrev EachList : List (List Ty) → Type 0
  EachList [] = Unit {0}
  EachList (ts ∷ tss) = Each Fine ts × EachList tss

  lists_append : (ss ts : List (List Ty)) → EachList ss → EachList ts → EachList (ss ++ ts)
  lists_append [] ts e f = f
  lists_append (s ∷ ss) ts e f = (e.0, lists_append ss ts e.1 f)

  lists_cons : (a : Ty) (tss : List (List Ty)) → Fine a → EachList tss → EachList (map (λ us. a ∷ us) tss)
  lists_cons a [] f e = tt
  lists_cons a (ts ∷ tss) f e = ((f, e.0), lists_cons a tss f e.1)

  lists_first : (ss : List Ty) (tss : List (List Ty)) → Each Fine ss → EachList tss → EachList (flat_map (λ t. map (λ us. t ∷ us) tss) ss)
  lists_first [] tss e f = tt
  lists_first (a ∷ ss) tss e f = lists_append (map (λ us. a ∷ us) tss) (flat_map (λ t. map (λ us. t ∷ us) tss) ss) (lists_cons a tss e.0 f) (lists_first ss tss e.1 f)

  lists : (ts : List Ty) → Each AltsFine ts → EachList (choices (map alts ts))
  lists [] e = (tt, tt)
  lists (t ∷ ts) e = lists_first (alts t) (choices (map alts ts)) e.0 (lists ts e.1)

  single : (us : List Ty) → Each Fine us → choices (map alts us) ≡ us ∷ []
  single [] e = refl
  single (u ∷ us) e = let a = e.0.0 in let b = single us e.1 in rw (a, b) refl

  parts : (us : List Ty) → Each Fine us → Parts n opaque us us
  parts [] e = parts_end opaque
  parts (u ∷ us) e = parts_more opaque u u us us (one_below u e.0) (parts us e.1)

  tuples : (tss : List (List Ty)) → EachList tss → Each Fine (map (λ us. V.Tuple us) tss)
  tuples [] e = tt
  tuples (us ∷ tss) e =
      ((alts-tuple us ∙ ap (map (λ us. V.Tuple us)) (single us e.0), tuple opaque (V.Tuple us) (V.Tuple us) us us (outs-Tuple us) (outs-Tuple us) (parts us e.0)), tuples tss e.1)

  pub alts_fine : (t : Ty) → Each Fine (alts t)
  alts_fine = by_cases AltsFine (record {
    any = subst (Each Fine) (sym alts-any) ((alts-any, any opaque W.Any W.Any outs-Any), tt);
    union = λ ts e. subst (Each Fine) (sym (alts-union ts)) (flat ts e);
    tuple = λ ts e. subst (Each Fine) (sym (alts-tuple ts)) (tuples (choices (map alts ts)) (lists ts e));
    nominal = λ k ts e. subst (Each Fine) (sym (alts-nominal k ts))
        ((alts-nominal k ts, nominal opaque (V.Nominal k ts) (V.Nominal k ts) k k ts ts ts (outs-Nominal k ts) (outs-Nominal k ts) (own_arguments k ts) (args ts e)), tt);
    var = λ v. subst (Each Fine) (sym (alts-var v)) ((alts-var v, self opaque (W.Var v) (W.Var v) v (outs-Var v) (outs-Var v)), tt);
  })

  pub below_self : (t : Ty) → Below n opaque t t
  below_self t = self_below t (alts_fine t)

  pub equal_self : (t : Ty) → Equal n t t
  equal_self t = (below_self t, below_self t)
