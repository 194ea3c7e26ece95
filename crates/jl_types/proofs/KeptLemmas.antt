-- What a type passes, its alternatives pass.
use Rattle.std.proofs.Common.{◌≡◌, ◌∙◌, sym, subst, Bool, true, List, [], ◌∷◌, ◌++◌, map}
use Rattle.std.specs.List.{flat_map}
use Rattle.jl_model.specs.declared.ty.Ty.{Ty}
use Rattle.jl_model.specs.declared.ty.Ty.TheViews as V
use Rattle.jl_model.specs.Rows.{alts, choices}
use Rattle.jl_model.proofs.TypeInduction.{Each, by_cases}
use Rattle.jl_model.proofs.FormLemmas.{alts-any, alts-union, alts-tuple, alts-nominal, alts-var}
use Rattle.jl_model.proofs.AncestorLemmas.{each_true, true_each}
use Rattle.jl_types.specs.Form.{IsOfParts}

module _ (p : Ty → Bool) (h : IsOfParts p) where
  abbrev pub Pass : Ty → Type 0
  Pass t = p t ≡ true

  append : (ts us : List Ty) → Each Pass ts → Each Pass us → Each Pass (ts ++ us)
  append [] us e f = f
  append (t ∷ ts) us e f = (e.0, append ts us e.1 f)

  abbrev AltsPass : Ty → Type 0
  AltsPass t = Pass t → Each Pass (alts t)

  flat : (ts : List Ty) → Each AltsPass ts → Each Pass ts → Each Pass (flat_map alts ts)
  flat [] e f = tt
  flat (t ∷ ts) e f = append (alts t) (flat_map alts ts) (e.0 f.0) (flat ts e.1 f.1)

  abbrev EachList : List (List Ty) → Type 0
  EachList [] = Unit {0}
  EachList (ts ∷ tss) = Each Pass ts × EachList tss

  lists_append : (ss ts : List (List Ty)) → EachList ss → EachList ts → EachList (ss ++ ts)
  lists_append [] ts e f = f
  lists_append (s ∷ ss) ts e f = (e.0, lists_append ss ts e.1 f)

  lists_cons : (a : Ty) (tss : List (List Ty)) → Pass a → EachList tss → EachList (map (λ us. a ∷ us) tss)
  lists_cons a [] f e = tt
  lists_cons a (ts ∷ tss) f e = ((f, e.0), lists_cons a tss f e.1)

  lists_first : (ss : List Ty) (tss : List (List Ty)) → Each Pass ss → EachList tss → EachList (flat_map (λ t. map (λ us. t ∷ us) tss) ss)
  lists_first [] tss e f = tt
  lists_first (a ∷ ss) tss e f = lists_append (map (λ us. a ∷ us) tss) (flat_map (λ t. map (λ us. t ∷ us) tss) ss) (lists_cons a tss e.0 f) (lists_first ss tss e.1 f)

  lists : (ts : List Ty) → Each AltsPass ts → Each Pass ts → EachList (choices (map alts ts))
  lists [] e f = (tt, tt)
  lists (t ∷ ts) e f = lists_first (alts t) (choices (map alts ts)) (e.0 f.0) (lists ts e.1 f.1)

  tuples : (tss : List (List Ty)) → EachList tss → Each Pass (map (λ us. V.Tuple us) tss)
  tuples [] e = tt
  tuples (us ∷ tss) e = (h.tuple_is us ∙ each_true p us e.0, tuples tss e.1)

  pub alts_pass : (t : Ty) → Pass t → Each Pass (alts t)
  alts_pass = by_cases AltsPass (record {
    any = λ f. subst (Each Pass) (sym alts-any) (f, tt);
    union = λ ts e f. subst (Each Pass) (sym (alts-union ts)) (flat ts e (true_each p ts (sym (h.union_is ts) ∙ f)));
    tuple = λ ts e f. subst (Each Pass) (sym (alts-tuple ts)) (tuples (choices (map alts ts)) (lists ts e (true_each p ts (sym (h.tuple_is ts) ∙ f))));
    nominal = λ k ts e f. subst (Each Pass) (sym (alts-nominal k ts)) (f, tt);
    var = λ v f. subst (Each Pass) (sym (alts-var v)) (f, tt);
  })
