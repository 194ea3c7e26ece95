-- The alternatives of a settled type equal those of the type one by one, and are good where its arguments are.
use Rattle.std.proofs.Common.{◌≡◌, ◌∙◌, sym, ap, subst, refl, ℕ, suc, Bool, true, List, [], ◌∷◌, ◌++◌, map, length}
use Rattle.std.specs.List.{flat_map, list_all}
use Rattle.jl_model.specs.declared.ty.Ty.{Ty}
use Rattle.jl_model.specs.declared.ty.Ty.TheViews.{outs-Any, outs-Tuple, outs-Nominal, outs-Var}
use Rattle.jl_model.specs.declared.ty.Ty.TheViews as V
use Rattle.jl_model.specs.declared.ty.Ty.TheVariants as W
use Rattle.jl_model.specs.Rows.{alts, choices}
use Rattle.jl_model.specs.Signature.{Both, both_end, both_more}
use Rattle.jl_model.specs.Subtype.{Table, opaque, Below, Part, Equal}
use Rattle.jl_model.proofs.TypeInduction.{Each}
use Rattle.jl_model.proofs.FormLemmas.{is_any, is_union, is_tuple, is_nominal, is_var, alts-any, alts-union, alts-tuple, alts-nominal, alts-var}
use Rattle.jl_model.proofs.PutLemmas.{and_l, and_r, both_true}
use Rattle.jl_model.proofs.SelfLemmas.{own_arguments, equal_self}
use Rattle.jl_model.proofs.HeightLemmas.{this, that, CoverBy, nothing, another, Ways, by_tuple, by_nominal, below_of, part_of}
use Rattle.jl_model.proofs.BelowLemmas.{below_part, part_below}
use Rattle.jl_types.specs.Form.{IsOfParts, Settles, AllSettle, any, var, union, tuple, nominal, none, more}

-- what is good: arguments as F says, and parts that are good
pub record Grows (F : Ty → Ty → Type 0) (G : Ty → Type 0) : Type 0 where
  pub any : G W.Any
  pub var : (v : ℕ) → G (W.Var v)
  pub nominal : (k : ℕ) (ts us : List Ty) → Both F ts us → G (V.Nominal k us)
  pub tuple : (us : List Ty) → Each G us → G (V.Tuple us)

-- an alternative of a type, and that of the settled type
pub record Turns (n : Table) (G : Ty → Type 0) (a c : Ty) : Type 0 where
  pub left : alts a ≡ a ∷ []
  pub right : alts c ≡ c ∷ []
  pub equal : Equal n a c
  pub good : G c

both_moved : (R : Ty → Ty → Type 0) (ss ts us vs : List Ty) → ss ≡ us → ts ≡ vs → Both R us vs → Both R ss ts
both_moved R ss ts us vs e f b = subst (λ z. Both R z ts) (sym e) (subst (λ z. Both R us z) (sym f) b)

module _ (n : Table) (F : Ty → Ty → Type 0) (equals : (t u : Ty) → F t u → Equal n t u) (G : Ty → Type 0) (grows : Grows F G) where
  abbrev T : Ty → Ty → Type 0
  T = Turns n G

  there : (ts xs : List Ty) → Both F ts xs → Both (Ways (Below n opaque)) ts xs
  there ts xs both_end = both_end
  there ts xs (both_more t x us ys f b) = both_more t x us ys (equals t x f) (there us ys b)

  back : (ts xs : List Ty) → Both F ts xs → Both (Ways (Below n opaque)) xs ts
  back ts xs both_end = both_end
  back ts xs (both_more t x us ys f b) = let e = equals t x f in both_more x t ys us (e.1, e.0) (back us ys b)

  -- the alternatives, form by form
  turn_nominal : (k : ℕ) (ts us : List Ty) → Both F ts us → T (V.Nominal k ts) (V.Nominal k us)
  turn_nominal k ts us b = record {
    left = alts-nominal k ts;
    right = alts-nominal k us;
    equal = (
      part_below n (V.Nominal k ts) (V.Nominal k us) (alts-nominal k ts) (alts-nominal k us)
          (by_nominal (V.Nominal k ts) (V.Nominal k us) k k ts ts us (outs-Nominal k ts) (outs-Nominal k us) (own_arguments n k ts) (there ts us b)),
      part_below n (V.Nominal k us) (V.Nominal k ts) (alts-nominal k us) (alts-nominal k ts)
          (by_nominal (V.Nominal k us) (V.Nominal k ts) k k us us ts (outs-Nominal k us) (outs-Nominal k ts) (own_arguments n k us) (back ts us b)),
    );
    good = grows.nominal k ts us b;
  }

  lefts : (xs ys : List Ty) → Both T xs ys → choices (map alts xs) ≡ xs ∷ []
  lefts xs ys both_end = refl
  lefts xs ys (both_more x y vs ws p b) = let e = p.left in let f = lefts vs ws b in rw (e, f) refl

  rights : (xs ys : List Ty) → Both T xs ys → choices (map alts ys) ≡ ys ∷ []
  rights xs ys both_end = refl
  rights xs ys (both_more x y vs ws p b) = let e = p.right in let f = rights vs ws b in rw (e, f) refl

  goods : (xs ys : List Ty) → Both T xs ys → Each G ys
  goods xs ys both_end = tt
  goods xs ys (both_more x y vs ws p b) = (p.good, goods vs ws b)

  parts_there : (xs ys : List Ty) → Both T xs ys → Both (Below n opaque) xs ys
  parts_there xs ys both_end = both_end
  parts_there xs ys (both_more x y vs ws p b) = both_more x y vs ws p.equal.0 (parts_there vs ws b)

  parts_back : (xs ys : List Ty) → Both T xs ys → Both (Below n opaque) ys xs
  parts_back xs ys both_end = both_end
  parts_back xs ys (both_more x y vs ws p b) = both_more y x ws vs p.equal.1 (parts_back vs ws b)

  turn_tuple : (xs ys : List Ty) → Both T xs ys → T (V.Tuple xs) (V.Tuple ys)
  turn_tuple xs ys b =
      let l : alts (V.Tuple xs) ≡ V.Tuple xs ∷ [] = alts-tuple xs ∙ ap (map (λ us. V.Tuple us)) (lefts xs ys b) in
      let r : alts (V.Tuple ys) ≡ V.Tuple ys ∷ [] = alts-tuple ys ∙ ap (map (λ us. V.Tuple us)) (rights xs ys b) in
      record {
        left = l;
        right = r;
        equal = (
          part_below n (V.Tuple xs) (V.Tuple ys) l r (by_tuple (V.Tuple xs) (V.Tuple ys) xs ys (outs-Tuple xs) (outs-Tuple ys) (parts_there xs ys b)),
          part_below n (V.Tuple ys) (V.Tuple xs) r l (by_tuple (V.Tuple ys) (V.Tuple xs) ys xs (outs-Tuple ys) (outs-Tuple xs) (parts_back xs ys b)),
        );
        good = grows.tuple ys (goods xs ys b);
      }

  -- lists of them, and lists of lists
  pairs_append : (ss ts us vs : List Ty) → Both T ss ts → Both T us vs → Both T (ss ++ us) (ts ++ vs)
  pairs_append ss ts us vs both_end c = c
  pairs_append ss ts us vs (both_more a b xs ys p r) c = both_more a b (xs ++ us) (ys ++ vs) p (pairs_append xs ys us vs r c)

  data Rows : List (List Ty) → List (List Ty) → Type 0 where
    rows_end : Rows [] []
    rows_more : (r s : List Ty) (rs ss : List (List Ty)) → Both T r s → Rows rs ss → Rows (r ∷ rs) (s ∷ ss)

  rows_append : (ps qs rs ss : List (List Ty)) → Rows ps qs → Rows rs ss → Rows (ps ++ rs) (qs ++ ss)
  rows_append ps qs rs ss rows_end c = c
  rows_append ps qs rs ss (rows_more r s xs ys p b) c = rows_more r s (xs ++ rs) (ys ++ ss) p (rows_append xs ys rs ss b c)

  rows_cons : (a c : Ty) (rs ss : List (List Ty)) → T a c → Rows rs ss → Rows (map (λ us. a ∷ us) rs) (map (λ us. c ∷ us) ss)
  rows_cons a c rs ss t rows_end = rows_end
  rows_cons a c rs ss t (rows_more r s xs ys p b) = rows_more (a ∷ r) (c ∷ s) (map (λ us. a ∷ us) xs) (map (λ us. c ∷ us) ys) (both_more a c r s t p) (rows_cons a c xs ys t b)

  rows_first : (xs ys : List Ty) (rs ss : List (List Ty)) → Both T xs ys → Rows rs ss → Rows (flat_map (λ t. map (λ us. t ∷ us) rs) xs) (flat_map (λ t. map (λ us. t ∷ us) ss) ys)
  rows_first xs ys rs ss both_end c = rows_end
  rows_first xs ys rs ss (both_more a b vs ws p r) c =
      rows_append (map (λ us. a ∷ us) rs) (map (λ us. b ∷ us) ss) (flat_map (λ t. map (λ us. t ∷ us) rs) vs) (flat_map (λ t. map (λ us. t ∷ us) ss) ws) (rows_cons a b rs ss p c) (rows_first vs ws rs ss r c)

  rows_tuples : (rs ss : List (List Ty)) → Rows rs ss → Both T (map (λ us. V.Tuple us) rs) (map (λ us. V.Tuple us) ss)
  rows_tuples rs ss rows_end = both_end
  rows_tuples rs ss (rows_more r s xs ys p b) = both_more (V.Tuple r) (V.Tuple s) (map (λ us. V.Tuple us) xs) (map (λ us. V.Tuple us) ys) (turn_tuple r s p) (rows_tuples xs ys b)

  mutual
    pub turns : (t s : Ty) → Settles F t s → Both T (alts t) (alts s)
    turns t s (any a e) =
        let i = ap alts (is_any t e) ∙ alts-any in
        both_moved T (alts t) (alts t) (W.Any ∷ []) (W.Any ∷ []) i i
        (both_more W.Any W.Any [] [] (record { left = alts-any; right = alts-any; equal = equal_self n W.Any; good = grows.any }) both_end)
    turns t s (var a v e) =
        let i = ap alts (is_var t v e) ∙ alts-var v in
        both_moved T (alts t) (alts t) (W.Var v ∷ []) (W.Var v ∷ []) i i
        (both_more (W.Var v) (W.Var v) [] [] (record { left = alts-var v; right = alts-var v; equal = equal_self n (W.Var v); good = grows.var v }) both_end)
    turns t s (union a b ts us e f h) =
        both_moved T (alts t) (alts s) (flat_map alts ts) (flat_map alts us) (ap alts (is_union t ts e) ∙ alts-union ts) (ap alts (is_union s us f) ∙ alts-union us) (flat_turns ts us h)
    turns t s (tuple a b ts us e f h) =
        both_moved T (alts t) (alts s) (map (λ us. V.Tuple us) (choices (map alts ts))) (map (λ us. V.Tuple us) (choices (map alts us)))
        (ap alts (is_tuple t ts e) ∙ alts-tuple ts) (ap alts (is_tuple s us f) ∙ alts-tuple us) (rows_tuples (choices (map alts ts)) (choices (map alts us)) (row_turns ts us h))
    turns t s (nominal a b k ts us e f h) =
        both_moved T (alts t) (alts s) (V.Nominal k ts ∷ []) (V.Nominal k us ∷ []) (ap alts (is_nominal t k ts e) ∙ alts-nominal k ts) (ap alts (is_nominal s k us f) ∙ alts-nominal k us)
        (both_more (V.Nominal k ts) (V.Nominal k us) [] [] (turn_nominal k ts us h) both_end)

    flat_turns : (ts us : List Ty) → AllSettle F ts us → Both T (flat_map alts ts) (flat_map alts us)
    flat_turns ts us none = both_end
    flat_turns ts us (more t s vs ws p h) = pairs_append (alts t) (alts s) (flat_map alts vs) (flat_map alts ws) (turns t s p) (flat_turns vs ws h)

    row_turns : (ts us : List Ty) → AllSettle F ts us → Rows (choices (map alts ts)) (choices (map alts us))
    row_turns ts us none = rows_more [] [] [] [] both_end rows_end
    row_turns ts us (more t s vs ws p h) = rows_first (alts t) (alts s) (choices (map alts vs)) (choices (map alts ws)) (turns t s p) (row_turns vs ws h)

  -- GOOD
  pub settles_good : (t s : Ty) → Settles F t s → Each G (alts s)
  settles_good t s h = goods (alts t) (alts s) (turns t s h)

  -- EQUAL
  widen : (c : Ty) (ts us : List Ty) → CoverBy (Part n opaque) ts us → CoverBy (Part n opaque) ts (c ∷ us)
  widen c ts us (nothing vs) = nothing (c ∷ us)
  widen c ts us (another t rs vs s k) = another t rs (c ∷ us) (that t c us s) (widen c rs us k)

  cover_there : (ts us : List Ty) → Both T ts us → CoverBy (Part n opaque) ts us
  cover_there ts us both_end = nothing []
  cover_there ts us (both_more a c vs ws p b) = another a vs (c ∷ ws) (this a c ws (part_of n a c (below_part n a c p.left p.right p.equal.0))) (widen c vs ws (cover_there vs ws b))

  cover_back : (ts us : List Ty) → Both T ts us → CoverBy (Part n opaque) us ts
  cover_back ts us both_end = nothing []
  cover_back ts us (both_more a c vs ws p b) = another c ws (a ∷ vs) (this c a vs (part_of n c a (below_part n c a p.right p.left p.equal.1))) (widen a ws vs (cover_back vs ws b))

  pub settles_equal : (t s : Ty) → Settles F t s → Equal n t s
  settles_equal t s h = (below_of n t s (cover_there (alts t) (alts s) (turns t s h)), below_of n s t (cover_back (alts t) (alts s) (turns t s h)))

-- KEPT
module _ (F : Ty → Ty → Type 0) (p : Ty → Bool) (h : IsOfParts p) (keeps : (t u : Ty) → F t u → p t ≡ true → p u ≡ true) where
  forms_pass : (ts us : List Ty) → Both F ts us → list_all p ts ≡ true → list_all p us ≡ true
  forms_pass ts us both_end f = refl
  forms_pass ts us (both_more t u vs ws q b) f =
      both_true (p u) (list_all p ws) (keeps t u q (and_l (p t) (list_all p vs) f)) (forms_pass vs ws b (and_r (p t) (list_all p vs) f))

  forms_long : (ts us : List Ty) → Both F ts us → length us ≡ length ts
  forms_long ts us both_end = refl
  forms_long ts us (both_more t u vs ws q b) = ap suc (forms_long vs ws b)

  mutual
    pub settles_pass : (t s : Ty) → Settles F t s → p t ≡ true → p s ≡ true
    settles_pass t s (any a e) f = f
    settles_pass t s (var a v e) f = f
    settles_pass t s (union a b ts us e i q) f = ap p (is_union s us i) ∙ h.union_is us ∙ all_settle_pass ts us q (sym (h.union_is ts) ∙ sym (ap p (is_union t ts e)) ∙ f)
    settles_pass t s (tuple a b ts us e i q) f = ap p (is_tuple s us i) ∙ h.tuple_is us ∙ all_settle_pass ts us q (sym (h.tuple_is ts) ∙ sym (ap p (is_tuple t ts e)) ∙ f)
    settles_pass t s (nominal a b k ts us e i q) f =
        let g : p (V.Nominal k ts) ≡ true = sym (ap p (is_nominal t k ts e)) ∙ f in
        ap p (is_nominal s k us i) ∙ h.others k ts us g (forms_long ts us q) (forms_pass ts us q (h.arguments k ts g))

    all_settle_pass : (ts us : List Ty) → AllSettle F ts us → list_all p ts ≡ true → list_all p us ≡ true
    all_settle_pass ts us none f = refl
    all_settle_pass ts us (more t s vs ws q r) f =
        both_true (p s) (list_all p ws) (settles_pass t s q (and_l (p t) (list_all p vs) f)) (all_settle_pass vs ws r (and_r (p t) (list_all p vs) f))
