-- Lists of the same length with members that match one by one, and the forms of types that differ in arguments alone.
use Rattle.std.proofs.Common.{◌≡◌, ◌∙◌, sym, ap, subst, refl, ℕ, zero, suc, List, [], ◌∷◌, ◌++◌, map, get_or, inl, inr}
use Rattle.std.specs.List.{flat_map}
use Rattle.jl_model.specs.declared.ty.Ty.{Ty}
use Rattle.jl_model.specs.declared.ty.Ty.TheOpen.{Any, Union, Tuple, Nominal, Var}
use Rattle.jl_model.specs.declared.ty.Ty.TheViews.{out-Ty, outs-Any, outs-Tuple, outs-Nominal, outs-Var}
use Rattle.jl_model.specs.declared.ty.Ty.TheViews as V
use Rattle.jl_model.specs.declared.ty.Ty.TheVariants as W
use Rattle.jl_model.specs.Rows.{forms, alts, choices}
use Rattle.jl_model.specs.Signature.{Both, both_end, both_more}
use Rattle.jl_model.proofs.FormLemmas.{is_any, is_union, is_tuple, is_nominal, is_var}
use Rattle.jl_types.specs.Form.{Settles, AllSettle, any, var, union, tuple, nominal, none, more}
use Rattle.jl_search.proofs.HasLemmas.{Has}
use Rattle.jl_types.proofs.FormEquations.{forms-any, forms-var, forms-union, forms-tuple, forms-nominal}

-- lists of the same length, one by one
pub data Pairs (X Y : Type 0) (P : X → Y → Type 0) : List X → List Y → Type 0 where
  pairs_end : Pairs X Y P [] []
  pairs_more : (x : X) (y : Y) (xs : List X) (ys : List Y) → P x y → Pairs X Y P xs ys → Pairs X Y P (x ∷ xs) (y ∷ ys)

module _ (X Y : Type 0) (P : X → Y → Type 0) where
  pub pairs_append : (xs vs : List X) (ys ws : List Y) → Pairs X Y P xs ys → Pairs X Y P vs ws → Pairs X Y P (xs ++ vs) (ys ++ ws)
  pairs_append xs vs ys ws pairs_end q = q
  pairs_append xs vs ys ws (pairs_more x y as_ bs p r) q = pairs_more x y (as_ ++ vs) (bs ++ ws) p (pairs_append as_ vs bs ws r q)

  pub pairs_left : (xs : List X) (ys : List Y) (y : Y) → Pairs X Y P xs ys → Has ys y → (x : X) × Has xs x × P x y
  pairs_left xs ys y pairs_end h = absurd h
  pairs_left xs ys y (pairs_more a b as_ bs p r) (inl e) = (a, inl refl, subst (λ z. P a z) e p)
  pairs_left xs ys y (pairs_more a b as_ bs p r) (inr h) = let q = pairs_left as_ bs y r h in (q.0, inr q.1, q.2)

  pub pairs_right : (xs : List X) (ys : List Y) (x : X) → Pairs X Y P xs ys → Has xs x → (y : Y) × Has ys y × P x y
  pairs_right xs ys x pairs_end h = absurd h
  pairs_right xs ys x (pairs_more a b as_ bs p r) (inl e) = (b, inl refl, subst (λ z. P z b) e p)
  pairs_right xs ys x (pairs_more a b as_ bs p r) (inr h) = let q = pairs_right as_ bs x r h in (q.0, inr q.1, q.2)

  pub pairs_get : (xs : List X) (ys : List Y) (i : ℕ) (d : X) (e : Y) → P d e → Pairs X Y P xs ys → P (get_or xs i d) (get_or ys i e)
  pairs_get xs ys i d e p pairs_end = p
  pairs_get xs ys zero d e p (pairs_more a b as_ bs q r) = q
  pairs_get xs ys (suc i) d e p (pairs_more a b as_ bs q r) = pairs_get as_ bs i d e p r

  pub pairs_map : (U Z : Type 0) (Q : U → Z → Type 0) (f : X → U) (g : Y → Z) → ((x : X) (y : Y) → P x y → Q (f x) (g y)) → (xs : List X) (ys : List Y) → Pairs X Y P xs ys → Pairs U Z Q (map f xs) (map g ys)
  pairs_map U Z Q f g k xs ys pairs_end = pairs_end
  pairs_map U Z Q f g k xs ys (pairs_more a b as_ bs p r) = pairs_more (f a) (g b) (map f as_) (map g bs) (k a b p) (pairs_map U Z Q f g k as_ bs r)

  pub pairs_flat : (U Z : Type 0) (Q : U → Z → Type 0) (f : X → List U) (g : Y → List Z) → ((x : X) (y : Y) → P x y → Pairs U Z Q (f x) (g y)) → (xs : List X) (ys : List Y) → Pairs X Y P xs ys
      → Pairs U Z Q (flat_map f xs) (flat_map g ys)
  pairs_flat U Z Q f g k xs ys pairs_end = pairs_end
  pairs_flat U Z Q f g k xs ys (pairs_more a b as_ bs p r) = joined U Z Q (f a) (flat_map f as_) (g b) (flat_map g bs) (k a b p) (pairs_flat U Z Q f g k as_ bs r)
    where
      joined : (U Z : Type 0) (Q : U → Z → Type 0) (xs vs : List U) (ys ws : List Z) → Pairs U Z Q xs ys → Pairs U Z Q vs ws → Pairs U Z Q (xs ++ vs) (ys ++ ws)
      joined U Z Q xs vs ys ws pairs_end q = q
      joined U Z Q xs vs ys ws (pairs_more x y as_ bs p r) q = pairs_more x y (as_ ++ vs) (bs ++ ws) p (joined U Z Q as_ vs bs ws r q)

abbrev pub TyPairs : (Ty → Ty → Type 0) → List Ty → List Ty → Type 0
TyPairs P = Pairs Ty Ty P

abbrev pub RowPairs : (Ty → Ty → Type 0) → List (List Ty) → List (List Ty) → Type 0
RowPairs P = Pairs (List Ty) (List Ty) (Pairs Ty Ty P)

pub choices_pairs : (P : Ty → Ty → Type 0) (xss yss : List (List Ty)) → RowPairs P xss yss → RowPairs P (choices xss) (choices yss)
choices_pairs P xss yss pairs_end = pairs_more [] [] [] [] pairs_end pairs_end
choices_pairs P xss yss (pairs_more xs ys vss wss p r) =
    pairs_flat Ty Ty P (List Ty) (List Ty) (Pairs Ty Ty P) (λ t. map (λ us. t ∷ us) (choices vss)) (λ t. map (λ us. t ∷ us) (choices wss))
    (λ x y q. pairs_map (List Ty) (List Ty) (Pairs Ty Ty P) (List Ty) (List Ty) (Pairs Ty Ty P) (λ us. x ∷ us) (λ us. y ∷ us) (λ as_ bs h. pairs_more x y as_ bs q h) (choices vss) (choices wss) (choices_pairs P vss wss r))
    xs ys p

-- types that differ in arguments alone, which F matches
module _ (F : Ty → Ty → Type 0) where
  abbrev A : Ty → Ty → Type 0
  A = Settles F

  pub all_of_pairs : (ts us : List Ty) → TyPairs A ts us → AllSettle F ts us
  all_of_pairs ts us pairs_end = none
  all_of_pairs ts us (pairs_more t u vs ws p r) = more t u vs ws p (all_of_pairs vs ws r)

  -- forms, one by one
  module _ (at_ at2 : ℕ → List Ty) (places : (v : ℕ) → TyPairs A (at_ v) (at2 v)) where
    moved : (xs ys vs ws : List Ty) → xs ≡ vs → ys ≡ ws → TyPairs A vs ws → TyPairs A xs ys
    moved xs ys vs ws e f h = subst (λ z. TyPairs A z ys) (sym e) (subst (λ z. TyPairs A vs z) (sym f) h)

    mutual
      pub forms_pairs : (p q : Ty) → A p q → TyPairs A (forms at_ p) (forms at2 q)
      forms_pairs p q (any a e) =
          let i = is_any p e in
          moved (forms at_ p) (forms at2 p) (W.Any ∷ []) (W.Any ∷ []) (ap (forms at_) i ∙ forms-any at_) (ap (forms at2) i ∙ forms-any at2) (pairs_more W.Any W.Any [] [] (any W.Any outs-Any) pairs_end)
      forms_pairs p q (var a v e) =
          let i = is_var p v e in
          moved (forms at_ p) (forms at2 p) (at_ v) (at2 v) (ap (forms at_) i ∙ forms-var at_ v) (ap (forms at2) i ∙ forms-var at2 v) (places v)
      forms_pairs p q (union a b ts us e f h) =
          moved (forms at_ p) (forms at2 q) (flat_map (forms at_) ts) (flat_map (forms at2) us) (ap (forms at_) (is_union p ts e) ∙ forms-union at_ ts) (ap (forms at2) (is_union q us f) ∙ forms-union at2 us) (flat_pairs ts us h)
      forms_pairs p q (tuple a b ts us e f h) =
          moved (forms at_ p) (forms at2 q) (map (λ us. V.Tuple us) (choices (map (forms at_) ts))) (map (λ us. V.Tuple us) (choices (map (forms at2) us)))
          (ap (forms at_) (is_tuple p ts e) ∙ forms-tuple at_ ts) (ap (forms at2) (is_tuple q us f) ∙ forms-tuple at2 us)
          (pairs_map (List Ty) (List Ty) (Pairs Ty Ty A) Ty Ty A (λ us. V.Tuple us) (λ us. V.Tuple us) (λ vs ws r. tuple (V.Tuple vs) (V.Tuple ws) vs ws (outs-Tuple vs) (outs-Tuple ws) (all_of_pairs vs ws r))
          (choices (map (forms at_) ts)) (choices (map (forms at2) us)) (choices_pairs A (map (forms at_) ts) (map (forms at2) us) (row_pairs ts us h)))
      forms_pairs p q (nominal a b k ts us e f h) =
          moved (forms at_ p) (forms at2 q) (V.Nominal k ts ∷ []) (V.Nominal k us ∷ []) (ap (forms at_) (is_nominal p k ts e) ∙ forms-nominal at_ k ts) (ap (forms at2) (is_nominal q k us f) ∙ forms-nominal at2 k us)
          (pairs_more (V.Nominal k ts) (V.Nominal k us) [] [] (nominal (V.Nominal k ts) (V.Nominal k us) k ts us (outs-Nominal k ts) (outs-Nominal k us) h) pairs_end)

      flat_pairs : (ts us : List Ty) → AllSettle F ts us → TyPairs A (flat_map (forms at_) ts) (flat_map (forms at2) us)
      flat_pairs ts us none = pairs_end
      flat_pairs ts us (more t u vs ws p r) = pairs_append Ty Ty A (forms at_ t) (flat_map (forms at_) vs) (forms at2 u) (flat_map (forms at2) ws) (forms_pairs t u p) (flat_pairs vs ws r)

      row_pairs : (ts us : List Ty) → AllSettle F ts us → RowPairs A (map (forms at_) ts) (map (forms at2) us)
      row_pairs ts us none = pairs_end
      row_pairs ts us (more t u vs ws p r) = pairs_more (forms at_ t) (forms at2 u) (map (forms at_) vs) (map (forms at2) ws) (forms_pairs t u p) (row_pairs vs ws r)

    pub both_row_pairs : (ts us : List Ty) → Both A ts us → RowPairs A (map (forms at_) ts) (map (forms at2) us)
    both_row_pairs ts us both_end = pairs_end
    both_row_pairs ts us (both_more t u vs ws p r) = pairs_more (forms at_ t) (forms at2 u) (map (forms at_) vs) (map (forms at2) ws) (forms_pairs t u p) (both_row_pairs vs ws r)

  pub alts_pairs : (p q : Ty) → A p q → TyPairs A (alts p) (alts q)
  alts_pairs p q h = forms_pairs (λ v. W.Var v ∷ []) (λ v. W.Var v ∷ []) (λ v. pairs_more (W.Var v) (W.Var v) [] [] (var (W.Var v) v (outs-Var v)) pairs_end) p q h

  pub settle_tuple : (x u : Ty) (xs : List Ty) → out-Ty x ≡ Tuple xs → A x u → (us : List Ty) × (out-Ty u ≡ Tuple us) × AllSettle F xs us
  settle_tuple x u xs e (any a d) = let i : Tuple xs ≡ Any = sym e ∙ d in cc
  settle_tuple x u xs e (var a v d) = let i : Tuple xs ≡ Var v = sym e ∙ d in cc
  settle_tuple x u xs e (union a b ts us d o r) = let i : Tuple xs ≡ Union ts = sym e ∙ d in cc
  settle_tuple x u xs e (tuple a b ts us d o r) = let i : Tuple ts ≡ Tuple xs = sym d ∙ e in let c : ts ≡ xs = cc in (us, o, subst (λ z. AllSettle F z us) c r)
  settle_tuple x u xs e (nominal a b k ts us d o r) = let i : Tuple xs ≡ Nominal k ts = sym e ∙ d in cc

  pub settle_nominal : (x u : Ty) (m : ℕ) (xs : List Ty) → out-Ty x ≡ Nominal m xs → A x u → (us : List Ty) × (out-Ty u ≡ Nominal m us) × Both F xs us
  settle_nominal x u m xs e (any a d) = let i : Nominal m xs ≡ Any = sym e ∙ d in cc
  settle_nominal x u m xs e (var a v d) = let i : Nominal m xs ≡ Var v = sym e ∙ d in cc
  settle_nominal x u m xs e (union a b ts us d o r) = let i : Nominal m xs ≡ Union ts = sym e ∙ d in cc
  settle_nominal x u m xs e (tuple a b ts us d o r) = let i : Nominal m xs ≡ Tuple ts = sym e ∙ d in cc
  settle_nominal x u m xs e (nominal a b k ts us d o r) =
      let i : Nominal k ts ≡ Nominal m xs = sym d ∙ e in
      let c : ts ≡ xs = cc in
      let j : k ≡ m = cc in
      (us, o ∙ ap (λ (z : ℕ). Nominal z us) j, subst (λ z. Both F z us) c r)

  pub settle_var : (x u : Ty) (v : ℕ) → out-Ty x ≡ Var v → A x u → out-Ty u ≡ Var v
  settle_var x u v e (any a d) = let i : Var v ≡ Any = sym e ∙ d in cc
  settle_var x u v e (var a w d) = e
  settle_var x u v e (union a b ts us d o r) = let i : Var v ≡ Union ts = sym e ∙ d in cc
  settle_var x u v e (tuple a b ts us d o r) = let i : Var v ≡ Tuple ts = sym e ∙ d in cc
  settle_var x u v e (nominal a b k ts us d o r) = let i : Var v ≡ Nominal k ts = sym e ∙ d in cc

  pub settle_any : (x u : Ty) → out-Ty x ≡ Any → A x u → out-Ty u ≡ Any
  settle_any x u e (any a d) = e
  settle_any x u e (var a w d) = e
  settle_any x u e (union a b ts us d o r) = let i : Any ≡ Union ts = sym e ∙ d in cc
  settle_any x u e (tuple a b ts us d o r) = let i : Any ≡ Tuple ts = sym e ∙ d in cc
  settle_any x u e (nominal a b k ts us d o r) = let i : Any ≡ Nominal k ts = sym e ∙ d in cc

  pub settle_union : (x u : Ty) (xs : List Ty) → out-Ty x ≡ Union xs → A x u → (us : List Ty) × (out-Ty u ≡ Union us) × AllSettle F xs us
  settle_union x u xs e (any a d) = let i : Union xs ≡ Any = sym e ∙ d in cc
  settle_union x u xs e (var a v d) = let i : Union xs ≡ Var v = sym e ∙ d in cc
  settle_union x u xs e (union a b ts us d o r) = let i : Union ts ≡ Union xs = sym d ∙ e in let c : ts ≡ xs = cc in (us, o, subst (λ z. AllSettle F z us) c r)
  settle_union x u xs e (tuple a b ts us d o r) = let i : Union xs ≡ Tuple ts = sym e ∙ d in cc
  settle_union x u xs e (nominal a b k ts us d o r) = let i : Union xs ≡ Nominal k ts = sym e ∙ d in cc
