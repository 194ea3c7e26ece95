-- A type is kept as one type, in a lawful table.
use Rattle.std.proofs.Common.{◌≡◌, ◌∙◌, sym, ap, subst, refl, ℕ, true, false, List}
use Rattle.jl_model.specs.declared.ty.Ty.{Ty}
use Rattle.jl_model.specs.declared.ty.Ty.TheOpen.{Any, Union, Tuple, Nominal, Var}
use Rattle.jl_model.specs.declared.ty.Ty.TheViews.{out-Ty}
use Rattle.jl_model.specs.declared.ty.Ty.TheViews as V
use Rattle.jl_model.specs.Subtype.{Table}
use Rattle.jl_model.specs.Valid.{is_closed}
use Rattle.jl_model.specs.Kept.{Argument, AllArguments, closed, variable, nominal, arguments_end, arguments_more, Settled, AllSettled, plain, variable as lone, union, tuple, nominal as named_type, settled_end, settled_more}
use Rattle.jl_model.proofs.FormLemmas.{is_union, is_tuple, is_nominal, is_var}
use Rattle.jl_model.proofs.AncestorLemmas.{Lawful}
use Rattle.jl_model.proofs.NormalLemmas.{normal_same}
use Rattle.jl_model.proofs.TransLemmas.{equal_trans}
use Rattle.jl_types.proofs.KeepLemmas.{argument_form, var_open}

module _ (n : Table) (law : Lawful n) where
  argument_var : (t e : Ty) (v : ℕ) → out-Ty t ≡ Var v → Argument n t e → t ≡ e
  argument_var t e v o (closed a b c f) = let g : false ≡ true = sym (ap is_closed (is_var t v o) ∙ var_open v) ∙ c in cc
  argument_var t e v o (variable a w p) = refl
  argument_var t e v o (nominal a b k ts us c p q r) = let g : Var v ≡ Nominal k ts = sym o ∙ p in cc

  argument_nominal : (t e : Ty) (k : ℕ) (ts : List Ty) → out-Ty t ≡ Nominal k ts → is_closed t ≡ false → Argument n t e → (us : List Ty) × (e ≡ V.Nominal k us) × AllArguments n ts us
  argument_nominal t e k ts o c (closed a b d f) = let g : false ≡ true = sym c ∙ d in cc
  argument_nominal t e k ts o c (variable a v p) = let g : Nominal k ts ≡ Var v = sym o ∙ p in cc
  argument_nominal t e k ts o c (nominal a b j vs us d p q r) =
      let g : Nominal k ts ≡ Nominal j vs = sym o ∙ p in
      let k_is : j ≡ k = cc in
      let ts_is : vs ≡ ts = cc in
      (us, is_nominal e j us q ∙ ap (λ (z : ℕ). V.Nominal z us) k_is, subst (λ z. AllArguments n z us) ts_is r)

  mutual
    argument_same : (t u e : Ty) → Argument n t u → Argument n t e → u ≡ e
    argument_same t u e (closed a b c f) q =
        let g = argument_form n t e q c in
        normal_same n law u f.normal e g.normal (equal_trans n law u t e (f.equal.1, f.equal.0) g.equal)
    argument_same t u e (variable a v o) q = argument_var t e v o q
    argument_same t u e (nominal a b k ts us c o i r) q =
        let s = argument_nominal t e k ts o c q in
        is_nominal u k us i ∙ ap (λ z. V.Nominal k z) (arguments_same ts us s.0 r s.2) ∙ sym s.1

    arguments_same : (ts us es : List Ty) → AllArguments n ts us → AllArguments n ts es → us ≡ es
    arguments_same ts us es arguments_end arguments_end = refl
    arguments_same ts us es (arguments_more t u vs ws p r) (arguments_more s e xs ys q k) =
        let i : u ≡ e = argument_same t u e p q in
        let j : ws ≡ ys = arguments_same vs ws ys r k in
        cc

  settled_any : (t e : Ty) → out-Ty t ≡ Any → Settled n t e → t ≡ e
  settled_any t e o (plain a p) = refl
  settled_any t e o (lone a v p) = refl
  settled_any t e o (union a b ts us p q r) = let g : Any ≡ Union ts = sym o ∙ p in cc
  settled_any t e o (tuple a b ts us p q r) = let g : Any ≡ Tuple ts = sym o ∙ p in cc
  settled_any t e o (named_type a b k ts us p q r) = let g : Any ≡ Nominal k ts = sym o ∙ p in cc

  settled_var : (t e : Ty) (v : ℕ) → out-Ty t ≡ Var v → Settled n t e → t ≡ e
  settled_var t e v o (plain a p) = refl
  settled_var t e v o (lone a w p) = refl
  settled_var t e v o (union a b ts us p q r) = let g : Var v ≡ Union ts = sym o ∙ p in cc
  settled_var t e v o (tuple a b ts us p q r) = let g : Var v ≡ Tuple ts = sym o ∙ p in cc
  settled_var t e v o (named_type a b k ts us p q r) = let g : Var v ≡ Nominal k ts = sym o ∙ p in cc

  settled_union : (t e : Ty) (ts : List Ty) → out-Ty t ≡ Union ts → Settled n t e → (us : List Ty) × (e ≡ V.Union us) × AllSettled n ts us
  settled_union t e ts o (plain a p) = let g : Union ts ≡ Any = sym o ∙ p in cc
  settled_union t e ts o (lone a w p) = let g : Union ts ≡ Var w = sym o ∙ p in cc
  settled_union t e ts o (tuple a b vs us p q r) = let g : Union ts ≡ Tuple vs = sym o ∙ p in cc
  settled_union t e ts o (named_type a b k vs us p q r) = let g : Union ts ≡ Nominal k vs = sym o ∙ p in cc
  settled_union t e ts o (union a b vs us p q r) =
      let g : Union ts ≡ Union vs = sym o ∙ p in
      let i : vs ≡ ts = cc in
      (us, is_union e us q, subst (λ z. AllSettled n z us) i r)

  settled_tuple : (t e : Ty) (ts : List Ty) → out-Ty t ≡ Tuple ts → Settled n t e → (us : List Ty) × (e ≡ V.Tuple us) × AllSettled n ts us
  settled_tuple t e ts o (plain a p) = let g : Tuple ts ≡ Any = sym o ∙ p in cc
  settled_tuple t e ts o (lone a w p) = let g : Tuple ts ≡ Var w = sym o ∙ p in cc
  settled_tuple t e ts o (union a b vs us p q r) = let g : Tuple ts ≡ Union vs = sym o ∙ p in cc
  settled_tuple t e ts o (named_type a b k vs us p q r) = let g : Tuple ts ≡ Nominal k vs = sym o ∙ p in cc
  settled_tuple t e ts o (tuple a b vs us p q r) =
      let g : Tuple ts ≡ Tuple vs = sym o ∙ p in
      let i : vs ≡ ts = cc in
      (us, is_tuple e us q, subst (λ z. AllSettled n z us) i r)

  pub settled_nominal : (t e : Ty) (k : ℕ) (ts : List Ty) → out-Ty t ≡ Nominal k ts → Settled n t e → (us : List Ty) × (e ≡ V.Nominal k us) × AllArguments n ts us
  settled_nominal t e k ts o (plain a p) = let g : Nominal k ts ≡ Any = sym o ∙ p in cc
  settled_nominal t e k ts o (lone a w p) = let g : Nominal k ts ≡ Var w = sym o ∙ p in cc
  settled_nominal t e k ts o (union a b vs us p q r) = let g : Nominal k ts ≡ Union vs = sym o ∙ p in cc
  settled_nominal t e k ts o (tuple a b vs us p q r) = let g : Nominal k ts ≡ Tuple vs = sym o ∙ p in cc
  settled_nominal t e k ts o (named_type a b j vs us p q r) =
      let g : Nominal k ts ≡ Nominal j vs = sym o ∙ p in
      let k_is : j ≡ k = cc in
      let ts_is : vs ≡ ts = cc in
      (us, is_nominal e j us q ∙ ap (λ (z : ℕ). V.Nominal z us) k_is, subst (λ z. AllArguments n z us) ts_is r)

  mutual
    -- a type is kept as one type
    pub settled_same : (t u e : Ty) → Settled n t u → Settled n t e → u ≡ e
    settled_same t u e (plain a o) q = settled_any t e o q
    settled_same t u e (lone a v o) q = settled_var t e v o q
    settled_same t u e (union a b ts us o i r) q = let s = settled_union t e ts o q in is_union u us i ∙ ap (λ z. V.Union z) (all_settled_same ts us s.0 r s.2) ∙ sym s.1
    settled_same t u e (tuple a b ts us o i r) q = let s = settled_tuple t e ts o q in is_tuple u us i ∙ ap (λ z. V.Tuple z) (all_settled_same ts us s.0 r s.2) ∙ sym s.1
    settled_same t u e (named_type a b k ts us o i r) q = let s = settled_nominal t e k ts o q in is_nominal u k us i ∙ ap (λ z. V.Nominal k z) (arguments_same ts us s.0 r s.2) ∙ sym s.1

    pub all_settled_same : (ts us es : List Ty) → AllSettled n ts us → AllSettled n ts es → us ≡ es
    all_settled_same ts us es settled_end settled_end = refl
    all_settled_same ts us es (settled_more t u vs ws p r) (settled_more s e xs ys q k) =
        let i : u ≡ e = settled_same t u e p q in
        let j : ws ≡ ys = all_settled_same vs ws ys r k in
        cc
