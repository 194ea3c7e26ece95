-- Concrete types, and what equals them.
use Rattle.std.proofs.Common.{◌≡◌, ◌∙◌, sym, ap, subst, refl, ℕ, arith, Bool, true, false, nat_eq, List, [], ◌∷◌, Some}
use Rattle.std.specs.List.{list_all}
use Rattle.jl_model.specs.declared.ty.Ty.{Ty}
use Rattle.jl_model.specs.declared.ty.Ty.TheOpen.{Any, Union, Tuple, Nominal, Var}
use Rattle.jl_model.specs.declared.ty.Ty.TheViews.{out-Ty, rolls-Any, rolls-Union, rolls-Tuple, rolls-Nominal, rolls-Var, outs-Tuple, outs-Nominal, outs-Var}
use Rattle.jl_model.specs.declared.ty.Ty.TheViews as V
use Rattle.jl_model.specs.declared.ty.Ty.TheVariants as W
use Rattle.jl_model.specs.declared.ty.Ty.TheFolds.{fold-roll-Ty}
use Rattle.jl_model.specs.Rows.{alts}
use Rattle.jl_model.specs.Signature.{Both, both_more}
use Rattle.jl_model.specs.Subtype.{Table, Fixed, opaque, lifted, Below, Equal, is_concrete, concrete_step}
use Rattle.jl_model.proofs.TypeInduction.{Each, by_cases}
use Rattle.jl_model.proofs.FormLemmas.{is_tuple, is_nominal, is_var, all_of}
use Rattle.jl_model.proofs.PutLemmas.{and_l, and_r, both_true}
use Rattle.jl_model.proofs.AncestorLemmas.{Lawful, eq_of}
use Rattle.jl_model.proofs.HeightLemmas.{PartBy, by_any, by_tuple, by_nominal, by_self}
use Rattle.jl_model.proofs.BelowLemmas.{below_part}
use Rattle.jl_model.proofs.TransLemmas.{far}
use Rattle.jl_search.proofs.PartLemmas.{Plain, plain_any, plain_tuple, plain_nominal, plain_var, AllPlain, all_end, all_more, plain_single}

module _ (n : Table) (g : Fixed) where
  pub concrete-any : is_concrete n g W.Any ≡ false
  concrete-any = ap (is_concrete n g) (sym rolls-Any) ∙ fold-roll-Ty Bool (concrete_step n g) Any

  pub concrete-union : (ts : List Ty) → is_concrete n g (V.Union ts) ≡ false
  concrete-union ts = ap (is_concrete n g) (sym (rolls-Union ts)) ∙ fold-roll-Ty Bool (concrete_step n g) (Union ts)

  pub concrete-tuple : (ts : List Ty) → is_concrete n g (V.Tuple ts) ≡ list_all (is_concrete n g) ts
  concrete-tuple ts = ap (is_concrete n g) (sym (rolls-Tuple ts)) ∙ fold-roll-Ty Bool (concrete_step n g) (Tuple ts) ∙ all_of (is_concrete n g) ts

  pub concrete-nominal : (k : ℕ) (ts : List Ty) → is_concrete n g (V.Nominal k ts) ≡ n.is_struct k
  concrete-nominal k ts = ap (is_concrete n g) (sym (rolls-Nominal k ts)) ∙ fold-roll-Ty Bool (concrete_step n g) (Nominal k ts)

  pub concrete-var : (v : ℕ) → is_concrete n g (W.Var v) ≡ g.sure v
  concrete-var v = ap (is_concrete n g) (sym (rolls-Var v)) ∙ fold-roll-Ty Bool (concrete_step n g) (Var v)

  mutual
    -- a concrete type
    pub data Sure : Ty → Type 0 where
      sure_tuple : (t : Ty) (ts : List Ty) → out-Ty t ≡ Tuple ts → AllSure ts → Sure t
      sure_nominal : (t : Ty) (k : ℕ) (xs : List Ty) → out-Ty t ≡ Nominal k xs → n.is_struct k ≡ true → Sure t
      sure_var : (t : Ty) (v : ℕ) → out-Ty t ≡ Var v → g.sure v ≡ true → Sure t

    pub data AllSure : List Ty → Type 0 where
      sure_end : AllSure []
      sure_more : (t : Ty) (ts : List Ty) → Sure t → AllSure ts → AllSure (t ∷ ts)

  abbrev Told : Ty → Type 0
  Told t = is_concrete n g t ≡ true → Sure t

  all_told : (ts : List Ty) → Each Told ts → list_all (is_concrete n g) ts ≡ true → AllSure ts
  all_told [] e h = sure_end
  all_told (t ∷ ts) e h = sure_more t ts (e.0 (and_l (is_concrete n g t) (list_all (is_concrete n g) ts) h)) (all_told ts e.1 (and_r (is_concrete n g t) (list_all (is_concrete n g) ts) h))

  pub sure_of : (t : Ty) → is_concrete n g t ≡ true → Sure t
  sure_of = by_cases Told (record {
    any = λ h. let f : false ≡ true = sym concrete-any ∙ h in cc;
    union = λ ts e h. let f : false ≡ true = sym (concrete-union ts) ∙ h in cc;
    tuple = λ ts e h. sure_tuple (V.Tuple ts) ts (outs-Tuple ts) (all_told ts e (sym (concrete-tuple ts) ∙ h));
    nominal = λ k ts e h. sure_nominal (V.Nominal k ts) k ts (outs-Nominal k ts) (sym (concrete-nominal k ts) ∙ h);
    var = λ v h. sure_var (W.Var v) v (outs-Var v) (sym (concrete-var v) ∙ h);
  })

  pub all_sure_of : (ts : List Ty) → list_all (is_concrete n g) ts ≡ true → AllSure ts
  all_sure_of [] h = sure_end
  all_sure_of (t ∷ ts) h = sure_more t ts (sure_of t (and_l (is_concrete n g t) (list_all (is_concrete n g) ts) h)) (all_sure_of ts (and_r (is_concrete n g t) (list_all (is_concrete n g) ts) h))

  mutual
    pub of_sure : (t : Ty) → Sure t → is_concrete n g t ≡ true
    of_sure t (sure_tuple s ts e p) = ap (is_concrete n g) (is_tuple t ts e) ∙ concrete-tuple ts ∙ of_all_sure ts p
    of_sure t (sure_nominal s k xs e p) = ap (is_concrete n g) (is_nominal t k xs e) ∙ concrete-nominal k xs ∙ p
    of_sure t (sure_var s v e p) = ap (is_concrete n g) (is_var t v e) ∙ concrete-var v ∙ p

    of_all_sure : (ts : List Ty) → AllSure ts → list_all (is_concrete n g) ts ≡ true
    of_all_sure ts sure_end = refl
    of_all_sure ts (sure_more t us p r) = both_true (is_concrete n g t) (list_all (is_concrete n g) us) (of_sure t p) (of_all_sure us r)

  abbrev pub AnyVar : ℕ → Type 0
  AnyVar v = Unit {0}

  abbrev pub AnyArguments : List Ty → Type 0
  AnyArguments xs = Unit {0}

  mutual
    pub sure_plain : (t : Ty) → Sure t → Plain AnyVar AnyArguments t
    sure_plain t (sure_tuple s ts e p) = plain_tuple t ts e (all_sure_plain ts p)
    sure_plain t (sure_nominal s k xs e p) = plain_nominal t k xs e tt
    sure_plain t (sure_var s v e p) = plain_var t v e tt

    all_sure_plain : (ts : List Ty) → AllSure ts → AllPlain AnyVar AnyArguments ts
    all_sure_plain ts sure_end = all_end
    all_sure_plain ts (sure_more t us p r) = all_more t us (sure_plain t p) (all_sure_plain us r)

  pub sure_single : (t : Ty) → Sure t → alts t ≡ t ∷ []
  sure_single t p = plain_single AnyVar AnyArguments t (sure_plain t p)

  pub sure_parts : (t : Ty) (ts : List Ty) → out-Ty t ≡ Tuple ts → Sure t → AllSure ts
  sure_parts t ts e (sure_tuple s us f p) = let d : Tuple us ≡ Tuple ts = sym f ∙ e in let c : us ≡ ts = cc in subst AllSure c p
  sure_parts t ts e (sure_nominal s k xs f p) = let d : Nominal k xs ≡ Tuple ts = sym f ∙ e in cc
  sure_parts t ts e (sure_var s v f p) = let d : Var v ≡ Tuple ts = sym f ∙ e in cc

  pub sure_struct : (t : Ty) (k : ℕ) (xs : List Ty) → out-Ty t ≡ Nominal k xs → Sure t → n.is_struct k ≡ true
  sure_struct t k xs e (sure_tuple s us f p) = let d : Tuple us ≡ Nominal k xs = sym f ∙ e in cc
  sure_struct t k xs e (sure_nominal s m ys f p) = let d : Nominal m ys ≡ Nominal k xs = sym f ∙ e in let c : m ≡ k = cc in subst (λ z. n.is_struct z ≡ true) c p
  sure_struct t k xs e (sure_var s v f p) = let d : Var v ≡ Nominal k xs = sym f ∙ e in cc

  pub sure_number : (t : Ty) (v : ℕ) → out-Ty t ≡ Var v → Sure t → g.sure v ≡ true
  sure_number t v e (sure_tuple s us f p) = let d : Tuple us ≡ Var v = sym f ∙ e in cc
  sure_number t v e (sure_nominal s k xs f p) = let d : Nominal k xs ≡ Var v = sym f ∙ e in cc
  sure_number t v e (sure_var s w f p) = let d : Var w ≡ Var v = sym f ∙ e in let c : w ≡ v = cc in subst (λ z. g.sure z ≡ true) c p

  pub not_any : (t : Ty) → out-Ty t ≡ Any → Sure t → ⊥
  not_any t e (sure_tuple s us f p) = let d : Tuple us ≡ Any = sym f ∙ e in cc
  not_any t e (sure_nominal s k xs f p) = let d : Nominal k xs ≡ Any = sym f ∙ e in cc
  not_any t e (sure_var s w f p) = let d : Var w ≡ Any = sym f ∙ e in cc

-- what equals a concrete type is concrete, where it is a form without unions
module _ (n : Table) (law : Lawful n) (g : Fixed) (D : ℕ → Type 0) (Q : List Ty → Type 0) where
  abbrev P : Ty → Ty → Type 0
  P = PartBy n (Below n opaque)

  only_itself : (k m : ℕ) (xs ys zs ws : List Ty) → lifted n k xs m ≡ Some zs → lifted n m ys k ≡ Some ws → k ≡ m
  only_itself k m xs ys zs ws e f = by_test (nat_eq k m) refl
    where
      by_test : (b : Bool) → nat_eq k m ≡ b → k ≡ m
      by_test true t = eq_of k m t
      by_test false t =
          let r = far n law k m xs zs t e in
          let u : nat_eq m k ≡ false = grind (arith, t) in
          let q = far n law m k ys ws u f in
          let l = law.falls k m r.0 t r.1 in
          let h = law.falls m k q.0 u q.1 in
          absurd (omega arith)

  nominal_sure : (x u : Ty) (k : ℕ) (xs : List Ty) → out-Ty x ≡ Nominal k xs → P x u → P u x → Sure n g u → n.is_struct k ≡ true
  nominal_sure x u k xs d (by_any a b e) q s = absurd (not_any n g u e s)
  nominal_sure x u k xs d (by_tuple a b ws ys e f p) q s = let h : Nominal k xs ≡ Tuple ws = sym d ∙ e in cc
  nominal_sure x u k xs d (by_self a b v e f) q s = let h : Nominal k xs ≡ Var v = sym d ∙ e in cc
  nominal_sure x u k xs d (by_nominal a b i m ws zs ys e f l p) (by_any c y h) s = let j : Nominal k xs ≡ Any = sym d ∙ h in cc
  nominal_sure x u k xs d (by_nominal a b i m ws zs ys e f l p) (by_tuple c y vs os h o q) s = let j : Nominal m ys ≡ Tuple vs = sym f ∙ h in cc
  nominal_sure x u k xs d (by_nominal a b i m ws zs ys e f l p) (by_self c y v h o) s = let j : Nominal m ys ≡ Var v = sym f ∙ h in cc
  nominal_sure x u k xs d (by_nominal a b i m ws zs ys e f l p) (by_nominal c y j o vs os rs h r w q) s =
      let i1 : Nominal k xs ≡ Nominal i ws = sym d ∙ e in
      let i2 : Nominal m ys ≡ Nominal j vs = sym f ∙ h in
      let i3 : Nominal k xs ≡ Nominal o rs = sym d ∙ r in
      let ik : i ≡ k = cc in
      let jm : j ≡ m = cc in
      let ok : o ≡ k = cc in
      let l2 : lifted n k ws m ≡ Some zs = subst (λ z. lifted n z ws m ≡ Some zs) ik l in
      let w2 : lifted n m vs k ≡ Some os = subst (λ z. lifted n z vs k ≡ Some os) jm (subst (λ z. lifted n j vs z ≡ Some os) ok w) in
      let c : k ≡ m = only_itself k m ws vs zs os l2 w2 in
      subst (λ z. n.is_struct z ≡ true) (sym c) (sure_struct n g u m ys f s)

  tuple_sure : (x u : Ty) (xs : List Ty) → out-Ty x ≡ Tuple xs → P x u → P u x → Sure n g u → (ys : List Ty) × AllSure n g ys × Both (Below n opaque) xs ys × Both (Below n opaque) ys xs
  tuple_sure x u xs d (by_any a b e) q s = absurd (not_any n g u e s)
  tuple_sure x u xs d (by_nominal a b i m ws zs ys e f l p) q s = let h : Tuple xs ≡ Nominal i ws = sym d ∙ e in cc
  tuple_sure x u xs d (by_self a b v e f) q s = let h : Tuple xs ≡ Var v = sym d ∙ e in cc
  tuple_sure x u xs d (by_tuple a b ws ys e f p) (by_any c y h) s = let j : Tuple xs ≡ Any = sym d ∙ h in cc
  tuple_sure x u xs d (by_tuple a b ws ys e f p) (by_nominal c y i m vs zs rs h o l q) s = let j : Tuple ys ≡ Nominal i vs = sym f ∙ h in cc
  tuple_sure x u xs d (by_tuple a b ws ys e f p) (by_self c y v h o) s = let j : Tuple ys ≡ Var v = sym f ∙ h in cc
  tuple_sure x u xs d (by_tuple a b ws ys e f p) (by_tuple c y vs os h o q) s =
      let i1 : Tuple xs ≡ Tuple ws = sym d ∙ e in
      let i2 : Tuple ys ≡ Tuple vs = sym f ∙ h in
      let i3 : Tuple xs ≡ Tuple os = sym d ∙ o in
      let w : ws ≡ xs = cc in
      let v : vs ≡ ys = cc in
      let z : os ≡ xs = cc in
      (ys, sure_parts n g u ys f s, subst (λ y. Both (Below n opaque) y ys) w p, subst (λ y. Both (Below n opaque) y xs) v (subst (λ y. Both (Below n opaque) vs y) z q))

  var_sure : (x u : Ty) (v : ℕ) → out-Ty x ≡ Var v → P x u → Sure n g u → g.sure v ≡ true
  var_sure x u v d (by_any a b e) s = absurd (not_any n g u e s)
  var_sure x u v d (by_tuple a b ws ys e f p) s = let h : Var v ≡ Tuple ws = sym d ∙ e in cc
  var_sure x u v d (by_nominal a b i m ws zs ys e f l p) s = let h : Var v ≡ Nominal i ws = sym d ∙ e in cc
  var_sure x u v d (by_self a b w e f) s = let h : Var v ≡ Var w = sym d ∙ e in let c : v ≡ w = cc in ap g.sure c ∙ sure_number n g u w f s

  any_sure : (x u : Ty) → out-Ty x ≡ Any → P x u → Sure n g u → ⊥
  any_sure x u d (by_any a b e) s = not_any n g u e s
  any_sure x u d (by_tuple a b ws ys e f p) s = let h : Any ≡ Tuple ws = sym d ∙ e in cc
  any_sure x u d (by_nominal a b i m ws zs ys e f l p) s = let h : Any ≡ Nominal i ws = sym d ∙ e in cc
  any_sure x u d (by_self a b w e f) s = let h : Any ≡ Var w = sym d ∙ e in cc

  mutual
    pub sure_equal : (x u : Ty) → Plain D Q x → Equal n x u → Sure n g u → Sure n g x
    sure_equal x u (plain_any y e) q s = absurd (any_sure x u e (below_part n x u (plain_single D Q x (plain_any x e)) (sure_single n g u s) q.0) s)
    sure_equal x u (plain_tuple y us e p) q s =
        let a = plain_single D Q x (plain_tuple x us e p) in
        let b = sure_single n g u s in
        let r = tuple_sure x u us e (below_part n x u a b q.0) (below_part n u x b a q.1) s in
        sure_tuple x us e (all_sure_equal us r.0 p r.2 r.3 r.1)
    sure_equal x u (plain_nominal y k xs e p) q s =
        let a = plain_single D Q x (plain_nominal x k xs e p) in
        let b = sure_single n g u s in
        sure_nominal x k xs e (nominal_sure x u k xs e (below_part n x u a b q.0) (below_part n u x b a q.1) s)
    sure_equal x u (plain_var y k e p) q s =
        let a = plain_single D Q x (plain_var x k e p) in
        sure_var x k e (var_sure x u k e (below_part n x u a (sure_single n g u s) q.0) s)

    all_sure_equal : (xs ys : List Ty) → AllPlain D Q xs → Both (Below n opaque) xs ys → Both (Below n opaque) ys xs → AllSure n g ys → AllSure n g xs
    all_sure_equal xs ys all_end b c s = sure_end
    all_sure_equal xs ys (all_more x vs p r) (both_more h y hs ws b bs) (both_more i j is js c cs) (sure_more t ts s q) =
        sure_more x vs (sure_equal x y p (b, c) s) (all_sure_equal vs ws r bs cs q)
