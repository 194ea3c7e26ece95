-- What the code that compares normal forms needs.
use Rattle.std.proofs.Common.{max, ◌≡◌, ◌∙◌, sym, ap, subst, refl, ℕ, zero, suc, ◌+◌, ◌<◌, ◌≤◌, arith, add-one, Bool, true, false, nat_eq, List, [], ◌∷◌, map, length, drop, get_or, None, Some, inl, inr}
use Rattle.std.specs.List.{list_all}
use Rattle.jl_model.specs.declared.ty.Ty.{Ty}
use Rattle.jl_model.specs.declared.ty.Ty.TheOpen.{Ty-F, Any, Union, Tuple, Nominal, Var}
use Rattle.jl_model.specs.declared.ty.Ty.TheViews.{out-Ty, outs-Any, outs-Union, outs-Tuple, outs-Nominal, outs-Var, size-Ty, sized-Union, sized-Tuple}
use Rattle.jl_model.specs.declared.ty.Ty.TheViews as V
use Rattle.jl_model.specs.declared.ty.Ty.TheVariants as W
use Rattle.jl_model.specs.declared.ty.Decl.{Decl}
use Rattle.jl_model.specs.Ancestors.{table_of, up_in}
use Rattle.jl_model.specs.Rows.{alts}
use Rattle.jl_model.specs.Signature.{Both, both_end, both_more}
use Rattle.jl_model.specs.Subtype.{Table, opaque, put, at, put_in, lifted, Below}
use Rattle.jl_model.specs.Members.{EachBelow, BelowSome}
use Rattle.jl_model.specs.Normal.{IsNormal, AllNormal, is_single, no_union, any, var, nominal, tuple, union, none, more}
use Rattle.jl_model.specs.Valid.{is_known}
use Rattle.jl_model.specs.Refusals.{Declared}
use Rattle.jl_types.specs.Ground.{IsGround, AreSingles, AllExact, IsLower, AllLower, Lower, Lowers, tallest, any as low_any, var as low_var, nominal as low_nominal, tuple as low_tuple, none as no_lower, more as more_lower}
use denote.Param.Weighed.{most}
use Rattle.jl_model.proofs.FormLemmas.{is_union, is_tuple, is_nominal, is_var, alts-nominal}
use Rattle.jl_model.proofs.PutLemmas.{and_l, and_r}
use Rattle.jl_model.proofs.AncestorLemmas.{each_true}
use Rattle.jl_model.proofs.SelfLemmas.{below_self}
use Rattle.jl_model.proofs.HeightLemmas.{Ways, PartBy, by_any, by_tuple, by_nominal, by_self}
use Rattle.jl_model.proofs.TransLemmas.{far, near}
use Rattle.jl_model.proofs.BelowLemmas.{union_below, below_union, some_below, below_some, below_any, below_part, part_below}
use Rattle.jl_model.proofs.NormalLemmas.{single_alts}
use Rattle.jl_model.proofs.CountLemmas.{nodes_all}
use Rattle.jl_types.proofs.ExactLemmas.{all_exact_down, lower_down, all_lower_down, lower_alts, all_exact, puts_exact, normal_lower, normals_lower}
use Rattle.jl_model.proofs.KnownLemmas.{union_known, tuple_known, nominal_known}
use Rattle.jl_model.proofs.DeclaredLemmas.{declared_lawful}
use Rattle.jl_model.proofs.FillLemmas.{ancestors_filled}

-- a test tells a fact
abbrev pub Tells : Bool → Type 0 → Type 0
Tells r P = (r ≡ true → P) × (P → r ≡ true)

-- one of a list
pub all-at : (p : Ty → Bool) (ts : List Ty) (i : ℕ) (t : Ty) → list_all p ts ≡ true → i < length ts → t ≡ get_or ts i t → p t ≡ true
all-at p [] i t h lt e = absurd (omega arith)
all-at p (x ∷ xs) zero t h lt e = ap p e ∙ and_l (p x) (list_all p xs) h
all-at p (x ∷ xs) (suc i) t h lt e = all-at p xs i t (and_r (p x) (list_all p xs) h) (omega arith) e

pub normal-at : (n : Table) (ts : List Ty) (i : ℕ) (t : Ty) → AllNormal n ts → i < length ts → t ≡ get_or ts i t → IsNormal n t
normal-at n ts i t none lt e = absurd (omega arith)
normal-at n ts zero t (more x xs h r) lt e = subst (IsNormal n) (sym e) h
normal-at n ts (suc i) t (more x xs h r) lt e = normal-at n xs i t r (omega arith) e

pub ground-at : (ds : List Decl) (ts : List Ty) (i : ℕ) (t : Ty) → AreSingles ds ts → i < length ts → t ≡ get_or ts i t → IsGround ds t
ground-at ds ts i t h lt e = record { normal = normal-at (table_of ds) ts i t h.normal lt e; known = all-at (is_known (length ds)) ts i t h.known lt e }

lower_form-at : (n : Table) (m : ℕ) (ts : List Ty) (i : ℕ) (t : Ty) → AllLower n m ts → i < length ts → t ≡ get_or ts i t → IsLower n m t
lower_form-at n m ts i t no_lower lt e = absurd (omega arith)
lower_form-at n m ts zero t (more_lower x xs h r) lt e = subst (IsLower n m) (sym e) h
lower_form-at n m ts (suc i) t (more_lower x xs h r) lt e = lower_form-at n m xs i t r (omega arith) e

pub lower-at : (ds : List Decl) (m k : ℕ) (ts : List Ty) (i : ℕ) (t : Ty) → k ≤ m → Lowers ds m ts → i < length ts → t ≡ get_or ts i t → Lower ds k t
lower-at ds m k ts i t g h lt e = record { form = lower_down (table_of ds) k m g t (lower_form-at (table_of ds) m ts i t h.form lt e); known = all-at (is_known (length ds)) ts i t h.known lt e }

pub lower_to : (ds : List Decl) (m k : ℕ) (t : Ty) → k ≤ m → Lower ds m t → Lower ds k t
lower_to ds m k t g h = record { form = lower_down (table_of ds) k m g t h.form; known = h.known }

pub alone : (ds : List Decl) (m : ℕ) (t : Ty) → Lower ds m t → alts t ≡ t ∷ []
alone ds m t h = lower_alts (table_of ds) m t h.form

-- nominal types
nominal_part : (n : Table) (k m : ℕ) (xs ys : List Ty) → PartBy n (Below n opaque) (V.Nominal k xs) (V.Nominal m ys) → (zs : List Ty) × (lifted n k xs m ≡ Some zs) × Both (Ways (Below n opaque)) zs ys
nominal_part n k m xs ys (by_any t u e) = let f : Nominal m ys ≡ Any = sym (outs-Nominal m ys) ∙ e in cc
nominal_part n k m xs ys (by_tuple t u vs ws d e p) = let f : Nominal k xs ≡ Tuple vs = sym (outs-Nominal k xs) ∙ d in cc
nominal_part n k m xs ys (by_self t u v d e) = let f : Nominal k xs ≡ Var v = sym (outs-Nominal k xs) ∙ d in cc
nominal_part n k m xs ys (by_nominal t u i j vs zs ws d e l p) =
    let f : Nominal k xs ≡ Nominal i vs = sym (outs-Nominal k xs) ∙ d in
    let g : Nominal m ys ≡ Nominal j ws = sym (outs-Nominal m ys) ∙ e in
    let i_is : i ≡ k = cc in
    let v_is : vs ≡ xs = cc in
    let j_is : j ≡ m = cc in
    let w_is : ws ≡ ys = cc in
    (zs, sym (ap (λ z. lifted n z vs j) i_is ∙ ap (λ z. lifted n k z j) v_is ∙ ap (lifted n k xs) j_is) ∙ l, subst (λ z. Both (Ways (Below n opaque)) zs z) w_is p)

pub nominal_of : (n : Table) (k m : ℕ) (xs ys : List Ty) → Below n opaque (V.Nominal k xs) (V.Nominal m ys) → (zs : List Ty) × (lifted n k xs m ≡ Some zs) × Both (Ways (Below n opaque)) zs ys
nominal_of n k m xs ys b = nominal_part n k m xs ys (below_part n (V.Nominal k xs) (V.Nominal m ys) (alts-nominal k xs) (alts-nominal m ys) b)

self_ways : (n : Table) (ts : List Ty) → Both (Ways (Below n opaque)) ts ts
self_ways n [] = both_end
self_ways n (t ∷ ts) = both_more t t ts ts (below_self n t, below_self n t) (self_ways n ts)

pub nominal_to : (n : Table) (k m : ℕ) (xs ys zs : List Ty) → lifted n k xs m ≡ Some zs → zs ≡ ys → Below n opaque (V.Nominal k xs) (V.Nominal m ys)
nominal_to n k m xs ys zs l e =
    part_below n (V.Nominal k xs) (V.Nominal m ys) (alts-nominal k xs) (alts-nominal m ys)
    (by_nominal (V.Nominal k xs) (V.Nominal m ys) k m xs zs ys (outs-Nominal k xs) (outs-Nominal m ys) l (subst (λ z. Both (Ways (Below n opaque)) zs z) e (self_ways n zs)))

pub same_eq : (k m : ℕ) → k ≡ m → nat_eq k m ≡ true
same_eq k m e = grind (arith, e)

pub differ_eq : (k m : ℕ) → (k ≡ m → ⊥) → nat_eq k m ≡ false
differ_eq k m e = grind (arith, e)

pub own_case : (ds : List Decl) → Declared ds → (k m : ℕ) (xs ys : List Ty) (r : Bool) → k ≡ m → AllExact (table_of ds) (nodes_all ys) xs → AllNormal (table_of ds) ys
    → Tells r (xs ≡ ys) → Tells r (Below (table_of ds) opaque (V.Nominal k xs) (V.Nominal m ys))
own_case ds h k m xs ys r e p q t =
    let n = table_of ds in
    let i = same_eq k m e in
    let l : lifted n k xs m ≡ Some xs = rw i refl in (
      (λ c. nominal_to n k m xs ys xs l (t.0 c)),
      (λ b.
          let s = nominal_of n k m xs ys b in
          let z : xs ≡ s.0 = near n (declared_lawful ds h) k m xs s.0 i s.1 in
          t.1 (z ∙ all_exact n (declared_lawful ds h) (nodes_all ys) s.0 ys (subst (AllExact n (nodes_all ys)) z p) q (omega arith) s.2)),
    )

pub none_case : (ds : List Decl) → Declared ds → (k m : ℕ) (xs ys : List Ty) → (k ≡ m → ⊥) → up_in ds k m ≡ None → Below (table_of ds) opaque (V.Nominal k xs) (V.Nominal m ys) → ⊥
unfolding table_of
none_case ds h k m xs ys e u b =
    let n = table_of ds in
    let s = nominal_of n k m xs ys b in
    let f = far n (declared_lawful ds h) k m xs s.0 (differ_eq k m e) s.1 in
    let g : None ≡ Some f.0 = sym u ∙ f.1 in cc

pub far_case : (ds : List Decl) → Declared ds → (k m : ℕ) (xs ys as_ : List Ty) (r : Bool) → (k ≡ m → ⊥) → up_in ds k m ≡ Some as_ → AllExact (table_of ds) (nodes_all ys) xs → AllNormal (table_of ds) ys
    → Tells r (map (put (at xs)) as_ ≡ ys) → Tells r (Below (table_of ds) opaque (V.Nominal k xs) (V.Nominal m ys))
unfolding table_of
far_case ds h k m xs ys as_ r e u p q t =
    let n = table_of ds in
    let i = differ_eq k m e in
    let a : lifted n k xs m ≡ put_in xs (n.up k m) = rw i refl in
    let l : lifted n k xs m ≡ Some (map (put (at xs)) as_) = a ∙ ap (put_in xs) u in (
      (λ c. nominal_to n k m xs ys (map (put (at xs)) as_) l (t.0 c)),
      (λ b.
          let s = nominal_of n k m xs ys b in
          let f : Some (map (put (at xs)) as_) ≡ Some s.0 = sym l ∙ s.1 in
          let z : map (put (at xs)) as_ ≡ s.0 = cc in
          t.1 (z ∙ all_exact n (declared_lawful ds h) (nodes_all ys) s.0 ys (subst (AllExact n (nodes_all ys)) z (puts_exact n (declared_lawful ds h) (nodes_all ys) xs p as_ (ancestors_filled ds h k m as_ u))) q (omega arith) s.2)),
    )

-- the forms of the upper type
pub any_case : (n : Table) (u l : Ty) → u ≡ W.Any → Tells true (Below n opaque l u)
any_case n u l e = ((λ h. subst (λ z. Below n opaque l z) (sym e) (below_any n l)), (λ b. refl))

pub union_case : (ds : List Decl) (m : ℕ) (u l : Ty) (us vs : List Ty) (r : Bool) → u ≡ V.Union us → vs ≡ us → Lower ds m l → Tells r (BelowSome (table_of ds) l vs) → Tells r (Below (table_of ds) opaque l u)
union_case ds m u l us vs r e f h t =
    let n = table_of ds in
    let a = alone ds m l h in
    let k = subst (λ z. Tells r (BelowSome n l z)) f t in
    subst (λ z. Tells r (Below n opaque l z)) (sym e) ((λ x. some_below n l us a (k.0 x)), (λ x. k.1 (below_some n l us a x)))

pub members_case : (ds : List Decl) (l u : Ty) (ts vs : List Ty) (r : Bool) → l ≡ V.Union ts → vs ≡ ts → Tells r (EachBelow (table_of ds) vs u) → Tells r (Below (table_of ds) opaque l u)
members_case ds l u ts vs r e f t =
    let n = table_of ds in
    let k = subst (λ z. Tells r (EachBelow n z u)) f t in
    subst (λ z. Tells r (Below n opaque z u)) (sym e) ((λ x. union_below n ts u (k.0 x)), (λ x. k.1 (below_union n ts u x)))

pub tuple_part : (n : Table) (xs ys : List Ty) → PartBy n (Below n opaque) (V.Tuple xs) (V.Tuple ys) → Both (Below n opaque) xs ys
tuple_part n xs ys (by_any t u e) = let f : Tuple ys ≡ Any = sym (outs-Tuple ys) ∙ e in cc
tuple_part n xs ys (by_nominal t u i j vs zs ws d e l p) = let f : Tuple xs ≡ Nominal i vs = sym (outs-Tuple xs) ∙ d in cc
tuple_part n xs ys (by_self t u v d e) = let f : Tuple xs ≡ Var v = sym (outs-Tuple xs) ∙ d in cc
tuple_part n xs ys (by_tuple t u vs ws d e p) =
    let f : Tuple xs ≡ Tuple vs = sym (outs-Tuple xs) ∙ d in
    let g : Tuple ys ≡ Tuple ws = sym (outs-Tuple ys) ∙ e in
    let v_is : vs ≡ xs = cc in
    let w_is : ws ≡ ys = cc in
    subst (λ z. Both (Below n opaque) z ys) v_is (subst (λ z. Both (Below n opaque) vs z) w_is p)

single_of : (t : Ty) (x : Ty-F Ty) → out-Ty t ≡ x → no_union x ≡ true → is_single t ≡ true
single_of t x e h = ap no_union e ∙ h

pub tuple_case : (ds : List Decl) (m : ℕ) (u l : Ty) (ys xs vs ws : List Ty) (r : Bool) → u ≡ V.Tuple ys → l ≡ V.Tuple xs → vs ≡ ys → ws ≡ xs → IsGround ds u → Lower ds m l
    → Tells r (Both (Below (table_of ds) opaque) ws vs) → Tells r (Below (table_of ds) opaque l u)
tuple_case ds m u l ys xs vs ws r e f p q g h t =
    let n = table_of ds in
    let B = Below n opaque in
    let k : Tells r (Both B xs ys) = subst (λ z. Tells r (Both B xs z)) p (subst (λ z. Tells r (Both B z vs)) q t) in
    let u_out : out-Ty u ≡ Tuple ys = ap out-Ty e ∙ outs-Tuple ys in
    let u_one : alts u ≡ u ∷ [] = single_alts n u g.normal (ap no_union u_out) in
    let l_one = alone ds m l h in
    let l_out : out-Ty l ≡ Tuple xs = ap out-Ty f ∙ outs-Tuple xs in (
      (λ c. part_below n l u l_one u_one (by_tuple l u xs ys l_out u_out (k.0 c))),
      (λ b.
          let w : PartBy n B l u = below_part n l u l_one u_one b in
          k.1 (tuple_part n xs ys (subst (λ z. PartBy n B z (V.Tuple ys)) f (subst (λ z. PartBy n B l z) e w)))),
    )

-- a lower type of another form
pub tuple_only : (n : Table) (l u : Ty) (ys : List Ty) → out-Ty u ≡ Tuple ys → ((ts : List Ty) → l ≡ V.Tuple ts → ⊥) → PartBy n (Below n opaque) l u → ⊥
tuple_only n l u ys o d (by_any t v e) = let f : Tuple ys ≡ Any = sym o ∙ e in cc
tuple_only n l u ys o d (by_nominal t v i j vs zs ws c e q p) = let f : Tuple ys ≡ Nominal j ws = sym o ∙ e in cc
tuple_only n l u ys o d (by_self t v w c e) = let f : Tuple ys ≡ Var w = sym o ∙ e in cc
tuple_only n l u ys o d (by_tuple t v vs ws c e p) = d vs (is_tuple l vs c)

pub nominal_only : (n : Table) (l u : Ty) (m : ℕ) (ys : List Ty) → out-Ty u ≡ Nominal m ys → ((k : ℕ) (ts : List Ty) → l ≡ V.Nominal k ts → ⊥) → PartBy n (Below n opaque) l u → ⊥
nominal_only n l u m ys o d (by_any t v e) = let f : Nominal m ys ≡ Any = sym o ∙ e in cc
nominal_only n l u m ys o d (by_tuple t v vs ws c e p) = let f : Nominal m ys ≡ Tuple ws = sym o ∙ e in cc
nominal_only n l u m ys o d (by_self t v w c e) = let f : Nominal m ys ≡ Var w = sym o ∙ e in cc
nominal_only n l u m ys o d (by_nominal t v i j vs zs ws c e q p) = d i vs (is_nominal l i vs c)

pub var_only : (n : Table) (l u : Ty) (v : ℕ) → out-Ty u ≡ Var v → PartBy n (Below n opaque) l u → l ≡ W.Var v
var_only n l u v o (by_any t w e) = let f : Var v ≡ Any = sym o ∙ e in cc
var_only n l u v o (by_tuple t w vs ws c e p) = let f : Var v ≡ Tuple ws = sym o ∙ e in cc
var_only n l u v o (by_nominal t w i j vs zs ws c e q p) = let f : Var v ≡ Nominal j ws = sym o ∙ e in cc
var_only n l u v o (by_self t w i c e) =
    let f : Var v ≡ Var i = sym o ∙ e in
    let g : i ≡ v = cc in
    is_var l i c ∙ ap (λ (z : ℕ). W.Var z) g

pub no_tuple : (ds : List Decl) (m : ℕ) (u l : Ty) (ys : List Ty) → u ≡ V.Tuple ys → IsGround ds u → Lower ds m l → ((ts : List Ty) → l ≡ V.Tuple ts → ⊥) → Below (table_of ds) opaque l u → ⊥
no_tuple ds m u l ys e g h d b =
    let n = table_of ds in
    let o : out-Ty u ≡ Tuple ys = ap out-Ty e ∙ outs-Tuple ys in
    tuple_only n l u ys o d (below_part n l u (alone ds m l h) (single_alts n u g.normal (ap no_union o)) b)

pub no_nominal : (ds : List Decl) (w : ℕ) (u l : Ty) (m : ℕ) (ys : List Ty) → u ≡ V.Nominal m ys → IsGround ds u → Lower ds w l → ((k : ℕ) (ts : List Ty) → l ≡ V.Nominal k ts → ⊥) → Below (table_of ds) opaque l u → ⊥
no_nominal ds w u l m ys e g h d b =
    let n = table_of ds in
    let o : out-Ty u ≡ Nominal m ys = ap out-Ty e ∙ outs-Nominal m ys in
    nominal_only n l u m ys o d (below_part n l u (alone ds w l h) (single_alts n u g.normal (ap no_union o)) b)

pub below_var : (ds : List Decl) (m : ℕ) (u l : Ty) (v : ℕ) → u ≡ W.Var v → IsGround ds u → Lower ds m l → Below (table_of ds) opaque l u → l ≡ W.Var v
below_var ds m u l v e g h b =
    let n = table_of ds in
    let o : out-Ty u ≡ Var v = ap out-Ty e ∙ outs-Var v in
    var_only n l u v o (below_part n l u (alone ds m l h) (single_alts n u g.normal (ap no_union o)) b)

pub var_case : (ds : List Decl) (m : ℕ) (u l : Ty) (v w : ℕ) → u ≡ W.Var v → l ≡ W.Var w → IsGround ds u → Lower ds m l → Tells (nat_eq v w) (Below (table_of ds) opaque l u)
var_case ds m u l v w e f g h = (
  (λ c.
      let i : v ≡ w = grind (arith, c) in
      let j : l ≡ u = f ∙ ap (λ (z : ℕ). W.Var z) (sym i) ∙ sym e in
      subst (λ z. Below (table_of ds) opaque l z) j (below_self (table_of ds) l)),
  (λ b.
      let i : W.Var w ≡ W.Var v = sym f ∙ below_var ds m u l v e g h b in
      let j : Var w ≡ Var v = sym (outs-Var w) ∙ ap out-Ty i ∙ outs-Var v in
      let k : v ≡ w = cc in
      same_eq v w k),
)

-- the parts and members of ground types
pub union_singles : (ds : List Decl) (u : Ty) (us vs : List Ty) → u ≡ V.Union us → vs ≡ us → IsGround ds u → AreSingles ds vs
union_singles ds u us vs e f g = subst (AreSingles ds) (sym f) (go (subst (IsNormal (table_of ds)) e g.normal))
  where
    go : IsNormal (table_of ds) (V.Union us) → AreSingles ds us
    go (any t o) = let h : Union us ≡ Any = sym (outs-Union us) ∙ o in cc
    go (var t v o) = let h : Union us ≡ Var v = sym (outs-Union us) ∙ o in cc
    go (nominal t k xs o h) = let h : Union us ≡ Nominal k xs = sym (outs-Union us) ∙ o in cc
    go (tuple t xs o h s) = let h : Union us ≡ Tuple xs = sym (outs-Union us) ∙ o in cc
    go (union t ts o h s m l) =
        let i : Union us ≡ Union ts = sym (outs-Union us) ∙ o in
        let j : ts ≡ us = cc in
        record {
          normal = subst (AllNormal (table_of ds)) j h;
          known = each_true (is_known (length ds)) us (union_known (length ds) us (sym (ap (is_known (length ds)) e) ∙ g.known));
          single = ap (list_all is_single) (sym j) ∙ s;
        }

pub tuple_singles : (ds : List Decl) (u : Ty) (us vs : List Ty) → u ≡ V.Tuple us → vs ≡ us → IsGround ds u → AreSingles ds vs
tuple_singles ds u us vs e f g = subst (AreSingles ds) (sym f) (go (subst (IsNormal (table_of ds)) e g.normal))
  where
    go : IsNormal (table_of ds) (V.Tuple us) → AreSingles ds us
    go (any t o) = let h : Tuple us ≡ Any = sym (outs-Tuple us) ∙ o in cc
    go (var t v o) = let h : Tuple us ≡ Var v = sym (outs-Tuple us) ∙ o in cc
    go (nominal t k xs o h) = let h : Tuple us ≡ Nominal k xs = sym (outs-Tuple us) ∙ o in cc
    go (union t xs o h s m l) = let h : Tuple us ≡ Union xs = sym (outs-Tuple us) ∙ o in cc
    go (tuple t ts o h s) =
        let i : Tuple us ≡ Tuple ts = sym (outs-Tuple us) ∙ o in
        let j : ts ≡ us = cc in
        record {
          normal = subst (AllNormal (table_of ds)) j h;
          known = each_true (is_known (length ds)) us (tuple_known (length ds) us (sym (ap (is_known (length ds)) e) ∙ g.known));
          single = ap (list_all is_single) (sym j) ∙ s;
        }

pub nominal_args : (ds : List Decl) (u : Ty) (k : ℕ) (us vs : List Ty) → u ≡ V.Nominal k us → vs ≡ us → IsGround ds u → AllNormal (table_of ds) vs
nominal_args ds u k us vs e f g = subst (AllNormal (table_of ds)) (sym f) (go (subst (IsNormal (table_of ds)) e g.normal))
  where
    go : IsNormal (table_of ds) (V.Nominal k us) → AllNormal (table_of ds) us
    go (any t o) = let h : Nominal k us ≡ Any = sym (outs-Nominal k us) ∙ o in cc
    go (var t v o) = let h : Nominal k us ≡ Var v = sym (outs-Nominal k us) ∙ o in cc
    go (tuple t xs o h s) = let h : Nominal k us ≡ Tuple xs = sym (outs-Nominal k us) ∙ o in cc
    go (union t xs o h s m l) = let h : Nominal k us ≡ Union xs = sym (outs-Nominal k us) ∙ o in cc
    go (nominal t i ts o h) =
        let i2 : Nominal k us ≡ Nominal i ts = sym (outs-Nominal k us) ∙ o in
        let j : ts ≡ us = cc in
        subst (AllNormal (table_of ds)) j h

pub tuple_lowers : (ds : List Decl) (m : ℕ) (u : Ty) (us vs : List Ty) → u ≡ V.Tuple us → vs ≡ us → Lower ds m u → (k : ℕ) → k ≤ m → Lowers ds k vs
tuple_lowers ds m u us vs e f g k le = subst (Lowers ds k) (sym f) (record {
  form = all_lower_down (table_of ds) k m le us (go (subst (IsLower (table_of ds) m) e g.form));
  known = each_true (is_known (length ds)) us (tuple_known (length ds) us (sym (ap (is_known (length ds)) e) ∙ g.known));
})
  where
    go : IsLower (table_of ds) m (V.Tuple us) → AllLower (table_of ds) m us
    go (low_any t o) = let h : Tuple us ≡ Any = sym (outs-Tuple us) ∙ o in cc
    go (low_var t v o) = let h : Tuple us ≡ Var v = sym (outs-Tuple us) ∙ o in cc
    go (low_nominal t j xs o h) = let i : Tuple us ≡ Nominal j xs = sym (outs-Tuple us) ∙ o in cc
    go (low_tuple t ts o h) =
        let i : Tuple us ≡ Tuple ts = sym (outs-Tuple us) ∙ o in
        let j : ts ≡ us = cc in
        subst (AllLower (table_of ds) m) j h

pub nominal_exact : (ds : List Decl) (m : ℕ) (u : Ty) (i : ℕ) (us vs : List Ty) → u ≡ V.Nominal i us → vs ≡ us → Lower ds m u → (k : ℕ) → k ≤ m → AllExact (table_of ds) k vs
nominal_exact ds m u i us vs e f g k le = subst (AllExact (table_of ds) k) (sym f) (all_exact_down (table_of ds) k m le us (go (subst (IsLower (table_of ds) m) e g.form)))
  where
    go : IsLower (table_of ds) m (V.Nominal i us) → AllExact (table_of ds) m us
    go (low_any t o) = let h : Nominal i us ≡ Any = sym (outs-Nominal i us) ∙ o in cc
    go (low_var t v o) = let h : Nominal i us ≡ Var v = sym (outs-Nominal i us) ∙ o in cc
    go (low_tuple t xs o h) = let q : Nominal i us ≡ Tuple xs = sym (outs-Nominal i us) ∙ o in cc
    go (low_nominal t j ts o h) =
        let q : Nominal i us ≡ Nominal j ts = sym (outs-Nominal i us) ∙ o in
        let r : ts ≡ us = cc in
        subst (AllExact (table_of ds) m) r h

pub lower_known_name : (ds : List Decl) (m : ℕ) (u : Ty) (k : ℕ) (us : List Ty) → u ≡ V.Nominal k us → Lower ds m u → k < length ds
lower_known_name ds m u k us e g = (nominal_known (length ds) k us (sym (ap (is_known (length ds)) e) ∙ g.known)).0

-- normal forms are compared
pub ground_lower : (ds : List Decl) → Declared ds → (m : ℕ) (t : Ty) → IsGround ds t → ((ts : List Ty) → t ≡ V.Union ts → ⊥) → Lower ds m t
ground_lower ds h m t g d = record { form = normal_lower (table_of ds) (declared_lawful ds h) m t g.normal (one (out-Ty t) refl); known = g.known }
  where
    one : (x : Ty-F Ty) → out-Ty t ≡ x → is_single t ≡ true
    one Any e = ap no_union e
    one (Tuple ts) e = ap no_union e
    one (Nominal k ts) e = ap no_union e
    one (Var v) e = ap no_union e
    one (Union ts) e = absurd (d ts (is_union t ts e))

pub singles_lower : (ds : List Decl) → Declared ds → (m : ℕ) (ts : List Ty) → AreSingles ds ts → Lowers ds m ts
singles_lower ds h m ts g = record { form = normals_lower (table_of ds) (declared_lawful ds h) m ts g.normal g.single; known = g.known }

pub nominal_known_name : (ds : List Decl) (u : Ty) (k : ℕ) (us : List Ty) → u ≡ V.Nominal k us → IsGround ds u → k < length ds
nominal_known_name ds u k us e g = (nominal_known (length ds) k us (sym (ap (is_known (length ds)) e) ∙ g.known)).0

-- lists from a place on
pub both_long : (P : Ty → Ty → Type 0) (xs ys : List Ty) → Both P xs ys → length xs ≡ length ys
both_long P xs ys both_end = refl
both_long P xs ys (both_more x y vs ws p r) = ap suc (both_long P vs ws r)

pub both_cons : (P : Ty → Ty → Type 0) (x y : Ty) (xs ys : List Ty) → Both P (x ∷ xs) (y ∷ ys) → P x y × Both P xs ys
both_cons P x y xs ys (both_more a b vs ws p r) = (p, r)

pub both_at : (P : Ty → Ty → Type 0) (xs ys : List Ty) (i : ℕ) (x y : Ty) → i < length xs → i < length ys → x ≡ get_or xs i x → y ≡ get_or ys i y
    → (Both P (drop i xs) (drop i ys) → P x y × Both P (drop (i + 1) xs) (drop (i + 1) ys)) × (P x y × Both P (drop (i + 1) xs) (drop (i + 1) ys) → Both P (drop i xs) (drop i ys))
both_at P [] ys i x y p q e f = absurd (omega arith)
both_at P (a ∷ xs) [] i x y p q e f = absurd (omega arith)
both_at P (a ∷ xs) (b ∷ ys) zero x y p q e f =
    let Q : Ty → Ty → Type 0 = λ v w. (Both P (a ∷ xs) (b ∷ ys) → P v w × Both P xs ys) × (P v w × Both P xs ys → Both P (a ∷ xs) (b ∷ ys)) in
    subst (λ z. Q z y) (sym e) (subst (λ z. Q a z) (sym f) (both_cons P a b xs ys, λ h. both_more a b xs ys h.0 h.1))
both_at P (a ∷ xs) (b ∷ ys) (suc i) x y p q e f = rw add-one (rw add-one at (both_at P xs ys i x y (omega arith) (omega arith) e f))

pub each-at : (n : Table) (ts : List Ty) (u : Ty) (i : ℕ) (t : Ty) → EachBelow n ts u → i < length ts → t ≡ get_or ts i t → Below n opaque t u
each-at n [] u i t h lt e = absurd (omega arith)
each-at n (x ∷ xs) u zero t h lt e = let P : Ty → Type 0 = λ z. Below n opaque z u in subst P (sym e) h.0
each-at n (x ∷ xs) u (suc i) t h lt e = each-at n xs u i t h.1 (omega arith) e

pub some-at : (n : Table) (a : Ty) (us : List Ty) (i : ℕ) (t : Ty) → Below n opaque a t → i < length us → t ≡ get_or us i t → BelowSome n a us
some-at n a [] i t h lt e = absurd (omega arith)
some-at n a (x ∷ xs) zero t h lt e = let P : Ty → Type 0 = λ z. Below n opaque a z in inl (subst P e h)
some-at n a (x ∷ xs) (suc i) t h lt e = inr (some-at n a xs i t h (omega arith) e)

-- the sizes that fall
pub most-is : (ts : List Ty) → max (most (λ t. size-Ty t) ts) 0 ≡ tallest ts
most-is [] = refl
most-is (t ∷ ts) = let h = most-is ts in omega arith

pub size-union : (u : Ty) (ts vs : List Ty) → u ≡ V.Union ts → vs ≡ ts → size-Ty u ≡ tallest vs + 1
size-union u ts vs e f = ap (λ z. size-Ty z) e ∙ sized-Union ts ∙ ap (λ k. k + 1) (most-is ts) ∙ ap (λ z. tallest z + 1) (sym f)

pub size-tuple : (u : Ty) (ts vs : List Ty) → u ≡ V.Tuple ts → vs ≡ ts → size-Ty u ≡ tallest vs + 1
size-tuple u ts vs e f = ap (λ z. size-Ty z) e ∙ sized-Tuple ts ∙ ap (λ k. k + 1) (most-is ts) ∙ ap (λ z. tallest z + 1) (sym f)

pub size-at : (ts : List Ty) (i : ℕ) (t : Ty) → i < length ts → t ≡ get_or ts i t → size-Ty t ≤ tallest ts
size-at [] i t lt e = absurd (omega arith)
size-at (x ∷ xs) zero t lt e = let f : size-Ty t ≡ size-Ty x = ap (λ z. size-Ty z) e in omega arith
size-at (x ∷ xs) (suc i) t lt e = let h : size-Ty t ≤ tallest xs = size-at xs i t (omega arith) e in omega arith
