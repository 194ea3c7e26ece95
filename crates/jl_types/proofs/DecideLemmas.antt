-- Of two normal forms it is decided whether one is below the other.
use Rattle.std.proofs.Common.{◌≡◌, ◌∙◌, sym, ap, subst, refl, ℕ, arith, Bool, true, false, nat_eq, List, [], ◌∷◌, map, Option, None, Some, ◌⊎◌, inl, inr}
use Rattle.std.specs.List.{list_all}
use Rattle.std.specs.declared.cmp.Ordering.{Ordering}
use Rattle.std.specs.declared.cmp.Ordering.TheVariants.{Less, Equal, Greater}
use Rattle.jl_model.specs.declared.ty.Ty.{Ty}
use Rattle.jl_model.specs.declared.ty.Ty.TheOpen.{Any, Tuple, Nominal, Var}
use Rattle.jl_model.specs.declared.ty.Ty.TheViews.{out-Ty, outs-Tuple, outs-Nominal, outs-Var}
use Rattle.jl_model.specs.declared.ty.Ty.TheViews as V
use Rattle.jl_model.specs.declared.ty.Ty.TheVariants as W
use Rattle.jl_model.specs.declared.ty.Decl.{Decl}
use Rattle.jl_model.specs.Ancestors.{table_of, up_in}
use Rattle.jl_model.specs.Rows.{alts}
use Rattle.jl_model.specs.Signature.{Both, both_end, both_more}
use Rattle.jl_model.specs.Subtype.{Table, opaque, put, at, Below}
use Rattle.jl_model.specs.Members.{BelowSome}
use Rattle.jl_model.specs.Order.{term_cmp}
use Rattle.jl_model.specs.Normal.{IsNormal, AllNormal, is_single, no_union, any, var, nominal, tuple, union, none, more}
use Rattle.jl_model.specs.Refusals.{Declared}
use Rattle.jl_model.proofs.FormLemmas.{is_any, is_union, is_tuple, is_nominal, is_var}
use Rattle.jl_model.proofs.PutLemmas.{and_l, and_r}
use Rattle.jl_model.proofs.AncestorLemmas.{Lawful, eq_of}
use Rattle.jl_model.proofs.OrderLemmas.{tied, tied_self}
use Rattle.jl_model.proofs.HeightLemmas.{PartBy, by_tuple}
use Rattle.jl_model.proofs.SelfLemmas.{below_self}
use Rattle.jl_model.proofs.BelowLemmas.{some_below, below_some, below_any, below_part, part_below}
use Rattle.jl_model.proofs.NormalLemmas.{single_alts}
use Rattle.jl_model.proofs.CountLemmas.{nodes_all}
use Rattle.jl_model.proofs.DeclaredLemmas.{declared_lawful}
use Rattle.jl_types.proofs.ExactLemmas.{normals_exact}
use Rattle.jl_types.proofs.GroundLemmas.{Tells, tuple_part, tuple_only, nominal_only, var_only, both_cons, own_case, none_case, far_case}

-- it holds or not
abbrev pub Decided : Type 0 → Type 0
Decided P = P ⊎ (P → ⊥)

decided_by : (P Q : Type 0) → (P → Q) → (Q → P) → Decided P → Decided Q
decided_by P Q f g (inl p) = inl (f p)
decided_by P Q f g (inr d) = inr (λ q. d (g q))

told : (P : Type 0) → Decided P → (r : Bool) × Tells r P
told P (inl p) = (true, ((λ h. p), (λ q. refl)))
told P (inr d) = (false, ((λ h. let e : false ≡ true = h in cc), (λ q. absurd (d q))))

decided_from : (r : Bool) (P : Type 0) → Tells r P → Decided P
decided_from true P t = inl (t.0 refl)
decided_from false P t = inr (λ p. let e : false ≡ true = t.1 p in cc)

-- whether two lists are the same
same_at : (o : Ordering) (xs ys : List Ty) → term_cmp (V.Tuple xs) (V.Tuple ys) ≡ o → Decided (xs ≡ ys)
same_at Equal xs ys e = let i : Tuple xs ≡ Tuple ys = sym (outs-Tuple xs) ∙ ap out-Ty (tied (V.Tuple xs) (V.Tuple ys) e) ∙ outs-Tuple ys in inl (cc)
same_at Less xs ys e = inr (λ i. let f : Less ≡ Equal = sym e ∙ ap (λ z. term_cmp (V.Tuple xs) (V.Tuple z)) (sym i) ∙ tied_self (V.Tuple xs) in cc)
same_at Greater xs ys e = inr (λ i. let f : Greater ≡ Equal = sym e ∙ ap (λ z. term_cmp (V.Tuple xs) (V.Tuple z)) (sym i) ∙ tied_self (V.Tuple xs) in cc)

same_lists : (xs ys : List Ty) → Decided (xs ≡ ys)
same_lists xs ys = same_at (term_cmp (V.Tuple xs) (V.Tuple ys)) xs ys refl

equal_or : (b : Bool) → (b ≡ true) ⊎ (b ≡ false)
equal_or true = inl refl
equal_or false = inr refl

numbers : (k m : ℕ) → Decided (k ≡ m)
numbers k m = elim (equal_or (nat_eq k m)) [
  | inl e ↦ inl (eq_of k m e)
  | inr e ↦ inr (λ i. let f : nat_eq k m ≡ true = grind (arith, i) in let g : true ≡ false = sym f ∙ e in cc)
]

module _ (ds : List Decl) (declared : Declared ds) where
  abbrev n : Table
  n = table_of ds

  law : Lawful n
  law = declared_lawful ds declared

  abbrev B : Ty → Ty → Type 0
  B = Below n opaque

  -- nominal types
  far_or_none : (u : Option (List Ty)) (k m : ℕ) (xs ys : List Ty) → up_in ds k m ≡ u → (k ≡ m → ⊥) → AllNormal n xs → AllNormal n ys → Decided (B (V.Nominal k xs) (V.Nominal m ys))
  far_or_none None k m xs ys e d g h = inr (none_case ds declared k m xs ys d e)
  far_or_none (Some as_) k m xs ys e d g h =
      let t = told (map (put (at xs)) as_ ≡ ys) (same_lists (map (put (at xs)) as_) ys) in
      decided_from t.0 (B (V.Nominal k xs) (V.Nominal m ys)) (far_case ds declared k m xs ys as_ t.0 d e (normals_exact n law (nodes_all ys) xs g) h t.1)

  nominals : (k m : ℕ) (xs ys : List Ty) → AllNormal n xs → AllNormal n ys → Decided (B (V.Nominal k xs) (V.Nominal m ys))
  nominals k m xs ys g h = elim (numbers k m) [
    | inl e ↦
        let t = told (xs ≡ ys) (same_lists xs ys) in
        decided_from t.0 (B (V.Nominal k xs) (V.Nominal m ys)) (own_case ds declared k m xs ys t.0 e (normals_exact n law (nodes_all ys) xs g) h t.1)
    | inr d ↦ far_or_none (up_in ds k m) k m xs ys refl d g h
  ]

  -- the upper one is nominal, or a variable
  under_nominal : (u : Ty) (m : ℕ) (ys : List Ty) → out-Ty u ≡ Nominal m ys → AllNormal n ys → alts u ≡ u ∷ [] → (l : Ty) → IsNormal n l → is_single l ≡ true → Decided (B l u)
  under_nominal u m ys e g a l (nominal t k xs o h) s =
      let p = is_nominal l k xs o in
      let q = is_nominal u m ys e in
      decided_by (B (V.Nominal k xs) (V.Nominal m ys)) (B l u) (λ b. subst (λ z. B z u) (sym p) (subst (B (V.Nominal k xs)) (sym q) b)) (λ b. subst (λ z. B z (V.Nominal m ys)) p (subst (B l) q b)) (nominals k m xs ys h g)
  under_nominal u m ys e g a l (any t o) s =
      inr (λ b. nominal_only n l u m ys e (λ k ts i. let f : Any ≡ Nominal k ts = sym o ∙ ap out-Ty i ∙ outs-Nominal k ts in cc) (below_part n l u (single_alts n l (any l o) s) a b))
  under_nominal u m ys e g a l (var t v o) s =
      inr (λ b. nominal_only n l u m ys e (λ k ts i. let f : Var v ≡ Nominal k ts = sym o ∙ ap out-Ty i ∙ outs-Nominal k ts in cc) (below_part n l u (single_alts n l (var l v o) s) a b))
  under_nominal u m ys e g a l (tuple t xs o h w) s =
      inr (λ b. nominal_only n l u m ys e (λ k ts i. let f : Tuple xs ≡ Nominal k ts = sym o ∙ ap out-Ty i ∙ outs-Nominal k ts in cc) (below_part n l u (single_alts n l (tuple l xs o h w) s) a b))
  under_nominal u m ys e g a l (union t ts o h w x k) s = let f : false ≡ true = sym (ap no_union o) ∙ s in cc

  is_the_var : (u : Ty) (v : ℕ) → out-Ty u ≡ Var v → alts u ≡ u ∷ [] → (l : Ty) → IsNormal n l → is_single l ≡ true → B l u → out-Ty l ≡ Var v
  is_the_var u v e a l h s b = ap out-Ty (var_only n l u v e (below_part n l u (single_alts n l h s) a b)) ∙ outs-Var v

  under_var : (u : Ty) (v : ℕ) → out-Ty u ≡ Var v → alts u ≡ u ∷ [] → (l : Ty) → IsNormal n l → is_single l ≡ true → Decided (B l u)
  under_var u v e a l (any t o) s = inr (λ b. let f : Any ≡ Var v = sym o ∙ is_the_var u v e a l (any l o) s b in cc)
  under_var u v e a l (nominal t k xs o h) s = inr (λ b. let f : Nominal k xs ≡ Var v = sym o ∙ is_the_var u v e a l (nominal l k xs o h) s b in cc)
  under_var u v e a l (tuple t xs o h w) s = inr (λ b. let f : Tuple xs ≡ Var v = sym o ∙ is_the_var u v e a l (tuple l xs o h w) s b in cc)
  under_var u v e a l (union t ts o h w x k) s = let f : false ≡ true = sym (ap no_union o) ∙ s in cc
  under_var u v e a l (var t w o) s =
      decided_by (w ≡ v) (B l u)
      (λ i. let j : l ≡ u = is_var l w o ∙ ap (λ (z : ℕ). W.Var z) i ∙ sym (is_var u v e) in subst (B l) j (below_self n l))
      (λ b. let f : Var w ≡ Var v = sym o ∙ is_the_var u v e a l (var l w o) s b in cc) (numbers w v)

  -- the upper one is a tuple, whose parts are decided
  no_tuple : (u : Ty) (ys : List Ty) → out-Ty u ≡ Tuple ys → alts u ≡ u ∷ [] → (l : Ty) → IsNormal n l → is_single l ≡ true → ((ts : List Ty) → out-Ty l ≡ Tuple ts → ⊥) → Decided (B l u)
  no_tuple u ys e a l h s d = inr (λ b. tuple_only n l u ys e (λ ts i. d ts (ap out-Ty i ∙ outs-Tuple ts)) (below_part n l u (single_alts n l h s) a b))

  under_tuple : (u : Ty) (ys : List Ty) → out-Ty u ≡ Tuple ys → alts u ≡ u ∷ [] → ((xs : List Ty) → AllNormal n xs → list_all is_single xs ≡ true → Decided (Both B xs ys)) → (l : Ty) → IsNormal n l → is_single l ≡ true → Decided (B l u)
  under_tuple u ys e a parts l (any t o) s = no_tuple u ys e a l (any l o) s (λ ts i. let f : Any ≡ Tuple ts = sym o ∙ i in cc)
  under_tuple u ys e a parts l (var t v o) s = no_tuple u ys e a l (var l v o) s (λ ts i. let f : Var v ≡ Tuple ts = sym o ∙ i in cc)
  under_tuple u ys e a parts l (nominal t k xs o h) s = no_tuple u ys e a l (nominal l k xs o h) s (λ ts i. let f : Nominal k xs ≡ Tuple ts = sym o ∙ i in cc)
  under_tuple u ys e a parts l (union t ts o h w x k) s = let f : false ≡ true = sym (ap no_union o) ∙ s in cc
  under_tuple u ys e a parts l (tuple t xs o h w) s =
      let c = single_alts n l (tuple l xs o h w) s in
      decided_by (Both B xs ys) (B l u) (λ b. part_below n l u c a (by_tuple l u xs ys o e b))
      (λ b. tuple_part n xs ys (subst (λ z. PartBy n B z (V.Tuple ys)) (is_tuple l xs o) (subst (PartBy n B l) (is_tuple u ys e) (below_part n l u c a b)))) (parts xs h w)

  both_or : (x y : Ty) (xs ys : List Ty) → Decided (B x y) → Decided (Both B xs ys) → Decided (Both B (x ∷ xs) (y ∷ ys))
  both_or x y xs ys (inl b) (inl c) = inl (both_more x y xs ys b c)
  both_or x y xs ys (inr d) c = inr (λ b. d (both_cons B x y xs ys b).0)
  both_or x y xs ys (inl b) (inr d) = inr (λ c. d (both_cons B x y xs ys c).1)

  some_or : (l u : Ty) (us : List Ty) → Decided (B l u) → Decided (BelowSome n l us) → Decided (BelowSome n l (u ∷ us))
  some_or l u us (inl b) c = inl (inl b)
  some_or l u us (inr d) (inl c) = inl (inr c)
  some_or l u us (inr d) (inr e) = inr (λ c. elim c [ inl b ↦ d b | inr g ↦ e g ])

  mutual
    -- a type that is no union below another
    pub above : (u : Ty) → IsNormal n u → (l : Ty) → IsNormal n l → is_single l ≡ true → Decided (B l u)
    above u (any t e) l h s = inl (subst (B l) (sym (is_any u e)) (below_any n l))
    above u (var t v e) l h s = under_var u v e (single_alts n u (var u v e) (ap no_union e)) l h s
    above u (nominal t k ys e g) l h s = under_nominal u k ys e g (single_alts n u (nominal u k ys e g) (ap no_union e)) l h s
    above u (tuple t ys e g o) l h s = under_tuple u ys e (single_alts n u (tuple u ys e g o) (ap no_union e)) (above_all ys g) l h s
    above u (union t us e g o m k) l h s =
        let a = single_alts n l h s in
        let i = is_union u us e in
        decided_by (BelowSome n l us) (B l u) (λ b. subst (B l) (sym i) (some_below n l us a b)) (λ b. below_some n l us a (subst (B l) i b)) (above_some us g l h s)

    above_some : (us : List Ty) → AllNormal n us → (l : Ty) → IsNormal n l → is_single l ≡ true → Decided (BelowSome n l us)
    above_some us none l h s = inr (λ b. b)
    above_some us (more u vs p q) l h s = some_or l u vs (above u p l h s) (above_some vs q l h s)

    above_all : (ys : List Ty) → AllNormal n ys → (xs : List Ty) → AllNormal n xs → list_all is_single xs ≡ true → Decided (Both B xs ys)
    above_all ys none xs none s = inl both_end
    above_all ys none xs (more x vs p q) s = inr (λ b. elim b [ ])
    above_all ys (more y ws g h) xs none s = inr (λ b. elim b [ ])
    above_all ys (more y ws g h) xs (more x vs p q) s =
        both_or x y vs ws (above y g x p (and_l (is_single x) (list_all is_single vs) s)) (above_all ws h vs q (and_r (is_single x) (list_all is_single vs) s))
