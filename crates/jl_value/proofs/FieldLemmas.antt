-- Whether a type is below a field's type, form by form.
use Rattle.std.proofs.Common.{◌≡◌, ◌∙◌, sym, ap, subst, refl, ℕ, zero, suc, ◌+◌, ◌<◌, ◌≤◌, arith, add-one, Bool, true, false, List, [], ◌∷◌, map, length, drop, get_or, nat_eq, ◌==◌, None, Some, inl, inr}
use Rattle.std.specs.List.{list_all}
use Rattle.jl_model.specs.declared.ty.Ty.{Ty}
use Rattle.jl_model.specs.declared.ty.Ty.TheOpen.{Tuple}
use Rattle.jl_model.specs.declared.ty.Ty.TheViews.{out-Ty, outs-Union, outs-Tuple, outs-Nominal}
use Rattle.jl_model.specs.declared.ty.Ty.TheViews as V
use Rattle.jl_model.specs.declared.ty.Ty.TheVariants as W
use Rattle.jl_model.specs.declared.ty.Decl.{Decl}
use Rattle.jl_model.specs.Ancestors.{table_of, up_in}
use Rattle.jl_model.specs.Signature.{Both, both_more}
use Rattle.jl_model.specs.Subtype.{Table, opaque, put, at, Below}
use Rattle.jl_model.specs.Members.{BelowSome}
use Rattle.jl_model.specs.Normal.{AllNormal, is_single, no_union, none, more}
use Rattle.jl_model.specs.Refusals.{Declared}
use Rattle.jl_model.proofs.TypeInduction.{Each}
use Rattle.jl_model.proofs.FormLemmas.{is_tuple, put-any, put-union, put-tuple, put-nominal, put-var}
use Rattle.jl_model.proofs.PutLemmas.{and_l, and_r}
use Rattle.jl_model.proofs.NormalLemmas.{single_alts}
use Rattle.jl_model.proofs.CountLemmas.{nodes_all}
use Rattle.jl_model.proofs.BelowLemmas.{some_below, below_some, below_any}
use Rattle.jl_types.specs.Ground.{IsGround, AreSingles, AllExact, Lower}
use Rattle.jl_types.proofs.GroundLemmas.{Tells, own_case, far_case, none_case, no_nominal, nominal_exact, nominal_args, ground_lower}
use Rattle.jl_types.proofs.TableLemmas.{get-past}
use Rattle.jl_value.proofs.TupleLemmas.{One, both_tuple, below_tuple}

singles_one : (n : Table) (ts : List Ty) → AllNormal n ts → list_all is_single ts ≡ true → Each One ts
singles_one n ts none s = tt
singles_one n ts (more t us p q) s = (single_alts n t p (and_l (is_single t) (list_all is_single us) s), singles_one n us q (and_r (is_single t) (list_all is_single us) s))

pub any_case : (n : Table) (l t : Ty) (xs : List Ty) → t ≡ W.Any → Tells true (Below n opaque l (put (at xs) t))
any_case n l t xs e = ((λ h. subst (Below n opaque l) (sym (ap (put (at xs)) e ∙ put-any (at xs))) (below_any n l)), (λ b. refl))

pub past_case : (n : Table) (l t : Ty) (v : ℕ) (xs : List Ty) → t ≡ W.Var v → length xs ≤ v → Tells true (Below n opaque l (put (at xs) t))
past_case n l t v xs e h =
    let p : at xs v ≡ W.Any = get-past xs v W.Any h in
    ((λ c. subst (Below n opaque l) (sym (ap (put (at xs)) e ∙ put-var (at xs) v ∙ p)) (below_any n l)), (λ b. refl))

pub union_case : (ds : List Decl) (l t : Ty) (ts vs xs : List Ty) (r : Bool) → t ≡ V.Union ts → vs ≡ ts → IsGround ds l → is_single l ≡ true
    → Tells r (BelowSome (table_of ds) l (map (put (at xs)) vs)) → Tells r (Below (table_of ds) opaque l (put (at xs) t))
union_case ds l t ts vs xs r e f g s h =
    let n = table_of ds in
    let o = single_alts n l g.normal s in
    let u : put (at xs) t ≡ V.Union (map (put (at xs)) vs) = ap (put (at xs)) e ∙ put-union (at xs) ts ∙ ap (λ z. V.Union (map (put (at xs)) z)) (sym f) in
    let us = map (put (at xs)) vs in
    subst (λ z. Tells r (Below n opaque l z)) (sym u) ((λ c. some_below n l us o (h.0 c)), (λ b. h.1 (below_some n l us o b)))

pub tuple_case : (ds : List Decl) (l t : Ty) (ls ts vs ws xs : List Ty) (r : Bool) → t ≡ V.Tuple ts → l ≡ V.Tuple ls → vs ≡ ts → ws ≡ ls → IsGround ds l → is_single l ≡ true → AreSingles ds ws
    → Tells r (Both (Below (table_of ds) opaque) ws (map (put (at xs)) vs)) → Tells r (Below (table_of ds) opaque l (put (at xs) t))
tuple_case ds l t ls ts vs ws xs r e i f j g s a h =
    let n = table_of ds in
    let B = Below n opaque in
    let o : One l = single_alts n l g.normal s in
    let us = map (put (at xs)) vs in
    let u : put (at xs) t ≡ V.Tuple us = ap (put (at xs)) e ∙ put-tuple (at xs) ts ∙ ap (λ z. V.Tuple (map (put (at xs)) z)) (sym f) in
    let k : l ≡ V.Tuple ws = i ∙ ap (λ z. V.Tuple z) (sym j) in
    let each = singles_one n ws a.normal a.single in
    subst (λ z. Tells r (B l z)) (sym u) (
      (λ c. subst (λ z. B z (V.Tuple us)) (sym k) (both_tuple n ws us (subst One k o) each (h.0 c))),
      (λ b.
          let q = below_tuple n l us o b in
          let w : Tuple ws ≡ Tuple q.0 = sym (outs-Tuple ws) ∙ sym (ap out-Ty k) ∙ q.1 in
          let x : q.0 ≡ ws = cc in
          h.1 (subst (λ z. Both B z us) x (q.2 (subst (Each One) (sym x) each)))),
    )

pub no_tuple : (ds : List Decl) (l t : Ty) (ts xs : List Ty) → t ≡ V.Tuple ts → IsGround ds l → is_single l ≡ true → ((ls : List Ty) → l ≡ V.Tuple ls → ⊥) → Tells false (Below (table_of ds) opaque l (put (at xs) t))
no_tuple ds l t ts xs e g s h =
    let n = table_of ds in
    let us = map (put (at xs)) ts in
    let u : put (at xs) t ≡ V.Tuple us = ap (put (at xs)) e ∙ put-tuple (at xs) ts in (
      (λ c. let f : false ≡ true = c in cc),
      (λ b. let q = below_tuple n l us (single_alts n l g.normal s) (subst (Below n opaque l) u b) in absurd (h q.0 (is_tuple l q.0 q.1))),
    )

-- a nominal type of the same name is above it where the arguments are the same, and none is above a type of another form
single_lower : (ds : List Decl) → Declared ds → (m : ℕ) (l : Ty) → IsGround ds l → is_single l ≡ true → Lower ds m l
single_lower ds h m l g s = ground_lower ds h m l g (λ ts e. let f : true ≡ false = sym s ∙ ap is_single e ∙ ap no_union (outs-Union ts) in cc)

pub own_name : (ds : List Decl) → Declared ds → (l : Ty) (k m : ℕ) (ls ws ys : List Ty) (r : Bool) → k ≡ m → l ≡ V.Nominal k ls → ws ≡ ls → IsGround ds l → is_single l ≡ true → IsGround ds (V.Nominal m ys)
    → Tells r (ys ≡ ws) → Tells r (Below (table_of ds) opaque l (V.Nominal m ys))
own_name ds h l k m ls ws ys r q e f g s u t =
    let n = table_of ds in
    let w = nodes_all ys in
    let exact : AllExact n w ws = nominal_exact ds w l k ls ws e f (single_lower ds h w l g s) w (omega arith) in
    let normal : AllNormal n ys = nominal_args ds (V.Nominal m ys) m ys ys refl refl u in
    let j : V.Nominal k ws ≡ l = ap (λ z. V.Nominal k z) f ∙ sym e in
    subst (λ z. Tells r (Below n opaque z (V.Nominal m ys))) j (own_case ds h k m ws ys r q exact normal ((λ c. sym (t.0 c)), (λ b. t.1 (sym b))))

pub no_name : (ds : List Decl) → Declared ds → (l : Ty) (m : ℕ) (ys : List Ty) → IsGround ds l → is_single l ≡ true → IsGround ds (V.Nominal m ys) → ((k : ℕ) (ls : List Ty) → l ≡ V.Nominal k ls → ⊥)
    → Tells false (Below (table_of ds) opaque l (V.Nominal m ys))
no_name ds h l m ys g s u d = (
  (λ c. let f : false ≡ true = c in cc),
  (λ b. absurd (no_nominal ds 0 (V.Nominal m ys) l m ys refl u (single_lower ds h 0 l g s) d b)),
)

-- a nominal type without arguments is above one of another name where it is among its ancestors
no_arguments : (xs zs : List Ty) (r : Bool) → r ≡ nat_eq (length zs) 0 → Tells r (map (put (at xs)) zs ≡ [])
no_arguments xs [] r e = ((λ c. refl), (λ b. e))
no_arguments xs (z ∷ zs) r e = (
  (λ c. let f : nat_eq (length (z ∷ zs)) 0 ≡ true = sym e ∙ c in let g : length (z ∷ zs) ≡ 0 = grind (arith, f) in absurd (omega (arith, g))),
  (λ b. cc),
)

pub nothing_in : (ts : List Ty) → (length ts == 0) ≡ true → ts ≡ []
nothing_in [] e = refl
nothing_in (t ∷ ts) e = let f : length (t ∷ ts) ≡ 0 = grind (arith, e) in absurd (omega (arith, f))

pub plain_above : (ds : List Decl) → Declared ds → (k m : ℕ) (xs zs : List Ty) (r : Bool) → (k ≡ m → ⊥) → up_in ds k m ≡ Some zs → IsGround ds (V.Nominal k xs) → r ≡ nat_eq (length zs) 0
    → Tells r (Below (table_of ds) opaque (V.Nominal k xs) (V.Nominal m []))
plain_above ds h k m xs zs r d u g e =
    let l = V.Nominal k xs in
    let w = nodes_all [] in
    let exact : AllExact (table_of ds) w xs = nominal_exact ds w l k xs xs refl refl (single_lower ds h w l g (ap no_union (outs-Nominal k xs))) w (omega arith) in
    far_case ds h k m xs [] zs r d u exact none (no_arguments xs zs r e)

pub none_above : (ds : List Decl) → Declared ds → (k m : ℕ) (xs : List Ty) → (k ≡ m → ⊥) → up_in ds k m ≡ None → Tells false (Below (table_of ds) opaque (V.Nominal k xs) (V.Nominal m []))
none_above ds h k m xs d u = ((λ c. let f : false ≡ true = c in cc), (λ b. absurd (none_case ds h k m xs [] d u b)))

pub name_case : (ds : List Decl) (l t : Ty) (k : ℕ) (ts vs xs : List Ty) (r : Bool) → t ≡ V.Nominal k ts → vs ≡ ts → Tells r (Below (table_of ds) opaque l (V.Nominal k (map (put (at xs)) vs))) → Tells r (Below (table_of ds) opaque l (put (at xs) t))
name_case ds l t k ts vs xs r e f h =
    let u : put (at xs) t ≡ V.Nominal k (map (put (at xs)) vs) = ap (put (at xs)) e ∙ put-nominal (at xs) k ts ∙ ap (λ z. V.Nominal k (map (put (at xs)) z)) (sym f) in
    subst (λ z. Tells r (Below (table_of ds) opaque l z)) (sym u) h

-- lists from a place on, with types put in the second one
both_cons : (P : Ty → Ty → Type 0) (x y : Ty) (xs ys : List Ty) → Both P (x ∷ xs) (y ∷ ys) → P x y × Both P xs ys
both_cons P x y xs ys (both_more a b vs ws p r) = (p, r)

pub both_at : (P : Ty → Ty → Type 0) (f : Ty → Ty) (xs ys : List Ty) (i : ℕ) (x y : Ty) → i < length xs → i < length ys → x ≡ get_or xs i x → y ≡ get_or ys i y
    → (Both P (drop i xs) (map f (drop i ys)) → P x (f y) × Both P (drop (i + 1) xs) (map f (drop (i + 1) ys)))
    × (P x (f y) × Both P (drop (i + 1) xs) (map f (drop (i + 1) ys)) → Both P (drop i xs) (map f (drop i ys)))
both_at P f [] ys i x y p q d e = absurd (omega arith)
both_at P f (a ∷ xs) [] i x y p q d e = absurd (omega arith)
both_at P f (a ∷ xs) (b ∷ ys) zero x y p q d e =
    let Q : Ty → Ty → Type 0 = λ v w. (Both P (a ∷ xs) (f b ∷ map f ys) → P v (f w) × Both P xs (map f ys)) × (P v (f w) × Both P xs (map f ys) → Both P (a ∷ xs) (f b ∷ map f ys)) in
    subst (λ z. Q z y) (sym d) (subst (λ z. Q a z) (sym e) (both_cons P a (f b) xs (map f ys), λ h. both_more a (f b) xs (map f ys) h.0 h.1))
both_at P f (a ∷ xs) (b ∷ ys) (suc i) x y p q d e = rw add-one (rw add-one at (both_at P f xs ys i x y (omega arith) (omega arith) d e))

pub both_long : (P : Ty → Ty → Type 0) (f : Ty → Ty) (xs ys : List Ty) → Both P xs (map f ys) → length xs ≡ length ys
both_long P f [] [] h = refl
both_long P f [] (y ∷ ys) h = elim h [ ]
both_long P f (x ∷ xs) [] h = elim h [ ]
both_long P f (x ∷ xs) (y ∷ ys) h = ap suc (both_long P f xs ys (both_cons P x (f y) xs (map f ys) h).1)

pub some_at : (n : Table) (l : Ty) (f : Ty → Ty) (ts : List Ty) (i : ℕ) (t : Ty) → Below n opaque l (f t) → i < length ts → t ≡ get_or ts i t → BelowSome n l (map f ts)
some_at n l f [] i t h lt e = absurd (omega arith)
some_at n l f (x ∷ xs) zero t h lt e = inl (subst (λ z. Below n opaque l (f z)) e h)
some_at n l f (x ∷ xs) (suc i) t h lt e = inr (some_at n l f xs i t h (omega arith) e)

-- the next one is not above it
pub none_at : (n : Table) (l : Ty) (f : Ty → Ty) (ts : List Ty) (i : ℕ) (t : Ty) → (Below n opaque l (f t) → ⊥) → i < length ts → t ≡ get_or ts i t
    → BelowSome n l (map f (drop i ts)) → BelowSome n l (map f (drop (i + 1) ts))
none_at n l f [] i t h lt e s = absurd (omega arith)
none_at n l f (x ∷ xs) zero t h lt e (inl b) = absurd (h (subst (λ z. Below n opaque l (f z)) (sym e) b))
none_at n l f (x ∷ xs) zero t h lt e (inr s) = s
none_at n l f (x ∷ xs) (suc i) t h lt e s = rw add-one (rw add-one at (none_at n l f xs i t h (omega arith) e) s)
