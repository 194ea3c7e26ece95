-- Types in which a declaration that is checked stands, below types that are declared before it.
use Rattle.std.proofs.Common.{◌≡◌, ◌∙◌, sym, ap, subst, refl, ℕ, ◌<◌, arith, Bool, true, false, cond, nat_eq, List, [], ◌∷◌, ◌++◌, map, length, get_or, None, Some, IfOk, Result, Ok, Err}
use Rattle.std.specs.List.{list_all}
use Rattle.std.specs.declared.alloc.AllocError.{AllocError}
use Rattle.jl_model.specs.declared.ty.Ty.{Ty, out-Ty}
use Rattle.jl_model.specs.declared.ty.Ty.TheOpen.{Ty-F, Any, Union, Tuple, Nominal, Var}
use Rattle.jl_model.specs.declared.ty.Ty.TheViews.{outs-Any, outs-Union, outs-Tuple, outs-Nominal, outs-Var}
use Rattle.jl_model.specs.declared.ty.Ty.TheViews as V
use Rattle.jl_model.specs.declared.ty.Ty.TheVariants as W
use Rattle.jl_model.specs.declared.ty.Decl.{Decl}
use Rattle.jl_model.specs.Signature.{Both}
use Rattle.jl_model.specs.Subtype.{Table, opaque, put, at, put_in, lifted, Below}
use Rattle.jl_model.specs.Ancestors.{Ancestor, vars_from, line_above, line_of, lines_after, args_of, up_in, table_of}
use Rattle.jl_model.specs.Members.{BelowSome}
use Rattle.jl_model.specs.Normal.{IsNormal, AllNormal, no_union, none, more}
use Rattle.jl_model.specs.Valid.{is_known}
use Rattle.jl_model.specs.Kept.{IsKept}
use Rattle.jl_model.specs.Refusals.{Declared, table_with, is_abstract_parent}
use Rattle.jl_model.proofs.TypeInduction.{Each}
use Rattle.jl_model.proofs.FormLemmas.{is_any, is_union, is_nominal, alts-nominal}
use Rattle.jl_model.proofs.PutLemmas.{put_at-put, and_l, and_r}
use Rattle.jl_model.proofs.AncestorLemmas.{Lawful, lines_snoc, each_true}
use Rattle.jl_model.proofs.HeightLemmas.{Ways, equals_of}
use Rattle.jl_model.proofs.BelowLemmas.{below_part, below_any, some_below, below_some}
use Rattle.jl_model.proofs.TransLemmas.{far, near}
use Rattle.jl_model.proofs.NormalLemmas.{equals_same, single_alts}
use Rattle.jl_model.proofs.KnownLemmas.{Known, union_known, nominal_known, normal_move}
use Rattle.jl_model.proofs.DeclaredLemmas.{not_false, next_fit}
use Rattle.jl_model.proofs.FillLemmas.{AllFilled, put_normals, next_filled, declared_agree}
use Rattle.jl_types.specs.Ground.{IsGround}
use Rattle.jl_types.proofs.GroundLemmas.{nominal_of, nominal_to, same_eq, differ_eq, tuple_only, var_only}
use Rattle.jl_norm.specs.Refused.{IsWellWritten}
use Rattle.jl_norm.proofs.KeepLemmas.{with_lawful, parent_is_known, parent_is_counted, parent_is_placed}
use Rattle.jl_norm.proofs.AgainLemmas.{order_there, order_back, bounds_long}
use Rattle.jl_norm.proofs.OrderLemmas.{normals_like}
use Rattle.jl_norm.proofs.SmallLemmas.{parts_union, parts_nominal}
use Rattle.jl_norm.proofs.NextLemmas.{get_last, args-under}
use Rattle.jl_norm.proofs.AncestorLemmas.{lines_long}
use Rattle.jl_norm.proofs.ReadyLemmas.{written_kept, again}

-- a test tells a fact
abbrev pub Tells : Bool → Type 0 → Type 0
Tells r P = (r ≡ true → P) × (P → r ≡ true)

no_args : (j : ℕ) (L : List Ancestor) → L ≡ [] → args_of j L ≡ None
no_args j L e = ap (args_of j) e

module _ (ds : List Decl) (d e : Decl) (h : Declared ds) (w : IsWellWritten ds d) (k : IsKept (table_with ds d) d e) where
  abbrev m : ℕ
  m = length ds

  abbrev n : Table
  n = table_with ds d

  abbrev o : Table
  o = table_with ds e

  law : Lawful n
  law = with_lawful ds d w h

  written : IsWellWritten ds e
  written = written_kept ds d e h w k

  law_e : Lawful o
  law_e = with_lawful ds e written h

  there : (t u : Ty) → Below n opaque t u → Below o opaque t u
  there = order_there ds d e h law law_e (parent_is_known ds d w) k.parent (bounds_long n d.params e.params k.params)

  back : (t u : Ty) → Below o opaque t u → Below n opaque t u
  back = order_back ds d e h law law_e (parent_is_known ds d w) k.parent (bounds_long n d.params e.params k.params)

  tells_back : (r : Bool) (t u : Ty) → Tells r (Below o opaque t u) → Tells r (Below n opaque t u)
  tells_back r t u t' = ((λ e. back t u (t'.0 e)), (λ b. t'.1 (there t u b)))

  lowers : (xs : List Ty) → AllNormal n xs → AllNormal o xs
  lowers = normals_like n o there back

  uppers : (ys : List Ty) → Each (Known m) ys → AllNormal (table_of ds) ys → AllNormal o ys
  uppers ys p none = none
  uppers ys p (more t us q r) = more t us (normal_move (table_of ds) o m (declared_agree ds e h) t p.0 q) (uppers us p.1 r)

  -- THE ANCESTORS
  filled : (i j : ℕ) (ys : List Ty) → up_in (ds ++ e ∷ []) i j ≡ Some ys → AllFilled o ys
  filled = next_filled ds e h (next_fit ds e h (parent_is_known ds e written) (parent_is_counted ds e written) (parent_is_placed ds e written)) (again ds d e h w k).parent (parent_is_known ds e written)

  up_before : (i j : ℕ) → i < m → up_in (ds ++ e ∷ []) i j ≡ up_in ds i j
  unfolding table_of
  up_before i j l = sym ((declared_agree ds e h).same i j l)

  abbrev ls : List (List Ancestor)
  ls = lines_after [] ds

  long : length ls ≡ m
  long = let f = lines_long [] ds in omega (arith, f)

  up_own : (j : ℕ) → j < m → up_in (ds ++ e ∷ []) m j ≡ args_of j (line_above ls (out-Ty e.parent))
  up_own j l =
      let differ : nat_eq j (length ls) ≡ false = grind (arith, l, long) in
      ap (λ z. args_of j (get_or z m [])) (lines_snoc [] ds e) ∙ ap (args_of j) (get_last ls (line_of ls e) [] m (sym long)) ∙ ap (λ b. cond b (Some (vars_from 0 e.params)) (args_of j (line_above ls (out-Ty e.parent)))) differ

  up_parent : (j p : ℕ) (ws : List Ty) → j < m → out-Ty e.parent ≡ Nominal p ws → up_in (ds ++ e ∷ []) m j ≡ put_in ws (up_in ds p j)
  up_parent j p ws l q = up_own j l ∙ ap (λ z. args_of j (line_above ls z)) q ∙ args-under ws j (get_or ls p [])

  up_none : (j : ℕ) → j < m → out-Ty e.parent ≡ Any → up_in (ds ++ e ∷ []) m j ≡ None
  up_none j l q = up_own j l ∙ ap (λ z. args_of j (line_above ls z)) q

  -- NOMINAL TYPES
  same_args : (xs ys : List Ty) → AllNormal o xs → AllNormal o ys → Both (Ways (Below o opaque)) xs ys → xs ≡ ys
  same_args xs ys p q b = equals_same o law_e xs ys p q (equals_of o xs ys b)

  pub own_tells : (i j : ℕ) (xs ys : List Ty) (r : Bool) → i ≡ j → AllNormal n xs → AllNormal (table_of ds) ys → Each (Known m) ys → Tells r (xs ≡ ys) → Tells r (Below n opaque (V.Nominal i xs) (V.Nominal j ys))
  own_tells i j xs ys r q p s g t =
      let f = same_eq i j q in
      let l : lifted o i xs j ≡ Some xs = rw f refl in
      tells_back r (V.Nominal i xs) (V.Nominal j ys) (
        (λ c. nominal_to o i j xs ys xs l (t.0 c)),
        (λ b.
            let z = nominal_of o i j xs ys b in
            let a : xs ≡ z.0 = near o law_e i j xs z.0 f z.1 in
            t.1 (a ∙ same_args z.0 ys (subst (AllNormal o) a (lowers xs p)) (uppers ys g s) z.2)),
      )

  none_above : (i j : ℕ) (xs ys : List Ty) → (i ≡ j → ⊥) → up_in (ds ++ e ∷ []) i j ≡ None → Below n opaque (V.Nominal i xs) (V.Nominal j ys) → ⊥
  unfolding table_of
  none_above i j xs ys q u b =
      let z = nominal_of o i j xs ys (there (V.Nominal i xs) (V.Nominal j ys) b) in
      let f = far o law_e i j xs z.0 (differ_eq i j q) z.1 in
      let g : None ≡ Some f.0 = sym u ∙ f.1 in cc

  far_tells : (i j : ℕ) (xs ys as_ : List Ty) (r : Bool) → (i ≡ j → ⊥) → up_in (ds ++ e ∷ []) i j ≡ Some as_ → AllNormal n xs → AllNormal (table_of ds) ys → Each (Known m) ys → Tells r (map (put (at xs)) as_ ≡ ys)
      → Tells r (Below n opaque (V.Nominal i xs) (V.Nominal j ys))
  unfolding table_of
  far_tells i j xs ys as_ r q u p s g t =
      let f = differ_eq i j q in
      let a : lifted o i xs j ≡ put_in xs (o.up i j) = rw f refl in
      let l : lifted o i xs j ≡ Some (map (put (at xs)) as_) = a ∙ ap (put_in xs) u in
      tells_back r (V.Nominal i xs) (V.Nominal j ys) (
        (λ c. nominal_to o i j xs ys (map (put (at xs)) as_) l (t.0 c)),
        (λ b.
            let z = nominal_of o i j xs ys b in
            let y : Some (map (put (at xs)) as_) ≡ Some z.0 = sym l ∙ z.1 in
            let x : map (put (at xs)) as_ ≡ z.0 = cc in
            t.1 (x ∙ same_args z.0 ys (subst (AllNormal o) x (put_normals o xs (lowers xs p) as_ (filled i j as_ u))) (uppers ys g s) z.2)),
      )

  -- a type that is declared before
  pub before_none : (i j : ℕ) (xs ys : List Ty) → (i ≡ j → ⊥) → i < m → up_in ds i j ≡ None → Below n opaque (V.Nominal i xs) (V.Nominal j ys) → ⊥
  before_none i j xs ys q l u b = none_above i j xs ys q (up_before i j l ∙ u) b

  pub before_tells : (i j : ℕ) (xs ys as_ : List Ty) (r : Bool) → (i ≡ j → ⊥) → i < m → up_in ds i j ≡ Some as_ → AllNormal n xs → AllNormal (table_of ds) ys → Each (Known m) ys → Tells r (map (put (at xs)) as_ ≡ ys)
      → Tells r (Below n opaque (V.Nominal i xs) (V.Nominal j ys))
  before_tells i j xs ys as_ r q l u p s g t = far_tells i j xs ys as_ r q (up_before i j l ∙ u) p s g t

  -- the new type
  differs : (j : ℕ) → j < m → m ≡ j → ⊥
  differs j l q = omega arith

  pub parent_none : (j p : ℕ) (ws xs ys : List Ty) → j < m → e.parent ≡ V.Nominal p ws → up_in ds p j ≡ None → Below n opaque (V.Nominal m xs) (V.Nominal j ys) → ⊥
  parent_none j p ws xs ys l q u b = none_above m j xs ys (differs j l) (up_parent j p ws l (ap out-Ty q ∙ outs-Nominal p ws) ∙ ap (put_in ws) u) b

  pub parent_tells : (j p : ℕ) (ws xs ys as_ lifts : List Ty) (r : Bool) → j < m → e.parent ≡ V.Nominal p ws → up_in ds p j ≡ Some as_ → lifts ≡ map (put (at xs)) ws → AllNormal n xs → AllNormal (table_of ds) ys → Each (Known m) ys
      → Tells r (map (put (at lifts)) as_ ≡ ys) → Tells r (Below n opaque (V.Nominal m xs) (V.Nominal j ys))
  parent_tells j p ws xs ys as_ lifts r l q u i f s g t =
      let v = up_parent j p ws l (ap out-Ty q ∙ outs-Nominal p ws) ∙ ap (put_in ws) u in
      let a : map (put (at xs)) (map (put (at ws)) as_) ≡ map (put (at lifts)) as_ = put_at-put xs ws as_ ∙ ap (λ z. map (put (at z)) as_) (sym i) in
      far_tells m j xs ys (map (put (at ws)) as_) r (differs j l) v f s g ((λ c. a ∙ t.0 c), (λ b. t.1 (sym a ∙ b)))

  pub any_none : (j : ℕ) (xs ys : List Ty) → j < m → ((p : ℕ) (ws : List Ty) → e.parent ≡ V.Nominal p ws → ⊥) → Below n opaque (V.Nominal m xs) (V.Nominal j ys) → ⊥
  any_none j xs ys l q b = none_above m j xs ys (differs j l) (up_none j l (go (out-Ty e.parent) refl)) b
    where
      a : is_abstract_parent ds (out-Ty e.parent) ≡ true
      a = not_false (is_abstract_parent ds (out-Ty e.parent)) written.abstract

      go : (x : Ty-F Ty) → out-Ty e.parent ≡ x → out-Ty e.parent ≡ Any
      go Any i = i
      go (Union ts) i = let f : false ≡ true = sym (ap (is_abstract_parent ds) i) ∙ a in cc
      go (Tuple ts) i = let f : false ≡ true = sym (ap (is_abstract_parent ds) i) ∙ a in cc
      go (Var v) i = let f : false ≡ true = sym (ap (is_abstract_parent ds) i) ∙ a in cc
      go (Nominal p ws) i = absurd (q p ws (is_nominal e.parent p ws i))

-- THE FORMS OF THE UPPER TYPE
pub any_above : (n : Table) (l u : Ty) → u ≡ W.Any → Tells true (Below n opaque l u)
any_above n l u e = ((λ h. subst (λ z. Below n opaque l z) (sym e) (below_any n l)), (λ b. refl))

pub union_above : (n : Table) (i : ℕ) (xs : List Ty) (u : Ty) (us vs : List Ty) (r : Bool) → u ≡ V.Union us → vs ≡ us → Tells r (BelowSome n (V.Nominal i xs) vs) → Tells r (Below n opaque (V.Nominal i xs) u)
union_above n i xs u us vs r e f t =
    let a = alts-nominal i xs in
    let k = subst (λ z. Tells r (BelowSome n (V.Nominal i xs) z)) f t in
    subst (λ z. Tells r (Below n opaque (V.Nominal i xs) z)) (sym e) ((λ x. some_below n (V.Nominal i xs) us a (k.0 x)), (λ x. k.1 (below_some n (V.Nominal i xs) us a x)))

pub none_other : (n b : Table) (i : ℕ) (xs : List Ty) (u : Ty) → IsNormal b u → (u ≡ W.Any → ⊥) → ((us : List Ty) → u ≡ V.Union us → ⊥) → ((j : ℕ) (ys : List Ty) → u ≡ V.Nominal j ys → ⊥) → Below n opaque (V.Nominal i xs) u → ⊥
none_other n b i xs u g p q r c = go (out-Ty u) refl
  where
    l : Ty
    l = V.Nominal i xs

    go : (x : Ty-F Ty) → out-Ty u ≡ x → ⊥
    go Any e = p (is_any u e)
    go (Union us) e = q us (is_union u us e)
    go (Nominal j ys) e = r j ys (is_nominal u j ys e)
    go (Tuple ys) e =
        let f = single_alts b u g (ap no_union e) in
        tuple_only n l u ys e (λ ts h. let k : Nominal i xs ≡ Tuple ts = sym (outs-Nominal i xs) ∙ ap out-Ty h ∙ outs-Tuple ts in cc) (below_part n l u (alts-nominal i xs) f c)
    go (Var v) e =
        let f = single_alts b u g (ap no_union e) in
        let h = var_only n l u v e (below_part n l u (alts-nominal i xs) f c) in
        let k : Nominal i xs ≡ Var v = sym (outs-Nominal i xs) ∙ ap out-Ty h ∙ outs-Var v in cc

pub union_above_ok : (n : Table) (i : ℕ) (xs : List Ty) (u : Ty) (us vs : List Ty) (r : Result Bool AllocError) → u ≡ V.Union us → vs ≡ us → IfOk r (λ b. Tells b (BelowSome n (V.Nominal i xs) vs)) → IfOk r (λ b. Tells b (Below n opaque (V.Nominal i xs) u))
union_above_ok n i xs u us vs (Ok b) e f t = union_above n i xs u us vs b e f t
union_above_ok n i xs u us vs (Err x) e f t = t

-- the parts of the upper type
pub union_normals : (b : Table) (u : Ty) (us vs : List Ty) → u ≡ V.Union us → vs ≡ us → IsNormal b u → AllNormal b vs
union_normals b u us vs e f g = subst (AllNormal b) (sym f) (all_of us (parts_union b us (subst (IsNormal b) e g)))
  where
    all_of : (ts : List Ty) → Each (IsNormal b) ts → AllNormal b ts
    all_of [] p = none
    all_of (t ∷ ts) p = more t ts p.0 (all_of ts p.1)

pub nominal_normals : (b : Table) (u : Ty) (j : ℕ) (us vs : List Ty) → u ≡ V.Nominal j us → vs ≡ us → IsNormal b u → AllNormal b vs
nominal_normals b u j us vs e f g = subst (AllNormal b) (sym f) (all_of us (parts_nominal b j us (subst (IsNormal b) e g)))
  where
    all_of : (ts : List Ty) → Each (IsNormal b) ts → AllNormal b ts
    all_of [] p = none
    all_of (t ∷ ts) p = more t ts p.0 (all_of ts p.1)

pub union_knowns : (m : ℕ) (u : Ty) (us vs : List Ty) → u ≡ V.Union us → vs ≡ us → Known m u → list_all (is_known m) vs ≡ true
union_knowns m u us vs e f g = ap (list_all (is_known m)) f ∙ each_true (is_known m) us (union_known m us (sym (ap (is_known m) e) ∙ g))

pub nominal_knowns : (m : ℕ) (u : Ty) (j : ℕ) (us vs : List Ty) → u ≡ V.Nominal j us → vs ≡ us → Known m u → (j < m) × (list_all (is_known m) vs ≡ true)
nominal_knowns m u j us vs e f g = let p = nominal_known m j us (sym (ap (is_known m) e) ∙ g) in (p.0, ap (list_all (is_known m)) f ∙ each_true (is_known m) us p.1)

pub first_ground : (ds : List Decl) (xs : List Ty) (x : Ty) (ys : List Ty) → xs ≡ x ∷ ys → AllNormal (table_of ds) xs → list_all (is_known (length ds)) xs ≡ true → IsGround ds x
first_ground ds xs x ys e p q = record { normal = go (subst (AllNormal (table_of ds)) e p); known = and_l (is_known (length ds) x) (list_all (is_known (length ds)) ys) (sym (ap (list_all (is_known (length ds))) e) ∙ q) }
  where
    go : AllNormal (table_of ds) (x ∷ ys) → IsNormal (table_of ds) x
    go (more t us g r) = g

pub rest_normals : (ds : List Decl) (xs : List Ty) (x : Ty) (ys : List Ty) → xs ≡ x ∷ ys → AllNormal (table_of ds) xs → AllNormal (table_of ds) ys
rest_normals ds xs x ys e p = go (subst (AllNormal (table_of ds)) e p)
  where
    go : AllNormal (table_of ds) (x ∷ ys) → AllNormal (table_of ds) ys
    go (more t us g r) = r

pub rest_knowns : (m : ℕ) (xs : List Ty) (x : Ty) (ys : List Ty) → xs ≡ x ∷ ys → list_all (is_known m) xs ≡ true → list_all (is_known m) ys ≡ true
rest_knowns m xs x ys e q = and_r (is_known m x) (list_all (is_known m) ys) (sym (ap (list_all (is_known m)) e) ∙ q)
