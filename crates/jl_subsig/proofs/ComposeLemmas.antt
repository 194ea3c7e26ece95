-- Below is transitive where no bound of the first signature's variables is concrete.
use Rattle.std.proofs.Common.{◌≡◌, ◌∙◌, sym, ap, subst, refl, ℕ, true, false, nat_eq, List, [], ◌∷◌, map, Some, inl, inr}
use Rattle.std.specs.List.{flat_map, Contains}
use Rattle.jl_model.specs.declared.ty.Ty.{Ty}
use Rattle.jl_model.specs.declared.ty.Ty.TheOpen.{Any, Tuple, Nominal, Var}
use Rattle.jl_model.specs.declared.ty.Ty.TheViews.{out-Ty, outs-Tuple, outs-Nominal}
use Rattle.jl_model.specs.declared.ty.Written.{Written}
use Rattle.jl_model.specs.Kinds.{diagonal, bound}
use Rattle.jl_model.specs.Rows.{forms, alts, low, kind, root, place_of, components, vars_in, Stands, Occurs, standing, bounding}
use Rattle.jl_model.specs.Signature.{Row, IsRow, Both, both_end, both_more, Serves, fixed, top, Meets, Meet, any, tuple, nominal, same, atom, raise_tuple, raise_nominal, meet_end, meet_more, RowBelow, SigBelow}
use Rattle.jl_model.specs.Subtype.{Table, Fixed, opaque, put, lifted, Below, Equals, Equal}
use Rattle.jl_model.proofs.FormLemmas.{is_tuple, is_nominal, is_var, put-tuple, put-nominal, put-var, vars-tuple, vars-var}
use Rattle.jl_model.proofs.PutLemmas.{put-closed, put-put, put_all-put}
use Rattle.jl_model.proofs.AncestorLemmas.{Lawful, eq_of}
use Rattle.jl_model.proofs.TransLemmas.{equal_trans}
use Rattle.jl_subsume.specs.Scoped.{IsScoped, IsOrdered}
use Rattle.jl_search.proofs.HasLemmas.{Has, has_left, has_right, has_flat, has_map, has_of, of_has}
use Rattle.jl_search.proofs.PickLemmas.{has_choices, choices_has}
use Rattle.jl_search.proofs.PartLemmas.{Plain, AllPlain, tuple_parts, var_number, head_plain, tail_plain, plain_single}
use Rattle.jl_subsume.proofs.ScopeLemmas.{IsSlot, Never, Small, which, root_own, low_none, top_diagonal, top_other, chosen_plain, bound_plain, own_small, row_plain, diagonal_small}
use Rattle.jl_subsume.proofs.PutBelowLemmas.{comes, put_opaque, equals_put, lifted_put}
use Rattle.jl_subsume.proofs.SureLemmas.{Sure, AllSure, sure_end, sure_more, sure_tuple, sure_nominal, sure_var, sure_of, of_sure, sure_equal, sure_parts, sure_struct, sure_number, not_any}
use Rattle.jl_subsig.proofs.LeftBelowLemmas.{left_of, high_rigid, left_part, rigid_part, at_tuple, at_nominal, struct_equal, tuple_equal, only_own, left_sure}
use Rattle.jl_subsig.proofs.MiddleLemmas.{Sits, AllSit, sit_end, sit_more, sits_meet, all_retake}
use Rattle.jl_subsig.proofs.TransitiveLemmas.{Loose, loose_of, loose_alone, loose_put, chain, split, sits_high, high_of, trans_left, put_is_tuple, put_is_nominal, rigid_put, rigid_self, rigid_left, rigid_middle, diagonal_of, sits_below, closed_below, put_below, sure_put, put_over}

abbrev pub NoStructAbove : Table → Type 0
NoStructAbove n = (k m : ℕ) (zs : List Ty) → nat_eq k m ≡ false → n.up k m ≡ Some zs → n.is_struct m ≡ false

-- a rigid form that is concrete is concrete whatever is known, also with types put in
module _ (n : Table) (Q : List Ty → Type 0) where
  mutual
    rigid_concrete : (g h : Fixed) (d : Ty) → Plain Never Q d → Sure n g d → Sure n h d
    rigid_concrete g h d p (sure_tuple t ts e s) = sure_tuple d ts e (all_rigid_concrete g h ts (tuple_parts Never Q d ts e p) s)
    rigid_concrete g h d p (sure_nominal t k xs e s) = sure_nominal d k xs e s
    rigid_concrete g h d p (sure_var t v e s) = absurd (var_number Never Q d v e p)

    all_rigid_concrete : (g h : Fixed) (ts : List Ty) → AllPlain Never Q ts → AllSure n g ts → AllSure n h ts
    all_rigid_concrete g h ts p sure_end = sure_end
    all_rigid_concrete g h ts p (sure_more t us s ss) = sure_more t us (rigid_concrete g h t (head_plain Never Q t us p) s) (all_rigid_concrete g h us (tail_plain Never Q t us p) ss)

  module _ (f : ℕ → Ty) where
    mutual
      rigid_put_concrete : (g h : Fixed) (d : Ty) → Plain Never Q d → Sure n g d → Sure n h (put f d)
      rigid_put_concrete g h d p (sure_tuple t ts e s) =
          sure_tuple (put f d) (map (put f) ts) (ap out-Ty (ap (put f) (is_tuple d ts e) ∙ put-tuple f ts) ∙ outs-Tuple (map (put f) ts)) (all_rigid_put_concrete g h ts (tuple_parts Never Q d ts e p) s)
      rigid_put_concrete g h d p (sure_nominal t k xs e s) =
          sure_nominal (put f d) k (map (put f) xs) (ap out-Ty (ap (put f) (is_nominal d k xs e) ∙ put-nominal f k xs) ∙ outs-Nominal k (map (put f) xs)) s
      rigid_put_concrete g h d p (sure_var t v e s) = absurd (var_number Never Q d v e p)

      all_rigid_put_concrete : (g h : Fixed) (ts : List Ty) → AllPlain Never Q ts → AllSure n g ts → AllSure n h (map (put f) ts)
      all_rigid_put_concrete g h ts p sure_end = sure_end
      all_rigid_put_concrete g h ts p (sure_more t us s ss) =
          sure_more (put f t) (map (put f) us) (rigid_put_concrete g h t (head_plain Never Q t us p) s) (all_rigid_put_concrete g h us (tail_plain Never Q t us p) ss)

-- the alternatives of a variable's upper bound in a row, with types put in
module _ (n : Table) (c : Written) (cscope : IsScoped c) (r : Row) (rrow : IsRow n c r) (h : ℕ → Ty) where
  top_rigid : (v : ℕ) (x : Ty) → Has (alts (top c r v)) x → Loose x
  top_rigid v x i = elim (which (kind c v)) [
    | inl e ↦ loose_alone (r.chosen v) (loose_of (Small c cscope) (r.chosen v) (chosen_plain n c r cscope rrow (Small c cscope) (bound_plain c cscope) v e)) x (subst (λ z. Has (alts z) x) (top_diagonal n c r v e) i)
    | inr e ↦ loose_of (Small c cscope) x (bound_plain c cscope v x (subst (λ z. Has (alts z) x) (top_other n c r v e) i))
  ]

  loose_top : (v : ℕ) (u : Ty) → Has (alts (put h (top c r v))) u → Loose u
  loose_top v u i = let s = comes h (top c r v) u i in loose_alone (put h s.0) (loose_put h s.0 (top_rigid v s.0 s.1)) u s.2

-- what stands in a row occurs in it, and in each row where as much stands
stands : (s : Written) (us : List Ty) (k : ℕ) → Has (flat_map vars_in us) k → Occurs s (root s k) us
stands s us k i = standing (root s k) us (of_has (map (root s) (flat_map vars_in us)) (root s k) (has_map (root s) (flat_map vars_in us) k i))

occurs_there : (s : Written) (us ws : List Ty) → ((v : ℕ) → Stands s v us → Stands s v ws) → (v : ℕ) → Occurs s v us → Occurs s v ws
occurs_there s us ws k v (standing x row o) = standing v ws (k v o)
occurs_there s us ws k v (bounding x w row o c) = bounding v w ws (occurs_there s us ws k w o) c

module _ (n : Table) (law : Lawful n) (no_struct : NoStructAbove n) (a : Written) (ascope : IsScoped a) (aordered : IsOrdered n a) (l : Row) (lrow : IsRow n a l)
    (open_bounds : (k : ℕ) → IsSlot a k → Sure n opaque ((fixed a l).high k) → ⊥)
    (b : Written) (bscope : IsScoped b) (m : Row) (mrow : IsRow n b m) (f : ℕ → Ty) (serves : Serves n (fixed a l) b m f)
    (over : (v w : ℕ) → Has (vars_in (f v)) w → Occurs a w l.parts) where
  abbrev G : Fixed
  G = fixed a l

  abbrev K : Fixed
  K = fixed b m

  abbrev B : Ty → Ty → Type 0
  B = Below n G

  abbrev Left : Ty → Type 0
  Left = Plain (IsSlot a) (Small a ascope)

  abbrev Lefts : List Ty → Type 0
  Lefts = AllPlain (IsSlot a) (Small a ascope)

  abbrev Middle : Ty → Type 0
  Middle = Plain (IsSlot b) (Small b bscope)

  abbrev Middles : List Ty → Type 0
  Middles = AllPlain (IsSlot b) (Small b bscope)

  -- rigid forms of the left, and of the middle
  abbrev LeftRigid : Ty → Type 0
  LeftRigid = Plain Never (Small a ascope)

  abbrev LeftRigids : List Ty → Type 0
  LeftRigids = AllPlain Never (Small a ascope)

  abbrev Rigid : Ty → Type 0
  Rigid = Plain Never (Small b bscope)

  abbrev Rigids : List Ty → Type 0
  Rigids = AllPlain Never (Small b bscope)

  abbrev Dom : ℕ → Type 0
  Dom v = Occurs b v m.parts

  abbrev Known : Ty → Type 0
  Known y = (k : ℕ) → Has (vars_in y) k → Dom (root b k)

  abbrev S : Ty → Ty → Type 0
  S = Sits n law a ascope aordered l lrow b bscope m mrow f serves over

  abbrev Ss : List Ty → List Ty → Type 0
  Ss = AllSit n law a ascope aordered l lrow b bscope m mrow f serves over

  known_member : (y : Ty) (ys : List Ty) → out-Ty y ≡ Tuple ys → Known y → (k : ℕ) → Has (flat_map vars_in ys) k → Dom (root b k)
  known_member y ys e h k i = h k (subst (λ z. Has z k) (sym (ap vars_in (is_tuple y ys e) ∙ vars-tuple ys)) i)

  known_var : (y : Ty) (v : ℕ) → out-Ty y ≡ Var v → Known y → Dom (root b v)
  known_var y v e h = h v (subst (λ z. Has z v) (sym (ap vars_in (is_var y v e) ∙ vars-var v)) (inl refl))

  not_bound : (v : ℕ) → K.sure v ≡ true → kind b (root b v) ≡ bound → ⊥
  not_bound v s d =
      let k : kind b v ≡ diagonal = diagonal_of n law a ascope aordered l lrow b bscope m mrow f serves over (kind b v) s in
      let c : diagonal ≡ bound = sym k ∙ sym (ap (kind b) (root_own b v (diagonal_small b bscope v k))) ∙ d in cc

  -- what meets a concrete part is concrete, and equals it
  mutual
    rigid_meets_sure : (d y : Ty) → LeftRigid d → Known y → Meets n G b f d y → Sure n K y → Sure n opaque d
    rigid_meets_sure d y p h (any t u e) s = absurd (not_any n K y e s)
    rigid_meets_sure d y p h (tuple t u xs ys e o q) s = sure_tuple d xs e (all_rigid_meets_sure xs ys (tuple_parts Never (Small a ascope) d xs e p) (known_member y ys o h) q (sure_parts n K y ys o s))
    rigid_meets_sure d y p h (nominal t u k j xs zs ys e o w q) s =
        let c = sure_struct n K y j ys o s in
        let i = eq_of k j (only_own n a ascope l lrow law no_struct k j xs zs c w) in
        sure_nominal d k xs e (ap n.is_struct i ∙ c)
    rigid_meets_sure d y p h (same t u v e k q) s =
        let c : Dom v = subst Dom (root_own b v (diagonal_small b bscope v k)) (known_var y v e h) in
        let g = sure_of n G (f v) (serves.sure v c k) in
        rigid_concrete n (Small a ascope) G opaque d p (sure_equal n law G Never (Small a ascope) d (f v) p q g)
    rigid_meets_sure d y p h (atom t u v e k q) s = absurd (not_bound v (sure_number n K y v e s) k)
    rigid_meets_sure d y p h (raise_tuple t u v ys e o q) s = absurd (var_number Never (Small a ascope) d v e p)
    rigid_meets_sure d y p h (raise_nominal t u v j ys e o q) s = absurd (var_number Never (Small a ascope) d v e p)

    all_rigid_meets_sure : (ds ys : List Ty) → LeftRigids ds → ((k : ℕ) → Has (flat_map vars_in ys) k → Dom (root b k)) → Meet n G b f ds ys → AllSure n K ys → AllSure n opaque ds
    all_rigid_meets_sure ds ys p h meet_end s = sure_end
    all_rigid_meets_sure ds ys p h (meet_more d y es zs q r) (sure_more t ts s ss) =
        sure_more d es (rigid_meets_sure d y (head_plain Never (Small a ascope) d es p) (λ k i. h k (has_left (vars_in y) (flat_map vars_in zs) k i)) q s)
        (all_rigid_meets_sure es zs (tail_plain Never (Small a ascope) d es p) (λ k i. h k (has_right (vars_in y) (flat_map vars_in zs) k i)) r ss)

  no_raise : (x y : Ty) (v : ℕ) → Left x → out-Ty x ≡ Var v → Known y → Meets n G b f (G.high v) y → Sure n K y → ⊥
  no_raise x y v p e h q s = open_bounds v (var_number (IsSlot a) (Small a ascope) x v e p) (rigid_meets_sure (G.high v) y (high_rigid n a ascope l lrow x v e p) h q s)

  mutual
    sure_meets : (x y : Ty) → Left x → Known y → Meets n G b f x y → Sure n K y → Equal n x (put f y)
    sure_meets x y p h (any t u e) s = absurd (not_any n K y e s)
    sure_meets x y p h (tuple t u xs ys e o q) s =
        tuple_equal n a ascope l lrow law no_struct x (put f y) xs (map (put f) ys) e (put_is_tuple n law a ascope aordered l lrow b bscope m mrow f serves over y ys o)
        (all_sure_meets xs ys (tuple_parts (IsSlot a) (Small a ascope) x xs e p) (known_member y ys o h) q (sure_parts n K y ys o s))
    sure_meets x y p h (nominal t u k j xs zs ys e o w q) s =
        struct_equal n a ascope l lrow law no_struct x (put f y) k j xs zs (map (put f) ys) e (put_is_nominal n law a ascope aordered l lrow b bscope m mrow f serves over y j ys o) (sure_struct n K y j ys o s) w q
    sure_meets x y p h (same t u v e k q) s = subst (λ z. Equal n x z) (sym (ap (put f) (is_var y v e) ∙ put-var f v)) q
    sure_meets x y p h (atom t u v e k q) s = absurd (not_bound v (sure_number n K y v e s) k)
    sure_meets x y p h (raise_tuple t u v ys e o q) s = absurd (no_raise x y v p e h q s)
    sure_meets x y p h (raise_nominal t u v j ys e o q) s = absurd (no_raise x y v p e h q s)

    all_sure_meets : (xs ys : List Ty) → Lefts xs → ((k : ℕ) → Has (flat_map vars_in ys) k → Dom (root b k)) → Meet n G b f xs ys → AllSure n K ys → Both (Equal n) xs (map (put f) ys)
    all_sure_meets xs ys p h meet_end s = both_end
    all_sure_meets xs ys p h (meet_more x y es zs q r) (sure_more t ts s ss) =
        both_more x (put f y) es (map (put f) zs) (sure_meets x y (head_plain (IsSlot a) (Small a ascope) x es p) (λ k i. h k (has_left (vars_in y) (flat_map vars_in zs) k i)) q s)
        (all_sure_meets es zs (tail_plain (IsSlot a) (Small a ascope) x es p) (λ k i. h k (has_right (vars_in y) (flat_map vars_in zs) k i)) r ss)

  -- THE THIRD ROW.
  module _ (c : Written) (cscope : IsScoped c) (r : Row) (rrow : IsRow n c r) (h : ℕ → Ty) (hserves : Serves n K c r h) (hover : (v w : ℕ) → Has (vars_in (h v)) w → Dom w) where
    abbrev D : ℕ → Ty
    D v = put f (h v)

    abbrev Third : ℕ → Type 0
    Third v = Occurs c v r.parts

    abbrev Seen : Ty → Type 0
    Seen z = (k : ℕ) → Has (vars_in z) k → Third (root c k)

    seen_member : (y : Ty) (ys : List Ty) → out-Ty y ≡ Tuple ys → Seen y → (k : ℕ) → Has (flat_map vars_in ys) k → Third (root c k)
    seen_member y ys e q k i = q k (subst (λ z. Has z k) (sym (ap vars_in (is_tuple y ys e) ∙ vars-tuple ys)) i)

    -- what is put for a diagonal variable is concrete
    sure_at : (z : Ty) (v : ℕ) → out-Ty z ≡ Var v → kind c v ≡ diagonal → Seen z → Sure n K (h v)
    sure_at z v e k q =
        let i : Third (root c v) = q v (subst (λ w. Has w v) (sym (ap vars_in (is_var z v e) ∙ vars-var v)) (inl refl)) in
        let j : Third v = subst Third (root_own c v (diagonal_small c cscope v k)) i in
        sure_of n K (h v) (hserves.sure v j k)

    both_ways : (y : Ty) (v : ℕ) → Equal n y (h v) → Equal n (put f y) (D v)
    both_ways y v e = (put_opaque n law f y (h v) e.0, put_opaque n law f (h v) y e.1)

    nominal_on : (x y z : Ty) (j q : ℕ) (ys rs zs : List Ty) → out-Ty y ≡ Nominal j ys → out-Ty z ≡ Nominal q zs → lifted n j ys q ≡ Some rs → Equals n rs (map (put h) zs) → Meets n G b f x y → Meets n G c D x z
    nominal_on x y z j q ys rs zs e o w s (any t t2 d) = let i : Nominal j ys ≡ Any = sym e ∙ d in cc
    nominal_on x y z j q ys rs zs e o w s (tuple t t2 xs vs d i p) = let g : Nominal j ys ≡ Tuple vs = sym e ∙ i in cc
    nominal_on x y z j q ys rs zs e o w s (nominal t t2 k i xs os vs d g u p) =
        let ni : Nominal i vs ≡ Nominal j ys = sym g ∙ e in
        let is : i ≡ j = cc in
        let vs_is : vs ≡ ys = cc in
        let u2 : lifted n k xs j ≡ Some os = subst (λ z. lifted n k xs z ≡ Some os) is u in
        let p2 : Equals n os (map (put f) ys) = subst (λ z. Equals n os (map (put f) z)) vs_is p in
        let s2 : Equals n (map (put f) rs) (map (put D) zs) = subst (λ z. Equals n (map (put f) rs) z) (put_all-put f h zs) (equals_put n law f rs (map (put h) zs) s) in
        let v = chain n law a ascope aordered l lrow b bscope m mrow f serves over k j q xs os (map (put f) ys) (map (put f) rs) (map (put D) zs) u2 p2 (lifted_put n law f j q ys rs w) s2 in
        nominal x z k q xs v.0 zs d o v.1 v.2
    nominal_on x y z j q ys rs zs e o w s (same t t2 v d i p) = let g : Nominal j ys ≡ Var v = sym e ∙ d in cc
    nominal_on x y z j q ys rs zs e o w s (atom t t2 v d i p) = let g : Nominal j ys ≡ Var v = sym e ∙ d in cc
    nominal_on x y z j q ys rs zs e o w s (raise_tuple t t2 v vs d i p) = let g : Nominal j ys ≡ Tuple vs = sym e ∙ i in cc
    nominal_on x y z j q ys rs zs e o w s (raise_nominal t t2 v i vs d g p) = raise_nominal x z v q zs d o (nominal_on (G.high v) y z j q ys rs zs e o w s p)

    -- from a rigid form of the middle, with types put in
    rigid_nominal : (x z : Ty) (j q : ℕ) (us rs zs : List Ty) → out-Ty z ≡ Nominal q zs → lifted n j us q ≡ Some rs → Equals n rs (map (put h) zs) → (k : ℕ) (xs os : List Ty)
        → out-Ty x ≡ Nominal k xs → lifted n k xs j ≡ Some os → Equals n os (map (put f) us) → Meets n G c D x z
    rigid_nominal x z j q us rs zs o w s k xs os d i t =
        let s2 : Equals n (map (put f) rs) (map (put D) zs) = subst (λ z. Equals n (map (put f) rs) z) (put_all-put f h zs) (equals_put n law f rs (map (put h) zs) s) in
        let v = chain n law a ascope aordered l lrow b bscope m mrow f serves over k j q xs os (map (put f) us) (map (put f) rs) (map (put D) zs) i t (lifted_put n law f j q us rs w) s2 in
        nominal x z k q xs v.0 zs d o v.1 v.2

    put_rigid : (u : Ty) → Rigid u → LeftRigid (put f u)
    put_rigid = rigid_put n law a ascope aordered l lrow b bscope m mrow f serves over

    single_of : (u : Ty) → Rigid u → alts (put f u) ≡ put f u ∷ []
    single_of u p = plain_single Never (Small a ascope) (put f u) (put_rigid u p)

    mutual
      rigid_on : (x u z : Ty) → Meets n K c h u z → Left x → Rigid u → B x (put f u) → Seen z → Meets n G c D x z
      rigid_on x u z (any u2 z2 e) p q k t = any x z e
      rigid_on x u z (tuple u2 z2 us zs d e w) p q k t =
          let o = put_is_tuple n law a ascope aordered l lrow b bscope m mrow f serves over u us d in
          let us_are = tuple_parts Never (Small b bscope) u us d q in
          elim (left_part n a ascope l lrow x (put f u) p (single_of u q) k) [
            | inl i ↦
                let s = at_tuple n a ascope l lrow x (put f u) (map (put f) us) o i in
                tuple x z s.0 zs s.1 e (all_rigid_on s.0 us zs w (tuple_parts (IsSlot a) (Small a ascope) x s.0 s.1 p) us_are s.2 (seen_member z zs e t))
            | inr i ↦
                let g = high_rigid n a ascope l lrow x i.0 i.1 p in
                let s = at_tuple n a ascope l lrow (G.high i.0) (put f u) (map (put f) us) o (rigid_part n a ascope l lrow (G.high i.0) (put f u) g (single_of u q) i.2) in
                let ls = tuple_parts (IsSlot a) (Small a ascope) (G.high i.0) s.0 s.1 (left_of n a ascope l lrow (G.high i.0) g) in
                raise_tuple x z i.0 zs i.1 e (tuple (G.high i.0) z s.0 zs s.1 e (all_rigid_on s.0 us zs w ls us_are s.2 (seen_member z zs e t)))
          ]
      rigid_on x u z (nominal u2 z2 j y us rs zs d e w s) p q k t =
          let o = put_is_nominal n law a ascope aordered l lrow b bscope m mrow f serves over u j us d in
          elim (left_part n a ascope l lrow x (put f u) p (single_of u q) k) [
            | inl i ↦ let g = at_nominal n a ascope l lrow x (put f u) j (map (put f) us) o i in rigid_nominal x z j y us rs zs e w s g.number g.given g.raised g.is g.lifts g.equals
            | inr i ↦
                let r = high_rigid n a ascope l lrow x i.0 i.1 p in
                let g = at_nominal n a ascope l lrow (G.high i.0) (put f u) j (map (put f) us) o (rigid_part n a ascope l lrow (G.high i.0) (put f u) r (single_of u q) i.2) in
                raise_nominal x z i.0 y zs i.1 e (rigid_nominal (G.high i.0) z j y us rs zs e w s g.number g.given g.raised g.is g.lifts g.equals)
          ]
      rigid_on x u z (same u2 z2 v e d w) p q k t =
          let s = rigid_put_concrete n (Small b bscope) f K opaque u q (sure_equal n law K Never (Small b bscope) u (h v) q w (sure_at z v e d t)) in
          let i = left_sure n a ascope l lrow law no_struct open_bounds x (put f u) p (put_rigid u q) s k in
          same x z v e d (equal_trans n law x (put f u) (D v) i (both_ways u v w))
      rigid_on x u z (atom u2 z2 v e d w) p q k t =
          let i : B (put f u) (D (root c v)) = sits_below n law a ascope aordered l lrow b bscope m mrow f serves over (put f u) u (h (root c v)) (rigid_self n law a ascope aordered l lrow b bscope m mrow f serves over u q) (rigid_left n law a ascope aordered l lrow b bscope m mrow f serves over u q) (rigid_middle n law a ascope aordered l lrow b bscope m mrow f serves over u q) (hover (root c v)) w in
          atom x z v e d (trans_left n law a ascope aordered l lrow b bscope m mrow f serves over x (put f u) (D (root c v)) p k i)
      rigid_on x u z (raise_tuple u2 z2 v zs d e w) p q k t = absurd (var_number Never (Small b bscope) u v d q)
      rigid_on x u z (raise_nominal u2 z2 v y zs d e w) p q k t = absurd (var_number Never (Small b bscope) u v d q)

      all_rigid_on : (xs us zs : List Ty) → Meet n K c h us zs → Lefts xs → Rigids us → Both B xs (map (put f) us) → ((k : ℕ) → Has (flat_map vars_in zs) k → Third (root c k)) → Meet n G c D xs zs
      all_rigid_on xs us zs meet_end p q both_end t = meet_end
      all_rigid_on xs us zs (meet_more u z ws ys w s) p q (both_more x v vs vs2 k ks) t =
          meet_more x z vs ys (rigid_on x u z w (head_plain (IsSlot a) (Small a ascope) x vs p) (head_plain Never (Small b bscope) u ws q) k (λ j i. t j (has_left (vars_in z) (flat_map vars_in ys) j i)))
          (all_rigid_on vs ws ys s (tail_plain (IsSlot a) (Small a ascope) x vs p) (tail_plain Never (Small b bscope) u ws q) ks (λ j i. t j (has_right (vars_in z) (flat_map vars_in ys) j i)))

    mutual
      pub on : (x y z : Ty) → S x y → Left x → Middle y → Known y → Seen z → Meets n K c h y z → Meets n G c D x z
      on x y z s p q k t (any y2 z2 e) = any x z e
      on x y z s p q k t (tuple y2 z2 ys zs d e w) =
          let i = split n law a ascope aordered l lrow b bscope m mrow f serves over x y ys d p s in
          i.meets c D z zs e (all_on i.parts ys zs i.sit i.stand (tuple_parts (IsSlot b) (Small b bscope) y ys d q) (known_member y ys d k) (seen_member z zs e t) w)
      on x y z s p q k t (nominal y2 z2 j i ys rs zs d e w g) = nominal_on x y z j i ys rs zs d e w g (sits_meet n law a ascope aordered l lrow b bscope m mrow f serves over x y s)
      on x y z s p q k t (same y2 z2 v e d w) =
          let u = sure_equal n law K (IsSlot b) (Small b bscope) y (h v) q w (sure_at z v e d t) in
          let i = sure_meets x y p k (sits_meet n law a ascope aordered l lrow b bscope m mrow f serves over x y s) u in
          same x z v e d (equal_trans n law x (put f y) (D v) i (both_ways y v w))
      on x y z s p q k t (atom y2 z2 v e d w) = atom x z v e d (sits_below n law a ascope aordered l lrow b bscope m mrow f serves over x y (h (root c v)) s p q (hover (root c v)) w)
      on x y z s p q k t (raise_tuple y2 z2 v zs d e w) =
          rigid_on x (K.high v) z w p (high_of n law a ascope aordered l lrow b bscope m mrow f serves over y v d q) (sits_high n law a ascope aordered l lrow b bscope m mrow f serves over x y v d s) t
      on x y z s p q k t (raise_nominal y2 z2 v i zs d e w) =
          rigid_on x (K.high v) z w p (high_of n law a ascope aordered l lrow b bscope m mrow f serves over y v d q) (sits_high n law a ascope aordered l lrow b bscope m mrow f serves over x y v d s) t

      pub all_on : (xs ys zs : List Ty) → Ss xs ys → Lefts xs → Middles ys → ((k : ℕ) → Has (flat_map vars_in ys) k → Dom (root b k)) → ((k : ℕ) → Has (flat_map vars_in zs) k → Third (root c k))
          → Meet n K c h ys zs → Meet n G c D xs zs
      all_on xs ys zs sit_end p q k t meet_end = meet_end
      all_on xs ys zs (sit_more x y vs ws s ss) p q k t (meet_more y2 z ws2 es w g) =
          meet_more x z vs es (on x y z s (head_plain (IsSlot a) (Small a ascope) x vs p) (head_plain (IsSlot b) (Small b bscope) y ws q) (λ j i. k j (has_left (vars_in y) (flat_map vars_in ws) j i)) (λ j i. t j (has_left (vars_in z) (flat_map vars_in es) j i)) w)
          (all_on vs ws es ss (tail_plain (IsSlot a) (Small a ascope) x vs p) (tail_plain (IsSlot b) (Small b bscope) y ws q) (λ j i. k j (has_right (vars_in y) (flat_map vars_in ws) j i)) (λ j i. t j (has_right (vars_in z) (flat_map vars_in es) j i)) g)

    pub third_serves : Serves n G c r D
    third_serves = record {
      least = λ v o.
          let t = low c v in
          let e = low_none c cscope v in
          let i : Below n K t (h v) = subst (λ z. Below n K z (h v)) (put-closed h t e) (hserves.least v o) in
          subst (λ z. B z (D v)) (sym (put-closed D t e)) (closed_below n law a ascope aordered l lrow b bscope m mrow f serves over t (h v) e (hover v) i);
      most = λ v o.
          let t = top c r v in
          subst (λ z. B (D v) z) (put-put f h t)
          (put_below n law a ascope aordered l lrow b bscope m mrow f serves over (h v) (put h t) (hover v) (loose_top n c cscope r rrow h v) (hserves.most v o));
      sure = λ v o d. of_sure n G (D v) (sure_put n law a ascope aordered l lrow b bscope m mrow f serves over (h v) (hover v) (sure_of n K (h v) (hserves.sure v o d)));
    }

pub composed : (n : Table) → Lawful n → NoStructAbove n → (a b c : Written) → IsScoped a → IsOrdered n a → IsScoped b → IsScoped c
    → ((l : Row) → IsRow n a l → (k : ℕ) → IsSlot a k → Sure n opaque ((fixed a l).high k) → ⊥) → SigBelow n a b → SigBelow n b c → SigBelow n a c
composed n law no_struct a b c ascope aordered bscope cscope open_bounds ab bc l lrow =
    let s = ab l lrow in
    let m : Row = s.0 in
    let mrow : IsRow n b m = s.1 in
    let q : RowBelow n a l b m = s.2 in
    let f : ℕ → Ty = q.0 in
    let over : (v w : ℕ) → Has (vars_in (f v)) w → Occurs a w l.parts = λ v w i. q.2 v w (of_has (vars_in (f v)) w i) in
    let places : ℕ → List Ty = λ v. place_of b v (kind b v) in
    let picks = choices_has (map (forms places) b.parts) m.parts (has_of (components b) m.parts mrow.parts) in
    let lefts = row_plain a ascope n l lrow in
    let o = all_retake n law a ascope aordered l lrow b bscope m mrow f q.1 over b.parts m.parts l.parts (λ p h v i. own_small b bscope v (has_flat vars_in b.parts p v h i)) picks (λ k i. stands b m.parts k i) lefts q.3 in
    let m2 : Row = record { parts = o.list; chosen = m.chosen } in
    let there : (v : ℕ) → Stands b v m2.parts → Stands b v m.parts = λ v i. subst (λ z. Contains z v) o.roots i in
    let back : (v : ℕ) → Stands b v m.parts → Stands b v m2.parts = λ v i. subst (λ z. Contains z v) (sym o.roots) i in
    let m2row : IsRow n b m2 = record {
      parts = of_has (components b) o.list (has_choices (map (forms places) b.parts) o.list o.are_forms);
      chosen = λ v d i. mrow.chosen v d (there v i);
      other = λ v i. mrow.other v (λ j. i (back v j));
    } in
    let t = bc m2 m2row in
    let r : Row = t.0 in
    let rrow : IsRow n c r = t.1 in
    let w : RowBelow n b m2 c r = t.2 in
    let h : ℕ → Ty = w.0 in
    let hover : (v x : ℕ) → Has (vars_in (h v)) x → Occurs b x m.parts = λ v x i. occurs_there b m2.parts m.parts there x (w.2 v x (of_has (vars_in (h v)) x i)) in
    let known : (k : ℕ) → Has (flat_map vars_in o.list) k → Occurs b (root b k) m.parts = λ k i. occurs_there b m2.parts m.parts there (root b k) (stands b m2.parts k i) in (
      r,
      rrow,
      (
        λ v. put f (h v),
        third_serves n law no_struct a ascope aordered l lrow (open_bounds l lrow) b bscope m mrow f q.1 over c cscope r rrow h w.1 hover,
        λ v x i. put_over n law a ascope aordered l lrow b bscope m mrow f q.1 over (h v) x (has_of (vars_in (put f (h v))) x i),
        all_on n law no_struct a ascope aordered l lrow (open_bounds l lrow) b bscope m mrow f q.1 over c cscope r rrow h w.1 hover l.parts o.list r.parts o.sit lefts (row_plain b bscope n m2 m2row) known
            (λ k i. stands c r.parts k i) w.3,
      ),
    )
