-- Tables whose ancestors have equal arguments have the same order of types.
use Rattle.std.proofs.Common.{◌≡◌, ◌∙◌, sym, ap, subst, refl, ℕ, zero, suc, Bool, true, false, nat_eq, List, [], ◌∷◌, map, Option, None, Some, ◌⊎◌, inl, inr}
use Rattle.jl_model.specs.declared.ty.Ty.{Ty}
use Rattle.jl_model.specs.Rows.{alts}
use Rattle.jl_model.specs.Signature.{Both, both_end, both_more}
use Rattle.jl_model.specs.Subtype.{Table, opaque, put, at, put_in, lifted, Below, Part, any, tuple, nominal, self}
use Rattle.jl_model.specs.Normal.{Leads, Members, IsNormal, AllNormal, IsNormalForm, any as normal_any, var as normal_var, nominal as normal_nominal, tuple as normal_tuple, union as normal_union, none, more}
use Rattle.jl_model.proofs.AncestorLemmas.{Lawful}
use Rattle.jl_model.proofs.HeightLemmas.{Ways, PartBy, by_any, by_tuple, by_nominal, by_self, both_map, cover_map, BelowAt, parts_of, equals_of, below_of, high}
use Rattle.jl_model.proofs.TransLemmas.{below_trans}

-- one after another
pub ways_trans : (n : Table) → Lawful n → (xs ys zs : List Ty) → Both (Ways (Below n opaque)) xs ys → Both (Ways (Below n opaque)) ys zs → Both (Ways (Below n opaque)) xs zs
ways_trans n law xs ys zs both_end both_end = both_end
ways_trans n law xs ys zs (both_more x y vs ws p r) (both_more t z us os q s) =
    both_more x z vs os (below_trans n law x y z p.0 q.0, below_trans n law z y x q.1 p.1) (ways_trans n law vs ws os r s)

-- the ancestors of n are those of o, with arguments that are equal in o
pub record Nears (n o : Table) : Type 0 where
  pub neither : (k j : ℕ) → n.up k j ≡ None → o.up k j ≡ None
  pub both : (k j : ℕ) (zs : List Ty) → n.up k j ≡ Some zs
      → (ws : List Ty) × (o.up k j ≡ Some ws) × ((xs : List Ty) → Both (Ways (Below o opaque)) (map (put (at xs)) ws) (map (put (at xs)) zs))

module _ (n o : Table) (law : Lawful o) (nears : Nears n o) where
  same_or : (b : Bool) → (b ≡ true) ⊎ (b ≡ false)
  same_or true = inl refl
  same_or false = inr refl

  put_some : (xs zs : List Ty) (u : Option (List Ty)) → put_in xs u ≡ Some zs → (vs : List Ty) × (u ≡ Some vs) × (map (put (at xs)) vs ≡ zs)
  put_some xs zs None h = let f : None ≡ Some zs = h in cc
  put_some xs zs (Some vs) h = let f : Some (map (put (at xs)) vs) ≡ Some zs = h in (vs, refl, cc)

  abbrev Lifts : ℕ → List Ty → ℕ → List Ty → Type 0
  Lifts k xs j zs = (ws : List Ty) × (lifted o k xs j ≡ Some ws) × Both (Ways (Below o opaque)) ws zs

  lifted_near : (k j : ℕ) (xs zs ys : List Ty) → lifted n k xs j ≡ Some zs → Both (Ways (Below o opaque)) zs ys → Lifts k xs j ys
  lifted_near k j xs zs ys l b = elim (same_or (nat_eq k j)) [
    | inl t ↦
        let a : lifted n k xs j ≡ Some xs = rw t refl in
        let c : lifted o k xs j ≡ Some xs = rw t refl in
        let f : Some xs ≡ Some zs = sym a ∙ l in
        let e : zs ≡ xs = cc in
        (xs, c, subst (λ z. Both (Ways (Below o opaque)) z ys) e b)
    | inr t ↦
        let a : lifted n k xs j ≡ put_in xs (n.up k j) = rw t refl in
        let c : lifted o k xs j ≡ put_in xs (o.up k j) = rw t refl in
        let r = put_some xs zs (n.up k j) (sym a ∙ l) in
        let s = nears.both k j r.0 r.1 in
        let ws = map (put (at xs)) s.0 in
        (ws, c ∙ ap (put_in xs) s.1, ways_trans o law ws zs ys (subst (λ z. Both (Ways (Below o opaque)) ws z) r.2 (s.2 xs)) b)
  ]

  part_near : (P : Ty → Ty → Type 0) → ((x y : Ty) → P x y → Below o opaque x y) → (t u : Ty) → PartBy n P t u → Part o opaque t u
  part_near P f t u (by_any a b e) = any opaque t u e
  part_near P f t u (by_tuple a b xs ys d e p) = tuple opaque t u xs ys d e (parts_of o xs ys (both_map P (Below o opaque) f xs ys p))
  part_near P f t u (by_nominal a b k j xs zs ys d e l p) =
      let q = both_map (Ways P) (Ways (Below o opaque)) (λ x y w. (f x y w.0, f y x w.1)) zs ys p in
      let r = lifted_near k j xs zs ys l q in
      nominal opaque t u k j xs r.0 ys d e r.1 (equals_of o r.0 ys r.2)
  part_near P f t u (by_self a b v d e) = self opaque t u v d e

  height_near : (h : ℕ) (t u : Ty) → BelowAt n h t u → Below o opaque t u
  height_near zero t u b = absurd b
  height_near (suc h) t u b = below_of o t u (cover_map (PartBy n (BelowAt n h)) (Part o opaque) (part_near (BelowAt n h) (height_near h)) (alts t) (alts u) b)

  pub below_near : (t u : Ty) → Below n opaque t u → Below o opaque t u
  below_near t u b = let r = high n t u b in height_near r.0 t u r.1

-- tables with the same order have the same normal forms
module _ (n o : Table) (there : (t u : Ty) → Below n opaque t u → Below o opaque t u) (back : (t u : Ty) → Below o opaque t u → Below n opaque t u) where
  leads_like : (t : Ty) (ts : List Ty) → Leads n t ts → Leads o t ts
  leads_like t [] h = tt
  leads_like t (u ∷ us) h = (h.0, ((λ b. h.1.0 (back t u b)), (λ b. h.1.1 (back u t b))), leads_like t us h.2)

  members_like : (ts : List Ty) → Members n ts → Members o ts
  members_like [] h = tt
  members_like (t ∷ ts) h = (leads_like t ts h.0, members_like ts h.1)

  mutual
    pub normal_like : (t : Ty) → IsNormal n t → IsNormal o t
    normal_like t (normal_any a e) = normal_any t e
    normal_like t (normal_var a v e) = normal_var t v e
    normal_like t (normal_nominal a k xs e h) = normal_nominal t k xs e (normals_like xs h)
    normal_like t (normal_tuple a xs e h s) = normal_tuple t xs e (normals_like xs h) s
    normal_like t (normal_union a ts e h s g l) = normal_union t ts e (normals_like ts h) s (members_like ts g) l

    pub normals_like : (ts : List Ty) → AllNormal n ts → AllNormal o ts
    normals_like ts none = none
    normals_like ts (more t us h r) = more t us (normal_like t h) (normals_like us r)

  pub form_like : (t u : Ty) → IsNormalForm n t u → IsNormalForm o t u
  form_like t u f = record { normal = normal_like u f.normal; equal = (there t u f.equal.0, there u t f.equal.1) }
