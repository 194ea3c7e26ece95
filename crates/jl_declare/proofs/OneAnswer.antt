-- Behind valid declarations one thing is answered for a declaration.
use Rattle.std.proofs.Common.{◌≡◌, ◌∙◌, ap, sym, subst, refl, ℕ, zero, suc, ◌<◌, ◌≤◌, arith, List, [], ◌∷◌, map, Some, None, ◌⊎◌, inl, inr}
use Rattle.jl_model.specs.declared.ty.Ty.{Ty}
use Rattle.jl_model.specs.declared.ty.Bound.{Bound}
use Rattle.jl_model.specs.declared.ty.Field.{Field}
use Rattle.jl_model.specs.declared.ty.Decl.{Decl}
use Rattle.jl_model.specs.Subtype.{Table}
use Rattle.jl_model.specs.Counts.{nodes, raw, IsWithinLimits}
use Rattle.jl_model.specs.Normal.{IsNormalForm}
use Rattle.jl_model.specs.Kept.{field_types, Bounds, bounds_end, bounds_more, IsKept}
use Rattle.jl_model.specs.Refusals.{Declared, table_with, DuplicateType, UnknownType, WrongParameterCount, SuperNotAbstract, VariablePlace, TypeLimit, BoundsCrossed, BoundBroken, TooMany, DuplicateField, sized_types, AllWithinLimits, HasOwnVariables, IsAllowed, IsReady}
use Rattle.jl_model.proofs.AncestorLemmas.{Lawful}
use Rattle.jl_model.proofs.NormalLemmas.{normal_same}
use Rattle.jl_model.proofs.TransLemmas.{equal_trans}
use Rattle.jl_types.proofs.KeptOnceLemmas.{settled_same, all_settled_same}
use Rattle.jl_norm.specs.declared.fault.DeclareFault.{DeclareFault}
use Rattle.jl_norm.specs.declared.fault.DeclareFault.TheVariants as fault
use Rattle.jl_norm.specs.Refused.{IsWellWritten, Refused}
use Rattle.jl_norm.proofs.KeepLemmas.{with_lawful}
use Rattle.jl_norm.proofs.ToldLemmas.{may_add}
use Rattle.jl_written.specs.declared.fault.StaticKind.{StaticKind}
use Rattle.jl_declare.specs.declared.judged.Judged.{Judged}
use Rattle.jl_declare.specs.declared.judged.Judged.TheVariants as J
use Rattle.jl_declare.specs.Judgement.{kind_of, IsJudged, kept, refused}

-- THE FIRST REFUSAL
-- the places of the refusals in their order
abbrev place : DeclareFault → ℕ
place fault.DuplicateType = 0
place fault.UnknownType = 1
place fault.WrongParameterCount = 2
place fault.SuperNotAbstract = 3
place fault.VariablePlace = 4
place fault.TypeLimit = 5
place fault.BoundsCrossed = 6
place fault.BoundBroken = 7
place fault.TooMany = 8
place fault.DuplicateField = 9
place fault.Memory = 10

abbrev fault_at : ℕ → DeclareFault
fault_at zero = fault.DuplicateType
fault_at (suc zero) = fault.UnknownType
fault_at (suc (suc zero)) = fault.WrongParameterCount
fault_at (suc (suc (suc zero))) = fault.SuperNotAbstract
fault_at (suc (suc (suc (suc zero)))) = fault.VariablePlace
fault_at (suc (suc (suc (suc (suc zero))))) = fault.TypeLimit
fault_at (suc (suc (suc (suc (suc (suc zero)))))) = fault.BoundsCrossed
fault_at (suc (suc (suc (suc (suc (suc (suc zero))))))) = fault.BoundBroken
fault_at (suc (suc (suc (suc (suc (suc (suc (suc zero)))))))) = fault.TooMany
fault_at (suc (suc (suc (suc (suc (suc (suc (suc (suc zero))))))))) = fault.DuplicateField
fault_at (suc (suc (suc (suc (suc (suc (suc (suc (suc (suc n)))))))))) = fault.Memory

at_place : (f : DeclareFault) → fault_at (place f) ≡ f
at_place fault.DuplicateType = refl
at_place fault.UnknownType = refl
at_place fault.WrongParameterCount = refl
at_place fault.SuperNotAbstract = refl
at_place fault.VariablePlace = refl
at_place fault.TypeLimit = refl
at_place fault.BoundsCrossed = refl
at_place fault.BoundBroken = refl
at_place fault.TooMany = refl
at_place fault.DuplicateField = refl
at_place fault.Memory = refl

same_place : (f g : DeclareFault) → place f ≡ place g → f ≡ g
same_place f g e = sym (at_place f) ∙ ap fault_at e ∙ at_place g

order_of : (m n : ℕ) → (m < n) ⊎ ((m ≡ n) ⊎ (n < m))
order_of zero zero = inr (inl refl)
order_of zero (suc n) = inl (omega arith)
order_of (suc m) zero = inr (inr (omega arith))
order_of (suc m) (suc n) = elim (order_of m n) [ inl h ↦ inl (omega arith) | inr g ↦ elim g [ inl h ↦ inr (inl (ap suc h)) | inr h ↦ inr (inr (omega arith)) ] ]

module _ (ds : List Decl) (d : Decl) where
  -- the refusals by their places
  abbrev At : ℕ → Type 0
  At zero = DuplicateType ds d
  At (suc zero) = UnknownType ds d
  At (suc (suc zero)) = WrongParameterCount ds d
  At (suc (suc (suc zero))) = SuperNotAbstract ds d
  At (suc (suc (suc (suc zero)))) = VariablePlace ds d
  At (suc (suc (suc (suc (suc zero))))) = TypeLimit ds d
  At (suc (suc (suc (suc (suc (suc zero)))))) = BoundsCrossed ds d
  At (suc (suc (suc (suc (suc (suc (suc zero))))))) = BoundBroken ds d
  At (suc (suc (suc (suc (suc (suc (suc (suc zero)))))))) = TooMany ds d
  At (suc (suc (suc (suc (suc (suc (suc (suc (suc n))))))))) = DuplicateField d

  -- none before this place holds
  abbrev Before : ℕ → Type 0
  Before zero = Unit {0}
  Before (suc n) = Before n × (At n → ⊥)

  none_before : (n m : ℕ) → Before n → m < n → At m → ⊥
  none_before zero m b l a = absurd (omega arith)
  none_before (suc n) m b l a = elim (order_of m n) [
    | inl h ↦ none_before n m b.0 h a
    | inr g ↦ elim g [ inl h ↦ b.1 (subst At h a) | inr h ↦ absurd (omega arith) ]
  ]

  -- the first that holds
  record First (n : ℕ) : Type 0 where
    before : Before n
    there : At n
    few : n < 10

  first_same : (m n : ℕ) → First m → First n → m ≡ n
  first_same m n f g = elim (order_of m n) [
    | inl h ↦ absurd (none_before n m g.before h f.there)
    | inr c ↦ elim c [ inl h ↦ h | inr h ↦ absurd (none_before m n f.before h g.there) ]
  ]

  written_before : IsWellWritten ds d → Before 5
  written_before w = (((((tt, w.fresh), w.known), w.counted), w.abstract), w.placed)

  allowed_before : IsAllowed ds d → Before 10
  allowed_before a = ((((((((((tt, a.fresh), a.known), a.counted), a.abstract), a.placed), a.small), a.ordered), a.within), a.few), a.distinct)

  is_first : (f : DeclareFault) (k : StaticKind) → kind_of f ≡ Some k → Refused f ds d → First (place f)
  is_first fault.DuplicateType k e r = record { before = tt; there = r; few = omega arith }
  is_first fault.UnknownType k e r = record { before = (tt, r.0); there = r.1; few = omega arith }
  is_first fault.WrongParameterCount k e r = record { before = ((tt, r.0), r.1); there = r.2; few = omega arith }
  is_first fault.SuperNotAbstract k e r = record { before = (((tt, r.0), r.1), r.2); there = r.3; few = omega arith }
  is_first fault.VariablePlace k e r = record { before = ((((tt, r.0), r.1), r.2), r.3); there = r.4; few = omega arith }
  is_first fault.TypeLimit k e r = record { before = written_before r.0; there = r.1; few = omega arith }
  is_first fault.BoundsCrossed k e r = record { before = (written_before r.0, r.1); there = r.2; few = omega arith }
  is_first fault.BoundBroken k e r = record { before = ((written_before r.0, r.1), r.2); there = r.3; few = omega arith }
  is_first fault.TooMany k e r = record { before = (((written_before r.0, r.1), r.2), r.3); there = r.4; few = omega arith }
  is_first fault.DuplicateField k e r = record { before = ((((written_before r.0, r.1), r.2), r.3), r.4); there = r.5; few = omega arith }
  is_first fault.Memory k e r = let g : None ≡ Some k = e in cc

  allowed_alone : (f : DeclareFault) (k : StaticKind) → kind_of f ≡ Some k → Refused f ds d → IsAllowed ds d → ⊥
  allowed_alone f k e r a = let g = is_first f k e r in none_before 10 (place f) (allowed_before a) g.few g.there

  refusal_same : (f g : DeclareFault) (k l : StaticKind) → kind_of f ≡ Some k → kind_of g ≡ Some l → Refused f ds d → Refused g ds d → k ≡ l
  refusal_same f g k l i j r s =
      let e = same_place f g (first_same (place f) (place g) (is_first f k i r) (is_first g l j s)) in
      let h : Some k ≡ Some l = sym i ∙ ap kind_of e ∙ j in cc

-- WHAT IS KEPT
fields_same : (fs gs : List Field) → map (λ f. f.name) fs ≡ map (λ f. f.name) gs → field_types fs ≡ field_types gs → fs ≡ gs
fields_same [] [] n t = refl
fields_same [] (g ∷ gs) n t = cc
fields_same (f ∷ fs) [] n t = cc
fields_same (f ∷ fs) (g ∷ gs) n t =
    let name : f.name ≡ g.name = cc in
    let ty : f.ty ≡ g.ty = cc in
    let first : f ≡ g = λ i. record { name = name i; ty = ty i } in
    let ns : map (λ (x : Field). x.name) fs ≡ map (λ (x : Field). x.name) gs = cc in
    let ts : field_types fs ≡ field_types gs = cc in
    let rest = fields_same fs gs ns ts in cc

module _ (n : Table) (law : Lawful n) where
  form_same : (t u v : Ty) → IsNormalForm n t u → IsNormalForm n t v → u ≡ v
  form_same t u v f g = normal_same n law u f.normal v g.normal (equal_trans n law u t v (f.equal.1, f.equal.0) g.equal)

  bounds_same : (bs cs es : List Bound) → Bounds n bs cs → Bounds n bs es → cs ≡ es
  bounds_same bs cs es bounds_end bounds_end = refl
  bounds_same bs cs es (bounds_more b c as_ xs l h r) (bounds_more a e vs ys m i s) =
      let low = form_same b.low c.low e.low l m in
      let high = form_same b.high c.high e.high h i in
      let first : c ≡ e = λ j. record { low = low j; high = high j } in
      let rest : xs ≡ ys = bounds_same as_ xs ys r s in cc

  -- a declaration is kept as one
  kept_same : (d e f : Decl) → IsKept n d e → IsKept n d f → e ≡ f
  kept_same d e f k l =
      let name = k.name ∙ sym l.name in
      let kind = k.kind ∙ sym l.kind in
      let params = bounds_same d.params e.params f.params k.params l.params in
      let parent = settled_same n law d.parent e.parent f.parent k.parent l.parent in
      let types = all_settled_same n law (field_types d.fields) (field_types e.fields) (field_types f.fields) k.fields l.fields in
      let fields = fields_same e.fields f.fields (k.field_names ∙ sym l.field_names) types in
      λ i. record { name = name i; kind = kind i; params = params i; parent = parent i; fields = fields i }

-- WHAT IS ALLOWED
written : (ds : List Decl) (d : Decl) → IsAllowed ds d → IsWellWritten ds d
written ds d a = record { fresh = a.fresh; known = a.known; counted = a.counted; abstract = a.abstract; placed = a.placed }

le_or : (m n : ℕ) → (m ≤ n) ⊎ (m ≤ n → ⊥)
le_or zero n = inl (omega arith)
le_or (suc m) zero = inr (λ h. omega arith)
le_or (suc m) (suc n) = elim (le_or m n) [ inl h ↦ inl (omega arith) | inr g ↦ inr (λ h. g (omega arith)) ]

sized_or : (t : Ty) → IsWithinLimits t ⊎ (IsWithinLimits t → ⊥)
sized_or t = elim (le_or (nodes t) 1024) [
  | inl h ↦ elim (le_or (raw t).widest 256) [ inl g ↦ inl (record { nodes = h; alternatives = g }) | inr g ↦ inr (λ w. g w.alternatives) ]
  | inr h ↦ inr (λ w. h w.nodes)
]

all_or : (ts : List Ty) → AllWithinLimits ts ⊎ (AllWithinLimits ts → ⊥)
all_or [] = inl tt
all_or (t ∷ ts) = elim (sized_or t) [
  | inl h ↦ elim (all_or ts) [ inl g ↦ inl (h, g) | inr g ↦ inr (λ w. g w.1) ]
  | inr h ↦ inr (λ w. h w.0)
]

-- what is kept of an allowed declaration is within the limits
kept_sized : (ds : List Decl) (d e : Decl) → IsAllowed ds d → IsKept (table_with ds d) d e → AllWithinLimits (sized_types ds e)
kept_sized ds d e a k = elim (all_or (sized_types ds e)) [ inl h ↦ h | inr h ↦ absurd (a.small (inr (inr (e, k, h)))) ]

-- and ready to be added
pub kept_ready : (ds : List Decl) (d e : Decl) → Declared ds → HasOwnVariables d → IsAllowed ds d → IsKept (table_with ds d) d e → IsReady ds e
kept_ready ds d e h v a k =
    may_add ds d e h
    (record { ordered = record { written = written ds d a; within = record { kept = k; sized = kept_sized ds d e a k; small = a.small }; ordered = a.ordered }; within = a.within })
    a.few a.distinct v

-- one thing is answered
pub judged_same : (ds : List Decl) (d : Decl) → Declared ds → (i j : Judged) → IsJudged ds d i → IsJudged ds d j → i ≡ j
judged_same ds d h i j (kept e a k) (kept f b l) = ap J.Kept (kept_same (table_with ds d) (with_lawful ds d (written ds d a) h) d e f k l)
judged_same ds d h i j (kept e a k) (refused f l e2 r) = absurd (allowed_alone ds d f l e2 r a)
judged_same ds d h i j (refused f l e2 r) (kept e a k) = absurd (allowed_alone ds d f l e2 r a)
judged_same ds d h i j (refused f k x r) (refused g l y s) = ap J.Refused (refusal_same ds d f g k l x y r s)
