-- The declared bounds of parameters are normal forms, and in order.
use Rattle.std.proofs.Common.{◌≡◌, ◌∙◌, sym, ap, subst, refl, ℕ, zero, suc, ◌+◌, ◌<◌, ◌≤◌, arith, true, ◌&&◌, nat_lt, List, [], ◌∷◌, ◌++◌, length, get_or, slice_get, None, Some}
use Rattle.std.specs.List.{list_all, Contains}
use Rattle.std.proofs.lemmas.List.{get_or_past}
use Rattle.jl_model.specs.declared.ty.Ty.{Ty}
use Rattle.jl_model.specs.declared.ty.Ty.TheViews as V
use Rattle.jl_model.specs.declared.ty.Bound.{Bound}
use Rattle.jl_model.specs.declared.ty.Decl.{Decl}
use Rattle.jl_model.specs.Ancestors.{table_of}
use Rattle.jl_model.specs.Rows.{alts, free}
use Rattle.jl_model.specs.Subtype.{opaque, Below, below, Covered, none}
use Rattle.jl_model.specs.Valid.{is_known, names_in, params_of}
use Rattle.jl_model.specs.Kept.{field_types, Bounds, bounds_end, bounds_more}
use Rattle.jl_model.specs.Refusals.{Declared, builtin, added, table_with, bound_types, is_known_decl, own, Given, Between}
use Rattle.jl_model.proofs.PutLemmas.{and_l, and_r, both_true}
use Rattle.jl_model.proofs.KnownLemmas.{Known, normal_move, below_move}
use Rattle.jl_model.proofs.AncestorLemmas.{long-snoc, slice_past}
use Rattle.jl_model.proofs.BelowLemmas.{below_any}
use Rattle.jl_model.proofs.FormLemmas.{alts-union}
use Rattle.jl_model.proofs.FillLemmas.{declared_agree}
use Rattle.jl_model.proofs.DeclaredLemmas.{not_false}
use Rattle.jl_types.specs.Ground.{IsGround}
use Rattle.jl_sig.specs.Forms.{AllGround, declared_bound}

known_later : (m : ℕ) (ks : List ℕ) → list_all (λ k. nat_lt k m) ks ≡ true → list_all (λ k. nat_lt k (m + 1)) ks ≡ true
known_later m [] h = refl
known_later m (k ∷ ks) h =
    let p : nat_lt k m ≡ true = and_l (nat_lt k m) (list_all (λ k. nat_lt k m) ks) h in
    let q : nat_lt k (m + 1) ≡ true = grind (arith, p) in
    both_true (nat_lt k (m + 1)) (list_all (λ k. nat_lt k (m + 1)) ks) q (known_later m ks (and_r (nat_lt k m) (list_all (λ k. nat_lt k m) ks) h))

known_more : (ds : List Decl) (d : Decl) (t : Ty) → Known (length ds) t → Known (length (ds ++ d ∷ [])) t
known_more ds d t h = subst (λ m. Known m t) (sym (long-snoc ds d)) (known_later (length ds) (names_in t) h)

-- each low bound is below its high bound
abbrev AreOrdered : List Decl → List Bound → Type 0
AreOrdered ds bs = (b : Bound) → Contains bs b → (Below (table_of ds) opaque b.low b.high → ⊥) → ⊥

-- each declaration's bounds
abbrev AllDecls : List Decl → List Decl → Type 0
AllDecls ds [] = Unit {0}
AllDecls ds (d ∷ es) = (AllGround ds d.params × AreOrdered ds d.params) × AllDecls ds es

decls_snoc : (ds es : List Decl) (d : Decl) → AllDecls ds es → AllGround ds d.params × AreOrdered ds d.params → AllDecls ds (es ++ d ∷ [])
decls_snoc ds [] d a g = (g, tt)
decls_snoc ds (e ∷ es) d a g = (a.0, decls_snoc ds es d a.1 g)

ground_more : (ds : List Decl) → Declared ds → (d : Decl) (t : Ty) → IsGround ds t → IsGround (ds ++ d ∷ []) t
ground_more ds h d t g =
    record {
      normal = normal_move (table_of ds) (table_of (ds ++ d ∷ [])) (length ds) (declared_agree ds d h) t g.known g.normal;
      known = known_more ds d t g.known;
    }

bounds_later : (ds : List Decl) → Declared ds → (d : Decl) (bs : List Bound) → AllGround ds bs → AllGround (ds ++ d ∷ []) bs
bounds_later ds h d [] g = tt
bounds_later ds h d (b ∷ bs) g = (ground_more ds h d b.low g.0, ground_more ds h d b.high g.1, bounds_later ds h d bs g.2)

ground_in : (ds : List Decl) (bs : List Bound) (i : ℕ) (b : Bound) → AllGround ds bs → i < length bs → b ≡ get_or bs i b → IsGround ds b.low × IsGround ds b.high
ground_in ds [] i b g l e = absurd (omega arith)
ground_in ds (x ∷ xs) zero b g l e = subst (λ (y : Bound). IsGround ds y.low × IsGround ds y.high) (sym e) (g.0, g.1)
ground_in ds (x ∷ xs) (suc i) b g l e = ground_in ds xs i b g.2 (omega arith) e

ordered_later : (ds : List Decl) → Declared ds → (d : Decl) (bs : List Bound) → AllGround ds bs → AreOrdered ds bs → AreOrdered (ds ++ d ∷ []) bs
ordered_later ds h d bs g o b c f =
    let k = ground_in ds bs c.0 b g c.1 (sym c.2) in
    o b c (λ x. f (below_move (table_of ds) (table_of (ds ++ d ∷ [])) (length ds) (declared_agree ds d h) b.low b.high k.0.known k.1.known x))

decls_later : (ds : List Decl) → Declared ds → (d : Decl) (es : List Decl) → AllDecls ds es → AllDecls (ds ++ d ∷ []) es
decls_later ds h d [] a = tt
decls_later ds h d (e ∷ es) a = ((bounds_later ds h d e.params a.0.0, ordered_later ds h d e.params a.0.0 a.0.1), decls_later ds h d es a.1)

own_bounds : (ds : List Decl) (d : Decl) (bs cs : List Bound) → Bounds (table_with ds d) bs cs → list_all (is_known (length ds)) (bound_types cs) ≡ true → AllGround (ds ++ d ∷ []) cs
own_bounds ds d bs cs bounds_end k = tt
own_bounds ds d bs cs (bounds_more b c as_ es l u r) k =
    let k1 = and_r (is_known (length ds) c.low) (is_known (length ds) c.high && list_all (is_known (length ds)) (bound_types es)) k in (
      record { normal = l.normal; known = known_more ds d c.low (and_l (is_known (length ds) c.low) (is_known (length ds) c.high && list_all (is_known (length ds)) (bound_types es)) k) },
      record { normal = u.normal; known = known_more ds d c.high (and_l (is_known (length ds) c.high) (list_all (is_known (length ds)) (bound_types es)) k1) },
      own_bounds ds d as_ es r (and_r (is_known (length ds) c.high) (list_all (is_known (length ds)) (bound_types es)) k1),
    )

no_bounds : (ds : List Decl) (bs : List Bound) → bs ≡ [] → AllGround ds bs × AreOrdered ds bs
no_bounds ds [] e = (tt, (λ b c f. let l = c.1 in omega (arith, l)))
no_bounds ds (b ∷ bs) e = let n : length (b ∷ bs) ≡ 0 = ap length e in absurd (omega (arith, n))

all_bounds : (ds : List Decl) → Declared ds → AllDecls ds ds
all_bounds ds builtin =
    let n : AllGround ds [] × AreOrdered ds [] = no_bounds ds [] refl in
    (n, (n, (n, (n, (n, (n, (n, (n, tt))))))))
all_bounds ds (added es d h r) =
    let bs = list_all (is_known (length es)) (bound_types d.params) in
    let p = is_known (length es) d.parent in
    let fs = list_all (is_known (length es + own d.kind)) (field_types d.fields) in
    let k = and_l bs p (and_l (bs && p) fs (not_false (is_known_decl es d) r.allowed.known)) in
    decls_snoc (es ++ d ∷ []) es d (decls_later es h d es (all_bounds es h)) (own_bounds es d d.params d.params r.normal.params k, (λ b c f. r.allowed.ordered (b, c, f)))

decl_bounds : (ds es : List Decl) (k : ℕ) (d : Decl) → AllDecls ds es → slice_get es k ≡ Some d → AllGround ds d.params × AreOrdered ds d.params
decl_bounds ds [] k d a e = let f : None ≡ Some d = e in cc
decl_bounds ds (x ∷ xs) zero d a e = let f : Some x ≡ Some d = e in let g : x ≡ d = cc in subst (λ (z : Decl). AllGround ds z.params × AreOrdered ds z.params) g a.0
decl_bounds ds (x ∷ xs) (suc k) d a e = decl_bounds ds xs k d a.1 e

-- those of a declared type
pub declared_ground : (ds : List Decl) → Declared ds → (k : ℕ) (d : Decl) → slice_get ds k ≡ Some d → AllGround ds d.params
declared_ground ds h k d e = (decl_bounds ds ds k d (all_bounds ds h) e).0

pub declared_ordered : (ds : List Decl) → Declared ds → (k : ℕ) (d : Decl) → slice_get ds k ≡ Some d → AreOrdered ds d.params
declared_ordered ds h k d e = (decl_bounds ds ds k d (all_bounds ds h) e).1

-- where nothing is declared, everything is between the bounds
pub free_between : (ds : List Decl) (t : Ty) (b : Bound) → b ≡ free → Between (table_of ds) b t
free_between ds t b e =
    let n = table_of ds in
    subst (λ z. Between n z t) (sym e) (below opaque (V.Union []) t (subst (λ z. Covered n opaque z (alts t)) (sym (alts-union [])) (none opaque (alts t))), below_any n t)

pub no_type : (ds : List Decl) (a : Given) → length ds ≤ a.of → declared_bound ds a ≡ free
no_type ds a l = ap (λ z. get_or (params_of z) a.place free) (slice_past ds a.of l)

pub no_place : (ds : List Decl) (a : Given) (d : Decl) (bs : List Bound) → slice_get ds a.of ≡ Some d → bs ≡ d.params → length bs ≤ a.place → declared_bound ds a ≡ free
no_place ds a d bs e f l = ap (λ z. get_or (params_of z) a.place free) e ∙ ap (λ z. get_or z a.place free) (sym f) ∙ get_or_past bs a.place free l

pub at_place : (ds : List Decl) (a : Given) (d : Decl) (bs : List Bound) (b : Bound) → slice_get ds a.of ≡ Some d → bs ≡ d.params → a.place < length bs → b ≡ get_or bs a.place b → declared_bound ds a ≡ b
at_place ds a d bs b e f l is = ap (λ z. get_or (params_of z) a.place free) e ∙ ap (λ z. get_or z a.place free) (sym f) ∙ other bs a.place l ∙ sym is
  where
    other : (xs : List Bound) (i : ℕ) → i < length xs → get_or xs i free ≡ get_or xs i b
    other [] i m = absurd (omega arith)
    other (x ∷ xs) zero m = refl
    other (x ∷ xs) (suc i) m = other xs i (omega arith)
