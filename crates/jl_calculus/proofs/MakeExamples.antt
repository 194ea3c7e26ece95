-- What constructors refuse, computed: `struct Square; side::Int64 end` with `Square(true)`, and `struct Q{T<:Signed}; x::T end` with
-- `q(x::T) where T = Q{T}(x)`, `q(true)` and `q(1)`.
use Rattle.std.proofs.Common.{◌+◌, ◌≡◌, ◌∙◌, refl, sym, ap, subst, ℕ, zero, suc, ◌<◌, ◌≤◌, true, nat_eq, codes, List, [], ◌∷◌, ◌++◌, length, get_or, Some, None, slice_get, arith, inl, inr, pos}
use Rattle.std.specs.List.{Contains, flat_map}
use Rattle.jl_model.specs.declared.ty.Ty.{Ty, out-Ty}
use Rattle.jl_model.specs.declared.ty.Ty.TheOpen as L
use Rattle.jl_model.specs.declared.ty.Ty.TheVariants as W
use Rattle.jl_model.specs.declared.ty.Ty.TheViews as T
use Rattle.jl_model.specs.declared.ty.Ty.TheViews.{rolls-Nominal, outs-Nominal, outs-Any}
use Rattle.jl_model.specs.declared.ty.Ty.TheFolds.{para-roll-Ty}
use Rattle.jl_model.specs.declared.ty.Decl.{Decl}
use Rattle.jl_model.specs.declared.ty.DeclKind.TheVariants.{Struct}
use Rattle.jl_model.specs.declared.ty.Written.{Written}
use Rattle.jl_model.specs.AllRows.{rows_with}
use Rattle.jl_model.specs.Ancestors.{named, builtin_types, table_of}
use Rattle.jl_model.specs.Counts.{nodes, raw, IsWithinLimits}
use Rattle.jl_model.specs.Kept.{Settled, nominal as kept, arguments_end, arguments_more, closed}
use Rattle.jl_model.specs.Normal.{IsNormalForm, nominal as normal_name, none, more}
use Rattle.jl_model.specs.Refusals.{Given, given_in, given_step, Between}
use Rattle.jl_model.specs.Rows.{choices, forms, forms_step, place_of, kind, free}
use Rattle.jl_model.specs.SigRefusals.{TypeLimit}
use Rattle.jl_model.specs.Signature.{both_end}
use Rattle.jl_model.specs.Subtype.{Table, opaque, lifted, Below}
use Rattle.jl_model.specs.Valid.{is_closed, params_of}
use Rattle.jl_model.proofs.AncestorLemmas.{Lawful, lawful_lines, all_fit, AllParents, IsPattern}
use Rattle.jl_model.proofs.BelowLemmas.{below_part, part_below, union_below}
use Rattle.jl_model.proofs.CountLemmas.{nodes-nominal, raw-nominal}
use Rattle.jl_model.proofs.FormLemmas.{alts-nominal, put-nominal, put-var, vars-nominal}
use Rattle.jl_model.proofs.HeightLemmas.{PartBy, by_any, by_tuple, by_nominal, by_self}
use Rattle.jl_model.proofs.NormalLemmas.{normal_same}
use Rattle.jl_model.proofs.SelfLemmas.{equal_self, below_self}
use Rattle.jl_model.proofs.TypeInduction.{Each}
use Rattle.jl_program.specs.declared.fault.Fault.TheVariants as F
use Rattle.jl_program.specs.declared.value.Value.TheVariants as V
use Rattle.jl_program.specs.Making.{IsFirstOther, struct_of}
use Rattle.jl_program.specs.Prelude.{plain, int64, bool}
use Rattle.jl_program.specs.ValidValue.{fields_in}
use Rattle.jl_program.specs.Meaning.{datum}
use Rattle.jl_program.specs.declared.datum.Datum.TheFolds.{fold-roll-Datum}
use Rattle.jl_program.specs.declared.value.Value.{Value}
use Rattle.jl_calculus.proofs.OperationExamples.{leaf_nodes, leaf_depth}
use Rattle.jl_program.specs.declared.datum.Datum.TheOpen as D
use Rattle.jl_program.specs.Measures as values
use Rattle.jl_calculus.specs.declared.history.Outcome.{Outcome}
use Rattle.jl_calculus.specs.declared.history.Outcome.TheVariants as O
use Rattle.jl_calculus.specs.Answers.{fault_where, refuse}
use Rattle.jl_calculus.specs.Statics.{own_or_bound, with_statics, nominals_in, nominals_step, nominals_of, Breaks, IsBroken, IsFirstBroken, NormLimit}
use Rattle.jl_calculus.specs.Operations.{with_type, make_struct, make_written}

abbrev pub square : Decl
square = record { name = codes "Square"; kind = Struct; params = []; parent = W.Any; fields = record { name = codes "side"; ty = int64 } ∷ [] }

abbrev pub bounded : Decl
bounded = record { name = codes "Q"; kind = Struct; params = record { low = T.Union []; high = named 3 } ∷ []; parent = W.Any; fields = record { name = codes "x"; ty = W.Var 0 } ∷ [] }

abbrev pub types : List Decl
types = builtin_types ++ square ∷ bounded ∷ []

abbrev n : Table
n = table_of types

-- ---- the table

fits : all_fit [] types ≡ true
fits = rw (outs-Nominal 0 [], outs-Nominal 1 [], outs-Nominal 2 [], outs-Nominal 3 [], outs-Any) refl

of_any : (p : ℕ) (ys : List Ty) → out-Ty W.Any ≡ L.Nominal p ys → Each IsPattern ys
of_any p ys o = let z : L.Any ≡ L.Nominal p ys = sym outs-Any ∙ o in absurd (cc)

of_named : (k p : ℕ) (ys : List Ty) → out-Ty (named k) ≡ L.Nominal p ys → Each IsPattern ys
of_named k p ys o =
    let z : L.Nominal k [] ≡ L.Nominal p ys = sym (outs-Nominal k []) ∙ o in
    let e : [] ≡ ys = cc in
    subst (Each IsPattern) e tt

parents : AllParents IsPattern types
parents = (of_any, (of_named 0, (of_named 1, (of_named 2, (of_named 3, (of_named 2, (of_any, (of_any, (of_any, (of_any, tt))))))))))

law : Lawful n
law = lawful_lines types fits parents

-- a type without arguments is not below another that is none of its ancestors
none_found : (k m : ℕ) → lifted n k [] m ≡ None → (t u : Ty) → t ≡ named k → u ≡ named m → PartBy n (Below n opaque) t u → ⊥
none_found k m d t u p q (by_any a b o) = let z : L.Nominal m [] ≡ L.Any = sym (outs-Nominal m []) ∙ sym (ap out-Ty q) ∙ o in cc
none_found k m d t u p q (by_tuple a b xs ys i j r) = let z : L.Nominal m [] ≡ L.Tuple ys = sym (outs-Nominal m []) ∙ sym (ap out-Ty q) ∙ j in cc
none_found k m d t u p q (by_nominal a b k1 m1 xs zs ys i j l r) =
    let x : L.Nominal k [] ≡ L.Nominal k1 xs = sym (outs-Nominal k []) ∙ sym (ap out-Ty p) ∙ i in
    let y : L.Nominal m [] ≡ L.Nominal m1 ys = sym (outs-Nominal m []) ∙ sym (ap out-Ty q) ∙ j in
    let kk : k1 ≡ k = cc in
    let mm : m1 ≡ m = cc in
    let nil : xs ≡ [] = cc in
    let e : Some zs ≡ None = sym l ∙ (λ z. lifted n (kk z) (nil z) (mm z)) ∙ d in
    cc
none_found k m d t u p q (by_self a b v i j) = let z : L.Nominal m [] ≡ L.Var v = sym (outs-Nominal m []) ∙ sym (ap out-Ty q) ∙ j in cc

pub not_below : (k m : ℕ) → lifted n k [] m ≡ None → Below n opaque (named k) (named m) → ⊥
not_below k m d b = none_found k m d (named k) (named m) refl refl (below_part n (named k) (named m) (alts-nominal k []) (alts-nominal m []) b)

pub bool_no_int : lifted n 5 [] 4 ≡ None
unfolding table_of
bool_no_int = rw (outs-Nominal 2 [], outs-Nominal 1 [], outs-Nominal 0 [], outs-Any) refl

bool_not_signed : lifted n 5 [] 3 ≡ None
unfolding table_of
bool_not_signed = rw (outs-Nominal 2 [], outs-Nominal 1 [], outs-Nominal 0 [], outs-Any) refl

-- a type without arguments is its own normal form, and the only one
own_form : (k : ℕ) → IsNormalForm n (named k) (named k)
own_form k = record { normal = normal_name (named k) k [] (outs-Nominal k []) none; equal = equal_self n (named k) }

only_form : (k : ℕ) (u : Ty) → IsNormalForm n (named k) u → u ≡ named k
only_form k u h = normal_same n law u h.normal (named k) (own_form k).normal (h.equal.1, h.equal.0)

one_node : (k : ℕ) → nodes (named k) ≡ 1
one_node k = nodes-nominal k []

one_raw : (k : ℕ) → (raw (named k)).widest ≡ 1
one_raw k = ap (λ r. r.widest) (raw-nominal k [])

within : (k : ℕ) → IsWithinLimits (named k)
within k = record { nodes = omega (arith, one_node k); alternatives = omega (arith, one_raw k) }

-- ---- written types of one part that are small

only_member : {X : Type 0} (x y : X) → Contains (x ∷ []) y → x ≡ y
only_member x y (zero, l, e) = e
only_member x y (suc i, l, e) = absurd (omega (arith, l))

no_member : {X : Type 0} (y : X) → Contains [] y → ⊥
no_member y (i, l, e) = absurd (omega (arith, l))

small : (t : Ty) → nodes t ≤ 1024 → (raw t).widest ≤ 256 → ((at : ℕ → List Ty) → forms at t ≡ t ∷ [])
    → ((a : Given) (u : Ty) → Contains (given_in t ++ []) a → IsNormalForm n a.ty u → nodes u ≤ 1024) → TypeLimit types (plain (t ∷ [])) → ⊥
small t few narrow form given (inl many) = omega (arith, many, few)
small t few narrow form given (inr (inl (u, c, wide))) = let e : (raw t).widest ≡ (raw u).widest = ap (λ z. (raw z).widest) (only_member t u c) in omega (arith, wide, narrow, e)
small t few narrow form given (inr (inr (inl (u, v, (inl c, shut), is, large)))) = no_member u c
small t few narrow form given (inr (inr (inl (u, v, (inr (a, c, e), shut), is, large)))) = omega (arith, large, given a v c (subst (λ z. IsNormalForm n z v) (sym e) is))
small t few narrow form given (inr (inr (inr (picks, hold, rows)))) =
    absurd (omega (
      arith,
      subst (λ (ts : List Ty). 256 < length (flat_map (rows_with (plain (t ∷ [])) picks) (choices (ts ∷ []))))
          (form (λ v. place_of (plain (t ∷ [])) v (kind (plain (t ∷ [])) v))) rows,
    ))

-- ---- `Square(true)`

abbrev squared : Written
squared = plain (named 8 ∷ [])

square_put : (statics : List Ty) → with_statics statics squared ≡ squared
square_put statics = ap (λ (t : Ty). plain (t ∷ [])) (put-nominal (own_or_bound statics 0) 8 [])

square_forms : (at : ℕ → List Ty) → forms at (named 8) ≡ named 8 ∷ []
square_forms at = ap (forms at) (sym (rolls-Nominal 8 [])) ∙ para-roll-Ty (List Ty) (forms_step at) (L.Nominal 8 [])

square_given : given_in (named 8) ≡ []
square_given = ap given_in (sym (rolls-Nominal 8 [])) ∙ para-roll-Ty (List Given) given_step (L.Nominal 8 [])

square_small : TypeLimit types squared → ⊥
square_small =
    small (named 8) (omega (arith, one_node 8)) (omega (arith, one_raw 8)) square_forms
    (λ a u c is. absurd (no_member a (subst (λ (gs : List Given). Contains (gs ++ []) a) square_given c)))

-- a type without arguments breaks no bound
unbroken : (k : ℕ) (t : Ty) → named k ≡ t → IsBroken types t → ⊥
unbroken k t e b =
    let h : Breaks types (L.Nominal k []) = subst (Breaks types) (outs-Nominal k []) (subst (IsBroken types) (sym e) b) in
    no_member h.0 h.1

own_nominals : (k : ℕ) → nominals_in (named k) ≡ named k ∷ []
own_nominals k = ap nominals_in (sym (rolls-Nominal k [])) ∙ para-roll-Ty (List Ty) nominals_step (L.Nominal k [])

lone : (k i : ℕ) (t : Ty) → slice_get (named k ∷ []) i ≡ Some t → named k ≡ t
lone k zero t e = cc
lone k (suc i) t e = let z : None ≡ Some t = e in absurd (cc)

square_unbroken : (t : Ty) → IsFirstBroken types (nominals_of squared) t → ⊥
square_unbroken t h =
    let e : slice_get (named 8 ∷ []) h.place ≡ Some t = ap (λ (ts : List Ty). slice_get (ts ++ []) h.place) (sym (own_nominals 8)) ∙ h.there in
    unbroken 8 t (lone 8 h.place t e) h.broken

square_normal : NormLimit n (named 8) → ⊥
square_normal (inl wide) = wide (within 8)
square_normal (inr (u, is, large)) = let e : nodes u ≡ nodes (named 8) = ap nodes (only_form 8 u is) in omega (arith, large, e, one_node 8)

abbrev wrong_side : Outcome
wrong_side = O.Error (F.FieldType (named 8) (codes "side") bool)

square_fields : fields_in types (named 8) ≡ int64 ∷ []
square_fields = rw (outs-Nominal 8 []) (ap (λ (t : Ty). t ∷ []) (put-nominal _ 4 []))

first_other : IsFirstOther types (bool ∷ []) (fields_in types (named 8)) 0
first_other = subst (λ (fs : List Ty). IsFirstOther types (bool ∷ []) fs 0) (sym square_fields) (record { inside = omega arith; before = both_end; other = not_below 5 4 bool_no_int })

square_of_true : make_struct types (named 8) (V.Bool true ∷ []) wrong_side
square_of_true = inr (
  (λ e h. h.1 (rw (outs-Nominal 8 []) refl)),
  inl (F.FieldType (named 8) (codes "side") bool, (0, first_other, rw (outs-Nominal 8 []) refl), refl),
)

square_refused : (statics : List Ty) → make_written types statics squared (V.Bool true ∷ []) wrong_side
square_refused statics =
    let S : Written → Type 0 = λ u. with_type types u (refuse (fault_where F.TypeLimit (NormLimit n (get_or u.parts 0 W.Any)))
    (λ o. (m : Ty) × IsNormalForm n (get_or u.parts 0 W.Any) m × make_struct types m (V.Bool true ∷ []) o)) wrong_side in
    subst S (sym (square_put statics)) (inr (
      (λ e h. square_small h.1),
      inr ((λ e h. square_unbroken h.0 h.2), inr ((λ e h. square_normal h.1), (named 8, own_form 8, square_of_true))),
    ))

-- ---- `q(true)` and `q(1)`

abbrev written_q : Written
written_q = plain (T.Nominal 9 (W.Var 0 ∷ []) ∷ [])

-- `Q{T}`, with a built-in type put in for T
abbrev q_of : ℕ → Ty
q_of k = T.Nominal 9 (named k ∷ [])

q_put : (k : ℕ) → with_statics (named k ∷ []) written_q ≡ plain (q_of k ∷ [])
q_put k = ap (λ (t : Ty). plain (t ∷ [])) (put-nominal (own_or_bound (named k ∷ []) 0) 9 (W.Var 0 ∷ []) ∙ ap (λ (t : Ty). T.Nominal 9 (t ∷ [])) (put-var (own_or_bound (named k ∷ []) 0) 0))

q_forms : (k : ℕ) (at : ℕ → List Ty) → forms at (q_of k) ≡ q_of k ∷ []
q_forms k at = ap (forms at) (sym (rolls-Nominal 9 (named k ∷ []))) ∙ para-roll-Ty (List Ty) (forms_step at) (L.Nominal 9 (named k ∷ []))

no_given : (k : ℕ) → given_in (named k) ≡ []
no_given k = ap given_in (sym (rolls-Nominal k [])) ∙ para-roll-Ty (List Given) given_step (L.Nominal k [])

abbrev of_q : ℕ → Given
of_q k = record { of = 9; place = 0; ty = named k }

q_given : (k : ℕ) → given_in (q_of k) ≡ of_q k ∷ []
q_given k =
    ap given_in (sym (rolls-Nominal 9 (named k ∷ []))) ∙ para-roll-Ty (List Given) given_step (L.Nominal 9 (named k ∷ []))
    ∙ ap (λ (gs : List Given). of_q k ∷ (gs ++ [])) (no_given k)

q_nodes : (k : ℕ) → nodes (q_of k) ≡ 2
q_nodes k = nodes-nominal 9 (named k ∷ []) ∙ ap (λ m. 1 + (m + 0)) (one_node k)

q_raw : (k : ℕ) → (raw (q_of k)).widest ≡ 1
q_raw k = ap (λ r. r.widest) (raw-nominal 9 (named k ∷ [])) ∙ rw (one_raw k) refl

q_small : (k : ℕ) → TypeLimit types (plain (q_of k ∷ [])) → ⊥
q_small k =
    small (q_of k) (omega (arith, q_nodes k)) (omega (arith, q_raw k)) (q_forms k)
    (λ a u c is.
    (let e : of_q k ≡ a = only_member (of_q k) a (subst (λ (gs : List Given). Contains (gs ++ []) a) (q_given k) c) in
    let same : nodes u ≡ nodes (named k) = ap nodes (only_form k u (subst (λ z. IsNormalForm n z.ty u) (sym e) is)) in
    omega (arith, same, one_node k)))

q_nominals : (k : ℕ) → nominals_of (plain (q_of k ∷ [])) ≡ named k ∷ q_of k ∷ []
q_nominals k =
    ap (λ (ts : List Ty). ts ++ []) (ap nominals_in (sym (rolls-Nominal 9 (named k ∷ []))) ∙ para-roll-Ty (List Ty) nominals_step (L.Nominal 9 (named k ∷ [])))
    ∙ ap (λ (ts : List Ty). ((ts ++ []) ++ q_of k ∷ []) ++ []) (own_nominals k)

shut : (k : ℕ) → is_closed (named k) ≡ true
shut k = ap (λ vs. nat_eq (length vs) 0) (vars-nominal k [])

-- what the constructor is, where the type put in is this
abbrev Makes : ℕ → Value → Outcome → Written → Type 0
Makes k v o u =
    with_type types u (refuse (fault_where F.TypeLimit (NormLimit n (get_or u.parts 0 W.Any)))
    (λ p. (m : Ty) × IsNormalForm n (get_or u.parts 0 W.Any) m × make_struct types m (v ∷ []) p)) o

-- Q{Bool} breaks the declared bound
q_broken : IsBroken types (q_of 5)
q_broken =
    subst (Breaks types) (sym (outs-Nominal 9 (bool ∷ [])))
    (of_q 5, (0, omega arith, refl), shut 5, (λ h. not_below 5 3 bool_not_signed h.1))

first_broken : IsFirstBroken types (nominals_of (plain (q_of 5 ∷ []))) (q_of 5)
first_broken = subst (λ (ts : List Ty). IsFirstBroken types ts (q_of 5)) (sym (q_nominals 5)) (record { place = 1; there = refl; broken = q_broken; first = before })
  where
    before : (i : ℕ) (u : Ty) → i < 1 → slice_get (bool ∷ q_of 5 ∷ []) i ≡ Some u → IsBroken types u → ⊥
    before zero u l e b = unbroken 5 u (let z : Some bool ≡ Some u = e in cc) b
    before (suc i) u l e b = omega (arith, l)

shown : Settled n (q_of 5) (q_of 5)
shown =
    kept (q_of 5) (q_of 5) 9 (bool ∷ []) (bool ∷ []) (outs-Nominal 9 (bool ∷ [])) (outs-Nominal 9 (bool ∷ []))
    (arguments_more bool bool [] [] (closed bool bool (shut 5) (own_form 5)) arguments_end)

q_of_true : make_written types (bool ∷ []) written_q (V.Bool true ∷ []) (O.Error (F.BadParameter (q_of 5)))
q_of_true =
    subst (Makes 5 (V.Bool true) (O.Error (F.BadParameter (q_of 5)))) (sym (q_put 5)) (inr (
      (λ e h. q_small 5 h.1),
      inl (F.BadParameter (q_of 5), (q_of 5, q_of 5, first_broken, shown, refl), refl),
    ))

-- Q{Int64} keeps it
int_lifts : lifted n 4 [] 3 ≡ Some []
unfolding table_of
int_lifts = rw (outs-Nominal 3 []) refl

int_signed : Below n opaque int64 (named 3)
int_signed = part_below n int64 (named 3) (alts-nominal 4 []) (alts-nominal 3 []) (by_nominal int64 (named 3) 4 3 [] [] [] (outs-Nominal 4 []) (outs-Nominal 3 []) int_lifts both_end)

q_unbroken : IsBroken types (q_of 4) → ⊥
q_unbroken b =
    let (a, c, closed_is, out) = subst (Breaks types) (outs-Nominal 9 (int64 ∷ [])) b in
    let e : of_q 4 ≡ a = only_member (of_q 4) a c in
    out (subst (λ (g : Given). Between n (get_or (params_of (slice_get types 9)) g.place free) g.ty) e (union_below n [] int64 tt, int_signed))

none_broken : (t : Ty) → IsFirstBroken types (nominals_of (plain (q_of 4 ∷ []))) t → ⊥
none_broken t h = by h.place (subst (λ (ts : List Ty). slice_get ts h.place ≡ Some t) (q_nominals 4) h.there)
  where
    by : (i : ℕ) → slice_get (int64 ∷ q_of 4 ∷ []) i ≡ Some t → ⊥
    by zero e = unbroken 4 t (let z : Some int64 ≡ Some t = e in cc) h.broken
    by (suc zero) e = let z : q_of 4 ≡ t = cc in q_unbroken (subst (IsBroken types) (sym z) h.broken)
    by (suc (suc i)) e = let z : None ≡ Some t = e in absurd (cc)

q_form : IsNormalForm n (q_of 4) (q_of 4)
q_form = record { normal = normal_name (q_of 4) 9 (int64 ∷ []) (outs-Nominal 9 (int64 ∷ [])) (more int64 [] (own_form 4).normal none); equal = equal_self n (q_of 4) }

q_normal : NormLimit n (q_of 4) → ⊥
q_normal (inl wide) = wide (record { nodes = omega (arith, q_nodes 4); alternatives = omega (arith, q_raw 4) })
q_normal (inr (u, is, large)) =
    let e : nodes u ≡ nodes (q_of 4) = ap nodes (normal_same n law u is.normal (q_of 4) q_form.normal (is.equal.1, is.equal.0)) in
    omega (arith, large, e, q_nodes 4)

q_fields : fields_in types (q_of 4) ≡ int64 ∷ []
q_fields = rw (outs-Nominal 9 (int64 ∷ [])) (ap (λ (t : Ty). t ∷ []) (put-var _ 0))

no_other : (i : ℕ) → IsFirstOther types (int64 ∷ []) (int64 ∷ []) i → ⊥
no_other zero h = h.other (below_self n int64)
no_other (suc i) h = let l = h.inside in omega (arith, l)

abbrev q_one : Value
q_one = struct_of (q_of 4) (datum (V.Int (pos 1)) ∷ [])

one_nodes : values.nodes (datum q_one) ≡ 2
one_nodes = fold-roll-Datum ℕ values.nodes_step (D.Struct (q_of 4) (datum (V.Int (pos 1)) ∷ [])) ∙ rw (leaf_nodes (pos 1)) refl

one_depth : values.depth (datum q_one) ≡ 2
one_depth = fold-roll-Datum ℕ values.depth_step (D.Struct (q_of 4) (datum (V.Int (pos 1)) ∷ [])) ∙ rw (leaf_depth (pos 1)) refl

struct_of_one : make_struct types (q_of 4) (V.Int (pos 1) ∷ []) (O.Value q_one)
struct_of_one = inr (
  (λ e h. h.1 (rw (outs-Nominal 9 (int64 ∷ [])) refl)),
  inr (
    (λ e h. no_other h.0 (subst (λ (fs : List Ty). IsFirstOther types (int64 ∷ []) fs h.0) q_fields h.1)),
    inr ((λ e h. h.1 (omega (arith, one_nodes), omega (arith, one_depth))), refl),
  ),
)

q_of_one : make_written types (int64 ∷ []) written_q (V.Int (pos 1) ∷ []) (O.Value q_one)
q_of_one =
    subst (Makes 4 (V.Int (pos 1)) (O.Value q_one)) (sym (q_put 4)) (inr (
      (λ e h. q_small 4 h.1),
      inr ((λ e h. none_broken h.0 h.2), inr ((λ e h. q_normal h.1), (q_of 4, q_form, struct_of_one))),
    ))
