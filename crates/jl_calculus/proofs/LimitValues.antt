-- Values that reach their limits. A pair of a pair of a pair has twice the nodes each time, in its type and in itself: the type of a
-- tuple reaches its limit at the tenth, and a struct, whose type stays small, at the nineteenth.
use Rattle.std.proofs.Common.{◌≡◌, ◌∙◌, refl, sym, ap, ℕ, zero, suc, ◌+◌, ◌<◌, max, pos, List, [], ◌∷◌, arith, inl, inr}
use Rattle.jl_model.specs.declared.ty.Ty.{Ty}
use Rattle.jl_model.specs.declared.ty.Ty.TheOpen as L
use Rattle.jl_model.specs.declared.ty.Ty.TheViews as T
use Rattle.jl_model.specs.declared.ty.Ty.TheViews.{rolls-Tuple}
use Rattle.jl_model.specs.declared.ty.Ty.TheFolds.{fold-roll-Ty}
use Rattle.jl_model.specs.declared.ty.Decl.{Decl}
use Rattle.jl_model.specs.Counts.{nodes, nodes_step}
use Rattle.jl_program.specs.declared.datum.Datum.{Datum}
use Rattle.jl_program.specs.declared.datum.Datum.TheOpen as D
use Rattle.jl_program.specs.declared.datum.Datum.TheFolds.{fold-roll-Datum}
use Rattle.jl_program.specs.declared.datum.Datum.TheViews.{out-roll-Datum}
use Rattle.jl_program.specs.declared.fault.Fault.TheVariants as F
use Rattle.jl_program.specs.declared.value.Value.{Value}
use Rattle.jl_program.specs.declared.value.Value.TheVariants as V
use Rattle.jl_program.specs.Making.{tuple_of, struct_of}
use Rattle.jl_program.specs.Meaning.{datum}
use Rattle.jl_program.specs.Measures as values
use Rattle.jl_program.specs.ValidValue.{kept_step, kept_type, tuple_type}
use Rattle.jl_calculus.specs.declared.history.Outcome.TheVariants as O
use Rattle.jl_calculus.specs.Operations.{make_tuple, within_limits}
use Rattle.jl_calculus.proofs.OperationExamples.{one_node, leaf_nodes, leaf_depth}

-- twice, and one more
abbrev grown : ℕ → ℕ
grown n = 1 + (n + (n + 0))

abbrev size : ℕ → ℕ
size zero = 1
size (suc k) = grown (size k)

-- one step at a time, so that nothing is counted twice
grows : (k n : ℕ) → size k ≡ n → size (suc k) ≡ grown n
grows k n e = ap grown e

size_9 : size 9 ≡ 1023
size_9 = grows 8 511 (grows 7 255 (grows 6 127 (grows 5 63 (grows 4 31 (grows 3 15 (grows 2 7 (grows 1 3 (grows 0 1 refl))))))))

size_10 : size 10 ≡ 2047
size_10 = grows 9 1023 size_9

size_18 : size 18 ≡ 524287
size_18 = grows 17 262143 (grows 16 131071 (grows 15 65535 (grows 14 32767 (grows 13 16383 (grows 12 8191 (grows 11 4095 (grows 10 2047 size_10)))))))

size_19 : size 19 ≡ 1048575
size_19 = grows 18 524287 size_18

-- ---- `w(n, x) = n == 0 ? 0 : w(n - 1, (x, x))`, from 1

abbrev pairs : ℕ → Value
pairs zero = V.Int (pos 1)
pairs (suc k) = tuple_of (datum (pairs k) ∷ datum (pairs k) ∷ [])

-- the type of such a pair
type_is : (k : ℕ) → kept_type (datum (pairs (suc k))) ≡ T.Tuple (kept_type (datum (pairs k)) ∷ kept_type (datum (pairs k)) ∷ [])
type_is k = ap kept_step (out-roll-Datum (D.Tuple (tuple_type (datum (pairs k) ∷ datum (pairs k) ∷ [])) (datum (pairs k) ∷ datum (pairs k) ∷ [])))

two_nodes : (t u : Ty) → nodes (T.Tuple (t ∷ u ∷ [])) ≡ 1 + (nodes t + (nodes u + 0))
two_nodes t u = ap nodes (sym (rolls-Tuple (t ∷ u ∷ []))) ∙ fold-roll-Ty ℕ nodes_step (L.Tuple (t ∷ u ∷ []))

type_nodes : (k : ℕ) → nodes (kept_type (datum (pairs k))) ≡ size k
type_nodes zero = ap (λ t. nodes (kept_step t)) (out-roll-Datum (D.Int (pos 1))) ∙ one_node 4
type_nodes (suc k) = ap nodes (type_is k) ∙ two_nodes _ _ ∙ ap grown (type_nodes k)

pair_nodes : (k : ℕ) → nodes (tuple_type (datum (pairs k) ∷ datum (pairs k) ∷ [])) ≡ size (suc k)
pair_nodes k = two_nodes _ _ ∙ ap grown (type_nodes k)

value_nodes : (k : ℕ) → values.nodes (datum (pairs k)) ≡ size k
value_nodes zero = leaf_nodes (pos 1)
value_nodes (suc k) =
    let d : Datum = datum (pairs k) in
    let e : values.nodes (datum (pairs (suc k))) ≡ values.nodes d + (values.nodes d + 0) + 1 = fold-roll-Datum ℕ values.nodes_step (D.Tuple (tuple_type (d ∷ d ∷ [])) (d ∷ d ∷ [])) in
    let n : values.nodes d ≡ size k = value_nodes k in
    omega (arith, e, n)

value_depth : (k : ℕ) → values.depth (datum (pairs k)) ≡ suc k
value_depth zero = leaf_depth (pos 1)
value_depth (suc k) =
    let d : Datum = datum (pairs k) in
    let e : values.depth (datum (pairs (suc k))) ≡ max (values.depth d) (max (values.depth d) 0) + 1 = fold-roll-Datum ℕ values.depth_step (D.Tuple (tuple_type (d ∷ d ∷ [])) (d ∷ d ∷ [])) in
    let n : values.depth d ≡ suc k = value_depth k in
    omega (arith, e, n)

-- the ninth pair is made
ninth : (ds : List Decl) → make_tuple ds (pairs 8 ∷ pairs 8 ∷ []) (O.Value (pairs 9))
ninth ds = inr (
  (λ e h. omega (arith, h.1, pair_nodes 8, size_9)),
  inr ((λ e h. h.1 (omega (arith, value_nodes 9, size_9), omega (arith, value_depth 9))), refl),
)

-- and the tenth is refused
tenth : (ds : List Decl) → make_tuple ds (pairs 9 ∷ pairs 9 ∷ []) (O.Error F.TypeLimit)
tenth ds = let large : 1024 < nodes (tuple_type (datum (pairs 9) ∷ datum (pairs 9) ∷ [])) = omega (arith, pair_nodes 9, size_10) in inl (F.TypeLimit, (refl, large), refl)

-- ---- `d(n, x) = n == 0 ? x : d(n - 1, P(x, x))`, from 1: the type of each is `P`

module _ (t : Ty) where
  abbrev structs : ℕ → Value
  structs zero = V.Int (pos 1)
  structs (suc k) = struct_of t (datum (structs k) ∷ datum (structs k) ∷ [])

  struct_nodes : (k : ℕ) → values.nodes (datum (structs k)) ≡ size k
  struct_nodes zero = leaf_nodes (pos 1)
  struct_nodes (suc k) =
      let d : Datum = datum (structs k) in
      let e : values.nodes (datum (structs (suc k))) ≡ values.nodes d + (values.nodes d + 0) + 1 = fold-roll-Datum ℕ values.nodes_step (D.Struct t (d ∷ d ∷ [])) in
      let n : values.nodes d ≡ size k = struct_nodes k in
      omega (arith, e, n)

  struct_depth : (k : ℕ) → values.depth (datum (structs k)) ≡ suc k
  struct_depth zero = leaf_depth (pos 1)
  struct_depth (suc k) =
      let d : Datum = datum (structs k) in
      let e : values.depth (datum (structs (suc k))) ≡ max (values.depth d) (max (values.depth d) 0) + 1 = fold-roll-Datum ℕ values.depth_step (D.Struct t (d ∷ d ∷ [])) in
      let n : values.depth d ≡ suc k = struct_depth k in
      omega (arith, e, n)

  -- a million nodes are enough for the eighteenth
  eighteenth : (ds : List Decl) → within_limits ds (structs 18) (O.Value (structs 18))
  eighteenth ds = inr ((λ e h. h.1 (omega (arith, struct_nodes 18, size_18), omega (arith, struct_depth 18))), refl)

  -- and not for the nineteenth
  nineteenth : (ds : List Decl) → within_limits ds (structs 19) (O.Error F.ValueLimit)
  nineteenth ds = inl (F.ValueLimit, (refl, λ h. omega (arith, h.0, struct_nodes 19, size_19)), refl)
