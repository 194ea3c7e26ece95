-- Values and what they mean.
use Rattle.std.proofs.Common.{◌≡◌, ◌∙◌, sym, ap, refl, ℕ, ℤ, zero, suc, ◌+◌, ◌<◌, ◌≤◌, arith, add-one, Bool, true, false, nat_eq, List, [], ◌∷◌, map, length, drop, get_or, to_z, of_z, w64}
use mathlib.Core.Bool.{beq}
use Rattle.jl_model.specs.declared.ty.Ty.{Ty}
use Rattle.jl_program.specs.declared.datum.Datum.{Datum, out-Datum}
use Rattle.jl_program.specs.declared.datum.Datum.TheOpen.{Datum-F}
use Rattle.jl_program.specs.declared.datum.Datum.TheOpen as D
use Rattle.jl_program.specs.declared.datum.Datum.TheViews.{roll-Datum, out-roll-Datum}
use Rattle.jl_program.specs.declared.datum.Datum.TheFolds.{fold-roll-Datum}
use Rattle.jl_program.specs.declared.value.Compound.{Compound}
use Rattle.jl_program.specs.declared.value.Value.{Value}
use Rattle.jl_program.specs.declared.value.Value.TheVariants as V
use Rattle.jl_program.specs.Meaning.{datum, value_of_layer}
use Rattle.jl_program.specs.Measures.{nodes, nodes_all, nodes_step}

-- the outermost form of a value
abbrev pub form : Value → Datum-F Datum
form (V.Int n) = D.Int n
form (V.Bool b) = D.Bool b
form V.Nothing = D.Nothing
form (V.Task n) = D.Task n
form (V.Tuple c) = D.Tuple c.ty c.parts
form (V.Struct c) = D.Struct c.ty c.parts

datum_is : (v : Value) → datum v ≡ roll-Datum (form v)
datum_is (V.Int n) = refl
datum_is (V.Bool b) = refl
datum_is V.Nothing = refl
datum_is (V.Task n) = refl
datum_is (V.Tuple c) = refl
datum_is (V.Struct c) = refl

value_is : (v : Value) → value_of_layer (form v) ≡ v
value_is (V.Int n) = refl
value_is (V.Bool b) = refl
value_is V.Nothing = refl
value_is (V.Task n) = refl
value_is (V.Tuple c) = refl
value_is (V.Struct c) = refl

pub out_datum : (v : Value) → out-Datum (datum v) ≡ form v
out_datum v = ap out-Datum (datum_is v) ∙ out-roll-Datum (form v)

-- values that mean the same are the same
pub same_value : (a b : Value) → datum a ≡ datum b → a ≡ b
same_value a b e = sym (value_is a) ∙ ap value_of_layer (sym (out_datum a) ∙ ap out-Datum e ∙ out_datum b) ∙ value_is b

-- a tuple and a struct have one node more than their parts
pub tuple-nodes : (v : Value) (c : Compound) → v ≡ V.Tuple c → nodes (datum v) ≡ nodes_all c.parts + 1
tuple-nodes v c e = rw e (fold-roll-Datum ℕ nodes_step (D.Tuple c.ty c.parts))

pub struct-nodes : (v : Value) (c : Compound) → v ≡ V.Struct c → nodes (datum v) ≡ nodes_all c.parts + 1
struct-nodes v c e = rw e (fold-roll-Datum ℕ nodes_step (D.Struct c.ty c.parts))

-- a member of a list has at most the nodes of the list
pub node-at : (vs : List Value) (i : ℕ) (v : Value) → i < length vs → v ≡ get_or vs i v → nodes (datum v) ≤ nodes_all (map datum vs)
node-at [] i v lt e = absurd (omega arith)
node-at (w ∷ ws) zero v lt e = let f : nodes (datum v) ≡ nodes (datum w) = ap (λ z. nodes (datum z)) e in omega arith
node-at (w ∷ ws) (suc i) v lt e = let h : nodes (datum v) ≤ nodes_all (map datum ws) = node-at ws i v (omega arith) e in omega arith

-- two lists from a place on, and from the next on
pub alike_at : (xs ys : List Value) (i : ℕ) (x y : Value) → i < length xs → i < length ys → x ≡ get_or xs i x → y ≡ get_or ys i y
    → (map datum (drop i xs) ≡ map datum (drop i ys) → (datum x ≡ datum y) × (map datum (drop (i + 1) xs) ≡ map datum (drop (i + 1) ys)))
    × ((datum x ≡ datum y) × (map datum (drop (i + 1) xs) ≡ map datum (drop (i + 1) ys)) → map datum (drop i xs) ≡ map datum (drop i ys))
alike_at [] ys i x y p q e f = absurd (omega arith)
alike_at (a ∷ xs) [] i x y p q e f = absurd (omega arith)
alike_at (a ∷ xs) (b ∷ ys) zero x y p q e f = (
  (λ h. let g : datum a ≡ datum b = cc in let k : map datum xs ≡ map datum ys = cc in (ap datum e ∙ g ∙ sym (ap datum f), k)),
  (λ h. let g : datum a ≡ datum b = sym (ap datum e) ∙ h.0 ∙ ap datum f in let k : map datum xs ≡ map datum ys = h.1 in cc),
)
alike_at (a ∷ xs) (b ∷ ys) (suc i) x y p q e f = rw add-one (rw add-one at (alike_at xs ys i x y (omega arith) (omega arith) e f))

-- a test tells a fact
abbrev Tells : Bool → Type 0 → Type 0
Tells r P = (r ≡ true → P) × (P → r ≡ true)

same_eq : (m n : ℕ) → m ≡ n → nat_eq m n ≡ true
same_eq m n e = grind (arith, e)

pub int_case : (a b : Value) (m n : ℤ) → a ≡ V.Int m → b ≡ V.Int n → to_z w64 (of_z w64 m) ≡ m → to_z w64 (of_z w64 n) ≡ n
    → Tells (nat_eq (of_z w64 m) (of_z w64 n)) (datum a ≡ datum b)
int_case a b m n e f p q = (
  (λ h.
      let g : of_z w64 m ≡ of_z w64 n = grind (arith, h) in
      let k : m ≡ n = sym p ∙ ap (to_z w64) g ∙ q in
      ap datum (e ∙ ap (λ (z : ℤ). V.Int z) k ∙ sym f)),
  (λ h.
      let g : D.Int m ≡ D.Int n = sym (ap form e) ∙ ap form (same_value a b h) ∙ ap form f in
      let k : m ≡ n = cc in
      same_eq (of_z w64 m) (of_z w64 n) (ap (of_z w64) k)),
)

pub bool_case : (a b : Value) (m n : Bool) (r : Bool) → a ≡ V.Bool m → b ≡ V.Bool n → Tells r (m ≡ n) → Tells r (datum a ≡ datum b)
bool_case a b m n r e f t = (
  (λ h. ap datum (e ∙ ap (λ (z : Bool). V.Bool z) (t.0 h) ∙ sym f)),
  (λ h.
      let g : D.Bool m ≡ D.Bool n = sym (ap form e) ∙ ap form (same_value a b h) ∙ ap form f in
      let k : m ≡ n = cc in
      t.1 k),
)

pub same_bool : (m n : Bool) → Tells (beq m n) (m ≡ n)
same_bool true true = ((λ h. refl), (λ h. refl))
same_bool true false = ((λ h. sym h), (λ h. sym h))
same_bool false true = ((λ h. h), (λ h. h))
same_bool false false = ((λ h. refl), (λ h. refl))

pub task_case : (a b : Value) (m n : ℕ) → a ≡ V.Task m → b ≡ V.Task n → Tells (nat_eq m n) (datum a ≡ datum b)
task_case a b m n e f = (
  (λ h. let k : m ≡ n = grind (arith, h) in ap datum (e ∙ ap (λ (z : ℕ). V.Task z) k ∙ sym f)),
  (λ h.
      let g : D.Task m ≡ D.Task n = sym (ap form e) ∙ ap form (same_value a b h) ∙ ap form f in
      let k : m ≡ n = cc in
      same_eq m n k),
)

-- the same type and the same parts
same_compound : (a b : Compound) → a.ty ≡ b.ty → a.parts ≡ b.parts → a ≡ b
same_compound a b e f = ap (λ (z : Ty). let c : Compound = record { ty = z; parts = a.parts } in c) e ∙ ap (λ (z : List Datum). let c : Compound = record { ty = b.ty; parts = z } in c) f

pub compound_case : (a b : Compound) (vs ws : List Value) (r : Bool) → a.ty ≡ b.ty → map datum vs ≡ a.parts → map datum ws ≡ b.parts
    → Tells r (map datum vs ≡ map datum ws) → Tells r (a ≡ b)
compound_case a b vs ws r s p q h = (
  (λ c. same_compound a b s (sym p ∙ h.0 c ∙ q)),
  (λ c. h.1 (p ∙ ap (λ (z : Compound). z.parts) c ∙ sym q)),
)

-- another type
pub compound_other : (a b : Compound) (r : Bool) → (a.ty ≡ b.ty → r ≡ true) → r ≡ false → Tells r (a ≡ b)
compound_other a b r s o = (
  (λ c. let k : false ≡ true = sym o ∙ c in cc),
  (λ c. s (ap (λ (z : Compound). z.ty) c)),
)

pub tuple_case : (a b : Value) (c d x y : Compound) (r : Bool) → a ≡ V.Tuple c → b ≡ V.Tuple d → x ≡ c → y ≡ d → Tells r (x ≡ y) → Tells r (datum a ≡ datum b)
tuple_case a b c d x y r e f p q t = (
  (λ h. ap datum (e ∙ ap (λ (z : Compound). V.Tuple z) (sym p ∙ t.0 h ∙ q) ∙ sym f)),
  (λ h.
      let g : V.Tuple c ≡ V.Tuple d = sym e ∙ same_value a b h ∙ f in
      let k : c ≡ d = cc in
      t.1 (p ∙ k ∙ sym q)),
)

pub struct_case : (a b : Value) (c d x y : Compound) (r : Bool) → a ≡ V.Struct c → b ≡ V.Struct d → x ≡ c → y ≡ d → Tells r (x ≡ y) → Tells r (datum a ≡ datum b)
struct_case a b c d x y r e f p q t = (
  (λ h. ap datum (e ∙ ap (λ (z : Compound). V.Struct z) (sym p ∙ t.0 h ∙ q) ∙ sym f)),
  (λ h.
      let g : V.Struct c ≡ V.Struct d = sym e ∙ same_value a b h ∙ f in
      let k : c ≡ d = cc in
      t.1 (p ∙ k ∙ sym q)),
)

pub ruleset alike = (alike_at, tuple-nodes, struct-nodes, node-at, same_value)
