-- The texts of values of each form, and their nodes.
use Rattle.std.proofs.Common.{◌≡◌, sym, ℕ, ℤ, Bool, decimal, zero, suc, ◌+◌, ◌<◌, ◌≤◌, codes, List, [], ◌∷◌, ◌++◌, map, length, get_or, refl, ap, ◌∙◌, arith}
use Rattle.jl_model.specs.declared.ty.Ty.{Ty}
use Rattle.jl_program.specs.declared.tree.Program.{Program}
use Rattle.jl_program.specs.declared.datum.Datum.{Datum}
use Rattle.jl_program.specs.declared.datum.Datum.TheOpen as D
use Rattle.jl_program.specs.declared.datum.Datum.TheFolds.{fold-roll-Datum}
use Rattle.jl_program.specs.declared.value.Compound.{Compound}
use Rattle.jl_program.specs.declared.value.Value.{Value}
use Rattle.jl_program.specs.declared.value.Value.TheVariants as V
use Rattle.jl_program.specs.Meaning.{datum}
use Rattle.jl_program.specs.Measures.{nodes, nodes_all, nodes_step}
use Rattle.std.specs.Fmt.{signed_decimal}
use Rattle.jl_program.specs.Text.{type_text, value_text, datum_text, datum_step, bool_text, tuple_text, in_parentheses}

-- the texts of values are those of what they mean
texts-of : (P : Program) (vs : List Value) → map (datum_text P) (map datum vs) ≡ map (value_text P) vs
texts-of P [] = refl
texts-of P (v ∷ vs) = ap (λ ts. value_text P v ∷ ts) (texts-of P vs)

-- the text of a value of each form
pub int-text : (P : Program) (v : Value) (n : ℤ) → v ≡ V.Int n → value_text P v ≡ signed_decimal n
int-text P v n e = rw e (fold-roll-Datum (List ℕ) (datum_step P) (D.Int n))

pub bool-text : (P : Program) (v : Value) (b : Bool) → v ≡ V.Bool b → value_text P v ≡ bool_text b
bool-text P v b e = rw e (fold-roll-Datum (List ℕ) (datum_step P) (D.Bool b))

pub nothing-text : (P : Program) (v : Value) → v ≡ V.Nothing → value_text P v ≡ codes "nothing"
nothing-text P v e = rw e (fold-roll-Datum (List ℕ) (datum_step P) D.Nothing)

pub task-text : (P : Program) (v : Value) (n : ℕ) → v ≡ V.Task n → value_text P v ≡ codes "Task(" ++ (decimal n ++ codes ")")
task-text P v n e = rw e (fold-roll-Datum (List ℕ) (datum_step P) (D.Task n))

pub tuple-text : (P : Program) (v : Value) (c : Compound) (vs : List Value) → v ≡ V.Tuple c → map datum vs ≡ c.parts
    → value_text P v ≡ tuple_text (map (value_text P) vs)
tuple-text P v c vs e m =
    rw e (fold-roll-Datum (List ℕ) (datum_step P) (D.Tuple c.ty c.parts) ∙ ap (λ ds. tuple_text (map (datum_text P) ds)) (sym m) ∙ ap tuple_text (texts-of P vs))

pub struct-text : (P : Program) (v : Value) (c : Compound) (vs : List Value) → v ≡ V.Struct c → map datum vs ≡ c.parts
    → value_text P v ≡ type_text P c.ty ++ in_parentheses (map (value_text P) vs)
struct-text P v c vs e m =
    rw e
    (fold-roll-Datum (List ℕ) (datum_step P) (D.Struct c.ty c.parts)
    ∙ ap (λ ds. type_text P c.ty ++ in_parentheses (map (datum_text P) ds)) (sym m)
    ∙ ap (λ ts. type_text P c.ty ++ in_parentheses ts) (texts-of P vs))

-- a tuple and a struct have one node more than their parts
pub tuple-nodes : (v : Value) (c : Compound) (vs : List Value) → v ≡ V.Tuple c → map datum vs ≡ c.parts
    → nodes (datum v) ≡ nodes_all (map datum vs) + 1
tuple-nodes v c vs e m = rw (e, m) (fold-roll-Datum ℕ nodes_step (D.Tuple c.ty c.parts))

pub struct-nodes : (v : Value) (c : Compound) (vs : List Value) → v ≡ V.Struct c → map datum vs ≡ c.parts
    → nodes (datum v) ≡ nodes_all (map datum vs) + 1
struct-nodes v c vs e m = rw (e, m) (fold-roll-Datum ℕ nodes_step (D.Struct c.ty c.parts))

-- a member of a list has at most the nodes of the list
pub node-at : (vs : List Value) (i : ℕ) (v : Value) → i < length vs → v ≡ get_or vs i v → nodes (datum v) ≤ nodes_all (map datum vs)
node-at [] i v lt e = absurd (omega arith)
node-at (w ∷ ws) zero v lt e = let f : nodes (datum v) ≡ nodes (datum w) = ap (λ z. nodes (datum z)) e in omega arith
node-at (w ∷ ws) (suc i) v lt e = let h : nodes (datum v) ≤ nodes_all (map datum ws) = node-at ws i v (omega arith) e in omega arith

pub ruleset value_texts = (int-text, bool-text, nothing-text, task-text, tuple-text, struct-text, tuple-nodes, struct-nodes, node-at)
