-- The tasks that values of each form mention.
use Rattle.std.proofs.Common.{◌≡◌, ◌∙◌, sym, ap, refl, ℕ, ℤ, zero, suc, ◌+◌, ◌<◌, ◌≤◌, Bool, List, [], ◌∷◌, ◌++◌, map, length, get_or, drop, arith}
use Rattle.std.proofs.lemmas.Grind.{flat_map-append}
use Rattle.std.proofs.lemmas.List.{append_assoc, map-append}
use Rattle.std.specs.List.{flat_map}
use Rattle.jl_program.specs.declared.datum.Datum.{Datum}
use Rattle.jl_program.specs.declared.datum.Datum.TheOpen as D
use Rattle.jl_program.specs.declared.datum.Datum.TheFolds.{fold-roll-Datum}
use Rattle.jl_program.specs.declared.value.Compound.{Compound}
use Rattle.jl_program.specs.declared.value.Value.{Value}
use Rattle.jl_program.specs.declared.value.Value.TheVariants as V
use Rattle.jl_program.specs.Meaning.{datum}
use Rattle.jl_program.specs.Seen.{join}
use Rattle.jl_program.proofs.EnvLemmas.{from_chunk}
use Rattle.jl_program.specs.Measures.{nodes, nodes_all, nodes_step}
use Rattle.jl_calculus.specs.Core.{tasks_in, in_layer}

flat_map_map : (ds : List Datum) → flat_map (λ (xs : List ℕ). xs) (map tasks_in ds) ≡ flat_map tasks_in ds
flat_map_map [] = refl
flat_map_map (d ∷ ds) = ap (λ xs. tasks_in d ++ xs) (flat_map_map ds)

pub int-mentions : (v : Value) (n : ℤ) → v ≡ V.Int n → tasks_in (datum v) ≡ []
int-mentions v n e = rw e (fold-roll-Datum (List ℕ) in_layer (D.Int n))

pub bool-mentions : (v : Value) (b : Bool) → v ≡ V.Bool b → tasks_in (datum v) ≡ []
bool-mentions v b e = rw e (fold-roll-Datum (List ℕ) in_layer (D.Bool b))

pub nothing-mentions : (v : Value) → v ≡ V.Nothing → tasks_in (datum v) ≡ []
nothing-mentions v e = rw e (fold-roll-Datum (List ℕ) in_layer D.Nothing)

pub task-mentions : (v : Value) (n : ℕ) → v ≡ V.Task n → tasks_in (datum v) ≡ n ∷ []
task-mentions v n e = rw e (fold-roll-Datum (List ℕ) in_layer (D.Task n))

pub tuple-mentions : (v : Value) (c : Compound) (ds : List Datum) → v ≡ V.Tuple c → ds ≡ c.parts → tasks_in (datum v) ≡ flat_map tasks_in ds
tuple-mentions v c ds e m = rw (e, m) (fold-roll-Datum (List ℕ) in_layer (D.Tuple c.ty c.parts) ∙ flat_map_map c.parts)

pub struct-mentions : (v : Value) (c : Compound) (ds : List Datum) → v ≡ V.Struct c → ds ≡ c.parts → tasks_in (datum v) ≡ flat_map tasks_in ds
struct-mentions v c ds e m = rw (e, m) (fold-roll-Datum (List ℕ) in_layer (D.Struct c.ty c.parts) ∙ flat_map_map c.parts)

-- a tuple and a struct have one node more than their parts
pub tuple-nodes : (v : Value) (c : Compound) (vs : List Value) → v ≡ V.Tuple c → map datum vs ≡ c.parts → nodes (datum v) ≡ nodes_all (map datum vs) + 1
tuple-nodes v c vs e m = rw (e, m) (fold-roll-Datum ℕ nodes_step (D.Tuple c.ty c.parts))

pub struct-nodes : (v : Value) (c : Compound) (vs : List Value) → v ≡ V.Struct c → map datum vs ≡ c.parts → nodes (datum v) ≡ nodes_all (map datum vs) + 1
struct-nodes v c vs e m = rw (e, m) (fold-roll-Datum ℕ nodes_step (D.Struct c.ty c.parts))

-- a member of a list has at most the nodes of the list
pub node-at : (vs : List Value) (i : ℕ) (v : Value) → i < length vs → v ≡ get_or vs i v → nodes (datum v) ≤ nodes_all (map datum vs)
node-at [] i v lt e = absurd (omega arith)
node-at (w ∷ ws) zero v lt e = let f : nodes (datum v) ≡ nodes (datum w) = ap (λ z. nodes (datum z)) e in omega arith
node-at (w ∷ ws) (suc i) v lt e = let h : nodes (datum v) ≤ nodes_all (map datum ws) = node-at ws i v (omega arith) e in omega arith

abbrev pub mentioned : List Value → List ℕ
mentioned vs = flat_map tasks_in (map datum vs)

-- what a chunk more mentions
pub mentioned_more : (out : List ℕ) (cs : List (List Value)) (r c : List Value) (i : ℕ) → i < length cs → c ≡ get_or cs i c
    → (out ++ mentioned c) ++ mentioned (join (drop (i + 1) cs) ++ r) ≡ out ++ mentioned (join (drop i cs) ++ r)
mentioned_more out cs r c i lt e =
    let left : List Value = join (drop (i + 1) cs) ++ r in
    append_assoc out (mentioned c) (mentioned left)
    ∙ ap (λ z. out ++ z) (sym (flat_map-append tasks_in (map datum c) (map datum left)) ∙ ap (flat_map tasks_in) (sym (map-append datum c left)) ∙ ap mentioned (sym (from_chunk cs r c i lt e)))

pub ruleset mentions = (int-mentions, bool-mentions, nothing-mentions, task-mentions, tuple-mentions, struct-mentions, tuple-nodes, struct-nodes, node-at)
