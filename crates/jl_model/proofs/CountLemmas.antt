-- The nodes and raw alternatives of types, one equation for each form.
use Rattle.std.proofs.Common.{◌≡◌, ◌∙◌, sym, ap, ℕ, zero, suc, ◌+◌, ◌<◌, ◌≤◌, arith, List, [], ◌∷◌, map, length, get_or}
use Rattle.jl_model.specs.declared.ty.Ty.{Ty}
use Rattle.jl_model.specs.declared.ty.Ty.TheOpen.{Any, Union, Tuple, Nominal, Var}
use Rattle.jl_model.specs.declared.ty.Ty.TheViews.{rolls-Any, rolls-Union, rolls-Tuple, rolls-Nominal, rolls-Var}
use Rattle.jl_model.specs.declared.ty.Ty.TheViews as V
use Rattle.jl_model.specs.declared.ty.Ty.TheVariants as W
use Rattle.jl_model.specs.declared.ty.Ty.TheFolds.{fold-roll-Ty}
use Rattle.jl_model.specs.Counts.{total, nodes, nodes_step, Raw, raw, raw_step, raw_of, product}

abbrev pub nodes_all : List Ty → ℕ
nodes_all ts = total (map nodes ts)

pub nodes-any : nodes W.Any ≡ 1
nodes-any = ap nodes (sym rolls-Any) ∙ fold-roll-Ty ℕ nodes_step Any

pub nodes-var : (v : ℕ) → nodes (W.Var v) ≡ 1
nodes-var v = ap nodes (sym (rolls-Var v)) ∙ fold-roll-Ty ℕ nodes_step (Var v)

pub nodes-union : (ts : List Ty) → nodes (V.Union ts) ≡ 1 + nodes_all ts
nodes-union ts = ap nodes (sym (rolls-Union ts)) ∙ fold-roll-Ty ℕ nodes_step (Union ts)

pub nodes-tuple : (ts : List Ty) → nodes (V.Tuple ts) ≡ 1 + nodes_all ts
nodes-tuple ts = ap nodes (sym (rolls-Tuple ts)) ∙ fold-roll-Ty ℕ nodes_step (Tuple ts)

pub nodes-nominal : (k : ℕ) (ts : List Ty) → nodes (V.Nominal k ts) ≡ 1 + nodes_all ts
nodes-nominal k ts = ap nodes (sym (rolls-Nominal k ts)) ∙ fold-roll-Ty ℕ nodes_step (Nominal k ts)

pub raw-any : raw W.Any ≡ raw_of 1 []
raw-any = ap raw (sym rolls-Any) ∙ fold-roll-Ty Raw raw_step Any

pub raw-var : (v : ℕ) → raw (W.Var v) ≡ raw_of 1 []
raw-var v = ap raw (sym (rolls-Var v)) ∙ fold-roll-Ty Raw raw_step (Var v)

pub raw-union : (ts : List Ty) → raw (V.Union ts) ≡ raw_of (total (map (λ r. r.count) (map raw ts))) (map raw ts)
raw-union ts = ap raw (sym (rolls-Union ts)) ∙ fold-roll-Ty Raw raw_step (Union ts)

pub raw-tuple : (ts : List Ty) → raw (V.Tuple ts) ≡ raw_of (product (map (λ r. r.count) (map raw ts))) (map raw ts)
raw-tuple ts = ap raw (sym (rolls-Tuple ts)) ∙ fold-roll-Ty Raw raw_step (Tuple ts)

pub raw-nominal : (k : ℕ) (ts : List Ty) → raw (V.Nominal k ts) ≡ raw_of 1 (map raw ts)
raw-nominal k ts = ap raw (sym (rolls-Nominal k ts)) ∙ fold-roll-Ty Raw raw_step (Nominal k ts)

pub nodes-at : (ts : List Ty) (i : ℕ) (t : Ty) → i < length ts → t ≡ get_or ts i t → nodes t ≤ nodes_all ts
nodes-at [] i t lt e = absurd (omega arith)
nodes-at (x ∷ xs) zero t lt e = let f : nodes t ≡ nodes x = ap nodes e in omega arith
nodes-at (x ∷ xs) (suc i) t lt e = let h = nodes-at xs i t (omega arith) e in omega arith
