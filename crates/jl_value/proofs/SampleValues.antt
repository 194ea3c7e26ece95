-- The types and the values of the tests are valid.
use Rattle.std.proofs.Common.{◌≡◌, ◌∙◌, sym, ap, subst, refl, ℕ, ℤ, zero, suc, ◌<◌, ◌≤◌, arith, Bool, true, ◌&&◌, nat_eq, nat_le, List, [], ◌∷◌, ◌++◌, map, length, Some, slice_get}
use Rattle.std.specs.List.{list_all, flat_map}
use Rattle.jl_model.specs.declared.ty.Ty.{Ty}
use Rattle.jl_model.specs.declared.ty.Ty.TheOpen.{Nominal}
use Rattle.jl_model.specs.declared.ty.Ty.TheViews.{out-Ty, outs-Nominal, rolls-Nominal}
use Rattle.jl_model.specs.declared.ty.Ty.TheViews as V
use Rattle.jl_model.specs.declared.ty.Ty.TheFolds.{fold-roll-Ty}
use Rattle.jl_model.specs.declared.ty.Decl.{Decl}
use Rattle.jl_model.specs.Ancestors.{table_of, named, is_struct_kind}
use Rattle.jl_model.specs.Counts.{raw, nodes, total, greatest}
use Rattle.jl_model.specs.Normal.{AllNormal, nominal, none as no_normal, more as more_normal}
use Rattle.jl_model.specs.Rows.{vars_in}
use Rattle.jl_model.specs.Valid.{is_counted, counted_step, params_of}
use Rattle.jl_model.proofs.TypeInduction.{Each}
use Rattle.jl_model.proofs.FormLemmas.{all_of, vars-nominal}
use Rattle.jl_model.proofs.PutLemmas.{both_true}
use Rattle.jl_model.proofs.KnownLemmas.{Known, known_nominal}
use Rattle.jl_model.proofs.CountLemmas.{nodes-nominal, raw-nominal}
use Rattle.jl_program.specs.declared.datum.Datum.{Datum}
use Rattle.jl_program.specs.declared.value.Value.{Value}
use Rattle.jl_program.specs.declared.value.Value.TheVariants as U
use Rattle.jl_program.specs.Meaning.{datum}
use Rattle.jl_program.specs.ValidValue.{IsStructType, is_declared_step, IsValid, AllValid, int, truth, nothing, task, none, more}
use Rattle.jl_value.specs.Samples.{sample_types}
use Rattle.jl_value.proofs.ValueLemmas.{out_datum}
use Rattle.jl_value.proofs.KeptLemmas.{concrete-nominal, closed_of}

-- a type without arguments
abbrev Leaf : List Decl → Ty → Type 0
Leaf ds x = (j : ℕ) × (x ≡ V.Nominal j []) × (j < length ds) × (params_of (slice_get ds j) ≡ [])

counted-nominal : (ds : List Decl) (k : ℕ) (ts : List Ty) → is_counted ds (V.Nominal k ts) ≡ (nat_eq (length (map (is_counted ds) ts)) (length (params_of (slice_get ds k))) && list_all (is_counted ds) ts)
counted-nominal ds k ts =
    ap (is_counted ds) (sym (rolls-Nominal k ts)) ∙ fold-roll-Ty Bool (counted_step ds) (Nominal k ts)
    ∙ ap (λ b. nat_eq (length (map (is_counted ds) ts)) (length (params_of (slice_get ds k))) && b) (all_of (is_counted ds) ts)

map_long : {A B : Type 0} (f : A → B) (ts : List A) → length (map f ts) ≡ length ts
map_long f [] = refl
map_long f (t ∷ ts) = ap suc (map_long f ts)

module _ (ds : List Decl) where
  leaf_known : (x : Ty) → Leaf ds x → Known (length ds) x
  leaf_known x h = subst (λ z. Known (length ds) z) (sym h.1) (known_nominal (length ds) h.0 [] (grind (arith, h.2)) tt)

  leaf_counted : (x : Ty) → Leaf ds x → is_counted ds x ≡ true
  leaf_counted x h = subst (λ z. is_counted ds z ≡ true) (sym h.1) (counted-nominal ds h.0 [] ∙ ap (λ bs. nat_eq 0 (length bs) && true) h.3)

  each_known : (xs : List Ty) → Each (Leaf ds) xs → Each (Known (length ds)) xs
  each_known [] h = tt
  each_known (x ∷ xs) h = (leaf_known x h.0, each_known xs h.1)

  each_counted : (xs : List Ty) → Each (Leaf ds) xs → list_all (is_counted ds) xs ≡ true
  each_counted [] h = refl
  each_counted (x ∷ xs) h = both_true (is_counted ds x) (list_all (is_counted ds) xs) (leaf_counted x h.0) (each_counted xs h.1)

  each_normal : (xs : List Ty) → Each (Leaf ds) xs → AllNormal (table_of ds) xs
  each_normal [] h = no_normal
  each_normal (x ∷ xs) h = more_normal x xs (nominal x h.0.0 [] (ap out-Ty h.0.1 ∙ outs-Nominal h.0.0 []) no_normal) (each_normal xs h.1)

  no_vars : (xs : List Ty) → Each (Leaf ds) xs → flat_map vars_in xs ≡ []
  no_vars [] h = refl
  no_vars (x ∷ xs) h = let e : vars_in x ≡ [] = ap vars_in h.0.1 ∙ vars-nominal h.0.0 [] in let f = no_vars xs h.1 in rw (e, f) refl

  each_nodes : (xs : List Ty) → Each (Leaf ds) xs → total (map nodes xs) ≡ length xs
  each_nodes [] h = refl
  each_nodes (x ∷ xs) h = let e : nodes x ≡ 1 = ap nodes h.0.1 ∙ nodes-nominal h.0.0 [] in let f = each_nodes xs h.1 in omega (arith, e, f)

  each_widest : (xs : List Ty) → Each (Leaf ds) xs → greatest (map (λ r. r.widest) (map raw xs)) ≤ 1
  each_widest [] h = omega arith
  each_widest (x ∷ xs) h = let e : (raw x).widest ≡ 1 = ap (λ z. (raw z).widest) h.0.1 ∙ ap (λ r. r.widest) (raw-nominal h.0.0 []) in let f = each_widest xs h.1 in omega (arith, e, f)

  struct_type : (k : ℕ) (xs : List Ty) (d : Decl) → k < length ds → nat_le 8 k ≡ true → slice_get ds k ≡ Some d → is_struct_kind (Some d) ≡ true → nat_eq (length xs) (length d.params) ≡ true → length xs ≤ 8
      → Each (Leaf ds) xs → IsStructType ds (V.Nominal k xs)
  unfolding table_of
  struct_type k xs d l g e s c m h =
      let n = table_of ds in
      let st : n.is_struct k ≡ true = ap is_struct_kind e ∙ s in
      let count : nat_eq (length (map (is_counted ds) xs)) (length (params_of (slice_get ds k))) ≡ true = ap (λ o. nat_eq (length (map (is_counted ds) xs)) (length (params_of o))) e ∙ ap (λ j. nat_eq j (length d.params)) (map_long (is_counted ds) xs) ∙ c in
      record {
        value_type = record {
          normal = nominal (V.Nominal k xs) k xs (outs-Nominal k xs) (each_normal xs h);
          valid = record {
            known = known_nominal (length ds) k xs (grind (arith, l)) (each_known xs h);
            counted = counted-nominal ds k xs ∙ both_true (nat_eq (length (map (is_counted ds) xs)) (length (params_of (slice_get ds k)))) (list_all (is_counted ds) xs) count (each_counted xs h);
          };
          closed = closed_of (V.Nominal k xs) (vars-nominal k xs ∙ no_vars xs h);
          concrete = concrete-nominal n k xs ∙ st;
          small = record {
            nodes = omega (arith, nodes-nominal k xs, each_nodes xs h, m);
            alternatives = let w = ap (λ r. r.widest) (raw-nominal k xs) in let q = each_widest xs h in omega (arith, w, q);
          };
        };
        declared = ap is_declared_step (outs-Nominal k xs) ∙ g;
      }

-- the types of the sample
pub pair-type : (ds : List Decl) (t : Ty) → ds ≡ sample_types → t ≡ named 8 → IsStructType ds t
pair-type ds t e f = subst (λ z. IsStructType z t) (sym e) (subst (IsStructType sample_types) (sym f) (struct_type sample_types 8 [] _ (omega arith) refl refl refl refl (omega arith) tt))

pub square-type : (ds : List Decl) (t : Ty) → ds ≡ sample_types → t ≡ named 10 → IsStructType ds t
square-type ds t e f = subst (λ z. IsStructType z t) (sym e) (subst (IsStructType sample_types) (sym f) (struct_type sample_types 10 [] _ (omega arith) refl refl refl refl (omega arith) tt))

pub wood-type : (ds : List Decl) (t : Ty) → ds ≡ sample_types → t ≡ named 11 → IsStructType ds t
wood-type ds t e f = subst (λ z. IsStructType z t) (sym e) (subst (IsStructType sample_types) (sym f) (struct_type sample_types 11 [] _ (omega arith) refl refl refl refl (omega arith) tt))

builtin_plain : (k : ℕ) → k < 8 → params_of (slice_get sample_types k) ≡ []
builtin_plain zero l = refl
builtin_plain (suc zero) l = refl
builtin_plain (suc (suc zero)) l = refl
builtin_plain (suc (suc (suc zero))) l = refl
builtin_plain (suc (suc (suc (suc zero)))) l = refl
builtin_plain (suc (suc (suc (suc (suc zero))))) l = refl
builtin_plain (suc (suc (suc (suc (suc (suc zero)))))) l = refl
builtin_plain (suc (suc (suc (suc (suc (suc (suc zero))))))) l = refl
builtin_plain (suc (suc (suc (suc (suc (suc (suc (suc k)))))))) l = absurd (omega (arith, l))

pub box-type : (ds : List Decl) (t : Ty) (k : ℕ) → ds ≡ sample_types → t ≡ V.Nominal 9 (named k ∷ []) → k < 8 → IsStructType ds t
box-type ds t k e f l =
    subst (λ z. IsStructType z t) (sym e) (subst (IsStructType sample_types) (sym f)
    (struct_type sample_types 9 (named k ∷ []) _ (omega arith) refl refl refl refl (omega arith) ((k, refl, omega (arith, l), builtin_plain k l), tt)))

pub part-type : (ds : List Decl) (t : Ty) → ds ≡ sample_types → t ≡ V.Nominal 12 (named 10 ∷ named 11 ∷ []) → IsStructType ds t
part-type ds t e f =
    subst (λ z. IsStructType z t) (sym e) (subst (IsStructType sample_types) (sym f)
    (struct_type sample_types 12 (named 10 ∷ named 11 ∷ []) _ (omega arith) refl refl refl refl (omega arith) ((10, refl, omega arith, refl), ((11, refl, omega arith, refl), tt))))

-- leaves
pub int-valid : (n : ℤ) → IsValid sample_types (datum (U.Int n))
int-valid n = int (datum (U.Int n)) n (out_datum (U.Int n))

pub bool-valid : (b : Bool) → IsValid sample_types (datum (U.Bool b))
bool-valid b = truth (datum (U.Bool b)) b (out_datum (U.Bool b))

pub nothing-valid : IsValid sample_types (datum U.Nothing)
nothing-valid = nothing (datum U.Nothing) (out_datum U.Nothing)

pub task-valid : (n : ℕ) → IsValid sample_types (datum (U.Task n))
task-valid n = task (datum (U.Task n)) n (out_datum (U.Task n))

-- lists of parts
pub none-valid : (ds : List Decl) (parts : List Datum) → parts ≡ [] → AllValid ds parts
none-valid ds parts e = subst (AllValid ds) (sym e) none

pub one-valid : (ds : List Decl) (parts : List Datum) (a : Datum) → ds ≡ sample_types → parts ≡ a ∷ [] → IsValid sample_types a → AllValid ds parts
one-valid ds parts a e f h = subst (AllValid ds) (sym f) (more a [] (subst (λ z. IsValid z a) (sym e) h) none)

pub two-valid : (ds : List Decl) (parts : List Datum) (a b : Datum) → ds ≡ sample_types → parts ≡ a ∷ b ∷ [] → IsValid sample_types a → IsValid sample_types b → AllValid ds parts
two-valid ds parts a b e f h k = subst (AllValid ds) (sym f) (more a (b ∷ []) (subst (λ z. IsValid z a) (sym e) h) (more b [] (subst (λ z. IsValid z b) (sym e) k) none))

-- one part more
pub snoc-valid : (vs : List Value) (v : Value) → AllValid sample_types (map datum vs) → IsValid sample_types (datum v) → AllValid sample_types (map datum (vs ++ v ∷ []))
snoc-valid [] v h k = more (datum v) [] k none
snoc-valid (w ∷ vs) v (more d ps p q) k = more (datum w) (map datum (vs ++ v ∷ [])) p (snoc-valid vs v q k)

pub ruleset values = (pair-type, square-type, wood-type, box-type, part-type, int-valid, bool-valid, nothing-valid, task-valid, none-valid, one-valid, two-valid, snoc-valid)
