-- The texts of types, values and faults of a valid program may stand in a line, whatever the numbers in them are.
use Rattle.std.proofs.Common.{◌≡◌, ◌∙◌, sym, refl, ap, subst, ℕ, ◌<◌, arith, Bool, true, false, codes, List, [], ◌∷◌, ◌++◌, length, length-append, map, decimal}
use Rattle.std.specs.Fmt.{signed_decimal}
use Rattle.jl_model.specs.declared.limits.TheConstants.{MOST_OPEN_CALLS, MOST_WORLDS, MOST_TASKS}
use Rattle.jl_model.specs.declared.ty.Ty.{Ty}
use Rattle.jl_model.specs.declared.ty.Ty.TheOpen as O
use Rattle.jl_model.specs.declared.ty.Ty.TheViews.{rolls-Any, rolls-Union, rolls-Tuple, rolls-Nominal, rolls-Var}
use Rattle.jl_model.specs.declared.ty.Ty.TheViews as V
use Rattle.jl_model.specs.declared.ty.Ty.TheFolds.{fold-roll-Ty}
use Rattle.jl_model.proofs.TypeInduction.{Each, by_cases}
use Rattle.jl_program.specs.declared.datum.Datum.{Datum}
use Rattle.jl_program.specs.declared.datum.Datum.TheOpen.{Datum-F}
use Rattle.jl_program.specs.declared.datum.Datum.TheOpen as D
use Rattle.jl_program.specs.declared.datum.Datum.TheViews.{roll-Datum}
use Rattle.jl_program.specs.declared.datum.Datum.TheFolds.{ind-Datum, map-Datum, fold-roll-Datum}
use Rattle.jl_program.specs.declared.value.Value.{Value}
use Rattle.jl_program.specs.declared.value.Value.TheVariants as X
use Rattle.jl_program.specs.declared.fault.Fault.{Fault}
use Rattle.jl_program.specs.declared.fault.Fault.TheVariants as F
use Rattle.jl_program.specs.declared.tree.Program.{Program}
use Rattle.jl_program.specs.Meaning.{datum}
use Rattle.jl_program.specs.Text.{in_braces, arguments, joined, type_step, type_text, type_name, type_names, in_parentheses, tuple_text, bool_text, datum_step, datum_text, value_text, types_text, function_name, fault_text}
use Rattle.jl_program.specs.Valid.{IsValid}
use Rattle.jl_calculus.specs.declared.history.Outcome.{Outcome}
use Rattle.jl_calculus.specs.declared.history.Outcome.TheVariants as R
use Rattle.jl_history.proofs.LineTexts.{IsLine, IsFilled, AreLines, nothing_line, plain_line, line_append, joined_line, line_at, decimal_line, signed_line, signed_some}
use Rattle.jl_history.proofs.NameTexts.{type_lines, function_lines}

-- ---- texts in brackets

braces_line : (ts : List (List ℕ)) → AreLines ts → IsLine (in_braces ts)
braces_line ts h = line_append (codes "{") (joined ts ++ codes "}") (plain_line (codes "{") refl) (line_append (joined ts) (codes "}") (joined_line ts h) (plain_line (codes "}") refl))

parentheses_line : (ts : List (List ℕ)) → AreLines ts → IsLine (in_parentheses ts)
parentheses_line ts h = line_append (codes "(") (joined ts ++ codes ")") (plain_line (codes "(") refl) (line_append (joined ts) (codes ")") (joined_line ts h) (plain_line (codes ")") refl))

arguments_line : (ts : List (List ℕ)) → AreLines ts → IsLine (arguments ts)
arguments_line [] h = nothing_line
arguments_line (t ∷ ts) h = braces_line (t ∷ ts) h

tuple_line : (ts : List (List ℕ)) → AreLines ts → IsLine (tuple_text ts)
tuple_line [] h = parentheses_line [] h
tuple_line (t ∷ []) h = line_append (codes "(") (t ++ codes ",)") (plain_line (codes "(") refl) (line_append t (codes ",)") h.0 (plain_line (codes ",)") refl))
tuple_line (t ∷ u ∷ ts) h = parentheses_line (t ∷ u ∷ ts) h

bool_line : (b : Bool) → IsLine (bool_text b)
bool_line true = plain_line (codes "true") refl
bool_line false = plain_line (codes "false") refl

-- the names of fields that a fault has in it may stand in a line
abbrev pub IsNamed : Fault → Type 0
IsNamed (F.NoMethod f ts w) = Unit {0}
IsNamed (F.Ambiguous f ts a b) = Unit {0}
IsNamed (F.NoConstructor t ts) = Unit {0}
IsNamed F.DivideError = Unit {0}
IsNamed (F.FieldType t name got) = IsLine name
IsNamed (F.BadParameter t) = Unit {0}
IsNamed (F.NoField t name) = IsLine name
IsNamed (F.NoIndex t n) = Unit {0}
IsNamed (F.NotBool t) = Unit {0}
IsNamed (F.NotTask t) = Unit {0}
IsNamed (F.TaskFailed n) = Unit {0}
IsNamed (F.NoSuchMethod f) = Unit {0}
IsNamed (F.FuelSpent n) = Unit {0}
IsNamed F.StackLimit = Unit {0}
IsNamed F.WorldLimit = Unit {0}
IsNamed F.TaskLimit = Unit {0}
IsNamed F.TypeLimit = Unit {0}
IsNamed F.ValueLimit = Unit {0}

-- what a task that ends so tells
abbrev pub IsTold : Outcome → Type 0
IsTold (R.Value x) = Unit {0}
IsTold (R.Error e) = IsNamed e

module _ (P : Program) (v : IsValid P) where
  -- ---- types

  each_line : (ts : List Ty) → Each (λ t. IsLine (type_text P t)) ts → AreLines (map (type_text P) ts)
  each_line [] h = tt
  each_line (t ∷ ts) h = (h.0, each_line ts h.1)

  at_text : (a b : List ℕ) → a ≡ b → IsLine b → IsLine a
  at_text a b e h = subst IsLine (sym e) h

  text-union : (ts : List Ty) → type_text P (V.Union ts) ≡ codes "Union" ++ in_braces (map (type_text P) ts)
  text-union ts = ap (type_text P) (sym (rolls-Union ts)) ∙ fold-roll-Ty (List ℕ) (type_step P) (O.Union ts)

  pub text-tuple : (ts : List Ty) → type_text P (V.Tuple ts) ≡ codes "Tuple" ++ in_braces (map (type_text P) ts)
  text-tuple ts = ap (type_text P) (sym (rolls-Tuple ts)) ∙ fold-roll-Ty (List ℕ) (type_step P) (O.Tuple ts)

  text-nominal : (k : ℕ) (ts : List Ty) → type_text P (V.Nominal k ts) ≡ type_name P k ++ arguments (map (type_text P) ts)
  text-nominal k ts = ap (type_text P) (sym (rolls-Nominal k ts)) ∙ fold-roll-Ty (List ℕ) (type_step P) (O.Nominal k ts)

  pub type_line : (t : Ty) → IsLine (type_text P t)
  type_line =
      by_cases (λ t. IsLine (type_text P t)) (record {
        any = at_text _ (codes "Any") (ap (type_text P) (sym rolls-Any) ∙ fold-roll-Ty (List ℕ) (type_step P) O.Any) (plain_line (codes "Any") refl);
        union = λ ts h. at_text _ _ (text-union ts) (line_append (codes "Union") _ (plain_line (codes "Union") refl) (braces_line (map (type_text P) ts) (each_line ts h)));
        tuple = λ ts h. at_text _ _ (text-tuple ts) (line_append (codes "Tuple") _ (plain_line (codes "Tuple") refl) (braces_line (map (type_text P) ts) (each_line ts h)));
        nominal = λ k ts h. at_text _ _ (text-nominal k ts) (line_append (type_name P k) _ (line_at (type_names P) (type_lines P v) k) (arguments_line (map (type_text P) ts) (each_line ts h)));
        var = λ n. at_text _ (codes "_") (ap (type_text P) (sym (rolls-Var n)) ∙ fold-roll-Ty (List ℕ) (type_step P) (O.Var n)) (plain_line (codes "_") refl);
      })

  -- ---- values

  abbrev LineOf : Datum → Type 0
  LineOf d = IsLine (datum_text P d)

  part_lines : (ds : List ((d : Datum) × LineOf d)) → AreLines (map (datum_text P) (map (λ e. e.0) ds))
  part_lines [] = tt
  part_lines (d ∷ ds) = (d.1, part_lines ds)

  step_line : (y : Datum-F ((d : Datum) × LineOf d)) → LineOf (roll-Datum (map-Datum ((d : Datum) × LineOf d) Datum (λ e. e.0) y))
  step_line (D.Int n) = at_text _ (signed_decimal n) (fold-roll-Datum (List ℕ) (datum_step P) (D.Int n)) (signed_line n)
  step_line (D.Bool b) = at_text _ (bool_text b) (fold-roll-Datum (List ℕ) (datum_step P) (D.Bool b)) (bool_line b)
  step_line D.Nothing = at_text _ (codes "nothing") (fold-roll-Datum (List ℕ) (datum_step P) D.Nothing) (plain_line (codes "nothing") refl)
  step_line (D.Task n) =
      at_text _ (codes "Task(" ++ (decimal n ++ codes ")")) (fold-roll-Datum (List ℕ) (datum_step P) (D.Task n))
      (line_append (codes "Task(") _ (plain_line (codes "Task(") refl) (line_append (decimal n) (codes ")") (decimal_line n) (plain_line (codes ")") refl)))
  step_line (D.Tuple t ds) =
      at_text _ (tuple_text (map (datum_text P) (map (λ e. e.0) ds))) (fold-roll-Datum (List ℕ) (datum_step P) (D.Tuple t (map (λ e. e.0) ds))) (tuple_line _ (part_lines ds))
  step_line (D.Struct t ds) =
      at_text _ (type_text P t ++ in_parentheses (map (datum_text P) (map (λ e. e.0) ds))) (fold-roll-Datum (List ℕ) (datum_step P) (D.Struct t (map (λ e. e.0) ds)))
      (line_append (type_text P t) _ (type_line t) (parentheses_line _ (part_lines ds)))

  datum_line : (d : Datum) → LineOf d
  datum_line = ind-Datum LineOf (λ x y is. subst (λ z. LineOf (roll-Datum z)) is (step_line y))

  pub value_line : (x : Value) → IsLine (value_text P x)
  value_line x = datum_line (datum x)

  -- ---- faults

  types_lines : (ts : List Ty) → AreLines (map (λ t. codes "::" ++ type_text P t) ts)
  types_lines [] = tt
  types_lines (t ∷ ts) = (line_append (codes "::") (type_text P t) (plain_line (codes "::") refl) (type_line t), types_lines ts)

  types_line : (ts : List Ty) → IsLine (types_text P ts)
  types_line ts = parentheses_line (map (λ t. codes "::" ++ type_text P t) ts) (types_lines ts)

  function_line : (f : ℕ) → IsLine (function_name P f)
  function_line f = line_at P.functions (function_lines P v) f

  -- a literal, and what follows it
  then_line : (word rest : List ℕ) → IsLine word → IsLine rest → IsLine (word ++ rest)
  then_line word rest h k = line_append word rest h k

  pub fault_line : (e : Fault) → IsNamed e → IsLine (fault_text P e)
  fault_line (F.NoMethod f ts w) h =
      then_line (codes "MethodError: no method matching ") _ (plain_line _ refl)
      (then_line (function_name P f) _ (function_line f) (then_line (types_text P ts) _ (types_line ts) (then_line (codes " in world ") _ (plain_line _ refl) (decimal_line w))))
  fault_line (F.Ambiguous f ts a b) h =
      then_line (codes "MethodError: ") _ (plain_line _ refl)
      (then_line (function_name P f) _ (function_line f)
      (then_line (types_text P ts) _ (types_line ts)
      (then_line (codes " is ambiguous between definitions ") _ (plain_line _ refl) (then_line (decimal a) _ (decimal_line a) (then_line (codes " and ") _ (plain_line _ refl) (decimal_line b))))))
  fault_line (F.NoConstructor t ts) h = then_line (codes "MethodError: no method matching ") _ (plain_line _ refl) (then_line (type_text P t) _ (type_line t) (types_line ts))
  fault_line F.DivideError h = plain_line _ refl
  fault_line (F.FieldType t name got) h =
      then_line (codes "TypeError: field ") _ (plain_line _ refl)
      (then_line name _ h (then_line (codes " of ") _ (plain_line _ refl) (then_line (type_text P t) _ (type_line t) (then_line (codes " got ") _ (plain_line _ refl) (type_line got)))))
  fault_line (F.BadParameter t) h = then_line (codes "TypeError: ") _ (plain_line _ refl) (then_line (type_text P t) _ (type_line t) (plain_line (codes " breaks a declared bound") refl))
  fault_line (F.NoField t name) h = then_line (codes "FieldError: ") _ (plain_line _ refl) (then_line (type_text P t) _ (type_line t) (then_line (codes " has no field ") _ (plain_line _ refl) h))
  fault_line (F.NoIndex t n) h = then_line (codes "BoundsError: ") _ (plain_line _ refl) (then_line (type_text P t) _ (type_line t) (then_line (codes " has no part ") _ (plain_line _ refl) (decimal_line n)))
  fault_line (F.NotBool t) h =
      then_line (codes "TypeError: non-boolean (") _ (plain_line _ refl) (then_line (type_text P t) _ (type_line t) (plain_line (codes ") used in boolean context") refl))
  fault_line (F.NotTask t) h = then_line (codes "NotTask: ") _ (plain_line _ refl) (type_line t)
  fault_line (F.TaskFailed n) h = then_line (codes "TaskFailedException: task ") _ (plain_line _ refl) (decimal_line n)
  fault_line (F.NoSuchMethod f) h = then_line (codes "NoSuchMethod: ") _ (plain_line _ refl) (function_line f)
  fault_line (F.FuelSpent n) h = then_line (codes "FuelSpent: ") _ (plain_line _ refl) (then_line (decimal n) _ (decimal_line n) (plain_line (codes " calls") refl))
  fault_line F.StackLimit h =
      then_line (codes "StackOverflowError: ") _ (plain_line _ refl) (then_line (decimal MOST_OPEN_CALLS) _ (decimal_line MOST_OPEN_CALLS) (plain_line (codes " open calls") refl))
  fault_line F.WorldLimit h = then_line (codes "WorldLimit: ") _ (plain_line _ refl) (then_line (decimal MOST_WORLDS) _ (decimal_line MOST_WORLDS) (plain_line (codes " worlds") refl))
  fault_line F.TaskLimit h = then_line (codes "TaskLimit: ") _ (plain_line _ refl) (then_line (decimal MOST_TASKS) _ (decimal_line MOST_TASKS) (plain_line (codes " tasks") refl))
  fault_line F.TypeLimit h = plain_line _ refl
  fault_line F.ValueLimit h = plain_line _ refl

  -- ---- none is empty

  then_some : (word rest : List ℕ) → 0 < length word → IsFilled (word ++ rest)
  then_some word rest h = record { some = omega (arith, h, length-append word rest) }

  at_some : (a b : List ℕ) → a ≡ b → IsFilled b → IsFilled a
  at_some a b e h = subst IsFilled (sym e) h

  bool_some : (b : Bool) → IsFilled (bool_text b)
  bool_some true = record { some = omega arith }
  bool_some false = record { some = omega arith }

  tuple_some : (ts : List (List ℕ)) → IsFilled (tuple_text ts)
  tuple_some [] = then_some (codes "(") _ (omega arith)
  tuple_some (t ∷ []) = then_some (codes "(") _ (omega arith)
  tuple_some (t ∷ u ∷ ts) = then_some (codes "(") _ (omega arith)

  struct_some : (t : Ty) (ts : List (List ℕ)) → IsFilled (type_text P t ++ in_parentheses ts)
  struct_some t ts =
      let a = then_some (codes "(") (joined ts ++ codes ")") (omega arith) in
      record { some = omega (arith, a.some, length-append (type_text P t) (in_parentheses ts)) }

  pub value_some : (x : Value) → IsFilled (value_text P x)
  value_some (X.Int n) = at_some _ (signed_decimal n) (fold-roll-Datum (List ℕ) (datum_step P) (D.Int n)) (signed_some n)
  value_some (X.Bool b) = at_some _ (bool_text b) (fold-roll-Datum (List ℕ) (datum_step P) (D.Bool b)) (bool_some b)
  value_some X.Nothing = at_some _ (codes "nothing") (fold-roll-Datum (List ℕ) (datum_step P) D.Nothing) (record { some = omega arith })
  value_some (X.Task n) = at_some _ (codes "Task(" ++ (decimal n ++ codes ")")) (fold-roll-Datum (List ℕ) (datum_step P) (D.Task n)) (then_some (codes "Task(") _ (omega arith))
  value_some (X.Tuple c) = at_some _ (tuple_text (map (datum_text P) c.parts)) (fold-roll-Datum (List ℕ) (datum_step P) (D.Tuple c.ty c.parts)) (tuple_some (map (datum_text P) c.parts))
  value_some (X.Struct c) =
      at_some _ (type_text P c.ty ++ in_parentheses (map (datum_text P) c.parts)) (fold-roll-Datum (List ℕ) (datum_step P) (D.Struct c.ty c.parts)) (struct_some c.ty (map (datum_text P) c.parts))

  pub tuple_type_some : (ts : List Ty) → IsFilled (type_text P (V.Tuple ts))
  tuple_type_some ts = at_some _ (codes "Tuple" ++ in_braces (map (type_text P) ts)) (text-tuple ts) (then_some (codes "Tuple") _ (omega arith))

  pub fault_some : (e : Fault) → IsFilled (fault_text P e)
  fault_some (F.NoMethod f ts w) = then_some (codes "MethodError: no method matching ") _ (omega arith)
  fault_some (F.Ambiguous f ts a b) = then_some (codes "MethodError: ") _ (omega arith)
  fault_some (F.NoConstructor t ts) = then_some (codes "MethodError: no method matching ") _ (omega arith)
  fault_some F.DivideError = record { some = omega arith }
  fault_some (F.FieldType t name got) = then_some (codes "TypeError: field ") _ (omega arith)
  fault_some (F.BadParameter t) = then_some (codes "TypeError: ") _ (omega arith)
  fault_some (F.NoField t name) = then_some (codes "FieldError: ") _ (omega arith)
  fault_some (F.NoIndex t n) = then_some (codes "BoundsError: ") _ (omega arith)
  fault_some (F.NotBool t) = then_some (codes "TypeError: non-boolean (") _ (omega arith)
  fault_some (F.NotTask t) = then_some (codes "NotTask: ") _ (omega arith)
  fault_some (F.TaskFailed n) = then_some (codes "TaskFailedException: task ") _ (omega arith)
  fault_some (F.NoSuchMethod f) = then_some (codes "NoSuchMethod: ") _ (omega arith)
  fault_some (F.FuelSpent n) = then_some (codes "FuelSpent: ") _ (omega arith)
  fault_some F.StackLimit = then_some (codes "StackOverflowError: ") _ (omega arith)
  fault_some F.WorldLimit = then_some (codes "WorldLimit: ") _ (omega arith)
  fault_some F.TaskLimit = then_some (codes "TaskLimit: ") _ (omega arith)
  fault_some F.TypeLimit = record { some = omega arith }
  fault_some F.ValueLimit = record { some = omega arith }
