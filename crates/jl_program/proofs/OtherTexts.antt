-- Texts over declared types.
use Rattle.std.proofs.Common.{◌≡◌, ◌∙◌, refl, sym, ap, ℕ, pos, codes, List, [], ◌∷◌, ◌++◌, map, Some, None}
use Rattle.std.specs.Fmt.{digits}
use Rattle.jl_model.specs.declared.ty.Ty.{Ty}
use Rattle.jl_model.specs.declared.ty.Ty.TheVariants as T
use Rattle.jl_model.specs.declared.ty.Ty.TheOpen as L
use Rattle.jl_model.specs.declared.ty.Ty.TheViews.{rolls-Nominal, rolls-Var, outs-Nominal, outs-Any}
use Rattle.jl_model.specs.declared.ty.Ty.TheViews as W
use Rattle.jl_model.specs.declared.ty.Ty.TheFolds.{fold-roll-Ty}
use Rattle.jl_model.specs.declared.ty.Decl.{Decl}
use Rattle.jl_model.specs.declared.ty.DeclKind.TheVariants.{Struct}
use Rattle.jl_model.specs.Ancestors.{named, up_in, builtin_types}
use Rattle.jl_model.specs.Rows.{free}
use Rattle.jl_program.specs.declared.tree.Program.{Program}
use Rattle.jl_program.specs.declared.value.Value.TheVariants as V
use Rattle.jl_program.specs.declared.datum.Datum.TheOpen as D
use Rattle.jl_program.specs.declared.datum.Datum.TheFolds.{fold-roll-Datum}
use Rattle.jl_program.specs.declared.fault.Fault.TheVariants as F
use Rattle.jl_program.specs.Prelude.{prelude_functions, prelude_sites, int64, bool}
use Rattle.jl_program.specs.Meaning.{datum}
use Rattle.jl_program.specs.Text.{fault_text, value_text, datum_step, type_text, type_step, type_name, arguments}

abbrev box : Decl
box = record { name = codes "Box"; kind = Struct; params = free ∷ []; parent = T.Any; fields = record { name = codes "x"; ty = T.Var 0 } ∷ [] }

abbrev wood : Decl
wood = record { name = codes "Wood"; kind = Struct; params = []; parent = T.Any; fields = [] }

abbrev P : Program
P = record { decls = box ∷ wood ∷ []; functions = prelude_functions; sites = prelude_sites; spawns = []; deletes = []; top = [] }

nominal-text : (n : ℕ) (ts : List Ty) → type_text P (W.Nominal n ts) ≡ type_name P n ++ arguments (map (type_text P) ts)
nominal-text n ts = ap (type_text P) (sym (rolls-Nominal n ts)) ∙ fold-roll-Ty (List ℕ) (type_step P) (L.Nominal n ts)

int64-text : type_text P int64 ≡ codes "Int64"
int64-text = nominal-text 4 []

bool-text : type_text P bool ≡ codes "Bool"
bool-text = nominal-text 5 []

abbrev box_of : Ty → Ty
box_of t = W.Nominal 8 (t ∷ [])

box-text : type_text P (box_of int64) ≡ codes "Box{Int64}"
box-text = nominal-text 8 (int64 ∷ []) ∙ rw int64-text refl

variable-text : (v : ℕ) → type_text P (T.Var v) ≡ codes "_"
variable-text v = ap (type_text P) (sym (rolls-Var v)) ∙ fold-roll-Ty (List ℕ) (type_step P) (L.Var v)

box-of-variable : type_text P (box_of (T.Var 0)) ≡ codes "Box{_}"
box-of-variable = nominal-text 8 (T.Var 0 ∷ []) ∙ rw (variable-text 0) refl

wood-text : type_text P (named 9) ≡ codes "Wood"
wood-text = nominal-text 9 []

box_value : value_text P (V.Struct (record { ty = box_of int64; parts = datum (V.Int (pos 3)) ∷ [] })) ≡ codes "Box{Int64}(3)"
unfolding digits
box_value =
    fold-roll-Datum (List ℕ) (datum_step P) (D.Struct (box_of int64) (datum (V.Int (pos 3)) ∷ []))
    ∙ rw (box-text, fold-roll-Datum (List ℕ) (datum_step P) (D.Int (pos 3))) refl

wood_value : value_text P (V.Struct (record { ty = named 9; parts = [] })) ≡ codes "Wood()"
wood_value = fold-roll-Datum (List ℕ) (datum_step P) (D.Struct (named 9) []) ∙ rw wood-text refl

field_type : fault_text P (F.FieldType (box_of int64) (codes "x") bool) ≡ codes "TypeError: field x of Box{Int64} got Bool"
field_type = rw (box-text, bool-text) refl

no_constructor : fault_text P (F.NoConstructor (box_of int64) (int64 ∷ bool ∷ [])) ≡ codes "MethodError: no method matching Box{Int64}(::Int64, ::Bool)"
no_constructor = rw (box-text, int64-text, bool-text) refl

-- an inferred constructor is named without arguments
no_inferred : fault_text P (F.NoConstructor (named 8) (int64 ∷ bool ∷ [])) ≡ codes "MethodError: no method matching Box(::Int64, ::Bool)"
no_inferred = rw (nominal-text 8 [], int64-text, bool-text) refl

bad_parameter : fault_text P (F.BadParameter (box_of bool)) ≡ codes "TypeError: Box{Bool} breaks a declared bound"
bad_parameter = rw (nominal-text 8 (bool ∷ []), bool-text) refl

-- ---- ancestors of the built-in types

int_is_number : up_in builtin_types 4 0 ≡ Some []
int_is_number = rw (outs-Nominal 3 [], outs-Nominal 2 [], outs-Nominal 1 [], outs-Nominal 0 []) refl

int_is_int : up_in builtin_types 4 4 ≡ Some []
int_is_int = refl

int_is_no_bool : up_in builtin_types 4 5 ≡ None
int_is_no_bool = rw (outs-Nominal 3 [], outs-Nominal 2 [], outs-Nominal 1 [], outs-Nominal 0 [], outs-Any) refl

bool_is_integer : up_in builtin_types 5 2 ≡ Some []
bool_is_integer = rw (outs-Nominal 2 []) refl

bool_is_not_signed : up_in builtin_types 5 3 ≡ None
bool_is_not_signed = rw (outs-Nominal 2 [], outs-Nominal 1 [], outs-Nominal 0 [], outs-Any) refl

nothing_is_no_number : up_in builtin_types 6 0 ≡ None
nothing_is_no_number = rw outs-Any refl

box_is_box : up_in (builtin_types ++ P.decls) 8 8 ≡ Some (T.Var 0 ∷ [])
box_is_box = refl
