-- The rows of the small scripts.
use Rattle.std.proofs.Common.{ℕ, zero, suc, ◌+◌, ◌≤◌, ℤ, pos, codes, cond, true, false, ◌&&◌, List, [], ◌∷◌, ◌++◌, map, None, Some, ◌≡◌, inl, refl, sym, ap, subst, ◌∙◌, append_assoc}
use Rattle.std.proofs.lemmas.Bool.{le-leb}
use Rattle.jl_model.specs.declared.limits.TheConstants.{MOST_SITES}
use Rattle.jl_model.specs.declared.builtin.TheConstants.{BUILTIN_TYPES}
use Rattle.jl_model.specs.declared.ty.Written.{Written}
use Rattle.jl_model.specs.Rows.{free}
use Rattle.jl_model.specs.Usable.{is_usable}
use Rattle.jl_typeread.specs.declared.tree.ArgText.TheFolds.{fold-roll-TypeText, fold-roll-VarText}
use Rattle.jl_typeread.specs.declared.tree.ArgText.TheOpen as A
use Rattle.jl_typeread.specs.declared.tree.ArgText.TheViews as V
use Rattle.jl_typeread.specs.declared.tree.ArgText.TheViews.{out-TypeText}
use Rattle.jl_typeread.specs.declared.tree.TypeText.{TypeText}
use Rattle.jl_typeread.specs.declared.tree.TypeText.TheVariants as TV
use Rattle.jl_typeread.specs.declared.tree.VarText.{VarText}
use Rattle.jl_typeread.specs.declared.tree.VarText.TheVariants as VV
use Rattle.jl_grammar.specs.declared.tree.Callee.{Callee}
use Rattle.jl_grammar.specs.declared.tree.Callee.TheVariants as C
use Rattle.jl_grammar.specs.declared.tree.Eval.TheFolds.{fold-roll-Expr, fold-roll-Method}
use Rattle.jl_grammar.specs.declared.tree.Eval.TheOpen as F
use Rattle.jl_grammar.specs.declared.tree.Eval.TheViews as E
use Rattle.jl_grammar.specs.declared.tree.Expr.{Expr}
use Rattle.jl_grammar.specs.declared.tree.Expr.TheVariants as X
use Rattle.jl_grammar.specs.declared.tree.Head.{Head}
use Rattle.jl_grammar.specs.declared.tree.Item.{Item}
use Rattle.jl_grammar.specs.declared.tree.Item.TheVariants as N
use Rattle.jl_grammar.specs.declared.tree.Name.{Name}
use Rattle.jl_grammar.specs.declared.tree.Param.TheVariants as P
use Rattle.jl_written.specs.declared.fault.Fault.{Fault}
use Rattle.jl_written.specs.declared.fault.StaticKind.TheVariants as kind
use Rattle.jl_fault_laws.specs.Uses.{Names, Visible, Use, Uses, Stated, Brings, ScriptNames, names_told, used, value, deleted, plain_type, written, deleted_by, bare, in_type, if_read, tuple_uses, at_top, top_uses, brought, with_vars, type_uses, var_uses, body_uses, uses_of}
use Rattle.jl_fault_laws.specs.Uses as U
use Rattle.jl_written.specs.Signatures.{written_of}
use Rattle.jl_resolve_forms.specs.declared.known.Known.{Known}
use Rattle.jl_resolve_forms.specs.Expressions.{is_signature, signature_args, signature_vars}
use Rattle.jl_resolve_forms.specs.TypesIn.{Tests, start_of, start_of_layer}
use Rattle.jl_fault_laws.specs.Rows.{HoldsAt, definitions}
use Rattle.jl_fault_laws.specs.TypeRows.{unless_hidden, unless_misplaced, deleted_at, deleted_refusal, RefusedAt}
use Rattle.jl_fault_laws.specs.Examples.{f, g, x, y, S, R, T, name_at, one_at, known, head, with_line, good, with_unknown_name, with_unknown_function, with_many_arguments, with_unknown_type, with_two_variables, with_prelude_deletion, with_deletion, with_function_name, with_two_bindings, with_built_in, known_struct, with_inferred, method_at, lines, fault}
use Rattle.jl_sig.proofs.StandLemmas.{met_none}
use Rattle.jl_fault_laws.proofs.Firsts.{In}
use Rattle.jl_fault_laws.proofs.Faults.{all_named}
use Rattle.jl_fault_laws.proofs.RowLaws.{holds_among, among_holds}

abbrev told : ScriptNames
told = names_told known

abbrev expr_uses : Expr → Uses
expr_uses = U.expr_uses told

-- ---- the uses of the forms

number_uses : (a : ℕ) (n : ℤ) → expr_uses (X.Number a n) ≡ (λ v. [])
number_uses a n = ap expr_uses (sym (E.rolls-Number a n))
    ∙ fold-roll-Expr Uses Uses Uses Uses Stated Uses (U.eval_step told) (U.expr_step told) (U.method_step told) (U.piece_step told) (U.stmt_step told) (U.branch_step told) (F.Number a n)

name_uses : (a : ℕ) (n : List ℕ) → expr_uses (X.Name a n) ≡ (λ v. used a (value n) v ∷ [])
name_uses a n = ap expr_uses (sym (E.rolls-Name a n))
    ∙ fold-roll-Expr Uses Uses Uses Uses Stated Uses (U.eval_step told) (U.expr_step told) (U.method_step told) (U.piece_step told) (U.stmt_step told) (U.branch_step told) (F.Name a n)

calls_use : (g : ScriptNames) (a : ℕ) (c : Callee) (es : List Expr) → U.expr_uses g (E.Call a c es) ≡ U.expr_step g (F.Call a c (map (U.expr_uses g) es))
calls_use g a c es = ap (U.expr_uses g) (sym (E.rolls-Call a c es))
    ∙ fold-roll-Expr Uses Uses Uses Uses Stated Uses (U.eval_step g) (U.expr_step g) (U.method_step g) (U.piece_step g) (U.stmt_step g) (U.branch_step g) (F.Call a c es)

call_uses : (a : ℕ) (c : Callee) (es : List Expr) → expr_uses (E.Call a c es) ≡ U.expr_step told (F.Call a c (map expr_uses es))
call_uses a c es = calls_use told a c es

isa_uses : (a : ℕ) (e : Expr) (t : TypeText) → expr_uses (E.Isa a e t) ≡ (λ v. expr_uses e v ++ body_uses t v)
isa_uses a e t = ap expr_uses (sym (E.rolls-Isa a e t))
    ∙ fold-roll-Expr Uses Uses Uses Uses Stated Uses (U.eval_step told) (U.expr_step told) (U.method_step told) (U.piece_step told) (U.stmt_step told) (U.branch_step told) (F.Isa a e t)

short_uses : (a : ℕ) (h : Head) (e : Expr) → U.method_uses told (E.Short a h e) ≡ U.method_step told (F.Short a h (expr_uses e))
short_uses a h e = ap (U.method_uses told) (sym (E.rolls-Short a h e))
    ∙ fold-roll-Method Uses Uses Uses Uses Stated Uses (U.eval_step told) (U.expr_step told) (U.method_step told) (U.piece_step told) (U.stmt_step told) (U.branch_step told) (F.Short a h e)

pub plain_uses : (a : ℕ) (n : List ℕ) → type_uses (TV.Name a n) ≡ (λ v. used a (plain_type n) v ∷ [])
plain_uses a n = ap type_uses (sym (V.rolls-Name a n)) ∙ fold-roll-TypeText Uses Uses Brings U.arg_step U.type_step U.var_step (A.Name a n)

paren_uses : (a : ℕ) (t : TypeText) (vs : List VarText) → type_uses (V.Paren a t vs) ≡ U.type_step (A.Paren a (type_uses t) (map var_uses vs))
paren_uses a t vs = ap type_uses (sym (V.rolls-Paren a t vs)) ∙ fold-roll-TypeText Uses Uses Brings U.arg_step U.type_step U.var_step (A.Paren a t vs)

pub free_uses : (a : ℕ) (n : List ℕ) → var_uses (VV.Free a n) ≡ record { at = a; name = n; uses = λ v. [] }
free_uses a n = ap var_uses (sym (V.rolls-Free a n)) ∙ fold-roll-VarText Uses Uses Brings U.arg_step U.type_step U.var_step (A.Free a n)

abbrev no_uses : Uses
no_uses v = []

numbers_use : (ats : List ℕ) → map expr_uses (map one_at ats) ≡ map (λ a. no_uses) ats
numbers_use [] = refl
numbers_use (a ∷ ats) = λ i. number_uses a (pos 1) i ∷ numbers_use ats i

-- ---- the faults of the scripts

abbrev top : Names → Visible
top vs = at_top told BUILTIN_TYPES vs

-- of the method and a line behind it, before what follows
abbrev from_line : Uses → List Use → List Use
from_line u more = U.method_step told (F.Short 0 head no_uses) (top []) ++ (u (top []) ++ (top_uses told (name_at 9 y) (top []) ++ more))

line_uses : (e : Expr) (u : Uses) → expr_uses e ≡ u → (more : List Use)
    → U.method_uses told (E.Short 0 head (one_at 7)) (top []) ++ (expr_uses e (top []) ++ (top_uses told (name_at 9 y) (top []) ++ more)) ≡ from_line u more
line_uses e u h more =
    let m = short_uses 0 head (one_at 7) ∙ ap (λ z. U.method_step told (F.Short 0 head z)) (number_uses 7 (pos 1)) in
    λ i. m i (top []) ++ (h i (top []) ++ (top_uses told (name_at 9 y) (top []) ++ more))

line_faults : (e : Expr) (u : Uses) → expr_uses e ≡ u → all_named known 0 (uses_of told (with_line e)) ≡ all_named known 0 (from_line u [])
line_faults e u h = ap (all_named known 0) (line_uses e u h [])

-- of a call on the line
call_is : (c : Callee) (es : List Expr) (us : List Uses) → map expr_uses es ≡ us → expr_uses (E.Call 13 c es) ≡ U.expr_step told (F.Call 13 c us)
call_is c es us h = call_uses 13 c es ∙ ap (λ z. U.expr_step told (F.Call 13 c z)) h

call_faults : (c : Callee) (es : List Expr) (us : List Uses) → map expr_uses es ≡ us → all_named known 0 (uses_of told (with_line (E.Call 13 c es))) ≡ all_named known 0 (from_line (U.expr_step told (F.Call 13 c us)) [])
call_faults c es us h = line_faults (E.Call 13 c es) (U.expr_step told (F.Call 13 c us)) (call_is c es us h)

-- where these are the faults of a script, a row holds exactly there
abbrev AreFaults : List Item → List Fault → Type 0
AreFaults items fs = all_named known 0 (uses_of told items) ≡ fs

one_holds : (items : List Item) (q : Fault) → AreFaults items (q ∷ []) → HoldsAt known items q
one_holds items q e = among_holds known (uses_of told items) q (subst (In q) (sym e) (inl refl))

good_faults : AreFaults good []
good_faults = call_faults (C.Plain (name_at 13 f)) (one_at 15 ∷ []) (no_uses ∷ []) (numbers_use (15 ∷ []))

pub good_rows : (q : Fault) → HoldsAt known good q → ⊥
good_rows q h = subst (In q) good_faults (holds_among known (uses_of told good) q h)

pub name_row : HoldsAt known with_unknown_name (fault 15 kind.UnknownName)
name_row = one_holds with_unknown_name (fault 15 kind.UnknownName)
    (call_faults (C.Plain (name_at 13 f)) (X.Name 15 (x ∷ []) ∷ []) ((λ v. used 15 (value (x ∷ [])) v ∷ []) ∷ []) (λ i. name_uses 15 (x ∷ []) i ∷ []))

pub function_row : HoldsAt known with_unknown_function (fault 13 kind.UnknownFunction)
function_row = one_holds with_unknown_function (fault 13 kind.UnknownFunction) (call_faults (C.Plain (name_at 13 g)) (one_at 15 ∷ []) (no_uses ∷ []) (numbers_use (15 ∷ [])))

abbrev nine : List ℕ
nine = 15 ∷ 17 ∷ 19 ∷ 21 ∷ 23 ∷ 25 ∷ 27 ∷ 29 ∷ 31 ∷ []

pub arguments_row : HoldsAt known with_many_arguments (fault 13 kind.TooManyArguments)
arguments_row = one_holds with_many_arguments (fault 13 kind.TooManyArguments) (call_faults (C.Plain (name_at 13 f)) (map one_at nine) (map (λ a. no_uses) nine) (numbers_use nine))

-- with a type on the line
abbrev with_type : TypeText → Uses → Uses
with_type t u v = used (start_of t) (written t) v ∷ u (in_type v)

isa_is : (t : TypeText) (u : Uses) → type_uses t ≡ u → expr_uses (E.Isa 13 (one_at 13) t) ≡ with_type t u
isa_is t u h = isa_uses 13 (one_at 13) t ∙ (λ i v. number_uses 13 (pos 1) i v ++ used (start_of t) (written t) v ∷ h i (in_type v))

pub type_row : HoldsAt known with_unknown_type (fault 19 kind.UnknownType)
type_row =
    let u : Uses = λ v. used 19 (plain_type (R ∷ [])) v ∷ [] in
    one_holds with_unknown_type (fault 19 kind.UnknownType) (line_faults (E.Isa 13 (one_at 13) (TV.Name 19 (R ∷ []))) (with_type (TV.Name 19 (R ∷ [])) u) (isa_is (TV.Name 19 (R ∷ [])) u (plain_uses 19 (R ∷ []))))

abbrev free_at : ℕ → Brings
free_at a = record { at = a; name = T ∷ []; uses = λ v. [] }

abbrev two_free : Uses
two_free = U.type_step (A.Paren 19 (λ v. used 20 (plain_type (codes "Int")) v ∷ []) (free_at 31 ∷ free_at 34 ∷ []))

abbrev two_free_type : TypeText
two_free_type = V.Paren 19 (TV.Name 20 (codes "Int")) (VV.Free 31 (T ∷ []) ∷ VV.Free 34 (T ∷ []) ∷ [])

two_free_uses : type_uses two_free_type ≡ two_free
two_free_uses =
    paren_uses 19 (TV.Name 20 (codes "Int")) (VV.Free 31 (T ∷ []) ∷ VV.Free 34 (T ∷ []) ∷ [])
    ∙ (λ i. U.type_step (A.Paren 19 (plain_uses 20 (codes "Int") i) (free_uses 31 (T ∷ []) i ∷ free_uses 34 (T ∷ []) i ∷ [])))

pub variable_row : HoldsAt known with_two_variables (fault 34 kind.Rebound)
variable_row = one_holds with_two_variables (fault 34 kind.Rebound) (line_faults (E.Isa 13 (one_at 13) two_free_type) (with_type two_free_type two_free) (isa_is two_free_type two_free two_free_uses))

-- with a deletion on the line, by a type that is a plain name
abbrev deletes_by : Name → TypeText → Uses
deletes_by n t v = used n.at (deleted n) v ∷ used (start_of t) (deleted_by t) (bare v) ∷ []

deletes_use : (n : Name) (a : ℕ) (name : List ℕ) → expr_uses (X.Delete 13 n (TV.Name a name)) ≡ deletes_by n (TV.Name a name)
deletes_use n a name =
    let t = TV.Name a name in
    let l = out-TypeText t in
    ap expr_uses (sym (E.rolls-Delete 13 n t))
    ∙ fold-roll-Expr Uses Uses Uses Uses Stated Uses (U.eval_step told) (U.expr_step told) (U.method_step told) (U.piece_step told) (U.stmt_step told) (U.branch_step told) (F.Delete 13 n t)
    ∙ (λ i v. used n.at (deleted n) v ∷ used (start_of t) (deleted_by t) (bare v) ∷ if_read (is_signature (V.outs-Name a name i)) (tuple_uses (signature_args l) (signature_vars l) v))

pub deletion_row : HoldsAt known with_prelude_deletion (fault 38 kind.UnknownFunction)
deletion_row =
    let n : Name = record { at = 38; bytes = codes "div" } in
    let t = TV.Name 43 (codes "Int") in
    one_holds with_prelude_deletion (fault 38 kind.UnknownFunction) (line_faults (X.Delete 13 n t) (deletes_by n t) (deletes_use n 43 (codes "Int")))

no_tuple_refusal : (t : Tests) (k : Known) (a : ℕ) (name : List ℕ) (v : Visible) → deleted_refusal t k (TV.Name a name) v ≡ Some kind.BadType
unfolding deleted_refusal
no_tuple_refusal t k a name v =
    let text = TV.Name a name in
    let l = out-TypeText text in
    let ts = (deleted_at k text v.types).types in
    let o = unless_misplaced ts.after.misplaced (unless_hidden (tuple_uses (signature_args l) (signature_vars l) v) (t.signature (written_of t.below ts))) in
    λ i. cond (is_signature (V.outs-Name a name i)) o (Some kind.BadType)

pub no_tuple_row : (t : Tests) → RefusedAt t known with_deletion (fault 41 kind.BadType)
no_tuple_row t =
    let n = name_at 38 f in
    let text = TV.Name 41 (codes "Int") in
    record {
      before = U.method_step told (F.Short 0 head no_uses) (top []) ++ used 38 (deleted n) (top []) ∷ [];
      use_ = used (start_of text) (deleted_by text) (bare (top []));
      behind = top_uses told (name_at 9 y) (top []) ++ [];
      is = line_uses (X.Delete 13 n text) (deletes_by n text) (deletes_use n 41 (codes "Int")) [];
      place = ap start_of_layer (V.outs-Name 41 (codes "Int"));
      row = no_tuple_refusal t known 41 (codes "Int") (bare (top []));
    }

-- with a binding on the third line
bound_faults : (name : List ℕ) (at : ℕ) → all_named known 0 (uses_of told (good ++ N.Bind (record { at = 18; bytes = name }) (one_at at) ∷ []))
    ≡ all_named known 0 (from_line (U.expr_step told (F.Call 13 (C.Plain (name_at 13 f)) (no_uses ∷ []))) (top_uses told (record { at = 18; bytes = name }) (top ((y ∷ []) ∷ [])) ++ []))
bound_faults name at =
    let v = top ((y ∷ []) ∷ []) in
    let last = top_uses told (record { at = 18; bytes = name }) v ++ [] in
    let c = C.Plain (name_at 13 f) in
    let u = U.expr_step told (F.Call 13 c (no_uses ∷ [])) in
    ap (all_named known 0) (line_uses (E.Call 13 c (one_at 15 ∷ [])) u (call_is c (one_at 15 ∷ []) (no_uses ∷ []) (numbers_use (15 ∷ []))) (expr_uses (one_at at) v ++ last)
    ∙ (λ i. from_line u (number_uses at (pos 1) i v ++ last)))

pub binding_row : HoldsAt known with_two_bindings (fault 18 kind.Rebound)
binding_row = one_holds with_two_bindings (fault 18 kind.Rebound) (bound_faults (y ∷ []) 22)

pub shared_row : HoldsAt known with_function_name (fault 18 kind.Rebound)
shared_row = one_holds with_function_name (fault 18 kind.Rebound) (bound_faults (f ∷ []) 22)

pub built_in_row : HoldsAt known with_built_in (fault 18 kind.NameClash)
built_in_row = one_holds with_built_in (fault 18 kind.NameClash) (bound_faults (codes "div") 24)

-- the parameter of a struct that is in no field can't be inferred
abbrev in_no_field : Written
in_no_field = record { vars = free ∷ []; parts = [] }

not_usable : is_usable in_no_field 0 ≡ false
not_usable = ap (λ b. b && true) (sym (met_none in_no_field 0 refl))

pub inferred_row : (t : Tests) → RefusedAt t known_struct with_inferred (fault 16 kind.StaticParameterUse)
inferred_row t =
    let g = names_told known_struct in
    let c = C.Plain (name_at 16 S) in
    let v = U.at_top g 9 [] in
    record {
      before = [];
      use_ = used 16 (U.called c 0) v;
      behind = [];
      is = λ i. calls_use g 16 c [] i v ++ [];
      place = refl;
      row = ap (λ b. cond (b && true) (cond (t.wide 8) (Some kind.TypeLimit) None) (Some kind.StaticParameterUse)) not_usable;
    }

-- ---- many methods

-- the uses in a line `f(x) = 1`
abbrev line_at : ℕ → List Use
line_at at = U.method_step told (F.Short at (record { callee = C.Plain (name_at at f); params = P.Name (name_at (at + 2) x) ∷ []; vars = [] }) no_uses) (top [])

line_is : (at : ℕ) (ys : List Item) → U.items_uses told (method_at at ∷ ys) BUILTIN_TYPES [] ≡ line_at at ++ U.items_uses told ys BUILTIN_TYPES []
line_is at ys =
    let h : Head = record { callee = C.Plain (name_at at f); params = P.Name (name_at (at + 2) x) ∷ []; vars = [] } in
    let m = short_uses at h (one_at (at + 7)) ∙ ap (λ z. U.method_step told (F.Short at h z)) (number_uses (at + 7) (pos 1)) in
    λ i. m i (top []) ++ U.items_uses told ys BUILTIN_TYPES []

abbrev uses_in : ℕ → ℕ → List Use
uses_in zero at = []
uses_in (suc n) at = line_at at ++ uses_in n (at + 9)

lines_are : (n at : ℕ) (ys : List Item) → U.items_uses told (lines n at ++ ys) BUILTIN_TYPES [] ≡ uses_in n at ++ U.items_uses told ys BUILTIN_TYPES []
lines_are zero at ys = refl
lines_are (suc n) at ys = line_is at (lines n (at + 9) ++ ys) ∙ ap (λ us. line_at at ++ us) (lines_are n (at + 9) ys) ∙ sym (append_assoc (line_at at) (uses_in n (at + 9)) (U.items_uses told ys BUILTIN_TYPES []))

all_define : (n at : ℕ) → definitions (uses_in n at) ≡ n
all_define zero at = refl
all_define (suc n) at = ap suc (all_define n (at + 9))

-- where so many methods are added before that no more may be
pub sites_row : (n at : ℕ) → MOST_SITES ≤ n → HoldsAt known (lines n 0 ++ method_at at ∷ []) (fault at kind.TooManySites)
sites_row n at l =
    let h : Head = record { callee = C.Plain (name_at at f); params = P.Name (name_at (at + 2) x) ∷ []; vars = [] } in
    record {
      before = uses_in n 0;
      use_ = used at (U.defined h) (U.bare (top []));
      behind = U.params_uses h.params (U.after_head h (top [])) ++ [];
      is = lines_are n 0 (method_at at ∷ []) ∙ ap (λ us. uses_in n 0 ++ us) (line_is at []);
      place = refl;
      row = le-leb MOST_SITES (definitions (uses_in n 0)) (subst (λ m. MOST_SITES ≤ m) (sym (all_define n 0)) l);
    }
