-- The rows of the small scripts of declarations.
use Rattle.std.proofs.Common.{ℕ, pos, codes, take, Some, List, [], ◌∷◌, ◌++◌, ◌≡◌, inl, refl, sym, ap, subst, ◌∙◌}
use Rattle.jl_model.specs.declared.builtin.TheConstants.{BUILTIN_TYPES}
use Rattle.jl_model.specs.Ancestors.{builtin_types}
use Rattle.jl_grammar.specs.declared.tree.Eval.TheFolds.{fold-roll-Method}
use Rattle.jl_grammar.specs.declared.tree.Eval.TheOpen as F
use Rattle.jl_grammar.specs.declared.tree.Eval.TheViews as E
use Rattle.jl_grammar.specs.declared.tree.Expr.{Expr}
use Rattle.jl_grammar.specs.declared.tree.Expr.TheVariants as X
use Rattle.jl_grammar.specs.declared.tree.Head.{Head}
use Rattle.jl_grammar.specs.declared.tree.Script.{Script}
use Rattle.jl_written.specs.declared.fault.Fault.{Fault}
use Rattle.jl_written.specs.declared.fault.StaticKind.TheVariants as kind
use Rattle.jl_declare.specs.Script.{known_of}
use Rattle.jl_fault_laws.specs.Uses as U
use Rattle.jl_fault_laws.specs.TypeRows.{signature_refusal}
use Rattle.jl_fault_laws.specs.Uses.{Names, Use, Uses, Stated, ScriptNames, Brings, names_told, used, declared_type, plain_type, brought, type_names}
use Rattle.jl_fault_laws.specs.Examples.{fault}
use Rattle.jl_fault_laws.proofs.Firsts.{In}
use Rattle.jl_fault_laws.proofs.Faults.{all_named}
use Rattle.jl_fault_laws.proofs.RowLaws.{among_holds, holds_among}
use Rattle.jl_fault_laws.proofs.ExampleRows.{plain_uses, free_uses}
use Rattle.jl_declare.specs.Declarations.{no_declaration}
use Rattle.jl_row_laws.specs.Script.{types_only, text_known, script_uses, HoldsOf, Setting, RefusedOf, RefusedDeclaration}
use Rattle.jl_row_laws.proofs.NineRows.{nine_refused}
use Rattle.jl_row_laws.specs.Examples.{abstract_type, good, with_two_types, with_built_in, with_built_in_type, with_unknown_type, with_two_parameters, nine_head, with_nine_parameters}

-- where these are the faults of a script, a row holds exactly there
abbrev AreFaults : Script → List Fault → Type 0
AreFaults s fs = all_named (text_known s) 0 (script_uses s) ≡ fs

one_holds : (s : Script) (q : Fault) → AreFaults s (q ∷ []) → HoldsOf s q
one_holds s q e = among_holds (text_known s) (script_uses s) q (subst (In q) (sym e) (inl refl))

none_holds : (s : Script) → AreFaults s [] → (q : Fault) → HoldsOf s q → ⊥
none_holds s e q h = subst (In q) e (holds_among (text_known s) (script_uses s) q h)

pub good_rows : (q : Fault) → HoldsOf good q → ⊥
good_rows = none_holds good refl

pub duplicate_row : HoldsOf with_two_types (fault 34 kind.DuplicateType)
duplicate_row = one_holds with_two_types (fault 34 kind.DuplicateType) refl

pub built_in_row : HoldsOf with_built_in (fault 14 kind.NameClash)
built_in_row = one_holds with_built_in (fault 14 kind.NameClash) refl

-- the declared name, before other uses
abbrev P_use : List Use → List Use
P_use us = used 7 (declared_type (codes "P")) (types_only (type_names builtin_types)) ∷ us

unknown_faults : AreFaults with_unknown_type (fault 12 kind.UnknownType ∷ [])
unknown_faults = λ i. all_named (text_known with_unknown_type) 0 (P_use (((plain_uses 12 (codes "R") i (U.in_type (types_only (type_names builtin_types))) ++ []) ++ []) ++ []))

pub unknown_row : HoldsOf with_unknown_type (fault 12 kind.UnknownType)
unknown_row = one_holds with_unknown_type (fault 12 kind.UnknownType) unknown_faults

parameters_faults : AreFaults with_two_parameters (fault 12 kind.Rebound ∷ [])
parameters_faults = λ i. all_named (text_known with_two_parameters) 0 (P_use (((brought (free_uses 9 (codes "T") i ∷ free_uses 12 (codes "T") i ∷ []) (types_only (type_names builtin_types)) ++ []) ++ []) ++ []))

pub parameters_row : HoldsOf with_two_parameters (fault 12 kind.Rebound)
parameters_row = one_holds with_two_parameters (fault 12 kind.Rebound) parameters_faults

-- a declaration of a built-in type is refused by its name
pub refused_row : RefusedDeclaration with_built_in_type (fault 14 kind.DuplicateType)
refused_row = record {
  before = [];
  item = abstract_type 0 14 (codes "Int64");
  behind = [];
  is = refl;
  declaring = no_declaration;
  declares = refl;
  refused = (refl, refl);
}

shorts_use : (g : ScriptNames) (a : ℕ) (h : Head) (e : Expr) → U.method_uses g (E.Short a h e) ≡ U.method_step g (F.Short a h (U.expr_uses g e))
shorts_use g a h e = ap (U.method_uses g) (sym (E.rolls-Short a h e))
    ∙ fold-roll-Method Uses Uses Uses Uses Stated Uses (U.eval_step g) (U.expr_step g) (U.method_step g) (U.piece_step g) (U.stmt_step g) (U.branch_step g) (F.Short a h e)

-- a method with nine parameters is refused, whatever the script is read over
nine_refusal : (g : Setting with_nine_parameters) → signature_refusal g.tests (known_of with_nine_parameters.items g.declaring.decls) nine_head (U.bare (U.at_top (names_told (text_known with_nine_parameters)) BUILTIN_TYPES [])) ≡ Some kind.TooManyParameters
unfolding signature_refusal
nine_refusal g = nine_refused (take g.declaring.allowed g.declaring.decls) g.tests g.right

pub parameters_refused : (g : Setting with_nine_parameters) → RefusedOf with_nine_parameters g (fault 0 kind.TooManyParameters)
parameters_refused g =
    let names = names_told (text_known with_nine_parameters) in
    let v = U.at_top names BUILTIN_TYPES [] in
    let e = X.Number 23 (pos 1) in
    record {
      before = [];
      use_ = used 0 (U.defined nine_head) (U.bare v);
      behind = ((U.signature_uses nine_head v ++ U.params_uses nine_head.params (U.after_head nine_head v)) ++ U.expr_uses names e (U.in_body nine_head v)) ++ [];
      is = ap (λ (u : Uses). u v ++ []) (shorts_use names 0 nine_head e);
      place = refl;
      row = nine_refusal g;
    }
