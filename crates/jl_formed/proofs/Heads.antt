-- The head of a method and that of a declaration are well formed where they are not too deep.
use Rattle.std.proofs.Common.{ℕ, ◌≤◌, max, Option, List, [], ◌∷◌, ◌++◌, arith}
use Rattle.jl_token.specs.declared.token.Operator.TheVariants as o
use Rattle.jl_grammar.specs.declared.state.Form.{Form}
use Rattle.jl_grammar.specs.declared.state.Forms.{Forms}
use Rattle.jl_grammar.specs.declared.state.TypeForm.{TypeForm}
use Rattle.jl_grammar.specs.declared.state.VarsForm.{VarsForm}
use Rattle.jl_grammar.specs.declared.tree.Callee.{Callee}
use Rattle.jl_grammar.specs.declared.tree.Field.{Field}
use Rattle.jl_grammar.specs.declared.tree.Head.{Head}
use Rattle.jl_grammar.specs.declared.tree.Header.{Header}
use Rattle.jl_grammar.specs.declared.tree.Param.{Param}
use Rattle.jl_grammar.specs.Forms as M
use Rattle.jl_grammar.specs.Grammar as GR
use Rattle.jl_grammar.specs.Texts.{Text, opr, name_in, lexemes}
use Rattle.jl_grammar.specs.Types.{type_as_read}
use Rattle.jl_formed.specs.Formed as F
use Rattle.jl_formed.specs.Formed.{FormedOption, FormedCallee, FormedParam, FormedParams, FormedHead, FormedVars, FormedHeader, FormedField, FormedFields}
use Rattle.jl_formed.proofs.Sound.{Sound, text_split}
use Rattle.jl_formed.proofs.Types.{formed_type, formed_where, formed_header, formed_type_as_read, formed_vars_as_read}

pub both_fit : (a d : ℕ) → max a d ≤ 500 → (a ≤ 500) × (d ≤ 500)
both_fit a d e = (omega (arith, e), omega (arith, e))

-- ---- heads of methods

pub formed_callee : (f : Callee) (ts : Text) → GR.CalleeText f ts → Sound ts → FormedCallee f
formed_callee _ _ (GR.plain_name n p) s = F.plain_name (name_in n p) s.0
formed_callee _ _ (GR.base_name n p q r) s = F.base_name p.at (name_in n r) s.1.1.0
formed_callee _ _ (GR.base_operator x p q r v is) s = F.base_operator p.at x is

formed-param : (x : Param) (d : ℕ) (ts : Text) → GR.ParamText x d ts → Sound ts → d ≤ 500 → FormedParam x
formed-param _ _ _ (GR.param_name n p) s l = F.named_param (name_in n p) s.0
formed-param _ _ _ (GR.param_typed n p q t ts d) s l = F.typed_param (name_in n p) (type_as_read t).tree s.0 (formed_type_as_read t (formed_type t (lexemes ts) d s.1.1) l)
formed-param _ _ _ (GR.param_unnamed p t ts d) s l = F.unnamed_param p.at (type_as_read t).tree (formed_type_as_read t (formed_type t (lexemes ts) d s.1) l)

params-behind : (xs : List Param) (x : Param) → FormedParams xs → FormedParam x → FormedParams (xs ++ x ∷ [])
params-behind _ x F.no_params g = F.more_params x [] g F.no_params
params-behind _ x (F.more_params y ys f fs) g = F.more_params y (ys ++ x ∷ []) f (params-behind ys x fs g)

formed-params : (xs : Forms Param) (ts : Text) → GR.ParamsText xs ts → Sound ts → xs.depth ≤ 500 → FormedParams xs.trees
formed-params _ _ (GR.one_param x d ts c) s l = F.more_params x [] (formed-param x d ts c s (both_fit 0 d l).1) F.no_params
formed-params _ _ (GR.more_params xs x d p ts us a c) s l =
    let y = text_split ts (opr o.Comma p ∷ us) s in
    let f = both_fit xs.depth d l in
    params-behind xs.trees x (formed-params xs ts a y.0 f.0) (formed-param x d us c y.1.1 f.1)

formed-parens : (xs : Forms Param) (ts : Text) → GR.ParensText xs ts → Sound ts → xs.depth ≤ 500 → FormedParams xs.trees
formed-parens _ _ (GR.no_params p q) s l = F.no_params
formed-parens _ _ (GR.some_params xs p q ts d) s l = formed-params xs ts d (text_split ts (opr o.CloseParen q ∷ []) s.1).0 l

formed-where : (vs : VarsForm) (ts : Text) → GR.WhereText vs ts → Sound ts → FormedVars vs.vars
formed-where _ _ GR.no_where s = F.no_vars
formed-where _ _ (GR.some_where vs ts d) s = formed_vars_as_read vs (formed_where vs (lexemes ts) d s)

pub formed_head : (at : ℕ) (h : Form Head) (ts : Text) → GR.HeadText at h ts → Sound ts → h.depth ≤ 500 → FormedHead h.tree
formed_head _ _ _ (GR.head_text at f xs vs ts us ws a c d) s l =
    let y = text_split (ts ++ us) ws s in
    let z = text_split ts us y.0 in
    record { callee = formed_callee f ts a z.0; params = formed-parens xs us c z.1 (both_fit xs.depth vs.depth l).0; vars = formed-where vs ws d y.1 }

-- ---- heads of declarations, and fields

formed-parent : (t : Option TypeForm) (ts : Text) → GR.ParentText t ts → Sound ts → M.parent_depth t ≤ 500 → FormedOption (M.parent_tree t)
formed-parent _ _ GR.no_parent s l = F.no_type
formed-parent _ _ (GR.some_parent t p ts d) s l = F.some_type (type_as_read t).tree (formed_type_as_read t (formed_type t (lexemes ts) d s.1) l)

formed-type-params : (vs : VarsForm) (ts : Text) → GR.TypeParamsText vs ts → Sound ts → FormedVars vs.vars
formed-type-params _ _ GR.no_type_params s = F.no_vars
formed-type-params _ _ (GR.some_type_params vs ts d) s = formed_vars_as_read vs (formed_header vs (lexemes ts) d s)

pub formed_header_text : (at : ℕ) (h : Form Header) (ts : Text) → GR.HeaderText at h ts → Sound ts → h.depth ≤ 500 → FormedHeader h.tree
formed_header_text _ _ _ (GR.header_text at n p vs t ts us a c) s l =
    let y = text_split ts us s.1 in
    record { name = s.0; params = formed-type-params vs ts a y.0; parent = formed-parent t us c y.1 (both_fit vs.depth (M.parent_depth t) l).1 }

formed-field : (x : Field) (d : ℕ) (ts : Text) → GR.FieldText x d ts → Sound ts → d ≤ 500 → FormedField x
formed-field _ _ _ (GR.field_name n p) s l = record { name = s.0; ty = F.no_type }
formed-field _ _ _ (GR.field_typed n p q t ts d) s l = record { name = s.0; ty = F.some_type (type_as_read t).tree (formed_type_as_read t (formed_type t (lexemes ts) d s.1.1) l) }

fields-behind : (xs : List Field) (x : Field) → FormedFields xs → FormedField x → FormedFields (xs ++ x ∷ [])
fields-behind _ x F.no_fields g = F.more_fields x [] g F.no_fields
fields-behind _ x (F.more_fields y ys f fs) g = F.more_fields y (ys ++ x ∷ []) f (fields-behind ys x fs g)

mutual
  formed-fields-before : (xs : Forms Field) (ts : Text) → GR.FieldsBefore xs ts → Sound ts → xs.depth ≤ 500 → FormedFields xs.trees
  formed-fields-before _ _ (GR.first_sep t is) s l = F.no_fields
  formed-fields-before _ _ (GR.fields_again xs t ts d is) s l = formed-fields-before xs ts d (text_split ts (t ∷ []) s).0 l
  formed-fields-before _ _ (GR.fields_apart xs t ts d is) s l = formed-fields-after xs ts d (text_split ts (t ∷ []) s).0 l

  formed-fields-after : (xs : Forms Field) (ts : Text) → GR.FieldsAfter xs ts → Sound ts → xs.depth ≤ 500 → FormedFields xs.trees
  formed-fields-after _ _ (GR.fields_one xs x d ts us a c) s l =
      let y = text_split ts us s in
      let f = both_fit xs.depth d l in
      fields-behind xs.trees x (formed-fields-before xs ts a y.0 f.0) (formed-field x d us c y.1 f.1)

pub formed_fields : (xs : Forms Field) (ts : Text) → GR.FieldsText xs ts → Sound ts → xs.depth ≤ 500 → FormedFields xs.trees
formed_fields _ _ GR.no_fields s l = F.no_fields
formed_fields _ _ (GR.fields_before xs ts d) s l = formed-fields-before xs ts d s l
formed_fields _ _ (GR.fields_after xs ts d) s l = formed-fields-after xs ts d s l
