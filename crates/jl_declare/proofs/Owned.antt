-- A declaration of which all arguments are written has no variables but its parameters, and so has an outline.
use Rattle.std.proofs.Common.{◌≡◌, ◌∙◌, ap, ℕ, ◌+◌, ◌≤◌, arith, Bool, true, false, ◌&&◌, not, cond, nat_eq, nat_lt, List, [], ◌∷◌, ◌++◌, map, length, Option, refl}
use Rattle.std.specs.List.{list_all}
use Rattle.jl_model.specs.declared.ty.Ty.{Ty}
use Rattle.jl_model.specs.declared.ty.Ty.TheVariants as W
use Rattle.jl_model.specs.declared.ty.Ty.TheViews as V
use Rattle.jl_model.specs.declared.ty.Bound.{Bound}
use Rattle.jl_model.specs.declared.ty.Decl.{Decl}
use Rattle.jl_model.specs.declared.ty.DeclKind.{DeclKind}
use Rattle.jl_model.specs.AllRows.{each_var}
use Rattle.jl_model.specs.Kept.{field_types}
use Rattle.jl_model.specs.Refusals.{bound_types, types_of, Declared, HasOwnVariables}
use Rattle.jl_model.specs.Rows.{free}
use Rattle.jl_model.proofs.FormLemmas.{vars-any, vars-union, vars-var}
use Rattle.jl_model.proofs.PutLemmas.{and_l, and_r, both_true}
use Rattle.jl_grammar.specs.declared.tree.Field.{Field as FieldText}
use Rattle.jl_grammar.specs.declared.tree.Header.{Header}
use Rattle.jl_typeread.specs.declared.tree.TypeText.{TypeText}
use Rattle.jl_typeread.specs.declared.tree.VarText.{VarText}
use Rattle.jl_written.specs.Reads.{no_reading}
use Rattle.jl_written.specs.Signatures.{all_bound, all_read, option_reads}
use Rattle.jl_type_laws.specs.Carried.{vars_pass}
use Rattle.jl_type_laws.proofs.CarryLemmas.{lt_true, all_join, all_flat}
use Rattle.jl_type_laws.proofs.DeclarationLemmas.{own_parts}
use Rattle.jl_type_laws.proofs.KnownMore.{declared_known}
use Rattle.jl_declare.specs.Declaration.{declaration, outline, field_of, fields_of}

-- the types of the fields are some of those that are read
fields_pass : (p : Ty → Bool) (fs : List FieldText) (ts : List Ty) → list_all p ts ≡ true → list_all p (field_types (fields_of fs ts)) ≡ true
fields_pass p [] ts h = refl
fields_pass p (f ∷ fs) [] h = refl
fields_pass p (f ∷ fs) (t ∷ ts) h = both_true (p t) (list_all p (field_types (fields_of fs ts))) (and_l (p t) (list_all p ts) h) (fields_pass p fs ts (and_r (p t) (list_all p ts) h))

eq_of : (m n : ℕ) → nat_eq m n ≡ true → m ≡ n
eq_of m n h = grind (arith, h)

-- an outline has no variables but its parameters
free_pass : (q : ℕ → Bool) (vs : List VarText) → list_all (vars_pass q) (bound_types (map (λ (v : VarText). free) vs)) ≡ true
free_pass q [] = refl
free_pass q (v ∷ vs) =
    let p = vars_pass q in
    let rest = list_all p (bound_types (map (λ (v : VarText). free) vs)) in
    both_true (p (V.Union [])) (p W.Any && rest) (ap (list_all q) (vars-union [])) (both_true (p W.Any) rest (ap (list_all q) vars-any) (free_pass q vs))

params_pass : (name : List ℕ) (n i : ℕ) (bs : List Bound) → i + length bs ≤ n → list_all (vars_pass (λ v. nat_lt v n)) (field_types (each_var (field_of name) i bs)) ≡ true
params_pass name n i [] h = refl
params_pass name n i (b ∷ bs) h =
    let q : ℕ → Bool = λ v. nat_lt v n in
    both_true (vars_pass q (W.Var i)) (list_all (vars_pass q) (field_types (each_var (field_of name) (i + 1) bs)))
    (ap (list_all q) (vars-var i) ∙ both_true (q i) true (lt_true i n (omega (arith, h))) refl) (params_pass name n (i + 1) bs (omega (arith, h)))

outline_own : (k : DeclKind) (h : Header) → HasOwnVariables (outline k h)
outline_own k h =
    let d = outline k h in
    let q : ℕ → Bool = λ v. nat_lt v (length d.params) in
    let p = vars_pass q in
    all_flat q (types_of d)
    ∙ all_join p (bound_types d.params) (d.parent ∷ field_types d.fields) (free_pass q h.params)
    (both_true (p d.parent) (list_all p (field_types d.fields)) (ap (list_all q) vars-any) (params_pass h.name.bytes (length d.params) 0 d.params (omega arith)))

own_cond : (b : Bool) (d e : Decl) → HasOwnVariables d → HasOwnVariables e → HasOwnVariables (cond b d e)
own_cond true d e h g = h
own_cond false d e h g = g

module _ (ds : List Decl) (declared : Declared ds) (kind : DeclKind) (h : Header) (fields : List FieldText) where
  abbrev Make : List Bound → Ty → Decl
  Make bs p = record { name = h.name.bytes; kind = kind; params = bs; parent = p; fields = [] }

  abbrev Texts : List (Option TypeText)
  Texts = map (λ (f : FieldText). f.ty) fields

  abbrev Tys : List Ty
  Tys =
      let s = all_bound ds h.params no_reading in
      let p = option_reads ds h.parent s.vars s.after in
      (all_read (ds ++ Make s.after.vars p.ty ∷ []) Texts s.vars p.after).tys

  abbrev Term : Decl
  Term =
      let s = all_bound ds h.params no_reading in
      record (Make s.after.vars (option_reads ds h.parent s.vars s.after).ty) { fields = fields_of fields Tys }

  term_own : (declaration ds kind h fields).whole ≡ true → HasOwnVariables Term
  term_own w =
      let d = Term in
      let q : ℕ → Bool = λ v. nat_lt v (length d.params) in
      let p = vars_pass q in
      let o = own_parts ds (declared_known ds declared) h.params h.parent Make (λ bs t. refl) Texts (eq_of _ _ w) in
      all_flat q (types_of d)
      ∙ all_join p (bound_types d.params) (d.parent ∷ field_types d.fields) o.0 (both_true (p d.parent) (list_all p (field_types d.fields)) o.1 (fields_pass p fields Tys o.2))

  pub own_variables : (declaration ds kind h fields).whole ≡ true → HasOwnVariables (declaration ds kind h fields).decl
  own_variables w =
      let r = declaration ds kind h fields in
      own_cond (r.whole && not r.reading.unknown) Term (outline kind h) (term_own w) (outline_own kind h)
