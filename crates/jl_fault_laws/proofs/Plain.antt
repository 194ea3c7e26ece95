-- The uses of names in types and in parameters define no method.
use Rattle.std.proofs.Common.{arith, Bool, true, false, List, [], ◌∷◌, ◌++◌, map, ◌≡◌, Option, Some, None, refl, sym, subst}
use Rattle.jl_typeread.specs.declared.tree.TypeText.{TypeText}
use Rattle.jl_typeread.specs.declared.tree.ArgText.{ArgText}
use Rattle.jl_typeread.specs.declared.tree.VarText.{VarText}
use Rattle.jl_typeread.specs.declared.tree.ArgText.TheOpen as F
use Rattle.jl_typeread.specs.declared.tree.ArgText.TheFolds.{fold-roll-TypeText, fold-roll-ArgText, fold-roll-VarText}
use Rattle.jl_grammar.specs.declared.tree.Head.{Head}
use Rattle.jl_grammar.specs.declared.tree.Param.{Param}
use Rattle.jl_grammar.specs.declared.tree.Param.TheVariants as P
use Rattle.jl_resolve_forms.specs.Expressions.{type_of}
use Rattle.jl_type_laws.proofs.TextInduction.{EachText, TextCases, by_type, by_arg, by_var}
use Rattle.jl_fault_laws.specs.Uses.{Visible, Use, Uses, Brings, used, type_variable, each, if_read, takes_braces, with_name, with_var, with_vars, params_uses, brought, brought_by, bare, in_type, in_bound, arg_step, type_step, var_step, type_uses, arg_uses, args_uses, var_uses, option_uses, options_uses, tuple_uses, in_head, signature_uses}
use Rattle.jl_fault_laws.specs.Rows.{definitions}
use Rattle.jl_fault_laws.proofs.Faults.{definitions_append}

abbrev pub IsPlain : Uses → Type 0
IsPlain u = (v : Visible) → definitions (u v) ≡ 0

pub both_plain : (us vs : List Use) → definitions us ≡ 0 → definitions vs ≡ 0 → definitions (us ++ vs) ≡ 0
both_plain us vs a b = let e = definitions_append us vs in omega (arith, a, b, e)

pub each_plain : (us : List Uses) → EachText IsPlain us → IsPlain (each us)
each_plain [] h v = refl
each_plain (u ∷ us) h v = both_plain (u v) (each us v) (h.0 v) (each_plain us h.1 v)

pub read_plain : (b : Bool) (us : List Use) → definitions us ≡ 0 → definitions (if_read b us) ≡ 0
read_plain true us h = h
read_plain false us h = refl

brought_by_plain : (bs : List Brings) → EachText (λ (b : Brings). IsPlain b.uses) bs → (w v : Visible) → definitions (brought_by bs w v) ≡ 0
brought_by_plain [] h w v = refl
brought_by_plain (b ∷ bs) h w v =
    let own = used b.at (type_variable b.name) v ∷ [] in
    both_plain (b.uses w ++ own) (brought_by bs (with_var b.name w) (with_var b.name v)) (both_plain (b.uses w) own (h.0 w) refl) (brought_by_plain bs h.1 (with_var b.name w) (with_var b.name v))

pub brought_plain : (bs : List Brings) → EachText (λ (b : Brings). IsPlain b.uses) bs → IsPlain (brought bs)
brought_plain bs h v = brought_by_plain bs h (in_bound v) v

each_map : {A B : Type 0} (P : B → Type 0) (f : A → B) (xs : List A) → EachText (λ x. P (f x)) xs → EachText P (map f xs)
each_map P f [] h = tt
each_map P f (x ∷ xs) h = (h.0, each_map P f xs h.1)

pub each_all : {A : Type 0} (P : A → Type 0) → ((x : A) → P x) → (xs : List A) → EachText P xs
each_all P h [] = tt
each_all P h (x ∷ xs) = (h x, each_all P h xs)

abbrev PlainVar : Brings → Type 0
PlainVar b = IsPlain b.uses

cases : TextCases (λ t. IsPlain (arg_uses t)) (λ t. IsPlain (type_uses t)) (λ t. PlainVar (var_uses t))
cases = record {
  name = λ at n. subst IsPlain (sym (fold-roll-TypeText Uses Uses Brings arg_step type_step var_step (F.Name at n))) (λ v. refl);
  applied = λ at n xs l. subst IsPlain (sym (fold-roll-TypeText Uses Uses Brings arg_step type_step var_step (F.Applied at n xs)))
      (λ v. read_plain (takes_braces n v) (each (map arg_uses xs) v) (each_plain (map arg_uses xs) (each_map IsPlain arg_uses xs l) v));
  paren = λ at t vs l p. subst IsPlain (sym (fold-roll-TypeText Uses Uses Brings arg_step type_step var_step (F.Paren at t vs)))
      (λ v. both_plain (brought (map var_uses vs) v) (type_uses t (with_vars (map var_uses vs) v)) (brought_plain (map var_uses vs) (each_map PlainVar var_uses vs p) v) (l (with_vars (map var_uses vs) v)));
  exact = λ t l. subst IsPlain (sym (fold-roll-ArgText Uses Uses Brings arg_step type_step var_step (F.Exact t))) l;
  below_ = λ at t l. subst IsPlain (sym (fold-roll-ArgText Uses Uses Brings arg_step type_step var_step (F.ArgText::Below at t))) (λ v. l (in_bound v));
  above = λ at t l. subst IsPlain (sym (fold-roll-ArgText Uses Uses Brings arg_step type_step var_step (F.ArgText::Above at t))) (λ v. l (in_bound v));
  free = λ at n. subst PlainVar (sym (fold-roll-VarText Uses Uses Brings arg_step type_step var_step (F.Free at n))) (λ v. refl);
  upper = λ at n t l. subst PlainVar (sym (fold-roll-VarText Uses Uses Brings arg_step type_step var_step (F.VarText::Below at n t))) l;
  lower = λ at n t l. subst PlainVar (sym (fold-roll-VarText Uses Uses Brings arg_step type_step var_step (F.VarText::Above at n t))) l;
  between = λ t at n u l p. subst PlainVar (sym (fold-roll-VarText Uses Uses Brings arg_step type_step var_step (F.Between t at n u))) (λ v. both_plain (type_uses t v) (type_uses u v) (l v) (p v));
}

pub type_plain : (t : TypeText) → IsPlain (type_uses t)
type_plain = by_type _ _ _ cases

arg_plain : (x : ArgText) → IsPlain (arg_uses x)
arg_plain = by_arg _ _ _ cases

var_plain : (x : VarText) → PlainVar (var_uses x)
var_plain = by_var _ _ _ cases

pub args_plain : (xs : List ArgText) → IsPlain (each (map arg_uses xs))
args_plain xs = each_plain (map arg_uses xs) (each_map IsPlain arg_uses xs (each_all (λ x. IsPlain (arg_uses x)) arg_plain xs))

pub vars_plain : (vs : List VarText) → IsPlain (brought (map var_uses vs))
vars_plain vs = brought_plain (map var_uses vs) (each_map PlainVar var_uses vs (each_all (λ x. PlainVar (var_uses x)) var_plain vs))

pub option_plain : (t : Option TypeText) → IsPlain (option_uses t)
option_plain None v = refl
option_plain (Some t) v = type_plain t (in_type v)

pub options_plain : (ts : List (Option TypeText)) → IsPlain (options_uses ts)
options_plain [] v = refl
options_plain (t ∷ ts) v = both_plain (option_uses t v) (options_uses ts v) (option_plain t v) (options_plain ts v)

pub signature_plain : (h : Head) → IsPlain (signature_uses h)
signature_plain h v = both_plain (brought (map var_uses h.vars) (bare v)) (options_uses (map type_of h.params) (in_head h v)) (vars_plain h.vars (bare v)) (options_plain (map type_of h.params) (in_head h v))

pub tuple_plain : (xs : List ArgText) (vs : List VarText) → IsPlain (tuple_uses xs vs)
tuple_plain xs vs v = both_plain (brought (map var_uses vs) (bare v)) (args_uses xs (with_vars (map var_uses vs) (bare v))) (vars_plain vs (bare v)) (args_plain xs (in_type (with_vars (map var_uses vs) (bare v))))

pub params_plain : (ps : List Param) → IsPlain (params_uses ps)
params_plain [] v = refl
params_plain (P.Name n ∷ ps) v = params_plain ps (with_name n.bytes v)
params_plain (P.Typed n t ∷ ps) v = params_plain ps (with_name n.bytes v)
params_plain (P.Unnamed at t ∷ ps) v = params_plain ps v
