-- Known types and types without variables, part by part.
use Rattle.std.proofs.Common.{◌≡◌, ◌∙◌, sym, ℕ, ◌+◌, ◌<◌, arith, true, false, not, nat_eq, nat_lt, List, [], ◌∷◌, length}
use Rattle.std.specs.List.{list_all}
use Rattle.jl_model.specs.declared.ty.Ty.{Ty}
use Rattle.jl_model.specs.declared.ty.Ty.TheViews.{outs-Any, outs-Union, outs-Tuple, outs-Nominal, outs-Var}
use Rattle.jl_model.specs.declared.ty.Ty.TheViews as V
use Rattle.jl_model.specs.declared.ty.Ty.TheVariants as W
use Rattle.jl_model.specs.declared.ty.Decl.{Decl}
use Rattle.jl_model.specs.Subtype.{Table}
use Rattle.jl_model.specs.Ancestors.{table_of}
use Rattle.jl_model.specs.Normal.{IsNormalForm}
use Rattle.jl_model.specs.Valid.{is_closed}
use Rattle.jl_model.specs.Refusals.{Declared, table_with, is_free_of}
use Rattle.jl_model.proofs.TypeInduction.{Each, by_cases}
use Rattle.jl_model.proofs.PutLemmas.{and_l, and_r}
use Rattle.jl_model.proofs.AncestorLemmas.{Lawful, true_each, each_true}
use Rattle.jl_model.proofs.KnownLemmas.{Known, known-any, known-var, union_known, tuple_known, nominal_known, known_union, known_tuple, known_nominal, agree_back, below_move, normal_move}
use Rattle.jl_model.proofs.FillLemmas.{declared_agree}
use Rattle.jl_norm.proofs.PlaceLemmas.{free-var, free-union, free-tuple, free-nominal}
use Rattle.jl_types.proofs.PartsLemmas.{closed-any, closed-union, closed-tuple, closed-nominal}
use Rattle.jl_norm.proofs.InheritLemmas.{Has, AllHave, has_any, has_var, has_union, has_tuple, has_nominal, have_none, have_more, have_each, union_has, tuple_has, nominal_has, inherits}

-- each nominal type is below m
abbrev pub NameBelow : ℕ → ℕ → List Ty → Type 0
NameBelow m k xs = k < m

abbrev pub AnyVar : ℕ → Type 0
AnyVar v = Unit {0}

abbrev pub NoVar : ℕ → Type 0
NoVar v = ⊥

abbrev pub AnyName : ℕ → List Ty → Type 0
AnyName k xs = Unit {0}

lt_true : (k m : ℕ) → k < m → nat_lt k m ≡ true
lt_true k m h = grind arith

all_have_each : (P : ℕ → Type 0) (R : ℕ → List Ty → Type 0) (Q : Ty → Type 0) (ts : List Ty) → Each (λ t. Q t → Has P R t) ts → Each Q ts → AllHave P R ts
all_have_each P R Q [] e h = have_none
all_have_each P R Q (t ∷ ts) e h = have_more t ts (e.0 h.0) (all_have_each P R Q ts e.1 h.1)

pub known_has : (m : ℕ) (t : Ty) → Known m t → Has AnyVar (NameBelow m) t
known_has m = by_cases (λ t. Known m t → Has AnyVar (NameBelow m) t) (record {
  any = λ h. has_any W.Any outs-Any;
  union = λ ts e h. has_union (V.Union ts) ts (outs-Union ts) (all_have_each AnyVar (NameBelow m) (Known m) ts e (union_known m ts h));
  tuple = λ ts e h. has_tuple (V.Tuple ts) ts (outs-Tuple ts) (all_have_each AnyVar (NameBelow m) (Known m) ts e (tuple_known m ts h));
  nominal = λ k ts e h. let r = nominal_known m k ts h in has_nominal (V.Nominal k ts) k ts (outs-Nominal k ts) r.0 (all_have_each AnyVar (NameBelow m) (Known m) ts e r.1);
  var = λ v h. has_var (W.Var v) v (outs-Var v) tt;
})

each_from : (P Q : Ty → Type 0) (ts : List Ty) → Each (λ t. P t → Q t) ts → Each P ts → Each Q ts
each_from P Q [] e h = tt
each_from P Q (t ∷ ts) e h = (e.0 h.0, each_from P Q ts e.1 h.1)

pub has_known : (m : ℕ) (t : Ty) → Has AnyVar (NameBelow m) t → Known m t
has_known m =
    let H = Has AnyVar (NameBelow m) in
    by_cases (λ t. H t → Known m t) (record {
      any = λ h. known-any m;
      union = λ ts e h. known_union m ts (each_from H (Known m) ts e (have_each AnyVar (NameBelow m) ts (union_has AnyVar (NameBelow m) (V.Union ts) ts (outs-Union ts) h)));
      tuple = λ ts e h. known_tuple m ts (each_from H (Known m) ts e (have_each AnyVar (NameBelow m) ts (tuple_has AnyVar (NameBelow m) (V.Tuple ts) ts (outs-Tuple ts) h)));
      nominal = λ k ts e h.
          let r = nominal_has AnyVar (NameBelow m) (V.Nominal k ts) k ts (outs-Nominal k ts) h in
          known_nominal m k ts (lt_true k m r.0) (each_from H (Known m) ts e (have_each AnyVar (NameBelow m) ts r.1));
      var = λ v h. known-var m v;
    })

-- a normal form of a known type is known
pub form_known : (n : Table) → Lawful n → (m : ℕ) (t u : Ty) → Known m t → IsNormalForm n t u → Known m u
form_known n law m t u k f = has_known m u (inherits AnyVar (NameBelow m) n law (λ j xs ys r b. r) u f.normal t (known_has m t k) f.equal)

-- from the table to the one with the declaration, and back
module _ (ds : List Decl) (d : Decl) (h : Declared ds) where
  abbrev m : ℕ
  m = length ds

  pub form_up : (t u : Ty) → Known m t → Known m u → IsNormalForm (table_of ds) t u → IsNormalForm (table_with ds d) t u
  form_up t u k l f =
      let a = declared_agree ds d h in
      let move = below_move (table_of ds) (table_with ds d) m a in
      record { normal = normal_move (table_of ds) (table_with ds d) m a u l f.normal; equal = (move t u k l f.equal.0, move u t l k f.equal.1) }

  pub form_down : Lawful (table_with ds d) → (t u : Ty) → Known m t → IsNormalForm (table_with ds d) t u → IsNormalForm (table_of ds) t u
  form_down law t u k f =
      let a = agree_back (table_of ds) (table_with ds d) m (declared_agree ds d h) in
      let l = form_known (table_with ds d) law m t u k f in
      let move = below_move (table_with ds d) (table_of ds) m a in
      record { normal = normal_move (table_with ds d) (table_of ds) m a u l f.normal; equal = (move t u k l f.equal.0, move u t l k f.equal.1) }

-- what is free of variables and of the type m, and names types below m + 1, names types below m
free_each : (m : ℕ) (ts : List Ty) → Each (λ t. is_free_of m t ≡ true → Known (m + 1) t → (is_closed t ≡ true) × Known m t) ts → Each (λ t. is_free_of m t ≡ true) ts → Each (Known (m + 1)) ts
    → Each (λ t. is_closed t ≡ true) ts × Each (Known m) ts
free_each m [] e f k = (tt, tt)
free_each m (t ∷ ts) e f k =
    let r = e.0 f.0 k.0 in
    let s = free_each m ts e.1 f.1 k.1 in
    ((r.0, s.0), (r.1, s.1))

pub free_known : (m : ℕ) (t : Ty) → is_free_of m t ≡ true → Known (m + 1) t → (is_closed t ≡ true) × Known m t
free_known m = by_cases (λ t. is_free_of m t ≡ true → Known (m + 1) t → (is_closed t ≡ true) × Known m t) (record {
  any = λ f k. (closed-any, known-any m);
  union = λ ts e f k.
      let r = free_each m ts e (true_each (is_free_of m) ts (sym (free-union m ts) ∙ f)) (union_known (m + 1) ts k) in
      (closed-union ts ∙ each_true is_closed ts r.0, known_union m ts r.1);
  tuple = λ ts e f k.
      let r = free_each m ts e (true_each (is_free_of m) ts (sym (free-tuple m ts) ∙ f)) (tuple_known (m + 1) ts k) in
      (closed-tuple ts ∙ each_true is_closed ts r.0, known_tuple m ts r.1);
  nominal = λ j ts e f k.
      let g = sym (free-nominal m j ts) ∙ f in
      let a = nominal_known (m + 1) j ts k in
      let other = and_l (not (nat_eq j m)) (list_all (is_free_of m) ts) g in
      let r = free_each m ts e (true_each (is_free_of m) ts (and_r (not (nat_eq j m)) (list_all (is_free_of m) ts) g)) a.1 in
      (closed-nominal j ts ∙ each_true is_closed ts r.0, known_nominal m j ts (lower j m a.0 other) r.1);
  var = λ v f k. let g : false ≡ true = sym (free-var m v) ∙ f in cc;
})
  where
    lower : (j m : ℕ) → j < m + 1 → not (nat_eq j m) ≡ true → nat_lt j m ≡ true
    lower j m l o = grind (arith, o)
