-- Where variables and the type that is being declared may stand.
use Rattle.std.proofs.Common.{◌≡◌, ◌∙◌, sym, ap, refl, ℕ, ◌+◌, ◌<◌, arith, Bool, true, false, ◌&&◌, not, nat_eq, nat_lt, List, [], ◌∷◌, length, drop, get_or}
use Rattle.std.specs.List.{list_all}
use Rattle.jl_model.specs.declared.ty.Ty.{Ty}
use Rattle.jl_model.specs.declared.ty.Ty.TheOpen.{Any, Union, Tuple, Nominal}
use Rattle.jl_model.specs.declared.ty.Ty.TheViews.{rolls-Any, rolls-Union, rolls-Tuple, rolls-Nominal}
use Rattle.jl_model.specs.declared.ty.Ty.TheViews as V
use Rattle.jl_model.specs.declared.ty.Ty.TheVariants as W
use Rattle.jl_model.specs.declared.ty.Ty.TheFolds.{fold-roll-Ty, para-roll-Ty}
use Rattle.jl_model.specs.Refusals.{is_free_of, free_step, is_placed, placed_step, is_placed_field, arguments_step}
use Rattle.jl_model.specs.Valid.{is_closed}
use Rattle.jl_model.proofs.TypeInduction.{Each, by_cases}
use Rattle.jl_model.proofs.FormLemmas.{all_firsts, all_seconds}
use Rattle.jl_model.proofs.PutLemmas.{and_l, and_r, both_true}
use Rattle.jl_model.proofs.AncestorLemmas.{each_true, true_each}
use Rattle.jl_model.proofs.KnownLemmas.{Known, known-any, known-var, union_known, tuple_known, nominal_known, known_union, known_tuple, known_nominal}
use Rattle.jl_model.proofs.DeclaredLemmas.{free-union, free-tuple, free-nominal, free-var, free_closed, placed-union, placed-tuple, placed-nominal}
use Rattle.jl_types.proofs.ReduceLemmas.{drop_is}

pub free-any : (m : ℕ) → is_free_of m W.Any ≡ true
free-any m = ap (is_free_of m) (sym rolls-Any) ∙ fold-roll-Ty Bool (free_step m) Any

pub free-step : (m : ℕ) (ts : List Ty) (i : ℕ) (t : Ty) → i < length ts → t ≡ get_or ts i t → list_all (is_free_of m) (drop i ts) ≡ (is_free_of m t && list_all (is_free_of m) (drop (i + 1) ts))
free-step m ts i t l e = ap (list_all (is_free_of m)) (drop_is ts i t l e)

pub ruleset freeing = (free-step, free-any, free-var, free-union, free-tuple, free-nominal)

-- the fields
pub field-union : (m : ℕ) (ts : List Ty) → is_placed_field m (V.Union ts) ≡ list_all (is_placed_field m) ts
field-union m ts = ap (is_placed_field m) (sym (rolls-Union ts)) ∙ para-roll-Ty Bool (arguments_step m) (Union ts) ∙ all_seconds (is_placed_field m) ts

pub field-tuple : (m : ℕ) (ts : List Ty) → is_placed_field m (V.Tuple ts) ≡ list_all (is_placed_field m) ts
field-tuple m ts = ap (is_placed_field m) (sym (rolls-Tuple ts)) ∙ para-roll-Ty Bool (arguments_step m) (Tuple ts) ∙ all_seconds (is_placed_field m) ts

pub field-nominal : (m k : ℕ) (ts : List Ty) → is_placed_field m (V.Nominal k ts) ≡ list_all (is_placed m) ts
field-nominal m k ts = ap (is_placed_field m) (sym (rolls-Nominal k ts)) ∙ para-roll-Ty Bool (arguments_step m) (Nominal k ts) ∙ all_firsts (is_placed_field m) (is_placed m) ts

-- what is free is closed, and known without the type
pub free_is_closed : (m : ℕ) (t : Ty) → is_free_of m t ≡ true → is_closed t ≡ true
free_is_closed m t h = ap (λ z. nat_eq (length z) 0) (free_closed m t h)

free_known_all : (m : ℕ) (ts : List Ty) → Each (λ t. is_free_of m t ≡ true → Known (m + 1) t → Known m t) ts → list_all (is_free_of m) ts ≡ true → Each (Known (m + 1)) ts → Each (Known m) ts
free_known_all m [] e h k = tt
free_known_all m (t ∷ ts) e h k = (e.0 (and_l (is_free_of m t) (list_all (is_free_of m) ts) h) k.0, free_known_all m ts e.1 (and_r (is_free_of m t) (list_all (is_free_of m) ts) h) k.1)

name_below : (k m : ℕ) → k < m + 1 → not (nat_eq k m) ≡ true → nat_lt k m ≡ true
name_below k m l h = grind (arith, l, h)

pub free_is_known : (m : ℕ) (t : Ty) → is_free_of m t ≡ true → Known (m + 1) t → Known m t
free_is_known m = by_cases (λ t. is_free_of m t ≡ true → Known (m + 1) t → Known m t) (record {
  any = λ h k. known-any m;
  union = λ ts e h k. known_union m ts (free_known_all m ts e (sym (free-union m ts) ∙ h) (union_known (m + 1) ts k));
  tuple = λ ts e h k. known_tuple m ts (free_known_all m ts e (sym (free-tuple m ts) ∙ h) (tuple_known (m + 1) ts k));
  nominal = λ j ts e h k.
      let f = sym (free-nominal m j ts) ∙ h in
      let g = nominal_known (m + 1) j ts k in
      known_nominal m j ts (name_below j m g.0 (and_l (not (nat_eq j m)) (list_all (is_free_of m) ts) f)) (free_known_all m ts e (and_r (not (nat_eq j m)) (list_all (is_free_of m) ts) f) g.1);
  var = λ v h k. known-var m v;
})

-- the code that tells whether a type is free
pub free_union : (m : ℕ) (t : Ty) (ts vs : List Ty) (r : Bool) → t ≡ V.Union ts → vs ≡ ts → r ≡ list_all (is_free_of m) vs → r ≡ is_free_of m t
free_union m t ts vs r e f g = g ∙ ap (list_all (is_free_of m)) f ∙ sym (free-union m ts) ∙ sym (ap (is_free_of m) e)

pub free_tuple : (m : ℕ) (t : Ty) (ts vs : List Ty) (r : Bool) → t ≡ V.Tuple ts → vs ≡ ts → r ≡ list_all (is_free_of m) vs → r ≡ is_free_of m t
free_tuple m t ts vs r e f g = g ∙ ap (list_all (is_free_of m)) f ∙ sym (free-tuple m ts) ∙ sym (ap (is_free_of m) e)

pub free_other : (m : ℕ) (t : Ty) (k : ℕ) (ts vs : List Ty) (r : Bool) → t ≡ V.Nominal k ts → (k ≡ m → ⊥) → vs ≡ ts → r ≡ list_all (is_free_of m) vs → r ≡ is_free_of m t
free_other m t k ts vs r e d f g =
    let n : not (nat_eq k m) ≡ true = grind (arith, d) in
    g ∙ ap (list_all (is_free_of m)) f ∙ sym (ap (λ b. b && list_all (is_free_of m) ts) n) ∙ sym (free-nominal m k ts) ∙ sym (ap (is_free_of m) e)

-- one more type, and what is free anywhere
each_map : (P Q : Ty → Type 0) (ts : List Ty) → Each (λ t. P t → Q t) ts → Each P ts → Each Q ts
each_map P Q [] e h = tt
each_map P Q (t ∷ ts) e h = (e.0 h.0, each_map P Q ts e.1 h.1)

pub known_up : (m : ℕ) (t : Ty) → Known m t → Known (m + 1) t
known_up m = by_cases (λ t. Known m t → Known (m + 1) t) (record {
  any = λ k. known-any (m + 1);
  union = λ ts e k. known_union (m + 1) ts (each_map (Known m) (Known (m + 1)) ts e (union_known m ts k));
  tuple = λ ts e k. known_tuple (m + 1) ts (each_map (Known m) (Known (m + 1)) ts e (tuple_known m ts k));
  nominal = λ j ts e k. let g = nominal_known m j ts k in let l = g.0 in known_nominal (m + 1) j ts (grind (arith, l)) (each_map (Known m) (Known (m + 1)) ts e g.1);
  var = λ v k. known-var (m + 1) v;
})

placed-any : (m : ℕ) → is_placed m W.Any ≡ true
placed-any m = ap (is_placed m) (sym rolls-Any) ∙ para-roll-Ty Bool (placed_step m) Any

field-any : (m : ℕ) → is_placed_field m W.Any ≡ true
field-any m = ap (is_placed_field m) (sym rolls-Any) ∙ para-roll-Ty Bool (arguments_step m) Any

all_placed : (P : Ty → Bool) (m : ℕ) (ts : List Ty) → Each (λ t. is_free_of m t ≡ true → P t ≡ true) ts → list_all (is_free_of m) ts ≡ true → list_all P ts ≡ true
all_placed P m ts e h = each_true P ts (each_map (λ t. is_free_of m t ≡ true) (λ t. P t ≡ true) ts e (true_each (is_free_of m) ts h))

free_arguments : (m k : ℕ) (ts : List Ty) → is_free_of m (V.Nominal k ts) ≡ true → list_all (is_free_of m) ts ≡ true
free_arguments m k ts h = and_r (not (nat_eq k m)) (list_all (is_free_of m) ts) (sym (free-nominal m k ts) ∙ h)

pub free_is_placed : (m : ℕ) (t : Ty) → is_free_of m t ≡ true → is_placed m t ≡ true
free_is_placed m = by_cases (λ t. is_free_of m t ≡ true → is_placed m t ≡ true) (record {
  any = λ h. placed-any m;
  union = λ ts e h. placed-union m ts ∙ sym (free-union m ts) ∙ h;
  tuple = λ ts e h. placed-tuple m ts ∙ sym (free-tuple m ts) ∙ h;
  nominal = λ k ts e h. placed-nominal m k ts ∙ all_placed (is_placed m) m ts e (free_arguments m k ts h);
  var = λ v h. let f : false ≡ true = sym (free-var m v) ∙ h in cc;
})

all_free_placed : (m : ℕ) (ts : List Ty) → list_all (is_free_of m) ts ≡ true → list_all (is_placed m) ts ≡ true
all_free_placed m [] h = refl
all_free_placed m (t ∷ ts) h =
    both_true (is_placed m t) (list_all (is_placed m) ts) (free_is_placed m t (and_l (is_free_of m t) (list_all (is_free_of m) ts) h)) (all_free_placed m ts (and_r (is_free_of m t) (list_all (is_free_of m) ts) h))

pub free_is_field : (m : ℕ) (t : Ty) → is_free_of m t ≡ true → is_placed_field m t ≡ true
free_is_field m = by_cases (λ t. is_free_of m t ≡ true → is_placed_field m t ≡ true) (record {
  any = λ h. field-any m;
  union = λ ts e h. field-union m ts ∙ all_placed (is_placed_field m) m ts e (sym (free-union m ts) ∙ h);
  tuple = λ ts e h. field-tuple m ts ∙ all_placed (is_placed_field m) m ts e (sym (free-tuple m ts) ∙ h);
  nominal = λ k ts e h. field-nominal m k ts ∙ all_free_placed m ts (free_arguments m k ts h);
  var = λ v h. let f : false ≡ true = sym (free-var m v) ∙ h in cc;
})
