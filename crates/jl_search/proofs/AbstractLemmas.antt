-- In the table of valid declarations an ancestor is no struct.
use Rattle.std.proofs.Common.{◌≡◌, ◌∙◌, sym, ap, subst, refl, ℕ, zero, suc, ◌+◌, ◌<◌, ◌≤◌, arith, Bool, true, false, ◌&&◌, not, cond, nat_eq, List, [], ◌∷◌, ◌++◌, map, length, Option, None, Some, get_or, slice_get, ◌⊎◌, inl, inr}
use Rattle.std.specs.List.{list_all}
use Rattle.jl_model.specs.declared.ty.Ty.{Ty}
use Rattle.jl_model.specs.declared.ty.Ty.TheOpen.{Ty-F, Any, Union, Tuple, Nominal, Var}
use Rattle.jl_model.specs.declared.ty.Ty.TheViews.{out-Ty, outs-Any, outs-Nominal}
use Rattle.jl_model.specs.declared.ty.Decl.{Decl}
use Rattle.jl_model.specs.declared.ty.DeclKind.{DeclKind}
use Rattle.jl_model.specs.declared.ty.DeclKind.TheVariants.{Abstract, Struct}
use Rattle.jl_model.specs.Subtype.{put, at}
use Rattle.jl_model.specs.Ancestors.{Ancestor, put_under, line_above, line_of, lines_after, args_of, up_in, is_struct_kind, table_of, builtin_types}
use Rattle.jl_model.specs.Refusals.{Declared, builtin, added, is_abstract_kind, is_abstract_parent}
use Rattle.jl_model.proofs.PutLemmas.{and_l, and_r}
use Rattle.jl_model.proofs.AncestorLemmas.{eq_of, slice_before, slice_past, lines_snoc, long-snoc}
use Rattle.jl_model.proofs.FillLemmas.{declared_agree}
use Rattle.jl_model.proofs.DeclaredLemmas.{not_false, declared_lawful}

order_of : (a b : ℕ) → (a < b) ⊎ ((a ≡ b) ⊎ (b < a))
order_of zero zero = inr (inl refl)
order_of zero (suc b) = inl (omega arith)
order_of (suc a) zero = inr (inr (omega arith))
order_of (suc a) (suc b) = elim (order_of a b) [ inl h ↦ inl (omega arith) | inr h ↦ elim h [ inl e ↦ inr (inl (ap suc e)) | inr l ↦ inr (inr (omega arith)) ] ]

pub same_or : (b : Bool) → (b ≡ true) ⊎ (b ≡ false)
same_or true = inl refl
same_or false = inr refl

kind_case : (k : DeclKind) → elim k [ Abstract ↦ true | Struct ↦ false ] ≡ true → elim k [ Abstract ↦ false | Struct ↦ true ] ≡ false
kind_case Abstract h = refl
kind_case Struct h = cc

no_struct : (o : Option Decl) → is_abstract_kind o ≡ true → is_struct_kind o ≡ false
no_struct None h = cc
no_struct (Some d) h = kind_case d.kind h

-- the built-in types, computed
abbrev line_fine : List Decl → ℕ → List Ancestor → Bool
line_fine ds k as_ = list_all (λ a. cond (nat_eq k a.name) true (not (is_struct_kind (slice_get ds a.name)))) as_

abbrev lines_fine : List Decl → ℕ → List (List Ancestor) → Bool
lines_fine ds k [] = true
lines_fine ds k (l ∷ ls) = line_fine ds k l && lines_fine ds (k + 1) ls

fine_line : (ds : List Decl) (i k : ℕ) (ls : List (List Ancestor)) → lines_fine ds i ls ≡ true → line_fine ds (i + k) (get_or ls k []) ≡ true
fine_line ds i k [] h = refl
fine_line ds i zero (l ∷ ls) h = ap (λ j. line_fine ds j l) (omega arith) ∙ and_l (line_fine ds i l) (lines_fine ds (i + 1) ls) h
fine_line ds i (suc k) (l ∷ ls) h = ap (λ j. line_fine ds j (get_or ls k [])) (omega arith) ∙ fine_line ds (i + 1) k ls (and_r (line_fine ds i l) (lines_fine ds (i + 1) ls) h)

not_true : (b : Bool) → not b ≡ true → b ≡ false
not_true true h = cc
not_true false h = refl

fine_at : (ds : List Decl) (k m : ℕ) (as_ : List Ancestor) (zs : List Ty) → nat_eq k m ≡ false → line_fine ds k as_ ≡ true → args_of m as_ ≡ Some zs → is_struct_kind (slice_get ds m) ≡ false
fine_at ds k m [] zs e h u = let f : None ≡ Some zs = u in cc
fine_at ds k m (a ∷ as_) zs e h u = pick (λ g w. fine_at ds k m as_ zs e g w) (nat_eq m a.name) refl u
  where
    pick : (line_fine ds k as_ ≡ true → args_of m as_ ≡ Some zs → is_struct_kind (slice_get ds m) ≡ false) → (b : Bool) → nat_eq m a.name ≡ b → cond b (Some a.args) (args_of m as_) ≡ Some zs → is_struct_kind (slice_get ds m) ≡ false
    pick ih true i w =
        let j : a.name ≡ m = sym (eq_of m a.name i) in
        let c : cond (nat_eq k a.name) true (not (is_struct_kind (slice_get ds a.name))) ≡ true = and_l (cond (nat_eq k a.name) true (not (is_struct_kind (slice_get ds a.name)))) (line_fine ds k as_) h in
        let d : cond (nat_eq k m) true (not (is_struct_kind (slice_get ds m))) ≡ true = subst (λ z. cond (nat_eq k z) true (not (is_struct_kind (slice_get ds z))) ≡ true) j c in
        not_true (is_struct_kind (slice_get ds m)) (sym (ap (λ z. cond z true (not (is_struct_kind (slice_get ds m)))) e) ∙ d)
    pick ih false i w = ih (and_r (cond (nat_eq k a.name) true (not (is_struct_kind (slice_get ds a.name)))) (line_fine ds k as_) h) w

builtins_fine : lines_fine builtin_types 0 (lines_after [] builtin_types) ≡ true
builtins_fine = simp (outs-Any, outs-Nominal)

-- one more declaration
long_lines : (ls : List (List Ancestor)) (ds : List Decl) → length (lines_after ls ds) ≡ length ls + length ds
long_lines ls [] = omega arith
long_lines ls (d ∷ ds) = long_lines (ls ++ line_of ls d ∷ []) ds ∙ omega (arith, long-snoc ls (line_of ls d))

pub get_end : {A : Type 0} (ls : List A) (x d : A) → get_or (ls ++ x ∷ []) (length ls) d ≡ x
get_end [] x d = refl
get_end (l ∷ ls) x d = get_end ls x d

get_none : {A : Type 0} (ls : List A) (k : ℕ) (d : A) → length ls ≤ k → get_or ls k d ≡ d
get_none [] k d h = refl
get_none (l ∷ ls) zero d h = absurd (omega arith)
get_none (l ∷ ls) (suc k) d h = get_none ls k d (omega arith)

args_before : (ys : List Ty) (m : ℕ) (as_ : List Ancestor) (zs : List Ty) → args_of m (map (put_under ys) as_) ≡ Some zs → (ws : List Ty) × (args_of m as_ ≡ Some ws)
args_before ys m [] zs u = let f : None ≡ Some zs = u in cc
args_before ys m (a ∷ as_) zs u = pick (λ w. args_before ys m as_ zs w) (nat_eq m a.name) u
  where
    pick : (args_of m (map (put_under ys) as_) ≡ Some zs → (ws : List Ty) × (args_of m as_ ≡ Some ws)) → (b : Bool) → cond b (Some (map (put (at ys)) a.args)) (args_of m (map (put_under ys) as_)) ≡ Some zs → (ws : List Ty) × (cond b (Some a.args) (args_of m as_) ≡ Some ws)
    pick ih true w = (a.args, refl)
    pick ih false w = ih w

past_first : (k m : ℕ) (xs : List Ty) (as_ : List Ancestor) → nat_eq k m ≡ false → args_of m (record { name = k; args = xs } ∷ as_) ≡ args_of m as_
past_first k m xs as_ e = let f : nat_eq m k ≡ false = grind (arith, e) in rw f refl

falls_in : (ds : List Decl) → Declared ds → (k m : ℕ) (zs : List Ty) → nat_eq k m ≡ false → up_in ds k m ≡ Some zs → m < k
unfolding table_of
falls_in ds h k m zs e u = (declared_lawful ds h).falls k m zs e u

up_same : (ds : List Decl) (d : Decl) → Declared ds → (k m : ℕ) → k < length ds → up_in ds k m ≡ up_in (ds ++ d ∷ []) k m
unfolding table_of
up_same ds d h k m l = (declared_agree ds d h).same k m l

pub ancestor_abstract : (ds : List Decl) → Declared ds → (k m : ℕ) (zs : List Ty) → nat_eq k m ≡ false → up_in ds k m ≡ Some zs → is_struct_kind (slice_get ds m) ≡ false
ancestor_abstract ds builtin k m zs e u =
    let l = get_or (lines_after [] builtin_types) k [] in
    let i : k ≡ 0 + k = omega arith in
    fine_at builtin_types k m l zs e (ap (λ j. line_fine builtin_types j l) i ∙ fine_line builtin_types 0 k (lines_after [] builtin_types) builtins_fine) u
ancestor_abstract ds (added es d h r) k m zs e u = placed (λ k m zs e u. ancestor_abstract es h k m zs e u) (order_of k (length es))
  where
    old : (m : ℕ) → m < length es → is_struct_kind (slice_get es m) ≡ false → is_struct_kind (slice_get (es ++ d ∷ []) m) ≡ false
    old m l q = ap is_struct_kind (slice_before es d m l) ∙ q

    lines : List (List Ancestor)
    lines = lines_after [] es

    above : ((k m : ℕ) (zs : List Ty) → nat_eq k m ≡ false → up_in es k m ≡ Some zs → is_struct_kind (slice_get es m) ≡ false) → (x : Ty-F Ty) → is_abstract_parent es x ≡ true → args_of m (line_above lines x) ≡ Some zs → is_struct_kind (slice_get (es ++ d ∷ []) m) ≡ false
    above ih Any q w = let f : None ≡ Some zs = w in cc
    above ih (Union ts) q w = let f : None ≡ Some zs = w in cc
    above ih (Tuple ts) q w = let f : None ≡ Some zs = w in cc
    above ih (Var v) q w = let f : None ≡ Some zs = w in cc
    above ih (Nominal p ys) q w = elim (order_of p (length es)) [
      | inl l ↦
          let b = args_before ys m (get_or lines p []) zs w in
          elim (same_or (nat_eq p m)) [
            | inl t ↦ let i : p ≡ m = eq_of p m t in subst (λ z. is_struct_kind (slice_get (es ++ d ∷ []) z) ≡ false) i (old p l (no_struct (slice_get es p) q))
            | inr f ↦ let low = falls_in es h p m b.0 f b.1 in old m (omega arith) (ih p m b.0 f b.1)
          ]
      | inr l ↦
          let g : length es ≤ p = elim l [ inl e ↦ omega arith | inr e ↦ omega arith ] in
          let f : false ≡ true = sym (ap is_abstract_kind (slice_past es p g)) ∙ q in cc
    ]

    placed : ((k m : ℕ) (zs : List Ty) → nat_eq k m ≡ false → up_in es k m ≡ Some zs → is_struct_kind (slice_get es m) ≡ false) → (k < length es) ⊎ ((k ≡ length es) ⊎ (length es < k)) → is_struct_kind (slice_get (es ++ d ∷ []) m) ≡ false
    placed ih (inl l) =
        let w : up_in es k m ≡ Some zs = up_same es d h k m l ∙ u in
        let low = falls_in es h k m zs e w in
        old m (omega arith) (ih k m zs e w)
    placed ih (inr (inl i)) =
        let long : length lines ≡ length es = omega (arith, long_lines [] es) in
        let j : k ≡ length lines = omega arith in
        let g : get_or (lines_after [] (es ++ d ∷ [])) k [] ≡ line_of lines d = ap (λ ls. get_or ls k []) (lines_snoc [] es d) ∙ ap (λ z. get_or (lines ++ line_of lines d ∷ []) z []) j ∙ get_end lines (line_of lines d) [] in
        let a : args_of m (line_of lines d) ≡ Some zs = ap (args_of m) (sym g) ∙ u in
        let n : nat_eq (length lines) m ≡ false = ap (λ z. nat_eq z m) (sym j) ∙ e in
        above ih (out-Ty d.parent) (not_false (is_abstract_parent es (out-Ty d.parent)) r.allowed.abstract) (sym (past_first (length lines) m _ (line_above lines (out-Ty d.parent)) n) ∙ a)
    placed ih (inr (inr g)) =
        let long : length (lines_after [] (es ++ d ∷ [])) ≡ length es + 1 = omega (arith, long_lines [] (es ++ d ∷ []), long-snoc es d) in
        let f : None ≡ Some zs = sym (ap (args_of m) (get_none (lines_after [] (es ++ d ∷ [])) k [] (omega arith))) ∙ u in cc
