-- In the table of valid declarations the arguments of an ancestor are normal forms where those of the type are.
use Rattle.std.proofs.Common.{◌≡◌, ◌∙◌, sym, ap, subst, refl, ℕ, zero, suc, ◌+◌, ◌<◌, arith, true, nat_lt, nat_eq, List, [], ◌∷◌, ◌++◌, map, length, get_or, Some}
use Rattle.std.specs.List.{list_all}
use Rattle.jl_model.specs.declared.ty.Ty.{Ty, out-Ty}
use Rattle.jl_model.specs.declared.ty.Ty.TheOpen.{Any, Union, Tuple, Nominal, Var}
use Rattle.jl_model.specs.declared.ty.Ty.TheViews.{outs-Any, outs-Nominal}
use Rattle.jl_model.specs.declared.ty.Ty.TheViews as V
use Rattle.jl_model.specs.declared.ty.Ty.TheVariants as W
use Rattle.jl_model.specs.declared.ty.Decl.{Decl}
use Rattle.jl_model.specs.Rows.{vars_in}
use Rattle.jl_model.specs.Subtype.{Table, put, at}
use Rattle.jl_model.specs.Ancestors.{line_of, lines_after, args_of, up_in, table_of, builtin_types}
use Rattle.jl_model.specs.Normal.{IsNormal, AllNormal, any, nominal, none, more}
use Rattle.jl_model.specs.Valid.{names_in, is_known}
use Rattle.jl_model.specs.Kept.{Argument, AllArguments, closed, variable, nominal as applied, arguments_end, arguments_more, Settled, plain, variable as alone, union, tuple, nominal as named_type}
use Rattle.jl_model.specs.Refusals.{Declared, builtin, added, IsReady, table_with}
use Rattle.jl_model.proofs.TypeInduction.{Each}
use Rattle.jl_model.proofs.FormLemmas.{is_nominal, is_var, put-nominal, put-var, vars-any}
use Rattle.jl_model.proofs.PutLemmas.{put-closed, and_l, and_r, both_true}
use Rattle.jl_model.proofs.AncestorLemmas.{Parents, AllParents, IsKeptByPut, all_fit, lines_of, lines_snoc, up_good, get_before, long-snoc}
use Rattle.jl_model.proofs.KnownLemmas.{Known, nominal_known, known_kept, Agree, normal_move}
use Rattle.jl_model.proofs.DeclaredLemmas.{declared_fit, builtin_parents, parents_snoc, parent_known}

-- a normal form without variables, a variable, or a nominal type of these
mutual
  pub data Filled (n : Table) : Ty → Type 0 where
    whole : (t : Ty) → ((f : ℕ → Ty) → put f t ≡ t) → IsNormal n t → Filled n t
    open_place : (v : ℕ) → Filled n (W.Var v)
    over : (k : ℕ) (ts : List Ty) → AllFilled n ts → Filled n (V.Nominal k ts)

  pub data AllFilled (n : Table) : List Ty → Type 0 where
    filled_end : AllFilled n []
    filled_more : (t : Ty) (ts : List Ty) → Filled n t → AllFilled n ts → AllFilled n (t ∷ ts)

no_vars : (ns : List ℕ) → nat_eq (length ns) 0 ≡ true → ns ≡ []
no_vars [] h = refl
no_vars (n ∷ ns) h = let e : length (n ∷ ns) ≡ 0 = grind (arith, h) in absurd (omega arith)

-- from the definition
mutual
  filled_of : (n : Table) (t u : Ty) → Argument n t u → t ≡ u → Filled n t
  filled_of n t u (closed a b h f) e = whole t (λ g. put-closed g t (no_vars (vars_in t) h)) (subst (IsNormal n) (sym e) f.normal)
  filled_of n t u (variable a v o) e = subst (Filled n) (sym (is_var t v o)) (open_place v)
  filled_of n t u (applied a b k ts us h o p q) e =
      let i = is_nominal t k ts o in
      let f : Nominal k ts ≡ Nominal k us = sym o ∙ ap out-Ty e ∙ p in
      let g : ts ≡ us = cc in
      subst (Filled n) (sym i) (over k ts (all_filled n ts us q g))

  all_filled : (n : Table) (ts us : List Ty) → AllArguments n ts us → ts ≡ us → AllFilled n ts
  all_filled n ts us arguments_end e = filled_end
  all_filled n ts us (arguments_more t u vs ws p q) e =
      let f : t ≡ u = cc in
      let g : vs ≡ ws = cc in
      filled_more t vs (filled_of n t u p f) (all_filled n vs ws q g)

-- types put in
at_filled : (n : Table) (ys : List Ty) (v : ℕ) → AllFilled n ys → Filled n (at ys v)
at_filled n ys v filled_end = whole W.Any (λ f. put-closed f W.Any vars-any) (any W.Any outs-Any)
at_filled n ys zero (filled_more t ts p q) = p
at_filled n ys (suc v) (filled_more t ts p q) = at_filled n ts v q

mutual
  put_filled : (n : Table) (ys : List Ty) → AllFilled n ys → (t : Ty) → Filled n t → Filled n (put (at ys) t)
  put_filled n ys e t (whole a f h) = subst (Filled n) (sym (f (at ys))) (whole t f h)
  put_filled n ys e t (open_place v) = subst (Filled n) (sym (put-var (at ys) v)) (at_filled n ys v e)
  put_filled n ys e t (over k ts h) = subst (Filled n) (sym (put-nominal (at ys) k ts)) (over k (map (put (at ys)) ts) (put_all_filled n ys e ts h))

  put_all_filled : (n : Table) (ys : List Ty) → AllFilled n ys → (ts : List Ty) → AllFilled n ts → AllFilled n (map (put (at ys)) ts)
  put_all_filled n ys e ts filled_end = filled_end
  put_all_filled n ys e ts (filled_more t us p q) = filled_more (put (at ys) t) (map (put (at ys)) us) (put_filled n ys e t p) (put_all_filled n ys e us q)

all_each : (n : Table) (ts : List Ty) → AllFilled n ts → Each (Filled n) ts
all_each n ts filled_end = tt
all_each n ts (filled_more t us p q) = (p, all_each n us q)

each_all : (n : Table) (ts : List Ty) → Each (Filled n) ts → AllFilled n ts
each_all n [] e = filled_end
each_all n (t ∷ ts) e = filled_more t ts e.0 (each_all n ts e.1)

filled_kept : (n : Table) → IsKeptByPut (Filled n)
filled_kept n = record { variable = λ v. open_place v; puts = λ ys e t h. put_filled n ys (each_all n ys e) t h }

-- normal forms put in
at_normal : (n : Table) (xs : List Ty) (v : ℕ) → AllNormal n xs → IsNormal n (at xs v)
at_normal n xs v none = any W.Any outs-Any
at_normal n xs zero (more t ts p q) = p
at_normal n xs (suc v) (more t ts p q) = at_normal n ts v q

mutual
  put_normal : (n : Table) (xs : List Ty) → AllNormal n xs → (t : Ty) → Filled n t → IsNormal n (put (at xs) t)
  put_normal n xs e t (whole a f h) = subst (IsNormal n) (sym (f (at xs))) h
  put_normal n xs e t (open_place v) = subst (IsNormal n) (sym (put-var (at xs) v)) (at_normal n xs v e)
  put_normal n xs e t (over k ts h) =
      let us = map (put (at xs)) ts in
      subst (IsNormal n) (sym (put-nominal (at xs) k ts)) (nominal (V.Nominal k us) k us (outs-Nominal k us) (put_normals n xs e ts h))

  pub put_normals : (n : Table) (xs : List Ty) → AllNormal n xs → (ts : List Ty) → AllFilled n ts → AllNormal n (map (put (at xs)) ts)
  put_normals n xs e ts filled_end = none
  put_normals n xs e ts (filled_more t us p q) = more (put (at xs) t) (map (put (at xs)) us) (put_normal n xs e t p) (put_normals n xs e us q)

-- from a table to one that agrees with it
mutual
  filled_move : (n o : Table) (m : ℕ) → Agree n o m → (t : Ty) → Known m t → Filled n t → Filled o t
  filled_move n o m a t p (whole b f h) = whole t f (normal_move n o m a t p h)
  filled_move n o m a t p (open_place v) = open_place v
  filled_move n o m a t p (over k ts h) = over k ts (filled_all_move n o m a ts (nominal_known m k ts p).1 h)

  filled_all_move : (n o : Table) (m : ℕ) → Agree n o m → (ts : List Ty) → Each (Known m) ts → AllFilled n ts → AllFilled o ts
  filled_all_move n o m a ts p filled_end = filled_end
  filled_all_move n o m a ts p (filled_more t us h q) = filled_more t us (filled_move n o m a t p.0 h) (filled_all_move n o m a us p.1 q)

-- the parents of declarations
abbrev Good : List Decl → Ty → Type 0
Good ds t = Filled (table_of ds) t × Known (length ds) t

known_later : (m : ℕ) (ks : List ℕ) → list_all (λ k. nat_lt k m) ks ≡ true → list_all (λ k. nat_lt k (m + 1)) ks ≡ true
known_later m [] h = refl
known_later m (k ∷ ks) h =
    let p : nat_lt k m ≡ true = and_l (nat_lt k m) (list_all (λ k. nat_lt k m) ks) h in
    let q : nat_lt k (m + 1) ≡ true = grind (arith, p) in
    both_true (nat_lt k (m + 1)) (list_all (λ k. nat_lt k (m + 1)) ks) q (known_later m ks (and_r (nat_lt k m) (list_all (λ k. nat_lt k m) ks) h))

known_more : (ds : List Decl) (d : Decl) (t : Ty) → Known (length ds) t → Known (length (ds ++ d ∷ [])) t
known_more ds d t h = subst (λ m. Known m t) (sym (long-snoc ds d)) (known_later (length ds) (names_in t) h)

-- one more declaration leaves the ancestors of the types before it as they are
up_before : (ds : List Decl) (d : Decl) (k j : ℕ) → all_fit [] ds ≡ true → k < length ds → up_in ds k j ≡ up_in (ds ++ d ∷ []) k j
up_before ds d k j h l =
    let ls = lines_after [] ds in
    let long : length ls ≡ length ds = (lines_of (λ t. Unit {0}) ds h (units ds)).long in
    ap (args_of j) (sym (get_before ls (line_of ls d) [] k (omega arith))) ∙ ap (λ zs. args_of j (get_or zs k [])) (sym (lines_snoc [] ds d))
  where
    each_unit : (ts : List Ty) → Each (λ t. Unit {0}) ts
    each_unit [] = tt
    each_unit (t ∷ ts) = (tt, each_unit ts)

    units : (ds : List Decl) → AllParents (λ t. Unit {0}) ds
    units [] = tt
    units (d ∷ ds) = ((λ p ys e. each_unit ys), units ds)

each_snd : (P Q : Ty → Type 0) (ts : List Ty) → Each (λ t. P t × Q t) ts → Each Q ts
each_snd P Q [] e = tt
each_snd P Q (t ∷ ts) e = (e.0.1, each_snd P Q ts e.1)

each_fst : (P Q : Ty → Type 0) (ts : List Ty) → Each (λ t. P t × Q t) ts → Each P ts
each_fst P Q [] e = tt
each_fst P Q (t ∷ ts) e = (e.0.0, each_fst P Q ts e.1)

each_map : (P Q : Ty → Type 0) → ((t : Ty) → P t → Q t) → (ts : List Ty) → Each P ts → Each Q ts
each_map P Q f [] e = tt
each_map P Q f (t ∷ ts) e = (f t e.0, each_map P Q f ts e.1)

parents_map : (P Q : Ty → Type 0) → ((t : Ty) → P t → Q t) → (ds : List Decl) → AllParents P ds → AllParents Q ds
parents_map P Q f [] e = tt
parents_map P Q f (d ∷ ds) e = ((λ p ys o. each_map P Q f ys (e.0 p ys o)), parents_map P Q f ds e.1)

pub agree_more : (ds : List Decl) (d : Decl) → all_fit [] ds ≡ true → AllParents (Known (length ds)) ds → Agree (table_of ds) (table_of (ds ++ d ∷ [])) (length ds)
unfolding table_of
agree_more ds d h q = record {
  same = λ k j l. up_before ds d k j h l;
  known = λ k j xs l u. up_good (Known (length ds)) (known_kept (length ds)) ds h q k j xs u;
}

settled_args : (n : Table) (t u : Ty) → Settled n t u → t ≡ u → (p : ℕ) (ys : List Ty) → out-Ty t ≡ Nominal p ys → AllFilled n ys
settled_args n t u (plain a o) e p ys i = let f : Any ≡ Nominal p ys = sym o ∙ i in cc
settled_args n t u (alone a v o) e p ys i = let f : Var v ≡ Nominal p ys = sym o ∙ i in cc
settled_args n t u (union a b ts us o q r) e p ys i = let f : Union ts ≡ Nominal p ys = sym o ∙ i in cc
settled_args n t u (tuple a b ts us o q r) e p ys i = let f : Tuple ts ≡ Nominal p ys = sym o ∙ i in cc
settled_args n t u (named_type a b k ts us o q r) e p ys i =
    let f : Nominal k ts ≡ Nominal p ys = sym o ∙ i in
    let g : Nominal k ts ≡ Nominal k us = sym o ∙ ap out-Ty e ∙ q in
    let ts_is : ts ≡ ys = cc in
    let us_is : ts ≡ us = cc in
    subst (AllFilled n) ts_is (all_filled n ts us r us_is)

ready_parents : (ds : List Decl) (d : Decl) → Settled (table_with ds d) d.parent d.parent → Known (length ds) d.parent → Parents (Good (ds ++ d ∷ [])) d
ready_parents ds d s k p ys o =
    let filled = all_each (table_with ds d) ys (settled_args (table_with ds d) d.parent d.parent s refl p ys o) in
    let known : Known (length ds) (V.Nominal p ys) = sym (ap (is_known (length ds)) (is_nominal d.parent p ys o)) ∙ k in
    both_each ys filled (each_map (Known (length ds)) (Known (length (ds ++ d ∷ []))) (known_more ds d) ys (nominal_known (length ds) p ys known).1)
  where
    both_each : (ts : List Ty) → Each (Filled (table_with ds d)) ts → Each (Known (length (ds ++ d ∷ []))) ts → Each (Good (ds ++ d ∷ [])) ts
    both_each [] e f = tt
    both_each (t ∷ ts) e f = ((e.0, f.0), both_each ts e.1 f.1)

parents_known : (ds es : List Decl) → AllParents (Good ds) es → AllParents (Known (length ds)) es
parents_known ds es h = parents_map (Good ds) (Known (length ds)) (λ t g. g.1) es h

next_good : (es : List Decl) (d : Decl) → all_fit [] es ≡ true → AllParents (Good es) es → Settled (table_with es d) d.parent d.parent → Known (length es) d.parent → AllParents (Good (es ++ d ∷ [])) (es ++ d ∷ [])
next_good es d f q s k =
    let a = agree_more es d f (parents_known es es q) in
    let later = parents_map (Good es) (Good (es ++ d ∷ [])) (λ t g. (filled_move (table_of es) (table_of (es ++ d ∷ [])) (length es) a t g.1 g.0, known_more es d t g.1)) es q in
    parents_snoc (Good (es ++ d ∷ [])) es d later (ready_parents es d s k)

declared_good : (ds : List Decl) → Declared ds → AllParents (Good ds) ds
declared_good ds builtin = builtin_parents (Good builtin_types)
declared_good ds (added es d h r) = next_good es d (declared_fit es h) (declared_good es h) r.normal.parent (parent_known es d r.allowed)

pub ancestors_filled : (ds : List Decl) → Declared ds → (k m : ℕ) (ys : List Ty) → up_in ds k m ≡ Some ys → AllFilled (table_of ds) ys
ancestors_filled ds h k m ys u =
    let n = table_of ds in
    let parents = parents_map (Good ds) (Filled n) (λ t g. g.0) ds (declared_good ds h) in
    each_all n ys (up_good (Filled n) (filled_kept n) ds (declared_fit ds h) parents k m ys u)

-- the arguments of an ancestor are normal forms
pub ancestors_normal : (ds : List Decl) → Declared ds → (k m : ℕ) (ys xs : List Ty) → up_in ds k m ≡ Some ys → AllNormal (table_of ds) xs → AllNormal (table_of ds) (map (put (at xs)) ys)
ancestors_normal ds h k m ys xs u e =
    let n = table_of ds in
    let parents = parents_map (Good ds) (Filled n) (λ t g. g.0) ds (declared_good ds h) in
    let good = up_good (Filled n) (filled_kept n) ds (declared_fit ds h) parents k m ys u in
    put_normals n xs e ys (each_all n ys good)

-- the ancestors of known types are over known types
pub ancestors_known : (ds : List Decl) → Declared ds → (k m : ℕ) (ys : List Ty) → up_in ds k m ≡ Some ys → Each (Known (length ds)) ys
ancestors_known ds h k m ys u =
    up_good (Known (length ds)) (known_kept (length ds)) ds (declared_fit ds h) (parents_known ds ds (declared_good ds h)) k m ys u

-- a declaration added leaves the order of the types before it, and their normal forms, as they are
pub declared_agree : (ds : List Decl) (d : Decl) → Declared ds → Agree (table_of ds) (table_of (ds ++ d ∷ [])) (length ds)
declared_agree ds d h = agree_more ds d (declared_fit ds h) (parents_known ds ds (declared_good ds h))

-- the same with one more declaration, whose parent stands in its kept form
pub next_filled : (ds : List Decl) (d : Decl) → Declared ds → all_fit [] (ds ++ d ∷ []) ≡ true → Settled (table_with ds d) d.parent d.parent → Known (length ds) d.parent
    → (k m : ℕ) (ys : List Ty) → up_in (ds ++ d ∷ []) k m ≡ Some ys → AllFilled (table_of (ds ++ d ∷ [])) ys
next_filled ds d h f s p k m ys u =
    let n = table_of (ds ++ d ∷ []) in
    let good = next_good ds d (declared_fit ds h) (declared_good ds h) s p in
    let parents = parents_map (Good (ds ++ d ∷ [])) (Filled n) (λ t g. g.0) (ds ++ d ∷ []) good in
    each_all n ys (up_good (Filled n) (filled_kept n) (ds ++ d ∷ []) f parents k m ys u)
