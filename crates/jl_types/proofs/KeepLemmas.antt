-- What is kept of a parent or a field, in the table with the declaration.
use Rattle.std.proofs.Common.{nat_eq, ◌≡◌, ◌∙◌, sym, ap, subst, refl, ℕ, suc, ◌+◌, ◌<◌, ◌≤◌, arith, Bool, true, false, List, [], ◌∷◌, length, ◌⊎◌, inl, inr}
use Rattle.std.specs.List.{list_all}
use Rattle.jl_model.specs.declared.ty.Ty.{Ty}
use Rattle.jl_model.specs.declared.ty.Ty.TheOpen.{Ty-F, Any, Union, Tuple, Nominal, Var}
use Rattle.jl_model.specs.declared.ty.Ty.TheViews.{out-Ty, outs-Any, outs-Union, outs-Tuple, outs-Nominal, outs-Var}
use Rattle.jl_model.specs.declared.ty.Ty.TheViews as V
use Rattle.jl_model.specs.declared.ty.Ty.TheVariants as W
use Rattle.jl_model.specs.declared.ty.Decl.{Decl}
use Rattle.jl_model.specs.Ancestors.{table_of}
use Rattle.jl_model.specs.Signature.{Both, both_end, both_more}
use Rattle.jl_model.specs.Subtype.{Table, opaque, Below}
use Rattle.jl_model.specs.Counts.{nodes, IsWithinLimits}
use Rattle.jl_model.specs.Normal.{AllNormal, IsNormalForm, nominal as normal_nominal, none as no_normal, more as more_normal}
use Rattle.jl_model.specs.Valid.{is_known, is_closed}
use Rattle.jl_model.specs.Kept.{Argument, AllArguments, closed, variable, nominal, arguments_end, arguments_more, Settled, AllSettled, plain, variable as lone, union, tuple, nominal as named_type, settled_end, settled_more}
use Rattle.jl_model.specs.Refusals.{Declared, table_with, is_free_of, is_placed}
use Rattle.jl_model.proofs.FormLemmas.{is_any, is_union, is_tuple, is_nominal, is_var, alts-nominal, vars-var}
use Rattle.jl_model.proofs.PutLemmas.{and_l, and_r, both_true}
use Rattle.jl_model.proofs.TypeInduction.{Each}
use Rattle.jl_model.proofs.AncestorLemmas.{Lawful}
use Rattle.jl_model.proofs.SelfLemmas.{own_arguments}
use Rattle.jl_model.proofs.HeightLemmas.{Ways, by_nominal}
use Rattle.jl_model.proofs.BelowLemmas.{part_below}
use Rattle.jl_model.proofs.NormalLemmas.{normal_same}
use Rattle.jl_model.proofs.TransLemmas.{equal_trans}
use Rattle.jl_model.proofs.KnownLemmas.{Known, Agree, below_move, normal_move, union_known, tuple_known, nominal_known}
use Rattle.jl_model.proofs.FillLemmas.{declared_agree}
use Rattle.jl_model.proofs.DeclaredLemmas.{declared_lawful, placed-union, placed-tuple, free-union, free-tuple}
use Rattle.jl_model.proofs.CountLemmas.{nodes_all, nodes-union, nodes-tuple, nodes-nominal}
use Rattle.jl_types.specs.Form.{IsOfParts, Settles, AllSettle, any as settles_any, var as settles_var, union as settles_union, tuple as settles_tuple, nominal as settles_nominal, none, more, Keeps, AllKeep, free, variable as keeps_variable, applied, keep_end, keep_more}
use Rattle.jl_types.proofs.ReduceLemmas.{le_or}
use Rattle.jl_types.proofs.PartsLemmas.{known_parts, closed_parts}
use Rattle.jl_types.proofs.PlaceLemmas.{free-any, free_is_closed, free_is_known}
use Rattle.jl_types.proofs.ExistLemmas.{Full, exists}

-- the second is the first where this is small, and large where this is
pub record Like (u v : Ty) : Type 0 where
  pub same : nodes u ≤ 1024 → u ≡ v
  pub large : 1024 < nodes u → 1024 < nodes v

pub like_self : (u : Ty) → Like u u
like_self u = record { same = λ l. refl; large = λ l. l }

like_all : (us vs : List Ty) → Both Like us vs → (us ≡ vs) ⊎ ((1024 < nodes_all us) × (1024 < nodes_all vs))
like_all us vs both_end = inl refl
like_all us vs (both_more u v xs ys l b) = elim (le_or (nodes u) 1024) [
  | inr g ↦ (let h = l.large g in inr (omega arith, omega arith))
  | inl s ↦ elim (like_all xs ys b) [
    | inl e ↦ (let i = l.same s in inl (cc))
    | inr h ↦ inr (omega (arith, h.0), omega (arith, h.1))
  ]
]

-- types of such parts
like_of : (C : List Ty → Ty) → ((ts : List Ty) → nodes (C ts) ≡ 1 + nodes_all ts) → (us vs : List Ty) → Both Like us vs → Like (C us) (C vs)
like_of C size us vs b = elim (like_all us vs b) [
  | inl e ↦ subst (λ z. Like (C us) (C z)) e (like_self (C us))
  | inr h ↦ record { same = λ s. absurd (omega (arith, size us, h.0)); large = λ l. omega (arith, size vs, h.1) }
]

like_moved : (s e u v : Ty) → s ≡ u → e ≡ v → Like u v → Like s e
like_moved s e u v i j l = subst (λ z. Like z e) (sym i) (subst (Like u) (sym j) l)

-- CLOSED NOMINAL TYPES
pub var_open : (v : ℕ) → is_closed (W.Var v) ≡ false
var_open v = let e : nat_eq (length (v ∷ [])) 0 ≡ false = grind arith in ap (λ z. nat_eq (length z) 0) (vars-var v) ∙ e

module _ (n : Table) where
  pub argument_form : (t u : Ty) → Argument n t u → is_closed t ≡ true → IsNormalForm n t u
  argument_form t u (closed a b h f) c = f
  argument_form t u (variable a v e) c = let f : false ≡ true = sym (ap is_closed (is_var t v e) ∙ var_open v) ∙ c in cc
  argument_form t u (nominal a b k ts us h e f q) c = let f : false ≡ true = sym h ∙ c in cc

  arguments_form : (ts us : List Ty) → AllArguments n ts us → list_all is_closed ts ≡ true → Both (IsNormalForm n) ts us
  arguments_form ts us arguments_end c = both_end
  arguments_form ts us (arguments_more t u vs ws p q) c =
      both_more t u vs ws (argument_form t u p (and_l (is_closed t) (list_all is_closed vs) c)) (arguments_form vs ws q (and_r (is_closed t) (list_all is_closed vs) c))

  forms_normal : (ts us : List Ty) → Both (IsNormalForm n) ts us → AllNormal n us
  forms_normal ts us both_end = no_normal
  forms_normal ts us (both_more t u vs ws p b) = more_normal u ws p.normal (forms_normal vs ws b)

  forms_there : (ts us : List Ty) → Both (IsNormalForm n) ts us → Both (Ways (Below n opaque)) ts us
  forms_there ts us both_end = both_end
  forms_there ts us (both_more t u vs ws p b) = both_more t u vs ws p.equal (forms_there vs ws b)

  forms_back : (ts us : List Ty) → Both (IsNormalForm n) ts us → Both (Ways (Below n opaque)) us ts
  forms_back ts us both_end = both_end
  forms_back ts us (both_more t u vs ws p b) = both_more u t ws vs (p.equal.1, p.equal.0) (forms_back vs ws b)

  pub nominal_form : (k : ℕ) (ts us : List Ty) → Both (IsNormalForm n) ts us → IsNormalForm n (V.Nominal k ts) (V.Nominal k us)
  nominal_form k ts us b = record {
    normal = normal_nominal (V.Nominal k us) k us (outs-Nominal k us) (forms_normal ts us b);
    equal = (
      part_below n (V.Nominal k ts) (V.Nominal k us) (alts-nominal k ts) (alts-nominal k us)
          (by_nominal (V.Nominal k ts) (V.Nominal k us) k k ts ts us (outs-Nominal k ts) (outs-Nominal k us) (own_arguments n k ts) (forms_there ts us b)),
      part_below n (V.Nominal k us) (V.Nominal k ts) (alts-nominal k us) (alts-nominal k ts)
          (by_nominal (V.Nominal k us) (V.Nominal k ts) k k us us ts (outs-Nominal k us) (outs-Nominal k ts) (own_arguments n k us) (forms_back ts us b)),
    );
  }

bool_or : (b : Bool) → (b ≡ true) ⊎ (b ≡ false)
bool_or true = inl refl
bool_or false = inr refl

-- KEPT
module _ (ds : List Decl) (declared : Declared ds) (d : Decl) where
  abbrev n : Table
  n = table_of ds

  abbrev o : Table
  o = table_with ds d

  abbrev m : ℕ
  m = length ds

  law : Lawful n
  law = declared_lawful ds declared

  agree : Agree n o m
  agree = declared_agree ds d declared

  pub full_form : (t v : Ty) → Known m t → Full ds t v → IsNormalForm o t v
  full_form t v k f =
      let g : Known m v = f.kept (is_known m) (known_parts m) k in
      record {
        normal = normal_move n o m agree v g f.form.normal;
        equal = (below_move n o m agree t v k g f.form.equal.0, below_move n o m agree v t g k f.form.equal.1);
      }

  argument_of : (t : Ty) (k : ℕ) (ts us : List Ty) → out-Ty t ≡ Nominal k ts → AllArguments o ts us → Argument o t (V.Nominal k us)
  argument_of t k ts us e q = elim (bool_or (is_closed t)) [
    | inl c ↦
        let i = is_nominal t k ts e in
        let f = nominal_form o k ts us (arguments_form o ts us q (closed_parts.arguments k ts (sym (ap is_closed i) ∙ c))) in
        closed t (V.Nominal k us) c (subst (λ z. IsNormalForm o z (V.Nominal k us)) (sym i) f)
    | inr c ↦ nominal t (V.Nominal k us) k ts us c e (outs-Nominal k us) q
  ]

  mutual
    argument_kept : (t u : Ty) → Keeps ds t u → Known (m + 1) t → (v : Ty) × Argument o t v × Like u v
    argument_kept t u (free a b h f) k =
        let e = exists ds declared t in (
          e.0,
          closed t e.0 (free_is_closed m t h) (full_form t e.0 (free_is_known m t h k) e.1),
          record {
            same = λ s. normal_same n law u (f.normal s) e.0 e.1.form.normal (equal_trans n law u t e.0 (f.equal.1, f.equal.0) e.1.form.equal);
            large = λ l. f.large l e.0 e.1.form.normal e.1.form.equal;
          },
        )
    argument_kept t u (keeps_variable a v e) k = (t, variable t v e, like_self t)
    argument_kept t u (applied a b j ts us e f q) k =
        let r = arguments_kept ts us q (nominal_known (m + 1) j ts (sym (ap (is_known (m + 1)) (is_nominal t j ts e)) ∙ k)).1 in
        (V.Nominal j r.0, argument_of t j ts r.0 e r.1, like_moved u (V.Nominal j r.0) (V.Nominal j us) (V.Nominal j r.0) (is_nominal u j us f) refl (like_of (λ z. V.Nominal j z) (nodes-nominal j) us r.0 r.2))

    arguments_kept : (ts us : List Ty) → AllKeep ds ts us → Each (Known (m + 1)) ts → (vs : List Ty) × AllArguments o ts vs × Both Like us vs
    arguments_kept ts us keep_end k = ([], arguments_end, both_end)
    arguments_kept ts us (keep_more t u vs ws p q) k =
        let a = argument_kept t u p k.0 in
        let r = arguments_kept vs ws q k.1 in
        (a.0 ∷ r.0, arguments_more t a.0 vs r.0 a.1 r.1, both_more u a.0 ws r.0 a.2 r.2)

  all_keep : (ts us : List Ty) → Both (Keeps ds) ts us → AllKeep ds ts us
  all_keep ts us both_end = keep_end
  all_keep ts us (both_more t u vs ws p b) = keep_more t u vs ws p (all_keep vs ws b)

  mutual
    settled_kept : (t s : Ty) → Settles (Keeps ds) t s → Known (m + 1) t → (e : Ty) × Settled o t e × Like s e
    settled_kept t s (settles_any a e) k = (t, plain t e, like_self t)
    settled_kept t s (settles_var a v e) k = (t, lone t v e, like_self t)
    settled_kept t s (settles_union a b ts us e f q) k =
        let r = all_kept ts us q (union_known (m + 1) ts (sym (ap (is_known (m + 1)) (is_union t ts e)) ∙ k)) in
        (V.Union r.0, union t (V.Union r.0) ts r.0 e (outs-Union r.0) r.1, like_moved s (V.Union r.0) (V.Union us) (V.Union r.0) (is_union s us f) refl (like_of (λ z. V.Union z) nodes-union us r.0 r.2))
    settled_kept t s (settles_tuple a b ts us e f q) k =
        let r = all_kept ts us q (tuple_known (m + 1) ts (sym (ap (is_known (m + 1)) (is_tuple t ts e)) ∙ k)) in
        (V.Tuple r.0, tuple t (V.Tuple r.0) ts r.0 e (outs-Tuple r.0) r.1, like_moved s (V.Tuple r.0) (V.Tuple us) (V.Tuple r.0) (is_tuple s us f) refl (like_of (λ z. V.Tuple z) nodes-tuple us r.0 r.2))
    settled_kept t s (settles_nominal a b j ts us e f q) k =
        let r = arguments_kept ts us (all_keep ts us q) (nominal_known (m + 1) j ts (sym (ap (is_known (m + 1)) (is_nominal t j ts e)) ∙ k)).1 in
        (V.Nominal j r.0, named_type t (V.Nominal j r.0) j ts r.0 e (outs-Nominal j r.0) r.1, like_moved s (V.Nominal j r.0) (V.Nominal j us) (V.Nominal j r.0) (is_nominal s j us f) refl (like_of (λ z. V.Nominal j z) (nodes-nominal j) us r.0 r.2))

    all_kept : (ts us : List Ty) → AllSettle (Keeps ds) ts us → Each (Known (m + 1)) ts → (vs : List Ty) × AllSettled o ts vs × Both Like us vs
    all_kept ts us none k = ([], settled_end, both_end)
    all_kept ts us (more t u vs ws p q) k =
        let a = settled_kept t u p k.0 in
        let r = all_kept vs ws q k.1 in
        (a.0 ∷ r.0, settled_more t a.0 vs r.0 a.1 r.1, both_more u a.0 ws r.0 a.2 r.2)

  -- what is small is what is kept
  pub kept_small : (t u : Ty) → Settles (Keeps ds) t u → is_known (m + 1) t ≡ true → nodes u ≤ 1024 → Settled o t u
  kept_small t u h k l = let r = settled_kept t u h k in subst (Settled o t) (sym (r.2.same l)) r.1

  -- and where a limit is passed, what is kept passes it
  pub kept_large : (t u : Ty) → Settles (Keeps ds) t u → is_known (m + 1) t ≡ true → (IsWithinLimits u → ⊥) → (e : Ty) × Settled o t e × (IsWithinLimits e → ⊥)
  kept_large t u h k l = elim (le_or (nodes u) 1024) [
    | inl s ↦ (u, kept_small t u h k s, l)
    | inr g ↦ (let r = settled_kept t u h k in (r.0, r.1, (λ w. let i = r.2.large g in let j = w.nodes in absurd (omega arith))))
  ]

-- TESTS BY THE PARTS
module _ (ds : List Decl) (p : Ty → Bool) (h : IsOfParts p) where
  mutual
    pub keeps_pass : (t u : Ty) → Keeps ds t u → p t ≡ true → p u ≡ true
    keeps_pass t u (free a b g f) k = f.kept p h k
    keeps_pass t u (keeps_variable a v e) k = k
    keeps_pass t u (applied a b j ts us e f q) k =
        let g : p (V.Nominal j ts) ≡ true = sym (ap p (is_nominal t j ts e)) ∙ k in
        ap p (is_nominal u j us f) ∙ h.others j ts us g (keep_long ts us q) (all_keep_pass ts us q (h.arguments j ts g))

    all_keep_pass : (ts us : List Ty) → AllKeep ds ts us → list_all p ts ≡ true → list_all p us ≡ true
    all_keep_pass ts us keep_end k = refl
    all_keep_pass ts us (keep_more t u vs ws q r) k =
        both_true (p u) (list_all p ws) (keeps_pass t u q (and_l (p t) (list_all p vs) k)) (all_keep_pass vs ws r (and_r (p t) (list_all p vs) k))

    keep_long : (ts us : List Ty) → AllKeep ds ts us → length us ≡ length ts
    keep_long ts us keep_end = refl
    keep_long ts us (keep_more t u vs ws q r) = ap suc (keep_long vs ws r)

-- THE CODE
keep_list : (ds : List Decl) (ts us : List Ty) → Both (Keeps ds) ts us → AllKeep ds ts us
keep_list ds ts us both_end = keep_end
keep_list ds ts us (both_more t u vs ws p b) = keep_more t u vs ws p (keep_list ds vs ws b)

pub keep_nominal : (ds : List Decl) (t : Ty) (k : ℕ) (ts vs us : List Ty) → t ≡ V.Nominal k ts → vs ≡ ts → Both (Keeps ds) vs us → Keeps ds t (V.Nominal k us)
keep_nominal ds t k ts vs us e f b = applied t (V.Nominal k us) k ts us (ap out-Ty e ∙ outs-Nominal k ts) (outs-Nominal k us) (keep_list ds ts us (subst (λ z. Both (Keeps ds) z us) f b))

keep_by : (ds : List Decl) (t : Ty) (x : Ty-F Ty) → out-Ty t ≡ x → is_placed (length ds) t ≡ true → is_free_of (length ds) t ≡ false → ((k : ℕ) (ts : List Ty) → t ≡ V.Nominal k ts → ⊥) → Keeps ds t t
keep_by ds t Any e p f h = let g : true ≡ false = sym (ap (is_free_of (length ds)) (is_any t e) ∙ free-any (length ds)) ∙ f in cc
keep_by ds t (Union ts) e p f h =
    let i = is_union t ts e in
    let m = length ds in
    let g : true ≡ false = sym p ∙ ap (is_placed m) i ∙ placed-union m ts ∙ sym (free-union m ts) ∙ sym (ap (is_free_of m) i) ∙ f in cc
keep_by ds t (Tuple ts) e p f h =
    let i = is_tuple t ts e in
    let m = length ds in
    let g : true ≡ false = sym p ∙ ap (is_placed m) i ∙ placed-tuple m ts ∙ sym (free-tuple m ts) ∙ sym (ap (is_free_of m) i) ∙ f in cc
keep_by ds t (Nominal k ts) e p f h = absurd (h k ts (is_nominal t k ts e))
keep_by ds t (Var v) e p f h = keeps_variable t v e

pub keep_other : (ds : List Decl) (t : Ty) → is_placed (length ds) t ≡ true → is_free_of (length ds) t ≡ false → ((k : ℕ) (ts : List Ty) → t ≡ V.Nominal k ts → ⊥) → Keeps ds t t
keep_other ds t p f h = keep_by ds t (out-Ty t) refl p f h
