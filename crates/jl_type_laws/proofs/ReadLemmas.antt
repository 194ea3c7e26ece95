-- A property that goes by the parts is carried through the reading of each written type.
use Rattle.std.proofs.Common.{sym, subst, ℕ, Bool, true, false, List, [], ◌∷◌, map, Option, None, Some}
use Rattle.jl_model.specs.declared.ty.Ty.{Ty}
use Rattle.jl_model.specs.declared.ty.Ty.TheViews as V
use Rattle.jl_model.specs.declared.ty.Ty.TheVariants as W
use Rattle.jl_model.specs.declared.ty.Bound.{Bound}
use Rattle.jl_model.specs.declared.ty.Decl.{Decl}
use Rattle.jl_typeread.specs.declared.tree.TypeText.{TypeText}
use Rattle.jl_typeread.specs.declared.tree.ArgText.{ArgText}
use Rattle.jl_typeread.specs.declared.tree.VarText.{VarText}
use Rattle.jl_typeread.specs.declared.tree.ArgText.TheOpen as F
use Rattle.jl_typeread.specs.declared.tree.ArgText.TheFolds.{fold-roll-TypeText, fold-roll-ArgText, fold-roll-VarText}
use Rattle.jl_written.specs.declared.reading.Reading.{Reading}
use Rattle.jl_written.specs.declared.reading.TypeVar.{TypeVar}
use Rattle.jl_written.specs.Reads.{TypeReads, ArgReads, VarReads, seen, in_bound, type_step, arg_step, var_step, type_reads, arg_reads, var_reads, read_arguments}
use Rattle.jl_written.specs.Signatures.{option_reads, all_read, all_bound, parts_read}
use Rattle.jl_type_laws.specs.Carried.{AllHave, BoundHas, BoundsHave, Visible, IsCarried}
use Rattle.jl_type_laws.proofs.TextInduction.{EachText, TextCases, by_type, by_arg, by_var}
use Rattle.jl_type_laws.proofs.StepLemmas.{Steps, TypeLaw, ArgLaw, VarLaw, still, then_, pair, before, behind_, bound_have, fresh_variable_steps, within_law, name_law, read_applied_law, read_arguments_steps, read_members_steps, bind_all_steps}

pub each_map : {A B : Type 0} (P : B → Type 0) (f : A → B) (xs : List A) → EachText (λ x. P (f x)) xs → EachText P (map f xs)
each_map P f [] h = tt
each_map P f (x ∷ xs) h = (h.0, each_map P f xs h.1)

pub each_all : {A : Type 0} (P : A → Type 0) → ((x : A) → P x) → (xs : List A) → EachText P xs
each_all P h [] = tt
each_all P h (x ∷ xs) = (h x, each_all P h xs)

module _ (ds : List Decl) (P : Ty → Type 0) (N : ℕ → Type 0) (S : ℕ → Bool → Type 0) (Ok : Reading → Type 0) (c : IsCarried ds P N S Ok) where
  abbrev TypeLawOf : TypeReads → Type 0
  TypeLawOf = TypeLaw ds P N S Ok c

  abbrev ArgLawOf : ArgReads → Type 0
  ArgLawOf = ArgLaw ds P N S Ok c

  abbrev VarLawOf : VarReads → Type 0
  VarLawOf = VarLaw ds P N S Ok c

  exact_law : (t : TypeReads) → TypeLawOf t → ArgLawOf (arg_step ds (F.Exact t))
  exact_law t l s outer inner r = l s inner r

  below_law : (at : ℕ) (t : TypeReads) → TypeLawOf t → ArgLawOf (arg_step ds (F.ArgText::Below at t))
  below_law at t l s outer inner r =
      let b = t (in_bound s) true r in
      let bound : Bound = record { low = V.Union []; high = b.ty } in
      then_ ds P N S Ok c (behind_ ds P N S Ok c (λ g. let h : BoundHas P bound = (c.union [] tt, g) in h) (before ds P N S Ok c (bound_have S s) (l (in_bound s) true r))) (fresh_variable_steps ds P N S Ok c bound outer b.after)

  above_law : (at : ℕ) (t : TypeReads) → TypeLawOf t → ArgLawOf (arg_step ds (F.ArgText::Above at t))
  above_law at t l s outer inner r =
      let b = t (in_bound s) true r in
      let bound : Bound = record { low = b.ty; high = W.Any } in
      then_ ds P N S Ok c (behind_ ds P N S Ok c (λ g. let h : BoundHas P bound = (g, c.any) in h) (before ds P N S Ok c (bound_have S s) (l (in_bound s) true r))) (fresh_variable_steps ds P N S Ok c bound outer b.after)

  cases : TextCases (λ t. ArgLawOf (arg_reads ds t)) (λ t. TypeLawOf (type_reads ds t)) (λ t. VarLawOf (var_reads ds t))
  cases = record {
    name = λ at n. subst TypeLawOf (sym (fold-roll-TypeText ArgReads TypeReads VarReads (arg_step ds) (type_step ds) (var_step ds) (F.Name at n))) (name_law ds P N S Ok c at n);
    applied = λ at n xs l. subst TypeLawOf (sym (fold-roll-TypeText ArgReads TypeReads VarReads (arg_step ds) (type_step ds) (var_step ds) (F.Applied at n xs)))
        (read_applied_law ds P N S Ok c at n (map (arg_reads ds) xs) (each_map ArgLawOf (arg_reads ds) xs l));
    paren = λ at t vs k l. subst TypeLawOf (sym (fold-roll-TypeText ArgReads TypeReads VarReads (arg_step ds) (type_step ds) (var_step ds) (F.Paren at t vs)))
        (within_law ds P N S Ok c (type_reads ds t) k (map (var_reads ds) vs) (each_map VarLawOf (var_reads ds) vs l));
    exact = λ t l. subst ArgLawOf (sym (fold-roll-ArgText ArgReads TypeReads VarReads (arg_step ds) (type_step ds) (var_step ds) (F.Exact t))) (exact_law (type_reads ds t) l);
    below_ = λ at t l. subst ArgLawOf (sym (fold-roll-ArgText ArgReads TypeReads VarReads (arg_step ds) (type_step ds) (var_step ds) (F.ArgText::Below at t))) (below_law at (type_reads ds t) l);
    above = λ at t l. subst ArgLawOf (sym (fold-roll-ArgText ArgReads TypeReads VarReads (arg_step ds) (type_step ds) (var_step ds) (F.ArgText::Above at t))) (above_law at (type_reads ds t) l);
    free = λ at n. subst VarLawOf (sym (fold-roll-VarText ArgReads TypeReads VarReads (arg_step ds) (type_step ds) (var_step ds) (F.Free at n)))
        (λ s r. still ds P N S Ok c r (λ g. (c.union [] tt, c.any)));
    upper = λ at n t l. subst VarLawOf (sym (fold-roll-VarText ArgReads TypeReads VarReads (arg_step ds) (type_step ds) (var_step ds) (F.VarText::Below at n t)))
        (λ s r. behind_ ds P N S Ok c (λ g. (c.union [] tt, g)) (l s true r));
    lower = λ at n t l. subst VarLawOf (sym (fold-roll-VarText ArgReads TypeReads VarReads (arg_step ds) (type_step ds) (var_step ds) (F.VarText::Above at n t)))
        (λ s r. behind_ ds P N S Ok c (λ g. (g, c.any)) (l s true r));
    between = λ t at n u l k. subst VarLawOf (sym (fold-roll-VarText ArgReads TypeReads VarReads (arg_step ds) (type_step ds) (var_step ds) (F.Between t at n u)))
        (λ s r. pair ds P N S Ok c (l s true r) (k s true (type_reads ds t s true r).after));
  }

  pub type_law : (t : TypeText) → TypeLawOf (type_reads ds t)
  type_law = by_type _ _ _ cases

  pub arg_law : (x : ArgText) → ArgLawOf (arg_reads ds x)
  arg_law = by_arg _ _ _ cases

  pub var_law : (v : VarText) → VarLawOf (var_reads ds v)
  var_law = by_var _ _ _ cases

  -- ---- the readings of declarations, signatures and bodies

  pub option_law : (t : Option TypeText) (vars : List TypeVar) (r : Reading) → Steps ds P N S Ok c r (option_reads ds t vars r).after (Visible S vars) (P (option_reads ds t vars r).ty)
  option_law None vars r = still ds P N S Ok c r (λ g. c.any)
  option_law (Some t) vars r = before ds P N S Ok c (λ g. (g, tt)) (type_law t (seen vars [] false) false r)

  pub all_law : (ts : List (Option TypeText)) (vars : List TypeVar) (r : Reading) → Steps ds P N S Ok c r (all_read ds ts vars r).after (Visible S vars) (AllHave P (all_read ds ts vars r).tys)
  all_law [] vars r = still ds P N S Ok c r (λ g. tt)
  all_law (t ∷ ts) vars r = pair ds P N S Ok c (option_law t vars r) (all_law ts vars (option_reads ds t vars r).after)

  pub bound_law : (vs : List VarText) (r : Reading) → Steps ds P N S Ok c r (all_bound ds vs r).after (Unit {0}) (Visible S (all_bound ds vs r).vars)
  bound_law vs r =
      before ds P N S Ok c (λ g. ((tt, tt), tt))
      (bind_all_steps ds P N S Ok c (map (var_reads ds) vs) (each_map VarLawOf (var_reads ds) vs (each_all (λ v. VarLawOf (var_reads ds v)) var_law vs)) (seen [] [] true) [] r)

  -- the parts of a tuple that is read as a signature
  pub parts_law : (xs : List ArgText) (vars : List TypeVar) (r : Reading) → Steps ds P N S Ok c r (parts_read ds xs vars r).after (Visible S vars) (AllHave P (parts_read ds xs vars r).tys)
  parts_law xs vars r =
      before ds P N S Ok c (λ g. (g, tt))
      (read_members_steps ds P N S Ok c (map (arg_reads ds) xs) (each_map ArgLawOf (arg_reads ds) xs (each_all (λ x. ArgLawOf (arg_reads ds x)) arg_law xs)) (seen vars [] false) false r)

  pub read_arguments_law : (bs : List Bound) → BoundsHave P bs → (xs : List ArgText) (vars : List TypeVar) (inside : Bool) (r : Reading)
      → Steps ds P N S Ok c r (read_arguments bs (map (arg_reads ds) xs) (seen vars [] false) inside r).after (Visible S vars) (AllHave P (read_arguments bs (map (arg_reads ds) xs) (seen vars [] false) inside r).tys)
  read_arguments_law bs h xs vars inside r =
      before ds P N S Ok c (λ g. (g, tt))
      (read_arguments_steps ds P N S Ok c bs h (map (arg_reads ds) xs) (each_map ArgLawOf (arg_reads ds) xs (each_all (λ x. ArgLawOf (arg_reads ds x)) arg_law xs)) (seen vars [] false) inside r)

  -- a type that is no part of another one
  pub alone_law : (t : TypeText) (vars : List TypeVar) (r : Reading) → Steps ds P N S Ok c r (type_reads ds t (seen vars [] false) false r).after (Visible S vars) (P (type_reads ds t (seen vars [] false) false r).ty)
  alone_law t vars r = before ds P N S Ok c (λ g. (g, tt)) (type_law t (seen vars [] false) false r)
