-- A function is asked with some types.
use Rattle.std.proofs.Common.{◌≡◌, ◌∙◌, sym, ap, subst, refl, ℕ, zero, suc, ◌+◌, ◌<◌, ◌≤◌, ◌⊎◌, inl, inr, arith, true, cond, List, [], ◌∷◌, ◌++◌, append_assoc, append-nil, length, take, get_or, slice_get, Some}
use Rattle.std.specs.List.{All, Contains, filter}
use Rattle.std.proofs.lemmas.List.{take_more, take_all, map_push}
use Rattle.std.proofs.lemmas.List.Elements.{filter_more}
use Rattle.std.proofs.lemmas.Option.{same_Some, none-some}
use Rattle.jl_program.specs.declared.tree.Site.{Site}
use Rattle.jl_model.specs.declared.ty.Ty.{Ty}
use Rattle.jl_program.specs.declared.choice.Choice.{Choice}
use Rattle.jl_program.specs.declared.tree.Program.{Program}
use Rattle.jl_program.specs.Valid.{IsValid}
use Rattle.jl_calculus.specs.declared.history.Change.{Change}
use Rattle.jl_calculus.specs.declared.history.Def.{Def}
use Rattle.jl_calculus.specs.declared.history.Del.{Del}
use Rattle.jl_calculus.specs.declared.history.Event.{Event}
use Rattle.jl_calculus.specs.Definitions.{defs_in, defs_from, dels_from}
use Rattle.jl_calculus.specs.World.{changes, world_of}
use Rattle.jl_calculus.proofs.GrowthLemmas.{changes_length}
use Rattle.jl_choosing.specs.ByFunction.{AreLatest, AreLatestDels}
use Rattle.jl_choosing.specs.Picked.{Picked}
use Rattle.jl_choosing.proofs.LeftLemmas.{chosen_left}
use Rattle.jl_choosing.proofs.PickLemmas.{picked_apply, picked_latest}
use Rattle.jl_subsig.specs.Standing.{HaveLatest, ChoosesLeft}
use Rattle.jl_ambig.specs.declared.noting.Pair.{Pair}
use Rattle.jl_ambig.specs.Asked.{has_components, IsKnown, AreAsked, IsNotedBy, Probe, probes_of, probes_up_to, Names, AreBelow, AreFound}
use Rattle.jl_ambig.proofs.FoundLemmas.{choice_found, found_silent}
use Rattle.jl_ambig.proofs.Members.{of_map}
use Rattle.jl_ambig.proofs.TwoLemmas.{latest_have, few_silent}

-- ---- the choice

-- what is known of those that were picked
pub known_choice : (P : Program) (dels : List Del) (ts : List Ty) (defs those picked : List Def) (c : Choice) → Picked P ts defs those → picked ≡ those → IsKnown P dels picked c
    → (all : List Def) → HaveLatest P ts all defs → ChoosesLeft P dels ts all c
known_choice P dels ts defs those picked c p e k all h =
    let known : IsKnown P dels those c = subst (λ ds. IsKnown P dels ds c) e k in
    known.right ts (picked_apply P ts defs those p) all (picked_latest P ts all defs those h p)

pub asked_found : (P : Program) (es : List Event) (f : ℕ) (ts us : List Ty) (defs : List Def) (dels : List Del) (done : List Probe) (old new : List Pair) (c : Choice) → us ≡ ts
    → ((all : List Def) → HaveLatest P us all defs → ChoosesLeft P dels us all c) → IsNotedBy c ts old new → AreAsked P es f (length ts) defs dels → AreFound P es done old
    → AreFound P es (done ++ record { function = f; types = ts } ∷ []) new
asked_found P es f ts us defs dels done old new c e choice noted asked h =
    let chosen : ChoosesLeft P dels ts (defs_in P es f (world_of es)) c = subst
    (λ xs. (all : List Def) → HaveLatest P xs all defs → ChoosesLeft P dels xs all c) e choice (defs_in P es f (world_of es)) (asked.latest ts refl) in
    choice_found P es done (record { function = f; types = ts }) c (chosen_left P es f (world_of es) dels asked.deletions ts c chosen) old new noted h

-- ---- one list after another

probes_next : (f : ℕ) (lists : List (List Ty)) (i : ℕ) (ts : List Ty) → i < length lists → ts ≡ get_or lists i ts → probes_of f (take (i + 1) lists) ≡ probes_of f (take i lists) ++ record { function = f; types = ts } ∷ []
probes_next f lists i ts l e = ap (probes_of f) (take_more lists i ts l ∙ ap (λ z. take i lists ++ z ∷ []) (sym e)) ∙ map_push (λ (us : List Ty). record { function = f; types = us }) (take i lists) ts

module _ (P : Program) (es : List Event) (f n : ℕ) (lists : List (List Ty)) (defs : List Def) (dels : List Del) (done : List Probe) where
  pub next_found : (i : ℕ) (ts : List Ty) → i < length lists → ts ≡ get_or lists i ts → All (λ us. length us ≡ n) lists → AreAsked P es f n defs dels → (old new : List Pair)
      → (AreAsked P es f (length ts) defs dels → AreFound P es (done ++ probes_of f (take i lists)) old
      → AreFound P es ((done ++ probes_of f (take i lists)) ++ record { function = f; types = ts } ∷ []) new) → AreFound P es (done ++ probes_of f (take i lists)) old
      → AreFound P es (done ++ probes_of f (take (i + 1) lists)) new
  next_found i ts l e long asked old new step h =
      let same : length ts ≡ n = ap length e ∙ long i ts l in
      subst (λ z. AreFound P es z new)
      (append_assoc done (probes_of f (take i lists)) (record { function = f; types = ts } ∷ []) ∙ ap (λ z. done ++ z) (sym (probes_next f lists i ts l e)))
      (step (subst (λ m. AreAsked P es f m defs dels) (sym same) asked) h)

  pub last_found : (i : ℕ) → length lists ≤ i → (ps : List Pair) → AreFound P es (done ++ probes_of f (take i lists)) ps → AreFound P es (done ++ probes_of f lists) ps
  last_found i l ps h = subst (λ z. AreFound P es (done ++ probes_of f z) ps) (take_all i lists l) h

pub first_found : (P : Program) (es : List Event) (done : List Probe) (ps : List Pair) → AreFound P es done ps → AreFound P es (done ++ []) ps
first_found P es done ps h = subst (λ z. AreFound P es z ps) (sym (append-nil done)) h

-- ---- those with so many components

pub picked_more : (P : Program) (n : ℕ) (defs : List Def) (i : ℕ) (e : Def) (those new : List Def) → i < length defs → has_components P n (get_or defs i e) ≡ true → new ≡ those ++ get_or defs i e ∷ []
    → those ≡ filter (has_components P n) (take i defs) → new ≡ filter (has_components P n) (take (i + 1) defs)
picked_more P n defs i e those new l yes_ g h =
    g ∙ ap (λ ds. ds ++ get_or defs i e ∷ []) h ∙ ap (λ b. filter (has_components P n) (take i defs) ++ cond b (get_or defs i e ∷ []) []) (sym yes_) ∙ sym (filter_more (has_components P n) defs i e l)

-- ---- a function

module _ (P : Program) (es : List Event) (f n w : ℕ) (cs : List Change) (same : changes es ≡ cs) (at : w ≡ length cs) (latest : List Def) (h : AreLatest (defs_from P f 1 (take w cs)) latest) where
  newest : w ≡ world_of es
  newest = at ∙ ap length (sym same) ∙ changes_length es

  here_latest : AreLatest (defs_in P es f (world_of es)) latest
  here_latest = subst (λ v. AreLatest (defs_from P f 1 (take v (changes es))) latest) newest (subst (λ xs. AreLatest (defs_from P f 1 (take w xs)) latest) (sym same) h)

  pub are_asked : (dels : List Del) → AreLatestDels (dels_from P f 1 (take w cs)) dels → AreAsked P es f n (filter (has_components P n) latest) dels
  are_asked dels g = record {
    latest = λ ts e. latest_have P n (defs_in P es f (world_of es)) latest here_latest ts e;
    deletions = subst (λ v. AreLatestDels (dels_from P f 1 (take v (changes es))) dels) newest (subst (λ xs. AreLatestDels (dels_from P f 1 (take w xs)) dels) (sym same) g);
  }

  -- with one definition of so many components at most nothing is named
  pub few_found : IsValid P → (lists : List (List Ty)) → All (λ ts. length ts ≡ n) lists → length (filter (has_components P n) latest) < 2 → (done : List Probe) (ps : List Pair) → AreFound P es done ps
      → AreFound P es (done ++ probes_of f lists) ps
  few_found v lists long few done ps k = found_silent P es done (probes_of f lists) none_ ps k
    where
      none_ : (q : Probe) → Contains (probes_of f lists) q → (a b : ℕ) → Names P es q a b → ⊥
      none_ q c a b s =
          let (ts, (j, l, e), r) = of_map (λ (ts : List Ty). record { function = f; types = ts }) lists q c in
          let long_ts : length ts ≡ n = ap length (sym e) ∙ long j ts l in
          few_silent P v es f (world_of es) n latest here_latest few ts long_ts a b (subst (λ (z : Probe). Names P es z a b) (sym r) s)

-- ---- lists that are the same

pub same_all : (xs ys : List Def) (i : ℕ) → length xs ≤ i → length xs ≡ length ys → take i xs ≡ take i ys → xs ≡ ys
same_all xs ys i l e h = sym (take_all i xs l) ∙ h ∙ take_all i ys (omega (arith, l, e))

-- ---- the functions of sites

put_last : (xs : List Site) (x : Site) (s : ℕ) (site : Site) → slice_get (xs ++ x ∷ []) s ≡ Some site → (slice_get xs s ≡ Some site) ⊎ (x ≡ site)
put_last [] x zero site e = inr (same_Some x site e)
put_last [] x (suc s) site e = absurd (none-some site e)
put_last (y ∷ xs) x zero site e = inl e
put_last (y ∷ xs) x (suc s) site e = put_last xs x s site e

pub below_next : (sites xs : List Site) (i : ℕ) (x : Site) (a b : ℕ) → xs ≡ sites → i < length xs → x ≡ get_or xs i x → a ≤ b → x.function < b → AreBelow (take i sites) a → AreBelow (take (i + 1) sites) b
below_next sites xs i x a b same l e le lt h s site q = by (put_last (take i xs) x s site (subst (λ ys. slice_get ys s ≡ Some site) next (subst (λ ys. slice_get (take (i + 1) ys) s ≡ Some site) (sym same) q)))
  where
    next : take (i + 1) xs ≡ take i xs ++ x ∷ []
    next = take_more xs i x l ∙ ap (λ z. take i xs ++ z ∷ []) (sym e)

    by : (slice_get (take i xs) s ≡ Some site) ⊎ (x ≡ site) → site.function < b
    by (inl k) = let m = h s site (subst (λ ys. slice_get (take i ys) s ≡ Some site) same k) in omega (arith, m, le)
    by (inr k) = let m : x.function ≡ site.function = ap (λ (z : Site). z.function) k in omega (arith, m, lt)

pub below_all : (sites xs : List Site) (i a : ℕ) → xs ≡ sites → length xs ≤ i → AreBelow (take i sites) a → AreBelow sites a
below_all sites xs i a same l h = subst (λ ys. AreBelow ys a) (take_all i sites (subst (λ ys. length ys ≤ i) same l)) h

-- ---- one function after another

pub up_next : (P : Program) (es : List Event) (lists : List (List Ty)) (done : List Probe) (f : ℕ) (ps : List Pair) → AreFound P es ((done ++ probes_up_to f lists) ++ probes_of f lists) ps
    → AreFound P es (done ++ probes_up_to (f + 1) lists) ps
up_next P es lists done f ps h =
    let e : suc f ≡ f + 1 = omega arith in
    subst (λ n. AreFound P es (done ++ probes_up_to n lists) ps) e (subst (λ z. AreFound P es z ps) (append_assoc done (probes_up_to f lists) (probes_of f lists)) h)
