-- One more event of a legal history, in the loop that gathers the choices.
use Rattle.std.proofs.Common.{◌≡◌, ◌∙◌, ap, sym, refl, subst, arith, ℕ, zero, suc, ◌<◌, ◌≤◌, ◌+◌, List, [], ◌∷◌, ◌++◌, length, get_or, slice_get, take, drop, take-append-drop, append_assoc, append-nil, None, Some}
use Rattle.std.proofs.lemmas.List.{take_more}
use Rattle.std.proofs.lemmas.Option.{slice_get_read, same_Some, none-some}
use Rattle.jl_model.specs.declared.limits.TheConstants.{MOST_WORLDS}
use Rattle.jl_model.specs.declared.ty.Key.{Key}
use Rattle.jl_program.specs.declared.choice.Choice.{Choice}
use Rattle.jl_program.specs.declared.tree.Program.{Program}
use Rattle.jl_program.specs.Prelude.{prelude_count}
use Rattle.jl_calculus.specs.declared.history.Change.{Change}
use Rattle.jl_calculus.specs.declared.history.Change.TheVariants as Ch
use Rattle.jl_calculus.specs.declared.history.Event.{Event}
use Rattle.jl_calculus.specs.declared.history.Event.TheVariants as Ev
use Rattle.jl_calculus.specs.Legal.{EachAfter, MayCome, MayStand}
use Rattle.jl_calculus.specs.Ranges.{ChangeTouches}
use Rattle.jl_calculus.specs.World.{changes, change_at, world_of, Selects}
use Rattle.jl_calculus.proofs.GrowthLemmas.{changes_length}
use Rattle.jl_methods.specs.Filters.{IsOfProgram}
use Rattle.jl_methods.proofs.MadeLemmas.{made_of_program}
use Rattle.jl_reflect.specs.declared.choices.Chosen.{Chosen}
use Rattle.jl_reflect.specs.Chosen.{change_in, AreChosenUpTo}
use Rattle.jl_reflect.proofs.Gathered.{no_change, one_change, same_world, next_world, first_changes, change_next, passed, chosen_next}

each_at : (R : List Event → Event → Type 0) (past es : List Event) (n : ℕ) (e : Event) → EachAfter R past es → slice_get es n ≡ Some e → R (past ++ take n es) e
each_at R past [] zero e h g = absurd (cc g)
each_at R past [] (suc n) e h g = absurd (cc g)
each_at R past (d ∷ es) zero e h g = subst (λ xs. R xs e) (sym (append-nil past)) (subst (R past) (cc g) h.0)
each_at R past (d ∷ es) (suc n) e h g = subst (λ xs. R xs e) (append_assoc past (d ∷ []) (take n es)) (each_at R (past ++ d ∷ []) es n e h.1 g)

-- a change that comes is of the program, and there was room for it
may_be_made : (P : Program) (p : List Event) (e : Event) (c : Change) → MayCome P p e → change_in e ≡ Some c → IsOfProgram P c × (world_of p < MOST_WORLDS)
may_be_made P p (Ev.Def task site) c m q = (subst (IsOfProgram P) (same_Some _ _ q) (made_of_program P p (Ch.Def site) m.may), m.room)
may_be_made P p (Ev.Del task place) c m q = (subst (IsOfProgram P) (same_Some _ _ q) (made_of_program P p (Ch.Del place) m.may), m.room)
may_be_made P p (Ev.Begin fuel) c m q = absurd (none-some _ q)
may_be_made P p (Ev.Key key) c m q = absurd (none-some _ q)
may_be_made P p (Ev.Fill key site first) c m q = absurd (none-some _ q)
may_be_made P p (Ev.Spawn task child start) c m q = absurd (none-some _ q)
may_be_made P p (Ev.Done task ended) c m q = absurd (none-some _ q)

module _ (P : Program) (es : List Event) (key : Key) (stand : MayStand P es) (i : ℕ) (e : Event) (inside : i < length es) (is : e ≡ get_or es i e) where
  abbrev p : List Event
  p = take i es

  next : take (i + 1) es ≡ p ++ e ∷ []
  next = take_more es i e inside ∙ ap (λ x. p ++ x ∷ []) (sym is)

  whole : (p ++ e ∷ []) ++ drop (i + 1) es ≡ es
  whole = ap (λ xs. xs ++ drop (i + 1) es) (sym next) ∙ take-append-drop (i + 1) es

  comes : MayCome P p e
  comes = each_at (MayCome P) [] es i e stand.come (slice_get_read es (length es) i e refl inside is)

  pub of_program : (c : Change) → change_in e ≡ Some c → IsOfProgram P c
  of_program c q = (may_be_made P p e c comes q).0

  pub has_room : (c : Change) (cs : List Change) → change_in e ≡ Some c → cs ≡ changes p → length cs < MOST_WORLDS
  has_room c cs q f = let z = (may_be_made P p e c comes q).1 in omega (arith, z, ap (λ xs. length xs) f, changes_length p)

  pub none_on : (cs : Program × List Change) (all : List Chosen) → change_in e ≡ None → (cs ≡ (P, changes p)) × AreChosenUpTo P es key (world_of p) all
      → (cs ≡ (P, changes (take (i + 1) es))) × AreChosenUpTo P es key (world_of (take (i + 1) es)) all
  none_on cs all q (f, h) =
      (f ∙ ap (λ xs. (P, xs)) (sym (ap changes next ∙ no_change p e q)), subst (λ w. AreChosenUpTo P es key w all) (sym (ap world_of next ∙ same_world p e q)) h)

  module _ (c : Change) (q : change_in e ≡ Some c) (cs new : Program × List Change) (f : cs ≡ (P, changes p)) (g : new ≡ (cs.0, cs.1 ++ c ∷ [])) where
    made : new ≡ (P, changes (p ++ e ∷ []))
    made = g ∙ ap (λ v. (v.0, v.1 ++ c ∷ [])) f ∙ ap (λ xs. (P, xs)) (sym (one_change p e c q))

    pub made_next : new ≡ (P, changes (take (i + 1) es))
    made_next = made ∙ ap (λ xs. (P, changes xs)) (sym next)

    later : world_of (take (i + 1) es) ≡ world_of p + 1
    later = ap world_of next ∙ next_world p e c q

    there : change_at es (suc (world_of p)) ≡ Some c
    there = subst (λ xs. change_at xs (suc (world_of p)) ≡ Some c) whole (change_next p (drop (i + 1) es) e c q)

    pub untouched_on : (all : List Chosen) → AreChosenUpTo P es key (world_of p) all → (ChangeTouches P (Some c) key → ⊥) → AreChosenUpTo P es key (world_of (take (i + 1) es)) all
    untouched_on all h n = passed P es key (world_of p) all h (world_of (take (i + 1) es)) later (λ t. n (subst (λ o. ChangeTouches P o key) there t))

    pub count : (xs : List Change) → xs ≡ new.1 → length xs ≡ world_of (take (i + 1) es)
    count xs x = ap (λ ys. length ys) (x ∙ ap (λ v. v.1) made_next) ∙ changes_length (take (i + 1) es)

    pub few : (xs : List Change) → xs ≡ new.1 → length xs ≤ MOST_WORLDS
    few xs x = let z = (may_be_made P p e c comes q).1 in omega (arith, z, count xs x, later)

    agree : (w : ℕ) → w ≡ world_of (take (i + 1) es) → take w (changes es) ≡ take w new.1
    agree w l =
        ap (λ ys. take w (changes ys)) (sym (ap (λ ys. ys ++ drop (i + 1) es) next ∙ whole)) ∙ first_changes (take (i + 1) es) (drop (i + 1) es) w (omega (arith, l))
        ∙ ap (λ v. take w v.1) (sym made_next)

    pub touched_on : (all : List Chosen) → prelude_count ≤ world_of p → AreChosenUpTo P es key (world_of p) all → (xs : List Change) → xs ≡ new.1 → (choice : Choice)
        → ((ys : List Event) → take (length xs) (changes ys) ≡ take (length xs) new.1 → Selects new.0 ys key.function key.types (length xs) choice)
        → (more : List Chosen) → more ≡ all ++ record { world = length xs; choice = choice } ∷ [] → AreChosenUpTo P es key (world_of (take (i + 1) es)) more
    touched_on all low h xs x choice s more m =
        let chosen = subst (λ Q. Selects Q es key.function key.types (length xs) choice) (ap (λ v. v.0) made_next) (s es (agree (length xs) (count xs x))) in
        subst (λ w. AreChosenUpTo P es key w more) (count xs x)
        (subst (AreChosenUpTo P es key (length xs)) (sym m) (chosen_next P es key (world_of p) all h (record { world = length xs; choice = choice }) (count xs x ∙ later) low chosen))
