-- The changes of a history, one event after another.
use Rattle.std.proofs.Common.{◌≡◌, ◌∙◌, ap, sym, refl, subst, arith, ℕ, zero, suc, ◌<◌, ◌≤◌, ◌+◌, List, [], ◌∷◌, ◌++◌, map, length, get_or, slice_get, take, append_assoc, append-nil, Option, None, Some}
use Rattle.std.proofs.lemmas.List.{take_more, take_all}
use Rattle.std.proofs.lemmas.Option.{slice_get_read, same_Some, none-some}
use Rattle.jl_model.specs.declared.limits.TheConstants.{MOST_WORLDS}
use Rattle.jl_program.specs.declared.tree.Program.{Program}
use Rattle.jl_calculus.specs.declared.history.Change.{Change}
use Rattle.jl_calculus.specs.declared.history.Change.TheVariants as Ch
use Rattle.jl_calculus.specs.declared.history.Event.{Event}
use Rattle.jl_calculus.specs.declared.history.Event.TheVariants as Ev
use Rattle.jl_calculus.specs.Legal.{EachAfter, MayCome, MayStand}
use Rattle.jl_calculus.specs.World.{changed, changes, world_of}
use Rattle.jl_program.specs.Prelude.{prelude_numbers}
use Rattle.jl_calculus.proofs.GrowthLemmas.{changes_append, changes_length}
use Rattle.jl_methods.specs.Filters.{IsOfProgram}
use Rattle.jl_methods.proofs.MadeLemmas.{made_of_program}
use Rattle.jl_ambig.specs.Asked.{change_in}

abbrev of_one : Option Change → List Change
of_one None = []
of_one (Some c) = c ∷ []

one_changed : (e : Event) → changed (e ∷ []) ≡ of_one (change_in e)
one_changed (Ev.Def task site) = refl
one_changed (Ev.Del task place) = refl
one_changed (Ev.Begin fuel) = refl
one_changed (Ev.Key key) = refl
one_changed (Ev.Fill key site first) = refl
one_changed (Ev.Spawn task child start) = refl
one_changed (Ev.Done task ended) = refl

more_changes : (p : List Event) (e : Event) (o : Option Change) → change_in e ≡ o → changes (p ++ e ∷ []) ≡ changes p ++ of_one o
more_changes p e o q = changes_append p (e ∷ []) ∙ ap (λ xs. changes p ++ xs) (one_changed e ∙ ap of_one q)

each_at : (R : List Event → Event → Type 0) (past es : List Event) (n : ℕ) (e : Event) → EachAfter R past es → slice_get es n ≡ Some e → R (past ++ take n es) e
each_at R past [] zero e h g = absurd (cc g)
each_at R past [] (suc n) e h g = absurd (cc g)
each_at R past (d ∷ es) zero e h g = subst (λ xs. R xs e) (sym (append-nil past)) (subst (R past) (cc g) h.0)
each_at R past (d ∷ es) (suc n) e h g = subst (λ xs. R xs e) (append_assoc past (d ∷ []) (take n es)) (each_at R (past ++ d ∷ []) es n e h.1 g)

-- a change that comes is of the program, and there was room for it
may_be_made : (P : Program) (p : List Event) (e : Event) (c : Change) → MayCome P p e → change_in e ≡ Some c → IsOfProgram P c × (world_of p < MOST_WORLDS)
may_be_made P p (Ev.Def task site) c m q = (subst (IsOfProgram P) (same_Some _ _ q) (made_of_program P p (Ch.Def site) m.may), m.room)
may_be_made P p (Ev.Del task place) c m q = (subst (IsOfProgram P) (same_Some _ _ q) (made_of_program P p (Ch.Del place) m.may), m.room)
may_be_made P p (Ev.Begin fuel) c m q = absurd (none-some _ q)
may_be_made P p (Ev.Key key) c m q = absurd (none-some _ q)
may_be_made P p (Ev.Fill key site first) c m q = absurd (none-some _ q)
may_be_made P p (Ev.Spawn task child start) c m q = absurd (none-some _ q)
may_be_made P p (Ev.Done task ended) c m q = absurd (none-some _ q)

module _ (P : Program) (es : List Event) (stand : MayStand P es) (i : ℕ) (e : Event) (inside : i < length es) (is : e ≡ get_or es i e) where
  abbrev p : List Event
  p = take i es

  next : take (i + 1) es ≡ p ++ e ∷ []
  next = take_more es i e inside ∙ ap (λ x. p ++ x ∷ []) (sym is)

  comes : MayCome P p e
  comes = each_at (MayCome P) [] es i e stand.come (slice_get_read es (length es) i e refl inside is)

  pub of_program : (c : Change) → change_in e ≡ Some c → IsOfProgram P c
  of_program c q = (may_be_made P p e c comes q).0

  pub has_room : (c : Change) (cs : List Change) → change_in e ≡ Some c → cs ≡ changes p → length cs < MOST_WORLDS
  has_room c cs q f = let z = (may_be_made P p e c comes q).1 in omega (arith, z, ap (λ xs. length xs) f, changes_length p)

  pub none_on : (cs : Program × List Change) → change_in e ≡ None → cs ≡ (P, changes p) → cs ≡ (P, changes (take (i + 1) es))
  none_on cs q f = f ∙ ap (λ xs. (P, xs)) (sym (ap changes next ∙ more_changes p e None q ∙ append-nil (changes p)))

  pub made_next : (c : Change) → change_in e ≡ Some c → (cs new : Program × List Change) → cs ≡ (P, changes p) → new ≡ (cs.0, cs.1 ++ c ∷ []) → new ≡ (P, changes (take (i + 1) es))
  made_next c q cs new f g = g ∙ ap (λ v. (v.0, v.1 ++ c ∷ [])) f ∙ ap (λ xs. (P, xs)) (sym (more_changes p e (Some c) q)) ∙ ap (λ xs. (P, changes xs)) (sym next)

pub made_all : (P : Program) (es : List Event) (i : ℕ) (cs : Program × List Change) → length es ≤ i → cs ≡ (P, changes (take i es)) → cs ≡ (P, changes es)
made_all P es i cs l f = f ∙ ap (λ xs. (P, changes xs)) (take_all i es l)

-- ---- every change of a history is of its program

all_of_program : (P : Program) (past es : List Event) → EachAfter (MayCome P) past es → (k : ℕ) (c : Change) → slice_get (changed es) k ≡ Some c → IsOfProgram P c
all_of_program P past [] h k c e = absurd (cc e)
all_of_program P past (Ev.Def task site ∷ es) h zero c e = (may_be_made P past (Ev.Def task site) c h.0 e).0
all_of_program P past (Ev.Def task site ∷ es) h (suc k) c e = all_of_program P (past ++ Ev.Def task site ∷ []) es h.1 k c e
all_of_program P past (Ev.Del task place ∷ es) h zero c e = (may_be_made P past (Ev.Del task place) c h.0 e).0
all_of_program P past (Ev.Del task place ∷ es) h (suc k) c e = all_of_program P (past ++ Ev.Del task place ∷ []) es h.1 k c e
all_of_program P past (Ev.Begin fuel ∷ es) h k c e = all_of_program P (past ++ Ev.Begin fuel ∷ []) es h.1 k c e
all_of_program P past (Ev.Key key ∷ es) h k c e = all_of_program P (past ++ Ev.Key key ∷ []) es h.1 k c e
all_of_program P past (Ev.Fill key site first ∷ es) h k c e = all_of_program P (past ++ Ev.Fill key site first ∷ []) es h.1 k c e
all_of_program P past (Ev.Spawn task child start ∷ es) h k c e = all_of_program P (past ++ Ev.Spawn task child start ∷ []) es h.1 k c e
all_of_program P past (Ev.Done task ended ∷ es) h k c e = all_of_program P (past ++ Ev.Done task ended ∷ []) es h.1 k c e

pub known_change : (P : Program) (es : List Event) → MayStand P es → 14 ≤ length P.sites → (k : ℕ) (c : Change) → slice_get (changes es) k ≡ Some c → IsOfProgram P c
known_change P es stand many k c e = by 14 refl k e
  where
    own : (j : ℕ) → slice_get (changed es) j ≡ Some c → IsOfProgram P c
    own j q = all_of_program P [] es stand.come j c q

    at : (n : ℕ) → n < 14 → Some (Ch.Def n) ≡ Some c → IsOfProgram P c
    at n l q = subst (IsOfProgram P) (same_Some (Ch.Def n) c q) (omega (arith, l, many))

    by : (m : ℕ) → m ≡ 14 → (k : ℕ) → slice_get (map Ch.Def prelude_numbers ++ changed es) k ≡ Some c → IsOfProgram P c
    by m l zero q = at 0 (omega arith) q
    by m l (suc zero) q = at 1 (omega arith) q
    by m l (suc (suc zero)) q = at 2 (omega arith) q
    by m l (suc (suc (suc zero))) q = at 3 (omega arith) q
    by m l (suc (suc (suc (suc zero)))) q = at 4 (omega arith) q
    by m l (suc (suc (suc (suc (suc zero))))) q = at 5 (omega arith) q
    by m l (suc (suc (suc (suc (suc (suc zero)))))) q = at 6 (omega arith) q
    by m l (suc (suc (suc (suc (suc (suc (suc zero))))))) q = at 7 (omega arith) q
    by m l (suc (suc (suc (suc (suc (suc (suc (suc zero)))))))) q = at 8 (omega arith) q
    by m l (suc (suc (suc (suc (suc (suc (suc (suc (suc zero))))))))) q = at 9 (omega arith) q
    by m l (suc (suc (suc (suc (suc (suc (suc (suc (suc (suc zero)))))))))) q = at 10 (omega arith) q
    by m l (suc (suc (suc (suc (suc (suc (suc (suc (suc (suc (suc zero))))))))))) q = at 11 (omega arith) q
    by m l (suc (suc (suc (suc (suc (suc (suc (suc (suc (suc (suc (suc zero)))))))))))) q = at 12 (omega arith) q
    by m l (suc (suc (suc (suc (suc (suc (suc (suc (suc (suc (suc (suc (suc zero))))))))))))) q = at 13 (omega arith) q
    by m l (suc (suc (suc (suc (suc (suc (suc (suc (suc (suc (suc (suc (suc (suc j)))))))))))))) q = own j q
