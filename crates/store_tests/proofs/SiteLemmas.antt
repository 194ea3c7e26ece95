-- A definition among the events made a world, as counted from the front: so the book can be asked for its site.
use Rattle.std.proofs.Common.{◌≡◌, ◌∙◌, sym, ap, subst, ℕ, zero, suc, ◌+◌, ◌<◌, ◌≤◌, arith, List, [], ◌∷◌, ◌++◌, map, drop, length, slice_get, get_or, append_assoc, length-append}
use Rattle.jl_calculus.specs.declared.history.Change.{Change}
use Rattle.jl_calculus.specs.declared.history.Change.TheVariants as Ch
use Rattle.jl_calculus.specs.declared.history.Event.{Event}
use Rattle.jl_calculus.specs.declared.history.Event.TheVariants as Ev
use Rattle.jl_calculus.specs.World.{changed, change_at, world_of}
use Rattle.jl_methods.specs.Filters.{IsDefinition}
use Rattle.jl_program.specs.Prelude.{prelude_numbers}

there : (past : List Change) (site : ℕ) (cs : List Change) → IsDefinition (slice_get (past ++ Ch.Def site ∷ cs) (length past))
there [] site cs = tt
there (c ∷ past) site cs = there past site cs

here : (past : List Change) (e : Event) (es : List Event) (task site k : ℕ) → Ev.Def task site ≡ e → k ≡ length past → IsDefinition (slice_get (past ++ changed (e ∷ es)) k)
here past e es task site k is q =
    subst (λ (x : Event). IsDefinition (slice_get (past ++ changed (x ∷ es)) k)) is
    (subst (λ n. IsDefinition (slice_get (past ++ Ch.Def site ∷ changed es) n)) (sym q) (there past site (changed es)))

carry : (past : List Change) (c : Change) (es : List Event) (k : ℕ) → IsDefinition (slice_get ((past ++ c ∷ []) ++ changed es) k) → IsDefinition (slice_get (past ++ c ∷ changed es) k)
carry past c es k h = subst (λ (cs : List Change). IsDefinition (slice_get cs k)) (append_assoc past (c ∷ []) (changed es)) h

-- the change of a definition comes after as many as there are after it fewer
among : (past : List Change) (es : List Event) (i : ℕ) (r : Event) (task site k : ℕ) → i < length es → r ≡ get_or es i r → r ≡ Ev.Def task site
    → k + length (changed (drop i es)) ≡ length past + length (changed es) → IsDefinition (slice_get (past ++ changed es) k)
among past [] i r task site k l is d q = absurd (omega (arith, l))
among past (e ∷ es) zero r task site k l is d q = here past e es task site k (sym d ∙ is) (omega (arith, q))
among past (Ev.Def t s ∷ es) (suc i) r task site k l is d q =
    carry past (Ch.Def s) es k (among (past ++ Ch.Def s ∷ []) es i r task site k (omega (arith, l)) is d (omega (arith, q, length-append past (Ch.Def s ∷ []))))
among past (Ev.Del t p ∷ es) (suc i) r task site k l is d q =
    carry past (Ch.Del p) es k (among (past ++ Ch.Del p ∷ []) es i r task site k (omega (arith, l)) is d (omega (arith, q, length-append past (Ch.Del p ∷ []))))
among past (Ev.Begin fuel ∷ es) (suc i) r task site k l is d q = among past es i r task site k (omega (arith, l)) is d q
among past (Ev.Key key ∷ es) (suc i) r task site k l is d q = among past es i r task site k (omega (arith, l)) is d q
among past (Ev.Fill key of first ∷ es) (suc i) r task site k l is d q = among past es i r task site k (omega (arith, l)) is d q
among past (Ev.Spawn t child start ∷ es) (suc i) r task site k l is d q = among past es i r task site k (omega (arith, l)) is d q
among past (Ev.Done t ended ∷ es) (suc i) r task site k l is d q = among past es i r task site k (omega (arith, l)) is d q

pub definition_there : (es : List Event) (i : ℕ) (r : Event) (task site w : ℕ) → i < length es → r ≡ get_or es i r → r ≡ Ev.Def task site
    → w + length (changed (drop i es)) ≡ world_of es → IsDefinition (change_at es (w + 1))
definition_there es i r task site w l is d q =
    subst (λ n. IsDefinition (change_at es n)) (let z : suc w ≡ w + 1 = omega arith in z)
    (among (map Ch.Def prelude_numbers) es i r task site w l is d (omega (arith, q)))

-- and so do the definitions of the prelude
defined : (sites : List ℕ) (cs : List Change) (k : ℕ) → k < length sites → IsDefinition (slice_get (map Ch.Def sites ++ cs) k)
defined [] cs k l = absurd (omega (arith, l))
defined (site ∷ sites) cs zero l = tt
defined (site ∷ sites) cs (suc k) l = defined sites cs k (omega (arith, l))

pub prelude_there : (es : List Event) (w : ℕ) → w < 14 → IsDefinition (change_at es (w + 1))
prelude_there es w l = subst (λ n. IsDefinition (change_at es n)) (let z : suc w ≡ w + 1 = omega arith in z) (defined prelude_numbers (changed es) w l)
