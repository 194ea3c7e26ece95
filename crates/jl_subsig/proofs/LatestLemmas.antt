-- The choice among the latest definitions of each signature is the choice among all.
use Rattle.std.proofs.Common.{◌≡◌, ◌∙◌, sym, ap, subst, refl, ℕ, zero, suc, ◌+◌, ◌-◌, ◌<◌, ◌≤◌, ◌⊎◌, inl, inr, arith, All, Bool, true, false, ◌&&◌, nat_lt, List, [], ◌∷◌, ◌++◌, length, take, drop, get_or, slice_get}
use Rattle.std.specs.List.{Contains}
use Rattle.std.specs.List.Sorted.{IsStrictlyIncreasing}
use Rattle.std.proofs.lemmas.List.Elements.{All-head, All-tail}
use Rattle.std.proofs.lemmas.List.Kept.{AllPairs-from_increasing}
use Rattle.jl_model.specs.declared.ty.Ty.{Ty}
use Rattle.jl_model.specs.declared.ty.Decl.{Decl}
use Rattle.jl_model.specs.declared.ty.Written.{Written}
use Rattle.jl_model.specs.Choice.{Method, Applies, IsCandidate, IsBest, IsUnordered, IsFirstUnordered, IsFirstTwo, ChoosesAmbiguous}
use Rattle.jl_model.specs.Signature.{Applicable, SameSignature}
use Rattle.jl_model.specs.Subtype.{Table}
use Rattle.jl_program.specs.declared.choice.Choice.{Choice}
use Rattle.jl_program.specs.declared.choice.Choice.TheVariants as C
use Rattle.jl_program.specs.declared.tree.Program.{Program}
use Rattle.jl_program.specs.declared.tree.Site.{Site}
use Rattle.jl_program.specs.Chooses.{Chooses}
use Rattle.jl_program.specs.Scope.{types_of, all_types}
use Rattle.jl_program.specs.Valid.{IsValid, IsValidSig}
use Rattle.jl_program.proofs.SiteSigs.{sites_valid}
use Rattle.jl_calculus.specs.declared.history.Def.{Def}
use Rattle.jl_calculus.specs.Definitions.{sig_of, method_of, methods_of, worlds, HasSite, AppliesTo}
use Rattle.jl_subsume.specs.Scoped.{IsScoped}
use Rattle.jl_subsig.specs.Side.{Every}
use Rattle.jl_subsig.proofs.ReflexiveLemmas.{reflexive}
use Rattle.jl_subsig.specs.Latest.{HasSameSig, AreLatest, latest_end, latest_more, replaced}

-- ---- worlds in order

-- each world is above those before it, and the first is this one at least
abbrev pub RisesFrom : ℕ → List ℕ → Type 0
RisesFrom low [] = Unit {0}
RisesFrom low (n ∷ ns) = (low ≤ n) × RisesFrom (n + 1) ns

pub rises_less : (low high : ℕ) (ns : List ℕ) → low ≤ high → RisesFrom high ns → RisesFrom low ns
rises_less low high [] l h = tt
rises_less low high (n ∷ ns) l h = (omega (arith, l, h.0), h.1)

-- numbers of which each is below the next rise
rises_from : (low : ℕ) (ns : List ℕ) → ((i j : ℕ) → i < j → j < length ns → get_or ns i 0 < get_or ns j 0) → ((i : ℕ) → i < length ns → low ≤ get_or ns i 0) → RisesFrom low ns
rises_from low [] h l = tt
rises_from low (n ∷ ns) h l = (
  l 0 (omega arith),
  rises_from (n + 1) ns (λ i j lt m. h (suc i) (suc j) (omega (arith, lt)) (omega (arith, m))) (λ i m. let x = h 0 (suc i) (omega arith) (omega (arith, m)) in omega (arith, x)),
)

pub rises_of : (ns : List ℕ) → IsStrictlyIncreasing ns → RisesFrom 0 ns
rises_of ns h = rises_from 0 ns (λ i j lt m. AllPairs-from_increasing ns h i j 0 lt m) (λ i m. omega arith)

-- and the other way
rises_next : (low : ℕ) (ns : List ℕ) (k : ℕ) → RisesFrom low ns → suc k < length ns → get_or ns k 0 < get_or ns (suc k) 0
rises_next low [] k r l = absurd (omega (arith, l))
rises_next low (n ∷ []) k r l = absurd (omega (arith, l))
rises_next low (n ∷ m ∷ ns) zero r l = omega (arith, r.1.0)
rises_next low (n ∷ m ∷ ns) (suc k) r l = rises_next (n + 1) (m ∷ ns) k r.1 (omega (arith, l))

pub increases : (ns : List ℕ) → RisesFrom 0 ns → IsStrictlyIncreasing ns
increases ns r =
    λ k l.
    let next : suc k ≡ k + 1 = omega arith in
    subst (λ j. get_or ns k 0 < get_or ns j 0) next (rises_next 0 ns k r (omega (arith, l)))

-- ---- two lists with the same candidates

module _ (n : Table) (ms os : List Method) (ts : List Ty) (to : (m : Method) → IsCandidate n ms ts m → IsCandidate n os ts m) (from : (m : Method) → IsCandidate n os ts m → IsCandidate n ms ts m) where
  best_to : (m : Method) → IsBest n ms ts m → IsBest n os ts m
  best_to m b = record { candidate = to m b.candidate; below = λ c k differ. b.below c (from c k) differ }

  best_from : (m : Method) → IsBest n os ts m → IsBest n ms ts m
  best_from m b = record { candidate = from m b.candidate; below = λ c k differ. b.below c (to c k) differ }

  unordered_to : (a b : Method) → IsUnordered n ms ts a b → IsUnordered n os ts a b
  unordered_to a b u = record { first = to a u.first; second = to b u.second; earlier = u.earlier; not_below = u.not_below; not_above = u.not_above }

  unordered_from : (a b : Method) → IsUnordered n os ts a b → IsUnordered n ms ts a b
  unordered_from a b u = record { first = from a u.first; second = from b u.second; earlier = u.earlier; not_below = u.not_below; not_above = u.not_above }

  first_unordered_to : (a b : Method) → IsFirstUnordered n ms ts a b → IsFirstUnordered n os ts a b
  first_unordered_to a b f = record { unordered = unordered_to a b f.unordered; least = λ c d u. f.least c d (unordered_from c d u) }

  first_two_to : (a b : Method) → IsFirstTwo n ms ts a b → IsFirstTwo n os ts a b
  first_two_to a b f = record { first = to a f.first; second = to b f.second; earlier = f.earlier; least = λ c k. f.least c (from c k) }

  pair_to : (c d : Method) → IsFirstUnordered n ms ts c d ⊎ (((e f : Method) → IsUnordered n ms ts e f → ⊥) × IsFirstTwo n ms ts c d)
      → IsFirstUnordered n os ts c d ⊎ (((e f : Method) → IsUnordered n os ts e f → ⊥) × IsFirstTwo n os ts c d)
  pair_to c d (inl f) = inl (first_unordered_to c d f)
  pair_to c d (inr (none, f)) = inr ((λ e g u. none e g (unordered_from e g u)), first_two_to c d f)

  ambiguous_to : (a b : ℕ) → ChoosesAmbiguous n ms ts a b → ChoosesAmbiguous n os ts a b
  ambiguous_to a b h =
      let (c, d, p, q, f) = h.pair in
      record { none_best = λ m k. h.none_best m (best_from m k); pair = (c, d, p, q, pair_to c d f) }

  same_choice : (c : Choice) → Chooses n ms ts c → Chooses n os ts c
  same_choice (C.Method d) (m, b, e) = (m, best_to m b, e)
  same_choice C.None h = λ m c. h m (from m c)
  same_choice (C.Ambiguous a b) h = ambiguous_to a b h

-- ---- the signatures of sites

and_first : (a b : Bool) → (a && b ≡ false → ⊥) → a ≡ true
and_first true b h = refl
and_first false b h = absurd (h refl)

scope_of : (ds : List Decl) (s : Written) → IsValidSig ds s → IsScoped s
scope_of ds s h = record { own = h.own; own_bounds = h.own_bounds; bounds = and_first _ _ h.allowed.placed }

valid_at : (ds : List Decl) (sites : List Site) (k : ℕ) → All (λ (s : Site). IsValidSig ds s.sig) sites → k < length sites → IsValidSig ds (sig_of (slice_get sites k))
valid_at ds [] k h l = absurd (omega (arith, l))
valid_at ds (s ∷ sites) zero h l = All-head (λ (s : Site). IsValidSig ds s.sig) s sites h
valid_at ds (s ∷ sites) (suc k) h l = valid_at ds sites k (All-tail (λ (s : Site). IsValidSig ds s.sig) s sites h) (omega (arith, l))

pub scope_at : (P : Program) → IsValid P → (d : Def) → HasSite P d → IsScoped (sig_of (slice_get P.sites d.site))
scope_at P v d h = scope_of (all_types P) (sig_of (slice_get P.sites d.site)) (valid_at (all_types P) P.sites d.site (sites_valid P v) h)

-- ---- what stays

module _ (P : Program) where
  pub latest_every : (Is : Def → Type 0) (ds es : List Def) → Every Is ds → AreLatest P ds es → Every Is es
  latest_every Is ds es h latest_end = tt
  latest_every Is ds es h (latest_more d xs ys p) = (h.0, latest_every Is xs ys h.1 p)
  latest_every Is ds es h (replaced d e xs ys c s p) = latest_every Is xs ys h.1 p

  pub latest_rise : (low : ℕ) (ds es : List Def) → RisesFrom low (worlds ds) → AreLatest P ds es → RisesFrom low (worlds es)
  latest_rise low ds es h latest_end = tt
  latest_rise low ds es h (latest_more d xs ys p) = (h.0, latest_rise (d.world + 1) xs ys h.1 p)
  latest_rise low ds es h (replaced d e xs ys c s p) = rises_less low (d.world + 1) (worlds ys) (omega (arith, h.0)) (latest_rise (d.world + 1) xs ys h.1 p)

  pub latest_there : (ds es : List Def) → AreLatest P ds es → (d : Def) → Contains es d → Contains ds d
  latest_there ds es latest_end d c = c
  latest_there ds es (latest_more x xs ys p) d (zero, l, q) = (zero, omega arith, q)
  latest_there ds es (latest_more x xs ys p) d (suc k, l, q) = let c = latest_there xs ys p d (k, omega (arith, l), q) in (suc c.0, omega (arith, c.1), c.2)
  latest_there ds es (replaced x e xs ys j s p) d c = let i = latest_there xs ys p d c in (suc i.0, omega (arith, i.1), i.2)

  -- for each one stays that has the same signature and is no earlier
  pub record HasLater (es : List Def) (d : Def) : Type 0 where
    pub by : Def
    pub stays : Contains es by
    pub same : HasSameSig P d by
    pub later : d.world ≤ by.world

  later_more : (x : Def) (es : List Def) (d : Def) → HasLater es d → HasLater (x ∷ es) d
  later_more x es d h = let c = h.stays in record { by = h.by; stays = (suc c.0, omega (arith, c.1), c.2); same = h.same; later = h.later }

  rise_above : (low : ℕ) (ds : List Def) (e : Def) → RisesFrom low (worlds ds) → Contains ds e → low ≤ e.world
  rise_above low [] e h (k, l, q) = absurd (omega (arith, l))
  rise_above low (d ∷ ds) e h (zero, l, q) = let w : d.world ≡ e.world = ap (λ (x : Def). x.world) q in omega (arith, w, h.0)
  rise_above low (d ∷ ds) e h (suc k, l, q) = let m = rise_above (d.world + 1) ds e h.1 (k, omega (arith, l), q) in omega (arith, m, h.0)

  pub latest_covers : (low : ℕ) (ds es : List Def) → RisesFrom low (worlds ds) → AreLatest P ds es → (d : Def) → Contains ds d → HasLater es d
  latest_covers low ds es h latest_end d (k, l, q) = absurd (omega (arith, l))
  latest_covers low ds es h (latest_more x xs ys p) d (zero, l, q) = record { by = x; stays = (zero, omega arith, refl); same = ap (λ (z : Def). sig_of (slice_get P.sites z.site)) (sym q); later = (let w : x.world ≡ d.world = ap (λ (z : Def). z.world) q in omega (arith, w)) }
  latest_covers low ds es h (latest_more x xs ys p) d (suc k, l, q) = later_more x ys d (latest_covers (x.world + 1) xs ys h.1 p d (k, omega (arith, l), q))
  latest_covers low ds es h (replaced x e xs ys c s p) d (zero, l, q) =
      let same : HasSameSig P d e = ap (λ (z : Def). sig_of (slice_get P.sites z.site)) (sym q) ∙ s in
      let r = latest_covers (x.world + 1) xs ys h.1 p e c in
      let w : x.world ≡ d.world = ap (λ (z : Def). z.world) q in
      let up = rise_above (x.world + 1) xs e h.1 c in
      record { by = r.by; stays = r.stays; same = same ∙ r.same; later = omega (arith, w, up, r.later) }
  latest_covers low ds es h (replaced x e xs ys c s p) d (suc k, l, q) = latest_covers (x.world + 1) xs ys h.1 p d (k, omega (arith, l), q)

-- ---- the methods

module _ (P : Program) where
  pub method_contained : (ds : List Def) (d : Def) → Contains ds d → Contains (methods_of P ds) (method_of P d)
  method_contained [] d (k, l, e) = absurd (omega arith)
  method_contained (x ∷ ds) d (zero, l, e) = (0, omega arith, ap (method_of P) e)
  method_contained (x ∷ ds) d (suc k, l, e) = let (j, m, i) = method_contained ds d (k, omega arith, e) in (suc j, omega arith, i)

  pub def_contained : (ds : List Def) (m : Method) → Contains (methods_of P ds) m → (d : Def) × Contains ds d × (method_of P d ≡ m)
  def_contained [] m (k, l, e) = absurd (omega arith)
  def_contained (x ∷ ds) m (zero, l, e) = (x, (0, omega arith, refl), e)
  def_contained (x ∷ ds) m (suc k, l, e) =
      let (d, i, q) = def_contained ds m (k, omega arith, e) in
      (d, (suc i.0, omega (arith, i.1), i.2), q)

  every_at : (ds : List Def) (d : Def) → Every (HasSite P) ds → Contains ds d → HasSite P d
  every_at [] d h (k, l, e) = absurd (omega arith)
  every_at (x ∷ ds) d h (zero, l, e) = subst (HasSite P) e h.0
  every_at (x ∷ ds) d h (suc k, l, e) = every_at ds d h.1 (k, omega arith, e)

  module _ (v : IsValid P) (ts : List Ty) (all some : List Def) (sites : Every (HasSite P) all) (there : (d : Def) → Contains some d → Contains all d)
      (covers : (d : Def) → Contains all d → AppliesTo P ts d → HasLater P some d) where
    all_of : (m : Method) → Contains (methods_of P some) m → Contains (methods_of P all) m
    all_of m c =
        let (d, i, q) = def_contained some m c in
        subst (Contains (methods_of P all)) q (method_contained all d (there d i))

    applies_by : (d : Def) (r : HasLater P some d) → AppliesTo P ts d → AppliesTo P ts r.by
    applies_by d r a = subst (λ (z : Written). Applicable (types_of P) z ts) r.same a

    to : (m : Method) → IsCandidate (types_of P) (methods_of P some) ts m → IsCandidate (types_of P) (methods_of P all) ts m
    to m c = record { applies = record { stands = all_of m c.applies.stands; below = c.applies.below }; last = last }
      where
        last : (o : Method) → Applies (types_of P) (methods_of P all) ts o → m.number < o.number → SameSignature (types_of P) m.sig o.sig → ⊥
        last o a earlier same =
            let (d, i, q) = def_contained all o a.stands in
            let applied : AppliesTo P ts d = subst (λ (z : Method). Applicable (types_of P) z.sig ts) (sym q) a.below in
            let r = covers d i applied in
            let world : d.world ≡ o.number = ap (λ (z : Method). z.number) q in
            let alike : o.sig ≡ sig_of (slice_get P.sites r.by.site) = ap (λ (z : Method). z.sig) (sym q) ∙ r.same in
            c.last (method_of P r.by) (record { stands = method_contained some r.by r.stays; below = applies_by d r applied }) (omega (arith, earlier, world, r.later))
            (subst (λ (z : Written). SameSignature (types_of P) m.sig z) alike same)

    stays : (m : Method) → IsCandidate (types_of P) (methods_of P all) ts m → Contains (methods_of P some) m
    stays m c = by (def_contained all m c.applies.stands)
      where
        by : ((d : Def) × Contains all d × (method_of P d ≡ m)) → Contains (methods_of P some) m
        by (d, i, q) = decide (nat_lt d.world r.by.world) refl
          where
            applied : AppliesTo P ts d
            applied = subst (λ (z : Method). Applicable (types_of P) z.sig ts) (sym q) c.applies.below

            r : HasLater P some d
            r = covers d i applied

            number : d.world ≡ m.number
            number = ap (λ (z : Method). z.number) q

            decide : (b : Bool) → nat_lt d.world r.by.world ≡ b → Contains (methods_of P some) m
            decide true e =
                let scope = scope_at P v d (every_at all d sites i) in
                let self = reflexive (types_of P) (sig_of (slice_get P.sites d.site)) scope in
                let alike : sig_of (slice_get P.sites d.site) ≡ m.sig = ap (λ (z : Method). z.sig) q in
                let same : SameSignature (types_of P) m.sig (sig_of (slice_get P.sites r.by.site)) =
                subst (λ (z : Written). SameSignature (types_of P) m.sig z) r.same (subst (λ (z : Written). SameSignature (types_of P) z (sig_of (slice_get P.sites d.site))) alike (self, self)) in
                absurd (c.last (method_of P r.by) (record { stands = all_of (method_of P r.by) (method_contained some r.by r.stays); below = applies_by d r applied }) (grind (arith, e, number)) same)
            decide false e =
                let world : r.by.world ≡ d.world = (let later = r.later in grind (arith, e, later)) in
                let equal : method_of P r.by ≡ method_of P d = λ j. record { number = world j; sig = sym r.same j } in
                subst (Contains (methods_of P some)) (equal ∙ q) (method_contained some r.by r.stays)

    from : (m : Method) → IsCandidate (types_of P) (methods_of P all) ts m → IsCandidate (types_of P) (methods_of P some) ts m
    from m c = record {
      applies = record { stands = stays m c; below = c.applies.below };
      last = λ o a e s. c.last o (record { stands = all_of o a.stands; below = a.below }) e s;
    }

    pub same_chosen : (c : Choice) → Chooses (types_of P) (methods_of P some) ts c → Chooses (types_of P) (methods_of P all) ts c
    same_chosen = same_choice (types_of P) (methods_of P some) (methods_of P all) ts to from
