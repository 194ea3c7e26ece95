-- The definitions that made some worlds, and the changes up to a world.
use Rattle.std.proofs.Common.{◌≡◌, ◌∙◌, ap, sym, subst, refl, ℕ, zero, suc, ◌+◌, ◌-◌, ◌<◌, ◌≤◌, ◌⊎◌, inl, inr, arith, List, [], ◌∷◌, ◌++◌, length, take, drop, get_or, slice_get, Option, None, Some}
use Rattle.std.specs.Prelude.{option_to_list}
use Rattle.std.specs.List.{All, Contains}
use Rattle.std.proofs.lemmas.List.{drop_more}
use Rattle.std.proofs.lemmas.List.Elements.{Contains-append_left, Contains-append_right, Contains-append_cases}
use Rattle.jl_calculus.specs.declared.history.Change.{Change}
use Rattle.jl_calculus.specs.declared.history.Change.TheVariants as Ch
use Rattle.jl_calculus.specs.declared.history.Def.{Def}
use Rattle.jl_calculus.specs.Definitions.{worlds}
use Rattle.jl_methods.specs.Filters.{change_in, def_by, defs_at}
use Rattle.jl_methods.specs.Numbered.{RisesFrom}
use Rattle.jl_methods.proofs.ChangeLemmas.{def, change_read}
use Rattle.jl_methods.proofs.EachLemmas.{rises_less}
use Rattle.jl_methods.proofs.FilterLemmas.{here, there, here_or_there, none_there}

-- ---- the definitions that made some worlds

-- what made a world, as a list
abbrev pub made_by : ℕ → Option Change → List Def
made_by w o = option_to_list (def_by w o)

by_world : (w : ℕ) (o : Option Change) (d : Def) → Contains (made_by w o) d → (o ≡ Some (Ch.Def d.site)) × (w ≡ d.world)
by_world w None d c = absurd (none_there d [] refl c)
by_world w (Some (Ch.Def site)) d c = at (here_or_there (def w site) d [] c)
  where
    at : (def w site ≡ d) ⊎ Contains [] d → (Some (Ch.Def site) ≡ Some (Ch.Def d.site)) × (w ≡ d.world)
    at (inl e) = (ap (λ (d : Def). Some (Ch.Def d.site)) e, ap (λ (d : Def). d.world) e)
    at (inr n) = absurd (none_there d [] refl n)
by_world w (Some (Ch.Del place)) d c = absurd (none_there d [] refl c)

module _ (cs : List Change) where
  pub defs_at_from : (ns : List ℕ) (d : Def) → Contains (defs_at cs ns) d → Contains ns d.world × (change_in cs d.world ≡ Some (Ch.Def d.site))
  defs_at_from [] d c = absurd (none_there d [] refl c)
  defs_at_from (n ∷ ns) d c = by (Contains-append_cases (made_by n (change_in cs n)) (defs_at cs ns) d c) (defs_at_from ns d)
    where
      by : Contains (made_by n (change_in cs n)) d ⊎ Contains (defs_at cs ns) d → (Contains (defs_at cs ns) d → Contains ns d.world × (change_in cs d.world ≡ Some (Ch.Def d.site)))
          → Contains (n ∷ ns) d.world × (change_in cs d.world ≡ Some (Ch.Def d.site))
      by (inl i) more =
          let (e, w) = by_world n (change_in cs n) d i in
          (here n d.world ns w, ap (change_in cs) (sym w) ∙ e)
      by (inr i) more = let (j, e) = more i in (there n d.world ns j, e)

  pub defs_at_there : (ns : List ℕ) (n site : ℕ) → Contains ns n → change_in cs n ≡ Some (Ch.Def site) → Contains (defs_at cs ns) (def n site)
  defs_at_there [] n site c e = absurd (none_there n [] refl c)
  defs_at_there (m ∷ ns) n site c e = by (here_or_there m n ns c) (λ d. defs_at_there ns n site d e)
    where
      by : (m ≡ n) ⊎ Contains ns n → (Contains ns n → Contains (defs_at cs ns) (def n site)) → Contains (defs_at cs (m ∷ ns)) (def n site)
      by (inl q) more =
          Contains-append_left (made_by m (change_in cs m)) (defs_at cs ns) (def n site)
          (subst (λ k. Contains (made_by k (change_in cs k)) (def n site)) (sym q) (subst (λ o. Contains (made_by n o) (def n site)) (sym e) (here (def n site) (def n site) [] refl)))
      by (inr d) more = Contains-append_right (made_by m (change_in cs m)) (defs_at cs ns) (def n site) (more d)

  pub defs_at_rise : (low : ℕ) (ns : List ℕ) → RisesFrom low ns → RisesFrom low (worlds (defs_at cs ns))
  defs_at_rise low [] r = tt
  defs_at_rise low (n ∷ ns) r = by (change_in cs n) (defs_at_rise (n + 1) ns r.1)
    where
      by : (o : Option Change) → RisesFrom (n + 1) (worlds (defs_at cs ns)) → RisesFrom low (worlds (made_by n o ++ defs_at cs ns))
      by None h = rises_less low (n + 1) (worlds (defs_at cs ns)) (omega (arith, r.0)) h
      by (Some (Ch.Def site)) h = (r.0, h)
      by (Some (Ch.Del place)) h = rises_less low (n + 1) (worlds (defs_at cs ns)) (omega (arith, r.0)) h

  -- one step of a walk over the worlds
  pub defs_at_step : (ns : List ℕ) (i : ℕ) (d : Change) (o : Option Def) → i < length ns → All (λ n. (1 ≤ n) × (n ≤ length cs)) ns → o ≡ def_by (get_or ns i 0) (Some (get_or cs (get_or ns i 0 - 1) d))
      → defs_at cs (drop i ns) ≡ option_to_list o ++ defs_at cs (drop (i + 1) ns)
  defs_at_step ns i d o l within e =
      let (low, high) = within i 0 l in
      ap (defs_at cs) (drop_more ns i 0 l)
      ∙ ap (λ o. option_to_list (def_by (get_or ns i 0) o) ++ defs_at cs (drop (i + 1) ns)) (change_read cs (get_or ns i 0) d low high)
      ∙ ap (λ o. option_to_list o ++ defs_at cs (drop (i + 1) ns)) (sym e)

-- ---- up to a world

pub get_take : {X : Type 0} (n : ℕ) (xs : List X) (k : ℕ) → k < n → slice_get (take n xs) k ≡ slice_get xs k
get_take zero xs k l = absurd (omega (arith, l))
get_take (suc n) [] k l = refl
get_take (suc n) (x ∷ xs) zero l = refl
get_take (suc n) (x ∷ xs) (suc k) l = get_take n xs k (omega (arith, l))

pub in_take : (cs : List Change) (w n : ℕ) → n ≤ w → change_in (take w cs) n ≡ change_in cs n
in_take cs w zero l = refl
in_take cs w (suc n) l = get_take w cs n (omega (arith, l))

pub contained_at : (ws : List ℕ) (n : ℕ) → Contains ws n → (j : ℕ) × (j < length ws) × (get_or ws j 0 ≡ n)
contained_at [] n c = absurd (none_there n [] refl c)
contained_at (m ∷ ws) n c = by (here_or_there m n ws c) (contained_at ws n)
  where
    by : (m ≡ n) ⊎ Contains ws n → (Contains ws n → (j : ℕ) × (j < length ws) × (get_or ws j 0 ≡ n)) → (j : ℕ) × (j < suc (length ws)) × (get_or (m ∷ ws) j 0 ≡ n)
    by (inl e) more = (0, omega arith, e)
    by (inr d) more = let (j, a, e) = more d in (suc j, omega (arith, a), e)
