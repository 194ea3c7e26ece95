-- The walk over definitions from the last one on, which drops those whose site was met.
use Rattle.std.proofs.Common.{◌≡◌, ◌∙◌, ap, sym, subst, refl, ℕ, zero, suc, ◌+◌, ◌<◌, arith, Bool, true, false, nat_eq, List, [], ◌∷◌, ◌++◌, length, drop, get_or, set, slice_get}
use Rattle.std.specs.Prelude.{reverse}
use Rattle.std.specs.List.{Contains}
use Rattle.std.proofs.lemmas.Bool.{eqb-true, eqb-false}
use Rattle.std.proofs.lemmas.List.{drop_more, drop_all, reverse-append, get_or-set_other}
use Rattle.jl_program.specs.declared.tree.Program.{Program}
use Rattle.jl_calculus.specs.declared.history.Def.{Def}
use Rattle.jl_calculus.specs.Definitions.{sig_of, HasSite}
use Rattle.jl_subsig.specs.Latest.{AreLatest, latest_end, latest_more, replaced}
use Rattle.jl_subsig.specs.Side.{Every}

abbrev pub none : Def
none = record { world = 0; site = 0 }

-- each flag that is set is that of the site of one of these
abbrev pub AreMet : List Bool → List Def → Type 0
AreMet flags ds = (n : ℕ) → get_or flags n false ≡ true → (e : Def) × Contains ds e × (e.site ≡ n)

pub met_start : (flags : List Bool) (defs : List Def) → ((n : ℕ) → get_or flags n false ≡ false) → AreMet flags (drop (length defs) defs)
met_start flags defs h n e = let q = h n in cc

pub latest_start : (P : Program) (defs : List Def) → AreLatest P (drop (length defs) defs) []
latest_start P defs = subst (λ ds. AreLatest P ds []) (sym (drop_all (length defs) defs (omega arith))) latest_end

module _ (P : Program) (defs : List Def) (i : ℕ) (l : i < length defs) where
  abbrev this : Def
  this = get_or defs i none

  rest : drop i defs ≡ this ∷ drop (i + 1) defs
  rest = drop_more defs i none l

  later : (n : ℕ) → (e : Def) × Contains (drop (i + 1) defs) e × (e.site ≡ n) → (e : Def) × Contains (drop i defs) e × (e.site ≡ n)
  later n (e, (k, m, q), s) = (e, subst (λ ds. Contains ds e) (sym rest) (suc k, omega (arith, m), q), s)

  pub met_same : (flags : List Bool) → AreMet flags (drop (i + 1) defs) → AreMet flags (drop i defs)
  met_same flags h n e = later n (h n e)

  pub met_more : (flags new : List Bool) → new ≡ set flags this.site true → AreMet flags (drop (i + 1) defs) → AreMet new (drop i defs)
  met_more flags new is h n e = by (nat_eq n this.site) refl
    where
      by : (b : Bool) → nat_eq n this.site ≡ b → (e : Def) × Contains (drop i defs) e × (e.site ≡ n)
      by true q = (this, subst (λ ds. Contains ds this) (sym rest) (0, omega arith, refl), sym (eqb-true n this.site q))
      by false q = later n (h n (sym (get_or-set_other flags this.site n true false (eqb-false n this.site q)) ∙ ap (λ fs. get_or fs n false) (sym is) ∙ e))

  pub back_replaced : (those : List Def) → AreLatest P (drop (i + 1) defs) (reverse those) → (e : Def) × Contains (drop (i + 1) defs) e × (e.site ≡ this.site) → AreLatest P (drop i defs) (reverse those)
  back_replaced those h (e, c, site) =
      subst (λ ds. AreLatest P ds (reverse those)) (sym rest) (replaced this e (drop (i + 1) defs) (reverse those) c (ap (λ n. sig_of (slice_get P.sites n)) (sym site)) h)

  pub back_latest : (those more : List Def) → more ≡ those ++ this ∷ [] → AreLatest P (drop (i + 1) defs) (reverse those) → AreLatest P (drop i defs) (reverse more)
  back_latest those more e h =
      let turned : reverse more ≡ this ∷ reverse those = ap reverse e ∙ reverse-append those (this ∷ []) in
      subst (AreLatest P (drop i defs)) (sym turned) (subst (λ ds. AreLatest P ds (this ∷ reverse those)) (sym rest) (latest_more this (drop (i + 1) defs) (reverse those) h))

-- a flag as the code reads it
pub flag_read : (flags : List Bool) (n : ℕ) (b : Bool) → n < length flags → b ≡ get_or flags n b → get_or flags n false ≡ b
flag_read [] n b l e = absurd (omega (arith, l))
flag_read (f ∷ flags) zero b l e = sym e
flag_read (f ∷ flags) (suc n) b l e = flag_read flags n b (omega (arith, l)) e

pub site_known : (P : Program) (defs : List Def) (i : ℕ) → i < length defs → Every (HasSite P) defs → (get_or defs i none).site < length P.sites
site_known P [] i l h = absurd (omega (arith, l))
site_known P (d ∷ defs) zero l h = h.0
site_known P (d ∷ defs) (suc i) l h = site_known P defs i (omega (arith, l)) h.1
