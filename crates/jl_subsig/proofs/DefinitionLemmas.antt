-- Definitions of a program are chosen among as the methods that they make.
use Rattle.std.proofs.Common.{◌≡◌, ◌∙◌, sym, ap, subst, refl, ℕ, zero, suc, ◌<◌, ◌≤◌, arith, List, [], ◌∷◌, map, length, slice_get, slice_index_or, Some}
use Rattle.std.specs.List.{Contains}
use Rattle.std.specs.List.Sorted.{IsStrictlyIncreasing}
use Rattle.jl_model.specs.declared.ty.Ty.{Ty}
use Rattle.jl_model.specs.declared.ty.Decl.{Decl}
use Rattle.jl_model.specs.declared.ty.Written.{Written}
use Rattle.jl_model.specs.Choice as M
use Rattle.jl_model.specs.Ancestors.{table_of}
use Rattle.jl_model.specs.Signature.{Applicable}
use Rattle.jl_program.specs.declared.choice.Choice.{Choice}
use Rattle.jl_program.specs.declared.choice.Choice.TheVariants as C
use Rattle.jl_program.specs.declared.tree.Delete.{Delete}
use Rattle.jl_program.specs.declared.tree.Program.{Program}
use Rattle.jl_program.specs.declared.tree.Site.{Site}
use Rattle.jl_program.specs.Chooses.{Chooses}
use Rattle.jl_program.specs.Scope.{all_types, types_of}
use Rattle.jl_calculus.specs.declared.history.Def.{Def}
use Rattle.jl_calculus.specs.Definitions.{sig_of, method_of, methods_of, worlds, AppliesTo}
use Rattle.jl_sig.specs.Readied.{sigs_of, place_sigs}
use Rattle.jl_sig.specs.SigParts.{written_of}
use Rattle.jl_subsig.specs.declared.choice.Method.{Method}
use Rattle.jl_subsig.specs.Side.{Every}
use Rattle.jl_subsig.specs.Decide.{method_in, methods_in}
use Rattle.jl_subsig.specs.Standing.{sig_of_place}

-- ---- the signature of a site and that of a deletion place

pub sig_at : (sites : List Site) (k : ℕ) (w : Written) → slice_get (sigs_of sites) k ≡ Some w → w ≡ sig_of (slice_get sites k)
sig_at [] k w e = cc
sig_at (s ∷ sites) zero w e = cc
sig_at (s ∷ sites) (suc k) w e = sig_at sites k w e

pub place_sig_at : (places : List Delete) (k : ℕ) (w : Written) → slice_get (place_sigs places) k ≡ Some w → w ≡ sig_of_place (slice_get places k)
place_sig_at [] k w e = cc
place_sig_at (p ∷ places) zero w e = cc
place_sig_at (p ∷ places) (suc k) w e = place_sig_at places k w e

-- ---- lists of methods

numbers_in : (ms : List Method) → map (λ (m : Method). m.number) ms ≡ map (λ (m : M.Method). m.number) (methods_in ms)
numbers_in [] = refl
numbers_in (m ∷ ms) = ap (λ z. m.number ∷ z) (numbers_in ms)

every_in : (Q : M.Method → Type 0) (ms : List Method) → Every Q (methods_in ms) → Every (λ (m : Method). Q (method_in m)) ms
every_in Q [] h = tt
every_in Q (m ∷ ms) h = (h.0, every_in Q ms h.1)

module _ (P : Program) where
  worlds_of : (ds : List Def) → map (λ (m : M.Method). m.number) (methods_of P ds) ≡ worlds ds
  worlds_of [] = refl
  worlds_of (d ∷ ds) = ap (λ z. d.world ∷ z) (worlds_of ds)

  every_of : (ts : List Ty) (ds : List Def) → Every (AppliesTo P ts) ds → Every (λ (m : M.Method). Applicable (types_of P) m.sig ts) (methods_of P ds)
  every_of ts [] h = tt
  every_of ts (d ∷ ds) h = (h.0, every_of ts ds h.1)

  module _ (ms : List Method) (ds : List Def) (made : methods_in ms ≡ methods_of P ds) where
    pub numbers_increase : IsStrictlyIncreasing (worlds ds) → IsStrictlyIncreasing (map (λ (m : Method). m.number) ms)
    numbers_increase h = subst IsStrictlyIncreasing (sym (numbers_in ms ∙ ap (λ z. map (λ (m : M.Method). m.number) z) made ∙ worlds_of ds)) h

    pub all_apply : (ts : List Ty) → Every (AppliesTo P ts) ds → Every (λ (m : Method). Applicable (types_of P) (written_of m.sig.now) ts) ms
    all_apply ts h =
        every_in (λ (m : M.Method). Applicable (types_of P) m.sig ts) ms
        (subst (Every (λ (m : M.Method). Applicable (types_of P) m.sig ts)) (sym made) (every_of ts ds h))

  -- ---- at most one definition

  pub chosen_of_none : (ds : List Def) → ds ≡ [] → (ts : List Ty) → Chooses (types_of P) (methods_of P ds) ts C.None
  chosen_of_none ds e ts = subst (λ z. Chooses (types_of P) (methods_of P z) ts C.None) (sym e) (λ m c. (let (k, l, i) = c.applies.stands in absurd (omega arith)))

  only_one : (d : Def) (m : M.Method) → Contains (methods_of P (d ∷ [])) m → m.number ≡ d.world
  only_one d m (zero, l, e) = sym (ap (λ (z : M.Method). z.number) e)
  only_one d m (suc k, l, e) = absurd (omega arith)

  chosen_one : (d : Def) (ts : List Ty) → AppliesTo P ts d → Chooses (types_of P) (methods_of P (d ∷ [])) ts (C.Method d.world)
  chosen_one d ts a = (
    method_of P d,
    record {
      candidate = record {
        applies = record { stands = (0, omega arith, refl); below = a };
        last = λ l b e s. (let q = only_one d l b.stands in absurd (omega (arith, q, e)));
      };
      below = λ c k differ. absurd (differ (only_one d c k.applies.stands));
    },
    refl,
  )

  pub chosen_of_one : (ds : List Def) (d : Def) → ds ≡ d ∷ [] → (ts : List Ty) → Every (AppliesTo P ts) ds → Chooses (types_of P) (methods_of P ds) ts (C.Method d.world)
  chosen_of_one ds d e ts h =
      subst (λ z. Chooses (types_of P) (methods_of P z) ts (C.Method d.world)) (sym e)
      (chosen_one d ts (subst (Every (AppliesTo P ts)) e h).0)

-- a list of one member
pub single : (ds : List Def) (d : Def) → 1 ≤ length ds → length ds < 2 → ds ≡ slice_index_or ds 0 d ∷ []
single [] d l h = absurd (omega arith)
single (x ∷ []) d l h = refl
single (x ∷ y ∷ ds) d l h = absurd (omega arith)

-- what is chosen among the methods is chosen among the definitions
pub chosen_of_methods : (P : Program) (ds : List Def) (ms slice : List Method) (table : List Decl) (c : Choice) → methods_in ms ≡ methods_of P ds → slice ≡ ms → table ≡ all_types P
    → ((ts : List Ty) → Every (λ (m : Method). Applicable (table_of table) (written_of m.sig.now) ts) slice → Chooses (table_of table) (methods_in slice) ts c)
    → (ts : List Ty) → Every (AppliesTo P ts) ds → Chooses (types_of P) (methods_of P ds) ts c
chosen_of_methods P ds ms slice table c made s t h ts a =
    let over : Every (λ (m : Method). Applicable (types_of P) (written_of m.sig.now) ts) slice → Chooses (types_of P) (methods_in slice) ts c =
    subst (λ z. Every (λ (m : Method). Applicable (table_of z) (written_of m.sig.now) ts) slice → Chooses (table_of z) (methods_in slice) ts c) t (h ts) in
    let those : Every (λ (m : Method). Applicable (types_of P) (written_of m.sig.now) ts) slice =
    subst (Every (λ (m : Method). Applicable (types_of P) (written_of m.sig.now) ts)) (sym s) (all_apply P ms ds made ts a) in
    subst (λ ms. Chooses (types_of P) ms ts c) (ap methods_in s ∙ made) (over those)
