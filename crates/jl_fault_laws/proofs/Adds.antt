-- What a part adds to a state: the faults of the uses in it, and a site for each method that they define.
use Rattle.std.proofs.Common.{ℕ, ◌+◌, arith, List, [], ◌++◌, length, ◌≡◌, Option, Some, None, refl, ap, subst}
use Rattle.jl_program.specs.declared.prelude.TheConstants.{PRELUDE_SITES}
use Rattle.jl_written.specs.declared.fault.Fault.{Fault}
use Rattle.jl_written.specs.declared.fault.StaticKind.{StaticKind}
use Rattle.jl_resolve_forms.specs.declared.known.Known.{Known}
use Rattle.jl_resolve_forms.specs.declared.state.State.{State}
use Rattle.jl_resolve_forms.specs.Scopes.{note_if, merge_fault}
use Rattle.jl_resolve_forms.specs.TypesIn.{Tests}
use Rattle.jl_fault_laws.specs.Uses.{Use}
use Rattle.jl_fault_laws.specs.Rows.{definitions}
use Rattle.jl_fault_laws.proofs.Firsts.{Tells, nothing, two, same}
use Rattle.jl_fault_laws.proofs.Faults.{all_faults, faults_append, definitions_append, TellsOf}

pub record Adds (t : Tests) (k : Known) (us : List Use) (s z : State) : Type 0 where
  pub sites : length z.sites ≡ length s.sites + definitions us
  pub tells : (n : ℕ) → length s.sites ≡ n + PRELUDE_SITES → Tells (all_faults t k n us) s.fault z.fault

pub adds_nothing : (t : Tests) (k : Known) (s : State) → Adds t k [] s s
adds_nothing t k s = record { sites = omega arith; tells = λ n e. nothing s.fault }

pub adds_joined : (t : Tests) (k : Known) (us vs : List Use) (s y z : State) → Adds t k us s y → Adds t k vs y z → Adds t k (us ++ vs) s z
adds_joined t k us vs s y z a b =
    let p = a.sites in
    let q = b.sites in
    let d = definitions_append us vs in
    record {
      sites = omega (arith, p, q, d);
      tells = λ n e.
          let m = n + definitions us in
          same (all_faults t k n us ++ all_faults t k m vs) (all_faults t k n (us ++ vs)) s.fault z.fault (faults_append t k n us vs)
          (two (all_faults t k n us) (all_faults t k m vs) s.fault y.fault z.fault (a.tells n e) (b.tells m (omega (arith, p, e))));
    }

-- uses that define no method add no site
pub adds_alike : (t : Tests) (k : Known) (us : List Use) (s z : State) → definitions us ≡ 0 → z.sites ≡ s.sites → TellsOf t k us s.fault z.fault → Adds t k us s z
adds_alike t k us s z d e h = let l = ap (λ xs. length xs) e in record { sites = omega (arith, d, l); tells = λ n i. h n }

pub adds_same : (t : Tests) (k : Known) (us vs : List Use) (s z : State) → us ≡ vs → Adds t k us s z → Adds t k vs s z
adds_same t k us vs s z e h = subst (λ x. Adds t k x s z) e h

-- a fault adds no site
pub note_if_same : (at : ℕ) (o : Option StaticKind) (s : State) → (note_if at o s).sites ≡ s.sites
note_if_same at None s = refl
note_if_same at (Some k) s = refl

pub merge_fault_same : (o : Option Fault) (s : State) → (merge_fault o s).sites ≡ s.sites
merge_fault_same None s = refl
merge_fault_same (Some f) s = refl
