-- Whether the signature of a site or of a change applies, from what the prepared program and the test of signatures tell.
use Rattle.std.proofs.Common.{◌≡◌, ◌∙◌, ap, sym, subst, refl, ℕ, zero, suc, Bool, true, false, List, [], ◌∷◌, ◌++◌, slice_get, Option, None, Some}
use Rattle.std.specs.Bool.{Decides}
use Rattle.std.specs.Option.{MatchOption}
use Rattle.std.specs.List.{All, flat_map, list_all}
use Rattle.std.proofs.lemmas.Bool.{and_from}
use Rattle.std.proofs.lemmas.List.Elements.{All-head, All-tail}
use Rattle.jl_model.specs.declared.ty.Decl.{Decl}
use Rattle.jl_model.specs.declared.ty.Ty.{Ty}
use Rattle.jl_model.specs.declared.ty.Written.{Written}
use Rattle.jl_model.specs.Ancestors.{table_of}
use Rattle.jl_model.specs.Normal.{more}
use Rattle.jl_model.specs.Rows.{vars_in}
use Rattle.jl_model.specs.Signature.{Applicable}
use Rattle.jl_model.specs.Subtype.{opaque, is_concrete}
use Rattle.jl_model.specs.Valid.{is_known}
use Rattle.jl_program.specs.declared.tree.Delete.{Delete}
use Rattle.jl_program.specs.declared.tree.Site.{Site}
use Rattle.jl_program.specs.declared.tree.Program.{Program}
use Rattle.jl_program.specs.Scope.{all_types, types_of}
use Rattle.jl_program.specs.ValidValue.{IsValueType}
use Rattle.jl_calculus.specs.Definitions.{sig_of}
use Rattle.jl_calculus.specs.Ranges.{Head, head_of_site, head_of_place}
use Rattle.jl_sig.specs.Readied.{sigs_of, place_sigs}
use Rattle.jl_match.specs.KeptRow.{AreConcrete}
use Rattle.jl_match.proofs.ArgumentTypes.{no_arguments}
use Rattle.jl_match.proofs.ComponentLemmas.{none_of}
use Rattle.jl_methods.specs.Filters.{HasSig, HeadApplies}

pub decided : {B : Type 0} (o : Option B) (b : Bool) (A : Type 0) → MatchOption o (b ≡ false) (λ x. b ≡ true) → ((x : B) → o ≡ Some x → A) → (o ≡ None → A → ⊥) → Decides b A
decided None b A m has lacks = (λ e. cc, λ a. absurd (lacks refl a))
decided (Some x) b A m has lacks = (λ e. has x refl, λ a. m)

-- the types of a key may be asked about
pub concrete_types : (ds : List Decl) (ts : List Ty) → All (IsValueType ds) ts → AreConcrete ds ts
concrete_types ds [] h = no_arguments ds
concrete_types ds (t ∷ ts) h =
    let v = All-head (IsValueType ds) t ts h in
    let rest = concrete_types ds ts (All-tail (IsValueType ds) t ts h) in
    let vars : vars_in t ≡ [] = none_of (vars_in t) v.closed in
    record {
      normal = more t ts v.normal rest.normal;
      known = and_from (is_known _ t) (list_all (is_known _) ts) v.valid.known rest.known;
      closed = ap (λ xs. xs ++ flat_map vars_in ts) vars ∙ rest.closed;
      concrete = and_from (is_concrete (table_of ds) opaque t) (list_all (is_concrete (table_of ds) opaque) ts) v.concrete rest.concrete;
    }

pub concrete_in : (ds es : List Decl) (ts us : List Ty) → All (IsValueType ds) ts → es ≡ ds → us ≡ ts → AreConcrete es us
concrete_in ds es ts us h e f = subst (λ ds. AreConcrete ds us) (sym e) (subst (AreConcrete ds) (sym f) (concrete_types ds ts h))

-- ---- a signature as it is kept

module _ (P : Program) (ds : List Decl) (v w : Written) (ts us : List Ty) (types : ds ≡ all_types P) (written : v ≡ w) (same : us ≡ ts) where
  sig_applies_to : Applicable (table_of ds) w us → Applicable (types_of P) v ts
  sig_applies_to h =
      subst (Applicable (types_of P) v) same (subst (λ w. Applicable (types_of P) w us) (sym written) (subst (λ ds. Applicable (table_of ds) w us) types h))

  sig_applies_from : Applicable (types_of P) v ts → Applicable (table_of ds) w us
  sig_applies_from h =
      subst (λ ds. Applicable (table_of ds) w us) (sym types) (subst (λ w. Applicable (types_of P) w us) written (subst (Applicable (types_of P) v) (sym same) h))

sig_at : (sites : List Site) (n : ℕ) (w : Written) → slice_get (sigs_of sites) n ≡ Some w → sig_of (slice_get sites n) ≡ w
sig_at [] n w e = cc
sig_at (s ∷ sites) zero w e = cc
sig_at (s ∷ sites) (suc n) w e = sig_at sites n w e

module _ (P : Program) (site : ℕ) (ds : List Decl) (w : Written) (ts us : List Ty) (types : ds ≡ all_types P) (written : slice_get (sigs_of P.sites) site ≡ Some w) (same : us ≡ ts) where
  pub applies_to : Applicable (table_of ds) w us → Applicable (types_of P) (sig_of (slice_get P.sites site)) ts
  applies_to = sig_applies_to P ds (sig_of (slice_get P.sites site)) w ts us types (sig_at P.sites site w written) same

  pub applies_from : Applicable (types_of P) (sig_of (slice_get P.sites site)) ts → Applicable (table_of ds) w us
  applies_from = sig_applies_from P ds (sig_of (slice_get P.sites site)) w ts us types (sig_at P.sites site w written) same

-- ---- that of a change

pub site_sig : (sites : List Site) (n : ℕ) (w : Written) → slice_get (sigs_of sites) n ≡ Some w → HasSig (head_of_site (slice_get sites n)) w
site_sig [] n w e = cc
site_sig (s ∷ sites) zero w e = cc
site_sig (s ∷ sites) (suc n) w e = site_sig sites n w e

pub place_sig : (places : List Delete) (n : ℕ) (w : Written) → slice_get (place_sigs places) n ≡ Some w → HasSig (head_of_place (slice_get places n)) w
place_sig [] n w e = cc
place_sig (p ∷ places) zero w e = cc
place_sig (p ∷ places) (suc n) w e = place_sig places n w e

module _ (P : Program) (ds : List Decl) (w : Written) (ts us : List Ty) (types : ds ≡ all_types P) (same : us ≡ ts) where
  pub head_applies_to : (o : Option Head) → HasSig o w → Applicable (table_of ds) w us → HeadApplies P o ts
  head_applies_to None h = absurd h
  head_applies_to (Some head) h = sig_applies_to P ds head.sig w ts us types h same

  pub head_applies_from : (o : Option Head) → HasSig o w → HeadApplies P o ts → Applicable (table_of ds) w us
  head_applies_from None h = absurd h
  head_applies_from (Some head) h = sig_applies_from P ds head.sig w ts us types h same
