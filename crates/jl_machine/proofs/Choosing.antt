-- What the choice of a method asks for and tells, where the code chooses.
use Rattle.std.proofs.Common.{◌≡◌, refl, sym, ap, ◌∙◌, subst, ℕ, zero, suc, ◌<◌, List, [], ◌∷◌, ◌++◌, map, length, slice_get, Option, None, Some, arith}
use Rattle.std.specs.List.{All, flat_map, list_all}
use Rattle.std.proofs.lemmas.Bool.{and_from}
use Rattle.std.proofs.lemmas.List.Elements.{All-head, All-tail}
use Rattle.jl_model.specs.declared.ty.Bound.{Bound}
use Rattle.jl_model.specs.declared.ty.Decl.{Decl}
use Rattle.jl_model.specs.declared.ty.Ty.{Ty}
use Rattle.jl_model.specs.declared.ty.Written.{Written}
use Rattle.jl_model.specs.Ancestors.{table_of}
use Rattle.jl_model.specs.Bindings.{binding, bindings}
use Rattle.jl_model.specs.AllRows.{each_var}
use Rattle.jl_model.specs.Normal.{more}
use Rattle.jl_model.specs.Rows.{vars_in}
use Rattle.jl_model.specs.Signature.{Applicable}
use Rattle.jl_model.specs.Subtype.{opaque, is_concrete}
use Rattle.jl_model.specs.Valid.{is_known}
use Rattle.jl_program.specs.declared.choice.Choice.TheVariants as C
use Rattle.jl_program.specs.declared.tree.Program.{Program}
use Rattle.jl_program.specs.declared.tree.Site.{Site}
use Rattle.jl_program.specs.declared.value.Value.{Value}
use Rattle.jl_program.specs.Scope.{all_types, types_of}
use Rattle.jl_program.specs.TypeOf.{type_of}
use Rattle.jl_program.specs.ValidValue.{IsValueType}
use Rattle.jl_calculus.specs.declared.history.Event.{Event}
use Rattle.jl_calculus.specs.Kept.{Keeps}
use Rattle.jl_calculus.specs.Legal.{IsKeyOf}
use Rattle.jl_calculus.specs.World.{Selects}
use Rattle.jl_sig.specs.Readied.{sigs_of}
use Rattle.jl_match.specs.KeptRow.{AreConcrete}
use Rattle.jl_match.proofs.ArgumentTypes.{no_arguments}
use Rattle.jl_match.proofs.ComponentLemmas.{none_of}
use Rattle.jl_task.specs.declared.point.Work.TheVariants as W
use Rattle.jl_task.proofs.AskedLemmas.{call_key}
use Rattle.jl_task.proofs.SelectedLemmas.{IsSelected}
use Rattle.jl_task.specs.Knows.{Knows, Asked, IsMethod, IsRight, IsOfSite, variables_of}
use Rattle.jl_task.specs.Fits.{Progress, Fitting}
use Rattle.jl_task.proofs.Calling.{of_site}
use Rattle.jl_machine.specs.Steps.{AppliesAt, variables_at}
use Rattle.jl_machine.proofs.Stepping.{method_there, site_below, applies_at}

-- the types of a key may be asked about
pub concrete_types : (ds : List Decl) (ts : List Ty) → All (IsValueType ds) ts → AreConcrete ds ts
concrete_types ds [] h = no_arguments ds
concrete_types ds (t ∷ ts) h =
    let v = All-head (IsValueType ds) t ts h in
    let rest = concrete_types ds ts (All-tail (IsValueType ds) t ts h) in
    let vars : vars_in t ≡ [] = none_of (vars_in t) v.closed in
    record {
      normal = more t ts v.normal rest.normal;
      known = and_from (is_known _ t) (list_all (is_known _) ts) v.valid.known rest.known;
      closed = ap (λ xs. xs ++ flat_map vars_in ts) vars ∙ rest.closed;
      concrete = and_from (is_concrete (table_of ds) opaque t) (list_all (is_concrete (table_of ds) opaque) ts) v.concrete rest.concrete;
    }

-- what was asked twice was asked
pub asked_twice : (k k1 k2 : Knows) → Asked k k1 → Asked k1 k2 → Asked k k2
asked_twice k k1 k2 a b = record {
  grew = record {
    program = b.grew.program ∙ a.grew.program;
    places = b.grew.places ∙ a.grew.places;
    task = b.grew.task ∙ a.grew.task;
    start = b.grew.start ∙ a.grew.start;
    first = b.grew.first ∙ a.grew.first;
    world = let u = a.grew.world in let v = b.grew.world in omega (arith, u, v);
    seen = let u = a.grew.seen in let v = b.grew.seen in omega (arith, u, v);
    agrees = λ es h. a.grew.agrees es (b.grew.agrees es h);
    learnt = λ i h. b.grew.learnt i (a.grew.learnt i h);
  };
  looks = b.looks ∙ a.looks;
  own = b.own ∙ a.own;
  starts = b.starts ∙ a.starts;
  follows = λ c is h. b.follows c is (a.follows c is h);
}

-- the key of a call
module _ (k : Knows) (t : Progress) (f w : ℕ) (vs : List Value) (h : Fitting k (W.Calling f w vs) t) where
  pub key_is : (ts : List Ty) → ts ≡ map type_of vs → IsKeyOf k.program (record { function = f; types = ts })
  key_is ts e = subst (λ us. IsKeyOf k.program (record { function = f; types = us })) (sym e) (call_key k.program h.valid.views f w vs t.now h.valid h.good)

  pub concrete_is : (P : Program) (ts : List Ty) → P ≡ k.program → ts ≡ map type_of vs → AreConcrete (all_types P) ts
  concrete_is P ts eP e = let key = key_is ts e in subst (λ Q. AreConcrete (all_types Q) ts) (sym eP) (concrete_types (all_types k.program) ts key.types)

-- a method that was selected
module _ (k k' : Knows) (P : Program) (f w d site : ℕ) (ts : List Ty) (eP : P ≡ k.program) (asked : Asked k k') (right : IsRight k' f ts w (C.Method d)) (at : site ≡ k'.site d) where
  abbrev chosen : IsOfSite k' f ts w site
  chosen = of_site k' f ts w d site right at

  pub chosen_there : IsSelected P f site ts
  chosen_there = subst (λ Q. IsSelected Q f site ts) (asked.grew.program ∙ sym eP) (method_there k' f w site ts chosen)

  pub chosen_below : site < length P.sites
  chosen_below = site_below P f site ts chosen_there

  pub chosen_applies : AppliesAt P ts (slice_get P.sites site)
  chosen_applies = applies_at P f site ts chosen_there

  -- what is known of it later
  pub chosen_later : (k2 : Knows) → Asked k' k2 → IsOfSite k2 f ts w site
  chosen_later k2 b es a =
      let (c, sel, is) = chosen es (b.grew.agrees es a) in (c, subst (λ Q. Selects Q es f ts w (C.Method c)) (sym b.grew.program) sel, is)

  pub kept_later : (k2 : Knows) → Asked k' k2 → (es : List Event) → k2.agrees es → Keeps k2.program es k2.places f ts w
  kept_later k2 b es a =
      subst (λ room. Keeps k2.program es room f ts w) (sym b.grew.places) (subst (λ Q. Keeps Q es k'.places f ts w) (sym b.grew.program) (right.kept es (b.grew.agrees es a)))

  -- what the dispatcher is asked to keep
  pub chosen_method : (us : List Ty) → variables_at P ts (slice_get P.sites site) ≡ us → IsMethod k' f ts w site us
  chosen_method us bound = record {
    right = chosen;
    kept = right.kept;
    bound = same (slice_get k'.program.sites site) ∙ subst (λ Q. variables_at Q ts (slice_get Q.sites site) ≡ us) (eP ∙ sym asked.grew.program) bound;
  }
    where
      same : (o : Option Site) → variables_of k' ts o ≡ variables_at k'.program ts o
      same None = refl
      same (Some s) = refl

-- ---- the types of the variables of a signature

sig_at : (sites : List Site) (n : ℕ) (w : Written) → slice_get (sigs_of sites) n ≡ Some w → (site : Site) × (slice_get sites n ≡ Some site) × (site.sig ≡ w)
sig_at [] n w e = absurd (cc)
sig_at (x ∷ xs) zero w e = (x, refl, cc)
sig_at (x ∷ xs) (suc n) w e = sig_at xs n w e

pub variables_found : (P : Program) (ts : List Ty) (site : ℕ) (w : Written) → slice_get (sigs_of P.sites) site ≡ Some w → variables_at P ts (slice_get P.sites site) ≡ bindings (types_of P) w ts
variables_found P ts site w e =
    let (x, there, is) = sig_at P.sites site w e in
    ap (variables_at P ts) there ∙ ap (λ s. bindings (types_of P) s ts) is

none_bound : (P : Program) (ts : List Ty) (w : Written) → length w.vars ≡ 0 → bindings (types_of P) w ts ≡ []
none_bound P ts w e = at w.vars e
  where
    at : (vars : List Bound) → length vars ≡ 0 → each_var (binding (types_of P) w ts) 0 vars ≡ []
    at [] h = refl
    at (x ∷ xs) h = absurd (cc)

pub no_variables : (P : Program) (ts us : List Ty) (site : ℕ) (w : Written) → slice_get (sigs_of P.sites) site ≡ Some w → length w.vars ≡ 0 → us ≡ [] → variables_at P ts (slice_get P.sites site) ≡ us
no_variables P ts us site w e none_there empty = variables_found P ts site w e ∙ none_bound P ts w none_there ∙ sym empty

pub applies_to : (P : Program) (ts : List Ty) (site : ℕ) (w : Written) → slice_get (sigs_of P.sites) site ≡ Some w → AppliesAt P ts (slice_get P.sites site) → Applicable (types_of P) w ts
applies_to P ts site w e h =
    let (x, there, is) = sig_at P.sites site w e in
    let applies : Applicable (types_of P) x.sig ts = subst (AppliesAt P ts) there h in
    subst (λ s. Applicable (types_of P) s ts) is applies
