-- A call is ambiguous between definitions of two sites that have as many components as it has arguments.
use Rattle.std.proofs.Common.{◌≡◌, ◌∙◌, sym, ap, subst, refl, ℕ, suc, ◌+◌, ◌<◌, ◌≤◌, ◌⊎◌, inl, inr, arith, Bool, true, false, cond, nat_eq, List, [], ◌∷◌, map, length, take, slice_get}
use Rattle.std.specs.List.{Contains, filter}
use Rattle.std.proofs.lemmas.List.{length-map}
use Rattle.jl_model.specs.declared.ty.Ty.{Ty}
use Rattle.jl_model.specs.declared.ty.Written.{Written}
use Rattle.jl_model.specs.Choice.{Method, IsCandidate, IsFirstUnordered, IsFirstTwo, IsUnordered}
use Rattle.jl_model.specs.Rows.{choices, forms, place_of, kind}
use Rattle.jl_model.specs.Signature.{Applicable, Both, both_end, both_more, SameSignature}
use Rattle.jl_program.specs.declared.choice.Choice.TheVariants as C
use Rattle.jl_program.specs.declared.tree.Program.{Program}
use Rattle.jl_program.specs.Scope.{types_of}
use Rattle.jl_program.specs.Valid.{IsValid}
use Rattle.jl_calculus.specs.declared.history.Def.{Def}
use Rattle.jl_calculus.specs.declared.history.Event.{Event}
use Rattle.jl_calculus.specs.Definitions.{sig_of, AppliesTo, HasSite, defs_in, IsStanding}
use Rattle.jl_calculus.specs.World.{changes, Selects}
use Rattle.jl_calculus.proofs.MethodLemmas.{method_standing}
use Rattle.jl_choosing.specs.ByFunction.{AreLatest, Rising}
use Rattle.jl_methods.proofs.ChangeLemmas.{def_of}
use Rattle.jl_methods.proofs.FilterLemmas.{here_or_there}
use Rattle.jl_methods.proofs.PutLemmas.{get_known}
use Rattle.jl_subsig.specs.Side.{Every}
use Rattle.jl_subsig.specs.Standing.{HaveLatest}
use Rattle.jl_subsig.proofs.LatestLemmas.{scope_at}
use Rattle.jl_subsig.proofs.ReflexiveLemmas.{reflexive}
use Rattle.jl_ambig.specs.Asked.{components_at, has_components}
use Rattle.jl_ambig.proofs.Members.{empty, of_map, of_flat, in_filter, filter_has}

-- ---- what applies has as many components as there are types

choice_length : (tss : List (List Ty)) (us : List Ty) → Contains (choices tss) us → length us ≡ length tss
choice_length [] us c = by (here_or_there [] us [] c)
  where
    by : ([] ≡ us) ⊎ Contains [] us → length us ≡ 0
    by (inl e) = ap length (sym e)
    by (inr k) = absurd (empty us k)
choice_length (ts ∷ tss) us c =
    let (t, i, d) = of_flat (λ (t : Ty). map (λ (us : List Ty). t ∷ us) (choices tss)) ts us c in
    let (vs, k, e) = of_map (λ (us : List Ty). t ∷ us) (choices tss) us d in
    ap length (sym e) ∙ ap suc (choice_length tss vs k)

both_length : (R : Ty → Ty → Type 0) (xs ys : List Ty) → Both R xs ys → length xs ≡ length ys
both_length R xs ys both_end = refl
both_length R xs ys (both_more x y us vs r b) = ap suc (both_length R us vs b)

module _ (P : Program) where
  pub applies_long : (ts : List Ty) (d : Def) → AppliesTo P ts d → length ts ≡ components_at P d.site
  applies_long ts d (r, f, row, serves, closed, both) =
      let s : Written = sig_of (slice_get P.sites d.site) in
      both_length _ ts r.parts both
      ∙ choice_length (map (forms (λ v. place_of s v (kind s v))) s.parts) r.parts row.parts
      ∙ length-map s.parts (forms (λ v. place_of s v (kind s v)))

  -- ---- definitions with so many components

  eq_true : (m n : ℕ) → m ≡ n → nat_eq m n ≡ true
  eq_true m n e = grind (arith, e)

  -- they have, of those that apply to so many types, the latest of each site
  pub latest_have : (n : ℕ) (all latest : List Def) → AreLatest all latest → (ts : List Ty) → length ts ≡ n → HaveLatest P ts all (filter (has_components P n) latest)
  latest_have n all latest h ts e = record {
    there = λ d c. h.there d (in_filter (has_components P n) latest d c);
    covered = λ d c a.
        (let l = h.covered d c in
        let long : components_at P l.by.site ≡ n = ap (components_at P) l.site_is ∙ sym (applies_long ts d a) ∙ e in
        record { by = l.by; stays = filter_has (has_components P n) latest l.by l.stays (eq_true (components_at P l.by.site) n long); site_is = l.site_is; later = l.later });
  }

  pub filter_sites : (p : Def → Bool) (ds : List Def) → Every (HasSite P) ds → Every (HasSite P) (filter p ds)
  filter_sites p [] h = tt
  filter_sites p (d ∷ ds) h = by (filter_sites p ds h.1) (p d)
    where
      by : Every (HasSite P) (filter p ds) → (b : Bool) → Every (HasSite P) (cond b (d ∷ filter p ds) (filter p ds))
      by more true = (h.0, more)
      by more false = more

rise_lower : (low high : ℕ) (ds : List Def) → low ≤ high → Rising high ds → Rising low ds
rise_lower low high [] l h = tt
rise_lower low high (d ∷ ds) l h = (omega (arith, l, h.0), h.1)

pub filter_rises : (low : ℕ) (p : Def → Bool) (ds : List Def) → Rising low ds → Rising low (filter p ds)
filter_rises low p [] h = tt
filter_rises low p (d ∷ ds) h = by (filter_rises (d.world + 1) p ds h.1) (p d)
  where
    by : Rising (d.world + 1) (filter p ds) → (b : Bool) → Rising low (cond b (d ∷ filter p ds) (filter p ds))
    by more true = (h.0, more)
    by more false = rise_lower low (d.world + 1) (filter p ds) (omega (arith, h.0)) more

-- ---- an ambiguous call

module _ (P : Program) (valid : IsValid P) (es : List Event) (f w : ℕ) where
  pub standing_site : (d : Def) → IsStanding P es f w d → HasSite P d
  standing_site d h = let i = def_of P f 1 (take w (changes es)) d h.made in get_known P.sites d.site i.site i.stands

  -- two definitions of two sites that stand and apply
  pub record AreTwo (ts : List Ty) : Type 0 where
    pub one : Def
    pub other : Def
    pub one_stands : IsStanding P es f w one
    pub other_stands : IsStanding P es f w other
    pub one_applies : AppliesTo P ts one
    pub other_applies : AppliesTo P ts other
    pub apart : one.site ≡ other.site → ⊥

  module _ (ts : List Ty) (a b : ℕ) (h : Selects P es f ts w (C.Ambiguous a b)) where
    ms : List Method
    ms = h.0

    two_of : (c d : Method) → IsCandidate (types_of P) h.0 ts c → IsCandidate (types_of P) h.0 ts d → c.number < d.number → AreTwo ts
    two_of c d i j l =
        let (x, xs, xe) = method_standing P es f w c ((h.1 c i.applies.below).0 i.applies.stands) in
        let (y, ys, ye) = method_standing P es f w d ((h.1 d j.applies.below).0 j.applies.stands) in
        record {
          one = x;
          other = y;
          one_stands = xs;
          other_stands = ys;
          one_applies = subst (λ (z : Method). Applicable (types_of P) z.sig ts) (sym xe) i.applies.below;
          other_applies = subst (λ (z : Method). Applicable (types_of P) z.sig ts) (sym ye) j.applies.below;
          apart = λ e. (
              let self = reflexive (types_of P) (sig_of (slice_get P.sites x.site)) (scope_at P valid x (standing_site x xs)) in
              let left : sig_of (slice_get P.sites x.site) ≡ c.sig = ap (λ (z : Method). z.sig) xe in
              let right : sig_of (slice_get P.sites x.site) ≡ d.sig = ap (λ s. sig_of (slice_get P.sites s)) e ∙ ap (λ (z : Method). z.sig) ye in
              let same : SameSignature (types_of P) (sig_of (slice_get P.sites x.site)) (sig_of (slice_get P.sites x.site)) = (self, self) in
              i.last d j.applies l
              (subst (λ z. SameSignature (types_of P) z d.sig) left (subst (λ z. SameSignature (types_of P) (sig_of (slice_get P.sites x.site)) z) right same)));
        }

    pub two : AreTwo ts
    two = by h.2.pair.0 h.2.pair.1 h.2.pair.4
      where
        by : (c d : Method) → IsFirstUnordered (types_of P) h.0 ts c d ⊎ (((e k : Method) → IsUnordered (types_of P) h.0 ts e k → ⊥) × IsFirstTwo (types_of P) h.0 ts c d) → AreTwo ts
        by c d (inl u) = two_of c d u.unordered.first u.unordered.second u.unordered.earlier
        by c d (inr (none_, t)) = two_of c d t.first t.second t.earlier

-- a list with two elements that differ has two at least
two_long : (ds : List Def) (x y : Def) → Contains ds x → Contains ds y → (x.site ≡ y.site → ⊥) → 2 ≤ length ds
two_long [] x y c d n = absurd (empty x c)
two_long (z ∷ []) x y c d n = absurd (n (ap (λ (u : Def). u.site) (sym (only x c) ∙ only y d)))
  where
    only : (u : Def) → Contains (z ∷ []) u → z ≡ u
    only u k = by (here_or_there z u [] k)
      where
        by : (z ≡ u) ⊎ Contains [] u → z ≡ u
        by (inl e) = e
        by (inr m) = absurd (empty u m)
two_long (z ∷ v ∷ ds) x y c d n = omega arith

-- so where at most one site has so many components, no call with so many arguments is ambiguous
pub few_silent : (P : Program) → IsValid P → (es : List Event) (f w n : ℕ) (latest : List Def) → AreLatest (defs_in P es f w) latest → length (filter (has_components P n) latest) < 2
    → (ts : List Ty) → length ts ≡ n → (a b : ℕ) → Selects P es f ts w (C.Ambiguous a b) → ⊥
few_silent P v es f w n latest h l ts e a b s =
    let t = two P v es f w ts a b s in
    let have = latest_have P n (defs_in P es f w) latest h ts e in
    let x = have.covered t.one t.one_stands.made t.one_applies in
    let y = have.covered t.other t.other_stands.made t.other_applies in
    let m = two_long (filter (has_components P n) latest) x.by y.by x.stays y.stays (λ q. t.apart (sym x.site_is ∙ q ∙ y.site_is)) in
    omega (arith, l, m)
