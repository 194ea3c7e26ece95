-- What the code that collects arguments needs.
use Rattle.std.proofs.Common.{◌≡◌, ◌∙◌, sym, ap, refl, ℕ, zero, suc, ◌+◌, ◌<◌, arith, add-one, List, [], ◌∷◌, ◌++◌, length, drop, get_or, append-nil, append_assoc}
use Rattle.std.specs.List.{flat_map}
use Rattle.jl_model.specs.declared.ty.Ty.{Ty}
use Rattle.jl_model.specs.declared.ty.Ty.TheViews as V
use Rattle.jl_model.specs.Refusals.{Given, given_from, given_in}
use Rattle.jl_sig.specs.declared.arguments.Argument.{Argument}
use Rattle.jl_sig.specs.Parts.{given, all_given}
use Rattle.jl_types.proofs.GivenLemmas.{given-any, given-var, given-union, given-tuple, given-nominal}

pub flat-suc : (ts : List Ty) (i : ℕ) (t : Ty) → i < length ts → t ≡ get_or ts i t → flat_map given_in (drop i ts) ≡ given_in t ++ flat_map given_in (drop (i + 1) ts)
flat-suc [] i t h e = absurd (omega arith)
flat-suc (x ∷ xs) zero t h e = ap (λ z. given_in z ++ flat_map given_in xs) (sym e)
flat-suc (x ∷ xs) (suc i) t h e = rw add-one (rw add-one at (flat-suc xs i t (omega arith) e))

drop_at : (us : List Ty) (n : ℕ) (u : Ty) → n < length us → u ≡ get_or us n u → drop n us ≡ u ∷ drop (n + 1) us
drop_at [] n u lt is = absurd (omega arith)
drop_at (x ∷ xs) zero u lt is = ap (λ z. z ∷ xs) (sym is)
drop_at (x ∷ xs) (suc n) u lt is = rw add-one (rw add-one at (drop_at xs n u (omega arith) is))

pub none_case : (gs hs : List Given) → hs ≡ [] → gs ≡ gs ++ hs
none_case gs hs e = sym (ap (λ z. gs ++ z) e ∙ append-nil gs)

pub nominal_case : (t : Ty) (k : ℕ) (ts us vs : List Ty) (old new last : List Given) → t ≡ V.Nominal k ts → us ≡ ts → vs ≡ ts → new ≡ old ++ given_from k 0 us → last ≡ new ++ flat_map given_in vs → last ≡ old ++ given_in t
nominal_case t k ts us vs old new last e f g h i =
    i ∙ ap (λ z. z ++ flat_map given_in vs) (h ∙ ap (λ z. old ++ given_from k 0 z) f) ∙ append_assoc old (given_from k 0 ts) (flat_map given_in vs)
    ∙ ap (λ z. old ++ (given_from k 0 ts ++ flat_map given_in z)) g ∙ ap (λ z. old ++ z) (sym (ap given_in e ∙ given-nominal k ts))

pub own_step : (k i : ℕ) (ts : List Ty) (t : Ty) (old new : List Given) (whole : List Given) → i < length ts → t ≡ get_or ts i t → new ≡ old ++ record { of = k; place = i; ty = t } ∷ []
    → (old ++ given_from k i (drop i ts)) ≡ whole → (new ++ given_from k (i + 1) (drop (i + 1) ts)) ≡ whole
own_step k i ts t old new whole l e s h =
    ap (λ z. z ++ given_from k (i + 1) (drop (i + 1) ts)) s ∙ append_assoc old (record { of = k; place = i; ty = t } ∷ []) (given_from k (i + 1) (drop (i + 1) ts))
    ∙ ap (λ z. old ++ z) (sym (ap (given_from k i) (drop_at ts i t l e))) ∙ h

given_push : (as_ : List Argument) (a : Argument) → all_given (as_ ++ a ∷ []) ≡ all_given as_ ++ given a ∷ []
given_push [] a = refl
given_push (b ∷ bs) a = ap (λ z. given b ∷ z) (given_push bs a)

pub own_push : (as_ bs : List Argument) (k i : ℕ) (u t : Ty) → bs ≡ as_ ++ record { of = k; place = i; ty = u } ∷ [] → u ≡ t → all_given bs ≡ all_given as_ ++ record { of = k; place = i; ty = t } ∷ []
own_push as_ bs k i u t e f = ap all_given e ∙ given_push as_ (record { of = k; place = i; ty = u }) ∙ ap (λ z. all_given as_ ++ record { of = k; place = i; ty = z } ∷ []) f

pub own_done : (k i : ℕ) (ts : List Ty) (old whole : List Given) → drop i ts ≡ [] → (old ++ given_from k i (drop i ts)) ≡ whole → old ≡ whole
own_done k i ts old whole e h = sym (append-nil old) ∙ ap (λ z. old ++ given_from k i z) (sym e) ∙ h

pub ruleset collecting = (flat-suc, given-any, given-var, given-union, given-tuple, given-nominal)
