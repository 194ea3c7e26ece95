-- The choice for a key is the same in all worlds that a row of it covers: no change between them touches the key, so the methods
-- that stand and apply are the same.
use Rattle.std.proofs.Common.{◌≡◌, ◌∙◌, ap, sym, subst, refl, ℕ, zero, suc, ◌+◌, ◌<◌, ◌≤◌, ◌⊎◌, inl, inr, arith, Bool, true, false, cond, nat_eq, nat_le, List, [], ◌∷◌, ◌++◌, take, slice_get, Option, None, Some}
use Rattle.std.specs.List.{Contains}
use Rattle.jl_model.specs.Choice.{Method}
use Rattle.jl_model.specs.Signature.{Applicable}
use Rattle.jl_model.specs.Subtype.{Table}
use Rattle.jl_model.specs.declared.ty.Key.{Key}
use Rattle.jl_model.specs.declared.ty.Ty.{Ty}
use Rattle.jl_program.specs.Scope.{types_of}
use Rattle.jl_program.specs.declared.choice.Choice.{Choice}
use Rattle.jl_program.specs.declared.choice.Choice.TheVariants as C
use Rattle.jl_program.specs.declared.tree.Program.{Program}
use Rattle.jl_program.specs.declared.tree.Site.{Site}
use Rattle.jl_program.specs.Valid.{IsValid}
use Rattle.jl_calculus.specs.declared.history.Change.{Change}
use Rattle.jl_calculus.specs.declared.history.Change.TheVariants as Ch
use Rattle.jl_calculus.specs.declared.history.Event.{Event}
use Rattle.jl_calculus.specs.Legal.{IsKeyOf}
use Rattle.jl_calculus.specs.Ranges.{head_of_site, HeadTouches, ChangeTouches, Touches, Covers, SelectsSite, IsRightFill, MayBegin}
use Rattle.jl_calculus.specs.World.{changes, change_at, world_of, method_at, methods_from, methods_made, Deletes, Stands, Selects}
use Rattle.jl_calculus.proofs.DeletedLemmas.{deletion_touches}
use Rattle.jl_calculus.proofs.GrowthLemmas.{selects_on, site_more, touches_on, touches_known}

-- ---- the methods of a function among definitions

-- a method is that of a definition, counted from here on
pub record IsOf (P : Program) (f n : ℕ) (cs : List Change) (m : Method) : Type 0 where
  pub place : ℕ
  pub number : ℕ
  pub site : Site
  pub stands : slice_get cs place ≡ Some (Ch.Def number)
  pub there : slice_get P.sites number ≡ Some site
  pub function : site.function ≡ f
  pub is : record { number = n + place; sig = site.sig } ≡ m

further : (P : Program) (f n : ℕ) (c : Change) (cs : List Change) (m : Method) → IsOf P f (n + 1) cs m → IsOf P f n (c ∷ cs) m
further P f n c cs m h = record {
  place = suc h.place;
  number = h.number;
  site = h.site;
  stands = h.stands;
  there = h.there;
  function = h.function;
  is = ap (λ (k : ℕ). record { number = k; sig = h.site.sig }) (let z : n + suc h.place ≡ n + 1 + h.place = omega arith in z) ∙ h.is;
}

here : (P : Program) (f n s : ℕ) (cs : List Change) (site : Site) (m : Method) → slice_get P.sites s ≡ Some site → site.function ≡ f → record { number = n; sig = site.sig } ≡ m
    → IsOf P f n (Ch.Def s ∷ cs) m
here P f n s cs site m t e i = record {
  place = 0;
  number = s;
  site = site;
  stands = refl;
  there = t;
  function = e;
  is = ap (λ (k : ℕ). record { number = k; sig = site.sig }) (let z : n + 0 ≡ n = omega arith in z) ∙ i;
}

pub is_of : (P : Program) (f n : ℕ) (cs : List Change) (m : Method) → Contains (methods_from P f n cs) m → IsOf P f n cs m
is_of P f n [] m (k, l, e) = absurd (omega (arith, l))
is_of P f n (Ch.Del p ∷ cs) m i = further P f n (Ch.Del p) cs m (is_of P f (n + 1) cs m i)
is_of P f n (Ch.Def s ∷ cs) m i = by (slice_get P.sites s) refl i (λ d. further P f n (Ch.Def s) cs m (is_of P f (n + 1) cs m d))
  where
    if_function : (site : Site) → slice_get P.sites s ≡ Some site → (b : Bool) → nat_eq site.function f ≡ b
        → Contains (cond b (record { number = n; sig = site.sig } ∷ methods_from P f (n + 1) cs) (methods_from P f (n + 1) cs)) m
        → (Contains (methods_from P f (n + 1) cs) m → IsOf P f n (Ch.Def s ∷ cs) m) → IsOf P f n (Ch.Def s ∷ cs) m
    if_function site t true q (zero, l, e) go = here P f n s cs site m t (grind (arith, q)) e
    if_function site t true q (suc k, l, e) go = go (k, omega (arith, l), e)
    if_function site t false q d go = go d

    by : (o : Option Site) → slice_get P.sites s ≡ o → Contains (method_at o f n (methods_from P f (n + 1) cs)) m
        → (Contains (methods_from P f (n + 1) cs) m → IsOf P f n (Ch.Def s ∷ cs) m) → IsOf P f n (Ch.Def s ∷ cs) m
    by None t d go = go d
    by (Some site) t d go = if_function site t (nat_eq site.function f) refl d go

-- and each such method stands there
behind : (o : Option Site) (f n : ℕ) (ms : List Method) (m : Method) → Contains ms m → Contains (method_at o f n ms) m
behind None f n ms m c = c
behind (Some site) f n ms m (k, l, e) = by (nat_eq site.function f)
  where
    by : (b : Bool) → Contains (cond b (record { number = n; sig = site.sig } ∷ ms) ms) m
    by true = (suc k, omega (arith, l), e)
    by false = (k, l, e)

at_front : (site : Site) (f n : ℕ) (ms : List Method) (m : Method) → site.function ≡ f → record { number = n; sig = site.sig } ≡ m → Contains (method_at (Some site) f n ms) m
at_front site f n ms m e i =
    let q : nat_eq site.function f ≡ true = grind (arith, e) in
    subst (λ (b : Bool). Contains (cond b (record { number = n; sig = site.sig } ∷ ms) ms) m) (sym q) (0, omega arith, i)

pub contains_of : (P : Program) (f n : ℕ) (cs : List Change) (m : Method) (place number : ℕ) (site : Site) → slice_get cs place ≡ Some (Ch.Def number) → slice_get P.sites number ≡ Some site → site.function ≡ f
    → record { number = n + place; sig = site.sig } ≡ m → Contains (methods_from P f n cs) m
contains_of P f n [] m place number site a t e i = cc
contains_of P f n (Ch.Del p ∷ cs) m zero number site a t e i = cc
contains_of P f n (Ch.Def s ∷ cs) m zero number site a t e i =
    let q : s ≡ number = ap number_or a in
    subst (λ (o : Option Site). Contains (method_at o f n (methods_from P f (n + 1) cs)) m) (sym (ap (slice_get P.sites) q ∙ t))
    (at_front site f n (methods_from P f (n + 1) cs) m e (ap (λ (k : ℕ). record { number = k; sig = site.sig }) (let z : n ≡ n + 0 = omega arith in z) ∙ i))
  where
    number_or : Option Change → ℕ
    number_or None = 0
    number_or (Some (Ch.Def k)) = k
    number_or (Some (Ch.Del k)) = 0
contains_of P f n (Ch.Del p ∷ cs) m (suc place) number site a t e i =
    contains_of P f (n + 1) cs m place number site a t e (ap (λ (k : ℕ). record { number = k; sig = site.sig }) (let z : n + 1 + place ≡ n + suc place = omega arith in z) ∙ i)
contains_of P f n (Ch.Def s ∷ cs) m (suc place) number site a t e i =
    behind (slice_get P.sites s) f n (methods_from P f (n + 1) cs) m
    (contains_of P f (n + 1) cs m place number site a t e (ap (λ (k : ℕ). record { number = k; sig = site.sig }) (let z : n + 1 + place ≡ n + suc place = omega arith in z) ∙ i))

-- ---- the first definitions

pub taken_below : {X : Type 0} (w : ℕ) (xs : List X) (k : ℕ) (x : X) → slice_get (take w xs) k ≡ Some x → (k < w) × (slice_get xs k ≡ Some x)
taken_below zero xs k x h = cc
taken_below (suc w) [] k x h = cc
taken_below (suc w) (y ∷ xs) zero x h = (omega arith, h)
taken_below (suc w) (y ∷ xs) (suc k) x h = let r = taken_below w xs k x h in (omega (arith, r.0), r.1)

pub taken : {X : Type 0} (w : ℕ) (xs : List X) (k : ℕ) (x : X) → k < w → slice_get xs k ≡ Some x → slice_get (take w xs) k ≡ Some x
taken zero xs k x l h = absurd (omega (arith, l))
taken (suc w) [] k x l h = cc
taken (suc w) (y ∷ xs) zero x l h = h
taken (suc w) (y ∷ xs) (suc k) x l h = taken w xs k x (omega (arith, l)) h

-- a method that stands in a world was made up to it
pub made_in : (P : Program) (es : List Event) (f w : ℕ) (m : Method) → Contains (methods_made P es f w) m → (1 ≤ m.number) × (m.number ≤ w)
made_in P es f w m i =
    let o = is_of P f 1 (take w (changes es)) m i in
    let place = taken_below w (changes es) o.place (Ch.Def o.number) o.stands in
    let number : 1 + o.place ≡ m.number = ap (λ (x : Method). x.number) o.is in
    (omega (arith, number), omega (arith, number, place.0))

-- a method that is chosen in a world is one of its definitions
pub of_world : (P : Program) (es : List Event) (f : ℕ) (ts : List Ty) (w d : ℕ) → Selects P es f ts w (C.Method d) → (1 ≤ d) × (d ≤ w)
of_world P es f ts w d (ms, are, (m, b, e)) =
    let k = made_in P es f w m ((are m b.candidate.applies.below).0 b.candidate.applies.stands).made in
    (omega (arith, k.0, e), omega (arith, k.1, e))

-- ---- between two worlds

module _ (P : Program) (valid : IsValid P) (es : List Event) (key : Key) (proper : IsKeyOf P key) (first w : ℕ) (h : Covers P es key first w) where
  abbrev n : Table
  n = types_of P

  abbrev f : ℕ
  f = key.function

  -- a method that applies in the later world was made up to the earlier one
  made_before : (m : Method) → Applicable n m.sig key.types → Contains (methods_made P es f w) m → Contains (methods_made P es f first) m
  made_before m a i =
      let o = is_of P f 1 (take w (changes es)) m i in
      let place = taken_below w (changes es) o.place (Ch.Def o.number) o.stands in
      let sig : o.site.sig ≡ m.sig = ap (λ (x : Method). x.sig) o.is in
      let touches : Touches P es (suc o.place) key =
      subst (λ (x : Option Change). ChangeTouches P x key) (sym place.1)
      (subst (λ (x : Option Site). HeadTouches P (head_of_site x) key) (sym o.there) (o.function, subst (λ s. Applicable n s key.types) (sym sig) a)) in
      let before : o.place < first = grind (arith, place.0, h.going (suc o.place), touches) in
      contains_of P f 1 (take first (changes es)) m o.place o.number o.site (taken first (changes es) o.place (Ch.Def o.number) before place.1) o.there o.function o.is

  made_after : (m : Method) → Contains (methods_made P es f first) m → Contains (methods_made P es f w) m
  made_after m i =
      let o = is_of P f 1 (take first (changes es)) m i in
      let place = taken_below first (changes es) o.place (Ch.Def o.number) o.stands in
      contains_of P f 1 (take w (changes es)) m o.place o.number o.site (taken w (changes es) o.place (Ch.Def o.number) (omega (arith, place.0, h.begun)) place.1) o.there o.function o.is

  -- no change between the two deletes a method that applies
  none_between : (m : Method) → Applicable n m.sig key.types → Contains (methods_made P es f first) m → (e : ℕ) → first < e → e ≤ w → Deletes P (change_at es e) f m.sig → ⊥
  none_between m a i e low high d =
      let o = is_of P f 1 (take first (changes es)) m i in
      let sig : m.sig ≡ o.site.sig = sym (ap (λ (x : Method). x.sig) o.is) in
      h.going e low high
      (deletion_touches P valid key proper (change_at es e) o.number o.site o.there (subst (λ s. Applicable n s key.types) sig a) (subst (λ s. Deletes P (change_at es e) f s) sig d))

  stands_after : (m : Method) → Applicable n m.sig key.types → Stands P es f first m → Stands P es f w m
  stands_after m a s = record { made = made_after m s.made; kept = λ e low high d. by e low high d (nat_le e first) refl }
    where
      by : (e : ℕ) → m.number < e → e ≤ w → Deletes P (change_at es e) f m.sig → (b : Bool) → nat_le e first ≡ b → ⊥
      by e low high d true q = s.kept e low (grind (arith, q)) d
      by e low high d false q = none_between m a s.made e (grind (arith, q)) high d

  stands_before : (m : Method) → Applicable n m.sig key.types → Stands P es f w m → Stands P es f first m
  stands_before m a s = record { made = made_before m a s.made; kept = λ e low high d. s.kept e low (omega (arith, high, h.begun)) d }

  pub choice_after : (c : Choice) → Selects P es f key.types first c → Selects P es f key.types w c
  choice_after c (ms, are, k) = (ms, (λ m a. ((λ i. stands_after m a ((are m a).0 i)), (λ s. (are m a).1 (stands_before m a s)))), k)

  pub choice_before : (c : Choice) → Selects P es f key.types w c → Selects P es f key.types first c
  choice_before c (ms, are, k) = (ms, (λ m a. ((λ i. stands_before m a ((are m a).0 i)), (λ s. (are m a).1 (stands_after m a s)))), k)

pub row_tells : (P : Program) → IsValid P → (es : List Event) (key : Key) (site first w : ℕ) → IsKeyOf P key → IsRightFill P es key site first → Covers P es key first w → SelectsSite P es key w site
row_tells P valid es key site first w proper r h = let (d, s, e) = r.choice in (d, choice_after P valid es key proper first w h (C.Method d) s, e)

pub row_made : (P : Program) → IsValid P → (es : List Event) (key : Key) (site first w : ℕ) → IsKeyOf P key → MayBegin P es key first → Covers P es key first w → SelectsSite P es key w site → IsRightFill P es key site first
row_made P valid es key site first w proper b h (d, s, e) = record { begun = b; choice = (d, choice_before P valid es key proper first w h (C.Method d) s, e) }

-- ---- a right fill stays so when the list grows

begun_on : (P : Program) (es more : List Event) (key : Key) (first : ℕ) → MayBegin P es key first → MayBegin P (es ++ more) key first
begun_on P es more key first (inl e) = inl e
begun_on P es more key first (inr (low, t)) = inr (low, touches_on P es more first key t)

first_known : (P : Program) (es : List Event) (key : Key) (first : ℕ) → MayBegin P es key first → first ≤ world_of es
first_known P es key first (inl e) = omega (arith, e)
first_known P es key first (inr (low, t)) = touches_known P es first key t

pub right_on : (P : Program) (es more : List Event) (key : Key) (site first : ℕ) → IsRightFill P es key site first → IsRightFill P (es ++ more) key site first
right_on P es more key site first h =
    let (d, s, e) = h.choice in
    let l = first_known P es key first h.begun in
    let n = of_world P es key.function key.types first d s in
    record {
      begun = begun_on P es more key first h.begun;
      choice = (d, selects_on P es more key.function key.types first (C.Method d) l s, site_more P es more d (omega (arith, n.1, l)) ∙ e);
    }
