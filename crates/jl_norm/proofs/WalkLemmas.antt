-- The walk over the arguments in the types of a declaration, from the first of a list to the others.
use Rattle.std.proofs.Common.{◌≡◌, ◌∙◌, sym, ap, subst, refl, ℕ, zero, ◌+◌, ◌-◌, ◌<◌, ◌≤◌, arith, Bool, true, false, ◌||◌, List, [], ◌∷◌, ◌++◌, length, take, drop, get_or, IfOk, Result, Ok, Err, suc}
use Rattle.std.proofs.Math.Seq.{take-length}
use Rattle.std.specs.List.{flat_map}
use Rattle.jl_model.specs.declared.ty.Ty.{Ty}
use Rattle.jl_model.specs.declared.ty.Ty.TheViews as V
use Rattle.jl_model.specs.declared.ty.Ty.TheVariants as W
use Rattle.jl_model.specs.declared.ty.Decl.{Decl}
use Rattle.jl_model.specs.Refusals.{Given, given_from, given_in}
use Rattle.jl_model.proofs.CountLemmas.{nodes_all}
use Rattle.jl_model.specs.Counts.{nodes}
use Rattle.jl_types.specs.declared.normal_form.NormFault.{NormFault}
use Rattle.jl_types.proofs.ExpandLemmas.{nodes-positive}
use Rattle.jl_norm.specs.Judged.{SomeLarge, Judged, IsArgument, AreArguments}
use Rattle.jl_types.proofs.GivenLemmas.{given-any, given-var, given-union, given-tuple, given-nominal, given_left, given_right}
use Rattle.jl_norm.proofs.KeepSteps.{drop_at}
use Rattle.jl_norm.proofs.JudgeLemmas.{judged_none, judged_join, large_left, large_right}

pub split : {A : Type 0} (xs : List A) (x : A) → 1 ≤ length xs → x ≡ get_or xs 0 x → xs ≡ x ∷ take (length xs - 1) (drop 1 xs)
split [] x h e = absurd (omega arith)
split (y ∷ ys) x h e =
    let i : length (y ∷ ys) - 1 ≡ length ys = omega arith in
    let f : take (length (y ∷ ys) - 1) ys ≡ ys = ap (λ z. take z ys) i ∙ take-length ys in
    let g : y ≡ x = sym e in
    ap (λ z. z ∷ ys) g ∙ ap (λ z. x ∷ z) (sym f)

pub nodes_rest : (ts : List Ty) (t : Ty) (us : List Ty) → ts ≡ t ∷ us → (nodes t ≤ nodes_all ts) × (nodes_all us < nodes_all ts)
nodes_rest ts t us e = let f : nodes_all ts ≡ nodes t + nodes_all us = ap nodes_all e in let p = nodes-positive t in (omega arith, omega arith)

module _ (ds : List Decl) (d : Decl) where
  abbrev G : Given → Type 0
  G a = IsArgument ds d a.ty

  pub judged_then : (gs hs : List Given) (b c : Bool) → Judged ds d gs b → Judged ds d hs c → b ≡ true → Judged ds d (gs ++ hs) b
  judged_then gs hs b c p q e = subst (Judged ds d (gs ++ hs)) (ap (λ z. z || c) e ∙ sym e) (judged_join ds d gs hs b c p q)

  pub judged_else : (gs hs : List Given) (b c : Bool) → Judged ds d gs b → Judged ds d hs c → b ≡ false → Judged ds d (gs ++ hs) c
  judged_else gs hs b c p q e = subst (Judged ds d (gs ++ hs)) (ap (λ z. z || c) e) (judged_join ds d gs hs b c p q)

  -- the arguments of a nominal type
  module _ (k i : ℕ) (xs : List Ty) (x : Ty) (ys : List Ty) (e : xs ≡ x ∷ ys) where
    abbrev a : Given
    a = record { of = k; place = i; ty = x }

    there : given_from k i xs ≡ (a ∷ []) ++ given_from k (i + 1) ys
    there = ap (given_from k i) e

    pub place_first : AreArguments ds d (given_from k i xs) → IsArgument ds d x
    place_first f = (subst (AreArguments ds d) there f) a (zero, omega arith, refl)

    pub place_rest : AreArguments ds d (given_from k i xs) → AreArguments ds d (given_from k (i + 1) ys)
    place_rest f = given_right G (a ∷ []) (given_from k (i + 1) ys) (subst (AreArguments ds d) there f)

    pub place_then : (b c : Bool) → Judged ds d (a ∷ []) b → Judged ds d (given_from k (i + 1) ys) c → b ≡ true → Judged ds d (given_from k i xs) b
    place_then b c p q h = subst (λ z. Judged ds d z b) (sym there) (judged_then (a ∷ []) (given_from k (i + 1) ys) b c p q h)

    pub place_else : (b c : Bool) → Judged ds d (a ∷ []) b → Judged ds d (given_from k (i + 1) ys) c → b ≡ false → Judged ds d (given_from k i xs) c
    place_else b c p q h = subst (λ z. Judged ds d z c) (sym there) (judged_else (a ∷ []) (given_from k (i + 1) ys) b c p q h)

    pub place_large : SomeLarge ds d (a ∷ []) → SomeLarge ds d (given_from k i xs)
    place_large l = subst (SomeLarge ds d) (sym there) (large_left ds d (a ∷ []) (given_from k (i + 1) ys) l)

    pub later_large : SomeLarge ds d (given_from k (i + 1) ys) → SomeLarge ds d (given_from k i xs)
    later_large l = subst (SomeLarge ds d) (sym there) (large_right ds d (a ∷ []) (given_from k (i + 1) ys) l)

  -- the arguments in types, one type after another
  next : (xs : List Ty) (i : ℕ) (x : Ty) → i < length xs → x ≡ get_or xs i x → flat_map given_in (drop i xs) ≡ given_in x ++ flat_map given_in (drop (i + 1) xs)
  next xs i x l e = ap (flat_map given_in) (drop_at xs i x l e)

  pub type_at : (xs : List Ty) (i : ℕ) (x : Ty) → i < length xs → x ≡ get_or xs i x → AreArguments ds d (flat_map given_in xs) → AreArguments ds d (given_in x)
  type_at [] i x l e f = absurd (omega arith)
  type_at (y ∷ ys) zero x l e f = subst (λ z. AreArguments ds d (given_in z)) (sym e) (given_left G (given_in y) (flat_map given_in ys) f)
  type_at (y ∷ ys) (suc i) x l e f = type_at ys i x (omega arith) e (given_right G (given_in y) (flat_map given_in ys) f)

  pub large_at : (xs : List Ty) (i : ℕ) (x : Ty) → i < length xs → x ≡ get_or xs i x → SomeLarge ds d (given_in x) → SomeLarge ds d (flat_map given_in xs)
  large_at [] i x l e f = absurd (omega arith)
  large_at (y ∷ ys) zero x l e f = large_left ds d (given_in y) (flat_map given_in ys) (subst (λ z. SomeLarge ds d (given_in z)) e f)
  large_at (y ∷ ys) (suc i) x l e f = large_right ds d (given_in y) (flat_map given_in ys) (large_at ys i x (omega arith) e f)

  -- what is told of the first types, and then of the others
  abbrev pub Told : List Ty → ℕ → Bool → Type 0
  Told xs i b = (c : Bool) → Judged ds d (flat_map given_in (drop i xs)) c → Judged ds d (flat_map given_in xs) (b || c)

  pub told_then : (xs : List Ty) (i : ℕ) (x : Ty) (b h : Bool) → i < length xs → x ≡ get_or xs i x → Told xs i b → Judged ds d (given_in x) h → h ≡ true → Told xs (i + 1) true
  told_then xs i x b h l e t j q c k =
      let here = subst (λ z. Judged ds d z h) (sym (next xs i x l e)) (judged_then (given_in x) (flat_map given_in (drop (i + 1) xs)) h c j k q) in
      subst (Judged ds d (flat_map given_in xs)) (ap (λ z. b || z) q ∙ or_true b) (t h here)
    where
      or_true : (b : Bool) → (b || true) ≡ true
      or_true true = refl
      or_true false = refl

  pub told_else : (xs : List Ty) (i : ℕ) (x : Ty) (b h : Bool) → i < length xs → x ≡ get_or xs i x → Told xs i b → Judged ds d (given_in x) h → h ≡ false → Told xs (i + 1) b
  told_else xs i x b h l e t j q c k =
      t c (subst (λ z. Judged ds d z c) (sym (next xs i x l e)) (judged_else (given_in x) (flat_map given_in (drop (i + 1) xs)) h c j k q))

  pub told_all : (xs : List Ty) (i : ℕ) (b : Bool) → drop i xs ≡ [] → Told xs i b → Judged ds d (flat_map given_in xs) b
  told_all xs i b e t = subst (Judged ds d (flat_map given_in xs)) (or_false b) (t false (subst (λ z. Judged ds d (flat_map given_in z) false) (sym e) (judged_none ds d)))
    where
      or_false : (b : Bool) → (b || false) ≡ b
      or_false true = refl
      or_false false = refl

  pub told_none : (xs : List Ty) → Told xs 0 false
  told_none xs c k = k

  -- the forms of a type
  pub any_judged : (t : Ty) → t ≡ W.Any → Judged ds d (given_in t) false
  any_judged t e = subst (λ z. Judged ds d z false) (sym (ap given_in e ∙ given-any)) (judged_none ds d)

  pub var_judged : (t : Ty) (v : ℕ) → t ≡ W.Var v → Judged ds d (given_in t) false
  var_judged t v e = subst (λ z. Judged ds d z false) (sym (ap given_in e ∙ given-var v)) (judged_none ds d)

  -- a union or a tuple, whose parts the code has as vs
  module _ (t : Ty) (ts vs : List Ty) (e : t ≡ V.Union ts) (f : vs ≡ ts) where
    members_of : given_in t ≡ flat_map given_in vs
    members_of = ap given_in e ∙ given-union ts ∙ ap (flat_map given_in) (sym f)

    pub union_are : AreArguments ds d (given_in t) → AreArguments ds d (flat_map given_in vs)
    union_are g = subst (AreArguments ds d) members_of g

    pub union_judged : (r : Result Bool NormFault) → IfOk r (λ b. Judged ds d (flat_map given_in vs) b) → IfOk r (λ b. Judged ds d (given_in t) b)
    union_judged (Ok b) j = subst (λ z. Judged ds d z b) (sym members_of) j
    union_judged (Err x) j = j

    pub union_large : SomeLarge ds d (flat_map given_in vs) → SomeLarge ds d (given_in t)
    union_large l = subst (SomeLarge ds d) (sym members_of) l

  module _ (t : Ty) (ts vs : List Ty) (e : t ≡ V.Tuple ts) (f : vs ≡ ts) where
    parts_of : given_in t ≡ flat_map given_in vs
    parts_of = ap given_in e ∙ given-tuple ts ∙ ap (flat_map given_in) (sym f)

    pub tuple_are : AreArguments ds d (given_in t) → AreArguments ds d (flat_map given_in vs)
    tuple_are g = subst (AreArguments ds d) parts_of g

    pub tuple_judged : (r : Result Bool NormFault) → IfOk r (λ b. Judged ds d (flat_map given_in vs) b) → IfOk r (λ b. Judged ds d (given_in t) b)
    tuple_judged (Ok b) j = subst (λ z. Judged ds d z b) (sym parts_of) j
    tuple_judged (Err x) j = j

    pub tuple_large : SomeLarge ds d (flat_map given_in vs) → SomeLarge ds d (given_in t)
    tuple_large l = subst (SomeLarge ds d) (sym parts_of) l

  -- a nominal type, whose arguments the code has as vs
  module _ (t : Ty) (k : ℕ) (ts vs : List Ty) (e : t ≡ V.Nominal k ts) (f : vs ≡ ts) where
    whole : given_in t ≡ given_from k 0 vs ++ flat_map given_in vs
    whole = ap given_in e ∙ given-nominal k ts ∙ ap (λ z. given_from k 0 z ++ flat_map given_in z) (sym f)

    pub own_are : AreArguments ds d (given_in t) → AreArguments ds d (given_from k 0 vs)
    own_are g = given_left G (given_from k 0 vs) (flat_map given_in vs) (subst (AreArguments ds d) whole g)

    pub inner_are : AreArguments ds d (given_in t) → AreArguments ds d (flat_map given_in vs)
    inner_are g = given_right G (given_from k 0 vs) (flat_map given_in vs) (subst (AreArguments ds d) whole g)

    pub nominal_then : (b c : Bool) → Judged ds d (given_from k 0 vs) b → Judged ds d (flat_map given_in vs) c → b ≡ true → Judged ds d (given_in t) b
    nominal_then b c p q h = subst (λ z. Judged ds d z b) (sym whole) (judged_then (given_from k 0 vs) (flat_map given_in vs) b c p q h)

    pub nominal_else : (b c : Bool) → Judged ds d (given_from k 0 vs) b → Judged ds d (flat_map given_in vs) c → b ≡ false → Judged ds d (given_in t) c
    nominal_else b c p q h = subst (λ z. Judged ds d z c) (sym whole) (judged_else (given_from k 0 vs) (flat_map given_in vs) b c p q h)

    pub own_large : SomeLarge ds d (given_from k 0 vs) → SomeLarge ds d (given_in t)
    own_large l = subst (SomeLarge ds d) (sym whole) (large_left ds d (given_from k 0 vs) (flat_map given_in vs) l)

    pub inner_large : SomeLarge ds d (flat_map given_in vs) → SomeLarge ds d (given_in t)
    inner_large l = subst (SomeLarge ds d) (sym whole) (large_right ds d (given_from k 0 vs) (flat_map given_in vs) l)
