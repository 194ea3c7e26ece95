-- A list of declarations is valid step by step, and lists of signatures grow.
use Rattle.std.proofs.Common.{◌≡◌, ◌∙◌, refl, sym, ap, subst, ℕ, zero, suc, ◌+◌, ◌<◌, ◌≤◌, arith, All, List, [], ◌∷◌, ◌++◌, append_assoc, map, drop, length, get_or}
use Rattle.std.proofs.lemmas.List.{length-append, length-map}
use Rattle.jl_model.specs.declared.ty.Decl.{Decl}
use Rattle.jl_model.specs.Ancestors.{builtin_types}
use Rattle.jl_model.specs.Refusals.{Declared, builtin, added, IsReady}
use Rattle.jl_model.specs.declared.ty.Written.{Written}
use Rattle.std.proofs.lemmas.List.Elements.{All-append}
use Rattle.jl_program.specs.declared.tree.Delete.{Delete}
use Rattle.jl_program.specs.declared.tree.Program.{Program}
use Rattle.jl_program.specs.declared.tree.Site.{Site}
use Rattle.jl_program.specs.Scope.{all_types}
use Rattle.jl_program.specs.Valid.{IsValid}
use Rattle.jl_program.proofs.SiteSigs.{sites_valid}
use Rattle.jl_sig.specs.declared.sig.Sig.{Sig}
use Rattle.jl_sig.specs.Prepared.{IsSigOf}
use Rattle.jl_sig.specs.Readied.{AreSigsOf, HasValidSigs}
use Rattle.jl_sig.specs.SigParts.{written_of}
use Rattle.jl_sig.proofs.FormSteps.{drop_at}

-- the last member of lists that are equal
last_same : {X : Type 0} (xs ys : List X) (x y : X) → xs ++ x ∷ [] ≡ ys ++ y ∷ [] → (xs ≡ ys) × (x ≡ y)
last_same [] [] x y e = (refl, cc)
last_same [] (b ∷ []) x y e = cc
last_same [] (b ∷ c ∷ ys) x y e = cc
last_same (a ∷ []) [] x y e = cc
last_same (a ∷ c ∷ xs) [] x y e = cc
last_same (a ∷ xs) (b ∷ ys) x y e =
    let tails : xs ++ x ∷ [] ≡ ys ++ y ∷ [] = cc in
    let heads : a ≡ b = cc in
    let r = last_same xs ys x y tails in
    (λ i. heads i ∷ r.0 i, r.1)

-- a list is empty, or has a last member
pub data Ends {X : Type 0} : List X → Type 0 where
  nothing : Ends []
  last : (xs : List X) (x : X) → Ends (xs ++ x ∷ [])

ends : {X : Type 0} (xs : List X) → Ends xs
ends [] = nothing
ends (x ∷ xs) = grow x xs (ends xs)
  where
    grow : {X : Type 0} (x : X) (xs : List X) → Ends xs → Ends (x ∷ xs)
    grow x [] nothing = last [] x
    grow x _ (last ys y) = last (x ∷ ys) y

-- the next declaration is ready after those before it
ready_by : (xs : List Decl) (x : Decl) (ds : List Decl) (d : Decl) (es : List Decl) → Ends es → IsReady xs x → ((fs : List Decl) → xs ≡ ds ++ d ∷ fs → IsReady ds d) → xs ++ x ∷ [] ≡ ds ++ d ∷ es → IsReady ds d
ready_by xs x ds d [] nothing r again e = let same = last_same xs ds x d e in subst (λ z. IsReady z d) same.0 (subst (λ z. IsReady xs z) same.1 r)
ready_by xs x ds d _ (last fs f) r again e = again fs (last_same xs (ds ++ d ∷ fs) x f (e ∙ sym (append_assoc ds (d ∷ fs) (f ∷ [])))).0

pub next_ready : (all : List Decl) → Declared all → (ds : List Decl) (d : Decl) (es : List Decl) → length builtin_types ≤ length ds → all ≡ ds ++ d ∷ es → IsReady ds d
next_ready all builtin ds d es few e =
    let n : length builtin_types ≡ length ds + length (d ∷ es) = ap length e ∙ length-append ds (d ∷ es) in absurd (omega arith)
next_ready all (added xs x h r) ds d es few e = ready_by xs x ds d es (ends es) r (λ fs same. next_ready xs h ds d fs few same) e

-- one more declaration in the table
pub ready_at : (decls : List Decl) (table : List Decl) (i : ℕ) (d copy : Decl) → Declared (builtin_types ++ decls) → i < length decls → d ≡ get_or decls i d → copy ≡ d
    → (length builtin_types ≤ length table) × (table ++ drop i decls ≡ builtin_types ++ decls) → IsReady table copy
ready_at decls table i d copy h l e same inv =
    subst (IsReady table) (sym same) (next_ready (builtin_types ++ decls) h table d (drop (i + 1) decls) inv.0 (sym inv.1 ∙ ap (λ z. table ++ z) (drop_at decls i d l e)))

-- one more signature
map_push : (old : List Sig) (g : Sig) → map written_of (old ++ g ∷ []) ≡ map written_of old ++ written_of g ∷ []
map_push [] g = refl
map_push (x ∷ old) g = ap (λ z. written_of x ∷ z) (map_push old g)

one : (ds : List Decl) (g : Sig) → IsSigOf ds g → All (IsSigOf ds) (g ∷ [])
one ds g h zero d l = h
one ds g h (suc k) d l = absurd (omega arith)

pub sigs_step : {X : Type 0} (sig : X → Written) (ds : List Decl) (xs : List X) (i : ℕ) (x : X) (g : Sig) (old new : List Sig) → i < length xs → x ≡ get_or xs i x → written_of g ≡ sig x → IsSigOf ds g
    → new ≡ old ++ g ∷ [] → (map written_of old ++ map sig (drop i xs) ≡ map sig xs) × All (IsSigOf ds) old
    → (map written_of new ++ map sig (drop (i + 1) xs) ≡ map sig xs) × All (IsSigOf ds) new
sigs_step sig ds xs i x g old new l e w h n inv =
    let rest : List Written = map sig (drop (i + 1) xs) in (
      ap (λ z. map written_of z ++ rest) n ∙ ap (λ z. z ++ rest) (map_push old g) ∙ append_assoc (map written_of old) (written_of g ∷ []) rest
          ∙ ap (λ z. map written_of old ++ z ∷ rest) w ∙ ap (λ z. map written_of old ++ map sig z) (sym (drop_at xs i x l e)) ∙ inv.0,
      subst (All (IsSigOf ds)) (sym n) (All-append (IsSigOf ds) old (g ∷ []) inv.1 (one ds g h)),
    )

pub valid_sigs : (P : Program) → IsValid P → (ds : List Decl) (sites : List Site) → ds ≡ all_types P → sites ≡ P.sites → HasValidSigs (λ (site : Site). site.sig) ds sites
valid_sigs P v ds sites e f =
    subst (λ z. HasValidSigs (λ (site : Site). site.sig) z sites) (sym e) (subst (HasValidSigs (λ (site : Site). site.sig) (all_types P)) (sym f) (sites_valid P v))

pub valid_places : (P : Program) → IsValid P → (ds : List Decl) (places : List Delete) → ds ≡ all_types P → places ≡ P.deletes → HasValidSigs (λ (place : Delete). place.sig) ds places
valid_places P v ds places e f =
    subst (λ z. HasValidSigs (λ (place : Delete). place.sig) z places) (sym e)
    (subst (HasValidSigs (λ (place : Delete). place.sig) (all_types P)) (sym f) (λ k d l. (v.deletes k d l).signature))

-- what is kept of the signature of a number
pub kept_at : {X : Type 0} (sig : X → Written) (ds : List Decl) (xs : List X) (gs : List Sig) (k : ℕ) (g : Sig) → AreSigsOf ds (map sig xs) gs → k < length xs → g ≡ get_or gs k g → IsSigOf ds g
kept_at sig ds xs gs k g are l e =
    let long : length (map written_of gs) ≡ length (map sig xs) = ap length are.written in
    let a = length-map gs written_of in
    let b = length-map xs sig in
    subst (IsSigOf ds) (sym e) (are.kept k g (omega (arith, l, long, a, b)))
