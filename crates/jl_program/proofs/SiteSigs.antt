-- The signatures of all sites of a valid program are valid, the prelude's among them.
use Rattle.std.proofs.Common.{◌∙◌, sym, ap, subst, ℕ, ◌≤◌, arith, All, zero, suc, List, [], ◌∷◌, ◌++◌, length, drop}
use Rattle.std.proofs.lemmas.List.{take-append-drop}
use Rattle.jl_model.specs.declared.ty.Ty.{Ty}
use Rattle.jl_program.specs.declared.tree.Site.{Site}
use Rattle.jl_program.specs.declared.tree.Program.{Program}
use Rattle.jl_program.specs.Prelude.{prelude_sites, builtin_site, two, int64, bool}
use Rattle.jl_program.specs.Scope.{all_types}
use Rattle.jl_program.specs.Valid.{IsValid, IsValidSig}
use Rattle.jl_program.proofs.PlainSigs.{Plain, AllPlain, builtin, plain_valid}

abbrev pub HasValidSig : Program → Site → Type 0
HasValidSig P site = IsValidSig (all_types P) site.sig

cons : {X : Type 0} (Is : X → Type 0) (x : X) (xs : List X) → Is x → All Is xs → All Is (x ∷ xs)
cons Is x xs p h zero d l = p
cons Is x xs p h (suc k) d l = h k d (omega (arith, l))

abbrev Each : {X : Type 0} → (X → Type 0) → List X → Type 0
Each Is [] = Unit {0}
Each Is (x ∷ xs) = Is x × Each Is xs

before : {X : Type 0} (Is : X → Type 0) (xs ys : List X) → Each Is xs → All Is ys → All Is (xs ++ ys)
before Is [] ys h k = k
before Is (x ∷ xs) ys h k = cons Is x (xs ++ ys) h.0 (before Is xs ys h.1 k)

module _ (P : Program) where
  int : Plain int64
  int = builtin 4 (omega arith)

  truth : Plain bool
  truth = builtin 5 (omega arith)

  prelude_site : (f : ℕ) (ts : List Ty) → AllPlain ts → length ts ≤ 8 → HasValidSig P (builtin_site f ts)
  prelude_site f ts a few = plain_valid P.decls ts a few

  on_two : (f : ℕ) → HasValidSig P (builtin_site f two)
  on_two f = prelude_site f two (int, (int, tt)) (omega arith)

  prelude_valid : Each (HasValidSig P) prelude_sites
  prelude_valid = (
    on_two 0,
    (
      on_two 1,
      (
        on_two 2,
        (
          on_two 3,
          (
            on_two 4,
            (
              prelude_site 1 (int64 ∷ []) (int, tt) (omega arith),
              (
                on_two 5,
                (
                  on_two 6,
                  (
                    on_two 7,
                    (
                      on_two 8,
                      (
                        on_two 9,
                        (
                          on_two 10,
                          (prelude_site 11 (bool ∷ []) (truth, tt) (omega arith), (prelude_site 5 (bool ∷ bool ∷ []) (truth, (truth, tt)) (omega arith), tt)),
                        ),
                      ),
                    ),
                  ),
                ),
              ),
            ),
          ),
        ),
      ),
    ),
  )

  pub sites_valid : IsValid P → All (HasValidSig P) P.sites
  sites_valid v =
      let own : All (HasValidSig P) (drop (length prelude_sites) P.sites) = λ k d l. (v.sites k d l).signature in
      subst (All (HasValidSig P)) (ap (λ front. front ++ drop (length prelude_sites) P.sites) (sym v.prelude) ∙ take-append-drop (length prelude_sites) P.sites)
      (before (HasValidSig P) prelude_sites (drop (length prelude_sites) P.sites) prelude_valid own)
