-- The methods with their places stand for the methods.
use Rattle.std.proofs.Common.{◌≡◌, ◌∙◌, sym, ap, subst, refl, ℕ, zero, suc, ◌+◌, ◌<◌, inl, inr, arith, Bool, List, [], ◌∷◌, map, length, get_or, slice_index_or}
use Rattle.std.specs.List.{Contains}
use Rattle.std.specs.List.Sorted.{IsStrictlyIncreasing}
use Rattle.jl_model.specs.declared.ty.Ty.{Ty}
use Rattle.jl_model.specs.Choice as M
use Rattle.jl_model.specs.Signature.{Applicable}
use Rattle.jl_model.specs.Subtype.{Table}
use Rattle.jl_program.specs.Chooses.{Chooses}
use Rattle.jl_sig.specs.SigParts.{written_of}
use Rattle.jl_subsig.specs.declared.choice.Method.{Method}
use Rattle.jl_subsig.specs.declared.choice.Ranked.{Ranked}
use Rattle.jl_subsig.specs.Side.{Every}
use Rattle.jl_subsig.specs.Decide.{method_in, methods_in, nth, nothing, ranks, candidates, choice_among, AreCompared}
use Rattle.jl_subsig.proofs.ChoiceLists.{In, rises}
use Rattle.jl_subsig.proofs.ChoiceLemmas.{method_at, chosen_among}
use Rattle.jl_subsig.proofs.CompareLemmas.{methods_long}

pub in_range : {A : Type 0} (xs : List A) (k : ℕ) (d e : A) → k < length xs → slice_index_or xs k d ≡ get_or xs k e
in_range [] k d e l = absurd (omega arith)
in_range (x ∷ xs) zero d e l = refl
in_range (x ∷ xs) (suc k) d e l = in_range xs k d e (omega arith)

numbers : (i : ℕ) (ms : List Method) → map (λ (d : Ranked). d.number) (ranks i ms) ≡ map (λ (m : Method). m.number) ms
numbers i [] = refl
numbers i (m ∷ ms) = ap (λ z. m.number ∷ z) (numbers (i + 1) ms)

-- where one stands
record Place (i : ℕ) (ms : List Method) (d : Ranked) : Type 0 where
  pub at : ℕ
  pub short : at < length ms
  pub place : d.place ≡ i + at
  pub number : d.number ≡ (nth (methods_in ms) at).number

place_of : (i : ℕ) (ms : List Method) (d : Ranked) → In (ranks i ms) d → Place i ms d
place_of i [] d h = absurd h
place_of i (m ∷ ms) d (inl e) = record {
  at = 0;
  short = omega arith;
  place = let p : i ≡ d.place = ap (λ (z : Ranked). z.place) e in omega (arith, p);
  number = sym (ap (λ (z : Ranked). z.number) e);
}
place_of i (m ∷ ms) d (inr h) =
    let p = place_of (i + 1) ms d h in
    let q = p.place in
    let s = p.short in
    record { at = suc p.at; short = omega (arith, s); place = omega (arith, q); number = p.number }

placed : (i : ℕ) (ms : List Method) (k : ℕ) → k < length ms → (d : Ranked) × In (ranks i ms) d × (d.place ≡ i + k) × (d.number ≡ (nth (methods_in ms) k).number)
placed i [] k l = absurd (omega arith)
placed i (m ∷ ms) zero l = (record { number = m.number; place = i }, inl refl, omega arith, refl)
placed i (m ∷ ms) (suc k) l = let (d, j, p, q) = placed (i + 1) ms k (omega arith) in (d, inr j, omega (arith, p), q)

pub every_at : (Q : M.Method → Type 0) (ms : List Method) → Every (λ (m : Method). Q (method_in m)) ms → (k : ℕ) → k < length ms → Q (nth (methods_in ms) k)
every_at Q [] h k l = absurd (omega arith)
every_at Q (m ∷ ms) h zero l = h.0
every_at Q (m ∷ ms) h (suc k) l = every_at Q ms h.1 k (omega arith)

module _ (ms : List Method) where
  same_method : (d : Ranked) (k : ℕ) → d.place ≡ k → d.number ≡ (nth (methods_in ms) k).number → method_at (methods_in ms) d ≡ nth (methods_in ms) k
  same_method d k p q = λ i. record { number = q i; sig = (nth (methods_in ms) (p i)).sig }

  small : (d : Ranked) → In (ranks 0 ms) d → d.place < length (methods_in ms)
  small d h =
      let p = place_of 0 ms d h in
      let q = p.place in
      let s = p.short in
      let l = methods_long ms in omega (arith, q, s, l)

  standing : (d : Ranked) → In (ranks 0 ms) d → Contains (methods_in ms) (method_at (methods_in ms) d)
  standing d h =
      let p = place_of 0 ms d h in
      let s = p.short in
      let l = methods_long ms in
      let q : d.place ≡ p.at = (let z = p.place in omega (arith, z)) in
      let e = same_method d p.at q p.number in
      (p.at, omega (arith, s, l), in_range (methods_in ms) p.at (method_at (methods_in ms) d) nothing (omega (arith, s, l)) ∙ sym e)

  stand : (m : M.Method) → Contains (methods_in ms) m → (d : Ranked) × In (ranks 0 ms) d × (method_at (methods_in ms) d ≡ m)
  stand m (k, l, h) =
      let w = methods_long ms in
      let (d, j, p, q) = placed 0 ms k (omega (arith, l, w)) in
      let r : d.place ≡ k = omega (arith, p) in
      (d, j, same_method d k r q ∙ sym (in_range (methods_in ms) k m nothing l) ∙ h)

  applies : (n : Table) (ts : List Ty) → Every (λ (m : Method). Applicable n (written_of m.sig.now) ts) ms → (d : Ranked) → In (ranks 0 ms) d → Applicable n (nth (methods_in ms) d.place).sig ts
  applies n ts h d i =
      let w = methods_long ms in
      let s = small d i in
      every_at (λ (m : M.Method). Applicable n m.sig ts) ms h d.place (omega (arith, s, w))

  pub chosen : (n : Table) (P : List (List Bool)) → AreCompared n (methods_in ms) P → IsStrictlyIncreasing (map (λ (m : Method). m.number) ms) → (ts : List Ty)
      → Every (λ (m : Method). Applicable n (written_of m.sig.now) ts) ms → Chooses n (methods_in ms) ts (choice_among P (candidates P (ranks 0 ms)))
  chosen n P c h ts a =
      chosen_among n (methods_in ms) P c ts (ranks 0 ms) (rises (ranks 0 ms) (subst IsStrictlyIncreasing (sym (numbers 0 ms)) h)) small standing stand (applies n ts a)
