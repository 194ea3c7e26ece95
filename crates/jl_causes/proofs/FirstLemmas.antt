-- Entry after entry: what is clean so far, and the first cause.
use Rattle.std.proofs.Common.{◌≡◌, ◌∙◌, ap, sym, subst, refl, ℕ, zero, suc, ◌+◌, ◌≤◌, ◌⊎◌, inl, inr, arith, true, false, List, [], ◌∷◌, ◌++◌, length, take, slice_get, Some}
use Rattle.std.proofs.lemmas.List.{take_all, take_more}
use Rattle.std.proofs.lemmas.Option.{slice_get_within, get_or_from_slice_get}
use Rattle.jl_program.specs.declared.tree.Program.{Program}
use Rattle.jl_calculus.specs.declared.history.Event.{Event}
use Rattle.jl_calculus.specs.declared.history.Event.TheVariants as Ev
use Rattle.jl_report.specs.declared.entry.Entry.{Entry}
use Rattle.jl_report.specs.declared.entry.Entry.TheVariants as E
use Rattle.jl_causes.specs.declared.cause.Cause.{Cause}
use Rattle.jl_causes.specs.declared.cause.Cause.TheVariants as C
use Rattle.jl_causes.specs.Sketch.{Tells, AllTell}
use Rattle.jl_causes.specs.Causes.{is_begin, StartWell, has_end, IsClean, IsFirstAt, AreClean, HasNoCause, IsFirstCause}
use Rattle.jl_causes.proofs.PlaceLemmas.{get_push, take_old}
use Rattle.jl_causes.proofs.SketchLemmas.{tell_length, tell_more}
use Rattle.jl_causes.proofs.StandLemmas.{no_begin}
use Rattle.jl_causes.proofs.TableLemmas.{clean, first, begin_free}

module _ (P : Program) (all : List Entry) where
  -- one more entry
  pub clean_more : (n : ℕ) (es : List Event) (x : Entry) (e : Event) → AreClean P all (take n all) es → length es ≡ n → slice_get all n ≡ Some x → IsClean P all es x → Tells P x e → AreClean P all (take (n + 1) all) (es ++ e ∷ [])
  clean_more n es x e h many there c t =
      let one : take (n + 1) all ≡ take n all ++ x ∷ [] =
      take_more all n x (slice_get_within all n x there) ∙ ap (λ z. take n all ++ z ∷ []) (get_or_from_slice_get all n x x there)
      in
      record {
        told = subst (λ xs. AllTell P xs (es ++ e ∷ [])) (sym one) (tell_more P (take n all) es x e h.told t);
        clean = λ m y at. by m y (get_push (take n all) x y m (subst (λ xs. slice_get xs m ≡ Some y) one at));
      }
    where
      by : (m : ℕ) (y : Entry) → (slice_get (take n all) m ≡ Some y) ⊎ ((m ≡ length (take n all)) × (x ≡ y)) → IsClean P all (take m (es ++ e ∷ [])) y
      by m y (inl old) =
          let few : m ≤ length es = omega (arith, slice_get_within (take n all) m y old, tell_length P (take n all) es h.told) in
          subst (λ ds. IsClean P all ds y) (sym (take_old m es e few)) (h.clean m y old)
      by m y (inr (i, is)) =
          let here : m ≡ length es = omega (arith, i, tell_length P (take n all) es h.told) in
          let whole : take m (es ++ e ∷ []) ≡ es = take_old m es e (omega (arith, here)) ∙ take_all m es (omega (arith, here)) in
          subst (λ ds. IsClean P all ds y) (sym whole) (subst (IsClean P all es) is c)

  pub none_clean : AreClean P all (take 0 all) []
  none_clean = record { told = refl; clean = λ n x at. absurd (nothing n x at) }
    where
      nothing : (n : ℕ) (x : Entry) → slice_get (take 0 all) n ≡ Some x → ⊥
      nothing zero x at = cc at
      nothing (suc n) x at = cc at

  -- as many entries as events have told these
  pub told_so_far : (n : ℕ) (es : List Event) → AreClean P all (take n all) es → length es ≡ n → AllTell P (take (length es) all) es
  told_so_far n es h many = subst (λ m. AllTell P (take m all) es) (sym many) h.told

  -- a cause at a place
  pub cause_at : (n : ℕ) (es : List Event) (x : Entry) (cause : Cause) → AreClean P all (take n all) es → slice_get all n ≡ Some x → IsFirstAt P all es x cause → IsFirstCause P all n cause
  cause_at n es x cause h there l = record { before = es; clean = h; entry = x; there = there; least = l }

  -- no cause at any
  pub clean_whole : (n : ℕ) (es : List Event) → AreClean P all (take n all) es → length all ≤ n → HasNoCause P all
  clean_whole n es h l = (es, subst (λ xs. AreClean P all xs es) (take_all n all l) h)

-- ---- the first entry

-- the beginning of a text
pub first_entry : (all : List Entry) → StartWell all → (fuel : ℕ) × (rest : List Entry) × (all ≡ E.Begin fuel ∷ rest)
first_entry [] w = absurd w
first_entry (E.Begin fuel ∷ xs) w = (fuel, xs, refl)
first_entry (E.Key number function tuple ∷ xs) w = absurd w
first_entry (E.Fill key site begins ∷ xs) w = absurd w
first_entry (E.Def task site ∷ xs) w = absurd w
first_entry (E.Del task place ∷ xs) w = absurd w
first_entry (E.Spawn task child place ∷ xs) w = absurd w
first_entry (E.Done task calls trace output ending ∷ xs) w = absurd w

pub not_begin : (all : List Entry) (n : ℕ) (x : Entry) → StartWell all → 1 ≤ n → slice_get all n ≡ Some x → is_begin x ≡ false
not_begin [] n x w l g = absurd w
not_begin (E.Begin fuel ∷ xs) zero x w l g = absurd (omega (arith, l))
not_begin (E.Begin fuel ∷ xs) (suc n) x w l g = no_begin xs n x w.1 g
not_begin (E.Key number function tuple ∷ xs) n x w l g = absurd w
not_begin (E.Fill key site begins ∷ xs) n x w l g = absurd w
not_begin (E.Def task site ∷ xs) n x w l g = absurd w
not_begin (E.Del task place ∷ xs) n x w l g = absurd w
not_begin (E.Spawn task child place ∷ xs) n x w l g = absurd w
not_begin (E.Done task calls trace output ending ∷ xs) n x w l g = absurd w

pub root_unfinished : (P : Program) (all : List Entry) → StartWell all → has_end all 0 ≡ false → IsFirstCause P all 0 C.Unfinished
root_unfinished P all w no_end =
    let (fuel, rest, is) = first_entry all w in
    cause_at P all 0 [] (E.Begin fuel) C.Unfinished (none_clean P all) (ap (λ xs. slice_get xs 0) is)
    (first P all [] (E.Begin fuel) C.Unfinished (begin_free P all [] 10 fuel (λ l. absurd (omega (arith, l)))) (λ ends. (let z : true ≡ false = sym ends ∙ no_end in cc)))

pub root_clean : (P : Program) (all : List Entry) → StartWell all → has_end all 0 ≡ true → (fuel : ℕ) × AreClean P all (take 1 all) (Ev.Begin fuel ∷ [])
root_clean P all w ends =
    let (fuel, rest, is) = first_entry all w in
    let there : slice_get all 0 ≡ Some (E.Begin fuel) = ap (λ xs. slice_get xs 0) is in
    (fuel, clean_more P all 0 [] (E.Begin fuel) (Ev.Begin fuel) (none_clean P all) refl there (clean P all [] (E.Begin fuel) (begin_free P all [] 14 fuel (λ l. ends))) refl)
