-- What is read of a trace and of entries.
use Rattle.std.proofs.Common.{◌≡◌, ◌∙◌, ap, sym, refl, ℕ, suc, ◌+◌, ◌<◌, arith, false, List, [], ◌∷◌, ◌++◌, append_assoc, length, drop, get_or, slice_get, Some}
use Rattle.std.proofs.Math.Seq.{drop-cons}
use Rattle.std.proofs.lemmas.Option.{slice_get_read}
use Rattle.jl_calculus.specs.declared.history.Event.{Event}
use Rattle.jl_calculus.specs.declared.history.TraceItem.{TraceItem}
use Rattle.jl_report.specs.declared.entry.Entry.{Entry}
use Rattle.jl_report.specs.declared.entry.Step.{Step}
use Rattle.jl_report.specs.declared.entry.Step.TheVariants as S
use Rattle.jl_replay.specs.Told.{is_own, item_told, items_told, stretch}

-- a step that is not the task's own belongs to its stretch
stretch_on : (s : Step) (ss : List Step) → is_own s ≡ false → stretch (s ∷ ss) ≡ s ∷ stretch ss
stretch_on (S.Look w p) ss q = refl
stretch_on (S.Fetch task p) ss q = refl
stretch_on (S.WorldFull p) ss q = refl
stretch_on (S.TaskFull p) ss q = refl
stretch_on (S.Absent place p) ss q = refl
stretch_on (S.Def site p) ss q = cc
stretch_on (S.Del place p) ss q = cc
stretch_on (S.Spawn child p) ss q = cc

-- one more step was read
pub read_on : (es : List Event) (steps : List Step) (n : ℕ) (d : Step) (items more whole : List TraceItem) (item : TraceItem) → n < length steps → is_own (get_or steps n d) ≡ false → item ≡ item_told es (get_or steps n d)
    → more ≡ items ++ item ∷ [] → items ++ items_told es (stretch (drop n steps)) ≡ whole → more ++ items_told es (stretch (drop (n + 1) steps)) ≡ whole
read_on es steps n d items more whole item low none is added h =
    ap (λ xs. xs ++ told (n + 1)) added ∙ append_assoc items (item ∷ []) (told (n + 1)) ∙ ap (λ xs. items ++ xs) next ∙ h
  where
    told : ℕ → List TraceItem
    told k = items_told es (stretch (drop k steps))

    next : item ∷ told (n + 1) ≡ told n
    next =
        let on : suc n ≡ n + 1 = omega arith in
        let rest : drop n steps ≡ get_or steps n d ∷ drop (n + 1) steps = drop-cons steps n d low ∙ ap (λ k. get_or steps n d ∷ drop k steps) on in
        ap (λ i. i ∷ told (n + 1)) is ∙ sym (ap (items_told es) (ap stretch rest ∙ stretch_on (get_or steps n d) (drop (n + 1) steps) none))

-- an entry that was read stands at its place
pub entry_read : (all : List Entry) (n : ℕ) (x y : Entry) → n < length all → x ≡ get_or all n x → x ≡ y → slice_get all n ≡ Some y
entry_read all n x y there at is = slice_get_read all (length all) n x refl there at ∙ ap Some is
