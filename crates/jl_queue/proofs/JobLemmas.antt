-- No job is lost and none is doubled where one comes, or where those that wait for a task become ready.
use Rattle.std.proofs.Common.{◌≡◌, sym, subst, ℕ, zero, suc, List, [], ◌∷◌, ◌++◌, set, slice_get, Option, None, Some}
use Rattle.std.specs.List.{flat_map}
use Rattle.std.specs.List.Sorted.{IsPermutation}
use Rattle.std.proofs.lemmas.List.{append_assoc}
use Rattle.std.proofs.lemmas.List.Sorted.{IsPermutation-refl, IsPermutation-trans, IsPermutation-append_left, IsPermutation-append_right, IsPermutation-append_comm, IsPermutation-to_front, IsPermutation-middle}
use Rattle.jl_queue.specs.Boards.{jobs_at}

abbrev pub all_at : {T : Type 0} → List (Option (List T)) → List T
all_at ws = flat_map jobs_at ws

-- one more in front of the rest
pub one_more : {T : Type 0} (xs ys : List T) (job : T) → IsPermutation ((xs ++ job ∷ []) ++ ys) (job ∷ (xs ++ ys))
one_more xs ys job = IsPermutation-append_left ys (xs ++ job ∷ []) (job ∷ xs) (IsPermutation-to_front xs job)

-- one more among the rest
pub one_behind : {T : Type 0} (xs ys zs : List T) (job : T) → IsPermutation ys (job ∷ zs) → IsPermutation (xs ++ ys) (job ∷ (xs ++ zs))
one_behind xs ys zs job h =
    IsPermutation-trans (xs ++ ys) (xs ++ job ∷ zs) (job ∷ (xs ++ zs)) (IsPermutation-append_right xs ys (job ∷ zs) h) (IsPermutation-middle xs job zs)

-- some change places with those before them
past : {T : Type 0} (xs ys zs us : List T) → IsPermutation (xs ++ zs) us → IsPermutation (xs ++ (ys ++ zs)) (ys ++ us)
past xs ys zs us h =
    IsPermutation-trans (xs ++ (ys ++ zs)) (ys ++ (xs ++ zs)) (ys ++ us)
    (subst (λ a. IsPermutation a (ys ++ (xs ++ zs))) (append_assoc xs ys zs)
    (subst (IsPermutation ((xs ++ ys) ++ zs)) (append_assoc ys xs zs) (IsPermutation-append_left zs (xs ++ ys) (ys ++ xs) (IsPermutation-append_comm xs ys))))
    (IsPermutation-append_right ys (xs ++ zs) us h)

pub wait_more : {T : Type 0} (ws : List (Option (List T))) (n : ℕ) (jobs : List T) (job : T) → slice_get ws n ≡ Some (Some jobs) → IsPermutation (all_at (set ws n (Some (jobs ++ job ∷ [])))) (job ∷ all_at ws)
wait_more [] n jobs job e = cc
wait_more (w ∷ ws) zero jobs job e =
    let same : w ≡ Some jobs = cc in
    subst (λ w. IsPermutation ((jobs ++ job ∷ []) ++ all_at ws) (job ∷ (jobs_at w ++ all_at ws))) (sym same) (one_more jobs (all_at ws) job)
wait_more (w ∷ ws) (suc n) jobs job e = one_behind (jobs_at w) (all_at (set ws n (Some (jobs ++ job ∷ [])))) (all_at ws) job (wait_more ws n jobs job e)

pub wait_none : {T : Type 0} (ws : List (Option (List T))) (n : ℕ) (jobs : List T) → slice_get ws n ≡ Some (Some jobs) → IsPermutation (jobs ++ all_at (set ws n None)) (all_at ws)
wait_none [] n jobs e = cc
wait_none (w ∷ ws) zero jobs e =
    let same : w ≡ Some jobs = cc in
    subst (λ w. IsPermutation (jobs ++ all_at ws) (jobs_at w ++ all_at ws)) (sym same) (IsPermutation-refl (jobs ++ all_at ws))
wait_none (w ∷ ws) (suc n) jobs e = past jobs (jobs_at w) (all_at (set ws n None)) (all_at ws) (wait_none ws n jobs e)
