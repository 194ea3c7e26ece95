-- The spot behind one more byte of a source.
use Rattle.std.proofs.Common.{◌≡◌, ◌∙◌, refl, ap, ℕ, suc, ◌+◌, ◌<◌, arith, List, [], ◌∷◌, ◌++◌, length, take, get_or}
use Rattle.std.proofs.Math.Seq.{take-suc}
use Rattle.jl_sites.specs.declared.spot.Spot.{Spot}
use Rattle.jl_sites.specs.Spots.{one_more, spot_behind, spot_at}

behind_more : (s : Spot) (bs : List ℕ) (b : ℕ) → spot_behind s (bs ++ b ∷ []) ≡ one_more (spot_behind s bs) b
behind_more s [] b = refl
behind_more s (x ∷ bs) b = behind_more (one_more s x) bs b

pub spot_more : (bytes : List ℕ) (n d : ℕ) → n < length bytes → spot_at bytes (n + 1) ≡ one_more (spot_at bytes n) (get_or bytes n d)
spot_more bytes n d h =
    let start : Spot = record { line = 1; column = 1 } in
    let more : n + 1 ≡ suc n = omega arith in
    ap (spot_at bytes) more ∙ ap (spot_behind start) (take-suc bytes n d h) ∙ behind_more start (take n bytes) (get_or bytes n d)
