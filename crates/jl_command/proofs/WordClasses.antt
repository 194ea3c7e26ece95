-- What a word that stands for itself is to `clap`.
use Rattle.std.proofs.Common.{◌≡◌, ap, refl, ℕ, false, ◌&&◌, List, [], ◌∷◌, None}
use Rattle.std.specs.Prelude.{bytes_eq}
use Rattle.clap.specs.Lexer.{long_of, short_of}
use Rattle.jl_command.specs.Rule.{begins_with_hyphen}

pub not_dashes : (v : List ℕ) → begins_with_hyphen v ≡ false → bytes_eq v (45 ∷ 45 ∷ []) ≡ false
not_dashes [] h = refl
not_dashes (d ∷ ds) h = ap (λ b. b && bytes_eq ds (45 ∷ [])) h

pub not_long : (v : List ℕ) → begins_with_hyphen v ≡ false → long_of v ≡ None
not_long [] h = refl
not_long (d ∷ ds) h = rw h refl

pub not_short : (v : List ℕ) → begins_with_hyphen v ≡ false → short_of v ≡ None
not_short [] h = refl
not_short (d ∷ ds) h = rw h refl
