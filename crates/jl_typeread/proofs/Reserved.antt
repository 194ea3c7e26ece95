-- A name that begins as no reserved word does is none of them.
use Rattle.std.proofs.Common.{◌≡◌, ◌∙◌, refl, sym, ap, ℕ, Bool, true, false, cond, List, Option, Some, None}
use Rattle.std.specs.Prelude.{codes}
use Rattle.std.specs.Str.{bytes_eq}
use Rattle.std.specs.Cmp.Lexicographic.{bytes_decides}
use Rattle.jl_token.specs.Characters.{may_be_reserved}
use Rattle.jl_token.proofs.Reserved.{not_in}
use Rattle.jl_typeread.specs.declared.terminal.Word.{Word}
use Rattle.jl_typeread.specs.declared.terminal.Word.TheVariants.{Unruled}
use Rattle.jl_typeread.specs.Lexemes.{unruled_words, is_unruled, opening_word, closing_word, first_of, reserved_word}

differs : (w u : List ℕ) → may_be_reserved u ≡ true → may_be_reserved w ≡ false → bytes_eq w u ≡ false
differs w u h e = by (bytes_eq w u) refl
  where
    by : (b : Bool) → bytes_eq w u ≡ b → b ≡ false
    by false f = refl
    by true f = let i : w ≡ u = (bytes_decides w u).0 f in absurd (let z : true ≡ false = sym h ∙ sym (ap may_be_reserved i) ∙ e in cc)

other : (b : Bool) (x y : Option Word) → b ≡ false → cond b x y ≡ y
other b x y h = ap (λ c. cond c x y) h

opens_none : (w : List ℕ) → may_be_reserved w ≡ false → opening_word w ≡ None
opens_none w e =
    other _ _ _ (differs w (codes "abstract") refl e) ∙ other _ _ _ (differs w (codes "struct") refl e) ∙ other _ _ _ (differs w (codes "function") refl e)
    ∙ other _ _ _ (differs w (codes "if") refl e) ∙ other _ _ _ (differs w (codes "begin") refl e) ∙ other _ _ _ (differs w (codes "quote") refl e)
    ∙ other _ _ _ (differs w (codes "return") refl e) ∙ other _ _ _ (differs w (codes "where") refl e)

closes_none : (w : List ℕ) → may_be_reserved w ≡ false → closing_word w ≡ None
closes_none w e =
    other _ _ _ (differs w (codes "end") refl e) ∙ other _ _ _ (differs w (codes "elseif") refl e) ∙ other _ _ _ (differs w (codes "else") refl e)
    ∙ other _ _ _ (differs w (codes "true") refl e) ∙ other _ _ _ (differs w (codes "false") refl e) ∙ other _ _ _ (differs w (codes "nothing") refl e)
    ∙ other _ _ _ (differs w (codes "isa") refl e)

pub not_reserved : (w : List ℕ) → may_be_reserved w ≡ false → reserved_word w ≡ None
not_reserved w e =
    ap (λ o. first_of o (first_of (closing_word w) (cond (is_unruled w) (Some Unruled) None))) (opens_none w e)
    ∙ ap (λ o. first_of o (cond (is_unruled w) (Some Unruled) None)) (closes_none w e)
    ∙ other _ _ _ (not_in unruled_words w refl e)
