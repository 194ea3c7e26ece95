-- Texts that are cut at a byte.
use Rattle.std.proofs.Common.{◌≡◌, ◌∙◌, sym, refl, ap, subst, ℕ, zero, suc, ◌<◌, ◌≤◌, arith, Bool, true, false, cond, nat_eq, List, [], ◌∷◌, ◌-◌, length, length-drop, take, drop, Option, None, Some, slice_index}
use Rattle.memchr.specs.Find.{IsFirstByte, is_byte}
use Rattle.jl_embed.specs.Cuts.{cut, longer}
use Rattle.jl_embed.specs.Requests.{lines_of, begin_with}

-- ---- the cut is at the first such byte

cut_here : (mark c : ℕ) (cs : List ℕ) → nat_eq c mark ≡ true → cut mark (c ∷ cs) ≡ Some ([], cs)
cut_here mark c cs e = ap (λ t. cond t (Some ([], cs)) (longer c (cut mark cs))) e

cut_later : (mark c : ℕ) (cs : List ℕ) → nat_eq c mark ≡ false → cut mark (c ∷ cs) ≡ longer c (cut mark cs)
cut_later mark c cs e = ap (λ t. cond t (Some ([], cs)) (longer c (cut mark cs))) e

-- a byte that stands nowhere
nowhere : (mark : ℕ) (text : List ℕ) → ((k : ℕ) → k < length text → nat_eq (slice_index text k) mark ≡ false) → cut mark text ≡ None
nowhere mark [] h = refl
nowhere mark (c ∷ cs) h = cut_later mark c cs (h 0 (omega arith)) ∙ ap (longer c) (nowhere mark cs (λ k l. h (suc k) (omega (arith, l))))

-- one that stands first at this place
first_at : (mark : ℕ) (text : List ℕ) (i : ℕ) → i < length text → nat_eq (slice_index text i) mark ≡ true → ((k : ℕ) → k < i → nat_eq (slice_index text k) mark ≡ false)
    → cut mark text ≡ Some (take i text, drop (suc i) text)
first_at mark [] i l e h = absurd (omega (arith, l))
first_at mark (c ∷ cs) zero l e h = cut_here mark c cs e
first_at mark (c ∷ cs) (suc i) l e h =
    cut_later mark c cs (h 0 (omega arith)) ∙ ap (longer c) (first_at mark cs i (omega (arith, l)) e (λ k m. h (suc k) (omega (arith, m))))

differs : (a mark : ℕ) → (nat_eq a mark ≡ true → ⊥) → nat_eq a mark ≡ false
differs a mark h = by (nat_eq a mark) refl
  where
    by : (t : Bool) → nat_eq a mark ≡ t → nat_eq a mark ≡ false
    by true e = absurd (h e)
    by false e = e

pub cut_not : (mark : ℕ) (text : List ℕ) (r : Option ℕ) → IsFirstByte (is_byte mark) text r → r ≡ None → cut mark text ≡ None
cut_not mark text r h e =
    let none_ : IsFirstByte (is_byte mark) text None = subst (IsFirstByte (is_byte mark) text) e h in
    nowhere mark text (λ k l. differs (slice_index text k) mark (none_ k (omega arith) l))

drop_one : (i : ℕ) (text : List ℕ) → drop 1 (drop i text) ≡ drop (suc i) text
drop_one zero [] = refl
drop_one zero (c ∷ cs) = refl
drop_one (suc i) [] = refl
drop_one (suc i) (c ∷ cs) = drop_one i cs

pub take_whole : (xs : List ℕ) (n : ℕ) → length xs ≤ n → take n xs ≡ xs
take_whole [] zero l = refl
take_whole [] (suc n) l = refl
take_whole (x ∷ xs) zero l = absurd (omega (arith, l))
take_whole (x ∷ xs) (suc n) l = ap (λ z. x ∷ z) (take_whole xs n (omega (arith, l)))

pub cut_at : (mark : ℕ) (text : List ℕ) (r : Option ℕ) (i : ℕ) (before after : List ℕ) → IsFirstByte (is_byte mark) text r → r ≡ Some i → before ≡ take i text → after ≡ drop i text
    → cut mark text ≡ Some (before, take (length after - 1) (drop 1 after))
cut_at mark text r i before after h e f b =
    let first : IsFirstByte (is_byte mark) text (Some i) = subst (IsFirstByte (is_byte mark) text) e h in
    let rest : take (length after - 1) (drop 1 after) ≡ drop (suc i) text =
    take_whole (drop 1 after) (length after - 1) (omega (arith, length-drop 1 after)) ∙ ap (drop 1) b ∙ drop_one i text in
    first_at mark text i first.0.high first.1 (λ k l. differs (slice_index text k) mark (first.0.before k (omega arith) l)) ∙ (λ j. Some (sym f j, sym rest j))

-- ---- lines

abbrev LinesBy : List ℕ → Option (List ℕ × List ℕ) → Type 0
LinesBy text None = lines_of text ≡ text ∷ []
LinesBy text (Some p) = lines_of text ≡ p.0 ∷ lines_of p.1

lines_later : (c : ℕ) (cs : List ℕ) (o : Option (List ℕ × List ℕ)) → nat_eq c 10 ≡ false → cut 10 cs ≡ o → (0 < length cs → LinesBy cs o) → LinesBy (c ∷ cs) (longer c o)
lines_later c [] None e is h = ap (λ t. cond t ([] ∷ []) (begin_with c [])) e
lines_later c (d ∷ ds) None e is h = ap (λ t. cond t ([] ∷ lines_of (d ∷ ds)) (begin_with c (lines_of (d ∷ ds)))) e ∙ ap (begin_with c) (h (omega arith))
lines_later c [] (Some p) e is h = absurd cc
lines_later c (d ∷ ds) (Some p) e is h = ap (λ t. cond t ([] ∷ lines_of (d ∷ ds)) (begin_with c (lines_of (d ∷ ds)))) e ∙ ap (begin_with c) (h (omega arith))

lines_by : (text : List ℕ) → 0 < length text → LinesBy text (cut 10 text)
lines_by [] l = absurd (omega (arith, l))
lines_by (c ∷ cs) l = by (nat_eq c 10) refl (lines_by cs)
  where
    by : (t : Bool) → nat_eq c 10 ≡ t → (0 < length cs → LinesBy cs (cut 10 cs)) → LinesBy (c ∷ cs) (cut 10 (c ∷ cs))
    by true e h = subst (LinesBy (c ∷ cs)) (sym (cut_here 10 c cs e)) (ap (λ t. cond t ([] ∷ lines_of cs) (begin_with c (lines_of cs))) e)
    by false e h = subst (LinesBy (c ∷ cs)) (sym (cut_later 10 c cs e)) (lines_later c cs (cut 10 cs) e refl h)

pub lines_one : (text : List ℕ) → 0 < length text → cut 10 text ≡ None → lines_of text ≡ text ∷ []
lines_one text l e = subst (LinesBy text) e (lines_by text l)

pub lines_more : (text line rest : List ℕ) → 0 < length text → cut 10 text ≡ Some (line, rest) → lines_of text ≡ line ∷ lines_of rest
lines_more text line rest l e = subst (LinesBy text) e (lines_by text l)

abbrev IsShorter : List ℕ → Option (List ℕ × List ℕ) → Type 0
IsShorter text None = ◌≡◌ {A = ℕ} 0 0
IsShorter text (Some p) = length p.1 < length text

shorter_later : (c : ℕ) (cs : List ℕ) (o : Option (List ℕ × List ℕ)) → IsShorter cs o → IsShorter (c ∷ cs) (longer c o)
shorter_later c cs None h = refl
shorter_later c cs (Some p) h = omega (arith, h)

shorter_by : (mark : ℕ) (text : List ℕ) → IsShorter text (cut mark text)
shorter_by mark [] = refl
shorter_by mark (c ∷ cs) = by (nat_eq c mark) refl (shorter_by mark cs)
  where
    by : (t : Bool) → nat_eq c mark ≡ t → IsShorter cs (cut mark cs) → IsShorter (c ∷ cs) (cut mark (c ∷ cs))
    by true e h = subst (IsShorter (c ∷ cs)) (sym (cut_here mark c cs e)) (omega arith)
    by false e h = subst (IsShorter (c ∷ cs)) (sym (cut_later mark c cs e)) (shorter_later c cs (cut mark cs) h)

pub cut_shorter : (mark : ℕ) (text before rest : List ℕ) → cut mark text ≡ Some (before, rest) → length rest < length text
cut_shorter mark text before rest e = subst (IsShorter text) e (shorter_by mark text)
