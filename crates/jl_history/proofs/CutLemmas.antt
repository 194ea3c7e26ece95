-- Texts that are cut at a byte.
use Rattle.std.proofs.Common.{◌≡◌, ◌∙◌, sym, refl, ap, subst, ℕ, zero, suc, ◌<◌, ◌≤◌, arith, Bool, true, false, not, ◌&&◌, cond, nat_eq, List, [], ◌∷◌, ◌++◌, ◌-◌, length, length-drop, length-append, take, drop, Option, None, Some, MatchOption, IfSome, slice_index}
use Rattle.memchr.specs.Find.{IsFirstByte, is_byte}
use Rattle.jl_history.specs.Form.{lacks}
use Rattle.jl_history.specs.Fields.{cut, longer}
use Rattle.jl_history.proofs.OptionLemmas.{and_true, same_number}

-- ---- a byte that does not occur

pub lacks_append : (mark : ℕ) (a b : List ℕ) → lacks mark a ≡ true → lacks mark b ≡ true → lacks mark (a ++ b) ≡ true
lacks_append mark [] b h k = k
lacks_append mark (c ∷ a) b h k =
    let p = and_true (not (nat_eq c mark)) (lacks mark a) h in
    rw (p.0) (lacks_append mark a b p.1 k)

-- both parts lack it
pub lacks_parts : (mark : ℕ) (a b : List ℕ) → lacks mark (a ++ b) ≡ true → (lacks mark a ≡ true) × (lacks mark b ≡ true)
lacks_parts mark [] b h = (refl, h)
lacks_parts mark (c ∷ a) b h =
    let p = and_true (not (nat_eq c mark)) (lacks mark (a ++ b)) h in
    let q = lacks_parts mark a b p.1 in
    (rw (p.0) q.0, q.1)

-- ---- the cut

-- what stands before the mark lacks it
pub record IsCut (mark : ℕ) (text before after : List ℕ) : Type 0 where
  pub free : lacks mark before ≡ true
  pub parts : text ≡ before ++ mark ∷ after

cut_here : (mark c : ℕ) (cs : List ℕ) (t : Bool) → nat_eq c mark ≡ t → (o : Option (List ℕ × List ℕ))
    → MatchOption o (lacks mark cs ≡ true) (λ p. IsCut mark cs p.0 p.1)
    → MatchOption (cond t (Some ([], cs)) (longer c o)) (not t && lacks mark cs ≡ true) (λ p. IsCut mark (c ∷ cs) p.0 p.1)
cut_here mark c cs true e o h = record { free = refl; parts = ap (λ z. z ∷ cs) (same_number c mark e) }
cut_here mark c cs false e None h = h
cut_here mark c cs false e (Some p) h = record { free = rw (e) h.free; parts = ap (λ z. c ∷ z) h.parts }

pub cut_cases : (mark : ℕ) (text : List ℕ) → MatchOption (cut mark text) (lacks mark text ≡ true) (λ p. IsCut mark text p.0 p.1)
cut_cases mark [] = refl
cut_cases mark (c ∷ cs) = cut_here mark c cs (nat_eq c mark) refl (cut mark cs) (cut_cases mark cs)

pub cut_holds : (mark : ℕ) (text : List ℕ) → IfSome (cut mark text) (λ p. IsCut mark text p.0 p.1)
cut_holds mark text = by (cut mark text) (cut_cases mark text)
  where
    by : (o : Option (List ℕ × List ℕ)) → MatchOption o (lacks mark text ≡ true) (λ p. IsCut mark text p.0 p.1) → IfSome o (λ p. IsCut mark text p.0 p.1)
    by None h = tt
    by (Some p) h = h

pub cut_none : (mark : ℕ) (text : List ℕ) → cut mark text ≡ None → lacks mark text ≡ true
cut_none mark text e = subst (λ o. MatchOption o (lacks mark text ≡ true) (λ p. IsCut mark text p.0 p.1)) e (cut_cases mark text)

pub cut_some : (mark : ℕ) (text a b : List ℕ) → cut mark text ≡ Some (a, b) → IsCut mark text a b
cut_some mark text a b e = subst (λ o. MatchOption o (lacks mark text ≡ true) (λ p. IsCut mark text p.0 p.1)) e (cut_cases mark text)

same_true : (mark : ℕ) → nat_eq mark mark ≡ true
same_true mark = grind arith

cut_mark : (mark : ℕ) (b : List ℕ) → cut mark (mark ∷ b) ≡ Some ([], b)
cut_mark mark b = rw (same_true mark) refl

not_true : (t : Bool) → not t ≡ true → t ≡ false
not_true true h = (let bad : false ≡ true = h in cc)
not_true false h = refl

pub cut_again : (mark : ℕ) (a b : List ℕ) → lacks mark a ≡ true → cut mark (a ++ mark ∷ b) ≡ Some (a, b)
cut_again mark [] b h = cut_mark mark b
cut_again mark (c ∷ a) b h =
    let p = and_true (not (nat_eq c mark)) (lacks mark a) h in
    let e : nat_eq c mark ≡ false = not_true (nat_eq c mark) p.0 in
    rw (e, cut_again mark a b p.1) refl

pub cut_lacks : (mark : ℕ) (a : List ℕ) → lacks mark a ≡ true → cut mark a ≡ None
cut_lacks mark [] h = refl
cut_lacks mark (c ∷ a) h =
    let p = and_true (not (nat_eq c mark)) (lacks mark a) h in
    let e : nat_eq c mark ≡ false = not_true (nat_eq c mark) p.0 in
    rw (e, cut_lacks mark a p.1) refl

-- ---- the first place of a byte

-- a byte that stands nowhere
nowhere : (mark : ℕ) (text : List ℕ) → ((k : ℕ) → k < length text → nat_eq (slice_index text k) mark ≡ false) → lacks mark text ≡ true
nowhere mark [] h = refl
nowhere mark (c ∷ cs) h = rw (h 0 (omega arith)) (nowhere mark cs (λ k l. h (suc k) (omega (arith, l))))

nowhere_before : (mark : ℕ) (text : List ℕ) (i : ℕ) → i ≤ length text → ((k : ℕ) → k < i → nat_eq (slice_index text k) mark ≡ false) → lacks mark (take i text) ≡ true
nowhere_before mark text zero l h = refl
nowhere_before mark [] (suc i) l h = refl
nowhere_before mark (c ∷ cs) (suc i) l h = rw (h 0 (omega arith)) (nowhere_before mark cs i (omega (arith, l)) (λ k m. h (suc k) (omega (arith, m))))

at_place : (text : List ℕ) (i : ℕ) → i < length text → text ≡ take i text ++ slice_index text i ∷ drop (suc i) text
at_place [] i l = absurd (omega (arith, l))
at_place (c ∷ cs) zero l = refl
at_place (c ∷ cs) (suc i) l = ap (λ z. c ∷ z) (at_place cs i (omega (arith, l)))

pub cut_nowhere : (mark : ℕ) (text : List ℕ) → IsFirstByte (is_byte mark) text None → cut mark text ≡ None
cut_nowhere mark text h = cut_lacks mark text (nowhere mark text (λ k l. by k (nat_eq (slice_index text k) mark) refl l))
  where
    by : (k : ℕ) (t : Bool) → nat_eq (slice_index text k) mark ≡ t → k < length text → nat_eq (slice_index text k) mark ≡ false
    by k true e l = absurd (h k (omega arith) l e)
    by k false e l = e

pub cut_first : (mark : ℕ) (text : List ℕ) (i : ℕ) → IsFirstByte (is_byte mark) text (Some i) → cut mark text ≡ Some (take i text, drop (suc i) text)
cut_first mark text i h =
    let e : slice_index text i ≡ mark = same_number (slice_index text i) mark h.1 in
    ap (cut mark) (at_place text i h.0.high ∙ ap (λ z. take i text ++ z ∷ drop (suc i) text) e)
    ∙ cut_again mark (take i text) (drop (suc i) text) (nowhere_before mark text i (omega (arith, h.0.high)) (λ k l. by k (nat_eq (slice_index text k) mark) refl l))
  where
    by : (k : ℕ) (t : Bool) → nat_eq (slice_index text k) mark ≡ t → k < i → nat_eq (slice_index text k) mark ≡ false
    by k true e l = absurd (h.0.before k (omega arith) l e)
    by k false e l = e

drop_one : (i : ℕ) (text : List ℕ) → drop 1 (drop i text) ≡ drop (suc i) text
drop_one zero [] = refl
drop_one zero (c ∷ cs) = refl
drop_one (suc i) [] = refl
drop_one (suc i) (c ∷ cs) = drop_one i cs

take_whole : (xs : List ℕ) (n : ℕ) → length xs ≤ n → take n xs ≡ xs
take_whole [] zero l = refl
take_whole [] (suc n) l = refl
take_whole (x ∷ xs) zero l = absurd (omega (arith, l))
take_whole (x ∷ xs) (suc n) l = ap (λ z. x ∷ z) (take_whole xs n (omega (arith, l)))

pub cut_at : (mark : ℕ) (text : List ℕ) (r : Option ℕ) (i : ℕ) (before after : List ℕ) → IsFirstByte (is_byte mark) text r → r ≡ Some i → before ≡ take i text → after ≡ drop i text
    → cut mark text ≡ Some (before, take (length after - 1) (drop 1 after))
cut_at mark text r i before after h e f b =
    let first : IsFirstByte (is_byte mark) text (Some i) = subst (IsFirstByte (is_byte mark) text) e h in
    let rest : take (length after - 1) (drop 1 after) ≡ drop (suc i) text =
    take_whole (drop 1 after) (length after - 1) (omega (arith, length-drop 1 after)) ∙ ap (drop 1) b ∙ drop_one i text in
    cut_first mark text i first ∙ (λ j. Some (sym f j, sym rest j))

pub cut_not : (mark : ℕ) (text : List ℕ) (r : Option ℕ) → IsFirstByte (is_byte mark) text r → r ≡ None → cut mark text ≡ None
cut_not mark text r h e = cut_nowhere mark text (subst (IsFirstByte (is_byte mark) text) e h)

pub cut_shorter : (mark : ℕ) (text a b : List ℕ) → cut mark text ≡ Some (a, b) → length b < length text
cut_shorter mark text a b e = let c = cut_some mark text a b e in omega (arith, ap length c.parts, length-append a (mark ∷ b))
