-- The words of each form.
use Rattle.std.proofs.Common.{◌≡◌, ◌∙◌, ap, sym, subst, refl, ℕ, Bool, true, false, ◌&&◌, cond, nat_eq, arith, List, [], ◌∷◌, ◌++◌, length, take, drop}
use Rattle.std.specs.Prelude.{bytes_eq}
use Rattle.std.proofs.lemmas.List.{take-append-drop}
use Rattle.jl_command.specs.Rule.{Name, threads, fuel, Form, flag, assigned, plain, other, begins_with_hyphen, form_of, threads_flag, fuel_flag, threads_start, fuel_start}
use Rattle.jl_command.proofs.Walks.{IsOption}
use Rattle.jl_command.proofs.Turns.{flag_word, start_of}

-- texts that compare equal are the same
pub same_text : (a b : List ℕ) → bytes_eq a b ≡ true → a ≡ b
same_text [] [] h = refl
same_text [] (y ∷ ys) h = cc
same_text (x ∷ xs) [] h = cc
same_text (x ∷ xs) (y ∷ ys) h =
    let p : nat_eq x y ≡ true = first (nat_eq x y) (bytes_eq xs ys) h in
    let e : x ≡ y = grind (arith, p) in
    ap (λ z. z ∷ xs) e ∙ ap (λ zs. y ∷ zs) (same_text xs ys (second (nat_eq x y) (bytes_eq xs ys) h))
  where
    first : (a b : Bool) → a && b ≡ true → a ≡ true
    first true b h = refl
    first false b h = h

    second : (a b : Bool) → a && b ≡ true → b ≡ true
    second true b h = h
    second false b h = (let bad : false ≡ true = h in cc)

-- a word of each form
pub data IsForm : List ℕ → Form → Type 0 where
  is_flag : (n : Name) → IsOption n → IsForm (flag_word n) (flag n)
  is_assigned : (n : Name) (v : List ℕ) → IsOption n → IsForm (start_of n ++ v) (assigned n v)
  is_plain : (v : List ℕ) → begins_with_hyphen v ≡ false → IsForm v (plain v)
  is_other : (w : List ℕ) → IsForm w other

after_start : (n : Name) → IsOption n → (w : List ℕ) → bytes_eq (take (length (start_of n)) w) (start_of n) ≡ true → IsForm w (assigned n (drop (length (start_of n)) w))
after_start n o w h = subst (λ z. IsForm z (assigned n (drop (length (start_of n)) w))) whole (is_assigned n (drop (length (start_of n)) w) o)
  where
    whole : start_of n ++ drop (length (start_of n)) w ≡ w
    whole = ap (λ z. z ++ drop (length (start_of n)) w) (sym (same_text (take (length (start_of n)) w) (start_of n) h)) ∙ take-append-drop (length (start_of n)) w

last_form : (w : List ℕ) (b : Bool) → begins_with_hyphen w ≡ b → IsForm w (cond b other (plain w))
last_form w true e = is_other w
last_form w false e = is_plain w e

pub form_is : (w : List ℕ) → IsForm w (form_of w)
form_is w = one (bytes_eq w threads_flag) refl
  where
    four : (b : Bool) → bytes_eq (take (length fuel_start) w) fuel_start ≡ b
        → IsForm w (cond b (assigned fuel (drop (length fuel_start) w)) (cond (begins_with_hyphen w) other (plain w)))
    four true e = after_start fuel tt w e
    four false e = last_form w (begins_with_hyphen w) refl

    three : (b : Bool) → bytes_eq (take (length threads_start) w) threads_start ≡ b
        → IsForm w (cond b (assigned threads (drop (length threads_start) w))
        (cond (bytes_eq (take (length fuel_start) w) fuel_start) (assigned fuel (drop (length fuel_start) w)) (cond (begins_with_hyphen w) other (plain w))))
    three true e = after_start threads tt w e
    three false e = four (bytes_eq (take (length fuel_start) w) fuel_start) refl

    two : (b : Bool) → bytes_eq w fuel_flag ≡ b
        → IsForm w (cond b (flag fuel) (cond (bytes_eq (take (length threads_start) w) threads_start) (assigned threads (drop (length threads_start) w))
        (cond (bytes_eq (take (length fuel_start) w) fuel_start) (assigned fuel (drop (length fuel_start) w)) (cond (begins_with_hyphen w) other (plain w)))))
    two true e = subst (λ z. IsForm z (flag fuel)) (sym (same_text w fuel_flag e)) (is_flag fuel tt)
    two false e = three (bytes_eq (take (length threads_start) w) threads_start) refl

    one : (b : Bool) → bytes_eq w threads_flag ≡ b
        → IsForm w (cond b (flag threads) (cond (bytes_eq w fuel_flag) (flag fuel) (cond (bytes_eq (take (length threads_start) w) threads_start) (assigned threads (drop (length threads_start) w))
        (cond (bytes_eq (take (length fuel_start) w) fuel_start) (assigned fuel (drop (length fuel_start) w)) (cond (begins_with_hyphen w) other (plain w))))))
    one true e = subst (λ z. IsForm z (flag threads)) (sym (same_text w threads_flag e)) (is_flag threads tt)
    one false e = two (bytes_eq w fuel_flag) refl
