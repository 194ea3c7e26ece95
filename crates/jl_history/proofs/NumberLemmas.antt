-- Numbers as text.
use Rattle.std.proofs.Common.{◌≡◌, ◌∙◌, sym, refl, ap, subst, ℕ, ◌<◌, ◌≤◌, ◌^◌, arith, Bool, true, false, not, ◌&&◌, ◌||◌, cond, nat_eq, nat_le, nat_lt, List, [], ◌∷◌, ◌++◌, length, length-drop, drop, get_or, bytes_eq, Option, None, Some, IfSome, Ok, Err, Result, decimal, slice_index}
use Rattle.std.specs.Str.Parse.{digits_value, AllDigits, IsNumeral, ParsesUnsigned, without_leading_plus}
use Rattle.std.proofs.lemmas.Str.Parse.{numerals_by_value, tells_digits, digit_from_value, without_leading_plus_none, without_leading_plus_plus}
use Rattle.std.specs.Str.{IsUtf8}
use Rattle.std.proofs.lemmas.Str.{IsUtf8-from_ascii}
use Rattle.std.proofs.lemmas.Fmt.{IsAscii-decimal, decimal_is_IsNumeral, decimal-digits_value, parse-decimal, first_decimal, decimal_digit}
use Rattle.jl_history.specs.declared.fields.TheConstants.{MOST_NUMBER}
use Rattle.jl_history.specs.Form.{lacks}
use Rattle.jl_history.specs.Fields.{◌>>=◌, space, cut, is_padded, number_in, two_in, three_in}
use Rattle.jl_history.proofs.OptionLemmas.{bind_holds, cond_holds, and_true, same_bytes, bytes_same, same_number}
use Rattle.jl_history.proofs.CutLemmas.{IsCut, cut_holds, cut_again}

-- ---- a number

value_is : (n : ℕ) → n < 2 ^ 64 → digits_value 10 (decimal n) ≡ n
value_is n l = (decimal_is_IsNumeral n l).1

pub record IsNumberIn (most : ℕ) (text : List ℕ) (n : ℕ) : Type 0 where
  pub small : n ≤ most
  pub is : text ≡ decimal n

pub number_again : (most n : ℕ) → n ≤ most → most < 2 ^ 64 → number_in most (decimal n) ≡ Some n
number_again most n l m =
    let v : digits_value 10 (decimal n) ≡ n = value_is n (omega (arith, l, m)) in
    let le : nat_le n most ≡ true = grind (arith, l) in
    let eq : bytes_eq (decimal n) (decimal n) ≡ true = bytes_same (decimal n) (decimal n) refl in
    ap (λ z. cond (nat_le z most && bytes_eq (decimal n) (decimal z)) (Some z) None) v ∙ ap (λ b. cond (b && bytes_eq (decimal n) (decimal n)) (Some n) None) le ∙ ap (λ b. cond b (Some n) None) eq

pub number_holds : (most : ℕ) (text : List ℕ) → IfSome (number_in most text) (IsNumberIn most text)
number_holds most text =
    cond_holds (nat_le (digits_value 10 text) most && bytes_eq text (decimal (digits_value 10 text))) (Some (digits_value 10 text)) None (IsNumberIn most text)
    (λ h. let p = and_true (nat_le (digits_value 10 text) most) (bytes_eq text (decimal (digits_value 10 text))) h in
    record { small = le_of (digits_value 10 text) most p.0; is = same_bytes text (decimal (digits_value 10 text)) p.1 })
    (λ h. tt)
  where
    le_of : (a b : ℕ) → nat_le a b ≡ true → a ≤ b
    le_of a b h = grind (arith, h)

-- no number has this text
pub number_none : (most : ℕ) (text : List ℕ) → most < 2 ^ 64 → ((n : ℕ) → n < 2 ^ 64 → text ≡ decimal n → ⊥) → number_in most text ≡ None
number_none most text l h = by (number_in most text) (number_holds most text)
  where
    by : (o : Option ℕ) → IfSome o (IsNumberIn most text) → o ≡ None
    by None k = refl
    by (Some n) k = absurd (h n (omega (arith, k.small, l)) k.is)

-- a number that is too large
pub number_large : (most n : ℕ) (text : List ℕ) → most < n → n < 2 ^ 64 → text ≡ decimal n → number_in most text ≡ None
number_large most n text l m e =
    let v : digits_value 10 (decimal n) ≡ n = value_is n m in
    let gt : nat_le n most ≡ false = grind (arith, l) in
    ap (number_in most) e ∙ ap (λ z. cond (nat_le z most && bytes_eq (decimal n) (decimal z)) (Some z) None) v ∙ ap (λ b. cond (b && bytes_eq (decimal n) (decimal n)) (Some n) None) gt

pub number_found : (most n : ℕ) (text : List ℕ) → n ≤ most → most < 2 ^ 64 → text ≡ decimal n → number_in most text ≡ Some n
number_found most n text l m e = ap (number_in most) e ∙ number_again most n l m

-- ---- what stands in no number

digits_lack : (mark : ℕ) → (mark < 48) → (ds : List ℕ) → AllDigits 10 ds → lacks mark ds ≡ true
digits_lack mark l [] h = refl
digits_lack mark l (d ∷ ds) (h, hs) =
    let w = digit_from_value d h in
    let e : nat_eq d mark ≡ false = grind (arith, w, l) in
    rw (e) (digits_lack mark l ds hs)

pub decimal_lacks : (mark n : ℕ) → mark < 48 → n < 2 ^ 64 → lacks mark (decimal n) ≡ true
decimal_lacks mark n l m = digits_lack mark l (decimal n) (decimal_is_IsNumeral n m).0.1

-- ---- several numbers

-- the numbers of a text that is `spaced` of them, but for the first space
pub record AreTwo (text : List ℕ) (p : ℕ × ℕ) : Type 0 where
  pub first : p.0 ≤ MOST_NUMBER
  pub second : p.1 ≤ MOST_NUMBER
  pub is : text ≡ decimal p.0 ++ space ∷ decimal p.1

pub record AreThree (most : ℕ) (text : List ℕ) (p : ℕ × ℕ × ℕ) : Type 0 where
  pub first : p.0 ≤ MOST_NUMBER
  pub second : p.1 ≤ MOST_NUMBER
  pub third : p.2 ≤ most
  pub is : text ≡ decimal p.0 ++ space ∷ (decimal p.1 ++ space ∷ decimal p.2)

pub two_holds : (text : List ℕ) → IfSome (two_in text) (AreTwo text)
two_holds text =
    bind_holds (cut space text) _ (λ p. IsCut space text p.0 p.1) (AreTwo text) (cut_holds space text) (λ p k.
    bind_holds (number_in MOST_NUMBER p.0) _ (IsNumberIn MOST_NUMBER p.0) (AreTwo text) (number_holds MOST_NUMBER p.0) (λ a x.
    bind_holds (number_in MOST_NUMBER p.1) _ (IsNumberIn MOST_NUMBER p.1) (AreTwo text) (number_holds MOST_NUMBER p.1) (λ b y.
    record { first = x.small; second = y.small; is = k.parts ∙ ap (λ z. z ++ space ∷ p.1) x.is ∙ ap (λ z. decimal a ++ space ∷ z) y.is })))

pub three_holds : (most : ℕ) (text : List ℕ) → IfSome (three_in most text) (AreThree most text)
three_holds most text =
    bind_holds (cut space text) _ (λ p. IsCut space text p.0 p.1) (AreThree most text) (cut_holds space text) (λ p k.
    bind_holds (cut space p.1) _ (λ q. IsCut space p.1 q.0 q.1) (AreThree most text) (cut_holds space p.1) (λ q l.
    bind_holds (number_in MOST_NUMBER p.0) _ (IsNumberIn MOST_NUMBER p.0) (AreThree most text) (number_holds MOST_NUMBER p.0) (λ a x.
    bind_holds (number_in MOST_NUMBER q.0) _ (IsNumberIn MOST_NUMBER q.0) (AreThree most text) (number_holds MOST_NUMBER q.0) (λ b y.
    bind_holds (number_in most q.1) _ (IsNumberIn most q.1) (AreThree most text) (number_holds most q.1) (λ c z.
    record {
      first = x.small;
      second = y.small;
      third = z.small;
      is = k.parts ∙ ap (λ w. w ++ space ∷ p.1) x.is ∙ ap (λ w. decimal a ++ space ∷ w) (l.parts ∙ ap (λ w. w ++ space ∷ q.1) y.is ∙ ap (λ w. decimal b ++ space ∷ w) z.is);
    })))))

pub small_one : (n : ℕ) → n ≤ MOST_NUMBER → n < 2 ^ 64
small_one n l = omega (arith, l)

pub two_again : (a b : ℕ) → a ≤ MOST_NUMBER → b ≤ MOST_NUMBER → two_in (decimal a ++ space ∷ decimal b) ≡ Some (a, b)
two_again a b l m =
    ap (λ o. o >>= λ p. number_in MOST_NUMBER p.0 >>= λ x. number_in MOST_NUMBER p.1 >>= λ y. Some (x, y)) (cut_again space (decimal a) (decimal b) (decimal_lacks space a (omega arith) (small_one a l)))
    ∙ ap (λ o. o >>= λ x. number_in MOST_NUMBER (decimal b) >>= λ y. Some (x, y)) (number_again MOST_NUMBER a l (omega arith))
    ∙ ap (λ o. o >>= λ y. Some (a, y)) (number_again MOST_NUMBER b m (omega arith))

pub three_again : (most a b c : ℕ) → most < 2 ^ 64 → a ≤ MOST_NUMBER → b ≤ MOST_NUMBER → c ≤ most → three_in most (decimal a ++ space ∷ (decimal b ++ space ∷ decimal c)) ≡ Some (a, b, c)
three_again most a b c w l m n =
    ap (λ o. o >>= λ p. cut space p.1 >>= λ q. number_in MOST_NUMBER p.0 >>= λ x. number_in MOST_NUMBER q.0 >>= λ y. number_in most q.1 >>= λ z. Some (x, y, z))
    (cut_again space (decimal a) (decimal b ++ space ∷ decimal c) (decimal_lacks space a (omega arith) (small_one a l)))
    ∙ ap (λ o. o >>= λ q. number_in MOST_NUMBER (decimal a) >>= λ x. number_in MOST_NUMBER q.0 >>= λ y. number_in most q.1 >>= λ z. Some (x, y, z))
    (cut_again space (decimal b) (decimal c) (decimal_lacks space b (omega arith) (small_one b m)))
    ∙ ap (λ o. o >>= λ x. number_in MOST_NUMBER (decimal b) >>= λ y. number_in most (decimal c) >>= λ z. Some (x, y, z)) (number_again MOST_NUMBER a l (omega arith))
    ∙ ap (λ o. o >>= λ y. number_in most (decimal c) >>= λ z. Some (a, y, z)) (number_again MOST_NUMBER b m (omega arith))
    ∙ ap (λ o. o >>= λ z. Some (a, b, z)) (number_again most c n w)

-- ---- what the code reads as a number

is_decimal : (text : List ℕ) (n : ℕ) → IsNumeral 10 text → digits_value 10 text < 2 ^ 64 → n ≡ digits_value 10 text → (1 < length text → (slice_index text 0 ≡ 48) → ⊥) → text ≡ decimal n
is_decimal text n (some, digits) l e first =
    let lead : get_or text 0 0 ≡ 48 → length text ≡ 1 = λ z. by (nat_lt 1 (length text)) refl z in
    sym (ap decimal e ∙ decimal-digits_value (numerals_by_value _ tells_digits) text digits some lead l)
  where
    by : (t : Bool) → nat_lt 1 (length text) ≡ t → get_or text 0 0 ≡ 48 → length text ≡ 1
    by true q z = absurd (first (grind (arith, q)) z)
    by false q z = grind (arith, q, some)

pub parsed_is : {E : Type 0} (text : List ℕ) (n : ℕ) (r : Result ℕ E) → ParsesUnsigned 64 10 text r → r ≡ Ok n → (1 < length text → ((slice_index text 0 ≡ 48) → ⊥) × ((slice_index text 0 ≡ 43) → ⊥)) → (n < 2 ^ 64) × (text ≡ decimal n)
parsed_is {E} text n r h e first = by (nat_eq (slice_index text 0) 43) refl (subst (λ (z : Result ℕ E). ParsesUnsigned 64 10 text z) e h)
  where
    by : (t : Bool) → nat_eq (slice_index text 0) 43 ≡ t → ParsesUnsigned {E = E} 64 10 text (Ok n) → (n < 2 ^ 64) × (text ≡ decimal n)
    by true q k =
        let plus : slice_index text 0 ≡ 43 = same_number (slice_index text 0) 43 q in
        let some : 0 < length (drop 1 text) = subst (λ z. 0 < length z) (without_leading_plus_plus text plus) k.0.0.0 in
        absurd ((first (omega (arith, some, length-drop 1 text))).1 plus)
    by false q k =
        let same : without_leading_plus text ≡ text = without_leading_plus_none text (λ z. (let y : nat_eq (slice_index text 0) 43 ≡ true = grind (arith, z) in let bad : true ≡ false = sym y ∙ q in cc)) in
        (omega (arith, k.0.1, k.1), is_decimal text n (subst (IsNumeral 10) same k.0.0) (subst (λ z. digits_value 10 z < 2 ^ 64) same k.0.1) (k.1 ∙ ap (digits_value 10) same) (λ l. (first l).0))

-- a decimal of several digits begins with none of these
pub no_zero : (text : List ℕ) → 1 < length text → slice_index text 0 ≡ 48 → (n : ℕ) → n < 2 ^ 64 → text ≡ decimal n → ⊥
no_zero text l h n m e = by n m e (nat_lt 0 n) refl
  where
    by : (n : ℕ) → n < 2 ^ 64 → text ≡ decimal n → (t : Bool) → nat_lt 0 n ≡ t → ⊥
    by n m e true q =
        let first : 48 < get_or (decimal n) 0 0 = first_decimal n (grind (arith, q)) m in
        let same : slice_index text 0 ≡ get_or (decimal n) 0 0 = ap (λ z. slice_index z 0) e in
        omega (arith, first, same, h)
    by n m e false q =
        let zero_is : n ≡ 0 = grind (arith, q) in
        let long : length text ≡ 1 = ap length (e ∙ ap decimal zero_is ∙ decimal_digit 0 (omega arith)) in
        omega (arith, l, long)

pub no_plus : (text : List ℕ) → 1 < length text → slice_index text 0 ≡ 43 → (n : ℕ) → n < 2 ^ 64 → text ≡ decimal n → ⊥
no_plus [] l h n m e = absurd (omega (arith, l))
no_plus (c ∷ cs) l h n m e =
    let lack : lacks 43 (c ∷ cs) ≡ true = ap (lacks 43) e ∙ decimal_lacks 43 n (omega arith) m in
    let is : nat_eq c 43 ≡ true = grind (arith, h) in
    (let bad : false ≡ true = sym (ap (λ b. not b && lacks 43 cs) is) ∙ lack in cc)

pub padded_none : (text : List ℕ) → is_padded text ≡ true → (n : ℕ) → n < 2 ^ 64 → text ≡ decimal n → ⊥
padded_none text h n m e =
    let p = and_true (nat_lt 1 (length text)) (nat_eq (slice_index text 0) 48 || nat_eq (slice_index text 0) 43) h in
    by (nat_eq (slice_index text 0) 48) (nat_eq (slice_index text 0) 43) refl refl p.1 (grind (arith, p.0))
  where
    by : (a b : Bool) → nat_eq (slice_index text 0) 48 ≡ a → nat_eq (slice_index text 0) 43 ≡ b → a || b ≡ true → 1 < length text → ⊥
    by true b x y z l = no_zero text l (same_number (slice_index text 0) 48 x) n m e
    by false true x y z l = no_plus text l (same_number (slice_index text 0) 43 y) n m e
    by false false x y z l = (let bad : false ≡ true = z in cc)

pub not_padded : (text : List ℕ) → is_padded text ≡ false → 1 < length text → ((slice_index text 0 ≡ 48) → ⊥) × ((slice_index text 0 ≡ 43) → ⊥)
not_padded text h l = (λ z. zero_not z, λ z. plus_not z)
  where
    long : nat_lt 1 (length text) ≡ true
    long = grind (arith, l)

    zero_not : slice_index text 0 ≡ 48 → ⊥
    zero_not z =
        let y : nat_eq (slice_index text 0) 48 ≡ true = grind (arith, z) in
        (let bad : true ≡ false = sym (ap (λ b. b && (true || nat_eq (slice_index text 0) 43)) long) ∙ sym (ap (λ b. nat_lt 1 (length text) && (b || nat_eq (slice_index text 0) 43)) y) ∙ h in cc)

    plus_not : slice_index text 0 ≡ 43 → ⊥
    plus_not z =
        let y : nat_eq (slice_index text 0) 43 ≡ true = grind (arith, z) in
        let x : nat_eq (slice_index text 0) 48 ≡ false = grind (arith, z) in
        (let bad : true ≡ false = sym (ap (λ b. b && (false || true)) long) ∙ sym (ap (λ b. nat_lt 1 (length text) && (b || true)) x) ∙ sym (ap (λ b. nat_lt 1 (length text) && (nat_eq (slice_index text 0) 48 || b)) y) ∙ h in cc)

pub other_none : (text : List ℕ) → (IsUtf8 text → ⊥) → (n : ℕ) → n < 2 ^ 64 → text ≡ decimal n → ⊥
other_none text h n m e = h (subst IsUtf8 (sym e) (IsUtf8-from_ascii (decimal n) (IsAscii-decimal n m)))

pub failed_none : {E : Type 0} (text : List ℕ) (r : Result ℕ E) (x : E) → ParsesUnsigned 64 10 text r → r ≡ Err x → (n : ℕ) → n < 2 ^ 64 → text ≡ decimal n → ⊥
failed_none {E} text r x h f n m e = no_error x n (sym f ∙ parse-decimal 64 n text r m m e h)
  where
    no_error : (x : E) (n : ℕ) → ◌≡◌ {A = Result ℕ E} (Err x) (Ok n) → ⊥
    no_error x n both = cc
