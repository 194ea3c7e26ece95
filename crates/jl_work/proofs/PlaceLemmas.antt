-- The column behind some bytes, one byte after another.
use Rattle.std.proofs.Common.{◌≡◌, ℕ, ◌+◌, List, [], ◌∷◌, ◌++◌, refl, ap, ◌∙◌, arith, Bool, true, false, ◌==◌, if◌then◌else◌, decimal, Result, IfOk}
use Rattle.std.proofs.lemmas.List.{append_assoc}
use Rattle.std.specs.declared.alloc.AllocError.{AllocError}
use Rattle.jl_work.specs.Place.{character, characters, last_line}

-- the column behind these bytes, where the column before them is c
abbrev pub column_from : ℕ → List ℕ → ℕ
column_from c [] = c
column_from c (b ∷ bs) = column_from (if b == 10 then 1 else c + character b) bs

pub characters_more : (bs : List ℕ) (b : ℕ) → characters (bs ++ b ∷ []) ≡ characters bs + character b
characters_more [] b = omega arith
characters_more (x ∷ bs) b = omega (characters_more bs b, arith)

by_newline : (t : Bool) (c b : ℕ) (line bs : List ℕ) → column_from 1 bs ≡ 1 + characters (last_line [] bs) → column_from (c + character b) bs ≡ 1 + characters (last_line (line ++ b ∷ []) bs)
    → column_from (if t then 1 else c + character b) bs ≡ 1 + characters (if t then last_line [] bs else last_line (line ++ b ∷ []) bs)
by_newline true c b line bs p q = p
by_newline false c b line bs p q = q

-- it counts the characters of the last line
pub column_is : (c : ℕ) (line bs : List ℕ) → c ≡ 1 + characters line → column_from c bs ≡ 1 + characters (last_line line bs)
column_is c line [] e = e
column_is c line (b ∷ bs) e =
    by_newline (b == 10) c b line bs (column_is 1 [] bs refl) (column_is (c + character b) (line ++ b ∷ []) bs (omega (e, characters_more line b, arith)))

-- a text written in seven pieces, two of them numbers
pub joined : (r : Result (List ℕ) AllocError) (o1 o2 o3 o4 o5 o6 o7 a c e f g : List ℕ) (m m' n n' : ℕ) → m ≡ m' → n ≡ n' → o1 ≡ a → o2 ≡ o1 ++ decimal m → o3 ≡ o2 ++ c
    → o4 ≡ o3 ++ decimal n → o5 ≡ o4 ++ e → o6 ≡ o5 ++ f → o7 ≡ o6 ++ g
    → IfOk r (λ t. t ≡ o7) → IfOk r (λ t. t ≡ a ++ (decimal m' ++ (c ++ (decimal n' ++ (e ++ (f ++ g))))))
joined r o1 o2 o3 o4 o5 o6 o7 a c e f g m m' n n' p q i j k l u v w h =
    let whole : o7 ≡ a ++ (decimal m ++ (c ++ (decimal n ++ (e ++ (f ++ g))))) = rw (w, v, u, l, k, j, i) (simp append_assoc) in
    let told : a ++ (decimal m ++ (c ++ (decimal n ++ (e ++ (f ++ g))))) ≡ a ++ (decimal m' ++ (c ++ (decimal n' ++ (e ++ (f ++ g))))) =
    ap (λ (x : ℕ). a ++ (decimal x ++ (c ++ (decimal n ++ (e ++ (f ++ g)))))) p ∙ ap (λ (x : ℕ). a ++ (decimal m' ++ (c ++ (decimal x ++ (e ++ (f ++ g)))))) q in
    rw (← (whole ∙ told)) h

-- a text written in five pieces, two of them numbers
pub counted : (r : Result (List ℕ) AllocError) (o1 o2 o3 o4 o5 a c e : List ℕ) (m m' n n' : ℕ) → m ≡ m' → n ≡ n' → o1 ≡ a → o2 ≡ o1 ++ decimal m → o3 ≡ o2 ++ c → o4 ≡ o3 ++ decimal n → o5 ≡ o4 ++ e
    → IfOk r (λ t. t ≡ o5) → IfOk r (λ t. t ≡ a ++ (decimal m' ++ (c ++ (decimal n' ++ e))))
counted r o1 o2 o3 o4 o5 a c e m m' n n' p q i j k l u h =
    let whole : o5 ≡ a ++ (decimal m ++ (c ++ (decimal n ++ e))) = rw (u, l, k, j, i) (simp append_assoc) in
    let told : a ++ (decimal m ++ (c ++ (decimal n ++ e))) ≡ a ++ (decimal m' ++ (c ++ (decimal n' ++ e))) =
    ap (λ (x : ℕ). a ++ (decimal x ++ (c ++ (decimal n ++ e)))) p ∙ ap (λ (x : ℕ). a ++ (decimal m' ++ (c ++ (decimal x ++ e)))) q in
    rw (← (whole ∙ told)) h
