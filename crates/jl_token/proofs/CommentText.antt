-- Comments: what the text behind a `#` or a `#=` is.
use Rattle.std.proofs.Common.{◌≡◌, ℕ, zero, suc, ◌+◌, ◌-◌, Bool, true, false, cond, not, ◌==◌, List, [], ◌∷◌, ◌++◌, Option, Some, None, refl, sym, ap, ◌∙◌, subst, append_assoc, arith, add-one}
use Rattle.std.specs.List.{AllByRecursion}
use Rattle.std.proofs.lemmas.Bool.{eqb-true, ne_eqb}
use Rattle.jl_token.specs.Characters.{is_comment_end, is_comment_start, has_first}
use Rattle.jl_token.specs.Grammar.{Comment, ends, nested, inside}
use Rattle.jl_token.specs.Reading.{after_line, after_comment}
use Rattle.jl_token.proofs.Choices.{if-sound, both-and}

abbrev two : ℕ → ℕ → ℕ × ℕ
two a b = (a, b)

-- ---- to the end of the line

abbrev pub InLine : List ℕ → Type 0
InLine = AllByRecursion (λ c. (c == 10) ≡ false)

abbrev pub EndsLine : List ℕ → Type 0
EndsLine rest = has_first (λ c. not (c == 10)) rest ≡ false

-- the text is characters of the line, and this rest
abbrev pub LineOf : List ℕ → List ℕ → Type 0
LineOf cs rest = (w : List ℕ) × (cs ≡ w ++ rest) × InLine w × EndsLine rest

pub line-found : (cs : List ℕ) → LineOf cs (after_line cs)
line-found [] = ([], refl, tt, refl)
line-found (c ∷ cs) =
    if-sound (LineOf (c ∷ cs)) (c == 10) (c ∷ cs) (after_line cs)
    (λ is. ([], refl, tt, ap not is))
    (λ no. let more = line-found cs in (c ∷ more.0, ap (λ l. c ∷ l) more.1, (no, more.2), more.3))

pub line-goes : (w rest : List ℕ) → InLine w → EndsLine rest → after_line (w ++ rest) ≡ rest
line-goes [] [] all stops = refl
line-goes [] (c ∷ rest) all stops = go (c == 10) stops
  where
    go : (b : Bool) → not b ≡ false → cond b (c ∷ rest) (after_line rest) ≡ c ∷ rest
    go true e = refl
    go false e = absurd cc
line-goes (c ∷ w) rest all stops = ap (λ b. cond b (c ∷ w ++ rest) (after_line (w ++ rest))) all.0 ∙ line-goes w rest all.1 stops

-- ---- block comments

pair-is : (a b x y : ℕ) → a ≡ x → b ≡ y → two a b ≡ two x y
pair-is a b x y p q = cc

-- what follows the text of a comment, where so many others are open around it
abbrev next : ℕ → List ℕ → Option (List ℕ)
next around rest = cond (around == 0) (Some rest) (after_comment (around - 1) rest)

next-outer : (around : ℕ) (rest : List ℕ) → next (around + 1) rest ≡ after_comment around rest
next-outer around rest =
    let some : (around + 1 == 0) ≡ false = ne_eqb (around + 1) 0 (λ e. omega arith) in
    let same : around + 1 - 1 ≡ around = omega arith in
    ap (λ b. cond b (Some rest) (after_comment (around + 1 - 1) rest)) some ∙ ap (λ n. after_comment n rest) same

pub comment-goes : (w : List ℕ) → Comment w → (around : ℕ) (rest : List ℕ) → after_comment around (w ++ rest) ≡ next around rest
comment-goes _ ends around rest = refl
comment-goes _ (nested v w a b) around rest =
    ap (after_comment (around + 1)) (append_assoc v w rest) ∙ comment-goes v a (around + 1) (w ++ rest) ∙ next-outer around (w ++ rest) ∙ comment-goes w b around rest
comment-goes _ (inside c d w no_end no_begin a) around rest =
    ap (λ b. cond b (next around (w ++ rest)) (cond (is_comment_start c d) (after_comment (around + 1) (w ++ rest)) (after_comment around (d ∷ w ++ rest)))) no_end
    ∙ ap (λ b. cond b (after_comment (around + 1) (w ++ rest)) (after_comment around (d ∷ w ++ rest))) no_begin
    ∙ comment-goes (d ∷ w) a around rest

-- the texts of a comment and of those around it, one after the other
abbrev Comments : ℕ → List ℕ → Type 0
Comments zero w = Comment w
Comments (suc n) w = (u : List ℕ) × (v : List ℕ) × (w ≡ u ++ v) × Comment u × Comments n v

comment-front : (w : List ℕ) → Comment w → (d : ℕ) × (v : List ℕ) × (w ≡ d ∷ v)
comment-front _ ends = (61, 35 ∷ [], refl)
comment-front _ (nested v w a b) = (35, 61 ∷ v ++ w, refl)
comment-front _ (inside c d w x y a) = (c, d ∷ w, refl)

-- one character more, which begins neither `=#` nor `#=`
comment-more : (c d : ℕ) (w cs rest : List ℕ) → is_comment_end c d ≡ false → is_comment_start c d ≡ false → d ∷ cs ≡ w ++ rest → Comment w → Comment (c ∷ w)
comment-more c d w cs rest x y split a =
    let front = comment-front w a in
    let whole : d ∷ cs ≡ front.0 ∷ front.1 ++ rest = split ∙ ap (λ l. l ++ rest) front.2 in
    let same : d ≡ front.0 = cc in
    let form : w ≡ d ∷ front.1 = front.2 ∙ ap (λ k. k ∷ front.1) (sym same) in
    subst (λ l. Comment (c ∷ l)) (sym form) (inside c d front.1 x y (subst Comment form a))

more-comments : (around c d : ℕ) (w cs rest : List ℕ) → is_comment_end c d ≡ false → is_comment_start c d ≡ false → d ∷ cs ≡ w ++ rest → Comments around w → Comments around (c ∷ w)
more-comments zero c d w cs rest x y split a = comment-more c d w cs rest x y split a
more-comments (suc n) c d w cs rest x y split a =
    let first : d ∷ cs ≡ a.0 ++ (a.1 ++ rest) = split ∙ ap (λ l. l ++ rest) a.2 ∙ append_assoc a.0 a.1 rest in
    (c ∷ a.0, a.1, ap (λ l. c ∷ l) a.2, comment-more c d a.0 cs (a.1 ++ rest) x y first a.3, a.4)

-- one comment more around
within-comments : (around : ℕ) (w : List ℕ) → Comments (suc around) w → Comments around (35 ∷ 61 ∷ w)
within-comments zero w a = subst (λ l. Comment (35 ∷ 61 ∷ l)) (sym a.2) (nested a.0 a.1 a.3 a.4)
within-comments (suc n) w a =
    let b = a.4 in
    (35 ∷ 61 ∷ a.0 ++ b.0, b.1, ap (λ l. 35 ∷ 61 ∷ l) (a.2 ∙ ap (λ l. a.0 ++ l) b.2 ∙ sym (append_assoc a.0 b.0 b.1)), nested a.0 b.0 a.3 b.3, b.4)

-- the text of the comments, and this rest behind them
abbrev CommentsOf : ℕ → List ℕ → Option (List ℕ) → Type 0
CommentsOf around cs None = Unit {0}
CommentsOf around cs (Some rest) = (w : List ℕ) × (cs ≡ w ++ rest) × Comments around w

ended-comments : (around : ℕ) (cs : List ℕ) (o : Option (List ℕ)) → CommentsOf around cs o → CommentsOf (suc around) (61 ∷ 35 ∷ cs) o
ended-comments around cs None a = tt
ended-comments around cs (Some rest) a = (61 ∷ 35 ∷ a.0, ap (λ l. 61 ∷ 35 ∷ l) a.1, (61 ∷ 35 ∷ [], a.0, refl, ends, a.2))

opened-comments : (around : ℕ) (cs : List ℕ) (o : Option (List ℕ)) → CommentsOf (suc around) cs o → CommentsOf around (35 ∷ 61 ∷ cs) o
opened-comments around cs None a = tt
opened-comments around cs (Some rest) a = (35 ∷ 61 ∷ a.0, ap (λ l. 35 ∷ 61 ∷ l) a.1, within-comments around a.0 a.2)

other-comments : (around c d : ℕ) (cs : List ℕ) (o : Option (List ℕ)) → is_comment_end c d ≡ false → is_comment_start c d ≡ false → CommentsOf around (d ∷ cs) o → CommentsOf around (c ∷ d ∷ cs) o
other-comments around c d cs None x y a = tt
other-comments around c d cs (Some rest) x y a = (c ∷ a.0, ap (λ l. c ∷ l) a.1, more-comments around c d a.0 cs rest x y a.1 a.2)

next-comments : (around : ℕ) (cs : List ℕ) → ((n : ℕ) → CommentsOf n cs (after_comment n cs)) → CommentsOf around (61 ∷ 35 ∷ cs) (next around cs)
next-comments zero cs found = (61 ∷ 35 ∷ [], refl, ends)
next-comments (suc n) cs found =
    let none : (suc n == 0) ≡ false = ne_eqb (suc n) 0 (λ e. omega arith) in
    let same : suc n - 1 ≡ n = omega arith in
    let is : next (suc n) cs ≡ after_comment n cs = ap (λ b. cond b (Some cs) (after_comment (suc n - 1) cs)) none ∙ ap (λ m. after_comment m cs) same in
    subst (CommentsOf (suc n) (61 ∷ 35 ∷ cs)) (sym is) (ended-comments n cs (after_comment n cs) (found n))

-- what is found where a comment's end is sought
pub comments-found : (around : ℕ) (cs : List ℕ) → CommentsOf around cs (after_comment around cs)
comments-found around [] = tt
comments-found around (c ∷ []) = tt
comments-found around (c ∷ d ∷ cs) =
    if-sound (CommentsOf around (c ∷ d ∷ cs)) (is_comment_end c d) (next around cs) (cond (is_comment_start c d) (after_comment (around + 1) cs) (after_comment around (d ∷ cs)))
    (λ is.
    let both = both-and (c == 61) (d == 35) is in
    subst (λ p. CommentsOf around (p.0 ∷ p.1 ∷ cs) (next around cs)) (sym (pair-is c d 61 35 (eqb-true c 61 both.0) (eqb-true d 35 both.1))) (next-comments around cs (λ n. comments-found n cs)))
    (λ no_end. if-sound (CommentsOf around (c ∷ d ∷ cs)) (is_comment_start c d) (after_comment (around + 1) cs) (after_comment around (d ∷ cs))
    (λ is.
    let both = both-and (c == 35) (d == 61) is in
    let more : CommentsOf (suc around) cs (after_comment (around + 1) cs) = subst (λ n. CommentsOf n cs (after_comment (around + 1) cs)) (add-one around) (comments-found (around + 1) cs) in
    subst (λ p. CommentsOf around (p.0 ∷ p.1 ∷ cs) (after_comment (around + 1) cs)) (sym (pair-is c d 35 61 (eqb-true c 35 both.0) (eqb-true d 61 both.1))) (opened-comments around cs (after_comment (around + 1) cs) more))
    (λ no_begin. other-comments around c d cs (after_comment around (d ∷ cs)) no_end no_begin (comments-found around (d ∷ cs))))

-- a comment's text and what follows it
pub comment-found : (cs rest : List ℕ) → after_comment 0 cs ≡ Some rest → (w : List ℕ) × (cs ≡ w ++ rest) × Comment w
comment-found cs rest e = subst (CommentsOf 0 cs) e (comments-found 0 cs)
