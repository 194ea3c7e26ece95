-- Lines, without their newline.
use Rattle.std.proofs.Common.{◌≡◌, ◌∙◌, sym, refl, ap, subst, ℕ, ◌<◌, ◌≤◌, ◌^◌, arith, Bool, true, false, ◌&&◌, cond, nat_lt, codes, decimal, List, [], ◌∷◌, ◌++◌, length, bytes_eq, Option, None, Some, IfSome, append_assoc, append-nil}
use Rattle.std.specs.Str.{is_utf8}
use Rattle.std.proofs.lemmas.Str.{IsUtf8-from_is_utf8, is_utf8-from_IsUtf8}
use Rattle.jl_report.specs.declared.entry.Step.{Step}
use Rattle.jl_report.specs.declared.entry.Step.TheVariants as S
use Rattle.jl_report.specs.declared.entry.Ending.{Ending}
use Rattle.jl_report.specs.declared.entry.Ending.TheVariants as N
use Rattle.jl_report.specs.HistoryText.{newline, spaced, number_line, step_line, ending_line}
use Rattle.jl_history.specs.declared.fields.TheConstants.{MOST_NUMBER}
use Rattle.jl_history.specs.Form.{lacks, IsText, IsKey, IsStep, IsEnding}
use Rattle.jl_history.specs.Fields.{◌>>=◌, space, cut, by_word, number_in, two_in, is_text, key_in, place_step, two_step, step_by, step_in, ending_by, outcome_by, ending_in}
use Rattle.jl_history.proofs.OptionLemmas.{bind_holds, cond_holds, and_true, same_bytes}
use Rattle.jl_history.proofs.CutLemmas.{IsCut, cut_holds, cut_again, lacks_append, lacks_parts}
use Rattle.jl_history.proofs.NumberLemmas.{IsNumberIn, number_holds, number_again, AreTwo, two_holds, two_again, decimal_lacks, small_one}

-- ---- a word and what follows it

pub by_word_holds : {A : Type 0} (f : List ℕ → List ℕ → Option A) (text : List ℕ) (Q : A → Type 0)
    → ((word rest : List ℕ) → lacks space word ≡ true → text ≡ word ++ space ∷ rest → IfSome (f word rest) Q) → IfSome (by_word f text) Q
by_word_holds f text Q h = bind_holds (cut space text) (λ p. f p.0 p.1) (λ p. IsCut space text p.0 p.1) Q (cut_holds space text) (λ p k. h p.0 p.1 k.free k.parts)

pub by_word_again : {A : Type 0} (f : List ℕ → List ℕ → Option A) (word rest : List ℕ) → lacks space word ≡ true → by_word f (word ++ space ∷ rest) ≡ f word rest
by_word_again f word rest h = ap (λ o. o >>= λ p. f p.0 p.1) (cut_again space word rest h)

-- ---- numbers with a space before each

pub one_spaced : (a : ℕ) → spaced (a ∷ []) ≡ space ∷ decimal a
one_spaced a = ap (λ z. space ∷ z) (append-nil (decimal a))

pub two_spaced : (a b : ℕ) → spaced (a ∷ b ∷ []) ≡ space ∷ (decimal a ++ space ∷ decimal b)
two_spaced a b = ap (λ z. space ∷ (decimal a ++ z)) (one_spaced b)

pub three_spaced : (a b c : ℕ) → spaced (a ∷ b ∷ c ∷ []) ≡ space ∷ (decimal a ++ space ∷ (decimal b ++ space ∷ decimal c))
three_spaced a b c = ap (λ z. space ∷ (decimal a ++ z)) (two_spaced b c)

-- the line of a word and numbers, with its newline
pub number_line_is : (word : List ℕ) (ns : List ℕ) → number_line word ns ≡ (word ++ spaced ns) ++ newline ∷ []
number_line_is word ns = sym (append_assoc word (spaced ns) (newline ∷ []))

-- numbers of 64 bits
abbrev pub AreSmall : List ℕ → Type 0
AreSmall [] = Unit {0}
AreSmall (n ∷ ns) = (n < 2 ^ 64) × AreSmall ns

pub spaced_lacks : (ns : List ℕ) → AreSmall ns → lacks newline (spaced ns) ≡ true
spaced_lacks [] h = refl
spaced_lacks (n ∷ ns) (h, hs) = lacks_append newline (decimal n) (spaced ns) (decimal_lacks newline n (omega arith) h) (spaced_lacks ns hs)

-- a word and numbers
pub words_lack : (word ns : List ℕ) → lacks newline word ≡ true → AreSmall ns → lacks newline (word ++ spaced ns) ≡ true
words_lack word ns h k = lacks_append newline word (spaced ns) h (spaced_lacks ns k)

pub one_line : (word w fields : List ℕ) (a : ℕ) → w ≡ word → fields ≡ decimal a → w ++ space ∷ fields ≡ word ++ spaced (a ∷ [])
one_line word w fields a e f = ap (λ z. z ++ space ∷ fields) e ∙ ap (λ z. word ++ space ∷ z) f ∙ ap (λ z. word ++ z) (sym (one_spaced a))

pub two_line : (word w fields : List ℕ) (a b : ℕ) → w ≡ word → fields ≡ decimal a ++ space ∷ decimal b → w ++ space ∷ fields ≡ word ++ spaced (a ∷ b ∷ [])
two_line word w fields a b e f = ap (λ z. z ++ space ∷ fields) e ∙ ap (λ z. word ++ space ∷ z) f ∙ ap (λ z. word ++ z) (sym (two_spaced a b))

pub three_line : (word w fields : List ℕ) (a b c : ℕ) → w ≡ word → fields ≡ decimal a ++ space ∷ (decimal b ++ space ∷ decimal c) → w ++ space ∷ fields ≡ word ++ spaced (a ∷ b ∷ c ∷ [])
three_line word w fields a b c e f = ap (λ z. z ++ space ∷ fields) e ∙ ap (λ z. word ++ space ∷ z) f ∙ ap (λ z. word ++ z) (sym (three_spaced a b c))

-- ---- items of a trace

abbrev pub step_words : Step → List ℕ
step_words (S.Look world at) = codes "look" ++ spaced (world ∷ at ∷ [])
step_words (S.Def site at) = codes "def" ++ spaced (site ∷ at ∷ [])
step_words (S.Spawn child at) = codes "spawn" ++ spaced (child ∷ at ∷ [])
step_words (S.Fetch task at) = codes "fetch" ++ spaced (task ∷ at ∷ [])
step_words (S.WorldFull at) = codes "worldfull" ++ spaced (at ∷ [])
step_words (S.TaskFull at) = codes "taskfull" ++ spaced (at ∷ [])
step_words (S.Del place at) = codes "del" ++ spaced (place ∷ at ∷ [])
step_words (S.Absent place at) = codes "absent" ++ spaced (place ∷ at ∷ [])

pub step_line_is : (s : Step) → step_line s ≡ step_words s ++ newline ∷ []
step_line_is (S.Look world at) = number_line_is (codes "look") (world ∷ at ∷ [])
step_line_is (S.Def site at) = number_line_is (codes "def") (site ∷ at ∷ [])
step_line_is (S.Spawn child at) = number_line_is (codes "spawn") (child ∷ at ∷ [])
step_line_is (S.Fetch task at) = number_line_is (codes "fetch") (task ∷ at ∷ [])
step_line_is (S.WorldFull at) = number_line_is (codes "worldfull") (at ∷ [])
step_line_is (S.TaskFull at) = number_line_is (codes "taskfull") (at ∷ [])
step_line_is (S.Del place at) = number_line_is (codes "del") (place ∷ at ∷ [])
step_line_is (S.Absent place at) = number_line_is (codes "absent") (place ∷ at ∷ [])

pub two_small : (a b : ℕ) → a ≤ MOST_NUMBER → b ≤ MOST_NUMBER → AreSmall (a ∷ b ∷ [])
two_small a b l m = (small_one a l, (small_one b m, tt))

pub step_lacks : (places : Bool) (s : Step) → IsStep places s → lacks newline (step_words s) ≡ true
step_lacks places (S.Look world at) (l, m) = words_lack (codes "look") (world ∷ at ∷ []) refl (two_small world at l m)
step_lacks places (S.Def site at) (l, m) = words_lack (codes "def") (site ∷ at ∷ []) refl (two_small site at l m)
step_lacks places (S.Spawn child at) (l, m) = words_lack (codes "spawn") (child ∷ at ∷ []) refl (two_small child at l m)
step_lacks places (S.Fetch task at) (l, m) = words_lack (codes "fetch") (task ∷ at ∷ []) refl (two_small task at l m)
step_lacks places (S.WorldFull at) l = words_lack (codes "worldfull") (at ∷ []) refl (small_one at l, tt)
step_lacks places (S.TaskFull at) l = words_lack (codes "taskfull") (at ∷ []) refl (small_one at l, tt)
step_lacks places (S.Del place at) (told, l, m) = words_lack (codes "del") (place ∷ at ∷ []) refl (two_small place at l m)
step_lacks places (S.Absent place at) (told, l, m) = words_lack (codes "absent") (place ∷ at ∷ []) refl (two_small place at l m)

pub record IsStepOf (places : Bool) (line : List ℕ) (s : Step) : Type 0 where
  pub fits : IsStep places s
  pub is : line ≡ step_words s

place_step_holds : (places : Bool) (word fields : List ℕ) (place at : ℕ) → AreTwo fields (place, at) → IfSome (place_step places word place at) (IsStepOf places (word ++ space ∷ fields))
place_step_holds places word fields place at k =
    cond_holds (bytes_eq word (codes "del") && places) _ _ (IsStepOf places (word ++ space ∷ fields)) (λ h.
    let two = and_true (bytes_eq word (codes "del")) places h in
    record { fits = (two.1, k.first, k.second); is = two_line (codes "del") word fields place at (same_bytes word (codes "del") two.0) k.is }) (λ h.
    cond_holds (bytes_eq word (codes "absent") && places) _ None (IsStepOf places (word ++ space ∷ fields)) (λ h.
    let two = and_true (bytes_eq word (codes "absent")) places h in
    record { fits = (two.1, k.first, k.second); is = two_line (codes "absent") word fields place at (same_bytes word (codes "absent") two.0) k.is }) (λ h. tt))

two_step_holds : (places : Bool) (word fields : List ℕ) → IfSome (two_step places word fields) (IsStepOf places (word ++ space ∷ fields))
two_step_holds places word fields =
    bind_holds (two_in fields) _ (AreTwo fields) (IsStepOf places (word ++ space ∷ fields)) (two_holds fields) (λ p k.
    cond_holds (bytes_eq word (codes "look")) _ _ (IsStepOf places (word ++ space ∷ fields)) (λ h. record { fits = (k.first, k.second); is = two_line (codes "look") word fields p.0 p.1 (same_bytes word (codes "look") h) k.is }) (λ h.
    cond_holds (bytes_eq word (codes "def")) _ _ (IsStepOf places (word ++ space ∷ fields)) (λ h. record { fits = (k.first, k.second); is = two_line (codes "def") word fields p.0 p.1 (same_bytes word (codes "def") h) k.is }) (λ h.
    cond_holds (bytes_eq word (codes "spawn")) _ _ (IsStepOf places (word ++ space ∷ fields)) (λ h. record { fits = (k.first, k.second); is = two_line (codes "spawn") word fields p.0 p.1 (same_bytes word (codes "spawn") h) k.is }) (λ h.
    cond_holds (bytes_eq word (codes "fetch")) _ _ (IsStepOf places (word ++ space ∷ fields)) (λ h. record { fits = (k.first, k.second); is = two_line (codes "fetch") word fields p.0 p.1 (same_bytes word (codes "fetch") h) k.is }) (λ h.
    place_step_holds places word fields p.0 p.1 k)))))

full_holds : (places : Bool) (name word fields : List ℕ) (make : ℕ → Step) → word ≡ name → ((at : ℕ) → at ≤ MOST_NUMBER → IsStep places (make at)) → ((at : ℕ) → step_words (make at) ≡ name ++ spaced (at ∷ []))
    → IfSome (number_in MOST_NUMBER fields >>= λ at. Some (make at)) (IsStepOf places (word ++ space ∷ fields))
full_holds places name word fields make e f g =
    bind_holds (number_in MOST_NUMBER fields) (λ at. Some (make at)) (IsNumberIn MOST_NUMBER fields) (IsStepOf places (word ++ space ∷ fields)) (number_holds MOST_NUMBER fields) (λ at k.
    record { fits = f at k.small; is = one_line name word fields at e k.is ∙ sym (g at) })

pub step_holds : (places : Bool) (line : List ℕ) → IfSome (step_in places line) (IsStepOf places line)
step_holds places line = by_word_holds (step_by places) line (IsStepOf places line) (λ word fields free e.
    subst (λ z. IfSome (step_by places word fields) (IsStepOf places z)) (sym e) (
    cond_holds (bytes_eq word (codes "worldfull")) _ _ (IsStepOf places (word ++ space ∷ fields)) (λ h. full_holds places (codes "worldfull") word fields (λ at. S.WorldFull at) (same_bytes word (codes "worldfull") h) (λ at l. l) (λ at. refl)) (λ h.
    cond_holds (bytes_eq word (codes "taskfull")) _ _ (IsStepOf places (word ++ space ∷ fields)) (λ h. full_holds places (codes "taskfull") word fields (λ at. S.TaskFull at) (same_bytes word (codes "taskfull") h) (λ at l. l) (λ at. refl)) (λ h.
    two_step_holds places word fields))))

two_step_again : (places : Bool) (name : List ℕ) (make : ℕ → ℕ → Step) (a b : ℕ) → lacks space name ≡ true → a ≤ MOST_NUMBER → b ≤ MOST_NUMBER
    → ((fields : List ℕ) → step_by places name fields ≡ (two_in fields >>= λ p. Some (make p.0 p.1)))
    → step_in places (name ++ spaced (a ∷ b ∷ [])) ≡ Some (make a b)
two_step_again places name make a b h l m f =
    ap (λ z. step_in places (name ++ z)) (two_spaced a b)
    ∙ by_word_again (step_by places) name (decimal a ++ space ∷ decimal b) h
    ∙ f (decimal a ++ space ∷ decimal b)
    ∙ ap (λ o. o >>= λ p. Some (make p.0 p.1)) (two_again a b l m)

full_again : (places : Bool) (name : List ℕ) (make : ℕ → Step) (a : ℕ) → lacks space name ≡ true → a ≤ MOST_NUMBER
    → ((fields : List ℕ) → step_by places name fields ≡ (number_in MOST_NUMBER fields >>= λ at. Some (make at)))
    → step_in places (name ++ spaced (a ∷ [])) ≡ Some (make a)
full_again places name make a h l f =
    ap (λ z. step_in places (name ++ z)) (one_spaced a)
    ∙ by_word_again (step_by places) name (decimal a) h
    ∙ f (decimal a)
    ∙ ap (λ o. o >>= λ at. Some (make at)) (number_again MOST_NUMBER a l (omega arith))

-- no deletion is told where there is no place of one
pub not_told : false ≡ true → ⊥
not_told e = cc

pub step_again : (places : Bool) (s : Step) → IsStep places s → step_in places (step_words s) ≡ Some s
step_again places (S.Look world at) (l, m) = two_step_again places (codes "look") (λ a b. S.Look a b) world at refl l m (λ fields. refl)
step_again places (S.Def site at) (l, m) = two_step_again places (codes "def") (λ a b. S.Def a b) site at refl l m (λ fields. refl)
step_again places (S.Spawn child at) (l, m) = two_step_again places (codes "spawn") (λ a b. S.Spawn a b) child at refl l m (λ fields. refl)
step_again places (S.Fetch task at) (l, m) = two_step_again places (codes "fetch") (λ a b. S.Fetch a b) task at refl l m (λ fields. refl)
step_again places (S.WorldFull at) l = full_again places (codes "worldfull") (λ a. S.WorldFull a) at refl l (λ fields. refl)
step_again places (S.TaskFull at) l = full_again places (codes "taskfull") (λ a. S.TaskFull a) at refl l (λ fields. refl)
step_again true (S.Del place at) (told, l, m) = two_step_again true (codes "del") (λ a b. S.Del a b) place at refl l m (λ fields. refl)
step_again false (S.Del place at) (told, l, m) = absurd (not_told told)
step_again true (S.Absent place at) (told, l, m) = two_step_again true (codes "absent") (λ a b. S.Absent a b) place at refl l m (λ fields. refl)
step_again false (S.Absent place at) (told, l, m) = absurd (not_told told)

-- ---- texts

pub text_is : (text : List ℕ) → is_text text ≡ true → lacks newline text ≡ true → IsText text
text_is text h k =
    let p = and_true (nat_lt 0 (length text)) (is_utf8 text) h in
    record { some = some_of (length text) p.0; one_line = k; utf8 = IsUtf8-from_is_utf8 text p.1 }
  where
    some_of : (n : ℕ) → nat_lt 0 n ≡ true → 0 < n
    some_of n e = grind (arith, e)

pub text_again : (text : List ℕ) → IsText text → is_text text ≡ true
text_again text t =
    let l : nat_lt 0 (length text) ≡ true = lt_true (length text) t.some in
    ap (λ b. b && is_utf8 text) l ∙ is_utf8-from_IsUtf8 text t.utf8
  where
    lt_true : (n : ℕ) → 0 < n → nat_lt 0 n ≡ true
    lt_true n h = grind (arith, h)

-- ---- outcomes

abbrev pub ending_words : Ending → List ℕ
ending_words (N.Value text) = codes "outcome value " ++ text
ending_words (N.Error text) = codes "outcome error " ++ text

pub ending_line_is : (e : Ending) → ending_line e ≡ ending_words e ++ newline ∷ []
ending_line_is (N.Value text) = refl
ending_line_is (N.Error text) = refl

pub ending_lacks : (e : Ending) → IsEnding e → lacks newline (ending_words e) ≡ true
ending_lacks (N.Value text) t = lacks_append newline (codes "outcome value ") text refl t.one_line
ending_lacks (N.Error text) t = lacks_append newline (codes "outcome error ") text refl t.one_line

pub record IsEndingOf (line : List ℕ) (e : Ending) : Type 0 where
  pub fits : IsEnding e
  pub is : line ≡ ending_words e

kind_holds : (word text : List ℕ) → lacks newline text ≡ true → IfSome (ending_by word text) (IsEndingOf (codes "outcome" ++ space ∷ (word ++ space ∷ text)))
kind_holds word text k =
    cond_holds (is_text text) _ None (IsEndingOf (codes "outcome" ++ space ∷ (word ++ space ∷ text))) (λ t.
    cond_holds (bytes_eq word (codes "value")) _ _ (IsEndingOf (codes "outcome" ++ space ∷ (word ++ space ∷ text)))
    (λ h. record { fits = text_is text t k; is = ap (λ z. codes "outcome" ++ space ∷ (z ++ space ∷ text)) (same_bytes word (codes "value") h) })
    (λ h. cond_holds (bytes_eq word (codes "error")) _ None (IsEndingOf (codes "outcome" ++ space ∷ (word ++ space ∷ text)))
    (λ g. record { fits = text_is text t k; is = ap (λ z. codes "outcome" ++ space ∷ (z ++ space ∷ text)) (same_bytes word (codes "error") g) })
    (λ g. tt)))
    (λ t. tt)

pub ending_holds : (line : List ℕ) → lacks newline line ≡ true → IfSome (ending_in line) (IsEndingOf line)
ending_holds line free = by_word_holds outcome_by line (IsEndingOf line) (λ word rest alone e.
    cond_holds (bytes_eq word (codes "outcome")) _ None (IsEndingOf line) (λ h.
    by_word_holds ending_by rest (IsEndingOf line) (λ kind text other f.
    let is : line ≡ codes "outcome" ++ space ∷ (kind ++ space ∷ text) = e ∙ ap (λ z. z ++ space ∷ rest) (same_bytes word (codes "outcome") h) ∙ ap (λ z. codes "outcome" ++ space ∷ z) f in
    let p = lacks_parts newline (codes "outcome" ++ space ∷ (kind ++ space ∷ [])) text (ap (lacks newline) (regroup kind text ∙ sym is) ∙ free) in
    subst (λ z. IfSome (ending_by kind text) (IsEndingOf z)) (sym is) (kind_holds kind text p.1)))
    (λ h. tt))
  where
    regroup : (kind text : List ℕ) → (codes "outcome" ++ space ∷ (kind ++ space ∷ [])) ++ text ≡ codes "outcome" ++ space ∷ (kind ++ space ∷ text)
    regroup kind text = ap (λ z. codes "outcome" ++ space ∷ z) (append_assoc kind (space ∷ []) text)

ending_by_again : (name text : List ℕ) (make : List ℕ → Ending) → IsText text → lacks space name ≡ true
    → ending_by name text ≡ cond (is_text text) (Some (make text)) None → ending_in (codes "outcome" ++ space ∷ (name ++ space ∷ text)) ≡ Some (make text)
ending_by_again name text make t h f =
    by_word_again outcome_by (codes "outcome") (name ++ space ∷ text) refl
    ∙ by_word_again ending_by name text h
    ∙ f
    ∙ ap (λ b. cond b (Some (make text)) None) (text_again text t)

pub ending_again : (e : Ending) → IsEnding e → ending_in (ending_words e) ≡ Some e
ending_again (N.Value text) t = ending_by_again (codes "value") text (λ z. N.Value z) t refl refl
ending_again (N.Error text) t = ending_by_again (codes "error") text (λ z. N.Error z) t refl refl

-- ---- keys

abbrev pub key_fields : ℕ → List ℕ → List ℕ → List ℕ
key_fields number function tuple = decimal number ++ space ∷ (function ++ space ∷ tuple)

pub record IsKeyOf (text : List ℕ) (k : ℕ × List ℕ × List ℕ) : Type 0 where
  pub fits : IsKey k.0 k.1 k.2
  pub is : text ≡ key_fields k.0 k.1 k.2

pub key_holds : (text : List ℕ) → lacks newline text ≡ true → IfSome (key_in text) (IsKeyOf text)
key_holds text free =
    bind_holds (cut space text) _ (λ p. IsCut space text p.0 p.1) (IsKeyOf text) (cut_holds space text) (λ p k.
    bind_holds (cut space p.1) _ (λ q. IsCut space p.1 q.0 q.1) (IsKeyOf text) (cut_holds space p.1) (λ q l.
    bind_holds (number_in MOST_NUMBER p.0) _ (IsNumberIn MOST_NUMBER p.0) (IsKeyOf text) (number_holds MOST_NUMBER p.0) (λ a x.
    cond_holds (is_text q.0 && is_text q.1) _ None (IsKeyOf text)
    (λ h.
    let two = and_true (is_text q.0) (is_text q.1) h in
    let after = lacks_parts newline p.0 (space ∷ p.1) (ap (lacks newline) (sym k.parts) ∙ free) in
    let later = lacks_parts newline q.0 (space ∷ q.1) (ap (lacks newline) (sym l.parts) ∙ after.1) in
    record {
      fits = record { small = x.small; name = text_is q.0 two.0 later.0; one_word = l.free; types = text_is q.1 two.1 later.1 };
      is = k.parts ∙ ap (λ z. z ++ space ∷ p.1) x.is ∙ ap (λ z. decimal a ++ space ∷ z) l.parts;
    })
    (λ h. tt))))

pub key_again : (number : ℕ) (function tuple : List ℕ) → IsKey number function tuple → key_in (key_fields number function tuple) ≡ Some (number, function, tuple)
key_again number function tuple k =
    ap (λ o. o >>= λ p. cut space p.1 >>= λ q. number_in MOST_NUMBER p.0 >>= λ a. cond (is_text q.0 && is_text q.1) (Some (a, q.0, q.1)) None)
    (cut_again space (decimal number) (function ++ space ∷ tuple) (decimal_lacks space number (omega arith) (small_one number k.small)))
    ∙ ap (λ o. o >>= λ q. number_in MOST_NUMBER (decimal number) >>= λ a. cond (is_text q.0 && is_text q.1) (Some (a, q.0, q.1)) None) (cut_again space function tuple k.one_word)
    ∙ ap (λ o. o >>= λ a. cond (is_text function && is_text tuple) (Some (a, function, tuple)) None) (number_again MOST_NUMBER number k.small (omega arith))
    ∙ ap (λ b. cond (b && is_text tuple) (Some (number, function, tuple)) None) (text_again function k.name)
    ∙ ap (λ b. cond b (Some (number, function, tuple)) None) (text_again tuple k.types)

pub three_small : (a b c : ℕ) → a ≤ MOST_NUMBER → b ≤ MOST_NUMBER → c < 2 ^ 64 → AreSmall (a ∷ b ∷ c ∷ [])
three_small a b c l m n = (small_one a l, (small_one b m, (n, tt)))
