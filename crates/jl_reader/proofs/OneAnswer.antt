-- Tokens have one answer at most.
use Rattle.std.proofs.Common.{ℕ, ◌+◌, ◌≤◌, ◌<◌, zero, suc, Bool, true, false, List, [], ◌∷◌, ◌++◌, ◌≡◌, ◌⊎◌, inl, inr, length, take, drop, Option, Some, None, Result, Ok, Err, refl, sym, ap, subst, ◌∙◌, arith}
use Rattle.std.proofs.Math.Seq.{take-append_seam, take-length}
use Rattle.std.proofs.lemmas.Bool.{cases_lt}
use Rattle.std.proofs.lemmas.List.{append_assoc, append-nil, take-append-drop, take_all}
use Rattle.jl_token.specs.declared.token.Token.{Token}
use Rattle.jl_typeread.specs.declared.terminal.Terminal.TheVariants as S
use Rattle.jl_grammar.specs.declared.mark.Ahead.TheVariants as A
use Rattle.jl_grammar.specs.declared.mark.Marked.{Marked}
use Rattle.jl_grammar.specs.declared.mark.Opening.TheVariants as O
use Rattle.jl_grammar.specs.declared.state.ItemsRead.{ItemsRead}
use Rattle.jl_grammar.specs.declared.state.Point.TheVariants as P
use Rattle.jl_grammar.specs.declared.state.State.{State}
use Rattle.jl_grammar.specs.declared.tree.Script.{Script}
use Rattle.jl_grammar.specs.Grammar.{ItemsBefore, ScriptText, script_before}
use Rattle.jl_grammar.specs.Machine.{start, step_all}
use Rattle.jl_grammar.specs.Reads.{Begins, IsWrong, NoneDeep, IsTooDeep, first_at}
use Rattle.jl_grammar.specs.Texts.{Text, Spot, tok, NoEnd}
use Rattle.jl_grammar.specs.Turns.{at}
use Rattle.jl_grammar.proofs.Reading.{step_all_append}
use Rattle.jl_grammar.proofs.SpelledItems.{read_items_before, read_script, one_script}
use Rattle.jl_reader.specs.declared.fault.SyntaxFault.{SyntaxFault}
use Rattle.jl_reader.specs.declared.fault.SyntaxFault.TheVariants.{Syntax, BadType, TooDeep, Memory}
use Rattle.jl_reader.specs.Answers.{is_type_wanted_after, IsFault, Answers, Reads, UnlessMemory, IsOnly}
use Rattle.jl_reader.proofs.Answered.{Stands, stands, deep_more}
use Rattle.jl_reader.proofs.StaysMachine.{depth_of, IsDeep, step_all_deep}

-- ---- the first wrong token

abbrev Front : Text → Text → Type 0
Front us vs = (ws : Text) × (vs ≡ us ++ ws)

front_take : (k m : ℕ) (ts : Text) → k ≤ m → Front (take k ts) (take m ts)
front_take zero m ts h = (take m ts, refl)
front_take (suc k) zero ts h = absurd (omega (arith, h))
front_take (suc k) (suc m) [] h = ([], refl)
front_take (suc k) (suc m) (x ∷ ts) h = let r = front_take k m ts (omega (arith, h)) in (r.0, ap (λ u. x ∷ u) r.1)

begins_front : (us vs : Text) → Front us vs → Begins vs → Begins us
begins_front us vs f b = (b.0, f.0 ++ b.1, subst (ScriptText b.0) (ap (λ x. x ++ b.1) f.1 ∙ append_assoc us f.0 b.1) b.2)

begins_take : (k m : ℕ) (ts : Text) → k ≤ m → Begins (take m ts) → Begins (take k ts)
begins_take k m ts h b = begins_front (take k ts) (take m ts) (front_take k m ts h) b

script_begins : (xs : ItemsRead) (ts : Text) (k : ℕ) → ScriptText xs ts → Begins (take k ts)
script_begins xs ts k d = (xs, drop k ts, subst (ScriptText xs) (sym (take-append-drop k ts)) d)

script_not_wrong : (xs : ItemsRead) (ts : Text) (n : ℕ) → ScriptText xs ts → IsWrong ts n → ⊥
script_not_wrong xs ts n d w = elim (cases_lt n (length ts)) [
  | inl l ↦ w.token l (script_begins xs ts (n + 1) d)
  | inr l ↦ let h : n ≤ length ts = w.within in let e : n ≡ length ts = omega arith in w.end e xs d
]

not_before : (ts : Text) (n m : ℕ) → IsWrong ts n → IsWrong ts m → n < m → ⊥
not_before ts n m w v l =
    let h : m ≤ length ts = v.within in
    let i : n < length ts = omega arith in
    let j : n + 1 ≤ m = omega arith in w.token i (begins_take (n + 1) m ts j v.begins)

same_place : (ts : Text) (n m : ℕ) → IsWrong ts n → IsWrong ts m → n ≡ m
same_place ts n m w v = elim (cases_lt n m) [
  | inl l ↦ absurd (not_before ts n m w v l)
  | inr l ↦ elim (cases_lt m n) [
    | inl k ↦ absurd (not_before ts m n v w k)
    | inr k ↦ omega arith
  ]
]

same_fault : (ts : Text) (end : ℕ) (b c : Bool) (x y : ℕ) → IsFault ts end b x → IsFault ts end c y → (b ≡ c) × (x ≡ y)
same_fault ts end b c x y f g =
    let e = same_place ts f.0 g.0 f.1 g.1 in
    (sym f.3 ∙ ap (is_type_wanted_after ts) e ∙ g.3, f.4 ∙ ap (λ n. first_at (drop n ts) end) e ∙ sym g.4)

-- ---- items that are too deep

some_not_none : (a : ℕ) → None ≡ Some a → ⊥
some_not_none a e = cc

agrees : (o : Option State) (a b : ℕ) → IsDeep a o → depth_of o ≡ Some b → a ≡ b
agrees None a b d e = absurd (some_not_none b e)
agrees (Some s) a b d e = let h : Some a ≡ Some b = sym d ∙ e in cc

abbrev spot : Spot
spot = record { at = 0; marks = record { opening = O.Plain; ahead = A.Nothing } }

-- the text with the source's end behind it
abbrev whole : Text → Text
whole ts = ts ++ tok S.End spot ∷ []

-- behind some first tokens, the first item that is too deep is this one
abbrev Deep : Text → ℕ → Type 0
Deep ts a = (k : ℕ) × (depth_of (step_all (take k (whole ts)) start) ≡ Some a)

front_whole : (n : ℕ) (ts : Text) → Front (take n ts) (whole ts)
front_whole n ts = (drop n ts ++ tok S.End spot ∷ [], ap (λ x. x ++ tok S.End spot ∷ []) (sym (take-append-drop n ts)) ∙ append_assoc (take n ts) (drop n ts) (tok S.End spot ∷ []))

take_front : (us vs : Text) → Front us vs → take (length us) vs ≡ us
take_front us vs f = ap (take (length us)) f.1 ∙ take-append_seam us f.0

script_deep : (xs : ItemsRead) (ts : Text) → ScriptText xs ts → depth_of (step_all (whole ts) start) ≡ xs.too_deep
script_deep xs ts d = ap (λ x. depth_of x) (read_script xs ts d spot)

deep_of : (ts : Text) (a : ℕ) → IsTooDeep ts a → Deep ts a
deep_of ts a (inl h) = (
  length (take h.0 ts),
  ap (λ x. depth_of (step_all x start)) (take_front (take h.0 ts) (whole ts) (front_whole h.0 ts)) ∙ ap (λ x. depth_of x) (read_items_before h.1 (take h.0 ts) h.2) ∙ h.3,
)
deep_of ts a (inr h) = (length (whole ts), ap (λ x. depth_of (step_all x start)) (take-length (whole ts)) ∙ script_deep h.0 ts h.1 ∙ h.2)

is_deep : (o : Option State) (a : ℕ) → depth_of o ≡ Some a → IsDeep a o
is_deep None a e = tt
is_deep (Some s) a e = e

step_all_front : (us vs : Text) (a : ℕ) → Front us vs → depth_of (step_all us start) ≡ Some a → IsDeep a (step_all vs start)
step_all_front us vs a f e = subst (IsDeep a) (sym (ap (λ x. step_all x start) f.1 ∙ step_all_append us f.0 start)) (step_all_deep f.0 (step_all us start) a (is_deep (step_all us start) a e))

deep_before : (ts : Text) (a b : ℕ) (d : Deep ts a) (e : Deep ts b) → d.0 ≤ e.0 → a ≡ b
deep_before ts a b d e l = agrees (step_all (take e.0 (whole ts)) start) a b (step_all_front (take d.0 (whole ts)) (take e.0 (whole ts)) a (front_take d.0 e.0 (whole ts) l) d.1) e.1

same_deep : (ts : Text) (a b : ℕ) → Deep ts a → Deep ts b → a ≡ b
same_deep ts a b d e = elim (cases_lt d.0 e.0) [
  | inl l ↦ let h : d.0 ≤ e.0 = omega arith in deep_before ts a b d e h
  | inr l ↦ sym (deep_before ts b a e d l)
]

whole_front : (k : ℕ) (ts : Text) → Front (take k (whole ts)) (whole ts)
whole_front k ts = (drop k (whole ts), sym (take-append-drop k (whole ts)))

-- a script within the limit has no item that is too deep
script_not_deep : (xs : ItemsRead) (ts : Text) (a : ℕ) → ScriptText xs ts → xs.too_deep ≡ None → Deep ts a → ⊥
script_not_deep xs ts a s n d =
    some_not_none a (sym n ∙ subst (IsDeep a) (read_script xs ts s spot) (step_all_front (take d.0 (whole ts)) (whole ts) a (whole_front d.0 ts) d.1))

past_wrong : (ts : Text) (n k : ℕ) (xs : ItemsRead) → IsWrong ts n → n < k → ItemsBefore xs (take k ts) → ⊥
past_wrong ts n k xs w l d = elim (cases_lt n (length ts)) [
  | inl i ↦
      let j : n + 1 ≤ k = omega arith in
      w.token i (begins_take (n + 1) k ts j (xs, [], subst (ScriptText xs) (sym (append-nil (take k ts))) (script_before xs (take k ts) d)))
  | inr i ↦
      let h : n ≤ length ts = w.within in
      let e : n ≡ length ts = omega arith in
      let m : length ts ≤ k = omega arith in
      w.end e xs (script_before xs ts (subst (ItemsBefore xs) (take_all k ts m) d))
]

-- a wrong token stands behind no item that is too deep
fault_not_deep : (ts : Text) (end : ℕ) (b : Bool) (x a : ℕ) → IsFault ts end b x → IsTooDeep ts a → ⊥
fault_not_deep ts end b x a f (inl h) = elim (cases_lt f.0 h.0) [
  | inl l ↦ past_wrong ts f.0 h.0 h.1 f.1 l h.2
  | inr l ↦ some_not_none a (sym (f.2 h.0 h.1 l h.2) ∙ h.3)
]
fault_not_deep ts end b x a f (inr h) = script_not_wrong h.0 ts f.0 h.1 f.1

-- ---- one answer

false_not_true : false ≡ true → ⊥
false_not_true e = cc

one_answer : (ts : Text) (end : ℕ) (r q : Result Script SyntaxFault) → Answers ts end r → Answers ts end q → r ≡ q
one_answer ts end (Ok r) (Ok q) h k = ap (λ x. Ok (record { items = x.items })) (one_script (record { items = r.items; too_deep = None }) (record { items = q.items; too_deep = None }) ts h k)
one_answer ts end (Ok r) (Err (Syntax a)) h k = absurd (script_not_wrong (record { items = r.items; too_deep = None }) ts k.0 h k.1)
one_answer ts end (Ok r) (Err (BadType a)) h k = absurd (script_not_wrong (record { items = r.items; too_deep = None }) ts k.0 h k.1)
one_answer ts end (Ok r) (Err (TooDeep a)) h k = absurd (script_not_deep (record { items = r.items; too_deep = None }) ts a h refl (deep_of ts a k))
one_answer ts end (Ok r) (Err Memory) h k = absurd k
one_answer ts end (Err (Syntax a)) (Ok q) h k = absurd (script_not_wrong (record { items = q.items; too_deep = None }) ts h.0 k h.1)
one_answer ts end (Err (Syntax a)) (Err (Syntax b)) h k = ap (λ x. Err (Syntax x)) (same_fault ts end false false a b h k).1
one_answer ts end (Err (Syntax a)) (Err (BadType b)) h k = absurd (false_not_true (same_fault ts end false true a b h k).0)
one_answer ts end (Err (Syntax a)) (Err (TooDeep b)) h k = absurd (fault_not_deep ts end false a b h k)
one_answer ts end (Err (Syntax a)) (Err Memory) h k = absurd k
one_answer ts end (Err (BadType a)) (Ok q) h k = absurd (script_not_wrong (record { items = q.items; too_deep = None }) ts h.0 k h.1)
one_answer ts end (Err (BadType a)) (Err (Syntax b)) h k = absurd (false_not_true (same_fault ts end false true b a k h).0)
one_answer ts end (Err (BadType a)) (Err (BadType b)) h k = ap (λ x. Err (BadType x)) (same_fault ts end true true a b h k).1
one_answer ts end (Err (BadType a)) (Err (TooDeep b)) h k = absurd (fault_not_deep ts end true a b h k)
one_answer ts end (Err (BadType a)) (Err Memory) h k = absurd k
one_answer ts end (Err (TooDeep a)) (Ok q) h k = absurd (script_not_deep (record { items = q.items; too_deep = None }) ts a k refl (deep_of ts a h))
one_answer ts end (Err (TooDeep a)) (Err (Syntax b)) h k = absurd (fault_not_deep ts end false b a k h)
one_answer ts end (Err (TooDeep a)) (Err (BadType b)) h k = absurd (fault_not_deep ts end true b a k h)
one_answer ts end (Err (TooDeep a)) (Err (TooDeep b)) h k = ap (λ x. Err (TooDeep x)) (same_deep ts a b (deep_of ts a h) (deep_of ts b k))
one_answer ts end (Err (TooDeep a)) (Err Memory) h k = absurd k
one_answer ts end (Err Memory) q h k = absurd h

-- ---- the tokens of a source

nil_is_no_one : (ts : Text) (t : Marked) → [] ≡ ts ++ t ∷ [] → ⊥
nil_is_no_one [] t e = cc
nil_is_no_one (u ∷ ts) t e = cc

same_split : (us vs : Text) (p q : Spot) → Stands us p vs (tok S.End q) [] → (vs ≡ us) × (q.at ≡ p.at)
same_split us vs p q (inl h) = (h.1, ap (λ x. x.lexeme.at) h.2)
same_split us vs p q (inr h) = absurd (nil_is_no_one h.0 (tok S.End p) h.1)

pub reads_once : (tokens : List Token) (r q : Result Script SyntaxFault) → Reads tokens r → Reads tokens q → r ≡ q
reads_once tokens r q h k =
    let s = same_split h.0 k.0 h.1 k.1 (stands k.0 h.0 h.1 (tok S.End k.1) [] (sym k.2 ∙ h.2)) in
    one_answer h.0 h.1.at r q h.4 (subst (λ x. Answers x h.1.at q) s.0 (subst (λ x. Answers k.0 x q) s.1 k.4))

-- what is an answer is the only one
pub only_of : (tokens : List Token) (r : Result Script SyntaxFault) → Reads tokens r → IsOnly r (Reads tokens)
only_of tokens (Ok r) h = λ q k. reads_once tokens (Ok r) q h k
only_of tokens (Err (Syntax a)) h = λ q k. reads_once tokens (Err (Syntax a)) q h k
only_of tokens (Err (BadType a)) h = λ q k. reads_once tokens (Err (BadType a)) q h k
only_of tokens (Err (TooDeep a)) h = λ q k. reads_once tokens (Err (TooDeep a)) q h k
only_of tokens (Err Memory) h = absurd h.4

pub unless_of : (tokens : List Token) (r : Result Script SyntaxFault) → Reads tokens r → UnlessMemory r (Reads tokens)
unless_of tokens (Ok r) h = h
unless_of tokens (Err (Syntax a)) h = h
unless_of tokens (Err (BadType a)) h = h
unless_of tokens (Err (TooDeep a)) h = h
unless_of tokens (Err Memory) h = tt
