-- The replies, by cases, and all of them by the first and the others.
use Rattle.std.proofs.Common.{◌≡◌, ◌∙◌, ap, sym, refl, subst, arith, ℕ, ◌<◌, ℤ, Bool, true, false, cond, codes, ◌&&◌, nat_lt, nat_le, bytes_eq, Option, None, Some, IfSome, List, [], ◌∷◌, ◌++◌, ◌+◌, length, append_assoc, append-nil}
use Rattle.std.specs.Str.Parse.{digits_value}
use Rattle.jl_calculus.specs.declared.history.History.{History}
use Rattle.jl_program.specs.Names.{is_identifier}
use Rattle.jl_io.specs.Faults.{Rose}
use Rattle.jl_io.specs.Moved.{Takes}
use Rattle.jl_io.proofs.MovedLemmas.{Takes-append, Takes-prefix, Takes-start, Takes-none}
use Rattle.jl_embed.proofs.NumberLemmas.{both}
use Rattle.jl_embed.specs.Cuts.{cut}
use Rattle.jl_embed.specs.Requests.{Asked, bad, add, call, ◌>>=◌, is_numeral, method_in, number_in, question_in, call_by, call_words, call_of, request_by, request_of, lines_of}
use Rattle.jl_work.specs.Owed.{IsProgram, IsFaultLine}
use Rattle.jl_embed.specs.Texts.{RunsTo}
use Rattle.jl_embed.specs.Replies.{Seen, noted, with_line, called_text, reply_of, IsAdded, added, not_added, IsCalled, called, IsReply, bad_request, AreReplies, replied, reply, HasServed, all, failed, no_memory, IsWritten, wrote_all, wrote_part, wanted_memory}

-- ---- a line that is added

module _ (s : Seen) (line : List ℕ) where
  pub was_added : (longer told : List ℕ) → longer ≡ with_line s.text line → IsProgram longer → told ≡ codes "added\n" → IsAdded s line (record { text = longer; answers = s.answers; histories = s.histories }) told
  was_added longer told e p r =
      subst (λ (x : List ℕ). IsAdded s line (record { text = longer; answers = s.answers; histories = s.histories }) x) (sym r)
      (subst (λ (x : List ℕ). IsAdded s line (record { text = x; answers = s.answers; histories = s.histories }) (codes "added\n")) (sym e) (added (subst IsProgram e p)))

  pub was_refused : (longer fault : List ℕ) → longer ≡ with_line s.text line → IsFaultLine longer fault → IsAdded s line s fault
  was_refused longer fault e f = not_added fault (subst (λ (x : List ℕ). IsFaultLine x fault) e f)

-- ---- the number of a method is below how many there are

abbrev pub IsSmall : ℕ → Asked → Type 0
IsSmall count bad = Unit {0}
IsSmall count (add line) = Unit {0}
IsSmall count (call name n a b) = n < count

bound : {A B : Type 0} (o : Option A) (f : A → Option B) (Q : B → Type 0) → ((x : A) → o ≡ Some x → IfSome (f x) Q) → IfSome (o >>= f) Q
bound None f Q h = tt
bound (Some x) f Q h = h x refl

cond_some : (b : Bool) (v n : ℕ) → cond b (Some v) None ≡ Some n → (b ≡ true) × (v ≡ n)
cond_some true v n e = (refl, cc)
cond_some false v n e = absurd cc

method_small : (count n : ℕ) (text : List ℕ) → method_in count text ≡ Some n → n < count
method_small count n text e =
    let p = cond_some (nat_le (length text) 2 && (is_numeral text && nat_lt (digits_value 10 text) count)) (digits_value 10 text) n e in
    let q = both (nat_le (length text) 2) (is_numeral text && nat_lt (digits_value 10 text) count) p.0 in
    let r = both (is_numeral text) (nat_lt (digits_value 10 text) count) q.1 in
    grind (arith, r.1, p.1)

question_small : (count : ℕ) (text : List ℕ) → IfSome (question_in count text) (λ q. q.0 < count)
question_small count text =
    bound (cut 32 text) _ _ (λ p e. bound (cut 32 p.1) _ _ (λ q f. bound (method_in count p.0) _ _ (λ n m. bound (number_in q.0) _ _ (λ a x. bound (number_in q.1) _ _ (λ b y. method_small count n p.0 m)))))

call_small : (count : ℕ) (name : List ℕ) (o : Option (ℕ × ℤ × ℤ)) → IfSome o (λ q. q.0 < count) → IsSmall count (call_by name o)
call_small count name None h = tt
call_small count name (Some q) h = h

cond_small : (count : ℕ) (b : Bool) (x y : Asked) → IsSmall count x → IsSmall count y → IsSmall count (cond b x y)
cond_small count true x y h k = h
cond_small count false x y h k = k

words_small : (count : ℕ) (o : Option (List ℕ × List ℕ)) → IsSmall count (call_words count o)
words_small count None = tt
words_small count (Some p) = cond_small count (is_identifier p.0) (call_by p.0 (question_in count p.1)) bad (call_small count p.0 (question_in count p.1) (question_small count p.1)) tt

by_small : (count : ℕ) (o : Option (List ℕ × List ℕ)) → IsSmall count (request_by count o)
by_small count None = tt
by_small count (Some p) =
    cond_small count (bytes_eq p.0 (codes "add")) (add p.1) (cond (bytes_eq p.0 (codes "call")) (call_of count p.1) bad) tt
    (cond_small count (bytes_eq p.0 (codes "call")) (call_of count p.1) bad (words_small count (cut 32 p.1)) tt)

-- a line that asks a method asks one that there is
pub asked_small : (count : ℕ) (line name : List ℕ) (n : ℕ) (a b : ℤ) → request_of count line ≡ call name n a b → n < count
asked_small count line name n a b e = subst (IsSmall count) e (by_small count (cut 32 line))

-- ---- a call

pub was_called : (s : Seen) (name : List ℕ) (c : ℤ) (longer told first : List ℕ) (history : Option History) (t : Seen) → longer ≡ called_text s.text name c → RunsTo longer history told → first ≡ reply_of history told → t ≡ noted s c history
    → IsCalled s name c t first
was_called s name c longer told first history t l r e n =
    subst (λ (x : List ℕ). IsCalled s name c t x) (sym e)
    (subst (λ (x : Seen). IsCalled s name c x (reply_of history told)) (sym n) (called history told (subst (λ (x : List ℕ). RunsTo x history told) l r)))

-- ---- all requests

module _ (count : ℕ) (allows : ℕ → ℤ → ℤ → ℤ → Bool) where
  pub was_bad : (s : Seen) (line told : List ℕ) → request_of count line ≡ bad → told ≡ codes "ERROR: BadRequest\n" → IsReply count allows s line s told
  was_bad s line told e f = subst (λ (x : List ℕ). IsReply count allows s line s x) (sym f) (bad_request e)

  replies_append : (s t u : Seen) (xs ys : List (List ℕ)) (out more : List ℕ) → AreReplies count allows s xs t out → AreReplies count allows t ys u more → AreReplies count allows s (xs ++ ys) u (out ++ more)
  replies_append _ _ u _ ys _ more (replied s) rest = rest
  replies_append _ _ u _ ys _ more (reply s v t line first lines out r rs) rest =
      subst (λ (x : List ℕ). AreReplies count allows s (line ∷ (lines ++ ys)) u x) (sym (append_assoc first out more))
      (reply s v u line first (lines ++ ys) (out ++ more) r (replies_append v t u lines ys out more rs rest))

  -- all lines were served, where the status is 0
  record Whole (s : Seen) (lines : List (List ℕ)) (held held' : Option (List ℕ)) (t : Seen) : Type 0 where
    out : List ℕ
    replies : AreReplies count allows s lines t out
    takes : Takes held out held'

  whole : (s : Seen) (lines : List (List ℕ)) (held held' : Option (List ℕ)) (rose : Type 0) (status : ℕ) (t : Seen) → HasServed count allows s lines held held' rose status t → status ≡ 0 → Whole s lines held held' t
  whole s lines held held' rose _ _ (all t out are takes) e = record { out = out; replies = are; takes = takes }
  whole s lines held held' rose _ _ (failed served rest t out most parts are takes rises) e = absurd (omega (arith, e))
  whole s lines held held' rose _ _ (no_memory served rest t out most parts are takes) e = absurd (omega (arith, e))

  -- some lines, and then others
  then_others : (s t u : Seen) (xs ys : List (List ℕ)) (a b c : Option (List ℕ)) (rose : Type 0) (status : ℕ) → Whole s xs a b t → HasServed count allows t ys b c rose status u → HasServed count allows s (xs ++ ys) a c rose status u
  then_others s t _ xs ys a b c rose _ w (all u out are takes) = all u (w.out ++ out) (replies_append s t u xs ys w.out out w.replies are) (Takes-append a b c w.out out w.takes takes)
  then_others s t _ xs ys a b c rose _ w (failed served rest u out most parts are takes rises) =
      failed (xs ++ served) rest u (w.out ++ out) (length w.out + most) (ap (λ (z : List (List ℕ)). xs ++ z) parts ∙ sym (append_assoc xs served rest)) (replies_append s t u xs served w.out out w.replies are) (Takes-prefix a b c w.out out most w.takes takes) rises
  then_others s t _ xs ys a b c rose _ w (no_memory served rest u out most parts are takes) =
      no_memory (xs ++ served) rest u (w.out ++ out) (length w.out + most) (ap (λ (z : List (List ℕ)). xs ++ z) parts ∙ sym (append_assoc xs served rest)) (replies_append s t u xs served w.out out w.replies are) (Takes-prefix a b c w.out out most w.takes takes)

  pub serves_then : (s t u : Seen) (xs ys : List (List ℕ)) (a b c : Option (List ℕ)) (rose rose' : Type 0) (first status : ℕ) → HasServed count allows s xs a b rose' first t → first ≡ 0 → HasServed count allows t ys b c rose status u
      → HasServed count allows s (xs ++ ys) a c rose status u
  serves_then s t u xs ys a b c rose rose' first status f e h = then_others s t u xs ys a b c rose status (whole s xs a b rose' first t f e) h

  -- where not all of some lines were served, the others count as left
  pub serves_stop : (s t : Seen) (xs ys : List (List ℕ)) (a b : Option (List ℕ)) (rose : Type 0) (status : ℕ) → HasServed count allows s xs a b rose status t → (status ≡ 0 → ⊥) → HasServed count allows s (xs ++ ys) a b rose status t
  serves_stop s _ xs ys a b rose _ (all t out are takes) h = absurd (h refl)
  serves_stop s _ xs ys a b rose _ (failed served rest t out most parts are takes rises) h = failed served (rest ++ ys) t out most (ap (λ (z : List (List ℕ)). z ++ ys) parts ∙ append_assoc served rest ys) are takes rises
  serves_stop s _ xs ys a b rose _ (no_memory served rest t out most parts are takes) h = no_memory served (rest ++ ys) t out most (ap (λ (z : List (List ℕ)). z ++ ys) parts ∙ append_assoc served rest ys) are takes

  -- a line of which the reply was written, in whole or in part
  line_replies : (s t : Seen) (line first : List ℕ) → IsReply count allows s line t first → AreReplies count allows s (line ∷ []) t first
  line_replies s t line first r = subst (λ (x : List ℕ). AreReplies count allows s (line ∷ []) t x) (append-nil first) (reply s t t line first [] [] r (replied t))

  served_so : (s t : Seen) (line first : List ℕ) (a b : Option (List ℕ)) (rose : Type 0) (status : ℕ) → IsReply count allows s line t first → IsWritten 0 first a b rose status → HasServed count allows s (line ∷ []) a b rose status t
  served_so s t line first a b rose _ r (wrote_all takes) = all t first (line_replies s t line first r) takes
  served_so s t line first a b rose _ r (wrote_part most takes rises) = failed (line ∷ []) [] t first most refl (line_replies s t line first r) takes rises
  served_so s t line first a b rose _ r (wanted_memory most takes) = no_memory (line ∷ []) [] t first most refl (line_replies s t line first r) takes

  pub line_served : (s t : Seen) (line first text : List ℕ) (a b : Option (List ℕ)) (rose : Type 0) (status : ℕ) → IsReply count allows s line t first → text ≡ first → IsWritten 0 text a b rose status → HasServed count allows s (line ∷ []) a b rose status t
  line_served s t line first text a b rose status r e w = served_so s t line first a b rose status r (subst (λ (x : List ℕ). IsWritten 0 x a b rose status) e w)

  -- memory was refused before a reply to it
  pub line_unserved : (s t : Seen) (line : List ℕ) (a : Option (List ℕ)) (rose : Type 0) → t ≡ s → HasServed count allows s (line ∷ []) a a rose 6 t
  line_unserved s t line a rose e = subst (λ (x : Seen). HasServed count allows s (line ∷ []) a a rose 6 x) (sym e) (no_memory [] (line ∷ []) s [] 0 refl (replied s) (Takes-start a []))

  -- no lines are left
  pub none_served : (s : Seen) (a : Option (List ℕ)) (rose : Type 0) → HasServed count allows s [] a a rose 0 s
  none_served s a rose = all s [] (replied s) (Takes-none a)

  -- whatever is done with the lines of the rest is what is done with all lines
  abbrev pub Continues : Seen → List ℕ → Option (List ℕ) → ℕ → Seen → List ℕ → Option (List ℕ) → Type 0
  Continues s text held faults t rest now =
      (held' : Option (List ℕ)) (n status : ℕ) (u : Seen) → HasServed count allows t (lines_of rest) now held' (Rose faults n) status u → HasServed count allows s (lines_of text) held held' (Rose faults n) status u

  pub continues : (s t v : Seen) (text rest line after : List ℕ) (held now next : Option (List ℕ)) (faults first : ℕ) (rose : Type 0) → Continues s text held faults t rest now → lines_of rest ≡ line ∷ lines_of after
      → HasServed count allows t (line ∷ []) now next rose first v → first ≡ 0 → Continues s text held faults v after next
  continues s t v text rest line after held now next faults first rose k e h z = λ held' n status u g.
      k held' n status u (subst (λ (x : List (List ℕ)). HasServed count allows t x now held' (Rose faults n) status u) (sym e) (serves_then t v u (line ∷ []) (lines_of after) now next held' (Rose faults n) rose first status h z g))

  pub stops : (s t u : Seen) (text rest line after : List ℕ) (held now next : Option (List ℕ)) (faults faults' n status : ℕ) → Continues s text held faults t rest now → lines_of rest ≡ line ∷ lines_of after → faults' ≡ faults
      → HasServed count allows t (line ∷ []) now next (Rose faults' n) status u → (status ≡ 0 → ⊥) → HasServed count allows s (lines_of text) held next (Rose faults n) status u
  stops s t u text rest line after held now next faults faults' n status k e f h z =
      k next n status u
      (subst (λ (x : List (List ℕ)). HasServed count allows t x now next (Rose faults n) status u) (sym e)
      (serves_stop t u (line ∷ []) (lines_of after) now next (Rose faults n) status (subst (λ (m : ℕ). HasServed count allows t (line ∷ []) now next (Rose m n) status u) f h) z))

  pub finishes : (s t : Seen) (text rest : List ℕ) (held now : Option (List ℕ)) (faults n : ℕ) → Continues s text held faults t rest now → rest ≡ [] → HasServed count allows s (lines_of text) held now (Rose faults n) 0 t
  finishes s t text rest held now faults n k e = k now n 0 t (subst (λ (x : List ℕ). HasServed count allows t (lines_of x) now now (Rose faults n) 0 t) (sym e) (none_served t now (Rose faults n)))
