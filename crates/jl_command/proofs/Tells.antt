-- A walk over words of the known forms fails, or they are uses that fit the command, and its rows are these.
use Rattle.std.proofs.Common.{◌≡◌, ◌∙◌, ap, sym, subst, refl, ℕ, ◌+◌, ◌<◌, arith, Bool, true, false, ◌&&◌, cond, nat_le, List, [], ◌∷◌, ◌++◌, map, Option, None, Some, append-nil, append_assoc}
use Rattle.std.specs.Prelude.{fold, if◌then◌else◌, MatchBool}
use Rattle.clap.specs.Walk.{Text, Row, Walk, walked, with_default, with_values, without, settled_rows, idle}
use Rattle.clap.specs.Walk as W
use Rattle.clap.specs.Faults.{turn_fault, settle_fault, defaults_fault, check_fault, repeat_fault}
use Rattle.clap.specs.Kinds.{Kinds, or_else}
use Rattle.clap.specs.declared.error.kind.ErrorKind.TheVariants.{MissingRequiredArgument}
use Rattle.clap.specs.declared.parser.matches.ValueSource.TheVariants.{CommandLine}
use Rattle.clap.specs.declared.builder.value_parser.Reading.TheVariants.{AsWritten}
use Rattle.clap.proofs.OnLiterals.{clap_on_literals}
use Rattle.jl_command.specs.Rule.{Name, threads, fuel, first, second, Form, flag, assigned, plain, other, Use, Kind, bare, optioned, numbered, asked, begins_with_hyphen, form_of, add, uses_in, times, most, fits}
use Rattle.jl_command.proofs.Walks.{id_of, sub, rules, Bad, bad_first, good_first, rows, opt, pend, held, walk_at, Point, between, waits, state, done, last, whole, ends, whole_step, IsOption, TakesOptions, may_once, has_option, Settles, settles, repeats, settle, option_is_new, Allowed, Within, within_more, times_append, same_self, over, most_one, new_row, repeat_is}
use Rattle.jl_command.proofs.Turns.{flag_word, start_of, bare_flag, bare_assigned, flag_fault, flag_walk, assigned_fault, assigned_walk, waits_flag, waits_assigned, waits_last, waits_fault, waits_walk, plain_fault, plain_walk, IsNext, first_of_one, first_of_two, second_of_two, IsFull, none_in_bare, none_in_optioned, after_one, after_two, stray, word_fault, word_walk, with_word, wanted_fault, last_rows, last_fault}
use Rattle.jl_command.proofs.WordForms.{IsForm, is_flag, is_assigned, is_plain, is_other, form_is}

-- the walk fails, or the uses so far with those of the other words fit, and are its rows
abbrev pub Told : Kind → List Use → Option (List Use) → Kinds → List Row → Type 0
Told k us None fault found = Bad fault
Told k us (Some more) fault found = MatchBool (fits k (us ++ more)) ((fault ≡ []) × (found ≡ rows (us ++ more))) (Bad fault)

bad_told : (k : Kind) (us : List Use) (o : Option (List Use)) (f : Kinds) (r : List Row) → Bad f → ((more : List Use) → fits k (us ++ more) ≡ false) → Told k us o f r
bad_told k us None f r b h = b
bad_told k us (Some more) f r b h = subst (λ z. MatchBool z ((f ≡ []) × (r ≡ rows (us ++ more))) (Bad f)) (sym (h more)) b

-- an option stands too often already
over_told : (k : Kind) (n : Name) → IsOption n → (us : List Use) (o : Option (List Use)) (f : Kinds) (r : List Row) → 1 < times n us → Bad f → Told k us o f r
over_told k n i us o f r l b = bad_told k us o f r b (λ more. over k n i (us ++ more) (let one = most_one k in omega (arith, l, one, times_append n us more)))

told_add : (k : Kind) (us : List Use) (n : Name) (v : Text) (o : Option (List Use)) (f : Kinds) (r : List Row)
    → Told k (us ++ record { name = n; value = v } ∷ []) o f r → Told k us (add n v o) f r
told_add k us n v None f r h = h
told_add k us n v (Some more) f r h =
    subst (λ zs. MatchBool (fits k zs) ((f ≡ []) × (r ≡ rows zs)) (Bad f)) (append_assoc us (record { name = n; value = v } ∷ []) more) h

once_more : (n : Name) (v : Text) (us : List Use) → times n (us ++ record { name = n; value = v } ∷ []) ≡ times n us + 1
once_more n v us =
    let one : times n (record { name = n; value = v } ∷ []) ≡ 1 = ap (λ (b : Bool). cond b (1 + 0) 0) (same_self n) in
    omega (arith, times_append n us (record { name = n; value = v } ∷ []), one)

-- it stands too often with one more
added_over : (k : Kind) (n : Name) → IsOption n → (v : Text) (us : List Use) (o : Option (List Use)) (f : Kinds) (r : List Row) → most k < times n us + 1 → Bad f → Told k us (add n v o) f r
added_over k n i v us o f r l b =
    told_add k us n v o f r
    (bad_told k (us ++ record { name = n; value = v } ∷ []) o f r b
    (λ more. over k n i ((us ++ record { name = n; value = v } ∷ []) ++ more) (omega (arith, l, once_more n v us, times_append n (us ++ record { name = n; value = v } ∷ []) more))))

waits_over : (k : Kind) (n : Name) → IsOption n → (us : List Use) (fs : List Form) (ms : List Name) (f : Kinds) (r : List Row) → most k < times n us + 1 → Bad f → Told k us (uses_in (Some n) fs ms) f r
waits_over k n i us [] ms f r l b = b
waits_over k n i us (flag m ∷ fs) ms f r l b = b
waits_over k n i us (assigned m v ∷ fs) ms f r l b = b
waits_over k n i us (plain v ∷ fs) ms f r l b = added_over k n i v us (uses_in None fs ms) f r l b
waits_over k n i us (other ∷ fs) ms f r l b = b

-- the next place of a word that stands for itself, the names of those that are still wanted, and which of them are given
pub data Stage : Kind → ℕ → List Name → List Use → Type 0 where
  in_bare : (us : List Use) → Stage bare 1 [] us
  in_optioned : (us : List Use) → Stage optioned 1 [] us
  one_wanted : (us : List Use) → times first us ≡ 0 → Stage numbered 1 (first ∷ []) us
  one_given : (us : List Use) → times first us ≡ 1 → Stage numbered 2 [] us
  two_wanted : (us : List Use) → times first us ≡ 0 → times second us ≡ 0 → Stage asked 1 (first ∷ second ∷ []) us
  second_wanted : (us : List Use) → times first us ≡ 1 → times second us ≡ 0 → Stage asked 2 (second ∷ []) us
  two_given : (us : List Use) → times first us ≡ 1 → times second us ≡ 1 → Stage asked 3 [] us

abbrev pub IsSound : Kind → ℕ → List Name → Point → Type 0
IsSound k place ms (between us p) = Allowed k us p × Stage k place ms (us ++ opt p) × Within k us
IsSound k place ms (waits us n) = TakesOptions k × IsOption n × Stage k place ms us × Within k us

abbrev pub waiting : Point → Option Name
waiting (between us p) = None
waiting (waits us n) = Some n

-- an option is none of the words that stand for themselves
first_same : (n : Name) (v : Text) (us : List Use) → IsOption n → times first (us ++ record { name = n; value = v } ∷ []) ≡ times first us
first_same threads v us o = omega (arith, times_append first us (record { name = threads; value = v } ∷ []))
first_same fuel v us o = omega (arith, times_append first us (record { name = fuel; value = v } ∷ []))
first_same first v us o = absurd o
first_same second v us o = absurd o

second_same : (n : Name) (v : Text) (us : List Use) → IsOption n → times second (us ++ record { name = n; value = v } ∷ []) ≡ times second us
second_same threads v us o = omega (arith, times_append second us (record { name = threads; value = v } ∷ []))
second_same fuel v us o = omega (arith, times_append second us (record { name = fuel; value = v } ∷ []))
second_same first v us o = absurd o
second_same second v us o = absurd o

option_stage : (k : Kind) (place : ℕ) (ms : List Name) (n : Name) (v : Text) (us : List Use) → IsOption n → Stage k place ms us → Stage k place ms (us ++ record { name = n; value = v } ∷ [])
option_stage _ _ _ n v _ o (in_bare us) = in_bare (us ++ record { name = n; value = v } ∷ [])
option_stage _ _ _ n v _ o (in_optioned us) = in_optioned (us ++ record { name = n; value = v } ∷ [])
option_stage _ _ _ n v _ o (one_wanted us a) = one_wanted (us ++ record { name = n; value = v } ∷ []) (first_same n v us o ∙ a)
option_stage _ _ _ n v _ o (one_given us a) = one_given (us ++ record { name = n; value = v } ∷ []) (first_same n v us o ∙ a)
option_stage _ _ _ n v _ o (two_wanted us a b) = two_wanted (us ++ record { name = n; value = v } ∷ []) (first_same n v us o ∙ a) (second_same n v us o ∙ b)
option_stage _ _ _ n v _ o (second_wanted us a b) = second_wanted (us ++ record { name = n; value = v } ∷ []) (first_same n v us o ∙ a) (second_same n v us o ∙ b)
option_stage _ _ _ n v _ o (two_given us a b) = two_given (us ++ record { name = n; value = v } ∷ []) (first_same n v us o ∙ a) (second_same n v us o ∙ b)

-- what is told at the end
fitting : (k : Kind) (us : List Use) → Within k us → fits k us ≡ true
fitting k us w =
    let a : nat_le (times threads us) (most k) ≡ true = (let l = w.0 in grind (arith, l)) in
    let b : nat_le (times fuel us) (most k) ≡ true = (let l = w.1 in grind (arith, l)) in
    ap (λ z. z && nat_le (times fuel us) (most k)) a ∙ b

all_given : (k : Kind) (us : List Use) (f : Kinds) (r : List Row) → Within k us → f ≡ [] → r ≡ rows us → Told k us (Some []) f r
all_given k us f r w e q =
    subst (λ zs. MatchBool (fits k zs) ((f ≡ []) × (r ≡ rows zs)) (Bad f)) (sym (append-nil us))
    (subst (λ z. MatchBool z ((f ≡ []) × (r ≡ rows us)) (Bad f)) (sym (fitting k us w)) (e, q))

end_told : (k : Kind) (place : ℕ) (ms : List Name) (us : List Use) (f : Kinds) (r : List Row) → Stage k place ms us → Within k us → f ≡ wanted_fault k us → r ≡ rows us → Told k us (uses_in None [] ms) f r
end_told _ _ _ _ f r (in_bare us) w e q = all_given bare us f r w e q
end_told _ _ _ _ f r (in_optioned us) w e q = all_given optioned us f r w e q
end_told _ _ _ _ f r (one_wanted us a) w e q = subst Bad (sym (e ∙ ap (λ n. if nat_le 1 n then [] else MissingRequiredArgument ∷ []) a)) tt
end_told _ _ _ _ f r (one_given us a) w e q = all_given numbered us f r w (e ∙ ap (λ n. if nat_le 1 n then [] else MissingRequiredArgument ∷ []) a) q
end_told _ _ _ _ f r (two_wanted us a b) w e q = subst Bad (sym (e ∙ ap (λ n. if nat_le 1 n && nat_le 1 (times second us) then [] else MissingRequiredArgument ∷ []) a)) tt
end_told _ _ _ _ f r (second_wanted us a b) w e q =
    subst Bad (sym (e ∙ ap (λ n. if nat_le 1 n && nat_le 1 (times second us) then [] else MissingRequiredArgument ∷ []) a ∙ ap (λ n. if true && nat_le 1 n then [] else MissingRequiredArgument ∷ []) b)) tt
end_told _ _ _ _ f r (two_given us a b) w e q =
    all_given asked us f r w (e ∙ ap (λ n. if nat_le 1 n && nat_le 1 (times second us) then [] else MissingRequiredArgument ∷ []) a ∙ ap (λ n. if true && nat_le 1 n then [] else MissingRequiredArgument ∷ []) b) q

module _ (name : Text) where
  pub failed : (k : Kind) (w : Walk) (x : Text) (xs : List Text) → Bad (turn_fault (sub k name) [] w x) → Bad (whole name k w (x ∷ xs))
  failed k w x xs b = subst Bad (sym (whole_step name k w x xs)) (bad_first (turn_fault (sub k name) [] w x) (whole name k (walked (rules k) [] w x) xs) b)

  pub moved : (k : Kind) (us : List Use) (o : Option (List Use)) (w v : Walk) (x : Text) (xs : List Text) → turn_fault (sub k name) [] w x ≡ [] → walked (rules k) [] w x ≡ v
      → Told k us o (whole name k v xs) (ends name k v xs) → Told k us o (whole name k w (x ∷ xs)) (ends name k w (x ∷ xs))
  moved k us o w v x xs e q h =
      subst (λ z. Told k us o z (ends name k w (x ∷ xs))) (sym (whole_step name k w x xs ∙ good_first (turn_fault (sub k name) [] w x) (whole name k (walked (rules k) [] w x) xs) e))
      (subst (λ z. Told k us o (whole name k z xs) (ends name k z xs)) (sym q) h)

  pub ended : (k : Kind) (place : ℕ) (ms : List Name) (us : List Use) (p : Option Use) → Allowed k us p → Stage k place ms (us ++ opt p) → Within k us
      → Told k (us ++ opt p) (uses_in None [] ms) (last name k (state place (between us p))) (ends name k (state place (between us p)) [])
  ended k place ms us p a s w = by (settle k us p a)
    where
      by : Settles k us p → Told k (us ++ opt p) (uses_in None [] ms) (last name k (state place (between us p))) (ends name k (state place (between us p)) [])
      by (settles e q more) =
          end_told k place ms (us ++ opt p) _ _ s (more w)
          (ap (λ z. or_else z (or_else (defaults_fault (W.settled (rules k) (held us (pend p))).rows (rules k)) (check_fault (sub k name) (fold with_default (W.settled (rules k) (held us (pend p))).rows (rules k)) false))) e
          ∙ ap (λ (h : W.Held). or_else (defaults_fault h.rows (rules k)) (check_fault (sub k name) (fold with_default h.rows (rules k)) false)) q
          ∙ last_fault name k (us ++ opt p))
          (ap (λ (h : W.Held). fold with_default h.rows (rules k)) q ∙ last_rows k (us ++ opt p))
      by (repeats b n i l) = over_told k n i (us ++ opt p) (uses_in None [] ms) _ _ l (bad_first (settle_fault (rules k) false (held us (pend p))) _ b)

-- a word of a known form
abbrev pub IsKnown : Form → Type 0
IsKnown (flag n) = Unit {0}
IsKnown (assigned n v) = Unit {0}
IsKnown (plain v) = Unit {0}
IsKnown other = ⊥

abbrev pub AreKnown : List Form → Type 0
AreKnown [] = Unit {0}
AreKnown (f ∷ fs) = IsKnown f × AreKnown fs

-- ---- one word

module _ (name : Text) (k : Kind) (ws : List Text) where
  -- what is told of a walk from a point over these words
  abbrev pub After : ℕ → List Name → Point → Type 0
  After place ms x = Told k (done x) (uses_in (waiting x) (map form_of ws) ms) (whole name k (state place x) ws) (ends name k (state place x) ws)

  abbrev pub Before : ℕ → List Name → Point → Text → Form → Type 0
  Before place ms x w f = Told k (done x) (uses_in (waiting x) (f ∷ map form_of ws) ms) (whole name k (state place x) (w ∷ ws)) (ends name k (state place x) (w ∷ ws))

  module _ (rec : (place : ℕ) (ms : List Name) (x : Point) → IsSound k place ms x → After place ms x) (place : ℕ) where
    -- an option whose value is to come
    pub flag_step : TakesOptions k → (ms : List Name) (n : Name) → IsOption n → (us : List Use) (p : Option Use) → IsSound k place ms (between us p) → Before place ms (between us p) (flag_word n) (flag n)
    flag_step t ms n o us p (a, pl, w) = by (settle k us p a)
      where
        by : Settles k us p → Before place ms (between us p) (flag_word n) (flag n)
        by (settles e q more) =
            moved name k (us ++ opt p) (uses_in (Some n) (map form_of ws) ms) (state place (between us p)) (state place (waits (us ++ opt p) n)) (flag_word n) ws
            (flag_fault name place k t n o us p ∙ ap (λ z. or_else z []) e)
            (flag_walk name place k t n o us p ∙ ap (λ (h : W.Held). walk_at place (record h { pending = Some (id_of n, []) }) (W.option (id_of n))) q)
            (rec place ms (waits (us ++ opt p) n) (t, o, pl, more w))
        by (repeats b m i l) =
            over_told k m i (us ++ opt p) (uses_in (Some n) (map form_of ws) ms) _ _ l
            (failed name k (state place (between us p)) (flag_word n) ws
            (subst Bad (sym (flag_fault name place k t n o us p)) (bad_first (settle_fault (rules k) false (held us (pend p))) [] b)))

    -- an option with its value
    pub assigned_step : TakesOptions k → (ms : List Name) (n : Name) → IsOption n → (v : Text) (us : List Use) (p : Option Use) → IsSound k place ms (between us p)
        → Before place ms (between us p) (start_of n ++ v) (assigned n v)
    assigned_step t ms n o v us p (a, pl, w) = by (settle k us p a)
      where
        once : (b : Bool) → nat_le 1 (times n (us ++ opt p)) ≡ b → settle_fault (rules k) false (held us (pend p)) ≡ []
            → W.settled (rules k) (held us (pend p)) ≡ held (us ++ opt p) None → Within k (us ++ opt p) → Before place ms (between us p) (start_of n ++ v) (assigned n v)
        once true d e q m =
            let here : settled_rows (rules k) (pend p) (rows us) ≡ rows (us ++ opt p) = ap (λ (h : W.Held). h.rows) q in
            let told = assigned_fault name place k t n o v us p
            ∙ ap (λ z. or_else (or_else z (or_else (repeat_fault false (id_of n) (settled_rows (rules k) (pend p) (rows us))) [])) []) e
            ∙ ap (λ z. or_else (or_else (repeat_fault false (id_of n) z) []) []) here
            ∙ ap (λ z. or_else (or_else z []) []) (repeat_is n (us ++ opt p) true d) in
            added_over k n o v (us ++ opt p) (uses_in None (map form_of ws) ms) _ _ (let one = most_one k in grind (arith, d, one))
            (failed name k (state place (between us p)) (start_of n ++ v) ws (subst Bad (sym told) tt))
        once false d e q m =
            let here : settled_rows (rules k) (pend p) (rows us) ≡ rows (us ++ opt p) = ap (λ (h : W.Held). h.rows) q in
            let told = assigned_fault name place k t n o v us p
            ∙ ap (λ z. or_else (or_else z (or_else (repeat_fault false (id_of n) (settled_rows (rules k) (pend p) (rows us))) [])) []) e
            ∙ ap (λ z. or_else (or_else (repeat_fault false (id_of n) z) []) []) here
            ∙ ap (λ z. or_else (or_else z []) []) (repeat_is n (us ++ opt p) false d) in
            let none : times n (us ++ opt p) ≡ 0 = grind (arith, d) in
            let u : Use = record { name = n; value = v } in
            let to : walked (rules k) [] (state place (between us p)) (start_of n ++ v) ≡ state place (between ((us ++ opt p) ++ u ∷ []) None) =
            assigned_walk name place k t n o v us p
            ∙ ap (λ z. walk_at place (record { rows = with_values (id_of n) AsWritten CommandLine (v ∷ []) (without (id_of n) z); pending = None; skip = 0 }) idle) here
            ∙ ap (λ z. walk_at place (record { rows = z; pending = None; skip = 0 }) idle) (new_row n v (us ++ opt p) none) in
            let sound : IsSound k place ms (between ((us ++ opt p) ++ u ∷ []) None) =
            (tt, subst (Stage k place ms) (sym (append-nil ((us ++ opt p) ++ u ∷ []))) (option_stage k place ms n v (us ++ opt p) o pl), within_more k u (us ++ opt p) (may_once k t) none m) in
            told_add k (us ++ opt p) n v (uses_in None (map form_of ws) ms) _ _
            (moved name k ((us ++ opt p) ++ u ∷ []) (uses_in None (map form_of ws) ms) (state place (between us p)) (state place (between ((us ++ opt p) ++ u ∷ []) None)) (start_of n ++ v) ws told to
            (subst (λ zs. Told k zs (uses_in None (map form_of ws) ms) (whole name k (state place (between ((us ++ opt p) ++ u ∷ []) None)) ws) (ends name k (state place (between ((us ++ opt p) ++ u ∷ []) None)) ws))
            (append-nil ((us ++ opt p) ++ u ∷ [])) (rec place ms (between ((us ++ opt p) ++ u ∷ []) None) sound)))

        by : Settles k us p → Before place ms (between us p) (start_of n ++ v) (assigned n v)
        by (settles e q more) = once (nat_le 1 (times n (us ++ opt p))) refl e q (more w)
        by (repeats b m i l) =
            over_told k m i (us ++ opt p) (add n v (uses_in None (map form_of ws) ms)) _ _ l
            (failed name k (state place (between us p)) (start_of n ++ v) ws
            (subst Bad (sym (assigned_fault name place k t n o v us p)) (bad_first _ [] (bad_first (settle_fault (rules k) false (held us (pend p))) _ b))))

    -- the value that an option waits for
    pub waits_step : (ms : List Name) (n : Name) (v : Text) → begins_with_hyphen v ≡ false → (us : List Use) → IsSound k place ms (waits us n) → Before place ms (waits us n) v (plain v)
    waits_step ms n v h us (t, o, pl, w) =
        let u : Use = record { name = n; value = v } in
        told_add k us n v (uses_in None (map form_of ws) ms) _ _
        (moved name k (us ++ u ∷ []) (uses_in None (map form_of ws) ms) (state place (waits us n)) (state place (between us (Some u))) v ws
        (waits_fault name place k t n o v h us) (waits_walk name place k t n o v h us)
        (rec place ms (between us (Some u)) ((has_option k n t o, option_is_new n us o), option_stage k place ms n v us o pl, w)))

    -- a word that stands for itself where one is wanted
    pub word_step : (m : Name) (ms : List Name) → IsNext k place m → (v : Text) → begins_with_hyphen v ≡ false → (us : List Use) (p : Option Use) → Allowed k us p → Within k us
        → Allowed k (us ++ opt p) (Some (record { name = m; value = v })) → Stage k (place + 1) ms ((us ++ opt p) ++ record { name = m; value = v } ∷ []) → Before place (m ∷ ms) (between us p) v (plain v)
    word_step m ms i v h us p a w new pl = by (settle k us p a)
      where
        by : Settles k us p → Before place (m ∷ ms) (between us p) v (plain v)
        by (settles e q more) =
            let u : Use = record { name = m; value = v } in
            let told = plain_fault name place k v h us p ∙ word_fault name k place m i us p ∙ e in
            let to : walked (rules k) [] (state place (between us p)) v ≡ state (place + 1) (between (us ++ opt p) (Some u)) =
            plain_walk name place k v h us p ∙ word_walk name k place m i v us p ∙ ap (with_word name place m v) q in
            told_add k (us ++ opt p) m v (uses_in None (map form_of ws) ms) _ _
            (moved name k ((us ++ opt p) ++ u ∷ []) (uses_in None (map form_of ws) ms) (state place (between us p)) (state (place + 1) (between (us ++ opt p) (Some u))) v ws told to
            (rec (place + 1) ms (between (us ++ opt p) (Some u)) (new, pl, more w)))
        by (repeats b n o l) =
            over_told k n o (us ++ opt p) (add m v (uses_in None (map form_of ws) ms)) _ _ l
            (failed name k (state place (between us p)) v ws (subst Bad (sym (plain_fault name place k v h us p ∙ word_fault name k place m i us p)) b))

    -- and where none is
    pub stray_step : IsFull k place → (v : Text) → begins_with_hyphen v ≡ false → (us : List Use) (p : Option Use) → Before place [] (between us p) v (plain v)
    stray_step full v h us p = failed name k (state place (between us p)) v ws (subst Bad (sym (plain_fault name place k v h us p)) (stray name k place (held us (pend p)) full))

-- one more of a name
given_once : (n : Name) (v : Text) (us : List Use) → times n us ≡ 0 → times n (us ++ record { name = n; value = v } ∷ []) ≡ 1
given_once n v us z = omega (arith, once_more n v us, z)

first_kept : (v : Text) (us : List Use) (c : ℕ) → times first us ≡ c → times first (us ++ record { name = second; value = v } ∷ []) ≡ c
first_kept v us c z = omega (arith, times_append first us (record { name = second; value = v } ∷ []), z)

second_kept : (v : Text) (us : List Use) (c : ℕ) → times second us ≡ c → times second (us ++ record { name = first; value = v } ∷ []) ≡ c
second_kept v us c z = omega (arith, times_append second us (record { name = first; value = v } ∷ []), z)

-- a word where no option waits
value_step : (name : Text) (k : Kind) (ws : List Text) → ((place : ℕ) (ms : List Name) (x : Point) → IsSound k place ms x → After name k ws place ms x)
    → (place : ℕ) (ms : List Name) (v : Text) → begins_with_hyphen v ≡ false → (us zs : List Use) (p : Option Use) → us ++ opt p ≡ zs → Allowed k us p → Within k us → Stage k place ms zs
    → Before name k ws place ms (between us p) v (plain v)
value_step name _ ws rec _ _ v h us _ p e a w (in_bare zs) = stray_step name bare ws rec 1 (none_in_bare 1) v h us p
value_step name _ ws rec _ _ v h us _ p e a w (in_optioned zs) = stray_step name optioned ws rec 1 (none_in_optioned 1) v h us p
value_step name _ ws rec _ _ v h us _ p e a w (one_wanted zs x) =
    let z = ap (times first) e ∙ x in
    word_step name numbered ws rec 1 first [] first_of_one v h us p a w (tt, z) (one_given ((us ++ opt p) ++ record { name = first; value = v } ∷ []) (given_once first v (us ++ opt p) z))
value_step name _ ws rec _ _ v h us _ p e a w (one_given zs x) = stray_step name numbered ws rec 2 after_one v h us p
value_step name _ ws rec _ _ v h us _ p e a w (two_wanted zs x y) =
    let z = ap (times first) e ∙ x in
    word_step name asked ws rec 1 first (second ∷ []) first_of_two v h us p a w (tt, z)
    (second_wanted ((us ++ opt p) ++ record { name = first; value = v } ∷ []) (given_once first v (us ++ opt p) z) (second_kept v (us ++ opt p) 0 (ap (times second) e ∙ y)))
value_step name _ ws rec _ _ v h us _ p e a w (second_wanted zs x y) =
    let z = ap (times second) e ∙ y in
    word_step name asked ws rec 2 second [] second_of_two v h us p a w (tt, z)
    (two_given ((us ++ opt p) ++ record { name = second; value = v } ∷ []) (first_kept v (us ++ opt p) 1 (ap (times first) e ∙ x)) (given_once second v (us ++ opt p) z))
value_step name _ ws rec _ _ v h us _ p e a w (two_given zs x y) = stray_step name asked ws rec 3 after_two v h us p

bare_step : (name : Text) (place : ℕ) (ms : List Name) (ws : List Text) (n : Name) → IsOption n → (us : List Use) (p : Option Use) → Before name bare ws place ms (between us p) (flag_word n) (flag n)
bare_step name place ms ws n o us p =
    waits_over bare n o (us ++ opt p) (map form_of ws) ms _ _ (omega arith) (failed name bare (state place (between us p)) (flag_word n) ws (bare_flag name place n o us p))

bare_value : (name : Text) (place : ℕ) (ms : List Name) (ws : List Text) (n : Name) → IsOption n → (v : Text) (us : List Use) (p : Option Use)
    → Before name bare ws place ms (between us p) (start_of n ++ v) (assigned n v)
bare_value name place ms ws n o v us p =
    added_over bare n o v (us ++ opt p) (uses_in None (map form_of ws) ms) _ _ (omega arith) (failed name bare (state place (between us p)) (start_of n ++ v) ws (bare_assigned name place n o v us p))

-- ---- a word of any form

-- where the command takes options
option_step : (name : Text) (k : Kind) → TakesOptions k → (ws : List Text) → ((place : ℕ) (ms : List Name) (x : Point) → IsSound k place ms x → After name k ws place ms x)
    → (place : ℕ) (ms : List Name) (x : Point) → IsSound k place ms x → (w : Text) (f : Form) → IsForm w f → IsKnown f → Before name k ws place ms x w f
option_step name k t ws rec place ms (between us p) s w f (is_flag n o) h = flag_step name k ws rec place t ms n o us p s
option_step name k t ws rec place ms (between us p) s w f (is_assigned n v o) h = assigned_step name k ws rec place t ms n o v us p s
option_step name k t ws rec place ms (between us p) s w f (is_plain v q) h = value_step name k ws rec place ms v q us (us ++ opt p) p refl s.0 s.2 s.1
option_step name k t ws rec place ms (waits us n) s w f (is_flag m o) h = failed name k (state place (waits us n)) (flag_word m) ws (waits_flag name place k t n m s.1 o us)
option_step name k t ws rec place ms (waits us n) s w f (is_assigned m v o) h = failed name k (state place (waits us n)) (start_of m ++ v) ws (waits_assigned name place k t n m s.1 o v us)
option_step name k t ws rec place ms (waits us n) s w f (is_plain v q) h = waits_step name k ws rec place ms n v q us s
option_step name k t ws rec place ms x s w f (is_other v) h = absurd h

step : (name : Text) (k : Kind) (ws : List Text) → ((place : ℕ) (ms : List Name) (x : Point) → IsSound k place ms x → After name k ws place ms x)
    → (place : ℕ) (ms : List Name) (x : Point) → IsSound k place ms x → (w : Text) (f : Form) → IsForm w f → IsKnown f → Before name k ws place ms x w f
step name bare ws rec place ms (between us p) s w f (is_flag n o) h = bare_step name place ms ws n o us p
step name bare ws rec place ms (between us p) s w f (is_assigned n v o) h = bare_value name place ms ws n o v us p
step name bare ws rec place ms (between us p) s w f (is_plain v q) h = value_step name bare ws rec place ms v q us (us ++ opt p) p refl s.0 s.2 s.1
step name bare ws rec place ms (between us p) s w f (is_other v) h = absurd h
step name bare ws rec place ms (waits us n) s w f i h = absurd s.0
step name optioned ws rec place ms x s w f i h = option_step name optioned tt ws rec place ms x s w f i h
step name numbered ws rec place ms x s w f i h = option_step name numbered tt ws rec place ms x s w f i h
step name asked ws rec place ms x s w f i h = option_step name asked tt ws rec place ms x s w f i h

pub tells : (name : Text) (k : Kind) (ws : List Text) → AreKnown (map form_of ws) → (place : ℕ) (ms : List Name) (x : Point) → IsSound k place ms x → After name k ws place ms x
unfolding clap_on_literals
tells name k [] h place ms (between us p) (a, pl, w) = ended name k place ms us p a pl w
tells name k [] h place ms (waits us n) (t, o, pl, w) = waits_last name place k t n o us
tells name k (x ∷ xs) (h, hs) place ms point s = step name k xs (tells name k xs hs) place ms point s x (form_of x) (form_is x) h
