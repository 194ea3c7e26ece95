-- Where the entries tell the end of a task, and events at a place.
use Rattle.std.proofs.Common.{◌≡◌, ◌∙◌, ap, sym, subst, refl, ℕ, zero, suc, ◌+◌, ◌<◌, ◌≤◌, arith, Bool, true, false, ◌||◌, cond, nat_eq, nat_lt, List, [], ◌∷◌, take, drop, take-append-drop, take-take, slice_get, Some}
use Rattle.std.specs.Option.{is_some}
use Rattle.std.proofs.lemmas.Option.{same_Some, slice_get_within}
use Rattle.jl_program.specs.declared.tree.Program.{Program}
use Rattle.jl_calculus.specs.declared.history.Event.{Event}
use Rattle.jl_calculus.specs.Past.{tasks_of, done_of}
use Rattle.jl_lead.proofs.EventFacts.{tasks_append, self_eq}
use Rattle.jl_report.specs.declared.entry.Step.{Step}
use Rattle.jl_report.specs.declared.entry.Ending.{Ending}
use Rattle.jl_report.specs.declared.entry.Entry.{Entry}
use Rattle.jl_report.specs.declared.entry.Entry.TheVariants as E
use Rattle.jl_causes.specs.Sketch.{record_of, AllTell}
use Rattle.jl_causes.specs.Causes.{is_end_of, has_end}
use Rattle.jl_replay.specs.Told.{trace_told, end_told}
use Rattle.jl_replay.proofs.Lists.{tasks_some}

-- ---- the end of a task among the entries

-- a task ends in the text exactly where it ends among the events
pub ends_same : (P : Program) (xs : List Entry) (es : List Event) (task : ℕ) → AllTell P xs es → has_end xs task ≡ is_some (done_of task es)
ends_same P [] es task h = sym (ap (λ ds. is_some (done_of task ds)) h)
ends_same P (x ∷ xs) [] task h = absurd h
ends_same P (E.Begin fuel ∷ xs) (e ∷ es) task h = subst (λ d. has_end xs task ≡ is_some (done_of task (d ∷ es))) (sym h.0) (ends_same P xs es task h.1)
ends_same P (E.Key number function tuple ∷ xs) (e ∷ es) task h = subst (λ d. has_end xs task ≡ is_some (done_of task (d ∷ es))) (sym h.0.2) (ends_same P xs es task h.1)
ends_same P (E.Fill key site first ∷ xs) (e ∷ es) task h = subst (λ d. has_end xs task ≡ is_some (done_of task (d ∷ es))) (sym h.0) (ends_same P xs es task h.1)
ends_same P (E.Def by site ∷ xs) (e ∷ es) task h = subst (λ d. has_end xs task ≡ is_some (done_of task (d ∷ es))) (sym h.0) (ends_same P xs es task h.1)
ends_same P (E.Del by place ∷ xs) (e ∷ es) task h = subst (λ d. has_end xs task ≡ is_some (done_of task (d ∷ es))) (sym h.0) (ends_same P xs es task h.1)
ends_same P (E.Spawn by child at ∷ xs) (e ∷ es) task h = subst (λ d. has_end xs task ≡ is_some (done_of task (d ∷ es))) (sym h.0) (ends_same P xs es task h.1)
ends_same P (E.Done by calls trace output ending ∷ xs) (e ∷ es) task h =
    subst (λ d. (nat_eq by task || has_end xs task) ≡ is_some (done_of task (d ∷ es))) (sym h.0) (go (nat_eq by task) (ends_same P xs es task h.1))
  where
    go : (b : Bool) → has_end xs task ≡ is_some (done_of task es) → (b || has_end xs task) ≡ is_some (cond b (Some (record_of calls trace output)) (done_of task es))
    go true k = refl
    go false k = k

-- where a task ends first
pub record IsFirstEnd (task : ℕ) (xs : List Entry) : Type 0 where
  pub at : ℕ
  pub calls : ℕ
  pub output : List ℕ
  pub ending : Ending
  pub there : slice_get xs at ≡ Some (E.Done task calls (trace_told task xs) output ending)
  pub before : has_end (take at xs) task ≡ false
  pub counted : (m : ℕ) → end_told task m xs ≡ m + at

end_later : (task : ℕ) (x : Entry) (xs : List Entry) → trace_told task (x ∷ xs) ≡ trace_told task xs → is_end_of task x ≡ false → ((m : ℕ) → end_told task m (x ∷ xs) ≡ end_told task (m + 1) xs) → IsFirstEnd task xs → IsFirstEnd task (x ∷ xs)
end_later task x xs trace other steps r = record {
  at = suc r.at;
  calls = r.calls;
  output = r.output;
  ending = r.ending;
  there = r.there ∙ ap (λ t. Some (E.Done task r.calls t r.output r.ending)) (sym trace);
  before = ap (λ b. b || has_end (take r.at xs) task) other ∙ r.before;
  counted = λ m. let q : m + 1 + r.at ≡ m + suc r.at = omega arith in steps m ∙ r.counted (m + 1) ∙ q;
}

pub first_end : (task : ℕ) (xs : List Entry) → has_end xs task ≡ true → IsFirstEnd task xs
first_end task [] h = absurd (cc h)
first_end task (E.Begin fuel ∷ xs) h = end_later task (E.Begin fuel) xs refl refl (λ m. refl) (first_end task xs h)
first_end task (E.Key number function tuple ∷ xs) h = end_later task (E.Key number function tuple) xs refl refl (λ m. refl) (first_end task xs h)
first_end task (E.Fill key site first ∷ xs) h = end_later task (E.Fill key site first) xs refl refl (λ m. refl) (first_end task xs h)
first_end task (E.Def by site ∷ xs) h = end_later task (E.Def by site) xs refl refl (λ m. refl) (first_end task xs h)
first_end task (E.Del by place ∷ xs) h = end_later task (E.Del by place) xs refl refl (λ m. refl) (first_end task xs h)
first_end task (E.Spawn by child at ∷ xs) h = end_later task (E.Spawn by child at) xs refl refl (λ m. refl) (first_end task xs h)
first_end task (E.Done by calls trace output ending ∷ xs) h = go (nat_eq by task) refl h (first_end task xs)
  where
    go : (b : Bool) → nat_eq by task ≡ b → (b || has_end xs task) ≡ true → (has_end xs task ≡ true → IsFirstEnd task xs) → IsFirstEnd task (E.Done by calls trace output ending ∷ xs)
    go true q k more =
        let is : by ≡ task = grind (arith, q) in
        let told : trace ≡ cond (nat_eq by task) trace (trace_told task xs) = sym (ap (λ b. cond b trace (trace_told task xs)) q) in
        record {
          at = 0;
          calls = calls;
          output = output;
          ending = ending;
          there = λ i. Some (E.Done (is i) calls (told i) output ending);
          before = refl;
          counted = λ m. let z : m ≡ m + 0 = omega arith in ap (λ b. cond b m (end_told task (m + 1) xs)) q ∙ z;
        }
    go false q k more =
        end_later task (E.Done by calls trace output ending) xs (ap (λ b. cond b trace (trace_told task xs)) q) q (λ m. ap (λ b. cond b m (end_told task (m + 1) xs)) q) (more k)

either_false : (b c : Bool) → (b || c) ≡ false → c ≡ false
either_false true c h = absurd (cc h)
either_false false c h = h

-- no end is there before the first
pub end_past : (task n p calls : ℕ) (trace : List Step) (output : List ℕ) (ending : Ending) (xs : List Entry) → has_end (take n xs) task ≡ false → slice_get xs p ≡ Some (E.Done task calls trace output ending) → n ≤ p
end_past task zero p calls trace output ending xs h g = omega arith
end_past task (suc n) p calls trace output ending [] h g = absurd (omega (arith, slice_get_within [] p (E.Done task calls trace output ending) g))
end_past task (suc n) zero calls trace output ending (x ∷ xs) h g =
    let is : x ≡ E.Done task calls trace output ending = same_Some _ _ g in
    let b : (nat_eq task task || has_end (take n xs) task) ≡ false = subst (λ y. (is_end_of task y || has_end (take n xs) task) ≡ false) is h in
    absurd (no (nat_eq task task) (self_eq task) b)
  where
    no : (c : Bool) → c ≡ true → (c || has_end (take n xs) task) ≡ false → ⊥
    no true e k = cc k
    no false e k = cc e
end_past task (suc n) (suc p) calls trace output ending (x ∷ xs) h g =
    let l = end_past task n p calls trace output ending xs (either_false (is_end_of task x) (has_end (take n xs) task) h) g in omega (arith, l)

-- an entry that is no end of the task stands elsewhere
pub not_end : (task n calls : ℕ) (trace : List Step) (output : List ℕ) (ending : Ending) (x : Entry) (xs : List Entry) → is_end_of task x ≡ false → slice_get xs n ≡ Some x → slice_get xs n ≡ Some (E.Done task calls trace output ending) → ⊥
not_end task n calls trace output ending x xs other at there =
    let is : x ≡ E.Done task calls trace output ending = same_Some _ _ (sym at ∙ there) in
    let b : nat_eq task task ≡ false = subst (λ y. is_end_of task y ≡ false) is other in
    let c : true ≡ false = sym (self_eq task) ∙ b in cc c

-- ---- events at a place

pub get_first : {X : Type 0} (n p : ℕ) (xs : List X) → p < n → slice_get (take n xs) p ≡ slice_get xs p
get_first zero p xs l = absurd (omega (arith, l))
get_first (suc n) p [] l = refl
get_first (suc n) zero (x ∷ xs) l = refl
get_first (suc n) (suc p) (x ∷ xs) l = get_first n p xs (omega (arith, l))

pub got_first : {X : Type 0} (n m : ℕ) (xs : List X) (x : X) → slice_get (take n xs) m ≡ Some x → (m < n) × (slice_get xs m ≡ Some x)
got_first zero m xs x g = absurd (omega (arith, slice_get_within [] m x g))
got_first (suc n) m [] x g = absurd (omega (arith, slice_get_within [] m x g))
got_first (suc n) zero (y ∷ xs) x g = (omega arith, g)
got_first (suc n) (suc m) (y ∷ xs) x g = let (l, at) = got_first n m xs x g in (omega (arith, l), at)

pub cut_between : {X : Type 0} (n m : ℕ) (xs : List X) (x : X) → n < m → slice_get xs n ≡ Some x → (rest : List X) × (drop n (take m xs) ≡ x ∷ rest)
cut_between n zero xs x l g = absurd (omega (arith, l))
cut_between n (suc m) [] x l g = absurd (omega (arith, slice_get_within [] n x g))
cut_between zero (suc m) (y ∷ xs) x l g = let is : y ≡ x = same_Some _ _ g in (take m xs, ap (λ z. z ∷ take m xs) is)
cut_between (suc n) (suc m) (y ∷ xs) x l g = cut_between n m xs x (omega (arith, l)) g

pub tasks_first : (n : ℕ) (es : List Event) → tasks_of (take n es) ≤ tasks_of es
tasks_first n es = omega (arith, tasks_append (take n es) (drop n es), ap tasks_of (take-append-drop n es), tasks_some (drop n es))

-- where there are more tasks there are more events
pub ends_after : (es : List Event) (n m : ℕ) → tasks_of (take n es) < tasks_of (take m es) → n < m
ends_after es n m l = by (nat_lt n m) refl
  where
    by : (b : Bool) → nat_lt n m ≡ b → n < m
    by true q = grind (arith, q)
    by false q =
        let far : m ≤ n = grind (arith, q) in
        absurd (omega (arith, l, tasks_first m (take n es), ap tasks_of (take-take m n es far)))
