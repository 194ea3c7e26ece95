-- What holds in each round: the choice for `f()`, which rows have an end, and that the next steps are allowed.
use Rattle.std.proofs.Common.{◌≡◌, ◌∙◌, ap, sym, subst, refl, ℕ, zero, suc, ◌+◌, ◌-◌, ◌<◌, ◌≤◌, ◌⊎◌, inl, inr, ⊎_elim, arith, List, [], ◌∷◌, ◌++◌, map, length, take, replicate, slice_get, append-nil, append_assoc, length-append, Some}
use Rattle.std.specs.List.{Contains}
use Rattle.jl_model.specs.Choice.{Method, Applies, IsCandidate, ChoosesMethod}
use Rattle.jl_model.specs.Signature.{SameSignature}
use Rattle.jl_model.specs.declared.ty.Key.{Key}
use Rattle.jl_model.specs.declared.ty.Written.{Written}
use Rattle.jl_program.specs.Prelude.{plain, prelude_numbers}
use Rattle.jl_program.specs.Scope.{types_of}
use Rattle.jl_program.specs.declared.choice.Choice.TheVariants as C
use Rattle.jl_calculus.specs.declared.history.Change.{Change}
use Rattle.jl_calculus.specs.declared.history.Change.TheVariants as Ch
use Rattle.jl_calculus.specs.declared.history.Event.{Event}
use Rattle.jl_calculus.specs.declared.history.Event.TheVariants as Ev
use Rattle.jl_calculus.specs.Ranges.{CacheRow, keys_of, rows_of, ChangeTouches, Touches, HasNoEnd, IsRightFill}
use Rattle.jl_calculus.specs.Words.{IsToCut, AreAllCut}
use Rattle.jl_calculus.specs.World.{changed, changes, site_in, site_of, world_of, methods_from, Selects}
use Rattle.jl_calculus.proofs.GrowthLemmas.{changed_append, rows_append, keys_append, touches_known}
use Rattle.jl_calculus.proofs.SelectLemmas.{selects_plain}
use Rattle.jl_calculus.proofs.TaskHistories.{no_arguments}
use Rattle.jl_calculus.proofs.TaskRuns.{empty_below}
use Rattle.jl_world.specs.declared.view.BookView.{BookView}
use Rattle.jl_world.specs.declared.view.TaskView.{TaskView}
use Rattle.jl_world.specs.Adds.{IsNextFill}
use Rattle.jl_world.specs.Views.{HasTask, cut_at, grown, noted}
use Rattle.jl_world.specs.Rule.{IsOpenRow}
use Rattle.jl_world.proofs.Lists.{get_push, get_pushed, one_there, place_in, take_whole, contains_front}
use Rattle.store_tests.specs.Programs.{late}
use Rattle.store_tests.specs.Rounds.{f_key, rounds, history, IsRound}

-- ---- lists

repeat_push : {X : Type 0} (n : ℕ) (x : X) → replicate n x ++ x ∷ [] ≡ replicate (suc n) x
repeat_push zero x = refl
repeat_push (suc n) x = ap (λ xs. x ∷ xs) (repeat_push n x)

repeat_at : {X : Type 0} (n k : ℕ) (x : X) → k < n → slice_get (replicate n x) k ≡ Some x
repeat_at zero k x l = absurd (omega (arith, l))
repeat_at (suc n) zero x l = refl
repeat_at (suc n) (suc k) x l = repeat_at n k x (omega (arith, l))

repeat_long : {X : Type 0} (n : ℕ) (x : X) → length (replicate n x) ≡ n
repeat_long zero x = refl
repeat_long (suc n) x = ap suc (repeat_long n x)

get_past : {X : Type 0} (xs ys : List X) (k : ℕ) → slice_get (xs ++ ys) (length xs + k) ≡ slice_get ys k
get_past [] ys k = ap (slice_get ys) (let z : 0 + k ≡ k = omega arith in z)
get_past (x ∷ xs) ys k = ap (slice_get (x ∷ (xs ++ ys))) (let z : suc (length xs) + k ≡ suc (length xs + k) = omega arith in z) ∙ get_past xs ys k

-- ---- what the rounds tell

row_at : ℕ → CacheRow
row_at n = record { key = 0; site = 14; first = 15 + n }

abbrev row_list : ℕ → List CacheRow
row_list zero = []
row_list (suc n) = row_list n ++ record { key = 0; site = 14; first = 15 + n } ∷ []

-- the definition that is made again and again
abbrev again : Change
again = Ch.Def 14

rounds_define : (n : ℕ) → changed (rounds n) ≡ replicate n again
rounds_define zero = refl
rounds_define (suc n) = changed_append (rounds n) (Ev.Fill 0 14 (15 + n) ∷ Ev.Def 0 14 ∷ []) ∙ ap (λ xs. xs ++ again ∷ []) (rounds_define n) ∙ repeat_push n again

rounds_rows : (n : ℕ) → rows_of (rounds n) ≡ row_list n
rounds_rows zero = refl
rounds_rows (suc n) = rows_append (rounds n) (Ev.Fill 0 14 (15 + n) ∷ Ev.Def 0 14 ∷ []) ∙ ap (λ (xs : List CacheRow). xs ++ record { key = 0; site = 14; first = 15 + n } ∷ []) (rounds_rows n)

rounds_keys : (n : ℕ) → keys_of (rounds n) ≡ []
rounds_keys zero = refl
rounds_keys (suc n) = keys_append (rounds n) (Ev.Fill 0 14 (15 + n) ∷ Ev.Def 0 14 ∷ []) ∙ ap (λ (xs : List Key). xs ++ []) (rounds_keys n)

rows_long : (n : ℕ) → length (row_list n) ≡ n
rows_long zero = refl
rows_long (suc n) = length-append (row_list n) _ ∙ ap (λ k. k + 1) (rows_long n) ∙ let z : n + 1 ≡ suc n = omega arith in z

row_is : (n r : ℕ) (row : CacheRow) → slice_get (row_list n) r ≡ Some row → (r < n) × (row.key ≡ 0) × (row.first ≡ 15 + r)
row_is zero r row e = absurd cc
row_is (suc n) r row e = ⊎_elim
    (λ (x : (r < length (row_list n)) × (slice_get (row_list n) r ≡ Some row)). let h = row_is n r row x.1 in (omega (arith, h.0), h.1, h.2))
    (λ (x : (r ≡ length (row_list n)) × (record { key = 0; site = 14; first = 15 + n } ≡ row)).
    (omega (arith, x.0, rows_long n), ap (λ (y : CacheRow). y.key) (sym x.1), ap (λ (y : CacheRow). y.first) (sym x.1) ∙ let z : 15 + n ≡ 15 + r = omega (arith, x.0, rows_long n) in z))
    (get_pushed (row_list n) (record { key = 0; site = 14; first = 15 + n }) row r e)

-- ---- a history in which `f` was defined n + 1 times

-- these events define `f` so often, have its key, and these rows
pub record IsAfter (es : List Event) (n rows : ℕ) : Type 0 where
  pub defs : changed es ≡ replicate (suc n) again
  pub keys : keys_of es ≡ f_key ∷ []
  pub listed : rows_of es ≡ row_list rows

pub at_round : (fuel n : ℕ) → IsAfter (history fuel n) n n
at_round fuel n = record { defs = ap (λ xs. again ∷ xs) (rounds_define n); keys = ap (λ (xs : List Key). f_key ∷ xs) (rounds_keys n); listed = rounds_rows n }

-- and with the row of this round
pub at_fill : (fuel n : ℕ) → IsAfter (history fuel n ++ Ev.Fill 0 14 (15 + n) ∷ []) n (suc n)
at_fill fuel n =
    let e : Event = Ev.Fill 0 14 (15 + n) in
    let h = at_round fuel n in
    record {
      defs = changed_append (history fuel n) (e ∷ []) ∙ ap (λ xs. xs ++ []) h.defs ∙ append-nil (replicate (suc n) again);
      keys = keys_append (history fuel n) (e ∷ []) ∙ ap (λ (xs : List Key). xs ++ []) h.keys;
      listed = rows_append (history fuel n) (e ∷ []) ∙ ap (λ (xs : List CacheRow). xs ++ record { key = 0; site = 14; first = 15 + n } ∷ []) h.listed;
    }

touched : ChangeTouches late (Some again) f_key
touched = (refl, no_arguments (types_of late))

abbrev f_method : ℕ → Method
f_method d = record { number = d; sig = plain [] }

-- the methods of so many definitions from a number on
several : (m k : ℕ) (c : Method) → Contains (methods_from late 12 k (replicate m again)) c → (c.number < k + m) × (c.sig ≡ plain [])
several zero k c (i, l, e) = absurd (omega (arith, l))
several (suc m) k c (zero, l, e) = let z : k ≡ c.number = ap (λ (x : Method). x.number) e in (omega (arith, z), ap (λ (x : Method). x.sig) (sym e))
several (suc m) k c (suc i, l, e) = let h = several m (k + 1) c (i, omega (arith, l), e) in (omega (arith, h.0), h.1)

last_stands : (m k : ℕ) → Contains (methods_from late 12 k (replicate (suc m) again)) (f_method (k + m))
last_stands zero k = (0, omega arith, ap f_method (let z : k ≡ k + 0 = omega arith in z))
last_stands (suc m) k =
    let (i, l, e) = last_stands m (k + 1) in
    let moved : Contains (methods_from late 12 (k + 1) (replicate (suc m) again)) (f_method (k + suc m)) =
    subst (λ (d : ℕ). Contains (methods_from late 12 (k + 1) (replicate (suc m) again)) (f_method d)) (let z : k + 1 + m ≡ k + suc m = omega arith in z) (i, l, e) in
    (suc moved.0, omega (arith, moved.1), moved.2)

-- the last definition is chosen
last_chosen : (n : ℕ) → ChoosesMethod (types_of late) (methods_from late 12 15 (replicate (suc n) again)) [] (15 + n)
last_chosen n = (best, record { candidate = record { applies = applies; last = λ l a later s. past l a.stands later }; below = λ c k other. absurd (earlier c k other (several (suc n) 15 c k.applies.stands)) }, refl)
  where
    best : Method
    best = record { number = 15 + n; sig = plain [] }

    applies : Applies (types_of late) (methods_from late 12 15 (replicate (suc n) again)) [] (record { number = 15 + n; sig = plain [] })
    applies = record { stands = last_stands n 15; below = no_arguments (types_of late) }

    past : (l : Method) → Contains (methods_from late 12 15 (replicate (suc n) again)) l → 15 + n < l.number → ⊥
    past l c later = let h = several (suc n) 15 l c in omega (arith, h.0, later)

    earlier : (c : Method) → IsCandidate (types_of late) (methods_from late 12 15 (replicate (suc n) again)) [] c → (c.number ≡ 15 + n → ⊥) → (c.number < 15 + suc n) × (c.sig ≡ plain []) → ⊥
    earlier c k other h =
        k.last (record { number = 15 + n; sig = plain [] }) (record { stands = last_stands n 15; below = no_arguments (types_of late) }) (below c.number other h.0)
        (subst (λ (s : Written). SameSignature (types_of late) s (plain [])) (sym h.1) (empty_below (types_of late), empty_below (types_of late)))
      where
        below : (d : ℕ) → (d ≡ 15 + n → ⊥) → d < 15 + suc n → d < 15 + n
        below d o l = grind (arith, o, l)

module _ (es : List Event) (n rows : ℕ) (h : IsAfter es n rows) where
  abbrev all : List Change
  all = map Ch.Def prelude_numbers ++ replicate (suc n) again

  all_is : changes es ≡ all
  all_is = ap (λ xs. map Ch.Def prelude_numbers ++ xs) h.defs

  pub world_is : world_of es ≡ 15 + n
  world_is = omega (arith, ap length h.defs, repeat_long {X = Change} (suc n) again)

  pub rows_are : length (rows_of es) ≡ rows
  rows_are = ap length h.listed ∙ rows_long rows

  pub named : slice_get (keys_of es) 0 ≡ Some f_key
  named = ap (λ (xs : List Key). slice_get xs 0) h.keys

  -- each change of the script is that definition
  change_is : (j : ℕ) → j ≤ n → slice_get (changes es) (14 + j) ≡ Some again
  change_is j le = ap (λ xs. slice_get xs (14 + j)) all_is ∙ get_past (map Ch.Def prelude_numbers) (replicate (suc n) again) j ∙ repeat_at (suc n) j again (omega (arith, le))

  -- and touches the key
  pub touches : (j : ℕ) → j ≤ n → Touches late es (15 + j) f_key
  touches j le =
      subst (λ d. Touches late es d f_key) (let z : suc (14 + j) ≡ 15 + j = omega arith in z) (subst (λ o. ChangeTouches late o f_key) (sym (change_is j le)) touched)

  -- no row that begins in the newest world has an end
  pub no_end : HasNoEnd late es f_key (15 + n)
  no_end d l t = omega (arith, l, touches_known late es d f_key t, world_is)

  -- all that begin earlier have one
  pub has_end : (j : ℕ) → j < n → HasNoEnd late es f_key (15 + j) → ⊥
  has_end j lt none = none (15 + suc j) (omega arith) (touches (suc j) (omega (arith, lt)))

  chosen : Selects late es 12 [] (15 + n) (C.Method (15 + n))
  chosen =
      let whole : take (15 + n) (changes es) ≡ all =
      ap (λ xs. take (15 + n) xs) all_is ∙ ap (λ k. take k all) (let z : 15 + n ≡ length all = omega (arith, repeat_long {X = Change} (suc n) again) in z) ∙ take_whole all in
      selects_plain late refl es 12 [] (15 + n) (C.Method (15 + n)) (subst (λ cs. ChoosesMethod (types_of late) (methods_from late 12 1 cs) [] (15 + n)) (sym whole) (last_chosen n))

  pub right : IsRightFill late es f_key 14 (15 + n)
  right =
      record { begun = inr (omega arith, touches n (omega arith)); choice = (15 + n, chosen, subst (λ d. site_of es d ≡ 14) (let z : suc (14 + n) ≡ 15 + n = omega arith in z) (ap site_in (change_is n (omega arith)))) }

-- ---- the steps of a round

pub may_link : (es : List Event) (n : ℕ) → IsAfter es n n → IsNextFill late es 0 14 (15 + n)
may_link es n h = record {
  key = f_key;
  named = named es n n h;
  right = right es n n h;
  new = λ row c of same.
      let (r, at) = place_in (rows_of es) row c in
      let is = row_is n r row (subst (λ (xs : List CacheRow). slice_get xs r ≡ Some row) h.listed at) in
      omega (arith, is.0, is.2, same);
}

new_stands : (es : List Event) (n : ℕ) → IsAfter es n (suc n) → slice_get (rows_of es) n ≡ Some (record { key = 0; site = 14; first = 15 + n })
new_stands es n h = ap (λ (xs : List CacheRow). slice_get xs n) h.listed ∙ ap (slice_get (row_list (suc n))) (sym (rows_long n)) ∙ get_push (row_list n) (record { key = 0; site = 14; first = 15 + n })

pub may_cut : (es : List Event) (n : ℕ) → IsAfter es n (suc n) → IsOpenRow late es n
may_cut es n h = record { row = record { key = 0; site = 14; first = 15 + n }; stands = new_stands es n h; key = f_key; named = named es n (suc n) h; no_end = no_end es n (suc n) h }

pub may_publish : (es : List Event) (n : ℕ) → IsAfter es n (suc n) → AreAllCut late es again (n ∷ [])
may_publish es n h r = (to, from)
  where
    to : Contains (n ∷ []) r → IsToCut late es again r
    to c = subst (IsToCut late es again) (only c) (record {
      row = record { key = 0; site = 14; first = 15 + n };
      stands = new_stands es n h;
      key = f_key;
      named = named es n (suc n) h;
      no_end = no_end es n (suc n) h;
      touched = touched;
    })
      where
        only : Contains (n ∷ []) r → n ≡ r
        only (zero, l, e) = e
        only (suc k, l, e) = absurd (omega (arith, l))

    from : IsToCut late es again r → Contains (n ∷ []) r
    from t =
        let is = row_is (suc n) r t.row (subst (λ (xs : List CacheRow). slice_get xs r ≡ Some t.row) h.listed t.stands) in
        let key : t.key ≡ f_key = one_there (keys_of es) 0 t.key f_key (subst (λ k. slice_get (keys_of es) k ≡ Some t.key) is.1 t.named) (named es n (suc n) h) in
        let none : HasNoEnd late es f_key (15 + r) = subst (λ w. HasNoEnd late es f_key w) is.2 (subst (λ (k : Key). HasNoEnd late es k t.row.first) key t.no_end) in
        by (which r n is.0) none
      where
        which : (r n : ℕ) → r < suc n → (r < n) ⊎ (n ≡ r)
        which r n l = grind (arith, l)

        by : (r < n) ⊎ (n ≡ r) → HasNoEnd late es f_key (15 + r) → Contains (n ∷ []) r
        by (inl lt) none = absurd (has_end es n (suc n) h r lt none)
        by (inr e) none = contains_front [] r n e

-- the next round
pub next_round : (fuel n : ℕ) → (history fuel n ++ Ev.Fill 0 14 (15 + n) ∷ []) ++ Ev.Def 0 14 ∷ [] ≡ history fuel (suc n)
next_round fuel n = append_assoc (history fuel n) (Ev.Fill 0 14 (15 + n) ∷ []) (Ev.Def 0 14 ∷ [])

-- ---- what the book's seat knows

has_noted : (t p : ℕ) (e : Event) (vs : List TaskView) → HasTask t vs → HasTask t (map (noted p e) vs)
has_noted t p e [] has = has
has_noted t p e (v ∷ vs) (inl is) = inl is
has_noted t p e (v ∷ vs) (inr has) = inr (has_noted t p e vs has)

-- the row of the round is linked
pub record IsLinked (fuel n : ℕ) (b : BookView) : Type 0 where
  pub events : b.events ≡ history fuel n ++ Ev.Fill 0 14 (15 + n) ∷ []
  pub held : HasTask 0 b.held
  pub uncut : b.cut ≡ []

pub linked : (fuel n : ℕ) (b c : BookView) → IsRound fuel n b → c ≡ grown (Ev.Fill 0 14 (15 + n)) b → IsLinked fuel n c
linked fuel n b c h is = subst (IsLinked fuel n) (sym is) (record {
  events = ap (λ es. es ++ Ev.Fill 0 14 (15 + n) ∷ []) h.events;
  held = has_noted 0 (length b.events) (Ev.Fill 0 14 (15 + n)) b.held h.held;
  uncut = refl;
})

pub after_link : (fuel n : ℕ) (b : BookView) → IsLinked fuel n b → IsAfter b.events n (suc n)
after_link fuel n b h = subst (λ es. IsAfter es n (suc n)) (sym h.events) (at_fill fuel n)

pub finished : (fuel n r : ℕ) (b c : BookView) → IsLinked fuel n b → c ≡ grown (Ev.Def 0 14) (cut_at r b) → IsRound fuel (n + 1) c
finished fuel n r b c h is = subst (IsRound fuel (n + 1)) (sym is) (record {
  events = ap (λ es. es ++ Ev.Def 0 14 ∷ []) h.events ∙ next_round fuel n ∙ ap (history fuel) (let z : suc n ≡ n + 1 = omega arith in z);
  held = has_noted 0 (length b.events) (Ev.Def 0 14) b.held h.held;
  uncut = refl;
})
