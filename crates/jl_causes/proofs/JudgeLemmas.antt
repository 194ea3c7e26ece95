-- The first cause of an entry, by the answers to the questions of the table.
use Rattle.std.proofs.Common.{◌≡◌, ◌∙◌, sym, subst, refl, ℕ, ◌<◌, ◌≤◌, arith, Bool, true, false, IsTrue, List, length, slice_get, Option, Some, None, IsSome}
use Rattle.std.specs.Prelude.{◌↔◌}
use Rattle.std.specs.Bool.{Decides}
use Rattle.std.specs.List.{Contains}
use Rattle.jl_model.specs.declared.limits.TheConstants.{MOST_WORLDS, MOST_TASKS, MOST_CACHE_KEYS}
use Rattle.jl_model.specs.declared.ty.Key.{Key}
use Rattle.jl_program.specs.declared.tree.Program.{Program}
use Rattle.jl_calculus.specs.declared.history.Event.{Event}
use Rattle.jl_calculus.specs.Legal.{IsRunning, HasTrueTrace, HasOwnEvents}
use Rattle.jl_calculus.specs.Past.{tasks_of}
use Rattle.jl_calculus.specs.Ranges.{keys_of, MayBegin, SelectsSite}
use Rattle.jl_calculus.specs.World.{world_of, FindsMethod}
use Rattle.jl_report.specs.declared.entry.Step.{Step}
use Rattle.jl_report.specs.declared.entry.Ending.{Ending}
use Rattle.jl_report.specs.declared.entry.Entry.{Entry}
use Rattle.jl_report.specs.declared.entry.Entry.TheVariants as E
use Rattle.jl_causes.specs.declared.cause.Cause.TheVariants as C
use Rattle.jl_causes.specs.Sketch.{record_of}
use Rattle.jl_causes.specs.Causes.{has_end, IsScriptSite, IsNextKey, IsNextFill, IsClean, IsFirstAt}
use Rattle.jl_causes.specs.Judged.{IsReadAs}
use Rattle.jl_causes.proofs.TableLemmas.{clean, first, key_free, fill_free, def_free, del_free, spawn_free, done_free}

-- a test that answers no
pub not_so : {A : Type 0} (b : Bool) → (IsTrue b ↔ A) → b ≡ false → A → ⊥
not_so b h f a = let z : true ≡ false = sym (h.1 a) ∙ f in cc

pub not_yes : {A : Type 0} (b : Bool) → Decides b A → b ≡ false → A → ⊥
not_yes b h f a = let z : true ≡ false = sym (h.1 a) ∙ f in cc

-- the key of a number that is there
pub key_in : (es : List Event) (number : ℕ) → IsSome (slice_get (keys_of es) number) → (k : Key) × (slice_get (keys_of es) number ≡ Some k)
key_in es number h = by (slice_get (keys_of es) number) h
  where
    by : (o : Option Key) → IsSome o → (k : Key) × (o ≡ Some k)
    by (Some k) h = (k, refl)
    by None h = absurd (cc h)

module _ (P : Program) (all : List Entry) (es : List Event) where
  -- ---- a definition

  module _ (task site : ℕ) where
    pub def_not_running : (IsRunning es task → ⊥) → IsFirstAt P all es (E.Def task site) C.NotRunning
    def_not_running fails = first P all es (E.Def task site) C.NotRunning (def_free P all es 5 task site (λ l. absurd (omega (arith, l))) (λ l. absurd (omega (arith, l))) (λ l. absurd (omega (arith, l)))) fails

    pub def_no_site : IsRunning es task → (IsScriptSite P site → ⊥) → IsFirstAt P all es (E.Def task site) C.Site
    def_no_site r fails = first P all es (E.Def task site) C.Site (def_free P all es 6 task site (λ l. r) (λ l. absurd (omega (arith, l))) (λ l. absurd (omega (arith, l)))) fails

    pub def_full : IsRunning es task → IsScriptSite P site → MOST_WORLDS ≤ world_of es → IsFirstAt P all es (E.Def task site) C.Limit
    def_full r s full = first P all es (E.Def task site) C.Limit (def_free P all es 9 task site (λ l. r) (λ l. s) (λ l. absurd (omega (arith, l)))) (λ room. omega (arith, room, full))

    pub def_clean : IsRunning es task → IsScriptSite P site → world_of es < MOST_WORLDS → IsClean P all es (E.Def task site)
    def_clean r s room = clean P all es (E.Def task site) (def_free P all es 14 task site (λ l. r) (λ l. s) (λ l. room))

  -- ---- a deletion

  module _ (task place : ℕ) where
    pub del_not_running : (IsRunning es task → ⊥) → IsFirstAt P all es (E.Del task place) C.NotRunning
    del_not_running fails =
        first P all es (E.Del task place) C.NotRunning
        (del_free P all es 5 task place (λ l. absurd (omega (arith, l))) (λ l. absurd (omega (arith, l))) (λ l. absurd (omega (arith, l))) (λ l. absurd (omega (arith, l)))) fails

    pub del_no_place : IsRunning es task → length P.deletes ≤ place → IsFirstAt P all es (E.Del task place) C.Site
    del_no_place r past =
        first P all es (E.Del task place) C.Site
        (del_free P all es 6 task place (λ l. r) (λ l. absurd (omega (arith, l))) (λ l. absurd (omega (arith, l))) (λ l. absurd (omega (arith, l)))) (λ s. omega (arith, s, past))

    pub del_no_method : IsRunning es task → place < length P.deletes → (FindsMethod P es place → ⊥) → IsFirstAt P all es (E.Del task place) C.NoDefinition
    del_no_method r s fails =
        first P all es (E.Del task place) C.NoDefinition (del_free P all es 7 task place (λ l. r) (λ l. s) (λ l. absurd (omega (arith, l))) (λ l. absurd (omega (arith, l)))) fails

    pub del_full : IsRunning es task → place < length P.deletes → FindsMethod P es place → MOST_WORLDS ≤ world_of es → IsFirstAt P all es (E.Del task place) C.Limit
    del_full r s found full =
        first P all es (E.Del task place) C.Limit (del_free P all es 9 task place (λ l. r) (λ l. s) (λ l. found) (λ l. absurd (omega (arith, l)))) (λ room. omega (arith, room, full))

    pub del_clean : IsRunning es task → place < length P.deletes → FindsMethod P es place → world_of es < MOST_WORLDS → IsClean P all es (E.Del task place)
    del_clean r s found room = clean P all es (E.Del task place) (del_free P all es 14 task place (λ l. r) (λ l. s) (λ l. found) (λ l. room))

  -- ---- a spawn

  module _ (task child place : ℕ) where
    pub spawn_not_running : (IsRunning es task → ⊥) → IsFirstAt P all es (E.Spawn task child place) C.NotRunning
    spawn_not_running fails =
        first P all es (E.Spawn task child place) C.NotRunning
        (spawn_free P all es 5 task child place (λ l. absurd (omega (arith, l))) (λ l. absurd (omega (arith, l))) (λ l. absurd (omega (arith, l))) (λ l. absurd (omega (arith, l))) (λ l. absurd (omega (arith, l)))) fails

    pub spawn_no_place : IsRunning es task → length P.spawns ≤ place → IsFirstAt P all es (E.Spawn task child place) C.Site
    spawn_no_place r past =
        first P all es (E.Spawn task child place) C.Site
        (spawn_free P all es 6 task child place (λ l. r) (λ l. absurd (omega (arith, l))) (λ l. absurd (omega (arith, l))) (λ l. absurd (omega (arith, l))) (λ l. absurd (omega (arith, l)))) (λ s. omega (arith, s, past))

    pub spawn_out_of_order : IsRunning es task → place < length P.spawns → (child ≡ tasks_of es → ⊥) → IsFirstAt P all es (E.Spawn task child place) C.ChildOrder
    spawn_out_of_order r s fails =
        first P all es (E.Spawn task child place) C.ChildOrder
        (spawn_free P all es 8 task child place (λ l. r) (λ l. s) (λ l. absurd (omega (arith, l))) (λ l. absurd (omega (arith, l))) (λ l. absurd (omega (arith, l)))) fails

    pub spawn_full : IsRunning es task → place < length P.spawns → child ≡ tasks_of es → MOST_TASKS ≤ tasks_of es → IsFirstAt P all es (E.Spawn task child place) C.Limit
    spawn_full r s next full =
        first P all es (E.Spawn task child place) C.Limit
        (spawn_free P all es 9 task child place (λ l. r) (λ l. s) (λ l. next) (λ l. absurd (omega (arith, l))) (λ l. absurd (omega (arith, l)))) (λ room. omega (arith, room, full))

    pub spawn_unfinished : IsRunning es task → place < length P.spawns → child ≡ tasks_of es → tasks_of es < MOST_TASKS → has_end all child ≡ false → IsFirstAt P all es (E.Spawn task child place) C.Unfinished
    spawn_unfinished r s next room no_end =
        first P all es (E.Spawn task child place) C.Unfinished (spawn_free P all es 10 task child place (λ l. r) (λ l. s) (λ l. next) (λ l. room) (λ l. absurd (omega (arith, l))))
        (λ ends. (let z : true ≡ false = sym ends ∙ no_end in cc))

    pub spawn_clean : IsRunning es task → place < length P.spawns → child ≡ tasks_of es → tasks_of es < MOST_TASKS → has_end all child ≡ true → IsClean P all es (E.Spawn task child place)
    spawn_clean r s next room ends = clean P all es (E.Spawn task child place) (spawn_free P all es 14 task child place (λ l. r) (λ l. s) (λ l. next) (λ l. room) (λ l. ends))

  -- ---- the end of a task

  module _ (task calls : ℕ) (trace : List Step) (output : List ℕ) (ending : Ending) where
    pub done_not_running : (IsRunning es task → ⊥) → IsFirstAt P all es (E.Done task calls trace output ending) C.NotRunning
    done_not_running fails =
        first P all es (E.Done task calls trace output ending) C.NotRunning
        (done_free P all es 5 task calls trace output ending (λ l. absurd (omega (arith, l))) (λ l. absurd (omega (arith, l))) (λ l. absurd (omega (arith, l)))) fails

    pub done_false : IsRunning es task → (HasTrueTrace P es task (record_of calls trace output) → ⊥) → IsFirstAt P all es (E.Done task calls trace output ending) C.ItemFalse
    done_false r fails =
        first P all es (E.Done task calls trace output ending) C.ItemFalse
        (done_free P all es 11 task calls trace output ending (λ l. r) (λ l. absurd (omega (arith, l))) (λ l. absurd (omega (arith, l)))) fails

    pub done_missing : IsRunning es task → HasTrueTrace P es task (record_of calls trace output) → (HasOwnEvents es task (record_of calls trace output) → ⊥) → IsFirstAt P all es (E.Done task calls trace output ending) C.EventMissing
    done_missing r t fails =
        first P all es (E.Done task calls trace output ending) C.EventMissing
        (done_free P all es 12 task calls trace output ending (λ l. r) (λ l. t) (λ l. absurd (omega (arith, l)))) fails

    pub done_clean : IsRunning es task → HasTrueTrace P es task (record_of calls trace output) → HasOwnEvents es task (record_of calls trace output) → IsClean P all es (E.Done task calls trace output ending)
    done_clean r t o = clean P all es (E.Done task calls trace output ending) (done_free P all es 14 task calls trace output ending (λ l. r) (λ l. t) (λ l. o))

  -- ---- a fill

  module _ (key site begins : ℕ) where
    pub fill_no_key : (IsNextFill es key begins → ⊥) → IsFirstAt P all es (E.Fill key site begins) C.FillKey
    fill_no_key fails =
        first P all es (E.Fill key site begins) C.FillKey (fill_free P all es 2 key site begins (λ l. absurd (omega (arith, l))) (λ l. absurd (omega (arith, l))) (λ l. absurd (omega (arith, l)))) fails

    pub fill_no_world : (k : Key) → slice_get (keys_of es) key ≡ Some k → IsNextFill es key begins → (MayBegin P es k begins → ⊥) → IsFirstAt P all es (E.Fill key site begins) C.FillWorld
    fill_no_world k at n fails =
        first P all es (E.Fill key site begins) C.FillWorld (fill_free P all es 3 key site begins (λ l. n) (λ l. absurd (omega (arith, l))) (λ l. absurd (omega (arith, l)))) (λ right. fails (right k at))

    pub fill_no_choice : (k : Key) → slice_get (keys_of es) key ≡ Some k → IsNextFill es key begins → MayBegin P es k begins → (SelectsSite P es k begins site → ⊥) → IsFirstAt P all es (E.Fill key site begins) C.FillChoice
    fill_no_choice k at n w fails =
        first P all es (E.Fill key site begins) C.FillChoice
        (fill_free P all es 4 key site begins (λ l. n) (λ l q there. subst (λ z. MayBegin P es z begins) (one k q at there) w) (λ l. absurd (omega (arith, l)))) (λ right. fails (right k at))
      where
        one : (k q : Key) → slice_get (keys_of es) key ≡ Some k → slice_get (keys_of es) key ≡ Some q → k ≡ q
        one k q a b = cc (a, b)

    pub fill_clean : (k : Key) → slice_get (keys_of es) key ≡ Some k → IsNextFill es key begins → MayBegin P es k begins → SelectsSite P es k begins site → IsClean P all es (E.Fill key site begins)
    fill_clean k at n w s =
        clean P all es (E.Fill key site begins)
        (fill_free P all es 14 key site begins (λ l. n) (λ l q there. subst (λ z. MayBegin P es z begins) (one k q at there) w) (λ l q there. subst (λ z. SelectsSite P es z begins site) (one k q at there) s))
      where
        one : (k q : Key) → slice_get (keys_of es) key ≡ Some k → slice_get (keys_of es) key ≡ Some q → k ≡ q
        one k q a b = cc (a, b)

  -- ---- a key

  module _ (number : ℕ) (function tuple : List ℕ) where
    pub key_out_of_order : (IsNextKey P es number function tuple → ⊥) → IsFirstAt P all es (E.Key number function tuple) C.KeyOrder
    key_out_of_order fails =
        first P all es (E.Key number function tuple) C.KeyOrder (key_free P all es 0 number function tuple (λ l. absurd (omega (arith, l))) (λ l. absurd (omega (arith, l)))) fails

    pub key_unknown : number ≡ length (keys_of es) → length (keys_of es) < MOST_CACHE_KEYS → IsReadAs P function tuple None → IsFirstAt P all es (E.Key number function tuple) C.KeyUnknown
    key_unknown counted room none =
        first P all es (E.Key number function tuple) C.KeyUnknown
        (key_free P all es 1 number function tuple (λ l. record { counted = counted; new = λ key stands named. none key named; room = room }) (λ l. absurd (omega (arith, l)))) (λ known. none known.0 known.1)

    pub key_stood : (key : Key) → IsReadAs P function tuple (Some key) → Contains (keys_of es) key → IsFirstAt P all es (E.Key number function tuple) C.KeyOrder
    key_stood key read stands = key_out_of_order (λ next. next.new key stands read.0)

    pub key_clean : (key : Key) → number ≡ length (keys_of es) → length (keys_of es) < MOST_CACHE_KEYS → IsReadAs P function tuple (Some key) → (Contains (keys_of es) key → ⊥) → IsClean P all es (E.Key number function tuple)
    key_clean key counted room read fresh =
        clean P all es (E.Key number function tuple)
        (key_free P all es 14 number function tuple
        (λ l. record { counted = counted; new = λ other stands named. fresh (subst (Contains (keys_of es)) (read.1 other named) stands); room = room })
        (λ l. (key, read.0)))
