-- A step of a task that knows the tasks that it mentions leaves one.
use Rattle.std.proofs.Common.{◌≡◌, ◌∙◌, refl, sym, ap, subst, ℕ, zero, suc, arith, List, [], ◌∷◌, ◌++◌, map, append_assoc, append-nil, Option, Some, None}
use Rattle.std.proofs.lemmas.Grind.{flat_map-append}
use Rattle.std.proofs.lemmas.List.Elements.{Contains-append_left, Contains-append_right}
use Rattle.std.specs.List.{Contains, flat_map}
use Rattle.jl_program.specs.declared.tree.Start.{Start}
use Rattle.jl_program.specs.declared.datum.Datum.{Datum}
use Rattle.jl_program.specs.declared.value.Value.{Value}
use Rattle.jl_program.specs.Meaning.{datum, value_of}
use Rattle.jl_calculus.specs.declared.history.TraceItem.{TraceItem}
use Rattle.jl_calculus.specs.Core.{tasks_in, in_start}
use Rattle.jl_calculus.proofs.ValueLemmas.{datum_back}
use Rattle.jl_task.specs.declared.point.Now.{Now}
use Rattle.jl_task.specs.declared.point.Work.{Work}
use Rattle.jl_task.specs.Turns.{start_of}
use Rattle.jl_task.specs.ValidPoint.{Every}
use Rattle.jl_task.proofs.GoodLayers.{every_append, every_split}
use Rattle.jl_task.specs.Knows.{Knows}
use Rattle.jl_task.specs.Fits.{Progress, IsKnowing}
use Rattle.jl_task.specs.Known.{given_tasks, brought, known_tasks, IsKnown, IsFetchOf, FetchesOf, AreStartsKnown, AllMention, PointMentions}
use Rattle.jl_task.proofs.KnownLemmas.{every_more, numbers_more, point_more}

-- ---- what is known after one more item

known_with : (s : Option Start) (trace : List TraceItem) (i : TraceItem) → known_tasks s trace ++ brought i ≡ known_tasks s (trace ++ i ∷ [])
known_with s trace i =
    append_assoc (given_tasks s) (flat_map brought trace) (brought i)
    ∙ ap (λ ns. given_tasks s ++ ns) (ap (λ ns. flat_map brought trace ++ ns) (sym (append-nil (brought i))) ∙ sym (flat_map-append brought trace (i ∷ [])))

pub known_before : (s : Option Start) (trace : List TraceItem) (i : TraceItem) (n : ℕ) → IsKnown s trace n → IsKnown s (trace ++ i ∷ []) n
known_before s trace i n h = subst (λ ns. Contains ns n) (known_with s trace i) (Contains-append_left (known_tasks s trace) (brought i) n h)

pub known_by : (s : Option Start) (trace : List TraceItem) (i : TraceItem) (n : ℕ) → Contains (brought i) n → IsKnown s (trace ++ i ∷ []) n
known_by s trace i n h = subst (λ ns. Contains ns n) (known_with s trace i) (Contains-append_right (known_tasks s trace) (brought i) n h)

every_of : (K : ℕ → Type 0) (ns : List ℕ) → ((n : ℕ) → Contains ns n → K n) → Every K ns
every_of K [] h = tt
every_of K (n ∷ ns) h = (h n (0, omega arith, refl), every_of K ns (λ m (i, l, e). h m (suc i, omega (arith, l), e)))

fetches_more : (known : List ℕ) (trace : List TraceItem) (i : TraceItem) → FetchesOf known trace → IsFetchOf (known ++ flat_map brought trace) i → FetchesOf known (trace ++ i ∷ [])
fetches_more known [] i h f = (subst (λ ns. IsFetchOf ns i) (append-nil known) f, tt)
fetches_more known (x ∷ xs) i h f = (h.0, fetches_more (known ++ brought x) xs i h.1 (subst (λ ns. IsFetchOf ns i) (sym (append_assoc known (brought x) (flat_map brought xs))) f))

starts_more : (K L : ℕ → Type 0) → ((n : ℕ) → K n → L n) → (starts : List Start) → Every (λ s. Every K (in_start s)) starts → Every (λ s. Every L (in_start s)) starts
starts_more K L more starts h = every_more (λ s. Every K (in_start s)) (λ s. Every L (in_start s)) (λ s e. numbers_more K L more (in_start s) e) starts h

-- ---- steps

module _ (k k' : Knows) (start : k'.start ≡ k.start) (w w' : Work) (t t' : Progress) where
  -- a step that adds nothing to the trace
  pub knows_on : k'.starts ≡ k.starts → t'.trace ≡ t.trace → ((K : ℕ → Type 0) → PointMentions K (w, t.now) → PointMentions K (w', t'.now)) → IsKnowing k w t → IsKnowing k' w' t'
  knows_on starts trace keeps h = record {
    fetches = rw (start, trace) h.fetches;
    spawns = rw (start, trace, starts) h.spawns;
    point = rw (start, trace) (keeps (IsKnown k.start t.trace) h.point);
  }

  -- a step that adds an item, and the starts of new tasks
  pub knows_item : (i : TraceItem) (new : List Start) → k'.starts ≡ k.starts ++ new → t'.trace ≡ t.trace ++ i ∷ [] → (IsKnowing k w t → IsFetchOf (known_tasks k.start t.trace) i) → (IsKnowing k w t → AreStartsKnown k.start t.trace new)
      → ((K : ℕ → Type 0) → PointMentions K (w, t.now) → Every K (brought i) → PointMentions K (w', t'.now)) → IsKnowing k w t → IsKnowing k' w' t'
  knows_item i new starts trace fetched spawned keeps h =
      let K : ℕ → Type 0 = IsKnown k.start t.trace in
      let L : ℕ → Type 0 = IsKnown k.start (t.trace ++ i ∷ []) in
      let more : (n : ℕ) → K n → L n = λ n m. known_before k.start t.trace i n m in
      let old = starts_more K L more k.starts h.spawns in
      let young = starts_more K L more new (spawned h) in
      record {
        fetches = rw (start, trace) (fetches_more (given_tasks k.start) t.trace i h.fetches (fetched h));
        spawns = rw (start, trace, starts) (every_append (λ s. Every L (in_start s)) k.starts new old young);
        point = rw (start, trace) (keeps L (point_more K L more (w, t.now) h.point) (every_of L (brought i) (λ n c. known_by k.start t.trace i n c)));
      }

-- ---- starts

start_mentions : (K : ℕ → Type 0) (vs : List Value) → AllMention K vs → Every K (flat_map tasks_in (map datum vs))
start_mentions K [] h = tt
start_mentions K (v ∷ vs) h = every_append K (tasks_in (datum v)) (flat_map tasks_in (map datum vs)) h.0 (start_mentions K vs h.1)

-- the start of a task that is spawned here mentions what the slots mention
pub spawned_mentions : (K : ℕ → Type 0) (place : ℕ) (n : Now) → AllMention K n.env → Every K (in_start (start_of place n))
spawned_mentions K place n h = start_mentions K n.env h

values_mention : (K : ℕ → Type 0) (ds : List Datum) → Every K (flat_map tasks_in ds) → AllMention K (map value_of ds)
values_mention K [] h = tt
values_mention K (d ∷ ds) h =
    let s = every_split K (tasks_in d) (flat_map tasks_in ds) h in
    (subst (λ x. Every K (tasks_in x)) (sym (datum_back d)) s.0, values_mention K ds s.1)

-- the values of a start mention what is known at the beginning
pub begins_known : (start : Start) → AllMention (IsKnown (Some start) []) (map value_of start.env)
begins_known start =
    values_mention (IsKnown (Some start) []) start.env
    (every_of (IsKnown (Some start) []) (in_start start) (λ n c. Contains-append_left (in_start start) [] n c))
