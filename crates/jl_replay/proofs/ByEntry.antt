-- What an event is by its entry.
use Rattle.std.proofs.Common.{◌≡◌, refl, ℕ, List, Option, Some, None}
use Rattle.jl_model.specs.declared.ty.Key.{Key}
use Rattle.jl_model.specs.declared.ty.Ty.TheVariants.{Tuple}
use Rattle.jl_program.specs.declared.tree.Program.{Program}
use Rattle.jl_program.specs.declared.tree.Start.{Start}
use Rattle.jl_program.specs.Text.{function_name, type_text}
use Rattle.jl_calculus.specs.declared.history.Event.{Event}
use Rattle.jl_calculus.specs.declared.history.Event.TheVariants as Ev
use Rattle.jl_calculus.specs.declared.history.Record.{Record}
use Rattle.jl_report.specs.declared.entry.Step.{Step}
use Rattle.jl_report.specs.declared.entry.Ending.{Ending}
use Rattle.jl_report.specs.declared.entry.Entry.{Entry}
use Rattle.jl_report.specs.declared.entry.Entry.TheVariants as E
use Rattle.jl_report.specs.HistoryText.{steps_of, ending_of, entry_of}
use Rattle.jl_replay.specs.Following.{IsKeyAt}

-- a key with these texts
pub record IsKeyWith (P : Program) (e : Event) (number : ℕ) (function tuple : List ℕ) : Type 0 where
  pub key : Key
  pub is : e ≡ Ev.Key key
  pub by_function : function_name P key.function ≡ function
  pub by_types : type_text P (Tuple key.types) ≡ tuple

-- a spawn at this place of the program
pub record IsSpawnWith (e : Event) (task child place : ℕ) : Type 0 where
  pub start : Start
  pub is : e ≡ Ev.Spawn task child start
  pub at : start.spawn ≡ place

-- the end of a task that did this
pub record IsEndWith (P : Program) (e : Event) (task calls : ℕ) (trace : List Step) (output : List ℕ) (ending : Ending) : Type 0 where
  pub ended : Record
  pub is : e ≡ Ev.Done task ended
  pub calls_are : ended.calls ≡ calls
  pub steps_are : steps_of ended.trace ≡ trace
  pub output_is : ended.output ≡ output
  pub ending_is : ending_of P ended.outcome ≡ ending

module _ (P : Program) (k : ℕ) where
  pub key_with : (e : Event) (number : ℕ) (function tuple : List ℕ) → entry_of P k e ≡ E.Key number function tuple → IsKeyWith P e number function tuple
  key_with (Ev.Begin fuel) number function tuple h = absurd (cc h)
  key_with (Ev.Key key) number function tuple h = record { key = key; is = refl; by_function = cc h; by_types = cc h }
  key_with (Ev.Fill n site first) number function tuple h = absurd (cc h)
  key_with (Ev.Def by site) number function tuple h = absurd (cc h)
  key_with (Ev.Del by place) number function tuple h = absurd (cc h)
  key_with (Ev.Spawn by child start) number function tuple h = absurd (cc h)
  key_with (Ev.Done by ended) number function tuple h = absurd (cc h)

  pub fill_with : (e : Event) (key site first : ℕ) → entry_of P k e ≡ E.Fill key site first → e ≡ Ev.Fill key site first
  fill_with (Ev.Begin fuel) key site first h = absurd (cc h)
  fill_with (Ev.Key q) key site first h = absurd (cc h)
  fill_with (Ev.Fill n s f) key site first h =
      let a : n ≡ key = cc h in
      let b : s ≡ site = cc h in
      let c : f ≡ first = cc h in
      λ i. Ev.Fill (a i) (b i) (c i)
  fill_with (Ev.Def by s) key site first h = absurd (cc h)
  fill_with (Ev.Del by place) key site first h = absurd (cc h)
  fill_with (Ev.Spawn by child start) key site first h = absurd (cc h)
  fill_with (Ev.Done by ended) key site first h = absurd (cc h)

  pub def_with : (e : Event) (task site : ℕ) → entry_of P k e ≡ E.Def task site → e ≡ Ev.Def task site
  def_with (Ev.Begin fuel) task site h = absurd (cc h)
  def_with (Ev.Key q) task site h = absurd (cc h)
  def_with (Ev.Fill n s f) task site h = absurd (cc h)
  def_with (Ev.Def by s) task site h =
      let a : by ≡ task = cc h in
      let b : s ≡ site = cc h in
      λ i. Ev.Def (a i) (b i)
  def_with (Ev.Del by place) task site h = absurd (cc h)
  def_with (Ev.Spawn by child start) task site h = absurd (cc h)
  def_with (Ev.Done by ended) task site h = absurd (cc h)

  pub del_with : (e : Event) (task place : ℕ) → entry_of P k e ≡ E.Del task place → e ≡ Ev.Del task place
  del_with (Ev.Begin fuel) task place h = absurd (cc h)
  del_with (Ev.Key q) task place h = absurd (cc h)
  del_with (Ev.Fill n s f) task place h = absurd (cc h)
  del_with (Ev.Def by s) task place h = absurd (cc h)
  del_with (Ev.Del by s) task place h =
      let a : by ≡ task = cc h in
      let b : s ≡ place = cc h in
      λ i. Ev.Del (a i) (b i)
  del_with (Ev.Spawn by child start) task place h = absurd (cc h)
  del_with (Ev.Done by ended) task place h = absurd (cc h)

  pub spawn_with : (e : Event) (task child place : ℕ) → entry_of P k e ≡ E.Spawn task child place → IsSpawnWith e task child place
  spawn_with (Ev.Begin fuel) task child place h = absurd (cc h)
  spawn_with (Ev.Key q) task child place h = absurd (cc h)
  spawn_with (Ev.Fill n s f) task child place h = absurd (cc h)
  spawn_with (Ev.Def by s) task child place h = absurd (cc h)
  spawn_with (Ev.Del by made) task child place h = absurd (cc h)
  spawn_with (Ev.Spawn by c start) task child place h =
      let a : by ≡ task = cc h in
      let b : c ≡ child = cc h in
      record { start = start; is = λ i. Ev.Spawn (a i) (b i) start; at = cc h }
  spawn_with (Ev.Done by ended) task child place h = absurd (cc h)

  pub end_with : (e : Event) (task calls : ℕ) (trace : List Step) (output : List ℕ) (ending : Ending) → entry_of P k e ≡ E.Done task calls trace output ending → IsEndWith P e task calls trace output ending
  end_with (Ev.Begin fuel) task calls trace output ending h = absurd (cc h)
  end_with (Ev.Key q) task calls trace output ending h = absurd (cc h)
  end_with (Ev.Fill n s f) task calls trace output ending h = absurd (cc h)
  end_with (Ev.Def by s) task calls trace output ending h = absurd (cc h)
  end_with (Ev.Del by place) task calls trace output ending h = absurd (cc h)
  end_with (Ev.Spawn by c start) task calls trace output ending h = absurd (cc h)
  end_with (Ev.Done by ended) task calls trace output ending h =
      let a : by ≡ task = cc h in
      record { ended = ended; is = λ i. Ev.Done (a i) ended; calls_are = cc h; steps_are = cc h; output_is = cc h; ending_is = cc h }

-- the entry of a key, by its texts
pub key_entry : (o : Option Entry) (function tuple : List ℕ) → IsKeyAt o function tuple → (number : ℕ) × (o ≡ Some (E.Key number function tuple))
key_entry None function tuple h = absurd h
key_entry (Some (E.Key number f t)) function tuple (a, b) = (number, λ i. Some (E.Key number (a i) (b i)))
key_entry (Some (E.Begin fuel)) function tuple h = absurd h
key_entry (Some (E.Fill key site first)) function tuple h = absurd h
key_entry (Some (E.Def task site)) function tuple h = absurd h
key_entry (Some (E.Del task place)) function tuple h = absurd h
key_entry (Some (E.Spawn task child place)) function tuple h = absurd h
key_entry (Some (E.Done task calls trace output ending)) function tuple h = absurd h
