use Rattle.std.proofs.Common.{◌≡◌, ◌∙◌, ap, sym, subst, refl, true, false}
use Rattle.jl_calculus.specs.declared.history.Event.TheVariants as Ev
use Rattle.jl_causes.specs.Causes.{is_begin}
use Rattle.jl_causes.specs.Sketch.{start_at, record_of, Tells}
use Rattle.jl_causes.proofs.NoteLemmas.{note_comes, key_named, no_key_here}
use Rattle.jl_causes.proofs.judge.Judge.note.Goals as goal

pub returns-in-Begin : goal.returns-in-Begin
returns-in-Begin c = λ all es m at. (let z : true ≡ false = sym (ap is_begin c.in-Begin.is) ∙ m.later in absurd (cc z))

pub note_key-requires : goal.note_key-requires
note_key-requires c =
    let P = c.args.ready.now in
    let (all, es, m) = c.requires in
    let t = key_named P all es c.args.self.now c.args.entry.now c.args.key c.in-Key.number c.in-Key.function c.in-Key.tuple c.in-Some.key c.in-Key.is c.in-Some.is m in (all, es, m.knows, note_comes P all es c.args.self.now c.args.entry.now c.args.key m (Ev.Key c.in-Some.key) t)

pub returns-in_ok-note_key-in-Some : goal.returns-in_ok-note_key-in-Some
returns-in_ok-note_key-in-Some c =
    let P = c.args.ready.now in
    λ all es m at.
    let t = key_named P all es c.args.self.now c.args.entry.now c.args.key c.in-Key.number c.in-Key.function c.in-Key.tuple c.in-Some.key c.in-Key.is c.in-Some.is m in (
      Ev.Key c.in-Some.key,
      t,
      c.in_ok-note_key-in-Some.ensures all es m.knows (note_comes P all es c.args.self.now c.args.entry.now c.args.key m (Ev.Key c.in-Some.key) t),
    )

pub returns-in-None : goal.returns-in-None
returns-in-None c = λ all es m at.
    absurd (no_key_here c.args.ready.now all es c.args.self.now c.args.entry.now c.args.key c.in-Key.number c.in-Key.function c.in-Key.tuple c.in-Key.is c.in-None.is m)

pub note_fill-requires : goal.note_fill-requires
note_fill-requires c =
    let P = c.args.ready.now in
    let (all, es, m) = c.requires in
    let e = Ev.Fill c.in-Fill.key c.in-Fill.site c.in-Fill.first in (all, es, m.knows, note_comes P all es c.args.self.now c.args.entry.now c.args.key m e (subst (λ x. Tells P x e) (sym c.in-Fill.is) refl))

pub returns-in_ok-note_fill-in-Fill : goal.returns-in_ok-note_fill-in-Fill
returns-in_ok-note_fill-in-Fill c =
    let P = c.args.ready.now in
    λ all es m at.
    let e = Ev.Fill c.in-Fill.key c.in-Fill.site c.in-Fill.first in
    let t : Tells P c.args.entry.now e = subst (λ x. Tells P x e) (sym c.in-Fill.is) refl in
    (e, t, c.in_ok-note_fill-in-Fill.ensures all es m.knows (note_comes P all es c.args.self.now c.args.entry.now c.args.key m e t))

pub note_def-requires : goal.note_def-requires
note_def-requires c =
    let P = c.args.ready.now in
    let (all, es, m) = c.requires in
    let e = Ev.Def c.in-Def.task c.in-Def.site in (all, es, m.knows, note_comes P all es c.args.self.now c.args.entry.now c.args.key m e (subst (λ x. Tells P x e) (sym c.in-Def.is) refl))

pub returns-in_ok-note_def-in-Def : goal.returns-in_ok-note_def-in-Def
returns-in_ok-note_def-in-Def c =
    let P = c.args.ready.now in
    λ all es m at.
    let e = Ev.Def c.in-Def.task c.in-Def.site in
    let t : Tells P c.args.entry.now e = subst (λ x. Tells P x e) (sym c.in-Def.is) refl in
    (e, t, c.in_ok-note_def-in-Def.ensures all es m.knows (note_comes P all es c.args.self.now c.args.entry.now c.args.key m e t) at)

pub note_del-requires : goal.note_del-requires
note_del-requires c =
    let P = c.args.ready.now in
    let (all, es, m) = c.requires in
    let e = Ev.Del c.in-Del.task c.in-Del.place in (all, es, m.knows, note_comes P all es c.args.self.now c.args.entry.now c.args.key m e (subst (λ x. Tells P x e) (sym c.in-Del.is) refl))

pub returns-in_ok-note_del-in-Del : goal.returns-in_ok-note_del-in-Del
returns-in_ok-note_del-in-Del c =
    let P = c.args.ready.now in
    λ all es m at.
    let e = Ev.Del c.in-Del.task c.in-Del.place in
    let t : Tells P c.args.entry.now e = subst (λ x. Tells P x e) (sym c.in-Del.is) refl in
    (e, t, c.in_ok-note_del-in-Del.ensures all es m.knows (note_comes P all es c.args.self.now c.args.entry.now c.args.key m e t) at)

pub note_spawn-requires : goal.note_spawn-requires
note_spawn-requires c =
    let P = c.args.ready.now in
    let (all, es, m) = c.requires in
    let e = Ev.Spawn c.in-Spawn.task c.in-Spawn.child (start_at c.in-Spawn.place) in
    (all, es, start_at c.in-Spawn.place, m.knows, note_comes P all es c.args.self.now c.args.entry.now c.args.key m e (subst (λ x. Tells P x e) (sym c.in-Spawn.is) refl))

pub returns-in_ok-note_spawn-in-Spawn : goal.returns-in_ok-note_spawn-in-Spawn
returns-in_ok-note_spawn-in-Spawn c =
    let P = c.args.ready.now in
    λ all es m at.
    let e = Ev.Spawn c.in-Spawn.task c.in-Spawn.child (start_at c.in-Spawn.place) in
    let t : Tells P c.args.entry.now e = subst (λ x. Tells P x e) (sym c.in-Spawn.is) refl in
    (e, t, c.in_ok-note_spawn-in-Spawn.ensures all es (start_at c.in-Spawn.place) m.knows (note_comes P all es c.args.self.now c.args.entry.now c.args.key m e t) at)

pub note_done-requires : goal.note_done-requires
note_done-requires c =
    let P = c.args.ready.now in
    let (all, es, m) = c.requires in
    let ended = record_of c.in-Done.calls c.in-Done.trace c.in-Done.output in
    let e = Ev.Done c.in-Done.task ended in (all, es, ended, m.knows, note_comes P all es c.args.self.now c.args.entry.now c.args.key m e (subst (λ x. Tells P x e) (sym c.in-Done.is) refl))

pub returns-in_ok-note_done-in-Done : goal.returns-in_ok-note_done-in-Done
returns-in_ok-note_done-in-Done c =
    let P = c.args.ready.now in
    λ all es m at.
    let ended = record_of c.in-Done.calls c.in-Done.trace c.in-Done.output in
    let e = Ev.Done c.in-Done.task ended in
    let t : Tells P c.args.entry.now e = subst (λ x. Tells P x e) (sym c.in-Done.is) refl in
    (e, t, c.in_ok-note_done-in-Done.ensures all es ended m.knows (note_comes P all es c.args.self.now c.args.entry.now c.args.key m e t) at)
