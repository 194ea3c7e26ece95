use Rattle.std.proofs.Common.{◌∙◌, ap, sym, subst}
use Rattle.jl_methods.specs.Indexed.{noted_in, awaited_in, HasRoomFor}
use Rattle.jl_methods.specs.Noted.{with_event, with_def, with_del}
use Rattle.jl_methods.proofs.NoteLemmas.{IsFound, noted_is}
use Rattle.jl_methods.proofs.index.Index.note.Goals as goal

pub returns-in-Key : goal.returns-in-Key
returns-in-Key c =
    let P = c.args.ready.now in
    let i = c.args.self.now in
    let room = subst (λ e. HasRoomFor P e i) c.in-Key.is c.requires in
    λ es. noted_is P c.valid.ensures es c.args.event.now (awaited_in i) (noted_in i) (noted_in c.note_key.new.self)
    (c.note_key.ensures P c.in-Key.field-0 room ∙ sym (ap (λ e. with_event P e (awaited_in i) (noted_in i)) c.in-Key.is)) (subst (λ e. IsFound P e (awaited_in i)) (sym c.in-Key.is) (room.links.sites, room.links.places))

pub returns-in-Fill : goal.returns-in-Fill
returns-in-Fill c =
    let P = c.args.ready.now in
    let i = c.args.self.now in
    λ es. noted_is P c.valid.ensures es c.args.event.now (awaited_in i) (noted_in i) (noted_in c.note_row.new.self)
    (c.note_row.ensures ∙ sym (ap (λ e. with_event P e (awaited_in i) (noted_in i)) c.in-Fill.is)) (subst (λ e. IsFound P e (awaited_in i)) (sym c.in-Fill.is) tt)

pub returns-in-Def : goal.returns-in-Def
returns-in-Def c =
    let P = c.args.ready.now in
    let i = c.args.self.now in
    λ es. noted_is P c.valid.ensures es c.args.event.now (awaited_in i) (noted_in i) (noted_in c.note_def.new.self)
    (c.note_def.ensures ∙ ap (λ f. with_def f c.in-Def.site (noted_in i)) c.function_of.ensures ∙ sym (ap (λ e. with_event P e (awaited_in i) (noted_in i)) c.in-Def.is)) (subst (λ e. IsFound P e (awaited_in i)) (sym c.in-Def.is) tt)

pub returns-in-Del : goal.returns-in-Del
returns-in-Del c =
    let P = c.args.ready.now in
    let i = c.args.self.now in
    λ es. noted_is P c.valid.ensures es c.args.event.now (awaited_in i) (noted_in i) (noted_in c.note_del.new.self)
    (c.note_del.ensures ∙ ap (λ f. with_del f c.in-Del.place (noted_in i)) c.function_of-in-Del.ensures ∙ sym (ap (λ e. with_event P e (awaited_in i) (noted_in i)) c.in-Del.is)) (subst (λ e. IsFound P e (awaited_in i)) (sym c.in-Del.is) tt)

pub returns-in-Begin : goal.returns-in-Begin
returns-in-Begin c =
    let P = c.args.ready.now in
    let i = c.args.self.now in
    λ es. noted_is P c.valid.ensures es c.args.event.now (awaited_in i) (noted_in i) (noted_in i) (sym (ap (λ e. with_event P e (awaited_in i) (noted_in i)) c.in-Begin.is)) (subst (λ e. IsFound P e (awaited_in i)) (sym c.in-Begin.is) tt)

pub returns-in-Spawn : goal.returns-in-Spawn
returns-in-Spawn c =
    let P = c.args.ready.now in
    let i = c.args.self.now in
    λ es. noted_is P c.valid.ensures es c.args.event.now (awaited_in i) (noted_in i) (noted_in i) (sym (ap (λ e. with_event P e (awaited_in i) (noted_in i)) c.in-Spawn.is)) (subst (λ e. IsFound P e (awaited_in i)) (sym c.in-Spawn.is) tt)

pub returns-in-Done : goal.returns-in-Done
returns-in-Done c =
    let P = c.args.ready.now in
    let i = c.args.self.now in
    λ es. noted_is P c.valid.ensures es c.args.event.now (awaited_in i) (noted_in i) (noted_in i) (sym (ap (λ e. with_event P e (awaited_in i) (noted_in i)) c.in-Done.is)) (subst (λ e. IsFound P e (awaited_in i)) (sym c.in-Done.is) tt)
