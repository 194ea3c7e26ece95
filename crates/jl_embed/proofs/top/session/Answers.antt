use Rattle.std.proofs.Common.{◌≤◌, [], length, refl, arith}
use Rattle.jl_io.proofs.MovedLemmas.{Gives-none}
use Rattle.jl_embed.specs.Sessions.{ending}
use Rattle.jl_embed.proofs.SessionLemmas.{session_used, session_long, session_unread, session_unkept, session_read}
use Rattle.jl_embed.proofs.top.session.Goals as goal

pub returns-then-not-is_empty-clause-held : goal.returns-then-not-is_empty-clause-held
returns-then-not-is_empty-clause-held g c =
    session_used (length c.args.words.now) (length c.args.hosts.now.list.items) g.H.Relation.allows _ _ _ _ _ _ [] (Gives-none _) (omega arith) (ending c.unopened.result) c.as_bytes.result.now c.tell.result
    c.unopened.ensures (grind (arith, c.if-not-is_empty.true, c.is_empty.ensures)) refl c.as_bytes.ensures.value c.tell.ensures.written

pub returns-in-Err-Failed-clause-held : goal.returns-in-Err-Failed-clause-held
returns-in-Err-Failed-clause-held g c =
    let taken = c.in-Err-Failed.ensures.taken in
    session_unread (length c.args.words.now) (length c.args.hosts.now.list.items) g.H.Relation.allows _ _ _ _ _ _ taken.0 taken.2 (omega (arith, taken.1)) (ending c.unopened-in-Err-Failed.result)
    c.unopened-in-Err-Failed.ensures (grind (arith, c.if-not-is_empty.false, c.is_empty.ensures)) refl (rw c.in-Err-Failed.field-0-is at c.in-Err-Failed.ensures.rose)

pub returns-in-Err-Memory-clause-held : goal.returns-in-Err-Memory-clause-held
returns-in-Err-Memory-clause-held g c =
    let taken = c.in-Err-Memory.ensures.taken in
    session_unkept (length c.args.words.now) (length c.args.hosts.now.list.items) g.H.Relation.allows _ _ _ _ _ _ taken.0 taken.2 (omega (arith, taken.1)) (ending c.unopened-in-Err-Memory.result)
    c.unopened-in-Err-Memory.ensures (grind (arith, c.if-not-is_empty.false, c.is_empty.ensures)) (omega (arith, taken.3)) refl

pub returns-then-len-gt-MOST_SOURCE_BYTES-clause-held : goal.returns-then-len-gt-MOST_SOURCE_BYTES-clause-held
returns-then-len-gt-MOST_SOURCE_BYTES-clause-held g c =
    session_long (length c.args.words.now) (length c.args.hosts.now.list.items) g.H.Relation.allows _ _ _ _ _ _ c.in-Ok.bytes.items c.in-Ok.ensures.gives (omega (arith, c.in-Ok.ensures.within)) (ending c.unopened-then-len-gt-MOST_SOURCE_BYTES.result) c.as_bytes-then-len-gt-MOST_SOURCE_BYTES.result.now c.tell-then-len-gt-MOST_SOURCE_BYTES.result
    c.unopened-then-len-gt-MOST_SOURCE_BYTES.ensures (grind (arith, c.if-not-is_empty.false, c.is_empty.ensures)) (omega (arith, c.if-len-gt-MOST_SOURCE_BYTES.true, c.len.ensures, c.in-Ok.bytes.ok.0)) c.as_bytes-then-len-gt-MOST_SOURCE_BYTES.ensures.value c.tell-then-len-gt-MOST_SOURCE_BYTES.ensures.written

pub returns-clause-held : goal.returns-clause-held
returns-clause-held g c =
    let few : length c.in-Ok.bytes.items ≤ 1048576 = omega (arith, c.if-len-gt-MOST_SOURCE_BYTES.false, c.len.ensures, c.in-Ok.bytes.ok.0) in
    session_read (length c.args.words.now) (length c.args.hosts.now.list.items) g.H.Relation.allows _ _ _ _ _ _ c.in-Ok.bytes.items c.in-Ok.ensures.gives (omega (arith, few)) (ending c.answer.result) c.as_slice.result.now
    (grind (arith, c.if-not-is_empty.false, c.is_empty.ensures)) few (c.in-Ok.ensures.ended (omega (arith, few))) c.as_slice.ensures.value c.answer.ensures.parted
