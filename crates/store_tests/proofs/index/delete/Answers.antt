use Rattle.store_tests.proofs.index.delete.Goals as goal

pub note-noted-requires : goal.note-noted-requires
note-noted-requires c =
    let (es, index, running, room) = c.requires.event in
    record {
      es = es;
      index = index;
      may_come = record { running = running; may = (c.in_ok-has_method.ensures es index).0 c.if-not-branch.false; room = room };
    }
