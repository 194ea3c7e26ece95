use Rattle.std.proofs.Common.{◌<◌, ap, arith, length}
use Rattle.jl_program.specs.declared.tree.Program.{Program}
use Rattle.jl_methods.specs.Indexed.{IsIndexOf}
use Rattle.store_tests.specs.Crossed.{begun, one_made, keyed, two_made, three_made, four_made}
use Rattle.store_tests.proofs.IndexLemmas.{may_define_first, may_name, may_define_second, may_define_third, may_define_again, is_running}
use Rattle.store_tests.proofs.index.touching.Goals as goal

pub define-requires-clause-event : goal.define-requires-clause-event
define-requires-clause-event c =
    let P = c.args.ready.now in
    let many : 16 < length P.sites = omega (arith, c.if-len-first.false, c.len.ensures, ap (λ (p : Program). length p.sites) c.program-program.ensures) in
    (begun, c.in_ok-begin.ensures, may_define_first P (omega (arith, many)))

pub name-requires-clause-event : goal.name-requires-clause-event
name-requires-clause-event c =
    let P = c.args.ready.now in
    let many : 16 < length P.sites = omega (arith, c.if-len-first.false, c.len.ensures, ap (λ (p : Program). length p.sites) c.program-program.ensures) in
    (one_made, c.in_ok-define.ensures begun c.in_ok-begin.ensures (may_define_first P (omega (arith, many))), may_name P c.in_ok-key.key c.in_ok-key.ensures)

pub define-requires-2-clause-event : goal.define-requires-2-clause-event
define-requires-2-clause-event c =
    let P = c.args.ready.now in
    let key = c.in_ok-key.key in
    let many : 16 < length P.sites = omega (arith, c.if-len-first.false, c.len.ensures, ap (λ (p : Program). length p.sites) c.program-program.ensures) in
    let one : IsIndexOf P one_made c.define.new.index = c.in_ok-define.ensures begun c.in_ok-begin.ensures (may_define_first P (omega (arith, many))) in
    (keyed key, c.in_ok-name.ensures one_made one (may_name P key c.in_ok-key.ensures), may_define_second P key (omega (arith, many)))

pub define-requires-3-clause-event : goal.define-requires-3-clause-event
define-requires-3-clause-event c =
    let P = c.args.ready.now in
    let key = c.in_ok-key.key in
    let many : 16 < length P.sites = omega (arith, c.if-len-first.false, c.len.ensures, ap (λ (p : Program). length p.sites) c.program-program.ensures) in
    let one : IsIndexOf P one_made c.define.new.index = c.in_ok-define.ensures begun c.in_ok-begin.ensures (may_define_first P (omega (arith, many))) in
    let two : IsIndexOf P (keyed key) c.name.new.index = c.in_ok-name.ensures one_made one (may_name P key c.in_ok-key.ensures) in
    (two_made key, c.in_ok-define-2.ensures (keyed key) two (may_define_second P key (omega (arith, many))), may_define_third P key many)

pub define-requires-4-clause-event : goal.define-requires-4-clause-event
define-requires-4-clause-event c =
    let P = c.args.ready.now in
    let key = c.in_ok-key.key in
    let many : 16 < length P.sites = omega (arith, c.if-len-first.false, c.len.ensures, ap (λ (p : Program). length p.sites) c.program-program.ensures) in
    let one : IsIndexOf P one_made c.define.new.index = c.in_ok-define.ensures begun c.in_ok-begin.ensures (may_define_first P (omega (arith, many))) in
    let two : IsIndexOf P (keyed key) c.name.new.index = c.in_ok-name.ensures one_made one (may_name P key c.in_ok-key.ensures) in
    let three : IsIndexOf P (two_made key) c.define-2.new.index = c.in_ok-define-2.ensures (keyed key) two (may_define_second P key (omega (arith, many))) in
    (three_made key, c.in_ok-define-3.ensures (two_made key) three (may_define_third P key many), may_define_again P key (omega (arith, many)))

pub delete-requires-clause-event : goal.delete-requires-clause-event
delete-requires-clause-event c =
    let P = c.args.ready.now in
    let key = c.in_ok-key.key in
    let many : 16 < length P.sites = omega (arith, c.if-len-first.false, c.len.ensures, ap (λ (p : Program). length p.sites) c.program-program.ensures) in
    let one : IsIndexOf P one_made c.define.new.index = c.in_ok-define.ensures begun c.in_ok-begin.ensures (may_define_first P (omega (arith, many))) in
    let two : IsIndexOf P (keyed key) c.name.new.index = c.in_ok-name.ensures one_made one (may_name P key c.in_ok-key.ensures) in
    let three : IsIndexOf P (two_made key) c.define-2.new.index = c.in_ok-define-2.ensures (keyed key) two (may_define_second P key (omega (arith, many))) in
    let four : IsIndexOf P (three_made key) c.define-3.new.index = c.in_ok-define-3.ensures (two_made key) three (may_define_third P key many) in
    (four_made key, c.in_ok-define-4.ensures (three_made key) four (may_define_again P key (omega (arith, many))), is_running key, omega arith)
