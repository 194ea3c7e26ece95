use Rattle.std.proofs.Common.{ℕ, ℤ, sym, subst, w64, to_z, of_z}
use Rattle.std.proofs.lemmas.Int.{to_z-of_z}
use Rattle.jl_host.specs.Replies.{IsShown}
use Rattle.jl_host.proofs.Codes.{code_at}
use Rattle.jl_host.proofs.Told.{told_at}
use Rattle.jl_host.proofs.ops.HostOps.call.Goals as goal

pub call-requires : goal.call-requires
call-requires g c =
    let is = code_at _ _ c.args.code c.index.result.now c.args.self.now.whole c.requires.code c.index.ensures in
    let first = to_z-of_z w64 c.args.a (record { sfits = c.ranges.a.sfits }) in
    let second = to_z-of_z w64 c.args.b (record { sfits = c.ranges.b.sfits }) in
    subst (λ (n : ℕ). IsShown n (to_z w64 (of_z w64 c.args.a)) (to_z w64 (of_z w64 c.args.b))) (sym is)
    (subst (λ (x : ℤ). IsShown c.args.code x (to_z w64 (of_z w64 c.args.b))) (sym first) (subst (λ (y : ℤ). IsShown c.args.code c.args.a y) (sym second) c.requires.shown))

pub returns : goal.returns
returns g c =
    let is = code_at _ _ c.args.code c.index.result.now c.args.self.now.whole c.requires.code c.index.ensures in
    let first = to_z-of_z w64 c.args.a (record { sfits = c.ranges.a.sfits }) in
    let second = to_z-of_z w64 c.args.b (record { sfits = c.ranges.b.sfits }) in
    told_at c.args.code c.index.result.now.code c.args.a c.args.b _ _ c.call.result is first second c.call.ensures
