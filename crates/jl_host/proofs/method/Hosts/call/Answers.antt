use Rattle.std.proofs.Common.{◌≡◌, ◌∙◌, ap, sym, subst, ℕ, ℤ, Bool, IsTrue, map, length, get_or, to_z, of_z}
use Rattle.std.specs.Int.{w64}
use Rattle.std.proofs.lemmas.Int.{to_z-of_z}
use Rattle.std.proofs.lemmas.List.Elements.{All-get_or}
use Rattle.jl_host.proofs.Numbers.{number_at}
use Rattle.jl_host.proofs.method.Hosts.call.Goals as goal

pub returns : goal.returns
returns g c =
    let hosts = c.args.self.now in
    let number : c.index.result.now.number ≡ c.args.n = number_at (λ m. m.number) hosts.list.items c.args.n c.index.result.now hosts.numbered c.requires.number c.index.ensures in
    let a = to_z-of_z w64 c.args.a c.ranges.a in
    let b = to_z-of_z w64 c.args.b c.ranges.b in
    let r = sym (to_z-of_z w64 c.call.result (record { sfits = c.call.type_inv })) in
    subst IsTrue (λ i. g.R.Relation.allows (number i) (a i) (b i) (r i)) c.call.ensures
