use Rattle.std.proofs.Common.{◌≡◌, ◌∙◌, ap, sym, subst, refl, MatchOption, Some}
use Rattle.jl_calculus.specs.declared.history.TraceItem.TheVariants.{Fetch}
use Rattle.jl_lead.specs.Items.{next_item, IsNoFetch}
use Rattle.jl_lead.proofs.Answering.{seen_fetch, left_fetch}
use Rattle.jl_lead.proofs.Whole.{placed_on, fetch_told, fetch_lost}
use Rattle.jl_lead.proofs.led.Led.answer_fetch.Goals as goal

pub invariant_of-self : goal.invariant_of-self
invariant_of-self c =
    let s = c.args.self.now in
    let h = ap (λ xs. next_item s.alone xs s.told) (sym c.as_slice.ensures.value) ∙ subst (λ o. MatchOption o (IsNoFetch (next_item s.alone c.as_slice.result.now s.told) c.args.task) (λ f. next_item s.alone c.as_slice.result.now s.told ≡ Some (Fetch c.args.task f.outcome f.at))) c.in-Some.is c.in-Ok.ensures.exact in
    record {
      placed = placed_on s.past.1 s.task s.seen c.in-Some.fetched.at s.placed (seen_fetch s.past.0 s.past.1 s.task s.items.items s.told s.seen s.looks s.alone c.args.task c.in-Some.fetched.outcome c.in-Some.fetched.at h s.left);
      left = left_fetch s.past.0 s.past.1 s.task s.items.items s.told s.seen s.looks s.alone c.args.task c.in-Some.fetched.outcome c.in-Some.fetched.at h s.left;
    }

pub returns-in-Some : goal.returns-in-Some
returns-in-Some c =
    let s = c.args.self.now in
    let h = ap (λ xs. next_item s.alone xs s.told) (sym c.as_slice.ensures.value) ∙ subst (λ o. MatchOption o (IsNoFetch (next_item s.alone c.as_slice.result.now s.told) c.args.task) (λ f. next_item s.alone c.as_slice.result.now s.told ≡ Some (Fetch c.args.task f.outcome f.at))) c.in-Some.is c.in-Ok.ensures.exact in
    fetch_told s.past.0 s.past.1 s.task s.items.items s.told s.seen s.looks s.alone c.args.task c.in-Some.fetched.outcome c.in-Some.fetched.at h s.left c.sound.ensures

pub fetch_alone-requires : goal.fetch_alone-requires
fetch_alone-requires c =
    let s = c.args.self.now in
    subst (λ xs. IsNoFetch (next_item s.alone xs s.told) c.args.task) c.as_slice.ensures.value
    (subst (λ o. MatchOption o (IsNoFetch (next_item s.alone c.as_slice.result.now s.told) c.args.task) (λ f. next_item s.alone c.as_slice.result.now s.told ≡ Some (Fetch c.args.task f.outcome f.at))) c.in-None.is c.in-Ok.ensures.exact)

pub returns-in-Err : goal.returns-in-Err
returns-in-Err c =
    let s = c.args.self.now in
    fetch_lost s.past.0 s.past.1 s.task s.items.items s.told s.seen s.looks s.alone c.args.task s.past refl
