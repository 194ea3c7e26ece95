-- A machine that waits while others go on fits its dispatcher then.
use Rattle.std.proofs.Common.{◌∙◌, ap, refl, ◌++◌, append-nil, length}
use Rattle.jl_calculus.specs.Past.{own_events, own_starts}
use Rattle.jl_calculus.proofs.GrowthLemmas.{world_more}
use Rattle.jl_machine.proofs.Whole.{grown_law}
use Rattle.jl_lead.specs.Carried.{MachineStays}
use Rattle.jl_lead.specs.Leads.{led_knows}
use Rattle.jl_lead.proofs.EventFacts.{goes_less, start_before, first_before, own_later, starts_append}

pub machine_stays : MachineStays
machine_stays P fuel m es others task items items2 told told2 seen seen2 looks alone alone2 h le fits =
    grown_law (led_knows P es task items told seen looks alone) (led_knows P (es ++ others) task items2 told2 seen2 looks alone2) (record {
      grew = record {
        program = refl;
        places = refl;
        task = refl;
        start = start_before task es others h.start;
        first = first_before task 0 es others h.first;
        world = world_more es others;
        seen = le;
        agrees = λ xs g. goes_less es others xs g;
        learnt = λ i k xs g. k xs (goes_less es others xs g);
      };
      looks = refl;
      own = own_later task es others ∙ ap (λ xs. own_events task 0 es ++ xs) (h.own (length es)) ∙ append-nil (own_events task 0 es);
      starts = starts_append task es others ∙ ap (λ xs. own_starts task es ++ xs) h.starts ∙ append-nil (own_starts task es);
    }) P fuel m fits
