-- What a dispatcher that leads a task means.
use Rattle.jl_lead.specs.declared.led.Led.{Led}
use Rattle.jl_lead.specs.Leads.{led_knows}
use Rattle.jl_task.specs.Knows.{Knows}

abbrev pub knows_of : Led → Knows
knows_of d = led_knows d.past.0 d.past.1 d.task d.items.items d.told d.seen d.looks d.alone
