-- The plan that a draft holds.
use Rattle.std.specs.Prelude.{vec_items}
use Rattle.network.specs.Nets.{Net}
use Rattle.network.specs.Plans.{Plan, net_of}
use Rattle.network.specs.declared.draft.Draft.{Draft}

abbrev pub plan : Draft → Plan
plan d = record { events = vec_items d.events.rows; rules = vec_items d.rules.rows; views = vec_items d.views.rows }

abbrev pub net : Draft → Net
net d = net_of (plan d)
