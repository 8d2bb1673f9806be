-- The structs of this crate as values of the specs.
use Rattle.steps.specs.Run as run
use Rattle.order.specs.Order as order
use Rattle.order.specs.declared.Order.{Order}
use Rattle.order.specs.declared.Assumptions.{Assumptions}

abbrev pub order_of : Order → order.Order
order_of o = record { wanted = o.wanted; unwanted = o.unwanted; standard = o.standard }

abbrev pub assumptions_of : Assumptions → run.Assumptions
assumptions_of o = record { pos = o.pos; neg = o.neg }
