-- `begin_at`: the wait is what the case says. No wait leaves a time above 0 as it is.
use lib.Ieee.{of_bits}
use Rattle.numbers.proofs.Bits.{add_zero_bits}
use Rattle.day.specs.Customer.{waiting_time}
use Rattle.labels.proofs.label.begin_at.Goals as goal

pub returns-then-ready-span : goal.returns-then-ready-span
unfolding waiting_time
returns-then-ready-span c =
    rw c.if-ready-span.true

pub returns-then-ready : goal.returns-then-ready
unfolding waiting_time of_bits
returns-then-ready c =
    rw (c.if-ready-span.false, add_zero_bits _ c.requires c.if-ready.true)

pub returns : goal.returns
unfolding waiting_time of_bits
returns c =
    rw c.if-ready-span.false
