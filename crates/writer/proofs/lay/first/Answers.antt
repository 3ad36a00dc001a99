-- `first` meets its contract, policy by policy.
use Rattle.writer.proofs.lay.first.Goals as goal

pub returns-in-ListOrder : goal.returns-in-ListOrder
returns-in-ListOrder c = rw c.in-ListOrder.is c.word.ensures

pub returns-in-RateMonotonic : goal.returns-in-RateMonotonic
returns-in-RateMonotonic c = rw c.in-RateMonotonic.is c.word-in-RateMonotonic.ensures

pub returns-in-DeadlineMonotonic : goal.returns-in-DeadlineMonotonic
returns-in-DeadlineMonotonic c = rw c.in-DeadlineMonotonic.is c.word-in-DeadlineMonotonic.ensures

pub returns-in-Edf : goal.returns-in-Edf
returns-in-Edf c = rw c.in-Edf.is c.word-in-Edf.ensures
