-- `entries` meets its contract: what the first blocks carry is in startup and in cycle, as far as it goes.
use Rattle.std.proofs.Common.{◌≡◌, length, drop}
use Rattle.format.specs.Newest.{carried}
use Rattle.unpacking.proofs.Taking.{Filled, room_used}
use Rattle.unpacking.proofs.entries.Given as goal

abbrev pub invariant-loop-block : goal.invariant-loop-block
invariant-loop-block l = record {
  first : l.startup ≡ Filled l.initial.startup (carried (length l.yielded) l.blocks);
  first_used : l.s ≡ room_used l.initial.startup (carried (length l.yielded) l.blocks);
  second : l.cycle ≡ Filled l.initial.cycle (drop (length l.initial.startup) (carried (length l.yielded) l.blocks));
  second_used : l.c ≡ room_used l.initial.cycle (drop (length l.initial.startup) (carried (length l.yielded) l.blocks));
}
