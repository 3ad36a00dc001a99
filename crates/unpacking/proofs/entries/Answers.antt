-- `entries` meets its contract: what the first blocks carry is in startup and in cycle, as far as it goes.
use Rattle.std.proofs.Common.{◌∙◌, sym, ap, List, ℕ, length, take, drop, arith, ◌-◌, ◌/◌, length-drop}
use Rattle.std.proofs.lemmas.Iterator.Consumers.{YieldsList-turn, YieldsList-end}
use Rattle.format.specs.Newest.{carried}
use Rattle.unpacking.proofs.Cutting.{blocks_yielded, next_block, all_blocks, carried_whole}
use Rattle.unpacking.proofs.Taking.{Filled, room_used, both_more, filled_all}
use Rattle.unpacking.proofs.entries.Goals as goal

pub loop-block-preserved : goal.loop-block-preserved
loop-block-preserved c =
    let l = c.loop-block in
    let road = blocks_yielded c.args.blocks.now {s = c.into_iter-block-iterator.result} (cc) (cc) in
    let t = YieldsList-turn road l.yielded l.block-iterator l.yielded_by c.next.result c.next.new.self c.in-Some.block c.in-Some.is c.next.ensures.steps in
    let e = next_block c.args.blocks.now l.yielded c.in-Some.block t in
    let b = c.in-Some.block.now in
    let all = both_more c.args.startup.now c.args.cycle.now (carried (length l.yielded) c.args.blocks.now) (take (length b - 1) (drop 1 b))
    l.startup c.fill-next.new.dst l.s c.fill-next.result l.invariant.first l.invariant.first_used c.fill-next.ensures.place c.fill-next.ensures.copied
    l.cycle c.fill-c.new.dst l.c c.fill-c.result l.invariant.second l.invariant.second_used c.fill-c.ensures.place c.fill-c.ensures.copied in
    record {
      first = all.0 ∙ ap (Filled c.args.startup.now) (sym e);
      first_used = all.1 ∙ ap (room_used c.args.startup.now) (sym e);
      second = all.2 ∙ ap (λ (k : List ℕ). Filled c.args.cycle.now (drop (length c.args.startup.now) k)) (sym e);
      second_used = all.3 ∙ ap (λ (k : List ℕ). room_used c.args.cycle.now (drop (length c.args.startup.now) k)) (sym e);
    }

pub returns : goal.returns
returns c =
    let l = c.loop-block in
    let road = blocks_yielded c.args.blocks.now {s = c.into_iter-block-iterator.result} (cc) (cc) in
    let t = YieldsList-end road l.yielded l.block-iterator l.yielded_by c.next.result c.next.new.self c.in-None.is c.next.ensures.steps in
    let e = all_blocks c.args.blocks.now l.yielded t.1 in
    let n = carried_whole c.args.blocks.now in
    record {
      first = rw e at l.invariant.first ∙ filled_all c.args.startup.now (carried (length c.args.blocks.now / 64) c.args.blocks.now) (omega (arith, n));
      second =
          rw e at l.invariant.second
          ∙ filled_all c.args.cycle.now (drop (length c.args.startup.now) (carried (length c.args.blocks.now / 64) c.args.blocks.now))
          (omega (arith, n, length-drop (length c.args.startup.now) (carried (length c.args.blocks.now / 64) c.args.blocks.now)));
    }
