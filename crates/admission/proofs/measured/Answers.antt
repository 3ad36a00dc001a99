-- `measured` meets its contract: no offset of a list none of whose tasks is refused is so late that M + H wraps.
use Rattle.std.proofs.Common.{◌≡◌, ◌∙◌, sym, Some, arith}
use Rattle.admission.proofs.Admitting.{wide_tasks, latest_few}
use Rattle.divisor.proofs.Divisors.{is_some}
use Rattle.task.specs.Limits.{longest_hyperperiod}
use Rattle.task.specs.Tasks.{hyperperiod}
use Rattle.admission.proofs.measured.Goals as goal

pub hyperperiod-requires : goal.hyperperiod-requires
hyperperiod-requires c = wide_tasks c.args.card c.args.tasks.now (sym c.in_ok-check_all.ensures)

pub overflow_add-latest : goal.overflow_add-latest
overflow_add-latest c =
    let m = latest_few c.args.card c.args.tasks.now (sym c.in_ok-check_all.ensures) in
    let h : c.hyperperiod.result ≡ Some c.in_ok-hyperperiod.hyperperiod = grind arith in
    let o = is_some longest_hyperperiod (hyperperiod c.args.tasks.now) c.in_ok-hyperperiod.hyperperiod (sym c.hyperperiod.ensures ∙ h) in
    omega (arith, o.0, o.1)

pub load-load-requires-clause-no_refusal : goal.load-load-requires-clause-no_refusal
load-load-requires-clause-no_refusal c = wide_tasks c.args.card c.args.tasks.now (sym c.in_ok-check_all.ensures)
