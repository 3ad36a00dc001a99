-- How long the report of a feasible answer is: numbers of at most five digits, and tables of three bytes an entry.
use mathlib.Core.Path.{◌≡◌, ap, ◌∙◌}
use mathlib.Core.List.{List}
use Prim.Native.Nat.{ℕ, suc, ◌+◌, ◌^◌, ◌≤◌, ◌<◌}
use native.Mathlib.Omega.{arith}
use lib.ListN.{length, take, length-append}
use Rattle.card.specs.declared.Card.{Card}
use Rattle.task.specs.declared.Task.{Task}
use Rattle.task.specs.Tasks.{latest, hyperperiod}
use Rattle.task.proofs.Refusing.{Passed, passed}
use Rattle.schedule.specs.declared.Policy.{Policy}
use Rattle.schedule.specs.Job.{is_idle}
use Rattle.schedule.specs.Endless.{endless}
use Rattle.answer.specs.declared.Plan.{Plan}
use Rattle.answer.specs.Answers.{feasible}
use Rattle.answer.specs.Tables.{slots, preempts, plan_of}
use Rattle.answer.specs.Promise.{Permitted}
use Rattle.answer.proofs.Tables.{filled_cut}
use Rattle.decimal.proofs.Decimal.{decimal_length}
use Rattle.report.specs.Report.{slots_text, plan_text, report}
use Rattle.output.specs.Output.{longest_startup, longest_cycle, longest_output}
use Rattle.schedule.proofs.Sums.{count_few}
use Rattle.output.proofs.Entries.{table_fits}

-- the printed numbers have at most five digits
record Five (q : Plan) : Type 0 where
  hyperperiod_five : q.hyperperiod < 10 ^ 5
  load_five : q.load < 10 ^ 5
  idle_five : (q.startup_idle < 10 ^ 5) × (q.cycle_idle < 10 ^ 5)
  preemptions_five : (q.startup_preemptions < 10 ^ 5) × (q.cycle_preemptions < 10 ^ 5)

-- line by line
plan_length : (q : Plan) (first again : List ℕ) → Five q →
    length (plan_text q first again) ≤ 9 + 18 + 11 + 17 + 24 + (5 + length (slots_text first)) + (5 + length (slots_text again))
plan_length q first again x =
    simp length-append
    (omega (
      arith,
      decimal_length 4 q.hyperperiod x.hyperperiod_five,
      decimal_length 4 q.load x.load_five,
      decimal_length 4 q.startup_idle x.idle_five.0,
      decimal_length 4 q.cycle_idle x.idle_five.1,
      decimal_length 4 q.startup_preemptions x.preemptions_five.0,
      decimal_length 4 q.cycle_preemptions x.preemptions_five.1,
    ))

module _ (card : Card) (p : Policy) (l : List Task) (startup cycle s c : List ℕ) (n : length startup ≡ longest_startup) (m : length cycle ≡ longest_cycle)
    (q : Plan) (x : Permitted card p l startup cycle (feasible q) s c) where
  ok : Passed l (length startup) (length cycle)
  ok = passed card l (length startup) (length cycle) x.no_refusal

  abbrev lead : ℕ
  lead = latest l + hyperperiod l

  lead_most : lead ≤ longest_startup
  lead_most = omega (arith, ok.startup_fits)

  five : Five (plan_of p l)
  five = record {
    hyperperiod_five = omega (arith, ok.short);
    load_five = omega (arith, x.room, ok.short);
    idle_five = (
      omega (arith, count_few (λ t. is_idle (endless p l t)) 0 lead, lead_most),
      omega (arith, count_few (λ t. is_idle (endless p l t)) lead (hyperperiod l), ok.short),
    );
    preemptions_five = (
      omega (arith, count_few (preempts l (endless p l)) 1 lead, lead_most),
      omega (arith, count_few (preempts l (endless p l)) (suc lead) (hyperperiod l), ok.short),
    );
  }

  first_table : take lead s ≡ slots (endless p l) 0 lead
  first_table = ap (take lead) x.buffers.startup_filled ∙ filled_cut (endless p l) 0 lead startup

  again_table : take (hyperperiod l) c ≡ slots (endless p l) lead (hyperperiod l)
  again_table = ap (take (hyperperiod l)) x.buffers.cycle_filled ∙ filled_cut (endless p l) lead (hyperperiod l) cycle

  pub plan_fits : length (report (feasible q) s c) ≤ longest_output
  plan_fits =
      rw (x.is_plan, first_table, again_table)
      (omega (
        arith,
        plan_length (plan_of p l) (slots (endless p l) 0 lead) (slots (endless p l) lead (hyperperiod l)) five,
        table_fits p l ok.few 0 lead,
        table_fits p l ok.few lead (hyperperiod l),
        lead_most,
        ok.short,
      ))
