-- `measure::latest` meets its contract: the largest of the offsets, or 0 where there is none.
use Rattle.std.proofs.Common.{ℕ, rules, tests, ap, ◌∙◌}
use Rattle.std.proofs.lemmas.Iterator.{YieldsList-from_slice, YieldsList-from_map}
use Rattle.std.proofs.lemmas.Iterator.Consumers.{reduce_from_yields_List}
use Rattle.std.proofs.lemmas.List.Folds.{max_of_map}
use Rattle.std.specs.Option.{unwrap_or}
use Rattle.task.specs.declared.Task.{Task}
use Rattle.admission.proofs.Listed.{latest_fold}
use Rattle.admission.proofs.measure.latest.Goals as goal

abbrev offset_of : Task → ℕ
offset_of τ = τ.offset

pub returns : goal.returns
returns c =
    let l = c.args.tasks.now in
    c.unwrap_or.ensures
    ∙ ap (λ o. unwrap_or o 0) (reduce_from_yields_List _ c.map.result _ c.max.ensures.ran (YieldsList-from_map _ offset_of (YieldsList-from_slice l cc) c.map.ensures.closure (λ x b q k. search (rules, tests))))
    ∙ max_of_map offset_of l
    ∙ latest_fold l
