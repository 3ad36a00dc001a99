-- A card and a policy named by two numbers, and one task, read off its four words: for the contracts of the functions that read them. No promise needs them.
use Rattle.std.specs.Prelude.{cond, List, ℕ, ◌+◌, ◌*◌, get_or, Option, Some, None}
use Rattle.card.specs.declared.Card.{Card}
use Rattle.task.specs.declared.Task.{Task}
use Rattle.task.specs.Tasks.{task_of}
use Rattle.schedule.specs.declared.Policy.{Policy}
use Rattle.words.specs.Words.{card_of, policy_of, task_words, unnamed}

abbrev pub named : ℕ → ℕ → Option (Card × Policy)
named card policy = cond (unnamed card policy) None (Some (card_of card, policy_of policy))

abbrev pub task_at : List ℕ → ℕ → Task
task_at words i =
    task_of (get_or words (task_words * i) 0) (get_or words (task_words * i + 1) 0) (get_or words (task_words * i + 2) 0) (get_or words (task_words * i + 3) 0)
