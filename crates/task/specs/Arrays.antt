-- Our own array of tasks: which lists it holds, and what is done to it. Of this file a promise of the checker needs `Holds` alone.
use Rattle.std.specs.Prelude.{◌≡◌, List, ◌++◌, ℕ, suc, ◌-◌, min, length, take, set, replicate}
use Rattle.task.specs.declared.Task.{Task}
use Rattle.task.specs.declared.list.Tasks.{Tasks}
use Rattle.task.specs.Limits.{largest, most_tasks}
use Rattle.task.specs.Tasks.{nobody}

-- an array with a count holds a list: the count is the list's length, and the array begins with as much of the list as it has room for
pub record Holds (ts : Tasks) (l : List Task) : Type 0 where
  pub counted : ts.count ≡ length l
  pub begins : take ts.count ts.items ≡ take most_tasks l

-- the array of a list of n tasks, none of which is in it yet
unfoldable pub blank : ℕ → Tasks
blank n = record { items = replicate most_tasks nobody; count = n }

-- the array that holds the list of no tasks
abbrev pub empty : Tasks
empty = blank 0

-- a task in its place, if the array has one
unfoldable pub stored : Tasks → ℕ → Task → Tasks
stored ts i τ = record { items = set ts.items i τ; count = ts.count }

-- one task more, in its place if the array has one; the largest count that there is stays
abbrev pub added : Tasks → Task → Tasks
added ts τ = record { items = set ts.items ts.count τ; count = min (suc ts.count) largest }

-- the array of a list with the list's first i tasks in it
unfoldable pub copied : List Task → ℕ → Tasks
copied l i = record { items = take i l ++ replicate (most_tasks - i) nobody; count = length l }

-- how many of n tasks the array has room for
abbrev pub fitting : ℕ → ℕ
fitting n = min n most_tasks

-- the array that a list is copied to: its first tasks, as many as there is room for, and its length
abbrev pub array_of : List Task → Tasks
array_of l = copied l (fitting (length l))
