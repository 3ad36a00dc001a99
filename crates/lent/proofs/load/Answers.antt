-- `load` meets its contract: the array begins with the list's first tasks, and has nobody after them.
use Rattle.std.proofs.Common.{◌≡◌, List, ◌++◌, ℕ, length, take, drop}
use Rattle.std.proofs.lemmas.List.{drop-replicate}
use Rattle.task.specs.declared.Task.{Task}
use Rattle.task.specs.declared.list.Tasks.{Tasks}
use Rattle.task.specs.Limits.{most_tasks}
use Rattle.task.specs.Tasks.{nobody}
use Rattle.task.specs.Arrays.{blank, copied, fitting, array_of}
use Rattle.lent.proofs.load.Goals as goal

-- the first n tasks put at once into the array of a list none of whose tasks is in it yet
copied_first : (l : List Task) (ts : Tasks) (n : ℕ) (first : List Task) → ts ≡ blank (length l) → n ≡ fitting (length l) → first ≡ take n l →
    record { items = first ++ drop n ts.items; count = length l } ≡ array_of l
unfolding blank copied
copied_first l ts n first b e h = rw (h, b, e, drop-replicate (fitting (length l)) most_tasks nobody)

pub returns : goal.returns
returns c =
    copied_first c.args.list.now c.sized.result c.room-room.result c.copy_from_slice.new.self c.sized.ensures c.room-room.ensures c.copy_from_slice.ensures.after
