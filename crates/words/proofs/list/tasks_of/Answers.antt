-- `tasks_of` meets its contract: each turn puts one task more, and at the end the array has what it has room for.
use Rattle.std.proofs.Common.{◌≡◌, ◌∙◌, sym, ap, ap₂, List, [], ℕ, ◌/◌, ◌<◌, length, get_or, arith, length-take}
use lib.Seq.{get_or-take}
use Rattle.task.specs.declared.Task.{Task}
use Rattle.task.specs.declared.list.Tasks.{Tasks}
use Rattle.task.specs.Tasks.{task}
use Rattle.task.specs.Arrays.{blank, stored, copied}
use Rattle.task.proofs.Copied.{copied_none, copied_more}
use Rattle.words.specs.Words.{tasks_of}
use Rattle.words.specs.Reading.{task_at}
use Rattle.words.proofs.Reading.{tasks_length, chunk_read}
use Rattle.words.proofs.list.tasks_of.Goals as goal

pub loop-i-init : goal.loop-i-init
loop-i-init c =
    let list = c.args.list.now in
    c.sized-own.ensures ∙ ap blank (c.as_chunks.ensures.front_len ∙ sym (tasks_length list)) ∙ copied_none (tasks_of list)

pub loop-i-preserved : goal.loop-i-preserved
loop-i-preserved c =
    let list = c.args.list.now in
    let chunks = c.as_chunks.result.0.now in
    let room = c.room-room.result in
    let i = c.loop-i.i in
    let b : i < room = omega (arith, length-take room chunks) in
    let n : length chunks ≡ length list / 4 = c.as_chunks.ensures.front_len in
    let e : c.task_of.result ≡ task (tasks_of list) i =
    c.task_of.ensures
    ∙ ap (λ (ws : List ℕ). task_at ws 0) (get_or-take room chunks i [] b ∙ ap (λ (ws : List (List ℕ)). get_or ws i []) c.as_chunks.ensures.front)
    ∙ chunk_read (length list / 4) list i [] (omega arith) (omega arith) in
    c.put-own.ensures ∙ ap₂ (λ (ts : Tasks) (τ : Task). stored ts i τ) c.loop-i.invariant e ∙ copied_more (tasks_of list) i (omega (arith, tasks_length list))

pub returns : goal.returns
returns c =
    let list = c.args.list.now in
    let chunks = c.as_chunks.result.0.now in
    let n : length chunks ≡ length list / 4 = c.as_chunks.ensures.front_len in
    c.loop-i.invariant ∙ ap (copied (tasks_of list)) (omega (arith, tasks_length list, length-take c.room-room.result chunks))
