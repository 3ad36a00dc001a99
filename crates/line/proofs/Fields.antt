-- A line's fields, one after the other: what each call of `number_after` says of those that are left.
use mathlib.Core.Path.{◌≡◌, refl, ◌∙◌}
use mathlib.Core.Bool.{true, false}
use mathlib.Core.List.{List}
use Prim.Native.Nat.{ℕ, suc, ◌+◌, ◌-◌, ◌≤◌, ◌<◌}
use native.Mathlib.Omega.{arith}
use native.Mathlib.Decide.{dec_lt}
use native.Mathlib.Numerals.{add-one}
use lib.ListN.{length, take, drop}
use lib.Seq.{drop-drop}
use borrow.Author.Tests.{lt-ltb, le-ltb}
use Rattle.decimal.specs.Bytes.{bytes, space}
use Rattle.task.specs.declared.Task.{Task}
use Rattle.task.specs.Tasks.{task_of}
use Rattle.std.specs.Prelude.{Option, Some, None}
use Rattle.line.specs.declared.field.Field.{Field}
use Rattle.line.specs.Lines.{same, number_of}
use Rattle.line.specs.Places.{until, ends_at, field_from, field_at}
use Rattle.line.specs.Kinds.{with_number, next, last, line_of}
use Rattle.line.proofs.Places.{rest_is, behind, parts_until, behind_none, behind_mark}

pub field_none : (line : List ℕ) (at : ℕ) → length line ≤ at → field_at line at ≡ None
field_none line at h = rw (le-ltb at (length line) h)

pub field_some : (line : List ℕ) (at : ℕ) → at < length line → field_at line at ≡ field_from (drop (suc at) line) (suc at)
field_some line at h = rw (lt-ltb at (length line) h)

-- the field at `at` by the number that stands there; the code's `rest` begins at `at + 1`
pub field_is : (line : List ℕ) (at n : ℕ) (v : Option ℕ) → at < length line
    → n ≡ until space (take (length line - (at + 1)) (drop (at + 1) line))
    → v ≡ number_of (take n (take (length line - (at + 1)) (drop (at + 1) line)))
    → field_at line at ≡ ends_at v (at + 1 + n)
field_is line at n v h is-n is-v = field_some line at h ∙ rw (is-v, is-n, rest_is line (at + 1), add-one)

abbrev pub by_field : Option Field → (ℕ → ℕ → Option Task) → Option Task
by_field None rest = None
by_field (Some f) rest = rest f.number f.end

-- the next field of those that are left at `at` is the one that is found there
pub next_field : (line : List ℕ) (at : ℕ) (rest : ℕ → List (List ℕ) → Option Task)
    → next (behind space (drop at line)) rest ≡ by_field (field_at line at) (λ v end. rest v (behind space (drop end line)))
next_field line at rest = elim (dec_lt at (length line)) [
  | yes h ↦
      let s = drop (suc at) line in
      let n = until space s in
      let e : drop n s ≡ drop (suc at + n) line = drop-drop n (suc at) line in
      rw (behind_mark space line at h, parts_until space s, field_some line at h, e) (by_number (number_of (take n s)) (suc at + n))
  | no h ↦ rw (behind_none space line at (omega arith), field_none line at (omega arith))
]
  where
    by_number : (v : Option ℕ) (end : ℕ)
        → with_number v (λ v. rest v (behind space (drop end line))) ≡ by_field (ends_at v end) (λ v end. rest v (behind space (drop end line)))
    by_number None end = refl
    by_number (Some v) end = refl

-- what a line says after its first numbers, from the place where the last of them ends
abbrev pub ended : List ℕ → ℕ → ℕ → ℕ → ℕ → ℕ → Option Task
ended line O C D T at = last (task_of O C D T) (behind space (drop at line))

abbrev pub period_on : List ℕ → ℕ → ℕ → ℕ → ℕ → Option Task
period_on line O C D at = by_field (field_at line at) (ended line O C D)

abbrev pub deadline_on : List ℕ → ℕ → ℕ → ℕ → Option Task
deadline_on line O C at = by_field (field_at line at) (period_on line O C)

abbrev pub run_on : List ℕ → ℕ → ℕ → Option Task
run_on line O at = by_field (field_at line at) (deadline_on line O)

-- a line that begins with `task`, field by field
pub line_fields : (line : List ℕ) (w : ℕ) → w ≡ until space line → same (take w line) (bytes "task") ≡ true → line_of line ≡ by_field (field_at line w) (run_on line)
line_fields line w is-w e = rw (parts_until space line, ← is-w, e) (simp next_field)

pub line_not : (line : List ℕ) (w : ℕ) → w ≡ until space line → same (take w line) (bytes "task") ≡ false → line_of line ≡ None
line_not line w is-w e = rw (parts_until space line, ← is-w, e)

-- after each number that was found: what the line says, by the fields that are left, or nothing where the next is no number
module _ (line : List ℕ) (w : ℕ) (is-w : w ≡ until space line) (is-task : same (take w line) (bytes "task") ≡ true) where
  pub no_offset : None ≡ field_at line w → line_of line ≡ None
  no_offset e = rw (line_fields line w is-w is-task, ← e)

  module _ (o : Field) (offset : Some o ≡ field_at line w) where
    offset_read : line_of line ≡ run_on line o.number o.end
    offset_read = rw (line_fields line w is-w is-task, ← offset)

    pub no_run : None ≡ field_at line o.end → line_of line ≡ None
    no_run e = rw (offset_read, ← e)

    module _ (c : Field) (is-run : Some c ≡ field_at line o.end) where
      run_read : line_of line ≡ deadline_on line o.number c.number c.end
      run_read = rw (offset_read, ← is-run)

      pub no_deadline : None ≡ field_at line c.end → line_of line ≡ None
      no_deadline e = rw (run_read, ← e)

      module _ (d : Field) (deadline : Some d ≡ field_at line c.end) where
        deadline_read : line_of line ≡ period_on line o.number c.number d.number d.end
        deadline_read = rw (run_read, ← deadline)

        pub no_period : None ≡ field_at line d.end → line_of line ≡ None
        no_period e = rw (deadline_read, ← e)

        pub period_read : (t : Field) → Some t ≡ field_at line d.end → line_of line ≡ ended line o.number c.number d.number t.number t.end
        period_read t e = rw (deadline_read, ← e)

-- after the last number the line ends, or there is one field more
pub last_none : (τ : Task) (line : List ℕ) (at : ℕ) → length line ≤ at → last τ (behind space (drop at line)) ≡ Some τ
last_none τ line at h = rw (behind_none space line at h)

pub last_more : (τ : Task) (line : List ℕ) (at : ℕ) → at < length line → last τ (behind space (drop at line)) ≡ None
last_more τ line at h = rw (behind_mark space line at h, parts_until space (drop (suc at) line))
