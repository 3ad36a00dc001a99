-- What the reader hands back, as a reading again.
use mathlib.Core.Path.{◌≡◌, sym, ap}
use mathlib.Core.List.{List}
use Rattle.std.specs.Prelude.{Ok, Err}
use Rattle.task.specs.declared.Task.{Task}
use Rattle.task.specs.Arrays.{Holds, array_of}
use Rattle.task.proofs.Copied.{held_array}
use Rattle.text.specs.declared.Listed.{Listed}
use Rattle.text.specs.declared.Unread.{Unread}
use Rattle.text.specs.Held.{held}
use Rattle.text.specs.Reading.{Reading, unread, listed}
use Rattle.line.proofs.Parts.{never}

pub told_unread : (r : Reading) (u : Unread) → Err u ≡ held r → r ≡ unread u.line
told_unread (unread n) u e =
    let f : ◌≡◌ {A = Unread} u (record { line = n }) = cc in
    ap (λ (v : Unread). unread v.line) (sym f)
told_unread (listed c p l) u e = never (cc)

pub told_listed : (r : Reading) (x : Listed) → Ok x ≡ held r → (l : List Task) × (r ≡ listed x.card x.policy l) × Holds x.tasks l
told_listed (unread n) x e = never (cc)
told_listed (listed c p l) x e =
    let f : ◌≡◌ {A = Listed} x (record { card = c; policy = p; tasks = array_of l }) = cc in
    let tasks : x.tasks ≡ array_of l = ap (λ (y : Listed). y.tasks) f in
    (l, ap (λ (y : Listed). listed y.card y.policy l) (sym f), rw tasks (held_array l))
