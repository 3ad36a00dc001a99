-- What the reader hands back for a reading: the list in our own array, or the line.
use Rattle.std.specs.Prelude.{Result, Ok, Err}
use Rattle.task.specs.Arrays.{array_of}
use Rattle.text.specs.declared.Listed.{Listed}
use Rattle.text.specs.declared.Unread.{Unread}
use Rattle.text.specs.Reading.{Reading, unread, listed}

abbrev pub held : Reading → Result Listed Unread
held (unread n) = Err (record { line = n })
held (listed c p l) = Ok (record { card = c; policy = p; tasks = array_of l })
