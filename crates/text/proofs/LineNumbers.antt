-- The number of a line that can't be read: an input has at most one line more than it has bytes.
use mathlib.Core.Path.{◌≡◌, refl}
use mathlib.Core.Bool.{Bool, true, false}
use mathlib.Core.List.{List, [], ◌∷◌, ◌++◌}
use Prim.Native.Nat.{ℕ, suc, ◌+◌, ◌≤◌}
use native.Mathlib.Omega.{arith}
use lib.Dec.{eqb, ltb}
use lib.ListN.{length}
use borrow.Author.Tests.{ltb-false}
use Rattle.card.specs.declared.Card.{Card}
use Rattle.card.specs.declared.Card.TheVariants.{Wide, Small}
use Rattle.task.specs.declared.Task.{Task}
use Rattle.schedule.specs.declared.Policy.{Policy}
use Rattle.decimal.specs.Bytes.{newline}
use Rattle.std.specs.Prelude.{Option, Some, None}
use Rattle.line.specs.Lines.{begin, parts}
use Rattle.line.specs.Kinds.{first_of, is_card, line_of}
use Rattle.text.specs.Reading.{Reading, unread, most_bytes, with_task, at_end, tasks_on, small_if, card_on, with_policy, lines_of, unless_long, reading}
use Rattle.line.proofs.Parts.{never}

begin_most : (c : Bool) (b : ℕ) (more : List (List ℕ)) → length (begin c b more) ≤ suc (length more)
begin_most true b more = omega arith
begin_most false b [] = omega arith
begin_most false b (part ∷ more) = omega arith

parts_most : (mark : ℕ) (s : List ℕ) → length (parts mark s) ≤ suc (length s)
parts_most mark [] = omega arith
parts_most mark (b ∷ s) = omega (arith, begin_most (eqb b mark) b (parts mark s), parts_most mark s)

-- a line number that is said, if one is, is at most the last
abbrev Most : ℕ → Reading → Type 0
Most last r = (n : ℕ) → r ≡ unread n → n ≤ last

said : (m last : ℕ) → m ≤ last → Most last (unread m)
said m last h n e = let same : m ≡ n = cc in omega arith

end_most : (c : Card) (p : Policy) (l : List Task) (m last : ℕ) (line : List ℕ) → m ≤ last → Most last (at_end c p l m line)
end_most c p l m last [] h = λ n e. never (cc)
end_most c p l m last (b ∷ line) h = said m last h

with_most : (line : Option Task) (m last : ℕ) (rest : Task → Reading) → m ≤ last → ((τ : Task) → Most last (rest τ)) → Most last (with_task line m rest)
with_most None m last rest h more = said m last h
with_most (Some τ) m last rest h more = more τ

tasks_most : (c : Card) (p : Policy) (l : List Task) (m last : ℕ) (line : List ℕ) (lines : List (List ℕ)) → m + length lines ≤ last →
    Most last (tasks_on c p l m (line ∷ lines))
tasks_most c p l m last line [] h = end_most c p l m last line (omega arith)
tasks_most c p l m last line (more ∷ lines) h =
    with_most (line_of line) m last (λ τ. tasks_on c p (l ++ τ ∷ []) (suc m) (more ∷ lines)) (omega arith)
    λ τ. tasks_most c p (l ++ τ ∷ []) (suc m) last more lines (omega arith)

small_most : (is : Bool) (last : ℕ) (small wide : Reading) → Most last small → Most last wide → Most last (small_if is small wide)
small_most true last small wide a b = a
small_most false last small wide a b = b

card_most : (p : Policy) (last : ℕ) (line : List ℕ) (lines : List (List ℕ)) → 2 + length lines ≤ last → Most last (card_on p (line ∷ lines))
card_most p last line [] h = end_most _ p [] 2 last line (omega arith)
card_most p last line (more ∷ lines) h =
    small_most (is_card line) last (tasks_on Small p [] 3 (more ∷ lines)) (tasks_on Wide p [] 2 (line ∷ more ∷ lines))
    (tasks_most Small p [] 3 last more lines (omega arith))
    (tasks_most Wide p [] 2 last line (more ∷ lines) (omega arith))

policy_most : (first : Option Policy) (last : ℕ) (rest : Policy → Reading) → 1 ≤ last → ((p : Policy) → Most last (rest p)) → Most last (with_policy first rest)
policy_most None last rest h more = said 1 last h
policy_most (Some p) last rest h more = more p

lines_most : (lines : List (List ℕ)) (last : ℕ) → 1 ≤ last → length lines ≤ last → Most last (lines_of lines)
lines_most [] last some h = said 1 last some
lines_most (line ∷ []) last some h = said 1 last some
lines_most (line ∷ more ∷ lines) last some h =
    policy_most (first_of line) last (λ p. card_on p (more ∷ lines)) some λ p. card_most p last more lines (omega arith)

unless_most : (long : Bool) (r : Reading) (last : ℕ) → (long ≡ false → Most last r) → Most last (unless_long long r)
unless_most true r last h = said 0 last (omega arith)
unless_most false r last h = h refl

pub unread_most : (input : List ℕ) (n : ℕ) → reading input ≡ unread n → n ≤ suc most_bytes
unread_most input =
    unless_most (ltb most_bytes (length input)) (lines_of (parts newline input)) (suc most_bytes) λ short.
    lines_most (parts newline input) (suc most_bytes) (omega arith) (omega (arith, parts_most newline input, ltb-false most_bytes (length input) short))
