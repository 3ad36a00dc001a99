-- The lines of a text: the card's, and the tasks' one after the other, with what the loop knows at each.
use mathlib.Core.Path.{◌≡◌, refl, ◌∙◌, ap, subst}
use mathlib.Core.Bool.{Bool, true, false}
use mathlib.Core.List.{List, [], ◌∷◌, ◌++◌}
use Prim.Native.Nat.{ℕ, suc, ◌+◌, ◌-◌, ◌≤◌, ◌<◌}
use native.Mathlib.Omega.{arith}
use native.Mathlib.Numerals.{add-one}
use native.Mathlib.Decide.{dec_lt}
use borrow.Author.Tests.{eqb-true, eq-eqb}
use lib.Dec.{eqb}
use lib.ListN.{length, take, drop, length-append}
use lib.Seq.{take_all}
use denote.Ref.{Bor}
use denote.Param.Members.{Mut}
use Rattle.std.specs.Fn.{ComputesKey, CalledAt}
use Rattle.std.proofs.lemmas.Fn.{always_returns_same}
use Rattle.std.proofs.Common.{min, ◌≢◌, append_assoc, Option, MatchOption}
use Rattle.std.specs.Cmp.Lexicographic.{pointwise}
use Rattle.std.proofs.lemmas.Slice.Eq.{strip_suffix_is}
use Rattle.std.proofs.lemmas.Grind.{common_steps}
use Rattle.std.specs.List.{All, IsFirstMatchOrLen}
use Rattle.card.specs.declared.Card.{Card}
use Rattle.card.specs.declared.Card.TheVariants.{Wide, Small}
use Rattle.task.specs.declared.Task.{Task}
use Rattle.task.specs.declared.list.Tasks.{Tasks}
use Rattle.task.specs.Limits.{largest}
use Rattle.task.specs.Arrays.{empty, added, array_of}
use Rattle.task.proofs.Copied.{array_none, array_with}
use Rattle.schedule.specs.declared.Policy.{Policy}
use Rattle.decimal.specs.Bytes.{newline}
use Rattle.std.specs.Prelude.{Some, None}
use Rattle.line.specs.Lines.{parts}
use Rattle.line.specs.Places.{until}
use Rattle.line.specs.Kinds.{line_of, is_card, first_of}
use Rattle.text.specs.Reading.{unread, with_task, at_end, tasks_on, card_on, lines_of}
use Rattle.line.proofs.Parts.{Without, parts_none, parts_mark}
use Rattle.line.proofs.Places.{rest_is, behind, parts_until, behind_none, behind_mark}

-- the first line, which ends at the first newline or at the end, and the lines after it
module _ (s : List ℕ) (end : ℕ) (is_end : end ≡ until newline s) where
  by_end : parts newline s ≡ take end s ∷ behind newline (drop end s)
  by_end = rw (parts_until newline s, ← is_end)

  -- no newline is left
  pub by_torn : length s ≤ end → parts newline s ≡ s ∷ []
  by_torn h = rw (by_end, behind_none newline s end h, take_all end s h)

  -- what is left after it is as the code has it
  abbrev pub after : List ℕ
  after = take (length s - (end + 1)) (drop (end + 1) s)

  pub by_line : end < length s → parts newline s ≡ take end s ∷ parts newline after
  by_line h = rw (by_end, behind_mark newline s end h, rest_is, add-one)

-- what comes next when a text is cut behind its newlines: up to the first, with it, or else to the end
pub record Piece (s x after : List ℕ) : Type 0 where
  pub cut : s ≡ x ++ after
  pub place : ℕ
  pub size : length x ≡ min (place + 1) (length s)
  pub first : IsFirstMatchOrLen (λ b. eqb b newline) s place
  pub some : 0 < length s

-- as the library's iterator gives it
pub piece : {F : Type 0} {g : Mut F (Bor ℕ × Unit {0}) Bool} {f f' : F} {s x after : List ℕ}
    → ((b : ℕ) (r : Bool) (q : F) → CalledAt g f b r q → (q ≡ f) × (r ≡ eqb b newline))
    → (s ≡ x ++ after) × ((i : ℕ) × (length x ≡ min (i + 1) (length s)) × ((p : ℕ → Bool) → ComputesKey g p f → ComputesKey g p f' × IsFirstMatchOrLen p s i)) × (0 < length s)
    → Piece s x after
piece {g} {f} tests (cut, (place, size, first), some) =
    let computes = always_returns_same g (λ a r. r ≡ eqb a.0.now newline) f λ a r q k. let m = tests a.0.now r q (record { shown = a.0; shows = refl; called = k }) in (m.1, m.0) in
    record { cut = cut; place = place; size = size; first = (first (λ b. eqb b newline) computes).1; some = some }

-- what the library strips of its newline, and what has none
abbrev pub Stripped : List ℕ → Option (Bor (List ℕ)) → Type 0
Stripped x r =
    MatchOption r (pointwise eqb (drop (length x - 1) x) (newline ∷ []) ≡ false)
    (λ line. (pointwise eqb (drop (length x - 1) x) (newline ∷ []) ≡ true) × (line.now ≡ take (length x - 1) x) × (length line.now + 1 ≡ length x))

module _ (x : List ℕ) (r : Option (Bor (List ℕ))) (stripped : Stripped x r) where
  pub ends_with : (line : Bor (List ℕ)) → r ≡ Some line → x ≡ line.now ++ newline ∷ []
  ends_with line e = strip_suffix_is (λ a b. (eqb-true a b, eq-eqb a b)) x (newline ∷ []) (Some line) (subst (Stripped x) e stripped)

  pub ends_without : r ≡ None → (front : List ℕ) → x ≢ front ++ newline ∷ []
  ends_without e = strip_suffix_is (λ a b. (eqb-true a b, eq-eqb a b)) x (newline ∷ []) None (subst (Stripped x) e stripped)

without : (line : List ℕ) → All (λ b. eqb b newline ≡ false) line → Without newline line
without [] h = refl
without (b ∷ line) h = rw (h 0 0 (omega arith)) (without line (λ k d i. h (suc k) d (omega arith)))

-- a piece that ends with a newline is a line, and the lines after it follow
piece_whole : {s x after : List ℕ} (piece : Piece s x after) (line : List ℕ) → x ≡ line ++ newline ∷ [] → parts newline s ≡ line ∷ parts newline after
piece_whole {s} {x} {after} piece line e =
    let cut : s ≡ line ++ newline ∷ after = rw (piece.cut, e, append_assoc) in
    let size : length line < length x = rw (e, length-append) (omega arith) in
    rw cut (parts_mark newline line after (without line λ k d i.
    let none = piece.first.0 k d (omega arith) (omega (arith, piece.size)) in
    grind (arith, common_steps)))

-- and one that doesn't is the whole text
piece_torn : {s x after : List ℕ} (piece : Piece s x after) → ((front : List ℕ) → x ≢ front ++ newline ∷ []) → parts newline s ≡ s ∷ []
piece_torn {s} {x} {after} piece torn = elim (dec_lt piece.place (length s)) [
  | yes h ↦ absurd (torn (take piece.place x) (let e = eqb-true _ _ (piece.first.1 h 0) in let cut = piece.cut in let size = piece.size in grind (arith, common_steps)))
  | no h ↦ parts_none newline s (without s λ k d i. piece.first.0 k d (omega arith) (omega arith))
]

some_end : (c : Card) (p : Policy) (l : List Task) (n : ℕ) (s : List ℕ) → 0 < length s → at_end c p l n s ≡ unread n
some_end c p l n [] h = absurd (omega arith)
some_end c p l n (b ∷ s) h = refl

pub tasks_torn : (c : Card) (p : Policy) (l : List Task) (n : ℕ) (s x after : List ℕ) → Piece s x after → ((front : List ℕ) → x ≢ front ++ newline ∷ [])
    → tasks_on c p l n (parts newline s) ≡ unread n
tasks_torn c p l n s x after piece torn = rw (piece_torn piece torn) (some_end c p l n s piece.some)

-- a line after the policy that is no card line is the first of the tasks
pub no_card : (p : Policy) (line : List ℕ) (lines : List (List ℕ)) → is_card line ≡ false → card_on p (line ∷ lines) ≡ tasks_on Wide p [] 2 (line ∷ lines)
no_card p line [] e = refl
no_card p line (more ∷ lines) e = rw e

module _ (c : Card) (p : Policy) (l : List Task) (n : ℕ) (s : List ℕ) where
  -- a whole line, and the lines after it: there is always a part after a newline
  module _ (line rest : List ℕ) (whole : parts newline s ≡ line ∷ parts newline rest) where
    tasks_line : tasks_on c p l n (parts newline s) ≡ with_task (line_of line) n λ τ. tasks_on c p (l ++ τ ∷ []) (suc n) (parts newline rest)
    tasks_line = rw (whole, parts_until newline rest)

    tasks_not : None ≡ line_of line → tasks_on c p l n (parts newline s) ≡ unread n
    tasks_not e = rw (tasks_line, ← e)

    tasks_next : (τ : Task) → Some τ ≡ line_of line → tasks_on c p l n (parts newline s) ≡ tasks_on c p (l ++ τ ∷ []) (suc n) (parts newline rest)
    tasks_next τ e = rw (tasks_line, ← e)

pub piece_not : (c : Card) (p : Policy) (l : List Task) (n : ℕ) (s x after : List ℕ) → Piece s x after → (line : List ℕ) → x ≡ line ++ newline ∷ [] → None ≡ line_of line
    → tasks_on c p l n (parts newline s) ≡ unread n
piece_not c p l n s x after piece line whole e = tasks_not c p l n s line after (piece_whole piece line whole) e

pub card_small : (p : Policy) (s line rest : List ℕ) → parts newline s ≡ line ∷ parts newline rest → is_card line ≡ true
    → card_on p (parts newline s) ≡ tasks_on Small p [] 3 (parts newline rest)
card_small p s line rest whole e = rw (whole, parts_until newline rest, e)

-- what the loop over the lines keeps: the tasks so far, and that reading goes on with what is left
pub record Reads (s : List ℕ) (c : Card) (p : Policy) (first : ℕ) (rest : List ℕ) (n : ℕ) (own : Tasks) : Type 0 where
  pub so_far : List Task
  pub few : length so_far + length rest ≤ length s
  pub lines : n + length rest ≤ first + length s
  pub held : own ≡ array_of so_far
  pub goes_on : tasks_on c p [] first (parts newline s) ≡ tasks_on c p so_far n (parts newline rest)

pub begun : (s rest : List ℕ) (c : Card) (p : Policy) (first n : ℕ) (own : Tasks) → rest ≡ s → n ≡ first → own ≡ empty → Reads s c p first rest n own
begun s rest c p first n own is_rest is_n e =
    rw (is_rest, is_n) record { so_far = []; few = omega arith; lines = omega arith; held = e ∙ array_none; goes_on = refl }

-- one line more was a task
pub one_more : {s rest x after : List ℕ} {c : Card} {p : Policy} {first n m : ℕ} {own : Tasks} (so : Reads s c p first rest n own)
    → length s < largest
    → Piece rest x after
    → (line : List ℕ) → x ≡ line ++ newline ∷ []
    → (τ : Task) → Some τ ≡ line_of line
    → (more : Tasks) → more ≡ added own τ
    → m ≡ suc n
    → Reads s c p first after m more
one_more {rest} {x} {after} {c} {p} {n} so small piece line whole τ task more is-more is-m =
    let shorter : length after < length rest = rw (piece.cut, whole, length-append, length-append) (omega arith) in
    rw is-m record {
      so_far = so.so_far ++ τ ∷ [];
      few = rw length-append (omega (arith, so.few));
      lines = omega (arith, so.lines);
      held = is-more ∙ ap (λ (ts : Tasks). added ts τ) so.held ∙ array_with so.so_far τ (omega (arith, so.few));
      goes_on = so.goes_on ∙ tasks_next c p so.so_far n rest line after (piece_whole piece line whole) τ task;
    }

pub lines_next : (s line rest : List ℕ) → parts newline s ≡ line ∷ parts newline rest → (p : Policy) → Some p ≡ first_of line
    → lines_of (parts newline s) ≡ card_on p (parts newline rest)
lines_next s line rest whole p e = rw (whole, parts_until newline rest, ← e)
