-- Whatever byte the power fails after, nothing is lost.
use mathlib.Core.Path.{◌≡◌, refl, sym, ◌∙◌, ap}
use mathlib.Core.Bool.{Bool, true, false, cond, ◌||◌}
use mathlib.Core.List.{List, ◌++◌}
use Prim.Native.Nat.{ℕ, ◌+◌, ◌-◌, ◌%◌, ◌≤◌}
use native.Mathlib.Nat.{add-sub_of_le}
use native.Mathlib.Omega.{arith}
use lib.Dec.{ltb}
use lib.ListN.{length, take, drop, length-append, length-drop}
use lib.Seq.{take-append-le, take-append-add, take_at}
use borrow.Author.Tests.{ltb-false}
use Rattle.format.specs.Blocks.{plan_bytes}
use Rattle.format.specs.Newest.{plan, kept, newest_of, newest}
use Rattle.format.proofs.CutBack.{kept_length, start_front, start_fits}
use Rattle.format.proofs.PowerCut.{bytes_length, kept_torn_plan, newest_plan}
use Rattle.std.specs.Prelude.{Ok}
use Rattle.std.proofs.lemmas.Bool.{or_parts}
use Rattle.packing.specs.Packing.{end, unfit, IsRefused, IsAppended}
use Rattle.plan_log.specs.Log.{start, AppendedAs}
use Rattle.plan_log.specs.PowerCut.{IsTorn, Survives}

module _ (log : List ℕ) (used : ℕ) (startup cycle : List ℕ) (n : ℕ) (after : List ℕ) where
  -- where bytes used are answered, the plan fits and is there
  is_appended : AppendedAs log used startup cycle (Ok n) after
      → (unfit log (start log used) startup cycle ≡ false) × IsAppended log (start log used) startup cycle (Ok n) after
  is_appended = go (unfit log (start log used) startup cycle)
    where
      go : (b : Bool) → cond b (IsRefused log (start log used) startup cycle (Ok n) after) (IsAppended log (start log used) startup cycle (Ok n) after)
          → (b ≡ false) × IsAppended log (start log used) startup cycle (Ok n) after
      go true x = let z : ◌≡◌ {A = ℕ} 0 1 = cc x.is_number in absurd (omega arith)
      go false x = (refl, x)

  module _ (fits : unfit log (start log used) startup cycle ≡ false) (x : IsAppended log (start log used) startup cycle (Ok n) after) where
    abbrev front : List ℕ
    front = kept (take used log)

    abbrev bytes : List ℕ
    bytes = plan_bytes startup cycle

    front_is : take (start log used) log ≡ front
    front_is = start_front log used

    is_left : after ≡ front ++ bytes ++ drop (end log (start log used) startup cycle) log
    is_left =
        x.log_left ∙ ap (λ (l : List ℕ). l ++ bytes ++ drop (end log (start log used) startup cycle) log) front_is

    is_end : n ≡ length front + length bytes
    is_end = cc x.is_used

    enough : length bytes ≤ length log - length front
    enough =
        let a : Bool = ltb (length log - length front) (length bytes) in
        let b : Bool = ltb 65535 (length startup) in
        ltb-false (length log - length front) (length bytes) (or_parts a b (or_parts (a || b) (ltb 65535 (length cycle)) fits).0).0

    same_length : length after ≡ length log
    same_length =
        ap length is_left
        ∙ length-append (front ++ bytes) (drop (end log (start log used) startup cycle) log)
        ∙ omega (arith, enough, start_fits log used, length-append front bytes, length-drop (end log (start log used) startup cycle) log)

    whole_bytes : take n after ≡ front ++ bytes
    whole_bytes =
        ap (take n) is_left
        ∙ take_at (front ++ bytes) (drop (end log (start log used) startup cycle) log) n (length-append front bytes ∙ sym is_end)

    torn_bytes : (j : ℕ) → IsTorn log used n j → take j after ≡ front ++ take (j - length front) bytes
    torn_bytes j t =
        let e : length front + (j - length front) ≡ j = add-sub_of_le t.begun in
        ap (take j) is_left
        ∙ take-append-le j (front ++ bytes) (drop (end log (start log used) startup cycle) log) (omega (arith, t.not_whole, is_end, length-append front bytes))
        ∙ ap (λ (k : ℕ). take k (front ++ bytes)) (sym e)
        ∙ take-append-add front bytes (j - length front)

    kept_torn : (j : ℕ) → IsTorn log used n j → kept (take j after) ≡ front
    kept_torn j t =
        ap kept (torn_bytes j t)
        ∙ kept_torn_plan (take used log) startup cycle (j - length front) (omega (arith, t.begun, t.not_whole, is_end))

-- after an append the bytes used are whole blocks
pub used_blocks : (log : List ℕ) (used : ℕ) (startup cycle : List ℕ) (n : ℕ) (after : List ℕ)
    → AppendedAs log used startup cycle (Ok n) after → n % 64 ≡ 0
used_blocks log used startup cycle n after h =
    let x = is_appended log used startup cycle n after h in
    omega (arith, is_end log used startup cycle n after x.0 x.1, kept_length (take used log), bytes_length startup cycle)

appended_newest : (log : List ℕ) (used : ℕ) (startup cycle : List ℕ) (n : ℕ) (after : List ℕ)
    → AppendedAs log used startup cycle (Ok n) after → newest (take n after) ≡ plan startup cycle
appended_newest log used startup cycle n after h =
    let x = is_appended log used startup cycle n after h in
    ap newest (whole_bytes log used startup cycle n after x.0 x.1) ∙ newest_plan (take used log) startup cycle

pub nothing_lost : Survives
nothing_lost log used startup cycle n after h =
    let x = is_appended log used startup cycle n after h in
    let cut = kept_torn log used startup cycle n after x.0 x.1 in
    record {
      torn = λ j t. ap newest_of (cut j t);
      whole = appended_newest log used startup cycle n after h;
      room = λ j t s c. rw (same_length log used startup cycle n after x.0 x.1, cut j t);
      again = λ j t s c m left. appended_newest after j s c m left;
    }
