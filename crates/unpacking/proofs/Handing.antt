-- A plan that is handed over, or a buffer that is too short for it.
use mathlib.Core.Path.{◌≡◌, refl, ◌∙◌}
use mathlib.Core.Bool.{true, false, ◌||◌, or-true}
use mathlib.Core.List.{List}
use Prim.Native.Nat.{ℕ, ◌+◌, ◌/◌, ◌-◌, ◌≤◌, ◌<◌}
use native.Mathlib.Omega.{arith}
use lib.Dec.{ltb}
use lib.ListN.{length, take, drop, length-take, length-drop}
use borrow.Author.Tests.{lt-ltb, le-ltb}
use Rattle.std.specs.Prelude.{Err}
use Rattle.format.specs.Newest.{plan, startup_length, cycle_length, covered, carried, is_damaged, block_count, plan_before, newest_of}
use Rattle.unpacking.specs.declared.NoPlan.TheVariants.{Short}
use Rattle.unpacking.specs.Unpacking.{ReadOff}
use Rattle.unpacking.proofs.Damaged.{covered_length}

-- a startup entries and b cycle entries, of those that are carried
module _ (startup cycle all : List ℕ) (a b : ℕ) (enough : a + b ≤ length all) where
  short : (ltb (length startup) (length (take a all)) || ltb (length cycle) (length (take b (drop a all)))) ≡ true
      → ReadOff startup cycle (Err Short) startup cycle (plan (take a all) (take b (drop a all)))
  short e = rw e (record { is_number = refl; startup_unchanged = refl; cycle_unchanged = refl })

  pub short_startup : length startup < a → ReadOff startup cycle (Err Short) startup cycle (plan (take a all) (take b (drop a all)))
  short_startup h = short (rw (lt-ltb (length startup) (length (take a all)) (omega (arith, length-take a all))))

  pub short_cycle : length cycle < b → ReadOff startup cycle (Err Short) startup cycle (plan (take a all) (take b (drop a all)))
  short_cycle h =
      short
      (rw (lt-ltb (length cycle) (length (take b (drop a all))) (omega (arith, length-take b (drop a all), length-drop a all)))
      (or-true (ltb (length startup) (length (take a all)))))

-- the plan that the blocks carry, where the trailer is not refused
found : (before trailer blocks : List ℕ) (a b : ℕ) → is_damaged before trailer ≡ false → blocks ≡ covered before trailer
    → a ≡ startup_length trailer → b ≡ cycle_length trailer
    → plan (take a (carried (length blocks / 64) blocks)) (take b (drop a (carried (length blocks / 64) blocks))) ≡ plan_before before trailer
found before trailer blocks a b fine is-blocks is-a is-b =
    let n : length (covered before trailer) / 64 ≡ block_count trailer = omega (arith, covered_length before trailer fine) in
    rw (is-blocks, n, is-a, is-b, fine)

-- the last block of a log is its trailer
last : (log before trailer : List ℕ) → 64 ≤ length log → before ≡ take (length log - 64) log → trailer ≡ drop (length log - 64) log
    → plan_before before trailer ≡ newest_of log
last log before trailer some is-before is-trailer = rw (is-before, is-trailer, le-ltb (length log) 64 some)

pub read_off : (log before trailer blocks : List ℕ) (a b : ℕ) → (before ≡ take (length log - 64) log) × (trailer ≡ drop (length log - 64) log) × (length before + 64 ≡ length log)
    → (is_damaged before trailer ≡ false) × (blocks ≡ covered before trailer) × (a ≡ startup_length trailer) × (b ≡ cycle_length trailer)
    → plan (take a (carried (length blocks / 64) blocks)) (take b (drop a (carried (length blocks / 64) blocks))) ≡ newest_of log
read_off log before trailer blocks a b parts fine =
    found before trailer blocks a b fine.0 fine.1 fine.2 fine.3 ∙ last log before trailer (omega (arith, parts.2)) parts.0 parts.1
