-- A plan in the log: whole it is the newest, and short of that it is as if nothing had been written.
use mathlib.Core.Path.{◌≡◌, refl, sym, ◌∙◌, ap}
use mathlib.Core.Bool.{false, not}
use mathlib.Core.List.{List, [], ◌++◌, append_assoc, append-nil}
use Prim.Native.Nat.{ℕ, suc, ◌+◌, ◌-◌, ◌*◌, ◌/◌, ◌%◌, ◌<◌}
use native.Mathlib.Omega.{arith}
use lib.Dec.{eqb}
use lib.ListN.{length, take, drop, get_or, replicate, length-append}
use lib.Seq.{take_all, length-take-le, take_at, drop_at, get_or-take, get_or-append-add}
use borrow.Author.Tests.{eq-eqb, le-ltb}
use Rattle.format.specs.Blocks.{plan_blocks, blocks_for, trailer, plan_bytes}
use Rattle.format.specs.Newest.{plan, block_count, startup_length, cycle_length, entries_length, wrong_count, before_start, covered, entries, other_kind, nonzero_pad, is_damaged, plan_before, newest_of, newest, whole_blocks, kept, all_plan, all_zero, carried}
use Rattle.format.proofs.Lists.{zeros_zero}
use Rattle.format.proofs.CutBack.{kept_torn, kept_whole}
use Rattle.format.proofs.Carried.{blocks_length, blocks_kind, blocks_plan, blocks_carried}

-- a log that ends with a trailer is read off it
newest_of_lem : (before trailer : List ℕ) → length trailer ≡ 64 → newest_of (before ++ trailer) ≡ plan_before before trailer
newest_of_lem before last e =
    let long : length (before ++ last) ≡ length before + 64 = length-append before last ∙ ap (λ (k : ℕ). length before + k) e in
    let n : length (before ++ last) - 64 ≡ length before = omega (arith, long) in
    rw (le-ltb (length (before ++ last)) 64 (omega (arith, long)), n, take_at before last (length before) refl, drop_at before last (length before) refl)

-- a number is its low byte and its high byte
two_bytes_lem : (n : ℕ) → n % 256 + 256 * (n / 256) ≡ n
two_bytes_lem n = omega arith

module _ (startup cycle : List ℕ) where
  abbrev sum : ℕ
  sum = length startup + length cycle

  abbrev count : ℕ
  count = blocks_for sum

  abbrev blocks : List ℕ
  blocks = plan_blocks count (startup ++ cycle)

  abbrev last : List ℕ
  last = trailer count (length startup) (length cycle)

  last_length : length last ≡ 64
  last_length = refl

  pub bytes_length : length (plan_bytes startup cycle) ≡ 64 * suc count
  bytes_length = length-append blocks last ∙ omega (arith, blocks_length count (startup ++ cycle))

  last_kind : get_or (plan_bytes startup cycle) (64 * count) 0 ≡ 2
  last_kind =
      let e : 64 * count ≡ length blocks + 0 = omega (arith, blocks_length count (startup ++ cycle)) in
      ap (λ (k : ℕ). get_or (blocks ++ last) k 0) e ∙ get_or-append-add blocks last 0 0

  -- a front of a plan that is not the whole has no whole trailer
  torn_kinds : (j i : ℕ) → j < length (plan_bytes startup cycle) → i < whole_blocks (take j (plan_bytes startup cycle))
      → eqb (get_or (take j (plan_bytes startup cycle)) (64 * i) 0) 2 ≡ false
  torn_kinds j i h q =
      let short : length (take j (plan_bytes startup cycle)) ≡ j = length-take-le j (plan_bytes startup cycle) (omega arith) in
      let e : get_or (take j (plan_bytes startup cycle)) (64 * i) 0 ≡ 1 =
      get_or-take j (plan_bytes startup cycle) (64 * i) 0 (omega (arith, short, q))
      ∙ blocks_kind count (startup ++ cycle) last i (omega (arith, short, q, h, bytes_length)) in
      rw e

  -- the plan after a log that has been cut back
  module _ (start : List ℕ) where
    covers : covered (start ++ blocks) last ≡ blocks
    covers =
        let n : length (start ++ blocks) - 64 * block_count last ≡ length start =
        omega (arith, length-append start blocks, blocks_length count (startup ++ cycle), two_bytes_lem count) in
        rw n (drop_at start blocks (length start) refl)

    abbrev pads : List ℕ
    pads = replicate (63 * count - length (startup ++ cycle)) 0

    carries : entries (start ++ blocks) last ≡ startup ++ cycle ++ pads
    carries =
        ap (λ (n : ℕ). carried n (covered (start ++ blocks) last)) (two_bytes_lem count)
        ∙ ap (carried count) (covers ∙ sym (append-nil blocks))
        ∙ blocks_carried count (startup ++ cycle) []
        ∙ ap (λ (l : List ℕ). l ++ pads)
        (take_all (63 * count) (startup ++ cycle) (omega (arith, length-append startup cycle)))

    right_count : wrong_count last ≡ false
    right_count = rw (two_bytes_lem count, two_bytes_lem (length startup), two_bytes_lem (length cycle), eq-eqb count count refl)

    from_start : before_start (start ++ blocks) last ≡ false
    from_start = le-ltb (length (start ++ blocks)) (64 * block_count last)
        (omega (arith, length-append start blocks, blocks_length count (startup ++ cycle), two_bytes_lem count))

    one_kind : other_kind (start ++ blocks) last ≡ false
    one_kind = ap not
        (ap (λ (n : ℕ). all_plan n (covered (start ++ blocks) last)) (two_bytes_lem count)
        ∙ ap (all_plan count) (covers ∙ sym (append-nil blocks))
        ∙ blocks_plan count (startup ++ cycle) [])

    zero_pads : nonzero_pad (start ++ blocks) last ≡ false
    zero_pads = ap (λ (l : List ℕ). not (all_zero l))
        (ap (drop (entries_length last)) carries
        ∙ drop_at (startup ++ cycle) pads (entries_length last)
        (omega (arith, length-append startup cycle, two_bytes_lem (length startup), two_bytes_lem (length cycle))))
        ∙ ap not (zeros_zero (63 * count - length (startup ++ cycle)))

    carries_parts : entries (start ++ blocks) last ≡ startup ++ (cycle ++ pads)
    carries_parts = carries ∙ append_assoc startup cycle pads

    is_startup : take (startup_length last) (entries (start ++ blocks) last) ≡ startup
    is_startup = ap (take (startup_length last)) carries_parts ∙ take_at startup (cycle ++ pads) (startup_length last) (sym (two_bytes_lem (length startup)))

    is_cycle : take (cycle_length last) (drop (startup_length last) (entries (start ++ blocks) last)) ≡ cycle
    is_cycle =
        ap (λ (l : List ℕ). take (cycle_length last) (drop (startup_length last) l)) carries_parts
        ∙ ap (take (cycle_length last)) (drop_at startup (cycle ++ pads) (startup_length last) (sym (two_bytes_lem (length startup))))
        ∙ take_at cycle pads (cycle_length last) (sym (two_bytes_lem (length cycle)))

    not_damaged : is_damaged (start ++ blocks) last ≡ false
    not_damaged = rw (right_count, from_start, one_kind, zero_pads)

    read_off : newest_of (start ++ (blocks ++ last)) ≡ plan startup cycle
    read_off =
        ap newest_of (sym (append_assoc start blocks last))
        ∙ newest_of_lem (start ++ blocks) last last_length
        ∙ rw (not_damaged, is_startup, is_cycle)

-- short of the whole, what is written of a plan is cut back again
pub kept_torn_plan : (log startup cycle : List ℕ) (j : ℕ) → j < length (plan_bytes startup cycle) → kept (kept log ++ take j (plan_bytes startup cycle)) ≡ kept log
kept_torn_plan log startup cycle j h = kept_torn log (take j (plan_bytes startup cycle)) (λ i q. torn_kinds startup cycle j i h q)

-- the whole is the newest plan
pub newest_plan : (log startup cycle : List ℕ) → newest (kept log ++ plan_bytes startup cycle) ≡ plan startup cycle
newest_plan log startup cycle =
    ap newest_of
    (kept_whole log (plan_bytes startup cycle) (blocks_for (length startup + length cycle)) (bytes_length startup cycle) (last_kind startup cycle))
    ∙ read_off startup cycle (kept log)
