-- What a plan's length makes of it: it is refused, or laid.
use mathlib.Core.Path.{◌≡◌, refl, ap, ◌∙◌}
use mathlib.Core.List.{List, ◌++◌, append_assoc}
use Prim.Native.Nat.{ℕ, ◌+◌, ◌-◌, ◌*◌, ◌<◌, ◌≤◌}
use borrow.Rule.Slice.PartMut.{put_mid}
use lib.Seq.{drop-drop}
use Rattle.std.proofs.Common.{rules}
use native.Mathlib.Omega.{arith}
use lib.ListN.{length, take, drop}
use Rattle.std.proofs.lemmas.Slice.{take-put_mid, drop-put_mid}
use borrow.Author.Tests.{lt-ltb, le-ltb}
use Rattle.std.specs.Prelude.{Ok, Err}
use Rattle.format.specs.Blocks.{blocks_for, plan_bytes, plan_blocks, trailer}
use Rattle.format.proofs.Carried.{blocks_length}
use Rattle.format.proofs.PowerCut.{bytes_length}
use Rattle.packing.specs.Packing.{bytes, PackedAt}

-- n is the plan's length as it is computed
pub refused_room : (log : List ℕ) (place : ℕ) (startup cycle : List ℕ) (n : ℕ) → n ≡ 64 * blocks_for (length startup + length cycle) + 64 → length log - place < n
    → PackedAt log place startup cycle (Err (record {})) log
refused_room log place startup cycle n is-n h =
    rw (lt-ltb (length log - place) (length (plan_bytes startup cycle)) (omega (arith, is-n, h, bytes_length startup cycle)))
    (record { is_number = refl; unchanged = refl })

-- two parts, one behind the other, as one
laid_both : (log : List ℕ) (place m : ℕ) (front back : List ℕ) → length front ≡ m → place ≤ length log
    → put_mid (place + m) 64 (put_mid place m log front) back ≡ take place log ++ (front ++ back) ++ drop (place + m + 64) log
laid_both log place m front back whole room =
    let before : take (place + m) (put_mid place m log front) ≡ take place log ++ front =
    take-put_mid place m log front (place + m) (omega (arith, whole)) room in
    let behind : drop (place + m) (put_mid place m log front) ≡ drop (place + m) log =
    drop-put_mid place m log front (place + m) (omega arith) room whole in
    rw (before, behind, drop-drop 64 (place + m) log) (search (rules, append_assoc))

-- the plan's blocks and behind them its trailer, where they fit and the lengths are small
pub placed : (log : List ℕ) (place : ℕ) (startup cycle : List ℕ) (count m k n : ℕ) (front back : List ℕ) → count ≡ blocks_for (length startup + length cycle)
    → m ≡ 64 * count → k ≡ 64 → n ≡ 64 * count + 64 → length startup ≤ 65535 → length cycle ≤ 65535 → n ≤ length log - place
    → front ≡ plan_blocks count (startup ++ cycle) → back ≡ trailer count (length startup) (length cycle)
    → PackedAt log place startup cycle (Ok (place + n)) (put_mid (place + 64 * count) k (put_mid place m log front) back)
placed log place startup cycle count m k n front back is-count is-m is-k is-n small small2 room f b =
    let long : n ≡ length (plan_bytes startup cycle) = omega (arith, is-n, is-count, bytes_length startup cycle) in
    let whole : length front ≡ 64 * count = ap length f ∙ blocks_length count (startup ++ cycle) in
    let bytes_are : front ++ back ≡ plan_bytes startup cycle = search (rules, f, b, is-count) in
    let ends : place + 64 * count + 64 ≡ place + length (plan_bytes startup cycle) = omega (arith, is-n, long) in
    rw (
      le-ltb (length log - place) (length (plan_bytes startup cycle)) (rw long at room),
      le-ltb 65535 (length startup) small,
      le-ltb 65535 (length cycle) small2,
    )
    (record {
      is_used = ap (λ (k : ℕ). bytes (place + k)) long;
      log_left = rw (is-m, is-k) (laid_both log place (64 * count) front back whole (omega (arith, room, is-n)) ∙ rw (bytes_are, ends) refl);
    })
