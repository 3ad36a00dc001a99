-- A log's blocks looked at from the last one back, until one is a trailer.
use Rattle.std.proofs.Common.{◌≡◌, sym, ◌∙◌, ap, ℕ, ◌+◌, ◌-◌, ◌*◌, ◌/◌, ◌%◌, ◌<◌, ◌≤◌, List, ◌++◌, length, take, get_or, arith}
use lib.ListN.{length-append}
use lib.Seq.{length-take-le, take-take, take_at, get_or-take, get_or-append-add}
use Rattle.format.specs.Newest.{blocks_kept, whole_blocks, kept}
use Rattle.format.proofs.CutBack.{kept_trailer, kept_other, kept_length}

module _ (log : List ℕ) where
  -- the whole blocks that end at a place, where no block behind it is a trailer
  pub record Left (rest : List ℕ) (end : ℕ) : Type 0 where
    pub is_front : rest ≡ take end log
    pub whole : end ≡ 64 * (end / 64)
    pub fits : end ≤ length log
    pub same : blocks_kept log (end / 64) ≡ blocks_kept log (whole_blocks log)

  -- the last of them, and what is before it
  module _ (rest front block : List ℕ) (end : ℕ) (left : Left rest end) (cut : rest ≡ front ++ block) (one : length block ≡ 64) where
    parts : take end log ≡ front ++ block
    parts = sym left.is_front ∙ cut

    long : length front + 64 ≡ end
    long = omega (arith, length-append front block, ap length parts, length-take-le end log left.fits, one)

    some : 0 < end / 64
    some = omega (arith, long)

    kind : get_or block 0 0 ≡ get_or log (64 * (end / 64 - 1)) 0
    kind =
        let at : length front + 0 ≡ 64 * (end / 64 - 1) = omega (arith, long, left.whole) in
        sym (get_or-append-add front block 0 0) ∙ ap (λ (l : List ℕ). get_or l (length front + 0) 0) (sym parts)
        ∙ get_or-take end log (length front + 0) 0 (omega (arith, long)) ∙ ap (λ (n : ℕ). get_or log n 0) at

    -- it is a trailer: all of them are kept
    all_kept : get_or block 0 0 ≡ 2 → end ≡ length (kept log)
    all_kept e =
        let n : blocks_kept log (end / 64) ≡ end / 64 = kept_trailer log (end / 64) some (sym kind ∙ e) in
        omega (arith, left.whole, n, left.same, kept_length log)

    -- it is none: one block further back
    one_less : (get_or block 0 0 ≡ 2 → ⊥) → Left front (end - 64)
    one_less e =
        let at : end - 64 ≡ length front = omega (arith, long) in
        let n : (end - 64) / 64 ≡ end / 64 - 1 = omega arith in
        record {
          is_front = sym (take_at front block (end - 64) (sym at)) ∙ ap (take (end - 64)) (sym parts) ∙ take-take (end - 64) end log (omega arith);
          whole = omega (arith, left.whole);
          fits = omega (arith, left.fits);
          same = ap (blocks_kept log) n ∙ kept_other log (end / 64) some (λ t. e (kind ∙ t)) ∙ left.same;
        }

  -- what holds at each turn. The last field follows from the others: with it the check finds the answer at a trailer, however the code tests for one
  pub record Turn (rest : List ℕ) (size end : ℕ) : Type 0 where
    pub is_size : size ≡ 64
    pub is_left : Left rest end
    pub last : (front block : List ℕ) → rest ≡ front ++ block → length block ≡ size → get_or block 0 0 ≡ 2 → end ≡ length (kept log)

  turn : (rest : List ℕ) (size end : ℕ) → size ≡ 64 → Left rest end → Turn rest size end
  turn rest size end e left = record {
    is_size = e;
    is_left = left;
    last = λ front block cut one. all_kept rest front block end left cut (one ∙ e);
  }

  pub first_turn : (rest : List ℕ) (size : ℕ) → rest ≡ take (length log - length log % 64) log → size ≡ 64 → Turn rest size (length log - length log % 64)
  first_turn rest size front e =
      let all : (length log - length log % 64) / 64 ≡ whole_blocks log = omega arith in
      turn rest size (length log - length log % 64) e (record { is_front = front; whole = omega arith; fits = omega arith; same = ap (blocks_kept log) all })

  pub next_turn : (rest front block : List ℕ) (size next end : ℕ) → Turn rest size end → next ≡ size → rest ≡ front ++ block → length block ≡ size
      → (get_or block 0 0 ≡ 2 → ⊥) → Turn front next (end - 64)
  next_turn rest front block size next end t same cut one e =
      turn front next (end - 64) (same ∙ t.is_size) (one_less rest front block end t.is_left cut (one ∙ t.is_size) e)
