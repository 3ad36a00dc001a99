-- Calls over a log: that what is promised leaves one outcome.
use mathlib.Core.Path.{◌≡◌, sym, ap, ◌∙◌}
use mathlib.Core.Bool.{Bool, true, false, cond}
use mathlib.Core.List.{List, ◌++◌}
use Prim.Native.Nat.{ℕ}
use native.Mathlib.Omega.{arith}
use lib.Dec.{ltb}
use lib.ListN.{length, drop}
use Rattle.std.specs.Prelude.{Ok}
use Rattle.packing.specs.Packing as packing
use Rattle.unpacking.specs.Unpacking as unpacking
use Rattle.plan_log.specs.Log.{AppendedAs}
use Rattle.plan_log.proofs.Pinned.{append_pinned, read_pinned}
use Rattle.plan_log.proofs.PowerCut.{used_blocks}
use Rattle.sholakpite.specs.Logs.{append_code, read_code, length_words, AnsweredAppend, NotUnderstood, Understood, AnsweredRead}

-- `sholakpite_append` has one outcome
pub append_call_pinned : (log : List ℕ) (used : ℕ) (startup cycle : List ℕ) (n n' : ℕ) (left left' : List ℕ)
    → AnsweredAppend log used startup cycle n left → AnsweredAppend log used startup cycle n' left' → (n ≡ n') × (left ≡ left')
append_call_pinned log used startup cycle n n' left left' x y =
    let e = append_pinned log used startup cycle x.answer y.answer left left' x.appended y.appended in
    (x.is_code ∙ ap (λ r. append_code (packing.reply r)) e.0 ∙ sym y.is_code, e.1)

-- so many bytes used can't be mistaken for a refusal
pub never_23 : (log : List ℕ) (used : ℕ) (startup cycle : List ℕ) (n : ℕ) (after : List ℕ)
    → AppendedAs log used startup cycle (Ok n) after → n ≡ 23 → ⊥
never_23 log used startup cycle n after h e = omega (arith, e, used_blocks log used startup cycle n after h)

module _ (log startup cycle words : List ℕ) where
  -- `sholakpite_read` has one outcome
  pub read_call_pinned : (n n' : ℕ) (s s' c c' w w' : List ℕ) → AnsweredRead log startup cycle words n s c w
      → AnsweredRead log startup cycle words n' s' c' w' → (n ≡ n') × (s ≡ s') × (c ≡ c') × (w ≡ w')
  read_call_pinned n n' s s' c c' w w' = go (ltb (length words) 2)
    where
      go : (b : Bool) → cond b (NotUnderstood log startup cycle words n s c w) (Understood log startup cycle words n s c w)
          → cond b (NotUnderstood log startup cycle words n' s' c' w') (Understood log startup cycle words n' s' c' w')
          → (n ≡ n') × (s ≡ s') × (c ≡ c') × (w ≡ w')
      go true x y = (x.is_code ∙ sym y.is_code, x.startup_unchanged ∙ sym y.startup_unchanged, x.cycle_unchanged ∙ sym y.cycle_unchanged, x.words_unchanged ∙ sym y.words_unchanged)
      go false x y =
          let e = read_pinned log startup cycle x.answer y.answer s s' c c' x.read_as y.read_as in
          let f : unpacking.reply x.answer ≡ unpacking.reply y.answer = ap unpacking.reply e.0 in (
            x.is_code ∙ ap read_code f ∙ sym y.is_code,
            e.1,
            e.2,
            x.is_written ∙ ap (λ r. length_words r ++ drop (length (length_words r)) words) f ∙ sym y.is_written,
          )
